use Rattle.std.proofs.Common.{ℕ, ◌≡◌, true, false, sym, ap, ap₂, refl, ◌+◌, ◌∙◌, arith}
use Rattle.pr_flat.specs.declared.equations.Op.{Op}
use Rattle.pr_flat.specs.Facts.{is_rec}
use Rattle.pr_flat.specs.Shape.{equation_shape, shapes_of}
use Rattle.pr_cut_plan.proofs.EquationLemmas.{read_at, own_at, is_plain, plain_count, plain_op}
use Rattle.pr_cut_plan.proofs.equations.own_count.Goals as goal

pub body_count-requires-clause-args : goal.body_count-requires-clause-args
body_count-requires-clause-args c = let r = read_at c.args.flat.now.equations.items c.args.flat.now.outputs.items c.args.widths.now c.args.i c.index-equation.result.now c.args.flat.now.lawful c.requires.widths (omega (arith, c.args.flat.now.equations.ok.0)) c.index-equation.ensures in omega (arith, r.args, c.index-equation.result.now.args.ok.0)

pub body_count-requires-clause-kinds : goal.body_count-requires-clause-kinds
body_count-requires-clause-kinds c = let r = read_at c.args.flat.now.equations.items c.args.flat.now.outputs.items c.args.widths.now c.args.i c.index-equation.result.now c.args.flat.now.lawful c.requires.widths (omega (arith, c.args.flat.now.equations.ok.0)) c.index-equation.ensures in omega (arith, r.kinds, c.index-equation.result.now.kinds.ok.0)

pub body_count-requires-clause-within : goal.body_count-requires-clause-within
body_count-requires-clause-within c = (read_at c.args.flat.now.equations.items c.args.flat.now.outputs.items c.args.widths.now c.args.i c.index-equation.result.now c.args.flat.now.lawful c.requires.widths (omega (arith, c.args.flat.now.equations.ok.0)) c.index-equation.ensures).within

not_rec : (op : Op) → is_plain op ≡ true → is_rec op ≡ false
not_rec Op.Input h = refl
not_rec (Op.Rec init first) h = cc
not_rec op h = refl

pub operator_count-requires : goal.operator_count-requires
operator_count-requires c =
    let r = read_at c.args.flat.now.equations.items c.args.flat.now.outputs.items c.args.widths.now c.args.i c.index-equation.result.now c.args.flat.now.lawful c.requires.widths (omega (arith, c.args.flat.now.equations.ok.0)) c.index-equation.ensures in
    let plain : is_plain c.index-equation.result.now.op ≡ true = plain_op c.index-equation.result.now.op c.in_default.not-Input c.in_default.not-Delay c.in_default.not-Rec in
    record {
      w = r.few;
      args = omega (arith, r.args, c.index-equation.result.now.args.ok.0);
      kinds = omega (arith, r.kinds, c.index-equation.result.now.kinds.ok.0);
      within = r.within;
      forms = r.forms;
      takes = r.takes (not_rec c.index-equation.result.now.op plain);
      ends = r.ends;
    }

pub returns-in-Input-clause-is : goal.returns-in-Input-clause-is
returns-in-Input-clause-is c = let r = read_at c.args.flat.now.equations.items c.args.flat.now.outputs.items c.args.widths.now c.args.i c.index-equation.result.now c.args.flat.now.lawful c.requires.widths (omega (arith, c.args.flat.now.equations.ok.0)) c.index-equation.ensures in own_at (shapes_of c.args.flat.now.equations.items) c.args.widths.now c.args.i 0 (equation_shape c.index-equation.result.now) Op.Input r.there c.in-Input.is refl

pub returns-in-Delay-clause-is : goal.returns-in-Delay-clause-is
returns-in-Delay-clause-is c = let r = read_at c.args.flat.now.equations.items c.args.flat.now.outputs.items c.args.widths.now c.args.i c.index-equation.result.now c.args.flat.now.lawful c.requires.widths (omega (arith, c.args.flat.now.equations.ok.0)) c.index-equation.ensures in own_at (shapes_of c.args.flat.now.equations.items) c.args.widths.now c.args.i 1 (equation_shape c.index-equation.result.now) _ r.there c.in-Delay.is refl

pub returns-in-Rec-clause-is : goal.returns-in-Rec-clause-is
returns-in-Rec-clause-is c =
    let r = read_at c.args.flat.now.equations.items c.args.flat.now.outputs.items c.args.widths.now c.args.i c.index-equation.result.now c.args.flat.now.lawful c.requires.widths (omega (arith, c.args.flat.now.equations.ok.0)) c.index-equation.ensures in
    own_at (shapes_of c.args.flat.now.equations.items) c.args.widths.now c.args.i (c.from.result + c.from-in-Rec.result) (equation_shape c.index-equation.result.now) _ r.there c.in-Rec.is
    (ap₂ (λ (x y : ℕ). x + y) (c.from.ensures ∙ c.body_count.ensures.is) (c.from-in-Rec.ensures ∙ c.requires.holds (equation_shape c.index-equation.result.now) r.there (ap is_rec c.in-Rec.is)))

pub returns-in_default : goal.returns-in_default
returns-in_default c =
    let x = c.index-equation.result.now in
    let r = read_at c.args.flat.now.equations.items c.args.flat.now.outputs.items c.args.widths.now c.args.i x c.args.flat.now.lawful c.requires.widths (omega (arith, c.args.flat.now.equations.ok.0)) c.index-equation.ensures in
    let plain : is_plain x.op ≡ true = plain_op x.op c.in_default.not-Input c.in_default.not-Delay c.in_default.not-Rec in
    let few = c.operator_count.ensures.few in
    record {
      is = own_at (shapes_of c.args.flat.now.equations.items) c.args.widths.now c.args.i c.from-in_default.result (equation_shape x) x.op r.there refl
          (c.from-in_default.ensures ∙ c.operator_count.ensures.is ∙ sym (plain_count (shapes_of c.args.flat.now.equations.items) c.args.widths.now c.args.i (equation_shape x) x.op plain));
      few = omega (arith, few, c.from-in_default.ensures);
    }
