use Rattle.std.proofs.Common.{◌≡◌, ◌+◌, length, arith, ap, sym, ◌∙◌}
use Rattle.std.proofs.lemmas.Result.{IfOk-from_err}
use Rattle.std.proofs.lemmas.List.{length_push}
use Rattle.pr_place.specs.Lists.{pieces}
use Rattle.pr_place.specs.Tables.{kinds_of}
use Rattle.pr_place.proofs.ReaderLemmas.{class_small, class_next}
use Rattle.pr_place.proofs.grouping.classes.Goals as goal

pub loop-group-preserved : goal.loop-group-preserved
loop-group-preserved c =
    let l = c.loop-group in
    let made = c.in_ok-class_of in
    let grown : length c.push.new.self.items ≡ length l.class.items + 1 = ap length c.in_ok-push.ensures.items ∙ length_push l.class.items made.field-0 in
    let before = l.invariant.long in
    record {
      few = made.ensures.few;
      long = omega (arith, grown, before);
      small = class_small l.class.items c.push.new.self.items made.field-0 c.in_ok-push.ensures.items made.ensures.small l.invariant.small;
      kind = class_next l.class.items c.push.new.self.items made.field-0 l.group (kinds_of l.kinds.items) (kinds_of c.class_of.new.classes.items) (pieces c.args.plans.now.cells.starts.items c.args.plans.now.needs.items) c.plan-plan.result.needs.now (length l.kinds.items) (length c.class_of.new.classes.items)
          c.in_ok-push.ensures.items before (sym c.plan-plan.ensures.needs) made.ensures.kind made.ensures.more l.invariant.kind;
    }

pub returns-in_err-class : goal.returns-in_err-class
returns-in_err-class c = let h = c.from_residual.ensures.0 in record { long = IfOk-from_err _ _ h; small = IfOk-from_err _ _ h; alike = IfOk-from_err _ _ h }

pub returns-in_err-class_of : goal.returns-in_err-class_of
returns-in_err-class_of c = let h = c.from_residual-in_err-class_of.ensures.0 in record { long = IfOk-from_err _ _ h; small = IfOk-from_err _ _ h; alike = IfOk-from_err _ _ h }

pub returns-in_err-push : goal.returns-in_err-push
returns-in_err-push c = let h = c.from_residual-in_err-push.ensures.0 in record { long = IfOk-from_err _ _ h; small = IfOk-from_err _ _ h; alike = IfOk-from_err _ _ h }
