-- Expressions that tell whether an instance is signed.
use Rattle.std.proofs.Common.{◌≡◌, ◌∙◌, ◌+◌, ◌-◌, ◌≤◌, ℕ, Bool, true, false, cond, ◌&&◌, ◌||◌, nat_le, max, List, [], ◌∷◌, length, Option, Some, None, option_map, Result, Ok, refl, ap, arith}
use Rattle.std.specs.Global.{Box}
use Rattle.std.specs.Option.{option_and_then}
use Rattle.std.proofs.lemmas.Bool.{cond-true, le-leb}
use Rattle.std.proofs.lemmas.List.{length-append}
use Rattle.pr_lang.specs.declared.trees.BinOp.{BinOp}
use Rattle.pr_lang.specs.declared.trees.BinOp.TheVariants as binary
use Rattle.pr_lang.specs.declared.trees.Expr as expressions
use Rattle.pr_lang.specs.declared.trees.Expr.{Expr}
use Rattle.pr_lang.specs.declared.trees.Expr.TheVariants.{Binary, Number}
use Rattle.pr_lang.specs.declared.trees.Expr.TheOpen.{Expr-F}
use Rattle.pr_lang.specs.declared.trees.Expr.TheFolds.{fold-roll-Expr}
use Rattle.pr_scope_names.specs.declared.counts.Count.{Count}
use Rattle.pr_scope_names.specs.declared.rules.Offence.{Offence}
use Rattle.pr_scope_names.specs.Names.{Known, Streaming}
use Rattle.pr_scope_names.specs.Outcomes.{and_then}
use Rattle.pr_scope.specs.Expressions.{Reading, is_shift, reading, reading_step, second, walk_of}
use Rattle.pr_flat.specs.declared.equations.Op.TheVariants as op
use Rattle.pr_flat.specs.Forms.{Stream, number_width}
use Rattle.pr_lang_meaning.specs.Streams.{Streams, constant_stream, operate, operated, part, sources}
use Rattle.pr_lang_meaning.specs.Expressions as meant
use Rattle.pr_lang_meaning.specs.Expressions.{Sense, combined, constant_shift, meaning, sense_of, sense_step}
use Rattle.pr_expand_spec.specs.Making.{Equations, Expanded, with_equation}
use Rattle.pr_expand_spec.specs.Expressions as made
use Rattle.pr_expand_spec.specs.Expressions.{ExprPlan, declared_at_operator, declared_else, plan_of, plan_step}
use Rattle.pr_probe.specs.Probes.{KeepsRules, reference, scene}
use Rattle.pr_probe.proofs.References.{plan-is, ref_to}
use Rattle.pr_probe.proofs.Scope.{reference-walked}
use Rattle.pr_probe.proofs.Meaning.{reference-means}
use Rattle.pr_probe.proofs.Equations.{referred-same}
use Rattle.pr_lens_probe.specs.Kinds.{IsWide, TellsKind, is_signed, kind_width}

-- ---- operators and numbers
binary-walked : (o : BinOp) (l r : Box Expr) (known : Known) (streams : Streaming) (c : Count) → walk_of (Binary o l r) known streams scene c ≡ and_then (walk_of l.value known streams scene c) (second (cond (is_shift o) ((reading r.value).amount known) None) (walk_of r.value known streams scene))
unfolding expressions.roll-Expr denote.Hole.Carrier.roll
binary-walked o l r known streams c = ap (λ (r : Reading). r.walk known streams scene c) (fold-roll-Expr Reading reading_step (Expr-F.Binary o l r))

number-read : (n : ℕ) → reading (Number n) ≡ reading_step (Expr-F.Number n)
unfolding expressions.roll-Expr denote.Hole.Carrier.roll
number-read n = fold-roll-Expr Reading reading_step (Expr-F.Number n)

binary-means : (o : BinOp) (l r : Box Expr) (v : meant.Visible) (m : ℕ) (env : Streams) → meaning (Binary o l r) v m (sources m env) ≡ combined m o (constant_shift o ((sense_of r.value).amount v.known)) (meaning l.value v m (sources m env)) (meaning r.value v m (sources m env))
unfolding expressions.roll-Expr denote.Hole.Carrier.roll
binary-means o l r v m env = ap (λ (s : Sense). s.meaning v m (sources m env)) (fold-roll-Expr Sense sense_step (Expr-F.Binary o l r))

number-means : (n : ℕ) → sense_of (Number n) ≡ sense_step (Expr-F.Number n)
unfolding expressions.roll-Expr denote.Hole.Carrier.roll
number-means n = fold-roll-Expr Sense sense_step (Expr-F.Number n)

number-planned : (n : ℕ) → plan_of (Number n) ≡ plan_step (Expr-F.Number n)
unfolding expressions.roll-Expr denote.Hole.Carrier.roll
number-planned n = fold-roll-Expr ExprPlan plan_step (Expr-F.Number n)

-- an operator without declared width has no equation beside its own
binary-assigned : (o : BinOp) (l r : Box Expr) (v : made.Visible) (env : made.Streams) (es : Equations) → made.assigned None (Binary o l r) v env es ≡ made.combined o (constant_shift o ((plan_of r.value).amount v.known)) (plan_of l.value) (plan_of r.value) v env es
unfolding expressions.roll-Expr denote.Hole.Carrier.roll
binary-assigned o l r v env es = ap (λ (p : ExprPlan). declared_else p.is_operator None (declared_at_operator p.is_operator None (p.making v env es))) (fold-roll-Expr ExprPlan plan_step (Expr-F.Binary o l r))

binary-made : (o : BinOp) (l r : Box Expr) (v : made.Visible) (env : made.Streams) (es : Equations) → (plan_of (Binary o l r)).making v env es ≡ made.combined o (constant_shift o ((plan_of r.value).amount v.known)) (plan_of l.value) (plan_of r.value) v env es
unfolding expressions.roll-Expr denote.Hole.Carrier.roll
binary-made o l r v env es = ap (λ (p : ExprPlan). p.making v env es) (fold-roll-Expr ExprPlan plan_step (Expr-F.Binary o l r))

-- ---- widths
zero-wide : number_width 0 ≡ 1
unfolding number_width
zero-wide = refl

abbrev both_width : Bool → ℕ → Bool → ℕ → ℕ
both_width a x b y = cond (a || b) (max (cond a x (x + 1)) (cond b y (y + 1))) (max x y)

both-told : (a : Bool) → both_width a 1 false 1 ≡ kind_width a
both-told true = refl
both-told false = refl

same-either : (a : Bool) (n : ℕ) → cond a n n ≡ n
same-either true n = refl
same-either false n = refl

and-true : (a : Bool) → (a && true) ≡ a
and-true true = refl
and-true false = refl

highest : (w : ℕ) → w ≤ 128 → max 1 (w - 127) ≡ 1
highest w low = omega (arith, low)

pub whole : (s : Stream) → s.form.width ≤ 128 → part (Some s) ≡ Some s
whole s low = cond-true (nat_le s.form.width 128) (Some s) None (le-leb s.form.width 128 low)

-- the highest of 128 bits, of the same kind
shifted-wide : (s : Stream) (m : ℕ) → s.form.width ≤ 128 → (operated m (op.Right 127) (s ∷ [])).form.width ≡ 1
shifted-wide s m low = same-either s.form.signed (max 1 (s.form.width - 127)) ∙ highest s.form.width low

shifted : (s : Stream) (m : ℕ) → s.form.width ≤ 128 → operate m (op.Right 127) (Some s ∷ []) ≡ Some (operated m (op.Right 127) (s ∷ []))
shifted s m low = ap (λ o. option_and_then (λ ss. Some (operated m (op.Right 127) ss)) (option_and_then (λ t. Some (t ∷ [])) o)) (whole s low)

-- beside an unsigned number of 1 bit
beside-zero : (t z : Stream) (m : ℕ) → t.form.width ≡ 1 → z.form.width ≡ 1 → z.form.signed ≡ false → IsWide (kind_width t.form.signed) (operate m op.And (Some t ∷ Some z ∷ []))
beside-zero t z m one same unsigned = record {
  stream = operated m op.And (t ∷ z ∷ []);
  is = ap (λ o. option_and_then (λ ss. Some (operated m op.And ss)) (option_and_then (λ s. option_map (λ ss. s ∷ ss) (option_and_then (λ r. Some (r ∷ [])) (part (Some z)))) o)) (whole t (omega (arith, one)))
      ∙ ap (λ o. option_and_then (λ ss. Some (operated m op.And ss)) (option_map (λ ss. t ∷ ss) (option_and_then (λ r. Some (r ∷ [])) o))) (whole z (omega (arith, same)));
  wide = (λ i. both_width t.form.signed (one i) (unsigned i) (same i)) ∙ both-told t.form.signed;
}

-- ---- the expression
module _ (name : List ℕ) (index : Option ℕ) (top nothing shown amount : Box Expr) (top_is : top.value ≡ Binary binary.Right shown amount) (nothing_is : nothing.value ≡ Number 0) (shown_is : shown.value ≡ reference name index) (amount_is : amount.value ≡ Number 127) where
  keeps : KeepsRules name index (Binary binary.And top nothing)
  keeps known streams c none is =
      let top_walked : walk_of top.value known streams scene c ≡ Ok c =
      ap (λ (e : Expr). walk_of e known streams scene c) top_is
      ∙ (binary-walked binary.Right shown amount known streams c
      ∙ (ap (λ (o : Result Count Offence). and_then o (second ((reading amount.value).amount known) (walk_of amount.value known streams scene))) (ap (λ (e : Expr). walk_of e known streams scene c) shown_is ∙ reference-walked name index known streams c none is)
      ∙ ap (λ (r : Reading). second (r.amount known) (r.walk known streams scene) c) (ap reading amount_is ∙ number-read 127))) in
      binary-walked binary.And top nothing known streams c
      ∙ (ap (λ (o : Result Count Offence). and_then o (walk_of nothing.value known streams scene)) top_walked
      ∙ ap (λ (r : Reading). r.walk known streams scene c) (ap reading nothing_is ∙ number-read 0))

  means : (v : meant.Visible) (m : ℕ) (env : Streams) (s : Stream) → v.known name ≡ None → (sources m env).now name index ≡ Some s → s.form.width ≤ 128 → IsWide (kind_width (is_signed s)) (meaning (Binary binary.And top nothing) v m (sources m env))
  means v m env s none is low =
      let t = operated m (op.Right 127) (s ∷ []) in
      let top_means : meaning top.value v m (sources m env) ≡ Some t =
      ap (λ (e : Expr). meaning e v m (sources m env)) top_is
      ∙ (binary-means binary.Right shown amount v m env
      ∙ (ap (λ (a : Sense). combined m binary.Right (constant_shift binary.Right (a.amount v.known)) (meaning shown.value v m (sources m env)) (a.meaning v m (sources m env))) (ap sense_of amount_is ∙ number-means 127)
      ∙ (ap (λ o. operate m (op.Right 127) (o ∷ [])) (ap (λ (e : Expr). meaning e v m (sources m env)) shown_is ∙ (reference-means name index v m env none ∙ is))
      ∙ shifted s m low))) in
      let all : meaning (Binary binary.And top nothing) v m (sources m env) ≡ operate m op.And (Some t ∷ Some (constant_stream m 0) ∷ []) =
      binary-means binary.And top nothing v m env
      ∙ (ap (λ (a : Sense). combined m binary.And (constant_shift binary.And (a.amount v.known)) (meaning top.value v m (sources m env)) (a.meaning v m (sources m env))) (ap sense_of nothing_is ∙ number-means 0)
      ∙ ap (λ o. operate m op.And (o ∷ Some (constant_stream m 0) ∷ [])) top_means) in
      let told = beside-zero t (constant_stream m 0) m (shifted-wide s m low) zero-wide refl in
      record { stream = told.stream; is = all ∙ told.is; wide = told.wide ∙ ap kind_width (and-true s.form.signed) }

  makes : (v : made.Visible) (env : made.Streams) (es : Equations) → length (made.assigned None (Binary binary.And top nothing) v env es).equations ≡ length es + 2
  makes v env es =
      let known = v.known in
      let first : ((plan_of top.value).making v env es).equations ≡ (with_equation (op.Right 127) (((plan_of shown.value).making v env es).given ∷ []) None ((plan_of shown.value).making v env es).equations).equations =
      ap (λ (e : Expr). ((plan_of e).making v env es).equations) top_is
      ∙ (ap (λ (x : Expanded). x.equations) (binary-made binary.Right shown amount v env es)
      ∙ ap (λ (a : ExprPlan). (made.combined binary.Right (constant_shift binary.Right (a.amount known)) (plan_of shown.value) a v env es).equations) (ap plan_of amount_is ∙ number-planned 127)) in
      let none : ((plan_of shown.value).making v env es).equations ≡ es =
      ap (λ (e : Expr). ((plan_of e).making v env es).equations) shown_is
      ∙ (ap (λ (p : ExprPlan). (p.making v env es).equations) (plan-is (ref_to name index))
      ∙ referred-same (known name) (made.place (ref_to name index) known) (env name (made.place (ref_to name index) known)) es) in
      let one : length ((plan_of top.value).making v env es).equations ≡ length es + 1 = ap length first ∙ (length-append ((plan_of shown.value).making v env es).equations _ ∙ ap (λ (l : Equations). length l + 1) none) in
      let all : (made.assigned None (Binary binary.And top nothing) v env es).equations ≡ (made.apply op.And (made.all_made (plan_of top.value ∷ plan_step (Expr-F.Number 0) ∷ []) v env es)).equations =
      ap (λ (x : Expanded). x.equations) (binary-assigned binary.And top nothing v env es)
      ∙ ap (λ (a : ExprPlan). (made.combined binary.And (constant_shift binary.And (a.amount known)) (plan_of top.value) a v env es).equations) (ap plan_of nothing_is ∙ number-planned 0) in
      ap length all ∙ (length-append ((plan_of top.value).making v env es).equations _ ∙ (ap (λ n. n + 1) one ∙ (let e : length es + 1 + 1 ≡ length es + 2 = omega arith in e)))

  pub tells : TellsKind name index (Binary binary.And top nothing)
  tells = record { keeps = keeps; means = means; makes = makes }
