-- What is known of expressions, and the verdicts on the comparisons in them in the order of the text.
use Rattle.std.specs.Prelude.{ℕ, ◌+◌, Bool, true, false, List, [], ◌∷◌, ◌++◌, Option, Some, None, if◌then◌else◌}
use Rattle.pr_lang.specs.declared.trees.BinOp.{BinOp}
use Rattle.pr_lang.specs.declared.trees.BinOp.TheVariants.{Equal, NotEqual, Less, LessEqual, Greater, GreaterEqual}
use Rattle.pr_lang.specs.declared.trees.Expr.{Expr}
use Rattle.pr_lang.specs.declared.trees.Expr.TheOpen.{Expr-F}
use Rattle.pr_lang.specs.declared.trees.Expr.TheFolds.{fold-Expr}
use Rattle.pr_lens_reach.specs.declared.extents.Extent.{Extent}
use Rattle.pr_lens_extents.specs.declared.verdicts.Verdict.{Verdict}
use Rattle.pr_lens_extents.specs.declared.verdicts.Verdict.TheVariants.{Unseen}
use Rattle.pr_lens_reach.specs.Extents.{beside, binary_of, choice_of, constant, no_parts, not_of, past_of, signed_of, slice_of}
use Rattle.pr_lens_extents.specs.Verdicts.{cut_of, first_said, negative_of, verdict_on}
use Rattle.pr_lens_extents.specs.Scenes.{Seen, fixed_value, known_of_target}
use Rattle.pr_lens_extents.specs.Parameters.{is_signed, signs_at}

abbrev pub compares : BinOp → Bool
compares Equal = true
compares NotEqual = true
compares Less = true
compares LessEqual = true
compares Greater = true
compares GreaterEqual = true
compares o = false

-- what is known of an expression, and the verdicts on its comparisons; they are not looked at where nothing is seen
pub record Reading : Type 0 where
  pub extent : Seen → Option Extent
  pub verdicts : Option Seen → List Verdict

abbrev pub judged : BinOp → Reading → Reading → Option Seen → Verdict
judged o a b None = Unseen
judged o a b (Some seen) = verdict_on o (a.extent seen) (b.extent seen)

-- the sign of a comparison stands between its operands
abbrev pub own_verdict : BinOp → Reading → Reading → Option Seen → List Verdict
own_verdict o a b seen = if compares o then judged o a b seen ∷ [] else []

abbrev pub all_verdicts : List Reading → Option Seen → List Verdict
all_verdicts [] seen = []
all_verdicts (r ∷ rs) seen = r.verdicts seen ++ all_verdicts rs seen

-- ---- calls
abbrev pub argument_verdict : List ℕ → ℕ → Option Extent → Seen → Verdict
argument_verdict function at e seen = if signs_at function at seen then negative_of at e else Unseen

-- the first of the arguments from this one on of which something is said
abbrev pub arguments_verdict : List ℕ → ℕ → List Reading → Seen → Verdict
arguments_verdict function at [] seen = Unseen
arguments_verdict function at (r ∷ rs) seen =
    first_said (argument_verdict function at (r.extent seen) seen) (arguments_verdict function (at + 1) rs seen)

abbrev pub call_verdict : List ℕ → List Reading → Option Seen → Verdict
call_verdict function rs None = Unseen
call_verdict function rs (Some seen) = arguments_verdict function 0 rs seen

-- the name of a function stands before its arguments
abbrev pub call_verdicts : List ℕ → List Reading → Option Seen → List Verdict
call_verdicts function rs seen = call_verdict function rs seen ∷ all_verdicts rs seen

abbrev pub verdicts_step : Expr-F Reading → Option Seen → List Verdict
verdicts_step (Expr-F.Slice e high low) seen = e.value.verdicts seen
verdicts_step (Expr-F.Not e) seen = e.value.verdicts seen
verdicts_step (Expr-F.Binary o a b) seen = (a.value.verdicts seen ++ own_verdict o a.value b.value seen) ++ b.value.verdicts seen
verdicts_step (Expr-F.Choose c a b) seen = (c.value.verdicts seen ++ a.value.verdicts seen) ++ b.value.verdicts seen
verdicts_step (Expr-F.Call name args) seen = call_verdicts name args.items seen
verdicts_step (Expr-F.Cat parts) seen = all_verdicts parts.items seen
verdicts_step (Expr-F.Paren e) seen = e.value.verdicts seen
verdicts_step _ seen = []

-- ---- extents
-- parts beside one another, and what stands above them
abbrev pub parts_beside : Option Extent → List Reading → Seen → Option Extent
parts_beside above [] seen = above
parts_beside above (r ∷ rs) seen = parts_beside (beside above (r.extent seen)) rs seen

abbrev pub concatenated : List Reading → Seen → Option Extent
concatenated rs seen = parts_beside (Some no_parts) rs seen

-- of the functions only `signed` is looked at
abbrev pub called : List ℕ → List Reading → Seen → Option Extent
called name (r ∷ []) seen = if is_signed name then signed_of (r.extent seen) else None
called name _ seen = None

abbrev pub extent_step : Expr-F Reading → Seen → Option Extent
extent_step (Expr-F.Number n) seen = Some (constant n)
extent_step (Expr-F.Refer r) seen = known_of_target r seen
extent_step (Expr-F.Delay r k) seen = past_of (known_of_target r seen)
extent_step (Expr-F.Slice e high low) seen = slice_of (fixed_value high seen) (fixed_value low seen)
extent_step (Expr-F.Not e) seen = not_of (e.value.extent seen)
extent_step (Expr-F.Binary o a b) seen = binary_of o (a.value.extent seen) (b.value.extent seen)
extent_step (Expr-F.Choose c a b) seen = choice_of (a.value.extent seen) (b.value.extent seen)
extent_step (Expr-F.Call name args) seen = called name args.items seen
extent_step (Expr-F.Cat parts) seen = concatenated parts.items seen
extent_step (Expr-F.Paren e) seen = e.value.extent seen

abbrev pub reading_step : Expr-F Reading → Reading
reading_step e = record { extent = extent_step e; verdicts = verdicts_step e }

abbrev pub reading_of : Expr → Reading
reading_of = fold-Expr Reading reading_step

-- the operator outside of all others
abbrev pub outer_step : Expr-F (Option BinOp) → Option BinOp
outer_step (Expr-F.Binary o a b) = Some o
outer_step (Expr-F.Paren e) = e.value
outer_step _ = None

abbrev pub outer_of : Expr → Option BinOp
outer_of = fold-Expr (Option BinOp) outer_step

abbrev pub extent_of : Expr → Seen → Option Extent
extent_of e seen = (reading_of e).extent seen

abbrev pub verdicts_of : Expr → Option Seen → List Verdict
verdicts_of e seen = (reading_of e).verdicts seen

-- ---- what is assigned
abbrev pub width_verdict : ℕ → Expr → Option Seen → Verdict
width_verdict w e None = Unseen
width_verdict w e (Some seen) = cut_of (outer_of e) w (extent_of e seen)

-- a verdict on the declared width where there is one
abbrev pub width_verdicts : Option ℕ → Expr → Option Seen → List Verdict
width_verdicts None e seen = []
width_verdicts (Some w) e seen = width_verdict w e seen ∷ []

-- the declared width stands before the expression
abbrev pub assigned_verdicts : Option ℕ → Expr → Option Seen → List Verdict
assigned_verdicts width e seen = width_verdicts width e seen ++ verdicts_of e seen

-- a recurrence wraps around at its declared width
abbrev pub blank_width : Option ℕ → List Verdict
blank_width None = []
blank_width (Some w) = Unseen ∷ []

abbrev pub repeated_verdicts : Option ℕ → Expr → Option Seen → List Verdict
repeated_verdicts width e seen = blank_width width ++ verdicts_of e seen
