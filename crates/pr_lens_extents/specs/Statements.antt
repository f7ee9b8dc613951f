-- What statements make known, and the verdicts on the comparisons and declared widths in them: in a loop those of all its turns.
use Rattle.std.specs.Prelude.{◌≡◌, ℕ, zero, suc, ◌+◌, ◌-◌, List, [], ◌∷◌, ◌++◌, map, Option, Some, None}
use Rattle.std.specs.Option.{unwrap_or}
use Rattle.pr_lang.specs.declared.trees.Expr.{Expr}
use Rattle.pr_lang.specs.declared.trees.Ref.{Ref}
use Rattle.pr_lang.specs.declared.trees.Stmt.{Stmt}
use Rattle.pr_lang.specs.declared.trees.Stmt.TheOpen.{Stmt-F}
use Rattle.pr_lang.specs.declared.trees.Stmt.TheFolds.{fold-Stmt}
use Rattle.pr_lens_extents.specs.declared.verdicts.Verdict.{Verdict}
use Rattle.pr_lens_reach.specs.Extents.{constant, recurrence_of, settled_as}
use Rattle.pr_lens_extents.specs.Verdicts.{all_joined}
use Rattle.pr_lens_extents.specs.Scenes.{Seen, fixed_value, with_stream, with_target}
use Rattle.pr_lens_extents.specs.Expressions.{assigned_verdicts, extent_of, repeated_verdicts}

pub record Outcome : Type 0 where
  pub verdicts : List Verdict
  pub seen : Seen

-- a statement: a verdict for each of its comparisons and declared widths where it is not looked at, and what comes of it
pub record Step : Type 0 where
  pub blank : List Verdict
  pub run : Seen → Outcome

abbrev pub all_blank : List Step → List Verdict
all_blank [] = []
all_blank (s ∷ ss) = s.blank ++ all_blank ss

abbrev pub behind : List Verdict → Outcome → Outcome
behind verdicts o = record { verdicts = verdicts ++ o.verdicts; seen = o.seen }

abbrev pub in_turn : List Step → Seen → Outcome
in_turn [] seen = record { verdicts = []; seen = seen }
in_turn (s ∷ ss) seen = behind (s.run seen).verdicts (in_turn ss (s.run seen).seen)

-- one more turn of a loop
abbrev pub joined_to : Outcome → List Verdict → Outcome
joined_to o verdicts = record { verdicts = all_joined verdicts o.verdicts; seen = o.seen }

abbrev pub turn : List ℕ → List Step → ℕ → Outcome → Outcome
turn index body at o = joined_to (in_turn body (with_stream index None (Some (constant at)) o.seen)) o.verdicts

abbrev pub turns : ℕ → ℕ → (ℕ → Outcome → Outcome) → Outcome → Outcome
turns zero at f o = o
turns (suc k) at f o = turns k (at + 1) f (f at o)

abbrev pub bound : Option ℕ → ℕ
bound n = unwrap_or n 0

abbrev pub let_outcome : Ref → Option ℕ → Expr → Seen → Outcome
let_outcome target width e seen = record {
  verdicts = assigned_verdicts width e (Some seen);
  seen = with_target target (settled_as width (extent_of e seen)) seen;
}

-- the body of a recurrence reads its own past
abbrev pub rec_outcome : Ref → Option ℕ → Expr → Seen → Outcome
rec_outcome target width e seen =
    let own = with_target target (recurrence_of width) seen in
    record { verdicts = repeated_verdicts width e (Some own); seen = own }

abbrev pub run_step : Stmt-F Step → Seen → Outcome
run_step (Stmt-F.Let target width e) seen = let_outcome target width e seen
run_step (Stmt-F.Rec target width init e) seen = rec_outcome target width e seen
run_step (Stmt-F.For index low high body) seen =
    let from = bound (fixed_value low seen) in
    turns (bound (fixed_value high seen) - from) from (turn index body.items) (record { verdicts = all_blank body.items; seen = seen })

abbrev pub blank_step : Stmt-F Step → List Verdict
blank_step (Stmt-F.Let target width e) = assigned_verdicts width e None
blank_step (Stmt-F.Rec target width init e) = repeated_verdicts width e None
blank_step (Stmt-F.For index low high body) = all_blank body.items

abbrev pub step_layer : Stmt-F Step → Step
step_layer s = record { blank = blank_step s; run = run_step s }

abbrev pub step_of : Stmt → Step
step_of = fold-Stmt Step step_layer

abbrev pub steps_of : List Stmt → List Step
steps_of stmts = map step_of stmts

-- an outcome's verdicts are added behind others
pub record IsAdded (o : Outcome) (old new : List Verdict) (seen : Seen) : Type 0 where
  pub verdicts : new ≡ old ++ o.verdicts
  pub seen_is : seen ≡ o.seen

pub record IsTurned (o : Outcome) (new : List Verdict) (seen : Seen) : Type 0 where
  pub verdicts : new ≡ o.verdicts
  pub seen_is : seen ≡ o.seen
