-- What comes of a loop.
use Rattle.std.proofs.Common.{◌≡◌, ◌∙◌, ◌-◌, ◌+◌, ◌<◌, ◌++◌, ℕ, suc, Bool, List, [], Some, None, Vec, Global, sym, ap, arith}
use Rattle.pr_lang.specs.declared.trees.Fixed.{Fixed}
use Rattle.pr_lang.specs.declared.trees.Stmt as statements
use Rattle.pr_lang.specs.declared.trees.Stmt.{Stmt}
use Rattle.pr_lang.specs.declared.trees.Stmt.TheVariants.{For}
use Rattle.pr_lang.specs.declared.trees.Stmt.TheOpen.{Stmt-F}
use Rattle.pr_lang.specs.declared.trees.Stmt.TheFolds.{fold-roll-Stmt}
use Rattle.pr_lens_extents.specs.declared.verdicts.Verdict.{Verdict}
use Rattle.pr_lens_reach.specs.Extents.{constant}
use Rattle.pr_lens_extents.specs.Verdicts.{all_joined}
use Rattle.pr_lens_extents.specs.Scenes.{Seen, fixed_value, with_stream}
use Rattle.pr_lens_extents.specs.Parameters.{sign_step, stmt_signs, stmts_sign}
use Rattle.pr_lens_extents.specs.Statements.{IsAdded, IsTurned, Outcome, Step, all_blank, bound, in_turn, step_layer, step_of, steps_of, turn, turns}

for_step : (index : List ℕ) (low high : Fixed) (body : Vec Stmt Global) → step_of (For index low high body) ≡ step_layer (statements.map-Stmt Stmt Step step_of (Stmt-F.For index low high body))
unfolding statements.roll-Stmt denote.Hole.Carrier.roll
for_step index low high body = fold-roll-Stmt Step step_layer (Stmt-F.For index low high body)

pub for_blank : (s : Stmt) (index : List ℕ) (low high : Fixed) (body : Vec Stmt Global) (lent : List Stmt) → s ≡ For index low high body → lent ≡ body.items → all_blank (steps_of lent) ≡ (step_of s).blank
for_blank s index low high body lent is all =
    ap (λ (ss : List Stmt). all_blank (steps_of ss)) all ∙ sym (ap (λ (x : Stmt). (step_of x).blank) is ∙ ap (λ (p : Step). p.blank) (for_step index low high body))

for_sign : (index : List ℕ) (low high : Fixed) (body : Vec Stmt Global) (name : List ℕ) (seen : Seen) → stmt_signs (For index low high body) name seen ≡ stmts_sign body.items name seen
unfolding statements.roll-Stmt denote.Hole.Carrier.roll
for_sign index low high body name seen = ap (λ (s : List ℕ → Seen → Bool). s name seen) (fold-roll-Stmt (List ℕ → Seen → Bool) sign_step (Stmt-F.For index low high body))

pub for_signs : (s : Stmt) (index : List ℕ) (low high : Fixed) (body : Vec Stmt Global) (lent : List Stmt) (name : List ℕ) (seen : Seen) → s ≡ For index low high body → lent ≡ body.items → stmts_sign lent name seen ≡ stmt_signs s name seen
for_signs s index low high body lent name seen is all =
    ap (λ (ss : List Stmt). stmts_sign ss name seen) all ∙ sym (ap (λ (x : Stmt). stmt_signs x name seen) is ∙ for_sign index low high body name seen)

abbrev pub loop_outcome : List ℕ → ℕ → ℕ → List Stmt → Seen → Outcome
loop_outcome index from to body seen = turns (to - from) from (turn index (steps_of body)) (record { verdicts = all_blank (steps_of body); seen = seen })

pub for_run : (s : Stmt) (index : List ℕ) (low high : Fixed) (body : Vec Stmt Global) (lent : List Stmt) (seen : Seen) (from to : ℕ) → s ≡ For index low high body → lent ≡ body.items → from ≡ bound (fixed_value low seen) → to ≡ bound (fixed_value high seen) → loop_outcome index from to lent seen ≡ (step_of s).run seen
for_run s index low high body lent seen from to is all begin end =
    (λ i. loop_outcome index (begin i) (end i) (all i) seen)
    ∙ sym (ap (λ (x : Stmt). (step_of x).run seen) is ∙ ap (λ (p : Step). p.run seen) (for_step index low high body))

-- one turn
pub turned : (index : List ℕ) (ss : List Step) (at : ℕ) (seen put after : Seen) (vs new joins : List Verdict) → put ≡ with_stream index None (Some (constant at)) seen → IsAdded (in_turn ss put) [] new after → joins ≡ all_joined vs new → IsTurned (turn index ss at (record { verdicts = vs; seen = seen })) joins after
turned index ss at seen put after vs new joins is added all = record {
  verdicts = all ∙ ap (all_joined vs) (added.verdicts ∙ ap (λ (s : Seen). (in_turn ss s).verdicts) is);
  seen_is = added.seen_is ∙ ap (λ (s : Seen). (in_turn ss s).seen) is;
}

pub turned_is : (o : Outcome) (new : List Verdict) (seen : Seen) → IsTurned o new seen → record { verdicts = new; seen = seen } ≡ o
turned_is o new seen t = λ i. record { verdicts = t.verdicts i; seen = t.seen_is i }

pub turns_next : (f : ℕ → Outcome → Outcome) (to at : ℕ) (o next whole : Outcome) → at < to → next ≡ f at o → turns (to - at) at f o ≡ whole → turns (to - (at + 1)) (at + 1) f next ≡ whole
turns_next f to at o next whole h is rest =
    let more : to - at ≡ suc (to - (at + 1)) = omega (arith, h) in
    ap (turns (to - (at + 1)) (at + 1) f) is ∙ (ap (λ (n : ℕ). turns n at f o) (sym more) ∙ rest)

-- a loop's verdicts are added behind others
pub loop_added : (o whole : Outcome) (all old lent new : List Verdict) (after : Seen) → IsTurned o all after → o ≡ whole → lent ≡ all → new ≡ old ++ lent → IsAdded whole old new after
loop_added o whole all old lent new after t same lent_is new_is = record {
  verdicts = new_is ∙ ap (λ (v : List Verdict). old ++ v) (lent_is ∙ (t.verdicts ∙ ap (λ (p : Outcome). p.verdicts) same));
  seen_is = t.seen_is ∙ ap (λ (p : Outcome). p.seen) same;
}
