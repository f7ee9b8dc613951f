-- The steps of walks.
use Rattle.std.proofs.Common.{◌≡◌, ◌+◌, ◌-◌, ◌<◌, ℕ, suc, true, List, None, map, length, Result, Ok, Err, Vec, Global, refl, sym, ap, subst, arith}
use Rattle.std.proofs.lemmas.List.{length-map}
use Rattle.std.proofs.lemmas.Result.{err_from_is_err_and}
use Rattle.std.specs.Result.{IsErrAnd}
use Rattle.pr_lang.specs.declared.trees.Expr as expressions
use Rattle.pr_lang.specs.declared.trees.Expr.{Expr}
use Rattle.pr_lang.specs.declared.trees.Expr.TheVariants.{Call}
use Rattle.pr_lang.specs.declared.trees.Expr.TheOpen.{Expr-F}
use Rattle.pr_lang.specs.declared.trees.Expr.TheFolds.{fold-roll-Expr}
use Rattle.pr_lang.specs.declared.trees.Stmt.{Stmt}
use Rattle.pr_scope_names.specs.declared.rules.Offence.{Offence}
use Rattle.pr_scope_names.specs.declared.rules.Stop.{Stop}
use Rattle.pr_scope_names.specs.declared.counts.Count.{Count}
use Rattle.pr_scope.specs.declared.expressions.Scene.{Scene}
use Rattle.pr_scope_names.specs.Outcomes.{and_then, Gives, IsOffence}
use Rattle.pr_scope_names.specs.Names.{Known, Streaming}
use Rattle.pr_scope_names.specs.Amounts.{amount_of}
use Rattle.pr_scope_names.proofs.Folds.{amount_kept}
use Rattle.pr_scope.specs.Expressions.{Reading, called, reading, reading_step, walk_of, walks_of}
use Rattle.pr_scope.specs.Walk.{body_walk}
use Rattle.pr_scope.specs.Statements.{Progress, changes_of, turns}

pub reading_amount : (e : Expr) → (reading e).amount ≡ amount_of e
reading_amount = amount_kept Reading reading_step (λ r. r.amount) (λ x. refl)

-- what a walk is at a call
pub call_law : (name : List ℕ) (args : Vec Expr Global) (known : Known) (streams : Streaming) (scene : Scene) (c : Count) → walk_of (Call name args) known streams scene c ≡ and_then (walks_of (map reading args.items) known streams scene c) (called (known name) (length (map reading args.items)) scene)
unfolding expressions.roll-Expr denote.Hole.Carrier.roll
call_law name args known streams scene c = ap (λ (r : Reading). r.walk known streams scene c) (fold-roll-Expr Reading reading_step (Expr-F.Call name args))

pub call_stopped : (known : Known) (streams : Streaming) (scene : Scene) (c : Count) (name : List ℕ) (lent args : List Expr) (o : Offence) → lent ≡ args → Err o ≡ walks_of (map reading lent) known streams scene c → Err o ≡ and_then (walks_of (map reading args) known streams scene c) (called (known name) (length (map reading args)) scene)
call_stopped known streams scene c name lent args o all walked =
    let P : List Expr → Type 0 = λ l. Err o ≡ and_then (walks_of (map reading l) known streams scene c) (called (known name) (length (map reading l)) scene) in
    subst P all (rw (← walked) refl)

pub call_met : (known : Known) (streams : Streaming) (scene : Scene) (c d : Count) (name : List ℕ) (lent args : List Expr) (given : ℕ) (r : Result Count Offence) → lent ≡ args → Ok d ≡ walks_of (map reading lent) known streams scene c → given ≡ length lent → r ≡ called (known name) given scene d → r ≡ and_then (walks_of (map reading args) known streams scene c) (called (known name) (length (map reading args)) scene)
call_met known streams scene c d name lent args given r all walked same is =
    let P : List Expr → Type 0 = λ l. r ≡ and_then (walks_of (map reading l) known streams scene c) (called (known name) (length (map reading l)) scene) in
    subst P all (rw (← walked, length-map lent reading, ← same) is)

-- what ends a step is handed on as it is
pub stopped : {T A : Type 0} (r : Result T Stop) (f : T → A) (o : Result A Offence) (e : Stop) → IsErrAnd r (λ d. d ≡ e) → IsOffence e o → Gives r f o
stopped r f o e is stop = let p = err_from_is_err_and r is in rw (p.1, p.2) stop

-- the next turn of a loop, and the rest of them
pub turns_next : (f : ℕ → Progress → Result Progress Offence) (end at : ℕ) (s : Progress) → at < end → turns (end - at) at f s ≡ and_then (f at s) (turns (end - (at + 1)) (at + 1) f)
turns_next f end at s h =
    let more : end - at ≡ suc (end - (at + 1)) = omega arith in
    rw more refl

-- a function's body, and its result
pub body_met : (body : List Stmt) (value : Expr) (k known : Known) (locals : Streaming) (s : Progress) (r : Result Count Offence) → changes_of body known true (record { streams = locals; count = record { turns = 0; deepest = 0 } }) ≡ Ok s → k ≡ known → r ≡ walk_of value k s.streams (record { own = None; inside = true }) s.count → body_walk body value known locals ≡ r
body_met body value k known locals s r met same is = rw met (rw (← same) (sym is))
