-- The checkpoint of a machine, by the configuration that was parked.
use Rattle.std.proofs.Common.{◌≡◌, ◌+◌, ℕ, Result, Ok, Err, IfOk, Vec, subst}
use Rattle.std.specs.declared.alloc.AllocError.{AllocError}
use Rattle.std.specs.declared.alloc.Global.{Global}
use Rattle.pr_conf.specs.Shape.{Shape}
use Rattle.pr_conf.specs.After.{conf_after}
use Rattle.pr_code.specs.Marks.{IsMark}
use Rattle.pr_machine.specs.Stands.{Stands, History, account_of}
use Rattle.pr_run.specs.Turns.{Going}

pub marked : {N P : ℕ} (m : Going N P) (count left : ℕ) (shape : Shape) (result : Result (Vec ℕ Global) AllocError) → left ≡ m.parts.left
    → ((c : Shape) (p : ℕ) (h : History) → Stands m c p h → shape ≡ conf_after N P c (account_of c p h).offered)
    → IfOk result (λ v. IsMark N P (count + left) shape v.items)
    → IfOk result (λ v. (c : Shape) (p : ℕ) (h : History) → Stands m c p h → IsMark N P (count + m.parts.left) (conf_after N P c (account_of c p h).offered) v.items)
marked {N} {P} m count left shape (Ok v) same parked is = λ c p h stands.
    subst (λ (n : ℕ). IsMark N P (count + n) (conf_after N P c (account_of c p h).offered) v.items) same (subst (λ (s : Shape). IsMark N P (count + left) s v.items) (parked c p h stands) is)
marked m count left shape (Err e) same parked is = tt
