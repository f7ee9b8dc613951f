-- What each call makes of a machine that stands for a history.
use Rattle.std.proofs.Common.{◌≡◌, ℕ, ◌-◌, ◌<◌, cond, List, [], ◌∷◌, ◌++◌, length, sym, ap, subst, arith}
use Rattle.std.proofs.lemmas.List.{length-map}
use Rattle.pr_machine_account.specs.Account.{Offer, Take, left}
use Rattle.pr_machine_account.specs.Replies.{Accepted, InFull, Given, OutEmpty, given}
use Rattle.pr_conf.specs.declared.configurations.Configuration.{Configuration}
use Rattle.pr_conf.specs.Shape.{Shape}
use Rattle.pr_conf.specs.Configuration.{shape_of, pes_of}
use Rattle.pr_conf.specs.Through.{steps_of, tapped}
use Rattle.pr_queue.specs.Pieces.{Pieces}
use Rattle.pr_machine_refines.specs.Stands.{IsStanding}
use Rattle.pr_machine_refines.proofs.HistoryLaws.{standing_out, accepts, refuses, standing_offered, standing_refused, standing_taken, standing_unready, gives, gives_none}
use Rattle.pr_machine.specs.declared.loaded.Loaded.{Loaded}
use Rattle.pr_machine.specs.Places.{spots_of, rows_of}
use Rattle.pr_machine.specs.Stands.{History, PartsStand, account_of, reply_of}

-- a configuration has a stage, and a machine a stripe
pub some_stages : {N P : ℕ} (conf : Configuration N P) (k : Shape) → shape_of conf ≡ k → 0 < length k.stages
some_stages {N = N} conf k e =
    let n = ap (λ (x : Shape). length x.stages) e in
    let m = length-map conf.stages.items (pes_of {N = N}) in
    omega (arith, conf.some, conf.stages.ok.0)

pub some_stripes : {N P : ℕ} (l : Loaded N P) (p : ℕ) → length l.places.items ≡ p → 0 < p
some_stripes l p e = omega (arith, l.two, l.places.ok.0)

-- the same machine with these queues
abbrev pub StandsWith : {N P : ℕ} → Loaded N P → Shape → ℕ → History → List (List ℕ) → List (List ℕ) → Type 0
StandsWith {N = N} {P = P} l k p h waiting ready =
    IsStanding (steps_of N P k) (tapped N k) (length k.stages) p (spots_of l.places.items) (rows_of l.buffers.store) l.plan.time l.entered l.left waiting ready (account_of k p h)

module _ {N P : ℕ} (l : Loaded N P) (k : Shape) (p : ℕ) (h : History) (st : PartsStand l k p h) where
  hv : 0 < length k.stages
  hv = some_stages l.conf k st.conf

  hp : 0 < p
  hp = some_stripes l p st.stripes

  pub offered : (x : List ℕ) (new : Pieces) → length l.buffers.input.waiting < 16 → new ≡ record l.buffers.input { waiting = l.buffers.input.waiting ++ x ∷ [] } → StandsWith l k p (h ++ Offer x ∷ []) new.waiting l.buffers.output.waiting
  offered x new r e =
      subst (λ w. StandsWith l k p (h ++ Offer x ∷ []) w l.buffers.output.waiting) (sym (ap (λ (q : Pieces). q.waiting) e))
      (standing_offered (steps_of N P k) (tapped N k) (length k.stages) p (spots_of l.places.items) (rows_of l.buffers.store) l.plan.time l.entered l.left l.buffers.input.waiting l.buffers.output.waiting h hv hp st.parts x r)

  pub refused : (x : List ℕ) (new : Pieces) → length l.buffers.input.waiting ≡ 16 → new ≡ l.buffers.input → StandsWith l k p (h ++ Offer x ∷ []) new.waiting l.buffers.output.waiting
  refused x new r e =
      subst (λ w. StandsWith l k p (h ++ Offer x ∷ []) w l.buffers.output.waiting) (sym (ap (λ (q : Pieces). q.waiting) e))
      (standing_refused (steps_of N P k) (tapped N k) (length k.stages) p (spots_of l.places.items) (rows_of l.buffers.store) l.plan.time l.entered l.left l.buffers.input.waiting l.buffers.output.waiting h hv hp st.parts x r)

  pub accepted : (x : List ℕ) → length l.buffers.input.waiting < 16 → Accepted ≡ reply_of N P k p h (Offer x)
  accepted x r = sym (ap (λ b. cond b Accepted InFull) (accepts (steps_of N P k) (tapped N k) (length k.stages) p (spots_of l.places.items) (rows_of l.buffers.store) l.plan.time l.entered l.left l.buffers.input.waiting l.buffers.output.waiting h hv hp st.parts r))

  pub full : (x : List ℕ) → length l.buffers.input.waiting ≡ 16 → InFull ≡ reply_of N P k p h (Offer x)
  full x r = sym (ap (λ b. cond b Accepted InFull) (refuses (steps_of N P k) (tapped N k) (length k.stages) p (spots_of l.places.items) (rows_of l.buffers.store) l.plan.time l.entered l.left l.buffers.input.waiting l.buffers.output.waiting h hv hp st.parts r))

  pub taken : (x : List ℕ) (new : Pieces) → l.buffers.output ≡ record new { waiting = x ∷ new.waiting } → StandsWith l k p (h ++ Take ∷ []) l.buffers.input.waiting new.waiting
  taken x new e =
      standing_taken (steps_of N P k) (tapped N k) (length k.stages) p (spots_of l.places.items) (rows_of l.buffers.store) l.plan.time l.entered l.left l.buffers.input.waiting l.buffers.output.waiting h hv hp st.parts x new.waiting (ap (λ (q : Pieces). q.waiting) e)

  pub unready : (new : Pieces) → l.buffers.output.waiting ≡ [] → new ≡ l.buffers.output → StandsWith l k p (h ++ Take ∷ []) l.buffers.input.waiting new.waiting
  unready new r e =
      subst (StandsWith l k p (h ++ Take ∷ []) l.buffers.input.waiting) (sym (ap (λ (q : Pieces). q.waiting) e))
      (standing_unready (steps_of N P k) (tapped N k) (length k.stages) p (spots_of l.places.items) (rows_of l.buffers.store) l.plan.time l.entered l.left l.buffers.input.waiting l.buffers.output.waiting h hv hp st.parts r)

  pub given_one : (x : List ℕ) (new : Pieces) → l.buffers.output ≡ record new { waiting = x ∷ new.waiting } → Given x ≡ reply_of N P k p h Take
  given_one x new e = sym (ap given (gives (steps_of N P k) (tapped N k) (length k.stages) p (spots_of l.places.items) (rows_of l.buffers.store) l.plan.time l.entered l.left l.buffers.input.waiting l.buffers.output.waiting h hv hp st.parts x new.waiting (ap (λ (q : Pieces). q.waiting) e)))

  pub given_none : l.buffers.output.waiting ≡ [] → OutEmpty ≡ reply_of N P k p h Take
  given_none r = sym (ap given (gives_none (steps_of N P k) (tapped N k) (length k.stages) p (spots_of l.places.items) (rows_of l.buffers.store) l.plan.time l.entered l.left l.buffers.input.waiting l.buffers.output.waiting h hv hp st.parts r))

  pub ready_count : length l.buffers.output.waiting ≡ left (length k.stages) (account_of k p h) - (account_of k p h).taken
  ready_count = standing_out (steps_of N P k) (tapped N k) (length k.stages) p (spots_of l.places.items) (rows_of l.buffers.store) l.plan.time l.entered l.left l.buffers.input.waiting l.buffers.output.waiting h hv hp st.parts
