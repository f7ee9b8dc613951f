-- The machine was asked one event more, and the sink has its lines.
use Rattle.std.proofs.Common.{◌≡◌, ℕ, ◌+◌, ◌-◌, ◌≤◌, Bool, true, cond, List, [], ◌∷◌, ◌++◌, length, take, replicate, Option, Some, None, refl, sym, ap, ◌∙◌, arith, append_assoc, append-nil, inl, inr, IfSome, IsSome}
use Rattle.std.proofs.Math.Seq.{take-append-add}
use Rattle.std.proofs.lemmas.Bool.{cases_lt}
use Rattle.std.proofs.lemmas.List.{replicate-append-replicate, replicate_more, take-append-le, take_all}
use Rattle.pr_edge.specs.Tape.{Tape, IsAppended, Appends, AppendsFront}
use Rattle.pr_edge.proofs.Appending.{Appends-append}
use Rattle.pr_machine_account.specs.Account.{Event, Offer, Take, Cycle}
use Rattle.pr_machine_account.specs.Replies.{Reply, Given, given, taken_now}
use Rattle.pr_conf.specs.Shape.{Shape}
use Rattle.pr_conf.specs.Through.{steps_of, tapped}
use Rattle.pr_machine.specs.Stands.{Stands, History, take_reply, account_of, IsKept}
use Rattle.pr_run_script.specs.Counts.{IsPrefix}
use Rattle.pr_run_script.specs.Text.{history_lines, event_lines, result_line, result_lines, log_line, text_of}
use Rattle.pr_run_script.proofs.TextLaws.{text-append, history_lines-append}
use Rattle.pr_run_script.proofs.WholeLaws.{front_self, front_trans}
use Rattle.pr_run.specs.Setting.{Setting, stages_of}
use Rattle.pr_run.specs.Turns.{Going, HasDone, HasBegun}

-- ---- the text of one event more
text_push : (N P : ℕ) (log : Bool) (c : Shape) (p : ℕ) (h : History) (e : Event (List ℕ))
    → text_of log (history_lines N P c p (h ++ e ∷ [])) ≡ text_of log (history_lines N P c p h) ++ text_of log (event_lines N P c p (account_of c p h) e)
text_push N P log c p h e =
    let lines = event_lines N P c p (account_of c p h) e in
    ap (text_of log) (history_lines-append N P c p h (e ∷ []))
    ∙ (text-append log (history_lines N P c p h) (lines ++ [])
    ∙ ap (λ ls. text_of log (history_lines N P c p h) ++ text_of log ls) (append-nil lines))

pub text_offer : (N P : ℕ) (log : Bool) (c : Shape) (p : ℕ) (h : History) (x : List ℕ) → text_of log (history_lines N P c p (h ++ Offer x ∷ [])) ≡ text_of log (history_lines N P c p h)
text_offer N P log c p h x = text_push N P log c p h (Offer x) ∙ append-nil (text_of log (history_lines N P c p h))

pub text_take : (N P : ℕ) (log : Bool) (c : Shape) (p : ℕ) (h : History) (bytes : List ℕ) → taken_now (steps_of N P c) (length c.stages) (tapped N c) (account_of c p h) ≡ Some bytes
    → text_of log (history_lines N P c p (h ++ Take ∷ [])) ≡ text_of log (history_lines N P c p h) ++ result_line c bytes
text_take N P log c p h bytes e =
    text_push N P log c p h Take
    ∙ (ap (λ o. text_of log (history_lines N P c p h) ++ text_of log (result_lines c o)) e
    ∙ ap (λ ls. text_of log (history_lines N P c p h) ++ ls) (append-nil (result_line c bytes)))

pub text_cycle : (N P : ℕ) (log : Bool) (c : Shape) (p : ℕ) (h : History)
    → text_of log (history_lines N P c p (h ++ Cycle ∷ [])) ≡ text_of log (history_lines N P c p h) ++ cond log (log_line N P c p (account_of c p h)) []
text_cycle N P log c p h =
    text_push N P log c p h Cycle ∙ ap (λ ls. text_of log (history_lines N P c p h) ++ ls) (append-nil (cond log (log_line N P c p (account_of c p h)) []))

-- ---- pieces of a text
pub front_after : (a b c : Tape) (p q : List ℕ) → Appends a b p → AppendsFront b c q → AppendsFront a c (p ++ q)
front_after a b c p q h (k, g) = (length p + k, rw (take-append-add p q k) (Appends-append a b c p (take k q) h g))

-- a text of which some first bytes were written begins a longer one
pub front_longer : (a b : Tape) (p q : List ℕ) → AppendsFront a b p → (n : ℕ) × Appends a b (take n (p ++ q))
front_longer a b p q (k, h) = elim (cases_lt k (length p)) [
  | inl less ↦ (k, rw (take-append-le k p q (omega (arith, less))) h)
  | inr more ↦ (length p, rw (take-append-le (length p) p q (omega arith), take_all (length p) p (omega arith)) (rw (take_all k p more) at h))
]

-- ---- one event
pub done_offer : {N P : ℕ} (s : Setting) (m m' : Going N P) (t : Tape) (h : History) (x : List ℕ) → HasDone s m t h → Stands m' s.conf s.stripes (h ++ Offer x ∷ []) → HasDone s m' t (h ++ Offer x ∷ [])
done_offer {N} {P} s m m' t h x d stands = record { stands = stands; text = rw (text_offer N P s.log s.conf s.stripes h x) d.text }

-- a take was answered with these bytes
pub taken_bytes : (o : Option (List ℕ)) (bytes : List ℕ) → take_reply true bytes ≡ given o → o ≡ Some bytes
taken_bytes None bytes e = absurd (cc)
taken_bytes (Some x) bytes e = ap (λ y. Some y) (given_same x bytes (sym e))
  where
    bytes_in : Reply (List ℕ) → List ℕ
    bytes_in (Given y) = y
    bytes_in other = []

    given_same : (x y : List ℕ) → Given x ≡ Given y → x ≡ y
    given_same x y e = ap bytes_in e

pub done_take : {N P : ℕ} (s : Setting) (m m' : Going N P) (t t' : Tape) (h : History) (bytes : List ℕ) → HasDone s m t h → Stands m' s.conf s.stripes (h ++ Take ∷ [])
    → taken_now (steps_of N P s.conf) (stages_of s) (tapped N s.conf) (account_of s.conf s.stripes h) ≡ Some bytes → Appends t t' (result_line s.conf bytes) → HasDone s m' t' (h ++ Take ∷ [])
done_take {N} {P} s m m' t t' h bytes d stands e line = record {
  stands = stands;
  text = rw (text_take N P s.log s.conf s.stripes h bytes e) (Appends-append s.tape t t' _ _ d.text line);
}

pub begun_take : {N P : ℕ} (s : Setting) (m m' : Going N P) (t t' : Tape) (h : History) (bytes : List ℕ) → HasDone s m t h → Stands m' s.conf s.stripes (h ++ Take ∷ [])
    → taken_now (steps_of N P s.conf) (stages_of s) (tapped N s.conf) (account_of s.conf s.stripes h) ≡ Some bytes → AppendsFront t t' (result_line s.conf bytes) → HasBegun s m' t' (h ++ Take ∷ [])
begun_take {N} {P} s m m' t t' h bytes d stands e line = record {
  history = h ++ Take ∷ [];
  front = front_self (h ++ Take ∷ []);
  stands = stands;
  text = rw (text_take N P s.log s.conf s.stripes h bytes e) (front_after s.tape t t' _ _ d.text line);
}

pub done_cycle : {N P : ℕ} (s : Setting) (m m' : Going N P) (t t' : Tape) (h : History) (line : List ℕ) → HasDone s m t h → Stands m' s.conf s.stripes (h ++ Cycle ∷ [])
    → cond s.log (log_line N P s.conf s.stripes (account_of s.conf s.stripes h)) [] ≡ line → Appends t t' line → HasDone s m' t' (h ++ Cycle ∷ [])
done_cycle {N} {P} s m m' t t' h line d stands e more = record {
  stands = stands;
  text = rw (text_cycle N P s.log s.conf s.stripes h, e) (Appends-append s.tape t t' _ _ d.text more);
}

pub begun_cycle : {N P : ℕ} (s : Setting) (m m' : Going N P) (t t' : Tape) (h : History) (line : List ℕ) → HasDone s m t h → Stands m' s.conf s.stripes (h ++ Cycle ∷ [])
    → cond s.log (log_line N P s.conf s.stripes (account_of s.conf s.stripes h)) [] ≡ line → AppendsFront t t' line → HasBegun s m' t' (h ++ Cycle ∷ [])
begun_cycle {N} {P} s m m' t t' h line d stands e more = record {
  history = h ++ Cycle ∷ [];
  front = front_self (h ++ Cycle ∷ []);
  stands = stands;
  text = rw (text_cycle N P s.log s.conf s.stripes h, e) (front_after s.tape t t' _ _ d.text more);
}

-- ---- takes one after the other
pub takes_more : (h : History) (n : ℕ) → (h ++ replicate n Take) ++ Take ∷ [] ≡ h ++ replicate (n + 1) Take
takes_more h n = append_assoc h (replicate n Take) (Take ∷ []) ∙ ap (λ es. h ++ es) (replicate_more n Take)

pub takes_front : (h : History) (n m : ℕ) → n ≤ m → IsPrefix (h ++ replicate n Take) (h ++ replicate m Take)
takes_front h n m few =
    let more : n + (m - n) ≡ m = omega arith in
    record {
      more = replicate (m - n) Take;
      is = ap (λ k. h ++ replicate k Take) (sym more) ∙ (ap (λ es. h ++ es) (sym (replicate-append-replicate n (m - n) Take)) ∙ sym (append_assoc h (replicate n Take) (replicate (m - n) Take)));
    }

pub begun_within : {N P : ℕ} (s : Setting) (m : Going N P) (t : Tape) (part whole : History) → HasBegun s m t part → IsPrefix part whole → HasBegun s m t whole
begun_within s m t part whole b f = record { history = b.history; front = front_trans b.history part whole b.front f; stands = b.stands; text = b.text }

pub kept_on : {N P : ℕ} (a b c : Going N P) → IsKept a b → IsKept b c → IsKept a c
kept_on a b c h g = record { conf = g.conf ∙ h.conf; places = g.places ∙ h.places; store = g.store ∙ h.store; plan = g.plan ∙ h.plan; entered = g.entered ∙ h.entered; left = g.left ∙ h.left }

pub nothing_appended : (a : Tape) → Appends a a []
nothing_appended a = record { appended = none a.bytes; told = still a.bytes a.keeps; same = refl }
  where
    none : (o : Option (List ℕ)) → IsAppended o o []
    none None = tt
    none (Some x) = sym (append-nil x)

    still : (o : Option (List ℕ)) (n : ℕ) → IfSome o (λ x. length x + 0 ≤ n → IsSome o)
    still None n = tt
    still (Some x) n = λ h. refl
