use Rattle.std.proofs.Common.{◌≡◌, ℕ, ◌+◌, ◌-◌, ◌<◌, ◌≤◌, List, length, get_or, sym, ap, ◌∙◌, subst, arith, inl, inr}
use Rattle.std.proofs.lemmas.Bool.{cases_eq}
use Rattle.pr_control.specs.Time.{before, back}
use Rattle.pr_control.proofs.Round.{back_below, back-back, back-before, back-last}
use Rattle.pr_control.proofs.Residence.{nearer}

-- what the loop knows where it stands at d, of places of any kind: R old prev new says what a place becomes
pub record IsTurn {X : Type 0} (away : X) (R : X → X → X → Type 0) (n q d : ℕ) (old mid : List X) : Type 0 where
  pub done : (i : ℕ) → i < n → back n q i < d → R (get_or old i away) (get_or old (before n i) away) (get_or mid i away)
  pub rest : (i : ℕ) → i < n → d ≤ back n q i → get_or mid i away ≡ get_or old i away

pub turn_more : {X : Type 0} (away : X) (R : X → X → X → Type 0) (n q d at from : ℕ) (old mid new : List X) → q < n → d + 1 < n → at ≡ back n q d → from ≡ before n at → IsTurn away R n q d old mid
    → ((j : ℕ) → (j ≡ at → ⊥) → get_or new j away ≡ get_or mid j away) → R (get_or mid at away) (get_or mid from away) (get_or new at away) → IsTurn away R n q (d + 1) old new
turn_more away R n q d at from old mid new hq hd ea ef h others step =
    let bat = back_below n q d hq (omega arith) in
    let bfrom = back_below n q (d + 1) hq hd in
    let far : back n q at ≡ d = ap (back n q) ea ∙ back-back n q d hq (omega arith) in
    let next : from ≡ back n q (d + 1) = ef ∙ (ap (before n) ea ∙ back-before n q d hq hd) in
    let farther : back n q from ≡ d + 1 = ap (back n q) next ∙ back-back n q (d + 1) hq hd in
    let was : get_or mid at away ≡ get_or old at away = h.rest at (omega arith) (omega arith) in
    let wasp : get_or mid from away ≡ get_or old from away = h.rest from (omega arith) (omega arith) in
    let s1 = subst (λ p. R p (get_or mid from away) (get_or new at away)) was step in
    let s2 = subst (λ p. R (get_or old at away) p (get_or new at away)) wasp s1 in
    let s3 = subst (λ j. R (get_or old at away) (get_or old j away) (get_or new at away)) ef s2 in
    let back_only = λ (i : ℕ) (l : i < n) (e : back n q i ≡ d). let r : i ≡ at = sym (back-back n q i hq l) ∙ (ap (back n q) e ∙ sym ea) in r in
    record {
      done = λ i l b. elim (cases_eq i at) [
        | inl e ↦ subst (λ j. R (get_or old j away) (get_or old (before n j) away) (get_or new j away)) (sym e) s3
        | inr ne ↦ subst (λ p. R (get_or old i away) (get_or old (before n i) away) p) (sym (others i ne))
            (h.done i l (elim (cases_eq (back n q i) d) [ inl e ↦ absurd (ne (back_only i l e)) | inr nd ↦ omega arith ]))
      ];
      rest = λ i l b. others i (λ e. let z : back n q i ≡ d = ap (back n q) e ∙ far in omega arith) ∙ h.rest i l (omega arith);
    }

pub all_more : {X : Type 0} (away : X) (P : X → Type 0) (at : ℕ) (mid new : List X) → length new ≡ length mid → ((i : ℕ) → i < length mid → P (get_or mid i away)) → ((j : ℕ) → (j ≡ at → ⊥) → get_or new j away ≡ get_or mid j away) → P (get_or new at away) → (i : ℕ) → i < length new → P (get_or new i away)
all_more away P at mid new e h others here = λ i l. elim (cases_eq i at) [
  | inl q ↦ subst (λ j. P (get_or new j away)) (sym q) here
  | inr ne ↦ subst P (sym (others i ne)) (h i (omega arith))
]

pub turn_end : {X : Type 0} (away : X) (R : X → X → X → Type 0) (n q d : ℕ) (old new : List X) → q < n → n ≤ d + 1 → IsTurn away R n q d old new → (i : ℕ) → i < n → (i ≡ q → ⊥) → R (get_or old i away) (get_or old (before n i) away) (get_or new i away)
turn_end away R n q d old new hq hd h i l ne = h.done i l (let m = nearer n q i hq l ne in omega arith)

back_q : (n q : ℕ) → q < n → back n q q ≡ n - 1
back_q n q h = ap (back n q) (sym (back-last n q h)) ∙ back-back n q (n - 1) h (omega arith)

pub turn_kept : {X : Type 0} (away : X) (R : X → X → X → Type 0) (n q d : ℕ) (old new : List X) → q < n → d < n → IsTurn away R n q d old new → get_or new q away ≡ get_or old q away
turn_kept away R n q d old new hq hd h = h.rest q hq (let e = back_q n q hq in omega arith)
