-- The entries of an account stand in the order in which the samples entered: entry number j has j entries before it.
use Rattle.std.proofs.Common.{◌≡◌, ℕ, zero, suc, ◌+◌, ◌-◌, ◌<◌, true, ◌&&◌, ◌||◌, ltb, eqb, List, [], ◌∷◌, ◌++◌, length, get_or, refl, sym, ap, ◌∙◌, subst, arith, inl, inr, Some, slice_get}
use Rattle.std.specs.List.{list_any}
use Rattle.std.proofs.lemmas.Bool.{cases_eq, cases_lt, cases_Bool, cond-true, cond-false, eq-eqb, ne_eqb}
use Rattle.std.proofs.lemmas.List.{length_push}
use Rattle.std.proofs.lemmas.List.Folds.{list_any_at}
use Rattle.std.proofs.lemmas.Option.{slice_get_within, get_or_from_slice_get}
use Rattle.pr_control.specs.Time.{turn}
use Rattle.pr_machine_account.specs.Account.{Account, Event, Offer, Take, Cycle, below, enters, entered, left, stalled, after, start, account_from, account, IsEntries, IsLawful}
use Rattle.pr_machine_account.proofs.AccountLaws.{below_same, lawful_start, lawful_after}

pub record IsNumbered (es : List ℕ) : Type 0 where
  pub number : (j e : ℕ) → slice_get es j ≡ Some e → below e es ≡ j

pub entry_enters : (es : List ℕ) (j e : ℕ) → slice_get es j ≡ Some e → enters e es ≡ true
unfolding enters
entry_enters es j e h = list_any_at (λ x. eqb x e) es j 0 (slice_get_within es j e h) (eq-eqb (get_or es j 0) e (get_or_from_slice_get es j e 0 h))

entry_any : (es : List ℕ) (e : ℕ) → list_any (λ x. eqb x e) es ≡ true → (j : ℕ) × (slice_get es j ≡ Some e)
entry_any [] e h = absurd (let z = h in cc)
entry_any (x ∷ es) e h = elim (cases_eq x e) [
  | inl q ↦ (0, ap Some q)
  | inr ne ↦ (let w = entry_any es e (sym (ap (λ b. b || list_any (λ y. eqb y e) es) (ne_eqb x e ne)) ∙ h) in (suc w.0, w.1))
]

pub enters_entry : (es : List ℕ) (e : ℕ) → enters e es ≡ true → (j : ℕ) × (slice_get es j ≡ Some e)
unfolding enters
enters_entry es e h = entry_any es e h

get_before : {A : Type 0} (xs : List A) (y : A) (j : ℕ) → j < length xs → slice_get (xs ++ y ∷ []) j ≡ slice_get xs j
get_before [] y j h = absurd (omega arith)
get_before (x ∷ xs) y zero h = refl
get_before (x ∷ xs) y (suc j) h = get_before xs y j (omega arith)

get_last : {A : Type 0} (xs : List A) (y : A) → slice_get (xs ++ y ∷ []) (length xs) ≡ Some y
get_last [] y = refl
get_last (x ∷ xs) y = get_last xs y

numbered_push : (v p t : ℕ) (es : List ℕ) → IsEntries v p t es → IsNumbered es → IsNumbered (es ++ t ∷ [])
numbered_push v p t es h n = record {
  number = λ j e g. elim (cases_lt j (length es)) [
    | inl l ↦ (
        let k : slice_get es j ≡ Some e = sym (get_before es t j l) ∙ g in
        let on = entry_enters es j e k in
        elim (cases_lt e t) [
          | inl early ↦ below_same t e es (omega arith) ∙ n.number j e k
          | inr late ↦ absurd (let z = sym on ∙ h.past e late in cc)
        ])
    | inr m ↦ (
        let w = slice_get_within (es ++ t ∷ []) j e g in
        let q : j ≡ length es = (let z = length_push es t in omega arith) in
        let last : Some t ≡ Some e = sym (get_last es t) ∙ (ap (slice_get (es ++ t ∷ [])) (sym q) ∙ g) in
        let same : e ≡ t = (cc) in
        ap (λ x. below x (es ++ t ∷ [])) same ∙ (below_same t t es (omega arith) ∙ (h.total ∙ sym q)))
  ];
}

numbered_entered : {R : Type 0} (v p : ℕ) (a : Account R) → IsEntries v p a.time a.entries → IsNumbered a.entries → IsNumbered (entered v p a)
numbered_entered v p a h n = elim (cases_Bool (turn v p a.time && ltb (length a.entries) (length a.offered))) [
  | inl e ↦ subst IsNumbered (sym (cond-true _ (a.entries ++ a.time ∷ []) a.entries e)) (numbered_push v p a.time a.entries h n)
  | inr e ↦ subst IsNumbered (sym (cond-false _ (a.entries ++ a.time ∷ []) a.entries e)) n
]

numbered_after : {R : Type 0} (v p : ℕ) (a : Account R) (e : Event R) → IsLawful v p a → IsNumbered a.entries → IsNumbered (after v p a e).entries
numbered_after v p a (Offer x) h n = elim (cases_Bool (ltb (length a.offered - length a.entries) 16)) [
  | inl e ↦ subst (λ (b : Account _). IsNumbered b.entries) (sym (cond-true _ (record a { offered = a.offered ++ x ∷ [] }) a e)) n
  | inr e ↦ subst (λ (b : Account _). IsNumbered b.entries) (sym (cond-false _ (record a { offered = a.offered ++ x ∷ [] }) a e)) n
]
numbered_after v p a Take h n = elim (cases_Bool (ltb a.taken (left v a))) [
  | inl e ↦ subst (λ (b : Account _). IsNumbered b.entries) (sym (cond-true _ (record a { taken = a.taken + 1 }) a e)) n
  | inr e ↦ subst (λ (b : Account _). IsNumbered b.entries) (sym (cond-false _ (record a { taken = a.taken + 1 }) a e)) n
]
numbered_after v p a Cycle h n = elim (cases_Bool (stalled v p a)) [
  | inl e ↦ subst (λ (b : Account _). IsNumbered b.entries) (sym (cond-true _ a (record a { entries = entered v p a; time = a.time + 1 }) e)) n
  | inr e ↦ subst (λ (b : Account _). IsNumbered b.entries) (sym (cond-false _ a (record a { entries = entered v p a; time = a.time + 1 }) e)) (numbered_entered v p a h.entries n)
]

numbered_from : {R : Type 0} (v p : ℕ) (a : Account R) (es : List (Event R)) → 0 < v → IsLawful v p a → IsNumbered a.entries → IsNumbered (account_from v p a es).entries
numbered_from v p a [] hv h n = n
numbered_from v p a (e ∷ es) hv h n = numbered_from v p (after v p a e) es hv (lawful_after v p a e hv h) (numbered_after v p a e h n)

pub no_numbers : IsNumbered []
no_numbers = record { number = λ j e g. absurd (let z = slice_get_within [] j e g in omega arith) }

pub numbered : {R : Type 0} (v p : ℕ) (h : List (Event R)) → 0 < v → IsNumbered (account v p h).entries
unfolding account
numbered v p h hv = numbered_from v p start h hv (lawful_start v p) no_numbers
