-- What holds of each lane of a row that is made item by item.
use Rattle.std.proofs.Common.{◌≡◌, ◌+◌, ◌<◌, ℕ, List, length, get_or, set, inl, inr, get_or-set_same, get_or-set_other, sym, subst, arith}
use Rattle.std.proofs.lemmas.Bool.{cases_eq}

-- one lane more
pub lane_more : {X T : Type 0} (P : ℕ → X → T → Type 0) (xs : List X) (row : List T) (k : ℕ) (v : T) → k < length row → ((d : X) → P k (get_or xs k d) v) → ((e : T) (j : ℕ) (d : X) → j < k → P j (get_or xs j d) (get_or row j e))
    → (e : T) (j : ℕ) (d : X) → j < k + 1 → P j (get_or xs j d) (get_or (set row k v) j e)
lane_more P xs row k v low here before e j d h = elim (cases_eq j k) as (λ _. P j (get_or xs j d) (get_or (set row k v) j e)) [
  | inl same ↦ subst (λ (i : ℕ). P i (get_or xs i d) (get_or (set row k v) i e)) (sym same) (subst (P k (get_or xs k d)) (sym (get_or-set_same row k v e low)) (here d))
  | inr ne ↦ subst (P j (get_or xs j d)) (sym (get_or-set_other row k j v e ne)) (before e j d (omega arith))
]
