-- Items at which answers turn.
use Rattle.std.proofs.Common.{◌≡◌, ◌+◌, ◌-◌, ◌<◌, ◌≤◌, ◌⊎◌, ℕ, inl, inr, subst, arith}
use Rattle.pr_lens_find.specs.Turns.{IsTurn, IsItemWith}

pub item_of_turn : (No Yes : ℕ → Type 0) (items count : ℕ) → IsTurn No Yes 0 items count → IsItemWith No Yes items (count - 1)
item_of_turn No Yes items count turn = record {
  within = omega (arith, turn.within);
  yes = λ _. (let same : count ≡ count - 1 + 1 = omega (arith, turn.above) in subst Yes same turn.yes);
  no = λ _. turn.no;
}

pub item_of_none : (No Yes : ℕ → Type 0) (items : ℕ) → (items ≤ 0) ⊎ No items → IsItemWith No Yes items items
item_of_none No Yes items none = record {
  within = omega arith;
  yes = λ more. absurd (omega (arith, more));
  no = λ some. (elim none [ inl empty ↦ absurd (omega (arith, some, empty)) | inr fails ↦ fails ]);
}

-- what is said of more than none
pub item_of_some : (No Yes : ℕ → Type 0) (items item : ℕ) → IsItemWith (λ k. 0 < k → No k) Yes items item → IsItemWith No Yes items item
item_of_some No Yes items item is = record { within = is.within; yes = is.yes; no = λ some. is.no some some }
