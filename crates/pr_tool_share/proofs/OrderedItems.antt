-- The programs of a list are read in order.
use Rattle.std.proofs.Common.{◌≡◌, ◌≢◌, ◌<◌, ◌∙◌, ℕ, List, Option, Some, slice_get, sym, subst, inl, inr, arith}
use Rattle.std.specs.Prelude.{IsSome}
use Rattle.pr_edge.specs.Files.{IsReadOnce}
use Rattle.pr_tool_share.specs.Entries.{Entry}
use Rattle.pr_tool_modes.specs.Files.{IsInOrder}
use Rattle.pr_tool_modes.proofs.OrderLemmas.{same_name, order_once}
use Rattle.pr_tool_share.specs.Lists.{IsOneProgram}

-- none of the programs before this number is in the file of this name
abbrev pub IsNoneBefore : List Entry → ℕ → List ℕ → Type 0
IsNoneBefore entries number q = (i : ℕ) (entry : Entry) → i < number → slice_get entries i ≡ Some entry → q ≢ entry.program

-- the next program is read
pub order_item : (most : ℕ) (before mid now : List ℕ → Option ℕ) (entries : List Entry) (number : ℕ) (entry : Entry) (q : List ℕ) → slice_get entries number ≡ Some entry
    → (IsNoneBefore entries number q → mid q ≡ before q) → IsInOrder (before q) (mid q)
    → IsReadOnce most (mid entry.program) (now entry.program) → ((p : List ℕ) → p ≢ entry.program → now p ≡ mid p) → IsOneProgram entries q → IsInOrder (before q) (now q)
order_item most before mid now entries number entry q here unread order once others one = elim (same_name q entry.program) [
  | inl e ↦ (let untouched : mid q ≡ before q = unread (λ i x lt is other. let same : i ≡ number = one i number x entry is here other e in absurd (omega (arith, lt, same))) in
      let read = subst (λ (p : List ℕ). IsInOrder (mid p) (now p)) (sym e) (order_once most (mid entry.program) (now entry.program) once) in
      λ none. read (untouched ∙ none))
  | inr ne ↦ λ none. subst (λ (r : Option ℕ). IsSome r) (sym (others q ne)) (order none)
]
