-- The item in which a token stands.
use Rattle.std.proofs.Common.{◌≡◌, ◌∙◌, ℕ, Bool, None, Some, List, Option, length, unwrap_or, get_or, position, nat_le, refl, sym, inl, inr, arith}
use Rattle.std.specs.List.{position_or_len}
use Rattle.std.proofs.lemmas.Bool.{cases_lt, cond_below, cond_above, leb-true, leb-false}
use Rattle.std.proofs.lemmas.List.Sums.{fails_before_first, passes_at_first}
use Rattle.pr_lens_source.specs.declared.sources.Span.{Span}
use Rattle.pr_lens_source.specs.Spans.{IsItemAt}

abbrev ends_from : ℕ → Span → Bool
ends_from token span = nat_le token span.last

-- the first item that does not end before a token is the one in which it stands
pub item_at : (spans : List Span) (token : ℕ) (o : Option ℕ) → o ≡ position (λ (s : Span). nat_le token s.last) spans → IsItemAt spans token (unwrap_or o (length spans))
item_at spans token o is = elim (cases_lt (position_or_len (ends_from token) spans) (length spans)) [
  | inl within ↦ (
      let n : ℕ = position_or_len (ends_from token) spans in
      let at : o ≡ Some n = is ∙ sym (cond_below n (length spans) (Some n) None within) in
      rw at (record {
        within = omega (arith, within);
        before = λ k d _ less. leb-false token (get_or spans k d).last (fails_before_first (ends_from token) spans k d less);
        here = λ _ d. leb-true token (get_or spans n d).last (passes_at_first (ends_from token) spans d within);
      }))
  | inr none ↦ (
      let n : ℕ = position_or_len (ends_from token) spans in
      let at : o ≡ None = is ∙ sym (cond_above n (length spans) (Some n) None None none refl) in
      rw at (record {
        within = omega arith;
        before = λ k d _ less. leb-false token (get_or spans k d).last (fails_before_first (ends_from token) spans k d (omega (arith, less, none)));
        here = λ more. absurd (omega (arith, more));
      }))
]
