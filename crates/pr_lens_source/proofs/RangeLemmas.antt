-- One number more of a range.
use Rattle.std.proofs.Common.{◌≡◌, ◌∙◌, ◌+◌, ◌-◌, ◌<◌, ◌≤◌, ◌++◌, ◌∷◌, [], ℕ, zero, suc, Bool, true, false, cond, List, None, Some, refl, ap, arith}
use Rattle.std.specs.Prelude.{find}
use Rattle.std.specs.List.{count_by, range_with_len}
use Rattle.std.proofs.lemmas.List.Sums.{sum_by-cons, sum_by_push}
use Rattle.pr_lens_source.specs.Ranges.{count_between, first_between, last_below, one_where}

pub one_at_most : (b : Bool) → one_where b ≤ 1
one_at_most true = omega arith
one_at_most false = omega arith

pub range_more : (a n : ℕ) → range_with_len a (suc n) ≡ range_with_len a n ++ (a + n) ∷ []
range_more a zero = let same : a ≡ a + 0 = omega arith in ap (λ (k : ℕ). k ∷ []) same
range_more a (suc n) =
    let same : a + 1 + n ≡ a + suc n = omega arith in
    ap (λ (ks : List ℕ). a ∷ ks) (range_more (a + 1) n ∙ ap (λ (k : ℕ). range_with_len (a + 1) n ++ k ∷ []) same)

module _ (test : ℕ → Bool) where
  -- ---- counts
  pub count_over : (from to : ℕ) → to ≤ from → count_between test from to ≡ 0
  unfolding count_between
  count_over from to past = let none : to - from ≡ 0 = omega arith in ap (λ (n : ℕ). count_by test (range_with_len from n)) none

  pub count_none : (from : ℕ) → count_between test from from ≡ 0
  count_none from = count_over from from (omega arith)

  pub count_last : (from at : ℕ) → from ≤ at → count_between test from (at + 1) ≡ count_between test from at + cond (test at) 1 0
  unfolding count_between
  count_last from at order =
      let more : at + 1 - from ≡ suc (at - from) = omega arith in
      let same : from + (at - from) ≡ at = omega arith in
      ap (λ (n : ℕ). count_by test (range_with_len from n)) more
      ∙ (ap (λ (ks : List ℕ). count_by test ks) (range_more from (at - from))
      ∙ (sum_by_push (λ (k : ℕ). cond (test k) 1 0) (range_with_len from (at - from)) (from + (at - from))
      ∙ ap (λ (k : ℕ). count_by test (range_with_len from (at - from)) + cond (test k) 1 0) same))

  pub count_first : (at to : ℕ) → at < to → count_between test at to ≡ cond (test at) 1 0 + count_between test (at + 1) to
  unfolding count_between
  count_first at to less =
      let more : to - at ≡ suc (to - (at + 1)) = omega arith in
      ap (λ (n : ℕ). count_by test (range_with_len at n)) more ∙ sum_by-cons (λ (k : ℕ). cond (test k) 1 0) at (range_with_len (at + 1) (to - (at + 1)))

  -- ---- the first
  pub first_none : (from to : ℕ) → to ≤ from → first_between test from to ≡ None
  unfolding first_between
  first_none from to order = let none : to - from ≡ 0 = omega arith in ap (λ (n : ℕ). find test (range_with_len from n)) none

  pub first_is : (from to : ℕ) → from < to → first_between test from to ≡ cond (test from) (Some from) (first_between test (from + 1) to)
  unfolding first_between
  first_is from to less = let more : to - from ≡ suc (to - (from + 1)) = omega arith in ap (λ (n : ℕ). find test (range_with_len from n)) more

  pub first_here : (from to : ℕ) → from < to → test from ≡ true → first_between test from to ≡ Some from
  first_here from to less holds = first_is from to less ∙ ap (λ (b : Bool). cond b (Some from) (first_between test (from + 1) to)) holds

  pub first_later : (from to : ℕ) → from < to → test from ≡ false → first_between test from to ≡ first_between test (from + 1) to
  first_later from to less fails = first_is from to less ∙ ap (λ (b : Bool). cond b (Some from) (first_between test (from + 1) to)) fails

  -- ---- the last
  pub last_none : (at : ℕ) → at ≤ 0 → last_below test at ≡ None
  unfolding last_below
  last_none zero none = refl
  last_none (suc n) none = absurd (omega arith)

  last_is : (at : ℕ) → 0 < at → last_below test at ≡ cond (test (at - 1)) (Some (at - 1)) (last_below test (at - 1))
  unfolding last_below
  last_is zero some = absurd (omega arith)
  last_is (suc n) some = let same : n ≡ suc n - 1 = omega arith in ap (λ (k : ℕ). cond (test k) (Some k) (last_below test k)) same

  pub last_here : (at : ℕ) → 0 < at → test (at - 1) ≡ true → last_below test at ≡ Some (at - 1)
  last_here at some holds = last_is at some ∙ ap (λ (b : Bool). cond b (Some (at - 1)) (last_below test (at - 1))) holds

  pub last_before : (at : ℕ) → 0 < at → test (at - 1) ≡ false → last_below test at ≡ last_below test (at - 1)
  last_before at some fails = last_is at some ∙ ap (λ (b : Bool). cond b (Some (at - 1)) (last_below test (at - 1))) fails
