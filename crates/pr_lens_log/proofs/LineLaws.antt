-- Lines of cycles and other lines.
use Rattle.std.proofs.Common.{◌≡◌, ◌≢◌, ◌⊎◌, ℕ, true, false, List, [], ◌∷◌, take, get_or, inl, inr, sym, ap, codes, arith, eqb-true, true≢false}
use Rattle.std.specs.Prelude.{nat_eq, slice_get}
use Rattle.std.specs.Cmp.Lexicographic.{pointwise}
use Rattle.std.specs.List.{starts_with}
use Rattle.std.proofs.lemmas.Bool.{and_parts, cases_Bool}
use Rattle.pr_lens_log.specs.declared.lines.Logged.{Logged}
use Rattle.pr_lens_log.specs.declared.lines.LogLine.TheVariants.{Cycle, Result, End}
use Rattle.pr_lens_log.specs.Lines.{HasNoCycle, IsCycleLine, IsEndLine, IsNoLine, IsNoOther, IsResultLine, is_end, is_word_end}
use Rattle.pr_lens_log.specs.Logs.{IsOther}
use Rattle.pr_lens_log.proofs.CycleLaws.{cycle_is, stall_is}

-- ---- the first byte of a line
cycle_first : (line : List ℕ) (logged : Logged) → IsCycleLine line logged → logged.turn.advanced ≡ true → get_or line 0 0 ≡ 99
cycle_first line logged h advanced = ap (λ l. get_or l 0 0) (cycle_is line logged h advanced)

stall_first : (line : List ℕ) (logged : Logged) → IsCycleLine line logged → logged.turn.advanced ≡ false → get_or line 0 0 ≡ 115
stall_first line logged h stalled = ap (λ l. get_or l 0 0) (stall_is line logged h stalled)

-- a cycle's line begins with c or s
first_of_cycle : (line : List ℕ) (logged : Logged) → IsCycleLine line logged → (get_or line 0 0 ≡ 99) ⊎ (get_or line 0 0 ≡ 115)
first_of_cycle line logged h = elim (cases_Bool logged.turn.advanced) [ inl e ↦ inl (cycle_first line logged h e) | inr e ↦ inr (stall_first line logged h e) ]

first_word_end : (line : List ℕ) → is_end line ≡ true → get_or line 0 0 ≡ 101
first_word_end [] e = absurd (true≢false (sym e))
first_word_end (b ∷ bs) e =
    let word = and_parts (starts_with nat_eq (b ∷ bs) (codes "end")) (is_word_end (slice_get (b ∷ bs) 3)) e in
    let first = and_parts (nat_eq 101 b) (pointwise nat_eq (110 ∷ 100 ∷ []) (take 2 bs)) word.0 in
    sym (eqb-true 101 b first.0)

-- an end begins with neither
first_of_end : (line : List ℕ) → IsEndLine line → (get_or line 0 0 ≢ 99) × (get_or line 0 0 ≢ 115)
first_of_end line (inl blank) = let first : get_or line 0 0 ≡ 0 = ap (λ l. get_or l 0 0) blank in ((λ is. omega (arith, first, is)), (λ is. omega (arith, first, is)))
first_of_end line (inr (inl feed)) = ((λ is. omega (arith, feed, is)), (λ is. omega (arith, feed, is)))
first_of_end line (inr (inr end)) = let first = first_word_end line end in ((λ is. omega (arith, first, is)), (λ is. omega (arith, first, is)))

-- ---- other lines
pub result_is_other : (line : List ℕ) → IsResultLine line → IsOther line
result_is_other line r logged h = elim (first_of_cycle line logged h) [ inl e ↦ omega (arith, e, r.high) | inr e ↦ omega (arith, e, r.high) ]

pub end_is_other : (line : List ℕ) → IsEndLine line → IsOther line
end_is_other line e logged h = elim (first_of_cycle line logged h) [ inl c ↦ (first_of_end line e).0 c | inr s ↦ (first_of_end line e).1 s ]

-- ---- lines that tell nothing, by their first byte
pub no_cycle : (line : List ℕ) → get_or line 0 0 ≡ 99 → HasNoCycle true line → IsNoLine line
no_cycle line first none (Cycle logged) told = elim (cases_Bool logged.turn.advanced) [
  | inl e ↦ none logged told e
  | inr e ↦ (let other = stall_first line logged told e in omega (arith, first, other))
]
no_cycle line first none Result told = omega (arith, first, told.high)
no_cycle line first none End told = (first_of_end line told).0 first

pub no_stall : (line : List ℕ) → get_or line 0 0 ≡ 115 → HasNoCycle false line → IsNoLine line
no_stall line first none (Cycle logged) told = elim (cases_Bool logged.turn.advanced) [
  | inl e ↦ (let other = cycle_first line logged told e in omega (arith, first, other))
  | inr e ↦ none logged told e
]
no_stall line first none Result told = omega (arith, first, told.high)
no_stall line first none End told = (first_of_end line told).1 first

pub no_other : (line : List ℕ) → get_or line 0 0 ≢ 99 → get_or line 0 0 ≢ 115 → IsNoOther line → IsNoLine line
no_other line cycle stall none (Cycle logged) told = elim (first_of_cycle line logged told) [ inl c ↦ cycle c | inr s ↦ stall s ]
no_other line cycle stall none Result told = none.result told
no_other line cycle stall none End told = none.end told
