-- Warnings, token by token.
use Rattle.std.proofs.Common.{◌≡◌, ◌∙◌, ◌+◌, ◌-◌, ◌<◌, ◌≤◌, ◌++◌, ◌∷◌, [], ℕ, suc, true, false, List, Option, None, Some, length, refl, sym, ap, arith, append_assoc, length-append}
use Rattle.std.specs.Prelude.{filter_map, slice_index_or}
use Rattle.std.specs.List.{range_with_len}
use Rattle.std.proofs.lemmas.List.{append-nil}
use Rattle.pr_lang.specs.declared.trees.Program.{Program}
use Rattle.pr_lang.specs.Shape.{program_shape}
use Rattle.pr_lang.specs.Syntax.{IsProgram}
use Rattle.pr_lang.specs.declared.tokens.Token.{Token}
use Rattle.pr_lens_extents.specs.declared.verdicts.Verdict.{Verdict}
use Rattle.pr_lens_extents.specs.declared.verdicts.Verdict.TheVariants.{Unseen}
use Rattle.pr_lens_extents.specs.Programs.{program_verdicts}
use Rattle.pr_lens_warn.specs.Comparisons.{AreVerdicts, is_judged, verdicts_from}

pub none_of : {X : Type 0} (o : Option X) → ((x : X) → o ≡ Some x → ⊥) → o ≡ None
none_of None not = refl
none_of (Some x) not = absurd (not x refl)

module _ {X : Type 0} (h : ℕ → Option X) (n : ℕ) where
  -- those at the tokens from one on
  abbrev pub rest_from : ℕ → List X
  rest_from at = filter_map h (range_with_len at (n - at))

  rest_more : (at : ℕ) → at < n → rest_from at ≡ filter_map h (at ∷ range_with_len (at + 1) (n - (at + 1)))
  rest_more at less = let more : n - at ≡ suc (n - (at + 1)) = omega arith in ap (λ (k : ℕ). filter_map h (range_with_len at k)) more

  pub rest_found : (found whole : List X) (at : ℕ) (x : X) → at < n → h at ≡ Some x → found ++ rest_from at ≡ whole → (found ++ x ∷ []) ++ rest_from (at + 1) ≡ whole
  rest_found found whole at x less is rest =
      append_assoc found (x ∷ []) (rest_from (at + 1))
      ∙ (ap (λ (xs : List X). found ++ xs) (sym (rest_more at less ∙ there)) ∙ rest)
    where
      there : filter_map h (at ∷ range_with_len (at + 1) (n - (at + 1))) ≡ x ∷ rest_from (at + 1)
      there = rw is refl

  pub rest_passed : (found whole : List X) (at : ℕ) → at < n → h at ≡ None → found ++ rest_from at ≡ whole → found ++ rest_from (at + 1) ≡ whole
  rest_passed found whole at less is rest =
      ap (λ (xs : List X). found ++ xs) (sym (rest_more at less ∙ there)) ∙ rest
    where
      there : filter_map h (at ∷ range_with_len (at + 1) (n - (at + 1))) ≡ rest_from (at + 1)
      there = rw is refl

  pub rest_none : (found whole : List X) (at : ℕ) → n ≤ at → found ++ rest_from at ≡ whole → found ≡ whole
  rest_none found whole at past rest =
      let none : n - at ≡ 0 = omega arith in
      sym (append-nil found) ∙ (ap (λ (k : ℕ). found ++ filter_map h (range_with_len at k)) (sym none) ∙ rest)

-- the verdicts of a program are those of its text
pub verdicts_read : (text : List ℕ) (program : Program) (verdicts : List Verdict) → IsProgram text (program_shape program) → verdicts ≡ program_verdicts program → AreVerdicts text verdicts
verdicts_read text program verdicts read are = record { program = Some program; read = read; are = are }

-- ---- verdicts by tokens
pub length_more : (all : List Verdict) (v : Verdict) (n : ℕ) → length all ≡ n → length (all ++ v ∷ []) ≡ n + 1
length_more all v n is = let sum = length-append all (v ∷ []) in omega (arith, sum, is)

module _ (tokens : List Token) (verdicts : List Verdict) where
  -- those of the tokens from one on
  abbrev pub verdicts_rest : ℕ → ℕ → List Verdict
  verdicts_rest at n = verdicts_from tokens verdicts (length tokens - at) at n

  verdicts_more : (at n : ℕ) → at < length tokens → verdicts_rest at n ≡ verdicts_from tokens verdicts (suc (length tokens - (at + 1))) at n
  verdicts_more at n less =
      let more : length tokens - at ≡ suc (length tokens - (at + 1)) = omega (arith, less) in ap (λ (k : ℕ). verdicts_from tokens verdicts k at n) more

  pub verdict_judged : (all whole : List Verdict) (at n : ℕ) (v : Verdict) → at < length tokens → is_judged tokens at ≡ true → v ≡ slice_index_or verdicts n Unseen → all ++ verdicts_rest at n ≡ whole → (all ++ v ∷ []) ++ verdicts_rest (at + 1) (n + 1) ≡ whole
  verdict_judged all whole at n v less judged is rest =
      append_assoc all (v ∷ []) (verdicts_rest (at + 1) (n + 1))
      ∙ (ap (λ (vs : List Verdict). all ++ vs) (ap (λ (x : Verdict). x ∷ verdicts_rest (at + 1) (n + 1)) is ∙ sym (verdicts_more at n less ∙ there)) ∙ rest)
    where
      there : verdicts_from tokens verdicts (suc (length tokens - (at + 1))) at n ≡ slice_index_or verdicts n Unseen ∷ verdicts_rest (at + 1) (n + 1)
      there = rw judged refl

  pub verdict_passed : (all whole : List Verdict) (at n : ℕ) → at < length tokens → is_judged tokens at ≡ false → all ++ verdicts_rest at n ≡ whole → (all ++ Unseen ∷ []) ++ verdicts_rest (at + 1) n ≡ whole
  verdict_passed all whole at n less judged rest =
      append_assoc all (Unseen ∷ []) (verdicts_rest (at + 1) n)
      ∙ (ap (λ (vs : List Verdict). all ++ vs) (sym (verdicts_more at n less ∙ there)) ∙ rest)
    where
      there : verdicts_from tokens verdicts (suc (length tokens - (at + 1))) at n ≡ Unseen ∷ verdicts_rest (at + 1) n
      there = rw judged refl
