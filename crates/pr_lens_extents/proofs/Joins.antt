-- Verdicts that are joined one after the other.
use Rattle.std.proofs.Common.{◌≡◌, ◌∙◌, ◌+◌, ◌<◌, ◌≤◌, ℕ, zero, suc, List, [], ◌∷◌, ◌++◌, length, take, drop, get_or, set, refl, ap, arith}
use Rattle.std.specs.Prelude.{min}
use Rattle.std.proofs.lemmas.List.{take-append-le, take_all}
use Rattle.pr_lens_extents.specs.declared.verdicts.Verdict.{Verdict}
use Rattle.pr_lens_extents.specs.Verdicts.{all_joined, joined}

-- those from one place on
abbrev pub joined_from : ℕ → List Verdict → List Verdict → List Verdict
joined_from zero vs ws = all_joined vs ws
joined_from (suc n) (v ∷ vs) (w ∷ ws) = v ∷ joined_from n vs ws
joined_from (suc n) vs ws = vs

joined_more : (n : ℕ) (vs ws : List Verdict) (d e : Verdict) → n < length vs → n < length ws → joined_from (suc n) (set vs n (joined (get_or vs n d) (get_or ws n e))) ws ≡ joined_from n vs ws
joined_more zero [] ws d e h k = absurd (omega (arith, h))
joined_more zero (v ∷ vs) [] d e h k = absurd (omega (arith, k))
joined_more zero (v ∷ vs) (w ∷ ws) d e h k = refl
joined_more (suc n) [] ws d e h k = absurd (omega (arith, h))
joined_more (suc n) (v ∷ vs) [] d e h k = absurd (omega (arith, k))
joined_more (suc n) (v ∷ vs) (w ∷ ws) d e h k = ap (λ xs. v ∷ xs) (joined_more n vs ws d e (omega (arith, h)) (omega (arith, k)))

pub joined_next : (n : ℕ) (vs ws : List Verdict) (v d e : Verdict) → n < length vs → n < length ws → v ≡ joined (get_or vs n d) (get_or ws n e) → joined_from (n + 1) (set vs n v) ws ≡ joined_from n vs ws
joined_next n vs ws v d e h k is =
    let next : n + 1 ≡ suc n = omega arith in
    (λ i. joined_from (next i) (set vs n (is i)) ws) ∙ joined_more n vs ws d e h k

pub joined_none : (n : ℕ) (vs ws : List Verdict) → min (length vs) (length ws) ≤ n → joined_from n vs ws ≡ vs
joined_none zero [] ws h = refl
joined_none zero (v ∷ vs) [] h = refl
joined_none zero (v ∷ vs) (w ∷ ws) h = absurd (omega (arith, h))
joined_none (suc n) [] ws h = refl
joined_none (suc n) (v ∷ vs) [] h = refl
joined_none (suc n) (v ∷ vs) (w ∷ ws) h = ap (λ xs. v ∷ xs) (joined_none n vs ws (omega (arith, h)))

-- a list that is written back whole
pub written_back : (n : ℕ) (olds news : List Verdict) → n ≡ length news → take n (news ++ drop (length news) olds) ≡ news
written_back n olds news long =
    take-append-le n news (drop (length news) olds) (omega (arith, long)) ∙ take_all n news (omega (arith, long))
