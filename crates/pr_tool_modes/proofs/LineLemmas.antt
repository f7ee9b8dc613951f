-- Lines, number by number.
use Rattle.std.proofs.Common.{◌≡◌, ◌+◌, ◌<◌, ℕ, Bool, nat_lt, List, ◌∷◌, ◌++◌, length, drop, get_or, decimal, add-one, drop-cons, append_assoc, sym, ap, ◌∙◌, if◌then◌else◌}
use Rattle.pr_samples.specs.Results.{rest_line}
use Rattle.pr_samples.proofs.ResultLemmas.{rest_line-cons, begun_after}

pub number_put : (text new whole numbers : List ℕ) (i : ℕ) → i < length numbers → text ++ rest_line (nat_lt 0 i) (drop i numbers) ≡ whole
    → new ≡ text ++ (if nat_lt 0 i then 32 ∷ decimal (get_or numbers i 0) else decimal (get_or numbers i 0)) → new ++ rest_line (nat_lt 0 (i + 1)) (drop (i + 1) numbers) ≡ whole
number_put text new whole numbers i below h put =
    let n = get_or numbers i 0 in
    let piece : List ℕ = if nat_lt 0 i then 32 ∷ decimal n else decimal n in
    let rest = drop (i + 1) numbers in
    let here : drop i numbers ≡ n ∷ rest = drop-cons numbers i 0 below ∙ ap (λ (k : ℕ). n ∷ drop k numbers) (sym (add-one i)) in
    ap (λ (x : List ℕ). x ++ rest_line (nat_lt 0 (i + 1)) rest) put
    ∙ (append_assoc text piece (rest_line (nat_lt 0 (i + 1)) rest)
    ∙ (ap (λ (b : Bool). text ++ (piece ++ rest_line b rest)) (begun_after i)
    ∙ (ap (λ (x : List ℕ). text ++ x) (sym (ap (rest_line (nat_lt 0 i)) here ∙ rest_line-cons (nat_lt 0 i) n rest))
    ∙ h)))
