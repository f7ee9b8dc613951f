-- The rounds of programs that take turns.
use Rattle.std.proofs.Common.{◌≡◌, ℕ, zero, suc, ◌+◌, ◌*◌, ◌<◌, ◌≤◌, eqb, Bool, true, false, cond, List, [], ◌∷◌, ◌++◌, length, take, drop, Some, slice_get, refl, sym, ap, ap₂, ◌∙◌, subst, arith, append_assoc, append-nil, eq-eqb}
use Rattle.std.specs.List.{flat_map, sum_by}
use Rattle.std.proofs.Math.Nat.{mul-le-mul_left}
use Rattle.std.proofs.Math.Seq.{take-add}
use Rattle.std.proofs.lemmas.Bool.{ne_eqb}
use Rattle.std.proofs.lemmas.Grind.{flat_map-append}
use Rattle.std.proofs.lemmas.List.{take_all}
use Rattle.std.proofs.lemmas.List.Sums.{sum_by-cons}
use Rattle.pr_base.specs.Rows.{row_line, written}
use Rattle.pr_samples.specs.Lines.{lines_of}
use Rattle.pr_share_text.specs.Text.{Part, marked, rows_in, round_from, rounds, share_text, lines_of_program, HaveQuotas}
use Rattle.pr_share_text.proofs.LineLaws.{shown, marked_shown}

-- ---- one round
-- the programs after program k write nothing of it
round_after : (k r j : ℕ) (parts : List Part) (rest : List ℕ) → k < j → lines_of_program k (round_from r j parts ++ rest) ≡ lines_of_program k rest
round_after k r j [] rest h = refl
round_after k r j (part ∷ parts) rest h =
    ap (lines_of_program k) (append_assoc (marked j (rows_in r part)) (round_from r (j + 1) parts) rest)
    ∙ (marked_shown k j (rows_in r part) (round_from r (j + 1) parts ++ rest)
    ∙ (ap (λ b. cond b (written (rows_in r part)) [] ++ lines_of_program k (round_from r (j + 1) parts ++ rest)) (ne_eqb k j (λ e. absurd (omega arith)))
    ∙ round_after k r (j + 1) parts rest (omega arith)))

round_shown : (k r j i : ℕ) (parts : List Part) (part : Part) (rest : List ℕ) → slice_get parts i ≡ Some part → k ≡ j + i → lines_of_program k (round_from r j parts ++ rest) ≡ written (rows_in r part) ++ lines_of_program k rest
round_shown k r j i [] part rest e h = absurd (let z = e in cc)
round_shown k r j zero (first ∷ parts) part rest e h =
    let is : first ≡ part = cc in
    let same : k ≡ j = omega arith in
    ap (lines_of_program k) (append_assoc (marked j (rows_in r first)) (round_from r (j + 1) parts) rest)
    ∙ (marked_shown k j (rows_in r first) (round_from r (j + 1) parts ++ rest)
    ∙ (ap (λ b. cond b (written (rows_in r first)) [] ++ lines_of_program k (round_from r (j + 1) parts ++ rest)) (eq-eqb k j same)
    ∙ (ap (λ xs. written (rows_in r first) ++ xs) (round_after k r (j + 1) parts rest (omega arith))
    ∙ ap (λ (x : Part). written (rows_in r x) ++ lines_of_program k rest) is)))
round_shown k r j (suc i) (first ∷ parts) part rest e h =
    ap (lines_of_program k) (append_assoc (marked j (rows_in r first)) (round_from r (j + 1) parts) rest)
    ∙ (marked_shown k j (rows_in r first) (round_from r (j + 1) parts ++ rest)
    ∙ (ap (λ b. cond b (written (rows_in r first)) [] ++ lines_of_program k (round_from r (j + 1) parts ++ rest)) (ne_eqb k j (λ f. absurd (omega arith)))
    ∙ round_shown k r (j + 1) i parts part rest e (omega arith)))

-- ---- several rounds
pub rounds_none : (parts : List Part) → rounds 0 parts ≡ []
unfolding rounds
rounds_none parts = refl

pub rounds_more : (n : ℕ) (parts : List Part) → rounds (n + 1) parts ≡ rounds n parts ++ round_from n 0 parts
unfolding rounds
rounds_more n parts = let e : n + 1 ≡ suc n = omega arith in ap (λ m. rounds m parts) e

rounds_shown : (k n : ℕ) (parts : List Part) (part : Part) (rest : List ℕ) → slice_get parts k ≡ Some part → lines_of_program k (rounds n parts ++ rest) ≡ written (take (n * part.quota) part.rows) ++ lines_of_program k rest
unfolding rounds
rounds_shown k zero parts part rest e =
    let z : zero * part.quota ≡ 0 = omega arith in
    sym (ap (λ m. written (take m part.rows) ++ lines_of_program k rest) z)
rounds_shown k (suc n) parts part rest e =
    let z : n * part.quota + part.quota ≡ suc n * part.quota = omega arith in
    ap (lines_of_program k) (append_assoc (rounds n parts) (round_from n 0 parts) rest)
    ∙ (rounds_shown k n parts part (round_from n 0 parts ++ rest) e
    ∙ (ap (λ xs. written (take (n * part.quota) part.rows) ++ xs) (round_shown k n 0 k parts part rest e (omega arith))
    ∙ (sym (append_assoc (written (take (n * part.quota) part.rows)) (written (rows_in n part)) (lines_of_program k rest))
    ∙ (ap (λ xs. xs ++ lines_of_program k rest) (sym (flat_map-append row_line (take (n * part.quota) part.rows) (rows_in n part)))
    ∙ (ap (λ xs. written xs ++ lines_of_program k rest) (sym (take-add (n * part.quota) part.quota part.rows))
    ∙ ap (λ m. written (take m part.rows) ++ lines_of_program k rest) z)))))

-- ---- all rounds
pub quota_of : (parts : List Part) (k : ℕ) (part : Part) → HaveQuotas parts → slice_get parts k ≡ Some part → 1 ≤ part.quota
quota_of [] k part h e = absurd (let z = e in cc)
quota_of (first ∷ parts) zero part h e = let is : first ≡ part = cc in subst (λ (x : Part). 1 ≤ x.quota) is h.0
quota_of (first ∷ parts) (suc k) part h e = quota_of parts k part h.1 e

pub few_rows : (parts : List Part) (k : ℕ) (part : Part) → slice_get parts k ≡ Some part → length part.rows ≤ sum_by (λ x. length x.rows) parts
few_rows [] k part e = absurd (let z = e in cc)
few_rows (first ∷ parts) zero part e =
    let is : first ≡ part = cc in
    let n = ap (λ (x : Part). length x.rows) is in
    let s = sum_by-cons (λ (x : Part). length x.rows) first parts in
    omega arith
few_rows (first ∷ parts) (suc k) part e =
    let s = sum_by-cons (λ (x : Part). length x.rows) first parts in
    let h = few_rows parts k part e in
    omega arith

none_shown : (k : ℕ) → lines_of_program k [] ≡ []
unfolding lines_of
none_shown k = refl

pub own_lines : (parts : List Part) (k : ℕ) (part : Part) → HaveQuotas parts → slice_get parts k ≡ Some part → lines_of_program k (share_text parts) ≡ written part.rows
own_lines parts k part h e =
    let n = sum_by (λ (x : Part). length x.rows) parts in
    let few = few_rows parts k part e in
    let one = quota_of parts k part h e in
    let up : n * 1 ≤ n * part.quota = mul-le-mul_left n one in
    let enough : length part.rows ≤ n * part.quota = omega arith in
    ap (lines_of_program k) (sym (append-nil (rounds n parts)))
    ∙ (rounds_shown k n parts part [] e
    ∙ (ap (λ xs. written (take (n * part.quota) part.rows) ++ xs) (none_shown k) ∙ append-nil (written (take (n * part.quota) part.rows))
    ∙ ap written (take_all (n * part.quota) part.rows enough)))
