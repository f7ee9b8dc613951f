-- One turn more: what it adds to the text.
use Rattle.std.proofs.Common.{◌≡◌, ℕ, zero, suc, ◌+◌, ◌-◌, ◌*◌, ◌<◌, ◌≤◌, List, [], ◌∷◌, ◌++◌, length, take, drop, Some, slice_get, refl, sym, ap, ap₂, ◌∙◌, subst, arith, append_assoc, append-nil, length-append, inl, inr}
use Rattle.std.specs.List.{sum_by}
use Rattle.std.proofs.Math.ListN.{set}
use Rattle.std.proofs.Math.Nat.{mul-le-mul_left, mul-le-mul_right}
use Rattle.std.proofs.lemmas.Bool.{cases_lt}
use Rattle.std.proofs.lemmas.List.{take_all, take_at, take-append-le, length-drop, length-set, drop_at}
use Rattle.pr_share_text.specs.Text.{Part, marked, rows_in, round_from, rounds, share_text, HaveQuotas}
use Rattle.pr_share_text.specs.Turns.{so_far}
use Rattle.pr_share_text.proofs.RoundLaws.{rounds_none as rounds_zero, rounds_more, quota_of, few_rows}

-- ---- the rows of a turn
dropped : (xs : List (List ℕ)) (n : ℕ) → length xs ≤ n → drop n xs ≡ []
dropped [] zero h = refl
dropped [] (suc n) h = refl
dropped (x ∷ xs) zero h = absurd (omega arith)
dropped (x ∷ xs) (suc n) h = dropped xs n (omega arith)

take_none : (n : ℕ) (xs : List (List ℕ)) → xs ≡ [] → take n xs ≡ []
take_none n xs e = let l = ap length e in take_all n xs (omega arith) ∙ e

-- a round after the last rows
pub rows_past : (r : ℕ) (part : Part) → length part.rows ≤ r * part.quota → rows_in r part ≡ []
rows_past r part h = take_none part.quota (drop (r * part.quota) part.rows) (dropped part.rows (r * part.quota) h)

drop-append-le : (n : ℕ) (xs ys : List (List ℕ)) → n ≤ length xs → drop n (xs ++ ys) ≡ drop n xs ++ ys
drop-append-le zero xs ys h = refl
drop-append-le (suc n) [] ys h = absurd (omega arith)
drop-append-le (suc n) (x ∷ xs) ys h = drop-append-le n xs ys (omega arith)

-- rows that come later change no earlier round
pub rows_before : (n r q : ℕ) (xs ys : List (List ℕ)) → n < r → length xs ≡ r * q → take q (drop (n * q) (xs ++ ys)) ≡ take q (drop (n * q) xs)
rows_before n r q xs ys h l =
    let up : (n + 1) * q ≤ r * q = mul-le-mul_right q (omega arith) in
    let e : (n + 1) * q ≡ n * q + q = omega arith in
    let d = length-drop (n * q) xs in
    ap (take q) (drop-append-le (n * q) xs ys (omega arith)) ∙ take-append-le q (drop (n * q) xs) ys (omega arith)

-- the rows of a round are those that follow the earlier ones
rows_now : (r q : ℕ) (xs ys : List (List ℕ)) → length xs ≡ r * q → length ys ≤ q → take q (drop (r * q) (xs ++ ys)) ≡ ys
rows_now r q xs ys l h = ap (take q) (drop_at xs ys (r * q) l) ∙ take_all q ys h

-- ---- a program that has more rows
module _ (part more : Part) (r : ℕ) (new : List (List ℕ)) (quota : more.quota ≡ part.quota) (rows : more.rows ≡ part.rows ++ new) (due : length part.rows ≡ r * part.quota) where
  same_before : (n : ℕ) → n < r → rows_in n more ≡ rows_in n part
  same_before n h = ap₂ (λ q xs. take q (drop (n * q) xs)) quota rows ∙ rows_before n r part.quota part.rows new h due

  same_now : length new ≤ part.quota → rows_in r more ≡ new
  same_now h = ap₂ (λ q xs. take q (drop (r * q) xs)) quota rows ∙ rows_now r part.quota part.rows new due h

pub round-append : (r j : ℕ) (xs ys : List Part) → round_from r j (xs ++ ys) ≡ round_from r j xs ++ round_from r (j + length xs) ys
round-append r j [] ys = let e : j ≡ j + 0 = omega arith in ap (λ n. round_from r n ys) e
round-append r j (x ∷ xs) ys =
    let e : j + 1 + length xs ≡ j + length (x ∷ xs) = omega arith in
    ap (λ zs. marked j (rows_in r x) ++ zs) (round-append r (j + 1) xs ys ∙ ap (λ n. round_from r (j + 1) xs ++ round_from r n ys) e)
    ∙ sym (append_assoc (marked j (rows_in r x)) (round_from r (j + 1) xs) (round_from r (j + length (x ∷ xs)) ys))

round_set : (n j k : ℕ) (parts : List Part) (part more : Part) → slice_get parts k ≡ Some part → rows_in n more ≡ rows_in n part → round_from n j (set parts k more) ≡ round_from n j parts
round_set n j k [] part more e h = absurd (let z = e in cc)
round_set n j zero (first ∷ parts) part more e h =
    let is : part ≡ first = cc in
    ap (λ rows. marked j rows ++ round_from n (j + 1) parts) (h ∙ ap (rows_in n) is)
round_set n j (suc k) (first ∷ parts) part more e h = ap (λ zs. marked j (rows_in n first) ++ zs) (round_set n (j + 1) k parts part more e h)

rounds_set : (n k : ℕ) (parts : List Part) (part more : Part) → slice_get parts k ≡ Some part → ((i : ℕ) → i < n → rows_in i more ≡ rows_in i part) → rounds n (set parts k more) ≡ rounds n parts
rounds_set zero k parts part more e h = rounds_zero (set parts k more) ∙ sym (rounds_zero parts)
rounds_set (suc n) k parts part more e h =
    let z : n + 1 ≡ suc n = omega arith in
    ap (λ m. rounds m (set parts k more)) (sym z) ∙ (rounds_more n (set parts k more)
    ∙ (ap₂ (λ a b. a ++ b) (rounds_set n k parts part more e (λ i l. h i (omega arith))) (round_set n 0 k parts part more e (h n (omega arith)))
    ∙ (sym (rounds_more n parts) ∙ ap (λ m. rounds m parts) z)))

-- the programs before number k, and k itself
take_set : (k : ℕ) (parts : List Part) (part more : Part) → slice_get parts k ≡ Some part → take (k + 1) (set parts k more) ≡ take k parts ++ more ∷ []
take_set k [] part more e = absurd (let z = e in cc)
take_set zero (first ∷ parts) part more e = refl
take_set (suc k) (first ∷ parts) part more e =
    let z : suc (k + 1) ≡ suc k + 1 = omega arith in
    ap (λ n. take n (set (first ∷ parts) (suc k) more)) (sym z) ∙ ap (λ xs. first ∷ xs) (take_set k parts part more e)

pub take_next : (k : ℕ) (parts : List Part) (part : Part) → slice_get parts k ≡ Some part → take (k + 1) parts ≡ take k parts ++ part ∷ []
take_next k [] part e = absurd (let z = e in cc)
take_next zero (first ∷ parts) part e = let is : first ≡ part = cc in ap (λ x. x ∷ []) is
take_next (suc k) (first ∷ parts) part e =
    let z : suc (k + 1) ≡ suc k + 1 = omega arith in
    ap (λ n. take n (first ∷ parts)) (sym z) ∙ ap (λ xs. first ∷ xs) (take_next k parts part e)

pub length_take : (k : ℕ) (parts : List Part) (part : Part) → slice_get parts k ≡ Some part → length (take k parts) ≡ k
length_take k [] part e = absurd (let z = e in cc)
length_take zero (first ∷ parts) part e = refl
length_take (suc k) (first ∷ parts) part e = ap suc (length_take k parts part e)

pub one_round : (r k : ℕ) (parts : List Part) (part : Part) → slice_get parts k ≡ Some part → (xs : List Part) → length xs ≡ k → (last : Part) → round_from r 0 (xs ++ last ∷ []) ≡ round_from r 0 xs ++ marked k (rows_in r last)
one_round r k parts part e xs l last =
    let z : 0 + length xs ≡ k = omega arith in
    round-append r 0 xs (last ∷ []) ∙ (ap (λ n. round_from r 0 xs ++ round_from r n (last ∷ [])) z ∙ ap (λ zs. round_from r 0 xs ++ zs) (append-nil (marked k (rows_in r last))))

-- the turn of program k adds its lines
pub turn_added : (r k : ℕ) (parts : List Part) (part more : Part) (new : List (List ℕ)) → slice_get parts k ≡ Some part → more.quota ≡ part.quota → more.rows ≡ part.rows ++ new → length part.rows ≡ r * part.quota → length new ≤ part.quota
    → so_far r (k + 1) (set parts k more) ≡ so_far r k parts ++ marked k new
turn_added r k parts part more new e quota rows due few =
    ap₂ (λ a b. a ++ b)
    (rounds_set r k parts part more e (λ i l. same_before part more r new quota rows due i l))
    (ap (round_from r 0) (take_set k parts part more e)
    ∙ (one_round r k parts part e (take k parts) (length_take k parts part e) more
    ∙ ap (λ zs. round_from r 0 (take k parts) ++ marked k zs) (same_now part more r new quota rows due few)))
    ∙ sym (append_assoc (rounds r parts) (round_from r 0 (take k parts)) (marked k new))

-- a program that has no more lines adds nothing
pub turn_skipped : (r k : ℕ) (parts : List Part) (part : Part) → slice_get parts k ≡ Some part → length part.rows ≤ r * part.quota → so_far r (k + 1) parts ≡ so_far r k parts
turn_skipped r k parts part e few =
    ap (λ zs. rounds r parts ++ zs)
    (ap (round_from r 0) (take_next k parts part e)
    ∙ (one_round r k parts part e (take k parts) (length_take k parts part e) part
    ∙ (ap (λ zs. round_from r 0 (take k parts) ++ marked k zs) (rows_past r part few) ∙ append-nil (round_from r 0 (take k parts)))))

-- a round is over
pub round_over : (r n : ℕ) (parts : List Part) → length parts ≤ n → so_far r n parts ≡ so_far (r + 1) 0 parts
round_over r n parts h =
    ap (λ xs. rounds r parts ++ round_from r 0 xs) (take_all n parts h) ∙ (sym (rounds_more r parts) ∙ sym (append-nil (rounds (r + 1) parts)))

pub nothing_yet : (parts : List Part) → so_far 0 0 parts ≡ []
nothing_yet parts = append-nil (rounds 0 parts) ∙ rounds_zero parts

-- ---- the end
round_empty : (r j : ℕ) (parts : List Part) → ((i : ℕ) (part : Part) → slice_get parts i ≡ Some part → length part.rows ≤ r * part.quota) → round_from r j parts ≡ []
round_empty r j [] h = refl
round_empty r j (part ∷ parts) h =
    ap (λ rows. marked j rows ++ round_from r (j + 1) parts) (rows_past r part (h 0 part refl)) ∙ round_empty r (j + 1) parts (λ i x e. h (suc i) x e)

rounds_past : (r d : ℕ) (parts : List Part) → ((i : ℕ) (part : Part) → slice_get parts i ≡ Some part → length part.rows ≤ r * part.quota) → rounds (r + d) parts ≡ rounds r parts
rounds_past r zero parts h = let z : r + 0 ≡ r = omega arith in ap (λ n. rounds n parts) z
rounds_past r (suc d) parts h =
    let z : r + suc d ≡ r + d + 1 = omega arith in
    let later : (i : ℕ) (part : Part) → slice_get parts i ≡ Some part → length part.rows ≤ (r + d) * part.quota =
    λ i part e. let up : r * part.quota ≤ (r + d) * part.quota = mul-le-mul_right part.quota (omega arith) in let k = h i part e in omega arith in
    ap (λ n. rounds n parts) z ∙ (rounds_more (r + d) parts
    ∙ (ap (λ zs. rounds (r + d) parts ++ zs) (round_empty (r + d) 0 parts later) ∙ (append-nil (rounds (r + d) parts) ∙ rounds_past r d parts h)))

-- all rounds that have lines were made
pub rounds_whole : (r : ℕ) (parts : List Part) → HaveQuotas parts → ((i : ℕ) (part : Part) → slice_get parts i ≡ Some part → length part.rows ≤ r * part.quota) → rounds r parts ≡ share_text parts
rounds_whole r parts quotas h =
    let n = sum_by (λ (x : Part). length x.rows) parts in
    let enough : (i : ℕ) (part : Part) → slice_get parts i ≡ Some part → length part.rows ≤ n * part.quota =
    λ i part e. let few = few_rows parts i part e in let one = quota_of parts i part quotas e in let up : n * 1 ≤ n * part.quota = mul-le-mul_left n one in omega arith in
    elim (cases_lt r n) [
      | inl less ↦ (let z : r + (n - r) ≡ n = omega arith in sym (rounds_past r (n - r) parts h) ∙ ap (λ m. rounds m parts) z)
      | inr more ↦ (let z : n + (r - n) ≡ r = omega arith in sym (ap (λ m. rounds m parts) z) ∙ rounds_past n (r - n) parts enough)
    ]

pub all_over : (r : ℕ) (parts : List Part) → HaveQuotas parts → ((i : ℕ) (part : Part) → slice_get parts i ≡ Some part → length part.rows ≤ r * part.quota) → so_far r 0 parts ≡ share_text parts
all_over r parts quotas h = append-nil (rounds r parts) ∙ rounds_whole r parts quotas h
