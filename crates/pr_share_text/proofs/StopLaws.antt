-- A turn that stops on the way: what was written until then begins the whole text, whatever rows may follow.
use Rattle.std.proofs.Common.{◌≡◌, ℕ, zero, suc, ◌+◌, ◌-◌, ◌*◌, ◌<◌, ◌≤◌, ltb, cond, Bool, true, false, List, [], ◌∷◌, ◌++◌, length, take, drop, Some, slice_get, refl, sym, ap, ap₂, ◌∙◌, subst, arith, append_assoc, append-nil}
use Rattle.std.specs.List.{sum_by}
use Rattle.std.proofs.Math.Nat.{mul-le-mul_left}
use Rattle.std.proofs.lemmas.Bool.{lt-ltb, cond-true}
use Rattle.std.proofs.lemmas.Grind.{flat_map-append}
use Rattle.std.proofs.lemmas.List.{take_all, take-append-drop, drop_at}
use Rattle.pr_base.specs.Rows.{row_line}
use Rattle.pr_share_text.specs.Text.{Part, mark, marked, rows_in, round_from, rounds, share_text, HaveQuotas}
use Rattle.pr_share_text.specs.Turns.{so_far}
use Rattle.pr_share_text.proofs.RoundLaws.{rounds_none, rounds_more, quota_of, few_rows}
use Rattle.pr_share_text.proofs.TurnLaws.{rows_before, round-append, take_next, length_take, one_round, rounds_whole}

-- ---- rows that come later
-- two programs have the same rows in the first n rounds
abbrev pub SameRows : ℕ → Part → Part → Type 0
SameRows n a b = (q : ℕ) → q < n → rows_in q a ≡ rows_in q b

pub same_rows : (n : ℕ) (a b : Part) (more : List (List ℕ)) → b.quota ≡ a.quota → b.rows ≡ a.rows ++ more → length a.rows ≡ n * a.quota → SameRows n a b
same_rows n a b more quota rows due q h =
    sym (ap₂ (λ k xs. take k (drop (q * k) xs)) quota rows ∙ rows_before q n a.quota a.rows more h due)

-- ---- rounds of the same rows
round_same : (q j k : ℕ) (xs ys : List Part) → length xs ≡ length ys → ((i : ℕ) (a b : Part) → i < k → slice_get xs i ≡ Some a → slice_get ys i ≡ Some b → rows_in q a ≡ rows_in q b)
    → round_from q j (take k xs) ≡ round_from q j (take k ys)
round_same q j zero xs ys l h = refl
round_same q j (suc k) [] [] l h = refl
round_same q j (suc k) [] (y ∷ ys) l h = absurd (omega arith)
round_same q j (suc k) (x ∷ xs) [] l h = absurd (omega arith)
round_same q j (suc k) (x ∷ xs) (y ∷ ys) l h =
    ap₂ (λ rows text. marked j rows ++ text) (h 0 x y (omega arith) refl refl) (round_same q (j + 1) k xs ys (omega arith) (λ i a b m e f. h (suc i) a b (omega arith) e f))

whole_round_same : (q j : ℕ) (xs ys : List Part) → length xs ≡ length ys → ((i : ℕ) (a b : Part) → slice_get xs i ≡ Some a → slice_get ys i ≡ Some b → rows_in q a ≡ rows_in q b) → round_from q j xs ≡ round_from q j ys
whole_round_same q j xs ys l h =
    ap (round_from q j) (sym (take_all (length xs) xs (omega arith)))
    ∙ (round_same q j (length xs) xs ys l (λ i a b m e f. h i a b e f) ∙ ap (round_from q j) (take_all (length xs) ys (omega (arith, l))))

rounds_same : (r : ℕ) (xs ys : List Part) → length xs ≡ length ys → ((i : ℕ) (a b : Part) → slice_get xs i ≡ Some a → slice_get ys i ≡ Some b → SameRows r a b) → rounds r xs ≡ rounds r ys
rounds_same zero xs ys l h = rounds_none xs ∙ sym (rounds_none ys)
rounds_same (suc r) xs ys l h =
    let z : r + 1 ≡ suc r = omega arith in
    ap (λ m. rounds m xs) (sym z) ∙ (rounds_more r xs
    ∙ (ap₂ (λ x y. x ++ y) (rounds_same r xs ys l (λ i a b e f q m. h i a b e f q (omega arith))) (whole_round_same r 0 xs ys l (λ i a b e f. h i a b e f r (omega arith)))
    ∙ (sym (rounds_more r ys) ∙ ap (λ m. rounds m ys) z)))

-- the rounds in which program i had a turn, in round r before the turn of number k
abbrev pub turns_before : ℕ → ℕ → ℕ → ℕ
turns_before r k i = cond (ltb i k) (r + 1) r

fewer_turns : (r k i q : ℕ) → q < r → q < turns_before r k i
fewer_turns r k i q h = by_test (ltb i k)
  where
    by_test : (t : Bool) → q < cond t (r + 1) r
    by_test true = omega arith
    by_test false = h

-- programs that have the same rows in all their turns
pub so_far_same : (r k : ℕ) (xs ys : List Part) → length xs ≡ length ys → ((i : ℕ) (a b : Part) → slice_get xs i ≡ Some a → slice_get ys i ≡ Some b → SameRows (turns_before r k i) a b) → so_far r k xs ≡ so_far r k ys
so_far_same r k xs ys l h =
    ap₂ (λ x y. x ++ y)
    (rounds_same r xs ys l (λ i a b e f q m. h i a b e f q (fewer_turns r k i q m)))
    (round_same r 0 k xs ys l (λ i a b m e f. h i a b e f r (subst (λ n. r < n) (sym (cond-true (ltb i k) (r + 1) r (lt-ltb i k m))) (omega arith))))

-- ---- what follows
rounds_further : (n d : ℕ) (parts : List Part) → (rest : List ℕ) × (rounds n parts ++ rest ≡ rounds (n + d) parts)
rounds_further n zero parts = let z : n ≡ n + 0 = omega arith in ([], append-nil (rounds n parts) ∙ ap (λ m. rounds m parts) z)
rounds_further n (suc d) parts =
    let before = rounds_further n d parts in
    let z : n + d + 1 ≡ n + suc d = omega arith in (
      before.0 ++ round_from (n + d) 0 parts,
      sym (append_assoc (rounds n parts) before.0 (round_from (n + d) 0 parts))
          ∙ (ap (λ xs. xs ++ round_from (n + d) 0 parts) before.1 ∙ (sym (rounds_more (n + d) parts) ∙ ap (λ m. rounds m parts) z)),
    )

rounds_begin : (n : ℕ) (parts : List Part) → HaveQuotas parts → (rest : List ℕ) × (rounds n parts ++ rest ≡ share_text parts)
rounds_begin n parts quotas =
    let all = sum_by (λ (x : Part). length x.rows) parts in
    let more = rounds_further n all parts in
    let enough : (i : ℕ) (part : Part) → slice_get parts i ≡ Some part → length part.rows ≤ (n + all) * part.quota =
    λ i part e. let few = few_rows parts i part e in let one = quota_of parts i part quotas e in let up : (n + all) * 1 ≤ (n + all) * part.quota = mul-le-mul_left (n + all) one in omega arith in
    (more.0, more.1 ∙ rounds_whole (n + all) parts quotas enough)

round_further : (r k : ℕ) (parts : List Part) → (rest : List ℕ) × (so_far r k parts ++ rest ≡ rounds (r + 1) parts)
round_further r k parts =
    let first = take k parts in
    let rest = round_from r (0 + length first) (drop k parts) in (
      rest,
      append_assoc (rounds r parts) (round_from r 0 first) rest
          ∙ (ap (λ xs. rounds r parts ++ xs) (sym (round-append r 0 first (drop k parts)) ∙ ap (round_from r 0) (take-append-drop k parts)) ∙ sym (rounds_more r parts)),
    )

-- what was written so far begins the whole text
pub so_far_begins : (r k : ℕ) (parts : List Part) → HaveQuotas parts → (rest : List ℕ) × (so_far r k parts ++ rest ≡ share_text parts)
so_far_begins r k parts quotas =
    let a = round_further r k parts in
    let b = rounds_begin (r + 1) parts quotas in
    (a.0 ++ b.0, sym (append_assoc (so_far r k parts) a.0 b.0) ∙ (ap (λ xs. xs ++ b.0) a.1 ∙ b.1))

-- ---- a turn that stops
marked-append : (k : ℕ) (xs ys : List (List ℕ)) → marked k (xs ++ ys) ≡ marked k xs ++ marked k ys
marked-append k xs ys = flat_map-append (λ (row : List ℕ). mark k ++ row_line row) xs ys

take_more_than : (q : ℕ) (xs ys : List (List ℕ)) → length xs ≤ q → take q (xs ++ ys) ≡ xs ++ take (q - length xs) ys
take_more_than q [] ys h = let z : q ≡ q - 0 = omega arith in ap (λ n. take n ys) z
take_more_than zero (x ∷ xs) ys h = absurd (omega arith)
take_more_than (suc q) (x ∷ xs) ys h =
    let z : q - length xs ≡ suc q - length (x ∷ xs) = omega arith in
    ap (λ zs. x ∷ zs) (take_more_than q xs ys (omega arith) ∙ ap (λ n. xs ++ take n ys) z)

module _ (r k : ℕ) (xs ys : List Part) (a b : Part) (new more : List (List ℕ)) (ea : slice_get xs k ≡ Some a) (eb : slice_get ys k ≡ Some b) (quota : b.quota ≡ a.quota) (rows : b.rows ≡ a.rows ++ (new ++ more)) (due : length a.rows ≡ r * a.quota) (few : length new ≤ a.quota) where
  rows_begin : rows_in r b ≡ new ++ take (a.quota - length new) more
  rows_begin =
      ap₂ (λ q zs. take q (drop (r * q) zs)) quota rows
      ∙ (ap (take a.quota) (drop_at a.rows (new ++ more) (r * a.quota) due) ∙ take_more_than a.quota new more few)

  turn_text : so_far r (k + 1) ys ≡ so_far r k ys ++ (marked k new ++ marked k (take (a.quota - length new) more))
  turn_text =
      ap (λ zs. rounds r ys ++ zs)
      (ap (round_from r 0) (take_next k ys b eb)
      ∙ (one_round r k ys b eb (take k ys) (length_take k ys b eb) b
      ∙ ap (λ zs. round_from r 0 (take k ys) ++ zs) (ap (marked k) rows_begin ∙ marked-append k new (take (a.quota - length new) more))))
      ∙ sym (append_assoc (rounds r ys) (round_from r 0 (take k ys)) (marked k new ++ marked k (take (a.quota - length new) more)))

  -- what was written up to a turn that stops, with all lines of that turn
  pub turn_begins : HaveQuotas ys → so_far r k xs ≡ so_far r k ys → (rest : List ℕ) × ((so_far r k xs ++ marked k new) ++ rest ≡ share_text ys)
  turn_begins quotas same =
      let end = so_far_begins r (k + 1) ys quotas in
      let later = marked k (take (a.quota - length new) more) in (
        later ++ end.0,
        ap (λ zs. (zs ++ marked k new) ++ (later ++ end.0)) same
            ∙ (sym (append_assoc (so_far r k ys ++ marked k new) later end.0)
            ∙ (ap (λ zs. zs ++ end.0) (append_assoc (so_far r k ys) (marked k new) later ∙ sym turn_text) ∙ end.1)),
      )
