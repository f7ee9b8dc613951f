-- One row of many is read, or put.
use Rattle.std.proofs.Common.{◌≡◌, ◌≢◌, ℕ, zero, suc, ◌+◌, ◌*◌, ◌/◌, ◌<◌, ◌≤◌, List, [], ◌∷◌, ◌++◌, length, take, drop, get_or, set, ◌%◌, ap₂, slice_get, slice_set, Some, sym, ap, ◌∙◌, refl, inl, inr, arith, map}
use Rattle.std.specs.List.{flat_map}
use Rattle.std.proofs.lemmas.List.{drop-take, drop-drop, length-set, get_or-set_same, get_or-set_other, same_lists, length-take-le, length-drop, length-append, take_at, drop_at}
use Rattle.std.proofs.lemmas.Option.{slice_get-get_or}
use Rattle.std.proofs.lemmas.Bool.{cases_lt, cases_eq}
use Rattle.std.proofs.lemmas.Nat.{row_fits}
use Rattle.std.proofs.lemmas.Slice.{take-put_mid_below, drop-put_mid}
use Rattle.std.proofs.Math.Nat.{div-mul-le_self, mul-div_cancel, suc-mul, zero-mul, mul-mod_left, mod-add-div, mul_comm}
use borrow.Rule.Slice.PartMut.{put_mid}
use Rattle.pr_control.specs.StateRows.{rows_of, rows_in}

pub length-rows_of : (count n : ℕ) (bytes : List ℕ) → length (rows_of count n bytes) ≡ count
unfolding rows_of
length-rows_of zero n bytes = refl
length-rows_of (suc count) n bytes = ap suc (length-rows_of count n (drop n bytes))

get_or-rows_of : (count n : ℕ) (bytes : List ℕ) (k : ℕ) (d : List ℕ) → k < count → get_or (rows_of count n bytes) k d ≡ take n (drop (k * n) bytes)
unfolding rows_of
get_or-rows_of zero n bytes k d h = absurd (omega arith)
get_or-rows_of (suc count) n bytes zero d h = ap (λ j. take n (drop j bytes)) (sym (zero-mul n))
get_or-rows_of (suc count) n bytes (suc k) d h =
    let e : n + k * n ≡ suc k * n = (let z = suc-mul k n in omega arith) in
    get_or-rows_of count n (drop n bytes) k d (omega arith) ∙ ap (take n) (drop-drop (k * n) n bytes ∙ ap (λ j. drop j bytes) e)

-- the row that is read
pub get-rows_of : (count n : ℕ) (bytes : List ℕ) (k : ℕ) → k < count → slice_get (rows_of count n bytes) k ≡ Some (take n (drop (k * n) bytes))
get-rows_of count n bytes k h = slice_get-get_or (rows_of count n bytes) k [] (let e = length-rows_of count n bytes in omega arith) ∙ ap Some (get_or-rows_of count n bytes k [] h)

-- whole rows take all bytes
pub count-rows_in : (n : ℕ) (bytes all : List ℕ) → bytes ≡ all → length all % n ≡ 0 → length (rows_in n bytes) * n ≡ length all
count-rows_in n bytes all same whole =
    let l = length-rows_of (length bytes / n) n bytes in
    let e = ap length same in
    let d = mod-add-div (length all) n in
    let w : n * (length all / n) ≡ length all / n * n = mul_comm n (length all / n) in
    ap (λ k. k * n) (l ∙ ap (λ k. k / n) e) ∙ (omega arith)

-- a row that there is lies within the bytes
pub row_inside : (n : ℕ) (bytes : List ℕ) (k : ℕ) → k < length (rows_in n bytes) → (k + 1) * n ≤ length bytes
row_inside n bytes k h =
    let c = length bytes / n in
    let e = length-rows_of c n bytes in
    let f = div-mul-le_self (length bytes) n in
    let g = row_fits k n c n (omega arith) (omega arith) in
    omega arith

-- a write to one row of the bytes leaves the others
pub put_mid_other : (n long at k : ℕ) (xs ys : List ℕ) → k ≢ at → length ys ≡ n → long ≡ n → (at + 1) * n ≤ length xs → take n (drop (k * n) (put_mid (at * n) long xs ys)) ≡ take n (drop (k * n) xs)
put_mid_other n long at k xs ys other size same room = elim (cases_lt k at) [
  | inl below ↦ (
      let fits = row_fits k n at n below (omega arith) in
      sym (drop-take (k * n) n (put_mid (at * n) long xs ys))
      ∙ ap (drop (k * n)) (take-put_mid_below (at * n) long xs ys (k * n + n) fits (omega arith))
      ∙ drop-take (k * n) n xs)
  | inr from ↦ (
      let fits = row_fits at n k n (let l : at < k = omega arith in l) (omega arith) in
      ap (take n) (drop-put_mid (at * n) long xs ys (k * n) (omega arith) (omega arith) (omega arith)))
]

-- bytes in which one row was put are the rows with this one set
pub rows_put : (n at : ℕ) (old new row : List ℕ) → length new ≡ length old → at < length (rows_in n old)
    → take n (drop (at * n) new) ≡ row → ((k : ℕ) → k ≢ at → take n (drop (k * n) new) ≡ take n (drop (k * n) old))
    → rows_in n new ≡ set (rows_in n old) at row
rows_put n at old new row size inside here others =
    let c = length old / n in
    let e : rows_in n new ≡ rows_of c n new = ap (λ l. rows_of (l / n) n new) size in
    let ln = length-rows_of c n new in
    let lo = length-rows_of c n old in
    let ls = length-set (rows_of c n old) at row in
    e ∙ same_lists (rows_of c n new) (set (rows_of c n old) at row) (omega arith) (λ k d h.
    get_or-rows_of c n new k d (omega arith) ∙ elim (cases_eq k at) [
      | inl same ↦ ap (λ j. take n (drop (j * n) new)) same ∙ here ∙ sym (ap (λ j. get_or (set (rows_of c n old) at row) j d) same ∙ get_or-set_same (rows_of c n old) at row d inside)
      | inr other ↦ others k other ∙ sym (get_or-set_other (rows_of c n old) at k row d other ∙ get_or-rows_of c n old k d (omega arith))
    ])

-- ---- what a store owes: its bytes are lent, and its rows are those of the bytes
pub row_room : (n long at : ℕ) (bytes lent : List ℕ) (rows : List (List ℕ)) → rows_in n bytes ≡ rows → at < length rows → lent ≡ bytes → long ≡ n → (at + 1) * long ≤ length lent
row_room n long at bytes lent rows view inside same size = rw (same, size) (row_inside n bytes at (let e = ap length view in omega arith))

pub row_is : (n at : ℕ) (bytes lent row : List ℕ) (rows : List (List ℕ)) → rows_in n bytes ≡ rows → at < length rows → lent ≡ bytes → row ≡ take n (drop (at * n) lent) → slice_get rows at ≡ Some row
row_is n at bytes lent row rows view inside same is =
    let e = ap length view in
    let l = length-rows_of (length bytes / n) n bytes in
    ap (λ r. slice_get r at) (sym view) ∙ get-rows_of (length bytes / n) n bytes at (omega arith) ∙ ap Some (sym (is ∙ ap (λ b. take n (drop (at * n) b)) same))

pub row_long : (n at : ℕ) (bytes lent row : List ℕ) (rows : List (List ℕ)) → rows_in n bytes ≡ rows → at < length rows → lent ≡ bytes → row ≡ take n (drop (at * n) lent) → length row ≡ n
row_long n at bytes lent row rows view inside same is =
    let e = ap length view in
    let r = row_inside n bytes at (omega arith) in
    let d = length-drop (at * n) lent in
    let s = ap length same in
    let m : (at + 1) * n ≡ at * n + n = (let a : at + 1 ≡ suc at = omega arith in ap (λ x. x * n) a ∙ suc-mul at n) in
    ap length is ∙ length-take-le n (drop (at * n) lent) (omega arith)

-- (what was lent comes back as the first `len` bytes of the new ones)
pub put_is : (n at len : ℕ) (bytes lent new row : List ℕ) (rows : List (List ℕ)) → length bytes ≡ len → rows_in n bytes ≡ rows → at < length rows → lent ≡ bytes → length row ≡ n → length new ≡ length lent
    → take (length row) (drop (at * length row) new) ≡ row
    → ((k : ℕ) → k ≢ at → take (length row) (drop (k * length row) new) ≡ take (length row) (drop (k * length row) lent))
    → rows_in n (take len (new ++ drop (length new) bytes)) ≡ slice_set rows at row
put_is n at len bytes lent new row rows all view inside same size kept here others =
    let e = ap length view in
    ap (rows_in n) (take_at new (drop (length new) bytes) len (kept ∙ ap length same ∙ all))
    ∙ rows_put n at bytes new row (kept ∙ ap length same) (omega arith)
    (ap (λ m. take m (drop (at * m) new)) (sym size) ∙ here)
    (λ k h. ap (λ m. take m (drop (k * m) new)) (sym size) ∙ others k h ∙ ap (λ m. take m (drop (k * m) lent)) size ∙ ap (λ b. take n (drop (k * n) b)) same)
    ∙ ap (λ r. set r at row) view

-- ---- rows that were laid one after the other
pub rows_of-flat_map : {X : Type 0} (f : X → List ℕ) (n : ℕ) (xs : List X) → ((x : X) → length (f x) ≡ n) → rows_of (length xs) n (flat_map f xs) ≡ map f xs
unfolding rows_of
rows_of-flat_map f n [] h = refl
rows_of-flat_map f n (x ∷ xs) h =
    ap₂ (λ r rest. r ∷ rows_of (length xs) n rest) (take_at (f x) (flat_map f xs) n (h x)) (drop_at (f x) (flat_map f xs) n (h x))
    ∙ ap (λ rest. f x ∷ rest) (rows_of-flat_map f n xs h)

length-flat_map : {X : Type 0} (f : X → List ℕ) (n : ℕ) (xs : List X) → ((x : X) → length (f x) ≡ n) → length (flat_map f xs) ≡ length xs * n
length-flat_map f n [] h = sym (zero-mul n)
length-flat_map f n (x ∷ xs) h = length-append (f x) (flat_map f xs) ∙ ap₂ (λ a b. a + b) (h x) (length-flat_map f n xs h) ∙ (let e = suc-mul (length xs) n in omega arith)

pub rows_in-flat_map : {X : Type 0} (f : X → List ℕ) (n : ℕ) (xs : List X) → 0 < n → ((x : X) → length (f x) ≡ n) → rows_in n (flat_map f xs) ≡ map f xs
rows_in-flat_map f n xs some h =
    let c : length (flat_map f xs) / n ≡ length xs = ap (λ l. l / n) (length-flat_map f n xs h) ∙ mul-div_cancel (length xs) some in
    ap (λ k. rows_of k n (flat_map f xs)) c ∙ rows_of-flat_map f n xs h

-- as many bytes as whole rows have
pub whole-flat_map : {X : Type 0} (f : X → List ℕ) (n : ℕ) (xs : List X) → ((x : X) → length (f x) ≡ n) → length (flat_map f xs) % n ≡ 0
whole-flat_map f n xs h = ap (λ l. l % n) (length-flat_map f n xs h) ∙ mul-mod_left (length xs) n
