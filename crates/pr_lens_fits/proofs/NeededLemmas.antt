-- Marks of cells, and how many are set.
use Rattle.std.proofs.Common.{◌≡◌, ◌∙◌, ◌<◌, ◌≤◌, ◌+◌, ◌-◌, ◌*◌, ◌/◌, ◌%◌, ◌==◌, ◌&&◌, ◌||◌, ℕ, suc, Bool, true, false, cond, List, [], ◌∷◌, ◌++◌, length, length-drop, replicate, min, take, drop, set, get_or, refl, sym, ap, ap₂, inl, inr, arith, add-one, drop-cons, get_or-set_same, get_or-set_other}
use Rattle.std.specs.List.{list_any, count_by, range_with_len}
use Rattle.std.proofs.lemmas.Bool.{and_from, and_left, and_right, cases_lt, cases_eq, eq-eqb, ne_eqb}
use Rattle.std.proofs.lemmas.List.{drop_all, take_all, take-append-le, length-replicate, get_or-replicate}
use Rattle.std.proofs.lemmas.List.Sums.{sum_by-cons}
use Rattle.pr_net.specs.Shape.{NetShape}
use Rattle.pr_net.specs.declared.cells.Cell.{Cell}
use Rattle.pr_net.specs.declared.cells.Slice.{Slice}
use Rattle.pr_lens_fits.specs.Needed.{MarksCells, is_needed, kept_before}

-- ---- one mark
is_it : (unit cell k : ℕ) → cell < 64 → k ≡ unit * 64 + cell → ((unit == k / 64) && (cell == k % 64)) ≡ true
is_it unit cell k low at =
    let row : unit ≡ k / 64 = omega (arith, low, at) in
    let place : cell ≡ k % 64 = omega (arith, low, at, row) in
    and_from (unit == k / 64) (cell == k % 64) (eq-eqb unit (k / 64) row) (eq-eqb cell (k % 64) place)

is_other : (unit cell k : ℕ) → (k ≡ unit * 64 + cell → ⊥) → ((unit == k / 64) && (cell == k % 64)) ≡ false
is_other unit cell k other = elim (cases_lt unit (k / 64)) [
  | inl less ↦ and_left (unit == k / 64) (cell == k % 64) (ne_eqb unit (k / 64) (λ e. omega (arith, e, less)))
  | inr more ↦ (elim (cases_lt (k / 64) unit) [
    | inl less ↦ and_left (unit == k / 64) (cell == k % 64) (ne_eqb unit (k / 64) (λ e. omega (arith, e, less)))
    | inr same ↦ and_right (unit == k / 64) (cell == k % 64) (ne_eqb cell (k % 64) (λ e. other (omega (arith, e, more, same))))
  ])
]

-- no cell beyond the 64th has a mark
pub none_beyond : (marks : List Bool) (unit cell : ℕ) → 64 ≤ cell → MarksCells marks marks (λ v j. (unit == v) && (cell == j))
none_beyond marks unit cell high = λ k h. ap (λ (b : Bool). b || get_or marks k false) (sym (and_right (unit == k / 64) (cell == k % 64) (ne_eqb cell (k % 64) (λ e. omega (arith, e, high)))))

pub none_behind : (marks : List Bool) (unit cell place : ℕ) → place ≡ unit * 64 + cell → length marks ≤ place → MarksCells marks marks (λ v j. (unit == v) && (cell == j))
none_behind marks unit cell place is behind = λ k h. ap (λ (b : Bool). b || get_or marks k false) (sym (is_other unit cell k (λ e. omega (arith, e, is, behind, h))))

pub noted : (marks : List Bool) (unit cell place : ℕ) → cell < 64 → place ≡ unit * 64 + cell → place < length marks → MarksCells marks (set marks place true) (λ v j. (unit == v) && (cell == j))
noted marks unit cell place low is within = λ k h. elim (cases_eq k place) [
  | inl at ↦ (
      ap (λ (i : ℕ). get_or (set marks place true) i false) at
      ∙ (get_or-set_same marks place true false within ∙ sym (ap (λ (b : Bool). b || get_or marks k false) (is_it unit cell k low (at ∙ is)))))
  | inr other ↦ (
      get_or-set_other marks place k true false other
      ∙ ap (λ (b : Bool). b || get_or marks k false) (sym (is_other unit cell k (λ e. other (e ∙ sym is)))))
]

-- ---- marks one after the other
or_both : (q p r : Bool) → (q || (p || r)) ≡ ((q || p) || r)
or_both true p r = refl
or_both false p r = refl

or_later : (p q r : Bool) → (q || (p || r)) ≡ ((p || q) || r)
or_later true true r = refl
or_later true false r = refl
or_later false true r = refl
or_later false false r = refl

pub marks_both : (a b c : List Bool) (s t : ℕ → ℕ → Bool) → length b ≡ length a → MarksCells a b s → MarksCells b c t → MarksCells a c (λ v j. t v j || s v j)
marks_both a b c s t long first second = λ k h.
    second k (omega (arith, h, long)) ∙ (ap (λ (x : Bool). t (k / 64) (k % 64) || x) (first k h) ∙ or_both (t (k / 64) (k % 64)) (s (k / 64) (k % 64)) (get_or a k false))

-- what is left of a list is looked at
pub any_left : {X : Type 0} (p : X → Bool) (xs : List X) (i : ℕ) (d : X) (old new : Bool) → i < length xs → new ≡ (p (get_or xs i d) || old) → (list_any p (drop (i + 1) xs) || new) ≡ (list_any p (drop i xs) || old)
any_left {X} p xs i d old new l e =
    let z : i + 1 ≡ suc i = add-one i in
    ap (λ (k : ℕ). list_any p (drop k xs) || new) z
    ∙ ap (λ (b : Bool). list_any p (drop (suc i) xs) || b) e
    ∙ or_later (p (get_or xs i d)) (list_any p (drop (suc i) xs)) old
    ∙ ap (λ (ys : List X). list_any p ys || old) (sym (drop-cons xs i d l))

pub any_slice : (p : Slice → Bool) (xs : List Slice) (i : ℕ) (d : Slice) (old new : Bool) → i < length xs → new ≡ (p (get_or xs i d) || old) → (list_any p (drop (i + 1) xs) || new) ≡ (list_any p (drop i xs) || old)
any_slice p xs i d old new l e = any_left p xs i d old new l e

pub any_cell : (p : Cell → Bool) (xs : List Cell) (i : ℕ) (d : Cell) (old new : Bool) → i < length xs → new ≡ (p (get_or xs i d) || old) → (list_any p (drop (i + 1) xs) || new) ≡ (list_any p (drop i xs) || old)
any_cell p xs i d old new l e = any_left p xs i d old new l e

-- ---- the marks that are set
abbrev weight : Bool → ℕ
weight b = cond b 1 0

set_from : (is : ℕ → Bool) (marks : List Bool) (a : ℕ) → ((k : ℕ) → k < length marks → get_or marks k false ≡ is (a + k)) → count_by (λ mark. mark) marks ≡ count_by is (range_with_len a (length marks))
set_from is [] a each = refl
set_from is (m ∷ marks) a each =
    let here : m ≡ is a = each 0 (omega arith) ∙ ap is (let z : a + 0 ≡ a = omega arith in z) in
    let rest = set_from is marks (a + 1) (λ k h. each (suc k) (omega (arith, h)) ∙ ap is (let z : a + suc k ≡ (a + 1) + k = omega arith in z)) in
    sum_by-cons weight m marks
    ∙ (ap₂ (λ (x y : ℕ). x + y) (ap weight here) rest ∙ sym (sum_by-cons (λ (k : ℕ). weight (is k)) a (range_with_len (a + 1) (length marks))))

pub set_marks : (is : ℕ → Bool) (marks : List Bool) (n : ℕ) → length marks ≡ n → ((k : ℕ) → k < n → get_or marks k false ≡ is k) → count_by (λ mark. mark) marks ≡ count_by is (range_with_len 0 n)
set_marks is marks n long each = set_from is marks 0 (λ k h. each k (omega (arith, h, long)) ∙ ap is (let z : k ≡ 0 + k = omega arith in z)) ∙ ap (λ (m : ℕ). count_by is (range_with_len 0 m)) long

-- ---- the units from one on
pub rest_from : {X : Type 0} (xs : List X) (u first : ℕ) → first ≡ min u (length xs) → take (length xs - first) (drop first xs) ≡ drop u xs
rest_from {X} xs u first is = elim (cases_lt u (length xs)) [
  | inl within ↦ (
      let at : first ≡ u = omega (arith, is, within) in
      take_all (length xs - first) (drop first xs) (long first) ∙ ap (λ (k : ℕ). drop k xs) at)
  | inr behind ↦ (
      let none : length xs ≤ first = omega (arith, is, behind) in
      take_all (length xs - first) (drop first xs) (long first) ∙ (drop_all first xs none ∙ sym (drop_all u xs behind)))
]
  where
    long : (k : ℕ) → length (drop k xs) ≤ length xs - k
    long k = omega (arith, length-drop k xs)

or_none : (b : Bool) → (b || false) ≡ b
or_none true = refl
or_none false = refl

-- marks that were all unset, seen as the whole list that is written back
pub kept_marked : (net : NetShape) (unit n : ℕ) (olds start news seen : List Bool) → olds ≡ replicate (64 * unit) false → start ≡ olds → length news ≡ length start → n ≡ length start
    → MarksCells start news (is_needed net unit) → seen ≡ take n (news ++ drop (length news) olds) → count_by (λ mark. mark) seen ≡ kept_before net unit
kept_marked net unit n olds start news seen blank same long at marks is =
    let whole : n ≡ length news = omega (arith, long, at) in
    let all : seen ≡ news = is ∙ (take-append-le n news (drop (length news) olds) (omega (arith, whole)) ∙ take_all n news (omega (arith, whole))) in
    let size : length start ≡ 64 * unit = ap (λ (l : List Bool). length l) (same ∙ blank) ∙ length-replicate (64 * unit) false in
    ap (λ (l : List Bool). count_by (λ mark. mark) l) all
    ∙ set_marks (λ k. is_needed net unit (k / 64) (k % 64)) news (64 * unit) (long ∙ size) (λ k h.
    marks k (omega (arith, h, size))
    ∙ (ap (λ (b : Bool). is_needed net unit (k / 64) (k % 64) || b) (ap (λ (l : List Bool). get_or l k false) (same ∙ blank) ∙ get_or-replicate (64 * unit) k false false h)
    ∙ or_none (is_needed net unit (k / 64) (k % 64))))
