-- What the operations on vectors hold at each lane.
use Rattle.std.proofs.Common.{◌≡◌, ℕ, ◌<◌, List, length, get_or, map, replicate, refl, sym, ap, ◌∙◌, arith}
use Rattle.std.specs.Simd.Lanes.{zip2}
use Rattle.std.proofs.lemmas.Simd.{length-zip2, get_or-zip2, get_or-replicate, length-replicate}
use Rattle.std.proofs.lemmas.List.{length-map, get_or-map}
use Rattle.std.proofs.lemmas.List.FromFn.{fill_by_all}
use Rattle.pr_lanes.specs.Rows.{row_by}
use Rattle.pr_lanes.proofs.Parts.{row_by_at, length-row_by}
use Rattle.pr_lanes.specs.Lanes.{HasLanes}

pub own : (n : ℕ) (xs : List ℕ) → length xs ≡ n → HasLanes n xs (λ k. get_or xs k 0)
own n xs h = record { long = h; each = λ k l. refl }

pub splat_of : (n x : ℕ) → HasLanes n (replicate n x) (λ _. x)
splat_of n x = record { long = length-replicate n x; each = λ k l. get_or-replicate n k x 0 l }

pub zip_of : (n : ℕ) (f : ℕ → ℕ → ℕ) (xs ys : List ℕ) (g h : ℕ → ℕ) → HasLanes n xs g → HasLanes n ys h → HasLanes n (zip2 f xs ys) (λ k. f (g k) (h k))
zip_of n f xs ys g h p q =
    let lp = p.long in
    let lq = q.long in
    record {
      long = length-zip2 f xs ys (lp ∙ sym lq) ∙ lp;
      each = λ k l. get_or-zip2 f xs ys k 0 0 0 (omega arith) (omega arith) ∙ ap (λ x. f x (get_or ys k 0)) (p.each k l) ∙ ap (f (g k)) (q.each k l);
    }

pub map_of : (n : ℕ) (f : ℕ → ℕ) (xs : List ℕ) (g : ℕ → ℕ) → HasLanes n xs g → HasLanes n (map f xs) (λ k. f (g k))
map_of n f xs g p =
    let lp = p.long in
    record {
      long = length-map xs f ∙ lp;
      each = λ k l. get_or-map f xs k 0 0 (omega arith) ∙ ap f (p.each k l);
    }

-- the row that these lanes make
pub as_row : (n : ℕ) (v : List ℕ) (f : ℕ → ℕ) → HasLanes n v f → v ≡ row_by n f
as_row n v f h = fill_by_all f v n 0 h.long (λ k l. h.each k l)

pub of_row : (n : ℕ) (v : List ℕ) (f : ℕ → ℕ) → v ≡ row_by n f → HasLanes n v f
of_row n v f e = record { long = ap length e ∙ length-row_by n f; each = λ k l. ap (λ xs. get_or xs k 0) e ∙ row_by_at n f k l }

-- lanes that are the same
pub same_lanes : (n : ℕ) (v : List ℕ) (f g : ℕ → ℕ) → HasLanes n v f → ((k : ℕ) → k < n → f k ≡ g k) → HasLanes n v g
same_lanes n v f g h same = record { long = h.long; each = λ k l. h.each k l ∙ same k l }

-- rows of 16, as they are
pub row_of : (xs : List ℕ) → length xs ≡ 16 → xs ≡ row_by 16 (λ i. get_or xs i 0)
row_of xs h = as_row 16 xs (λ i. get_or xs i 0) (own 16 xs h)

pub all_of : (y : ℕ) → replicate 16 y ≡ row_by 16 (λ _. y)
all_of y = as_row 16 (replicate 16 y) (λ _. y) (splat_of 16 y)
