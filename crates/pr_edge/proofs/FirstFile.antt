-- The first file of a name, and its reach.
use Rattle.std.proofs.Common.{◌≡◌, ◌≢◌, ℕ, zero, suc, ◌<◌, true, false, List, [], ◌∷◌, length, get_or, Option, Some, None, slice_set, refl, sym, ap, ◌∙◌, arith, string_bytes, if◌then◌else◌, get_or-set_same, length-set, replicate}
use Rattle.std.proofs.lemmas.Slice.Eq.{slice_eq-Decides}
use Rattle.std.proofs.lemmas.Bool.Decides.{Decides-eqb}
use Rattle.std.proofs.lemmas.Bool.{false_from_ne_true}
use Rattle.pr_edge.specs.Files.{raised}
use Rattle.pr_edge.specs.Named.{Named, has_name, file_in, reach_in, IsFirst}

tail_of : (f : Named) (fs : List Named) (name : List ℕ) (i : ℕ) → IsFirst (f ∷ fs) name (suc i) → IsFirst fs name i
tail_of f fs name i h = record { within = omega (arith, h.within); here = λ d. h.here d; before = λ k d lt. h.before (suc k) d (omega arith) }

pub file_in-first : (files : List Named) (name : List ℕ) (i : ℕ) (d : Named) → IsFirst files name i → file_in files name ≡ Some (get_or files i d).1.items
file_in-first [] name i d h = absurd (omega (arith, h.within))
file_in-first (f ∷ fs) name zero d h = rw (h.here d) refl
file_in-first (f ∷ fs) name (suc i) d h = rw (h.before 0 d (omega arith)) (file_in-first fs name i d (tail_of f fs name i h))

pub reach_in-first : (files : List Named) (rs : List (Option ℕ)) (name : List ℕ) (i : ℕ) → IsFirst files name i → length rs ≡ length files → reach_in files rs name ≡ get_or rs i None
reach_in-first [] rs name i h e = absurd (omega (arith, h.within))
reach_in-first (f ∷ fs) [] name i h e = absurd (omega arith)
reach_in-first (f ∷ fs) (r ∷ rs) name zero h e = rw (h.here f) refl
reach_in-first (f ∷ fs) (r ∷ rs) name (suc i) h e = rw (h.before 0 f (omega arith)) (reach_in-first fs rs name i (tail_of f fs name i h) (omega arith))

other_name : (f : Named) (name q : List ℕ) → has_name name f ≡ true → q ≢ name → has_name q f ≡ false
other_name f name q h ne =
    let is_name = (slice_eq-Decides Decides-eqb (string_bytes f.0) name _ refl).0 h in
    false_from_ne_true (has_name q f) (λ yes. ne (sym ((slice_eq-Decides Decides-eqb (string_bytes f.0) q _ refl).0 yes) ∙ is_name))

pub reach_in-set_other : (files : List Named) (rs : List (Option ℕ)) (name q : List ℕ) (i : ℕ) (v : Option ℕ) → IsFirst files name i → q ≢ name → reach_in files (slice_set rs i v) q ≡ reach_in files rs q
reach_in-set_other [] rs name q i v h ne = refl
reach_in-set_other (f ∷ fs) [] name q i v h ne = refl
reach_in-set_other (f ∷ fs) (r ∷ rs) name q zero v h ne = rw (other_name f name q (h.here f) ne) refl
reach_in-set_other (f ∷ fs) (r ∷ rs) name q (suc i) v h ne = ap (λ (x : Option ℕ). if has_name q f then r else x) (reach_in-set_other fs rs name q i v (tail_of f fs name i h) ne)

pub reach_in-raised : (files : List Named) (rs : List (Option ℕ)) (name : List ℕ) (i place count : ℕ) → IsFirst files name i → length rs ≡ length files
    → reach_in files (slice_set rs i (raised (get_or rs i None) place count)) name ≡ raised (reach_in files rs name) place count
reach_in-raised files rs name i place count h e =
    let v = raised (get_or rs i None) place count in
    let within : i < length rs = omega (arith, h.within) in
    rw (reach_in-first files rs name i h e) (reach_in-first files (slice_set rs i v) name i h (length-set rs i v ∙ e) ∙ get_or-set_same rs i v None within)

-- no file was read
pub reach_in-none : (files : List Named) (n : ℕ) (name : List ℕ) → reach_in files (replicate n (Some 0)) name ≡ Some 0
reach_in-none [] n name = refl
reach_in-none (f ∷ fs) zero name = refl
reach_in-none (f ∷ fs) (suc n) name = elim (has_name name f) as (λ b. (if b then Some 0 else reach_in fs (replicate n (Some 0)) name) ≡ Some 0) [ true ↦ refl | false ↦ reach_in-none fs n name ]
