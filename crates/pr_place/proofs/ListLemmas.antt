-- Lists that one list holds.
use Rattle.std.proofs.Common.{◌≡◌, ℕ, suc, ◌+◌, ◌-◌, ◌<◌, ◌≤◌, List, [], ◌∷◌, ◌++◌, length, get_or, take, drop, map, refl, sym, ap, ap₂, ◌∙◌, subst, arith, inl, inr}
use Rattle.std.specs.List.{All, slice_range}
use Rattle.std.proofs.Math.Seq.{get_or-append_seam, take-length, drop-append_seam}
use Rattle.std.proofs.lemmas.Bool.{cases_eq}
use Rattle.std.proofs.lemmas.List.{get_or_append_left, get_or_default, length-append, length-drop, length_push, take-append-le, drop-append-le, take-map, drop-map}
use Rattle.std.proofs.lemmas.List.Elements.{All-append}
use Rattle.std.proofs.lemmas.List.FromFn.{get_or-map-range_with_len, length-map-range_with_len}
pub use Rattle.pr_place.specs.Lists.{pieces, joined, Holds}

-- ---- parts of lists
slice_left : (xs ys : List ℕ) (a b : ℕ) → a ≤ b → b ≤ length xs → slice_range (xs ++ ys) a b ≡ slice_range xs a b
slice_left xs ys a b low high =
    let rest = length-drop a xs in
    ap (take (b - a)) (drop-append-le a xs ys (omega (arith, low, high))) ∙ take-append-le (b - a) (drop a xs) ys (omega (arith, rest, high))

slice_right : (xs ys : List ℕ) → slice_range (xs ++ ys) (length xs) (length (xs ++ ys)) ≡ ys
slice_right xs ys =
    let n : length (xs ++ ys) - length xs ≡ length ys = (let e = length-append xs ys in omega (arith, e)) in
    ap₂ (λ (k : ℕ) (zs : List ℕ). take k zs) n (drop-append_seam xs ys) ∙ take-length ys

pub slice_map : {X Y : Type 0} (f : X → Y) (xs : List X) (a b : ℕ) → slice_range (map f xs) a b ≡ map f (slice_range xs a b)
slice_map f xs a b = ap (take (b - a)) (drop-map f a xs) ∙ take-map f (b - a) (drop a xs)

-- ---- the lists
pub piece_at : {X : Type 0} (starts : List ℕ) (items : List X) (g : ℕ) → g + 1 < length starts → get_or (pieces starts items) g [] ≡ slice_range items (get_or starts g 0) (get_or starts (g + 1) 0)
unfolding pieces
piece_at starts items g l = get_or-map-range_with_len (λ (k : ℕ). slice_range items (get_or starts k 0) (get_or starts (k + 1) 0)) 0 (length starts - 1) g g [] (omega (arith, l)) (omega arith)

-- a part that was taken by the starts
pub taken_at : {X : Type 0} (starts : List ℕ) (items whole : List X) (g from to : ℕ) → from ≡ get_or starts g from → to ≡ get_or starts (g + 1) to → whole ≡ items → g + 1 < length starts → take (to - from) (drop from whole) ≡ get_or (pieces starts items) g []
taken_at {X} starts items whole g from to ef et e l =
    let f : from ≡ get_or starts g 0 = ef ∙ get_or_default starts g from 0 (omega (arith, l)) in
    let t : to ≡ get_or starts (g + 1) 0 = et ∙ get_or_default starts (g + 1) to 0 l in
    ap (λ (xs : List X). take (to - from) (drop from xs)) e ∙ ap₂ (λ (i j : ℕ). slice_range items i j) f t ∙ sym (piece_at starts items g l)

pub pieces_long : {X : Type 0} (starts : List ℕ) (items : List X) → length (pieces starts items) ≡ length starts - 1
unfolding pieces
pieces_long starts items = length-map-range_with_len (λ (k : ℕ). slice_range items (get_or starts k 0) (get_or starts (k + 1) 0)) 0 (length starts - 1)

pub held_at : (told : ℕ → List ℕ) (n : ℕ) (starts items : List ℕ) (g : ℕ) → Holds told n starts items → g < n → get_or (pieces starts items) g [] ≡ told g
held_at told n starts items g h l = piece_at starts items g (let e = h.long in omega (arith, e, l)) ∙ h.is g l

pub held_long : (told : ℕ → List ℕ) (n : ℕ) (starts items : List ℕ) → Holds told n starts items → length (pieces starts items) ≡ n
held_long told n starts items h = pieces_long starts items ∙ (let e = h.long in omega (arith, e))

-- ---- they are made one after the other
pub holds_none : (told : ℕ → List ℕ) (starts items : List ℕ) → starts ≡ 0 ∷ [] → items ≡ [] → Holds told 0 starts items
holds_none told starts items es ei = subst (λ (ss : List ℕ). Holds told 0 ss items) (sym es) (subst (Holds told 0 (0 ∷ [])) (sym ei) (record {
  long = refl;
  last = refl;
  order = λ g l. absurd (omega (arith, l));
  inside = λ g l. (let e : g ≡ 0 = omega (arith, l) in subst (λ (k : ℕ). get_or (0 ∷ []) k 0 ≤ 0) (sym e) (omega arith));
  is = λ g l. absurd (omega (arith, l));
}))

pub holds_more : (told : ℕ → List ℕ) (n : ℕ) (starts now items more : List ℕ) → Holds told n starts items → more ≡ items ++ told n → now ≡ starts ++ length more ∷ [] → Holds told (n + 1) now more
holds_more told n starts now items more h e s =
    let long = h.long in
    let last = h.last in
    let grown : length more ≡ length items + length (told n) = ap length e ∙ length-append items (told n) in
    let old : (g : ℕ) → g < n + 1 → get_or now g 0 ≡ get_or starts g 0 = λ g l. ap (λ (xs : List ℕ). get_or xs g 0) s ∙ get_or_append_left starts (length more ∷ []) 0 g (omega (arith, l, long)) in
    let new : get_or now (n + 1) 0 ≡ length more = ap₂ (λ (xs : List ℕ) (k : ℕ). get_or xs k 0) s (sym long) ∙ get_or-append_seam starts (length more) [] 0 in
    let seam : get_or now n 0 ≡ length items = old n (omega arith) ∙ last in
    record {
      long = (let a = ap length s in let b = length_push starts (length more) in omega (arith, a, b, long));
      last = new;
      order = λ g l. elim (cases_eq g n) [
        | inl same ↦
            (let a : get_or now g 0 ≡ length items = ap (λ (k : ℕ). get_or now k 0) same ∙ seam in
            let b : get_or now (g + 1) 0 ≡ length more = ap (λ (k : ℕ). get_or now (k + 1) 0) same ∙ new in
            omega (arith, a, b, grown))
        | inr ne ↦
            (let low : g < n = omega (arith, l, ne) in
            let a = old g (omega (arith, low)) in
            let b = old (g + 1) (omega (arith, low)) in
            let o = h.order g low in
            omega (arith, a, b, o))
      ];
      inside = λ g l. elim (cases_eq g (n + 1)) [
        | inl same ↦ (let a : get_or now g 0 ≡ length more = ap (λ (k : ℕ). get_or now k 0) same ∙ new in omega (arith, a))
        | inr ne ↦ (let low : g < n + 1 = omega (arith, l, ne) in let a = old g low in let o = h.inside g low in omega (arith, a, o, grown))
      ];
      is = λ g l. elim (cases_eq g n) [
        | inl same ↦
            (let a : get_or now g 0 ≡ length items = ap (λ (k : ℕ). get_or now k 0) same ∙ seam in
            let b : get_or now (g + 1) 0 ≡ length (items ++ told n) = ap (λ (k : ℕ). get_or now (k + 1) 0) same ∙ new ∙ ap length e in
            ap₂ (λ (i j : ℕ). slice_range more i j) a b ∙ ap (λ (xs : List ℕ). slice_range xs (length items) (length (items ++ told n))) e ∙ slice_right items (told n) ∙ ap told (sym same))
        | inr ne ↦
            (let low : g < n = omega (arith, l, ne) in
            let a = old g (omega (arith, low)) in
            let b = old (g + 1) (omega (arith, low)) in
            ap₂ (λ (i j : ℕ). slice_range more i j) a b ∙ ap (λ (xs : List ℕ). slice_range xs (get_or starts g 0) (get_or starts (g + 1) 0)) e
            ∙ slice_left items (told n) (get_or starts g 0) (get_or starts (g + 1) 0) (h.order g low) (h.inside (g + 1) (omega (arith, low))) ∙ h.is g low)
      ];
    }

-- ---- all of them
pub all_joined : (P : ℕ → Type 0) (lists : List (List ℕ)) → All (All P) lists → All P (joined lists)
all_joined P [] h = λ k d l. absurd (omega (arith, l))
all_joined P (xs ∷ lists) h = All-append P xs (joined lists) (h 0 [] (omega arith)) (all_joined P lists (λ k d l. h (suc k) d (omega (arith, l))))
