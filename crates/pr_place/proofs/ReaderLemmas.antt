-- Who reads each group, noted group by group; the classes of groups.
use Rattle.std.proofs.Common.{◌≡◌, ◌≢◌, ℕ, ◌+◌, ◌<◌, ◌++◌, Bool, true, false, List, [], ◌∷◌, length, get_or, map, refl, sym, ap, ap₂, ◌∙◌, subst, arith, inl, inr}
use Rattle.std.specs.Cmp.Lexicographic.{pointwise}
use Rattle.std.specs.List.{All}
use Rattle.std.proofs.Math.Bool.{beq}
use Rattle.std.proofs.lemmas.Bool.{cases_eq, cases_lt, and_parts, false≢true}
use Rattle.std.proofs.lemmas.List.{get_or_append_left, get_or-append-add, get_or_past, length_push}

abbrev pub owns : List ℕ → List ℕ → List ℕ
owns owner xs = map (λ x. get_or owner x 0) xs

-- ---- all groups
pub ops_there : (P : ℕ → Type 0) (ops : List (List ℕ)) (g : ℕ) (xs : List ℕ) → All (All P) ops → g < length ops → xs ≡ get_or ops g [] → All P xs
ops_there P ops g xs h l q = subst (All P) (sym q) (h g [] l)

-- ---- classes
pub class_small : (class now : List ℕ) (cl : ℕ) → now ≡ class ++ cl ∷ [] → cl < 64 → ((k : ℕ) → get_or class k 0 < 64) → (k : ℕ) → get_or now k 0 < 64
class_small class now cl e l h k = subst (λ (xs : List ℕ). get_or xs k 0 < 64) (sym e) (elim (cases_lt k (length class)) [
  | inl low ↦ subst (λ (n : ℕ). n < 64) (sym (get_or_append_left class (cl ∷ []) 0 k low)) (h k)
  | inr high ↦ elim (cases_eq k (length class)) [
    | inl same ↦ subst (λ (n : ℕ). n < 64) (sym (ap (λ (n : ℕ). get_or (class ++ cl ∷ []) n 0) (same ∙ omega arith) ∙ get_or-append-add class (cl ∷ []) 0 0)) l
    | inr ne ↦ subst (λ (n : ℕ). n < 64) (sym (get_or_past (class ++ cl ∷ []) k 0 (let s = length_push class cl in omega (arith, s, high, ne)))) (omega arith)
  ]
])

pub class_next : (class now : List ℕ) (cl i : ℕ) (kinds next needs : List (List Bool)) (own : List Bool) (many few : ℕ) → now ≡ class ++ cl ∷ [] → length class ≡ i → get_or needs i [] ≡ own
    → (cl ≢ 63 → (cl < few) × (get_or next cl [] ≡ own)) → ((k : ℕ) → k < many → (k < few) × (get_or next k [] ≡ get_or kinds k []))
    → ((k : ℕ) → k < i → get_or class k 0 ≢ 63 → (get_or class k 0 < many) × (get_or kinds (get_or class k 0) [] ≡ get_or needs k []))
    → (k : ℕ) → k < i + 1 → get_or now k 0 ≢ 63 → (get_or now k 0 < few) × (get_or next (get_or now k 0) [] ≡ get_or needs k [])
class_next class now cl i kinds next needs own many few e long mine kind more h k l ne = elim (cases_eq k i) [
  | inl same ↦
      (let at : get_or now k 0 ≡ cl = ap₂ (λ (xs : List ℕ) (n : ℕ). get_or xs n 0) e (same ∙ sym long ∙ omega arith) ∙ get_or-append-add class (cl ∷ []) 0 0 in
      let r = kind (λ q. ne (at ∙ q)) in
      (subst (λ (n : ℕ). n < few) (sym at) r.0, ap (λ (n : ℕ). get_or next n []) at ∙ r.1 ∙ sym mine ∙ ap (λ (n : ℕ). get_or needs n []) (sym same)))
  | inr other ↦
      (let low : k < length class = omega (arith, l, other, long) in
      let at : get_or now k 0 ≡ get_or class k 0 = ap (λ (xs : List ℕ). get_or xs k 0) e ∙ get_or_append_left class (cl ∷ []) 0 k low in
      let r = h k (omega (arith, low, long)) (λ q. ne (at ∙ q)) in
      let m = more (get_or class k 0) r.0 in
      (subst (λ (n : ℕ). n < few) (sym at) m.0, ap (λ (n : ℕ). get_or next n []) at ∙ m.1 ∙ r.1))
]

-- lists of answers that test as equal
bit_same : (a b : Bool) → beq a b ≡ true → a ≡ b
bit_same true true h = refl
bit_same true false h = sym h
bit_same false true h = h
bit_same false false h = refl

pub same_bits : (xs ys : List Bool) → pointwise beq xs ys ≡ true → xs ≡ ys
same_bits [] [] h = refl
same_bits [] (y ∷ ys) h = absurd (false≢true h)
same_bits (x ∷ xs) [] h = absurd (false≢true h)
same_bits (x ∷ xs) (y ∷ ys) h = let p = and_parts (beq x y) (pointwise beq xs ys) h in ap₂ (λ (a : Bool) (rest : List Bool). a ∷ rest) (bit_same x y p.0) (same_bits xs ys p.1)

pub bits_self : (xs : List Bool) → pointwise beq xs xs ≡ true
bits_self [] = refl
bits_self (true ∷ xs) = bits_self xs
bits_self (false ∷ xs) = bits_self xs
