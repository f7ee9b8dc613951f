-- Groups that wait for less, one after the other.
use Rattle.std.proofs.Common.{◌≡◌, ℕ, ◌+◌, ◌-◌, ◌<◌, ◌≤◌, ◌==◌, Bool, List, ◌∷◌, length, get_or, set, drop, if◌then◌else◌, refl, sym, ap, ◌∙◌, inl, inr, arith, add-one, drop-cons, get_or-set_same, get_or-set_other}
use Rattle.std.proofs.lemmas.Bool.{cases_eq, eq-eqb, ne_eqb}
use Rattle.std.proofs.lemmas.List.Sums.{sum_by-cons}
use Rattle.pr_place.specs.declared.lookups.Tables.{Tables}
use Rattle.pr_place.specs.Registers.{count_of}
use Rattle.pr_place.specs.Tables.{readers_in}
pub use Rattle.pr_place.specs.Opening.{readings, AreLists, Woken}

pub woken_on : (class a ra b rb d rd : List ℕ) → Woken class a ra b rb → Woken class b rb d rd → Woken class a ra d rd
woken_on class a ra b rb d rd h k = record {
  less = λ g. (let x = h.less g in let y = k.less g in omega (arith, x, y));
  still = λ g e. elim (cases_eq (get_or d g 0) 0) [
    | inl z ↦ (let x = h.less g in let none = e z in k.still g (λ q. omega (arith, none, x)) ∙ h.still g (λ q. none))
    | inr some ↦ k.still g (λ q. absurd (some q)) ∙ h.still g (λ q. absurd (some (let y = k.less g in omega (arith, q, y))))
  ];
  woken = λ g some none. elim (cases_eq (get_or b g 0) 0) [
    | inl z ↦ k.still g (λ q. z) ∙ h.woken g some z
    | inr ne ↦ k.woken g ne none
  ];
}

abbrev one_if : Bool → ℕ
one_if b = if b then 1 else 0

-- one reading less
pub one_less : (waits rest : List ℕ) (r g : ℕ) → r < length waits → 1 ≤ get_or waits r 0 → get_or (set waits r (get_or waits r 0 - 1)) g 0 + count_of g (r ∷ rest) ≡ get_or waits g 0 + count_of g rest
one_less waits rest r g l some = elim (cases_eq g r) [
  | inl e ↦
      (let at : get_or (set waits r (get_or waits r 0 - 1)) g 0 ≡ get_or waits r 0 - 1 = ap (λ (k : ℕ). get_or (set waits r (get_or waits r 0 - 1)) k 0) e ∙ get_or-set_same waits r (get_or waits r 0 - 1) 0 l in
      let old : get_or waits g 0 ≡ get_or waits r 0 = ap (λ (k : ℕ). get_or waits k 0) e in
      let one : one_if (r == g) ≡ 1 = ap one_if (eq-eqb r g (sym e)) in
      omega (arith, at, old, one, some))
  | inr ne ↦
      (let at = get_or-set_other waits r g (get_or waits r 0 - 1) 0 ne in
      let none : one_if (r == g) ≡ 0 = ap one_if (ne_eqb r g (λ q. ne (sym q))) in
      omega (arith, at, none))
]

pub count_drop : (xs : List ℕ) (i g : ℕ) → i < length xs → count_of g (drop i xs) ≡ count_of g (get_or xs i 0 ∷ drop (i + 1) xs)
count_drop xs i g l =
    let cons : drop i xs ≡ get_or xs i 0 ∷ drop (i + 1) xs = rw (add-one, drop-cons xs i 0) refl in
    ap (count_of g) cons

-- the readers of one group less
pub readings_drop : (t : Tables) (g : ℕ) (groups : List ℕ) (i : ℕ) → i < length groups → readings t g (drop i groups) ≡ count_of g (readers_in t (get_or groups i 0)) + readings t g (drop (i + 1) groups)
readings_drop t g groups i l =
    let cons : drop i groups ≡ get_or groups i 0 ∷ drop (i + 1) groups = rw (add-one, drop-cons groups i 0) refl in
    ap (readings t g) cons ∙ sum_by-cons (λ h. count_of g (readers_in t h)) (get_or groups i 0) (drop (i + 1) groups)
