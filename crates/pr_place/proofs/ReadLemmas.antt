-- The cells of other groups that a group reads, by their numbers.
use Rattle.std.proofs.Common.{◌≡◌, ◌≢◌, ℕ, zero, suc, ◌+◌, ◌<◌, ◌==◌, ◌&&◌, Bool, true, false, nat_lt, List, [], ◌∷◌, length, get_or, if◌then◌else◌, refl, sym, ap, ap₂, ◌∙◌, subst, arith, inl, inr}
use Rattle.std.specs.List.{Contains, All, flat_map}
use Rattle.std.proofs.lemmas.Bool.{cases_Bool, cases_eq, false≢true, and_parts, or_cases, or_left, or_right, eqb-true, eq-eqb, ne_eqb, lt-ltb}
use Rattle.std.proofs.lemmas.List.Elements.{Contains-append_cases, Contains-append_left, Contains-append_right, Contains-get_or}
use Rattle.pr_net.specs.declared.cells.Cell.{Cell}
use Rattle.pr_net.specs.declared.cells.Wire.{Wire}
use Rattle.pr_net.specs.declared.cells.WireBit.{WireBit}
use Rattle.pr_net.specs.Shape.{NetShape, cells_of, units_of}
use Rattle.pr_net.specs.Nets.{group_of, is_wire_of, is_bit_of, cell_reads, unit_reads, group_reads, IsLawfulWire, IsLawfulBit, IsLawfulCell, IsNet}
use Rattle.pr_net.proofs.Lists.{only_head, at_head, in_tail, head_or_tail, in_none, any_here, any_found}
use Rattle.pr_place.specs.Numbering.{wire_numbers, bit_numbers, cell_numbers, unit_reads_of, group_reads_of, IsWireBelow, IsBitBelow, IsCellBelow, IsNumbered, CanRead, CanNumber}
use Rattle.pr_place.specs.Registers.{count_of}
use Rattle.pr_place.specs.Tracking.{IsCellOf}
use Rattle.pr_place.proofs.Settling.{count_here, count_other}
use Rattle.pr_place.proofs.NumberLemmas.{first_long, first_rooms, number_below, number_apart, member}

pub flat_found : {X A : Type 0} (f : X → List A) (xs : List X) (y : A) → Contains (flat_map f xs) y → (x : X) × Contains xs x × Contains (f x) y
flat_found f [] y c = absurd (in_none y c)
flat_found f (x ∷ xs) y c = elim (Contains-append_cases (f x) (flat_map f xs) y c) [
  | inl h ↦ (x, at_head x xs, h)
  | inr t ↦ (let r = flat_found f xs y t in (r.0, in_tail x r.0 xs r.1, r.2))
]

pub flat_into : {X A : Type 0} (f : X → List A) (xs : List X) (x : X) (y : A) → Contains xs x → Contains (f x) y → Contains (flat_map f xs) y
flat_into f [] x y c h = absurd (in_none x c)
flat_into f (z ∷ xs) x y c h = elim (head_or_tail z x xs c) [
  | inl e ↦ Contains-append_left (f z) (flat_map f xs) y (subst (λ q. Contains (f q) y) (sym e) h)
  | inr t ↦ Contains-append_right (f z) (flat_map f xs) y (flat_into f xs x y t h)
]

-- ---- what is counted stands there
pub count_some : (x : ℕ) (xs : List ℕ) → Contains xs x → 0 < count_of x xs
count_some x [] c = absurd (in_none x c)
count_some x (y ∷ ys) c = elim (head_or_tail y x ys c) [
  | inl e ↦ subst (λ (k : ℕ). 0 < count_of x (k ∷ ys)) (sym e) (let one = count_here x ys in omega (arith, one))
  | inr t ↦ elim (cases_eq y x) [
    | inl e ↦ subst (λ (k : ℕ). 0 < count_of x (k ∷ ys)) (sym e) (let one = count_here x ys in omega (arith, one))
    | inr ne ↦ (let ih = count_some x ys t in let same = count_other x y ys ne in omega (arith, ih, same))
  ]
]

pub count_found : (x : ℕ) (xs : List ℕ) → 0 < count_of x xs → Contains xs x
count_found x [] h = absurd (omega (arith, h))
count_found x (y ∷ ys) h = elim (cases_eq y x) [
  | inl e ↦ subst (λ (k : ℕ). Contains (y ∷ ys) k) e (at_head y ys)
  | inr ne ↦ (let same = count_other x y ys ne in in_tail y x ys (count_found x ys (omega (arith, h, same))))
]

-- ---- a number that is read is that of a cell of another group
record WireOf (first owner : List ℕ) (g : ℕ) (w : Wire) (x : ℕ) : Type 0 where
  unit : ℕ
  place : ℕ
  is : is_wire_of unit place w ≡ true
  number : get_or first unit 0 + place ≡ x
  other : get_or owner x 0 ≢ g

wire_found : (first owner : List ℕ) (g : ℕ) (w : Wire) (x : ℕ) → Contains (wire_numbers first owner g w) x → WireOf first owner g w x
wire_found first owner g (Wire.Const k) x c = absurd (in_none x c)
wire_found first owner g (Wire.State u i) x c = absurd (in_none x c)
wire_found first owner g (Wire.Bus i) x c = absurd (in_none x c)
wire_found first owner g (Wire.Of u i) x c =
    let n = get_or first u 0 + i in
    let by : Bool → List ℕ = λ b. if b then [] else n ∷ [] in
    elim (cases_Bool (get_or owner n 0 == g)) [
      | inl t ↦ absurd (in_none x (subst (λ (b : Bool). Contains (by b) x) t c))
      | inr f ↦
          (let e : n ≡ x = only_head n x (subst (λ (b : Bool). Contains (by b) x) f c) in
          record {
            unit = u;
            place = i;
            is = both (u == u) (i == i) (eq-eqb u u refl) (eq-eqb i i refl);
            number = e;
            other = λ q. false≢true (sym f ∙ eq-eqb (get_or owner n 0) g (ap (λ (k : ℕ). get_or owner k 0) e ∙ q));
          })
    ]
  where
    both : (a b : Bool) → a ≡ true → b ≡ true → (a && b) ≡ true
    both true true p q = refl
    both true false p q = q
    both false b p q = p

pub record CellOf (first owner : List ℕ) (g : ℕ) (k : Cell) (x : ℕ) : Type 0 where
  pub unit : ℕ
  pub place : ℕ
  pub is : cell_reads unit place k ≡ true
  pub number : get_or first unit 0 + place ≡ x
  pub other : get_or owner x 0 ≢ g

bit_found : (first owner : List ℕ) (g : ℕ) (b : WireBit) (x : ℕ) → Contains (bit_numbers first owner g b) x → (u i : ℕ) × (is_bit_of u i b ≡ true) × (get_or first u 0 + i ≡ x) × (get_or owner x 0 ≢ g)
bit_found first owner g WireBit.None x c = absurd (in_none x c)
bit_found first owner g (WireBit.Of w k) x c = let r = wire_found first owner g w x c in (r.unit, r.place, r.is, r.number, r.other)
bit_found first owner g WireBit.CarryIn x c = absurd (in_none x c)

cell_found : (first owner : List ℕ) (g : ℕ) (k : Cell) (x : ℕ) → Contains (cell_numbers first owner g k) x → CellOf first owner g k x
cell_found first owner g k x c =
    let w = wire_numbers first owner g in
    elim (Contains-append_cases (w k.a) _ x c) [
      | inl a ↦ (let r = wire_found first owner g k.a x a in record { unit = r.unit; place = r.place; is = or_left (is_wire_of r.unit r.place k.a) _ r.is; number = r.number; other = r.other })
      | inr rest ↦ elim (Contains-append_cases (w k.hi) _ x rest) [
        | inl a ↦ (let r = wire_found first owner g k.hi x a in record { unit = r.unit; place = r.place; is = or_right (is_wire_of r.unit r.place k.a) _ (or_left (is_wire_of r.unit r.place k.hi) _ r.is); number = r.number; other = r.other })
        | inr more ↦ elim (Contains-append_cases (w k.lo) _ x more) [
          | inl a ↦ (let r = wire_found first owner g k.lo x a in record { unit = r.unit; place = r.place; is = or_right (is_wire_of r.unit r.place k.a) _ (or_right (is_wire_of r.unit r.place k.hi) _ (or_left (is_wire_of r.unit r.place k.lo) _ r.is)); number = r.number; other = r.other })
          | inr a ↦ (let r = bit_found first owner g k.c x a in record { unit = r.0; place = r.1; is = or_right (is_wire_of r.0 r.1 k.a) _ (or_right (is_wire_of r.0 r.1 k.hi) _ (or_right (is_wire_of r.0 r.1 k.lo) _ r.2)); number = r.3; other = r.4 })
        ]
      ]
    ]

-- ---- a cell of another group that is read is among the numbers
wire_into : (first owner : List ℕ) (g : ℕ) (w : Wire) (u i : ℕ) → is_wire_of u i w ≡ true → get_or owner (get_or first u 0 + i) 0 ≢ g → Contains (wire_numbers first owner g w) (get_or first u 0 + i)
wire_into first owner g (Wire.Const k) u i h ne = absurd (false≢true h)
wire_into first owner g (Wire.State v j) u i h ne = absurd (false≢true h)
wire_into first owner g (Wire.Bus j) u i h ne = absurd (false≢true h)
wire_into first owner g (Wire.Of v j) u i h ne =
    let p = and_parts (v == u) (j == i) h in
    let eu : v ≡ u = eqb-true v u p.0 in
    let ei : j ≡ i = eqb-true j i p.1 in
    let e : get_or first u 0 + i ≡ get_or first v 0 + j = ap₂ (λ (a b : ℕ). get_or first a 0 + b) (sym eu) (sym ei) in
    let n = get_or first v 0 + j in
    let f : (get_or owner n 0 == g) ≡ false = ne_eqb (get_or owner n 0) g (λ q. ne (ap (λ (k : ℕ). get_or owner k 0) e ∙ q)) in
    subst (λ (k : ℕ). Contains (wire_numbers first owner g (Wire.Of v j)) k) (sym e) (subst (λ (b : Bool). Contains (if b then [] else n ∷ []) n) (sym f) (at_head n []))

bit_into : (first owner : List ℕ) (g : ℕ) (b : WireBit) (u i : ℕ) → is_bit_of u i b ≡ true → get_or owner (get_or first u 0 + i) 0 ≢ g → Contains (bit_numbers first owner g b) (get_or first u 0 + i)
bit_into first owner g WireBit.None u i h ne = absurd (false≢true h)
bit_into first owner g (WireBit.Of w k) u i h ne = wire_into first owner g w u i h ne
bit_into first owner g WireBit.CarryIn u i h ne = absurd (false≢true h)

cell_into : (first owner : List ℕ) (g : ℕ) (k : Cell) (u i : ℕ) → cell_reads u i k ≡ true → get_or owner (get_or first u 0 + i) 0 ≢ g → Contains (cell_numbers first owner g k) (get_or first u 0 + i)
cell_into first owner g k u i h ne =
    let w = wire_numbers first owner g in
    let x = get_or first u 0 + i in
    elim (or_cases (is_wire_of u i k.a) _ h) [
      | inl a ↦ Contains-append_left (w k.a) _ x (wire_into first owner g k.a u i a ne)
      | inr rest ↦ Contains-append_right (w k.a) _ x (elim (or_cases (is_wire_of u i k.hi) _ rest) [
        | inl a ↦ Contains-append_left (w k.hi) _ x (wire_into first owner g k.hi u i a ne)
        | inr more ↦ Contains-append_right (w k.hi) _ x (elim (or_cases (is_wire_of u i k.lo) _ more) [
          | inl a ↦ Contains-append_left (w k.lo) _ x (wire_into first owner g k.lo u i a ne)
          | inr a ↦ Contains-append_right (w k.lo) _ x (bit_into first owner g k.c u i a ne)
        ])
      ])
    ]

-- ---- the wires of a lawful cell
wire_lawful : (net : NetShape) (u : ℕ) (w : Wire) (v j : ℕ) → IsLawfulWire net u w → is_wire_of v j w ≡ true → (v < u) × (j < length (cells_of net v))
wire_lawful net u (Wire.Const k) v j h t = absurd (false≢true t)
wire_lawful net u (Wire.State a b) v j h t = absurd (false≢true t)
wire_lawful net u (Wire.Bus a) v j h t = absurd (false≢true t)
wire_lawful net u (Wire.Of a b) v j h t =
    let p = and_parts (a == v) (b == j) t in
    let ea : a ≡ v = eqb-true a v p.0 in
    let eb : b ≡ j = eqb-true b j p.1 in
    (subst (λ (k : ℕ). k < u) ea h.0, subst (λ (k : ℕ). j < length (cells_of net k)) ea (subst (λ (k : ℕ). k < length (cells_of net a)) eb h.1))

bit_lawful : (net : NetShape) (u : ℕ) (b : WireBit) (v j : ℕ) → IsLawfulBit net u b → is_bit_of v j b ≡ true → (v < u) × (j < length (cells_of net v))
bit_lawful net u WireBit.None v j h t = absurd (false≢true t)
bit_lawful net u (WireBit.Of w k) v j h t = wire_lawful net u w v j h.0 t
bit_lawful net u WireBit.CarryIn v j h t = absurd (false≢true t)

cell_lawful : (net : NetShape) (u : ℕ) (k : Cell) (v j : ℕ) → IsLawfulCell net u k → cell_reads v j k ≡ true → (v < u) × (j < length (cells_of net v))
cell_lawful net u k v j h t = elim (or_cases (is_wire_of v j k.a) _ t) [
  | inl a ↦ wire_lawful net u k.a v j h.a a
  | inr rest ↦ elim (or_cases (is_wire_of v j k.hi) _ rest) [
    | inl a ↦ wire_lawful net u k.hi v j h.hi a
    | inr more ↦ elim (or_cases (is_wire_of v j k.lo) _ more) [
      | inl a ↦ wire_lawful net u k.lo v j h.lo a
      | inr a ↦ bit_lawful net u k.c v j h.c a
    ]
  ]
]

wire_is_below : (net : NetShape) (first : List ℕ) (cells u : ℕ) (w : Wire) → IsNumbered net.units first cells → u < length net.units → IsLawfulWire net u w → IsWireBelow first cells w
wire_is_below net first cells u (Wire.Const k) h l w = tt
wire_is_below net first cells u (Wire.State a b) h l w = tt
wire_is_below net first cells u (Wire.Bus a) h l w = tt
wire_is_below net first cells u (Wire.Of a b) h l w =
    let long = first_long net.units first cells h in
    (omega (arith, long, w.0, l), number_below net.units first cells a b h (omega (arith, w.0, l)) w.1)

bit_is_below : (net : NetShape) (first : List ℕ) (cells u : ℕ) (b : WireBit) → IsNumbered net.units first cells → u < length net.units → IsLawfulBit net u b → IsBitBelow first cells b
bit_is_below net first cells u WireBit.None h l w = tt
bit_is_below net first cells u (WireBit.Of wire k) h l w = wire_is_below net first cells u wire h l w.0
bit_is_below net first cells u WireBit.CarryIn h l w = tt

cell_is_below : (net : NetShape) (first : List ℕ) (cells u : ℕ) (k : Cell) → IsNumbered net.units first cells → u < length net.units → IsLawfulCell net u k → IsCellBelow first cells k
cell_is_below net first cells u k h l w = record {
  a = wire_is_below net first cells u k.a h l w.a;
  hi = wire_is_below net first cells u k.hi h l w.hi;
  lo = wire_is_below net first cells u k.lo h l w.lo;
  c = bit_is_below net first cells u k.c h l w.c;
}

-- ---- of a lawful net
pub can_number : (N : ℕ) (net : NetShape) (first : List ℕ) (cells g : ℕ) → IsNet N net → IsNumbered net.units first cells → g < length net.groups → CanNumber net.units first (units_of net g)
can_number N net first cells g n h lg = record {
  long = first_long net.units first cells h;
  there = λ k l. (member N net n g k lg l).0;
  small = λ u. (let r = first_rooms net.units first cells u h in let f = h.few in omega (arith, r, f));
}

pub can_read : (N : ℕ) (net : NetShape) (first : List ℕ) (cells g : ℕ) → IsNet N net → IsNumbered net.units first cells → g < length net.groups → CanRead net.units first cells (units_of net g)
can_read N net first cells g n h lg = record {
  there = λ k l. (member N net n g k lg l).0;
  below = λ u i d l li. cell_is_below net first cells u (get_or (cells_of net u) i d) h l (n.cells u i d l li);
}

-- what is read has a number
pub reads_below : (N : ℕ) (net : NetShape) (first owner : List ℕ) (cells g : ℕ) → IsNet N net → IsNumbered net.units first cells → g < length net.groups → All (λ x. x < cells) (group_reads_of net.units first owner g (units_of net g))
reads_below N net first owner cells g n h lg = λ i d l.
    let x = get_or (group_reads_of net.units first owner g (units_of net g)) i d in
    let c = Contains-get_or (group_reads_of net.units first owner g (units_of net g)) i d l in
    let u = flat_found (λ (u : ℕ). unit_reads_of first owner g (cells_of net u)) (units_of net g) x c in
    let k = flat_found (cell_numbers first owner g) (cells_of net u.0) x u.2 in
    let lu : u.0 < length net.units = (n.members g u.0 lg u.1).0 in
    let r = cell_found first owner g k.0 x k.2 in
    let lawful : IsLawfulCell net u.0 k.0 = subst (IsLawfulCell net u.0) k.1.2 (n.cells u.0 k.1.0 k.0 lu k.1.1) in
    let w = cell_lawful net u.0 k.0 r.unit r.place lawful r.is in
    let b = number_below net.units first cells r.unit r.place h (omega (arith, w.0, lu)) w.1 in
    let e = r.number in
    omega (arith, b, e)

-- the groups of the cells, by their numbers
pub record AreOwners (net : NetShape) (first owner : List ℕ) : Type 0 where
  pub is : (g u i : ℕ) → IsCellOf net g u i → get_or owner (get_or first u 0 + i) 0 ≡ g

-- a cell of another group that a group reads
pub record ReadCell (net : NetShape) (first : List ℕ) (g x : ℕ) : Type 0 where
  pub owner : ℕ
  pub unit : ℕ
  pub place : ℕ
  pub cell : IsCellOf net owner unit place
  pub number : get_or first unit 0 + place ≡ x
  pub other : owner ≢ g
  pub reads : group_reads net unit place g ≡ true

pub read_found : (N : ℕ) (net : NetShape) (first owner : List ℕ) (g x : ℕ) → IsNet N net → AreOwners net first owner → g < length net.groups → Contains (group_reads_of net.units first owner g (units_of net g)) x → ReadCell net first g x
read_found N net first owner g x n own lg c =
    let u = flat_found (λ (u : ℕ). unit_reads_of first owner g (cells_of net u)) (units_of net g) x c in
    let k = flat_found (cell_numbers first owner g) (cells_of net u.0) x u.2 in
    let lu : u.0 < length net.units = (n.members g u.0 lg u.1).0 in
    let r = cell_found first owner g k.0 x k.2 in
    let lawful : IsLawfulCell net u.0 k.0 = subst (IsLawfulCell net u.0) k.1.2 (n.cells u.0 k.1.0 k.0 lu k.1.1) in
    let w = cell_lawful net u.0 k.0 r.unit r.place lawful r.is in
    let lv : r.unit < length net.units = omega (arith, w.0, lu) in
    let cell : IsCellOf net (group_of net r.unit) r.unit r.place = record { group = (n.grouped r.unit lv).0; is = refl; unit = lv; place = w.1 } in
    record {
      owner = group_of net r.unit;
      unit = r.unit;
      place = r.place;
      cell = cell;
      number = r.number;
      other = λ q. r.other (ap (λ (y : ℕ). get_or owner y 0) (sym r.number) ∙ own.is (group_of net r.unit) r.unit r.place cell ∙ q);
      reads = any_here (unit_reads net r.unit r.place) (units_of net g) u.0 u.1 (any_here (cell_reads r.unit r.place) (cells_of net u.0) k.0 k.1 r.is);
    }

pub read_into : (net : NetShape) (first owner : List ℕ) (g h v j : ℕ) → AreOwners net first owner → IsCellOf net h v j → h ≢ g → group_reads net v j g ≡ true → Contains (group_reads_of net.units first owner g (units_of net g)) (get_or first v 0 + j)
read_into net first owner g h v j own cell ne r =
    let x = get_or first v 0 + j in
    let u = any_found (unit_reads net v j) (units_of net g) r in
    let k = any_found (cell_reads v j) (cells_of net u.0) u.2 in
    let other : get_or owner x 0 ≢ g = λ q. ne (sym (own.is h v j cell) ∙ q) in
    flat_into (λ (u : ℕ). unit_reads_of first owner g (cells_of net u)) (units_of net g) u.0 x u.1 (flat_into (cell_numbers first owner g) (cells_of net u.0) k.0 x k.1 (cell_into first owner g k.0 v j k.2 other))

none : (m : ℕ) → (0 < m → ⊥) → m ≡ 0
none zero h = refl
none (suc m) h = absurd (h (omega arith))

-- so what is counted is what is read by the net
pub reads_counted : (N : ℕ) (net : NetShape) (first owner : List ℕ) (cells g h v j : ℕ) → IsNet N net → IsNumbered net.units first cells → AreOwners net first owner → g < length net.groups → IsCellOf net h v j → h ≢ g
    → group_reads net v j g ≡ nat_lt 0 (count_of (get_or first v 0 + j) (group_reads_of net.units first owner g (units_of net g)))
reads_counted N net first owner cells g h v j n num own lg cell ne =
    let x = get_or first v 0 + j in
    let xs = group_reads_of net.units first owner g (units_of net g) in
    elim (cases_Bool (group_reads net v j g)) [
      | inl t ↦ t ∙ sym (lt-ltb 0 (count_of x xs) (count_some x xs (read_into net first owner g h v j own cell ne t)))
      | inr f ↦ f ∙ sym (ap (nat_lt 0) (none (count_of x xs) (λ some.
          let r = read_found N net first owner g x n own lg (count_found x xs some) in
          let same = number_apart net.units first cells r.unit r.place v j num r.cell.unit r.cell.place cell.unit cell.place r.number in
          false≢true (sym f ∙ ap₂ (λ (a b : ℕ). group_reads net a b g) (sym same.0) (sym same.1) ∙ r.reads))))
    ]

pub own_uncounted : (N : ℕ) (net : NetShape) (first owner : List ℕ) (cells g v j : ℕ) → IsNet N net → IsNumbered net.units first cells → AreOwners net first owner → IsCellOf net g v j → count_of (get_or first v 0 + j) (group_reads_of net.units first owner g (units_of net g)) ≡ 0
own_uncounted N net first owner cells g v j n num own cell =
    let x = get_or first v 0 + j in
    let xs = group_reads_of net.units first owner g (units_of net g) in
    none (count_of x xs) (λ some.
    let r = read_found N net first owner g x n own cell.group (count_found x xs some) in
    let same = number_apart net.units first cells r.unit r.place v j num r.cell.unit r.cell.place cell.unit cell.place r.number in
    r.other (sym r.cell.is ∙ ap (group_of net) same.0 ∙ cell.is))
