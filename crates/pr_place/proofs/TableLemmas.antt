-- The tables of a net say what the rule asks for.
use Rattle.std.proofs.Common.{◌≡◌, ◌≢◌, ℕ, zero, suc, ◌+◌, ◌<◌, ◌≤◌, ◌==◌, Bool, false, nat_lt, List, [], ◌∷◌, ◌++◌, length, get_or, map, drop, drop-cons, append_assoc, replicate, if◌then◌else◌, refl, sym, ap, ap₂, ◌∙◌, subst, arith, inl, inr}
use Rattle.std.specs.List.{Contains, All, slice_range}
use Rattle.std.proofs.lemmas.Bool.{cases_lt}
use Rattle.std.proofs.lemmas.List.{length-replicate, get_or_default, get_or_past, same_lists}
use Rattle.std.proofs.lemmas.List.Elements.{Contains-get_or, All-append}
use Rattle.std.proofs.lemmas.Simd.{map-map}
use Rattle.pr_net.specs.declared.cells.Cell.{Cell}
use Rattle.pr_net.specs.Shape.{NetShape, units_of}
use Rattle.pr_net.specs.Nets.{IsNet}
use Rattle.pr_net.proofs.Lists.{at_head, in_tail}
use Rattle.pr_place.specs.declared.celltables.CellTables.{CellTables}
use Rattle.pr_place.specs.declared.plans.Plans.{Plans}
use Rattle.pr_place.specs.Greedy.{Spot, spots_of, needs_register}
use Rattle.pr_place.specs.Numbering.{IsNumbered, group_numbers, group_reads_of, reads_from, is_needed, needs_in, readers_from}
use Rattle.pr_place.specs.Registers.{count_of}
use Rattle.pr_place.specs.declared.lookups.Tables.{Tables}
use Rattle.pr_place.specs.Tables.{AreCells, ArePlans, AreTables, cells_by, reads_by}
use Rattle.pr_place.specs.Tracking.{Known, Numbered, Planned, Fixed, spot_number, needs_of, groups_of, needs_at, ops_of, uses_from, uses_of}
use Rattle.pr_place.specs.Plans.{lists_of, count_of_lists}
use Rattle.pr_place.specs.Waits.{Owned}
use Rattle.pr_place.proofs.Rule.{nothing}
use Rattle.pr_place.proofs.Tracking.{new_lives}
use Rattle.pr_place.proofs.Settling.{count_here, count_other}
use Rattle.pr_place.proofs.NumberLemmas.{first_long, number_below, number_apart, numbers_are, cell_at_spot}
use Rattle.pr_place.proofs.ReadLemmas.{AreOwners, ReadCell, read_found, read_into, reads_counted, own_uncounted, reads_below}
use Rattle.pr_place.proofs.MarkLemmas.{kept_is, outputs_long}
use Rattle.pr_place.proofs.ReaderLemmas.{owns}
use Rattle.pr_place.proofs.ListLemmas.{pieces, pieces_long, joined, Holds, piece_at, held_at, held_long, slice_map, all_joined}

-- ---- what the groups read, as a list
pub reads_long : (units : List (List Cell)) (first owner : List ℕ) (g : ℕ) (groups : List (List ℕ)) → length (reads_from units first owner g groups) ≡ length groups
reads_long units first owner g [] = refl
reads_long units first owner g (us ∷ groups) = ap suc (reads_long units first owner (suc g) groups)

reads_at : (units : List (List Cell)) (first owner : List ℕ) (a k : ℕ) (groups : List (List ℕ)) → k < length groups → get_or (reads_from units first owner a groups) k [] ≡ group_reads_of units first owner (a + k) (get_or groups k [])
reads_at units first owner a k [] l = absurd (omega (arith, l))
reads_at units first owner a zero (us ∷ groups) l = let e : a ≡ a + 0 = omega arith in ap (λ (g : ℕ). group_reads_of units first owner g us) e
reads_at units first owner a (suc k) (us ∷ groups) l =
    let e : suc a + k ≡ a + suc k = omega arith in
    reads_at units first owner (suc a) k groups (omega (arith, l)) ∙ ap (λ (g : ℕ). group_reads_of units first owner g (get_or groups k [])) e

pub reads_of_group : (net : NetShape) (first owner : List ℕ) (ops : List (List ℕ)) (g : ℕ) → ops ≡ reads_from net.units first owner 0 net.groups → g < length net.groups → get_or ops g [] ≡ group_reads_of net.units first owner g (units_of net g)
reads_of_group net first owner ops g e l =
    let z : 0 + g ≡ g = omega arith in
    ap (λ (os : List (List ℕ)). get_or os g []) e ∙ reads_at net.units first owner 0 g net.groups l ∙ ap (λ (h : ℕ). group_reads_of net.units first owner h (units_of net g)) z

-- one more of them is listed
pub reads_next : (units : List (List Cell)) (first owner items more whole : List ℕ) (g : ℕ) (groups : List (List ℕ)) → g < length groups → more ≡ items ++ group_reads_of units first owner g (get_or groups g [])
    → items ++ joined (reads_from units first owner g (drop g groups)) ≡ whole → more ++ joined (reads_from units first owner (g + 1) (drop (g + 1) groups)) ≡ whole
reads_next units first owner items more whole g groups l e h =
    let n : g + 1 ≡ suc g = omega arith in
    let here : joined (reads_from units first owner g (drop g groups)) ≡ group_reads_of units first owner g (get_or groups g []) ++ joined (reads_from units first owner (suc g) (drop (suc g) groups)) =
    ap (λ (gs : List (List ℕ)). joined (reads_from units first owner g gs)) (drop-cons groups g [] l) in
    let past : joined (reads_from units first owner (g + 1) (drop (g + 1) groups)) ≡ joined (reads_from units first owner (suc g) (drop (suc g) groups)) = ap (λ (m : ℕ). joined (reads_from units first owner m (drop m groups))) n in
    rw (e, past) (rw append_assoc (ap (λ (zs : List ℕ). items ++ zs) (sym here) ∙ h))

pub count-append : (x : ℕ) (xs ys : List ℕ) → count_of x (xs ++ ys) ≡ count_of x xs + count_of x ys
count-append x [] ys = omega arith
count-append x (y ∷ xs) ys = let ih = count-append x xs ys in let a : count_of x (y ∷ xs) ≡ (if y == x then 1 else 0) + count_of x xs = refl in let b : count_of x (y ∷ (xs ++ ys)) ≡ (if y == x then 1 else 0) + count_of x (xs ++ ys) = refl in omega (arith, ih, a, b)

-- how often a cell stands among all that is read
count_joined : (x g : ℕ) (ops : List (List ℕ)) → count_of x (joined ops) ≡ uses_from [] g ops x
count_joined x g [] = refl
count_joined x g (os ∷ ops) = count-append x os (joined ops) ∙ ap (λ (n : ℕ). count_of x os + n) (count_joined x (suc g) ops)

-- ---- the tables of the cells and of what is read
pub record Pieces (N : ℕ) (net : NetShape) (t : CellTables) (ops : List (List ℕ)) : Type 0 where
  pub net_is : IsNet N net
  pub cells : AreCells net t
  pub ops_is : ops ≡ reads_from net.units t.first.items t.owner.items 0 net.groups

owners_of : (N : ℕ) (net : NetShape) (t : CellTables) (ops : List (List ℕ)) → Pieces N net t ops → AreOwners net t.first.items t.owner.items
owners_of N net t ops h = record { is = h.cells.owner }

pub known_by : (N : ℕ) (net : NetShape) (t : CellTables) (ops : List (List ℕ)) → Pieces N net t ops → Known net t.first.items t.kept.items ops
known_by N net t ops h =
    let first = t.first.items in
    let owner = t.owner.items in
    let cells = length owner in
    let own = owners_of N net t ops h in
    record {
      long = ap length h.ops_is ∙ reads_long net.units first owner 0 net.groups;
      kept_is = λ x c. ap (λ (ks : List Bool). get_or ks (get_or first x.unit 0 + x.place) false) h.cells.kept ∙ kept_is N net first cells x.group x.unit x.place h.net_is h.cells.numbered c;
      reads = λ x g c lg ne. reads_counted N net first owner cells g x.group x.unit x.place h.net_is h.cells.numbered own lg c (λ q. ne (sym q))
          ∙ ap (λ (os : List ℕ). nat_lt 0 (count_of (get_or first x.unit 0 + x.place) os)) (sym (reads_of_group net first owner ops g h.ops_is lg));
      own = λ x c. ap (count_of (get_or first x.unit 0 + x.place)) (reads_of_group net first owner ops x.group h.ops_is c.group) ∙ own_uncounted N net first owner cells x.group x.unit x.place h.net_is h.cells.numbered own c;
    }

found_in : (N : ℕ) (net : NetShape) (t : CellTables) (ops : List (List ℕ)) → Pieces N net t ops → (g x : ℕ) → g < length net.groups → Contains (get_or ops g []) x → ReadCell net t.first.items g x
found_in N net t ops h g x lg c = read_found N net t.first.items t.owner.items g x h.net_is (owners_of N net t ops h) lg (subst (λ (os : List ℕ). Contains os x) (reads_of_group net t.first.items t.owner.items ops g h.ops_is lg) c)

pub numbered_by : (N : ℕ) (net : NetShape) (t : CellTables) (ops : List (List ℕ)) → Pieces N net t ops → Numbered net t.first.items ops (length t.owner.items)
numbered_by N net t ops h =
    let first = t.first.items in
    let cells = length t.owner.items in
    record {
      apart = λ g u i k v j a b e. number_apart net.units first cells u i v j h.cells.numbered a.unit a.place b.unit b.place e;
      inside = λ g u i a. number_below net.units first cells u i h.cells.numbered a.unit a.place;
      read_cells = λ g x lg c. (let r = found_in N net t ops h g x lg c in (r.owner, r.unit, r.place, r.cell, r.number, r.other, r.reads));
    }

pub owned_by_cells : (N : ℕ) (net : NetShape) (t : CellTables) (ops : List (List ℕ)) → Pieces N net t ops → Owned net t.first.items ops t.owner.items
owned_by_cells N net t ops h = record {
  owner_is = h.cells.owner;
  counted = λ g k v j lg c ne r. subst (λ (os : List ℕ). Contains os (get_or t.first.items v 0 + j)) (sym (reads_of_group net t.first.items t.owner.items ops g h.ops_is lg)) (read_into net t.first.items t.owner.items g k v j (owners_of N net t ops h) c ne r);
}

pub uses_by : (N : ℕ) (net : NetShape) (t : CellTables) (ops : List (List ℕ)) → Pieces N net t ops → (x : ℕ) → get_or t.uses.items x 0 ≡ uses_of ops [] x
uses_by N net t ops h x = h.cells.uses x ∙ ap (λ (os : List (List ℕ)). uses_of os [] x) (sym h.ops_is)

-- a cell needs a register where the tables say so
need_is : (N P : ℕ) (net : NetShape) (t : CellTables) (ops : List (List ℕ)) → Pieces N net t ops → (g : ℕ) (x : Spot) → g < length net.groups → Contains (spots_of net g) x → is_needed t.kept.items t.uses.items (spot_number t.first.items x) ≡ needs_register net g x
need_is N P net t ops h g x lg c =
    new_lives N P net t.first.items t.kept.items ops 0 [] t.uses.items (record { group = g; unit = x.unit; place = x.place; stage = 0; col = 0; reg = 0 }) (known_by N net t ops h) (nothing N P net 0)
    (cell_at_spot N net h.net_is g x lg c) c refl (uses_by N net t ops h)

map_same : (f g : Spot → Bool) (xs : List Spot) → ((x : Spot) → Contains xs x → f x ≡ g x) → map f xs ≡ map g xs
map_same f g [] h = refl
map_same f g (x ∷ xs) h = ap₂ (λ (a : Bool) (rest : List Bool). a ∷ rest) (h x (at_head x xs)) (map_same f g xs (λ y c. h y (in_tail x y xs c)))

needs_are : (N P : ℕ) (net : NetShape) (t : CellTables) (ops : List (List ℕ)) → Pieces N net t ops → (g : ℕ) → g < length net.groups → needs_in t.kept.items t.uses.items (group_numbers net.units t.first.items (units_of net g)) ≡ needs_of net g
needs_are N P net t ops h g lg =
    ap (needs_in t.kept.items t.uses.items) (numbers_are net t.first.items (units_of net g))
    ∙ map-map (is_needed t.kept.items t.uses.items) (spot_number t.first.items) (spots_of net g)
    ∙ map_same (λ (x : Spot). is_needed t.kept.items t.uses.items (spot_number t.first.items x)) (needs_register net g) (spots_of net g) (λ x c. need_is N P net t ops h g x lg c)

-- ---- the plans
planned_needs : (N P : ℕ) (net : NetShape) (t : CellTables) (ops : List (List ℕ)) (plans : Plans) → Pieces N net t ops → ArePlans net t plans → (g : ℕ) → g < length net.groups → needs_at plans g ≡ needs_of net g
planned_needs N P net t ops plans h q g lg = q.needs g lg ∙ needs_are N P net t ops h g lg

pub planned_by : (N P : ℕ) (net : NetShape) (t : CellTables) (ops : List (List ℕ)) (plans : Plans) → Pieces N net t ops → ArePlans net t plans → Planned net t.first.items plans
planned_by N P net t ops plans h q = record {
  long = q.long;
  needs = λ g lg. planned_needs N P net t ops plans h q g lg;
  cells = λ g lg. q.cells g lg ∙ numbers_are net t.first.items (units_of net g);
}

pub kept_long : (net : NetShape) (t : CellTables) → AreCells net t → length t.kept.items ≡ length t.owner.items
kept_long net t h = ap length h.kept ∙ outputs_long t.first.items (replicate (length t.owner.items) false) net.outputs ∙ length-replicate (length t.owner.items) false

pub fixed_by : (N P : ℕ) (net : NetShape) (t : CellTables) (plans : Plans) (class : List ℕ) → Pieces N net t (ops_of plans) → ArePlans net t plans → N ≤ 64 → 1 ≤ P → P ≤ 16 → length class ≡ groups_of plans → ((g : ℕ) → get_or class g 0 < 64)
    → Fixed N P net t.first.items t.kept.items plans class (length t.owner.items)
fixed_by N P net t plans class h q columns registers few long small = record {
  net_is = h.net_is;
  columns = columns;
  registers = registers;
  few_registers = few;
  known = known_by N net t (ops_of plans) h;
  numbered = numbered_by N net t (ops_of plans) h;
  planned = planned_by N P net t (ops_of plans) plans h q;
  kept_long = kept_long net t h.cells;
  class_long = long ∙ q.long;
  class_small = small;
}

pub alike_by : (N P : ℕ) (net : NetShape) (t : CellTables) (plans : Plans) (class : List ℕ) → Pieces N net t (ops_of plans) → ArePlans net t plans
    → ((g h : ℕ) → g < groups_of plans → h < groups_of plans → get_or class g 0 ≡ get_or class h 0 → get_or class g 0 ≢ 63 → needs_at plans g ≡ needs_at plans h)
    → (g h : ℕ) → g < length net.groups → h < length net.groups → get_or class g 0 ≡ get_or class h 0 → get_or class g 0 ≢ 63 → needs_of net g ≡ needs_of net h
alike_by N P net t plans class p q same g h lg lh e ne =
    let long = q.long in
    sym (planned_needs N P net t (ops_of plans) plans p q g lg) ∙ same g h (omega (arith, long, lg)) (omega (arith, long, lh)) e ne ∙ planned_needs N P net t (ops_of plans) plans p q h lh

-- the lists of the cells and of what is read are those of the plans
pub ops_are : (net : NetShape) (first owner starts items : List ℕ) → Holds (reads_by net first owner) (length net.groups) starts items → pieces starts items ≡ reads_from net.units first owner 0 net.groups
ops_are net first owner starts items h =
    let long = held_long (reads_by net first owner) (length net.groups) starts items h in
    same_lists (pieces starts items) (reads_from net.units first owner 0 net.groups) (long ∙ sym (reads_long net.units first owner 0 net.groups)) (λ g d l.
    let lg : g < length net.groups = omega (arith, l, long) in
    get_or_default (pieces starts items) g d [] l ∙ held_at (reads_by net first owner) (length net.groups) starts items g h lg
    ∙ sym (reads_of_group net first owner (reads_from net.units first owner 0 net.groups) g refl lg)
    ∙ sym (get_or_default (reads_from net.units first owner 0 net.groups) g d [] (subst (λ (n : ℕ). g < n) (long ∙ sym (reads_long net.units first owner 0 net.groups)) l)))

pub needs_held : (net : NetShape) (first uses starts items : List ℕ) (kept needs : List Bool) (g : ℕ) → Holds (cells_by net first) (length net.groups) starts items → needs ≡ needs_in kept uses items → g < length net.groups → get_or (pieces starts needs) g [] ≡ needs_in kept uses (cells_by net first g)
needs_held net first uses starts items kept needs g h e l =
    piece_at starts needs g (let n = h.long in omega (arith, n, l))
    ∙ ap (λ (ns : List Bool). slice_range ns (get_or starts g 0) (get_or starts (g + 1) 0)) e
    ∙ slice_map (is_needed kept uses) items (get_or starts g 0) (get_or starts (g + 1) 0)
    ∙ ap (needs_in kept uses) (h.is g l)

pub uses_are : (net : NetShape) (first owner reads uses : List ℕ) → reads ≡ joined (reads_from net.units first owner 0 net.groups) → ((x : ℕ) → get_or uses x 0 ≡ count_of x reads) → (x : ℕ) → get_or uses x 0 ≡ uses_of (reads_from net.units first owner 0 net.groups) [] x
uses_are net first owner reads uses e h x = h x ∙ ap (count_of x) e ∙ count_joined x 0 (reads_from net.units first owner 0 net.groups)

pub reads_inside : (N : ℕ) (net : NetShape) (first owner : List ℕ) → IsNet N net → IsNumbered net.units first (length owner) → All (λ x. x < length owner) (joined (reads_from net.units first owner 0 net.groups))
reads_inside N net first owner n num =
    let ops = reads_from net.units first owner 0 net.groups in
    all_joined (λ x. x < length owner) ops (λ g d l.
    let lg : g < length net.groups = subst (λ (k : ℕ). g < k) (reads_long net.units first owner 0 net.groups) l in
    let os : get_or ops g d ≡ group_reads_of net.units first owner g (units_of net g) = get_or_default ops g d [] l ∙ reads_of_group net first owner ops g refl lg in
    subst (λ (xs : List ℕ). All (λ x. x < length owner) xs) (sym os) (reads_below N net first owner (length owner) g n num lg))

-- ---- who reads whom
pub reads_there : (N : ℕ) (net : NetShape) (t : CellTables) (ops : List (List ℕ)) → Pieces N net t ops → All (All (λ x. x < length t.owner.items)) ops
reads_there N net t ops h = λ g d l k e lk.
    let lg : g < length net.groups = subst (λ (n : ℕ). g < n) (ap length h.ops_is ∙ reads_long net.units t.first.items t.owner.items 0 net.groups) l in
    let os : get_or ops g d ≡ group_reads_of net.units t.first.items t.owner.items g (units_of net g) = get_or_default ops g d [] l ∙ reads_of_group net t.first.items t.owner.items ops g h.ops_is lg in
    (subst (λ (xs : List ℕ). All (λ x. x < length t.owner.items) xs) (sym os) (reads_below N net t.first.items t.owner.items (length t.owner.items) g h.net_is h.cells.numbered lg)) k e lk

pub owners_there : (N : ℕ) (net : NetShape) (t : CellTables) (ops : List (List ℕ)) (n : ℕ) → Pieces N net t ops → n ≡ length net.groups → All (All (λ x. get_or t.owner.items x 0 < n)) ops
owners_there N net t ops n h en = λ g d l k e lk.
    let lg : g < length net.groups = subst (λ (m : ℕ). g < m) (ap length h.ops_is ∙ reads_long net.units t.first.items t.owner.items 0 net.groups) l in
    let os : get_or ops g d ≡ get_or ops g [] = get_or_default ops g d [] l in
    let x = get_or (get_or ops g d) k e in
    let r = found_in N net t ops h g x lg (subst (λ (xs : List ℕ). Contains xs x) os (Contains-get_or (get_or ops g d) k e lk)) in
    let own : get_or t.owner.items x 0 ≡ r.owner = ap (λ (y : ℕ). get_or t.owner.items y 0) (sym r.number) ∙ h.cells.owner r.owner r.unit r.place r.cell in
    let b = r.cell.group in
    omega (arith, own, b, en)

count_copies : (x n : ℕ) → count_of x (replicate n x) ≡ n
count_copies x zero = refl
count_copies x (suc n) = count_here x (replicate n x) ∙ (let ih = count_copies x n in omega (arith, ih))

count_others : (x y n : ℕ) → y ≢ x → count_of x (replicate n y) ≡ 0
count_others x y zero ne = refl
count_others x y (suc n) ne = count_other x y (replicate n y) ne ∙ count_others x y n ne

-- groups from one on are no readers of the number before
none_before : (owner : List ℕ) (g a h : ℕ) (ops : List (List ℕ)) → h < a → count_of h (readers_from owner g a ops) ≡ 0
none_before owner g a h [] l = refl
none_before owner g a h (os ∷ ops) l =
    let e = count-append h (replicate (count_of g (owns owner os)) a) (readers_from owner g (suc a) ops) in
    let own = count_others h a (count_of g (owns owner os)) (λ q. (let z : a ≡ h = q in omega (arith, l, z))) in
    let rest = none_before owner g (suc a) h ops (omega (arith, l)) in
    omega (arith, e, own, rest)

pub readers_at : (owner : List ℕ) (g a k : ℕ) (ops : List (List ℕ)) → k < length ops → count_of (a + k) (readers_from owner g a ops) ≡ count_of g (owns owner (get_or ops k []))
readers_at owner g a k [] l = absurd (omega (arith, l))
readers_at owner g a zero (os ∷ ops) l =
    let z : a + 0 ≡ a = omega arith in
    let n = count_of g (owns owner os) in
    let e = count-append a (replicate n a) (readers_from owner g (suc a) ops) in
    let own = count_copies a n in
    let rest = none_before owner g (suc a) a ops (omega arith) in
    ap (λ (m : ℕ). count_of m (readers_from owner g a (os ∷ ops))) z ∙ omega (arith, e, own, rest)
readers_at owner g a (suc k) (os ∷ ops) l =
    let z : a + suc k ≡ suc a + k = omega arith in
    let n = count_of g (owns owner os) in
    let e = count-append (suc a + k) (replicate n a) (readers_from owner g (suc a) ops) in
    let own = count_others (suc a + k) a n (λ q. (let y : a ≡ suc a + k = q in omega (arith, y))) in
    let ih = readers_at owner g (suc a) k ops (omega (arith, l)) in
    ap (λ (m : ℕ). count_of m (readers_from owner g a (os ∷ ops))) z ∙ e ∙ omega (arith, own, ih)

below_first : (x : ℕ) (xs : List ℕ) (b : ℕ) → x < b → All (λ y. y < b) xs → All (λ y. y < b) (x ∷ xs)
below_first x xs b l h zero d k = l
below_first x xs b l h (suc i) d k = h i d (omega (arith, k))

copies_below : (n x b : ℕ) → x < b → All (λ y. y < b) (replicate n x)
copies_below zero x b l = λ k d h. absurd (omega (arith, h))
copies_below (suc n) x b l = below_first x (replicate n x) b l (copies_below n x b l)

pub readers_below : (owner : List ℕ) (g a n : ℕ) (ops : List (List ℕ)) → a + length ops ≤ n → All (λ h. h < n) (readers_from owner g a ops)
readers_below owner g a n [] l = λ k d h. absurd (omega (arith, h))
readers_below owner g a n (os ∷ ops) l =
    All-append (λ (h : ℕ). h < n) (replicate (count_of g (owns owner os)) a) (readers_from owner g (suc a) ops) (copies_below (count_of g (owns owner os)) a n (omega (arith, l))) (readers_below owner g (suc a) n ops (omega (arith, l)))

pub tables_are : (N P : ℕ) (net : NetShape) (t : Tables) → Pieces N net t.cells (ops_of t.plans) → ArePlans net t.cells t.plans → N ≤ 64 → 1 ≤ P → P ≤ 16
    → length t.class.items ≡ groups_of t.plans → ((g : ℕ) → get_or t.class.items g 0 < 64)
    → ((g h : ℕ) → g < groups_of t.plans → h < groups_of t.plans → get_or t.class.items g 0 ≡ get_or t.class.items h 0 → get_or t.class.items g 0 ≢ 63 → needs_at t.plans g ≡ needs_at t.plans h)
    → count_of_lists t.readers ≡ groups_of t.plans → ((g : ℕ) → g < groups_of t.plans → get_or (lists_of t.readers) g [] ≡ readers_from t.cells.owner.items g 0 (ops_of t.plans))
    → AreTables N P net t
tables_are N P net t h q columns registers few class_long small alike readers_long readers =
    let plans = t.plans in
    let owner = t.cells.owner.items in
    let ops = ops_of plans in
    let long = q.long in
    let ops_long : length ops ≡ length net.groups = ap length h.ops_is ∙ reads_long net.units t.cells.first.items owner 0 net.groups in
    record {
      fixed = fixed_by N P net t.cells plans t.class.items h q columns registers few class_long small;
      first_long = first_long net.units t.cells.first.items (length t.cells.owner.items) h.cells.numbered;
      owned = owned_by_cells N net t.cells ops h;
      uses_long = h.cells.uses_long;
      uses = uses_by N net t.cells ops h;
      alike = alike_by N P net t.cells plans t.class.items h q alike;
      readers_long = readers_long ∙ long;
      readers = λ g k lg lk. (let z : 0 + k ≡ k = omega arith in
          ap (count_of k) (readers g (omega (arith, lg, long))) ∙ ap (λ (m : ℕ). count_of m (readers_from owner g 0 ops)) (sym z) ∙ readers_at owner g 0 k ops (omega (arith, lk, ops_long)));
      readers_there = λ g. elim (cases_lt g (groups_of plans)) [
        | inl low ↦ subst (λ (xs : List ℕ). All (λ k. k < length net.groups) xs) (sym (readers g low)) (readers_below owner g 0 (length net.groups) ops (omega (arith, ops_long)))
        | inr high ↦ subst (λ (xs : List ℕ). All (λ k. k < length net.groups) xs) (sym (get_or_past (lists_of t.readers) g [] (let s = pieces_long t.readers.starts.items t.readers.items.items in omega (arith, s, readers_long, high)))) (λ k d l. absurd (omega (arith, l)))
      ];
    }
