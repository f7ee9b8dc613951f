-- How placing begins and ends.
use Rattle.std.proofs.Common.{◌≡◌, ℕ, zero, suc, ◌+◌, ◌-◌, ◌<◌, ◌≤◌, ◌==◌, ◌&&◌, Bool, true, false, not, List, [], ◌∷◌, ◌++◌, length, get_or, map, replicate, Option, None, Some, refl, sym, ap, ap₂, ◌∙◌, subst, inl, inr, arith}
use Rattle.std.specs.List.{Contains, find, range_with_len}
use Rattle.std.specs.Option.{is_some, unwrap_or}
use Rattle.std.proofs.lemmas.Bool.{cases_Bool, false≢true, not-false}
use Rattle.std.proofs.lemmas.List.{length-replicate, get_or-replicate, get_or_default}
use Rattle.pr_net.specs.Shape.{NetShape, cells_of}
use Rattle.pr_net.specs.Nets.{group_of}
use Rattle.pr_net.proofs.Lists.{sought, all_from, in_range, range_below, at_head, in_tail}
use Rattle.pr_place.specs.declared.course.Course.{Course}
use Rattle.pr_place.specs.declared.lookups.Tables.{Tables}
use Rattle.pr_place.specs.declared.starts.Start.{Start}
use Rattle.pr_place.specs.Placements.{HomeShape, PlacementShape}
use Rattle.pr_place.specs.Greedy.{Seat, groups_in, is_placed, seat_of, home_in, homes_in, placed_after, all_placed, IsFilled, IsNoFit, number_of_group}
use Rattle.pr_place.specs.Sound.{IsCell}
use Rattle.pr_place.specs.Registers.{Progress, spotted, count_of}
use Rattle.pr_place.specs.Tracking.{ops_of}
use Rattle.pr_place.specs.Tables.{AreTables, IsStart}
use Rattle.pr_place.specs.Opening.{Staged, left_of, Opening}
use Rattle.pr_place.specs.Courses.{Opens, IsStuck, first_open, home_at}
use Rattle.pr_place.proofs.Uses.{none_left, all_read}
use Rattle.pr_place.proofs.Tables.{find_same}
use Rattle.pr_place.proofs.Filling.{first_is}
use Rattle.pr_place.proofs.Stages.{left_at_first}
use Rattle.pr_place.proofs.Stripes.{placed_sound}
use Rattle.pr_place.proofs.Soundness.{Setting, at, first_cell, cell_of}
use Rattle.pr_place.proofs.Opened.{cell_at, spot_at}
use Rattle.pr_place.proofs.Waking.{ready_is}

-- ---- nothing is placed
pub one_none_more : (n : ℕ) → replicate {A = Option ℕ} n None ++ None ∷ [] ≡ replicate (suc n) None
one_none_more zero = refl
one_none_more (suc n) = ap (λ (os : List (Option ℕ)). None ∷ os) (one_none_more n)

none_after : (N P : ℕ) (net : NetShape) → placed_after N P net 0 ≡ []
unfolding placed_after
none_after N P net = refl

left_start : (net : NetShape) → left_of net [] ≡ length net.groups
unfolding left_of
left_start net = left_at_first (length net.groups) 0

none_staged : (net : NetShape) → Staged net [] (replicate (length net.groups) None)
none_staged net = record {
  long = length-replicate {A = Option ℕ} (length net.groups) None;
  stands = λ t c. absurd (omega (arith, c.1));
  placed_is = λ g l. sym (ap (λ (o : Option ℕ). is_some o) (get_or-replicate {A = Option ℕ} (length net.groups) g None None l));
}

pub opens_first : (N P : ℕ) (net : NetShape) (t : Tables) (start : Start) (course : Course) → AreTables N P net t → IsStart N P net t start → course.stage ≡ 0 → course.left ≡ length net.groups → course.progress ≡ start.progress → course.candidates.ready.items ≡ start.ready.items
    → course.candidates.summary.items ≡ start.summary.items → course.waits.items ≡ start.waits.items → course.stages.items ≡ replicate (length net.groups) None → Opens N P net t course
opens_first N P net t start course tables h stage left progress ready summary waits stages =
    let none = none_after N P net in
    let f = h.filling in
    let able = λ (g : ℕ) (l : g < length net.groups). ready_is N P net t.cells.first.items (ops_of t.plans) t.cells.owner.items (length t.cells.owner.items) 0 g [] tables.fixed.numbered tables.owned (λ k c. absurd (omega (arith, c.1))) (cell_at N net tables.fixed.net_is) (spot_at N net tables.fixed.net_is) l in
    let opening : Opening N P net t start.progress start.ready.items start.summary.items start.waits.items (replicate (length net.groups) None) 0 [] = record {
      uses_long = f.uses_long;
      ready_long = f.ready_long;
      blocks = f.blocks;
      covered = f.covered;
      tracks = f.tracks;
      candidates = record {
        ready_is = λ g l. f.offers.ready_is g l (omega arith) ∙ ap (λ (b : Bool). not (is_placed [] g) && b) (able g l) ∙ ap (λ (k : ℕ). not (is_placed [] g) && (k == 0)) (sym (h.waits g l));
        class_is = λ g l s. f.offers.class_is g l (omega arith) s;
      };
      waiting = record { long = h.waits_long; is = h.waits };
      standing = none_staged net;
    } in
    let at : Opening N P net t course.progress course.candidates.ready.items course.candidates.summary.items course.waits.items course.stages.items 0 [] =
    subst (λ (s : Progress). Opening N P net t s course.candidates.ready.items course.candidates.summary.items course.waits.items course.stages.items 0 []) (sym progress)
    (subst (λ (r : List ℕ). Opening N P net t start.progress r course.candidates.summary.items course.waits.items course.stages.items 0 []) (sym ready)
    (subst (λ (r : List ℕ). Opening N P net t start.progress start.ready.items r course.waits.items course.stages.items 0 []) (sym summary)
    (subst (λ (r : List ℕ). Opening N P net t start.progress start.ready.items start.summary.items r course.stages.items 0 []) (sym waits)
    (subst (λ (r : List (Option ℕ)). Opening N P net t start.progress start.ready.items start.summary.items start.waits.items r 0 []) (sym stages) opening)))) in
    record {
      spots = ap (λ (s : Progress). length s.spots) progress ∙ h.spots;
      opening = subst (λ (k : ℕ). Opening N P net t course.progress course.candidates.ready.items course.candidates.summary.items course.waits.items course.stages.items k (placed_after N P net k)) (sym stage)
          (subst (λ (ps : List Seat). Opening N P net t course.progress course.candidates.ready.items course.candidates.summary.items course.waits.items course.stages.items 0 ps) (sym none) at);
      left = left ∙ sym (left_start net) ∙ ap (left_of net) (sym none) ∙ ap (λ (k : ℕ). left_of net (placed_after N P net k)) (sym stage);
      each = λ s l. absurd (omega (arith, l, stage));
    }

-- ---- none is left exactly where all are placed
all_if_none : (net : NetShape) (placed : List Seat) → left_of net placed ≡ 0 → all_placed net placed ≡ true
unfolding left_of
all_if_none net placed e = all_from (is_placed placed) (groups_in net) (λ g c. elim (cases_Bool (is_placed placed g)) [
  | inl t ↦ t
  | inr f ↦
      (let l : g < length net.groups = range_below (length net.groups) g c in
      let ops = replicate (length net.groups) (0 ∷ []) in
      let long : length ops ≡ length net.groups = length-replicate {A = List ℕ} (length net.groups) (0 ∷ []) in
      let z : 0 + g ≡ g = omega arith in
      let none = none_left placed 0 ops 0 g e (omega (arith, l, long)) (subst (λ (k : ℕ). is_placed placed k ≡ false) (sym z) f) in
      let one : count_of 0 (get_or ops g []) ≡ 1 = ap (count_of 0) (get_or-replicate {A = List ℕ} (length net.groups) g (0 ∷ []) [] l) in
      absurd (omega (arith, none, one)))
])

none_if_all : (net : NetShape) (placed : List Seat) → ((g : ℕ) → g < length net.groups → is_placed placed g ≡ true) → left_of net placed ≡ 0
unfolding left_of
none_if_all net placed h =
    let ops = replicate (length net.groups) (0 ∷ []) in
    let long : length ops ≡ length net.groups = length-replicate {A = List ℕ} (length net.groups) (0 ∷ []) in
    all_read placed 0 ops 0 (λ k l n. absurd (let z : 0 + k ≡ k = omega arith in false≢true (sym (subst (λ (q : ℕ). is_placed placed q ≡ false) z n) ∙ h k (omega (arith, l, long)))))

pub filled_now : (N P : ℕ) (net : NetShape) (t : Tables) (course : Course) → Opens N P net t course → course.left ≡ 0 → IsFilled N P net course.stage
filled_now N P net t course h none = record { all = all_if_none net (placed_after N P net course.stage) (sym h.left ∙ none); each = h.each }

-- ---- the homes
map_same : {X : Type 0} (f k : ℕ → X) (xs : List ℕ) → ((x : ℕ) → Contains xs x → f x ≡ k x) → map f xs ≡ map k xs
map_same f k [] h = refl
map_same {X} f k (x ∷ xs) h = ap₂ (λ (y : X) (ys : List X). y ∷ ys) (h x (at_head x xs)) (map_same f k xs (λ y c. h y (in_tail x y xs c)))

-- the placement that the course has come to
ended : (N P : ℕ) (net : NetShape) → ℕ → PlacementShape
ended N P net stage = record { stages = stage; homes = homes_in net (placed_after N P net stage) }

setting : (N P : ℕ) (net : NetShape) (t : Tables) (course : Course) → AreTables N P net t → 2 ≤ P → Opens N P net t course → course.left ≡ 0 → Setting N P net (ended N P net course.stage)
unfolding ended
setting N P net t course tables hp h none = record {
  net_is = tables.fixed.net_is;
  registers = hp;
  greedy = record { filled = filled_now N P net t course h none; homes = refl };
  sound = placed_sound N P net course.stage tables.fixed.net_is tables.fixed.registers;
}

abbrev pub home_by : ℕ → ℕ → List ℕ → HomeShape
home_by stage col regs = record { stage = stage; col = col; regs = regs }

pub same_home : {a b d e : ℕ} {xs ys : List ℕ} → a ≡ b → d ≡ e → xs ≡ ys → home_by a d xs ≡ home_by b e ys
same_home {a} {b} {d} {e} {xs} {ys} p q r = ap (λ (k : ℕ). home_by k d xs) p ∙ ap (λ (k : ℕ). home_by b k xs) q ∙ ap (home_by b e) r

-- where the tables are looked at
pub at_now : {X : Type 0} (xs : List X) (i : ℕ) (x d : X) → x ≡ get_or xs i x → i < length xs → x ≡ get_or xs i d
at_now xs i x d is l = is ∙ get_or_default xs i x d l

pub cells_inside : (N P : ℕ) (net : NetShape) (t : Tables) (u : ℕ) → AreTables N P net t → u < length net.units → get_or t.cells.first.items u 0 + length (cells_of net u) ≤ length t.cells.owner.items
cells_inside N P net t u tables l =
    let n = tables.fixed.net_is in
    let some = n.filled u l in
    let last : IsCell net u (length (cells_of net u) - 1) = record { unit = l; place = omega (arith, some) } in
    let inside = tables.fixed.numbered.inside (group_of net u) u (length (cells_of net u) - 1) (cell_of N net n u (length (cells_of net u) - 1) last) in
    omega (arith, inside, some)

pub first_inside : (N P : ℕ) (net : NetShape) (t : Tables) (u : ℕ) → AreTables N P net t → u < length net.units → get_or t.cells.first.items u 0 < length t.cells.owner.items
first_inside N P net t u tables l = let some = tables.fixed.net_is.filled u l in let all = cells_inside N P net t u tables l in omega (arith, some, all)

pub owner_inside : (N P : ℕ) (net : NetShape) (t : Tables) (u : ℕ) → AreTables N P net t → u < length net.units → get_or t.cells.owner.items (get_or t.cells.first.items u 0) 0 < length net.groups
owner_inside N P net t u tables l =
    let n = tables.fixed.net_is in
    let cell = cell_of N net n u 0 (first_cell N net n u l) in
    let first = get_or t.cells.first.items u 0 in
    let z : first ≡ first + 0 = omega arith in
    let own : get_or t.cells.owner.items first 0 ≡ group_of net u = ap (λ (k : ℕ). get_or t.cells.owner.items k 0) z ∙ tables.owned.owner_is (group_of net u) u 0 cell in
    subst (λ (k : ℕ). k < length net.groups) (sym own) cell.group

pub open_below : (stages : List (Option ℕ)) (g : ℕ) → first_open stages ≡ Some g → g < length stages
open_below stages g e = let f = first_is (λ k. not (is_some (get_or stages k None))) (length stages) 0 g e in let h = f.high in omega (arith, h)

pub home_is_at : (N P : ℕ) (net : NetShape) (t : Tables) (course : Course) → AreTables N P net t → 2 ≤ P → Opens N P net t course → course.left ≡ 0 → (u : ℕ) → u < length net.units → home_at net t course u ≡ home_in net (placed_after N P net course.stage) u
unfolding ended
home_is_at N P net t course tables hp h none u l =
    let placed = placed_after N P net course.stage in
    let s = setting N P net t course tables hp h none in
    let first = get_or t.cells.first.items u 0 in
    let seen = λ (i : ℕ) (c : IsCell net u i). at N P net (ended N P net course.stage) s u i c in
    let spot_is = λ (i : ℕ) (c : IsCell net u i). (let a = seen i c in
    let e : spotted course.progress.spots (first + i) ≡ (a.seat.col, a.seat.reg) = ap₂ (λ (v j : ℕ). spotted course.progress.spots (get_or t.cells.first.items v 0 + j)) (sym a.unit) (sym a.place) ∙ h.opening.tracks.spots_is a.seat a.there in e) in
    let head = first_cell N net tables.fixed.net_is u l in
    let a = seen 0 head in
    let z : first ≡ first + 0 = omega arith in
    let cell = cell_of N net tables.fixed.net_is u 0 head in
    let own : get_or t.cells.owner.items first 0 ≡ a.seat.group = ap (λ (k : ℕ). get_or t.cells.owner.items k 0) z ∙ tables.owned.owner_is (group_of net u) u 0 cell ∙ sym a.group in
    let stage : unwrap_or (get_or course.stages.items (get_or t.cells.owner.items first 0) None) 0 ≡ (seat_of placed u 0).stage = ap (λ (g : ℕ). unwrap_or (get_or course.stages.items g None) 0) own ∙ ap (λ (o : Option ℕ). unwrap_or o 0) (h.opening.standing.stands a.seat a.there) ∙ sym (ap (λ (q : Seat). q.stage) a.found) in
    let col : (spotted course.progress.spots first).0 ≡ (seat_of placed u 0).col = ap (λ (k : ℕ). (spotted course.progress.spots k).0) z ∙ ap (λ (q : ℕ × ℕ). q.0) (spot_is 0 head) ∙ sym (ap (λ (q : Seat). q.col) a.found) in
    let regs : map (λ i. (spotted course.progress.spots (first + i)).1) (range_with_len 0 (length (cells_of net u))) ≡ map (λ i. (seat_of placed u i).reg) (range_with_len 0 (length (cells_of net u))) =
    map_same (λ i. (spotted course.progress.spots (first + i)).1) (λ i. (seat_of placed u i).reg) (range_with_len 0 (length (cells_of net u))) (λ i m.
    let c : IsCell net u i = record { unit = l; place = range_below (length (cells_of net u)) i m } in
    ap (λ (q : ℕ × ℕ). q.1) (spot_is i c) ∙ sym (ap (λ (q : Seat). q.reg) (seen i c).found)) in
    same_home stage col regs

pub homes_are : (N P : ℕ) (net : NetShape) (t : Tables) (course : Course) → AreTables N P net t → 2 ≤ P → Opens N P net t course → course.left ≡ 0 → map (home_at net t course) (range_with_len 0 (length net.units)) ≡ homes_in net (placed_after N P net course.stage)
homes_are N P net t course tables hp h none = map_same (home_at net t course) (home_in net (placed_after N P net course.stage)) (range_with_len 0 (length net.units)) (λ u c. home_is_at N P net t course tables hp h none u (range_below (length net.units) u c))

-- ---- a group is left
pub no_fit_now : (N P : ℕ) (net : NetShape) (stages : List (Option ℕ)) (number : ℕ) → IsStuck N P net stages → ((g : ℕ) → first_open stages ≡ Some g → number ≡ number_of_group net g) → IsNoFit N P net number
no_fit_now N P net stages number s h = elim (sought (λ g. not (is_some (get_or stages g None))) (range_with_len 0 (length stages))) [
  | inl f ↦ record {
    stuck = s.stage;
    none = s.idle;
    group = f.0;
    least = same ∙ f.1.is;
    is = h f.0 (f.1.is);
  }
  | inr m ↦ absurd (let e = none_if_all net (placed_after N P net s.stage) (λ g l.
      s.standing.placed_is g l ∙ not-false (is_some (get_or stages g None)) (m.none g (in_range (length stages) g (let q = s.standing.long in omega (arith, l, q))))) in
      let some = s.some_left in
      omega (arith, e, some))
]
  where
    same : find (λ g. not (is_placed (placed_after N P net s.stage) g)) (groups_in net) ≡ first_open stages
    same = find_same (λ g. not (is_placed (placed_after N P net s.stage) g)) (λ g. not (is_some (get_or stages g None))) 0 (length net.groups) (λ x lo hi. ap not (s.standing.placed_is x (omega (arith, hi))))
        ∙ ap (λ (n : ℕ). find (λ g. not (is_some (get_or stages g None))) (range_with_len 0 n)) (sym s.standing.long)
