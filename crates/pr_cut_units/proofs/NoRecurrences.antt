-- Equations without recurrences: each unit is a group by itself, and no state is read but a delay's own.
use Rattle.std.proofs.Common.{◌≡◌, ◌<◌, ◌≤◌, ℕ, zero, suc, ◌+◌, ◌==◌, ◌&&◌, Bool, true, false, cond, unwrap_or, Option, Some, None, List, [], ◌∷◌, ◌++◌, length, map, take, get_or, refl, subst, sym, ap, ◌∙◌, arith, length-append}
use Rattle.std.specs.Prelude.{slice_index, count_by}
use Rattle.std.specs.Bool.{if◌then◌else◌}
use Rattle.std.specs.List.{slice_get, list_any, list_all, flat_map, range_with_len, position_or_len, Contains}
use Rattle.std.proofs.lemmas.Bool.{and_parts, or_parts, or_left, or_right, eq-eqb, ne_eqb, false≢true}
use Rattle.std.proofs.lemmas.Option.{slice_get_within}
use Rattle.std.proofs.lemmas.List.Sums.{sum_by-cons}
use Rattle.std.proofs.lemmas.List.FromFn.{length-map-range_with_len, get_or-map-range_with_len}
use Rattle.pr_base.specs.Numbers.{slices_of}
use Rattle.pr_flat.specs.declared.equations.Operand.{Operand}
use Rattle.pr_flat.specs.declared.equations.Op.{Op}
use Rattle.pr_flat.specs.Shape.{EquationShape}
use Rattle.pr_flat.specs.Facts.{is_input, is_rec, has_lawful_width, is_lawful_operand, IsFlat}
use Rattle.pr_flat.specs.Widths.{AreWidths}
use Rattle.pr_flat.specs.Values.{input_widths}
use Rattle.pr_flat.proofs.WidthLemmas.{past_of}
use Rattle.pr_net.specs.declared.cells.Slice.{Slice}
use Rattle.pr_net.specs.declared.cells.Cell.{Cell}
use Rattle.pr_net.specs.Shape.{NetShape, cells_of, units_of}
use Rattle.pr_net.specs.Nets.{group_of}
use Rattle.pr_net.proofs.Lists.{only_head}
use Rattle.pr_cut_units.specs.Groups.{Holds, groups_at, groups_of}
use Rattle.pr_cut_units.specs.Reached.{hold_count}
use Rattle.pr_cut_units.specs.Equations.{UnitPlan, plan_of, hold_unit, input_units, input_slices, cut_start}
use Rattle.pr_cut_units.specs.Nets.{holds_from, net_of, limit_passed}
use Rattle.pr_cut_units.proofs.FitParts.{AreThere, there-each}
use Rattle.pr_cut_units.proofs.FitNets.{MayTakeAll, AreAllowed, added_after, added_is}
use Rattle.pr_cut_units.proofs.NetLawful.{InGroup, IsGrouped, input_there, input_at, length-inputs}
use Rattle.pr_cut_units.proofs.WideNets.{Rest, rest_more, rest_first, rest_all, widths_some}
use Rattle.pr_cut_units.proofs.EndNets.{in_limits}
use Rattle.pr_cut_units.proofs.NetOf.{StatesInGroups}

-- ---- groups of one unit
one_group : ℕ → List ℕ
one_group u = u ∷ []

holds_none : (plan : UnitPlan) (i : ℕ) (es : List EquationShape) (flags : List Bool) → list_any (λ (e : EquationShape). is_rec e.op) es ≡ false → holds_from plan i es flags ≡ []
holds_none plan i [] flags h = refl
holds_none plan i (e ∷ rest) [] h = refl
holds_none plan i (e ∷ rest) (counts ∷ flags) h =
    let t = or_parts (is_rec e.op) (list_any (λ (e : EquationShape). is_rec e.op) rest) h in
    let none : (counts && is_rec e.op) ≡ false = ap (λ (b : Bool). counts && b) t.0 ∙ no_and counts in
    let ih = holds_none plan (suc i) rest flags t.1 in
    ap (λ (b : Bool). if b then record { first = hold_unit plan i; count = hold_count plan.equations i } ∷ holds_from plan (suc i) rest flags else holds_from plan (suc i) rest flags) none ∙ ih
  where
    no_and : (b : Bool) → (b && false) ≡ false
    no_and true = refl
    no_and false = refl

singles : (a n : ℕ) → flat_map (groups_at []) (range_with_len a n) ≡ map (λ u. u ∷ []) (range_with_len a n)
singles a zero = refl
singles a (suc n) = ap (λ (x : List (List ℕ)). (a ∷ []) ∷ x) (singles (a + 1) n)

position_single : (a n u : ℕ) → u < n → position_or_len (λ units. list_any (λ w. w == a + u) units) (map (λ u. u ∷ []) (range_with_len a n)) ≡ u
position_single a zero u l = absurd (omega (arith, l))
position_single a (suc n) zero l = let e : (a == a + 0) ≡ true = eq-eqb a (a + 0) (omega arith) in rw e refl
position_single a (suc n) (suc u) l =
    let e : (a == a + suc u) ≡ false = ne_eqb a (a + suc u) (λ q. omega (arith, q)) in
    let z : a + suc u ≡ a + 1 + u = omega arith in
    let ih = position_single (a + 1) n u (omega (arith, l)) in
    let rest : position_or_len (λ units. list_any (λ w. w == a + suc u) units) (map (λ u. u ∷ []) (range_with_len (a + 1) n)) ≡ u = ap (λ (k : ℕ). position_or_len (λ units. list_any (λ w. w == k) units) (map (λ u. u ∷ []) (range_with_len (a + 1) n))) z ∙ ih in
    rw e (omega (arith, rest))

-- a net whose groups are its units
pub record AllSingle (net : NetShape) : Type 0 where
  pub groups : net.groups ≡ map (λ u. u ∷ []) (range_with_len 0 (length net.units))

group_single : (net : NetShape) (u : ℕ) → AllSingle net → u < length net.units → group_of net u ≡ u
group_single net u s l =
    let z : 0 + u ≡ u = omega arith in
    ap (λ (gs : List (List ℕ)). position_or_len (λ units. list_any (λ w. w == u) units) gs) s.groups
    ∙ ap (λ (k : ℕ). position_or_len (λ units. list_any (λ w. w == k) units) (map (λ u. u ∷ []) (range_with_len 0 (length net.units)))) (sym z)
    ∙ position_single 0 (length net.units) u l

units_single : (net : NetShape) (g : ℕ) → AllSingle net → g < length net.units → units_of net g ≡ g ∷ []
units_single net g s l = ap (λ (gs : List (List ℕ)). get_or gs g []) s.groups ∙ get_or-map-range_with_len (λ u. u ∷ []) 0 (length net.units) g g [] l (omega arith)

long_single : (net : NetShape) → AllSingle net → length net.groups ≡ length net.units
long_single net s = ap (λ (gs : List (List ℕ)). length gs) s.groups ∙ length-map-range_with_len (λ u. u ∷ []) 0 (length net.units)

grouped_single : (net : NetShape) → AllSingle net → length net.units ≤ 32768 → length net.inputs ≤ length net.units → IsGrouped net
grouped_single net s few ins =
    let long = long_single net s in
    record {
      grouped = λ u l. (let g = group_single net u s l in
          let has : units_of net (group_of net u) ≡ u ∷ [] = ap (units_of net) g ∙ units_single net u s l in
          (omega (arith, g, l, long), subst (λ (us : List ℕ). Contains us u) (sym has) (0, omega arith, refl)));
      members = λ g u l c. (let lg : g < length net.units = omega (arith, l, long) in
          let same : g ≡ u = only_head g u (subst (λ (us : List ℕ). Contains us u) (units_single net g s lg) c) in
          let lu : u < length net.units = omega (arith, same, lg) in
          (lu, group_single net u s lu ∙ sym same));
      few = omega (arith, long, few);
      some = λ g l. (let e = ap (λ (us : List ℕ). length us) (units_single net g s (omega (arith, l, long))) in omega (arith, e));
      ascending = λ g i j l r k. (let e = ap (λ (us : List ℕ). length us) (units_single net g s (omega (arith, l, long))) in absurd (omega (arith, e, r, k)));
      inputs = λ u l. (omega (arith, l, long, ins), units_single net u s (omega (arith, l, ins)));
    }

-- ---- inputs
-- the place and the width of an input among all
pub record InputAt (equations : List EquationShape) (i : ℕ) (e : EquationShape) : Type 0 where
  pub below : count_by (λ (e : EquationShape). is_input e.op) (take i equations) < length (input_widths equations)
  pub width : slice_index (input_widths equations) (count_by (λ (e : EquationShape). is_input e.op) (take i equations)) ≡ unwrap_or e.declared 0

input_place : (equations : List EquationShape) (i : ℕ) (e : EquationShape) → slice_get equations i ≡ Some e → is_input e.op ≡ true → InputAt equations i e
input_place [] i e there h = cc
input_place (d ∷ equations) zero e there h = let same : d ≡ e = cc in subst (λ (q : EquationShape). InputAt (d ∷ equations) 0 q) same (first (is_input d.op) (ap (λ (q : EquationShape). is_input q.op) same ∙ h))
  where
    first : (b : Bool) → is_input d.op ≡ true → InputAt (d ∷ equations) 0 d
    first b q = let P : Bool → Type 0 = λ t. (0 < length (cond t (unwrap_or d.declared 0 ∷ input_widths equations) (input_widths equations))) × (slice_index (cond t (unwrap_or d.declared 0 ∷ input_widths equations) (input_widths equations)) 0 ≡ unwrap_or d.declared 0) in
        let t : P (is_input d.op) = subst P (sym q) (omega arith, refl) in
        record { below = t.0; width = t.1 }
input_place (d ∷ equations) (suc i) e there h = next (is_input d.op) refl (input_place equations i e there h)
  where
    counted : List EquationShape → ℕ
    counted es = count_by (λ (e : EquationShape). is_input e.op) es

    next : (b : Bool) → is_input d.op ≡ b → InputAt equations i e → InputAt (d ∷ equations) (suc i) e
    next b q p =
        let P : Bool → Type 0 = λ t. (cond t 1 0 + counted (take i equations) < length (cond t (unwrap_or d.declared 0 ∷ input_widths equations) (input_widths equations))) × (slice_index (cond t (unwrap_or d.declared 0 ∷ input_widths equations) (input_widths equations)) (cond t 1 0 + counted (take i equations)) ≡ unwrap_or e.declared 0) in
        let both : (t : Bool) → P t = λ t. elim t as P [ true ↦ (omega (arith, p.below), (let z : 1 + counted (take i equations) ≡ suc (counted (take i equations)) = omega arith in ap (λ (k : ℕ). slice_index (unwrap_or d.declared 0 ∷ input_widths equations) k) z ∙ p.width)) | false ↦ (omega (arith, p.below), (let z : 0 + counted (take i equations) ≡ counted (take i equations) = omega arith in ap (λ (k : ℕ). slice_index (input_widths equations) k) z ∙ p.width)) ] in
        let count : counted (take (suc i) (d ∷ equations)) ≡ cond (is_input d.op) 1 0 + counted (take i equations) = sum_by-cons (λ (x : EquationShape). cond (is_input x.op) 1 0) d (take i equations) in
        let t = both (is_input d.op) in
        record {
          below = subst (λ (k : ℕ). k < length (input_widths (d ∷ equations))) (sym count) t.0;
          width = ap (λ (k : ℕ). slice_index (input_widths (d ∷ equations)) k) count ∙ t.1;
        }

declared_is : (op : Op) (o : Option ℕ) → is_input op ≡ true → has_lawful_width op o ≡ true → o ≡ Some (unwrap_or o 0)
declared_is Op.Input None i h = absurd (false≢true h)
declared_is Op.Input (Some w) i h = refl
declared_is op o i h = absurd (false≢true i)

-- the slices of an input are there
pub inputs_there : (equations : List EquationShape) (outputs given : List Operand) (widths : List ℕ) (net : NetShape) (rest : List (List Cell)) (T : ℕ → ℕ → Type 0) (i : ℕ) (e : EquationShape) → IsFlat equations outputs → AreWidths equations widths → net.inputs ≡ input_widths equations → net.units ≡ input_units 0 net.inputs ++ rest → slice_get equations i ≡ Some e → is_input e.op ≡ true
    → AreThere (λ v. length (cells_of net v)) T (input_slices (plan_of equations widths given) i)
inputs_there equations outputs given widths net rest T i e flat wide ins units there h =
    let p = input_place equations i e there h in
    let u = count_by (λ (e : EquationShape). is_input e.op) (take i equations) in
    let lu : u < length net.inputs = (let q = ap (λ (ws : List ℕ). length ws) ins in omega (arith, p.below, q)) in
    let size : length (cells_of net u) ≡ slices_of (get_or net.inputs u 0) = ap (λ (ks : List Cell). length ks) (input_there net rest units u lu).1 ∙ (input_at 0 net.inputs u lu).0 in
    let own : slice_index widths i ≡ unwrap_or e.declared 0 = wide.declared i e there (unwrap_or e.declared 0) (declared_is e.op e.declared h (flat.widths i e there)) in
    let same : slices_of (get_or net.inputs u 0) ≡ slices_of (slice_index widths i) = ap slices_of (ap (λ (ws : List ℕ). get_or ws u 0) ins ∙ p.width ∙ sym own) in
    there-each (λ v. length (cells_of net v)) T (slices_of (slice_index widths i)) (λ j. Slice.Of u j) (λ j l. omega (arith, l, size, same))

-- ---- states
abbrev pub no_states : ℕ → ℕ → ℕ → Type 0
no_states i v j = ⊥

pub size_within : (us : List (List Cell)) (u j : ℕ) → j < length (get_or us u []) → u < length us
size_within [] u j h = absurd (omega (arith, h))
size_within (ks ∷ us) zero j h = omega arith
size_within (ks ∷ us) (suc u) j h = omega (arith, size_within us u j h)

rec_there : (equations : List EquationShape) (i : ℕ) (e : EquationShape) → slice_get equations i ≡ Some e → is_rec e.op ≡ true → list_any (λ (e : EquationShape). is_rec e.op) equations ≡ true
rec_there [] i e there h = cc
rec_there (d ∷ equations) zero e there h = let same : d ≡ e = cc in or_left (is_rec d.op) (list_any (λ (e : EquationShape). is_rec e.op) equations) (ap (λ (q : EquationShape). is_rec q.op) same ∙ h)
rec_there (d ∷ equations) (suc i) e there h = or_right (is_rec d.op) (list_any (λ (e : EquationShape). is_rec e.op) equations) (rec_there equations i e there h)

take_none : (equations : List EquationShape) (plan : UnitPlan) (i : ℕ) (args : List Operand) → list_any (λ (e : EquationShape). is_rec e.op) equations ≡ false → list_all (is_lawful_operand equations i) args ≡ true → MayTakeAll no_states no_states plan i args
take_none equations plan i [] none h = tt
take_none equations plan i (Operand.Const c ∷ args) none h = (tt, take_none equations plan i args none (and_parts (is_lawful_operand equations i (Operand.Const c)) (list_all (is_lawful_operand equations i) args) h).1)
take_none equations plan i (Operand.Eq j ∷ args) none h = (record { at = λ v k s. s }, take_none equations plan i args none (and_parts (is_lawful_operand equations i (Operand.Eq j)) (list_all (is_lawful_operand equations i) args) h).1)
take_none equations plan i (Operand.Past rec k ∷ args) none h =
    let t = and_parts (is_lawful_operand equations i (Operand.Past rec k)) (list_all (is_lawful_operand equations i) args) h in
    let p = past_of equations i rec k t.0 in
    absurd (false≢true (sym none ∙ rec_there equations rec p.equation p.there (ap is_rec p.op)))

allowed_none : (equations : List EquationShape) (outputs given : List Operand) (widths : List ℕ) (net : NetShape) (units : List (List Cell)) (i : ℕ) (rest : List EquationShape) → IsFlat equations outputs → AreWidths equations widths → list_any (λ (e : EquationShape). is_rec e.op) equations ≡ false → net.inputs ≡ input_widths equations → net.units ≡ input_units 0 net.inputs ++ units → Rest equations i rest
    → AreAllowed (λ v. length (cells_of net v)) no_states no_states (InGroup net) (plan_of equations widths given) i rest
allowed_none equations outputs given widths net units i [] flat wide none ins is r = tt
allowed_none equations outputs given widths net units i (e ∷ rest) flat wide none ins is r =
    let there = rest_first equations i e rest r in (
      λ h. record {
        width = widths_some equations outputs widths flat wide i (slice_get_within equations i e there);
        input = λ q. inputs_there equations outputs given widths net units (no_states i) i e flat wide ins is there q;
        keeps = λ q. record { at = λ v j s. s };
        takes = take_none equations (plan_of equations widths given) i e.args none (flat.operands i e there);
        may = record { at = λ w v j l k s. absurd s };
        own = record {
          delay = λ c j q l. (size_within net.units _ j l, refl, l);
          hold = λ init first n j q l k. absurd (false≢true (sym none ∙ rec_there equations i e there (ap is_rec q)));
        };
      },
      allowed_none equations outputs given widths net units (suc i) rest flat wide none ins is (rest_more equations i e rest r),
    )

-- without recurrences nothing is asked of states and groups
pub states_none : (columns : ℕ) (equations : List EquationShape) (widths : List ℕ) (outputs : List Operand) → IsFlat equations outputs → AreWidths equations widths → limit_passed columns (net_of equations widths outputs) ≡ None → list_any (λ (e : EquationShape). is_rec e.op) equations ≡ false → StatesInGroups equations widths outputs no_states no_states (InGroup (net_of equations widths outputs))
unfolding net_of
states_none columns equations widths outputs flat wide limits none =
    let plan = plan_of equations widths outputs in
    let net = net_of equations widths outputs in
    let rest = added_after plan (cut_start equations) equations in
    let is : net.units ≡ input_units 0 net.inputs ++ rest = added_is plan (cut_start equations) equations in
    let few = (in_limits columns net limits).units in
    let long : length net.units ≡ length (input_units 0 net.inputs) + length rest = ap (λ (us : List (List Cell)). length us) is ∙ length-append (input_units 0 net.inputs) rest in
    let ins = length-inputs 0 net.inputs in
    record {
      allowed = allowed_none equations outputs outputs widths net rest 0 equations flat wide none refl is (rest_all equations);
      tied = record { at = λ u i v j d lu li m r. r };
      outside = record { at = λ i v j r s. s };
      grouped = grouped_single net (record { groups = ap (λ (hs : List Holds). groups_of net.units hs) (holds_none plan 0 equations plan.reached none) ∙ singles 0 (length net.units) }) few (omega (arith, long, ins));
    }
