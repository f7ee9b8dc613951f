-- Every equation's slices show its numbers, at every sample: from a relation between equations, slices and a run.
use Rattle.std.proofs.Common.{ℕ, zero, suc, ◌≡◌, ◌+◌, ◌-◌, ◌*◌, ◌/◌, ◌%◌, ◌^◌, ◌<◌, ◌≤◌, Bool, true, false, cond, nat_le, nat_lt, Option, Some, unwrap_or, List, [], ◌∷◌, length, map, get_or, subst, refl, ap, ap₂, sym, ◌∙◌, arith}
use Rattle.std.specs.List.{slice_get, list_all}
use Rattle.std.specs.Option.{option_map_or}
use Rattle.std.proofs.lemmas.Bool.{and_parts, ltb-true, leb-true}
use Rattle.std.proofs.lemmas.Option.{slice_get_within}
use Rattle.std.proofs.Math.Nat.{mod-eq_of_lt, mod-add-div}
use Rattle.pr_base.specs.Numbers.{slices_of, bytes_of}
use Rattle.pr_flat.specs.declared.equations.Operand.{Operand}
use Rattle.pr_flat.specs.declared.equations.Operand.TheVariants.{Const, Eq, Past}
use Rattle.pr_flat.specs.declared.equations.Op.{Op}
use Rattle.pr_flat.specs.declared.equations.Op.TheVariants.{Input, Delay, Rec}
use Rattle.pr_flat.specs.declared.forms.Form.{Form}
use Rattle.pr_flat.specs.declared.forms.Point.{Point}
use Rattle.pr_flat.specs.Forms.{value, residue, number_width, least_from}
use Rattle.pr_flat.specs.Shape.{EquationShape}
use Rattle.pr_flat.specs.Facts.{IsFlat, is_lawful_operand, is_in_body, op_at, arity}
use Rattle.pr_flat.specs.Widths.{operand_width, AreWidths}
use Rattle.pr_flat.specs.Values.{initial_of, init_of, number_before, operand_number, points_in, operator_number, recurrence_number, first_delayed, number_in}
use Rattle.pr_flat.proofs.NumberLemmas.{number_width-holds, initial-holds, constant-holds}
use Rattle.pr_flat.proofs.WidthLemmas.{PastOf, past_of, equation_at}
use Rattle.pr_flat_ops.proofs.Residues.{residue_below}
use Rattle.pr_net.specs.declared.cells.Slice.{Slice as NetSlice}
use Rattle.pr_net.specs.Reading.{Reading, Has, shown}
use Rattle.pr_net.specs.Runs.{AreBytes}
use Rattle.pr_cut_units.specs.Parts.{each}
use Rattle.pr_cut_units.specs.Widening.{Argument, widened}
use Rattle.pr_cut_units.specs.States.{hold_cell, later_cell, past_slices}
use Rattle.pr_cut_units.specs.Equations.{UnitPlan, hold_unit, number_slices, operand_slices}
use Rattle.pr_cut_units.proofs.EachLemmas.{length-each}
use Rattle.pr_cut_units.proofs.Operands.{AreOperands, operands-each}
use Rattle.pr_cut_units.proofs.Sums.{mod_scaled}
use Rattle.pr_cut_laws.proofs.Digits.{big_pos, more_bytes}
use Rattle.pr_cut_laws.proofs.Shown.{operand_bytes}
use Rattle.pr_cut_laws.proofs.Widen.{IsOperand}
use Rattle.pr_cut_laws.proofs.Wides.{IsWide, wide_shows}
use Rattle.pr_cut_laws.proofs.Histories.{history, row_at, val, sight_at, val_law, past_more}
use Rattle.pr_cut_laws.proofs.Flows.{flows}
use Rattle.pr_cut_laws.proofs.Holds.{Stays, delay_cell, unit_slices, first_holds, first_shows, later_holds, later_shows, delay_holds, bytes_hold}

-- slices that show a number of so many bits
pub record ShowsNumber (r : Reading) (x : List NetSlice) (w n : ℕ) : Type 0 where
  pub operand : IsOperand r x w
  pub is : shown r x ≡ n

abbrev pub AreShown : Reading → List (List NetSlice) → List Point → Type 0
AreShown r [] [] = Unit {0}
AreShown r (x ∷ xs) (p ∷ points) = ShowsNumber r x p.form.width p.number × AreShown r xs points
AreShown r [] (p ∷ points) = ⊥
AreShown r (x ∷ xs) [] = ⊥

abbrev pub IsOrdinary : Op → Type 0
IsOrdinary Input = ⊥
IsOrdinary (Delay c) = ⊥
IsOrdinary (Rec init first) = ⊥
IsOrdinary op = Unit {0}

-- what an equation with units reads has units, and a past has its hold unit
abbrev pub IsClosed : (ℕ → Type 0) → (ℕ → ℕ) → Operand → Type 0
IsClosed Made depth (Const c) = Unit {0}
IsClosed Made depth (Eq i) = Made i
IsClosed Made depth (Past rec k) = Made rec × (k ≤ depth rec)

abbrev pub AllClosed : (ℕ → Type 0) → (ℕ → ℕ) → List Operand → Type 0
AllClosed Made depth [] = Unit {0}
AllClosed Made depth (a ∷ args) = IsClosed Made depth a × AllClosed Made depth args

-- the number of hold unit k
abbrev pub hold_at : UnitPlan → ℕ → ℕ → ℕ
hold_at plan rec k = hold_unit plan rec + (k - 1)

abbrev pub value_of : List (List NetSlice) → ℕ → List NetSlice
value_of values i = get_or values i []

abbrev pub body_of : UnitPlan → List (List NetSlice) → Operand → Bool → Argument
body_of plan values a kind = record { slices = operand_slices plan values a; form = record { signed = kind; width = operand_width plan.widths a } }

-- the unit of a delay
pub record IsDelayAt (v : ℕ → Reading) (w c : ℕ) (from out : List NetSlice) : Type 0 where
  pub u : ℕ
  pub stays : Stays v u (each (slices_of w) (delay_cell c u from))
  pub slices_are : out ≡ unit_slices w u

-- the units of a recurrence: those that widen its body, and its hold units
pub record IsRecAt (v : ℕ → Reading) (w c depth : ℕ) (hold : ℕ → ℕ) (body : Argument) (out : List NetSlice) : Type 0 where
  pub u : ℕ
  pub later_u : ℕ
  pub wide : (n : ℕ) → Has (v n) u (widened body w u).units
  pub known : AreOperands later_u (widened body w u).slices
  pub one : 1 ≤ depth
  pub first : Stays v (hold 1) (each (slices_of w) (hold_cell w c (widened body w u).slices))
  pub later : (k : ℕ) → 1 ≤ k → suc k ≤ depth → Stays v (hold (suc k)) (each (slices_of w) (later_cell c (hold k)))
  pub slices_are : out ≡ unit_slices w (hold 1)

-- the units of all equations, wherever they stand
pub record IsNet (plan : UnitPlan) (samples : List (List ℕ)) (v : ℕ → Reading) (Made : ℕ → Type 0) (values : List (List NetSlice)) (depth : ℕ → ℕ) : Type 0 where
  pub bytes : (n : ℕ) → AreBytes (v n)
  pub closed : (i : ℕ) (e : EquationShape) → slice_get plan.equations i ≡ Some e → Made i → AllClosed Made depth e.args
  pub inputs : (i : ℕ) (e : EquationShape) → slice_get plan.equations i ≡ Some e → Made i → e.op ≡ Input → (n : ℕ) → ShowsNumber (v n) (value_of values i) (get_or plan.widths i 0) (val plan.equations plan.widths samples n i)
  pub delays : (i c : ℕ) (a : Operand) (e : EquationShape) → slice_get plan.equations i ≡ Some e → Made i → e.op ≡ Delay c → e.args ≡ a ∷ [] → IsDelayAt v (get_or plan.widths i 0) c (operand_slices plan values a) (value_of values i)
  pub recs : (i init first : ℕ) (a : Operand) (kind : Bool) (e : EquationShape) → slice_get plan.equations i ≡ Some e → Made i → e.op ≡ Rec init first → e.args ≡ a ∷ [] → e.kinds ≡ kind ∷ [] → IsRecAt v (get_or plan.widths i 0) init (depth i) (hold_at plan i) (body_of plan values a kind) (value_of values i)
  pub others : (i : ℕ) (e : EquationShape) → slice_get plan.equations i ≡ Some e → Made i → IsOrdinary e.op → (n : ℕ) → AreShown (v n) (map (operand_slices plan values) e.args) (points_in (sight_at plan.equations plan.widths samples n) e.args e.kinds) → ShowsNumber (v n) (value_of values i) (get_or plan.widths i 0) (operator_number (get_or plan.widths i 0) e.op (points_in (sight_at plan.equations plan.widths samples n) e.args e.kinds))

-- what the widths of equations are
pub record HasWidths (equations : List EquationShape) (widths : List ℕ) : Type 0 where
  pub some : (i : ℕ) (e : EquationShape) → slice_get equations i ≡ Some e → 1 ≤ get_or widths i 0
  pub delay : (i c : ℕ) (a : Operand) (e : EquationShape) → slice_get equations i ≡ Some e → e.op ≡ Delay c → e.args ≡ a ∷ [] → get_or widths i 0 ≡ operand_width widths a

-- what is held at sample n
abbrev pub HeldBy : UnitPlan → List (List NetSlice) → List (List ℕ) → (ℕ → Reading) → (ℕ → ℕ) → Op → List Operand → ℕ → ℕ → Type 0
HeldBy plan values samples v depth (Rec init first) args n p = (k : ℕ) → 1 ≤ k → k ≤ depth p → ShowsNumber (v n) (past_slices (get_or plan.widths p 0) (hold_at plan p k)) (get_or plan.widths p 0) (number_before (history plan.equations plan.widths samples n) p k init)
HeldBy plan values samples v depth (Delay c) (a ∷ []) n p = (u : ℕ) → Stays v u (each (slices_of (get_or plan.widths p 0)) (delay_cell c u (operand_slices plan values a))) → ShowsNumber (v n) (past_slices (get_or plan.widths p 0) u) (get_or plan.widths p 0) (val plan.equations plan.widths samples n p)
HeldBy plan values samples v depth op args n p = Unit {0}

pub number_width-some : (c : ℕ) → 1 ≤ number_width c
unfolding number_width
number_width-some c = go 64 1 (λ w. nat_lt c (2 ^ w)) (omega arith)
  where
    go : (k at : ℕ) (test : ℕ → Bool) → 1 ≤ at → 1 ≤ unwrap_or (least_from k at test) 64
    go zero at test h = omega arith
    go (suc k) at test h = by (test at) (go k (at + 1) test (omega arith))
      where
        by : (b : Bool) → 1 ≤ unwrap_or (least_from k (at + 1) test) 64 → 1 ≤ unwrap_or (cond b (Some at) (least_from k (at + 1) test)) 64
        by true l = h
        by false l = l

const_shown : (r : Reading) (n c : ℕ) → shown r (map (λ b. NetSlice.Const b) (bytes_of n c)) ≡ c % 256 ^ n
const_shown r zero c = omega arith
const_shown r (suc n) c = ap (λ (k : ℕ). c % 256 + 256 * k) (const_shown r n (c / 256)) ∙ sym (mod_scaled (c % 256) 256 (c / 256) (256 ^ n) (omega arith) (big_pos n)) ∙ ap₂ (λ (a b : ℕ). a % b) (mod-add-div c 256) (sym (more_bytes n))

const_known : (k c : ℕ) → AreOperands 0 (map (λ b. NetSlice.Const b) (bytes_of k c))
const_known zero c = tt
const_known (suc k) c = (record { before = tt; byte = omega arith }, const_known k (c / 256))

length-const : (k c : ℕ) → length (map (λ b. NetSlice.Const b) (bytes_of k c)) ≡ k
length-const zero c = refl
length-const (suc k) c = ap suc (length-const k (c / 256))

pub const_is : (r : Reading) (c : ℕ) → AreBytes r → c < 2 ^ 64 → ShowsNumber r (number_slices c) (number_width c) c
const_is r c b h =
    let w : ℕ = number_width c in
    let l : c < 2 ^ w = number_width-holds c h in
    let is : shown r (number_slices c) ≡ c = const_shown r (slices_of w) c ∙ mod-eq_of_lt (bytes_hold w c l) in
    let len : length (number_slices c) ≡ slices_of w = length-const (slices_of w) c in
    record { operand = record { some = number_width-some c; count = omega (arith, len); bytes = operand_bytes r 0 (number_slices c) b (const_known (slices_of w) c); below = subst (λ (k : ℕ). k < 2 ^ w) (sym is) l }; is = is }

states_are : (r : Reading) → AreBytes r → (u w x : ℕ) → 1 ≤ w → x < 2 ^ w → shown r (past_slices w u) ≡ x → ShowsNumber r (past_slices w u) w x
states_are r b u w x hw l is =
    let len : length (past_slices w u) ≡ slices_of w = length-each (λ i. NetSlice.State u i) (slices_of w) in
    record { operand = record { some = hw; count = omega (arith, len); bytes = operand_bytes r 0 (past_slices w u) b (operands-each 0 (slices_of w) (λ i. NetSlice.State u i) (λ i. record { before = tt; byte = tt })); below = subst (λ (k : ℕ). k < 2 ^ w) (sym is) l }; is = is }

pub unit_is : (r : Reading) → AreBytes r → (u w x : ℕ) → 1 ≤ w → x < 2 ^ w → shown r (unit_slices w u) ≡ x → ShowsNumber r (unit_slices w u) w x
unit_is r b u w x hw l is =
    let len : length (unit_slices w u) ≡ slices_of w = length-each (λ i. NetSlice.Of u i) (slices_of w) in
    record { operand = record { some = hw; count = omega (arith, len); bytes = operand_bytes r (u + 1) (unit_slices w u) b (operands-each (u + 1) (slices_of w) (λ i. NetSlice.Of u i) (λ i. record { before = omega arith; byte = tt })); below = subst (λ (k : ℕ). k < 2 ^ w) (sym is) l }; is = is }

one_of : {A : Type 0} (xs : List A) → length xs ≡ 1 → (a : A) × (xs ≡ a ∷ [])
one_of [] h = absurd (omega arith)
one_of (a ∷ []) h = (a, refl)
one_of (a ∷ b ∷ xs) h = absurd (omega arith)

pub net_shows : (plan : UnitPlan) (outputs : List Operand) (samples : List (List ℕ)) (v : ℕ → Reading) (Made : ℕ → Type 0) (values : List (List NetSlice)) (depth : ℕ → ℕ)
    → IsFlat plan.equations outputs → AreWidths plan.equations plan.widths → HasWidths plan.equations plan.widths → IsNet plan samples v Made values depth
    → (n i : ℕ) (e : EquationShape) → slice_get plan.equations i ≡ Some e → Made i → ShowsNumber (v n) (value_of values i) (get_or plan.widths i 0) (val plan.equations plan.widths samples n i)
net_shows plan outputs samples v Made values depth flat all has net n i = flows Shows Held (record { made = made_at; first = first_at; later = later_at }) n i
  where
    equations : List EquationShape
    equations = plan.equations

    widths : List ℕ
    widths = plan.widths

    Shows : ℕ → ℕ → Type 0
    Shows n q = (e : EquationShape) → slice_get plan.equations q ≡ Some e → Made q → ShowsNumber (v n) (value_of values q) (get_or plan.widths q 0) (val plan.equations plan.widths samples n q)

    Held : ℕ → ℕ → Type 0
    Held n p = (e : EquationShape) → slice_get plan.equations p ≡ Some e → Made p → HeldBy plan values samples v depth e.op e.args n p

    val_at : (n i : ℕ) (e : EquationShape) → slice_get plan.equations i ≡ Some e → val plan.equations plan.widths samples n i ≡ number_in (sight_at plan.equations plan.widths samples n) i e.op e.args e.kinds
    val_at n i e there = val_law plan.equations outputs plan.widths samples n i e flat there

    -- an operand's slices show its number
    operand_at : (n i : ℕ) (a : Operand) → i < length plan.equations → ((p : ℕ) → p < i → Shows n p) → ((p : ℕ) → Held n p) → is_lawful_operand plan.equations i a ≡ true → IsClosed Made depth a → ShowsNumber (v n) (operand_slices plan values a) (operand_width plan.widths a) (operand_number plan.equations (history plan.equations plan.widths samples n) (row_at plan.equations plan.widths samples n) a)
    operand_at n i (Const c) within before held lawful closed = const_is (v n) c (net.bytes n) (ltb-true c (2 ^ 64) lawful)
    operand_at n i (Eq j) within before held lawful closed =
        let less : j < i = ltb-true j i lawful in
        let found = equation_at plan.equations j (omega (arith, less, within)) in
        before j less found.0 found.1 closed
    operand_at n i (Past rec k) within before held lawful closed =
        let p : PastOf plan.equations i rec = past_of plan.equations i rec k lawful in
        let both = and_parts (nat_le 1 k) (option_map_or (is_in_body i rec) (op_at plan.equations rec) false) lawful in
        let Q : Op → Type 0 = λ o. HeldBy plan values samples v depth o p.equation.args n rec in
        let h = subst Q p.op (held rec p.equation p.there closed.0) in
        let is : initial_of plan.equations rec ≡ p.init = ap (λ (o : Option EquationShape). option_map_or (λ (e : EquationShape). init_of e.op) o 0) p.there ∙ ap init_of p.op in
        let P : ℕ → Type 0 = λ x. ShowsNumber (v n) (past_slices (get_or plan.widths rec 0) (hold_at plan rec k)) (get_or plan.widths rec 0) (number_before (history plan.equations plan.widths samples n) rec k x) in
        subst P (sym is) (h k (leb-true 1 k both.0) closed.1)

    args_at : (n i : ℕ) (args : List Operand) (kinds : List Bool) → length args ≡ length kinds → i < length plan.equations → ((p : ℕ) → p < i → Shows n p) → ((p : ℕ) → Held n p) → list_all (is_lawful_operand plan.equations i) args ≡ true → AllClosed Made depth args → AreShown (v n) (map (operand_slices plan values) args) (points_in (sight_at plan.equations plan.widths samples n) args kinds)
    args_at n i [] [] len within before held lawful closed = tt
    args_at n i [] (kind ∷ kinds) len within before held lawful closed = absurd (omega arith)
    args_at n i (a ∷ args) [] len within before held lawful closed = absurd (omega arith)
    args_at n i (a ∷ args) (kind ∷ kinds) len within before held lawful closed =
        let parts = and_parts (is_lawful_operand plan.equations i a) (list_all (is_lawful_operand plan.equations i) args) lawful in
        (operand_at n i a within before held parts.0 closed.0, args_at n i args kinds (omega arith) within before held parts.1 closed.1)

    -- the one operand of a delay or a recurrence
    one_arg : (i : ℕ) (e : EquationShape) → slice_get plan.equations i ≡ Some e → arity e.op ≡ 1 → (a : Operand) × (e.args ≡ a ∷ [])
    one_arg i e there one = one_of e.args (flat.args i e there ∙ one)

    one_kind : (i : ℕ) (e : EquationShape) → slice_get plan.equations i ≡ Some e → arity e.op ≡ 1 → (b : Bool) × (e.kinds ≡ b ∷ [])
    one_kind i e there one = one_of e.kinds (flat.kinds i e there ∙ one)

    lawful_arg : (i : ℕ) (e : EquationShape) (a : Operand) → slice_get plan.equations i ≡ Some e → e.args ≡ a ∷ [] → is_lawful_operand plan.equations i a ≡ true
    lawful_arg i e a there is =
        let R : List Operand → Type 0 = λ xs. list_all (is_lawful_operand plan.equations i) xs ≡ true in
        (and_parts (is_lawful_operand plan.equations i a) true (subst R is (flat.operands i e there))).0

    closed_arg : (i : ℕ) (e : EquationShape) (a : Operand) → slice_get plan.equations i ≡ Some e → Made i → e.args ≡ a ∷ [] → IsClosed Made depth a
    closed_arg i e a there m is = (subst (AllClosed Made depth) is (net.closed i e there m)).0

    delay_val : (n i c : ℕ) (e : EquationShape) (a : Operand) → slice_get plan.equations i ≡ Some e → e.op ≡ Delay c → e.args ≡ a ∷ [] → val plan.equations plan.widths samples n i ≡ first_delayed (sight_at plan.equations plan.widths samples n) (a ∷ []) c
    delay_val n i c e a there op is =
        val_at n i e there ∙ ap (λ (o : Op). number_in (sight_at plan.equations plan.widths samples n) i o e.args e.kinds) op ∙ ap (λ (xs : List Operand). first_delayed (sight_at plan.equations plan.widths samples n) xs c) is

    rec_val : (n i init first : ℕ) (e : EquationShape) (a : Operand) (kind : Bool) → slice_get plan.equations i ≡ Some e → e.op ≡ Rec init first → e.args ≡ a ∷ [] → e.kinds ≡ kind ∷ [] → val plan.equations plan.widths samples n i ≡ residue (get_or plan.widths i 0) (value (record { signed = kind; width = operand_width plan.widths a }) (operand_number plan.equations (history plan.equations plan.widths samples n) (row_at plan.equations plan.widths samples n) a))
    rec_val n i init first e a kind there op is ks =
        val_at n i e there ∙ ap (λ (o : Op). number_in (sight_at plan.equations plan.widths samples n) i o e.args e.kinds) op ∙ ap₂ (λ (xs : List Operand) (bs : List Bool). recurrence_number (get_or plan.widths i 0) (points_in (sight_at plan.equations plan.widths samples n) xs bs)) is ks

    constant_small : (i c : ℕ) (e : EquationShape) → slice_get plan.equations i ≡ Some e → e.op ≡ Delay c → c < 2 ^ get_or plan.widths i 0
    constant_small i c e there op = constant-holds (suc i) plan.equations outputs plan.widths i c e flat all (omega arith) there op

    initial_small : (i init first : ℕ) (e : EquationShape) → slice_get plan.equations i ≡ Some e → e.op ≡ Rec init first → init < 2 ^ get_or plan.widths i 0
    initial_small i init first e there op = initial-holds plan.equations outputs plan.widths i init first e flat all there op

    delay_shows : (n q c u : ℕ) (e : EquationShape) (a : Operand) → ((p : ℕ) → Held n p) → slice_get plan.equations q ≡ Some e → Made q → e.op ≡ Delay c → e.args ≡ a ∷ [] → Stays v u (each (slices_of (get_or plan.widths q 0)) (delay_cell c u (operand_slices plan values a))) → ShowsNumber (v n) (past_slices (get_or plan.widths q 0) u) (get_or plan.widths q 0) (val plan.equations plan.widths samples n q)
    delay_shows n q c u e a held there m is one s =
        let Q : Op → Type 0 = λ o. HeldBy plan values samples v depth o e.args n q in
        let R : List Operand → Type 0 = λ xs. HeldBy plan values samples v depth (Delay c) xs n q in
        let h : (u : ℕ) → Stays v u (each (slices_of (get_or plan.widths q 0)) (delay_cell c u (operand_slices plan values a))) → ShowsNumber (v n) (past_slices (get_or plan.widths q 0) u) (get_or plan.widths q 0) (val plan.equations plan.widths samples n q) = subst R one (subst Q is (held q e there m)) in
        h u s

    made_by : (op : Op) (n q : ℕ) (e : EquationShape) → ((p : ℕ) → p < q → Shows n p) → ((p : ℕ) → Held n p) → slice_get plan.equations q ≡ Some e → Made q → e.op ≡ op → ShowsNumber (v n) (value_of values q) (get_or plan.widths q 0) (val plan.equations plan.widths samples n q)
    made_by Input n q e before held there m is = net.inputs q e there m is n
    made_by (Delay c) n q e before held there m is =
        let one = one_arg q e there (ap arity is) in
        let w : ℕ = get_or plan.widths q 0 in
        let at = net.delays q c one.0 e there m is one.1 in
        let on = delay_holds v w c at.u (operand_slices plan values one.0) (constant_small q c e there is) at.stays in
        let h = delay_shows n q c at.u e one.0 held there m is one.1 at.stays in
        let P : List NetSlice → Type 0 = λ x. ShowsNumber (v n) x w (val plan.equations plan.widths samples n q) in
        let l : val plan.equations plan.widths samples n q < 2 ^ w = subst (λ (k : ℕ). k < 2 ^ w) h.is h.operand.below in
        subst P (sym at.slices_are) (unit_is (v n) (net.bytes n) at.u w (val plan.equations plan.widths samples n q) (has.some q e there) l (on.shows n (net.bytes n) ∙ h.is))
    made_by (Rec init first) n q e before held there m is =
        let one = one_arg q e there (ap arity is) in
        let kind = one_kind q e there (ap arity is) in
        let within : q < length plan.equations = slice_get_within plan.equations q e there in
        let w : ℕ = get_or plan.widths q 0 in
        let body : Argument = body_of plan values one.0 kind.0 in
        let f : Form = body.form in
        let found = net.recs q init first one.0 kind.0 e there m is one.1 kind.1 in
        let b = operand_at n q one.0 within before held (lawful_arg q e one.0 there one.1) (closed_arg q e one.0 there m one.1) in
        let wide : IsWide (v n) f w (shown (v n) body.slices) (widened body w found.u).slices = wide_shows (v n) found.u w body b.operand (found.wide n) in
        let x : ℕ = operand_number plan.equations (history plan.equations plan.widths samples n) (row_at plan.equations plan.widths samples n) one.0 in
        let same : val plan.equations plan.widths samples n q ≡ residue w (value f x) = rec_val n q init first e one.0 kind.0 there is one.1 kind.1 in
        let shows : shown (v n) (unit_slices w (hold_at plan q 1)) ≡ val plan.equations plan.widths samples n q = first_shows v w init (hold_at plan q 1) n (widened body w found.u).slices (has.some q e there) (operand_bytes (v n) found.later_u (widened body w found.u).slices (net.bytes n) found.known) found.first ∙ wide.number ∙ ap (λ (k : ℕ). residue w (value f k)) b.is ∙ sym same in
        let l : val plan.equations plan.widths samples n q < 2 ^ w = subst (λ (k : ℕ). k < 2 ^ w) (sym same) (residue_below w (value f x)) in
        let P : List NetSlice → Type 0 = λ ws. ShowsNumber (v n) ws w (val plan.equations plan.widths samples n q) in
        subst P (sym found.slices_are) (unit_is (v n) (net.bytes n) (hold_at plan q 1) w (val plan.equations plan.widths samples n q) (has.some q e there) l shows)
    made_by other n q e before held there m is =
        let within : q < length plan.equations = slice_get_within plan.equations q e there in
        let len : length e.args ≡ length e.kinds = flat.args q e there ∙ sym (flat.kinds q e there) in
        let shownness = args_at n q e.args e.kinds len within before held (flat.operands q e there) (net.closed q e there m) in
        let o : IsOrdinary e.op = subst IsOrdinary (sym is) tt in
        let P : Op → Type 0 = λ op. operator_number (get_or plan.widths q 0) op (points_in (sight_at plan.equations plan.widths samples n) e.args e.kinds) ≡ number_in (sight_at plan.equations plan.widths samples n) q op e.args e.kinds in
        let same : operator_number (get_or plan.widths q 0) e.op (points_in (sight_at plan.equations plan.widths samples n) e.args e.kinds) ≡ val plan.equations plan.widths samples n q = subst P (sym is) refl ∙ sym (val_at n q e there) in
        let Q : ℕ → Type 0 = λ x. ShowsNumber (v n) (value_of values q) (get_or plan.widths q 0) x in
        subst Q same (net.others q e there m o n shownness)

    made_at : (n q : ℕ) → ((p : ℕ) → p < q → Shows n p) → ((p : ℕ) → Held n p) → Shows n q
    made_at n q before held e there m = made_by e.op n q e before held there m refl

    first_by : (op : Op) (p : ℕ) (e : EquationShape) → slice_get plan.equations p ≡ Some e → Made p → e.op ≡ op → (args : List Operand) → e.args ≡ args → HeldBy plan values samples v depth op args 0 p
    first_by (Delay c) p e there m is (a ∷ []) args = λ u s.
        let w : ℕ = get_or plan.widths p 0 in
        let small : c < 2 ^ w = constant_small p c e there is in
        let same : val plan.equations plan.widths samples 0 p ≡ c = delay_val 0 p c e a there is args in
        let P : ℕ → Type 0 = λ x. ShowsNumber (v 0) (past_slices w u) w x in
        subst P (sym same) (states_are (v 0) (net.bytes 0) u w c (has.some p e there) small (delay_holds v w c u (operand_slices plan values a) small s).starts)
    first_by (Rec init first) p e there m is args ea = λ k low high.
        let one = one_arg p e there (ap arity is) in
        let kind = one_kind p e there (ap arity is) in
        let w : ℕ = get_or plan.widths p 0 in
        let found = net.recs p init first one.0 kind.0 e there m is one.1 kind.1 in
        let small : init < 2 ^ w = initial_small p init first e there is in
        states_are (v 0) (net.bytes 0) (hold_at plan p k) w init (has.some p e there) small (starts k low high one.0 kind.0 found)
      where
        starts : (k : ℕ) → 1 ≤ k → k ≤ depth p → (a : Operand) (kind : Bool) → IsRecAt v (get_or plan.widths p 0) init (depth p) (hold_at plan p) (body_of plan values a kind) (value_of values p) → shown (v 0) (past_slices (get_or plan.widths p 0) (hold_at plan p k)) ≡ init
        starts zero low high a kind at = absurd (omega arith)
        starts (suc zero) low high a kind at = (first_holds v (get_or plan.widths p 0) init (hold_at plan p 1) (widened (body_of plan values a kind) (get_or plan.widths p 0) at.u).slices (initial_small p init first e there is) at.first).starts
        starts (suc (suc k)) low high a kind at = (later_holds v (get_or plan.widths p 0) init (hold_at plan p (suc (suc k))) (hold_at plan p (suc k)) (initial_small p init first e there is) (at.later (suc k) (omega arith) high)).starts
    first_by other p e there m is args ea = tt

    first_at : (p : ℕ) → Held 0 p
    first_at p e there m = first_by e.op p e there m refl e.args refl

    later_by : (op : Op) (n : ℕ) → ((p : ℕ) → Shows n p) → ((p : ℕ) → Held n p) → (p : ℕ) (e : EquationShape) → slice_get plan.equations p ≡ Some e → Made p → e.op ≡ op → (args : List Operand) → e.args ≡ args → HeldBy plan values samples v depth op args (suc n) p
    later_by (Delay c) n shows held p e there m is (a ∷ []) args = λ u s.
        let w : ℕ = get_or plan.widths p 0 in
        let within : p < length plan.equations = slice_get_within plan.equations p e there in
        let b = operand_at n p a within (λ q l. shows q) held (lawful_arg p e a there args) (closed_arg p e a there m args) in
        let wide : w ≡ operand_width plan.widths a = has.delay p c a e there is args in
        let l : shown (v n) (operand_slices plan values a) < 2 ^ w = subst (λ (k : ℕ). shown (v n) (operand_slices plan values a) < 2 ^ k) (sym wide) b.operand.below in
        let x : ℕ = operand_number plan.equations (history plan.equations plan.widths samples n) (row_at plan.equations plan.widths samples n) a in
        let same : val plan.equations plan.widths samples (suc n) p ≡ x = delay_val (suc n) p c e a there is args in
        let small : x < 2 ^ w = subst (λ (k : ℕ). k < 2 ^ w) b.is l in
        let P : ℕ → Type 0 = λ y. ShowsNumber (v (suc n)) (past_slices w u) w y in
        subst P (sym same) (states_are (v (suc n)) (net.bytes (suc n)) u w x (has.some p e there) small ((delay_holds v w c u (operand_slices plan values a) (constant_small p c e there is) s).keeps n b.operand.bytes l ∙ b.is))
    later_by (Rec init first) n shows held p e there m is args ea = λ k low high.
        let one = one_arg p e there (ap arity is) in
        let kind = one_kind p e there (ap arity is) in
        let found = net.recs p init first one.0 kind.0 e there m is one.1 kind.1 in
        keeps k low high one.0 kind.0 found
      where
        now : (k : ℕ) → 1 ≤ k → k ≤ depth p → ShowsNumber (v n) (past_slices (get_or plan.widths p 0) (hold_at plan p k)) (get_or plan.widths p 0) (number_before (history plan.equations plan.widths samples n) p k init)
        now =
            let Q : Op → Type 0 = λ o. HeldBy plan values samples v depth o e.args n p in
            subst Q is (held p e there m)

        keeps : (k : ℕ) → 1 ≤ k → k ≤ depth p → (a : Operand) (kind : Bool) → IsRecAt v (get_or plan.widths p 0) init (depth p) (hold_at plan p) (body_of plan values a kind) (value_of values p) → ShowsNumber (v (suc n)) (past_slices (get_or plan.widths p 0) (hold_at plan p k)) (get_or plan.widths p 0) (number_before (history plan.equations plan.widths samples (suc n)) p k init)
        keeps zero low high a kind at = absurd (omega arith)
        keeps (suc zero) low high a kind at =
            let s = shows p e there m in
            let w : ℕ = get_or plan.widths p 0 in
            let P : List NetSlice → Type 0 = λ ws. shown (v n) ws ≡ val plan.equations plan.widths samples n p in
            let here : shown (v n) (unit_slices w (hold_at plan p 1)) ≡ val plan.equations plan.widths samples n p = subst P at.slices_are s.is in
            let l : val plan.equations plan.widths samples n p < 2 ^ w = subst (λ (x : ℕ). x < 2 ^ w) s.is s.operand.below in
            states_are (v (suc n)) (net.bytes (suc n)) (hold_at plan p 1) w (val plan.equations plan.widths samples n p) (has.some p e there) l ((first_holds v w init (hold_at plan p 1) (widened (body_of plan values a kind) w at.u).slices (initial_small p init first e there is) at.first).keeps n ∙ here)
        keeps (suc (suc k)) low high a kind at =
            let h = now (suc k) (omega arith) (omega arith) in
            let w : ℕ = get_or plan.widths p 0 in
            let x : ℕ = number_before (history plan.equations plan.widths samples n) p (suc k) init in
            let t = at.later (suc k) (omega arith) high in
            let on = later_holds v w init (hold_at plan p (suc (suc k))) (hold_at plan p (suc k)) (initial_small p init first e there is) t in
            let l : x < 2 ^ w = subst (λ (y : ℕ). y < 2 ^ w) h.is h.operand.below in
            let more : number_before (history plan.equations plan.widths samples (suc n)) p (suc (suc k)) init ≡ x = past_more (row_at plan.equations plan.widths samples n) (history plan.equations plan.widths samples n) p (suc k) init (omega arith) in
            let P : ℕ → Type 0 = λ y. ShowsNumber (v (suc n)) (past_slices w (hold_at plan p (suc (suc k)))) w y in
            subst P (sym more) (states_are (v (suc n)) (net.bytes (suc n)) (hold_at plan p (suc (suc k))) w x (has.some p e there) l (on.keeps n ∙ later_shows v w init (hold_at plan p (suc (suc k))) (hold_at plan p (suc k)) n (net.bytes n) t ∙ h.is))
    later_by other n shows held p e there m is args ea = tt

    later_at : (n : ℕ) → ((p : ℕ) → Shows n p) → ((p : ℕ) → Held n p) → (p : ℕ) → Held (suc n) p
    later_at n shows held p e there m = later_by e.op n shows held p e there m refl e.args refl
