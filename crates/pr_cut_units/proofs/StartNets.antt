-- A unit that reads a state of a recurrence stands in its body: groups of two recurrences are apart, and the net of flat equations is lawful.
use Rattle.std.proofs.Common.{◌≡◌, ◌<◌, ◌≤◌, ℕ, ◌+◌, true, Some, None, List, [], ◌∷◌, ◌++◌, length, get_or, refl, subst, sym, ap, ◌∙◌, arith, inl, inr}
use Rattle.std.specs.List.{slice_get, Contains, sum_by}
use Rattle.std.proofs.lemmas.Bool.{cases_lt, ltb-true, eqb-true, false≢true}
use Rattle.pr_base.specs.Numbers.{slices_of}
use Rattle.pr_flat.specs.declared.equations.Operand.{Operand}
use Rattle.pr_flat.specs.declared.equations.Op.{Op}
use Rattle.pr_flat.specs.Shape.{EquationShape}
use Rattle.pr_flat.specs.Facts.{is_rec, is_lawful_operand, reads_past, reads_equation, DependsOnPast, IsFlat}
use Rattle.pr_flat.specs.Widths.{AreWidths}
use Rattle.pr_flat.proofs.WidthLemmas.{PastOf, past_of, one_equation}
use Rattle.pr_net.specs.declared.cells.Wire.{Wire}
use Rattle.pr_net.specs.declared.cells.WireBit.{WireBit}
use Rattle.pr_net.specs.declared.cells.Cell.{Cell}
use Rattle.pr_net.specs.Shape.{cells_of}
use Rattle.pr_net.specs.Nets.{IsNet}
use Rattle.pr_net.proofs.Lists.{head_or_tail, in_none, only_head, any_found, all_pass}
use Rattle.pr_cut_units.specs.Reached.{hold_count}
use Rattle.pr_cut_units.specs.Groups.{bit_wires, cell_wires}
use Rattle.pr_cut_units.specs.Equations.{UnitPlan, plan_of, hold_unit, first_unit, input_units, cut_start}
use Rattle.pr_cut_units.specs.Nets.{net_of, limit_passed}
use Rattle.pr_cut_units.proofs.FitParts.{IsThere, IsBitThere, IsFit, AllFit}
use Rattle.pr_cut_units.proofs.FitNets.{added_after, added_is}
use Rattle.pr_cut_units.proofs.WideNets.{are_counted, rest_all}
use Rattle.pr_cut_units.proofs.NetLawful.{AllInput, IsGrouped, input_at, unit_cases, read_at, with_fit}
use Rattle.pr_cut_units.proofs.StateNets.{MayHave, MayShow, ReadBy, allowed_from, holds_sized}
use Rattle.pr_cut_units.proofs.GroupLists.{tied_by}
use Rattle.pr_cut_units.proofs.TiedLists.{input_untied}
use Rattle.pr_cut_units.proofs.TiedNets.{sum_upto}
use Rattle.pr_cut_units.proofs.NetGrouped.{holds_of, IsRec, grouped_if_apart}
use Rattle.pr_cut_units.proofs.NetApart.{TiedApart, group_before, recs_apart, net_if_apart}
use Rattle.pr_cut_units.proofs.BodyNets.{StartsIn, tied_in_bodies}

-- what depends on the past of a recurrence stands in its body
past_from : (equations : List EquationShape) (rec i : ℕ) (a : Operand) → reads_past rec a ≡ true → is_lawful_operand equations i a ≡ true → PastOf equations i rec
past_from equations rec i (Operand.Const c) h l = absurd (false≢true h)
past_from equations rec i (Operand.Eq j) h l = absurd (false≢true h)
past_from equations rec i (Operand.Past r k) h l = subst (λ (n : ℕ). PastOf equations i n) (eqb-true r rec h) (past_of equations i r k l)

eq_less : (equations : List EquationShape) (i j : ℕ) (a : Operand) → reads_equation j a ≡ true → is_lawful_operand equations i a ≡ true → j < i
eq_less equations i j (Operand.Const c) h l = absurd (false≢true h)
eq_less equations i j (Operand.Eq k) h l = (let e = eqb-true k j h in let s = ltb-true k i l in omega (arith, e, s))
eq_less equations i j (Operand.Past r k) h l = absurd (false≢true h)

same_first : (x y : Op) (a b c d : ℕ) → x ≡ y → x ≡ Op.Rec a b → y ≡ Op.Rec c d → b ≡ d
same_first x y a b c d e p q = cc

depends_in : (equations : List EquationShape) (outputs : List Operand) (rec i : ℕ) (e : EquationShape) (init first : ℕ) → IsFlat equations outputs → slice_get equations rec ≡ Some e → e.op ≡ Op.Rec init first → DependsOnPast equations rec i → first ≤ i
depends_in equations outputs rec _ e init first flat there op (DependsOnPast.ReadsPast i d at reads) =
    let f = any_found (reads_past rec) d.args reads in
    let p = past_from equations rec i f.0 f.2 (all_pass (is_lawful_operand equations i) d.args (flat.operands i d at) f.0 f.1) in
    let one : p.equation ≡ e = one_equation equations rec p.equation e p.there there in
    let same : p.first ≡ first = same_first p.equation.op e.op p.init p.first init first (ap (λ (q : EquationShape). q.op) one) p.op op in
    let low = p.low in
    omega (arith, same, low)
depends_in equations outputs rec _ e init first flat there op (DependsOnPast.Reads i j d at reads other dep) =
    let f = any_found (reads_equation j) d.args reads in
    let less = eq_less equations i j f.0 f.2 (all_pass (is_lawful_operand equations i) d.args (flat.operands i d at) f.0 f.1) in
    let ih = depends_in equations outputs rec j e init first flat there op dep in
    omega (arith, less, ih)

-- what a wire of a fit cell reads is there
bit_there : (z : ℕ → ℕ) (T : ℕ → ℕ → Type 0) (c : WireBit) (w : Wire) → IsBitThere z T c → Contains (bit_wires c) w → IsThere z T w
bit_there z T WireBit.None w b h = absurd (in_none w h)
bit_there z T (WireBit.Of x k) w b h = subst (λ (y : Wire). IsThere z T y) (only_head x w h) b.0
bit_there z T WireBit.CarryIn w b h = absurd (in_none w h)

wire_there : (z : ℕ → ℕ) (T : ℕ → ℕ → Type 0) (k : Cell) (w : Wire) → IsFit z T k → Contains (cell_wires k) w → IsThere z T w
wire_there z T k w b h = elim (head_or_tail k.a w (k.hi ∷ k.lo ∷ bit_wires k.c) h) [
  | inl e ↦ subst (λ (y : Wire). IsThere z T y) e b.a
  | inr s ↦ elim (head_or_tail k.hi w (k.lo ∷ bit_wires k.c) s) [
    | inl e ↦ subst (λ (y : Wire). IsThere z T y) e b.hi
    | inr t ↦ elim (head_or_tail k.lo w (bit_wires k.c) t) [
      | inl e ↦ subst (λ (y : Wire). IsThere z T y) e b.lo
      | inr r ↦ bit_there z T k.c w b.c r
    ]
  ]
]

cell_fit : (z : ℕ → ℕ) (T : ℕ → ℕ → Type 0) (ks : List Cell) (k : Cell) → AllFit z T ks → Contains ks k → IsFit z T k
cell_fit z T [] k b c = absurd (in_none k c)
cell_fit z T (x ∷ ks) k b c = elim (head_or_tail x k ks c) [
  | inl e ↦ subst (λ (y : Cell). IsFit z T y) e b.0
  | inr t ↦ cell_fit z T ks k b.1 t
]

units_later : (plan : UnitPlan) (i m : ℕ) → i ≤ m → first_unit plan i ≤ first_unit plan m
units_later plan i m l = elim (cases_lt i m) [
  | inl s ↦ (let t = sum_upto plan.counts i m s in omega (arith, t))
  | inr s ↦ (let e : i ≡ m = omega (arith, l, s) in let t = ap (first_unit plan) e in omega (arith, t))
]

-- a state of a recurrence that a unit before its hold units may read is read in its body
reads_in : (z : ℕ → ℕ) (equations : List EquationShape) (widths : List ℕ) (outputs : List Operand) (rec u v j : ℕ) (e : EquationShape) (init first : ℕ) → IsFlat equations outputs
    → (let plan = plan_of equations widths outputs in IsRec equations plan.reached rec → slice_get equations rec ≡ Some e → e.op ≡ Op.Rec init first → u < hold_unit plan rec → hold_unit plan rec ≤ v → v < hold_unit plan rec + hold_count equations rec → ReadBy z plan u v j → first_unit plan first ≤ u)
reads_in z equations widths outputs rec u v j e init first flat r there op high lo hi (inl s) =
    let plan = plan_of equations widths outputs in
    let h = s.state.hold in
    let n = s.state.rec in
    let other : IsRec equations plan.reached n = record { equation = h.equation; there = h.there; rec = ap is_rec h.op; reached = h.reached } in
    let is = h.is in
    let held = h.held in
    let same : n ≡ rec = elim (cases_lt n rec) [
      | inl l ↦ absurd (let q = group_before equations widths outputs n rec l other r in omega (arith, q, is, held, lo))
      | inr l ↦ elim (cases_lt rec n) [
        | inl m ↦ absurd (let q = group_before equations widths outputs rec n m r other in omega (arith, q, is, hi))
        | inr m ↦ omega (arith, l, m)
      ]
    ] in
    let from = depends_in equations outputs rec s.number e init first flat there op (subst (λ (k : ℕ). DependsOnPast equations k s.number) same s.state.depends) in
    let low = s.low in
    let later = units_later plan first s.number from in
    omega (arith, low, later)
reads_in z equations widths outputs rec u v j e init first flat r there op high lo hi (inr (inl w)) = absurd (let q = w.0 in omega (arith, q, high, lo))
reads_in z equations widths outputs rec u v j e init first flat r there op high lo hi (inr (inr w)) = absurd (let a = w.0.later in let b = w.0.before in omega (arith, a, b, high, lo))

pub starts_in : (equations : List EquationShape) (widths : List ℕ) (outputs : List Operand) → IsFlat equations outputs → AreWidths equations widths → StartsIn equations widths outputs
unfolding net_of
starts_in equations widths outputs flat wide =
    let plan = plan_of equations widths outputs in
    let net = net_of equations widths outputs in
    let z = λ (v : ℕ). length (cells_of net v) in
    let R = ReadBy z plan in
    let rest = added_after plan (cut_start equations) equations in
    let is : net.units ≡ input_units 0 net.inputs ++ rest = added_is plan (cut_start equations) equations in
    let allowed = allowed_from equations outputs widths net rest 0 equations flat wide (holds_sized equations outputs widths flat wide) refl is (rest_all equations) in
    let fit = with_fit equations widths outputs (MayHave z plan) (MayShow z plan) R (are_counted equations outputs widths flat wide) allowed in
    record {
      at = λ rec u k v j e init first r there op high lu ck cw lo hi. elim (unit_cases net rest u is lu) [
        | inl (a, same) ↦
            (let all : AllInput (0 + sum_by slices_of net.inputs) (cells_of net u) = subst (λ (ks : List Cell). AllInput (0 + sum_by slices_of net.inputs) ks) (sym same) (input_at 0 net.inputs u a).1 in
            absurd (false≢true (sym (input_untied (0 + sum_by slices_of net.inputs) (holds_of plan rec) [] (cells_of net u) all) ∙ tied_by (holds_of plan rec) [] (cells_of net u) k v j ck cw lo hi)))
        | inr (i, li, at, same) ↦
            (let t = read_at z R (length net.inputs) rest i li fit.units in
            let all : AllFit z (R u) (cells_of net u) = subst (λ (ks : List Cell). AllFit z (R u) ks) (sym same) (subst (λ (n : ℕ). AllFit z (R n) (get_or rest i [])) at t.1) in
            reads_in z equations widths outputs rec u v j e init first flat r there op high lo hi (wire_there z (R u) k (Wire.State v j) (cell_fit z (R u) (cells_of net u) k all ck) cw))
      ];
    }

-- the groups of two recurrences are apart
pub are_apart : (equations : List EquationShape) (widths : List ℕ) (outputs : List Operand) → IsFlat equations outputs → AreWidths equations widths → TiedApart equations widths outputs
are_apart equations widths outputs flat wide = tied_in_bodies equations widths outputs flat wide (starts_in equations widths outputs flat wide)

-- the groups of the net of flat equations are in order
pub are_grouped : (columns : ℕ) (equations : List EquationShape) (widths : List ℕ) (outputs : List Operand) → IsFlat equations outputs → AreWidths equations widths → limit_passed columns (net_of equations widths outputs) ≡ None → IsGrouped (net_of equations widths outputs)
are_grouped columns equations widths outputs flat wide limits = grouped_if_apart columns equations widths outputs flat wide limits (recs_apart equations widths outputs (are_apart equations widths outputs flat wide))

-- the net of flat equations, within its limits, is lawful
pub are_lawful : (columns : ℕ) (equations : List EquationShape) (widths : List ℕ) (outputs : List Operand) → IsFlat equations outputs → AreWidths equations widths → limit_passed columns (net_of equations widths outputs) ≡ None → IsNet columns (net_of equations widths outputs)
are_lawful columns equations widths outputs flat wide limits = net_if_apart columns equations widths outputs flat wide limits (are_apart equations widths outputs flat wide)
