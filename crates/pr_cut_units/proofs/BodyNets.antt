-- Groups of two recurrences are apart since bodies are: what is tied to a recurrence stands in its body, by the order of units.
use Rattle.std.proofs.Common.{◌≡◌, ◌<◌, ◌≤◌, ℕ, ◌+◌, false, Some, List, [], ◌∷◌, length, take, get_or, subst, sym, ◌∙◌, arith, inl, inr}
use Rattle.std.specs.Prelude.{slice_index_or}
use Rattle.std.specs.List.{slice_get, Contains}
use Rattle.std.proofs.lemmas.Bool.{cases_lt, or_right, false≢true}
use Rattle.pr_flat.specs.declared.equations.Operand.{Operand}
use Rattle.pr_flat.specs.declared.equations.Op.{Op}
use Rattle.pr_flat.specs.Shape.{EquationShape}
use Rattle.pr_flat.specs.Facts.{is_input, IsFlat}
use Rattle.pr_flat.specs.Widths.{AreWidths}
use Rattle.pr_net.specs.declared.cells.Wire.{Wire}
use Rattle.pr_net.specs.declared.cells.WireBit.{WireBit}
use Rattle.pr_net.specs.declared.cells.Cell.{Cell}
use Rattle.pr_net.specs.Shape.{cells_of}
use Rattle.pr_net.specs.Order.{IsBefore, IsBitBefore, ReadsBefore, AllBefore}
use Rattle.pr_net.proofs.Lists.{head_or_tail, in_none, only_head}
use Rattle.pr_cut_units.specs.Reached.{hold_count}
use Rattle.pr_cut_units.specs.Groups.{bit_wires, cell_wires, tied_from}
use Rattle.pr_cut_units.specs.Equations.{plan_of, hold_unit, first_unit, cut_whole}
use Rattle.pr_cut_units.specs.Nets.{net_of}
use Rattle.pr_cut_units.proofs.GoodNets.{good_whole}
use Rattle.pr_cut_units.proofs.WideNets.{are_wide}
use Rattle.pr_cut_units.proofs.NetLawful.{order_at}
use Rattle.pr_cut_units.proofs.StateNets.{hold_is}
use Rattle.pr_cut_units.proofs.TiedNets.{own_rec, first_later}
use Rattle.pr_cut_units.proofs.NetGrouped.{holds_of, IsRec, rec_parts}
use Rattle.pr_cut_units.proofs.NetApart.{TiedApart}
use Rattle.pr_cut_units.proofs.DependNets.{Passes, tied_within, tied_apart_by}
use Rattle.std.proofs.lemmas.List.{length-take, get_or-take}

-- a cell of a unit reads bytes of earlier units
bit_before : (u : ℕ) (c : WireBit) (w : Wire) → IsBitBefore u c → Contains (bit_wires c) w → IsBefore u w
bit_before u WireBit.None w b h = absurd (in_none w h)
bit_before u (WireBit.Of x k) w b h = subst (λ (y : Wire). IsBefore u y) (only_head x w h) b
bit_before u WireBit.CarryIn w b h = absurd (in_none w h)

wire_before : (u : ℕ) (k : Cell) (w : Wire) → ReadsBefore u k → Contains (cell_wires k) w → IsBefore u w
wire_before u k w b h = elim (head_or_tail k.a w (k.hi ∷ k.lo ∷ bit_wires k.c) h) [
  | inl e ↦ subst (λ (y : Wire). IsBefore u y) e b.a
  | inr s ↦ elim (head_or_tail k.hi w (k.lo ∷ bit_wires k.c) s) [
    | inl e ↦ subst (λ (y : Wire). IsBefore u y) e b.hi
    | inr t ↦ elim (head_or_tail k.lo w (bit_wires k.c) t) [
      | inl e ↦ subst (λ (y : Wire). IsBefore u y) e b.lo
      | inr r ↦ bit_before u k.c w b.c r
    ]
  ]
]

cell_before : (u : ℕ) (ks : List Cell) (k : Cell) → AllBefore u ks → Contains ks k → ReadsBefore u k
cell_before u [] k b c = absurd (in_none k c)
cell_before u (x ∷ ks) k b c = elim (head_or_tail x k ks c) [
  | inl e ↦ subst (λ (y : Cell). ReadsBefore u y) e b.0
  | inr t ↦ cell_before u ks k b.1 t
]

-- u stands before the hold units of rec, and not before its body
pub record InBody (equations : List EquationShape) (widths : List ℕ) (outputs : List Operand) (rec u : ℕ) : Type 0 where
  pub high : u < hold_unit (plan_of equations widths outputs) rec
  pub low : (e : EquationShape) (init first : ℕ) → slice_get equations rec ≡ Some e → e.op ≡ Op.Rec init first → first_unit (plan_of equations widths outputs) first ≤ u

-- what is left: a unit before the hold units of a recurrence that reads one of their states is not before its body
pub record StartsIn (equations : List EquationShape) (widths : List ℕ) (outputs : List Operand) : Type 0 where
  pub at : (let plan = plan_of equations widths outputs in let net = net_of equations widths outputs in
      (rec u : ℕ) (k : Cell) (v j : ℕ) (e : EquationShape) (init first : ℕ) → IsRec equations plan.reached rec → slice_get equations rec ≡ Some e → e.op ≡ Op.Rec init first → u < hold_unit plan rec → u < length net.units
      → Contains (cells_of net u) k → Contains (cell_wires k) (Wire.State v j) → hold_unit plan rec ≤ v → v < hold_unit plan rec + hold_count equations rec → first_unit plan first ≤ u)

-- the group of a recurrence ends before the body of a later one
pub body_after : (equations : List EquationShape) (widths : List ℕ) (outputs : List Operand) (a b u : ℕ) → IsFlat equations outputs
    → (let plan = plan_of equations widths outputs in a < b → IsRec equations plan.reached a → IsRec equations plan.reached b → InBody equations widths outputs b u → hold_unit plan a + hold_count equations a ≤ u)
body_after equations widths outputs a b u flat l ra rb q =
    let plan = plan_of equations widths outputs in
    let pa = rec_parts ra.equation.op ra.rec in
    let pb = rec_parts rb.equation.op rb.rec in
    let body = flat.bodies b rb.equation rb.there pb.init pb.first pb.is in
    let short : a < pb.first = elim (cases_lt a pb.first) [
      | inl s ↦ s
      | inr s ↦ absurd (false≢true (sym (body.alone a ra.equation ra.there s l) ∙ ra.rec))
    ] in
    let own = own_rec equations widths a pa.init pa.first ra.equation ra.equation.op pa.is in
    let at = hold_is plan a ra.equation ra.there in
    let end = first_later equations widths outputs a pb.first ra.equation ra.there (or_right (is_input ra.equation.op) (slice_index_or plan.reached a false) ra.reached) short in
    let low = q.low rb.equation pb.init pb.first rb.there pb.is in
    omega (arith, own, at, end, low)

-- what units pass on: a unit that reads a state of a recurrence, or a unit of its body, stands in its body
passes_body : (equations : List EquationShape) (widths : List ℕ) (outputs : List Operand) → IsFlat equations outputs → AreWidths equations widths → StartsIn equations widths outputs
    → (let plan = plan_of equations widths outputs in let net = net_of equations widths outputs in (rec u : ℕ) → IsRec equations plan.reached rec → u < hold_unit plan rec → u < length net.units → Passes (holds_of plan rec) (InBody equations widths outputs rec) u (cells_of net u))
unfolding net_of
passes_body equations widths outputs flat wide s =
    let plan = plan_of equations widths outputs in
    let net = net_of equations widths outputs in
    let good = good_whole plan (are_wide equations outputs widths flat wide) in
    λ rec u r high lu. record {
      states = λ k v j ck cw lo hi. record { high = high; low = λ e init first there op. s.at rec u k v j e init first r there op high lu ck cw lo hi };
      reads = λ k v j ck cw q. (let z : 0 + u ≡ u = omega arith in
          let b : AllBefore u (cells_of net u) = subst (λ (n : ℕ). AllBefore n (cells_of net u)) z (order_at 0 net.units u good.order) in
          let before : v < u = wire_before u k (Wire.Of v j) (cell_before u (cells_of net u) k b ck) cw in
          record { high = high; low = λ e init first there op. (let t = q.low e init first there op in omega (arith, t, before)) });
    }

pub tied_in_bodies : (equations : List EquationShape) (widths : List ℕ) (outputs : List Operand) → IsFlat equations outputs → AreWidths equations widths → StartsIn equations widths outputs → TiedApart equations widths outputs
tied_in_bodies equations widths outputs flat wide s = tied_apart_by equations widths outputs (InBody equations widths outputs) (record {
  passes = passes_body equations widths outputs flat wide s;
  apart = λ a b u l ra rb qa qb. (let end = body_after equations widths outputs a b u flat l ra rb qb in let h = qa.high in absurd (omega (arith, end, h)));
  held = λ a b u l ra rb lo hi qb. (let end = body_after equations widths outputs a b u flat l ra rb qb in absurd (omega (arith, end, hi)));
})

-- a unit below this one that is tied to a recurrence stands in its body
pub in_body : (equations : List EquationShape) (widths : List ℕ) (outputs : List Operand) (rec n u : ℕ) → IsFlat equations outputs → AreWidths equations widths → StartsIn equations widths outputs
    → (let plan = plan_of equations widths outputs in IsRec equations plan.reached rec → n ≤ hold_unit plan rec → Contains (tied_from (holds_of plan rec) [] 0 (take n (cut_whole plan).units)) u → InBody equations widths outputs rec u × (u < n))
unfolding net_of
in_body equations widths outputs rec n u flat wide s r low c =
    let plan = plan_of equations widths outputs in
    let net = net_of equations widths outputs in
    let Q = λ (u : ℕ). InBody equations widths outputs rec u × (u < n) in
    let pass = passes_body equations widths outputs flat wide s in
    tied_within (holds_of plan rec) Q [] 0 (take n net.units) (λ y h. absurd (in_none y h))
    (λ i l. (let long = length-take n net.units in
    let short : i < n = omega (arith, l, long) in
    let z : i ≡ 0 + i = omega arith in
    let same : get_or (take n net.units) i [] ≡ cells_of net i = get_or-take n net.units i [] short in
    let p = pass rec i r (omega (arith, short, low)) (omega (arith, l, long)) in
    subst (λ (k : ℕ). Passes (holds_of plan rec) Q k (get_or (take n net.units) i [])) z
    (subst (λ (ks : List Cell). Passes (holds_of plan rec) Q i ks) (sym same) (record {
      states = λ k v j ck cw lo hi. (p.states k v j ck cw lo hi, short);
      reads = λ k v j ck cw q. (p.reads k v j ck cw q.0, short);
    })))) u c
