-- Groups of two recurrences are apart: with one recurrence at most, and by what units depend on.
use Rattle.std.proofs.Common.{◌≡◌, ◌<◌, ◌≤◌, ℕ, zero, suc, ◌+◌, ◌==◌, Bool, true, false, cond, None, Some, List, [], ◌∷◌, ◌++◌, length, take, get_or, refl, subst, sym, ap, ◌∙◌, arith, inl, inr}
use Rattle.std.specs.Prelude.{count_by, nat_le, nat_lt}
use Rattle.std.specs.Bool.{if◌then◌else◌}
use Rattle.std.specs.List.{slice_get, list_any, Contains}
use Rattle.std.proofs.lemmas.Bool.{and_parts, eqb-true, leb-true, ltb-true, false≢true}
use Rattle.std.proofs.lemmas.List.{length-take, get_or-take}
use Rattle.std.proofs.lemmas.List.Sums.{sum_by-cons}
use Rattle.std.proofs.lemmas.List.Elements.{Contains-append_cases}
use Rattle.pr_flat.specs.declared.equations.Operand.{Operand}
use Rattle.pr_flat.specs.Shape.{EquationShape}
use Rattle.pr_flat.specs.Facts.{is_rec}
use Rattle.pr_net.specs.declared.cells.Wire.{Wire}
use Rattle.pr_net.specs.declared.cells.Cell.{Cell}
use Rattle.pr_net.specs.Shape.{cells_of}
use Rattle.pr_net.proofs.Lists.{any_found, only_head, in_none}
use Rattle.pr_cut_units.specs.Parts.{each}
use Rattle.pr_cut_units.specs.Reached.{hold_count}
use Rattle.pr_cut_units.specs.Groups.{Holds, cell_wires, ties, is_tied, tied_from}
use Rattle.pr_cut_units.specs.Equations.{plan_of, hold_unit}
use Rattle.pr_cut_units.specs.Nets.{net_of}
use Rattle.pr_cut_units.proofs.TiedLists.{hold_at}
use Rattle.pr_cut_units.proofs.NetGrouped.{holds_of, IsRec}
use Rattle.pr_flat.specs.Facts.{IsFlat}
use Rattle.pr_flat.specs.Widths.{AreWidths}
use Rattle.pr_net.specs.Nets.{IsNet}
use Rattle.pr_cut_units.specs.Nets.{limit_passed}
use Rattle.pr_cut_units.proofs.NetLawful.{IsGrouped}
use Rattle.pr_cut_units.proofs.NetGrouped.{grouped_if_apart}
use Rattle.pr_cut_units.proofs.NetApart.{TiedApart, recs_apart, net_if_apart}

-- ---- one recurrence at most
recs_next : (d : EquationShape) (es : List EquationShape) → count_by (λ (e : EquationShape). is_rec e.op) (d ∷ es) ≡ cond (is_rec d.op) 1 0 + count_by (λ (e : EquationShape). is_rec e.op) es
recs_next d es = sum_by-cons (λ (x : EquationShape). cond (is_rec x.op) 1 0) d es

one_more : (b : Bool) → b ≡ true → 1 ≤ cond b 1 0
one_more true h = omega arith
one_more false h = absurd (false≢true h)

count_one : (es : List EquationShape) (a : ℕ) (d : EquationShape) → slice_get es a ≡ Some d → is_rec d.op ≡ true → 1 ≤ count_by (λ (e : EquationShape). is_rec e.op) es
count_one [] a d there h = cc
count_one (x ∷ es) zero d there h =
    let same : x ≡ d = cc in
    let t = one_more (is_rec x.op) (ap (λ (q : EquationShape). is_rec q.op) same ∙ h) in
    let n = recs_next x es in
    omega (arith, t, n)
count_one (x ∷ es) (suc a) d there h = (let n = recs_next x es in let m = count_one es a d there h in omega (arith, n, m))

count_two : (es : List EquationShape) (a b : ℕ) (d e : EquationShape) → a < b → slice_get es a ≡ Some d → slice_get es b ≡ Some e → is_rec d.op ≡ true → is_rec e.op ≡ true → 2 ≤ count_by (λ (e : EquationShape). is_rec e.op) es
count_two [] a b d e l there other h k = cc
count_two (x ∷ es) a zero d e l there other h k = absurd (omega (arith, l))
count_two (x ∷ es) zero (suc b) d e l there other h k =
    let same : x ≡ d = cc in
    let t = one_more (is_rec x.op) (ap (λ (q : EquationShape). is_rec q.op) same ∙ h) in
    let n = recs_next x es in
    let m = count_one es b e other k in
    omega (arith, t, n, m)
count_two (x ∷ es) (suc a) (suc b) d e l there other h k = (let n = recs_next x es in let m = count_two es a b d e (omega (arith, l)) there other h k in omega (arith, n, m))

pub one_apart : (equations : List EquationShape) (widths : List ℕ) (outputs : List Operand) → count_by (λ (e : EquationShape). is_rec e.op) equations ≤ 1 → TiedApart equations widths outputs
one_apart equations widths outputs few = record {
  at = λ a b u l ra rb ca cb. (let m = count_two equations a b ra.equation rb.equation l ra.there rb.there ra.rec rb.rec in absurd (omega (arith, m, few)));
}

-- ---- what units depend on
-- a unit of these cells is in Q if it reads a state of the hold units, or a cell of a unit in Q
pub record Passes (holds : Holds) (Q : ℕ → Type 0) (u : ℕ) (ks : List Cell) : Type 0 where
  pub states : (k : Cell) (v j : ℕ) → Contains ks k → Contains (cell_wires k) (Wire.State v j) → holds.first ≤ v → v < holds.first + holds.count → Q u
  pub reads : (k : Cell) (v j : ℕ) → Contains ks k → Contains (cell_wires k) (Wire.Of v j) → Q v → Q u

by_wire : (holds : Holds) (Q : ℕ → Type 0) (group : List ℕ) (u : ℕ) (ks : List Cell) (k : Cell) (w : Wire) → Passes holds Q u ks → ((x : ℕ) → Contains group x → Q x) → Contains ks k → Contains (cell_wires k) w → ties holds group w ≡ true → Q u
by_wire holds Q group u ks k (Wire.Const n) p inside ck cw t = absurd (false≢true t)
by_wire holds Q group u ks k (Wire.Of v j) p inside ck cw t =
    let f = any_found (λ w. w == v) group t in
    p.reads k v j ck cw (inside v (subst (λ (n : ℕ). Contains group n) (eqb-true f.0 v f.2) f.1))
by_wire holds Q group u ks k (Wire.State v j) p inside ck cw t =
    let q = and_parts (nat_le holds.first v) (nat_lt v (holds.first + holds.count)) t in
    p.states k v j ck cw (leb-true holds.first v q.0) (ltb-true v (holds.first + holds.count) q.1)
by_wire holds Q group u ks k (Wire.Bus n) p inside ck cw t = absurd (false≢true t)

tied_in : (holds : Holds) (Q : ℕ → Type 0) (group : List ℕ) (u : ℕ) (ks : List Cell) → Passes holds Q u ks → ((x : ℕ) → Contains group x → Q x) → is_tied holds group ks ≡ true → Q u
tied_in holds Q group u ks p inside t =
    let f = any_found (λ (k : Cell). list_any (ties holds group) (cell_wires k)) ks t in
    let w = any_found (ties holds group) (cell_wires f.0) f.2 in
    by_wire holds Q group u ks f.0 w.0 p inside f.1 w.1 w.2

-- all that is tied is in Q
pub tied_within : (holds : Holds) (Q : ℕ → Type 0) (group : List ℕ) (a : ℕ) (us : List (List Cell)) → ((x : ℕ) → Contains group x → Q x) → ((i : ℕ) → i < length us → Passes holds Q (a + i) (get_or us i [])) → (x : ℕ) → Contains (tied_from holds group a us) x → Q x
tied_within holds Q group a [] inside p x c = inside x c
tied_within holds Q group a (ks ∷ us) inside p x c =
    tied_within holds Q (if is_tied holds group ks then group ++ a ∷ [] else group) (suc a) us (go (is_tied holds group ks) refl)
    (λ i l. (let z : a + suc i ≡ suc a + i = omega arith in subst (λ (n : ℕ). Passes holds Q n (get_or us i [])) z (p (suc i) (omega (arith, l))))) x c
  where
    go : (b : Bool) → is_tied holds group ks ≡ b → (x : ℕ) → Contains (if b then group ++ a ∷ [] else group) x → Q x
    go true q x c = elim (Contains-append_cases group (a ∷ []) x c) [
      | inl h ↦ inside x h
      | inr h ↦ (let z : a + 0 ≡ a = omega arith in
          subst Q (only_head a x h) (tied_in holds Q group a ks (subst (λ (n : ℕ). Passes holds Q n ks) z (p 0 (omega arith))) inside q))
    ]
    go false q x c = inside x c

-- what units depend on, for each recurrence: Q rec u
pub record Depends (equations : List EquationShape) (widths : List ℕ) (outputs : List Operand) (Q : ℕ → ℕ → Type 0) : Type 0 where
  pub passes : (let plan = plan_of equations widths outputs in let net = net_of equations widths outputs in
      (rec u : ℕ) → IsRec equations plan.reached rec → u < hold_unit plan rec → u < length net.units → Passes (holds_of plan rec) (Q rec) u (cells_of net u))
  pub apart : (let plan = plan_of equations widths outputs in
      (a b u : ℕ) → a < b → IsRec equations plan.reached a → IsRec equations plan.reached b → Q a u → Q b u → ⊥)
  pub held : (let plan = plan_of equations widths outputs in
      (a b u : ℕ) → a < b → IsRec equations plan.reached a → IsRec equations plan.reached b → hold_unit plan a ≤ u → u < hold_unit plan a + hold_count equations a → Q b u → ⊥)

pub tied_apart_by : (equations : List EquationShape) (widths : List ℕ) (outputs : List Operand) (Q : ℕ → ℕ → Type 0) → Depends equations widths outputs Q → TiedApart equations widths outputs
tied_apart_by equations widths outputs Q d =
    let plan = plan_of equations widths outputs in
    let net = net_of equations widths outputs in
    let within : (rec x : ℕ) → IsRec equations plan.reached rec → Contains (tied_from (holds_of plan rec) [] 0 (take (hold_unit plan rec) net.units)) x → Q rec x = λ rec x r c.
    tied_within (holds_of plan rec) (Q rec) [] 0 (take (hold_unit plan rec) net.units) (λ y n. absurd (in_none y n))
    (λ i l. (let n = length-take (hold_unit plan rec) net.units in
    let short : i < hold_unit plan rec = omega (arith, l, n) in
    let z : i ≡ 0 + i = omega arith in
    let same : get_or (take (hold_unit plan rec) net.units) i [] ≡ cells_of net i = get_or-take (hold_unit plan rec) net.units i [] short in
    subst (λ (k : ℕ). Passes (holds_of plan rec) (Q rec) k (get_or (take (hold_unit plan rec) net.units) i [])) z
    (subst (λ (ks : List Cell). Passes (holds_of plan rec) (Q rec) i ks) (sym same) (d.passes rec i r short (omega (arith, l, n)))))) x c in
    record {
      at = λ a b u l ra rb ca cb. elim (Contains-append_cases (tied_from (holds_of plan a) [] 0 (take (hold_unit plan a) net.units)) (each (hold_count equations a) (λ j. hold_unit plan a + j)) u ca) [
        | inl c ↦ d.apart a b u l ra rb (within a u ra c) (within b u rb cb)
        | inr c ↦ (let h = hold_at (hold_unit plan a) (hold_count equations a) u c in d.held a b u l ra rb h.low h.high (within b u rb cb))
      ];
    }

-- ---- the groups and the net, with one recurrence at most and by what units depend on
pub grouped_by : (columns : ℕ) (equations : List EquationShape) (widths : List ℕ) (outputs : List Operand) (Q : ℕ → ℕ → Type 0) → IsFlat equations outputs → AreWidths equations widths → limit_passed columns (net_of equations widths outputs) ≡ None → Depends equations widths outputs Q → IsGrouped (net_of equations widths outputs)
grouped_by columns equations widths outputs Q flat wide limits d = grouped_if_apart columns equations widths outputs flat wide limits (recs_apart equations widths outputs (tied_apart_by equations widths outputs Q d))

pub grouped_one : (columns : ℕ) (equations : List EquationShape) (widths : List ℕ) (outputs : List Operand) → IsFlat equations outputs → AreWidths equations widths → limit_passed columns (net_of equations widths outputs) ≡ None → count_by (λ (e : EquationShape). is_rec e.op) equations ≤ 1 → IsGrouped (net_of equations widths outputs)
grouped_one columns equations widths outputs flat wide limits few = grouped_if_apart columns equations widths outputs flat wide limits (recs_apart equations widths outputs (one_apart equations widths outputs few))

pub net_one : (columns : ℕ) (equations : List EquationShape) (widths : List ℕ) (outputs : List Operand) → IsFlat equations outputs → AreWidths equations widths → limit_passed columns (net_of equations widths outputs) ≡ None → count_by (λ (e : EquationShape). is_rec e.op) equations ≤ 1 → IsNet columns (net_of equations widths outputs)
net_one columns equations widths outputs flat wide limits few = net_if_apart columns equations widths outputs flat wide limits (one_apart equations widths outputs few)
