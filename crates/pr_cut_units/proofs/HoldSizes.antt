-- Where the hold units of a recurrence stand, and how many cells they have.
use Rattle.std.proofs.Common.{◌≡◌, ◌<◌, ◌≤◌, ℕ, zero, suc, ◌+◌, ◌-◌, Bool, true, false, Some, List, [], ◌∷◌, ◌++◌, length, get_or, max, subst, sym, ap, ◌∙◌, arith, length-append, append_assoc}
use Rattle.std.specs.Prelude.{slice_index, slice_index_or, count_by}
use Rattle.std.specs.Bool.{if◌then◌else◌}
use Rattle.std.specs.List.{slice_get, sum}
use Rattle.std.proofs.lemmas.Bool.{or_right}
use Rattle.std.proofs.lemmas.List.FromFn.{length-map-range_with_len, get_or-map-range_with_len}
use Rattle.pr_base.specs.Numbers.{slices_of}
use Rattle.pr_flat.specs.declared.equations.Op.{Op}
use Rattle.pr_flat.specs.declared.forms.Form.{Form}
use Rattle.pr_flat.specs.Shape.{EquationShape}
use Rattle.pr_flat.specs.Facts.{arity, is_input}
use Rattle.pr_flat.specs.Widths.{forms_in}
use Rattle.pr_net.specs.declared.cells.Slice.{Slice}
use Rattle.pr_net.specs.declared.cells.Cell.{Cell}
use Rattle.pr_cut_units.specs.Parts.{each, kept}
use Rattle.pr_cut_units.specs.Widening.{Argument, widened}
use Rattle.pr_cut_units.specs.States.{hold_cell, later_cell, hold_units, held}
use Rattle.pr_cut_units.specs.Table.{argument_forms}
use Rattle.pr_cut_units.specs.Counts.{widening_count, body_count}
use Rattle.pr_cut_units.specs.Reached.{hold_count}
use Rattle.pr_cut_units.specs.Equations.{UnitPlan, own_count, first_unit, arguments, equation_units, Cut, has_units, next_units, cut_next, counts_from}
use Rattle.pr_cut_units.proofs.CountTable.{takes_widened}
use Rattle.pr_cut_units.proofs.CountNets.{forms_are, IsCounted, AreCounted, next_count, length-arguments, Flags, flags_more, flags_first}
use Rattle.pr_cut_units.proofs.FitParts.{Sized, sized-append}
use Rattle.pr_cut_units.proofs.FitNets.{added_after, sum_push, first_by}

sized_at : (z : ℕ → ℕ) (u : ℕ) (us : List (List Cell)) (m : ℕ) → Sized z u us → m < length us → z (u + m) ≡ length (get_or us m [])
sized_at z u [] m h l = absurd (omega (arith, l))
sized_at z u (ks ∷ us) zero h l = let e : u + 0 ≡ u = omega arith in ap z e ∙ h.0
sized_at z u (ks ∷ us) (suc m) h l = let e : u + suc m ≡ suc u + m = omega arith in ap z e ∙ sized_at z (suc u) us m h.1 (omega (arith, l))

-- each hold unit has a cell for each byte
hold_long : (u w init k : ℕ) (x : List Slice) (m : ℕ) → m < max 1 k → length (get_or (hold_units w init k x u).units m []) ≡ slices_of w
hold_long u w init k x zero l = length-map-range_with_len (hold_cell w init x) 0 (slices_of w)
hold_long u w init k x (suc m) l =
    let f = λ (j : ℕ). each (slices_of w) (later_cell init (u + j)) in
    ap (λ (ks : List Cell). length ks) (get_or-map-range_with_len f 0 (k - 1) m m [] (omega (arith, l)) (omega arith)) ∙ length-map-range_with_len (later_cell init (u + m)) 0 (slices_of w)

held_sizes : (z : ℕ → ℕ) (u w init k : ℕ) (body : Argument) (n : ℕ) → 1 ≤ k → n < k → Sized z u (held w init k body u).units → z (u + widening_count body.form w + n) ≡ slices_of w
held_sizes z u w init k body n some l s =
    let us = (widened body w u).units in
    let count : length us ≡ widening_count body.form w = (takes_widened body w).at u in
    let v : ℕ = u + length us in
    let x = (widened body w u).slices in
    let vs = (hold_units w init k x v).units in
    let both = sized-append z u us vs s in
    let many : length vs ≡ suc (k - 1) = ap suc (length-map-range_with_len (λ (j : ℕ). each (slices_of w) (later_cell init (v + j))) 0 (k - 1)) in
    ap (λ (c : ℕ). z (u + c + n)) (sym count) ∙ sized_at z v vs n both.1 (omega (arith, l, many, some)) ∙ hold_long v w init k x n (omega (arith, l))

equation_sizes : (z : ℕ → ℕ) (plan : UnitPlan) (i u init first : ℕ) (args : List Argument) (n : ℕ) → length args ≡ 1 → 1 ≤ hold_count plan.equations i → n < hold_count plan.equations i → Sized z u (equation_units plan i (Op.Rec init first) args u).units → z (u + body_count (slice_index plan.widths i) (argument_forms args) + n) ≡ slices_of (slice_index plan.widths i)
equation_sizes z plan i u init first (body ∷ []) n long some l s = held_sizes z u (slice_index plan.widths i) init (hold_count plan.equations i) body n some l s
equation_sizes z plan i u init first [] n long some l s = absurd (omega (arith, long))
equation_sizes z plan i u init first (x ∷ y ∷ args) n long some l s = absurd (omega (arith, long))

some_holds : (n : ℕ) → 1 ≤ max 1 n
some_holds n = omega arith

next_sizes : (z : ℕ → ℕ) (plan : UnitPlan) (cut : Cut) (e : EquationShape) (init first n : ℕ) → e.op ≡ Op.Rec init first → IsCounted plan (length cut.values) e → has_units plan (length cut.values) e ≡ true → n < hold_count plan.equations (length cut.values) → Sized z (length cut.units) (next_units plan cut e (length cut.units)).units
    → z (length cut.units + body_count (slice_index plan.widths (length cut.values)) (forms_in plan.widths e) + n) ≡ slices_of (slice_index plan.widths (length cut.values))
next_sizes z plan cut e init first n op c h l s =
    let i : ℕ = length cut.values in
    let u : ℕ = length cut.units in
    let args = arguments plan cut.values e.args e.kinds in
    let forms : argument_forms args ≡ forms_in plan.widths e = forms_are plan cut.values e.args e.kinds in
    let long : length args ≡ 1 = length-arguments plan cut.values e.args e.kinds (arity e.op) c.args c.kinds ∙ ap arity op in
    let made = λ (b : Bool) (o : Op). (if b then equation_units plan i o args else kept []) u in
    let t : Sized z u (made true (Op.Rec init first)).units = subst (λ (o : Op). Sized z u (made true o).units) op (subst (λ (b : Bool). Sized z u (made b e.op).units) h s) in
    ap (λ (fs : List Form). z (u + body_count (slice_index plan.widths i) fs + n)) (sym forms) ∙ equation_sizes z plan i u init first args n long (some_holds _) l t

pub sizes_after : (z : ℕ → ℕ) (plan : UnitPlan) (cut : Cut) (i : ℕ) (rest : List EquationShape) (done : List ℕ) (flags : List Bool) → length cut.values ≡ i → plan.counts ≡ done ++ counts_from plan.equations plan.widths i rest flags → length done ≡ i → length flags ≡ length rest → Flags plan i flags
    → AreCounted plan i rest → length cut.units ≡ count_by (λ (e : EquationShape). is_input e.op) plan.equations + sum done → Sized z (length cut.units) (added_after plan cut rest)
    → (j init first n : ℕ) (d : EquationShape) → slice_get rest j ≡ Some d → d.op ≡ Op.Rec init first → slice_index_or plan.reached (i + j) false ≡ true → n < hold_count plan.equations (i + j)
    → z (first_unit plan (i + j) + body_count (slice_index plan.widths (i + j)) (forms_in plan.widths d) + n) ≡ slices_of (slice_index plan.widths (i + j))
sizes_after z plan cut i [] done flags long counts past same f c at s j init first n d there op r l = cc
sizes_after z plan cut i (e ∷ rest) done [] long counts past same f c at s j init first n d there op r l = absurd (omega (arith, same))
sizes_after z plan cut i (e ∷ rest) done (b ∷ flags) long counts past same f c at s zero init first n d there op r l =
    let u : ℕ = length cut.units in
    let p = next_units plan cut e u in
    let own : ℕ → ℕ = λ k. own_count plan.equations plan.widths k e e.op in
    let more = counts_from plan.equations plan.widths (suc i) rest flags in
    let both = sized-append z u p.units (added_after plan (cut_next plan cut e) rest) s in
    let here : u ≡ first_unit plan (length cut.values) = at ∙ sym (first_by plan (length cut.values) done ((if b then own i else 0) ∷ more) counts (past ∙ sym long)) in
    let z_plus : i + 0 ≡ length cut.values = omega (arith, long) in
    let is : e ≡ d = cc in
    let has : has_units plan (length cut.values) e ≡ true = or_right (is_input e.op) _ (subst (λ (k : ℕ). slice_index_or plan.reached k false ≡ true) z_plus r) in
    let t = next_sizes z plan cut e init first n (ap (λ (q : EquationShape). q.op) is ∙ op) (subst (λ (k : ℕ). IsCounted plan k e) (sym long) c.0) has (subst (λ (k : ℕ). n < hold_count plan.equations k) z_plus l) both.0 in
    let k : ℕ = length cut.values in
    let q : z (first_unit plan k + body_count (slice_index plan.widths k) (forms_in plan.widths d) + n) ≡ slices_of (slice_index plan.widths k) = subst (λ (x : EquationShape). z (first_unit plan k + body_count (slice_index plan.widths k) (forms_in plan.widths x) + n) ≡ slices_of (slice_index plan.widths k)) is (subst (λ (m : ℕ). z (m + body_count (slice_index plan.widths k) (forms_in plan.widths e) + n) ≡ slices_of (slice_index plan.widths k)) here t) in
    subst (λ (m : ℕ). z (first_unit plan m + body_count (slice_index plan.widths m) (forms_in plan.widths d) + n) ≡ slices_of (slice_index plan.widths m)) (sym z_plus) q
sizes_after z plan cut i (e ∷ rest) done (b ∷ flags) long counts past same f c at s (suc j) init first n d there op r l =
    let u : ℕ = length cut.units in
    let p = next_units plan cut e u in
    let own : ℕ → ℕ = λ k. own_count plan.equations plan.widths k e e.op in
    let now : ℕ = if b then own i else 0 in
    let more = counts_from plan.equations plan.widths (suc i) rest flags in
    let both = sized-append z u p.units (added_after plan (cut_next plan cut e) rest) s in
    let counted : IsCounted plan (length cut.values) e = subst (λ (k : ℕ). IsCounted plan k e) (sym long) c.0 in
    let taken : length p.units ≡ (if slice_index_or plan.reached (length cut.values) false then own (length cut.values) else 0) = (next_count plan cut e counted).at u in
    let count : length p.units ≡ now = taken ∙ ap (λ (k : ℕ). if slice_index_or plan.reached k false then own k else 0) long ∙ ap (λ (t : Bool). if t then own i else 0) (flags_first plan i b flags f) in
    let size : length (cut.units ++ p.units) ≡ u + length p.units = length-append cut.units p.units in
    let next : length (cut.values ++ p.slices ∷ []) ≡ suc i = length-append cut.values (p.slices ∷ []) ∙ omega (arith, long) in
    let z_plus : suc i + j ≡ i + suc j = omega arith in
    subst (λ (m : ℕ). z (first_unit plan m + body_count (slice_index plan.widths m) (forms_in plan.widths d) + n) ≡ slices_of (slice_index plan.widths m)) z_plus
    (sizes_after z plan (cut_next plan cut e) (suc i) rest (done ++ now ∷ []) flags next (counts ∙ sym (append_assoc done (now ∷ []) more)) (length-append done (now ∷ []) ∙ omega (arith, past)) (omega (arith, same)) (flags_more plan i b flags f) c.1
    (size ∙ omega (arith, at, count, sum_push done now))
    (subst (λ (k : ℕ). Sized z k (added_after plan (cut_next plan cut e) rest)) (sym size) both.1)
    j init first n d there op (subst (λ (k : ℕ). slice_index_or plan.reached k false ≡ true) (sym z_plus) r) (subst (λ (k : ℕ). n < hold_count plan.equations k) (sym z_plus) l))
