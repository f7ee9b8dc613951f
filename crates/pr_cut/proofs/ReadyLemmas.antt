-- The operands of an equation that has units are ready, and what is made of the equations before it fits.
use Rattle.std.proofs.Common.{◌≡◌, ◌<◌, ◌≤◌, ℕ, ◌+◌, ◌||◌, Bool, true, false, nat_le, Some, List, [], ◌∷◌, length, drop, get_or, subst, refl, sym, ap, ◌∙◌, arith, length-append, inl, inr}
use Rattle.std.specs.Prelude.{slice_index}
use Rattle.std.specs.List.{slice_get, list_any, list_all, Contains}
use Rattle.std.proofs.lemmas.Bool.{cases_Bool, and_parts, or_right, leb-true, ltb-true, eq-eqb, false≢true}
use Rattle.std.proofs.lemmas.Option.{slice_get_within}
use Rattle.std.proofs.lemmas.List.{get_or_append_left, length-map}
use Rattle.std.proofs.lemmas.List.FromFn.{length-map-range_with_len}
use Rattle.pr_base.specs.Numbers.{slices_of, bytes_of}
use Rattle.pr_flat.specs.Forms.{number_width}
use Rattle.pr_base.proofs.RowLemmas.{length-bytes_of}
use Rattle.pr_flat.specs.declared.equations.Operand.{Operand}
use Rattle.pr_flat.specs.declared.equations.Op.{Op}
use Rattle.pr_flat.specs.Shape.{EquationShape}
use Rattle.pr_flat.specs.Facts.{IsFlat, is_input, is_lawful_operand, reads_equation, arity}
use Rattle.pr_flat.specs.Widths.{AreWidths}
use Rattle.pr_flat.proofs.WidthLemmas.{past_of, equation_at}
use Rattle.pr_width.specs.Reads.{is_within}
use Rattle.pr_width.proofs.SolverLemmas.{operands_within}
use Rattle.pr_net.specs.declared.cells.Slice.{Slice}
use Rattle.pr_net.specs.declared.cells.Cell.{Cell}
use Rattle.pr_net.proofs.Lists.{any_here, at_head, in_tail}
use Rattle.pr_cut_units.specs.Reached.{reached}
use Rattle.pr_cut_units.specs.Equations.{UnitPlan, plan_of, hold_unit, has_units, Cut, cut_whole}
use Rattle.pr_cut_units.proofs.CountNets.{count_whole}
use Rattle.pr_cut_units.proofs.WideNets.{widths_some, are_counted}
use Rattle.pr_cut_units.proofs.EndNets.{widths_most, output_bounds, value_long, values_added, values_are}
use Rattle.pr_cut_units.proofs.FitNets.{added_after, added_is}
use Rattle.pr_cut_units.proofs.ReachedLaws.{reached_by, past_held}
use Rattle.pr_cut_units.proofs.TiedNets.{holds_end}
use Rattle.pr_cut.specs.Sources.{IsCutTo, IsReady, AreReady}

-- ---- what is made so far
-- the slices so far are those of the whole
pub value_kept : (plan : UnitPlan) (i : ℕ) (units : List (List Cell)) (values : List (List Slice)) (j : ℕ) → IsCutTo plan i units values → j < i → get_or values j [] ≡ get_or (cut_whole plan).values j []
value_kept plan i units values j cut l =
    let now : Cut = record { units = units; values = values } in
    let rest = drop i plan.equations in
    let left : j < length values = omega (arith, l, cut.count) in
    sym (get_or_append_left values (values_added plan now rest) [] j left)
    ∙ ap (λ (vs : List (List Slice)). get_or vs j []) (sym (values_are plan now rest) ∙ ap (λ (c : Cut). c.values) cut.rest)

-- and so are the units
pub units_few : (plan : UnitPlan) (i : ℕ) (units : List (List Cell)) (values : List (List Slice)) → IsCutTo plan i units values → length units ≤ length (cut_whole plan).units
units_few plan i units values cut =
    let now : Cut = record { units = units; values = values } in
    let rest = drop i plan.equations in
    let all = ap (λ (c : Cut). length c.units) (sym cut.rest) ∙ ap length (added_is plan now rest) ∙ length-append units (added_after plan now rest) in
    omega (arith, all)

-- ---- operands
-- all that is known where the operands of equation i are looked up
pub record EquationPlace (equations : List EquationShape) (outputs : List Operand) (widths : List ℕ) (i : ℕ) (values : List (List Slice)) (e : EquationShape) : Type 0 where
  pub flat : IsFlat equations outputs
  pub wide : AreWidths equations widths
  pub few : length (cut_whole (plan_of equations widths outputs)).units ≤ 32768
  pub count : length values ≡ i
  pub same : (j : ℕ) → j < i → get_or values j [] ≡ get_or (cut_whole (plan_of equations widths outputs)).values j []
  pub there : slice_get equations i ≡ Some e
  pub counts : get_or (reached equations outputs) i false ≡ true

reads_self : (j : ℕ) → reads_equation j (Operand.Eq j) ≡ true
reads_self j = eq-eqb j j refl

ready : (equations : List EquationShape) (outputs : List Operand) (widths : List ℕ) (i : ℕ) (values : List (List Slice)) (e : EquationShape) → EquationPlace equations outputs widths i values e → (a : Operand) → Contains e.args a → is_lawful_operand equations i a ≡ true → is_within (length widths) a ≡ true → IsReady (plan_of equations widths outputs) values a
ready equations outputs widths i values e p (Operand.Const c) has lawful within =
    let b = output_bounds equations outputs widths p.flat p.wide (Operand.Const c) lawful in
    record {
      named = tt;
      within = within;
      whole = length-map (bytes_of (slices_of (number_width c)) c) (λ b. Slice.Const b) ∙ length-bytes_of (slices_of (number_width c)) c;
      some = omega (arith, b);
      few = b.1;
    }
ready equations outputs widths i values e p (Operand.Eq j) has lawful within =
    let plan = plan_of equations widths outputs in
    let low : j < i = ltb-true j i lawful in
    let last = slice_get_within equations i e p.there in
    let here : j < length equations = omega (arith, low, last) in
    let at = equation_at equations j here in
    let z : j ≡ 0 + j = omega arith in
    let read : list_any (reads_equation j) e.args ≡ true = any_here (reads_equation j) e.args (Operand.Eq j) has (reads_self j) in
    let counts : get_or (reached equations outputs) j false ≡ true = reached_by outputs 0 equations j i e low p.there p.counts (subst (λ (k : ℕ). list_any (reads_equation k) e.args ≡ true) z read) in
    record {
      named = omega (arith, low, p.count);
      within = within;
      whole = ap length (p.same j low) ∙ value_long equations outputs widths (are_counted equations outputs widths p.flat p.wide) j at.0 at.1 (or_right (is_input at.0.op) _ counts);
      some = widths_some equations outputs widths p.flat p.wide j here;
      few = widths_most equations outputs widths p.flat p.wide j here;
    }
ready equations outputs widths i values e p (Operand.Past rec k) has lawful within =
    let plan = plan_of equations widths outputs in
    let r = past_of equations i rec k lawful in
    let here = slice_get_within equations rec r.equation r.there in
    let parts = and_parts (nat_le 1 k) _ lawful in
    let one : 1 ≤ k = leb-true 1 k parts.0 in
    let h = past_held equations outputs rec k i e p.flat p.there p.counts has in
    let end = holds_end equations widths outputs rec r.init r.first r.equation r.there r.op h.recurrence in
    let all = count_whole equations widths outputs (are_counted equations outputs widths p.flat p.wide) in
    let most : hold_unit plan rec + k ≤ 32768 = omega (arith, end, all, h.held, p.few) in
    record {
      named = (here, one, most);
      within = within;
      whole = length-map-range_with_len _ 0 (slices_of (slice_index widths rec));
      some = widths_some equations outputs widths p.flat p.wide rec here;
      few = widths_most equations outputs widths p.flat p.wide rec here;
    }

ready_all : (equations : List EquationShape) (outputs : List Operand) (widths : List ℕ) (i : ℕ) (values : List (List Slice)) (e : EquationShape) → EquationPlace equations outputs widths i values e → (rest : List Operand) → ((a : Operand) → Contains rest a → Contains e.args a) → list_all (is_lawful_operand equations i) rest ≡ true → list_all (is_within (length widths)) rest ≡ true → AreReady (plan_of equations widths outputs) values rest
ready_all equations outputs widths i values e p [] sub lawful within = tt
ready_all equations outputs widths i values e p (a ∷ rest) sub lawful within =
    let l = and_parts (is_lawful_operand equations i a) (list_all (is_lawful_operand equations i) rest) lawful in
    let w = and_parts (is_within (length widths) a) (list_all (is_within (length widths)) rest) within in
    (ready equations outputs widths i values e p a (sub a (at_head a rest)) l.0 w.0, ready_all equations outputs widths i values e p rest (λ b c. sub b (in_tail a b rest c)) l.1 w.1)

no_operands : (plan : UnitPlan) (values : List (List Slice)) (args : List Operand) (op : Op) → length args ≡ arity op → is_input op ≡ true → AreReady plan values args
no_operands plan values [] op n h = tt
no_operands plan values (a ∷ args) Op.Input n h = absurd (omega (arith, n))
no_operands plan values (a ∷ args) op n h = absurd (false≢true h)

-- the operands of an equation that has units
pub operands_ready : (equations : List EquationShape) (outputs : List Operand) (widths : List ℕ) (i : ℕ) (units : List (List Cell)) (values : List (List Slice)) (e : EquationShape) → IsFlat equations outputs → AreWidths equations widths → length (cut_whole (plan_of equations widths outputs)).units ≤ 32768 → IsCutTo (plan_of equations widths outputs) i units values → slice_get equations i ≡ Some e → has_units (plan_of equations widths outputs) i e ≡ true → AreReady (plan_of equations widths outputs) values e.args
operands_ready equations outputs widths i units values e flat wide few cut there has = elim (cases_Bool (is_input e.op)) [
  | inl h ↦ no_operands (plan_of equations widths outputs) values e.args e.op (flat.args i e there) h
  | inr h ↦
      (let plan = plan_of equations widths outputs in
      let counts : get_or (reached equations outputs) i false ≡ true = subst (λ (b : Bool). (b || get_or (reached equations outputs) i false) ≡ true) h has in
      let p : EquationPlace equations outputs widths i values e = record { flat = flat; wide = wide; few = few; count = cut.count; same = λ j l. value_kept plan i units values j cut l; there = there; counts = counts } in
      let lawful = flat.operands i e there in
      ready_all equations outputs widths i values e p e.args (λ a c. c) lawful (operands_within equations i (length widths) e.args wide.count (subst (λ (n : ℕ). i < n) (sym wide.count) (slice_get_within equations i e there)) lawful))
]
