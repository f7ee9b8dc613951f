-- The net of flat equations is lawful on every fabric that its limits allow, where its groups are in order and its states are read in their groups.
use Rattle.std.proofs.Common.{◌≡◌, ◌<◌, ℕ, zero, suc, ◌+◌, Bool, true, Some, None, List, [], ◌∷◌, length, map, get_or, refl, subst, sym, ap, ◌∙◌, arith}
use Rattle.std.specs.Prelude.{slice_index_or}
use Rattle.std.specs.List.{slice_get, list_any, list_all}
use Rattle.std.proofs.lemmas.Bool.{or_left, or_right, eq-eqb, and_parts, false≢true}
use Rattle.std.proofs.lemmas.List.{length-map, get_or-map}
use Rattle.pr_flat.specs.declared.equations.Operand.{Operand}
use Rattle.pr_flat.specs.Shape.{EquationShape}
use Rattle.pr_flat.specs.Facts.{is_lawful_output, reads_equation, IsFlat}
use Rattle.pr_flat.specs.Widths.{AreWidths}
use Rattle.pr_net.specs.declared.cells.Slice.{Slice}
use Rattle.pr_net.specs.Shape.{OutputShape, NetShape, cells_of}
use Rattle.pr_net.specs.Nets.{IsLawfulSlice, IsLawfulOutput, IsNet}
use Rattle.pr_net.specs.Whole.{SlicesAreBytes, OutputsAreBytes, ShowsBytes}
use Rattle.pr_cut_units.specs.Equations.{UnitPlan, plan_of, operand_slices, cut_whole}
use Rattle.pr_cut_units.specs.Nets.{output_of, net_of, limit_passed}
use Rattle.pr_cut_units.proofs.Operands.{AreOperands}
use Rattle.pr_cut_units.proofs.GoodNets.{AllValues, good_whole, operand_known}
use Rattle.pr_cut_units.proofs.FitParts.{AreThere}
use Rattle.pr_cut_units.proofs.FitNets.{ValuesThere, AreAllowed, value_there, bytes_there}
use Rattle.pr_cut_units.proofs.NetLawful.{IsTied, IsGrouped, HasEnds, with_lawful, with_values}
use Rattle.pr_cut_units.proofs.WideNets.{are_counted, are_wide}
use Rattle.pr_cut_units.proofs.EndNets.{inputs_some, input_bounds, in_limits, output_bounds, output_long}
use Rattle.pr_cut_units.proofs.WideNets.{rest_all}

-- ---- slices of outputs
slice_lawful : (net : NetShape) (T : ℕ → ℕ → Type 0) (x : List Slice) → ((v j : ℕ) → T v j → ⊥) → AreOperands (length net.units) x → AreThere (λ v. length (cells_of net v)) T x → (i : ℕ) (d : Slice) → i < length x → IsLawfulSlice net (get_or x i d)
slice_lawful net T [] none o h i d l = absurd (omega (arith, l))
slice_lawful net T (Slice.Const k ∷ x) none o h zero d l = tt
slice_lawful net T (Slice.Of u j ∷ x) none o h zero d l = (o.0.before, h.0)
slice_lawful net T (Slice.State u j ∷ x) none o h zero d l = absurd (none u j h.0)
slice_lawful net T (s ∷ x) none o h (suc i) d l = slice_lawful net T x none o.1 h.1 i d (omega (arith, l))

-- no state is among the slices of what an output names
pub record NoStates (S : ℕ → ℕ → ℕ → Type 0) (outputs : List Operand) : Type 0 where
  pub at : (i v j : ℕ) → list_any (reads_equation i) outputs ≡ true → S i v j → ⊥

no_state : ℕ → ℕ → Type 0
no_state v j = ⊥

output_there : (net : NetShape) (S : ℕ → ℕ → ℕ → Type 0) (outputs : List Operand) (plan : UnitPlan) (values : List (List Slice)) (count : ℕ) (a : Operand) → NoStates S outputs → ((i : ℕ) → a ≡ Operand.Eq i → list_any (reads_equation i) outputs ≡ true) → is_lawful_output count a ≡ true
    → AreOperands (length net.units) (operand_slices plan values a) → ValuesThere (λ v. length (cells_of net v)) S 0 values → (i : ℕ) (d : Slice) → i < length (operand_slices plan values a) → IsLawfulSlice net (get_or (operand_slices plan values a) i d)
output_there net S outputs plan values count (Operand.Const c) none r h o t i d l = slice_lawful net (λ v j. ⊥) (operand_slices plan values (Operand.Const c)) (λ v j k. k) o (bytes_there (λ v. length (cells_of net v)) (λ v j. ⊥) _ c) i d l
output_there net S outputs plan values count (Operand.Eq n) none r h o t i d l =
    let z : 0 + n ≡ n = omega arith in
    slice_lawful net (S n) (operand_slices plan values (Operand.Eq n)) (λ v j k. none.at n v j (r n refl) k) o (subst (λ (q : ℕ). AreThere (λ v. length (cells_of net v)) (S q) (slice_index_or values n [])) z (value_there (λ v. length (cells_of net v)) S 0 values n t)) i d l
output_there net S outputs plan values count (Operand.Past rec k) none r h o t i d l = absurd (false≢true h)

-- an output that is listed is read
reads_self : (outputs : List Operand) (k i : ℕ) → slice_get outputs k ≡ Some (Operand.Eq i) → list_any (reads_equation i) outputs ≡ true
reads_self [] k i h = cc
reads_self (a ∷ outputs) zero i h =
    let same : Operand.Eq i ≡ a = cc in
    or_left (reads_equation i a) (list_any (reads_equation i) outputs) (subst (λ (q : Operand). reads_equation i q ≡ true) same (eq-eqb i i refl))
reads_self (a ∷ outputs) (suc k) i h = or_right (reads_equation i a) (list_any (reads_equation i) outputs) (reads_self outputs k i h)

all_at : (test : Operand → Bool) (outputs : List Operand) (k : ℕ) (d : Operand) → k < length outputs → list_all test outputs ≡ true → test (get_or outputs k d) ≡ true
all_at test [] k d l h = absurd (omega (arith, l))
all_at test (a ∷ outputs) zero d l h = (and_parts (test a) (list_all test outputs) h).0
all_at test (a ∷ outputs) (suc k) d l h = all_at test outputs k d (omega (arith, l)) (and_parts (test a) (list_all test outputs) h).1

get_at : (outputs : List Operand) (k : ℕ) (d : Operand) → k < length outputs → slice_get outputs k ≡ Some (get_or outputs k d)
get_at [] k d l = absurd (omega (arith, l))
get_at (a ∷ outputs) zero d l = refl
get_at (a ∷ outputs) (suc k) d l = get_at outputs k d (omega (arith, l))

-- ---- the fields of outputs are bytes
slices_bytes : (n : ℕ) (x : List Slice) → AreOperands n x → SlicesAreBytes x
slices_bytes n [] h = tt
slices_bytes n (s ∷ x) h = (h.0.byte, slices_bytes n x h.1)

outputs_bytes : (plan : UnitPlan) (values : List (List Slice)) (n : ℕ) (os : List Operand) → AllValues n values → OutputsAreBytes (map (output_of plan values) os)
outputs_bytes plan values n [] h = tt
outputs_bytes plan values n (a ∷ os) h = (slices_bytes n (operand_slices plan values a) (operand_known plan values n a h), outputs_bytes plan values n os h)

-- the net of flat equations shows bytes
pub net_shows_bytes : (equations : List EquationShape) (widths : List ℕ) (outputs : List Operand) → IsFlat equations outputs → AreWidths equations widths → ShowsBytes (net_of equations widths outputs)
unfolding net_of
net_shows_bytes equations widths outputs flat wide =
    let plan = plan_of equations widths outputs in
    let good = good_whole plan (are_wide equations outputs widths flat wide) in
    record { units = good.bytes; outputs = outputs_bytes plan (cut_whole plan).values (length (cut_whole plan).units) outputs good.values }

-- what is asked of states and groups
pub record StatesInGroups (equations : List EquationShape) (widths : List ℕ) (outputs : List Operand) (S V R : ℕ → ℕ → ℕ → Type 0) : Type 0 where
  pub allowed : AreAllowed (λ v. length (cells_of (net_of equations widths outputs) v)) S V R (plan_of equations widths outputs) 0 equations
  pub tied : IsTied (net_of equations widths outputs) R
  pub outside : NoStates V outputs
  pub grouped : IsGrouped (net_of equations widths outputs)

ends : (columns : ℕ) (equations : List EquationShape) (widths : List ℕ) (outputs : List Operand) (V : ℕ → ℕ → ℕ → Type 0) → IsFlat equations outputs → AreWidths equations widths → limit_passed columns (net_of equations widths outputs) ≡ None → NoStates V outputs → ValuesThere (λ v. length (cells_of (net_of equations widths outputs) v)) V 0 (cut_whole (plan_of equations widths outputs)).values → HasEnds columns (net_of equations widths outputs)
unfolding net_of
ends columns equations widths outputs V flat wide limits none there =
    let plan = plan_of equations widths outputs in
    let values = (cut_whole plan).values in
    let net = net_of equations widths outputs in
    let inside = in_limits columns net limits in
    let long : length net.outputs ≡ length outputs = length-map outputs (output_of plan values) in
    let good = good_whole plan (are_wide equations outputs widths flat wide) in
    let some = flat.output in
    record {
      widths = λ u l. input_bounds equations 0 equations flat.widths (rest_all equations) u l;
      some_input = inputs_some equations flat.input;
      room = inside.room;
      some_output = omega (arith, long, some);
      few_outputs = inside.outputs;
      outputs = λ i d l.
          let li : i < length outputs = omega (arith, l, long) in
          let a = get_or outputs i (Operand.Const 0) in
          let lawful : is_lawful_output (length equations) a ≡ true = all_at (is_lawful_output (length equations)) outputs i (Operand.Const 0) li flat.given in
          let reads : (n : ℕ) → a ≡ Operand.Eq n → list_any (reads_equation n) outputs ≡ true = λ n e. reads_self outputs i n (get_at outputs i (Operand.Const 0) li ∙ ap Some e) in
          let bounds = output_bounds equations outputs widths flat wide a lawful in
          let is : get_or net.outputs i d ≡ output_of plan values a = get_or-map (output_of plan values) outputs i (Operand.Const 0) d li in
          subst (λ (o : OutputShape). IsLawfulOutput net o) (sym is) (record {
            positive = bounds.0;
            greatest = bounds.1;
            bytes = output_long equations outputs widths (are_counted equations outputs widths flat wide) a lawful reads;
            slices = λ k e lk. output_there net V outputs plan values (length equations) a none reads lawful (operand_known plan values (length net.units) a good.values) there k e lk;
          });
    }

-- the net of flat equations, within its limits, is lawful
pub net_is : (columns : ℕ) (equations : List EquationShape) (widths : List ℕ) (outputs : List Operand) (S V R : ℕ → ℕ → ℕ → Type 0) → IsFlat equations outputs → AreWidths equations widths → limit_passed columns (net_of equations widths outputs) ≡ None → StatesInGroups equations widths outputs S V R → IsNet columns (net_of equations widths outputs)
unfolding net_of
net_is columns equations widths outputs S V R flat wide limits s =
    let wides = are_wide equations outputs widths flat wide in
    let counted = are_counted equations outputs widths flat wide in
    with_lawful columns equations widths outputs S V R wides counted s.allowed s.tied s.grouped (ends columns equations widths outputs V flat wide limits s.outside (with_values equations widths outputs S V R counted s.allowed))
