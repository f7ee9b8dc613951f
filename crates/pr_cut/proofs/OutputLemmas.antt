-- What outputs give is ready once all equations are cut.
use Rattle.std.proofs.Common.{◌≡◌, ◌<◌, ℕ, ◌+◌, true, nat_lt, List, [], ◌∷◌, length, subst, refl, sym, arith, length-append}
use Rattle.std.specs.List.{list_any, list_all, Contains}
use Rattle.std.proofs.lemmas.Bool.{and_parts, ltb-true, eq-eqb, false≢true}
use Rattle.pr_flat.specs.declared.equations.Operand.{Operand}
use Rattle.pr_flat.specs.Shape.{EquationShape}
use Rattle.pr_flat.specs.Facts.{IsFlat, is_lawful_output, reads_equation}
use Rattle.pr_flat.specs.Widths.{AreWidths}
use Rattle.pr_net.proofs.Lists.{any_here, at_head, in_tail}
use Rattle.pr_cut_units.specs.Equations.{UnitPlan, plan_of, Cut, next_units, cut_next, cut_after, cut_start, cut_whole}
use Rattle.pr_cut_units.proofs.WideNets.{are_counted}
use Rattle.pr_cut_units.proofs.EndNets.{output_bounds, output_long}
use Rattle.pr_cut.specs.Sources.{IsReady, AreReady}

length_after : (plan : UnitPlan) (cut : Cut) (rest : List EquationShape) → length (cut_after plan cut rest).values ≡ length cut.values + length rest
length_after plan cut [] = omega arith
length_after plan cut (e ∷ rest) =
    let one = length-append cut.values ((next_units plan cut e (length cut.units)).slices ∷ []) in
    let more = length_after plan (cut_next plan cut e) rest in
    omega (arith, one, more)

ready_output : (equations : List EquationShape) (outputs : List Operand) (widths : List ℕ) → IsFlat equations outputs → AreWidths equations widths → (a : Operand) → Contains outputs a → is_lawful_output (length equations) a ≡ true → IsReady (plan_of equations widths outputs) (cut_whole (plan_of equations widths outputs)).values a
ready_output equations outputs widths flat wide (Operand.Const c) has lawful =
    let b = output_bounds equations outputs widths flat wide (Operand.Const c) lawful in
    let counted = are_counted equations outputs widths flat wide in
    record { named = tt; within = refl; whole = output_long equations outputs widths counted (Operand.Const c) lawful (λ i h. cc); some = omega (arith, b); few = b.1 }
ready_output equations outputs widths flat wide (Operand.Eq i) has lawful =
    let plan = plan_of equations widths outputs in
    let b = output_bounds equations outputs widths flat wide (Operand.Eq i) lawful in
    let counted = are_counted equations outputs widths flat wide in
    let all = length_after plan (cut_start equations) equations in
    let low : i < length equations = ltb-true i (length equations) lawful in
    let read : list_any (reads_equation i) outputs ≡ true = any_here (reads_equation i) outputs (Operand.Eq i) has (eq-eqb i i refl) in
    record {
      named = omega (arith, all, low);
      within = subst (λ (n : ℕ). nat_lt i n ≡ true) (sym wide.count) lawful;
      whole = output_long equations outputs widths counted (Operand.Eq i) lawful (λ j h. (let same : i ≡ j = cc in subst (λ (k : ℕ). list_any (reads_equation k) outputs ≡ true) same read));
      some = omega (arith, b);
      few = b.1;
    }
ready_output equations outputs widths flat wide (Operand.Past rec k) has lawful = absurd (false≢true lawful)

ready_rest : (equations : List EquationShape) (outputs : List Operand) (widths : List ℕ) → IsFlat equations outputs → AreWidths equations widths → (rest : List Operand) → ((a : Operand) → Contains rest a → Contains outputs a) → list_all (is_lawful_output (length equations)) rest ≡ true → AreReady (plan_of equations widths outputs) (cut_whole (plan_of equations widths outputs)).values rest
ready_rest equations outputs widths flat wide [] sub lawful = tt
ready_rest equations outputs widths flat wide (a ∷ rest) sub lawful =
    let l = and_parts (is_lawful_output (length equations) a) (list_all (is_lawful_output (length equations)) rest) lawful in
    (ready_output equations outputs widths flat wide a (sub a (at_head a rest)) l.0, ready_rest equations outputs widths flat wide rest (λ b c. sub b (in_tail a b rest c)) l.1)

pub outputs_ready : (equations : List EquationShape) (outputs : List Operand) (widths : List ℕ) → IsFlat equations outputs → AreWidths equations widths → AreReady (plan_of equations widths outputs) (cut_whole (plan_of equations widths outputs)).values outputs
outputs_ready equations outputs widths flat wide = ready_rest equations outputs widths flat wide outputs (λ a c. c) flat.given
