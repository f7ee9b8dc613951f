-- The units of equations stand in parts, one for each recurrence that has units.
use Rattle.std.proofs.Common.{◌≡◌, ◌≤◌, ℕ, suc, ◌+◌, ◌&&◌, Bool, true, false, List, [], ◌∷◌, take, refl, subst, sym, ap, ◌∙◌, arith}
use Rattle.std.specs.Prelude.{slice_index_or}
use Rattle.std.specs.Bool.{if◌then◌else◌}
use Rattle.std.specs.List.{Contains}
use Rattle.std.proofs.lemmas.Bool.{and_parts}
use Rattle.std.proofs.lemmas.List.Elements.{Contains-get_or}
use Rattle.pr_flat.specs.declared.equations.Operand.{Operand}
use Rattle.pr_flat.specs.Shape.{EquationShape}
use Rattle.pr_flat.specs.Facts.{is_rec, IsFlat}
use Rattle.pr_flat.specs.Widths.{AreWidths}
use Rattle.pr_cut_units.specs.Reached.{reached}
use Rattle.pr_cut_units.specs.Groups.{tied_from}
use Rattle.pr_cut_units.specs.Equations.{UnitPlan, plan_of, hold_unit, cut_whole}
use Rattle.pr_cut_units.specs.Nets.{holds_from}
use Rattle.pr_cut_units.proofs.WideNets.{are_counted, Rest, rest_more, rest_first, rest_all}
use Rattle.pr_cut_units.proofs.CountNets.{count_whole}
use Rattle.pr_cut_units.proofs.TiedNets.{holds_end}
use Rattle.pr_cut_units.proofs.NetGrouped.{holds_of, IsRec, rec_parts}
use Rattle.pr_cut_units.proofs.NetApart.{group_before}
use Rattle.pr_cut_units.proofs.BodyNets.{InBody, in_body, body_after}
use Rattle.pr_cut_units.proofs.StartNets.{starts_in}
use Rattle.pr_cut_plan.specs.Parts.{end_of, IsPart, AreParts}

no_members : (xs : List ℕ) → ((u : ℕ) → Contains xs u → ⊥) → xs ≡ []
no_members [] h = refl
no_members (x ∷ xs) h = absurd (h x (Contains-get_or (x ∷ xs) 0 x (omega arith)))

-- where the part of a recurrence may begin: after the hold units of those before it
pub record BeginsAfter (equations : List EquationShape) (widths : List ℕ) (outputs : List Operand) (from i : ℕ) : Type 0 where
  pub at : (b : ℕ) → i ≤ b → IsRec equations (reached equations outputs) b → (u : ℕ) → InBody equations widths outputs b u → from ≤ u
  pub low : (b : ℕ) → i ≤ b → IsRec equations (reached equations outputs) b → from ≤ hold_unit (plan_of equations widths outputs) b

-- the part of one recurrence
part_of : (equations : List EquationShape) (widths : List ℕ) (outputs : List Operand) (from b : ℕ) → IsFlat equations outputs → AreWidths equations widths → IsRec equations (reached equations outputs) b → ((u : ℕ) → InBody equations widths outputs b u → from ≤ u) → from ≤ hold_unit (plan_of equations widths outputs) b → IsPart (cut_whole (plan_of equations widths outputs)).units from (holds_of (plan_of equations widths outputs) b)
part_of equations widths outputs from b flat wide r after low =
    let plan = plan_of equations widths outputs in
    let units = (cut_whole plan).units in
    let p = rec_parts r.equation.op r.rec in
    let end = holds_end equations widths outputs b p.init p.first r.equation r.there p.is r.reached in
    let count = count_whole equations widths outputs (are_counted equations outputs widths flat wide) in
    record {
      ordered = low;
      some = omega arith;
      within = omega (arith, end, count);
      untied = no_members (tied_from (holds_of plan b) [] 0 (take from units)) (λ u c.
          (let q = in_body equations widths outputs b from u flat wide (starts_in equations widths outputs flat wide) r low c in
          let a = after u q.0 in
          let s = q.1 in
          absurd (omega (arith, a, s))));
    }

parts_from : (equations : List EquationShape) (widths : List ℕ) (outputs : List Operand) (from i : ℕ) (rest : List EquationShape) (flags : List Bool) → IsFlat equations outputs → AreWidths equations widths → Rest equations i rest → ((j : ℕ) → slice_index_or (reached equations outputs) (i + j) false ≡ slice_index_or flags j false) → BeginsAfter equations widths outputs from i
    → AreParts (cut_whole (plan_of equations widths outputs)).units from (holds_from (plan_of equations widths outputs) i rest flags)
parts_from equations widths outputs from i [] flags flat wide r f b = tt
parts_from equations widths outputs from i (e ∷ rest) [] flat wide r f b = tt
parts_from equations widths outputs from i (e ∷ rest) (counts ∷ flags) flat wide r f b = by (counts && is_rec e.op) refl (λ after q. parts_from equations widths outputs after (suc i) rest flags flat wide (rest_more equations i e rest r) more q)
  where
    plan : UnitPlan
    plan = plan_of equations widths outputs

    more : (j : ℕ) → slice_index_or (reached equations outputs) (suc i + j) false ≡ slice_index_or flags j false
    more j = (let z : suc i + j ≡ i + suc j = omega arith in ap (λ (k : ℕ). slice_index_or (reached equations outputs) k false) z) ∙ f (suc j)

    here : (counts && is_rec e.op) ≡ true → IsRec equations (reached equations outputs) i
    here q = (let p = and_parts counts (is_rec e.op) q in
        let z : i ≡ i + 0 = omega arith in
        record { equation = e; there = rest_first equations i e rest r; rec = p.1; reached = ap (λ (k : ℕ). slice_index_or (reached equations outputs) k false) z ∙ f 0 ∙ p.0 })

    by : (t : Bool) → (counts && is_rec e.op) ≡ t → ((after : ℕ) → BeginsAfter equations widths outputs after (suc i) → AreParts (cut_whole (plan_of equations widths outputs)).units after (holds_from (plan_of equations widths outputs) (suc i) rest flags))
        → AreParts (cut_whole (plan_of equations widths outputs)).units from (if counts && is_rec e.op then holds_of plan i ∷ holds_from plan (suc i) rest flags else holds_from plan (suc i) rest flags)
    by false q ih = subst (λ (t : Bool). AreParts (cut_whole plan).units from (if t then holds_of plan i ∷ holds_from plan (suc i) rest flags else holds_from plan (suc i) rest flags)) (sym q)
        (ih from (record { at = λ c l rc u w. b.at c (omega (arith, l)) rc u w; low = λ c l rc. b.low c (omega (arith, l)) rc }))
    by true q ih = subst (λ (t : Bool). AreParts (cut_whole plan).units from (if t then holds_of plan i ∷ holds_from plan (suc i) rest flags else holds_from plan (suc i) rest flags)) (sym q) (
      part_of equations widths outputs from i flat wide (here q) (λ u w. b.at i (omega arith) (here q) u w) (b.low i (omega arith) (here q)),
      ih (end_of (holds_of plan i)) (record {
        at = λ c l rc u w. body_after equations widths outputs i c u flat (omega (arith, l)) (here q) rc w;
        low = λ c l rc. group_before equations widths outputs i c (omega (arith, l)) (here q) rc;
      }),
    )

pub parted : (equations : List EquationShape) (widths : List ℕ) (outputs : List Operand) → IsFlat equations outputs → AreWidths equations widths → AreParts (cut_whole (plan_of equations widths outputs)).units 0 (holds_from (plan_of equations widths outputs) 0 equations (reached equations outputs))
parted equations widths outputs flat wide = parts_from equations widths outputs 0 0 equations (reached equations outputs) flat wide (rest_all equations)
    (λ j. (let z : 0 + j ≡ j = omega arith in ap (λ (k : ℕ). slice_index_or (reached equations outputs) k false) z))
    (record { at = λ b l r u w. omega arith; low = λ b l r. omega arith })
