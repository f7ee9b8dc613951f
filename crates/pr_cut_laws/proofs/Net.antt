-- The net of equations: the slices of each equation that has units show its number at every sample.
use Rattle.std.proofs.Common.{ℕ, zero, suc, ◌≡◌, ◌+◌, ◌-◌, ◌<◌, ◌≤◌, Bool, true, false, Option, Some, List, [], ◌∷◌, ◌++◌, length, map, take, drop, get_or, subst, refl, ap, ap₂, sym, ◌∙◌, arith, append_assoc, length-append}
use Rattle.std.specs.Bool.{if◌then◌else◌}
use Rattle.std.specs.List.{slice_get, list_all, sum, range_with_len}
use Rattle.std.specs.Prelude.{count_by}
use Rattle.std.specs.Option.{option_map_or}
use Rattle.std.proofs.lemmas.Bool.{and_parts}
use Rattle.std.proofs.lemmas.List.Sums.{sum_by-cons}
use Rattle.std.proofs.lemmas.List.{length-drop}
use Rattle.pr_base.specs.Numbers.{slices_of}
use Rattle.pr_flat.specs.declared.equations.Operand.{Operand}
use Rattle.pr_flat.specs.declared.equations.Op.{Op}
use Rattle.pr_flat.specs.Shape.{EquationShape}
use Rattle.pr_flat.specs.Facts.{is_lawful_operand, is_input}
use Rattle.pr_flat.specs.Widths.{operand_width, operand_forms, forms_in}
use Rattle.pr_net.specs.declared.cells.Slice.{Slice}
use Rattle.pr_net.specs.declared.cells.Cell.{Cell}
use Rattle.pr_net.specs.Reading.{Reading, Has}
use Rattle.pr_net.specs.Runs.{Runs}
use Rattle.pr_net.proofs.Readings.{has-append}
use Rattle.pr_cut_units.specs.Parts.{Making, Part, each}
use Rattle.pr_cut_units.specs.Widening.{Argument, widened}
use Rattle.pr_cut_units.specs.States.{hold_cell, later_cell, held, delayed}
use Rattle.pr_cut_units.specs.Counts.{widening_count, body_count}
use Rattle.pr_cut_units.specs.Reached.{hold_count, reached_from}
use Rattle.pr_cut_units.specs.Equations.{UnitPlan, plan_of, own_count, counts_from, first_unit, hold_unit, arguments, operand_slices, equation_units, has_units, next_units, Cut, cut_whole}
use Rattle.pr_cut_units.proofs.Operands.{AreOperands}
use Rattle.pr_cut_units.proofs.GoodParts.{GoodPart}
use Rattle.pr_cut_units.proofs.GoodTable.{good_widened}
use Rattle.pr_cut_units.proofs.CountTable.{takes_widened}
use Rattle.pr_cut_units.proofs.CountNets.{AreCounted, Flags, count_after, count_whole}
use Rattle.pr_cut_laws.proofs.Holds.{Stays, delay_cell, unit_slices}
use Rattle.pr_cut_laws.proofs.Whole.{hold_at, value_of, body_of, IsDelayAt, IsRecAt}
use Rattle.pr_cut_laws.proofs.Made.{IsMade, stands, stays, arguments_same, operand_same, operand_known, own_part}

-- ---- the number of an equation's first unit
later_counted : (plan : UnitPlan) (i : ℕ) (before rest : List EquationShape) → AreCounted plan i (before ++ rest) → AreCounted plan (i + length before) rest
later_counted plan i [] rest h = subst (λ (k : ℕ). AreCounted plan k rest) (omega arith) h
later_counted plan i (e ∷ before) rest h = subst (λ (k : ℕ). AreCounted plan k rest) (omega arith) (later_counted plan (suc i) before rest h.1)

split_counts : (equations : List EquationShape) (widths : List ℕ) (k : ℕ) (before rest : List EquationShape) (flags : List Bool) → length flags ≡ length (before ++ rest) → sum (counts_from equations widths k (before ++ rest) flags) ≡ sum (take (length before) (counts_from equations widths k (before ++ rest) flags)) + sum (counts_from equations widths (k + length before) rest (drop (length before) flags))
split_counts equations widths k [] rest flags h =
    let z : k ≡ k + 0 = omega arith in
    ap (λ (j : ℕ). sum (counts_from equations widths j rest flags)) z ∙ omega arith
split_counts equations widths k (e ∷ before) rest [] h = absurd (omega (arith, h))
split_counts equations widths k (e ∷ before) rest (b ∷ flags) h =
    let ih = split_counts equations widths (suc k) before rest flags (omega (arith, h)) in
    let z : suc k + length before ≡ k + suc (length before) = omega arith in
    let f : ℕ → ℕ = λ n. sum (counts_from equations widths n rest (drop (length before) flags)) in
    let w : f (suc k + length before) ≡ f (k + suc (length before)) = ap f z in
    let all : List ℕ = counts_from equations widths (suc k) (before ++ rest) flags in
    let first : ℕ = if b then own_count equations widths k e e.op else 0 in
    omega (arith, ih, w, sum_by-cons (λ (n : ℕ). n) first all, sum_by-cons (λ (n : ℕ). n) first (take (length before) all))

dropped_flags : (plan : UnitPlan) (i : ℕ) → Flags plan i (drop i plan.reached)
dropped_flags plan i = record { at = λ j. dropped plan.reached i j }
  where
    dropped : (flags : List Bool) (i j : ℕ) → get_or flags (i + j) false ≡ get_or (drop i flags) j false
    dropped flags zero j = let z : 0 + j ≡ j = omega arith in ap (λ (k : ℕ). get_or flags k false) z
    dropped [] (suc i) j = refl
    dropped (b ∷ flags) (suc i) j = let z : suc i + j ≡ suc (i + j) = omega arith in ap (λ (k : ℕ). get_or (b ∷ flags) k false) z ∙ dropped flags i j

length-flags : (outputs : List Operand) (i : ℕ) (equations : List EquationShape) → length (reached_from outputs i equations) ≡ length equations
length-flags outputs i [] = refl
length-flags outputs i (e ∷ equations) = ap suc (length-flags outputs (suc i) equations)

-- the units of equation i begin where its plan says
pub first_number : (equations : List EquationShape) (widths : List ℕ) (outputs : List Operand) (i : ℕ) (e : EquationShape) (m : IsMade (plan_of equations widths outputs) (cut_whole (plan_of equations widths outputs)) i e) → AreCounted (plan_of equations widths outputs) 0 equations → length m.cut.units ≡ first_unit (plan_of equations widths outputs) i
first_number equations widths outputs i e m c =
    let plan : UnitPlan = plan_of equations widths outputs in
    let flags : List Bool = drop i plan.reached in
    let n : ℕ = length m.before in
    let z : 0 + n ≡ i = omega (arith, m.place) in
    let counted : AreCounted plan i m.rest = subst (λ (k : ℕ). AreCounted plan k m.rest) z (later_counted plan 0 m.before m.rest (subst (AreCounted plan 0) m.split c)) in
    let long : length equations ≡ n + length m.rest = ap length m.split ∙ length-append m.before m.rest in
    let same : length flags ≡ length m.rest = length-drop i plan.reached ∙ omega (arith, length-flags outputs 0 equations, long, m.place) in
    let total : length (cut_whole plan).units ≡ count_by (λ (e : EquationShape). is_input e.op) equations + sum plan.counts = count_whole equations widths outputs c in
    let rest : length (cut_whole plan).units ≡ length m.cut.units + sum (counts_from equations widths i m.rest flags) = ap (λ (t : Cut). length t.units) m.final_is ∙ count_after plan m.cut i m.rest flags m.count same (dropped_flags plan i) counted in
    let all : List ℕ → List ℕ = λ k. k in
    let parts : sum plan.counts ≡ sum (take i plan.counts) + sum (counts_from equations widths i m.rest flags) = in_parts i m.before m.rest m.split m.place (length-flags outputs 0 equations) in
    omega (arith, total, rest, parts)
  where
    in_parts : (i : ℕ) (before rest : List EquationShape) → equations ≡ before ++ rest → length before ≡ i → length (reached_from outputs 0 equations) ≡ length equations → sum (counts_from equations widths 0 equations (reached_from outputs 0 equations)) ≡ sum (take i (counts_from equations widths 0 equations (reached_from outputs 0 equations))) + sum (counts_from equations widths i rest (drop i (reached_from outputs 0 equations)))
    in_parts i before rest is at len =
        let flags : List Bool = reached_from outputs 0 equations in
        let t = split_counts equations widths 0 before rest flags (len ∙ ap length is) in
        let P : List EquationShape → Type 0 = λ es. sum (counts_from equations widths 0 es flags) ≡ sum (take (length before) (counts_from equations widths 0 es flags)) + sum (counts_from equations widths (0 + length before) rest (drop (length before) flags)) in
        let q = subst P (sym is) t in
        let Q : ℕ → ℕ → Type 0 = λ j k. sum (counts_from equations widths 0 equations flags) ≡ sum (take j (counts_from equations widths 0 equations flags)) + sum (counts_from equations widths k rest (drop j flags)) in
        let z : 0 + length before ≡ i = omega (arith, at) in
        let a : Q (length before) i = subst (Q (length before)) z q in
        subst (λ (j : ℕ). Q j i) at a

-- ---- units with state, where they stand in the net
one_argument : (plan : UnitPlan) (values : List (List Slice)) (a : Operand) (kind : Bool) (args : List Operand) (kinds : List Bool) → args ≡ a ∷ [] → kinds ≡ kind ∷ [] → arguments plan values args kinds ≡ body_of plan values a kind ∷ []
one_argument plan values a kind args kinds e f = ap₂ (arguments plan values) e f

pub delay_in_net : (plan : UnitPlan) (final : Cut) (v : ℕ → Reading) (i c : ℕ) (a : Operand) (kind : Bool) (e : EquationShape) (m : IsMade plan final i e) → Runs final.units v → has_units plan i e ≡ true → e.op ≡ Op.Delay c → e.args ≡ a ∷ [] → e.kinds ≡ kind ∷ [] → list_all (is_lawful_operand plan.equations i) e.args ≡ true → IsDelayAt v (get_or plan.widths i 0) c (operand_slices plan final.values a) (value_of final.values i)
delay_in_net plan final v i c a kind e m run has op ea ek lawful =
    let w : ℕ = get_or plan.widths i 0 in
    let u : ℕ = length m.cut.units in
    let x : List Slice = operand_slices plan final.values a in
    let args : arguments plan m.cut.values e.args e.kinds ≡ body_of plan final.values a kind ∷ [] = sym (arguments_same plan final.values m.cut.values i e.args e.kinds m.same lawful) ∙ one_argument plan final.values a kind e.args e.kinds ea ek in
    let part : next_units plan m.cut e ≡ delayed w c x = own_part plan final i e m has ∙ ap₂ (λ (o : Op) (ys : List Argument). equation_units plan i o ys) op args in
    let ks : List Cell = each (slices_of w) (delay_cell c u x) in
    let is : final.units ≡ m.cut.units ++ (ks ∷ m.after) = m.units ∙ ap (λ (p : Making). m.cut.units ++ ((p u).units ++ m.after)) part in
    record { u = u; stays = stays v final.units m.cut.units ks m.after u is refl run; slices_are = m.slices ∙ ap (λ (p : Making). (p u).slices) part }

-- one of the units that are made by number
pub record SplitAt {A : Type 0} (f : ℕ → A) (a n j : ℕ) : Type 0 where
  pub front : List A
  pub back : List A
  pub is : map f (range_with_len a n) ≡ front ++ (f (a + j) ∷ back)
  pub long : length front ≡ j

split_each : {A : Type 0} (f : ℕ → A) (a n j : ℕ) → j < n → SplitAt f a n j
split_each f a zero j h = absurd (omega (arith, h))
split_each f a (suc n) zero h =
    let z : a ≡ a + 0 = omega arith in
    record { front = []; back = map f (range_with_len (a + 1) n); is = ap (λ (k : ℕ). f k ∷ map f (range_with_len (a + 1) n)) z; long = refl }
split_each f a (suc n) (suc j) h =
    let t = split_each f (a + 1) n j (omega (arith, h)) in
    let z : (a + 1) + j ≡ a + suc j = omega arith in
    record { front = f a ∷ t.front; back = t.back; is = ap (λ xs. f a ∷ xs) (t.is ∙ ap (λ (k : ℕ). t.front ++ (f k ∷ t.back)) z); long = ap suc t.long }

body_number : (plan : UnitPlan) (i : ℕ) (a : Operand) (kind : Bool) (e : EquationShape) → slice_get plan.equations i ≡ Some e → e.args ≡ a ∷ [] → e.kinds ≡ kind ∷ [] → hold_unit plan i ≡ first_unit plan i + widening_count (record { signed = kind; width = operand_width plan.widths a }) (get_or plan.widths i 0)
body_number plan i a kind e there ea ek =
    ap (λ (o : Option EquationShape). first_unit plan i + option_map_or (λ (e : EquationShape). body_count (get_or plan.widths i 0) (forms_in plan.widths e)) o 0) there
    ∙ ap₂ (λ (xs : List Operand) (bs : List Bool). first_unit plan i + body_count (get_or plan.widths i 0) (operand_forms plan.widths xs bs)) ea ek

pub rec_in_net : (plan : UnitPlan) (final : Cut) (v : ℕ → Reading) (i init first : ℕ) (a : Operand) (kind : Bool) (e : EquationShape) (m : IsMade plan final i e) → Runs final.units v → slice_get plan.equations i ≡ Some e → length m.cut.units ≡ first_unit plan i → has_units plan i e ≡ true → e.op ≡ Op.Rec init first → e.args ≡ a ∷ [] → e.kinds ≡ kind ∷ [] → list_all (is_lawful_operand plan.equations i) e.args ≡ true → IsRecAt v (get_or plan.widths i 0) init (hold_count plan.equations i) (hold_at plan i) (body_of plan final.values a kind) (value_of final.values i)
rec_in_net plan final v i init first a kind e m run there num has op ea ek lawful =
    let w : ℕ = get_or plan.widths i 0 in
    let count : ℕ = hold_count plan.equations i in
    let u : ℕ = length m.cut.units in
    let body : Argument = body_of plan final.values a kind in
    let p : Part = widened body w u in
    let t : ℕ = u + length p.units in
    let args : arguments plan m.cut.values e.args e.kinds ≡ body ∷ [] = sym (arguments_same plan final.values m.cut.values i e.args e.kinds m.same lawful) ∙ one_argument plan final.values a kind e.args e.kinds ea ek in
    let part : next_units plan m.cut e ≡ held w init count body = own_part plan final i e m has ∙ ap₂ (λ (o : Op) (ys : List Argument). equation_units plan i o ys) op args in
    let at : t ≡ hold_unit plan i = omega (arith, (takes_widened body w).at u, num, body_number plan i a kind e there ea ek) in
    let ks : List Cell = each (slices_of w) (hold_cell w init p.slices) in
    let f : ℕ → List Cell = λ j. each (slices_of w) (later_cell init (t + j)) in
    let laters : List (List Cell) = each (count - 1) f in
    let units : final.units ≡ m.cut.units ++ ((p.units ++ (ks ∷ laters)) ++ m.after) = m.units ∙ ap (λ (q : Making). m.cut.units ++ ((q u).units ++ m.after)) part in
    let first_is : final.units ≡ (m.cut.units ++ p.units) ++ (ks ∷ (laters ++ m.after)) = units ∙ ap (λ (x : List (List Cell)). m.cut.units ++ x) (append_assoc p.units (ks ∷ laters) m.after) ∙ sym (append_assoc m.cut.units p.units (ks ∷ (laters ++ m.after))) in
    let front_long : length (m.cut.units ++ p.units) ≡ t = length-append m.cut.units p.units in
    let one : 1 - 1 ≡ 0 = omega arith in
    let lawful_one : is_lawful_operand plan.equations i a ≡ true = (and_parts (is_lawful_operand plan.equations i a) true (subst (λ (xs : List Operand). list_all (is_lawful_operand plan.equations i) xs ≡ true) ea lawful)).0 in
    let known : AreOperands u body.slices = subst (AreOperands u) (sym (operand_same plan final.values m.cut.values i a m.same lawful_one)) (operand_known plan m.cut.values u a m.good.values) in
    let good : GoodPart u p = good_widened u body w known in
    let h1 : t ≡ hold_at plan i 1 = omega (arith, at) in
    record {
      u = u;
      later_u = t;
      wide = λ n. (has-append (v n) u p.units (ks ∷ laters) (subst (λ (q : Making). Has (v n) u (q u).units) part (stands (v n) plan final i e m (run.has n)))).0;
      known = good.slices;
      one = omega arith;
      first = subst (λ (k : ℕ). Stays v k ks) h1 (stays v final.units (m.cut.units ++ p.units) ks (laters ++ m.after) t first_is front_long run);
      later = λ k low high. later_at k low high first_is front_long at;
      slices_are = m.slices ∙ ap (λ (q : Making). (q u).slices) part ∙ ap (λ (k : ℕ). unit_slices w k) h1;
    }
  where
    body : Argument
    body = body_of plan final.values a kind

    w : ℕ
    w = get_or plan.widths i 0

    p : Part
    p = widened (body_of plan final.values a kind) (get_or plan.widths i 0) (length m.cut.units)

    t : ℕ
    t = length m.cut.units + length (widened (body_of plan final.values a kind) (get_or plan.widths i 0) (length m.cut.units)).units

    ks : List Cell
    ks = each (slices_of (get_or plan.widths i 0)) (hold_cell (get_or plan.widths i 0) init p.slices)

    f : ℕ → List Cell
    f = λ j. each (slices_of (get_or plan.widths i 0)) (later_cell init (t + j))

    laters : List (List Cell)
    laters = each (hold_count plan.equations i - 1) f

    later_at : (k : ℕ) → 1 ≤ k → suc k ≤ hold_count plan.equations i → final.units ≡ (m.cut.units ++ p.units) ++ (ks ∷ (laters ++ m.after)) → length (m.cut.units ++ p.units) ≡ t → t ≡ hold_unit plan i → Stays v (hold_at plan i (suc k)) (each (slices_of (get_or plan.widths i 0)) (later_cell init (hold_at plan i k)))
    later_at k low high is long at =
        let s : SplitAt f 0 (hold_count plan.equations i - 1) (k - 1) = split_each f 0 (hold_count plan.equations i - 1) (k - 1) (omega (arith, low, high)) in
        let front : List (List Cell) = m.cut.units ++ p.units in
        let x : List Cell = f (0 + (k - 1)) in
        let all : final.units ≡ (front ++ (ks ∷ s.front)) ++ (x ∷ (s.back ++ m.after)) =
        is ∙ ap (λ (ys : List (List Cell)). front ++ (ks ∷ (ys ++ m.after))) s.is ∙ ap (λ (ys : List (List Cell)). front ++ (ks ∷ ys)) (append_assoc s.front (x ∷ s.back) m.after) ∙ sym (append_assoc front (ks ∷ s.front) (x ∷ (s.back ++ m.after))) in
        let place : length (front ++ (ks ∷ s.front)) ≡ hold_at plan i (suc k) = length-append front (ks ∷ s.front) ∙ omega (arith, long, s.long, at, low) in
        let before : t + (0 + (k - 1)) ≡ hold_at plan i k = omega (arith, at, low) in
        subst (λ (j : ℕ). Stays v (hold_at plan i (suc k)) (each (slices_of (get_or plan.widths i 0)) (later_cell init j))) before (stays v final.units (front ++ (ks ∷ s.front)) x (s.back ++ m.after) (hold_at plan i (suc k)) all place run)
