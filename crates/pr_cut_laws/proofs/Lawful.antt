-- The net of lawful equations shows what the language says.
use Rattle.std.proofs.Common.{ℕ, suc, ◌≡◌, ◌+◌, ◌≤◌, ◌<◌, ◌&&◌, Bool, true, false, not, Some, is_some, List, [], ◌∷◌, length, get_or, subst, refl, ap, sym, ◌∙◌, arith}
use Rattle.std.specs.List.{slice_get, list_all}
use Rattle.std.proofs.lemmas.Bool.{and_parts, ltb-true}
use Rattle.std.proofs.lemmas.Option.{slice_get_within}
use Rattle.pr_flat.specs.declared.equations.Operand.{Operand}
use Rattle.pr_flat.specs.declared.equations.Op.{Op}
use Rattle.pr_flat.specs.Rows.{natural_width}
use Rattle.pr_flat.specs.Shape.{EquationShape}
use Rattle.pr_flat.specs.Facts.{IsFlat, is_lawful_operand, is_rec, arity}
use Rattle.pr_flat.specs.Widths.{operand_width, operand_forms, forms_in, is_open, AreWidths}
use Rattle.pr_flat.proofs.WidthLemmas.{PastOf, past_of, equation_at}
use Rattle.pr_net.specs.Reading.{Reading}
use Rattle.pr_net.specs.Runs.{Runs, reading_at}
use Rattle.pr_net.proofs.RunsLemmas.{Small, function_runs, function_bytes}
use Rattle.pr_cut_units.specs.Reached.{hold_count}
use Rattle.pr_cut_units.specs.Equations.{UnitPlan, plan_of, has_units, Cut, input_units, cut_start, cut_whole}
use Rattle.pr_cut_units.proofs.GoodNets.{WideOperands, AllWide, GoodCut, good_whole, inputs_count}
use Rattle.pr_cut_units.proofs.GoodParts.{GoodPart, good_unit}
use Rattle.pr_cut_units.proofs.Operands.{top_small}
use Rattle.pr_cut_units.specs.Operators.{input_unit}
use Rattle.pr_base.specs.Numbers.{slices_of}
use Rattle.pr_net.specs.Order.{AreInOrder, HaveHeads, UnitsHaveBytes}
use Rattle.pr_flat.specs.Values.{input_widths}
use Rattle.pr_cut_units.proofs.CountNets.{is_stated, IsCounted, AreCounted}
use Rattle.pr_cut_laws.proofs.Histories.{val, sight_at}
use Rattle.pr_cut_laws.proofs.Whole.{ShowsNumber, IsOrdinary, AllClosed, value_of, IsNet, HasWidths, number_width-some, net_shows}
use Rattle.pr_cut_laws.proofs.Widths.{AllSome, natural_some, length-forms, Found, found_width, width_few, number_width-few, has_widths}
use Rattle.pr_cut_laws.proofs.Made.{IsMade, made_at, FewBits, operator_in_net}
use Rattle.pr_cut_laws.proofs.Net.{first_number, delay_in_net, rec_in_net}

-- ---- the premises on widths
wide_operand : (equations : List EquationShape) (widths : List ℕ) (i : ℕ) (a : Operand) → HasWidths equations widths → i < length equations → is_lawful_operand equations i a ≡ true → 1 ≤ operand_width widths a
wide_operand equations widths i (Operand.Const c) has within h = number_width-some c
wide_operand equations widths i (Operand.Eq j) has within h =
    let less : j < i = ltb-true j i h in
    let f = equation_at equations j (omega (arith, less, within)) in
    has.some j f.0 f.1
wide_operand equations widths i (Operand.Past rec k) has within h =
    let p : PastOf equations i rec = past_of equations i rec k h in
    has.some rec p.equation p.there

wide_operands : (equations : List EquationShape) (widths : List ℕ) (i : ℕ) (args : List Operand) → HasWidths equations widths → i < length equations → list_all (is_lawful_operand equations i) args ≡ true → WideOperands widths args
wide_operands equations widths i [] has within h = tt
wide_operands equations widths i (a ∷ args) has within h =
    let both = and_parts (is_lawful_operand equations i a) (list_all (is_lawful_operand equations i) args) h in
    (wide_operand equations widths i a has within both.0, wide_operands equations widths i args has within both.1)

few_operand : (equations : List EquationShape) (outputs : List Operand) (widths : List ℕ) (i : ℕ) (a : Operand) → IsFlat equations outputs → AreWidths equations widths → i < length equations → is_lawful_operand equations i a ≡ true → operand_width widths a ≤ 128
few_operand equations outputs widths i (Operand.Const c) flat all within h = number_width-few c
few_operand equations outputs widths i (Operand.Eq j) flat all within h =
    let less : j < i = ltb-true j i h in
    let f = equation_at equations j (omega (arith, less, within)) in
    width_few equations outputs widths flat all j f.0 f.1
few_operand equations outputs widths i (Operand.Past rec k) flat all within h =
    let p : PastOf equations i rec = past_of equations i rec k h in
    width_few equations outputs widths flat all rec p.equation p.there

few_operands : (equations : List EquationShape) (outputs : List Operand) (widths : List ℕ) (i : ℕ) (args : List Operand) → IsFlat equations outputs → AreWidths equations widths → i < length equations → list_all (is_lawful_operand equations i) args ≡ true → FewBits widths args
few_operands equations outputs widths i [] flat all within h = tt
few_operands equations outputs widths i (a ∷ args) flat all within h =
    let both = and_parts (is_lawful_operand equations i a) (list_all (is_lawful_operand equations i) args) h in
    (few_operand equations outputs widths i a flat all within both.0, few_operands equations outputs widths i args flat all within both.1)

all_from : (widths : List ℕ) (rest : List EquationShape) → ((j : ℕ) (e : EquationShape) → slice_get rest j ≡ Some e → WideOperands widths e.args) → AllWide widths rest
all_from widths [] h = tt
all_from widths (e ∷ rest) h = (h 0 e refl, all_from widths rest (λ j d there. h (suc j) d there))

pub all_wide : (equations : List EquationShape) (outputs : List Operand) (widths : List ℕ) → IsFlat equations outputs → AreWidths equations widths → AllWide widths equations
all_wide equations outputs widths flat all = all_from widths equations (λ i e there. wide_operands equations widths i e.args (has_widths equations outputs widths flat all) (slice_get_within equations i e there) (flat.operands i e there))

counted_from : (plan : UnitPlan) (k : ℕ) (rest : List EquationShape) → ((j : ℕ) (e : EquationShape) → slice_get rest j ≡ Some e → IsCounted plan (k + j) e) → AreCounted plan k rest
counted_from plan k [] h = tt
counted_from plan k (e ∷ rest) h =
    let z : k + 0 ≡ k = omega arith in
    (subst (λ (i : ℕ). IsCounted plan i e) z (h 0 e refl), counted_from plan (suc k) rest (λ j d there. (let q : k + suc j ≡ suc k + j = omega arith in subst (λ (i : ℕ). IsCounted plan i d) q (h (suc j) d there))))

plain_op : (op : Op) → is_stated op ≡ false → (1 ≤ arity op) × (is_rec op ≡ false)
plain_op Op.Input h = cc
plain_op (Op.Delay c) h = cc
plain_op (Op.Rec init first) h = cc
plain_op op h = (omega arith, refl)

some_forms : (widths : List ℕ) (args : List Operand) (kinds : List Bool) → WideOperands widths args → AllSome (operand_forms widths args kinds)
some_forms widths [] kinds h = tt
some_forms widths (a ∷ args) [] h = tt
some_forms widths (a ∷ args) (kind ∷ kinds) h = (h.0, some_forms widths args kinds h.1)

pub all_counted : (equations : List EquationShape) (outputs : List Operand) (widths : List ℕ) (seen : List Operand) → IsFlat equations outputs → AreWidths equations widths → AreCounted (plan_of equations widths seen) 0 equations
all_counted equations outputs widths seen flat all = counted_from (plan_of equations widths seen) 0 equations one
  where
    one : (i : ℕ) (e : EquationShape) → slice_get equations i ≡ Some e → IsCounted (plan_of equations widths seen) (0 + i) e
    one i e there =
        let has : HasWidths equations widths = has_widths equations outputs widths flat all in
        let wo : WideOperands widths e.args = wide_operands equations widths i e.args has (slice_get_within equations i e there) (flat.operands i e there) in
        let z : 0 + i ≡ i = omega arith in
        let w : 1 ≤ get_or widths (0 + i) 0 = subst (λ (k : ℕ). 1 ≤ get_or widths k 0) (sym z) (has.some i e there) in
        record {
          args = flat.args i e there;
          kinds = flat.kinds i e there;
          wide = wo;
          bits = λ s.
              (let p = plain_op e.op s in
              let n : 1 ≤ natural_width e.op (forms_in widths e) = natural_some e.op (forms_in widths e) (length-forms widths e.args e.kinds (arity e.op) (flat.args i e there) (flat.kinds i e there)) p.0 p.1 (some_forms widths e.args e.kinds wo) in
              omega (arith, w, n));
        }

one_of : {A : Type 0} (xs : List A) → length xs ≡ 1 → (a : A) × (xs ≡ a ∷ [])
one_of [] h = absurd (omega (arith, h))
one_of (a ∷ []) h = (a, refl)
one_of (a ∷ b ∷ xs) h = absurd (omega (arith, h))

ordinary_closed : (op : Op) → IsOrdinary op → is_rec op ≡ false
ordinary_closed Op.Input o = absurd o
ordinary_closed (Op.Delay c) o = absurd o
ordinary_closed (Op.Rec init first) o = absurd o
ordinary_closed op o = refl

-- ---- the units of inputs
inputs_order : (v offset : ℕ) (widths : List ℕ) → AreInOrder v (input_units offset widths)
inputs_order v offset [] = tt
inputs_order v offset (w ∷ widths) = ((good_input v w offset).order.0, inputs_order (suc v) (offset + slices_of w) widths)
  where
    good_input : (v w offset : ℕ) → GoodPart v (input_unit w offset v)
    good_input v w offset = good_unit v (slices_of w) _ (λ i. record { reads = record { a = tt; hi = tt; lo = tt; c = tt }; bytes = record { a = tt; mask = top_small w i; init = omega arith } }) (λ i. tt)

inputs_bytes : (offset : ℕ) (widths : List ℕ) → UnitsHaveBytes (input_units offset widths)
inputs_bytes offset [] = tt
inputs_bytes offset (w ∷ widths) = ((good_input w offset).bytes.0, inputs_bytes (offset + slices_of w) widths)
  where
    good_input : (w offset : ℕ) → GoodPart 0 (input_unit w offset 0)
    good_input w offset = good_unit 0 (slices_of w) _ (λ i. record { reads = record { a = tt; hi = tt; lo = tt; c = tt }; bytes = record { a = tt; mask = top_small w i; init = omega arith } }) (λ i. tt)

inputs_heads : (offset : ℕ) (widths : List ℕ) → HaveHeads (input_units offset widths)
inputs_heads offset [] = tt
inputs_heads offset (w ∷ widths) = ((good_input w offset).heads.0, inputs_heads (offset + slices_of w) widths)
  where
    good_input : (w offset : ℕ) → GoodPart 0 (input_unit w offset 0)
    good_input w offset = good_unit 0 (slices_of w) _ (λ i. record { reads = record { a = tt; hi = tt; lo = tt; c = tt }; bytes = record { a = tt; mask = top_small w i; init = omega arith } }) (λ i. tt)

pub good_start : (plan : UnitPlan) → GoodCut plan (cut_start plan.equations)
good_start plan = record {
  order = inputs_order 0 0 (input_widths plan.equations);
  bytes = inputs_bytes 0 (input_widths plan.equations);
  heads = inputs_heads 0 (input_widths plan.equations);
  values = tt;
  inputs = omega (arith, inputs_count 0 plan.equations);
}

-- an equation that has units
abbrev pub HasUnits : UnitPlan → ℕ → Type 0
HasUnits plan i = (e : EquationShape) → slice_get plan.equations i ≡ Some e → has_units plan i e ≡ true

-- the slices of inputs show the numbers of the samples
pub record IsFed (plan : UnitPlan) (samples : List (List ℕ)) (v : ℕ → Reading) : Type 0 where
  pub shows : (n i : ℕ) (e : EquationShape) → slice_get plan.equations i ≡ Some e → e.op ≡ Op.Input → ShowsNumber (v n) (value_of (cut_whole plan).values i) (get_or plan.widths i 0) (val plan.equations plan.widths samples n i)

-- what an equation with units reads has units, and a past has its hold unit
pub record IsClosedPlan (plan : UnitPlan) : Type 0 where
  pub closed : (i : ℕ) (e : EquationShape) → slice_get plan.equations i ≡ Some e → HasUnits plan i → AllClosed (HasUnits plan) (hold_count plan.equations) e.args

-- the slices of every equation that has units show its number at every sample
pub cut_shows : (equations : List EquationShape) (outputs : List Operand) (widths : List ℕ) (samples buses : List (List ℕ)) → IsFlat equations outputs → AreWidths equations widths → Small buses → IsClosedPlan (plan_of equations widths outputs) → IsFed (plan_of equations widths outputs) samples (reading_at (cut_whole (plan_of equations widths outputs)).units buses)
    → (n i : ℕ) (e : EquationShape) → slice_get equations i ≡ Some e → HasUnits (plan_of equations widths outputs) i → ShowsNumber (reading_at (cut_whole (plan_of equations widths outputs)).units buses n) (value_of (cut_whole (plan_of equations widths outputs)).values i) (get_or widths i 0) (val equations widths samples n i)
cut_shows equations outputs widths samples buses flat all small closed fed n i e there made = net_shows plan outputs samples v (HasUnits plan) final.values (hold_count equations) flat all has net n i e there made
  where
    plan : UnitPlan
    plan = plan_of equations widths outputs

    final : Cut
    final = cut_whole (plan_of equations widths outputs)

    v : ℕ → Reading
    v = reading_at (cut_whole (plan_of equations widths outputs)).units buses

    has : HasWidths equations widths
    has = has_widths equations outputs widths flat all

    wide : AllWide widths equations
    wide = all_wide equations outputs widths flat all

    good : GoodCut (plan_of equations widths outputs) (cut_whole (plan_of equations widths outputs))
    good = good_whole (plan_of equations widths outputs) wide

    run : Runs (cut_whole (plan_of equations widths outputs)).units (reading_at (cut_whole (plan_of equations widths outputs)).units buses)
    run = function_runs (cut_whole (plan_of equations widths outputs)).units buses good.order

    made_of : (i : ℕ) (e : EquationShape) → slice_get equations i ≡ Some e → IsMade (plan_of equations widths outputs) (cut_whole (plan_of equations widths outputs)) i e
    made_of i e there = made_at (plan_of equations widths outputs) (cut_start equations) i e refl wide (start) there
      where
        start : GoodCut (plan_of equations widths outputs) (cut_start equations)
        start = good_start (plan_of equations widths outputs)

    net : IsNet (plan_of equations widths outputs) samples (reading_at (cut_whole (plan_of equations widths outputs)).units buses) (HasUnits (plan_of equations widths outputs)) (cut_whole (plan_of equations widths outputs)).values (hold_count equations)
    net = record {
      bytes = λ n. function_bytes final.units buses n good.bytes small;
      closed = closed.closed;
      inputs = λ i e there m op n. fed.shows n i e there op;
      delays = λ i c a e there m op args. (let kind = one_of e.kinds (flat.kinds i e there ∙ ap arity op) in delay_in_net plan final v i c a kind.0 e (made_of i e there) run (m e there) op args kind.1 (flat.operands i e there));
      recs = λ i init first a kind e there m op args kinds. rec_in_net plan final v i init first a kind e (made_of i e there) run there (first_number equations widths outputs i e (made_of i e there) (all_counted equations outputs widths outputs flat all)) (m e there) op args kinds (flat.operands i e there);
      others = λ i e there m o n s.
          (let within : i < length equations = slice_get_within equations i e there in
          let not_open : is_open e ≡ false = ap (λ (b : Bool). b && not (is_some e.declared)) (ordinary_closed e.op o) in
          let found : Found e widths (get_or widths i 0) = found_width e widths (get_or widths i 0) (flat.widths i e there) (all.each i e there within not_open) in
          operator_in_net (v n) plan final i e (sight_at equations widths samples n) (made_of i e there) (function_bytes final.units buses n good.bytes small) (run.has n) (m e there) o (has.some i e there) found.few (flat.args i e there) (flat.kinds i e there) found.taken (flat.operands i e there) (few_operands equations outputs widths i e.args flat all within (flat.operands i e there)) (wide_operands equations widths i e.args has within (flat.operands i e there)) refl s);
    }
