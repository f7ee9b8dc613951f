-- Where the units of each equation stand in the net, and that operators without state show their numbers there.
use Rattle.std.proofs.Common.{ℕ, zero, suc, ◌≡◌, ◌+◌, ◌/◌, ◌^◌, ◌<◌, ◌≤◌, Bool, true, Some, List, [], ◌∷◌, ◌++◌, length, map, get_or, subst, refl, ap, ap₂, sym, ◌∙◌, arith, append_assoc, length-append}
use Rattle.std.specs.Bool.{if◌then◌else◌}
use Rattle.std.specs.List.{slice_get, list_all}
use Rattle.std.proofs.lemmas.Bool.{and_parts, ltb-true, eqb-true}
use Rattle.std.proofs.lemmas.List.{get_or_at, get_or_append_left, append-nil}
use Rattle.pr_base.specs.Numbers.{slices_of, bytes_of}
use Rattle.pr_flat.specs.declared.equations.Operand.{Operand}
use Rattle.pr_flat.specs.declared.equations.Op.{Op}
use Rattle.pr_flat.specs.declared.forms.Form.{Form}
use Rattle.pr_flat.specs.declared.forms.Point.{Point}
use Rattle.pr_flat.specs.Forms.{number_width}
use Rattle.pr_flat.specs.Rows.{takes}
use Rattle.pr_flat.specs.Shape.{EquationShape}
use Rattle.pr_flat.specs.Facts.{is_lawful_operand, arity}
use Rattle.pr_flat.specs.Widths.{operand_width, forms_in}
use Rattle.pr_flat.specs.Values.{Sight, points_in, operand_number, operator_number}
use Rattle.pr_flat_ops.proofs.Residues.{residue_below}
use Rattle.pr_net.specs.declared.cells.Slice.{Slice}
use Rattle.pr_net.specs.declared.cells.Cell.{Cell}
use Rattle.pr_net.specs.Reading.{Reading, Has, shown}
use Rattle.pr_net.specs.Runs.{AreBytes, StartsAs, StepsTo, Runs}
use Rattle.pr_net.proofs.Readings.{has-append}
use Rattle.pr_cut_units.specs.Parts.{Making, kept}
use Rattle.pr_cut_units.specs.Widening.{Argument}
use Rattle.pr_cut_units.specs.Table.{argument_forms, units_at}
use Rattle.pr_cut_units.specs.Equations.{UnitPlan, Cut, operand_slices, arguments, equation_units, has_units, next_units, cut_next, cut_after}
use Rattle.pr_cut_units.proofs.EachLemmas.{length-each}
use Rattle.pr_cut_units.proofs.Operands.{AreOperands, operands-each}
use Rattle.pr_cut_units.proofs.GoodTable.{KnownArguments, good_at}
use Rattle.pr_cut_units.proofs.GoodNets.{AllValues, WideOperands, AllWide, GoodCut, good_next}
use Rattle.pr_cut_units.proofs.CountNets.{forms_are}
use Rattle.pr_cut_laws.proofs.Shown.{operand_bytes}
use Rattle.pr_cut_laws.proofs.Table.{AreArguments, IsOperator, points_of, operator_shows}
use Rattle.pr_cut_laws.proofs.Holds.{Stays}
use Rattle.pr_cut_laws.proofs.Whole.{ShowsNumber, AreShown, IsOrdinary, value_of}

-- ---- the fold appends
pub units_more : (plan : UnitPlan) (cut : Cut) (rest : List EquationShape) → (more : List (List Cell)) × ((cut_after plan cut rest).units ≡ cut.units ++ more)
units_more plan cut [] = ([], sym (append-nil cut.units))
units_more plan cut (e ∷ rest) =
    let us : List (List Cell) = (next_units plan cut e (length cut.units)).units in
    let t = units_more plan (cut_next plan cut e) rest in
    (us ++ t.0, t.1 ∙ append_assoc cut.units us t.0)

values_more : (plan : UnitPlan) (cut : Cut) (rest : List EquationShape) → (more : List (List Slice)) × ((cut_after plan cut rest).values ≡ cut.values ++ more)
values_more plan cut [] = ([], sym (append-nil cut.values))
values_more plan cut (e ∷ rest) =
    let x : List Slice = (next_units plan cut e (length cut.units)).slices in
    let t = values_more plan (cut_next plan cut e) rest in
    (x ∷ t.0, t.1 ∙ append_assoc cut.values (x ∷ []) t.0)

-- equation i was made after these units and values
pub record IsMade (plan : UnitPlan) (final : Cut) (i : ℕ) (e : EquationShape) : Type 0 where
  pub cut : Cut
  pub count : length cut.values ≡ i
  pub after : List (List Cell)
  pub units : final.units ≡ cut.units ++ ((next_units plan cut e (length cut.units)).units ++ after)
  pub slices : value_of final.values i ≡ (next_units plan cut e (length cut.units)).slices
  pub same : (j : ℕ) → j < i → value_of final.values j ≡ value_of cut.values j
  pub good : GoodCut plan cut
  pub before : List EquationShape
  pub rest : List EquationShape
  pub split : plan.equations ≡ before ++ rest
  pub place : length before ≡ i
  pub final_is : final ≡ cut_after plan cut rest

made_from : (plan : UnitPlan) (cut : Cut) (before rest : List EquationShape) (k : ℕ) (e : EquationShape) → plan.equations ≡ before ++ rest → length cut.values ≡ length before → AllWide plan.widths rest → GoodCut plan cut → slice_get rest k ≡ Some e → IsMade plan (cut_after plan cut rest) (length before + k) e
made_from plan cut before [] k e is long w g there = cc
made_from plan cut before (d ∷ rest) zero e is long w g there =
    let same : d ≡ e = cc in
    subst (λ (x : EquationShape). IsMade plan (cut_after plan cut (d ∷ rest)) (length before + 0) x) same here
  where
    us : List (List Cell)
    us = (next_units plan cut d (length cut.units)).units

    x : List Slice
    x = (next_units plan cut d (length cut.units)).slices

    at : length cut.values ≡ length before + 0
    at = omega (arith, long)

    here : IsMade plan (cut_after plan cut (d ∷ rest)) (length before + 0) d
    here =
        let mu = units_more plan (cut_next plan cut d) rest in
        let mv = values_more plan (cut_next plan cut d) rest in
        let all : (cut_after plan (cut_next plan cut d) rest).values ≡ cut.values ++ x ∷ mv.0 = mv.1 ∙ append_assoc cut.values (x ∷ []) mv.0 in
        record {
          cut = cut;
          count = at;
          after = mu.0;
          units = mu.1 ∙ append_assoc cut.units us mu.0;
          slices = ap (λ (vs : List (List Slice)). get_or vs (length before + 0) []) all ∙ get_or_at cut.values x mv.0 [] (length before + 0) at;
          same = λ j l. ap (λ (vs : List (List Slice)). get_or vs j []) all ∙ get_or_append_left cut.values (x ∷ mv.0) [] j (omega (arith, l, long));
          good = g;
          before = before;
          rest = d ∷ rest;
          split = is;
          place = omega arith;
          final_is = refl;
        }
made_from plan cut before (d ∷ rest) (suc k) e is long w g there =
    let x : List Slice = (next_units plan cut d (length cut.units)).slices in
    let t : IsMade plan (cut_after plan (cut_next plan cut d) rest) (length (before ++ d ∷ []) + k) e = made_from plan (cut_next plan cut d) (before ++ d ∷ []) rest k e (is ∙ sym (append_assoc before (d ∷ []) rest)) (length-append cut.values (x ∷ []) ∙ omega (arith, long, length-append before (d ∷ []))) w.1 (good_next plan cut before rest d is long w.0 g) there in
    subst (λ (i : ℕ). IsMade plan (cut_after plan cut (d ∷ rest)) i e) (omega (arith, length-append before (d ∷ []))) t

pub made_at : (plan : UnitPlan) (cut : Cut) (k : ℕ) (e : EquationShape) → length cut.values ≡ 0 → AllWide plan.widths plan.equations → GoodCut plan cut → slice_get plan.equations k ≡ Some e → IsMade plan (cut_after plan cut plan.equations) k e
made_at plan cut k e none w g there = subst (λ (i : ℕ). IsMade plan (cut_after plan cut plan.equations) i e) (omega arith) (made_from plan cut [] plan.equations k e refl none w g there)

-- ---- units of the net in a reading, and in a run
pub stands : (r : Reading) (plan : UnitPlan) (final : Cut) (i : ℕ) (e : EquationShape) (m : IsMade plan final i e) → Has r 0 final.units → Has r (length m.cut.units) (next_units plan m.cut e (length m.cut.units)).units
stands r plan final i e m h =
    let us : List (List Cell) = (next_units plan m.cut e (length m.cut.units)).units in
    let one = (has-append r 0 m.cut.units (us ++ m.after) (subst (Has r 0) m.units h)).1 in
    (has-append r (length m.cut.units) us m.after (subst (λ (k : ℕ). Has r k (us ++ m.after)) (omega arith) one)).0

starts-append : (r : Reading) (u : ℕ) (us vs : List (List Cell)) → StartsAs r u (us ++ vs) → StartsAs r (u + length us) vs
starts-append r u [] vs h = subst (λ (k : ℕ). StartsAs r k vs) (omega arith) h
starts-append r u (ks ∷ us) vs h = subst (λ (k : ℕ). StartsAs r k vs) (omega arith) (starts-append r (suc u) us vs h.1)

steps-append : (r q : Reading) (u : ℕ) (us vs : List (List Cell)) → StepsTo r q u (us ++ vs) → StepsTo r q (u + length us) vs
steps-append r q u [] vs h = subst (λ (k : ℕ). StepsTo r q k vs) (omega arith) h
steps-append r q u (ks ∷ us) vs h = subst (λ (k : ℕ). StepsTo r q k vs) (omega arith) (steps-append r q (suc u) us vs h.1)

-- a unit of the net, in a run of the net
pub stays : (v : ℕ → Reading) (all before : List (List Cell)) (ks : List Cell) (after : List (List Cell)) (u : ℕ) → all ≡ before ++ (ks ∷ after) → length before ≡ u → Runs all v → Stays v u ks
stays v all before ks after u is at run =
    let z : 0 + length before ≡ u = omega (arith, at) in
    record {
      row = λ n. (subst (λ (k : ℕ). Has (v n) k (ks ∷ after)) z (has-append (v n) 0 before (ks ∷ after) (subst (Has (v n) 0) is (run.has n))).1).0;
      start = (subst (λ (k : ℕ). StartsAs (v 0) k (ks ∷ after)) z (starts-append (v 0) 0 before (ks ∷ after) (subst (StartsAs (v 0) 0) is run.starts))).0;
      next = λ n. (subst (λ (k : ℕ). StepsTo (v n) (v (suc n)) k (ks ∷ after)) z (steps-append (v n) (v (suc n)) 0 before (ks ∷ after) (subst (StepsTo (v n) (v (suc n)) 0) is (run.steps n)))).0;
    }

-- ---- operands
-- operands that were made before are the same in the whole
pub operand_same : (plan : UnitPlan) (xs ys : List (List Slice)) (i : ℕ) (a : Operand) → ((j : ℕ) → j < i → value_of xs j ≡ value_of ys j) → is_lawful_operand plan.equations i a ≡ true → operand_slices plan xs a ≡ operand_slices plan ys a
operand_same plan xs ys i (Operand.Const c) h l = refl
operand_same plan xs ys i (Operand.Eq j) h l = h j (ltb-true j i l)
operand_same plan xs ys i (Operand.Past rec k) h l = refl

pub arguments_same : (plan : UnitPlan) (xs ys : List (List Slice)) (i : ℕ) (args : List Operand) (kinds : List Bool) → ((j : ℕ) → j < i → value_of xs j ≡ value_of ys j) → list_all (is_lawful_operand plan.equations i) args ≡ true → arguments plan xs args kinds ≡ arguments plan ys args kinds
arguments_same plan xs ys i [] kinds h l = refl
arguments_same plan xs ys i (a ∷ args) [] h l = refl
arguments_same plan xs ys i (a ∷ args) (kind ∷ kinds) h l =
    let both = and_parts (is_lawful_operand plan.equations i a) (list_all (is_lawful_operand plan.equations i) args) l in
    let f : Form = record { signed = kind; width = operand_width plan.widths a } in
    ap₂ (λ (x : List Slice) (rest : List Argument). record { slices = x; form = f } ∷ rest) (operand_same plan xs ys i a h both.0) (arguments_same plan xs ys i args kinds h both.1)

value_known : (n : ℕ) (values : List (List Slice)) (i : ℕ) → AllValues n values → AreOperands n (value_of values i)
value_known n [] i h = tt
value_known n (x ∷ values) zero h = h.0
value_known n (x ∷ values) (suc i) h = value_known n values i h.1

bytes_known : (v k c : ℕ) → AreOperands v (map (λ b. Slice.Const b) (bytes_of k c))
bytes_known v zero c = tt
bytes_known v (suc k) c = (record { before = tt; byte = omega arith }, bytes_known v k (c / 256))

pub operand_known : (plan : UnitPlan) (values : List (List Slice)) (n : ℕ) (a : Operand) → AllValues n values → AreOperands n (operand_slices plan values a)
operand_known plan values n (Operand.Const c) h = bytes_known n (slices_of (number_width c)) c
operand_known plan values n (Operand.Eq i) h = value_known n values i h
operand_known plan values n (Operand.Past rec k) h = operands-each n _ _ (λ i. record { before = tt; byte = tt })

-- operands that show their numbers are arguments, and their points are those of the language
abbrev pub FewBits : List ℕ → List Operand → Type 0
FewBits widths [] = Unit {0}
FewBits widths (a ∷ args) = (operand_width widths a ≤ 128) × FewBits widths args

shown_arguments : (r : Reading) (u : ℕ) (plan : UnitPlan) (xs ys : List (List Slice)) (i : ℕ) (sight : Sight) (args : List Operand) (kinds : List Bool) → sight.widths ≡ plan.widths → length args ≡ length kinds → ((j : ℕ) → j < i → value_of xs j ≡ value_of ys j) → list_all (is_lawful_operand plan.equations i) args ≡ true → AllValues u ys → FewBits plan.widths args → AreShown r (map (operand_slices plan xs) args) (points_in sight args kinds) → AreArguments r u (arguments plan ys args kinds) × (points_of r (arguments plan ys args kinds) ≡ points_in sight args kinds)
shown_arguments r u plan xs ys i sight [] [] ew len h l known few s = (tt, refl)
shown_arguments r u plan xs ys i sight [] (kind ∷ kinds) ew len h l known few s = absurd (omega arith)
shown_arguments r u plan xs ys i sight (a ∷ args) [] ew len h l known few s = absurd (omega arith)
shown_arguments r u plan xs ys i sight (a ∷ args) (kind ∷ kinds) ew len h l known few s =
    let both = and_parts (is_lawful_operand plan.equations i a) (list_all (is_lawful_operand plan.equations i) args) l in
    let rest = shown_arguments r u plan xs ys i sight args kinds ew (omega (arith, len)) h both.1 known few.1 s.1 in
    let same : operand_slices plan xs a ≡ operand_slices plan ys a = operand_same plan xs ys i a h both.0 in
    let wide : operand_width sight.widths a ≡ operand_width plan.widths a = ap (λ (ws : List ℕ). operand_width ws a) ew in
    let f : Form = record { signed = kind; width = operand_width plan.widths a } in
    let n : ℕ = operand_number sight.equations sight.before sight.row a in
    let x : ShowsNumber r (operand_slices plan ys a) (operand_width plan.widths a) n = subst (λ (z : List Slice). ShowsNumber r z (operand_width plan.widths a) n) same (subst (λ (w : ℕ). ShowsNumber r (operand_slices plan xs a) w n) wide s.0) in (
      (record { known = operand_known plan ys u a known; count = x.operand.count; point = record { form = record { positive = x.operand.some; greatest = few.0 }; below = x.operand.below } }, rest.0),
      ap₂ (λ (p : Point) (ps : List Point). p ∷ ps) (ap₂ (λ (w n : ℕ). record { form = record { signed = kind; width = w }; number = n }) (sym wide) x.is) rest.1,
    )

-- ---- operators without state
pub takes_operator : (op : Op) (args : List Argument) → length args ≡ arity op → IsOrdinary op → takes op (argument_forms args) ≡ true → IsOperator op args
takes_operator Op.Not (a ∷ []) len o t = tt
takes_operator (Op.Left k) (a ∷ []) len o t = tt
takes_operator (Op.Right k) (a ∷ []) len o t = tt
takes_operator (Op.Slice high low) (a ∷ []) len o t = tt
takes_operator Op.Fit (a ∷ []) len o t = tt
takes_operator Op.Add (a ∷ b ∷ []) len o t = tt
takes_operator Op.Sub (a ∷ b ∷ []) len o t = tt
takes_operator Op.Mul (a ∷ b ∷ []) len o t = tt
takes_operator Op.And (a ∷ b ∷ []) len o t = tt
takes_operator Op.Or (a ∷ b ∷ []) len o t = tt
takes_operator Op.Xor (a ∷ b ∷ []) len o t = tt
takes_operator Op.Equal (a ∷ b ∷ []) len o t = tt
takes_operator Op.NotEqual (a ∷ b ∷ []) len o t = tt
takes_operator Op.Less (a ∷ b ∷ []) len o t = tt
takes_operator Op.LessEqual (a ∷ b ∷ []) len o t = tt
takes_operator Op.Greater (a ∷ b ∷ []) len o t = tt
takes_operator Op.GreaterEqual (a ∷ b ∷ []) len o t = tt
takes_operator Op.LeftBy (a ∷ b ∷ []) len o t = tt
takes_operator Op.RightBy (a ∷ b ∷ []) len o t = tt
takes_operator Op.Cat (a ∷ b ∷ []) len o t = tt
takes_operator Op.Choose (c ∷ a ∷ b ∷ []) len o t = eqb-true c.form.width 1 t
takes_operator Op.Input args len o t = absurd o
takes_operator (Op.Delay c) args len o t = absurd o
takes_operator (Op.Rec init first) args len o t = absurd o
takes_operator op [] len o t = absurd (omega (arith, len))
takes_operator op (a ∷ []) len o t = absurd (omega (arith, len))
takes_operator op (a ∷ b ∷ []) len o t = absurd (omega (arith, len))
takes_operator op (a ∷ b ∷ c ∷ args) len o t = absurd (omega (arith, len))

ordinary_units : (plan : UnitPlan) (i : ℕ) (op : Op) (args : List Argument) → IsOrdinary op → equation_units plan i op args ≡ units_at (get_or plan.widths i 0) op args
ordinary_units plan i Op.Input args o = absurd o
ordinary_units plan i (Op.Delay c) args o = absurd o
ordinary_units plan i (Op.Rec init first) args o = absurd o
ordinary_units plan i op args o = refl

-- the part of equation i, which has units
pub own_part : (plan : UnitPlan) (final : Cut) (i : ℕ) (e : EquationShape) (m : IsMade plan final i e) → has_units plan i e ≡ true → next_units plan m.cut e ≡ equation_units plan i e.op (arguments plan m.cut.values e.args e.kinds)
own_part plan final i e m has =
    let args : List Argument = arguments plan m.cut.values e.args e.kinds in
    ap (λ (k : ℕ). if has_units plan k e then equation_units plan k e.op args else kept []) m.count ∙ ap (λ (t : Bool). if t then equation_units plan i e.op args else kept []) has

length-argument_list : (plan : UnitPlan) (values : List (List Slice)) (args : List Operand) (kinds : List Bool) (n : ℕ) → length args ≡ n → length kinds ≡ n → length (arguments plan values args kinds) ≡ n
length-argument_list plan values [] kinds n h k = h
length-argument_list plan values (a ∷ args) [] n h k = absurd (omega (arith, h, k))
length-argument_list plan values (a ∷ args) (kind ∷ kinds) zero h k = absurd (omega (arith, h))
length-argument_list plan values (a ∷ args) (kind ∷ kinds) (suc n) h k = ap suc (length-argument_list plan values args kinds n (omega (arith, h)) (omega (arith, k)))

wide_known : (plan : UnitPlan) (values : List (List Slice)) (n : ℕ) (args : List Operand) (kinds : List Bool) → AllValues n values → WideOperands plan.widths args → KnownArguments n (arguments plan values args kinds)
wide_known plan values n [] kinds h w = tt
wide_known plan values n (a ∷ args) [] h w = tt
wide_known plan values n (a ∷ args) (kind ∷ kinds) h w = ((operand_known plan values n a h, w.0), wide_known plan values n args kinds h w.1)

-- the slices of an operator without state show its number, wherever in the net its units stand
pub operator_in_net : (r : Reading) (plan : UnitPlan) (final : Cut) (i : ℕ) (e : EquationShape) (sight : Sight) (m : IsMade plan final i e) → AreBytes r → Has r 0 final.units → has_units plan i e ≡ true → IsOrdinary e.op
    → 1 ≤ get_or plan.widths i 0 → get_or plan.widths i 0 ≤ 128 → length e.args ≡ arity e.op → length e.kinds ≡ arity e.op → takes e.op (forms_in plan.widths e) ≡ true → list_all (is_lawful_operand plan.equations i) e.args ≡ true → FewBits plan.widths e.args → WideOperands plan.widths e.args → sight.widths ≡ plan.widths
    → AreShown r (map (operand_slices plan final.values) e.args) (points_in sight e.args e.kinds)
    → ShowsNumber r (value_of final.values i) (get_or plan.widths i 0) (operator_number (get_or plan.widths i 0) e.op (points_in sight e.args e.kinds))
operator_in_net r plan final i e sight m bs h has o hw few la lk t lawful fb wo ew s =
    let w : ℕ = get_or plan.widths i 0 in
    let u : ℕ = length m.cut.units in
    let args : List Argument = arguments plan m.cut.values e.args e.kinds in
    let part : next_units plan m.cut e ≡ units_at w e.op args = own_part plan final i e m has ∙ ordinary_units plan i e.op args o in
    let ok = shown_arguments r u plan final.values m.cut.values i sight e.args e.kinds ew (la ∙ sym lk) m.same lawful m.good.values fb s in
    let is_op : IsOperator e.op args = takes_operator e.op args (length-argument_list plan m.cut.values e.args e.kinds (arity e.op) la lk) o (ap (takes e.op) (forms_are plan m.cut.values e.args e.kinds) ∙ t) in
    let here : Has r u (units_at w e.op args u).units = subst (λ (p : Making). Has r u (p u).units) part (stands r plan final i e m h) in
    let out : value_of final.values i ≡ (units_at w e.op args u).slices = m.slices ∙ ap (λ (p : Making). (p u).slices) part in
    let n : ℕ = operator_number w e.op (points_in sight e.args e.kinds) in
    let is : shown r (units_at w e.op args u).slices ≡ n = operator_shows r u w e.op args hw few bs ok.0 is_op here ∙ ap (operator_number w e.op) ok.1 in
    let good = good_at u w e.op args (wide_known plan m.cut.values u e.args e.kinds m.good.values wo) in
    let long : w / 8 ≤ length (units_at w e.op args u).slices = filled_long w e.op args u in
    let small : shown r (units_at w e.op args u).slices < 2 ^ w = subst (λ (k : ℕ). k < 2 ^ w) (sym is) (residue_below w _) in
    subst (λ (x : List Slice). ShowsNumber r x w n) (sym out) (record { operand = record { some = hw; count = long; bytes = operand_bytes r (u + length (units_at w e.op args u).units) (units_at w e.op args u).slices bs good.slices; below = small }; is = is })
  where
    filled_long : (w : ℕ) (op : Op) (args : List Argument) (u : ℕ) → w / 8 ≤ length (units_at w op args u).slices
    filled_long w op args u = let e : length (units_at w op args u).slices ≡ slices_of w = length-each _ (slices_of w) in omega (arith, e)
