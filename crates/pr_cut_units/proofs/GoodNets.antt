-- The whole net is in order: the fold over equations keeps it.
use Rattle.std.proofs.Common.{◌≡◌, ◌<◌, ◌≤◌, ℕ, zero, suc, ◌+◌, ◌-◌, ◌/◌, Bool, true, false, List, [], ◌∷◌, ◌++◌, length, take, map, subst, refl, sym, ap, ◌∙◌, arith, length-append, append_assoc}
use Rattle.std.specs.Prelude.{cond, unwrap_or, count_by, slice_index, slice_index_or}
use Rattle.std.specs.Bool.{if◌then◌else◌}
use Rattle.std.proofs.lemmas.List.Sums.{sum_by-cons}
use Rattle.std.specs.List.{range_with_len}
use Rattle.pr_base.specs.Numbers.{slices_of, bytes_of}
use Rattle.pr_flat.specs.declared.equations.Operand.{Operand}
use Rattle.pr_flat.specs.declared.equations.Op.{Op}
use Rattle.pr_flat.specs.Forms.{number_width}
use Rattle.pr_flat.specs.Shape.{EquationShape}
use Rattle.pr_flat.specs.Facts.{is_input}
use Rattle.pr_flat.specs.Widths.{operand_width}
use Rattle.pr_flat.specs.Values.{input_widths}
use Rattle.pr_net.specs.declared.cells.Slice.{Slice}
use Rattle.pr_net.specs.declared.cells.Cell.{Cell}
use Rattle.pr_net.specs.Order.{AreInOrder, BeginsFresh, HaveHeads, UnitsHaveBytes, HasHead}
use Rattle.pr_cut_units.specs.Parts.{Making, each, kept}
use Rattle.pr_cut_units.specs.Widening.{Argument, widened}
use Rattle.pr_cut_units.specs.Operators.{input_unit}
use Rattle.pr_cut_units.specs.States.{delayed, hold_cell, later_cell, hold_units, held}
use Rattle.pr_cut_units.specs.Reached.{hold_count}
use Rattle.pr_cut_units.specs.Equations.{UnitPlan, operand_slices, arguments, input_slices, equation_units, Cut, has_units, next_units, cut_next, cut_after, input_units, cut_start, cut_whole}
use Rattle.pr_cut_units.proofs.Operands.{AreOperands, operand_at, operands_more, operands-each, IsGood, AllGood, all-each, top_small}
use Rattle.pr_cut_units.proofs.GoodParts.{GoodPart, all_before, all_bytes, good_kept, good_unit, good_then, order-append, bytes-append, heads-append}
use Rattle.pr_cut_units.proofs.GoodTable.{KnownArguments, good_widened, good_at}

-- ---- units with state
good_delayed : (v w c : ℕ) (x : List Slice) → AreOperands v x → GoodPart v (delayed w c x v)
good_delayed v w c x h = good_unit v (slices_of w) _ (λ i. record {
  reads = record { a = (operand_at v x i h).before; hi = tt; lo = tt; c = tt };
  bytes = record { a = (operand_at v x i h).byte; mask = omega arith; init = omega arith };
}) (λ i. tt)

later_good : (v init before i : ℕ) → IsGood v (later_cell init before i)
later_good v init before i = record { reads = record { a = tt; hi = tt; lo = tt; c = tt }; bytes = record { a = tt; mask = omega arith; init = omega arith } }

-- the units of a list, each of them good wherever it stands
pub record GoodAnywhere (ks : List Cell) : Type 0 where
  pub cells : (v : ℕ) → AllGood v ks
  pub head : HasHead ks

each_order : (f : ℕ → List Cell) → ((j : ℕ) → GoodAnywhere (f j)) → (v a n : ℕ) → AreInOrder v (map f (range_with_len a n))
each_order f h v a zero = tt
each_order f h v a (suc n) = (all_before v (f a) ((h a).cells v), each_order f h (suc v) (a + 1) n)

each_bytes : (f : ℕ → List Cell) → ((j : ℕ) → GoodAnywhere (f j)) → (a n : ℕ) → UnitsHaveBytes (map f (range_with_len a n))
each_bytes f h a zero = tt
each_bytes f h a (suc n) = (all_bytes 0 (f a) ((h a).cells 0), each_bytes f h (a + 1) n)

each_heads : (f : ℕ → List Cell) → ((j : ℕ) → GoodAnywhere (f j)) → (a n : ℕ) → HaveHeads (map f (range_with_len a n))
each_heads f h a zero = tt
each_heads f h a (suc n) = ((h a).head, each_heads f h (a + 1) n)

good_holds : (v w init k : ℕ) (x : List Slice) → AreOperands v x → GoodPart v (hold_units w init k x v)
good_holds v w init k x h =
    let f = λ (j : ℕ). each (slices_of w) (later_cell init (v + j)) in
    let good : (j : ℕ) → GoodAnywhere (f j) = λ j. record { cells = λ u. all-each u (slices_of w) (later_cell init (v + j)) (λ i. later_good u init (v + j) i); head = head_of (later_cell init (v + j)) (λ i. tt) (slices_of w) } in
    let first : AllGood v (each (slices_of w) (hold_cell w init x)) = all-each v (slices_of w) (hold_cell w init x) (λ i. record {
      reads = record { a = (operand_at v x i h).before; hi = tt; lo = tt; c = tt };
      bytes = record { a = (operand_at v x i h).byte; mask = top_small w i; init = omega arith };
    }) in
    record {
      order = (all_before v _ first, each_order f good (suc v) 0 (k - 1));
      bytes = (all_bytes v _ first, each_bytes f good 0 (k - 1));
      heads = (head_of (hold_cell w init x) (λ i. tt) (slices_of w), each_heads f good 0 (k - 1));
      slices = operands-each _ (slices_of w) (λ i. Slice.Of v i) (λ i. record { before = omega arith; byte = tt });
    }
  where
    head_of : (cell : ℕ → Cell) → ((i : ℕ) → BeginsFresh (cell i).cin) → (n : ℕ) → HasHead (each n cell)
    head_of cell f zero = tt
    head_of cell f (suc n) = f 0

good_held : (v w init k : ℕ) (body : Argument) → AreOperands v body.slices → GoodPart v (held w init k body v)
good_held v w init k body h =
    let p = good_widened v body w h in
    good_then v (widened body w) (λ x. hold_units w init k x) p (good_holds _ w init k _ p.slices)

-- ---- operands of equations
abbrev pub AllValues : ℕ → List (List Slice) → Type 0
AllValues n [] = Unit {0}
AllValues n (x ∷ values) = AreOperands n x × AllValues n values

value_at : (n : ℕ) (values : List (List Slice)) (i : ℕ) → AllValues n values → AreOperands n (slice_index_or values i [])
value_at n [] i h = tt
value_at n (x ∷ values) zero h = h.0
value_at n (x ∷ values) (suc i) h = value_at n values i h.1

values_more : (n m : ℕ) (values : List (List Slice)) → n ≤ m → AllValues n values → AllValues m values
values_more n m [] l h = tt
values_more n m (x ∷ values) l h = (operands_more n m x l h.0, values_more n m values l h.1)

values_push : (n : ℕ) (values : List (List Slice)) (x : List Slice) → AllValues n values → AreOperands n x → AllValues n (values ++ x ∷ [])
values_push n [] x h k = (k, tt)
values_push n (y ∷ values) x h k = (h.0, values_push n values x h.1 k)

bytes_known : (v k c : ℕ) → AreOperands v (map (λ b. Slice.Const b) (bytes_of k c))
bytes_known v zero c = tt
bytes_known v (suc k) c = (record { before = tt; byte = omega arith }, bytes_known v k (c / 256))

pub operand_known : (plan : UnitPlan) (values : List (List Slice)) (n : ℕ) (a : Operand) → AllValues n values → AreOperands n (operand_slices plan values a)
operand_known plan values n (Operand.Const c) h = bytes_known n (slices_of (number_width c)) c
operand_known plan values n (Operand.Eq i) h = value_at n values i h
operand_known plan values n (Operand.Past rec k) h = operands-each n _ _ (λ i. record { before = tt; byte = tt })

-- every operand of these equations has a width
abbrev pub WideOperands : List ℕ → List Operand → Type 0
WideOperands widths [] = Unit {0}
WideOperands widths (a ∷ args) = (1 ≤ operand_width widths a) × WideOperands widths args

abbrev pub AllWide : List ℕ → List EquationShape → Type 0
AllWide widths [] = Unit {0}
AllWide widths (e ∷ equations) = WideOperands widths e.args × AllWide widths equations

arguments_known : (plan : UnitPlan) (values : List (List Slice)) (n : ℕ) (args : List Operand) (kinds : List Bool) → AllValues n values → WideOperands plan.widths args → KnownArguments n (arguments plan values args kinds)
arguments_known plan values n [] kinds h w = tt
arguments_known plan values n (a ∷ args) [] h w = tt
arguments_known plan values n (a ∷ args) (kind ∷ kinds) h w = ((operand_known plan values n a h, w.0), arguments_known plan values n args kinds h w.1)

good_equation : (plan : UnitPlan) (i v : ℕ) (op : Op) (args : List Argument) → (is_input op ≡ true → AreOperands v (input_slices plan i)) → KnownArguments v args → GoodPart v (equation_units plan i op args v)
good_equation plan i v Op.Input args h k = good_kept v (input_slices plan i) (h refl)
good_equation plan i v (Op.Delay c) (x ∷ []) h k = good_delayed v (slice_index plan.widths i) c x.slices k.0.0
good_equation plan i v (Op.Rec init first) (body ∷ []) h k = good_held v (slice_index plan.widths i) init (hold_count plan.equations i) body k.0.0
good_equation plan i v op args h k = good_at v (slice_index plan.widths i) op args k

-- ---- the fold
pub record GoodCut (plan : UnitPlan) (cut : Cut) : Type 0 where
  pub order : AreInOrder 0 cut.units
  pub bytes : UnitsHaveBytes cut.units
  pub heads : HaveHeads cut.units
  pub values : AllValues (length cut.units) cut.values
  pub inputs : count_by (λ (e : EquationShape). is_input e.op) plan.equations ≤ length cut.units

good_either : (v : ℕ) (b : Bool) (m n : Making) → GoodPart v (m v) → GoodPart v (n v) → GoodPart v ((if b then m else n) v)
good_either v true m n g h = g
good_either v false m n g h = h

input_before : (before rest : List EquationShape) (e : EquationShape) → is_input e.op ≡ true → count_by (λ (e : EquationShape). is_input e.op) (take (length before) (before ++ e ∷ rest)) < count_by (λ (e : EquationShape). is_input e.op) (before ++ e ∷ rest)
input_before [] rest e h =
    let f : Bool → ℕ = λ t. cond t 1 0 in
    let counted : EquationShape → ℕ = λ x. cond (is_input x.op) 1 0 in
    let one : f (is_input e.op) ≡ f true = ap f h in
    omega (arith, sum_by-cons counted e rest, one)
input_before (x ∷ before) rest e h =
    let counted : EquationShape → ℕ = λ x. cond (is_input x.op) 1 0 in
    omega (arith, sum_by-cons counted x (take (length before) (before ++ e ∷ rest)), sum_by-cons counted x (before ++ e ∷ rest), input_before before rest e h)

pub good_next : (plan : UnitPlan) (cut : Cut) (before rest : List EquationShape) (e : EquationShape) → plan.equations ≡ before ++ e ∷ rest → length cut.values ≡ length before → WideOperands plan.widths e.args → GoodCut plan cut → GoodCut plan (cut_next plan cut e)
good_next plan cut before rest e is long w g =
    let n : ℕ = length cut.units in
    let i : ℕ = length cut.values in
    let count = λ (es : List EquationShape). count_by (λ (e : EquationShape). is_input e.op) es in
    let known = arguments_known plan cut.values n e.args e.kinds g.values w in
    let own : is_input e.op ≡ true → count (take i plan.equations) < n = λ h.
    (let l : count (take i plan.equations) < count plan.equations = rw (is, long) (input_before before rest e h) in omega (arith, l, g.inputs)) in
    let p : GoodPart n (next_units plan cut e n) = good_either n (has_units plan i e) (equation_units plan i e.op (arguments plan cut.values e.args e.kinds)) (kept [])
    (good_equation plan i n e.op (arguments plan cut.values e.args e.kinds) (λ h. operands-each n _ _ (λ j. record { before = own h; byte = tt })) known)
    (good_kept n [] tt) in
    let us = (next_units plan cut e n).units in
    let more : length (cut.units ++ us) ≡ n + length us = length-append cut.units us in
    record {
      order = order-append 0 cut.units us g.order (subst (λ (k : ℕ). AreInOrder k us) (omega arith) p.order);
      bytes = bytes-append cut.units us g.bytes p.bytes;
      heads = heads-append cut.units us g.heads p.heads;
      values = subst (λ (k : ℕ). AllValues k (cut.values ++ (next_units plan cut e n).slices ∷ [])) (sym more) (values_push (n + length us) cut.values (next_units plan cut e n).slices (values_more n (n + length us) cut.values (omega arith) g.values) p.slices);
      inputs = omega (arith, g.inputs, more);
    }

pub good_after : (plan : UnitPlan) (cut : Cut) (before rest : List EquationShape) → plan.equations ≡ before ++ rest → length cut.values ≡ length before → AllWide plan.widths rest → GoodCut plan cut → GoodCut plan (cut_after plan cut rest)
good_after plan cut before [] is long w g = g
good_after plan cut before (e ∷ rest) is long w g = good_after plan (cut_next plan cut e) (before ++ e ∷ []) rest
    (is ∙ sym (append_assoc before (e ∷ []) rest))
    (length-append cut.values ((next_units plan cut e (length cut.units)).slices ∷ []) ∙ omega (arith, long, length-append before (e ∷ [])))
    w.1 (good_next plan cut before rest e is long w.0 g)

inputs_order : (v offset : ℕ) (widths : List ℕ) → AreInOrder v (input_units offset widths)
inputs_order v offset [] = tt
inputs_order v offset (w ∷ widths) = ((good_input v w offset).order.0, inputs_order (suc v) (offset + slices_of w) widths)
  where
    good_input : (v w offset : ℕ) → GoodPart v (input_unit w offset v)
    good_input v w offset = good_unit v (slices_of w) _ (λ i. record { reads = record { a = tt; hi = tt; lo = tt; c = tt }; bytes = record { a = tt; mask = top_small w i; init = omega arith } }) (λ i. tt)

inputs_bytes : (offset : ℕ) (widths : List ℕ) → UnitsHaveBytes (input_units offset widths)
inputs_bytes offset [] = tt
inputs_bytes offset (w ∷ widths) = ((good_input w offset).bytes.0, inputs_bytes (offset + slices_of w) widths)
  where
    good_input : (w offset : ℕ) → GoodPart 0 (input_unit w offset 0)
    good_input w offset = good_unit 0 (slices_of w) _ (λ i. record { reads = record { a = tt; hi = tt; lo = tt; c = tt }; bytes = record { a = tt; mask = top_small w i; init = omega arith } }) (λ i. tt)

inputs_heads : (offset : ℕ) (widths : List ℕ) → HaveHeads (input_units offset widths)
inputs_heads offset [] = tt
inputs_heads offset (w ∷ widths) = ((good_input w offset).heads.0, inputs_heads (offset + slices_of w) widths)
  where
    good_input : (w offset : ℕ) → GoodPart 0 (input_unit w offset 0)
    good_input w offset = good_unit 0 (slices_of w) _ (λ i. record { reads = record { a = tt; hi = tt; lo = tt; c = tt }; bytes = record { a = tt; mask = top_small w i; init = omega arith } }) (λ i. tt)

pub inputs_count : (offset : ℕ) (equations : List EquationShape) → length (input_units offset (input_widths equations)) ≡ count_by (λ (e : EquationShape). is_input e.op) equations
inputs_count offset [] = refl
inputs_count offset (e ∷ equations) = go (is_input e.op) (λ (o : ℕ). inputs_count o equations) ∙ sym (sum_by-cons counted e equations)
  where
    counted : EquationShape → ℕ
    counted x = cond (is_input x.op) 1 0

    go : (b : Bool) → ((o : ℕ) → length (input_units o (input_widths equations)) ≡ count_by (λ (e : EquationShape). is_input e.op) equations) → length (input_units offset (cond b (unwrap_or e.declared 0 ∷ input_widths equations) (input_widths equations))) ≡ cond b 1 0 + count_by (λ (e : EquationShape). is_input e.op) equations
    go true ih = omega (arith, ih (offset + slices_of (unwrap_or e.declared 0)))
    go false ih = omega (arith, ih offset)

-- the units of all equations are in order, begin without a carry, and have fields of bytes
pub good_whole : (plan : UnitPlan) → AllWide plan.widths plan.equations → GoodCut plan (cut_whole plan)
good_whole plan w = good_after plan (cut_start plan.equations) [] plan.equations refl refl w (record {
  order = inputs_order 0 0 (input_widths plan.equations);
  bytes = inputs_bytes 0 (input_widths plan.equations);
  heads = inputs_heads 0 (input_widths plan.equations);
  values = tt;
  inputs = omega (arith, inputs_count 0 plan.equations);
})
