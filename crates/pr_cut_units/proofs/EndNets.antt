-- Inputs and outputs of the net of flat equations.
use Rattle.std.proofs.Common.{◌≡◌, ◌<◌, ◌≤◌, ℕ, zero, suc, ◌+◌, ◌^◌, ◌&&◌, ◌||◌, Bool, true, false, cond, not, nat_le, nat_lt, Option, Some, None, unwrap_or, List, [], ◌∷◌, ◌++◌, length, get_or, refl, subst, sym, ap, ◌∙◌, arith, append_assoc, length-append, inl, inr}
use Rattle.std.specs.Prelude.{slice_index}
use Rattle.std.specs.Bool.{if◌then◌else◌}
use Rattle.std.specs.List.{slice_get, list_any, sum_by}
use Rattle.std.proofs.lemmas.Bool.{cases_Bool, and_parts, leb-true, ltb-true, false≢true, or_left, or_right, ltb-false}
use Rattle.std.specs.Option.{is_some}
use Rattle.std.proofs.lemmas.Option.{slice_get_within}
use Rattle.std.proofs.lemmas.List.{append-nil, length-map}
use Rattle.std.proofs.lemmas.List.FromFn.{length-map-range_with_len}
use Rattle.pr_base.specs.Numbers.{slices_of, bytes_of}
use Rattle.pr_base.specs.declared.caps.Cap.{Cap}
use Rattle.pr_base.proofs.RowLemmas.{length-bytes_of}
use Rattle.pr_flat.specs.declared.equations.Operand.{Operand}
use Rattle.pr_flat.specs.declared.equations.Op.{Op}
use Rattle.pr_flat.specs.Forms.{least_from, number_width}
use Rattle.pr_flat.specs.Rows.{takes, natural_width}
use Rattle.pr_flat.specs.Shape.{EquationShape}
use Rattle.pr_flat.specs.Facts.{arity, is_input, is_rec, is_width, has_lawful_width, is_lawful_output, reads_equation, IsFlat}
use Rattle.pr_flat.specs.Widths.{operand_width, forms_in, settled_width, is_open, AreWidths}
use Rattle.pr_flat.specs.Values.{input_widths}
use Rattle.pr_flat.proofs.WidthLemmas.{equation_at}
use Rattle.pr_net.specs.declared.cells.Slice.{Slice}
use Rattle.pr_net.specs.Shape.{NetShape}
use Rattle.pr_cut_units.specs.Parts.{kept}
use Rattle.pr_cut_units.specs.Widening.{Argument}
use Rattle.pr_cut_units.specs.Reached.{is_read, reached_from}
use Rattle.pr_cut_units.specs.Equations.{UnitPlan, plan_of, operand_slices, arguments, equation_units, Cut, has_units, next_units, cut_next, cut_after, cut_start, cut_whole}
use Rattle.pr_cut_units.specs.Nets.{limit_passed}
use Rattle.pr_cut_units.proofs.CountNets.{IsCounted, AreCounted, length-arguments}
use Rattle.pr_cut_units.proofs.WideNets.{Rest, rest_more, rest_first, widths_some}

-- ---- inputs
pub inputs_some : (equations : List EquationShape) → list_any (λ (e : EquationShape). is_input e.op) equations ≡ true → 0 < length (input_widths equations)
inputs_some [] h = absurd (false≢true h)
inputs_some (e ∷ equations) h = go (is_input e.op) h (inputs_some equations)
  where
    go : (b : Bool) → (b || list_any (λ (e : EquationShape). is_input e.op) equations) ≡ true → (list_any (λ (e : EquationShape). is_input e.op) equations ≡ true → 0 < length (input_widths equations)) → 0 < length (cond b (unwrap_or e.declared 0 ∷ input_widths equations) (input_widths equations))
    go true q ih = omega arith
    go false q ih = ih q

input_declared : (op : Op) (o : Option ℕ) → is_input op ≡ true → has_lawful_width op o ≡ true → is_width (unwrap_or o 0) ≡ true
input_declared Op.Input None i h = absurd (false≢true h)
input_declared Op.Input (Some w) i h = h
input_declared op o i h = absurd (false≢true i)

width_bounds : (w : ℕ) → is_width w ≡ true → (0 < w) × (w ≤ 128)
width_bounds w h = let t = and_parts (nat_le 1 w) (nat_le w 128) h in (leb-true 1 w t.0, leb-true w 128 t.1)

pub input_bounds : (equations : List EquationShape) (i : ℕ) (rest : List EquationShape) → ((j : ℕ) (e : EquationShape) → slice_get equations j ≡ Some e → has_lawful_width e.op e.declared ≡ true) → Rest equations i rest → (u : ℕ) → u < length (input_widths rest) → (0 < slice_index (input_widths rest) u) × (slice_index (input_widths rest) u ≤ 128)
input_bounds equations i [] h r u l = absurd (omega (arith, l))
input_bounds equations i (e ∷ rest) h r u l = go (is_input e.op) refl u l (λ v k. input_bounds equations (suc i) rest h (rest_more equations i e rest r) v k)
  where
    go : (b : Bool) → is_input e.op ≡ b → (u : ℕ) → u < length (cond b (unwrap_or e.declared 0 ∷ input_widths rest) (input_widths rest)) → ((v : ℕ) → v < length (input_widths rest) → (0 < slice_index (input_widths rest) v) × (slice_index (input_widths rest) v ≤ 128)) → (0 < slice_index (cond b (unwrap_or e.declared 0 ∷ input_widths rest) (input_widths rest)) u) × (slice_index (cond b (unwrap_or e.declared 0 ∷ input_widths rest) (input_widths rest)) u ≤ 128)
    go true q zero k ih = width_bounds (unwrap_or e.declared 0) (input_declared e.op e.declared q (h i e (rest_first equations i e rest r)))
    go true q (suc u) k ih = ih u (omega (arith, k))
    go false q u k ih = ih u k

-- ---- limits
pub record InLimits (columns : ℕ) (net : NetShape) : Type 0 where
  pub room : sum_by slices_of net.inputs ≤ columns
  pub outputs : length net.outputs ≤ 64
  pub units : length net.units ≤ 32768

some_none : (c : Cap) → Some c ≡ None → ⊥
some_none c h = cc

pub in_limits : (columns : ℕ) (net : NetShape) → limit_passed columns net ≡ None → InLimits columns net
in_limits columns net h = go (nat_lt columns (sum_by slices_of net.inputs)) (nat_lt 64 (length net.outputs)) (nat_lt 32768 (length net.units)) refl refl refl h
  where
    go : (a b c : Bool) → nat_lt columns (sum_by slices_of net.inputs) ≡ a → nat_lt 64 (length net.outputs) ≡ b → nat_lt 32768 (length net.units) ≡ c
        → (if a then Some Cap.InputBytes else (if b then Some Cap.Outputs else (if c then Some Cap.Units else None))) ≡ None → InLimits columns net
    go true b c x y t q = absurd (some_none Cap.InputBytes q)
    go false true c x y t q = absurd (some_none Cap.Outputs q)
    go false false true x y t q = absurd (some_none Cap.Units q)
    go false false false x y t q = record {
      room = (let k = ltb-false columns (sum_by slices_of net.inputs) x in omega (arith, k));
      outputs = (let k = ltb-false 64 (length net.outputs) y in omega (arith, k));
      units = (let k = ltb-false 32768 (length net.units) t in omega (arith, k));
    }

-- ---- widths are at most 128
lawful_most : (op : Op) (w : ℕ) → has_lawful_width op (Some w) ≡ true → w ≤ 128
lawful_most (Op.Delay c) w h = absurd (false≢true h)
lawful_most (Op.Rec init first) w h = (width_bounds w (and_parts (is_width w) (nat_lt init (2 ^ w)) h).0).1
lawful_most op w h = (width_bounds w h).1

settled_most : (b : Bool) (o : Option ℕ) (natural w : ℕ) → cond b (settled_width o natural) None ≡ Some w → ((v : ℕ) → o ≡ Some v → v ≤ 128) → w ≤ 128
settled_most true (Some v) natural w e h = let same : v ≡ w = cc in omega (arith, same, h v refl)
settled_most true None natural w e h = go (nat_le natural 128) refl e
  where
    go : (t : Bool) → nat_le natural 128 ≡ t → cond t (Some natural) None ≡ Some w → w ≤ 128
    go true is q = let same : natural ≡ w = cc in let k = leb-true natural 128 is in omega (arith, same, k)
    go false is q = cc
settled_most false o natural w e h = cc

pub widths_most : (equations : List EquationShape) (outputs : List Operand) (widths : List ℕ) → IsFlat equations outputs → AreWidths equations widths → (i : ℕ) → i < length equations → slice_index widths i ≤ 128
widths_most equations outputs widths flat wide i l =
    let at = equation_at equations i l in
    let e = at.0 in
    elim (cases_Bool (is_open e)) [
      | inl o ↦ open_width i e at.1 o e.op refl
      | inr c ↦ settled_most (takes e.op (forms_in widths e)) e.declared (natural_width e.op (forms_in widths e)) (slice_index widths i) (wide.each i e at.1 l c)
          (λ v d. lawful_most e.op v (subst (λ (o : Option ℕ). has_lawful_width e.op o ≡ true) d (flat.widths i e at.1)))
    ]
  where
    open_width : (i : ℕ) (e : EquationShape) → slice_get equations i ≡ Some e → is_open e ≡ true → (op : Op) → e.op ≡ op → slice_index widths i ≤ 128
    open_width i e there o (Op.Rec init first) is = (wide.recurrences i e there init first (slice_get_within equations i e there) o is).holds.greatest
    open_width i e there o op is = absurd (let P : Op → Type 0 = λ q. (is_rec q && not (is_some e.declared)) ≡ true in let none = subst P is o in false≢true none)

number_bounds : (n : ℕ) → (1 ≤ number_width n) × (number_width n ≤ 64)
unfolding number_width
number_bounds n = go 64 1 (omega arith) (omega arith)
  where
    by_test : (at : ℕ) (o : Option ℕ) → (1 ≤ at) × (at ≤ 64) → (1 ≤ unwrap_or o 64) × (unwrap_or o 64 ≤ 64) → (b : Bool) → (1 ≤ unwrap_or (cond b (Some at) o) 64) × (unwrap_or (cond b (Some at) o) 64 ≤ 64)
    by_test at o h k true = h
    by_test at o h k false = k

    go : (k at : ℕ) → 1 ≤ at → at + k ≤ 65 → (1 ≤ unwrap_or (least_from k at (λ w. nat_lt n (2 ^ w))) 64) × (unwrap_or (least_from k at (λ w. nat_lt n (2 ^ w))) 64 ≤ 64)
    go zero at h l = (omega arith, omega arith)
    go (suc k) at h l = by_test at (least_from k (at + 1) (λ w. nat_lt n (2 ^ w))) (h, omega (arith, l)) (go k (at + 1) (omega arith) (omega (arith, l))) (nat_lt n (2 ^ at))

pub output_bounds : (equations : List EquationShape) (outputs : List Operand) (widths : List ℕ) → IsFlat equations outputs → AreWidths equations widths → (a : Operand) → is_lawful_output (length equations) a ≡ true → (0 < operand_width widths a) × (operand_width widths a ≤ 128)
output_bounds equations outputs widths flat wide (Operand.Const c) h = let t = number_bounds c in (omega (arith, t), omega (arith, t))
output_bounds equations outputs widths flat wide (Operand.Eq i) h = let l = ltb-true i (length equations) h in (widths_some equations outputs widths flat wide i l, widths_most equations outputs widths flat wide i l)
output_bounds equations outputs widths flat wide (Operand.Past rec k) h = absurd (false≢true h)

-- ---- a value has a slice for each byte of its width
pub units_long : (plan : UnitPlan) (i : ℕ) (op : Op) (args : List Argument) (u : ℕ) → length args ≡ arity op → length (equation_units plan i op args u).slices ≡ slices_of (slice_index plan.widths i)
units_long plan i Op.Input args u h = length-map-range_with_len _ 0 (slices_of (slice_index plan.widths i))
units_long plan i (Op.Delay c) (x ∷ []) u h = length-map-range_with_len _ 0 (slices_of (slice_index plan.widths i))
units_long plan i (Op.Delay c) [] u h = absurd (omega (arith, h))
units_long plan i (Op.Delay c) (x ∷ y ∷ args) u h = absurd (omega (arith, h))
units_long plan i (Op.Rec init first) (body ∷ []) u h = length-map-range_with_len _ 0 (slices_of (slice_index plan.widths i))
units_long plan i (Op.Rec init first) [] u h = absurd (omega (arith, h))
units_long plan i (Op.Rec init first) (x ∷ y ∷ args) u h = absurd (omega (arith, h))
units_long plan i op args u h = length-map-range_with_len _ 0 (slices_of (slice_index plan.widths i))

-- the slices of equations that these add
abbrev pub values_added : UnitPlan → Cut → List EquationShape → List (List Slice)
values_added plan cut [] = []
values_added plan cut (e ∷ rest) = (next_units plan cut e (length cut.units)).slices ∷ values_added plan (cut_next plan cut e) rest

pub values_are : (plan : UnitPlan) (cut : Cut) (rest : List EquationShape) → (cut_after plan cut rest).values ≡ cut.values ++ values_added plan cut rest
values_are plan cut [] = sym (append-nil cut.values)
values_are plan cut (e ∷ rest) = values_are plan (cut_next plan cut e) rest ∙ append_assoc cut.values ((next_units plan cut e (length cut.units)).slices ∷ []) (values_added plan (cut_next plan cut e) rest)

next_long : (plan : UnitPlan) (cut : Cut) (e : EquationShape) → IsCounted plan (length cut.values) e → has_units plan (length cut.values) e ≡ true → length (next_units plan cut e (length cut.units)).slices ≡ slices_of (slice_index plan.widths (length cut.values))
next_long plan cut e c h = go (has_units plan (length cut.values) e) h
  where
    go : (b : Bool) → b ≡ true → length ((if b then equation_units plan (length cut.values) e.op (arguments plan cut.values e.args e.kinds) else kept []) (length cut.units)).slices ≡ slices_of (slice_index plan.widths (length cut.values))
    go true q = units_long plan (length cut.values) e.op (arguments plan cut.values e.args e.kinds) (length cut.units) (length-arguments plan cut.values e.args e.kinds (arity e.op) c.args c.kinds)
    go false q = absurd (false≢true q)

added_long : (plan : UnitPlan) (cut : Cut) (i : ℕ) (rest : List EquationShape) → length cut.values ≡ i → AreCounted plan i rest → (j : ℕ) (e : EquationShape) → slice_get rest j ≡ Some e → has_units plan (i + j) e ≡ true → length (get_or (values_added plan cut rest) j []) ≡ slices_of (slice_index plan.widths (i + j))
added_long plan cut i [] long c j e there h = cc
added_long plan cut i (d ∷ rest) long c zero e there h =
    let same : d ≡ e = cc in
    let z : i + 0 ≡ length cut.values = omega (arith, long) in
    next_long plan cut d (subst (λ (k : ℕ). IsCounted plan k d) (sym long) c.0) (subst (λ (q : EquationShape). has_units plan (length cut.values) q ≡ true) (sym same) (subst (λ (k : ℕ). has_units plan k e ≡ true) z h)) ∙ ap (λ (k : ℕ). slices_of (slice_index plan.widths k)) (sym z)
added_long plan cut i (d ∷ rest) long c (suc j) e there h =
    let z : i + suc j ≡ suc i + j = omega arith in
    let next : length (cut.values ++ (next_units plan cut d (length cut.units)).slices ∷ []) ≡ suc i = length-append cut.values ((next_units plan cut d (length cut.units)).slices ∷ []) ∙ omega (arith, long) in
    added_long plan (cut_next plan cut d) (suc i) rest next c.1 j e there (subst (λ (k : ℕ). has_units plan k e ≡ true) z h) ∙ ap (λ (k : ℕ). slices_of (slice_index plan.widths k)) (sym z)

-- what an output names has units
reached_at : (outputs : List Operand) (i : ℕ) (rest : List EquationShape) (j : ℕ) (e : EquationShape) → slice_get rest j ≡ Some e → list_any (reads_equation (i + j)) outputs ≡ true → get_or (reached_from outputs i rest) j false ≡ true
reached_at outputs i [] j e there h = cc
reached_at outputs i (d ∷ rest) zero e there h = let z : i + 0 ≡ i = omega arith in or_left (list_any (reads_equation i) outputs) (is_read i rest (reached_from outputs (suc i) rest)) (subst (λ (k : ℕ). list_any (reads_equation k) outputs ≡ true) z h)
reached_at outputs i (d ∷ rest) (suc j) e there h = let z : i + suc j ≡ suc i + j = omega arith in reached_at outputs (suc i) rest j e there (subst (λ (k : ℕ). list_any (reads_equation k) outputs ≡ true) z h)

output_units : (equations : List EquationShape) (outputs : List Operand) (widths : List ℕ) (i : ℕ) (e : EquationShape) → slice_get equations i ≡ Some e → list_any (reads_equation i) outputs ≡ true → has_units (plan_of equations widths outputs) i e ≡ true
output_units equations outputs widths i e there h =
    let z : i ≡ 0 + i = omega arith in
    or_right (is_input e.op) _ (reached_at outputs 0 equations i e there (subst (λ (k : ℕ). list_any (reads_equation k) outputs ≡ true) z h))

-- the value of an equation that has units has a slice for each byte of its width
pub value_long : (equations : List EquationShape) (outputs : List Operand) (widths : List ℕ) → AreCounted (plan_of equations widths outputs) 0 equations → (i : ℕ) (e : EquationShape) → slice_get equations i ≡ Some e → has_units (plan_of equations widths outputs) i e ≡ true → length (get_or (cut_whole (plan_of equations widths outputs)).values i []) ≡ slices_of (slice_index widths i)
value_long equations outputs widths c i e there made =
    let plan = plan_of equations widths outputs in
    let z : i ≡ 0 + i = omega arith in
    ap (λ (vs : List (List Slice)). length (get_or vs i [])) (values_are plan (cut_start equations) equations)
    ∙ added_long plan (cut_start equations) 0 equations refl c i e there (subst (λ (k : ℕ). has_units plan k e ≡ true) z made)
    ∙ ap (λ (k : ℕ). slices_of (slice_index widths k)) (sym z)

pub output_long : (equations : List EquationShape) (outputs : List Operand) (widths : List ℕ) → AreCounted (plan_of equations widths outputs) 0 equations → (a : Operand) → is_lawful_output (length equations) a ≡ true → ((i : ℕ) → a ≡ Operand.Eq i → list_any (reads_equation i) outputs ≡ true)
    → length (operand_slices (plan_of equations widths outputs) (cut_whole (plan_of equations widths outputs)).values a) ≡ slices_of (operand_width widths a)
output_long equations outputs widths c (Operand.Const k) h r = length-map (bytes_of (slices_of (number_width k)) k) (λ b. Slice.Const b) ∙ length-bytes_of (slices_of (number_width k)) k
output_long equations outputs widths c (Operand.Eq i) h r =
    let at = equation_at equations i (ltb-true i (length equations) h) in
    value_long equations outputs widths c i at.0 at.1 (output_units equations outputs widths i at.0 at.1 (r i refl))
output_long equations outputs widths c (Operand.Past rec k) h r = absurd (false≢true h)
