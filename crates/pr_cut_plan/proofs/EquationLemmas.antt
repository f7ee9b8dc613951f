-- Equations as they are counted: forms of operands, inputs, and widths.
use Rattle.std.proofs.Common.{◌≡◌, ◌<◌, ◌≤◌, ℕ, zero, suc, ◌+◌, ◌&&◌, Bool, true, false, cond, Option, Some, None, List, [], ◌∷◌, length, drop, get_or, unwrap_or, refl, sym, ap, ◌∙◌, arith, add-one, drop-cons}
use Rattle.std.specs.Prelude.{count_by, slice_index, slice_index_or, All, not}
use Rattle.std.specs.List.{slice_get, list_all, sum_by}
use Rattle.std.specs.Option.{is_some}
use Rattle.std.proofs.lemmas.Bool.{and_parts, ltb-true, false≢true}
use Rattle.std.proofs.lemmas.Option.{slice_get_within}
use Rattle.std.proofs.lemmas.List.Sums.{sum_by-cons}
use Rattle.pr_base.specs.Numbers.{slices_of}
use Rattle.pr_flat.specs.declared.equations.Equation.{Equation}
use Rattle.pr_flat.specs.Shape.{EquationShape, equation_shape, shapes_of}
use Rattle.pr_flat.specs.declared.equations.Operand.{Operand}
use Rattle.pr_flat.specs.declared.equations.Op.{Op}
use Rattle.pr_flat.specs.declared.forms.Form.{Form}
use Rattle.pr_flat.specs.Forms.{IsForm}
use Rattle.pr_flat.specs.Facts.{arity, is_input, is_rec, has_lawful_ends, is_lawful_operand, IsFlat}
use Rattle.pr_flat.specs.Rows.{takes, natural_width}
use Rattle.pr_flat.specs.Widths.{operand_width, operand_forms, forms_in, settled_width, AreWidths}
use Rattle.pr_flat.proofs.WidthLemmas.{past_of}
use Rattle.pr_width.specs.Reads.{is_within}
use Rattle.pr_width.proofs.OperandLemmas.{one_form}
use Rattle.pr_width.proofs.SolverLemmas.{shape_at, lawful_at}
use Rattle.pr_cut_units.specs.Counts.{widening_count, body_count, count_at}
use Rattle.pr_cut_units.specs.Equations.{own_count}
use Rattle.pr_cut_units.proofs.GoodNets.{WideOperands}
use Rattle.pr_cut_units.proofs.WideNets.{equation_counted}
use Rattle.pr_cut_units.proofs.EndNets.{widths_most, output_bounds}
use Rattle.pr_flat.specs.Values.{input_widths}

abbrev pub inputs_in : List EquationShape → ℕ
inputs_in es = count_by (λ (e : EquationShape). is_input e.op) es

pub inputs_rest : (es : List Equation) (i : ℕ) (d : Equation) (n : ℕ) (b : Bool) → i < length es → b ≡ is_input (get_or es i d).op → cond b (n + 1) n + inputs_in (shapes_of (drop (i + 1) es)) ≡ n + inputs_in (shapes_of (drop i es))
inputs_rest es i d n b l e = go b e
  where
    rest : List EquationShape
    rest = shapes_of (drop (suc i) es)

    one : inputs_in (shapes_of (drop i es)) ≡ cond (is_input (get_or es i d).op) 1 0 + inputs_in rest
    one = ap (λ (xs : List Equation). inputs_in (shapes_of xs)) (drop-cons es i d l) ∙ sum_by-cons (λ (x : EquationShape). cond (is_input x.op) 1 0) (equation_shape (get_or es i d)) rest

    next : inputs_in (shapes_of (drop (i + 1) es)) ≡ inputs_in rest
    next = ap (λ (k : ℕ). inputs_in (shapes_of (drop k es))) (add-one i)

    unit : ℕ
    unit = 1

    none : ℕ
    none = 0

    go : (b : Bool) → b ≡ is_input (get_or es i d).op → cond b (n + 1) n + inputs_in (shapes_of (drop (i + 1) es)) ≡ n + inputs_in (shapes_of (drop i es))
    go true q = let c = ap (λ (t : Bool). cond t unit none) q in omega (arith, one, next, c)
    go false q = let c = ap (λ (t : Bool). cond t unit none) q in omega (arith, one, next, c)

abbrev pub bytes_in : List EquationShape → ℕ
bytes_in es = sum_by slices_of (input_widths es)

pub bytes_rest : (es : List Equation) (i : ℕ) (d : Equation) (n : ℕ) (b : Bool) → i < length es → b ≡ is_input (get_or es i d).op → cond b (n + slices_of (unwrap_or (get_or es i d).declared 0)) n + bytes_in (shapes_of (drop (i + 1) es)) ≡ n + bytes_in (shapes_of (drop i es))
bytes_rest es i d n b l e = go b e
  where
    rest : List EquationShape
    rest = shapes_of (drop (suc i) es)

    w : ℕ
    w = unwrap_or (get_or es i d).declared 0

    one : bytes_in (shapes_of (drop i es)) ≡ sum_by slices_of (cond (is_input (get_or es i d).op) (w ∷ input_widths rest) (input_widths rest))
    one = ap (λ (xs : List Equation). bytes_in (shapes_of xs)) (drop-cons es i d l)

    next : bytes_in (shapes_of (drop (i + 1) es)) ≡ bytes_in rest
    next = ap (λ (k : ℕ). bytes_in (shapes_of (drop k es))) (add-one i)

    more : sum_by slices_of (w ∷ input_widths rest) ≡ slices_of w + sum_by slices_of (input_widths rest)
    more = sum_by-cons slices_of w (input_widths rest)

    go : (b : Bool) → b ≡ is_input (get_or es i d).op → cond b (n + slices_of w) n + bytes_in (shapes_of (drop (i + 1) es)) ≡ n + bytes_in (shapes_of (drop i es))
    go true q = let c = ap (λ (t : Bool). sum_by slices_of (cond t (w ∷ input_widths rest) (input_widths rest))) q in omega (arith, one, next, c, more)
    go false q = let c = ap (λ (t : Bool). sum_by slices_of (cond t (w ∷ input_widths rest) (input_widths rest))) q in omega (arith, one, next, c)

-- ---- forms of operands
pub body_one : (w : ℕ) (forms : List Form) (f : Form) (n : ℕ) → length forms ≡ 1 → slice_get forms 0 ≡ Some f → n ≡ widening_count f w → n ≡ body_count w forms
body_one w forms f n long there e = e ∙ ap (body_count w) (sym (one_form forms f long there))

pub body_none : (w : ℕ) (forms : List Form) (k : ℕ) → length forms ≡ k → (k ≡ 1 → ⊥) → 0 ≡ body_count w forms
body_none w [] k long other = refl
body_none w (f ∷ []) k long other = absurd (other (sym long))
body_none w (f ∷ g ∷ forms) k long other = refl

pub three_forms : (forms : List Form) (c f g : Form) → length forms ≡ 3 → slice_get forms 0 ≡ Some c → slice_get forms 1 ≡ Some f → slice_get forms 2 ≡ Some g → forms ≡ c ∷ f ∷ g ∷ []
three_forms [] c f g count there next last = absurd (omega arith)
three_forms (a ∷ []) c f g count there next last = absurd (omega arith)
three_forms (a ∷ b ∷ []) c f g count there next last = absurd (omega arith)
three_forms (x ∷ a ∷ b ∷ []) c f g count there next last = cc
three_forms (x ∷ a ∷ b ∷ d ∷ forms) c f g count there next last = absurd (omega arith)

-- ---- what is known of an equation and its operands
abbrev pub FewOperands : List ℕ → List Operand → Type 0
FewOperands widths [] = Unit {0}
FewOperands widths (a ∷ args) = (operand_width widths a ≤ 128) × FewOperands widths args

few_operand : (equations : List EquationShape) (outputs : List Operand) (widths : List ℕ) (i : ℕ) → IsFlat equations outputs → AreWidths equations widths → i < length equations → (a : Operand) → is_lawful_operand equations i a ≡ true → operand_width widths a ≤ 128
few_operand equations outputs widths i flat wide l (Operand.Const c) h = (output_bounds equations outputs widths flat wide (Operand.Const c) h).1
few_operand equations outputs widths i flat wide l (Operand.Eq j) h = widths_most equations outputs widths flat wide j (let s = ltb-true j i h in omega (arith, s, l))
few_operand equations outputs widths i flat wide l (Operand.Past rec k) h = let p = past_of equations i rec k h in widths_most equations outputs widths flat wide rec (slice_get_within equations rec p.equation p.there)

few_operands : (equations : List EquationShape) (outputs : List Operand) (widths : List ℕ) (i : ℕ) → IsFlat equations outputs → AreWidths equations widths → i < length equations → (args : List Operand) → list_all (is_lawful_operand equations i) args ≡ true → FewOperands widths args
few_operands equations outputs widths i flat wide l [] h = tt
few_operands equations outputs widths i flat wide l (a ∷ args) h =
    let p = and_parts (is_lawful_operand equations i a) (list_all (is_lawful_operand equations i) args) h in
    (few_operand equations outputs widths i flat wide l a p.0, few_operands equations outputs widths i flat wide l args p.1)

are_forms : (widths : List ℕ) (args : List Operand) (kinds : List Bool) → WideOperands widths args → FewOperands widths args → (k : ℕ) (d : Form) → k < length (operand_forms widths args kinds) → IsForm (slice_index_or (operand_forms widths args kinds) k d)
are_forms widths [] kinds w f k d l = absurd (omega (arith, l))
are_forms widths (a ∷ args) [] w f k d l = absurd (omega (arith, l))
are_forms widths (a ∷ args) (kind ∷ kinds) w f zero d l = record { positive = w.0; greatest = f.0 }
are_forms widths (a ∷ args) (kind ∷ kinds) w f (suc k) d l = are_forms widths args kinds w.1 f.1 k d (omega (arith, l))

taken_by : (b : Bool) (o : Option ℕ) (natural w : ℕ) → cond b (settled_width o natural) None ≡ Some w → b ≡ true
taken_by true o natural w e = refl
taken_by false o natural w e = cc

pub record IsReadAt (equations : List EquationShape) (widths : List ℕ) (i : ℕ) (x : Equation) : Type 0 where
  pub there : slice_get equations i ≡ Some (equation_shape x)
  pub args : length x.args.items ≡ arity x.op
  pub kinds : length x.kinds.items ≡ arity x.op
  pub ends : has_lawful_ends x.op ≡ true
  pub within : list_all (is_within (length widths)) x.args.items ≡ true
  pub few : slice_index widths i ≤ 128
  pub forms : All IsForm (forms_in widths (equation_shape x))
  pub takes : is_rec x.op ≡ false → takes x.op (forms_in widths (equation_shape x)) ≡ true

pub read_at : (equations : List Equation) (outputs : List Operand) (widths : List ℕ) (i : ℕ) (x : Equation) → IsFlat (shapes_of equations) outputs → AreWidths (shapes_of equations) widths → i < length equations → x ≡ get_or equations i x → IsReadAt (shapes_of equations) widths i x
read_at equations outputs widths i x flat wide l is =
    let lawful = lawful_at equations outputs i (length widths) x flat wide.count l is in
    let there = shape_at equations i x l is in
    let low : i < length (shapes_of equations) = slice_get_within (shapes_of equations) i (equation_shape x) there in
    let counted = equation_counted (shapes_of equations) outputs outputs widths i (equation_shape x) flat wide there in
    let args : list_all (is_lawful_operand (shapes_of equations) i) x.args.items ≡ true = flat.operands i (equation_shape x) there in
    record {
      there = there;
      args = lawful.args;
      kinds = lawful.kinds;
      ends = lawful.ends;
      within = lawful.within;
      few = widths_most (shapes_of equations) outputs widths flat wide i low;
      forms = are_forms widths x.args.items x.kinds.items counted.wide (few_operands (shapes_of equations) outputs widths i flat wide low x.args.items args);
      takes = λ r. taken_by (takes x.op (forms_in widths (equation_shape x))) x.declared (natural_width x.op (forms_in widths (equation_shape x))) (slice_index widths i)
          (wide.each i (equation_shape x) there low (ap (λ (b : Bool). b && not (is_some x.declared)) r));
    }

-- the units of an equation, by what it does
pub own_at : (equations : List EquationShape) (widths : List ℕ) (i n : ℕ) (x : EquationShape) (op : Op) → slice_get equations i ≡ Some x → x.op ≡ op → n ≡ own_count equations widths i x op → (e : EquationShape) → slice_get equations i ≡ Some e → n ≡ own_count equations widths i e e.op
own_at equations widths i n x op there is e d at =
    let same : x ≡ d = cc in
    e ∙ ap (λ (o : Op). own_count equations widths i x o) (sym is) ∙ ap (λ (y : EquationShape). own_count equations widths i y y.op) same

abbrev pub is_plain : Op → Bool
is_plain Op.Input = false
is_plain (Op.Delay c) = false
is_plain (Op.Rec init first) = false
is_plain op = true

pub plain_count : (equations : List EquationShape) (widths : List ℕ) (i : ℕ) (e : EquationShape) (op : Op) → is_plain op ≡ true → own_count equations widths i e op ≡ count_at (slice_index widths i) op (forms_in widths e)
plain_count equations widths i e Op.Input h = absurd (false≢true h)
plain_count equations widths i e (Op.Delay c) h = absurd (false≢true h)
plain_count equations widths i e (Op.Rec init first) h = absurd (false≢true h)
plain_count equations widths i e op h = refl

pub plain_op : (op : Op) → (op ≡ Op.Input → ⊥) → ((c : ℕ) → op ≡ Op.Delay c → ⊥) → ((init first : ℕ) → op ≡ Op.Rec init first → ⊥) → is_plain op ≡ true
plain_op Op.Input i d r = absurd (i refl)
plain_op (Op.Delay c) i d r = absurd (d c refl)
plain_op (Op.Rec init first) i d r = absurd (r init first refl)
plain_op op i d r = refl
