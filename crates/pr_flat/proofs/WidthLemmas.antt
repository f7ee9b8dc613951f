-- Widths, the equations before which they are settled, and what changes none of them.
use Rattle.std.proofs.Common.{◌≡◌, ◌≢◌, ℕ, zero, suc, ◌+◌, ◌<◌, ◌≤◌, Bool, true, false, cond, not, ◌&&◌, Option, Some, None, is_some, List, [], ◌∷◌, length, get_or, set, nat_le, ap, ap₂, refl, sym, ◌∙◌, subst, arith, inl, inr, get_or-set_other, get_or-set_same, length-set}
use Rattle.std.specs.List.{slice_get, list_all}
use Rattle.std.specs.Option.{option_map_or}
use Rattle.std.proofs.lemmas.Bool.{cases_lt, and_parts, ltb-true, cases_eq, leb-true}
use Rattle.std.proofs.lemmas.Option.{slice_get_within, slice_get-get_or}
use Rattle.pr_flat.specs.declared.equations.Operand.{Operand}
use Rattle.pr_flat.specs.declared.equations.Operand.TheVariants.{Const, Eq, Past}
use Rattle.pr_flat.specs.declared.equations.Op.{Op}
use Rattle.pr_flat.specs.declared.equations.Op.TheVariants.{Rec}
use Rattle.pr_flat.specs.declared.forms.Form.{Form}
use Rattle.pr_flat.specs.Rows.{takes, natural_width}
use Rattle.pr_flat.specs.Shape.{EquationShape, EachEquation}
use Rattle.pr_flat.specs.Facts.{is_rec, is_in_body, op_at, is_lawful_operand, IsBody, IsFlat}
use Rattle.pr_flat.specs.Widths.{operand_width, operand_forms, width_in, settled_width, is_open, AgreeBelow, IsLeast, AreWidthsBelow}

-- these widths give the operands the same widths
abbrev pub SameOperands : List ℕ → List ℕ → List Operand → Type 0
SameOperands widths others [] = Unit {0}
SameOperands widths others (a ∷ args) = (operand_width others a ≡ operand_width widths a) × SameOperands widths others args

operand_forms_same : (widths others : List ℕ) (args : List Operand) (kinds : List Bool) → SameOperands widths others args → operand_forms others args kinds ≡ operand_forms widths args kinds
operand_forms_same widths others [] kinds same = refl
operand_forms_same widths others (a ∷ args) [] same = refl
operand_forms_same widths others (a ∷ args) (kind ∷ kinds) same = ap₂ (λ (w : ℕ) (forms : List Form). record { signed = kind; width = w } ∷ forms) same.0 (operand_forms_same widths others args kinds same.1)

pub width_in_same : (widths others : List ℕ) (e : EquationShape) → SameOperands widths others e.args → width_in others e ≡ width_in widths e
width_in_same widths others e same = ap (λ (forms : List Form). cond (takes e.op forms) (settled_width e.declared (natural_width e.op forms)) None) (operand_forms_same widths others e.args e.kinds same)

-- what holds of each operand that passes a test
pub SameOperands-from_list_all : (widths others : List ℕ) (test : Operand → Bool) (args : List Operand) → list_all test args ≡ true → ((a : Operand) → test a ≡ true → operand_width others a ≡ operand_width widths a) → SameOperands widths others args
SameOperands-from_list_all widths others test [] all each = tt
SameOperands-from_list_all widths others test (a ∷ args) all each = let parts = and_parts (test a) (list_all test args) all in (each a parts.0, SameOperands-from_list_all widths others test args parts.1 each)

pub SameOperands-at : (widths others : List ℕ) (args : List Operand) → SameOperands widths others args → (k : ℕ) (d : Operand) → k < length args → operand_width others (get_or args k d) ≡ operand_width widths (get_or args k d)
SameOperands-at widths others [] same k d below = absurd (omega arith)
SameOperands-at widths others (a ∷ args) same zero d below = same.0
SameOperands-at widths others (a ∷ args) same (suc k) d below = SameOperands-at widths others args same.1 k d (omega arith)

-- the recurrence of a body that equation i stands in
pub record PastOf (equations : List EquationShape) (i rec : ℕ) : Type 0 where
  pub equation : EquationShape
  pub init : ℕ
  pub first : ℕ
  pub there : slice_get equations rec ≡ Some equation
  pub op : equation.op ≡ Rec init first
  pub low : first ≤ i
  pub high : i ≤ rec

record InBody (i rec : ℕ) (op : Op) : Type 0 where
  init : ℕ
  first : ℕ
  is : op ≡ Rec init first
  low : first ≤ i
  high : i ≤ rec

in_body : (i rec : ℕ) (op : Op) → is_in_body i rec op ≡ true → InBody i rec op
in_body i rec (Rec init first) inside = let parts = and_parts (nat_le first i) (nat_le i rec) inside in record { init = init; first = first; is = refl; low = leb-true first i parts.0; high = leb-true i rec parts.1 }
in_body i rec op inside = cc

past_there : (equations : List EquationShape) (i rec : ℕ) (o : Option EquationShape) → slice_get equations rec ≡ o → option_map_or (is_in_body i rec) (option_map_or (λ (e : EquationShape). Some e.op) o None) false ≡ true → PastOf equations i rec
past_there equations i rec None there inside = cc
past_there equations i rec (Some e) there inside = let b = in_body i rec e.op inside in record { equation = e; init = b.init; first = b.first; there = there; op = b.is; low = b.low; high = b.high }

pub past_of : (equations : List EquationShape) (i rec k : ℕ) → is_lawful_operand equations i (Past rec k) ≡ true → PastOf equations i rec
past_of equations i rec k lawful = past_there equations i rec (slice_get equations rec) refl (and_parts (nat_le 1 k) (option_map_or (is_in_body i rec) (op_at equations rec) false) lawful).1

-- one place holds one equation
pub one_equation : (equations : List EquationShape) (i : ℕ) (e d : EquationShape) → slice_get equations i ≡ Some e → slice_get equations i ≡ Some d → e ≡ d
one_equation equations i e d there also = cc

pub equation_at : (equations : List EquationShape) (n : ℕ) → n < length equations → (e : EquationShape) × (slice_get equations n ≡ Some e)
equation_at [] n within = absurd (omega arith)
equation_at (e ∷ equations) zero within = (e, refl)
equation_at (e ∷ equations) (suc n) within = equation_at equations n (omega arith)

declared_by : (b : Bool) (o : Option ℕ) (natural w v : ℕ) → cond b (settled_width o natural) None ≡ Some w → o ≡ Some v → w ≡ v
declared_by true (Some u) natural w v settled declared = cc
declared_by true None natural w v settled declared = cc
declared_by false o natural w v settled declared = cc

-- a declared width is the width
pub width_in-declared : (widths : List ℕ) (e : EquationShape) (w v : ℕ) → width_in widths e ≡ Some w → e.declared ≡ Some v → w ≡ v
width_in-declared widths e w v settled declared = declared_by (takes e.op (operand_forms widths e.args e.kinds)) e.declared (natural_width e.op (operand_forms widths e.args e.kinds)) w v settled declared

pub record IsDeclared (o : Option ℕ) : Type 0 where
  pub width : ℕ
  pub is : o ≡ Some width

declared_case : (o : Option ℕ) → not (is_some o) ≡ false → IsDeclared o
declared_case (Some w) closed = record { width = w; is = refl }
declared_case None closed = cc

-- a recurrence that is not open has a declared width
pub declared_of : (e : EquationShape) (init first : ℕ) → e.op ≡ Rec init first → is_open e ≡ false → IsDeclared e.declared
declared_of e init first op closed = declared_case e.declared (let P : Op → Type 0 = λ o. (is_rec o && not (is_some e.declared)) ≡ false in subst P op closed)

undeclared : (b : Bool) (o : Option ℕ) (w : ℕ) → (b && not (is_some o)) ≡ true → o ≡ Some w → ⊥
undeclared b None w open_ declared = cc
undeclared true (Some v) w open_ declared = cc
undeclared false (Some v) w open_ declared = cc

open_is_undeclared : (e : EquationShape) (w : ℕ) → is_open e ≡ true → e.declared ≡ Some w → ⊥
open_is_undeclared e w open_ declared = undeclared (is_rec e.op) e.declared w open_ declared

-- widths that agree below n, at declared widths, and on the operands below n, are settled as far
pub below_same : (n : ℕ) (equations : List EquationShape) (widths others : List ℕ) → EachEquation equations (λ i e. (init first : ℕ) → e.op ≡ Rec init first → IsBody equations i first) → AreWidthsBelow n equations widths → length others ≡ length equations → EachEquation equations (λ i e. (w : ℕ) → e.declared ≡ Some w → get_or others i 0 ≡ w) → AgreeBelow n widths others → EachEquation equations (λ i e. i < n → SameOperands widths others e.args) → AreWidthsBelow n equations others
below_same n equations widths others bodies below count declared agree operands = record {
  count = count;
  declared = declared;
  each = λ i e there low closed. width_in_same widths others e (operands i e there low) ∙ below.each i e there low closed ∙ ap Some (sym (agree i low));
  recurrences = λ i e there init first low open_ op.
      let least : IsLeast equations i init first widths = below.recurrences i e there init first low open_ op in
      let same : get_or others i 0 ≡ get_or widths i 0 = agree i low in
      let ordered : first ≤ i = (bodies i e there init first op).ordered in
      record {
        holds = record {
          least = rw same least.holds.least;
          greatest = rw same least.holds.greatest;
          initial = rw same least.holds.initial;
          body = λ j d at from_first to_rec. width_in_same widths others d (operands j d at (omega arith)) ∙ least.holds.body j d at from_first to_rec ∙ ap Some (sym (agree j (omega arith)));
          operand = λ d at k a in_args. let here : get_or widths i 0 ≡ get_or others i 0 = sym same in rw (SameOperands-at widths others d.args (operands i d at low) k a in_args, same) (least.holds.operand d at k a in_args);
        };
        none_less = λ more agrees holds. rw same (least.none_less more (λ k l. agrees k l ∙ agree k (omega arith)) holds);
      };
}

-- one equation more
pub below_more : (n : ℕ) (equations : List EquationShape) (widths : List ℕ) → AreWidthsBelow n equations widths → ((e : EquationShape) → slice_get equations n ≡ Some e → is_open e ≡ false → width_in widths e ≡ Some (get_or widths n 0)) → ((e : EquationShape) (init first : ℕ) → slice_get equations n ≡ Some e → is_open e ≡ true → e.op ≡ Rec init first → IsLeast equations n init first widths) → AreWidthsBelow (n + 1) equations widths
below_more n equations widths below closed open_ = record {
  count = below.count;
  declared = below.declared;
  each = λ i e there low is_closed. elim (cases_lt i n) [
    | inl less ↦ below.each i e there less is_closed
    | inr more ↦ (let same : i ≡ n = omega arith in let P : ℕ → Type 0 = λ j. slice_get equations j ≡ Some e → width_in widths e ≡ Some (get_or widths j 0) in subst P (sym same) (λ at. closed e at is_closed) there)
  ];
  recurrences = λ i e there init first low is_open_ op. elim (cases_lt i n) [
    | inl less ↦ below.recurrences i e there init first less is_open_ op
    | inr more ↦ (let same : i ≡ n = omega arith in let P : ℕ → Type 0 = λ j. slice_get equations j ≡ Some e → IsLeast equations j init first widths in subst P (sym same) (λ at. open_ e init first at is_open_ op) there)
  ];
}

pub below_fewer : (m n : ℕ) (equations : List EquationShape) (widths : List ℕ) → m ≤ n → AreWidthsBelow n equations widths → AreWidthsBelow m equations widths
below_fewer m n equations widths fewer below = record {
  count = below.count;
  declared = below.declared;
  each = λ i e there low closed. below.each i e there (omega arith) closed;
  recurrences = λ i e there init first low open_ op. below.recurrences i e there init first (omega arith) open_ op;
}

past_op : (equations : List EquationShape) (i rec : ℕ) (e : EquationShape) (p : PastOf equations i rec) → slice_get equations rec ≡ Some e → e.op ≡ Rec p.init p.first
past_op equations i rec e p there = let same : p.equation ≡ e = one_equation equations rec p.equation e p.there there in let P : EquationShape → Type 0 = λ d. d.op ≡ Rec p.init p.first in subst P same p.op

-- a width put at an equation that is not open changes nothing that equations up to it read
operands_kept : (equations : List EquationShape) (outputs : List Operand) (i : ℕ) (e : EquationShape) (widths : List ℕ) (w : ℕ) → IsFlat equations outputs → slice_get equations i ≡ Some e → is_open e ≡ false → width_in widths e ≡ Some w → AreWidthsBelow i equations widths → (j : ℕ) (d : EquationShape) → slice_get equations j ≡ Some d → j ≤ i → SameOperands widths (set widths i w) d.args
operands_kept equations outputs i e widths w flat there closed settled below j d at low =
    SameOperands-from_list_all widths (set widths i w) (is_lawful_operand equations j) d.args (flat.operands j d at) kept where
      at_itself : PastOf equations j i → get_or (set widths i w) i 0 ≡ get_or widths i 0
      at_itself p =
          let declared = declared_of e p.init p.first (past_op equations j i e p there) closed in
          let within : i < length widths = omega (arith, slice_get_within equations i e there, below.count) in
          get_or-set_same widths i w 0 within ∙ width_in-declared widths e w declared.width settled declared.is ∙ sym (below.declared i e there declared.width declared.is)

      kept : (a : Operand) → is_lawful_operand equations j a ≡ true → operand_width (set widths i w) a ≡ operand_width widths a
      kept (Const c) lawful = refl
      kept (Eq k) lawful = let less : k < j = ltb-true k j lawful in let other : k ≢ i = omega arith in get_or-set_other widths i k w 0 other
      kept (Past rec k) lawful = elim (cases_eq rec i) [
        | inl same ↦ (let P : ℕ → Type 0 = λ r. get_or (set widths i w) r 0 ≡ get_or widths r 0 in subst P (sym same) (at_itself (let Q : ℕ → Type 0 = λ r. PastOf equations j r in subst Q same (past_of equations j rec k lawful))))
        | inr other ↦ get_or-set_other widths i rec w 0 other
      ]

-- the width of an equation that is not open, put in its place
pub below_put : (equations : List EquationShape) (outputs : List Operand) (i : ℕ) (e : EquationShape) (widths : List ℕ) (w : ℕ) → IsFlat equations outputs → slice_get equations i ≡ Some e → is_open e ≡ false → width_in widths e ≡ Some w → AreWidthsBelow i equations widths → AreWidthsBelow (i + 1) equations (set widths i w)
below_put equations outputs i e widths w flat there closed settled below =
    let within : i < length widths = omega (arith, slice_get_within equations i e there, below.count) in
    let here : get_or (set widths i w) i 0 ≡ w = get_or-set_same widths i w 0 within in
    let kept = operands_kept equations outputs i e widths w flat there closed settled below in
    below_more i equations (set widths i w)
    (below_same i equations widths (set widths i w) flat.bodies below (length-set widths i w ∙ below.count) declared (λ k low. let other : k ≢ i = λ same. omega arith in get_or-set_other widths i k w 0 other) (λ j d at low. kept j d at (omega arith)))
    (λ d at _. let same : e ≡ d = one_equation equations i e d there at in let P : EquationShape → Type 0 = λ x. width_in (set widths i w) x ≡ Some (get_or (set widths i w) i 0) in subst P same (width_in_same widths (set widths i w) e (kept i e there (omega arith)) ∙ settled ∙ ap Some (sym here)))
    (λ d init first at open_ op. let same : e ≡ d = one_equation equations i e d there at in let P : EquationShape → Type 0 = λ x. is_open x ≡ false in let no : is_open d ≡ false = subst P same closed in cc) where
      declared_here : (d : EquationShape) → slice_get equations i ≡ Some d → (v : ℕ) → d.declared ≡ Some v → get_or (set widths i w) i 0 ≡ v
      declared_here d at v is =
          let same : e ≡ d = one_equation equations i e d there at in
          let within : i < length widths = omega (arith, slice_get_within equations i e there, below.count) in
          let P : EquationShape → Type 0 = λ x. width_in widths x ≡ Some w in
          get_or-set_same widths i w 0 within ∙ width_in-declared widths d w v (subst P same settled) is

      declared : (j : ℕ) (d : EquationShape) → slice_get equations j ≡ Some d → (v : ℕ) → d.declared ≡ Some v → get_or (set widths i w) j 0 ≡ v
      declared j d at v is = elim (cases_eq j i) [
        | inl same ↦ (let P : ℕ → Type 0 = λ k. slice_get equations k ≡ Some d → get_or (set widths i w) k 0 ≡ v in subst P (sym same) (λ here. declared_here d here v is) at)
        | inr other ↦ get_or-set_other widths i j w 0 other ∙ below.declared j d at v is
      ]

-- a width put at an open recurrence changes nothing before its body
pub below_tried : (equations : List EquationShape) (outputs : List Operand) (rec init first : ℕ) (e : EquationShape) (widths : List ℕ) (w : ℕ) → IsFlat equations outputs → slice_get equations rec ≡ Some e → is_open e ≡ true → e.op ≡ Rec init first → AreWidthsBelow first equations widths → AreWidthsBelow first equations (set widths rec w)
below_tried equations outputs rec init first e widths w flat there open_ op below =
    below_same first equations widths (set widths rec w) flat.bodies below (length-set widths rec w ∙ below.count) declared (λ k low. let other : k ≢ rec = λ same. omega (arith, ordered) in get_or-set_other widths rec k w 0 other) operands where
      ordered : first ≤ rec
      ordered = (flat.bodies rec e there init first op).ordered

      not_itself : (d : EquationShape) → slice_get equations rec ≡ Some d → (v : ℕ) → d.declared ≡ Some v → ⊥
      not_itself d at v is =
          let same : d ≡ e = one_equation equations rec d e at there in
          let P : EquationShape → Type 0 = λ x. x.declared ≡ Some v in
          open_is_undeclared e v open_ (subst P same is)

      declared : (j : ℕ) (d : EquationShape) → slice_get equations j ≡ Some d → (v : ℕ) → d.declared ≡ Some v → get_or (set widths rec w) j 0 ≡ v
      declared j d at v is = elim (cases_eq j rec) [
        | inl same ↦ absurd (let P : ℕ → Type 0 = λ k. slice_get equations k ≡ Some d in not_itself d (subst P same at) v is)
        | inr other ↦ get_or-set_other widths rec j w 0 other ∙ below.declared j d at v is
      ]

      operands : (j : ℕ) (d : EquationShape) → slice_get equations j ≡ Some d → j < first → SameOperands widths (set widths rec w) d.args
      operands j d at low = SameOperands-from_list_all widths (set widths rec w) (is_lawful_operand equations j) d.args (flat.operands j d at) kept where
        not_before : PastOf equations j rec → ⊥
        not_before p = let same : Rec init first ≡ Rec p.init p.first = sym op ∙ past_op equations j rec e p there in let firsts : first ≡ p.first = cc in omega (arith, p.low)

        kept : (a : Operand) → is_lawful_operand equations j a ≡ true → operand_width (set widths rec w) a ≡ operand_width widths a
        kept (Const c) lawful = refl
        kept (Eq k) lawful = let less : k < j = ltb-true k j lawful in let other : k ≢ rec = λ same. omega (arith, ordered) in get_or-set_other widths rec k w 0 other
        kept (Past r k) lawful = elim (cases_eq r rec) [
          | inl same ↦ absurd (not_before (let Q : ℕ → Type 0 = λ x. PastOf equations j x in subst Q same (past_of equations j r k lawful)))
          | inr other ↦ get_or-set_other widths rec r w 0 other
        ]

-- equation i stands in the body of the recurrence, or is the recurrence, and reads the past of no other
one_body : (equations : List EquationShape) (outputs : List Operand) (rec init first : ℕ) (e : EquationShape) (i r : ℕ) → IsFlat equations outputs → slice_get equations rec ≡ Some e → e.op ≡ Rec init first → first ≤ i → i ≤ rec → PastOf equations i r → r ≡ rec
one_body equations outputs rec init first e i r flat there op low high p = elim (cases_lt r rec) [
  | inl less ↦ absurd (inside less)
  | inr more ↦ elim (cases_lt rec r) [
    | inl less ↦ absurd (around less)
    | inr same ↦ omega arith
  ]
] where
  inside : r < rec → ⊥
  inside less =
      let alone : is_rec p.equation.op ≡ false = (flat.bodies rec e there init first op).alone r p.equation p.there (omega (arith, p.high)) less in
      let P : Op → Type 0 = λ o. is_rec o ≡ false in
      let no : is_rec (Rec p.init p.first) ≡ false = subst P p.op alone in cc

  around : rec < r → ⊥
  around less =
      let alone : is_rec e.op ≡ false = (flat.bodies r p.equation p.there p.init p.first p.op).alone rec e there (omega (arith, p.low)) less in
      let P : Op → Type 0 = λ o. is_rec o ≡ false in
      let no : is_rec (Rec init first) ≡ false = subst P op alone in cc

-- widths that agree below an equation of a body and at the recurrence give its operands the same widths
pub body_operands : (equations : List EquationShape) (outputs : List Operand) (rec init first : ℕ) (e : EquationShape) (widths others : List ℕ) (i : ℕ) (d : EquationShape) → IsFlat equations outputs → slice_get equations rec ≡ Some e → e.op ≡ Rec init first → slice_get equations i ≡ Some d → first ≤ i → i ≤ rec → AgreeBelow i widths others → get_or others rec 0 ≡ get_or widths rec 0 → SameOperands widths others d.args
body_operands equations outputs rec init first e widths others i d flat there op at low high agree same = SameOperands-from_list_all widths others (is_lawful_operand equations i) d.args (flat.operands i d at) each where
  each : (a : Operand) → is_lawful_operand equations i a ≡ true → operand_width others a ≡ operand_width widths a
  each (Const c) lawful = refl
  each (Eq k) lawful = agree k (ltb-true k i lawful)
  each (Past r k) lawful =
      let here : r ≡ rec = one_body equations outputs rec init first e i r flat there op low high (past_of equations i r k lawful) in
      let P : ℕ → Type 0 = λ x. get_or others x 0 ≡ get_or widths x 0 in
      subst P (sym here) same

pub AgreeBelow-more : (n : ℕ) (widths others : List ℕ) → AgreeBelow n widths others → get_or others n 0 ≡ get_or widths n 0 → AgreeBelow (suc n) widths others
AgreeBelow-more n widths others before here k low = elim (cases_lt k n) [
  | inl less ↦ before k less
  | inr more ↦ (let same : k ≡ n = omega arith in let P : ℕ → Type 0 = λ x. get_or others x 0 ≡ get_or widths x 0 in subst P (sym same) here)
]

-- there is an equation below another
equation_below : (equations : List EquationShape) (rec : ℕ) (e : EquationShape) (n : ℕ) → slice_get equations rec ≡ Some e → n ≤ rec → slice_get equations n ≡ Some (get_or equations n e)
equation_below equations rec e n there low = let within : n < length equations = omega (arith, slice_get_within equations rec e there) in slice_get-get_or equations n e within

body_agree_here : (equations : List EquationShape) (outputs : List Operand) (rec init first : ℕ) (e : EquationShape) (widths others : List ℕ) (n : ℕ) (d : EquationShape) → IsFlat equations outputs → slice_get equations rec ≡ Some e → e.op ≡ Rec init first → AgreeBelow n widths others → get_or others rec 0 ≡ get_or widths rec 0 → slice_get equations n ≡ Some d → first ≤ n → n ≤ rec → width_in widths d ≡ Some (get_or widths n 0) → width_in others d ≡ Some (get_or others n 0) → get_or others n 0 ≡ get_or widths n 0
body_agree_here equations outputs rec init first e widths others n d flat there op agree same at low high one other =
    let kept = width_in_same widths others d (body_operands equations outputs rec init first e widths others n d flat there op at low high agree same) in cc

-- with the same width of the recurrence, its body has the same widths
pub body_agree : (equations : List EquationShape) (outputs : List Operand) (rec init first : ℕ) (e : EquationShape) (widths others : List ℕ) → IsFlat equations outputs → slice_get equations rec ≡ Some e → e.op ≡ Rec init first → AgreeBelow first widths others → get_or others rec 0 ≡ get_or widths rec 0 → (n : ℕ) → n ≤ rec → EachEquation equations (λ i d. first ≤ i → i < n → width_in widths d ≡ Some (get_or widths i 0)) → EachEquation equations (λ i d. first ≤ i → i < n → width_in others d ≡ Some (get_or others i 0)) → AgreeBelow n widths others
body_agree equations outputs rec init first e widths others flat there op agree same zero high body others_body = λ k low. absurd (omega arith)
body_agree equations outputs rec init first e widths others flat there op agree same (suc n) high body others_body =
    let low_n : n ≤ rec = omega arith in
    let before : AgreeBelow n widths others = body_agree equations outputs rec init first e widths others flat there op agree same n low_n (λ i d at from_first to_n. body i d at from_first (omega arith)) (λ i d at from_first to_n. others_body i d at from_first (omega arith)) in
    let at = equation_below equations rec e n there low_n in
    let less : n < suc n = omega arith in
    elim (cases_lt n first) as (λ _. AgreeBelow (suc n) widths others) [
      | inl early ↦ AgreeBelow-more n widths others before (agree n early)
      | inr late ↦ AgreeBelow-more n widths others before (body_agree_here equations outputs rec init first e widths others n (get_or equations n e) flat there op before same at late low_n (body n (get_or equations n e) at late less) (others_body n (get_or equations n e) at late less))
    ]
