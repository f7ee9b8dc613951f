-- The steps of solving, over lists.
use Rattle.std.proofs.Common.{◌≡◌, ◌≢◌, ℕ, zero, suc, ◌+◌, ◌^◌, ◌<◌, ◌≤◌, Bool, true, false, not, ◌&&◌, Option, Some, None, is_some, unwrap_or, List, [], ◌∷◌, length, map, All, get_or, set, nat_lt, refl, sym, ◌∙◌, ap, ap₂, subst, inl, inr, arith}
use Rattle.std.specs.List.{slice_get, list_all}
use Rattle.std.proofs.lemmas.Bool.{cases_lt, and_parts, ltb-true}
use Rattle.std.proofs.lemmas.Bool.Decides.{nat_tests}
use Rattle.std.proofs.lemmas.Option.{slice_get_within, slice_get_read, slice_get-map}
use Rattle.std.specs.Option.{option_map}
use Rattle.pr_flat.specs.declared.equations.Operand.{Operand}
use Rattle.pr_flat.specs.declared.equations.Operand.TheVariants.{Const, Eq, Past}
use Rattle.pr_flat.specs.declared.equations.Op.{Op}
use Rattle.pr_flat.specs.declared.equations.Op.TheVariants.{Rec}
use Rattle.pr_flat.specs.declared.equations.Equation.{Equation}
use Rattle.pr_flat.specs.Shape.{EquationShape, equation_shape, shapes_of}
use Rattle.pr_flat.specs.Facts.{is_rec, is_lawful_operand, has_lawful_ends, IsBody, IsFlat, arity}
use Rattle.pr_flat.specs.Widths.{operand_width, width_in, is_open, Holds, AgreeBelow, IsLeast, AreWidthsBelow, IsOutside, IsFirstWithout, Lacks, HoldsNowhere}
use Rattle.pr_flat.proofs.WidthLemmas.{SameOperands, SameOperands-at, width_in_same, past_of, below_more, below_tried, body_operands, body_agree, equation_at, one_equation}
use Rattle.std.proofs.lemmas.List.{get_or-set_other, get_or-set_same, length-map}
use Rattle.std.proofs.Math.Nat.{pow-le-pow_right}
use Rattle.pr_width.specs.Reads.{is_within}
use Rattle.pr_width.specs.Parts.{IsOpenAt, AreClosed, HoldsNowhereBy, HoldsFrom, HoldsAt}
use Rattle.pr_width.specs.declared.solver.Recurrence.{Recurrence}

-- an equation that was read, as lists
pub shape_at : (equations : List Equation) (i : ℕ) (x : Equation) → i < length equations → x ≡ get_or equations i x → slice_get (shapes_of equations) i ≡ Some (equation_shape x)
shape_at equations i x within read = slice_get-map equation_shape equations i ∙ ap (option_map equation_shape) (slice_get_read equations (length equations) i x refl within read)

-- operands name equations that there are
pub operands_within : (equations : List EquationShape) (i n : ℕ) (args : List Operand) → n ≡ length equations → i < n → list_all (is_lawful_operand equations i) args ≡ true → list_all (is_within n) args ≡ true
operands_within equations i n [] count within lawful = refl
operands_within equations i n (a ∷ args) count within lawful = let parts = and_parts (is_lawful_operand equations i a) (list_all (is_lawful_operand equations i) args) lawful in ap₂ (λ (x y : Bool). x && y) (one a parts.0) (operands_within equations i n args count within parts.1) where
  less : (j : ℕ) → j < n → nat_lt j n ≡ true
  less j low = grind (arith, nat_tests)

  one : (b : Operand) → is_lawful_operand equations i b ≡ true → is_within n b ≡ true
  one (Const k) h = refl
  one (Eq j) h = let low : j < i = ltb-true j i h in less j (omega arith)
  one (Past rec k) h = let p = past_of equations i rec k h in less rec (omega (arith, slice_get_within equations rec p.equation p.there))

closed_by : (o : Op) (d : Option ℕ) → is_rec o ≡ false → (is_rec o && not (is_some d)) ≡ false
closed_by o d other = ap (λ b. b && not (is_some d)) other

-- the body of a recurrence holds no recurrence
pub body_closed : (equations : List EquationShape) (rec first : ℕ) → IsBody equations rec first → AreClosed equations first rec
body_closed equations rec first body i e there low high = closed_by e.op e.declared (body.alone i e there low high)

pub rec_is_open : (x : EquationShape) (init first : ℕ) → x.op ≡ Rec init first → is_some x.declared ≡ false → is_open x ≡ true
rec_is_open x init first op none = ap₂ (λ (b c : Bool). b && not c) (ap is_rec op) none

-- a recurrence that was read
pub open_read : (equations : List Equation) (i : ℕ) (x : Equation) (r : Recurrence) → i < length equations → x ≡ get_or equations i x → r.number ≡ i → x.op ≡ Rec r.init r.first → is_some x.declared ≡ false → IsOpenAt (shapes_of equations) r
open_read equations i x r within read same op none = record {
  equation = equation_shape x;
  there = (let P : ℕ → Type 0 = λ j. slice_get (shapes_of equations) j ≡ Some (equation_shape x) in subst P (sym same) (shape_at equations i x within read));
  undeclared = rec_is_open (equation_shape x) r.init r.first op none;
  op = op;
}

-- what an equation that was read keeps
pub record IsLawfulAt (n : ℕ) (x : Equation) : Type 0 where
  pub args : length x.args.items ≡ arity x.op
  pub kinds : length x.kinds.items ≡ arity x.op
  pub ends : has_lawful_ends x.op ≡ true
  pub within : list_all (is_within n) x.args.items ≡ true

pub lawful_at : (equations : List Equation) (outputs : List Operand) (i n : ℕ) (x : Equation) → IsFlat (shapes_of equations) outputs → n ≡ length (shapes_of equations) → i < length equations → x ≡ get_or equations i x → IsLawfulAt n x
lawful_at equations outputs i n x flat count within read =
    let there = shape_at equations i x within read in
    record {
      args = flat.args i (equation_shape x) there;
      kinds = flat.kinds i (equation_shape x) there;
      ends = flat.ends i (equation_shape x) there;
      within = operands_within (shapes_of equations) i n x.args.items count (let low = slice_get_within (shapes_of equations) i (equation_shape x) there in omega arith) (flat.operands i (equation_shape x) there);
    }

-- a width put at place i lies below what is asked of it
pub put_before : (from i w : ℕ) (old widths : List ℕ) → from ≤ i → AgreeBelow from old widths → AgreeBelow from old (set widths i w)
put_before from i w old widths low before k less = let other : k ≢ i = λ same. omega arith in get_or-set_other widths i k w 0 other ∙ before k less

pub put_after : (end i w : ℕ) (old widths : List ℕ) → i < end → ((k : ℕ) → end ≤ k → get_or widths k 0 ≡ get_or old k 0) → (k : ℕ) → end ≤ k → get_or (set widths i w) k 0 ≡ get_or old k 0
put_after end i w old widths low after k more = let other : k ≢ i = λ same. omega arith in get_or-set_other widths i k w 0 other ∙ after k more

-- an equation that was read lacks a width
pub stops_read : (equations : List EquationShape) (i : ℕ) (x : EquationShape) (widths : List ℕ) (o : Option ℕ) → slice_get equations i ≡ Some x → o ≡ width_in widths x → o ≡ None → (e : EquationShape) → slice_get equations i ≡ Some e → width_in widths e ≡ None
stops_read equations i x widths o there is none e at = let P : EquationShape → Type 0 = λ y. width_in widths y ≡ None in subst P (one_equation equations i x e there at) (sym is ∙ none)

-- a width fails where an equation of the body lacks one
pub fails_in_body : (equations : List EquationShape) (outputs : List Operand) (r : Recurrence) (old widths : List ℕ) (width reached : ℕ) → IsFlat equations outputs → IsOpenAt equations r → AreWidthsBelow reached equations widths → get_or widths r.number 0 ≡ width → AgreeBelow r.first old widths → r.first ≤ reached → reached < r.number → ((d : EquationShape) → slice_get equations reached ≡ Some d → width_in widths d ≡ None) → (others : List ℕ) → AgreeBelow r.first old others → Holds equations r.number r.init r.first others → get_or others r.number 0 ≡ width → ⊥
fails_in_body equations outputs r old widths width reached flat is below put before low high stops others agree holds same =
    let closed = body_closed equations r.number r.first (flat.bodies r.number is.equation is.there r.init r.first is.op) in
    let agree_first : AgreeBelow r.first widths others = λ k less. agree k less ∙ sym (before k less) in
    let same_here : get_or others r.number 0 ≡ get_or widths r.number 0 = same ∙ sym put in
    let agree_all = body_agree equations outputs r.number r.init r.first is.equation widths others flat is.there is.op agree_first same_here reached (omega arith) (λ i d at from_first to_reached. below.each i d at to_reached (closed i d at from_first (omega arith))) (λ i d at from_first to_reached. holds.body i d at from_first (omega arith)) in
    let found = equation_at equations reached (omega (arith, slice_get_within equations r.number is.equation is.there)) in
    let kept = width_in_same widths others found.0 (body_operands equations outputs r.number r.init r.first is.equation widths others reached found.0 flat is.there is.op found.1 low (omega arith) agree_all same_here) in
    let some = holds.body reached found.0 found.1 low high in
    let none = stops found.0 found.1 in cc

-- widths of the whole body give the operand of the recurrence one width
body_operand : (equations : List EquationShape) (outputs : List Operand) (r : Recurrence) (old widths : List ℕ) (width : ℕ) → IsFlat equations outputs → (is : IsOpenAt equations r) → AreWidthsBelow r.number equations widths → get_or widths r.number 0 ≡ width → AgreeBelow r.first old widths → (others : List ℕ) → AgreeBelow r.first old others → Holds equations r.number r.init r.first others → get_or others r.number 0 ≡ width → SameOperands widths others is.equation.args
body_operand equations outputs r old widths width flat is below put before others agree holds same =
    let ordered : r.first ≤ r.number = (flat.bodies r.number is.equation is.there r.init r.first is.op).ordered in
    let closed = body_closed equations r.number r.first (flat.bodies r.number is.equation is.there r.init r.first is.op) in
    let agree_first : AgreeBelow r.first widths others = λ k less. agree k less ∙ sym (before k less) in
    let same_here : get_or others r.number 0 ≡ get_or widths r.number 0 = same ∙ sym put in
    let agree_all = body_agree equations outputs r.number r.init r.first is.equation widths others flat is.there is.op agree_first same_here r.number (omega arith) (λ i d at from_first to_end. below.each i d at to_end (closed i d at from_first to_end)) (λ i d at from_first to_end. holds.body i d at from_first to_end) in
    body_operands equations outputs r.number r.init r.first is.equation widths others r.number is.equation flat is.there is.op is.there ordered (omega arith) agree_all same_here

-- a width fails where the body's operand is wider
pub fails_at_end : (equations : List EquationShape) (outputs : List Operand) (r : Recurrence) (old widths : List ℕ) (width : ℕ) (x : EquationShape) (a : Operand) → IsFlat equations outputs → IsOpenAt equations r → AreWidthsBelow r.number equations widths → get_or widths r.number 0 ≡ width → AgreeBelow r.first old widths → slice_get equations r.number ≡ Some x → 0 < length x.args → a ≡ get_or x.args 0 a → width < operand_width widths a → (others : List ℕ) → AgreeBelow r.first old others → Holds equations r.number r.init r.first others → get_or others r.number 0 ≡ width → ⊥
fails_at_end equations outputs r old widths width x a flat is below put before there some read wider others agree holds same =
    let equal = one_equation equations r.number is.equation x is.there there in
    let P : EquationShape → Type 0 = λ y. SameOperands widths others y.args in
    let kept = SameOperands-at widths others x.args (subst P equal (body_operand equations outputs r old widths width flat is below put before others agree holds same)) 0 a some in
    let fits = holds.operand x there 0 a some in
    let Q : Operand → Type 0 = λ y. operand_width widths y < operand_width widths a → ⊥ in
    let same_width : operand_width widths (get_or x.args 0 a) ≡ operand_width widths a = ap (operand_width widths) (sym read) in
    omega (arith, kept, fits, same_width)

one_operand : (widths : List ℕ) (args : List Operand) (w : ℕ) (a : Operand) → length args ≡ 1 → a ≡ get_or args 0 a → operand_width widths a ≤ w → All (λ b. operand_width widths b ≤ w) args
one_operand widths [] w a count read fits k d low = absurd (omega arith)
one_operand widths (b ∷ []) w a count read fits zero d low = let P : Operand → Type 0 = λ y. operand_width widths y ≤ w in subst P read fits
one_operand widths (b ∷ []) w a count read fits (suc k) d low = absurd (omega arith)
one_operand widths (b ∷ c ∷ args) w a count read fits k d low = absurd (omega arith)

-- the widths of the whole body, and an operand that is no wider
pub holds_here : (equations : List EquationShape) (outputs : List Operand) (r : Recurrence) (widths : List ℕ) (width : ℕ) (x : EquationShape) (a : Operand) → IsFlat equations outputs → IsOpenAt equations r → AreWidthsBelow r.number equations widths → get_or widths r.number 0 ≡ width → 1 ≤ width → width ≤ 128 → r.init < 2 ^ width → slice_get equations r.number ≡ Some x → a ≡ get_or x.args 0 a → operand_width widths a ≤ width → HoldsAt equations r width widths
holds_here equations outputs r widths width x a flat is below put least greatest initial there read fits = record {
  put = put;
  body = below;
  holds = record {
    least = rw put least;
    greatest = rw put greatest;
    initial = rw put initial;
    body = λ i d at from_first to_end. below.each i d at to_end (body_closed equations r.number r.first (flat.bodies r.number is.equation is.there r.init r.first is.op) i d at from_first to_end);
    operand = λ d at.
        let equal = one_equation equations r.number x d there at in
        let count : length x.args ≡ 1 = flat.args r.number x there ∙ ap arity (let P : EquationShape → Type 0 = λ y. y.op ≡ Rec r.init r.first in subst P (one_equation equations r.number is.equation x is.there there) is.op) in
        let Q : EquationShape → Type 0 = λ y. All (λ b. operand_width widths b ≤ get_or widths r.number 0) y.args in
        subst Q equal (one_operand widths x.args (get_or widths r.number 0) a count read (rw put fits));
  };
}

pub number_within : (equations : List Equation) (r : Recurrence) → IsOpenAt (shapes_of equations) r → r.number < length equations
number_within equations r is = omega (arith, slice_get_within (shapes_of equations) r.number is.equation is.there, length-map equations equation_shape)

pub body_ordered : (equations : List EquationShape) (outputs : List Operand) (r : Recurrence) → IsFlat equations outputs → IsOpenAt equations r → r.first ≤ r.number
body_ordered equations outputs r flat is = (flat.bodies r.number is.equation is.there r.init r.first is.op).ordered

pub rec_args : (equations : List EquationShape) (outputs : List Operand) (r : Recurrence) (x : EquationShape) → IsFlat equations outputs → IsOpenAt equations r → slice_get equations r.number ≡ Some x → length x.args ≡ 1
rec_args equations outputs r x flat is there = flat.args r.number x there ∙ ap arity (let P : EquationShape → Type 0 = λ y. y.op ≡ Rec r.init r.first in subst P (one_equation equations r.number is.equation x is.there there) is.op)

pub first_passes : (test : Operand → Bool) (xs : List Operand) (a : Operand) → list_all test xs ≡ true → 0 < length xs → a ≡ get_or xs 0 a → test a ≡ true
first_passes test [] a all some read = absurd (omega arith)
first_passes test (x ∷ xs) a all some read = ap test read ∙ (and_parts (test x) (list_all test xs) all).0

-- what was put at place i stays where nothing from it on changes
pub put_here : (i w : ℕ) (old new : List ℕ) → i < length old → ((k : ℕ) → i ≤ k → get_or new k 0 ≡ get_or (set old i w) k 0) → get_or new i 0 ≡ w
put_here i w old new within kept = kept i (omega arith) ∙ get_or-set_same old i w 0 within

pub before_put : (first i w : ℕ) (old new : List ℕ) → first ≤ i → AgreeBelow first (set old i w) new → AgreeBelow first old new
before_put first i w old new low kept k less = let other : k ≢ i = λ same. omega arith in kept k less ∙ get_or-set_other old i k w 0 other

pub below_tried_at : (equations : List EquationShape) (outputs : List Operand) (r : Recurrence) (widths : List ℕ) (w : ℕ) → IsFlat equations outputs → IsOpenAt equations r → AreWidthsBelow r.first equations widths → AreWidthsBelow r.first equations (set widths r.number w)
below_tried_at equations outputs r widths w flat is below = below_tried equations outputs r.number r.init r.first is.equation widths w flat is.there is.undeclared is.op below

pub holds_more : (n m bits least width : ℕ) → n ≡ m → n < 2 ^ bits → least ≡ bits → least ≤ width → m < 2 ^ width
holds_more n m bits least width same holds equal more = let low : bits ≤ width = omega arith in let two : 0 < 2 = omega arith in omega (arith, pow-le-pow_right two low)

pub agree_along : (n : ℕ) (first second third : List ℕ) → AgreeBelow n first second → AgreeBelow n second third → AgreeBelow n first third
agree_along n first second third one other k low = other k low ∙ one k low

-- the first width at which the recurrence holds is its least
pub found_least : (equations : List EquationShape) (r : Recurrence) (old widths : List ℕ) (width : ℕ) → IsOpenAt equations r → HoldsAt equations r width widths → AgreeBelow r.first old widths → HoldsFrom equations r old width → AreWidthsBelow (r.number + 1) equations widths
found_least equations r old widths width is at before from = below_more r.number equations widths at.body closed least where
  closed : (e : EquationShape) → slice_get equations r.number ≡ Some e → is_open e ≡ false → width_in widths e ≡ Some (get_or widths r.number 0)
  closed e there no_open = absurd (let equal = one_equation equations r.number is.equation e is.there there in let P : EquationShape → Type 0 = λ y. is_open y ≡ true in let yes : is_open e ≡ true = subst P equal is.undeclared in cc)

  here : IsLeast equations r.number r.init r.first widths
  here = record { holds = at.holds; none_less = λ others agree holds. let low = from others (λ k less. agree k less ∙ before k less) holds in let put = at.put in omega arith }

  least : (e : EquationShape) (init first : ℕ) → slice_get equations r.number ≡ Some e → is_open e ≡ true → e.op ≡ Rec init first → IsLeast equations r.number init first widths
  least e init first there open_ op =
      let equal = one_equation equations r.number is.equation e is.there there in
      let P : EquationShape → Type 0 = λ y. y.op ≡ Rec r.init r.first in
      let ops = subst P equal is.op in
      let inits : r.init ≡ init = cc in
      let firsts : r.first ≡ first = cc in
      let Q : ℕ → Type 0 = λ x. IsLeast equations r.number x r.first widths in
      let R : ℕ → Type 0 = λ x. IsLeast equations r.number init x widths in
      subst R firsts (subst Q inits here)

-- before the body of the next recurrence without declared width no equation stands in such a body
outside_before : (equations : List EquationShape) (outputs : List Operand) (r : Recurrence) (from n : ℕ) → IsFlat equations outputs → IsOpenAt equations r → AreClosed equations from r.number → from ≤ n → n < r.first → IsOutside equations n
outside_before equations outputs r from n flat is closed low high i e there init first open_ op begins ends =
    elim (cases_lt i r.number) [
      | inl less ↦ (let none = closed i e there (omega arith) less in cc)
      | inr more ↦ elim (cases_lt r.number i) [
        | inl less ↦ (let ordered = body_ordered equations outputs r flat is in let alone = (flat.bodies i e there init first op).alone r.number is.equation is.there (omega arith) less in let P : Op → Type 0 = λ o. is_rec o ≡ false in let none : is_rec (Rec r.init r.first) ≡ false = subst P is.op alone in cc)
        | inr also ↦ (let same : i ≡ r.number = omega arith in let P : ℕ → Type 0 = λ j. slice_get equations j ≡ Some e in let equal = one_equation equations r.number is.equation e is.there (subst P same there) in let Q : EquationShape → Type 0 = λ y. y.op ≡ Rec r.init r.first in let ops = subst Q equal is.op in let firsts : r.first ≡ first = cc in omega arith)
      ]
    ]

outside_last : (equations : List EquationShape) (from n : ℕ) → AreClosed equations from (length equations) → from ≤ n → IsOutside equations n
outside_last equations from n closed low i e there init first open_ op begins ends = let none = closed i e there (omega arith) (slice_get_within equations i e there) in cc

pub without_before : (equations : List EquationShape) (outputs : List Operand) (r : Recurrence) (widths : List ℕ) (from n : ℕ) → IsFlat equations outputs → IsOpenAt equations r → AreClosed equations from r.number → from ≤ n → n < r.first → AreWidthsBelow n equations widths → ((e : EquationShape) → slice_get equations n ≡ Some e → width_in widths e ≡ None) → IsFirstWithout equations n
without_before equations outputs r widths from n flat is closed low high below stops =
    let ordered = body_ordered equations outputs r flat is in
    let within : n < length equations = omega (arith, slice_get_within equations r.number is.equation is.there) in
    let found = equation_at equations n within in
    Lacks found.0 widths found.1 (closed n found.0 found.1 low (omega arith)) (outside_before equations outputs r from n flat is closed low high) below (stops found.0 found.1)

pub without_last : (equations : List EquationShape) (widths : List ℕ) (from n : ℕ) → AreClosed equations from (length equations) → from ≤ n → n < length equations → AreWidthsBelow n equations widths → ((e : EquationShape) → slice_get equations n ≡ Some e → width_in widths e ≡ None) → IsFirstWithout equations n
without_last equations widths from n closed low within below stops =
    let found = equation_at equations n within in
    Lacks found.0 widths found.1 (closed n found.0 found.1 low within) (outside_last equations from n closed low) below (stops found.0 found.1)

pub without_at : (equations : List EquationShape) (r : Recurrence) (widths : List ℕ) → IsOpenAt equations r → AreWidthsBelow r.first equations widths → HoldsNowhereBy equations r widths → IsFirstWithout equations r.number
without_at equations r widths is below nowhere = HoldsNowhere is.equation r.init r.first widths is.there is.undeclared is.op below nowhere

declared_at : (equations : List Equation) (i w : ℕ) (e : EquationShape) → slice_get (shapes_of equations) i ≡ Some e → e.declared ≡ Some w → get_or (map (λ (x : Equation). unwrap_or x.declared 0) equations) i 0 ≡ w
declared_at [] i w e there is = cc
declared_at (x ∷ equations) zero w e there is = let same : equation_shape x ≡ e = cc in let P : EquationShape → Type 0 = λ y. unwrap_or y.declared 0 ≡ w in subst P (sym same) (ap (λ (o : Option ℕ). unwrap_or o 0) is)
declared_at (x ∷ equations) (suc i) w e there is = declared_at equations i w e there is

-- the declared widths alone settle nothing yet
pub below_none : (equations : List Equation) (widths : List ℕ) → widths ≡ map (λ (x : Equation). unwrap_or x.declared 0) equations → AreWidthsBelow 0 (shapes_of equations) widths
below_none equations widths is = record {
  count = ap length is ∙ length-map equations (λ (x : Equation). unwrap_or x.declared 0) ∙ sym (length-map equations equation_shape);
  declared = λ i e there w declared. ap (λ (xs : List ℕ). get_or xs i 0) is ∙ declared_at equations i w e there declared;
  each = λ i e there low closed. absurd (omega arith);
  recurrences = λ i e there init first low open_ op. absurd (omega arith);
}
