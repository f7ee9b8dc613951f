-- Widths are settled in one way, and one equation at most is the first without.
use Rattle.std.proofs.Common.{◌≡◌, ℕ, zero, suc, ◌<◌, ◌≤◌, Bool, true, false, Some, List, [], ◌∷◌, length, get_or, refl, sym, ◌∙◌, subst, arith, inl, inr}
use Rattle.std.proofs.lemmas.Grind.{same_number_lists}
use Rattle.std.specs.List.{slice_get, list_all}
use Rattle.std.proofs.lemmas.Bool.{and_parts, and_from, cases_lt, ltb-true, cases_eq}
use Rattle.std.proofs.lemmas.Option.{slice_get_within}
use Rattle.pr_flat.specs.declared.equations.Operand.{Operand}
use Rattle.pr_flat.specs.declared.equations.Operand.TheVariants.{Const, Eq, Past}
use Rattle.pr_flat.specs.declared.equations.Op.{Op}
use Rattle.pr_flat.specs.declared.equations.Op.TheVariants.{Rec}
use Rattle.pr_flat.specs.Shape.{EquationShape, EachEquation}
use Rattle.pr_flat.specs.Facts.{is_rec, is_lawful_operand, IsBody, IsFlat}
use Rattle.pr_flat.specs.Widths.{operand_width, is_open, AgreeBelow, AreWidthsBelow, AreWidths, IsOutside, IsFirstWithout, Lacks, HoldsNowhere}
use Rattle.pr_flat.proofs.WidthLemmas.{SameOperands, SameOperands-from_list_all, width_in_same, PastOf, past_of, one_equation, equation_at, IsDeclared, declared_of, AgreeBelow-more, below_fewer}

-- an operand that reads an earlier equation, or the past of a recurrence in the body of which equation i stands
abbrev pub is_ordered_operand : List EquationShape → ℕ → Operand → Bool
is_ordered_operand equations i (Const c) = true
is_ordered_operand equations i a = is_lawful_operand equations i a

-- the order of equations, which is all that settles their widths
pub record IsOrdered (equations : List EquationShape) : Type 0 where
  pub operands : EachEquation equations (λ i e. list_all (is_ordered_operand equations i) e.args ≡ true)
  pub bodies : EachEquation equations (λ i e. (init first : ℕ) → e.op ≡ Rec init first → IsBody equations i first)

-- flat equations have it
pub ordered_of : (equations : List EquationShape) (outputs : List Operand) → IsFlat equations outputs → IsOrdered equations
ordered_of equations outputs flat = record { operands = λ i e there. each i e.args (flat.operands i e there); bodies = flat.bodies } where
  each : (i : ℕ) (args : List Operand) → list_all (is_lawful_operand equations i) args ≡ true → list_all (is_ordered_operand equations i) args ≡ true
  each i [] all = refl
  each i (Const c ∷ args) all = each i args (and_parts (is_lawful_operand equations i (Const c)) (list_all (is_lawful_operand equations i) args) all).1
  each i (Eq j ∷ args) all = let p = and_parts (is_lawful_operand equations i (Eq j)) (list_all (is_lawful_operand equations i) args) all in and_from (is_ordered_operand equations i (Eq j)) (list_all (is_ordered_operand equations i) args) p.0 (each i args p.1)
  each i (Past rec k ∷ args) all = let p = and_parts (is_lawful_operand equations i (Past rec k)) (list_all (is_lawful_operand equations i) args) all in and_from (is_ordered_operand equations i (Past rec k)) (list_all (is_ordered_operand equations i) args) p.0 (each i args p.1)

-- every recurrence without declared width whose body begins below n stands below n
abbrev pub IsWhole : List EquationShape → ℕ → Type 0
IsWhole equations n = EachEquation equations (λ r e. (init first : ℕ) → is_open e ≡ true → e.op ≡ Rec init first → first < n → r < n)

-- the width of the recurrence whose past an equation reads, in two lists of widths
past_agree : (n : ℕ) (equations : List EquationShape) (widths others : List ℕ) (i : ℕ) (r : ℕ) → IsOrdered equations → IsWhole equations n → AreWidthsBelow n equations widths → AreWidthsBelow n equations others → i < n → AgreeBelow i widths others → PastOf equations i r → get_or others r 0 ≡ get_or widths r 0
past_agree n equations widths others i r ordered_by whole one other low agree p = by_openness (is_open p.equation) refl where
  declared : IsDeclared p.equation.declared → get_or others r 0 ≡ get_or widths r 0
  declared d = other.declared r p.equation p.there d.width d.is ∙ sym (one.declared r p.equation p.there d.width d.is)

  least : is_open p.equation ≡ true → get_or others r 0 ≡ get_or widths r 0
  least open_ =
      let in_range : r < n = whole r p.equation p.there p.init p.first open_ p.op (omega (arith, p.low)) in
      let one_least = one.recurrences r p.equation p.there p.init p.first in_range open_ p.op in
      let other_least = other.recurrences r p.equation p.there p.init p.first in_range open_ p.op in
      let agree_first : AgreeBelow p.first widths others = λ k l. agree k (omega (arith, p.low)) in
      let below = one_least.none_less others agree_first other_least.holds in
      let above = other_least.none_less widths (λ k l. sym (agree_first k l)) one_least.holds in
      omega arith

  by_openness : (b : Bool) → is_open p.equation ≡ b → get_or others r 0 ≡ get_or widths r 0
  by_openness true is = least is
  by_openness false is = declared (declared_of p.equation p.init p.first p.op is)

-- so far as whole bodies go, widths are settled in one way
pub operands_agree : (n : ℕ) (equations : List EquationShape) (widths others : List ℕ) (i : ℕ) (d : EquationShape) → IsOrdered equations → IsWhole equations n → AreWidthsBelow n equations widths → AreWidthsBelow n equations others → slice_get equations i ≡ Some d → i < n → AgreeBelow i widths others → SameOperands widths others d.args
operands_agree n equations widths others i d ordered_by whole one other at low agree = SameOperands-from_list_all widths others (is_ordered_operand equations i) d.args (ordered_by.operands i d at) each where
  each : (a : Operand) → is_ordered_operand equations i a ≡ true → operand_width others a ≡ operand_width widths a
  each (Const c) lawful = refl
  each (Eq k) lawful = agree k (ltb-true k i lawful)
  each (Past r k) lawful = past_agree n equations widths others i r ordered_by whole one other low agree (past_of equations i r k lawful)

width_agrees : (n : ℕ) (equations : List EquationShape) (widths others : List ℕ) (i : ℕ) (d : EquationShape) → IsOrdered equations → IsWhole equations n → AreWidthsBelow n equations widths → AreWidthsBelow n equations others → slice_get equations i ≡ Some d → i < n → AgreeBelow i widths others → get_or others i 0 ≡ get_or widths i 0
width_agrees n equations widths others i d ordered_by whole one other at low agree = by_openness (is_open d) refl where
  closed : is_open d ≡ false → get_or others i 0 ≡ get_or widths i 0
  closed is =
      let kept = width_in_same widths others d (operands_agree n equations widths others i d ordered_by whole one other at low agree) in
      let left = one.each i d at low is in
      let right = other.each i d at low is in cc

  least : (o : Op) → d.op ≡ o → is_open d ≡ true → get_or others i 0 ≡ get_or widths i 0
  least (Rec init first) op is = past_agree n equations widths others i i ordered_by whole one other low agree (record { equation = d; init = init; first = first; there = at; op = op; low = (ordered_by.bodies i d at init first op).ordered; high = omega arith })
  least o op is = cc

  by_openness : (b : Bool) → is_open d ≡ b → get_or others i 0 ≡ get_or widths i 0
  by_openness true is = least d.op refl is
  by_openness false is = closed is

pub widths_agree : (n : ℕ) (equations : List EquationShape) (widths others : List ℕ) → IsOrdered equations → IsWhole equations n → n ≤ length equations → AreWidthsBelow n equations widths → AreWidthsBelow n equations others → (m : ℕ) → m ≤ n → AgreeBelow m widths others
widths_agree n equations widths others ordered_by whole within one other zero low = λ k l. absurd (omega arith)
widths_agree n equations widths others ordered_by whole within one other (suc m) low =
    let before : AgreeBelow m widths others = widths_agree n equations widths others ordered_by whole within one other m (omega arith) in
    let found = equation_at equations m (omega arith) in
    AgreeBelow-more m widths others before (width_agrees n equations widths others m found.0 ordered_by whole one other found.1 (omega arith) before)

all_whole : (equations : List EquationShape) → IsWhole equations (length equations)
all_whole equations r e there init first open_ op low = slice_get_within equations r e there

-- there is one list of widths
pub AreWidths-unique : (equations : List EquationShape) (widths others : List ℕ) → IsOrdered equations → AreWidths equations widths → AreWidths equations others → others ≡ widths
AreWidths-unique equations widths others ordered_by one other =
    let agree = widths_agree (length equations) equations widths others ordered_by (all_whole equations) (omega arith) one other (length equations) (omega arith) in
    same_number_lists others widths (other.count ∙ sym one.count) (λ k low. agree k (omega (arith, other.count)))

not_itself : (equations : List EquationShape) (n : ℕ) (e : EquationShape) → slice_get equations n ≡ Some e → is_open e ≡ false → (r : ℕ) (d : EquationShape) → slice_get equations r ≡ Some d → is_open d ≡ true → r ≡ n → ⊥
not_itself equations n e there closed r d at open_ same =
    let P : ℕ → Type 0 = λ x. slice_get equations x ≡ Some d in
    let equal = one_equation equations n e d there (subst P same at) in
    let Q : EquationShape → Type 0 = λ x. is_open x ≡ false in
    let none = subst Q equal closed in cc

outside_whole : (equations : List EquationShape) (n : ℕ) (e : EquationShape) → slice_get equations n ≡ Some e → is_open e ≡ false → IsOutside equations n → IsWhole equations n
outside_whole equations n e there closed outside r d at init first open_ op low = elim (cases_lt r n) [
  | inl before ↦ before
  | inr after ↦ absurd (elim (cases_eq r n) [
    | inl same ↦ not_itself equations n e there closed r d at open_ same
    | inr other ↦ outside r d at init first open_ op (omega arith) (omega arith)
  ])
]

-- a body around the first equation of another's
around : (equations : List EquationShape) (n init first : ℕ) (e : EquationShape) → IsOrdered equations → slice_get equations n ≡ Some e → e.op ≡ Rec init first → (r : ℕ) (d : EquationShape) → slice_get equations r ≡ Some d → (i f : ℕ) → d.op ≡ Rec i f → f < first → first ≤ r → ⊥
around equations n init first e ordered_by there op r d at i f d_op low high =
    let ordered : first ≤ n = (ordered_by.bodies n e there init first op).ordered in
    elim (cases_lt r n) as (λ _. ⊥) [
      | inl before ↦ (let alone = (ordered_by.bodies n e there init first op).alone r d at high before in let P : Op → Type 0 = λ o. is_rec o ≡ false in let none : is_rec (Rec i f) ≡ false = subst P d_op alone in cc)
      | inr after ↦ elim (cases_lt n r) as (λ _. ⊥) [
        | inl before ↦ (let alone = (ordered_by.bodies r d at i f d_op).alone n e there (omega (arith, ordered)) before in let P : Op → Type 0 = λ o. is_rec o ≡ false in let none : is_rec (Rec init first) ≡ false = subst P op alone in cc)
        | inr same ↦ (let equal : r ≡ n = omega arith in let P : ℕ → Type 0 = λ x. slice_get equations x ≡ Some d in let one = one_equation equations n e d there (subst P equal at) in let Q : EquationShape → Type 0 = λ x. x.op ≡ Rec init first in let ops = subst Q one op in let firsts : first ≡ f = cc in omega arith)
      ]
    ]

body_whole : (equations : List EquationShape) (n init first : ℕ) (e : EquationShape) → IsOrdered equations → slice_get equations n ≡ Some e → e.op ≡ Rec init first → IsWhole equations first
body_whole equations n init first e ordered_by there op r d at i f open_d d_op low = elim (cases_lt r first) [ inl before ↦ before | inr after ↦ absurd (around equations n init first e ordered_by there op r d at i f d_op low after) ]

-- among equations that have widths none is the first without
pub none_below : (end : ℕ) (equations : List EquationShape) (widths : List ℕ) (n : ℕ) → IsOrdered equations → end ≤ length equations → AreWidthsBelow end equations widths → n < end → IsFirstWithout equations n → ⊥
none_below end equations widths n ordered_by most all low (Lacks e less there closed outside below none) = contradiction refl where
  whole : IsWhole equations n
  whole = outside_whole equations n e there closed outside

  agree : AgreeBelow n less widths
  agree = widths_agree n equations less widths ordered_by whole (omega (arith, low, most)) below (below_fewer n end equations widths (omega (arith, low)) all) n (omega arith)

  past : (r : ℕ) → PastOf equations n r → get_or widths r 0 ≡ get_or less r 0
  past r p = by_openness (is_open p.equation) refl where
    not_open : is_open p.equation ≡ true → ⊥
    not_open is = elim (cases_lt n r) [
      | inl before ↦ outside r p.equation p.there p.init p.first is p.op p.low before
      | inr after ↦ (let high = p.high in not_itself equations n e there closed r p.equation p.there is (omega arith))
    ]

    by_openness : (b : Bool) → is_open p.equation ≡ b → get_or widths r 0 ≡ get_or less r 0
    by_openness true is = absurd (not_open is)
    by_openness false is = let d = declared_of p.equation p.init p.first p.op is in all.declared r p.equation p.there d.width d.is ∙ sym (below.declared r p.equation p.there d.width d.is)

  each : (a : Operand) → is_ordered_operand equations n a ≡ true → operand_width widths a ≡ operand_width less a
  each (Const c) lawful = refl
  each (Eq k) lawful = agree k (ltb-true k n lawful)
  each (Past r k) lawful = past r (past_of equations n r k lawful)

  contradiction : n ≡ n → ⊥
  contradiction _ =
      let kept = width_in_same less widths e (SameOperands-from_list_all less widths (is_ordered_operand equations n) e.args (ordered_by.operands n e there) each) in
      let some = all.each n e there low closed in cc
none_below end equations widths n ordered_by most all low (HoldsNowhere e init first less there open_ op below nowhere) =
    let ordered : first ≤ n = (ordered_by.bodies n e there init first op).ordered in
    let least = all.recurrences n e there init first low open_ op in
    nowhere widths (widths_agree first equations less widths ordered_by (body_whole equations n init first e ordered_by there op) (omega arith) below (below_fewer first end equations widths (omega arith) all) first (omega arith)) least.holds

first_within : (equations : List EquationShape) (n : ℕ) → IsFirstWithout equations n → n < length equations
first_within equations n (Lacks e less there closed outside below none) = slice_get_within equations n e there
first_within equations n (HoldsNowhere e init first less there open_ op below nowhere) = slice_get_within equations n e there

-- with all widths no equation lacks one
pub AreWidths-none_without : (equations : List EquationShape) (widths : List ℕ) (n : ℕ) → IsOrdered equations → AreWidths equations widths → IsFirstWithout equations n → ⊥
AreWidths-none_without equations widths n ordered_by all without = none_below (length equations) equations widths n ordered_by (omega arith) all (first_within equations n without) without

-- the body of a recurrence holds no first equation without a width
not_in_body : (equations : List EquationShape) (n init first : ℕ) (e : EquationShape) (m : ℕ) → IsOrdered equations → slice_get equations n ≡ Some e → is_open e ≡ true → e.op ≡ Rec init first → first ≤ m → m < n → IsFirstWithout equations m → ⊥
not_in_body equations n init first e m ordered_by there open_ op low high (Lacks d less at closed outside below none) = outside n e there init first open_ op low high
not_in_body equations n init first e m ordered_by there open_ op low high (HoldsNowhere d i f less at open_d d_op below nowhere) = let alone = (ordered_by.bodies n e there init first op).alone m d at low high in let P : Op → Type 0 = λ o. is_rec o ≡ false in let none : is_rec (Rec i f) ≡ false = subst P d_op alone in cc

none_before : (equations : List EquationShape) (n m : ℕ) → IsOrdered equations → m < n → IsFirstWithout equations n → IsFirstWithout equations m → ⊥
none_before equations n m ordered_by low (Lacks e less there closed outside below none) without = none_below n equations less m ordered_by (omega (arith, slice_get_within equations n e there)) below low without
none_before equations n m ordered_by low (HoldsNowhere e init first less there open_ op below nowhere) without =
    let ordered : first ≤ n = (ordered_by.bodies n e there init first op).ordered in
    elim (cases_lt m first) [
      | inl before ↦ none_below first equations less m ordered_by (omega (arith, slice_get_within equations n e there)) below before without
      | inr after ↦ not_in_body equations n init first e m ordered_by there open_ op after low without
    ]

-- one equation is the first without a width
pub IsFirstWithout-unique : (equations : List EquationShape) (n m : ℕ) → IsOrdered equations → IsFirstWithout equations n → IsFirstWithout equations m → m ≡ n
IsFirstWithout-unique equations n m ordered_by one other = elim (cases_lt m n) [
  | inl less ↦ absurd (none_before equations n m ordered_by less one other)
  | inr more ↦ elim (cases_lt n m) [
    | inl less ↦ absurd (none_before equations m n ordered_by less other one)
    | inr same ↦ omega arith
  ]
]
