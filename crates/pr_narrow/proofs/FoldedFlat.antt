-- Folded equations are flat.
use Rattle.std.proofs.Common.{◌≡◌, ℕ, zero, suc, ◌+◌, ◌<◌, Bool, true, false, ◌||◌, Option, Some, None, unwrap_or, nat_eq, nat_lt, nat_le, List, [], ◌∷◌, ◌++◌, length, get_or, refl, sym, ap, ap₂, subst, ◌∙◌, arith, length-append}
use Rattle.std.specs.List.{slice_get, list_all}
use Rattle.std.specs.Option.{option_map_or}
use Rattle.std.proofs.lemmas.Bool.{and_parts, and_from, ltb-true, le-leb}
use Rattle.std.proofs.lemmas.Option.{slice_get_within}
use Rattle.pr_flat.specs.declared.equations.Operand.{Operand}
use Rattle.pr_flat.specs.declared.equations.Operand.TheVariants.{Const, Eq, Past}
use Rattle.pr_flat.specs.declared.equations.Op.{Op}
use Rattle.pr_flat.specs.declared.equations.Op.TheVariants.{Input, Delay, Rec}
use Rattle.pr_flat.specs.Shape.{EquationShape}
use Rattle.pr_flat.specs.Facts.{is_input, has_lawful_constant, does_begin_with, begins_with, is_lawful_operand, is_in_body, op_at, IsFlat}
use Rattle.pr_flat.specs.Widths.{AreWidths}
use Rattle.pr_flat.proofs.WidthLemmas.{past_of, equation_at, one_equation}
use Rattle.pr_narrow.specs.Known.{is_steady, known_number, known_after, known_of, folded_shape, folded_by, folded}
use Rattle.pr_narrow.proofs.FlatKept.{IsKeptAs, flat_kept}
use Rattle.pr_narrow.proofs.Folding.{is_known, known_of-at}
use Rattle.pr_narrow.proofs.LawfulWidths.{lawful_below}
use Rattle.pr_narrow.proofs.NarrowedFlat.{number_kept}

length-known_after : (widths : List ℕ) (known : List (Option ℕ)) (rest : List EquationShape) → length (known_after widths known rest) ≡ length known + length rest
length-known_after widths known [] = omega arith
length-known_after widths known (e ∷ rest) =
    let o = known_number widths known (unwrap_or (slice_get widths (length known)) 0) e in
    let more = length-known_after widths (known ++ o ∷ []) rest in
    omega (arith, length-append known (o ∷ []))

pub length-known_of : (equations : List EquationShape) (widths : List ℕ) → length (known_of equations widths) ≡ length equations
length-known_of equations widths = let count = length-known_after widths [] equations in omega arith

pub folded_by-at : (known : List (Option ℕ)) (widths : List ℕ) (equations : List EquationShape) (i : ℕ) (o : Option ℕ) (e : EquationShape) → length known ≡ length equations → length widths ≡ length equations → slice_get known i ≡ Some o → slice_get equations i ≡ Some e → slice_get (folded_by known widths equations) i ≡ Some (folded_shape o (get_or widths i 0) e)
folded_by-at (p ∷ known) (w ∷ widths) (x ∷ equations) zero o e one other is there = let same : p ≡ o = cc in let equal : x ≡ e = cc in ap₂ (λ (q : Option ℕ) (y : EquationShape). Some (folded_shape q w y)) same equal
folded_by-at (p ∷ known) (w ∷ widths) (x ∷ equations) (suc i) o e one other is there = folded_by-at known widths equations i o e (omega arith) (omega arith) is there
folded_by-at known widths [] i o e one other is there = cc
folded_by-at [] widths (x ∷ equations) i o e one other is there = cc
folded_by-at (p ∷ known) [] (x ∷ equations) i o e one other is there = absurd (omega arith)

pub length-folded_by : (known : List (Option ℕ)) (widths : List ℕ) (equations : List EquationShape) → length known ≡ length equations → length widths ≡ length equations → length (folded_by known widths equations) ≡ length equations
length-folded_by (p ∷ known) (w ∷ widths) (x ∷ equations) one other = ap suc (length-folded_by known widths equations (omega arith) (omega arith))
length-folded_by [] [] [] one other = refl
length-folded_by known widths [] one other = absurd (omega arith)
length-folded_by [] widths (x ∷ equations) one other = absurd (omega arith)
length-folded_by (p ∷ known) [] (x ∷ equations) one other = absurd (omega arith)

-- the folded equation at a place
pub folded-at : (equations : List EquationShape) (outputs : List Operand) (widths : List ℕ) (i : ℕ) (e : EquationShape) → IsFlat equations outputs → AreWidths equations widths → slice_get equations i ≡ Some e → slice_get (folded equations widths) i ≡ Some (folded_shape (known_number widths (known_of equations widths) (unwrap_or (slice_get widths i) 0) e) (get_or widths i 0) e)
folded-at equations outputs widths i e flat all there = folded_by-at (known_of equations widths) widths equations i (known_number widths (known_of equations widths) (unwrap_or (slice_get widths i) 0) e) e (length-known_of equations widths) all.count (known_of-at equations widths i e there (flat.operands i e there)) there

pub length-folded : (equations : List EquationShape) (outputs : List Operand) (widths : List ℕ) → AreWidths equations widths → length (folded equations widths) ≡ length equations
length-folded equations outputs widths all = length-folded_by (known_of equations widths) widths equations (length-known_of equations widths) all.count

-- what is not steady is not folded
pub unsteady : (widths : List ℕ) (known : List (Option ℕ)) (w : ℕ) (e : EquationShape) → is_steady e.op ≡ false → known_number widths known w e ≡ None
unsteady widths known w e other = rw other refl

op_stays : (equations : List EquationShape) (outputs : List Operand) (widths : List ℕ) (j : ℕ) (x : EquationShape) → IsFlat equations outputs → AreWidths equations widths → slice_get equations j ≡ Some x → is_steady x.op ≡ false → op_at (folded equations widths) j ≡ Some x.op
op_stays equations outputs widths j x flat all there other =
    let none = unsteady widths (known_of equations widths) (unwrap_or (slice_get widths j) 0) x other in
    ap (λ (o : Option EquationShape). option_map_or (λ (y : EquationShape). Some y.op) o None) (folded-at equations outputs widths j x flat all there) ∙ ap (λ (o : Option ℕ). Some (folded_shape o (get_or widths j 0) x).op) none

begins_unsteady : (c : ℕ) (op : Op) → begins_with c op ≡ true → is_steady op ≡ false
begins_unsteady c (Rec init first) is = refl
begins_unsteady c (Delay d) is = refl
begins_unsteady c op is = cc

same_kept : (equations : List EquationShape) (outputs : List Operand) (widths : List ℕ) (i : ℕ) (e : EquationShape) → IsFlat equations outputs → AreWidths equations widths → slice_get equations i ≡ Some e → IsKeptAs (folded equations widths) i e e
same_kept equations outputs widths i e flat all there = record {
  input = refl;
  args = flat.args i e there;
  kinds = flat.kinds i e there;
  numbers = flat.numbers i e there;
  width = flat.widths i e there;
  ends = flat.ends i e there;
  constant = constant e.op e.args (flat.constants i e there) (flat.operands i e there);
  operands = operands e.args (flat.operands i e there);
  recurrence = λ init first is. (init, is);
  reads = λ j is. is;
  reads_its_past = λ rec is. is;
  operand = λ test none is. is;
} where
  new : List EquationShape
  new = folded equations widths

  within : i < length equations
  within = slice_get_within equations i e there

  or_more : (b c d : Bool) → (c ≡ true → d ≡ true) → (b || c) ≡ true → (b || d) ≡ true
  or_more true c d more any = refl
  or_more false c d more any = more any

  begins : (c : ℕ) (args : List Operand) → list_all (is_lawful_operand equations i) args ≡ true → does_begin_with equations c args ≡ true → does_begin_with new c args ≡ true
  begins c (Eq j ∷ []) lawful is =
      let less : j < i = ltb-true j i (and_parts (nat_lt j i) true lawful).0 in
      let x = equation_at equations j (omega (arith, within)) in
      let at : op_at equations j ≡ Some x.0.op = ap (λ (o : Option EquationShape). option_map_or (λ (y : EquationShape). Some y.op) o None) x.1 in
      let old : begins_with c x.0.op ≡ true = ap (λ (o : Option Op). option_map_or (begins_with c) o false) (sym at) ∙ is in
      ap (λ (o : Option Op). option_map_or (begins_with c) o false) (op_stays equations outputs widths j x.0 flat all x.1 (begins_unsteady c x.0.op old)) ∙ old
  begins c args lawful is = cc

  constant : (op : Op) (args : List Operand) → has_lawful_constant equations op args ≡ true → list_all (is_lawful_operand equations i) args ≡ true → has_lawful_constant new op args ≡ true
  constant (Delay c) args is lawful = or_more (nat_eq c 0) (does_begin_with equations c args) (does_begin_with new c args) (begins c args lawful) is
  constant op args is lawful = is

  operand : (a : Operand) → is_lawful_operand equations i a ≡ true → is_lawful_operand new i a ≡ true
  operand (Const c) lawful = lawful
  operand (Eq j) lawful = lawful
  operand (Past rec k) lawful =
      let p = past_of equations i rec k lawful in
      let first = and_parts (nat_le 1 k) (option_map_or (is_in_body i rec) (op_at equations rec) false) lawful in
      let at = op_stays equations outputs widths rec p.equation flat all p.there (ap is_steady p.op) ∙ ap Some p.op in
      and_from (nat_le 1 k) (option_map_or (is_in_body i rec) (op_at new rec) false) first.0 (ap (λ (o : Option Op). option_map_or (is_in_body i rec) o false) at ∙ and_from (nat_le p.first i) (nat_le i rec) (le-leb p.first i p.low) (le-leb i rec p.high))

  operands : (args : List Operand) → list_all (is_lawful_operand equations i) args ≡ true → list_all (is_lawful_operand new i) args ≡ true
  operands [] lawful = refl
  operands (a ∷ args) lawful = let parts = and_parts (is_lawful_operand equations i a) (list_all (is_lawful_operand equations i) args) lawful in and_from (is_lawful_operand new i a) (list_all (is_lawful_operand new i) args) (operand a parts.0) (operands args parts.1)

steady_other : (op : Op) → is_steady op ≡ true → is_input op ≡ false
steady_other Input steady = absurd (let no : false ≡ true = steady in cc)
steady_other op steady = refl

pub folded_kept : (equations : List EquationShape) (outputs : List Operand) (widths : List ℕ) (i : ℕ) (e : EquationShape) (o : Option ℕ) → IsFlat equations outputs → AreWidths equations widths → slice_get equations i ≡ Some e → known_number widths (known_of equations widths) (unwrap_or (slice_get widths i) 0) e ≡ o → IsKeptAs (folded equations widths) i e (folded_shape o (get_or widths i 0) e)
folded_kept equations outputs widths i e None flat all there is = same_kept equations outputs widths i e flat all there
folded_kept equations outputs widths i e (Some n) flat all there is =
    let k = is_known widths (known_of equations widths) (unwrap_or (slice_get widths i) 0) n e is in
    let within = slice_get_within equations i e there in
    let bounds = lawful_below equations outputs widths flat all (suc i) i (omega arith) within in
    number_kept (folded equations widths) i n (get_or widths i 0) e (steady_other e.op k.steady) k.small (and_from (nat_le 1 (get_or widths i 0)) (nat_le (get_or widths i 0) 128) (le-leb 1 (get_or widths i 0) bounds.0) (le-leb (get_or widths i 0) 128 bounds.1))

pub folded_flat : (equations : List EquationShape) (outputs : List Operand) (widths : List ℕ) → IsFlat equations outputs → AreWidths equations widths → IsFlat (folded equations widths) outputs
folded_flat equations outputs widths flat all = flat_kept equations (folded equations widths) outputs flat (length-folded equations outputs widths all) (λ i e n there at.
    let o = known_number widths (known_of equations widths) (unwrap_or (slice_get widths i) 0) e in
    let same = one_equation (folded equations widths) i (folded_shape o (get_or widths i 0) e) n (folded-at equations outputs widths i e flat all there) at in
    let P : EquationShape → Type 0 = λ x. IsKeptAs (folded equations widths) i e x in
    subst P same (folded_kept equations outputs widths i e o flat all there refl))
