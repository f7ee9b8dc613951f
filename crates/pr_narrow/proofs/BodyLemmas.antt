-- What the passes over the equations keep.
use Rattle.std.proofs.Common.{◌≡◌, ℕ, zero, suc, ◌+◌, ◌^◌, ◌<◌, ◌≤◌, ◌%◌, Bool, true, false, Option, Some, None, unwrap_or, List, [], ◌∷◌, ◌++◌, length, take, drop, set, get_or, refl, sym, ap, ap₂, subst, ◌∙◌, inl, inr, arith, length-append, not, ◌&&◌, is_some}
use Rattle.std.specs.Option.{option_map_or}
use Rattle.pr_width.proofs.SolverLemmas.{shape_at}
use Rattle.std.specs.List.{slice_get, list_all}
use Rattle.std.proofs.lemmas.Bool.{cases_lt, and_parts, ltb-true}
use Rattle.std.proofs.lemmas.List.{map-set, map-append, append-nil}
use Rattle.std.proofs.lemmas.Option.{slice_get_within, get_or_from_slice_get}
use Rattle.std.proofs.Math.Seq.{take-suc}
use Rattle.std.proofs.Math.ListN.{drop_of_length-le}
use Rattle.std.proofs.Math.Nat.{mod-eq_of_lt, pow-le-pow_right}
use Rattle.pr_flat.specs.declared.equations.Operand.{Operand}
use Rattle.pr_flat.specs.declared.equations.Operand.TheVariants.{Const, Eq, Past}
use Rattle.pr_flat.specs.declared.equations.Equation.{Equation}
use Rattle.pr_flat.specs.Shape.{EquationShape, equation_shape, shapes_of}
use Rattle.pr_flat.specs.Facts.{arity, is_rec, is_lawful_operand, IsFlat}
use Rattle.pr_flat.specs.declared.equations.Op.{Op}
use Rattle.pr_flat.specs.declared.equations.Op.TheVariants.{Input, Rec}
use Rattle.pr_flat.specs.declared.forms.Form.{Form}
use Rattle.pr_flat.specs.declared.forms.Point.{Point}
use Rattle.pr_flat.specs.Rows.{forms_of, takes, natural_width}
use Rattle.pr_flat.specs.Forms.{IsPoint, number_width}
use Rattle.pr_flat.proofs.NumberLemmas.{number_width-holds}
use Rattle.pr_flat.specs.Widths.{AreWidths, operand_width, operand_forms, forms_in, settled_width, is_open}
use Rattle.pr_width.specs.Reads.{is_within}
use Rattle.pr_flat.proofs.FormLemmas.{residue-lt}
use Rattle.pr_narrow.specs.Known.{is_steady, known_operand, known_point, with_point, known_points, known_number, known_after, known_of, folded_shape, folded_by}
use Rattle.pr_narrow.specs.Narrowed.{narrowed_shape, narrowed_by, new_width, widths_after, new_widths}
use Rattle.pr_narrow.specs.Passes.{AreWide, HaveBits}
use Rattle.pr_narrow.proofs.Folding.{is_known, width_read, seam, stays}
use Rattle.pr_narrow.proofs.FoldedFlat.{folded_by-at, length-folded_by}
use Rattle.pr_narrow.specs.Known.{folded}
use Rattle.pr_narrow.specs.Demand.{IsDemand}
use Rattle.pr_narrow.proofs.FoldedFlat.{length-folded}
use Rattle.pr_narrow.proofs.NarrowedFlat.{narrowed_flat}
use Rattle.pr_narrow.proofs.NarrowedWidths.{narrowed_widths}
use Rattle.pr_narrow.proofs.Narrowing.{given_of}
use Rattle.pr_narrow.proofs.NewWidths.{length-new_widths}
use Rattle.pr_narrow.proofs.LawfulWidths.{lawful_below}
use Rattle.pr_narrow.proofs.ServeLemmas.{shapes_count}
use Rattle.pr_narrow.proofs.RowsKept.{number_width-bounds, taken}
use Rattle.pr_narrow.proofs.Folding.{with_parts}
use Rattle.pr_narrow.proofs.NewWidths.{narrowed_by-at, length-narrowed_by}

pub shapes_length : (equations : List Equation) → length (shapes_of equations) ≡ length equations
shapes_length equations = sym (shapes_count equations (length equations) refl)

-- ---- forward over the equations
pub shapes_drop : (equations : List Equation) (i : ℕ) (x : Equation) → i < length equations → x ≡ get_or equations i x → drop i (shapes_of equations) ≡ equation_shape x ∷ drop (suc i) (shapes_of equations)
shapes_drop [] i x within read = absurd (omega arith)
shapes_drop (y ∷ equations) zero x within read = ap (λ (z : Equation). equation_shape z ∷ shapes_of equations) (sym read)
shapes_drop (y ∷ equations) (suc i) x within read = shapes_drop equations i x (omega arith) read

pub known_step : (equations : List EquationShape) (widths : List ℕ) (known : List (Option ℕ)) (i w : ℕ) (e : EquationShape) (o : Option ℕ) → length known ≡ i → w ≡ get_or widths i 0 → drop i equations ≡ e ∷ drop (suc i) equations → o ≡ known_number widths known w e → known_after widths known (drop i equations) ≡ known_of equations widths → known_after widths (known ++ o ∷ []) (drop (i + 1) equations) ≡ known_of equations widths
known_step equations widths known i w e o count width cons is before =
    let same : w ≡ unwrap_or (slice_get widths (length known)) 0 = width ∙ ap (λ k. get_or widths k 0) (sym count) ∙ sym (width_read widths (length known)) in
    let next : i + 1 ≡ suc i = omega arith in
    ap (λ (j : ℕ). known_after widths (known ++ o ∷ []) (drop j equations)) next ∙ ap (λ (v : Option ℕ). known_after widths (known ++ v ∷ []) (drop (suc i) equations)) (is ∙ ap (λ v. known_number widths known v e) same) ∙ ap (λ (es : List EquationShape). known_after widths known es) (sym cons) ∙ before

pub widths_step : (equations : List EquationShape) (widths demand news : List ℕ) (i w d n : ℕ) (e : EquationShape) → length news ≡ i → w ≡ get_or widths i 0 → d ≡ get_or demand i 0 → drop i equations ≡ e ∷ drop (suc i) equations → n ≡ new_width demand news w d e → widths_after widths demand news (drop i equations) ≡ new_widths equations widths demand → widths_after widths demand (news ++ n ∷ []) (drop (i + 1) equations) ≡ new_widths equations widths demand
widths_step equations widths demand news i w d n e count width bits cons is before =
    let one : w ≡ get_or widths (length news) 0 = width ∙ ap (λ k. get_or widths k 0) (sym count) in
    let other : d ≡ get_or demand (length news) 0 = bits ∙ ap (λ k. get_or demand k 0) (sym count) in
    let next : i + 1 ≡ suc i = omega arith in
    ap (λ (j : ℕ). widths_after widths demand (news ++ n ∷ []) (drop j equations)) next ∙ ap (λ (v : ℕ). widths_after widths demand (news ++ v ∷ []) (drop (suc i) equations)) (is ∙ ap₂ (λ x y. new_width demand news x y e) one other) ∙ ap (λ (es : List EquationShape). widths_after widths demand news es) (sym cons) ∙ before

-- a number that is known has the bits of its width
known_fits : (widths : List ℕ) (known : List (Option ℕ)) (w n : ℕ) (e : EquationShape) → known_number widths known w e ≡ Some n → n < 2 ^ w
known_fits widths known w n e is =
    let k = is_known widths known w n e is in
    let P : ℕ → Type 0 = λ m. m < 2 ^ w in
    subst P (sym k.number) (residue-lt w _)

pub bits_more : (widths : List ℕ) (known : List (Option ℕ)) (i w : ℕ) (e : EquationShape) (o : Option ℕ) → length known ≡ i → w ≡ get_or widths i 0 → o ≡ known_number widths known w e → HaveBits widths known → HaveBits widths (known ++ o ∷ [])
bits_more widths known i w e o count width is before k n there = elim (cases_lt k (length known)) [
  | inl low ↦ before k n (sym (stays known (o ∷ []) k low) ∙ there)
  | inr high ↦ here high
] where
  here : length known ≤ k → n < 2 ^ get_or widths k 0
  here high =
      let less = slice_get_within (known ++ o ∷ []) k (Some n) there in
      let last : k ≡ length known = omega (arith, length-append known (o ∷ [])) in
      let P : ℕ → Type 0 = λ j. slice_get (known ++ o ∷ []) j ≡ Some (Some n) in
      let equal : Some o ≡ Some (Some n) = sym (seam known o) ∙ subst P last there in
      let number : o ≡ Some n = cc in
      let Q : ℕ → Type 0 = λ v. n < 2 ^ v in
      subst Q (width ∙ ap (λ j. get_or widths j 0) (sym count ∙ sym last)) (known_fits widths known w n e (sym is ∙ number))

-- the widths of flat equations are those that numbers can have
pub wide_of : (equations : List EquationShape) (outputs : List Operand) (widths : List ℕ) → IsFlat equations outputs → AreWidths equations widths → AreWide widths
wide_of equations outputs widths flat all i low = lawful_below equations outputs widths flat all (suc i) i (omega arith) (omega (arith, all.count))

-- ---- a number in its place
pub folded_step : (equations folded : List Equation) (widths : List ℕ) (known : List (Option ℕ)) (i w : ℕ) (x y : Equation) (o : Option ℕ) → length known ≡ length equations → length widths ≡ length equations → i < length equations → slice_get (shapes_of equations) i ≡ Some (equation_shape x) → slice_get known i ≡ Some o → w ≡ get_or widths i 0 → equation_shape y ≡ folded_shape o w (equation_shape x) → shapes_of folded ≡ take i (folded_by known widths (shapes_of equations)) → shapes_of (folded ++ y ∷ []) ≡ take (i + 1) (folded_by known widths (shapes_of equations))
folded_step equations folded widths known i w x y o one other within there number width is before =
    let next : suc i ≡ i + 1 = omega arith in
    let count = shapes_length equations in
    let all = folded_by known widths (shapes_of equations) in
    let long = length-folded_by known widths (shapes_of equations) (one ∙ sym count) (other ∙ sym count) in
    let at = folded_by-at known widths (shapes_of equations) i o (equation_shape x) (one ∙ sym count) (other ∙ sym count) number there in
    let same : get_or all i (equation_shape y) ≡ equation_shape y = get_or_from_slice_get all i (folded_shape o (get_or widths i 0) (equation_shape x)) (equation_shape y) at ∙ ap (λ v. folded_shape o v (equation_shape x)) (sym width) ∙ sym is in
    map-append equation_shape folded (y ∷ []) ∙ ap₂ (λ (xs : List EquationShape) (z : EquationShape). xs ++ z ∷ []) before (sym same) ∙ sym (take-suc all i (equation_shape y) (omega (arith, long, count))) ∙ ap (λ (j : ℕ). take j all) next

-- ---- cut in place
set_step : (news olds : List EquationShape) (i : ℕ) (y : EquationShape) → length news ≡ length olds → slice_get news i ≡ Some y → set (take i news ++ drop i olds) i y ≡ take (suc i) news ++ drop (suc i) olds
set_step [] olds i y count is = cc
set_step (n ∷ news) [] i y count is = absurd (omega arith)
set_step (n ∷ news) (o ∷ olds) zero y count is = let same : n ≡ y = cc in ap (λ (z : EquationShape). z ∷ olds) (sym same)
set_step (n ∷ news) (o ∷ olds) (suc i) y count is = ap (λ (xs : List EquationShape). n ∷ xs) (set_step news olds i y (omega arith) is)

pub narrowed_step : (equations : List Equation) (news olds : List EquationShape) (i : ℕ) (y : Equation) → length news ≡ length olds → slice_get news i ≡ Some (equation_shape y) → shapes_of equations ≡ take i news ++ drop i olds → shapes_of (set equations i y) ≡ take (i + 1) news ++ drop (i + 1) olds
narrowed_step equations news olds i y count is before = map-set equation_shape equations i y ∙ ap (λ (xs : List EquationShape). set xs i (equation_shape y)) before ∙ set_step news olds i (equation_shape y) count is ∙ ap (λ (j : ℕ). take j news ++ drop j olds) (let next : suc i ≡ i + 1 = omega arith in next)

pub rest_at : (news olds : List EquationShape) (i : ℕ) → length news ≡ length olds → slice_get (take i news ++ drop i olds) i ≡ slice_get olds i
rest_at news olds zero count = refl
rest_at [] [] (suc i) count = refl
rest_at (n ∷ news) (o ∷ olds) (suc i) count = rest_at news olds i (omega arith)
rest_at [] (o ∷ olds) (suc i) count = absurd (omega arith)
rest_at (n ∷ news) [] (suc i) count = absurd (omega arith)

pub kept_whole : (n width : ℕ) → n < 2 ^ 64 → 64 ≤ width → n ≡ n % 2 ^ width
kept_whole n width low most =
    let more : 2 ^ 64 ≤ 2 ^ width = pow-le-pow_right (omega arith) most in
    sym (mod-eq_of_lt (omega arith))

-- ---- operands as they are read
abbrev pub PointAt : List ℕ → List (Option ℕ) → List Operand → List Bool → ℕ → Option Point → Type 0
PointAt widths known args kinds place r = (a : Operand) (kind : Bool) → slice_get args place ≡ Some a → slice_get kinds place ≡ Some kind → r ≡ known_point kind (operand_width widths a) (known_operand known a)

none_first : (kind : Bool) (w : ℕ) (o : Option ℕ) (p : Option (List Point)) → None ≡ known_point kind w o → with_point kind w o p ≡ None
none_first kind w None p is = refl
none_first kind w (Some n) p is = cc

none_later : (kind : Bool) (w : ℕ) (o : Option ℕ) (p : Option (List Point)) → p ≡ None → with_point kind w o p ≡ None
none_later kind w None p is = refl
none_later kind w (Some n) None is = refl
none_later kind w (Some n) (Some ps) is = cc

some_first : (kind : Bool) (w : ℕ) (o : Option ℕ) (p : Option (List Point)) (one : Point) (points : List Point) → Some one ≡ known_point kind w o → p ≡ Some points → with_point kind w o p ≡ Some (one ∷ points)
some_first kind w None p one points is rest = cc
some_first kind w (Some n) (Some ps) one points is rest =
    let same : one ≡ record { form = record { signed = kind; width = w }; number = n } = cc in
    let equal : ps ≡ points = cc in
    ap₂ (λ (x : Point) (xs : List Point). Some (x ∷ xs)) (sym same) equal
some_first kind w (Some n) None one points is rest = cc

-- no number where one is not known
pub points_none : (widths : List ℕ) (known : List (Option ℕ)) (args : List Operand) (kinds : List Bool) (place : ℕ) → place < length args → place < length kinds → PointAt widths known args kinds place None → known_points widths known args kinds ≡ None
points_none widths known [] kinds place low also is = absurd (omega arith)
points_none widths known (a ∷ args) [] place low also is = absurd (omega arith)
points_none widths known (a ∷ args) (k ∷ kinds) zero low also is = none_first k (operand_width widths a) (known_operand known a) (known_points widths known args kinds) (is a k refl refl)
points_none widths known (a ∷ args) (k ∷ kinds) (suc place) low also is = none_later k (operand_width widths a) (known_operand known a) (known_points widths known args kinds) (points_none widths known args kinds place (omega arith) (omega arith) (λ b j here there. is b j here there))

pub points_end : (widths : List ℕ) (known : List (Option ℕ)) (args : List Operand) (kinds : List Bool) → length args ≡ 0 → known_points widths known args kinds ≡ Some []
points_end widths known [] kinds count = refl
points_end widths known (a ∷ args) kinds count = absurd (omega arith)

pub points_one : (widths : List ℕ) (known : List (Option ℕ)) (args : List Operand) (kinds : List Bool) (p : Point) → length args ≡ 1 → length kinds ≡ 1 → PointAt widths known args kinds 0 (Some p) → known_points widths known args kinds ≡ Some (p ∷ [])
points_one widths known (a ∷ args) (k ∷ kinds) p count also is = some_first k (operand_width widths a) (known_operand known a) (known_points widths known args kinds) p [] (is a k refl refl) (points_end widths known args kinds (omega arith))
points_one widths known [] kinds p count also is = absurd (omega arith)
points_one widths known (a ∷ args) [] p count also is = absurd (omega arith)

pub points_two : (widths : List ℕ) (known : List (Option ℕ)) (args : List Operand) (kinds : List Bool) (p q : Point) → length args ≡ 2 → length kinds ≡ 2 → PointAt widths known args kinds 0 (Some p) → PointAt widths known args kinds 1 (Some q) → known_points widths known args kinds ≡ Some (p ∷ q ∷ [])
points_two widths known (a ∷ args) (k ∷ kinds) p q count also is then = some_first k (operand_width widths a) (known_operand known a) (known_points widths known args kinds) p (q ∷ []) (is a k refl refl) (points_one widths known args kinds q (omega arith) (omega arith) (λ b j here there. then b j here there))
points_two widths known [] kinds p q count also is then = absurd (omega arith)
points_two widths known (a ∷ args) [] p q count also is then = absurd (omega arith)

pub points_three : (widths : List ℕ) (known : List (Option ℕ)) (args : List Operand) (kinds : List Bool) (p q r : Point) → length args ≡ 3 → length kinds ≡ 3 → PointAt widths known args kinds 0 (Some p) → PointAt widths known args kinds 1 (Some q) → PointAt widths known args kinds 2 (Some r) → known_points widths known args kinds ≡ Some (p ∷ q ∷ r ∷ [])
points_three widths known (a ∷ args) (k ∷ kinds) p q r count also is then last = some_first k (operand_width widths a) (known_operand known a) (known_points widths known args kinds) p (q ∷ r ∷ []) (is a k refl refl) (points_two widths known args kinds q r (omega arith) (omega arith) (λ b j here there. then b j here there) (λ b j here there. last b j here there))
points_three widths known [] kinds p q r count also is then last = absurd (omega arith)
points_three widths known (a ∷ args) [] p q r count also is then last = absurd (omega arith)

-- the forms of known operands are those of all
pub forms_known : (widths : List ℕ) (known : List (Option ℕ)) (args : List Operand) (kinds : List Bool) (points : List Point) → length args ≡ length kinds → known_points widths known args kinds ≡ Some points → forms_of points ≡ operand_forms widths args kinds
forms_known widths known [] kinds points same are = let none : points ≡ [] = cc in ap forms_of none
forms_known widths known (a ∷ args) [] points same are = absurd (omega arith)
forms_known widths known (a ∷ args) (k ∷ kinds) points same are =
    let p = with_parts k (operand_width widths a) (known_operand known a) (known_points widths known args kinds) points are in
    ap forms_of p.points_are ∙ ap (λ (fs : List Form). record { signed = k; width = operand_width widths a } ∷ fs) (forms_known widths known args kinds p.rest (omega arith) p.rest_are)

pub takes_known : (widths : List ℕ) (known : List (Option ℕ)) (op : Op) (args : List Operand) (kinds : List Bool) (points : List Point) → length args ≡ length kinds → known_points widths known args kinds ≡ Some points → takes op (operand_forms widths args kinds) ≡ true → takes op (forms_of points) ≡ true
takes_known widths known op args kinds points same are taken = ap (takes op) (forms_known widths known args kinds points same are) ∙ taken

pub steady_some : (op : Op) → is_steady op ≡ true → 1 ≤ arity op
steady_some Input is = cc
steady_some op is = omega arith

-- a number that is known is one of its operand's width
pub point_lawful : (widths : List ℕ) (known : List (Option ℕ)) (a : Operand) (signed : Bool) (n w v : ℕ) → is_within (length widths) a ≡ true → AreWide widths → HaveBits widths known → (v < 2 ^ 64) → known_operand known a ≡ Some n → w ≡ operand_width widths a → v ≡ n → IsPoint (record { form = record { signed = signed; width = w }; number = v })
point_lawful widths known (Const c) signed n w v within wide bits small is width number =
    let same : c ≡ n = cc in
    let bounds = number_width-bounds c in
    let few : c < 2 ^ 64 = omega (arith, same, number, small) in
    let low = number_width-holds c few in
    let P : ℕ → Type 0 = λ x. v < 2 ^ x in
    let Q : ℕ → Type 0 = λ x. x < 2 ^ number_width c in
    record { form = record { positive = omega (arith, width, bounds.0); greatest = omega (arith, width, bounds.1) }; below = subst P (sym width) (subst Q (same ∙ sym number) low) }
point_lawful widths known (Eq i) signed n w v within wide bits small is width number =
    let low = ltb-true i (length widths) within in
    let bounds = wide i low in
    let P : ℕ → Type 0 = λ x. v < 2 ^ x in
    let Q : ℕ → Type 0 = λ x. x < 2 ^ get_or widths i 0 in
    record { form = record { positive = omega (arith, width, bounds.0); greatest = omega (arith, width, bounds.1) }; below = subst P (sym width) (subst Q (sym number) (bits i n (at (slice_get known i) refl is))) } where
      at : (o : Option (Option ℕ)) → slice_get known i ≡ o → option_map_or (λ x. x) o None ≡ Some n → slice_get known i ≡ Some (Some n)
      at None there equal = cc
      at (Some x) there equal = there ∙ ap (λ (y : Option ℕ). Some y) equal
point_lawful widths known (Past rec k) signed n w v within wide bits small is width number = cc

pub one_within : (n place : ℕ) (args : List Operand) (a : Operand) → list_all (is_within n) args ≡ true → slice_get args place ≡ Some a → is_within n a ≡ true
one_within n place [] a all there = cc
one_within n zero (x ∷ args) a all there = let same : x ≡ a = cc in ap (is_within n) (sym same) ∙ (and_parts (is_within n x) (list_all (is_within n) args) all).0
one_within n (suc place) (x ∷ args) a all there = one_within n place args a (and_parts (is_within n x) (list_all (is_within n) args) all).1 there

-- a steady operation takes its operands
pub steady_taken : (equations : List EquationShape) (widths : List ℕ) (i : ℕ) (e : EquationShape) → AreWidths equations widths → slice_get equations i ≡ Some e → is_steady e.op ≡ true → takes e.op (forms_in widths e) ≡ true
steady_taken equations widths i e all there steady =
    let closed : is_open e ≡ false = ap (λ (b : Bool). b && not (is_some e.declared)) (no_rec e.op steady) in
    taken (takes e.op (forms_in widths e)) (settled_width e.declared (natural_width e.op (forms_in widths e))) (get_or widths i 0) (all.each i e there (slice_get_within equations i e there) closed) where
      no_rec : (op : Op) → is_steady op ≡ true → is_rec op ≡ false
      no_rec (Rec init first) is = cc
      no_rec op is = refl

-- the first operand of an equation stands before it
pub first_before : (equations : List EquationShape) (i j : ℕ) (args : List Operand) → list_all (is_lawful_operand equations i) args ≡ true → slice_get args 0 ≡ Some (Eq j) → j < i
first_before equations i j [] lawful there = cc
first_before equations i j (a ∷ args) lawful there =
    let same : a ≡ Eq j = cc in
    let P : Operand → Type 0 = λ b. is_lawful_operand equations i b ≡ true in
    ltb-true j i (subst P same (and_parts (is_lawful_operand equations i a) (list_all (is_lawful_operand equations i) args) lawful).0)

-- what an equation to be cut is
pub record IsNext (equations : List Equation) (olds news : List EquationShape) (demand widths : List ℕ) (i : ℕ) (x : Equation) : Type 0 where
  pub there : slice_get olds i ≡ Some (equation_shape x)
  pub long : length news ≡ length olds
  pub changed : slice_get news i ≡ Some (narrowed_shape (get_or demand i 0) (get_or widths i 0) (equation_shape x))

pub next_is : (equations olds : List Equation) (demand widths : List ℕ) (i : ℕ) (x : Equation) → length demand ≡ length olds → length widths ≡ length olds → length equations ≡ length olds → i < length equations → x ≡ get_or equations i x → shapes_of equations ≡ take i (narrowed_by demand widths (shapes_of olds)) ++ drop i (shapes_of olds) → IsNext equations (shapes_of olds) (narrowed_by demand widths (shapes_of olds)) demand widths i x
next_is equations olds demand widths i x one other count within read made =
    let long = shapes_length olds in
    let all = narrowed_by demand widths (shapes_of olds) in
    let same = length-narrowed_by demand widths (shapes_of olds) (one ∙ sym long) (other ∙ sym long) in
    let there = sym (rest_at all (shapes_of olds) i same) ∙ ap (λ (es : List EquationShape). slice_get es i) (sym made) ∙ shape_at equations i x within read in
    record { there = there; long = same; changed = narrowed_by-at demand widths (shapes_of olds) i (equation_shape x) (one ∙ sym long) (other ∙ sym long) there }

pub take_all : (xs : List EquationShape) (i : ℕ) → length xs ≤ i → take i xs ≡ xs
take_all [] zero all = refl
take_all [] (suc i) all = refl
take_all (x ∷ xs) zero all = absurd (omega arith)
take_all (x ∷ xs) (suc i) all = ap (λ (ys : List EquationShape). x ∷ ys) (take_all xs i (omega arith))

pub cut_end : (equations olds : List Equation) (demand widths : List ℕ) (i : ℕ) → length demand ≡ length olds → length widths ≡ length olds → length olds ≤ i → shapes_of equations ≡ take i (narrowed_by demand widths (shapes_of olds)) ++ drop i (shapes_of olds) → shapes_of equations ≡ narrowed_by demand widths (shapes_of olds)
cut_end equations olds demand widths i one other all made =
    let long = shapes_length olds in
    let news = narrowed_by demand widths (shapes_of olds) in
    let same = length-narrowed_by demand widths (shapes_of olds) (one ∙ sym long) (other ∙ sym long) in
    made ∙ ap₂ (λ (xs ys : List EquationShape). xs ++ ys) (take_all news i (omega (arith, same, long))) (drop_of_length-le (shapes_of olds) (omega (arith, long))) ∙ append-nil news

pub fold_end : (equations folded : List Equation) (widths : List ℕ) (known : List (Option ℕ)) (i : ℕ) → length known ≡ length equations → length widths ≡ length equations → length equations ≤ i → shapes_of folded ≡ take i (folded_by known widths (shapes_of equations)) → shapes_of folded ≡ folded_by known widths (shapes_of equations)
fold_end equations folded widths known i one other all made =
    let long = shapes_length equations in
    let same = length-folded_by known widths (shapes_of equations) (one ∙ sym long) (other ∙ sym long) in
    made ∙ take_all (folded_by known widths (shapes_of equations)) i (omega (arith, same, long))

-- as many equations as there were
pub fold_long : (equations : List EquationShape) (outputs : List Operand) (made : List Equation) (widths same : List ℕ) → AreWidths equations widths → same ≡ widths → shapes_of made ≡ folded equations same → length same ≡ length made
fold_long equations outputs made widths same all is folds =
    let one = length-folded equations outputs widths all in
    let other = shapes_length made in
    let count = ap (λ (es : List EquationShape). length es) (folds ∙ ap (folded equations) is) in
    let long = ap (λ (ws : List ℕ). length ws) is in
    omega (arith, one, other, count, long, all.count)

-- what narrowing leaves of folded equations
pub record IsCut (equations : List EquationShape) (outputs : List Operand) (demand news : List ℕ) : Type 0 where
  pub count : length news ≡ length equations
  pub some : (i : ℕ) → i < length equations → 1 ≤ get_or news i 0
  pub flat : IsFlat (narrowed_by demand news equations) outputs
  pub wide : AreWidths (narrowed_by demand news equations) news

cut_core : (equations : List EquationShape) (outputs : List Operand) (widths demand : List ℕ) → IsFlat equations outputs → AreWidths equations widths → IsDemand (folded equations widths) outputs widths demand → IsCut (folded equations widths) outputs demand (new_widths (folded equations widths) widths demand)
cut_core equations outputs widths demand flat all demanded =
    let f = folded equations widths in
    let news = new_widths f widths demand in
    let g = given_of equations outputs widths demand flat all demanded in
    let flat_now = narrowed_flat f outputs widths demand g in
    let wide_now = narrowed_widths f outputs widths demand g in
    let count = length-new_widths f widths demand in
    let long = length-narrowed_by demand news f demanded.count count in
    record {
      count = count;
      some = λ i low. (lawful_below (narrowed_by demand news f) outputs news flat_now wide_now (suc i) i (omega arith) (omega (arith, long))).0;
      flat = flat_now;
      wide = wide_now;
    }

pub cut_is : (equations f : List EquationShape) (outputs outs : List Operand) (widths one two three demand four five news six : List ℕ) → IsFlat equations outputs → AreWidths equations widths → one ≡ widths → two ≡ widths → three ≡ widths → f ≡ folded equations one → outs ≡ outputs → IsDemand f outs two demand → four ≡ demand → five ≡ demand → news ≡ new_widths f three four → six ≡ news → IsCut f outs five six
cut_is equations f outputs outs widths one two three demand four five news six flat all one_is two_is three_is folds given demanded four_is five_is news_are six_are =
    let whole : f ≡ folded equations widths = folds ∙ ap (folded equations) one_is in
    let D : List EquationShape → Type 0 = λ x. IsDemand x outs two demand in
    let E : List Operand → Type 0 = λ x. IsDemand (folded equations widths) x two demand in
    let F : List ℕ → Type 0 = λ x. IsDemand (folded equations widths) outputs x demand in
    let core = cut_core equations outputs widths demand flat all (subst F two_is (subst E given (subst D whole demanded))) in
    let end : six ≡ new_widths (folded equations widths) widths demand = six_are ∙ news_are ∙ ap₂ (λ (w d : List ℕ). new_widths f w d) three_is four_is ∙ ap (λ (x : List EquationShape). new_widths x widths demand) whole in
    let P : List ℕ → Type 0 = λ x. IsCut (folded equations widths) outputs demand x in
    let Q : List ℕ → Type 0 = λ x. IsCut (folded equations widths) outputs x six in
    let R : List Operand → Type 0 = λ x. IsCut (folded equations widths) x five six in
    let S : List EquationShape → Type 0 = λ x. IsCut x outs five six in
    subst S (sym whole) (subst R (sym given) (subst Q (sym five_is) (subst P (sym end) core)))
