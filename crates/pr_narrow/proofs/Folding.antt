-- What is known without a sample, in each row.
use Rattle.std.proofs.Common.{◌≡◌, ℕ, zero, suc, ◌+◌, ◌^◌, ◌<◌, Bool, true, false, Option, Some, None, unwrap_or, cond, nat_lt, List, [], ◌∷◌, ◌++◌, length, get_or, refl, sym, ap, ap₂, subst, ◌∙◌, arith, length-append}
use Rattle.std.specs.List.{slice_get, list_all}
use Rattle.std.specs.Option.{option_map_or}
use Rattle.std.proofs.lemmas.Bool.{and_parts, ltb-true}
use Rattle.pr_flat.specs.declared.equations.Operand.{Operand}
use Rattle.pr_flat.specs.declared.equations.Operand.TheVariants.{Const, Eq, Past}
use Rattle.pr_flat.specs.declared.forms.Point.{Point}
use Rattle.pr_flat.specs.Shape.{EquationShape}
use Rattle.pr_flat.specs.Facts.{is_lawful_operand, IsFlat}
use Rattle.pr_flat.specs.Widths.{operand_width}
use Rattle.pr_flat.specs.Values.{Sight, operand_number, points_in, operator_number, row_of}
use Rattle.pr_flat.proofs.WidthLemmas.{equation_at}
use Rattle.pr_flat.proofs.ValueLemmas.{row_of-at}
use Rattle.pr_narrow.specs.Known.{is_steady, known_operand, with_point, known_points, short, known_number, known_after, known_of}
use Rattle.pr_narrow.proofs.RowsKept.{steady_number}

-- what is known of an equation
abbrev pub known_at : List (Option ℕ) → ℕ → Option ℕ
known_at known i = option_map_or (λ o. o) (slice_get known i) None

-- the list that what is known begins with stays
pub seam : (known : List (Option ℕ)) (o : Option ℕ) → slice_get (known ++ o ∷ []) (length known) ≡ Some o
seam [] o = refl
seam (x ∷ known) o = seam known o

pub stays : (known more : List (Option ℕ)) (i : ℕ) → i < length known → slice_get (known ++ more) i ≡ slice_get known i
stays [] more i low = absurd (omega arith)
stays (x ∷ known) more zero low = refl
stays (x ∷ known) more (suc i) low = stays known more i (omega arith)

known_after-kept : (widths : List ℕ) (known : List (Option ℕ)) (rest : List EquationShape) (i : ℕ) → i < length known → slice_get (known_after widths known rest) i ≡ slice_get known i
known_after-kept widths known [] i low = refl
known_after-kept widths known (e ∷ rest) i low =
    let o = known_number widths known (unwrap_or (slice_get widths (length known)) 0) e in
    let more : i < length (known ++ o ∷ []) = omega (arith, length-append known (o ∷ [])) in
    known_after-kept widths (known ++ o ∷ []) rest i more ∙ stays known (o ∷ []) i low

-- what is known comes from what is known of earlier equations
points_same : (equations : List EquationShape) (widths : List ℕ) (known others : List (Option ℕ)) (i : ℕ) (args : List Operand) (kinds : List Bool) → list_all (is_lawful_operand equations i) args ≡ true → ((j : ℕ) → j < i → slice_get known j ≡ slice_get others j) → known_points widths known args kinds ≡ known_points widths others args kinds
points_same equations widths known others i [] kinds lawful same = refl
points_same equations widths known others i (a ∷ args) [] lawful same = refl
points_same equations widths known others i (a ∷ args) (kind ∷ kinds) lawful same =
    let parts = and_parts (is_lawful_operand equations i a) (list_all (is_lawful_operand equations i) args) lawful in
    ap₂ (with_point kind (operand_width widths a)) (one a parts.0) (points_same equations widths known others i args kinds parts.1 same) where
      one : (b : Operand) → is_lawful_operand equations i b ≡ true → known_operand known b ≡ known_operand others b
      one (Const c) lawful_b = refl
      one (Eq j) lawful_b = ap (λ (x : Option (Option ℕ)). option_map_or (λ o. o) x None) (same j (ltb-true j i lawful_b))
      one (Past rec k) lawful_b = refl

number_same : (equations : List EquationShape) (widths : List ℕ) (known others : List (Option ℕ)) (i w : ℕ) (e : EquationShape) → list_all (is_lawful_operand equations i) e.args ≡ true → ((j : ℕ) → j < i → slice_get known j ≡ slice_get others j) → known_number widths known w e ≡ known_number widths others w e
number_same equations widths known others i w e lawful same = ap (λ (ps : Option (List Point)). cond (is_steady e.op) (option_map_or (λ points. short (operator_number w e.op points)) ps None) None) (points_same equations widths known others i e.args e.kinds lawful same)

known_after-at : (equations : List EquationShape) (widths : List ℕ) (known : List (Option ℕ)) (rest : List EquationShape) (k : ℕ) (e : EquationShape) → slice_get rest k ≡ Some e → list_all (is_lawful_operand equations (length known + k)) e.args ≡ true → slice_get (known_after widths known rest) (length known + k) ≡ Some (known_number widths (known_after widths known rest) (unwrap_or (slice_get widths (length known + k)) 0) e)
known_after-at equations widths known [] k e there lawful = cc
known_after-at equations widths known (d ∷ rest) zero e there lawful =
    let n = length known in
    let same : d ≡ e = cc in
    let here : n ≡ n + 0 = omega arith in
    let w = unwrap_or (slice_get widths n) 0 in
    let o = known_number widths known w d in
    let all = known_after widths known (d ∷ rest) in
    let P : ℕ → Type 0 = λ i. list_all (is_lawful_operand equations i) e.args ≡ true in
    let Q : EquationShape → Type 0 = λ x. list_all (is_lawful_operand equations n) x.args ≡ true in
    let lawful_here : list_all (is_lawful_operand equations n) d.args ≡ true = subst Q (sym same) (subst P (sym here) lawful) in
    let less : n < length (known ++ o ∷ []) = omega (arith, length-append known (o ∷ [])) in
    let value : slice_get all n ≡ Some o = known_after-kept widths (known ++ o ∷ []) rest n less ∙ seam known o in
    let kept : o ≡ known_number widths all w d = number_same equations widths known all n w d lawful_here (λ j low. sym (known_after-kept widths known (d ∷ rest) j low)) in
    let R : EquationShape → Type 0 = λ x. slice_get all n ≡ Some (known_number widths all w x) in
    let S : ℕ → Type 0 = λ i. slice_get all i ≡ Some (known_number widths all (unwrap_or (slice_get widths i) 0) e) in
    subst S here (subst R same (value ∙ ap Some kept))
known_after-at equations widths known (d ∷ rest) (suc k) e there lawful =
    let o = known_number widths known (unwrap_or (slice_get widths (length known)) 0) d in
    let place : length (known ++ o ∷ []) + k ≡ length known + suc k = omega (arith, length-append known (o ∷ [])) in
    let all = known_after widths known (d ∷ rest) in
    let P : ℕ → Type 0 = λ i. list_all (is_lawful_operand equations i) e.args ≡ true in
    let S : ℕ → Type 0 = λ i. slice_get all i ≡ Some (known_number widths all (unwrap_or (slice_get widths i) 0) e) in
    subst S place (known_after-at equations widths (known ++ o ∷ []) rest k e there (subst P (sym place) lawful))

-- what is known of each equation
pub known_of-at : (equations : List EquationShape) (widths : List ℕ) (i : ℕ) (e : EquationShape) → slice_get equations i ≡ Some e → list_all (is_lawful_operand equations i) e.args ≡ true → slice_get (known_of equations widths) i ≡ Some (known_number widths (known_of equations widths) (unwrap_or (slice_get widths i) 0) e)
known_of-at equations widths i e there lawful =
    let place : 0 + i ≡ i = omega arith in
    let P : ℕ → Type 0 = λ j. list_all (is_lawful_operand equations j) e.args ≡ true in
    let S : ℕ → Type 0 = λ j. slice_get (known_of equations widths) j ≡ Some (known_number widths (known_of equations widths) (unwrap_or (slice_get widths j) 0) e) in
    subst S place (known_after-at equations widths [] equations i e there (subst P (sym place) lawful))

-- ---- in each row
pub width_read : (widths : List ℕ) (i : ℕ) → unwrap_or (slice_get widths i) 0 ≡ get_or widths i 0
width_read [] i = refl
width_read (w ∷ widths) zero = refl
width_read (w ∷ widths) (suc i) = width_read widths i

-- the number that an equation is known to have, and how
pub record IsKnown (widths : List ℕ) (known : List (Option ℕ)) (w n : ℕ) (e : EquationShape) : Type 0 where
  pub steady : is_steady e.op ≡ true
  pub points : List Point
  pub are : known_points widths known e.args e.kinds ≡ Some points
  pub number : n ≡ operator_number w e.op points
  pub small : n < 2 ^ 64

pub is_known : (widths : List ℕ) (known : List (Option ℕ)) (w n : ℕ) (e : EquationShape) → known_number widths known w e ≡ Some n → IsKnown widths known w n e
is_known widths known w n e is = by_steady (is_steady e.op) refl is where
  by_short : (points : List Point) → known_points widths known e.args e.kinds ≡ Some points → is_steady e.op ≡ true → (b : Bool) → nat_lt (operator_number w e.op points) (2 ^ 64) ≡ b → cond b (Some (operator_number w e.op points)) None ≡ Some n → IsKnown widths known w n e
  by_short points are steady true less same =
      let equal : operator_number w e.op points ≡ n = cc in
      let below = ltb-true (operator_number w e.op points) (2 ^ 64) less in
      record { steady = steady; points = points; are = are; number = sym equal; small = subst (λ m. m < 2 ^ 64) equal below }
  by_short points are steady false less same = cc

  by_points : (o : Option (List Point)) → known_points widths known e.args e.kinds ≡ o → is_steady e.op ≡ true → option_map_or (λ points. short (operator_number w e.op points)) o None ≡ Some n → IsKnown widths known w n e
  by_points None are steady same = cc
  by_points (Some points) are steady same = by_short points are steady (nat_lt (operator_number w e.op points) (2 ^ 64)) refl same

  by_steady : (b : Bool) → is_steady e.op ≡ b → cond b (option_map_or (λ points. short (operator_number w e.op points)) (known_points widths known e.args e.kinds) None) None ≡ Some n → IsKnown widths known w n e
  by_steady true steady same = by_points (known_points widths known e.args e.kinds) refl steady same
  by_steady false steady same = cc

pub record HasPoint (kind : Bool) (w : ℕ) (o : Option ℕ) (p : Option (List Point)) (points : List Point) : Type 0 where
  pub number : ℕ
  pub rest : List Point
  pub first_is : o ≡ Some number
  pub rest_are : p ≡ Some rest
  pub points_are : points ≡ record { form = record { signed = kind; width = w }; number = number } ∷ rest

pub with_parts : (kind : Bool) (w : ℕ) (o : Option ℕ) (p : Option (List Point)) (points : List Point) → with_point kind w o p ≡ Some points → HasPoint kind w o p points
with_parts kind w (Some n) (Some ps) points is = record { number = n; rest = ps; first_is = refl; rest_are = refl; points_are = cc }
with_parts kind w None p points is = cc
with_parts kind w (Some n) None points is = cc

-- known operands are read as they are known
points_known : (sight : Sight) (known : List (Option ℕ)) (i : ℕ) (args : List Operand) (kinds : List Bool) (points : List Point) → list_all (is_lawful_operand sight.equations i) args ≡ true → ((j n : ℕ) → j < i → known_at known j ≡ Some n → get_or sight.row j 0 ≡ n) → known_points sight.widths known args kinds ≡ Some points → points_in sight args kinds ≡ points
points_known sight known i [] kinds points lawful row are = cc
points_known sight known i (a ∷ args) [] points lawful row are = cc
points_known sight known i (a ∷ args) (kind ∷ kinds) points lawful row are =
    let lawful_parts = and_parts (is_lawful_operand sight.equations i a) (list_all (is_lawful_operand sight.equations i) args) lawful in
    let p = with_parts kind (operand_width sight.widths a) (known_operand known a) (known_points sight.widths known args kinds) points are in
    let rest = points_known sight known i args kinds p.rest lawful_parts.1 row p.rest_are in
    ap₂ (λ (n : ℕ) (ps : List Point). record { form = record { signed = kind; width = operand_width sight.widths a }; number = n } ∷ ps) (one a p.number lawful_parts.0 p.first_is) rest ∙ sym p.points_are where
      one : (b : Operand) (n : ℕ) → is_lawful_operand sight.equations i b ≡ true → known_operand known b ≡ Some n → operand_number sight.equations sight.before sight.row b ≡ n
      one (Const c) n lawful_b is = cc
      one (Eq j) n lawful_b is = row j n (ltb-true j i lawful_b) is
      one (Past rec k) n lawful_b is = cc

known_here : (equations : List EquationShape) (outputs : List Operand) (widths : List ℕ) (before : List (List ℕ)) (sample : List ℕ) (i n : ℕ) (e : EquationShape) → IsFlat equations outputs → slice_get equations i ≡ Some e → ((j m : ℕ) → j < i → known_at (known_of equations widths) j ≡ Some m → get_or (row_of equations widths before sample) j 0 ≡ m) → known_at (known_of equations widths) i ≡ Some n → get_or (row_of equations widths before sample) i 0 ≡ n
known_here equations outputs widths before sample i n e flat there below is =
    let known = known_of equations widths in
    let lawful = flat.operands i e there in
    let at = known_of-at equations widths i e there lawful in
    let w = unwrap_or (slice_get widths i) 0 in
    let is_here : known_number widths known w e ≡ Some n = sym (ap (λ (x : Option (Option ℕ)). option_map_or (λ o. o) x None) at) ∙ is in
    let k = is_known widths known w n e is_here in
    let sight : Sight = record { equations = equations; widths = widths; before = before; sample = sample; row = row_of equations widths before sample } in
    let points = points_known sight known i e.args e.kinds k.points lawful below k.are in
    row_of-at equations outputs widths before sample i e flat there ∙ steady_number sight i e.op e.args e.kinds k.steady ∙ ap (λ v. operator_number v e.op (points_in sight e.args e.kinds)) (sym (width_read widths i)) ∙ ap (operator_number w e.op) points ∙ sym k.number

-- an equation has the number that it is known to have, in every row
pub known_in_rows : (equations : List EquationShape) (outputs : List Operand) (widths : List ℕ) (before : List (List ℕ)) (sample : List ℕ) → IsFlat equations outputs → (m i n : ℕ) → i < m → i < length equations → known_at (known_of equations widths) i ≡ Some n → get_or (row_of equations widths before sample) i 0 ≡ n
known_in_rows equations outputs widths before sample flat zero i n low within is = absurd (omega arith)
known_in_rows equations outputs widths before sample flat (suc m) i n low within is =
    let found = equation_at equations i within in
    known_here equations outputs widths before sample i n found.0 flat found.1 (λ j v less known. known_in_rows equations outputs widths before sample flat m j v (omega arith) (omega arith) known) is
