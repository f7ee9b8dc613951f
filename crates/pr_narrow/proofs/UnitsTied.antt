-- The units of a net are the shares of its equations.
use Rattle.std.proofs.Common.{◌≡◌, ◌≤◌, ℕ, zero, suc, ◌+◌, Bool, true, false, ◌&&◌, nat_lt, Some, cond, min, count_by, List, [], ◌∷◌, length, get_or, refl, subst, sym, ap, ap₂, ◌∙◌, arith, inl, inr}
use Rattle.std.specs.Bool.{if◌then◌else◌}
use Rattle.std.specs.List.{slice_get, sum}
use Rattle.std.proofs.lemmas.Bool.{false≢true, cases_lt}
use Rattle.std.proofs.lemmas.Bool.Decides.{nat_tests}
use Rattle.std.proofs.lemmas.List.Sums.{sum_by-cons}
use Rattle.std.proofs.lemmas.Option.{slice_get_within}
use Rattle.pr_flat.specs.declared.equations.Operand.{Operand}
use Rattle.pr_flat.specs.declared.equations.Op.{Op}
use Rattle.pr_flat.specs.declared.equations.Op.TheVariants.{Input, Delay, Rec}
use Rattle.pr_flat.specs.declared.forms.Form.{Form}
use Rattle.pr_flat.specs.Rows.{natural_width, gives_signed}
use Rattle.pr_flat.specs.Shape.{EquationShape}
use Rattle.pr_flat.specs.Facts.{arity, is_input, is_rec, has_lawful_kinds, IsFlat}
use Rattle.pr_flat.specs.Widths.{forms_in, AreWidths}
use Rattle.pr_cut_units.specs.Counts.{count_at, body_count as net_body_count}
use Rattle.pr_cut_units.specs.Reached.{reached, hold_count}
use Rattle.pr_cut_units.specs.Equations.{own_count, counts_from}
use Rattle.pr_cut_units.specs.Nets.{net_of}
use Rattle.pr_cut_units.proofs.CountNets.{is_stated, length-reached, count_whole}
use Rattle.pr_cut_units.proofs.WideNets.{are_counted}
use Rattle.pr_narrow.specs.Counts.{equation_count, body_count, IsReached, IsShare, OfInput, OfNone, OfRec, OfOther, AreShares}
use Rattle.pr_narrow.specs.Narrowed.{AreNarrowed}
use Rattle.pr_narrow.specs.Passes.{total}
use Rattle.pr_narrow.proofs.CountsTied.{operator_same, widen_same, if_same}
use Rattle.pr_narrow.proofs.ReachedTied.{has_units, reached_is, hold_depth}
use Rattle.pr_narrow.proofs.RowsKept.{length-forms}
use Rattle.pr_narrow.proofs.LawfulWidths.{lawful_below}
use Rattle.pr_narrow.proofs.Narrowing.{flat_stays, widths_settle}
use Rattle.pr_narrow.proofs.UnitsStay.{units_stay}
use Rattle.pr_narrow.proofs.RestKept.{delay_count}

-- the units of an equation: an input has one
abbrev share_of : List EquationShape → List ℕ → ℕ → EquationShape → Bool → ℕ
share_of equations widths i e flag = cond (is_input e.op) 1 (if flag then own_count equations widths i e e.op else 0)

abbrev shares_from : List EquationShape → List ℕ → ℕ → List EquationShape → List Bool → List ℕ
shares_from equations widths i [] flags = []
shares_from equations widths i (e ∷ rest) [] = []
shares_from equations widths i (e ∷ rest) (flag ∷ flags) = share_of equations widths i e flag ∷ shares_from equations widths (suc i) rest flags

length-shares : (equations : List EquationShape) (widths : List ℕ) (i : ℕ) (rest : List EquationShape) (flags : List Bool) → length flags ≡ length rest → length (shares_from equations widths i rest flags) ≡ length rest
length-shares equations widths i [] flags count = refl
length-shares equations widths i (e ∷ rest) [] count = absurd (omega arith)
length-shares equations widths i (e ∷ rest) (flag ∷ flags) count = ap suc (length-shares equations widths (suc i) rest flags (omega arith))

shares-at : (equations : List EquationShape) (widths : List ℕ) (i : ℕ) (rest : List EquationShape) (flags : List Bool) (k : ℕ) (e : EquationShape) → length flags ≡ length rest → slice_get rest k ≡ Some e → get_or (shares_from equations widths i rest flags) k 0 ≡ share_of equations widths (i + k) e (get_or flags k false)
shares-at equations widths i [] flags k e count there = cc
shares-at equations widths i (d ∷ rest) [] k e count there = absurd (omega arith)
shares-at equations widths i (d ∷ rest) (flag ∷ flags) zero e count there =
    let same : d ≡ e = cc in
    let place : i ≡ i + 0 = omega arith in
    ap₂ (λ (j : ℕ) (x : EquationShape). share_of equations widths j x flag) place same
shares-at equations widths i (d ∷ rest) (flag ∷ flags) (suc k) e count there =
    let place : suc i + k ≡ i + suc k = omega arith in
    shares-at equations widths (suc i) rest flags k e (omega arith) there ∙ ap (λ (j : ℕ). share_of equations widths j e (get_or flags k false)) place

-- inputs apart, all counts together
share_sum : (equations : List EquationShape) (widths : List ℕ) (i : ℕ) (e : EquationShape) (flag : Bool) (op : Op) → cond (is_input op) 1 (if flag then own_count equations widths i e op else 0) ≡ cond (is_input op) 1 0 + (if flag then own_count equations widths i e op else 0)
share_sum equations widths i e true Input = omega arith
share_sum equations widths i e false Input = omega arith
share_sum equations widths i e flag op = omega arith

total_is : (equations : List EquationShape) (widths : List ℕ) (i : ℕ) (rest : List EquationShape) (flags : List Bool) → length flags ≡ length rest → total (shares_from equations widths i rest flags) ≡ count_by (λ (e : EquationShape). is_input e.op) rest + sum (counts_from equations widths i rest flags)
total_is equations widths i [] flags count = refl
total_is equations widths i (e ∷ rest) [] count = absurd (omega arith)
total_is equations widths i (e ∷ rest) (flag ∷ flags) count =
    let ih = total_is equations widths (suc i) rest flags (omega arith) in
    let one = share_sum equations widths i e flag e.op in
    let inputs = sum_by-cons (λ (x : EquationShape). cond (is_input x.op) 1 0) e rest in
    let counts = sum_by-cons (λ (k : ℕ). k) (if flag then own_count equations widths i e e.op else 0) (counts_from equations widths (suc i) rest flags) in
    omega (arith, ih, one, inputs, counts)

-- a result is widened where it is less wide than the equation
below_same : (natural w : ℕ) → nat_lt natural w ≡ nat_lt (min w natural) w
below_same natural w = elim (cases_lt natural w) [
  | inl low ↦ ap (λ n. nat_lt n w) (let e : natural ≡ min w natural = omega arith in e)
  | inr high ↦ high_case high
] where
  high_case : w ≤ natural → nat_lt natural w ≡ nat_lt (min w natural) w
  high_case high =
      let e : min w natural ≡ w = omega arith in
      let one : nat_lt natural w ≡ false = grind (arith, nat_tests) in
      let other : nat_lt w w ≡ false = grind (arith, nat_tests) in
      one ∙ sym (ap (λ n. nat_lt n w) e ∙ other)

count_same : (w : ℕ) (op : Op) (fs : List Form) → w ≤ 128 → length fs ≡ arity op → is_stated op ≡ false → equation_count op fs w ≡ count_at w op fs
count_same w op fs few count other =
    let natural = natural_width op fs in
    ap₂ (λ x y. x + y) (operator_same (min w natural) op fs (omega arith) count other) (ap (λ b. cond (gives_signed op fs && b) 1 0) (below_same natural w) ∙ if_same (gives_signed op fs && nat_lt (min w natural) w) 1 0)

own_is : (equations : List EquationShape) (widths : List ℕ) (i : ℕ) (e : EquationShape) (op : Op) → is_stated op ≡ false → own_count equations widths i e op ≡ count_at (get_or widths i 0) op (forms_in widths e)
own_is equations widths i e Input is = cc
own_is equations widths i e (Delay c) is = cc
own_is equations widths i e (Rec init first) is = cc
own_is equations widths i e op is = refl

body_same : (fs : List Form) (w : ℕ) → body_count fs w ≡ net_body_count w fs
body_same [] w = refl
body_same (f ∷ []) w = widen_same f w
body_same (f ∷ g ∷ fs) w = refl

-- what each equation has in the net is its share
share_is : (equations : List EquationShape) (outputs : List Operand) (widths : List ℕ) (i : ℕ) (e : EquationShape) (flag : Bool) → IsFlat equations outputs → AreWidths equations widths → slice_get equations i ≡ Some e → get_or (reached equations outputs) i false ≡ flag → IsShare equations outputs widths i e (share_of equations widths i e flag)
share_is equations outputs widths i e flag flat all there flag_is = by_input (is_input e.op) refl where
  P : ℕ → Type 0
  P n = IsShare equations outputs widths i e n

  w : ℕ
  w = get_or widths i 0

  add_swap : (m n : ℕ) → m + n ≡ n + m
  add_swap m n = omega arith

  long : length (forms_in widths e) ≡ arity e.op
  long = length-forms widths e.args e.kinds (flat.kinds i e there ∙ sym (flat.args i e there)) ∙ flat.args i e there

  by_op : (o : Op) → e.op ≡ o → is_input e.op ≡ false → IsReached equations outputs i → P (own_count equations widths i e e.op)
  by_op Input op other r = absurd (let no : true ≡ false = sym (ap is_input op) ∙ other in cc)
  by_op (Rec init first) op other r = subst P (add_swap (hold_count equations i) (body_count (forms_in widths e) w) ∙ ap (λ n. n + hold_count equations i) (body_same (forms_in widths e) w) ∙ sym (ap (own_count equations widths i e) op)) (OfRec init first (hold_count equations i) op r (hold_depth equations outputs i e flat there (ap is_rec op)))
  by_op (Delay c) op other r =
      let one = flat.args i e there ∙ ap arity op in
      let two = flat.kinds i e there ∙ ap arity op in
      let K : Op → Type 0 = λ o. has_lawful_kinds o e.kinds ≡ true in
      let single = ap (λ (o : Op). equation_count o (forms_in widths e) w) op ∙ delay_count c w widths e.args e.kinds one two (subst K op (flat.numbers i e there)) in
      subst P (single ∙ sym (ap (own_count equations widths i e) op)) (OfOther other (ap is_rec op) r)
  by_op o op other r =
      let few = (lawful_below equations outputs widths flat all (suc i) i (omega arith) (slice_get_within equations i e there)).1 in
      let stated : is_stated e.op ≡ false = ap is_stated op in
      subst P (count_same w e.op (forms_in widths e) few long stated ∙ sym (own_is equations widths i e e.op stated)) (OfOther other (ap is_rec op) r)

  by_flag : (b : Bool) → get_or (reached equations outputs) i false ≡ b → is_input e.op ≡ false → P (if b then own_count equations widths i e e.op else 0)
  by_flag true is other = by_op e.op refl other (reached_is equations outputs outputs flat (length equations) i (omega arith) is)
  by_flag false is other = OfNone other (λ r. false≢true (sym is ∙ has_units equations outputs i flat r))

  by_input : (b : Bool) → is_input e.op ≡ b → P (share_of equations widths i e flag)
  by_input true is = subst P (sym (ap (λ t. cond t 1 (if flag then own_count equations widths i e e.op else 0)) is)) (OfInput is)
  by_input false is = subst P (sym (ap (λ t. cond t 1 (if flag then own_count equations widths i e e.op else 0)) is)) (by_flag flag flag_is is)

shares_are : (equations : List EquationShape) (outputs : List Operand) (widths : List ℕ) → IsFlat equations outputs → AreWidths equations widths → AreShares equations outputs widths (shares_from equations widths 0 equations (reached equations outputs))
shares_are equations outputs widths flat all = record {
  count = length-shares equations widths 0 equations (reached equations outputs) (length-reached outputs 0 equations);
  each = λ i e there.
      let flag = get_or (reached equations outputs) i false in
      let place : 0 + i ≡ i = omega arith in
      let at = shares-at equations widths 0 equations (reached equations outputs) i e (length-reached outputs 0 equations) there ∙ ap (λ (j : ℕ). share_of equations widths j e flag) place in
      let P : ℕ → Type 0 = λ n. IsShare equations outputs widths i e n in
      subst P (sym at) (share_is equations outputs widths i e flag flat all there refl);
}

-- a net has as many units as the shares are
net_count : (equations : List EquationShape) (outputs : List Operand) (widths : List ℕ) → IsFlat equations outputs → AreWidths equations widths → length (net_of equations widths outputs).units ≡ total (shares_from equations widths 0 equations (reached equations outputs))
unfolding net_of
net_count equations outputs widths flat all = count_whole equations widths outputs (are_counted equations outputs widths flat all) ∙ sym (total_is equations widths 0 equations (reached equations outputs) (length-reached outputs 0 equations))

-- the net of narrowed equations has no more units
pub net_stays : (equations : List EquationShape) (outputs : List Operand) (widths : List ℕ) (narrowed : List EquationShape) (news : List ℕ) → IsFlat equations outputs → AreWidths equations widths → AreNarrowed equations outputs widths narrowed news → length (net_of narrowed news outputs).units ≤ length (net_of equations widths outputs).units
net_stays equations outputs widths narrowed news flat all n =
    let flat_now = flat_stays equations outputs widths narrowed news flat all n in
    let all_now = widths_settle equations outputs widths narrowed news flat all n in
    let less = units_stay equations outputs widths narrowed news (shares_from narrowed news 0 narrowed (reached narrowed outputs)) (shares_from equations widths 0 equations (reached equations outputs)) flat all n (shares_are narrowed outputs news flat_now all_now) (shares_are equations outputs widths flat all) in
    let one = net_count narrowed outputs news flat_now all_now in
    let other = net_count equations outputs widths flat all in
    omega (arith, less, one, other)
