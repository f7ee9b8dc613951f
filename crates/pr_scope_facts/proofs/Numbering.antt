-- What a body makes, but for the number of its recurrence, does not depend on that number: each step of making is the same
-- on equations in which every past names the recurrence 0.
use Rattle.std.proofs.Common.{◌≡◌, ◌∙◌, ℕ, zero, suc, ◌+◌, Bool, true, false, cond, ◌&&◌, nat_eq, nat_le, List, [], ◌∷◌, ◌++◌, map, length, Option, Some, None, option_map, refl, sym, ap, ap₂}
use Rattle.std.proofs.lemmas.List.{map-append, length-map}
use Rattle.pr_flat.specs.declared.equations.Operand.{Operand}
use Rattle.pr_flat.specs.declared.equations.Operand.TheVariants.{Const, Eq, Past}
use Rattle.pr_flat.specs.declared.equations.Op.{Op}
use Rattle.pr_flat.specs.declared.equations.Op.TheVariants as op
use Rattle.pr_flat.specs.Shape.{EquationShape}
use Rattle.pr_expand_spec.specs.declared.givens.Given.{Given}
use Rattle.pr_expand_spec.specs.declared.givens.Standing.{Standing}
use Rattle.pr_expand_spec.specs.declared.givens.Standing.TheVariants.{Stream, Own}
use Rattle.pr_expand_spec.specs.Making.{Equations, Expanded, made, given_signed, given_operand, kinds_read, is_signed, with_equation, declare_last, same_operand, is_delay_of, delay_from, delay_step, delayed_once, delayed}
use Rattle.pr_expand_spec.specs.Expressions.{Streams, AllExpanded, apply, beside, concatenated, own_past, declared_at_operator, declared_else}

-- the number of the recurrence is left out
abbrev pub blank : Operand → Operand
blank (Past r k) = Past 0 k
blank (Const c) = Const c
blank (Eq i) = Eq i

abbrev pub blank_given : Given → Given
blank_given g = record { operand = blank g.operand; signed = g.signed }

abbrev pub blank_equation : EquationShape → EquationShape
blank_equation e = record { op = e.op; args = map blank e.args; declared = e.declared; kinds = e.kinds }

abbrev pub blanked : Equations → Equations
blanked es = map blank_equation es

abbrev pub blank_made : Expanded → Expanded
blank_made m = record { equations = blanked m.equations; given = blank_given m.given }

abbrev pub blank_all : AllExpanded → AllExpanded
blank_all a = record { equations = blanked a.equations; given = map blank_given a.given }

abbrev pub blank_standing : Standing → Standing
blank_standing (Stream g c) = Stream (blank_given g) c
blank_standing (Own r) = Own 0

abbrev pub blank_streams : Streams → Streams
blank_streams env = λ q r. option_map blank_standing (env q r)

-- ---- one equation more
blank-operands : (gs : List Given) → map blank (map given_operand gs) ≡ map given_operand (map blank_given gs)
blank-operands [] = refl
blank-operands (g ∷ gs) = ap (λ (x : List Operand). blank g.operand ∷ x) (blank-operands gs)

blank-kinds : (gs : List Given) → map given_signed gs ≡ map given_signed (map blank_given gs)
blank-kinds [] = refl
blank-kinds (g ∷ gs) = ap (λ (x : List Bool). g.signed ∷ x) (blank-kinds gs)

-- an equation of these operands and kinds, after those at the front
abbrev built : Op → Option ℕ → Equations → List Operand → List Bool → ℕ → Expanded
built o width front args kinds n = made (front ++ record { op = o; args = args; declared = width; kinds = kinds_read o kinds } ∷ []) (Eq n) (is_signed o (kinds_read o kinds))

pub blank-with : (o : Op) (args : List Given) (width : Option ℕ) (es : Equations) → blank_made (with_equation o args width es) ≡ with_equation o (map blank_given args) width (blanked es)
blank-with o args width es =
    let e : EquationShape = record { op = o; args = map given_operand args; declared = width; kinds = kinds_read o (map given_signed args) } in
    let m = with_equation o args width es in
    let first : blank_made m ≡ built o width (blanked es) (map blank (map given_operand args)) (map given_signed args) (length es) = λ i. record { equations = map-append blank_equation es (e ∷ []) i; given = blank_given m.given } in
    first ∙ (λ i. built o width (blanked es) (blank-operands args i) (blank-kinds args i) (sym (length-map es blank_equation) i))

blank-last : (w : ℕ) (es : Equations) → blanked (declare_last w es) ≡ declare_last w (blanked es)
blank-last w [] = refl
blank-last w (e ∷ []) = refl
blank-last w (e ∷ f ∷ es) = ap (λ (x : Equations). blank_equation e ∷ x) (blank-last w (f ∷ es))

-- a declared width is the same
pub blank-declared : (b : Bool) (width : Option ℕ) (m : Expanded) → blank_made (declared_at_operator b width m) ≡ declared_at_operator b width (blank_made m)
blank-declared true (Some w) m = ap (λ (x : Equations). record { equations = x; given = blank_given m.given }) (blank-last w m.equations)
blank-declared true None m = refl
blank-declared false width m = refl

pub blank-else : (b : Bool) (width : Option ℕ) (m : Expanded) → blank_made (declared_else b width m) ≡ declared_else b width (blank_made m)
blank-else false (Some w) m = blank-with op.Fit (m.given ∷ []) (Some w) m.equations
blank-else false None m = refl
blank-else true width m = refl

-- ---- parts
pub blank-apply : (o : Op) (parts : AllExpanded) → blank_made (apply o parts) ≡ apply o (blank_all parts)
blank-apply o parts = blank-with o parts.given None parts.equations

pub blank-beside : (above : Expanded) (gs : List Given) → blank_made (beside above gs) ≡ beside (blank_made above) (map blank_given gs)
blank-beside above [] = refl
blank-beside above (g ∷ gs) = blank-beside (with_equation op.Cat (above.given ∷ g ∷ []) None above.equations) gs ∙ ap (λ (m : Expanded). beside m (map blank_given gs)) (blank-with op.Cat (above.given ∷ g ∷ []) None above.equations)

pub blank-concatenated : (gs : List Given) (es : Equations) → blank_made (concatenated gs es) ≡ concatenated (map blank_given gs) (blanked es)
blank-concatenated [] es = refl
blank-concatenated (g ∷ gs) es = blank-beside (made es g.operand false) gs

-- ---- delays
-- what is no past
abbrev pub IsStill : Operand → Type 0
IsStill (Past r k) = ⊥
IsStill (Const c) = Unit {0}
IsStill (Eq i) = Unit {0}

blank-still : (q : Operand) → IsStill q → blank q ≡ q
blank-still (Past r k) still = absurd still
blank-still (Const c) still = refl
blank-still (Eq i) still = refl

same-operand : (p q : Operand) → IsStill q → same_operand (blank p) q ≡ same_operand p q
same-operand p (Past r k) still = absurd still
same-operand (Const a) (Const c) still = refl
same-operand (Const a) (Eq i) still = refl
same-operand (Eq a) (Const c) still = refl
same-operand (Eq a) (Eq i) still = refl
same-operand (Past r k) (Const c) still = refl
same-operand (Past r k) (Eq i) still = refl

same-delay : (q : Operand) (c : ℕ) (o : Op) (args : List Operand) → IsStill q → is_delay_of q c o (map blank args) ≡ is_delay_of q c o args
same-delay q c (op.Delay d) [] still = refl
same-delay q c (op.Delay d) (p ∷ []) still = ap (λ b. nat_eq d c && b) (same-operand p q still)
same-delay q c (op.Delay d) (p ∷ r ∷ args) still = refl
same-delay q c o args still = refl

same-delay_from : (i : ℕ) (es : Equations) (q : Operand) (c : ℕ) → IsStill q → delay_from i (blanked es) q c ≡ delay_from i es q c
same-delay_from i [] q c still = refl
same-delay_from i (e ∷ es) q c still = ap₂ (λ b o. cond b (Some i) o) (same-delay q c e.op e.args still) (same-delay_from (i + 1) es q c still)

blank-step : (o : Option ℕ) (q : Operand) (c : ℕ) (es : Equations) → blank_made (delay_step o q c es) ≡ delay_step o (blank q) c (blanked es)
blank-step (Some i) q c es = refl
blank-step None q c es = blank-with (op.Delay c) (record { operand = q; signed = false } ∷ []) None es

step-still : (o : Option ℕ) (q : Operand) (c : ℕ) (es : Equations) → IsStill (delay_step o q c es).given.operand
step-still (Some i) q c es = tt
step-still None q c es = tt

pub blank-delayed : (k : ℕ) (g : Given) (c : ℕ) (es : Equations) → IsStill g.operand → blank_made (delayed k g c es) ≡ delayed k (blank_given g) c (blanked es)
blank-delayed zero g c es still = refl
blank-delayed (suc k) g c es still =
    let once = delayed_once g.operand c es in
    let again = delayed_once (blank g.operand) c (blanked es) in
    let next : Expanded → Given = λ m. record { operand = m.given.operand; signed = g.signed } in
    let found : delay_from 0 es g.operand c ≡ delay_from 0 (blanked es) (blank g.operand) c = sym (ap (λ (q : Operand). delay_from 0 (blanked es) q c) (blank-still g.operand still) ∙ same-delay_from 0 es g.operand c still) in
    let first : blank_made once ≡ again = blank-step (delay_from 0 es g.operand c) g.operand c es ∙ ap (λ (o : Option ℕ). delay_step o (blank g.operand) c (blanked es)) found in
    blank-delayed k (next once) c once.equations (step-still (delay_from 0 es g.operand c) g.operand c es) ∙ ap (λ (m : Expanded). delayed k (next m) c m.equations) first

pub blank-own : (number k : ℕ) → blank (own_past number k) ≡ own_past 0 k
blank-own number k = by_test (nat_le 1 k && nat_le k 256) where
  by_test : (b : Bool) → blank (cond b (Past number k) (Const 0)) ≡ cond b (Past 0 k) (Const 0)
  by_test true = refl
  by_test false = refl
