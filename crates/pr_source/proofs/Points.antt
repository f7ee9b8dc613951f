-- The operands of an operator, one by one.
use Rattle.std.proofs.Common.{◌≡◌, ℕ, ◌%◌, ◌^◌, ◌<◌, ◌≤◌, Bool, true, false, not, ◌&&◌, cond, is_some, Option, Some, None, List, [], ◌∷◌, length, get_or, refl, sym, ◌∙◌, ap, ap₂, zero, suc, inl, inr, ◌⊎◌, arith}
use Rattle.std.specs.List.{slice_get, list_all}
use Rattle.std.specs.Option.{option_map, IsSome, IsNone}
use Rattle.std.proofs.lemmas.Bool.{and_parts}
use Rattle.std.proofs.lemmas.Option.{slice_get_within, slice_get_read, slice_get-map}
use Rattle.pr_flat.specs.declared.equations.Operand.{Operand}
use Rattle.pr_flat.specs.declared.equations.Op.{Op}
use Rattle.pr_flat.specs.declared.equations.Op.TheVariants.{Input, Delay, Rec}
use Rattle.pr_flat.specs.declared.forms.Point.{Point}
use Rattle.pr_flat.specs.Forms.{IsPoint, residue, value, value_at}
use Rattle.std.proofs.Math.Nat.{mod-eq_of_lt, pow-le-pow_right}
use Rattle.pr_flat.specs.Rows.{forms_of, takes, natural_width}
use Rattle.pr_flat.specs.Shape.{EquationShape}
use Rattle.pr_flat.specs.Facts.{arity, is_lawful_operand, is_rec}
use Rattle.pr_flat.specs.Widths.{is_open, settled_width, operand_width, forms_in, AreWidths}
use Rattle.pr_flat.specs.Values.{Sight, operand_number, points_in, operator_number, recurrence_number, delayed_number, number_in}
use Rattle.pr_flat.proofs.ValueLemmas.{forms_of-points_in}
use Rattle.pr_flat.specs.Shape.{equation_shape, shapes_of}
use Rattle.pr_flat.specs.declared.equations.Equation.{Equation}
use Rattle.pr_source.specs.Reading.{operates, AreNumbers}

-- a list of one, two or three elements, by its places
pub one_at : {X : Type 0} → (xs : List X) (a : X) → length xs ≡ 1 → slice_get xs 0 ≡ Some a → xs ≡ a ∷ []
one_at [] a count first = absurd (omega arith)
one_at (x ∷ []) a count first = let same : x ≡ a = cc in ap (λ (z : _). z ∷ []) same
one_at (x ∷ y ∷ xs) a count first = absurd (omega arith)

pub two_at : {X : Type 0} → (xs : List X) (a b : X) → length xs ≡ 2 → slice_get xs 0 ≡ Some a → slice_get xs 1 ≡ Some b → xs ≡ a ∷ b ∷ []
two_at [] a b count first second = absurd (omega arith)
two_at (x ∷ xs) a b count first second = let same : x ≡ a = cc in ap (λ (z : _). z ∷ xs) same ∙ ap (λ (zs : List _). a ∷ zs) (one_at xs b (omega arith) second)

pub three_at : {X : Type 0} → (xs : List X) (a b c : X) → length xs ≡ 3 → slice_get xs 0 ≡ Some a → slice_get xs 1 ≡ Some b → slice_get xs 2 ≡ Some c → xs ≡ a ∷ b ∷ c ∷ []
three_at [] a b c count first second third = absurd (omega arith)
three_at (x ∷ xs) a b c count first second third = let same : x ≡ a = cc in ap (λ (z : _). z ∷ xs) same ∙ ap (λ (zs : List _). a ∷ zs) (two_at xs b c (omega arith) second third)

-- as many operands are read as there are
pub length-points_in : (sight : Sight) (args : List Operand) (kinds : List Bool) → length args ≡ length kinds → length (points_in sight args kinds) ≡ length args
length-points_in sight [] kinds same = refl
length-points_in sight (a ∷ args) [] same = absurd (omega arith)
length-points_in sight (a ∷ args) (k ∷ kinds) same = let rest = length-points_in sight args kinds (omega arith) in omega arith

-- the operand at a place
pub points_in-at : (sight : Sight) (args : List Operand) (kinds : List Bool) (place : ℕ) (a : Operand) (k : Bool) → slice_get args place ≡ Some a → slice_get kinds place ≡ Some k
    → slice_get (points_in sight args kinds) place ≡ Some (record { form = record { signed = k; width = operand_width sight.widths a }; number = operand_number sight.equations sight.before sight.row a })
points_in-at sight [] kinds place a k here kind = cc
points_in-at sight (x ∷ args) [] place a k here kind = cc
points_in-at sight (x ∷ args) (y ∷ kinds) zero a k here kind =
    let one : x ≡ a = cc in
    let other : y ≡ k = cc in
    ap₂ (λ (z : Operand) (b : Bool). Some (record { form = record { signed = b; width = operand_width sight.widths z }; number = operand_number sight.equations sight.before sight.row z })) one other
points_in-at sight (x ∷ args) (y ∷ kinds) (suc place) a k here kind = points_in-at sight args kinds place a k here kind

-- the number of an operator
pub number_in-operates : (sight : Sight) (i : ℕ) (op : Op) (args : List Operand) (kinds : List Bool) → operates op ≡ true → number_in sight i op args kinds ≡ operator_number (get_or sight.widths i 0) op (points_in sight args kinds)
number_in-operates sight i Input args kinds is = cc
number_in-operates sight i (Delay c) args kinds is = cc
number_in-operates sight i (Rec init first) args kinds is = cc
number_in-operates sight i op args kinds is = refl

pub is_rec-operates : (op : Op) → operates op ≡ true → is_rec op ≡ false
is_rec-operates (Rec init first) is = cc
is_rec-operates op is = refl

taken : (b : Bool) (o : Option ℕ) (n w : ℕ) → cond b (settled_width o n) None ≡ Some w → b ≡ true
taken true o n w is = refl
taken false o n w is = cc

-- an operator with a width takes its operands
pub takes-points : (equations : List EquationShape) (sight : Sight) (i : ℕ) (e : EquationShape) → AreWidths equations sight.widths → slice_get equations i ≡ Some e → operates e.op ≡ true → takes e.op (forms_of (points_in sight e.args e.kinds)) ≡ true
takes-points equations sight i e wide there is =
    let closed : is_open e ≡ false = ap (λ (b : Bool). b && not (is_some e.declared)) (is_rec-operates e.op is) in
    let settled = wide.each i e there (slice_get_within equations i e there) closed in
    ap (takes e.op) (forms_of-points_in sight e.args e.kinds) ∙ taken (takes e.op (forms_in sight.widths e)) e.declared (natural_width e.op (forms_in sight.widths e)) (get_or sight.widths i 0) settled

pub arity_some : (op : Op) → operates op ≡ true → 1 ≤ arity op
arity_some Input is = cc
arity_some op is = omega arith

pub arity_few : (op : Op) → arity op ≤ 3
arity_few Input = omega arith
arity_few op = omega arith

-- an equation of a list
pub shape_at : (equations : List Equation) (i : ℕ) (e : Equation) → i < length equations → e ≡ get_or equations i e → slice_get (shapes_of equations) i ≡ Some (equation_shape e)
shape_at equations i e within is = slice_get-map equation_shape equations i ∙ ap (option_map equation_shape) (slice_get_read equations (length equations) i e refl within is)

all_at : {X : Type 0} → (p : X → Bool) (xs : List X) (i : ℕ) (x : X) → list_all p xs ≡ true → slice_get xs i ≡ Some x → p x ≡ true
all_at p [] i x all there = cc
all_at p (y ∷ ys) zero x all there = let same : y ≡ x = cc in ap p (sym same) ∙ (and_parts (p y) (list_all p ys) all).0
all_at p (y ∷ ys) (suc i) x all there = all_at p ys i x (and_parts (p y) (list_all p ys) all).1 there

-- an operand of the next equation
pub operand_lawful : (equations : List EquationShape) (outputs : List Operand) (widths : List ℕ) (before : List (List ℕ)) (row : List ℕ) (e : EquationShape) (place : ℕ) (a : Operand) → AreNumbers equations outputs widths before row → slice_get equations (length row) ≡ Some e → place < length e.args → a ≡ get_or e.args place a → is_lawful_operand equations (length row) a ≡ true
operand_lawful equations outputs widths before row e place a numbers there within is = all_at (is_lawful_operand equations (length row)) e.args place a (numbers.flat.operands (length row) e there) (slice_get_read e.args (length e.args) place a refl within is)

-- the next equation has as many operands and kinds as its operation
pub record Counts (e : EquationShape) : Type 0 where
  pub args : length e.args ≡ arity e.op
  pub kinds : length e.kinds ≡ arity e.op

pub counts : (equations : List EquationShape) (outputs : List Operand) (widths : List ℕ) (before : List (List ℕ)) (row : List ℕ) (e : EquationShape) → AreNumbers equations outputs widths before row → slice_get equations (length row) ≡ Some e → Counts e
counts equations outputs widths before row e numbers there = record { args = numbers.flat.args (length row) e there; kinds = numbers.flat.kinds (length row) e there }

-- a width that is neither too small nor too great is one
pub is_some_width : {X : Type 0} → (o : Option X) (n : ℕ) → (IsNone o → (n ≡ 0) ⊎ (128 < n)) → 1 ≤ n → n ≤ 128 → IsSome o
is_some_width None n none some most = elim (none refl) [
  | inl none_at ↦ absurd (omega arith)
  | inr more ↦ absurd (omega arith)
]
is_some_width (Some x) n none some most = refl

-- the points of the next equation, as many as it has operands
pub length_points : (equations : List EquationShape) (outputs : List Operand) (sight : Sight) (e : EquationShape) → AreNumbers equations outputs sight.widths sight.before sight.row → slice_get equations (length sight.row) ≡ Some e → length (points_in sight e.args e.kinds) ≡ arity e.op
length_points equations outputs sight e numbers there =
    let n = counts equations outputs sight.widths sight.before sight.row e numbers there in
    length-points_in sight e.args e.kinds (n.args ∙ sym n.kinds) ∙ n.args

-- the next equation takes these points
pub takes_these : (equations : List EquationShape) (outputs : List Operand) (sight : Sight) (e : EquationShape) (points : List Point) → AreNumbers equations outputs sight.widths sight.before sight.row → slice_get equations (length sight.row) ≡ Some e → operates e.op ≡ true → points_in sight e.args e.kinds ≡ points → takes e.op (forms_of points) ≡ true
takes_these equations outputs sight e points numbers there is same = ap (λ (ps : List Point). takes e.op (forms_of ps)) (sym same) ∙ takes-points equations sight (length sight.row) e numbers.wide there is

-- and this is its number
pub number_of_these : (sight : Sight) (op : Op) (args : List Operand) (kinds : List Bool) (points : List Point) (w n : ℕ) → operates op ≡ true → points_in sight args kinds ≡ points → w ≡ get_or sight.widths (length sight.row) 0 → n ≡ operator_number w op points → n ≡ number_in sight (length sight.row) op args kinds
number_of_these sight op args kinds points w n is same wide number = number ∙ (ap₂ (λ (v : ℕ) (ps : List Point). operator_number v op ps) wide (sym same) ∙ sym (number_in-operates sight (length sight.row) op args kinds is))

-- what follows of the number of an equation, where its operation is known
pub delay_number : (sight : Sight) (i : ℕ) (op : Op) (args : List Operand) (kinds : List Bool) (a : Operand) (c : ℕ) → op ≡ Delay c → 0 < length args → a ≡ get_or args 0 a → delayed_number sight.equations sight.before a c ≡ number_in sight i op args kinds
delay_number sight i op [] kinds a c is some first = absurd (omega arith)
delay_number sight i op (x ∷ args) kinds a c is some first = ap (λ (y : Operand). delayed_number sight.equations sight.before y c) first ∙ sym (ap (λ (o : Op). number_in sight i o (x ∷ args) kinds) is)

-- a point of at most 128 bits, cut to a width
pub point_cut : (p : Point) (w n : ℕ) → IsPoint p → ((m : ℕ) → m < 2 ^ p.form.width → p.number ≡ m % 2 ^ 128 → n ≡ residue w (value p.form m)) → n ≡ residue w (value_at p)
point_cut p w n lawful cut =
    let two : 0 < 2 = omega arith in
    let more = pow-le-pow_right two lawful.form.greatest in
    let below = lawful.below in
    let low : p.number < 2 ^ 128 = omega arith in
    cut p.number lawful.below (sym (mod-eq_of_lt low))

pub recurrence_of : (sight : Sight) (i : ℕ) (op : Op) (args : List Operand) (kinds : List Bool) (init first w n : ℕ) (p : Point) → op ≡ Rec init first → points_in sight args kinds ≡ p ∷ [] → w ≡ get_or sight.widths i 0 → n ≡ residue w (value_at p) → n ≡ number_in sight i op args kinds
recurrence_of sight i op args kinds init first w n p is points wide number =
    number ∙ (ap (λ (v : ℕ). residue v (value_at p)) wide ∙ (sym (ap (recurrence_number (get_or sight.widths i 0)) points) ∙ sym (ap (λ (o : Op). number_in sight i o args kinds) is)))

pub operates_else : (op : Op) → (op ≡ Input → ⊥) → ((c : ℕ) → op ≡ Delay c → ⊥) → ((init first : ℕ) → op ≡ Rec init first → ⊥) → operates op ≡ true
operates_else Input input delay rec = absurd (input refl)
operates_else (Delay c) input delay rec = absurd (delay c refl)
operates_else (Rec init first) input delay rec = absurd (rec init first refl)
operates_else op input delay rec = refl
