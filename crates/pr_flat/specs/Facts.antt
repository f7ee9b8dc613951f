-- What flat equations keep.
use Rattle.std.specs.Prelude.{◌≡◌, ◌≢◌, ◌<◌, ◌≤◌, ℕ, ◌^◌, Bool, true, false, not, ◌&&◌, ◌||◌, nat_eq, nat_lt, nat_le, Option, Some, None, List, [], ◌∷◌, length}
use Rattle.std.specs.List.{slice_get, list_any, list_all}
use Rattle.std.specs.Option.{option_map_or}
use Rattle.pr_flat.specs.declared.equations.Operand.{Operand}
use Rattle.pr_flat.specs.declared.equations.Operand.TheVariants.{Const, Eq, Past}
use Rattle.pr_flat.specs.declared.equations.Op.{Op}
use Rattle.pr_flat.specs.declared.equations.Op.TheVariants.{Input, Not, Choose, Left, Right, LeftBy, RightBy, Slice, Cat, Fit, Delay, Rec}
use Rattle.pr_flat.specs.Shape.{EquationShape, EachEquation}

-- how many operands an operation has
abbrev pub arity : Op → ℕ
arity Input = 0
arity Not = 1
arity (Left k) = 1
arity (Right k) = 1
arity (Slice high low) = 1
arity Fit = 1
arity (Delay c) = 1
arity (Rec init first) = 1
arity Choose = 3
arity op = 2

abbrev pub is_input : Op → Bool
is_input Input = true
is_input op = false

abbrev pub is_rec : Op → Bool
is_rec (Rec init first) = true
is_rec op = false

-- conditions, shift amounts, and the operands of slices, concatenations and delays are read as numbers
abbrev pub has_lawful_kinds : Op → List Bool → Bool
has_lawful_kinds Choose (c ∷ a ∷ b ∷ []) = not c
has_lawful_kinds LeftBy (a ∷ by ∷ []) = not by
has_lawful_kinds RightBy (a ∷ by ∷ []) = not by
has_lawful_kinds (Slice high low) (a ∷ []) = not a
has_lawful_kinds Cat (a ∷ b ∷ []) = not a && not b
has_lawful_kinds (Delay c) (a ∷ []) = not a
has_lawful_kinds op kinds = true

abbrev pub is_width : ℕ → Bool
is_width w = nat_le 1 w && nat_le w 128

-- an input has a declared width and a delay has none; a recurrence's holds its initial value
abbrev pub has_lawful_width : Op → Option ℕ → Bool
has_lawful_width Input None = false
has_lawful_width op None = true
has_lawful_width (Delay c) (Some w) = false
has_lawful_width (Rec init first) (Some w) = is_width w && nat_lt init (2 ^ w)
has_lawful_width op (Some w) = is_width w

-- the ends of a slice stand in order
abbrev pub has_lawful_ends : Op → Bool
has_lawful_ends (Slice high low) = nat_le low high
has_lawful_ends op = true

abbrev pub op_at : List EquationShape → ℕ → Option Op
op_at equations i = option_map_or (λ (e : EquationShape). Some e.op) (slice_get equations i) None

-- whether an operation begins with this number: a recurrence with its initial value, a delay with its constant
abbrev pub begins_with : ℕ → Op → Bool
begins_with c (Rec init first) = nat_eq c init
begins_with c (Delay d) = nat_eq c d
begins_with c op = false

-- whether an operand's stream begins with this number
abbrev pub does_begin_with : List EquationShape → ℕ → List Operand → Bool
does_begin_with equations c (Eq i ∷ []) = option_map_or (begins_with c) (op_at equations i) false
does_begin_with equations c args = false

-- a delay's constant is 0, or what its operand begins with
abbrev pub has_lawful_constant : List EquationShape → Op → List Operand → Bool
has_lawful_constant equations (Delay c) args = nat_eq c 0 || does_begin_with equations c args
has_lawful_constant equations op args = true

-- whether equation i stands in the body of a recurrence, which ends with the recurrence
abbrev pub is_in_body : ℕ → ℕ → Op → Bool
is_in_body i rec (Rec init first) = nat_le first i && nat_le i rec
is_in_body i rec op = false

-- equation i reads numbers of 64 bits, earlier equations, and the past of a recurrence in the body of which it stands
abbrev pub is_lawful_operand : List EquationShape → ℕ → Operand → Bool
is_lawful_operand equations i (Const c) = nat_lt c (2 ^ 64)
is_lawful_operand equations i (Eq j) = nat_lt j i
is_lawful_operand equations i (Past rec k) = nat_le 1 k && option_map_or (is_in_body i rec) (op_at equations rec) false

-- an output gives a number of 64 bits or the stream of an equation
abbrev pub is_lawful_output : ℕ → Operand → Bool
is_lawful_output count (Const c) = nat_lt c (2 ^ 64)
is_lawful_output count (Eq i) = nat_lt i count
is_lawful_output count (Past rec k) = false

abbrev pub reads_equation : ℕ → Operand → Bool
reads_equation i (Const c) = false
reads_equation i (Eq j) = nat_eq j i
reads_equation i (Past rec k) = false

abbrev pub reads_past : ℕ → Operand → Bool
reads_past rec (Const c) = false
reads_past rec (Eq i) = false
reads_past rec (Past r k) = nat_eq r rec

-- equation i reads a past of the recurrence, or an equation other than the recurrence that depends on such a past
pub data DependsOnPast (equations : List EquationShape) (rec : ℕ) : ℕ → Type 0 where
  ReadsPast : (i : ℕ) (e : EquationShape) → slice_get equations i ≡ Some e → list_any (reads_past rec) e.args ≡ true → DependsOnPast equations rec i
  Reads : (i j : ℕ) (e : EquationShape) → slice_get equations i ≡ Some e → list_any (reads_equation j) e.args ≡ true → j ≢ rec → DependsOnPast equations rec j → DependsOnPast equations rec i

-- the numbers of equations from the first of its body up to a recurrence
pub record IsBody (equations : List EquationShape) (rec first : ℕ) : Type 0 where
  pub ordered : first ≤ rec
  pub alone : (i : ℕ) (e : EquationShape) → slice_get equations i ≡ Some e → first ≤ i → i < rec → is_rec e.op ≡ false

-- what lies in a body and depends on the past of its recurrence is read in that body alone
pub record IsApart (equations : List EquationShape) (outputs : List Operand) (rec i : ℕ) : Type 0 where
  pub later : (j : ℕ) (e : EquationShape) → slice_get equations j ≡ Some e → rec < j → list_any (reads_equation i) e.args ≡ false
  pub outside : list_any (reads_equation i) outputs ≡ false

pub record IsFlat (equations : List EquationShape) (outputs : List Operand) : Type 0 where
  pub few : length equations ≤ 16384
  pub input : list_any (λ (e : EquationShape). is_input e.op) equations ≡ true
  pub output : 0 < length outputs
  pub args : EachEquation equations (λ i e. length e.args ≡ arity e.op)
  pub kinds : EachEquation equations (λ i e. length e.kinds ≡ arity e.op)
  pub numbers : EachEquation equations (λ i e. has_lawful_kinds e.op e.kinds ≡ true)
  pub widths : EachEquation equations (λ i e. has_lawful_width e.op e.declared ≡ true)
  pub ends : EachEquation equations (λ i e. has_lawful_ends e.op ≡ true)
  pub constants : EachEquation equations (λ i e. has_lawful_constant equations e.op e.args ≡ true)
  pub operands : EachEquation equations (λ i e. list_all (is_lawful_operand equations i) e.args ≡ true)
  pub given : list_all (is_lawful_output (length equations)) outputs ≡ true
  pub bodies : EachEquation equations (λ i e. (init first : ℕ) → e.op ≡ Rec init first → IsBody equations i first)
  pub apart : (rec i : ℕ) → DependsOnPast equations rec i → i ≢ rec → IsApart equations outputs rec i
