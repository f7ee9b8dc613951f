-- The parts that equations are settled in: up to a recurrence without declared width, and with it.
use Rattle.std.specs.Prelude.{◌≡◌, ◌≢◌, ◌<◌, ◌≤◌, ℕ, true, false, Some, None, List, slice_index}
use Rattle.std.specs.List.{slice_get}
use Rattle.pr_flat.specs.declared.equations.Op.TheVariants.{Rec}
use Rattle.pr_flat.specs.Shape.{EquationShape, EachEquation}
use Rattle.pr_flat.specs.Widths.{is_open, width_in, AgreeBelow, AreWidthsBelow, Holds}
use Rattle.pr_width.specs.declared.solver.Recurrence.{Recurrence}

-- this is a recurrence without declared width
pub record IsOpenAt (equations : List EquationShape) (r : Recurrence) : Type 0 where
  pub equation : EquationShape
  pub there : slice_get equations r.number ≡ Some equation
  pub undeclared : is_open equation ≡ true
  pub op : equation.op ≡ Rec r.init r.first

-- the equation of this number is none
abbrev pub IsClosed : List EquationShape → ℕ → Type 0
IsClosed equations number = (e : EquationShape) → slice_get equations number ≡ Some e → is_open e ≡ false

-- no equation from one to another is such a recurrence
abbrev pub AreClosed : List EquationShape → ℕ → ℕ → Type 0
AreClosed equations from end = EachEquation equations (λ i e. from ≤ i → i < end → is_open e ≡ false)

-- no body of such a recurrence from this equation on begins before it
abbrev pub BeginsPart : List EquationShape → ℕ → Type 0
BeginsPart equations from = EachEquation equations (λ i e. (init first : ℕ) → is_open e ≡ true → e.op ≡ Rec init first → from ≤ i → from ≤ first)

-- the recurrence holds nowhere with the same widths before its body
abbrev pub HoldsNowhereBy : List EquationShape → Recurrence → List ℕ → Type 0
HoldsNowhereBy equations r widths = (others : List ℕ) → AgreeBelow r.first widths others → Holds equations r.number r.init r.first others → ⊥

-- where it holds, it has another width
abbrev pub HoldsNotAt : List EquationShape → Recurrence → List ℕ → ℕ → Type 0
HoldsNotAt equations r widths width = (others : List ℕ) → AgreeBelow r.first widths others → Holds equations r.number r.init r.first others → slice_index others r.number ≢ width

-- where it holds, it is at least so wide
abbrev pub HoldsFrom : List EquationShape → Recurrence → List ℕ → ℕ → Type 0
HoldsFrom equations r widths width = (others : List ℕ) → AgreeBelow r.first widths others → Holds equations r.number r.init r.first others → width ≤ slice_index others r.number

-- where the widths stop before the end, the equation at which they stop has none
abbrev pub StopsAt : List EquationShape → ℕ → List ℕ → ℕ → Type 0
StopsAt equations end widths n = (e : EquationShape) → n < end → slice_get equations n ≡ Some e → width_in widths e ≡ None

-- the recurrence holds at this width, with the widths of its body put
pub record HoldsAt (equations : List EquationShape) (r : Recurrence) (width : ℕ) (widths : List ℕ) : Type 0 where
  pub put : slice_index widths r.number ≡ width
  pub body : AreWidthsBelow r.number equations widths
  pub holds : Holds equations r.number r.init r.first widths
