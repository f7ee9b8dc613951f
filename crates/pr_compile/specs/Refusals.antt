-- Why a text has no configuration on N columns and P registers: the points up to the widths of its equations, then the limits
-- of its net, and last what the greedy rule fits in no stripe. Each speaks of a text that no point before it refuses. The net
-- is that of the equations as they are, or narrowed.
use Rattle.std.specs.Prelude.{◌≡◌, ◌⊎◌, ℕ, Bool, List, None, Some, ⊤}
use Rattle.pr_lang.specs.declared.trees.Program.{Program}
use Rattle.pr_net.specs.Shape.{NetShape}
use Rattle.pr_cut_units.specs.Nets.{limit_passed}
use Rattle.pr_place.specs.Greedy.{IsNoFit}
use Rattle.pr_compile_front.specs.declared.faults.FrontFault.TheVariants as front
use Rattle.pr_compile_front.specs.Refusals.{HasWidths, IsRefusal}
use Rattle.pr_compile.specs.declared.faults.CompileFault.{CompileFault}
use Rattle.pr_compile.specs.declared.faults.CompileFault.TheVariants.{Syntax, Scope, NoWidth, NoFit, Limit, Memory}
use Rattle.pr_compile.specs.Configured.{OfReadyBy, net_by}

-- ---- a net
-- it is within the limits of N columns, and a group, whose last unit this is, fits in no stripe
pub record HasNoFit (N P : ℕ) (net : NetShape) (unit : ℕ) : Type 0 where
  pub within : limit_passed N net ≡ None
  pub no_fit : IsNoFit N P net unit

abbrev pub IsNetRefusal : ℕ → ℕ → NetShape → CompileFault → Type 0
IsNetRefusal N P net (NoFit unit) = HasNoFit N P net unit
IsNetRefusal N P net (Limit which) = limit_passed N net ≡ Some which
IsNetRefusal N P net e = ⊥

-- a fault of the net, but that memory may want
abbrev pub IsNetAnswer : ℕ → ℕ → NetShape → CompileFault → Type 0
IsNetAnswer N P net (Memory e) = ⊤
IsNetAnswer N P net e = IsNetRefusal N P net e

-- ---- a program, with the widths of its equations
-- its net is refused so
abbrev pub IsUnfit : ℕ → ℕ → Bool → Program → List ℕ → CompileFault → Type 0
IsUnfit N P narrow program widths e = OfReadyBy narrow program widths (λ ready news. IsNetRefusal N P (net_by program ready news) e)

-- a fault of its net, but that memory may want
abbrev pub IsFrontAnswer : ℕ → ℕ → Bool → Program → List ℕ → CompileFault → Type 0
IsFrontAnswer N P narrow program widths (Memory e) = ⊤
IsFrontAnswer N P narrow program widths e = IsUnfit N P narrow program widths e

-- ---- a text
-- the net of its program is refused so
pub record HasNetRefusal (N P : ℕ) (narrow : Bool) (text : List ℕ) (e : CompileFault) : Type 0 where
  pub program : Program
  pub widths : List ℕ
  pub has : HasWidths text program widths
  pub refused : IsUnfit N P narrow program widths e

-- the text is refused, and so
abbrev pub IsRefused : ℕ → ℕ → Bool → List ℕ → CompileFault → Type 0
IsRefused N P narrow text (Syntax token) = IsRefusal text (front.Syntax token)
IsRefused N P narrow text (Scope rule item) = IsRefusal text (front.Scope rule item)
IsRefused N P narrow text (NoWidth equation) = IsRefusal text (front.NoWidth equation)
IsRefused N P narrow text (NoFit unit) = HasNetRefusal N P narrow text (NoFit unit)
IsRefused N P narrow text (Limit which) = IsRefusal text (front.Limit which) ⊎ HasNetRefusal N P narrow text (Limit which)
IsRefused N P narrow text (Memory e) = ⊥

-- a fault of the text, but that memory may want
abbrev pub IsCompileAnswer : ℕ → ℕ → Bool → List ℕ → CompileFault → Type 0
IsCompileAnswer N P narrow text (Memory e) = ⊤
IsCompileAnswer N P narrow text e = IsRefused N P narrow text e
