-- The vectors that a module drives.
use Rattle.std.specs.Prelude.{ℕ, ◌<◌, Bool, true, false, List, ◌++◌, map}
use Rattle.pr_lens_rtl.specs.declared.vectors.Net.{Net}
use Rattle.pr_lens_rtl.specs.Verilog.{Assign, Module}

-- what is assigned: its wires, and then its registers
abbrev pub driven : Module → List Net
driven m = map (λ (a : Assign). a.net) (m.wires ++ m.registers)

-- what is driven from outside: the ports that are inputs, and the bytes of the sample
abbrev pub is_given : Net → Bool
is_given Net.Reset = true
is_given Net.InValid = true
is_given Net.InReady = false
is_given Net.OutValid = false
is_given Net.OutReady = true
is_given (Net.In k) = true
is_given (Net.Out k) = false
is_given (Net.Valid s) = false
is_given (Net.Of part s k) = false

-- the numbers of a vector are below this
abbrev pub IsBelow : ℕ → Net → Type 0
IsBelow top Net.Reset = Unit {0}
IsBelow top Net.InValid = Unit {0}
IsBelow top Net.InReady = Unit {0}
IsBelow top Net.OutValid = Unit {0}
IsBelow top Net.OutReady = Unit {0}
IsBelow top (Net.In k) = k < top
IsBelow top (Net.Out k) = k < top
IsBelow top (Net.Valid s) = s < top
IsBelow top (Net.Of part s k) = (s < top) × (k < top)
