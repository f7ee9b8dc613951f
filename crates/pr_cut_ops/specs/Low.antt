-- Slices that begin low enough.
use Rattle.std.specs.Prelude.{Bool, true, nat_lt}
use Rattle.pr_flat.specs.declared.equations.Op.{Op}

-- a slice begins at a place that a number of 32 bits holds
abbrev pub is_low : Op → Bool
is_low (Op.Slice high low) = nat_lt low 4294967296
is_low op = true
