-- How deep brackets are open.
use Rattle.std.specs.Prelude.{ℕ, ◌+◌, ◌-◌, ◌^◌, min}
use Rattle.pr_lang.specs.declared.tokens.Kind.{Kind}
use Rattle.pr_lang.specs.declared.tokens.Kind.TheVariants.{Mark}
use Rattle.pr_lang.specs.declared.tokens.Symbol.{Symbol}
use Rattle.pr_lang.specs.declared.tokens.Symbol.TheVariants.{OpenRound, OpenSquare, OpenCurly, CloseRound, CloseSquare, CloseCurly}

-- behind a symbol, as far as 64 bits count
abbrev pub depth_behind : ℕ → Symbol → ℕ
depth_behind depth OpenRound = min (depth + 1) (2 ^ 64 - 1)
depth_behind depth OpenSquare = min (depth + 1) (2 ^ 64 - 1)
depth_behind depth OpenCurly = min (depth + 1) (2 ^ 64 - 1)
depth_behind depth CloseRound = depth - 1
depth_behind depth CloseSquare = depth - 1
depth_behind depth CloseCurly = depth - 1
depth_behind depth _ = depth

-- behind a token
abbrev pub depth_after : ℕ → Kind → ℕ
depth_after depth (Mark symbol) = depth_behind depth symbol
depth_after depth _ = depth
