-- What the files of the system tell.
use Rattle.std.specs.Prelude.{ℕ, List, Option, None}
use Rattle.pr_edge.specs.Files.{Told}

-- the bytes of no file
abbrev pub untold : Told
untold = None

-- of no file how far it was read
abbrev pub unreached : List ℕ → Option ℕ
unreached name = None
