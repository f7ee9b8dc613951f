-- The words of the command line.
use Rattle.std.specs.Prelude.{Result, String, Vec}
use Rattle.std.specs.declared.alloc.Global.{Global}
use Rattle.std.specs.declared.io.ErrorKind.{ErrorKind}
use Rattle.std.specs.declared.io.ErrorKind.TheVariants.{InvalidData}
use Rattle.pr_system.specs.declared.words.WordsFault.{WordsFault}

-- the words, or why they cannot be had
abbrev pub Given : Type 0
Given = Result (Vec (String Global) Global) WordsFault

-- why they cannot be had, by what the system says
abbrev pub fault_of : ErrorKind → WordsFault
fault_of InvalidData = WordsFault.NoText
fault_of kind = WordsFault.Memory
