-- What a reader of words answers.
use Rattle.std.specs.Prelude.{◌≡◌, Option, None, Some, Result, Ok, Err}
use Rattle.pr_code.specs.declared.faults.CodeFault.{CodeFault}
use Rattle.pr_code.specs.Rules.{Broken}

-- what was read, where no word breaks its rule; else the first that does. Of want of memory nothing is said
abbrev pub Reads : {X : Type 0} → Result X CodeFault → Option Broken → (X → Type 0) → Type 0
Reads (Ok x) broken P = (broken ≡ None) × P x
Reads (Err (CodeFault.BadConfig rule place)) broken P = broken ≡ Some (record { rule = rule; place = place })
Reads (Err (CodeFault.Memory e)) broken P = Unit {0}
