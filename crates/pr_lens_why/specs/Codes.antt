-- Short words for the kinds of refusals, which never change.
use Rattle.std.specs.Prelude.{ℕ, List, ◌++◌, codes, decimal}
use Rattle.pr_base.specs.declared.caps.Cap.{Cap}
use Rattle.pr_compile.specs.declared.faults.CompileFault.{CompileFault}
use Rattle.pr_compile.specs.declared.faults.CompileFault.TheVariants.{Syntax, Scope, NoWidth, NoFit, Limit, Memory}

abbrev pub limit_code : Cap → List ℕ
limit_code Cap.Nesting = codes "limit-nesting"
limit_code Cap.Turns = codes "limit-turns"
limit_code Cap.Equations = codes "limit-equations"
limit_code Cap.InputBytes = codes "limit-input-bytes"
limit_code Cap.Outputs = codes "limit-outputs"
limit_code cap = codes "limit-units"

abbrev pub code_of : CompileFault → List ℕ
code_of (Syntax token) = codes "syntax"
code_of (Scope rule item) = codes "scope-" ++ decimal rule
code_of (NoWidth equation) = codes "no-width"
code_of (NoFit unit) = codes "no-fit"
code_of (Limit cap) = limit_code cap
code_of (Memory e) = codes "memory"
