-- Operations whose units are those of an operator.
use Rattle.std.specs.Prelude.{Bool, true, false, List, map}
use Rattle.pr_flat.specs.declared.equations.Op.{Op}
use Rattle.pr_cut_units.specs.Widening as Widening
use Rattle.pr_cut_cells.specs.declared.arguments.Argument.{Argument}
use Rattle.pr_cut_cells.specs.Arguments.{argument_of}

-- neither an input, nor a delay, nor a recurrence
abbrev pub is_operator : Op → Bool
is_operator Op.Input = false
is_operator (Op.Delay c) = false
is_operator (Op.Rec init first) = false
is_operator op = true

abbrev pub arguments_of : List Argument → List Widening.Argument
arguments_of args = map argument_of args
