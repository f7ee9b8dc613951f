-- The faults of the steps, as faults of the whole.
use Rattle.pr_parse.specs.declared.parser.ParseFault.{ParseFault}
use Rattle.pr_parse.specs.declared.parser.ParseFault.TheVariants as parse
use Rattle.pr_scope.specs.declared.checking.ScopeFault.{ScopeFault}
use Rattle.pr_scope.specs.declared.checking.ScopeFault.TheVariants as scope
use Rattle.pr_expand.specs.declared.flats.ExpandFault.{ExpandFault}
use Rattle.pr_expand.specs.declared.flats.ExpandFault.TheVariants as expand
use Rattle.pr_width.specs.declared.widths.WidthFault.{WidthFault}
use Rattle.pr_width.specs.declared.widths.WidthFault.TheVariants as width
use Rattle.pr_compile_front.specs.declared.faults.FrontFault.{FrontFault}
use Rattle.pr_compile_front.specs.declared.faults.FrontFault.TheVariants.{Syntax, Scope, NoWidth, Limit, Memory}

abbrev pub parse_fault : ParseFault → FrontFault
parse_fault (parse.Syntax token) = Syntax token
parse_fault (parse.Limit cap) = Limit cap
parse_fault (parse.Memory e) = Memory e

abbrev pub scope_fault : ScopeFault → FrontFault
scope_fault (scope.Scope rule item) = Scope rule item
scope_fault (scope.Limit cap) = Limit cap
scope_fault (scope.Memory e) = Memory e

abbrev pub expand_fault : ExpandFault → FrontFault
expand_fault (expand.Limit cap) = Limit cap
expand_fault (expand.Memory e) = Memory e

abbrev pub width_fault : WidthFault → FrontFault
width_fault (width.NoWidth equation) = NoWidth equation
width_fault (width.Memory e) = Memory e
