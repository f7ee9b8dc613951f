-- What is refused of a text, point by point: each point speaks of a text that no point before it refuses.
use Rattle.std.specs.Prelude.{◌≡◌, ◌<◌, ◌≤◌, ℕ, List, length, Option, Some, None, ⊤}
use Rattle.pr_base.specs.declared.caps.Cap.{Cap}
use Rattle.pr_lang.specs.declared.trees.Program.{Program}
use Rattle.pr_lang.specs.Shape.{program_shape}
use Rattle.pr_lang.specs.Syntax.{IsProgram, AtToken, TooDeep}
use Rattle.pr_lang.specs.Syntax.{refusal_of as token_refused}
use Rattle.pr_scope.specs.Walk.{Refusal, too_long, broken, offence}
use Rattle.pr_expand_spec.specs.Programs.{equations_of}
use Rattle.pr_flat.specs.Widths.{AreWidths, IsFirstWithout}
use Rattle.pr_compile_front.specs.declared.faults.FrontFault.{FrontFault}
use Rattle.pr_compile_front.specs.declared.faults.FrontFault.TheVariants.{Syntax, Scope, NoWidth, Memory}
use Rattle.pr_compile_front.specs.declared.faults.FrontFault.TheVariants as fault

-- no token is wrong or nested too deep, and the text is that of this program
pub record IsRead (text : List ℕ) (program : Program) : Type 0 where
  pub is : IsProgram text (program_shape program)
  pub good : token_refused text ≡ None

-- and the program keeps the rules of scope
pub record IsKept (text : List ℕ) (program : Program) : Type 0 where
  pub read : IsRead text program
  pub lawful : offence program ≡ None

-- and it has no more equations than are allowed
pub record IsMade (text : List ℕ) (program : Program) : Type 0 where
  pub kept : IsKept text program
  pub few : length (equations_of program).equations ≤ 16384

-- and they have these widths: no point refuses the text
pub record HasWidths (text : List ℕ) (program : Program) (widths : List ℕ) : Type 0 where
  pub made : IsMade text program
  pub are : AreWidths (equations_of program).equations widths

-- ---- refusals
-- the first offence of its program is this
pub record HasOffence (text : List ℕ) (refusal : Refusal) : Type 0 where
  pub program : Program
  pub read : IsRead text program
  pub offends : offence program ≡ Some refusal

-- its program has more equations than are allowed
pub record HasManyEquations (text : List ℕ) : Type 0 where
  pub program : Program
  pub kept : IsKept text program
  pub many : 16384 < length (equations_of program).equations

-- this equation of its program is the first without a width
pub record HasNoWidth (text : List ℕ) (equation : ℕ) : Type 0 where
  pub program : Program
  pub made : IsMade text program
  pub without : IsFirstWithout (equations_of program).equations equation

-- a quantity passes its limit
abbrev pub IsLimit : List ℕ → Cap → Type 0
IsLimit text Cap.Nesting = token_refused text ≡ Some TooDeep
IsLimit text Cap.Turns = HasOffence text too_long
IsLimit text Cap.Equations = HasManyEquations text
IsLimit text which = ⊥

-- the text is refused, and so
abbrev pub IsRefusal : List ℕ → FrontFault → Type 0
IsRefusal text (Syntax token) = token_refused text ≡ Some (AtToken token)
IsRefusal text (Scope rule item) = HasOffence text (broken rule item)
IsRefusal text (NoWidth equation) = HasNoWidth text equation
IsRefusal text (fault.Limit which) = IsLimit text which
IsRefusal text (Memory e) = ⊥

-- a fault of the text, but that memory may want
abbrev pub IsAnswer : List ℕ → FrontFault → Type 0
IsAnswer text (Memory e) = ⊤
IsAnswer text e = IsRefusal text e
