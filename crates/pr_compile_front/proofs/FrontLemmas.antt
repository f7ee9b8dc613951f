-- From the answers of the steps to the refusals of the text.
use Rattle.std.proofs.Common.{◌≡◌, ◌<◌, ◌≤◌, ℕ, List, length, Result, Err, refl, sym, ap, subst, arith, inl, inr}
use Rattle.std.specs.Result.{IfErr}
use Rattle.pr_lang.specs.declared.trees.Program.{Program}
use Rattle.pr_lang.specs.Syntax.{refusal_of}
use Rattle.pr_parse.specs.declared.parser.ParseFault.{ParseFault}
use Rattle.pr_parse.specs.declared.parser.ParseFault.TheVariants as parse
use Rattle.pr_parse.specs.Outcomes.{IsRefused}
use Rattle.pr_scope.specs.declared.checking.ScopeFault.{ScopeFault}
use Rattle.pr_scope.specs.declared.checking.ScopeFault.TheVariants as scope
use Rattle.pr_scope.specs.declared.checking.Scoped.{Scoped}
use Rattle.pr_scope.specs.Walk.{IsRefusal as IsScopeRefusal, offence}
use Rattle.pr_expand.specs.declared.flats.ExpandFault.{ExpandFault}
use Rattle.pr_expand.specs.declared.flats.ExpandFault.TheVariants as expand
use Rattle.pr_expand.specs.Worlds.{IsLimit as IsExpandLimit}
use Rattle.pr_width.specs.declared.widths.WidthFault.{WidthFault}
use Rattle.pr_width.specs.declared.widths.WidthFault.TheVariants as width
use Rattle.pr_flat.specs.declared.equations.Operand.{Operand}
use Rattle.pr_flat.specs.Shape.{EquationShape}
use Rattle.pr_flat.specs.Facts.{IsFlat}
use Rattle.pr_flat.specs.Widths.{IsFirstWithout}
use Rattle.pr_expand_spec.specs.Programs.{equations_of}
use Rattle.pr_compile_front.specs.declared.faults.FrontFault.{FrontFault}
use Rattle.pr_compile_front.specs.Faults.{parse_fault, scope_fault, expand_fault, width_fault}
use Rattle.pr_compile_front.specs.Refusals.{IsRead, IsKept, IsMade, IsLimit, IsAnswer}

pub parse_answer : (text : List ℕ) (e : ParseFault) → IsRefused (refusal_of text) e → IsAnswer text (parse_fault e)
parse_answer text (parse.Syntax token) is = is
parse_answer text (parse.Limit cap) is = subst (IsLimit text) (sym is.0) is.1
parse_answer text (parse.Memory error) is = tt

pub scope_answer : (text : List ℕ) (program : Program) (e : ScopeFault) → IsRead text program → IsScopeRefusal e (offence program) → IsAnswer text (scope_fault e)
scope_answer text program (scope.Scope rule item) read is = record { program = program; read = read; offends = is }
scope_answer text program (scope.Limit cap) read is = subst (IsLimit text) (sym is.0) (record { program = program; read = read; offends = is.1 })
scope_answer text program (scope.Memory error) read is = tt

pub expand_answer : (text : List ℕ) (program : Program) (e : ExpandFault) → IsKept text program → IsExpandLimit e (equations_of program).equations → IsAnswer text (expand_fault e)
expand_answer text program (expand.Limit cap) kept is = subst (IsLimit text) (sym is.0) (record { program = program; kept = kept; many = is.1 })
expand_answer text program (expand.Memory error) kept is = tt

pub width_answer : (text : List ℕ) (program : Program) (e : WidthFault) → IsMade text program
    → ((n : ℕ) → e ≡ width.NoWidth n → IsFirstWithout (equations_of program).equations n) → IsAnswer text (width_fault e)
width_answer text program (width.NoWidth equation) made is = record { program = program; made = made; without = is equation refl }
width_answer text program (width.Memory error) made is = tt

-- ---- what is known after a step
-- the fault with which a step ends the whole
pub at_exit : {T : Type 0} (text : List ℕ) (r : Result T FrontFault) (e : FrontFault) → (y : FrontFault) × (r ≡ Err y) × (y ≡ e) → IsAnswer text e → IfErr r (λ x. IsAnswer text x)
at_exit text r e p is = rw (p.1, p.2) is

pub kept_of : (text : List ℕ) (program : Program) (s : Scoped) → IsRead text program → s.program ≡ program → IsKept text s.program
kept_of text program s read same = record { read = subst (IsRead text) (sym same) read; lawful = s.lawful }

pub made_of : (text : List ℕ) (program : Program) (equations : List EquationShape) (outputs : List Operand) → IsKept text program → equations ≡ (equations_of program).equations → IsFlat equations outputs → IsMade text program
made_of text program equations outputs kept same flat = record { kept = kept; few = omega (arith, flat.few, ap length same) }
