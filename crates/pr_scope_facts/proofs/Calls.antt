-- The arguments of a call, and the function that is called, in the meaning and in the equations.
use Rattle.std.proofs.Common.{◌≡◌, ◌∙◌, ℕ, arith, true, List, [], ◌∷◌, length, Option, Some, None, refl, ap, subst}
use Rattle.std.specs.Option.{option_and_then}
use Rattle.pr_lang.specs.declared.trees.Expr.{Expr}
use Rattle.pr_lang.specs.declared.trees.Stmt.{Stmt}
use Rattle.pr_lang.specs.declared.trees.Param.{Param}
use Rattle.pr_scope_names.specs.Names.{Known, Streaming}
use Rattle.pr_flat.specs.Forms.{Stream}
use Rattle.pr_lang_meaning.specs.Streams.{Streams, assigned, no_streams, sources, with_stream}
use Rattle.pr_lang_meaning.specs.Expressions.{Visible, meaning}
use Rattle.pr_lang_meaning.specs.Statements.{changes_of}
use Rattle.pr_lang_meaning.specs.Programs as meaning
use Rattle.pr_expand_spec.specs.declared.givens.Given.{Given}
use Rattle.pr_expand_spec.specs.Making.{Equations}
use Rattle.pr_expand_spec.specs.Statements.{Progress, named}
use Rattle.pr_expand_spec.specs.Programs as equations
use Rattle.pr_scope.specs.Statements.{is_width}
use Rattle.pr_scope_facts.proofs.InvertedStatements.{Introduces}
use Rattle.pr_scope_facts.proofs.InvertedItems.{AllParams, HaveWidths}
use Rattle.pr_scope_facts.proofs.Outcomes.{then_some}

-- ---- arguments
-- a fact of the arguments that are still to come, and of what is bound so far
abbrev pub ArgumentFact : Type 1
ArgumentFact = List Stream → List Given → Streaming → Streams → Progress → Type 0

-- one argument more is bound
abbrev pub bound : Param → Given → Progress → Progress
bound p g s = named p.name None s.streams (equations.passed p.width g s.equations)

-- What each argument keeps, where the equations in the end are fine.
pub record Passes (R : ArgumentFact) (Fine : Equations → Type 0) : Type 0 where
  pub earlier : (p : Param) (g : Given) (s : Progress) → Fine (bound p g s).equations → Fine s.equations
  pub passes : (p : Param) (known : Known) (s t : Streaming) (env : Streams) (made : Progress) (x : Stream) (g : Given) (xs : List Stream) (gs : List Given) → Introduces p.name None known s t → is_width p.width ≡ true → Fine (bound p g made).equations → R (x ∷ xs) (g ∷ gs) s env made → R xs gs t (with_stream p.name None (meaning.passed p.width x) env) (bound p g made)

-- all arguments are bound
pub record Passed (R : ArgumentFact) (streams : Streaming) (o : Option Streams) (made : Progress) : Type 0 where
  pub after : Streams
  pub meant : o ≡ Some after
  pub fact : R [] [] streams after made

fine-arguments : (R : ArgumentFact) (Fine : Equations → Type 0) → Passes R Fine → (params : List Param) (gs : List Given) (s : Progress) → Fine (equations.with_arguments params gs s).equations → Fine s.equations
fine-arguments R Fine step [] gs s fine = fine
fine-arguments R Fine step (p ∷ ps) [] s fine = fine
fine-arguments R Fine step (p ∷ ps) (g ∷ gs) s fine = step.earlier p g s (fine-arguments R Fine step ps gs (bound p g s) fine)

pub arguments-passed : (R : ArgumentFact) (Fine : Equations → Type 0) → Passes R Fine → (params : List Param) (known : Known) (s t : Streaming) (env : Streams) (made : Progress) (xs : List Stream) (gs : List Given) → AllParams params known s t → HaveWidths params → length xs ≡ length params → length gs ≡ length params → Fine (equations.with_arguments params gs made).equations → R xs gs s env made → Passed R t (meaning.with_arguments params xs env) (equations.with_arguments params gs made)
arguments-passed R Fine step [] known s t env made [] [] all widths few same fine fact = record { after = env; meant = refl; fact = subst (λ u. R [] [] u env made) all fact }
arguments-passed R Fine step [] known s t env made [] (g ∷ gs) all widths few same fine fact = absurd (omega (arith, same))
arguments-passed R Fine step [] known s t env made (x ∷ xs) gs all widths few same fine fact = absurd (omega (arith, few))
arguments-passed R Fine step (p ∷ ps) known s t env made [] gs all widths few same fine fact = absurd (omega (arith, few))
arguments-passed R Fine step (p ∷ ps) known s t env made (x ∷ xs) [] all widths few same fine fact = absurd (omega (arith, same))
arguments-passed R Fine step (p ∷ ps) known s t env made (x ∷ xs) (g ∷ gs) all widths few same fine fact =
    let next = bound p g made in
    let here = step.passes p known s all.0 env made x g xs gs all.1 widths.0 (fine-arguments R Fine step ps gs next fine) fact in
    arguments-passed R Fine step ps known all.0 t (with_stream p.name None (meaning.passed p.width x) env) next xs gs all.2 widths.1 (omega (arith, few)) (omega (arith, same)) fine here

-- ---- the function
-- what a function makes, once its arguments are bound and its body is run
pub function-meant : (params : List Param) (width : Option ℕ) (body : List Stmt) (result : Expr) (v : Visible) (m : ℕ) (xs : List Stream) (env locals : Streams) → meaning.with_arguments params xs no_streams ≡ Some env → changes_of body v m env ≡ Some locals → meaning.function_of params width body result v m xs ≡ assigned width (meaning result v m (sources m locals))
function-meant params width body result v m xs env locals args run =
    let finish : Streams → Option Stream = λ after. assigned width (meaning result v m (sources m after)) in
    ap (option_and_then (λ e. option_and_then finish (changes_of body v m e))) args ∙ ap (option_and_then finish) run

-- and the other way round
pub record FunctionMeant (params : List Param) (width : Option ℕ) (body : List Stmt) (result : Expr) (v : Visible) (m : ℕ) (xs : List Stream) (s : Stream) : Type 0 where
  pub env : Streams
  pub locals : Streams
  pub arguments : meaning.with_arguments params xs no_streams ≡ Some env
  pub run : changes_of body v m env ≡ Some locals
  pub value : assigned width (meaning result v m (sources m locals)) ≡ Some s

pub function-inverted : (params : List Param) (width : Option ℕ) (body : List Stmt) (result : Expr) (v : Visible) (m : ℕ) (xs : List Stream) (s : Stream) → meaning.function_of params width body result v m xs ≡ Some s → FunctionMeant params width body result v m xs s
function-inverted params width body result v m xs s is =
    let finish : Streams → Option Stream = λ after. assigned width (meaning result v m (sources m after)) in
    let args = then_some (meaning.with_arguments params xs no_streams) (λ e. option_and_then finish (changes_of body v m e)) s is in
    let run = then_some (changes_of body v m args.0) finish s args.2 in
    record { env = args.0; locals = run.0; arguments = args.1; run = run.1; value = run.2 }
