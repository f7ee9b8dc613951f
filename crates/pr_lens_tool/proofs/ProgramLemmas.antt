-- What is told of programs, from what is known of its parts.
use Rattle.std.proofs.Common.{◌≡◌, ℕ, Bool, not, List, [], Option, Result, Ok, Err, IfOk, IfErr, refl, sym, subst}
use Rattle.pr_compile.specs.declared.faults.CompileFault.{CompileFault}
use Rattle.pr_compile.specs.declared.faults.CompileFault.TheVariants.{Syntax, Scope, NoWidth, NoFit, Limit, Memory}
use Rattle.pr_compile.specs.Refusals.{IsCompileAnswer}
use Rattle.pr_tool_answers.specs.declared.answers.Answer.{Answer}
use Rattle.pr_tool_modes.specs.Programs.{compile_answer}
use Rattle.pr_lens_why.specs.declared.explaining.Explanation.{Explanation}
use Rattle.pr_lens_why.specs.Verdicts.{IsExplained}
use Rattle.pr_lens_cost.specs.declared.amounts.Cost.{Cost}
use Rattle.pr_lens_cost.specs.declared.tables.Savings.{Savings}
use Rattle.pr_lens_cost.specs.Costs.{IsCost}
use Rattle.pr_lens_cost.specs.Objects.{IsToldAs}
use Rattle.pr_lens_tool.specs.Asked.{AskedTarget}
use Rattle.pr_lens_show.specs.declared.findings.Finding.{Finding}
use Rattle.pr_lens_show.specs.Findings.{IsPut}
use Rattle.pr_tool.specs.Notes.{note_of}
use Rattle.pr_lens_tool.specs.declared.outcomes.Outcome.{Outcome}
use Rattle.pr_lens_tool.specs.declared.outcomes.Outcome.TheVariants.{Plain}
use Rattle.pr_lens_tool.specs.Programs.{AreSavings, IsCosted, IsExplanation, IsFinding, IsUnanswered, IsWhy, bounds_for, savings_in}

pub explanation_told : (target : AskedTarget) (json : Bool) (text : List ℕ) (e : Explanation) (answer : Answer) (f : Finding) (old written : List ℕ) → old ≡ [] → IsFinding e (note_of (bounds_for target.fabric) answer) f
    → IsPut json target.file text f old written → IsExplanation target json text e answer written
explanation_told target json text e answer f old written none is put = record {
  finding = f;
  is = is;
  put = subst (λ (b : List ℕ). IsPut json target.file text f b written) none put;
}

pub why_told : (N P : ℕ) (target : AskedTarget) (text written : List ℕ) (json : Bool) (e : Explanation) (answer : Answer) → IsExplained N P target.narrowed text e → answer ≡ compile_answer e.fault
    → IsExplanation target json text e answer written → IsWhy N P target json text answer written
why_told N P target text written json e answer is answers told = record { explanation = e; is = is; answers = answers; told = told }

pub cost_told : (N P : ℕ) (target : AskedTarget) (json : Bool) (samples : ℕ) (text written : List ℕ) (cost : Cost) (savings : Option Savings) (other : Bool) (count : ℕ) → IsCost N P target.narrowed text cost → other ≡ not target.narrowed
    → AreSavings N P other text savings → count ≡ samples → IsToldAs json cost savings N (record { fabric = target.fabric; narrowed = target.narrowed; samples = count }) written → IsCosted N P target json samples text written
cost_told N P target json samples text written cost savings other count is way saved same told = record {
  cost = cost;
  is = is;
  savings = savings;
  saved = subst (λ (b : Bool). AreSavings N P b text savings) way saved;
  told = subst (λ (n : ℕ). IsToldAs json cost savings N (record { fabric = target.fabric; narrowed = target.narrowed; samples = n }) written) same told;
}

-- what was told of the other way is what it saves
pub saved_by : (N P : ℕ) (narrowed : Bool) (text : List ℕ) (cost : Result Cost CompileFault) → IfOk cost (IsCost N P narrowed text) → IfErr cost (IsCompileAnswer N P narrowed text)
    → IfOk (savings_in narrowed cost) (AreSavings N P narrowed text)
saved_by N P narrowed text (Ok cost) is refused = record { cost = cost; is = is; way = refl; units = refl; stages = refl }
saved_by N P narrowed text (Err (Memory e)) is refused = is
saved_by N P narrowed text (Err (Syntax token)) is refused = record { fault = Syntax token; refused = refused }
saved_by N P narrowed text (Err (Scope number item)) is refused = record { fault = Scope number item; refused = refused }
saved_by N P narrowed text (Err (NoWidth equation)) is refused = record { fault = NoWidth equation; refused = refused }
saved_by N P narrowed text (Err (NoFit unit)) is refused = record { fault = NoFit unit; refused = refused }
saved_by N P narrowed text (Err (Limit which)) is refused = record { fault = Limit which; refused = refused }

-- ---- why nothing is told
-- memory was wanting
pub memory_wanting : (N P : ℕ) (narrowed : Bool) (text : List ℕ) (outcome : Outcome) → outcome ≡ Plain Answer.Memory → IsUnanswered N P narrowed text outcome
memory_wanting N P narrowed text outcome is = subst (IsUnanswered N P narrowed text) (sym is) refl
