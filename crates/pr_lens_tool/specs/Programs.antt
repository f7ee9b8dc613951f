-- What is told of programs, and what is written of them.
use Rattle.std.specs.Prelude.{◌≡◌, ◌≤◌, ℕ, Bool, not, List, [], length, Option, Some, None, Result, Ok, Err}
use Rattle.std.specs.declared.alloc.AllocError.{AllocError}
use Rattle.pr_base.specs.declared.caps.Cap.{Cap}
use Rattle.pr_base.specs.declared.fabrics.Fabric.{Fabric}
use Rattle.pr_base.specs.Fabrics.{columns, registers}
use Rattle.pr_base.specs.Limits.{cap_number, most_program_bytes}
use Rattle.pr_compile.specs.declared.faults.CompileFault.{CompileFault}
use Rattle.pr_compile.specs.declared.faults.CompileFault.TheVariants.{Memory}
use Rattle.pr_compile.specs.Refusals.{IsRefused}
use Rattle.pr_edge.specs.Files.{Told}
use Rattle.pr_tool_answers.specs.declared.answers.Answer.{Answer}
use Rattle.pr_tool_modes.specs.Files.{HasRefused, IsText, IsUnread}
use Rattle.pr_tool_modes.specs.Programs.{compile_answer}
use Rattle.pr_tool.specs.declared.notes.Bounds.{Bounds}
use Rattle.pr_tool.specs.Notes.{note_of}
use Rattle.pr_lens_show.specs.declared.findings.Finding.{Finding}
use Rattle.pr_lens_show.specs.declared.findings.Severity.{Severity}
use Rattle.pr_lens_show.specs.Findings.{IsPut}
use Rattle.pr_lens_why.specs.declared.explaining.Explanation.{Explanation}
use Rattle.pr_lens_why.specs.Codes.{code_of}
use Rattle.pr_lens_why.specs.declared.helps.Help.{Help}
use Rattle.pr_lens_why.specs.Helps.{HasConfiguration, HasRefusal, IsHelp}
use Rattle.pr_lens_why.specs.Verdicts.{IsExplained}
use Rattle.pr_lens_cost.specs.declared.amounts.Cost.{Cost as ProgramCost}
use Rattle.pr_lens_cost.specs.declared.tables.Savings.{Savings}
use Rattle.pr_lens_cost.specs.Costs.{IsCost}
use Rattle.pr_lens_cost.specs.Objects.{IsToldAs}
use Rattle.pr_lens_graph.specs.declared.layouts.Layout.{Layout}
use Rattle.pr_lens_graph.specs.Graphs.{graph_of}
use Rattle.pr_lens_graph.specs.Layouts.{IsLayout}
use Rattle.pr_lens_tool.specs.declared.outcomes.Outcome.{Outcome}
use Rattle.pr_lens_tool.specs.declared.outcomes.Outcome.TheVariants.{Plain, Refused, Explained}
use Rattle.pr_lens_tool.specs.Accepted.{TellsAccepted}
use Rattle.pr_lens_tool.specs.Asked.{AskedQuestion, AskedTarget, Cost, Graph, Rtl, Why}
use Rattle.pr_lens_tool.specs.Modules.{IsModuleOrLong}

-- the limits for programs on a fabric
abbrev pub bounds_for : Fabric → Bounds
bounds_for fabric = record { fabric = fabric; sample_bytes = cap_number Fabric.Base Cap.SampleBytes }

-- ---- why
-- an explanation as a finding, with the line of the answer
pub record IsFinding (e : Explanation) (heading : List ℕ) (f : Finding) : Type 0 where
  pub severity : f.severity ≡ Severity.Error
  pub code : f.code.now ≡ code_of e.fault
  pub heading_is : f.heading.now ≡ heading
  pub start : f.start ≡ e.start
  pub end : f.end ≡ e.end
  pub message : f.message.now ≡ e.message.items

-- the text of an explanation, for people or as JSON
pub record IsExplanation (target : AskedTarget) (json : Bool) (text : List ℕ) (e : Explanation) (answer : Answer) (written : List ℕ) : Type 0 where
  pub finding : Finding
  pub is : IsFinding e (note_of (bounds_for target.fabric) answer) finding
  pub put : IsPut json target.file text finding [] written

-- a text is refused with this answer, and what is written explains it
pub record IsWhy (N P : ℕ) (target : AskedTarget) (json : Bool) (text : List ℕ) (answer : Answer) (written : List ℕ) : Type 0 where
  pub explanation : Explanation
  pub is : IsExplained N P target.narrowed text explanation
  pub answers : answer ≡ compile_answer explanation.fault
  pub told : IsExplanation target json text explanation answer written

-- a text has a configuration, and that is written, with its warnings
pub record IsAccepted (N P : ℕ) (target : AskedTarget) (json warnings : Bool) (text written : List ℕ) : Type 0 where
  pub has : HasConfiguration N P target.narrowed text
  pub told : TellsAccepted json warnings target.file text written

abbrev pub IsSaid : ℕ → ℕ → AskedTarget → (json warnings : Bool) → List ℕ → Outcome → List ℕ → Type 0
IsSaid N P target json warnings text (Explained answer) written = IsWhy N P target json text answer written
IsSaid N P target json warnings text outcome written = (outcome ≡ Plain Answer.Ok) × IsAccepted N P target json warnings text written

-- ---- cost
-- units and stages of a text that is compiled this way
pub record IsSaving (N P : ℕ) (narrowed : Bool) (text : List ℕ) (savings : Savings) : Type 0 where
  pub cost : ProgramCost
  pub is : IsCost N P narrowed text cost
  pub way : savings.narrowed ≡ narrowed
  pub units : savings.units ≡ cost.units
  pub stages : savings.stages ≡ length cost.stages.items

-- what compiling this way saves, where the text is accepted so
abbrev pub AreSavings : ℕ → ℕ → Bool → List ℕ → Option Savings → Type 0
AreSavings N P narrowed text (Some savings) = IsSaving N P narrowed text savings
AreSavings N P narrowed text None = HasRefusal N P narrowed text

-- what is told of the other way, by what its cost came to: nothing where the text is refused so
abbrev pub savings_in : Bool → Result ProgramCost CompileFault → Result (Option Savings) AllocError
savings_in narrowed (Ok cost) = Ok (Some (record { narrowed = narrowed; units = cost.units; stages = length cost.stages.items }))
savings_in narrowed (Err (Memory e)) = Err e
savings_in narrowed (Err fault) = Ok None

-- what a text costs is written, and what the other way saves, as JSON or as people read it
pub record IsCosted (N P : ℕ) (target : AskedTarget) (json : Bool) (samples : ℕ) (text written : List ℕ) : Type 0 where
  pub cost : ProgramCost
  pub is : IsCost N P target.narrowed text cost
  pub savings : Option Savings
  pub saved : AreSavings N P (not target.narrowed) text savings
  pub told : IsToldAs json cost savings N (record { fabric = target.fabric; narrowed = target.narrowed; samples = samples }) written

-- ---- graph
-- a text has units with stages, and their graph is written
pub record IsGraphed (N P : ℕ) (narrowed : Bool) (text written : List ℕ) : Type 0 where
  pub layout : Layout
  pub is : IsLayout N P narrowed text layout
  pub told : written ≡ graph_of layout

-- ---- all four
-- what is told of a text that is asked so, and what is written
abbrev pub IsTold : AskedQuestion → ℕ → ℕ → AskedTarget → List ℕ → Outcome → List ℕ → Type 0
IsTold (Why json warnings) N P target text outcome written = IsSaid N P target json warnings text outcome written
IsTold (Cost json samples) N P target text outcome written = (outcome ≡ Plain Answer.Ok) × IsCosted N P target json samples text written
IsTold Graph N P target text outcome written = (outcome ≡ Plain Answer.Ok) × IsGraphed N P target.narrowed text written
IsTold (Rtl name) N P target text outcome written = IsModuleOrLong N P target.narrowed text name outcome written

-- the same of the program of a file
pub record IsToldOf (question : AskedQuestion) (told : Told) (target : AskedTarget) (outcome : Outcome) (written : List ℕ) : Type 0 where
  pub text : List ℕ
  pub file : IsText told target.file text
  pub short : length text ≤ most_program_bytes
  pub is : IsTold question (columns target.fabric) (registers target.fabric) target text outcome written

-- ---- why nothing is told
-- a text is refused, and these options make it fit
pub record IsRefusedWith (N P : ℕ) (narrowed : Bool) (text : List ℕ) (answer : Answer) (help : Help) : Type 0 where
  pub fault : CompileFault
  pub refused : IsRefused N P narrowed text fault
  pub answers : answer ≡ compile_answer fault
  pub helps : IsHelp N P narrowed text fault help

-- of a text: it is refused, or memory was wanting
abbrev pub IsUnanswered : ℕ → ℕ → Bool → List ℕ → Outcome → Type 0
IsUnanswered N P narrowed text (Plain answer) = answer ≡ Answer.Memory
IsUnanswered N P narrowed text (Refused answer help) = IsRefusedWith N P narrowed text answer help
IsUnanswered N P narrowed text outcome = ⊥

-- of the program of a file: the file was not read whole, or its text is refused as `piperench` refuses it
abbrev pub IsUntold : Told → AskedTarget → ℕ → ℕ → Outcome → Type 0
IsUntold told target before now (Plain answer) = IsUnread most_program_bytes Cap.ProgramBytes told target.file before now answer
IsUntold told target before now (Refused answer help) =
    HasRefused most_program_bytes (λ text a. IsRefusedWith (columns target.fabric) (registers target.fabric) target.narrowed text a help) told target.file answer
IsUntold told target before now outcome = ⊥
