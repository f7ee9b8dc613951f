-- What a command line asks for: each mode is one of a few kinds of request.
use Rattle.std.specs.Prelude.{ℕ, true, false, List}
use Rattle.pr_tool_words.specs.Lawful.{Order, Task, Run, Trace, Compile, Exec, Eval, Show, Gen, Migrate, Share, Checkpoint, Move, Extend}
use Rattle.pr_tool_modes.specs.declared.texts.Form.{Form}
use Rattle.pr_tool_modes.specs.declared.targets.Target.{Target}
use Rattle.pr_tool_modes.specs.Generations.{Generation, generation_of}
use Rattle.pr_tool_modes.specs.Jobs.{Job, job, Resumption, source_of, job_of, resumption_of}
use Rattle.pr_tool_modes.specs.Sources.{ConfSource, File, Text}
use Rattle.pr_tool.specs.declared.requests.Request.{Request as NamedRequest}
use Rattle.pr_tool.specs.declared.requests.Request.TheVariants as named

-- a text of a configuration is written; a configuration is run; it is run for its checkpoint; a run goes on from a checkpoint,
-- or does so for the next one; a program is evaluated; a generated program is run; or the programs of a list take turns
pub data Request : Type 0 where
  Texts : (form : Form) (source : ConfSource) → Request
  Runs : (j : Job) → Request
  Folds : (j : Job) → Request
  Moves : (r : Resumption) → Request
  Extends : (r : Resumption) → Request
  Evaluates : (first second : List ℕ) → Request
  Generates : (g : Generation) → Request
  Shares : (list : List ℕ) (stripes : ℕ) → Request

-- what programs are compiled for
abbrev pub target_of : Order → Target
target_of order = record { fabric = order.fabric; narrowed = order.narrow }

-- a run that goes on from a checkpoint
abbrev pub resumption : Order → List ℕ → List ℕ → Resumption
resumption order checkpoint samples = record { name = checkpoint; second = samples; stall = order.stall; stripes = order.stripes; log = false }

abbrev pub request_for : Order → Task → Request
request_for order (Show configuration) = Texts Form.Summary (File configuration)
request_for order (Migrate configuration) = Texts Form.File (File configuration)
request_for order (Compile program) = Texts Form.File (Text program (target_of order))
request_for order (Run program samples) = Runs (job (Text program (target_of order)) samples order.stall order.stripes false)
request_for order (Trace program samples) = Runs (job (Text program (target_of order)) samples order.stall order.stripes true)
request_for order (Exec configuration samples) = Runs (job (File configuration) samples order.stall order.stripes false)
request_for order (Eval program samples) = Evaluates program samples
request_for order (Gen turns) = Generates (record { turns = turns; target = target_of order; stripes = order.stripes })
request_for order (Checkpoint program samples) = Folds (job (Text program (target_of order)) samples order.stall order.stripes false)
request_for order (Move checkpoint samples) = Moves (resumption order checkpoint samples)
request_for order (Extend checkpoint samples) = Extends (resumption order checkpoint samples)
request_for order (Share list) = Shares list order.stripes

abbrev pub request_of : Order → Request
request_of order = request_for order order.task

-- as the code has it
abbrev pub request_in : NamedRequest → Request
request_in (named.Texts form source) = Texts form (source_of source)
request_in (named.Runs j) = Runs (job_of j)
request_in (named.Folds j) = Folds (job_of j)
request_in (named.Moves r) = Moves (resumption_of r)
request_in (named.Extends r) = Extends (resumption_of r)
request_in (named.Evaluates program samples) = Evaluates program.now samples.now
request_in (named.Generates g) = Generates (generation_of g)
request_in (named.Shares s) = Shares s.list.now s.stripes
