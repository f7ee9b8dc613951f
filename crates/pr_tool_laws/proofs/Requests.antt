-- Words have exactly one verdict on all files whose texts are bytes.
use Rattle.std.proofs.Common.{ℕ, true, false, Some, None, List, inl, inr, refl}
use Rattle.pr_base.specs.declared.caps.Cap.{Cap}
use Rattle.pr_code.specs.Marks.{count_read, shape_marked}
use Rattle.pr_tool_answers.specs.declared.answers.Answer.{Answer}
use Rattle.pr_tool_modes.specs.Checkpoints.{IsBadMark, file_in}
use Rattle.pr_tool_modes.specs.Configurations.{columns_of, registers_of}
use Rattle.pr_tool_modes.specs.Evaluations.{IsEvalVerdict}
use Rattle.pr_tool_modes.specs.Executions.{IsRunVerdict}
use Rattle.pr_tool_modes.specs.Generations.{generated, program_file, samples_file}
use Rattle.pr_tool_modes.specs.Jobs.{Job, job, Resumption, resumed}
use Rattle.pr_tool_modes.specs.Programs.{inputs_of}
use Rattle.pr_tool_modes.specs.Resumptions.{IsMoveVerdict}
use Rattle.pr_tool_modes.specs.Samples.{samples_verdict, whole_file_verdict}
use Rattle.pr_tool_modes.specs.Sources.{ConfSource, File, Text, most_in}
use Rattle.pr_tool_modes.specs.Stalls.{after_stall}
use Rattle.pr_tool_modes.specs.Texts.{IsTextVerdict}
use Rattle.pr_tool_words.specs.Lawful.{Order, Task, Run, Trace, Compile, Exec, Eval, Show, Gen, Migrate, Share, Checkpoint, Move, Extend}
use Rattle.pr_tool.specs.Requests.{request_for, target_of, resumption}
use Rattle.pr_tool.specs.Words.{Asked}
use Rattle.pr_tool.specs.Calls.{IsRequestVerdict, IsVerdict}
use Rattle.pr_tool.proofs.CallLemmas.{one_answer}
use Rattle.pr_compile_verdicts.specs.Verdicts.{ExactlyOne}
use Rattle.pr_tool_laws.specs.Bytes.{HaveBytes}
use Rattle.pr_tool_laws.proofs.Sources.{Files, GoodSource, IsMarkOf, file_verdict, file_source, text_good, resumable_or, program_verdict}
use Rattle.pr_tool_laws.proofs.Lists.{share_verdict}

-- ---- one kind of request
text_verdict : (files : Files) (source : ConfSource) → GoodSource files source → (a : Answer) × IsTextVerdict files source a
text_verdict files source (inl good) = (Answer.Ok, inr (refl, good))
text_verdict files source (inr refused) = (refused.0, inl refused.1)

run_verdict : (files : Files) (j : Job) → GoodSource files j.source → (a : Answer) × IsRunVerdict files j a
run_verdict files j (inl good) = (after_stall files j.stall (samples_verdict (most_in j.source) good.conf.inputs (files j.second)), inr (record { N = good.N; P = good.P; conf = good.conf; gives = good.gives; last = refl }))
run_verdict files j (inr refused) = (refused.0, inl refused.1)

-- the count is that of the checkpoint
move_verdict : (files : Files) → HaveBytes files → (r : Resumption) → (a : Answer) × IsMoveVerdict files r a
move_verdict files bytes r = elim (file_verdict 16777216 Cap.ConfigBytes IsMarkOf IsBadMark files r.name (λ text is short. resumable_or text (bytes r.name text is))) [
  | inr refused ↦ (refused.0, (0, inl refused.1))
  | inl good ↦
      (let count = count_read good.text in
      let verdict = run_verdict files (resumed r count) (inl (record {
        N = columns_of (file_in good.text);
        P = registers_of (file_in good.text);
        conf = shape_marked (columns_of (file_in good.text)) good.text;
        gives = record { bytes = good.text; file = good.file; short = good.short; resumable = good.good };
      })) in
      (verdict.0, (count, verdict.1)))
]

eval_verdict : (files : Files) (first second : List ℕ) → (a : Answer) × IsEvalVerdict files first second a
eval_verdict files first second = elim (program_verdict files first) [
  | inr refused ↦ (refused.0, inl refused.1)
  | inl p ↦ (whole_file_verdict (inputs_of p.program) (files second), inr (record { program = p.program; widths = p.widths; has = p.has; last = refl }))
]

-- ---- every task
module _ (files : Files) (bytes : HaveBytes files) (order : Order) where
  task_verdict : (task : Task) → (a : Answer) × IsRequestVerdict files (request_for order task) a
  task_verdict (Show configuration) = text_verdict files (File configuration) (file_source files bytes configuration)
  task_verdict (Migrate configuration) = text_verdict files (File configuration) (file_source files bytes configuration)
  task_verdict (Compile program) = text_verdict files (Text program (target_of order)) (text_good files program (target_of order))
  task_verdict (Run program samples) = run_verdict files (job (Text program (target_of order)) samples order.stall order.stripes false) (text_good files program (target_of order))
  task_verdict (Trace program samples) = run_verdict files (job (Text program (target_of order)) samples order.stall order.stripes true) (text_good files program (target_of order))
  task_verdict (Exec configuration samples) = run_verdict files (job (File configuration) samples order.stall order.stripes false) (file_source files bytes configuration)
  task_verdict (Eval program samples) = eval_verdict files program samples
  task_verdict (Gen turns) = run_verdict (generated turns) (job (Text program_file (target_of order)) samples_file None order.stripes false) (text_good (generated turns) program_file (target_of order))
  task_verdict (Checkpoint program samples) = run_verdict files (job (Text program (target_of order)) samples order.stall order.stripes false) (text_good files program (target_of order))
  task_verdict (Move checkpoint samples) = move_verdict files bytes (resumption order checkpoint samples)
  task_verdict (Extend checkpoint samples) = move_verdict files bytes (resumption order checkpoint samples)
  task_verdict (Share list) = share_verdict files list

some_verdict : (files : Files) (asked : Asked) → HaveBytes files → (a : Answer) × IsVerdict files asked a
some_verdict files None bytes = (Answer.Usage, refl)
some_verdict files (Some order) bytes = task_verdict files bytes order order.task

pub one_verdict : (files : Files) (asked : Asked) → HaveBytes files → ExactlyOne (IsVerdict files asked)
one_verdict files asked bytes = (some_verdict files asked bytes, one_answer files asked)
