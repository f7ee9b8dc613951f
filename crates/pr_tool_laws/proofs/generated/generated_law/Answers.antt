use Rattle.std.proofs.lemmas.List.FromFn.{length-map-range_with_len}
use Rattle.pr_edge.specs.Tape.{Appends}
use Rattle.pr_tool_laws.specs.Generated.{sample_row}
use Rattle.pr_tool_laws.proofs.GeneratedSamples.{all_read, all_ended, run_rows}
use Rattle.pr_tool_laws.proofs.generated.generated_law.Goals as goal

pub returns : goal.returns
returns c = record {
  read = all_read;
  ended = λ widths count few. all_ended count few widths;
  many = length-map-range_with_len sample_row 0;
  run = λ N P g old new machine h. run_rows N P g (Appends old new) machine h;
}
