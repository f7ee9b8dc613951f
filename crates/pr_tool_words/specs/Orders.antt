-- What the values of the code stand for.
use Rattle.std.specs.Prelude.{Option, codes, option_map, option_and_then}
use Rattle.clap.specs.Words.{first_value}
use Rattle.clap.specs.declared.parser.matches.Found.{Found}
use Rattle.pr_tool_words.specs.Lawful.{Text, Task, Order, Said, is_true, Run, Trace, Compile, Exec, Eval, Show, Gen, Migrate, Share, Checkpoint, Move, Extend}
use Rattle.pr_tool_words.specs.declared.modes.Mode.{Mode}
use Rattle.pr_tool_words.specs.declared.calling.Words.{Words}
use Rattle.pr_tool_words.specs.declared.parsing.Values.{Values}

abbrev pub mode_task : Mode → Task
mode_task (Mode.Run program samples) = Run program.now samples.now
mode_task (Mode.Trace program samples) = Trace program.now samples.now
mode_task (Mode.Compile program) = Compile program.now
mode_task (Mode.Exec configuration samples) = Exec configuration.now samples.now
mode_task (Mode.Eval program samples) = Eval program.now samples.now
mode_task (Mode.Show configuration) = Show configuration.now
mode_task (Mode.Gen size) = Gen size.turns
mode_task (Mode.Migrate configuration) = Migrate configuration.now
mode_task (Mode.Share list) = Share list.now
mode_task (Mode.Checkpoint program samples) = Checkpoint program.now samples.now
mode_task (Mode.Move checkpoint samples) = Move checkpoint.now samples.now
mode_task (Mode.Extend checkpoint samples) = Extend checkpoint.now samples.now

abbrev pub order_of : Words → Order
order_of words = record {
  task = mode_task words.mode;
  stripes = words.options.stripes;
  stall = option_map (λ s. s.now) words.options.stall;
  fabric = words.options.fabric;
  narrow = words.options.narrow;
}

abbrev pub said_in : Values → Said
said_in values = record {
  mode = values.mode.now;
  first = option_map (λ s. s.now) values.first;
  second = option_map (λ s. s.now) values.second;
  stripes = values.stripes.now;
  stall = option_map (λ s. s.now) values.stall;
  fabric = values.fabric.now;
  narrow = values.narrow;
}

-- by the values that the parser found; some of them it always finds
abbrev pub found_from : (mode first second stripes stall fabric narrow : Option Text) → Option Said
found_from mode first second stripes stall fabric narrow =
    option_and_then (λ m. option_and_then (λ p. option_map (λ f. record {
      mode = m;
      first = first;
      second = second;
      stripes = p;
      stall = stall;
      fabric = f;
      narrow = is_true narrow;
    }) fabric) stripes) mode

abbrev pub found_in : Found → Option Said
found_in f = found_from
    (first_value f (codes "mode")) (first_value f (codes "first")) (first_value f (codes "second")) (first_value f (codes "stripes"))
    (first_value f (codes "stall")) (first_value f (codes "fabric")) (first_value f (codes "narrow"))
