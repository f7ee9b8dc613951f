use Rattle.std.proofs.Common.{◌≡◌, ◌≢◌, ◌≤◌, ℕ, List, true, []}
use Rattle.pr_samples.specs.declared.feed.Got.{Got}
use Rattle.pr_samples.specs.Feed.{name_of, widths_of, SameFile}
use Rattle.pr_samples.specs.Got.{is_sample}
use Rattle.pr_edge.specs.Files.{HasReadCause}
use Rattle.pr_machine.specs.Stands.{conf_of, stripes_of, time_of}
use Rattle.pr_run_script.specs.Script.{begun, turns}
use Rattle.pr_share.specs.Turns.{Setting, Begins, IsTurning, stages_of}
use Rattle.pr_share.proofs.turns.Walk.run_turn.Given as goal

abbrev pub invariant-loop : goal.invariant-loop
invariant-loop g l = record {
  on : (s : Setting) → Begins s l.initial.machine l.initial.feed (g.S.Shelf.view l.initial.shelf).told (g.K.Sink.view l.initial.out).told l.number
      → IsTurning s (λ xs. turns (stages_of s) s.stripes [] l.counter (begun xs)) l.machine l.feed (g.S.Shelf.view l.shelf).told (g.K.Sink.view l.out).told l.used;
  count : l.used.count ≤ l.quota;
  spent : l.used.ended ≡ true → is_sample l.used.last ≡ true → l.used.count ≡ l.quota;
  fault : l.used.last ≡ Got.ReadFault → l.used.ended ≡ true;
  steady : l.used.last ≢ Got.ReadFault → (g.S.Shelf.view l.shelf).faults ≡ (g.S.Shelf.view l.initial.shelf).faults;
  cause : l.used.last ≡ Got.ReadFault → HasReadCause (g.S.Shelf.view l.initial.shelf).told (name_of l.initial.feed) (g.S.Shelf.view l.initial.shelf).faults (g.S.Shelf.view l.shelf).faults;
  inputs : widths_of l.feed ≡ (conf_of l.machine).inputs;
  file : SameFile l.initial.feed l.feed;
  conf : l.machine.parts.conf ≡ l.initial.machine.parts.conf;
  stripes : stripes_of l.machine ≡ stripes_of l.initial.machine;
  time : time_of l.machine ≤ l.counter;
  told : (g.S.Shelf.view l.shelf).told ≡ (g.S.Shelf.view l.initial.shelf).told;
  others : (q : List ℕ) → q ≢ name_of l.initial.feed → (g.S.Shelf.view l.shelf).reach q ≡ (g.S.Shelf.view l.initial.shelf).reach q;
  shelf_later : (g.S.Shelf.view l.initial.shelf).faults ≤ (g.S.Shelf.view l.shelf).faults;
  out_later : (g.K.Sink.view l.initial.out).faults ≤ (g.K.Sink.view l.out).faults;
}
