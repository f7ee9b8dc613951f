use Rattle.std.proofs.Common.{◌≡◌, ◌+◌, drop}
use Rattle.pr_lens_wave.specs.Scenes.{after_cycles, scene_of}
use Rattle.pr_lens_wave.proofs.changes.put_part.Given as goal

abbrev pub invariant-loop-index : goal.invariant-loop-index
invariant-loop-index l = record {
  rest : after_cycles l.fn.teller.stripes (l.first + l.index) (drop l.index l.cycles) (drop l.index l.written) (scene_of l.text.items l.teller)
      ≡ after_cycles l.fn.teller.stripes l.first l.cycles l.written (scene_of l.fn.text.items l.fn.teller);
  same : l.teller.stripes ≡ l.fn.teller.stripes;
}
