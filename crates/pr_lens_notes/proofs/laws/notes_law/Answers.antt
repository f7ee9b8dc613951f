use Rattle.pr_lens_notes.proofs.NoteLaws.{bare, named}
use Rattle.pr_lens_notes.proofs.laws.notes_law.Goals as goal

pub returns : goal.returns
returns c = record {
  named = λ N P net p origins notes is two greedy are u i cell. named N P net p origins notes greedy (c.placement_law.ensures.sound N P net p is two greedy) are u i cell;
  bare = λ N P net p origins notes is two greedy are stage col below low empty.
      bare N P net p origins notes greedy (c.placement_law.ensures.sound N P net p is two greedy) are stage col below low empty;
}
