use Rattle.std.proofs.Common.{codes}
use Rattle.std.proofs.lemmas.Result.{on_ok_weaker}
use Rattle.pr_lens_text.proofs.PutLemmas.{three_put}
use Rattle.pr_lens_needs.specs.Texts.{counted_text, narrowed_text}
use Rattle.pr_lens_needs.proofs.telling.tell_narrowed.Goals as goal

pub returns : goal.returns
unfolding narrowed_text
returns c = on_ok_weaker c.put-2.result (λ h. three_put c.args.message.now.items (codes "With `--narrow` it takes ") (counted_text c.args.columns) (codes ".\n") c.in_ok-put.ensures c.in_ok-put_columns.ensures h) c.put-2.ensures
