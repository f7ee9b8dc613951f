use Rattle.std.proofs.Common.{codes}
use Rattle.std.proofs.lemmas.Result.{on_ok_weaker}
use Rattle.pr_lens_text.proofs.PutLemmas.{five_put}
use Rattle.pr_lens_show.specs.Names.{word_of}
use Rattle.pr_lens_tool.specs.Replies.{fabric_words, narrow_words, why_line}
use Rattle.pr_lens_tool.proofs.replies.put_why.Goals as goal

pub returns : goal.returns
unfolding why_line
returns c =
    let target = c.args.target.now in
    on_ok_weaker c.put-4.result (λ h. five_put c.args.line.now.items (codes "`pipelens why ") (word_of target.file.now) (fabric_words target.fabric) (narrow_words target.narrowed) (codes "` tells more\n")
    c.in_ok-put.ensures c.in_ok-put_word.ensures (rw c.fabric_words.ensures at c.in_ok-put-2.ensures) (rw c.narrow_words.ensures at c.in_ok-put-3.ensures) h) c.put-4.ensures
