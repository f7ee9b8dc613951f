use Rattle.std.proofs.Common.{◌-◌, ◌≡◌, false, codes, decimal, refl, leb}
use Rattle.std.proofs.lemmas.Bool.{lt-leb}
use Rattle.std.proofs.lemmas.Result.{on_ok_weaker}
use Rattle.pr_lens_rules.specs.Rules.{entries_text}
use Rattle.pr_lens_text.proofs.PutLemmas.{five_put}
use Rattle.pr_lens_rules.proofs.rules.tell_entries.Goals as goal

pub returns : goal.returns
unfolding entries_text
returns c =
    let old = c.args.message.now.items in
    let more : leb c.args.entries 1 ≡ false = lt-leb c.args.entries 1 c.if-entries-le1.false in
    on_ok_weaker c.put-2.result (λ h. rw more (five_put old (codes "It has ") (decimal c.args.entries) (codes " entries, 0 to ") (decimal (c.args.entries - 1)) (codes ".\n") refl c.in_ok-put_counted.ensures refl c.in_ok-put_counted-2.ensures h)) c.put-2.ensures
