use Rattle.std.proofs.Common.{◌≡◌, length, rules}
use Rattle.std.specs.Vec.Iter.{into_iter_items, into_iter_len}
use Rattle.pr_system.proofs.WordLemmas.{collected}
use Rattle.pr_system.proofs.words.listed.Goals as goal

pub returns-in_ok-collect-in-Ok-clause-words : goal.returns-in_ok-collect-in-Ok-clause-words
returns-in_ok-collect-in-Ok-clause-words c =
    let words = c.in-Ok.words in
    let long : into_iter_len words ≡ length (into_iter_items words) = search rules in
    rw c.in-Ok.is (collected words c.in_ok-collect-in-Ok.field-0 c.in_ok-collect-in-Ok.ensures.ran long)
