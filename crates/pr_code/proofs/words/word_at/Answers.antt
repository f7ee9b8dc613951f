use Rattle.std.proofs.Common.{refl}
use Rattle.pr_code.proofs.WordLemmas.{no_word, word_here}
use Rattle.pr_code.proofs.words.word_at.Goals as goal

pub returns-then-bytes-at : goal.returns-then-bytes-at
returns-then-bytes-at c = (no_word c.args.bytes.now c.args.place c.if-bytes-at.true, refl)

pub returns : goal.returns
returns c = word_here c.args.bytes.now c.args.place c.from_be_bytes.result c.if-bytes-at.false c.from_be_bytes.ensures
