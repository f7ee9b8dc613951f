use Rattle.std.proofs.Common.{sym, ◌∙◌}
use Rattle.pr_tool_share.proofs.WordFacts.{word_found, no_word, one_word, empty_test}
use Rattle.pr_tool_share.proofs.words.next_word.Goals as goal

pub returns-then-is_empty : goal.returns-then-is_empty
returns-then-is_empty c =
    let line = c.args.line.now in
    let word = c.split_at-2.result.0.now in
    let found = word_found line c.split_at.result.1.now c.blanks.result c.letters.result c.blanks.ensures.count c.split_at.ensures.back c.letters.ensures.count in
    no_word line word c.split_at-2.result.1.now (c.split_at-2.ensures.front ∙ found.0) (c.split_at-2.ensures.back ∙ found.1) (empty_test word ∙ (sym c.is_empty.ensures ∙ c.if-is_empty.true))

pub returns-else-is_empty : goal.returns-else-is_empty
returns-else-is_empty c =
    let line = c.args.line.now in
    let word = c.split_at-2.result.0.now in
    let found = word_found line c.split_at.result.1.now c.blanks.result c.letters.result c.blanks.ensures.count c.split_at.ensures.back c.letters.ensures.count in
    one_word line word c.split_at-2.result.1.now (c.split_at-2.ensures.front ∙ found.0) (c.split_at-2.ensures.back ∙ found.1) (empty_test word ∙ (sym c.is_empty.ensures ∙ c.if-is_empty.false))
