use Rattle.std.proofs.Common.{◌≡◌, ◌++◌, drop, filter}
use Rattle.pr_lens_source.specs.Tokens.{text_before}
use Rattle.pr_lens_find.specs.Expected.{can_stand}
use Rattle.pr_lens_find.proofs.expected.possible_among.Given as goal

abbrev pub invariant-loop-one : goal.invariant-loop-one
invariant-loop-one g l =
    l.all.items ++ filter (can_stand (text_before l.source.text.now l.source.tokens.now l.at) l.at g.T.Spelled.spelling) (drop l.one-index l.told)
    ≡ filter (can_stand (text_before l.source.text.now l.source.tokens.now l.at) l.at g.T.Spelled.spelling) l.told
