use Rattle.std.proofs.Common.{lit<, not, rules, tests}
use Rattle.std.proofs.lemmas.Iterator.Search.{position_from_yields_List}
use Rattle.std.proofs.lemmas.Iterator.Splits.{YieldsList-from_str_split}
use Rattle.pr_lens_tracks.specs.Names.{has_name}
use Rattle.pr_lens_tracks.proofs.names.unknown_in.Goals as goal

pub returns : goal.returns
returns c =
    position_from_yields_List (λ n. not (has_name c.args.tracks.now n)) _ _ c.position.result c.position.ensures.ran
    (YieldsList-from_str_split 44 c.args.list.now (lit< tt) c.split.ensures.text c.split.ensures.has_more c.split.ensures.pattern) (λ x b q k. search (rules, tests))
