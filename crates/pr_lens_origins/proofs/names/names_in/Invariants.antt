use Rattle.std.proofs.Common.{◌≡◌, ◌++◌, ◌-◌, filter, length}
use Rattle.std.specs.List.{range_with_len}
use Rattle.pr_lens_origins.specs.Spots.{is_stream_name, name_tokens}
use Rattle.pr_lens_origins.proofs.names.names_in.Given as goal

abbrev pub invariant-loop-at : goal.invariant-loop-at
invariant-loop-at l = l.names.items ++ filter (is_stream_name l.source.tokens.now) (range_with_len l.at (length l.source.tokens.now - l.at)) ≡ name_tokens l.source.tokens.now
