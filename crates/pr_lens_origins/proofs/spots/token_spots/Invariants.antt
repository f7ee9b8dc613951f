use Rattle.std.proofs.Common.{◌≡◌, map, take}
use Rattle.pr_lens_origins.specs.Spots.{cursor_at, token_spot}
use Rattle.pr_lens_origins.proofs.spots.token_spots.Given as goal

abbrev pub invariant-loop-token : goal.invariant-loop-token
invariant-loop-token l = record {
  spots : l.spots.items ≡ map (token_spot l.source.text.now l.source.tokens.now) (take l.token-index l.tokens);
  cursor : l.cursor ≡ cursor_at l.source.text.now l.cursor.offset;
}
