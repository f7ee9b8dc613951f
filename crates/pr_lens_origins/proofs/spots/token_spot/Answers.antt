use Rattle.std.proofs.Common.{ap, arith}
use Rattle.pr_lens_source.specs.Tokens.{start_of}
use Rattle.pr_lens_origins.specs.declared.spots.Cursor.{Cursor}
use Rattle.pr_lens_origins.proofs.PlaceLaws.{columns_few}
use Rattle.pr_lens_origins.proofs.spots.token_spot.Goals as goal

pub overflow_add-result : goal.overflow_add-result
overflow_add-result c =
    let source = c.args.source.now in
    let few = columns_few source.text.now (start_of source.text.now source.tokens.now c.args.token) in
    let is = ap (λ (x : Cursor). x.column) c.requires.is in
    omega (arith, few, is, c.requires.short, c.end.ensures.within)
