use Rattle.std.proofs.Common.{◌%◌, get_or, refl, ◌∙◌, arith}
use Rattle.std.proofs.Common.{◌++◌}
use Rattle.std.proofs.lemmas.List.FromFn.{get_or-map-range_with_len}
use Rattle.std.proofs.lemmas.List.{get_or_append_left}
use Rattle.pr_lanes.proofs.lanes.twice.Goals as goal

pub returns : goal.returns
returns c =
    let row = c.args.row in
    record {
      long = refl;
      each = λ k l.
          get_or-map-range_with_len (λ j. get_or (row ++ row) (j % 16) 0) 0 32 k k 0 l (omega arith)
          ∙ get_or_append_left row row 0 (k % 16) (omega (arith, c.requires));
    }
