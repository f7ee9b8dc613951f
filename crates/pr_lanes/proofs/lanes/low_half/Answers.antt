use Rattle.std.proofs.Common.{ap, length, get_or, ◌∙◌, arith}
use Rattle.std.specs.List.{range_with_len}
use Rattle.std.proofs.lemmas.Simd.{pick_l_left, pick_l-range_with_len, length-chunk, get_or-chunk}
use Rattle.pr_lanes.proofs.lanes.low_half.Goals as goal

pub returns : goal.returns
returns c =
    let v = c.args.both in
    let e = pick_l_left 0 v v 32 (range_with_len 0 16) c.requires tt ∙ pick_l-range_with_len 0 v 0 16 (omega (arith, c.requires)) in
    record {
      long = ap length e ∙ length-chunk 0 16 v (omega (arith, c.requires));
      each = λ k l. ap (λ xs. get_or xs k 0) e ∙ get_or-chunk 0 16 v k 0 l ∙ ap (λ i. get_or v i 0) (omega arith);
    }
