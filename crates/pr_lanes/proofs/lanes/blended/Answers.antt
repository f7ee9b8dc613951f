use Rattle.std.proofs.Common.{◌≡◌, ℕ, ◌-◌, ◌^◌, List, length, get_or, map, replicate, cond, ltb, ◌∙◌, w8}
use Rattle.std.specs.List.{range_with_len}
use lib.Lanes.{zip2, top}
use Rattle.std.proofs.lemmas.Simd.{tops_compared, zip2_of_maps}
use Rattle.pr_lanes.proofs.Blocks.{sel_by}
use Rattle.pr_lanes.proofs.LaneLaws.{of_row, row_of, all_of}
use Rattle.pr_lanes.proofs.lanes.blended.Goals as goal

-- whether a lane is above 127
are_high : (xs : List ℕ) → length xs ≡ 16 → map (top 7) (zip2 (λ a b. cond (ltb a b) (2 ^ 8 - 1) 0) (replicate 16 127) xs) ≡ map (λ i. ltb 127 (get_or xs i 0)) (range_with_len 0 16)
are_high xs h = tops_compared w8 ltb (replicate 16 127) xs ∙ zip2_of_maps ltb (λ _. 127) (λ i. get_or xs i 0) (range_with_len 0 16) (all_of 127) (row_of xs h)

pub returns : goal.returns
returns c =
    let off = c.args.off in
    let on = c.args.on in
    let by = c.args.by in
    of_row 16 _ (λ k. cond (ltb 127 (get_or by k 0)) (get_or on k 0) (get_or off k 0))
    (sel_by (λ i. ltb 127 (get_or by i 0)) (λ i. get_or on i 0) (λ i. get_or off i 0) (are_high by c.requires.by) (row_of on c.requires.on) (row_of off c.requires.off))
