use Rattle.std.proofs.Common.{◌≡◌, ℕ, ◌-◌, ◌^◌, List, length, get_or, map, replicate, cond, eqb, ◌∙◌, w8}
use Rattle.std.specs.List.{range_with_len}
use lib.Lanes.{zip2, top}
use Rattle.std.proofs.lemmas.Simd.{tops_compared, zip2_of_maps}
use Rattle.pr_lanes.proofs.Blocks.{sel_by}
use Rattle.pr_lanes.proofs.LaneLaws.{of_row, row_of, all_of}
use Rattle.pr_lanes.proofs.lanes.none_in.Goals as goal

-- whether a lane is 0
are_none : (xs : List ℕ) → length xs ≡ 16 → map (top 7) (zip2 (λ a b. cond (eqb a b) (2 ^ 8 - 1) 0) xs (replicate 16 0)) ≡ map (λ i. eqb (get_or xs i 0) 0) (range_with_len 0 16)
are_none xs h = tops_compared w8 eqb xs (replicate 16 0) ∙ zip2_of_maps eqb (λ i. get_or xs i 0) (λ _. 0) (range_with_len 0 16) (row_of xs h) (all_of 0)

pub returns : goal.returns
returns c =
    let xs = c.args.row in
    of_row 16 _ (λ k. cond (eqb (get_or xs k 0) 0) 255 0) (sel_by (λ i. eqb (get_or xs i 0) 0) (λ _. 255) (λ _. 0) (are_none xs c.requires) (all_of 255) (all_of 0))
