use Rattle.std.proofs.Common.{◌≡◌, ℕ, ◌-◌, ◌^◌, List, length, get_or, map, replicate, cond, eqb, ◌∙◌, w8, bit_and}
use Rattle.std.specs.List.{range_with_len}
use lib.Lanes.{zip2, top}
use Rattle.std.proofs.lemmas.Simd.{tops_compared, zip2_of_maps}
use Rattle.pr_lanes.proofs.Blocks.{sel_by}
use Rattle.pr_lanes.specs.Rows.{ones_where}
use Rattle.pr_lanes.proofs.LaneLaws.{of_row, row_of, all_of}
use Rattle.pr_lanes.proofs.lanes.ones_in.Goals as goal

-- whether a lane has none of these bits
no_bits : (xs ys : List ℕ) → length xs ≡ 16 → length ys ≡ 16 → map (top 7) (zip2 (λ a b. cond (eqb a b) (2 ^ 8 - 1) 0) (zip2 bit_and xs ys) (replicate 16 0)) ≡ map (λ i. eqb (bit_and (get_or xs i 0) (get_or ys i 0)) 0) (range_with_len 0 16)
no_bits xs ys h l = tops_compared w8 eqb (zip2 bit_and xs ys) (replicate 16 0)
    ∙ zip2_of_maps eqb (λ i. bit_and (get_or xs i 0) (get_or ys i 0)) (λ _. 0) (range_with_len 0 16) (zip2_of_maps bit_and (λ i. get_or xs i 0) (λ i. get_or ys i 0) (range_with_len 0 16) (row_of xs h) (row_of ys l)) (all_of 0)

pub returns : goal.returns
returns c =
    let xs = c.args.row in
    let ys = c.args.bits in
    of_row 16 _ (λ k. ones_where (get_or xs k 0) (get_or ys k 0)) (sel_by (λ i. eqb (bit_and (get_or xs i 0) (get_or ys i 0)) 0) (λ _. 0) (λ _. 255) (no_bits xs ys c.requires.row c.requires.bits) (all_of 0) (all_of 255))
