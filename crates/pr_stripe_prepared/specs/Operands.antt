-- What a prepared stage makes of its operands, lane by lane.
use Rattle.std.specs.Prelude.{ℕ, ◌+◌, ◌%◌, ◌==◌, List, slice_index, bit_and, bit_or, if◌then◌else◌}
use Rattle.pr_lanes.specs.Rows.{chosen, ones_where}
use Rattle.pr_stripe_prepared.specs.declared.stages.Prepared.{Prepared}
use Rattle.pr_stripe_prepared.specs.declared.stages.Table.{Table}
use Rattle.pr_stripe_prepared.specs.Gather.{gathered_byte}
use Rattle.pr_lanes.specs.Sums.{carry_from}

-- all ones where the bit that C is of a byte is 1
abbrev pub bit_mark : Prepared → List ℕ → List ℕ → List ℕ → ℕ → ℕ
bit_mark q row st made k = if q.has_rest then ones_where (gathered_byte q.rest row st made (16 + k)) (slice_index q.c_bits k) else 0

-- all ones where C is 1, by what it is as a bit of a byte; the carries are those of the round before
abbrev pub with_carry : Prepared → ℕ → List ℕ → ℕ → ℕ
with_carry q bit carries k = if q.has_carry then bit_or bit (ones_where (slice_index carries k) (slice_index q.c_carry k)) else bit

abbrev pub mark_of : Prepared → List ℕ → List ℕ → List ℕ → List ℕ → ℕ → ℕ
mark_of q row st made carries k = with_carry q (bit_mark q row st made k) carries k

abbrev pub found_by : Table → List ℕ → List ℕ → ℕ → ℕ
found_by t a b k = chosen (chosen (slice_index t.t1 k) (slice_index t.t2 k) (slice_index a k)) (chosen (slice_index t.t4 k) (slice_index t.t8 k) (slice_index a k)) (slice_index b k)

abbrev pub found : Prepared → List ℕ → List ℕ → List ℕ → ℕ → ℕ
found q a b c k = if q.has_c then chosen (found_by q.off a b k) (found_by q.on a b k) (slice_index c k) else found_by q.off a b k

-- the carry-in of column k, but for that of the column below
abbrev pub given : Prepared → List ℕ → ℕ → ℕ
given q c k = (slice_index q.cin k + bit_and (slice_index c k) (slice_index q.from_c k)) % 256

-- the two numbers of column k whose sum goes on
abbrev pub first_of : Prepared → List ℕ → List ℕ → ℕ → ℕ
first_of q a x k = bit_or (bit_and (slice_index a k) (slice_index q.low k)) (bit_and (if slice_index x k == 0 then 255 else 0) (slice_index q.zeros k))

abbrev pub second_of : Prepared → List ℕ → ℕ → ℕ
second_of q x k = bit_and (slice_index x k) (slice_index q.low k)

-- what goes on into column k
abbrev pub carried : Prepared → List ℕ → List ℕ → List ℕ → ℕ → ℕ
carried q a x c k = carry_from 0 (λ j. first_of q a x j + second_of q x j + given q c j) k

-- the carry-in of column k
abbrev pub carry_k : Prepared → List ℕ → List ℕ → List ℕ → ℕ → ℕ
carry_k q a x c k = (given q c k + carried q a x c k) % 256

abbrev pub summed : Prepared → List ℕ → List ℕ → List ℕ → ℕ → ℕ
summed q a x c k = if q.has_sums
    then chosen (slice_index x k) (((slice_index a k + slice_index x k) % 256 + carry_k q a x c k) % 256) (slice_index q.sums k)
    else slice_index x k

-- the output of column k
abbrev pub result_k : Prepared → List ℕ → List ℕ → List ℕ → ℕ → ℕ
result_k q a x c k = bit_and (summed q a x c k) (slice_index q.mask k)
