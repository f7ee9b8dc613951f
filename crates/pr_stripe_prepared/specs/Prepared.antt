-- When a prepared stage stands for the processing elements of a stage of 16 columns.
use Rattle.std.specs.Prelude.{◌≡◌, ℕ, ◌+◌, ◌*◌, ◌^◌, ◌<◌, true, false, List, length, slice_index, slice_index_or, vec_len}
use Rattle.pr_base.specs.Pe.{carry_in, next_state}
use Rattle.pr_conf.specs.declared.pes.Pe.{Pe}
use Rattle.pr_stripe_prepared.specs.declared.stages.Prepared.{Prepared}
use Rattle.pr_stripe_prepared.specs.Elements.{sum_mark, takes_carry, goes_on, low_mask, zero_mask, c_source, c_bit, c_carry, is_read_bit, from_c, AreMarks}
use Rattle.pr_stripe_prepared.specs.Tables.{HasTable}
use Rattle.pr_stripe_prepared.specs.Gather.{gathered_byte, seen_byte}
use Rattle.pr_stripe_prepared.specs.Rounds.{IsOrdered}

-- column k of the operands
pub record ReadsColumn (q : Prepared) (k : ℕ) (pe : Pe) : Type 0 where
  pub a : (row st made : List ℕ) → gathered_byte q.both row st made k ≡ seen_byte row st made pe.a
  pub hi : (row st made : List ℕ) → gathered_byte q.both row st made (16 + k) ≡ seen_byte row st made pe.hi
  pub lo : (row st made : List ℕ) → gathered_byte q.rest row st made k ≡ seen_byte row st made pe.lo
  pub c : (row st made : List ℕ) → gathered_byte q.rest row st made (16 + k) ≡ seen_byte row st made (c_source pe.c)
  pub shift : slice_index q.shifts k ≡ 2 ^ pe.shift
  pub few : pe.shift < 8
  pub unshifted : q.has_rest ≡ false → pe.shift ≡ 0
  pub read : is_read_bit pe.c ≡ true
  pub bit : slice_index q.c_bits k ≡ c_bit pe.c
  pub unread : q.has_rest ≡ false → c_bit pe.c ≡ 0
  pub carry : slice_index q.c_carry k ≡ c_carry pe.c
  pub uncarried : q.has_carry ≡ false → c_carry pe.c ≡ 0

-- column k of the results
pub record MakesColumn (q : Prepared) (pes : List Pe) (k : ℕ) (pe : Pe) : Type 0 where
  pub off : HasTable q.off k 0 pe.table
  pub on : HasTable q.on k 1 pe.table
  pub without : q.has_c ≡ false → (c_bit pe.c ≡ 0) × (c_carry pe.c ≡ 0)
  pub sums : slice_index q.sums k ≡ sum_mark pe.mode
  pub none : q.has_sums ≡ false → takes_carry pe.mode pe.c ≡ false
  pub low : (d : Pe) → slice_index q.low k ≡ low_mask pe.mode (goes_on pes k d)
  pub tests : (d : Pe) → slice_index q.zeros k ≡ zero_mask pe.mode (goes_on pes k d)
  pub cin : slice_index q.cin k ≡ carry_in pe.cin 0 0
  pub takes_c : slice_index q.from_c k ≡ from_c pe.cin
  pub mask : slice_index q.mask k ≡ pe.mask
  pub to_output : slice_index q.to_output k ≡ next_state pe.next 0 255 0
  pub to_a : slice_index q.to_a k ≡ next_state pe.next 0 0 255
  pub keeps : q.has_state ≡ false → (next_state pe.next 0 255 0 ≡ 0) × (next_state pe.next 0 0 255 ≡ 0)

pub record IsPrepared (q : Prepared) (pes : List Pe) (registers : ℕ) : Type 0 where
  pub long : length pes ≡ 16
  pub reads : (k : ℕ) (d : Pe) → k < 16 → ReadsColumn q k (slice_index_or pes k d)
  pub makes : (k : ℕ) (d : Pe) → k < 16 → MakesColumn q pes k (slice_index_or pes k d)
  pub ordered : (k : ℕ) (d : Pe) → k < 16 → IsOrdered q.levels q.rounds k (slice_index_or pes k d)
  pub marks : AreMarks registers pes q.marks.items
  pub reach : q.reach ≡ registers * 16
  pub marks_row : vec_len q.marks ≡ registers * 16
  pub output_row : length q.to_output ≡ 16
  pub a_row : length q.to_a ≡ 16
