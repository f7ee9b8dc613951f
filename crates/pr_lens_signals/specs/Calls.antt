-- What a call reads and writes.
use Rattle.std.specs.Prelude.{ℕ}
use Rattle.pr_edge.specs.Files.{Told, View}
use Rattle.pr_edge.specs.Tape.{Tape, Written}

-- the files that are told, the counts of faults of the shelf before and after, what the sink tells before and after, and the
-- counts of faults of the sink
pub record Call : Type 0 where
  pub told : Told
  pub reads_before : ℕ
  pub reads_now : ℕ
  pub old : Tape
  pub new : Tape
  pub writes_before : ℕ
  pub writes_now : ℕ

abbrev pub call : Told → ℕ → ℕ → Tape → Tape → ℕ → ℕ → Call
call told reads_before reads_now old new writes_before writes_now = record {
  told = told;
  reads_before = reads_before;
  reads_now = reads_now;
  old = old;
  new = new;
  writes_before = writes_before;
  writes_now = writes_now;
}

-- the same by what the shelf and the sink show before and after
abbrev pub seen : View → View → Written → Written → Call
seen before now old new = call before.told before.faults now.faults old.told new.told old.faults new.faults
