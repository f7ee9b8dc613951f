use Rattle.std.proofs.Common.{◌≡◌, ◌+◌, ◌≤◌, length, drop, nat_lt, sum_by}
use Rattle.arrayvec.specs.ArrayString.{array_string_len}
use Rattle.pr_base.specs.Numbers.{slices_of}
use Rattle.pr_base.specs.Rows.{row_numbers, row_line}
use Rattle.pr_samples.specs.Results.{rest_line, IsPut}
use Rattle.pr_samples.proofs.results.put_line.Given as goal

abbrev pub invariant-loop-i : goal.invariant-loop-i
invariant-loop-i g l = record {
  put : IsPut (g.K.Sink.view l.fn.sink).told (g.K.Sink.view l.sink).told l.text.bytes (rest_line (nat_lt 0 l.i) (row_numbers (drop l.i l.widths) (drop l.at l.bytes))) (row_line (row_numbers l.widths l.bytes));
  left : l.at + sum_by slices_of (drop l.i l.widths) ≡ length l.bytes;
  room : array_string_len l.text + 1 ≤ g.row.ROOM;
  later : (g.K.Sink.view l.fn.sink).faults ≤ (g.K.Sink.view l.sink).faults;
}
