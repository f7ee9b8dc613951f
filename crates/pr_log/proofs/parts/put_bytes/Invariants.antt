use Rattle.std.proofs.Common.{◌≡◌, ◌+◌, ◌*◌, ◌++◌, take, length}
use Rattle.std.specs.List.{flat_map}
use Rattle.pr_log.specs.Lines.{hex_byte}
use Rattle.pr_log.proofs.parts.put_bytes.Given as goal

abbrev pub invariant-loop-byte : goal.invariant-loop-byte
invariant-loop-byte l = record {
  bytes : l.text.bytes ≡ l.initial.text.bytes ++ flat_map hex_byte (take l.byte-index l.bytes);
  len : length l.text.bytes ≡ length l.initial.text.bytes + 2 * l.byte-index;
}
