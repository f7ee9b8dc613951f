use Rattle.std.proofs.Common.{◌≡◌, ◌<◌, ◌+◌, ◌*◌, ◌^◌, ◌++◌, map, drop}
use Rattle.std.specs.List.{flat_map, list_all}
use Rattle.pr_code.specs.Spelling.{bytes_of_words, set_words, number_of_flags, is_set, has_pe_bytes}
use Rattle.pr_code.proofs.encoding.put_set.Given as goal

abbrev pub invariant-loop-i : goal.invariant-loop-i
invariant-loop-i l = record {
  words : l.out.items ++ bytes_of_words (flat_map set_words (drop l.i l.pes)) ≡ l.fn.out.items ++ bytes_of_words (flat_map set_words l.pes);
  marks : l.marks + 2 ^ l.i * number_of_flags (map is_set (drop l.i l.pes)) ≡ number_of_flags (map is_set l.pes);
  fits : l.marks < 2 ^ l.i;
  bytes : list_all has_pe_bytes l.pes ≡ list_all has_pe_bytes (drop l.i l.pes);
}
