use Rattle.std.proofs.Common.{◌≡◌, ◌++◌, true, map, drop}
use Rattle.std.specs.List.{flat_map, list_all}
use Rattle.pr_conf.specs.Configuration.{pes_of}
use Rattle.pr_code.specs.Spelling.{bytes_of_words, stage_words, has_pe_bytes, has_small_choice}
use Rattle.pr_code.proofs.encoding.put_stages.Given as goal

abbrev pub invariant-loop-stage : goal.invariant-loop-stage
invariant-loop-stage g l = record {
  words : l.out.items ++ bytes_of_words (flat_map (stage_words true g.row.N) (map pes_of (drop l.stage-index l.stages))) ≡ l.fn.out.items ++ bytes_of_words (flat_map (stage_words true g.row.N) (map pes_of l.stages));
  choices : list_all (list_all has_small_choice) (map pes_of (drop l.stage-index l.stages)) ≡ true;
  bytes : list_all (list_all has_pe_bytes) (map pes_of l.stages) ≡ list_all (list_all has_pe_bytes) (map pes_of (drop l.stage-index l.stages));
}
