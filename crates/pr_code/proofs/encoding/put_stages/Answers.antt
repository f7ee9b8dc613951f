use Rattle.std.proofs.Common.{map, arith, refl, true}
use Rattle.std.specs.List.{flat_map, list_all}
use Rattle.pr_conf.specs.Configuration.{pes_of}
use Rattle.pr_code.specs.Spelling.{stage_words, has_pe_bytes, has_small_choice}
use Rattle.pr_code.proofs.WritingLemmas.{part_more, parts_done, all_next, all_first, ends}
use Rattle.pr_code.proofs.encoding.put_stages.Goals as goal

pub loop-stage-init : goal.loop-stage-init
loop-stage-init g c = record { words = refl; choices = c.requires.choices; bytes = refl }

pub put_stage-requires : goal.put_stage-requires
put_stage-requires g c = (omega arith, (c.requires.few, (all_first (list_all has_small_choice) (map pes_of) c.args.stages.now c.loop-stage.stage-index c.stage-item.result _ c.loop-stage-test.true c.stage-item.is refl c.loop-stage.invariant.choices).0))

pub loop-stage-preserved : goal.loop-stage-preserved
loop-stage-preserved g c = record {
  words = rw c.in_ok-put_stage.ensures.words (part_more (λ ss. flat_map (stage_words true g.row.N) (map pes_of ss)) _ c.loop-stage.out.items _ c.args.stages.now c.loop-stage.stage-index c.stage-item.result c.stage-item.result c.loop-stage-test.true c.stage-item.is refl c.loop-stage.invariant.words);
  choices = (all_first (list_all has_small_choice) (map pes_of) c.args.stages.now c.loop-stage.stage-index c.stage-item.result _ c.loop-stage-test.true c.stage-item.is refl c.loop-stage.invariant.choices).1;
  bytes = all_next (λ ss. list_all (list_all has_pe_bytes) (map pes_of ss)) c.args.stages.now c.loop-stage.stage-index c.stage-item.result _ _ c.loop-stage-test.true c.stage-item.is refl c.in_ok-put_stage.ensures.bytes c.loop-stage.invariant.bytes;
}

pub returns-clause-words : goal.returns-clause-words
returns-clause-words g c = parts_done (λ ss. flat_map (stage_words true g.row.N) (map pes_of ss)) c.loop-stage.out.items _ c.args.stages.now c.loop-stage.stage-index (omega arith) refl c.loop-stage.invariant.words

pub returns-clause-bytes : goal.returns-clause-bytes
returns-clause-bytes g c = ends (λ ss. list_all (list_all has_pe_bytes) (map pes_of ss)) c.args.stages.now c.loop-stage.stage-index _ _ (omega arith) refl c.loop-stage.invariant.bytes
