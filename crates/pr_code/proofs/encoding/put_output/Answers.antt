use Rattle.std.proofs.Common.{◌∷◌, [], map, arith, refl, sym}
use Rattle.std.proofs.lemmas.Result.{IfOk-from_err}
use Rattle.pr_code.specs.Spelling.{tap_word, has_tap_byte}
use Rattle.pr_code.proofs.WritingLemmas.{goes_on, part_more, parts_done, all_less}
use Rattle.pr_code.proofs.encoding.put_output.Goals as goal

pub loop-tap-init : goal.loop-tap-init
loop-tap-init c = record {
  words = rw (c.in_ok-put_word.ensures, c.from.ensures) (goes_on c.args.out.now.items _ (c.args.output.now.width ∷ []) (map tap_word c.deref-tap-items.result.now) refl);
  bytes = refl;
}

pub loop-tap-preserved : goal.loop-tap-preserved
loop-tap-preserved c = record {
  words = rw (c.in_ok-put_word-2.ensures, c.tap_word.ensures.word) (part_more (map tap_word) _ c.loop-tap.out.items _ c.deref-tap-items.result.now c.loop-tap.tap-index _ _ c.loop-tap-test.true refl refl c.loop-tap.invariant.words);
  bytes = all_less has_tap_byte c.deref-tap-items.result.now c.loop-tap.tap-index _ _ c.loop-tap-test.true c.tap_word.ensures.byte c.loop-tap.invariant.bytes;
}

pub returns-clause-words : goal.returns-clause-words
returns-clause-words c =
    rw (sym c.deref-tap-items.ensures.value) (parts_done (map tap_word) c.loop-tap.out.items _ c.deref-tap-items.result.now c.loop-tap.tap-index (omega arith) refl c.loop-tap.invariant.words)

pub returns-in_err-put_word : goal.returns-in_err-put_word
returns-in_err-put_word c = let h = c.from_residual.ensures.0 in record { words = IfOk-from_err _ _ h; bytes = IfOk-from_err _ _ h }

pub returns-in_err-put_word-2 : goal.returns-in_err-put_word-2
returns-in_err-put_word-2 c = let h = c.from_residual-in_err-put_word-2.ensures.0 in record { words = IfOk-from_err _ _ h; bytes = IfOk-from_err _ _ h }
