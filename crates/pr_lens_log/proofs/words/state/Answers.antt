use Rattle.std.proofs.Common.{◌≡◌, ◌<◌, ◌≢◌, ◌*◌, length, ap, ◌∙◌, arith, length-set, get_or-set_other, get_or-set_same, below_more}
use Rattle.pr_lens_log.proofs.WordLaws.{length-hex, state_is}
use Rattle.pr_lens_log.proofs.words.state.Goals as goal

pub loop-column-preserved : goal.loop-column-preserved
loop-column-preserved c = record {
  size = length-set c.loop-column.bytes c.loop-column.column c.byte_at.result ∙ c.loop-column.invariant.size;
  same = below_more _ _
      (λ k less. let other : k ≢ c.loop-column.column = omega arith in rw get_or-set_other (c.loop-column.invariant.same k less))
      (λ state bytes is low.
      let within : c.loop-column.column < length c.loop-column.bytes = omega (arith, c.loop-column.invariant.size, c.loop-column-test.true) in
      get_or-set_same c.loop-column.bytes c.loop-column.column c.byte_at.result 0 within ∙ c.byte_at.ensures state bytes is low);
}

pub returns-clause-reads : goal.returns-clause-reads
returns-clause-reads c = λ state few bytes is.
    let size : length c.args.word.now ≡ 2 * length state = ap length is ∙ length-hex state in
    state_is c.loop-column.bytes state _ c.loop-column.invariant.size (omega (arith, size, few)) few (λ k low. c.loop-column.invariant.same k (omega arith) state bytes is low)
