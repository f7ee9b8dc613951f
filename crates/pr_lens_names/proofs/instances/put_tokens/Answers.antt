use Rattle.std.proofs.Common.{◌++◌}
use Rattle.pr_lens_names.specs.Instances.{tokens_text}
use Rattle.pr_lens_names.proofs.InstanceLemmas.{tokens_more, tokens_all}
use Rattle.pr_lens_names.proofs.instances.put_tokens.Goals as goal

pub loop-at-preserved : goal.loop-at-preserved
loop-at-preserved c =
    let source = c.args.source.now in
    tokens_more source.text.now source.tokens.now c.loop-at.at c.args.to c.loop-at.message.items c.extend_from_slice.new.self.items (c.args.message.now.items ++ tokens_text source.text.now source.tokens.now c.args.from c.args.to)
    c.loop-at-test.true (rw c.bytes.ensures at c.in_ok-extend_from_slice.ensures.items) c.loop-at.invariant

pub returns : goal.returns
returns c =
    let source = c.args.source.now in
    tokens_all source.text.now source.tokens.now c.loop-at.at c.args.to c.loop-at.message.items (c.args.message.now.items ++ tokens_text source.text.now source.tokens.now c.args.from c.args.to) c.loop-at-test.false c.loop-at.invariant
