use Rattle.std.proofs.Common.{◌≡◌, ◌<◌, true, not, ◌&&◌, nat_lt, arith, sym, ◌∙◌, subst}
use Rattle.std.proofs.lemmas.Bool.{and_parts, not-true}
use Rattle.std.proofs.lemmas.Bool.Decides.{nat_tests}
use Rattle.pr_samples.specs.declared.feed.Got.{Got}
use Rattle.pr_samples.specs.Got.{is_sample}
use Rattle.pr_run.specs.Turns.{IsOn}
use Rattle.pr_run.proofs.NextSamples.{is_sample_end}
use Rattle.pr_run.proofs.feeding.feed_step.Goals as goal

pub read_sample-requires : goal.read_sample-requires
read_sample-requires g c =
    let all : (not c.args.held && is_sample c.args.last && nat_lt c.waiting_in.result 16) ≡ true = sym c.if-not-may_read.ensures in
    let test = (and_parts (not c.args.held && is_sample c.args.last) (nat_lt c.waiting_in.result 16) all).1 in
    let less : c.waiting_in.result < 16 = grind (arith, nat_tests) in
    (omega arith, (omega arith, (c.requires, (omega (arith, c.deref_mut.ensures.len, c.args.room.now.numbers_size), (omega (arith, c.deref_mut-2.ensures.len, c.args.room.now.sample_size), omega (arith, less, c.waiting_in.ensures.is))))))

pub returns-clause-on : goal.returns-clause-on
returns-clause-on g c = λ s runs turn t set side on.
    let now = (g.S.Shelf.view c.args.shelf.now) in
    let all : (not c.args.held && is_sample c.args.last && nat_lt c.waiting_in.result 16) ≡ true = sym c.if-not-may_read.ensures in
    let parts = and_parts (not c.args.held) (is_sample c.args.last) (and_parts (not c.args.held && is_sample c.args.last) (nat_lt c.waiting_in.result 16) all).0 in
    c.read_sample.ensures.on s runs turn t set (side ∙ not-true c.args.held parts.0)
    (subst (λ (got : Got). IsOn s runs c.args.machine.now c.args.feed.now now t got) (is_sample_end c.args.last parts.1) on)
