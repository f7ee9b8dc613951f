use Rattle.std.proofs.Common.{Result, subst}
use Rattle.pr_edge.specs.declared.writing.WriteFault.{WriteFault}
use Rattle.pr_samples.specs.declared.feed.Got.{Got}
use Rattle.pr_run.specs.declared.ending.RunEnd.{RunEnd}
use Rattle.pr_run.specs.declared.ending.Finished.{Finished}
use Rattle.pr_run.specs.Runs.{IsEnded, IsFinished}
use Rattle.pr_run.proofs.Ends.{ran_cut, ran_from}
use Rattle.pr_run.proofs.ending.finish.Goals as goal

pub returns-in-Err-clause-ran : goal.returns-in-Err-clause-ran
returns-in-Err-clause-ran g c = λ s f now set is end.
    ran_cut s c.args.machine.now f now (g.K.Sink.view c.args.out.now).told set (subst (λ (r : Result Finished WriteFault). IsEnded s c.args.machine.now f now (g.K.Sink.view c.args.out.now).told r) c.in-Err.is end)

pub returns-in-End-clause-ran : goal.returns-in-End-clause-ran
returns-in-End-clause-ran g c = λ s f now set is end.
    let fin = subst (λ (r : Result Finished WriteFault). IsEnded s c.args.machine.now f now (g.K.Sink.view c.args.out.now).told r) c.in-Ok.is end in
    c.close.ensures.ran s f now set is
    (subst (λ (got : Got). IsFinished s c.args.machine.now f now (g.K.Sink.view c.args.out.now).told (record { last = got; asked = c.in-Ok.field-0.asked })) c.in-End.is fin)

pub returns-in-BadSample-clause-ran : goal.returns-in-BadSample-clause-ran
returns-in-BadSample-clause-ran g c = λ s f now set is end.
    let fin = subst (λ (r : Result Finished WriteFault). IsEnded s c.args.machine.now f now (g.K.Sink.view c.args.out.now).told r) c.in-Ok.is end in
    ran_from s c.args.machine.now f now (g.K.Sink.view c.args.out.now).told c.in-Ok.field-0 (RunEnd.BadSample c.in-BadSample.line) set fin (λ whole. (c.in-BadSample.is, whole))

pub returns-in-ReadFault-clause-ran : goal.returns-in-ReadFault-clause-ran
returns-in-ReadFault-clause-ran g c = λ s f now set is end.
    let fin = subst (λ (r : Result Finished WriteFault). IsEnded s c.args.machine.now f now (g.K.Sink.view c.args.out.now).told r) c.in-Ok.is end in
    ran_from s c.args.machine.now f now (g.K.Sink.view c.args.out.now).told c.in-Ok.field-0 RunEnd.ReadFault set fin (λ whole. (c.in-ReadFault.is, whole))

pub returns-in-Limit-clause-ran : goal.returns-in-Limit-clause-ran
returns-in-Limit-clause-ran g c = λ s f now set is end.
    let fin = subst (λ (r : Result Finished WriteFault). IsEnded s c.args.machine.now f now (g.K.Sink.view c.args.out.now).told r) c.in-Ok.is end in
    ran_from s c.args.machine.now f now (g.K.Sink.view c.args.out.now).told c.in-Ok.field-0 (RunEnd.Limit c.in-Limit.cap) set fin (λ whole. (c.in-Limit.is, whole))
