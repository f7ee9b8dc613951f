use Rattle.std.proofs.Common.{◌≡◌, ◌∙◌}
use Rattle.pr_lens_tool.specs.Outcomes.{bad_log_line, unshown_line}
use Rattle.pr_lens_tool.proofs.outcomes.Reply.put_own.Goals as goal

pub returns-in-Usage-clause-gains : goal.returns-in-Usage-clause-gains
returns-in-Usage-clause-gains g c = rw c.in-Usage.is (rw c.as_bytes.ensures.value at c.put_bytes.ensures.gains)

pub returns-in-BadLog-clause-gains : goal.returns-in-BadLog-clause-gains
returns-in-BadLog-clause-gains g c =
    let line : c.as_bytes-in-BadLog.result.now ≡ bad_log_line c.in-BadLog.line = c.as_bytes-in-BadLog.ensures.value ∙ (c.deref.ensures.0 ∙ c.bad_log-text.ensures) in
    rw c.in-BadLog.is (rw line at c.put_bytes-in-BadLog.ensures.gains)

pub returns-in-LongLog-clause-gains : goal.returns-in-LongLog-clause-gains
returns-in-LongLog-clause-gains g c = rw c.in-LongLog.is (rw c.as_bytes-in-LongLog.ensures.value at c.put_bytes-in-LongLog.ensures.gains)

pub returns-in-NoCycle-clause-gains : goal.returns-in-NoCycle-clause-gains
returns-in-NoCycle-clause-gains g c = rw c.in-NoCycle.is (rw c.as_bytes-in-NoCycle.ensures.value at c.put_bytes-in-NoCycle.ensures.gains)

pub returns-in-LongModule-clause-gains : goal.returns-in-LongModule-clause-gains
returns-in-LongModule-clause-gains g c = rw c.in-LongModule.is (rw c.as_bytes-in-LongModule.ensures.value at c.put_bytes-in-LongModule.ensures.gains)

pub returns-in-NoStream-clause-gains : goal.returns-in-NoStream-clause-gains
returns-in-NoStream-clause-gains g c = rw c.in-NoStream.is (rw c.as_bytes-in-NoStream.ensures.value at c.put_bytes-in-NoStream.ensures.gains)

pub returns-in-LongBench-clause-gains : goal.returns-in-LongBench-clause-gains
returns-in-LongBench-clause-gains g c = rw c.in-LongBench.is (rw c.as_bytes-in-LongBench.ensures.value at c.put_bytes-in-LongBench.ensures.gains)

pub returns-in-Unshown-clause-gains : goal.returns-in-Unshown-clause-gains
returns-in-Unshown-clause-gains g c =
    let line : c.as_bytes-in-Unshown.result.now ≡ unshown_line c.in-Unshown.first c.in-Unshown.last = c.as_bytes-in-Unshown.ensures.value ∙ (c.deref-in-Unshown.ensures.0 ∙ c.unshown-text.ensures) in
    rw c.in-Unshown.is (rw line at c.put_bytes-in-Unshown.ensures.gains)
