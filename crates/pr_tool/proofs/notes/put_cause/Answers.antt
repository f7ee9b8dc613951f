use Rattle.pr_tool.proofs.notes.put_cause.Goals as goal

pub returns-in-Syntax-clause-bytes : goal.returns-in-Syntax-clause-bytes
returns-in-Syntax-clause-bytes c = rw (c.in-Syntax.is, ← c.from.ensures) c.put.ensures.bytes

pub returns-in-NoWidth-clause-bytes : goal.returns-in-NoWidth-clause-bytes
returns-in-NoWidth-clause-bytes c = rw (c.in-NoWidth.is, ← c.from-in-NoWidth.ensures) c.put-in-NoWidth.ensures.bytes

pub returns-in-BadSample-clause-bytes : goal.returns-in-BadSample-clause-bytes
returns-in-BadSample-clause-bytes c = rw c.in-BadSample.is c.put-in-BadSample.ensures.bytes
