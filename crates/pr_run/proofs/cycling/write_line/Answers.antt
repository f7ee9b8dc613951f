use Rattle.pr_run.proofs.cycling.write_line.Goals as goal

pub returns-clause-all : goal.returns-clause-all
returns-clause-all g c = rw (c.as_bytes.ensures.value, c.deref.ensures.0, c.line-text.ensures) at c.write_all.ensures.all

pub returns-clause-front : goal.returns-clause-front
returns-clause-front g c = rw (c.as_bytes.ensures.value, c.deref.ensures.0, c.line-text.ensures) at c.write_all.ensures.front
