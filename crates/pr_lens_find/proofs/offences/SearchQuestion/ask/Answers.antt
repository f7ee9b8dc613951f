use Rattle.pr_lens_find.proofs.offences.SearchQuestion.ask.Goals as goal

pub returns-clause-when_yes : goal.returns-clause-when_yes
returns-clause-when_yes c = rw c.cut_by.ensures at c.breaks.ensures.yes

pub returns-clause-when_no : goal.returns-clause-when_no
returns-clause-when_no c = rw c.cut_by.ensures at c.breaks.ensures.no
