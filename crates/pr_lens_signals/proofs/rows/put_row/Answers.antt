use Rattle.std.proofs.Common.{ℕ, List, OnErr, OnOk, subst, ◌∙◌}
use Rattle.pr_edge.specs.Tape.{Appends, AppendsFront}
use Rattle.pr_lens_signals.proofs.rows.put_row.Goals as goal

pub returns-in-Ok-clause-all : goal.returns-in-Ok-clause-all
returns-in-Ok-clause-all g c = λ rows has.
    subst (λ (t : List ℕ). OnOk c.put_text.result (Appends (g.K.Sink.view c.args.out.now).told (g.K.Sink.view c.put_text.new.out).told t)) (c.deref.ensures.value ∙ c.in-Ok.ensures.line rows has) c.put_text.ensures.all

pub returns-in-Ok-clause-front : goal.returns-in-Ok-clause-front
returns-in-Ok-clause-front g c = λ rows has.
    subst (λ (t : List ℕ). OnErr c.put_text.result (AppendsFront (g.K.Sink.view c.args.out.now).told (g.K.Sink.view c.put_text.new.out).told t)) (c.deref.ensures.value ∙ c.in-Ok.ensures.line rows has) c.put_text.ensures.front
