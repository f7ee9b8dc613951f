use Rattle.std.proofs.Common.{List, ap, sym, ◌∙◌, drop, arith}
use Rattle.pr_samples.specs.declared.stall.Held.{Held}
use Rattle.pr_samples.specs.Stall.{next_turn}
use Rattle.pr_samples.proofs.StallLemmas.{turns_of-skip, turns_of-turn, turns_of-end}
use Rattle.pr_samples.proofs.stall.Stall.next.Goals as goal

pub loop-self-preserved : goal.loop-self-preserved
loop-self-preserved c =
    turns_of-skip c.loop-self.self.at c.index-byte.result.now c.loop-self.self.text.items (omega arith) c.index-byte.ensures (sym c.turn.ensures ∙ c.in_default.is) ∙ c.loop-self.invariant

pub returns-in-Some-clause-turn : goal.returns-in-Some-clause-turn
returns-in-Some-clause-turn c =
    let turn = turns_of-turn c.loop-self.self.at c.index-byte.result.now c.loop-self.self.text.items c.in-Some.turn (omega arith) c.index-byte.ensures (sym c.turn.ensures ∙ c.in-Some.is) in
    sym (ap next_turn (sym c.loop-self.invariant ∙ turn))

pub returns-in-Some-clause-left : goal.returns-in-Some-clause-left
returns-in-Some-clause-left c =
    let turn = turns_of-turn c.loop-self.self.at c.index-byte.result.now c.loop-self.self.text.items c.in-Some.turn (omega arith) c.index-byte.ensures (sym c.turn.ensures ∙ c.in-Some.is) in
    sym (ap (λ (ts : List Held). drop 1 ts) (sym c.loop-self.invariant ∙ turn))

pub returns-clause-turn : goal.returns-clause-turn
returns-clause-turn c =
    sym (ap next_turn (sym c.loop-self.invariant ∙ turns_of-end c.loop-self.self.at c.loop-self.self.text.items (omega arith)))

pub returns-clause-left : goal.returns-clause-left
returns-clause-left c =
    let none = turns_of-end c.loop-self.self.at c.loop-self.self.text.items (omega arith) in
    none ∙ sym (ap (λ (ts : List Held). drop 1 ts) (sym c.loop-self.invariant ∙ none))
