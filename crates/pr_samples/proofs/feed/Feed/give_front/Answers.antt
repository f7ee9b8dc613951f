use Rattle.std.proofs.Common.{◌≡◌, ◌-◌, ap, sym, ◌∙◌, Some, arith}
use Rattle.pr_base.specs.declared.caps.Cap.{Cap}
use Rattle.pr_samples.specs.Fed.{Limit, Lawful, line_and}
use Rattle.pr_samples.proofs.ReadingLemmas.{IsMeeting-over, IsMeeting-sample}
use Rattle.pr_samples.proofs.feed.Feed.give_front.Goals as goal

pub returns-then-is_full-clause-told : goal.returns-then-is_full-clause-told
returns-then-is_full-clause-told c = λ file h.
    let f = c.args.self.now in
    let full : f.most - f.given ≡ 0 = omega (arith, c.is_full.ensures.full c.if-is_full.true) in
    let over = IsMeeting-over _ _ _ _ _ _ _ _ _ _ _ (Limit Cap.Samples) h (λ k. ap (λ n. line_and (Lawful f.front.items) f.passed n k) full) in
    record { all = over.0; ends = over.1 }

pub returns-clause-told : goal.returns-clause-told
returns-clause-told c = λ file h.
    let f = c.args.self.now in
    let room = c.is_full.ensures.room c.if-is_full.false in
    let met = IsMeeting-sample _ _ _ _ _ _ _ _ _ f.front.items _ h room in
    record { sample = met.0 ∙ ap Some (sym (c.widen_row.ensures ∙ c.deref.ensures.value)); stands = met.1 }

pub overflow_add-self : goal.overflow_add-self
overflow_add-self c = omega (arith, c.is_full.ensures.room c.if-is_full.false, c.is_full.ensures.small)
