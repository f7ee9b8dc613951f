use Rattle.std.proofs.Common.{◌≡◌, ◌<◌, ◌-◌, refl, ap, sym, ◌∙◌, Some, arith}
use Rattle.pr_base.specs.declared.caps.Cap.{Cap}
use Rattle.pr_samples.specs.Fed.{BadSample, Limit, Lawful, line_and}
use Rattle.pr_samples.proofs.ReadingLemmas.{IsMeeting-over, IsMeeting-sample}
use Rattle.pr_samples.proofs.feed.Feed.settle.Goals as goal

pub returns-in-Unlawful-clause-told : goal.returns-in-Unlawful-clause-told
returns-in-Unlawful-clause-told c = λ file h.
    let over = IsMeeting-over _ _ _ _ _ _ _ _ _ _ _ (BadSample c.args.line) (rw c.in-Unlawful.is at h) (λ f. refl) in
    record { all = over.0; ends = over.1 }

pub returns-in-CutShort-clause-told : goal.returns-in-CutShort-clause-told
returns-in-CutShort-clause-told c = λ file h.
    let over = IsMeeting-over _ _ _ _ _ _ _ _ _ _ _ (Limit Cap.SampleBytes) (rw c.in-CutShort.is at h) (λ f. refl) in
    record { all = over.0; ends = over.1 }

pub returns-then-is_full-clause-told : goal.returns-then-is_full-clause-told
returns-then-is_full-clause-told c = λ file h.
    let f = c.args.self.now in
    let full : f.most - f.given ≡ 0 = omega (arith, c.is_full.ensures.full c.if-is_full.true) in
    let over = IsMeeting-over _ _ _ _ _ _ _ _ _ _ _ (Limit Cap.Samples) (rw c.in-Lawful.is at h) (λ k. ap (λ n. line_and (Lawful f.numbers.items) c.args.line n k) full) in
    record { all = over.0; ends = over.1 }

pub returns-else-is_full-clause-told : goal.returns-else-is_full-clause-told
returns-else-is_full-clause-told c = λ file h.
    let f = c.args.self.now in
    let room : f.given < f.most = c.is_full.ensures.room c.if-is_full.false in
    let met = IsMeeting-sample _ _ _ _ _ _ _ _ _ f.numbers.items _ (rw c.in-Lawful.is at h) room in
    record { sample = met.0 ∙ ap Some (sym (c.copy_row.ensures ∙ c.deref.ensures.value)); stands = met.1 }

pub overflow_add-self : goal.overflow_add-self
overflow_add-self c = omega (arith, c.is_full.ensures.room c.if-is_full.false, c.is_full.ensures.small)
