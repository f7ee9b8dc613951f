use Rattle.std.proofs.Common.{◌≡◌, ◌∙◌, length, arith, refl, sym, ap}
use Rattle.pr_lens_log.specs.declared.windows.Side.{Side}
use Rattle.pr_lens_log.specs.Excerpts.{has_room}
use Rattle.pr_lens_log.specs.Windows.{part_with}
use Rattle.pr_lens_log.proofs.ExcerptLaws.{before_it, kept_before, kept_behind, kept_within, past_more}
use Rattle.pr_lens_log.proofs.excerpts.Excerpt.add.Goals as goal

pub returns-in-Before : goal.returns-in-Before
returns-in-Before c = λ stripes cycles written same h.
    let old = c.args.self.now in
    let here = sym c.side_of-side.ensures ∙ c.in-Before.is in
    let part = c.part_with-self.ensures ∙ ap (λ (s : Side). part_with s c.args.count old.part) c.in-Before.is in
    kept_before c.args.choice stripes cycles written c.args.logged c.args.results c.args.count old _ same h here part
    (past_more stripes cycles c.args.logged old.past c.step.new.self (before_it c.args.choice stripes cycles written c.args.logged c.args.results c.args.count old old same h here)
    c.step.ensures.board c.step.ensures.entered c.step.ensures.left) refl refl

pub returns-in_ok-keep-in-Within : goal.returns-in_ok-keep-in-Within
returns-in_ok-keep-in-Within c = λ stripes cycles written same h.
    let old = c.args.self.now in
    let here = sym c.side_of-side.ensures ∙ c.in-Within.is in
    let part = c.part_with-self.ensures ∙ ap (λ (s : Side). part_with s c.args.count old.part) c.in-Within.is in
    let size : c.len.result ≡ length old.cycles.items = omega (arith, c.len.ensures, old.cycles.ok.0) in
    kept_within c.args.choice stripes cycles written c.args.logged c.args.results c.args.count old c.keep.new.self same h c.has_room-room.result here (c.keep.ensures.part ∙ part) c.keep.ensures.past
    (c.has_room-room.ensures ∙ ap (has_room c.args.choice.most) size) c.in_ok-keep-in-Within.ensures.cycles c.in_ok-keep-in-Within.ensures.written

pub returns-in-Behind : goal.returns-in-Behind
returns-in-Behind c = λ stripes cycles written same h.
    let old = c.args.self.now in
    let here = sym c.side_of-side.ensures ∙ c.in-Behind.is in
    let part = c.part_with-self.ensures ∙ ap (λ (s : Side). part_with s c.args.count old.part) c.in-Behind.is in
    kept_behind c.args.choice stripes cycles written c.args.logged c.args.results c.args.count old _ same h here part refl refl refl
