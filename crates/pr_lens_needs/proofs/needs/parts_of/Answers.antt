use Rattle.std.proofs.lemmas.Option.{IfSome_then}
use Rattle.pr_lens_fits.proofs.UnfitLemmas.{passes}
use Rattle.pr_lens_needs.specs.Needs.{AreParts, IsLastOfNone, NoNet, NoRecurrence}
use Rattle.pr_lens_needs.proofs.NeedLemmas.{none_then, of_text}
use Rattle.pr_lens_needs.proofs.needs.parts_of.Goals as goal

pub returns-in-Ok-clause-some : goal.returns-in-Ok-clause-some
returns-in-Ok-clause-some c =
    IfSome_then c.in-Ok.found c.in-Ok.ensures.some
    (λ parts is. of_text (λ plan net. AreParts plan net c.args.unit parts) c.args.narrowed c.args.text.now c.in-Some.ready c.in-Some.news (rw c.in-Some.is at c.in_ok-ready.ensures.told) is)

pub returns-in-Ok-clause-none : goal.returns-in-Ok-clause-none
returns-in-Ok-clause-none c =
    none_then c.in-Ok.found c.in-Ok.ensures.none
    (λ is. NoRecurrence (of_text (λ plan net. IsLastOfNone plan c.args.unit) c.args.narrowed c.args.text.now c.in-Some.ready c.in-Some.news (rw c.in-Some.is at c.in_ok-ready.ensures.told) is))

pub returns-in-Err-Limit-clause-none : goal.returns-in-Err-Limit-clause-none
returns-in-Err-Limit-clause-none c =
    let which = c.in-Err-Limit._which in
    NoNet which (passes c.args.columns c.args.narrowed c.args.text.now c.in-Some.ready c.in-Some.news which (rw c.in-Some.is at c.in_ok-ready.ensures.told) (c.in-Err-Limit.ensures.limit which (cc)))
