use Rattle.std.proofs.Common.{inl}
use Rattle.std.proofs.lemmas.Result.{IfOk-weaker}
use Rattle.pr_lens_find.specs.Fronts.{spot_of}
use Rattle.pr_lens_find.specs.Made.{values_cut}
use Rattle.pr_lens_find.proofs.MadeLemmas.{made_cut}
use Rattle.pr_lens_find.proofs.equations.made_with.Goals as goal

pub returns-in-Some : goal.returns-in-Some
returns-in-Some c =
    IfOk-weaker c.equations_of.result _ _ (λ m is. made_cut (spot_of c.args.part.now) (values_cut c.args.values) c.in-Some.program m (rw c.short.ensures at (rw c.in-Some.is at c.in_ok-cut_front.ensures.some)) is) c.equations_of.ensures

pub returns-in-None : goal.returns-in-None
returns-in-None c = inl (rw c.in-None.is at c.in_ok-cut_front.ensures.none)
