use Rattle.std.proofs.Common.{inl}
use Rattle.std.proofs.lemmas.Result.{IfOk-weaker}
use Rattle.pr_lens_source.specs.Tokens.{front_text}
use Rattle.pr_lens_find.proofs.MadeLemmas.{made_in}
use Rattle.pr_lens_find.proofs.equations.made_before.Goals as goal

pub returns-in-Some : goal.returns-in-Some
returns-in-Some c =
    let source = c.args.source.now in
    IfOk-weaker c.equations_of.result _ _ (λ m is. made_in (front_text source.text.now source.tokens.now source.spans.now c.args.item) c.in-Some.program m (rw c.in-Some.is at c.in_ok-front_of.ensures.read) is) c.equations_of.ensures

pub returns-in-None : goal.returns-in-None
returns-in-None c = inl (rw c.in-None.is at c.in_ok-front_of.ensures.none)
