use Rattle.std.proofs.Common.{◌∙◌, sym, ap}
use Rattle.pr_lens_source.proofs.IntroducedLemmas.{parameter_here, parameter_before, parameter_none}
use Rattle.pr_lens_source.proofs.introduced.is_parameter.Goals as goal
use Rattle.pr_lens_source.specs.Kinds.{is_of_parameters}

pub returns-then-not-is_of_parameters : goal.returns-then-not-is_of_parameters
returns-then-not-is_of_parameters c =
    c.opens_parameters.ensures
    ∙ parameter_here c.args.source.now.tokens.now c.args.at c.loop-before.before c.loop-before.invariant c.loop-before-test.true
    (ap is_of_parameters (sym c.kind.ensures) ∙ (sym c.is_of_parameters.ensures ∙ c.if-not-is_of_parameters.true))

pub loop-before-preserved : goal.loop-before-preserved
loop-before-preserved c =
    parameter_before c.args.source.now.tokens.now c.args.at c.loop-before.before c.loop-before.invariant c.loop-before-test.true
    (ap is_of_parameters (sym c.kind.ensures) ∙ (sym c.is_of_parameters.ensures ∙ c.if-not-is_of_parameters.false))

pub returns : goal.returns
returns c = parameter_none c.args.source.now.tokens.now c.args.at c.loop-before.before c.loop-before.invariant c.loop-before-test.false
