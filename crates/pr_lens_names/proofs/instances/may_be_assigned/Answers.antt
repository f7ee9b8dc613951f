use Rattle.std.proofs.Common.{◌∙◌, sym}
use Rattle.pr_lens_names.proofs.InstanceLemmas.{assign_no, assigned_here, assigned_later, assigned_none, target_no}
use Rattle.pr_lens_names.proofs.instances.may_be_assigned.Goals as goal
use Rattle.pr_lens_names.proofs.instances.may_be_assigned.Goals.{else-not-is_target-via-then-not-is_target+else-may_assign, else-not-is_target-via-else-not-is_target}

pub returns-then-may_assign : goal.returns-then-may_assign
returns-then-may_assign c =
    let source = c.args.source.now in
    assigned_here source.text.now source.tokens.now c.args.name c.args.target c.args.place c.loop-earlier.earlier c.loop-earlier-test.true
    (sym c.is_target.ensures ∙ c.if-not-is_target.true) (sym c.may_assign.ensures ∙ c.if-may_assign.true) c.loop-earlier.invariant

pub loop-earlier-preserved : goal.loop-earlier-preserved
loop-earlier-preserved c =
    let source = c.args.source.now in
    let at = c.loop-earlier.earlier in
    assigned_later source.text.now source.tokens.now c.args.name c.args.target c.args.place at c.loop-earlier-test.true
    (elim c.else-not-is_target.branch [
      | else-not-is_target-via-then-not-is_target+else-may_assign w ↦
          assign_no source.text.now source.tokens.now c.args.name c.args.target c.args.place at (sym c.is_target.ensures ∙ w.if-not-is_target.true) (sym w.may_assign.ensures ∙ w.if-may_assign.false)
      | else-not-is_target-via-else-not-is_target w ↦
          target_no source.text.now source.tokens.now c.args.name c.args.target c.args.place at (sym c.is_target.ensures ∙ w.if-not-is_target.false)
    ])
    c.loop-earlier.invariant

pub returns : goal.returns
returns c =
    let source = c.args.source.now in
    assigned_none source.text.now source.tokens.now c.args.name c.args.target c.args.place c.loop-earlier.earlier c.loop-earlier-test.false c.loop-earlier.invariant
