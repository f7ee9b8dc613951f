use Rattle.std.proofs.Common.{◌≡◌, false, length, replicate, rules, subst}
use Rattle.pr_scope.specs.Walk.{program_walk, turns_after}
use Rattle.pr_expand_spec.specs.Programs.{equations_of}
use Rattle.pr_lens_probe.specs.Asked.{IsPart}
use Rattle.pr_lens_probe.proofs.Answered.{kinds-untold}
use Rattle.pr_lens_probe.proofs.Runs.{can-fewer, has-room, no-room}
use Rattle.pr_lens_probe.proofs.kinds.told_of.Goals as goal

pub returns-in-None-clause-kinds : goal.returns-in-None-clause-kinds
returns-in-None-clause-kinds c =
    let p = c.args.program in
    let part = IsPart (turns_after (program_walk p)) (length (equations_of p).equations) in
    let are : c.in_ok-kinds-in-None.kinds.items ≡ replicate (length c.args.instances.now) false = search rules in
    kinds-untold p c.args.instances.now c.in_ok-kinds-in-None.kinds.items (no-room p (subst part c.in-None.is c.requires.part)) are

pub tell_by-requires-clause-able : goal.tell_by-requires-clause-able
tell_by-requires-clause-able c =
    let p = c.args.program in
    let fits = subst (IsPart (turns_after (program_walk p)) (length (equations_of p).equations)) c.in-Some.is c.requires.part in
    can-fewer p c.args.most 1 c.in-Some.size c.args.instances.now fits.0 fits.1 c.requires.able

pub tell_by-requires-clause-room : goal.tell_by-requires-clause-room
tell_by-requires-clause-room c =
    let p = c.args.program in
    let fits = subst (IsPart (turns_after (program_walk p)) (length (equations_of p).equations)) c.in-Some.is c.requires.part in
    has-room p c.in-Some.size fits.0 fits.2

pub tell_by-requires-clause-few : goal.tell_by-requires-clause-few
tell_by-requires-clause-few c =
    let p = c.args.program in
    (subst (IsPart (turns_after (program_walk p)) (length (equations_of p).equations)) c.in-Some.is c.requires.part).2
