use Rattle.std.proofs.Common.{◌≡◌, ◌∙◌, ◌-◌, ◌++◌, List, drop, length, take, ap, subst, sym, arith}
use Rattle.std.proofs.lemmas.List.{take_rest}
use Rattle.pr_flat.specs.declared.equations.Operand.{Operand}
use Rattle.pr_lens_probe.specs.Given.{AreGiven}
use Rattle.pr_lens_probe.specs.Kinds.{last_of}
use Rattle.pr_lens_probe.proofs.Answered.{streams-given, streams-long}
use Rattle.pr_lens_probe.proofs.parts.streams_of.Goals as goal

pub overflow_sub-first : goal.overflow_sub-first
overflow_sub-first c = let long = streams-long c.args.program c.args.most c.args.some.now c.requires.able c.in_ok-asked.asked.flat c.in_ok-asked.ensures.answered in omega (arith, long)

pub returns-clause-given : goal.returns-clause-given
returns-clause-given c =
    let some = c.args.some.now in
    let flat = c.in_ok-asked.asked.flat in
    let all = c.deref.result.now in
    let first = c.len.result - length some in
    let cut : first ≡ length flat.outputs.items - length some = omega (arith, c.len.ensures, flat.outputs.ok.0) in
    let put : c.extend_from_slice.new.self.items ≡ last_of (length some) flat.outputs.items =
    c.in_ok-extend_from_slice.ensures.items
    ∙ (ap (λ (l : List Operand). l ++ take (length all - first) (drop first all)) c.new-operands.ensures.items
    ∙ (take_rest all first ∙ (ap (drop first) c.deref.ensures.value ∙ ap (λ n. drop n flat.outputs.items) cut))) in
    subst (AreGiven c.args.program some) (sym put) (streams-given c.args.program c.args.most some c.requires.able flat c.in_ok-asked.ensures.answered)
