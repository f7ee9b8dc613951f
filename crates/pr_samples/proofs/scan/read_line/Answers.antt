use Rattle.std.proofs.Common.{◌≤◌, ◌++◌, length, length-drop, drop, drop-drop, sym, ap, ◌∙◌, arith}
use Rattle.std.proofs.lemmas.List.{take_rest}
use Rattle.pr_samples.specs.Scan.{first_line, scan_of}
use Rattle.pr_samples.proofs.scan.read_line.Goals as goal

pub loop-at-preserved : goal.loop-at-preserved
loop-at-preserved c =
    let at = c.loop-at.at in
    let count = c.step_on-count.result.0 in
    let bytes = c.args.bytes.now in
    let within : count ≤ length (drop at bytes) = rw take_rest at c.step_on-count.ensures.bound in
    let read = scan_of c.args.widths.now c.step_on-count.new.numbers c.step_on-count.result.1 in
    record {
      bound = omega (arith, simp length-drop at within);
      scan = λ passed more.
          ap (λ rest. first_line c.args.widths.now read passed (rest ++ more)) (sym (drop-drop count at bytes))
          ∙ rw take_rest at (c.step_on-count.ensures.scan passed more)
          ∙ c.loop-at.invariant.scan passed more;
      room = c.step_on-count.ensures.room;
    }
