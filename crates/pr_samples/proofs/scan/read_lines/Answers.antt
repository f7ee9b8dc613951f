use Rattle.std.proofs.Common.{◌+◌, ◌<◌, ◌++◌, drop, length, sym, ap, ◌∙◌, arith, length-drop}
use Rattle.std.proofs.lemmas.List.{take_rest}
use Rattle.pr_samples.specs.Fed.{Taken}
use Rattle.pr_samples.specs.Scan.{fresh, first_line, first_or}
use Rattle.pr_samples.proofs.ScanLemmas.{line_over, first_or-met}
use Rattle.pr_samples.proofs.scan.read_lines.Goals as goal

pub loop-used-preserved : goal.loop-used-preserved
loop-used-preserved c =
    let used = c.loop-used.used in
    let count = c.read_line-count.result.0 in
    let within : count < length (drop used c.args.bytes.now) = simp length-drop (omega arith) in
    record {
      bound = omega arith;
      first = λ more.
          let rest = drop (used + count + 1) c.args.bytes.now ++ more in
          let over = line_over c.args.widths.now _ _ c.loop-used.passed used count c.args.bytes.now more within (rw take_rest at (c.read_line-count.ensures.stops (omega arith))) (rw take_rest at (c.read_line-count.ensures.scan c.loop-used.passed more)) in
          ap (λ (t : Taken). first_or t (c.loop-used.passed + 1) rest (first_line c.args.widths.now (fresh c.args.widths.now) (c.loop-used.passed + 1) rest)) c.in-Skipped.ensures
          ∙ sym over ∙ c.loop-used.invariant.first more;
      passed = omega arith;
      room = omega arith;
    }

pub returns-in_default : goal.returns-in_default
returns-in_default c =
    let used = c.loop-used.used in
    let count = c.read_line-count.result.0 in
    let within : count < length (drop used c.args.bytes.now) = simp length-drop (omega arith) in
    record {
      bound = omega arith;
      all = tt;
      met = c.in_default.not-Skipped;
      first = λ more.
          let rest = drop (used + count + 1) c.args.bytes.now ++ more in
          let over = line_over c.args.widths.now _ _ c.loop-used.passed used count c.args.bytes.now more within (rw take_rest at (c.read_line-count.ensures.stops (omega arith))) (rw take_rest at (c.read_line-count.ensures.scan c.loop-used.passed more)) in
          let later = first_line c.args.widths.now (fresh c.args.widths.now) (c.loop-used.passed + 1) rest in
          sym (first_or-met c.met_whole.result c.met_whole.new.numbers (c.loop-used.passed + 1) rest later c.in_default.not-Skipped)
          ∙ ap (λ (t : Taken). first_or t (c.loop-used.passed + 1) rest later) c.met_whole.ensures
          ∙ sym over ∙ c.loop-used.invariant.first more;
      passed = omega arith;
      room = omega arith;
    }
