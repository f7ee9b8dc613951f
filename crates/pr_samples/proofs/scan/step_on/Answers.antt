use Rattle.std.proofs.Common.{◌≡◌, ◌++◌, take, drop, get_or, refl, sym, ap, ◌∙◌, arith}
use Rattle.pr_samples.specs.declared.scan.Phase.{Phase}
use Rattle.pr_samples.specs.Fed.{value_after}
use Rattle.pr_samples.specs.Scan.{first_line}
use Rattle.pr_samples.proofs.ScanLemmas.{first_line-drop}
use Rattle.pr_samples.proofs.DigitLemmas.{first_line-number}
use Rattle.pr_samples.proofs.scan.step_on.Goals as goal
use Rattle.pr_samples.proofs.scan.step_on.Goals.{in-Gap, in_default}

pub returns-then-is_low-clause-scan : goal.returns-then-is_low-clause-scan
returns-then-is_low-clause-scan c = λ passed more.
    let count = c.front_number-count.result.0 in
    let rest = c.args.rest.now in
    let gap : c.args.cursor.phase ≡ Phase.Gap = elim c.match-matches.branch [ in-Gap w ↦ w.in-Gap.is | in_default w ↦ absurd (cc) ] in
    let number : c.from.result ≡ value_after 0 (take count rest) = c.from.ensures ∙ c.front_number-count.ensures.number in
    rw number
    (first_line-number c.args.widths.now c.args.numbers.now c.args.cursor passed count rest more gap
    (omega (arith, c.if-cursor-widths.true)) (omega (arith, c.if-count-gt0.true)) c.front_number-count.ensures.within c.front_number-count.ensures.digits
    (rw c.front_number-count.ensures.number at (c.if-is_low.ensures refl)))

pub returns-clause-scan : goal.returns-clause-scan
returns-clause-scan c = λ passed more.
    ap (λ s. first_line c.args.widths.now s passed (drop 1 c.args.rest.now ++ more)) c.after_byte.ensures.scan
    ∙ sym (first_line-drop c.args.widths.now _ passed 0 (get_or c.args.rest.now 0 0) c.args.rest.now more c.requires.some refl c.requires.other)
