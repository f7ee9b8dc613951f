use Rattle.std.proofs.Common.{◌≡◌, arith, length}
use Rattle.pr_code.specs.Reading.{words_of_bytes}
use Rattle.pr_code.proofs.StageLemmas.{stage_taken}
use Rattle.pr_code.proofs.stages.stage_at.Goals as goal

pub returns : goal.returns
returns g c =
    let pes = c.in_ok-pes.ensures in
    let count : length c.in_ok-pes.pes.items ≡ c.args.site.columns = omega (arith, pes.1.1) in
    stage_taken c.args.packed g.row.N c.args.site c.args.place c.in_ok-marks.next c.in_ok-pes.end c.in_ok-marks.marks c.in_ok-pes.pes.items (words_of_bytes c.args.bytes.now) c.requires.site c.requires.columns c.in_ok-marks.ensures (pes.0, (pes.1.0, count, pes.1.2, pes.1.3))
