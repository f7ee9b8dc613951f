use Rattle.std.proofs.Common.{◌<◌, length, arith}
use Rattle.pr_samples.proofs.ScanLemmas.{scan_of-finished}
use Rattle.pr_samples.proofs.scan.after_number.Goals as goal

pub returns-in-Number-clause-scan : goal.returns-in-Number-clause-scan
returns-in-Number-clause-scan c = λ widths.
    let room : c.args.cursor.done < length c.args.numbers.now = omega (arith, rw c.in-Number.is at c.requires.room) in
    scan_of-finished widths c.args.numbers.now c.args.cursor c.args.phase c.in-Number.n c.in-Number.is room
