use Rattle.std.proofs.Common.{refl, inl}
use Rattle.pr_tool_modes.proofs.FileLemmas.{long_file}
use Rattle.pr_tool_modes.proofs.files.read_file.Goals as goal

pub returns-in-Err-TooLong-clause-refused : goal.returns-in-Err-TooLong-clause-refused
returns-in-Err-TooLong-clause-refused g c =
    let read = c.in-Err-TooLong.ensures in
    let long = c.in-Err-TooLong.field-0-is in
    inl (refl, long_file (g.S.Shelf.view c.args.shelf.now).told c.args.name.now c.args.limit (read.long (rw long refl)) (λ missing. let fault = (read.missing missing).0 in cc))
