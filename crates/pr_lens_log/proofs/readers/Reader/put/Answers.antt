use Rattle.std.proofs.Common.{◌+◌, ◌<◌, ◌≤◌, ◌++◌, arith, length, refl}
use Rattle.pr_lens_log.specs.declared.readers.Reader.{Reader}
use Rattle.pr_lens_log.specs.Logs.{most_line_bytes}
use Rattle.pr_lens_log.proofs.ReaderLaws.{if_err, on_both, on_ok, put_done, put_last, put_line, put_long, put_open}
use Rattle.pr_lens_log.proofs.readers.Reader.put.Goals as goal

pub returns-then-is_long-clause-refused : goal.returns-then-is_long-clause-refused
returns-then-is_long-clause-refused c =
    let old = c.args.self.now in
    let bytes = c.args.bytes.now in
    let long : most_line_bytes < length old.pending.items + length bytes = omega (arith, c.is_long.ensures.long c.if-is_long.true, old.pending.ok.0) in
    λ text more h. put_long text bytes old h c.requires.some c.requires.none more long

pub returns-then-bytes-ne10-clause-read : goal.returns-then-bytes-ne10-clause-read
returns-then-bytes-ne10-clause-read c =
    let old = c.args.self.now in
    let bytes = c.args.bytes.now in
    let mid : Reader = record { choice = old.choice; log = old.log; lines = old.lines; pending = c.extend_from_slice.new.self } in
    let pending = c.in_ok-extend_from_slice.ensures.items in
    let some = c.requires.some in
    let none = c.requires.none in
    let fits : length old.pending.items + length bytes ≤ most_line_bytes = omega (arith, c.is_long.ensures.short c.if-is_long.false, old.pending.ok.0) in
    λ text h. put_open text bytes old h some none mid refl refl refl pending fits c.if-bytes-ne10.true

pub returns-clause-read : goal.returns-clause-read
returns-clause-read c =
    let old = c.args.self.now in
    let bytes = c.args.bytes.now in
    let mid : Reader = record { choice = old.choice; log = old.log; lines = old.lines; pending = c.extend_from_slice.new.self } in
    let pending = c.in_ok-extend_from_slice.ensures.items in
    let some = c.requires.some in
    let none = c.requires.none in
    let fits : length old.pending.items + length bytes ≤ most_line_bytes = omega (arith, c.is_long.ensures.short c.if-is_long.false, old.pending.ok.0) in
    let feed = c.if-bytes-ne10.false in
    on_both c.end_line.result _ _ _ c.end_line.ensures.taken c.end_line.ensures.pending (λ taken empty text h.
    put_done text bytes old h some none mid refl refl refl pending fits c.end_line.new.self feed
    (taken (text ++ bytes) h.from (length (text ++ bytes)) (put_last text bytes old h some none mid refl refl refl pending fits feed)) empty)

pub returns-clause-refused : goal.returns-clause-refused
returns-clause-refused c =
    let old = c.args.self.now in
    let bytes = c.args.bytes.now in
    let mid : Reader = record { choice = old.choice; log = old.log; lines = old.lines; pending = c.extend_from_slice.new.self } in
    let pending = c.in_ok-extend_from_slice.ensures.items in
    let some = c.requires.some in
    let none = c.requires.none in
    let fits : length old.pending.items + length bytes ≤ most_line_bytes = omega (arith, c.is_long.ensures.short c.if-is_long.false, old.pending.ok.0) in
    let feed = c.if-bytes-ne10.false in
    if_err c.end_line.result _ _ c.end_line.ensures.refused (λ e bad text more h.
    bad (text ++ bytes ++ more) h.from (length (text ++ bytes)) (put_line text bytes old h some none mid refl refl refl pending fits more feed))

pub returns-clause-room : goal.returns-clause-room
returns-clause-room c = on_ok c.end_line.result _ _ c.end_line.ensures.room (λ left more h. left more (record { few = h.few; room = h.room }))
