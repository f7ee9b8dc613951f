use Rattle.std.proofs.Common.{◌∙◌, ◌+◌, ◌-◌, ◌++◌, ℕ, List, length, take, drop, arith, subst}
use Rattle.pr_lens_log.specs.Logs.{IsLineFault}
use Rattle.pr_lens_log.specs.Readers.{HasRead}
use Rattle.pr_lens_log.proofs.ReaderLaws.{bad_joins, read_joins, room_less}
use Rattle.pr_lens_log.proofs.readers.Reader.read.Goals as goal

pub put-requires-clause-room : goal.put-requires-clause-room
put-requires-clause-room c =
    let size = length c.args.piece.now in
    let start = c.loop-start.start in
    let within = c.loop-start.invariant.within in
    let less = c.loop-start-test.true in
    room_less c.loop-start.self (size - start) 1 (omega arith) (c.loop-start.invariant.room (size - start) (room_less c.args.self.now size (size - start + start) (omega arith) c.requires))

pub returns-in-Err-clause-refused : goal.returns-in-Err-clause-refused
returns-in-Err-clause-refused c = λ text more h.
    let piece = c.args.piece.now in
    let start = c.loop-start.start in
    let next = c.next_line-next.result in
    subst (λ (t : List ℕ). IsLineFault t c.in-Err.fault) (bad_joins piece start next c.next_line-next.ensures text more)
    (c.in-Err.ensures.refused (text ++ take start piece) (drop next piece ++ more) (c.loop-start.invariant.read text h))

pub loop-start-preserved : goal.loop-start-preserved
loop-start-preserved c =
    let piece = c.args.piece.now in
    let start = c.loop-start.start in
    let next = c.next_line-next.result in
    let some = c.next_line-next.ensures.some in
    record {
      within = c.next_line-next.ensures.within;
      read = λ text h. subst (λ (t : List ℕ). HasRead t c.put.new.self) (read_joins piece start next c.next_line-next.ensures text)
          (c.in-Ok.ensures.read (text ++ take start piece) (c.loop-start.invariant.read text h));
      choice = c.in-Ok.ensures.choice ∙ c.loop-start.invariant.choice;
      room = λ more h. c.in-Ok.ensures.room more (c.loop-start.invariant.room (more + 1) (room_less c.args.self.now (more + next) (more + 1 + start) (omega arith) h));
    }

pub returns-clause-room : goal.returns-clause-room
returns-clause-room c = λ more h.
    let within = c.loop-start.invariant.within in
    c.loop-start.invariant.room more (room_less c.args.self.now (more + length c.args.piece.now) (more + c.loop-start.start) (omega arith) h)
