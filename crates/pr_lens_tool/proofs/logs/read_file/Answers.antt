use Rattle.std.proofs.Common.{◌≡◌, ◌+◌, ◌-◌, ◌^◌, ◌∙◌, ℕ, arith, inr, subst, sym}
use Rattle.std.proofs.lemmas.Result.{err_from_is_err_and}
use Rattle.pr_edge.specs.Files.{IsMissing, Told}
use Rattle.pr_lens_log.specs.Readers.{HasRead}
use Rattle.pr_lens_log.proofs.ReaderLaws.{room_less}
use Rattle.pr_lens_tool.specs.Logs.{HasShortText, IsReadTo}
use Rattle.pr_lens_tool.proofs.LogLemmas.{long_log, no_log_since, once_on, once_through, read_whole, shown_since}
use Rattle.pr_lens_tool.proofs.logs.read_file.Goals as goal

pub read_more-requires-clause-read : goal.read_more-requires-clause-read
read_more-requires-clause-read g c =
    subst (λ (t : Told). IsReadTo t c.args.name.now c.loop-place.place c.loop-place.reader) (sym c.loop-place.invariant.same) c.loop-place.invariant.read

pub read_more-requires-clause-room : goal.read_more-requires-clause-room
read_more-requires-clause-room g c =
    let test = c.loop-place-test.true in
    room_less c.loop-place.reader (2 ^ 45 - c.loop-place.place) 4096 (omega (arith, test)) c.loop-place.invariant.room

pub returns-in_err-count-clause-refused : goal.returns-in_err-count-clause-refused
returns-in_err-count-clause-refused g c =
    let p = err_from_is_err_and c.from_residual.result c.from_residual.ensures.1 in
    let shelf = c.loop-place.shelf in
    rw (p.1, p.2) (no_log_since (g.S.Shelf.view c.args.shelf.now).told (g.S.Shelf.view shelf).told c.args.name.now (g.S.Shelf.view c.args.shelf.now).faults (g.S.Shelf.view shelf).faults (g.S.Shelf.view c.read_more.new.shelf).faults _
    c.loop-place.invariant.same c.loop-place.invariant.steady c.in_err-count.ensures.refused)

pub returns-in_err-count-clause-shown : goal.returns-in_err-count-clause-shown
returns-in_err-count-clause-shown g c =
    let p = err_from_is_err_and c.from_residual.result c.from_residual.ensures.1 in
    rw (p.1, p.2) (shown_since (g.S.Shelf.view c.args.shelf.now).faults (g.S.Shelf.view c.loop-place.shelf).faults (g.S.Shelf.view c.read_more.new.shelf).faults _ c.loop-place.invariant.steady c.in_err-count.ensures.shown)

pub returns-then-count-eq0-clause-read : goal.returns-then-count-eq0-clause-read
returns-then-count-eq0-clause-read g c =
    let name = c.args.name.now in
    let place = c.loop-place.place in
    let reader = c.read_more.new.reader in
    let none = c.if-count-eq0.true in
    let test = c.loop-place-test.true in
    let here : place + c.in_ok-count.count ≡ place = omega (arith, none) in
    let read = subst (λ (n : ℕ). IsReadTo (g.S.Shelf.view c.loop-place.shelf).told name n reader) here c.in_ok-count.ensures.read in
    let end = c.in_ok-count.ensures.end none in
    subst (λ (t : Told). HasShortText t name (λ text. HasRead text reader)) c.loop-place.invariant.same
    (read_whole (g.S.Shelf.view c.loop-place.shelf).told name place reader read (omega (arith, test)) c.in_ok-count.ensures.there end)

pub returns-then-count-eq0-clause-room : goal.returns-then-count-eq0-clause-room
returns-then-count-eq0-clause-room g c =
    let none = c.if-count-eq0.true in
    let test = c.loop-place-test.true in
    c.in_ok-count.ensures.room 1 (room_less c.loop-place.reader (2 ^ 45 - c.loop-place.place) (1 + c.in_ok-count.count) (omega (arith, none, test)) c.loop-place.invariant.room)

pub loop-place-preserved : goal.loop-place-preserved
loop-place-preserved g c =
    let name = c.args.name.now in
    let place = c.loop-place.place in
    let count = c.in_ok-count.count in
    let reader = c.read_more.new.reader in
    let before = c.loop-place.invariant in
    let test = c.loop-place-test.true in
    let few = c.in_ok-count.ensures.few in
    record {
      read = subst (λ (t : Told). IsReadTo t name (place + count) reader) before.same c.in_ok-count.ensures.read;
      room = c.in_ok-count.ensures.room (2 ^ 45 - (place + count)) (room_less c.loop-place.reader (2 ^ 45 - place) (2 ^ 45 - (place + count) + count) (omega (arith, test, few)) before.room);
      near = omega (arith, test, few);
      there = λ some. subst (λ (t : Told). IsMissing t name → ⊥) before.same c.in_ok-count.ensures.there;
      choice = c.in_ok-count.ensures.choice ∙ before.choice;
      steady = c.in_ok-count.ensures.steady ∙ before.steady;
      same = c.read_more.ensures.same ∙ before.same;
      reached = λ none. c.in_ok-count.ensures.reached (before.reached none);
      others = λ q other. c.read_more.ensures.others q other ∙ before.others q other;
    }

pub returns-clause-refused : goal.returns-clause-refused
returns-clause-refused g c =
    let test = c.loop-place-test.false in
    long_log (g.S.Shelf.view c.args.shelf.now).told c.args.name.now c.loop-place.place 17592186044416 c.loop-place.reader c.loop-place.invariant.read (omega arith) (c.loop-place.invariant.there (omega arith))

pub returns-clause-shown : goal.returns-clause-shown
returns-clause-shown g c = inr (inr c.loop-place.invariant.steady)

pub returns-in_err-count-clause-once : goal.returns-in_err-count-clause-once
returns-in_err-count-clause-once g c =
    let test = c.loop-place-test.true in
    once_on 17592186044416 c.loop-place.place _ _ _ (omega (arith, test)) c.loop-place.invariant.reached c.read_more.ensures.once

pub returns-then-count-eq0-clause-once : goal.returns-then-count-eq0-clause-once
returns-then-count-eq0-clause-once g c =
    let test = c.loop-place-test.true in
    once_on 17592186044416 c.loop-place.place _ _ _ (omega (arith, test)) c.loop-place.invariant.reached c.read_more.ensures.once

pub returns-clause-once : goal.returns-clause-once
returns-clause-once g c = once_through (17592186044416 + 4096) c.loop-place.place _ _ (omega (arith, c.loop-place.invariant.near)) c.loop-place.invariant.reached

pub overflow_add-place : goal.overflow_add-place
overflow_add-place g c =
    let test = c.loop-place-test.true in
    let few = c.in_ok-count.ensures.few in
    omega (arith, test, few)

pub loop-place-smaller : goal.loop-place-smaller
loop-place-smaller g c =
    let test = c.loop-place-test.true in
    let some = c.if-count-eq0.false in
    omega (arith, test, some)
