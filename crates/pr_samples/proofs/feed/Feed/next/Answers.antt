use Rattle.std.proofs.Common.{◌≡◌, List, ℕ, [], sym, subst, ◌∙◌, arith}
use Rattle.pr_samples.specs.Fed.{Lawful}
use Rattle.pr_samples.specs.Feed.{pending_of, Tells, IsReady}
use Rattle.pr_samples.proofs.FedLemmas.{first_line-none, found_is_met}
use Rattle.pr_samples.proofs.ReadingLemmas.{window-empty}
use Rattle.pr_samples.proofs.Reading.{found_step, kept_step}
use Rattle.pr_samples.proofs.SeenLemmas.{seen_same}
use Rattle.pr_samples.proofs.feed.Feed.next.Goals as goal

pub returns-then-take_front-clause-told : goal.returns-then-take_front-clause-told
returns-then-take_front-clause-told g c = λ file tells reads.
    let e = c.take_front.ensures in
    let f' = c.take_front.new.self in
    let met = found_step c.args.self.now f' _ (Lawful f'.front.items) file reads e.file e.bytes (e.found c.if-take_front.true) in
    rw e.bytes.given at (c.give_front.ensures.told file met)

pub returns-then-take_front-clause-seen : goal.returns-then-take_front-clause-seen
returns-then-take_front-clause-seen g c = λ bytes seen.
    let e = c.take_front.ensures in
    let f = c.args.self.now in
    let f' = c.take_front.new.self in
    let tail = c.give_front.ensures.tail ∙ e.bytes.tail in
    record {
      bytes = bytes;
      seen = seen_same (g.S.Shelf.view c.args.shelf.now).told bytes f _ seen (c.give_front.ensures.file.name ∙ e.file.name) (c.give_front.ensures.place ∙ e.bytes.place) tail;
      began = λ file begins. rw tail at begins;
      holds = λ file begins reads.
          (let met = found_step f f' _ (Lawful f'.front.items) file reads e.file e.bytes (e.found c.if-take_front.true) in
          rw e.bytes.given at (c.give_front.ensures.told file met));
    }

pub returns-then-take_front-clause-missing : goal.returns-then-take_front-clause-missing
returns-then-take_front-clause-missing g c = λ missing nothing.
    let f = c.args.self.now in
    let none : pending_of f ≡ [] = window-empty f.start f.end f.buffer.items (omega (arith, f.lines, nothing.0)) in
    absurd (found_is_met _ _ _ _ _ (rw (none, first_line-none) at (c.take_front.ensures.found c.if-take_front.true [])))

pub returns-clause-told : goal.returns-clause-told
returns-clause-told g c = λ file tells reads.
    let e = c.take_front.ensures in
    let no = c.if-take_front.false in
    let stands = kept_step c.args.self.now c.take_front.new.self file reads e.file e.bytes (e.passed no) (e.pending no) in
    rw e.bytes.given at (c.next_line.ensures.told file (subst (λ (n : List ℕ). Tells (g.S.Shelf.view c.args.shelf.now).told n file) (sym e.file.name) tells) stands)

pub returns-clause-seen : goal.returns-clause-seen
returns-clause-seen g c = λ bytes seen.
    let e = c.take_front.ensures in
    let no = c.if-take_front.false in
    let f = c.args.self.now in
    let f' = c.take_front.new.self in
    let on = c.next_line.ensures.seen bytes (seen_same (g.S.Shelf.view c.args.shelf.now).told bytes f f' seen e.file.name e.bytes.place e.bytes.tail) in
    record {
      bytes = on.bytes;
      seen = on.seen;
      began = λ file begins. rw e.bytes.tail at (on.began file begins);
      holds = λ file begins reads. rw e.bytes.given at (on.holds file begins (kept_step f f' file reads e.file e.bytes (e.passed no) (e.pending no)));
    }

pub returns-clause-quiet : goal.returns-clause-quiet
returns-clause-quiet g c = λ ready.
    let e = c.take_front.ensures in
    let ready' : IsReady c.take_front.new.self = rw (e.pending c.if-take_front.false, e.bytes.tail) ready in
    c.next_line.ensures.quiet ready'
