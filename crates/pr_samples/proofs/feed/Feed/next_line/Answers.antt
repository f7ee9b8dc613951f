use Rattle.std.proofs.Common.{◌≡◌, List, ℕ, [], refl, ap, sym, subst, ◌∙◌, arith, append-nil, inl, inr}
use Rattle.pr_samples.specs.declared.tails.Tail.{Tail}
use Rattle.pr_samples.specs.Feed.{pending_of, widths_of, IsReadBy}
use Rattle.pr_samples.specs.Scan.{taken_of, fresh, scan_of, first_line}
use Rattle.pr_samples.proofs.FedLemmas.{first_line-none, found_is_met, line_found}
use Rattle.pr_samples.proofs.ReadingLemmas.{window-none, window-empty}
use Rattle.pr_samples.proofs.Reading.{found_step, move_step, wrong_step}
use Rattle.pr_samples.proofs.WrongLines.{nothing-read, gap≢wrong}
use Rattle.pr_samples.proofs.SeenLemmas.{seen_same, holds_told}
use Rattle.pr_samples.proofs.feed.Feed.next_line.Goals as goal

pub returns-in-Some-clause-told : goal.returns-in-Some-clause-told
returns-in-Some-clause-told g c = λ file tells reads.
    let f = c.args.self.now in
    let met = found_step f c.meet-met.new.self _ (taken_of c.in-Some.met c.meet-met.new.self.numbers.items) file reads c.meet-met.ensures.file c.meet-met.ensures.bytes (λ more. rw c.in-Some.is at (c.meet-met.ensures.first more)) in
    rw c.meet-met.ensures.bytes.given at (c.settle.ensures.told file met)

pub returns-in-Some-clause-missing : goal.returns-in-Some-clause-missing
returns-in-Some-clause-missing g c = λ missing nothing.
    let f = c.args.self.now in
    let none : pending_of f ≡ [] = window-empty f.start f.end f.buffer.items (omega (arith, f.lines, nothing.0)) in
    let is = rw (none, first_line-none) at (rw c.in-Some.is at (c.meet-met.ensures.first [])) in
    absurd (found_is_met _ _ _ _ _ is)

pub returns-then-is_open-clause-quiet : goal.returns-then-is_open-clause-quiet
returns-then-is_open-clause-quiet g c = λ ready.
    let f = c.args.self.now in
    let f' = c.meet-met.new.self in
    let is_open : f.tail ≡ Tail.Open = sym c.meet-met.ensures.bytes.tail ∙ c.is_open.ensures.0 c.if-is_open.true in
    let spent : f'.start ≡ f'.end = rw c.in_default.is at c.meet-met.ensures.all in
    let none : pending_of f' ≡ [] = window-none f'.start f'.end f'.buffer.items spent in
    let is = rw (none, first_line-none) at (rw c.in_default.is at (c.meet-met.ensures.first [])) in
    elim ready [
      | inl line ↦ absurd (line_found (widths_of f) f.passed (pending_of f) _ _ line (ap (first_line (widths_of f) (fresh (widths_of f)) f.passed) (sym (append-nil (pending_of f))) ∙ sym is))
      | inr tail ↦ absurd (tail is_open)
    ]

pub returns-in-Some-clause-seen : goal.returns-in-Some-clause-seen
returns-in-Some-clause-seen g c = λ bytes seen.
    let f = c.args.self.now in
    let tail = c.settle.ensures.tail ∙ c.meet-met.ensures.bytes.tail in
    record {
      bytes = bytes;
      seen = seen_same (g.S.Shelf.view c.args.shelf.now).told bytes f _ seen (c.settle.ensures.file.name ∙ c.meet-met.ensures.file.name) (c.settle.ensures.place ∙ c.meet-met.ensures.bytes.place) tail;
      began = λ file begins. rw tail at begins;
      holds = λ file begins reads.
          (let met = found_step f c.meet-met.new.self _ (taken_of c.in-Some.met c.meet-met.new.self.numbers.items) file reads c.meet-met.ensures.file c.meet-met.ensures.bytes (λ more. rw c.in-Some.is at (c.meet-met.ensures.first more)) in
          rw c.meet-met.ensures.bytes.given at (c.settle.ensures.told file met));
    }

pub returns-then-is_open-clause-seen : goal.returns-then-is_open-clause-seen
returns-then-is_open-clause-seen g c = λ bytes seen.
    let f = c.args.self.now in
    let f' = c.meet-met.new.self in
    let told = (g.S.Shelf.view c.args.shelf.now).told in
    let tail = c.meet-met.ensures.bytes.tail in
    let on = c.read_on.ensures.seen bytes (seen_same told bytes f f' seen c.meet-met.ensures.file.name c.meet-met.ensures.bytes.place tail) in
    record {
      bytes = on.bytes;
      seen = on.seen;
      began = λ file begins. rw tail at (on.began file begins);
      holds = λ file begins reads.
          (let read = move_step f f' _ (scan_of (widths_of f) f'.numbers.items c.meet-met.result.0) file reads c.meet-met.ensures.file c.meet-met.ensures.bytes (λ more. rw c.in_default.is at (c.meet-met.ensures.first more)) in
          rw c.meet-met.ensures.bytes.given at (on.holds file begins (subst (λ (ws : List ℕ). IsReadBy f' (scan_of ws f'.numbers.items c.meet-met.result.0) file) (sym c.meet-met.ensures.file.widths) read)));
    }

pub returns-then-is_open-clause-told : goal.returns-then-is_open-clause-told
returns-then-is_open-clause-told g c = λ file tells reads.
    holds_told _ _ c.args.self.now _ _ file _ tells refl (c.read_on.ensures.file.name ∙ c.meet-met.ensures.file.name) reads (returns-then-is_open-clause-seen g c) reads

pub returns-clause-seen : goal.returns-clause-seen
returns-clause-seen g c = λ bytes seen.
    let f = c.args.self.now in
    let f' = c.meet-met.new.self in
    let tail = c.finish.ensures.tail ∙ c.meet-met.ensures.bytes.tail in
    record {
      bytes = bytes;
      seen = seen_same (g.S.Shelf.view c.args.shelf.now).told bytes f _ seen (c.finish.ensures.file.name ∙ c.meet-met.ensures.file.name) (c.finish.ensures.place ∙ c.meet-met.ensures.bytes.place) tail;
      began = λ file begins. rw tail at begins;
      holds = λ file begins reads.
          (let read = move_step f f' _ (scan_of (widths_of f) f'.numbers.items c.meet-met.result.0) file reads c.meet-met.ensures.file c.meet-met.ensures.bytes (λ more. rw c.in_default.is at (c.meet-met.ensures.first more)) in
          rw c.meet-met.ensures.bytes.given at (c.finish.ensures.told file (subst (λ (ws : List ℕ). IsReadBy f' (scan_of ws f'.numbers.items c.meet-met.result.0) file) (sym c.meet-met.ensures.file.widths) read)));
    }

pub returns-then-is_wrong-clause-seen : goal.returns-then-is_wrong-clause-seen
returns-then-is_wrong-clause-seen g c = λ bytes seen.
    let f = c.args.self.now in
    let f' = c.meet-met.new.self in
    let tail = c.meet-met.ensures.bytes.tail in
    record {
      bytes = bytes;
      seen = seen_same (g.S.Shelf.view c.args.shelf.now).told bytes f f' seen c.meet-met.ensures.file.name c.meet-met.ensures.bytes.place tail;
      began = λ file begins. rw tail at begins;
      holds = λ file begins reads.
          (let moved = move_step f f' _ (scan_of (widths_of f) f'.numbers.items c.meet-met.result.0) file reads c.meet-met.ensures.file c.meet-met.ensures.bytes (λ more. rw c.in_default.is at (c.meet-met.ensures.first more)) in
          wrong_step f' _ file moved (rw c.in_default.is at c.meet-met.ensures.all) (c.is_wrong.ensures.0 c.if-is_wrong.true));
    }

pub returns-then-is_wrong-clause-told : goal.returns-then-is_wrong-clause-told
returns-then-is_wrong-clause-told g c = λ file tells reads.
    let f = c.args.self.now in
    let f' = c.meet-met.new.self in
    let moved = move_step f f' _ (scan_of (widths_of f) f'.numbers.items c.meet-met.result.0) file reads c.meet-met.ensures.file c.meet-met.ensures.bytes (λ more. rw c.in_default.is at (c.meet-met.ensures.first more)) in
    wrong_step f' _ file moved (rw c.in_default.is at c.meet-met.ensures.all) (c.is_wrong.ensures.0 c.if-is_wrong.true)

pub returns-then-is_wrong-clause-missing : goal.returns-then-is_wrong-clause-missing
returns-then-is_wrong-clause-missing g c = λ missing nothing.
    let f = c.args.self.now in
    let f' = c.meet-met.new.self in
    let none : pending_of f ≡ [] = window-empty f.start f.end f.buffer.items (omega (arith, f.lines, nothing.0)) in
    let none' : pending_of f' ≡ [] = window-none f'.start f'.end f'.buffer.items (rw c.in_default.is at c.meet-met.ensures.all) in
    let same = nothing-read (widths_of f) _ _ _ _ _ _ none' none (rw c.in_default.is at (c.meet-met.ensures.first [])) in
    absurd (gap≢wrong (sym same ∙ c.is_wrong.ensures.0 c.if-is_wrong.true))
