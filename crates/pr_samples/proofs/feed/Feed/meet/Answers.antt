use Rattle.std.proofs.Common.{◌≡◌, ◌≤◌, ◌-◌, ◌++◌, length, take, drop, arith, length-drop}
use Rattle.std.proofs.lemmas.List.{length-take}
use Rattle.pr_samples.proofs.ReadingLemmas.{window-drop, put-whole}
use Rattle.pr_samples.proofs.feed.Feed.meet.Goals as goal

pub returns-clause-first : goal.returns-clause-first
returns-clause-first c = λ more.
    let f = c.args.self.now in
    let part = c.read_lines-part in
    let new = part.new.numbers in
    let whole : take f.numbers.len (new ++ drop (length new) f.numbers.items) ≡ new = put-whole f.numbers.len new f.numbers.items (omega (arith, part.auto.numbers, c.deref_mut.ensures.len, f.numbers.ok.0)) (omega (arith, f.numbers.ok.0)) in
    let used : part.result.used ≤ f.end - f.start = omega (arith, simp (length-take, length-drop) at part.ensures.bound) in
    rw (whole, ← window-drop f.start f.end part.result.used f.buffer.items used) (rw (c.deref.ensures.value, c.deref-2.ensures.value, c.deref_mut.ensures.value) at (part.ensures.first more))
