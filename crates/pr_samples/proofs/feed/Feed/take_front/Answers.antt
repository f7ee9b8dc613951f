use Rattle.std.proofs.Common.{◌≡◌, ◌≤◌, ◌-◌, ◌++◌, length, take, drop, sym, arith, length-drop}
use Rattle.std.proofs.lemmas.List.{length-take}
use Rattle.pr_samples.proofs.ReadingLemmas.{window-drop, put-whole}
use Rattle.pr_samples.proofs.feed.Feed.take_front.Goals as goal

pub returns-in-Some-clause-found : goal.returns-in-Some-clause-found
returns-in-Some-clause-found c = λ yes more.
    let f = c.args.self.now in
    let new = c.front_line.new.numbers in
    let whole : take f.front.len (new ++ drop (length new) f.front.items) ≡ new = put-whole f.front.len new f.front.items (omega (arith, c.front_line.auto.numbers, c.deref_mut.ensures.len, f.front.ok.0)) (omega (arith, f.front.ok.0)) in
    let used : c.in-Some.used ≤ f.end - f.start = omega (arith, simp (length-take, length-drop) at c.in-Some.ensures.within) in
    rw (whole, ← window-drop f.start f.end c.in-Some.used f.buffer.items used) (rw (c.deref.ensures.value, c.deref-2.ensures.value) at (sym (c.in-Some.ensures.line f.passed more)))
