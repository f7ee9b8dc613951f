use Rattle.std.proofs.Common.{◌≡◌, ◌++◌, [], take, drop, length, refl, ap, ◌∙◌, arith, rules}
use Rattle.pr_samples.specs.declared.tails.Tail.{Tail}
use Rattle.pr_samples.specs.Scan.{taken_of}
use Rattle.pr_samples.specs.Feed.{pending_of}
use Rattle.pr_samples.proofs.ReadingLemmas.{window-none, put-whole, is_ended, IsMeeting-cut, IsMeeting-ended, IsReading-end}
use Rattle.pr_samples.proofs.feed.Feed.finish.Goals as goal

pub returns-in-Cut-clause-told : goal.returns-in-Cut-clause-told
returns-in-Cut-clause-told c = λ file h.
    let f = c.args.self.now in
    let none : pending_of f ≡ [] = window-none f.start f.end f.buffer.items c.requires.spent in
    c.settle.ensures.told file (rw (c.in-Cut.is, none) (IsMeeting-cut _ _ _ _ _ _ _ _ _ (rw (c.in-Cut.is, none) at h) (rw c.deref.ensures.value at (c.met_cut-met.ensures.taken f.numbers.items))))

pub returns-in-Skipped : goal.returns-in-Skipped
returns-in-Skipped c = record {
  told = λ file h.
      let f = c.args.self.now in
      let none : pending_of f ≡ [] = window-none f.start f.end f.buffer.items c.requires.spent in
      let ended : f.tail ≡ Tail.Ended = is_ended f.tail c.requires.tail c.in_default.not-Cut in
      let over = IsReading-end _ _ _ _ _ _ _ _ (rw (ended, none) at h) (rw (c.deref-in_default.ensures.value, c.deref_mut.ensures.value) at c.in-Skipped.ensures) in
      record { all = over.0; ends = over.1 };
  given = omega arith;
  into = search rules;
  fault = search rules;
  file = search rules;
  place = refl;
  tail = refl;
}

pub returns-in_default-met_whole : goal.returns-in_default-met_whole
returns-in_default-met_whole c = record {
  told = λ file h.
      let f = c.args.self.now in
      let none : pending_of f ≡ [] = window-none f.start f.end f.buffer.items c.requires.spent in
      let ended : f.tail ≡ Tail.Ended = is_ended f.tail c.requires.tail c.in_default.not-Cut in
      let new = c.met_whole.new.numbers in
      let whole : take f.numbers.len (new ++ drop (length new) f.numbers.items) ≡ new = put-whole f.numbers.len new f.numbers.items (omega (arith, c.met_whole.auto.numbers, c.deref_mut.ensures.len, f.numbers.ok.0)) (omega (arith, f.numbers.ok.0)) in
      let taken = ap (taken_of c.met_whole.result) whole ∙ (rw (c.deref-in_default.ensures.value, c.deref_mut.ensures.value) at c.met_whole.ensures) in
      c.settle-in_default-met_whole.ensures.told file (rw (ended, none) (IsMeeting-ended _ _ _ _ _ _ _ _ _ (rw (ended, none) at h) taken));
  given = search rules;
  into = search rules;
  fault = search rules;
  file = search rules;
  place = search rules;
  tail = search rules;
}
