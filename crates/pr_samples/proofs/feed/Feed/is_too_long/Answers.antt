use Rattle.std.proofs.Common.{◌≡◌, ℕ, ◌<◌, ◌∙◌, length, Option, Some, refl, sym, ap, subst, arith, rules}
use Rattle.pr_edge.specs.Files.{Told, OfFile, IsPart, raised}
use Rattle.pr_samples.specs.declared.tails.Tail.{Tail}
use Rattle.pr_samples.specs.Feed.{name_of}
use Rattle.std.proofs.lemmas.Grind.{common_steps}
use Rattle.pr_samples.proofs.Reading.{raised-here}
use Rattle.pr_samples.proofs.SeenLemmas.{reads_more}
use Rattle.pr_samples.proofs.feed.Feed.is_too_long.Goals as goal

pub loop-shelf-preserved : goal.loop-shelf-preserved
loop-shelf-preserved g c =
    let f = c.loop-shelf.self in
    let f' = c.advance.new.self in
    let named = c.as_str.ensures.value ∙ c.loop-shelf.invariant.file.name in
    record {
      seen = λ bytes seen.
          let told = (g.S.Shelf.view c.args.shelf.now).told in
          let is_open : f.tail ≡ Tail.Open = search rules in
          let part : OfFile told (name_of f) (λ file. IsPart file f.place c.in_ok-count.count c.read_at.new.buf) = subst (λ (t : Told). OfFile t (name_of f) (λ file. IsPart file f.place c.in_ok-count.count c.read_at.new.buf)) c.loop-shelf.invariant.same (rw c.as_str.ensures.value at c.in_ok-count.ensures.part) in
          let filled : length c.read_at.new.buf ≡ f.buffer.len = omega (arith, c.read_at.auto.buf, c.deref_mut.ensures.len, f.buffer.ok.0) in
          let some : 0 < length c.read_at.new.buf = omega (arith, filled, f.size) in
          let more = reads_more told bytes _ f f' c.read_at.new.buf c.in_ok-count.count _ (c.loop-shelf.invariant.seen bytes seen) is_open part c.in_ok-count.ensures.bound some c.advance.ensures.file.name c.advance.ensures.place c.advance.ensures.tail in
          record { bytes = more.bytes; seen = record { count = more.seen.count; file = more.seen.file }; began = more.began; holds = λ file begins. tt };
      file = record {
        name = c.advance.ensures.file.name ∙ c.loop-shelf.invariant.file.name;
        widths = c.advance.ensures.file.widths ∙ c.loop-shelf.invariant.file.widths;
        limit = c.advance.ensures.file.limit ∙ c.loop-shelf.invariant.file.limit;
        most = c.advance.ensures.file.most ∙ c.loop-shelf.invariant.file.most;
      };
      spent = refl;
      steady = c.in_ok-count.ensures.steady ∙ c.loop-shelf.invariant.steady;
      later = omega (arith, c.loop-shelf.invariant.later, c.read_at.ensures.later);
      same = c.read_at.ensures.same ∙ c.loop-shelf.invariant.same;
      reached = λ known.
          rw named at c.in_ok-count.ensures.reached
          ∙ ap (λ (r : Option ℕ). raised r f.place c.in_ok-count.count) (c.loop-shelf.invariant.reached known)
          ∙ (raised-here f.place c.in_ok-count.count ∙ ap Some (sym c.advance.ensures.place));
      others = λ q other. c.read_at.ensures.others q (rw named other) ∙ c.loop-shelf.invariant.others q other;
    }

pub loop-shelf-smaller : goal.loop-shelf-smaller
loop-shelf-smaller g c = grind (arith, common_steps)

pub returns-in_err-count-clause-file : goal.returns-in_err-count-clause-file
returns-in_err-count-clause-file g c = record {
  name = c.loop-shelf.invariant.file.name;
  widths = c.loop-shelf.invariant.file.widths;
  limit = c.loop-shelf.invariant.file.limit;
  most = c.loop-shelf.invariant.file.most;
}

pub returns-in_err-count-clause-same : goal.returns-in_err-count-clause-same
returns-in_err-count-clause-same g c = c.read_at.ensures.same ∙ c.loop-shelf.invariant.same

pub returns-in_err-count-clause-later : goal.returns-in_err-count-clause-later
returns-in_err-count-clause-later g c = omega (arith, c.loop-shelf.invariant.later, c.read_at.ensures.later)
