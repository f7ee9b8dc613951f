use Rattle.std.proofs.Common.{◌≡◌, ◌++◌, ◌+◌, ◌<◌, ◌≤◌, ◌∙◌, Option, Some, List, ℕ, take, drop, length, ap, ap₂, subst, sym, arith, rules}
use Rattle.std.specs.Prelude.{Vec}
use Rattle.std.specs.declared.alloc.Global.{Global}
use Rattle.pr_edge.specs.Files.{Told, OfFile, IsPart, raised}
use Rattle.pr_samples.specs.declared.tails.Tail.{Tail}
use Rattle.pr_samples.specs.Feed.{SameFile, name_of, widths_of, IsReadBy, given_of}
use Rattle.pr_samples.specs.Scan.{Scan, begun, scan_of, taken_of}
use Rattle.pr_samples.proofs.ReadingLemmas.{put-whole}
use Rattle.pr_samples.proofs.Reading.{read_step, move_step, found_step, fault_step, wrong_step, raised-here}
use Rattle.pr_samples.proofs.SeenLemmas.{reads_more, seen_same}
use Rattle.std.proofs.lemmas.Bool.{false≢true}
use Rattle.std.proofs.lemmas.Grind.{common_steps}
use Rattle.pr_samples.proofs.feed.Feed.read_on.Goals as goal

pub returns-then-is_wrong-clause-seen : goal.returns-then-is_wrong-clause-seen
returns-then-is_wrong-clause-seen g c = λ bytes seen.
    let f = c.loop-cursor.self in
    let on = c.loop-cursor.invariant.seen bytes seen in
    record {
      bytes = on.bytes;
      seen = record { count = on.seen.count; file = on.seen.file };
      began = on.began;
      holds = λ file begins reads. wrong_step f _ file (on.holds file begins reads) c.loop-cursor.invariant.spent (c.is_wrong.ensures.0 c.if-is_wrong.true);
    }

pub returns-then-is_wrong-clause-missing : goal.returns-then-is_wrong-clause-missing
returns-then-is_wrong-clause-missing g c = λ missing. absurd ((c.loop-cursor.invariant.missing missing).1 (c.is_wrong.ensures.0 c.if-is_wrong.true))

pub returns-in-Err-clause-seen : goal.returns-in-Err-clause-seen
returns-in-Err-clause-seen g c = λ bytes seen.
    let f = c.loop-cursor.self in
    let is_open : f.tail ≡ Tail.Open = search rules in
    let on = c.loop-cursor.invariant.seen bytes seen in
    record {
      bytes = on.bytes;
      seen = record { count = on.seen.count; file = on.seen.file };
      began = on.began;
      holds = λ file begins reads. fault_step f _ file (on.holds file begins reads) is_open c.loop-cursor.invariant.spent;
    }

pub returns-in-Some-clause-seen : goal.returns-in-Some-clause-seen
returns-in-Some-clause-seen g c = λ bytes seen.
    let f = c.loop-cursor.self in
    let f' = c.advance.new.self in
    let f'' = c.meet-met.new.self in
    let told = (g.S.Shelf.view c.args.shelf.now).told in
    let is_open : f.tail ≡ Tail.Open = search rules in
    let part : OfFile told (name_of f) (λ file. IsPart file f.place c.in-Ok.count c.read_at.new.buf) = subst (λ (t : Told). OfFile t (name_of f) (λ file. IsPart file f.place c.in-Ok.count c.read_at.new.buf)) c.loop-cursor.invariant.same (rw c.as_str.ensures.value at c.in-Ok.ensures.part) in
    let filled : length c.read_at.new.buf ≡ f.buffer.len = omega (arith, c.read_at.auto.buf, c.deref_mut.ensures.len, f.buffer.ok.0) in
    let whole : take f.buffer.len (c.read_at.new.buf ++ drop (length c.read_at.new.buf) f.buffer.items) ≡ c.read_at.new.buf = put-whole f.buffer.len c.read_at.new.buf f.buffer.items filled (omega (arith, f.buffer.ok.0)) in
    let some : 0 < length c.read_at.new.buf = omega (arith, filled, f.size) in
    let same : SameFile f f' = record { name = c.advance.ensures.file.name; widths = c.advance.ensures.file.widths; limit = c.advance.ensures.file.limit; most = c.advance.ensures.file.most } in
    let scan : scan_of (widths_of f') f'.numbers.items c.loop-cursor.cursor ≡ scan_of (widths_of c.args.self.now) f.numbers.items c.loop-cursor.cursor =
    ap₂ (λ ws ns. scan_of ws ns c.loop-cursor.cursor) (same.widths ∙ c.loop-cursor.invariant.file.widths) (ap (λ (v : Vec ℕ Global). v.items) c.advance.ensures.numbers) in
    let given : given_of f'' ≡ given_of c.args.self.now = c.meet-met.ensures.bytes.given ∙ c.advance.ensures.given ∙ c.loop-cursor.invariant.given in
    let more = reads_more told bytes c.args.self.now f f' c.read_at.new.buf c.in-Ok.count _ (c.loop-cursor.invariant.seen bytes seen) is_open part c.in-Ok.ensures.bound some same.name c.advance.ensures.place c.advance.ensures.tail in
    let place = c.settle.ensures.place ∙ c.meet-met.ensures.bytes.place in
    let tail = c.settle.ensures.tail ∙ c.meet-met.ensures.bytes.tail in
    record {
      bytes = more.bytes;
      seen = seen_same told more.bytes f' _ more.seen (c.settle.ensures.file.name ∙ c.meet-met.ensures.file.name) place tail;
      began = λ file begins. more.began file (rw tail at begins);
      holds = λ file begins reads.
          (let both = more.holds file (rw tail at begins) in
          let on = read_step f f' _ file c.read_at.new.buf c.in-Ok.count (both.1 reads) is_open c.loop-cursor.invariant.spent both.0 some same c.advance.ensures.given c.advance.ensures.passed c.advance.ensures.place c.advance.ensures.tail (rw whole at c.advance.ensures.pending) in
          let met = found_step f' f'' _ (taken_of c.in-Some.met f''.numbers.items) file (subst (λ (s : Scan). IsReadBy f' s file) (sym scan) on) c.meet-met.ensures.file c.meet-met.ensures.bytes (λ more. rw c.in-Some.is at (c.meet-met.ensures.first more)) in
          rw given at (c.settle.ensures.told file met));
    }

pub loop-cursor-preserved : goal.loop-cursor-preserved
loop-cursor-preserved g c =
    let f = c.loop-cursor.self in
    let f' = c.advance.new.self in
    let f'' = c.meet-met.new.self in
    let named = c.as_str.ensures.value ∙ c.loop-cursor.invariant.file.name in
    let widths : widths_of f' ≡ widths_of c.args.self.now = c.advance.ensures.file.widths ∙ c.loop-cursor.invariant.file.widths in
    record {
      seen = λ bytes seen.
          let told = (g.S.Shelf.view c.args.shelf.now).told in
          let is_open : f.tail ≡ Tail.Open = search rules in
          let part : OfFile told (name_of f) (λ file. IsPart file f.place c.in-Ok.count c.read_at.new.buf) = subst (λ (t : Told). OfFile t (name_of f) (λ file. IsPart file f.place c.in-Ok.count c.read_at.new.buf)) c.loop-cursor.invariant.same (rw c.as_str.ensures.value at c.in-Ok.ensures.part) in
          let filled : length c.read_at.new.buf ≡ f.buffer.len = omega (arith, c.read_at.auto.buf, c.deref_mut.ensures.len, f.buffer.ok.0) in
          let whole : take f.buffer.len (c.read_at.new.buf ++ drop (length c.read_at.new.buf) f.buffer.items) ≡ c.read_at.new.buf = put-whole f.buffer.len c.read_at.new.buf f.buffer.items filled (omega (arith, f.buffer.ok.0)) in
          let some : 0 < length c.read_at.new.buf = omega (arith, filled, f.size) in
          let same : SameFile f f' = record { name = c.advance.ensures.file.name; widths = c.advance.ensures.file.widths; limit = c.advance.ensures.file.limit; most = c.advance.ensures.file.most } in
          let scan : scan_of (widths_of f') f'.numbers.items c.loop-cursor.cursor ≡ scan_of (widths_of c.args.self.now) f.numbers.items c.loop-cursor.cursor =
          ap₂ (λ ws ns. scan_of ws ns c.loop-cursor.cursor) (same.widths ∙ c.loop-cursor.invariant.file.widths) (ap (λ (v : Vec ℕ Global). v.items) c.advance.ensures.numbers) in
          let more = reads_more told bytes c.args.self.now f f' c.read_at.new.buf c.in-Ok.count _ (c.loop-cursor.invariant.seen bytes seen) is_open part c.in-Ok.ensures.bound some same.name c.advance.ensures.place c.advance.ensures.tail in
          let tail = c.meet-met.ensures.bytes.tail in
          record {
            bytes = more.bytes;
            seen = seen_same told more.bytes f' f'' more.seen c.meet-met.ensures.file.name c.meet-met.ensures.bytes.place tail;
            began = λ file begins. more.began file (rw tail at begins);
            holds = λ file begins reads.
                (let both = more.holds file (rw tail at begins) in
                let on = read_step f f' _ file c.read_at.new.buf c.in-Ok.count (both.1 reads) is_open c.loop-cursor.invariant.spent both.0 some same c.advance.ensures.given c.advance.ensures.passed c.advance.ensures.place c.advance.ensures.tail (rw whole at c.advance.ensures.pending) in
                let moved = move_step f' f'' _ (scan_of (widths_of f') f''.numbers.items c.meet-met.result.0) file (subst (λ (s : Scan). IsReadBy f' s file) (sym scan) on) c.meet-met.ensures.file c.meet-met.ensures.bytes (λ more. rw c.in_default.is at (c.meet-met.ensures.first more)) in
                subst (λ (ws : List ℕ). IsReadBy f'' (scan_of ws f''.numbers.items c.meet-met.result.0) file) widths moved);
          };
      file = record {
        name = c.meet-met.ensures.file.name ∙ c.advance.ensures.file.name ∙ c.loop-cursor.invariant.file.name;
        widths = c.meet-met.ensures.file.widths ∙ widths;
        limit = c.meet-met.ensures.file.limit ∙ c.advance.ensures.file.limit ∙ c.loop-cursor.invariant.file.limit;
        most = c.meet-met.ensures.file.most ∙ c.advance.ensures.file.most ∙ c.loop-cursor.invariant.file.most;
      };
      given = c.meet-met.ensures.bytes.given ∙ c.advance.ensures.given ∙ c.loop-cursor.invariant.given;
      room = subst (λ (ws : List ℕ). c.meet-met.result.0.done + begun c.meet-met.result.0.phase ≤ length ws) widths c.meet-met.ensures.room;
      into = c.loop-cursor.invariant.into;
      spent = rw c.in_default.is at c.meet-met.ensures.all;
      missing = λ missing. absurd (false≢true (c.in-Ok.ensures.missing (rw (← named, ← c.loop-cursor.invariant.same) at missing)).0);
      steady = c.in-Ok.ensures.steady ∙ c.loop-cursor.invariant.steady;
      later = omega (arith, c.loop-cursor.invariant.later, c.read_at.ensures.later);
      same = c.read_at.ensures.same ∙ c.loop-cursor.invariant.same;
      reached = λ known.
          rw named at c.in-Ok.ensures.reached
          ∙ ap (λ (r : Option ℕ). raised r f.place c.in-Ok.count) (c.loop-cursor.invariant.reached known)
          ∙ (raised-here f.place c.in-Ok.count ∙ ap Some (sym (c.meet-met.ensures.bytes.place ∙ c.advance.ensures.place)));
      others = λ q other. c.read_at.ensures.others q (rw named other) ∙ c.loop-cursor.invariant.others q other;
    }

pub returns-clause-seen : goal.returns-clause-seen
returns-clause-seen g c = λ bytes seen.
    let f = c.loop-cursor.self in
    let on = c.loop-cursor.invariant.seen bytes seen in
    let tail = c.finish.ensures.tail in
    record {
      bytes = on.bytes;
      seen = seen_same (g.S.Shelf.view c.args.shelf.now).told on.bytes f _ on.seen c.finish.ensures.file.name c.finish.ensures.place tail;
      began = λ file begins. on.began file (rw tail at begins);
      holds = λ file begins reads.
          (let read = subst (λ (ws : List ℕ). IsReadBy f (scan_of ws f.numbers.items c.loop-cursor.cursor) file) (sym c.loop-cursor.invariant.file.widths) (on.holds file (rw tail at begins) reads) in
          rw c.loop-cursor.invariant.given at (c.finish.ensures.told file read));
    }

pub loop-cursor-smaller : goal.loop-cursor-smaller
loop-cursor-smaller g c = grind (arith, common_steps)
