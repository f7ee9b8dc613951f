use Rattle.std.proofs.Common.{◌≡◌, ◌∙◌, ℕ, List, length, vec_len, eqb-true, sym, subst, arith}
use Rattle.std.proofs.lemmas.Result.{IfOk-from_err}
use Rattle.pr_net.specs.Whole.{shape_of}
use Rattle.pr_place.specs.Greedy.{Seat, placed_after, stripe}
use Rattle.pr_place.specs.Opening.{Received}
use Rattle.pr_place.specs.Courses.{Fills}
use Rattle.pr_place.proofs.Advancing.{after_next}
use Rattle.pr_place.proofs.Opened.{fills_now, stripe_idle}
use Rattle.pr_place.proofs.course.advance.Goals as goal

pub fill-requires-clause-begins : goal.fill-requires-clause-begins
fill-requires-clause-begins g c =
    let course = c.args.course.now in
    fills_now g.row.N g.row.P (shape_of c.args.net.now) c.args.tables.now course.progress course.candidates.ready.items course.candidates.summary.items course.waits.items course.stages.items course.stage c.requires.tables c.requires.opens.opening

pub returns-then-is_empty-clause-stuck : goal.returns-then-is_empty-clause-stuck
returns-then-is_empty-clause-stuck g c = λ is.
    let net = shape_of c.args.net.now in
    let stage = c.args.course.now.stage in
    let h = c.requires.opens in
    let none : length c.fill.new.received.items ≡ 0 = (let e = eqb-true (vec_len c.fill.new.received) 0 (sym c.is_empty.ensures ∙ c.if-is_empty.true) in omega (arith, e)) in
    record {
      stage = stage;
      idle = after_next g.row.N g.row.P net stage ∙ stripe_idle g.row.N g.row.P net stage c.args.tables.now.class.items c.args.course.now.candidates.ready.items c.fill.new.candidates.ready.items c.fill.new.received.items (placed_after g.row.N g.row.P net stage) c.in_ok-fill.ensures.received none;
      standing = h.opening.standing;
      some_left = (let l = h.left in let some = c.requires.some in omega (arith, l, some));
    }

pub open_next-requires-clause-filled : goal.open_next-requires-clause-filled
open_next-requires-clause-filled g c =
    let net = shape_of c.args.net.now in
    let t = c.args.tables.now in
    let course = c.args.course.now in
    let h = c.requires.opens in
    let start = placed_after g.row.N g.row.P net course.stage in
    let next = sym (after_next g.row.N g.row.P net course.stage) in
    record {
      spots = c.in_ok-fill.ensures.spots ∙ h.spots;
      filled = subst (λ (ps : List Seat). Fills g.row.N g.row.P net t c.fill.new.candidates c.fill.new.progress course.stage (length c.fill.new.candidates.ready.items) ps) next c.in_ok-fill.ensures.filled;
      before = course.candidates.ready.items;
      ready = h.opening.candidates;
      received = subst (λ (ps : List Seat). Received net t.class.items course.stage start ps course.candidates.ready.items c.fill.new.candidates.ready.items c.deref.result.now) next
          (subst (λ (gs : List ℕ). Received net t.class.items course.stage start (stripe g.row.N g.row.P net course.stage start) course.candidates.ready.items c.fill.new.candidates.ready.items gs) (sym c.deref.ensures.value) c.in_ok-fill.ensures.received);
      waiting = h.opening.waiting;
      standing = h.opening.standing;
      left = h.left;
      each = h.each;
    }

pub returns-in_err-fill : goal.returns-in_err-fill
returns-in_err-fill g c = let h = c.from_residual.ensures.0 in record { opens = IfOk-from_err _ _ h; left = IfOk-from_err _ _ h; stuck = IfOk-from_err _ _ h }
