use Rattle.std.proofs.Common.{◌≡◌, ◌+◌, ◌-◌, ◌∷◌, [], List, ℕ, nat_lt, take, drop, get_or, ap, sym, ◌∙◌, subst, arith}
use Rattle.pr_base.specs.Numbers.{slices_of, number_of}
use Rattle.pr_base.specs.Rows.{row_numbers, row_line}
use Rattle.pr_samples.specs.Results.{rest_line, IsPut}
use Rattle.pr_samples.proofs.ResultLemmas.{put_text, put_all, put_front, rest_line-cons, rest_line-end, row_numbers-next, begun_after, on_ok, on_err}
use Rattle.std.proofs.lemmas.List.{drop_all}
use Rattle.std.proofs.lemmas.List.Sums.{sum_by-drop_more}
use Rattle.pr_samples.proofs.results.put_line.Goals as goal

pub loop-i-preserved : goal.loop-i-preserved
loop-i-preserved g c =
    let i = c.loop-i.i in
    let at = c.loop-i.at in
    let w = get_or c.args.widths.now i 0 in
    let put = c.in_default.ensures.put (g.K.Sink.view c.args.sink.now).told _ _ c.loop-i.invariant.put in
    let count : at + c.slices.result - at ≡ slices_of w = omega (arith, c.slices.ensures) in
    let n : number_of (take (slices_of w) (drop at c.args.bytes.now)) ≡ c.number.result = ap (λ k. number_of (take k (drop at c.args.bytes.now))) (sym count) ∙ sym c.number.ensures in
    let after = row_numbers (drop (i + 1) c.args.widths.now) (drop (at + slices_of w) c.args.bytes.now) in
    let next = row_numbers-next c.args.widths.now c.args.bytes.now i at c.loop-i-test.true ∙ ap (λ m. m ∷ after) n in
    let split = ap (rest_line (nat_lt 0 i)) next ∙ rest_line-cons (nat_lt 0 i) c.number.result after in
    let line = row_line (row_numbers c.args.widths.now c.args.bytes.now) in
    let more = put_text (g.K.Sink.view c.args.sink.now).told (g.K.Sink.view c.make_room.new.sink).told _ _ _ line (subst (λ (rest : List ℕ). IsPut (g.K.Sink.view c.args.sink.now).told (g.K.Sink.view c.make_room.new.sink).told c.make_room.new.text.bytes rest line) split put) in
    record {
      put = rw (c.slices.ensures, c.put_number.ensures.bytes, begun_after i) more;
      left = omega (arith, c.slices.ensures, c.loop-i.invariant.left, sum_by-drop_more slices_of c.args.widths.now i 0 c.loop-i-test.true);
      room = omega (arith, c.put_number.ensures.len, c.in_default.ensures.room);
      later = omega (arith, c.loop-i.invariant.later, c.make_room.ensures.later);
    }

pub returns-in-Err-clause-front : goal.returns-in-Err-clause-front
returns-in-Err-clause-front g c = c.in-Err.ensures.front (g.K.Sink.view c.args.sink.now).told _ _ c.loop-i.invariant.put

pub returns-clause-all : goal.returns-clause-all
returns-clause-all g c =
    let none : drop c.loop-i.i c.args.widths.now ≡ [] = drop_all c.loop-i.i c.args.widths.now (omega arith) in
    let line = row_line (row_numbers c.args.widths.now c.args.bytes.now) in
    let rest : rest_line (nat_lt 0 c.loop-i.i) (row_numbers (drop c.loop-i.i c.args.widths.now) (drop c.loop-i.at c.args.bytes.now)) ≡ 10 ∷ [] =
    ap (λ ws. rest_line (nat_lt 0 c.loop-i.i) (row_numbers ws (drop c.loop-i.at c.args.bytes.now))) none ∙ rest_line-end (nat_lt 0 c.loop-i.i) in
    let before = subst (λ (r : List ℕ). IsPut (g.K.Sink.view c.args.sink.now).told (g.K.Sink.view c.loop-i.sink).told c.loop-i.text.bytes r line) rest c.loop-i.invariant.put in
    let put = rw (← c.push_str.ensures.bytes) at (put_text (g.K.Sink.view c.args.sink.now).told (g.K.Sink.view c.loop-i.sink).told _ (10 ∷ []) [] line before) in
    on_ok c.write_all.result _ _ (λ more. put_all _ _ _ _ _ put (rw (c.as_bytes.ensures.value, c.as_str.ensures.value) at more)) c.write_all.ensures.all

pub returns-clause-front : goal.returns-clause-front
returns-clause-front g c =
    let none : drop c.loop-i.i c.args.widths.now ≡ [] = drop_all c.loop-i.i c.args.widths.now (omega arith) in
    let line = row_line (row_numbers c.args.widths.now c.args.bytes.now) in
    let rest : rest_line (nat_lt 0 c.loop-i.i) (row_numbers (drop c.loop-i.i c.args.widths.now) (drop c.loop-i.at c.args.bytes.now)) ≡ 10 ∷ [] =
    ap (λ ws. rest_line (nat_lt 0 c.loop-i.i) (row_numbers ws (drop c.loop-i.at c.args.bytes.now))) none ∙ rest_line-end (nat_lt 0 c.loop-i.i) in
    let before = subst (λ (r : List ℕ). IsPut (g.K.Sink.view c.args.sink.now).told (g.K.Sink.view c.loop-i.sink).told c.loop-i.text.bytes r line) rest c.loop-i.invariant.put in
    let put = rw (← c.push_str.ensures.bytes) at (put_text (g.K.Sink.view c.args.sink.now).told (g.K.Sink.view c.loop-i.sink).told _ (10 ∷ []) [] line before) in
    on_err c.write_all.result _ _ (λ front. put_front _ _ _ _ _ _ put (rw (c.as_bytes.ensures.value, c.as_str.ensures.value) at front)) c.write_all.ensures.front
