use Rattle.std.proofs.Common.{◌≡◌, ◌==◌, ◌+◌, ◌-◌, ◌≤◌, ◌<◌, false, ◌++◌, length, length-drop, drop, drop-drop, get_or, ap, sym, ◌∙◌, arith}
use Rattle.std.specs.Prelude.{slice_set}
use Rattle.std.proofs.lemmas.Bool.Decides.{nat_tests}
use Rattle.std.proofs.lemmas.List.{take_rest}
use Rattle.pr_samples.specs.Fed.{Lawful}
use Rattle.pr_samples.specs.Scan.{Found, first_line, scan_of}
use Rattle.pr_samples.specs.Items.{BeginsItem}
use Rattle.pr_samples.proofs.ItemLemmas.{before_number, item_read, last_read}
use Rattle.pr_samples.proofs.items.front_line.Goals as goal

pub loop-i-preserved : goal.loop-i-preserved
loop-i-preserved c =
    let i = c.loop-i.i in
    let at = c.loop-i.at in
    let rest = drop at c.args.bytes.now in
    let n = c.in-Some.n in
    let item : BeginsItem (get_or c.args.widths.now i 0) 32 c.in-Some.count n rest = rw take_rest at c.in-Some.ensures in
    let bound : c.in-Some.count ≤ length rest = item.within in
    record {
      within = omega (arith, simp length-drop at bound);
      read = λ passed more.
          c.loop-i.invariant.read passed more
          ∙ item_read c.args.widths.now c.loop-i.numbers i n c.in-Some.count passed rest more (omega arith) (omega arith) item
          ∙ ap (λ xs. first_line c.args.widths.now (scan_of c.args.widths.now (slice_set c.loop-i.numbers i n) (before_number (i + 1))) passed (xs ++ more)) (drop-drop c.in-Some.count at c.args.bytes.now);
    }

pub returns-clause-line : goal.returns-clause-line
returns-clause-line c = λ passed more.
    let widths = c.args.widths.now in
    let numbers = c.loop-i.numbers in
    let last = length widths - 1 in
    let at = c.loop-i.at in
    let rest = drop at c.args.bytes.now in
    let none : (length widths == 0) ≡ false = sym c.is_empty.ensures ∙ c.if-is_empty.false in
    let some : 0 < length widths = grind (arith, nat_tests) in
    let end : c.loop-i.i ≡ last = omega (arith, c.loop-i-test.false, c.loop-i.auto.i-end) in
    let found = c.in-Some-front_item in
    let n = found.n in
    let item : BeginsItem (get_or widths last 0) 10 found.count n rest = rw take_rest at found.ensures in
    c.loop-i.invariant.read passed more
    ∙ ap (λ k. first_line widths (scan_of widths numbers (before_number k)) passed (rest ++ more)) end
    ∙ last_read widths numbers last n found.count passed rest more (omega arith) (omega arith) item
    ∙ ap (λ xs. Found (Lawful (slice_set numbers last n)) (passed + 1) (xs ++ more)) (drop-drop found.count at c.args.bytes.now)
