use Rattle.std.proofs.Common.{◌≡◌, ◌-◌, ◌∷◌, [], take, drop, arith, rules, take_all, length-drop, ◌∙◌}
use Rattle.std.proofs.lemmas.Fmt.{length-decimal-le}
use Rattle.pr_base.specs.Rows.{row_line}
use Rattle.pr_samples.proofs.results.put_short.Goals as goal

pub write_digits-start-requires : goal.write_digits-start-requires
write_digits-start-requires g c = (omega (arith, length-decimal-le 20 c.args.n (omega arith) (omega arith) c.ranges.n.fits), search rules)

pub returns-clause-all : goal.returns-clause-all
returns-clause-all g c =
    let w = c.write_digits-start in
    let line : take (21 - w.result) (drop w.result w.new.buf) ≡ row_line (c.args.n ∷ []) = take_all (21 - w.result) (drop w.result w.new.buf) (omega (arith, length-drop w.result w.new.buf)) ∙ w.ensures.written in
    rw line at c.write_all.ensures.all

pub returns-clause-front : goal.returns-clause-front
returns-clause-front g c =
    let w = c.write_digits-start in
    let line : take (21 - w.result) (drop w.result w.new.buf) ≡ row_line (c.args.n ∷ []) = take_all (21 - w.result) (drop w.result w.new.buf) (omega (arith, length-drop w.result w.new.buf)) ∙ w.ensures.written in
    rw line at c.write_all.ensures.front
