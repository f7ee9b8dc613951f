use Rattle.std.proofs.Common.{◌≡◌, ◌∙◌, sym, subst, None}
use Rattle.std.proofs.lemmas.Result.{IfOk-from_err, err_from_is_err_and}
use Rattle.pr_conf.specs.Configuration.{shape_of}
use Rattle.pr_code.specs.Reading.{words_of_bytes}
use Rattle.pr_code.specs.Marks.{IsMark, bad_mark, count_of}
use Rattle.pr_code.proofs.BreakLemmas.{part_refused}
use Rattle.pr_code.proofs.MarkLemmas.{mark_sound, marked_shape, count_refused, rest_of_mark}
use Rattle.pr_code.proofs.decoding.read_mark.Goals as goal

pub returns-in_err-count-clause-reads : goal.returns-in_err-count-clause-reads
returns-in_err-count-clause-reads g c =
    let p = err_from_is_err_and c.from_residual.result c.from_residual.ensures.1 in
    part_refused c.from_residual.result _ _ _ _ _ p c.in_err-count.ensures (count_refused g.row.N g.row.P c.args.bytes.now)

pub returns-in_err-conf-clause-reads : goal.returns-in_err-conf-clause-reads
returns-in_err-conf-clause-reads g c =
    let p = err_from_is_err_and c.from_residual-in_err-conf.result c.from_residual-in_err-conf.ensures.1 in
    part_refused c.from_residual-in_err-conf.result _ _ _ _ _ p c.in_err-conf.ensures (λ x b. rest_of_mark g.row.N g.row.P c.args.bytes.now c.in_ok-count.ensures.0 ∙ b)

pub returns-clause-reads : goal.returns-clause-reads
returns-clause-reads g c =
    let none : bad_mark g.row.N g.row.P c.args.bytes.now ≡ None = rest_of_mark g.row.N g.row.P c.args.bytes.now c.in_ok-count.ensures.0 ∙ c.in_ok-conf.ensures.0 in
    let mark = mark_sound g.row.N g.row.P c.args.bytes.now c.requires.columns c.requires.most_columns c.requires.registers c.requires.most_registers (λ i. (c.type_inv.bytes i).fits) none in
    (none, subst (λ n. IsMark g.row.N g.row.P n (shape_of c.in_ok-conf.conf) c.args.bytes.now) (sym c.in_ok-count.ensures.1) (subst (λ s. IsMark g.row.N g.row.P (count_of (words_of_bytes c.args.bytes.now)) s c.args.bytes.now) (sym c.in_ok-conf.ensures.1) mark))

pub returns-clause-shape : goal.returns-clause-shape
returns-clause-shape g c = c.in_ok-conf.ensures.1 ∙ marked_shape g.row.N c.args.bytes.now

pub returns-in_err-count-clause-count : goal.returns-in_err-count-clause-count
returns-in_err-count-clause-count g c = IfOk-from_err _ _ c.from_residual.ensures.0

pub returns-in_err-count-clause-shape : goal.returns-in_err-count-clause-shape
returns-in_err-count-clause-shape g c = IfOk-from_err _ _ c.from_residual.ensures.0

pub returns-in_err-conf-clause-count : goal.returns-in_err-conf-clause-count
returns-in_err-conf-clause-count g c = IfOk-from_err _ _ c.from_residual-in_err-conf.ensures.0

pub returns-in_err-conf-clause-shape : goal.returns-in_err-conf-clause-shape
returns-in_err-conf-clause-shape g c = IfOk-from_err _ _ c.from_residual-in_err-conf.ensures.0
