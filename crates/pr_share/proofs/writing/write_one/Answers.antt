use Rattle.std.proofs.Common.{◌≡◌, map, ap, ◌∙◌}
use Rattle.std.proofs.lemmas.Bool.{and_parts}
use Rattle.pr_machine_account.specs.Replies.{taken_now}
use Rattle.pr_conf.specs.Shape.{output_shape}
use Rattle.pr_conf.specs.Through.{steps_of, tapped, output_widths}
use Rattle.pr_machine.specs.Stands.{account_of}
use Rattle.pr_run.proofs.Bytes.{lawful_widths}
use Rattle.pr_run.proofs.Lines.{taken_bytes}
use Rattle.pr_samples.proofs.ResultLemmas.{on_ok, on_err}
use Rattle.pr_share.specs.Turns.{stages_of}
use Rattle.pr_share.proofs.Shown.{shown_take, front_take, take_offered, line_is, front_is}
use Rattle.pr_share.proofs.writing.write_one.Goals as goal

pub put_line-requires-clause-widths : goal.put_line-requires-clause-widths
put_line-requires-clause-widths g c =
    let conf = c.args.machine.now.parts.conf in
    let lawful = lawful_widths g.row.N g.row.P (map output_shape conf.outputs.items) (and_parts _ _ conf.lawful_outputs).1 in
    rw c.requires.widths lawful

pub returns-clause-shown : goal.returns-clause-shown
returns-clause-shown g c = λ s h number shown.
    let stands = c.take.ensures.stands s.conf s.stripes h shown.stands in
    let bytes = c.take.new.into in
    let widths : c.args.widths.now ≡ output_widths s.conf = c.requires.widths ∙ ap output_widths shown.stands.conf in
    let reply = rw c.unwrap.ensures at (c.take.ensures.reply s.conf s.stripes h shown.stands) in
    let taken = taken_bytes (taken_now (steps_of g.row.N g.row.P s.conf) (stages_of s) (tapped g.row.N s.conf) (account_of s.conf s.stripes h)) bytes reply in
    on_ok c.put_line.result _ _ (λ line. shown_take g.row.N g.row.P s h bytes taken c.args.machine.now c.take.new.self _ _ shown stands (line_is s c.args.number c.args.widths.now bytes _ _ number widths line)) c.put_line.ensures.all

pub returns-clause-front : goal.returns-clause-front
returns-clause-front g c = λ s h number shown.
    let bytes = c.take.new.into in
    let widths : c.args.widths.now ≡ output_widths s.conf = c.requires.widths ∙ ap output_widths shown.stands.conf in
    let reply = rw c.unwrap.ensures at (c.take.ensures.reply s.conf s.stripes h shown.stands) in
    let taken = taken_bytes (taken_now (steps_of g.row.N g.row.P s.conf) (stages_of s) (tapped g.row.N s.conf) (account_of s.conf s.stripes h)) bytes reply in
    on_err c.put_line.result _ _ (λ line. front_take g.row.N g.row.P s h bytes taken c.args.machine.now _ _ shown (front_is s c.args.number c.args.widths.now bytes _ _ number widths line)) c.put_line.ensures.front

pub returns-clause-offered : goal.returns-clause-offered
returns-clause-offered g c = λ s h shown.
    let bytes = c.take.new.into in
    let reply = rw c.unwrap.ensures at (c.take.ensures.reply s.conf s.stripes h shown.stands) in
    take_offered g.row.N g.row.P s h bytes (taken_bytes (taken_now (steps_of g.row.N g.row.P s.conf) (stages_of s) (tapped g.row.N s.conf) (account_of s.conf s.stripes h)) bytes reply)
