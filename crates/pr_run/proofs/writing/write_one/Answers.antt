use Rattle.std.proofs.Common.{◌≡◌, map, ap, ◌∙◌}
use Rattle.std.proofs.lemmas.Bool.{and_parts}
use Rattle.pr_machine_account.specs.Replies.{taken_now}
use Rattle.pr_conf.specs.Shape.{output_shape}
use Rattle.pr_conf.specs.Through.{steps_of, tapped, output_widths}
use Rattle.pr_machine.specs.Stands.{account_of}
use Rattle.pr_run.specs.Setting.{stages_of}
use Rattle.pr_run.proofs.Bytes.{lawful_widths}
use Rattle.pr_samples.proofs.ResultLemmas.{on_ok, on_err}
use Rattle.pr_run.proofs.Lines.{done_take, begun_take, taken_bytes}
use Rattle.pr_run.proofs.writing.write_one.Goals as goal

pub put_result-requires-clause-widths : goal.put_result-requires-clause-widths
put_result-requires-clause-widths g c =
    let conf = c.args.machine.now.parts.conf in
    let lawful = lawful_widths g.row.N g.row.P (map output_shape conf.outputs.items) (and_parts _ _ conf.lawful_outputs).1 in
    rw c.requires.widths lawful

pub returns-clause-done : goal.returns-clause-done
returns-clause-done g c = λ s h done.
    let stands = c.take.ensures.stands s.conf s.stripes h done.stands in
    let bytes = c.take.new.into in
    let widths : c.args.widths.now ≡ output_widths s.conf = c.requires.widths ∙ ap output_widths done.stands.conf in
    let reply = rw c.unwrap.ensures at (c.take.ensures.reply s.conf s.stripes h done.stands) in
    let taken = taken_bytes (taken_now (steps_of g.row.N g.row.P s.conf) (stages_of s) (tapped g.row.N s.conf) (account_of s.conf s.stripes h)) bytes reply in
    on_ok c.put_result.result _ _ (λ line. done_take s c.args.machine.now c.take.new.self _ _ h bytes done stands taken (rw widths at line)) c.put_result.ensures.all

pub returns-clause-begun : goal.returns-clause-begun
returns-clause-begun g c = λ s h done.
    let stands = c.take.ensures.stands s.conf s.stripes h done.stands in
    let bytes = c.take.new.into in
    let widths : c.args.widths.now ≡ output_widths s.conf = c.requires.widths ∙ ap output_widths done.stands.conf in
    let reply = rw c.unwrap.ensures at (c.take.ensures.reply s.conf s.stripes h done.stands) in
    let taken = taken_bytes (taken_now (steps_of g.row.N g.row.P s.conf) (stages_of s) (tapped g.row.N s.conf) (account_of s.conf s.stripes h)) bytes reply in
    on_err c.put_result.result _ _ (λ line. begun_take s c.args.machine.now c.take.new.self _ _ h bytes done stands taken (rw widths at line)) c.put_result.ensures.front
