use Rattle.std.proofs.Common.{◌+◌, codes}
use Rattle.std.specs.Prelude.{is_some}
use Rattle.std.proofs.lemmas.Result.{on_ok_weaker}
use Rattle.pr_lens_names.specs.Instances.{instance_text, last_number}
use Rattle.pr_lens_names.specs.Names.{introduction_of}
use Rattle.pr_lens_rules.specs.Rules.{entry_text, last_turn_text, table_text}
use Rattle.pr_lens_text.proofs.PutLemmas.{four_put}
use Rattle.pr_lens_rules.proofs.rules.wrong_entry.Goals as goal

pub returns : goal.returns
unfolding entry_text
returns c =
    let source = c.args.source.now in
    let introduced = introduction_of source.text.now source.tokens.now source.spans.now c.args.token in
    let numbered = is_some (last_number source.tokens.now (c.args.token + 2)) in
    on_ok_weaker c.put-2.result (λ h. four_put c.args.message.now.items (instance_text source.text.now source.tokens.now c.args.token) (codes " is none of the table's entries.\n") (table_text source.text.now source.tokens.now c.args.token introduced) (last_turn_text numbered)
    c.in_ok-put_instance.ensures c.in_ok-put.ensures (rw c.introduction_of.ensures.value at c.in_ok-tell_table.ensures) (rw (c.last_turn_text.ensures, c.is_some-numbered.ensures, c.last_number.ensures) at h)) c.put-2.ensures
