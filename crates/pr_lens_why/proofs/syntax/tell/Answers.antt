use Rattle.std.proofs.lemmas.Result.{on_ok_weaker}
use Rattle.pr_lens_source.specs.Tokens.{kind_of}
use Rattle.pr_lens_text.proofs.PutLemmas.{four_put}
use Rattle.pr_lens_why.specs.Syntax.{help_text, listed_text, slip_at, syntax_text, whole_file_text, wrong_text}
use Rattle.pr_lens_why.proofs.syntax.tell.Goals as goal

pub returns : goal.returns
unfolding syntax_text
returns c =
    let source = c.args.source.now in
    let e = c.in_ok-expected.expected in
    on_ok_weaker c.put-2.result (λ h. record {
      expected = e;
      is = c.in_ok-expected.ensures;
      message = four_put c.args.message.now.items (wrong_text source.text.now source.tokens.now c.args.token) (listed_text e) (help_text (slip_at source.text.now source.tokens.now e c.args.token) e (kind_of source.tokens.now c.args.token)) (whole_file_text source.text.now c.args.token)
          c.in_ok-put_wrong.ensures c.in_ok-put_expected.ensures (rw (c.help_text.ensures, c.slip_at-slip.ensures, c.kind.ensures) at c.in_ok-put.ensures) (rw c.whole_file_text.ensures at h);
    }) c.put-2.ensures
