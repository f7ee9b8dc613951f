use Rattle.std.proofs.Common.{◌∙◌, ◌++◌, List, ℕ, codes, decimal, refl, ap}
use Rattle.std.proofs.lemmas.Result.{on_ok_weaker}
use Rattle.pr_lens_rules.specs.Rules.{parameter_text, params_text}
use Rattle.pr_lens_text.proofs.PutLemmas.{six_put}
use Rattle.pr_lens_rules.proofs.rules.tell_params.Goals as goal

pub returns : goal.returns
unfolding params_text
returns c =
    let old = c.args.message.now.items in
    let word = c.in_ok-put.ensures ∙ ap (λ (words : List ℕ). c.put_counted.new.text.items ++ words) c.parameter_text.ensures in
    on_ok_weaker c.put-2.result (λ h. six_put old (codes "It has ") (decimal c.args.params) (parameter_text c.args.params) (codes ", and this call gives ") (decimal c.args.given) (codes ".\n") refl c.in_ok-put_counted.ensures word refl c.in_ok-put_counted-2.ensures h) c.put-2.ensures
