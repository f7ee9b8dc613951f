use Rattle.std.proofs.Common.{◌≡◌, ◌∙◌, true, rules, sym}
use Rattle.pr_expand.specs.Keys.{found_in, is_number}
use Rattle.pr_expand.proofs.KeyLemmas.{forgotten_is, found_updates}
use Rattle.pr_expand.proofs.keys.forgotten.Goals as goal

pub returns-else-not-is_there : goal.returns-else-not-is_there
returns-else-not-is_there c =
    let yes : c.is_there.result ≡ true = search rules in
    let there : is_number c.args.number (found_in c.args.delays c.in-Some.key) ≡ true = sym c.is_there.ensures ∙ yes in
    forgotten_is c.args.key c.in-Some.key c.args.number (found_in c.args.delays) (found_in c.remove-was.new.self) c.in-Some.is there (found_updates c.in-Some.key c.args.delays c.remove-was.new.self _ c.remove-was.ensures.updates)
