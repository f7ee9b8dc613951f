use Rattle.std.proofs.Common.{◌≡◌, ◌∙◌, false, is_some, sym}
use Rattle.pr_expand.specs.Keys.{found_in}
use Rattle.pr_expand.proofs.KeyLemmas.{found_updates, noted_is}
use Rattle.pr_expand.proofs.keys.noted.Goals as goal

pub returns-in_ok-insert-in-Some : goal.returns-in_ok-insert-in-Some
returns-in_ok-insert-in-Some c =
    let absent : is_some (found_in c.args.delays c.in-Some.key) ≡ false = sym c.contains_key.ensures ∙ c.if-contains_key.false in
    noted_is c.args.key c.in-Some.key c.args.number (found_in c.args.delays) (found_in c.insert.new.self) c.in-Some.is absent (found_updates c.in-Some.key c.args.delays c.insert.new.self _ c.in_ok-insert-in-Some.ensures.updates)
