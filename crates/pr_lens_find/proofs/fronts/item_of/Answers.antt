use Rattle.std.proofs.Common.{◌≡◌, length, arith}
use Rattle.std.specs.Prelude.{vec_len}
use Rattle.pr_lens_find.proofs.OffenceLemmas.{item_popped}
use Rattle.pr_lens_find.proofs.fronts.item_of.Goals as goal

pub returns-in-Some : goal.returns-in-Some
returns-in-Some c =
    let source = c.args.source.now in
    let items = c.in-Some.program.items in
    let whole : vec_len items ≡ length items.items = omega (arith, items.ok.0) in
    item_popped source.text.now source.tokens.now source.spans.now c.args.item c.in-Some.program c.pop.new.self.items c.pop.result (vec_len items) (vec_len c.pop.new.self)
    (rw (c.saturating_add.ensures) at (rw c.in-Some.is at c.in_ok-front_of.ensures.read)) whole c.pop.ensures.cases c.pop.ensures.items
