use Rattle.std.proofs.Common.{◌≡◌, ◌∙◌, ◌+◌, List, Option, length, map, ap}
use Rattle.std.specs.List.{range_with_len}
use Rattle.std.proofs.lemmas.List.FromFn.{length-map-range_with_len}
use Rattle.pr_lens_waste.specs.declared.lines.Tail.{Tail}
use Rattle.pr_lens_waste.specs.Lines.{lines_in}
use Rattle.pr_lens_warn.specs.Lines.{last_tail, token_tail}
use Rattle.pr_lens_warn.proofs.LineLemmas.{mapped_more}
use Rattle.pr_lens_warn.proofs.lines.token_tails.Goals as goal

pub loop-at-preserved : goal.loop-at-preserved
loop-at-preserved c =
    let source = c.args.source.now in
    let at = c.loop-at.at in
    let f = token_tail source.text.now source.tokens.now source.spans.now (lines_in c.args.lines.now) in
    let is = c.last_tail.ensures ∙ ap (λ (tail : Option Tail). last_tail source.text.now source.tokens.now source.spans.now at tail) c.in_ok-tail.ensures in
    let each : c.push.new.self.items ≡ map f (range_with_len 0 (at + 1)) = mapped_more f at c.loop-at.tails.items c.push.new.self.items c.last_tail.result c.loop-at.invariant.each c.in_ok-push.ensures.items is in
    record { count = ap (λ (tails : List (Option Tail)). length tails) each ∙ length-map-range_with_len f 0 (at + 1); each = each }
