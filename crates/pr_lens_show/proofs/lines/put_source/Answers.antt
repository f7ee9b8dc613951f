use Rattle.std.proofs.Common.{◌≡◌, ◌∙◌, ℕ, ap, arith, length, max, min}
use Rattle.std.specs.Prelude.{slice_range}
use Rattle.std.proofs.lemmas.Result.{on_ok_weaker}
use Rattle.pr_lens_show.specs.Bytes.{shown}
use Rattle.pr_lens_show.proofs.Texts.{source_shown}
use Rattle.pr_lens_show.proofs.lines.put_source.Goals as goal

pub returns : goal.returns
returns c =
    let text = c.args.text.now in
    let start = c.args.start in
    let upto = c.max.ensures ∙ ap (λ (k : ℕ). max k start) c.min.ensures in
    let count : c.len.result ≡ length (shown (slice_range text start (max (min c.args.end c.shown_to-to.result) start))) = omega (arith, c.len.ensures, c.in_ok-marked.marked.ok.0, ap length c.in_ok-marked.ensures, ap (λ (k : ℕ). length (shown (slice_range text start k))) upto) in
    on_ok_weaker c.put_marks.result (λ h. source_shown text c.args.told.now.items c.put_line.new.told.items c.put_marks.new.told.items c.line_at-line.result start c.args.end c.shown_from-from.result c.shown_to-to.result c.len.result c.deref.result.now
    c.line_at-line.ensures c.shown_from-from.ensures c.shown_to-to.ensures (c.deref.ensures.value ∙ c.in_ok-before.ensures) count c.in_ok-put_line.ensures h) c.put_marks.ensures
