use Rattle.std.proofs.Common.{◌≡◌, length, true, ap, sym, subst, ◌∙◌, arith}
use Rattle.std.proofs.lemmas.List.{get_or-map}
use Rattle.pr_flat.specs.declared.equations.Operand.{Operand}
use Rattle.pr_flat.specs.Widths.{operand_width}
use Rattle.pr_width.specs.Reads.{is_within}
use Rattle.pr_lens_signals.proofs.TrackLemmas.{shown-within}
use Rattle.pr_lens_signals.proofs.tracks.width_at.Goals as goal

pub width_of-requires : goal.width_of-requires
width_of-requires c =
    let s = c.args.showing.now in
    subst (λ (o : Operand). is_within (length s.widths) o ≡ true) (sym c.index.ensures) (shown-within s c.args.place c.index.result.now c.requires.ready (omega (arith, c.requires.within, s.probed.flat.outputs.ok.0)))

pub returns : goal.returns
returns c =
    let s = c.args.showing.now in
    c.width_of.ensures ∙ (ap (operand_width s.widths) c.index.ensures
    ∙ sym (get_or-map (operand_width s.widths) s.probed.flat.outputs.items c.args.place c.index.result.now 0 (omega (arith, c.requires.within, s.probed.flat.outputs.ok.0))))
