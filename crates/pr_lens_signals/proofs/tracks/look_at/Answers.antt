use Rattle.std.proofs.Common.{◌≡◌, ◌+◌, ◌-◌, ℕ, get_or, ap, ◌∙◌, arith}
use Rattle.pr_lens_signals.specs.Reading.{all_widths, front_of}
use Rattle.pr_lens_signals.proofs.TrackLemmas.{look-is}
use Rattle.pr_lens_signals.proofs.tracks.look_at.Goals as goal

pub returns : goal.returns
returns c = λ d.
    let s = c.args.showing.now in
    let place = c.args.place in
    let front : c.len.result - c.len-2.result + place ≡ front_of s + place = omega (arith, c.len.ensures, c.len-2.ensures) in
    look-is s place c.index-signed.result.now c.index-signed.result.now c.width_at-width.result 0 d c.requires.ready (omega (arith, c.requires.within, s.probed.instances.ok.0)) c.index-signed.ensures (c.width_at-width.ensures ∙ ap (λ (k : ℕ). get_or (all_widths s) k 0) front)
