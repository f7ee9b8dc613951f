use Rattle.std.proofs.Common.{◌≡◌, ◌&&◌, ◌∙◌, Bool, List, true, ap, ap₂, map, sym}
use Rattle.std.specs.List.{list_all}
use Rattle.std.proofs.lemmas.List.Folds.{list_all-map}
use Rattle.pr_conf.specs.declared.outputs.Output.{Output}
use Rattle.pr_conf.specs.declared.stages.Stage.{Stage}
use Rattle.pr_conf.specs.Shape.{output_shape}
use Rattle.pr_conf.specs.Configuration.{pes_of}
use Rattle.pr_code.specs.Spelling.{has_pe_bytes, has_tap_byte, have_tap_bytes}
use Rattle.pr_lens_rtl_text.proofs.bytes.see_bytes.Goals as goal

pub returns : goal.returns
returns g c =
    let conf = c.args.conf.now in
    let taps : list_all have_tap_bytes (map output_shape conf.outputs.items) ≡ true =
    list_all-map have_tap_bytes output_shape conf.outputs.items
    ∙ ap (λ (os : List Output). list_all (λ (o : Output). list_all has_tap_byte o.taps.items) os) (sym c.deref.ensures.value) ∙ c.see_outputs.ensures in
    let pes : list_all (list_all has_pe_bytes) (map pes_of conf.stages.items) ≡ true =
    list_all-map (list_all has_pe_bytes) pes_of conf.stages.items
    ∙ ap (λ (ss : List (Stage g.row.N)). list_all (λ (s : Stage g.row.N). list_all has_pe_bytes s.pes.items) ss) (sym c.deref-2.ensures.value) ∙ c.see_stages.ensures in
    ap₂ (λ (a b : Bool). a && b) taps pes
