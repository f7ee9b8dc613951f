use Rattle.std.proofs.Common.{◌<◌, arith, ap, sym, ◌∙◌, map, [], length}
use Rattle.std.proofs.lemmas.List.{get_or-map, length-map}
use Rattle.pr_conf.specs.Configuration.{pes_of}
use Rattle.pr_conf.specs.Rules.{bytes_in}
use Rattle.pr_machine.proofs.Stages.{lawful_at}
use Rattle.pr_machine.proofs.places.stage_at.Goals as goal

pub returns-clause-lawful : goal.returns-clause-lawful
returns-clause-lawful g c =
    let conf = c.args.conf.now in
    let here : c.args.number < length conf.stages.items = omega (arith, c.requires, conf.stages.ok.0) in
    lawful_at g.row.N g.row.P (bytes_in conf.inputs.items) c.args.number (map (pes_of {N = g.row.N}) conf.stages.items) c.index.result.now.pes.items conf.lawful_stages (omega (arith, length-map conf.stages.items (pes_of {N = g.row.N})))
    (get_or-map (pes_of {N = g.row.N}) conf.stages.items c.args.number c.index.result.now [] here ∙ ap (pes_of {N = g.row.N}) (sym c.index.ensures))
