use Rattle.std.proofs.Common.{◌≡◌, true, false}
use Rattle.pr_cut_units.specs.Groups.{is_among}
use Rattle.pr_lens_graph.proofs.ReadLaws.{known_noted, new_noted}
use Rattle.pr_lens_graph.proofs.wires.note.Goals as goal

pub returns-then-contains : goal.returns-then-contains
returns-then-contains c = λ seen is.
    let among : is_among c.args.number c.args.all.now.items ≡ true = cc in
    known_noted c.args.all.now.items seen c.args.number is among

pub returns : goal.returns
returns c = λ seen is.
    let new : is_among c.args.number c.args.all.now.items ≡ false = cc in
    new_noted c.args.all.now.items seen c.args.number is c.push.new.self.items new c.in_ok-push.ensures.items
