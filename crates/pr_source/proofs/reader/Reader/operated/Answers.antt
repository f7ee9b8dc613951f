use Rattle.std.proofs.Common.{◌≡◌, [], ◌∷◌, length, arith}
use Rattle.pr_flat.specs.Shape.{equation_shape, shapes_of}
use Rattle.pr_flat.specs.Values.{points_in}
use Rattle.pr_source.specs.Reading.{sight_of}
use Rattle.pr_source.proofs.Points.{arity_few, arity_some, length_points, number_of_these, one_at, takes_these, three_at, two_at}
use Rattle.pr_source.proofs.reader.Reader.operated.Goals as goal

pub operate-requires-clause-takes : goal.operate-requires-clause-takes
operate-requires-clause-takes c =
    let equations = shapes_of c.args.self.now.flat.now.equations.items in
    let outputs = c.args.self.now.flat.now.outputs.items in
    let sight = sight_of c.args.self.now [] in
    let e = equation_shape c.args.equation.now in
    let count : length (points_in sight e.args e.kinds) ≡ 1 = omega (arith, length_points equations outputs sight e c.requires.ready c.requires.next) in
    takes_these equations outputs sight e (c.point-first.result ∷ []) c.requires.ready c.requires.next c.requires.operator (one_at _ c.point-first.result count (c.point-first.ensures.point []))

pub returns-then-len-eq1 : goal.returns-then-len-eq1
returns-then-len-eq1 c sample =
    let equations = shapes_of c.args.self.now.flat.now.equations.items in
    let outputs = c.args.self.now.flat.now.outputs.items in
    let sight = sight_of c.args.self.now sample in
    let e = equation_shape c.args.equation.now in
    let count : length (points_in sight e.args e.kinds) ≡ 1 = omega (arith, length_points equations outputs sight e c.requires.ready c.requires.next) in
    number_of_these sight e.op e.args e.kinds (c.point-first.result ∷ []) c.width_at-width.result.bits _ c.requires.operator (one_at _ c.point-first.result count (c.point-first.ensures.point sample)) c.width_at-width.ensures c.operate.ensures

pub returns-then-len-eq2 : goal.returns-then-len-eq2
returns-then-len-eq2 c sample =
    let equations = shapes_of c.args.self.now.flat.now.equations.items in
    let outputs = c.args.self.now.flat.now.outputs.items in
    let sight = sight_of c.args.self.now sample in
    let e = equation_shape c.args.equation.now in
    let count : length (points_in sight e.args e.kinds) ≡ 2 = omega (arith, length_points equations outputs sight e c.requires.ready c.requires.next) in
    number_of_these sight e.op e.args e.kinds (c.point-first.result ∷ c.point-second.result ∷ []) c.width_at-width.result.bits _ c.requires.operator (two_at _ c.point-first.result c.point-second.result count (c.point-first.ensures.point sample) (c.point-second.ensures.point sample)) c.width_at-width.ensures c.operate-then-len-eq2.ensures

pub operate-requires-2-clause-takes : goal.operate-requires-2-clause-takes
operate-requires-2-clause-takes c =
    let equations = shapes_of c.args.self.now.flat.now.equations.items in
    let outputs = c.args.self.now.flat.now.outputs.items in
    let sight = sight_of c.args.self.now [] in
    let e = equation_shape c.args.equation.now in
    let count : length (points_in sight e.args e.kinds) ≡ 3 = omega (arith, length_points equations outputs sight e c.requires.ready c.requires.next, arity_some e.op c.requires.operator, arity_few e.op) in
    takes_these equations outputs sight e (c.point-first.result ∷ c.point-second.result ∷ c.point-third.result ∷ []) c.requires.ready c.requires.next c.requires.operator (three_at _ c.point-first.result c.point-second.result c.point-third.result count (c.point-first.ensures.point []) (c.point-second.ensures.point []) (c.point-third.ensures.point []))

pub returns : goal.returns
returns c sample =
    let equations = shapes_of c.args.self.now.flat.now.equations.items in
    let outputs = c.args.self.now.flat.now.outputs.items in
    let sight = sight_of c.args.self.now sample in
    let e = equation_shape c.args.equation.now in
    let count : length (points_in sight e.args e.kinds) ≡ 3 = omega (arith, length_points equations outputs sight e c.requires.ready c.requires.next, arity_some e.op c.requires.operator, arity_few e.op) in
    number_of_these sight e.op e.args e.kinds (c.point-first.result ∷ c.point-second.result ∷ c.point-third.result ∷ []) c.width_at-width.result.bits _ c.requires.operator (three_at _ c.point-first.result c.point-second.result c.point-third.result count (c.point-first.ensures.point sample) (c.point-second.ensures.point sample) (c.point-third.ensures.point sample)) c.width_at-width.ensures c.operate-2.ensures
