use Rattle.std.proofs.Common.{◌≡◌, ℕ, ◌<◌, List, [], length, drop, map, ap, ◌∙◌, subst, arith}
use Rattle.std.proofs.lemmas.List.{get_or_default, take_at}
use Rattle.pr_conf.specs.declared.stages.Stage.{Stage}
use Rattle.pr_conf.specs.Configuration.{pes_of}
use Rattle.pr_net.specs.Shape.{cells_of}
use Rattle.pr_net.specs.Whole.{shape_of as net_shape}
use Rattle.pr_place.specs.Placements.{shape_of}
use Rattle.pr_route.specs.Written.{element}
use Rattle.pr_route.proofs.Written.{seated, so_far, none_written, writable_here, written_here, idle_here, stages_here}
use Rattle.pr_route.proofs.routing.stages.Goals as goal

pub loop-unit-init : goal.loop-unit-init
loop-unit-init g c =
    let e = c.in_ok-stages.ensures in
    record {
      size = idle_here c.in_ok-stages.stages.items c.args.placement.now.stages e;
      elements = λ s k. ap (λ grid. element grid s k) e ∙ none_written g.row.N c.args.placement.now.stages s k (net_shape c.args.net.now) (shape_of c.args.placement.now);
    }

pub put_unit-requires : goal.put_unit-requires
put_unit-requires g c =
    let net = net_shape c.args.net.now in
    let pl = shape_of c.args.placement.now in
    let seats = seated g.row.N g.row.P net pl c.requires.net c.requires.registers c.requires.columns c.requires.placed in
    let long : length c.deref_mut.result.now ≡ pl.stages = omega (arith, c.loop-unit.invariant.size, ap length c.deref_mut.ensures.value) in
    let here : c.loop-unit.unit < length net.units = omega arith in
    let cells : c.deref.result.now ≡ cells_of net c.loop-unit.unit = cc (get_or_default net.units c.loop-unit.unit c.index.result.now [] here) in
    (omega arith, writable_here g.row.N g.row.P net pl seats c.loop-unit.unit (length c.deref_mut.result.now) c.deref.result.now here long cells)

pub loop-unit-preserved : goal.loop-unit-preserved
loop-unit-preserved g c =
    let net = net_shape c.args.net.now in
    let pl = shape_of c.args.placement.now in
    let seats = seated g.row.N g.row.P net pl c.requires.net c.requires.registers c.requires.columns c.requires.placed in
    let here : c.loop-unit.unit < length net.units = omega arith in
    let cells : c.deref.result.now ≡ cells_of net c.loop-unit.unit = cc (get_or_default net.units c.loop-unit.unit c.index.result.now [] here) in
    let size : length c.put_unit.new.stages ≡ c.loop-unit.stages.len = omega (arith, ap length c.deref_mut.ensures.value) in
    let whole = take_at c.put_unit.new.stages (drop (length c.put_unit.new.stages) c.loop-unit.stages.items) c.loop-unit.stages.len size in
    record {
      size = ap length whole ∙ omega (arith, size, c.loop-unit.invariant.size);
      elements = λ s k. ap (λ (xs : List (Stage g.row.N)). element (map pes_of xs) s k) whole
          ∙ written_here g.row.N g.row.P net pl seats c.loop-unit.unit s k c.deref.result.now (element (map pes_of c.deref_mut.result.now) s k) (element (map pes_of c.put_unit.new.stages) s k) here cells
          (ap (λ (xs : List (Stage g.row.N)). element (map pes_of xs) s k) c.deref_mut.ensures.value ∙ c.loop-unit.invariant.elements s k) (c.put_unit.ensures s k);
    }

pub returns : goal.returns
returns g c =
    let net = net_shape c.args.net.now in
    let pl = shape_of c.args.placement.now in
    let last : c.loop-unit.unit ≡ length net.units = omega arith in
    stages_here net pl c.loop-unit.stages.items c.loop-unit.invariant.size (λ s k. subst (λ (n : ℕ). element (map pes_of c.loop-unit.stages.items) s k ≡ so_far net pl n s k) last (c.loop-unit.invariant.elements s k))
