use Rattle.std.proofs.Common.{Some, arith, length, sym, ◌∙◌, ap}
use Rattle.std.proofs.lemmas.Option.{slice_get_read}
use Rattle.std.proofs.lemmas.Bool.{ltb-true}
use Rattle.pr_flat.specs.Facts.{arity}
use Rattle.pr_width.specs.Reads.{is_within}
use Rattle.pr_narrow.proofs.BodyLemmas.{one_within}
use Rattle.pr_narrow.proofs.cutting.new_width.Goals as goal

pub delayed_width-requires : goal.delayed_width-requires
delayed_width-requires c =
    let args = c.args.equation.now.args in
    let one = ap arity c.in-Delay.is in
    let there = slice_get_read args.items (length args.items) 0 c.index.result.now (omega arith) (omega (arith, args.ok.0, c.requires.args, one)) c.index.ensures in
    record {
      demand = λ rec k same. ltb-true rec (length c.args.demand.now) (ap (is_within (length c.args.demand.now)) (sym same) ∙ one_within (length c.args.demand.now) 0 args.items c.index.result.now c.requires.demand there);
      news = λ i same. c.requires.news i (there ∙ ap Some same);
    }
