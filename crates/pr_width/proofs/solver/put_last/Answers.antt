use Rattle.std.proofs.Common.{◌≡◌, ℕ, length, vec_len, arith, subst, sym}
use Rattle.std.proofs.lemmas.List.{length-map}
use Rattle.pr_flat.specs.Shape.{equation_shape, shapes_of}
use Rattle.pr_width.specs.Parts.{AreClosed}
use Rattle.pr_width.proofs.SolverLemmas.{without_last}
use Rattle.pr_width.proofs.solver.put_last.Goals as goal

pub returns-then-reached-count-clause-without : goal.returns-then-reached-count-clause-without
returns-then-reached-count-clause-without c =
    let count : length (shapes_of c.args.flat.now.equations.items) ≡ vec_len c.args.flat.now.equations = omega (arith, length-map c.args.flat.now.equations.items equation_shape, c.args.flat.now.equations.ok.0) in
    let P : ℕ → Type 0 = λ n. AreClosed (shapes_of c.args.flat.now.equations.items) c.args.from n in
    (without_last (shapes_of c.args.flat.now.equations.items) c.fill-reached.new.widths c.args.from c.fill-reached.result (subst P (sym count) c.requires.closed) c.fill-reached.ensures.low (omega arith) c.fill-reached.ensures.below (λ e there. c.fill-reached.ensures.stops e (omega arith) there), omega arith)
