use Rattle.std.proofs.Common.{◌≡◌, drop}
use Rattle.pr_lens_extents.specs.Scenes.{seen_in}
use Rattle.pr_lens_extents.specs.Parameters.{stmts_sign}
use Rattle.pr_lens_extents.proofs.parameters.+stmts.Given as goal

abbrev pub invariant-stmts_sign-loop-stmt : goal.invariant-stmts_sign-loop-stmt
invariant-stmts_sign-loop-stmt l = stmts_sign (drop l.stmt-index l.stmts) l.name (seen_in l.scene) ≡ stmts_sign l.stmts l.name (seen_in l.scene)
