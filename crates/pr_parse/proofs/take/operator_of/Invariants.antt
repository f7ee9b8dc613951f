use Rattle.std.proofs.Common.{◌≡◌, drop, map}
use Rattle.pr_lang.specs.Word.{among}
use Rattle.pr_lang.specs.Shape.{sign_of}
use Rattle.pr_parse.proofs.take.operator_of.Given as goal

abbrev pub invariant-loop-op : goal.invariant-loop-op
invariant-loop-op l = among l.tag (map sign_of (drop l.op-index l.ops)) ≡ among l.tag (map sign_of l.ops)
