use Rattle.std.proofs.Common.{◌≡◌, Bool, true, false, subst, sym, refl, ◌∙◌, [], ◌∷◌}
use Rattle.pr_flat.specs.Rows.{bit}
use Rattle.pr_flat_ops.specs.Wholes.{IsWrapped}
use Rattle.pr_flat_ops.proofs.TestLemmas.{wrapped_test}
use Rattle.pr_flat_ops.proofs.arithmetic.compared.Goals as goal
use mir.Val.{bool_byte}

byte_is : (t : Bool) → bit t ≡ bool_byte t
byte_is true = refl
byte_is false = refl

pub returns : goal.returns
returns c = subst (IsWrapped c.args.op (c.args.a ∷ c.args.b ∷ [])) (byte_is c.does_hold.result ∙ sym c.from.ensures) (wrapped_test c.args.op c.args.a c.args.b c.does_hold.result c.requires.comparison c.does_hold.ensures)
