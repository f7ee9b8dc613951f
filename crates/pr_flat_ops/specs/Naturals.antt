-- The natural form of operands.
use Rattle.std.specs.Prelude.{◌≡◌, true, false, Option, List, MatchOption}
use Rattle.pr_flat.specs.declared.equations.Op.{Op}
use Rattle.pr_flat.specs.declared.forms.Form.{Form}
use Rattle.pr_flat.specs.Rows.{takes, natural_form}

-- the natural form where the operation takes the operands, and else none
abbrev pub IsNatural : Op → List Form → Option Form → Type 0
IsNatural op forms result = MatchOption result (takes op forms ≡ false) (λ f. (takes op forms ≡ true) × (f ≡ natural_form op forms))
