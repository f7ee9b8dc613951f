use Rattle.std.proofs.Common.{ℕ, ◌%◌, ◌^◌, ap, ◌∙◌}
use Rattle.pr_net.specs.Reading.{shown}
use Rattle.pr_cut_laws.proofs.Varies.{shifted_shows}
use Rattle.pr_cut_laws.proofs.RowsLaws.{earlier_operands, shifted_is}
use Rattle.pr_cut_laws.proofs.laws.shift_law.Goals as goal

pub returns : goal.returns
returns c = λ left r u wa wby a by some few bytes ka kb la lb has. shifted_shows left r u wa wby by a some few bytes (earlier_operands u by kb) (earlier_operands u a ka) la lb has ∙ ap (λ (n : ℕ). n % 2 ^ wa) (shifted_is left (shown r a) (shown r by))
