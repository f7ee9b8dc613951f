-- Shifts by a stream that is one number.
use Rattle.std.specs.Prelude.{ℕ, ◌+◌, ◌-◌, ◌&&◌, Bool, not, List, Option, option_map}
use Rattle.pr_lang.specs.declared.tokens.Token.{Token}
use Rattle.pr_lens_source.specs.declared.sources.Span.{Span}
use Rattle.pr_lens_source.specs.Introduced.{introduced_before}
use Rattle.pr_lens_source.specs.Kinds.{goes_on, is_name, is_shift}
use Rattle.pr_lens_source.specs.Tokens.{kind_of}
use Rattle.pr_lens_names.specs.declared.constants.Named.{Named}
use Rattle.pr_lens_names.specs.Constants.{number_by}
use Rattle.pr_lens_warn.specs.declared.remarks.Remark.{Remark}
use Rattle.pr_lens_warn.specs.declared.remarks.Remark.TheVariants.{Amount}

-- a name that a shift has for its amount
unfoldable pub is_amount : List Token → ℕ → Bool
is_amount tokens at =
    is_shift (kind_of tokens (at - 1)) && (is_name (kind_of tokens at) && not (goes_on (kind_of tokens (at + 1))))

-- the amount is a name of a stream that is one number
abbrev pub amount_remark : List ℕ → List Token → List Span → ℕ → Option Remark
amount_remark text tokens spans at = option_map Amount (number_by Named.Stream tokens (introduced_before text tokens spans at))
