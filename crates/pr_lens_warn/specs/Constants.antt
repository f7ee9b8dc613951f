-- What comes of constants that are one number.
use Rattle.std.specs.Prelude.{ℕ, ◌+◌, ◌-◌, ◌^◌, ◌==◌, ◌&&◌, Bool, not, List, Option, None, Some, nat_lt, if◌then◌else◌}
use Rattle.pr_lang.specs.declared.tokens.Token.{Token}
use Rattle.pr_flat.specs.Forms.{number_width}
use Rattle.pr_lens_source.specs.Kinds.{begins_sum, binds_closer, is_close_round, is_minus, is_open_round}
use Rattle.pr_lens_source.specs.Tokens.{kind_of}
use Rattle.pr_lens_rules.specs.Uses.{is_signed}
use Rattle.pr_lens_warn.specs.declared.remarks.Remark.{Remark}
use Rattle.pr_lens_warn.specs.declared.remarks.Remark.TheVariants.{Negative, Wrapping}

-- ---- `signed` of a constant
-- `signed` of one token
unfoldable pub is_signed_token : List ℕ → List Token → ℕ → Bool
is_signed_token text tokens at =
    is_signed text tokens at && (is_open_round (kind_of tokens (at + 1)) && is_close_round (kind_of tokens (at + 3)))

-- a number that is not 0 is negative in its own width, in which its highest bit is 1
unfoldable pub negative : ℕ → Option Remark
negative value = if value == 0 then None else Some (Negative value (number_width value) (2 ^ number_width value - value))

abbrev pub negative_of : Option ℕ → Option Remark
negative_of None = None
negative_of (Some value) = negative value

-- ---- a difference of constants
-- two tokens with a minus between them are a whole difference: neither is an operand of another operator before it
unfoldable pub is_difference : List Token → ℕ → Bool
is_difference tokens at =
    is_minus (kind_of tokens at) && (begins_sum (kind_of tokens (at - 2)) && not (binds_closer (kind_of tokens (at + 2))))

-- a number less another one that is greater wraps around, at the width of the greater
unfoldable pub wrapping : ℕ → ℕ → Option Remark
wrapping one other =
    if nat_lt one other then Some (Wrapping (other - one) (number_width other) (2 ^ number_width other - (other - one))) else None

abbrev pub wrapping_of : Option ℕ → Option ℕ → Option Remark
wrapping_of (Some one) (Some other) = wrapping one other
wrapping_of _ _ = None
