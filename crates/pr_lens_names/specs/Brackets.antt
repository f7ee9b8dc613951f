-- Brackets of a text, and what stands in them.
use Rattle.std.specs.Prelude.{ℕ, ◌+◌, ◌==◌, ◌&&◌, ◌||◌, Bool, List, Option, None, Some, length, nat_le, nat_lt, unwrap_or, if◌then◌else◌}
use Rattle.pr_lang.specs.declared.tokens.Token.{Token}
use Rattle.pr_lens_source.specs.Kinds.{is_closing, is_close_square, is_comma, is_open_square, is_opening, is_semi}
use Rattle.pr_lens_source.specs.Ranges.{count_between, first_between, last_below}
use Rattle.pr_lens_source.specs.Tokens.{kind_of}

-- ---- brackets that open from a token on
-- how many brackets the tokens from one up to another open, and how many they close
abbrev pub opened : List Token → ℕ → ℕ → ℕ
opened tokens from to = count_between (λ k. is_opening (kind_of tokens k)) from to

abbrev pub closed : List Token → ℕ → ℕ → ℕ
closed tokens from to = count_between (λ k. is_closing (kind_of tokens k)) from to

-- with this token as many are closed as are opened
unfoldable pub is_even_with : List Token → ℕ → ℕ → Bool
is_even_with tokens from at = nat_le (opened tokens from (at + 1)) (closed tokens from (at + 1))

-- the token with which the brackets are closed that open with this one
abbrev pub closing_of : List Token → ℕ → Option ℕ
closing_of tokens from = first_between (is_even_with tokens from) from (length tokens)

-- a comma that stands in the brackets, and in none within them
unfoldable pub is_between_parts : List Token → ℕ → ℕ → Bool
is_between_parts tokens from at = is_comma (kind_of tokens at) && (opened tokens from (at + 1) == closed tokens from (at + 1) + 1)

-- the parts before a token
abbrev pub parts_before : List Token → ℕ → ℕ → ℕ
parts_before tokens from to = count_between (is_between_parts tokens from) from to + 1

abbrev pub parts_up_to : List Token → ℕ → Option ℕ → ℕ
parts_up_to tokens from (Some close) = if nat_le close (from + 1) then 0 else parts_before tokens from close
parts_up_to tokens from None = parts_before tokens from (length tokens)

-- how many parts stand in the brackets that open with a token
unfoldable pub parts_in : List Token → ℕ → ℕ
parts_in tokens from = parts_up_to tokens from (closing_of tokens from)

-- ---- an index
-- the last token of a name and of the index behind it, where there is one
unfoldable pub last_of : List Token → ℕ → ℕ
last_of tokens name = if is_open_square (kind_of tokens (name + 1)) then unwrap_or (closing_of tokens (name + 1)) name else name

-- from a token on more square brackets are opened than closed before another one
abbrev pub is_open_from : List Token → ℕ → ℕ → Bool
is_open_from tokens token from =
    nat_lt (count_between (λ k. is_close_square (kind_of tokens k)) from token) (count_between (λ k. is_open_square (kind_of tokens k)) from token)

-- a square bracket that is open still at another token opens here, or a statement ends
unfoldable pub is_around : List Token → ℕ → ℕ → Bool
is_around tokens token at = is_semi (kind_of tokens at) || is_open_from tokens token at

abbrev pub square_at : List Token → Option ℕ → Option ℕ
square_at tokens None = None
square_at tokens (Some at) = if is_semi (kind_of tokens at) then None else Some at

-- the square bracket in which a token stands: the last of its statement that is not closed before it
unfoldable pub square_around : List Token → ℕ → Option ℕ
square_around tokens token = square_at tokens (last_below (is_around tokens token) token)
