-- Where names are introduced, and how long they are visible.
use Rattle.std.specs.Prelude.{ℕ, ◌+◌, ◌-◌, ◌==◌, ◌&&◌, ◌||◌, Bool, false, not, List, Option, None, Some, is_some, nat_eq, nat_le, if◌then◌else◌}
use Rattle.std.specs.Cmp.Lexicographic.{pointwise}
use Rattle.pr_lang.specs.declared.tokens.Token.{Token}
use Rattle.pr_lens_source.specs.declared.sources.Span.{Span}
use Rattle.pr_lens_source.specs.Kinds.{introduces, is_close_curly, is_fn, is_for, is_name, is_of_parameters, is_open_curly, is_open_round}
use Rattle.pr_lens_source.specs.Ranges.{count_between, first_between, last_below}
use Rattle.pr_lens_source.specs.Spans.{item_of}
use Rattle.pr_lens_source.specs.Tokens.{kind_of, bytes_of, first_of}

-- ---- introductions
-- the bracket of a function's parameters opens at a token, two behind the word `fn`
abbrev pub opens_parameters : List Token → Option ℕ → Bool
opens_parameters tokens None = false
opens_parameters tokens (Some at) = is_open_round (kind_of tokens at) && is_fn (kind_of tokens (at - 2))

-- among parameters: the last token before it that can stand among none opens them
unfoldable pub is_parameter : List Token → ℕ → Bool
is_parameter tokens at = opens_parameters tokens (last_below (λ k. not (is_of_parameters (kind_of tokens k))) at)

-- a name is introduced here
unfoldable pub is_introduction : List Token → ℕ → Bool
is_introduction tokens at = introduces (kind_of tokens (at - 1)) || is_parameter tokens at

-- ---- how long
abbrev pub opened_curly : List Token → ℕ → ℕ → ℕ
opened_curly tokens from to = count_between (λ k. is_open_curly (kind_of tokens k)) from to

abbrev pub closed_curly : List Token → ℕ → ℕ → ℕ
closed_curly tokens from to = count_between (λ k. is_close_curly (kind_of tokens k)) from to

-- a block is closed here, and with it as many are closed as are opened from a token on
unfoldable pub closes_block : List Token → ℕ → ℕ → Bool
closes_block tokens from at = is_close_curly (kind_of tokens at) && nat_le (opened_curly tokens from (at + 1)) (closed_curly tokens from (at + 1))

-- the block that opens first from a token on is closed before another one
unfoldable pub is_closed : List Token → ℕ → ℕ → Bool
is_closed tokens from at = is_some (first_between (closes_block tokens from) from at)

-- the name that is introduced at a token is visible no more at another one: the index of a loop is not behind the loop, and
-- what a function introduces is not in another item
unfoldable pub is_over : List Token → List Span → ℕ → ℕ → Bool
is_over tokens spans introduced at =
    if is_fn (kind_of tokens (introduced - 1)) then false
    else (if is_for (kind_of tokens (introduced - 1)) then is_closed tokens introduced at
    else is_fn (kind_of tokens (first_of tokens spans (item_of spans introduced))) && not (item_of spans at == item_of spans introduced))

-- ---- names
unfoldable pub is_same_name : List ℕ → List Token → ℕ → ℕ → Bool
is_same_name text tokens earlier at = is_name (kind_of tokens earlier) && pointwise nat_eq (bytes_of text tokens earlier) (bytes_of text tokens at)

-- the name of a token is introduced at an earlier one, and visible still
unfoldable pub is_introduced_at : List ℕ → List Token → List Span → ℕ → ℕ → Bool
is_introduced_at text tokens spans at earlier = is_same_name text tokens earlier at && (is_introduction tokens earlier && not (is_over tokens spans earlier at))

-- the first introduction of the name of a token before it that is visible there
unfoldable pub introduced_before : List ℕ → List Token → List Span → ℕ → Option ℕ
introduced_before text tokens spans at = first_between (is_introduced_at text tokens spans at) 0 at
