-- Products of two names, delayed names or numbers, and the widths of streams, as they stand in a text.
use Rattle.std.specs.Prelude.{ℕ, ◌+◌, ◌-◌, ◌&&◌, ◌||◌, Bool, not, List, Option, None, Some, nat_le, if◌then◌else◌}
use Rattle.pr_lang.specs.declared.tokens.Kind.{Kind}
use Rattle.pr_lang.specs.declared.tokens.Kind.TheVariants.{Number}
use Rattle.pr_lang.specs.declared.tokens.Token.{Token}
use Rattle.pr_lens_source.specs.declared.sources.Span.{Span}
use Rattle.pr_lens_source.specs.Introduced.{introduced_before}
use Rattle.pr_lens_source.specs.Kinds.{is_assign, is_at, is_colon, is_fn, is_semi, is_star}
use Rattle.pr_lens_source.specs.Spans.{item_of}
use Rattle.pr_lens_source.specs.Tokens.{first_of, kind_of}
use Rattle.pr_lens_products.specs.Kinds.{goes_further, is_bare, is_held, joins, opens, shuts}

-- ---- factors: `x@1 * 5` has the tokens `x`, `@`, `1`, `*` and `5`
-- the first token of the factor before the sign of a product
abbrev pub left_of : List Token → ℕ → ℕ
left_of tokens at = if is_at (kind_of tokens (at - 2)) then at - 3 else at - 1

-- the last token of the factor behind it
abbrev pub right_of : List Token → ℕ → ℕ
right_of tokens at = if is_at (kind_of tokens (at + 2)) then at + 3 else at + 1

-- ---- where a product has the width of both factors: it is an operand, an argument, or all of what a bare name is
-- behind an operator or a comma
abbrev pub is_operand : Kind → Kind → Bool
is_operand before behind = joins before && (goes_further behind || shuts behind)

-- at the beginning of a longer expression
abbrev pub is_first : Kind → Kind → Bool
is_first before behind = opens before && goes_further behind

-- all of what a name is
abbrev pub is_all : Kind → Kind → Kind → Bool
is_all name before behind = is_bare name && (is_assign before && is_semi behind)

abbrev pub is_between : Kind → Kind → Kind → Bool
is_between name before behind = is_operand before behind || (is_first before behind || is_all name before behind)

-- a token stands outside of all functions
abbrev pub is_in_no_function : List Token → List Span → ℕ → Bool
is_in_no_function tokens spans at = not (is_fn (kind_of tokens (first_of tokens spans (item_of spans at))))

-- the sign of such a product
unfoldable pub is_product : List Token → List Span → ℕ → Bool
is_product tokens spans at =
    let left = left_of tokens at in
    let behind = kind_of tokens (right_of tokens at + 1) in
    is_star (kind_of tokens at)
    && (is_in_no_function tokens spans at && is_between (kind_of tokens (left - 2)) (kind_of tokens (left - 1)) behind)

-- ---- widths
abbrev pub width_in : Kind → Option ℕ
width_in (Number width) = if nat_le width 128 then Some width else None
width_in _ = None

-- the declared width of an input or a recurrence that is introduced here; both are unsigned
unfoldable pub width_named : List Token → ℕ → Option ℕ
width_named tokens name =
    if is_held (kind_of tokens (name - 1)) && is_colon (kind_of tokens (name + 1)) then width_in (kind_of tokens (name + 2)) else None

abbrev pub width_by : List Token → Option ℕ → Option ℕ
width_by tokens None = None
width_by tokens (Some name) = width_named tokens name

-- that of the stream of a token
abbrev pub width_at : List ℕ → List Token → List Span → ℕ → Option ℕ
width_at text tokens spans at = width_by tokens (introduced_before text tokens spans at)
