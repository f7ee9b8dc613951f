-- Names with their indices, and which instance a name is in the first turn of a loop.
use Rattle.std.specs.Prelude.{ℕ, ◌+◌, ◌-◌, ◌^◌, ◌==◌, ◌&&◌, ◌||◌, Bool, true, false, not, List, [], ◌++◌, Option, None, Some, codes, decimal, is_none, is_some, nat_eq, nat_le, nat_lt, if◌then◌else◌}
use Rattle.std.specs.List.{flat_map, range_with_len}
use Rattle.std.specs.Cmp.Lexicographic.{pointwise}
use Rattle.pr_lang.specs.declared.tokens.Keyword.TheVariants as keyword
use Rattle.pr_lang.specs.declared.tokens.Kind.{Kind}
use Rattle.pr_lang.specs.declared.tokens.Kind.TheVariants.{Number, Word, Mark}
use Rattle.pr_lang.specs.declared.tokens.Symbol.TheVariants.{CloseSquare, Dots, Plus, Minus}
use Rattle.pr_lang.specs.declared.tokens.Token.{Token}
use Rattle.pr_lens_source.specs.declared.sources.Span.{Span}
use Rattle.pr_lens_source.specs.Introduced.{introduced_before}
use Rattle.pr_lens_source.specs.Kinds.{is_assigning, is_open_square, is_semi}
use Rattle.pr_lens_source.specs.Ranges.{first_between, last_below}
use Rattle.pr_lens_source.specs.Tokens.{kind_of, bytes_of}
use Rattle.pr_lens_names.specs.declared.names.Sort.{Sort}
use Rattle.pr_lens_names.specs.declared.names.Sort.TheVariants.{Index}
use Rattle.pr_lens_names.specs.Brackets.{last_of}
use Rattle.pr_lens_names.specs.Names.{sort_at}
use Rattle.pr_lens_names.specs.Pieces.{quoted}

-- the bytes of the tokens from one up to another, that one not included
unfoldable pub tokens_text : List ℕ → List Token → ℕ → ℕ → List ℕ
tokens_text text tokens from to = flat_map (bytes_of text tokens) (range_with_len from (to - from))

-- a name with the index behind it as they are written, in quotes
unfoldable pub instance_text : List ℕ → List Token → ℕ → List ℕ
instance_text text tokens name = quoted (tokens_text text tokens name (last_of tokens name) ++ bytes_of text tokens (last_of tokens name))

-- ---- the same names
abbrev pub differs_behind : List ℕ → List Token → ℕ → ℕ → ℕ → Bool
differs_behind text tokens one other by = not (pointwise nat_eq (bytes_of text tokens (other + by)) (bytes_of text tokens (one + by)))

-- with their indices they have as many tokens, and the same
unfoldable pub is_same_instance : List ℕ → List Token → ℕ → ℕ → Bool
is_same_instance text tokens one other =
    (last_of tokens other - other == last_of tokens one - one)
    && is_none (first_between (differs_behind text tokens one other) 0 (last_of tokens one - one + 1))

-- ---- targets
abbrev pub is_target_word : Kind → Bool
is_target_word (Word keyword.Let) = true
is_target_word (Word keyword.Rec) = true
is_target_word (Word keyword.Output) = true
is_target_word _ = false

-- a word with its target behind it, or the end of a statement
abbrev pub is_about_target : List Token → ℕ → Bool
is_about_target tokens at = is_target_word (kind_of tokens at) || is_semi (kind_of tokens at)

abbrev pub target_behind : List Token → Option ℕ → Option ℕ
target_behind tokens None = None
target_behind tokens (Some at) = if is_semi (kind_of tokens at) then None else Some (at + 1)

-- the name that the statement introduces in which a token stands, behind `let`, `rec` or `output`
unfoldable pub target_around : List Token → ℕ → Option ℕ
target_around tokens token = target_behind tokens (last_below (is_about_target tokens) token)

-- a name is introduced here by `let` or `rec`
abbrev pub is_assigned_at : List Token → ℕ → Bool
is_assigned_at tokens token = is_assigning (kind_of tokens (token - 1))

-- ---- the first turn of a loop
-- a number at which an index ends
abbrev pub number_before : Kind → Kind → Option ℕ
number_before (Number number) (Mark CloseSquare) = Some number
number_before _ _ = None

unfoldable pub last_number : List Token → ℕ → Option ℕ
last_number tokens at = number_before (kind_of tokens at) (kind_of tokens (at + 1))

-- a number with which a loop begins
abbrev pub low_before : Kind → Kind → Option ℕ
low_before (Number low) (Mark Dots) = Some low
low_before _ _ = None

abbrev pub is_index : Sort → Bool
is_index Index = true
is_index _ = false

-- the first value of the index that is introduced here, where the loop begins with a number
unfoldable pub low_of : List Token → Option ℕ → Option ℕ
low_of tokens None = None
low_of tokens (Some introduced) =
    if is_index (sort_at tokens introduced) then low_before (kind_of tokens (introduced + 2)) (kind_of tokens (introduced + 3)) else None

-- of the index at a token
unfoldable pub first_index : List ℕ → List Token → List Span → ℕ → Option ℕ
first_index text tokens spans at = low_of tokens (introduced_before text tokens spans at)

-- a number more or less, where that is one of 64 bits
abbrev pub more_of : ℕ → Option ℕ → Option ℕ
more_of low None = None
more_of low (Some number) = if nat_lt (low + number) (2 ^ 64) then Some (low + number) else None

abbrev pub less_of : ℕ → Option ℕ → Option ℕ
less_of low None = None
less_of low (Some number) = if nat_le number low then Some (low - number) else None

-- behind the first value of an index: the end, or a number more or less
abbrev pub place_by : ℕ → Kind → Option ℕ → Option ℕ
place_by low (Mark CloseSquare) number = Some low
place_by low (Mark Plus) number = more_of low number
place_by low (Mark Minus) number = less_of low number
place_by low _ number = None

abbrev pub place_from : List Token → ℕ → Option ℕ → Option ℕ
place_from tokens name None = None
place_from tokens name (Some low) = place_by low (kind_of tokens (name + 3)) (last_number tokens (name + 4))

-- the value of the index behind a name in the first turn of the loop around it, where that is the loop's index alone, or a
-- number more or less
unfoldable pub first_place : List ℕ → List Token → List Span → ℕ → Option ℕ
first_place text tokens spans name =
    if is_open_square (kind_of tokens (name + 1)) then place_from tokens name (first_index text tokens spans (name + 2)) else None

-- ---- assignments
abbrev pub has_place : List Token → ℕ → ℕ → Option ℕ → Bool
has_place tokens earlier place None = is_open_square (kind_of tokens (earlier + 1))
has_place tokens earlier place (Some number) = number == place

-- the statement with this target may assign the instance of a name with this index
unfoldable pub may_assign : List ℕ → List Token → ℕ → ℕ → ℕ → Bool
may_assign text tokens name place earlier =
    is_assigned_at tokens earlier
    && (pointwise nat_eq (bytes_of text tokens earlier) (bytes_of text tokens name) && has_place tokens earlier place (last_number tokens (earlier + 2)))

abbrev pub is_target : Option ℕ → ℕ → Bool
is_target None token = false
is_target (Some target) token = target == token

-- a statement before a name, but that with this target, may do so
unfoldable pub may_be_assigned : List ℕ → List Token → ℕ → Option ℕ → ℕ → Bool
may_be_assigned text tokens name target place =
    is_some (first_between (λ earlier. not (is_target target earlier) && may_assign text tokens name place earlier) 0 name)

unfoldable pub turn_text : List ℕ → List Token → ℕ → ℕ → List ℕ
turn_text text tokens name place = codes ", and in the first turn it is `" ++ bytes_of text tokens name ++ codes "[" ++ decimal place ++ codes "]`"

abbrev pub turn_text_at : List ℕ → List Token → ℕ → Option ℕ → Option ℕ → List ℕ
turn_text_at text tokens name target None = []
turn_text_at text tokens name target (Some place) = if may_be_assigned text tokens name target place then [] else turn_text text tokens name place

-- which instance it is in the first turn of a loop, where nothing assigns that one before
unfoldable pub first_turn_text : List ℕ → List Token → List Span → ℕ → Option ℕ → List ℕ
first_turn_text text tokens spans name target = turn_text_at text tokens name target (first_place text tokens spans name)
