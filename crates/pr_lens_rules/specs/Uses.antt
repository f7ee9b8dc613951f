-- What is told of names that are introduced again, used before they are assigned, or stand for something else.
use Rattle.std.specs.Prelude.{ℕ, ◌+◌, ◌-◌, ◌==◌, ◌&&◌, ◌||◌, Bool, true, false, not, List, ◌++◌, Option, None, Some, codes, length, nat_eq, nat_lt, option_map, unwrap_or, if◌then◌else◌}
use Rattle.std.specs.Cmp.Lexicographic.{pointwise}
use Rattle.pr_lang.specs.declared.tokens.Keyword.TheVariants as keyword
use Rattle.pr_lang.specs.declared.tokens.Kind.{Kind}
use Rattle.pr_lang.specs.declared.tokens.Kind.TheVariants.{Word, Mark}
use Rattle.pr_lang.specs.declared.tokens.Symbol.TheVariants.{OpenRound, At}
use Rattle.pr_lang.specs.declared.tokens.Token.{Token}
use Rattle.pr_lens_source.specs.declared.sources.Span.{Span}
use Rattle.pr_lens_source.specs.Kinds.{is_at, is_by, is_fn, is_for, is_rec}
use Rattle.pr_lens_source.specs.Ranges.{first_between}
use Rattle.pr_lens_source.specs.Spans.{item_of}
use Rattle.pr_lens_source.specs.Tokens.{kind_of, bytes_of, first_of}
use Rattle.pr_lens_names.specs.declared.names.Introduction.{Introduction}
use Rattle.pr_lens_names.specs.declared.names.Sort.{Sort}
use Rattle.pr_lens_names.specs.declared.names.Sort.TheVariants.{Constant, Table, Function, Index, Stream, Parameter}
use Rattle.pr_lens_names.specs.Brackets.{square_around}
use Rattle.pr_lens_names.specs.Instances.{first_turn_text, instance_text, is_assigned_at, is_same_instance, is_target, target_around}
use Rattle.pr_lens_names.specs.Names.{introduction_of, introduction_text}
use Rattle.pr_lens_names.specs.Pieces.{place_text, token_text}
use Rattle.pr_lens_rules.specs.declared.crossed.Sought.{Sought}
use Rattle.pr_lens_rules.specs.declared.crossed.Sought.TheVariants as sought

-- ---- introduced again
abbrev pub apart_text : Bool → List ℕ
apart_text true = codes "Give one of the two another name, or tell them apart by an index.\n"
apart_text false = codes "Give one of the two another name.\n"

-- a function of that name is there from the beginning, or it is in every turn of a loop
abbrev pub alone_text : Bool → List ℕ
alone_text true = codes "`signed` is a function that is there from the beginning: choose another name.\n"
alone_text false = codes "It is so in every turn of the loop around it: tell the instances apart by the loop's index, as in `a[i]`.\n"

abbrev pub is_signed : List ℕ → List Token → ℕ → Bool
is_signed text tokens token = pointwise nat_eq (bytes_of text tokens token) (codes "signed")

abbrev pub again_behind : List ℕ → List Token → ℕ → Option Introduction → List ℕ
again_behind text tokens token None = alone_text (is_signed text tokens token)
again_behind text tokens token (Some introduction) =
    introduction_text text tokens token introduction ++ apart_text (is_assigned_at tokens introduction.token && is_assigned_at tokens token)

unfoldable pub again_text : List ℕ → List Token → List Span → ℕ → List ℕ
again_text text tokens spans token =
    instance_text text tokens token ++ codes " is introduced a second time.\n" ++ again_behind text tokens token (introduction_of text tokens spans token)

-- ---- used before it is assigned
-- the target of a statement is used in it: what to do, by the word before the target
abbrev pub own_text : Kind → List ℕ
own_text (Word keyword.Rec) = codes "In the body of its recurrence it is what earlier samples made of it: write `@1` behind it for the sample before.\n"
own_text (Word keyword.Let) = codes "A `let` does not see itself: for feedback write a `rec`, as in `rec s:8 = 0 by s@1 + x`.\n"
own_text _ = codes "An `output` does not see itself: for feedback write a `rec` before it, as in `rec s:8 = 0 by s@1 + x`.\n"

-- a token stands in a function, and another one in another item
unfoldable pub is_outside : List Token → List Span → ℕ → ℕ → Bool
is_outside tokens spans earlier token =
    not (item_of spans earlier == item_of spans token) && is_fn (kind_of tokens (first_of tokens spans (item_of spans token)))

abbrev pub outside_text : Bool → List ℕ
outside_text true = codes "A function sees no stream from outside: pass it as a parameter.\n"
outside_text false = codes "This instance of it is not assigned there: with another index, or without one, it is another stream.\n"

unfoldable pub other_text : List ℕ → List Token → List Span → ℕ → Introduction → List ℕ
other_text text tokens spans token introduction =
    introduction_text text tokens token introduction ++ outside_text (is_outside tokens spans introduction.token token)

unfoldable pub assign_text : List ℕ
assign_text = codes "Assign it in an item before this one, or see whether another name is meant.\n"

-- ---- recurrences that read each other
-- one of two tokens stands in a function, and the other outside
unfoldable pub is_apart : List Token → List Span → ℕ → ℕ → Bool
is_apart tokens spans one other = is_outside tokens spans one other || is_outside tokens spans other one

-- a recurrence begins with a token, its name is that of another token, and no function parts them
unfoldable pub is_recurrence_of : List ℕ → List Token → List Span → ℕ → ℕ → Bool
is_recurrence_of text tokens spans token first =
    is_rec (kind_of tokens first) && (pointwise nat_eq (bytes_of text tokens (first + 1)) (bytes_of text tokens token) && not (is_apart tokens spans first token))

-- the first such recurrence behind the token
unfoldable pub recurrence_behind : List ℕ → List Token → List Span → ℕ → Option ℕ
recurrence_behind text tokens spans token = first_between (is_recurrence_of text tokens spans token) token (length tokens)

-- a token is one of those that are looked for: a loop begins with it, a body stands behind it, or it is a name that is
-- written as another one, with its index, in the statement with a target
abbrev pub is_sought : List ℕ → List Token → Sought → ℕ → Bool
is_sought text tokens sought.Loop at = is_for (kind_of tokens at)
is_sought text tokens sought.Body at = is_by (kind_of tokens at)
is_sought text tokens (sought.Read name target) at = is_same_instance text tokens name at && is_target (target_around tokens at) target

-- the first such token from one up to another, and that other one where there is none
unfoldable pub first_sought : List ℕ → List Token → Sought → ℕ → ℕ → ℕ
first_sought text tokens what from to = unwrap_or (first_between (is_sought text tokens what) from to) to

-- the body of the recurrence that begins with a token reads the instance at another one
unfoldable pub body_reads : List ℕ → List Token → ℕ → ℕ → Bool
body_reads text tokens first name =
    nat_lt (first_sought text tokens (sought.Read name (first + 1)) (first_sought text tokens sought.Body first (length tokens)) (length tokens)) (length tokens)

-- the recurrence with this target reads another one before `@`, and that one, which begins behind it with a token and in no
-- other loop, assigns the instance that is read, and its body reads the target
unfoldable pub is_mutual : List ℕ → List Token → ℕ → ℕ → ℕ → Bool
is_mutual text tokens token own first =
    is_rec (kind_of tokens (own - 1)) && (is_at (kind_of tokens (token + 1)) && (is_same_instance text tokens token (first + 1)
    && (first_sought text tokens sought.Loop own first == first && body_reads text tokens first own)))

abbrev pub is_crossed : List ℕ → List Token → ℕ → Option ℕ → ℕ → Bool
is_crossed text tokens token None first = false
is_crossed text tokens token (Some own) first = is_mutual text tokens token own first

unfoldable pub halves_text : List ℕ
halves_text = codes "A `rec` reads its own past and what stands before it. Two that read each other are one of two halves, as in `rec s:16 = 0 by cat(s@1{7..0} ^ a, s@1{15..8} ^ b);` with `s{15..8}` and `s{7..0}`.\n"

-- what is read is assigned behind, by the recurrence that begins with a token
unfoldable pub behind_text : List ℕ → List Token → ℕ → List ℕ
behind_text text tokens first =
    codes "The `rec` at " ++ place_text text tokens first ++ codes " assigns this name. Move this behind it, or, where that `rec` needs it, write it into its body.\n"

-- by whether a recurrence behind assigns the name
abbrev pub unknown_by : List ℕ → List Token → ℕ → Option ℕ → Option ℕ → List ℕ
unknown_by text tokens token target None = assign_text
unknown_by text tokens token target (Some first) = if is_crossed text tokens token target first then halves_text else behind_text text tokens first

-- the statement itself assigns an instance of it, though it may be another one
unfoldable pub instance_of_own_text : List ℕ
instance_of_own_text = codes "This statement assigns an instance of it. Assign the one that is read in an item before, or see whether another index is meant.\n"

-- where it is introduced, but by the target of its own statement
abbrev pub unassigned_by : List ℕ → List Token → List Span → ℕ → Option ℕ → Option Introduction → List ℕ
unassigned_by text tokens spans token target None = unknown_by text tokens token target (recurrence_behind text tokens spans token)
unassigned_by text tokens spans token target (Some introduction) =
    if is_target target introduction.token then instance_of_own_text else other_text text tokens spans token introduction

unfoldable pub unassigned_text : List ℕ → List Token → List Span → ℕ → Option ℕ → List ℕ
unassigned_text text tokens spans token target = unassigned_by text tokens spans token target (introduction_of text tokens spans token)

abbrev pub early_behind : List ℕ → List Token → List Span → ℕ → Option ℕ → List ℕ
early_behind text tokens spans token None = unassigned_text text tokens spans token None
early_behind text tokens spans token (Some own) =
    if is_same_instance text tokens own token then own_text (kind_of tokens (own - 1)) else unassigned_text text tokens spans token (Some own)

unfoldable pub early_text : List ℕ → List Token → List Span → ℕ → List ℕ
early_text text tokens spans token =
    instance_text text tokens token
    ++ codes " is used before it is assigned"
    ++ first_turn_text text tokens spans token (target_around tokens token)
    ++ codes ".\n"
    ++ early_behind text tokens spans token (target_around tokens token)

-- ---- of another kind
abbrev pub sort_in : Option Introduction → Option Sort
sort_in introduced = option_map (λ (i : Introduction). i.sort) introduced

abbrev pub sort_before : List ℕ → List Token → List Span → Option ℕ → Option Sort
sort_before text tokens spans None = None
sort_before text tokens spans (Some square) = sort_in (introduction_of text tokens spans (square - 1))

-- what the name stands for in whose index a token stands
unfoldable pub indexed_sort : List ℕ → List Token → List Span → ℕ → Option Sort
indexed_sort text tokens spans token = sort_before text tokens spans (square_around tokens token)

-- how a name is called
unfoldable pub called_text : Option Sort → List ℕ
called_text None = codes "It is called, but no function of that name is visible here.\n"
called_text (Some Function) = codes "A function does not see itself: write a loop in its place.\n"
called_text (Some sort) = codes "It is called, and only a function can be.\n"

abbrev pub stream_text : Option Sort → List ℕ
stream_text (Some Table) = codes "The index of a table is a constant: where a stream is to choose, write a tree of choices on its bits, as in `k{0..0} ? 7 : 3`.\n"
stream_text (Some Stream) = codes "An index is a constant and tells instances apart: where a stream is to choose one, compare it with each index, as in `k == 0 ? t[0] : k == 1 ? t[1] : t[2]`. A bit that a stream chooses is `(x >> k){0..0}`.\n"
stream_text indexed = codes "Delays, places of bits, bounds of loops, tables and indices are built from numbers, constants, entries of tables and indices alone.\n"

-- how it is used, by what it stands in the index of
unfoldable pub usage_text : Option Sort → Option Sort → List ℕ
usage_text indexed None = codes "It is to be a constant, a table, an index or a function, and none of that name is visible here.\n"
usage_text indexed (Some Table) = codes "A table has an index behind it, as in `c[0]`.\n"
usage_text indexed (Some Function) = codes "A function is called, with its arguments in brackets.\n"
usage_text indexed (Some Constant) = codes "A constant or an index has no index behind it.\n"
usage_text indexed (Some Index) = codes "A constant or an index has no index behind it.\n"
usage_text indexed (Some Stream) = stream_text indexed
usage_text indexed (Some Parameter) = stream_text indexed

unfoldable pub earlier_text : List ℕ
earlier_text = codes "Only a stream has earlier samples, so only a stream stands before `@`.\n"

-- by the token behind it
unfoldable pub usage_before : Kind → Option Sort → Option Sort → List ℕ
usage_before (Mark OpenRound) indexed sort = called_text sort
usage_before (Mark At) indexed sort = earlier_text
usage_before _ indexed sort = usage_text indexed sort

unfoldable pub unknown_text : List ℕ → List Token → ℕ → List ℕ
unknown_text text tokens token = token_text text tokens token ++ codes " is not introduced before.\n"

abbrev pub known_text : List ℕ → List Token → ℕ → Option Introduction → List ℕ
known_text text tokens token None = unknown_text text tokens token
known_text text tokens token (Some introduction) = introduction_text text tokens token introduction

unfoldable pub another_kind_text : List ℕ → List Token → List Span → ℕ → List ℕ
another_kind_text text tokens spans token =
    known_text text tokens token (introduction_of text tokens spans token)
    ++ usage_before (kind_of tokens (token + 1)) (indexed_sort text tokens spans token) (sort_in (introduction_of text tokens spans token))
