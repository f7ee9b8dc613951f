-- Delay lines that are longer than what reads them, by the last token at which their name is assigned.
use Rattle.std.specs.Prelude.{ℕ, ◌+◌, ◌==◌, ◌&&◌, Bool, List, Option, None, Some, is_none, length, map, if◌then◌else◌}
use Rattle.std.specs.List.{range_with_len}
use Rattle.pr_lang.specs.declared.tokens.Token.{Token}
use Rattle.pr_lens_source.specs.declared.sources.Span.{Span}
use Rattle.pr_lens_source.specs.Ranges.{first_between}
use Rattle.pr_lens_source.specs.Tokens.{bytes_of}
use Rattle.pr_lens_waste.specs.declared.lines.Tail.{Tail}
use Rattle.pr_lens_waste.specs.Lines.{Tails, tail_at}
use Rattle.pr_lens_warn.specs.declared.remarks.Remark.{Remark}
use Rattle.pr_lens_warn.specs.declared.remarks.Remark.TheVariants.{Long}
use Rattle.pr_lens_warn.specs.Needs.{is_assigned, is_use, scope_of}

-- the name that is assigned at a token is assigned at another one too
unfoldable pub is_again : List ℕ → List Token → List Span → ℕ → ℕ → Bool
is_again text tokens spans at other = is_assigned tokens other && is_use text tokens spans at other

-- it is assigned at no later one
unfoldable pub is_last : List ℕ → List Token → List Span → ℕ → Bool
is_last text tokens spans at = is_none (first_between (is_again text tokens spans at) (at + 1) (length tokens))

-- a name is assigned here, outside of all functions
unfoldable pub is_of_program : List Token → List Span → ℕ → Bool
is_of_program tokens spans at = is_assigned tokens at && (scope_of tokens spans at == length tokens)

-- the last instances of such a name, where no output needs them
unfoldable pub own_tail : List ℕ → List Token → List Span → Tails → ℕ → Option Tail
own_tail text tokens spans tails at = if is_of_program tokens spans at then tail_at (bytes_of text tokens at) tails else None

abbrev pub last_tail : List ℕ → List Token → List Span → ℕ → Option Tail → Option Tail
last_tail text tokens spans at None = None
last_tail text tokens spans at (Some tail) = if is_last text tokens spans at then Some tail else None

abbrev pub token_tail : List ℕ → List Token → List Span → Tails → ℕ → Option Tail
token_tail text tokens spans tails at = last_tail text tokens spans at (own_tail text tokens spans tails at)

-- token by token
abbrev pub token_tails : List ℕ → List Token → List Span → Tails → List (Option Tail)
token_tails text tokens spans tails = map (token_tail text tokens spans tails) (range_with_len 0 (length tokens))

abbrev pub long : Tail → Remark
long tail = Long tail.first tail.last
