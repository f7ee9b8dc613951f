-- Comparisons that are settled, declared widths that cut bits off, and arguments that are read by `signed`, by their
-- tokens.
use Rattle.std.specs.Prelude.{ℕ, zero, suc, ◌+◌, ◌-◌, ◌&&◌, ◌||◌, ◌≡◌, ◌≢◌, Bool, not, length, unwrap_or, slice_index_or, List, [], ◌∷◌, Option, None, Some, MatchOption, if◌then◌else◌}
use Rattle.pr_lang.specs.declared.tokens.Token.{Token}
use Rattle.pr_lang.specs.declared.trees.Program.{Program}
use Rattle.pr_lang.specs.Shape.{program_shape}
use Rattle.pr_lang.specs.Syntax.{IsProgram, refusal_of}
use Rattle.pr_lens_source.specs.declared.sources.Span.{Span}
use Rattle.pr_lens_source.specs.Introduced.{introduced_before}
use Rattle.pr_lens_source.specs.Kinds.{is_assign, is_colon, is_comparison, is_fn, is_name, is_number, is_open_round}
use Rattle.pr_lens_source.specs.Tokens.{kind_of}
use Rattle.pr_lens_extents.specs.declared.verdicts.Verdict.{Verdict}
use Rattle.pr_lens_extents.specs.declared.verdicts.Verdict.TheVariants.{Unseen, Always, Varies, Cut, Negative}
use Rattle.pr_lens_extents.specs.Programs.{program_verdicts}
use Rattle.pr_lens_rules.specs.Uses.{is_signed}
use Rattle.pr_lens_warn.specs.declared.remarks.Remark.{Remark}
use Rattle.pr_lens_warn.specs.declared.remarks.Remark.TheVariants.{Settled, Narrow, Argument}

-- a declared width behind a name that is assigned: that of a parameter, a function or an input stands before other
-- symbols
abbrev pub is_declared : List Token → ℕ → Bool
is_declared tokens at =
    is_number (kind_of tokens at) && (is_colon (kind_of tokens (at - 1)) && is_assign (kind_of tokens (at + 1)))

-- the name of a function that is called
abbrev pub is_call : List Token → ℕ → Bool
is_call tokens at =
    is_name (kind_of tokens at) && (is_open_round (kind_of tokens (at + 1)) && not (is_fn (kind_of tokens (at - 1))))

-- a token that has a verdict
unfoldable pub is_judged : List Token → ℕ → Bool
is_judged tokens at = is_comparison (kind_of tokens at) || (is_declared tokens at || is_call tokens at)

-- a verdict for each of so many tokens from one on, where the first token among them that has a verdict has the one of
-- this number
abbrev pub verdicts_from : List Token → List Verdict → ℕ → ℕ → ℕ → List Verdict
verdicts_from tokens verdicts zero at n = []
verdicts_from tokens verdicts (suc k) at n =
    if is_judged tokens at then slice_index_or verdicts n Unseen ∷ verdicts_from tokens verdicts k (at + 1) (n + 1)
    else Unseen ∷ verdicts_from tokens verdicts k (at + 1) n

-- the first such token has the first verdict, the second one the second, and so on
abbrev pub by_tokens : List Token → List Verdict → List Verdict
by_tokens tokens verdicts = verdicts_from tokens verdicts (length tokens) 0 0

-- the token at which the name of a token is introduced
abbrev pub introduction_of : List ℕ → List Token → List Span → ℕ → ℕ
introduction_of text tokens spans at = unwrap_or (introduced_before text tokens spans at) at

-- what is pointed out of a call with a constant that is read by `signed`: by the call itself, or by the function
abbrev pub read_signed : List ℕ → List Token → List Span → ℕ → ℕ → ℕ → ℕ → ℕ → Remark
read_signed text tokens spans at argument number width below =
    if is_signed text tokens at then Remark.Negative number width below
    else Argument argument number width below (introduction_of text tokens spans at)

-- what is pointed out of a token with this verdict
abbrev pub settled : List ℕ → List Token → List Span → ℕ → Verdict → Option Remark
settled text tokens spans at Unseen = None
settled text tokens spans at Varies = None
settled text tokens spans at (Always answer left right) = Some (Settled answer left right)
settled text tokens spans at (Cut form reach) = Some (Narrow form reach)
settled text tokens spans at (Negative argument number width below) =
    Some (read_signed text tokens spans at argument number width below)

abbrev pub verdicts_in : Option Program → List Verdict
verdicts_in None = []
verdicts_in (Some program) = program_verdicts program

-- the verdicts on the comparisons of a text, where it is that of a program
pub record AreVerdicts (text : List ℕ) (verdicts : List Verdict) : Type 0 where
  pub program : Option Program
  pub read : MatchOption program (refusal_of text ≢ None) (λ p. IsProgram text (program_shape p))
  pub are : verdicts ≡ verdicts_in program
