-- What names stand for, as their introductions say.
use Rattle.std.specs.Prelude.{ℕ, ◌+◌, ◌-◌, List, [], ◌++◌, Option, None, Some, codes, option_map}
use Rattle.pr_lang.specs.declared.tokens.Keyword.TheVariants as keyword
use Rattle.pr_lang.specs.declared.tokens.Kind.{Kind}
use Rattle.pr_lang.specs.declared.tokens.Kind.TheVariants.{Word, Mark}
use Rattle.pr_lang.specs.declared.tokens.Symbol.TheVariants.{OpenSquare}
use Rattle.pr_lang.specs.declared.tokens.Token.{Token}
use Rattle.pr_lens_source.specs.declared.sources.Span.{Span}
use Rattle.pr_lens_source.specs.Introduced.{introduced_before}
use Rattle.pr_lens_source.specs.Tokens.{kind_of}
use Rattle.pr_lens_names.specs.declared.names.Introduction.{Introduction}
use Rattle.pr_lens_names.specs.declared.names.Sort.{Sort}
use Rattle.pr_lens_names.specs.declared.names.Sort.TheVariants.{Constant, Table, Function, Index, Stream, Parameter}
use Rattle.pr_lens_names.specs.Pieces.{place_text, token_text}

abbrev pub sort_text : Sort → List ℕ
sort_text Constant = codes "a constant"
sort_text Table = codes "a table"
sort_text Function = codes "a function"
sort_text Index = codes "the index of a loop"
sort_text Stream = codes "a stream"
sort_text Parameter = codes "a parameter"

-- by the token before a name that is introduced, and the second one behind it
abbrev pub sort_of_const : Kind → Sort
sort_of_const (Mark OpenSquare) = Table
sort_of_const _ = Constant

abbrev pub sort_between : Kind → Kind → Sort
sort_between (Word keyword.Const) behind = sort_of_const behind
sort_between (Word keyword.Fn) behind = Function
sort_between (Word keyword.For) behind = Index
sort_between (Word word) behind = Stream
sort_between _ behind = Parameter

unfoldable pub sort_at : List Token → ℕ → Sort
sort_at tokens introduced = sort_between (kind_of tokens (introduced - 1)) (kind_of tokens (introduced + 2))

abbrev pub introduction_at : List Token → ℕ → Introduction
introduction_at tokens token = record { token = token; sort = sort_at tokens token }

-- the first introduction of the name of a token before it that is visible there
unfoldable pub introduction_of : List ℕ → List Token → List Span → ℕ → Option Introduction
introduction_of text tokens spans token = option_map (introduction_at tokens) (introduced_before text tokens spans token)

-- what the name of a token is, and where it is introduced
unfoldable pub introduction_text : List ℕ → List Token → ℕ → Introduction → List ℕ
introduction_text text tokens token introduction =
    token_text text tokens token ++ codes " is " ++ sort_text introduction.sort ++ codes ", introduced at " ++ place_text text tokens introduction.token ++ codes ".\n"

-- the same, where it is introduced before
abbrev pub introduced_text : List ℕ → List Token → ℕ → Option Introduction → List ℕ
introduced_text text tokens token None = []
introduced_text text tokens token (Some introduction) = introduction_text text tokens token introduction
