-- How many columns a recurrence needs with smaller widths.
use Rattle.std.specs.Prelude.{ℕ, ◌≡◌, ◌≢◌, ◌<◌, ◌≤◌, ◌+◌, ◌-◌, ◌*◌, ◌/◌, Bool, if◌then◌else◌, nat_lt, Option, Some, List, [], ◌∷◌, ◌++◌, decimal, drop, min}
use Rattle.pr_lang.specs.declared.tokens.Keyword.TheVariants.{Rec}
use Rattle.pr_lang.specs.declared.tokens.Kind.{Kind}
use Rattle.pr_lang.specs.declared.tokens.Kind.TheVariants.{Mark, Word}
use Rattle.pr_lang.specs.declared.tokens.Symbol.TheVariants.{Colon}
use Rattle.pr_lang.specs.declared.tokens.Token.{Token}
use Rattle.pr_lens_source.specs.declared.sources.Span.{Span}
use Rattle.pr_lens_source.specs.Tokens.{end_of, first_of, kind_of, last_of, text_before}
use Rattle.pr_lens_needs.specs.declared.smaller.Narrower.{Narrower}
use Rattle.pr_lens_needs.specs.Columns.{HasDeclared, HasNotDeclared, NeedsColumns}

-- ---- the token of a declared width
-- the first token of a kind from one up to another, that one not included
pub record IsFirstOf (kind : Kind) (tokens : List Token) (from to token : ℕ) : Type 0 where
  pub from_on : from ≤ token
  pub within : token < to
  pub is : kind_of tokens token ≡ kind
  pub first : (k : ℕ) → from ≤ k → k < token → kind_of tokens k ≢ kind

-- there is none
abbrev pub HasNone : Kind → List Token → ℕ → ℕ → Type 0
HasNone kind tokens from to = (k : ℕ) → from ≤ k → k < to → kind_of tokens k ≢ kind

-- the token behind the first colon from a `rec` on; where that recurrence declares a width, it is the token of this
pub record IsBehind (tokens : List Token) (rec to token : ℕ) : Type 0 where
  pub colon : ℕ
  pub is_colon : IsFirstOf (Mark Colon) tokens rec to colon
  pub is : token ≡ colon + 1

-- ---- a text with another width
-- a number in the place of a token
abbrev pub with_number : List ℕ → List Token → ℕ → ℕ → List ℕ
with_number text tokens token number = text_before text tokens token ++ decimal number ++ drop (end_of text tokens token) text

-- how many columns a recurrence needs with this number in the place of a token, where it declares it as its width then
abbrev pub NeedsWith : ℕ → Bool → List ℕ → List Token → ℕ → ℕ → ℕ → Option ℕ → Type 0
NeedsWith columns narrowed text tokens token rec width found = NeedsColumns columns narrowed (with_number text tokens token width) rec (Some width) found

-- ---- smaller widths
-- the next smaller number of whole bytes, and below them of bits: a column has eight bits
abbrev pub next_width : ℕ → ℕ
next_width width = if nat_lt 8 width then (width - 1) / 8 * 8 else width - 1

-- ---- the token of the width of a recurrence, which has an equation and a width
-- with the next smaller width in the place of a token, the equation declares that
abbrev pub TakesWidth : List ℕ → List Token → ℕ → ℕ → ℕ → Type 0
TakesWidth text tokens equation width token = HasDeclared (with_number text tokens token (next_width width)) equation (next_width width)

-- it does not, or there is none
abbrev pub TakesNoWidth : List ℕ → List Token → ℕ → ℕ → ℕ → Type 0
TakesNoWidth text tokens equation width token = HasNotDeclared (with_number text tokens token (next_width width)) equation (next_width width)

-- a token is `rec`, and the token of the width behind it is that of the recurrence
pub record IsOwnWidth (text : List ℕ) (tokens : List Token) (equation width to rec token : ℕ) : Type 0 where
  pub is_rec : kind_of tokens rec ≡ Word Rec
  pub behind : IsBehind tokens rec to token
  pub takes : TakesWidth text tokens equation width token

-- a token is no `rec`, or no width stands behind it, or that of another recurrence
pub data HasNoOwnWidth (text : List ℕ) (tokens : List Token) (equation width to rec : ℕ) : Type 0 where
  NoRec : kind_of tokens rec ≢ Word Rec → HasNoOwnWidth text tokens equation width to rec
  NoColon : HasNone (Mark Colon) tokens rec to → HasNoOwnWidth text tokens equation width to rec
  Another : (token : ℕ) → IsBehind tokens rec to token → TakesNoWidth text tokens equation width token → HasNoOwnWidth text tokens equation width to rec

-- none of the tokens from one up to another has it behind it
abbrev pub HasNoWidthToken : List ℕ → List Token → ℕ → ℕ → ℕ → ℕ → Type 0
HasNoWidthToken text tokens equation width from to = (rec : ℕ) → from ≤ rec → rec < to → HasNoOwnWidth text tokens equation width to rec

-- the first of them that has
pub record IsWidthToken (text : List ℕ) (tokens : List Token) (equation width from to token : ℕ) : Type 0 where
  pub rec : ℕ
  pub from_on : from ≤ rec
  pub within : rec < to
  pub own : IsOwnWidth text tokens equation width to rec token
  pub first : (k : ℕ) → from ≤ k → k < rec → HasNoOwnWidth text tokens equation width to k

pub record IsNarrower (columns : ℕ) (narrowed : Bool) (text : List ℕ) (tokens : List Token) (token rec width : ℕ) (found : Narrower) : Type 0 where
  pub width_is : found.width ≡ width
  pub needs : NeedsWith columns narrowed text tokens token rec width found.columns

-- the next three smaller widths
pub record AreNarrower (columns : ℕ) (narrowed : Bool) (text : List ℕ) (tokens : List Token) (token rec width : ℕ) (found : List Narrower) : Type 0 where
  pub one : Narrower
  pub first : IsNarrower columns narrowed text tokens token rec (next_width width) one
  pub two : Narrower
  pub second : IsNarrower columns narrowed text tokens token rec (next_width (next_width width)) two
  pub three : Narrower
  pub third : IsNarrower columns narrowed text tokens token rec (next_width (next_width (next_width width))) three
  pub are : found ≡ one ∷ two ∷ three ∷ []

-- up to which token an item is searched: its first 512
abbrev pub searched_to : List Token → List Span → ℕ → ℕ
searched_to tokens spans item = first_of tokens spans item + min (last_of tokens spans item - first_of tokens spans item) 512

-- in the place of the width of the recurrence in its item; where no `rec` that is searched declares it, nothing is told
pub data AreNarrowerIn (columns : ℕ) (narrowed : Bool) (text : List ℕ) (tokens : List Token) (spans : List Span) (item rec width : ℕ) (found : List Narrower) : Type 0 where
  Told : (token : ℕ) → IsWidthToken text tokens rec width (first_of tokens spans item) (searched_to tokens spans item) token → AreNarrower columns narrowed text tokens token rec width found → AreNarrowerIn columns narrowed text tokens spans item rec width found
  NoToken : HasNoWidthToken text tokens rec width (first_of tokens spans item) (searched_to tokens spans item) → found ≡ [] → AreNarrowerIn columns narrowed text tokens spans item rec width found
