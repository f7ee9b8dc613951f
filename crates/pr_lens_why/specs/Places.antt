-- The token to look at where a limit is passed.
use Rattle.std.specs.Prelude.{ℕ, ◌≡◌, Bool, List, length, unwrap_or}
use Rattle.pr_base.specs.declared.caps.Cap.{Cap}
use Rattle.pr_base.specs.declared.caps.Cap.TheVariants.{Nesting, Turns, Equations, InputBytes, Outputs}
use Rattle.pr_lang.specs.declared.tokens.Token.{Token}
use Rattle.pr_lang.specs.Load.{first_deep}
use Rattle.pr_lang.specs.Word.{words}
use Rattle.pr_lens_find.specs.Fronts.{IsLongWith}
use Rattle.pr_lens_find.specs.Made.{IsManyWith}
use Rattle.pr_lens_fits.specs.Ends.{PassesWith, input_bytes, output_count}
use Rattle.pr_lens_fits.specs.Targets.{IsManyUnitsWith}
use Rattle.pr_lens_source.specs.declared.sources.Span.{Span}
use Rattle.pr_lens_source.specs.Tokens.{first_of}

-- the item with which this limit is passed, on so many columns; the number of items where it is with none
abbrev pub IsLimitItem : ℕ → Bool → List ℕ → List Token → List Span → Cap → ℕ → Type 0
IsLimitItem columns narrowed text tokens spans Turns item = IsLongWith text tokens spans item
IsLimitItem columns narrowed text tokens spans Equations item = IsManyWith text tokens spans 16384 item
IsLimitItem columns narrowed text tokens spans InputBytes item = PassesWith (input_bytes tokens spans) columns (length spans) item
IsLimitItem columns narrowed text tokens spans Outputs item = PassesWith (output_count tokens spans) 64 (length spans) item
IsLimitItem columns narrowed text tokens spans which item = IsManyUnitsWith narrowed text tokens spans item

-- the first token of that item
pub record BeginsLimit (columns : ℕ) (narrowed : Bool) (text : List ℕ) (tokens : List Token) (spans : List Span) (which : Cap) (token : ℕ) : Type 0 where
  pub item : ℕ
  pub is : IsLimitItem columns narrowed text tokens spans which item
  pub token_is : token ≡ first_of tokens spans item

-- the same, or the first token that is nested too deep, and 0 where none is
abbrev pub IsLimitToken : ℕ → Bool → List ℕ → List Token → List Span → Cap → ℕ → Type 0
IsLimitToken columns narrowed text tokens spans Nesting token = token ≡ unwrap_or (first_deep (words text tokens)) 0
IsLimitToken columns narrowed text tokens spans which token = BeginsLimit columns narrowed text tokens spans which token
