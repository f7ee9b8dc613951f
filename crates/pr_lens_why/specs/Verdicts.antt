-- What an explanation says.
use Rattle.std.specs.Prelude.{ℕ, ◌≡◌, ◌≤◌, Bool, List, [], length, max, min, ⊤}
use Rattle.pr_lang.specs.Tokens.{tokens_of}
use Rattle.pr_compile.specs.Refusals.{IsRefused}
use Rattle.pr_compile.specs.declared.faults.CompileFault.{CompileFault}
use Rattle.pr_compile.specs.declared.faults.CompileFault.TheVariants.{Syntax}
use Rattle.pr_lens_source.specs.declared.sources.Span.{Span}
use Rattle.pr_lens_source.specs.Items.{AreItems}
use Rattle.pr_lens_source.specs.Tokens.{start_of, end_of}
use Rattle.pr_lens_why.specs.declared.explaining.Explanation.{Explanation}
use Rattle.pr_lens_why.specs.declared.explaining.Verdict.{Verdict}
use Rattle.pr_lens_why.specs.declared.explaining.Verdict.TheVariants.{Accepted, Refused}
use Rattle.pr_lens_why.specs.Helps.{HasConfiguration}
use Rattle.pr_lens_why.specs.Messages.{Tells}

-- it points at its token: at the first byte and behind the last one; the token behind them all is the text's end
pub record IsPointing (text : List ℕ) (e : Explanation) : Type 0 where
  pub token : e.token ≤ length (tokens_of text)
  pub start : e.start ≡ start_of text (tokens_of text) e.token
  pub end : e.end ≡ max (end_of text (tokens_of text) e.token) e.start
  pub order : e.start ≤ e.end
  pub within : e.end ≤ length text

-- a wrong token is the token to look at
abbrev pub PointsRight : CompileFault → ℕ → Type 0
PointsRight (Syntax wrong) token = token ≡ wrong
PointsRight fault token = ⊤

-- the message is what is told of the refusal at a token, which is the one to look at
pub record IsMessage (N P : ℕ) (narrowed : Bool) (text : List ℕ) (e : Explanation) : Type 0 where
  pub spans : List Span
  pub items : AreItems (tokens_of text) 0 spans
  pub told : ℕ
  pub token : e.token ≡ min told (length (tokens_of text))
  pub tells : Tells N P narrowed text (tokens_of text) spans e.fault told [] e.message.items

-- a text is refused as the explanation says, and it points at a token of the text
pub record IsExplained (N P : ℕ) (narrowed : Bool) (text : List ℕ) (e : Explanation) : Type 0 where
  pub refused : IsRefused N P narrowed text e.fault
  pub pointing : IsPointing text e
  pub right : PointsRight e.fault e.token
  pub message : IsMessage N P narrowed text e

-- a verdict on a text
abbrev pub IsVerdict : ℕ → ℕ → Bool → List ℕ → Verdict → Type 0
IsVerdict N P narrowed text Accepted = HasConfiguration N P narrowed text
IsVerdict N P narrowed text (Refused e) = IsExplained N P narrowed text e
