-- Warnings as findings, and the text that tells them.
use Rattle.std.specs.Prelude.{ℕ, ◌≡◌, Bool, List, [], ◌∷◌, max}
use Rattle.pr_lang.specs.declared.tokens.Token.{Token}
use Rattle.pr_lang.specs.Tokens.{tokens_of}
use Rattle.pr_lens_show.specs.declared.findings.Finding.{Finding}
use Rattle.pr_lens_show.specs.declared.findings.Severity.{Severity}
use Rattle.pr_lens_show.specs.Findings.{IsPut}
use Rattle.pr_lens_source.specs.declared.sources.Span.{Span}
use Rattle.pr_lens_source.specs.Items.{AreItems}
use Rattle.pr_lens_source.specs.Tokens.{start_of, end_of}
use Rattle.pr_lens_extents.specs.declared.verdicts.Verdict.{Verdict}
use Rattle.pr_lens_waste.specs.Lines.{Tails}
use Rattle.pr_lens_waste.specs.Programs.{AreLines}
use Rattle.pr_lens_warn.specs.declared.remarks.Warning.{Warning}
use Rattle.pr_lens_warn.specs.Comparisons.{AreVerdicts}
use Rattle.pr_lens_warn.specs.Texts.{code_of, heading_of, message_of}
use Rattle.pr_lens_warn.specs.Warnings.{AreWarnings}

pub record IsFinding (text : List ℕ) (tokens : List Token) (w : Warning) (f : Finding) : Type 0 where
  pub severity : f.severity ≡ Severity.Warning
  pub code : f.code.now ≡ code_of w.remark
  pub heading : f.heading.now ≡ heading_of w.remark
  pub start : f.start ≡ start_of text tokens w.first
  pub end : f.end ≡ max (end_of text tokens w.last) (start_of text tokens w.first)
  pub message : f.message.now ≡ message_of text tokens w

-- a warning is told of the text of a file of this name, for people or as JSON
pub record IsTold (json : Bool) (name text : List ℕ) (tokens : List Token) (w : Warning) (old new : List ℕ) : Type 0 where
  pub finding : Finding
  pub is : IsFinding text tokens w finding
  pub put : IsPut json name text finding old new

-- one thing is told and then another
pub record Both (One Other : List ℕ → Type 0) : Type 0 where
  pub between : List ℕ
  pub one : One between
  pub other : Other between

-- warnings, one after the other
abbrev pub AreTold : Bool → List ℕ → List ℕ → List Token → List Warning → List ℕ → List ℕ → Type 0
AreTold json name text tokens [] old new = new ≡ old
AreTold json name text tokens (w ∷ ws) old new =
    Both (IsTold json name text tokens w old) (λ between. AreTold json name text tokens ws between new)

-- the warnings of a text
pub record WarnsOf (json : Bool) (name text old new : List ℕ) : Type 0 where
  pub spans : List Span
  pub items : AreItems (tokens_of text) 0 spans
  pub verdicts : List Verdict
  pub judged : AreVerdicts text verdicts
  pub tails : Tails
  pub lines : AreLines text tails
  pub warnings : List Warning
  pub are : AreWarnings text (tokens_of text) spans verdicts tails warnings
  pub told : AreTold json name text (tokens_of text) warnings old new
