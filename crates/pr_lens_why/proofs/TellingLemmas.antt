-- What is told of a refusal.
use Rattle.std.proofs.Common.{◌≡◌, ◌<◌, ◌++◌, ℕ, Bool, Option, None, Some, List}
use Rattle.std.specs.Prelude.{IfNone, IfSome}
use Rattle.pr_lang.specs.declared.tokens.Token.{Token}
use Rattle.pr_lens_source.specs.declared.sources.Span.{Span}
use Rattle.pr_lens_fits.specs.declared.groups.Unfit.{Unfit}
use Rattle.pr_lens_needs.specs.declared.needs.Needs.{Needs}
use Rattle.pr_lens_needs.specs.Needs.{HasNeeds, HasNoParts}
use Rattle.pr_lens_needs.specs.Texts.{columns_text}
use Rattle.pr_lens_why.specs.Messages.{Operator, Recurrence, TellsUnfit}

-- columns ran out, for a recurrence or not
pub columns_told : (N P : ℕ) (narrowed : Bool) (text : List ℕ) (tokens : List Token) (spans : List Span) (unit : ℕ) (found : Unfit) (needs : Option Needs) (old new : List ℕ) → N < found.columns
    → IfSome needs (HasNeeds N narrowed text tokens spans found.item unit) → IfNone needs (HasNoParts N narrowed text unit) → new ≡ old ++ columns_text found.columns N needs → TellsUnfit N P narrowed text tokens spans unit found old new
columns_told N P narrowed text tokens spans unit found None old new more some none is = Operator more none is
columns_told N P narrowed text tokens spans unit found (Some needs) old new more some none is = Recurrence more needs some is
