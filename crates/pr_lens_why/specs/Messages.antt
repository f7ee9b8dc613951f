-- What is told of a refusal, added to a message.
use Rattle.std.specs.Prelude.{ℕ, ◌≡◌, ◌⊎◌, ◌<◌, ◌≤◌, ◌==◌, Bool, List, ◌++◌, None, Some, if◌then◌else◌, ⊤}
use Rattle.pr_base.specs.declared.caps.Cap.{Cap}
use Rattle.pr_lang.specs.declared.tokens.Token.{Token}
use Rattle.pr_scope_names.specs.declared.rules.Rule.{Rule}
use Rattle.pr_scope_names.specs.declared.rules.Rule.TheVariants.{Introduced, Assigned, Kinds, Calls, Steps, Divisors, Entries, Bounds, Recurrences, Ends}
use Rattle.pr_compile.specs.declared.faults.CompileFault.{CompileFault}
use Rattle.pr_compile.specs.declared.faults.CompileFault.TheVariants.{Syntax, Scope, NoWidth, NoFit, Limit, Memory}
use Rattle.pr_lens_find.specs.declared.expected.Expected.{Expected}
use Rattle.pr_lens_find.specs.declared.widths.Missing.{Missing}
use Rattle.pr_lens_find.specs.Expected.{IsExpected}
use Rattle.pr_lens_find.specs.Offences.{IsTold}
use Rattle.pr_lens_find.specs.Widths.{IsToldIn}
use Rattle.pr_lens_fits.specs.declared.groups.Unfit.{Unfit}
use Rattle.pr_lens_fits.specs.Makers.{HasMaker}
use Rattle.pr_lens_fits.specs.Unfits.{IsFound, IsNothing}
use Rattle.pr_lens_needs.specs.declared.needs.Needs.{Needs}
use Rattle.pr_lens_needs.specs.Needs.{HasNeeds, HasNoParts}
use Rattle.pr_lens_rules.specs.Rules.{offence_text}
use Rattle.pr_lens_source.specs.declared.sources.Span.{Span}
use Rattle.pr_lens_source.specs.Tokens.{first_of, text_before}
use Rattle.pr_lens_needs.specs.Texts.{columns_text}
use Rattle.pr_lens_why.specs.declared.helps.Help.{Help}
use Rattle.pr_lens_why.specs.Helps.{IsHelp, help_text}
use Rattle.pr_lens_why.specs.Limits.{limit_text, registers_text}
use Rattle.pr_lens_why.specs.Places.{IsLimitToken}
use Rattle.pr_lens_why.specs.Syntax.{syntax_text}
use Rattle.pr_lens_why.specs.Widths.{missing_text}

-- ---- by the kind of the refusal
-- a wrong token: what could stand there
pub record TellsSyntax (text : List ℕ) (tokens : List Token) (token : ℕ) (old new : List ℕ) : Type 0 where
  pub expected : Expected
  pub is : IsExpected (text_before text tokens token) token expected
  pub message : new ≡ old ++ syntax_text text tokens expected token

-- the rule of a number; the compiler names its rules by the numbers 1 to 10
abbrev pub rule_of : ℕ → Rule
rule_of number =
    if number == 1 then Introduced
    else (if number == 2 then Assigned
    else (if number == 3 then Kinds
    else (if number == 4 then Calls
    else (if number == 5 then Steps
    else (if number == 6 then Divisors
    else (if number == 7 then Entries
    else (if number == 8 then Bounds
    else (if number == 9 then Recurrences
    else Ends))))))))

-- a broken rule: the token that is told of it
pub record TellsRule (text : List ℕ) (tokens : List Token) (spans : List Span) (rule : Rule) (item token : ℕ) (old new : List ℕ) : Type 0 where
  pub told : IsTold text tokens spans rule item token
  pub message : new ≡ old ++ offence_text text tokens spans rule token

-- no width: what is told of the equation
pub record TellsWidth (text : List ℕ) (tokens : List Token) (spans : List Span) (equation token : ℕ) (old new : List ℕ) : Type 0 where
  pub missing : Missing
  pub told : IsToldIn text tokens spans equation missing
  pub token_is : token ≡ missing.token
  pub message : new ≡ old ++ missing_text missing

-- no fit: columns ran out for a group, which is that of a recurrence or not, or registers
pub data TellsUnfit (N P : ℕ) (narrowed : Bool) (text : List ℕ) (tokens : List Token) (spans : List Span) (unit : ℕ) (found : Unfit) (old new : List ℕ) : Type 0 where
  Recurrence : N < found.columns → (needs : Needs) → HasNeeds N narrowed text tokens spans found.item unit needs → new ≡ old ++ columns_text found.columns N (Some needs) → TellsUnfit N P narrowed text tokens spans unit found old new
  Operator : N < found.columns → HasNoParts N narrowed text unit → new ≡ old ++ columns_text found.columns N None → TellsUnfit N P narrowed text tokens spans unit found old new
  Registers : found.columns ≤ N → new ≡ old ++ registers_text found N P → TellsUnfit N P narrowed text tokens spans unit found old new

-- what is found of the group, and the first token of the item that makes its last unit
pub record TellsFit (N P : ℕ) (narrowed : Bool) (text : List ℕ) (tokens : List Token) (spans : List Span) (unit token : ℕ) (old new : List ℕ) : Type 0 where
  pub found : Unfit
  pub is : IsFound N narrowed text unit found
  pub item : IsNothing N narrowed text found ⊎ HasMaker narrowed text tokens spans unit found.item
  pub token_is : token ≡ first_of tokens spans found.item
  pub unfit : TellsUnfit N P narrowed text tokens spans unit found old new

-- a limit: which one, at which token
pub record TellsLimit (columns : ℕ) (narrowed : Bool) (text : List ℕ) (tokens : List Token) (spans : List Span) (which : Cap) (token : ℕ) (old new : List ℕ) : Type 0 where
  pub token_is : IsLimitToken columns narrowed text tokens spans which token
  pub message : new ≡ old ++ limit_text which

abbrev pub TellsCause : ℕ → ℕ → Bool → List ℕ → List Token → List Span → CompileFault → ℕ → List ℕ → List ℕ → Type 0
TellsCause N P narrowed text tokens spans (Syntax wrong) token old new = TellsSyntax text tokens wrong old new
TellsCause N P narrowed text tokens spans (Scope rule item) token old new = TellsRule text tokens spans (rule_of rule) item token old new
TellsCause N P narrowed text tokens spans (NoWidth equation) token old new = TellsWidth text tokens spans equation token old new
TellsCause N P narrowed text tokens spans (NoFit unit) token old new = TellsFit N P narrowed text tokens spans unit token old new
TellsCause N P narrowed text tokens spans (Limit which) token old new = TellsLimit N narrowed text tokens spans which token old new
TellsCause N P narrowed text tokens spans (Memory x) token old new = ⊤

-- ---- the whole message
-- the cause, and behind it what helps
pub record Tells (N P : ℕ) (narrowed : Bool) (text : List ℕ) (tokens : List Token) (spans : List Span) (fault : CompileFault) (token : ℕ) (old new : List ℕ) : Type 0 where
  pub between : List ℕ
  pub cause : TellsCause N P narrowed text tokens spans fault token old between
  pub help : Help
  pub helps : IsHelp N P narrowed text fault help
  pub message : new ≡ between ++ help_text help
