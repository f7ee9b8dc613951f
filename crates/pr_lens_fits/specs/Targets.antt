-- Texts that end earlier, with an output more.
use Rattle.std.specs.Prelude.{ℕ, ◌≡◌, ◌≢◌, ◌≤◌, ◌+◌, ◌-◌, ◌^◌, ◌<◌, ◌⊎◌, ◌++◌, [], Bool, true, false, Some, List, All, codes, length, min, replicate, slice_range}
use Rattle.pr_base.specs.declared.caps.Cap.{Cap}
use Rattle.pr_lang.specs.declared.tokens.Kind.{Kind}
use Rattle.pr_lang.specs.declared.tokens.Kind.TheVariants.{End, Mark}
use Rattle.pr_lang.specs.declared.tokens.Symbol.TheVariants.{Assign, Colon}
use Rattle.pr_lang.specs.declared.tokens.Token.{Token}
use Rattle.pr_lang.specs.declared.trees.Program.{Program}
use Rattle.pr_cut_units.specs.Nets.{limit_passed}
use Rattle.pr_compile_front.specs.Refusals.{HasWidths}
use Rattle.pr_compile.specs.Configured.{OfReadyBy, net_by}
use Rattle.pr_lens_source.specs.declared.sources.Span.{Span}
use Rattle.pr_lens_source.specs.Kinds.{is_assigning}
use Rattle.pr_lens_source.specs.Tokens.{kind_of, start_of, first_of, front_text}
use Rattle.pr_lens_find.specs.Turns.{IsItemWith}
use Rattle.pr_lens_fits.specs.Unfits.{HasRefusal, PassesLimit}

-- a token has at most so many bytes
abbrev pub IsShort : ℕ → Token → Type 0
IsShort most token = token.end - token.start ≤ most

-- ---- targets
-- before such a token it ends
abbrev pub ends_target : Kind → Bool
ends_target (Mark Colon) = true
ends_target (Mark Assign) = true
ends_target End = true
ends_target _ = false

-- the first such token from another one on
pub record IsTargetEnd (tokens : List Token) (first end : ℕ) : Type 0 where
  pub behind : first ≤ end
  pub ends : ends_target (kind_of tokens end) ≡ true
  pub before : (k : ℕ) → first ≤ k → k < end → ends_target (kind_of tokens k) ≡ false

-- the text of the target of an item that begins at a token
pub record HasTarget (text : List ℕ) (tokens : List Token) (first : ℕ) (target : List ℕ) : Type 0 where
  pub begins : is_assigning (kind_of tokens first) ≡ true
  pub end : ℕ
  pub ends : IsTargetEnd tokens first end
  pub is : target ≡ slice_range text (start_of text tokens (min (first + 1) (2 ^ 64 - 1))) (start_of text tokens end)

-- it has none
pub record HasNoTarget (tokens : List Token) (first : ℕ) (target : List ℕ) : Type 0 where
  pub begins : is_assigning (kind_of tokens first) ≡ false
  pub none : target ≡ []

abbrev pub IsTarget : List ℕ → List Token → ℕ → List ℕ → Type 0
IsTarget text tokens first target = HasTarget text tokens first target ⊎ HasNoTarget tokens first target

-- ---- so many items, with an output behind them
-- its name has one letter more than the longest token of the whole, and its expression is the target of the last of them
pub record HasOutput (text : List ℕ) (tokens : List Token) (spans : List Span) (items : ℕ) (longer : List ℕ) : Type 0 where
  pub letters : ℕ
  pub new : All (IsShort letters) tokens
  pub least : (n : ℕ) → All (IsShort n) tokens → letters ≤ n
  pub target : List ℕ
  pub is_target : IsTarget text tokens (first_of tokens spans (items - 1)) target
  pub some : 0 < length target
  pub is : longer ≡ ((((front_text text tokens spans items ++ codes "\noutput ") ++ replicate letters 112) ++ codes "p = ") ++ target) ++ codes ";"

-- the last of them has no target
pub record HasNoOutput (text : List ℕ) (tokens : List Token) (spans : List Span) (items : ℕ) (longer : List ℕ) : Type 0 where
  pub none : IsTarget text tokens (first_of tokens spans (items - 1)) []
  pub is : longer ≡ front_text text tokens spans items

abbrev pub IsWithOutput : List ℕ → List Token → List Span → ℕ → List ℕ → Type 0
IsWithOutput text tokens spans items longer = HasNoOutput text tokens spans items longer ⊎ HasOutput text tokens spans items longer

-- ---- units

-- the net of its program does not have too many units
pub record HasOtherNet (narrowed : Bool) (text : List ℕ) : Type 0 where
  pub program : Program
  pub given : List ℕ
  pub has : HasWidths text program given
  pub are : OfReadyBy narrowed program given (λ ready news. limit_passed 64 (net_by program ready news) ≢ Some Cap.Units)

-- the same, or the text is refused before, or is longer than a program may be
abbrev pub HasFewUnits : Bool → List ℕ → Type 0
HasFewUnits narrowed text = (1048576 < length text) ⊎ (HasRefusal text ⊎ HasOtherNet narrowed text)

-- so many items have too many units, with what the last of them assigns as an output more
pub record HasManyUnits (narrowed : Bool) (text : List ℕ) (tokens : List Token) (spans : List Span) (items : ℕ) : Type 0 where
  pub longer : List ℕ
  pub output : IsWithOutput text tokens spans items longer
  pub many : PassesLimit 64 narrowed longer Cap.Units

-- so many have not
pub record HasFewUnitsBefore (narrowed : Bool) (text : List ℕ) (tokens : List Token) (spans : List Span) (items : ℕ) : Type 0 where
  pub longer : List ℕ
  pub output : IsWithOutput text tokens spans items longer
  pub few : HasFewUnits narrowed longer

-- the item with which they have too many units so
abbrev pub IsManyUnitsWith : Bool → List ℕ → List Token → List Span → ℕ → Type 0
IsManyUnitsWith narrowed text tokens spans item =
    IsItemWith (λ items. HasFewUnitsBefore narrowed text tokens spans items) (λ items. HasManyUnits narrowed text tokens spans items)
    (length spans) item
