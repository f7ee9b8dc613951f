-- What the rules of scope say of the front of a text.
use Rattle.std.specs.Prelude.{ℕ, ◌≡◌, ◌≢◌, ◌⊎◌, List, None, Some, length}
use Rattle.pr_lang.specs.declared.tokens.Token.{Token}
use Rattle.pr_lang.specs.declared.trees.Item.{Item}
use Rattle.pr_lang.specs.declared.trees.Program.{Program}
use Rattle.pr_lang.specs.Syntax.{refusal_of}
use Rattle.pr_scope.specs.Walk.{broken, offence, too_long}
use Rattle.pr_compile_front.specs.Refusals.{HasOffence, IsRead}
use Rattle.pr_lens_items.specs.declared.cuts.Cut.{Cut}
use Rattle.pr_lens_items.specs.Cuts.{IsCutOff}
use Rattle.pr_lens_find.specs.declared.fronts.Part.{Part}
use Rattle.pr_lens_find.specs.declared.fronts.Seen.{Seen}
use Rattle.pr_lens_find.specs.declared.fronts.Seen.TheVariants.{Kept, Broken, TooLong}
use Rattle.pr_lens_source.specs.declared.sources.Span.{Span}
use Rattle.pr_lens_source.specs.Tokens.{front_text}
use Rattle.pr_lens_find.specs.Turns.{IsItemWith}

-- what is said of a program
abbrev pub IsSeen : Program → Seen → Type 0
IsSeen program Kept = offence program ≡ None
IsSeen program (Broken rule item) = offence program ≡ Some (broken rule item)
IsSeen program TooLong = offence program ≡ Some too_long

-- a text that is that of no program, or nested too deep
abbrev pub IsUnread : List ℕ → Type 0
IsUnread text = refusal_of text ≢ None

-- the walk over the program of a text is not too long
pub record HasShortWalk (text : List ℕ) : Type 0 where
  pub program : Program
  pub read : IsRead text program
  pub short : offence program ≢ Some too_long

abbrev pub IsNotLong : List ℕ → Type 0
IsNotLong text = IsUnread text ⊎ HasShortWalk text

-- the item with which the walk becomes too long
abbrev pub IsLongWith : List ℕ → List Token → List Span → ℕ → Type 0
IsLongWith text tokens spans item =
    IsItemWith (λ items. IsNotLong (front_text text tokens spans items)) (λ items. HasOffence (front_text text tokens spans items) too_long)
    (length spans) item

-- ---- an item of a text that is cut off
pub record Spot : Type 0 where
  pub text : List ℕ
  pub tokens : List Token
  pub spans : List Span
  pub number : ℕ
  pub item : Item

abbrev pub spot_of : Part → Spot
spot_of part = record {
  text = part.source.text.now;
  tokens = part.source.tokens.now;
  spans = part.source.spans.now;
  number = part.number;
  item = part.item.now;
}

-- the text of the items before it
abbrev pub front_in : Spot → List ℕ
front_in spot = front_text spot.text spot.tokens spot.spans spot.number

-- a program is that of this text, cut off in the item behind it
pub record IsCutFront (spot : Spot) (cut : Cut) (program : Program) : Type 0 where
  pub front : Program
  pub read : IsRead (front_in spot) front
  pub is : IsCutOff front spot.item cut program

-- this holds of such a program
pub record WithCut (spot : Spot) (cut : Cut) (Holds : Program → Type 0) : Type 0 where
  pub program : Program
  pub cut_off : IsCutFront spot cut program
  pub holds : Holds program
