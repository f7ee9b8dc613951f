-- Which tokens of an item are told of a rule that it breaks.
use Rattle.std.specs.Prelude.{ℕ, ◌≡◌, ◌≢◌, ◌<◌, ◌≤◌, ◌+◌, ◌-◌, ◌^◌, ◌⊎◌, ◌++◌, ◌∷◌, [], Bool, true, false, List, Some, is_some, length, min, slice_index}
use Rattle.std.specs.List.{slice_get}
use Rattle.pr_lang.specs.declared.tokens.Kind.TheVariants.{Number}
use Rattle.pr_lang.specs.declared.tokens.Token.{Token}
use Rattle.pr_lang.specs.declared.trees.Item.{Item}
use Rattle.pr_lang.specs.declared.trees.Program.{Program}
use Rattle.pr_scope_names.specs.declared.rules.Rule.{Rule}
use Rattle.pr_scope_names.specs.declared.rules.Rule.TheVariants.{Introduced, Bounds, Recurrences}
use Rattle.pr_scope_names.specs.Outcomes.{number_of}
use Rattle.pr_scope.specs.Walk.{broken, offence}
use Rattle.pr_compile_front.specs.Refusals.{IsRead}
use Rattle.pr_lens_items.specs.declared.cuts.Cut.{Cut}
use Rattle.pr_lens_items.specs.Steps.{Entry, item_piece}
use Rattle.pr_lens_find.specs.declared.offences.By.{By}
use Rattle.pr_lens_find.specs.declared.offences.By.TheVariants as by
use Rattle.pr_lens_source.specs.declared.sources.Span.{Span}
use Rattle.pr_lens_find.specs.Fronts.{Spot, IsUnread, WithCut, front_in}
use Rattle.pr_lens_source.specs.Introduced.{introduced_before}
use Rattle.pr_lens_source.specs.Names.{IsEarlierName}
use Rattle.pr_lens_source.specs.Spans.{StandsIn}
use Rattle.pr_lens_source.specs.Tokens.{kind_of, first_of, front_text}

-- a width that is none: a number that is 0 or above 128
pub record IsWrongWidth (tokens : List Token) (token : ℕ) : Type 0 where
  pub bits : ℕ
  pub number : kind_of tokens token ≡ Number bits
  pub wrong : (bits < 1) ⊎ (128 < bits)

-- the first of these widths that is none
pub record IsFirstWrong (tokens : List Token) (widths : List ℕ) (token : ℕ) : Type 0 where
  pub place : ℕ
  pub there : slice_get widths place ≡ Some token
  pub wrong : IsWrongWidth tokens token
  pub first : (k : ℕ) → k < place → IsWrongWidth tokens (slice_index widths k) → ⊥

-- the same name stands before
pub record StandsBefore (text : List ℕ) (tokens : List Token) (token : ℕ) : Type 0 where
  pub earlier : ℕ
  pub is : IsEarlierName text tokens token earlier

-- the same name is introduced before, and visible still
abbrev pub is_again : List ℕ → List Token → List Span → ℕ → Bool
is_again text tokens spans token = is_some (introduced_before text tokens spans token)

-- the first of these names, where none of them is introduced before
pub record IsFirstName (text : List ℕ) (tokens : List Token) (spans : List Span) (names : List ℕ) (token : ℕ) : Type 0 where
  pub first : slice_get names 0 ≡ Some token
  pub none : (k : ℕ) → k < length names → is_again text tokens spans (slice_index names k) ≡ false

-- it is introduced before, and the same name stands there
pub record IsIntroduced (text : List ℕ) (tokens : List Token) (spans : List Span) (token : ℕ) : Type 0 where
  pub again : is_again text tokens spans token ≡ true
  pub before : StandsBefore text tokens token

-- a name that is told to be introduced again: the first that is introduced before, or else the frame's own
pub record IsAgain (text : List ℕ) (tokens : List Token) (spans : List Span) (names : List ℕ) (token : ℕ) : Type 0 where
  pub place : ℕ
  pub there : slice_get names place ≡ Some token
  pub first : (k : ℕ) → k < place → is_again text tokens spans (slice_index names k) ≡ false
  pub is : IsIntroduced text tokens spans token ⊎ IsFirstName text tokens spans names token

-- none of these is a width that is none
abbrev pub HasNoWrong : List Token → List ℕ → Type 0
HasNoWrong tokens widths = (k : ℕ) → k < length widths → IsWrongWidth tokens (slice_index widths k) → ⊥

-- ---- an item that is cut off
-- the item, cut off so, breaks the rule
abbrev pub Breaks : Spot → Rule → Cut → Type 0
Breaks spot rule cut = WithCut spot cut (λ program. offence program ≡ Some (broken (number_of rule) spot.number))

-- it does not
abbrev pub Keeps : Spot → Rule → Cut → Type 0
Keeps spot rule cut = WithCut spot cut (λ program. offence program ≢ Some (broken (number_of rule) spot.number))

abbrev pub BreaksNot : Spot → Rule → Cut → Type 0
BreaksNot spot rule cut = IsUnread (front_in spot) ⊎ Keeps spot rule cut

-- how far an item is cut off by a count, as far as 32 bits count
abbrev pub short : ℕ → ℕ
short count = min count 4294967295

abbrev pub cut_by : By → ℕ → Cut
cut_by (by.Values frames) kept = record { values = short kept; frames = short frames; fixeds = 4294967295 }
cut_by by.Frames kept = record { values = 0; frames = short kept; fixeds = 4294967295 }
cut_by (by.Fixeds frames) kept = record { values = 0; frames = short frames; fixeds = short kept }

-- cut off behind so many it breaks the rule, and cut off behind one less it does not
pub record Turns (spot : Spot) (rule : Rule) (what : By) (count : ℕ) : Type 0 where
  pub some : 0 < count
  pub breaks : Breaks spot rule (cut_by what count)
  pub keeps : Keeps spot rule (cut_by what (count - 1))

-- such a count is no greater than this one
pub record TurnsUpTo (spot : Spot) (rule : Rule) (what : By) (most count : ℕ) : Type 0 where
  pub turns : Turns spot rule what count
  pub within : count ≤ most

-- no such count was found: cut off behind none it breaks the rule, or behind this many it does not
abbrev pub TurnsNot : Spot → Rule → By → ℕ → Type 0
TurnsNot spot rule what most = Breaks spot rule (cut_by what 0) ⊎ ((most ≤ 0) ⊎ BreaksNot spot rule (cut_by what most))

-- the point of an expression behind which the rule is broken, and before which it is not, in so many frames
pub record IsValue (spot : Spot) (rule : Rule) (frames : ℕ) (values : List ℕ) (token : ℕ) : Type 0 where
  pub count : ℕ
  pub there : slice_get values (count - 1) ≡ Some token
  pub turns : Turns spot rule (by.Values frames) count

-- the first frame with which the rule is broken, whatever its expressions are
pub record IsFirstFrame (spot : Spot) (rule : Rule) (number : ℕ) : Type 0 where
  pub some : 0 < number
  pub breaks : Breaks spot rule (cut_by by.Frames number)
  pub keeps : 1 < number → Keeps spot rule (cut_by by.Frames (number - 1))

-- neither with the first frame nor with this many is the rule broken, whatever the expressions are
pub record HasNoFrame (spot : Spot) (rule : Rule) (most : ℕ) : Type 0 where
  pub one : BreaksNot spot rule (cut_by by.Frames 1)
  pub all : (most ≤ 1) ⊎ BreaksNot spot rule (cut_by by.Frames most)

-- a rule that constant expressions can break, and neither names, widths nor an initial value alone
pub record IsOfConstants (rule : Rule) : Type 0 where
  pub names : rule ≢ Introduced
  pub widths : rule ≢ Bounds
  pub initial : rule ≢ Recurrences

-- of the frame of this number, by what the rule is about: a name that stands twice; the first width that is none; the last point of
-- its constant expressions, which is that of a whole initial value; or the one behind which the rule is broken, and before which it is not
pub data IsOfFrame (spot : Spot) (rule : Rule) (number : ℕ) (entry : Entry) (token : ℕ) : Type 0 where
  Again : rule ≡ Introduced → IsAgain spot.text spot.tokens spot.spans entry.names token → IsOfFrame spot rule number entry token
  WrongWidth : rule ≡ Bounds → IsFirstWrong spot.tokens entry.widths token → IsOfFrame spot rule number entry token
  Initial : rule ≡ Recurrences → slice_get entry.fixeds (length entry.fixeds - 1) ≡ Some token → IsOfFrame spot rule number entry token
  Constant : (count : ℕ) → IsOfConstants rule → slice_get entry.fixeds (count - 1) ≡ Some token → Turns spot rule (by.Fixeds number) count → IsOfFrame spot rule number entry token

-- of an item: a point of the expressions in the frames before the first with which the rule is broken, or else a token of that
-- frame; where there is no such frame, a point of all its expressions
pub data IsOfItem (spot : Spot) (rule : Rule) (values : List ℕ) (frames : List Entry) (token : ℕ) : Type 0 where
  Before : (number : ℕ) → IsFirstFrame spot rule number → 1 < number → IsValue spot rule (number - 1) values token → IsOfItem spot rule values frames token
  Framed : (number : ℕ) (entry : Entry) → IsFirstFrame spot rule number → (1 < number → TurnsNot spot rule (by.Values (number - 1)) (length values)) → slice_get frames (number - 1) ≡ Some entry
      → IsOfFrame spot rule number entry token → IsOfItem spot rule values frames token
  Anywhere : HasNoFrame spot rule (length frames) → IsValue spot rule 18446744073709551615 values token → IsOfItem spot rule values frames token

-- ---- where nothing is told
-- nothing of the frame of this number: it has no name, no width that is none, no initial value, or no such point of a constant
-- expression, by what the rule is about
pub data HasNoneOfFrame (spot : Spot) (rule : Rule) (number : ℕ) (entry : Entry) : Type 0 where
  NoName : rule ≡ Introduced → entry.names ≡ [] → HasNoneOfFrame spot rule number entry
  NoWrong : rule ≡ Bounds → HasNoWrong spot.tokens entry.widths → HasNoneOfFrame spot rule number entry
  NoInitial : rule ≡ Recurrences → entry.fixeds ≡ [] → HasNoneOfFrame spot rule number entry
  NoConstant : IsOfConstants rule → TurnsNot spot rule (by.Fixeds number) (length entry.fixeds) → HasNoneOfFrame spot rule number entry

-- there is no frame of this number, or nothing of it is told
pub data HasNoneAt (spot : Spot) (rule : Rule) (frames : List Entry) (number : ℕ) : Type 0 where
  Past : length frames ≤ number - 1 → HasNoneAt spot rule frames number
  Within : (entry : Entry) → slice_get frames (number - 1) ≡ Some entry → HasNoneOfFrame spot rule number entry → HasNoneAt spot rule frames number

-- no point of an expression is told, and nothing of the first frame with which the rule is broken, or there is no such frame
pub data HasNoneOfItem (spot : Spot) (rule : Rule) (values : List ℕ) (frames : List Entry) : Type 0 where
  Unframed : HasNoFrame spot rule (length frames) → TurnsNot spot rule (by.Values 18446744073709551615) (length values) → HasNoneOfItem spot rule values frames
  AtFrame : (number : ℕ) → IsFirstFrame spot rule number → (1 < number → TurnsNot spot rule (by.Values (number - 1)) (length values)) → HasNoneAt spot rule frames number → HasNoneOfItem spot rule values frames

-- the last item of the text up to this one
pub record IsItemOf (text : List ℕ) (tokens : List Token) (spans : List Span) (number : ℕ) (item : Item) : Type 0 where
  pub program : Program
  pub read : IsRead (front_text text tokens spans (min (number + 1) (2 ^ 64 - 1))) program
  pub before : List Item
  pub last : program.items.items ≡ before ++ item ∷ []

-- the text up to this item is that of no program, or of one without items
pub record HasNoItems (text : List ℕ) : Type 0 where
  pub program : Program
  pub read : IsRead text program
  pub none : program.items.items ≡ []

abbrev pub HasNoItem : List ℕ → List Token → List Span → ℕ → Type 0
HasNoItem text tokens spans number =
    IsUnread (front_text text tokens spans (min (number + 1) (2 ^ 64 - 1))) ⊎ HasNoItems (front_text text tokens spans (min (number + 1) (2 ^ 64 - 1)))

-- the points of its expressions and its frames, by its tree, whose first token is counted as far as 32 bits go
abbrev pub values_in : Spot → List ℕ
values_in spot = (item_piece spot.item).values (short (first_of spot.tokens spot.spans spot.number)) []

abbrev pub frames_in : Spot → List Entry
frames_in spot = (item_piece spot.item).frames (short (first_of spot.tokens spot.spans spot.number)) []

abbrev pub IsOfTree : Spot → Rule → ℕ → Type 0
IsOfTree spot rule token = IsOfItem spot rule (values_in spot) (frames_in spot) token

abbrev pub HasNoneOfTree : Spot → Rule → Type 0
HasNoneOfTree spot rule = HasNoneOfItem spot rule (values_in spot) (frames_in spot)

-- of the item of this number
pub record IsFoundIn (text : List ℕ) (tokens : List Token) (spans : List Span) (rule : Rule) (number token : ℕ) : Type 0 where
  pub item : Item
  pub is : IsItemOf text tokens spans number item
  pub tells : IsOfTree (record { text = text; tokens = tokens; spans = spans; number = number; item = item }) rule token

-- nothing of it
pub record IsFoundNot (text : List ℕ) (tokens : List Token) (spans : List Span) (rule : Rule) (number : ℕ) : Type 0 where
  pub item : Item
  pub is : IsItemOf text tokens spans number item
  pub none : HasNoneOfTree (record { text = text; tokens = tokens; spans = spans; number = number; item = item }) rule

-- there is no such item, it cannot be read, or nothing of it is told
pub data IsNowhere (text : List ℕ) (tokens : List Token) (spans : List Span) (rule : Rule) (number : ℕ) : Type 0 where
  Behind : length spans ≤ number → IsNowhere text tokens spans rule number
  Unread : HasNoItem text tokens spans number → IsNowhere text tokens spans rule number
  Untold : IsFoundNot text tokens spans rule number → IsNowhere text tokens spans rule number

-- what is found does not stand in the item
pub record IsFoundOutside (text : List ℕ) (tokens : List Token) (spans : List Span) (rule : Rule) (number : ℕ) : Type 0 where
  pub found : ℕ
  pub is : IsFoundIn text tokens spans rule number found
  pub outside : StandsIn tokens spans number found → ⊥

-- the item's first token, since none of those is found, or it stands not in the item
pub record IsFirstOnly (text : List ℕ) (tokens : List Token) (spans : List Span) (rule : Rule) (number token : ℕ) : Type 0 where
  pub first : token ≡ first_of tokens spans number
  pub why : IsNowhere text tokens spans rule number ⊎ IsFoundOutside text tokens spans rule number

-- what is told: one of those, or else the item's first token
abbrev pub IsTold : List ℕ → List Token → List Span → Rule → ℕ → ℕ → Type 0
IsTold text tokens spans rule number token = IsFoundIn text tokens spans rule number token ⊎ IsFirstOnly text tokens spans rule number token
