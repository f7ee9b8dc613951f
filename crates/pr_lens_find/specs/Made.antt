-- What is made of a program with an input and an output behind its items, where it has none.
use Rattle.std.specs.Prelude.{ℕ, ◌≡◌, ◌≢◌, ◌⊎◌, ◌<◌, ◌≤◌, ◌++◌, ◌∷◌, [], Bool, true, false, List, None, codes, if◌then◌else◌, length, min}
use Rattle.std.specs.List.{list_any}
use Rattle.pr_lang.specs.declared.tokens.Token.{Token}
use Rattle.pr_lang.specs.declared.trees.Expr.TheVariants as expr
use Rattle.pr_lang.specs.declared.trees.Item.{Item}
use Rattle.pr_lang.specs.declared.trees.Item.TheVariants as item
use Rattle.pr_lang.specs.declared.trees.Program.{Program}
use Rattle.pr_scope.specs.Walk.{offence}
use Rattle.pr_flat.specs.declared.flat.Flat.{Flat}
use Rattle.pr_flat.specs.Flats as flats
use Rattle.pr_expand_spec.specs.Programs.{equations_of}
use Rattle.pr_compile_front.specs.Refusals.{IsRead}
use Rattle.pr_lens_items.specs.declared.cuts.Cut.{Cut}
use Rattle.pr_lens_find.specs.declared.equations.Equations.{Equations}
use Rattle.pr_lens_find.specs.declared.equations.Equations.TheVariants as made
use Rattle.pr_lens_source.specs.declared.sources.Span.{Span}
use Rattle.pr_lens_find.specs.Fronts.{Spot, IsUnread, WithCut, front_in}
use Rattle.pr_lens_source.specs.Tokens.{front_text}
use Rattle.pr_lens_find.specs.Turns.{IsItemWith}

abbrev pub is_input : Item → Bool
is_input (item.Input name width) = true
is_input (item.Output name width value) = false
is_input (item.Const name value) = false
is_input (item.Table name values) = false
is_input (item.Function name params width body result) = false
is_input (item.Step statement) = false

abbrev pub is_output : Item → Bool
is_output (item.Input name width) = false
is_output (item.Output name width value) = true
is_output (item.Const name value) = false
is_output (item.Table name values) = false
is_output (item.Function name params width body result) = false
is_output (item.Step statement) = false

-- under names that no text has
abbrev pub own_input : Item
own_input = item.Input (codes "?in") 1

abbrev pub own_output : Item
own_output = item.Output (codes "?out") None (expr.Number 0)

abbrev pub with_input : List Item → List Item
with_input items = if list_any is_input items then items else items ++ own_input ∷ []

abbrev pub with_output : List Item → List Item
with_output items = if list_any is_output items then items else items ++ own_output ∷ []

-- items with ends: an input and an output behind them, where there is none
abbrev pub with_ends : List Item → List Item
with_ends items = with_output (with_input items)

-- ---- a program that keeps the rules of scope
abbrev pub IsMadeOf : Program → Equations → Type 0
IsMadeOf program (made.Flat flat) = flats.equations_of flat ≡ (equations_of program).equations
IsMadeOf program made.TooMany = 16384 < length (equations_of program).equations
IsMadeOf program made.Refused = ⊥

-- ---- a program, with ends
-- it keeps the rules of scope, and these are its equations
pub record HasFlat (program : Program) (flat : Flat) : Type 0 where
  pub ended : Program
  pub ends : ended.items.items ≡ with_ends program.items.items
  pub lawful : offence ended ≡ None
  pub equations : flats.equations_of flat ≡ (equations_of ended).equations

-- it keeps the rules of scope, and has more equations than this
pub record HasMore (program : Program) (count : ℕ) : Type 0 where
  pub ended : Program
  pub ends : ended.items.items ≡ with_ends program.items.items
  pub lawful : offence ended ≡ None
  pub more : count < length (equations_of ended).equations

-- it breaks a rule of scope
pub record IsUnlawful (program : Program) : Type 0 where
  pub ended : Program
  pub ends : ended.items.items ≡ with_ends program.items.items
  pub unlawful : offence ended ≢ None

abbrev pub IsMade : Program → Equations → Type 0
IsMade program (made.Flat flat) = HasFlat program flat
IsMade program made.TooMany = HasMore program 16384
IsMade program made.Refused = IsUnlawful program

-- ---- the program of a text, with ends
pub record HasFlatIn (text : List ℕ) (flat : Flat) : Type 0 where
  pub program : Program
  pub read : IsRead text program
  pub has : HasFlat program flat

pub record HasMoreIn (text : List ℕ) (count : ℕ) : Type 0 where
  pub program : Program
  pub read : IsRead text program
  pub has : HasMore program count

pub record HasUnlawful (text : List ℕ) : Type 0 where
  pub program : Program
  pub read : IsRead text program
  pub has : IsUnlawful program

abbrev pub IsMadeIn : List ℕ → Equations → Type 0
IsMadeIn text (made.Flat flat) = HasFlatIn text flat
IsMadeIn text made.TooMany = HasMoreIn text 16384
IsMadeIn text made.Refused = IsUnread text ⊎ HasUnlawful text

-- it has no more equations than this, where it keeps the rules of scope
pub record HasFewIn (text : List ℕ) (count : ℕ) : Type 0 where
  pub program : Program
  pub read : IsRead text program
  pub ended : Program
  pub ends : ended.items.items ≡ with_ends program.items.items
  pub few : offence ended ≡ None → length (equations_of ended).equations ≤ count

abbrev pub HasNoMoreIn : List ℕ → ℕ → Type 0
HasNoMoreIn text count = IsUnread text ⊎ HasFewIn text count

-- ---- the program of a text, cut off in the item behind it, with ends
-- so many points of expressions are kept, as far as 32 bits count, and all frames
abbrev pub values_cut : ℕ → Cut
values_cut values = record { values = min values 4294967295; frames = 4294967295; fixeds = 4294967295 }

abbrev pub IsMadeCut : Spot → Cut → Equations → Type 0
IsMadeCut spot cut (made.Flat flat) = WithCut spot cut (λ program. HasFlat program flat)
IsMadeCut spot cut made.TooMany = WithCut spot cut (λ program. HasMore program 16384)
IsMadeCut spot cut made.Refused = IsUnread (front_in spot) ⊎ WithCut spot cut IsUnlawful

-- ---- the item that makes an equation
-- with it the items have more equations than this number, or than are allowed
abbrev pub IsManyWith : List ℕ → List Token → List Span → ℕ → ℕ → Type 0
IsManyWith text tokens spans equation item =
    IsItemWith (λ items. HasNoMoreIn (front_text text tokens spans items) equation) (λ items. HasMoreIn (front_text text tokens spans items) (min equation 16384))
    (length spans) item
