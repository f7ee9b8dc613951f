-- Equations without widths, and what is told of them.
use Rattle.std.specs.Prelude.{ℕ, ◌≡◌, ◌⊎◌, ◌-◌, ◌<◌, ◌≤◌, length, List, [], ◌∷◌, Option, None, Some, map, nat_lt, option_and_then, unwrap_or, if◌then◌else◌}
use Rattle.std.specs.List.{slice_get}
use Rattle.std.specs.Option.{option_map_or}
use Rattle.pr_lang.specs.declared.tokens.Token.{Token}
use Rattle.pr_lang.specs.declared.trees.Item.{Item}
use Rattle.pr_flat.specs.declared.equations.Operand.{Operand}
use Rattle.pr_flat.specs.declared.equations.Operand.TheVariants.{Const, Eq, Past}
use Rattle.pr_flat.specs.declared.flat.Flat.{Flat}
use Rattle.pr_flat.specs.Facts.{is_rec}
use Rattle.pr_flat.specs.Flats.{equations_of}
use Rattle.pr_flat.specs.Shape.{EquationShape}
use Rattle.pr_flat.specs.Widths.{AreWidths, IsFirstWithout, operand_width}
use Rattle.pr_lens_source.specs.declared.sources.Span.{Span}
use Rattle.pr_lens_find.specs.declared.widths.Extent.{Extent}
use Rattle.pr_lens_find.specs.declared.widths.Extent.TheVariants as extent
use Rattle.pr_lens_find.specs.declared.widths.Missing.{Missing}
use Rattle.pr_lens_find.specs.Fronts.{Spot, IsUnread, WithCut, front_in}
use Rattle.pr_lens_find.specs.Made.{HasFlat, HasMore, IsUnlawful, IsManyWith, values_cut}
use Rattle.pr_lens_find.specs.Offences.{HasNoItem, IsItemOf, values_in}
use Rattle.pr_lens_source.specs.Spans.{StandsIn}
use Rattle.pr_lens_source.specs.Tokens.{first_of}

-- these equations have widths
pub record HaveWidths (equations : List EquationShape) : Type 0 where
  pub widths : List ℕ
  pub are : AreWidths equations widths

-- ---- what is told of an equation
-- this one is among them
pub record IsEquation (equations : List EquationShape) (equation : EquationShape) : Type 0 where
  pub number : ℕ
  pub there : slice_get equations number ≡ Some equation

-- the equation whose operands tell most of why this one has no width: of a recurrence the last one of its body
abbrev pub first_equation : List Operand → Option ℕ
first_equation (Eq equation ∷ args) = Some equation
first_equation args = None

abbrev pub telling_of : List EquationShape → EquationShape → EquationShape
telling_of equations equation =
    if is_rec equation.op then unwrap_or (option_and_then (slice_get equations) (first_equation equation.args)) equation else equation

-- ---- widths of operands
-- two equations are made alike, whatever the kinds of their operands are
pub record AreSame (one other : EquationShape) : Type 0 where
  pub op : one.op ≡ other.op
  pub args : one.args ≡ other.args
  pub declared : one.declared ≡ other.declared

pub record AreSameAt (ones others : List EquationShape) (number : ℕ) : Type 0 where
  pub one : EquationShape
  pub there : slice_get ones number ≡ Some one
  pub other : EquationShape
  pub beside : slice_get others number ≡ Some other
  pub same : AreSame one other

-- so many of both are made alike, from the first on, and no more
pub record AreCommon (ones others : List EquationShape) (count : ℕ) : Type 0 where
  pub same : (number : ℕ) → number < count → AreSameAt ones others number
  pub no_more : AreSameAt ones others count → ⊥

-- how wide an operand is, where it is a number or one of the first so many equations, which have these widths
abbrev pub extent_of : List ℕ → ℕ → Operand → Extent
extent_of widths known (Const number) = extent.Bits (operand_width widths (Const number))
extent_of widths known (Past rec k) = extent.Past
extent_of widths known (Eq equation) =
    if nat_lt equation known then option_map_or (λ (bits : ℕ). extent.Bits bits) (slice_get widths equation) extent.Inside else extent.Inside

-- by the widths of some equations, of which so many are known
pub record AreExtentsOf (equations : List EquationShape) (known : ℕ) (operands : List Operand) (extents : List Extent) : Type 0 where
  pub widths : List ℕ
  pub are : AreWidths equations widths
  pub each : extents ≡ map (extent_of widths known) operands

-- of the operands of the equation that tells most, by the equations of one point less: what both have in common is known
pub record AreOperands (equations before : List EquationShape) (equation : EquationShape) (extents : List Extent) : Type 0 where
  pub known : ℕ
  pub common : AreCommon equations before known
  pub extents_are : AreExtentsOf before known (telling_of equations equation).args extents

-- none, where these have no widths
pub record AreUntold (before : List EquationShape) (extents : List Extent) : Type 0 where
  pub number : ℕ
  pub without : IsFirstWithout before number
  pub none : extents ≡ []

abbrev pub AreExtents : List EquationShape → List EquationShape → EquationShape → List Extent → Type 0
AreExtents equations before equation extents = AreUntold before extents ⊎ AreOperands equations before equation extents

-- the operation of this equation, and the widths of the operands of the one that tells most
pub record Tells (equations before : List EquationShape) (number : ℕ) (missing : Missing) : Type 0 where
  pub equation : EquationShape
  pub there : slice_get equations number ≡ Some equation
  pub op : missing.op ≡ Some equation.op
  pub widths : AreExtents equations before equation missing.widths.items

-- of the first equation without a width, by the equations of one point less
pub record TellsFirst (equations before : List EquationShape) (missing : Missing) : Type 0 where
  pub number : ℕ
  pub without : IsFirstWithout equations number
  pub tells : Tells equations before number missing

-- neither an operation nor widths
pub record IsUnknown (missing : Missing) : Type 0 where
  pub op : missing.op ≡ None
  pub widths : missing.widths.items ≡ []

-- this alone, since all of them have widths
pub record IsUntold (equations : List EquationShape) (missing : Missing) : Type 0 where
  pub unknown : IsUnknown missing
  pub have : HaveWidths equations

abbrev pub IsToldOf : List EquationShape → List EquationShape → Missing → Type 0
IsToldOf equations before missing = IsUntold equations missing ⊎ TellsFirst equations before missing

-- ---- of the program of a text, cut off in the item behind it
-- with so many points of the item's expressions these are its equations
abbrev pub HasFlatWith : Spot → ℕ → Flat → Type 0
HasFlatWith spot count flat = WithCut spot (values_cut count) (λ program. HasFlat program flat)

-- there are none: they are more than are allowed, the items before cannot be read, or a rule of scope is broken
abbrev pub HasNoFlatWith : Spot → ℕ → Type 0
HasNoFlatWith spot count = WithCut spot (values_cut count) (λ program. HasMore program 16384) ⊎ (IsUnread (front_in spot) ⊎ WithCut spot (values_cut count) IsUnlawful)

-- an equation has no width
pub record LacksWidth (spot : Spot) (count : ℕ) : Type 0 where
  pub flat : Flat
  pub has : HasFlatWith spot count flat
  pub number : ℕ
  pub without : IsFirstWithout (equations_of flat) number

-- all have widths
pub record HasAllWidths (spot : Spot) (count : ℕ) : Type 0 where
  pub flat : Flat
  pub has : HasFlatWith spot count flat
  pub have : HaveWidths (equations_of flat)

-- the same, or there are no equations
abbrev pub LacksNone : Spot → ℕ → Type 0
LacksNone spot count = HasAllWidths spot count ⊎ HasNoFlatWith spot count

-- with so many points an equation has no width, and with one less none lacks one
pub record LacksFirst (spot : Spot) (count : ℕ) : Type 0 where
  pub lacks : LacksWidth spot count
  pub none : LacksNone spot (count - 1)

-- no such count up to this one is found: an equation has no width with no point, or none lacks one with so many
abbrev pub LacksNot : Spot → ℕ → Type 0
LacksNot spot most = LacksWidth spot 0 ⊎ ((most ≤ 0) ⊎ LacksNone spot most)

pub record TellsCut (spot : Spot) (count : ℕ) (missing : Missing) : Type 0 where
  pub flat : Flat
  pub has : HasFlatWith spot count flat
  pub before : Flat
  pub had : HasFlatWith spot (count - 1) before
  pub tells : TellsFirst (equations_of flat) (equations_of before) missing

-- neither an operation nor widths, since there are no equations with so many points, all of them have widths, or there are none
-- with one point less
pub data HasNothing (spot : Spot) (count : ℕ) : Type 0 where
  NoFlat : HasNoFlatWith spot count → HasNothing spot count
  AllHave : HasAllWidths spot count → HasNothing spot count
  NoneBefore : HasNoFlatWith spot (count - 1) → HasNothing spot count

pub record TellsNothing (spot : Spot) (count : ℕ) (missing : Missing) : Type 0 where
  pub unknown : IsUnknown missing
  pub why : HasNothing spot count

abbrev pub IsToldCut : Spot → ℕ → Missing → Type 0
IsToldCut spot count missing = TellsNothing spot count missing ⊎ TellsCut spot count missing

-- behind this many points of the item's expressions an equation has no width, and behind one less none lacks one; the token is
-- that of the last of them, where that stands in the item, or else the item's first
pub record TellsSpot (spot : Spot) (missing : Missing) : Type 0 where
  pub count : ℕ
  pub first : LacksFirst spot count
  pub point : (token : ℕ) → slice_get (values_in spot) (count - 1) ≡ Some token → StandsIn spot.tokens spot.spans spot.number token → missing.token ≡ token
  pub other : (missing.token ≡ first_of spot.tokens spot.spans spot.number) ⊎ (slice_get (values_in spot) (count - 1) ≡ Some missing.token)
  pub tells : IsToldCut spot count missing

-- the item's first token alone, since there is no such count of its points
pub record TellsFirstToken (spot : Spot) (missing : Missing) : Type 0 where
  pub first : missing.token ≡ first_of spot.tokens spot.spans spot.number
  pub unknown : IsUnknown missing
  pub why : LacksNot spot (length (values_in spot))

abbrev pub IsToldOfSpot : Spot → Missing → Type 0
IsToldOfSpot spot missing = TellsFirstToken spot missing ⊎ TellsSpot spot missing

-- the same of the item of this number
pub record TellsItem (text : List ℕ) (tokens : List Token) (spans : List Span) (number : ℕ) (missing : Missing) : Type 0 where
  pub item : Item
  pub is : IsItemOf text tokens spans number item
  pub tells : IsToldOfSpot (record { text = text; tokens = tokens; spans = spans; number = number; item = item }) missing

-- its first token alone, since it cannot be read
pub record TellsNoItem (text : List ℕ) (tokens : List Token) (spans : List Span) (number : ℕ) (missing : Missing) : Type 0 where
  pub first : missing.token ≡ first_of tokens spans number
  pub unknown : IsUnknown missing
  pub why : HasNoItem text tokens spans number

-- of the item that makes an equation
pub record IsToldIn (text : List ℕ) (tokens : List Token) (spans : List Span) (equation : ℕ) (missing : Missing) : Type 0 where
  pub number : ℕ
  pub made : IsManyWith text tokens spans equation number
  pub stands : StandsIn tokens spans number missing.token
  pub tells : TellsNoItem text tokens spans number missing ⊎ TellsItem text tokens spans number missing
