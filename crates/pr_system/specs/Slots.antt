-- The files that a shelf keeps open, by their names.
use Rattle.std.specs.Prelude.{◌≡◌, ℕ, ◌+◌, ◌-◌, ◌%◌, ◌^◌, ◌<◌, ◌⊎◌, Bool, true, false, List, [], ◌∷◌, length, min, ⊤, Option, Some, None, IsSome, IfSome, nat_eq, if◌then◌else◌, string_bytes, slice_index_or, slice_set}
use Rattle.std.specs.Option.{IsSomeAnd}
use Rattle.std.specs.Cmp.Lexicographic.{pointwise}
use Rattle.std.specs.Fs.{IsFile}
use Rattle.std.specs.Io.KnownBytes.{Consumes}
use Rattle.pr_system.specs.declared.opened.Opened.{Opened}
use Rattle.pr_system.specs.declared.slots.Slot.{Slot}

-- the slot is that of the file of this name
abbrev pub has_name : {F : Type 0} → List ℕ → Slot F → Bool
has_name name s = pointwise nat_eq (string_bytes s.name) name

-- the slot of the file of this name: the first of them
abbrev pub slot_in : {F : Type 0} → List (Slot F) → List ℕ → Option (Slot F)
slot_in [] name = None
slot_in (s ∷ ss) name = if has_name name s then Some s else slot_in ss name

-- no slot before this one is that of the file of this name
abbrev pub NoneBefore : {F : Type 0} → List (Slot F) → List ℕ → ℕ → Type 0
NoneBefore {F = F} slots name i = (k : ℕ) (d : Slot F) → k < i → has_name name (slice_index_or slots k d) ≡ false

-- this slot is the first that is that of the file of this name
pub record IsFirst {F : Type 0} (slots : List (Slot F)) (name : List ℕ) (i : ℕ) : Type 0 where
  pub within : i < length slots
  pub here : (d : Slot F) → has_name name (slice_index_or slots i d) ≡ true
  pub before : NoneBefore slots name i

-- the file of this name has this slot, or has none and is to have it
abbrev pub IsSlotFor : {F : Type 0} → List (Slot F) → List ℕ → ℕ → Type 0
IsSlotFor slots name i = IsFirst slots name i ⊎ NoneBefore slots name (length slots)

-- this slot was taken out of its place
pub record IsTakenOut {F : Type 0} (before after : List (Slot F)) (i : ℕ) (s : Slot F) : Type 0 where
  pub slot : s ≡ slice_index_or before i s
  pub rest : (v : Slot F) → slice_set after i v ≡ slice_set before i v
  pub same : length after ≡ length before

-- a name that has a slot keeps it, and the next turn stays; one that has none takes the slot whose turn it is, and then the
-- slot after it has its turn
pub record IsInTurn {F : Type 0} (slots : List (Slot F)) (next after : ℕ) (name : List ℕ) (i : ℕ) : Type 0 where
  pub kept : IsSome (slot_in slots name) → IsFirst slots name i × (after ≡ next)
  pub taken : slot_in slots name ≡ None → (i ≡ next) × (after ≡ (next + 1) % length slots)

-- all slots but that of this name stay as they were, by turns
pub record IsTurn {F : Type 0} (before now : List (Slot F)) (next after : ℕ) (name : List ℕ) : Type 0 where
  pub place : ℕ
  pub turn : IsInTurn before next after name place
  pub slot : Slot F
  pub rest : now ≡ slice_set before place slot

-- its file is open, and a read of it may wait: the system says that it is no regular file
abbrev pub MayWait : {F : Type 0} → Slot F → Type 0
MayWait s = IsSomeAnd s.opened (λ o. IsFile o.kind → ⊥)

-- its file is open, and was read up to this place
abbrev pub IsOpenAt : {F : Type 0} → Slot F → ℕ → Type 0
IsOpenAt s place = IsSomeAnd s.opened (λ o. o.place ≡ place)

-- the file of this name is open in it, and was read up to this place
pub record IsAt {F : Type 0} (s : Slot F) (name : List ℕ) (place : ℕ) : Type 0 where
  pub named : string_bytes s.name ≡ name
  pub stands : IsOpenAt s place

-- a file that was open at the place gave these bytes, if it is known which bytes it had left
abbrev pub GaveFrom : {F : Type 0} → (F → Option (List ℕ)) → Option (Opened F) → Option (Opened F) → ℕ → List ℕ → Type 0
GaveFrom left None after place bytes = ⊤
GaveFrom left (Some b) None place bytes = b.place ≡ place → ⊥
GaveFrom left (Some b) (Some a) place bytes = b.place ≡ place → Consumes (left b.file) (left a.file) bytes

-- a read under a name from a place on gave so many bytes: the file of the slot stands after them, and gave them where it was
-- open there before
pub record IsRead {F : Type 0} (left : F → Option (List ℕ)) (before after : Slot F) (name : List ℕ) (place count : ℕ) (bytes : List ℕ) : Type 0 where
  pub stands : IsAt after name (min (place + count) (2 ^ 64 - 1))
  pub gave : IsAt before name place → GaveFrom left before.opened after.opened place bytes

-- the same of the slot that a shelf has for the name, where it has one before
pub record IsReadOn {F : Type 0} (left : F → Option (List ℕ)) (before after : List (Slot F)) (name : List ℕ) (place count : ℕ) (bytes : List ℕ) : Type 0 where
  pub slot : IsSomeAnd (slot_in after name) (λ a. IsAt a name (min (place + count) (2 ^ 64 - 1)))
  pub gave : IfSome (slot_in before name) (λ b. IfSome (slot_in after name) (λ a. IsRead left b a name place count bytes))
