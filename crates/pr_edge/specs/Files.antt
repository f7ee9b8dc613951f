-- What a shelf tells of its files, and what a read gives.
use Rattle.std.specs.Prelude.{◌≡◌, ℕ, ◌+◌, ◌<◌, ◌≤◌, ◌⊎◌, List, length, take, drop, ⊤, Option, Some, None, Result, Ok, Err, IfSome, IsSome, if◌then◌else◌, ◌==◌}
use Rattle.pr_edge.specs.Count.{Rose}

-- the bytes of each file by its name, where the shelf tells them
abbrev pub Told : Type 0
Told = Option (List ℕ → Option (List ℕ))

-- what a shelf shows: what it tells of its files, how far it says that each was read in order, and its count of faults
pub record View : Type 0 where
  pub told : Told
  pub reach : List ℕ → Option ℕ
  pub faults : ℕ

-- a fact of the bytes of a file, where they are told
abbrev pub OfFile : Told → List ℕ → (List ℕ → Type 0) → Type 0
OfFile None name P = ⊤
OfFile (Some files) name P = IfSome (files name) P

-- the shelf tells that it has no such file
abbrev pub IsMissing : Told → List ℕ → Type 0
IsMissing None name = ⊥
IsMissing (Some files) name = files name ≡ None

-- a read may fail: the file is told not to be there, or the count of faults rose
abbrev pub HasReadCause : Told → List ℕ → ℕ → ℕ → Type 0
HasReadCause told name before now = IsMissing told name ⊎ Rose before now

-- the first bytes of the buffer are those of the file from a place on; none go into a buffer with room only at the end
pub record IsPart (file : List ℕ) (place count : ℕ) (buffer : List ℕ) : Type 0 where
  pub within : count ≤ length (drop place file)
  pub part : take count buffer ≡ take count (drop place file)
  pub end : 0 < length buffer → count ≡ 0 → length file ≤ place

-- a read of this many bytes from a place on moves the reach there; a read of bytes elsewhere leaves no reach
abbrev pub raised : Option ℕ → ℕ → ℕ → Option ℕ
raised None place count = None
raised (Some reach) place count =
    if place == reach then Some (reach + count) else (if count == 0 then Some reach else None)

-- the reach of the name that a read was for; a failure leaves it
abbrev pub reach_after : {E : Type 0} → Result ℕ E → Option ℕ → ℕ → Option ℕ
reach_after (Ok count) reach place = raised reach place count
reach_after (Err e) reach place = reach

-- a file of which nothing was read before was read in order, and no byte of it twice, up to this place at most
abbrev pub IsReadOnce : ℕ → Option ℕ → Option ℕ → Type 0
IsReadOnce most before now = before ≡ Some 0 → (IsSome now × IfSome now (λ r. r ≤ most))

-- a file of which nothing was read before was read in order, and no byte of it twice, up to this place
abbrev pub IsReadThrough : ℕ → Option ℕ → Option ℕ → Type 0
IsReadThrough place before now = before ≡ Some 0 → now ≡ Some place

-- these bytes begin the file
pub record IsPrefix (bytes file : List ℕ) : Type 0 where
  pub within : length bytes ≤ length file
  pub front : bytes ≡ take (length bytes) file
