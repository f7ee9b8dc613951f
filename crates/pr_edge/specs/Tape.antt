-- What a sink tells of the bytes that were written to it.
use Rattle.std.specs.Prelude.{◌≡◌, ℕ, ◌+◌, ◌≤◌, List, ◌++◌, length, take, ⊤, Option, Some, None, IsSome, IfSome}

-- the bytes written, where the sink tells them, and the number of bytes up to which it goes on telling them
pub record Tape : Type 0 where
  pub bytes : Option (List ℕ)
  pub keeps : ℕ

-- a sink that tells nothing
abbrev pub untold : Tape
untold = record { bytes = None; keeps = 0 }

-- what a sink shows: what it tells of its bytes, and its count of faults
pub record Written : Type 0 where
  pub told : Tape
  pub faults : ℕ

-- where the bytes are told after, they were told before, and this piece was added at the end
abbrev pub IsAppended : Option (List ℕ) → Option (List ℕ) → List ℕ → Type 0
IsAppended old None piece = ⊤
IsAppended None (Some now) piece = ⊥
IsAppended (Some before) (Some now) piece = now ≡ before ++ piece

-- this piece was written, and nothing else
pub record Appends (old new : Tape) (piece : List ℕ) : Type 0 where
  pub appended : IsAppended old.bytes new.bytes piece
  pub told : IfSome old.bytes (λ before. length before + length piece ≤ old.keeps → IsSome new.bytes)
  pub same : new.keeps ≡ old.keeps

-- some first bytes of these were written, and nothing else
abbrev pub AppendsFront : Tape → Tape → List ℕ → Type 0
AppendsFront old new bytes = (k : ℕ) × Appends old new (take k bytes)
