-- Units with state.
use Rattle.std.specs.Prelude.{ℕ, ◌+◌, ◌-◌, List, ◌∷◌}
use Rattle.pr_base.specs.Numbers.{slices_of, byte_at}
use Rattle.pr_base.specs.declared.choices.Next.{Next}
use Rattle.pr_net.specs.declared.cells.Slice.{Slice}
use Rattle.pr_net.specs.declared.cells.Wire.{Wire}
use Rattle.pr_net.specs.declared.cells.Cell.{Cell}
use Rattle.pr_cut_units.specs.Cells.{plain, top, byte, table_a, table_b}
use Rattle.pr_cut_units.specs.Parts.{Making, each, one_unit, followed_by}
use Rattle.pr_cut_units.specs.Widening.{Argument, widened}

-- Delay(c): the state of the cell, which becomes byte i of x
abbrev pub delayed_cell : ℕ → List Slice → ℕ → ℕ → Cell
delayed_cell c x u i = record plain { a = byte x i; hi = Wire.State u i; table = table_b; next = Next.A; init = byte_at c i }

abbrev pub delayed : ℕ → ℕ → List Slice → Making
delayed w c x u = one_unit (slices_of w) (λ i. delayed_cell c x u i) u

-- hold unit 1: the value now, which becomes the state
abbrev pub hold_cell : ℕ → ℕ → List Slice → ℕ → Cell
hold_cell w init x i = record plain { a = byte x i; table = table_a; mask = top w i; next = Next.Output; init = byte_at init i }

-- a later one, which holds the state of the hold unit before it, of this number
abbrev pub later_cell : ℕ → ℕ → ℕ → Cell
later_cell init before i = record plain { a = Wire.State before i; table = table_a; next = Next.Output; init = byte_at init i }

-- hold units 1 to k; the value's slices are those of the first
abbrev pub hold_units : ℕ → ℕ → ℕ → List Slice → Making
hold_units w init k x u = record {
  units = each (slices_of w) (hold_cell w init x) ∷ each (k - 1) (λ j. each (slices_of w) (later_cell init (u + j)));
  slices = each (slices_of w) (λ i. Slice.Of u i);
}

-- Rec, of a body that is widened first
abbrev pub held : ℕ → ℕ → ℕ → Argument → Making
held w init k body = followed_by (widened body w) (λ x. hold_units w init k x)

-- the slices of a past: the states of this hold unit
abbrev pub past_slices : ℕ → ℕ → List Slice
past_slices w u = each (slices_of w) (λ i. Slice.State u i)
