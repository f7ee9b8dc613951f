-- What is told of an equation without a width.
use Rattle.std.specs.Prelude.{ℕ, ◌+◌, ◌==◌, Bool, true, false, List, [], ◌∷◌, ◌++◌, Option, None, Some, codes, decimal, if◌then◌else◌}
use Rattle.std.specs.List.{list_any}
use Rattle.pr_flat.specs.declared.equations.Op.{Op}
use Rattle.pr_flat.specs.declared.equations.Op.TheVariants.{Choose, Slice, Rec}
use Rattle.pr_lens_find.specs.declared.widths.Extent.{Extent}
use Rattle.pr_lens_find.specs.declared.widths.Extent.TheVariants.{Bits, Inside}
use Rattle.pr_lens_find.specs.declared.widths.Missing.{Missing}

-- ---- operands
abbrev pub is_inside : Extent → Bool
is_inside Inside = true
is_inside _ = false

abbrev pub extent_text : Extent → List ℕ
extent_text (Bits bits) = decimal bits
extent_text _ = codes "its own past"

abbrev pub comma_text : ℕ → List ℕ
comma_text number = if number == 0 then [] else codes ", "

-- with commas between them, the first of this number
unfoldable pub extents_text : ℕ → List Extent → List ℕ
extents_text number [] = []
extents_text number (extent ∷ extents) = (comma_text number ++ extent_text extent) ++ extents_text (number + 1) extents

-- the widths of the operands, where all are known
unfoldable pub operands_text : List Extent → List ℕ
operands_text [] = []
operands_text (extent ∷ extents) =
    if list_any is_inside (extent ∷ extents) then [] else codes "Widths of the operands: " ++ extents_text 0 (extent ∷ extents) ++ codes ".\n"

-- ---- the operation
unfoldable pub slice_text : List ℕ
slice_text = codes ", which the value does not have: bits are counted from 0.\nDeclare a greater width where the value is assigned, or ask for lower bits.\n"

unfoldable pub other_text : List ℕ
other_text = codes "The result has more than 128 bits, since no bit is lost without a declared width.\nDeclare a width for it, as in `let y:64 = ..`, or cut the operands by slices before.\n"

unfoldable pub op_text : Op → List ℕ
op_text Choose = codes "The condition of a choice is to be 1 bit wide, and this one is wider.\nCompare it, as in `c != 0 ? a : b`, or take one bit of it, as in `c{0..0}`.\n"
op_text (Slice high low) = codes "The slice asks for bit " ++ decimal high ++ slice_text
op_text (Rec init first) = codes "No width up to 128 holds the recurrence: its body is always wider than what it goes on from, or an equation in it has no width.\nDeclare its width, as in `rec s:16 = 0 by ..`: the body is then cut to it at each sample.\n"
op_text _ = other_text

-- why there is no width, and what to do
abbrev pub told_text : Option Op → List Extent → List ℕ
told_text None widths = codes "The equation has no width up to 128 bits.\n"
told_text (Some op) widths = op_text op ++ operands_text widths

unfoldable pub missing_text : Missing → List ℕ
missing_text missing = told_text missing.op missing.widths.items
