-- What is told of a limit, and of a group for which registers ran out.
use Rattle.std.specs.Prelude.{ℕ, ◌-◌, ◌*◌, ◌^◌, ◌==◌, List, ◌++◌, codes, decimal, min, if◌then◌else◌}
use Rattle.pr_base.specs.declared.caps.Cap.{Cap}
use Rattle.pr_base.specs.declared.caps.Cap.TheVariants.{Nesting, Turns, Equations, InputBytes, Outputs}
use Rattle.pr_lens_fits.specs.declared.groups.Unfit.{Unfit}

-- which quantity passes its limit, and what to do
unfoldable pub limit_text : Cap → List ℕ
limit_text Nesting = codes "Brackets and operators are nested too deep here.\nAssign parts of the expression to names of their own.\n"
limit_text Turns = codes "The loops and calls, unrolled, take too many turns.\nSee whether a loop's end is what was meant: each turn, each statement in it and each call counts.\n"
limit_text Equations = codes "The program, unrolled, has too many equations.\nShare what is computed several times by assigning it to a name, or split the program.\n"
limit_text InputBytes = codes "All inputs of a sample together have more bytes than a stage has columns.\nDeclare smaller widths, or split the program.\n"
limit_text Outputs = codes "The program has too many outputs.\nJoin outputs by `cat`, or split the program.\n"
limit_text _ = codes "The program has too many units.\nProducts and shifts by streams take a unit for each bit: declare smaller widths.\n"

-- ---- a group
-- more bytes are kept than there are registers; the numbers are as far as 64 bits count
abbrev pub beside_text : ℕ → List ℕ
beside_text columns = if columns == 1 then codes " column.\n" else codes " columns beside each other.\n"

unfoldable pub later_text : List ℕ
later_text = codes "Work one after the other: `x ^ (late & 0)` is x, but only after `late` is there, and so what reads it is made later.\n"

unfoldable pub kept_text : ℕ → ℕ → ℕ → List ℕ
kept_text kept columns each =
    codes "Registers ran out: " ++ decimal kept ++ codes " bytes that are made before are needed here or later, and a stage keeps " ++ decimal (min (each * columns) (2 ^ 64 - 1))

unfoldable pub left_text : ℕ → ℕ → List ℕ
left_text each needed = codes ", " ++ decimal each ++ codes " in a column. The unit that is left takes " ++ decimal needed

-- on so many columns and registers; no unit writes a column's first register
unfoldable pub registers_text : Unfit → ℕ → ℕ → List ℕ
registers_text unfit columns registers = kept_text unfit.kept columns (registers - 1) ++ left_text (registers - 1) unfit.columns ++ beside_text unfit.columns ++ later_text
