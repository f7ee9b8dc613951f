-- What is told of a group that has more columns than a stage.
use Rattle.std.specs.Prelude.{ℕ, ◌==◌, Bool, true, false, nat_lt, if◌then◌else◌, Option, None, Some, List, [], ◌++◌, codes, decimal}
use Rattle.std.specs.List.{flat_map, list_any}
use Rattle.std.specs.Option.{option_map_or}
use Rattle.pr_flat.specs.declared.equations.Op.{Op}
use Rattle.pr_flat.specs.declared.equations.Op.TheVariants.{Add, Sub, Mul, And, Or, Xor, Not, Equal, NotEqual, Less, LessEqual, Greater, GreaterEqual, Choose, Left, Right, LeftBy, RightBy, Cat, Slice, Delay, Fit}
use Rattle.pr_lens_needs.specs.declared.needs.Needs.{Needs}
use Rattle.pr_lens_needs.specs.declared.needs.Parts.{Parts}
use Rattle.pr_lens_needs.specs.declared.smaller.Narrower.{Narrower}
use Rattle.pr_lens_needs.specs.declared.takes.Take.{Take}

-- ---- numbers
abbrev pub columns_word : ℕ → List ℕ
columns_word columns = if columns == 1 then codes " column" else codes " columns"

unfoldable pub counted_text : ℕ → List ℕ
counted_text columns = decimal columns ++ columns_word columns

abbrev pub bits_word : ℕ → List ℕ
bits_word bits = if bits == 1 then codes " bit" else codes " bits"

unfoldable pub wide_by_text : ℕ → List ℕ
wide_by_text bits = decimal bits ++ bits_word bits

-- how many columns a stage of the wide fabric has, where one of this fabric has fewer
abbrev pub wide_text : ℕ → List ℕ
wide_text columns = if nat_lt columns 32 then codes ", and one of the wide fabric 32.\n" else codes ".\n"

-- how many columns are needed, and how many a stage has
unfoldable pub stage_text : ℕ → ℕ → List ℕ
stage_text needed columns = decimal needed ++ codes " columns, where a stage has " ++ decimal columns ++ wide_text columns

-- ---- what takes columns
-- how an operator is written
unfoldable pub op_word : Op → List ℕ
op_word Add = codes "`+`"
op_word Sub = codes "`-`"
op_word Mul = codes "`*`"
op_word And = codes "`&`"
op_word Or = codes "`|`"
op_word Xor = codes "`^`"
op_word Not = codes "`~`"
op_word Equal = codes "`==`"
op_word NotEqual = codes "`!=`"
op_word Less = codes "`<`"
op_word LessEqual = codes "`<=`"
op_word Greater = codes "`>`"
op_word GreaterEqual = codes "`>=`"
op_word Choose = codes "`?`"
op_word (Left count) = codes "`<<`"
op_word LeftBy = codes "`<<`"
op_word (Right count) = codes "`>>`"
op_word RightBy = codes "`>>`"
op_word (Slice high low) = codes "a slice"
op_word Cat = codes "`cat`"
op_word (Delay number) = codes "`@`"
op_word Fit = codes "a declared width"
op_word _ = codes "a stream"

-- how wide it is, and how many columns it takes
unfoldable pub amount_text : ℕ → ℕ → List ℕ
amount_text bits columns = wide_by_text bits ++ codes ": " ++ counted_text columns ++ codes "\n"

unfoldable pub part_text : List ℕ → ℕ → ℕ → List ℕ
part_text word bits columns = codes "- " ++ word ++ codes ", " ++ amount_text bits columns

abbrev pub take_text : Take → List ℕ
take_text one = part_text (op_word one.op) one.width one.columns

abbrev pub takes_text : List Take → List ℕ
takes_text takes = flat_map take_text takes

abbrev pub heading_text : List ℕ
heading_text = codes "These read the recurrence, those with most columns first, and the last line keeps it for later samples:\n"

unfoldable pub parts_text : Parts → List ℕ
parts_text parts = heading_text ++ takes_text parts.takes.items ++ part_text (codes "what is kept") parts.width parts.keeps

-- ---- with fewer bits
unfoldable pub bits_text : ℕ → ℕ → List ℕ
bits_text bits columns = codes "With " ++ wide_by_text bits ++ codes " it takes " ++ counted_text columns ++ codes ".\n"

abbrev pub width_text : ℕ → Option ℕ → List ℕ
width_text bits None = []
width_text bits (Some columns) = bits_text bits columns

abbrev pub narrower_text : Narrower → List ℕ
narrower_text narrower = width_text narrower.width narrower.columns

abbrev pub widths_text : List Narrower → List ℕ
widths_text narrower = flat_map narrower_text narrower

unfoldable pub narrowed_text : ℕ → List ℕ
narrowed_text columns = codes "With `--narrow` it takes " ++ counted_text columns ++ codes ".\n"

abbrev pub fewer_text : ℕ → ℕ → List ℕ
fewer_text needed columns = if nat_lt columns needed then narrowed_text columns else codes "With `--narrow` it takes no fewer.\n"

abbrev pub narrow_text : ℕ → Option ℕ → List ℕ
narrow_text needed None = []
narrow_text needed (Some columns) = fewer_text needed columns

-- ---- what to do
abbrev pub is_fewer : ℕ → Option ℕ → Bool
is_fewer needed columns = option_map_or (λ (c : ℕ). nat_lt c needed) columns false

-- a smaller width is advised where one of those that are told takes fewer columns
abbrev pub helps : ℕ → Narrower → Bool
helps needed narrower = is_fewer needed narrower.columns

unfoldable pub advice_text : Bool → List ℕ
advice_text true = codes "Declare a smaller width, put together what does not read the recurrence, as in `s@1 + (a + b)`, or, where no bit looks at another, make it two of half the width.\n"
advice_text false = codes "Put together what does not read the recurrence, as in `s@1 + (a + b)`, or, where no bit looks at another, make it two of half the width.\n"

-- ---- the whole
unfoldable pub saving_text : ℕ → Needs → List ℕ
saving_text needed needs = widths_text needs.narrower.items ++ narrow_text needed needs.narrow ++ advice_text (list_any (helps needed) needs.narrower.items)

unfoldable pub recurrence_text : ℕ → ℕ → Needs → List ℕ
recurrence_text needed columns needs =
    codes "Columns ran out: what the recurrence goes on from is made within one stage, and takes "
    ++ stage_text needed columns
    ++ parts_text needs.parts
    ++ saving_text needed needs

unfoldable pub operator_text : ℕ → ℕ → List ℕ
operator_text needed columns =
    codes "Columns ran out: a part of one operator is made within one stage, and takes " ++ stage_text needed columns

-- by whether the group is that of a recurrence
abbrev pub columns_text : ℕ → ℕ → Option Needs → List ℕ
columns_text needed columns None = operator_text needed columns
columns_text needed columns (Some needs) = recurrence_text needed columns needs
