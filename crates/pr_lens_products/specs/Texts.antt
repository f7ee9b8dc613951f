-- What is told of a product that can be made with fewer units.
use Rattle.std.specs.Prelude.{ℕ, ◌==◌, List, ◌++◌, codes, decimal, if◌then◌else◌}
use Rattle.pr_lang.specs.declared.tokens.Token.{Token}
use Rattle.pr_lens_names.specs.Instances.{tokens_text}
use Rattle.pr_lens_names.specs.Pieces.{quoted}
use Rattle.pr_lens_products.specs.declared.products.CheapProduct.{CheapProduct}
use Rattle.pr_lens_products.specs.declared.products.Part.{Part}
use Rattle.pr_lens_products.specs.declared.shifts.Shifts.{Shifts}
use Rattle.pr_lens_products.specs.declared.shifts.Shifts.TheVariants.{One, Sum, Difference}
use Rattle.pr_lens_products.specs.declared.units.Way.{Way}
use Rattle.pr_lens_products.specs.declared.units.Way.TheVariants.{Shifted, Swapped}

-- tokens as they stand in the text, without the blanks and comments between them
abbrev pub part_text : List ℕ → List Token → Part → List ℕ
part_text text tokens p = tokens_text text tokens p.first p.end

-- a product of these factors
unfoldable pub factors_text : List ℕ → List Token → Part → Part → List ℕ
factors_text text tokens one other = part_text text tokens one ++ codes " * " ++ part_text text tokens other

-- a stream that is shifted
abbrev pub shifted_text : List ℕ → ℕ → List ℕ
shifted_text name by = if by == 0 then name else codes "(" ++ name ++ codes " << " ++ decimal by ++ codes ")"

-- two of them with a sign between them, in parentheses, so that they can stand wherever the product does
unfoldable pub two_text : List ℕ → ℕ → List ℕ → ℕ → List ℕ
two_text name one sign other = codes "(" ++ shifted_text name one ++ sign ++ shifted_text name other ++ codes ")"

abbrev pub shifts_text : List ℕ → Shifts → List ℕ
shifts_text name (One by) = shifted_text name by
shifts_text name (Sum by and) = two_text name by (codes " + ") and
shifts_text name (Difference by less) = two_text name by (codes " - ") less

abbrev pub unit_word : ℕ → List ℕ
unit_word n = if n == 1 then codes " unit, and `" else codes " units, and `"

unfoldable pub units_text : ℕ → List ℕ
units_text n = codes " takes " ++ decimal n ++ unit_word n

-- the factor that is a stream
abbrev pub stream_of : CheapProduct → Part
stream_of p = if p.reversed then p.behind else p.before

-- shifts, or the factors in the other order
abbrev pub way_text : List ℕ → List Token → CheapProduct → Way → List ℕ
way_text text tokens p (Shifted shifts) = shifts_text (part_text text tokens (stream_of p)) shifts
way_text text tokens p Swapped = factors_text text tokens p.behind p.before

unfoldable pub made_text : List ℕ → List Token → CheapProduct → List ℕ
made_text text tokens p =
    way_text text tokens p p.cheaper.way ++ codes "` takes " ++ decimal p.cheaper.units ++ codes ".\nWrite this in the place of the product: "

-- a power of two has a bit more than the shift goes by
abbrev pub width_text : Way → List ℕ
width_text (Shifted (One by)) = codes "it gives the same numbers, and has one bit less.\nSee whether a difference, `~`, `signed`, a slice or `cat` reads this bit.\n"
width_text way = codes "it gives the same numbers, and is as wide.\n"

unfoldable pub cheap_text : List ℕ → List Token → CheapProduct → List ℕ
cheap_text text tokens p =
    quoted (factors_text text tokens p.before p.behind) ++ units_text p.cheaper.product ++ made_text text tokens p ++ width_text p.cheaper.way
