-- What items declare, and the walk over them.
use Rattle.std.specs.Prelude.{◌≡◌, ℕ, ◌+◌, List, [], ◌∷◌, Ok}
use Rattle.pr_lang.specs.declared.trees.Item.{Item}
use Rattle.pr_lang.specs.declared.trees.Item.TheVariants.{Input}
use Rattle.pr_scope.specs.Walk.{World, item_change}

-- the declared widths of the inputs, in order
abbrev pub widths_of_inputs : List Item → List ℕ
widths_of_inputs [] = []
widths_of_inputs (Input name width ∷ items) = width ∷ widths_of_inputs items
widths_of_inputs (item ∷ items) = widths_of_inputs items

-- the walk over the items from this number on meets no offence
abbrev pub AllItems : ℕ → List Item → World → World → Type 0
AllItems at [] w w' = w ≡ w'
AllItems at (i ∷ is) w w' = (between : World) × (item_change at i w ≡ Ok between) × AllItems (at + 1) is between w'
