-- The plans of groups: the needs and the numbers of their cells, and what they read.
use Rattle.std.specs.Prelude.{ℕ, ◌-◌, Bool, List, [], length, slice_index_or}
use Rattle.pr_place.specs.declared.lists.Lists.{Lists}
use Rattle.pr_place.specs.declared.plans.Plans.{Plans}
use Rattle.pr_place.specs.Lists.{pieces}

abbrev pub lists_of : Lists → List (List ℕ)
lists_of l = pieces l.starts.items l.items.items

abbrev pub count_of_lists : Lists → ℕ
count_of_lists l = length l.starts.items - 1

-- ---- the plans of the groups
abbrev pub groups_of : Plans → ℕ
groups_of plans = count_of_lists plans.cells

abbrev pub needs_at : Plans → ℕ → List Bool
needs_at plans g = slice_index_or (pieces plans.cells.starts.items plans.needs.items) g []

abbrev pub cells_at : Plans → ℕ → List ℕ
cells_at plans g = slice_index_or (lists_of plans.cells) g []

abbrev pub ops_of : Plans → List (List ℕ)
ops_of plans = lists_of plans.reads
