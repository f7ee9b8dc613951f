-- What the items so far have made, and what they are to make.
use Rattle.std.specs.Prelude.{◌≡◌, ℕ, List, None, ⊤, ◌<◌, length}
use Rattle.pr_base.specs.declared.caps.Cap.{Cap}
use Rattle.pr_lang.specs.declared.trees.Item.{Item}
use Rattle.pr_lang.specs.declared.trees.Item.TheVariants.{Const, Table, Function}
use Rattle.pr_scope_names.specs.declared.names.Statics.{Statics}
use Rattle.pr_scope_names.specs.Names.{known_in}
use Rattle.pr_flat.specs.Shape.{shapes_of}
use Rattle.pr_scope.specs.Walk as scope
use Rattle.pr_scope_facts.specs.Items.{AllItems}
use Rattle.pr_expand_spec.specs.Programs as programs
use Rattle.pr_expand_spec.specs.Making.{Equations}
use Rattle.pr_expand.specs.declared.flats.ExpandFault.{ExpandFault}
use Rattle.pr_expand.specs.declared.flats.ExpandFault.TheVariants.{Limit, Memory}
use Rattle.pr_expand.specs.declared.items.World.{World}
use Rattle.pr_expand.specs.declared.ledgers.Expansion.{Expansion}
use Rattle.pr_expand.specs.Code.{progress_of}
use Rattle.pr_expand.specs.Scopes.{visible_at}

abbrev pub world_at : List Item → ℕ → World → programs.World
world_at items n w = record { visible = visible_at items n; progress = progress_of w.progress; outputs = w.outputs.items }

abbrev pub flattened : Expansion → programs.Flattened
flattened e = record { equations = shapes_of e.equations.items; outputs = e.outputs.items }

-- the items break no rule of scope
abbrev pub AreWalked : List Item → Type 0
AreWalked items = (last : scope.World) × AllItems 0 items scope.start last

-- what an item introduces beside streams has a new name
abbrev pub IsFree : Item → Statics → Type 0
IsFree (Const name value) s = known_in s name ≡ None
IsFree (Table name values) s = known_in s name ≡ None
IsFree (Function name params width body result) s = known_in s name ≡ None
IsFree i s = ⊤

-- the limit of equations is passed
abbrev pub IsLimit : ExpandFault → Equations → Type 0
IsLimit (Limit which) es = (which ≡ Cap.Equations) × (16384 < length es)
IsLimit (Memory e) es = ⊤
