-- The names that a text has for units and outputs.
use Rattle.std.specs.Prelude.{ℕ, ◌≡◌, ◌⊎◌, Bool, List, [], ◌∷◌}
use Rattle.std.specs.List.{flat_map}
use Rattle.pr_lang.specs.declared.trees.Item.{Item}
use Rattle.pr_lang.specs.declared.trees.Item.TheVariants.{Output}
use Rattle.pr_lang.specs.declared.trees.Program.{Program}
use Rattle.pr_lens_shares.specs.Tallies.{AreUntold}
use Rattle.pr_lens_origins.specs.Origins.{AreOrigins}
use Rattle.pr_lens_graph.specs.declared.naming.Names.{Names}

-- the name of an output; none of another item
abbrev pub output_in : Item → List (List ℕ)
output_in (Output name width value) = name ∷ []
output_in _ = []

-- the streams of a program with their units, and the names of its outputs
pub record AreNames (narrowed : Bool) (text : List ℕ) (program : Program) (widths : List ℕ) (names : Names) : Type 0 where
  pub origins : AreOrigins narrowed text program widths names.origins
  pub outputs : names.outputs.items ≡ flat_map output_in program.items.items

-- no names, where streams are not told
pub record AreNone (columns : ℕ) (narrowed : Bool) (program : Program) (widths : List ℕ) (names : Names) : Type 0 where
  pub streams : names.origins.streams.items ≡ []
  pub owners : names.origins.owners.items ≡ []
  pub outputs : names.outputs.items ≡ []
  pub why : AreUntold columns narrowed program widths

abbrev pub AreNamesOrNone : ℕ → Bool → List ℕ → Program → List ℕ → Names → Type 0
AreNamesOrNone columns narrowed text program widths names = AreNames narrowed text program widths names ⊎ AreNone columns narrowed program widths names
