-- The streams of a program with the places of their names, and the units that are made for each.
use Rattle.std.specs.Prelude.{ℕ, ◌≡◌, ◌+◌, Bool, List, [], ◌∷◌, ◌++◌, Option, Some, None, get_or}
use Rattle.std.specs.List.{slice_get}
use Rattle.pr_lang.specs.declared.trees.Program.{Program}
use Rattle.pr_scope_names.specs.declared.streams.Instance.{Instance}
use Rattle.pr_lens_shares.specs.declared.tallies.Tally.{Tally}
use Rattle.pr_lens_shares.specs.Tallies.{IsTally, AreUntold}
use Rattle.pr_lens_tracks.specs.Tables.{index_text}
use Rattle.pr_lens_origins.specs.declared.streams.Origins.{Origins}
use Rattle.pr_lens_origins.specs.declared.streams.Stream.{Stream}
use Rattle.pr_lens_origins.specs.declared.spots.Spot.{Spot}
use Rattle.pr_lens_origins.specs.Spots.{spots_of}

-- the beginning of a text
abbrev pub first_spot : Spot
first_spot = record { line = 1; column = 1; end_column = 1 }

abbrev pub stream_with : Instance → Spot → Stream
stream_with i spot = record { name = i.name; index = i.index; spot = spot }

-- instances, the first of which has this place, with the spots of their places
abbrev pub streams_from : ℕ → List Instance → List Spot → List Stream
streams_from place [] spots = []
streams_from place (i ∷ is) spots = stream_with i (get_or spots place first_spot) ∷ streams_from (place + 1) is spots

-- all streams of a program with the places of their names in a text, and for each unit of its net the place of its stream among them; the
-- equations are narrowed or as they are
pub record AreOrigins (narrowed : Bool) (text : List ℕ) (program : Program) (widths : List ℕ) (origins : Origins) : Type 0 where
  pub tally : Tally
  pub is : IsTally narrowed program widths tally
  pub streams : origins.streams.items ≡ streams_from 0 tally.instances.items (spots_of text program)
  pub owners : origins.owners ≡ tally.owners

-- or none, where the program leaves no turn of the walk, or its net passes a limit
abbrev pub AreOriginsOrNone : ℕ → Bool → List ℕ → Program → List ℕ → Option Origins → Type 0
AreOriginsOrNone columns narrowed text program widths None = AreUntold columns narrowed program widths
AreOriginsOrNone columns narrowed text program widths (Some origins) = AreOrigins narrowed text program widths origins

-- ---- as a text
-- a stream by its name with its index
abbrev pub stream_text : Stream → List ℕ
stream_text stream = stream.name ++ index_text stream.index

-- ---- a unit
abbrev pub owned_stream : List Stream → Option (Option ℕ) → Option Stream
owned_stream streams None = None
owned_stream streams (Some None) = None
owned_stream streams (Some (Some place)) = slice_get streams place

-- the stream that a unit is made for, where it is told
abbrev pub stream_of : Origins → ℕ → Option Stream
stream_of origins unit = owned_stream origins.streams.items (slice_get origins.owners.items unit)
