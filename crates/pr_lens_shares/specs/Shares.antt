-- The streams of a program for which most units are made.
use Rattle.std.specs.Prelude.{ℕ, ◌≡◌, ◌⊎◌, Bool, List, [], ◌∷◌, Option, Some, None, get_or}
use Rattle.std.specs.List.{flat_map, slice_get}
use Rattle.pr_lang.specs.declared.trees.Program.{Program}
use Rattle.pr_scope_names.specs.declared.streams.Instance.{Instance}
use Rattle.pr_lens_shares.specs.declared.shares.Share.{Share}
use Rattle.pr_lens_shares.specs.declared.tallies.Tally.{Tally}
use Rattle.pr_lens_shares.specs.Greatest.{AreGreatest}
use Rattle.pr_lens_shares.specs.Tallies.{IsTally, AreUntold}

abbrev pub share_with : ℕ → ℕ → Option Instance → List Share
share_with place units None = []
share_with place units (Some i) = record { name = i.name; index = i.index; place = place; units = units } ∷ []

-- the instance at a place, with its count
abbrev pub share_at : List Instance → List ℕ → ℕ → List Share
share_at instances counts place = share_with place (get_or counts place 0) (slice_get instances place)

-- of instances with these counts these have the greatest
pub record AreSharesWith (instances : List Instance) (counts : List ℕ) (most : ℕ) (shares : List Share) : Type 0 where
  pub places : List ℕ
  pub greatest : AreGreatest counts most places
  pub are : shares ≡ flat_map (share_at instances counts) places

-- the streams of a program, at most so many, for which most units are made; its equations are narrowed or as they are
pub record AreShares (narrowed : Bool) (program : Program) (widths : List ℕ) (most : ℕ) (shares : List Share) : Type 0 where
  pub tally : Tally
  pub is : IsTally narrowed program widths tally
  pub are : AreSharesWith tally.instances.items tally.counts.items most shares

-- ---- none
-- none, and why
pub record AreNone (columns : ℕ) (narrowed : Bool) (program : Program) (widths : List ℕ) (shares : List Share) : Type 0 where
  pub none : shares ≡ []
  pub why : AreUntold columns narrowed program widths

-- the streams, or none where they are not told
abbrev pub AreSharesOrNone : ℕ → Bool → Program → List ℕ → ℕ → List Share → Type 0
AreSharesOrNone columns narrowed program widths most shares = AreShares narrowed program widths most shares ⊎ AreNone columns narrowed program widths shares
