-- What a feed gave over several turns.
use Rattle.std.specs.Prelude.{◌≡◌, ℕ, List, [], length, take}
use Rattle.pr_edge.specs.Files.{Told, IsMissing}
use Rattle.pr_samples.specs.declared.feed.Feed.{Feed}
use Rattle.pr_samples.specs.declared.feed.Got.{Got}
use Rattle.pr_samples.specs.Feed.{name_of, given_of, SameFile, Tells, fed}
use Rattle.pr_run.specs.Turns.{EndsBy, IsUnread}

-- since it was the first of these, the feed gave these samples, the first of this file
pub record IsFedBy (first f : Feed) (file : List ℕ) (rows : List (List ℕ)) (last : Got) : Type 0 where
  pub front : rows ≡ take (given_of f) (fed first file).samples
  pub ends : EndsBy last f file

-- since it was the first of these, the feed gave these samples from a shelf that tells this, and its last answer was
-- this; a sample says that more may follow
pub record HasFed (first : Feed) (told : Told) (f : Feed) (rows : List (List ℕ)) (last : Got) : Type 0 where
  pub file : SameFile first f
  pub count : given_of f ≡ length rows
  pub samples : (file : List ℕ) → Tells told (name_of first) file → IsFedBy first f file rows last
  pub missing : IsMissing told (name_of first) → IsUnread last f × (rows ≡ [])
