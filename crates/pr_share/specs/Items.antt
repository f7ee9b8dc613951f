-- Programs that take turns.
use Rattle.std.specs.Prelude.{◌≡◌, ◌≢◌, ◌≤◌, ◌<◌, ◌+◌, ◌*◌, ◌^◌, ◌&&◌, not, ℕ, Bool, true, false, nat_lt, List, [], ◌∷◌, ◌++◌, length, map, ⊤, Option, Some, None, slice_get, is_some, if◌then◌else◌}
use Rattle.std.specs.List.{count_by}
use Rattle.std.specs.Simd.Lanes.{zip2}
use Rattle.pr_edge.specs.Count.{RoseBy}
use Rattle.pr_edge.specs.Files.{Told, HasReadCause}
use Rattle.pr_edge.specs.Tape.{Tape, Appends, AppendsFront}
use Rattle.pr_samples.specs.declared.feed.Feed.{Feed}
use Rattle.pr_samples.specs.declared.feed.Got.{Got}
use Rattle.pr_samples.specs.Feed.{name_of, widths_of, most_of}
use Rattle.pr_samples.specs.Got.{is_sample}
use Rattle.pr_conf.specs.Shape.{Shape}
use Rattle.pr_conf.specs.Through.{result_numbers}
use Rattle.pr_conf.specs.After.{conf_after}
use Rattle.pr_machine.specs.declared.parking.Parked.{Parked}
use Rattle.pr_machine.specs.Parking.{parked_conf}
use Rattle.pr_run.specs.Setting.{IsFresh}
use Rattle.pr_run.specs.Turns.{MayFollow}
use Rattle.pr_share_text.specs.Text.{Part, HaveQuotas, marked, share_text}
use Rattle.pr_share_text.specs.Turns.{so_far}
use Rattle.pr_share.specs.declared.items.ShareItem.{ShareItem}
use Rattle.pr_share.specs.Fed.{HasFed}
use Rattle.pr_share.specs.Turns.{pieces}

-- the configuration that is parked, and one without stages where none is
abbrev pub conf_in : {N P : ℕ} → Option (Parked N P) → Shape
conf_in None = record { inputs = []; outputs = []; stages = [] }
conf_in (Some parked) = parked_conf parked

-- the last answer of a feed, by how its samples ended
abbrev pub last_of : Option Got → Got
last_of None = Got.Sample
last_of (Some got) = got

-- how samples have ended, by the last answer of their feed; none where more may follow
abbrev pub ended_after : Got → Option Got
ended_after last = if is_sample last then None else Some last

-- the names of the files of samples
abbrev pub names_of : {N P : ℕ} → List (ShareItem N P) → List (List ℕ)
names_of items = map (λ item. name_of item.feed) items

-- none of these names is this one
abbrev pub IsNoneOf : List (List ℕ) → List ℕ → Type 0
IsNoneOf names q = (i : ℕ) (name : List ℕ) → slice_get names i ≡ Some name → q ≢ name

-- a program that can begin: its configuration is parked, and nothing of its samples was read
pub record IsReady {N P : ℕ} (item : ShareItem N P) : Type 0 where
  pub parked : is_some item.parked ≡ true
  pub fresh : IsFresh item.feed
  pub inputs : widths_of item.feed ≡ (conf_in item.parked).inputs
  pub quota : 1 ≤ item.quota
  pub ended : item.ended ≡ None

abbrev pub AreReady : {N P : ℕ} → List (ShareItem N P) → Type 0
AreReady {N} {P} items = (i : ℕ) (item : ShareItem N P) → slice_get items i ≡ Some item → IsReady item

-- a program that was given these samples since it was the first of these: its configuration is parked, after them
pub record HasTaken {N P : ℕ} (told : Told) (first now : ShareItem N P) (rows : List (List ℕ)) : Type 0 where
  pub some : is_some now.parked ≡ true
  pub conf : conf_in now.parked ≡ conf_after N P (conf_in first.parked) (pieces (conf_in first.parked) rows)
  pub fed : HasFed first.feed told now.feed rows (last_of now.ended)
  pub inputs : widths_of first.feed ≡ (conf_in first.parked).inputs
  pub quota : now.quota ≡ first.quota
  pub least : 1 ≤ first.quota
  pub most : most_of first.feed ≤ 2 ^ 40
  pub ended : is_some now.ended ≡ true → is_sample (last_of now.ended) ≡ false

-- a feed answered that a read failed
abbrev pub is_read_fault : Got → Bool
is_read_fault Got.Sample = false
is_read_fault Got.End = false
is_read_fault (Got.BadSample line) = false
is_read_fault Got.ReadFault = true
is_read_fault (Got.Limit cap) = false

-- the samples of no program ended with a read that failed
abbrev pub NoneFailed : {N P : ℕ} → List (ShareItem N P) → Type 0
NoneFailed {N} {P} items = (i : ℕ) (item : ShareItem N P) → slice_get items i ≡ Some item → item.ended ≢ Some Got.ReadFault

-- the shelf tells that it has no such file
abbrev pub is_lost : Told → List ℕ → Bool
is_lost None name = false
is_lost (Some files) name = not (is_some (files name))

-- the lines of the results of further samples, after these
abbrev pub turn_rows : {N P : ℕ} → ShareItem N P → List (List ℕ) → List (List ℕ) → List (List ℕ)
turn_rows {N} {P} first rows more =
    let conf = conf_in first.parked in
    result_numbers N P (conf_after N P conf (pieces conf rows)) (pieces conf more)

abbrev pub turn_text : {N P : ℕ} → ℕ → ShareItem N P → List (List ℕ) → List (List ℕ) → List ℕ
turn_text number first rows more = marked number (turn_rows first rows more)

-- what is told of the files, the count of the shelf's faults, and what the sink tells
pub record World : Type 0 where
  pub told : Told
  pub faults : ℕ
  pub tape : Tape

abbrev pub world : Told → ℕ → Tape → World
world told faults tape = record { told = told; faults = faults; tape = tape }

-- it was given these further ones in one turn, and the lines of their results were written; a read fault has its cause
pub record IsTurn {N P : ℕ} (first now : ShareItem N P) (rows : List (List ℕ)) (number : ℕ)
    (old new : World) : Type 0 where
  pub more : List (List ℕ)
  pub taken : HasTaken new.told first now (rows ++ more)
  pub few : length more ≤ first.quota
  pub full : now.ended ≡ None → length more ≡ first.quota
  pub text : Appends old.tape new.tape (turn_text number first rows more)
  pub cause : last_of now.ended ≡ Got.ReadFault → HasReadCause new.told (name_of first.feed) old.faults new.faults

-- a program whose turn a write fault ended was given these samples, and its feed answered so last. It is parked no more
pub record IsBroken {N P : ℕ} (told : Told) (first now : ShareItem N P) (rows : List (List ℕ))
    (last : Got) : Type 0 where
  pub parked : now.parked ≡ None
  pub fed : HasFed first.feed told now.feed rows last
  pub quota : now.quota ≡ first.quota
  pub ended : now.ended ≡ None

-- a write failed in a turn in which it was given these further ones: some first bytes of their lines were written
pub record IsHalf {N P : ℕ} (first now : ShareItem N P) (rows : List (List ℕ)) (number : ℕ)
    (old new : World) : Type 0 where
  pub more : List (List ℕ)
  pub last : Got
  pub broken : IsBroken new.told first now (rows ++ more) last
  pub few : length more ≤ first.quota
  pub text : AppendsFront old.tape new.tape (turn_text number first rows more)
  pub cause : last ≡ Got.ReadFault → HasReadCause new.told (name_of first.feed) old.faults new.faults

-- ---- all programs
-- what a program was given in its turns: these samples, and the last answer of its feed
pub record Given : Type 0 where
  pub rows : List (List ℕ)
  pub last : Got

-- what a program with these samples is in the text: its quota, and its results
abbrev pub part_of : {N P : ℕ} → ShareItem N P → List (List ℕ) → Part
part_of {N} {P} first rows = record {
  quota = first.quota;
  rows = result_numbers N P (conf_in first.parked) (pieces (conf_in first.parked) rows);
}

-- what programs that were given these are in the text
abbrev pub parts_of : {N P : ℕ} → List (ShareItem N P) → List Given → List Part
parts_of firsts givens = zip2 (λ first given. part_of first given.rows) firsts givens

-- a read of a feed failed, and not since its file is told not to be there
abbrev pub has_failed : Told → Feed → Got → Bool
has_failed told f last = is_read_fault last && not (is_lost told (name_of f))

-- the number of programs of which a read failed so
abbrev pub read_faults : {N P : ℕ} → Told → List (ShareItem N P) → List Given → ℕ
read_faults told firsts givens =
    count_by (λ failed. failed) (zip2 (λ first given. has_failed told first.feed given.last) firsts givens)

-- a program that was given these samples is parked after them, and how they ended is told where they have
pub record IsResting {N P : ℕ} (told : Told) (first now : ShareItem N P) (given : Given) : Type 0 where
  pub taken : HasTaken told first now given.rows
  pub last : given.last ≡ last_of now.ended

-- after n turns it was given n times its quota of samples, or fewer where they have ended
pub record IsMember {N P : ℕ} (told : Told) (first now : ShareItem N P) (given : Given) (n : ℕ) : Type 0 where
  pub resting : IsResting told first now given
  pub few : length given.rows ≤ n * first.quota
  pub due : now.ended ≡ None → length given.rows ≡ n * first.quota

-- r rounds were made, and of round r + 1 the turns of the programs before number k
pub record IsSharing {N P : ℕ} (firsts items : List (ShareItem N P)) (start now : World) (r k : ℕ) : Type 0 where
  pub givens : List Given
  pub items_count : length items ≡ length firsts
  pub givens_count : length givens ≡ length firsts
  pub each : (i : ℕ) (first item : ShareItem N P) (given : Given) → slice_get firsts i ≡ Some first
      → slice_get items i ≡ Some item → slice_get givens i ≡ Some given
      → IsMember now.told first item given (if nat_lt i k then r + 1 else r)
  pub quotas : HaveQuotas (parts_of firsts givens)
  pub text : Appends start.tape now.tape (so_far r k (parts_of firsts givens))
  pub faults : RoseBy start.faults now.faults (read_faults now.told firsts givens)

-- ---- the end
-- all samples of a program have ended, and its configuration is parked after them
pub record IsShared {N P : ℕ} (told : Told) (first now : ShareItem N P) (given : Given) : Type 0 where
  pub taken : HasTaken told first now given.rows
  pub ended : now.ended ≡ Some given.last

-- all programs have ended, and what was written is the text of their turns. At most as many reads failed as the count
-- of the shelf's faults rose by, and it did not rise where the samples of no program ended so
pub record AreShared {N P : ℕ} (firsts items : List (ShareItem N P)) (start now : World) : Type 0 where
  pub givens : List Given
  pub items_count : length items ≡ length firsts
  pub givens_count : length givens ≡ length firsts
  pub each : (i : ℕ) (first item : ShareItem N P) (given : Given) → slice_get firsts i ≡ Some first
      → slice_get items i ≡ Some item → slice_get givens i ≡ Some given → IsShared now.told first item given
  pub text : Appends start.tape now.tape (share_text (parts_of firsts givens))
  pub faults : RoseBy start.faults now.faults (read_faults now.told firsts givens)
  pub steady : NoneFailed items → now.faults ≡ start.faults

-- ---- a write fault
-- a program that was given samples may come to be given more, where its feed gave a sample last
pub record MayBecome (given whole : Given) : Type 0 where
  pub more : List (List ℕ)
  pub rows : whole.rows ≡ given.rows ++ more
  pub follow : MayFollow given.last more

abbrev pub MayAllBecome : List Given → List Given → Type 0
MayAllBecome [] [] = ⊤
MayAllBecome [] (whole ∷ wholes) = ⊥
MayAllBecome (given ∷ givens) [] = ⊥
MayAllBecome (given ∷ givens) (whole ∷ wholes) = MayBecome given whole × MayAllBecome givens wholes

-- a write failed in the turn of the program at a place. The others are parked, each after the samples that it was
-- given. Of the text of all turns some first bytes were written, whatever samples may follow
pub record AreStopped {N P : ℕ} (firsts items : List (ShareItem N P)) (start now : World) : Type 0 where
  pub place : ℕ
  pub within : place < length items
  pub givens : List Given
  pub items_count : length items ≡ length firsts
  pub givens_count : length givens ≡ length firsts
  pub here : (first item : ShareItem N P) (given : Given) → slice_get firsts place ≡ Some first
      → slice_get items place ≡ Some item → slice_get givens place ≡ Some given
      → IsBroken now.told first item given.rows given.last
  pub others : (i : ℕ) (first item : ShareItem N P) (given : Given) → i ≢ place → slice_get firsts i ≡ Some first
      → slice_get items i ≡ Some item → slice_get givens i ≡ Some given → IsResting now.told first item given
  pub text : (wholes : List Given) → MayAllBecome givens wholes
      → AppendsFront start.tape now.tape (share_text (parts_of firsts wholes))
  pub faults : RoseBy start.faults now.faults (read_faults now.told firsts givens)

-- the samples of some program have not ended
pub record IsGoing {N P : ℕ} (items : List (ShareItem N P)) : Type 0 where
  pub place : ℕ
  pub item : ShareItem N P
  pub here : slice_get items place ≡ Some item
  pub going : item.ended ≡ None

-- the samples of all programs have ended
abbrev pub AreEnded : {N P : ℕ} → List (ShareItem N P) → Type 0
AreEnded {N} {P} items = (i : ℕ) (item : ShareItem N P) → slice_get items i ≡ Some item → is_some item.ended ≡ true
