-- What a feed stands for.
use Rattle.std.specs.Prelude.{◌≡◌, ◌≢◌, ℕ, ◌+◌, ◌-◌, ◌<◌, ◌≤◌, ◌⊎◌, ◌==◌, not, nat_lt, if◌then◌else◌, Bool, true, List, [], ◌++◌, length, take, drop, ⊤, Some, None, slice_get, string_bytes}
use Rattle.std.specs.List.{list_any}
use Rattle.pr_edge.specs.Files.{Told, OfFile}
use Rattle.pr_samples.specs.declared.tails.Tail.{Tail}
use Rattle.pr_samples.specs.declared.scan.Cursor.{Cursor}
use Rattle.pr_samples.specs.declared.feed.Feed.{Feed}
use Rattle.pr_samples.specs.declared.feed.Got.{Got}
use Rattle.pr_samples.specs.Lines.{lines_of, words_of, without_return, is_empty}
use Rattle.pr_samples.specs.Fed.{Taken, Fed, Ending, End, BadSample, Limit, ending_by, before, line_and, fed_text, fed_of, fed_within}
use Rattle.pr_samples.specs.Scan.{Scan, scan_of, fresh, First, Missing, Found, first_line, whole_end, cut_end}

abbrev pub name_of : Feed → List ℕ
name_of f = string_bytes f.name

-- the widths of the inputs
abbrev pub widths_of : Feed → List ℕ
widths_of f = f.widths.items

-- the greatest number of bytes of the file
abbrev pub limit_of : Feed → ℕ
limit_of f = f.limit

-- the greatest number of samples
abbrev pub most_of : Feed → ℕ
most_of f = f.most

-- the number of samples given
abbrev pub given_of : Feed → ℕ
given_of f = f.given

-- the number of bytes of the file that were read
abbrev pub place_of : Feed → ℕ
place_of f = f.place

-- the bytes before the limit that were read and not given yet
abbrev pub pending_of : Feed → List ℕ
pending_of f = take (f.end - f.start) (drop f.start f.buffer.items)

-- the feed is over the same file, with the same inputs and bounds
pub record SameFile (old new : Feed) : Type 0 where
  pub name : name_of new ≡ name_of old
  pub widths : widths_of new ≡ widths_of old
  pub limit : new.limit ≡ old.limit
  pub most : new.most ≡ old.most

-- what was read of the file stays, and what was given
pub record SameBytes (old new : Feed) : Type 0 where
  pub place : new.place ≡ old.place
  pub tail : new.tail ≡ old.tail
  pub given : new.given ≡ old.given

-- nothing was read yet, neither a byte nor the end
abbrev pub reads_nothing : Feed → Type 0
reads_nothing f = (f.place ≡ 0) × (f.tail ≡ Tail.Open)

-- a line that is not blank and its LF stand in these bytes
unfoldable pub has_line : List ℕ → Bool
has_line bytes = list_any (λ line. not (is_empty (words_of (without_return line)))) (lines_of bytes).whole

-- a further read is needless: such a line was read, or what follows the bytes that were read is known
abbrev pub IsReady : Feed → Type 0
IsReady f = (has_line (pending_of f) ≡ true) ⊎ (f.tail ≢ Tail.Open)

-- what may follow the bytes that were read
abbrev pub MayFollow : Tail → Tail → List ℕ → Type 0
MayFollow Tail.Open tail more = ⊤
MayFollow Tail.Ended tail more = (tail ≡ Tail.Ended) × (more ≡ [])
MayFollow Tail.Cut tail more = (tail ≡ Tail.Cut) × (more ≡ [])

-- what follows the bytes after a read of so many bytes up to this place
abbrev pub tail_after : ℕ → ℕ → ℕ → Tail
tail_after count limit place = if count == 0 then Tail.Ended else (if nat_lt limit place then Tail.Cut else Tail.Open)

-- what is known of a file with so many bytes, of which so many were read
abbrev pub IsTail : Tail → ℕ → ℕ → ℕ → Type 0
IsTail Tail.Open limit place size = place ≤ limit
IsTail Tail.Ended limit place size = (place ≤ limit) × (place ≡ size)
IsTail Tail.Cut limit place size = limit < place

-- the samples of bytes of which the first line was looked for
abbrev pub last_fed : ℕ → Tail → Scan → ℕ → Fed
last_fed most Tail.Open s passed = ending_by End
last_fed most Tail.Ended s passed = line_and (whole_end s) (passed + 1) most (λ left. ending_by End)
last_fed most Tail.Cut s passed = line_and (cut_end s) (passed + 1) most (λ left. ending_by End)

abbrev pub first_fed : List ℕ → ℕ → Tail → First → Fed
first_fed widths most tail (Missing s passed) = last_fed most tail s passed
first_fed widths most tail (Found taken number rest) = line_and taken number most (λ left. fed_text widths left number tail rest)

-- a feed with these fields, in a line that it read so far, has read bytes of this file and given its first samples
pub record IsReading (widths : List ℕ) (limit most place given passed : ℕ) (tail : Tail) (pending : List ℕ) (s : Scan) (file : List ℕ) : Type 0 where
  pub within : place ≤ length file
  pub ends : IsTail tail limit place (length file)
  pub counted : given ≤ length (fed_of widths limit most file).samples
  pub rest : (after : Tail) (more : List ℕ) → MayFollow tail after more
      → fed_text widths most 0 after (take place (take limit file) ++ more)
      ≡ before (take given (fed_of widths limit most file).samples) (first_fed widths (most - given) after (first_line widths s passed (pending ++ more)))

-- such a feed has met a line of this number, of which this becomes, and then reads on in a fresh line
pub record IsMeeting (widths : List ℕ) (limit most place given passed : ℕ) (tail : Tail) (pending : List ℕ) (taken : Taken) (number : ℕ) (file : List ℕ) : Type 0 where
  pub within : place ≤ length file
  pub ends : IsTail tail limit place (length file)
  pub counted : given ≤ length (fed_of widths limit most file).samples
  pub rest : (after : Tail) (more : List ℕ) → MayFollow tail after more
      → fed_text widths most 0 after (take place (take limit file) ++ more)
      ≡ before (take given (fed_of widths limit most file).samples) (line_and taken number (most - given) (λ left. first_fed widths left after (first_line widths (fresh widths) passed (pending ++ more))))

abbrev pub IsMet : Feed → Taken → ℕ → List ℕ → Type 0
IsMet f taken number file = IsMeeting f.widths.items f.limit f.most f.place f.given f.passed f.tail (pending_of f) taken number file

abbrev pub IsReadBy : Feed → Scan → List ℕ → Type 0
IsReadBy f s file = IsReading f.widths.items f.limit f.most f.place f.given f.passed f.tail (pending_of f) s file

-- such a feed, of the line that it read up to a cursor
abbrev pub IsReadTo : Feed → Cursor → List ℕ → Type 0
IsReadTo f cursor file = IsReadBy f (scan_of f.widths.items f.numbers.items cursor) file

-- the feed has given the first samples of this file, as many as it counts, and none of its other lines that are not blank
abbrev pub StandsFor : Feed → List ℕ → Type 0
StandsFor f file = IsReadBy f (fresh f.widths.items) file

-- a shelf tells that the file of this name has these bytes
abbrev pub Tells : Told → List ℕ → List ℕ → Type 0
Tells None name file = ⊥
Tells (Some files) name file = files name ≡ Some file

-- the samples of the feed's file
abbrev pub fed : Feed → List ℕ → Fed
fed f file = fed_of f.widths.items f.limit f.most file

-- the samples of the lines of the feed's file that stand with their LF
abbrev pub whole_samples : Feed → List ℕ → List (List ℕ)
whole_samples f file = (fed_within f.widths.items f.limit f.most file (length file)).samples

-- all samples of the file were given, and they end so
pub record IsOver (f : Feed) (file : List ℕ) (ending : Ending) : Type 0 where
  pub all : f.given ≡ length (fed f file).samples
  pub ends : (fed f file).ending ≡ ending

-- the sample after so many was given
pub record IsGiven (f : Feed) (given : ℕ) (numbers file : List ℕ) : Type 0 where
  pub sample : slice_get (fed f file).samples given ≡ Some numbers
  pub stands : StandsFor f file

-- what an answer after so many samples says of the file
abbrev pub Gives : Got → ℕ → Feed → List ℕ → List ℕ → Type 0
Gives Got.Sample given f numbers file = IsGiven f given numbers file
Gives Got.End given f numbers file = IsOver f file End
Gives (Got.BadSample line) given f numbers file = IsOver f file (BadSample line)
Gives (Got.Limit cap) given f numbers file = IsOver f file (Limit cap)
Gives Got.ReadFault given f numbers file = f.given ≡ length (fed_within f.widths.items f.limit f.most file f.place).samples

-- what the answer of a feed says of the file, where it was so before
abbrev pub GivesNext : Got → Feed → Feed → List ℕ → List ℕ → Type 0
GivesNext got old new numbers file = Gives got (given_of old) new numbers file

-- ---- a file by the bytes that were read of it
-- the file begins with these bytes, and where its end was met it has no others
pub record Begins (tail : Tail) (bytes file : List ℕ) : Type 0 where
  pub rest : List ℕ
  pub whole : file ≡ bytes ++ rest
  pub end : tail ≡ Tail.Ended → rest ≡ []

-- these are the bytes that a feed has read
pub record IsSeen (told : Told) (bytes : List ℕ) (f : Feed) : Type 0 where
  pub count : length bytes ≡ place_of f
  pub file : OfFile told (name_of f) (Begins f.tail bytes)

-- a feed that had read some bytes has read on, and this holds of every file that begins so
pub record ReadsOn (told : Told) (old : List ℕ) (before now : Feed) (Holds : List ℕ → Type 0) : Type 0 where
  pub bytes : List ℕ
  pub seen : IsSeen told bytes now
  pub began : (file : List ℕ) → Begins now.tail bytes file → Begins before.tail old file
  pub holds : (file : List ℕ) → Begins now.tail bytes file → Holds file
