-- The states that samples leave are bytes, so a configuration after samples has bytes where it had them before.
use Rattle.std.proofs.Common.{◌≡◌, ◌<◌, ℕ, zero, suc, ◌+◌, ◌-◌, ◌*◌, ◌/◌, ◌==◌, Bool, true, false, List, [], ◌∷◌, ◌++◌, length, map, take, drop, replicate, slice_index, slice_index_or, bit_and, refl, arith}
use Rattle.std.specs.Bool.{if◌then◌else◌}
use Rattle.std.specs.List.{list_all}
use Rattle.std.proofs.lemmas.Bool.{ltb-true}
use Rattle.std.proofs.lemmas.Nat.{and_le_r}
use Rattle.pr_base.specs.Numbers.{slices_of, bytes_of}
use Rattle.pr_base.specs.Rows.{row_bytes}
use Rattle.pr_base.specs.Pe.{PeResult, next_state}
use Rattle.pr_base.specs.declared.choices.Next.{Next}
use Rattle.pr_conf_pipeline.specs.Rows.{state_over, rows_over, rows, state_after}
use Rattle.pr_conf.specs.declared.pes.Source.{Source}
use Rattle.pr_conf.specs.declared.pes.Pe.{Pe}
use Rattle.pr_conf.specs.Shape.{Shape}
use Rattle.pr_conf.specs.StageMap.{Sight, source_byte, made_from, pe_made, whole_sight, states_from, passed, passed_bytes, registers_to, state_map, row_map, step_of}
use Rattle.pr_conf.specs.Through.{steps_of}
use Rattle.pr_conf.specs.After.{begun, all_begun, state_rows, conf_after}
use Rattle.pr_code.specs.Spelling.{has_source_byte, has_pe_bytes, have_tap_bytes, has_bytes}
use Rattle.pr_code.proofs.AgainLemmas.{and_true}
use Rattle.pr_code.proofs.WritingLemmas.{both}
use Rattle.pr_tool_laws.proofs.ByteConfigurations.{IsBytePe, pe_whole, pe_parts}

-- ---- rows
abbrev pub AreBytes : List ℕ → Type 0
AreBytes [] = Unit {0}
AreBytes (b ∷ bytes) = (b < 256) × AreBytes bytes

abbrev pub AreByteRows : List (List ℕ) → Type 0
AreByteRows [] = Unit {0}
AreByteRows (row ∷ rows) = AreBytes row × AreByteRows rows

byte_in : (bytes : List ℕ) (i : ℕ) → AreBytes bytes → slice_index bytes i < 256
byte_in [] i h = omega arith
byte_in (b ∷ bytes) zero h = h.0
byte_in (b ∷ bytes) (suc i) h = byte_in bytes i h.1

bytes-append : (xs ys : List ℕ) → AreBytes xs → AreBytes ys → AreBytes (xs ++ ys)
bytes-append [] ys h k = k
bytes-append (x ∷ xs) ys h k = (h.0, bytes-append xs ys h.1 k)

bytes-take : (n : ℕ) (xs : List ℕ) → AreBytes xs → AreBytes (take n xs)
bytes-take zero xs h = tt
bytes-take (suc n) [] h = tt
bytes-take (suc n) (x ∷ xs) h = (h.0, bytes-take n xs h.1)

bytes-drop : (n : ℕ) (xs : List ℕ) → AreBytes xs → AreBytes (drop n xs)
bytes-drop zero xs h = h
bytes-drop (suc n) [] h = tt
bytes-drop (suc n) (x ∷ xs) h = bytes-drop n xs h.1

bytes-zeros : (n : ℕ) → AreBytes (replicate n 0)
bytes-zeros zero = tt
bytes-zeros (suc n) = (omega arith, bytes-zeros n)

rows-take : (n : ℕ) (xs : List (List ℕ)) → AreByteRows xs → AreByteRows (take n xs)
rows-take zero xs h = tt
rows-take (suc n) [] h = tt
rows-take (suc n) (x ∷ xs) h = (h.0, rows-take n xs h.1)

-- the bytes of samples are bytes
bytes_are : (k n : ℕ) → AreBytes (bytes_of k n)
bytes_are zero n = tt
bytes_are (suc k) n = (omega arith, bytes_are k (n / 256))

row_are : (widths row : List ℕ) → AreBytes (row_bytes widths row)
row_are [] row = tt
row_are (w ∷ widths) [] = tt
row_are (w ∷ widths) (n ∷ row) = bytes-append (bytes_of (slices_of w) n) (row_bytes widths row) (bytes_are (slices_of w) n) (row_are widths row)

pub samples_are : (widths : List ℕ) (samples : List (List ℕ)) → AreByteRows (map (row_bytes widths) samples)
samples_are widths [] = tt
samples_are widths (row ∷ samples) = (row_are widths row, samples_are widths samples)

-- ---- one stage
abbrev AreBytePes : List Pe → Type 0
AreBytePes [] = Unit {0}
AreBytePes (pe ∷ pes) = IsBytePe pe × AreBytePes pes

pes_parts : (pes : List Pe) → list_all has_pe_bytes pes ≡ true → AreBytePes pes
pes_parts [] h = tt
pes_parts (pe ∷ pes) h = let p = both (has_pe_bytes pe) (list_all has_pe_bytes pes) h in (pe_parts pe p.0, pes_parts pes p.1)

abbrev AreByteColumns : List PeResult → Type 0
AreByteColumns [] = Unit {0}
AreByteColumns (m ∷ columns) = (m.output < 256) × AreByteColumns columns

columns_push : (columns : List PeResult) (m : PeResult) → AreByteColumns columns → m.output < 256 → AreByteColumns (columns ++ m ∷ [])
columns_push [] m h k = (k, tt)
columns_push (c ∷ columns) m h k = (h.0, columns_push columns m h.1 k)

output_in : (columns : List PeResult) (i : ℕ) → AreByteColumns columns → slice_index (map (λ (m : PeResult). m.output) columns) i < 256
output_in [] i h = omega arith
output_in (m ∷ columns) zero h = h.0
output_in (m ∷ columns) (suc i) h = output_in columns i h.1

masked_is : (x mask : ℕ) → mask < 256 → bit_and x mask < 256
masked_is x mask h = omega (arith, h, and_le_r x mask)

made_are : (N : ℕ) (row state : List ℕ) (columns : List PeResult) (pes : List Pe) → AreByteColumns columns → AreBytePes pes → AreByteColumns (made_from N row state columns pes)
made_are N row state columns [] h p = h
made_are N row state columns (pe ∷ pes) h p =
    let sight : Sight = record { row = row; state = state; columns = columns } in
    let m = pe_made N sight pe in
    made_are N row state (columns ++ m ∷ []) pes (columns_push columns m h (masked_is _ pe.mask p.0.mask)) p.1

record IsByteSight (sight : Sight) : Type 0 where
  row : AreBytes sight.row
  state : AreBytes sight.state
  columns : AreByteColumns sight.columns

source_is : (N : ℕ) (sight : Sight) (source : Source) → IsByteSight sight → has_source_byte source ≡ true → source_byte N sight source < 256
source_is N sight (Source.Const k) s h = ltb-true k 256 h
source_is N sight (Source.Prev col reg) s h = byte_in sight.row ((reg - 1) * N + col) s.row
source_is N sight (Source.Here col) s h = output_in sight.columns col s.columns
source_is N sight (Source.State col) s h = byte_in sight.state col s.state
source_is N sight (Source.Bus place) s h = byte_in sight.row place s.row

next_is : (x : Next) (old output a : ℕ) → old < 256 → output < 256 → a < 256 → next_state x old output a < 256
next_is Next.Keep old output a h k l = h
next_is Next.Output old output a h k l = k
next_is Next.A old output a h k l = l

states_are : (N : ℕ) (sight : Sight) (pes : List Pe) (columns : List PeResult) (state : List ℕ) → IsByteSight sight → AreBytePes pes → AreByteColumns columns → AreBytes state → AreBytes (states_from N sight pes columns state)
states_are N sight [] columns state s p c h = tt
states_are N sight (pe ∷ pes) [] state s p c h = tt
states_are N sight (pe ∷ pes) (m ∷ columns) [] s p c h = tt
states_are N sight (pe ∷ pes) (m ∷ columns) (old ∷ state) s p c h =
    (next_is pe.next old m.output (source_byte N sight pe.a) h.0 c.0 (source_is N sight pe.a s p.0.a), states_are N sight pes columns state s p.1 c.1 h.1)

passed_are : (reg : ℕ) (pes : List Pe) (columns : List PeResult) (before : List ℕ) → AreByteColumns columns → AreBytes before → AreBytes (passed reg pes columns before)
passed_are reg [] columns before c h = tt
passed_are reg (pe ∷ pes) [] before c h = tt
passed_are reg (pe ∷ pes) (m ∷ columns) [] c h = tt
passed_are reg (pe ∷ pes) (m ∷ columns) (old ∷ before) c h =
    (elim (pe.write == reg) as (λ t. (if t then m.output else old) < 256) [ true ↦ c.0 | false ↦ h.0 ], passed_are reg pes columns before c.1 h.1)

before_are : (N : ℕ) (first : Bool) (row : List ℕ) (reg : ℕ) → AreBytes row → AreBytes (passed_bytes N first row reg)
before_are N true row reg h = bytes-zeros N
before_are N false row reg h = bytes-take N (drop ((reg - 1) * N) row) (bytes-drop ((reg - 1) * N) row h)

registers_are : (count N : ℕ) (first : Bool) (pes : List Pe) (columns : List PeResult) (row : List ℕ) → AreByteColumns columns → AreBytes row → AreBytes (registers_to count N first pes columns row)
registers_are zero N first pes columns row c h = tt
registers_are (suc count) N first pes columns row c h =
    bytes-append (registers_to count N first pes columns row) (passed (suc count) pes columns (passed_bytes N first row (suc count))) (registers_are count N first pes columns row c h)
    (passed_are (suc count) pes columns (passed_bytes N first row (suc count)) c (before_are N first row (suc count) h))

state_is : (N : ℕ) (pes : List Pe) (state row : List ℕ) → AreBytePes pes → AreBytes state → AreBytes row → AreBytes (state_map N pes state row)
state_is N pes state row p s h =
    let made = made_are N row state [] pes tt p in
    states_are N (whole_sight N pes state row) pes (made_from N row state [] pes) state (record { row = h; state = s; columns = made }) p made s

row_is : (N P : ℕ) (first : Bool) (pes : List Pe) (state row : List ℕ) → AreBytePes pes → AreBytes row → AreBytes (row_map N P first pes state row)
row_is N P first pes state row p h = registers_are (P - 1) N first pes (made_from N row state [] pes) row (made_are N row state [] pes tt p) h

inits_are : (pes : List Pe) → AreBytePes pes → AreBytes (map (λ (pe : Pe). pe.init) pes)
inits_are [] h = tt
inits_are (pe ∷ pes) h = (h.0.init, inits_are pes h.1)

-- ---- rows and states of a stage over samples
module _ (N P : ℕ) (first : Bool) (pes : List Pe) (p : AreBytePes pes) where
  over_state : (state : List ℕ) (xs : List (List ℕ)) → AreBytes state → AreByteRows xs → AreBytes (state_over (step_of N P first pes) state xs)
  unfolding step_of
  over_state state [] s h = s
  over_state state (x ∷ xs) s h = over_state (state_map N pes state x) xs (state_is N pes state x p s h.0) h.1

  over_rows : (state : List ℕ) (xs : List (List ℕ)) → AreBytes state → AreByteRows xs → AreByteRows (rows_over (step_of N P first pes) state xs)
  unfolding step_of
  over_rows state [] s h = tt
  over_rows state (x ∷ xs) s h = (row_is N P first pes state x p h.0, over_rows (state_map N pes state x) xs (state_is N pes state x p s h.0) h.1)

  first_state : AreBytes (step_of N P first pes).init
  unfolding step_of
  first_state = inits_are pes p

-- ---- a configuration
abbrev AreByteStages : List (List Pe) → Type 0
AreByteStages [] = Unit {0}
AreByteStages (pes ∷ stages) = AreBytePes pes × AreByteStages stages

stages_parts : (stages : List (List Pe)) → list_all (list_all has_pe_bytes) stages ≡ true → AreByteStages stages
stages_parts [] h = tt
stages_parts (pes ∷ stages) h = let p = both (list_all has_pe_bytes pes) (list_all (list_all has_pe_bytes) stages) h in (pes_parts pes p.0, stages_parts stages p.1)

stage_at : (stages : List (List Pe)) (s : ℕ) → AreByteStages stages → AreBytePes (slice_index_or stages s [])
stage_at [] s h = tt
stage_at (pes ∷ stages) zero h = h.0
stage_at (pes ∷ stages) (suc s) h = stage_at stages s h.1

module _ (N P : ℕ) (c : Shape) (xs : List (List ℕ)) (b : AreByteStages c.stages) (h : AreByteRows xs) where
  rows_are : (s : ℕ) → AreByteRows (rows (steps_of N P c) s xs)
  unfolding rows
  rows_are zero = h
  rows_are (suc s) =
      let p = stage_at c.stages s b in
      over_rows N P (s == 0) (slice_index_or c.stages s []) p (steps_of N P c s).init (rows (steps_of N P c) s xs) (first_state N P (s == 0) (slice_index_or c.stages s []) p) (rows_are s)

  rows_left : (s : ℕ) → AreBytes (state_rows N P c xs s)
  unfolding state_after
  rows_left s =
      let p = stage_at c.stages s b in
      over_state N P (s == 0) (slice_index_or c.stages s []) p (steps_of N P c s).init (take (length xs) (rows (steps_of N P c) s xs)) (first_state N P (s == 0) (slice_index_or c.stages s []) p) (rows-take (length xs) (rows (steps_of N P c) s xs) (rows_are s))

pes_whole : (pes : List Pe) → AreBytePes pes → list_all has_pe_bytes pes ≡ true
pes_whole [] p = refl
pes_whole (pe ∷ pes) p = and_true _ _ (pe_whole pe p.0) (pes_whole pes p.1)

begun_bytes : (pes : List Pe) (state : List ℕ) → AreBytePes pes → AreBytes state → list_all has_pe_bytes (begun pes state) ≡ true
begun_bytes [] state p s = refl
begun_bytes (pe ∷ pes) [] p s = pes_whole (pe ∷ pes) p
begun_bytes (pe ∷ pes) (byte ∷ state) p s =
    and_true _ _ (pe_whole (record pe { init = byte }) (record { a = p.0.a; hi = p.0.hi; lo = p.0.lo; c = p.0.c; table = p.0.table; mask = p.0.mask; init = s.0 })) (begun_bytes pes state p.1 s.1)

all_bytes : (states : ℕ → List ℕ) (stage : ℕ) (stages : List (List Pe)) → AreByteStages stages → ((s : ℕ) → AreBytes (states s)) → list_all (list_all has_pe_bytes) (all_begun states stage stages) ≡ true
all_bytes states stage [] b h = refl
all_bytes states stage (pes ∷ stages) b h = and_true _ _ (begun_bytes pes (states stage) b.0 (h stage)) (all_bytes states (stage + 1) stages b.1 h)

pub after_bytes : (N P : ℕ) (c : Shape) (xs : List (List ℕ)) → has_bytes c ≡ true → AreByteRows xs → has_bytes (conf_after N P c xs) ≡ true
unfolding conf_after
after_bytes N P c xs has h =
    let p = both (list_all have_tap_bytes c.outputs) (list_all (list_all has_pe_bytes) c.stages) has in
    let b = stages_parts c.stages p.1 in
    and_true _ _ p.0 (all_bytes (state_rows N P c xs) 0 c.stages b (rows_left N P c xs b h))
