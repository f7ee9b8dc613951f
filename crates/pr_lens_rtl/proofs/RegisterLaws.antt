-- What the registers of a stage take at a clock.
use Rattle.std.proofs.Common.{◌≡◌, ◌<◌, ◌≤◌, ℕ, zero, suc, ◌+◌, ◌-◌, ◌*◌, ◌/◌, ◌%◌, ◌==◌, max, Bool, true, false, List, [], ◌∷◌, length, get_or, map, refl, sym, ap, subst, ◌∙◌, arith, if◌then◌else◌, inl, inr, lit<}
use Rattle.std.specs.List.{list_all}
use Rattle.std.proofs.Math.Nat.{mod-eq_of_lt, mul-le-mul_left}
use Rattle.std.proofs.lemmas.Bool.{cases_lt, and_parts, ltb-true}
use Rattle.std.proofs.lemmas.Bool.Decides.{nat_tests}
use Rattle.std.proofs.lemmas.List.{ext_get_or, length-map, get_or-map}
use Rattle.pr_base.specs.Pe.{PeResult, next_state}
use Rattle.pr_base.specs.declared.choices.Next.{Next}
use Rattle.pr_conf.specs.declared.pes.Pe.{Pe}
use Rattle.pr_conf.specs.Rules.{are_lawful_pes}
use Rattle.pr_conf.specs.StageMap.{made_from, whole_sight, output_at, states_from, registers_to, register_byte, step_of}
use Rattle.pr_conf.proofs.PassedLaws.{register_at, state_at, length-registers_to, length-states_from}
use Rattle.pr_lens_rtl.specs.Clocked.{advanced}
use Rattle.pr_lens_rtl.specs.declared.vectors.Part.{Part}
use Rattle.pr_lens_rtl.specs.declared.vectors.Net.{Net}
use Rattle.pr_lens_rtl.specs.Verilog.{Expr, Values, width_of, value, assigned, Takes, Fit}
use Rattle.pr_lens_rtl.specs.Module.{read, pes_wires, enabled, begun, read_valid, next_expr, state_register, state_registers, passed_expr, passed_registers, row_registers, stage_registers}
use Rattle.pr_lens_rtl.specs.Traces.{at_places, is_one, held}
use Rattle.pr_code.specs.Spelling.{has_pe_bytes, is_byte}
use Rattle.pr_lens_rtl.proofs.PeLaws.{site_at}
use Rattle.pr_lens_rtl.proofs.StageLaws.{length-at_places, places_at, takes_left, takes_right, Reads, Columns, columns_law, long, all_at}

-- the row that a stage reads: the sample at the inputs, or what the stage before shows
abbrev pub read_row : ℕ → ℕ → ℕ → Values → ℕ → List ℕ
read_row N P bus now zero = at_places (λ k. now (Net.In k)) 0 bus
read_row N P bus now (suc s) = at_places (λ k. now (Net.Of Part.Row s k)) 0 ((P - 1) * N)

pub valid_small : (now : Values) (s : ℕ) → Fit now → now (read_valid s) < 2
valid_small now zero fit = fit Net.InValid
valid_small now (suc s) fit = fit (Net.Valid s)

-- ---- the registers, found in their lists
pub passed_takes : (now after : Values) (s reg col place : ℕ) (pes : List Pe) (j : ℕ) (d : Pe) → j < length pes → Takes now after (passed_registers s reg col place pes)
    → after (Net.Of Part.Row s (place + j)) ≡ assigned now (enabled (Net.Of Part.Row s (place + j)) (passed_expr s reg (col + j) (place + j) (get_or pes j d)))
passed_takes now after s reg col place [] j d l h = absurd (omega arith)
passed_takes now after s reg col place (pe ∷ pes) zero d l h =
    let e : place ≡ place + 0 = omega arith in
    let f : col ≡ col + 0 = omega arith in
    subst (λ p. after (Net.Of Part.Row s p) ≡ assigned now (enabled (Net.Of Part.Row s p) (passed_expr s reg (col + 0) p pe))) e
    (subst (λ c. after (Net.Of Part.Row s place) ≡ assigned now (enabled (Net.Of Part.Row s place) (passed_expr s reg c place pe))) f h.0)
passed_takes now after s reg col place (pe ∷ pes) (suc j) d l h =
    let e : suc place + j ≡ place + suc j = omega arith in
    let f : suc col + j ≡ col + suc j = omega arith in
    subst (λ p. after (Net.Of Part.Row s p) ≡ assigned now (enabled (Net.Of Part.Row s p) (passed_expr s reg (col + suc j) p (get_or pes j d)))) e
    (subst (λ c. after (Net.Of Part.Row s (suc place + j)) ≡ assigned now (enabled (Net.Of Part.Row s (suc place + j)) (passed_expr s reg c (suc place + j) (get_or pes j d)))) f
    (passed_takes now after s reg (suc col) (suc place) pes j d (omega arith) h.1))

pub row_takes : (now after : Values) (N s count : ℕ) (pes : List Pe) (r j : ℕ) (d : Pe) → r < count → j < length pes → Takes now after (row_registers N s count pes)
    → after (Net.Of Part.Row s (r * N + j)) ≡ assigned now (enabled (Net.Of Part.Row s (r * N + j)) (passed_expr s (suc r) j (r * N + j) (get_or pes j d)))
row_takes now after N s zero pes r j d lr l h = absurd (omega arith)
row_takes now after N s (suc count) pes r j d lr l h = elim (cases_lt r count) [
  | inl lower ↦ row_takes now after N s count pes r j d lower l (takes_left now after (row_registers N s count pes) (passed_registers s (suc count) 0 (count * N) pes) h)
  | inr last ↦
      let same : count ≡ r = omega arith in
      let zj : 0 + j ≡ j = omega arith in
      subst (λ q. after (Net.Of Part.Row s (q * N + j)) ≡ assigned now (enabled (Net.Of Part.Row s (q * N + j)) (passed_expr s (suc q) j (q * N + j) (get_or pes j d)))) same
      (subst (λ c. after (Net.Of Part.Row s (count * N + j)) ≡ assigned now (enabled (Net.Of Part.Row s (count * N + j)) (passed_expr s (suc count) c (count * N + j) (get_or pes j d)))) zj
      (passed_takes now after s (suc count) 0 (count * N) pes j d l (takes_right now after (row_registers N s count pes) (passed_registers s (suc count) 0 (count * N) pes) h)))
]

pub state_takes : (now after : Values) (s col : ℕ) (pes : List Pe) (j : ℕ) (d : Pe) → j < length pes → Takes now after (state_registers s col pes)
    → after (Net.Of Part.State s (col + j)) ≡ assigned now (state_register s (col + j) (get_or pes j d))
state_takes now after s col [] j d l h = absurd (omega arith)
state_takes now after s col (pe ∷ pes) zero d l h =
    subst (λ c. after (Net.Of Part.State s c) ≡ assigned now (state_register s c pe)) (let e : col ≡ col + 0 = omega arith in e) h.0
state_takes now after s col (pe ∷ pes) (suc j) d l h =
    subst (λ c. after (Net.Of Part.State s c) ≡ assigned now (state_register s c (get_or pes j d))) (let e : suc col + j ≡ col + suc j = omega arith in e)
    (state_takes now after s (suc col) pes j d (omega arith) h.1)

-- ---- a register, by whether there is a reset, and whether the pipeline is enabled
-- one that is 8 or 1 bits wide, whose next value has a value of its own at each width
abbrev by_flags : ℕ → ℕ → ℕ → ℕ → ℕ → ℕ
by_flags reset ready first next same = if reset == 0 then (if ready == 0 then same else next) else first

flags_small : (w reset ready first next same : ℕ) → first < w → next < w → same < w → by_flags reset ready first next same < w
flags_small w reset ready first next same hf hn hs = go (reset == 0) (ready == 0)
  where
    go : (a b : Bool) → (if a then (if b then same else next) else first) < w
    go true true = hs
    go true false = hn
    go false b = hf

module _ (now after : Values) (fit : Fit now) where
  abbrev passed_value : ℕ → ℕ → ℕ → ℕ → Pe → ℕ
  passed_value s reg col place pe = if pe.write == reg then now (Net.Of Part.Output s col) else (if s == 0 then 0 else now (Net.Of Part.Row (s - 1) place))

  passed_is : (s reg col place w : ℕ) (pe : Pe) → (value now (passed_expr s reg col place pe) w ≡ passed_value s reg col place pe) × (passed_value s reg col place pe < 256)
  unfolding passed_value
  passed_is s reg col place w pe = go (pe.write == reg) (s == 0)
    where
      go : (a b : Bool) → (value now (if a then read Part.Output s col else if b then Expr.Byte 0 else read Part.Row (s - 1) place) w
          ≡ (if a then now (Net.Of Part.Output s col) else (if b then 0 else now (Net.Of Part.Row (s - 1) place))))
          × ((if a then now (Net.Of Part.Output s col) else (if b then 0 else now (Net.Of Part.Row (s - 1) place))) < 256)
      go true b = (refl, fit (Net.Of Part.Output s col))
      go false true = (refl, lit< tt)
      go false false = (refl, fit (Net.Of Part.Row (s - 1) place))

  -- a byte of a row
  row_next : (s reg col place : ℕ) (pe : Pe) → after (Net.Of Part.Row s place) ≡ assigned now (enabled (Net.Of Part.Row s place) (passed_expr s reg col place pe))
      → after (Net.Of Part.Row s place) ≡ (if now Net.InReady == 0 then now (Net.Of Part.Row s place) else passed_value s reg col place pe)
  row_next s reg col place pe h =
      let w = max 8 (max (width_of (passed_expr s reg col place pe)) 8) in
      let p = passed_is s reg col place w pe in
      h ∙ ap (λ n. (if now Net.InReady == 0 then now (Net.Of Part.Row s place) else n) % 256) p.0
      ∙ mod-eq_of_lt (go (now Net.InReady == 0) p.1)
    where
      go : (b : Bool) → passed_value s reg col place pe < 256 → (if b then now (Net.Of Part.Row s place) else passed_value s reg col place pe) < 256
      go true l = fit (Net.Of Part.Row s place)
      go false l = l

  -- a state
  abbrev next_value : Next → ℕ → ℕ → ℕ
  next_value next s col = next_state next (now (Net.Of Part.State s col)) (now (Net.Of Part.Output s col)) (now (Net.Of Part.A s col))

  next_is : (next : Next) (s col w : ℕ) → (value now (next_expr next s col) w ≡ next_value next s col) × (next_value next s col < 256)
  unfolding next_value
  next_is Next.Keep s col w = (refl, fit (Net.Of Part.State s col))
  next_is Next.Output s col w = (refl, fit (Net.Of Part.Output s col))
  next_is Next.A s col w = (refl, fit (Net.Of Part.A s col))

  state_next : (s col : ℕ) (pe : Pe) → pe.init < 256 → after (Net.Of Part.State s col) ≡ assigned now (state_register s col pe)
      → after (Net.Of Part.State s col) ≡ by_flags (now Net.Reset) (now Net.InReady) pe.init (if now (read_valid s) == 0 then now (Net.Of Part.State s col) else next_value pe.next s col) (now (Net.Of Part.State s col))
  state_next s col pe small h =
      let w = max 8 (max 8 (max (max (width_of (next_expr pe.next s col)) 8) 8)) in
      let p = next_is pe.next s col w in
      h ∙ ap (λ n. by_flags (now Net.Reset) (now Net.InReady) (pe.init % 256) (if now (read_valid s) == 0 then now (Net.Of Part.State s col) else n) (now (Net.Of Part.State s col)) % 256) p.0
      ∙ ap (λ n. by_flags (now Net.Reset) (now Net.InReady) n (if now (read_valid s) == 0 then now (Net.Of Part.State s col) else next_value pe.next s col) (now (Net.Of Part.State s col)) % 256) (mod-eq_of_lt small)
      ∙ mod-eq_of_lt (flags_small 256 (now Net.Reset) (now Net.InReady) pe.init (if now (read_valid s) == 0 then now (Net.Of Part.State s col) else next_value pe.next s col) (now (Net.Of Part.State s col)) small (go (now (read_valid s) == 0) p.1) (fit (Net.Of Part.State s col)))
    where
      go : (b : Bool) → next_value pe.next s col < 256 → (if b then now (Net.Of Part.State s col) else next_value pe.next s col) < 256
      go true l = fit (Net.Of Part.State s col)
      go false l = l

  -- a flag
  flag_next : (s : ℕ) → after (Net.Valid s) ≡ assigned now (begun (Expr.Bit false) (enabled (Net.Valid s) (Expr.Read (read_valid s))))
      → after (Net.Valid s) ≡ by_flags (now Net.Reset) (now Net.InReady) 0 (now (read_valid s)) (now (Net.Valid s))
  flag_next s h = h ∙ mod-eq_of_lt (flags_small 2 (now Net.Reset) (now Net.InReady) 0 (now (read_valid s)) (now (Net.Valid s)) (let z : 0 < 2 = omega arith in z) (valid_small now s fit) (fit (Net.Valid s)))

init_small : (pe : Pe) → has_pe_bytes pe ≡ true → pe.init < 256
unfolding has_pe_bytes
init_small pe h = ltb-true pe.init 256 (and_parts _ (is_byte pe.init) h).1

pub places_alike : (f g : ℕ → ℕ) (from n : ℕ) → ((k : ℕ) → k < n → f (from + k) ≡ g (from + k)) → at_places f from n ≡ at_places g from n
places_alike f g from zero h = refl
places_alike f g from (suc n) h =
    let z : from + 0 ≡ from = omega arith in
    let head : f from ≡ g from = subst (λ q. f q ≡ g q) z (h 0 (omega arith)) in
    let tail = places_alike f g (suc from) n (λ k l. subst (λ q. f q ≡ g q) (let e : from + suc k ≡ suc from + k = omega arith in e) (h (suc k) (omega arith))) in
    λ t. head t ∷ tail t

-- ---- a stage
-- the facts about a stage that the clock is to be proved for
pub record IsStage (N P bus s : ℕ) (pes : List Pe) : Type 0 where
  pub columns : 1 ≤ N
  pub registers : 2 ≤ P
  pub long : length pes ≡ N
  pub lawful : are_lawful_pes (site_at N P bus s 0) pes ≡ true
  pub bytes : list_all has_pe_bytes pes ≡ true

pub reads_of : (now : Values) (N P bus s : ℕ) → Reads now N P bus s (read_row N P bus now s) (at_places (λ k. now (Net.Of Part.State s k)) 0 N)
reads_of now N P bus zero = record {
  first = λ e k l. sym (places_at (λ k. now (Net.In k)) bus k 0 l);
  prev = λ h k l. absurd (omega arith);
  states = λ k l. sym (places_at (λ k. now (Net.Of Part.State zero k)) N k 0 l);
}
reads_of now N P bus (suc s) = record {
  first = λ e k l. absurd (omega arith);
  prev = λ h k l. ap (λ q. now (Net.Of Part.Row q k)) (let e : suc s - 1 ≡ s = omega arith in e) ∙ sym (places_at (λ k. now (Net.Of Part.Row s k)) ((P - 1) * N) k 0 l);
  states = λ k l. sym (places_at (λ k. now (Net.Of Part.State (suc s) k)) N k 0 l);
}

row_long : (N P bus : ℕ) (now : Values) (s : ℕ) → (s == 0) ≡ false → length (read_row N P bus now s) ≡ (P - 1) * N
row_long N P bus now zero e = absurd (cc)
row_long N P bus now (suc s) e = length-at_places (λ k. now (Net.Of Part.Row s k)) 0 ((P - 1) * N)

module _ (now after : Values) (N P bus s : ℕ) (pes : List Pe) (d : Pe) (fit : Fit now) (stage : IsStage N P bus s pes)
    (wires : Takes now now (pes_wires N s 0 pes)) (takes : Takes now after (stage_registers N P s pes)) where
  abbrev row : List ℕ
  row = read_row N P bus now s

  abbrev state : List ℕ
  state = at_places (λ k. now (Net.Of Part.State s k)) 0 N

  abbrev all : List PeResult
  all = made_from N row state [] pes

  columns : Columns now N P bus s row state pes d fit (reads_of now N P bus s) stage.lawful stage.bytes wires (length pes)
  columns = columns_law now N P bus s row state pes d fit (reads_of now N P bus s) stage.lawful stage.bytes wires (length pes) (omega arith)

  made_long : length all ≡ N
  made_long = long now N P bus s row state pes d fit (reads_of now N P bus s) stage.lawful stage.bytes wires ∙ stage.long

  takes_states : Takes now after (state_registers s 0 pes)
  takes_states = takes_left now after (state_registers s 0 pes) (row_registers N s (P - 1) pes) takes.1

  takes_rows : Takes now after (row_registers N s (P - 1) pes)
  takes_rows = takes_right now after (state_registers s 0 pes) (row_registers N s (P - 1) pes) takes.1

  -- the flag
  flag_law : after (Net.Valid s) ≡ by_flags (now Net.Reset) (now Net.InReady) 0 (now (read_valid s)) (now (Net.Valid s))
  flag_law = flag_next now after fit s takes.0

  -- what the stage before shows at a place, and 0 in the first stage
  before_place : (r j : ℕ) → r * N + j < (P - 1) * N → (b : Bool) → (s == 0) ≡ b
      → (if s == 0 then 0 else now (Net.Of Part.Row (s - 1) (r * N + j))) ≡ (if s == 0 then 0 else register_byte N row j (suc r))
  before_place r j l true e = ap (λ t. if t then 0 else now (Net.Of Part.Row (s - 1) (r * N + j))) e ∙ sym (ap (λ t. if t then 0 else register_byte N row j (suc r)) e)
  before_place r j l false e =
      let far : 0 < s = grind (arith, nat_tests) in
      ap (λ (q : ℕ). if s == 0 then 0 else q)
      ((reads_of now N P bus s).prev far (r * N + j) l ∙ ap (λ q. get_or row (q * N + j) 0) (let e : r ≡ suc r - 1 = omega arith in e))

  -- the byte at a place of the row, when the pipeline is enabled
  row_place : now Net.InReady ≡ 1 → (i : ℕ) → i < (P - 1) * N → after (Net.Of Part.Row s i) ≡ get_or (registers_to (P - 1) N (s == 0) pes all row) i 0
  row_place on i l =
      let n : 1 ≤ N = stage.columns in
      let p : 2 ≤ P = stage.registers in
      let r = i / N in
      let j = i % N in
      let cut : N * (i / N) + i % N ≡ i = omega arith in
      let at : r * N + j ≡ i = omega arith in
      let below : j < N = omega arith in
      let lr : r < P - 1 = elim (cases_lt r (P - 1)) as (λ _. r < P - 1) [
        | inl lt ↦ lt
        | inr ge ↦ let m : N * (P - 1) ≤ N * r = mul-le-mul_left N ge in absurd (omega arith)
      ] in
      let lj : j < length pes = let e = stage.long in omega arith in
      let pe = get_or pes j d in
      let got = row_next now after fit s (suc r) j (r * N + j) pe (row_takes now after N s (P - 1) pes r j d lr lj takes_rows) in
      let wanted = register_at (P - 1) P N (s == 0) pes all row (suc r) j d (omega arith) (row_long N P bus now s) stage.long made_long (omega arith) (omega arith) below in
      subst (λ q. after (Net.Of Part.Row s q) ≡ get_or (registers_to (P - 1) N (s == 0) pes all row) q 0) at
      (got ∙ ap (λ q. if q == 0 then now (Net.Of Part.Row s (r * N + j)) else passed_value now after fit s (suc r) j (r * N + j) pe) on
      ∙ ap (λ q. if pe.write == suc r then q else (if s == 0 then 0 else now (Net.Of Part.Row (s - 1) (r * N + j)))) (columns.output j lj)
      ∙ ap (λ q. if pe.write == suc r then output_at all j else q) (before_place r j (subst (λ q. q < (P - 1) * N) (sym at) l) (s == 0) refl)
      ∙ sym wanted ∙ ap (λ q. get_or (registers_to (P - 1) N (s == 0) pes all row) (q * N + j) 0) (let e : suc r - 1 ≡ r = omega arith in e))

  row_same : now Net.InReady ≡ 0 → (i : ℕ) → i < (P - 1) * N → after (Net.Of Part.Row s i) ≡ now (Net.Of Part.Row s i)
  row_same off i l =
      let n : 1 ≤ N = stage.columns in
      let p : 2 ≤ P = stage.registers in
      let r = i / N in
      let j = i % N in
      let cut : N * (i / N) + i % N ≡ i = omega arith in
      let at : r * N + j ≡ i = omega arith in
      let lr : r < P - 1 = elim (cases_lt r (P - 1)) as (λ _. r < P - 1) [
        | inl lt ↦ lt
        | inr ge ↦ let m : N * (P - 1) ≤ N * r = mul-le-mul_left N ge in absurd (omega arith)
      ] in
      let lj : j < length pes = let e = stage.long in omega arith in
      let pe = get_or pes j d in
      subst (λ q. after (Net.Of Part.Row s q) ≡ now (Net.Of Part.Row s q)) at
      (row_next now after fit s (suc r) j (r * N + j) pe (row_takes now after N s (P - 1) pes r j d lr lj takes_rows)
      ∙ ap (λ q. if q == 0 then now (Net.Of Part.Row s (r * N + j)) else passed_value now after fit s (suc r) j (r * N + j) pe) off)

  pub row_on : now Net.InReady ≡ 1 → at_places (λ k. after (Net.Of Part.Row s k)) 0 ((P - 1) * N) ≡ registers_to (P - 1) N (s == 0) pes all row
  row_on on =
      let p : 2 ≤ P = stage.registers in
      let size = length-at_places (λ k. after (Net.Of Part.Row s k)) 0 ((P - 1) * N) in
      ext_get_or 0 _ _ (size ∙ sym (length-registers_to (P - 1) P N (s == 0) pes all row (omega arith) (row_long N P bus now s) stage.long made_long))
      (λ i l. let lt : i < (P - 1) * N = omega arith in places_at (λ k. after (Net.Of Part.Row s k)) ((P - 1) * N) i 0 lt ∙ row_place on i lt)

  -- a state
  state_place : (k : ℕ) → k < N → after (Net.Of Part.State s k)
      ≡ by_flags (now Net.Reset) (now Net.InReady) (get_or pes k d).init (if now (read_valid s) == 0 then now (Net.Of Part.State s k) else next_value now after fit (get_or pes k d).next s k) (now (Net.Of Part.State s k))
  state_place k l =
      let lk : k < length pes = let e = stage.long in omega arith in
      let pe = get_or pes k d in
      let zk : 0 + k ≡ k = omega arith in
      state_next now after fit s k pe (init_small pe (all_at has_pe_bytes pes k d lk stage.bytes))
      (subst (λ c. after (Net.Of Part.State s c) ≡ assigned now (state_register s c pe)) zk (state_takes now after s 0 pes k d lk takes_states))

  state_size : (f : ℕ → ℕ) → length (at_places f 0 N) ≡ N
  state_size f = length-at_places f 0 N

  -- the states on a valid row
  states_step : now Net.Reset ≡ 0 → now Net.InReady ≡ 1 → now (read_valid s) ≡ 1
      → at_places (λ k. after (Net.Of Part.State s k)) 0 N ≡ states_from N (whole_sight N pes state row) pes all state
  states_step r on v =
      ext_get_or 0 _ _ (state_size (λ k. after (Net.Of Part.State s k)) ∙ sym stage.long ∙ sym (length-states_from N (whole_sight N pes state row) pes all state (made_long ∙ sym stage.long) (state_size (λ k. now (Net.Of Part.State s k)) ∙ sym stage.long)))
      (λ k l.
      let lt : k < N = let e = state_size (λ k. after (Net.Of Part.State s k)) in omega arith in
      let lk : k < length pes = let e = stage.long in omega arith in
      let pe = get_or pes k d in
      places_at (λ k. after (Net.Of Part.State s k)) N k 0 lt ∙ state_place k lt
      ∙ ap (λ q. by_flags q (now Net.InReady) pe.init (if now (read_valid s) == 0 then now (Net.Of Part.State s k) else next_value now after fit pe.next s k) (now (Net.Of Part.State s k))) r
      ∙ ap (λ q. if q == 0 then now (Net.Of Part.State s k) else (if now (read_valid s) == 0 then now (Net.Of Part.State s k) else next_value now after fit pe.next s k)) on
      ∙ ap (λ q. if q == 0 then now (Net.Of Part.State s k) else next_value now after fit pe.next s k) v
      ∙ ap (λ q. next_state pe.next q (now (Net.Of Part.Output s k)) (now (Net.Of Part.A s k))) (sym (places_at (λ k. now (Net.Of Part.State s k)) N k 0 lt))
      ∙ ap (λ q. next_state pe.next (get_or state k 0) q (now (Net.Of Part.A s k))) (columns.output k lk)
      ∙ ap (λ q. next_state pe.next (get_or state k 0) (output_at all k) q) (columns.a k lk)
      ∙ sym (state_at N (whole_sight N pes state row) pes all state k d lk (made_long ∙ sym stage.long) (state_size (λ k. now (Net.Of Part.State s k)) ∙ sym stage.long)))

  -- the states otherwise
  same_states : ((k : ℕ) → k < N → after (Net.Of Part.State s k) ≡ now (Net.Of Part.State s k)) → at_places (λ k. after (Net.Of Part.State s k)) 0 N ≡ state
  same_states h = places_alike _ _ 0 N (λ k l. h (0 + k) (omega arith))

  states_kept : now Net.Reset ≡ 0 → now Net.InReady ≡ 1 → now (read_valid s) ≡ 0 → at_places (λ k. after (Net.Of Part.State s k)) 0 N ≡ state
  states_kept r on v = same_states (λ k lt.
      let pe = get_or pes k d in
      state_place k lt
      ∙ ap (λ q. by_flags q (now Net.InReady) pe.init (if now (read_valid s) == 0 then now (Net.Of Part.State s k) else next_value now after fit pe.next s k) (now (Net.Of Part.State s k))) r
      ∙ ap (λ q. if q == 0 then now (Net.Of Part.State s k) else (if now (read_valid s) == 0 then now (Net.Of Part.State s k) else next_value now after fit pe.next s k)) on
      ∙ ap (λ q. if q == 0 then now (Net.Of Part.State s k) else next_value now after fit pe.next s k) v)

  states_off : now Net.Reset ≡ 0 → now Net.InReady ≡ 0 → at_places (λ k. after (Net.Of Part.State s k)) 0 N ≡ state
  states_off r off = same_states (λ k lt.
      let pe = get_or pes k d in
      state_place k lt
      ∙ ap (λ q. by_flags q (now Net.InReady) pe.init (if now (read_valid s) == 0 then now (Net.Of Part.State s k) else next_value now after fit pe.next s k) (now (Net.Of Part.State s k))) r
      ∙ ap (λ q. if q == 0 then now (Net.Of Part.State s k) else (if now (read_valid s) == 0 then now (Net.Of Part.State s k) else next_value now after fit pe.next s k)) off)

  states_reset : now Net.Reset ≡ 1 → at_places (λ k. after (Net.Of Part.State s k)) 0 N ≡ map (λ (pe : Pe). pe.init) pes
  states_reset r =
      ext_get_or 0 _ _ (state_size (λ k. after (Net.Of Part.State s k)) ∙ sym stage.long ∙ sym (length-map pes (λ (pe : Pe). pe.init)))
      (λ k l.
      let lt : k < N = let e = state_size (λ k. after (Net.Of Part.State s k)) in omega arith in
      let lk : k < length pes = let e = stage.long in omega arith in
      let pe = get_or pes k d in
      places_at (λ k. after (Net.Of Part.State s k)) N k 0 lt ∙ state_place k lt
      ∙ ap (λ q. by_flags q (now Net.InReady) pe.init (if now (read_valid s) == 0 then now (Net.Of Part.State s k) else next_value now after fit pe.next s k) (now (Net.Of Part.State s k))) r
      ∙ sym (get_or-map (λ (pe : Pe). pe.init) pes k d 0 lk))

  -- ---- the whole stage
  one_or_none : (F : ℕ → Type 0) (v : ℕ) → v < 2 → (v ≡ 0 → F v) → (v ≡ 1 → F v) → F v
  one_or_none F zero l a b = a refl
  one_or_none F (suc zero) l a b = b refl
  one_or_none F (suc (suc v)) l a b = absurd (omega arith)

  -- the stage advances where the pipeline is enabled
  pub stage_on : now Net.Reset ≡ 0 → now Net.InReady ≡ 1 → held N P after s ≡ advanced (step_of N P (s == 0) pes) (is_one (now (read_valid s))) row (held N P now s)
  unfolding step_of
  stage_on r on =
      let states : at_places (λ k. after (Net.Of Part.State s k)) 0 N ≡ (if is_one (now (read_valid s)) then states_from N (whole_sight N pes state row) pes all state else state) =
      one_or_none (λ v. now (read_valid s) ≡ v → at_places (λ k. after (Net.Of Part.State s k)) 0 N ≡ (if is_one v then states_from N (whole_sight N pes state row) pes all state else state)) (now (read_valid s)) (valid_small now s fit)
      (λ z e. states_kept r on (e ∙ z) ∙ sym (ap (λ v. if is_one v then states_from N (whole_sight N pes state row) pes all state else state) z))
      (λ z e. states_step r on (e ∙ z) ∙ sym (ap (λ v. if is_one v then states_from N (whole_sight N pes state row) pes all state else state) z))
      refl in
      let flag : after (Net.Valid s) ≡ now (read_valid s) = flag_law
      ∙ ap (λ q. by_flags q (now Net.InReady) 0 (now (read_valid s)) (now (Net.Valid s))) r
      ∙ ap (λ q. if q == 0 then now (Net.Valid s) else now (read_valid s)) on in
      let rows = row_on on in
      let valid : is_one (after (Net.Valid s)) ≡ is_one (now (read_valid s)) = ap is_one flag in
      λ t. record { state = states t; valid = valid t; row = rows t }

  -- it stays where it is not
  pub stage_off : now Net.Reset ≡ 0 → now Net.InReady ≡ 0 → held N P after s ≡ held N P now s
  stage_off r off =
      let states = states_off r off in
      let flag : after (Net.Valid s) ≡ now (Net.Valid s) = flag_law
      ∙ ap (λ q. by_flags q (now Net.InReady) 0 (now (read_valid s)) (now (Net.Valid s))) r
      ∙ ap (λ q. if q == 0 then now (Net.Valid s) else now (read_valid s)) off in
      let valid : is_one (after (Net.Valid s)) ≡ is_one (now (Net.Valid s)) = ap is_one flag in
      let rows : at_places (λ k. after (Net.Of Part.Row s k)) 0 ((P - 1) * N) ≡ at_places (λ k. now (Net.Of Part.Row s k)) 0 ((P - 1) * N) =
      places_alike _ _ 0 ((P - 1) * N) (λ k l. row_same off (0 + k) (omega arith)) in
      λ t. record { state = states t; valid = valid t; row = rows t }

  -- after a reset it is in its first state, and shows a bubble
  pub stage_reset : now Net.Reset ≡ 1 → ((held N P after s).state ≡ (step_of N P (s == 0) pes).init) × ((held N P after s).valid ≡ false)
  unfolding step_of
  stage_reset r = (states_reset r, ap is_one (flag_law ∙ ap (λ q. by_flags q (now Net.InReady) 0 (now (read_valid s)) (now (Net.Valid s))) r))
