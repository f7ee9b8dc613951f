-- A stage: its columns, and what its registers take.
use Rattle.std.proofs.Common.{◌≡◌, ◌<◌, ◌≤◌, ℕ, zero, suc, ◌+◌, ◌-◌, ◌*◌, Bool, true, List, [], ◌∷◌, ◌++◌, length, get_or, take, refl, sym, ap, subst, ◌∙◌, arith, inl, inr}
use Rattle.std.specs.List.{list_all}
use Rattle.std.proofs.lemmas.Bool.{and_parts, ltb-true, cases_lt}
use Rattle.pr_base.specs.Pe.{PeResult}
use Rattle.pr_conf.specs.declared.pes.Source.{Source}
use Rattle.pr_conf.specs.declared.pes.Pe.{Pe}
use Rattle.pr_conf.specs.Rules.{is_lawful_source, is_lawful_pe, are_lawful_pes}
use Rattle.pr_conf.specs.StageMap.{Sight, source_byte, made_from, whole_sight, output_at, last_carry}
use Rattle.pr_conf.proofs.ColumnLaws.{length-made_from, made_at, output_is, output_below, last_carry_is}
use Rattle.pr_lens_rtl.specs.declared.vectors.Part.{Part}
use Rattle.pr_lens_rtl.specs.declared.vectors.Net.{Net}
use Rattle.pr_lens_rtl.specs.Verilog.{Values, Assign, Takes, Fit}
use Rattle.pr_lens_rtl.specs.Module.{pe_wires, pes_wires}
use Rattle.pr_lens_rtl.specs.Traces.{at_places}
use Rattle.pr_code.specs.Spelling.{has_pe_bytes}
use Rattle.pr_lens_rtl.proofs.PeLaws.{Shows, site_at, lawful_parts, pe_law}

-- ---- lists of places
pub length-at_places : (f : ℕ → ℕ) (from n : ℕ) → length (at_places f from n) ≡ n
length-at_places f from zero = refl
length-at_places f from (suc n) = ap suc (length-at_places f (suc from) n)

pub get_or-at_places : (f : ℕ → ℕ) (from n k d : ℕ) → k < n → get_or (at_places f from n) k d ≡ f (from + k)
get_or-at_places f from zero k d l = absurd (omega arith)
get_or-at_places f from (suc n) zero d l = ap f (let e : from ≡ from + 0 = omega arith in e)
get_or-at_places f from (suc n) (suc k) d l = get_or-at_places f (suc from) n k d (omega arith) ∙ ap f (let e : suc from + k ≡ from + suc k = omega arith in e)

pub places_at : (f : ℕ → ℕ) (n k d : ℕ) → k < n → get_or (at_places f 0 n) k d ≡ f k
places_at f n k d l = get_or-at_places f 0 n k d l ∙ ap f (let e : 0 + k ≡ k = omega arith in e)

-- ---- lists of assignments
pub takes_left : (now after : Values) (xs ys : List Assign) → Takes now after (xs ++ ys) → Takes now after xs
takes_left now after [] ys h = tt
takes_left now after (x ∷ xs) ys h = (h.0, takes_left now after xs ys h.1)

pub takes_right : (now after : Values) (xs ys : List Assign) → Takes now after (xs ++ ys) → Takes now after ys
takes_right now after [] ys h = h
takes_right now after (x ∷ xs) ys h = takes_right now after xs ys h.1

pub wires_at : (now after : Values) (N s i : ℕ) (pes : List Pe) (j : ℕ) (d : Pe) → j < length pes → Takes now after (pes_wires N s i pes) → Takes now after (pe_wires N s (i + j) (get_or pes j d))
wires_at now after N s i [] j d l h = absurd (omega arith)
wires_at now after N s i (pe ∷ pes) zero d l h = subst (λ n. Takes now after (pe_wires N s n pe)) (let e : i ≡ i + 0 = omega arith in e) (takes_left now after (pe_wires N s i pe) (pes_wires N s (suc i) pes) h)
wires_at now after N s i (pe ∷ pes) (suc j) d l h =
    subst (λ n. Takes now after (pe_wires N s n (get_or pes j d))) (let e : suc i + j ≡ i + suc j = omega arith in e)
    (wires_at now after N s (suc i) pes j d (omega arith) (takes_right now after (pe_wires N s i pe) (pes_wires N s (suc i) pes) h))

-- ---- what holds of each processing element
pub all_at : {A : Type 0} (p : A → Bool) (xs : List A) (j : ℕ) (d : A) → j < length xs → list_all p xs ≡ true → p (get_or xs j d) ≡ true
all_at p [] j d l h = absurd (omega arith)
all_at p (x ∷ xs) zero d l h = (and_parts (p x) (list_all p xs) h).0
all_at p (x ∷ xs) (suc j) d l h = all_at p xs j d (omega arith) (and_parts (p x) (list_all p xs) h).1

pub lawful_at : (N P bus s i : ℕ) (pes : List Pe) (j : ℕ) (d : Pe) → j < length pes → are_lawful_pes (site_at N P bus s i) pes ≡ true → is_lawful_pe (site_at N P bus s (i + j)) (get_or pes j d) ≡ true
lawful_at N P bus s i [] j d l h = absurd (omega arith)
lawful_at N P bus s i (pe ∷ pes) zero d l h = ap (λ n. is_lawful_pe (site_at N P bus s n) pe) (let e : i + 0 ≡ i = omega arith in e) ∙ (and_parts (is_lawful_pe (site_at N P bus s i) pe) (are_lawful_pes (site_at N P bus s (i + 1)) pes) h).0
lawful_at N P bus s i (pe ∷ pes) (suc j) d l h =
    ap (λ n. is_lawful_pe (site_at N P bus s n) (get_or pes j d)) (let e : i + suc j ≡ i + 1 + j = omega arith in e)
    ∙ lawful_at N P bus s (i + 1) pes j d (omega arith) (and_parts (is_lawful_pe (site_at N P bus s i) pe) (are_lawful_pes (site_at N P bus s (i + 1)) pes) h).1

pub below_or_at : (F : ℕ → Type 0) (j : ℕ) → ((k : ℕ) → k < j → F k) → F j → (k : ℕ) → k < suc j → F k
below_or_at F j below here k h = elim (cases_lt k j) as (λ _. F k) [
  | inl lt ↦ below k lt
  | inr le ↦ subst F (let e : j ≡ k = omega arith in e) here
]

-- ---- the columns
pub record Reads (now : Values) (N P bus s : ℕ) (row state : List ℕ) : Type 0 where
  pub first : s ≡ 0 → (k : ℕ) → k < bus → now (Net.In k) ≡ get_or row k 0
  pub prev : 0 < s → (k : ℕ) → k < (P - 1) * N → now (Net.Of Part.Row (s - 1) k) ≡ get_or row k 0
  pub states : (k : ℕ) → k < N → now (Net.Of Part.State s k) ≡ get_or state k 0

module _ (now : Values) (N P bus s : ℕ) (row state : List ℕ) (pes : List Pe) (d : Pe) (fit : Fit now) (reads : Reads now N P bus s row state)
    (lawful : are_lawful_pes (site_at N P bus s 0) pes ≡ true) (bytes : list_all has_pe_bytes pes ≡ true) (wires : Takes now now (pes_wires N s 0 pes)) where
  abbrev all : List PeResult
  all = made_from N row state [] pes

  none : PeResult
  none = record { output = 0; carry = 0 }

  -- the sight of a column and that of the whole stage are alike for what the column may read
  source_whole : (j : ℕ) (x : Source) → is_lawful_source (site_at N P bus s j) x ≡ true
      → source_byte N (record { row = row; state = state; columns = take j all }) x ≡ source_byte N (whole_sight N pes state row) x
  source_whole j (Source.Const k) l = refl
  source_whole j (Source.Prev col reg) l = refl
  source_whole j (Source.Here col) l = output_below all j col (ltb-true col j l)
  source_whole j (Source.State col) l = refl
  source_whole j (Source.Bus place) l = refl

  pub record Columns (j : ℕ) : Type 0 where
    pub output : (k : ℕ) → k < j → now (Net.Of Part.Output s k) ≡ output_at all k
    pub a : (k : ℕ) → k < j → now (Net.Of Part.A s k) ≡ source_byte N (whole_sight N pes state row) (get_or pes k d).a
    pub carry : 0 < j → now (Net.Of Part.Carry s (j - 1)) ≡ last_carry (take j all)

  pub long : length all ≡ length pes
  long = length-made_from N row state [] pes ∙ (let e : 0 + length pes ≡ length pes = omega arith in e)

  pub columns_law : (j : ℕ) → j ≤ length pes → Columns j
  columns_law zero l = record { output = λ k h. absurd (omega arith); a = λ k h. absurd (omega arith); carry = λ h. absurd (omega arith) }
  columns_law (suc j) l =
      let before = columns_law j (omega arith) in
      let lt : j < length pes = omega arith in
      let sight : Sight = record { row = row; state = state; columns = take j all } in
      let at : 0 + j ≡ j = omega arith in
      let pe = get_or pes j d in
      let shows : Shows now N P bus s j sight = record {
        first = reads.first;
        prev = reads.prev;
        state = reads.states;
        output = λ k h. before.output k h ∙ sym (output_below all j k h);
        carry = before.carry;
      } in
      let is : is_lawful_pe (site_at N P bus s j) pe ≡ true = subst (λ n. is_lawful_pe (site_at N P bus s n) pe ≡ true) at (lawful_at N P bus s 0 pes j d lt lawful) in
      let w : Takes now now (pe_wires N s j pe) = subst (λ n. Takes now now (pe_wires N s n pe)) at (wires_at now now N s 0 pes j d lt wires) in
      let holds = pe_law now N P bus s j sight fit shows pe is (all_at has_pe_bytes pes j d lt bytes) w in
      let made = made_at N row state pes j d none lt in
      let within : j < length all = let e = long in omega arith in
      let next : suc j - 1 ≡ j = omega arith in
      let out : now (Net.Of Part.Output s j) ≡ output_at all j = holds.output ∙ sym (ap (λ m. m.output) made) ∙ sym (output_is all j none within) in
      let first : now (Net.Of Part.A s j) ≡ source_byte N (whole_sight N pes state row) pe.a = holds.a ∙ source_whole j pe.a ((lawful_parts (site_at N P bus s j) pe is).a) in
      let car : now (Net.Of Part.Carry s j) ≡ last_carry (take (suc j) all) =
      holds.carry ∙ sym (ap (λ m. m.carry) made) ∙ sym (last_carry_is all j none within) ∙ ap (λ n. last_carry (take n all)) (let e : j + 1 ≡ suc j = omega arith in e) in
      record {
        output = λ k h. below_or_at (λ n. now (Net.Of Part.Output s n) ≡ output_at all n) j before.output out k h;
        a = λ k h. below_or_at (λ n. now (Net.Of Part.A s n) ≡ source_byte N (whole_sight N pes state row) (get_or pes n d).a) j before.a first k h;
        carry = λ h. ap (λ n. now (Net.Of Part.Carry s n)) next ∙ car;
      }
