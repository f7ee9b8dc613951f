-- Words that break no rule are the words of parts that the fabric allows: stages.
use Rattle.std.proofs.Common.{◌≡◌, ℕ, zero, suc, ◌+◌, ◌-◌, ◌*◌, ◌/◌, ◌%◌, ◌^◌, ◌<◌, ◌≤◌, ◌==◌, Bool, true, false, List, [], ◌∷◌, ◌++◌, length, drop, map, replicate, get_or, slice_index, refl, sym, ap, ◌∙◌, arith, None, cond, nat_lt, nat_le, append_assoc, zero-add}
use Rattle.std.specs.List.{flat_map, list_all}
use Rattle.std.proofs.lemmas.Bool.{ltb-true, lt-ltb, eq-eqb, leb-false}
use Rattle.std.proofs.lemmas.List.{drop-drop, get_or-drop, length-replicate}
use Rattle.std.proofs.lemmas.Nat.{mod_low, shr_high, pow-add}
use Rattle.std.proofs.Math.Nat.{mul-le-mul_right}
use Rattle.pr_conf.specs.declared.pes.Pe.{Pe}
use Rattle.pr_conf.specs.declared.stages.Site.{Site}
use Rattle.pr_conf.specs.Rules.{is_lawful_pe, are_lawful_pes, are_lawful_stages, site_of}
use Rattle.pr_code.specs.Spelling.{pe_words, is_set, set_words, has_pe_bytes, number_of_flags, map_words, stage_words}
use Rattle.pr_code.specs.Reading.{pe_of, pe_from, flags_of, marks_of, map_length, pes_of, pes_length, stage_of, stage_length, stages_of, stages_length}
use Rattle.pr_code.specs.Rules.{demand, first_broken, pe_rules, pes_rules, map_rules, stage_rules, stages_rules}
use Rattle.pr_code.proofs.BreakLemmas.{met}
use Rattle.pr_code.proofs.StageLemmas.{length-before_rules, length-stage_rules}
use Rattle.pr_code.proofs.SoundLemmas.{none_both, none_split, none_split_at, pe_sound, lawful_all}

abbrev pub AreWords : List ℕ → Type 0
AreWords words = (i : ℕ) → get_or words i 0 < 2 ^ 32

pub words-drop : (n : ℕ) (words : List ℕ) → AreWords words → AreWords (drop n words)
words-drop n words small i = rw get_or-drop (small (n + i))

-- a processing element whose words do not stand in the file
blank_unset : is_set (pe_from 0 0 0 0) ≡ false
unfolding is_set pe_words
blank_unset = refl

blank_bytes : has_pe_bytes (pe_from 0 0 0 0) ≡ true
unfolding has_pe_bytes
blank_bytes = refl

blank_lawful : (site : Site) → 0 < site.registers → is_lawful_pe site (pe_from 0 0 0 0) ≡ true
blank_lawful site some = lawful_all true true true true true true (nat_lt 0 site.registers) refl refl refl refl refl refl (lt-ltb _ _ some)

pub record PesSound (packed : Bool) (site : Site) (flags : List Bool) (words : List ℕ) : Type 0 where
  pub lawful : are_lawful_pes site (pes_of flags words) ≡ true
  pub count : length (pes_of flags words) ≡ length flags
  pub spelled : packed ≡ true → words ≡ flat_map set_words (pes_of flags words) ++ drop (pes_length flags) words
  pub set : packed ≡ true → map is_set (pes_of flags words) ≡ flags
  pub bytes : AreWords words → list_all has_pe_bytes (pes_of flags words) ≡ true

set_words_of : (pe : Pe) → is_set pe ≡ true → set_words pe ≡ pe_words pe
set_words_of pe set = ap (λ b. cond b (pe_words pe) []) set

set_words_none : (pe : Pe) → is_set pe ≡ false → set_words pe ≡ []
set_words_none pe set = ap (λ b. cond b (pe_words pe) []) set

pub pes_sound : (packed : Bool) (site : Site) (flags : List Bool) (place : ℕ) (words : List ℕ) → 0 < site.registers → site.registers ≤ 16 → first_broken (pes_rules packed site flags words) place words ≡ None → PesSound packed site flags words
pes_sound packed site [] place words some few h = record { lawful = refl; count = refl; spelled = λ p. refl; set = λ p. refl; bytes = λ small. refl }
pes_sound packed site (false ∷ flags) place words some few h =
    let rest = pes_sound packed (record site { col = site.col + 1 }) flags place words some few h in
    record {
      lawful = rw (blank_lawful site some, rest.lawful) refl;
      count = ap suc rest.count;
      spelled = λ p. rw (set_words_none (pe_from 0 0 0 0) blank_unset, zero-add (pes_length flags)) (rest.spelled p);
      set = λ p. rw (blank_unset, rest.set p) refl;
      bytes = λ small. rw (blank_bytes, rest.bytes small) refl;
    }
pes_sound packed site (true ∷ flags) place words some few h =
    let parts = none_split (pe_rules packed site words) (pes_rules packed (record site { col = site.col + 1 }) flags (drop 4 words)) place words h in
    let pe = pe_sound packed site place words few parts.0 in
    let rest = pes_sound packed (record site { col = site.col + 1 }) flags (place + 4) (drop 4 words) some few parts.1 in
    let far : drop (pes_length flags) (drop 4 words) ≡ drop (4 + pes_length flags) words = drop-drop (pes_length flags) 4 words in
    record {
      lawful = rw (pe.lawful, rest.lawful) refl;
      count = ap suc rest.count;
      spelled = λ p.
          pe.spelled ∙ (ap (λ t. pe_words (pe_of words) ++ t) (rest.spelled p)
          ∙ (sym (append_assoc (pe_words (pe_of words)) (flat_map set_words (pes_of flags (drop 4 words))) (drop (pes_length flags) (drop 4 words)))
          ∙ (ap (λ t. (t ++ flat_map set_words (pes_of flags (drop 4 words))) ++ drop (pes_length flags) (drop 4 words)) (sym (set_words_of (pe_of words) (pe.set p)))
          ∙ ap (λ t. (set_words (pe_of words) ++ flat_map set_words (pes_of flags (drop 4 words))) ++ t) far)));
      set = λ p. rw (pe.set p, rest.set p) refl;
      bytes = λ small. rw (pe.bytes small, rest.bytes (words-drop 4 words small)) refl;
    }

-- without a map
pub plain_spelled : (site : Site) (n : ℕ) (place : ℕ) (words : List ℕ) → site.registers ≤ 16 → first_broken (pes_rules false site (replicate n true) words) place words ≡ None → words ≡ flat_map pe_words (pes_of (replicate n true) words) ++ drop (pes_length (replicate n true)) words
plain_spelled site zero place words few h = refl
plain_spelled site (suc n) place words few h =
    let parts = none_split (pe_rules false site words) (pes_rules false (record site { col = site.col + 1 }) (replicate n true) (drop 4 words)) place words h in
    let pe = pe_sound false site place words few parts.0 in
    let rest = plain_spelled (record site { col = site.col + 1 }) n (place + 4) (drop 4 words) few parts.1 in
    let far : drop (pes_length (replicate n true)) (drop 4 words) ≡ drop (4 + pes_length (replicate n true)) words = drop-drop (pes_length (replicate n true)) 4 words in
    pe.spelled ∙ (ap (λ t. pe_words (pe_of words) ++ t) rest
    ∙ (sym (append_assoc (pe_words (pe_of words)) (flat_map pe_words (pes_of (replicate n true) (drop 4 words))) (drop (pes_length (replicate n true)) (drop 4 words)))
    ∙ ap (λ t. (pe_words (pe_of words) ++ flat_map pe_words (pes_of (replicate n true) (drop 4 words))) ++ t) far))

-- ---- maps

-- the flags of a number are its bits
pub flags_back : (n m : ℕ) → m < 2 ^ n → number_of_flags (flags_of n m) ≡ m
flags_back zero m h = let z : m ≡ 0 = omega (arith, h) in sym z
flags_back (suc n) m h =
    let twice : 2 ^ suc n ≡ 2 ^ n * 2 = omega arith in
    let rest = flags_back n (m / 2) (omega (arith, h, twice)) in
    bit_back m (m % 2) (number_of_flags (flags_of n (m / 2))) refl rest
  where
    bit_back : (m r k : ℕ) → m % 2 ≡ r → k ≡ m / 2 → cond (r == 1) 1 0 + 2 * k ≡ m
    bit_back m zero k e is = omega (arith, e, is)
    bit_back m (suc zero) k e is = omega (arith, e, is)
    bit_back m (suc (suc r)) k e is = absurd (omega (arith, e))

pub length-flags_of : (n m : ℕ) → length (flags_of n m) ≡ n
length-flags_of zero m = refl
length-flags_of (suc n) m = ap suc (length-flags_of n (m / 2))

-- a map of one word, and of two
short_map : (N place : ℕ) (words : List ℕ) → first_broken ((λ w. demand 8 (nat_lt w (2 ^ N))) ∷ []) place words ≡ None → (words ≡ slice_index words 0 ∷ drop 1 words) × (slice_index words 0 < 2 ^ N)
short_map N place [] h = absurd cc
short_map N place (w ∷ words) h = (refl, ltb-true w (2 ^ N) (met 8 (nat_lt w (2 ^ N)) (none_both place (demand 8 (nat_lt w (2 ^ N))) None h).0))

long_map : (N place : ℕ) (words : List ℕ) → first_broken ((λ w. None) ∷ (λ w. demand 8 (nat_lt w (2 ^ (N - 32)))) ∷ []) place words ≡ None → (words ≡ slice_index words 0 ∷ slice_index words 1 ∷ drop 2 words) × (slice_index words 1 < 2 ^ (N - 32))
long_map N place [] h = absurd cc
long_map N place (w ∷ []) h = absurd cc
long_map N place (w ∷ v ∷ words) h = (refl, ltb-true v (2 ^ (N - 32)) (met 8 (nat_lt v (2 ^ (N - 32))) (none_both (place + 1) (demand 8 (nat_lt v (2 ^ (N - 32)))) None h).0))

pub record MapSound (N : ℕ) (words : List ℕ) : Type 0 where
  pub spelled : words ≡ map_words N (marks_of N words) ++ drop (map_length N) words
  pub small : marks_of N words < 2 ^ N

map_short : (N place : ℕ) (words : List ℕ) → true ≡ nat_le N 32 → first_broken (map_rules N) place words ≡ None → MapSound N words
map_short N place words e h =
    let s = short_map N place words (rw (← e) at h) in
    record { spelled = rw (← e) s.0; small = rw (← e) s.1 }

map_long : (N place : ℕ) (words : List ℕ) → AreWords words → false ≡ nat_le N 32 → first_broken (map_rules N) place words ≡ None → MapSound N words
map_long N place words small e h =
    let s = long_map N place words (rw (← e) at h) in
    let many : 32 < N = leb-false N 32 (sym e) in
    let a = slice_index words 0 in
    let b = slice_index words 1 in
    let turn : a + b * 2 ^ 32 ≡ b * 2 ^ 32 + a = omega arith in
    let low : (a + b * 2 ^ 32) % 2 ^ 32 ≡ a = ap (λ m. m % 2 ^ 32) turn ∙ mod_low b 32 a (small 0) in
    let high : (a + b * 2 ^ 32) / 2 ^ 32 ≡ b = ap (λ m. m / 2 ^ 32) turn ∙ shr_high b 32 a (small 0) in
    let sum : N ≡ (N - 32) + 32 = omega (arith, many) in
    let room : 2 ^ N ≡ 2 ^ (N - 32) * 2 ^ 32 = ap (λ k. 2 ^ k) sum ∙ pow-add 2 (N - 32) 32 in
    let more : (b + 1) * 2 ^ 32 ≤ 2 ^ (N - 32) * 2 ^ 32 = mul-le-mul_right (2 ^ 32) (omega (arith, s.1)) in
    let below : a + b * 2 ^ 32 < 2 ^ N = rw room (omega (arith, more, small 0)) in
    record { spelled = rw (← e, low, high) s.0; small = rw (← e) below }

pub map_sound : (N place : ℕ) (words : List ℕ) → AreWords words → first_broken (map_rules N) place words ≡ None → MapSound N words
map_sound N place words small h = map_by (nat_le N 32) refl
  where
    map_by : (b : Bool) → b ≡ nat_le N 32 → MapSound N words
    map_by true e = map_short N place words e h
    map_by false e = map_long N place words small e h

pub record StageSound (packed : Bool) (N : ℕ) (site : Site) (words : List ℕ) : Type 0 where
  pub lawful : are_lawful_pes site (stage_of packed N words) ≡ true
  pub count : length (stage_of packed N words) ≡ N
  pub spelled : AreWords words → words ≡ stage_words packed N (stage_of packed N words) ++ drop (stage_length packed N words) words
  pub bytes : AreWords words → list_all has_pe_bytes (stage_of packed N words) ≡ true

pub stage_sound : (packed : Bool) (N : ℕ) (site : Site) (place : ℕ) (words : List ℕ) → 0 < site.registers → site.registers ≤ 16 → first_broken (stage_rules packed N site words) place words ≡ None → StageSound packed N site words
stage_sound true N site place words some few h =
    let flags = flags_of N (marks_of N words) in
    let rest = drop (map_length N) words in
    let long : length (map_rules N) ≡ map_length N = length-before_rules true N in
    let parts = none_split_at (map_rules N) (pes_rules true site flags rest) (map_length N) place words long h in
    let pes = pes_sound true site flags (place + map_length N) rest some few parts.1 in
    record {
      lawful = pes.lawful;
      count = pes.count ∙ length-flags_of N (marks_of N words);
      spelled = λ small.
          let m = map_sound N place words small parts.0 in
          let marks : number_of_flags (map is_set (pes_of flags rest)) ≡ marks_of N words = ap number_of_flags (pes.set refl) ∙ flags_back N (marks_of N words) m.small in
          let far : drop (pes_length flags) rest ≡ drop (map_length N + pes_length flags) words = drop-drop (pes_length flags) (map_length N) words in
          m.spelled ∙ (ap (λ t. map_words N (marks_of N words) ++ t) (pes.spelled refl)
          ∙ (sym (append_assoc (map_words N (marks_of N words)) (flat_map set_words (pes_of flags rest)) (drop (pes_length flags) rest))
          ∙ (ap (λ k. (map_words N k ++ flat_map set_words (pes_of flags rest)) ++ drop (pes_length flags) rest) (sym marks)
          ∙ ap (λ t. (map_words N (number_of_flags (map is_set (pes_of flags rest))) ++ flat_map set_words (pes_of flags rest)) ++ t) far)));
      bytes = λ small. pes.bytes (words-drop (map_length N) words small);
    }
stage_sound false N site place words some few h =
    let pes = pes_sound false site (replicate N true) place words some few h in
    let plain = plain_spelled site N place words few h in
    record {
      lawful = pes.lawful;
      count = pes.count ∙ length-replicate N true;
      spelled = λ small. plain ∙ ap (λ k. flat_map pe_words (pes_of (replicate N true) words) ++ drop k words) (sym (zero-add (pes_length (replicate N true))));
      bytes = pes.bytes;
    }

pub record StagesSound (packed : Bool) (N P bus stage count : ℕ) (words : List ℕ) : Type 0 where
  pub lawful : are_lawful_stages N P bus stage (stages_of packed N count words) ≡ true
  pub many : length (stages_of packed N count words) ≡ count
  pub spelled : AreWords words → words ≡ flat_map (stage_words packed N) (stages_of packed N count words) ++ drop (stages_length packed N count words) words
  pub bytes : AreWords words → list_all (list_all has_pe_bytes) (stages_of packed N count words) ≡ true

pub stages_sound : (packed : Bool) (N P bus stage count place : ℕ) (words : List ℕ) → 2 ≤ P → P ≤ 16 → first_broken (stages_rules packed N P bus stage count words) place words ≡ None → StagesSound packed N P bus stage count words
stages_sound packed N P bus stage zero place words some few h = record { lawful = refl; many = refl; spelled = λ small. refl; bytes = λ small. refl }
stages_sound packed N P bus stage (suc count) place words some few h =
    let site = site_of N P bus stage in
    let k = stage_length packed N words in
    let later = drop k words in
    let long : length (stage_rules packed N site words) ≡ k = length-stage_rules packed N site words in
    let parts = none_split_at (stage_rules packed N site words) (stages_rules packed N P bus (stage + 1) count later) k place words long h in
    let first = stage_sound packed N site place words (omega arith) few parts.0 in
    let rest = stages_sound packed N P bus (stage + 1) count (place + k) later some few parts.1 in
    let stages = stages_of packed N count later in
    let far : drop (stages_length packed N count later) later ≡ drop (k + stages_length packed N count later) words = drop-drop (stages_length packed N count later) k words in
    let size : (length (stage_of packed N words) == N) ≡ true = eq-eqb _ _ first.count in
    record {
      lawful = rw (size, first.lawful, rest.lawful) refl;
      many = ap suc rest.many;
      spelled = λ small.
          first.spelled small ∙ (ap (λ t. stage_words packed N (stage_of packed N words) ++ t) (rest.spelled (words-drop k words small))
          ∙ (sym (append_assoc (stage_words packed N (stage_of packed N words)) (flat_map (stage_words packed N) stages) (drop (stages_length packed N count later) later))
          ∙ ap (λ t. (stage_words packed N (stage_of packed N words) ++ flat_map (stage_words packed N) stages) ++ t) far));
      bytes = λ small. rw (first.bytes small, rest.bytes (words-drop k words small)) refl;
    }
