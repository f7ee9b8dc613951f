-- The words of what the fabric allows break no rule, and read as what they spell: stages.
use Rattle.std.proofs.Common.{◌≡◌, ℕ, suc, ◌+◌, ◌-◌, ◌*◌, ◌/◌, ◌%◌, ◌^◌, ◌<◌, ◌≤◌, ◌==◌, ◌&&◌, not, Bool, true, false, List, [], ◌∷◌, ◌++◌, length, drop, map, replicate, refl, sym, ap, ◌∙◌, arith, None, cond, nat_lt, nat_le, append_assoc, zero-add, subst, lit<}
use Rattle.std.specs.List.{flat_map, list_all}
use Rattle.std.proofs.lemmas.Bool.{lt-ltb, eqb-true, leb-true, leb-false}
use Rattle.std.proofs.lemmas.Nat.{shr_below}
use Rattle.std.proofs.Math.Nat.{pow-le-pow_right}
use Rattle.std.proofs.lemmas.List.{length-append, drop_at, length-map}
use Rattle.pr_conf.specs.declared.pes.Pe.{Pe}
use Rattle.pr_conf.specs.declared.stages.Site.{Site}
use Rattle.pr_conf.specs.Rules.{is_lawful_pe, are_lawful_pes, are_lawful_stages, site_of}
use Rattle.pr_code.specs.Spelling.{pe_words, a_word, lo_word, table_word, write_word, is_set, set_words, has_pe_bytes, number_of_flags, map_words, stage_words}
use Rattle.pr_code.specs.Reading.{pe_from, flags_of, marks_of, map_length, column_length, pes_of, pes_length, stage_of, stage_length, stages_of, stages_length}
use Rattle.pr_code.specs.Rules.{Rule, first_broken, pe_rules, pes_rules, map_rules, stage_rules, stages_rules}
use Rattle.pr_code.proofs.WritingLemmas.{both, flags_below}
use Rattle.pr_code.proofs.BreakLemmas.{keeps_first}
use Rattle.pr_code.proofs.StageLemmas.{length-before_rules, length-stage_rules}
use Rattle.pr_code.proofs.AgainLemmas.{IsSite, PeAgain, pe_again, pe_small, and_true}

-- ---- columns

-- words that break none of these rules, whatever their place
abbrev pub Keeps : (List ℕ → List Rule) → List ℕ → Type 0
Keeps rules words = (place : ℕ) → first_broken (rules words) place words ≡ None

pe_length : (pe : Pe) → length (pe_words pe) ≡ 4
unfolding pe_words
pe_length pe = refl

after_pe : (pe : Pe) (rest : List ℕ) → drop 4 (pe_words pe ++ rest) ≡ rest
unfolding pe_words
after_pe pe rest = refl

column_keeps : (packed : Bool) (site : Site) (pe : Pe) (flags : List Bool) (rest : List ℕ) → PeAgain packed site pe rest → Keeps (pes_rules packed (record site { col = site.col + 1 }) flags) rest → Keeps (pes_rules packed site (true ∷ flags)) (pe_words pe ++ rest)
column_keeps packed site pe flags rest one more place =
    let words = pe_words pe ++ rest in
    let next = record site { col = site.col + 1 } in
    keeps_first (pe_rules packed site words) (pes_rules packed next flags (drop 4 words)) place words (one.none place)
    ∙ (ap (λ t. first_broken (pes_rules packed next flags t) (place + 4) t) (after_pe pe rest) ∙ more (place + 4))

column_reads : (packed : Bool) (site : Site) (pe : Pe) (flags : List Bool) (pes : List Pe) (rest : List ℕ) → PeAgain packed site pe rest → pes_of flags rest ≡ pes → pes_of (true ∷ flags) (pe_words pe ++ rest) ≡ pe ∷ pes
column_reads packed site pe flags pes rest one more =
    ap (λ x. x ∷ pes_of flags (drop 4 (pe_words pe ++ rest))) one.again ∙ ap (λ t. pe ∷ t) (ap (pes_of flags) (after_pe pe rest) ∙ more)

next_site : (site : Site) → IsSite site → site.col + 1 ≤ 64 → IsSite (record site { col = site.col + 1 })
next_site site at h = record { columns = at.columns; registers = at.registers; bus = at.bus; col = h }

-- all columns, of a format without maps
pub record PlainAgain (site : Site) (pes : List Pe) (rest : List ℕ) : Type 0 where
  pub none : Keeps (pes_rules false site (replicate (length pes) true)) (flat_map pe_words pes ++ rest)
  pub again : pes_of (replicate (length pes) true) (flat_map pe_words pes ++ rest) ≡ pes
  pub long : length (flat_map pe_words pes) ≡ pes_length (replicate (length pes) true)

pub plain_again : (site : Site) (pes : List Pe) (rest : List ℕ) → IsSite site → site.col + length pes ≤ 64 → are_lawful_pes site pes ≡ true → list_all has_pe_bytes pes ≡ true → PlainAgain site pes rest
plain_again site [] rest at few h byte = record { none = λ place. refl; again = refl; long = refl }
plain_again site (pe ∷ pes) rest at few h byte =
    let next = record site { col = site.col + 1 } in
    let law = both (is_lawful_pe site pe) (are_lawful_pes next pes) h in
    let fit = both (has_pe_bytes pe) (list_all has_pe_bytes pes) byte in
    let later = flat_map pe_words pes ++ rest in
    let one = pe_again false site pe later at law.0 fit.0 (λ no. absurd cc) in
    let more = plain_again next pes rest (next_site site at (omega (arith, few))) (omega (arith, few)) law.1 fit.1 in
    let words = append_assoc (pe_words pe) (flat_map pe_words pes) rest in
    let flags = replicate (length pes) true in
    record {
      none = λ place. ap (λ t. first_broken (pes_rules false site (true ∷ flags) t) place t) words ∙ column_keeps false site pe flags later one more.none place;
      again = ap (pes_of (true ∷ flags)) words ∙ column_reads false site pe flags pes later one more.again;
      long = length-append (pe_words pe) (flat_map pe_words pes) ∙ (ap (λ k. k + length (flat_map pe_words pes)) (pe_length pe) ∙ ap (λ k. 4 + k) more.long);
    }

-- a processing element that is not set has 0 for all words
four_zero : (a b c d : Bool) → not (a && (b && (c && (d && true)))) ≡ false → (a ≡ true) × (b ≡ true) × (c ≡ true) × (d ≡ true)
four_zero true true true true h = (refl, refl, refl, refl)
four_zero false b c d h = absurd cc
four_zero true false c d h = absurd cc
four_zero true true false d h = absurd cc
four_zero true true true false h = absurd cc

blank_is : (site : Site) (pe : Pe) → IsSite site → is_lawful_pe site pe ≡ true → has_pe_bytes pe ≡ true → is_set pe ≡ false → pe_from 0 0 0 0 ≡ pe
unfolding is_set pe_words
blank_is site pe at law fit unset =
    let z = four_zero (a_word pe == 0) (lo_word pe == 0) (table_word pe == 0) (write_word pe == 0) unset in
    let one = pe_again false site pe [] at law fit (λ no. absurd cc) in
    let a : a_word pe ≡ 0 = eqb-true _ _ z.0 in
    let b : lo_word pe ≡ 0 = eqb-true _ _ z.1 in
    let c : table_word pe ≡ 0 = eqb-true _ _ z.2 in
    let d : write_word pe ≡ 0 = eqb-true _ _ z.3 in
    sym (ap (λ k. pe_from k (lo_word pe) (table_word pe) (write_word pe)) a ∙ (ap (λ k. pe_from 0 k (table_word pe) (write_word pe)) b ∙ (ap (λ k. pe_from 0 0 k (write_word pe)) c ∙ ap (pe_from 0 0 0) d))) ∙ one.again

pub record SetAgain (site : Site) (pes : List Pe) (rest : List ℕ) : Type 0 where
  pub none : Keeps (pes_rules true site (map is_set pes)) (flat_map set_words pes ++ rest)
  pub again : pes_of (map is_set pes) (flat_map set_words pes ++ rest) ≡ pes
  pub long : length (flat_map set_words pes) ≡ pes_length (map is_set pes)

set_is : (pe : Pe) → is_set pe ≡ true → set_words pe ≡ pe_words pe
set_is pe e = ap (λ b. cond b (pe_words pe) []) e

set_none : (pe : Pe) → is_set pe ≡ false → set_words pe ≡ []
set_none pe e = ap (λ b. cond b (pe_words pe) []) e

set_true : (site : Site) (pe : Pe) (pes : List Pe) (rest : List ℕ) → is_set pe ≡ true → PeAgain true site pe (flat_map set_words pes ++ rest) → SetAgain (record site { col = site.col + 1 }) pes rest → SetAgain site (pe ∷ pes) rest
set_true site pe pes rest e one more =
    let later = flat_map set_words pes ++ rest in
    let flags = map is_set pes in
    let words : flat_map set_words (pe ∷ pes) ++ rest ≡ pe_words pe ++ later = append_assoc (set_words pe) (flat_map set_words pes) rest ∙ ap (λ t. t ++ later) (set_is pe e) in
    record {
      none = λ place.
          ap (λ b. first_broken (pes_rules true site (b ∷ flags) (flat_map set_words (pe ∷ pes) ++ rest)) place (flat_map set_words (pe ∷ pes) ++ rest)) e
          ∙ (ap (λ t. first_broken (pes_rules true site (true ∷ flags) t) place t) words ∙ column_keeps true site pe flags later one more.none place);
      again = ap (λ b. pes_of (b ∷ flags) (flat_map set_words (pe ∷ pes) ++ rest)) e ∙ (ap (pes_of (true ∷ flags)) words ∙ column_reads true site pe flags pes later one more.again);
      long = length-append (set_words pe) (flat_map set_words pes) ∙ (ap (λ k. k + length (flat_map set_words pes)) (ap length (set_is pe e) ∙ pe_length pe) ∙ (ap (λ k. 4 + k) more.long ∙ ap (λ b. column_length b + pes_length flags) (sym e)));
    }

set_false : (site : Site) (pe : Pe) (pes : List Pe) (rest : List ℕ) → is_set pe ≡ false → pe_from 0 0 0 0 ≡ pe → SetAgain (record site { col = site.col + 1 }) pes rest → SetAgain site (pe ∷ pes) rest
set_false site pe pes rest e blank more =
    let flags = map is_set pes in
    let later = flat_map set_words pes ++ rest in
    let words : flat_map set_words (pe ∷ pes) ++ rest ≡ later = append_assoc (set_words pe) (flat_map set_words pes) rest ∙ ap (λ t. t ++ later) (set_none pe e) in
    record {
      none = λ place.
          ap (λ b. first_broken (pes_rules true site (b ∷ flags) (flat_map set_words (pe ∷ pes) ++ rest)) place (flat_map set_words (pe ∷ pes) ++ rest)) e
          ∙ (ap (λ t. first_broken (pes_rules true site (false ∷ flags) t) place t) words ∙ more.none place);
      again = ap (λ b. pes_of (b ∷ flags) (flat_map set_words (pe ∷ pes) ++ rest)) e ∙ (ap (pes_of (false ∷ flags)) words ∙ (ap (λ x. x ∷ pes_of flags later) blank ∙ ap (λ t. pe ∷ t) more.again));
      long = length-append (set_words pe) (flat_map set_words pes) ∙ (ap (λ k. k + length (flat_map set_words pes)) (ap length (set_none pe e)) ∙ (ap (λ k. 0 + k) more.long ∙ ap (λ b. column_length b + pes_length flags) (sym e)));
    }

pub set_again : (site : Site) (pes : List Pe) (rest : List ℕ) → IsSite site → site.col + length pes ≤ 64 → are_lawful_pes site pes ≡ true → list_all has_pe_bytes pes ≡ true → SetAgain site pes rest
set_again site [] rest at few h byte = record { none = λ place. refl; again = refl; long = refl }
set_again site (pe ∷ pes) rest at few h byte =
    let next = record site { col = site.col + 1 } in
    let law = both (is_lawful_pe site pe) (are_lawful_pes next pes) h in
    let fit = both (has_pe_bytes pe) (list_all has_pe_bytes pes) byte in
    let more = set_again next pes rest (next_site site at (omega (arith, few))) (omega (arith, few)) law.1 fit.1 in
    set_by site pe pes rest (is_set pe) refl at law.0 fit.0 more
  where
    set_by : (site : Site) (pe : Pe) (pes : List Pe) (rest : List ℕ) (b : Bool) → is_set pe ≡ b → IsSite site → is_lawful_pe site pe ≡ true → has_pe_bytes pe ≡ true → SetAgain (record site { col = site.col + 1 }) pes rest → SetAgain site (pe ∷ pes) rest
    set_by site pe pes rest true e at law fit more = set_true site pe pes rest e (pe_again true site pe (flat_map set_words pes ++ rest) at law fit (λ p. e)) more
    set_by site pe pes rest false e at law fit more = set_false site pe pes rest e (blank_is site pe at law fit e) more

-- ---- maps

pub flags_again : (flags : List Bool) → flags_of (length flags) (number_of_flags flags) ≡ flags
flags_again [] = refl
flags_again (true ∷ flags) =
    let odd : (1 + 2 * number_of_flags flags) % 2 ≡ 1 = omega arith in
    let half : (1 + 2 * number_of_flags flags) / 2 ≡ number_of_flags flags = omega arith in
    rw (odd, half) (ap (λ t. true ∷ t) (flags_again flags))
flags_again (false ∷ flags) =
    let even : (0 + 2 * number_of_flags flags) % 2 ≡ 0 = omega arith in
    let half : (0 + 2 * number_of_flags flags) / 2 ≡ number_of_flags flags = omega arith in
    rw (even, half) (ap (λ t. false ∷ t) (flags_again flags))

pub record MapAgain (N marks : ℕ) (rest : List ℕ) : Type 0 where
  pub none : (place : ℕ) → first_broken (map_rules N) place (map_words N marks ++ rest) ≡ None
  pub again : marks_of N (map_words N marks ++ rest) ≡ marks
  pub after : drop (map_length N) (map_words N marks ++ rest) ≡ rest
  pub long : length (map_words N marks) ≡ map_length N

map_by : (b : Bool) (N marks : ℕ) (rest : List ℕ) → b ≡ nat_le N 32 → N ≤ 64 → marks < 2 ^ N → MapAgain N marks rest
map_by true N marks rest e few h =
    let lt : nat_lt marks (2 ^ N) ≡ true = lt-ltb _ _ h in
    record { none = λ place. rw (← e, lt) refl; again = rw (← e) refl; after = rw (← e) refl; long = rw (← e) refl }
map_by false N marks rest e few h =
    let many : 32 < N = leb-false N 32 (sym e) in
    let sum : N ≡ (N - 32) + 32 = omega (arith, many) in
    let high : marks / 2 ^ 32 < 2 ^ (N - 32) = shr_below marks (N - 32) 32 (omega (arith, h, ap (λ k. 2 ^ k) sum)) in
    let lt : nat_lt (marks / 2 ^ 32) (2 ^ (N - 32)) ≡ true = lt-ltb _ _ high in
    record { none = λ place. rw (← e, lt) refl; again = rw (← e) (omega arith); after = rw (← e) refl; long = rw (← e) refl }

pub map_again : (N marks : ℕ) (rest : List ℕ) → N ≤ 64 → marks < 2 ^ N → MapAgain N marks rest
map_again N marks rest few h = map_by (nat_le N 32) N marks rest refl few h

-- ---- stages

-- two parts of the rules, one after the other
pub seq_keeps : (first : List Rule) (more : List ℕ → List Rule) (k : ℕ) (words later : List ℕ) → length first ≡ k → drop k words ≡ later → ((place : ℕ) → first_broken first place words ≡ None) → Keeps more later → (place : ℕ) → first_broken (first ++ more (drop k words)) place words ≡ None
seq_keeps first more k words later len after one rest place =
    keeps_first first (more (drop k words)) place words (one place)
    ∙ (ap (λ j. first_broken (more (drop k words)) (place + j) (drop j words)) len
    ∙ (ap (λ t. first_broken (more t) (place + k) t) after ∙ rest (place + k)))

pub record StageAgain (packed : Bool) (N : ℕ) (site : Site) (pes : List Pe) (rest : List ℕ) : Type 0 where
  pub none : Keeps (stage_rules packed N site) (stage_words packed N pes ++ rest)
  pub again : stage_of packed N (stage_words packed N pes ++ rest) ≡ pes
  pub long : length (stage_words packed N pes) ≡ stage_length packed N (stage_words packed N pes ++ rest)

packed_again : (N : ℕ) (site : Site) (pes : List Pe) (rest : List ℕ) → N ≤ 64 → length pes ≡ N → SetAgain site pes rest → StageAgain true N site pes rest
packed_again N site pes rest few len set =
    let flags = map is_set pes in
    let m = number_of_flags flags in
    let F = flat_map set_words pes in
    let later = F ++ rest in
    let W = map_words N m ++ later in
    let words : stage_words true N pes ++ rest ≡ W = append_assoc (map_words N m) F rest in
    let size : length flags ≡ N = length-map pes is_set ∙ len in
    let below : m < 2 ^ N = subst (λ k. m < 2 ^ k) size (flags_below flags) in
    let mp = map_again N m later few below in
    let same : flags_of N (marks_of N W) ≡ flags = ap (flags_of N) mp.again ∙ (ap (λ k. flags_of k m) (sym size) ∙ flags_again flags) in
    let keeps : Keeps (stage_rules true N site) W = seq_keeps (map_rules N) (pes_rules true site (flags_of N (marks_of N W))) (map_length N) W later (length-before_rules true N) mp.after mp.none (λ place. ap (λ fl. first_broken (pes_rules true site fl later) place later) same ∙ set.none place) in
    record {
      none = λ place. ap (λ t. first_broken (stage_rules true N site t) place t) words ∙ keeps place;
      again = ap (stage_of true N) words ∙ (ap (λ t. pes_of (flags_of N (marks_of N W)) t) mp.after ∙ (ap (λ fl. pes_of fl later) same ∙ set.again));
      long =
          length-append (map_words N m) F ∙ (ap (λ k. k + length F) mp.long ∙ (ap (λ k. map_length N + k) (set.long ∙ ap pes_length (sym same))
          ∙ ap (stage_length true N) (sym words)));
    }

unpacked_again : (N : ℕ) (site : Site) (pes : List Pe) (rest : List ℕ) → length pes ≡ N → PlainAgain site pes rest → StageAgain false N site pes rest
unpacked_again N site pes rest len plain = record {
  none = λ place. ap (λ k. first_broken (pes_rules false site (replicate k true) (flat_map pe_words pes ++ rest)) place (flat_map pe_words pes ++ rest)) (sym len) ∙ plain.none place;
  again = ap (λ k. pes_of (replicate k true) (flat_map pe_words pes ++ rest)) (sym len) ∙ plain.again;
  long = plain.long ∙ (ap (λ k. pes_length (replicate k true)) len ∙ sym (zero-add (pes_length (replicate N true))));
}

pub stage_again : (packed : Bool) (N : ℕ) (site : Site) (pes : List Pe) (rest : List ℕ) → N ≤ 64 → length pes ≡ N → site.col ≡ 0 → IsSite site → are_lawful_pes site pes ≡ true → list_all has_pe_bytes pes ≡ true → StageAgain packed N site pes rest
stage_again true N site pes rest few len col at law byte = packed_again N site pes rest few len (set_again site pes rest at (omega (arith, few, len, col)) law byte)
stage_again false N site pes rest few len col at law byte = unpacked_again N site pes rest len (plain_again site pes rest at (omega (arith, few, len, col)) law byte)

pub record StagesAgain (packed : Bool) (N P bus stage : ℕ) (stages : List (List Pe)) (rest : List ℕ) : Type 0 where
  pub none : Keeps (stages_rules packed N P bus stage (length stages)) (flat_map (stage_words packed N) stages ++ rest)
  pub again : stages_of packed N (length stages) (flat_map (stage_words packed N) stages ++ rest) ≡ stages
  pub long : length (flat_map (stage_words packed N) stages) ≡ stages_length packed N (length stages) (flat_map (stage_words packed N) stages ++ rest)

pub stages_again : (packed : Bool) (N P bus stage : ℕ) (stages : List (List Pe)) (rest : List ℕ) → N ≤ 64 → P ≤ 16 → bus ≤ 64 → are_lawful_stages N P bus stage stages ≡ true → list_all (list_all has_pe_bytes) stages ≡ true → StagesAgain packed N P bus stage stages rest
stages_again packed N P bus stage [] rest n64 p16 b64 law byte = record { none = λ place. refl; again = refl; long = refl }
stages_again packed N P bus stage (pes ∷ stages) rest n64 p16 b64 law byte =
    let site = site_of N P bus stage in
    let F = flat_map (stage_words packed N) stages in
    let later = F ++ rest in
    let l1 = both ((length pes == N) && are_lawful_pes site pes) (are_lawful_stages N P bus (stage + 1) stages) law in
    let l0 = both (length pes == N) (are_lawful_pes site pes) l1.0 in
    let fit = both (list_all has_pe_bytes pes) (list_all (list_all has_pe_bytes) stages) byte in
    let at : IsSite site = record { columns = n64; registers = p16; bus = b64; col = omega arith } in
    let one = stage_again packed N site pes later n64 (eqb-true _ _ l0.0) refl at l0.1 fit.0 in
    let more = stages_again packed N P bus (stage + 1) stages rest n64 p16 b64 l1.1 fit.1 in
    let W = stage_words packed N pes ++ later in
    let words : flat_map (stage_words packed N) (pes ∷ stages) ++ rest ≡ W = append_assoc (stage_words packed N pes) F rest in
    let after : drop (stage_length packed N W) W ≡ later = drop_at (stage_words packed N pes) later (stage_length packed N W) one.long in
    let keeps = seq_keeps (stage_rules packed N site W) (stages_rules packed N P bus (stage + 1) (length stages)) (stage_length packed N W) W later (length-stage_rules packed N site W) after one.none more.none in
    record {
      none = λ place. ap (λ t. first_broken (stages_rules packed N P bus stage (suc (length stages)) t) place t) words ∙ keeps place;
      again = ap (stages_of packed N (suc (length stages))) words ∙ (ap (λ x. x ∷ stages_of packed N (length stages) (drop (stage_length packed N W) W)) one.again ∙ ap (λ t. pes ∷ t) (ap (stages_of packed N (length stages)) after ∙ more.again));
      long =
          length-append (stage_words packed N pes) F ∙ (ap (λ k. k + length F) one.long ∙ (ap (λ k. stage_length packed N W + k) (more.long ∙ ap (stages_length packed N (length stages)) (sym after))
          ∙ ap (stages_length packed N (suc (length stages))) (sym words)));
    }

-- ---- words of 32 bits

abbrev pub is_small : ℕ → Bool
is_small w = nat_lt w (2 ^ 32)

pub small_append : (a b : List ℕ) → list_all is_small a ≡ true → list_all is_small b ≡ true → list_all is_small (a ++ b) ≡ true
small_append [] b h k = k
small_append (x ∷ a) b h k =
    let p = both (is_small x) (list_all is_small a) h in
    and_true (is_small x) (list_all is_small (a ++ b)) p.0 (small_append a b p.1 k)

small_map : (b : Bool) (N marks : ℕ) → b ≡ nat_le N 32 → N ≤ 64 → marks < 2 ^ N → list_all is_small (map_words N marks) ≡ true
small_map true N marks e few h =
    let le : N ≤ 32 = leb-true N 32 (sym e) in
    let room : 2 ^ N ≤ 2 ^ 32 = pow-le-pow_right (lit< tt) le in
    rw (← e, lt-ltb marks (2 ^ 32) (omega (arith, h, room))) refl
small_map false N marks e few h =
    let room : 2 ^ N ≤ 2 ^ 64 = pow-le-pow_right (lit< tt) few in
    let low : marks % 2 ^ 32 < 2 ^ 32 = omega arith in
    let high : marks / 2 ^ 32 < 2 ^ 32 = omega (arith, h, room) in
    rw (← e, lt-ltb _ (2 ^ 32) low, lt-ltb _ (2 ^ 32) high) refl

small_pes : (site : Site) (pes : List Pe) → IsSite site → site.col + length pes ≤ 64 → are_lawful_pes site pes ≡ true → list_all has_pe_bytes pes ≡ true → (list_all is_small (flat_map pe_words pes) ≡ true) × (list_all is_small (flat_map set_words pes) ≡ true)
small_pes site [] at few h byte = (refl, refl)
small_pes site (pe ∷ pes) at few h byte =
    let next = record site { col = site.col + 1 } in
    let law = both (is_lawful_pe site pe) (are_lawful_pes next pes) h in
    let fit = both (has_pe_bytes pe) (list_all has_pe_bytes pes) byte in
    let one = pe_small site pe at law.0 fit.0 in
    let more = small_pes next pes (next_site site at (omega (arith, few))) (omega (arith, few)) law.1 fit.1 in
    (small_append (pe_words pe) (flat_map pe_words pes) one more.0, small_append (set_words pe) (flat_map set_words pes) (small_if (is_set pe) (pe_words pe) one) more.1)
  where
    small_if : (b : Bool) (words : List ℕ) → list_all is_small words ≡ true → list_all is_small (cond b words []) ≡ true
    small_if true words h = h
    small_if false words h = refl

small_stage : (packed : Bool) (N : ℕ) (site : Site) (pes : List Pe) → N ≤ 64 → length pes ≡ N → site.col ≡ 0 → IsSite site → are_lawful_pes site pes ≡ true → list_all has_pe_bytes pes ≡ true → list_all is_small (stage_words packed N pes) ≡ true
small_stage true N site pes few len col at law byte =
    let size : length (map is_set pes) ≡ N = length-map pes is_set ∙ len in
    let below : number_of_flags (map is_set pes) < 2 ^ N = subst (λ k. number_of_flags (map is_set pes) < 2 ^ k) size (flags_below (map is_set pes)) in
    small_append (map_words N (number_of_flags (map is_set pes))) (flat_map set_words pes) (small_map (nat_le N 32) N (number_of_flags (map is_set pes)) refl few below) (small_pes site pes at (omega (arith, few, len, col)) law byte).1
small_stage false N site pes few len col at law byte = (small_pes site pes at (omega (arith, few, len, col)) law byte).0

pub small_stages : (packed : Bool) (N P bus stage : ℕ) (stages : List (List Pe)) → N ≤ 64 → P ≤ 16 → bus ≤ 64 → are_lawful_stages N P bus stage stages ≡ true → list_all (list_all has_pe_bytes) stages ≡ true → list_all is_small (flat_map (stage_words packed N) stages) ≡ true
small_stages packed N P bus stage [] n64 p16 b64 law byte = refl
small_stages packed N P bus stage (pes ∷ stages) n64 p16 b64 law byte =
    let site = site_of N P bus stage in
    let l1 = both ((length pes == N) && are_lawful_pes site pes) (are_lawful_stages N P bus (stage + 1) stages) law in
    let l0 = both (length pes == N) (are_lawful_pes site pes) l1.0 in
    let fit = both (list_all has_pe_bytes pes) (list_all (list_all has_pe_bytes) stages) byte in
    let at : IsSite site = record { columns = n64; registers = p16; bus = b64; col = omega arith } in
    small_append (stage_words packed N pes) (flat_map (stage_words packed N) stages) (small_stage packed N site pes n64 (eqb-true _ _ l0.0) refl at l0.1 fit.0) (small_stages packed N P bus (stage + 1) stages n64 p16 b64 l1.1 fit.1)
