-- Words that break no rule are the words of parts that the fabric allows: processing elements.
use Rattle.std.proofs.Common.{◌≡◌, ◌⊎◌, ℕ, zero, suc, ◌+◌, ◌*◌, ◌/◌, ◌%◌, ◌^◌, ◌<◌, ◌≤◌, ◌==◌, ◌&&◌, ◌||◌, not, Bool, true, false, List, [], ◌∷◌, ◌++◌, length, drop, get_or, refl, sym, ap, ◌∙◌, arith, Option, None, Some, cond, nat_lt, inl, inr}
use Rattle.std.proofs.lemmas.Bool.{ltb-true, lt-ltb, eqb-true}
use Rattle.pr_conf.specs.declared.pes.Source.{Source}
use Rattle.pr_conf.specs.declared.pes.Bit.{Bit}
use Rattle.pr_conf.specs.declared.stages.Site.{Site}
use Rattle.pr_conf.specs.Rules.{is_lawful_source, is_lawful_bit, is_lawful_carry, is_lawful_pe, is_bit}
use Rattle.pr_code.specs.Spelling.{source_word, c_source, c_choice, next_number, carry_number, mode_number, a_word, lo_word, table_word, write_word, pe_words, is_set, has_source_byte, has_c_byte, has_pe_bytes}
use Rattle.pr_code.specs.Reading.{source_of, c_kind, c_of, next_of, carry_of, mode_of, pe_from, pe_of}
use Rattle.pr_code.specs.Rules.{Rule, Broken, demand, broken_at, first_broken, or_else, is_source, are_sources, is_choice_of_c, is_carry, are_choices, is_needless, sources_rule, choice_rule, last_rule, pe_rules}
use Rattle.pr_code.proofs.WritingLemmas.{both}
use Rattle.pr_code.proofs.BreakLemmas.{broken-append, met}

-- ---- nothing is broken

pub none_both : (place : ℕ) (r : Option ℕ) (later : Option Broken) → broken_at place r later ≡ None → (r ≡ None) × (later ≡ None)
none_both place None later h = (refl, h)
none_both place (Some n) later h = absurd cc

pub none_or : (a b : Option Broken) → or_else a b ≡ None → (a ≡ None) × (b ≡ None)
none_or None b h = (refl, h)
none_or (Some x) b h = absurd cc

pub none_split : (a b : List Rule) (place : ℕ) (words : List ℕ) → first_broken (a ++ b) place words ≡ None → (first_broken a place words ≡ None) × (first_broken b (place + length a) (drop (length a) words) ≡ None)
none_split a b place words h = none_or (first_broken a place words) (first_broken b (place + length a) (drop (length a) words)) (sym (broken-append a b place words) ∙ h)

-- the same where the first part has so many rules
pub none_split_at : (a b : List Rule) (k place : ℕ) (words : List ℕ) → length a ≡ k → first_broken (a ++ b) place words ≡ None → (first_broken a place words ≡ None) × (first_broken b (place + k) (drop k words) ≡ None)
none_split_at a b k place words e h =
    let p = none_split a b place words h in
    (p.0, sym (ap (λ n. first_broken b (place + n) (drop n words)) e) ∙ p.1)

pub enough : (rules : List Rule) (place : ℕ) (words : List ℕ) → first_broken rules place words ≡ None → length rules ≤ length words
enough [] place words h = omega arith
enough (r ∷ rules) place [] h = absurd cc
enough (r ∷ rules) place (w ∷ words) h =
    let rest = enough rules (place + 1) words (none_both place (r w) (first_broken rules (place + 1) words) h).1 in
    omega arith

-- ---- one source

pub source_sound : (site : Site) (half : ℕ) → is_source site half ≡ true → (source_word (source_of half) ≡ half) × (is_lawful_source site (source_of half) ≡ true)
source_sound site half h =
    let parts = both (source_word (source_of half) == half) (is_lawful_source site (source_of half)) h in
    (eqb-true _ _ parts.0, parts.1)

pub sources_sound : (site : Site) (w : ℕ) → are_sources site w ≡ true → ((source_word (source_of (w / 0x10000)) ≡ w / 0x10000) × (is_lawful_source site (source_of (w / 0x10000)) ≡ true)) × ((source_word (source_of (w % 0x10000)) ≡ w % 0x10000) × (is_lawful_source site (source_of (w % 0x10000)) ≡ true))
sources_sound site w h =
    let parts = both (is_source site (w / 0x10000)) (is_source site (w % 0x10000)) h in
    (source_sound site (w / 0x10000) parts.0, source_sound site (w % 0x10000) parts.1)

-- ---- C

or_true : (a b : Bool) → (a || b) ≡ true → (a ≡ true) ⊎ (b ≡ true)
or_true true b h = inl refl
or_true false b h = inr h

chosen : (k n x y a : Bool) → cond k a (n && x && y) ≡ true → ((k ≡ true) × (a ≡ true)) ⊎ ((n ≡ true) × (x ≡ true) × (y ≡ true))
chosen true n x y a h = inl (refl, h)
chosen false n x y a h =
    let outer = both (n && x) y h in
    let inner = both n x outer.0 in
    inr (inner.0, inner.1, outer.1)

-- what the second and the third word agree on
pub choice_cases : (second third : ℕ) → is_choice_of_c second third ≡ true → ((c_kind third ≡ 1) × (third % 16 < 8)) ⊎ (((c_kind third ≡ 0) ⊎ (c_kind third ≡ 2)) × (third % 16 ≡ 0) × (second % 0x10000 ≡ 0))
choice_cases second third h =
    elim (chosen (c_kind third == 1) (c_kind third == 0 || c_kind third == 2) (third % 16 == 0) (second % 0x10000 == 0) (nat_lt (third % 16) 8) h) [
      | inl p ↦ inl (eqb-true _ _ p.0, ltb-true _ _ p.1)
      | inr p ↦
          inr (elim (or_true (c_kind third == 0) (c_kind third == 2) p.0) [ inl z ↦ inl (eqb-true _ _ z) | inr t ↦ inr (eqb-true _ _ t) ], eqb-true _ _ p.1, eqb-true _ _ p.2)
    ]

-- C where the kind of it is known
abbrev pub c_by : ℕ → Source → ℕ → Bit
c_by kind source place = cond (kind == 1) (Bit.Of source place) (cond (kind == 2) Bit.CarryIn Bit.None)

pub c_is : (second third kind : ℕ) → c_kind third ≡ kind → c_of second third ≡ c_by kind (source_of (second % 0x10000)) (third % 16)
c_is second third kind e = ap (λ k. c_by k (source_of (second % 0x10000)) (third % 16)) e

-- C is spelled by the two words, and allowed where its source is
pub record CSound (site : Site) (second third : ℕ) : Type 0 where
  pub source : c_source (c_of second third) ≡ second % 0x10000
  pub choice : c_choice (c_of second third) ≡ third % 256
  pub lawful : is_lawful_bit site (c_of second third) ≡ true
  pub bit : c_kind third ≡ 1 → is_bit (c_of second third) ≡ true

pub c_sound : (site : Site) (second third : ℕ) → is_source site (second % 0x10000) ≡ true → is_choice_of_c second third ≡ true → CSound site second third
c_sound site second third s h =
    let src = source_sound site (second % 0x10000) s in
    elim (choice_cases second third h) [
      | inl p ↦
          let e = c_is second third 1 p.0 in
          let low : 16 + third % 16 ≡ third % 256 = omega (arith, p.0) in
          let lt : nat_lt (third % 16) 8 ≡ true = lt-ltb _ _ p.1 in
          record { source = ap c_source e ∙ src.0; choice = ap c_choice e ∙ low; lawful = ap (is_lawful_bit site) e ∙ rw (src.1, lt) refl; bit = λ k. ap is_bit e }
      | inr p ↦
          elim p.0 [
            | inl z ↦
                let e = c_is second third 0 z in
                let low : 0 ≡ third % 256 = omega (arith, z, p.1) in
                record { source = ap c_source e ∙ sym p.2; choice = ap c_choice e ∙ low; lawful = ap (is_lawful_bit site) e; bit = λ k. absurd (omega (arith, z, k)) }
            | inr t ↦
                let e = c_is second third 2 t in
                let low : 32 ≡ third % 256 = omega (arith, t, p.1) in
                record { source = ap c_source e ∙ sym p.2; choice = ap c_choice e ∙ low; lawful = ap (is_lawful_bit site) e; bit = λ k. absurd (omega (arith, t, k)) }
          ]
    ]

-- ---- the choices of the fourth word

pub next_back : (n : ℕ) → n < 3 → next_number (next_of n) ≡ n
next_back zero h = refl
next_back (suc zero) h = refl
next_back (suc (suc zero)) h = refl
next_back (suc (suc (suc n))) h = absurd (omega arith)

pub mode_back : (n : ℕ) → n < 3 → mode_number (mode_of n) ≡ n
mode_back zero h = refl
mode_back (suc zero) h = refl
mode_back (suc (suc zero)) h = refl
mode_back (suc (suc (suc n))) h = absurd (omega arith)

pub carry_back : (n : ℕ) → n < 4 → carry_number (carry_of n) ≡ n
carry_back zero h = refl
carry_back (suc zero) h = refl
carry_back (suc (suc zero)) h = refl
carry_back (suc (suc (suc zero))) h = refl
carry_back (suc (suc (suc (suc n)))) h = absurd (omega arith)

no_carry : (site : Site) (third n : ℕ) → 4 ≤ n → is_carry site third n ≡ true → ⊥
no_carry site third n many h =
    elim (or_true (nat_lt n 2 || ((n == 2) && nat_lt 0 site.col)) ((n == 3) && (c_kind third == 1)) h) [
      | inl p ↦
          elim (or_true (nat_lt n 2) ((n == 2) && nat_lt 0 site.col) p) [
            | inl q ↦ omega (arith, ltb-true _ _ q)
            | inr q ↦ omega (arith, eqb-true _ _ (both (n == 2) (nat_lt 0 site.col) q).0)
          ]
      | inr p ↦ omega (arith, eqb-true _ _ (both (n == 3) (c_kind third == 1) p).0)
    ]

-- a carry-in that is allowed
pub carry_sound : (site : Site) (third cin : ℕ) (c : Bit) → (c_kind third ≡ 1 → is_bit c ≡ true) → is_carry site third cin ≡ true → (cin < 4) × (is_lawful_carry site c (carry_of cin) ≡ true)
carry_sound site third zero c bit h = (omega arith, refl)
carry_sound site third (suc zero) c bit h = (omega arith, refl)
carry_sound site third (suc (suc zero)) c bit h =
    (omega arith, elim (or_true (nat_lt 0 site.col) false h) [ inl col ↦ col | inr none ↦ absurd cc ])
carry_sound site third (suc (suc (suc zero))) c bit h = (omega arith, bit (eqb-true _ _ h))
carry_sound site third (suc (suc (suc (suc n)))) c bit h = absurd (no_carry site third (suc (suc (suc (suc n)))) (omega arith) h)

pub last_met : (x y : Bool) → cond x (demand 8 (not y)) (Some 6) ≡ None → (x ≡ true) × (y ≡ false)
last_met true true h = absurd cc
last_met true false h = (refl, refl)
last_met false y h = absurd cc

-- ---- a processing element

pub record PeSound (packed : Bool) (site : Site) (words : List ℕ) : Type 0 where
  pub spelled : words ≡ pe_words (pe_of words) ++ drop 4 words
  pub lawful : is_lawful_pe site (pe_of words) ≡ true
  pub set : packed ≡ true → is_set (pe_of words) ≡ true
  pub bytes : ((i : ℕ) → get_or words i 0 < 2 ^ 32) → has_pe_bytes (pe_of words) ≡ true

pub lawful_all : (a hi lo c cin shift write : Bool) → a ≡ true → hi ≡ true → lo ≡ true → c ≡ true → cin ≡ true → shift ≡ true → write ≡ true → (a && hi && lo && c && cin && shift && write) ≡ true
lawful_all a hi lo c cin shift write h1 h2 h3 h4 h5 h6 h7 = rw (h1, h2, h3, h4, h5, h6, h7) refl

four_choices : (write next cin mode shift : Bool) → (write && next && cin && mode && shift) ≡ true → (write ≡ true) × (next ≡ true) × (cin ≡ true) × (mode ≡ true) × (shift ≡ true)
four_choices write next cin mode shift h =
    let h4 = both (write && next && cin && mode) shift h in
    let h3 = both (write && next && cin) mode h4.0 in
    let h2 = both (write && next) cin h3.0 in
    let h1 = both write next h2.0 in
    (h1.0, h1.1, h2.1, h3.1, h4.1)

-- words that are not all 0
not_all : (packed a b c d : Bool) → (packed && a && b && c && d) ≡ false → packed ≡ true → not (a && (b && (c && (d && true)))) ≡ true
not_all true true true true true h p = absurd cc
not_all true false b c d h p = refl
not_all true true false c d h p = refl
not_all true true true false d h p = refl
not_all true true true true false h p = refl
not_all false a b c d h p = absurd cc

source_bytes : (half : ℕ) → has_source_byte (source_of half) ≡ true
source_bytes half =
    source_byte_by (half / 0x1000 == 1) (half / 0x1000 == 2) (half / 0x1000 == 3) (half / 0x1000 == 4) half
  where
    source_byte_by : (p h s b : Bool) (half : ℕ) → has_source_byte (cond p (Source.Prev (half / 16 % 256) (half % 16)) (cond h (Source.Here (half / 16 % 256)) (cond s (Source.State (half / 16 % 256)) (cond b (Source.Bus (half % 256)) (Source.Const (half % 256)))))) ≡ true
    source_byte_by true h s b half = refl
    source_byte_by false true s b half = refl
    source_byte_by false false true b half = refl
    source_byte_by false false false true half = refl
    source_byte_by false false false false half = lt-ltb _ _ (omega arith)

c_bytes : (site : Site) (second third : ℕ) → is_choice_of_c second third ≡ true → has_c_byte (c_of second third) ≡ true
c_bytes site second third h =
    elim (choice_cases second third h) [
      | inl p ↦ ap has_c_byte (c_is second third 1 p.0) ∙ source_bytes (second % 0x10000)
      | inr p ↦ elim p.0 [ inl z ↦ ap has_c_byte (c_is second third 0 z) | inr t ↦ ap has_c_byte (c_is second third 2 t) ]
    ]

seven : (a hi lo c table mask init : Bool) → a ≡ true → hi ≡ true → lo ≡ true → c ≡ true → table ≡ true → mask ≡ true → init ≡ true → (a && hi && lo && c && table && mask && init) ≡ true
seven a hi lo c table mask init h1 h2 h3 h4 h5 h6 h7 = rw (h1, h2, h3, h4, h5, h6, h7) refl

-- the four words are spelled by what they read as
four_words : (site : Site) (a b c d : ℕ) → are_sources site a ≡ true → are_sources site b ≡ true → is_choice_of_c b c ≡ true → are_choices site c d ≡ true → site.registers ≤ 16 → (a ≡ a_word (pe_from a b c d)) × (b ≡ lo_word (pe_from a b c d)) × (c ≡ table_word (pe_from a b c d)) × (d ≡ write_word (pe_from a b c d))
four_words site a b c d A B C D few =
    let s = sources_sound site a A in
    let t = sources_sound site b B in
    let k = c_sound site b c (both (is_source site (b / 0x10000)) (is_source site (b % 0x10000)) B).1 C in
    let f = four_choices (nat_lt (d / 0x10000) site.registers) (nat_lt (d / 0x1000 % 16) 3) (is_carry site c (d / 0x100 % 16)) (nat_lt (d / 16 % 16) 3) (nat_lt (d % 16) 8) D in
    let write : d / 0x10000 < site.registers = ltb-true _ _ f.0 in
    let next = next_back (d / 0x1000 % 16) (ltb-true _ _ f.1) in
    let cin = carry_back (d / 0x100 % 16) (carry_sound site c (d / 0x100 % 16) (c_of b c) k.bit f.2).0 in
    let mode = mode_back (d / 16 % 16) (ltb-true _ _ f.3) in
    let first : a ≡ source_word (source_of (a / 0x10000)) * 0x10000 + source_word (source_of (a % 0x10000)) = rw (s.0.0, s.1.0) (omega arith) in
    let second : b ≡ source_word (source_of (b / 0x10000)) * 0x10000 + c_source (c_of b c) = rw (t.0.0, k.source) (omega arith) in
    let third : c ≡ c / 0x1000000 * 0x1000000 + c / 0x10000 % 256 * 0x10000 + c / 0x100 % 256 * 0x100 + c_choice (c_of b c) = rw k.choice (omega arith) in
    let fourth : d ≡ d / 0x10000 % 256 * 0x10000 + next_number (next_of (d / 0x1000 % 16)) * 0x1000 + carry_number (carry_of (d / 0x100 % 16)) * 0x100 + mode_number (mode_of (d / 16 % 16)) * 0x10 + d % 16 = rw (next, cin, mode) (omega (arith, write, few)) in
    (first, second, third, fourth)

pub pe_sound : (packed : Bool) (site : Site) (place : ℕ) (words : List ℕ) → site.registers ≤ 16 → first_broken (pe_rules packed site words) place words ≡ None → PeSound packed site words
unfolding pe_words is_set has_pe_bytes
pe_sound packed site place [] few h = absurd cc
pe_sound packed site place (a ∷ []) few h = let e : 4 ≤ 1 = enough (pe_rules packed site (a ∷ [])) place (a ∷ []) h in absurd (omega (arith, e))
pe_sound packed site place (a ∷ b ∷ []) few h = let e : 4 ≤ 2 = enough (pe_rules packed site (a ∷ b ∷ [])) place (a ∷ b ∷ []) h in absurd (omega (arith, e))
pe_sound packed site place (a ∷ b ∷ c ∷ []) few h = let e : 4 ≤ 3 = enough (pe_rules packed site (a ∷ b ∷ c ∷ [])) place (a ∷ b ∷ c ∷ []) h in absurd (omega (arith, e))
pe_sound packed site place (a ∷ b ∷ c ∷ d ∷ rest) few h =
    let h0 = none_both place (sources_rule site a) _ h in
    let h1 = none_both (place + 1) (sources_rule site b) _ h0.1 in
    let h2 = none_both (place + 1 + 1) (choice_rule b c) _ h1.1 in
    let h3 = none_both (place + 1 + 1 + 1) (last_rule packed site a b c d) None h2.1 in
    let A = met 6 (are_sources site a) h0.0 in
    let B = met 6 (are_sources site b) h1.0 in
    let C = met 6 (is_choice_of_c b c) h2.0 in
    let L = last_met (are_choices site c d) (is_needless packed a b c d) h3.0 in
    let s = sources_sound site a A in
    let t = sources_sound site b B in
    let k = c_sound site b c (both (is_source site (b / 0x10000)) (is_source site (b % 0x10000)) B).1 C in
    let f = four_choices (nat_lt (d / 0x10000) site.registers) (nat_lt (d / 0x1000 % 16) 3) (is_carry site c (d / 0x100 % 16)) (nat_lt (d / 16 % 16) 3) (nat_lt (d % 16) 8) L.0 in
    let low : d / 0x10000 % 256 < site.registers = omega (arith, ltb-true _ _ f.0, few) in
    let w = four_words site a b c d A B C L.0 few in
    let all : a ∷ b ∷ c ∷ d ∷ rest ≡ a_word (pe_from a b c d) ∷ lo_word (pe_from a b c d) ∷ table_word (pe_from a b c d) ∷ write_word (pe_from a b c d) ∷ rest =
    ap (λ x. x ∷ b ∷ c ∷ d ∷ rest) w.0 ∙ (ap (λ x. a_word (pe_from a b c d) ∷ x ∷ c ∷ d ∷ rest) w.1 ∙ (ap (λ x. a_word (pe_from a b c d) ∷ lo_word (pe_from a b c d) ∷ x ∷ d ∷ rest) w.2 ∙ ap (λ x. a_word (pe_from a b c d) ∷ lo_word (pe_from a b c d) ∷ table_word (pe_from a b c d) ∷ x ∷ rest) w.3)) in
    record {
      spelled = all;
      lawful = lawful_all _ _ _ _ _ _ _ s.0.1 s.1.1 t.0.1 k.lawful (carry_sound site c (d / 0x100 % 16) (c_of b c) k.bit f.2).1 f.4 (lt-ltb _ _ low);
      set = λ p. rw (← w.0, ← w.1, ← w.2, ← w.3) (not_all packed (a == 0) (b == 0) (c == 0) (d == 0) L.1 p);
      bytes = λ small. seven _ _ _ _ _ _ _ (source_bytes (a / 0x10000)) (source_bytes (a % 0x10000)) (source_bytes (b / 0x10000)) (c_bytes site b c C) (lt-ltb _ _ (omega (arith, small 2))) (lt-ltb _ _ (omega arith)) (lt-ltb _ _ (omega arith));
    }
