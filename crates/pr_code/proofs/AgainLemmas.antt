-- The words of what the fabric allows break no rule, and read as what they spell: processing elements.
use Rattle.std.proofs.Common.{◌≡◌, ℕ, ◌+◌, ◌*◌, ◌/◌, ◌%◌, ◌^◌, ◌<◌, ◌≤◌, ◌==◌, ◌&&◌, not, Bool, true, false, List, [], ◌∷◌, ◌++◌, refl, ap, ◌∙◌, arith, None, Some, cond, nat_lt}
use Rattle.std.specs.List.{list_all}
use Rattle.std.proofs.lemmas.Bool.{ltb-true, lt-ltb, eq-eqb}
use Rattle.pr_base.specs.declared.choices.Mode.{Mode}
use Rattle.pr_base.specs.declared.choices.Carry.{Carry}
use Rattle.pr_base.specs.declared.choices.Next.{Next}
use Rattle.pr_conf.specs.declared.pes.Source.{Source}
use Rattle.pr_conf.specs.declared.pes.Bit.{Bit}
use Rattle.pr_conf.specs.declared.pes.Pe.{Pe}
use Rattle.pr_conf.specs.declared.stages.Site.{Site}
use Rattle.pr_conf.specs.Rules.{is_lawful_source, is_lawful_bit, is_lawful_carry, is_lawful_pe, is_bit}
use Rattle.pr_code.specs.Spelling.{source_word, c_source, c_choice, next_number, carry_number, mode_number, a_word, lo_word, table_word, write_word, pe_words, is_set, has_source_byte, has_c_byte, has_pe_bytes, is_byte}
use Rattle.pr_code.specs.Reading.{source_of, c_kind, c_of, next_of, carry_of, mode_of, pe_of}
use Rattle.pr_code.specs.Rules.{Rule, demand, first_broken, is_source, is_choice_of_c, is_carry, are_choices, is_needless, sources_rule, choice_rule, last_rule, pe_rules}
use Rattle.pr_code.proofs.WritingLemmas.{both}
use Rattle.pr_code.proofs.SoundLemmas.{c_is}

-- a site of a fabric
pub record IsSite (site : Site) : Type 0 where
  pub columns : site.columns ≤ 64
  pub registers : site.registers ≤ 16
  pub bus : site.bus ≤ 64
  pub col : site.col ≤ 64

pub record SourceAgain (s : Source) : Type 0 where
  pub again : source_of (source_word s) ≡ s
  pub small : source_word s < 0x10000

pub source_again : (site : Site) (s : Source) → IsSite site → is_lawful_source site s ≡ true → has_source_byte s ≡ true → SourceAgain s
source_again site (Source.Const k) at h byte =
    let lt : k < 256 = ltb-true _ _ byte in
    let q : k / 0x1000 ≡ 0 = omega arith in
    let m : k % 256 ≡ k = omega arith in
    record { again = rw (q, m) refl; small = omega arith }
source_again site (Source.Prev col reg) at h byte =
    let p3 = both (not site.first && nat_lt col site.columns && nat_lt 0 reg) (nat_lt reg site.registers) h in
    let p2 = both (not site.first && nat_lt col site.columns) (nat_lt 0 reg) p3.0 in
    let p1 = both (not site.first) (nat_lt col site.columns) p2.0 in
    let c : col < site.columns = ltb-true _ _ p1.1 in
    let r : reg < site.registers = ltb-true _ _ p3.1 in
    let c64 : col < 64 = omega (arith, c, at.columns) in
    let r16 : reg < 16 = omega (arith, r, at.registers) in
    let q : (0x1000 + col * 16 + reg) / 0x1000 ≡ 1 = omega (arith, c64, r16) in
    let d : (0x1000 + col * 16 + reg) / 16 % 256 ≡ col = omega (arith, c64, r16) in
    let m : (0x1000 + col * 16 + reg) % 16 ≡ reg = omega (arith, c64, r16) in
    record { again = rw (q, d, m) refl; small = omega (arith, c64, r16) }
source_again site (Source.Here col) at h byte =
    let c : col < site.col = ltb-true _ _ h in
    let c64 : col < 64 = omega (arith, c, at.col) in
    let q : (0x2000 + col * 16) / 0x1000 ≡ 2 = omega (arith, c64) in
    let d : (0x2000 + col * 16) / 16 % 256 ≡ col = omega (arith, c64) in
    record { again = rw (q, d) refl; small = omega (arith, c64) }
source_again site (Source.State col) at h byte =
    let c : col < site.columns = ltb-true _ _ h in
    let c64 : col < 64 = omega (arith, c, at.columns) in
    let q : (0x3000 + col * 16) / 0x1000 ≡ 3 = omega (arith, c64) in
    let d : (0x3000 + col * 16) / 16 % 256 ≡ col = omega (arith, c64) in
    record { again = rw (q, d) refl; small = omega (arith, c64) }
source_again site (Source.Bus place) at h byte =
    let c : place < site.bus = ltb-true _ _ (both site.first (nat_lt place site.bus) h).1 in
    let c64 : place < 64 = omega (arith, c, at.bus) in
    let q : (0x4000 + place) / 0x1000 ≡ 4 = omega (arith, c64) in
    let d : (0x4000 + place) % 256 ≡ place = omega (arith, c64) in
    record { again = rw (q, d) refl; small = omega (arith, c64) }

pub is_source_again : (site : Site) (s : Source) (half : ℕ) → half ≡ source_word s → SourceAgain s → is_lawful_source site s ≡ true → is_source site half ≡ true
is_source_again site s half e again h = rw (e, again.again, eq-eqb (source_word s) (source_word s) refl, h) refl

-- ---- C

pub record CAgain (c : Bit) (second third : ℕ) : Type 0 where
  pub again : c_of second third ≡ c
  pub choice : is_choice_of_c second third ≡ true
  pub bit : is_bit c ≡ true → c_kind third ≡ 1

pub c_again : (site : Site) (c : Bit) (second third : ℕ) → IsSite site → is_lawful_bit site c ≡ true → has_c_byte c ≡ true → second % 0x10000 ≡ c_source c → third % 256 ≡ c_choice c → CAgain c second third
c_again site Bit.None second third at h byte s t =
    let k : c_kind third ≡ 0 = omega (arith, t) in
    let z : third % 16 ≡ 0 = omega (arith, t) in
    record { again = c_is second third 0 k; choice = rw (k, z, s) refl; bit = λ b. absurd cc }
c_again site (Bit.Of source place) second third at h byte s t =
    let parts = both (is_lawful_source site source) (nat_lt place 8) h in
    let src = source_again site source at parts.0 byte in
    let lt : place < 8 = ltb-true _ _ parts.1 in
    let k : c_kind third ≡ 1 = omega (arith, t, lt) in
    let z : third % 16 ≡ place = omega (arith, t, lt) in
    record { again = c_is second third 1 k ∙ (ap (λ p. Bit.Of (source_of (second % 0x10000)) p) z ∙ ap (λ x. Bit.Of x place) (ap source_of s ∙ src.again)); choice = rw (k, z, parts.1) refl; bit = λ b. k }
c_again site Bit.CarryIn second third at h byte s t =
    let k : c_kind third ≡ 2 = omega (arith, t) in
    let z : third % 16 ≡ 0 = omega (arith, t) in
    record { again = c_is second third 2 k; choice = rw (k, z, s) refl; bit = λ b. absurd cc }

-- ---- the choices of the fourth word

next_again : (x : Next) → (next_of (next_number x) ≡ x) × (next_number x < 3)
next_again Next.Keep = (refl, omega arith)
next_again Next.Output = (refl, omega arith)
next_again Next.A = (refl, omega arith)

mode_again : (x : Mode) → (mode_of (mode_number x) ≡ x) × (mode_number x < 3)
mode_again Mode.Plain = (refl, omega arith)
mode_again Mode.Sum = (refl, omega arith)
mode_again Mode.Zero = (refl, omega arith)

carry_again : (site : Site) (third : ℕ) (c : Bit) (x : Carry) → (is_bit c ≡ true → c_kind third ≡ 1) → is_lawful_carry site c x ≡ true → (carry_of (carry_number x) ≡ x) × (carry_number x < 4) × (is_carry site third (carry_number x) ≡ true)
carry_again site third c Carry.Zero bit h = (refl, omega arith, refl)
carry_again site third c Carry.One bit h = (refl, omega arith, refl)
carry_again site third c Carry.Chain bit h = (refl, omega arith, rw h refl)
carry_again site third c Carry.FromC bit h = (refl, omega arith, let k = bit h in rw k refl)

c_small : (site : Site) (c : Bit) → IsSite site → is_lawful_bit site c ≡ true → has_c_byte c ≡ true → (c_source c < 0x10000) × (c_choice c < 256)
c_small site Bit.None at h byte = (omega arith, omega arith)
c_small site (Bit.Of source place) at h byte =
    let parts = both (is_lawful_source site source) (nat_lt place 8) h in
    let src = source_again site source at parts.0 byte in
    let lt : place < 8 = ltb-true _ _ parts.1 in
    (src.small, omega (arith, lt))
c_small site Bit.CarryIn at h byte = (omega arith, omega arith)

-- ---- a processing element

pub and_true : (a b : Bool) → a ≡ true → b ≡ true → (a && b) ≡ true
and_true a b h k = rw (h, k) refl

last_kept : (x y : Bool) → x ≡ true → y ≡ false → cond x (demand 8 (not y)) (Some 6) ≡ None
last_kept x y h k = rw (h, k) refl

needless_no : (packed a b c d : Bool) → (packed ≡ true → not (a && (b && (c && (d && true)))) ≡ true) → (packed && a && b && c && d) ≡ false
needless_no false a b c d h = refl
needless_no true false b c d h = refl
needless_no true true false c d h = refl
needless_no true true true false d h = refl
needless_no true true true true false h = refl
needless_no true true true true true h = let z = h refl in absurd cc

pub record PeAgain (packed : Bool) (site : Site) (pe : Pe) (rest : List ℕ) : Type 0 where
  pub none : (place : ℕ) → first_broken (pe_rules packed site (pe_words pe ++ rest)) place (pe_words pe ++ rest) ≡ None
  pub again : pe_of (pe_words pe ++ rest) ≡ pe

four_none : (p : ℕ) (a b c d : ℕ) (rest : List ℕ) (r0 r1 r2 r3 : Rule) → r0 a ≡ None → r1 b ≡ None → r2 c ≡ None → r3 d ≡ None → first_broken (r0 ∷ r1 ∷ r2 ∷ r3 ∷ []) p (a ∷ b ∷ c ∷ d ∷ rest) ≡ None
four_none p a b c d rest r0 r1 r2 r3 h0 h1 h2 h3 = rw (h0, h1, h2, h3) refl

record Lawful (site : Site) (pe : Pe) : Type 0 where
  pub a : is_lawful_source site pe.a ≡ true
  pub hi : is_lawful_source site pe.hi ≡ true
  pub lo : is_lawful_source site pe.lo ≡ true
  pub c : is_lawful_bit site pe.c ≡ true
  pub cin : is_lawful_carry site pe.c pe.cin ≡ true
  pub shift : nat_lt pe.shift 8 ≡ true
  pub write : nat_lt pe.write site.registers ≡ true

lawful_parts : (site : Site) (pe : Pe) → is_lawful_pe site pe ≡ true → Lawful site pe
lawful_parts site pe h =
    let a = is_lawful_source site pe.a in
    let hi = is_lawful_source site pe.hi in
    let lo = is_lawful_source site pe.lo in
    let c = is_lawful_bit site pe.c in
    let cin = is_lawful_carry site pe.c pe.cin in
    let shift = nat_lt pe.shift 8 in
    let h6 = both (a && hi && lo && c && cin && shift) (nat_lt pe.write site.registers) h in
    let h5 = both (a && hi && lo && c && cin) shift h6.0 in
    let h4 = both (a && hi && lo && c) cin h5.0 in
    let h3 = both (a && hi && lo) c h4.0 in
    let h2 = both (a && hi) lo h3.0 in
    let h1 = both a hi h2.0 in
    record { a = h1.0; hi = h1.1; lo = h2.1; c = h3.1; cin = h4.1; shift = h5.1; write = h6.1 }

record Bytes (pe : Pe) : Type 0 where
  pub a : has_source_byte pe.a ≡ true
  pub hi : has_source_byte pe.hi ≡ true
  pub lo : has_source_byte pe.lo ≡ true
  pub c : has_c_byte pe.c ≡ true
  pub table : pe.table < 256
  pub mask : pe.mask < 256
  pub init : pe.init < 256

byte_parts : (pe : Pe) → has_pe_bytes pe ≡ true → Bytes pe
unfolding has_pe_bytes
byte_parts pe h =
    let a = has_source_byte pe.a in
    let hi = has_source_byte pe.hi in
    let lo = has_source_byte pe.lo in
    let c = has_c_byte pe.c in
    let h6 = both (a && hi && lo && c && is_byte pe.table && is_byte pe.mask) (is_byte pe.init) h in
    let h5 = both (a && hi && lo && c && is_byte pe.table) (is_byte pe.mask) h6.0 in
    let h4 = both (a && hi && lo && c) (is_byte pe.table) h5.0 in
    let h3 = both (a && hi && lo) c h4.0 in
    let h2 = both (a && hi) lo h3.0 in
    let h1 = both a hi h2.0 in
    record { a = h1.0; hi = h1.1; lo = h2.1; c = h3.1; table = ltb-true _ _ h4.1; mask = ltb-true _ _ h5.1; init = ltb-true _ _ h6.1 }

c_source_again : (site : Site) (c : Bit) (half : ℕ) → half ≡ c_source c → IsSite site → is_lawful_bit site c ≡ true → has_c_byte c ≡ true → is_source site half ≡ true
c_source_again site Bit.None half e at h byte = rw e refl
c_source_again site (Bit.Of source place) half e at h byte =
    let parts = both (is_lawful_source site source) (nat_lt place 8) h in
    is_source_again site source half e (source_again site source at parts.0 byte) parts.0
c_source_again site Bit.CarryIn half e at h byte = rw e refl

pe_path : (a hi lo : Source) (shift : ℕ) (c : Bit) (table : ℕ) (mode : Mode) (cin : Carry) (mask : ℕ) (next : Next) (init write : ℕ) (pe : Pe) → a ≡ pe.a → hi ≡ pe.hi → lo ≡ pe.lo → shift ≡ pe.shift → c ≡ pe.c → table ≡ pe.table → mode ≡ pe.mode → cin ≡ pe.cin → mask ≡ pe.mask → next ≡ pe.next → init ≡ pe.init → write ≡ pe.write → record { a = a; hi = hi; lo = lo; shift = shift; c = c; table = table; mode = mode; cin = cin; mask = mask; next = next; init = init; write = write } ≡ pe
pe_path a hi lo shift c table mode cin mask next init write pe e0 e1 e2 e3 e4 e5 e6 e7 e8 e9 e10 e11 = rw (e0, e1, e2, e3, e4, e5, e6, e7, e8, e9, e10, e11) refl

pub pe_again : (packed : Bool) (site : Site) (pe : Pe) (rest : List ℕ) → IsSite site → is_lawful_pe site pe ≡ true → has_pe_bytes pe ≡ true → (packed ≡ true → is_set pe ≡ true) → PeAgain packed site pe rest
unfolding pe_words is_set
pe_again packed site pe rest at h byte set =
    let l = lawful_parts site pe h in
    let y = byte_parts pe byte in
    let sa = source_again site pe.a at l.a y.a in
    let sh = source_again site pe.hi at l.hi y.hi in
    let sl = source_again site pe.lo at l.lo y.lo in
    let cs = c_small site pe.c at l.c y.c in
    let A = a_word pe in
    let B = lo_word pe in
    let C = table_word pe in
    let D = write_word pe in
    let A1 : A / 0x10000 ≡ source_word pe.a = omega (arith, sh.small) in
    let A2 : A % 0x10000 ≡ source_word pe.hi = omega (arith, sh.small) in
    let B1 : B / 0x10000 ≡ source_word pe.lo = omega (arith, cs.0) in
    let B2 : B % 0x10000 ≡ c_source pe.c = omega (arith, cs.0) in
    let C0 : C % 256 ≡ c_choice pe.c = omega (arith, cs.1) in
    let C1 : C / 0x1000000 ≡ pe.table = omega (arith, cs.1, y.mask, y.init) in
    let C2 : C / 0x10000 % 256 ≡ pe.mask = omega (arith, cs.1, y.mask, y.init) in
    let C3 : C / 0x100 % 256 ≡ pe.init = omega (arith, cs.1, y.mask, y.init) in
    let k = c_again site pe.c B C at l.c y.c B2 C0 in
    let n = next_again pe.next in
    let m = mode_again pe.mode in
    let i = carry_again site C pe.c pe.cin k.bit l.cin in
    let s : pe.shift < 8 = ltb-true _ _ l.shift in
    let w : pe.write < site.registers = ltb-true _ _ l.write in
    let D0 : D / 0x10000 ≡ pe.write = omega (arith, n.1, m.1, i.1, s) in
    let D1 : D / 0x1000 % 16 ≡ next_number pe.next = omega (arith, n.1, m.1, i.1, s) in
    let D2 : D / 0x100 % 16 ≡ carry_number pe.cin = omega (arith, n.1, m.1, i.1, s) in
    let D3 : D / 16 % 16 ≡ mode_number pe.mode = omega (arith, n.1, m.1, i.1, s) in
    let D4 : D % 16 ≡ pe.shift = omega (arith, n.1, m.1, i.1, s) in
    let W : D / 0x10000 % 256 ≡ pe.write = omega (arith, D0, w, at.registers) in
    let first = and_true (is_source site (A / 0x10000)) (is_source site (A % 0x10000)) (is_source_again site pe.a (A / 0x10000) A1 sa l.a) (is_source_again site pe.hi (A % 0x10000) A2 sh l.hi) in
    let second = and_true (is_source site (B / 0x10000)) (is_source site (B % 0x10000)) (is_source_again site pe.lo (B / 0x10000) B1 sl l.lo) (c_source_again site pe.c (B % 0x10000) B2 at l.c y.c) in
    let c0 = ap (λ x. nat_lt x site.registers) D0 ∙ l.write in
    let c1 = lt-ltb (D / 0x1000 % 16) 3 (omega (arith, D1, n.1)) in
    let c2 = ap (is_carry site C) D2 ∙ i.2 in
    let c3 = lt-ltb (D / 16 % 16) 3 (omega (arith, D3, m.1)) in
    let c4 = ap (λ x. nat_lt x 8) D4 ∙ l.shift in
    let choices = and_true _ (nat_lt (D % 16) 8) (and_true _ (nat_lt (D / 16 % 16) 3) (and_true _ (is_carry site C (D / 0x100 % 16)) (and_true (nat_lt (D / 0x10000) site.registers) (nat_lt (D / 0x1000 % 16) 3) c0 c1) c2) c3) c4 in
    let needed = needless_no packed (A == 0) (B == 0) (C == 0) (D == 0) set in
    record {
      none = λ place. four_none place A B C D rest (sources_rule site) (sources_rule site) (choice_rule B) (last_rule packed site A B C) (ap (demand 6) first) (ap (demand 6) second) (ap (demand 6) k.choice) (last_kept (are_choices site C D) (is_needless packed A B C D) choices needed);
      again = pe_path _ _ _ _ _ _ _ _ _ _ _ _ pe (ap source_of A1 ∙ sa.again) (ap source_of A2 ∙ sh.again) (ap source_of B1 ∙ sl.again) D4 k.again C1 (ap mode_of D3 ∙ m.0) (ap carry_of D2 ∙ i.0) C2 (ap next_of D1 ∙ n.0) C3 W;
    }

-- its words have 32 bits
pub pe_small : (site : Site) (pe : Pe) → IsSite site → is_lawful_pe site pe ≡ true → has_pe_bytes pe ≡ true → list_all (λ w. nat_lt w (2 ^ 32)) (pe_words pe) ≡ true
unfolding pe_words
pe_small site pe at h byte =
    let l = lawful_parts site pe h in
    let y = byte_parts pe byte in
    let sa = source_again site pe.a at l.a y.a in
    let sh = source_again site pe.hi at l.hi y.hi in
    let sl = source_again site pe.lo at l.lo y.lo in
    let cs = c_small site pe.c at l.c y.c in
    let n = next_again pe.next in
    let m = mode_again pe.mode in
    let i = carry_again site 16 pe.c pe.cin (λ b. refl) l.cin in
    let s : pe.shift < 8 = ltb-true _ _ l.shift in
    let w : pe.write < site.registers = ltb-true _ _ l.write in
    let A = lt-ltb (a_word pe) (2 ^ 32) (omega (arith, sa.small, sh.small)) in
    let B = lt-ltb (lo_word pe) (2 ^ 32) (omega (arith, sl.small, cs.0)) in
    let C = lt-ltb (table_word pe) (2 ^ 32) (omega (arith, y.table, y.mask, y.init, cs.1)) in
    let D = lt-ltb (write_word pe) (2 ^ 32) (omega (arith, w, at.registers, n.1, m.1, i.1, s)) in
    and_true _ _ A (and_true _ _ B (and_true _ _ C (and_true _ true D refl)))
