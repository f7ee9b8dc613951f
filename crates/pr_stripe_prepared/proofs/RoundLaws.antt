-- A round makes the columns of one level more right, as the columns of the stage are made one after the other.
use Rattle.std.proofs.Common.{◌≡◌, ℕ, zero, suc, ◌+◌, ◌-◌, ◌*◌, ◌/◌, ◌%◌, ◌^◌, ◌<◌, ◌≤◌, ◌==◌, ◌&&◌, nat_lt, Bool, true, false, List, [], length, get_or, take, bit_and, bit_or, if◌then◌else◌, refl, sym, ap, subst, pow_pos, ◌∙◌, arith}
use Rattle.std.proofs.lemmas.Bool.{false≢true, true≢false, ltb-true}
use Rattle.std.proofs.lemmas.Bool.Decides.{nat_tests}
use Rattle.std.proofs.lemmas.Nat.{and_mask}
use Rattle.std.proofs.lemmas.Nat.Bits.{and_pow}
use Rattle.std.proofs.Math.Nat.{suc-mul}
use Rattle.std.specs.Int.{bit_at}
use Rattle.std.specs.Int.Bits.{and_zero_r, or_zero_r, or_zero_l}
use Rattle.pr_base.specs.Pe.{PeResult, made, shifted, looked_up, carry_in, carry_out, result_of}
use Rattle.pr_base.specs.declared.choices.Mode.{Mode}
use Rattle.pr_base.specs.declared.choices.Carry.{Carry}
use Rattle.pr_conf.specs.declared.pes.Source.{Source}
use Rattle.pr_conf.specs.declared.pes.Bit.{Bit}
use Rattle.pr_conf.specs.declared.pes.Pe.{Pe}
use Rattle.pr_conf.specs.StageMap.{Sight, made_from, pe_made, output_at, last_carry, source_byte, source_bit, c_of, cin_of, whole_sight}
use Rattle.pr_lanes.specs.Rows.{chosen, half, ones_where, row_by}
use Rattle.pr_lanes.proofs.Parts.{row_by_at}
use Rattle.pr_lanes.proofs.Tables.{looked_up_by_choice}
use Rattle.pr_conf.proofs.ColumnLaws.{made_at, output_is, output_below, last_carry_is}
use Rattle.pr_stripe_columns.proofs.FreeLaws.{both}
use Rattle.pr_stripe_columns.proofs.StepLaws.{all_made, any_pe}
use Rattle.pr_stripe_prepared.specs.declared.stages.Prepared.{Prepared}
use Rattle.pr_stripe_prepared.specs.declared.stages.Table.{Table}
use Rattle.pr_lanes.specs.Lanes.{HasLanes}
use Rattle.pr_stripe_prepared.specs.Gather.{gathered_byte, seen_byte}
use Rattle.pr_stripe_prepared.specs.Tables.{HasTable}
use Rattle.pr_stripe_prepared.specs.Operands.{mark_of, found_by, found, given, first_of, second_of, carried, carry_k, result_k}
use Rattle.pr_stripe_prepared.specs.Prepared.{IsPrepared}
use Rattle.pr_stripe_prepared.specs.Rounds.{is_seen, is_seen_bit, IsRight}
use Rattle.pr_stripe_prepared.specs.Elements.{sum_mark, takes_carry, is_chain, goes_on, low_mask, zero_mask, c_source, c_bit, c_carry, is_read_bit, from_c}
use Rattle.pr_lanes.proofs.SumLaws.{carry_more}

-- ---- C, as a mark: all ones, or 0
bit_small : (n : ℕ) (sight : Sight) (c : Bit) → source_bit n sight c ≤ 1
bit_small n sight Bit.None = omega arith
bit_small n sight (Bit.Of s place) = omega arith
bit_small n sight Bit.CarryIn = omega arith

is_zero_times : (t p : ℕ) → 0 < p → (t * p == 0) ≡ (t == 0)
is_zero_times zero p h = grind (arith, nat_tests)
is_zero_times (suc t) p h = let e : suc t * p ≡ t * p + p = suc-mul t p in grind (arith, nat_tests)

mark_is : (x place : ℕ) → ones_where x (2 ^ place) ≡ (if bit_at x place == 0 then 0 else 255)
mark_is x place = ap (λ n. if n == 0 then 0 else 255) (and_pow x place) ∙ ap (λ t. if t then 0 else 255) (is_zero_times (bit_at x place) (2 ^ place) (pow_pos place))

bit_of_byte : (n : ℕ) (sight : Sight) (c : Bit) (x : ℕ) → is_read_bit c ≡ true → x ≡ source_byte n sight (c_source c) → ones_where x (c_bit c) ≡ (if source_bit n sight c == 0 then 0 else 255)
bit_of_byte n sight Bit.None x h e = ap (λ n. if n == 0 then 0 else 255) (and_zero_r x)
bit_of_byte n sight (Bit.Of s place) x h e = mark_is x place ∙ ap (λ y. if bit_at y place == 0 then 0 else 255) e
bit_of_byte n sight Bit.CarryIn x h e = ap (λ n. if n == 0 then 0 else 255) (and_zero_r x)

unread_bit : (n : ℕ) (sight : Sight) (c : Bit) → c_bit c ≡ 0 → source_bit n sight c ≡ 0
unread_bit n sight Bit.None e = refl
unread_bit n sight (Bit.Of s place) e = absurd (let some = pow_pos place in omega arith)
unread_bit n sight Bit.CarryIn e = refl

marked_by : (has : Bool) (n : ℕ) (sight : Sight) (c : Bit) (x bits m : ℕ) → is_read_bit c ≡ true → x ≡ source_byte n sight (c_source c) → bits ≡ c_bit c → (has ≡ false → c_bit c ≡ 0) → m ≡ (if has then ones_where x bits else 0)
    → m ≡ (if source_bit n sight c == 0 then 0 else 255)
marked_by true n sight c x bits m h e f none is = is ∙ ap (ones_where x) f ∙ bit_of_byte n sight c x h e
marked_by false n sight c x bits m h e f none is = is ∙ sym (ap (λ y. if y == 0 then 0 else 255) (unread_bit n sight c (none refl)))

-- the mark where no column's C is its carry-in
kept_mark : (has : Bool) (base carry bits : ℕ) → bits ≡ 0 → (if has then bit_or base (ones_where carry bits) else base) ≡ base
kept_mark true base carry bits e = ap (λ y. bit_or base (ones_where carry y)) e ∙ ap (λ y. bit_or base (if y == 0 then 0 else 255)) (and_zero_r carry) ∙ or_zero_r base
kept_mark false base carry bits e = refl

one_mark : (cin : ℕ) → cin ≤ 1 → bit_or 0 (ones_where cin 1) ≡ (if cin == 0 then 0 else 255)
one_mark zero l = refl
one_mark (suc zero) l = refl
one_mark (suc (suc cin)) l = absurd (omega arith)

carried_mark : (has : Bool) (n : ℕ) (sight : Sight) (c : Bit) (base carry bits cin m : ℕ) → base ≡ (if source_bit n sight c == 0 then 0 else 255) → bits ≡ c_carry c → (has ≡ false → c_carry c ≡ 0) → (c_carry c ≡ 1 → (carry ≡ cin) × (cin ≤ 1))
    → m ≡ (if has then bit_or base (ones_where carry bits) else base) → m ≡ (if c_of n sight c cin == 0 then 0 else 255)
carried_mark has n sight Bit.None base carry bits cin m e f none same is = is ∙ kept_mark has base carry bits f ∙ e
carried_mark has n sight (Bit.Of s place) base carry bits cin m e f none same is = is ∙ kept_mark has base carry bits f ∙ e
carried_mark true n sight Bit.CarryIn base carry bits cin m e f none same is =
    is ∙ ap (λ y. bit_or y (ones_where carry bits)) e ∙ ap (λ y. bit_or 0 (ones_where carry y)) f ∙ ap (λ y. bit_or 0 (ones_where y 1)) (same refl).0 ∙ one_mark cin (same refl).1
carried_mark false n sight Bit.CarryIn base carry bits cin m e f none same is = absurd (let z = none refl in omega arith)

c_small : (n : ℕ) (sight : Sight) (c : Bit) (cin : ℕ) → (c_carry c ≡ 1 → cin ≤ 1) → c_of n sight c cin ≤ 1
c_small n sight Bit.None cin h = omega arith
c_small n sight (Bit.Of s place) cin h = omega arith
c_small n sight Bit.CarryIn cin h = h refl

no_c : (n : ℕ) (sight : Sight) (c : Bit) (cin : ℕ) → c_bit c ≡ 0 → c_carry c ≡ 0 → c_of n sight c cin ≡ 0
no_c n sight Bit.None cin e f = refl
no_c n sight (Bit.Of s place) cin e f = absurd (let some = pow_pos place in omega arith)
no_c n sight Bit.CarryIn cin e f = absurd (omega arith)

-- ---- what is seen of C
bit_seen : (levels : List ℕ) (k : ℕ) (cin : Carry) (c : Bit) → is_seen_bit levels k cin c ≡ true → is_seen levels k (c_source c) ≡ true
bit_seen levels k cin Bit.None h = refl
bit_seen levels k cin (Bit.Of s place) h = h
bit_seen levels k cin Bit.CarryIn h = refl

seen_carry : (levels : List ℕ) (k : ℕ) (cin : Carry) (c : Bit) → is_seen_bit levels k cin c ≡ true → c_carry c ≡ 1 → (is_chain cin ≡ true) × (get_or levels (k - 1) 0 < get_or levels k 0)
seen_carry levels k cin Bit.None h e = absurd (omega arith)
seen_carry levels k cin (Bit.Of s place) h e = absurd (omega arith)
seen_carry levels k cin Bit.CarryIn h e = let h1 = both (is_chain cin) (nat_lt (get_or levels (k - 1) 0) (get_or levels k 0)) h in (h1.0, ltb-true _ _ h1.1)

chain_from_c : (cin : Carry) → is_chain cin ≡ true → from_c cin ≡ 1 → ⊥
chain_from_c Carry.Zero h e = false≢true h
chain_from_c Carry.One h e = false≢true h
chain_from_c Carry.Chain h e = omega arith
chain_from_c Carry.FromC h e = false≢true h

-- where the carry-in is C, C is a bit of a byte
not_carried : (levels : List ℕ) (k : ℕ) (n : ℕ) (sight : Sight) (cin : Carry) (c : Bit) (into : ℕ) → is_seen_bit levels k cin c ≡ true → from_c cin ≡ 1 → c_of n sight c into ≡ source_bit n sight c
not_carried levels k n sight cin Bit.None into h e = refl
not_carried levels k n sight cin (Bit.Of s place) into h e = refl
not_carried levels k n sight cin Bit.CarryIn into h e = absurd (chain_from_c cin (both (is_chain cin) (nat_lt (get_or levels (k - 1) 0) (get_or levels k 0)) h).0 e)

needs_sums : (has : Bool) (mode : Mode) (c : Bit) → (has ≡ false → takes_carry mode c ≡ false) → c_carry c ≡ 1 → has ≡ true
needs_sums true mode c none e = refl
needs_sums false Mode.Plain c none e = absurd (true≢false (sym (ap (λ x. x == 1) e) ∙ none refl))
needs_sums false Mode.Sum c none e = absurd (true≢false (none refl))
needs_sums false Mode.Zero c none e = absurd (true≢false (none refl))

-- ---- the carry-in
given_is : (cin : Carry) (bit mark : ℕ) → bit ≤ 1 → (from_c cin ≡ 1 → mark ≡ (if bit == 0 then 0 else 255)) → (carry_in cin 0 0 + bit_and mark (from_c cin)) % 256 ≡ carry_in cin 0 bit
given_is Carry.Zero bit mark l e = ap (λ x. (0 + x) % 256) (and_zero_r mark)
given_is Carry.One bit mark l e = ap (λ x. (1 + x) % 256) (and_zero_r mark)
given_is Carry.Chain bit mark l e = ap (λ x. (0 + x) % 256) (and_zero_r mark)
given_is Carry.FromC zero mark l e = ap (λ m. (0 + bit_and m 1) % 256) (e refl)
given_is Carry.FromC (suc zero) mark l e = ap (λ m. (0 + bit_and m 1) % 256) (e refl)
given_is Carry.FromC (suc (suc bit)) mark l e = absurd (omega arith)

given_small : (cin : Carry) (mark : ℕ) → (carry_in cin 0 0 + bit_and mark (from_c cin)) % 256 ≤ 1
given_small Carry.Zero mark = let e = and_zero_r mark in omega arith
given_small Carry.One mark = let e = and_zero_r mark in omega arith
given_small Carry.Chain mark = let e = and_zero_r mark in omega arith
given_small Carry.FromC mark = let e : bit_and mark 1 ≡ mark % 2 = and_mask mark 1 in omega arith

given_none : (cin : Carry) (mark : ℕ) → is_chain cin ≡ true → (carry_in cin 0 0 + bit_and mark (from_c cin)) % 256 ≡ 0
given_none Carry.Zero mark h = absurd (false≢true h)
given_none Carry.One mark h = absurd (false≢true h)
given_none Carry.Chain mark h = ap (λ x. (0 + x) % 256) (and_zero_r mark)
given_none Carry.FromC mark h = absurd (false≢true h)

cin_is : (cin : Carry) (below c given k : ℕ) → given ≡ carry_in cin 0 c → (is_chain cin ≡ true → k ≡ below) → (is_chain cin ≡ false → k ≡ 0) → carry_in cin below c ≡ given + k
cin_is Carry.Zero below c given k e f z = let h = z refl in omega arith
cin_is Carry.One below c given k e f z = let h = z refl in omega arith
cin_is Carry.Chain below c given k e f z = let h = f refl in omega arith
cin_is Carry.FromC below c given k e f z = let h = z refl in omega arith

chain_in : (cin : Carry) (below c : ℕ) → is_chain cin ≡ true → carry_in cin below c ≡ below
chain_in Carry.Zero below c h = absurd (false≢true h)
chain_in Carry.One below c h = absurd (false≢true h)
chain_in Carry.Chain below c h = refl
chain_in Carry.FromC below c h = absurd (false≢true h)

-- ---- the carry-out that the next column sees
if_small : (b : Bool) → (if b then 1 else 0) ≤ 1
if_small true = omega arith
if_small false = omega arith

carry_small : (mode : Mode) (a x cin : ℕ) → a < 256 → x < 256 → cin ≤ 1 → carry_out mode a x cin ≤ 1
carry_small Mode.Plain a x cin la lx lc = omega arith
carry_small Mode.Sum a x cin la lx lc = omega arith
carry_small Mode.Zero a x cin la lx lc = if_small (cin == 1 && x == 0)

low_of : (x low m k : ℕ) → low ≡ 2 ^ k - 1 → m ≡ 2 ^ k → bit_and x low ≡ x % m
low_of x low m k e f = ap (bit_and x) e ∙ and_mask x k ∙ ap (λ y. x % y) (sym f)

none_of : (x low : ℕ) → low ≡ 0 → bit_and x low ≡ 0
none_of x low e = ap (bit_and x) e ∙ and_zero_r x

first_is : (a y low zeros u v : ℕ) → bit_and a low ≡ u → bit_and y zeros ≡ v → bit_or (bit_and a low) (bit_and y zeros) ≡ bit_or u v
first_is a y low zeros u v e f = ap (λ w. bit_or w (bit_and y zeros)) e ∙ ap (bit_or u) f

goes_at_zero : (s : ℕ) → s ≤ 1 → (255 + s) / 256 ≡ (if s == 1 && 0 == 0 then 1 else 0)
goes_at_zero zero l = refl
goes_at_zero (suc zero) l = refl
goes_at_zero (suc (suc s)) l = absurd (omega arith)

and_false : (b : Bool) → ◌≡◌ {A = ℕ} (if b && false then 1 else 0) 0
and_false true = refl
and_false false = refl

stays_else : (s x : ℕ) → ◌≡◌ {A = ℕ} (if s == 1 && suc x == 0 then 1 else 0) 0
stays_else s x = let e : (suc x == 0) ≡ false = grind (arith, nat_tests) in ap (λ t. if s == 1 && t then 1 else 0) e ∙ and_false (s == 1)

next_carry : (mode : Mode) (on : Bool) (a x c k low zeros : ℕ) → low ≡ low_mask mode on → zeros ≡ zero_mask mode on → a < 256 → x < 256 → c + k ≤ 1
    → (bit_or (bit_and a low) (bit_and (if x == 0 then 255 else 0) zeros) + bit_and x low + c + k) / 256 ≡ (if on then carry_out mode a x (c + k) else 0)
next_carry Mode.Plain true a x c k low zeros e f la lx s =
    let p : bit_or (bit_and a low) (bit_and (if x == 0 then 255 else 0) zeros) ≡ 0 = first_is a (if x == 0 then 255 else 0) low zeros 0 0 (none_of a low e) (none_of _ zeros f) in
    let r = none_of x low e in
    omega arith
next_carry Mode.Plain false a x c k low zeros e f la lx s =
    let p : bit_or (bit_and a low) (bit_and (if x == 0 then 255 else 0) zeros) ≡ 0 = first_is a (if x == 0 then 255 else 0) low zeros 0 0 (none_of a low e) (none_of _ zeros f) in
    let r = none_of x low e in
    omega arith
next_carry Mode.Sum true a x c k low zeros e f la lx s =
    let p : bit_or (bit_and a low) (bit_and (if x == 0 then 255 else 0) zeros) ≡ a % 256 = first_is a (if x == 0 then 255 else 0) low zeros (a % 256) 0 (low_of a low 256 8 e refl) (none_of _ zeros f) ∙ or_zero_r (a % 256) in
    let r : bit_and x low ≡ x % 256 = low_of x low 256 8 e refl in
    omega arith
next_carry Mode.Sum false a x c k low zeros e f la lx s =
    let p : bit_or (bit_and a low) (bit_and (if x == 0 then 255 else 0) zeros) ≡ a % 128 = first_is a (if x == 0 then 255 else 0) low zeros (a % 128) 0 (low_of a low 128 7 e refl) (none_of _ zeros f) ∙ or_zero_r (a % 128) in
    let r : bit_and x low ≡ x % 128 = low_of x low 128 7 e refl in
    omega arith
next_carry Mode.Zero true a zero c k low zeros e f la lx s =
    let p : bit_or (bit_and a low) (bit_and 255 zeros) ≡ 255 = first_is a 255 low zeros 0 255 (none_of a low e) (ap (bit_and 255) f) in
    let r = none_of 0 low e in
    let t : (bit_or (bit_and a low) (bit_and 255 zeros) + bit_and 0 low + c + k) / 256 ≡ (255 + (c + k)) / 256 = omega arith in
    t ∙ goes_at_zero (c + k) s
next_carry Mode.Zero true a (suc x) c k low zeros e f la lx s =
    let n : (suc x == 0) ≡ false = grind (arith, nat_tests) in
    let y : ◌≡◌ {A = ℕ} (if suc x == 0 then 255 else 0) 0 = ap (λ t. if t then 255 else 0) n in
    let p : bit_or (bit_and a low) (bit_and (if suc x == 0 then 255 else 0) zeros) ≡ 0 = first_is a (if suc x == 0 then 255 else 0) low zeros 0 0 (none_of a low e) (ap (λ t. bit_and t zeros) y ∙ ap (bit_and 0) f) in
    let r = none_of (suc x) low e in
    let t : (bit_or (bit_and a low) (bit_and (if suc x == 0 then 255 else 0) zeros) + bit_and (suc x) low + c + k) / 256 ≡ 0 = omega arith in
    t ∙ sym (stays_else (c + k) x)
next_carry Mode.Zero false a x c k low zeros e f la lx s =
    let p : bit_or (bit_and a low) (bit_and (if x == 0 then 255 else 0) zeros) ≡ 0 = first_is a (if x == 0 then 255 else 0) low zeros 0 0 (none_of a low e) (none_of _ zeros f) in
    let r = none_of x low e in
    omega arith

-- ---- the result
pub kept : (x s : ℕ) → x < 256 → chosen x s 0 ≡ x
kept x s l =
    let p : bit_and x 255 ≡ x = and_mask x 8 ∙ omega arith in
    ap (λ y. bit_or y (bit_and s 0)) p ∙ ap (bit_or x) (and_zero_r s) ∙ or_zero_r x

pub taken : (x s : ℕ) → s < 256 → chosen x s 255 ≡ s
taken x s l =
    let p : bit_and s 255 ≡ s = and_mask s 8 ∙ omega arith in
    ap (λ y. bit_or y (bit_and s 255)) (and_zero_r x) ∙ or_zero_l (bit_and s 255) ∙ p

-- X, where a mark chooses the half of the table
by_mark : (has : Bool) (off on bit mark : ℕ) (f : ℕ → ℕ) → off ≡ f 0 → on ≡ f 1 → (has ≡ true → (off < 256) × (on < 256)) → bit ≤ 1 → mark ≡ (if bit == 0 then 0 else 255) → (has ≡ false → bit ≡ 0)
    → (if has then chosen off on mark else off) ≡ f bit
by_mark true off on zero mark f e1 e2 small l e none = ap (chosen off on) e ∙ kept off on (small refl).0 ∙ e1
by_mark true off on (suc zero) mark f e1 e2 small l e none = ap (chosen off on) e ∙ taken off on (small refl).1 ∙ e2
by_mark true off on (suc (suc bit)) mark f e1 e2 small l e none = absurd (omega arith)
by_mark false off on bit mark f e1 e2 small l e none = e1 ∙ ap f (sym (none refl))

half_is : (t : Table) (a b : List ℕ) (k c table : ℕ) → HasTable t k c table → get_or a k 0 < 256 → get_or b k 0 < 256 → found_by t a b k ≡ looked_up table (get_or a k 0) (get_or b k 0) (c % 2)
half_is t a b k c table m la lb =
    let y = get_or a k 0 in
    let z = get_or b k 0 in
    let h = half table c in
    ap (λ x. chosen (chosen x (get_or t.t2 k 0) y) (chosen (get_or t.t4 k 0) (get_or t.t8 k 0) y) z) m.t1
    ∙ ap (λ x. chosen (chosen (ones_where h 1) x y) (chosen (get_or t.t4 k 0) (get_or t.t8 k 0) y) z) m.t2
    ∙ ap (λ x. chosen (chosen (ones_where h 1) (ones_where h 2) y) (chosen x (get_or t.t8 k 0) y) z) m.t4
    ∙ ap (λ x. chosen (chosen (ones_where h 1) (ones_where h 2) y) (chosen (ones_where h 4) x y) z) m.t8
    ∙ looked_up_by_choice table y z c la lb

summed_is : (mode : Mode) (c : Bit) (has : Bool) (a x s mark : ℕ) → mark ≡ sum_mark mode → (has ≡ false → takes_carry mode c ≡ false) → x < 256 → s ≤ 1
    → (if has then chosen x (((a + x) % 256 + s % 256) % 256) mark else x) ≡ result_of mode a x s
summed_is Mode.Plain c true a x s mark e none l m = ap (chosen x (((a + x) % 256 + s % 256) % 256)) e ∙ kept x (((a + x) % 256 + s % 256) % 256) l
summed_is Mode.Plain c false a x s mark e none l m = refl
summed_is Mode.Sum c true a x s mark e none l m = ap (chosen x (((a + x) % 256 + s % 256) % 256)) e ∙ taken x (((a + x) % 256 + s % 256) % 256) (omega arith) ∙ omega arith
summed_is Mode.Sum c false a x s mark e none l m = absurd (true≢false (none refl))
summed_is Mode.Zero c true a x s mark e none l m = ap (chosen x (((a + x) % 256 + s % 256) % 256)) e ∙ kept x (((a + x) % 256 + s % 256) % 256) l
summed_is Mode.Zero c false a x s mark e none l m = refl

not_last : (k : ℕ) → suc k < 16 → (suc k == 16) ≡ false
not_last k l = grind (arith, nat_tests)

none_made : PeResult
none_made = record { output = 0; carry = 0 }

pub same_made : (mode : Mode) (table mask a b c cin a' b' c' cin' : ℕ) → a ≡ a' → b ≡ b' → c ≡ c' → cin ≡ cin' → made mode table mask a b c cin ≡ made mode table mask a' b' c' cin'
same_made mode table mask a b c cin a' b' c' cin' ea eb ec en =
    ap (λ x. made mode table mask x b c cin) ea ∙ ap (λ x. made mode table mask a' x c cin) eb ∙ ap (λ x. made mode table mask a' b' x cin) ec ∙ ap (λ x. made mode table mask a' b' c' x) en

module _ (q : Prepared) (pes : List Pe) (registers : ℕ) (p : IsPrepared q pes registers) (row st a b c output into was outs carries : List ℕ) (r : ℕ) (ls : length st ≡ 16)
    (ha : HasLanes 16 a (gathered_byte q.both row st outs))
    (hb : (k s : ℕ) → k < 16 → get_or q.shifts k 0 ≡ 2 ^ s → s < 8 → (q.has_rest ≡ false → s ≡ 0)
    → get_or b k 0 ≡ shifted (gathered_byte q.both row st outs (16 + k)) (gathered_byte q.rest row st outs k) s)
    (hc : HasLanes 16 c (mark_of q row st outs carries))
    (ho : HasLanes 16 output (result_k q a (row_by 16 (found q a b c)) c))
    (hi : q.has_sums ≡ true → HasLanes 16 into (carry_k q a (row_by 16 (found q a b c)) c))
    (bytes : (k : ℕ) → k < 16 → (get_or a k 0 < 256) × (get_or b k 0 < 256)) (looked : (k : ℕ) → k < 16 → found q a b c k < 256)
    (halves : q.has_c ≡ true → (k : ℕ) → k < 16 → (found_by q.off a b k < 256) × (found_by q.on a b k < 256))
    (before : IsRight q pes row st was outs carries r) where
  abbrev all : List PeResult
  all = made_from (length st) row st [] pes

  abbrev sight : ℕ → Sight
  sight k = record { row = row; state = st; columns = take k all }

  abbrev level : ℕ → ℕ
  level k = get_or q.levels k 0

  abbrev xs : List ℕ
  xs = row_by 16 (found q a b c)

  abbrev goes : ℕ → ℕ
  goes k = carried q a xs c k

  -- C of column k
  abbrev bit : ℕ → Pe → ℕ
  bit k pe = c_of (length st) (sight k) pe.c (cin_of (length st) (sight k) pe)

  xs_at : (k : ℕ) → k < 16 → get_or xs k 0 ≡ found q a b c k
  xs_at k l = row_by_at 16 (found q a b c) k l

  -- a source whose column is right already
  seen : (k : ℕ) (s : Source) → k < 16 → level k ≤ r → is_seen q.levels k s ≡ true → seen_byte row st outs s ≡ source_byte (length st) (whole_sight (length st) pes st row) s
  seen k (Source.Const byte) l lk h = refl
  seen k (Source.Prev col reg) l lk h = ap (λ n. get_or row ((reg - 1) * n + col) 0) (sym ls)
  seen k (Source.Here col) l lk h =
      let h1 = both (nat_lt col k) (nat_lt (level col) (level k)) h in
      let lt : col < k = ltb-true _ _ h1.0 in
      let lv : level col < level k = ltb-true _ _ h1.1 in
      (before.columns col any_pe (omega arith) (omega arith)).output_is
  seen k (Source.State col) l lk h = refl
  seen k (Source.Bus place) l lk h = refl

  seen_at : (k : ℕ) (s : Source) → is_seen q.levels k s ≡ true → source_byte (length st) (whole_sight (length st) pes st row) s ≡ source_byte (length st) (sight k) s
  seen_at k (Source.Const byte) h = refl
  seen_at k (Source.Prev col reg) h = refl
  seen_at k (Source.Here col) h = let h1 = both (nat_lt col k) (nat_lt (level col) (level k)) h in sym (output_below all k col (ltb-true _ _ h1.0))
  seen_at k (Source.State col) h = refl
  seen_at k (Source.Bus place) h = refl

  a_whole : (k : ℕ) (d : Pe) → k < 16 → level k ≤ r → get_or a k 0 ≡ source_byte (length st) (whole_sight (length st) pes st row) (get_or pes k d).a
  a_whole k d l lk = let pe = get_or pes k d in ha.each k l ∙ (p.reads k d l).a row st outs ∙ seen k pe.a l lk (p.ordered k d l).a

  a_is : (k : ℕ) (d : Pe) → k < 16 → level k ≤ r → get_or a k 0 ≡ source_byte (length st) (sight k) (get_or pes k d).a
  a_is k d l lk = a_whole k d l lk ∙ seen_at k (get_or pes k d).a (p.ordered k d l).a

  b_is : (k : ℕ) (d : Pe) → k < 16 → level k ≤ r → get_or b k 0 ≡ shifted (source_byte (length st) (sight k) (get_or pes k d).hi) (source_byte (length st) (sight k) (get_or pes k d).lo) (get_or pes k d).shift
  b_is k d l lk =
      let e = p.reads k d l in
      let o = p.ordered k d l in
      let pe = get_or pes k d in
      hb k pe.shift l e.shift e.few e.unshifted
      ∙ ap (λ x. shifted x (gathered_byte q.rest row st outs k) pe.shift) (e.hi row st outs ∙ seen k pe.hi l lk o.hi ∙ seen_at k pe.hi o.hi)
      ∙ ap (λ x. shifted (source_byte (length st) (sight k) pe.hi) x pe.shift) (e.lo row st outs ∙ seen k pe.lo l lk o.lo ∙ seen_at k pe.lo o.lo)

  record At (k : ℕ) : Type 0 where
    small : given q c k + goes k ≤ 1
    alone : (d : Pe) → is_chain (get_or pes k d).cin ≡ false → goes k ≡ 0
    link : (d : Pe) → is_chain (get_or pes k d).cin ≡ true → level (k - 1) ≤ r → goes k ≡ last_carry (take k all)

  given_rows : (k : ℕ) (d : Pe) → k < 16 → given q c k ≡ (carry_in (get_or pes k d).cin 0 0 + bit_and (get_or c k 0) (from_c (get_or pes k d).cin)) % 256
  given_rows k d l =
      let m = p.makes k d l in
      ap (λ x. (x + bit_and (get_or c k 0) (get_or q.from_c k 0)) % 256) m.cin ∙ ap (λ x. (carry_in (get_or pes k d).cin 0 0 + bit_and (get_or c k 0) x) % 256) m.takes_c

  linked : (k : ℕ) (d : Pe) → k < 16 → level k ≤ r → At k → is_chain (get_or pes k d).cin ≡ true → goes k ≡ last_carry (take k all)
  linked k d l lk here h = here.link d h (let e = (p.ordered k d l).chain h in omega arith)

  -- where C is the carry-in, the round before made it
  carry_seen : (k : ℕ) (d : Pe) → k < 16 → level k ≤ r → At k → c_carry (get_or pes k d).c ≡ 1 → (get_or carries k 0 ≡ cin_of (length st) (sight k) (get_or pes k d)) × (cin_of (length st) (sight k) (get_or pes k d) ≤ 1)
  carry_seen k d l lk here e =
      let pe = get_or pes k d in
      let s = seen_carry q.levels k pe.cin pe.c (p.ordered k d l).c e in
      let h = s.0 in
      let lv = s.1 in
      let sum = needs_sums q.has_sums pe.mode pe.c (p.makes k d l).none e in
      let is : cin_of (length st) (sight k) pe ≡ last_carry (take k all) = chain_in pe.cin (last_carry (take k all)) (source_bit (length st) (sight k) pe.c) h in
      let go = linked k d l lk here h in
      let sm = here.small in
      (before.carried k d l sum h (omega arith) ∙ sym is, omega arith)

  c_is : (k : ℕ) (d : Pe) → k < 16 → level k ≤ r → At k → get_or c k 0 ≡ (if bit k (get_or pes k d) == 0 then 0 else 255)
  c_is k d l lk here =
      let e = p.reads k d l in
      let o = p.ordered k d l in
      let pe = get_or pes k d in
      let s = bit_seen q.levels k pe.cin pe.c o.c in
      let x = gathered_byte q.rest row st outs (16 + k) in
      let base = if q.has_rest then ones_where x (get_or q.c_bits k 0) else 0 in
      carried_mark q.has_carry (length st) (sight k) pe.c base (get_or carries k 0) (get_or q.c_carry k 0) (cin_of (length st) (sight k) pe) (get_or c k 0)
      (marked_by q.has_rest (length st) (sight k) pe.c x (get_or q.c_bits k 0) base e.read (e.c row st outs ∙ seen k (c_source pe.c) l lk s ∙ seen_at k (c_source pe.c) s) e.bit e.unread refl)
      e.carry e.uncarried (carry_seen k d l lk here) (hc.each k l)

  bit_low : (k : ℕ) (d : Pe) → k < 16 → level k ≤ r → At k → bit k (get_or pes k d) ≤ 1
  bit_low k d l lk here = let pe = get_or pes k d in c_small (length st) (sight k) pe.c (cin_of (length st) (sight k) pe) (λ e. (carry_seen k d l lk here e).1)

  -- X
  x_is : (k : ℕ) (d : Pe) → k < 16 → level k ≤ r → At k → found q a b c k ≡ looked_up (get_or pes k d).table (get_or a k 0) (get_or b k 0) (bit k (get_or pes k d))
  x_is k d l lk here =
      let m = p.makes k d l in
      let pe = get_or pes k d in
      by_mark q.has_c (found_by q.off a b k) (found_by q.on a b k) (bit k pe) (get_or c k 0) (looked_up pe.table (get_or a k 0) (get_or b k 0))
      (half_is q.off a b k 0 pe.table m.off (bytes k l).0 (bytes k l).1) (half_is q.on a b k 1 pe.table m.on (bytes k l).0 (bytes k l).1)
      (λ h. halves h k l) (bit_low k d l lk here) (c_is k d l lk here) (λ h. no_c (length st) (sight k) pe.c _ (m.without h).0 (m.without h).1)

  cin_is_given : (k : ℕ) (d : Pe) → k < 16 → level k ≤ r → At k → cin_of (length st) (sight k) (get_or pes k d) ≡ given q c k + goes k
  cin_is_given k d l lk here =
      let pe = get_or pes k d in
      let o = p.ordered k d l in
      let own = source_bit (length st) (sight k) pe.c in
      let low : own ≤ 1 = bit_small (length st) (sight k) pe.c in
      cin_is pe.cin (last_carry (take k all)) own (given q c k) (goes k)
      (given_rows k d l ∙ given_is pe.cin own (get_or c k 0) low (λ e. c_is k d l lk here ∙ ap (λ y. if y == 0 then 0 else 255) (not_carried q.levels k (length st) (sight k) pe.cin pe.c (cin_of (length st) (sight k) pe) o.c e)))
      (linked k d l lk here) (here.alone d)

  -- what column k makes, said by the rows
  made_is : (k : ℕ) (d : Pe) → k < 16 → level k ≤ r → At k → pe_made (length st) (sight k) (get_or pes k d) ≡ made (get_or pes k d).mode (get_or pes k d).table (get_or pes k d).mask (get_or a k 0) (get_or b k 0) (bit k (get_or pes k d)) (given q c k + goes k)
  made_is k d l lk here =
      let pe = get_or pes k d in
      same_made pe.mode pe.table pe.mask _ _ _ _ (get_or a k 0) (get_or b k 0) (bit k pe) (given q c k + goes k)
      (sym (a_is k d l lk)) (sym (b_is k d l lk)) refl (cin_is_given k d l lk here)

  at_of : (k : ℕ) → k < 16 → get_or all k none_made ≡ pe_made (length st) (sight k) (get_or pes k any_pe)
  at_of k l = made_at (length st) row st pes k any_pe none_made (let e = p.long in omega arith)

  out_carry : (k : ℕ) → k < 16 → level k ≤ r → At k → last_carry (take (k + 1) all) ≡ carry_out (get_or pes k any_pe).mode (get_or a k 0) (found q a b c k) (given q c k + goes k)
  out_carry k l lk here =
      let pe = get_or pes k any_pe in
      last_carry_is all k none_made (let e = p.long in let f = all_made (length st) row st pes in omega arith)
      ∙ ap (λ (m : PeResult). m.carry) (at_of k l ∙ made_is k any_pe l lk here)
      ∙ ap (λ x. carry_out pe.mode (get_or a k 0) x (given q c k + goes k)) (sym (x_is k any_pe l lk here))

  -- what goes on into the next column
  goes_more : (k : ℕ) (d : Pe) → suc k < 16 → given q c k + goes k ≤ 1 → goes (suc k) ≡ (if is_chain (get_or pes (suc k) d).cin then carry_out (get_or pes k any_pe).mode (get_or a k 0) (found q a b c k) (given q c k + goes k) else 0)
  goes_more k d l sm =
      let h : k < 16 = omega arith in
      let m = p.makes k any_pe h in
      let pe = get_or pes k any_pe in
      let on = goes_on pes k d in
      let up = not_last k l in
      carry_more 0 (λ j. first_of q a xs j + second_of q xs j + given q c j) k
      ∙ ap (λ x. (bit_or (bit_and (get_or a k 0) (get_or q.low k 0)) (bit_and (if x == 0 then 255 else 0) (get_or q.zeros k 0)) + bit_and x (get_or q.low k 0) + given q c k + goes k) / 256) (xs_at k h)
      ∙ next_carry pe.mode on (get_or a k 0) (found q a b c k) (given q c k) (goes k) (get_or q.low k 0) (get_or q.zeros k 0) (m.low d) (m.tests d) (bytes k h).0 (looked k h) sm
      ∙ ap (λ t. if t then carry_out pe.mode (get_or a k 0) (found q a b c k) (given q c k + goes k) else 0) (ap (λ t. if t then false else is_chain (get_or pes (suc k) d).cin) up)

  given_low : (k : ℕ) → k < 16 → given q c k ≤ 1
  given_low k l = subst (λ x. x ≤ 1) (sym (given_rows k any_pe l)) (given_small (get_or pes k any_pe).cin (get_or c k 0))

  small_more : (k g y : ℕ) (chain : Bool) → g ≡ (if chain then y else 0) → y ≤ 1 → k ≤ 1 → (chain ≡ true → k ≡ 0) → k + g ≤ 1
  small_more k g y true e l s z = let h = z refl in omega arith
  small_more k g y false e l s z = omega arith

  at : (k : ℕ) → k < 16 → At k
  at zero l = record { small = let h = given_low 0 l in omega arith; alone = λ d h. refl; link = λ d h lv. refl }
  at (suc k) l =
      let h : k < 16 = omega arith in
      let here = at k h in
      let pe = get_or pes k any_pe in
      let next = carry_out pe.mode (get_or a k 0) (found q a b c k) (given q c k + goes k) in
      record {
        small = small_more (given q c (suc k)) (goes (suc k)) next (is_chain (get_or pes (suc k) any_pe).cin) (goes_more k any_pe l here.small) (carry_small pe.mode (get_or a k 0) (found q a b c k) _ (bytes k h).0 (looked k h) here.small) (given_low (suc k) l)
            (λ chain. given_rows (suc k) any_pe l ∙ given_none (get_or pes (suc k) any_pe).cin (get_or c (suc k) 0) chain);
        alone = λ d chain. goes_more k d l here.small ∙ ap (λ t. if t then next else 0) chain;
        link = λ d chain lv.
            let more : suc k ≡ k + 1 = omega arith in
            let lk : level k ≤ r = subst (λ i. level i ≤ r) (let e : suc k - 1 ≡ k = omega arith in e) lv in
            goes_more k d l here.small ∙ ap (λ t. if t then next else 0) chain ∙ sym (out_carry k h lk here) ∙ ap (λ i. last_carry (take i all)) (sym more);
      }

  right_output : (k : ℕ) → k < 16 → level k ≤ r → get_or output k 0 ≡ output_at all k
  right_output k l lk =
      let m = p.makes k any_pe l in
      let pe = get_or pes k any_pe in
      let here = at k l in
      let f = all_made (length st) row st pes in
      let e = p.long in
      let x = found q a b c k in
      let s = given q c k + goes k in
      ho.each k l
      ∙ ap (λ y. bit_and (if q.has_sums then chosen y (((get_or a k 0 + y) % 256 + s % 256) % 256) (get_or q.sums k 0) else y) (get_or q.mask k 0)) (xs_at k l)
      ∙ ap (λ y. bit_and y (get_or q.mask k 0)) (summed_is pe.mode pe.c q.has_sums (get_or a k 0) x s (get_or q.sums k 0) m.sums m.none (looked k l) here.small)
      ∙ ap (λ y. bit_and (result_of pe.mode (get_or a k 0) x s) y) m.mask
      ∙ ap (λ y. bit_and (result_of pe.mode (get_or a k 0) y s) pe.mask) (x_is k any_pe l lk here)
      ∙ sym (output_is all k none_made (omega arith) ∙ ap (λ (m : PeResult). m.output) (at_of k l ∙ made_is k any_pe l lk here))

  pub right_more : IsRight q pes row st a output into (r + 1)
  right_more = record {
    columns = λ k d l lt. record { output_is = right_output k l (omega arith); a_is = a_whole k d l (omega arith) };
    carried = λ k d l sums chain lt.
        let here = at k l in
        let go = here.link d chain (omega arith) in
        let sm = here.small in
        let none = given_rows k d l ∙ given_none (get_or pes k d).cin (get_or c k 0) chain in
        (hi sums).each k l ∙ omega arith;
  }
