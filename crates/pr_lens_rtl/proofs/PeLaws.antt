-- The wires of a processing element hold what it makes.
use Rattle.std.proofs.Common.{◌≡◌, ◌<◌, ◌≤◌, ℕ, zero, suc, ◌+◌, ◌-◌, ◌*◌, ◌/◌, ◌%◌, ◌^◌, ◌==◌, ◌&&◌, not, nat_lt, max, Bool, true, false, get_or, bit_and, bit_or, refl, sym, ap, subst, ◌∙◌, arith, if◌then◌else◌}
use Rattle.std.specs.Int.{bit_at}
use Rattle.std.proofs.Math.Nat.{lt_of_lt_of_le, mod-eq_of_lt, mod-lt, mul-le-mul_right}
use Rattle.std.proofs.Math.Pow.{mod-mod-pow, pow_mono}
use Rattle.std.proofs.lemmas.Nat.{and_mask, and_mod, or_mod, pow_pos}
use Rattle.std.proofs.lemmas.Nat.Bits.{bit_at-lt}
use Rattle.std.proofs.lemmas.Grind.{and_numeral}
use Rattle.std.proofs.lemmas.Bool.{and_parts, ltb-true, eqb-true}
use Rattle.std.proofs.lemmas.Bool.Decides.{nat_tests}
use Rattle.pr_base.specs.Pe.{looked_up, shifted, carry_in, result_of, carry_out}
use Rattle.pr_base.specs.declared.choices.Mode.{Mode}
use Rattle.pr_base.specs.declared.choices.Carry.{Carry}
use Rattle.pr_conf.specs.declared.pes.Source.{Source}
use Rattle.pr_conf.specs.declared.pes.Bit.{Bit}
use Rattle.pr_conf.specs.declared.pes.Pe.{Pe}
use Rattle.pr_conf.specs.declared.stages.Site.{Site}
use Rattle.pr_conf.specs.Rules.{is_lawful_source, is_lawful_bit, is_lawful_carry, is_lawful_pe}
use Rattle.pr_conf.specs.StageMap.{Sight, source_byte, source_bit, c_of, cin_of, pe_made, output_at, last_carry}
use Rattle.pr_lens_rtl.specs.declared.vectors.Part.{Part}
use Rattle.pr_lens_rtl.specs.declared.vectors.Net.{Net}
use Rattle.pr_lens_rtl.specs.Verilog.{Expr, Values, bit_of, width_of, value, Takes, Fit}
use Rattle.pr_lens_rtl.specs.Module.{read, source_expr, shifted_expr, two_input, four_of, looked_expr, c_expr, carry_in_expr, picked_expr, result_expr, result_net, low_bits, is_always_masked, is_bare, output_expr, has_carry_in, added_expr, sum_expr, carry_expr, pe_wires}
use Rattle.pr_code.specs.Spelling.{is_byte, has_source_byte, has_c_byte, has_pe_bytes}
use Rattle.pr_lens_rtl.proofs.Tables.{table_law, four_small}

-- what the vectors that stage s reads show, before column i
pub record Shows (now : Values) (N P bus s i : ℕ) (sight : Sight) : Type 0 where
  pub first : s ≡ 0 → (k : ℕ) → k < bus → now (Net.In k) ≡ get_or sight.row k 0
  pub prev : 0 < s → (k : ℕ) → k < (P - 1) * N → now (Net.Of Part.Row (s - 1) k) ≡ get_or sight.row k 0
  pub state : (k : ℕ) → k < N → now (Net.Of Part.State s k) ≡ get_or sight.state k 0
  pub output : (k : ℕ) → k < i → now (Net.Of Part.Output s k) ≡ output_at sight.columns k
  pub carry : 0 < i → now (Net.Of Part.Carry s (i - 1)) ≡ last_carry sight.columns

abbrev pub site_at : ℕ → ℕ → ℕ → ℕ → ℕ → Site
site_at N P bus s i = record { columns = N; registers = P; first = s == 0; bus = bus; col = i }

pub source_width : (N s : ℕ) (x : Source) → width_of (source_expr N s x) ≡ 8
source_width N s (Source.Const k) = refl
source_width N s (Source.Prev col reg) = refl
source_width N s (Source.Here col) = refl
source_width N s (Source.State col) = refl
source_width N s (Source.Bus place) = refl

-- the place of a register of a column
pub place_below : (N P col reg : ℕ) → col < N → 0 < reg → reg < P → (reg - 1) * N + col < (P - 1) * N
place_below N P col reg c r p =
    let up : (reg - 1 + 1) * N ≤ (P - 1) * N = mul-le-mul_right N (omega arith) in
    let more : (reg - 1 + 1) * N ≡ (reg - 1) * N + N = omega arith in
    omega (arith, up, more)

-- what a lawful processing element's parts keep
pub record Lawful (site : Site) (pe : Pe) : Type 0 where
  pub a : is_lawful_source site pe.a ≡ true
  pub hi : is_lawful_source site pe.hi ≡ true
  pub lo : is_lawful_source site pe.lo ≡ true
  pub c : is_lawful_bit site pe.c ≡ true
  pub cin : is_lawful_carry site pe.c pe.cin ≡ true

pub lawful_parts : (site : Site) (pe : Pe) → is_lawful_pe site pe ≡ true → Lawful site pe
lawful_parts site pe h =
    let a = is_lawful_source site pe.a in
    let hi = is_lawful_source site pe.hi in
    let lo = is_lawful_source site pe.lo in
    let c = is_lawful_bit site pe.c in
    let cin = is_lawful_carry site pe.c pe.cin in
    let shift = nat_lt pe.shift 8 in
    let h6 = and_parts (a && hi && lo && c && cin && shift) (nat_lt pe.write site.registers) h in
    let h5 = and_parts (a && hi && lo && c && cin) shift h6.0 in
    let h4 = and_parts (a && hi && lo && c) cin h5.0 in
    let h3 = and_parts (a && hi && lo) c h4.0 in
    let h2 = and_parts (a && hi) lo h3.0 in
    let h1 = and_parts a hi h2.0 in
    record { a = h1.0; hi = h1.1; lo = h2.1; c = h3.1; cin = h4.1 }

-- ---- masks
-- a mask of the lowest bits, which are fewer than eight
record IsLow (mask k : ℕ) : Type 0 where
  pub few : k ≤ 8
  pub is : mask + 1 ≡ 2 ^ k

one_more : (P : ℕ → ℕ → Type 0) (mask m k rest : ℕ) → P m k → P mask rest → P mask (if mask == m then k else rest)
one_more P mask m k rest first other = go (mask == m) refl
  where
    go : (t : Bool) → (mask == m) ≡ t → P mask (if t then k else rest)
    go true e = subst (λ q. P q k) (sym (eqb-true mask m e)) first
    go false e = other

abbrev IsLowIf : ℕ → ℕ → Type 0
IsLowIf mask k = (k == 0) ≡ false → IsLow mask k

mask_law : (mask : ℕ) → IsLowIf mask (low_bits mask)
mask_law mask =
    one_more IsLowIf mask 1 1 _ (λ h. record { few = omega arith; is = refl })
    (one_more IsLowIf mask 3 2 _ (λ h. record { few = omega arith; is = refl })
    (one_more IsLowIf mask 7 3 _ (λ h. record { few = omega arith; is = refl })
    (one_more IsLowIf mask 15 4 _ (λ h. record { few = omega arith; is = refl })
    (one_more IsLowIf mask 31 5 _ (λ h. record { few = omega arith; is = refl })
    (one_more IsLowIf mask 63 6 _ (λ h. record { few = omega arith; is = refl })
    (one_more IsLowIf mask 127 7 _ (λ h. record { few = omega arith; is = refl }) (λ h. absurd (cc))))))))

-- the lowest bits of a number are those of its lowest byte under the mask
low_and : (n mask k : ℕ) → k ≤ 8 → mask + 1 ≡ 2 ^ k → n % 2 ^ k % 256 ≡ bit_and (n % 256) mask
low_and n mask k few is =
    mod-eq_of_lt (lt_of_lt_of_le (mod-lt n (pow_pos k)) (pow_mono few))
    ∙ sym (mod-mod-pow n (8 - k) k)
    ∙ ap (λ e. n % 2 ^ e % 2 ^ k) (let e : 8 - k + k ≡ 8 = omega (arith, few) in e)
    ∙ sym (and_mask (n % 256) k)
    ∙ ap (bit_and (n % 256)) (let e : 2 ^ k - 1 ≡ mask = omega (arith, is) in e)

bare_law : (mode : Mode) (carry : Carry) (mask : ℕ) → is_bare mode carry mask ≡ true → mask ≡ 255
bare_law mode carry mask h = eqb-true mask 255 (and_parts (mask == 255) (not (is_always_masked mode carry)) h).0

-- the result in nine bits
abbrev pub full : Mode → ℕ → ℕ → ℕ → ℕ
full Mode.Plain a x cin = x
full Mode.Sum a x cin = a + x + cin
full Mode.Zero a x cin = x

module _ (now : Values) (N P bus s i : ℕ) (sight : Sight) (fit : Fit now) (shows : Shows now N P bus s i sight) where
  pub source_small : (x : Source) (w : ℕ) → value now (source_expr N s x) w < 256
  source_small (Source.Const k) w = omega arith
  source_small (Source.Prev col reg) w = fit (Net.Of Part.Row (s - 1) ((reg - 1) * N + col))
  source_small (Source.Here col) w = fit (Net.Of Part.Output s col)
  source_small (Source.State col) w = fit (Net.Of Part.State s col)
  source_small (Source.Bus place) w = fit (Net.In place)

  pub source_law : (x : Source) (w : ℕ) → is_lawful_source (site_at N P bus s i) x ≡ true → has_source_byte x ≡ true → value now (source_expr N s x) w ≡ source_byte N sight x
  source_law (Source.Const k) w l b = mod-eq_of_lt (let small : k < 256 = grind (arith, nat_tests) in small)
  source_law (Source.Prev col reg) w l b =
      let far : 0 < s = grind (arith, nat_tests) in
      let c : col < N = grind (arith, nat_tests) in
      let r : 0 < reg = grind (arith, nat_tests) in
      let p : reg < P = grind (arith, nat_tests) in
      shows.prev far ((reg - 1) * N + col) (place_below N P col reg c r p)
  source_law (Source.Here col) w l b = shows.output col (let c : col < i = grind (arith, nat_tests) in c)
  source_law (Source.State col) w l b = shows.state col (let c : col < N = grind (arith, nat_tests) in c)
  source_law (Source.Bus place) w l b =
      let first : s ≡ 0 = grind (arith, nat_tests) in
      shows.first first place (let c : place < bus = grind (arith, nat_tests) in c)

  -- ---- the wires, one by one
  a_law : (x : Source) → is_lawful_source (site_at N P bus s i) x ≡ true → has_source_byte x ≡ true
      → value now (source_expr N s x) (max 8 (width_of (source_expr N s x))) % 256 ≡ source_byte N sight x
  a_law x l b = mod-eq_of_lt (source_small x (max 8 (width_of (source_expr N s x)))) ∙ source_law x (max 8 (width_of (source_expr N s x))) l b

  b_law : (hi lo : Source) (shift : ℕ) → is_lawful_source (site_at N P bus s i) hi ≡ true → has_source_byte hi ≡ true → is_lawful_source (site_at N P bus s i) lo ≡ true → has_source_byte lo ≡ true
      → let e = shifted_expr (source_expr N s hi) (source_expr N s lo) shift in value now e (max 8 (width_of e)) % 256 ≡ shifted (source_byte N sight hi) (source_byte N sight lo) shift
  b_law hi lo shift lh bh ll bl = go (shift == 0)
    where
      both : Expr
      both = Expr.Or (Expr.Left (source_expr N s hi) shift) (Expr.Right (source_expr N s lo) (8 - shift))

      wide : max 8 (max (width_of (source_expr N s hi)) (width_of (source_expr N s lo))) ≡ 8
      wide = ap (λ w. max 8 (max w (width_of (source_expr N s lo)))) (source_width N s hi) ∙ ap (λ w. max 8 (max 8 w)) (source_width N s lo)

      h : value now (source_expr N s hi) 8 ≡ source_byte N sight hi
      h = source_law hi 8 lh bh

      l : value now (source_expr N s lo) 8 ≡ source_byte N sight lo
      l = source_law lo 8 ll bl

      at_8 : bit_or (value now (source_expr N s hi) 8 * 2 ^ shift % 256) (value now (source_expr N s lo) 8 / 2 ^ (8 - shift)) % 256 ≡ bit_or (source_byte N sight hi * 2 ^ shift) (source_byte N sight lo / 2 ^ (8 - shift)) % 256
      at_8 = or_mod (value now (source_expr N s hi) 8 * 2 ^ shift % 256) (value now (source_expr N s lo) 8 / 2 ^ (8 - shift)) 8
          ∙ ap (λ m. bit_or m (value now (source_expr N s lo) 8 / 2 ^ (8 - shift) % 256)) (omega arith)
          ∙ sym (or_mod (value now (source_expr N s hi) 8 * 2 ^ shift) (value now (source_expr N s lo) 8 / 2 ^ (8 - shift)) 8)
          ∙ ap (λ m. bit_or (m * 2 ^ shift) (value now (source_expr N s lo) 8 / 2 ^ (8 - shift)) % 256) h
          ∙ ap (λ m. bit_or (source_byte N sight hi * 2 ^ shift) (m / 2 ^ (8 - shift)) % 256) l

      go : (t : Bool) → let e = (if t then source_expr N s hi else both) in value now e (max 8 (width_of e)) % 256 ≡ (if t then source_byte N sight hi else bit_or (source_byte N sight hi * 2 ^ shift) (source_byte N sight lo / 2 ^ (8 - shift)) % 256)
      go true = a_law hi lh bh
      go false = ap (λ w. value now both w % 256) wide ∙ at_8

  -- a bit of a source
  one_bit : (b : ℕ) → b < 2 → bit_of (b == 1) % 2 ≡ b
  one_bit zero l = refl
  one_bit (suc zero) l = refl
  one_bit (suc (suc b)) l = absurd (omega arith)

  bit_law : (x : Source) (place : ℕ) → is_lawful_source (site_at N P bus s i) x ≡ true → has_source_byte x ≡ true
      → value now (picked_expr N s x place) (max 1 (width_of (picked_expr N s x place))) % 2 ≡ bit_at (source_byte N sight x) place
  bit_law (Source.Const k) place l b = one_bit (bit_at k place) (bit_at-lt k place)
  bit_law (Source.Prev col reg) place l b = mod-eq_of_lt (bit_at-lt _ place) ∙ ap (λ n. bit_at n place) (source_law (Source.Prev col reg) 8 l b)
  bit_law (Source.Here col) place l b = mod-eq_of_lt (bit_at-lt _ place) ∙ ap (λ n. bit_at n place) (source_law (Source.Here col) 8 l b)
  bit_law (Source.State col) place l b = mod-eq_of_lt (bit_at-lt _ place) ∙ ap (λ n. bit_at n place) (source_law (Source.State col) 8 l b)
  bit_law (Source.Bus byte) place l b = mod-eq_of_lt (bit_at-lt _ place) ∙ ap (λ n. bit_at n place) (source_law (Source.Bus byte) 8 l b)

  carry_in_law : (c : Bit) (cin : Carry) → is_lawful_bit (site_at N P bus s i) c ≡ true → has_c_byte c ≡ true → is_lawful_carry (site_at N P bus s i) c cin ≡ true
      → let e = carry_in_expr N s i c cin in value now e (max 1 (width_of e)) % 2 ≡ carry_in cin (last_carry sight.columns) (source_bit N sight c)
  carry_in_law c Carry.Zero l b k = refl
  carry_in_law c Carry.One l b k = refl
  carry_in_law c Carry.Chain l b k =
      let low : 0 < i = grind (arith, nat_tests) in
      mod-eq_of_lt (fit (Net.Of Part.Carry s (i - 1))) ∙ shows.carry low
  carry_in_law Bit.None Carry.FromC l b k = refl
  carry_in_law (Bit.Of x place) Carry.FromC l b k = bit_law x place (and_parts _ _ l).0 b
  carry_in_law Bit.CarryIn Carry.FromC l b k = refl

  c_law : (c : Bit) (cin : ℕ) → now (Net.Of Part.CarryIn s i) ≡ cin → is_lawful_bit (site_at N P bus s i) c ≡ true → has_c_byte c ≡ true
      → let e = c_expr N s i c in value now e (max 1 (width_of e)) % 2 ≡ c_of N sight c cin
  c_law Bit.None cin h l b = refl
  c_law (Bit.Of x place) cin h l b = bit_law x place (and_parts _ _ l).0 b
  c_law Bit.CarryIn cin h l b = mod-eq_of_lt (fit (Net.Of Part.CarryIn s i)) ∙ h

  two_width : (w x y z : Bool) → width_of (two_input w x y z (read Part.A s i) (read Part.B s i)) ≡ 8
  two_width false false false false = refl
  two_width true false false false = refl
  two_width false true false false = refl
  two_width true true false false = refl
  two_width false false true false = refl
  two_width true false true false = refl
  two_width false true true false = refl
  two_width true true true false = refl
  two_width false false false true = refl
  two_width true false false true = refl
  two_width false true false true = refl
  two_width true true false true = refl
  two_width false false true true = refl
  two_width true false true true = refl
  two_width false true true true = refl
  two_width true true true true = refl

  four_width : (table from : ℕ) → width_of (four_of table from (read Part.A s i) (read Part.B s i)) ≡ 8
  four_width table from = two_width _ _ _ _

  -- X, where A, B and C hold these
  half_law : (table c : ℕ) → value now (four_of table (4 * c) (read Part.A s i) (read Part.B s i)) 8 ≡ looked_up table (now (Net.Of Part.A s i)) (now (Net.Of Part.B s i)) c
  half_law table c = table_law now (read Part.A s i) (read Part.B s i) (fit (Net.Of Part.A s i)) (fit (Net.Of Part.B s i)) table c

  half_small : (table from : ℕ) → value now (four_of table from (read Part.A s i) (read Part.B s i)) 8 < 256
  half_small table from = four_small now (read Part.A s i) (read Part.B s i) (fit (Net.Of Part.A s i)) (fit (Net.Of Part.B s i)) table from

  low_law : (table : ℕ) → value now (four_of table 0 (read Part.A s i) (read Part.B s i)) 8 % 256 ≡ looked_up table (now (Net.Of Part.A s i)) (now (Net.Of Part.B s i)) 0
  low_law table = mod-eq_of_lt (half_small table 0) ∙ half_law table 0

  choice_law : (table c : ℕ) → c < 2
      → (if c == 0 then value now (four_of table 0 (read Part.A s i) (read Part.B s i)) 8 else value now (four_of table 4 (read Part.A s i) (read Part.B s i)) 8) % 256
      ≡ looked_up table (now (Net.Of Part.A s i)) (now (Net.Of Part.B s i)) c
  choice_law table zero l = low_law table
  choice_law table (suc zero) l = mod-eq_of_lt (half_small table 4) ∙ half_law table 1
  choice_law table (suc (suc c)) l = absurd (omega arith)

  chosen : ℕ → Expr
  chosen table = Expr.Choice (read Part.C s i) (four_of table 4 (read Part.A s i) (read Part.B s i)) (four_of table 0 (read Part.A s i) (read Part.B s i))

  chosen_law : (table c : ℕ) → now (Net.Of Part.C s i) ≡ c
      → value now (chosen table) (max 8 (width_of (chosen table))) % 256 ≡ looked_up table (now (Net.Of Part.A s i)) (now (Net.Of Part.B s i)) c
  unfolding chosen
  chosen_law table c h =
      ap (λ w. value now (chosen table) (max 8 (max w (width_of (four_of table 0 (read Part.A s i) (read Part.B s i))))) % 256) (four_width table 4)
      ∙ ap (λ w. value now (chosen table) (max 8 (max 8 w)) % 256) (four_width table 0)
      ∙ choice_law table (now (Net.Of Part.C s i)) (fit (Net.Of Part.C s i))
      ∙ ap (looked_up table (now (Net.Of Part.A s i)) (now (Net.Of Part.B s i))) h

  x_law : (c : Bit) (table cin : ℕ) → now (Net.Of Part.C s i) ≡ c_of N sight c cin
      → let e = looked_expr c table (read Part.A s i) (read Part.B s i) (read Part.C s i) in
      value now e (max 8 (width_of e)) % 256 ≡ looked_up table (now (Net.Of Part.A s i)) (now (Net.Of Part.B s i)) (c_of N sight c cin)
  unfolding chosen
  x_law Bit.None table cin h = ap (λ w. value now (four_of table 0 (read Part.A s i) (read Part.B s i)) (max 8 w) % 256) (four_width table 0) ∙ low_law table
  x_law (Bit.Of x place) table cin h = chosen_law table (c_of N sight (Bit.Of x place) cin) h
  x_law Bit.CarryIn table cin h = chosen_law table cin h

  -- where no carry may come in, none is there
  no_carry_law : (carry : Carry) (last bit : ℕ) → has_carry_in carry ≡ false → carry_in carry last bit ≡ 0
  no_carry_law Carry.Zero last bit h = refl
  no_carry_law Carry.One last bit h = absurd (cc)
  no_carry_law Carry.Chain last bit h = absurd (cc)
  no_carry_law Carry.FromC last bit h = absurd (cc)

  added_law : (t : Bool) → (t ≡ false → now (Net.Of Part.CarryIn s i) ≡ 0)
      → value now (added_expr t s i) (max 9 (width_of (added_expr t s i))) % 512 ≡ full Mode.Sum (now (Net.Of Part.A s i)) (now (Net.Of Part.X s i)) (now (Net.Of Part.CarryIn s i))
  added_law true none =
      let a : now (Net.Of Part.A s i) < 256 = fit (Net.Of Part.A s i) in
      let x : now (Net.Of Part.X s i) < 256 = fit (Net.Of Part.X s i) in
      let c : now (Net.Of Part.CarryIn s i) < 2 = fit (Net.Of Part.CarryIn s i) in
      omega arith
  added_law false none =
      let a : now (Net.Of Part.A s i) < 256 = fit (Net.Of Part.A s i) in
      let x : now (Net.Of Part.X s i) < 256 = fit (Net.Of Part.X s i) in
      let c : now (Net.Of Part.CarryIn s i) ≡ 0 = none refl in
      omega arith

  sum_law : (mode : Mode) (carry : Carry) → (has_carry_in carry ≡ false → now (Net.Of Part.CarryIn s i) ≡ 0)
      → value now (sum_expr mode carry s i) (max 9 (width_of (sum_expr mode carry s i))) % 512 ≡ full mode (now (Net.Of Part.A s i)) (now (Net.Of Part.X s i)) (now (Net.Of Part.CarryIn s i))
  sum_law Mode.Plain carry none = mod-eq_of_lt (let x = fit (Net.Of Part.X s i) in omega (arith, x))
  sum_law Mode.Sum carry none = added_law (has_carry_in carry) none
  sum_law Mode.Zero carry none = mod-eq_of_lt (let x = fit (Net.Of Part.X s i) in omega (arith, x))

  zero_law : (cin : ℕ) (t : Bool) → cin < 2 → bit_and cin (if t then 1 else 0) % 2 ≡ (if cin == 1 && t then 1 else 0)
  zero_law zero true l = refl
  zero_law zero false l = refl
  zero_law (suc zero) true l = refl
  zero_law (suc zero) false l = refl
  zero_law (suc (suc c)) t l = absurd (omega arith)

  carry_law : (mode : Mode) → now (Net.Of Part.Sum s i) ≡ full mode (now (Net.Of Part.A s i)) (now (Net.Of Part.X s i)) (now (Net.Of Part.CarryIn s i))
      → value now (carry_expr mode s i) (max 1 (width_of (carry_expr mode s i))) % 2 ≡ carry_out mode (now (Net.Of Part.A s i)) (now (Net.Of Part.X s i)) (now (Net.Of Part.CarryIn s i))
  carry_law Mode.Plain h = refl
  carry_law Mode.Sum h =
      let bit : bit_at (now (Net.Of Part.Sum s i)) 8 ≡ now (Net.Of Part.Sum s i) / 256 % 2 = refl in
      let a : now (Net.Of Part.A s i) < 256 = fit (Net.Of Part.A s i) in
      let x : now (Net.Of Part.X s i) < 256 = fit (Net.Of Part.X s i) in
      let c : now (Net.Of Part.CarryIn s i) < 2 = fit (Net.Of Part.CarryIn s i) in
      omega arith
  carry_law Mode.Zero h = zero_law (now (Net.Of Part.CarryIn s i)) (now (Net.Of Part.X s i) == 0) (fit (Net.Of Part.CarryIn s i))

  result_law : (mode : Mode) (w : ℕ) → now (Net.Of Part.Sum s i) ≡ full mode (now (Net.Of Part.A s i)) (now (Net.Of Part.X s i)) (now (Net.Of Part.CarryIn s i))
      → value now (result_expr mode s i) w ≡ result_of mode (now (Net.Of Part.A s i)) (now (Net.Of Part.X s i)) (now (Net.Of Part.CarryIn s i))
  result_law Mode.Plain w h = refl
  result_law Mode.Sum w h = ap (λ n. n % 256) h
  result_law Mode.Zero w h = refl

  net_law : (mode : Mode) → now (Net.Of Part.Sum s i) ≡ full mode (now (Net.Of Part.A s i)) (now (Net.Of Part.X s i)) (now (Net.Of Part.CarryIn s i))
      → now (result_net mode s i) % 256 ≡ result_of mode (now (Net.Of Part.A s i)) (now (Net.Of Part.X s i)) (now (Net.Of Part.CarryIn s i))
  net_law Mode.Plain h = mod-eq_of_lt (fit (Net.Of Part.X s i))
  net_law Mode.Sum h = ap (λ n. n % 256) h
  net_law Mode.Zero h = mod-eq_of_lt (fit (Net.Of Part.X s i))

  result_small : (mode : Mode) → result_of mode (now (Net.Of Part.A s i)) (now (Net.Of Part.X s i)) (now (Net.Of Part.CarryIn s i)) < 256
  result_small Mode.Plain = fit (Net.Of Part.X s i)
  result_small Mode.Sum = omega arith
  result_small Mode.Zero = fit (Net.Of Part.X s i)

  output_law : (mode : Mode) (carry : Carry) (mask : ℕ) → mask < 256 → now (Net.Of Part.Sum s i) ≡ full mode (now (Net.Of Part.A s i)) (now (Net.Of Part.X s i)) (now (Net.Of Part.CarryIn s i))
      → let e = output_expr mode carry mask s i in value now e (max 8 (width_of e)) % 256 ≡ bit_and (result_of mode (now (Net.Of Part.A s i)) (now (Net.Of Part.X s i)) (now (Net.Of Part.CarryIn s i))) mask
  output_law mode carry mask small h = go (low_bits mask == 0) refl
    where
      r : ℕ
      r = result_of mode (now (Net.Of Part.A s i)) (now (Net.Of Part.X s i)) (now (Net.Of Part.CarryIn s i))

      masked : Expr
      masked = Expr.And (result_expr mode s i) (Expr.Byte mask)

      whole : (t : Bool) → is_bare mode carry mask ≡ t → let e = (if t then result_expr mode s i else masked) in value now e (max 8 (width_of e)) % 256 ≡ bit_and r mask
      whole true is =
          ap (λ n. n % 256) (result_law mode (max 8 (width_of (result_expr mode s i))) h)
          ∙ sym (and_numeral r 254 refl) ∙ ap (bit_and r) (sym (bare_law mode carry mask is))
      whole false is =
          ap (λ n. bit_and n (mask % 256) % 256) (result_law mode (max 8 (max (width_of (result_expr mode s i)) 8)) h)
          ∙ and_mod r (mask % 256) 8
          ∙ ap (λ n. bit_and n (mask % 256 % 256)) (mod-eq_of_lt (result_small mode))
          ∙ ap (bit_and r) (let e : mask % 256 % 256 ≡ mask = omega arith in e)

      go : (t : Bool) → (low_bits mask == 0) ≡ t
          → let e = (if t then (if is_bare mode carry mask then result_expr mode s i else masked) else Expr.Low (result_net mode s i) (low_bits mask)) in value now e (max 8 (width_of e)) % 256 ≡ bit_and r mask
      go true is = whole (is_bare mode carry mask) refl
      go false is =
          let low = mask_law mask is in
          low_and (now (result_net mode s i)) mask (low_bits mask) low.few low.is ∙ ap (λ n. bit_and n mask) (net_law mode h)

  -- ---- a processing element
  pub record Holds (pe : Pe) : Type 0 where
    pub a : now (Net.Of Part.A s i) ≡ source_byte N sight pe.a
    pub output : now (Net.Of Part.Output s i) ≡ (pe_made N sight pe).output
    pub carry : now (Net.Of Part.Carry s i) ≡ (pe_made N sight pe).carry

  record Bytes (pe : Pe) : Type 0 where
    pub a : has_source_byte pe.a ≡ true
    pub hi : has_source_byte pe.hi ≡ true
    pub lo : has_source_byte pe.lo ≡ true
    pub c : has_c_byte pe.c ≡ true
    pub mask : pe.mask < 256

  byte_parts : (pe : Pe) → has_pe_bytes pe ≡ true → Bytes pe
  unfolding has_pe_bytes
  byte_parts pe h =
      let a = has_source_byte pe.a in
      let hi = has_source_byte pe.hi in
      let lo = has_source_byte pe.lo in
      let c = has_c_byte pe.c in
      let h6 = and_parts (a && hi && lo && c && is_byte pe.table && is_byte pe.mask) (is_byte pe.init) h in
      let h5 = and_parts (a && hi && lo && c && is_byte pe.table) (is_byte pe.mask) h6.0 in
      let h4 = and_parts (a && hi && lo && c) (is_byte pe.table) h5.0 in
      let h3 = and_parts (a && hi && lo) c h4.0 in
      let h2 = and_parts (a && hi) lo h3.0 in
      let h1 = and_parts a hi h2.0 in
      record { a = h1.0; hi = h1.1; lo = h2.1; c = h3.1; mask = ltb-true pe.mask 256 h5.1 }

  pub pe_law : (pe : Pe) → is_lawful_pe (site_at N P bus s i) pe ≡ true → has_pe_bytes pe ≡ true → Takes now now (pe_wires N s i pe) → Holds pe
  pe_law pe l b h =
      let lawful = lawful_parts (site_at N P bus s i) pe l in
      let bytes = byte_parts pe b in
      let cin = cin_of N sight pe in
      let c = c_of N sight pe.c cin in
      let a' = source_byte N sight pe.a in
      let b' = shifted (source_byte N sight pe.hi) (source_byte N sight pe.lo) pe.shift in
      let ea : now (Net.Of Part.A s i) ≡ a' = h.0 ∙ a_law pe.a lawful.a bytes.a in
      let eb : now (Net.Of Part.B s i) ≡ b' = h.1.0 ∙ b_law pe.hi pe.lo pe.shift lawful.hi bytes.hi lawful.lo bytes.lo in
      let ei : now (Net.Of Part.CarryIn s i) ≡ cin = h.1.1.0 ∙ carry_in_law pe.c pe.cin lawful.c bytes.c lawful.cin in
      let ec : now (Net.Of Part.C s i) ≡ c = h.1.1.1.0 ∙ c_law pe.c cin ei lawful.c bytes.c in
      let ex : now (Net.Of Part.X s i) ≡ looked_up pe.table a' b' c =
      h.1.1.1.1.0 ∙ x_law pe.c pe.table cin ec ∙ ap (λ n. looked_up pe.table n (now (Net.Of Part.B s i)) c) ea ∙ ap (λ n. looked_up pe.table a' n c) eb in
      let et : now (Net.Of Part.Sum s i) ≡ full pe.mode (now (Net.Of Part.A s i)) (now (Net.Of Part.X s i)) (now (Net.Of Part.CarryIn s i)) = h.1.1.1.1.1.0 ∙ sum_law pe.mode pe.cin (λ none. ei ∙ no_carry_law pe.cin (last_carry sight.columns) (source_bit N sight pe.c) none) in
      let ek = h.1.1.1.1.1.1.0 ∙ carry_law pe.mode et in
      let eo = h.1.1.1.1.1.1.1.0 ∙ output_law pe.mode pe.cin pe.mask bytes.mask et in
      let x' = looked_up pe.table a' b' c in
      record {
        a = ea;
        output = eo ∙ ap (λ n. bit_and (result_of pe.mode n (now (Net.Of Part.X s i)) (now (Net.Of Part.CarryIn s i))) pe.mask) ea
            ∙ ap (λ n. bit_and (result_of pe.mode a' n (now (Net.Of Part.CarryIn s i))) pe.mask) ex ∙ ap (λ n. bit_and (result_of pe.mode a' x' n) pe.mask) ei;
        carry = ek ∙ ap (λ n. carry_out pe.mode n (now (Net.Of Part.X s i)) (now (Net.Of Part.CarryIn s i))) ea
            ∙ ap (λ n. carry_out pe.mode a' n (now (Net.Of Part.CarryIn s i))) ex ∙ ap (λ n. carry_out pe.mode a' x' n) ei;
      }
