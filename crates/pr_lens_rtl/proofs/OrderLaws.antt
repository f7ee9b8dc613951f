-- The vectors of a configuration's module are driven once, and its wires stand in an order in which each reads what
-- comes before it.
use Rattle.std.proofs.Common.{◌≡◌, ◌<◌, ◌≤◌, ℕ, zero, suc, ◌+◌, ◌-◌, ◌*◌, ◌==◌, Bool, true, false, List, [], ◌∷◌, ◌++◌, length, refl, subst, arith, if◌then◌else◌}
use Rattle.std.specs.List.{list_all}
use Rattle.std.proofs.Math.Nat.{mul-le-mul_right}
use Rattle.std.proofs.lemmas.Bool.{and_parts}
use Rattle.std.proofs.lemmas.Bool.Decides.{nat_tests}
use Rattle.pr_base.specs.declared.choices.Mode.{Mode}
use Rattle.pr_base.specs.declared.choices.Carry.{Carry}
use Rattle.pr_conf.specs.declared.pes.Source.{Source}
use Rattle.pr_conf.specs.declared.pes.Bit.{Bit}
use Rattle.pr_conf.specs.declared.pes.Pe.{Pe}
use Rattle.pr_conf.specs.declared.outputs.Tap.{Tap}
use Rattle.pr_conf.specs.Shape.{Shape}
use Rattle.pr_conf.specs.Rules.{IsLawful, is_lawful_source, is_lawful_bit, is_lawful_carry, is_lawful_pe, is_lawful_tap, is_lawful_output, are_lawful_pes, bytes_in}
use Rattle.pr_lens_rtl.specs.declared.vectors.Part.{Part}
use Rattle.pr_lens_rtl.specs.declared.vectors.Net.{Net}
use Rattle.pr_lens_rtl.specs.Verilog.{Expr}
use Rattle.pr_lens_rtl.specs.Module.{read, source_expr, picked_expr, shifted_expr, two_input, four_of, looked_expr, c_expr, carry_in_expr, has_carry_in, added_expr, sum_expr, result_expr, result_net, low_bits, is_bare, output_expr, carry_expr, pe_wires, pes_wires, state_registers, passed_registers, row_registers, stage_registers, stages_wires, stages_registers, hand_wires, tap_expr, tap_wires, taps_of, last_of, module_of}
use Rattle.pr_lens_rtl.specs.Kept.{reads, place}
use Rattle.pr_code.specs.Spelling.{has_bytes, have_tap_bytes, has_pe_bytes}
use Rattle.pr_lens_rtl.proofs.PeLaws.{site_at, place_below, Lawful, lawful_parts}
use Rattle.pr_lens_rtl.proofs.ClockLaws.{AreStages}
use Rattle.pr_lens_rtl.proofs.TraceLaws.{are_stages, outputs_taps}
use Rattle.pr_lens_rtl.proofs.KeptLaws.{Below, Rise, IsWire, IsRegister, IsDriven, rise_from, rise_both, rise_to}

below_more : (p q : ℕ) (ns : List Net) → p ≤ q → Below p ns → Below q ns
below_more p q [] l h = tt
below_more p q (n ∷ ns) l h = (omega (arith, h.0), below_more p q ns l h.1)

below_both : (p : ℕ) (ns ms : List Net) → Below p ns → Below p ms → Below p (ns ++ ms)
below_both p [] ms h k = k
below_both p (n ∷ ns) ms h k = (h.0, below_both p ns ms h.1 k)

-- the most places of a row
pub rows_small : (N P : ℕ) → N ≤ 64 → P ≤ 16 → (P - 1) * N ≤ 960
rows_small N P n p = let most : (P - 1) * N ≤ 15 * N = mul-le-mul_right N (omega arith) in omega (arith, most)

module _ (N P bus s i : ℕ) (columns : N ≤ 64) (registers : P ≤ 16) where
  source_below : (x : Source) → is_lawful_source (site_at N P bus s i) x ≡ true → Below (place (Net.Of Part.A s i)) (reads (source_expr N s x))
  source_below (Source.Const k) l = tt
  source_below (Source.Prev col reg) l =
      let far : 0 < s = grind (arith, nat_tests) in
      let c : col < N = grind (arith, nat_tests) in
      let r : 0 < reg = grind (arith, nat_tests) in
      let p : reg < P = grind (arith, nat_tests) in
      let at = place_below N P col reg c r p in
      let most = rows_small N P columns registers in
      (omega (arith, at, most, far), tt)
  source_below (Source.Here col) l = (let c : col < i = grind (arith, nat_tests) in omega (arith, c), tt)
  source_below (Source.State col) l = (let c : col < N = grind (arith, nat_tests) in omega (arith, c), tt)
  source_below (Source.Bus byte) l = (omega arith, tt)

  picked_below : (x : Source) (bit : ℕ) → is_lawful_source (site_at N P bus s i) x ≡ true → Below (place (Net.Of Part.A s i)) (reads (picked_expr N s x bit))
  picked_below (Source.Const k) bit l = tt
  picked_below (Source.Prev col reg) bit l = source_below (Source.Prev col reg) l
  picked_below (Source.Here col) bit l = source_below (Source.Here col) l
  picked_below (Source.State col) bit l = source_below (Source.State col) l
  picked_below (Source.Bus byte) bit l = source_below (Source.Bus byte) l

  a_below : (q : ℕ) (x : Source) → place (Net.Of Part.A s i) ≤ q → is_lawful_source (site_at N P bus s i) x ≡ true → Below q (reads (source_expr N s x))
  a_below q x m l = below_more (place (Net.Of Part.A s i)) q (reads (source_expr N s x)) m (source_below x l)

  b_below : (q : ℕ) (hi lo : Source) (shift : ℕ) → place (Net.Of Part.A s i) ≤ q → is_lawful_source (site_at N P bus s i) hi ≡ true → is_lawful_source (site_at N P bus s i) lo ≡ true
      → Below q (reads (shifted_expr (source_expr N s hi) (source_expr N s lo) shift))
  b_below q hi lo shift m h l = go (shift == 0)
    where
      go : (t : Bool) → Below q (reads (if t then source_expr N s hi else Expr.Or (Expr.Left (source_expr N s hi) shift) (Expr.Right (source_expr N s lo) (8 - shift))))
      go true = a_below q hi m h
      go false = below_both q (reads (source_expr N s hi)) (reads (source_expr N s lo)) (a_below q hi m h) (a_below q lo m l)

  carry_in_below : (q : ℕ) (c : Bit) (cin : Carry) → place (Net.Of Part.B s i) ≤ q → is_lawful_bit (site_at N P bus s i) c ≡ true → is_lawful_carry (site_at N P bus s i) c cin ≡ true → Below q (reads (carry_in_expr N s i c cin))
  carry_in_below q c Carry.Zero m l k = tt
  carry_in_below q c Carry.One m l k = tt
  carry_in_below q c Carry.Chain m l k = (let low : 0 < i = grind (arith, nat_tests) in omega (arith, low, m), tt)
  carry_in_below q Bit.None Carry.FromC m l k = tt
  carry_in_below q (Bit.Of x bit) Carry.FromC m l k = below_more (place (Net.Of Part.A s i)) q (reads (picked_expr N s x bit)) (omega (arith, m)) (picked_below x bit (and_parts _ _ l).0)
  carry_in_below q Bit.CarryIn Carry.FromC m l k = tt

  c_below : (q : ℕ) (c : Bit) → place (Net.Of Part.CarryIn s i) < q → is_lawful_bit (site_at N P bus s i) c ≡ true → Below q (reads (c_expr N s i c))
  c_below q Bit.None m l = tt
  c_below q (Bit.Of x bit) m l = below_more (place (Net.Of Part.A s i)) q (reads (picked_expr N s x bit)) (omega (arith, m)) (picked_below x bit (and_parts _ _ l).0)
  c_below q Bit.CarryIn m l = (m, tt)

  two_below : (q : ℕ) (w x y z : Bool) → place (Net.Of Part.B s i) < q → Below q (reads (two_input w x y z (read Part.A s i) (read Part.B s i)))
  two_below q false false false false m = tt
  two_below q true false false false m = (omega (arith, m), (m, tt))
  two_below q false true false false m = (omega (arith, m), (m, tt))
  two_below q true true false false m = (m, tt)
  two_below q false false true false m = (omega (arith, m), (m, tt))
  two_below q true false true false m = (omega (arith, m), tt)
  two_below q false true true false m = (omega (arith, m), (m, tt))
  two_below q true true true false m = (omega (arith, m), (m, tt))
  two_below q false false false true m = (omega (arith, m), (m, tt))
  two_below q true false false true m = (omega (arith, m), (m, tt))
  two_below q false true false true m = (omega (arith, m), tt)
  two_below q true true false true m = (omega (arith, m), (m, tt))
  two_below q false false true true m = (m, tt)
  two_below q true false true true m = (omega (arith, m), (m, tt))
  two_below q false true true true m = (omega (arith, m), (m, tt))
  two_below q true true true true m = tt

  four_below : (q table from : ℕ) → place (Net.Of Part.B s i) < q → Below q (reads (four_of table from (read Part.A s i) (read Part.B s i)))
  four_below q table from m = two_below q _ _ _ _ m

  looked_below : (q : ℕ) (c : Bit) (table : ℕ) → place (Net.Of Part.C s i) < q → Below q (reads (looked_expr c table (read Part.A s i) (read Part.B s i) (read Part.C s i)))
  looked_below q Bit.None table m = four_below q table 0 (omega (arith, m))
  looked_below q (Bit.Of x bit) table m = (m, below_both q (reads (four_of table 4 (read Part.A s i) (read Part.B s i))) (reads (four_of table 0 (read Part.A s i) (read Part.B s i))) (four_below q table 4 (omega (arith, m))) (four_below q table 0 (omega (arith, m))))
  looked_below q Bit.CarryIn table m = (m, below_both q (reads (four_of table 4 (read Part.A s i) (read Part.B s i))) (reads (four_of table 0 (read Part.A s i) (read Part.B s i))) (four_below q table 4 (omega (arith, m))) (four_below q table 0 (omega (arith, m))))

  added_below : (q : ℕ) (t : Bool) → place (Net.Of Part.X s i) < q → Below q (reads (added_expr t s i))
  added_below q true m = (omega (arith, m), (m, (omega (arith, m), tt)))
  added_below q false m = (omega (arith, m), (m, tt))

  sum_below : (q : ℕ) (mode : Mode) (carry : Carry) → place (Net.Of Part.X s i) < q → Below q (reads (sum_expr mode carry s i))
  sum_below q Mode.Plain carry m = (m, tt)
  sum_below q Mode.Sum carry m = added_below q (has_carry_in carry) m
  sum_below q Mode.Zero carry m = (m, tt)

  carry_below : (q : ℕ) (mode : Mode) → place (Net.Of Part.Sum s i) < q → Below q (reads (carry_expr mode s i))
  carry_below q Mode.Plain m = tt
  carry_below q Mode.Sum m = (m, tt)
  carry_below q Mode.Zero m = (omega (arith, m), (omega (arith, m), tt))

  result_below : (q : ℕ) (mode : Mode) → place (Net.Of Part.Sum s i) < q → Below q (reads (result_expr mode s i))
  result_below q Mode.Plain m = (omega (arith, m), tt)
  result_below q Mode.Sum m = (m, tt)
  result_below q Mode.Zero m = (omega (arith, m), tt)

  output_below : (q : ℕ) (mode : Mode) (carry : Carry) (mask : ℕ) → place (Net.Of Part.Sum s i) < q → Below q (reads (output_expr mode carry mask s i))
  output_below q mode carry mask m = go (low_bits mask == 0) (is_bare mode carry mask)
    where
      net_below : (mode : Mode) → place (result_net mode s i) < q
      net_below Mode.Plain = omega (arith, m)
      net_below Mode.Sum = m
      net_below Mode.Zero = omega (arith, m)

      go : (t b : Bool)
          → Below q (reads (if t then (if b then result_expr mode s i else Expr.And (result_expr mode s i) (Expr.Byte mask)) else Expr.Low (result_net mode s i) (low_bits mask)))
      go true true = result_below q mode m
      go true false = below_both q (reads (result_expr mode s i)) [] (result_below q mode m) tt
      go false b = (net_below mode, tt)

  pe_rise : (pe : Pe) → Lawful (site_at N P bus s i) pe → Rise IsWire (s * 2048 + 66 + i * 8) (s * 2048 + 66 + suc i * 8) (pe_wires N s i pe)
  pe_rise pe l = (
    omega arith,
    (refl, source_below pe.a l.a),
    (
      omega arith,
      (refl, b_below (place (Net.Of Part.B s i)) pe.hi pe.lo pe.shift (omega arith) l.hi l.lo),
      (
        omega arith,
        (refl, carry_in_below (place (Net.Of Part.CarryIn s i)) pe.c pe.cin (omega arith) l.c l.cin),
        (
          omega arith,
          (refl, c_below (place (Net.Of Part.C s i)) pe.c (omega arith) l.c),
          (
            omega arith,
            (refl, looked_below (place (Net.Of Part.X s i)) pe.c pe.table (omega arith)),
            (
              omega arith,
              (refl, sum_below (place (Net.Of Part.Sum s i)) pe.mode pe.cin (omega arith)),
              (
                omega arith,
                (refl, carry_below (place (Net.Of Part.Carry s i)) pe.mode (omega arith)),
                (omega arith, (refl, output_below (place (Net.Of Part.Output s i)) pe.mode pe.cin pe.mask (omega arith)), omega arith),
              ),
            ),
          ),
        ),
      ),
    ),
  )

module _ (N P bus : ℕ) (columns : N ≤ 64) (registers : P ≤ 16) where
  pub pes_rise : (s i : ℕ) (pes : List Pe) → are_lawful_pes (site_at N P bus s i) pes ≡ true → Rise IsWire (s * 2048 + 66 + i * 8) (s * 2048 + 66 + (i + length pes) * 8) (pes_wires N s i pes)
  pes_rise s i [] l = omega arith
  pes_rise s i (pe ∷ pes) l =
      let both = and_parts (is_lawful_pe (site_at N P bus s i) pe) (are_lawful_pes (site_at N P bus s (i + 1)) pes) l in
      let rest : are_lawful_pes (site_at N P bus s (suc i)) pes ≡ true = subst (λ n. are_lawful_pes (site_at N P bus s n) pes ≡ true) (let e : i + 1 ≡ suc i = omega arith in e) both.1 in
      rise_both IsWire (s * 2048 + 66 + i * 8) (s * 2048 + 66 + suc i * 8) (s * 2048 + 66 + (i + length (pe ∷ pes)) * 8) (pe_wires N s i pe) (pes_wires N s (suc i) pes)
      (pe_rise N P bus s i columns registers pe (lawful_parts (site_at N P bus s i) pe both.0))
      (rise_to IsWire (s * 2048 + 66 + suc i * 8) (s * 2048 + 66 + (suc i + length pes) * 8) (s * 2048 + 66 + (i + length (pe ∷ pes)) * 8) (pes_wires N s (suc i) pes) (pes_rise s (suc i) pes rest) (omega arith))

  pub stages_rise : (s : ℕ) (stages : List (List Pe)) → AreStages N P bus s stages → Rise IsWire (s * 2048 + 1) ((s + length stages) * 2048 + 1) (stages_wires N s stages)
  stages_rise s [] h = omega arith
  stages_rise s (pes ∷ stages) h =
      let long : length pes ≡ N = h.0.long in
      rise_both IsWire (s * 2048 + 1) (suc s * 2048 + 1) ((s + length (pes ∷ stages)) * 2048 + 1) (pes_wires N s 0 pes) (stages_wires N (suc s) stages)
      (rise_from IsWire (s * 2048 + 1) (s * 2048 + 66 + 0 * 8) (suc s * 2048 + 1) (pes_wires N s 0 pes) (omega arith)
      (rise_to IsWire (s * 2048 + 66 + 0 * 8) (s * 2048 + 66 + (0 + length pes) * 8) (suc s * 2048 + 1) (pes_wires N s 0 pes) (pes_rise s 0 pes h.0.lawful) (omega (arith, long))))
      (rise_to IsWire (suc s * 2048 + 1) ((suc s + length stages) * 2048 + 1) ((s + length (pes ∷ stages)) * 2048 + 1) (stages_wires N (suc s) stages) (stages_rise (suc s) stages h.1) (omega arith))

  -- ---- the registers
  states_rise : (s col : ℕ) (pes : List Pe) → Rise IsRegister (s * 2048 + 2 + col) (s * 2048 + 2 + col + length pes) (state_registers s col pes)
  states_rise s col [] = omega arith
  states_rise s col (pe ∷ pes) = (
    omega arith,
    refl,
    rise_from IsRegister (suc (s * 2048 + 2 + col)) (s * 2048 + 2 + suc col) (s * 2048 + 2 + col + length (pe ∷ pes)) (state_registers s (suc col) pes) (omega arith)
        (rise_to IsRegister (s * 2048 + 2 + suc col) (s * 2048 + 2 + suc col + length pes) (s * 2048 + 2 + col + length (pe ∷ pes)) (state_registers s (suc col) pes) (states_rise s (suc col) pes) (omega arith)),
  )

  passed_rise : (s reg col at : ℕ) (pes : List Pe) → Rise IsRegister (s * 2048 + 578 + at) (s * 2048 + 578 + at + length pes) (passed_registers s reg col at pes)
  passed_rise s reg col at [] = omega arith
  passed_rise s reg col at (pe ∷ pes) = (
    omega arith,
    refl,
    rise_from IsRegister (suc (s * 2048 + 2 + (576 + at))) (s * 2048 + 578 + suc at) (s * 2048 + 578 + at + length (pe ∷ pes)) (passed_registers s reg (suc col) (suc at) pes) (omega arith)
        (rise_to IsRegister (s * 2048 + 578 + suc at) (s * 2048 + 578 + suc at + length pes) (s * 2048 + 578 + at + length (pe ∷ pes)) (passed_registers s reg (suc col) (suc at) pes) (passed_rise s reg (suc col) (suc at) pes) (omega arith)),
  )

  pub rows_rise : (s count : ℕ) (pes : List Pe) → length pes ≡ N → Rise IsRegister (s * 2048 + 578) (s * 2048 + 578 + count * N) (row_registers N s count pes)
  rows_rise s zero pes long = omega arith
  rows_rise s (suc count) pes long =
      let more : suc count * N ≡ count * N + N = omega arith in
      rise_both IsRegister (s * 2048 + 578) (s * 2048 + 578 + count * N) (s * 2048 + 578 + suc count * N) (row_registers N s count pes) (passed_registers s (suc count) 0 (count * N) pes)
      (rows_rise s count pes long)
      (rise_to IsRegister (s * 2048 + 578 + count * N) (s * 2048 + 578 + count * N + length pes) (s * 2048 + 578 + suc count * N) (passed_registers s (suc count) 0 (count * N) pes) (passed_rise s (suc count) 0 (count * N) pes) (omega (arith, long, more)))

  stage_rise : (s : ℕ) (pes : List Pe) → length pes ≡ N → Rise IsRegister (s * 2048 + 1) (suc s * 2048 + 1) (stage_registers N P s pes)
  stage_rise s pes long =
      let most = rows_small N P columns registers in (
        omega arith,
        refl,
        rise_both IsRegister (suc (s * 2048 + 1)) (s * 2048 + 578) (suc s * 2048 + 1) (state_registers s 0 pes) (row_registers N s (P - 1) pes)
            (rise_from IsRegister (suc (s * 2048 + 1)) (s * 2048 + 2 + 0) (s * 2048 + 578) (state_registers s 0 pes) (omega arith)
            (rise_to IsRegister (s * 2048 + 2 + 0) (s * 2048 + 2 + 0 + length pes) (s * 2048 + 578) (state_registers s 0 pes) (states_rise s 0 pes) (omega (arith, long))))
            (rise_to IsRegister (s * 2048 + 578) (s * 2048 + 578 + (P - 1) * N) (suc s * 2048 + 1) (row_registers N s (P - 1) pes) (rows_rise s (P - 1) pes long) (omega (arith, most))),
      )

  pub all_rise : (s : ℕ) (stages : List (List Pe)) → AreStages N P bus s stages → Rise IsRegister (s * 2048 + 1) ((s + length stages) * 2048 + 1) (stages_registers N P s stages)
  all_rise s [] h = omega arith
  all_rise s (pes ∷ stages) h =
      rise_both IsRegister (s * 2048 + 1) (suc s * 2048 + 1) ((s + length (pes ∷ stages)) * 2048 + 1) (stage_registers N P s pes) (stages_registers N P (suc s) stages)
      (stage_rise s pes h.0.long)
      (rise_to IsRegister (suc s * 2048 + 1) ((suc s + length stages) * 2048 + 1) ((s + length (pes ∷ stages)) * 2048 + 1) (stages_registers N P (suc s) stages) (all_rise (suc s) stages h.1) (omega arith))

  taps_rise : (last k : ℕ) (taps : List Tap) → last < 32768 → list_all (is_lawful_tap N P) taps ≡ true → Rise IsWire (67110914 + k) (67110914 + k + length taps) (tap_wires N last k taps)
  taps_rise last k [] few l = omega arith
  taps_rise last k (tap ∷ taps) few l =
      let both = and_parts (is_lawful_tap N P tap) (list_all (is_lawful_tap N P) taps) l in (
        omega arith,
        (refl, tap_below tap both.0),
        rise_from IsWire (suc (67110914 + k)) (67110914 + suc k) (67110914 + k + length (tap ∷ taps)) (tap_wires N last (suc k) taps) (omega arith)
            (rise_to IsWire (67110914 + suc k) (67110914 + suc k + length taps) (67110914 + k + length (tap ∷ taps)) (tap_wires N last (suc k) taps) (taps_rise last (suc k) taps few both.1) (omega arith)),
      )
    where
      tap_below : (tap : Tap) → is_lawful_tap N P tap ≡ true → Below (67110914 + k) (reads (tap_expr N last tap))
      tap_below (Tap.Const b) l = tt
      tap_below (Tap.Reg col reg) l =
          let c : col < N = grind (arith, nat_tests) in
          let r : 0 < reg = grind (arith, nat_tests) in
          let p : reg < P = grind (arith, nat_tests) in
          let at = place_below N P col reg c r p in
          let most = rows_small N P columns registers in
          (omega (arith, at, most, few), tt)

hand_rise : (last : ℕ) → last < 32768 → Rise IsWire 67110912 67110914 (hand_wires last)
hand_rise last few = (omega arith, (refl, (omega arith, (omega arith, tt))), (omega arith, (refl, (omega arith, tt)), omega arith))

pub driven_law : (N P : ℕ) (c : Shape) → IsLawful N P c → has_bytes c ≡ true → IsDriven (module_of N P c)
unfolding module_of
driven_law N P c lawful bytes =
    let are = are_stages N P (bytes_in c.inputs) 0 c.stages lawful.columns lawful.registers lawful.stages (and_parts (list_all have_tap_bytes c.outputs) (list_all (list_all has_pe_bytes) c.stages) bytes).1 in
    let few : last_of c < 32768 = let f = lawful.few in omega (arith, f) in
    let taps = outputs_taps N P c.outputs (and_parts _ (list_all (is_lawful_output N P) c.outputs) lawful.outputs).1 in
    let end = 67110914 + 0 + length (taps_of c) in
    record {
      end = end;
      wires = rise_both IsWire 1 67110912 end (stages_wires N 0 c.stages) (hand_wires (last_of c) ++ tap_wires N (last_of c) 0 (taps_of c))
          (rise_to IsWire 1 ((0 + length c.stages) * 2048 + 1) 67110912 (stages_wires N 0 c.stages) (stages_rise N P (bytes_in c.inputs) lawful.most_columns lawful.most_registers 0 c.stages are) (let f = lawful.few in omega (arith, f)))
          (rise_both IsWire 67110912 67110914 end (hand_wires (last_of c)) (tap_wires N (last_of c) 0 (taps_of c)) (hand_rise (last_of c) few) (taps_rise N P (bytes_in c.inputs) lawful.most_columns lawful.most_registers (last_of c) 0 (taps_of c) few taps));
      registers = rise_to IsRegister 1 ((0 + length c.stages) * 2048 + 1) end (stages_registers N P 0 c.stages) (all_rise N P (bytes_in c.inputs) lawful.most_columns lawful.most_registers 0 c.stages are) (let f = lawful.few in omega (arith, f));
    }

pub driven_end : (N P : ℕ) (c : Shape) (lawful : IsLawful N P c) (bytes : has_bytes c ≡ true) → (driven_law N P c lawful bytes).end ≡ 67110914 + length (taps_of c)
unfolding driven_law
driven_end N P c lawful bytes = omega arith
