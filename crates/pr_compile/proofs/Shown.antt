-- The configuration of equations keeps every rule of the fabric, and its results are the rows of the equations' outputs.
use Rattle.std.proofs.Common.{◌≡◌, ◌+◌, ◌<◌, ◌≤◌, ℕ, Some, List, [], ◌∷◌, length, map, get_or, refl, sym, ap, ap₂, ◌∙◌, subst, arith}
use Rattle.std.specs.List.{slice_get, range_with_len}
use Rattle.std.proofs.lemmas.List.{same_lists, length-map, get_or-map}
use Rattle.std.proofs.lemmas.Simd.{map-map}
use Rattle.std.proofs.lemmas.List.FromFn.{length-map-range_with_len, get_or-map-range_with_len}
use Rattle.pr_base.specs.Rows.{IsRow, row_bytes}
use Rattle.pr_flat.specs.declared.equations.Operand.{Operand}
use Rattle.pr_flat.specs.Shape.{EquationShape}
use Rattle.pr_flat.specs.Widths.{operand_width}
use Rattle.pr_flat.specs.Values.{input_widths, rows_of, operand_number}
use Rattle.pr_flat.proofs.ValueLemmas.{length-rows_after}
use Rattle.pr_net.specs.Shape.{OutputShape}
use Rattle.pr_net.specs.Reading.{shown}
use Rattle.pr_net.specs.Whole.{net_reading, output_row, widths_of}
use Rattle.pr_cut_units.specs.Equations.{plan_of, cut_whole}
use Rattle.pr_cut_units.specs.Nets.{output_of, net_of}
use Rattle.pr_cut_units.proofs.NetOf.{net_shows_bytes}
use Rattle.pr_cut_units.proofs.StartNets.{are_lawful}
use Rattle.pr_cut_laws.proofs.Outputs.{net_lists}
use Rattle.pr_place.proofs.Soundness.{soundness}
use Rattle.pr_place.proofs.Stages.{few_stages}
use Rattle.pr_conf.specs.Rules.{IsLawful}
use Rattle.pr_conf.specs.Shape.{Shape}
use Rattle.pr_conf.specs.Through.{results_of, result_numbers, output_widths}
use Rattle.pr_route.specs.Conf.{conf_of, taps_of}
use Rattle.pr_route.specs.Lists.{IsPlaced}
use Rattle.pr_route.proofs.Lawful.{conf_lawful}
use Rattle.pr_route.proofs.ShownLists.{numbers_are, bytes_are}
use Rattle.pr_compile.specs.Configured.{IsConfigured}

-- ---- rows and columns
tail : List (List ℕ) → List (List ℕ)
tail [] = []
tail (x ∷ xs) = xs

-- one row of columns that are alike
row_alike : {O Q : Type 0} (F : ℕ → O → ℕ) (G : List ℕ → Q → ℕ) (m : ℕ) (rows : List (List ℕ)) → length rows ≡ m → (n : ℕ) → n < m → (os : List O) (qs : List Q)
    → map (λ o. map (λ k. F k o) (range_with_len 0 m)) os ≡ map (λ q. map (λ row. G row q) rows) qs → map (F n) os ≡ map (G (get_or rows n [])) qs
unfolding tail
row_alike F G m rows long n low [] [] e = refl
row_alike F G m rows long n low [] (q ∷ qs) e = absurd (cc)
row_alike F G m rows long n low (o ∷ os) [] e = absurd (cc)
row_alike F G m rows long n low (o ∷ os) (q ∷ qs) e =
    let z : 0 + n ≡ n = omega arith in
    let head : map (λ k. F k o) (range_with_len 0 m) ≡ map (λ row. G row q) rows = ap (λ (l : List (List ℕ)). get_or l 0 []) e in
    let one : F n o ≡ G (get_or rows n []) q =
    sym (get_or-map-range_with_len (λ k. F k o) 0 m n n 0 low z) ∙ (ap (λ (l : List ℕ). get_or l n 0) head ∙ get_or-map (λ (row : List ℕ). G row q) rows n [] 0 (omega (arith, low, long))) in
    ap₂ (λ (x : ℕ) (xs : List ℕ). x ∷ xs) one (row_alike F G m rows long n low os qs (ap tail e))

-- all rows
rows_alike : {O Q : Type 0} (F : ℕ → O → ℕ) (G : List ℕ → Q → ℕ) (m : ℕ) (rows : List (List ℕ)) → length rows ≡ m → (os : List O) (qs : List Q)
    → map (λ o. map (λ k. F k o) (range_with_len 0 m)) os ≡ map (λ q. map (λ row. G row q) rows) qs → map (λ n. map (F n) os) (range_with_len 0 m) ≡ map (λ row. map (G row) qs) rows
rows_alike F G m rows long os qs e =
    let by_number : ℕ → List ℕ = λ n. map (F n) os in
    let by_row : List ℕ → List ℕ = λ row. map (G row) qs in
    let count : length (map by_number (range_with_len 0 m)) ≡ m = length-map-range_with_len by_number 0 m in
    same_lists (map by_number (range_with_len 0 m)) (map by_row rows) (count ∙ (sym long ∙ sym (length-map rows by_row))) (λ n d low. (
    let below : n < m = omega (arith, low, count) in
    let z : 0 + n ≡ n = omega arith in
    get_or-map-range_with_len by_number 0 m n n d below z ∙ (row_alike F G m rows long n below os qs e ∙ sym (get_or-map by_row rows n [] d (omega (arith, below, long))))))

-- ---- the configuration
module _ (N P : ℕ) (equations : List EquationShape) (widths : List ℕ) (outputs : List Operand) (conf : Shape) (c : IsConfigured N P equations widths outputs conf) where
  placed : 2 ≤ P → IsPlaced N P (net_of equations widths outputs) c.placement
  placed registers = record { net_is = are_lawful N equations widths outputs c.flat c.widths_are c.within; registers = registers; greedy = c.greedy }

  -- it keeps every rule of the fabric
  pub configured_lawful : 1 ≤ N → N ≤ 64 → 2 ≤ P → P ≤ 16 → IsLawful N P conf
  configured_lawful columns most_columns registers most_registers =
      let net = net_of equations widths outputs in
      let n = are_lawful N equations widths outputs c.flat c.widths_are c.within in
      let few = n.few_groups in
      let stages = few_stages N P net c.placement c.greedy in
      subst (IsLawful N P) (sym c.is) (conf_lawful N P net c.placement columns most_columns registers most_registers n (soundness N P net c.placement n registers c.greedy) (omega (arith, few, stages)))

  -- its inputs are those of the equations
  pub configured_inputs : conf.inputs ≡ input_widths equations
  unfolding net_of
  configured_inputs = ap (λ (k : Shape). k.inputs) c.is

  -- it has the widths of the outputs
  pub configured_widths : output_widths conf ≡ map (operand_width widths) outputs
  unfolding net_of
  configured_widths =
      ap output_widths c.is
      ∙ (map-map (λ o. o.width) (taps_of c.placement) (net_of equations widths outputs).outputs
      ∙ map-map (λ o. o.width) (output_of (plan_of equations widths outputs) (cut_whole (plan_of equations widths outputs)).values) outputs)

  -- for every list of samples its results are the rows of the outputs
  pub configured_numbers : (samples : List (List ℕ)) → 2 ≤ P → ((n : ℕ) (sample : List ℕ) → slice_get samples n ≡ Some sample → IsRow (input_widths equations) sample)
      → result_numbers N P conf (map (row_bytes conf.inputs) samples) ≡ map (λ row. map (operand_number equations [] row) outputs) (rows_of equations widths samples)
  configured_numbers samples registers rows = subst (λ (k : Shape). result_numbers N P k (map (row_bytes k.inputs) samples) ≡ map (λ row. map (operand_number equations [] row) outputs) (rows_of equations widths samples)) (sym c.is) (
      let net = net_of equations widths outputs in
      numbers_are N P net c.placement samples (placed registers)
      ∙ rows_alike (λ n (o : OutputShape). shown (net_reading net samples n) o.slices) (λ row q. operand_number equations [] row q) (length samples) (rows_of equations widths samples) (length-rows_after equations widths [] samples) net.outputs outputs (net_lists equations outputs widths samples c.flat c.widths_are rows))

  -- and as bytes they are those of these numbers
  pub configured_bytes : (samples : List (List ℕ)) → 2 ≤ P → ((n : ℕ) (sample : List ℕ) → slice_get samples n ≡ Some sample → IsRow (input_widths equations) sample)
      → results_of N P conf (map (row_bytes conf.inputs) samples) ≡ map (row_bytes (output_widths conf)) (map (λ row. map (operand_number equations [] row) outputs) (rows_of equations widths samples))
  configured_bytes samples registers rows =
      let net = net_of equations widths outputs in
      let wide : output_widths (conf_of N net c.placement) ≡ widths_of net.outputs = map-map (λ o. o.width) (taps_of c.placement) net.outputs in
      subst (λ (k : Shape). results_of N P k (map (row_bytes k.inputs) samples) ≡ map (row_bytes (output_widths k)) (map (λ row. map (operand_number equations [] row) outputs) (rows_of equations widths samples))) (sym c.is) (
      bytes_are N P net c.placement samples (placed registers) (net_shows_bytes equations widths outputs c.flat c.widths_are)
      ∙ (sym (map-map (row_bytes (widths_of net.outputs)) (output_row net samples) (range_with_len 0 (length samples)))
      ∙ ap₂ (λ (ws : List ℕ) (rows : List (List ℕ)). map (row_bytes ws) rows) (sym wide) (
      rows_alike (λ n (o : OutputShape). shown (net_reading net samples n) o.slices) (λ row q. operand_number equations [] row q) (length samples) (rows_of equations widths samples) (length-rows_after equations widths [] samples) net.outputs outputs (net_lists equations outputs widths samples c.flat c.widths_are rows))))
