-- The slices of the net of flat equations give the bytes of the equations' numbers.
use Rattle.std.proofs.Common.{◌≡◌, ℕ, ◌+◌, ◌<◌, true, List, [], ◌∷◌, length, map, drop, get_or, refl, sym, ap, ap₂, ◌∙◌, subst, arith}
use Rattle.std.specs.List.{All, list_any, list_all, range_with_len}
use Rattle.std.proofs.lemmas.Bool.{and_parts, or_left, or_right, eq-eqb}
use Rattle.std.proofs.lemmas.List.{same_lists, length-map, get_or-map}
use Rattle.std.proofs.lemmas.List.Elements.{All-map}
use Rattle.std.proofs.lemmas.List.FromFn.{length-map-range_with_len, get_or-map-range_with_len}
use Rattle.pr_base.specs.Numbers.{byte_at, slices_of}
use Rattle.pr_base.specs.Rows.{row_bytes}
use Rattle.pr_flat.specs.declared.equations.Operand.{Operand}
use Rattle.pr_flat.specs.Shape.{EquationShape}
use Rattle.pr_flat.specs.Facts.{IsFlat, reads_equation, is_lawful_output}
use Rattle.pr_flat.specs.Widths.{operand_width, AreWidths}
use Rattle.pr_flat.specs.Values.{output_list}
use Rattle.pr_flat.specs.Laws.{AreSamples}
use Rattle.pr_net.specs.declared.cells.Slice.{Slice}
use Rattle.pr_net.specs.Shape.{OutputShape, NetShape}
use Rattle.pr_net.specs.Reading.{slice_byte, shown}
use Rattle.pr_net.specs.Runs.{slice_list}
use Rattle.pr_net.specs.Whole.{net_reading, output_list as net_list}
use Rattle.pr_net.proofs.WholeLaws.{net_bytes}
use Rattle.pr_cut_units.specs.Cells.{slice_at}
use Rattle.pr_cut_units.specs.Equations.{UnitPlan, plan_of, operand_slices, cut_whole}
use Rattle.pr_cut_units.specs.Nets.{output_of, net_of}
use Rattle.pr_cut_units.proofs.AddMeaning.{Bytes}
use Rattle.pr_cut_units.proofs.GoodNets.{good_whole, operand_known}
use Rattle.pr_cut_units.proofs.WideNets.{are_counted, are_wide}
use Rattle.pr_cut_units.proofs.EndNets.{output_long}
use Rattle.pr_cut_units.proofs.NetOf.{net_shows_bytes}
use Rattle.pr_cut_laws.proofs.Shown.{operand_bytes, byte_is}
use Rattle.pr_cut_laws.proofs.Outputs.{net_lists, value_shown}
use Rattle.pr_cut_bytes.specs.Bytes.{byte_lists, slice_lists, EquationsGiveBytes, OutputsGiveBytes}

-- ---- slices of any net that show bytes
module _ (net : NetShape) (samples : List (List ℕ)) (xs : List Slice) (bytes : (n : ℕ) → Bytes (net_reading net samples n) xs) where
  -- one slice, at the samples of these numbers
  one_list : (i : ℕ) (ns : List ℕ) → map (λ n. slice_byte (net_reading net samples n) (slice_at xs i)) ns ≡ map (λ m. byte_at m i) (map (λ n. shown (net_reading net samples n) xs) ns)
  one_list i [] = refl
  one_list i (n ∷ ns) = ap₂ (λ (b : ℕ) (bs : List ℕ). b ∷ bs) (byte_is (net_reading net samples n) xs i (bytes n)) (one_list i ns)

  -- all slices
  slices_give : (w : ℕ) → length xs ≡ slices_of w → slice_lists net samples xs ≡ byte_lists w (map (λ n. shown (net_reading net samples n) xs) (range_with_len 0 (length samples)))
  slices_give w long =
      let range = range_with_len 0 (length samples) in
      let list : Slice → List ℕ = slice_list net.units (map (row_bytes net.inputs) samples) in
      let byte_list : ℕ → List ℕ = λ i. map (λ m. byte_at m i) (map (λ n. shown (net_reading net samples n) xs) range) in
      let size : length (map list xs) ≡ length xs = length-map xs list in
      let count : length (map byte_list (range_with_len 0 (slices_of w))) ≡ slices_of w = length-map-range_with_len byte_list 0 (slices_of w) in
      same_lists (map list xs) (map byte_list (range_with_len 0 (slices_of w))) (size ∙ (long ∙ sym count)) (λ i d low. (
      let inside : i < length xs = omega (arith, low, size) in
      let below : i < slices_of w = omega (arith, inside, long) in
      let z : 0 + i ≡ i = omega arith in
      get_or-map list xs i (Slice.Const 0) d inside
      ∙ (ap (λ (k : ℕ). map (λ n. slice_byte (net_reading net samples n) (slice_at xs i)) (range_with_len 0 k)) (length-map samples (row_bytes net.inputs))
      ∙ (one_list i range
      ∙ sym (get_or-map-range_with_len byte_list 0 (slices_of w) i i d below z)))))

-- ---- the net of flat equations
module _ (equations : List EquationShape) (outputs : List Operand) (widths : List ℕ) (samples : List (List ℕ)) (flat : IsFlat equations outputs) (wide : AreWidths equations widths) where
  abbrev plan : UnitPlan
  plan = plan_of equations widths outputs

  -- what an operand names shows bytes
  operand_shows : (a : Operand) (n : ℕ) → Bytes (net_reading (net_of equations widths outputs) samples n) (operand_slices plan (cut_whole plan).values a)
  operand_shows a n =
      let good = good_whole plan (are_wide equations outputs widths flat wide) in
      let count = length (cut_whole plan).units in
      let net = net_of equations widths outputs in
      operand_bytes (net_reading net samples n) count (operand_slices plan (cut_whole plan).values a) (net_bytes net samples n (net_shows_bytes equations widths outputs flat wide)) (operand_known plan (cut_whole plan).values count a good.values)

  pub equations_give : AreSamples equations samples → EquationsGiveBytes equations widths outputs samples
  equations_give rows i e there made =
      let is = value_shown equations outputs widths samples i e flat wide rows there made in
      slices_give (net_of equations widths outputs) samples (operand_slices plan (cut_whole plan).values (Operand.Eq i)) (operand_shows (Operand.Eq i)) (get_or widths i 0) is.bytes
      ∙ ap (byte_lists (get_or widths i 0)) is.list

  -- the outputs from one on
  outputs_from : (rest : List Operand) → list_all (is_lawful_output (length equations)) rest ≡ true → ((t : ℕ) → list_any (reads_equation t) rest ≡ true → list_any (reads_equation t) outputs ≡ true)
      → map (net_list (net_of equations widths outputs) samples) (map (output_of plan (cut_whole plan).values) rest) ≡ map (output_list equations widths samples) rest
      → map (λ (o : OutputShape). slice_lists (net_of equations widths outputs) samples o.slices) (map (output_of plan (cut_whole plan).values) rest) ≡ map (λ a. byte_lists (operand_width widths a) (output_list equations widths samples a)) rest
  outputs_from [] lawful reads is = refl
  outputs_from (a ∷ rest) lawful reads is =
      let both = and_parts (is_lawful_output (length equations) a) (list_all (is_lawful_output (length equations)) rest) lawful in
      let own : (t : ℕ) → a ≡ Operand.Eq t → list_any (reads_equation t) outputs ≡ true =
      λ t e. reads t (or_left (reads_equation t a) (list_any (reads_equation t) rest) (subst (λ (q : Operand). reads_equation t q ≡ true) (sym e) (eq-eqb t t refl))) in
      let long = output_long equations outputs widths (are_counted equations outputs widths flat wide) a both.0 own in
      ap₂ (λ (x : List (List ℕ)) (xs : List (List (List ℕ))). x ∷ xs)
      (slices_give (net_of equations widths outputs) samples (operand_slices plan (cut_whole plan).values a) (operand_shows a) (operand_width widths a) long ∙ ap (λ (l : List (List ℕ)). byte_lists (operand_width widths a) (get_or l 0 [])) is)
      (outputs_from rest both.1 (λ t h. reads t (or_right (reads_equation t a) (list_any (reads_equation t) rest) h)) (ap (λ (l : List (List ℕ)). drop 1 l) is))

  pub outputs_give : AreSamples equations samples → OutputsGiveBytes equations widths outputs samples
  unfolding net_of
  outputs_give rows = outputs_from outputs flat.given (λ t h. h) (net_lists equations outputs widths samples flat wide rows)

-- ---- bytes
pub bytes_small : (w : ℕ) (numbers : List ℕ) → All (All (λ b. b < 256)) (byte_lists w numbers)
bytes_small w numbers =
    All-map (All (λ b. b < 256)) (λ i. map (λ n. byte_at n i) numbers) (range_with_len 0 (slices_of w)) (λ k d low.
    All-map (λ b. b < 256) (λ n. byte_at n (get_or (range_with_len 0 (slices_of w)) k d)) numbers (λ j e less. omega arith))
