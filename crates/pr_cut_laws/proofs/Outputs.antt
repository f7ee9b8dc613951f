-- The lists of the net's outputs are those of the equations.
use Rattle.std.proofs.Common.{ℕ, suc, ◌≡◌, ◌+◌, ◌^◌, ◌<◌, true, Some, List, [], ◌∷◌, length, map, get_or, refl, ap, ap₂, sym, ◌∙◌, arith}
use Rattle.std.specs.List.{slice_get, list_any, list_all, range_with_len}
use Rattle.std.proofs.lemmas.Bool.{and_parts, ltb-true, eq-eqb}
use Rattle.pr_base.specs.Rows.{IsRow, row_bytes}
use Rattle.pr_flat.specs.declared.equations.Operand.{Operand}
use Rattle.pr_flat.specs.Shape.{EquationShape}
use Rattle.pr_flat.specs.Facts.{IsFlat, reads_equation, is_lawful_output}
use Rattle.pr_flat.specs.Widths.{AreWidths}
use Rattle.pr_flat.specs.Values.{input_widths, row_of, rows_after, rows_of, operand_number, output_list}
use Rattle.pr_flat.proofs.WidthLemmas.{equation_at}
use Rattle.pr_net.specs.Reading.{shown}
use Rattle.pr_net.specs.Runs.{AreBytes, reading_at}
use Rattle.pr_net.specs.Whole.{output_list as net_list}
use Rattle.pr_net.proofs.RunsLemmas.{function_bytes}
use Rattle.pr_cut_units.specs.Equations.{UnitPlan, plan_of, has_units, operand_slices, cut_whole}
use Rattle.pr_cut_units.specs.Nets.{output_of, net_of}
use Rattle.pr_cut_units.proofs.GoodNets.{good_whole}
use Rattle.pr_cut_laws.proofs.Histories.{history, row_at}
use Rattle.pr_cut_laws.proofs.Whole.{const_is}
use Rattle.pr_cut_units.proofs.WideNets.{are_counted}
use Rattle.pr_cut_units.proofs.EndNets.{value_long}
use Rattle.pr_flat.specs.Laws.{AreSamples}
use Rattle.pr_cut_laws.specs.Laws.{IsShown}
use Rattle.pr_cut_laws.proofs.Lawful.{all_wide, HasUnits}
use Rattle.pr_cut_laws.proofs.Closed.{operand_counts, counts_at, or_left, or_right}
use Rattle.pr_cut_laws.proofs.Meaning.{samples_small, lawful_cut_shows}

-- a list by samples is one by rows
lists_from : (equations : List EquationShape) (widths : List ℕ) (all : List (List ℕ)) (m : ℕ) (samples : List (List ℕ)) (F : ℕ → ℕ) (G : List ℕ → ℕ) → ((k : ℕ) → get_or all (m + k) [] ≡ get_or samples k []) → ((n : ℕ) → F n ≡ G (row_at equations widths all n)) → map F (range_with_len m (length samples)) ≡ map G (rows_after equations widths (history equations widths all m) samples)
lists_from equations widths all m [] F G same h = refl
lists_from equations widths all m (s ∷ samples) F G same h =
    let z : m + 0 ≡ m = omega arith in
    let e : get_or all m [] ≡ s = ap (λ (k : ℕ). get_or all k []) (sym z) ∙ same 0 in
    let row : List ℕ = row_of equations widths (history equations widths all m) s in
    let one : m + 1 ≡ suc m = omega arith in
    let hist : history equations widths all (m + 1) ≡ row ∷ history equations widths all m = ap (history equations widths all) one ∙ ap (λ (x : List ℕ). row_of equations widths (history equations widths all m) x ∷ history equations widths all m) e in
    let up : (k : ℕ) → (m + 1) + k ≡ m + suc k = λ k. omega arith in
    let ih = lists_from equations widths all (m + 1) samples F G (λ k. ap (λ (j : ℕ). get_or all j []) (up k) ∙ same (suc k)) h in
    ap₂ (λ (x : ℕ) (xs : List ℕ). x ∷ xs) (h m ∙ ap (λ (x : List ℕ). G (row_of equations widths (history equations widths all m) x)) e) (ih ∙ ap (λ (b : List (List ℕ)). map G (rows_after equations widths b samples)) hist)

lists_are : (equations : List EquationShape) (widths : List ℕ) (samples : List (List ℕ)) (F : ℕ → ℕ) (G : List ℕ → ℕ) → ((n : ℕ) → F n ≡ G (row_at equations widths samples n)) → map F (range_with_len 0 (length samples)) ≡ map G (rows_of equations widths samples)
lists_are equations widths samples F G h = lists_from equations widths samples 0 samples F G (λ k. (let z : 0 + k ≡ k = omega arith in ap (λ (j : ℕ). get_or samples j []) z)) h

-- an output's slices show its number at every sample
output_shows : (equations : List EquationShape) (outputs : List Operand) (widths : List ℕ) (samples : List (List ℕ)) → IsFlat equations outputs → AreWidths equations widths → ((n : ℕ) (sample : List ℕ) → slice_get samples n ≡ Some sample → IsRow (input_widths equations) sample) → (o : Operand) → is_lawful_output (length equations) o ≡ true → ((t : ℕ) → reads_equation t o ≡ true → list_any (reads_equation t) outputs ≡ true) → (n : ℕ) → shown (reading_at (cut_whole (plan_of equations widths outputs)).units (map (row_bytes (input_widths equations)) samples) n) (operand_slices (plan_of equations widths outputs) (cut_whole (plan_of equations widths outputs)).values o) ≡ operand_number equations [] (row_at equations widths samples n) o
output_shows equations outputs widths samples flat all rows (Operand.Const c) lawful reads n =
    let plan : UnitPlan = plan_of equations widths outputs in
    let good = good_whole plan (all_wide equations outputs widths flat all) in
    let b : AreBytes (reading_at (cut_whole plan).units (map (row_bytes (input_widths equations)) samples) n) = function_bytes (cut_whole plan).units (map (row_bytes (input_widths equations)) samples) n good.bytes (samples_small (input_widths equations) samples) in
    (const_is (reading_at (cut_whole plan).units (map (row_bytes (input_widths equations)) samples) n) c b (ltb-true c (2 ^ 64) lawful)).is
output_shows equations outputs widths samples flat all rows (Operand.Eq t) lawful reads n =
    let less : t < length equations = ltb-true t (length equations) lawful in
    let found = equation_at equations t less in
    let z : t ≡ 0 + t = omega arith in
    let head : list_any (reads_equation (0 + t)) outputs ≡ true = ap (λ (k : ℕ). list_any (reads_equation k) outputs) (sym z) ∙ reads t (eq-eqb t t refl) in
    let made = counts_at equations outputs widths t (operand_counts outputs 0 equations t less head) in
    (lawful_cut_shows equations outputs widths samples flat all rows n t found.0 found.1 made).is
output_shows equations outputs widths samples flat all rows (Operand.Past rec k) lawful reads n = absurd (grind (arith, lawful))

outputs_from : (equations : List EquationShape) (outputs : List Operand) (widths : List ℕ) (samples : List (List ℕ)) → IsFlat equations outputs → AreWidths equations widths → ((n : ℕ) (sample : List ℕ) → slice_get samples n ≡ Some sample → IsRow (input_widths equations) sample) → (xs : List Operand) → list_all (is_lawful_output (length equations)) xs ≡ true → ((t : ℕ) → list_any (reads_equation t) xs ≡ true → list_any (reads_equation t) outputs ≡ true) → map (net_list (net_of equations widths outputs) samples) (map (output_of (plan_of equations widths outputs) (cut_whole (plan_of equations widths outputs)).values) xs) ≡ map (output_list equations widths samples) xs
unfolding net_of
outputs_from equations outputs widths samples flat all rows [] lawful reads = refl
outputs_from equations outputs widths samples flat all rows (o ∷ xs) lawful reads =
    let both = and_parts (is_lawful_output (length equations) o) (list_all (is_lawful_output (length equations)) xs) lawful in
    ap₂ (λ (x : List ℕ) (rest : List (List ℕ)). x ∷ rest)
    (lists_are equations widths samples (λ n. shown (reading_at (cut_whole (plan_of equations widths outputs)).units (map (row_bytes (input_widths equations)) samples) n) (operand_slices (plan_of equations widths outputs) (cut_whole (plan_of equations widths outputs)).values o)) (λ row. operand_number equations [] row o) (output_shows equations outputs widths samples flat all rows o both.0 (λ t h. reads t (or_left (reads_equation t o) (list_any (reads_equation t) xs) h))))
    (outputs_from equations outputs widths samples flat all rows xs both.1 (λ t h. reads t (or_right (reads_equation t o) (list_any (reads_equation t) xs) h)))

-- the main theorem: the lists of the net's outputs are those of the equations
pub net_lists : (equations : List EquationShape) (outputs : List Operand) (widths : List ℕ) (samples : List (List ℕ)) → IsFlat equations outputs → AreWidths equations widths → ((n : ℕ) (sample : List ℕ) → slice_get samples n ≡ Some sample → IsRow (input_widths equations) sample) → map (net_list (net_of equations widths outputs) samples) (net_of equations widths outputs).outputs ≡ map (output_list equations widths samples) outputs
unfolding net_of
net_lists equations outputs widths samples flat all rows = outputs_from equations outputs widths samples flat all rows outputs flat.given (λ t h. h)

-- the slices of each equation that has units show its list
pub value_shown : (equations : List EquationShape) (outputs : List Operand) (widths : List ℕ) (samples : List (List ℕ)) (i : ℕ) (e : EquationShape) → IsFlat equations outputs → AreWidths equations widths → AreSamples equations samples → slice_get equations i ≡ Some e → has_units (plan_of equations widths outputs) i e ≡ true → IsShown equations widths outputs samples i
unfolding net_of
value_shown equations outputs widths samples i e flat all rows there made =
    let has : HasUnits (plan_of equations widths outputs) i = λ d at. (let same : e ≡ d = cc in ap (λ (x : EquationShape). has_units (plan_of equations widths outputs) i x) (sym same) ∙ made) in
    let shows = λ (n : ℕ). lawful_cut_shows equations outputs widths samples flat all rows n i e there has in
    record {
      bytes = value_long equations outputs widths (are_counted equations outputs widths flat all) i e there made;
      list = lists_are equations widths samples (λ n. shown (reading_at (cut_whole (plan_of equations widths outputs)).units (map (row_bytes (input_widths equations)) samples) n) (get_or (cut_whole (plan_of equations widths outputs)).values i [])) (λ row. get_or row i 0) (λ n. (shows n).is);
    }
