-- A program's outputs have the lists, and so the rows, of what it means.
use Rattle.std.proofs.Common.{◌≡◌, ◌∙◌, ◌<◌, ℕ, true, List, [], ◌∷◌, map, length, get_or, Some, None, option_map, refl, sym, ap, subst, arith}
use Rattle.std.specs.List.{AllZip, list_all}
use Rattle.std.specs.Option.{unwrap_or}
use Rattle.std.proofs.lemmas.Bool.{and_parts}
use Rattle.std.proofs.lemmas.Grind.{same_number_lists}
use Rattle.std.proofs.lemmas.Option.{get_or_from_slice_get, slice_get-get_or, slice_get-map}
use Rattle.std.proofs.lemmas.List.{length-map, same_lists}
use Rattle.std.proofs.lemmas.List.FromFn.{length-map-range_with_len, get_or-map-range_with_len}
use Rattle.pr_base.specs.Rows.{IsRow}
use Rattle.pr_lang.specs.declared.trees.Program.{Program}
use Rattle.pr_scope.specs.Walk as scope
use Rattle.pr_flat.specs.declared.equations.Operand.{Operand}
use Rattle.pr_flat.specs.declared.equations.Operand.TheVariants.{Const, Eq, Past}
use Rattle.pr_flat.specs.Forms.{Stream}
use Rattle.pr_flat.specs.Shape.{EquationShape}
use Rattle.pr_flat.specs.Facts.{IsFlat, is_lawful_output}
use Rattle.pr_flat.specs.Widths.{AreWidths}
use Rattle.pr_flat.specs.Values.{operand_number, output_list, rows_of}
use Rattle.pr_flat.proofs.ValueLemmas.{length-rows_after}
use Rattle.pr_lang_meaning.specs.Programs as meant
use Rattle.pr_lang_meaning.specs.Programs.{out, streams_of}
use Rattle.pr_lang_meaning.proofs.Pairs.{each-map}
use Rattle.pr_expand_spec.specs.Programs.{equations_of}
use Rattle.pr_scope_facts.proofs.Inputs.{inputs-of-equations}
use Rattle.pr_expand_correct.specs.Results.{AreSamples, HasLists, IsListOf, output_rows}
use Rattle.pr_expand_correct.proofs.AgreedPrograms.{have-widths}
use Rattle.pr_expand_correct.proofs.NumberRuns.{number_at, run_of, is_run}
use Rattle.pr_expand_correct.proofs.NumberPrograms.{IsResult, program-results}

-- ---- one output
output-number : (equations : List EquationShape) (widths : List ℕ) (xs : List (List ℕ)) (n j : ℕ) (o : Operand) → is_lawful_output n o ≡ true → number_at (run_of equations widths xs) j o ≡ operand_number equations [] (get_or (rows_of equations widths xs) j []) o
output-number equations widths xs n j (Const c) lawful = refl
output-number equations widths xs n j (Eq i) lawful = refl
output-number equations widths xs n j (Past rec k) lawful = cc

-- an output whose stream is known
record IsOutput (equations : List EquationShape) (widths : List ℕ) (xs : List (List ℕ)) (o : Operand) (s : Stream) : Type 0 where
  count : length s.numbers ≡ length xs
  each : (j : ℕ) → j < length xs → get_or s.numbers j 0 ≡ operand_number equations [] (get_or (rows_of equations widths xs) j []) o

outputs-are : (equations : List EquationShape) (widths : List ℕ) (xs : List (List ℕ)) (n : ℕ) (os : List Operand) (ss : List Stream) → list_all (is_lawful_output n) os ≡ true → AllZip (IsResult (run_of equations widths xs)) os ss → AllZip (IsOutput equations widths xs) os ss
outputs-are equations widths xs n [] [] lawful results = tt
outputs-are equations widths xs n [] (s ∷ ss) lawful results = absurd results
outputs-are equations widths xs n (o ∷ os) [] lawful results = absurd results
outputs-are equations widths xs n (o ∷ os) (s ∷ ss) lawful results =
    let both = and_parts (is_lawful_output n o) (list_all (is_lawful_output n) os) lawful in
    (record { count = results.0.count; each = λ j low. results.0.each j low ∙ output-number equations widths xs n j o both.0 }, outputs-are equations widths xs n os ss both.1 results.1)

count-rows : (equations : List EquationShape) (widths : List ℕ) (xs : List (List ℕ)) → length (rows_of equations widths xs) ≡ length xs
count-rows equations widths xs = length-rows_after equations widths [] xs

-- an element of a list that is mapped
mapped-at : {A B : Type 0} (f : A → B) (xs : List A) (i : ℕ) (d : B) (e : A) → i < length xs → get_or (map f xs) i d ≡ f (get_or xs i e)
mapped-at f xs i d e low = get_or_from_slice_get (map f xs) i (f (get_or xs i e)) d (slice_get-map f xs i ∙ ap (option_map f) (slice_get-get_or xs i e low))

list-is : (equations : List EquationShape) (widths : List ℕ) (xs : List (List ℕ)) (o : Operand) (s : Stream) → IsOutput equations widths xs o s → IsListOf equations widths xs o s
list-is equations widths xs o s is =
    let rows = rows_of equations widths xs in
    same_number_lists s.numbers (output_list equations widths xs o) (is.count ∙ sym (length-map rows (λ row. operand_number equations [] row o) ∙ count-rows equations widths xs)) (λ j low.
    let within : j < length xs = omega (arith, low, is.count) in
    let there : j < length rows = omega (arith, within, count-rows equations widths xs) in
    is.each j within ∙ sym (mapped-at (λ (row : List ℕ). operand_number equations [] row o) rows j 0 [] there))

lists-are : (equations : List EquationShape) (widths : List ℕ) (xs : List (List ℕ)) (os : List Operand) (ss : List Stream) → AllZip (IsOutput equations widths xs) os ss → AllZip (IsListOf equations widths xs) os ss
lists-are equations widths xs [] [] all = tt
lists-are equations widths xs [] (s ∷ ss) all = absurd all
lists-are equations widths xs (o ∷ os) [] all = absurd all
lists-are equations widths xs (o ∷ os) (s ∷ ss) all = (list-is equations widths xs o s all.0, lists-are equations widths xs os ss all.1)

-- ---- the laws
-- the outputs' streams
record HasOutputs (program : Program) (widths : List ℕ) (xs : List (List ℕ)) : Type 0 where
  streams : List Stream
  are : streams_of program xs ≡ Some streams
  outputs : AllZip (IsOutput (equations_of program).equations widths xs) (equations_of program).outputs streams

has-outputs : (program : Program) (widths : List ℕ) (xs : List (List ℕ)) → scope.offence program ≡ None → IsFlat (equations_of program).equations (equations_of program).outputs → AreWidths (equations_of program).equations widths → AreSamples program xs → HasOutputs program widths xs
has-outputs program widths xs none flat are samples =
    let es = (equations_of program).equations in
    let os = (equations_of program).outputs in
    let run = is_run es os widths xs flat are (λ n sample there. subst (λ ws. IsRow ws sample) (sym (inputs-of-equations program none)) (samples n sample there)) in
    let has = program-results (run_of es widths xs) program none refl run (have-widths es widths are) in
    record { streams = has.streams; are = has.are; outputs = outputs-are es widths xs (length es) os has.streams flat.given has.results }

pub streams-have_lists : (program : Program) (widths : List ℕ) (xs : List (List ℕ)) → scope.offence program ≡ None → IsFlat (equations_of program).equations (equations_of program).outputs → AreWidths (equations_of program).equations widths → AreSamples program xs → HasLists program widths xs
streams-have_lists program widths xs none flat are samples =
    let has = has-outputs program widths xs none flat are samples in
    record { streams = has.streams; are = has.are; lists = lists-are (equations_of program).equations widths xs (equations_of program).outputs has.streams has.outputs }

pub out-is : (program : Program) (widths : List ℕ) (xs : List (List ℕ)) → scope.offence program ≡ None → IsFlat (equations_of program).equations (equations_of program).outputs → AreWidths (equations_of program).equations widths → AreSamples program xs → out program xs ≡ output_rows (equations_of program).equations (equations_of program).outputs widths xs
out-is program widths xs none flat are samples =
    let es = (equations_of program).equations in
    let os = (equations_of program).outputs in
    let rows = rows_of es widths xs in
    let m = length xs in
    let has = has-outputs program widths xs none flat are samples in
    let meant_row : ℕ → List ℕ = λ n. map (λ (s : Stream). get_or s.numbers n 0) has.streams in
    let given_row : List ℕ → List ℕ = λ row. map (operand_number es [] row) os in
    ap (λ o. meant.rows_of m (unwrap_or o [])) has.are
    ∙ same_lists (meant.rows_of m has.streams) (output_rows es os widths xs) (length-map-range_with_len meant_row 0 m ∙ sym (length-map rows given_row ∙ count-rows es widths xs)) (λ n d low.
    let within : n < m = omega (arith, low, length-map-range_with_len meant_row 0 m) in
    get_or-map-range_with_len meant_row 0 m n n d within (omega arith)
    ∙ sym (each-map (IsOutput es widths xs) (operand_number es [] (get_or rows n [])) (λ (s : Stream). get_or s.numbers n 0) (λ o s is. sym (is.each n within)) os has.streams has.outputs)
    ∙ sym (mapped-at given_row rows n d [] (omega (arith, within, count-rows es widths xs))))
