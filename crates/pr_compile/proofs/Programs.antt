-- The configuration of a program does what the program means, narrowed or not, and so for each program of a text.
use Rattle.std.proofs.Common.{◌≡◌, ◌≤◌, ℕ, Bool, true, false, Some, None, option_map, List, [], ◌∷◌, length, map, All, refl, sym, ap, ap₂, ◌∙◌, subst, arith}
use Rattle.std.specs.List.{slice_get, AllZip}
use Rattle.std.proofs.lemmas.Option.{slice_get_within, get_or_from_slice_get}
use Rattle.std.proofs.lemmas.List.Elements.{All-get_or}
use Rattle.pr_base.specs.Rows.{IsRow, row_bytes}
use Rattle.pr_lang.specs.declared.trees.Program.{Program}
use Rattle.pr_lang_same_tree.proofs.Makings.{same-equations}
use Rattle.pr_scope.specs.Walk.{start, inputs_after, program_walk, offence}
use Rattle.pr_scope_facts.specs.Items.{widths_of_inputs}
use Rattle.pr_scope_facts.proofs.InvertedItems.{program-inverted, inputs-walked}
use Rattle.pr_scope_facts.proofs.Inputs.{inputs-of-equations}
use Rattle.pr_flat.specs.declared.equations.Operand.{Operand}
use Rattle.pr_flat.specs.Forms.{Stream}
use Rattle.pr_flat.specs.Shape.{EquationShape}
use Rattle.pr_flat.specs.Widths.{operand_width}
use Rattle.pr_flat.specs.Values.{input_widths, operand_number, rows_of}
use Rattle.pr_lang_meaning.specs.Programs.{out}
use Rattle.pr_narrow.proofs.UnitsTied.{net_stays}
use Rattle.pr_expand_spec.specs.Programs.{Flattened, equations_of}
use Rattle.pr_expand_correct.specs.Outputs.{IsAsWide}
use Rattle.pr_expand_correct.proofs.AgreedPrograms.{widths-found}
use Rattle.pr_expand_correct.proofs.NumberLaws.{out-is}
use Rattle.pr_conf.specs.Shape.{Shape}
use Rattle.pr_conf.specs.Through.{output_widths}
use Rattle.pr_cut_units.specs.Nets.{net_of}
use Rattle.pr_compile_front.specs.Refusals.{HasWidths}
use Rattle.pr_compile_front.proofs.OneRefusal.{one-tree, one-widths}
use Rattle.pr_compile.specs.Configured.{IsConfigured, net_by, OfReady, IsConfiguredBy, HasUnitsBy, IsCompiled, HasUnits}
use Rattle.pr_compile.specs.Meant.{IsMeant}
use Rattle.pr_compile.proofs.Ready.{stay, ready_also}
use Rattle.pr_compile.proofs.Shown.{configured_inputs, configured_widths, configured_numbers, configured_bytes}

-- the inputs that the walk finds are those that the items declare
inputs_declared : (program : Program) → offence program ≡ None → inputs_after (program_walk program) ≡ widths_of_inputs program.items.items
inputs_declared program none = let walk = program-inverted program none in ap inputs_after walk.walk ∙ inputs-walked 0 program.items.items start walk.last walk.all

-- lawful samples, for the same inputs
samples_lawful : (widths inputs : List ℕ) (samples : List (List ℕ)) → inputs ≡ widths → All (IsRow inputs) samples → (n : ℕ) (sample : List ℕ) → slice_get samples n ≡ Some sample → IsRow widths sample
samples_lawful widths inputs samples same all n sample at =
    let low = slice_get_within samples n sample at in
    let is = get_or_from_slice_get samples n sample [] at in
    subst (λ (ws : List ℕ). IsRow ws sample) same (subst (IsRow inputs) is (All-get_or (IsRow inputs) samples n [] low all))

streams_wide : (widths : List ℕ) (outputs : List Operand) (streams : List Stream) → AllZip (IsAsWide widths) outputs streams → map (λ (s : Stream). s.form.width) streams ≡ map (operand_width widths) outputs
streams_wide widths [] [] wide = refl
streams_wide widths [] (s ∷ streams) wide = absurd wide
streams_wide widths (q ∷ outputs) [] wide = absurd wide
streams_wide widths (q ∷ outputs) (s ∷ streams) wide = ap₂ (λ (w : ℕ) (ws : List ℕ). w ∷ ws) wide.0 (streams_wide widths outputs streams wide.1)

pub program_meant : (N P : ℕ) (narrow : Bool) (program : Program) (widths : List ℕ) (conf : Shape) → 2 ≤ P → offence program ≡ None → IsConfiguredBy N P narrow program widths conf → IsMeant N P program conf
program_meant N P narrow program widths conf registers none r =
    let equations = (equations_of program).equations in
    let outputs = (equations_of program).outputs in
    let c = r.holds in
    let s = stay narrow equations outputs widths r.ready r.news r.flat r.widths_are r.are in
    let inputs : conf.inputs ≡ input_widths r.ready = configured_inputs N P r.ready r.news outputs conf c in
    let declared : conf.inputs ≡ widths_of_inputs program.items.items = inputs ∙ (s.inputs ∙ inputs-of-equations program none) in
    let wide : output_widths conf ≡ map (operand_width widths) outputs = configured_widths N P r.ready r.news outputs conf c ∙ s.widths_are in
    let rows : (samples : List (List ℕ)) → All (IsRow conf.inputs) samples → map (λ row. map (operand_number r.ready [] row) outputs) (rows_of r.ready r.news samples) ≡ out program samples = λ samples all.
    s.rows samples (subst (λ (ws : List ℕ). All (IsRow ws) samples) (inputs ∙ s.inputs) all)
    ∙ sym (out-is program widths samples none r.flat r.widths_are (samples_lawful (widths_of_inputs program.items.items) conf.inputs samples declared all)) in
    record {
      inputs = declared ∙ sym (inputs_declared program none);
      widths = λ samples. (
          let found = widths-found program widths samples none r.widths_are in
          ap (option_map (map (λ (s : Stream). s.form.width))) found.are
          ∙ ap Some (streams_wide widths outputs found.streams found.wide ∙ sym wide));
      numbers = λ samples all.
          configured_numbers N P r.ready r.news outputs conf c samples registers (samples_lawful (input_widths r.ready) conf.inputs samples inputs all) ∙ rows samples all;
      bytes = λ samples all.
          configured_bytes N P r.ready r.news outputs conf c samples registers (samples_lawful (input_widths r.ready) conf.inputs samples inputs all)
          ∙ ap (map (row_bytes (output_widths conf))) (rows samples all);
    }

-- narrowed equations take no more units
pub units_stay : (program : Program) (widths : List ℕ) (whole few : ℕ) → HasUnitsBy false program widths whole → HasUnitsBy true program widths few → few ≤ whole
units_stay program widths whole few one other =
    let outputs = (equations_of program).outputs in
    let less = net_stays (equations_of program).equations outputs widths other.ready other.news other.flat other.widths_are other.are in
    let same : whole ≡ length (net_by program (equations_of program).equations widths).units = holds_by one in
    omega (arith, less, same, other.holds)
  where
    holds_by : HasUnitsBy false program widths whole → whole ≡ length (net_by program (equations_of program).equations widths).units
    holds_by r = r.holds ∙ ap₂ (λ (es : List EquationShape) (ws : List ℕ). length (net_by program es ws).units) r.are.0 r.are.1

-- ---- the programs of a text
pub same_equations : (text : List ℕ) (p q : Program) (v w : List ℕ) → HasWidths text p v → HasWidths text q w → (equations_of p ≡ equations_of q) × (v ≡ w)
same_equations text p q v w one other = (same-equations p q (one-tree text p q v w one other), one-widths text p q v w one other)

-- what is ready and configured, of flattened equations
configured_flattened : (N P : ℕ) → Shape → Flattened → List EquationShape → List ℕ → Type 0
configured_flattened N P conf f ready news = IsConfigured N P ready news f.outputs conf

pub configured_also : (N P : ℕ) (narrow : Bool) (text : List ℕ) (p q : Program) (v w : List ℕ) (conf : Shape) → HasWidths text p v → HasWidths text q w → IsConfiguredBy N P narrow p v conf → IsConfiguredBy N P narrow q w conf
unfolding configured_flattened
configured_also N P narrow text p q v w conf one other c = ready_also (configured_flattened N P conf) narrow (equations_of p) (equations_of q) v w (same_equations text p q v w one other) c

pub text_meant : (N P : ℕ) (narrow : Bool) (text : List ℕ) (program : Program) (widths : List ℕ) (conf : Shape) → 2 ≤ P → HasWidths text program widths → IsCompiled N P narrow text conf → IsMeant N P program conf
text_meant N P narrow text program widths conf registers has c =
    program_meant N P narrow program widths conf registers has.made.kept.lawful (configured_also N P narrow text c.program program c.widths widths conf c.has has c.configured)

-- the units of flattened equations that are ready
units_flattened : ℕ → Flattened → List EquationShape → List ℕ → Type 0
units_flattened count f ready news = count ≡ length (net_of ready news f.outputs).units

pub text_units_stay : (text : List ℕ) (whole few : ℕ) → HasUnits false text whole → HasUnits true text few → few ≤ whole
unfolding units_flattened
text_units_stay text whole few one other =
    let also = ready_also (units_flattened whole) false (equations_of one.program) (equations_of other.program) one.widths other.widths (same_equations text one.program other.program one.widths other.widths one.has other.has) one.are in
    units_stay other.program other.widths whole few also other.are
