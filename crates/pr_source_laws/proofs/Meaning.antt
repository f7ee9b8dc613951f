-- The rows of the equations of a program.
use Rattle.std.proofs.Common.{◌≡◌, ℕ, None, List, sym, subst}
use Rattle.std.specs.List.{All}
use Rattle.std.proofs.lemmas.Option.{slice_get_within, get_or_from_slice_get}
use Rattle.pr_base.specs.Rows.{IsRow}
use Rattle.pr_lang.specs.declared.trees.Program.{Program}
use Rattle.pr_lang_meaning.specs.Programs.{out}
use Rattle.pr_scope.specs.Walk.{offence}
use Rattle.pr_scope_facts.proofs.Inputs.{inputs-of-equations}
use Rattle.pr_flat.specs.declared.equations.Operand.{Operand}
use Rattle.pr_flat.specs.declared.flat.Flat.{Flat}
use Rattle.pr_flat.specs.Shape.{EquationShape, shapes_of}
use Rattle.pr_flat.specs.Facts.{IsFlat}
use Rattle.pr_flat.specs.Widths.{AreWidths}
use Rattle.pr_flat.specs.Values.{input_widths}
use Rattle.pr_expand_spec.specs.Programs.{equations_of}
use Rattle.pr_expand_correct.specs.Results.{AreSamples}
use Rattle.pr_expand_correct.proofs.NumberLaws.{out-is}
use Rattle.pr_source.specs.Outputs.{given_all}
use Rattle.pr_source_laws.specs.Accepted.{IsAccepted}

-- equations that give what a program means
abbrev pub Means : Program → List ℕ → List (List ℕ) → List EquationShape → List Operand → Type 0
Means program widths samples equations outputs = IsFlat equations outputs → AreWidths equations widths → All (IsRow (input_widths equations)) samples → given_all equations outputs widths samples ≡ out program samples

are_samples : (program : Program) (samples : List (List ℕ)) → offence program ≡ None → All (IsRow (input_widths (equations_of program).equations)) samples → AreSamples program samples
are_samples program samples lawful rows n sample there =
    let row = subst (IsRow (input_widths (equations_of program).equations)) (get_or_from_slice_get samples n sample sample there) (rows n sample (slice_get_within samples n sample there)) in
    subst (λ (ws : List ℕ). IsRow ws sample) (inputs-of-equations program lawful) row

own_equations : (program : Program) (widths : List ℕ) (samples : List (List ℕ)) → offence program ≡ None → Means program widths samples (equations_of program).equations (equations_of program).outputs
own_equations program widths samples lawful flat wide rows = sym (out-is program widths samples lawful flat wide (are_samples program samples lawful rows))

pub rows_mean : (program : Program) (flat : Flat) (widths : List ℕ) (samples : List (List ℕ)) → IsAccepted program flat widths samples → given_all (shapes_of flat.equations.items) flat.outputs.items widths samples ≡ out program samples
rows_mean program flat widths samples is =
    let own = own_equations program widths samples is.lawful in
    let by_outputs = subst (Means program widths samples (equations_of program).equations) (sym is.outputs) own in
    let both : Means program widths samples (shapes_of flat.equations.items) flat.outputs.items = subst (λ (es : List EquationShape). Means program widths samples es flat.outputs.items) (sym is.equations) by_outputs in
    both flat.lawful is.wide is.rows
