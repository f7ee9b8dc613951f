-- Only an input item makes an equation of an input: the inputs of a program's equations are those that it declares.
use Rattle.std.proofs.Common.{◌≡◌, ◌∙◌, ℕ, ◌+◌, Bool, true, false, cond, arith, List, [], ◌∷◌, ◌++◌, append-nil, length, None, Ok, refl, sym, ap, ap₂, count_by, unwrap_or}
use Rattle.std.proofs.lemmas.List.Recursion.{is_count_by}
use Rattle.std.proofs.lemmas.Bool.{cond-true, cond-false}
use Rattle.pr_lang.specs.declared.trees.Item.{Item}
use Rattle.pr_lang.specs.declared.trees.Item.TheVariants as item
use Rattle.pr_lang.specs.declared.trees.Program.{Program}
use Rattle.pr_flat.specs.declared.equations.Op.{Op}
use Rattle.pr_flat.specs.Facts.{is_input, is_width}
use Rattle.pr_flat.specs.Shape.{EquationShape}
use Rattle.pr_flat.specs.Values.{input_widths}
use Rattle.pr_expand_spec.specs.Making.{Equations}
use Rattle.pr_expand_spec.specs.Programs.{World, equations_of, input_width, item_change, start}
use Rattle.pr_scope.specs.Walk as scope
use Rattle.pr_scope_facts.specs.Items.{widths_of_inputs}
use Rattle.std.specs.List.{AllByRecursion}
use Rattle.pr_scope_facts.proofs.Adding.{Adds, AllAdd, Covers, adds-assigned, adds-change, adds-start, adds-visible}
use Rattle.pr_scope_facts.proofs.InvertedStatements.{width-flat}
use Rattle.pr_scope_facts.proofs.InvertedItems.{constant-inverted, function-inverted, input-inverted, inputs-walked, output-inverted, program-inverted, step-inverted, table-inverted}
use Rattle.pr_scope_facts.proofs.Steps.{items-made}

-- ---- lists of equations
one-input : (here : Bool) (n : ℕ) (x y z : List ℕ) → x ≡ y ++ z → cond here (n ∷ x) x ≡ cond here (n ∷ y) y ++ z
one-input true n x y z is = ap (λ (l : List ℕ). n ∷ l) is
one-input false n x y z is = is

pub inputs-append : (es fs : Equations) → input_widths (es ++ fs) ≡ input_widths es ++ input_widths fs
inputs-append [] fs = refl
inputs-append (e ∷ es) fs = one-input (is_input e.op) (unwrap_or e.declared 0) (input_widths (es ++ fs)) (input_widths es) (input_widths fs) (inputs-append es fs)

one-count : (here : Bool) (n : ℕ) (xs : List ℕ) → length (cond here (n ∷ xs) xs) ≡ cond here (1 + length xs) (length xs)
one-count true n xs = omega arith
one-count false n xs = refl

pub inputs-counted : (es : Equations) → length (input_widths es) ≡ count_by (λ (e : EquationShape). is_input e.op) es
inputs-counted = is_count_by (λ es. length (input_widths es)) (λ (e : EquationShape). is_input e.op) refl (λ e es. one-count (is_input e.op) (unwrap_or e.declared 0) (input_widths es))

-- ---- other equations
abbrev IsOther : Op → Type 0
IsOther o = is_input o ≡ false

covers-other : Covers IsOther
covers-other = record { others = λ o is. is }

no-inputs : (es : Equations) → AllByRecursion (λ (e : EquationShape). IsOther e.op) es → input_widths es ≡ []
no-inputs [] all = refl
no-inputs (e ∷ es) all = cond-false (is_input e.op) (unwrap_or e.declared 0 ∷ input_widths es) (input_widths es) all.0 ∙ no-inputs es all.1

-- where no input is added, the inputs stay
inputs-kept : (es ds : Equations) → Adds IsOther es ds → input_widths ds ≡ input_widths es
inputs-kept es ds adds = ap input_widths adds.is ∙ (inputs-append es adds.more ∙ (ap (λ (ns : List ℕ). input_widths es ++ ns) (no-inputs adds.more adds.each) ∙ append-nil (input_widths es)))

-- ---- items
-- the equations so far have the inputs so far
pub record HasInputs (w : scope.World) (x : World) : Type 0 where
  pub others : AllAdd IsOther x.visible
  pub inputs : input_widths x.progress.equations ≡ w.inputs

pub has-inputs : (at : ℕ) (i : Item) (w w' : scope.World) (x : World) → scope.item_change at i w ≡ Ok w' → HasInputs w x → HasInputs w' (item_change at i x)
has-inputs at (item.Input name width) w w' x walk has =
    let here = input-inverted name width w w' walk in
    let width_is : input_width width ≡ width = cond-true (is_width width) width 1 (width-flat width here.lawful_width) in
    record {
      others = adds-visible IsOther covers-other at (item.Input name width) x has.others;
      inputs = inputs-append x.progress.equations _ ∙ (ap₂ (λ (l : List ℕ) (n : ℕ). l ++ n ∷ []) has.inputs width_is ∙ sym here.inputs);
    }
has-inputs at (item.Output name width value) w w' x walk has = record {
  others = adds-visible IsOther covers-other at (item.Output name width value) x has.others;
  inputs = inputs-kept x.progress.equations _ (adds-assigned IsOther covers-other x.visible has.others width value x.progress.streams x.progress.equations) ∙ (has.inputs ∙ sym (output-inverted name width value w w' walk).inputs);
}
has-inputs at (item.Const name value) w w' x walk has = record {
  others = adds-visible IsOther covers-other at (item.Const name value) x has.others;
  inputs = has.inputs ∙ sym (constant-inverted name value w w' walk).names.inputs;
}
has-inputs at (item.Table name values) w w' x walk has = record {
  others = adds-visible IsOther covers-other at (item.Table name values) x has.others;
  inputs = has.inputs ∙ sym (table-inverted name values.items w w' walk).names.inputs;
}
has-inputs at (item.Function name params width body result) w w' x walk has = record {
  others = adds-visible IsOther covers-other at (item.Function name params width body result) x has.others;
  inputs = has.inputs ∙ sym (function-inverted at name params.items width body.items result w w' walk).names.inputs;
}
has-inputs at (item.Step stmt) w w' x walk has = record {
  others = adds-visible IsOther covers-other at (item.Step stmt) x has.others;
  inputs = inputs-kept x.progress.equations _ (adds-change IsOther covers-other stmt x.visible has.others x.progress) ∙ (has.inputs ∙ sym (step-inverted stmt w w' walk).inputs);
}

pub first-inputs : HasInputs scope.start start
first-inputs = record {
  others = adds-start IsOther;
  inputs = refl;
}

-- the inputs of a program's equations are those that it declares
pub inputs-of-equations : (program : Program) → scope.offence program ≡ None → input_widths (equations_of program).equations ≡ widths_of_inputs program.items.items
inputs-of-equations program none =
    let walk = program-inverted program none in
    (items-made HasInputs has-inputs 0 program.items.items scope.start walk.last start walk.all first-inputs).inputs ∙ inputs-walked 0 program.items.items scope.start walk.last walk.all
