-- The inputs of a program that keeps the rules of scope have lawful widths.
use Rattle.std.proofs.Common.{◌≡◌, ◌≤◌, ◌+◌, ℕ, true, Some, None, List, [], ◌∷◌, All, nat_le, Ok, sym, ap, subst, arith, rules}
use Rattle.std.proofs.lemmas.Bool.{and_parts}
use Rattle.std.proofs.lemmas.Bool.Decides.{nat_tests}
use Rattle.std.proofs.lemmas.List.Elements.{All-append, All-cons}
use Rattle.pr_lang.specs.declared.trees.Item.{Item}
use Rattle.pr_lang.specs.declared.trees.Item.TheVariants.{Input, Output, Const, Table, Function, Step}
use Rattle.pr_lang.specs.declared.trees.Program.{Program}
use Rattle.pr_scope.specs.Statements.{is_width}
use Rattle.pr_scope.specs.Walk.{World, start, item_change, inputs_after, offence}
use Rattle.pr_scope_facts.specs.Items.{AllItems}
use Rattle.pr_scope_facts.proofs.InvertedItems.{input-inverted, output-inverted, constant-inverted, table-inverted, function-inverted, step-inverted, program-inverted}
use Rattle.pr_tool_modes.specs.Programs.{inputs_of}

abbrev pub IsInputWidth : ℕ → Type 0
IsInputWidth w = (1 ≤ w) × (w ≤ 128)

lawful_width : (w : ℕ) → is_width (Some w) ≡ true → IsInputWidth w
lawful_width w is = let both = and_parts (nat_le 1 w) (nat_le w 128) is in (grind (arith, nat_tests, both.0), grind (arith, nat_tests, both.1))

item_kept : (at : ℕ) (item : Item) (w w' : World) → item_change at item w ≡ Ok w' → All IsInputWidth w.inputs → All IsInputWidth w'.inputs
item_kept at (Input name width) w w' is h =
    let walk = input-inverted name width w w' is in
    subst (All IsInputWidth) (sym walk.inputs) (All-append IsInputWidth w.inputs (width ∷ []) h (All-cons IsInputWidth width [] (lawful_width width walk.lawful_width) (search rules)))
item_kept at (Output name width value) w w' is h = subst (All IsInputWidth) (sym (output-inverted name width value w w' is).inputs) h
item_kept at (Const name value) w w' is h = subst (All IsInputWidth) (sym (constant-inverted name value w w' is).names.inputs) h
item_kept at (Table name values) w w' is h = subst (All IsInputWidth) (sym (table-inverted name values.items w w' is).names.inputs) h
item_kept at (Function name params width body result) w w' is h = subst (All IsInputWidth) (sym (function-inverted at name params.items width body.items result w w' is).names.inputs) h
item_kept at (Step stmt) w w' is h = subst (All IsInputWidth) (sym (step-inverted stmt w w' is).inputs) h

items_kept : (at : ℕ) (items : List Item) (w w' : World) → AllItems at items w w' → All IsInputWidth w.inputs → All IsInputWidth w'.inputs
items_kept at [] w w' is h = subst (λ (k : World). All IsInputWidth k.inputs) is h
items_kept at (item ∷ items) w w' is h = items_kept (at + 1) items is.0 w' is.2 (item_kept at item w is.0 is.1 h)

-- the inputs of a program that keeps the rules have 1 to 128 bits
pub lawful_inputs : (program : Program) → offence program ≡ None → All IsInputWidth (inputs_of program)
lawful_inputs program none =
    let walk = program-inverted program none in
    subst (All IsInputWidth) (sym (ap inputs_after walk.walk)) (items_kept 0 program.items.items start walk.last walk.all (search rules))
