-- What the walk over an item, and over a program, says where it meets no offence: a record for each form.
use Rattle.std.proofs.Common.{◌≡◌, ◌∙◌, ℕ, ◌+◌, Bool, true, false, cond, not, ◌&&◌, ◌||◌, List, [], ◌∷◌, ◌++◌, map, length, append_assoc, append-nil, Option, Some, None, Result, Ok, Err, refl, sym, ap, subst, arith}
use Rattle.std.specs.List.{list_any}
use Rattle.std.proofs.lemmas.Bool.{and_parts, or_parts, not-true, not-false, false≢true}
use Rattle.std.proofs.lemmas.Option.{none-some}
use Rattle.pr_lang.specs.declared.trees.Fixed.{Fixed}
use Rattle.pr_lang.specs.declared.trees.Expr.{Expr}
use Rattle.pr_lang.specs.declared.trees.Stmt.{Stmt}
use Rattle.pr_lang.specs.declared.trees.Param.{Param}
use Rattle.pr_lang.specs.declared.trees.Item.{Item}
use Rattle.pr_lang.specs.declared.trees.Item.TheVariants as item
use Rattle.pr_lang.specs.declared.trees.Program.{Program}
use Rattle.pr_scope_names.specs.declared.rules.Offence.{Offence}
use Rattle.pr_scope_names.specs.declared.rules.Rule.TheVariants.{Bounds, Introduced, Ends}
use Rattle.pr_scope_names.specs.declared.counts.Count.{Count}
use Rattle.pr_scope_names.specs.declared.names.Callee.{Callee}
use Rattle.pr_scope_names.specs.declared.names.Static.{Static}
use Rattle.pr_scope_names.specs.declared.names.Static.TheVariants as static
use Rattle.pr_scope.specs.declared.checking.Scoped.{Scoped}
use Rattle.pr_scope.specs.declared.statements.Ready.{Ready}
use Rattle.pr_scope.specs.declared.expressions.Scene.{Scene}
use Rattle.pr_scope_names.specs.Outcomes.{all_of, and_then, provided, counted, number_of}
use Rattle.pr_scope_names.specs.Names.{Known, Streaming, assign, bind, is_free}
use Rattle.pr_scope_names.specs.Constants.{constant_of}
use Rattle.pr_scope.specs.Expressions.{walk_of, past_of}
use Rattle.pr_scope.specs.Statements.{Progress, completed, is_width, change_of, changes_of, stmts_past_of}
use Rattle.pr_scope.specs.Walk.{World, start, Refusal, broken, refusal, refusal_of, onward, is_empty, inputs_after, with_progress, with_known, with_input, with_output, input_ready, output_ready, introduced, have_widths, body_walk, params_from, callee_of, input_change, output_change, constant_change, table_change, function_change, step_change, item_change, items_walk, program_walk, offence}
use Rattle.pr_scope_facts.specs.Items.{AllItems, widths_of_inputs}
use Rattle.pr_scope_facts.proofs.InvertedStatements.{Introduces, AllChange, assign-inverted, changes-inverted, completed-inverted, free-inverted}
use Rattle.pr_scope_facts.proofs.Outcomes.{provided_ok, same_ok, then_ok}

-- ---- items
pub record InputWalk (name : List ℕ) (width : ℕ) (w w' : World) : Type 0 where
  pub lawful_width : is_width (Some width) ≡ true
  pub introduces : Introduces name None w.known w.streams w'.streams
  pub known : w'.known ≡ w.known
  pub inputs : w'.inputs ≡ w.inputs ++ width ∷ []
  pub has_output : w'.has_output ≡ w.has_output

pub input-inverted : (name : List ℕ) (width : ℕ) (w w' : World) → input_change name width w ≡ Ok w' → InputWalk name width w w'
input-inverted name width w w' is =
    let ready = then_ok (input_ready width w.count) (λ r. and_then (completed name w.known w.streams r) (λ s. Ok (with_input (with_progress w s) width))) w' is in
    let counting = then_ok (counted 0 w.count) (λ c. provided (is_width (Some width)) Bounds (Ok (record { place = None; count = c }))) ready.0 ready.1 in
    let kept = provided_ok (is_width (Some width)) Bounds (Ok (record { place = None; count = counting.0 })) ready.0 counting.2 in
    let made : ◌≡◌ {A = Ready} (record { place = None; count = counting.0 }) ready.0 = same_ok _ _ kept.1 in
    let step = then_ok (completed name w.known w.streams ready.0) (λ s. Ok (with_input (with_progress w s) width)) w' ready.2 in
    let done = completed-inverted name w.known w.streams ready.0 step.0 step.1 in
    subst (InputWalk name width w) (same_ok (with_input (with_progress w step.0) width) w' step.2) (record {
      lawful_width = kept.0;
      introduces = subst (λ i. Introduces name i w.known w.streams step.0.streams) (sym (ap (λ (r : Ready). r.place) made)) done.0;
      known = refl;
      inputs = refl;
      has_output = refl;
    })

pub record OutputWalk (name : List ℕ) (width : Option ℕ) (value : Expr) (w w' : World) : Type 0 where
  pub lawful_width : is_width width ≡ true
  pub begin : Count
  pub walk : walk_of value w.known w.streams (record { own = None; inside = false }) begin ≡ Ok w'.count
  pub introduces : Introduces name None w.known w.streams w'.streams
  pub known : w'.known ≡ w.known
  pub inputs : w'.inputs ≡ w.inputs
  pub has_output : w'.has_output ≡ true

pub output-inverted : (name : List ℕ) (width : Option ℕ) (value : Expr) (w w' : World) → output_change name width value w ≡ Ok w' → OutputWalk name width value w w'
output-inverted name width value w w' is =
    let scene : Scene = record { own = None; inside = false } in
    let finish : Count → Result Ready Offence = λ d. Ok (record { place = None; count = d }) in
    let ready = then_ok (output_ready width value w.known w.streams w.count) (λ r. and_then (completed name w.known w.streams r) (λ s. Ok (with_output (with_progress w s)))) w' is in
    let counting = then_ok (counted 0 w.count) (λ c. provided (is_width width) Bounds (and_then (walk_of value w.known w.streams scene c) finish)) ready.0 ready.1 in
    let kept = provided_ok (is_width width) Bounds (and_then (walk_of value w.known w.streams scene counting.0) finish) ready.0 counting.2 in
    let walked = then_ok (walk_of value w.known w.streams scene counting.0) finish ready.0 kept.1 in
    let made : ◌≡◌ {A = Ready} (record { place = None; count = walked.0 }) ready.0 = same_ok _ _ walked.2 in
    let step = then_ok (completed name w.known w.streams ready.0) (λ s. Ok (with_output (with_progress w s))) w' ready.2 in
    let done = completed-inverted name w.known w.streams ready.0 step.0 step.1 in
    subst (OutputWalk name width value w) (same_ok (with_output (with_progress w step.0)) w' step.2) (record {
      lawful_width = kept.0;
      begin = counting.0;
      walk = walked.1 ∙ ap Ok (ap (λ (r : Ready). r.count) made ∙ done.1);
      introduces = subst (λ i. Introduces name i w.known w.streams step.0.streams) (sym (ap (λ (r : Ready). r.place) made)) done.0;
      known = refl;
      inputs = refl;
      has_output = refl;
    })

-- a name that stands for no stream is introduced, and nothing else changes
pub record Names (name : List ℕ) (what : Static) (w w' : World) : Type 0 where
  pub unknown : w.known name ≡ None
  pub fresh : w.streams name ≡ None
  pub known : w'.known ≡ bind name what w.known
  pub streams : w'.streams ≡ w.streams
  pub inputs : w'.inputs ≡ w.inputs
  pub has_output : w'.has_output ≡ w.has_output

names-inverted : (name : List ℕ) (what : Static) (c : Count) (w w' : World) → and_then (introduced name what w.known w.streams) (λ known. Ok (with_known w c known)) ≡ Ok w' → Names name what w w'
names-inverted name what c w w' is =
    let step = then_ok (introduced name what w.known w.streams) (λ known. Ok (with_known w c known)) w' is in
    let kept = provided_ok (is_free name w.known w.streams) Introduced (Ok (bind name what w.known)) step.0 step.1 in
    let free = free-inverted name w.known w.streams kept.0 in
    subst (Names name what w) (same_ok (with_known w c step.0) w' step.2) (record {
      unknown = free.0;
      fresh = free.1;
      known = sym (same_ok (bind name what w.known) step.0 kept.1);
      streams = refl;
      inputs = refl;
      has_output = refl;
    })

pub record ConstWalk (name : List ℕ) (value : Fixed) (w w' : World) : Type 0 where
  pub number : ℕ
  pub number_is : constant_of value w.known ≡ Ok number
  pub names : Names name (static.Constant number) w w'

pub constant-inverted : (name : List ℕ) (value : Fixed) (w w' : World) → constant_change name value w ≡ Ok w' → ConstWalk name value w w'
constant-inverted name value w w' is =
    let finish : Count → ℕ → Result World Offence = λ c n. and_then (introduced name (static.Constant n) w.known w.streams) (λ known. Ok (with_known w c known)) in
    let counting = then_ok (counted 0 w.count) (λ c. and_then (constant_of value w.known) (finish c)) w' is in
    let number = then_ok (constant_of value w.known) (finish counting.0) w' counting.2 in
    record { number = number.0; number_is = number.1; names = names-inverted name (static.Constant number.0) counting.0 w w' number.2 }

pub record TableWalk (name : List ℕ) (values : List Fixed) (w w' : World) : Type 0 where
  pub entries : List ℕ
  pub entries_are : all_of (map (λ v. constant_of v w.known) values) ≡ Ok entries
  pub names : Names name (static.Table entries) w w'

pub table-inverted : (name : List ℕ) (values : List Fixed) (w w' : World) → table_change name values w ≡ Ok w' → TableWalk name values w w'
table-inverted name values w w' is =
    let read_all = all_of (map (λ v. constant_of v w.known) values) in
    let finish : Count → List ℕ → Result World Offence = λ c ns. and_then (introduced name (static.Table ns) w.known w.streams) (λ known. Ok (with_known w c known)) in
    let counting = then_ok (counted 0 w.count) (λ c. and_then read_all (finish c)) w' is in
    let entries = then_ok read_all (finish counting.0) w' counting.2 in
    record { entries = entries.0; entries_are = entries.1; names = names-inverted name (static.Table entries.0) counting.0 w w' entries.2 }

-- the parameters, one after the other
abbrev pub AllParams : List Param → Known → Streaming → Streaming → Type 0
AllParams [] known s t = s ≡ t
AllParams (p ∷ ps) known s t = (between : Streaming) × Introduces p.name None known s between × AllParams ps known between t

params-inverted : (params : List Param) (known : Known) (s t : Streaming) → params_from params known s ≡ Ok t → AllParams params known s t
params-inverted [] known s t is = same_ok s t is
params-inverted (p ∷ ps) known s t is =
    let first = then_ok (assign p.name None known s) (params_from ps known) t is in
    (first.0, assign-inverted p.name None known s first.0 first.1, params-inverted ps known first.0 t first.2)

abbrev pub HaveWidths : List Param → Type 0
HaveWidths [] = Unit {0}
HaveWidths (p ∷ ps) = (is_width p.width ≡ true) × HaveWidths ps

widths-inverted : (params : List Param) → list_any (λ (p : Param). not (is_width p.width)) params ≡ false → HaveWidths params
widths-inverted [] none = tt
widths-inverted (p ∷ ps) none =
    let parts = or_parts (not (is_width p.width)) (list_any (λ (p : Param). not (is_width p.width)) ps) none in
    (not-false (is_width p.width) parts.0, widths-inverted ps parts.1)

-- a function's own text; its body begins with the parameters alone as streams
pub record CalleeWalk (at : ℕ) (params : List Param) (width : Option ℕ) (body : List Stmt) (result : Expr) (known : Known) (f : Callee) : Type 0 where
  pub locals : Streaming
  pub assigned : AllParams params known (λ _. None) locals
  pub lawful_params : HaveWidths params
  pub lawful_width : is_width width ≡ true
  pub begin : Count
  pub between : Progress
  pub changes : AllChange body known true (record { streams = locals; count = begin }) between
  pub last : Count
  pub walk : walk_of result known between.streams (record { own = None; inside = true }) between.count ≡ Ok last
  pub item : f.item ≡ Some at
  pub count : f.params ≡ length params
  pub past : f.past ≡ (stmts_past_of body known || past_of result known)

pub callee-inverted : (at : ℕ) (params : List Param) (width : Option ℕ) (body : List Stmt) (result : Expr) (known : Known) (f : Callee) → callee_of at params width body result known ≡ Ok f → CalleeWalk at params width body result known f
callee-inverted at params width body result known f is =
    let made : Count → Result Callee Offence = λ d. Ok (record { item = Some at; params = length params; turns = d.turns; depth = d.deepest + 1; past = stmts_past_of body known || past_of result known }) in
    let assigned = then_ok (params_from params known (λ _. None)) (λ locals. provided (have_widths params && is_width width) Bounds (and_then (body_walk body result known locals) made)) f is in
    let kept = provided_ok (have_widths params && is_width width) Bounds (and_then (body_walk body result known assigned.0) made) f assigned.2 in
    let widths = and_parts (have_widths params) (is_width width) kept.0 in
    let walked = then_ok (body_walk body result known assigned.0) made f kept.1 in
    let begin : Progress = record { streams = assigned.0; count = record { turns = 0; deepest = 0 } } in
    let changed = then_ok (changes_of body known true begin) (λ (s : Progress). walk_of result known s.streams (record { own = None; inside = true }) s.count) walked.0 walked.1 in
    subst (CalleeWalk at params width body result known) (same_ok _ f walked.2) (record {
      locals = assigned.0;
      assigned = params-inverted params known (λ _. None) assigned.0 assigned.1;
      lawful_params = widths-inverted params (not-true (list_any (λ (p : Param). not (is_width p.width)) params) widths.0);
      lawful_width = widths.1;
      begin = begin.count;
      between = changed.0;
      changes = changes-inverted body known true begin changed.0 changed.1;
      last = walked.0;
      walk = changed.2;
      item = refl;
      count = refl;
      past = refl;
    })

pub record FunctionWalk (at : ℕ) (name : List ℕ) (params : List Param) (width : Option ℕ) (body : List Stmt) (result : Expr) (w w' : World) : Type 0 where
  pub callee : Callee
  pub walk : CalleeWalk at params width body result w.known callee
  pub names : Names name (static.Function callee) w w'

pub function-inverted : (at : ℕ) (name : List ℕ) (params : List Param) (width : Option ℕ) (body : List Stmt) (result : Expr) (w w' : World) → function_change at name params width body result w ≡ Ok w' → FunctionWalk at name params width body result w w'
function-inverted at name params width body result w w' is =
    let finish : Count → Callee → Result World Offence = λ c f. Ok (with_known w c (bind name (static.Function f) w.known)) in
    let counting = then_ok (counted 0 w.count) (λ c. provided (is_free name w.known w.streams) Introduced (and_then (callee_of at params width body result w.known) (finish c))) w' is in
    let kept = provided_ok (is_free name w.known w.streams) Introduced (and_then (callee_of at params width body result w.known) (finish counting.0)) w' counting.2 in
    let made = then_ok (callee_of at params width body result w.known) (finish counting.0) w' kept.1 in
    let free = free-inverted name w.known w.streams kept.0 in
    record {
      callee = made.0;
      walk = callee-inverted at params width body result w.known made.0 made.1;
      names = subst (Names name (static.Function made.0) w) (same_ok (with_known w counting.0 (bind name (static.Function made.0) w.known)) w' made.2) (record {
        unknown = free.0;
        fresh = free.1;
        known = refl;
        streams = refl;
        inputs = refl;
        has_output = refl;
      });
    }

pub record StepWalk (stmt : Stmt) (w w' : World) : Type 0 where
  pub walk : change_of stmt w.known false (record { streams = w.streams; count = w.count }) ≡ Ok (record { streams = w'.streams; count = w'.count })
  pub known : w'.known ≡ w.known
  pub inputs : w'.inputs ≡ w.inputs
  pub has_output : w'.has_output ≡ w.has_output

pub step-inverted : (stmt : Stmt) (w w' : World) → step_change stmt w ≡ Ok w' → StepWalk stmt w w'
step-inverted stmt w w' is =
    let step = then_ok (change_of stmt w.known false (record { streams = w.streams; count = w.count })) (λ s. Ok (with_progress w s)) w' is in
    subst (StepWalk stmt w) (same_ok (with_progress w step.0) w' step.2) (record { walk = step.1; known = refl; inputs = refl; has_output = refl })

-- ---- programs
pub record ItemsWalk (at : ℕ) (items : List Item) (w w' : World) : Type 0 where
  pub all : AllItems at items w w'
  pub input : w'.inputs ≡ [] → ⊥
  pub output : w'.has_output ≡ true

refused : (r : Refusal) (w : World) → Err r ≡ Ok w → ⊥
refused r w h = grind (arith, h)

accepted : (w w' : World) → ◌≡◌ {A = Result World Refusal} (Ok w) (Ok w') → w ≡ w'
accepted w w' h = grind (arith, h)

onward_ok : (at : ℕ) (o : Result World Offence) (rest : World → Result World Refusal) (y : World) → onward at o rest ≡ Ok y → (x : World) × (o ≡ Ok x) × (rest x ≡ Ok y)
onward_ok at (Ok x) rest y h = (x, refl, h)
onward_ok at (Err e) rest y h = absurd (refused (refusal at e) y h)

ended_ok : (test : Bool) (r : Refusal) (w w' : World) → cond test (Ok w) (Err r) ≡ Ok w' → (test ≡ true) × (w ≡ w')
ended_ok true r w w' h = (refl, accepted w w' h)
ended_ok false r w w' h = absurd (refused r w' h)

is-there : (inputs : List ℕ) → not (is_empty inputs) ≡ true → inputs ≡ [] → ⊥
is-there inputs h none = false≢true (ap (λ (l : List ℕ). not (is_empty l)) (sym none) ∙ h)

pub items-inverted : (at : ℕ) (items : List Item) (w w' : World) → items_walk at items w ≡ Ok w' → ItemsWalk at items w w'
items-inverted at [] w w' is =
    let end = ended_ok (not (is_empty w.inputs) && w.has_output) (broken (number_of Ends) at) w w' is in
    let parts = and_parts (not (is_empty w.inputs)) w.has_output end.0 in
    subst (ItemsWalk at [] w) end.1 (record { all = refl; input = is-there w.inputs parts.0; output = parts.1 })
items-inverted at (i ∷ is) w w' walk =
    let first = onward_ok at (item_change at i w) (items_walk (at + 1) is) w' walk in
    let rest = items-inverted (at + 1) is first.0 w' first.2 in
    record { all = (first.0, first.1, rest.all); input = rest.input; output = rest.output }

pub record ProgramWalk (program : Program) : Type 0 where
  pub last : World
  pub walk : program_walk program ≡ Ok last
  pub all : AllItems 0 program.items.items start last
  pub input : last.inputs ≡ [] → ⊥
  pub output : last.has_output ≡ true

not_refused : (o : Result World Refusal) → refusal_of o ≡ None → (w : World) × (o ≡ Ok w)
not_refused (Ok w) h = (w, refl)
not_refused (Err r) h = absurd (none-some r (sym h))

pub program-inverted : (program : Program) → offence program ≡ None → ProgramWalk program
program-inverted program none =
    let walked = not_refused (program_walk program) none in
    let rest = items-inverted 0 program.items.items start walked.0 walked.1 in
    record { last = walked.0; walk = walked.1; all = rest.all; input = rest.input; output = rest.output }

item-inputs : (at : ℕ) (i : Item) (w w' : World) → item_change at i w ≡ Ok w' → w'.inputs ≡ w.inputs ++ widths_of_inputs (i ∷ [])
item-inputs at (item.Input name width) w w' is = (input-inverted name width w w' is).inputs
item-inputs at (item.Output name width value) w w' is = (output-inverted name width value w w' is).inputs ∙ sym (append-nil w.inputs)
item-inputs at (item.Const name value) w w' is = (constant-inverted name value w w' is).names.inputs ∙ sym (append-nil w.inputs)
item-inputs at (item.Table name values) w w' is = (table-inverted name values.items w w' is).names.inputs ∙ sym (append-nil w.inputs)
item-inputs at (item.Function name params width body result) w w' is = (function-inverted at name params.items width body.items result w w' is).names.inputs ∙ sym (append-nil w.inputs)
item-inputs at (item.Step stmt) w w' is = (step-inverted stmt w w' is).inputs ∙ sym (append-nil w.inputs)

one-more : (i : Item) (is : List Item) → widths_of_inputs (i ∷ []) ++ widths_of_inputs is ≡ widths_of_inputs (i ∷ is)
one-more (item.Input name width) is = refl
one-more (item.Output name width value) is = refl
one-more (item.Const name value) is = refl
one-more (item.Table name values) is = refl
one-more (item.Function name params width body result) is = refl
one-more (item.Step stmt) is = refl

-- the inputs of a program without an offence are those that it declares
pub inputs-walked : (at : ℕ) (items : List Item) (w w' : World) → AllItems at items w w' → w'.inputs ≡ w.inputs ++ widths_of_inputs items
inputs-walked at [] w w' all = sym (ap (λ (w : World). w.inputs) all) ∙ sym (append-nil w.inputs)
inputs-walked at (i ∷ is) w w' all =
    inputs-walked (at + 1) is all.0 w' all.2
    ∙ (ap (λ (l : List ℕ). l ++ widths_of_inputs is) (item-inputs at i w all.0 all.1)
    ∙ (append_assoc w.inputs (widths_of_inputs (i ∷ [])) (widths_of_inputs is)
    ∙ ap (λ (l : List ℕ). w.inputs ++ l) (one-more i is)))

pub inputs-scoped : (s : Scoped) → s.inputs.items ≡ widths_of_inputs s.program.items.items
inputs-scoped s =
    let walked = program-inverted s.program s.lawful in
    s.declared ∙ (ap inputs_after walked.walk ∙ inputs-walked 0 s.program.items.items start walked.last walked.all)
