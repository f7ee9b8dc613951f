-- The equations of a program without an offence are flat.
use Rattle.std.proofs.Common.{◌≡◌, ◌≢◌, ◌∙◌, inl, inr, ◌<◌, ◌≤◌, ◌^◌, ℕ, zero, suc, Bool, true, false, cond, ◌||◌, nat_eq, nat_lt, nat_le, bytes_eq, codes, List, [], ◌∷◌, ◌++◌, map, length, Option, Some, None, Ok, refl, sym, ap, subst, arith, slice_get, length-append}
use Rattle.std.specs.List.{AllByRecursion, list_all, list_any}
use Rattle.std.specs.Option.{IfSome, option_map_or}
use Rattle.std.proofs.lemmas.Bool.{cases_lt, or_left, or_right, and_parts, and_from, false≢true, lt-ltb, le-leb, eqb-true}
use Rattle.std.proofs.lemmas.List.Folds.{list_any-append}
use Rattle.pr_lang.specs.declared.trees.Expr.{Expr}
use Rattle.pr_lang.specs.declared.trees.Param.{Param}
use Rattle.pr_lang.specs.declared.trees.Item.{Item}
use Rattle.pr_lang.specs.declared.trees.Item.TheVariants as item
use Rattle.pr_lang.specs.declared.trees.Program.{Program}
use Rattle.pr_scope_names.specs.declared.names.Callee.{Callee}
use Rattle.pr_scope_names.specs.declared.names.Static.{Static}
use Rattle.pr_scope_names.specs.declared.names.Static.TheVariants.{Constant, Function, Table}
use Rattle.pr_scope_names.specs.Names.{Known, bind, built_in}
use Rattle.pr_scope.specs.Expressions.{is_past}
use Rattle.pr_scope.specs.Walk as scope
use Rattle.pr_scope.specs.Walk.{offence}
use Rattle.pr_flat.specs.declared.equations.Operand.{Operand}
use Rattle.pr_flat.specs.declared.equations.Operand.TheVariants.{Const, Eq, Past}
use Rattle.pr_flat.specs.declared.equations.Op.TheVariants.{Input}
use Rattle.pr_flat.specs.Shape.{EquationShape, EachEquation}
use Rattle.pr_flat.specs.Facts.{is_input, is_width, is_in_body, op_at, is_lawful_operand, is_lawful_output, reads_equation, reads_past, DependsOnPast, ReadsPast, Reads, IsApart, IsFlat}
use Rattle.pr_flat.proofs.WidthLemmas.{PastOf, one_equation}
use Rattle.pr_flat.proofs.WidthsUnique.{is_ordered_operand, IsOrdered}
use Rattle.pr_lang_meaning.specs.Programs.{function_at}
use Rattle.pr_expand_spec.specs.Making.{Equations, with_equation, constant}
use Rattle.pr_expand_spec.specs.Expressions.{Inlined, Visible, assigned}
use Rattle.pr_expand_spec.specs.Programs.{World, start, input_width, with_input, with_output, inlined, signed_function, item_change, items_change, equations_of}
use Rattle.pr_scope_facts.specs.Numbers.{is_number, have_numbers}
use Rattle.pr_scope_facts.proofs.Statics.{SameKnown, plain, same-bind, same-built_in, same-function, constant-made, entries-made}
use Rattle.pr_scope_facts.proofs.InvertedItems.{input-inverted, output-inverted, constant-inverted, table-inverted, function-inverted, step-inverted, program-inverted}
use Rattle.pr_scope_facts.proofs.Steps.{items-made, callee-plain}
use Rattle.pr_scope_facts.proofs.Appending.{Appends}
use Rattle.pr_scope_facts.proofs.FlatStates.{Outside, Inside, is_delay, IsDelayAt, StandsIn, IsRead, IsDelayed, Sound, State, IsGiven, Later, Grown, later-same, given-kept, fresh-grown}
use Rattle.pr_scope_facts.proofs.Adding.{each-more}
use Rattle.pr_scope_facts.proofs.FlatExpressions.{IsLawful, Lawful, assigned-grown}
use Rattle.pr_scope_facts.proofs.FlatStatements.{SoundProgress, Progressed, named-grown, statement-grown, lawful-function, lawful-signed}

-- ---- items
abbrev AreOutputs : Equations → List Operand → Type 0
AreOutputs es outputs = AllByRecursion (IsGiven Outside es) outputs

-- what the items so far have made
record SoundWorld (w : scope.World) (x : World) : Type 0 where
  lawful : Lawful w.known x.visible
  progress : SoundProgress Outside x.progress
  outputs : AreOutputs x.progress.equations x.outputs
  input : (w.inputs ≡ [] → ⊥) → list_any (λ (e : EquationShape). is_input e.op) x.progress.equations ≡ true
  output : w.has_output ≡ true → 0 < length x.outputs

outputs-kept : (es ds : Equations) (outputs : List Operand) → Later es ds → AreOutputs es outputs → AreOutputs ds outputs
outputs-kept es ds outputs l are = each-more (IsGiven Outside es) (IsGiven Outside ds) (given-kept Outside es ds l) outputs are

inputs-kept : (es ds : Equations) → Appends es ds → list_any (λ (e : EquationShape). is_input e.op) es ≡ true → list_any (λ (e : EquationShape). is_input e.op) ds ≡ true
inputs-kept es ds a is =
    let test : EquationShape → Bool = λ e. is_input e.op in
    ap (list_any test) a.is ∙ (list_any-append test es a.more ∙ or_left (list_any test es) (list_any test a.more) is)

input-width : (width : ℕ) → is_width (input_width width) ≡ true
input-width width = by_test (is_width width) refl where
  by_test : (b : Bool) → is_width width ≡ b → is_width (cond b width 1) ≡ true
  by_test true is = is
  by_test false is = refl

input-grown : (x : World) (width : ℕ) → SoundProgress Outside x.progress → Grown Outside x.progress.equations (with_equation Input [] (Some (input_width width)) x.progress.equations)
input-grown x width sound = fresh-grown Outside x.progress.equations Input [] (Some (input_width width)) sound.state (record { rec = refl; count = refl; width = input-width width; ends = refl; constant = refl; given = tt; delays = λ is. tt })

sound-input : (at : ℕ) (name : List ℕ) (width : ℕ) (w w' : scope.World) (x : World) → scope.input_change name width w ≡ Ok w' → SoundWorld w x → SoundWorld w' (with_input name width x)
sound-input at name width w w' x walk sound =
    let i = input-inverted name width w w' walk in
    let es = x.progress.equations in
    let m = with_equation Input [] (Some (input_width width)) es in
    let g = input-grown x width sound.progress in
    let p = named-grown Outside name None x.progress m sound.progress g in
    let test : EquationShape → Bool = λ e. is_input e.op in
    record {
      lawful = subst (λ k. Lawful k x.visible) (sym i.known) sound.lawful;
      progress = p.sound;
      outputs = outputs-kept es m.equations x.outputs g.later sound.outputs;
      input = λ some. list_any-append test es (record { op = Input; args = []; declared = Some (input_width width); kinds = [] } ∷ []) ∙ or_right (list_any test es) true refl;
      output = λ is. sound.output (sym i.has_output ∙ is);
    }

outputs-more : (es : Equations) (outputs : List Operand) (q : Operand) → AreOutputs es outputs → IsGiven Outside es q → AreOutputs es (outputs ++ q ∷ [])
outputs-more es [] q are given = (given, tt)
outputs-more es (o ∷ outputs) q are given = (are.0, outputs-more es outputs q are.1 given)

-- the outputs and the inputs so far, where equations are appended and the walk has as many of both
grown-world : (w w' : scope.World) (x y : World) → SoundWorld w x → Lawful w'.known y.visible → Progressed Outside x.progress y.progress → y.outputs ≡ x.outputs → w'.inputs ≡ w.inputs → w'.has_output ≡ w.has_output → SoundWorld w' y
grown-world w w' x y sound lawful p outputs inputs has_output = record {
  lawful = lawful;
  progress = p.sound;
  outputs = subst (AreOutputs y.progress.equations) (sym outputs) (outputs-kept x.progress.equations y.progress.equations x.outputs p.later sound.outputs);
  input = λ some. inputs-kept x.progress.equations y.progress.equations p.later.appends (sound.input (λ none. some (inputs ∙ none)));
  output = λ is. subst (λ (o : List Operand). 0 < length o) (sym outputs) (sound.output (sym has_output ∙ is));
}

sound-output : (name : List ℕ) (width : Option ℕ) (e : Expr) (w w' : scope.World) (x : World) → scope.output_change name width e w ≡ Ok w' → SoundWorld w x → SoundWorld w' (with_output name (assigned width e x.visible x.progress.streams x.progress.equations) x)
sound-output name width e w w' x walk sound =
    let o = output-inverted name width e w w' walk in
    let es = x.progress.equations in
    let m = assigned width e x.visible x.progress.streams es in
    let g = assigned-grown w.known x.visible sound.lawful width e Outside x.progress.streams w.streams (record { own = None; inside = false }) o.begin w'.count o.walk es sound.progress.state sound.progress.streams (inr (inr refl)) in
    let p = named-grown Outside name None x.progress m sound.progress g in
    record {
      lawful = subst (λ k. Lawful k x.visible) (sym o.known) sound.lawful;
      progress = p.sound;
      outputs = outputs-more m.equations x.outputs m.given.operand (outputs-kept es m.equations x.outputs g.later sound.outputs) g.given;
      input = λ some. inputs-kept es m.equations g.later.appends (sound.input (λ none. some (o.inputs ∙ none)));
      output = λ is. (let n = length-append x.outputs (m.given.operand ∷ []) in omega (arith, n));
    }

same-progress : (x y : World) → x.progress ≡ y.progress → SoundProgress Outside x.progress → Progressed Outside x.progress y.progress
same-progress x y same sound = subst (Progressed Outside x.progress) same (record { sound = sound; later = later-same x.progress.equations })

-- what is introduced is no function
lawful-static : (known : Known) (v : Visible) (name : List ℕ) (s : Static) → plain s ≡ s → ((f : Callee) → Some s ≡ Some (Function f) → ⊥) → Lawful known v → Lawful (bind name s known) (record { known = bind name s v.known; functions = v.functions })
lawful-static known v name s same none fs = record {
  same = subst (λ (p : Static). SameKnown (bind name s known) (bind name p v.known)) same (same-bind known v.known fs.same name s);
  functions = λ q f is. fs.functions q f (choice (bytes_eq name q) (known q) f is);
} where
  choice : (b : Bool) (o : Option Static) (f : Callee) → cond b (Some s) o ≡ Some (Function f) → o ≡ Some (Function f)
  choice true o f is = absurd (none f is)
  choice false o f is = is

lawful-named : (known : Known) (v : Visible) (name : List ℕ) (at : ℕ) (params : List Param) (f : Callee) (g : Inlined) → plain (Function f) ≡ function_at at params → IsLawful f.past g → Lawful known v → Lawful (bind name (Function f) known) (record { known = bind name (function_at at params) v.known; functions = bind name g v.functions })
lawful-named known v name at params f g same lawful fs = record {
  same = same-function known v.known fs.same name at params f same;
  functions = λ q c is. choice (bytes_eq name q) (known q) (v.functions q) c is (fs.functions q c);
} where
  choice : (b : Bool) (o : Option Static) (h : Option Inlined) (c : Callee) → cond b (Some (Function f)) o ≡ Some (Function c) → (o ≡ Some (Function c) → IfSome h (IsLawful c.past)) → IfSome (cond b (Some g) h) (IsLawful c.past)
  choice true o h c is old = subst (λ past. IsLawful past g) (ap is_past is) lawful
  choice false o h c is old = old is

lawful-start : Lawful built_in start.visible
unfolding built_in
lawful-start = record { same = same-built_in; functions = λ q c is. choice (bytes_eq (codes "signed") q) c is } where
  choice : (b : Bool) (c : Callee) → cond b (Some (Function (record { item = None; params = 1; turns = 0; depth = 0; past = false }))) None ≡ Some (Function c) → IfSome (cond b (Some signed_function) None) (IsLawful c.past)
  choice true c is = subst (λ past. IsLawful past signed_function) (ap is_past is) lawful-signed
  choice false c is = tt

sound-item : (at : ℕ) (i : Item) (w w' : scope.World) (x : World) → scope.item_change at i w ≡ Ok w' → SoundWorld w x → SoundWorld w' (item_change at i x)
sound-item at (item.Input name width) w w' x walk sound = sound-input at name width w w' x walk sound
sound-item at (item.Output name width e) w w' x walk sound = sound-output name width e w w' x walk sound
sound-item at (item.Const name value) w w' x walk sound =
    let c = constant-inverted name value w w' walk in
    let n : c.number ≡ constant value x.visible.known = sym (constant-made w.known x.visible.known sound.lawful.same value c.number c.number_is) in
    let y = item_change at (item.Const name value) x in
    let lawful : Lawful w'.known y.visible = subst (λ k. Lawful k y.visible) (sym c.names.known) (subst (λ (m : ℕ). Lawful (bind name (Constant m) w.known) y.visible) (sym n) (lawful-static w.known x.visible name (Constant (constant value x.visible.known)) refl (λ f is. cc) sound.lawful)) in
    grown-world w w' x y sound lawful (same-progress x y refl sound.progress) refl c.names.inputs c.names.has_output
sound-item at (item.Table name values) w w' x walk sound =
    let c = table-inverted name values.items w w' walk in
    let ns : c.entries ≡ map (λ f. constant f x.visible.known) values.items = sym (entries-made w.known x.visible.known sound.lawful.same values.items c.entries c.entries_are) in
    let y = item_change at (item.Table name values) x in
    let lawful : Lawful w'.known y.visible = subst (λ k. Lawful k y.visible) (sym c.names.known) (subst (λ (m : List ℕ). Lawful (bind name (Table m) w.known) y.visible) (sym ns) (lawful-static w.known x.visible name (Table (map (λ f. constant f x.visible.known) values.items)) refl (λ f is. cc) sound.lawful)) in
    grown-world w w' x y sound lawful (same-progress x y refl sound.progress) refl c.names.inputs c.names.has_output
sound-item at (item.Function name params width body result) w w' x walk sound =
    let c = function-inverted at name params.items width body.items result w w' walk in
    let y = item_change at (item.Function name params width body result) x in
    let g = inlined params.items width body.items result x.visible in
    let is = lawful-function w.known x.visible sound.lawful at params.items width body.items result c.callee c.walk in
    let lawful : Lawful w'.known y.visible = subst (λ k. Lawful k y.visible) (sym c.names.known) (lawful-named w.known x.visible name at params.items c.callee g (callee-plain at params.items width body.items result w.known c.callee c.walk) is sound.lawful) in
    grown-world w w' x y sound lawful (same-progress x y refl sound.progress) refl c.names.inputs c.names.has_output
sound-item at (item.Step stmt) w w' x walk sound =
    let c = step-inverted stmt w w' walk in
    let p = statement-grown stmt w.known x.visible sound.lawful false (record { streams = w.streams; count = w.count }) (record { streams = w'.streams; count = w'.count }) c.walk Outside (inr refl) x.progress sound.progress in
    grown-world w w' x (item_change at (item.Step stmt) x) sound (subst (λ k. Lawful k x.visible) (sym c.known) sound.lawful) p refl c.inputs c.has_output

sound-start : SoundWorld scope.start start
sound-start = record {
  lawful = lawful-start;
  progress = record { state = record { each = λ i e there. cc; begun = tt }; streams = λ q r. tt };
  outputs = tt;
  input = λ some. absurd (some refl);
  output = λ is. absurd (false≢true is);
}

-- ---- what is read
-- a fact of each operand holds of an equation that is read, and of a past
equation-read : (P : Operand → Type 0) (j : ℕ) (args : List Operand) → list_any (reads_equation j) args ≡ true → AllByRecursion P args → P (Eq j)
equation-read P j [] reads all = absurd (false≢true reads)
equation-read P j (Const c ∷ args) reads all = equation-read P j args reads all.1
equation-read P j (Past rec k ∷ args) reads all = equation-read P j args reads all.1
equation-read P j (Eq i ∷ args) reads all = by_test (nat_eq i j) refl reads (λ rest. equation-read P j args rest all.1) where
  by_test : (b : Bool) → nat_eq i j ≡ b → (b || list_any (reads_equation j) args) ≡ true → (list_any (reads_equation j) args ≡ true → P (Eq j)) → P (Eq j)
  by_test true is any rest = subst (λ (n : ℕ). P (Eq n)) (eqb-true i j is) all.0
  by_test false is any rest = rest any

past-read : (P : Operand → Type 0) (rec : ℕ) (args : List Operand) → list_any (reads_past rec) args ≡ true → AllByRecursion P args → (k : ℕ) × P (Past rec k)
past-read P rec [] reads all = absurd (false≢true reads)
past-read P rec (Const c ∷ args) reads all = past-read P rec args reads all.1
past-read P rec (Eq i ∷ args) reads all = past-read P rec args reads all.1
past-read P rec (Past r k ∷ args) reads all = by_test (nat_eq r rec) refl reads (λ rest. past-read P rec args rest all.1) where
  by_test : (b : Bool) → nat_eq r rec ≡ b → (b || list_any (reads_past rec) args) ≡ true → (list_any (reads_past rec) args ≡ true → (n : ℕ) × P (Past rec n)) → (n : ℕ) × P (Past rec n)
  by_test true is any rest = (k, subst (λ (n : ℕ). P (Past n k)) (eqb-true r rec is) all.0)
  by_test false is any rest = rest any

none-read : (test : Operand → Bool) (args : List Operand) → (list_any test args ≡ true → ⊥) → list_any test args ≡ false
none-read test args none = by_test (list_any test args) refl where
  by_test : (b : Bool) → list_any test args ≡ b → list_any test args ≡ false
  by_test true is = absurd (none is)
  by_test false is = is

-- outside of every body the only bodies are those that have ended
ended-body : (es : Equations) (i first rec : ℕ) → StandsIn Outside es i first rec → PastOf es i rec
ended-body es i first rec (inl closed) = record { equation = closed.0; init = closed.1; first = first; there = closed.2; op = closed.3; low = closed.4; high = closed.5 }
ended-body es i first rec (inr begun) = absurd (let differ : Outside ≡ Inside first rec = begun.0 in cc)

-- ---- bodies
-- what depends on the past of a recurrence stands in its body, and is no delay
record InBody (es : Equations) (rec i : ℕ) : Type 0 where
  body : PastOf es i rec
  other : IsDelayAt es i → ⊥

no-delay : (es : Equations) (i : ℕ) (e : EquationShape) → slice_get es i ≡ Some e → (is_delay e.op ≡ true → ⊥) → IsDelayAt es i → ⊥
no-delay es i e there none d = none (subst (λ (x : EquationShape). is_delay x.op ≡ true) (one_equation es i d.equation e d.there there) d.delay)

depends : (es : Equations) (rec i : ℕ) → EachEquation es (Sound Outside es) → DependsOnPast es rec i → InBody es rec i
depends es rec i sound (ReadsPast k e there reads) =
    let s = sound k e there in
    let read = past-read (IsRead Outside es k) rec e.args reads s.operands in
    record {
      body = ended-body es k read.1.1.0 rec read.1.1.1;
      other = no-delay es k e there (λ is. (past-read (IsDelayed Outside es k) rec e.args reads (s.delays is)).1);
    }
depends es rec i sound (Reads k j e there reads other before) =
    let s = sound k e there in
    let b = depends es rec j sound before in
    let p = b.body in
    let read = equation-read (IsRead Outside es k) j e.args reads s.operands in
    let low = p.low in
    let high = p.high in
    let later : j < k = read.0 in
    let below : j < rec = (let differs = other in omega (arith, high, differs)) in
    let within : k ≤ rec = elim (cases_lt rec k) [
      | inl after ↦ absurd (b.other (read.1 rec p.equation p.init p.first p.there p.op after low below))
      | inr inside ↦ inside
    ] in
    record {
      body = record { equation = p.equation; init = p.init; first = p.first; there = p.there; op = p.op; low = omega (arith, low, later); high = within };
      other = no-delay es k e there (λ is. b.other (equation-read (IsDelayed Outside es k) j e.args reads (s.delays is) p.first rec (inl (p.equation, p.init, p.there, p.op, omega (arith, low, later), within)) low));
    }

apart : (es : Equations) (outputs : List Operand) → EachEquation es (Sound Outside es) → AreOutputs es outputs → (rec i : ℕ) → DependsOnPast es rec i → i ≢ rec → IsApart es outputs rec i
apart es outputs sound given rec i depends_on other =
    let b = depends es rec i sound depends_on in
    let p = b.body in
    let high = p.high in
    let below : i < rec = (let differs = other in omega (arith, high, differs)) in
    record {
      later = λ j e there after. none-read (reads_equation i) e.args (λ reads. b.other ((equation-read (IsRead Outside es j) i e.args reads (sound j e there).operands).1 rec p.equation p.init p.first p.there p.op after p.low below));
      outside = none-read (reads_equation i) outputs (λ reads. b.other ((equation-read (IsGiven Outside es) i outputs reads given).1.free rec p.equation p.there p.init p.first p.op p.low below));
    }

-- ---- operands
past-lawful : (es : Equations) (i rec k : ℕ) → 1 ≤ k → PastOf es i rec → is_lawful_operand es i (Past rec k) ≡ true
past-lawful es i rec k least p =
    let inside : is_in_body i rec p.equation.op ≡ true = ap (is_in_body i rec) p.op ∙ and_from (nat_le p.first i) (nat_le i rec) (le-leb p.first i p.low) (le-leb i rec p.high) in
    and_from (nat_le 1 k) (option_map_or (is_in_body i rec) (op_at es rec) false) (le-leb 1 k least) (ap (λ (o : Option EquationShape). option_map_or (is_in_body i rec) (option_map_or (λ (e : EquationShape). Some e.op) o None) false) p.there ∙ inside)

operands-lawful : (es : Equations) (i : ℕ) (args : List Operand) → AllByRecursion (IsRead Outside es i) args → list_all is_number args ≡ true → list_all (is_lawful_operand es i) args ≡ true
operands-lawful es i [] all numbers = refl
operands-lawful es i (Const c ∷ args) all numbers =
    let n = and_parts (nat_lt c (2 ^ 64)) (list_all is_number args) numbers in
    and_from (nat_lt c (2 ^ 64)) (list_all (is_lawful_operand es i) args) n.0 (operands-lawful es i args all.1 n.1)
operands-lawful es i (Eq j ∷ args) all numbers = and_from (nat_lt j i) (list_all (is_lawful_operand es i) args) (lt-ltb j i all.0.0) (operands-lawful es i args all.1 numbers)
operands-lawful es i (Past rec k ∷ args) all numbers = and_from (is_lawful_operand es i (Past rec k)) (list_all (is_lawful_operand es i) args) (past-lawful es i rec k all.0.0 (ended-body es i all.0.1.0 rec all.0.1.1)) (operands-lawful es i args all.1 numbers)

operands-ordered : (es : Equations) (i : ℕ) (args : List Operand) → AllByRecursion (IsRead Outside es i) args → list_all (is_ordered_operand es i) args ≡ true
operands-ordered es i [] all = refl
operands-ordered es i (Const c ∷ args) all = operands-ordered es i args all.1
operands-ordered es i (Eq j ∷ args) all = and_from (nat_lt j i) (list_all (is_ordered_operand es i) args) (lt-ltb j i all.0.0) (operands-ordered es i args all.1)
operands-ordered es i (Past rec k ∷ args) all = and_from (is_ordered_operand es i (Past rec k)) (list_all (is_ordered_operand es i) args) (past-lawful es i rec k all.0.0 (ended-body es i all.0.1.0 rec all.0.1.1)) (operands-ordered es i args all.1)

outputs-lawful : (es : Equations) (outputs : List Operand) → AreOutputs es outputs → list_all is_number outputs ≡ true → list_all (is_lawful_output (length es)) outputs ≡ true
outputs-lawful es [] all numbers = refl
outputs-lawful es (Const c ∷ outputs) all numbers =
    let n = and_parts (nat_lt c (2 ^ 64)) (list_all is_number outputs) numbers in
    and_from (nat_lt c (2 ^ 64)) (list_all (is_lawful_output (length es)) outputs) n.0 (outputs-lawful es outputs all.1 n.1)
outputs-lawful es (Eq i ∷ outputs) all numbers = and_from (nat_lt i (length es)) (list_all (is_lawful_output (length es)) outputs) (lt-ltb i (length es) all.0.0) (outputs-lawful es outputs all.1 numbers)
outputs-lawful es (Past rec k ∷ outputs) all numbers = absurd all.0

passes-at : (test : EquationShape → Bool) (es : Equations) → list_all test es ≡ true → (i : ℕ) (e : EquationShape) → slice_get es i ≡ Some e → test e ≡ true
passes-at test [] all i e there = absurd (let none : ◌≡◌ {A = Option EquationShape} None (Some e) = there in cc)
passes-at test (d ∷ es) all zero e there = let same : d ≡ e = cc in subst (λ (x : EquationShape). test x ≡ true) same (and_parts (test d) (list_all test es) all).0
passes-at test (d ∷ es) all (suc i) e there = passes-at test es (and_parts (test d) (list_all test es) all).1 i e there

-- ---- the law
flat : (es : Equations) (outputs : List Operand) → State Outside es → AreOutputs es outputs → length es ≤ 16384 → have_numbers es outputs ≡ true → list_any (λ (e : EquationShape). is_input e.op) es ≡ true → 0 < length outputs → IsFlat es outputs
flat es outputs state given few numbers input output =
    let n = and_parts (list_all (λ (e : EquationShape). list_all is_number e.args) es) (list_all is_number outputs) numbers in
    let sound = state.each in
    record {
      few = few;
      input = input;
      output = output;
      args = λ i e there. (sound i e there).args;
      kinds = λ i e there. (sound i e there).kinds;
      numbers = λ i e there. (sound i e there).numbers;
      widths = λ i e there. (sound i e there).width;
      ends = λ i e there. (sound i e there).ends;
      constants = λ i e there. (sound i e there).constant;
      operands = λ i e there. operands-lawful es i e.args (sound i e there).operands (passes-at (λ (d : EquationShape). list_all is_number d.args) es n.0 i e there);
      given = outputs-lawful es outputs given n.1;
      bodies = λ i e there init first op. (sound i e there).body init first op;
      apart = apart es outputs sound given;
    }

-- what the items of a program without an offence make
sound-program : (program : Program) → (none : offence program ≡ None) → SoundWorld (program-inverted program none).last (items_change 0 program.items.items start)
sound-program program none = let walk = program-inverted program none in items-made SoundWorld sound-item 0 program.items.items scope.start walk.last start walk.all sound-start

-- the equations of a program without an offence are flat, if they are few and their constants have 64 bits
pub program-flat : (program : Program) → offence program ≡ None → length (equations_of program).equations ≤ 16384 → have_numbers (equations_of program).equations (equations_of program).outputs ≡ true → IsFlat (equations_of program).equations (equations_of program).outputs
program-flat program none few numbers =
    let walk = program-inverted program none in
    let sound = sound-program program none in
    flat (equations_of program).equations (equations_of program).outputs sound.progress.state sound.outputs few numbers (sound.input walk.input) (sound.output walk.output)

-- and they have their order, however many they are
pub program-ordered : (program : Program) → offence program ≡ None → IsOrdered (equations_of program).equations
program-ordered program none =
    let each = (sound-program program none).progress.state.each in
    let es = (equations_of program).equations in
    record {
      operands = λ i e there. operands-ordered es i e.args (each i e there).operands;
      bodies = λ i e there init first op. (each i e there).body init first op;
    }
