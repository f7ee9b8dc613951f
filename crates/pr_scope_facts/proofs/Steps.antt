-- Items, one after the other, in the walk, in the meaning and in the equations.
use Rattle.std.proofs.Common.{◌≡◌, ◌∙◌, ℕ, ◌+◌, false, List, [], ◌∷◌, map, length, Option, Some, None, option_map, Ok, refl, sym, ap, ap₂, subst, subst₂, Vec, Global}
use Rattle.std.specs.Option.{option_and_then}
use Rattle.std.proofs.lemmas.Option.{same_Some}
use Rattle.std.proofs.lemmas.Bool.{cond-true}
use Rattle.pr_lang.specs.declared.trees.Fixed.{Fixed}
use Rattle.pr_lang.specs.declared.trees.Expr.{Expr}
use Rattle.pr_lang.specs.declared.trees.Stmt.{Stmt}
use Rattle.pr_lang.specs.declared.trees.Param.{Param}
use Rattle.pr_lang.specs.declared.trees.Item.{Item}
use Rattle.pr_lang.specs.declared.trees.Item.TheVariants as item
use Rattle.pr_scope_names.specs.declared.names.Callee.{Callee}
use Rattle.pr_scope_names.specs.declared.names.Static.{Static}
use Rattle.pr_scope_names.specs.declared.names.Static.TheVariants.{Constant, Function, Table}
use Rattle.pr_scope_names.specs.Names.{Known}
use Rattle.pr_flat.specs.Forms as forms
use Rattle.pr_flat.specs.Facts as flat
use Rattle.pr_lang_meaning.specs.Streams as streams
use Rattle.pr_lang_meaning.specs.Streams.{Bound}
use Rattle.pr_lang_meaning.specs.Expressions as meaning_expressions
use Rattle.pr_lang_meaning.specs.Expressions.{meaning}
use Rattle.pr_lang_meaning.specs.Statements as meaning_statements
use Rattle.pr_lang_meaning.specs.Programs as meaning
use Rattle.pr_lang_meaning.specs.Programs.{function_at}
use Rattle.pr_expand_spec.specs.declared.givens.Standing.{Standing}
use Rattle.pr_expand_spec.specs.declared.givens.Standing.TheVariants.{Stream}
use Rattle.pr_flat.specs.declared.equations.Op.TheVariants.{Input}
use Rattle.pr_expand_spec.specs.Making.{constant, with_equation}
use Rattle.pr_expand_spec.specs.Expressions as equations_expressions
use Rattle.pr_expand_spec.specs.Expressions.{assigned}
use Rattle.pr_expand_spec.specs.Statements as equations_statements
use Rattle.pr_expand_spec.specs.Programs as equations
use Rattle.pr_scope.specs.Walk as scope
use Rattle.pr_scope_facts.proofs.Statics.{constant-made, constant-meant, entries-made, entries-meant, plain}
use Rattle.pr_scope_facts.proofs.Outcomes.{then_some}
use Rattle.pr_scope_facts.proofs.InvertedStatements.{width-flat}
use Rattle.pr_scope_facts.specs.Items.{AllItems}
use Rattle.pr_scope_facts.proofs.InvertedItems.{CalleeWalk, ConstWalk, FunctionWalk, InputWalk, Names, OutputWalk, StepWalk, TableWalk}
use Rattle.pr_scope_facts.proofs.Worlds.{SameStreams, SameVisible, signed_callee, streams-introduced, streams-none, streams-weaker, visible-first, visible-function, visible-made, visible-static}

-- what is visible, and the streams that are assigned
pub record SameWorld (S : Bound → Standing → Type 0) (F : Callee → meaning_expressions.Function → equations_expressions.Inlined → Type 0) (w : scope.World) (m : meaning.World) (x : equations.World) : Type 0 where
  pub visible : SameVisible F w.known m.visible x.visible
  pub streams : SameStreams S w.streams m.streams x.progress.streams

-- an item means something, and leaves worlds of which the facts hold
pub record Follows (S : Bound → Standing → Type 0) (F : Callee → meaning_expressions.Function → equations_expressions.Inlined → Type 0) (xs : List (List ℕ)) (at : ℕ) (i : Item) (w' : scope.World) (m after : meaning.World) (x : equations.World) : Type 0 where
  pub meant : meaning.item_change xs at i m ≡ Some after
  pub same : SameWorld S F w' after (equations.item_change at i x)

pub world-first : (S : Bound → Standing → Type 0) (F : Callee → meaning_expressions.Function → equations_expressions.Inlined → Type 0) → F signed_callee meaning.signed_function equations.signed_function → SameWorld S F scope.start meaning.start equations.start
world-first S F fact = record { visible = visible-first F fact; streams = streams-none S streams.no_streams equations.no_streams }

-- ---- names that stand for no stream
kept-streams : (S : Bound → Standing → Type 0) (name : List ℕ) (what : Static) (w w' : scope.World) (env : streams.Streams) (made : equations_expressions.Streams) → Names name what w w' → SameStreams S w.streams env made → SameStreams S w'.streams env made
kept-streams S name what w w' env made names same = subst (λ k. SameStreams S k env made) (sym names.streams) same

pub world-const : (S : Bound → Standing → Type 0) (F : Callee → meaning_expressions.Function → equations_expressions.Inlined → Type 0) (xs : List (List ℕ)) (at : ℕ) (name : List ℕ) (value : Fixed) (w w' : scope.World) (m : meaning.World) (x : equations.World) → (walk : ConstWalk name value w w') → SameWorld S F w m x → Follows S F xs at (item.Const name value) w' m (meaning.with_static name m (Constant walk.number)) x
world-const S F xs at name value w w' m x walk same =
    let number : constant value x.visible.known ≡ walk.number = constant-made w.known x.visible.known (visible-made F w.known m.visible x.visible same.visible) value walk.number walk.number_is in
    record {
      meant = ap (option_map (λ n. meaning.with_static name m (Constant n))) (constant-meant w.known m.visible.known same.visible.meant value walk.number walk.number_is);
      same = record {
        visible = subst₂ (λ k n. SameVisible F k (meaning.with_static name m (Constant walk.number)).visible (equations.with_static name (Constant n) x).visible) (sym walk.names.known) (sym number) (visible-static F w.known m.visible x.visible name (Constant walk.number) refl same.visible);
        streams = kept-streams S name (Constant walk.number) w w' m.streams x.progress.streams walk.names same.streams;
      };
    }

pub world-table : (S : Bound → Standing → Type 0) (F : Callee → meaning_expressions.Function → equations_expressions.Inlined → Type 0) (xs : List (List ℕ)) (at : ℕ) (name : List ℕ) (values : Vec Fixed Global) (w w' : scope.World) (m : meaning.World) (x : equations.World) → (walk : TableWalk name values.items w w') → SameWorld S F w m x → Follows S F xs at (item.Table name values) w' m (meaning.with_static name m (Table walk.entries)) x
world-table S F xs at name values w w' m x walk same =
    let entries : map (λ f. constant f x.visible.known) values.items ≡ walk.entries = entries-made w.known x.visible.known (visible-made F w.known m.visible x.visible same.visible) values.items walk.entries walk.entries_are in
    record {
      meant = ap (option_map (λ ns. meaning.with_static name m (Table ns))) (entries-meant w.known m.visible.known same.visible.meant values.items walk.entries walk.entries_are);
      same = record {
        visible = subst₂ (λ k ns. SameVisible F k (meaning.with_static name m (Table walk.entries)).visible (equations.with_static name (Table ns) x).visible) (sym walk.names.known) (sym entries) (visible-static F w.known m.visible x.visible name (Table walk.entries) refl same.visible);
        streams = kept-streams S name (Table walk.entries) w w' m.streams x.progress.streams walk.names same.streams;
      };
    }

-- a function's callers see it as its item's
pub callee-plain : (at : ℕ) (params : List Param) (width : Option ℕ) (body : List Stmt) (result : Expr) (known : Known) (f : Callee) → CalleeWalk at params width body result known f → plain (Function f) ≡ function_at at params
callee-plain at params width body result known f walk = ap₂ (λ (i : Option ℕ) (n : ℕ). Function (record { item = i; params = n; turns = 0; depth = 0; past = false })) walk.item walk.count

pub world-function : (S : Bound → Standing → Type 0) (F : Callee → meaning_expressions.Function → equations_expressions.Inlined → Type 0) (xs : List (List ℕ)) (at : ℕ) (name : List ℕ) (params : Vec Param Global) (width : Option ℕ) (body : Vec Stmt Global) (result : Expr) (w w' : scope.World) (m : meaning.World) (x : equations.World) → (walk : FunctionWalk at name params.items width body.items result w w') → F walk.callee (meaning.function_of params.items width body.items result m.visible) (equations.inlined params.items width body.items result x.visible) → SameWorld S F w m x → Follows S F xs at (item.Function name params width body result) w' m (meaning.with_function name (function_at at params.items) (meaning.function_of params.items width body.items result m.visible) m) x
world-function S F xs at name params width body result w w' m x walk fact same =
    let f = meaning.function_of params.items width body.items result m.visible in
    let g = equations.inlined params.items width body.items result x.visible in
    let what = function_at at params.items in
    record {
      meant = refl;
      same = record {
        visible = subst (λ k. SameVisible F k (meaning.with_function name what f m).visible (equations.with_function name what g x).visible) (sym walk.names.known) (visible-function F w.known m.visible x.visible name at params.items walk.callee f g (callee-plain at params.items width body.items result w.known walk.callee walk.walk) fact same.visible);
        streams = kept-streams S name (Function walk.callee) w w' m.streams x.progress.streams walk.names same.streams;
      };
    }

-- ---- streams; a fact of those before may become another one, since there are more equations
pub world-input : (S T : Bound → Standing → Type 0) (F : Callee → meaning_expressions.Function → equations_expressions.Inlined → Type 0) (xs : List (List ℕ)) (at : ℕ) (name : List ℕ) (width : ℕ) (w w' : scope.World) (m : meaning.World) (x : equations.World) → InputWalk name width w w' → ((b : Bound) (s : Standing) → S b s → T b s) → T (record { init = 0; stream = meaning.input_stream width m.inputs xs }) (Stream (with_equation Input [] (Some (equations.input_width width)) x.progress.equations).given 0) → SameWorld S F w m x → Follows T F xs at (item.Input name width) w' m (meaning.with_input name (meaning.input_stream width m.inputs xs) m) x
world-input S T F xs at name width w w' m x walk weaker fact same =
    let s = meaning.input_stream width m.inputs xs in
    let given = (with_equation Input [] (Some (equations.input_width width)) x.progress.equations).given in
    record {
      meant = cond-true (flat.is_width width) (Some (meaning.with_input name s m)) None (width-flat width walk.lawful_width);
      same = record {
        visible = subst (λ k. SameVisible F k m.visible x.visible) (sym walk.known) same.visible;
        streams = streams-introduced T name None w.known w.streams w'.streams m.streams x.progress.streams (record { init = 0; stream = s }) (Stream given 0) walk.introduces fact (streams-weaker S T weaker w.streams m.streams x.progress.streams same.streams);
      };
    }

pub world-output : (S T : Bound → Standing → Type 0) (F : Callee → meaning_expressions.Function → equations_expressions.Inlined → Type 0) (xs : List (List ℕ)) (at : ℕ) (name : List ℕ) (width : Option ℕ) (value : Expr) (w w' : scope.World) (m : meaning.World) (x : equations.World) (s : forms.Stream) → OutputWalk name width value w w' → ((b : Bound) (s : Standing) → S b s → T b s) → streams.assigned width (meaning value m.visible (length xs) (streams.sources (length xs) m.streams)) ≡ Some s → T (record { init = 0; stream = s }) (Stream (assigned width value x.visible x.progress.streams x.progress.equations).given 0) → SameWorld S F w m x → Follows T F xs at (item.Output name width value) w' m (meaning.with_output name m s) x
world-output S T F xs at name width value w w' m x s walk weaker is fact same =
    let given = (assigned width value x.visible x.progress.streams x.progress.equations).given in
    record {
      meant = ap (option_map (meaning.with_output name m)) is;
      same = record {
        visible = subst (λ k. SameVisible F k m.visible x.visible) (sym walk.known) same.visible;
        streams = streams-introduced T name None w.known w.streams w'.streams m.streams x.progress.streams (record { init = 0; stream = s }) (Stream given 0) walk.introduces fact (streams-weaker S T weaker w.streams m.streams x.progress.streams same.streams);
      };
    }

pub world-step : (S T : Bound → Standing → Type 0) (F : Callee → meaning_expressions.Function → equations_expressions.Inlined → Type 0) (xs : List (List ℕ)) (at : ℕ) (stmt : Stmt) (w w' : scope.World) (m : meaning.World) (x : equations.World) (env : streams.Streams) → StepWalk stmt w w' → meaning_statements.change_of stmt m.visible (length xs) m.streams ≡ Some env → SameStreams T w'.streams env (equations_statements.change_of stmt x.visible x.progress).streams → SameWorld S F w m x → Follows T F xs at (item.Step stmt) w' m (record m { streams = env }) x
world-step S T F xs at stmt w w' m x env walk is after same = record {
  meant = ap (option_map (λ (e : streams.Streams). record m { streams = e })) is;
  same = record {
    visible = subst (λ k. SameVisible F k m.visible x.visible) (sym walk.known) same.visible;
    streams = after;
  };
}

-- ---- all items
-- The equations alone: what each item keeps, all items keep.
pub items-made : (R : scope.World → equations.World → Type 0) → ((at : ℕ) (i : Item) (w w' : scope.World) (x : equations.World) → scope.item_change at i w ≡ Ok w' → R w x → R w' (equations.item_change at i x)) → (at : ℕ) (items : List Item) (w last : scope.World) (x : equations.World) → AllItems at items w last → R w x → R last (equations.items_change at items x)
items-made R step at [] w last x all fact = subst (λ y. R y x) all fact
items-made R step at (i ∷ is) w last x all fact = items-made R step (at + 1) is all.0 last (equations.item_change at i x) all.2 (step at i w all.0 x all.1 fact)

-- What the items mean, and what is reached then.
pub record Reaches (R : scope.World → meaning.World → equations.World → Type 0) (w : scope.World) (m : Option meaning.World) (x : equations.World) : Type 0 where
  pub after : meaning.World
  pub meant : m ≡ Some after
  pub fact : R w after x

fine-before : (Fine : equations.World → Type 0) → ((at : ℕ) (i : Item) (x : equations.World) → Fine (equations.item_change at i x) → Fine x) → (at : ℕ) (items : List Item) (x : equations.World) → Fine (equations.items_change at items x) → Fine x
fine-before Fine earlier at [] x fine = fine
fine-before Fine earlier at (i ∷ is) x fine = earlier at i x (fine-before Fine earlier (at + 1) is (equations.item_change at i x) fine)

-- From the equations to the meaning: where the equations in the end are fine, and so were those before, each item means something.
pub items-eliminated : (R : scope.World → meaning.World → equations.World → Type 0) (Fine : equations.World → Type 0) (xs : List (List ℕ)) → ((at : ℕ) (i : Item) (x : equations.World) → Fine (equations.item_change at i x) → Fine x) → ((at : ℕ) (i : Item) (w w' : scope.World) (m : meaning.World) (x : equations.World) → scope.item_change at i w ≡ Ok w' → Fine (equations.item_change at i x) → R w m x → Reaches R w' (meaning.item_change xs at i m) (equations.item_change at i x)) → (at : ℕ) (items : List Item) (w last : scope.World) (m : meaning.World) (x : equations.World) → AllItems at items w last → Fine (equations.items_change at items x) → R w m x → Reaches R last (meaning.items_change xs at items m) (equations.items_change at items x)
items-eliminated R Fine xs earlier step at [] w last m x all fine fact = record { after = m; meant = refl; fact = subst (λ y. R y m x) all fact }
items-eliminated R Fine xs earlier step at (i ∷ is) w last m x all fine fact =
    let next = equations.item_change at i x in
    let first = step at i w all.0 m x all.1 (fine-before Fine earlier (at + 1) is next fine) fact in
    let rest = items-eliminated R Fine xs earlier step (at + 1) is all.0 last first.after next all.2 fine first.fact in
    record { after = rest.after; meant = ap (option_and_then (meaning.items_change xs (at + 1) is)) first.meant ∙ rest.meant; fact = rest.fact }

-- From the meaning to the equations: what each item keeps, all items keep, where they mean something.
pub items-introduced : (R : scope.World → meaning.World → equations.World → Type 0) (xs : List (List ℕ)) → ((at : ℕ) (i : Item) (w w' : scope.World) (m n : meaning.World) (x : equations.World) → scope.item_change at i w ≡ Ok w' → meaning.item_change xs at i m ≡ Some n → R w m x → R w' n (equations.item_change at i x)) → (at : ℕ) (items : List Item) (w last : scope.World) (m n : meaning.World) (x : equations.World) → AllItems at items w last → meaning.items_change xs at items m ≡ Some n → R w m x → R last n (equations.items_change at items x)
items-introduced R xs step at [] w last m n x all is fact = subst₂ (λ y z. R y z x) all (same_Some m n is) fact
items-introduced R xs step at (i ∷ is) w last m n x all met fact =
    let first = then_some (meaning.item_change xs at i m) (meaning.items_change xs (at + 1) is) n met in
    items-introduced R xs step (at + 1) is all.0 last first.0 n (equations.item_change at i x) all.2 first.2 (step at i w all.0 m first.0 x all.1 first.1 fact)
