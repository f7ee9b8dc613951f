-- What is visible stays so where the names are kept.
use Rattle.std.proofs.Common.{◌≡◌, ◌∙◌, ℕ, zero, suc, refl, Bool, true, false, cond, List, [], Option, Some, None, sym, ap, subst, bytes_eq, slice_get}
use mathlib.Core.Path.{fun_ext}
use Rattle.std.specs.Option.{IfSome}
use Rattle.std.specs.Map.{update}
use Rattle.std.specs.Cmp.Lexicographic.{bytes_decides}
use Rattle.std.proofs.lemmas.Bool.{false≢true}
use Rattle.pr_lang.specs.declared.trees.Item.{Item}
use Rattle.pr_lang.specs.declared.trees.Item.TheVariants as item
use Rattle.pr_scope_names.specs.declared.names.Statics.{Statics}
use Rattle.pr_scope_names.specs.declared.names.Callee.{Callee}
use Rattle.pr_scope_names.specs.declared.names.Static.{Static}
use Rattle.pr_scope_names.specs.declared.names.Static.TheVariants.{Constant, Function, Index, Table}
use Rattle.pr_scope_names.specs.Names.{Known, KeepsNames, before, bind, entries_in, horizon_in, indices_in, known_in, shown, what_before}
use Rattle.pr_scope_names.proofs.Seen.{known_index, known_kept}
use Rattle.pr_expand_spec.specs.Expressions.{Inlined, Visible, function_of}
use Rattle.pr_expand_spec.specs.Programs.{World, no_streams}
use Rattle.pr_scope_facts.proofs.Appending.{AllAppend, DoesAppend, appends-nothing, inlined-appends, signed-appends, start-appends, visible-appends}
use Rattle.pr_expand.specs.Scopes.{IsScene, after, called_at, defined, functions_before, visible_at, visible_in}

abbrev world : Visible → World
world v = record { visible = v; progress = record { streams = no_streams; equations = [] }; outputs = [] }

pub visible_kept : (items : List Item) (s t : Statics) → KeepsNames s t → visible_in items t ≡ visible_in items s
visible_kept items s t k =
    let known : known_in t ≡ known_in s = known_kept s t k in
    λ i. record { known = known i; functions = functions_before items (k.horizon i) }

pub scene_kept : (items : List Item) (s t : Statics) → KeepsNames s t → IsScene items s → IsScene items t
scene_kept items s t k scene = record {
  item = scene.item;
  at = record {
    here = k.horizon ∙ scene.at.here;
    defines = λ n h. ap (before n) k.entries ∙ scene.at.defines n h;
    calls = λ name f is. scene.at.calls name f (ap (λ (m : Known). m name) (sym (known_kept s t k)) ∙ is);
  };
}

abbrev is_function : Option Static → Bool
is_function (Some (Function f)) = true
is_function _ = false

not_index : (b : Bool) (at : ℕ) (f : Callee) (o : Option Static) → cond b (Some (Index at)) o ≡ Some (Function f) → o ≡ Some (Function f)
not_index true at f o h = absurd (false≢true (ap is_function h))
not_index false at f o h = h

-- an index is no function
pub scene_index : (items : List Item) (s t : Statics) (name : List ℕ) (at : ℕ) → entries_in t ≡ entries_in s → horizon_in t ≡ horizon_in s → known_in t ≡ bind name (Index at) (known_in s) → IsScene items s → IsScene items t
scene_index items s t name at entries horizon known scene = record {
  item = scene.item;
  at = record {
    here = horizon ∙ scene.at.here;
    defines = λ n h. ap (before n) entries ∙ scene.at.defines n h;
    calls = λ q f is. scene.at.calls q f (not_index (bytes_eq name q) at f (known_in s q) (ap (λ (m : Known). m q) (sym known) ∙ is));
  };
}

after_appends : (n : ℕ) (o : Option Item) (v : Visible) → AllAppend v → AllAppend (after n o v)
after_appends n None v fs = fs
after_appends n (Some (item.Input name width)) v fs = fs
after_appends n (Some (item.Output name width e)) v fs = fs
after_appends n (Some (item.Const name value)) v fs = visible-appends n (item.Const name value) (world v) fs
after_appends n (Some (item.Table name values)) v fs = visible-appends n (item.Table name values) (world v) fs
after_appends n (Some (item.Function name params width body result)) v fs = visible-appends n (item.Function name params width body result) (world v) fs
after_appends n (Some (item.Step stmt)) v fs = fs

pub appends_at : (items : List Item) (n : ℕ) → AllAppend (visible_at items n)
unfolding visible_at
appends_at items zero = start-appends
appends_at items (suc n) = after_appends n (slice_get items n) (visible_at items n) (appends_at items n)

defined_appends : (o : Option Item) (v : Visible) → AllAppend v → DoesAppend (defined o v)
defined_appends None v fs args es = appends-nothing es
defined_appends (Some (item.Input name width)) v fs args es = appends-nothing es
defined_appends (Some (item.Output name width e)) v fs args es = appends-nothing es
defined_appends (Some (item.Const name value)) v fs args es = appends-nothing es
defined_appends (Some (item.Table name values)) v fs args es = appends-nothing es
defined_appends (Some (item.Function name params width body result)) v fs args es = inlined-appends params.items width body.items result v fs args es
defined_appends (Some (item.Step stmt)) v fs args es = appends-nothing es

called_appends : (items : List Item) (at : Option ℕ) → DoesAppend (called_at items at)
called_appends items None = signed-appends
called_appends items (Some k) = defined_appends (slice_get items k) (visible_at items k) (appends_at items k)

by_known : (items : List Item) (o : Option Static) (g : Option Inlined) → ((f : Callee) → o ≡ Some (Function f) → g ≡ Some (called_at items f.item)) → IfSome (function_of o g) DoesAppend
by_known items None g is = tt
by_known items (Some (Constant n)) g is = tt
by_known items (Some (Index n)) g is = tt
by_known items (Some (Table ns)) g is = tt
by_known items (Some (Function f)) g is = subst (λ (x : Option Inlined). IfSome x DoesAppend) (sym (is f refl)) (called_appends items f.item)

-- what is visible only appends
pub scene_appends : (items : List Item) (s : Statics) → IsScene items s → AllAppend (visible_in items s)
scene_appends items s scene = record { at = λ q. by_known items (known_in s q) (functions_before items (horizon_in s) q) (λ f is. ap (λ (h : Option ℕ). functions_before items h q) scene.at.here ∙ (scene.at.calls q f is).does) }

-- ---- an index that is put and taken back
pub known_swapped : (s t : Statics) (name : List ℕ) (at : ℕ) → entries_in t ≡ entries_in s → horizon_in t ≡ horizon_in s → indices_in t ≡ (λ q. update bytes_eq (indices_in s) name (Some (Index at)) q) → known_in t ≡ bind name (Index at) (known_in s)
known_swapped s t name at entries horizon indices =
    let seen : Known = λ q. what_before (horizon_in s) (entries_in s q) in
    let moved : known_in t ≡ (λ q. shown (indices_in t q) (seen q)) = λ i. λ q. shown (indices_in t q) (what_before (horizon i) (entries i q)) in
    moved ∙ known_index name (Index at) (indices_in s) (indices_in t) seen indices

put_back : (b : Bool) (x : Static) (was o : Option Static) → (b ≡ true → was ≡ o) → cond b was (cond b (Some x) o) ≡ o
put_back true x was o h = h refl
put_back false x was o h = refl

pub index_back : (s t u v : Statics) (name : List ℕ) (x : Static) (was : Option Static) → was ≡ indices_in s name → indices_in t ≡ (λ q. update bytes_eq (indices_in s) name (Some x) q) → entries_in t ≡ entries_in s → horizon_in t ≡ horizon_in s → KeepsNames t u → indices_in v ≡ (λ q. update bytes_eq (indices_in u) name was q) → entries_in v ≡ entries_in u → horizon_in v ≡ horizon_in u → KeepsNames s v
index_back s t u v name x was is put_i put_e put_h kept out_i out_e out_h = record {
  entries = out_e ∙ (kept.entries ∙ put_e);
  indices = out_i ∙ (ap (λ (f : Known). λ (q : List ℕ). update bytes_eq f name was q) (kept.indices ∙ put_i) ∙ fun_ext (λ q. put_back (bytes_eq name q) x was (indices_in s q) (λ y. is ∙ ap (indices_in s) ((bytes_decides name q).0 y))));
  horizon = out_h ∙ (kept.horizon ∙ put_h);
}
