-- What a call does: the function of an item before, or the one that is built in.
use Rattle.std.proofs.Common.{◌≡◌, ◌∙◌, ◌<◌, ℕ, zero, suc, Bool, true, false, cond, List, Option, Some, None, refl, sym, ap, subst, arith, bytes_eq, slice_get}
use Rattle.std.specs.Prelude.{codes}
use Rattle.std.proofs.lemmas.Bool.{false≢true}
use Rattle.pr_lang.specs.declared.trees.Item.{Item}
use Rattle.pr_lang.specs.declared.trees.Item.TheVariants as item
use Rattle.pr_scope_names.specs.declared.names.Callee.{Callee}
use Rattle.pr_scope_names.specs.declared.names.Static.{Static}
use Rattle.pr_scope_names.specs.declared.names.Static.TheVariants.{Constant, Function, Index, Table}
use Rattle.pr_scope_names.specs.declared.names.Statics.{Statics}
use Rattle.pr_scope_names.specs.Names.{Known, before, built_in, entries_in, horizon_in, known_in}
use Rattle.pr_lang_meaning.specs.Programs.{function_at}
use Rattle.pr_expand_spec.specs.Expressions.{AllExpanded, Inlined, called, function_of}
use Rattle.pr_expand_spec.specs.Programs.{inlined, signed_function}
use Rattle.pr_expand.specs.Scopes.{IsCallable, IsEarlier, IsScene, after, called_at, callee_in, defined, functions_before, visible_at, visible_in}

abbrev is_there : Option Callee → Bool
is_there None = false
is_there (Some f) = true

abbrev as_static : Option Callee → Option Static
as_static None = None
as_static (Some f) = Some (Function f)

abbrev is_function : Option Static → Bool
is_function (Some (Function f)) = true
is_function _ = false

abbrev item_of : Option Static → Option ℕ
item_of (Some (Function f)) = f.item
item_of _ = None

pub callee_known : (o : Option Static) (f : Callee) → Some f ≡ callee_in o → o ≡ Some (Function f)
callee_known None f h = absurd (false≢true (ap is_there (sym h)))
callee_known (Some (Constant n)) f h = absurd (false≢true (ap is_there (sym h)))
callee_known (Some (Index n)) f h = absurd (false≢true (ap is_there (sym h)))
callee_known (Some (Table ns)) f h = absurd (false≢true (ap is_there (sym h)))
callee_known (Some (Function g)) f h = ap as_static (sym h)

earlier_more : (n : ℕ) (o : Option ℕ) → IsEarlier n o → IsEarlier (suc n) o
earlier_more n None h = h
earlier_more n (Some k) h = omega (arith, h)

plain : (b : Bool) (x : Static) (o : Option Static) (f : Callee) → is_function (Some x) ≡ false → cond b (Some x) o ≡ Some (Function f) → o ≡ Some (Function f)
plain true x o f kind h = absurd (false≢true (sym kind ∙ ap is_function h))
plain false x o f kind h = h

abbrev IsCalled : List Item → ℕ → Option Inlined → Callee → Type 0
IsCalled items n does f = IsEarlier n f.item × (does ≡ Some (called_at items f.item))

more : (items : List Item) (n : ℕ) (q : List ℕ) (f : Callee) → IsCallable items n q f → IsCalled items (suc n) ((visible_at items n).functions q) f
more items n q f c = (earlier_more n f.item c.earlier, c.does)

defines : (items : List Item) (n at : ℕ) (b : Bool) (x : Static) (o : Option Static) (own : Inlined) (old : Option Inlined) (f : Callee) → item_of (Some x) ≡ Some at → at < n → own ≡ called_at items (Some at) → (o ≡ Some (Function f) → IsCalled items n old f) → cond b (Some x) o ≡ Some (Function f) → IsCalled items n (cond b (Some own) old) f
defines items n at true x o own old f is less does rest h =
    let item : Some at ≡ f.item = sym is ∙ ap item_of h in
    (subst (IsEarlier n) item less, ap (λ (i : Inlined). Some i) does ∙ ap (λ (k : Option ℕ). Some (called_at items k)) item)
defines items n at false x o own old f is less does rest h = rest h

next : (items : List Item) (n : ℕ) (o : Option Item) (q : List ℕ) (f : Callee) → o ≡ slice_get items n → ((visible_at items n).known q ≡ Some (Function f) → IsCallable items n q f) → (after n o (visible_at items n)).known q ≡ Some (Function f) → IsCalled items (suc n) ((after n o (visible_at items n)).functions q) f
next items n None q f is old h = more items n q f (old h)
next items n (Some (item.Input name width)) q f is old h = more items n q f (old h)
next items n (Some (item.Output name width e)) q f is old h = more items n q f (old h)
next items n (Some (item.Const name value)) q f is old h = more items n q f (old (plain (bytes_eq name q) _ ((visible_at items n).known q) f refl h))
next items n (Some (item.Table name values)) q f is old h = more items n q f (old (plain (bytes_eq name q) _ ((visible_at items n).known q) f refl h))
next items n (Some (item.Function name params width body result)) q f is old h =
    defines items (suc n) n (bytes_eq name q) (function_at n params.items) ((visible_at items n).known q) (inlined params.items width body.items result (visible_at items n)) ((visible_at items n).functions q) f refl (omega arith) (ap (λ (o : Option Item). defined o (visible_at items n)) is) (λ k. more items n q f (old k)) h
next items n (Some (item.Step stmt)) q f is old h = more items n q f (old h)

first : (items : List Item) (b : Bool) (x : Static) (f : Callee) → item_of (Some x) ≡ None → cond b (Some x) None ≡ Some (Function f) → IsCalled items 0 (cond b (Some signed_function) None) f
first items true x f is h =
    let item : None ≡ f.item = sym is ∙ ap item_of h in
    (subst (IsEarlier 0) item tt, ap (λ (k : Option ℕ). Some (called_at items k)) item)
first items false x f is h = absurd (false≢true (ap is_function h))

-- a function that is visible after so many items stands before
pub callable_at : (items : List Item) (n : ℕ) (q : List ℕ) (f : Callee) → (visible_at items n).known q ≡ Some (Function f) → IsCallable items n q f
unfolding visible_at built_in
callable_at items zero q f h = let r = first items (bytes_eq (codes "signed") q) _ f refl h in record { earlier = r.0; does = r.1 }
callable_at items (suc n) q f h = let r = next items n (slice_get items n) q f refl (callable_at items n q f) h in record { earlier = r.0; does = r.1 }

-- into the body of a function
pub entered : (items : List Item) (s t : Statics) (name : List ℕ) (f : Callee) (k : ℕ) → known_in s name ≡ Some (Function f) → f.item ≡ Some k → entries_in t ≡ entries_in s → horizon_in t ≡ Some k → known_in t ≡ before k (entries_in s) → IsScene items s → IsScene items t
entered items s t name f k is item entries horizon known scene =
    let less : k < scene.item = subst (IsEarlier scene.item) item (scene.at.calls name f is).earlier in
    let seen : known_in t ≡ (visible_at items k).known = known ∙ scene.at.defines k (omega (arith, less)) in
    record {
      item = k;
      at = record {
        here = horizon;
        defines = λ n h. ap (before n) entries ∙ scene.at.defines n (omega (arith, h, less));
        calls = λ q g e. callable_at items k q g (ap (λ (m : Known). m q) (sym seen) ∙ e);
      };
    }

-- the one that is built in
pub signed_is : (items : List Item) (s : Statics) (name : List ℕ) (f : Callee) (a : AllExpanded) → known_in s name ≡ Some (Function f) → f.item ≡ None → IsScene items s → signed_function a.given a.equations ≡ called (function_of (known_in s name) (functions_before items (horizon_in s) name)) a
signed_is items s name f a is item scene =
    let does : functions_before items (horizon_in s) name ≡ Some (called_at items f.item) = ap (λ (h : Option ℕ). functions_before items h name) scene.at.here ∙ (scene.at.calls name f is).does in
    ap (λ (o : Option ℕ). called_at items o a.given a.equations) (sym item) ∙
    sym (λ i. called (function_of (is i) (does i)) a)

pub called_is : (items : List Item) (s t : Statics) (name : List ℕ) (f : Callee) (k : ℕ) (o : Option Item) (a : AllExpanded) → known_in s name ≡ Some (Function f) → f.item ≡ Some k → horizon_in t ≡ Some k → known_in t ≡ before k (entries_in s) → IsScene items s → o ≡ slice_get items k → defined o (visible_in items t) a.given a.equations ≡ called (function_of (known_in s name) (functions_before items (horizon_in s) name)) a
called_is items s t name f k o a is item horizon known scene there =
    let callable = scene.at.calls name f is in
    let less : k < scene.item = subst (IsEarlier scene.item) item callable.earlier in
    let seen : known_in t ≡ (visible_at items k).known = known ∙ scene.at.defines k (omega (arith, less)) in
    let does : functions_before items (horizon_in s) name ≡ Some (called_at items f.item) = ap (λ (h : Option ℕ). functions_before items h name) scene.at.here ∙ callable.does in
    (λ i. defined (there i) (record { known = seen i; functions = functions_before items (horizon i) }) a.given a.equations) ∙
    (ap (λ (o : Option ℕ). called_at items o a.given a.equations) (sym item) ∙
    sym (λ i. called (function_of (is i) (does i)) a))
