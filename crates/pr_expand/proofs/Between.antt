-- What is visible between items.
use mathlib.Core.Path.{fun_ext}
use Rattle.std.proofs.Common.{◌≡◌, ◌∙◌, ℕ, ◌+◌, ◌≤◌, ◌<◌, List, [], Option, Some, None, refl, sym, ap, subst, arith, add-one, slice_get, ⊎_elim, cond, Bool, true, false, bytes_eq, map, length, drop, get_or, Vec, Global, Result, Ok, Err, IfOk}
use Rattle.std.proofs.Math.Nat.{eq-or-lt_of_le}
use Rattle.std.proofs.lemmas.List.{at_drop_more}
use Rattle.pr_lang.specs.declared.trees.Item.{Item}
use Rattle.pr_scope_names.specs.declared.names.Entry.{Entry}
use Rattle.pr_scope_names.specs.declared.names.Static.{Static}
use Rattle.pr_scope_names.specs.declared.names.Statics.{Statics}
use Rattle.pr_scope_names.specs.Names.{Entries, IsOutside, KeepsNames, Known, before, bind, built_in, entries_in, horizon_in, indices_in, is_seen, known_in, shown, what_before, whole}
use Rattle.pr_scope_names.proofs.Seen.{later_name, next_adds, next_keeps}
use Rattle.pr_scope_names.specs.declared.names.Static.TheVariants as static
use Rattle.pr_lang.specs.declared.trees.Fixed.{Fixed}
use Rattle.pr_lang.specs.declared.trees.Param.{Param}
use Rattle.pr_lang.specs.declared.trees.Stmt.{Stmt}
use Rattle.pr_lang.specs.declared.trees.Expr.{Expr}
use Rattle.pr_lang.specs.declared.trees.Item.TheVariants as item
use Rattle.pr_flat.specs.declared.equations.Operand.{Operand}
use Rattle.pr_lang_meaning.specs.Programs.{function_at}
use Rattle.pr_expand_spec.specs.Making.{constant}
use Rattle.pr_expand_spec.specs.Expressions.{Visible}
use Rattle.pr_expand_spec.specs.Statements.{Progress}
use Rattle.pr_expand_spec.specs.Programs.{World, item_change, items_change, start}
use Rattle.pr_scope.specs.Walk as scope
use Rattle.pr_scope_facts.specs.Items.{AllItems}
use Rattle.pr_scope_facts.proofs.InvertedItems.{input-inverted, output-inverted, constant-inverted, table-inverted, function-inverted, step-inverted}
use Rattle.pr_expand.specs.Worlds.{IsFree}
use Rattle.pr_expand.specs.Scopes.{IsBefore, IsScene, after, functions_before, visible_at, visible_in}
use Rattle.pr_expand.proofs.Callables.{callable_at}

pub visible_next : (items : List Item) (n : ℕ) (i : Item) → slice_get items n ≡ Some i → visible_at items (n + 1) ≡ after n (Some i) (visible_at items n)
unfolding visible_at
visible_next items n i is = ap (λ (m : ℕ). visible_at items m) (add-one n) ∙ ap (λ (o : Option Item). after n o (visible_at items n)) is

pub known_whole : (s : Statics) → IsOutside s → indices_in s ≡ (λ _. None) → known_in s ≡ whole (entries_in s)
known_whole s outside none = λ i. λ q. shown (none i q) (what_before (outside i) (entries_in s q))

pub known_before : (items : List Item) (s : Statics) (n : ℕ) → IsBefore items s n → known_in s ≡ (visible_at items n).known
known_before items s n b = known_whole s b.outside b.indices ∙ (sym b.all ∙ b.defines n (omega arith))

-- into an item
pub visible_inside : (items : List Item) (s t : Statics) (n : ℕ) → IsBefore items s n → known_in t ≡ before n (entries_in s) → horizon_in t ≡ Some n → visible_in items t ≡ visible_at items n
visible_inside items s t n b known horizon =
    let seen : known_in t ≡ (visible_at items n).known = known ∙ b.defines n (omega arith) in
    λ i. record { known = seen i; functions = functions_before items (horizon i) }

pub scene_inside : (items : List Item) (s t : Statics) (n : ℕ) → IsBefore items s n → known_in t ≡ before n (entries_in s) → entries_in t ≡ entries_in s → horizon_in t ≡ Some n → IsScene items t
scene_inside items s t n b known entries horizon =
    let seen : known_in t ≡ (visible_at items n).known = known ∙ b.defines n (omega arith) in
    record {
      item = n;
      at = record {
        here = horizon;
        defines = λ m h. ap (before m) entries ∙ b.defines m h;
        calls = λ q f is. callable_at items n q f (ap (λ (k : Known). k q) (sym seen) ∙ is);
      };
    }

-- the items before stay those before
pub before_kept : (items : List Item) (s t : Statics) (n : ℕ) → KeepsNames s t → IsBefore items s n → IsBefore items t n
before_kept items s t n k b = record {
  outside = k.horizon ∙ b.outside;
  indices = k.indices ∙ b.indices;
  all = ap (before n) k.entries ∙ (b.all ∙ sym (ap whole k.entries));
  defines = λ m h. ap (before m) k.entries ∙ b.defines m h;
}

up_to : (items : List Item) (es : Entries) (n m : ℕ) → ((k : ℕ) → k ≤ n → before k es ≡ (visible_at items k).known) → before (n + 1) es ≡ (visible_at items (n + 1)).known → m ≤ n + 1 → before m es ≡ (visible_at items m).known
up_to items es n m below last h =
    ⊎_elim
    (λ e. subst (λ (k : ℕ). before k es ≡ (visible_at items k).known) (sym e) last)
    (λ l. below m (omega (arith, l)))
    (eq-or-lt_of_le h)

-- an item that introduces no name
pub before_same : (items : List Item) (s t : Statics) (n : ℕ) → KeepsNames s t → (visible_at items (n + 1)).known ≡ (visible_at items n).known → IsBefore items s n → IsBefore items t (n + 1)
before_same items s t n k same b =
    let c = before_kept items s t n k b in
    let next : before (n + 1) (entries_in t) ≡ whole (entries_in t) = next_keeps n (entries_in t) c.all in
    let here : before (n + 1) (entries_in t) ≡ (visible_at items (n + 1)).known = next ∙ (sym c.all ∙ (c.defines n (omega arith) ∙ sym same)) in
    record {
      outside = c.outside;
      indices = c.indices;
      all = next;
      defines = λ m h. up_to items (entries_in t) n m c.defines here h;
    }

seen_always : (item : Option ℕ) → is_seen item None ≡ true
seen_always None = refl
seen_always (Some n) = refl

shown_always : (e : Entry) → what_before None (Some e) ≡ Some e.what
shown_always e = ap (λ (b : Bool). cond b (Some e.what) None) (seen_always e.item)

unknown : (o : Option Entry) → what_before None o ≡ None → o ≡ None
unknown None h = refl
unknown (Some e) h = let other : Some e.what ≡ None = sym (shown_always e) ∙ h in absurd (cc)

bound : (b : Bool) (n : ℕ) (what : Static) (o : Option Entry) → what_before None (cond b (Some (record { item = Some n; what = what })) o) ≡ cond b (Some what) (what_before None o)
bound true n what o = refl
bound false n what o = refl

-- an item that introduces a name
pub before_new : (items : List Item) (s t : Statics) (n : ℕ) (name : List ℕ) (what : Static) → entries_in t ≡ bind name (record { item = Some n; what = what }) (entries_in s) → indices_in t ≡ indices_in s → horizon_in t ≡ horizon_in s → known_in s name ≡ None → (visible_at items (n + 1)).known ≡ bind name what (visible_at items n).known → IsBefore items s n → IsBefore items t (n + 1)
before_new items s t n name what entries indices horizon free known b =
    let es = entries_in s in
    let own : Entry = record { item = Some n; what = what } in
    let new : es name ≡ None = unknown (es name) (ap (λ (k : Known). k name) (sym (known_whole s b.outside b.indices)) ∙ free) in
    let next : before (n + 1) (entries_in t) ≡ whole (entries_in t) = ap (before (n + 1)) entries ∙ (next_adds name n what es b.all ∙ sym (ap whole entries)) in
    let all : whole (entries_in t) ≡ bind name what (whole es) = ap whole entries ∙ fun_ext (λ q. bound (bytes_eq name q) n what (es q)) in
    let here : before (n + 1) (entries_in t) ≡ (visible_at items (n + 1)).known = next ∙ (all ∙ (ap (λ (k : Known). bind name what k) (sym b.all ∙ b.defines n (omega arith)) ∙ sym known)) in
    record {
      outside = horizon ∙ b.outside;
      indices = indices ∙ b.indices;
      all = next;
      defines = λ m h. up_to items (entries_in t) n m (λ k l. ap (before k) entries ∙ (later_name name n k what es l new ∙ b.defines k l)) here h;
    }

-- before the first item
pub before_first : (items : List Item) (s : Statics) → IsOutside s → indices_in s ≡ (λ _. None) → before 0 (entries_in s) ≡ built_in → whole (entries_in s) ≡ built_in → IsBefore items s 0
unfolding visible_at
before_first items s outside indices first all = record {
  outside = outside;
  indices = indices;
  all = first ∙ sym all;
  defines = λ m h. let none : m ≡ 0 = omega (arith, h) in subst (λ (k : ℕ). before k (entries_in s) ≡ (visible_at items k).known) (sym none) first;
}

pub world_first : (items : List Item) (p : Progress) (o : List Operand) → p ≡ start.progress → o ≡ [] → record { visible = visible_at items 0; progress = p; outputs = o } ≡ start
unfolding visible_at
world_first items p o progress outputs = λ i. record { visible = start.visible; progress = progress i; outputs = outputs i }

-- what the item of a name makes visible
pub same_known : (items : List Item) (n : ℕ) (it kind : Item) → slice_get items n ≡ Some it → it ≡ kind → (after n (Some kind) (visible_at items n)).known ≡ (visible_at items n).known → (visible_at items (n + 1)).known ≡ (visible_at items n).known
same_known items n it kind there is same = ap (λ (v : Visible). v.known) (visible_next items n it there ∙ ap (λ (x : Item). after n (Some x) (visible_at items n)) is) ∙ same

pub const_known : (items : List Item) (s : Statics) (n : ℕ) (it : Item) (name : List ℕ) (value : Fixed) (amount : ℕ) → IsBefore items s n → slice_get items n ≡ Some it → it ≡ item.Const name value → amount ≡ constant value (known_in s) → (visible_at items (n + 1)).known ≡ bind name (static.Constant amount) (visible_at items n).known
const_known items s n it name value amount b there is gives =
    let v = visible_at items n in
    let same : amount ≡ constant value v.known = gives ∙ ap (constant value) (known_before items s n b) in
    ap (λ (w : Visible). w.known) (visible_next items n it there ∙ ap (λ (x : Item). after n (Some x) v) is) ∙ ap (λ (k : ℕ). bind name (static.Constant k) v.known) (sym same)

pub table_known : (items : List Item) (s : Statics) (n : ℕ) (it : Item) (name : List ℕ) (values : Vec Fixed Global) (lent : List Fixed) (entries table : List ℕ) → IsBefore items s n → slice_get items n ≡ Some it → it ≡ item.Table name values → lent ≡ values.items → entries ≡ map (λ (f : Fixed). constant f (known_in s)) lent → table ≡ entries → (visible_at items (n + 1)).known ≡ bind name (static.Table table) (visible_at items n).known
table_known items s n it name values lent entries table b there is all gives holds =
    let v = visible_at items n in
    let same : table ≡ map (λ (f : Fixed). constant f v.known) values.items = holds ∙ (gives ∙ (λ i. map (λ (f : Fixed). constant f (known_before items s n b i)) (all i))) in
    ap (λ (w : Visible). w.known) (visible_next items n it there ∙ ap (λ (x : Item). after n (Some x) v) is) ∙ ap (λ (k : List ℕ). bind name (static.Table k) v.known) (sym same)

pub function_known : (items : List Item) (n : ℕ) (it : Item) (name : List ℕ) (params : Vec Param Global) (width : Option ℕ) (body : Vec Stmt Global) (result : Expr) (lent : List Param) (what : Static) → slice_get items n ≡ Some it → it ≡ item.Function name params width body result → lent ≡ params.items → what ≡ function_at n lent → (visible_at items (n + 1)).known ≡ bind name what (visible_at items n).known
function_known items n it name params width body result lent what there is all gives =
    let v = visible_at items n in
    let same : what ≡ function_at n params.items = gives ∙ ap (function_at n) all in
    ap (λ (w : Visible). w.known) (visible_next items n it there ∙ ap (λ (x : Item). after n (Some x) v) is) ∙ ap (λ (k : Static). bind name k v.known) (sym same)

-- an item, by its kind
pub next_world : (items : List Item) (n : ℕ) (it kind : Item) (p : Progress) (o : List Operand) (w : World) → slice_get items n ≡ Some it → it ≡ kind → record { visible = after n (Some kind) (visible_at items n); progress = p; outputs = o } ≡ item_change n kind w → record { visible = visible_at items (n + 1); progress = p; outputs = o } ≡ item_change n it w
next_world items n it kind p o w there is step =
    let next : visible_at items (n + 1) ≡ after n (Some kind) (visible_at items n) = visible_next items n it there ∙ ap (λ (x : Item). after n (Some x) (visible_at items n)) is in
    let moved : record { visible = visible_at items (n + 1); progress = p; outputs = o } ≡ record { visible = after n (Some kind) (visible_at items n); progress = p; outputs = o } = λ i. record { visible = next i; progress = p; outputs = o } in
    moved ∙ (step ∙ sym (ap (λ (x : Item). item_change n x w) is))

-- items, one after the other
pub items_step : (items : List Item) (i n : ℕ) (it : Item) (w v e : World) → i < length items → it ≡ get_or items i it → v ≡ item_change n it w → items_change n (drop i items) w ≡ e → items_change (n + 1) (drop (i + 1) items) v ≡ e
items_step items i n it w v e h is step rest =
    ap (items_change (n + 1) (drop (i + 1) items)) step ∙
    (ap (λ (x : Item). items_change (n + 1) (drop (i + 1) items) (item_change n x w)) is ∙
    (sym (at_drop_more (λ (xs : List Item). items_change n xs w) items i it h) ∙ rest))

pub if_ok_three : {T E : Type 0} {P Q R S : T → Type 0} (r : Result T E) → IfOk r P → IfOk r Q → IfOk r R → ((x : T) → P x → Q x → R x → S x) → IfOk r S
if_ok_three (Ok x) p q r f = f x p q r
if_ok_three (Err e) p q r f = tt

-- ---- new names
-- a name that the walk does not know is not seen
abbrev pub Agrees : Known → Known → Type 0
Agrees walked seen = (q : List ℕ) → walked q ≡ None → seen q ≡ None

still_unknown : (b : Bool) (x y : Static) (o p : Option Static) → (o ≡ None → p ≡ None) → cond b (Some x) o ≡ None → cond b (Some y) p ≡ None
still_unknown true x y o p agree h = absurd (cc)
still_unknown false x y o p agree h = agree h

agrees_bound : (name : List ℕ) (x y : Static) (walked seen : Known) → Agrees walked seen → Agrees (bind name x walked) (bind name y seen)
agrees_bound name x y walked seen agree q = still_unknown (bytes_eq name q) x y (walked q) (seen q) (agree q)

agrees_after : (items : List Item) (n : ℕ) (it : Item) (w w' : scope.World) (v : Visible) → scope.item_change n it w ≡ Ok w' → Agrees w.known v.known → Agrees w'.known (after n (Some it) v).known
agrees_after items n (item.Input name width) w w' v is agree = subst (λ (k : Known). Agrees k v.known) (sym (input-inverted name width w w' is).known) agree
agrees_after items n (item.Output name width e) w w' v is agree = subst (λ (k : Known). Agrees k v.known) (sym (output-inverted name width e w w' is).known) agree
agrees_after items n (item.Const name value) w w' v is agree = let walk = constant-inverted name value w w' is in subst (λ (k : Known). Agrees k (bind name (static.Constant (constant value v.known)) v.known)) (sym walk.names.known) (agrees_bound name _ (static.Constant (constant value v.known)) w.known v.known agree)
agrees_after items n (item.Table name values) w w' v is agree = let walk = table-inverted name values.items w w' is in subst (λ (k : Known). Agrees k (after n (Some (item.Table name values)) v).known) (sym walk.names.known) (agrees_bound name _ _ w.known v.known agree)
agrees_after items n (item.Function name params width body result) w w' v is agree = let walk = function-inverted n name params.items width body.items result w w' is in subst (λ (k : Known). Agrees k (after n (Some (item.Function name params width body result)) v).known) (sym walk.names.known) (agrees_bound name _ _ w.known v.known agree)
agrees_after items n (item.Step stmt) w w' v is agree = subst (λ (k : Known). Agrees k v.known) (sym (step-inverted stmt w w' is).known) agree

pub agrees_first : (items : List Item) → Agrees scope.start.known (visible_at items 0).known
unfolding visible_at
agrees_first items q h = h

-- the walk before the item of a number
pub record WalkBefore (items : List Item) (n : ℕ) : Type 0 where
  pub world : scope.World
  pub last : scope.World
  pub rest : AllItems n (drop n items) world last
  pub agrees : Agrees world.known (visible_at items n).known

pub walk_first : (items : List Item) (last : scope.World) → AllItems 0 items scope.start last → WalkBefore items 0
walk_first items last all = record { world = scope.start; last = last; rest = all; agrees = agrees_first items }

record WalkOne (items : List Item) (n : ℕ) (it : Item) (w last : scope.World) : Type 0 where
  next : scope.World
  step : scope.item_change n it w ≡ Ok next
  rest : AllItems (n + 1) (drop (n + 1) items) next last

walk_one : (items : List Item) (n : ℕ) (it : Item) (w last : scope.World) → n < length items → it ≡ get_or items n it → AllItems n (drop n items) w last → WalkOne items n it w last
walk_one items n it w last h is all =
    let parts = subst (λ (xs : List Item). AllItems n xs w last) (at_drop_more (λ (xs : List Item). xs) items n it h) all in
    record { next = parts.0; step = ap (λ (i : Item). scope.item_change n i w) is ∙ parts.1; rest = parts.2 }

pub walk_next : (items : List Item) (n : ℕ) (it : Item) → n < length items → it ≡ get_or items n it → slice_get items n ≡ Some it → WalkBefore items n → WalkBefore items (n + 1)
walk_next items n it h is there b =
    let one = walk_one items n it b.world b.last h is b.rest in
    record {
      world = one.next;
      last = b.last;
      rest = one.rest;
      agrees = subst (λ (v : Visible). Agrees one.next.known v.known) (sym (visible_next items n it there)) (agrees_after items n it b.world one.next (visible_at items n) one.step b.agrees);
    }

free_in : (items : List Item) (n : ℕ) (it : Item) (s : Statics) (w w' : scope.World) → scope.item_change n it w ≡ Ok w' → Agrees w.known (known_in s) → IsFree it s
free_in items n (item.Input name width) s w w' is agree = tt
free_in items n (item.Output name width e) s w w' is agree = tt
free_in items n (item.Const name value) s w w' is agree = agree name (constant-inverted name value w w' is).names.unknown
free_in items n (item.Table name values) s w w' is agree = agree name (table-inverted name values.items w w' is).names.unknown
free_in items n (item.Function name params width body result) s w w' is agree = agree name (function-inverted n name params.items width body.items result w w' is).names.unknown
free_in items n (item.Step stmt) s w w' is agree = tt

pub walk_free : (items : List Item) (n : ℕ) (it : Item) (s : Statics) → n < length items → it ≡ get_or items n it → WalkBefore items n → IsBefore items s n → IsFree it s
walk_free items n it s h is b before =
    let one = walk_one items n it b.world b.last h is b.rest in
    free_in items n it s b.world one.next one.step (subst (λ (k : Known). Agrees b.world.known k) (sym (known_before items s n before)) b.agrees)
