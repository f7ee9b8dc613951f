-- What is visible at each item, and what the code keeps of it.
use Rattle.std.specs.Prelude.{◌≡◌, ℕ, zero, suc, ◌<◌, ◌≤◌, false, List, map, Option, Some, None, slice_get, ⊤}
use Rattle.pr_lang.specs.declared.trees.Item.{Item}
use Rattle.pr_lang.specs.declared.trees.Item.TheVariants as item
use Rattle.pr_scope_names.specs.declared.names.Callee.{Callee}
use Rattle.pr_scope_names.specs.declared.names.Static.{Static}
use Rattle.pr_scope_names.specs.declared.names.Static.TheVariants.{Constant, Function, Table}
use Rattle.pr_scope_names.specs.declared.names.Statics.{Statics}
use Rattle.pr_scope_names.specs.Names.{IsOutside, before, bind, entries_in, horizon_in, indices_in, known_in, whole}
use Rattle.pr_lang_meaning.specs.Programs.{function_at}
use Rattle.pr_flat.specs.declared.equations.Operand.TheVariants.{Const}
use Rattle.pr_expand_spec.specs.Making.{constant, made}
use Rattle.pr_expand_spec.specs.Expressions.{Inlined, Visible}
use Rattle.pr_expand_spec.specs.Programs.{inlined, signed_function, start}

-- what is visible after the item of this number
abbrev pub after : ℕ → Option Item → Visible → Visible
after at (Some (item.Const name value)) v = record { known = bind name (Constant (constant value v.known)) v.known; functions = v.functions }
after at (Some (item.Table name values)) v = record { known = bind name (Table (map (λ f. constant f v.known) values.items)) v.known; functions = v.functions }
after at (Some (item.Function name params width body result)) v = record { known = bind name (function_at at params.items) v.known; functions = bind name (inlined params.items width body.items result v) v.functions }
after at _ v = v

-- what is visible after so many items
unfoldable pub visible_at : List Item → ℕ → Visible
visible_at items zero = start.visible
visible_at items (suc n) = after n (slice_get items n) (visible_at items n)

abbrev pub defined : Option Item → Visible → Inlined
defined (Some (item.Function name params width body result)) v = inlined params.items width body.items result v
defined _ v = λ args equations. made equations (Const 0) false

-- what a call of the function of this item does
abbrev pub called_at : List Item → Option ℕ → Inlined
called_at items None = signed_function
called_at items (Some k) = defined (slice_get items k) (visible_at items k)

abbrev pub functions_before : List Item → Option ℕ → List ℕ → Option Inlined
functions_before items None = λ _. None
functions_before items (Some h) = (visible_at items h).functions

abbrev pub visible_in : List Item → Statics → Visible
visible_in items s = record { known = known_in s; functions = functions_before items s.horizon }

abbrev pub IsEarlier : ℕ → Option ℕ → Type 0
IsEarlier h None = ⊤
IsEarlier h (Some k) = k < h

-- a name that stands for a function is that of an earlier item, or built in
pub record IsCallable (items : List Item) (h : ℕ) (name : List ℕ) (f : Callee) : Type 0 where
  pub earlier : IsEarlier h f.item
  pub does : (visible_at items h).functions name ≡ Some (called_at items f.item)

abbrev pub callee_in : Option Static → Option Callee
callee_in (Some (Function f)) = Some f
callee_in _ = None

-- at an item of this number, or in the body of a function that it defines
pub record IsAt (items : List Item) (s : Statics) (h : ℕ) : Type 0 where
  pub here : horizon_in s ≡ Some h
  pub defines : (n : ℕ) → n ≤ h → before n (entries_in s) ≡ (visible_at items n).known
  pub calls : (name : List ℕ) (f : Callee) → known_in s name ≡ Some (Function f) → IsCallable items h name f

pub record IsScene (items : List Item) (s : Statics) : Type 0 where
  pub item : ℕ
  pub at : IsAt items s item

-- between items, where so many of them stand before
pub record IsBefore (items : List Item) (s : Statics) (n : ℕ) : Type 0 where
  pub outside : IsOutside s
  pub indices : indices_in s ≡ (λ _. None)
  pub all : before n (entries_in s) ≡ whole (entries_in s)
  pub defines : (m : ℕ) → m ≤ n → before m (entries_in s) ≡ (visible_at items m).known
