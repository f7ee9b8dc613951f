-- What names stand for where they are visible.
use Rattle.std.specs.Prelude.{ℕ, Bool, true, false, not, ◌&&◌, ◌||◌, nat_eq, nat_lt, cond, ◌≡◌, List, Option, Some, None, is_none, is_some, option_map, Vec, bytes_eq, codes, Result, Ok}
use Rattle.std.specs.Ordering.{nat_cmp}
use Rattle.std.specs.Cmp.Lexicographic.{slice_cmp}
use Rattle.std.specs.Map.{update}
use Rattle.std.specs.BTreeMap.{BTreeMap, get_by}
use Rattle.std.specs.HashMap as hash
use Rattle.std.specs.declared.alloc.Global.{Global}
use Rattle.pr_scope_names.specs.declared.rules.Rule.TheVariants.{Introduced}
use Rattle.pr_scope_names.specs.declared.rules.Offence.{Offence}
use Rattle.pr_scope_names.specs.declared.names.Static.{Static}
use Rattle.pr_scope_names.specs.declared.names.Static.TheVariants.{Function}
use Rattle.pr_scope_names.specs.declared.instances.Instances.{Instances}
use Rattle.pr_scope_names.specs.declared.instances.Places.{Places}
use Rattle.pr_scope_names.specs.declared.names.Entry.{Entry}
use Rattle.pr_scope_names.specs.declared.names.Frame.{Frame}
use Rattle.pr_scope_names.specs.declared.names.Statics.{Statics}
use Rattle.pr_scope_names.specs.declared.streams.Streams.{Streams}
use Rattle.pr_scope_names.specs.Outcomes.{provided}

-- the constants, tables, indices and functions that are visible
abbrev pub Known : Type 0
Known = List ℕ → Option Static

-- The streams that are visible: for each name the instances that are assigned. An instance is the name alone, or the
-- name with an index.
abbrev pub Streaming : Type 0
Streaming = List ℕ → Option (Option ℕ → Bool)

abbrev pub bind : {X : Type 0} → List ℕ → X → (List ℕ → Option X) → List ℕ → Option X
bind name x f = λ q. update bytes_eq f name (Some x) q

abbrev pub unbind : {X : Type 0} → List ℕ → (List ℕ → Option X) → List ℕ → Option X
unbind name f = λ q. update bytes_eq f name None q

-- before the first item only `signed` is visible
unfoldable pub built_in : Known
built_in =
    bind (codes "signed") (Function (record { item = None; params = 1; turns = 0; depth = 0; past = false }))
    (λ _. None)

abbrev pub same_place : Option ℕ → Option ℕ → Bool
same_place None None = true
same_place (Some m) (Some n) = nat_eq m n
same_place _ _ = false

abbrev pub held : Option (Option ℕ → Bool) → Option ℕ → Bool
held None place = false
held (Some places) place = places place

abbrev pub is_free : List ℕ → Known → Streaming → Bool
is_free name known streams = is_none (known name) && is_none (streams name)

-- a name becomes a stream, or gets another instance
abbrev pub with_place : List ℕ → Option ℕ → Streaming → Streaming
with_place name place streams = bind name (λ q. same_place place q || held (streams name) q) streams

abbrev pub assign : List ℕ → Option ℕ → Known → Streaming → Result Streaming Offence
assign name place known streams =
    provided (is_none (known name) && not (held (streams name) place)) Introduced
    (Ok (with_place name place streams))

-- what the code keeps
abbrev pub at_name : {X : Type 0} → BTreeMap (Vec ℕ Global) X → List ℕ → Option X
at_name m name = get_by (λ k. slice_cmp nat_cmp name k.items) m

-- whether the items before the horizon have this one among them; what is built in stands before every item
abbrev pub is_seen : Option ℕ → Option ℕ → Bool
is_seen None horizon = true
is_seen (Some item) None = true
is_seen (Some item) (Some horizon) = nat_lt item horizon

abbrev pub what_before : Option ℕ → Option Entry → Option Static
what_before horizon None = None
what_before horizon (Some e) = cond (is_seen e.item horizon) (Some e.what) None

-- an index hides what an item introduces
abbrev pub shown : Option Static → Option Static → Option Static
shown None other = other
shown (Some index) other = Some index

abbrev pub Entries : Type 0
Entries = List ℕ → Option Entry

-- what was visible where the item of this number begins
abbrev pub before : ℕ → Entries → Known
before item entries = λ q. what_before (Some item) (entries q)

-- the item of this number introduces a name
abbrev pub bind_by : ℕ → List ℕ → Static → Entries → Entries
bind_by item name what entries = bind name (record { item = Some item; what = what }) entries

abbrev pub entries_in : Statics → Entries
entries_in s name = at_name s.entries name

abbrev pub indices_in : Statics → Known
indices_in s name = at_name s.indices name

abbrev pub horizon_in : Statics → Option ℕ
horizon_in s = s.horizon

abbrev pub known_in : Statics → Known
known_in s name = shown (indices_in s name) (what_before s.horizon (entries_in s name))

-- the same names are visible, for the same items
pub record KeepsNames (old new : Statics) : Type 0 where
  pub entries : entries_in new ≡ entries_in old
  pub indices : indices_in new ≡ indices_in old
  pub horizon : horizon_in new ≡ horizon_in old

-- in no function's body that was entered by a call
abbrev pub IsOutside : Statics → Type 0
IsOutside s = s.horizon ≡ None

abbrev pub indices_of : Frame → Known
indices_of f name = at_name f.indices name

abbrev pub horizon_of : Frame → Option ℕ
horizon_of f = f.horizon

-- what the instances of each name stand for; none where it has no instance
abbrev pub ByInstance : Type 0 → Type 0
ByInstance X = List ℕ → Option (Option ℕ → Option X)

abbrev pub placed : {X : Type 0} → Option (Option ℕ → Option X) → Option ℕ → Option X
placed None place = None
placed (Some places) place = places place

abbrev pub put_at : {X : Type 0} → Option ℕ → X → (Option ℕ → Option X) → Option ℕ → Option X
put_at place x places q = cond (same_place place q) (Some x) (places q)

-- a name gets an instance, or one of its instances comes to stand for something else
abbrev pub with_instance : {X : Type 0} → List ℕ → Option ℕ → X → ByInstance X → ByInstance X
with_instance name place x s = bind name (put_at place x (placed (s name))) s

abbrev pub placed_in : {X : Type 0} → Places X → Option ℕ → Option X
placed_in p None = p.alone
placed_in p (Some n) = hash.get_by (nat_eq n) p.indexed

-- what a table that finds by hashes has at a name
abbrev pub at_hash : {X S : Type 0} → hash.HashMap (Vec ℕ Global) X S → List ℕ → Option X
at_hash m name = hash.get_by (λ k. bytes_eq name k.items) m

abbrev pub instances_in : {X : Type 0} → Instances X → ByInstance X
instances_in s name = option_map placed_in (at_hash s.map name)

abbrev pub are_there : {X : Type 0} → (Option ℕ → Option X) → Option ℕ → Bool
are_there places place = is_some (places place)

abbrev pub streams_in : Streams → Streaming
streams_in s name = option_map are_there (instances_in s.instances name)

-- what all items that are entered introduce
abbrev pub whole : Entries → Known
whole entries = λ q. what_before None (entries q)

-- all that is introduced was visible where the item of this number begins
abbrev pub SeesAll : ℕ → Entries → Type 0
SeesAll item entries = before item entries ≡ whole entries
