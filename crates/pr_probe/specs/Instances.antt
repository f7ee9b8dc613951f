-- The stream instances that are visible at the end of a program, in text order and with loops unrolled.
use Rattle.std.specs.Prelude.{◌≡◌, ℕ, zero, suc, ◌+◌, ◌-◌, List, [], ◌∷◌, ◌++◌, map, None, ⊤}
use Rattle.pr_lang.specs.declared.trees.Ref.{Ref}
use Rattle.pr_lang.specs.declared.trees.Stmt.{Stmt}
use Rattle.pr_lang.specs.declared.trees.Stmt.TheOpen.{Stmt-F}
use Rattle.pr_lang.specs.declared.trees.Stmt.TheFolds.{fold-Stmt}
use Rattle.pr_lang.specs.declared.trees.Item.{Item}
use Rattle.pr_lang.specs.declared.trees.Item.TheVariants as item
use Rattle.pr_lang.specs.declared.trees.Program.{Program}
use Rattle.pr_scope_names.specs.declared.names.Static.TheVariants.{Constant, Index, Table}
use Rattle.pr_scope_names.specs.declared.streams.Instance.{Instance}
use Rattle.pr_scope_names.specs.Names.{Known, Streaming, bind, built_in, with_place}
use Rattle.pr_lang_meaning.specs.Programs.{function_at}
use Rattle.pr_expand_spec.specs.Making.{constant}
use Rattle.pr_expand_spec.specs.Expressions.{place}

-- what is assigned where these names are visible
abbrev pub Listing : Type 0
Listing = Known → List Instance

abbrev pub target_of : Ref → Listing
target_of target known = record { name = target.name; index = place target known } ∷ []

abbrev pub in_turn : List Listing → Listing
in_turn [] known = []
in_turn (f ∷ fs) known = f known ++ in_turn fs known

abbrev pub turns : ℕ → ℕ → (ℕ → List Instance) → List Instance
turns zero at f = []
turns (suc k) at f = f at ++ turns k (at + 1) f

abbrev pub stmt_step : Stmt-F Listing → Listing
stmt_step (Stmt-F.Let target width e) known = target_of target known
stmt_step (Stmt-F.Rec target width init e) known = target_of target known
stmt_step (Stmt-F.For index low high body) known =
    let from = constant low known in
    turns (constant high known - from) from (λ at. in_turn body.items (bind index (Index at) known))

abbrev pub listing_of : Stmt → Listing
listing_of = fold-Stmt Listing stmt_step

-- the items from this number on
abbrev pub items_listing : ℕ → List Item → Listing
items_listing at [] known = []
items_listing at (item.Input name width ∷ is) known = record { name = name; index = None } ∷ items_listing (at + 1) is known
items_listing at (item.Output name width e ∷ is) known = record { name = name; index = None } ∷ items_listing (at + 1) is known
items_listing at (item.Const name value ∷ is) known = items_listing (at + 1) is (bind name (Constant (constant value known)) known)
items_listing at (item.Table name values ∷ is) known = items_listing (at + 1) is (bind name (Table (map (λ f. constant f known) values.items)) known)
items_listing at (item.Function name params width body result ∷ is) known = items_listing (at + 1) is (bind name (function_at at params.items) known)
items_listing at (item.Step stmt ∷ is) known = listing_of stmt known ++ items_listing (at + 1) is known

abbrev pub instances_of : Program → List Instance
instances_of program = items_listing 0 program.items.items built_in

-- the streams that are assigned once these are
abbrev pub with_all : List Instance → Streaming → Streaming
with_all [] streams = streams
with_all (i ∷ is) streams = with_all is (with_place i.name i.index streams)

-- ---- item by item
abbrev pub item_listing : Item → Listing
item_listing (item.Input name width) known = record { name = name; index = None } ∷ []
item_listing (item.Output name width e) known = record { name = name; index = None } ∷ []
item_listing (item.Step stmt) known = listing_of stmt known
item_listing _ known = []

abbrev pub known_after : ℕ → Item → Known → Known
known_after at (item.Const name value) known = bind name (Constant (constant value known)) known
known_after at (item.Table name values) known = bind name (Table (map (λ f. constant f known) values.items)) known
known_after at (item.Function name params width body result) known = bind name (function_at at params.items) known
known_after at _ known = known

-- what an item introduces beside streams has a new name
abbrev pub IsFree : Item → Known → Type 0
IsFree (item.Const name value) known = known name ≡ None
IsFree (item.Table name values) known = known name ≡ None
IsFree (item.Function name params width body result) known = known name ≡ None
IsFree _ known = ⊤
