-- For each stream instance of a program the number of its name: so many names of streams stand before it in the text. The turns of a loop
-- share the names in its body. In `input x:8; for i in 0..2 { let s[i] = x; let t[i] = s[i]; } output y = t[1];` the instances
-- x, s[0], t[0], s[1], t[1] and y have the numbers 0, 1, 2, 1, 2 and 3.
use Rattle.std.specs.Prelude.{ℕ, zero, suc, ◌+◌, ◌-◌, min, List, [], ◌∷◌, ◌++◌, map}
use Rattle.pr_lang.specs.declared.trees.Stmt.{Stmt}
use Rattle.pr_lang.specs.declared.trees.Stmt.TheOpen.{Stmt-F}
use Rattle.pr_lang.specs.declared.trees.Stmt.TheFolds.{fold-Stmt}
use Rattle.pr_lang.specs.declared.trees.Item.{Item}
use Rattle.pr_lang.specs.declared.trees.Item.TheVariants as item
use Rattle.pr_lang.specs.declared.trees.Program.{Program}
use Rattle.pr_scope_names.specs.declared.names.Static.TheVariants.{Index}
use Rattle.pr_scope_names.specs.Names.{Known, bind, built_in}
use Rattle.pr_expand_spec.specs.Making.{constant}
use Rattle.pr_probe.specs.Instances.{known_after}

-- so many names later, as far as 64 bits count
abbrev pub later : ℕ → ℕ → ℕ
later at by = min (at + by) 18446744073709551615

-- a statement: how many names of streams it has as it is written, and the numbers of its instances, where its first name has a given
-- number
pub record Naming : Type 0 where
  pub size : ℕ
  pub numbers : ℕ → Known → List ℕ

-- ---- statements one after the other
-- the number behind their names, the first of which has this one
abbrev pub behind : ℕ → List Naming → ℕ
behind at [] = at
behind at (n ∷ ns) = behind (later at n.size) ns

abbrev pub in_turn : List Naming → ℕ → Known → List ℕ
in_turn [] at known = []
in_turn (n ∷ ns) at known = n.numbers at known ++ in_turn ns (later at n.size) known

-- so many turns of a loop, whose index begins with this one
abbrev pub turns : ℕ → ℕ → (ℕ → List ℕ) → List ℕ
turns zero index f = []
turns (suc k) index f = f index ++ turns k (index + 1) f

-- ---- a statement
abbrev pub one_name : Naming
one_name = record { size = 1; numbers = λ at known. at ∷ [] }

abbrev pub stmt_step : Stmt-F Naming → Naming
stmt_step (Stmt-F.Let target width e) = one_name
stmt_step (Stmt-F.Rec target width init e) = one_name
stmt_step (Stmt-F.For index low high body) = record {
  size = behind 0 body.items;
  numbers = λ at known. turns (constant high known - constant low known) (constant low known) (λ i. in_turn body.items at (bind index (Index i) known));
}

abbrev pub naming_of : Stmt → Naming
naming_of = fold-Stmt Naming stmt_step

-- ---- items
-- how many names of streams an item has as it is written; those in a function count
abbrev pub item_size : Item → ℕ
item_size (item.Input name width) = 1
item_size (item.Output name width e) = 1
item_size (item.Const name value) = 0
item_size (item.Table name values) = 0
item_size (item.Function name params width body result) = behind 0 (map naming_of body.items)
item_size (item.Step stmt) = (naming_of stmt).size

abbrev pub item_numbers : Item → ℕ → Known → List ℕ
item_numbers (item.Input name width) at known = at ∷ []
item_numbers (item.Output name width e) at known = at ∷ []
item_numbers (item.Step stmt) at known = (naming_of stmt).numbers at known
item_numbers _ at known = []

-- items, the first of which is this one, and its first name that of this number
abbrev pub items_numbers : ℕ → List Item → ℕ → Known → List ℕ
items_numbers number [] at known = []
items_numbers number (i ∷ is) at known = item_numbers i at known ++ items_numbers (number + 1) is (later at (item_size i)) (known_after number i known)

abbrev pub numbers_of : Program → List ℕ
numbers_of program = items_numbers 0 program.items.items 0 built_in
