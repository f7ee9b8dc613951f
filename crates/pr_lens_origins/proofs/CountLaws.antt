-- Each stream instance has a number.
use mathlib.Core.Path.{transport}
use Rattle.std.proofs.Common.{◌≡◌, ◌∙◌, ◌+◌, ◌-◌, ℕ, zero, suc, List, [], ◌∷◌, ◌++◌, map, length, refl, sym, ap, ap₂, subst}
use Rattle.std.proofs.lemmas.List.{length-append}
use Rattle.pr_lang.specs.declared.trees.Stmt.{Stmt, map-Stmt}
use Rattle.pr_lang.specs.declared.trees.Stmt.TheOpen.{Stmt-F}
use Rattle.pr_lang.specs.declared.trees.Stmt.TheFolds.{fold-roll-Stmt, ind-Stmt}
use Rattle.pr_lang.specs.declared.trees.Item.{Item}
use Rattle.pr_lang.specs.declared.trees.Item.TheVariants as item
use Rattle.pr_scope_names.specs.declared.names.Static.TheVariants.{Index}
use Rattle.pr_scope_names.specs.declared.streams.Instance.{Instance}
use Rattle.pr_scope_names.specs.Names.{Known, bind}
use Rattle.pr_expand_spec.specs.Making.{constant}
use Rattle.pr_probe.specs.Instances as listed
use Rattle.pr_probe.specs.Instances.{Listing, items_listing, known_after, listing_of}
use Rattle.pr_lens_origins.specs.Numbers.{Naming, in_turn, item_size, items_numbers, later, naming_of, stmt_step, turns}

abbrev HasAsMany : Naming → Listing → Type 0
HasAsMany n f = (at : ℕ) (known : Known) → length (n.numbers at known) ≡ length (f known)

abbrev OfStmt : Stmt → Type 0
OfStmt x = HasAsMany (naming_of x) (listing_of x)

abbrev Proved : Type 0
Proved = (x : Stmt) × OfStmt x

both : (ms ns : List ℕ) (is js : List Instance) → length ms ≡ length is → length ns ≡ length js → length (ms ++ ns) ≡ length (is ++ js)
both ms ns is js first rest = length-append ms ns ∙ (ap₂ (λ (m n : ℕ). m + n) first rest ∙ sym (length-append is js))

list_counted : (ss : List Proved) (at : ℕ) (known : Known) → length (in_turn (map naming_of (map (λ p. p.0) ss)) at known) ≡ length (listed.in_turn (map listing_of (map (λ p. p.0) ss)) known)
list_counted [] at known = refl
list_counted (x ∷ xs) at known =
    let next = later at (naming_of x.0).size in
    both ((naming_of x.0).numbers at known) (in_turn (map naming_of (map (λ p. p.0) xs)) next known) (listing_of x.0 known) (listed.in_turn (map listing_of (map (λ p. p.0) xs)) known) (x.1 at known) (list_counted xs next known)

turns_counted : (k index : ℕ) (f : ℕ → List ℕ) (g : ℕ → List Instance) → ((i : ℕ) → length (f i) ≡ length (g i)) → length (turns k index f) ≡ length (listed.turns k index g)
turns_counted zero index f g each = refl
turns_counted (suc k) index f g each = both (f index) (turns k (index + 1) f) (g index) (listed.turns k (index + 1) g) (each index) (turns_counted k (index + 1) f g each)

layer : (y : Stmt-F Proved) → HasAsMany (stmt_step (map-Stmt Stmt Naming naming_of (map-Stmt Proved Stmt (λ p. p.0) y))) (listed.stmt_step (map-Stmt Stmt Listing listing_of (map-Stmt Proved Stmt (λ p. p.0) y)))
layer (Stmt-F.Let target width e) at known = refl
layer (Stmt-F.Rec target width init e) at known = refl
layer (Stmt-F.For index low high body) at known =
    turns_counted (constant high known - constant low known) (constant low known)
    (λ i. in_turn (map naming_of (map (λ (p : Proved). p.0) body.items)) at (bind index (Index i) known))
    (λ i. listed.in_turn (map listing_of (map (λ (p : Proved). p.0) body.items)) (bind index (Index i) known))
    (λ i. list_counted body.items at (bind index (Index i) known))

statement_counted : (x : Stmt) → OfStmt x
statement_counted = ind-Stmt OfStmt (λ x y is.
    let one : HasAsMany (stmt_step (map-Stmt Stmt Naming naming_of x)) (listed.stmt_step (map-Stmt Stmt Listing listing_of x)) = subst (λ z. HasAsMany (stmt_step (map-Stmt Stmt Naming naming_of z)) (listed.stmt_step (map-Stmt Stmt Listing listing_of z))) is (layer y) in
    transport (λ i. HasAsMany (sym (fold-roll-Stmt Naming stmt_step x) i) (sym (fold-roll-Stmt Listing listed.stmt_step x) i)) one)

pub items_counted : (number : ℕ) (is : List Item) (at : ℕ) (known : Known) → length (items_numbers number is at known) ≡ length (items_listing number is known)
items_counted number [] at known = refl
items_counted number (item.Input name width ∷ is) at known = ap suc (items_counted (number + 1) is (later at 1) known)
items_counted number (item.Output name width e ∷ is) at known = ap suc (items_counted (number + 1) is (later at 1) known)
items_counted number (item.Const name value ∷ is) at known = items_counted (number + 1) is (later at 0) (known_after number (item.Const name value) known)
items_counted number (item.Table name values ∷ is) at known = items_counted (number + 1) is (later at 0) (known_after number (item.Table name values) known)
items_counted number (item.Function name params width body result ∷ is) at known =
    items_counted (number + 1) is (later at (item_size (item.Function name params width body result))) (known_after number (item.Function name params width body result) known)
items_counted number (item.Step stmt ∷ is) at known =
    let next = later at (naming_of stmt).size in
    both ((naming_of stmt).numbers at known) (items_numbers (number + 1) is next known) (listing_of stmt known) (items_listing (number + 1) is known) (statement_counted stmt at known) (items_counted (number + 1) is next known)
