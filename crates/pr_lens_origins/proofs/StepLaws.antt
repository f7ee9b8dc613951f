-- The numbers of names, step by step.
use Rattle.std.proofs.Common.{◌≡◌, ◌∙◌, ◌+◌, ◌-◌, ◌<◌, ℕ, suc, List, ◌∷◌, ◌++◌, map, drop, get_or, length, sym, ap, arith, append_assoc}
use Rattle.std.proofs.lemmas.List.{at_drop_more}
use Rattle.pr_lang.specs.declared.trees.Item.{Item}
use Rattle.pr_lang.specs.declared.trees.Stmt.{Stmt}
use Rattle.pr_scope_names.specs.Names.{Known}
use Rattle.pr_probe.specs.Instances.{known_after}
use Rattle.pr_lens_origins.specs.Numbers.{behind, in_turn, item_numbers, item_size, items_numbers, later, naming_of, turns}

-- ---- statements
pub sizes_step : (stmts : List Stmt) (i total next whole : ℕ) (st : Stmt) → i < length stmts → st ≡ get_or stmts i st → next ≡ later total (naming_of st).size
    → behind total (map naming_of (drop i stmts)) ≡ whole → behind next (map naming_of (drop (i + 1) stmts)) ≡ whole
sizes_step stmts i total next whole st h is step rest =
    ap (λ (n : ℕ). behind n (map naming_of (drop (i + 1) stmts))) step
    ∙ (ap (λ (y : Stmt). behind (later total (naming_of y).size) (map naming_of (drop (i + 1) stmts))) is
    ∙ (sym (at_drop_more (λ xs. behind total (map naming_of xs)) stmts i st h) ∙ rest))

rest_is : (stmts : List Stmt) (i at : ℕ) (st : Stmt) (known : Known) → i < length stmts → st ≡ get_or stmts i st → in_turn (map naming_of (drop i stmts)) at known ≡ (naming_of st).numbers at known ++ in_turn (map naming_of (drop (i + 1) stmts)) (later at (naming_of st).size) known
rest_is stmts i at st known h is =
    at_drop_more (λ xs. in_turn (map naming_of xs) at known) stmts i st h
    ∙ ap (λ (y : Stmt). (naming_of y).numbers at known ++ in_turn (map naming_of (drop (i + 1) stmts)) (later at (naming_of y).size) known) (sym is)

pub stmts_step : (known other : Known) (before after whole : List ℕ) (stmts : List Stmt) (i at next : ℕ) (st : Stmt) → i < length stmts → st ≡ get_or stmts i st → other ≡ known → after ≡ before ++ (naming_of st).numbers at other → next ≡ later at (naming_of st).size
    → before ++ in_turn (map naming_of (drop i stmts)) at known ≡ whole → after ++ in_turn (map naming_of (drop (i + 1) stmts)) next known ≡ whole
stmts_step known other before after whole stmts i at next st h is same step begins rest =
    let more : ℕ → List ℕ = λ n. in_turn (map naming_of (drop (i + 1) stmts)) n known in
    let here = (naming_of st).numbers at known in
    let then = later at (naming_of st).size in
    ap (λ (n : ℕ). after ++ more n) begins
    ∙ (ap (λ l. l ++ more then) (step ∙ ap (λ (k : Known). before ++ (naming_of st).numbers at k) same)
    ∙ (append_assoc before here (more then)
    ∙ (ap (λ l. before ++ l) (sym (rest_is stmts i at st known h is)) ∙ rest)))

pub turns_step : (f : ℕ → List ℕ) (end at : ℕ) (before after whole : List ℕ) → at < end → after ≡ before ++ f at → before ++ turns (end - at) at f ≡ whole → after ++ turns (end - (at + 1)) (at + 1) f ≡ whole
turns_step f end at before after whole h step rest =
    let more : end - at ≡ suc (end - (at + 1)) = omega (arith, h) in
    let left = turns (end - (at + 1)) (at + 1) f in
    ap (λ l. l ++ left) step
    ∙ (append_assoc before (f at) left
    ∙ (ap (λ (n : ℕ). before ++ turns n at f) (sym more) ∙ rest))

-- ---- items
pub items_step : (items : List Item) (number at next : ℕ) (i : Item) (known after : Known) (before now whole : List ℕ) → number < length items → i ≡ get_or items number i → after ≡ known_after number i known → next ≡ later at (item_size i) → now ≡ before ++ item_numbers i at known
    → before ++ items_numbers number (drop number items) at known ≡ whole → now ++ items_numbers (number + 1) (drop (number + 1) items) next after ≡ whole
items_step items number at next i known after before now whole h is step begins listed rest =
    let more : ℕ → Known → List ℕ = items_numbers (number + 1) (drop (number + 1) items) in
    let then = later at (item_size i) in
    let behind_it = known_after number i known in
    let here : items_numbers number (drop number items) at known ≡ item_numbers i at known ++ more then behind_it =
    at_drop_more (λ xs. items_numbers number xs at known) items number i h ∙ ap (λ (x : Item). items_numbers number (x ∷ drop (number + 1) items) at known) (sym is) in
    ap (λ (k : Known). now ++ more next k) step
    ∙ (ap (λ (n : ℕ). now ++ more n behind_it) begins
    ∙ (ap (λ l. l ++ more then behind_it) listed
    ∙ (append_assoc before (item_numbers i at known) (more then behind_it)
    ∙ (ap (λ l. before ++ l) (sym here) ∙ rest))))
