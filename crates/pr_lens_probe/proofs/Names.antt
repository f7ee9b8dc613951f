-- The names of the outputs that are added.
use Rattle.std.proofs.Common.{◌≡◌, ◌∙◌, ◌+◌, ◌/◌, ◌%◌, ◌<◌, ◌≤◌, ℕ, zero, suc, Bool, true, false, bytes_eq, List, [], ◌∷◌, drop, get_or, length, max, replicate, refl, sym, ap, subst, arith, rules}
use Rattle.std.proofs.lemmas.Bool.{false_from_ne_true}
use Rattle.std.proofs.lemmas.Bool.Decides.{nat_tests}
use Rattle.std.proofs.lemmas.List.{at_drop_more, drop_all, length-replicate}
use Rattle.std.proofs.Math.Nat.{mod-add-div}
use Rattle.std.specs.Cmp.Lexicographic.{bytes_decides}
use Rattle.std.specs.Ordering.{nat_cmp, ord_max}
use Rattle.pr_lang.specs.declared.trees.Item.{Item}
use Rattle.pr_lang.specs.declared.trees.Item.TheVariants as item
use Rattle.pr_scope_names.specs.declared.streams.Instance.{Instance}
use Rattle.pr_probe.specs.Probes.{AreDifferent, AreFresh, AreNamed, HaveNames, Probe, probes_of}
use Rattle.pr_lens_probe.specs.Fresh.{IsNamed, fresh_name, fresh_names, is_within, probe_at, probes_from}

-- ---- how long names are
have-more : (test : List ℕ → Bool) (i : Item) (is : List Item) → IsNamed test i → HaveNames test is → HaveNames test (i ∷ is)
have-more test (item.Input name width) is named have = have
have-more test (item.Output name width e) is named have = have
have-more test (item.Const name value) is named have = (named, have)
have-more test (item.Table name values) is named have = (named, have)
have-more test (item.Function name params width body result) is named have = (named, have)
have-more test (item.Step stmt) is named have = have

pub have-drop : (test : List ℕ → Bool) (items : List Item) (at : ℕ) (i : Item) → at < length items → i ≡ get_or items at i → IsNamed test i → HaveNames test (drop (at + 1) items) → HaveNames test (drop at items)
have-drop test items at i h is named have =
    subst (HaveNames test) (sym (at_drop_more (λ xs. xs) items at i h ∙ ap (λ (x : Item). x ∷ drop (at + 1) items) (sym is))) (have-more test i (drop (at + 1) items) named have)

pub named-drop : (test : List ℕ → Bool) (is : List Instance) (at : ℕ) (i : Instance) → at < length is → i ≡ get_or is at i → test i.name ≡ true → AreNamed test (drop (at + 1) is) → AreNamed test (drop at is)
named-drop test is at i h there named have =
    subst (AreNamed test) (sym (at_drop_more (λ xs. xs) is at i h ∙ ap (λ (x : Instance). x ∷ drop (at + 1) is) (sym there))) (named, have)

pub within : (most : ℕ) (name : List ℕ) → length name ≤ most → is_within most name ≡ true
within most name short = grind (arith, nat_tests, short)

-- past the last item
pub have-none : (most : ℕ) (items : List Item) (at : ℕ) → length items ≤ at → 6 ≤ most → HaveNames (is_within most) (drop at items)
have-none most items at all some = subst (HaveNames (is_within most)) (sym (drop_all at items all)) (grind (arith, nat_tests, some))

pub named-none : (test : List ℕ → Bool) (is : List Instance) (at : ℕ) → length is ≤ at → AreNamed test (drop at is)
named-none test is at all = subst (AreNamed test) (sym (drop_all at is all)) tt

-- the greater of two lengths
pub most-of : (a b m : ℕ) → m ≡ ord_max nat_cmp a b → (a ≤ m) × (b ≤ m)
most-of a b m is = let greater : ord_max nat_cmp a b ≡ max a b = search rules in (omega arith, omega arith)

-- ---- each another name
pub too-long : (most number : ℕ) → is_within most (fresh_name most number) ≡ false
too-long most number = let long : length (replicate most 46) ≡ most = length-replicate {A = ℕ} most 46 in grind (arith, nat_tests, long)

number-of : (a b : ℕ) → a % 256 ≡ b % 256 → a / 256 ≡ b / 256 → a ≡ b
number-of a b low high = omega (arith, low, high, mod-add-div a 256, mod-add-div b 256)

same-number : (most a b : ℕ) → fresh_name most a ≡ fresh_name most b → a ≡ b
same-number most a b is = number-of a b (ap (λ (xs : List ℕ). get_or xs 0 0) is) (ap (λ (xs : List ℕ). get_or xs 1 0) is)

other-name : (most a b : ℕ) → a < b → bytes_eq (fresh_name most a) (fresh_name most b) ≡ false
other-name most a b less = false_from_ne_true (bytes_eq (fresh_name most a) (fresh_name most b)) (λ same. omega (arith, less, same-number most a b ((bytes_decides (fresh_name most a) (fresh_name most b)).0 same)))

others : (most a number count : ℕ) → a < number → AreDifferent (fresh_name most a) (fresh_names most number count)
others most a number zero less = tt
others most a number (suc count) less = (other-name most a number less, others most a (number + 1) count (omega (arith, less)))

pub fresh : (most number count : ℕ) → AreFresh (is_within most) (fresh_names most number count)
fresh most number zero = tt
fresh most number (suc count) = (too-long most number, others most number (number + 1) count (omega arith), fresh most (number + 1) count)

-- ---- the outputs
pub probes-are : (most number : ℕ) (is : List Instance) → probes_from most number is ≡ probes_of (fresh_names most number (length is)) is
probes-are most number [] = refl
probes-are most number (i ∷ is) = ap (λ (ps : List Probe). probe_at most number i ∷ ps) (probes-are most (number + 1) is)
