-- Constant expressions with one tree.
use Rattle.std.proofs.Common.{◌≡◌, ◌∙◌, ℕ, List, Some, None, Result, refl, sym, ap, subst}
use Rattle.std.specs.Global.{Box}
use Rattle.pr_lang.specs.declared.tokens.Symbol.{Symbol}
use Rattle.pr_lang.specs.declared.tokens.Symbol.TheVariants as symbols
use Rattle.pr_lang.specs.declared.trees.FixedOp.{FixedOp}
use Rattle.pr_lang.specs.declared.trees.FixedOp.TheVariants.{Add, Sub, Mul, Div, Mod}
use Rattle.pr_lang.specs.declared.trees.Fixed.{Fixed, map-Fixed, out-Fixed}
use Rattle.pr_lang.specs.declared.trees.Fixed.TheOpen.{Fixed-F}
use Rattle.pr_lang.specs.declared.trees.Fixed.TheFolds.{fold-roll-Fixed, fold_out-Fixed, ind-Fixed}
use Rattle.pr_lang.specs.Is.{name_tree, number_tree, sign_tree}
use Rattle.pr_lang.specs.Tree.{Tree}
use Rattle.pr_lang.specs.Tree as tree
use Rattle.pr_lang.specs.Shape.{fixed_sign_of, fixed_layer, fixed_shape}
use Rattle.pr_scope_names.specs.declared.rules.Offence.{Offence}
use Rattle.pr_scope_names.specs.Names.{Known}
use Rattle.pr_scope_names.specs.Constants.{fixed_step, constant_of}

-- ---- operators
op_by : Symbol → FixedOp
op_by symbols.Minus = Sub
op_by symbols.Star = Mul
op_by symbols.Slash = Div
op_by symbols.Percent = Mod
op_by _ = Add

op-read : (o : FixedOp) → op_by (fixed_sign_of o) ≡ o
unfolding op_by
op-read Add = refl
op-read Sub = refl
op-read Mul = refl
op-read Div = refl
op-read Mod = refl

one-op : (o p : FixedOp) → sign_tree (fixed_sign_of o) ≡ sign_tree (fixed_sign_of p) → o ≡ p
one-op o p same =
    let signs : fixed_sign_of o ≡ fixed_sign_of p = cc in
    sym (op-read o) ∙ (ap op_by signs ∙ op-read p)

-- ---- layers
-- what a layer is by its tree
data Seen : Tree → Fixed-F Fixed → Type 0 where
  number : (n : ℕ) → Seen (number_tree n) (Fixed-F.Number n)
  alone : (x : List ℕ) → Seen (tree.refer (name_tree x) tree.no_index) (Fixed-F.Refer x None)
  indexed : (x : List ℕ) (t : Tree) (i : Box Fixed) → t ≡ fixed_shape i.value → Seen (tree.refer (name_tree x) (tree.index t)) (Fixed-F.Refer x (Some i))
  binary : (s t u : Tree) (o : FixedOp) (a b : Box Fixed) → s ≡ sign_tree (fixed_sign_of o) → t ≡ fixed_shape a.value → u ≡ fixed_shape b.value → Seen (tree.binary s t u) (Fixed-F.Binary o a b)
  paren : (t : Tree) (a : Box Fixed) → t ≡ fixed_shape a.value → Seen (tree.paren t) (Fixed-F.Paren a)

seen : (y : Fixed-F Fixed) → Seen (fixed_layer (map-Fixed Fixed Tree fixed_shape y)) y
seen (Fixed-F.Number n) = number n
seen (Fixed-F.Refer x None) = alone x
seen (Fixed-F.Refer x (Some i)) = indexed x (fixed_shape i.value) i refl
seen (Fixed-F.Binary o a b) = binary (sign_tree (fixed_sign_of o)) (fixed_shape a.value) (fixed_shape b.value) o a b refl refl refl
seen (Fixed-F.Paren a) = paren (fixed_shape a.value) a refl

-- ---- values
abbrev HasOneValue : Fixed → Type 0
HasOneValue c = (d : Fixed) → fixed_shape c ≡ fixed_shape d → constant_of c ≡ constant_of d

abbrev Value : Type 0
Value = Known → Result ℕ Offence

abbrev Proved : Type 0
Proved = (c : Fixed) × HasOneValue c

abbrev plain : Fixed-F Proved → Fixed-F Fixed
plain z = map-Fixed Proved Fixed (λ p. p.0) z

same-layer : (z : Fixed-F Proved) (y : Fixed-F Fixed) → Seen (fixed_layer (map-Fixed Fixed Tree fixed_shape (plain z))) y → fixed_step (map-Fixed Fixed Value constant_of (plain z)) ≡ fixed_step (map-Fixed Fixed Value constant_of y)
same-layer (Fixed-F.Number n) y (number m) = refl
same-layer (Fixed-F.Refer x None) y (alone x') = refl
same-layer (Fixed-F.Refer x (Some i)) y (indexed x' t j is) = rw (i.value.1 j.value is)
same-layer (Fixed-F.Binary o a b) y (binary s t u p c d sign left right) = rw (one-op o p sign, a.value.1 c.value left, b.value.1 d.value right)
same-layer (Fixed-F.Paren a) y (paren t b is) = a.value.1 b.value is

-- constant expressions with one tree have one value
pub same-constant : (c d : Fixed) → fixed_shape c ≡ fixed_shape d → constant_of c ≡ constant_of d
same-constant = ind-Fixed HasOneValue (λ x z is d same.
    let tree_of : fixed_layer (map-Fixed Fixed Tree fixed_shape (out-Fixed d)) ≡ fixed_layer (map-Fixed Fixed Tree fixed_shape x) = sym (fold_out-Fixed Tree fixed_layer d) ∙ (sym same ∙ fold-roll-Fixed Tree fixed_layer x) in
    let view : Seen (fixed_layer (map-Fixed Fixed Tree fixed_shape (plain z))) (out-Fixed d) = subst (λ t. Seen t (out-Fixed d)) (tree_of ∙ ap (λ l. fixed_layer (map-Fixed Fixed Tree fixed_shape l)) (sym is)) (seen (out-Fixed d)) in
    fold-roll-Fixed Value fixed_step x ∙ (ap (λ l. fixed_step (map-Fixed Fixed Value constant_of l)) (sym is) ∙ (same-layer z (out-Fixed d) view ∙ sym (fold_out-Fixed Value fixed_step d))))

pub same-value : (i j : Fixed) → fixed_shape i ≡ fixed_shape j → (known : Known) → constant_of i known ≡ constant_of j known
same-value i j is known = ap (λ (f : Known → Result ℕ Offence). f known) (same-constant i j is)
