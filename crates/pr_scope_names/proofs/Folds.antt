-- A fold over expressions that has the amount of a constant shift as a part.
use mathlib.Core.Path.{fun_ext}
use Rattle.std.proofs.Common.{◌≡◌, ◌∙◌, refl, sym, ap, ap₂, subst}
use Rattle.pr_lang.specs.declared.trees.Expr.{Expr, map-Expr}
use Rattle.pr_lang.specs.declared.trees.Expr.TheOpen.{Expr-F}
use Rattle.pr_lang.specs.declared.trees.Expr.TheFolds.{fold-Expr, fold-roll-Expr, ind-Expr}
use Rattle.pr_scope_names.specs.Names.{Known}
use Rattle.pr_scope_names.specs.Amounts.{Amount, amount_of, amount_step, both_amounts, fixed_op}

abbrev IsKept : (R : Type 0) → (Expr-F R → R) → (R → Amount) → Expr → Type 0
IsKept R step amount e = amount (fold-Expr R step e) ≡ amount_of e

-- the parts of a layer, beside each of which its own fact stands
parts_kept : (R : Type 0) (step : Expr-F R → R) (amount : R → Amount) (y : Expr-F ((e : Expr) × IsKept R step amount e)) (known : Known) → amount_step amount (map-Expr Expr R (fold-Expr R step) (map-Expr ((e : Expr) × IsKept R step amount e) Expr (λ p. p.0) y)) known ≡ amount_step (λ a. a) (map-Expr Expr Amount amount_of (map-Expr ((e : Expr) × IsKept R step amount e) Expr (λ p. p.0) y)) known
parts_kept R step amount (Expr-F.Number n) known = refl
parts_kept R step amount (Expr-F.Refer r) known = refl
parts_kept R step amount (Expr-F.Delay r k) known = refl
parts_kept R step amount (Expr-F.Slice e h l) known = refl
parts_kept R step amount (Expr-F.Not e) known = refl
parts_kept R step amount (Expr-F.Binary op a b) known = ap₂ (both_amounts (fixed_op op)) (ap (λ (f : Amount). f known) a.value.1) (ap (λ (f : Amount). f known) b.value.1)
parts_kept R step amount (Expr-F.Choose e a b) known = refl
parts_kept R step amount (Expr-F.Call name args) known = refl
parts_kept R step amount (Expr-F.Cat parts) known = refl
parts_kept R step amount (Expr-F.Paren e) known = ap (λ (f : Amount). f known) e.value.1

-- the amount part of the fold is the amount
pub amount_kept : (R : Type 0) (step : Expr-F R → R) (amount : R → Amount) → ((x : Expr-F R) → amount (step x) ≡ amount_step amount x) → (e : Expr) → IsKept R step amount e
amount_kept R step amount law = ind-Expr (IsKept R step amount) (λ x y is.
    let parts : amount_step amount (map-Expr Expr R (fold-Expr R step) x) ≡ amount_step (λ a. a) (map-Expr Expr Amount amount_of x) = subst (λ z. amount_step amount (map-Expr Expr R (fold-Expr R step) z) ≡ amount_step (λ a. a) (map-Expr Expr Amount amount_of z)) is (fun_ext (parts_kept R step amount y)) in
    ap amount (fold-roll-Expr R step x) ∙ (law (map-Expr Expr R (fold-Expr R step) x) ∙ (parts ∙ sym (fold-roll-Expr Amount (amount_step (λ a. a)) x))))
