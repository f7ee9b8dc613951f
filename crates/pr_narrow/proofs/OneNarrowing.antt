-- Equations are narrowed in one way.
use Rattle.std.proofs.Common.{◌≡◌, ℕ, ◌<◌, ◌≤◌, List, length, get_or, sym, ap, ap₂, ◌∙◌, arith}
use Rattle.std.proofs.lemmas.List.{same_lists, get_or_default}
use Rattle.pr_flat.specs.declared.equations.Operand.{Operand}
use Rattle.pr_flat.specs.Shape.{EquationShape}
use Rattle.pr_narrow.specs.Known.{folded}
use Rattle.pr_narrow.specs.Demand.{IsDemand}
use Rattle.pr_narrow.specs.Narrowed.{AreNarrowed, new_widths, narrowed_by}

both : (m n : ℕ) → m ≤ n → n ≤ m → m ≡ n
both m n up down = omega (arith, up, down)

-- there is one least demand
pub one_demand : (equations : List EquationShape) (outputs : List Operand) (widths one other : List ℕ) → IsDemand equations outputs widths one → IsDemand equations outputs widths other → one ≡ other
one_demand equations outputs widths one other x y =
    same_lists one other (x.count ∙ sym y.count) (λ n d low. (
    let up : get_or one n 0 ≤ get_or other n 0 = x.least other y.rules n in
    let down : get_or other n 0 ≤ get_or one n 0 = y.least one x.rules n in
    let also : n < length other = omega (arith, low, x.count, y.count) in
    get_or_default one n d 0 low ∙ (both (get_or one n 0) (get_or other n 0) up down ∙ sym (get_or_default other n d 0 also))))

pub one_narrowing : (equations : List EquationShape) (outputs : List Operand) (widths : List ℕ) (narrowed : List EquationShape) (news : List ℕ) (others : List EquationShape) (widths_of_others : List ℕ)
    → AreNarrowed equations outputs widths narrowed news → AreNarrowed equations outputs widths others widths_of_others → (narrowed ≡ others) × (news ≡ widths_of_others)
one_narrowing equations outputs widths narrowed news others widths_of_others x y =
    let f = folded equations widths in
    let same : x.demand ≡ y.demand = one_demand f outputs widths x.demand y.demand x.demanded y.demanded in
    let wide : news ≡ widths_of_others = x.widths_are ∙ (ap (new_widths f widths) same ∙ sym y.widths_are) in
    (x.equations_are ∙ (ap₂ (λ (d w : List ℕ). narrowed_by d w f) same wide ∙ sym y.equations_are), wide)
