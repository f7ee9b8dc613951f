-- Units that others begin with.
use Rattle.std.proofs.Common.{◌≡◌, ℕ, suc, ◌+◌, List, [], ◌∷◌, ◌++◌, length, take, refl, subst, sym, ap, ap₂, ◌∙◌, append_assoc}
use Rattle.std.proofs.lemmas.List.{append-nil}
use Rattle.pr_net.specs.declared.cells.Slice.{Slice}
use Rattle.pr_net.specs.declared.cells.Cell.{Cell}
use Rattle.pr_cut_units.specs.Parts.{Making, in_turn}
use Rattle.pr_cut_cells.specs.Prefixes.{IsPrefix}

prefix_self : (xs ys : List (List Cell)) → take (length xs) (xs ++ ys) ≡ xs
prefix_self [] ys = refl
prefix_self (x ∷ xs) ys = ap (λ (zs : List (List Cell)). x ∷ zs) (prefix_self xs ys)

-- the units so far, where the rest gives the whole
pub prefix_of : (xs ys whole : List (List Cell)) → xs ++ ys ≡ whole → IsPrefix xs whole
prefix_of xs ys whole e = ap (take (length xs)) (sym e) ∙ prefix_self xs ys

-- a prefix stays one where more comes after
pub prefix_more : (xs part more : List (List Cell)) → IsPrefix xs part → IsPrefix xs (part ++ more)
prefix_more [] part more h = refl
prefix_more (x ∷ xs) [] more h = cc
prefix_more (x ∷ xs) (y ∷ part) more h =
    let first : y ≡ x = cc in
    let rest : take (length xs) part ≡ xs = cc in
    ap₂ (λ (z : List Cell) (zs : List (List Cell)). z ∷ zs) first (prefix_more xs part more rest)

pub prefix_whole : (xs whole : List (List Cell)) → xs ≡ whole → IsPrefix xs whole
prefix_whole xs whole e = prefix_of xs [] whole (append-nil xs ∙ e)

-- within one step of several
pub prefix_turn : (step : ℕ → List Slice → Making) (j m n : ℕ) (x : List Slice) (us new whole : List (List Cell)) → m ≡ suc n → IsPrefix new (us ++ (step j x (length us)).units) → us ++ (in_turn step j m x (length us)).units ≡ whole → IsPrefix new whole
prefix_turn step j m n x us new whole em front h =
    let row : List (List Cell) = (step j x (length us)).units in
    let rest : List (List Cell) = (in_turn step (j + 1) n (step j x (length us)).slices (length us + length row)).units in
    let start : us ++ (row ++ rest) ≡ whole = subst (λ (k : ℕ). us ++ (in_turn step j k x (length us)).units ≡ whole) em h in
    ap (take (length new)) (sym (append_assoc us row rest ∙ start)) ∙ prefix_more new (us ++ row) rest front
