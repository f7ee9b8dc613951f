-- One more cell of a chain: its slice, and the place after it.
use Rattle.std.proofs.Common.{◌≡◌, ◌<◌, ℕ, suc, ◌+◌, List, [], ◌∷◌, ◌++◌, length, drop, get_or, sym, ap, ◌∙◌, arith, append_assoc}
use Rattle.std.proofs.Math.Seq.{drop-cons}
use Rattle.pr_net.specs.declared.cells.Slice.{Slice}
use Rattle.pr_net.specs.declared.cells.Cell.{Cell}
use Rattle.pr_cut_units.specs.declared.chains.Style.{Style}
use Rattle.pr_cut_units.specs.Cells.{plain}
use Rattle.pr_cut_units.specs.Chains.{places, place_after}

drop_next : (cells : List Cell) (i : ℕ) → i < length cells → drop i cells ≡ get_or cells i plain ∷ drop (i + 1) cells
drop_next cells i h =
    let e : suc i ≡ i + 1 = omega arith in
    drop-cons cells i plain h ∙ ap (λ (n : ℕ). get_or cells i plain ∷ drop n cells) e

pub place_next : (s : Style) (u room place u' room' place' i : ℕ) (cells : List Cell) (x : Slice) → i < length cells → ((k : Cell) (rest : List Cell) → place_after s u room place (k ∷ rest) ≡ place_after s u' room' place' rest) → place_after s u room place (drop i cells) ≡ x → place_after s u' room' place' (drop (i + 1) cells) ≡ x
place_next s u room place u' room' place' i cells x h next is =
    sym (next (get_or cells i plain) (drop (i + 1) cells)) ∙ ap (place_after s u room place) (sym (drop_next cells i h)) ∙ is

pub places_next : (s : Style) (u room place u' room' place' i : ℕ) (cells : List Cell) (xs whole : List Slice) (x : Slice) → i < length cells → ((k : Cell) (rest : List Cell) → places s u room place (k ∷ rest) ≡ places s u room place (k ∷ []) ++ places s u' room' place' rest) → ((k : Cell) → places s u room place (k ∷ []) ≡ x ∷ []) → xs ++ places s u room place (drop i cells) ≡ whole → (xs ++ x ∷ []) ++ places s u' room' place' (drop (i + 1) cells) ≡ whole
places_next s u room place u' room' place' i cells xs whole x h next one is =
    let k : Cell = get_or cells i plain in
    let rest : List Cell = drop (i + 1) cells in
    let now : places s u room place (drop i cells) ≡ x ∷ places s u' room' place' rest = ap (places s u room place) (drop_next cells i h) ∙ next k rest ∙ ap (λ (y : List Slice). y ++ places s u' room' place' rest) (one k) in
    append_assoc xs (x ∷ []) (places s u' room' place' rest) ∙ ap (λ (y : List Slice). xs ++ y) (sym now) ∙ is
