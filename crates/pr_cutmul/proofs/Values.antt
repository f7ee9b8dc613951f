-- What the rows show in a net that begins with them.
use Rattle.std.proofs.Common.{◌≡◌, ◌∙◌, ◌≤◌, ◌%◌, ◌^◌, ◌++◌, ℕ, Bool, List, length, subst, ap, arith}
use Rattle.pr_net.specs.declared.cells.Slice.{Slice}
use Rattle.pr_net.specs.declared.cells.Cell.{Cell}
use Rattle.pr_net.specs.Reading.{Reading, Has, shown}
use Rattle.pr_net.proofs.Readings.{has-append}
use Rattle.pr_cut_units.specs.Products.{product}
use Rattle.pr_cut_units.specs.Shifts.{shifted_by}
use Rattle.pr_cut_laws.proofs.Products.{product_shows}
use Rattle.pr_cut_laws.proofs.Varies.{shifted_shows}
use Rattle.pr_cut_laws.proofs.RowsLaws.{earlier_operands, shifted_is}
use Rattle.pr_cutmul.specs.Rows.{ShowsProduct, ShowsShift}

-- the units after the first ones stand from their number on
has_last : (r : Reading) (old more new : List (List Cell)) → new ≡ old ++ more → Has r 0 new → Has r (length old) more
has_last r old more new e h = subst (λ (k : ℕ). Has r k more) (omega arith) (has-append r 0 old more (subst (λ (us : List (List Cell)). Has r 0 us) e h)).1

pub shows_product : (old new : List (List Cell)) (bits wa wb : ℕ) (a b s : List Slice) → new ≡ old ++ (product bits a wa b wb (length old)).units → s ≡ (product bits a wa b wb (length old)).slices → 1 ≤ bits → 1 ≤ wb → ShowsProduct new (length old) bits wa wb a b s
shows_product old new bits wa wb a b s e f some sb = λ r bytes has x y.
    ap (shown r) f ∙ (product_shows r (length old) bits wa wb a b some sb bytes (earlier_operands (length old) a x.earlier) (earlier_operands (length old) b y.earlier) x.lawful y.lawful (has_last r old _ new e has)).0

pub shows_shift : (old new : List (List Cell)) (left : Bool) (wa wby : ℕ) (a by s : List Slice) → new ≡ old ++ (shifted_by left wa by wby a (length old)).units → s ≡ (shifted_by left wa by wby a (length old)).slices → 1 ≤ wa → wa ≤ 128 → ShowsShift new (length old) left wa wby a by s
shows_shift old new left wa wby a by s e f some few = λ r bytes has x y.
    ap (shown r) f ∙ (shifted_shows left r (length old) wa wby by a some few bytes (earlier_operands (length old) by y.earlier) (earlier_operands (length old) a x.earlier) x.lawful y.lawful (has_last r old _ new e has) ∙ ap (λ (n : ℕ). n % 2 ^ wa) (shifted_is left (shown r a) (shown r by)))
