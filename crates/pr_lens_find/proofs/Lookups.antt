-- Elements that were asked for.
use Rattle.std.proofs.Common.{◌≡◌, ℕ, true, Some, List, length, get_or, ltb, refl, sym, subst}
use Rattle.std.specs.List.{slice_get}
use Rattle.std.proofs.lemmas.Bool.{ltb-true}
use Rattle.std.proofs.lemmas.Option.{slice_get_read}

-- the element of a list that is seen as this one
pub looked_up : {X : Type 0} (seen items : List X) (i : ℕ) (x : X) → seen ≡ items → true ≡ ltb i (length seen) → x ≡ get_or seen i x → slice_get items i ≡ Some x
looked_up {X} seen items i x same within is = subst (λ (xs : List X). slice_get xs i ≡ Some x) same (slice_get_read seen (length seen) i x refl (ltb-true i (length seen) (sym within)) is)
