-- Words that are collected to a list.
use Rattle.std.proofs.Common.{◌≡◌, List, Ok, Vec, Global, length, refl}
use Rattle.std.specs.Bool.{⊤}
use Rattle.std.specs.Iterator.{DrainsIf}
use Rattle.std.specs.Vec.{vec_len}
use Rattle.std.specs.Vec.Iter.{into_iter_items, into_iter_len, into_iter_steps}
use Rattle.std.specs.declared.alloc.AllocError.{AllocError}
use Rattle.std.specs.declared.vec.IntoIter.{IntoIter}
use Rattle.std.proofs.lemmas.Iterator.Adapters.{YieldsList-from_vec, fact_from_collect}

module _ {A : Type 0} where
  abbrev Holds : List A → Vec A Global → Type 0
  Holds xs list = (list.items ≡ xs) × (vec_len list ≡ length xs)

  pub collected : (source : IntoIter A Global) (list : Vec A Global) → (xs : List A) × DrainsIf (into_iter_steps {X = A} {Z = Global}) ⊤ source xs × Holds xs list
      → into_iter_len source ≡ length (into_iter_items source) → list.items ≡ into_iter_items source
  collected source list ran long = (fact_from_collect {E = AllocError} Holds (Ok list) ran (YieldsList-from_vec (into_iter_items source) refl long)).0
