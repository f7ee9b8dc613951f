-- What could stand in the place of a token, one by one.
use Rattle.std.proofs.Common.{◌≡◌, ◌++◌, ◌∷◌, ◌∙◌, [], ℕ, Bool, true, false, cond, List, sym, ap}
use Rattle.std.proofs.lemmas.List.{append-nil}
use Rattle.pr_lens_find.specs.Expected.{can_stand, could_stand}

-- bytes that could stand or not, spelled so
pub spelled : (front : List ℕ) (at : ℕ) (bytes word : List ℕ) (can answer : Bool) → can ≡ could_stand front at bytes → bytes ≡ word → can ≡ answer
    → could_stand front at word ≡ answer
spelled front at bytes word can answer is same told = ap (λ (b : List ℕ). could_stand front at b) (sym same) ∙ (sym is ∙ told)

module _ {X : Type 0} (front : List ℕ) (at : ℕ) (spelling : X → List ℕ) (x : X) (old : List X) where
  pub left_out : could_stand front at (spelling x) ≡ false → old ≡ old ++ cond (can_stand front at spelling x) (x ∷ []) []
  unfolding can_stand
  left_out cannot = sym (ap (λ (b : Bool). old ++ cond b (x ∷ []) []) cannot ∙ append-nil old)

  pub pushed : (new : List X) → new ≡ old ++ x ∷ [] → could_stand front at (spelling x) ≡ true → new ≡ old ++ cond (can_stand front at spelling x) (x ∷ []) []
  unfolding can_stand
  pushed new is can = is ∙ sym (ap (λ (b : Bool). old ++ cond b (x ∷ []) []) can)
