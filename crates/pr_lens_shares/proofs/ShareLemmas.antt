-- The streams for which most units are made, by their places.
use Rattle.std.proofs.Common.{◌≡◌, ◌∙◌, ◌<◌, ◌≤◌, ℕ, zero, suc, false, nat_lt, List, [], ◌∷◌, ◌++◌, Option, Some, length, get_or, sym, ap, ap₂, arith}
use Rattle.std.specs.List.{slice_get}
use Rattle.std.proofs.lemmas.Bool.Decides.{nat_tests}
use Rattle.std.proofs.lemmas.List.{append-nil}
use Rattle.std.proofs.lemmas.Option.{slice_get_past}
use Rattle.pr_scope_names.specs.declared.streams.Instance.{Instance}
use Rattle.pr_lens_shares.specs.declared.shares.Share.{Share}
use Rattle.pr_lens_shares.specs.Shares.{share_at, share_with}

pub none_put : (instances : List Instance) (counts : List ℕ) (place : ℕ) (shares : List Share) → nat_lt place (length instances) ≡ false → shares ≡ shares ++ share_at instances counts place
none_put instances counts place shares none =
    let past : length instances ≤ place = grind (arith, nat_tests, none) in
    sym (ap (λ (o : Option Instance). shares ++ share_with place (get_or counts place 0) o) (slice_get_past instances place past) ∙ append-nil shares)

there : (instances : List Instance) (place : ℕ) (i : Instance) → place < length instances → i ≡ get_or instances place i → slice_get instances place ≡ Some i
there [] place i less is = absurd (omega (arith, less))
there (j ∷ js) zero i less is = ap Some (sym is)
there (j ∷ js) (suc place) i less is = there js place i (omega (arith, less)) is

pub share_put : (instances : List Instance) (counts : List ℕ) (place : ℕ) (shares all : List Share) (i : Instance) (name : List ℕ) (units : ℕ) → place < length instances → i ≡ get_or instances place i → name ≡ i.name → units ≡ get_or counts place 0
    → all ≡ shares ++ record { name = name; index = i.index; place = place; units = units } ∷ [] → all ≡ shares ++ share_at instances counts place
share_put instances counts place shares all i name units less is same count whole =
    whole
    ∙ (ap₂ (λ (n : List ℕ) (u : ℕ). shares ++ record { name = n; index = i.index; place = place; units = u } ∷ []) same count
    ∙ sym (ap (λ (o : Option Instance). shares ++ share_with place (get_or counts place 0) o) (there instances place i less is)))
