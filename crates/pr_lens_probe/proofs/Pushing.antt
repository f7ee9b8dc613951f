-- Outputs that ask for something, put behind items one after the other.
use Rattle.std.proofs.Common.{◌≡◌, ◌∙◌, ◌+◌, ◌<◌, ◌≤◌, ℕ, Bool, List, [], ◌∷◌, ◌++◌, drop, get_or, length, map, refl, sym, ap, subst, append_assoc, append-nil}
use Rattle.std.specs.List.{AllZip}
use Rattle.std.proofs.lemmas.List.{drop_all, drop_more}
use Rattle.pr_lang.specs.declared.trees.Item.{Item}
use Rattle.pr_scope_names.specs.declared.streams.Instance.{Instance}
use Rattle.pr_probe.specs.Probes.{Probe}
use Rattle.pr_lens_probe.specs.Fresh.{probe_at, probes_from}
use Rattle.pr_lens_probe.specs.Asked.{AreAsked, IsAsking}
use Rattle.pr_lens_probe.specs.declared.asking.Want.{Want}

-- outputs for the probes that are left make the whole
abbrev pub LeavesAsked : Want → List Item → List Probe → List Item → List Probe → Type 0
LeavesAsked want base all items left = (more : List Item) → AllZip (IsAsking want) left more → AreAsked want base all (items ++ more)

pub pushed-none : (want : Want) (base : List Item) (all : List Probe) → LeavesAsked want base all base all
pushed-none want base all more each = record { outputs = more; each = each; are = refl }

pub pushed-more : (want : Want) (most at : ℕ) (is : List Instance) (i : Instance) (base items new : List Item) (o : Item) (all : List Probe) → at < length is → i ≡ get_or is at i → IsAsking want (probe_at most at i) o → new ≡ items ++ o ∷ []
    → LeavesAsked want base all items (probes_from most at (drop at is)) → LeavesAsked want base all new (probes_from most (at + 1) (drop (at + 1) is))
pushed-more want most at is i base items new o all below there asks put before more each =
    let left : drop at is ≡ i ∷ drop (at + 1) is = drop_more is at i below ∙ ap (λ (x : Instance). x ∷ drop (at + 1) is) (sym there) in
    subst (AreAsked want base all) (sym (ap (λ (l : List Item). l ++ more) put ∙ append_assoc items (o ∷ []) more))
    (before (o ∷ more) (subst (λ (l : List Instance). AllZip (IsAsking want) (probes_from most at l) (o ∷ more)) (sym left) (asks, each)))

pub pushed-all : (want : Want) (most at : ℕ) (is : List Instance) (base items : List Item) (all : List Probe) → length is ≤ at → LeavesAsked want base all items (probes_from most at (drop at is)) → AreAsked want base all items
pushed-all want most at is base items all end before =
    subst (AreAsked want base all) (append-nil items) (before [] (subst (λ (l : List Instance). AllZip (IsAsking want) (probes_from most at l) []) (sym (drop_all at is end)) tt))

-- ---- tests of items, one after the other
pub tested-more : {A : Type 0} (f : A → Bool) (xs : List A) (at : ℕ) (d : A) (done new whole : List Bool) (b : Bool) → at < length xs → b ≡ f (get_or xs at d) → new ≡ done ++ b ∷ [] → done ++ map f (drop at xs) ≡ whole → new ++ map f (drop (at + 1) xs) ≡ whole
tested-more {A} f xs at d done new whole b below is put before =
    let rest = map f (drop (at + 1) xs) in
    ap (λ (l : List Bool). l ++ rest) put
    ∙ (append_assoc done (b ∷ []) rest
    ∙ (ap (λ (l : List Bool). done ++ l) (ap (λ (x : Bool). x ∷ rest) is ∙ ap (map f) (sym (drop_more xs at d below))) ∙ before))

pub tested-all : {A : Type 0} (f : A → Bool) (xs : List A) (at : ℕ) (done whole : List Bool) → length xs ≤ at → done ++ map f (drop at xs) ≡ whole → done ≡ whole
tested-all f xs at done whole end before = sym (append-nil done) ∙ (ap (λ l. done ++ map f l) (sym (drop_all at xs end)) ∙ before)
