-- What is put in a table of instances.
use mathlib.Core.Path.{fun_ext}
use Rattle.std.proofs.Common.{◌≡◌, ◌∙◌, ℕ, Bool, true, false, cond, ◌||◌, ◌&&◌, List, Option, None, Some, Vec, Global, HashMap, is_some, option_map, refl, sym, ap, bytes_eq}
use Rattle.std.specs.Cmp.Lexicographic.{bytes_decides}
use Rattle.std.specs.HashMap.{UpdatesBy}
use Rattle.pr_scope_names.specs.declared.instances.Places.{Places}
use Rattle.pr_scope_names.specs.Names.{ByInstance, are_there, at_hash, bind, held, placed, placed_in, put_at, same_place, with_instance, with_place}
use Rattle.pr_scope_names.proofs.Maps.{at_hash_updates, bound-same, read_of, read_updates}

-- the instances of a name are written
pub written : {X S : Type 0} (key name : List ℕ) (m n : HashMap (Vec ℕ Global) (Places X) S) (now : Places X) → key ≡ name → UpdatesBy (λ x y. bytes_eq x.items y.items) (λ k. bytes_eq key k.items) m n (Some now) → read_of placed_in (at_hash n) ≡ bind name (placed_in now) (read_of placed_in (at_hash m))
written {X} key name m n now same h =
    read_updates placed_in (at_hash m) (at_hash n) key (Some now) (at_hash_updates key m n (Some now) h)
    ∙ ap (λ (k : List ℕ). bind k (placed_in now) (read_of placed_in (at_hash m))) same

-- a name is put with its instances, one of which is new or changed
pub put-instance : {X : Type 0} (name : List ℕ) (place : Option ℕ) (x : X) (s t : ByInstance X) (was : Option (Option ℕ → Option X)) (now : Option ℕ → Option X) → s name ≡ was → t ≡ bind name now s → ((q : Option ℕ) → now q ≡ put_at place x (placed was) q) → t ≡ with_instance name place x s
put-instance {X} name place x s t was now here is at =
    is ∙ ap (λ (f : Option ℕ → Option X). bind name f s) (fun_ext (λ q. at q ∙ ap (λ (o : Option (Option ℕ → Option X)). put_at place x (placed o) q) (sym here)))

-- a name is put with what its instances stood for
pub put-same : {X : Type 0} (name : List ℕ) (s t : ByInstance X) (was now : Option ℕ → Option X) → s name ≡ Some was → t ≡ bind name now s → ((q : Option ℕ) → now q ≡ was q) → t ≡ s
put-same {X} name s t was now here is at = is ∙ (ap (λ (f : Option ℕ → Option X). bind name f s) (fun_ext at) ∙ bound-same name was s here)

at_any : {X : Type 0} (b : Bool) (place r : Option ℕ) (x : X) (here there : Option (Option ℕ → Option X)) → (b ≡ true → here ≡ there) → placed (cond b (Some (put_at place x (placed here))) there) r ≡ cond (b && same_place place r) (Some x) (placed there r)
at_any {X} true place r x here there h = ap (λ (o : Option (Option ℕ → Option X)). put_at place x (placed o) r) (h refl)
at_any false place r x here there h = refl

-- what each instance stands for once one is put
pub placed-with : {X : Type 0} (name : List ℕ) (place : Option ℕ) (x : X) (s : ByInstance X) (q : List ℕ) (r : Option ℕ) → placed (with_instance name place x s q) r ≡ cond (bytes_eq name q && same_place place r) (Some x) (placed (s q) r)
placed-with name place x s q r = at_any (bytes_eq name q) place r x (s name) (s q) (λ y. ap s ((bytes_decides name q).0 y))

some_there : {X : Type 0} (b : Bool) (x : X) (o : Option X) → is_some (cond b (Some x) o) ≡ b || is_some o
some_there true x o = refl
some_there false x o = refl

pub held-there : {X : Type 0} (o : Option (Option ℕ → Option X)) (place : Option ℕ) → held (option_map are_there o) place ≡ is_some (placed o place)
held-there None place = refl
held-there (Some places) place = refl

-- where the instances are put, there they are
pub there-with : {X : Type 0} (name : List ℕ) (place : Option ℕ) (x : X) (s : ByInstance X) → read_of are_there (with_instance name place x s) ≡ with_place name place (read_of are_there s)
there-with {X} name place x s =
    read_updates are_there s (with_instance name place x s) name (Some (put_at place x (placed (s name)))) refl
    ∙ ap (λ (f : Option ℕ → Bool). bind name f (read_of are_there s)) (fun_ext (λ q. some_there (same_place place q) x (placed (s name) q) ∙ ap (λ (b : Bool). same_place place q || b) (sym (held-there (s name) q))))
