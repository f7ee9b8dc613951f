-- Maps by names: what a change at one name leaves at any name.
use mathlib.Core.Path.{fun_ext}
use Rattle.std.proofs.Common.{◌≡◌, ℕ, Bool, true, false, cond, List, Option, None, Some, option_map, Vec, Global, BTreeMap, HashMap, refl, sym, subst, ap, ◌∙◌, ⊎_elim, nat_cmp, is_eq, bytes_eq}
use Rattle.std.specs.Cmp.{eq_by_cmp_equiv}
use Rattle.std.specs.Cmp.Lexicographic.{slice_cmp, bytes_decides, nat_list_cmp_total, nat_list_eq_equiv}
use Rattle.std.specs.Map.{update, lookup, IsKeyTest, AreApart, KeepsOthers}
use Rattle.std.specs.BTreeMap.{UpdatesBy, IsEmpty}
use Rattle.std.specs.HashMap as hash
use Rattle.std.proofs.lemmas.Bool.{cases_Bool, cond-true, cond-false}
use Rattle.std.proofs.lemmas.Map.Text.{is_eq-slice_cmp}
use Rattle.pr_scope_names.specs.Names.{at_hash, at_name, bind, unbind}

apart : (bs cs ks : List ℕ) → bytes_eq bs cs ≡ false → is_eq (slice_cmp nat_cmp bs ks) ≡ true → is_eq (slice_cmp nat_cmp cs ks) ≡ false
apart bs cs ks n y = is_eq-slice_cmp cs ks ∙ (nat_list_eq_equiv.symm cs ks ∙ sym (nat_list_eq_equiv.congr bs ks cs (sym (is_eq-slice_cmp bs ks) ∙ y)) ∙ n)

apart_bytes : (bs cs ks : List ℕ) → bytes_eq bs cs ≡ false → bytes_eq bs ks ≡ true → bytes_eq cs ks ≡ false
apart_bytes bs cs ks n y = nat_list_eq_equiv.symm cs ks ∙ sym (nat_list_eq_equiv.congr bs ks cs y) ∙ n

other_entries : {K X : Type 0} (eq : K → K → Bool) (test : K → Bool) (old new : List (K × X)) → KeepsOthers eq test old new → (other : K → Bool) → IsKeyTest eq other → AreApart test other → lookup other new ≡ lookup other old
unfolding KeepsOthers
other_entries eq test old new h = h

by_bytes : {W : Type 0} (f g : List ℕ → W) (bs : List ℕ) (w : W) → g bs ≡ w → ((cs : List ℕ) → bytes_eq bs cs ≡ false → g cs ≡ f cs) → (cs : List ℕ) → g cs ≡ cond (bytes_eq bs cs) w (f cs)
by_bytes f g bs w here other cs =
    ⊎_elim
    (λ y. subst (λ l. g l ≡ w) ((bytes_decides bs cs).0 y) here ∙ sym (cond-true (bytes_eq bs cs) w (f cs) y))
    (λ n. other cs n ∙ sym (cond-false (bytes_eq bs cs) w (f cs) n))
    (cases_Bool (bytes_eq bs cs))

pub at_name_updates : {X : Type 0} (bs : List ℕ) (m n : BTreeMap (Vec ℕ Global) X) (w : Option X) → UpdatesBy (λ x y. slice_cmp nat_cmp x.items y.items) (λ k. slice_cmp nat_cmp bs k.items) m n w → at_name n ≡ (λ q. update bytes_eq (at_name m) bs w q)
at_name_updates bs m n w h =
    fun_ext (by_bytes (at_name m) (at_name n) bs w h.1 (λ cs e. other_entries _ _ _ _ h.3 _ (λ x y. (eq_by_cmp_equiv nat_list_cmp_total).congr cs x.items y.items) (λ k. apart bs cs k.items e)))

pub at_name_empty : {X : Type 0} (m : BTreeMap (Vec ℕ Global) X) → IsEmpty m → at_name m ≡ (λ q. None)
at_name_empty m h = fun_ext (λ q. rw h refl)

-- the same in a table that finds by hashes
pub at_hash_updates : {X S : Type 0} (bs : List ℕ) (m n : HashMap (Vec ℕ Global) X S) (w : Option X) → hash.UpdatesBy (λ x y. bytes_eq x.items y.items) (λ k. bytes_eq bs k.items) m n w → at_hash n ≡ (λ q. update bytes_eq (at_hash m) bs w q)
at_hash_updates bs m n w h =
    fun_ext (by_bytes (at_hash m) (at_hash n) bs w h.1 (λ cs e. other_entries _ _ _ _ h.3 _ (λ x y. nat_list_eq_equiv.congr cs x.items y.items) (λ k. apart_bytes bs cs k.items e)))

pub at_hash_empty : {X S : Type 0} (m : HashMap (Vec ℕ Global) X S) → hash.IsEmpty m → at_hash m ≡ (λ q. None)
at_hash_empty m h = fun_ext (λ q. rw h refl)

mapped : {X Y : Type 0} (f : X → Y) (b : Bool) (x y : Option X) → option_map f (cond b x y) ≡ cond b (option_map f x) (option_map f y)
mapped f true x y = refl
mapped f false x y = refl

abbrev pub read_of : {X Y : Type 0} → (X → Y) → (List ℕ → Option X) → List ℕ → Option Y
read_of f m q = option_map f (m q)

-- the same, of what is read from the values
pub read_updates : {X Y : Type 0} (f : X → Y) (m n : List ℕ → Option X) (bs : List ℕ) (w : Option X) → n ≡ (λ q. update bytes_eq m bs w q) → read_of f n ≡ (λ q. update bytes_eq (read_of f m) bs (option_map f w) q)
read_updates {X} {Y} f m n bs w h =
    let P : (List ℕ → Option X) → Type 0 = λ k. read_of f k ≡ (λ q. update bytes_eq (read_of f m) bs (option_map f w) q) in
    subst P (sym h) (fun_ext (λ q. mapped f (bytes_eq bs q) w (m q)))

-- a name that gets what it has
pub bound-same : {X : Type 0} (name : List ℕ) (x : X) (s : List ℕ → Option X) → s name ≡ Some x → bind name x s ≡ s
bound-same name x s h =
    fun_ext (λ q. ⊎_elim
    (λ y. cond-true (bytes_eq name q) (Some x) (s q) y ∙ (sym h ∙ ap s ((bytes_decides name q).0 y)))
    (λ n. cond-false (bytes_eq name q) (Some x) (s q) n)
    (cases_Bool (bytes_eq name q)))

-- a name that is put and taken out again
pub unbound : {X : Type 0} (name : List ℕ) (x : X) (s : List ℕ → Option X) → s name ≡ None → unbind name (bind name x s) ≡ s
unbound name x s h =
    fun_ext (λ q. ⊎_elim
    (λ y. cond-true (bytes_eq name q) None _ y ∙ (sym h ∙ ap s ((bytes_decides name q).0 y)))
    (λ n. cond-false (bytes_eq name q) None _ n ∙ cond-false (bytes_eq name q) (Some x) (s q) n)
    (cases_Bool (bytes_eq name q)))
