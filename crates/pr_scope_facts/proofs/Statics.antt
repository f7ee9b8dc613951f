-- The names that the meaning and the equations see are those that the walk sees, but for what callers see of functions.
use mathlib.Core.Path.{fun_ext}
use Rattle.std.proofs.Common.{◌≡◌, ◌∙◌, ℕ, Bool, true, false, cond, List, [], ◌∷◌, map, Option, Some, None, option_map, Result, Ok, bytes_eq, slice_get, codes, refl, sym, ap, ap₂, subst}
use Rattle.std.specs.Result.{result_ok}
use Rattle.std.specs.Option.{unwrap_or}
use Rattle.std.proofs.lemmas.Option.{none-some}
use Rattle.pr_lang.specs.declared.trees.Fixed.{Fixed, map-Fixed}
use Rattle.pr_lang.specs.declared.trees.Fixed.TheOpen.{Fixed-F}
use Rattle.pr_lang.specs.declared.trees.Fixed.TheFolds.{fold-roll-Fixed, ind-Fixed}
use Rattle.pr_lang.specs.declared.trees.Ref.{Ref}
use Rattle.pr_lang.specs.declared.trees.Param.{Param}
use Rattle.pr_lang.specs.declared.trees.Expr.{Expr, map-Expr}
use Rattle.pr_lang.specs.declared.trees.Expr.TheOpen.{Expr-F}
use Rattle.pr_lang.specs.declared.trees.Expr.TheFolds.{fold-roll-Expr, ind-Expr}
use Rattle.pr_scope_names.specs.declared.rules.Offence.{Offence}
use Rattle.pr_scope_names.specs.declared.names.Callee.{Callee}
use Rattle.pr_scope_names.specs.declared.names.Static.{Static}
use Rattle.pr_scope_names.specs.declared.names.Static.TheVariants.{Constant, Function, Index, Table}
use Rattle.pr_scope_names.specs.Outcomes.{all_of, and_then, optional}
use Rattle.pr_scope_names.specs.Names.{Known, bind, built_in}
use Rattle.pr_scope_names.specs.Constants.{read, entry_of, constant_of, fixed_step, applied, place_of}
use Rattle.pr_scope_names.specs.Amounts.{Amount, amount_of, amount_step, both_amounts, fixed_op, named_amount}
use Rattle.pr_lang_meaning.specs.Programs.{function_at, entries_of}
use Rattle.pr_expand_spec.specs.Making.{constant}
use Rattle.pr_expand_spec.specs.Expressions.{place}
use Rattle.pr_scope_facts.proofs.Outcomes.{same_ok, then_ok}

-- a function is known by its item and the number of its parameters
abbrev pub plain : Static → Static
plain (Function f) = Function (record { item = f.item; params = f.params; turns = 0; depth = 0; past = false })
plain s = s

-- The second, which the meaning and the equations see, has the names of the first, which the walk sees.
pub record SameKnown (walk known : Known) : Type 0 where
  pub at : (name : List ℕ) → known name ≡ option_map plain (walk name)

-- ---- what is read of names
pub same-read : (o : Option Static) (index : Option ℕ) → read (option_map plain o) index ≡ read o index
same-read None index = refl
same-read (Some (Constant n)) index = refl
same-read (Some (Index n)) index = refl
same-read (Some (Table ns)) index = refl
same-read (Some (Function f)) None = refl
same-read (Some (Function f)) (Some place) = refl

abbrev IsSameConstant : Known → Known → Fixed → Type 0
IsSameConstant walk known f = constant_of f known ≡ constant_of f walk

-- one layer, whose parts have the same value
constant-layer : (walk known : Known) → SameKnown walk known → (y : Fixed-F ((f : Fixed) × IsSameConstant walk known f)) → fixed_step (map-Fixed Fixed (Known → Result ℕ Offence) constant_of (map-Fixed ((f : Fixed) × IsSameConstant walk known f) Fixed (λ p. p.0) y)) known ≡ fixed_step (map-Fixed Fixed (Known → Result ℕ Offence) constant_of (map-Fixed ((f : Fixed) × IsSameConstant walk known f) Fixed (λ p. p.0) y)) walk
constant-layer walk known same (Fixed-F.Number n) = refl
constant-layer walk known same (Fixed-F.Refer name None) = rw (same.at name) (same-read (walk name) None)
constant-layer walk known same (Fixed-F.Refer name (Some i)) = rw (same.at name, i.value.1) (ap (λ (f : Option ℕ → Result ℕ Offence). and_then (and_then (constant_of i.value.0 walk) (λ n. Ok (Some n))) f) (fun_ext (λ index. same-read (walk name) index)))
constant-layer walk known same (Fixed-F.Binary op a b) = ap₂ (λ (x y : Result ℕ Offence). and_then x (λ m. and_then y (λ n. applied op m n))) a.value.1 b.value.1
constant-layer walk known same (Fixed-F.Paren e) = e.value.1

pub same-constant : (walk known : Known) → SameKnown walk known → (f : Fixed) → constant_of f known ≡ constant_of f walk
same-constant walk known same = ind-Fixed (IsSameConstant walk known) (λ x y is.
    let layer : fixed_step (map-Fixed Fixed (Known → Result ℕ Offence) constant_of x) known ≡ fixed_step (map-Fixed Fixed (Known → Result ℕ Offence) constant_of x) walk = subst (λ z. fixed_step (map-Fixed Fixed (Known → Result ℕ Offence) constant_of z) known ≡ fixed_step (map-Fixed Fixed (Known → Result ℕ Offence) constant_of z) walk) is (constant-layer walk known same y) in
    ap (λ (c : Known → Result ℕ Offence). c known) (fold-roll-Fixed (Known → Result ℕ Offence) fixed_step x) ∙ (layer ∙ sym (ap (λ (c : Known → Result ℕ Offence). c walk) (fold-roll-Fixed (Known → Result ℕ Offence) fixed_step x))))

same-optional : (walk known : Known) → SameKnown walk known → (index : Option Fixed) → optional (option_map (λ i. constant_of i known) index) ≡ optional (option_map (λ i. constant_of i walk) index)
same-optional walk known same None = refl
same-optional walk known same (Some i) = ap (λ (o : Result ℕ Offence). optional (Some o)) (same-constant walk known same i)

pub same-place : (walk known : Known) → SameKnown walk known → (r : Ref) → place_of r known ≡ place_of r walk
same-place walk known same r = same-optional walk known same r.index

abbrev IsSameAmount : Known → Known → Expr → Type 0
IsSameAmount walk known e = amount_of e known ≡ amount_of e walk

same-named : (walk known : Known) → SameKnown walk known → (o : Option Static) (index : Option Fixed) → named_amount (option_map plain o) index known ≡ named_amount o index walk
same-named walk known same None None = refl
same-named walk known same None (Some i) = refl
same-named walk known same (Some (Constant n)) None = refl
same-named walk known same (Some (Constant n)) (Some i) = refl
same-named walk known same (Some (Index n)) None = refl
same-named walk known same (Some (Index n)) (Some i) = refl
same-named walk known same (Some (Table ns)) None = refl
same-named walk known same (Some (Table ns)) (Some i) = ap (λ (o : Result ℕ Offence). Some (and_then o (λ place. entry_of (slice_get ns place)))) (same-constant walk known same i)
same-named walk known same (Some (Function f)) None = refl
same-named walk known same (Some (Function f)) (Some i) = refl

amount-layer : (walk known : Known) → SameKnown walk known → (y : Expr-F ((e : Expr) × IsSameAmount walk known e)) → amount_step (λ (a : Amount). a) (map-Expr Expr Amount amount_of (map-Expr ((e : Expr) × IsSameAmount walk known e) Expr (λ p. p.0) y)) known ≡ amount_step (λ (a : Amount). a) (map-Expr Expr Amount amount_of (map-Expr ((e : Expr) × IsSameAmount walk known e) Expr (λ p. p.0) y)) walk
amount-layer walk known same (Expr-F.Number n) = refl
amount-layer walk known same (Expr-F.Refer r) = rw (same.at r.name) (same-named walk known same (walk r.name) r.index)
amount-layer walk known same (Expr-F.Delay r k) = refl
amount-layer walk known same (Expr-F.Slice e high low) = refl
amount-layer walk known same (Expr-F.Not e) = refl
amount-layer walk known same (Expr-F.Binary op a b) = ap₂ (both_amounts (fixed_op op)) a.value.1 b.value.1
amount-layer walk known same (Expr-F.Choose e a b) = refl
amount-layer walk known same (Expr-F.Call name args) = refl
amount-layer walk known same (Expr-F.Cat parts) = refl
amount-layer walk known same (Expr-F.Paren e) = e.value.1

pub same-amount : (walk known : Known) → SameKnown walk known → (e : Expr) → amount_of e known ≡ amount_of e walk
same-amount walk known same = ind-Expr (IsSameAmount walk known) (λ x y is.
    let layer : amount_step (λ (a : Amount). a) (map-Expr Expr Amount amount_of x) known ≡ amount_step (λ (a : Amount). a) (map-Expr Expr Amount amount_of x) walk = subst (λ z. amount_step (λ (a : Amount). a) (map-Expr Expr Amount amount_of z) known ≡ amount_step (λ (a : Amount). a) (map-Expr Expr Amount amount_of z) walk) is (amount-layer walk known same y) in
    ap (λ (a : Amount). a known) (fold-roll-Expr Amount (amount_step (λ (a : Amount). a)) x) ∙ (layer ∙ sym (ap (λ (a : Amount). a walk) (fold-roll-Expr Amount (amount_step (λ (a : Amount). a)) x))))

-- ---- what the walk has read, as the meaning and the equations have it
pub ok_is : {A : Type 0} (o : Result A Offence) (x : A) → o ≡ Ok x → result_ok o ≡ Some x
ok_is o x is = ap result_ok is

pub constant-meant : (walk known : Known) → SameKnown walk known → (f : Fixed) (n : ℕ) → constant_of f walk ≡ Ok n → result_ok (constant_of f known) ≡ Some n
constant-meant walk known same f n is = ap result_ok (same-constant walk known same f ∙ is)

pub constant-made : (walk known : Known) → SameKnown walk known → (f : Fixed) (n : ℕ) → constant_of f walk ≡ Ok n → constant f known ≡ n
constant-made walk known same f n is = ap (λ (o : Option ℕ). unwrap_or o 0) (constant-meant walk known same f n is)

pub place-meant : (walk known : Known) → SameKnown walk known → (r : Ref) (index : Option ℕ) → place_of r walk ≡ Ok index → result_ok (place_of r known) ≡ Some index
place-meant walk known same r index is = ap result_ok (same-place walk known same r ∙ is)

pub place-made : (walk known : Known) → SameKnown walk known → (r : Ref) (index : Option ℕ) → place_of r walk ≡ Ok index → place r known ≡ index
place-made walk known same r index is = ap (λ (o : Option (Option ℕ)). unwrap_or o None) (place-meant walk known same r index is)

pub entries-meant : (walk known : Known) → SameKnown walk known → (values : List Fixed) (ns : List ℕ) → all_of (map (λ v. constant_of v walk) values) ≡ Ok ns → entries_of values known ≡ Some ns
entries-meant walk known same [] ns is = ap Some (same_ok [] ns is)
entries-meant walk known same (v ∷ vs) ns is =
    let first = then_ok (constant_of v walk) (λ n. and_then (all_of (map (λ v. constant_of v walk) vs)) (λ ms. Ok (n ∷ ms))) ns is in
    let rest = then_ok (all_of (map (λ v. constant_of v walk) vs)) (λ ms. Ok (first.0 ∷ ms)) ns first.2 in
    rw (constant-meant walk known same v first.0 first.1, entries-meant walk known same vs rest.0 rest.1) (ap Some (same_ok (first.0 ∷ rest.0) ns rest.2))

pub entries-made : (walk known : Known) → SameKnown walk known → (values : List Fixed) (ns : List ℕ) → all_of (map (λ v. constant_of v walk) values) ≡ Ok ns → map (λ f. constant f known) values ≡ ns
entries-made walk known same [] ns is = same_ok [] ns is
entries-made walk known same (v ∷ vs) ns is =
    let first = then_ok (constant_of v walk) (λ n. and_then (all_of (map (λ v. constant_of v walk) vs)) (λ ms. Ok (n ∷ ms))) ns is in
    let rest = then_ok (all_of (map (λ v. constant_of v walk) vs)) (λ ms. Ok (first.0 ∷ ms)) ns first.2 in
    ap₂ (λ (m : ℕ) (ms : List ℕ). m ∷ ms) (constant-made walk known same v first.0 first.1) (entries-made walk known same vs rest.0 rest.1) ∙ same_ok (first.0 ∷ rest.0) ns rest.2

-- ---- what a name is
pub same-static : (walk known : Known) → SameKnown walk known → (name : List ℕ) (s : Static) → walk name ≡ Some s → known name ≡ Some (plain s)
same-static walk known same name s is = same.at name ∙ ap (option_map plain) is

pub same-unknown : (walk known : Known) → SameKnown walk known → (name : List ℕ) → walk name ≡ None → known name ≡ None
same-unknown walk known same name is = same.at name ∙ ap (option_map plain) is

no-plain : (o : Option Static) → option_map plain o ≡ None → o ≡ None
no-plain None h = refl
no-plain (Some s) h = absurd (none-some (plain s) (sym h))

pub same-unknown_back : (walk known : Known) → SameKnown walk known → (name : List ℕ) → known name ≡ None → walk name ≡ None
same-unknown_back walk known same name is = no-plain (walk name) (sym (same.at name) ∙ is)

-- a name that both read as a number
pub same-number : (walk known : Known) → SameKnown walk known → (name : List ℕ) (s : Static) (index : Option ℕ) (n : ℕ) → walk name ≡ Some s → read (Some s) index ≡ Ok n → read (Some (plain s)) index ≡ Ok n
same-number walk known same name s index n is reads = same-read (Some s) index ∙ reads

-- ---- names that are introduced
plain-choice : (b : Bool) (s : Static) (o p : Option Static) → p ≡ option_map plain o → cond b (Some (plain s)) p ≡ option_map plain (cond b (Some s) o)
plain-choice true s o p is = refl
plain-choice false s o p is = is

pub same-bind : (walk known : Known) → SameKnown walk known → (name : List ℕ) (s : Static) → SameKnown (bind name s walk) (bind name (plain s) known)
same-bind walk known same name s = record { at = λ q. plain-choice (bytes_eq name q) s (walk q) (known q) (same.at q) }

pub same-index : (walk known : Known) → SameKnown walk known → (name : List ℕ) (n : ℕ) → SameKnown (bind name (Index n) walk) (bind name (Index n) known)
same-index walk known same name n = same-bind walk known same name (Index n)

pub same-function : (walk known : Known) → SameKnown walk known → (name : List ℕ) (at : ℕ) (params : List Param) (f : Callee) → plain (Function f) ≡ function_at at params → SameKnown (bind name (Function f) walk) (bind name (function_at at params) known)
same-function walk known same name at params f is = subst (λ (s : Static). SameKnown (bind name (Function f) walk) (bind name s known)) is (same-bind walk known same name (Function f))

pub same-built_in : SameKnown built_in built_in
unfolding built_in
same-built_in = same-bind (λ _. None) (λ _. None) (record { at = λ _. refl }) (codes "signed") (Function (record { item = None; params = 1; turns = 0; depth = 0; past = false }))
