-- The number of each key is that of the first delay which has it.
use mathlib.Core.Path.{fun_ext}
use Rattle.std.proofs.Common.{◌≡◌, ◌∙◌, ◌<◌, ◌≤◌, ℕ, zero, suc, ◌+◌, Bool, true, false, cond, ◌&&◌, nat_eq, List, [], ◌∷◌, ◌++◌, length, take, Option, Some, None, is_some, HashMap, refl, sym, ap, subst, arith, ⊎_elim, bytes_eq, eq-eqb, unwrap_or}
use Rattle.std.specs.Cmp.Lexicographic.{bytes_decides, nat_list_eq_equiv}
use Rattle.std.specs.HashMap.{UpdatesBy}
use Rattle.std.specs.Map.{update}
use Rattle.std.proofs.lemmas.Bool.{cases_Bool, cond-true, cond-false, eqb-true}
use Rattle.pr_scope_names.specs.Names.{bind, unbind}
use Rattle.pr_flat.specs.declared.equations.Equation.{Equation}
use Rattle.pr_flat.specs.declared.equations.Operand.{Operand}
use Rattle.pr_flat.specs.declared.equations.Operand.TheVariants.{Const, Eq, Past}
use Rattle.pr_flat.specs.declared.equations.Op.{Op}
use Rattle.pr_flat.specs.declared.equations.Op.TheVariants.{Delay}
use Rattle.pr_flat.specs.Shape.{EquationShape, equation_shape, shapes_of}
use Rattle.pr_expand_spec.specs.Making.{Equations, declare_last, delay_from, is_delay_of, same_operand}
use Rattle.pr_expand.specs.Keys.{Found, delay_key, found_in, is_number, key_in, with_key, without_key}

swapped : (x y : Bool) → x && (y && true) ≡ y && x
swapped true true = refl
swapped true false = refl
swapped false true = refl
swapped false false = refl

swapped_three : (x y z : Bool) → x && (y && (z && true)) ≡ z && (x && y)
swapped_three true true true = refl
swapped_three true true false = refl
swapped_three true false true = refl
swapped_three true false false = refl
swapped_three false true true = refl
swapped_three false true false = refl
swapped_three false false true = refl
swapped_three false false false = refl

never : (x : Bool) → false ≡ x && false
never true = refl
never false = refl

-- one key is that of one operand after one number
same_key : (p : Operand) (d : ℕ) (q : Operand) (c : ℕ) → bytes_eq (delay_key p d) (delay_key q c) ≡ (nat_eq d c && same_operand p q)
same_key (Const a) d (Const b) c = swapped (nat_eq a b) (nat_eq d c)
same_key (Const a) d (Eq i) c = never (nat_eq d c)
same_key (Const a) d (Past r k) c = never (nat_eq d c)
same_key (Eq i) d (Const a) c = never (nat_eq d c)
same_key (Eq i) d (Eq j) c = swapped (nat_eq i j) (nat_eq d c)
same_key (Eq i) d (Past r k) c = never (nat_eq d c)
same_key (Past r k) d (Const a) c = never (nat_eq d c)
same_key (Past r k) d (Eq i) c = never (nat_eq d c)
same_key (Past r k) d (Past s l) c = swapped_three (nat_eq r s) (nat_eq k l) (nat_eq d c)

abbrev matches : Option (List ℕ) → List ℕ → Bool
matches None other = false
matches (Some key) other = bytes_eq key other

delay_test : (q : Operand) (c : ℕ) (op : Op) (args : List Operand) → is_delay_of q c op args ≡ matches (key_in op args) (delay_key q c)
delay_test q c (Delay d) [] = refl
delay_test q c (Delay d) (p ∷ []) = sym (same_key p d q c)
delay_test q c (Delay d) (p ∷ r ∷ rest) = refl
delay_test q c op args = refl

abbrev or_else : Option ℕ → Option ℕ → Option ℕ
or_else (Some n) o = Some n
or_else None o = o

or_none : (o : Option ℕ) → or_else o None ≡ o
or_none None = refl
or_none (Some n) = refl

step : (b : Bool) (i : ℕ) (x y : Option ℕ) → cond b (Some i) (or_else x y) ≡ or_else (cond b (Some i) x) y
step true i x y = refl
step false i x y = refl

-- the last equation
delay_last : (i : ℕ) (es : Equations) (e : EquationShape) (q : Operand) (c : ℕ) → delay_from i (es ++ e ∷ []) q c ≡ or_else (delay_from i es q c) (cond (is_delay_of q c e.op e.args) (Some (i + length es)) None)
delay_last i [] e q c = ap (λ (n : ℕ). cond (is_delay_of q c e.op e.args) (Some n) None) (omega arith)
delay_last i (f ∷ es) e q c =
    let more : i + 1 + length es ≡ i + suc (length es) = omega arith in
    ap (λ (x : Option ℕ). cond (is_delay_of q c f.op f.args) (Some i) x) (delay_last (i + 1) es e q c ∙ ap (λ (n : ℕ). or_else (delay_from (i + 1) es q c) (cond (is_delay_of q c e.op e.args) (Some n) None)) more) ∙
    step (is_delay_of q c f.op f.args) i (delay_from (i + 1) es q c) (cond (is_delay_of q c e.op e.args) (Some (i + suc (length es))) None)

abbrev last_number : Equations → EquationShape → List ℕ → Option ℕ
last_number es e key = cond (matches (key_in e.op e.args) key) (Some (length es)) None

delay_after : (es : Equations) (e : EquationShape) (q : Operand) (c : ℕ) → delay_from 0 (es ++ e ∷ []) q c ≡ or_else (delay_from 0 es q c) (last_number es e (delay_key q c))
delay_after es e q c =
    let zero_more : 0 + length es ≡ length es = omega arith in
    delay_last 0 es e q c ∙
    ((λ i. or_else (delay_from 0 es q c) (cond (delay_test q c e.op e.args i) (Some (zero_more i)) None)))

-- one equation more
found_with : (found : Found) (key : Option (List ℕ)) (n : ℕ) (other : List ℕ) → with_key key n found other ≡ or_else (found other) (cond (matches key other) (Some n) None)
found_with found None n other = sym (or_none (found other))
found_with found (Some key) n other = by_found (found key) refl where
  by_found : (o : Option ℕ) → found key ≡ o → cond (is_some (found key)) found (bind key n found) other ≡ or_else (found other) (cond (bytes_eq key other) (Some n) None)
  by_found (Some m) is =
      ap (λ (x : Option ℕ). cond (is_some x) found (bind key n found) other) is ∙
      ⊎_elim
      (λ y. let here : found other ≡ Some m = ap found (sym ((bytes_decides key other).0 y)) ∙ is in here ∙ sym (ap (λ (x : Option ℕ). or_else x (cond (bytes_eq key other) (Some n) None)) here))
      (λ no. sym (or_none (found other)) ∙ ap (or_else (found other)) (sym (cond-false (bytes_eq key other) (Some n) None no)))
      (cases_Bool (bytes_eq key other))
  by_found None is =
      ap (λ (x : Option ℕ). cond (is_some x) found (bind key n found) other) is ∙
      ⊎_elim
      (λ y. let here : found other ≡ None = ap found (sym ((bytes_decides key other).0 y)) ∙ is in cond-true (bytes_eq key other) (Some n) (found other) y ∙ (sym (cond-true (bytes_eq key other) (Some n) None y) ∙ sym (ap (λ (x : Option ℕ). or_else x (cond (bytes_eq key other) (Some n) None)) here)))
      (λ no. cond-false (bytes_eq key other) (Some n) (found other) no ∙ (sym (or_none (found other)) ∙ ap (or_else (found other)) (sym (cond-false (bytes_eq key other) (Some n) None no))))
      (cases_Bool (bytes_eq key other))

abbrev IsFound : Found → Equations → Type 0
IsFound found es = (q : Operand) (c : ℕ) → found (delay_key q c) ≡ delay_from 0 es q c

pub found_more : (found now : Found) (es : Equations) (e : EquationShape) (n : ℕ) → IsFound found es → n ≡ length es → now ≡ with_key (key_in e.op e.args) n found → IsFound now (es ++ e ∷ [])
found_more found now es e n old is grown q c =
    ap (λ (f : Found). f (delay_key q c)) grown ∙
    (found_with found (key_in e.op e.args) n (delay_key q c) ∙
    ((λ i. or_else (old q c i) (cond (matches (key_in e.op e.args) (delay_key q c)) (Some (is i)) None)) ∙
    sym (delay_after es e q c)))

-- ---- one equation less
below_test : (b : Bool) (i m n : ℕ) (o : Option ℕ) → (o ≡ Some m → m < i + 1 + n) → cond b (Some i) o ≡ Some m → m < i + suc n
below_test true i m n o rest h = let same : i ≡ m = ap (λ (x : Option ℕ). unwrap_or x 0) h in omega (arith, same)
below_test false i m n o rest h = let less = rest h in omega (arith, less)

below : (i : ℕ) (es : Equations) (q : Operand) (c m : ℕ) → delay_from i es q c ≡ Some m → m < i + length es
below i [] q c m h = absurd (cc)
below i (e ∷ es) q c m h = below_test (is_delay_of q c e.op e.args) i m (length es) (delay_from (i + 1) es q c) (λ k. below (i + 1) es q c m k) h

abbrev Under : ℕ → Option ℕ → Type 0
Under n None = Unit {0}
Under n (Some m) = m < n

below_all : (es : Equations) (q : Operand) (c n : ℕ) → n ≡ length es → (o : Option ℕ) → delay_from 0 es q c ≡ o → Under n o
below_all es q c n is None h = tt
below_all es q c n is (Some m) h = let less = below 0 es q c m h in omega (arith, less, is)

unequal : (m n : ℕ) → m < n → nat_eq m n ≡ false
unequal m n less = ⊎_elim (λ y. let same : m ≡ n = eqb-true m n y in absurd (omega (arith, same, less))) (λ no. no) (cases_Bool (nat_eq m n))

number_is : (m n : ℕ) → Some m ≡ Some n → m ≡ n
number_is m n h = ap (λ (o : Option ℕ). unwrap_or o 0) h

same_before : (n : ℕ) (o d : Option ℕ) → Under n o → Under n d → or_else o (Some n) ≡ or_else d (Some n) → o ≡ d
same_before n None None x y h = refl
same_before n (Some a) (Some b) x y h = h
same_before n None (Some b) x y h = let same = number_is n b h in absurd (omega (arith, same, y))
same_before n (Some a) None x y h = let same = number_is a n h in absurd (omega (arith, same, x))

either : (b : Bool) (found : Found) (key other : List ℕ) (d : Option ℕ) → unbind key found other ≡ d → found other ≡ d → cond b (unbind key found) found other ≡ d
either true found key other d out kept = out
either false found key other d out kept = kept

-- the last equation's own key
own_less : (found : Found) (n : ℕ) (key : List ℕ) (o : Option ℕ) → Under n o → found key ≡ or_else o (Some n) → cond (is_number n (found key)) (unbind key found) found key ≡ o
own_less found n key None x mine =
    ap (λ (y : Option ℕ). cond (is_number n y) (unbind key found) found key) mine ∙
    (ap (λ (b : Bool). cond b (unbind key found) found key) (eq-eqb n n refl) ∙
    cond-true (bytes_eq key key) None (found key) (nat_list_eq_equiv.refl key))
own_less found n key (Some m) x mine =
    ap (λ (y : Option ℕ). cond (is_number n y) (unbind key found) found key) mine ∙
    (ap (λ (b : Bool). cond b (unbind key found) found key) (unequal m n x) ∙ mine)

found_less : (found : Found) (n : ℕ) (key other : List ℕ) (o d : Option ℕ) → Under n o → Under n d → found key ≡ or_else o (cond (bytes_eq key key) (Some n) None) → found other ≡ or_else d (cond (bytes_eq key other) (Some n) None) → cond (is_number n (found key)) (unbind key found) found other ≡ d
found_less found n key other o d x y own there =
    let mine : found key ≡ or_else o (Some n) = own ∙ ap (or_else o) (cond-true (bytes_eq key key) (Some n) None (nat_list_eq_equiv.refl key)) in
    ⊎_elim
    (λ yes.
    let same : key ≡ other = (bytes_decides key other).0 yes in
    let theirs : found other ≡ or_else d (Some n) = there ∙ ap (or_else d) (cond-true (bytes_eq key other) (Some n) None yes) in
    let before : o ≡ d = same_before n o d x y (sym mine ∙ (ap found same ∙ theirs)) in
    subst (λ (k : List ℕ). cond (is_number n (found key)) (unbind key found) found k ≡ d) same (own_less found n key o x mine ∙ before))
    (λ no.
    let kept : found other ≡ d = there ∙ (ap (or_else d) (cond-false (bytes_eq key other) (Some n) None no) ∙ or_none d) in
    either (is_number n (found key)) found key other d (cond-false (bytes_eq key other) None (found other) no ∙ kept) kept)
    (cases_Bool (bytes_eq key other))

less_at : (found : Found) (es : Equations) (n : ℕ) (op : Op) (args : List Operand) → n ≡ length es → ((q : Operand) (c : ℕ) → found (delay_key q c) ≡ or_else (delay_from 0 es q c) (cond (matches (key_in op args) (delay_key q c)) (Some n) None)) → (q : Operand) (c : ℕ) → without_key (key_in op args) n found (delay_key q c) ≡ delay_from 0 es q c
less_at found es n (Delay d) (p ∷ []) is all q c = found_less found n (delay_key p d) (delay_key q c) (delay_from 0 es p d) (delay_from 0 es q c) (below_all es p d n is (delay_from 0 es p d) refl) (below_all es q c n is (delay_from 0 es q c) refl) (all p d) (all q c)
less_at found es n op args is all q c = all q c ∙ or_none (delay_from 0 es q c)

pub found_fewer : (found now : Found) (es : Equations) (e : EquationShape) (n : ℕ) → IsFound found (es ++ e ∷ []) → n ≡ length es → now ≡ without_key (key_in e.op e.args) n found → IsFound now es
found_fewer found now es e n old is less q c =
    ap (λ (f : Found). f (delay_key q c)) less ∙
    less_at found es n e.op e.args is (λ p d. old p d ∙ (delay_after es e p d ∙ ap (λ (k : ℕ). or_else (delay_from 0 es p d) (cond (matches (key_in e.op e.args) (delay_key p d)) (Some k) None)) (sym is))) q c

-- ---- a declared width changes no delay
pub found_declared : (w i : ℕ) (es : Equations) (q : Operand) (c : ℕ) → delay_from i (declare_last w es) q c ≡ delay_from i es q c
found_declared w i [] q c = refl
found_declared w i (e ∷ []) q c = refl
found_declared w i (e ∷ f ∷ rest) q c = ap (λ (x : Option ℕ). cond (is_delay_of q c e.op e.args) (Some i) x) (found_declared w (i + 1) (f ∷ rest) q c)

-- shapes of equations with one more
pub shapes_more : (es : List Equation) (e : Equation) → shapes_of (es ++ e ∷ []) ≡ shapes_of es ++ equation_shape e ∷ []
shapes_more [] e = refl
shapes_more (x ∷ es) e = ap (λ (xs : Equations). equation_shape x ∷ xs) (shapes_more es e)

-- the first ones of the first ones
pub take_less : (xs : List Equation) (k n : ℕ) → k ≤ n → take k (take n xs) ≡ take k xs
take_less xs zero n h = refl
take_less xs (suc k) zero h = absurd (omega (arith, h))
take_less [] (suc k) (suc n) h = refl
take_less (x ∷ xs) (suc k) (suc n) h = ap (λ (ys : List Equation). x ∷ ys) (take_less xs k n (omega (arith, h)))

-- the table with something at one key
pub found_updates : {S : Type 0} (key : List ℕ) (m n : HashMap (List ℕ) ℕ S) (w : Option ℕ) → UpdatesBy bytes_eq (bytes_eq key) m n w → found_in n ≡ (λ q. update bytes_eq (found_in m) key w q)
found_updates key m n w h = fun_ext h.0

pub noted_is : (key : Option (List ℕ)) (k : List ℕ) (n : ℕ) (old now : Found) → key ≡ Some k → is_some (old k) ≡ false → now ≡ bind k n old → now ≡ with_key key n old
noted_is key k n old now is absent bound =
    bound ∙
    (sym (ap (λ (b : Bool). cond b old (bind k n old)) absent) ∙
    sym (ap (λ (o : Option (List ℕ)). with_key o n old) is))

pub forgotten_is : (key : Option (List ℕ)) (k : List ℕ) (n : ℕ) (old now : Found) → key ≡ Some k → is_number n (old k) ≡ true → now ≡ unbind k old → now ≡ without_key key n old
forgotten_is key k n old now is there unbound =
    unbound ∙
    (sym (ap (λ (b : Bool). cond b (unbind k old) old) there) ∙
    sym (ap (λ (o : Option (List ℕ)). without_key o n old) is))

pub found_at : (found : Found) (es ds : List Equation) (e : Equation) → ((q : Operand) (c : ℕ) → found (delay_key q c) ≡ delay_from 0 (shapes_of ds) q c) → ds ≡ es ++ e ∷ [] → (q : Operand) (c : ℕ) → found (delay_key q c) ≡ delay_from 0 (shapes_of es ++ equation_shape e ∷ []) q c
found_at found es ds e old is q c = old q c ∙ ap (λ (xs : Equations). delay_from 0 xs q c) (ap shapes_of is ∙ shapes_more es e)

pub found_there : (found : Found) (es ds : List Equation) (e : Equation) → ((q : Operand) (c : ℕ) → found (delay_key q c) ≡ delay_from 0 (shapes_of es ++ equation_shape e ∷ []) q c) → ds ≡ es ++ e ∷ [] → (q : Operand) (c : ℕ) → found (delay_key q c) ≡ delay_from 0 (shapes_of ds) q c
found_there found es ds e new is q c = new q c ∙ sym (ap (λ (xs : Equations). delay_from 0 xs q c) (ap shapes_of is ∙ shapes_more es e))
