-- A recurrence, whose body is made twice.
use mathlib.Core.Path.{fun_ext}
use Rattle.std.proofs.Common.{◌≡◌, ◌∙◌, ℕ, zero, suc, Bool, true, false, cond, ◌&&◌, ◌≤◌, ◌<◌, nat_le, List, [], ◌∷◌, ◌++◌, length, take, Option, Some, refl, sym, ap, subst, arith, bytes_eq}
use Rattle.std.proofs.lemmas.Bool.{leb-true, leb-false, lt-leb, cond-false}
use Rattle.pr_lang.specs.declared.trees.Fixed.{Fixed}
use Rattle.pr_lang.specs.declared.trees.Ref.{Ref}
use Rattle.pr_lang.specs.declared.trees.Expr.{Expr}
use Rattle.pr_scope_names.specs.Names.{same_place}
use Rattle.pr_flat.specs.declared.equations.Equation.{Equation}
use Rattle.pr_flat.specs.declared.equations.Op.TheVariants as op
use Rattle.pr_flat.specs.Shape.{equation_shape, shapes_of}
use Rattle.pr_expand_spec.specs.declared.givens.Given.{Given}
use Rattle.pr_expand_spec.specs.declared.givens.Standing.{Standing}
use Rattle.pr_expand_spec.specs.declared.givens.Standing.TheVariants.{Stream, Own}
use Rattle.pr_expand_spec.specs.Making.{Equations, Expanded, constant, lawful, with_equation}
use Rattle.pr_expand_spec.specs.Expressions.{Streams, Visible, declared_at_operator, place, plan_of}
use Rattle.pr_expand_spec.specs.Statements.{Progress, body_made, number_after, rec_change, settled, with_recurrence, with_standing}
use Rattle.pr_scope_facts.proofs.Appending.{appends-length, appends-with}
use Rattle.pr_expand.specs.Code.{longer}
use Rattle.pr_expand.specs.Descents.{making}

over : (b : Bool) (x y : Standing) (o : Option Standing) → cond b (Some y) (cond b (Some x) o) ≡ cond b (Some y) o
over true x y o = refl
over false x y o = refl

-- an instance that stands for something else
pub twice : (name : List ℕ) (at : Option ℕ) (x y : Standing) (env : Streams) → with_standing name at y (with_standing name at x env) ≡ with_standing name at y env
twice name at x y env = fun_ext (λ q. fun_ext (λ r. over (bytes_eq name q && same_place at r) x y (env q r)))

-- the first of the equations
pub front : (es more : Equations) → take (length es) (es ++ more) ≡ es
front [] more = refl
front (e ∷ es) more = ap (λ (xs : Equations). e ∷ xs) (front es more)

-- the body that is counted, and the one that is made under the recurrence's number, as the code makes them
pub counted_as : (v : Visible) (name : List ℕ) (width : Option ℕ) (e : Expr) (s : Progress) (p at declared : Option ℕ) (first : Streams) (counted : Expanded) → at ≡ p → declared ≡ lawful width → first ≡ with_standing name at (Own 0) s.streams → counted ≡ declared_at_operator (plan_of e).is_operator declared (making e v first s.equations) → counted ≡ body_made name p width e 0 v s
counted_as v name width e s p at declared first counted at_is declared_is first_is counted_is =
    let one : first ≡ with_standing name p (Own 0) s.streams = first_is ∙ (λ i. with_standing name (at_is i) (Own 0) s.streams) in
    counted_is ∙ (λ i. declared_at_operator (plan_of e).is_operator (declared_is i) (making e v (one i) s.equations))

pub body_as : (v w : Visible) (name : List ℕ) (width : Option ℕ) (e : Expr) (s : Progress) (p at declared : Option ℕ) (number : ℕ) (first second : Streams) (counted body : Expanded) (start more : Equations) → at ≡ p → declared ≡ lawful width → first ≡ with_standing name at (Own 0) s.streams → counted ≡ declared_at_operator (plan_of e).is_operator declared (making e v first s.equations) → number ≡ length counted.equations → start ≡ take (length s.equations) counted.equations → second ≡ with_standing name at (Own number) first → w ≡ v → body ≡ declared_at_operator (plan_of e).is_operator declared (making e w second start) → (body_made name p width e 0 v s).equations ≡ s.equations ++ more → body ≡ body_made name p width e (number_after name p width e v s) v s
body_as v w name width e s p at declared number first second counted body start more at_is declared_is first_is counted_is number_is start_is second_is same body_is appends =
    let es = s.equations in
    let n = number_after name p width e v s in
    let counts : counted ≡ body_made name p width e 0 v s = counted_as v name width e s p at declared first counted at_is declared_is first_is counted_is in
    let one : first ≡ with_standing name p (Own 0) s.streams = first_is ∙ (λ i. with_standing name (at_is i) (Own 0) s.streams) in
    let numbers : number ≡ n = number_is ∙ ap (λ (m : Expanded). length m.equations) counts in
    let starts : start ≡ es = start_is ∙ (ap (λ (m : Expanded). take (length es) m.equations) counts ∙ (ap (λ (xs : Equations). take (length es) xs) appends ∙ front es more)) in
    let two : second ≡ with_standing name p (Own n) s.streams = second_is ∙ ((λ i. with_standing name (at_is i) (Own (numbers i)) (one i)) ∙ twice name p (Own 0) (Own n) s.streams) in
    body_is ∙ (λ i. declared_at_operator (plan_of e).is_operator (declared_is i) (making e (same i) (two i) (starts i)))

-- the body that stands
pub stands_as : (v u : Visible) (name : List ℕ) (width : Option ℕ) (e : Expr) (s : Progress) (p at declared : Option ℕ) (number k : ℕ) (second again : Streams) (body remade stands : Expanded) (more : Equations) → at ≡ p → declared ≡ lawful width → number ≡ number_after name p width e v s → k ≡ length s.equations → body ≡ body_made name p width e (number_after name p width e v s) v s → second ≡ with_standing name p (Own (number_after name p width e v s)) s.streams → again ≡ with_standing name at (Own 0) second → u ≡ v → remade ≡ declared_at_operator (plan_of e).is_operator declared (making e u again (take k body.equations)) → stands ≡ longer number remade body → (body_made name p width e (number_after name p width e v s) v s).equations ≡ s.equations ++ more → stands ≡ settled (body_made name p width e 0 v s) (body_made name p width e (number_after name p width e v s) v s)
stands_as v u name width e s p at declared number k second again body remade stands more at_is declared_is number_is k_is body_is two again_is same remade_is stands_is appends =
    let es = s.equations in
    let n = number_after name p width e v s in
    let three : again ≡ with_standing name p (Own 0) s.streams = again_is ∙ ((λ i. with_standing name (at_is i) (Own 0) (two i)) ∙ twice name p (Own n) (Own 0) s.streams) in
    let starts : take k body.equations ≡ es = (λ i. take (k_is i) (body_is i).equations) ∙ (ap (λ (xs : Equations). take (length es) xs) appends ∙ front es more) in
    let counts : remade ≡ body_made name p width e 0 v s = remade_is ∙ (λ i. declared_at_operator (plan_of e).is_operator (declared_is i) (making e (same i) (three i) (starts i))) in
    stands_is ∙ (λ i. longer (number_is i) (counts i) (body_is i))

pub rec_as : (v : Visible) (target : Ref) (width : Option ℕ) (init : Fixed) (e : Expr) (s : Progress) (at : Option ℕ) (c : ℕ) (declared : Option ℕ) (again third : Streams) (stands last : Expanded) → at ≡ place target v.known → c ≡ constant init v.known → declared ≡ lawful width → ((x : Standing) → with_standing target.name (place target v.known) x again ≡ with_standing target.name (place target v.known) x s.streams) → stands ≡ settled (body_made target.name (place target v.known) width e 0 v s) (body_made target.name (place target v.known) width e (number_after target.name (place target v.known) width e v s) v s) → last ≡ with_equation (op.Rec c (length s.equations)) (stands.given ∷ []) declared stands.equations → third ≡ with_standing target.name at (Stream (record { operand = last.given.operand; signed = false }) c) again → record { streams = third; equations = last.equations } ≡ rec_change target width init e v s
rec_as v target width init e s at c declared again third stands last at_is c_is declared_is forgets stands_is last_is third_is =
    let name = target.name in
    let p = place target v.known in
    let whole = settled (body_made name p width e 0 v s) (body_made name p width e (number_after name p width e v s) v s) in
    let end = with_equation (op.Rec (constant init v.known) (length s.equations)) (whole.given ∷ []) (lawful width) whole.equations in
    let lasts : last ≡ end = last_is ∙ (λ i. with_equation (op.Rec (c_is i) (length s.equations)) ((stands_is i).given ∷ []) (declared_is i) (stands_is i).equations) in
    let given : Standing = Stream (record { operand = end.given.operand; signed = false }) (constant init v.known) in
    let three : third ≡ with_standing name p given s.streams = third_is ∙ ((λ i. with_standing name (at_is i) (Stream (record { operand = (lasts i).given.operand; signed = false }) (c_is i)) again) ∙ forgets given) in
    λ i. record { streams = three i; equations = (lasts i).equations }

-- both bodies have at most as many equations as the recurrence makes
settled_long : (counted body : Expanded) → (length counted.equations ≤ length (settled counted body).equations) × (length body.equations ≤ length (settled counted body).equations)
settled_long counted body = choice (nat_le (length counted.equations) (length body.equations)) refl where
  choice : (b : Bool) → nat_le (length counted.equations) (length body.equations) ≡ b → (length counted.equations ≤ length (cond b body counted).equations) × (length body.equations ≤ length (cond b body counted).equations)
  choice true is = (leb-true (length counted.equations) (length body.equations) is, omega arith)
  choice false is = (omega arith, omega (arith, leb-false (length counted.equations) (length body.equations) is))

rec_long : (target : Ref) (width : Option ℕ) (init : Fixed) (e : Expr) (v : Visible) (s : Progress) (stands : Expanded) → length stands.equations ≤ length (with_recurrence target.name (place target v.known) width (constant init v.known) s stands).equations
rec_long target width init e v s stands = appends-length stands.equations _ (appends-with (op.Rec (constant init v.known) (length s.equations)) (stands.given ∷ []) (lawful width) stands.equations)

pub counted_within : (v : Visible) (target : Ref) (width : Option ℕ) (init : Fixed) (e : Expr) (s : Progress) (m : Expanded) → m ≡ body_made target.name (place target v.known) width e 0 v s → length m.equations ≤ length (rec_change target width init e v s).equations
counted_within v target width init e s m is =
    let p = place target v.known in
    let counted = body_made target.name p width e 0 v s in
    let body = body_made target.name p width e (number_after target.name p width e v s) v s in
    let one = (settled_long counted body).0 in
    let two = rec_long target width init e v s (settled counted body) in
    subst (λ (x : Expanded). length x.equations ≤ length (rec_change target width init e v s).equations) (sym is) (omega (arith, one, two))

pub body_within : (v : Visible) (target : Ref) (width : Option ℕ) (init : Fixed) (e : Expr) (s : Progress) (m : Expanded) → m ≡ body_made target.name (place target v.known) width e (number_after target.name (place target v.known) width e v s) v s → length m.equations ≤ length (rec_change target width init e v s).equations
body_within v target width init e s m is =
    let p = place target v.known in
    let counted = body_made target.name p width e 0 v s in
    let body = body_made target.name p width e (number_after target.name p width e v s) v s in
    let one = (settled_long counted body).1 in
    let two = rec_long target width init e v s (settled counted body) in
    subst (λ (x : Expanded). length x.equations ≤ length (rec_change target width init e v s).equations) (sym is) (omega (arith, one, two))

pub stands_within : (v : Visible) (target : Ref) (width : Option ℕ) (init : Fixed) (e : Expr) (s : Progress) (m : Expanded) → m ≡ settled (body_made target.name (place target v.known) width e 0 v s) (body_made target.name (place target v.known) width e (number_after target.name (place target v.known) width e v s) v s) → length m.equations ≤ length (rec_change target width init e v s).equations
stands_within v target width init e s m is =
    let p = place target v.known in
    subst (λ (x : Expanded). length x.equations ≤ length (rec_change target width init e v s).equations) (sym is) (rec_long target width init e v s (settled (body_made target.name p width e 0 v s) (body_made target.name p width e (number_after target.name p width e v s) v s)))

shapes_length : (es : List Equation) → length (shapes_of es) ≡ length es
shapes_length [] = refl
shapes_length (e ∷ es) = ap suc (shapes_length es)

pub counted_number : (es : List Equation) (n : ℕ) → n ≡ length es → n ≡ length (shapes_of es)
counted_number es n is = is ∙ sym (shapes_length es)

shapes_take : (n : ℕ) (es : List Equation) → shapes_of (take n es) ≡ take n (shapes_of es)
shapes_take zero es = refl
shapes_take (suc n) [] = refl
shapes_take (suc n) (e ∷ es) = ap (λ (xs : Equations). equation_shape e ∷ xs) (shapes_take n es)

-- the equations from before the body
pub cut_shapes : (now es before : List Equation) (n : ℕ) → n ≡ length before → now ≡ take n es → shapes_of now ≡ take (length (shapes_of before)) (shapes_of es)
cut_shapes now es before n is cut = ap shapes_of cut ∙ (shapes_take n es ∙ ap (λ (k : ℕ). take k (shapes_of es)) (counted_number before n is))

pub rec_last : (m : Expanded) (c : ℕ) (g : Given) (declared : Option ℕ) (es : Equations) (n k : ℕ) → n ≡ k → m ≡ with_equation (op.Rec c n) (g ∷ []) declared es → m ≡ with_equation (op.Rec c k) (g ∷ []) declared es
rec_last m c g declared es n k is h = h ∙ ap (λ (i : ℕ). with_equation (op.Rec c i) (g ∷ []) declared es) is

-- a body that has fewer equations than were counted is made again
pub longer_counted : (n k : ℕ) (x : Expanded) (es : List Equation) (g : Given) → k < n → k ≡ length es → longer n x (record { equations = shapes_of es; given = g }) ≡ x
longer_counted n k x es g less is = cond-false (nat_le n (length (shapes_of es))) (record { equations = shapes_of es; given = g }) x (lt-leb n (length (shapes_of es)) (let same = counted_number es k is in omega (arith, less, same)))

pub shapes_cut : (now es : List Equation) (n : ℕ) → now ≡ take n es → shapes_of now ≡ take n (shapes_of es)
shapes_cut now es n is = ap shapes_of is ∙ shapes_take n es
