-- What statements do at the first places is settled by the streams before them, at these places.
use Rattle.std.proofs.Common.{◌≡◌, ℕ, zero, suc, ◌+◌, ◌-◌, ◌^◌, ◌<◌, ◌≤◌, Bool, false, cond, ◌&&◌, nat_lt, nat_le, List, [], ◌∷◌, ◌++◌, map, length, replicate, get_or, bytes_eq, Option, Some, None, option_map, refl, sym, ◌∙◌, ap, ap₂, subst, arith, length-append, inl, inr}
use Rattle.std.specs.Option.{option_and_then, option_map_or}
use Rattle.std.specs.Result.{result_ok}
use Rattle.std.proofs.lemmas.Bool.{cases_lt}
use Rattle.std.proofs.lemmas.List.{get_or_append_left}
use Rattle.pr_lang.specs.declared.trees.Fixed.{Fixed}
use Rattle.pr_lang.specs.declared.trees.Ref.{Ref}
use Rattle.pr_lang.specs.declared.trees.Expr.{Expr}
use Rattle.pr_lang.specs.declared.trees.Stmt.{Stmt, map-Stmt}
use Rattle.pr_lang.specs.declared.trees.Stmt.TheOpen.{Stmt-F}
use Rattle.pr_lang.specs.declared.trees.Stmt.TheFolds.{fold-roll-Stmt, ind-Stmt}
use Rattle.pr_scope_names.specs.Names.{same_place}
use Rattle.pr_scope_names.specs.Constants.{constant_of, place_of}
use Rattle.pr_flat.specs.declared.forms.Form.{Form}
use Rattle.pr_flat.specs.Forms.{Stream, value, residue, least_from}
use Rattle.pr_flat.specs.Facts.{is_width}
use Rattle.pr_lang_meaning.specs.Streams.{Bound, Streams, sources, with_bound, with_stream, assigned}
use Rattle.pr_lang_meaning.specs.Expressions.{Visible, meaning}
use Rattle.pr_lang_meaning.specs.Statements.{Change, Body, so_far, body_of, number_at, recurring, holds, width_of, recurrence, let_change, with_recurrence, rec_change, in_turn, with_known, turns, stmt_step, change_of, changes_of}
use Rattle.pr_lang_meaning.proofs.Pairs.{Both, both-and_then, both-map, same-and_then, same-map, both-choice, both-is_some}
use Rattle.pr_lang_meaning.proofs.Agreeing.{Agree, First, first_below, second_below, agree-first, at-first, AgreeBound, AgreeStreams, agree-sources, both-assigned}
use Rattle.pr_lang_meaning.proofs.EvenExpressions.{AreEven, even-meaning}

abbrev pub IsEvenChange : ℕ → Change → Type 0
IsEvenChange p f = (v : Visible) → AreEven (First p) v → (m k : ℕ) → p ≤ m → p ≤ k → (a b : Streams) → AgreeStreams (First p) a b → Both (AgreeStreams (First p)) (f v m a) (f v k b)

-- ---- environments
pub agree-with_bound : (P : ℕ → ℕ → Type 0) (name : List ℕ) (place : Option ℕ) (b c : Bound) (x y : Streams) → AgreeBound P b c → AgreeStreams P x y → AgreeStreams P (with_bound name place b x) (with_bound name place c y)
agree-with_bound P name place b c x y new are q r = both-choice (AgreeBound P) (Some b) (x q r) (Some c) (y q r) (bytes_eq name q && same_place place r) new (are q r)

pub agree-with_stream : (P : ℕ → ℕ → Type 0) (name : List ℕ) (place : Option ℕ) (s t : Stream) (x y : Streams) → Agree P s t → AgreeStreams P x y → AgreeStreams P (with_stream name place s x) (with_stream name place t y)
agree-with_stream P name place s t x y new are = agree-with_bound P name place (record { init = 0; stream = s }) (record { init = 0; stream = t }) x y (record { init = refl; stream = new }) are

-- ---- assignments
pub both-value : (p : ℕ) (e : Expr) (v : Visible) → AreEven (First p) v → (m k : ℕ) → p ≤ m → p ≤ k → (a b : Streams) → AgreeStreams (First p) a b → Both (Agree (First p)) (meaning e v m (sources m a)) (meaning e v k (sources k b))
both-value p e v even m k left right a b are = even-meaning (First p) e v even m k (first_below p m left) (second_below p k right) (sources m a) (sources k b) (agree-sources p m k a b left right are)

pub both-let : (P : ℕ → ℕ → Type 0) (target : Ref) (width : Option ℕ) (e : Expr) (v : Visible) (m k : ℕ) (a b : Streams) → Both (Agree P) (meaning e v m (sources m a)) (meaning e v k (sources k b)) → AgreeStreams P a b → Both (AgreeStreams P) (let_change target width e v m a) (let_change target width e v k b)
both-let P target width e v m k a b value are =
    let s = assigned width (meaning e v m (sources m a)) in
    let t = assigned width (meaning e v k (sources k b)) in
    same-and_then (AgreeStreams P) (λ place. option_map (λ s. with_stream target.name place s a) s) (λ place. option_map (λ s. with_stream target.name place s b) t) (result_ok (place_of target v.known)) (λ place.
    both-map (Agree P) (AgreeStreams P) (λ s. with_stream target.name place s a) (λ s. with_stream target.name place s b) s t (both-assigned P width (meaning e v m (sources m a)) (meaning e v k (sources k b)) value) (λ x y is. agree-with_stream P target.name place x y a b is are))

-- ---- recurrences
alike-everywhere : (j n x : ℕ) → get_or (replicate j x) n x ≡ x
alike-everywhere zero n x = refl
alike-everywhere (suc j) zero x = refl
alike-everywhere (suc j) (suc n) x = alike-everywhere j n x

-- zeros behind a list are what is read there without them
pub zeros-behind : (xs : List ℕ) (j n : ℕ) → get_or (xs ++ replicate j 0) n 0 ≡ get_or xs n 0
zeros-behind [] j n = alike-everywhere j n 0
zeros-behind (x ∷ xs) j zero = refl
zeros-behind (x ∷ xs) j (suc n) = zeros-behind xs j n

abbrev IsEvenBody : ℕ → Body → Body → Type 0
IsEvenBody p f g = (w : ℕ) (numbers : List ℕ) → Both (Agree (First p)) (f w numbers) (g w numbers)

even-body : (p : ℕ) (e : Expr) (name : List ℕ) (place : Option ℕ) (init : ℕ) (v : Visible) → AreEven (First p) v → (m k : ℕ) → p ≤ m → p ≤ k → (a b : Streams) → AgreeStreams (First p) a b → IsEvenBody p (body_of e name place init v m a) (body_of e name place init v k b)
even-body p e name place init v even m k left right a b are w numbers = both-value p e v even m k left right (with_bound name place (so_far m init w numbers) a) (with_bound name place (so_far k init w numbers) b) (agree-with_bound (First p) name place (so_far m init w numbers) (so_far k init w numbers) a b (record {
  init = refl;
  stream = agree-first p (so_far m init w numbers).stream (so_far k init w numbers).stream refl (λ n low. zeros-behind numbers (m - length numbers) n ∙ sym (zeros-behind numbers (k - length numbers) n));
}) are)

same-number_at : (p w n : ℕ) → n < p → (a b : Option Stream) → Both (Agree (First p)) a b → number_at w n a ≡ number_at w n b
same-number_at p w n low None None are = refl
same-number_at p w n low None (Some t) are = absurd are
same-number_at p w n low (Some s) None are = absurd are
same-number_at p w n low (Some s) (Some t) are = ap₂ (λ (f : Form) (x : ℕ). residue w (value f x)) are.forms (at-first p s t are n low)

-- the first numbers are the same
same-recurring : (p w : ℕ) (f g : Body) → IsEvenBody p f g → (n : ℕ) → n ≤ p → recurring f w n ≡ recurring g w n
same-recurring p w f g even zero low = refl
same-recurring p w f g even (suc n) low =
    let before = same-recurring p w f g even n (omega arith) in
    ap₂ (λ (xs : List ℕ) (x : ℕ). xs ++ x ∷ []) before (ap (λ xs. number_at w n (f w xs)) before ∙ same-number_at p w n (omega arith) (f w (recurring g w n)) (g w (recurring g w n)) (even w (recurring g w n)))

pub length-recurring : (f : Body) (w n : ℕ) → length (recurring f w n) ≡ n
length-recurring f w zero = refl
length-recurring f w (suc n) = length-append (recurring f w n) (number_at w n (f w (recurring f w n)) ∷ []) ∙ omega (arith, length-recurring f w n)

-- more samples leave the first numbers
pub get_or-recurring : (f : Body) (w p : ℕ) (m : ℕ) → p ≤ m → (n : ℕ) → n < p → get_or (recurring f w m) n 0 ≡ get_or (recurring f w p) n 0
get_or-recurring f w p zero within n low = absurd (omega arith)
get_or-recurring f w p (suc m) within n low = elim (cases_lt m p) [
  | inl last ↦ let same : suc m ≡ p = omega arith in ap (λ q. get_or (recurring f w q) n 0) same
  | inr before ↦ get_or_append_left (recurring f w m) (number_at w m (f w (recurring f w m)) ∷ []) 0 n (omega (arith, length-recurring f w m)) ∙ get_or-recurring f w p m before n low
]

agree-recurrence : (p m k init w : ℕ) (f g : Body) → p ≤ m → p ≤ k → IsEvenBody p f g → AgreeBound (First p) (recurrence m init f w) (recurrence k init g w)
agree-recurrence p m k init w f g left right even = record {
  init = refl;
  stream = agree-first p (recurrence m init f w).stream (recurrence k init g w).stream refl (λ n low. get_or-recurring f w p m left n low ∙ ap (λ xs. get_or xs n 0) (same-recurring p w f g even p (omega arith)) ∙ sym (get_or-recurring g w p k right n low));
}

same-holds : (p init : ℕ) (f g : Body) → IsEvenBody p f g → (w : ℕ) → holds init f w ≡ holds init g w
same-holds p init f g even w = ap (λ c. nat_lt init (2 ^ w) && c) (fits (f w []) (g w []) (even w [])) where
  fits : (a b : Option Stream) → Both (Agree (First p)) a b → option_map_or (λ (s : Stream). nat_le s.form.width w) a false ≡ option_map_or (λ (s : Stream). nat_le s.form.width w) b false
  fits None None are = refl
  fits None (Some t) are = absurd are
  fits (Some s) None are = absurd are
  fits (Some s) (Some t) are = ap (λ (f : Form). nat_le f.width w) are.forms

same-least_from : (f g : ℕ → Bool) → ((w : ℕ) → f w ≡ g w) → (count at : ℕ) → least_from count at f ≡ least_from count at g
same-least_from f g same zero at = refl
same-least_from f g same (suc count) at = ap₂ (λ c o. cond c (Some at) o) (same at) (same-least_from f g same count (at + 1))

same-width_of : (p : ℕ) (width : Option ℕ) (init : ℕ) (f g : Body) → IsEvenBody p f g → width_of width init f ≡ width_of width init g
same-width_of p (Some w) init f g even = ap (λ c. cond (is_width w && nat_lt init (2 ^ w)) (cond c (Some w) None) None) (both-is_some (Agree (First p)) (f w []) (g w []) (even w []))
same-width_of p None init f g even = same-least_from (holds init f) (holds init g) (same-holds p init f g even) 128 1

even-with_recurrence : (p : ℕ) (target : Ref) (place width : Option ℕ) (e : Expr) (init : ℕ) → IsEvenChange p (with_recurrence target place width e init)
even-with_recurrence p target place width e init v even m k left right a b are =
    let f = body_of e target.name place init v m a in
    let g = body_of e target.name place init v k b in
    let is_even : IsEvenBody p f g = even-body p e target.name place init v even m k left right a b are in
    subst (λ o. Both (AgreeStreams (First p)) (option_map (λ w. with_bound target.name place (recurrence m init f w) a) (width_of width init f)) (option_map (λ w. with_bound target.name place (recurrence k init g w) b) o)) (same-width_of p width init f g is_even) (same-map (AgreeStreams (First p)) (λ w. with_bound target.name place (recurrence m init f w) a) (λ w. with_bound target.name place (recurrence k init g w) b) (width_of width init f) (λ w. agree-with_bound (First p) target.name place (recurrence m init f w) (recurrence k init g w) a b (agree-recurrence p m k init w f g left right is_even) are))

even-rec : (p : ℕ) (target : Ref) (width : Option ℕ) (init : Fixed) (e : Expr) → IsEvenChange p (rec_change target width init e)
even-rec p target width init e v even m k left right a b are =
    same-and_then (AgreeStreams (First p)) (λ place. option_and_then (λ c. with_recurrence target place width e c v m a) (result_ok (constant_of init v.known))) (λ place. option_and_then (λ c. with_recurrence target place width e c v k b) (result_ok (constant_of init v.known))) (result_ok (place_of target v.known)) (λ place.
    same-and_then (AgreeStreams (First p)) (λ c. with_recurrence target place width e c v m a) (λ c. with_recurrence target place width e c v k b) (result_ok (constant_of init v.known)) (λ c. even-with_recurrence p target place width e c v even m k left right a b are))

-- ---- loops
pub both-turns : (P : ℕ → ℕ → Type 0) (count : ℕ) (f g : ℕ → Streams → Option Streams) → ((at : ℕ) (a b : Streams) → AgreeStreams P a b → Both (AgreeStreams P) (f at a) (g at b)) → (at : ℕ) (a b : Streams) → AgreeStreams P a b → Both (AgreeStreams P) (turns count at f a) (turns count at g b)
both-turns P zero f g even at a b are = are
both-turns P (suc count) f g even at a b are = both-and_then (AgreeStreams P) (AgreeStreams P) (turns count (at + 1) f) (turns count (at + 1) g) (f at a) (g at b) (even at a b are) (both-turns P count f g even (at + 1))

-- a statement, beside the fact that it is even
abbrev Proved : ℕ → Type 0
Proved p = (s : Stmt) × IsEvenChange p (change_of s)

even-in_turn : (p : ℕ) (ss : List (Proved p)) → IsEvenChange p (in_turn (map change_of (map (λ (s : Proved p). s.0) ss)))
even-in_turn p [] v even m k left right a b are = are
even-in_turn p (s ∷ ss) v even m k left right a b are =
    let rest = map change_of (map (λ (s : Proved p). s.0) ss) in
    both-and_then (AgreeStreams (First p)) (AgreeStreams (First p)) (in_turn rest v m) (in_turn rest v k) (change_of s.0 v m a) (change_of s.0 v k b) (s.1 v even m k left right a b are) (even-in_turn p ss v even m k left right)

even-step : (p : ℕ) (y : Stmt-F (Proved p)) → IsEvenChange p (stmt_step (map-Stmt Stmt Change change_of (map-Stmt (Proved p) Stmt (λ s. s.0) y)))
even-step p (Stmt-F.Let target width e) v even m k left right a b are = both-let (First p) target width e v m k a b (both-value p e v even m k left right a b are) are
even-step p (Stmt-F.Rec target width init e) v even m k left right a b are = even-rec p target width init e v even m k left right a b are
even-step p (Stmt-F.For index low high body) v even m k left right a b are =
    let within = in_turn (map change_of (map (λ (s : Proved p). s.0) body.items)) in
    let f : ℕ → Streams → Option Streams = λ at. within (with_known index at v) m in
    let g : ℕ → Streams → Option Streams = λ at. within (with_known index at v) k in
    same-and_then (AgreeStreams (First p)) (λ from. option_and_then (λ to. turns (to - from) from f a) (result_ok (constant_of high v.known))) (λ from. option_and_then (λ to. turns (to - from) from g b) (result_ok (constant_of high v.known))) (result_ok (constant_of low v.known)) (λ from.
    same-and_then (AgreeStreams (First p)) (λ to. turns (to - from) from f a) (λ to. turns (to - from) from g b) (result_ok (constant_of high v.known)) (λ to.
    both-turns (First p) (to - from) f g (λ at. even-in_turn p body.items (with_known index at v) even m k left right) from a b are))

pub even-change : (p : ℕ) (s : Stmt) → IsEvenChange p (change_of s)
even-change p = ind-Stmt (λ s. IsEvenChange p (change_of s)) (λ x y is.
    let layer : IsEvenChange p (stmt_step (map-Stmt Stmt Change change_of x)) = subst (λ z. IsEvenChange p (stmt_step (map-Stmt Stmt Change change_of z))) is (even-step p y) in
    subst (IsEvenChange p) (sym (fold-roll-Stmt Change stmt_step x)) layer)

pub even-changes : (p : ℕ) (ss : List Stmt) → IsEvenChange p (changes_of ss)
even-changes p [] v even m k left right a b are = are
even-changes p (s ∷ ss) v even m k left right a b are = both-and_then (AgreeStreams (First p)) (AgreeStreams (First p)) (changes_of ss v m) (changes_of ss v k) (change_of s v m a) (change_of s v k b) (even-change p s v even m k left right a b are) (even-changes p ss v even m k left right)
