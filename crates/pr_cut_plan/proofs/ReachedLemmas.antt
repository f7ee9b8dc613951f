-- Marks of equations, from the last one down; and the past that is read.
use Rattle.std.proofs.Common.{◌≡◌, ◌<◌, ◌≤◌, ℕ, zero, suc, ◌+◌, ◌-◌, ◌||◌, ◌&&◌, ◌==◌, Bool, true, false, max, Some, List, [], ◌∷◌, ◌++◌, length, map, take, drop, get_or, refl, sym, ap, ap₂, ◌∙◌, arith, add-one, drop-cons}
use Rattle.std.specs.Prelude.{fold}
use Rattle.std.specs.Bool.{if◌then◌else◌}
use Rattle.std.specs.List.{slice_get, list_any, list_all}
use Rattle.std.proofs.lemmas.Bool.{and_parts, eqb-true, ltb-true, false≢true}
use Rattle.std.proofs.lemmas.List.{length-map, get_or-take, get_or_append_left}
use Rattle.std.proofs.lemmas.Option.{slice_get_within}
use Rattle.pr_flat.specs.declared.equations.Operand.{Operand}
use Rattle.pr_flat.specs.declared.equations.Op.{Op}
use Rattle.pr_flat.specs.declared.equations.Equation.{Equation}
use Rattle.pr_flat.specs.Shape.{EquationShape, equation_shape, shapes_of}
use Rattle.pr_flat.specs.Facts.{is_rec, is_lawful_operand, reads_equation, IsFlat}
use Rattle.pr_flat.proofs.WidthLemmas.{past_of, one_equation}
use Rattle.pr_cut_plan.specs.Plans.{IsRecurrence}
use Rattle.pr_cut_units.specs.Reached.{is_read, reached_from, reached, past_read, greatest, greatest_past, hold_count}

-- ---- operands, one after the other
or_shift : (p q r : Bool) → (q || (p || r)) ≡ ((p || q) || r)
or_shift true true r = refl
or_shift true false r = refl
or_shift false true r = refl
or_shift false false r = refl

pub any_rest : (p : Operand → Bool) (xs : List Operand) (i : ℕ) (d : Operand) (old new : Bool) → i < length xs → new ≡ (p (get_or xs i d) || old) → (list_any p (drop (i + 1) xs) || new) ≡ (list_any p (drop i xs) || old)
any_rest p xs i d old new l e =
    let z : i + 1 ≡ suc i = add-one i in
    ap (λ (k : ℕ). list_any p (drop k xs) || new) z
    ∙ ap (λ (b : Bool). list_any p (drop (suc i) xs) || b) e
    ∙ or_shift (p (get_or xs i d)) (list_any p (drop (suc i) xs)) old
    ∙ ap (λ (ys : List Operand). list_any p ys || old) (sym (drop-cons xs i d l))

pub most_rest : (f : Operand → ℕ) (xs : List Operand) (i : ℕ) (d : Operand) (old new : ℕ) → i < length xs → new ≡ max old (f (get_or xs i d)) → fold max new (map f (drop (i + 1) xs)) ≡ fold max old (map f (drop i xs))
most_rest f xs i d old new l e =
    ap (λ (k : ℕ). fold max new (map f (drop k xs))) (add-one i)
    ∙ ap (λ (n : ℕ). fold max n (map f (drop (suc i) xs))) e
    ∙ ap (λ (ys : List Operand). fold max old (map f ys)) (sym (drop-cons xs i d l))

-- ---- equations, one after the other
none_read : (n : ℕ) (es : List EquationShape) → is_read n es [] ≡ false
none_read n [] = refl
none_read n (e ∷ es) = refl

-- no equation counts that reads this one, where none counts at all
unread : (n : ℕ) (es : List EquationShape) (flags : List Bool) → ((j : ℕ) → get_or flags j false ≡ false) → is_read n es flags ≡ false
unread n [] flags h = refl
unread n (e ∷ es) [] h = refl
unread n (e ∷ es) (b ∷ flags) h =
    ap (λ (t : Bool). t && list_any (reads_equation n) e.args || is_read n es flags) (h 0) ∙ unread n es flags (λ j. h (suc j))

after_drop : (flags : List Bool) (i : ℕ) → ((j : ℕ) → i ≤ j → get_or flags j false ≡ false) → (j : ℕ) → get_or (drop i flags) j false ≡ false
after_drop flags zero h j = h j (omega arith)
after_drop [] (suc i) h j = refl
after_drop (b ∷ flags) (suc i) h j = after_drop flags i (λ k l. h (suc k) (omega (arith, l))) j

pub unread_after : (n : ℕ) (es : List EquationShape) (flags : List Bool) (i : ℕ) → ((j : ℕ) → i ≤ j → get_or flags j false ≡ false) → is_read n (drop i es) (drop i flags) ≡ false
unread_after n es flags i h = unread n (drop i es) (drop i flags) (after_drop flags i h)

pub read_step : (n : ℕ) (es : List EquationShape) (flags : List Bool) (i : ℕ) (e : EquationShape) → slice_get es i ≡ Some e → i < length flags → is_read n (drop i es) (drop i flags) ≡ (get_or flags i false && list_any (reads_equation n) e.args || is_read n (drop (suc i) es) (drop (suc i) flags))
read_step n [] flags i e there l = cc
read_step n (d ∷ es) [] i e there l = absurd (omega (arith, l))
read_step n (d ∷ es) (b ∷ flags) zero e there l = let same : d ≡ e = cc in ap (λ (x : EquationShape). b && list_any (reads_equation n) x.args || is_read n es flags) same
read_step n (d ∷ es) (b ∷ flags) (suc i) e there l = read_step n es flags i e there (omega (arith, l))

-- an equation that does not read this one, left away
and_false : (b : Bool) → (b && false) ≡ false
and_false true = refl
and_false false = refl

skip_read : (n : ℕ) (es : List EquationShape) (flags : List Bool) (i : ℕ) → ((e : EquationShape) → slice_get es i ≡ Some e → list_any (reads_equation n) e.args ≡ false) → is_read n (drop i es) (drop i flags) ≡ is_read n (drop (suc i) es) (drop (suc i) flags)
skip_read n [] flags zero h = refl
skip_read n [] flags (suc i) h = refl
skip_read n (e ∷ es) [] zero h = sym (none_read n es)
skip_read n (e ∷ es) (b ∷ flags) zero h = ap (λ (t : Bool). b && t || is_read n es flags) (h e refl) ∙ ap (λ (t : Bool). t || is_read n es flags) (and_false b)
skip_read n (e ∷ es) [] (suc i) h = none_drop i ∙ sym (none_drop (suc i))
  where
    none_drop : (k : ℕ) → is_read n (drop k es) [] ≡ false
    none_drop k = none_read n (drop k es)
skip_read n (e ∷ es) (b ∷ flags) (suc i) h = skip_read n es flags i h

skip_all : (n : ℕ) (es : List EquationShape) (flags : List Bool) (m i : ℕ) → ((k : ℕ) (e : EquationShape) → slice_get es k ≡ Some e → k ≤ n → list_any (reads_equation n) e.args ≡ false) → i + m ≡ suc n → is_read n (drop i es) (drop i flags) ≡ is_read n (drop (suc n) es) (drop (suc n) flags)
skip_all n es flags zero i h s = let z : i ≡ suc n = omega (arith, s) in ap (λ (k : ℕ). is_read n (drop k es) (drop k flags)) z
skip_all n es flags (suc m) i h s = skip_read n es flags i (λ e there. h i e there (omega (arith, s))) ∙ skip_all n es flags m (suc i) h (omega (arith, s))

-- whether an equation is reached, by those after it
pub reached_is : (operands : List Operand) (k : ℕ) (es : List EquationShape) (i : ℕ) → i < length es → get_or (reached_from operands k es) i false ≡ (list_any (reads_equation (k + i)) operands || is_read (k + i) (drop (suc i) es) (drop (suc i) (reached_from operands k es)))
reached_is operands k [] i l = absurd (omega (arith, l))
reached_is operands k (e ∷ es) zero l = let z : k ≡ k + 0 = omega arith in ap (λ (n : ℕ). list_any (reads_equation n) operands || is_read n es (reached_from operands (suc k) es)) z
reached_is operands k (e ∷ es) (suc i) l =
    let z : suc k + i ≡ k + suc i = omega arith in
    reached_is operands (suc k) es i (omega (arith, l)) ∙ ap (λ (n : ℕ). list_any (reads_equation n) operands || is_read n (drop (suc i) es) (drop (suc i) (reached_from operands (suc k) es))) z

-- ---- the marks, once the equations from i on have been gone through
abbrev pub marked_from : List EquationShape → List Operand → ℕ → ℕ → Bool
marked_from es operands i n = list_any (reads_equation n) operands || is_read n (drop i es) (drop i (reached es operands))

earlier : (equations : List EquationShape) (j i : ℕ) (args : List Operand) → list_all (is_lawful_operand equations j) args ≡ true → j ≤ i → list_any (reads_equation i) args ≡ false
earlier equations j i [] h l = refl
earlier equations j i (a ∷ args) h l =
    let p = and_parts (is_lawful_operand equations j a) (list_all (is_lawful_operand equations j) args) h in
    ap (λ (b : Bool). b || list_any (reads_equation i) args) (one a p.0) ∙ earlier equations j i args p.1 l
  where
    by_test : (m : ℕ) → m < j → (b : Bool) → (m == i) ≡ b → (m == i) ≡ false
    by_test m s true q = absurd (let e = eqb-true m i q in omega (arith, e, s, l))
    by_test m s false q = q

    one : (a : Operand) → is_lawful_operand equations j a ≡ true → reads_equation i a ≡ false
    one (Operand.Const c) t = refl
    one (Operand.Eq m) t = by_test m (ltb-true m j t) (m == i) refl
    one (Operand.Past rec k) t = refl

pub marked_first : (es : List EquationShape) (operands : List Operand) (i n : ℕ) → ((j : ℕ) → i ≤ j → get_or (reached es operands) j false ≡ false) → marked_from es operands i n ≡ list_any (reads_equation n) operands
marked_first es operands i n h = ap (λ (b : Bool). list_any (reads_equation n) operands || b) (unread_after n es (reached es operands) i h) ∙ or_none (list_any (reads_equation n) operands)
  where
    or_none : (b : Bool) → (b || false) ≡ b
    or_none true = refl
    or_none false = refl

length-reached : (operands : List Operand) (k : ℕ) (es : List EquationShape) → length (reached_from operands k es) ≡ length es
length-reached operands k [] = refl
length-reached operands k (e ∷ es) = ap suc (length-reached operands (suc k) es)

-- one equation more: its mark is right, and what it reads is marked too
pub mark_right : (es : List EquationShape) (operands : List Operand) (i : ℕ) → i < length es → marked_from es operands (suc i) i ≡ get_or (reached es operands) i false
mark_right es operands i l = let z : 0 + i ≡ i = omega arith in sym (reached_is operands 0 es i l ∙ ap (λ (n : ℕ). marked_from es operands (suc i) n) z)

pub marked_more : (es : List EquationShape) (operands : List Operand) (i n : ℕ) (e : EquationShape) (b old new : Bool) → slice_get es i ≡ Some e → b ≡ marked_from es operands (suc i) i → old ≡ marked_from es operands (suc i) n → new ≡ (b && list_any (reads_equation n) e.args || old) → new ≡ marked_from es operands i n
marked_more es operands i n e b old new there right was is =
    let l = slice_get_within es i e there in
    let c : b ≡ get_or (reached es operands) i false = right ∙ mark_right es operands i l in
    let step = read_step n es (reached es operands) i e there (omega (arith, l, length-reached operands 0 es)) in
    is
    ∙ ap (λ (t : Bool). b && list_any (reads_equation n) e.args || t) was
    ∙ shift (b && list_any (reads_equation n) e.args) (list_any (reads_equation n) operands) (is_read n (drop (suc i) es) (drop (suc i) (reached es operands)))
    ∙ ap (λ (t : Bool). list_any (reads_equation n) operands || (t && list_any (reads_equation n) e.args || is_read n (drop (suc i) es) (drop (suc i) (reached es operands)))) c
    ∙ ap (λ (t : Bool). list_any (reads_equation n) operands || t) (sym step)
  where
    shift : (p q r : Bool) → (p || (q || r)) ≡ (q || (p || r))
    shift true true r = refl
    shift true false r = refl
    shift false q r = refl

pub marked_last : (es : List EquationShape) (outputs operands : List Operand) (i n : ℕ) → IsFlat es outputs → i ≤ n → n < length es → marked_from es operands i n ≡ get_or (reached es operands) n false
marked_last es outputs operands i n flat h l =
    let d : i + (suc n - i) ≡ suc n = omega (arith, h) in
    ap (λ (b : Bool). list_any (reads_equation n) operands || b) (skip_all n es (reached es operands) (suc n - i) i (λ k e there s. earlier es k n e.args (flat.operands k e there) s) d) ∙ mark_right es operands n l

-- ---- recurrences
-- an equation after a recurrence is not reached from it
pub own_unreached : (rec k : ℕ) (es : List EquationShape) (j : ℕ) → rec < k + j → get_or (reached_from (Operand.Eq rec ∷ []) k es) j false ≡ false
own_unreached rec k [] j l = refl
own_unreached rec k (e ∷ es) (suc j) l = own_unreached rec (suc k) es j (omega (arith, l))
own_unreached rec k (e ∷ es) zero l =
    ap (λ (b : Bool). (b || false) || is_read k es (reached_from (Operand.Eq rec ∷ []) (suc k) es)) (other (rec == k) refl)
    ∙ unread k es (reached_from (Operand.Eq rec ∷ []) (suc k) es) (λ j. own_unreached rec (suc k) es j (omega (arith, l)))
  where
    other : (b : Bool) → (rec == k) ≡ b → (rec == k) ≡ false
    other true q = absurd (let e = eqb-true rec k q in omega (arith, e, l))
    other false q = q

pub own_later : (es : List EquationShape) (rec j : ℕ) → rec + 1 ≤ j → get_or (reached es (Operand.Eq rec ∷ [])) j false ≡ false
own_later es rec j l = own_unreached rec 0 es j (omega (arith, l))

greatest_none : (rec : ℕ) (es : List EquationShape) (flags : List Bool) → ((j : ℕ) → get_or flags j false ≡ false) → greatest_past rec es flags ≡ 0
greatest_none rec [] flags h = refl
greatest_none rec (e ∷ es) [] h = refl
greatest_none rec (e ∷ es) (b ∷ flags) h =
    let here : (if b then greatest (map (past_read rec) e.args) else 0) ≡ 0 = ap (λ (t : Bool). if t then greatest (map (past_read rec) e.args) else 0) (h 0) in
    let rest = greatest_none rec es flags (λ j. h (suc j)) in
    omega (arith, here, rest)

pub greatest_step : (rec : ℕ) (es : List EquationShape) (flags : List Bool) (i : ℕ) (e : EquationShape) → slice_get es i ≡ Some e → i < length flags → greatest_past rec (drop i es) (drop i flags) ≡ max (if get_or flags i false then greatest (map (past_read rec) e.args) else 0) (greatest_past rec (drop (suc i) es) (drop (suc i) flags))
greatest_step rec [] flags i e there l = cc
greatest_step rec (d ∷ es) [] i e there l = absurd (omega (arith, l))
greatest_step rec (d ∷ es) (b ∷ flags) zero e there l = let same : d ≡ e = cc in ap (λ (x : EquationShape). max (if b then greatest (map (past_read rec) x.args) else 0) (greatest_past rec es flags)) same
greatest_step rec (d ∷ es) (b ∷ flags) (suc i) e there l = greatest_step rec es flags i e there (omega (arith, l))

skip_greatest : (rec : ℕ) (es : List EquationShape) (flags : List Bool) (i : ℕ) → ((k : ℕ) (e : EquationShape) → slice_get es k ≡ Some e → k < i → greatest (map (past_read rec) e.args) ≡ 0) → length flags ≡ length es → greatest_past rec es flags ≡ greatest_past rec (drop i es) (drop i flags)
skip_greatest rec es flags zero h same = refl
skip_greatest rec [] [] (suc i) h same = refl
skip_greatest rec [] (b ∷ flags) (suc i) h same = absurd (omega (arith, same))
skip_greatest rec (e ∷ es) [] (suc i) h same = absurd (omega (arith, same))
skip_greatest rec (e ∷ es) (b ∷ flags) (suc i) h same =
    let here : (if b then greatest (map (past_read rec) e.args) else 0) ≡ 0 = none b (h 0 e refl (omega arith)) in
    let rest = skip_greatest rec es flags i (λ k d there l. h (suc k) d there (omega (arith, l))) (omega (arith, same)) in
    omega (arith, here, rest)
  where
    none : (b : Bool) → greatest (map (past_read rec) e.args) ≡ 0 → (if b then greatest (map (past_read rec) e.args) else 0) ≡ 0
    none true q = q
    none false q = refl

-- before the body of a recurrence no past of it is read
past_none : (equations : List EquationShape) (rec init first i : ℕ) (d : EquationShape) → slice_get equations rec ≡ Some d → d.op ≡ Op.Rec init first → i < first → (a : Operand) → is_lawful_operand equations i a ≡ true → past_read rec a ≡ 0
past_none equations rec init first i d there op l (Operand.Const c) h = refl
past_none equations rec init first i d there op l (Operand.Eq j) h = refl
past_none equations rec init first i d there op l (Operand.Past r k) h = by (r == rec) refl
  where
    by : (b : Bool) → (r == rec) ≡ b → (if r == rec then k else 0) ≡ 0
    by false q = ap (λ (t : Bool). if t then k else 0) q
    by true q =
        let p = past_of equations i r k h in
        let same : r ≡ rec = eqb-true r rec q in
        let one : p.equation ≡ d = one_equation equations rec p.equation d (ap (λ (n : ℕ). slice_get equations n) (sym same) ∙ p.there) there in
        let first_same : p.first ≡ first = (let a = p.op in let b = ap (λ (x : EquationShape). x.op) one in cc) in
        let low = p.low in
        absurd (omega (arith, low, first_same, l))

pasts_none : (equations : List EquationShape) (rec init first i : ℕ) (d : EquationShape) → slice_get equations rec ≡ Some d → d.op ≡ Op.Rec init first → i < first → (args : List Operand) → list_all (is_lawful_operand equations i) args ≡ true → greatest (map (past_read rec) args) ≡ 0
pasts_none equations rec init first i d there op l [] h = refl
pasts_none equations rec init first i d there op l (a ∷ args) h =
    let p = and_parts (is_lawful_operand equations i a) (list_all (is_lawful_operand equations i) args) h in
    ap (λ (n : ℕ). fold max (max 0 n) (map (past_read rec) args)) (past_none equations rec init first i d there op l a p.0) ∙ pasts_none equations rec init first i d there op l args p.1

pub past_first : (es : List EquationShape) (outputs : List Operand) (rec first i : ℕ) → IsFlat es outputs → IsRecurrence es rec first → i ≡ first → max 1 (greatest_past rec (drop i es) (drop i (reached es (Operand.Eq rec ∷ [])))) ≡ hold_count es rec
past_first es outputs rec first i flat r z =
    let at = ap (λ (k : ℕ). max 1 (greatest_past rec (drop k es) (drop k (reached es (Operand.Eq rec ∷ []))))) z in
    let s = skip_greatest rec es (reached es (Operand.Eq rec ∷ [])) first (λ k e there l. pasts_none es rec r.init first k r.equation r.there r.op l e.args (flat.operands k e there)) (length-reached (Operand.Eq rec ∷ []) 0 es) in
    at ∙ ap (λ (n : ℕ). max 1 n) (sym s)

pub past_last : (es : List EquationShape) (rec i most n : ℕ) → rec + 1 ≤ i → max most (greatest_past rec (drop i es) (drop i (reached es (Operand.Eq rec ∷ [])))) ≡ n → most ≡ n
past_last es rec i most n l h =
    let z = greatest_none rec (drop i es) (drop i (reached es (Operand.Eq rec ∷ []))) (after_drop (reached es (Operand.Eq rec ∷ [])) i (λ j s. own_later es rec j (omega (arith, s, l)))) in
    omega (arith, z, h)

pub past_more : (es : List EquationShape) (rec i : ℕ) (e : EquationShape) (b : Bool) (old new here n : ℕ) → slice_get es i ≡ Some e → b ≡ get_or (reached es (Operand.Eq rec ∷ [])) i false → here ≡ (if b then greatest (map (past_read rec) e.args) else 0) → new ≡ max old here → max old (greatest_past rec (drop i es) (drop i (reached es (Operand.Eq rec ∷ [])))) ≡ n → max new (greatest_past rec (drop (suc i) es) (drop (suc i) (reached es (Operand.Eq rec ∷ [])))) ≡ n
past_more es rec i e b old new here n there is at step h =
    let l = slice_get_within es i e there in
    let s = greatest_step rec es (reached es (Operand.Eq rec ∷ [])) i e there (omega (arith, l, length-reached (Operand.Eq rec ∷ []) 0 es)) in
    let same : here ≡ (if get_or (reached es (Operand.Eq rec ∷ [])) i false then greatest (map (past_read rec) e.args) else 0) = at ∙ ap (λ (t : Bool). if t then greatest (map (past_read rec) e.args) else 0) is in
    omega (arith, s, same, step, h)

pub past_next : (es : List EquationShape) (rec first i : ℕ) (e : EquationShape) (b : Bool) (old new here n : ℕ) → slice_get es (first + i) ≡ Some e → b ≡ get_or (reached es (Operand.Eq rec ∷ [])) (first + i) false → here ≡ (if b then greatest (map (past_read rec) e.args) else 0) → new ≡ max old here → max old (greatest_past rec (drop (first + i) es) (drop (first + i) (reached es (Operand.Eq rec ∷ [])))) ≡ n → max new (greatest_past rec (drop (first + (i + 1)) es) (drop (first + (i + 1)) (reached es (Operand.Eq rec ∷ [])))) ≡ n
past_next es rec first i e b old new here n there is at step h =
    let z : first + (i + 1) ≡ suc (first + i) = omega arith in
    ap (λ (k : ℕ). max new (greatest_past rec (drop k es) (drop k (reached es (Operand.Eq rec ∷ []))))) z ∙ past_more es rec (first + i) e b old new here n there is at step h

-- what is no recurrence
pub no_rec : (es : List EquationShape) (i : ℕ) (x : EquationShape) → slice_get es i ≡ Some x → ((init first : ℕ) → x.op ≡ Op.Rec init first → ⊥) → (e : EquationShape) → slice_get es i ≡ Some e → is_rec e.op ≡ true → 0 ≡ hold_count es i
no_rec es i x there none e at is = absurd (by x.op refl (ap (λ (q : EquationShape). is_rec q.op) same ∙ is))
  where
    same : x ≡ e
    same = one_equation es i x e there at

    by : (op : Op) → x.op ≡ op → is_rec x.op ≡ true → ⊥
    by (Op.Rec init first) q r = none init first q
    by op q r = false≢true (sym (ap is_rec q) ∙ r)

-- ---- marks in a list of them
pub marks_init : (es : List EquationShape) (operands : List Operand) (first len : ℕ) (flags news : List Bool) → ((j : ℕ) → j < len → get_or flags j false ≡ false) → ((j : ℕ) → first + len ≤ j → get_or (reached es operands) j false ≡ false) → ((j : ℕ) → j < len → get_or news j false ≡ (list_any (reads_equation (first + j)) operands || get_or flags j false))
    → (j : ℕ) → j < len → get_or news j false ≡ marked_from es operands (first + len - 0) (first + j)
marks_init es operands first len flags news blank later is j l =
    let z : first + len - 0 ≡ first + len = omega arith in
    let n : ℕ = first + j in
    is j l
    ∙ ap (λ (b : Bool). list_any (reads_equation n) operands || b) (blank j l)
    ∙ or_none (list_any (reads_equation n) operands)
    ∙ sym (marked_first es operands (first + len) n later)
    ∙ ap (λ (k : ℕ). marked_from es operands k n) (sym z)
  where
    or_none : (b : Bool) → (b || false) ≡ b
    or_none true = refl
    or_none false = refl

pub marks_next : (es : List EquationShape) (operands : List Operand) (first len done : ℕ) (e : EquationShape) (b : Bool) (flags news : List Bool) → done < len → slice_get es (first + (len - 1 - done)) ≡ Some e → b ≡ get_or flags (len - 1 - done) false
    → ((j : ℕ) → j < len → get_or flags j false ≡ marked_from es operands (first + len - done) (first + j)) → ((j : ℕ) → j < len → get_or news j false ≡ (b && list_any (reads_equation (first + j)) e.args || get_or flags j false))
    → (j : ℕ) → j < len → get_or news j false ≡ marked_from es operands (first + len - (done + 1)) (first + j)
marks_next es operands first len done e b flags news d there counts old new j l =
    let i : ℕ = first + (len - 1 - done) in
    let up : first + len - done ≡ suc i = omega (arith, d) in
    let down : first + len - (done + 1) ≡ i = omega (arith, d) in
    let last : len - 1 - done < len = omega (arith, d) in
    let right : b ≡ marked_from es operands (suc i) i = counts ∙ old (len - 1 - done) last ∙ ap (λ (k : ℕ). marked_from es operands k i) up in
    let was : get_or flags j false ≡ marked_from es operands (suc i) (first + j) = old j l ∙ ap (λ (k : ℕ). marked_from es operands k (first + j)) up in
    marked_more es operands i (first + j) e b (get_or flags j false) (get_or news j false) there right was (new j l) ∙ ap (λ (k : ℕ). marked_from es operands k (first + j)) (sym down)

pub marks_last : (es : List EquationShape) (outputs operands : List Operand) (first len done : ℕ) (flags : List Bool) → IsFlat es outputs → first + len ≤ length es → len ≤ done → done ≤ len → ((j : ℕ) → j < len → get_or flags j false ≡ marked_from es operands (first + len - done) (first + j))
    → (j : ℕ) → j < len → get_or flags j false ≡ get_or (reached es operands) (first + j) false
marks_last es outputs operands first len done flags flat within low high h j l =
    let z : first + len - done ≡ first = omega (arith, low, high) in
    h j l ∙ ap (λ (k : ℕ). marked_from es operands k (first + j)) z ∙ marked_last es outputs operands first (first + j) flat (omega arith) (omega (arith, within, l))

-- a list that is written back whole
pub kept_marks : (news olds : List Bool) (n : ℕ) (j : ℕ) → length news ≡ n → j < n → get_or (take n (news ++ drop (length news) olds)) j false ≡ get_or news j false
kept_marks news olds n j same l = get_or-take n (news ++ drop (length news) olds) j false l ∙ get_or_append_left news (drop (length news) olds) false j (omega (arith, same, l))

-- a recurrence and its body
pub rec_ordered : (es : List EquationShape) (outputs : List Operand) (rec first : ℕ) → IsFlat es outputs → IsRecurrence es rec first → first ≤ rec
rec_ordered es outputs rec first flat r = (flat.bodies rec r.equation r.there r.init first r.op).ordered

pub rec_within : (es : List EquationShape) (rec first : ℕ) → IsRecurrence es rec first → rec < length es
rec_within es rec first r = slice_get_within es rec r.equation r.there

-- two lists of as many truths
pub same_flags : (xs ys : List Bool) → length xs ≡ length ys → ((j : ℕ) → j < length xs → get_or xs j false ≡ get_or ys j false) → xs ≡ ys
same_flags [] [] s h = refl
same_flags [] (y ∷ ys) s h = absurd (omega (arith, s))
same_flags (x ∷ xs) [] s h = absurd (omega (arith, s))
same_flags (x ∷ xs) (y ∷ ys) s h = ap₂ (λ (b : Bool) (bs : List Bool). b ∷ bs) (h 0 (omega arith)) (same_flags xs ys (omega (arith, s)) (λ j l. h (suc j) (omega (arith, l))))

pub reached_beyond : (es : List EquationShape) (operands : List Operand) (j : ℕ) → length es ≤ j → get_or (reached es operands) j false ≡ false
reached_beyond es operands j l = beyond (reached es operands) j (omega (arith, l, length-reached operands 0 es))
  where
    beyond : (xs : List Bool) (j : ℕ) → length xs ≤ j → get_or xs j false ≡ false
    beyond [] j l = refl
    beyond (x ∷ xs) zero l = absurd (omega (arith, l))
    beyond (x ∷ xs) (suc j) l = beyond xs j (omega (arith, l))

pub whole_reached : (es : List EquationShape) (operands : List Operand) (flags : List Bool) → length flags ≡ length es → ((j : ℕ) → j < length es → get_or flags j false ≡ get_or (reached es operands) (0 + j) false) → flags ≡ reached es operands
whole_reached es operands flags s h = same_flags flags (reached es operands) (s ∙ sym (length-reached operands 0 es)) (λ j l. (let z : 0 + j ≡ j = omega arith in h j (omega (arith, l, s)) ∙ ap (λ (k : ℕ). get_or (reached es operands) k false) z))

pub shapes_within : (es : List Equation) (n : ℕ) → n ≤ length es → n ≤ length (shapes_of es)
shapes_within es n l = omega (arith, l, length-map es equation_shape)

pub shapes_few : (es : List Equation) → length (shapes_of es) ≡ length es
shapes_few es = length-map es equation_shape
