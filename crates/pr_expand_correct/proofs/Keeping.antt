-- Equations that have their widths: the first of them, one more, and other widths where they do not look.
use Rattle.std.proofs.Common.{◌≡◌, ◌≢◌, ◌∙◌, ◌<◌, ◌≤◌, ◌⊎◌, ℕ, zero, suc, true, false, List, [], ◌∷◌, ◌++◌, length, get_or, Option, Some, None, refl, sym, ap, subst, arith, inl, inr, length-append}
use Rattle.std.specs.List.{slice_get}
use Rattle.std.proofs.lemmas.Option.{slice_get_within}
use Rattle.pr_flat.specs.declared.equations.Operand.{Operand}
use Rattle.pr_flat.specs.declared.equations.Operand.TheVariants.{Const, Eq, Past}
use Rattle.pr_flat.specs.declared.equations.Op.TheVariants.{Delay, Rec}
use Rattle.pr_flat.specs.Shape.{EquationShape, EachEquation}
use Rattle.pr_flat.specs.Widths.{operand_width, width_in, is_open, Holds, IsLeast}
use Rattle.pr_flat.proofs.WidthLemmas.{SameOperands, SameOperands-at, width_in_same}
use Rattle.pr_expand_spec.specs.declared.givens.Given.{Given}
use Rattle.pr_scope_facts.proofs.Appending.{Appends, appends-at}
use Rattle.pr_expand_correct.proofs.Related.{Have, IsWithin, IsRead, AreRead, IsPlain, AreFormed, AreWithin, AreSameOutside, AreKept, IsAhead}

-- ---- places of equations
pub within-front : (xs ys : List EquationShape) (i : ℕ) (e : EquationShape) → i < length xs → slice_get (xs ++ ys) i ≡ Some e → slice_get xs i ≡ Some e
within-front [] ys i e low there = absurd (omega arith)
within-front (x ∷ xs) ys zero e low there = there
within-front (x ∷ xs) ys (suc i) e low there = within-front xs ys i e (omega arith) there

pub at-end : (xs : List EquationShape) (e : EquationShape) → slice_get (xs ++ e ∷ []) (length xs) ≡ Some e
at-end [] e = refl
at-end (x ∷ xs) e = at-end xs e

push-case : (xs : List EquationShape) (e : EquationShape) (i : ℕ) (d : EquationShape) → slice_get (xs ++ e ∷ []) i ≡ Some d → (slice_get xs i ≡ Some d) ⊎ ((i ≡ length xs) × (d ≡ e))
push-case [] e zero d there = inr (refl, cc)
push-case [] e (suc i) d there = cc
push-case (x ∷ xs) e zero d there = inl there
push-case (x ∷ xs) e (suc i) d there = elim (push-case xs e i d there) [
  | inl at ↦ inl at
  | inr same ↦ inr (ap suc same.0, same.1)
]

-- what holds of each equation, and of one more
pub each-push : (P : ℕ → EquationShape → Type 0) (xs : List EquationShape) (e : EquationShape) → EachEquation xs P → P (length xs) e → EachEquation (xs ++ e ∷ []) P
each-push P xs e old new i d there = elim (push-case xs e i d there) [
  | inl at ↦ old i d at
  | inr same ↦ subst (λ j. P j d) (sym same.0) (subst (P (length xs)) (sym same.1) new)
]

-- ---- the first equations
at-front : (xs ys : List EquationShape) (i : ℕ) (e : EquationShape) → slice_get xs i ≡ Some e → slice_get (xs ++ ys) i ≡ Some e
at-front xs ys = appends-at xs (xs ++ ys) (record { more = ys; is = refl })

holds-front : (xs ys : List EquationShape) (rec init first : ℕ) (widths : List ℕ) → Holds (xs ++ ys) rec init first widths → Holds xs rec init first widths
holds-front xs ys rec init first widths h = record {
  least = h.least;
  greatest = h.greatest;
  initial = h.initial;
  body = λ i e there. h.body i e (at-front xs ys i e there);
  operand = λ e there. h.operand e (at-front xs ys rec e there);
}

holds-more : (xs ys : List EquationShape) (rec init first : ℕ) (widths : List ℕ) → rec < length xs → Holds xs rec init first widths → Holds (xs ++ ys) rec init first widths
holds-more xs ys rec init first widths low h = record {
  least = h.least;
  greatest = h.greatest;
  initial = h.initial;
  body = λ i e there from to. h.body i e (within-front xs ys i e (omega arith) there) from to;
  operand = λ e there. h.operand e (within-front xs ys rec e low there);
}

least-front : (xs ys : List EquationShape) (rec init first : ℕ) (widths : List ℕ) → rec < length xs → IsLeast (xs ++ ys) rec init first widths → IsLeast xs rec init first widths
least-front xs ys rec init first widths low l = record {
  holds = holds-front xs ys rec init first widths l.holds;
  none_less = λ others agree h. l.none_less others agree (holds-more xs ys rec init first others low h);
}

pub least-more : (xs ys : List EquationShape) (rec init first : ℕ) (widths : List ℕ) → rec < length xs → IsLeast xs rec init first widths → IsLeast (xs ++ ys) rec init first widths
least-more xs ys rec init first widths low l = record {
  holds = holds-more xs ys rec init first widths low l.holds;
  none_less = λ others agree h. l.none_less others agree (holds-front xs ys rec init first others h);
}

pub have-front : (xs ys : List EquationShape) (widths : List ℕ) → Have (xs ++ ys) widths → Have xs widths
have-front xs ys widths have = record {
  each = λ i e there. have.each i e (at-front xs ys i e there);
  recurrences = λ i e there init first open_ op. least-front xs ys i init first widths (slice_get_within xs i e there) (have.recurrences i e (at-front xs ys i e there) init first open_ op);
}

pub have-before : (old new : List EquationShape) (widths : List ℕ) → Appends old new → Have new widths → Have old widths
have-before old new widths a have = have-front old a.more widths (subst (λ es. Have es widths) a.is have)

-- one equation more
pub have-push : (xs : List EquationShape) (e : EquationShape) (widths : List ℕ) → Have xs widths → (is_open e ≡ false → width_in widths e ≡ Some (get_or widths (length xs) 0)) → ((init first : ℕ) → is_open e ≡ true → e.op ≡ Rec init first → IsLeast (xs ++ e ∷ []) (length xs) init first widths) → Have (xs ++ e ∷ []) widths
have-push xs e widths have closed open_ = record {
  each = each-push (λ i d. is_open d ≡ false → width_in widths d ≡ Some (get_or widths i 0)) xs e have.each closed;
  recurrences = each-push (λ i d. (init first : ℕ) → is_open d ≡ true → d.op ≡ Rec init first → IsLeast (xs ++ e ∷ []) i init first widths) xs e (λ i d there init first is op. least-more xs (e ∷ []) i init first widths (slice_get_within xs i d there) (have.recurrences i d there init first is op)) open_;
}

-- ---- other widths
pub same-within : (n : ℕ) (own : Option ℕ) (widths others : List ℕ) → AreKept n own widths others → (a : Operand) → IsWithin n own a → operand_width others a ≡ operand_width widths a
same-within n own widths others kept (Const c) within = refl
same-within n own widths others kept (Eq i) within = kept.below i within
same-within n own widths others kept (Past rec k) within = kept.past rec within

same-read : (n : ℕ) (own : Option ℕ) (widths others : List ℕ) → AreKept n own widths others → (a : Operand) → IsRead n own a → operand_width others a ≡ operand_width widths a
same-read n own widths others kept (Const c) read = refl
same-read n own widths others kept (Eq i) read = kept.below i read
same-read n own widths others kept (Past rec k) (inl below) = kept.below rec below
same-read n own widths others kept (Past rec k) (inr past) = kept.past rec past

same-operands : (n : ℕ) (own : Option ℕ) (widths others : List ℕ) → AreKept n own widths others → (args : List Operand) → AreRead n own args → SameOperands widths others args
same-operands n own widths others kept [] read = tt
same-operands n own widths others kept (a ∷ args) read = (same-read n own widths others kept a read.0, same-operands n own widths others kept args read.1)

least-kept : (es : List EquationShape) (own : Option ℕ) (widths others : List ℕ) → AreFormed own es → AreKept (length es) own widths others → (rec init first : ℕ) → rec < length es → first ≤ rec → IsLeast es rec init first widths → IsLeast es rec init first others
least-kept es own widths others formed kept rec init first low ordered least =
    let same : get_or others rec 0 ≡ get_or widths rec 0 = kept.below rec low in
    record {
      holds = record {
        least = rw same least.holds.least;
        greatest = rw same least.holds.greatest;
        initial = rw same least.holds.initial;
        body = λ j d at from to. width_in_same widths others d (same-operands (length es) own widths others kept d.args (formed.reads j d at)) ∙ least.holds.body j d at from to ∙ ap Some (sym (kept.below j (omega arith)));
        operand = λ d at k a in_args. let here : get_or widths rec 0 ≡ get_or others rec 0 = sym same in rw (SameOperands-at widths others d.args (same-operands (length es) own widths others kept d.args (formed.reads rec d at)) k a in_args, same) (least.holds.operand d at k a in_args);
      };
      none_less = λ more agrees holds. rw same (least.none_less more (λ k l. agrees k l ∙ kept.below k (omega arith)) holds);
    }

-- equations have widths that differ only where they do not look
pub have-kept : (es : List EquationShape) (own : Option ℕ) (widths others : List ℕ) → AreFormed own es → AreKept (length es) own widths others → Have es widths → Have es others
have-kept es own widths others formed kept have = record {
  each = λ i e there closed. width_in_same widths others e (same-operands (length es) own widths others kept e.args (formed.reads i e there)) ∙ have.each i e there closed ∙ ap Some (sym (kept.below i (slice_get_within es i e there)));
  recurrences = λ i e there init first open_ op. least-kept es own widths others formed kept i init first (slice_get_within es i e there) (formed.bodies i e there init first op) (have.recurrences i e there init first open_ op);
}

pub kept-outside : (from to : ℕ) (own : Option ℕ) (widths others : List ℕ) → AreSameOutside from to widths others → IsAhead to own → AreKept from own widths others
kept-outside from to own widths others same ahead = record { below = same.below; past = λ rec is. same.above rec (ahead rec is) }

pub outside-both : (a b c : ℕ) (one two three : List ℕ) → a ≤ b → b ≤ c → AreSameOutside a b one two → AreSameOutside b c two three → AreSameOutside a c one three
outside-both a b c one two three low high first second = record {
  below = λ i l. second.below i (omega arith) ∙ first.below i l;
  above = λ i l. second.above i l ∙ first.above i (omega arith);
}

pub outside-nowhere : (a b : ℕ) (widths : List ℕ) → AreSameOutside a b widths widths
outside-nowhere a b widths = record { below = λ i l. refl; above = λ i l. refl }

-- ---- a width put at one place
pub with_width : List ℕ → ℕ → ℕ → List ℕ
with_width [] zero w = w ∷ []
with_width [] (suc i) w = 0 ∷ with_width [] i w
with_width (x ∷ xs) zero w = w ∷ xs
with_width (x ∷ xs) (suc i) w = x ∷ with_width xs i w

pub width-here : (xs : List ℕ) (i w : ℕ) → get_or (with_width xs i w) i 0 ≡ w
unfolding with_width
width-here [] zero w = refl
width-here [] (suc i) w = width-here [] i w
width-here (x ∷ xs) zero w = refl
width-here (x ∷ xs) (suc i) w = width-here xs i w

pub width-elsewhere : (xs : List ℕ) (i w j : ℕ) → j ≢ i → get_or (with_width xs i w) j 0 ≡ get_or xs j 0
unfolding with_width
width-elsewhere [] zero w zero other = absurd (other refl)
width-elsewhere [] zero w (suc j) other = refl
width-elsewhere [] (suc i) w zero other = refl
width-elsewhere [] (suc i) w (suc j) other = width-elsewhere [] i w j (λ same. other (ap suc same))
width-elsewhere (x ∷ xs) zero w zero other = absurd (other refl)
width-elsewhere (x ∷ xs) zero w (suc j) other = refl
width-elsewhere (x ∷ xs) (suc i) w zero other = refl
width-elsewhere (x ∷ xs) (suc i) w (suc j) other = width-elsewhere xs i w j (λ same. other (ap suc same))

pub outside-here : (widths : List ℕ) (i w : ℕ) → AreSameOutside i (suc i) widths (with_width widths i w)
outside-here widths i w = record {
  below = λ j low. width-elsewhere widths i w j (omega arith);
  above = λ j high. width-elsewhere widths i w j (omega arith);
}

-- ---- equations that read what stands
pub within-more : (m n : ℕ) (own : Option ℕ) (a : Operand) → m ≤ n → IsWithin m own a → IsWithin n own a
within-more m n own (Const c) low within = tt
within-more m n own (Eq i) low within = omega arith
within-more m n own (Past rec k) low within = within

read-more : (m n : ℕ) (own : Option ℕ) (a : Operand) → m ≤ n → IsRead m own a → IsRead n own a
read-more m n own (Const c) low read = tt
read-more m n own (Eq i) low read = omega arith
read-more m n own (Past rec k) low (inl below) = inl (omega arith)
read-more m n own (Past rec k) low (inr past) = inr past

pub reads-more : (m n : ℕ) (own : Option ℕ) (args : List Operand) → m ≤ n → AreRead m own args → AreRead n own args
reads-more m n own [] low read = tt
reads-more m n own (a ∷ args) low read = (read-more m n own a low read.0, reads-more m n own args low read.1)

pub within-read : (n : ℕ) (own : Option ℕ) (a : Operand) → IsWithin n own a → IsRead n own a
within-read n own (Const c) within = tt
within-read n own (Eq i) within = within
within-read n own (Past rec k) within = inr within

pub all-within-more : (m n : ℕ) (own : Option ℕ) (gs : List Given) → m ≤ n → AreWithin m own gs → AreWithin n own gs
all-within-more m n own [] low within = tt
all-within-more m n own (g ∷ gs) low within = (within-more m n own g.operand low within.0, all-within-more m n own gs low within.1)

pub length-push : (xs : List EquationShape) (e : EquationShape) → length (xs ++ e ∷ []) ≡ suc (length xs)
length-push xs e = length-append xs (e ∷ []) ∙ omega arith

pub formed-push : (own : Option ℕ) (xs : List EquationShape) (e : EquationShape) → AreFormed own xs → AreRead (length xs) own e.args → ((c : ℕ) → e.op ≡ Delay c → IsPlain e) → ((init first : ℕ) → e.op ≡ Rec init first → first ≤ length xs) → AreFormed own (xs ++ e ∷ [])
formed-push own xs e formed read plain ordered =
    let more : length xs ≤ length (xs ++ e ∷ []) = omega (arith, length-push xs e) in
    record {
      reads = each-push (λ i d. AreRead (length (xs ++ e ∷ [])) own d.args) xs e (λ i d there. reads-more (length xs) (length (xs ++ e ∷ [])) own d.args more (formed.reads i d there)) (reads-more (length xs) (length (xs ++ e ∷ [])) own e.args more read);
      delays = each-push (λ i d. (c : ℕ) → d.op ≡ Delay c → IsPlain d) xs e formed.delays plain;
      bodies = each-push (λ i d. (init first : ℕ) → d.op ≡ Rec init first → first ≤ i) xs e formed.bodies ordered;
    }

closed-read : (n rec : ℕ) (a : Operand) → rec < n → IsRead n (Some rec) a → IsRead n None a
closed-read n rec (Const c) low read = tt
closed-read n rec (Eq i) low read = read
closed-read n rec (Past r k) low (inl below) = inl below
closed-read n rec (Past r k) low (inr past) = let same : rec ≡ r = cc in inl (subst (λ q. q < n) same low)

closed-reads : (n rec : ℕ) (args : List Operand) → rec < n → AreRead n (Some rec) args → AreRead n None args
closed-reads n rec [] low read = tt
closed-reads n rec (a ∷ args) low read = (closed-read n rec a low read.0, closed-reads n rec args low read.1)

-- when the recurrence in work has got its equation
pub formed-closed : (rec : ℕ) (es : List EquationShape) → rec < length es → AreFormed (Some rec) es → AreFormed None es
formed-closed rec es low formed = record {
  reads = λ i e there. closed-reads (length es) rec e.args low (formed.reads i e there);
  delays = formed.delays;
  bodies = formed.bodies;
}

-- where none is in work yet
open-read : (n : ℕ) (own : Option ℕ) (a : Operand) → IsRead n None a → IsRead n own a
open-read n own (Const c) read = tt
open-read n own (Eq i) read = read
open-read n own (Past r k) (inl below) = inl below
open-read n own (Past r k) (inr past) = cc

open-reads : (n : ℕ) (own : Option ℕ) (args : List Operand) → AreRead n None args → AreRead n own args
open-reads n own [] read = tt
open-reads n own (a ∷ args) read = (open-read n own a read.0, open-reads n own args read.1)

pub formed-open : (own : Option ℕ) (es : List EquationShape) → AreFormed None es → AreFormed own es
formed-open own es formed = record {
  reads = λ i e there. open-reads (length es) own e.args (formed.reads i e there);
  delays = formed.delays;
  bodies = formed.bodies;
}
