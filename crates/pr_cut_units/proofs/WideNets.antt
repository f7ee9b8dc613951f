-- Flat equations with their widths are counted: each has operands with widths, and computes a bit at least.
use Rattle.std.proofs.Common.{◌≡◌, ◌<◌, ◌≤◌, ℕ, zero, suc, ◌+◌, ◌^◌, ◌&&◌, Bool, true, false, cond, not, nat_le, nat_lt, Option, Some, None, unwrap_or, List, [], ◌∷◌, length, refl, subst, sym, ap, ◌∙◌, arith, inl, inr}
use Rattle.std.specs.Prelude.{slice_index}
use Rattle.std.specs.List.{slice_get, list_all}
use Rattle.std.specs.Option.{is_some}
use Rattle.std.proofs.lemmas.Bool.{cases_Bool, cases_lt, and_parts, leb-true, ltb-true, false≢true}
use Rattle.std.proofs.lemmas.Option.{slice_get_within}
use Rattle.pr_flat.specs.declared.equations.Operand.{Operand}
use Rattle.pr_flat.specs.declared.equations.Op.{Op}
use Rattle.pr_flat.specs.declared.forms.Form.{Form}
use Rattle.pr_flat.specs.Forms.{signed_width, wider, wider_signed, least_from, number_width}
use Rattle.pr_flat.specs.Rows.{takes, has_signed, unsigned_width, signed_result_width, natural_width}
use Rattle.pr_flat.specs.Shape.{EquationShape}
use Rattle.pr_flat.specs.Facts.{arity, is_input, is_rec, is_width, has_lawful_width, is_lawful_operand, IsFlat}
use Rattle.pr_flat.specs.Widths.{operand_forms, forms_in, settled_width, is_open, AreWidths}
use Rattle.pr_flat.proofs.WidthLemmas.{past_of, equation_at, declared_of}
use Rattle.pr_cut_units.specs.Equations.{UnitPlan, plan_of}
use Rattle.pr_cut_units.proofs.CountNets.{is_stated, IsCounted, AreCounted}
use Rattle.pr_cut_units.proofs.GoodNets.{WideOperands, AllWide}

-- ---- natural widths
abbrev pub SomeForms : List Form → Type 0
SomeForms [] = Unit {0}
SomeForms (f ∷ fs) = (1 ≤ f.width) × SomeForms fs

either_some : (b : Bool) (x y : ℕ) → 1 ≤ x → 1 ≤ y → 1 ≤ cond b x y
either_some true x y h k = h
either_some false x y h k = k

signed_some : (f : Form) → 1 ≤ f.width → 1 ≤ signed_width f
signed_some f h = either_some f.signed f.width (f.width + 1) h (omega arith)

wider_signed_some : (f g : Form) → 1 ≤ f.width → 1 ≤ wider_signed f g
wider_signed_some f g h = omega (arith, signed_some f h)

wider_some : (f g : Form) → 1 ≤ f.width → 1 ≤ wider f g
wider_some f g h = omega (arith, h)

natural_by : (op : Op) (fs : List Form) → 1 ≤ signed_result_width op fs → 1 ≤ unsigned_width op fs → 1 ≤ natural_width op fs
natural_by op fs h k = either_some (has_signed op fs) (signed_result_width op fs) (unsigned_width op fs) h k

natural_one : (op : Op) (f : Form) → arity op ≡ 1 → is_rec op ≡ false → 1 ≤ f.width → 1 ≤ natural_width op (f ∷ [])
natural_one Op.Not f n r h = natural_by Op.Not (f ∷ []) h h
natural_one (Op.Left k) f n r h = natural_by (Op.Left k) (f ∷ []) (omega (arith, h)) (omega (arith, h))
natural_one (Op.Right k) f n r h = natural_by (Op.Right k) (f ∷ []) (omega arith) (omega arith)
natural_one (Op.Slice high low) f n r h = natural_by (Op.Slice high low) (f ∷ []) (omega arith) (omega arith)
natural_one Op.Fit f n r h = natural_by Op.Fit (f ∷ []) h h
natural_one (Op.Delay c) f n r h = natural_by (Op.Delay c) (f ∷ []) h h
natural_one (Op.Rec init first) f n r h = absurd (false≢true (sym r))
natural_one op f n r h = absurd (omega (arith, n))

natural_two : (op : Op) (f g : Form) → arity op ≡ 2 → 1 ≤ f.width → 1 ≤ g.width → 1 ≤ natural_width op (f ∷ g ∷ [])
natural_two Op.Add f g n h k = natural_by Op.Add (f ∷ g ∷ []) (omega arith) (omega arith)
natural_two Op.Sub f g n h k = natural_by Op.Sub (f ∷ g ∷ []) (omega arith) (wider_some f g h)
natural_two Op.Mul f g n h k = natural_by Op.Mul (f ∷ g ∷ []) (omega (arith, signed_some f h)) (omega (arith, h))
natural_two Op.And f g n h k = natural_by Op.And (f ∷ g ∷ []) (wider_signed_some f g h) (wider_some f g h)
natural_two Op.Or f g n h k = natural_by Op.Or (f ∷ g ∷ []) (wider_signed_some f g h) (wider_some f g h)
natural_two Op.Xor f g n h k = natural_by Op.Xor (f ∷ g ∷ []) (wider_signed_some f g h) (wider_some f g h)
natural_two Op.Equal f g n h k = natural_by Op.Equal (f ∷ g ∷ []) (omega arith) (omega arith)
natural_two Op.NotEqual f g n h k = natural_by Op.NotEqual (f ∷ g ∷ []) (omega arith) (omega arith)
natural_two Op.Less f g n h k = natural_by Op.Less (f ∷ g ∷ []) (omega arith) (omega arith)
natural_two Op.LessEqual f g n h k = natural_by Op.LessEqual (f ∷ g ∷ []) (omega arith) (omega arith)
natural_two Op.Greater f g n h k = natural_by Op.Greater (f ∷ g ∷ []) (omega arith) (omega arith)
natural_two Op.GreaterEqual f g n h k = natural_by Op.GreaterEqual (f ∷ g ∷ []) (omega arith) (omega arith)
natural_two Op.LeftBy f g n h k = natural_by Op.LeftBy (f ∷ g ∷ []) h h
natural_two Op.RightBy f g n h k = natural_by Op.RightBy (f ∷ g ∷ []) h h
natural_two Op.Cat f g n h k = natural_by Op.Cat (f ∷ g ∷ []) (omega (arith, h)) (omega (arith, h))
natural_two op f g n h k = absurd (omega (arith, n))

natural_three : (op : Op) (c f g : Form) → arity op ≡ 3 → 1 ≤ f.width → 1 ≤ natural_width op (c ∷ f ∷ g ∷ [])
natural_three Op.Choose c f g n h = natural_by Op.Choose (c ∷ f ∷ g ∷ []) (wider_signed_some f g h) (wider_some f g h)
natural_three op c f g n h = absurd (omega (arith, n))

few_operands : (op : Op) → arity op ≤ 3
few_operands Op.Choose = omega arith
few_operands op = omega arith

none_is_input : (op : Op) → arity op ≡ 0 → is_input op ≡ true
none_is_input Op.Input n = refl
none_is_input op n = absurd (omega (arith, n))

pub natural_some : (op : Op) (fs : List Form) → length fs ≡ arity op → is_input op ≡ false → is_rec op ≡ false → SomeForms fs → 1 ≤ natural_width op fs
natural_some op [] n i r h = absurd (false≢true (sym i ∙ none_is_input op (sym n)))
natural_some op (f ∷ []) n i r h = natural_one op f (sym n) r h.0
natural_some op (f ∷ g ∷ []) n i r h = natural_two op f g (sym n) h.0 h.1.0
natural_some op (c ∷ f ∷ g ∷ []) n i r h = natural_three op c f g (sym n) h.1.0
natural_some op (c ∷ f ∷ g ∷ k ∷ fs) n i r h = absurd (let few = few_operands op in omega (arith, n, few))

-- ---- widths of equations
number_some : (n : ℕ) → 1 ≤ number_width n
unfolding number_width
number_some n = go 64 1 (omega arith)
  where
    by_test : (at : ℕ) (o : Option ℕ) → 1 ≤ at → 1 ≤ unwrap_or o 64 → (b : Bool) → 1 ≤ unwrap_or (cond b (Some at) o) 64
    by_test at o h k true = h
    by_test at o h k false = k

    go : (k at : ℕ) → 1 ≤ at → 1 ≤ unwrap_or (least_from k at (λ w. nat_lt n (2 ^ w))) 64
    go zero at h = omega arith
    go (suc k) at h = by_test at (least_from k (at + 1) (λ w. nat_lt n (2 ^ w))) h (go k (at + 1) (omega arith)) (nat_lt n (2 ^ at))

width_by_test : (w : ℕ) → is_width w ≡ true → 1 ≤ w
width_by_test w h = leb-true 1 w (and_parts (nat_le 1 w) (nat_le w 128) h).0

lawful_declared : (op : Op) (w : ℕ) → has_lawful_width op (Some w) ≡ true → 1 ≤ w
lawful_declared (Op.Delay c) w h = absurd (false≢true h)
lawful_declared (Op.Rec init first) w h = width_by_test w (and_parts (is_width w) (nat_lt init (2 ^ w)) h).0
lawful_declared op w h = width_by_test w h

settled_some : (b : Bool) (o : Option ℕ) (natural w : ℕ) → cond b (settled_width o natural) None ≡ Some w → ((v : ℕ) → o ≡ Some v → 1 ≤ v) → (o ≡ None → 1 ≤ natural) → 1 ≤ w
settled_some true (Some v) natural w e h k = let same : v ≡ w = cc in omega (arith, same, h v refl)
settled_some true None natural w e h k = go (nat_le natural 128) e
  where
    go : (t : Bool) → cond t (Some natural) None ≡ Some w → 1 ≤ w
    go true q = let same : natural ≡ w = cc in omega (arith, same, k refl)
    go false q = cc
settled_some false o natural w e h k = cc

not_input : (op : Op) → has_lawful_width op None ≡ true → is_input op ≡ false
not_input Op.Input h = absurd (false≢true h)
not_input op h = refl

rec_width : (equations : List EquationShape) (outputs : List Operand) (widths : List ℕ) → IsFlat equations outputs → AreWidths equations widths → (rec init first : ℕ) (e : EquationShape) → slice_get equations rec ≡ Some e → e.op ≡ Op.Rec init first → 1 ≤ slice_index widths rec
rec_width equations outputs widths flat wide rec init first e there op = elim (cases_Bool (is_open e)) [
  | inl o ↦ (wide.recurrences rec e there init first (slice_get_within equations rec e there) o op).holds.least
  | inr c ↦
      (let d = declared_of e init first op c in
      let same = wide.declared rec e there d.width d.is in
      let lawful : has_lawful_width e.op (Some d.width) ≡ true = subst (λ (o : Option ℕ). has_lawful_width e.op o ≡ true) d.is (flat.widths rec e there) in
      omega (arith, same, lawful_declared e.op d.width lawful))
]

forms_some : (widths : List ℕ) (args : List Operand) (kinds : List Bool) → WideOperands widths args → SomeForms (operand_forms widths args kinds)
forms_some widths [] kinds h = tt
forms_some widths (a ∷ args) [] h = tt
forms_some widths (a ∷ args) (kind ∷ kinds) h = (h.0, forms_some widths args kinds h.1)

length-forms : (widths : List ℕ) (args : List Operand) (kinds : List Bool) (n : ℕ) → length args ≡ n → length kinds ≡ n → length (operand_forms widths args kinds) ≡ n
length-forms widths [] kinds n h k = h
length-forms widths (a ∷ args) [] n h k = absurd (omega (arith, h, k))
length-forms widths (a ∷ args) (kind ∷ kinds) zero h k = absurd (omega (arith, h))
length-forms widths (a ∷ args) (kind ∷ kinds) (suc n) h k = ap suc (length-forms widths args kinds n (omega (arith, h)) (omega (arith, k)))

rec_open : (e : EquationShape) → is_rec e.op ≡ true → e.declared ≡ None → is_open e ≡ true
rec_open e r d = rw (r, d) refl

-- operands have widths where the equations below have
operands_wide : (equations : List EquationShape) (outputs : List Operand) (widths : List ℕ) (i : ℕ) → IsFlat equations outputs → AreWidths equations widths → ((j : ℕ) → j < i → 1 ≤ slice_index widths j) → (args : List Operand) → list_all (is_lawful_operand equations i) args ≡ true → WideOperands widths args
operands_wide equations outputs widths i flat wide ih [] h = tt
operands_wide equations outputs widths i flat wide ih (Operand.Const c ∷ args) h = (number_some c, operands_wide equations outputs widths i flat wide ih args (and_parts (nat_lt c (2 ^ 64)) (list_all (is_lawful_operand equations i) args) h).1)
operands_wide equations outputs widths i flat wide ih (Operand.Eq j ∷ args) h =
    let t = and_parts (nat_lt j i) (list_all (is_lawful_operand equations i) args) h in
    (ih j (ltb-true j i t.0), operands_wide equations outputs widths i flat wide ih args t.1)
operands_wide equations outputs widths i flat wide ih (Operand.Past rec k ∷ args) h =
    let t = and_parts (is_lawful_operand equations i (Operand.Past rec k)) (list_all (is_lawful_operand equations i) args) h in
    let p = past_of equations i rec k t.0 in
    (rec_width equations outputs widths flat wide rec p.init p.first p.equation p.there p.op, operands_wide equations outputs widths i flat wide ih args t.1)

widths_below : (equations : List EquationShape) (outputs : List Operand) (widths : List ℕ) → IsFlat equations outputs → AreWidths equations widths → (n : ℕ) → n ≤ length equations → (i : ℕ) → i < n → 1 ≤ slice_index widths i
widths_below equations outputs widths flat wide zero l i h = absurd (omega (arith, h))
widths_below equations outputs widths flat wide (suc n) l i h = elim (cases_lt i n) [
  | inl low ↦ widths_below equations outputs widths flat wide n (omega (arith, l)) i low
  | inr high ↦
      (let at = equation_at equations i (omega (arith, h, l)) in
      let e = at.0 in
      let ih : (j : ℕ) → j < i → 1 ≤ slice_index widths j = λ j k. widths_below equations outputs widths flat wide n (omega (arith, l)) j (omega (arith, k, h)) in
      let args = operands_wide equations outputs widths i flat wide ih e.args (flat.operands i e at.1) in
      let fs = forms_in widths e in
      elim (cases_Bool (is_open e)) [
        | inl o ↦ open_width i e at.1 o e.op refl
        | inr c ↦ settled_some (takes e.op fs) e.declared (natural_width e.op fs) (slice_index widths i) (wide.each i e at.1 (slice_get_within equations i e at.1) c)
            (λ v d. lawful_declared e.op v (subst (λ (o : Option ℕ). has_lawful_width e.op o ≡ true) d (flat.widths i e at.1)))
            (λ d. natural_some e.op fs (length-forms widths e.args e.kinds (arity e.op) (flat.args i e at.1) (flat.kinds i e at.1))
            (not_input e.op (subst (λ (o : Option ℕ). has_lawful_width e.op o ≡ true) d (flat.widths i e at.1)))
            (no_rec e c d) (forms_some widths e.args e.kinds args))
      ])
]
  where
    open_width : (i : ℕ) (e : EquationShape) → slice_get equations i ≡ Some e → is_open e ≡ true → (op : Op) → e.op ≡ op → 1 ≤ slice_index widths i
    open_width i e there o (Op.Rec init first) is = (wide.recurrences i e there init first (slice_get_within equations i e there) o is).holds.least
    open_width i e there o op is = absurd (let P : Op → Type 0 = λ q. (is_rec q && not (is_some e.declared)) ≡ true in let none = subst P is o in false≢true none)

    no_rec : (e : EquationShape) → is_open e ≡ false → e.declared ≡ None → is_rec e.op ≡ false
    no_rec e c d = elim (cases_Bool (is_rec e.op)) [
      | inl r ↦ absurd (false≢true (sym c ∙ rec_open e r d))
      | inr r ↦ r
    ]

-- every equation has a width
pub widths_some : (equations : List EquationShape) (outputs : List Operand) (widths : List ℕ) → IsFlat equations outputs → AreWidths equations widths → (i : ℕ) → i < length equations → 1 ≤ slice_index widths i
widths_some equations outputs widths flat wide i h = widths_below equations outputs widths flat wide (length equations) (omega arith) i h

stated_input : (op : Op) → is_stated op ≡ false → is_input op ≡ false
stated_input Op.Input h = absurd (false≢true (sym h))
stated_input op h = refl

stated_rec : (op : Op) → is_stated op ≡ false → is_rec op ≡ false
stated_rec (Op.Rec init first) h = absurd (false≢true (sym h))
stated_rec op h = refl

pub equation_counted : (equations : List EquationShape) (outputs given : List Operand) (widths : List ℕ) (i : ℕ) (e : EquationShape) → IsFlat equations outputs → AreWidths equations widths → slice_get equations i ≡ Some e → IsCounted (plan_of equations widths given) i e
equation_counted equations outputs given widths i e flat wide there =
    let l = slice_get_within equations i e there in
    let args = operands_wide equations outputs widths i flat wide (λ j k. widths_some equations outputs widths flat wide j (omega (arith, k, l))) e.args (flat.operands i e there) in
    record {
      args = flat.args i e there;
      kinds = flat.kinds i e there;
      wide = args;
      bits = λ s. (let n = natural_some e.op (forms_in widths e) (length-forms widths e.args e.kinds (arity e.op) (flat.args i e there) (flat.kinds i e there)) (stated_input e.op s) (stated_rec e.op s) (forms_some widths e.args e.kinds args) in
          let w = widths_some equations outputs widths flat wide i l in omega (arith, n, w));
    }

-- a fact of each equation from number i on
pub record Rest (equations : List EquationShape) (i : ℕ) (rest : List EquationShape) : Type 0 where
  pub at : (j : ℕ) → slice_get equations (i + j) ≡ slice_get rest j

pub rest_more : (equations : List EquationShape) (i : ℕ) (e : EquationShape) (rest : List EquationShape) → Rest equations i (e ∷ rest) → Rest equations (suc i) rest
rest_more equations i e rest r = record { at = λ j. ap (λ (k : ℕ). slice_get equations k) (omega arith) ∙ r.at (suc j) }

pub rest_first : (equations : List EquationShape) (i : ℕ) (e : EquationShape) (rest : List EquationShape) → Rest equations i (e ∷ rest) → slice_get equations i ≡ Some e
rest_first equations i e rest r = ap (λ (k : ℕ). slice_get equations k) (omega arith) ∙ r.at 0

pub rest_all : (equations : List EquationShape) → Rest equations 0 equations
rest_all equations = record { at = λ j. ap (λ (k : ℕ). slice_get equations k) (omega arith) }

counted_from : (equations : List EquationShape) (outputs given : List Operand) (widths : List ℕ) (i : ℕ) (rest : List EquationShape) → IsFlat equations outputs → AreWidths equations widths → Rest equations i rest → AreCounted (plan_of equations widths given) i rest
counted_from equations outputs given widths i [] flat wide r = tt
counted_from equations outputs given widths i (e ∷ rest) flat wide r = (equation_counted equations outputs given widths i e flat wide (rest_first equations i e rest r), counted_from equations outputs given widths (suc i) rest flat wide (rest_more equations i e rest r))

-- flat equations with their widths are counted, and all their operands have widths
pub are_counted : (equations : List EquationShape) (outputs : List Operand) (widths : List ℕ) → IsFlat equations outputs → AreWidths equations widths → AreCounted (plan_of equations widths outputs) 0 equations
are_counted equations outputs widths flat wide = counted_from equations outputs outputs widths 0 equations flat wide (rest_all equations)

wide_from : (plan : UnitPlan) (i : ℕ) (rest : List EquationShape) → AreCounted plan i rest → AllWide plan.widths rest
wide_from plan i [] h = tt
wide_from plan i (e ∷ rest) h = (h.0.wide, wide_from plan (suc i) rest h.1)

pub are_wide : (equations : List EquationShape) (outputs : List Operand) (widths : List ℕ) → IsFlat equations outputs → AreWidths equations widths → AllWide widths equations
are_wide equations outputs widths flat wide = wide_from (plan_of equations widths outputs) 0 equations (are_counted equations outputs widths flat wide)
