-- The number of each kind of equation beside the numbers of a stream that is made the same way.
use Rattle.std.proofs.Common.{◌≡◌, ℕ, zero, suc, ◌-◌, ◌^◌, ◌<◌, ◌≤◌, Bool, true, false, cond, nat_le, Option, Some, None, List, [], ◌∷◌, ◌++◌, map, length, get_or, replicate, refl, sym, ◌∙◌, ap, ap₂, subst, arith, inl, inr, length-append}
use Rattle.std.specs.List.{slice_get, AllZip}
use Rattle.std.proofs.lemmas.Bool.{cases_lt, cond-true, cond-false, lt-leb, le-leb}
use Rattle.std.proofs.lemmas.List.{get_or-replicate, length-map, length-replicate, length-take}
use Rattle.std.proofs.lemmas.List.FromFn.{get_or-map-range_with_len, length-map-range_with_len}
use Rattle.std.proofs.Math.Nat.{mod-eq_of_lt}
use Rattle.pr_flat.specs.declared.equations.Operand.{Operand}
use Rattle.pr_flat.specs.declared.equations.Operand.TheVariants.{Const, Past}
use Rattle.pr_flat.specs.declared.equations.Op.{Op}
use Rattle.pr_flat.specs.declared.equations.Op.TheVariants as op
use Rattle.pr_flat.specs.declared.forms.Form.{Form}
use Rattle.pr_flat.specs.declared.forms.Point.{Point}
use Rattle.pr_flat.specs.Forms.{Stream, value, residue}
use Rattle.pr_flat.specs.Widths.{operand_width, operand_forms, settled_width, width_in, is_open}
use Rattle.pr_flat.specs.Rows.{takes, forms_of, natural_form, natural_number, natural_width}
use Rattle.pr_flat.specs.Shape.{EquationShape}
use Rattle.pr_flat.specs.Values.{initial_of}
use Rattle.pr_flat.proofs.FormLemmas.{residue-value}
use Rattle.pr_flat.proofs.WidthLemmas.{width_in-declared}
use Rattle.pr_flat.proofs.RowLemmas.{natural_number-lt}
use Rattle.pr_lang_meaning.specs.Streams as streams
use Rattle.pr_lang_meaning.specs.Streams.{Bound, constant_stream, fitted, form_of, point_at, operated}
use Rattle.pr_lang_meaning.specs.Programs.{passed}
use Rattle.pr_lang_meaning.proofs.Agreeing.{fitted-number, delayed-number}
use Rattle.pr_expand_spec.specs.declared.givens.Given.{Given}
use Rattle.pr_expand_spec.specs.Making as making
use Rattle.pr_expand_spec.specs.Making.{Equations, Expanded, given_operand, given_signed, kinds_read, with_equation, is_delay_of, same_operand, delay_from, delay_step, delayed_once, delayed}
use Rattle.pr_scope_facts.proofs.Appending.{Appends, appends-at, appends-both, delayed-appends}
use Rattle.pr_expand_correct.proofs.Related.{Have, given_form, Matches}
use Rattle.pr_expand_correct.proofs.Keeping.{at-end}
use Rattle.pr_expand_correct.proofs.Forms.{is_operator, same-forms-given}
use Rattle.pr_expand_correct.proofs.Texts.{delay_from-found}
use Rattle.pr_expand_correct.proofs.NumberRuns.{Run, IsRun, number_at, number_earlier, points_at}

-- a stream has a number for each sample, and before sample n those of what is given
pub record IsNumbered (r : Run) (n : ℕ) (g : Given) (s : Stream) : Type 0 where
  pub count : length s.numbers ≡ length r.samples
  pub each : (j : ℕ) → j < n → get_or s.numbers j 0 ≡ number_at r j g.operand

-- the equation that was made last, in all equations
pub appends-last : (es : Equations) (e : EquationShape) (whole : Equations) → Appends (es ++ e ∷ []) whole → slice_get whole (length es) ≡ Some e
appends-last es e whole front = appends-at (es ++ e ∷ []) whole front (length es) e (at-end es e)

-- ---- operands as they are read
abbrev pub point_given : Run → ℕ → Given → Point
point_given r n g = record { form = given_form r.widths g; number = number_at r n g.operand }

points-given : (r : Run) (n : ℕ) (gs : List Given) → points_at r n (map given_operand gs) (map given_signed gs) ≡ map (point_given r n) gs
points-given r n [] = refl
points-given r n (g ∷ gs) = ap (λ (points : List Point). point_given r n g ∷ points) (points-given r n gs)

forms-given : (r : Run) (n : ℕ) (gs : List Given) → forms_of (map (point_given r n) gs) ≡ map (given_form r.widths) gs
forms-given r n [] = refl
forms-given r n (g ∷ gs) = ap (λ (forms : List Form). given_form r.widths g ∷ forms) (forms-given r n gs)

-- an operator's number does not depend on the kinds of what it reads as numbers
number-read : (o : Op) (r : Run) (n : ℕ) (gs : List Given) → natural_number o (points_at r n (map given_operand gs) (kinds_read o (map given_signed gs))) ≡ natural_number o (map (point_given r n) gs)
number-read op.Choose r n [] = refl
number-read op.Choose r n (c ∷ []) = refl
number-read op.Choose r n (c ∷ a ∷ []) = refl
number-read op.Choose r n (c ∷ a ∷ b ∷ []) = refl
number-read op.Choose r n (c ∷ a ∷ b ∷ d ∷ gs) = refl
number-read op.LeftBy r n [] = refl
number-read op.LeftBy r n (a ∷ []) = refl
number-read op.LeftBy r n (a ∷ b ∷ []) = refl
number-read op.LeftBy r n (a ∷ b ∷ c ∷ gs) = refl
number-read op.RightBy r n [] = refl
number-read op.RightBy r n (a ∷ []) = refl
number-read op.RightBy r n (a ∷ b ∷ []) = refl
number-read op.RightBy r n (a ∷ b ∷ c ∷ gs) = refl
number-read (op.Slice high low) r n [] = refl
number-read (op.Slice high low) r n (a ∷ []) = refl
number-read (op.Slice high low) r n (a ∷ b ∷ gs) = refl
number-read op.Cat r n [] = refl
number-read op.Cat r n (a ∷ []) = refl
number-read op.Cat r n (a ∷ b ∷ []) = refl
number-read op.Cat r n (a ∷ b ∷ c ∷ gs) = refl
number-read (op.Delay k) r n [] = refl
number-read (op.Delay k) r n (a ∷ gs) = refl
number-read o r n gs = ap (natural_number o) (points-given r n gs)

form-read : (o : Op) (r : Run) (n : ℕ) (gs : List Given) → is_operator o ≡ true → natural_form o (forms_of (points_at r n (map given_operand gs) (kinds_read o (map given_signed gs)))) ≡ natural_form o (map (given_form r.widths) gs)
form-read op.Choose r n [] plain = refl
form-read op.Choose r n (c ∷ []) plain = refl
form-read op.Choose r n (c ∷ a ∷ []) plain = refl
form-read op.Choose r n (c ∷ a ∷ b ∷ []) plain = refl
form-read op.Choose r n (c ∷ a ∷ b ∷ d ∷ gs) plain = refl
form-read op.LeftBy r n [] plain = refl
form-read op.LeftBy r n (a ∷ []) plain = refl
form-read op.LeftBy r n (a ∷ b ∷ []) plain = refl
form-read op.LeftBy r n (a ∷ b ∷ c ∷ gs) plain = refl
form-read op.RightBy r n [] plain = refl
form-read op.RightBy r n (a ∷ []) plain = refl
form-read op.RightBy r n (a ∷ b ∷ []) plain = refl
form-read op.RightBy r n (a ∷ b ∷ c ∷ gs) plain = refl
form-read (op.Slice high low) r n [] plain = refl
form-read (op.Slice high low) r n (a ∷ []) plain = refl
form-read (op.Slice high low) r n (a ∷ b ∷ gs) plain = refl
form-read op.Cat r n [] plain = refl
form-read op.Cat r n (a ∷ []) plain = refl
form-read op.Cat r n (a ∷ b ∷ []) plain = refl
form-read op.Cat r n (a ∷ b ∷ c ∷ gs) plain = refl
form-read (op.Delay k) r n gs plain = cc
form-read o r n gs plain = ap (λ (points : List Point). natural_form o (forms_of points)) (points-given r n gs) ∙ ap (natural_form o) (forms-given r n gs)

same-points : (r : Run) (n j : ℕ) → j < n → (gs : List Given) (ss : List Stream) → AllZip (Matches r.widths) gs ss → AllZip (IsNumbered r n) gs ss → map (point_at j) ss ≡ map (point_given r j) gs
same-points r n j low [] [] match numbered = refl
same-points r n j low [] (s ∷ ss) match numbered = absurd match
same-points r n j low (g ∷ gs) [] match numbered = absurd match
same-points r n j low (g ∷ gs) (s ∷ ss) match numbered = ap₂ (λ (p : Point) (points : List Point). p ∷ points) (ap₂ (λ (f : Form) (x : ℕ). record { form = f; number = x }) match.0.form (numbered.0.each j low)) (same-points r n j low gs ss match.1 numbered.1)

-- ---- delays
once-number : (r : Run) → IsRun r → (q : Operand) (c : ℕ) (es : Equations) → Appends (delayed_once q c es).equations r.equations → (j : ℕ) → j < length r.samples → number_at r j (delayed_once q c es).given.operand ≡ number_earlier r j q c
once-number r run q c es front j within = by_place (delay_from 0 es q c) refl front where
  by_place : (o : Option ℕ) → delay_from 0 es q c ≡ o → Appends (delay_step o q c es).equations r.equations → number_at r j (delay_step o q c es).given.operand ≡ number_earlier r j q c
  by_place None is front = run.delay j (length es) (record { op = op.Delay c; args = q ∷ []; declared = None; kinds = false ∷ [] }) within (appends-last es _ r.equations front) c q refl refl
  by_place (Some i) is front =
      let found = delay_from-found es 0 i q c is in
      let d = found.2 in
      let place : i ≡ found.0 = omega (arith, found.1) in
      let P : ℕ → Type 0 = λ k. r.numbers j k ≡ number_earlier r j q c in
      subst P (sym place) (run.delay j found.0 d.equation within (appends-at es r.equations front found.0 d.equation d.there) c q d.does.op_is d.does.args_are)

-- k samples earlier
pub delayed-number_at : (r : Run) → IsRun r → (k : ℕ) (g : Given) (c : ℕ) (es : Equations) → Appends (delayed k g c es).equations r.equations → (j : ℕ) → j < length r.samples → number_at r j (delayed k g c es).given.operand ≡ cond (nat_le k j) (number_at r (j - k) g.operand) c
delayed-number_at r run zero g c es front j within =
    let all : j - 0 ≡ j = omega arith in
    sym (cond-true (nat_le 0 j) (number_at r (j - 0) g.operand) c (le-leb 0 j (omega arith)) ∙ ap (λ i. number_at r i g.operand) all)
delayed-number_at r run (suc k) g c es front j within =
    let once = delayed_once g.operand c es in
    let next : Given = record { operand = once.given.operand; signed = g.signed } in
    let rest : Appends once.equations r.equations = appends-both once.equations (delayed k next c once.equations).equations r.equations (delayed-appends k next c once.equations) front in
    delayed-number_at r run k next c once.equations front j within ∙ elim (cases_lt j (suc k)) [
      | inl low ↦ (elim (cases_lt j k) [
        | inl less ↦ cond-false (nat_le k j) (number_at r (j - k) once.given.operand) c (lt-leb k j less)
        | inr more ↦ (let start : j - k ≡ 0 = omega arith in cond-true (nat_le k j) (number_at r (j - k) once.given.operand) c (le-leb k j more) ∙ once-number r run g.operand c es rest (j - k) (omega arith) ∙ ap (λ i. number_earlier r i g.operand c) start)
      ]) ∙ sym (cond-false (nat_le (suc k) j) (number_at r (j - suc k) g.operand) c (lt-leb (suc k) j low))
      | inr high ↦ (let before : j - k ≡ suc (j - suc k) = omega arith in cond-true (nat_le k j) (number_at r (j - k) once.given.operand) c (le-leb k j (omega arith)) ∙ once-number r run g.operand c es rest (j - k) (omega arith) ∙ ap (λ i. number_earlier r i g.operand c) before ∙ sym (cond-true (nat_le (suc k) j) (number_at r (j - suc k) g.operand) c (le-leb (suc k) j high)))
    ]

-- ---- operators
closed : (o : Op) (gs : List Given) (declared : Option ℕ) (kinds : List Bool) → is_operator o ≡ true → is_open (record { op = o; args = map given_operand gs; declared = declared; kinds = kinds }) ≡ false
closed (op.Rec init first) gs declared kinds plain = cc
closed o gs declared kinds plain = refl

-- the equation of an operator has its width among these
pub own-width : (r : Run) → Have r.equations r.widths → (o : Op) (gs : List Given) (declared : Option ℕ) (es : Equations) → is_operator o ≡ true → Appends (with_equation o gs declared es).equations r.equations → width_in r.widths (record { op = o; args = map given_operand gs; declared = declared; kinds = kinds_read o (map given_signed gs) }) ≡ Some (get_or r.widths (length es) 0)
own-width r have o gs declared es plain front = have.each (length es) (record { op = o; args = map given_operand gs; declared = declared; kinds = kinds_read o (map given_signed gs) }) (appends-last es _ r.equations front) (closed o gs declared (kinds_read o (map given_signed gs)) plain)

forms-at : (r : Run) (n : ℕ) (args : List Operand) (kinds : List Bool) → forms_of (points_at r n args kinds) ≡ operand_forms r.widths args kinds
forms-at r n [] kinds = refl
forms-at r n (a ∷ args) [] = refl
forms-at r n (a ∷ args) (kind ∷ kinds) = ap (λ (forms : List Form). record { signed = kind; width = operand_width r.widths a } ∷ forms) (forms-at r n args kinds)

settled-natural : (b : Bool) (natural w : ℕ) → cond b (settled_width None natural) None ≡ Some w → w ≡ natural
settled-natural true natural w is = by_test (nat_le natural 128) is where
  by_test : (c : Bool) → cond c (Some natural) None ≡ Some w → w ≡ natural
  by_test true is = cc
  by_test false is = cc
settled-natural false natural w is = cc

whole-number : (w : ℕ) (f : Form) (n : ℕ) → w ≡ f.width → n < 2 ^ f.width → residue w (value f n) ≡ n
whole-number w f n same low = ap (λ v. residue v (value f n)) same ∙ residue-value f f.width n (omega arith) ∙ mod-eq_of_lt low

operator-number : (r : Run) → IsRun r → Have r.equations r.widths → (o : Op) (gs : List Given) (es : Equations) → is_operator o ≡ true → Appends (with_equation o gs None es).equations r.equations → (j : ℕ) → j < length r.samples → r.numbers j (length es) ≡ natural_number o (map (point_given r j) gs)
operator-number r run have o gs es plain front j within =
    let args = map given_operand gs in
    let kinds = kinds_read o (map given_signed gs) in
    let e : EquationShape = record { op = o; args = args; declared = None; kinds = kinds } in
    let there : slice_get r.equations (length es) ≡ Some e = appends-last es e r.equations front in
    let points = points_at r j args kinds in
    let width : get_or r.widths (length es) 0 ≡ natural_width o (forms_of points) = settled-natural (takes o (operand_forms r.widths args kinds)) (natural_width o (operand_forms r.widths args kinds)) (get_or r.widths (length es) 0) (own-width r have o gs None es plain front) ∙ ap (natural_width o) (sym (forms-at r j args kinds)) in
    run.operator j (length es) e within there plain
    ∙ whole-number (get_or r.widths (length es) 0) (natural_form o (forms_of points)) (natural_number o points) width (natural_number-lt o points (run.lawful j (length es) e within there))
    ∙ number-read o r j gs

declared-number : (r : Run) → IsRun r → Have r.equations r.widths → (o : Op) (gs : List Given) (w : ℕ) (es : Equations) → is_operator o ≡ true → Appends (with_equation o gs (Some w) es).equations r.equations → (j : ℕ) → j < length r.samples → r.numbers j (length es) ≡ residue w (value (natural_form o (map (given_form r.widths) gs)) (natural_number o (map (point_given r j) gs)))
declared-number r run have o gs w es plain front j within =
    let args = map given_operand gs in
    let kinds = kinds_read o (map given_signed gs) in
    let e : EquationShape = record { op = o; args = args; declared = Some w; kinds = kinds } in
    let there : slice_get r.equations (length es) ≡ Some e = appends-last es e r.equations front in
    let points = points_at r j args kinds in
    let width : get_or r.widths (length es) 0 ≡ w = width_in-declared r.widths e (get_or r.widths (length es) 0) w (own-width r have o gs (Some w) es plain front) refl in
    run.operator j (length es) e within there plain
    ∙ ap (λ v. residue v (value (natural_form o (forms_of points)) (natural_number o points))) width
    ∙ ap₂ (λ (f : Form) (x : ℕ). residue w (value f x)) (form-read o r j gs plain) (number-read o r j gs)

operated-number : (m j : ℕ) (o : Op) (ss : List Stream) → j < m → get_or (operated m o ss).numbers j 0 ≡ natural_number o (map (point_at j) ss)
operated-number m j o ss low = get_or-map-range_with_len (λ n. natural_number o (map (point_at n) ss)) 0 m j j 0 low (omega arith)

operated-count : (m : ℕ) (o : Op) (ss : List Stream) → length (operated m o ss).numbers ≡ m
operated-count m o ss = length-map-range_with_len (λ n. natural_number o (map (point_at n) ss)) 0 m

fitted-count : (w : ℕ) (s : Stream) → length (fitted w s).numbers ≡ length s.numbers
fitted-count w s = length-map s.numbers (λ n. residue w (value s.form n))

-- an operator, under a declared width or none
pub operator-numbered : (r : Run) → IsRun r → Have r.equations r.widths → (o : Op) (gs : List Given) (declared : Option ℕ) (es : Equations) → is_operator o ≡ true → Appends (with_equation o gs declared es).equations r.equations → (n : ℕ) → n ≤ length r.samples → (ss : List Stream) → AllZip (Matches r.widths) gs ss → AllZip (IsNumbered r n) gs ss → IsNumbered r n (with_equation o gs declared es).given (passed declared (operated (length r.samples) o ss))
operator-numbered r run have o gs None es plain front n within ss match numbered = record {
  count = operated-count (length r.samples) o ss;
  each = λ j low. operated-number (length r.samples) j o ss (omega arith) ∙ ap (natural_number o) (same-points r n j low gs ss match numbered) ∙ sym (operator-number r run have o gs es plain front j (omega arith));
}
operator-numbered r run have o gs (Some w) es plain front n within ss match numbered = record {
  count = fitted-count w (operated (length r.samples) o ss) ∙ operated-count (length r.samples) o ss;
  each = λ j low. fitted-number w (operated (length r.samples) o ss) j
      ∙ ap₂ (λ (f : Form) (x : ℕ). residue w (value f x)) (ap (natural_form o) (same-forms-given r.widths gs ss match)) (operated-number (length r.samples) j o ss (omega arith) ∙ ap (natural_number o) (same-points r n j low gs ss match numbered))
      ∙ sym (declared-number r run have o gs w es plain front j (omega arith));
}

-- an operand, under a declared width
pub fit-numbered : (r : Run) → IsRun r → Have r.equations r.widths → (w : ℕ) (g : Given) (es : Equations) → Appends (making.fitted w g es).equations r.equations → (n : ℕ) → n ≤ length r.samples → (s : Stream) → Matches r.widths g s → IsNumbered r n g s → IsNumbered r n (making.fitted w g es).given (fitted w s)
fit-numbered r run have w g es front n within s match numbered = record {
  count = fitted-count w s ∙ numbered.count;
  each = λ j low. fitted-number w s j ∙ ap₂ (λ (f : Form) (x : ℕ). residue w (value f x)) match.form (numbered.each j low) ∙ sym (declared-number r run have op.Fit (g ∷ []) w es refl front j (omega arith));
}

-- ---- constants and delays
pub constant-numbered : (r : Run) (n c : ℕ) → n ≤ length r.samples → (signed : Bool) → IsNumbered r n (record { operand = Const c; signed = signed }) (constant_stream (length r.samples) c)
constant-numbered r n c within signed = record { count = length-replicate (length r.samples) c; each = λ j low. get_or-replicate (length r.samples) j c 0 (omega arith) }

-- a delayed stream has as many numbers
delayed-count : (m k : ℕ) (b : Bound) → length b.stream.numbers ≡ m → length (streams.delayed m k b).numbers ≡ m
delayed-count m k b is = length-take m (replicate k b.init ++ b.stream.numbers) ∙ omega (arith, is, length-append (replicate k b.init) b.stream.numbers, length-replicate k b.init)

pub delayed-numbered : (r : Run) → IsRun r → (k : ℕ) (g : Given) (b : Bound) (es : Equations) → Appends (delayed k g b.init es).equations r.equations → (n : ℕ) → n ≤ length r.samples → IsNumbered r n g b.stream → IsNumbered r n (delayed k g b.init es).given (streams.delayed (length r.samples) k b)
delayed-numbered r run k g b es front n within numbered = record {
  count = delayed-count (length r.samples) k b numbered.count;
  each = λ j low. delayed-number (length r.samples) k j b (omega arith) ∙ ap (λ x. cond (nat_le k j) x b.init) (numbered.each (j - k) (omega arith)) ∙ sym (delayed-number_at r run k g b.init es front j (omega arith));
}

-- the past of a recurrence, of whose numbers those before the last of n samples are there
pub record IsBegun (r : Run) (n rec : ℕ) (b : Bound) : Type 0 where
  pub init_is : initial_of r.equations rec ≡ b.init
  pub count : length b.stream.numbers ≡ length r.samples
  pub each : (j : ℕ) → suc j < n → get_or b.stream.numbers j 0 ≡ r.numbers j rec

pub own-numbered : (r : Run) (n rec k : ℕ) (b : Bound) (signed : Bool) → n ≤ length r.samples → 1 ≤ k → IsBegun r n rec b → IsNumbered r n (record { operand = Past rec k; signed = signed }) (streams.delayed (length r.samples) k b)
own-numbered r n rec k b signed within positive begun = record {
  count = delayed-count (length r.samples) k b begun.count;
  each = λ j low. delayed-number (length r.samples) k j b (omega arith) ∙ elim (cases_lt j k) [
    | inl less ↦ cond-false (nat_le k j) (get_or b.stream.numbers (j - k) 0) b.init (lt-leb k j less) ∙ sym (cond-false (nat_le k j) (r.numbers (j - k) rec) (initial_of r.equations rec) (lt-leb k j less) ∙ begun.init_is)
    | inr more ↦ ap (λ x. cond (nat_le k j) x b.init) (begun.each (j - k) (omega arith)) ∙ ap (λ x. cond (nat_le k j) (r.numbers (j - k) rec) x) (sym begun.init_is)
  ];
}
