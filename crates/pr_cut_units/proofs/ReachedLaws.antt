-- From what depends on the past of a recurrence nothing is reached but through the recurrence.
use Rattle.std.proofs.Common.{◌≡◌, ◌≢◌, ◌<◌, ◌≤◌, ◌⊎◌, ℕ, zero, suc, ◌+◌, ◌==◌, ◌&&◌, Bool, true, false, max, Some, List, [], ◌∷◌, length, map, get_or, refl, subst, sym, ap, ◌∙◌, arith, inl, inr}
use Rattle.std.specs.Prelude.{fold}
use Rattle.std.specs.Bool.{if◌then◌else◌}
use Rattle.std.specs.List.{slice_get, list_any, list_all, Contains}
use Rattle.pr_net.proofs.Lists.{any_here, in_none, head_or_tail}
use Rattle.std.proofs.lemmas.Bool.{cases_Bool, or_cases, or_left, or_right, and_parts, and_from, eqb-true, eqb-false, eq-eqb, ltb-true, false≢true}
use Rattle.std.proofs.lemmas.Option.{slice_get_within}
use Rattle.pr_flat.specs.declared.equations.Operand.{Operand}
use Rattle.pr_flat.specs.Shape.{EquationShape}
use Rattle.pr_flat.specs.Facts.{is_lawful_operand, reads_equation, reads_past, DependsOnPast, IsFlat}
use Rattle.pr_cut_units.specs.Reached.{is_read, reached_from, reached, past_read, greatest, greatest_past, hold_count}

-- an equation that counts and reads another
pub record Reader (es : List EquationShape) (flags : List Bool) (n : ℕ) : Type 0 where
  pub number : ℕ
  pub equation : EquationShape
  pub there : slice_get es number ≡ Some equation
  pub counts : get_or flags number false ≡ true
  pub reads : list_any (reads_equation n) equation.args ≡ true

reader_more : (e : EquationShape) (es : List EquationShape) (b : Bool) (flags : List Bool) (n : ℕ) → Reader es flags n → Reader (e ∷ es) (b ∷ flags) n
reader_more e es b flags n r = record { number = suc r.number; equation = r.equation; there = r.there; counts = r.counts; reads = r.reads }

read_by : (n : ℕ) (es : List EquationShape) (flags : List Bool) → is_read n es flags ≡ true → Reader es flags n
read_by n [] flags h = absurd (false≢true h)
read_by n (e ∷ es) [] h = absurd (false≢true h)
read_by n (e ∷ es) (counts ∷ flags) h = elim (or_cases (counts && list_any (reads_equation n) e.args) (is_read n es flags) h) [
  | inl t ↦ (let p = and_parts counts (list_any (reads_equation n) e.args) t in record { number = 0; equation = e; there = refl; counts = p.0; reads = p.1 })
  | inr t ↦ reader_more e es counts flags n (read_by n es flags t)
]

-- who is reached is read by an operand, or by one who is reached
pub reached_split : (operands : List Operand) (k : ℕ) (es : List EquationShape) (i : ℕ) → get_or (reached_from operands k es) i false ≡ true → (list_any (reads_equation (k + i)) operands ≡ true) ⊎ Reader es (reached_from operands k es) (k + i)
reached_split operands k [] i h = absurd (false≢true h)
reached_split operands k (e ∷ es) zero h =
    let later = reached_from operands (suc k) es in
    let z : k ≡ k + 0 = omega arith in
    elim (or_cases (list_any (reads_equation k) operands) (is_read k es later) h) [
      | inl t ↦ inl (subst (λ (n : ℕ). list_any (reads_equation n) operands ≡ true) z t)
      | inr t ↦ inr (subst (λ (n : ℕ). Reader (e ∷ es) (reached_from operands k (e ∷ es)) n) z (reader_more e es _ later k (read_by k es later t)))
    ]
reached_split operands k (e ∷ es) (suc i) h =
    let later = reached_from operands (suc k) es in
    let z : suc k + i ≡ k + suc i = omega arith in
    elim (reached_split operands (suc k) es i h) [
      | inl t ↦ inl (subst (λ (n : ℕ). list_any (reads_equation n) operands ≡ true) z t)
      | inr r ↦ inr (subst (λ (n : ℕ). Reader (e ∷ es) (reached_from operands k (e ∷ es)) n) z (reader_more e es _ later (suc k + i) r))
    ]

is_read_by : (n : ℕ) (es : List EquationShape) (flags : List Bool) (j : ℕ) (d : EquationShape) → slice_get es j ≡ Some d → get_or flags j false ≡ true → list_any (reads_equation n) d.args ≡ true → is_read n es flags ≡ true
is_read_by n [] flags j d there counts reads = cc
is_read_by n (e ∷ es) [] j d there counts reads = absurd (false≢true counts)
is_read_by n (e ∷ es) (b ∷ flags) zero d there counts reads =
    let same : e ≡ d = cc in
    or_left (b && list_any (reads_equation n) e.args) (is_read n es flags) (and_from b (list_any (reads_equation n) e.args) counts (ap (λ (q : EquationShape). list_any (reads_equation n) q.args) same ∙ reads))
is_read_by n (e ∷ es) (b ∷ flags) (suc j) d there counts reads = or_right (b && list_any (reads_equation n) e.args) (is_read n es flags) (is_read_by n es flags j d there counts reads)

-- who is read by a later one who is reached is reached
pub reached_by : (operands : List Operand) (k : ℕ) (es : List EquationShape) (i j : ℕ) (d : EquationShape) → i < j → slice_get es j ≡ Some d → get_or (reached_from operands k es) j false ≡ true → list_any (reads_equation (k + i)) d.args ≡ true → get_or (reached_from operands k es) i false ≡ true
reached_by operands k [] i j d l there counts reads = cc
reached_by operands k (e ∷ es) i zero d l there counts reads = absurd (omega (arith, l))
reached_by operands k (e ∷ es) zero (suc j) d l there counts reads =
    let z : k + 0 ≡ k = omega arith in
    or_right (list_any (reads_equation k) operands) _ (is_read_by k es (reached_from operands (suc k) es) j d there counts (subst (λ (n : ℕ). list_any (reads_equation n) d.args ≡ true) z reads))
reached_by operands k (e ∷ es) (suc i) (suc j) d l there counts reads =
    let z : k + suc i ≡ suc k + i = omega arith in
    reached_by operands (suc k) es i j d (omega (arith, l)) there counts (subst (λ (n : ℕ). list_any (reads_equation n) d.args ≡ true) z reads)

-- an equation that is read is an earlier one
earlier_read : (equations : List EquationShape) (j i : ℕ) (args : List Operand) → list_all (is_lawful_operand equations j) args ≡ true → list_any (reads_equation i) args ≡ true → i < j
earlier_read equations j i [] h r = absurd (false≢true r)
earlier_read equations j i (a ∷ args) h r =
    let p = and_parts (is_lawful_operand equations j a) (list_all (is_lawful_operand equations j) args) h in
    elim (or_cases (reads_equation i a) (list_any (reads_equation i) args) r) [
      | inl t ↦ one a p.0 t
      | inr t ↦ earlier_read equations j i args p.1 t
    ]
  where
    one : (a : Operand) → is_lawful_operand equations j a ≡ true → reads_equation i a ≡ true → i < j
    one (Operand.Const c) l t = absurd (false≢true t)
    one (Operand.Eq m) l t = let e = eqb-true m i t in let q = ltb-true m j l in omega (arith, e, q)
    one (Operand.Past rec k) l t = absurd (false≢true t)

-- what is reached and depends on the past of a recurrence
pub record Through (equations : List EquationShape) (outputs : List Operand) (rec i : ℕ) : Type 0 where
  pub recurrence : get_or (reached equations outputs) rec false ≡ true
  pub back : get_or (reached equations (Operand.Eq rec ∷ [])) i false ≡ true

reads_itself : (rec : ℕ) → list_any (reads_equation rec) (Operand.Eq rec ∷ []) ≡ true
reads_itself rec = or_left (rec == rec) false (eq-eqb rec rec refl)

self_reached : (k : ℕ) (es : List EquationShape) (j : ℕ) (d : EquationShape) (operands : List Operand) → slice_get es j ≡ Some d → list_any (reads_equation (k + j)) operands ≡ true → get_or (reached_from operands k es) j false ≡ true
self_reached k [] j d operands there h = cc
self_reached k (e ∷ es) zero d operands there h = let z : k + 0 ≡ k = omega arith in or_left (list_any (reads_equation k) operands) _ (subst (λ (n : ℕ). list_any (reads_equation n) operands ≡ true) z h)
self_reached k (e ∷ es) (suc j) d operands there h = let z : k + suc j ≡ suc k + j = omega arith in self_reached (suc k) es j d operands there (subst (λ (n : ℕ). list_any (reads_equation n) operands ≡ true) z h)

-- by the number of equations after it
through_step : (equations : List EquationShape) (outputs : List Operand) (rec : ℕ) → IsFlat equations outputs → (i : ℕ) → ((j : ℕ) → i < j → j < length equations → DependsOnPast equations rec j → j ≢ rec → get_or (reached equations outputs) j false ≡ true → Through equations outputs rec j) → DependsOnPast equations rec i → i ≢ rec → get_or (reached equations outputs) i false ≡ true → Through equations outputs rec i
through_step equations outputs rec flat i later dep other h = elim (reached_split outputs 0 equations i h) [
  | inl t ↦ absurd (let z : 0 + i ≡ i = omega arith in false≢true (sym (flat.apart rec i dep other).outside ∙ subst (λ (n : ℕ). list_any (reads_equation n) outputs ≡ true) z t))
  | inr r ↦
      (let z : 0 + i ≡ i = omega arith in
      let j = r.number in
      let d = r.equation in
      let reads : list_any (reads_equation i) d.args ≡ true = subst (λ (n : ℕ). list_any (reads_equation n) d.args ≡ true) z r.reads in
      let low : i < j = earlier_read equations j i d.args (flat.operands j d r.there) reads in
      let lj = slice_get_within equations j d r.there in
      elim (cases_Bool (j == rec)) [
        | inl e ↦
            (let same : j ≡ rec = eqb-true j rec e in
            record {
              recurrence = subst (λ (n : ℕ). get_or (reached equations outputs) n false ≡ true) same r.counts;
              back = reached_by (Operand.Eq rec ∷ []) 0 equations i j d low r.there (self_reached 0 equations j d (Operand.Eq rec ∷ []) r.there (let y : rec ≡ 0 + j = omega (arith, same) in subst (λ (n : ℕ). list_any (reads_equation n) (Operand.Eq rec ∷ []) ≡ true) y (reads_itself rec))) r.reads;
            })
        | inr e ↦
            (let ne : j ≢ rec = eqb-false j rec e in
            let more = later j low lj (DependsOnPast.Reads j i d r.there reads other dep) ne r.counts in
            record {
              recurrence = more.recurrence;
              back = reached_by (Operand.Eq rec ∷ []) 0 equations i j d low r.there more.back r.reads;
            })
      ])
]

through_from : (equations : List EquationShape) (outputs : List Operand) (rec : ℕ) → IsFlat equations outputs → (fuel i : ℕ) → length equations ≤ i + fuel → DependsOnPast equations rec i → i ≢ rec → get_or (reached equations outputs) i false ≡ true → Through equations outputs rec i
through_from equations outputs rec flat zero i l dep other h = through_step equations outputs rec flat i (λ j low lj d ne c. absurd (omega (arith, l, low, lj))) dep other h
through_from equations outputs rec flat (suc n) i l dep other h = through_step equations outputs rec flat i (λ j low lj d ne c. through_from equations outputs rec flat n j (omega (arith, l, low)) d ne c) dep other h

-- what is reached and depends on the past of a recurrence short of it, is reached through it
pub through : (equations : List EquationShape) (outputs : List Operand) (rec i : ℕ) → IsFlat equations outputs → DependsOnPast equations rec i → i ≢ rec → get_or (reached equations outputs) i false ≡ true → Through equations outputs rec i
through equations outputs rec i flat dep other h = through_from equations outputs rec flat (length equations) i (omega arith) dep other h

-- ---- how much of the past is held
greatest_from : (n : ℕ) (ns : List ℕ) → n ≤ fold max n ns
greatest_from n [] = omega arith
greatest_from n (m ∷ ns) = let t = greatest_from (max n m) ns in omega (arith, t)

past_greatest : (rec k : ℕ) (n : ℕ) (args : List Operand) (a : Operand) → Contains args a → past_read rec a ≡ k → k ≤ fold max n (map (past_read rec) args)
past_greatest rec k n [] a c e = absurd (in_none a c)
past_greatest rec k n (b ∷ args) a c e = elim (head_or_tail b a args c) [
  | inl h ↦ (let t = greatest_from (max n (past_read rec b)) (map (past_read rec) args) in let q = ap (past_read rec) h in omega (arith, t, q, e))
  | inr t ↦ past_greatest rec k (max n (past_read rec b)) args a t e
]

past_counted : (rec k : ℕ) (es : List EquationShape) (flags : List Bool) (i : ℕ) (e : EquationShape) (a : Operand) → slice_get es i ≡ Some e → get_or flags i false ≡ true → Contains e.args a → past_read rec a ≡ k → k ≤ greatest_past rec es flags
past_counted rec k [] flags i e a there h c q = cc
past_counted rec k (d ∷ es) [] i e a there h c q = absurd (false≢true h)
past_counted rec k (d ∷ es) (b ∷ flags) zero e a there h c q =
    let same : d ≡ e = cc in
    let most : k ≤ greatest (map (past_read rec) d.args) = past_greatest rec k 0 d.args a (subst (λ (x : EquationShape). Contains x.args a) (sym same) c) q in
    let here : (if b then greatest (map (past_read rec) d.args) else 0) ≡ greatest (map (past_read rec) d.args) = ap (λ (t : Bool). if t then greatest (map (past_read rec) d.args) else 0) h in
    omega (arith, most, here)
past_counted rec k (d ∷ es) (b ∷ flags) (suc i) e a there h c q = let t = past_counted rec k es flags i e a there h c q in omega (arith, t)

past_self : (rec k : ℕ) → past_read rec (Operand.Past rec k) ≡ k
past_self rec k = ap (λ (t : Bool). if t then k else 0) (eq-eqb rec rec refl)

past_reads : (rec k : ℕ) (args : List Operand) → Contains args (Operand.Past rec k) → list_any (reads_past rec) args ≡ true
past_reads rec k args c = any_here (reads_past rec) args (Operand.Past rec k) c (eq-eqb rec rec refl)

-- a past that a reached equation reads: its recurrence is reached, and holds so much
pub record PastHeld (equations : List EquationShape) (outputs : List Operand) (rec k i : ℕ) : Type 0 where
  pub depends : DependsOnPast equations rec i
  pub recurrence : get_or (reached equations outputs) rec false ≡ true
  pub held : k ≤ hold_count equations rec

pub past_held : (equations : List EquationShape) (outputs : List Operand) (rec k i : ℕ) (e : EquationShape) → IsFlat equations outputs → slice_get equations i ≡ Some e → get_or (reached equations outputs) i false ≡ true → Contains e.args (Operand.Past rec k) → PastHeld equations outputs rec k i
past_held equations outputs rec k i e flat there h c =
    let dep : DependsOnPast equations rec i = DependsOnPast.ReadsPast i e there (past_reads rec k e.args c) in
    let most : get_or (reached equations (Operand.Eq rec ∷ [])) i false ≡ true → k ≤ hold_count equations rec = λ back. (let t = past_counted rec k equations (reached equations (Operand.Eq rec ∷ [])) i e (Operand.Past rec k) there back c (past_self rec k) in omega (arith, t)) in
    elim (cases_Bool (i == rec)) [
      | inl q ↦
          (let same : i ≡ rec = eqb-true i rec q in
          let y : rec ≡ 0 + i = omega (arith, same) in
          record {
            depends = dep;
            recurrence = subst (λ (n : ℕ). get_or (reached equations outputs) n false ≡ true) same h;
            held = most (self_reached 0 equations i e (Operand.Eq rec ∷ []) there (subst (λ (n : ℕ). list_any (reads_equation n) (Operand.Eq rec ∷ []) ≡ true) y (reads_itself rec)));
          })
      | inr q ↦ (let t = through equations outputs rec i flat dep (eqb-false i rec q) h in record { depends = dep; recurrence = t.recurrence; held = most t.back })
    ]
