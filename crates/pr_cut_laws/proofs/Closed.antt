-- What an equation with units reads has units, and a past has its hold unit.
use Rattle.std.proofs.Common.{ℕ, zero, suc, ◌≡◌, ◌≢◌, ◌+◌, ◌≤◌, ◌<◌, ◌&&◌, ◌||◌, max, Bool, true, false, nat_eq, Some, List, [], ◌∷◌, length, map, fold, get_or, subst, refl, ap, ap₂, sym, ◌∙◌, ◌⊎◌, inl, inr, arith}
use Rattle.std.specs.Bool.{if◌then◌else◌}
use Rattle.std.specs.List.{slice_get, list_any, list_all}
use Rattle.std.proofs.lemmas.Bool.{and_parts, or_cases, eq-eqb, eqb-true, eqb-false, ltb-true, cases_order, cases_Bool}
use Rattle.std.proofs.lemmas.Option.{slice_get_within}
use Rattle.pr_flat.specs.declared.equations.Operand.{Operand}
use Rattle.pr_flat.specs.declared.equations.Op.{Op}
use Rattle.pr_flat.specs.Shape.{EquationShape}
use Rattle.pr_flat.specs.Facts.{IsFlat, DependsOnPast, reads_equation, reads_past, is_lawful_operand, is_input, arity}
use Rattle.pr_flat.proofs.WidthLemmas.{PastOf, past_of}
use Rattle.pr_cut_units.specs.Reached.{is_read, reached_from, reached, past_read, greatest, greatest_past, hold_count}
use Rattle.pr_cut_units.specs.Equations.{plan_of}
use Rattle.pr_cut_laws.proofs.Whole.{IsClosed, AllClosed}
use Rattle.pr_cut_laws.proofs.Lawful.{HasUnits, IsClosedPlan}

pub or_left : (s t : Bool) → s ≡ true → (s || t) ≡ true
or_left true t e = refl
or_left false t e = absurd (grind (arith, e))

pub or_right : (s t : Bool) → t ≡ true → (s || t) ≡ true
or_right true t e = refl
or_right false t e = e

-- the past of so many samples is among the operands
abbrev pub HasPast : ℕ → ℕ → List Operand → Type 0
HasPast rec k [] = ⊥
HasPast rec k (a ∷ args) = (a ≡ Operand.Past rec k) ⊎ HasPast rec k args

-- ---- an equation that is read by one that counts counts
is_read_some : (t : ℕ) (rest : List EquationShape) (flags : List Bool) (j : ℕ) (e : EquationShape) → slice_get rest j ≡ Some e → get_or flags j false ≡ true → list_any (reads_equation t) e.args ≡ true → is_read t rest flags ≡ true
is_read_some t [] flags j e there f h = cc
is_read_some t (d ∷ rest) [] j e there f h = absurd (grind (arith, f))
is_read_some t (d ∷ rest) (b ∷ flags) zero e there f h =
    let same : d ≡ e = cc in
    let reads : list_any (reads_equation t) d.args ≡ true = ap (λ (x : EquationShape). list_any (reads_equation t) x.args) same ∙ h in
    or_left (b && list_any (reads_equation t) d.args) (is_read t rest flags) (ap₂ (λ (p q : Bool). p && q) f reads)
is_read_some t (d ∷ rest) (b ∷ flags) (suc j) e there f h = or_right (b && list_any (reads_equation t) d.args) (is_read t rest flags) (is_read_some t rest flags j e there f h)

closed_from : (operands : List Operand) (k : ℕ) (rest : List EquationShape) (j s : ℕ) (e : EquationShape) → s < j → slice_get rest j ≡ Some e → get_or (reached_from operands k rest) j false ≡ true → list_any (reads_equation (k + s)) e.args ≡ true → get_or (reached_from operands k rest) s false ≡ true
closed_from operands k [] j s e l there f h = cc
closed_from operands k (d ∷ rest) zero s e l there f h = absurd (omega (arith, l))
closed_from operands k (d ∷ rest) (suc j) zero e l there f h =
    let z : k + 0 ≡ k = omega arith in
    let reads : list_any (reads_equation k) e.args ≡ true = ap (λ (i : ℕ). list_any (reads_equation i) e.args) (sym z) ∙ h in
    or_right (list_any (reads_equation k) operands) (is_read k rest (reached_from operands (suc k) rest)) (is_read_some k rest (reached_from operands (suc k) rest) j e there f reads)
closed_from operands k (d ∷ rest) (suc j) (suc s) e l there f h =
    let z : suc k + s ≡ k + suc s = omega arith in
    closed_from operands (suc k) rest j s e (omega (arith, l)) there f (ap (λ (i : ℕ). list_any (reads_equation i) e.args) z ∙ h)

-- ---- one that counts is an operand, or is read by a later one that counts
pub record Reader (operands : List Operand) (k : ℕ) (rest : List EquationShape) (t s : ℕ) : Type 0 where
  pub j : ℕ
  pub e : EquationShape
  pub later : s < j
  pub there : slice_get rest j ≡ Some e
  pub counts : get_or (reached_from operands k rest) j false ≡ true
  pub reads : list_any (reads_equation t) e.args ≡ true

pub record ReadIn (t : ℕ) (rest : List EquationShape) (flags : List Bool) : Type 0 where
  pub j : ℕ
  pub e : EquationShape
  pub there : slice_get rest j ≡ Some e
  pub counts : get_or flags j false ≡ true
  pub reads : list_any (reads_equation t) e.args ≡ true

read_in : (t : ℕ) (rest : List EquationShape) (flags : List Bool) → is_read t rest flags ≡ true → ReadIn t rest flags
read_in t [] flags h = absurd (grind (arith, h))
read_in t (d ∷ rest) [] h = absurd (grind (arith, h))
read_in t (d ∷ rest) (b ∷ flags) h = elim (or_cases (b && list_any (reads_equation t) d.args) (is_read t rest flags) h) [
  | inl a ↦ (let both = and_parts b (list_any (reads_equation t) d.args) a in record { j = 0; e = d; there = refl; counts = both.0; reads = both.1 })
  | inr a ↦ (let r = read_in t rest flags a in record { j = suc r.j; e = r.e; there = r.there; counts = r.counts; reads = r.reads })
]

reader_of : (operands : List Operand) (k : ℕ) (rest : List EquationShape) (s : ℕ) → get_or (reached_from operands k rest) s false ≡ true → (list_any (reads_equation (k + s)) operands ≡ true) ⊎ Reader operands k rest (k + s) s
reader_of operands k [] s h = absurd (grind (arith, h))
reader_of operands k (d ∷ rest) zero h =
    let z : k ≡ k + 0 = omega arith in
    elim (or_cases (list_any (reads_equation k) operands) (is_read k rest (reached_from operands (suc k) rest)) h) [
      | inl a ↦ inl (ap (λ (i : ℕ). list_any (reads_equation i) operands) (sym z) ∙ a)
      | inr a ↦ (let r = read_in k rest (reached_from operands (suc k) rest) a in inr (record { j = suc r.j; e = r.e; later = omega arith; there = r.there; counts = r.counts; reads = ap (λ (i : ℕ). list_any (reads_equation i) r.e.args) (sym z) ∙ r.reads }))
    ]
reader_of operands k (d ∷ rest) (suc s) h =
    let z : suc k + s ≡ k + suc s = omega arith in
    elim (reader_of operands (suc k) rest s h) [
      | inl a ↦ inl (ap (λ (i : ℕ). list_any (reads_equation i) operands) (sym z) ∙ a)
      | inr r ↦ inr (record { j = suc r.j; e = r.e; later = omega (arith, r.later); there = r.there; counts = r.counts; reads = ap (λ (i : ℕ). list_any (reads_equation i) r.e.args) (sym z) ∙ r.reads })
    ]

-- what operands read counts
pub operand_counts : (operands : List Operand) (k : ℕ) (rest : List EquationShape) (s : ℕ) → s < length rest → list_any (reads_equation (k + s)) operands ≡ true → get_or (reached_from operands k rest) s false ≡ true
operand_counts operands k [] s l h = absurd (omega (arith, l))
operand_counts operands k (d ∷ rest) zero l h =
    let z : k + 0 ≡ k = omega arith in
    or_left (list_any (reads_equation k) operands) (is_read k rest (reached_from operands (suc k) rest)) (ap (λ (i : ℕ). list_any (reads_equation i) operands) (sym z) ∙ h)
operand_counts operands k (d ∷ rest) (suc s) l h =
    let z : suc k + s ≡ k + suc s = omega arith in
    operand_counts operands (suc k) rest s (omega (arith, l)) (ap (λ (i : ℕ). list_any (reads_equation i) operands) z ∙ h)

-- ---- from an equation of a body up to its recurrence
pub record Climbs (equations : List EquationShape) (outputs : List Operand) (rec i : ℕ) : Type 0 where
  pub top : get_or (reached equations outputs) rec false ≡ true
  pub below : get_or (reached equations (Operand.Eq rec ∷ [])) i false ≡ true

climb_by : (equations : List EquationShape) (outputs : List Operand) (rec i : ℕ) → IsFlat equations outputs → rec < length equations → DependsOnPast equations rec i → i ≢ rec → get_or (reached equations outputs) i false ≡ true → ((j : ℕ) → i < j → j < rec → DependsOnPast equations rec j → j ≢ rec → get_or (reached equations outputs) j false ≡ true → Climbs equations outputs rec j) → Climbs equations outputs rec i
climb_by equations outputs rec i flat within dep other f again = elim (reader_of outputs 0 equations i f) [
  | inl a ↦ absurd (no_read outputs (0 + i) i z a (flat.apart rec i dep other).outside)
  | inr r ↦ step r
]
  where
    no_both : (b : Bool) → b ≡ true → b ≡ false → ⊥
    no_both true e f = absurd (grind (arith, f))
    no_both false e f = absurd (grind (arith, e))

    no_read : (xs : List Operand) (s t : ℕ) → s ≡ t → list_any (reads_equation s) xs ≡ true → list_any (reads_equation t) xs ≡ false → ⊥
    no_read xs s t e h n = no_both (list_any (reads_equation t) xs) (ap (λ (k : ℕ). list_any (reads_equation k) xs) (sym e) ∙ h) n

    z : 0 + i ≡ i
    z = omega arith

    zr : 0 + rec ≡ rec
    zr = omega arith

    own : get_or (reached equations (Operand.Eq rec ∷ [])) rec false ≡ true
    own = operand_counts (Operand.Eq rec ∷ []) 0 equations rec within (or_left (nat_eq rec (0 + rec)) false (eq-eqb rec (0 + rec) (sym zr)))

    step : Reader outputs 0 equations (0 + i) i → Climbs equations outputs rec i
    step r = elim (cases_order r.j rec) [
      | inl same ↦ (
          let at : slice_get equations rec ≡ Some r.e = ap (slice_get equations) (sym same) ∙ r.there in
          record {
            top = ap (λ (k : ℕ). get_or (reached equations outputs) k false) (sym same) ∙ r.counts;
            below = closed_from (Operand.Eq rec ∷ []) 0 equations rec i r.e (omega (arith, same, r.later)) at own r.reads;
          })
      | inr differ ↦ elim differ [
        | inl less ↦ (
            let apart : r.j ≢ rec = λ e. absurd (omega (arith, e, less)) in
            let reads : list_any (reads_equation i) r.e.args ≡ true = ap (λ (k : ℕ). list_any (reads_equation k) r.e.args) (sym z) ∙ r.reads in
            let dep' : DependsOnPast equations rec r.j = DependsOnPast.Reads r.j i r.e r.there reads other dep in
            let up = again r.j r.later less dep' apart r.counts in
            record { top = up.top; below = closed_from (Operand.Eq rec ∷ []) 0 equations r.j i r.e r.later r.there up.below r.reads })
        | inr more ↦ absurd (no_read r.e.args (0 + i) i z r.reads ((flat.apart rec i dep other).later r.j r.e r.there more))
      ]
    ]

climb : (fuel : ℕ) (equations : List EquationShape) (outputs : List Operand) (rec i : ℕ) → IsFlat equations outputs → rec < length equations → rec ≤ i + fuel → DependsOnPast equations rec i → i ≢ rec → get_or (reached equations outputs) i false ≡ true → Climbs equations outputs rec i
climb zero equations outputs rec i flat within enough dep other f = climb_by equations outputs rec i flat within dep other f (λ j l g d o c. absurd (omega (arith, enough, l, g)))
climb (suc fuel) equations outputs rec i flat within enough dep other f = climb_by equations outputs rec i flat within dep other f (λ j l g d o c. climb fuel equations outputs rec j flat within (omega (arith, enough, l)) d o c)

-- ---- how far a past is held
max_first : (ns : List ℕ) (m : ℕ) → m ≤ fold max m ns
max_first [] m = omega arith
max_first (n ∷ ns) m = omega (arith, max_first ns (max m n))

max_more : (ns : List ℕ) (m n : ℕ) → m ≤ n → fold max m ns ≤ fold max n ns
max_more [] m n h = h
max_more (k ∷ ns) m n h = max_more ns (max m k) (max n k) (omega (arith, h))

past_within : (args : List Operand) (rec k m : ℕ) → HasPast rec k args → k ≤ fold max m (map (past_read rec) args)
past_within [] rec k m h = absurd h
past_within (a ∷ args) rec k m (inl e) =
    let is : past_read rec a ≡ k = ap (past_read rec) e ∙ ap (λ (t : Bool). if t then k else 0) (eq-eqb rec rec refl) in
    omega (arith, max_first (map (past_read rec) args) (max m (past_read rec a)), is)
past_within (a ∷ args) rec k m (inr h) = past_within args rec k (max m (past_read rec a)) h

held_far : (rec k : ℕ) (rest : List EquationShape) (flags : List Bool) (j : ℕ) (e : EquationShape) → slice_get rest j ≡ Some e → get_or flags j false ≡ true → HasPast rec k e.args → k ≤ greatest_past rec rest flags
held_far rec k [] flags j e there f h = cc
held_far rec k (d ∷ rest) [] j e there f h = absurd (grind (arith, f))
held_far rec k (d ∷ rest) (b ∷ flags) zero e there f h =
    let same : d ≡ e = cc in
    let far : k ≤ greatest (map (past_read rec) d.args) = past_within d.args rec k 0 (subst (λ (x : EquationShape). HasPast rec k x.args) (sym same) h) in
    let P : Bool → Type 0 = λ t. k ≤ max (if t then greatest (map (past_read rec) d.args) else 0) (greatest_past rec rest flags) in
    subst P (sym f) (omega (arith, far))
held_far rec k (d ∷ rest) (b ∷ flags) (suc j) e there f h = omega (arith, held_far rec k rest flags j e there f h)

reads_of_past : (rec k : ℕ) (args : List Operand) → HasPast rec k args → list_any (reads_past rec) args ≡ true
reads_of_past rec k [] h = absurd h
reads_of_past rec k (a ∷ args) (inl e) = or_left (reads_past rec a) (list_any (reads_past rec) args) (ap (reads_past rec) e ∙ eq-eqb rec rec refl)
reads_of_past rec k (a ∷ args) (inr h) = or_right (reads_past rec a) (list_any (reads_past rec) args) (reads_of_past rec k args h)

-- ---- all operands of an equation that counts
pub counts_at : (equations : List EquationShape) (outputs : List Operand) (widths : List ℕ) (t : ℕ) → get_or (reached equations outputs) t false ≡ true → HasUnits (plan_of equations widths outputs) t
counts_at equations outputs widths t f = λ d there. or_right (is_input d.op) (get_or (reached equations outputs) t false) f

past_closed : (equations : List EquationShape) (outputs : List Operand) (rec k i : ℕ) (e : EquationShape) → IsFlat equations outputs → slice_get equations i ≡ Some e → get_or (reached equations outputs) i false ≡ true → rec < length equations → HasPast rec k e.args → (get_or (reached equations outputs) rec false ≡ true) × (k ≤ hold_count equations rec)
past_closed equations outputs rec k i e flat there f within h = elim (cases_Bool (nat_eq i rec)) [
  | inl same ↦ (
      let is : i ≡ rec = eqb-true i rec same in
      let own : get_or (reached equations (Operand.Eq rec ∷ [])) i false ≡ true = ap (λ (j : ℕ). get_or (reached equations (Operand.Eq rec ∷ [])) j false) is ∙ operand_counts (Operand.Eq rec ∷ []) 0 equations rec within (or_left (nat_eq rec (0 + rec)) false (eq-eqb rec (0 + rec) zr)) in
      (ap (λ (j : ℕ). get_or (reached equations outputs) j false) (sym is) ∙ f, far own))
  | inr differ ↦ (
      let other : i ≢ rec = eqb-false i rec differ in
      let up = climb rec equations outputs rec i flat within (omega arith) (DependsOnPast.ReadsPast i e there (reads_of_past rec k e.args h)) other f in
      (up.top, far up.below))
]
  where
    zr : rec ≡ 0 + rec
    zr = omega arith

    far : get_or (reached equations (Operand.Eq rec ∷ [])) i false ≡ true → k ≤ hold_count equations rec
    far c = omega (arith, held_far rec k equations (reached equations (Operand.Eq rec ∷ [])) i e there c h)

closed_args : (equations : List EquationShape) (outputs : List Operand) (widths : List ℕ) (i : ℕ) (e : EquationShape) → IsFlat equations outputs → slice_get equations i ≡ Some e → get_or (reached equations outputs) i false ≡ true → (xs : List Operand) → ((t : ℕ) → list_any (reads_equation t) xs ≡ true → list_any (reads_equation t) e.args ≡ true) → ((rec k : ℕ) → HasPast rec k xs → HasPast rec k e.args) → list_all (is_lawful_operand equations i) xs ≡ true → AllClosed (HasUnits (plan_of equations widths outputs)) (hold_count equations) xs
closed_args equations outputs widths i e flat there f [] reads pasts l = tt
closed_args equations outputs widths i e flat there f (a ∷ xs) reads pasts l =
    let both = and_parts (is_lawful_operand equations i a) (list_all (is_lawful_operand equations i) xs) l in
    (one a refl both.0, closed_args equations outputs widths i e flat there f xs (λ t h. reads t (or_right (reads_equation t a) (list_any (reads_equation t) xs) h)) (λ rec k h. pasts rec k (inr h)) both.1)
  where
    one : (b : Operand) → a ≡ b → is_lawful_operand equations i a ≡ true → IsClosed (HasUnits (plan_of equations widths outputs)) (hold_count equations) a
    one (Operand.Const c) is h = subst (IsClosed (HasUnits (plan_of equations widths outputs)) (hold_count equations)) (sym is) tt
    one (Operand.Eq t) is h =
        let less : t < i = ltb-true t i (ap (is_lawful_operand equations i) (sym is) ∙ h) in
        let head : list_any (reads_equation t) e.args ≡ true = reads t (or_left (reads_equation t a) (list_any (reads_equation t) xs) (ap (reads_equation t) is ∙ eq-eqb t t refl)) in
        let z : t ≡ 0 + t = omega arith in
        let c : get_or (reached equations outputs) t false ≡ true = closed_from outputs 0 equations i t e less there f (ap (λ (k : ℕ). list_any (reads_equation k) e.args) (sym z) ∙ head) in
        subst (IsClosed (HasUnits (plan_of equations widths outputs)) (hold_count equations)) (sym is) (counts_at equations outputs widths t c)
    one (Operand.Past rec k) is h =
        let p : PastOf equations i rec = past_of equations i rec k (ap (is_lawful_operand equations i) (sym is) ∙ h) in
        let c = past_closed equations outputs rec k i e flat there f (slice_get_within equations rec p.equation p.there) (pasts rec k (inl is)) in
        subst (IsClosed (HasUnits (plan_of equations widths outputs)) (hold_count equations)) (sym is) (counts_at equations outputs widths rec c.0, c.1)

pub plan_closed : (equations : List EquationShape) (outputs : List Operand) (widths : List ℕ) → IsFlat equations outputs → IsClosedPlan (plan_of equations widths outputs)
plan_closed equations outputs widths flat = record { closed = λ i e there m. by_op i e there e.op refl (m e there) }
  where
    by_op : (i : ℕ) (e : EquationShape) → slice_get equations i ≡ Some e → (op : Op) → e.op ≡ op → (is_input e.op || get_or (reached equations outputs) i false) ≡ true → AllClosed (HasUnits (plan_of equations widths outputs)) (hold_count equations) e.args
    by_op i e there Op.Input is h = none e.args (flat.args i e there ∙ ap arity is)
      where
        none : (xs : List Operand) → length xs ≡ 0 → AllClosed (HasUnits (plan_of equations widths outputs)) (hold_count equations) xs
        none [] l = tt
        none (a ∷ xs) l = absurd (omega (arith, l))
    by_op i e there op is h =
        let f : get_or (reached equations outputs) i false ≡ true = ap (λ (t : Bool). t || get_or (reached equations outputs) i false) (sym (ap is_input is)) ∙ h in
        closed_args equations outputs widths i e flat there f e.args (λ t x. x) (λ rec k x. x) (flat.operands i e there)
