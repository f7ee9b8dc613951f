-- What can be reached by shares is what has units in the net, and a recurrence is as deep.
use Rattle.std.proofs.Common.{◌≡◌, ◌≢◌, ◌<◌, ◌≤◌, ℕ, zero, suc, ◌+◌, ◌&&◌, ◌||◌, Bool, true, false, Some, max, List, [], ◌∷◌, length, map, get_or, refl, subst, sym, ap, ◌∙◌, arith, inl, inr, nat_eq, nat_lt}
use Rattle.std.specs.Prelude.{fold}
use Rattle.std.specs.Bool.{if◌then◌else◌}
use Rattle.std.specs.List.{slice_get, list_any, list_all, Contains}
use Rattle.std.proofs.lemmas.Bool.{or_cases, or_left, or_right, and_parts, eqb-true, eq-eqb, ltb-true, false≢true, cases_lt}
use Rattle.std.proofs.lemmas.Bool.Decides.{nat_tests}
use Rattle.std.proofs.lemmas.Option.{slice_get_within}
use Rattle.pr_net.proofs.Lists.{any_found, all_pass}
use Rattle.pr_flat.specs.declared.equations.Operand.{Operand}
use Rattle.pr_flat.specs.declared.equations.Operand.TheVariants.{Const, Eq, Past}
use Rattle.pr_flat.specs.declared.equations.Op.TheVariants.{Rec}
use Rattle.pr_flat.specs.Shape.{EquationShape}
use Rattle.pr_flat.specs.Facts.{is_rec, is_lawful_operand, is_lawful_output, reads_equation, reads_past, DependsOnPast, IsFlat}
use Rattle.pr_flat.proofs.WidthLemmas.{past_of, equation_at}
use Rattle.pr_cut_units.specs.Reached.{reached_from, reached, past_read, greatest_past, hold_count}
use Rattle.pr_cut_units.proofs.ReachedLaws.{reached_split, reached_by, past_held}
use Rattle.pr_narrow.specs.Counts.{IsReached, ByOutput, ByReader, is_past, IsDepth}

-- an equation that is read is an earlier one
earlier : (equations : List EquationShape) (j i : ℕ) (args : List Operand) → list_all (is_lawful_operand equations j) args ≡ true → list_any (reads_equation i) args ≡ true → i < j
earlier equations j i args lawful reads = let found = any_found (reads_equation i) args reads in one found.0 (all_pass (is_lawful_operand equations j) args lawful found.0 found.1) found.2 where
  one : (b : Operand) → is_lawful_operand equations j b ≡ true → reads_equation i b ≡ true → i < j
  one (Const c) l t = absurd (false≢true t)
  one (Eq m) l t = let e = eqb-true m i t in let q = ltb-true m j l in omega (arith, e, q)
  one (Past rec k) l t = absurd (false≢true t)

-- what has units can be reached
pub reached_is : (equations : List EquationShape) (operands outputs : List Operand) → IsFlat equations outputs → (n i : ℕ) → length equations ≤ i + n → get_or (reached equations operands) i false ≡ true → IsReached equations operands i
reached_is equations operands outputs flat zero i few flag = elim (reached_split operands 0 equations i flag) [
  | inl given ↦ ByOutput i (let z : 0 + i ≡ i = omega arith in subst (λ (m : ℕ). list_any (reads_equation m) operands ≡ true) z given)
  | inr r ↦ (let z : 0 + i ≡ i = omega arith in
      let low = earlier equations r.number i r.equation.args (flat.operands r.number r.equation r.there) (subst (λ (m : ℕ). list_any (reads_equation m) r.equation.args ≡ true) z r.reads) in
      let within = slice_get_within equations r.number r.equation r.there in
      absurd (omega (arith, low, within, few)))
]
reached_is equations operands outputs flat (suc n) i few flag = elim (reached_split operands 0 equations i flag) [
  | inl given ↦ ByOutput i (let z : 0 + i ≡ i = omega arith in subst (λ (m : ℕ). list_any (reads_equation m) operands ≡ true) z given)
  | inr r ↦ (let z : 0 + i ≡ i = omega arith in
      let reads = subst (λ (m : ℕ). list_any (reads_equation m) r.equation.args ≡ true) z r.reads in
      let low = earlier equations r.number i r.equation.args (flat.operands r.number r.equation r.there) reads in
      ByReader i r.number r.equation r.there (or_left (list_any (reads_equation i) r.equation.args) (list_any (reads_past i) r.equation.args) reads) (reached_is equations operands outputs flat n r.number (omega (arith, low, few)) r.counts))
]

-- ---- and the other way
itself : (operands : List Operand) (k : ℕ) (es : List EquationShape) (j : ℕ) (d : EquationShape) → slice_get es j ≡ Some d → list_any (reads_equation (k + j)) operands ≡ true → get_or (reached_from operands k es) j false ≡ true
itself operands k [] j d there given = cc
itself operands k (e ∷ es) zero d there given = let z : k + 0 ≡ k = omega arith in or_left (list_any (reads_equation k) operands) _ (subst (λ (n : ℕ). list_any (reads_equation n) operands ≡ true) z given)
itself operands k (e ∷ es) (suc j) d there given = let z : k + suc j ≡ suc k + j = omega arith in itself operands (suc k) es j d there (subst (λ (n : ℕ). list_any (reads_equation n) operands ≡ true) z given)

output_within : (count i : ℕ) (outputs : List Operand) → list_all (is_lawful_output count) outputs ≡ true → list_any (reads_equation i) outputs ≡ true → i < count
output_within count i outputs lawful reads = let found = any_found (reads_equation i) outputs reads in one found.0 (all_pass (is_lawful_output count) outputs lawful found.0 found.1) found.2 where
  one : (b : Operand) → is_lawful_output count b ≡ true → reads_equation i b ≡ true → i < count
  one (Const c) l t = absurd (false≢true t)
  one (Eq m) l t = let e = eqb-true m i t in let q = ltb-true m count l in omega (arith, e, q)
  one (Past rec k) l t = absurd (false≢true t)

-- the past that an equation reads
record HasPast (args : List Operand) (rec : ℕ) : Type 0 where
  depth : ℕ
  there : Contains args (Past rec depth)

past_there : (args : List Operand) (rec : ℕ) → list_any (reads_past rec) args ≡ true → HasPast args rec
past_there args rec reads = let found = any_found (reads_past rec) args reads in one found.0 found.1 found.2 where
  one : (b : Operand) → Contains args b → reads_past rec b ≡ true → HasPast args rec
  one (Const c) at t = absurd (false≢true t)
  one (Eq m) at t = absurd (false≢true t)
  one (Past r m) at t = let same : r ≡ rec = eqb-true r rec t in record { depth = m; there = subst (λ (x : ℕ). Contains args (Past x m)) same at }

pub has_units : (equations : List EquationShape) (operands : List Operand) (i : ℕ) → IsFlat equations operands → IsReached equations operands i → get_or (reached equations operands) i false ≡ true
has_units equations operands i flat (ByOutput k given) =
    let found = equation_at equations k (output_within (length equations) k operands flat.given given) in
    itself operands 0 equations k found.0 found.1 (let z : k ≡ 0 + k = omega arith in subst (λ (n : ℕ). list_any (reads_equation n) operands ≡ true) z given)
has_units equations operands i flat (ByReader k j e there reads before) =
    let flag = has_units equations operands j flat before in
    elim (or_cases (list_any (reads_equation k) e.args) (list_any (reads_past k) e.args) reads) [
      | inl now ↦ (let z : k ≡ 0 + k = omega arith in reached_by operands 0 equations k j e (earlier equations j k e.args (flat.operands j e there) now) there flag (subst (λ (n : ℕ). list_any (reads_equation n) e.args ≡ true) z now))
      | inr past ↦ (let p = past_there e.args k past in (past_held equations operands k p.depth j e flat there flag p.there).recurrence)
    ]

-- ---- a recurrence as the only output
-- where the past of a recurrence is read is its body
past_within : (equations : List EquationShape) (n rec k : ℕ) → is_lawful_operand equations n (Past rec k) ≡ true → (init first : ℕ) (d : EquationShape) → slice_get equations rec ≡ Some d → d.op ≡ Rec init first → (first ≤ n) × (n ≤ rec)
past_within equations n rec k lawful init first d is op =
    let p = past_of equations n rec k lawful in
    let same : d ≡ p.equation = (let e : Some d ≡ Some p.equation = sym is ∙ p.there in cc) in
    let one : Rec init first ≡ Rec p.init p.first = sym op ∙ ap (λ (x : EquationShape). x.op) same ∙ p.op in
    let equal : first ≡ p.first = cc in
    (omega (arith, equal, p.low), p.high)

-- what depends on the past of a recurrence stands in its body or after it
body_low : (equations : List EquationShape) (outputs : List Operand) (rec i : ℕ) → IsFlat equations outputs → (init first : ℕ) (d : EquationShape) → slice_get equations rec ≡ Some d → d.op ≡ Rec init first → DependsOnPast equations rec i → first ≤ i
body_low equations outputs rec i flat init first d is op (DependsOnPast.ReadsPast n e there reads) =
    let p = past_there e.args rec reads in
    (past_within equations n rec p.depth (all_pass (is_lawful_operand equations n) e.args (flat.operands n e there) (Past rec p.depth) p.there) init first d is op).0
body_low equations outputs rec i flat init first d is op (DependsOnPast.Reads n j e there reads other before) =
    let low = earlier equations n j e.args (flat.operands n e there) reads in
    let more = body_low equations outputs rec j flat init first d is op before in
    omega (arith, low, more)

-- the recurrence on the past of which an equation depends
record IsRec (equations : List EquationShape) (rec : ℕ) : Type 0 where
  init : ℕ
  first : ℕ
  equation : EquationShape
  there : slice_get equations rec ≡ Some equation
  op : equation.op ≡ Rec init first

recurrence_of : (equations : List EquationShape) (outputs : List Operand) (rec i : ℕ) → IsFlat equations outputs → DependsOnPast equations rec i → IsRec equations rec
recurrence_of equations outputs rec i flat (DependsOnPast.ReadsPast n e there reads) =
    let p = past_there e.args rec reads in
    let q = past_of equations n rec p.depth (all_pass (is_lawful_operand equations n) e.args (flat.operands n e there) (Past rec p.depth) p.there) in
    record { init = q.init; first = q.first; equation = q.equation; there = q.there; op = q.op }
recurrence_of equations outputs rec i flat (DependsOnPast.Reads n j e there reads other before) = recurrence_of equations outputs rec j flat before

-- a recurrence does not depend on the past of another, but through that other
alone_rec : (equations : List EquationShape) (outputs : List Operand) (rec other : ℕ) (e : EquationShape) → IsFlat equations outputs → slice_get equations rec ≡ Some e → is_rec e.op ≡ true → DependsOnPast equations other rec → rec ≢ other → ⊥
alone_rec equations outputs rec other e flat there is dep apart = by_dep dep where
  -- the recurrence does not stand in another's body
  no_body : (r first init : ℕ) (d : EquationShape) → slice_get equations r ≡ Some d → d.op ≡ Rec init first → first ≤ rec → rec < r → ⊥
  no_body r first init d at op low high = false≢true (sym ((flat.bodies r d at init first op).alone rec e there low high) ∙ is)

  by_dep : DependsOnPast equations other rec → ⊥
  by_dep (DependsOnPast.ReadsPast n x at reads) =
      let p = past_there x.args other reads in
      let q = past_of equations rec other p.depth (all_pass (is_lawful_operand equations rec) x.args (flat.operands rec x at) (Past other p.depth) p.there) in
      no_body other q.first q.init q.equation q.there q.op q.low (omega (arith, q.high, apart))
  by_dep (DependsOnPast.Reads n j x at reads not before) =
      let source = recurrence_of equations outputs other j flat before in
      let low = body_low equations outputs other j flat source.init source.first source.equation source.there source.op before in
      let order = earlier equations rec j x.args (flat.operands rec x at) reads in
      elim (cases_lt rec other) [
        | inl less ↦ no_body other source.first source.init source.equation source.there source.op (omega (arith, low, order)) less
        | inr more ↦ false≢true (sym ((flat.apart other j before not).later rec x at (omega (arith, more, apart))) ∙ reads)
      ]

rec_flat : (equations : List EquationShape) (outputs : List Operand) (rec : ℕ) (e : EquationShape) → IsFlat equations outputs → slice_get equations rec ≡ Some e → is_rec e.op ≡ true → IsFlat equations (Eq rec ∷ [])
rec_flat equations outputs rec e flat there is = record {
  few = flat.few;
  input = flat.input;
  output = omega arith;
  args = flat.args;
  kinds = flat.kinds;
  numbers = flat.numbers;
  widths = flat.widths;
  ends = flat.ends;
  constants = flat.constants;
  operands = flat.operands;
  given = (let low = slice_get_within equations rec e there in let one : nat_lt rec (length equations) ≡ true = grind (arith, nat_tests) in ap (λ b. b && true) one);
  bodies = flat.bodies;
  apart = λ r i dep other. record { later = (flat.apart r i dep other).later; outside = not_read r i dep other };
} where
  not_read : (r i : ℕ) → DependsOnPast equations r i → i ≢ r → list_any (reads_equation i) (Eq rec ∷ []) ≡ false
  not_read r i dep other = by_test (nat_eq rec i) refl where
    by_test : (b : Bool) → nat_eq rec i ≡ b → (nat_eq rec i || false) ≡ false
    by_test false same = ap (λ t. t || false) same
    by_test true same =
        let equal : i ≡ rec = sym (eqb-true rec i same) in
        absurd (alone_rec equations outputs rec r e flat there is (subst (λ (m : ℕ). DependsOnPast equations r m) equal dep) (λ z. other (equal ∙ z)))

-- ---- how deep a recurrence is
past_is : (rec k : ℕ) (args : List Operand) → list_any (is_past rec k) args ≡ true → Contains args (Past rec k)
past_is rec k args reads = let found = any_found (is_past rec k) args reads in one found.0 found.1 found.2 where
  one : (b : Operand) → Contains args b → is_past rec k b ≡ true → Contains args (Past rec k)
  one (Const c) at t = absurd (false≢true t)
  one (Eq m) at t = absurd (false≢true t)
  one (Past r m) at t =
      let p = and_parts (nat_eq r rec) (nat_eq m k) t in
      let one_is : r ≡ rec = eqb-true r rec p.0 in
      let other_is : m ≡ k = eqb-true m k p.1 in
      subst (λ (y : ℕ). Contains args (Past rec y)) other_is (subst (λ (x : ℕ). Contains args (Past x m)) one_is at)

-- the greatest past of operands is at most what each is
operands_most : (rec n m : ℕ) (args : List Operand) → m ≤ n → ((k : ℕ) → list_any (is_past rec k) args ≡ true → k ≤ n) → fold max m (map (past_read rec) args) ≤ n
operands_most rec n m [] low all = low
operands_most rec n m (a ∷ args) low all = operands_most rec n (max m (past_read rec a)) args (let one = here a (λ k is. all k (or_left (is_past rec k a) (list_any (is_past rec k) args) is)) in omega (arith, low, one)) (λ k is. all k (or_right (is_past rec k a) (list_any (is_past rec k) args) is)) where
  here : (b : Operand) → ((k : ℕ) → is_past rec k b ≡ true → k ≤ n) → past_read rec b ≤ n
  here (Const c) most = omega arith
  here (Eq i) most = omega arith
  here (Past r k) most = by_test (nat_eq r rec) refl where
    by_test : (b : Bool) → nat_eq r rec ≡ b → (if nat_eq r rec then k else 0) ≤ n
    by_test true is = let whole = most k (ap (λ t. t && nat_eq k k) is ∙ eq-eqb k k refl) in let e : (if nat_eq r rec then k else 0) ≡ k = ap (λ t. if t then k else 0) is in omega (arith, whole, e)
    by_test false is = let e : (if nat_eq r rec then k else 0) ≡ 0 = ap (λ t. if t then k else 0) is in omega (arith, e)

past_most : (rec n : ℕ) (es : List EquationShape) (flags : List Bool) → ((j k : ℕ) (e : EquationShape) → slice_get es j ≡ Some e → get_or flags j false ≡ true → list_any (is_past rec k) e.args ≡ true → k ≤ n) → greatest_past rec es flags ≤ n
past_most rec n [] flags all = omega arith
past_most rec n (e ∷ es) [] all = omega arith
past_most rec n (e ∷ es) (false ∷ flags) all = let rest = past_most rec n es flags (λ j k d there flag is. all (suc j) k d there flag is) in omega (arith, rest)
past_most rec n (e ∷ es) (true ∷ flags) all =
    let rest = past_most rec n es flags (λ j k d there flag is. all (suc j) k d there flag is) in
    let one = operands_most rec n 0 e.args (omega arith) (λ k is. all 0 k e refl refl is) in
    omega (arith, rest, one)

pub hold_depth : (equations : List EquationShape) (outputs : List Operand) (rec : ℕ) (e : EquationShape) → IsFlat equations outputs → slice_get equations rec ≡ Some e → is_rec e.op ≡ true → IsDepth equations rec (hold_count equations rec)
hold_depth equations outputs rec e flat there is =
    let only = rec_flat equations outputs rec e flat there is in
    record {
      positive = omega arith;
      holds = λ j k x reached_j at reads. (past_held equations (Eq rec ∷ []) rec k j x only at (has_units equations (Eq rec ∷ []) j only reached_j) (past_is rec k x.args reads)).held;
      least = λ n some all. (let most = past_most rec n equations (reached equations (Eq rec ∷ [])) (λ j k x at flag reads. all j k x (reached_is equations (Eq rec ∷ []) outputs flat (length equations) j (omega arith) flag) at reads) in omega (arith, some, most));
    }
