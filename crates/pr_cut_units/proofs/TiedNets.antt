-- What a unit reads of a state is of its own group, where groups are in order.
use Rattle.std.proofs.Common.{◌≡◌, ◌<◌, ◌≤◌, ℕ, zero, suc, ◌+◌, ◌-◌, ◌&&◌, ◌||◌, Bool, true, false, max, Some, List, [], ◌∷◌, ◌++◌, length, take, get_or, refl, subst, sym, ap, ◌∙◌, arith, inl, inr}
use Rattle.std.specs.Prelude.{slice_index, slice_index_or, count_by}
use Rattle.std.specs.Bool.{if◌then◌else◌}
use Rattle.std.specs.List.{slice_get, Contains, sum}
use Rattle.std.proofs.lemmas.Bool.{cases_lt, or_cases, and_from, false≢true}
use Rattle.std.proofs.lemmas.List.Sums.{sum_by-cons}
use Rattle.pr_flat.specs.declared.equations.Operand.{Operand}
use Rattle.pr_flat.specs.declared.equations.Op.{Op}
use Rattle.pr_flat.specs.Shape.{EquationShape}
use Rattle.pr_flat.specs.Facts.{is_input, is_rec}
use Rattle.pr_flat.specs.Widths.{forms_in}
use Rattle.pr_cut_units.specs.Counts.{body_count}
use Rattle.pr_cut_units.specs.Reached.{hold_count}
use Rattle.pr_cut_units.specs.Equations.{UnitPlan, plan_of, own_count, counts_from, first_unit, hold_unit, has_units}
use Rattle.pr_cut_units.specs.Nets.{holds_from}
use Rattle.pr_cut_units.specs.Groups.{Holds}
use Rattle.pr_flat.specs.Facts.{IsFlat}
use Rattle.pr_flat.specs.Widths.{AreWidths}
use Rattle.pr_flat.proofs.WidthLemmas.{one_equation}
use Rattle.std.proofs.Common.{length-append}
use Rattle.std.proofs.lemmas.List.{length-take, get_or-take, get_or-append_right}
use Rattle.std.proofs.lemmas.List.Elements.{Contains-get_or}
use Rattle.std.proofs.lemmas.List.FromFn.{length-map-range_with_len, get_or-map-range_with_len}
use Rattle.pr_net.specs.declared.cells.Cell.{Cell}
use Rattle.pr_net.specs.Shape.{cells_of}
use Rattle.pr_net.specs.Nets.{group_of as unit_group}
use Rattle.pr_cut_units.specs.Parts.{each}
use Rattle.pr_cut_units.specs.Groups.{tied_from, group_of, group_number, groups_of}
use Rattle.pr_cut_units.specs.Nets.{net_of}
use Rattle.pr_cut_units.proofs.GroupLists.{hold_member, reader_member, group_stands, same_group}
use Rattle.pr_cut_units.proofs.NetLawful.{IsTied, IsGrouped}
use Rattle.pr_cut_units.proofs.NoRecurrences.{size_within}
use Rattle.pr_cut_units.proofs.CountNets.{count_whole}
use Rattle.pr_cut_units.proofs.WideNets.{are_counted}
use Rattle.pr_net.proofs.Lists.{at_head, in_tail}
use Rattle.pr_cut_units.proofs.StateNets.{hold_is, ReadBy}

-- ---- positions
pub sum_upto : (xs : List ℕ) (i m : ℕ) → i < m → sum (take i xs) + get_or xs i 0 ≤ sum (take m xs)
sum_upto [] i zero l = absurd (omega (arith, l))
sum_upto [] zero (suc m) l = omega arith
sum_upto [] (suc i) (suc m) l = omega arith
sum_upto (x ∷ xs) i zero l = absurd (omega (arith, l))
sum_upto (x ∷ xs) zero (suc m) l = omega (arith, sum_by-cons (λ (k : ℕ). k) x (take m xs))
sum_upto (x ∷ xs) (suc i) (suc m) l = omega (arith, sum_upto xs i m (omega (arith, l)), sum_by-cons (λ (k : ℕ). k) x (take m xs), sum_by-cons (λ (k : ℕ). k) x (take i xs))

sum_whole : (xs : List ℕ) (i : ℕ) → sum (take i xs) + get_or xs i 0 ≤ sum xs
sum_whole [] zero = omega arith
sum_whole [] (suc i) = omega arith
sum_whole (x ∷ xs) zero = omega (arith, sum_by-cons (λ (k : ℕ). k) x xs)
sum_whole (x ∷ xs) (suc i) = omega (arith, sum_whole xs i, sum_by-cons (λ (k : ℕ). k) x xs, sum_by-cons (λ (k : ℕ). k) x (take i xs))

counts_at : (equations : List EquationShape) (widths : List ℕ) (k : ℕ) (es : List EquationShape) (flags : List Bool) (i : ℕ) (e : EquationShape) → slice_get es i ≡ Some e → slice_index_or flags i false ≡ true → get_or (counts_from equations widths k es flags) i 0 ≡ own_count equations widths (k + i) e e.op
counts_at equations widths k [] flags i e there h = cc
counts_at equations widths k (d ∷ es) [] i e there h = absurd (false≢true h)
counts_at equations widths k (d ∷ es) (b ∷ flags) zero e there h =
    let same : d ≡ e = cc in
    let z : k ≡ k + 0 = omega arith in
    ap (λ (t : Bool). if t then own_count equations widths k d d.op else 0) h ∙ ap (λ (x : EquationShape). own_count equations widths k x x.op) same ∙ ap (λ (n : ℕ). own_count equations widths n e e.op) z
counts_at equations widths k (d ∷ es) (b ∷ flags) (suc i) e there h =
    let z : suc k + i ≡ k + suc i = omega arith in
    counts_at equations widths (suc k) es flags i e there h ∙ ap (λ (n : ℕ). own_count equations widths n e e.op) z

no_own : (equations : List EquationShape) (widths : List ℕ) (i : ℕ) (e : EquationShape) (op : Op) → is_input op ≡ true → own_count equations widths i e op ≡ 0
no_own equations widths i e Op.Input h = refl
no_own equations widths i e op h = absurd (false≢true h)

own_counted : (equations : List EquationShape) (widths : List ℕ) (outputs : List Operand) (i : ℕ) (e : EquationShape) → slice_get equations i ≡ Some e → has_units (plan_of equations widths outputs) i e ≡ true → own_count equations widths i e e.op ≤ get_or (plan_of equations widths outputs).counts i 0
own_counted equations widths outputs i e there h =
    let plan = plan_of equations widths outputs in
    elim (or_cases (is_input e.op) (slice_index_or plan.reached i false) h) [
      | inl q ↦ (let n = no_own equations widths i e e.op q in omega (arith, n))
      | inr q ↦ (let n = counts_at equations widths 0 equations plan.reached i e there q in let z : 0 + i ≡ i = omega arith in let m = ap (λ (k : ℕ). own_count equations widths k e e.op) z in omega (arith, n, m))
    ]

-- the units of an equation stand before those of a later one
pub first_later : (equations : List EquationShape) (widths : List ℕ) (outputs : List Operand) (i m : ℕ) (e : EquationShape) → slice_get equations i ≡ Some e → has_units (plan_of equations widths outputs) i e ≡ true → i < m → first_unit (plan_of equations widths outputs) i + own_count equations widths i e e.op ≤ first_unit (plan_of equations widths outputs) m
first_later equations widths outputs i m e there h l =
    let plan = plan_of equations widths outputs in
    let a = own_counted equations widths outputs i e there h in
    let b = sum_upto plan.counts i m l in
    omega (arith, a, b)

pub own_rec : (equations : List EquationShape) (widths : List ℕ) (i init first : ℕ) (e : EquationShape) (op : Op) → op ≡ Op.Rec init first → own_count equations widths i e op ≡ body_count (slice_index widths i) (forms_in widths e) + hold_count equations i
own_rec equations widths i init first e (Op.Rec x y) h = refl
own_rec equations widths i init first e op h = cc

-- all hold units stand among the units that are counted
pub holds_end : (equations : List EquationShape) (widths : List ℕ) (outputs : List Operand) (i init first : ℕ) (e : EquationShape) → slice_get equations i ≡ Some e → e.op ≡ Op.Rec init first → slice_index_or (plan_of equations widths outputs).reached i false ≡ true
    → hold_unit (plan_of equations widths outputs) i + hold_count equations i ≤ count_by (λ (e : EquationShape). is_input e.op) equations + sum (plan_of equations widths outputs).counts
holds_end equations widths outputs i init first e there op r =
    let plan = plan_of equations widths outputs in
    let z : 0 + i ≡ i = omega arith in
    let n = counts_at equations widths 0 equations plan.reached i e there r in
    let m = ap (λ (k : ℕ). own_count equations widths k e e.op) z in
    let o = own_rec equations widths i init first e e.op op in
    let b = sum_whole plan.counts i in
    let h = hold_is plan i e there in
    omega (arith, n, m, o, b, h)

-- a recurrence that is reached has a group
pub holds_there : (plan : UnitPlan) (k : ℕ) (es : List EquationShape) (flags : List Bool) (i : ℕ) (e : EquationShape) → slice_get es i ≡ Some e → is_rec e.op ≡ true → slice_index_or flags i false ≡ true → Contains (holds_from plan k es flags) (record { first = hold_unit plan (k + i); count = hold_count plan.equations (k + i) })
holds_there plan k [] flags i e there op h = cc
holds_there plan k (d ∷ es) [] i e there op h = absurd (false≢true h)
holds_there plan k (d ∷ es) (b ∷ flags) zero e there op h =
    let same : d ≡ e = cc in
    let z : k ≡ k + 0 = omega arith in
    let t : (b && is_rec d.op) ≡ true = and_from b (is_rec d.op) h (ap (λ (x : EquationShape). is_rec x.op) same ∙ op) in
    let one : Holds = record { first = hold_unit plan k; count = hold_count plan.equations k } in
    subst (λ (n : ℕ). Contains (holds_from plan k (d ∷ es) (b ∷ flags)) (record { first = hold_unit plan n; count = hold_count plan.equations n })) z
    (subst (λ (c : Bool). Contains (if c then one ∷ holds_from plan (suc k) es flags else holds_from plan (suc k) es flags) one) (sym t) (at_head one (holds_from plan (suc k) es flags)))
holds_there plan k (d ∷ es) (b ∷ flags) (suc i) e there op h =
    let z : suc k + i ≡ k + suc i = omega arith in
    let x : Holds = record { first = hold_unit plan (k + suc i); count = hold_count plan.equations (k + suc i) } in
    let ih : Contains (holds_from plan (suc k) es flags) x = subst (λ (n : ℕ). Contains (holds_from plan (suc k) es flags) (record { first = hold_unit plan n; count = hold_count plan.equations n })) z (holds_there plan (suc k) es flags i e there op h) in
    go (b && is_rec d.op) x ih
  where
    go : (c : Bool) (x : Holds) → Contains (holds_from plan (suc k) es flags) x → Contains (if c then record { first = hold_unit plan k; count = hold_count plan.equations k } ∷ holds_from plan (suc k) es flags else holds_from plan (suc k) es flags) x
    go true x m = in_tail _ x (holds_from plan (suc k) es flags) m
    go false x m = m

-- ---- the group of a recurrence
pub last_number : (xs : List ℕ) (n a : ℕ) → 1 ≤ n → group_number (xs ++ each n (λ j. a + j)) ≡ a + (n - 1)
last_number xs n a some =
    let f = λ (j : ℕ). a + j in
    let long : length (each n f) ≡ n = length-map-range_with_len f 0 n in
    let whole : length (xs ++ each n f) ≡ length xs + length (each n f) = length-append xs (each n f) in
    let at : length (xs ++ each n f) - 1 - length xs ≡ n - 1 = omega (arith, whole, long, some) in
    get_or-append_right xs (each n f) (length xs) (length (xs ++ each n f) - 1) 0 refl (omega (arith, whole, long, some))
    ∙ ap (λ (k : ℕ). get_or (each n f) k 0) at ∙ get_or-map-range_with_len f 0 n (n - 1) (n - 1) 0 (omega (arith, some)) (omega arith)

some_held : (n : ℕ) → 1 ≤ max 1 n
some_held n = omega arith

-- where a group of hold units stands
pub stands_there : (units : List (List Cell)) (all : List Holds) (holds : Holds) → Contains all holds → 1 ≤ holds.count → holds.first + holds.count ≤ length units → Contains (groups_of units all) (group_of units holds)
stands_there units all holds c some l =
    let f = λ (j : ℕ). holds.first + j in
    let long : length (each holds.count f) ≡ holds.count = length-map-range_with_len f 0 holds.count in
    let tied = tied_from holds [] 0 (take holds.first units) in
    let n = last_number tied holds.count holds.first some in
    group_stands units all holds c (omega (arith, length-append tied (each holds.count f), long, some)) (omega (arith, n, l, some))

rec_reached : (b : Bool) (op : Op) (init first : ℕ) → op ≡ Op.Rec init first → (is_input op || b) ≡ true → b ≡ true
rec_reached b (Op.Rec x y) init first q h = h
rec_reached b op init first q h = cc

-- what a cell reads of a state that its unit may read is of its unit's group
pub are_tied : (equations : List EquationShape) (widths : List ℕ) (outputs : List Operand) → IsFlat equations outputs → AreWidths equations widths → IsGrouped (net_of equations widths outputs) → IsTied (net_of equations widths outputs) (ReadBy (λ v. length (cells_of (net_of equations widths outputs) v)) (plan_of equations widths outputs))
unfolding net_of
are_tied equations widths outputs flat wide g =
    let plan = plan_of equations widths outputs in
    let net = net_of equations widths outputs in
    let all = holds_from plan 0 equations plan.reached in
    let counted : length net.units ≡ count_by (λ (e : EquationShape). is_input e.op) equations + sum plan.counts = count_whole equations widths outputs (are_counted equations outputs widths flat wide) in
    let of = λ (rec : ℕ). (let h : Holds = record { first = hold_unit plan rec; count = hold_count equations rec } in h) in
    let stands : (rec init first : ℕ) (d : EquationShape) → slice_get equations rec ≡ Some d → d.op ≡ Op.Rec init first → slice_index_or plan.reached rec false ≡ true → Contains net.groups (group_of net.units (of rec)) = λ rec init first d there op r.
    (let z : 0 + rec ≡ rec = omega arith in
    let here : Contains all (of rec) = subst (λ (n : ℕ). Contains all (record { first = hold_unit plan n; count = hold_count equations n })) z (holds_there plan 0 equations plan.reached rec d there (ap is_rec op) r) in
    let end = holds_end equations widths outputs rec init first d there op r in
    stands_there net.units all (of rec) here (some_held _) (omega (arith, end, counted))) in
    record {
      at = λ u i v j d lu li m r. elim r [
        | inl s ↦
            (let hold = s.state.hold in
            let rec = s.state.rec in
            let there = stands rec hold.init hold.first hold.equation hold.there hold.op hold.reached in
            let member_v : Contains (group_of net.units (of rec)) v = subst (λ (n : ℕ). Contains (group_of net.units (of rec)) n) (sym hold.is) (hold_member net.units (of rec) hold.place hold.held) in
            let low : hold_unit plan rec ≤ v = (let q = hold.is in omega (arith, q)) in
            let high : v < hold_unit plan rec + hold_count equations rec = (let q = hold.is in let k = hold.held in omega (arith, q, k)) in
            let member_u : Contains (group_of net.units (of rec)) u = elim (cases_lt u (hold_unit plan rec)) [
              | inl a ↦
                  (let same : get_or (take (hold_unit plan rec) net.units) u [] ≡ cells_of net u = get_or-take (hold_unit plan rec) net.units u [] a in
                  reader_member net.units (of rec) u (get_or (cells_of net u) i d) v j (let t = length-take (hold_unit plan rec) net.units in omega (arith, t, a, lu))
                  (subst (λ (ks : List Cell). Contains ks (get_or (cells_of net u) i d)) (sym same) (Contains-get_or (cells_of net u) i d li)) m low high)
              | inr a ↦
                  (let hi = s.high in
                  let at = hold_is plan rec hold.equation hold.there in
                  let is_here : s.number ≡ rec = elim (cases_lt s.number rec) [
                    | inl l ↦ absurd (let q = first_later equations widths outputs s.number rec s.equation s.there s.has l in omega (arith, q, hi, a, at))
                    | inr l ↦ (let b = s.state.before in omega (arith, b, l))
                  ] in
                  let one : s.equation ≡ hold.equation = one_equation equations rec s.equation hold.equation (subst (λ (n : ℕ). slice_get equations n ≡ Some s.equation) is_here s.there) hold.there in
                  let own : own_count equations widths s.number s.equation s.equation.op ≡ body_count (slice_index widths rec) (forms_in widths hold.equation) + hold_count equations rec =
                  ap (λ (n : ℕ). own_count equations widths n s.equation s.equation.op) is_here ∙ ap (λ (x : EquationShape). own_count equations widths rec x x.op) one ∙ own_rec equations widths rec hold.init hold.first hold.equation hold.equation.op hold.op in
                  let from : first_unit plan s.number ≡ first_unit plan rec = ap (first_unit plan) is_here in
                  let place : hold_unit plan rec + (u - hold_unit plan rec) ≡ u = omega (arith, a) in
                  subst (λ (n : ℕ). Contains (group_of net.units (of rec)) n) place (hold_member net.units (of rec) (u - hold_unit plan rec) (omega (arith, hi, own, from, at, a))))
            ] in
            let t = same_group net (group_of net.units (of rec)) u v g there member_u member_v in
            (t.0, t.1, s.state.cell))
        | inr o ↦ elim o [
          | inl w ↦ (size_within net.units v j w.1, ap (λ (n : ℕ). unit_group net n) (sym w.0), w.1)
          | inr w ↦
              (let b = w.0 in
              let there = stands b.rec b.init b.first b.equation b.there b.op (rec_reached (slice_index_or plan.reached b.rec false) b.equation.op b.init b.first b.op b.has) in
              let k = b.held in
              let member_v : Contains (group_of net.units (of b.rec)) v = subst (λ (n : ℕ). Contains (group_of net.units (of b.rec)) n) (sym b.before) (hold_member net.units (of b.rec) b.place (omega (arith, k))) in
              let member_u : Contains (group_of net.units (of b.rec)) u = subst (λ (n : ℕ). Contains (group_of net.units (of b.rec)) n) (sym b.later) (hold_member net.units (of b.rec) (b.place + 1) k) in
              let t = same_group net (group_of net.units (of b.rec)) u v g there member_u member_v in
              (t.0, t.1, w.1))
        ]
      ];
    }
