-- The groups of a net of flat equations are in order, where no unit is in the groups of two recurrences.
use Rattle.std.proofs.Common.{◌≡◌, ◌<◌, ◌≤◌, ℕ, suc, ◌+◌, ◌==◌, ◌&&◌, Bool, true, false, Some, None, List, [], ◌∷◌, ◌++◌, length, map, get_or, refl, subst, sym, ap, ◌∙◌, arith, inl, inr}
use Rattle.std.specs.Prelude.{slice_index_or, count_by}
use Rattle.std.specs.Bool.{if◌then◌else◌}
use Rattle.std.specs.List.{slice_get, list_any, Contains, sum, sum_by}
use Rattle.std.proofs.lemmas.Bool.{cases_Bool, and_parts, eqb-true, false≢true}
use Rattle.pr_base.specs.Numbers.{slices_of}
use Rattle.pr_flat.specs.declared.equations.Operand.{Operand}
use Rattle.pr_flat.specs.declared.equations.Op.{Op}
use Rattle.pr_flat.specs.Shape.{EquationShape}
use Rattle.pr_flat.specs.Facts.{is_input, is_rec, IsFlat}
use Rattle.pr_flat.specs.Widths.{AreWidths}
use Rattle.pr_net.specs.declared.cells.Cell.{Cell}
use Rattle.pr_net.proofs.Lists.{any_found, in_none, head_or_tail}
use Rattle.pr_cut_units.specs.Groups.{Holds, is_among, group_of}
use Rattle.pr_cut_units.specs.Reached.{hold_count}
use Rattle.pr_cut_units.specs.Equations.{UnitPlan, plan_of, hold_unit, input_units, cut_start}
use Rattle.pr_cut_units.specs.Nets.{holds_from, net_of, limit_passed}
use Rattle.pr_cut_units.proofs.FitNets.{added_after, added_is}
use Rattle.pr_cut_units.proofs.GoodNets.{inputs_count}
use Rattle.pr_cut_units.proofs.CountNets.{count_whole}
use Rattle.pr_cut_units.proofs.WideNets.{are_counted}
use Rattle.pr_cut_units.proofs.EndNets.{in_limits}
use Rattle.pr_cut_units.proofs.NetLawful.{AllInput, IsGrouped, input_there, input_at, length-inputs}
use Rattle.pr_cut_units.proofs.TiedNets.{holds_end}
use Rattle.pr_cut_units.proofs.ApartLists.{AreApart, AreLists, in_places, front_at}
use Rattle.pr_cut_units.proofs.TiedLists.{group_order, group_some, input_outside}

-- the hold units of recurrence i
abbrev pub holds_of : UnitPlan → ℕ → Holds
holds_of plan i = record { first = hold_unit plan i; count = hold_count plan.equations i }

-- a recurrence that has units, at a place of these equations
pub record IsRec (es : List EquationShape) (flags : List Bool) (i : ℕ) : Type 0 where
  pub equation : EquationShape
  pub there : slice_get es i ≡ Some equation
  pub rec : is_rec equation.op ≡ true
  pub reached : slice_index_or flags i false ≡ true

-- the group of one of these recurrences
record IsGroup (units : List (List Cell)) (plan : UnitPlan) (k : ℕ) (es : List EquationShape) (flags : List Bool) (x : List ℕ) : Type 0 where
  pub place : ℕ
  pub rec : IsRec es flags place
  pub is : x ≡ group_of units (holds_of plan (k + place))

abbrev groups_from : List (List Cell) → UnitPlan → ℕ → List EquationShape → List Bool → List (List ℕ)
groups_from units plan k es flags = map (group_of units) (holds_from plan k es flags)

from_holds : (units : List (List Cell)) (plan : UnitPlan) (k : ℕ) (es : List EquationShape) (flags : List Bool) (x : List ℕ) → Contains (groups_from units plan k es flags) x → IsGroup units plan k es flags x
from_holds units plan k [] flags x c = absurd (in_none x c)
from_holds units plan k (e ∷ rest) [] x c = absurd (in_none x c)
from_holds units plan k (e ∷ rest) (b ∷ flags) x c = go (b && is_rec e.op) refl (λ d. from_holds units plan (suc k) rest flags x d) c
  where
    later : IsGroup units plan (suc k) rest flags x → IsGroup units plan k (e ∷ rest) (b ∷ flags) x
    later t =
        let r = t.rec in
        let z : suc k + t.place ≡ k + suc t.place = omega arith in
        record {
          place = suc t.place;
          rec = record { equation = r.equation; there = r.there; rec = r.rec; reached = r.reached };
          is = t.is ∙ ap (λ (n : ℕ). group_of units (holds_of plan n)) z;
        }

    go : (t : Bool) → (b && is_rec e.op) ≡ t → (Contains (groups_from units plan (suc k) rest flags) x → IsGroup units plan (suc k) rest flags x)
        → Contains (map (group_of units) (if t then holds_of plan k ∷ holds_from plan (suc k) rest flags else holds_from plan (suc k) rest flags)) x → IsGroup units plan k (e ∷ rest) (b ∷ flags) x
    go true q ih d = elim (head_or_tail (group_of units (holds_of plan k)) x (groups_from units plan (suc k) rest flags) d) [
      | inl h ↦ (let p = and_parts b (is_rec e.op) q in
          let z : k ≡ k + 0 = omega arith in
          record { place = 0; rec = record { equation = e; there = refl; rec = p.1; reached = p.0 }; is = sym h ∙ ap (λ (n : ℕ). group_of units (holds_of plan n)) z })
      | inr t ↦ later (ih t)
    ]
    go false q ih d = later (ih d)

-- groups of recurrences among which no two have a unit in common
holds_apart : (units : List (List Cell)) (plan : UnitPlan) (k : ℕ) (es : List EquationShape) (flags : List Bool)
    → ((a b u : ℕ) → a < b → IsRec es flags a → IsRec es flags b → Contains (group_of units (holds_of plan (k + a))) u → Contains (group_of units (holds_of plan (k + b))) u → ⊥)
    → AreApart (groups_from units plan k es flags)
holds_apart units plan k [] flags h = tt
holds_apart units plan k (e ∷ rest) [] h = tt
holds_apart units plan k (e ∷ rest) (c ∷ flags) h = go (c && is_rec e.op) refl (holds_apart units plan (suc k) rest flags (λ a b u l ra rb ca cb.
    (let za : suc k + a ≡ k + suc a = omega arith in
    let zb : suc k + b ≡ k + suc b = omega arith in
    h (suc a) (suc b) u (omega (arith, l))
    (record { equation = ra.equation; there = ra.there; rec = ra.rec; reached = ra.reached })
    (record { equation = rb.equation; there = rb.there; rec = rb.rec; reached = rb.reached })
    (subst (λ (n : ℕ). Contains (group_of units (holds_of plan n)) u) za ca)
    (subst (λ (n : ℕ). Contains (group_of units (holds_of plan n)) u) zb cb))))
  where
    go : (t : Bool) → (c && is_rec e.op) ≡ t → AreApart (groups_from units plan (suc k) rest flags) → AreApart (map (group_of units) (if t then holds_of plan k ∷ holds_from plan (suc k) rest flags else holds_from plan (suc k) rest flags))
    go true q ih = (
      λ x u cx mg mx.
          (let s = from_holds units plan (suc k) rest flags x cx in
          let r = s.rec in
          let p = and_parts c (is_rec e.op) q in
          let z : k ≡ k + 0 = omega arith in
          let y : suc k + s.place ≡ k + suc s.place = omega arith in
          h 0 (suc s.place) u (omega arith)
          (record { equation = e; there = refl; rec = p.1; reached = p.0 })
          (record { equation = r.equation; there = r.there; rec = r.rec; reached = r.reached })
          (subst (λ (n : ℕ). Contains (group_of units (holds_of plan n)) u) z mg)
          (subst (λ (n : ℕ). Contains (group_of units (holds_of plan n)) u) y (subst (λ (g : List ℕ). Contains g u) s.is mx))),
      ih,
    )
    go false q ih = ih

-- a recurrence by its parts
pub record RecParts (op : Op) : Type 0 where
  pub init : ℕ
  pub first : ℕ
  pub is : op ≡ Op.Rec init first

pub rec_parts : (op : Op) → is_rec op ≡ true → RecParts op
rec_parts (Op.Rec x y) h = record { init = x; first = y; is = refl }
rec_parts op h = absurd (false≢true h)

held_some : (plan : UnitPlan) (i : ℕ) → 1 ≤ hold_count plan.equations i
held_some plan i = omega arith

-- no unit is in the groups of two recurrences
pub record RecsApart (equations : List EquationShape) (widths : List ℕ) (outputs : List Operand) : Type 0 where
  pub at : (let plan = plan_of equations widths outputs in let net = net_of equations widths outputs in
      (a b u : ℕ) → a < b → IsRec equations plan.reached a → IsRec equations plan.reached b → Contains (group_of net.units (holds_of plan a)) u → Contains (group_of net.units (holds_of plan b)) u → ⊥)

-- a group of a recurrence, by the number of the recurrence
group_from : (units : List (List Cell)) (equations : List EquationShape) (widths : List ℕ) (outputs : List Operand) (x : List ℕ) → (let plan = plan_of equations widths outputs in Contains (groups_from units plan 0 equations plan.reached) x → (i : ℕ) × IsRec equations plan.reached i × (x ≡ group_of units (holds_of plan i)))
group_from units equations widths outputs x c =
    let plan = plan_of equations widths outputs in
    let t = from_holds units plan 0 equations plan.reached x c in
    let z : 0 + t.place ≡ t.place = omega arith in
    (t.place, t.rec, t.is ∙ ap (λ (n : ℕ). group_of units (holds_of plan n)) z)

lists_are : (equations : List EquationShape) (widths : List ℕ) (outputs : List Operand) → IsFlat equations outputs → AreWidths equations widths → RecsApart equations widths outputs
    → (let plan = plan_of equations widths outputs in let net = net_of equations widths outputs in AreLists (length net.units) (groups_from net.units plan 0 equations plan.reached))
unfolding net_of
lists_are equations widths outputs flat wide apart =
    let plan = plan_of equations widths outputs in
    let net = net_of equations widths outputs in
    let counted : length net.units ≡ count_by (λ (e : EquationShape). is_input e.op) equations + sum plan.counts = count_whole equations widths outputs (are_counted equations outputs widths flat wide) in
    record {
      some = λ g c. (let t = group_from net.units equations widths outputs g c in
          subst (λ (x : List ℕ). 0 < length x) (sym t.2) (group_some net.units (holds_of plan t.0) (held_some plan t.0)));
      below = λ g u c m. (let t = group_from net.units equations widths outputs g c in
          let r = t.1 in
          let p = rec_parts r.equation.op r.rec in
          let end = holds_end equations widths outputs t.0 p.init p.first r.equation r.there p.is r.reached in
          let low = (group_order net.units (holds_of plan t.0)).below u (subst (λ (x : List ℕ). Contains x u) t.2 m) in
          omega (arith, end, low, counted));
      ascending = λ g i j c l k. (let t = group_from net.units equations widths outputs g c in
          let o = (group_order net.units (holds_of plan t.0)).ascending i j l (subst (λ (x : List ℕ). j < length x) t.2 k) in
          subst (λ (x : List ℕ). get_or x i 0 < get_or x j 0) (sym t.2) o);
      apart = holds_apart net.units plan 0 equations plan.reached (λ a b u l ra rb ca cb.
          (let za : 0 + a ≡ a = omega arith in
          let zb : 0 + b ≡ b = omega arith in
          apart.at a b u l ra rb
          (subst (λ (n : ℕ). Contains (group_of net.units (holds_of plan n)) u) za ca)
          (subst (λ (n : ℕ). Contains (group_of net.units (holds_of plan n)) u) zb cb)));
    }

-- an input is in no group of a recurrence
input_in_none : (equations : List EquationShape) (widths : List ℕ) (outputs : List Operand) (u : ℕ)
    → (let plan = plan_of equations widths outputs in let net = net_of equations widths outputs in u < length net.inputs → list_any (is_among u) (groups_from net.units plan 0 equations plan.reached) ≡ false)
unfolding net_of
input_in_none equations widths outputs u l =
    let plan = plan_of equations widths outputs in
    let net = net_of equations widths outputs in
    let rest = added_after plan (cut_start equations) equations in
    let is : net.units ≡ input_units 0 net.inputs ++ rest = added_is plan (cut_start equations) equations in
    let t = input_at 0 net.inputs u l in
    let all : AllInput (0 + sum_by slices_of net.inputs) (get_or net.units u []) = subst (λ (ks : List Cell). AllInput (0 + sum_by slices_of net.inputs) ks) (sym (input_there net rest is u l).1) t.1 in
    let many = inputs_count 0 equations in
    let long = length-inputs 0 net.inputs in
    elim (cases_Bool (list_any (is_among u) (groups_from net.units plan 0 equations plan.reached))) [
      | inl t ↦ (let f = any_found (is_among u) (groups_from net.units plan 0 equations plan.reached) t in
          let v = any_found (λ v. v == u) f.0 f.2 in
          let m : Contains f.0 u = subst (λ (w : ℕ). Contains f.0 w) (eqb-true v.0 u v.2) v.1 in
          let s = group_from net.units equations widths outputs f.0 f.1 in
          absurd (input_outside (0 + sum_by slices_of net.inputs) net.units (holds_of plan s.0) u (omega (arith, l, many, long)) all (subst (λ (x : List ℕ). Contains x u) s.2 m)))
      | inr f ↦ f
    ]

-- the groups of a net of flat equations are in order
pub grouped_if_apart : (columns : ℕ) (equations : List EquationShape) (widths : List ℕ) (outputs : List Operand) → IsFlat equations outputs → AreWidths equations widths → limit_passed columns (net_of equations widths outputs) ≡ None → RecsApart equations widths outputs → IsGrouped (net_of equations widths outputs)
unfolding net_of
grouped_if_apart columns equations widths outputs flat wide limits apart =
    let plan = plan_of equations widths outputs in
    let net = net_of equations widths outputs in
    let gs = groups_from net.units plan 0 equations plan.reached in
    let n = length net.units in
    let rest = added_after plan (cut_start equations) equations in
    let is : net.units ≡ input_units 0 net.inputs ++ rest = added_is plan (cut_start equations) equations in
    let p = in_places n gs (lists_are equations widths outputs flat wide apart) in
    let most = (in_limits columns net limits).units in
    record {
      grouped = p.held;
      members = p.place;
      few = (let k = p.few in omega (arith, k, most));
      some = p.some;
      ascending = p.ascending;
      inputs = λ u l.
          let f = front_at gs 0 n u (λ k h. (let z : 0 + k ≡ k = omega arith in ap (λ (m : ℕ). list_any (is_among m) gs) z ∙ input_in_none equations widths outputs k (omega (arith, h, l)))) (input_there net rest is u l).0 in
          let z : 0 + u ≡ u = omega arith in
          (f.0, f.1 ∙ ap (λ (m : ℕ). m ∷ []) z);
    }
