-- Which states the units of an equation read: those of recurrences on the past of which it depends.
use Rattle.std.proofs.Common.{◌≡◌, ◌≢◌, ◌<◌, ◌≤◌, ◌⊎◌, ℕ, suc, ◌+◌, ◌-◌, true, false, nat_le, Option, Some, List, [], ◌∷◌, ◌++◌, length, get_or, refl, subst, sym, ap, ◌∙◌, arith, inl, inr}
use Rattle.std.specs.Prelude.{slice_index, slice_index_or}
use Rattle.std.specs.List.{slice_get, list_any, list_all, Contains}
use Rattle.std.specs.Option.{option_map_or}
use Rattle.std.proofs.lemmas.Bool.{cases_lt, or_cases, and_parts, eq-eqb, leb-true, false≢true}
use Rattle.std.proofs.lemmas.Option.{slice_get_within}
use Rattle.pr_base.specs.Numbers.{slices_of}
use Rattle.pr_flat.specs.declared.equations.Operand.{Operand}
use Rattle.pr_flat.specs.declared.equations.Op.{Op}
use Rattle.pr_flat.specs.Shape.{EquationShape}
use Rattle.pr_flat.specs.Facts.{arity, is_input, is_rec, op_at, is_in_body, is_lawful_operand, reads_equation, DependsOnPast, IsFlat}
use Rattle.pr_flat.specs.Widths.{forms_in, AreWidths}
use Rattle.pr_flat.specs.Values.{input_widths}
use Rattle.pr_flat.proofs.WidthLemmas.{past_of, one_equation}
use Rattle.pr_net.specs.declared.cells.Cell.{Cell}
use Rattle.pr_net.specs.Shape.{NetShape, cells_of}
use Rattle.pr_net.proofs.Lists.{any_here, at_head, in_tail}
use Rattle.pr_cut_units.specs.Counts.{body_count}
use Rattle.pr_cut_units.specs.Reached.{reached, hold_count}
use Rattle.pr_cut_units.specs.Equations.{UnitPlan, plan_of, own_count, first_unit, hold_unit, input_units, cut_start, has_units}
use Rattle.pr_cut_units.specs.Nets.{net_of}
use Rattle.pr_cut_units.proofs.CountNets.{length-reached}
use Rattle.pr_cut_units.proofs.GoodNets.{inputs_count}
use Rattle.pr_cut_units.proofs.FitParts.{Sized, sized-append}
use Rattle.pr_cut_units.proofs.FitNets.{MayTakeAll, AreAllowed, added_after, added_is}
use Rattle.pr_cut_units.proofs.NetLawful.{IsTied, IsGrouped, sized_self}
use Rattle.pr_cut_units.proofs.WideNets.{Rest, rest_more, rest_first, rest_all, widths_some, are_counted}
use Rattle.pr_cut_units.proofs.NetOf.{NoStates, StatesInGroups}
use Rattle.pr_cut_units.proofs.NoRecurrences.{inputs_there}
use Rattle.pr_cut_units.proofs.ReachedLaws.{past_held}
use Rattle.pr_cut_units.proofs.HoldSizes.{sizes_after}

-- a recurrence that has units, and one of its hold units
pub record HoldAt (z : ℕ → ℕ) (plan : UnitPlan) (rec v : ℕ) : Type 0 where
  pub equation : EquationShape
  pub there : slice_get plan.equations rec ≡ Some equation
  pub init : ℕ
  pub first : ℕ
  pub op : equation.op ≡ Op.Rec init first
  pub reached : slice_index_or plan.reached rec false ≡ true
  pub place : ℕ
  pub is : v ≡ hold_unit plan rec + place
  pub held : place < hold_count plan.equations rec

-- a state that the operands of equation i may have: of a recurrence on the past of which it depends
pub record MayHave (z : ℕ → ℕ) (plan : UnitPlan) (i v j : ℕ) : Type 0 where
  pub rec : ℕ
  pub depends : DependsOnPast plan.equations rec i
  pub before : i ≤ rec
  pub hold : HoldAt z plan rec v
  pub cell : j < z v

-- and its own slices: of another equation than itself
pub record MayShow (z : ℕ → ℕ) (plan : UnitPlan) (i v j : ℕ) : Type 0 where
  pub state : MayHave z plan i v j
  pub other : i ≢ state.rec

-- a unit of an equation, and a state that its operands may have
pub record ReadsState (z : ℕ → ℕ) (plan : UnitPlan) (u v j : ℕ) : Type 0 where
  pub number : ℕ
  pub equation : EquationShape
  pub there : slice_get plan.equations number ≡ Some equation
  pub has : has_units plan number equation ≡ true
  pub low : first_unit plan number ≤ u
  pub high : u < first_unit plan number + own_count plan.equations plan.widths number equation equation.op
  pub state : MayHave z plan number v j

-- a later hold unit, and the one before it
pub record ReadsBefore (z : ℕ → ℕ) (plan : UnitPlan) (u v : ℕ) : Type 0 where
  pub rec : ℕ
  pub equation : EquationShape
  pub there : slice_get plan.equations rec ≡ Some equation
  pub init : ℕ
  pub first : ℕ
  pub op : equation.op ≡ Op.Rec init first
  pub has : has_units plan rec equation ≡ true
  pub place : ℕ
  pub held : place + 1 < hold_count plan.equations rec
  pub later : u ≡ hold_unit plan rec + (place + 1)
  pub before : v ≡ hold_unit plan rec + place

-- the states that a unit may read: those of its equation, its own, and that of the hold unit before it
abbrev pub ReadBy : (ℕ → ℕ) → UnitPlan → ℕ → ℕ → ℕ → Type 0
ReadBy z plan u v j = ReadsState z plan u v j ⊎ (((u ≡ v) × (j < z v)) ⊎ (ReadsBefore z plan u v × (j < z v)))

-- each hold unit has a cell for each byte of its recurrence
pub record HoldsSized (z : ℕ → ℕ) (plan : UnitPlan) : Type 0 where
  pub at : (rec init first n : ℕ) (d : EquationShape) → slice_get plan.equations rec ≡ Some d → d.op ≡ Op.Rec init first → slice_index_or plan.reached rec false ≡ true → n < hold_count plan.equations rec → z (hold_unit plan rec + n) ≡ slices_of (slice_index plan.widths rec)

pub hold_is : (plan : UnitPlan) (rec : ℕ) (d : EquationShape) → slice_get plan.equations rec ≡ Some d → hold_unit plan rec ≡ first_unit plan rec + body_count (slice_index plan.widths rec) (forms_in plan.widths d)
hold_is plan rec d there = ap (λ (o : Option EquationShape). first_unit plan rec + option_map_or (λ (e : EquationShape). body_count (slice_index plan.widths rec) (forms_in plan.widths e)) o 0) there

-- ---- what an equation takes
take_from : (z : ℕ → ℕ) (equations : List EquationShape) (outputs : List Operand) (widths : List ℕ) (i : ℕ) (e : EquationShape) → IsFlat equations outputs → HoldsSized z (plan_of equations widths outputs) → slice_get equations i ≡ Some e → get_or (reached equations outputs) i false ≡ true
    → (args : List Operand) → ((a : Operand) → Contains args a → Contains e.args a) → list_all (is_lawful_operand equations i) args ≡ true → MayTakeAll (MayHave z (plan_of equations widths outputs)) (MayShow z (plan_of equations widths outputs)) (plan_of equations widths outputs) i args
take_from z equations outputs widths i e flat sizes there r [] inside h = tt
take_from z equations outputs widths i e flat sizes there r (Operand.Const c ∷ args) inside h =
    (tt, take_from z equations outputs widths i e flat sizes there r args (λ a c. inside a (in_tail _ a args c)) (and_parts (is_lawful_operand equations i (Operand.Const c)) (list_all (is_lawful_operand equations i) args) h).1)
take_from z equations outputs widths i e flat sizes there r (Operand.Eq m ∷ args) inside h =
    let reads : list_any (reads_equation m) e.args ≡ true = any_here (reads_equation m) e.args (Operand.Eq m) (inside (Operand.Eq m) (at_head (Operand.Eq m) args)) (eq-eqb m m refl) in (
      record {
        at = λ v j s. (let rec = s.state.rec in record {
          rec = rec;
          depends = DependsOnPast.Reads i m e there reads s.other s.state.depends;
          before = elim (cases_lt rec i) [
            | inl l ↦ absurd (false≢true (sym ((flat.apart rec m s.state.depends s.other).later i e there l) ∙ reads))
            | inr l ↦ l
          ];
          hold = s.state.hold;
          cell = s.state.cell;
        });
      },
      take_from z equations outputs widths i e flat sizes there r args (λ a c. inside a (in_tail _ a args c)) (and_parts (is_lawful_operand equations i (Operand.Eq m)) (list_all (is_lawful_operand equations i) args) h).1,
    )
take_from z equations outputs widths i e flat sizes there r (Operand.Past rec k ∷ args) inside h =
    let t = and_parts (is_lawful_operand equations i (Operand.Past rec k)) (list_all (is_lawful_operand equations i) args) h in
    let some : 1 ≤ k = leb-true 1 k (and_parts (nat_le 1 k) (option_map_or (is_in_body i rec) (op_at equations rec) false) t.0).0 in
    let p = past_of equations i rec k t.0 in
    let q = past_held equations outputs rec k i e flat there r (inside (Operand.Past rec k) (at_head (Operand.Past rec k) args)) in
    let held : k - 1 < hold_count equations rec = (let a = q.held in omega (arith, a, some)) in (
      λ j l. record {
        rec = rec;
        depends = q.depends;
        before = p.high;
        hold = record { equation = p.equation; there = p.there; init = p.init; first = p.first; op = p.op; reached = q.recurrence; place = k - 1; is = refl; held = held };
        cell = (let size = sizes.at rec p.init p.first (k - 1) p.equation p.there p.op q.recurrence held in omega (arith, l, size));
      },
      take_from z equations outputs widths i e flat sizes there r args (λ a c. inside a (in_tail _ a args c)) t.1,
    )

input_arity : (op : Op) → is_input op ≡ true → arity op ≡ 0
input_arity Op.Input h = refl
input_arity op h = absurd (false≢true h)

take_empty : (S V : ℕ → ℕ → ℕ → Type 0) (plan : UnitPlan) (i : ℕ) (args : List Operand) → length args ≡ 0 → MayTakeAll S V plan i args
take_empty S V plan i [] h = tt
take_empty S V plan i (a ∷ args) h = absurd (omega (arith, h))

-- ---- all equations
pub allowed_from : (equations : List EquationShape) (outputs : List Operand) (widths : List ℕ) (net : NetShape) (units : List (List Cell)) (i : ℕ) (rest : List EquationShape) → IsFlat equations outputs → AreWidths equations widths → HoldsSized (λ v. length (cells_of net v)) (plan_of equations widths outputs) → net.inputs ≡ input_widths equations → net.units ≡ input_units 0 net.inputs ++ units → Rest equations i rest
    → AreAllowed (λ v. length (cells_of net v)) (MayHave (λ v. length (cells_of net v)) (plan_of equations widths outputs)) (MayShow (λ v. length (cells_of net v)) (plan_of equations widths outputs)) (ReadBy (λ v. length (cells_of net v)) (plan_of equations widths outputs)) (plan_of equations widths outputs) i rest
allowed_from equations outputs widths net units i [] flat wide sizes ins is r = tt
allowed_from equations outputs widths net units i (e ∷ rest) flat wide sizes ins is r =
    let plan = plan_of equations widths outputs in
    let z = λ (v : ℕ). length (cells_of net v) in
    let there = rest_first equations i e rest r in (
      λ h. record {
        width = widths_some equations outputs widths flat wide i (slice_get_within equations i e there);
        input = λ q. inputs_there equations outputs outputs widths net units (MayShow z plan i) i e flat wide ins is there q;
        keeps = λ q. record {
          at = λ v j s. record {
            state = s;
            other = λ same. (let one = one_equation equations i e s.hold.equation there (subst (λ (n : ℕ). slice_get equations n ≡ Some s.hold.equation) (sym same) s.hold.there) in
                false≢true (sym q ∙ ap (λ (x : EquationShape). is_rec x.op) one ∙ ap is_rec s.hold.op));
          };
        };
        takes = elim (or_cases (is_input e.op) (slice_index_or plan.reached i false) h) [
          | inl q ↦ take_empty (MayHave z plan) (MayShow z plan) plan i e.args (flat.args i e there ∙ input_arity e.op q)
          | inr q ↦ take_from z equations outputs widths i e flat sizes there q e.args (λ a c. c) (flat.operands i e there)
        ];
        may = record { at = λ w v j l k s. inl (record { number = i; equation = e; there = there; has = h; low = l; high = k; state = s }) };
        own = record {
          delay = λ c j q l. inr (inl (refl, l));
          hold = λ init first n j q l k. (let same = hold_is plan i e there in inr (inr (
            record {
              rec = i;
              equation = e;
              there = there;
              init = init;
              first = first;
              op = q;
              has = h;
              place = n;
              held = l;
              later = ap (λ (m : ℕ). m + (n + 1)) (sym same);
              before = ap (λ (m : ℕ). m + n) (sym same);
            },
            k,
          )));
        };
      },
      allowed_from equations outputs widths net units (suc i) rest flat wide sizes ins is (rest_more equations i e rest r),
    )

-- no state is among the slices of an output
none_outside : (z : ℕ → ℕ) (equations : List EquationShape) (outputs : List Operand) (widths : List ℕ) → IsFlat equations outputs → NoStates (MayShow z (plan_of equations widths outputs)) outputs
none_outside z equations outputs widths flat = record { at = λ i v j reads s. false≢true (sym (flat.apart s.state.rec i s.state.depends s.other).outside ∙ reads) }

pub holds_sized : (equations : List EquationShape) (outputs : List Operand) (widths : List ℕ) → IsFlat equations outputs → AreWidths equations widths → HoldsSized (λ v. length (cells_of (net_of equations widths outputs) v)) (plan_of equations widths outputs)
unfolding net_of
holds_sized equations outputs widths flat wide =
    let plan = plan_of equations widths outputs in
    let net = net_of equations widths outputs in
    let start = cut_start equations in
    let z = λ (v : ℕ). length (cells_of net v) in
    let rest = added_after plan start equations in
    let is : net.units ≡ input_units 0 net.inputs ++ rest = added_is plan start equations in
    let sized = sized-append z 0 (input_units 0 net.inputs) rest (subst (λ (us : List (List Cell)). Sized z 0 us) is (sized_self net.units)) in
    let zero_plus : 0 + length (input_units 0 net.inputs) ≡ length (input_units 0 net.inputs) = omega arith in
    let all = sizes_after z plan start 0 equations [] plan.reached refl refl refl (length-reached outputs 0 equations) (record { at = λ j. ap (λ (k : ℕ). slice_index_or plan.reached k false) (omega arith) }) (are_counted equations outputs widths flat wide) (inputs_count 0 equations ∙ omega arith) (subst (λ (k : ℕ). Sized z k rest) zero_plus sized.1) in
    record {
      at = λ rec init first n d there op r l.
          let y : rec ≡ 0 + rec = omega arith in
          let t = all rec init first n d there op (subst (λ (k : ℕ). slice_index_or plan.reached k false ≡ true) y r) (subst (λ (k : ℕ). n < hold_count equations k) y l) in
          ap (λ (m : ℕ). z (m + n)) (hold_is plan rec d there) ∙ subst (λ (k : ℕ). z (first_unit plan k + body_count (slice_index plan.widths k) (forms_in plan.widths d) + n) ≡ slices_of (slice_index plan.widths k)) (sym y) t;
    }

-- what is left to ask: what a unit reads is of its group, and groups are in order
pub states_allowed : (equations : List EquationShape) (widths : List ℕ) (outputs : List Operand) → IsFlat equations outputs → AreWidths equations widths
    → (let z = λ (v : ℕ). length (cells_of (net_of equations widths outputs) v) in let plan = plan_of equations widths outputs in IsTied (net_of equations widths outputs) (ReadBy z plan) → IsGrouped (net_of equations widths outputs) → StatesInGroups equations widths outputs (MayHave z plan) (MayShow z plan) (ReadBy z plan))
unfolding net_of
states_allowed equations widths outputs flat wide tied grouped =
    let plan = plan_of equations widths outputs in
    let net = net_of equations widths outputs in
    let rest = added_after plan (cut_start equations) equations in
    let is : net.units ≡ input_units 0 net.inputs ++ rest = added_is plan (cut_start equations) equations in
    record {
      allowed = allowed_from equations outputs widths net rest 0 equations flat wide (holds_sized equations outputs widths flat wide) refl is (rest_all equations);
      tied = tied;
      outside = none_outside (λ v. length (cells_of net v)) equations outputs widths flat;
      grouped = grouped;
    }
