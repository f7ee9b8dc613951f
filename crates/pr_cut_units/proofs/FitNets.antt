-- The whole net reads cells and states that are there: the fold over equations keeps it.
-- z says how many cells a unit has, S which states may be among the operands of an equation, V which among its slices, R which states a unit may read.
use Rattle.std.proofs.Common.{◌≡◌, ◌<◌, ◌≤◌, ℕ, zero, suc, ◌+◌, ◌-◌, ◌/◌, max, Bool, true, false, List, [], ◌∷◌, ◌++◌, length, take, map, refl, subst, sym, ap, ◌∙◌, arith, length-append, append_assoc}
use Rattle.std.specs.Prelude.{slice_index, slice_index_or, count_by}
use Rattle.std.specs.Bool.{if◌then◌else◌}
use Rattle.std.specs.List.{range_with_len, sum}
use Rattle.std.proofs.lemmas.List.Sums.{sum_by-cons}
use Rattle.std.proofs.lemmas.List.FromFn.{length-map-range_with_len}
use Rattle.std.proofs.Math.Seq.{take-append_seam}
use Rattle.pr_base.specs.Numbers.{slices_of, bytes_of, byte_at}
use Rattle.pr_base.specs.declared.choices.Next.{Next}
use Rattle.pr_flat.specs.declared.equations.Operand.{Operand}
use Rattle.pr_flat.specs.declared.equations.Op.{Op}
use Rattle.pr_flat.specs.Forms.{number_width}
use Rattle.pr_flat.specs.declared.forms.Form.{Form}
use Rattle.std.proofs.lemmas.List.{append-nil}
use Rattle.pr_flat.specs.Shape.{EquationShape}
use Rattle.pr_flat.specs.Facts.{arity, is_input, is_rec}
use Rattle.pr_flat.specs.Widths.{forms_in}
use Rattle.pr_net.specs.declared.cells.Slice.{Slice}
use Rattle.pr_net.specs.declared.cells.Wire.{Wire}
use Rattle.pr_net.specs.declared.cells.WireBit.{WireBit}
use Rattle.pr_net.specs.declared.cells.Cell.{Cell}
use Rattle.pr_cut_units.specs.Parts.{Part, Making, each, kept}
use Rattle.pr_cut_units.specs.Cells.{plain, byte}
use Rattle.pr_cut_units.specs.Widening.{Argument, widened}
use Rattle.pr_cut_units.specs.States.{delayed, hold_cell, later_cell, hold_units, held}
use Rattle.pr_cut_units.specs.Table.{argument_forms, computed_bits}
use Rattle.pr_cut_units.specs.Counts.{widening_count, body_count}
use Rattle.pr_cut_units.specs.Reached.{hold_count}
use Rattle.pr_cut_units.specs.Equations.{UnitPlan, own_count, first_unit, hold_unit, operand_slices, arguments, input_slices, equation_units, Cut, has_units, next_units, cut_next, cut_after, counts_from}
use Rattle.pr_cut_units.proofs.CountTable.{takes_widened}
use Rattle.pr_cut_units.proofs.CountNets.{forms_are, is_stated, IsCounted, AreCounted, takes_own, next_count, length-arguments, Flags, flags_more, flags_first}
use Rattle.pr_cut_units.proofs.GoodNets.{WideOperands}
use Rattle.pr_cut_units.proofs.FitParts.{IsThere, IsBitThere, IsFit, AllFit, UnitsFit, AreThere, Sized, FitMaking, there_at, there-each, sized-append}
use Rattle.pr_cut_units.proofs.FitTable.{ThereArguments, fit_widened, fit_at}

-- units from number u on, each with the states that it may read
abbrev pub UnitsRead : (ℕ → ℕ) → (ℕ → ℕ → ℕ → Type 0) → ℕ → List (List Cell) → Type 0
UnitsRead z R u [] = Unit {0}
UnitsRead z R u (ks ∷ units) = ((0 < length ks) × AllFit z (R u) ks) × UnitsRead z R (suc u) units

pub reads-append : (z : ℕ → ℕ) (R : ℕ → ℕ → ℕ → Type 0) (u : ℕ) (us vs : List (List Cell)) → UnitsRead z R u us → UnitsRead z R (u + length us) vs → UnitsRead z R u (us ++ vs)
reads-append z R u [] vs h k = subst (λ (n : ℕ). UnitsRead z R n vs) (omega arith) k
reads-append z R u (ks ∷ us) vs h k = (h.0, reads-append z R (suc u) us vs h.1 (subst (λ (n : ℕ). UnitsRead z R n vs) (omega arith) k))

-- more states
pub record Wider (T Q : ℕ → ℕ → Type 0) : Type 0 where
  pub at : (v j : ℕ) → T v j → Q v j

there_wider : (z : ℕ → ℕ) (T Q : ℕ → ℕ → Type 0) → Wider T Q → (w : Wire) → IsThere z T w → IsThere z Q w
there_wider z T Q m (Wire.Const k) h = tt
there_wider z T Q m (Wire.Of u i) h = h
there_wider z T Q m (Wire.State u i) h = m.at u i h
there_wider z T Q m (Wire.Bus i) h = absurd h

bit_wider : (z : ℕ → ℕ) (T Q : ℕ → ℕ → Type 0) → Wider T Q → (b : WireBit) → IsBitThere z T b → IsBitThere z Q b
bit_wider z T Q m WireBit.None h = tt
bit_wider z T Q m (WireBit.Of w k) h = (there_wider z T Q m w h.0, h.1)
bit_wider z T Q m WireBit.CarryIn h = tt

fit_wider : (z : ℕ → ℕ) (T Q : ℕ → ℕ → Type 0) → Wider T Q → (ks : List Cell) → AllFit z T ks → AllFit z Q ks
fit_wider z T Q m [] h = tt
fit_wider z T Q m (k ∷ ks) h = (
  record {
    a = there_wider z T Q m k.a h.0.a;
    hi = there_wider z T Q m k.hi h.0.hi;
    lo = there_wider z T Q m k.lo h.0.lo;
    c = bit_wider z T Q m k.c h.0.c;
    carry = h.0.carry;
    shift = h.0.shift;
  },
  fit_wider z T Q m ks h.1,
)

pub slices_wider : (z : ℕ → ℕ) (T Q : ℕ → ℕ → Type 0) → Wider T Q → (x : List Slice) → AreThere z T x → AreThere z Q x
slices_wider z T Q m [] h = tt
slices_wider z T Q m (Slice.Const k ∷ x) h = (tt, slices_wider z T Q m x h.1)
slices_wider z T Q m (Slice.Of u i ∷ x) h = (h.0, slices_wider z T Q m x h.1)
slices_wider z T Q m (Slice.State u i ∷ x) h = (m.at u i h.0, slices_wider z T Q m x h.1)

-- the units from number u to another may read these states
pub record MayRead (T : ℕ → ℕ → Type 0) (R : ℕ → ℕ → ℕ → Type 0) (u end : ℕ) : Type 0 where
  pub at : (w v j : ℕ) → u ≤ w → w < end → T v j → R w v j

units_read : (z : ℕ → ℕ) (T : ℕ → ℕ → Type 0) (R : ℕ → ℕ → ℕ → Type 0) (u : ℕ) (us : List (List Cell)) → MayRead T R u (u + length us) → UnitsFit z T us → UnitsRead z R u us
units_read z T R u [] m h = tt
units_read z T R u (ks ∷ us) m h = (
  (h.0.0, fit_wider z T (R u) (record { at = λ v j t. m.at u v j (omega arith) (omega arith) t }) ks h.0.1),
  units_read z T R (suc u) us (record { at = λ w v j l r t. m.at w v j (omega (arith, l)) (omega (arith, r)) t }) h.1,
)

-- the units of an equation, and its slices
pub record FitHere (z : ℕ → ℕ) (T : ℕ → ℕ → Type 0) (R : ℕ → ℕ → ℕ → Type 0) (u : ℕ) (p : Part) : Type 0 where
  pub units : UnitsRead z R u p.units
  pub slices : AreThere z T p.slices

fit_here : (z : ℕ → ℕ) (T : ℕ → ℕ → Type 0) (R : ℕ → ℕ → ℕ → Type 0) (u : ℕ) (making : Making) → FitMaking z T making → MayRead T R u (u + length (making u).units) → Sized z u (making u).units → FitHere z T R u (making u)
fit_here z T R u making f m s = let p = f.at u s in record { units = units_read z T R u (making u).units m p.units; slices = p.slices }

some_each : (n : ℕ) (f : ℕ → Cell) → 0 < n → 0 < length (each n f)
some_each n f h = omega (arith, length-map-range_with_len f 0 n, h)

-- ---- units with state
-- the states that an equation's own units may read: its own, and of later hold units those of the unit before
pub record ReadsOwn (z : ℕ → ℕ) (R : ℕ → ℕ → ℕ → Type 0) (u h k : ℕ) (op : Op) : Type 0 where
  pub delay : (c j : ℕ) → op ≡ Op.Delay c → j < z u → R u u j
  pub hold : (init first n j : ℕ) → op ≡ Op.Rec init first → n + 1 < k → j < z (h + n) → R (h + (n + 1)) (h + n) j

each_below : (z : ℕ → ℕ) (T : ℕ → ℕ → Type 0) (n : ℕ) (f : ℕ → Cell) → ((i : ℕ) → i < n → IsFit z T (f i)) → AllFit z T (each n f)
each_below z T n f h = go 0 n (omega arith)
  where
    go : (a m : ℕ) → a + m ≤ n → AllFit z T (map f (range_with_len a m))
    go a zero l = tt
    go a (suc m) l = (h a (omega (arith, l)), go (a + 1) m (omega (arith, l)))

unit_here : (z : ℕ → ℕ) (T : ℕ → ℕ → Type 0) (R : ℕ → ℕ → ℕ → Type 0) (u n : ℕ) (cell : ℕ → Cell) → 0 < n → ((i : ℕ) → i < n → IsFit z (R u) (cell i)) → Sized z u (each n cell ∷ []) → FitHere z T R u (record { units = each n cell ∷ []; slices = each n (λ i. Slice.Of u i) })
unit_here z T R u n cell some h s =
    let long : length (each n cell) ≡ n = length-map-range_with_len cell 0 n in
    let size : z u ≡ length (each n cell) = s.0 in
    record {
      units = ((omega (arith, long, some), each_below z (R u) n cell h), tt);
      slices = there-each z T n (λ i. Slice.Of u i) (λ i l. omega (arith, l, long, size));
    }

fit_delayed : (z : ℕ → ℕ) (T : ℕ → ℕ → Type 0) (R : ℕ → ℕ → ℕ → Type 0) (u w c : ℕ) (x : List Slice) → 1 ≤ w → AreThere z T x → MayRead T R u (u + 1) → ((j : ℕ) → j < z u → R u u j) → Sized z u (delayed w c x u).units → FitHere z T R u (delayed w c x u)
fit_delayed z T R u w c x some h m own s =
    let wide : Wider T (R u) = record { at = λ v j t. m.at u v j (omega arith) (omega arith) t } in
    let cell : ℕ → Cell = λ i. record plain { a = byte x i; hi = Wire.State u i; table = 204; next = Next.A; init = byte_at c i } in
    let size : z u ≡ length (each (slices_of w) cell) = s.0 in
    let long : length (each (slices_of w) cell) ≡ slices_of w = length-map-range_with_len cell 0 (slices_of w) in
    unit_here z T R u (slices_of w) cell (omega (arith, some)) (λ i l. record { a = there_wider z T (R u) wide (byte x i) (there_at z T x i h); hi = own i (omega (arith, l, size, long)); lo = tt; c = tt; carry = tt; shift = omega arith }) s

later_read : (z : ℕ → ℕ) (R : ℕ → ℕ → ℕ → Type 0) (u w init k : ℕ) → 1 ≤ w → ((n j : ℕ) → n + 1 < k → j < z (u + n) → R (u + (n + 1)) (u + n) j) → z u ≡ slices_of w → Sized z (suc u) (each (k - 1) (λ j. each (slices_of w) (later_cell init (u + j)))) → UnitsRead z R (suc u) (each (k - 1) (λ j. each (slices_of w) (later_cell init (u + j))))
later_read z R u w init k some h size s =
    let first : u + 0 ≡ u = omega arith in
    let second : u + (0 + 1) ≡ suc u = omega arith in
    subst (λ (n : ℕ). UnitsRead z R n (each (k - 1) (λ j. each (slices_of w) (later_cell init (u + j))))) second (go 0 (k - 1) (omega arith) (ap z first ∙ size) (subst (λ (n : ℕ). Sized z n (each (k - 1) (λ j. each (slices_of w) (later_cell init (u + j))))) (sym second) s))
  where
    go : (a m : ℕ) → a + m ≤ k - 1 → z (u + a) ≡ slices_of w → Sized z (u + (a + 1)) (map (λ j. each (slices_of w) (later_cell init (u + j))) (range_with_len a m)) → UnitsRead z R (u + (a + 1)) (map (λ j. each (slices_of w) (later_cell init (u + j))) (range_with_len a m))
    go a zero l e t = tt
    go a (suc m) l e t =
        let next : u + (a + 1 + 1) ≡ suc (u + (a + 1)) = omega arith in
        let now : z (u + (a + 1)) ≡ slices_of w = t.0 ∙ length-map-range_with_len (later_cell init (u + a)) 0 (slices_of w) in (
          (some_each (slices_of w) (later_cell init (u + a)) (omega (arith, some)), each_below z (R (u + (a + 1))) (slices_of w) (later_cell init (u + a)) (λ i r. record { a = h a i (omega (arith, l)) (omega (arith, r, e)); hi = tt; lo = tt; c = tt; carry = tt; shift = omega arith })),
          subst (λ (n : ℕ). UnitsRead z R n (map (λ j. each (slices_of w) (later_cell init (u + j))) (range_with_len (a + 1) m))) next (go (a + 1) m (omega (arith, l)) now (subst (λ (n : ℕ). Sized z n (map (λ j. each (slices_of w) (later_cell init (u + j))) (range_with_len (a + 1) m))) (sym next) t.1)),
        )

fit_holds : (z : ℕ → ℕ) (T Q : ℕ → ℕ → Type 0) (R : ℕ → ℕ → ℕ → Type 0) (u w init k : ℕ) (x : List Slice) → 1 ≤ w → AreThere z T x → MayRead T R u (u + 1) → ((n j : ℕ) → n + 1 < k → j < z (u + n) → R (u + (n + 1)) (u + n) j) → Sized z u (hold_units w init k x u).units → FitHere z Q R u (hold_units w init k x u)
fit_holds z T Q R u w init k x some h m own s =
    let wide : Wider T (R u) = record { at = λ v j t. m.at u v j (omega arith) (omega arith) t } in
    let p = unit_here z Q R u (slices_of w) (hold_cell w init x) (omega (arith, some)) (λ i l. record { a = there_wider z T (R u) wide (byte x i) (there_at z T x i h); hi = tt; lo = tt; c = tt; carry = tt; shift = omega arith }) (s.0, tt) in
    let size : z u ≡ slices_of w = s.0 ∙ length-map-range_with_len (hold_cell w init x) 0 (slices_of w) in
    record { units = (p.units.0, later_read z R u w init k some own size s.1); slices = p.slices }

fit_held : (z : ℕ → ℕ) (T Q : ℕ → ℕ → Type 0) (R : ℕ → ℕ → ℕ → Type 0) (u w init k : ℕ) (body : Argument) → 1 ≤ w → 1 ≤ k → AreThere z T body.slices → MayRead T R u (u + length (held w init k body u).units) → ((n j : ℕ) → n + 1 < k → j < z (u + widening_count body.form w + n) → R (u + widening_count body.form w + (n + 1)) (u + widening_count body.form w + n) j) → Sized z u (held w init k body u).units → FitHere z Q R u (held w init k body u)
fit_held z T Q R u w init k body some one h m own s =
    let us = (widened body w u).units in
    let x = (widened body w u).slices in
    let count : length us ≡ widening_count body.form w = (takes_widened body w).at u in
    let v : ℕ = u + length us in
    let vs = (hold_units w init k x v).units in
    let both = sized-append z u us vs s in
    let long : length (us ++ vs) ≡ length us + length vs = length-append us vs in
    let p = fit_here z T R u (widened body w) (fit_widened z T body w h) (record { at = λ q b j l r t. m.at q b j l (omega (arith, r, long)) t }) both.0 in
    let some_units : 1 ≤ length vs = omega arith in
    let q = fit_holds z T Q R v w init k x some p.slices (record { at = λ q b j l r t. m.at q b j (omega (arith, l)) (omega (arith, r, long, some_units)) t })
    (subst (λ (n : ℕ). (i j : ℕ) → i + 1 < k → j < z (u + n + i) → R (u + n + (i + 1)) (u + n + i) j) (sym count) own) both.1 in
    record { units = reads-append z R u us vs p.units q.units; slices = q.slices }

-- ---- equations
fit_wide : (z : ℕ → ℕ) (T Q : ℕ → ℕ → Type 0) (R : ℕ → ℕ → ℕ → Type 0) (u : ℕ) (p : Part) → Wider T Q → FitHere z T R u p → FitHere z Q R u p
fit_wide z T Q R u p m f = record { units = f.units; slices = slices_wider z T Q m p.slices f.slices }

pub fit_equation : (z : ℕ → ℕ) (S V R : ℕ → ℕ → ℕ → Type 0) (plan : UnitPlan) (i u : ℕ) (op : Op) (args : List Argument) → length args ≡ arity op → 1 ≤ slice_index plan.widths i → ThereArguments z (S i) args → (is_stated op ≡ false → 1 ≤ computed_bits (slice_index plan.widths i) op (argument_forms args))
    → (is_input op ≡ true → AreThere z (V i) (input_slices plan i)) → 1 ≤ hold_count plan.equations i → (is_rec op ≡ false → Wider (S i) (V i))
    → MayRead (S i) R u (u + length (equation_units plan i op args u).units) → ReadsOwn z R u (u + body_count (slice_index plan.widths i) (argument_forms args)) (hold_count plan.equations i) op
    → Sized z u (equation_units plan i op args u).units → FitHere z (V i) R u (equation_units plan i op args u)
fit_equation z S V R plan i u Op.Input args long wide h bits inp one keep m own s = record { units = tt; slices = inp refl }
fit_equation z S V R plan i u (Op.Delay c) (x ∷ []) long wide h bits inp one keep m own s = fit_wide z (S i) (V i) R u _ (keep refl) (fit_delayed z (S i) R u (slice_index plan.widths i) c x.slices wide h.0.0 m (λ j l. own.delay c j refl l) s)
fit_equation z S V R plan i u (Op.Delay c) [] long wide h bits inp one keep m own s = absurd (omega (arith, long))
fit_equation z S V R plan i u (Op.Delay c) (x ∷ y ∷ args) long wide h bits inp one keep m own s = absurd (omega (arith, long))
fit_equation z S V R plan i u (Op.Rec init first) (body ∷ []) long wide h bits inp one keep m own s = fit_held z (S i) (V i) R u (slice_index plan.widths i) init (hold_count plan.equations i) body wide one h.0.0 m (λ n j l r. own.hold init first n j refl l r) s
fit_equation z S V R plan i u (Op.Rec init first) [] long wide h bits inp one keep m own s = absurd (omega (arith, long))
fit_equation z S V R plan i u (Op.Rec init first) (x ∷ y ∷ args) long wide h bits inp one keep m own s = absurd (omega (arith, long))
fit_equation z S V R plan i u op args long wide h bits inp one keep m own s = fit_wide z (S i) (V i) R u _ (keep refl) (fit_here z (S i) R u (equation_units plan i op args) (fit_at z (S i) (slice_index plan.widths i) op args (bits refl) h) m s)

-- ---- operands
-- the slices of equations from number m on
abbrev pub ValuesThere : (ℕ → ℕ) → (ℕ → ℕ → ℕ → Type 0) → ℕ → List (List Slice) → Type 0
ValuesThere z S m [] = Unit {0}
ValuesThere z S m (x ∷ values) = AreThere z (S m) x × ValuesThere z S (suc m) values

pub value_there : (z : ℕ → ℕ) (S : ℕ → ℕ → ℕ → Type 0) (m : ℕ) (values : List (List Slice)) (i : ℕ) → ValuesThere z S m values → AreThere z (S (m + i)) (slice_index_or values i [])
value_there z S m [] i h = tt
value_there z S m (x ∷ values) zero h = let e : m ≡ m + 0 = omega arith in subst (λ (n : ℕ). AreThere z (S n) x) e h.0
value_there z S m (x ∷ values) (suc i) h = let e : suc m + i ≡ m + suc i = omega arith in subst (λ (n : ℕ). AreThere z (S n) (slice_index_or values i [])) e (value_there z S (suc m) values i h.1)

values_push : (z : ℕ → ℕ) (S : ℕ → ℕ → ℕ → Type 0) (m : ℕ) (values : List (List Slice)) (x : List Slice) → ValuesThere z S m values → AreThere z (S (m + length values)) x → ValuesThere z S m (values ++ x ∷ [])
values_push z S m [] x h k = let e : m + 0 ≡ m = omega arith in (subst (λ (n : ℕ). AreThere z (S n) x) e k, tt)
values_push z S m (y ∷ values) x h k = let e : m + suc (length values) ≡ suc m + length values = omega arith in (h.0, values_push z S (suc m) values x h.1 (subst (λ (n : ℕ). AreThere z (S n) x) e k))

-- what equation i may take: states of what it reads, and pasts
abbrev pub MayTake : (ℕ → ℕ → ℕ → Type 0) → (ℕ → ℕ → ℕ → Type 0) → UnitPlan → ℕ → Operand → Type 0
MayTake S V plan i (Operand.Const c) = Unit {0}
MayTake S V plan i (Operand.Eq m) = Wider (V m) (S i)
MayTake S V plan i (Operand.Past rec k) = (j : ℕ) → j < slices_of (slice_index plan.widths rec) → S i (hold_unit plan rec + (k - 1)) j

abbrev pub MayTakeAll : (ℕ → ℕ → ℕ → Type 0) → (ℕ → ℕ → ℕ → Type 0) → UnitPlan → ℕ → List Operand → Type 0
MayTakeAll S V plan i [] = Unit {0}
MayTakeAll S V plan i (a ∷ args) = MayTake S V plan i a × MayTakeAll S V plan i args

pub bytes_there : (z : ℕ → ℕ) (T : ℕ → ℕ → Type 0) (k c : ℕ) → AreThere z T (map (λ b. Slice.Const b) (bytes_of k c))
bytes_there z T zero c = tt
bytes_there z T (suc k) c = (tt, bytes_there z T k (c / 256))

operand_there : (z : ℕ → ℕ) (S V : ℕ → ℕ → ℕ → Type 0) (plan : UnitPlan) (values : List (List Slice)) (i : ℕ) (a : Operand) → ValuesThere z V 0 values → MayTake S V plan i a → AreThere z (S i) (operand_slices plan values a)
operand_there z S V plan values i (Operand.Const c) h m = bytes_there z (S i) (slices_of (number_width c)) c
operand_there z S V plan values i (Operand.Eq n) h m =
    let e : 0 + n ≡ n = omega arith in
    slices_wider z (V n) (S i) m (slice_index_or values n []) (subst (λ (q : ℕ). AreThere z (V q) (slice_index_or values n [])) e (value_there z V 0 values n h))
operand_there z S V plan values i (Operand.Past rec k) h m = there-each z (S i) (slices_of (slice_index plan.widths rec)) (λ j. Slice.State (hold_unit plan rec + (k - 1)) j) m

arguments_there : (z : ℕ → ℕ) (S V : ℕ → ℕ → ℕ → Type 0) (plan : UnitPlan) (values : List (List Slice)) (i : ℕ) (args : List Operand) (kinds : List Bool) → ValuesThere z V 0 values → MayTakeAll S V plan i args → WideOperands plan.widths args → ThereArguments z (S i) (arguments plan values args kinds)
arguments_there z S V plan values i [] kinds h m w = tt
arguments_there z S V plan values i (a ∷ args) [] h m w = tt
arguments_there z S V plan values i (a ∷ args) (kind ∷ kinds) h m w = ((operand_there z S V plan values i a h m.0, w.0), arguments_there z S V plan values i args kinds h m.1 w.1)

-- ---- the fold
-- what an equation with units asks of sizes and states
pub record IsAllowed (z : ℕ → ℕ) (S V R : ℕ → ℕ → ℕ → Type 0) (plan : UnitPlan) (i : ℕ) (e : EquationShape) : Type 0 where
  pub width : 1 ≤ slice_index plan.widths i
  pub input : is_input e.op ≡ true → AreThere z (V i) (input_slices plan i)
  pub keeps : is_rec e.op ≡ false → Wider (S i) (V i)
  pub takes : MayTakeAll S V plan i e.args
  pub may : MayRead (S i) R (first_unit plan i) (first_unit plan i + own_count plan.equations plan.widths i e e.op)
  pub own : ReadsOwn z R (first_unit plan i) (first_unit plan i + body_count (slice_index plan.widths i) (forms_in plan.widths e)) (hold_count plan.equations i) e.op

abbrev pub AreAllowed : (ℕ → ℕ) → (ℕ → ℕ → ℕ → Type 0) → (ℕ → ℕ → ℕ → Type 0) → (ℕ → ℕ → ℕ → Type 0) → UnitPlan → ℕ → List EquationShape → Type 0
AreAllowed z S V R plan i [] = Unit {0}
AreAllowed z S V R plan i (e ∷ rest) = (has_units plan i e ≡ true → IsAllowed z S V R plan i e) × AreAllowed z S V R plan (suc i) rest

some_holds : (n : ℕ) → 1 ≤ max 1 n
some_holds n = omega arith

fit_own : (z : ℕ → ℕ) (S V R : ℕ → ℕ → ℕ → Type 0) (plan : UnitPlan) (cut : Cut) (e : EquationShape) → length cut.units ≡ first_unit plan (length cut.values) → IsCounted plan (length cut.values) e → ValuesThere z V 0 cut.values → IsAllowed z S V R plan (length cut.values) e
    → Sized z (length cut.units) (equation_units plan (length cut.values) e.op (arguments plan cut.values e.args e.kinds) (length cut.units)).units
    → FitHere z (V (length cut.values)) R (length cut.units) (equation_units plan (length cut.values) e.op (arguments plan cut.values e.args e.kinds) (length cut.units))
fit_own z S V R plan cut e at c h a s =
    let i : ℕ = length cut.values in
    let n : ℕ = length cut.units in
    let w : ℕ = slice_index plan.widths i in
    let args = arguments plan cut.values e.args e.kinds in
    let forms : argument_forms args ≡ forms_in plan.widths e = forms_are plan cut.values e.args e.kinds in
    let count : length (equation_units plan i e.op args n).units ≡ own_count plan.equations plan.widths i e e.op = (takes_own plan cut.values i e c).at n in
    fit_equation z S V R plan i n e.op args (length-arguments plan cut.values e.args e.kinds (arity e.op) c.args c.kinds) a.width
    (arguments_there z S V plan cut.values i e.args e.kinds h a.takes c.wide)
    (λ q. subst (λ (fs : List Form). 1 ≤ computed_bits w e.op fs) (sym forms) (c.bits q))
    a.input (some_holds _) a.keeps
    (subst (λ (m : ℕ). MayRead (S i) R n (n + m)) (sym count) (subst (λ (m : ℕ). MayRead (S i) R m (m + own_count plan.equations plan.widths i e e.op)) (sym at) a.may))
    (subst (λ (fs : List Form). ReadsOwn z R n (n + body_count w fs) (hold_count plan.equations i) e.op) (sym forms) (subst (λ (m : ℕ). ReadsOwn z R m (m + body_count w (forms_in plan.widths e)) (hold_count plan.equations i) e.op) (sym at) a.own))
    s

fit_next : (z : ℕ → ℕ) (S V R : ℕ → ℕ → ℕ → Type 0) (plan : UnitPlan) (cut : Cut) (e : EquationShape) → length cut.units ≡ first_unit plan (length cut.values) → IsCounted plan (length cut.values) e → ValuesThere z V 0 cut.values → (has_units plan (length cut.values) e ≡ true → IsAllowed z S V R plan (length cut.values) e)
    → Sized z (length cut.units) (next_units plan cut e (length cut.units)).units → FitHere z (V (length cut.values)) R (length cut.units) (next_units plan cut e (length cut.units))
fit_next z S V R plan cut e at c h a s = go (has_units plan (length cut.values) e) refl s
  where
    made : Making
    made = equation_units plan (length cut.values) e.op (arguments plan cut.values e.args e.kinds)

    chosen : Bool → Part
    chosen b = (if b then made else kept []) (length cut.units)

    go : (b : Bool) → has_units plan (length cut.values) e ≡ b → Sized z (length cut.units) (chosen b).units → FitHere z (V (length cut.values)) R (length cut.units) (chosen b)
    go true q t = fit_own z S V R plan cut e at c h (a q) t
    go false q t = record { units = tt; slices = tt }

-- the units that these equations add
abbrev pub added_after : UnitPlan → Cut → List EquationShape → List (List Cell)
added_after plan cut [] = []
added_after plan cut (e ∷ rest) = (next_units plan cut e (length cut.units)).units ++ added_after plan (cut_next plan cut e) rest

pub added_is : (plan : UnitPlan) (cut : Cut) (rest : List EquationShape) → (cut_after plan cut rest).units ≡ cut.units ++ added_after plan cut rest
added_is plan cut [] = sym (append-nil cut.units)
added_is plan cut (e ∷ rest) = added_is plan (cut_next plan cut e) rest ∙ append_assoc cut.units (next_units plan cut e (length cut.units)).units (added_after plan (cut_next plan cut e) rest)

pub sum_push : (xs : List ℕ) (c : ℕ) → sum (xs ++ c ∷ []) ≡ sum xs + c
sum_push [] c = sum_by-cons (λ (k : ℕ). k) c [] ∙ omega arith
sum_push (x ∷ xs) c = omega (arith, sum_by-cons (λ (k : ℕ). k) x (xs ++ c ∷ []), sum_by-cons (λ (k : ℕ). k) x xs, sum_push xs c)

-- the first unit of an equation, by the counts of those before it
pub first_by : (plan : UnitPlan) (i : ℕ) (done more : List ℕ) → plan.counts ≡ done ++ more → length done ≡ i → first_unit plan i ≡ count_by (λ (e : EquationShape). is_input e.op) plan.equations + sum done
first_by plan i done more is long =
    let e : take i plan.counts ≡ done = ap (take i) is ∙ ap (λ (n : ℕ). take n (done ++ more)) (sym long) ∙ take-append_seam done more in
    ap (λ (xs : List ℕ). count_by (λ (e : EquationShape). is_input e.op) plan.equations + sum xs) e

pub record FitAfter (z : ℕ → ℕ) (V R : ℕ → ℕ → ℕ → Type 0) (n : ℕ) (us : List (List Cell)) (vs : List (List Slice)) : Type 0 where
  pub units : UnitsRead z R n us
  pub values : ValuesThere z V 0 vs

pub fit_after : (z : ℕ → ℕ) (S V R : ℕ → ℕ → ℕ → Type 0) (plan : UnitPlan) (cut : Cut) (i : ℕ) (rest : List EquationShape) (done : List ℕ) (flags : List Bool) → length cut.values ≡ i → plan.counts ≡ done ++ counts_from plan.equations plan.widths i rest flags → length done ≡ i → length flags ≡ length rest → Flags plan i flags
    → AreCounted plan i rest → AreAllowed z S V R plan i rest → length cut.units ≡ count_by (λ (e : EquationShape). is_input e.op) plan.equations + sum done → ValuesThere z V 0 cut.values → Sized z (length cut.units) (added_after plan cut rest)
    → FitAfter z V R (length cut.units) (added_after plan cut rest) (cut_after plan cut rest).values
fit_after z S V R plan cut i [] done flags long counts past same f c a at h s = record { units = tt; values = h }
fit_after z S V R plan cut i (e ∷ rest) done [] long counts past same f c a at h s = absurd (omega (arith, same))
fit_after z S V R plan cut i (e ∷ rest) done (b ∷ flags) long counts past same f c a at h s =
    let n : ℕ = length cut.units in
    let p = next_units plan cut e n in
    let own : ℕ → ℕ = λ k. own_count plan.equations plan.widths k e e.op in
    let now : ℕ = if b then own i else 0 in
    let more = counts_from plan.equations plan.widths (suc i) rest flags in
    let both = sized-append z n p.units (added_after plan (cut_next plan cut e) rest) s in
    let counted : IsCounted plan (length cut.values) e = subst (λ (k : ℕ). IsCounted plan k e) (sym long) c.0 in
    let taken : length p.units ≡ (if slice_index_or plan.reached (length cut.values) false then own (length cut.values) else 0) = (next_count plan cut e counted).at n in
    let count : length p.units ≡ now = taken ∙ ap (λ (k : ℕ). if slice_index_or plan.reached k false then own k else 0) long ∙ ap (λ (t : Bool). if t then own i else 0) (flags_first plan i b flags f) in
    let here : n ≡ first_unit plan (length cut.values) = at ∙ sym (first_by plan (length cut.values) done (now ∷ more) counts (past ∙ sym long)) in
    let q = fit_next z S V R plan cut e here counted h (subst (λ (k : ℕ). has_units plan k e ≡ true → IsAllowed z S V R plan k e) (sym long) a.0) both.0 in
    let size : length (cut.units ++ p.units) ≡ n + length p.units = length-append cut.units p.units in
    let next : length (cut.values ++ p.slices ∷ []) ≡ suc i = length-append cut.values (p.slices ∷ []) ∙ omega (arith, long) in
    let zero_plus : length cut.values ≡ 0 + length cut.values = omega arith in
    let t = fit_after z S V R plan (cut_next plan cut e) (suc i) rest (done ++ now ∷ []) flags next (counts ∙ sym (append_assoc done (now ∷ []) more)) (length-append done (now ∷ []) ∙ omega (arith, past)) (omega (arith, same)) (flags_more plan i b flags f) c.1 a.1
    (size ∙ omega (arith, at, count, sum_push done now))
    (values_push z V 0 cut.values p.slices h (subst (λ (m : ℕ). AreThere z (V m) p.slices) zero_plus q.slices))
    (subst (λ (k : ℕ). Sized z k (added_after plan (cut_next plan cut e) rest)) (sym size) both.1) in
    record {
      units = reads-append z R n p.units (added_after plan (cut_next plan cut e) rest) q.units (subst (λ (k : ℕ). UnitsRead z R k (added_after plan (cut_next plan cut e) rest)) size t.units);
      values = t.values;
    }
