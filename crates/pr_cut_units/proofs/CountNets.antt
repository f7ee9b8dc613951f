-- How many units each equation makes, and where they stand.
use Rattle.std.proofs.Common.{◌≡◌, ◌≤◌, ℕ, zero, suc, ◌+◌, ◌-◌, ◌||◌, Bool, true, false, List, [], ◌∷◌, ◌++◌, length, subst, refl, sym, ap, ◌∙◌, arith, length-append}
use Rattle.std.specs.Prelude.{count_by, slice_index, slice_index_or, max}
use Rattle.std.specs.Bool.{if◌then◌else◌}
use Rattle.std.specs.List.{sum}
use Rattle.std.proofs.lemmas.List.Sums.{sum_by-cons}
use Rattle.pr_base.specs.Numbers.{slices_of}
use Rattle.pr_flat.specs.declared.equations.Operand.{Operand}
use Rattle.pr_flat.specs.declared.equations.Op.{Op}
use Rattle.pr_flat.specs.declared.forms.Form.{Form}
use Rattle.pr_flat.specs.Shape.{EquationShape}
use Rattle.pr_flat.specs.Facts.{arity}
use Rattle.pr_flat.specs.Widths.{operand_width, operand_forms, forms_in}
use Rattle.pr_net.specs.declared.cells.Slice.{Slice}
use Rattle.pr_cut_units.specs.Parts.{each, kept}
use Rattle.pr_cut_units.specs.Widening.{Argument, widened}
use Rattle.pr_cut_units.specs.States.{later_cell, hold_units, held}
use Rattle.pr_cut_units.specs.Table.{argument_forms, computed_bits}
use Rattle.pr_cut_units.specs.Counts.{widening_count, body_count, count_at}
use Rattle.pr_cut_units.specs.Reached.{hold_count, reached_from}
use Rattle.pr_flat.specs.Facts.{is_input}
use Rattle.pr_cut_units.proofs.GoodNets.{WideOperands, inputs_count}
use Rattle.pr_cut_units.specs.Equations.{plan_of, cut_start, cut_whole, Cut, next_units, cut_next, cut_after, counts_from, UnitPlan, own_count, arguments, equation_units}
use Rattle.pr_cut_units.proofs.EachLemmas.{length-each}
use Rattle.pr_cut_units.proofs.CountTable.{Takes, takes_kept, takes_then, takes_widened, WideForms, takes_at}

-- operands have the forms that widths and kinds give them
pub forms_are : (plan : UnitPlan) (values : List (List Slice)) (args : List Operand) (kinds : List Bool) → argument_forms (arguments plan values args kinds) ≡ operand_forms plan.widths args kinds
forms_are plan values [] kinds = refl
forms_are plan values (a ∷ args) [] = refl
forms_are plan values (a ∷ args) (kind ∷ kinds) = ap (λ (fs : List Form). record { signed = kind; width = operand_width plan.widths a } ∷ fs) (forms_are plan values args kinds)

takes_holds : (w init k : ℕ) (x : List Slice) → 1 ≤ k → Takes (hold_units w init k x) k
takes_holds w init k x h = record { at = λ u. omega (arith, length-each (λ j. each (slices_of w) (later_cell init (u + j))) (k - 1)) }

pub takes_held : (w init k : ℕ) (body : Argument) → 1 ≤ k → Takes (held w init k body) (widening_count body.form w + k)
takes_held w init k body h = takes_then (widened body w) (λ x. hold_units w init k x) (widening_count body.form w) k (takes_widened body w) (λ x. takes_holds w init k x h)

-- operations whose width is not computed from their operands alone
abbrev pub is_stated : Op → Bool
is_stated Op.Input = true
is_stated (Op.Delay c) = true
is_stated (Op.Rec init first) = true
is_stated op = false

-- how many units an operation has, from the forms of its operands
abbrev pub made_count : List EquationShape → List ℕ → ℕ → Op → List Form → ℕ
made_count equations widths i Op.Input fs = 0
made_count equations widths i (Op.Delay c) fs = 1
made_count equations widths i (Op.Rec init first) fs = body_count (slice_index widths i) fs + hold_count equations i
made_count equations widths i op fs = count_at (slice_index widths i) op fs

pub own_count_is : (equations : List EquationShape) (widths : List ℕ) (i : ℕ) (e : EquationShape) (op : Op) → own_count equations widths i e op ≡ made_count equations widths i op (forms_in widths e)
own_count_is equations widths i e Op.Input = refl
own_count_is equations widths i e (Op.Delay c) = refl
own_count_is equations widths i e (Op.Rec init first) = refl
own_count_is equations widths i e op = refl

some_holds : (n : ℕ) → 1 ≤ max 1 n
some_holds n = omega arith

pub takes_equation : (plan : UnitPlan) (i : ℕ) (op : Op) (args : List Argument) → length args ≡ arity op → WideForms args → (is_stated op ≡ false → 1 ≤ computed_bits (slice_index plan.widths i) op (argument_forms args)) → Takes (equation_units plan i op args) (made_count plan.equations plan.widths i op (argument_forms args))
takes_equation plan i Op.Input args long w b = record { at = λ u. refl }
takes_equation plan i (Op.Delay c) (x ∷ []) long w b = record { at = λ u. refl }
takes_equation plan i (Op.Delay c) [] long w b = absurd (omega arith)
takes_equation plan i (Op.Delay c) (x ∷ y ∷ args) long w b = absurd (omega arith)
takes_equation plan i (Op.Rec init first) (body ∷ []) long w b = takes_held (slice_index plan.widths i) init (hold_count plan.equations i) body (some_holds _)
takes_equation plan i (Op.Rec init first) [] long w b = absurd (omega arith)
takes_equation plan i (Op.Rec init first) (x ∷ y ∷ args) long w b = absurd (omega arith)
takes_equation plan i op args long w b = takes_at (slice_index plan.widths i) op args (b refl) w

-- ---- the fold
-- what the counts ask of equation i: its operands as many as the operation has, each with a width, and a width of its own
pub record IsCounted (plan : UnitPlan) (i : ℕ) (e : EquationShape) : Type 0 where
  pub args : length e.args ≡ arity e.op
  pub kinds : length e.kinds ≡ arity e.op
  pub wide : WideOperands plan.widths e.args
  pub bits : is_stated e.op ≡ false → 1 ≤ computed_bits (slice_index plan.widths i) e.op (forms_in plan.widths e)

abbrev pub AreCounted : UnitPlan → ℕ → List EquationShape → Type 0
AreCounted plan i [] = Unit {0}
AreCounted plan i (e ∷ rest) = IsCounted plan i e × AreCounted plan (suc i) rest

pub wide_forms : (plan : UnitPlan) (values : List (List Slice)) (args : List Operand) (kinds : List Bool) → WideOperands plan.widths args → WideForms (arguments plan values args kinds)
wide_forms plan values [] kinds h = tt
wide_forms plan values (a ∷ args) [] h = tt
wide_forms plan values (a ∷ args) (kind ∷ kinds) h = (h.0, wide_forms plan values args kinds h.1)

pub length-arguments : (plan : UnitPlan) (values : List (List Slice)) (args : List Operand) (kinds : List Bool) (n : ℕ) → length args ≡ n → length kinds ≡ n → length (arguments plan values args kinds) ≡ n
length-arguments plan values [] kinds n h k = h
length-arguments plan values (a ∷ args) [] n h k = absurd (omega arith)
length-arguments plan values (a ∷ args) (kind ∷ kinds) zero h k = absurd (omega arith)
length-arguments plan values (a ∷ args) (kind ∷ kinds) (suc n) h k = ap suc (length-arguments plan values args kinds n (omega arith) (omega arith))

-- the units of equation i are as many as counted
pub takes_own : (plan : UnitPlan) (values : List (List Slice)) (i : ℕ) (e : EquationShape) → IsCounted plan i e → Takes (equation_units plan i e.op (arguments plan values e.args e.kinds)) (own_count plan.equations plan.widths i e e.op)
takes_own plan values i e c =
    let args = arguments plan values e.args e.kinds in
    let forms : argument_forms args ≡ forms_in plan.widths e = forms_are plan values e.args e.kinds in
    let bits : is_stated e.op ≡ false → 1 ≤ computed_bits (slice_index plan.widths i) e.op (argument_forms args) = λ s. subst (λ (fs : List Form). 1 ≤ computed_bits (slice_index plan.widths i) e.op fs) (sym forms) (c.bits s) in
    let t = takes_equation plan i e.op args (length-arguments plan values e.args e.kinds (arity e.op) c.args c.kinds) (wide_forms plan values e.args e.kinds c.wide) bits in
    record { at = λ u. t.at u ∙ ap (made_count plan.equations plan.widths i e.op) forms ∙ sym (own_count_is plan.equations plan.widths i e e.op) }

-- an equation that has no units counts none, and an input none of its own
pub next_count : (plan : UnitPlan) (cut : Cut) (e : EquationShape) → IsCounted plan (length cut.values) e → Takes (next_units plan cut e) (if slice_index_or plan.reached (length cut.values) false then own_count plan.equations plan.widths (length cut.values) e e.op else 0)
next_count plan cut e c = go e.op refl (slice_index_or plan.reached (length cut.values) false)
  where
    own : Takes (equation_units plan (length cut.values) e.op (arguments plan cut.values e.args e.kinds)) (own_count plan.equations plan.widths (length cut.values) e e.op)
    own = takes_own plan cut.values (length cut.values) e c

    all : (b : Bool) → is_input e.op ≡ false → Takes (if is_input e.op || b then equation_units plan (length cut.values) e.op (arguments plan cut.values e.args e.kinds) else kept []) (if b then own_count plan.equations plan.widths (length cut.values) e e.op else 0)
    all true h = rw h own
    all false h = rw h (takes_kept [])

    go : (op : Op) → e.op ≡ op → (b : Bool) → Takes (if is_input e.op || b then equation_units plan (length cut.values) e.op (arguments plan cut.values e.args e.kinds) else kept []) (if b then own_count plan.equations plan.widths (length cut.values) e e.op else 0)
    go Op.Input is true = rw is (record { at = λ u. refl })
    go Op.Input is false = rw is (record { at = λ u. refl })
    go op is b = all b (ap is_input is)

-- the flag of an equation, and those of the equations after it
pub record Flags (plan : UnitPlan) (i : ℕ) (flags : List Bool) : Type 0 where
  pub at : (j : ℕ) → slice_index_or plan.reached (i + j) false ≡ slice_index_or flags j false

pub flags_more : (plan : UnitPlan) (i : ℕ) (b : Bool) (flags : List Bool) → Flags plan i (b ∷ flags) → Flags plan (suc i) flags
flags_more plan i b flags f = record { at = λ j. ap (λ (k : ℕ). slice_index_or plan.reached k false) (omega arith) ∙ f.at (suc j) }

pub flags_first : (plan : UnitPlan) (i : ℕ) (b : Bool) (flags : List Bool) → Flags plan i (b ∷ flags) → slice_index_or plan.reached i false ≡ b
flags_first plan i b flags f = ap (λ (k : ℕ). slice_index_or plan.reached k false) (omega arith) ∙ f.at 0

-- the fold has so many units more as the equations count
pub count_after : (plan : UnitPlan) (cut : Cut) (i : ℕ) (rest : List EquationShape) (flags : List Bool) → length cut.values ≡ i → length flags ≡ length rest → Flags plan i flags → AreCounted plan i rest → length (cut_after plan cut rest).units ≡ length cut.units + sum (counts_from plan.equations plan.widths i rest flags)
count_after plan cut i [] flags long same f c = omega arith
count_after plan cut i (e ∷ rest) [] long same f c = absurd (omega arith)
count_after plan cut i (e ∷ rest) (b ∷ flags) long same f c =
    let n : ℕ = length cut.units in
    let p = next_units plan cut e n in
    let own : ℕ → ℕ = λ k. own_count plan.equations plan.widths k e e.op in
    let taken : length p.units ≡ (if slice_index_or plan.reached (length cut.values) false then own (length cut.values) else 0) = (next_count plan cut e (subst (λ (k : ℕ). IsCounted plan k e) (sym long) c.0)).at n in
    let now : length p.units ≡ (if b then own i else 0) = taken ∙ ap (λ (k : ℕ). if slice_index_or plan.reached k false then own k else 0) long ∙ ap (λ (t : Bool). if t then own i else 0) (flags_first plan i b flags f) in
    let more : length (cut.units ++ p.units) ≡ n + length p.units = length-append cut.units p.units in
    let next : length (cut.values ++ p.slices ∷ []) ≡ suc i = length-append cut.values (p.slices ∷ []) ∙ omega (arith, long) in
    let ih = count_after plan (cut_next plan cut e) (suc i) rest flags next (omega (arith, same)) (flags_more plan i b flags f) c.1 in
    ih ∙ omega (arith, more, now, sum_by-cons (λ (k : ℕ). k) (if b then own i else 0) (counts_from plan.equations plan.widths (suc i) rest flags))

pub length-reached : (outputs : List Operand) (i : ℕ) (equations : List EquationShape) → length (reached_from outputs i equations) ≡ length equations
length-reached outputs i [] = refl
length-reached outputs i (e ∷ equations) = ap suc (length-reached outputs (suc i) equations)

-- the net of equations has as many units as its inputs and its equations count
pub count_whole : (equations : List EquationShape) (widths : List ℕ) (outputs : List Operand) → AreCounted (plan_of equations widths outputs) 0 equations → length (cut_whole (plan_of equations widths outputs)).units ≡ count_by (λ (e : EquationShape). is_input e.op) equations + sum (plan_of equations widths outputs).counts
count_whole equations widths outputs c =
    let plan = plan_of equations widths outputs in
    count_after plan (cut_start equations) 0 equations plan.reached refl (length-reached outputs 0 equations) (record { at = λ j. ap (λ (k : ℕ). slice_index_or plan.reached k false) (omega arith) }) c
    ∙ ap (λ (k : ℕ). k + sum plan.counts) (inputs_count 0 equations)
