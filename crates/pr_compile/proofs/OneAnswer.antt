-- A net has one refusal at most, equations one configuration, and a text one refusal or one configuration.
use Rattle.std.proofs.Common.{◌≡◌, ◌⊎◌, ℕ, Bool, Some, None, List, refl, sym, ap, ap₂, ◌∙◌, subst, inl, inr}
use Rattle.pr_lang.specs.declared.trees.Program.{Program}
use Rattle.pr_flat.specs.declared.equations.Operand.{Operand}
use Rattle.pr_flat.specs.Shape.{EquationShape}
use Rattle.pr_expand_spec.specs.Programs.{Flattened, equations_of}
use Rattle.pr_net.specs.Shape.{NetShape}
use Rattle.pr_cut_units.specs.Nets.{net_of}
use Rattle.pr_place.specs.Placements.{HomeShape, PlacementShape}
use Rattle.pr_place.proofs.OneAnswer.{one_placement, not_both}
use Rattle.pr_place.proofs.Stuck.{one_no_fit}
use Rattle.pr_conf.specs.Shape.{Shape}
use Rattle.pr_route.specs.Conf.{conf_of}
use Rattle.pr_compile_front.specs.declared.faults.FrontFault.{FrontFault}
use Rattle.pr_compile_front.specs.declared.faults.FrontFault.TheVariants as front
use Rattle.pr_compile_front.specs.Refusals.{HasWidths, IsRefusal}
use Rattle.pr_compile_front.proofs.OneRefusal.{one-refusal, no-refusal}
use Rattle.pr_compile.specs.declared.faults.CompileFault.{CompileFault}
use Rattle.pr_compile.specs.declared.faults.CompileFault.TheVariants.{Syntax, Scope, NoWidth, NoFit, Limit, Memory}
use Rattle.pr_compile.specs.Configured.{net_by, IsConfigured, IsConfiguredBy, IsCompiled}
use Rattle.pr_compile.specs.Refusals.{IsNetRefusal, IsUnfit, HasNetRefusal, IsRefused}
use Rattle.pr_compile.specs.Faults.{front_fault}
use Rattle.pr_compile.proofs.Ready.{ready_also, holds_also}
use Rattle.pr_compile.proofs.Programs.{same_equations, configured_also}

-- ---- nets and equations
same_placement : (p q : PlacementShape) → (p.stages ≡ q.stages) × (p.homes ≡ q.homes) → p ≡ q
same_placement p q e = ap₂ (λ (s : ℕ) (homes : List HomeShape). record { stages = s; homes = homes }) e.0 e.1

pub one_configuration : (N P : ℕ) (equations : List EquationShape) (widths : List ℕ) (outputs : List Operand) (c d : Shape) → IsConfigured N P equations widths outputs c → IsConfigured N P equations widths outputs d → c ≡ d
one_configuration N P equations widths outputs c d one other =
    let net = net_of equations widths outputs in
    one.is ∙ (ap (conf_of N net) (same_placement one.placement other.placement (one_placement N P net one.placement other.placement one.greedy other.greedy)) ∙ sym other.is)

pub one_net_refusal : (N P : ℕ) (net : NetShape) (e f : CompileFault) → IsNetRefusal N P net e → IsNetRefusal N P net f → e ≡ f
one_net_refusal N P net (NoFit a) (NoFit b) x y = ap NoFit (one_no_fit N P net a b x.no_fit y.no_fit)
one_net_refusal N P net (NoFit a) (Limit w) x y = absurd (let no : None ≡ Some w = sym x.within ∙ y in cc)
one_net_refusal N P net (Limit v) (NoFit b) x y = absurd (let no : None ≡ Some v = sym y.within ∙ x in cc)
one_net_refusal N P net (Limit v) (Limit w) x y = let both : Some v ≡ Some w = sym x ∙ y in let same : v ≡ w = cc in ap Limit same
one_net_refusal N P net (NoFit a) f x y = absurd y
one_net_refusal N P net (Limit v) f x y = absurd y
one_net_refusal N P net e f x y = absurd x

pub refused_or_configured : (N P : ℕ) (equations : List EquationShape) (widths : List ℕ) (outputs : List Operand) (e : CompileFault) (conf : Shape) → IsNetRefusal N P (net_of equations widths outputs) e → IsConfigured N P equations widths outputs conf → ⊥
refused_or_configured N P equations widths outputs (NoFit unit) conf x c = not_both N P (net_of equations widths outputs) c.placement unit c.greedy x.no_fit
refused_or_configured N P equations widths outputs (Limit w) conf x c = let no : None ≡ Some w = sym c.within ∙ x in cc
refused_or_configured N P equations widths outputs e conf x c = absurd x

-- ---- texts
-- a point up to the widths refuses the text so
record HasFrontRefusal (text : List ℕ) (e : CompileFault) : Type 0 where
  fault : FrontFault
  refused : IsRefusal text fault
  is : e ≡ front_fault fault

refused_by : (N P : ℕ) (narrow : Bool) (text : List ℕ) (e : CompileFault) → IsRefused N P narrow text e → HasFrontRefusal text e ⊎ HasNetRefusal N P narrow text e
refused_by N P narrow text (Syntax token) r = inl (record { fault = front.Syntax token; refused = r; is = refl })
refused_by N P narrow text (Scope rule item) r = inl (record { fault = front.Scope rule item; refused = r; is = refl })
refused_by N P narrow text (NoWidth equation) r = inl (record { fault = front.NoWidth equation; refused = r; is = refl })
refused_by N P narrow text (NoFit unit) r = inr r
refused_by N P narrow text (Limit which) (inl r) = inl (record { fault = front.Limit which; refused = r; is = refl })
refused_by N P narrow text (Limit which) (inr r) = inr r
refused_by N P narrow text (Memory e) r = absurd r

-- the net of flattened equations that are ready is refused so
refused_flattened : (N P : ℕ) → CompileFault → Flattened → List EquationShape → List ℕ → Type 0
refused_flattened N P e f ready news = IsNetRefusal N P (net_of ready news f.outputs) e

unfit_also : (N P : ℕ) (narrow : Bool) (text : List ℕ) (p q : Program) (v w : List ℕ) (e : CompileFault) → HasWidths text p v → HasWidths text q w → IsUnfit N P narrow p v e → IsUnfit N P narrow q w e
unfolding refused_flattened
unfit_also N P narrow text p q v w e one other r = ready_also (refused_flattened N P e) narrow (equations_of p) (equations_of q) v w (same_equations text p q v w one other) r

one_unfit : (N P : ℕ) (narrow : Bool) (program : Program) (widths : List ℕ) (e f : CompileFault) → IsUnfit N P narrow program widths e → IsUnfit N P narrow program widths f → e ≡ f
one_unfit N P narrow program widths e f x y =
    let also = holds_also narrow (equations_of program).equations (equations_of program).outputs widths (λ ready news. IsNetRefusal N P (net_by program ready news) e) (λ ready news. IsNetRefusal N P (net_by program ready news) f) x y in
    one_net_refusal N P (net_by program y.ready y.news) e f also y.holds

unfit_or_configured : (N P : ℕ) (narrow : Bool) (program : Program) (widths : List ℕ) (e : CompileFault) (conf : Shape) → IsUnfit N P narrow program widths e → IsConfiguredBy N P narrow program widths conf → ⊥
unfit_or_configured N P narrow program widths e conf x c =
    let outputs = (equations_of program).outputs in
    let also = holds_also narrow (equations_of program).equations outputs widths (λ ready news. IsNetRefusal N P (net_by program ready news) e) (λ ready news. IsConfigured N P ready news outputs conf) x c in
    refused_or_configured N P c.ready c.news outputs e conf also c.holds

one_configured : (N P : ℕ) (narrow : Bool) (program : Program) (widths : List ℕ) (c d : Shape) → IsConfiguredBy N P narrow program widths c → IsConfiguredBy N P narrow program widths d → c ≡ d
one_configured N P narrow program widths c d x y =
    let outputs = (equations_of program).outputs in
    let also = holds_also narrow (equations_of program).equations outputs widths (λ ready news. IsConfigured N P ready news outputs c) (λ ready news. IsConfigured N P ready news outputs d) x y in
    one_configuration N P y.ready y.news outputs c d also y.holds

pub one_answer : (N P : ℕ) (narrow : Bool) (text : List ℕ) (e f : CompileFault) → IsRefused N P narrow text e → IsRefused N P narrow text f → e ≡ f
one_answer N P narrow text e f x y = elim (refused_by N P narrow text e x) [
  | inl a ↦ elim (refused_by N P narrow text f y) [
    | inl b ↦ a.is ∙ (ap front_fault (one-refusal text a.fault b.fault a.refused b.refused) ∙ sym b.is)
    | inr b ↦ absurd (no-refusal text a.fault b.program b.widths a.refused b.has)
  ]
  | inr a ↦ elim (refused_by N P narrow text f y) [
    | inl b ↦ absurd (no-refusal text b.fault a.program a.widths b.refused a.has)
    | inr b ↦ one_unfit N P narrow b.program b.widths e f (unfit_also N P narrow text a.program b.program a.widths b.widths e a.has b.has a.refused) b.refused
  ]
]

pub no_answer : (N P : ℕ) (narrow : Bool) (text : List ℕ) (e : CompileFault) (conf : Shape) → IsRefused N P narrow text e → IsCompiled N P narrow text conf → ⊥
no_answer N P narrow text e conf x c = elim (refused_by N P narrow text e x) [
  | inl a ↦ no-refusal text a.fault c.program c.widths a.refused c.has
  | inr a ↦ unfit_or_configured N P narrow c.program c.widths e conf (unfit_also N P narrow text a.program c.program a.widths c.widths e a.has c.has a.refused) c.configured
]

pub one_compiled : (N P : ℕ) (narrow : Bool) (text : List ℕ) (c d : Shape) → IsCompiled N P narrow text c → IsCompiled N P narrow text d → c ≡ d
one_compiled N P narrow text c d x y = one_configured N P narrow y.program y.widths c d (configured_also N P narrow text x.program y.program x.widths y.widths c x.has y.has x.configured) y.configured
