-- A text has a configuration, with its equations narrowed or as they are, or a refusal, and no second one of either.
use Rattle.std.proofs.Common.{◌≤◌, ℕ, Bool, true, false, List, Result, Ok, Err, length, inl, inr, refl, ap}
use Rattle.pr_base.specs.Laws.{AtMostOne}
use Rattle.pr_conf.specs.Shape.{Shape}
use Rattle.pr_lang.specs.declared.trees.Program.{Program}
use Rattle.pr_flat.specs.declared.equations.Operand.{Operand}
use Rattle.pr_flat.specs.Shape.{EquationShape}
use Rattle.pr_flat.specs.Facts.{IsFlat}
use Rattle.pr_flat.specs.Widths.{AreWidths}
use Rattle.pr_narrow.proofs.Narrowing.{flat_stays, widths_settle}
use Rattle.pr_expand_spec.specs.Programs.{equations_of}
use Rattle.pr_compile_front.specs.declared.faults.FrontFault.{FrontFault}
use Rattle.pr_compile_front.specs.declared.faults.FrontFault.TheVariants as front
use Rattle.pr_compile_front.specs.Refusals.{HasWidths, IsRefusal}
use Rattle.pr_compile.specs.declared.faults.CompileFault.{CompileFault}
use Rattle.pr_compile.specs.declared.faults.CompileFault.TheVariants.{Syntax, Scope, NoWidth, NoFit, Limit, Memory}
use Rattle.pr_compile.specs.Configured.{AreReady, IsConfiguredBy, IsCompiled, HasUnitsBy, HasUnits, net_by}
use Rattle.pr_compile.specs.Refusals.{IsUnfit, IsRefused}
use Rattle.pr_compile.proofs.OneAnswer.{one_answer, no_answer, one_compiled}
use Rattle.pr_compile_verdicts.specs.Verdicts.{SomeOf, ExactlyOne, IsOutcome}
use Rattle.pr_compile_verdicts.proofs.Demands.{some_narrowing}
use Rattle.pr_compile_verdicts.proofs.Nets.{some_configuration}
use Rattle.pr_compile_verdicts.proofs.Fronts.{some_front}

-- ---- the equations of which a net is made
pub record Ready (narrow : Bool) (equations : List EquationShape) (outputs : List Operand) (widths : List ℕ) : Type 0 where
  pub ready : List EquationShape
  pub news : List ℕ
  pub are : AreReady narrow equations outputs widths ready news
  pub flat : IsFlat ready outputs
  pub widths_are : AreWidths ready news

pub some_ready : (narrow : Bool) (equations : List EquationShape) (outputs : List Operand) (widths : List ℕ) → IsFlat equations outputs → AreWidths equations widths → Ready narrow equations outputs widths
some_ready false equations outputs widths flat are = record { ready = equations; news = widths; are = (refl, refl); flat = flat; widths_are = are }
some_ready true equations outputs widths flat are =
    let n = some_narrowing equations outputs widths are in
    record {
      ready = n.0;
      news = n.1;
      are = n.2;
      flat = flat_stays equations outputs widths n.0 n.1 flat are n.2;
      widths_are = widths_settle equations outputs widths n.0 n.1 flat are n.2;
    }

-- ---- a program
pub some_program_configuration : (N P : ℕ) (narrow : Bool) (program : Program) (widths : List ℕ) → IsFlat (equations_of program).equations (equations_of program).outputs → AreWidths (equations_of program).equations widths
    → SomeOf (IsConfiguredBy N P narrow program widths) (IsUnfit N P narrow program widths)
some_program_configuration N P narrow program widths flat are =
    let outputs = (equations_of program).outputs in
    let r = some_ready narrow (equations_of program).equations outputs widths flat are in
    elim (some_configuration N P r.ready r.news outputs r.flat r.widths_are) [
      | inl conf ↦ inl (conf.0, record { flat = flat; widths_are = are; ready = r.ready; news = r.news; are = r.are; holds = conf.1 })
      | inr refusal ↦ inr (refusal.0, record { flat = flat; widths_are = are; ready = r.ready; news = r.news; are = r.are; holds = refusal.1 })
    ]

some_program_units : (narrow : Bool) (program : Program) (widths : List ℕ) → IsFlat (equations_of program).equations (equations_of program).outputs → AreWidths (equations_of program).equations widths
    → (units : ℕ) × HasUnitsBy narrow program widths units
some_program_units narrow program widths flat are =
    let r = some_ready narrow (equations_of program).equations (equations_of program).outputs widths flat are in
    (length (net_by program r.ready r.news).units, record { flat = flat; widths_are = are; ready = r.ready; news = r.news; are = r.are; holds = refl })

-- ---- a text
pub some_text_units : (narrow : Bool) (text : List ℕ) → length text ≤ 1048576 → SomeOf (HasUnits narrow text) (IsRefusal text)
some_text_units narrow text short = elim (some_front text short) [
  | inr refused ↦ inr refused
  | inl p ↦ (let units = some_program_units narrow p.program p.widths p.flat p.has.are in inl (units.0, record { program = p.program; widths = p.widths; has = p.has; are = units.1 }))
]

front_refused : (N P : ℕ) (narrow : Bool) (text : List ℕ) (e : FrontFault) → IsRefusal text e → (f : CompileFault) × IsRefused N P narrow text f
front_refused N P narrow text (front.Syntax token) refused = (Syntax token, refused)
front_refused N P narrow text (front.Scope rule item) refused = (Scope rule item, refused)
front_refused N P narrow text (front.NoWidth equation) refused = (NoWidth equation, refused)
front_refused N P narrow text (front.Limit which) refused = (Limit which, inl refused)
front_refused N P narrow text (front.Memory e) refused = absurd refused

net_refused : (N P : ℕ) (narrow : Bool) (text : List ℕ) (program : Program) (widths : List ℕ) → HasWidths text program widths → (e : CompileFault) → IsUnfit N P narrow program widths e → (f : CompileFault) × IsRefused N P narrow text f
net_refused N P narrow text program widths has (NoFit unit) unfit = (NoFit unit, record { program = program; widths = widths; has = has; refused = unfit })
net_refused N P narrow text program widths has (Limit which) unfit = (Limit which, inr (record { program = program; widths = widths; has = has; refused = unfit }))
net_refused N P narrow text program widths has (Syntax token) unfit = absurd unfit.holds
net_refused N P narrow text program widths has (Scope rule item) unfit = absurd unfit.holds
net_refused N P narrow text program widths has (NoWidth equation) unfit = absurd unfit.holds
net_refused N P narrow text program widths has (Memory e) unfit = absurd unfit.holds

pub some_text_configuration : (N P : ℕ) (narrow : Bool) (text : List ℕ) → length text ≤ 1048576 → SomeOf (IsCompiled N P narrow text) (IsRefused N P narrow text)
some_text_configuration N P narrow text short = elim (some_front text short) [
  | inr refused ↦ inr (front_refused N P narrow text refused.0 refused.1)
  | inl p ↦ elim (some_program_configuration N P narrow p.program p.widths p.flat p.has.are) [
    | inl conf ↦ inl (conf.0, record { program = p.program; widths = p.widths; has = p.has; configured = conf.1 })
    | inr unfit ↦ inr (net_refused N P narrow text p.program p.widths p.has unfit.0 unfit.1)
  ]
]

-- there is no second outcome
same_outcome : (N P : ℕ) (narrow : Bool) (text : List ℕ) → AtMostOne (IsOutcome N P narrow text)
same_outcome N P narrow text (Ok c) (Ok d) is also = ap (λ (x : Shape). Ok x) (one_compiled N P narrow text c d is also)
same_outcome N P narrow text (Err e) (Err f) is also = ap (λ (x : CompileFault). Err x) (one_answer N P narrow text e f is also)
same_outcome N P narrow text (Ok c) (Err f) is also = absurd (no_answer N P narrow text f c also is)
same_outcome N P narrow text (Err e) (Ok d) is also = absurd (no_answer N P narrow text e d is also)

some_outcome : (N P : ℕ) (narrow : Bool) (text : List ℕ) → length text ≤ 1048576 → (o : Result Shape CompileFault) × IsOutcome N P narrow text o
some_outcome N P narrow text short = elim (some_text_configuration N P narrow text short) [
  | inl conf ↦ (Ok conf.0, conf.1)
  | inr refused ↦ (Err refused.0, refused.1)
]

pub one_outcome : (N P : ℕ) (narrow : Bool) (text : List ℕ) → length text ≤ 1048576 → ExactlyOne (IsOutcome N P narrow text)
one_outcome N P narrow text short = (some_outcome N P narrow text short, same_outcome N P narrow text)
