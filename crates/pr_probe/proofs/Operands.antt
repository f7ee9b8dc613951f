-- Probes give the operands that their instances stand for.
use Rattle.std.proofs.Common.{◌≡◌, ◌∙◌, ◌+◌, ℕ, Bool, false, ◌&&◌, bytes_eq, List, [], ◌∷◌, ◌++◌, map, Option, Some, None, Ok, Result, refl, sym, ap, ap₂, subst, append_assoc, append-nil}
use Rattle.std.specs.Option.{unwrap_or}
use Rattle.std.specs.Result.{result_ok}
use Rattle.std.proofs.lemmas.Bool.{cond-false}
use Rattle.pr_lang.specs.declared.trees.Item.{Item}
use Rattle.pr_lang.specs.declared.trees.Item.TheVariants as item
use Rattle.pr_lang.specs.declared.trees.Program.{Program}
use Rattle.pr_scope_names.specs.declared.names.Static.{Static}
use Rattle.pr_scope_names.specs.declared.names.Static.TheVariants as static
use Rattle.pr_scope_names.specs.declared.rules.Offence.{Offence}
use Rattle.pr_scope_names.specs.Names.{Known, bind, same_place}
use Rattle.pr_scope.specs.Walk as scope
use Rattle.pr_scope_facts.specs.Items.{AllItems}
use Rattle.pr_scope_facts.proofs.InvertedItems.{constant-inverted, function-inverted, input-inverted, items-inverted, output-inverted, step-inverted, table-inverted}
use Rattle.pr_flat.specs.declared.equations.Operand.{Operand}
use Rattle.pr_lang_meaning.specs.Programs.{function_at}
use Rattle.pr_expand_spec.specs.declared.givens.Standing.{Standing}
use Rattle.pr_expand_spec.specs.declared.givens.Standing.TheVariants.{Stream, Own}
use Rattle.pr_expand_spec.specs.Making.{Equations, Expanded, constant, lawful}
use Rattle.pr_expand_spec.specs.Expressions.{ExprPlan, Streams, Visible, assigned, declared_at_operator, declared_else, referred}
use Rattle.pr_expand_spec.specs.Statements.{named}
use Rattle.pr_expand_spec.specs.Programs.{World, equations_of, item_change, items_change, start}
use Rattle.pr_probe.specs.Operands.{made_world, operand_at, operand_standing}
use Rattle.pr_probe.specs.Probes.{CanProbe, IsProbed, Probe, probe_item, reference}
use Rattle.pr_probe.proofs.Equations.{made-append}
use Rattle.pr_probe.proofs.Known.{Unknowing, unknowing-bind}
use Rattle.pr_probe.proofs.Laws.{apart-from}
use Rattle.pr_probe.proofs.Meaning.{AreApart}
use Rattle.pr_probe.proofs.References.{place-is, plan-is, ref_to}
use Rattle.pr_probe.proofs.Scope.{apart}

-- ---- one probe
referred-gives : (at : Option ℕ) (o : Option Standing) (es : Equations) → (referred None at o es).given.operand ≡ operand_standing o
referred-gives at (Some (Stream g c)) es = refl
referred-gives at (Some (Own number)) es = refl
referred-gives at None es = refl

abbrev operand_by : ExprPlan → Visible → Streams → Equations → Operand
operand_by plan v env es = (declared_else plan.is_operator (lawful None) (declared_at_operator plan.is_operator (lawful None) (plan.making v env es))).given.operand

reference-gives : (name : List ℕ) (index : Option ℕ) (v : Visible) (env : Streams) (es : Equations) → v.known name ≡ None → (assigned None (reference name index) v env es).given.operand ≡ operand_standing (env name index)
reference-gives name index v env es none =
    ap (λ (p : ExprPlan). operand_by p v env es) (plan-is (ref_to name index))
    ∙ (ap (λ (r : Result (Option ℕ) Offence). (referred (v.known name) (unwrap_or (result_ok r) None) (env name (unwrap_or (result_ok r) None)) es).given.operand) (place-is name index v.known)
    ∙ (ap (λ (s : Option Static). (referred s index (env name index) es).given.operand) none ∙ referred-gives index (env name index) es))

-- it changes no instance of the program
operand-still : (fresh : List ℕ) (m : Expanded) (env : Streams) (p : Probe) → bytes_eq fresh p.name ≡ false → operand_at (named fresh None env m).streams p ≡ operand_at env p
operand-still fresh m env p isnt = ap operand_standing (cond-false (bytes_eq fresh p.name && same_place None p.index) (Some (Stream m.given 0)) (env p.name p.index) (ap (λ b. b && same_place None p.index) isnt))

operands-still : (test : List ℕ → Bool) (known : Known) (fresh : List ℕ) (m : Expanded) (env : Streams) (ps : List Probe) → test fresh ≡ false → AreApart test known ps → map (operand_at (named fresh None env m).streams) ps ≡ map (operand_at env) ps
operands-still test known fresh m env [] isnt are = refl
operands-still test known fresh m env (p ∷ ps) isnt are =
    ap₂ (λ (o : Operand) (os : List Operand). o ∷ os) (operand-still fresh m env p (apart test fresh p.name isnt are.0.named)) (operands-still test known fresh m env ps isnt are.1)

-- ---- probes
probes-give : (test : List ℕ → Bool) (at : ℕ) (ps : List Probe) (w : World) → AreApart test w.visible.known ps → (items_change at (map probe_item ps) w).outputs ≡ w.outputs ++ map (operand_at w.progress.streams) ps
probes-give test at [] w are = sym (append-nil w.outputs)
probes-give test at (p ∷ ps) w are =
    let m = assigned None (reference p.name p.index) w.visible w.progress.streams w.progress.equations in
    let rest = map (operand_at w.progress.streams) ps in
    probes-give test (at + 1) ps (item_change at (probe_item p) w) are.1
    ∙ (ap (λ (os : List Operand). (w.outputs ++ m.given.operand ∷ []) ++ os) (operands-still test w.visible.known p.fresh m w.progress.streams ps are.0.fresh are.1)
    ∙ (append_assoc w.outputs (m.given.operand ∷ []) rest
    ∙ ap (λ (o : Operand). w.outputs ++ o ∷ rest) (reference-gives p.name p.index w.visible w.progress.streams w.progress.equations are.0.unknown)))

-- ---- what the walk knows of no name, the equations do not know either
now-known : (walked after : Known) (known : Known) → after ≡ walked → Unknowing walked known → Unknowing after known
now-known walked after known is old = subst (λ k. Unknowing k known) (sym is) old

now-bound : (name : List ℕ) (a b : Static) (walked after known : Known) → after ≡ bind name a walked → Unknowing walked known → Unknowing after (bind name b known)
now-bound name a b walked after known is old = now-known (bind name a walked) after (bind name b known) is (unknowing-bind name a b walked known old)

made-unknowing : (at : ℕ) (is : List Item) (w last : scope.World) (m : World) → AllItems at is w last → Unknowing w.known m.visible.known → Unknowing last.known (items_change at is m).visible.known
made-unknowing at [] w last m walks old = subst (λ (v : scope.World). Unknowing v.known m.visible.known) walks old
made-unknowing at (item.Input name width ∷ is) w last m walks old =
    made-unknowing (at + 1) is walks.0 last (item_change at (item.Input name width) m) walks.2 (now-known w.known walks.0.known m.visible.known (input-inverted name width w walks.0 walks.1).known old)
made-unknowing at (item.Output name width e ∷ is) w last m walks old =
    made-unknowing (at + 1) is walks.0 last (item_change at (item.Output name width e) m) walks.2 (now-known w.known walks.0.known m.visible.known (output-inverted name width e w walks.0 walks.1).known old)
made-unknowing at (item.Const name value ∷ is) w last m walks old =
    let walk = constant-inverted name value w walks.0 walks.1 in
    made-unknowing (at + 1) is walks.0 last (item_change at (item.Const name value) m) walks.2
    (now-bound name (static.Constant walk.number) (static.Constant (constant value m.visible.known)) w.known walks.0.known m.visible.known walk.names.known old)
made-unknowing at (item.Table name values ∷ is) w last m walks old =
    let walk = table-inverted name values.items w walks.0 walks.1 in
    made-unknowing (at + 1) is walks.0 last (item_change at (item.Table name values) m) walks.2
    (now-bound name (static.Table walk.entries) (static.Table (map (λ f. constant f m.visible.known) values.items)) w.known walks.0.known m.visible.known walk.names.known old)
made-unknowing at (item.Function name params width body result ∷ is) w last m walks old =
    let walk = function-inverted at name params.items width body.items result w walks.0 walks.1 in
    made-unknowing (at + 1) is walks.0 last (item_change at (item.Function name params width body result) m) walks.2
    (now-bound name (static.Function walk.callee) (function_at at params.items) w.known walks.0.known m.visible.known walk.names.known old)
made-unknowing at (item.Step stmt ∷ is) w last m walks old =
    made-unknowing (at + 1) is walks.0 last (item_change at (item.Step stmt) m) walks.2 (now-known w.known walks.0.known m.visible.known (step-inverted stmt w walks.0 walks.1).known old)

-- ---- a probed program
abbrev outputs_made : List Item → List Operand
outputs_made items = (items_change 0 items start).outputs

pub probed-outputs : (test : List ℕ → Bool) (program : Program) (probes : List Probe) (probed : Program) (last : scope.World) → IsProbed program probes probed → scope.program_walk program ≡ Ok last → CanProbe test probes last
    → (equations_of probed).outputs ≡ (equations_of program).outputs ++ map (operand_at (made_world program).progress.streams) probes
probed-outputs test program probes probed last is walk can =
    let w = made_world program in
    let after = made-append 0 program.items.items (map probe_item probes) start in
    let all = (items-inverted 0 program.items.items scope.start last walk).all in
    let unknowing = made-unknowing 0 program.items.items scope.start last start all (λ q h. h) in
    ap outputs_made is
    ∙ (ap (λ (v : World). v.outputs) after.1
    ∙ probes-give test after.0 probes w (apart-from test last.known w.visible.known last.streams probes unknowing can.each))
