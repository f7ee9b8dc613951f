use Rattle.std.proofs.Common.{◌≡◌, ◌∙◌, ◌-◌, ◌++◌, List, length, sym, ap, ap₂, subst, arith}
use Rattle.std.proofs.lemmas.List.{length-map}
use Rattle.pr_scope.specs.Walk.{program_walk, turns_after}
use Rattle.pr_scope_names.specs.declared.streams.Instance.{Instance}
use Rattle.pr_flat.specs.declared.equations.Operand.{Operand}
use Rattle.pr_flat.specs.Facts.{IsFlat}
use Rattle.pr_flat.specs.Shape.{EquationShape, shapes_of}
use Rattle.pr_expand_spec.specs.Programs.{equations_of}
use Rattle.pr_probe.specs.Instances.{instances_of}
use Rattle.pr_probe.specs.Probes.{AreNamed, HaveNames}
use Rattle.pr_lens_probe.specs.Fresh.{is_within}
use Rattle.pr_lens_probe.specs.Given.{AreGiven, AreKinds, AreLawful}
use Rattle.pr_lens_probe.specs.Shown.{HasColumns}
use Rattle.pr_lens_probe.proofs.Given.{given-as}
use Rattle.pr_lens_probe.proofs.Runs.{can-all-as, part-as}
use Rattle.pr_lens_probe.proofs.Shown.{columns}
use Rattle.pr_lens_probe.proofs.probing.probe.Goals as goal

pub tell_all-requires-clause-able : goal.tell_all-requires-clause-able
tell_all-requires-clause-able c = record {
  lawful = c.args.scoped.lawful;
  widths = c.requires.widths;
  few = c.requires.few;
  some = omega arith;
  turns = omega (arith, c.args.scoped.walked);
  all = c.deref-3.ensures.value ∙ c.in_ok-instances.ensures;
  named = subst (AreNamed (is_within c.longest-most.result)) (c.deref-2.ensures.value ∙ sym c.deref-3.ensures.value) c.longest-most.ensures.instances;
  statics = subst (HaveNames (is_within c.longest-most.result)) c.deref.ensures.value c.longest-most.ensures.statics;
}

pub tell_all-requires-clause-part : goal.tell_all-requires-clause-part
tell_all-requires-clause-part c =
    let p = c.args.scoped.program in
    let flat = c.in_ok-flat.flat in
    let shapes : length (shapes_of flat.equations.items) ≡ length flat.equations.items = length-map flat.equations.items _ in
    let made : c.len.result ≡ length (equations_of p).equations = omega (arith, c.len.ensures, flat.equations.ok.0, shapes, ap length c.in_ok-flat.ensures.equations) in
    part-as _ (turns_after (program_walk p)) _ (length (equations_of p).equations) c.part_of-part.result c.args.scoped.walked made c.part_of-part.ensures

pub show_all-requires : goal.show_all-requires
show_all-requires c =
    let p = c.args.scoped.program in
    let q = c.in_ok-told.told.program in
    let most = c.longest-most.result in
    let is = c.deref-4.result.now in
    record {
      able = can-all-as p q (sym c.in_ok-told.ensures.items) most (65536 - c.args.scoped.turns) is
          (record {
            lawful = c.args.scoped.lawful;
            widths = c.requires.widths;
            few = c.requires.few;
            some = omega arith;
            turns = omega (arith, c.args.scoped.walked);
            all = c.deref-4.ensures.value ∙ c.in_ok-instances.ensures;
            named = subst (AreNamed (is_within most)) (c.deref-2.ensures.value ∙ sym c.deref-4.ensures.value) c.longest-most.ensures.instances;
            statics = subst (HaveNames (is_within most)) c.deref.ensures.value c.longest-most.ensures.statics;
          });
    }

pub with_outputs-requires : goal.with_outputs-requires
with_outputs-requires c =
    let p = c.args.scoped.program in
    let given = given-as c.in_ok-told.told.program p c.in_ok-told.ensures.items c.deref-4.result.now c.in_ok-shown.shown.operands.items c.in_ok-shown.ensures.given in
    subst (λ (es : List EquationShape). AreLawful es c.deref-5.result.now) (sym c.in_ok-flat.ensures.equations) (subst (AreLawful (equations_of p).equations) (sym c.deref-5.ensures.value) given.lawful)

pub returns-clause-shows : goal.returns-clause-shows
returns-clause-shows c =
    let p = c.args.scoped.program in
    let flat = c.in_ok-flat.flat in
    let operands = c.in_ok-shown.shown.operands.items in
    let es = c.in_ok-flat.ensures.equations in
    let os = c.in_ok-flat.ensures.outputs in
    let all : c.deref-4.result.now ≡ instances_of p = c.deref-4.ensures.value ∙ c.in_ok-instances.ensures in
    let told = given-as c.in_ok-told.told.program p c.in_ok-told.ensures.items c.deref-4.result.now operands c.in_ok-shown.ensures.given in
    let given = subst (λ (l : List Instance). AreGiven p l operands) all told in
    let lawful : IsFlat (equations_of p).equations (equations_of p).outputs =
    subst (λ (l : List Operand). IsFlat (equations_of p).equations l) os (subst (λ (l : List EquationShape). IsFlat l flat.outputs.items) es flat.lawful) in
    let whole : c.in_ok-flat-2.flat.outputs.items ≡ (equations_of p).outputs ++ operands =
    c.in_ok-flat-2.ensures.outputs ∙ ap₂ (λ (k l : List Operand). k ++ l) os c.deref-5.ensures.value in
    record {
      items = c.in_ok-shown.ensures.items ∙ c.in_ok-told.ensures.items;
      instances = c.in_ok-instances.ensures;
      equations = c.in_ok-flat-2.ensures.equations ∙ es;
      outputs = whole ∙ ap (λ (l : List Operand). (equations_of p).outputs ++ l) given.are;
      columns = λ xs. subst (λ (l : List Operand). HasColumns p l xs) (sym whole) (columns p operands c.args.scoped.lawful c.requires.widths lawful given xs);
    }

pub returns-clause-kinds : goal.returns-clause-kinds
returns-clause-kinds c =
    let p = c.args.scoped.program in
    let all : c.deref-3.result.now ≡ instances_of p = c.deref-3.ensures.value ∙ c.in_ok-instances.ensures in
    subst (λ (l : List Instance). AreKinds c.args.detail p l c.in_ok-told.told.kinds.items) all c.in_ok-told.ensures.kinds
