use Rattle.std.proofs.Common.{◌≡◌, ℕ, List, length, refl, sym, ap, subst, ◌∙◌, arith}
use Rattle.std.proofs.lemmas.Result.{IfOk-from_err}
use Rattle.pr_base.specs.Rows.{written}
use Rattle.pr_edge.specs.Files.{Told}
use Rattle.pr_flat.specs.Shape.{EquationShape, shapes_of}
use Rattle.pr_flat.specs.Values.{input_widths}
use Rattle.pr_flat.specs.Widths.{AreWidths}
use Rattle.pr_samples.specs.declared.feed.Got.{Got}
use Rattle.pr_samples.specs.Feed.{name_of, given_of, widths_of, StandsFor, IsSeen, ReadsOn, IsGiven, Gives}
use Rattle.pr_scope_facts.proofs.Inputs.{inputs-of-equations}
use Rattle.pr_scope_facts.proofs.InvertedItems.{inputs-scoped}
use Rattle.pr_source_laws.proofs.Meaning.{rows_mean}
use Rattle.pr_tool_modes.specs.Programs.{inputs_of}
use Rattle.pr_tool_modes.proofs.FileLemmas.{cause_earlier}
use Rattle.pr_tool_modes.proofs.SampleLemmas.{HasDone, done_nothing, done_more, done_all, lawful_next, same_later}
use Rattle.pr_tool_modes.proofs.results.results_in.Goals as goal

pub samples-init : goal.samples-init
samples-init g c = record {
  done = subst (HasDone (g.S.Shelf.view c.args.shelf.now).told (shapes_of c.args.front.now.flat.equations.items) c.args.front.now.flat.outputs.items c.args.front.now.widths c.args.feed.now c.args.feed.now c.in_ok-evaluator.evaluator) (sym c.new-text.ensures.items)
      (done_nothing (g.S.Shelf.view c.args.shelf.now).told (shapes_of c.args.front.now.flat.equations.items) c.args.front.now.flat.outputs.items c.args.front.now.widths (inputs_of c.args.front.now.scoped.program) c.args.feed.now c.in_ok-evaluator.evaluator c.requires.feed (c.in_ok-evaluator.ensures c.args.front.now.widths));
  there = λ missing. c.requires.feed.fresh.bytes;
  sample = c.requires.sample;
  row = c.requires.row;
  file = record { name = refl; widths = refl; limit = refl; most = refl };
  steady = refl;
  later = omega arith;
  same = refl;
  reached = λ known. known;
  others = λ q other. refl;
}

pub next-requires : goal.next-requires
next-requires g c = omega (arith, c.samples.invariant.sample, c.args.front.now.scoped.inputs.ok.0, ap length c.args.front.now.scoped.declared, ap length (c.samples.invariant.file.widths ∙ c.requires.feed.inputs))

pub next-requires-in-Sample-clause-widths : goal.next-requires-in-Sample-clause-widths
next-requires-in-Sample-clause-widths g c = subst (λ (es : List EquationShape). AreWidths es c.args.front.now.widths) (sym c.requires.flat.equations) c.requires.widths

-- the sample is that of some file
pub next-requires-in-Sample-clause-sample : goal.next-requires-in-Sample-clause-sample
next-requires-in-Sample-clause-sample g c =
    let f = c.samples.feed in
    let f' = c.next.new.self in
    let program = c.args.front.now.scoped.program in
    let equations = shapes_of c.args.front.now.flat.equations.items in
    let seen = subst (λ (t : Told). (bytes : List ℕ) → IsSeen t bytes f → ReadsOn t bytes f f' (λ file. StandsFor f file → IsGiven f' (given_of f) c.next.new.into file)) c.samples.invariant.same c.in-Sample.ensures.seen in
    let inputs : widths_of f' ≡ input_widths equations =
    c.next.ensures.file.widths ∙ (c.samples.invariant.file.widths ∙ (c.requires.feed.inputs
    ∙ (sym c.args.front.now.scoped.declared ∙ (inputs-scoped c.args.front.now.scoped ∙ (sym (inputs-of-equations program c.args.front.now.scoped.lawful) ∙ sym (ap input_widths c.requires.flat.equations)))))) in
    lawful_next (g.S.Shelf.view c.args.shelf.now).told (input_widths equations) c.args.feed.now f f' c.samples.invariant.done.rows c.next.new.into c.samples.invariant.done.reads seen inputs

pub next-requires-in-Sample-clause-stands : goal.next-requires-in-Sample-clause-stands
next-requires-in-Sample-clause-stands g c = record { samples = c.samples.invariant.done.rows; stands = c.samples.invariant.done.stands }

pub samples-preserved : goal.samples-preserved
samples-preserved g c =
    let f = c.samples.feed in
    let f' = c.next.new.self in
    let told = (g.S.Shelf.view c.args.shelf.now).told in
    let done = c.samples.invariant.done in
    let flat = c.args.front.now.flat in
    let same = same_later c.args.feed.now f f' c.samples.invariant.file c.next.ensures.file in
    let seen = subst (λ (t : Told). (bytes : List ℕ) → IsSeen t bytes f → ReadsOn t bytes f f' (λ file. StandsFor f file → IsGiven f' (given_of f) c.next.new.into file)) c.samples.invariant.same c.in-Sample.ensures.seen in
    record {
      done = done_more told (shapes_of flat.equations.items) flat.outputs.items c.args.front.now.widths c.args.feed.now f f' _ _ _ _ c.next.new.into _ done same c.in-Sample.ensures.given seen
          (c.next-in-Sample.ensures.stands done.rows done.stands) (c.next-in-Sample.ensures.given done.rows done.stands) c.in_ok-push_line-in-Sample.ensures;
      there = λ missing.
          absurd (let no : Got.Sample ≡ Got.ReadFault = sym c.in-Sample.is ∙ c.next.ensures.missing (rw (← c.samples.invariant.file.name, ← c.samples.invariant.same) at missing) (c.samples.invariant.there missing) in cc);
      sample = c.next.auto.into ∙ c.samples.invariant.sample;
      row = c.next-in-Sample.auto.into ∙ c.samples.invariant.row;
      file = same;
      steady = c.next.ensures.steady (λ fault. let no : Got.Sample ≡ Got.ReadFault = sym c.in-Sample.is ∙ fault in cc) ∙ c.samples.invariant.steady;
      later = omega (arith, c.samples.invariant.later, c.next.ensures.later);
      same = c.next.ensures.same ∙ c.samples.invariant.same;
      reached = λ known. rw c.samples.invariant.file.name at (c.next.ensures.reached (rw c.samples.invariant.file.name (c.samples.invariant.reached known)));
      others = λ q other. c.next.ensures.others q (rw c.samples.invariant.file.name other) ∙ c.samples.invariant.others q other;
    }

pub returns-in_default-clause-results : goal.returns-in_default-clause-results
returns-in_default-clause-results g c = λ no_fault.
    let f = c.samples.feed in
    let f' = c.next.new.self in
    let done = c.samples.invariant.done in
    let program = c.args.front.now.scoped.program in
    let flat = c.args.front.now.flat in
    let same = same_later c.args.feed.now f f' c.samples.invariant.file c.next.ensures.file in
    let seen = subst (λ (t : Told). (bytes : List ℕ) → IsSeen t bytes f → ReadsOn t bytes f f' (λ file. StandsFor f file → Gives c.next.result (given_of f) f' c.next.new.into file)) c.samples.invariant.same c.next.ensures.seen in
    let means = rows_mean program flat c.args.front.now.widths done.rows (record {
      lawful = c.args.front.now.scoped.lawful;
      equations = c.requires.flat.equations;
      outputs = c.requires.flat.outputs;
      wide = subst (λ (es : List EquationShape). AreWidths es c.args.front.now.widths) (sym c.requires.flat.equations) c.requires.widths;
      rows = done.stands.lawful;
    }) in
    record {
      rows = done.rows;
      reads = done_all (g.S.Shelf.view c.args.shelf.now).told c.args.feed.now f f' done.rows c.next.new.into c.next.result done.reads same c.next.ensures.given seen c.in_default.not-Sample no_fault;
      lines = done.lines ∙ ap written means;
    }

pub returns-in_default-clause-there : goal.returns-in_default-clause-there
returns-in_default-clause-there g c = λ no_fault missing. no_fault (c.next.ensures.missing (rw (← c.samples.invariant.file.name, ← c.samples.invariant.same) at missing) (c.samples.invariant.there missing))

pub returns-in_default-clause-cause : goal.returns-in_default-clause-cause
returns-in_default-clause-cause g c = λ fault.
    cause_earlier (g.S.Shelf.view c.args.shelf.now).told (name_of c.args.feed.now) _ _ _ c.samples.invariant.later (rw (c.samples.invariant.file.name, c.samples.invariant.same) at (c.next.ensures.cause fault))

pub returns-in_default-clause-steady : goal.returns-in_default-clause-steady
returns-in_default-clause-steady g c = λ no_fault. c.next.ensures.steady no_fault ∙ c.samples.invariant.steady

pub returns-in_err-evaluator-clause-steady : goal.returns-in_err-evaluator-clause-steady
returns-in_err-evaluator-clause-steady g c = IfOk-from_err _ _ c.from_residual.ensures.0

pub returns-in_err-push_line-in-Sample-clause-steady : goal.returns-in_err-push_line-in-Sample-clause-steady
returns-in_err-push_line-in-Sample-clause-steady g c = IfOk-from_err _ _ c.from_residual-in_err-push_line-in-Sample.ensures.0

pub returns-in_err-evaluator-clause-results : goal.returns-in_err-evaluator-clause-results
returns-in_err-evaluator-clause-results g c = IfOk-from_err _ _ c.from_residual.ensures.0

pub returns-in_err-evaluator-clause-there : goal.returns-in_err-evaluator-clause-there
returns-in_err-evaluator-clause-there g c = IfOk-from_err _ _ c.from_residual.ensures.0

pub returns-in_err-evaluator-clause-cause : goal.returns-in_err-evaluator-clause-cause
returns-in_err-evaluator-clause-cause g c = IfOk-from_err _ _ c.from_residual.ensures.0

pub returns-in_err-push_line-in-Sample-clause-results : goal.returns-in_err-push_line-in-Sample-clause-results
returns-in_err-push_line-in-Sample-clause-results g c = IfOk-from_err _ _ c.from_residual-in_err-push_line-in-Sample.ensures.0

pub returns-in_err-push_line-in-Sample-clause-there : goal.returns-in_err-push_line-in-Sample-clause-there
returns-in_err-push_line-in-Sample-clause-there g c = IfOk-from_err _ _ c.from_residual-in_err-push_line-in-Sample.ensures.0

pub returns-in_err-push_line-in-Sample-clause-cause : goal.returns-in_err-push_line-in-Sample-clause-cause
returns-in_err-push_line-in-Sample-clause-cause g c = IfOk-from_err _ _ c.from_residual-in_err-push_line-in-Sample.ensures.0
