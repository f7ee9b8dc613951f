use Rattle.std.proofs.Common.{◌≡◌, ◌+◌, ℕ, List, length, refl, sym, ap, subst, ◌∙◌, arith}
use Rattle.std.proofs.lemmas.Result.{IfOk-from_err, err_from_is_err_and}
use Rattle.pr_edge.specs.Files.{Told, IsMissing}
use Rattle.pr_flat.specs.Shape.{EquationShape, shapes_of}
use Rattle.pr_flat.specs.Values.{input_widths}
use Rattle.pr_flat.specs.Widths.{AreWidths}
use Rattle.pr_samples.specs.declared.feed.Got.{Got}
use Rattle.pr_samples.specs.Feed.{name_of, given_of, widths_of, StandsFor, IsSeen, ReadsOn, IsGiven, Gives}
use Rattle.pr_scope_facts.proofs.Inputs.{inputs-of-equations}
use Rattle.pr_scope_facts.proofs.InvertedItems.{inputs-scoped}
use Rattle.pr_source_laws.proofs.Meaning.{rows_mean}
use Rattle.pr_tool_modes.specs.Programs.{inputs_of}
use Rattle.pr_tool_modes.proofs.FileLemmas.{cause_earlier}
use Rattle.pr_tool_modes.proofs.SampleLemmas.{lawful_next, same_later}
use Rattle.pr_lens_bench.proofs.BenchLemmas.{HasMade, cut_memory, made_all, made_long, made_more, made_nothing}
use Rattle.pr_lens_bench.proofs.reading.lines_in.Goals as goal

pub samples-init : goal.samples-init
samples-init g c =
    let front = c.args.trial.now.front in
    let told = (g.S.Shelf.view c.args.shelf.now).told in
    record {
      made = subst (λ (t : List ℕ). HasMade told (shapes_of front.flat.equations.items) front.flat.outputs.items front.widths c.args.trial.now.design c.args.feed.now c.args.feed.now c.in_ok-evaluator.evaluator t 0) (sym c.new-text.ensures.items)
          (made_nothing told (shapes_of front.flat.equations.items) front.flat.outputs.items front.widths (inputs_of front.scoped.program) c.args.trial.now.design c.args.feed.now c.in_ok-evaluator.evaluator c.requires.feed (c.in_ok-evaluator.ensures front.widths));
      few = omega (arith, ap length c.new-text.ensures.items);
      short = omega (arith, ap length c.new-text.ensures.items);
      there = λ missing. c.requires.feed.fresh.bytes;
      sample = c.requires.sample;
      row = c.requires.row;
      file = record { name = refl; widths = refl; limit = refl; most = refl };
      steady = refl;
      later = omega arith;
      same = refl;
      reached = λ known. known;
      others = λ q other. refl;
    }

pub next-requires : goal.next-requires
next-requires g c =
    let scoped = c.args.trial.now.front.scoped in
    omega (arith, c.samples.invariant.sample, scoped.inputs.ok.0, ap length scoped.declared, ap length (c.samples.invariant.file.widths ∙ c.requires.feed.inputs))

pub next-requires-in-Sample-clause-widths : goal.next-requires-in-Sample-clause-widths
next-requires-in-Sample-clause-widths g c = subst (λ (es : List EquationShape). AreWidths es c.args.trial.now.front.widths) (sym c.requires.fit.flat.equations) c.requires.fit.widths

-- the sample is that of some file
pub next-requires-in-Sample-clause-sample : goal.next-requires-in-Sample-clause-sample
next-requires-in-Sample-clause-sample g c =
    let f = c.samples.feed in
    let f' = c.next.new.self in
    let scoped = c.args.trial.now.front.scoped in
    let equations = shapes_of c.args.trial.now.front.flat.equations.items in
    let made = c.samples.invariant.made in
    let seen = subst (λ (t : Told). (bytes : List ℕ) → IsSeen t bytes f → ReadsOn t bytes f f' (λ file. StandsFor f file → IsGiven f' (given_of f) c.next.new.into file)) c.samples.invariant.same c.in-Sample.ensures.seen in
    let inputs : widths_of f' ≡ input_widths equations =
    c.next.ensures.file.widths ∙ (c.samples.invariant.file.widths ∙ (c.requires.feed.inputs
    ∙ (sym scoped.declared ∙ (inputs-scoped scoped ∙ (sym (inputs-of-equations scoped.program scoped.lawful) ∙ sym (ap input_widths c.requires.fit.flat.equations)))))) in
    lawful_next (g.S.Shelf.view c.args.shelf.now).told (input_widths equations) c.args.feed.now f f' made.samples c.next.new.into made.reads seen inputs

pub next-requires-in-Sample-clause-stands : goal.next-requires-in-Sample-clause-stands
next-requires-in-Sample-clause-stands g c = record { samples = c.samples.invariant.made.samples; stands = c.samples.invariant.made.stands }

pub samples-preserved : goal.samples-preserved
samples-preserved g c =
    let f = c.samples.feed in
    let f' = c.next.new.self in
    let told = (g.S.Shelf.view c.args.shelf.now).told in
    let made = c.samples.invariant.made in
    let flat = c.args.trial.now.front.flat in
    let same = same_later c.args.feed.now f f' c.samples.invariant.file c.next.ensures.file in
    let seen = subst (λ (t : Told). (bytes : List ℕ) → IsSeen t bytes f → ReadsOn t bytes f f' (λ file. StandsFor f file → IsGiven f' (given_of f) c.next.new.into file)) c.samples.invariant.same c.in-Sample.ensures.seen in
    record {
      made = made_more told (shapes_of flat.equations.items) flat.outputs.items c.args.trial.now.front.widths c.args.trial.now.design c.args.feed.now f f' _ _ _ _ _ _ c.next.new.into _ made same c.in-Sample.ensures.given seen
          (c.next-in-Sample.ensures.stands made.samples made.stands) (c.next-in-Sample.ensures.given made.samples made.stands) c.in_ok-put_row-in-Sample.ensures.line refl;
      few = omega (arith, c.samples.invariant.few, c.in_ok-put_row-in-Sample.ensures.more);
      short = omega arith;
      there = λ missing.
          absurd (let no : Got.Sample ≡ Got.ReadFault = sym c.in-Sample.is ∙ c.next.ensures.missing (rw (← c.samples.invariant.file.name, ← c.samples.invariant.same) at missing) (c.samples.invariant.there missing) in cc);
      sample = c.next.auto.into ∙ c.samples.invariant.sample;
      row = c.next-in-Sample.auto.into ∙ c.samples.invariant.row;
      file = same;
      steady = c.next.ensures.steady (λ fault. let no : Got.Sample ≡ Got.ReadFault = sym c.in-Sample.is ∙ fault in cc) ∙ c.samples.invariant.steady;
      later = omega (arith, c.samples.invariant.later, c.next.ensures.later);
      same = c.next.ensures.same ∙ c.samples.invariant.same;
      reached = λ known. rw c.samples.invariant.file.name at (c.next.ensures.reached (rw c.samples.invariant.file.name (c.samples.invariant.reached known)));
      others = λ q other. c.next.ensures.others q (rw c.samples.invariant.file.name other) ∙ c.samples.invariant.others q other;
    }

pub returns-in_default-clause-lines : goal.returns-in_default-clause-lines
returns-in_default-clause-lines g c = λ no_fault.
    let f = c.samples.feed in
    let f' = c.next.new.self in
    let made = c.samples.invariant.made in
    let front = c.args.trial.now.front in
    let same = same_later c.args.feed.now f f' c.samples.invariant.file c.next.ensures.file in
    let seen = subst (λ (t : Told). (bytes : List ℕ) → IsSeen t bytes f → ReadsOn t bytes f f' (λ file. StandsFor f file → Gives c.next.result (given_of f) f' c.next.new.into file)) c.samples.invariant.same c.next.ensures.seen in
    let means = rows_mean front.scoped.program front.flat front.widths made.samples (record {
      lawful = front.scoped.lawful;
      equations = c.requires.fit.flat.equations;
      outputs = c.requires.fit.flat.outputs;
      wide = subst (λ (es : List EquationShape). AreWidths es front.widths) (sym c.requires.fit.flat.equations) c.requires.fit.widths;
      rows = made.stands.lawful;
    }) in
    made_all (g.S.Shelf.view c.args.shelf.now).told front.scoped.program (shapes_of front.flat.equations.items) front.flat.outputs.items front.widths c.args.trial.now.design c.args.feed.now f c.samples.evaluator _ _ made means f' c.next.new.into c.next.result same
    c.next.ensures.given seen c.in_default.not-Sample no_fault

pub returns-in_default-clause-short : goal.returns-in_default-clause-short
returns-in_default-clause-short g c = c.samples.invariant.short

pub returns-in_default-clause-there : goal.returns-in_default-clause-there
returns-in_default-clause-there g c = λ no_fault missing. no_fault (c.next.ensures.missing (rw (← c.samples.invariant.file.name, ← c.samples.invariant.same) at missing) (c.samples.invariant.there missing))

pub returns-in_default-clause-cause : goal.returns-in_default-clause-cause
returns-in_default-clause-cause g c = λ fault.
    cause_earlier (g.S.Shelf.view c.args.shelf.now).told (name_of c.args.feed.now) _ _ _ c.samples.invariant.later (rw (c.samples.invariant.file.name, c.samples.invariant.same) at (c.next.ensures.cause fault))

pub returns-in_default-clause-steady : goal.returns-in_default-clause-steady
returns-in_default-clause-steady g c = λ no_fault. c.next.ensures.steady no_fault ∙ c.samples.invariant.steady

pub returns-in_err-evaluator-clause-steady : goal.returns-in_err-evaluator-clause-steady
returns-in_err-evaluator-clause-steady g c = IfOk-from_err _ _ c.from_residual.ensures.0

pub returns-in_err-put_row-in-Sample-clause-steady : goal.returns-in_err-put_row-in-Sample-clause-steady
returns-in_err-put_row-in-Sample-clause-steady g c = IfOk-from_err _ _ c.from_residual-in_err-put_row-in-Sample.ensures.0

pub returns-in_err-evaluator-clause-lines : goal.returns-in_err-evaluator-clause-lines
returns-in_err-evaluator-clause-lines g c = IfOk-from_err _ _ c.from_residual.ensures.0

pub returns-in_err-evaluator-clause-short : goal.returns-in_err-evaluator-clause-short
returns-in_err-evaluator-clause-short g c = IfOk-from_err _ _ c.from_residual.ensures.0

pub returns-in_err-evaluator-clause-there : goal.returns-in_err-evaluator-clause-there
returns-in_err-evaluator-clause-there g c = IfOk-from_err _ _ c.from_residual.ensures.0

pub returns-in_err-evaluator-clause-cause : goal.returns-in_err-evaluator-clause-cause
returns-in_err-evaluator-clause-cause g c = IfOk-from_err _ _ c.from_residual.ensures.0

pub returns-in_err-evaluator-clause-cut : goal.returns-in_err-evaluator-clause-cut
returns-in_err-evaluator-clause-cut g c = cut_memory _ _ _ _ _ c.from_residual.result (err_from_is_err_and c.from_residual.result c.from_residual.ensures.1)

pub returns-in_err-put_row-in-Sample-clause-lines : goal.returns-in_err-put_row-in-Sample-clause-lines
returns-in_err-put_row-in-Sample-clause-lines g c = IfOk-from_err _ _ c.from_residual-in_err-put_row-in-Sample.ensures.0

pub returns-in_err-put_row-in-Sample-clause-short : goal.returns-in_err-put_row-in-Sample-clause-short
returns-in_err-put_row-in-Sample-clause-short g c = IfOk-from_err _ _ c.from_residual-in_err-put_row-in-Sample.ensures.0

pub returns-in_err-put_row-in-Sample-clause-there : goal.returns-in_err-put_row-in-Sample-clause-there
returns-in_err-put_row-in-Sample-clause-there g c = IfOk-from_err _ _ c.from_residual-in_err-put_row-in-Sample.ensures.0

pub returns-in_err-put_row-in-Sample-clause-cause : goal.returns-in_err-put_row-in-Sample-clause-cause
returns-in_err-put_row-in-Sample-clause-cause g c = IfOk-from_err _ _ c.from_residual-in_err-put_row-in-Sample.ensures.0

pub returns-in_err-put_row-in-Sample-clause-cut : goal.returns-in_err-put_row-in-Sample-clause-cut
returns-in_err-put_row-in-Sample-clause-cut g c = cut_memory _ _ _ _ _ c.from_residual-in_err-put_row-in-Sample.result (err_from_is_err_and c.from_residual-in_err-put_row-in-Sample.result c.from_residual-in_err-put_row-in-Sample.ensures.1)

-- the line of this sample makes the text too long
pub returns-then-len-gt-MOST_TEXT_BYTES-clause-cut : goal.returns-then-len-gt-MOST_TEXT_BYTES-clause-cut
returns-then-len-gt-MOST_TEXT_BYTES-clause-cut g c =
    let f = c.samples.feed in
    let f' = c.next.new.self in
    let told = (g.S.Shelf.view c.args.shelf.now).told in
    let made = c.samples.invariant.made in
    let front = c.args.trial.now.front in
    let flat = front.flat in
    let same = same_later c.args.feed.now f f' c.samples.invariant.file c.next.ensures.file in
    let seen = subst (λ (t : Told). (bytes : List ℕ) → IsSeen t bytes f → ReadsOn t bytes f f' (λ file. StandsFor f file → IsGiven f' (given_of f) c.next.new.into file)) c.samples.invariant.same c.in-Sample.ensures.seen in
    let more = made_more told (shapes_of flat.equations.items) flat.outputs.items front.widths c.args.trial.now.design c.args.feed.now f f' _ _ _ _ c.samples.count (c.samples.count + 1) c.next.new.into _ made same c.in-Sample.ensures.given seen
    (c.next-in-Sample.ensures.stands made.samples made.stands) (c.next-in-Sample.ensures.given made.samples made.stands) c.in_ok-put_row-in-Sample.ensures.line refl in
    let means = rows_mean front.scoped.program flat front.widths more.samples (record {
      lawful = front.scoped.lawful;
      equations = c.requires.fit.flat.equations;
      outputs = c.requires.fit.flat.outputs;
      wide = subst (λ (es : List EquationShape). AreWidths es front.widths) (sym c.requires.fit.flat.equations) c.requires.fit.widths;
      rows = more.stands.lawful;
    }) in
    let there : IsMissing told (name_of f') → ⊥ = λ missing.
    (let no : Got.Sample ≡ Got.ReadFault = sym c.in-Sample.is ∙ c.next.ensures.missing (rw (same.name, ← c.samples.invariant.file.name, ← c.samples.invariant.same) at missing) (c.samples.invariant.there (rw same.name at missing)) in cc) in
    made_long told front.scoped.program (shapes_of flat.equations.items) flat.outputs.items front.widths c.args.trial.now.design c.args.feed.now f' _ _ _ more means there (omega arith)
