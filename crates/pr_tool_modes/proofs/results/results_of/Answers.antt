use Rattle.std.proofs.Common.{All, ◌≡◌, ◌≢◌, ℕ, List, length, nat_lt, refl, sym, subst, ◌∙◌, inl, inr, arith}
use Rattle.std.proofs.lemmas.Bool.{false≢true}
use Rattle.pr_edge.specs.Files.{Told}
use Rattle.pr_samples.specs.declared.feed.Got.{Got}
use Rattle.pr_samples.specs.Feed.{name_of, limit_of, IsSeen, ReadsOn}
use Rattle.pr_tool_modes.specs.Programs.{inputs_of}
use Rattle.pr_tool_modes.specs.Evaluations.{IsShortFeed}
use Rattle.pr_tool_modes.proofs.SampleLemmas.{lines_of_short, long_of}
use Rattle.pr_tool_modes.proofs.InputWidths.{IsInputWidth, lawful_inputs}
use Rattle.pr_tool_modes.proofs.results.results_of.Goals as goal

pub make_bounded-requires-clause-widths : goal.make_bounded-requires-clause-widths
make_bounded-requires-clause-widths g c = subst (All IsInputWidth) (sym (c.deref.ensures.value ∙ c.args.front.now.scoped.declared)) (lawful_inputs c.args.front.now.scoped.program c.args.front.now.scoped.lawful)

pub evaluate-requires-clause-feed : goal.evaluate-requires-clause-feed
evaluate-requires-clause-feed g c = record {
  fresh = record { bytes = c.in-Ok.ensures.start.0; samples = c.in-Ok.ensures.start.1; few = omega (arith, c.in-Ok.ensures.most); stands = c.in-Ok.ensures.stands };
  inputs = c.in-Ok.ensures.widths ∙ (c.deref.ensures.value ∙ c.args.front.now.scoped.declared);
  limit = c.in-Ok.ensures.limit;
  most = c.in-Ok.ensures.most;
}

pub returns-in-Ok-true-clause-refused : goal.returns-in-Ok-true-clause-refused
returns-in-Ok-true-clause-refused g c =
    let first = c.in-Ok.feed in
    let f = c.evaluate.new.feed in
    let f' = c.is_too_long.new.self in
    let results = c.in-Ok-evaluate.results in
    let no_fault : results.end ≢ Got.ReadFault = λ fault. false≢true (sym c.if-is_read_fault.false ∙ c.is_read_fault.ensures.1 fault) in
    let named : name_of f' ≡ c.args.samples.now = c.is_too_long.ensures.file.name ∙ (c.evaluate.ensures.file.name ∙ c.in-Ok.ensures.name) in
    let last = subst (λ (t : Told). (bytes : List ℕ) → IsSeen t bytes f → ReadsOn t bytes f f' (λ file. c.in-Ok-true.field-0 ≡ nat_lt (limit_of f) (length file))) c.evaluate.ensures.same c.in-Ok-true.ensures.seen in
    inl (
      refl,
      long_of (g.S.Shelf.view c.args.shelf.now).told c.args.samples.now c.args.front.now.scoped.program first f f' results.text.items results.end (c.in-Ok-evaluate.ensures.results no_fault) named (λ missing. c.in-Ok-evaluate.ensures.there no_fault (rw (← c.in-Ok.ensures.name) at missing))
          (limit_of f) c.in-Ok-true.field-0 (c.evaluate.ensures.file.limit ∙ c.in-Ok.ensures.limit) c.in-Ok-true.field-0-test last,
    )

pub returns-in-Ok-false-clause-results : goal.returns-in-Ok-false-clause-results
returns-in-Ok-false-clause-results g c =
    let first = c.in-Ok.feed in
    let f = c.evaluate.new.feed in
    let f' = c.is_too_long.new.self in
    let results = c.in-Ok-evaluate.results in
    let no_fault : results.end ≢ Got.ReadFault = λ fault. false≢true (sym c.if-is_read_fault.false ∙ c.is_read_fault.ensures.1 fault) in
    let named : name_of f' ≡ c.args.samples.now = c.is_too_long.ensures.file.name ∙ (c.evaluate.ensures.file.name ∙ c.in-Ok.ensures.name) in
    let last = subst (λ (t : Told). (bytes : List ℕ) → IsSeen t bytes f → ReadsOn t bytes f f' (λ file. c.in-Ok-false.field-0 ≡ nat_lt (limit_of f) (length file))) c.evaluate.ensures.same c.in-Ok-false.ensures.seen in
    let short : IsShortFeed (inputs_of c.args.front.now.scoped.program) first = record {
      fresh = record { bytes = c.in-Ok.ensures.start.0; samples = c.in-Ok.ensures.start.1; few = omega (arith, c.in-Ok.ensures.most); stands = c.in-Ok.ensures.stands };
      inputs = c.in-Ok.ensures.widths ∙ (c.deref.ensures.value ∙ c.args.front.now.scoped.declared);
      limit = c.in-Ok.ensures.limit;
      most = c.in-Ok.ensures.most;
    } in
    lines_of_short (g.S.Shelf.view c.args.shelf.now).told c.args.samples.now c.args.front.now.scoped.program first f f' results.text.items results.end (c.in-Ok-evaluate.ensures.results no_fault) named (λ missing. c.in-Ok-evaluate.ensures.there no_fault (rw (← c.in-Ok.ensures.name) at missing))
    (limit_of f) c.in-Ok-false.field-0 (c.evaluate.ensures.file.limit ∙ c.in-Ok.ensures.limit) c.in-Ok-false.field-0-test short last

pub returns-in-Ok-false-clause-steady : goal.returns-in-Ok-false-clause-steady
returns-in-Ok-false-clause-steady g c =
    let no_fault : c.in-Ok-evaluate.results.end ≢ Got.ReadFault = λ fault. false≢true (sym c.if-is_read_fault.false ∙ c.is_read_fault.ensures.1 fault) in
    c.in-Ok-false.ensures.steady ∙ c.in-Ok-evaluate.ensures.steady no_fault

pub returns-in-Ok-true-clause-shown : goal.returns-in-Ok-true-clause-shown
returns-in-Ok-true-clause-shown g c =
    let no_fault : c.in-Ok-evaluate.results.end ≢ Got.ReadFault = λ fault. false≢true (sym c.if-is_read_fault.false ∙ c.is_read_fault.ensures.1 fault) in
    inr (c.in-Ok-true.ensures.steady ∙ c.in-Ok-evaluate.ensures.steady no_fault)
