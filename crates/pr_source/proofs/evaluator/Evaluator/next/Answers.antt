use Rattle.std.proofs.Common.{◌≡◌, ◌≤◌, ℕ, List, [], ◌∷◌, ◌++◌, length, reverse, take, ap, ap₂, subst, sym, ◌∙◌, arith}
use Rattle.std.proofs.lemmas.List.{length-map, reverse-append}
use Rattle.std.proofs.lemmas.List.Elements.{All-cons, All-push, All-same, All-take}
use Rattle.pr_base.specs.Rows.{IsRow}
use Rattle.pr_flat.specs.Shape.{equation_shape, shapes_of}
use Rattle.pr_flat.specs.Values.{input_widths, row_of, rows_of}
use Rattle.pr_flat.proofs.ValueLemmas.{length-row_of}
use Rattle.pr_source.specs.Keeping.{kept, slots, AreNear}
use Rattle.pr_source.specs.Outputs.{given}
use Rattle.pr_source.specs.Reading.{IsWhole}
use Rattle.pr_source.specs.Standing.{Stands}
use Rattle.pr_source.proofs.Latest.{latest-more, row_of-latest, rows_of-more}
use Rattle.pr_source.proofs.Whole.{row_whole}
use Rattle.pr_source.proofs.evaluator.Evaluator.next.Goals as goal

pub fill-requires-clause-before : goal.fill-requires-clause-before
fill-requires-clause-before c = c.requires.stands.stands.whole

pub give-requires-clause-row : goal.give-requires-clause-row
give-requires-clause-row c = omega (arith, ap length c.fill.ensures, length-row_of (shapes_of c.args.flat.now.equations.items) c.args.widths.now (kept c.args.self.now.recent) c.args.sample.now, length-map c.args.flat.now.equations.items equation_shape, c.args.flat.now.equations.ok.0)

-- the row that was made is that after all rows before
made : (c : goal.After-keep) (samples : List (List ℕ)) → Stands (shapes_of c.args.flat.now.equations.items) c.args.widths.now samples c.args.self.now → c.fill.new.row ≡ row_of (shapes_of c.args.flat.now.equations.items) c.args.widths.now (reverse (rows_of (shapes_of c.args.flat.now.equations.items) c.args.widths.now samples)) c.args.sample.now
made c samples stands =
    let equations = shapes_of c.args.flat.now.equations.items in
    let widths = c.args.widths.now in
    let sample = c.args.sample.now in
    c.fill.ensures ∙ (ap (λ (before : List (List ℕ)). row_of equations widths before sample) stands.latest
    ∙ row_of-latest equations c.args.flat.now.outputs.items widths (slots c.args.self.now.recent) (reverse (rows_of equations widths samples)) sample c.args.flat.now.lawful stands.some stands.near)

pub returns-clause-stands : goal.returns-clause-stands
returns-clause-stands c samples stands =
    let equations = shapes_of c.args.flat.now.equations.items in
    let outputs = c.args.flat.now.outputs.items in
    let widths = c.args.widths.now in
    let sample = c.args.sample.now in
    let before = kept c.args.self.now.recent in
    let size = slots c.args.self.now.recent in
    let rows = rows_of equations widths samples in
    let row = c.fill.new.row in
    let is = made c samples stands in
    let whole : IsWhole equations widths row = subst (IsWhole equations widths) (sym c.fill.ensures) (row_whole equations outputs widths before sample c.args.flat.now.lawful c.requires.widths stands.whole c.requires.sample) in
    let more : reverse (rows_of equations widths (samples ++ sample ∷ [])) ≡ row ∷ reverse rows =
    ap reverse (rows_of-more equations widths samples sample) ∙ (reverse-append rows (row_of equations widths (reverse rows) sample ∷ []) ∙ ap (λ (r : List ℕ). r ∷ reverse rows) (sym is)) in
    record {
      lawful = All-push (IsRow (input_widths equations)) samples sample stands.lawful c.requires.sample;
      latest = c.keep.ensures.kept ∙ (ap (λ (rs : List (List ℕ)). take size (row ∷ rs)) stands.latest ∙ (latest-more size row (reverse rows) ∙ ap₂ (λ (n : ℕ) (rs : List (List ℕ)). take n rs) (sym c.keep.ensures.slots) (sym more)));
      whole = All-same (IsWhole equations widths) _ _ c.keep.ensures.kept (All-take (IsWhole equations widths) size (row ∷ before) (All-cons (IsWhole equations widths) row before whole stands.whole));
      some = subst (λ (n : ℕ). 1 ≤ n) (sym c.keep.ensures.slots) stands.some;
      near = subst (λ (n : ℕ). AreNear n equations) (sym c.keep.ensures.slots) stands.near;
      least = λ n one all. subst (λ (k : ℕ). k ≤ n) (sym c.keep.ensures.slots) (stands.least n one all);
      size = c.keep.ensures.size (length equations) stands.size whole.count;
      room = c.keep.ensures.room (length equations) stands.size;
    }

pub returns-clause-given : goal.returns-clause-given
returns-clause-given c samples stands = c.give.ensures ∙ ap (given (shapes_of c.args.flat.now.equations.items) c.args.flat.now.outputs.items) (made c samples stands)
