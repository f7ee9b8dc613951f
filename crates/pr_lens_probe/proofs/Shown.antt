-- What the outputs of a program and then its instances give.
use Rattle.std.proofs.Common.{◌≡◌, ◌∙◌, ℕ, true, List, ◌++◌, Some, None, sym, ap, subst}
use Rattle.std.specs.List.{AllZip}
use Rattle.std.proofs.lemmas.List.{length-append}
use Rattle.std.proofs.lemmas.Option.{same_Some}
use Rattle.std.proofs.lemmas.Slice.Zip.{AllZip-long}
use Rattle.pr_lang.specs.declared.trees.Program.{Program}
use Rattle.pr_scope.specs.Walk.{offence}
use Rattle.pr_flat.specs.declared.equations.Operand.{Operand}
use Rattle.pr_flat.specs.Facts.{IsFlat}
use Rattle.pr_flat.specs.Forms.{Stream}
use Rattle.pr_flat.specs.Widths.{AreWidths}
use Rattle.pr_lang_meaning.specs.Programs.{has_widths, streams_of}
use Rattle.pr_expand_spec.specs.Programs.{equations_of}
use Rattle.pr_expand_correct.specs.Outputs.{IsAsWide}
use Rattle.pr_expand_correct.specs.Results.{AreSamples, IsListOf}
use Rattle.pr_expand_correct.proofs.AgreedPrograms.{widths-exist, widths-found}
use Rattle.pr_expand_correct.proofs.NumberLaws.{streams-have_lists}
use Rattle.pr_probe.specs.Instances.{instances_of}
use Rattle.pr_probe.proofs.Meaning.{outputs_of}
use Rattle.pr_lens_probe.specs.Given.{AreGiven, GiveStreams}
use Rattle.pr_lens_probe.specs.Shown.{HasColumns}
use Rattle.pr_lens_probe.proofs.Given.{columns-are, wide-same, zip-append}

-- a program, and operands that give the streams of its instances
module _ (program : Program) (operands : List Operand) (none : offence program ≡ None) (has : has_widths program ≡ true) (flat : IsFlat (equations_of program).equations (equations_of program).outputs) (given : AreGiven program (instances_of program) operands) where
  abbrev all : List Operand
  all = (equations_of program).outputs ++ operands

  abbrev at : (xs : List (List ℕ)) → GiveStreams program xs (instances_of program) operands
  at xs = given.streams xs

  own : (xs : List (List ℕ)) (streams : List Stream) → streams_of program xs ≡ Some streams → streams ≡ (at xs).outputs
  own xs streams are =
      let g = at xs in
      same_Some streams g.has.world.outputs (sym are ∙ ap outputs_of g.has.is) ∙ sym g.has.outputs_are

  zip-wide : (xs : List (List ℕ)) (widths : List ℕ) → AreWidths (equations_of program).equations widths → AllZip (IsAsWide widths) all ((at xs).outputs ++ (at xs).streams)
  zip-wide xs widths are =
      let g = at xs in
      let found = widths-found program widths xs none are in
      zip-append (IsAsWide widths) (equations_of program).outputs operands g.outputs g.streams
      (subst (λ (ss : List Stream). AllZip (IsAsWide widths) (equations_of program).outputs ss) (own xs found.streams found.are) found.wide) (g.match.wide widths are)

  zip-lists : (xs : List (List ℕ)) (widths : List ℕ) → AreWidths (equations_of program).equations widths → AreSamples program xs → AllZip (IsListOf (equations_of program).equations widths xs) all ((at xs).outputs ++ (at xs).streams)
  zip-lists xs widths are samples =
      let g = at xs in
      let R = IsListOf (equations_of program).equations widths xs in
      let found = streams-have_lists program widths xs none flat are samples in
      zip-append R (equations_of program).outputs operands g.outputs g.streams
      (subst (λ (ss : List Stream). AllZip R (equations_of program).outputs ss) (own xs found.streams found.are) found.lists) (g.match.lists widths are samples)

  pub columns : (xs : List (List ℕ)) → HasColumns program all xs
  columns xs =
      let g = at xs in
      let have = widths-exist program none has in
      record {
        outputs = g.outputs;
        streams = g.streams;
        has = g.has;
        all = sym (length-append g.outputs g.streams) ∙ AllZip-long (IsAsWide have.widths) all (g.outputs ++ g.streams) (zip-wide xs have.widths have.are);
        wide = λ widths are. wide-same widths all (g.outputs ++ g.streams) (zip-wide xs widths are);
        are = λ widths are samples. columns-are (equations_of program).equations widths xs all g.outputs g.streams (zip-lists xs widths are samples);
      }
