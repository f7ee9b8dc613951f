-- What outputs tell of the kinds of instances.
use Rattle.std.proofs.Common.{◌≡◌, ◌∙◌, ◌+◌, ◌*◌, ◌-◌, ◌≤◌, ℕ, Bool, true, false, cond, nat_le, is_some, List, [], ◌∷◌, ◌++◌, drop, map, length, Option, Some, None, Ok, option_map, refl, sym, ap, ap₂, subst, append_assoc, append-nil, arith}
use Rattle.std.specs.Prelude.{nat_lt}
use Rattle.std.specs.List.{AllZip}
use Rattle.std.specs.Option.{option_and_then}
use Rattle.std.proofs.lemmas.Bool.{leb-true}
use Rattle.std.proofs.lemmas.List.{drop-map, length-append, length-map, map-append}
use Rattle.std.proofs.lemmas.Option.{none-some, same_Some}
use Rattle.std.proofs.Math.Seq.{drop-append_seam}
use Rattle.pr_lang.specs.declared.trees.Item.{Item}
use Rattle.pr_lang.specs.declared.trees.Program.{Program}
use Rattle.pr_scope_names.specs.Names.{Known}
use Rattle.pr_scope.specs.Walk as scope
use Rattle.pr_scope.specs.Walk.{offence, program_walk, turns_after}
use Rattle.pr_scope_facts.proofs.InvertedItems.{items-inverted}
use Rattle.pr_flat.specs.declared.equations.Operand.{Operand}
use Rattle.pr_flat.specs.Forms.{Stream}
use Rattle.pr_flat.specs.Widths.{AreWidths, operand_width}
use Rattle.pr_lang_meaning.specs.Streams.{Streams, all_parts, part, with_stream}
use Rattle.pr_lang_meaning.specs.Programs as meant
use Rattle.pr_lang_meaning.specs.Programs.{has_widths, streams_of}
use Rattle.pr_expand_spec.specs.Programs as programs
use Rattle.pr_expand_spec.specs.Programs.{equations_of}
use Rattle.pr_expand_correct.proofs.AgreedPrograms.{widths-found}
use Rattle.pr_probe.specs.Probes.{AreSignals, CanProbe, IsProbed, Probe, stream_at}
use Rattle.pr_probe.proofs.Scope.{IsLawfulOutput, outputs-lawful}
use Rattle.pr_probe.proofs.Equations.{made-append, made_of}
use Rattle.pr_probe.proofs.Known.{first-unknowing, items-unknowing}
use Rattle.pr_probe.proofs.Laws.{apart-from, probed-signals}
use Rattle.pr_probe.proofs.Meaning.{AreApart, meant-append, outputs_of, stream-still}
use Rattle.pr_probe.proofs.Scope.{apart}
use Rattle.pr_lens_probe.specs.Kinds.{is_signed, is_wide, kind_width, last_of}
use Rattle.pr_lens_probe.specs.Asked.{IsAsking}
use Rattle.pr_lens_probe.specs.declared.asking.Want.{Want}
use Rattle.pr_lens_probe.specs.Shown.{width_of}
use Rattle.pr_lens_probe.proofs.KindValues.{whole}
use Rattle.pr_lens_probe.proofs.Given.{wide-same}

-- ---- equations
counts : (at : ℕ) (ps : List Probe) (is : List Item) (w : programs.World) → AllZip (IsAsking Want.Kind) ps is → length (programs.items_change at is w).progress.equations ≡ length w.progress.equations + 2 * length ps
counts at [] [] w each = omega arith
counts at [] (i ∷ is) w each = absurd each
counts at (p ∷ ps) [] w each = absurd each
counts at (p ∷ ps) (i ∷ is) w each =
    let next = programs.item_change at i w in
    let one : length next.progress.equations ≡ length w.progress.equations + 2 =
    ap (λ (x : Item). length (programs.item_change at x w).progress.equations) each.0.is ∙ each.0.gives.makes w.visible w.progress.streams w.progress.equations in
    omega (arith, one, counts (at + 1) ps is next each.1)

pub asked-count : (program asked : Program) (ps : List Probe) (is : List Item) → asked.items.items ≡ program.items.items ++ is → AllZip (IsAsking Want.Kind) ps is → length (equations_of asked).equations ≡ length (equations_of program).equations + 2 * length ps
asked-count program asked ps is are each =
    let after = made-append 0 program.items.items is programs.start in
    ap (λ (l : List Item). length (made_of l)) are ∙ (ap (λ (w : programs.World). length w.progress.equations) after.1 ∙ counts after.0 ps is (programs.items_change 0 program.items.items programs.start) each)

-- ---- streams of at most 128 bits
abbrev pub IsThere : Streams → Probe → Stream → Type 0
IsThere env p s = (stream_at env p ≡ Some s) × (s.form.width ≤ 128)

parts-there : (env : Streams) (ps : List Probe) (ss : List Stream) → all_parts (map (stream_at env) ps) ≡ Some ss → AllZip (IsThere env) ps ss
parts-there env [] [] h = tt
parts-there env [] (s ∷ ss) h = grind (arith, h)
parts-there env (p ∷ ps) ss h = by_part (λ rs. parts-there env ps rs) (stream_at env p) refl h where
  by_rest : ((rs : List Stream) → all_parts (map (stream_at env) ps) ≡ Some rs → AllZip (IsThere env) ps rs) → (s : Stream) → IsThere env p s → (x : Option (List Stream)) → all_parts (map (stream_at env) ps) ≡ x → option_map (λ ss. s ∷ ss) x ≡ Some ss → AllZip (IsThere env) (p ∷ ps) ss
  by_rest others s is None rest h = absurd (none-some ss h)
  by_rest others s is (Some rs) rest h = subst (AllZip (IsThere env) (p ∷ ps)) (same_Some (s ∷ rs) ss h) (is, others rs rest)

  by_test : ((rs : List Stream) → all_parts (map (stream_at env) ps) ≡ Some rs → AllZip (IsThere env) ps rs) → (s : Stream) → stream_at env p ≡ Some s → (b : Bool) → nat_le s.form.width 128 ≡ b → option_and_then (λ s. option_map (λ ss. s ∷ ss) (all_parts (map (stream_at env) ps))) (cond b (Some s) None) ≡ Some ss → AllZip (IsThere env) (p ∷ ps) ss
  by_test others s is false test h = absurd (none-some ss h)
  by_test others s is true test h = by_rest others s (is, leb-true s.form.width 128 test) (all_parts (map (stream_at env) ps)) refl h

  by_part : ((rs : List Stream) → all_parts (map (stream_at env) ps) ≡ Some rs → AllZip (IsThere env) ps rs) → (o : Option Stream) → stream_at env p ≡ o → option_and_then (λ s. option_map (λ ss. s ∷ ss) (all_parts (map (stream_at env) ps))) (part o) ≡ Some ss → AllZip (IsThere env) (p ∷ ps) ss
  by_part others None is h = absurd (none-some ss h)
  by_part others (Some s) is h = by_test others s is (nat_le s.form.width 128) refl h

there-still : (test : List ℕ → Bool) (known : Known) (name : List ℕ) (t : Stream) (env : Streams) (ps : List Probe) (ss : List Stream) → test name ≡ false → AreApart test known ps → AllZip (IsThere env) ps ss → AllZip (IsThere (with_stream name None t env)) ps ss
there-still test known name t env [] [] isnt are there = tt
there-still test known name t env [] (s ∷ ss) isnt are there = absurd there
there-still test known name t env (p ∷ ps) [] isnt are there = absurd there
there-still test known name t env (p ∷ ps) (s ∷ ss) isnt are there =
    ((stream-still name t env p (apart test name p.name isnt are.0.named) ∙ there.0.0, there.0.1), there-still test known name t env ps ss isnt are.1 there.1)

-- ---- what the outputs mean
record AreTold (before : List Stream) (ss : List Stream) (o : Option (List Stream)) : Type 0 where
  told : List Stream
  is : o ≡ Some (before ++ told)
  wide : map width_of told ≡ map (λ s. kind_width (is_signed s)) ss

kind-low : (signed : Bool) → kind_width signed ≤ 128
kind-low true = omega arith
kind-low false = omega arith

told-all : (test : List ℕ → Bool) (xs : List (List ℕ)) (at : ℕ) (ps : List Probe) (is : List Item) (w : meant.World) (ss : List Stream) → AreApart test w.visible.known ps → AllZip (IsAsking Want.Kind) ps is → AllZip (IsThere w.streams) ps ss → AreTold w.outputs ss (outputs_of (meant.items_change xs at is w))
told-all test xs at [] [] w [] are each there = record { told = []; is = ap Some (sym (append-nil w.outputs)); wide = refl }
told-all test xs at [] [] w (s ∷ ss) are each there = absurd there
told-all test xs at [] (i ∷ is) w ss are each there = absurd each
told-all test xs at (p ∷ ps) [] w ss are each there = absurd each
told-all test xs at (p ∷ ps) (i ∷ is) w [] are each there = absurd there
told-all test xs at (p ∷ ps) (i ∷ is) w (s ∷ ss) are each there =
    let here = each.0.gives.means w.visible (length xs) w.streams s are.0.unknown there.0.0 there.0.1 in
    let low : here.stream.form.width ≤ 128 = omega (arith, here.wide, kind-low (is_signed s)) in
    let next = meant.with_output p.fresh w here.stream in
    let change : meant.item_change xs at i w ≡ Some next =
    ap (λ (x : Item). meant.item_change xs at x w) each.0.is ∙ (ap (λ o. option_map (meant.with_output p.fresh w) (part o)) here.is ∙ ap (option_map (meant.with_output p.fresh w)) (whole here.stream low)) in
    let rest = told-all test xs (at + 1) ps is next ss are.1 each.1 (there-still test w.visible.known p.fresh here.stream w.streams ps ss are.0.fresh are.1 there.1) in
    record {
      told = here.stream ∷ rest.told;
      is = ap (λ o. outputs_of (option_and_then (meant.items_change xs (at + 1) is) o)) change ∙ (rest.is ∙ ap Some (append_assoc w.outputs (here.stream ∷ []) rest.told));
      wide = ap₂ (λ (n : ℕ) (ns : List ℕ). n ∷ ns) here.wide rest.wide;
    }

-- ---- kinds
kind-is : (signed : Bool) → nat_lt 1 (kind_width signed) ≡ signed
kind-is true = refl
kind-is false = refl

kinds-are : (ss : List Stream) → map (λ n. nat_lt 1 n) (map (λ s. kind_width (is_signed s)) ss) ≡ map is_signed ss
kinds-are [] = refl
kinds-are (s ∷ ss) = ap₂ (λ (b : Bool) (bs : List Bool). b ∷ bs) (kind-is (is_signed s)) (kinds-are ss)

wide-are : (widths : List ℕ) (os : List Operand) → map (is_wide widths) os ≡ map (λ n. nat_lt 1 n) (map (operand_width widths) os)
wide-are widths [] = refl
wide-are widths (o ∷ os) = ap (λ (bs : List Bool). is_wide widths o ∷ bs) (wide-are widths os)

lawful-outputs : (ps : List Probe) (is : List Item) → AllZip (IsAsking Want.Kind) ps is → AllZip IsLawfulOutput ps is
lawful-outputs [] [] each = tt
lawful-outputs [] (i ∷ is) each = absurd each
lawful-outputs (p ∷ ps) [] each = absurd each
lawful-outputs (p ∷ ps) (i ∷ is) each = ((each.0.value, each.0.is, each.0.gives.keeps), lawful-outputs ps is each.1)

-- a program with such outputs behind its items, and one with probes
module _ (test : List ℕ → Bool) (program asked probed : Program) (ps : List Probe) (is : List Item) (last : scope.World) (are : asked.items.items ≡ program.items.items ++ is) (each : AllZip (IsAsking Want.Kind) ps is)
    (probes : IsProbed program ps probed) (walk : program_walk program ≡ Ok last) (can : CanProbe test ps last) where
  pub asked-lawful : offence asked ≡ None
  asked-lawful = outputs-lawful test program ps is asked last are (lawful-outputs ps is each) walk can

  module _ (has : has_widths program ≡ true) where
    pub signals : (xs : List (List ℕ)) → AreSignals program ps probed xs
    signals xs = probed-signals test program ps probed last xs probes walk can has

    asked-told : (xs : List (List ℕ)) → AreTold (signals xs).world.outputs (signals xs).streams (streams_of asked xs)
    asked-told xs =
        let s = signals xs in
        let inverted = items-inverted 0 program.items.items scope.start last walk in
        let unknowing = items-unknowing xs 0 program.items.items scope.start last meant.start s.world inverted.all s.is first-unknowing in
        let split = meant-append xs 0 program.items.items is meant.start in
        let told = told-all test xs split.0 ps is s.world s.streams (apart-from test last.known s.world.visible.known last.streams ps unknowing can.each) each (parts-there s.world.streams ps s.streams s.parts) in
        record {
          told = told.told;
          is = ap (λ (l : List Item). outputs_of (meant.items_change xs 0 l meant.start)) are ∙ (ap outputs_of split.1 ∙ (ap (λ o. outputs_of (option_and_then (meant.items_change xs split.0 is) o)) s.is ∙ told.is));
          wide = told.wide;
        }

    pub asked-widths : has_widths asked ≡ true
    asked-widths = ap is_some (asked-told []).is

    -- where the equations have these widths, on these samples
    module _ (widths : List ℕ) (wide : AreWidths (equations_of asked).equations widths) (xs : List (List ℕ)) where
      told : List Stream
      told = (asked-told xs).told

      abbrev before : List Stream
      before = (signals xs).world.outputs

      all-widths : map (operand_width widths) (equations_of asked).outputs ≡ map width_of before ++ map width_of told
      unfolding told asked-told
      all-widths =
          let found = widths-found asked widths xs asked-lawful wide in
          let these : found.streams ≡ before ++ told = same_Some found.streams (before ++ told) (sym found.are ∙ (asked-told xs).is) in
          wide-same widths (equations_of asked).outputs found.streams found.wide ∙ (ap (map width_of) these ∙ map-append width_of before told)

      pub asked-long : length (equations_of asked).outputs ≡ length (map width_of before) + length ps
      unfolding told asked-told
      asked-long =
          let s = signals xs in
          let a : length (map (operand_width widths) (equations_of asked).outputs) ≡ length (equations_of asked).outputs = length-map (equations_of asked).outputs (operand_width widths) in
          let b : length (map width_of before ++ map width_of told) ≡ length (map width_of before) + length (map width_of told) = length-append (map width_of before) (map width_of told) in
          let c : length (map width_of told) ≡ length s.streams = ap length (asked-told xs).wide ∙ length-map s.streams (λ t. kind_width (is_signed t)) in
          let d : length s.streams ≡ length ps = sym (length-map s.streams Some) ∙ (sym (ap length s.each) ∙ length-map ps (stream_at s.world.streams)) in
          sym a ∙ (ap length all-widths ∙ (b ∙ ap (λ n. length (map width_of before) + n) (c ∙ d)))

      -- the last outputs are wider than 1 bit where the streams are signed
      pub asked-kinds : map (is_wide widths) (last_of (length ps) (equations_of asked).outputs) ≡ map is_signed (signals xs).streams
      unfolding told asked-told
      asked-kinds =
          let outputs = (equations_of asked).outputs in
          let front = length outputs - length ps in
          let count : length (map width_of before) ≡ front = omega (arith, asked-long) in
          wide-are widths (drop front outputs)
          ∙ (ap (map (λ n. nat_lt 1 n)) (sym (drop-map (operand_width widths) front outputs)
          ∙ (ap (drop front) all-widths
          ∙ (ap (λ n. drop n (map width_of before ++ map width_of told)) (sym count)
          ∙ (drop-append_seam (map width_of before) (map width_of told) ∙ (asked-told xs).wide))))
          ∙ kinds-are (signals xs).streams)
