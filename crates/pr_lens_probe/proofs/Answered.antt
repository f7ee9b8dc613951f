-- A program with outputs that ask for something of some instances.
use Rattle.std.proofs.Common.{◌≡◌, ◌∙◌, ◌+◌, ◌*◌, ◌-◌, ◌≤◌, ℕ, Bool, true, false, ◌&&◌, List, [], ◌∷◌, ◌++◌, drop, map, length, replicate, Option, Some, None, Ok, is_some, refl, sym, ap, ap₂, subst, arith}
use Rattle.std.specs.List.{AllZip}
use Rattle.std.proofs.lemmas.List.{append-nil, length-append, length-map}
use Rattle.std.proofs.lemmas.Option.{none-some, same_Some}
use Rattle.std.proofs.lemmas.Slice.Zip.{AllZip-long}
use Rattle.pr_base.specs.Rows.{IsRow}
use Rattle.pr_lang.specs.declared.trees.Expr.{Expr}
use Rattle.pr_lang.specs.declared.trees.Item.{Item}
use Rattle.pr_lang.specs.declared.trees.Item.TheVariants.{Output}
use Rattle.pr_lang.specs.declared.trees.Program.{Program}
use Rattle.pr_scope_names.specs.declared.streams.Instance.{Instance}
use Rattle.pr_scope_names.specs.Names.{built_in}
use Rattle.pr_scope.specs.Walk.{World, items_walk, offence, program_walk, refusal_of, start, turns_after}
use Rattle.pr_scope_facts.proofs.Inputs.{inputs-of-equations}
use Rattle.pr_scope_facts.proofs.InvertedItems.{program-inverted}
use Rattle.pr_flat.specs.declared.equations.Operand.{Operand}
use Rattle.pr_flat.specs.declared.flat.Flat.{Flat}
use Rattle.pr_flat.specs.Facts.{IsFlat}
use Rattle.pr_flat.specs.Forms.{Stream}
use Rattle.pr_flat.specs.Shape.{EquationShape}
use Rattle.pr_flat.specs.Values.{input_widths}
use Rattle.pr_flat.specs.Widths.{AreWidths}
use Rattle.pr_lang_meaning.specs.Streams.{Streams}
use Rattle.pr_lang_meaning.specs.Programs as meant
use Rattle.pr_lang_meaning.specs.Programs.{has_widths}
use Rattle.pr_expand_spec.specs.Programs.{equations_of}
use Rattle.pr_expand_correct.specs.Outputs.{IsAsWide}
use Rattle.pr_expand_correct.specs.Results.{AreSamples, IsListOf}
use Rattle.pr_expand_correct.proofs.AgreedPrograms.{widths-exist, widths-found}
use Rattle.pr_expand_correct.proofs.NumberLaws.{streams-have_lists}
use Rattle.pr_probe.specs.Instances.{items_listing}
use Rattle.pr_probe.specs.Operands.{made_world, operand_at, operand_of}
use Rattle.pr_probe.specs.Probes.{AreAmong, AreNamed, AreSignals, CanProbe, HaveNames, IsProbed, Probe, probe_item, stream_at}
use Rattle.pr_probe.proofs.Equations.{equations-same}
use Rattle.pr_probe.proofs.Laws.{probed-signals}
use Rattle.pr_probe.proofs.Meaning.{outputs_of}
use Rattle.pr_probe.proofs.Operands.{probed-outputs}
use Rattle.pr_probe.proofs.Probing.{some-probed}
use Rattle.pr_probe.proofs.Scope.{probed-lawful}
use Rattle.pr_lens_probe.specs.declared.asking.Want.{Want}
use Rattle.pr_lens_probe.specs.Asked.{AreAsked, CanAsk, IsAnswered, IsAsking, cost_of}
use Rattle.pr_lens_probe.specs.Fresh.{fresh_names, is_within, probes_from}
use Rattle.pr_lens_probe.specs.Given.{AreGiven, HasStreams, HaveKinds, stream_of}
use Rattle.pr_lens_probe.specs.Kinds.{has_room, is_signed, is_wide, last_of}
use Rattle.pr_lens_probe.proofs.Given.{last-are, lawful-last, zip-last}
use Rattle.pr_lens_probe.proofs.KindLaws as laws
use Rattle.pr_lens_probe.proofs.Names.{fresh, probes-are}

probes-long : (most number : ℕ) (is : List Instance) → length (probes_from most number is) ≡ length is
probes-long most number [] = refl
probes-long most number (i ∷ is) = omega (arith, probes-long most (number + 1) is)

streams-same : (most number : ℕ) (env : Streams) (is : List Instance) → map (stream_at env) (probes_from most number is) ≡ map (stream_of env) is
streams-same most number env [] = refl
streams-same most number env (i ∷ is) = ap (λ (rest : List (Option Stream)). stream_of env i ∷ rest) (streams-same most (number + 1) env is)

operands-same : (most number : ℕ) (program : Program) (is : List Instance) → map (operand_at (made_world program).progress.streams) (probes_from most number is) ≡ map (operand_of program) is
operands-same most number program [] = refl
operands-same most number program (i ∷ is) = ap (λ (rest : List Operand). operand_of program i ∷ rest) (operands-same most (number + 1) program is)

-- outputs that ask for streams are probes
pub stream-outputs : (ps : List Probe) (is : List Item) → AllZip (IsAsking Want.Stream) ps is → is ≡ map probe_item ps
stream-outputs [] [] each = refl
stream-outputs [] (i ∷ is) each = absurd each
stream-outputs (p ∷ ps) [] each = absurd each
stream-outputs (p ∷ ps) (i ∷ is) each =
    ap₂ (λ (x : Item) (l : List Item). x ∷ l) (each.0.is ∙ ap (λ (e : Expr). Output p.fresh None e) each.0.gives) (stream-outputs ps is each.1)

first : {A : Type 0} → List (Option A) → Option A
first [] = None
first (o ∷ os) = o

some-same : {A : Type 0} (xs ys : List A) → map Some xs ≡ map Some ys → xs ≡ ys
unfolding first
some-same [] [] h = refl
some-same [] (y ∷ ys) h = absurd (none-some y (ap first h))
some-same (x ∷ xs) [] h = absurd (none-some x (sym (ap first h)))
some-same {A} (x ∷ xs) (y ∷ ys) h = ap₂ (λ (a : A) (l : List A). a ∷ l) (same_Some x y (ap first h)) (some-same xs ys (ap (drop 1) h))

none-signed : (ss : List Stream) → replicate (length ss) false ≡ map (λ s. false && is_signed s) ss
none-signed [] = refl
none-signed (s ∷ ss) = ap (λ (bs : List Bool). false ∷ bs) (none-signed ss)

-- where there is no room, no kind is told
pub kinds-untold : (program : Program) (some : List Instance) (kinds : List Bool) → has_room program ≡ false → kinds ≡ replicate (length some) false → HaveKinds program some kinds
kinds-untold program some kinds room are xs outputs streams has =
    let size : length some ≡ length streams = sym (length-map some (stream_of has.world.streams)) ∙ (ap length has.each ∙ length-map streams Some) in
    are ∙ (ap (λ n. replicate n false) size ∙ (none-signed streams ∙ ap (λ b. map (λ t. b && is_signed t) streams) (sym room)))

-- the same of a program with the same items
pub can-as : (p q : Program) → p.items.items ≡ q.items.items → (most : ℕ) (some : List Instance) → CanAsk p most some → CanAsk q most some
can-as p q same most some can = record {
  lawful = ap (λ (l : List Item). refusal_of (items_walk 0 l start)) (sym same) ∙ can.lawful;
  widths = ap (λ (l : List Item). is_some (outputs_of (meant.items_change [] 0 l meant.start))) (sym same) ∙ can.widths;
  turns = subst (λ (l : List Item). turns_after (items_walk 0 l start) + length some ≤ 65536) same can.turns;
  among = subst (λ (l : List Item). AreAmong some (items_listing 0 l built_in)) same can.among;
  named = subst (λ (l : List Item). AreNamed (is_within most) (items_listing 0 l built_in)) same can.named;
  statics = subst (HaveNames (is_within most)) same can.statics;
}

-- a program before any instance is asked for
pub streams-none : (program : Program) → offence program ≡ None → has_widths program ≡ true → turns_after (program_walk program) ≤ 65536 → (xs : List (List ℕ)) → (outputs : List Stream) × HasStreams program xs [] outputs []
streams-none program none has turns xs =
    let walk = program-inverted program none in
    let count : turns_after (program_walk program) ≡ walk.last.count.turns = ap turns_after walk.walk in
    let s = probed-signals (λ name. true) program [] program walk.last xs (sym (append-nil program.items.items)) walk.walk (record { turns = omega (arith, turns, count); each = tt }) has in
    (s.world.outputs, record { world = s.world; is = s.is; outputs_are = refl; each = refl })

-- some instances of a program, of which something can be asked for
module _ (program : Program) (most : ℕ) (some : List Instance) (can : CanAsk program most some) where
  abbrev ps : List Probe
  ps = probes_from most 0 some

  abbrev last : World
  last = (program-inverted program can.lawful).last

  walk : program_walk program ≡ Ok last
  walk = (program-inverted program can.lawful).walk

  can-probe : CanProbe (is_within most) ps last
  can-probe =
      let names = fresh_names most 0 (length some) in
      subst (λ (qs : List Probe). CanProbe (is_within most) qs last) (sym (probes-are most 0 some))
      (some-probed (is_within most) program some names last walk (record { among = can.among; turns = can.turns; fresh = fresh most 0 (length some); named = can.named; statics = can.statics }))

  -- ---- a program with probes
  module _ (probed : Program) (is : IsProbed program ps probed) where
    pub probes-lawful : offence probed ≡ None
    probes-lawful = probed-lawful (is_within most) program ps probed last is walk can-probe

    same : (equations_of probed).equations ≡ (equations_of program).equations
    same = equations-same program ps probed is

    abbrev signals : (xs : List (List ℕ)) → AreSignals program ps probed xs
    signals xs = probed-signals (is_within most) program ps probed last xs is walk can-probe can.widths

    count : (xs : List (List ℕ)) → length some ≡ length (signals xs).streams
    count xs =
        let s = signals xs in
        sym (probes-long most 0 some) ∙ (sym (length-map ps (stream_at s.world.streams)) ∙ (ap length s.each ∙ length-map s.streams Some))

    as-program : (widths : List ℕ) → AreWidths (equations_of program).equations widths → AreWidths (equations_of probed).equations widths
    as-program widths are = subst (λ (es : List EquationShape). AreWidths es widths) (sym same) are

    inputs : (xs : List (List ℕ)) → AreSamples program xs → AreSamples probed xs
    inputs xs samples n sample there =
        subst (λ (ws : List ℕ). IsRow ws sample) (sym (inputs-of-equations program can.lawful) ∙ (ap input_widths (sym same) ∙ inputs-of-equations probed probes-lawful)) (samples n sample there)

    all-operands : (equations_of probed).outputs ≡ (equations_of program).outputs ++ map (operand_of program) some
    all-operands =
        probed-outputs (is_within most) program ps probed last is walk can-probe
        ∙ ap (λ (os : List Operand). (equations_of program).outputs ++ os) (operands-same most 0 program some)

    all-wide : (xs : List (List ℕ)) (widths : List ℕ) → AreWidths (equations_of program).equations widths → AllZip (IsAsWide widths) (equations_of probed).outputs ((signals xs).world.outputs ++ (signals xs).streams)
    all-wide xs widths are =
        let s = signals xs in
        let found = widths-found probed widths xs probes-lawful (as-program widths are) in
        let these : found.streams ≡ s.world.outputs ++ s.streams = same_Some found.streams (s.world.outputs ++ s.streams) (sym found.are ∙ s.outputs) in
        subst (λ (ss : List Stream). AllZip (IsAsWide widths) (equations_of probed).outputs ss) these found.wide

    module _ (flat : IsFlat (equations_of probed).equations (equations_of probed).outputs) where
      all-lists : (xs : List (List ℕ)) (widths : List ℕ) → AreWidths (equations_of program).equations widths → AreSamples program xs → AllZip (IsListOf (equations_of program).equations widths xs) (equations_of probed).outputs ((signals xs).world.outputs ++ (signals xs).streams)
      all-lists xs widths are samples =
          let s = signals xs in
          let found = streams-have_lists probed widths xs probes-lawful flat (as-program widths are) (inputs xs samples) in
          let these : found.streams ≡ s.world.outputs ++ s.streams = same_Some found.streams (s.world.outputs ++ s.streams) (sym found.are ∙ s.outputs) in
          subst (λ (es : List EquationShape). AllZip (IsListOf es widths xs) (equations_of probed).outputs (s.world.outputs ++ s.streams)) same
          (subst (λ (ss : List Stream). AllZip (IsListOf (equations_of probed).equations widths xs) (equations_of probed).outputs ss) these found.lists)

      pub probes-given : AreGiven program some (last_of (length some) (equations_of probed).outputs)
      probes-given =
          let outputs = (equations_of probed).outputs in
          record {
            are = last-are outputs (equations_of program).outputs (map (operand_of program) some) (length some) all-operands (sym (length-map some (operand_of program)));
            lawful = lawful-last (equations_of program).equations outputs (length outputs - length some) (subst (λ (es : List EquationShape). IsFlat es outputs) same flat);
            streams = λ xs.
                let s = signals xs in
                record {
                  outputs = s.world.outputs;
                  streams = s.streams;
                  has = record { world = s.world; is = s.is; outputs_are = refl; each = sym (streams-same most 0 s.world.streams some) ∙ s.each };
                  match = record {
                    wide = λ widths are. zip-last (IsAsWide widths) outputs s.world.outputs s.streams (length some) (count xs) (all-wide xs widths are);
                    lists = λ widths are samples. zip-last (IsListOf (equations_of program).equations widths xs) outputs s.world.outputs s.streams (length some) (count xs) (all-lists xs widths are samples);
                  };
                };
          }

      pub probes-long-enough : length some ≤ length (equations_of probed).outputs
      probes-long-enough =
          let s = signals [] in
          let have = widths-exist program can.lawful can.widths in
          let long = AllZip-long (IsAsWide have.widths) (equations_of probed).outputs (s.world.outputs ++ s.streams) (all-wide [] have.widths have.are) in
          omega (arith, long, length-append s.world.outputs s.streams, count [])

  -- ---- a program of which the streams are asked
  module _ (flat : Flat) (answered : IsAnswered Want.Stream program most some flat) where
    is-probed : IsProbed program ps answered.asked
    is-probed = answered.are.are ∙ ap (λ (l : List Item). program.items.items ++ l) (stream-outputs ps answered.are.outputs answered.are.each)

    flat-lawful : IsFlat (equations_of answered.asked).equations (equations_of answered.asked).outputs
    flat-lawful =
        subst (λ (os : List Operand). IsFlat (equations_of answered.asked).equations os) answered.outputs
        (subst (λ (es : List EquationShape). IsFlat es flat.outputs.items) answered.equations flat.lawful)

    pub streams-given : AreGiven program some (last_of (length some) flat.outputs.items)
    streams-given = subst (λ (os : List Operand). AreGiven program some (last_of (length some) os)) (sym answered.outputs) (probes-given answered.asked is-probed flat-lawful)

    pub streams-long : length some ≤ length flat.outputs.items
    streams-long = subst (λ (os : List Operand). length some ≤ length os) (sym answered.outputs) (probes-long-enough answered.asked is-probed flat-lawful)

  -- ---- a program of which the kinds are asked
  module _ (asked : Program) (are : AreAsked Want.Kind program.items.items ps asked.items.items) where
    -- a program with as many probes
    count-same : length (program.items.items ++ map probe_item ps) ≡ length asked.items.items
    count-same =
        length-append program.items.items (map probe_item ps)
        ∙ (ap (λ n. length program.items.items + n) (length-map ps probe_item ∙ sym (AllZip-long (IsAsking Want.Kind) ps are.outputs are.each))
        ∙ (sym (length-append program.items.items are.outputs) ∙ sym (ap length are.are)))

    probed-like : Program
    probed-like = record {
      items = record asked.items { items = program.items.items ++ map probe_item ps; ok = (asked.items.ok.0 ∙ sym count-same, asked.items.ok.1) };
    }

    is-probed-like : IsProbed program ps probed-like
    unfolding probed-like
    is-probed-like = refl

    pub kinds-lawful : offence asked ≡ None
    kinds-lawful = laws.asked-lawful (is_within most) program asked probed-like ps are.outputs last are.are are.each is-probed-like walk can-probe

    pub kinds-widths : has_widths asked ≡ true
    kinds-widths = laws.asked-widths (is_within most) program asked probed-like ps are.outputs last are.are are.each is-probed-like walk can-probe can.widths

    pub kinds-count : length (equations_of asked).equations ≡ length (equations_of program).equations + 2 * length some
    kinds-count = laws.asked-count program asked ps are.outputs are.are are.each ∙ ap (λ n. length (equations_of program).equations + 2 * n) (probes-long most 0 some)

    pub kinds-long : length some ≤ length (equations_of asked).outputs
    kinds-long =
        let have = widths-exist asked kinds-lawful kinds-widths in
        let all = laws.asked-long (is_within most) program asked probed-like ps are.outputs last are.are are.each is-probed-like walk can-probe can.widths have.widths have.are [] in
        omega (arith, all, probes-long most 0 some)

    pub kinds-told : (widths : List ℕ) (kinds : List Bool) → has_room program ≡ true → AreWidths (equations_of asked).equations widths → kinds ≡ map (is_wide widths) (last_of (length some) (equations_of asked).outputs) → HaveKinds program some kinds
    kinds-told widths kinds room wide told xs outputs streams has =
        let s = laws.signals (is_within most) program asked probed-like ps are.outputs last are.are are.each is-probed-like walk can-probe can.widths xs in
        let worlds : has.world ≡ s.world = same_Some has.world s.world (sym has.is ∙ s.is) in
        let same_streams : streams ≡ s.streams =
        some-same streams s.streams
        (sym has.each ∙ (ap (λ (w : meant.World). map (stream_of w.streams) some) worlds ∙ (sym (streams-same most 0 s.world.streams some) ∙ s.each))) in
        told
        ∙ (ap (λ n. map (is_wide widths) (last_of n (equations_of asked).outputs)) (sym (probes-long most 0 some))
        ∙ (laws.asked-kinds (is_within most) program asked probed-like ps are.outputs last are.are are.each is-probed-like walk can-probe can.widths widths wide xs
        ∙ (ap (map is_signed) (sym same_streams) ∙ ap (λ b. map (λ t. b && is_signed t) streams) (sym room))))

  -- ---- either
  pub asked-lawful : (want : Want) (asked : Program) → AreAsked want program.items.items ps asked.items.items → offence asked ≡ None
  asked-lawful Want.Stream asked are = probes-lawful asked (are.are ∙ ap (λ (l : List Item). program.items.items ++ l) (stream-outputs ps are.outputs are.each))
  asked-lawful Want.Kind asked are = kinds-lawful asked are

  pub asked-few : (want : Want) (asked : Program) → AreAsked want program.items.items ps asked.items.items → length (equations_of program).equations + cost_of want * length some ≤ 16384 → length (equations_of asked).equations ≤ 16384
  asked-few Want.Stream asked are few =
      let is = are.are ∙ ap (λ (l : List Item). program.items.items ++ l) (stream-outputs ps are.outputs are.each) in
      omega (arith, few, ap length (equations-same program ps asked is))
  asked-few Want.Kind asked are few = omega (arith, few, kinds-count asked are)
