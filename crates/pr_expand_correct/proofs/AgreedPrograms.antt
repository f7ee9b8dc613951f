-- The equations of a program have widths exactly where the program has them.
use mathlib.Core.Path.{fun_ext}
use Rattle.std.proofs.Common.{◌≡◌, ◌∙◌, ◌+◌, ◌<◌, ◌≤◌, ℕ, Bool, true, false, cond, not, ◌&&◌, is_some, List, [], ◌∷◌, ◌++◌, map, length, get_or, Option, Some, None, option_map, codes, refl, sym, ap, subst, arith, inl}
use Rattle.std.specs.List.{AllZip}
use Rattle.std.specs.Option.{option_and_then}
use Rattle.std.proofs.lemmas.Bool.{cond-true}
use Rattle.std.proofs.lemmas.Option.{same_Some, slice_get_within}
use Rattle.std.proofs.lemmas.List.FromFn.{length-map-range_with_len, get_or-map-range_with_len}
use Rattle.pr_lang.specs.declared.trees.Item.{Item}
use Rattle.pr_lang.specs.declared.trees.Item.TheVariants as item
use Rattle.pr_lang.specs.declared.trees.Program.{Program}
use Rattle.pr_scope_names.specs.declared.names.Static.{Static}
use Rattle.pr_scope_names.specs.declared.names.Static.TheVariants as static
use Rattle.pr_scope_names.specs.Names.{Known, Streaming, bind, built_in}
use Rattle.pr_scope.specs.Expressions.{past_of}
use Rattle.pr_scope.specs.Statements.{stmt_past_of}
use Rattle.pr_scope.specs.Walk as scope
use Rattle.pr_flat.specs.declared.equations.Operand.{Operand}
use Rattle.pr_flat.specs.declared.equations.Op.TheVariants.{Delay, Input}
use Rattle.pr_flat.specs.declared.forms.Form.{Form}
use Rattle.pr_flat.specs.Forms.{Stream, numbers_by}
use Rattle.pr_flat.specs.Shape.{EquationShape}
use Rattle.pr_flat.specs.Facts.{is_rec, is_width}
use Rattle.pr_flat.specs.Widths.{is_open, AreWidths}
use Rattle.pr_flat.proofs.WidthLemmas.{width_in-declared}
use Rattle.pr_lang_meaning.specs.Streams.{Streams, assigned, no_streams, sources, with_stream}
use Rattle.pr_lang_meaning.specs.Expressions.{Function, meaning}
use Rattle.pr_lang_meaning.specs.Expressions as expressions
use Rattle.pr_lang_meaning.specs.Statements as meant_by
use Rattle.pr_lang_meaning.specs.Programs as meant
use Rattle.pr_lang_meaning.specs.Programs.{has_widths, streams_of}
use Rattle.pr_expand_spec.specs.declared.givens.Standing.TheVariants as stands
use Rattle.pr_expand_spec.specs.Making.{Expanded, constant, with_equation}
use Rattle.pr_expand_spec.specs.Expressions.{Inlined}
use Rattle.pr_expand_spec.specs.Expressions as made_by
use Rattle.pr_expand_spec.specs.Statements.{Progress, named}
use Rattle.pr_expand_spec.specs.Statements as changed
use Rattle.pr_expand_spec.specs.Programs as programs
use Rattle.pr_expand_spec.specs.Programs.{equations_of, input_width}
use Rattle.pr_scope_facts.proofs.Appending.{Appends, appends-nothing, appends-both, appends-length}
use Rattle.pr_scope_facts.proofs.Statics.{constant-meant, constant-made, entries-meant, entries-made}
use Rattle.pr_scope_facts.proofs.InvertedStatements.{Introduces, width-flat, width-greatest}
use Rattle.pr_scope_facts.specs.Items.{AllItems}
use Rattle.pr_scope_facts.proofs.InvertedItems.{Names, constant-inverted, function-inverted, input-inverted, output-inverted, program-inverted, step-inverted, table-inverted}
use Rattle.pr_scope_facts.proofs.Steps.{callee-plain}
use Rattle.pr_scope_facts.proofs.Worlds.{SameVisible, is_function, visible-first, visible-function, visible-static}
use Rattle.pr_expand_correct.specs.Outputs.{HasStreams, HaveWidths, IsAsWide}
use Rattle.pr_expand_correct.proofs.Related.{Have, IsWithin, AreFormed, AreKept, Matches, AreExtended, Agrees, Scenery, Fits, AreStanding, AreVisible}
use Rattle.pr_expand_correct.proofs.Keeping.{same-within, within-more, have-before, have-kept, kept-outside, outside-both, outside-nowhere}
use Rattle.pr_expand_correct.proofs.Combining.{Keeps, agrees-push, grown-nothing}
use Rattle.pr_expand_correct.proofs.Texts.{IsCalmIn, fits-kept}
use Rattle.pr_expand_correct.proofs.AgreedStatements.{AreSet, Frame, FunctionFact, agrees-assigned, change-agrees, fits-bound, for_equations, same-visible, set-ready, setting, standing-bound, visible-same}
use Rattle.pr_expand_correct.proofs.AgreedExpressions.{agrees-calmer}
use Rattle.pr_expand_correct.proofs.AgreedFunctions.{agrees-from, fits-nothing, function-agrees, signed-agrees, standing-nothing}

-- ---- what a program has come to
-- the samples, and what the meaning has of streams so far
pub record Sample : Type 0 where
  pub xs : List (List ℕ)
  pub streams : Streams
  pub inputs : ℕ
  pub outputs : List Stream

abbrev pub world_of : expressions.Visible → Sample → meant.World
world_of v y = record { visible = v; streams = y.streams; inputs = y.inputs; outputs = y.outputs }

abbrev pub scenery_of : Sample → Scenery
scenery_of y = record { samples = length y.xs; env = y.streams }

abbrev pub AreOutputs : ℕ → List Operand → Type 0
AreOutputs n [] = Unit {0}
AreOutputs n (o ∷ os) = IsWithin n None o × AreOutputs n os

pub outputs-more : (m n : ℕ) (os : List Operand) → m ≤ n → AreOutputs m os → AreOutputs n os
outputs-more m n [] low within = tt
outputs-more m n (o ∷ os) low within = (within-more m n None o low within.0, outputs-more m n os low within.1)

pub outputs-push : (n : ℕ) (os : List Operand) (o : Operand) → AreOutputs n os → IsWithin n None o → AreOutputs n (os ++ o ∷ [])
outputs-push n [] o within new = (new, tt)
outputs-push n (p ∷ os) o within new = (within.0, outputs-push n os o within.1 new)

pub record FitsSample (s : Streaming) (standings : made_by.Streams) (os : List Operand) (y : Sample) (widths : List ℕ) : Type 0 where
  pub names : Fits s None standings (scenery_of y) widths
  pub outputs : AllZip (IsAsWide widths) os y.outputs

wide-kept : (n : ℕ) (widths others : List ℕ) → AreKept n None widths others → (os : List Operand) (ss : List Stream) → AreOutputs n os → AllZip (IsAsWide widths) os ss → AllZip (IsAsWide others) os ss
wide-kept n widths others kept [] [] within wide = tt
wide-kept n widths others kept [] (s ∷ ss) within wide = absurd wide
wide-kept n widths others kept (o ∷ os) [] within wide = absurd wide
wide-kept n widths others kept (o ∷ os) (s ∷ ss) within wide = (wide.0 ∙ sym (same-within n None widths others kept o within.0), wide-kept n widths others kept os ss within.1 wide.1)

-- equations and names are as the next item needs them
pub record AreReady (w : scope.World) (known : Known) (meanings : List ℕ → Option Function) (inlined : List ℕ → Option Inlined) (p : Progress) (os : List Operand) : Type 0 where
  pub visible : AreVisible w.known known meanings inlined
  pub standing : AreStanding (length p.equations) None None None p.streams
  pub formed : AreFormed None p.equations
  pub outputs : AreOutputs (length p.equations) os

pub sample-keeps : (w : scope.World) (known : Known) (meanings : List ℕ → Option Function) (inlined : List ℕ → Option Inlined) (p : Progress) (os : List Operand) → AreReady w known meanings inlined p os → Keeps (length p.equations) None (FitsSample w.streams p.streams os)
sample-keeps w known meanings inlined p os ready = record {
  at = λ y widths others kept fit. record {
    names = (fits-kept (length p.equations) None None w.streams None p.streams (inl refl) ready.standing).at (scenery_of y) widths others kept fit.names;
    outputs = wide-kept (length p.equations) widths others kept os y.outputs ready.outputs fit.outputs;
  };
}

-- ---- items, one after the other
pub record AreWorld (widths : List ℕ) (os : List Operand) (o : Option meant.World) : Type 0 where
  pub world : meant.World
  pub is : o ≡ Some world
  pub wide : AllZip (IsAsWide widths) os world.outputs

-- What items make beside what they mean.
pub record ItemsAgree (s : Streaming) (p : Progress) (os : List Operand) (x : programs.World) (means : Sample → Option meant.World) : Type 0 where
  pub appends : Appends p.equations x.progress.equations
  pub formed : AreFormed None x.progress.equations
  pub found : (y : Sample) (widths : List ℕ) → FitsSample s p.streams os y widths → Have x.progress.equations widths → AreWorld widths x.outputs (means y)
  pub extended : (y : Sample) (widths : List ℕ) (w : meant.World) → FitsSample s p.streams os y widths → Have p.equations widths → means y ≡ Some w → AreExtended p.equations x.progress.equations widths

record IsStep {A : Type 0} (t : Streaming) (standings : made_by.Streams) (os : List Operand) (next : Sample → A → Sample) (y : Sample) (widths : List ℕ) (o : Option A) : Type 0 where
  value : A
  is : o ≡ Some value
  fits : FitsSample t standings os (next y value) widths

-- one item, of which something comes that the next sample is made of
record StepAgrees {A : Type 0} (s t : Streaming) (p q : Progress) (os more : List Operand) (h : Sample → Option A) (next : Sample → A → Sample) : Type 0 where
  appends : Appends p.equations q.equations
  found : (y : Sample) (widths : List ℕ) → FitsSample s p.streams os y widths → Have q.equations widths → IsStep t q.streams more next y widths (h y)
  extended : (y : Sample) (widths : List ℕ) (a : A) → FitsSample s p.streams os y widths → Have p.equations widths → h y ≡ Some a → AreExtended p.equations q.equations widths

items-after : {A : Type 0} (s t : Streaming) (p q : Progress) (os more : List Operand) (h : Sample → Option A) (next : Sample → A → Sample) (x : programs.World) (means : Sample → Option meant.World) → Keeps (length p.equations) None (FitsSample s p.streams os) → StepAgrees s t p q os more h next → ItemsAgree t q more x means → ItemsAgree s p os x (λ y. option_and_then (λ a. means (next y a)) (h y))
items-after {A} s t p q os more h next x means keeps step rest = record {
  appends = appends-both p.equations q.equations x.progress.equations step.appends rest.appends;
  formed = rest.formed;
  found = λ y widths fit have.
      let here = step.found y widths fit (have-before q.equations x.progress.equations widths rest.appends have) in
      let after = rest.found (next y here.value) widths here.fits have in
      record { world = after.world; is = ap (option_and_then (λ a. means (next y a))) here.is ∙ after.is; wide = after.wide };
  extended = λ y widths w fit have is. by_step y widths w (h y) fit have refl is;
} where
  low : length p.equations ≤ length q.equations
  low = appends-length p.equations q.equations step.appends

  high : length q.equations ≤ length x.progress.equations
  high = appends-length q.equations x.progress.equations rest.appends

  by_step : (y : Sample) (widths : List ℕ) (w : meant.World) (o : Option A) → FitsSample s p.streams os y widths → Have p.equations widths → h y ≡ o → option_and_then (λ a. means (next y a)) o ≡ Some w → AreExtended p.equations x.progress.equations widths
  by_step y widths w None fit have same is = cc
  by_step y widths w (Some a) fit have same is =
      let here = step.extended y widths a fit have same in
      let fit_after = keeps.at y widths here.others (kept-outside (length p.equations) (length q.equations) None widths here.others here.same (λ rec none. cc)) fit in
      let met = step.found y here.others fit_after here.have in
      let one : met.value ≡ a = same_Some met.value a (sym met.is ∙ same) in
      let fits_next = subst (λ b. FitsSample t q.streams more (next y b) here.others) one met.fits in
      let others = rest.extended (next y a) here.others w fits_next here.have is in
      record {
        others = others.others;
        same = outside-both (length p.equations) (length q.equations) (length x.progress.equations) widths here.others others.others low high here.same others.same;
        have = others.have;
      }

items-same : (s : Streaming) (p : Progress) (os : List Operand) (x z : programs.World) (f g : Sample → Option meant.World) → z ≡ x → ((y : Sample) → g y ≡ f y) → ItemsAgree s p os x f → ItemsAgree s p os z g
items-same s p os x z f g made_same meant_same agree = subst (λ (h : Sample → Option meant.World). ItemsAgree s p os z h) (sym (fun_ext meant_same)) (subst (λ (k : programs.World). ItemsAgree s p os k f) (sym made_same) agree)

map-then : {A B C : Type 0} (f : A → B) (k : B → Option C) (o : Option A) → option_and_then k (option_map f o) ≡ option_and_then (λ a. k (f a)) o
map-then f k None = refl
map-then f k (Some a) = refl

-- ---- inputs and outputs
-- a stream gets a name
value-step : (name : List ℕ) (walk : Known) (s t : Streaming) (p : Progress) (os more : List Operand) (m : Expanded) (h : Sample → Option Stream) (inputs : ℕ → ℕ) (outputs : List Stream → Stream → List Stream) → Introduces name None walk s t → Agrees None ⊥ (FitsSample s p.streams os) p.equations m h → ((widths : List ℕ) (ss : List Stream) (a : Stream) → Matches widths m.given a → AllZip (IsAsWide widths) os ss → AllZip (IsAsWide widths) more (outputs ss a)) → StepAgrees s t p (named name None p.streams m) os more h (λ (y : Sample) a. record { xs = y.xs; streams = with_stream name None a y.streams; inputs = inputs y.inputs; outputs = outputs y.outputs a })
value-step name walk s t p os more m h inputs outputs introduces agrees wide = record {
  appends = agrees.grown.appends;
  found = λ y widths fit have.
      let here = agrees.found y widths fit have in
      record {
        value = here.stream;
        is = here.is;
        fits = record {
          names = fits-bound name None walk s t p.streams (length y.xs) y.streams widths (record { init = 0; stream = here.stream }) (stands.Stream m.given 0) introduces (record { init_same = refl; matches = here.matches }) fit.names;
          outputs = wide widths y.outputs here.stream here.matches fit.outputs;
        };
      };
  extended = λ y widths a fit have is. agrees.extended y widths a fit have (λ rec none. cc) is;
}

pub input-agrees : (width inputs : ℕ) (s : Streaming) (p : Progress) (os : List Operand) → AreFormed None p.equations → Keeps (length p.equations) None (FitsSample s p.streams os) → is_width width ≡ true → width ≤ 128 → Agrees None ⊥ (FitsSample s p.streams os) p.equations (with_equation Input [] (Some (input_width width)) p.equations) (λ (y : Sample). Some (meant.input_stream width y.inputs y.xs))
input-agrees width inputs s p os formed keeps lawful low =
    let e : EquationShape = record { op = Input; args = []; declared = Some (input_width width); kinds = [] } in
    let same : input_width width ≡ width = cond-true (is_width width) width 1 lawful in
    agrees-push None ⊥ (FitsSample s p.streams os) p.equations p.equations e false (λ (y : Sample). Some (meant.input_stream width y.inputs y.xs)) keeps (grown-nothing None ⊥ p.equations formed) tt refl (λ c is. absurd (no_delay c is)) (λ y widths fit have. record { form = ap (λ w. record { signed = false; width = w }) (sym same); greatest = low }) (λ y widths a fit have ahead is. record { others = widths; same = outside-nowhere (length p.equations) (length p.equations) widths; have = have }) where
      no_delay : (c : ℕ) → Input ≡ Delay c → ⊥
      no_delay c is = cc

pub zip-push : {A B : Type 0} (R : A → B → Type 0) (xs : List A) (ys : List B) (x : A) (y : B) → AllZip R xs ys → R x y → AllZip R (xs ++ x ∷ []) (ys ++ y ∷ [])
zip-push R [] [] x y all new = (new, tt)
zip-push R [] (b ∷ ys) x y all new = absurd all
zip-push R (a ∷ xs) [] x y all new = absurd all
zip-push R (a ∷ xs) (b ∷ ys) x y all new = (all.0, zip-push R xs ys x y all.1 new)

wide-more : (widths : List ℕ) (os : List Operand) (ss : List Stream) (m : Expanded) (a : Stream) → Matches widths m.given a → AllZip (IsAsWide widths) os ss → AllZip (IsAsWide widths) (os ++ m.given.operand ∷ []) (ss ++ a ∷ [])
wide-more widths os ss m a matches wide = zip-push (IsAsWide widths) os ss m.given.operand a wide (ap (λ (f : Form). f.width) matches.form)

-- what is ready after a stream got a name
pub ready-named : (w between : scope.World) (known : Known) (meanings : List ℕ → Option Function) (inlined : List ℕ → Option Inlined) (p : Progress) (os more : List Operand) (name : List ℕ) (m : Expanded) → AreReady w known meanings inlined p os → between.known ≡ w.known → Appends p.equations m.equations → AreFormed None m.equations → IsWithin (length m.equations) None m.given.operand → AreOutputs (length m.equations) more → AreReady between known meanings inlined (named name None p.streams m) more
ready-named w between known meanings inlined p os more name m ready same appends formed within outputs = record {
  visible = subst (λ k. AreVisible k known meanings inlined) (sym same) ready.visible;
  standing = standing-bound name None (length p.equations) (length m.equations) None p.streams m.given 0 (appends-length p.equations m.equations appends) within ready.standing;
  formed = formed;
  outputs = outputs;
}

-- a name that stands for no stream
pub ready-static : (w between : scope.World) (known : Known) (meanings more_meanings : List ℕ → Option Function) (inlined more_inlined : List ℕ → Option Inlined) (p : Progress) (os : List Operand) (after : Known) → AreReady w known meanings inlined p os → AreVisible between.known after more_meanings more_inlined → AreReady between after more_meanings more_inlined p os
ready-static w between known meanings more_meanings inlined more_inlined p os after ready visible = record { visible = visible; standing = ready.standing; formed = ready.formed; outputs = ready.outputs }

pub static-visible : (w between : scope.World) (known : Known) (meanings : List ℕ → Option Function) (inlined : List ℕ → Option Inlined) (name : List ℕ) (what : Static) → is_function what ≡ false → AreVisible w.known known meanings inlined → Names name what w between → AreVisible between.known (bind name what known) meanings inlined
static-visible w between known meanings inlined name what plainly visible names = same-visible between.known (record { known = bind name what known; functions = meanings }) (record { known = bind name what known; functions = inlined }) (subst (λ k. SameVisible FunctionFact k (record { known = bind name what known; functions = meanings }) (record { known = bind name what known; functions = inlined })) (sym names.known) (visible-static FunctionFact w.known (record { known = known; functions = meanings }) (record { known = known; functions = inlined }) name what plainly (visible-same w.known known meanings inlined visible)))

abbrev pub made_world : Known → (List ℕ → Option Inlined) → Progress → List Operand → programs.World
made_world known inlined p os = record { visible = record { known = known; functions = inlined }; progress = p; outputs = os }

abbrev pub ItemsFact : List Item → ℕ → scope.World → Known → (List ℕ → Option Function) → (List ℕ → Option Inlined) → Progress → List Operand → Type 0
ItemsFact is at w known meanings inlined p os = ItemsAgree w.streams p os (programs.items_change at is (made_world known inlined p os)) (λ y. meant.items_change y.xs at is (world_of (record { known = known; functions = meanings }) y))

-- the item's streams are those of the walk before it
at-streams : (s t : Streaming) (p : Progress) (os : List Operand) (x : programs.World) (f : Sample → Option meant.World) → t ≡ s → ItemsAgree t p os x f → ItemsAgree s p os x f
at-streams s t p os x f same agree = subst (λ u. ItemsAgree u p os x f) same agree

pub items-agree : (is : List Item) (at : ℕ) (w last : scope.World) (known : Known) (meanings : List ℕ → Option Function) (inlined : List ℕ → Option Inlined) (p : Progress) (os : List Operand) → AllItems at is w last → AreReady w known meanings inlined p os → ItemsFact is at w known meanings inlined p os
items-agree [] at w last known meanings inlined p os walks ready = record {
  appends = appends-nothing p.equations;
  formed = ready.formed;
  found = λ y widths fit have. record { world = world_of (record { known = known; functions = meanings }) y; is = refl; wide = fit.outputs };
  extended = λ y widths world fit have is. record { others = widths; same = outside-nowhere (length p.equations) (length p.equations) widths; have = have };
}
items-agree (item.Input name width ∷ is) at w last known meanings inlined p os walks ready =
    let walk = input-inverted name width w walks.0 walks.1 in
    let lawful = width-flat width walk.lawful_width in
    let low = width-greatest width walk.lawful_width in
    let v : expressions.Visible = record { known = known; functions = meanings } in
    let m = with_equation Input [] (Some (input_width width)) p.equations in
    let q = named name None p.streams m in
    let h : Sample → Option Stream = λ y. Some (meant.input_stream width y.inputs y.xs) in
    let next : Sample → Stream → Sample = λ y a. record { xs = y.xs; streams = with_stream name None a y.streams; inputs = y.inputs + 1; outputs = y.outputs } in
    let keeps = sample-keeps w known meanings inlined p os ready in
    let value = input-agrees width 0 w.streams p os ready.formed keeps lawful low in
    let grown = appends-length p.equations m.equations value.grown.appends in
    let set = ready-named w walks.0 known meanings inlined p os os name m ready walk.known value.grown.appends value.grown.formed value.within (outputs-more (length p.equations) (length m.equations) os grown ready.outputs) in
    let rest = items-agree is (at + 1) walks.0 last known meanings inlined q os walks.2 set in
    let means : Sample → Option meant.World = λ y. meant.items_change y.xs (at + 1) is (world_of v y) in
    let x = programs.items_change (at + 1) is (made_world known inlined q os) in
    let step = value-step name w.known w.streams walks.0.streams p os os m h (λ n. n + 1) (λ ss a. ss) walk.introduces value (λ widths ss a matches wide. wide) in
    items-same w.streams p os x x (λ y. option_and_then (λ a. means (next y a)) (h y)) (λ y. meant.items_change y.xs at (item.Input name width ∷ is) (world_of v y)) refl (λ y. ap (λ c. option_and_then (meant.items_change y.xs (at + 1) is) (cond c (Some (meant.with_input name (meant.input_stream width y.inputs y.xs) (world_of v y))) None)) lawful) (items-after w.streams walks.0.streams p q os os h next x means keeps step rest)
items-agree (item.Output name width e ∷ is) at w last known meanings inlined p os walks ready =
    let walk = output-inverted name width e w walks.0 walks.1 in
    let v : expressions.Visible = record { known = known; functions = meanings } in
    let frame : Frame = record { walk = w.known; known = known; meanings = meanings; inlined = inlined; inside = false; own = None } in
    let past = past_of e w.known in
    let set : AreSet frame past p = record { visible = ready.visible; standing = ready.standing; lone = λ is. refl; formed = ready.formed } in
    let m = made_by.assigned width e (for_equations frame) p.streams p.equations in
    let f : Scenery → Option Stream = λ x. assigned width (meaning e v x.samples (sources x.samples x.env)) in
    let here = agrees-assigned e (setting frame w.streams p.streams) p.equations walk.begin walks.0.count width walk.walk (set-ready frame past p w.streams set) walk.lawful_width in
    let calm = agrees-calmer None (IsCalmIn (setting frame w.streams p.streams) past) ⊥ (Fits w.streams None p.streams) p.equations m f (λ none. absurd none) here in
    let value = agrees-from None ⊥ (Fits w.streams None p.streams) (FitsSample w.streams p.streams os) p.equations m f scenery_of (λ y widths fit. fit.names) calm in
    let h : Sample → Option Stream = λ y. f (scenery_of y) in
    let q = named name None p.streams m in
    let more = os ++ m.given.operand ∷ [] in
    let next : Sample → Stream → Sample = λ y a. record { xs = y.xs; streams = with_stream name None a y.streams; inputs = y.inputs; outputs = y.outputs ++ a ∷ [] } in
    let keeps = sample-keeps w known meanings inlined p os ready in
    let grown = appends-length p.equations m.equations value.grown.appends in
    let after = ready-named w walks.0 known meanings inlined p os more name m ready walk.known value.grown.appends value.grown.formed value.within (outputs-push (length m.equations) os m.given.operand (outputs-more (length p.equations) (length m.equations) os grown ready.outputs) value.within) in
    let rest = items-agree is (at + 1) walks.0 last known meanings inlined q more walks.2 after in
    let means : Sample → Option meant.World = λ y. meant.items_change y.xs (at + 1) is (world_of v y) in
    let x = programs.items_change (at + 1) is (made_world known inlined q more) in
    let step = value-step name w.known w.streams walks.0.streams p os more m h (λ n. n) (λ ss a. ss ++ a ∷ []) walk.introduces value (λ widths ss a matches wide. wide-more widths os ss m a matches wide) in
    items-same w.streams p os x x (λ y. option_and_then (λ a. means (next y a)) (h y)) (λ y. meant.items_change y.xs at (item.Output name width e ∷ is) (world_of v y)) refl (λ y. map-then (meant.with_output name (world_of v y)) (meant.items_change y.xs (at + 1) is) (h y)) (items-after w.streams walks.0.streams p q os more h next x means keeps step rest)
items-agree (item.Const name value ∷ is) at w last known meanings inlined p os walks ready =
    let walk = constant-inverted name value w walks.0 walks.1 in
    let v : expressions.Visible = record { known = known; functions = meanings } in
    let after = bind name (static.Constant walk.number) known in
    let same = ready.visible.same in
    let visible = static-visible w walks.0 known meanings inlined name (static.Constant walk.number) refl ready.visible walk.names in
    let rest = items-agree is (at + 1) walks.0 last after meanings inlined p os walks.2 (ready-static w walks.0 known meanings meanings inlined inlined p os after ready visible) in
    let made_at : ℕ → programs.World = λ n. programs.items_change (at + 1) is (made_world (bind name (static.Constant n) known) inlined p os) in
    let means : Sample → Option meant.World = λ y. meant.items_change y.xs (at + 1) is (world_of (record { known = after; functions = meanings }) y) in
    items-same w.streams p os (made_at walk.number) (made_at (constant value known)) means (λ y. meant.items_change y.xs at (item.Const name value ∷ is) (world_of v y)) (ap made_at (constant-made w.known known same value walk.number walk.number_is)) (λ y. ap (λ o. option_and_then (meant.items_change y.xs (at + 1) is) (option_map (λ n. meant.with_static name (world_of v y) (static.Constant n)) o)) (constant-meant w.known known same value walk.number walk.number_is)) (at-streams w.streams walks.0.streams p os (made_at walk.number) means walk.names.streams rest)
items-agree (item.Table name values ∷ is) at w last known meanings inlined p os walks ready =
    let walk = table-inverted name values.items w walks.0 walks.1 in
    let v : expressions.Visible = record { known = known; functions = meanings } in
    let after = bind name (static.Table walk.entries) known in
    let same = ready.visible.same in
    let visible = static-visible w walks.0 known meanings inlined name (static.Table walk.entries) refl ready.visible walk.names in
    let rest = items-agree is (at + 1) walks.0 last after meanings inlined p os walks.2 (ready-static w walks.0 known meanings meanings inlined inlined p os after ready visible) in
    let made_at : List ℕ → programs.World = λ ns. programs.items_change (at + 1) is (made_world (bind name (static.Table ns) known) inlined p os) in
    let means : Sample → Option meant.World = λ y. meant.items_change y.xs (at + 1) is (world_of (record { known = after; functions = meanings }) y) in
    items-same w.streams p os (made_at walk.entries) (made_at (map (λ f. constant f known) values.items)) means (λ y. meant.items_change y.xs at (item.Table name values ∷ is) (world_of v y)) (ap made_at (entries-made w.known known same values.items walk.entries walk.entries_are)) (λ y. ap (λ o. option_and_then (meant.items_change y.xs (at + 1) is) (option_map (λ ns. meant.with_static name (world_of v y) (static.Table ns)) o)) (entries-meant w.known known same values.items walk.entries walk.entries_are)) (at-streams w.streams walks.0.streams p os (made_at walk.entries) means walk.names.streams rest)
items-agree (item.Function name params width body result ∷ is) at w last known meanings inlined p os walks ready =
    let walk = function-inverted at name params.items width body.items result w walks.0 walks.1 in
    let v : expressions.Visible = record { known = known; functions = meanings } in
    let u : made_by.Visible = record { known = known; functions = inlined } in
    let g = meant.function_of params.items width body.items result v in
    let h = programs.inlined params.items width body.items result u in
    let what = meant.function_at at params.items in
    let after = bind name what known in
    let fact = function-agrees w.known known meanings inlined ready.visible at params.items width body.items result walk.callee walk.walk in
    let bound = visible-function FunctionFact w.known v u name at params.items walk.callee g h (callee-plain at params.items width body.items result w.known walk.callee walk.walk) fact (visible-same w.known known meanings inlined ready.visible) in
    let visible = same-visible walks.0.known (record { known = after; functions = bind name g meanings }) (record { known = after; functions = bind name h inlined }) (subst (λ k. SameVisible FunctionFact k (record { known = after; functions = bind name g meanings }) (record { known = after; functions = bind name h inlined })) (sym walk.names.known) bound) in
    let rest = items-agree is (at + 1) walks.0 last after (bind name g meanings) (bind name h inlined) p os walks.2 (ready-static w walks.0 known meanings (bind name g meanings) inlined (bind name h inlined) p os after ready visible) in
    at-streams w.streams walks.0.streams p os (programs.items_change (at + 1) is (made_world after (bind name h inlined) p os)) (λ y. meant.items_change y.xs (at + 1) is (world_of (record { known = after; functions = bind name g meanings }) y)) walk.names.streams rest
items-agree (item.Step stmt ∷ is) at w last known meanings inlined p os walks ready =
    let walk = step-inverted stmt w walks.0 walks.1 in
    let v : expressions.Visible = record { known = known; functions = meanings } in
    let frame : Frame = record { walk = w.known; known = known; meanings = meanings; inlined = inlined; inside = false; own = None } in
    let set : AreSet frame (stmt_past_of stmt w.known) p = record { visible = ready.visible; standing = ready.standing; lone = λ is. refl; formed = ready.formed } in
    let change = change-agrees stmt frame (record { streams = w.streams; count = w.count }) (record { streams = walks.0.streams; count = walks.0.count }) p walk.walk set in
    let q = changed.change_of stmt (for_equations frame) p in
    let h : Sample → Option Streams = λ y. meant_by.change_of stmt v (length y.xs) y.streams in
    let next : Sample → Streams → Sample = λ y env. record { xs = y.xs; streams = env; inputs = y.inputs; outputs = y.outputs } in
    let keeps = sample-keeps w known meanings inlined p os ready in
    let grown = appends-length p.equations q.equations change.grown.appends in
    let after : AreReady walks.0 known meanings inlined q os = record {
      visible = subst (λ k. AreVisible k known meanings inlined) (sym walk.known) ready.visible;
      standing = change.standing;
      formed = change.grown.formed;
      outputs = outputs-more (length p.equations) (length q.equations) os grown ready.outputs;
    } in
    let rest = items-agree is (at + 1) walks.0 last known meanings inlined q os walks.2 after in
    let means : Sample → Option meant.World = λ y. meant.items_change y.xs (at + 1) is (world_of v y) in
    let x = programs.items_change (at + 1) is (made_world known inlined q os) in
    let step : StepAgrees w.streams walks.0.streams p q os os h next = record {
      appends = change.grown.appends;
      found = λ y widths fit have. let e = change.found (scenery_of y) widths fit.names have in record { value = e.env; is = e.are; fits = record { names = e.fits; outputs = fit.outputs } };
      extended = λ y widths env fit have is. change.extended (scenery_of y) widths env fit.names have (λ rec none. cc) is;
    } in
    items-same w.streams p os x x (λ y. option_and_then (λ a. means (next y a)) (h y)) (λ y. meant.items_change y.xs at (item.Step stmt ∷ is) (world_of v y)) refl (λ y. map-then (λ env. record (world_of v y) { streams = env }) (meant.items_change y.xs (at + 1) is) (h y)) (items-after w.streams walks.0.streams p q os os h next x means keeps step rest)

-- ---- programs
abbrev pub first_sample : List (List ℕ) → Sample
first_sample xs = record { xs = xs; streams = no_streams; inputs = 0; outputs = [] }

pub first-ready : AreReady scope.start built_in (bind (codes "signed") meant.signed_function (λ _. None)) (bind (codes "signed") programs.signed_function (λ _. None)) (record { streams = programs.no_streams; equations = [] }) []
first-ready = record {
  visible = same-visible built_in meant.at_first programs.start.visible (visible-first FunctionFact signed-agrees);
  standing = standing-nothing 0 None;
  formed = record { reads = λ i e there. cc; delays = λ i e there. cc; bodies = λ i e there. cc };
  outputs = tt;
}

abbrev MeansProgram : Program → Sample → Option meant.World
MeansProgram program y = meant.items_change y.xs 0 program.items.items (world_of meant.at_first y)

-- what a program makes beside what it means
pub program-agrees : (program : Program) → scope.offence program ≡ None → ItemsAgree (λ _. None) (record { streams = programs.no_streams; equations = [] }) [] (programs.items_change 0 program.items.items programs.start) (MeansProgram program)
program-agrees program none =
    let walk = program-inverted program none in
    items-agree program.items.items 0 scope.start walk.last built_in (bind (codes "signed") meant.signed_function (λ _. None)) (bind (codes "signed") programs.signed_function (λ _. None)) (record { streams = programs.no_streams; equations = [] }) [] walk.all first-ready

first-fits : (xs : List (List ℕ)) (widths : List ℕ) → FitsSample (λ _. None) programs.no_streams [] (first_sample xs) widths
first-fits xs widths = record { names = fits-nothing (length xs) widths; outputs = tt }

-- ---- widths of all equations
pub have-widths : (es : List EquationShape) (widths : List ℕ) → AreWidths es widths → Have es widths
have-widths es widths are = record {
  each = λ i e there closed. are.each i e there (slice_get_within es i e there) closed;
  recurrences = λ i e there init first open_ op. are.recurrences i e there init first (slice_get_within es i e there) open_ op;
}

and-false : (a b : Bool) → b ≡ false → (a && b) ≡ false
and-false true b is = is
and-false false b is = refl

declared-closed : (e : EquationShape) (w : ℕ) → e.declared ≡ Some w → is_open e ≡ false
declared-closed e w is = and-false (is_rec e.op) (not (is_some e.declared)) (ap (λ o. not (is_some o)) is)

-- just so many widths
just : ℕ → List ℕ → List ℕ
just n widths = numbers_by n (λ i. get_or widths i 0)

just-below : (n : ℕ) (widths : List ℕ) (i : ℕ) → i < n → get_or (just n widths) i 0 ≡ get_or widths i 0
unfolding just
just-below n widths i low = get_or-map-range_with_len (λ j. get_or widths j 0) 0 n i i 0 low (omega arith)

just-length : (n : ℕ) (widths : List ℕ) → length (just n widths) ≡ n
unfolding just
just-length n widths = length-map-range_with_len (λ j. get_or widths j 0) 0 n

widths-have : (es : List EquationShape) (widths : List ℕ) → AreFormed None es → Have es widths → AreWidths es (just (length es) widths)
widths-have es widths formed have =
    let n = length es in
    let all = have-kept es None widths (just n widths) formed (record { below = just-below n widths; past = λ rec none. cc }) have in
    record {
      count = just-length n widths;
      declared = λ i e there w is. width_in-declared (just n widths) e (get_or (just n widths) i 0) w (all.each i e there (declared-closed e w is)) is;
      each = λ i e there low closed. all.each i e there closed;
      recurrences = λ i e there init first low open_ op. all.recurrences i e there init first open_ op;
    }

-- ---- the laws
pub widths-found : (program : Program) (widths : List ℕ) (xs : List (List ℕ)) → scope.offence program ≡ None → AreWidths (equations_of program).equations widths → HasStreams program widths xs
widths-found program widths xs none are =
    let agree = program-agrees program none in
    let here = agree.found (first_sample xs) widths (first-fits xs widths) (have-widths (equations_of program).equations widths are) in
    record { streams = here.world.outputs; are = ap (option_map (λ (w : meant.World). w.outputs)) here.is; wide = here.wide }

pub widths-exist : (program : Program) → scope.offence program ≡ None → has_widths program ≡ true → HaveWidths program
widths-exist program none has = by_world (MeansProgram program (first_sample [])) refl has where
  by_world : (o : Option meant.World) → MeansProgram program (first_sample []) ≡ o → is_some (option_map (λ (w : meant.World). w.outputs) o) ≡ true → HaveWidths program
  by_world None is some = cc
  by_world (Some w) is some =
      let agree = program-agrees program none in
      let nothing : Have [] [] = record { each = λ i e there. cc; recurrences = λ i e there. cc } in
      let e = agree.extended (first_sample []) [] w (first-fits [] []) nothing is in
      record { widths = just (length (equations_of program).equations) e.others; are = widths-have (equations_of program).equations e.others agree.formed e.have }

pub widths-needed : (program : Program) (widths : List ℕ) → scope.offence program ≡ None → AreWidths (equations_of program).equations widths → has_widths program ≡ true
widths-needed program widths none are = ap is_some (widths-found program widths [] none are).are
