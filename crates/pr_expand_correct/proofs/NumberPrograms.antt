-- The numbers of a program's outputs.
use Rattle.std.proofs.Common.{◌≡◌, ◌∙◌, ◌<◌, ℕ, Bool, true, false, cond, List, [], ◌∷◌, ◌++◌, map, length, take, get_or, count_by, bytes_eq, codes, Option, Some, None, option_map, Ok, refl, sym, ap, subst, arith, length-append, append_assoc}
use Rattle.std.specs.List.{AllZip}
use Rattle.std.proofs.lemmas.Bool.{cond-true}
use Rattle.std.proofs.lemmas.Option.{none-some, same_Some}
use Rattle.std.proofs.lemmas.List.{append-nil, length-map}
use Rattle.std.proofs.Math.ListN.{get_or-map}
use Rattle.std.proofs.Math.Seq.{take-append_seam}
use Rattle.pr_lang.specs.declared.trees.Item.{Item}
use Rattle.pr_lang.specs.declared.trees.Item.TheVariants as item
use Rattle.pr_lang.specs.declared.trees.Program.{Program}
use Rattle.pr_scope_names.specs.declared.names.Callee.{Callee}
use Rattle.pr_scope_names.specs.declared.names.Static.{Static}
use Rattle.pr_scope_names.specs.declared.names.Static.TheVariants as static
use Rattle.pr_scope_names.specs.Names.{Known, bind, built_in}
use Rattle.pr_scope.specs.Expressions.{past_of}
use Rattle.pr_scope.specs.Statements as scope_statements
use Rattle.pr_scope.specs.Statements.{stmt_past_of}
use Rattle.pr_scope.specs.Walk as scope
use Rattle.pr_flat.specs.declared.equations.Operand.{Operand}
use Rattle.pr_flat.specs.declared.equations.Op.TheVariants as op
use Rattle.pr_flat.specs.declared.forms.Form.{Form}
use Rattle.pr_flat.specs.Forms.{Stream}
use Rattle.pr_flat.specs.Shape.{EquationShape}
use Rattle.pr_flat.specs.Facts.{is_input, is_width}
use Rattle.pr_flat.specs.Widths.{operand_width}
use Rattle.pr_flat.specs.Values.{input_widths}
use Rattle.pr_lang_meaning.specs.Streams.{Streams}
use Rattle.pr_lang_meaning.specs.Expressions.{Function}
use Rattle.pr_lang_meaning.specs.Expressions as expressions
use Rattle.pr_lang_meaning.specs.Programs as meant
use Rattle.pr_expand_spec.specs.declared.givens.Standing.TheVariants as standing
use Rattle.pr_expand_spec.specs.Making.{Equations, constant, with_equation}
use Rattle.pr_expand_spec.specs.Expressions as made_by
use Rattle.pr_expand_spec.specs.Statements as changed
use Rattle.pr_expand_spec.specs.Expressions.{Inlined}
use Rattle.pr_expand_spec.specs.Statements.{Progress}
use Rattle.pr_expand_spec.specs.Programs as programs
use Rattle.pr_expand_spec.specs.Programs.{input_width}
use Rattle.pr_scope_facts.proofs.Appending.{Appends, AllAppend, appends-both, appends-length, item-appends, start-appends, visible-appends}
use Rattle.pr_scope_facts.proofs.Inputs.{HasInputs, first-inputs, has-inputs, inputs-counted}
use Rattle.pr_scope_facts.proofs.Steps.{Reaches, items-eliminated, callee-plain}
use Rattle.pr_scope_facts.proofs.Statics.{constant-meant, constant-made, entries-meant, entries-made}
use Rattle.pr_scope_facts.proofs.InvertedStatements.{width-flat, width-greatest, width-lawful}
use Rattle.pr_scope_facts.proofs.InvertedItems.{Names, constant-inverted, function-inverted, input-inverted, output-inverted, program-inverted, step-inverted, table-inverted}
use Rattle.pr_scope_facts.proofs.Worlds.{SameVisible, signed_callee, is_function, visible-function}
use Rattle.pr_expand_correct.specs.Outputs.{IsAsWide}
use Rattle.pr_expand_correct.proofs.Related.{Have, Fits, Matches, AreVisible}
use Rattle.pr_expand_correct.proofs.Keeping.{have-before}
use Rattle.pr_expand_correct.proofs.AgreedStatements.{Frame, FunctionFact, AreSet, for_equations, setting, set-ready, lawful-of, agrees-assigned, change-agrees, fits-bound, same-visible, visible-same}
use Rattle.pr_expand_correct.proofs.AgreedFunctions.{fits-nothing, function-agrees}
use Rattle.pr_expand_correct.proofs.AgreedPrograms.{zip-push, AreReady, made_world, input-agrees, sample-keeps, ready-named, ready-static, static-visible, outputs-more, outputs-push, first-ready}
use Rattle.pr_expand_correct.proofs.NumberRuns.{Run, IsRun, number_at, input_at}
use Rattle.pr_expand_correct.proofs.NumberLeaves.{IsNumbered, appends-last}
use Rattle.pr_expand_correct.proofs.NumberParts.{IsSampled}
use Rattle.pr_expand_correct.proofs.NumberExpressions.{CallsNumbers, scenery_of}
use Rattle.pr_expand_correct.proofs.NumberStatements.{assigned-counts, more-stands}
use Rattle.pr_expand_correct.proofs.NumberChanges.{HaveNumbers, HaveCalls, calls-static, change-numbers}
use Rattle.pr_expand_correct.proofs.NumberFunctions.{function-numbers, signed-numbers}

-- ---- inputs
input-numbered : (r : Run) → IsRun r → (width inputs : ℕ) (es : Equations) → inputs ≡ length (input_widths es) → Appends (with_equation op.Input [] (Some (input_width width)) es).equations r.equations → IsNumbered r (length r.samples) (with_equation op.Input [] (Some (input_width width)) es).given (meant.input_stream width inputs r.samples)
input-numbered r run width inputs es count front = record {
  count = length-map r.samples (λ row. get_or row inputs 0);
  each = λ j low. get_or-map (λ row. get_or row inputs 0) r.samples j [] ∙ ap (λ i. get_or (get_or r.samples j []) i 0) which ∙ sym (run.input j (length es) e low (appends-last es e r.equations front) refl);
} where
  e : EquationShape
  e = record { op = op.Input; args = []; declared = Some (input_width width); kinds = [] }

  taken : take (length es) r.equations ≡ es
  taken = ap (take (length es)) (front.is ∙ append_assoc es (e ∷ []) front.more) ∙ take-append_seam es (e ∷ front.more)

  which : inputs ≡ input_at r (length es)
  which = count ∙ inputs-counted es ∙ sym (ap (count_by (λ (d : EquationShape). is_input d.op)) taken)

-- ---- items
-- a stream is so wide as the operand of an output, and has its numbers
pub record IsResult (r : Run) (o : Operand) (s : Stream) : Type 0 where
  pub wide : s.form.width ≡ operand_width r.widths o
  pub count : length s.numbers ≡ length r.samples
  pub each : (j : ℕ) → j < length r.samples → get_or s.numbers j 0 ≡ number_at r j o

-- what is known before an item
record AreNumbered (r : Run) (w : scope.World) (known : Known) (meanings : List ℕ → Option Function) (inlined : List ℕ → Option Inlined) (p : Progress) (os : List Operand) (env : Streams) (inputs : ℕ) (outputs : List Stream) : Type 0 where
  ready : AreReady w known meanings inlined p os
  fits : Fits w.streams None p.streams (scenery_of r env) r.widths
  numbers : HaveNumbers r (length r.samples) env p.streams
  calls : HaveCalls r w.known meanings inlined
  appends : AllAppend (record { known = known; functions = inlined })
  has : HasInputs w (made_world known inlined p os)
  count : inputs ≡ length w.inputs
  results : AllZip (IsResult r) os outputs

-- the same, of worlds
record WorldNumbers (r : Run) (w : scope.World) (m : meant.World) (x : programs.World) : Type 0 where
  same : x.visible.known ≡ m.visible.known
  are : AreNumbered r w m.visible.known m.visible.functions x.visible.functions x.progress x.outputs m.streams m.inputs m.outputs

-- its equations stand at the front of all
abbrev IsFront : Run → programs.World → Type 0
IsFront r x = AllAppend x.visible → Appends x.progress.equations r.equations

front-before : (r : Run) (at : ℕ) (i : Item) (x : programs.World) → IsFront r (programs.item_change at i x) → IsFront r x
front-before r at i x front all = appends-both x.progress.equations (programs.item_change at i x).progress.equations r.equations (item-appends at i x all) (front (visible-appends at i x all))

all_sampled : (r : Run) → IsRun r → Have r.equations r.widths → IsSampled r (length r.samples)
all_sampled r run have = record { run = run; have = have; within = omega arith }

wide-results : (r : Run) (os : List Operand) (ss : List Stream) → AllZip (IsResult r) os ss → AllZip (IsAsWide r.widths) os ss
wide-results r [] [] results = tt
wide-results r [] (s ∷ ss) results = absurd results
wide-results r (o ∷ os) [] results = absurd results
wide-results r (o ∷ os) (s ∷ ss) results = (results.0.wide, wide-results r os ss results.1)

-- what an item's text sees
abbrev top_frame : scope.World → Known → (List ℕ → Option Function) → (List ℕ → Option Inlined) → Frame
top_frame w known meanings inlined = record { walk = w.known; known = known; meanings = meanings; inlined = inlined; inside = false; own = None }

top-set : (w : scope.World) (known : Known) (meanings : List ℕ → Option Function) (inlined : List ℕ → Option Inlined) (p : Progress) (os : List Operand) (past : Bool) → AreReady w known meanings inlined p os → AreSet (top_frame w known meanings inlined) past p
top-set w known meanings inlined p os past ready = record { visible = ready.visible; standing = ready.standing; lone = λ is. refl; formed = ready.formed }

-- one more name that stands for no stream, and for no function
static-numbers : (r : Run) (w w' : scope.World) (known : Known) (meanings : List ℕ → Option Function) (inlined : List ℕ → Option Inlined) (p : Progress) (os : List Operand) (env : Streams) (inputs : ℕ) (outputs : List Stream) (name : List ℕ) (what : Static) → is_function what ≡ false → Names name what w w' → AllAppend (record { known = bind name what known; functions = inlined }) → HasInputs w' (made_world (bind name what known) inlined p os) → AreNumbered r w known meanings inlined p os env inputs outputs → AreNumbered r w' (bind name what known) meanings inlined p os env inputs outputs
static-numbers r w w' known meanings inlined p os env inputs outputs name what plainly names appends has are = record {
  ready = ready-static w w' known meanings meanings inlined inlined p os (bind name what known) are.ready (static-visible w w' known meanings inlined name what plainly are.ready.visible names);
  fits = subst (λ s. Fits s None p.streams (scenery_of r env) r.widths) (sym names.streams) are.fits;
  numbers = are.numbers;
  calls = subst (λ k. HaveCalls r k meanings inlined) (sym names.known) (calls-static r w.known meanings inlined name what plainly are.calls);
  appends = appends;
  has = has;
  count = are.count ∙ ap length (sym names.inputs);
  results = are.results;
}

-- one more function
calls-function : (r : Run) (walk : Known) (meanings : List ℕ → Option Function) (inlined : List ℕ → Option Inlined) (name : List ℕ) (callee : Callee) (g : Function) (h : Inlined) → CallsNumbers r callee.past callee.params g h → HaveCalls r walk meanings inlined → HaveCalls r (bind name (static.Function callee) walk) (bind name g meanings) (bind name h inlined)
calls-function r walk meanings inlined name callee g h numbered calls = record { at = λ q f meant making is means makes. by_name (bytes_eq name q) (walk q) (meanings q) (inlined q) f meant making (calls.at q f meant making) is means makes } where
  by_name : (c : Bool) (o : Option Static) (a : Option Function) (b : Option Inlined) (f : Callee) (meant : Function) (making : Inlined) → (o ≡ Some (static.Function f) → a ≡ Some meant → b ≡ Some making → CallsNumbers r f.past f.params meant making) → cond c (Some (static.Function callee)) o ≡ Some (static.Function f) → cond c (Some g) a ≡ Some meant → cond c (Some h) b ≡ Some making → CallsNumbers r f.past f.params meant making
  by_name true o a b f meant making old is means makes =
      let callee_same : callee ≡ f = cc in
      let P : Callee → Function → Inlined → Type 0 = λ c u v. CallsNumbers r c.past c.params u v in
      subst (λ c. P c meant making) callee_same (subst (λ u. P callee u making) (same_Some g meant means) (subst (λ v. P callee g v) (same_Some h making makes) numbered))
  by_name false o a b f meant making old is means makes = old is means makes

item-numbers : (r : Run) → IsRun r → Have r.equations r.widths → (at : ℕ) (i : Item) (w w' : scope.World) → scope.item_change at i w ≡ Ok w' → (known : Known) (meanings : List ℕ → Option Function) (inlined : List ℕ → Option Inlined) (p : Progress) (os : List Operand) (env : Streams) (inputs : ℕ) (outputs : List Stream) → IsFront r (programs.item_change at i (made_world known inlined p os)) → AreNumbered r w known meanings inlined p os env inputs outputs → Reaches (WorldNumbers r) w' (meant.item_change r.samples at i (record { visible = record { known = known; functions = meanings }; streams = env; inputs = inputs; outputs = outputs })) (programs.item_change at i (made_world known inlined p os))
item-numbers r run have at (item.Input name width) w w' walk known meanings inlined p os env inputs outputs front are =
    let m = length r.samples in
    let x = made_world known inlined p os in
    let here = input-inverted name width w w' walk in
    let lawful = width-flat width here.lawful_width in
    let s = meant.input_stream width inputs r.samples in
    let m1 = with_equation op.Input [] (Some (input_width width)) p.equations in
    let value = input-agrees width 0 w.streams p os are.ready.formed (sample-keeps w known meanings inlined p os are.ready) lawful (width-greatest width here.lawful_width) in
    let ahead = front are.appends in
    let found = value.found (record { xs = r.samples; streams = env; inputs = inputs; outputs = outputs }) r.widths (record { names = are.fits; outputs = wide-results r os outputs are.results }) (have-before m1.equations r.equations r.widths ahead have) in
    let match : Matches r.widths m1.given s = subst (Matches r.widths m1.given) (sym (same_Some s found.stream found.is)) found.matches in
    record {
      after = meant.with_input name s (record { visible = record { known = known; functions = meanings }; streams = env; inputs = inputs; outputs = outputs });
      meant = cond-true (is_width width) (Some (meant.with_input name s (record { visible = record { known = known; functions = meanings }; streams = env; inputs = inputs; outputs = outputs }))) None lawful;
      fact = record {
        same = refl;
        are = record {
          ready = ready-named w w' known meanings inlined p os os name m1 are.ready here.known value.grown.appends value.grown.formed value.within (outputs-more (length p.equations) (length m1.equations) os (appends-length p.equations m1.equations value.grown.appends) are.ready.outputs);
          fits = fits-bound name None w.known w.streams w'.streams p.streams m env r.widths (record { init = 0; stream = s }) (standing.Stream m1.given 0) here.introduces (record { init_same = refl; matches = match }) are.fits;
          numbers = record { at = more-stands r m name None (record { init = 0; stream = s }) (standing.Stream m1.given 0) env p.streams (input-numbered r run width inputs p.equations (are.count ∙ ap length (sym are.has.inputs)) ahead) are.numbers.at };
          calls = subst (λ k. HaveCalls r k meanings inlined) (sym here.known) are.calls;
          appends = are.appends;
          has = has-inputs at (item.Input name width) w w' x walk are.has;
          count = omega (arith, are.count, ap length here.inputs, length-append w.inputs (width ∷ []));
          results = are.results;
        };
      };
    }
item-numbers r run have at (item.Output name width e) w w' walk known meanings inlined p os env inputs outputs front are =
    let m = length r.samples in
    let x = made_world known inlined p os in
    let here = output-inverted name width e w w' walk in
    let frame = top_frame w known meanings inlined in
    let set = top-set w known meanings inlined p os (past_of e w.known) are.ready in
    let m1 = made_by.assigned width e (for_equations frame) p.streams p.equations in
    let value = agrees-assigned e (setting frame w.streams p.streams) p.equations here.begin w'.count width here.walk (set-ready frame (past_of e w.known) p w.streams set) here.lawful_width in
    let ahead = front are.appends in
    let found = value.found (scenery_of r env) r.widths are.fits (have-before m1.equations r.equations r.widths ahead have) in
    let s = found.stream in
    let numbered = assigned-counts r m (all_sampled r run have) e (setting frame w.streams p.streams) p.equations here.begin w'.count width here.walk (set-ready frame (past_of e w.known) p w.streams set) (lawful-of width here.lawful_width) (width-lawful width here.lawful_width) env are.fits (record { stands = are.numbers.at; calls = are.calls.at }) ahead s found.is in
    let old : meant.World = record { visible = record { known = known; functions = meanings }; streams = env; inputs = inputs; outputs = outputs } in
    record {
      after = meant.with_output name old s;
      meant = ap (option_map (meant.with_output name old)) found.is;
      fact = record {
        same = refl;
        are = record {
          ready = ready-named w w' known meanings inlined p os (os ++ m1.given.operand ∷ []) name m1 are.ready here.known value.grown.appends value.grown.formed value.within (outputs-push (length m1.equations) os m1.given.operand (outputs-more (length p.equations) (length m1.equations) os (appends-length p.equations m1.equations value.grown.appends) are.ready.outputs) value.within);
          fits = fits-bound name None w.known w.streams w'.streams p.streams m env r.widths (record { init = 0; stream = s }) (standing.Stream m1.given 0) here.introduces (record { init_same = refl; matches = found.matches }) are.fits;
          numbers = record { at = more-stands r m name None (record { init = 0; stream = s }) (standing.Stream m1.given 0) env p.streams numbered are.numbers.at };
          calls = subst (λ k. HaveCalls r k meanings inlined) (sym here.known) are.calls;
          appends = are.appends;
          has = has-inputs at (item.Output name width e) w w' x walk are.has;
          count = are.count ∙ ap length (sym here.inputs);
          results = zip-push (IsResult r) os outputs m1.given.operand s are.results (record { wide = ap (λ (f : Form). f.width) found.matches.form; count = numbered.count; each = numbered.each });
        };
      };
    }
item-numbers r run have at (item.Const name value) w w' walk known meanings inlined p os env inputs outputs front are =
    let x = made_world known inlined p os in
    let here = constant-inverted name value w w' walk in
    let what = static.Constant here.number in
    let same : bind name (static.Constant (constant value known)) known ≡ bind name what known = ap (λ n. bind name (static.Constant n) known) (constant-made w.known known are.ready.visible.same value here.number here.number_is) in
    let old : meant.World = record { visible = record { known = known; functions = meanings }; streams = env; inputs = inputs; outputs = outputs } in
    record {
      after = meant.with_static name old what;
      meant = ap (option_map (λ n. meant.with_static name old (static.Constant n))) (constant-meant w.known known are.ready.visible.same value here.number here.number_is);
      fact = record { same = same; are = static-numbers r w w' known meanings inlined p os env inputs outputs name what refl here.names (subst (λ k. AllAppend (record { known = k; functions = inlined })) same (visible-appends at (item.Const name value) x are.appends)) (subst (λ k. HasInputs w' (made_world k inlined p os)) same (has-inputs at (item.Const name value) w w' x walk are.has)) are };
    }
item-numbers r run have at (item.Table name values) w w' walk known meanings inlined p os env inputs outputs front are =
    let x = made_world known inlined p os in
    let here = table-inverted name values.items w w' walk in
    let what = static.Table here.entries in
    let same : bind name (static.Table (map (λ f. constant f known) values.items)) known ≡ bind name what known = ap (λ ns. bind name (static.Table ns) known) (entries-made w.known known are.ready.visible.same values.items here.entries here.entries_are) in
    let old : meant.World = record { visible = record { known = known; functions = meanings }; streams = env; inputs = inputs; outputs = outputs } in
    record {
      after = meant.with_static name old what;
      meant = ap (option_map (λ ns. meant.with_static name old (static.Table ns))) (entries-meant w.known known are.ready.visible.same values.items here.entries here.entries_are);
      fact = record { same = same; are = static-numbers r w w' known meanings inlined p os env inputs outputs name what refl here.names (subst (λ k. AllAppend (record { known = k; functions = inlined })) same (visible-appends at (item.Table name values) x are.appends)) (subst (λ k. HasInputs w' (made_world k inlined p os)) same (has-inputs at (item.Table name values) w w' x walk are.has)) are };
    }
item-numbers r run have at (item.Function name params width body result) w w' walk known meanings inlined p os env inputs outputs front are =
    let x = made_world known inlined p os in
    let here = function-inverted at name params.items width body.items result w w' walk in
    let v : expressions.Visible = record { known = known; functions = meanings } in
    let u : made_by.Visible = record { known = known; functions = inlined } in
    let g = meant.function_of params.items width body.items result v in
    let h = programs.inlined params.items width body.items result u in
    let what = meant.function_at at params.items in
    let after = bind name what known in
    let fact = function-agrees w.known known meanings inlined are.ready.visible at params.items width body.items result here.callee here.walk in
    let bound = visible-function FunctionFact w.known v u name at params.items here.callee g h (callee-plain at params.items width body.items result w.known here.callee here.walk) fact (visible-same w.known known meanings inlined are.ready.visible) in
    let visible = same-visible w'.known (record { known = after; functions = bind name g meanings }) (record { known = after; functions = bind name h inlined }) (subst (λ k. SameVisible FunctionFact k (record { known = after; functions = bind name g meanings }) (record { known = after; functions = bind name h inlined })) (sym here.names.known) bound) in
    let old : meant.World = record { visible = v; streams = env; inputs = inputs; outputs = outputs } in
    let numbered = function-numbers r run have w.known known meanings inlined are.ready.visible are.calls at params.items width body.items result here.callee here.walk in
    record {
      after = meant.with_function name what g old;
      meant = refl;
      fact = record {
        same = refl;
        are = record {
          ready = ready-static w w' known meanings (bind name g meanings) inlined (bind name h inlined) p os after are.ready visible;
          fits = subst (λ s. Fits s None p.streams (scenery_of r env) r.widths) (sym here.names.streams) are.fits;
          numbers = are.numbers;
          calls = subst (λ k. HaveCalls r k (bind name g meanings) (bind name h inlined)) (sym here.names.known) (calls-function r w.known meanings inlined name here.callee g h numbered are.calls);
          appends = visible-appends at (item.Function name params width body result) x are.appends;
          has = has-inputs at (item.Function name params width body result) w w' x walk are.has;
          count = are.count ∙ ap length (sym here.names.inputs);
          results = are.results;
        };
      };
    }
item-numbers r run have at (item.Step stmt) w w' walk known meanings inlined p os env inputs outputs front are =
    let m = length r.samples in
    let x = made_world known inlined p os in
    let here = step-inverted stmt w w' walk in
    let frame = top_frame w known meanings inlined in
    let set = top-set w known meanings inlined p os (stmt_past_of stmt w.known) are.ready in
    let begin : scope_statements.Progress = record { streams = w.streams; count = w.count } in
    let end : scope_statements.Progress = record { streams = w'.streams; count = w'.count } in
    let change = change-agrees stmt frame begin end p here.walk set in
    let q = changed.change_of stmt (for_equations frame) p in
    let ahead = front are.appends in
    let found = change.found (scenery_of r env) r.widths are.fits (have-before q.equations r.equations r.widths ahead have) in
    let old : meant.World = record { visible = record { known = known; functions = meanings }; streams = env; inputs = inputs; outputs = outputs } in
    record {
      after = record old { streams = found.env };
      meant = ap (option_map (λ (e : Streams). record old { streams = e })) found.are;
      fact = record {
        same = refl;
        are = record {
          ready = record {
            visible = subst (λ k. AreVisible k known meanings inlined) (sym here.known) are.ready.visible;
            standing = change.standing;
            formed = change.grown.formed;
            outputs = outputs-more (length p.equations) (length q.equations) os (appends-length p.equations q.equations change.grown.appends) are.ready.outputs;
          };
          fits = found.fits;
          numbers = change-numbers r m (all_sampled r run have) stmt frame begin end p here.walk set env are.fits are.numbers are.calls ahead found.env found.are;
          calls = subst (λ k. HaveCalls r k meanings inlined) (sym here.known) are.calls;
          appends = are.appends;
          has = has-inputs at (item.Step stmt) w w' x walk are.has;
          count = are.count ∙ ap length (sym here.inputs);
          results = are.results;
        };
      };
    }

step-numbers : (r : Run) → IsRun r → Have r.equations r.widths → (at : ℕ) (i : Item) (w w' : scope.World) (m : meant.World) (x : programs.World) → scope.item_change at i w ≡ Ok w' → IsFront r (programs.item_change at i x) → WorldNumbers r w m x → Reaches (WorldNumbers r) w' (meant.item_change r.samples at i m) (programs.item_change at i x)
step-numbers r run have at i w w' m x walk front world =
    let x_at : Known → programs.World = λ k. made_world k x.visible.functions x.progress x.outputs in
    let P : Known → Type 0 = λ k. IsFront r (programs.item_change at i (x_at k)) → Reaches (WorldNumbers r) w' (meant.item_change r.samples at i m) (programs.item_change at i (x_at k)) in
    subst P (sym world.same) (λ ahead. item-numbers r run have at i w w' walk m.visible.known m.visible.functions x.visible.functions x.progress x.outputs m.streams m.inputs m.outputs ahead world.are) front

-- ---- programs
first-calls : (r : Run) → HaveCalls r built_in (bind (codes "signed") meant.signed_function (λ _. None)) (bind (codes "signed") programs.signed_function (λ _. None))
unfolding built_in
first-calls r = calls-function r (λ _. None) (λ _. None) (λ _. None) (codes "signed") signed_callee meant.signed_function programs.signed_function (signed-numbers r) (record { at = λ q f meant making is. absurd (none-some (static.Function f) is) })

first-numbers : (r : Run) → WorldNumbers r scope.start meant.start programs.start
first-numbers r = record {
  same = refl;
  are = record {
    ready = first-ready;
    fits = fits-nothing (length r.samples) r.widths;
    numbers = record { at = λ name index. tt };
    calls = first-calls r;
    appends = start-appends;
    has = first-inputs;
    count = refl;
    results = tt;
  };
}

-- the streams that a program means beside the operands of its outputs
pub record HasResults (r : Run) (program : Program) : Type 0 where
  pub streams : List Stream
  pub are : meant.streams_of program r.samples ≡ Some streams
  pub results : AllZip (IsResult r) (programs.equations_of program).outputs streams

pub program-results : (r : Run) (program : Program) → scope.offence program ≡ None → r.equations ≡ (programs.equations_of program).equations → IsRun r → Have r.equations r.widths → HasResults r program
program-results r program none is run have =
    let walk = program-inverted program none in
    let front : IsFront r (programs.items_change 0 program.items.items programs.start) = λ all. record { more = []; is = is ∙ sym (append-nil (programs.equations_of program).equations) } in
    let reached = items-eliminated (WorldNumbers r) (IsFront r) r.samples (front-before r) (step-numbers r run have) 0 program.items.items scope.start walk.last meant.start programs.start walk.all front (first-numbers r) in
    record { streams = reached.after.outputs; are = ap (option_map (λ (w : meant.World). w.outputs)) reached.meant; results = reached.fact.are.results }
