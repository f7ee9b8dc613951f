-- What a call makes has widths where the function means something of its arguments.
use Rattle.std.proofs.Common.{◌≡◌, ◌∙◌, ◌≤◌, ℕ, Bool, true, false, ◌||◌, List, [], ◌∷◌, length, Option, Some, None, option_map, refl, sym, ap, subst, arith, inl, inr}
use Rattle.std.specs.List.{AllZip}
use Rattle.std.specs.Option.{option_and_then}
use Rattle.std.proofs.lemmas.Option.{same_Some}
use Rattle.pr_lang.specs.declared.trees.Expr.{Expr}
use Rattle.pr_lang.specs.declared.trees.Stmt.{Stmt}
use Rattle.pr_lang.specs.declared.trees.Param.{Param}
use Rattle.pr_scope_names.specs.declared.names.Callee.{Callee}
use Rattle.pr_scope_names.specs.Names.{Known, Streaming}
use Rattle.pr_scope.specs.Expressions.{past_of}
use Rattle.pr_scope.specs.Statements as scope
use Rattle.pr_flat.specs.declared.forms.Form.{Form}
use Rattle.pr_flat.specs.Forms.{Stream}
use Rattle.pr_lang_meaning.specs.Streams.{Streams, assigned, fitted, sources, with_stream}
use Rattle.pr_lang_meaning.specs.Streams as streams
use Rattle.pr_lang_meaning.specs.Expressions.{Function, meaning, signed}
use Rattle.pr_lang_meaning.specs.Statements as meant_by
use Rattle.pr_lang_meaning.specs.Programs as meant
use Rattle.pr_expand_spec.specs.declared.givens.Given.{Given}
use Rattle.pr_expand_spec.specs.declared.givens.Standing.TheVariants as stands
use Rattle.pr_expand_spec.specs.Making.{Equations, Expanded, made}
use Rattle.pr_expand_spec.specs.Expressions.{Inlined}
use Rattle.pr_expand_spec.specs.Expressions as made_by
use Rattle.pr_expand_spec.specs.Statements.{Progress, named}
use Rattle.pr_expand_spec.specs.Statements as changed
use Rattle.pr_expand_spec.specs.Programs as programs
use Rattle.pr_scope_facts.proofs.Appending.{appends-length}
use Rattle.pr_scope_facts.proofs.InvertedStatements.{Introduces, width-lawful}
use Rattle.pr_scope_facts.proofs.InvertedItems.{AllParams, HaveWidths, CalleeWalk}
use Rattle.pr_scope_facts.proofs.NoRecurrence.{calm-function, calm-signed}
use Rattle.pr_expand_correct.proofs.Related.{Have, IsWithin, AreFormed, AreWithin, AreKept, IsAhead, Matches, IsFound, AreExtended, Agrees, Scenery, Fits, AreStanding, Arguments, IsFunction, AreVisible}
use Rattle.pr_expand_correct.proofs.Keeping.{same-within, all-within-more, have-before, kept-outside, outside-both, outside-nowhere}
use Rattle.pr_expand_correct.proofs.Combining.{Keeps, ahead-less, grown-both, grown-nothing}
use Rattle.pr_expand_correct.proofs.Texts.{agrees-leaf, agrees-same, fits-kept, implied-false, IsCalmIn}
use Rattle.pr_expand_correct.proofs.AgreedExpressions.{agrees-calmer}
use Rattle.pr_expand_correct.proofs.AgreedStatements.{AreSet, AreStreams, ChangeAgrees, Frame, agrees-assigned, agrees-fitted, calm-known, changes-agree, fits-bound, for_equations, for_meaning, set-keeps, set-ready, setting, standing-bound}

-- ---- a value after a change
pub value-after : {X : Type 0} (own : Option ℕ) (past : Bool) (calm : Type 0) (fits : X → List ℕ → Type 0) (samples : X → ℕ) (t : Streaming) (old : Equations) (q : Progress) (m : Expanded) (g : X → Option Streams) (h : Scenery → Option Stream) → Keeps (length old) own fits → (calm → past ≡ false) → ChangeAgrees own past fits samples t old q g → Agrees own calm (Fits t None q.streams) q.equations m h → Agrees own calm fits old m (λ x. option_and_then (λ env. h (record { samples = samples x; env = env })) (g x))
value-after {X} own past calm fits samples t old q m g h keeps quiet first second = record {
  grown = grown-both own calm old q.equations m.equations (record { appends = first.grown.appends; formed = first.grown.formed; calm_kept = λ is. first.grown.calm_kept (quiet is) }) second.grown;
  within = second.within;
  found = λ x widths fit have.
      let here = first.found x widths fit (have-before q.equations m.equations widths second.grown.appends have) in
      let next = second.found (record { samples = samples x; env = here.env }) widths here.fits have in
      record { stream = next.stream; is = ap (option_and_then (λ env. h (record { samples = samples x; env = env }))) here.are ∙ next.is; matches = next.matches };
  extended = λ x widths s fit have ahead is. by_first x widths s (g x) fit have ahead refl is;
} where
  low : length old ≤ length q.equations
  low = appends-length old q.equations first.grown.appends

  high : length q.equations ≤ length m.equations
  high = appends-length q.equations m.equations second.grown.appends

  by_first : (x : X) (widths : List ℕ) (s : Stream) (o : Option Streams) → fits x widths → Have old widths → IsAhead (length m.equations) own → g x ≡ o → option_and_then (λ env. h (record { samples = samples x; env = env })) o ≡ Some s → AreExtended old m.equations widths
  by_first x widths s None fit have ahead same is = cc
  by_first x widths s (Some between) fit have ahead same is =
      let near = ahead-less (length q.equations) (length m.equations) own high ahead in
      let here = first.extended x widths between fit have near same in
      let fit_after = keeps.at x widths here.others (kept-outside (length old) (length q.equations) own widths here.others here.same near) fit in
      let met = first.found x here.others fit_after here.have in
      let one : met.env ≡ between = same_Some met.env between (sym met.are ∙ same) in
      let fits_between = subst (λ e. Fits t None q.streams (record { samples = samples x; env = e }) here.others) one met.fits in
      let others = second.extended (record { samples = samples x; env = between }) here.others s fits_between here.have ahead is in
      record {
        others = others.others;
        same = outside-both (length old) (length q.equations) (length m.equations) widths here.others others.others low high here.same others.same;
        have = others.have;
      }

-- the same of what depends on another thing
pub agrees-from : {X Y : Type 0} (own : Option ℕ) (calm : Type 0) (fits : X → List ℕ → Type 0) (fits_in : Y → List ℕ → Type 0) (old : Equations) (m : Expanded) (f : X → Option Stream) (h : Y → X) → ((y : Y) (widths : List ℕ) → fits_in y widths → fits (h y) widths) → Agrees own calm fits old m f → Agrees own calm fits_in old m (λ y. f (h y))
agrees-from own calm fits fits_in old m f h through agrees = record {
  grown = agrees.grown;
  within = agrees.within;
  found = λ y widths fit have. agrees.found (h y) widths (through y widths fit) have;
  extended = λ y widths s fit have ahead is. agrees.extended (h y) widths s (through y widths fit) have ahead is;
}

-- ---- arguments
-- so many samples, the arguments that are still to be bound, and the streams that names stand for
pub record Passing : Type 0 where
  pub samples : ℕ
  pub streams : List Stream
  pub env : Streams

pub record FitsPassing (gs : List Given) (s : Streaming) (standings : made_by.Streams) (x : Passing) (widths : List ℕ) : Type 0 where
  pub names : Fits s None standings (record { samples = x.samples; env = x.env }) widths
  pub given : AllZip (Matches widths) gs x.streams

matches-kept : (n : ℕ) (own : Option ℕ) (widths others : List ℕ) → AreKept n own widths others → (g : Given) (s : Stream) → IsWithin n own g.operand → Matches widths g s → Matches others g s
matches-kept n own widths others kept g s within matches = record { form = matches.form ∙ ap (λ w. record { signed = g.signed; width = w }) (sym (same-within n own widths others kept g.operand within)); greatest = matches.greatest }

all-match-kept : (n : ℕ) (own : Option ℕ) (widths others : List ℕ) → AreKept n own widths others → (gs : List Given) (ss : List Stream) → AreWithin n own gs → AllZip (Matches widths) gs ss → AllZip (Matches others) gs ss
all-match-kept n own widths others kept [] [] within match = tt
all-match-kept n own widths others kept [] (s ∷ ss) within match = absurd match
all-match-kept n own widths others kept (g ∷ gs) [] within match = absurd match
all-match-kept n own widths others kept (g ∷ gs) (s ∷ ss) within match = (matches-kept n own widths others kept g s within.0 match.0, all-match-kept n own widths others kept gs ss within.1 match.1)

passing-keeps : (n : ℕ) (own : Option ℕ) (gs : List Given) (s : Streaming) (standings : made_by.Streams) → AreStanding n own own None standings → AreWithin n own gs → Keeps n own (FitsPassing gs s standings)
passing-keeps n own gs s standings are within = record {
  at = λ x widths others kept fit. record {
    names = (fits-kept n own own s None standings (inr refl) are).at (record { samples = x.samples; env = x.env }) widths others kept fit.names;
    given = all-match-kept n own widths others kept gs x.streams within fit.given;
  };
}

abbrev first_of : List Stream → Option Stream
first_of [] = None
first_of (s ∷ ss) = Some s

first-found : (widths : List ℕ) (g : Given) (gs : List Given) (ss : List Stream) → AllZip (Matches widths) (g ∷ gs) ss → IsFound widths g (first_of ss)
first-found widths g gs [] match = absurd match
first-found widths g gs (s ∷ ss) match = record { stream = s; is = refl; matches = match.0 }

same-passed : (o : Option Stream) → option_map (meant.passed None) o ≡ o
same-passed None = refl
same-passed (Some s) = refl

-- an argument, at the parameter's declared width if it has one
passed-agrees : {X : Type 0} (own : Option ℕ) (calm : Type 0) (fits : X → List ℕ → Type 0) (width : Option ℕ) (g : Given) (es : Equations) (f : X → Option Stream) → Keeps (length es) own fits → scope.is_width width ≡ true → Agrees own calm fits es (made es g.operand g.signed) f → Agrees own calm fits es (programs.passed width g es) (λ x. option_map (meant.passed width) (f x))
passed-agrees {X} own calm fits width g es f keeps is agrees = subst (λ w. Agrees own calm fits es (programs.fitted_to w g es) (λ x. option_map (meant.passed width) (f x))) (sym (width-lawful width is)) (by_width width is) where
  by_width : (w : Option ℕ) → scope.is_width w ≡ true → Agrees own calm fits es (programs.fitted_to w g es) (λ x. option_map (meant.passed w) (f x))
  by_width None is = agrees-same own calm fits es (made es g.operand g.signed) (made es g.operand g.signed) f (λ x. option_map (meant.passed None) (f x)) refl (λ x. same-passed (f x)) agrees
  by_width (Some w) is = agrees-fitted own calm fits es w (made es g.operand g.signed) f keeps is agrees

-- an argument is bound
bound-fits : (name : List ℕ) (width : Option ℕ) (walk : Known) (s t : Streaming) (p : Progress) (m : Expanded) (samples : ℕ) (env : Streams) (widths : List ℕ) (a : Stream) → Introduces name None walk s t → IsFound widths m.given (Some (meant.passed width a)) → Fits s None p.streams (record { samples = samples; env = env }) widths → Fits t None (named name None p.streams m).streams (record { samples = samples; env = with_stream name None (meant.passed width a) env }) widths
bound-fits name width walk s t p m samples env widths a introduces found fits =
    let same : meant.passed width a ≡ found.stream = same_Some (meant.passed width a) found.stream found.is in
    let matches = subst (Matches widths m.given) (sym same) found.matches in
    fits-bound name None walk s t p.streams samples env widths (record { init = 0; stream = meant.passed width a }) (stands.Stream m.given 0) introduces (record { init_same = refl; matches = matches }) fits

-- one argument more, and then the others
argument-more : (own : Option ℕ) (past : Bool) (walk : Known) (q : Param) (params : List Param) (s between t : Streaming) (p : Progress) (g : Given) (gs : List Given) (m : Expanded) (after : Progress) → Introduces q.name None walk s between → Keeps (length p.equations) own (FitsPassing (g ∷ gs) s p.streams) → Agrees own (past ≡ false) (FitsPassing (g ∷ gs) s p.streams) p.equations m (λ (x : Passing). option_map (meant.passed q.width) (first_of x.streams)) → ChangeAgrees own past (FitsPassing gs between (named q.name None p.streams m).streams) (λ (x : Passing). x.samples) t m.equations after (λ (x : Passing). meant.with_arguments params x.streams x.env) → ChangeAgrees own past (FitsPassing (g ∷ gs) s p.streams) (λ (x : Passing). x.samples) t p.equations after (λ (x : Passing). meant.with_arguments (q ∷ params) x.streams x.env)
argument-more own past walk q params s between t p g gs m after introduces keeps value rest = record {
  grown = grown-both own (past ≡ false) p.equations m.equations after.equations value.grown rest.grown;
  standing = rest.standing;
  found = λ x widths fit have. found x widths x.streams fit refl have;
  extended = λ x widths env fit have ahead is. extended x widths x.streams env fit refl have ahead is;
} where
  low : length p.equations ≤ length m.equations
  low = appends-length p.equations m.equations value.grown.appends

  high : length m.equations ≤ length after.equations
  high = appends-length m.equations after.equations rest.grown.appends

  next : Passing → Stream → List Stream → Passing
  next x a ss = record { samples = x.samples; streams = ss; env = with_stream q.name None (meant.passed q.width a) x.env }

  fits_next : (x : Passing) (widths : List ℕ) (a : Stream) (ss : List Stream) → FitsPassing (g ∷ gs) s p.streams x widths → x.streams ≡ a ∷ ss → Have m.equations widths → FitsPassing gs between (named q.name None p.streams m).streams (next x a ss) widths
  fits_next x widths a ss fit same have =
      let here = subst (λ us. IsFound widths m.given (option_map (meant.passed q.width) (first_of us))) same (value.found x widths fit have) in
      let match = subst (AllZip (Matches widths) (g ∷ gs)) same fit.given in
      record { names = bound-fits q.name q.width walk s between p m x.samples x.env widths a introduces here fit.names; given = match.1 }

  found : (x : Passing) (widths : List ℕ) (ss : List Stream) → FitsPassing (g ∷ gs) s p.streams x widths → x.streams ≡ ss → Have after.equations widths → AreStreams widths t after.streams x.samples (meant.with_arguments (q ∷ params) ss x.env)
  found x widths [] fit same have = absurd (subst (AllZip (Matches widths) (g ∷ gs)) same fit.given)
  found x widths (a ∷ ss) fit same have = rest.found (next x a ss) widths (fits_next x widths a ss fit same (have-before m.equations after.equations widths rest.grown.appends have)) have

  extended : (x : Passing) (widths : List ℕ) (ss : List Stream) (env : Streams) → FitsPassing (g ∷ gs) s p.streams x widths → x.streams ≡ ss → Have p.equations widths → IsAhead (length after.equations) own → meant.with_arguments (q ∷ params) ss x.env ≡ Some env → AreExtended p.equations after.equations widths
  extended x widths [] env fit same have ahead is = cc
  extended x widths (a ∷ ss) env fit same have ahead is =
      let near = ahead-less (length m.equations) (length after.equations) own high ahead in
      let here = value.extended x widths (meant.passed q.width a) fit have near (ap (λ us. option_map (meant.passed q.width) (first_of us)) same) in
      let fit_after = keeps.at x widths here.others (kept-outside (length p.equations) (length m.equations) own widths here.others here.same near) fit in
      let others = rest.extended (next x a ss) here.others env (fits_next x here.others a ss fit_after same here.have) here.have ahead is in
      record {
        others = others.others;
        same = outside-both (length p.equations) (length m.equations) (length after.equations) widths here.others others.others low high here.same others.same;
        have = others.have;
      }

pub arguments-agree : (own : Option ℕ) (past : Bool) (walk : Known) (params : List Param) (s t : Streaming) (p : Progress) (gs : List Given) → AllParams params walk s t → HaveWidths params → length gs ≡ length params → AreStanding (length p.equations) own own None p.streams → AreWithin (length p.equations) own gs → AreFormed own p.equations → ChangeAgrees own past (FitsPassing gs s p.streams) (λ (x : Passing). x.samples) t p.equations (programs.with_arguments params gs p) (λ (x : Passing). meant.with_arguments params x.streams x.env)
arguments-agree own past walk [] s t p [] all widths_are long standing within formed = record {
  grown = grown-nothing own (past ≡ false) p.equations formed;
  standing = standing;
  found = λ x widths fit have. ended x widths x.streams fit.given fit.names;
  extended = λ x widths env fit have ahead is. record { others = widths; same = outside-nowhere (length p.equations) (length p.equations) widths; have = have };
} where
  ended : (x : Passing) (widths : List ℕ) (ss : List Stream) → AllZip (Matches widths) [] ss → Fits s None p.streams (record { samples = x.samples; env = x.env }) widths → AreStreams widths t p.streams x.samples (meant.with_arguments [] ss x.env)
  ended x widths [] match names = record { env = x.env; are = refl; fits = subst (λ u. Fits u None p.streams (record { samples = x.samples; env = x.env }) widths) all names }
  ended x widths (a ∷ ss) match names = absurd match
arguments-agree own past walk [] s t p (g ∷ gs) all widths_are long standing within formed = absurd (omega (arith, long))
arguments-agree own past walk (q ∷ params) s t p [] all widths_are long standing within formed = absurd (omega (arith, long))
arguments-agree own past walk (q ∷ params) s t p (g ∷ gs) all widths_are long standing within formed =
    let m = programs.passed q.width g p.equations in
    let next = named q.name None p.streams m in
    let keeps = passing-keeps (length p.equations) own (g ∷ gs) s p.streams standing within in
    let first : Passing → Option Stream = λ x. first_of x.streams in
    let leaf = agrees-leaf own (past ≡ false) (FitsPassing (g ∷ gs) s p.streams) p.equations g.operand g.signed first formed within.0 (λ x widths fit. first-found widths g gs x.streams fit.given) in
    let value = passed-agrees own (past ≡ false) (FitsPassing (g ∷ gs) s p.streams) q.width g p.equations first keeps widths_are.0 leaf in
    let low = appends-length p.equations m.equations value.grown.appends in
    let rest = arguments-agree own past walk params all.0 t next gs all.2 widths_are.1 (omega (arith, long)) (standing-bound q.name None (length p.equations) (length m.equations) own p.streams m.given 0 low value.within standing) (all-within-more (length p.equations) (length m.equations) own gs low within.1) value.grown.formed in
    argument-more own past walk q params s all.0 t p g gs m (programs.with_arguments params gs next) all.1 keeps value rest

-- ---- functions
pub fits-nothing : (samples : ℕ) (widths : List ℕ) → Fits (λ name. None) None programs.no_streams (record { samples = samples; env = streams.no_streams }) widths
fits-nothing samples widths = record { stands = λ name place. tt; assigned = λ name place there. cc; own = λ name place is. cc }

pub standing-nothing : (n : ℕ) (own : Option ℕ) → AreStanding n own own None programs.no_streams
standing-nothing n own = record { each = λ name place. tt; alone = λ name place rec is. cc }

-- what a function's call makes before its result: the arguments are bound, and then its body is run
pub record BodyRuns (frame : Frame) (past : Bool) (params : List Param) (body : List Stmt) (result : Expr) (locals between : Streaming) (args : List Given) (bound run : Progress) (equations : Equations) : Type 0 where
  pub passed : ChangeAgrees frame.own past (FitsPassing args (λ name. None) programs.no_streams) (λ (x : Passing). x.samples) locals equations bound (λ (x : Passing). meant.with_arguments params x.streams x.env)
  pub set : AreSet frame past bound
  pub does : ChangeAgrees frame.own past (Fits locals None bound.streams) (λ (y : Scenery). y.samples) between bound.equations run (λ (y : Scenery). meant_by.changes_of body (for_meaning frame) y.samples y.env)
  pub ended : AreSet frame (past_of result frame.walk) run

abbrev pub frame_of : Known → Known → (List ℕ → Option Function) → (List ℕ → Option Inlined) → Option ℕ → Frame
frame_of walk known meanings inlined own = record { walk = walk; known = known; meanings = meanings; inlined = inlined; inside = true; own = own }

abbrev pub bound_by : List Param → List Given → Equations → Progress
bound_by params args equations = programs.with_arguments params args (record { streams = programs.no_streams; equations = equations })

-- the body's past is the function's, and so is its result's
pub body_past : (at : ℕ) (params : List Param) (width : Option ℕ) (body : List Stmt) (result : Expr) (walk : Known) (f : Callee) → CalleeWalk at params width body result walk f → scope.stmts_past_of body walk ≡ true → f.past ≡ true
body_past at params width body result walk f callee is = callee.past ∙ ap (λ b. b || past_of result walk) is

pub result_past : (at : ℕ) (params : List Param) (width : Option ℕ) (body : List Stmt) (result : Expr) (walk : Known) (f : Callee) → CalleeWalk at params width body result walk f → past_of result walk ≡ true → f.past ≡ true
result_past at params width body result walk f callee is = callee.past ∙ or-second (scope.stmts_past_of body walk) (past_of result walk) is where
  or-second : (a b : Bool) → b ≡ true → (a || b) ≡ true
  or-second true b h = refl
  or-second false b h = h

pub body-runs : (walk known : Known) (meanings : List ℕ → Option Function) (inlined : List ℕ → Option Inlined) → AreVisible walk known meanings inlined → (at : ℕ) (params : List Param) (width : Option ℕ) (body : List Stmt) (result : Expr) (f : Callee) → (callee : CalleeWalk at params width body result walk f) → (own : Option ℕ) → (f.past ≡ true → own ≡ None) → (args : List Given) (equations : Equations) → AreFormed own equations → length args ≡ f.params → AreWithin (length equations) own args → BodyRuns (frame_of walk known meanings inlined own) f.past params body result callee.locals callee.between.streams args (bound_by params args equations) (changed.changes_of body (for_equations (frame_of walk known meanings inlined own)) (bound_by params args equations)) equations
body-runs walk known meanings inlined visible at params width body result f callee own lone args equations formed long within =
    let frame = frame_of walk known meanings inlined own in
    let bound = bound_by params args equations in
    let passed = arguments-agree own f.past walk params (λ name. None) callee.locals (record { streams = programs.no_streams; equations = equations }) args callee.assigned callee.lawful_params (long ∙ callee.count) (standing-nothing (length equations) own) within formed in
    let set : AreSet frame f.past bound = record { visible = visible; standing = passed.standing; lone = lone; formed = passed.grown.formed } in
    let does = changes-agree body frame f.past (record { streams = callee.locals; count = callee.begin }) callee.between bound callee.changes set (body_past at params width body result walk f callee) in
    record {
      passed = passed;
      set = set;
      does = does;
      ended = record { visible = visible; standing = does.standing; lone = λ is. lone (result_past at params width body result walk f callee is); formed = does.grown.formed };
    }

-- a call of a function of the program
pub function-agrees : (walk known : Known) (meanings : List ℕ → Option Function) (inlined : List ℕ → Option Inlined) → AreVisible walk known meanings inlined → (at : ℕ) (params : List Param) (width : Option ℕ) (body : List Stmt) (result : Expr) (f : Callee) → CalleeWalk at params width body result walk f → IsFunction f.past f.params (meant.function_of params width body result (record { known = known; functions = meanings })) (programs.inlined params width body result (record { known = known; functions = inlined }))
function-agrees walk known meanings inlined visible at params width body result f callee = record {
  calm = calm-function walk (record { known = known; functions = inlined }) (calm-known walk known meanings inlined visible) at params width body result f callee;
  agrees = agrees;
} where
  agrees : (own : Option ℕ) → (f.past ≡ true → own ≡ None) → (args : List Given) (equations : Equations) → AreFormed own equations → length args ≡ f.params → AreWithin (length equations) own args → Agrees own (f.past ≡ false) (λ (x : Arguments) widths. AllZip (Matches widths) args x.streams) equations (programs.inlined params width body result (record { known = known; functions = inlined }) args equations) (λ (x : Arguments). meant.function_of params width body result (record { known = known; functions = meanings }) x.samples x.streams)
  agrees own lone args equations formed long within =
      let frame = frame_of walk known meanings inlined own in
      let bound = bound_by params args equations in
      let run = changed.changes_of body (for_equations frame) bound in
      let runs = body-runs walk known meanings inlined visible at params width body result f callee own lone args equations formed long within in
      let result_past_here = result_past at params width body result walk f callee in
      let value = agrees-assigned result (setting frame callee.between.streams run.streams) run.equations callee.between.count callee.last width callee.walk (set-ready frame (past_of result walk) run callee.between.streams runs.ended) callee.lawful_width in
      let m = made_by.assigned width result (for_equations frame) run.streams run.equations in
      let h : Scenery → Option Stream = λ y. assigned width (meaning result (for_meaning frame) y.samples (sources y.samples y.env)) in
      let calmer = agrees-calmer own (IsCalmIn (setting frame callee.between.streams run.streams) (past_of result walk)) (f.past ≡ false) (Fits callee.between.streams None run.streams) run.equations m h (λ none. inl (implied-false (past_of result walk) f.past result_past_here none)) value in
      let body_value = value-after own f.past (f.past ≡ false) (Fits callee.locals None bound.streams) (λ (y : Scenery). y.samples) callee.between.streams bound.equations run m (λ (y : Scenery). meant_by.changes_of body (for_meaning frame) y.samples y.env) h (set-keeps frame f.past bound callee.locals runs.set) (λ is. is) runs.does calmer in
      let whole = value-after own f.past (f.past ≡ false) (FitsPassing args (λ name. None) programs.no_streams) (λ (x : Passing). x.samples) callee.locals equations bound m (λ (x : Passing). meant.with_arguments params x.streams x.env) (λ (y : Scenery). option_and_then (λ locals. h (record { samples = y.samples; env = locals })) (meant_by.changes_of body (for_meaning frame) y.samples y.env)) (passing-keeps (length equations) own args (λ name. None) programs.no_streams (standing-nothing (length equations) own) within) (λ is. is) runs.passed body_value in
      agrees-from own (f.past ≡ false) (FitsPassing args (λ name. None) programs.no_streams) (λ (x : Arguments) widths. AllZip (Matches widths) args x.streams) equations m (λ (x : Passing). option_and_then (λ env. option_and_then (λ locals. h (record { samples = x.samples; env = locals })) (meant_by.changes_of body (for_meaning frame) x.samples env)) (meant.with_arguments params x.streams x.env)) (λ (x : Arguments). record { samples = x.samples; streams = x.streams; env = streams.no_streams }) (λ x widths match. record { names = fits-nothing x.samples widths; given = match }) whole

-- ---- `signed`
signed-found : (widths : List ℕ) (m : ℕ) (g : Given) (ss : List Stream) → AllZip (Matches widths) (g ∷ []) ss → IsFound widths (record { operand = g.operand; signed = true }) (meant.signed_function m ss)
signed-found widths m g [] match = absurd match
signed-found widths m g (s ∷ []) match = record { stream = signed s; is = refl; matches = record { form = ap (λ (f : Form). record { signed = true; width = f.width }) match.0.form; greatest = match.0.greatest } }
signed-found widths m g (s ∷ r ∷ ss) match = absurd match.1

pub signed-agrees : IsFunction false 1 meant.signed_function programs.signed_function
signed-agrees = record { calm = λ none. calm-signed; agrees = agrees } where
  agrees : (own : Option ℕ) → (false ≡ true → own ≡ None) → (args : List Given) (equations : Equations) → AreFormed own equations → length args ≡ 1 → AreWithin (length equations) own args → Agrees own (false ≡ false) (λ (x : Arguments) widths. AllZip (Matches widths) args x.streams) equations (programs.signed_function args equations) (λ (x : Arguments). meant.signed_function x.samples x.streams)
  agrees own lone [] equations formed long within = cc
  agrees own lone (g ∷ []) equations formed long within = agrees-leaf own (false ≡ false) (λ (x : Arguments) widths. AllZip (Matches widths) (g ∷ []) x.streams) equations g.operand true (λ (x : Arguments). meant.signed_function x.samples x.streams) formed within.0 (λ x widths match. signed-found widths x.samples g x.streams match)
  agrees own lone (g ∷ h ∷ gs) equations formed long within = absurd (omega (arith, long))
