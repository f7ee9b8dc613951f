-- The numbers of what a call makes, where those of its arguments are known.
use Rattle.std.proofs.Common.{◌≡◌, ◌∙◌, ◌≤◌, ℕ, true, false, List, [], ◌∷◌, length, Option, Some, None, sym, subst, arith}
use Rattle.std.specs.List.{AllZip}
use Rattle.std.proofs.lemmas.Option.{same_Some}
use Rattle.pr_lang.specs.declared.trees.Expr.{Expr}
use Rattle.pr_lang.specs.declared.trees.Stmt.{Stmt}
use Rattle.pr_lang.specs.declared.trees.Param.{Param}
use Rattle.pr_scope_names.specs.declared.names.Callee.{Callee}
use Rattle.pr_scope_names.specs.Names.{Known}
use Rattle.pr_flat.specs.Forms.{Stream}
use Rattle.pr_scope.specs.Expressions.{past_of}
use Rattle.pr_scope.specs.Statements as scope
use Rattle.pr_lang_meaning.specs.Streams.{Streams, sources}
use Rattle.pr_lang_meaning.specs.Streams as streams
use Rattle.pr_lang_meaning.specs.Expressions.{Function, signed}
use Rattle.pr_lang_meaning.specs.Programs as meant
use Rattle.pr_expand_spec.specs.declared.givens.Given.{Given}
use Rattle.pr_expand_spec.specs.declared.givens.Standing.TheVariants as standing
use Rattle.pr_expand_spec.specs.Making.{Equations}
use Rattle.pr_expand_spec.specs.Expressions.{Inlined}
use Rattle.pr_expand_spec.specs.Expressions as made_by
use Rattle.pr_expand_spec.specs.Statements.{Progress, named}
use Rattle.pr_expand_spec.specs.Statements as changed
use Rattle.pr_expand_spec.specs.Programs as programs
use Rattle.pr_scope_facts.proofs.InvertedStatements.{width-lawful}
use Rattle.pr_scope_facts.proofs.InvertedItems.{HaveWidths, CalleeWalk}
use Rattle.pr_scope_facts.proofs.Calls.{function-inverted}
use Rattle.pr_scope_facts.proofs.Appending.{Appends, appends-both, arguments-append}
use Rattle.pr_expand_correct.proofs.Related.{Have, AreFormed, AreWithin, Fits, AreVisible}
use Rattle.pr_expand_correct.proofs.Keeping.{have-before}
use Rattle.pr_expand_correct.proofs.AgreedStatements.{for_equations, setting, set-ready, lawful-of, agrees-assigned}
use Rattle.pr_expand_correct.proofs.AgreedFunctions.{frame_of, bound_by, body_past, body-runs, fits-nothing}
use Rattle.pr_expand_correct.proofs.NumberRuns.{Run, IsRun}
use Rattle.pr_expand_correct.proofs.NumberLeaves.{IsNumbered, fit-numbered}
use Rattle.pr_expand_correct.proofs.NumberParts.{IsSampled, IsMeant, matches-all}
use Rattle.pr_expand_correct.proofs.NumberExpressions.{CallsNumbers, scenery_of}
use Rattle.pr_expand_correct.proofs.NumberStatements.{assigned-counts, more-stands}
use Rattle.pr_expand_correct.proofs.NumberChanges.{HaveNumbers, HaveCalls, numbers-in, changes-numbers}

-- ---- arguments
passed-numbered : (r : Run) (n : ℕ) → IsSampled r n → (width : Option ℕ) (g : Given) (es : Equations) → scope.is_width width ≡ true → Appends (programs.passed width g es).equations r.equations → (a : Stream) → IsMeant r n g a → IsNumbered r n (programs.passed width g es).given (meant.passed width a)
passed-numbered r n sampled width g es is front a meant_as = subst P (sym (width-lawful width is)) (by_width width) front where
  P : Option ℕ → Type 0
  P w = Appends (programs.fitted_to w g es).equations r.equations → IsNumbered r n (programs.fitted_to w g es).given (meant.passed width a)

  by_width : (w : Option ℕ) → Appends (programs.fitted_to w g es).equations r.equations → IsNumbered r n (programs.fitted_to w g es).given (meant.passed w a)
  by_width None ahead = record { count = meant_as.numbered.count; each = meant_as.numbered.each }
  by_width (Some w) ahead = fit-numbered r sampled.run sampled.have w g es ahead n sampled.within a meant_as.match meant_as.numbered

arguments-numbers : (r : Run) (n : ℕ) → IsSampled r n → (params : List Param) (gs : List Given) (ss : List Stream) → HaveWidths params → AllZip (IsMeant r n) gs ss → (p : Progress) (env : Streams) → HaveNumbers r n env p.streams → Appends (programs.with_arguments params gs p).equations r.equations → (after : Streams) → meant.with_arguments params ss env ≡ Some after → HaveNumbers r n after (programs.with_arguments params gs p).streams
arguments-numbers r n sampled [] [] [] widths meant_as p env numbers front after is = subst (λ (x : Streams). HaveNumbers r n x p.streams) (same_Some env after is) numbers
arguments-numbers r n sampled [] [] (s ∷ ss) widths meant_as p env numbers front after is = absurd meant_as
arguments-numbers r n sampled [] (g ∷ gs) [] widths meant_as p env numbers front after is = absurd meant_as
arguments-numbers r n sampled [] (g ∷ gs) (s ∷ ss) widths meant_as p env numbers front after is = cc
arguments-numbers r n sampled (q ∷ params) [] [] widths meant_as p env numbers front after is = cc
arguments-numbers r n sampled (q ∷ params) [] (s ∷ ss) widths meant_as p env numbers front after is = absurd meant_as
arguments-numbers r n sampled (q ∷ params) (g ∷ gs) [] widths meant_as p env numbers front after is = absurd meant_as
arguments-numbers r n sampled (q ∷ params) (g ∷ gs) (s ∷ ss) widths meant_as p env numbers front after is =
    let m = programs.passed q.width g p.equations in
    let next = named q.name None p.streams m in
    let front_here = appends-both m.equations (programs.with_arguments params gs next).equations r.equations (arguments-append params gs next) front in
    let numbered = passed-numbered r n sampled q.width g p.equations widths.0 front_here s meant_as.0 in
    let here : HaveNumbers r n (streams.with_stream q.name None (meant.passed q.width s) env) next.streams = record { at = more-stands r n q.name None (record { init = 0; stream = meant.passed q.width s }) (standing.Stream m.given 0) env p.streams numbered numbers.at } in
    arguments-numbers r n sampled params gs ss widths.1 meant_as.1 next (streams.with_stream q.name None (meant.passed q.width s) env) here front after is

-- ---- functions
pub function-numbers : (r : Run) → IsRun r → Have r.equations r.widths → (walk known : Known) (meanings : List ℕ → Option Function) (inlined : List ℕ → Option Inlined) → AreVisible walk known meanings inlined → HaveCalls r walk meanings inlined → (at : ℕ) (params : List Param) (width : Option ℕ) (body : List Stmt) (result : Expr) (f : Callee) → CalleeWalk at params width body result walk f → CallsNumbers r f.past f.params (meant.function_of params width body result (record { known = known; functions = meanings })) (programs.inlined params width body result (record { known = known; functions = inlined }))
function-numbers r run have walk known meanings inlined visible calls at params width body result f callee = record { numbered = numbered } where
  numbered : (n : ℕ) → n ≤ length r.samples → (own : Option ℕ) → (f.past ≡ true → own ≡ None) → (args : List Given) (es : Equations) → AreFormed own es → length args ≡ f.params → AreWithin (length es) own args → Appends (programs.inlined params width body result (record { known = known; functions = inlined }) args es).equations r.equations → (ss : List Stream) → AllZip (IsMeant r n) args ss → (s : Stream) → meant.function_of params width body result (record { known = known; functions = meanings }) (length r.samples) ss ≡ Some s → IsNumbered r n (programs.inlined params width body result (record { known = known; functions = inlined }) args es).given s
  numbered n within own lone args es formed long inside front ss are s is =
      let m = length r.samples in
      let sampled : IsSampled r n = record { run = run; have = have; within = within } in
      let frame = frame_of walk known meanings inlined own in
      let bound = bound_by params args es in
      let ran = changed.changes_of body (for_equations frame) bound in
      let runs = body-runs walk known meanings inlined visible at params width body result f callee own lone args es formed long inside in
      let value = agrees-assigned result (setting frame callee.between.streams ran.streams) ran.equations callee.between.count callee.last width callee.walk (set-ready frame (past_of result walk) ran callee.between.streams runs.ended) callee.lawful_width in
      let last = made_by.assigned width result (for_equations frame) ran.streams ran.equations in
      let front_run = appends-both ran.equations last.equations r.equations value.grown.appends front in
      let front_bound = appends-both bound.equations ran.equations r.equations runs.does.grown.appends front_run in
      let means = function-inverted params width body result (record { known = known; functions = meanings }) m ss s is in
      let first = runs.passed.found (record { samples = m; streams = ss; env = streams.no_streams }) r.widths (record { names = fits-nothing m r.widths; given = matches-all r n args ss are }) (have-before bound.equations r.equations r.widths front_bound have) in
      let fits_bound : Fits callee.locals None bound.streams (scenery_of r means.env) r.widths = subst (λ (e : Streams). Fits callee.locals None bound.streams (scenery_of r e) r.widths) (same_Some first.env means.env (sym first.are ∙ means.arguments)) first.fits in
      let numbers_bound = arguments-numbers r n sampled params args ss callee.lawful_params are (record { streams = programs.no_streams; equations = es }) streams.no_streams (record { at = λ name index. tt }) front_bound means.env means.arguments in
      let second = runs.does.found (scenery_of r means.env) r.widths fits_bound (have-before ran.equations r.equations r.widths front_run have) in
      let fits_run : Fits callee.between.streams None ran.streams (scenery_of r means.locals) r.widths = subst (λ (e : Streams). Fits callee.between.streams None ran.streams (scenery_of r e) r.widths) (same_Some second.env means.locals (sym second.are ∙ means.run)) second.fits in
      let numbers_run = changes-numbers r n sampled body frame f.past (record { streams = callee.locals; count = callee.begin }) callee.between bound callee.changes runs.set (body_past at params width body result walk f callee) means.env fits_bound numbers_bound calls front_run means.locals means.run in
      assigned-counts r n sampled result (setting frame callee.between.streams ran.streams) ran.equations callee.between.count callee.last width callee.walk (set-ready frame (past_of result walk) ran callee.between.streams runs.ended) (lawful-of width callee.lawful_width) (width-lawful width callee.lawful_width) means.locals fits_run (numbers-in r n frame callee.between ran means.locals numbers_run calls) front s means.value

-- ---- `signed`
pub signed-numbers : (r : Run) → CallsNumbers r false 1 meant.signed_function programs.signed_function
signed-numbers r = record { numbered = numbered } where
  numbered : (n : ℕ) → n ≤ length r.samples → (own : Option ℕ) → (false ≡ true → own ≡ None) → (args : List Given) (es : Equations) → AreFormed own es → length args ≡ 1 → AreWithin (length es) own args → Appends (programs.signed_function args es).equations r.equations → (ss : List Stream) → AllZip (IsMeant r n) args ss → (s : Stream) → meant.signed_function (length r.samples) ss ≡ Some s → IsNumbered r n (programs.signed_function args es).given s
  numbered n within own lone [] es formed long inside front ss are s is = cc
  numbered n within own lone (g ∷ []) es formed long inside front [] are s is = absurd are
  numbered n within own lone (g ∷ []) es formed long inside front (a ∷ []) are s is = subst (IsNumbered r n (record { operand = g.operand; signed = true })) (same_Some (signed a) s is) (record { count = are.0.numbered.count; each = are.0.numbered.each })
  numbered n within own lone (g ∷ []) es formed long inside front (a ∷ b ∷ ss) are s is = absurd are.1
  numbered n within own lone (g ∷ h ∷ gs) es formed long inside front ss are s is = absurd (omega (arith, long))
