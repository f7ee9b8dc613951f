-- The numbers of what statements assign: a statement keeps them, and so do lists of statements and loops.
use Rattle.std.proofs.Common.{◌≡◌, ℕ, zero, suc, ◌+◌, ◌-◌, ◌<◌, ◌≤◌, Bool, true, false, cond, ◌&&◌, is_some, bytes_eq, Option, Some, None, option_map, List, [], ◌∷◌, map, length, get_or, replicate, Ok, refl, sym, ◌∙◌, ap, subst, arith, length-append}
use Rattle.std.specs.Option.{option_and_then, option_map_or}
use Rattle.std.specs.Result.{result_ok}
use Rattle.std.specs.List.{slice_get}
use Rattle.std.proofs.lemmas.Bool.{true≢false}
use Rattle.std.proofs.lemmas.Option.{same_Some}
use Rattle.std.proofs.lemmas.List.{length-replicate}
use Rattle.pr_lang.specs.declared.trees.Fixed.{Fixed}
use Rattle.pr_lang.specs.declared.trees.Ref.{Ref}
use Rattle.pr_lang.specs.declared.trees.Expr.{Expr}
use Rattle.pr_lang.specs.declared.trees.Stmt.{Stmt}
use Rattle.pr_lang.specs.declared.trees.Stmt.TheOpen.{Stmt-F}
use Rattle.pr_scope_names.specs.declared.names.Callee.{Callee}
use Rattle.pr_scope_names.specs.declared.names.Static.{Static}
use Rattle.pr_scope_names.specs.declared.names.Static.TheVariants as static
use Rattle.pr_scope_names.specs.Names.{Known, Streaming, bind, same_place}
use Rattle.pr_scope_names.specs.Constants.{constant_of}
use Rattle.pr_flat.specs.declared.equations.Operand.TheVariants.{Eq}
use Rattle.pr_flat.specs.declared.equations.Op.TheVariants as op
use Rattle.pr_flat.specs.Forms.{Stream}
use Rattle.pr_flat.specs.Shape.{EquationShape}
use Rattle.pr_flat.specs.Values.{initial_of, init_of}
use Rattle.pr_scope.specs.Expressions.{past_of}
use Rattle.pr_scope.specs.Statements as scope
use Rattle.pr_lang_meaning.specs.Streams.{Bound, Streams, assigned, sources, with_bound, with_stream}
use Rattle.pr_lang_meaning.specs.Expressions.{Function, meaning}
use Rattle.pr_lang_meaning.specs.Statements as meant_by
use Rattle.pr_lang_meaning.specs.Statements.{Body, body_of, so_far, recurring, recurrence, width_of, number_at}
use Rattle.pr_lang_meaning.proofs.EvenStatements.{zeros-behind, get_or-recurring, length-recurring}
use Rattle.pr_expand_spec.specs.declared.givens.Standing.{Standing}
use Rattle.pr_expand_spec.specs.declared.givens.Standing.TheVariants as standing
use Rattle.pr_expand_spec.specs.Making.{Expanded, constant}
use Rattle.pr_expand_spec.specs.Expressions.{Inlined, declared_at_operator, place, plan_of}
use Rattle.pr_expand_spec.specs.Expressions as made_by
use Rattle.pr_expand_spec.specs.Statements.{Progress, body_made, named, number_after, with_standing}
use Rattle.pr_expand_spec.specs.Statements as changed
use Rattle.pr_scope_facts.proofs.Statics.{constant-meant, constant-made, place-meant, place-made}
use Rattle.pr_scope_facts.proofs.InvertedStatements.{LetWalk, RecWalk, ForWalk, AllChange, AllTurns, let-inverted, rec-inverted, for-inverted, width-lawful}
use Rattle.pr_scope_facts.proofs.Worlds.{is_function}
use Rattle.pr_scope_facts.proofs.Pasts.{turn-past}
use Rattle.pr_scope_facts.proofs.Inductions.{StmtFact, OfStmt, ProvedStmt, StmtLayer, each-statement}
use Rattle.pr_scope_facts.proofs.Appending.{Appends, appends-nothing, appends-both}
use Rattle.pr_expand_correct.proofs.Related.{Scenery, Fits, StandsFor}
use Rattle.pr_expand_correct.proofs.Keeping.{have-before}
use Rattle.pr_expand_correct.proofs.Texts.{Setting, FitsIn}
use Rattle.pr_expand_correct.proofs.AgreedExpressions.{expression-agrees, or-first, or-rest}
use Rattle.pr_expand_correct.proofs.AgreedStatements.{Frame, for_meaning, for_equations, AreSet, ChangeAgrees, setting, set-ready, lawful-of, work, work-is, work-settled, recurring as recurring_made, HasWidth, has-width, body_setting, body-ready, set-part, at_index, set-index, change-agrees, changes-agree}
use Rattle.pr_expand_correct.proofs.Recurrences.{Work, IsWork, own_instance, own_standings, all_equations, begun-fits}
use Rattle.pr_expand_correct.proofs.NumberRuns.{Run}
use Rattle.pr_expand_correct.proofs.NumberLeaves.{IsNumbered, IsBegun, appends-last}
use Rattle.pr_expand_correct.proofs.NumberParts.{IsSampled}
use Rattle.pr_expand_correct.proofs.NumberExpressions.{HasNumbers, CallsNumbers, Numbers, scenery_of, numbers-expression}
use Rattle.pr_expand_correct.proofs.NumberStatements.{assigned-counts, body-number, recurring-numbers, fewer, more-stands}

-- the numbers of all that names stand for
pub record HaveNumbers (r : Run) (n : ℕ) (env : Streams) (standings : made_by.Streams) : Type 0 where
  pub at : (name : List ℕ) (index : Option ℕ) → HasNumbers r n (env name index) (standings name index)

-- and those of all that is called
pub record HaveCalls (r : Run) (walk : Known) (meanings : List ℕ → Option Function) (inlined : List ℕ → Option Inlined) : Type 0 where
  pub at : (name : List ℕ) (f : Callee) (meant : Function) (making : Inlined) → walk name ≡ Some (static.Function f) → meanings name ≡ Some meant → inlined name ≡ Some making → CallsNumbers r f.past f.params meant making

abbrev pub ChangeNumbers : Run → ℕ → StmtFact
ChangeNumbers r n walk mean make past = (f : Frame) (s t : scope.Progress) (p : Progress) → walk f.walk f.inside s ≡ Ok t → AreSet f (past f.walk) p → (env : Streams) → Fits s.streams None p.streams (scenery_of r env) r.widths → HaveNumbers r n env p.streams → HaveCalls r f.walk f.meanings f.inlined → Appends (make (for_equations f) p).equations r.equations → (after : Streams) → mean (for_meaning f) (length r.samples) env ≡ Some after → HaveNumbers r n after (make (for_equations f) p).streams

abbrev pub setting_of : Frame → scope.Progress → Progress → Setting
setting_of f s p = setting f s.streams p.streams

pub numbers-in : (r : Run) (n : ℕ) (f : Frame) (s : scope.Progress) (p : Progress) (env : Streams) → HaveNumbers r n env p.streams → HaveCalls r f.walk f.meanings f.inlined → Numbers r n (setting_of f s p) env
numbers-in r n f s p env numbers calls = record { stands = numbers.at; calls = calls.at }

-- what is mapped
some-mapped : {A B : Type 0} (g : A → B) (o : Option A) (b : B) → option_map g o ≡ Some b → (a : A) × (o ≡ Some a) × (g a ≡ b)
some-mapped g None b is = cc
some-mapped g (Some a) b is = (a, refl, same_Some (g a) b is)

-- ---- assignments
let-numbers : (r : Run) (n : ℕ) → IsSampled r n → (target : Ref) (width : Option ℕ) (e : Expr) (f : Frame) (s t : scope.Progress) (p : Progress) → LetWalk target width e f.walk f.inside s t → AreSet f (past_of e f.walk) p → (env : Streams) → Fits s.streams None p.streams (scenery_of r env) r.widths → HaveNumbers r n env p.streams → HaveCalls r f.walk f.meanings f.inlined → Appends (changed.let_change target width e (for_equations f) p).equations r.equations → (after : Streams) → meant_by.let_change target width e (for_meaning f) (length r.samples) env ≡ Some after → HaveNumbers r n after (changed.let_change target width e (for_equations f) p).streams
let-numbers r n sampled target width e f s t p walk set env fits numbers calls front after is =
    let m = length r.samples in
    let same = set.visible.same in
    let made_is : Expanded = made_by.assigned width e (for_equations f) p.streams p.equations in
    let value : Option Stream = assigned width (meaning e (for_meaning f) m (sources m env)) in
    let gives = sym (ap (option_and_then (λ at. option_map (λ y. with_stream target.name at y env) value)) (place-meant f.walk f.known same target walk.index walk.placed)) ∙ is in
    let parts = some-mapped (λ y. with_stream target.name walk.index y env) value after gives in
    let numbered = assigned-counts r n sampled e (setting_of f s p) p.equations walk.begin t.count width walk.walk (set-ready f (past_of e f.walk) p s.streams set) (lawful-of width walk.lawful_width) (width-lawful width walk.lawful_width) env fits (numbers-in r n f s p env numbers calls) front parts.0 parts.1 in
    let here : HaveNumbers r n (with_stream target.name walk.index parts.0 env) (with_standing target.name walk.index (standing.Stream made_is.given 0) p.streams) = record { at = more-stands r n target.name walk.index (record { init = 0; stream = parts.0 }) (standing.Stream made_is.given 0) env p.streams numbered numbers.at } in
    let P : Option ℕ → Type 0 = λ at. HaveNumbers r n after (with_standing target.name at (standing.Stream made_is.given 0) p.streams) in
    subst P (sym (place-made f.walk f.known same target walk.index walk.placed)) (subst (λ (x : Streams). HaveNumbers r n x (with_standing target.name walk.index (standing.Stream made_is.given 0) p.streams)) parts.2 here)

-- ---- recurrences
-- what the body sees, where the numbers so far are these
abbrev so_begun : Work → ℕ → ℕ → List ℕ → Streams → Streams
so_begun k m w numbers env = with_bound k.name k.index (so_far m k.init w numbers) env

-- the recurrence in work stands for a stream of its form, whatever its numbers are
own-alike : (widths : List ℕ) (c : Bool) (m init w rec : ℕ) (numbers : List ℕ) (o : Option Bound) (s : Option Standing) → StandsFor widths (cond c (Some (so_far m init w [])) o) (cond c (Some (standing.Own rec)) s) → StandsFor widths (cond c (Some (so_far m init w numbers)) o) (cond c (Some (standing.Own rec)) s)
own-alike widths true m init w rec numbers o s stands = record { form = stands.form; greatest = stands.greatest }
own-alike widths false m init w rec numbers o s stands = stands

some-alike : (c : Bool) (b d : Bound) (o : Option Bound) → is_some (cond c (Some b) o) ≡ true → is_some (cond c (Some d) o) ≡ true
some-alike true b d o some = refl
some-alike false b d o some = some

so-begun-fits : (k : Work) (m w : ℕ) (numbers : List ℕ) (env : Streams) (widths : List ℕ) → Fits k.streaming None k.standings (record { samples = m; env = env }) widths → get_or widths k.rec 0 ≡ w → w ≤ 128 → Fits k.streaming (own_instance k) (own_standings k) (record { samples = m; env = so_begun k m w numbers env }) widths
so-begun-fits k m w numbers env widths fits is low =
    let first = begun-fits k (record { samples = m; env = env }) widths w fits is low in
    record {
      stands = λ q place. own-alike widths (bytes_eq k.name q && same_place k.index place) m k.init w k.rec numbers (env q place) (k.standings q place) (first.stands q place);
      assigned = λ q place there. some-alike (bytes_eq k.name q && same_place k.index place) (so_far m k.init w []) (so_far m k.init w numbers) (env q place) (first.assigned q place there);
      own = λ q place own. some-alike (bytes_eq k.name q && same_place k.index place) (so_far m k.init w []) (so_far m k.init w numbers) (env q place) (first.own q place own);
    }

so-far-count : (m init w : ℕ) (numbers : List ℕ) → length numbers ≤ m → length (so_far m init w numbers).stream.numbers ≡ m
so-far-count m init w numbers low = length-append numbers (replicate (m - length numbers) 0) ∙ omega (arith, low, length-replicate {A = ℕ} (m - length numbers) 0)

sampled-before : (r : Run) (n k : ℕ) → k ≤ n → IsSampled r n → IsSampled r k
sampled-before r n k low sampled = record { run = sampled.run; have = sampled.have; within = omega (arith, low, sampled.within) }

abbrev work_in : (target : Ref) (width : Option ℕ) (e : Expr) (f : Frame) (s t : scope.Progress) (p : Progress) (init : Fixed) → RecWalk target width init e f.walk f.inside s t → Work
work_in target width e f s t p init walk = work f target.name walk.index width e walk.initial (number_after target.name walk.index width e (for_equations f) p) s.streams p

-- the number of a recurrence at each sample, by those before it
recurrence-numbered : (r : Run) (n : ℕ) → IsSampled r n → (target : Ref) (width : Option ℕ) (init : Fixed) (e : Expr) (f : Frame) (s t : scope.Progress) (p : Progress) → f.own ≡ None → (walk : RecWalk target width init e f.walk f.inside s t) → AreSet (record f { own = None }) true p → (env : Streams) → Fits s.streams None p.streams (scenery_of r env) r.widths → HaveNumbers r n env p.streams → HaveCalls r f.walk f.meanings f.inlined → Appends (all_equations (work_in target width e f s t p init walk) width) r.equations → (w : ℕ) → w ≡ get_or r.widths (length (work_in target width e f s t p init walk).body.equations) 0 → w ≤ 128 → IsNumbered r n (record { operand = Eq (length (work_in target width e f s t p init walk).body.equations); signed = false }) (recurrence (length r.samples) walk.initial (body_of e target.name walk.index walk.initial (for_meaning f) (length r.samples) env) w).stream
recurrence-numbered r n sampled target width init e f s t p none walk set env fits numbers calls front w wide low = record {
  count = length-recurring body w m;
  each = λ j before. get_or-recurring body w n m sampled.within j before ∙ recurring-numbers body w n (λ i. r.numbers i here) step n (omega arith) j before;
} where
  m : ℕ
  m = length r.samples

  k : Work
  k = work_in target width e f s t p init walk

  is_work : IsWork k width
  is_work = work-is f target width init e s t p none walk set

  here : ℕ
  here = length k.body.equations

  body : Body
  body = body_of e target.name walk.index walk.initial (for_meaning f) m env

  equation : EquationShape
  equation = record { op = op.Rec walk.initial (length p.equations); args = k.body.given.operand ∷ []; declared = width; kinds = k.body.given.signed ∷ [] }

  there : slice_get r.equations here ≡ Some equation
  there = appends-last k.body.equations equation r.equations front

  begins : initial_of r.equations k.rec ≡ walk.initial
  begins = ap (initial_of r.equations) (sym is_work.number) ∙ ap (λ (o : Option EquationShape). option_map_or (λ (d : EquationShape). init_of d.op) o 0) there

  front_body : Appends k.body.equations r.equations
  front_body = appends-both k.body.equations (all_equations k width) r.equations (record { more = equation ∷ []; is = refl }) front

  step : (i : ℕ) → i < n → ((j : ℕ) → j < i → get_or (recurring body w i) j 0 ≡ r.numbers j here) → number_at w i (body w (recurring body w i)) ≡ r.numbers i here
  step i early before =
      let seen = body_setting f target.name walk.index k.rec s.streams p in
      let ready = body-ready f (past_of e f.walk) target.name walk.index k.rec s.streams p set in
      let lawful_width = lawful-of width walk.lawful_width in
      let so_long = recurring body w i in
      let there_env = so_begun k m w so_long env in
      let fits_there : FitsIn seen (scenery_of r there_env) r.widths = so-begun-fits k m w so_long env r.widths fits (ap (λ x. get_or r.widths x 0) (sym is_work.number) ∙ sym wide) low in
      let own : IsBegun r (suc i) k.rec (so_far m walk.initial w so_long) = record { init_is = begins; count = so-far-count m walk.initial w so_long (omega (arith, length-recurring body w i, sampled.within)); each = λ j less. zeros-behind so_long (m - length so_long) j ∙ before j (omega arith) ∙ ap (r.numbers j) is_work.number } in
      let numbers_there : Numbers r (suc i) seen there_env = record {
        stands = more-stands r (suc i) target.name walk.index (so_far m walk.initial w so_long) (standing.Own k.rec) env p.streams own (λ q place. fewer r n (suc i) early (env q place) (p.streams q place) (numbers.at q place));
        calls = calls.at;
      } in
      let sampled_there = sampled-before r n (suc i) early sampled in
      let found = (expression-agrees e seen p.equations walk.begin t.count width walk.walk ready lawful_width).found (scenery_of r there_env) r.widths fits_there (have-before k.body.equations r.equations r.widths front_body sampled.have) in
      let counts = numbers-expression r (suc i) sampled_there e seen walk.begin t.count p.equations width walk.walk ready lawful_width there_env fits_there numbers_there front_body found.stream found.is in
      body-number r i sampled_there (plan_of e).is_operator width (body w so_long) k.body.given found.stream here walk.initial (length p.equations) w there wide found.is found.matches counts

rec-numbers : (r : Run) (n : ℕ) → IsSampled r n → (target : Ref) (width : Option ℕ) (init : Fixed) (e : Expr) (f : Frame) (s t : scope.Progress) (p : Progress) → RecWalk target width init e f.walk f.inside s t → AreSet f true p → (env : Streams) → Fits s.streams None p.streams (scenery_of r env) r.widths → HaveNumbers r n env p.streams → HaveCalls r f.walk f.meanings f.inlined → Appends (changed.rec_change target width init e (for_equations f) p).equations r.equations → (after : Streams) → meant_by.rec_change target width init e (for_meaning f) (length r.samples) env ≡ Some after → HaveNumbers r n after (changed.rec_change target width init e (for_equations f) p).streams
rec-numbers r n sampled target width init e f s t p walk set env fits numbers calls front after is = subst (λ (q : Progress). HaveNumbers r n after q.streams) (sym made_as) (subst (λ (x : Streams). HaveNumbers r n x (recurring_made k width).streams) parts.2 here) where
  m : ℕ
  m = length r.samples

  none : f.own ≡ None
  none = set.lone refl

  set_alone : AreSet (record f { own = None }) true p
  set_alone = let P : Option ℕ → Type 0 = λ own. AreSet (record f { own = own }) true p in subst P none set

  k : Work
  k = work_in target width e f s t p init walk

  is_work : IsWork k width
  is_work = work-is f target width init e s t p none walk set_alone

  made_as : changed.rec_change target width init e (for_equations f) p ≡ recurring_made k width
  made_as = (λ i. changed.with_recurrence target.name (place-made f.walk f.known set.visible.same target walk.index walk.placed i) width (constant-made f.walk f.known set.visible.same init walk.initial walk.initial_is i) p (changed.settled (body_made target.name (place-made f.walk f.known set.visible.same target walk.index walk.placed i) width e 0 (for_equations f) p) (body_made target.name (place-made f.walk f.known set.visible.same target walk.index walk.placed i) width e (number_after target.name (place-made f.walk f.known set.visible.same target walk.index walk.placed i) width e (for_equations f) p) (for_equations f) p)))
      ∙ ap (λ (m : Expanded). changed.with_recurrence target.name walk.index width walk.initial p m) (work-settled f target width init e s t p walk set_alone)
      ∙ ap (λ v. recurring_made (work f target.name walk.index v e walk.initial (number_after target.name walk.index width e (for_equations f) p) s.streams p) v) (width-lawful width walk.lawful_width)

  body : Scenery → Body
  body x = body_of e target.name walk.index walk.initial (for_meaning f) x.samples x.env

  gives : option_map (λ w. with_bound target.name walk.index (recurrence m walk.initial (body (scenery_of r env)) w) env) (width_of width walk.initial (body (scenery_of r env))) ≡ Some after
  gives = sym (λ i. option_and_then (λ at. option_and_then (λ c. meant_by.with_recurrence target at width e c (for_meaning f) m env) (constant-meant f.walk f.known set.visible.same init walk.initial walk.initial_is i)) (place-meant f.walk f.known set.visible.same target walk.index walk.placed i)) ∙ is

  parts : (w : ℕ) × (width_of width walk.initial (body (scenery_of r env)) ≡ Some w) × (with_bound target.name walk.index (recurrence m walk.initial (body (scenery_of r env)) w) env ≡ after)
  parts = some-mapped (λ w. with_bound target.name walk.index (recurrence m walk.initial (body (scenery_of r env)) w) env) (width_of width walk.initial (body (scenery_of r env))) after gives

  front_all : Appends (all_equations k width) r.equations
  front_all = subst (λ (q : Progress). Appends q.equations r.equations) made_as front

  has : HasWidth k width body (scenery_of r env) r.widths
  has = has-width k width body is_work walk.lawful_width walk.fits (λ x w. refl) (scenery_of r env) r.widths fits (have-before (all_equations k width) r.equations r.widths front_all sampled.have)

  wide : parts.0 ≡ get_or r.widths (length k.body.equations) 0
  wide = same_Some parts.0 (get_or r.widths (length k.body.equations) 0) (sym parts.1 ∙ has.is)

  here : HaveNumbers r n (with_bound target.name walk.index (recurrence m walk.initial (body (scenery_of r env)) parts.0) env) (recurring_made k width).streams
  here = record { at = more-stands r n target.name walk.index (recurrence m walk.initial (body (scenery_of r env)) parts.0) (standing.Stream (record { operand = Eq (length k.body.equations); signed = false }) walk.initial) env p.streams (recurrence-numbered r n sampled target width init e f s t p none walk set_alone env fits numbers calls front_all parts.0 wide (subst (λ v. v ≤ 128) (sym wide) has.greatest)) numbers.at }

-- ---- statements, one after the other
abbrev stmts_of : (r : Run) (n : ℕ) → List (ProvedStmt (ChangeNumbers r n)) → List Stmt
stmts_of r n ps = map (λ (p : ProvedStmt (ChangeNumbers r n)). p.0) ps

set-next : (f : Frame) (past part : Bool) (fits : Scenery → List ℕ → Type 0) (t : Streaming) (p q : Progress) (g : Scenery → Option Streams) → AreSet f past p → ChangeAgrees f.own part fits (λ (x : Scenery). x.samples) t p.equations q g → AreSet f past q
set-next f past part fits t p q g set change = record { visible = set.visible; standing = change.standing; lone = set.lone; formed = change.grown.formed }

some-then : {A B : Type 0} (g : A → Option B) (o : Option A) (b : B) → option_and_then g o ≡ Some b → (a : A) × (o ≡ Some a) × (g a ≡ Some b)
some-then g None b is = cc
some-then g (Some a) b is = (a, refl, is)

list-numbers : (r : Run) (n : ℕ) → IsSampled r n → (ps : List (ProvedStmt (ChangeNumbers r n))) (f : Frame) (past : Bool) (s t : scope.Progress) (p : Progress) → AllChange (stmts_of r n ps) f.walk f.inside s t → AreSet f past p → (scope.stmts_past_of (stmts_of r n ps) f.walk ≡ true → past ≡ true) → (env : Streams) → Fits s.streams None p.streams (scenery_of r env) r.widths → HaveNumbers r n env p.streams → HaveCalls r f.walk f.meanings f.inlined → Appends (changed.changes_of (stmts_of r n ps) (for_equations f) p).equations r.equations → (after : Streams) → meant_by.changes_of (stmts_of r n ps) (for_meaning f) (length r.samples) env ≡ Some after → HaveNumbers r n after (changed.changes_of (stmts_of r n ps) (for_equations f) p).streams
list-numbers r n sampled [] f past s t p walk set implied env fits numbers calls front after is = subst (λ (x : Streams). HaveNumbers r n x p.streams) (same_Some env after is) numbers
list-numbers r n sampled (x ∷ ps) f past s t p walk set implied env fits numbers calls front after is =
    let m = length r.samples in
    let here = scope.stmt_past_of x.0 f.walk in
    let others = scope.stmts_past_of (stmts_of r n ps) f.walk in
    let q = changed.change_of x.0 (for_equations f) p in
    let mean : Scenery → Option Streams = λ y. meant_by.change_of x.0 (for_meaning f) y.samples y.env in
    let set_here = set-part f past here p (or-first here others past implied) set in
    let one = change-agrees x.0 f s walk.0 p walk.1 set_here in
    let set_there = set-next f past here (Fits s.streams None p.streams) walk.0.streams p q mean set one in
    let implied_there : others ≡ true → past ≡ true = or-rest here others past implied in
    let rest = changes-agree (stmts_of r n ps) f past walk.0 t q walk.2 set_there implied_there in
    let front_here = appends-both q.equations (changed.changes_of (stmts_of r n ps) (for_equations f) q).equations r.equations rest.grown.appends front in
    let parts = some-then (meant_by.changes_of (stmts_of r n ps) (for_meaning f) m) (meant_by.change_of x.0 (for_meaning f) m env) after is in
    let found = one.found (scenery_of r env) r.widths fits (have-before q.equations r.equations r.widths front_here sampled.have) in
    let same : found.env ≡ parts.0 = same_Some found.env parts.0 (sym found.are ∙ parts.1) in
    let fits_there : Fits walk.0.streams None q.streams (scenery_of r parts.0) r.widths = subst (λ (e : Streams). Fits walk.0.streams None q.streams (scenery_of r e) r.widths) same found.fits in
    let numbers_there = x.1 f s walk.0 p walk.1 set_here env fits numbers calls front_here parts.0 parts.1 in
    list-numbers r n sampled ps f past walk.0 t q walk.2 set_there implied_there parts.0 fits_there numbers_there calls front after parts.2

-- one more name, of no function
pub calls-static : (r : Run) (walk : Known) (meanings : List ℕ → Option Function) (inlined : List ℕ → Option Inlined) (name : List ℕ) (what : Static) → is_function what ≡ false → HaveCalls r walk meanings inlined → HaveCalls r (bind name what walk) meanings inlined
calls-static r walk meanings inlined name what plainly calls = record { at = λ q f meant making is. calls.at q f meant making (outside (bytes_eq name q) (walk q) f is) } where
  outside : (c : Bool) (o : Option Static) (f : Callee) → cond c (Some what) o ≡ Some (static.Function f) → o ≡ Some (static.Function f)
  outside true o f is = let same : what ≡ static.Function f = same_Some what (static.Function f) is in absurd (true≢false (sym (ap is_function same) ∙ plainly))
  outside false o f is = is

-- ---- loops
abbrev turn_made : Frame → List ℕ → List Stmt → ℕ → Progress → Progress
turn_made f index xs at = changed.changes_of xs (changed.with_index index at (for_equations f))

abbrev turn_meant : Frame → List ℕ → List Stmt → ℕ → ℕ → Streams → Option Streams
turn_meant f index xs m at = meant_by.changes_of xs (meant_by.with_known index at (for_meaning f)) m

turn-agrees : (xs : List Stmt) (f : Frame) (past : Bool) (index : List ℕ) (at : ℕ) (s t : scope.Progress) (p : Progress) → f.walk index ≡ None → (scope.stmts_past_of xs f.walk ≡ true → past ≡ true) → AllChange xs (bind index (static.Index at) f.walk) f.inside s t → AreSet f past p → ChangeAgrees f.own past (Fits s.streams None p.streams) (λ (x : Scenery). x.samples) t.streams p.equations (turn_made f index xs at p) (λ (x : Scenery). turn_meant f index xs x.samples at x.env)
turn-agrees xs f past index at s t p unknown implied walk set = changes-agree xs (at_index f index at) past s t p walk (set-index f past p index at set) (λ is. implied (sym (turn-past xs f.walk index at unknown) ∙ is))

-- the equations of turns stand after those before them
turns-front : (xs : List Stmt) (f : Frame) (past : Bool) (index : List ℕ) → f.walk index ≡ None → (scope.stmts_past_of xs f.walk ≡ true → past ≡ true) → (k at : ℕ) (s t : scope.Progress) (p : Progress) → AllTurns k at index xs f.walk f.inside s t → AreSet f past p → Appends p.equations (changed.turns k at (turn_made f index xs) p).equations
turns-front xs f past index unknown implied zero at s t p walk set = appends-nothing p.equations
turns-front xs f past index unknown implied (suc k) at s t p walk set =
    let q = turn_made f index xs at p in
    let begin : scope.Progress = record { streams = s.streams; count = walk.0 } in
    let one = turn-agrees xs f past index at begin walk.1 p unknown implied walk.2 set in
    let after = set-next f past past (Fits s.streams None p.streams) walk.1.streams p q (λ (x : Scenery). turn_meant f index xs x.samples at x.env) set one in
    appends-both p.equations q.equations (changed.turns k (at + 1) (turn_made f index xs) q).equations one.grown.appends (turns-front xs f past index unknown implied k (at + 1) walk.1 t q walk.3 after)

turns-numbers : (r : Run) (n : ℕ) → IsSampled r n → (ps : List (ProvedStmt (ChangeNumbers r n))) (f : Frame) (past : Bool) (index : List ℕ) → f.walk index ≡ None → (scope.stmts_past_of (stmts_of r n ps) f.walk ≡ true → past ≡ true) → HaveCalls r f.walk f.meanings f.inlined → (k at : ℕ) (s t : scope.Progress) (p : Progress) → AllTurns k at index (stmts_of r n ps) f.walk f.inside s t → AreSet f past p → (env : Streams) → Fits s.streams None p.streams (scenery_of r env) r.widths → HaveNumbers r n env p.streams → Appends (changed.turns k at (turn_made f index (stmts_of r n ps)) p).equations r.equations → (after : Streams) → meant_by.turns k at (turn_meant f index (stmts_of r n ps) (length r.samples)) env ≡ Some after → HaveNumbers r n after (changed.turns k at (turn_made f index (stmts_of r n ps)) p).streams
turns-numbers r n sampled ps f past index unknown implied calls zero at s t p walk set env fits numbers front after is = subst (λ (x : Streams). HaveNumbers r n x p.streams) (same_Some env after is) numbers
turns-numbers r n sampled ps f past index unknown implied calls (suc k) at s t p walk set env fits numbers front after is =
    let m = length r.samples in
    let xs = stmts_of r n ps in
    let q = turn_made f index xs at p in
    let begin : scope.Progress = record { streams = s.streams; count = walk.0 } in
    let one = turn-agrees xs f past index at begin walk.1 p unknown implied walk.2 set in
    let set_there = set-next f past past (Fits s.streams None p.streams) walk.1.streams p q (λ (x : Scenery). turn_meant f index xs x.samples at x.env) set one in
    let front_here = appends-both q.equations (changed.turns k (at + 1) (turn_made f index xs) q).equations r.equations (turns-front xs f past index unknown implied k (at + 1) walk.1 t q walk.3 set_there) front in
    let parts = some-then (meant_by.turns k (at + 1) (turn_meant f index xs m)) (turn_meant f index xs m at env) after is in
    let found = one.found (scenery_of r env) r.widths fits (have-before q.equations r.equations r.widths front_here sampled.have) in
    let same : found.env ≡ parts.0 = same_Some found.env parts.0 (sym found.are ∙ parts.1) in
    let fits_there : Fits walk.1.streams None q.streams (scenery_of r parts.0) r.widths = subst (λ (e : Streams). Fits walk.1.streams None q.streams (scenery_of r e) r.widths) same found.fits in
    let numbers_there = list-numbers r n sampled ps (at_index f index at) past begin walk.1 p walk.2 (set-index f past p index at set) (λ h. implied (sym (turn-past xs f.walk index at unknown) ∙ h)) env fits numbers (calls-static r f.walk f.meanings f.inlined index (static.Index at) refl calls) front_here parts.0 parts.1 in
    turns-numbers r n sampled ps f past index unknown implied calls k (at + 1) walk.1 t q walk.3 set_there parts.0 fits_there numbers_there front after parts.2

for-numbers : (r : Run) (n : ℕ) → IsSampled r n → (index : List ℕ) (low high : Fixed) (ps : List (ProvedStmt (ChangeNumbers r n))) (f : Frame) (s t : scope.Progress) (p : Progress) → ForWalk index low high (stmts_of r n ps) f.walk f.inside s t → AreSet f (scope.stmts_past_of (stmts_of r n ps) f.walk) p → (env : Streams) → Fits s.streams None p.streams (scenery_of r env) r.widths → HaveNumbers r n env p.streams → HaveCalls r f.walk f.meanings f.inlined → Appends (changed.turns (constant high f.known - constant low f.known) (constant low f.known) (turn_made f index (stmts_of r n ps)) p).equations r.equations → (after : Streams) → option_and_then (λ from. option_and_then (λ to. meant_by.turns (to - from) from (turn_meant f index (stmts_of r n ps) (length r.samples)) env) (result_ok (constant_of high f.known))) (result_ok (constant_of low f.known)) ≡ Some after → HaveNumbers r n after (changed.turns (constant high f.known - constant low f.known) (constant low f.known) (turn_made f index (stmts_of r n ps)) p).streams
for-numbers r n sampled index low high ps f s t p walk set env fits numbers calls front after is =
    let m = length r.samples in
    let xs = stmts_of r n ps in
    let same = set.visible.same in
    let begin : scope.Progress = record { streams = s.streams; count = walk.begin } in
    let gives : meant_by.turns (walk.to - walk.from) walk.from (turn_meant f index xs m) env ≡ Some after = sym (λ i. option_and_then (λ from. option_and_then (λ to. meant_by.turns (to - from) from (turn_meant f index xs m) env) (constant-meant f.walk f.known same high walk.to walk.high_is i)) (constant-meant f.walk f.known same low walk.from walk.low_is i)) ∙ is in
    let made_as : changed.turns (constant high f.known - constant low f.known) (constant low f.known) (turn_made f index xs) p ≡ changed.turns (walk.to - walk.from) walk.from (turn_made f index xs) p = (λ i. changed.turns (constant-made f.walk f.known same high walk.to walk.high_is i - constant-made f.walk f.known same low walk.from walk.low_is i) (constant-made f.walk f.known same low walk.from walk.low_is i) (turn_made f index xs) p) in
    let front_there = subst (λ (q : Progress). Appends q.equations r.equations) made_as front in
    subst (λ (q : Progress). HaveNumbers r n after q.streams) (sym made_as) (turns-numbers r n sampled ps f (scope.stmts_past_of xs f.walk) index walk.unknown (λ h. h) calls (walk.to - walk.from) walk.from begin t p walk.turns set env fits numbers front_there after gives)

change-layer : (r : Run) (n : ℕ) → IsSampled r n → (y : Stmt-F (ProvedStmt (ChangeNumbers r n))) → StmtLayer (ChangeNumbers r n) y
change-layer r n sampled (Stmt-F.Let target width e) f s t p walk set env fits numbers calls front after is = let-numbers r n sampled target width e f s t p (let-inverted target width e f.walk f.inside s t walk) set env fits numbers calls front after is
change-layer r n sampled (Stmt-F.Rec target width init e) f s t p walk set env fits numbers calls front after is = rec-numbers r n sampled target width init e f s t p (rec-inverted target width init e f.walk f.inside s t walk) set env fits numbers calls front after is
change-layer r n sampled (Stmt-F.For index low high body) f s t p walk set env fits numbers calls front after is = for-numbers r n sampled index low high body.items f s t p (for-inverted index low high (stmts_of r n body.items) f.walk f.inside s t walk) set env fits numbers calls front after is

pub change-numbers : (r : Run) (n : ℕ) → IsSampled r n → (x : Stmt) → OfStmt (ChangeNumbers r n) x
change-numbers r n sampled = each-statement (ChangeNumbers r n) (change-layer r n sampled)

-- and statements do, one after the other
pub changes-numbers : (r : Run) (n : ℕ) → IsSampled r n → (xs : List Stmt) (f : Frame) (past : Bool) (s t : scope.Progress) (p : Progress) → AllChange xs f.walk f.inside s t → AreSet f past p → (scope.stmts_past_of xs f.walk ≡ true → past ≡ true) → (env : Streams) → Fits s.streams None p.streams (scenery_of r env) r.widths → HaveNumbers r n env p.streams → HaveCalls r f.walk f.meanings f.inlined → Appends (changed.changes_of xs (for_equations f) p).equations r.equations → (after : Streams) → meant_by.changes_of xs (for_meaning f) (length r.samples) env ≡ Some after → HaveNumbers r n after (changed.changes_of xs (for_equations f) p).streams
changes-numbers r n sampled xs f past s t p walk set implied env fits numbers calls front after is = subst P (same_stmts xs) (λ walks pasts ahead gives. list-numbers r n sampled (proved xs) f past s t p walks set pasts env fits numbers calls ahead after gives) walk implied front is where
  proved : List Stmt → List (ProvedStmt (ChangeNumbers r n))
  proved ys = map (λ y. (y, change-numbers r n sampled y)) ys

  same_stmts : (ys : List Stmt) → stmts_of r n (proved ys) ≡ ys
  same_stmts [] = refl
  same_stmts (y ∷ ys) = ap (λ zs. y ∷ zs) (same_stmts ys)

  P : List Stmt → Type 0
  P ys = AllChange ys f.walk f.inside s t → (scope.stmts_past_of ys f.walk ≡ true → past ≡ true) → Appends (changed.changes_of ys (for_equations f) p).equations r.equations → meant_by.changes_of ys (for_meaning f) (length r.samples) env ≡ Some after → HaveNumbers r n after (changed.changes_of ys (for_equations f) p).streams
