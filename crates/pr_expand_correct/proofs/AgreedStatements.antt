-- The equations of statements have widths where what they mean has widths.
use mathlib.Core.Path.{fun_ext}
use Rattle.std.proofs.Common.{◌≡◌, ◌∙◌, ◌+◌, ◌-◌, ◌<◌, ◌≤◌, ◌^◌, ℕ, zero, suc, Bool, true, false, cond, ◌&&◌, ◌||◌, nat_lt, nat_le, is_some, List, [], ◌∷◌, map, length, get_or, Option, Some, None, option_map, Ok, refl, sym, ap, subst, arith, inl, inr, bytes_eq}
use Rattle.std.specs.Cmp.Lexicographic.{bytes_decides}
use Rattle.std.specs.Option.{option_and_then, option_map_or, IfSome}
use Rattle.std.specs.Result.{result_ok}
use Rattle.std.proofs.lemmas.Bool.{true≢false, lt-ltb}
use Rattle.std.proofs.lemmas.Option.{same_Some}
use Rattle.pr_lang.specs.declared.trees.Fixed.{Fixed}
use Rattle.pr_lang.specs.declared.trees.Ref.{Ref}
use Rattle.pr_lang.specs.declared.trees.Expr.{Expr}
use Rattle.pr_lang.specs.declared.trees.Stmt.{Stmt}
use Rattle.pr_lang.specs.declared.trees.Stmt.TheOpen.{Stmt-F}
use Rattle.pr_scope_names.specs.declared.counts.Count.{Count}
use Rattle.pr_scope_names.specs.declared.names.Callee.{Callee}
use Rattle.pr_scope_names.specs.declared.names.Static.TheVariants as static
use Rattle.pr_scope_names.specs.declared.streams.Instance.{Instance}
use Rattle.pr_scope_names.specs.Names.{Known, Streaming, bind, held, same_place}
use Rattle.pr_scope_names.specs.Constants.{constant_of}
use Rattle.pr_scope.specs.Expressions.{past_of, walk_of}
use Rattle.pr_scope.specs.declared.expressions.Scene.{Scene}
use Rattle.pr_scope.specs.Statements as scope
use Rattle.pr_flat.specs.declared.equations.Operand.{Operand}
use Rattle.pr_flat.specs.declared.equations.Operand.TheVariants.{Const, Eq, Past}
use Rattle.pr_flat.specs.declared.equations.Op.TheVariants as op
use Rattle.pr_flat.specs.declared.forms.Form.{Form}
use Rattle.pr_flat.specs.Forms.{Stream, least_from}
use Rattle.pr_flat.specs.Shape.{EquationShape}
use Rattle.pr_flat.specs.Facts.{is_width}
use Rattle.pr_lang_meaning.specs.Streams.{Bound, Streams, assigned, fitted, form_of, operate_on, part, sources, with_bound, with_stream}
use Rattle.pr_lang_meaning.specs.Expressions.{Function, meaning}
use Rattle.pr_lang_meaning.specs.Expressions as meant
use Rattle.pr_lang_meaning.specs.Statements as meant_by
use Rattle.pr_expand_spec.specs.declared.givens.Given.{Given}
use Rattle.pr_expand_spec.specs.declared.givens.Standing.{Standing}
use Rattle.pr_expand_spec.specs.declared.givens.Standing.TheVariants as stands
use Rattle.pr_expand_spec.specs.Making.{Equations, Expanded, made, constant, lawful, with_equation}
use Rattle.pr_expand_spec.specs.Making as making
use Rattle.pr_expand_spec.specs.Expressions.{Inlined, declared_at_operator, declared_else, place, plan_of}
use Rattle.pr_expand_spec.specs.Expressions as made_by
use Rattle.pr_expand_spec.specs.Statements.{Progress, body_made, named, number_after, with_standing}
use Rattle.pr_expand_spec.specs.Statements as changed
use Rattle.pr_scope_facts.proofs.Appending.{appends-length}
use Rattle.pr_scope_facts.proofs.Statics.{constant-meant, constant-made, place-meant, place-made}
use Rattle.pr_scope_facts.proofs.InvertedStatements.{Introduces, LetWalk, RecWalk, ForWalk, AllChange, AllTurns, let-inverted, rec-inverted, for-inverted, width-lawful, width-greatest}
use Rattle.pr_scope_facts.proofs.Inductions.{StmtFact, OfStmt, ProvedStmt, StmtLayer, each-statement}
use Rattle.pr_scope_facts.proofs.Worlds.{SameVisible, visible-index}
use Rattle.pr_scope_facts.proofs.NoRecurrence.{Calm, IsCalm, QuietBody, StandsStill, calm-visible, quiet-body, settled-is}
use Rattle.pr_scope_facts.proofs.Numbering.{IsStill}
use Rattle.pr_scope_facts.proofs.Pasts.{turn-past}
use Rattle.pr_expand_correct.proofs.Related.{Have, IsWithin, AreFormed, IsAhead, IsFound, AreExtended, IsGrown, Agrees, AllAgree, StandsFor, Scenery, Fits, IsStanding, AreStanding, IsFunction, AreVisible}
use Rattle.pr_expand_correct.proofs.Keeping.{formed-open, length-push, kept-outside, outside-both, outside-nowhere, have-before}
use Rattle.pr_expand_correct.proofs.Forms.{IsLawful}
use Rattle.pr_expand_correct.proofs.Combining.{Keeps, agrees-operator, ahead-less, grown-both, grown-nothing}
use Rattle.pr_expand_correct.proofs.Texts.{Setting, seen_by_equations, seen_by_meaning, FitsIn, IsCalmIn, IsReady, under, agrees-part, agrees-same, fits-kept, ready-keeps, standings-more, implied-false}
use Rattle.pr_expand_correct.proofs.AgreedExpressions.{agrees-calmer, expression-agrees, or-first, or-rest}
use Rattle.pr_expand_correct.proofs.Recurrences.{Work, choice-stands, IsWork, all_equations, begun, declared-extended, declared-found, declared-width, open-extended, open-found, open-greatest, own-grown, own_equation}

-- ---- streams of the same form
-- what is given matches any stream of the form
pub agrees-alike : {X : Type 0} (own : Option ℕ) (calm : Type 0) (fits : X → List ℕ → Type 0) (old : List EquationShape) (m : Expanded) (f g : X → Option Stream) → ((x : X) → option_map form_of (f x) ≡ option_map form_of (g x)) → Agrees own calm fits old m f → Agrees own calm fits old m g
agrees-alike {X} own calm fits old m f g alike agrees = record {
  grown = agrees.grown;
  within = agrees.within;
  found = λ x widths fit have. found widths (f x) (g x) (alike x) (agrees.found x widths fit have);
  extended = λ x widths s fit have ahead is. let t = other (f x) (g x) s (alike x) is in agrees.extended x widths t.0 fit have ahead t.1;
} where
  found : (widths : List ℕ) (a b : Option Stream) → option_map form_of a ≡ option_map form_of b → IsFound widths m.given a → IsFound widths m.given b
  found widths None b same here = absurd (let none = here.is in cc)
  found widths (Some s) None same here = cc
  found widths (Some s) (Some t) same here =
      let first : s ≡ here.stream = same_Some s here.stream here.is in
      let forms : t.form ≡ here.stream.form = sym (same_Some s.form t.form same) ∙ ap form_of first in
      record { stream = t; is = refl; matches = record { form = forms ∙ here.matches.form; greatest = subst (λ (q : Form). q.width ≤ 128) (sym forms) here.matches.greatest } }

  other : (a b : Option Stream) (s : Stream) → option_map form_of a ≡ option_map form_of b → b ≡ Some s → (t : Stream) × (a ≡ Some t)
  other None None s same is = cc
  other None (Some t) s same is = cc
  other (Some r) b s same is = (r, refl)

one-list : {X : Type 0} (own : Option ℕ) (calm : Type 0) (fits : X → List ℕ → Type 0) (old : List EquationShape) (m : Expanded) (f : X → Option Stream) → Agrees own calm fits old m f → AllAgree own calm fits old (record { equations = m.equations; given = m.given ∷ [] }) (λ x. option_map (λ s. s ∷ []) (f x))
one-list {X} own calm fits old m f agrees = record {
  grown = agrees.grown;
  within = (agrees.within, tt);
  found = λ x widths fit have. let here = agrees.found x widths fit have in record { streams = here.stream ∷ []; are = ap (option_map (λ s. s ∷ [])) here.is; match = (here.matches, tt) };
  extended = λ x widths ss fit have ahead is. let s = some_of (f x) ss is in agrees.extended x widths s.0 fit have ahead s.1;
} where
  some_of : (o : Option Stream) (ss : List Stream) → option_map (λ s. s ∷ []) o ≡ Some ss → (s : Stream) × (o ≡ Some s)
  some_of None ss is = cc
  some_of (Some s) ss is = (s, refl)

-- the same under a declared width
pub agrees-fitted : {X : Type 0} (own : Option ℕ) (calm : Type 0) (fits : X → List ℕ → Type 0) (old : List EquationShape) (w : ℕ) (m : Expanded) (f : X → Option Stream) → Keeps (length old) own fits → is_width w ≡ true → Agrees own calm fits old m f → Agrees own calm fits old (making.fitted w m.given m.equations) (λ x. option_map (fitted w) (f x))
agrees-fitted own calm fits old w m f keeps is agrees = agrees-alike own calm fits old (making.fitted w m.given m.equations) (λ x. assigned (Some w) (option_and_then (operate_on 0 op.Fit) (option_map (λ s. s ∷ []) (f x)))) (λ x. option_map (fitted w) (f x)) (λ x. alike (f x)) (agrees-operator own calm fits old (record { equations = m.equations; given = m.given ∷ [] }) (λ x. option_map (λ s. s ∷ []) (f x)) (λ x. 0) op.Fit (Some w) keeps (one-list own calm fits old m f agrees) refl is) where
  alike : (o : Option Stream) → option_map form_of (assigned (Some w) (option_and_then (operate_on 0 op.Fit) (option_map (λ s. s ∷ []) o))) ≡ option_map form_of (option_map (fitted w) o)
  alike None = ap (λ c. option_map form_of (cond c None None)) is
  alike (Some s) = ap (λ c. option_map form_of (cond c (Some (fitted w (operated s))) None)) is where
    operated : Stream → Stream
    operated r = record { form = record { signed = r.form.signed; width = r.form.width }; numbers = [] }

-- ---- what is assigned
agrees-declared : {X : Type 0} (own : Option ℕ) (calm : Type 0) (fits : X → List ℕ → Type 0) (old : List EquationShape) (b : Bool) (width : Option ℕ) (m : Expanded) (f : X → Option Stream) → Keeps (length old) own fits → IsLawful width → Agrees own calm fits old (declared_at_operator b width m) (λ x. under b width (f x)) → Agrees own calm fits old (declared_else b width (declared_at_operator b width m)) (λ x. assigned width (f x))
agrees-declared own calm fits old true width m f keeps lawful agrees = agrees
agrees-declared own calm fits old false None m f keeps lawful agrees = agrees-part own calm fits old false m f agrees
agrees-declared own calm fits old false (Some w) m f keeps lawful agrees = agrees-same own calm fits old (making.fitted w m.given m.equations) (making.fitted w m.given m.equations) (λ x. option_map (fitted w) (f x)) (λ x. assigned (Some w) (f x)) refl (λ x. ap (λ c. cond c (option_map (fitted w) (f x)) None) lawful) (agrees-fitted own calm fits old w m f keeps lawful agrees)

pub lawful-of : (width : Option ℕ) → scope.is_width width ≡ true → IsLawful width
lawful-of None is = tt
lawful-of (Some w) is = is

pub agrees-assigned : (e : Expr) (t : Setting) (es : Equations) (c d : Count) (width : Option ℕ) → walk_of e t.walk t.streaming t.scene c ≡ Ok d → IsReady t (past_of e t.walk) es → scope.is_width width ≡ true → Agrees t.own (IsCalmIn t (past_of e t.walk)) (FitsIn t) es (made_by.assigned width e (seen_by_equations t) t.standings es) (λ (x : Scenery). assigned width (meaning e (seen_by_meaning t) x.samples (sources x.samples x.env)))
agrees-assigned e t es c d width walk ready is =
    let past = past_of e t.walk in
    let m = (plan_of e).making (seen_by_equations t) t.standings es in
    let b = (plan_of e).is_operator in
    let f : Scenery → Option Stream = λ x. meaning e (seen_by_meaning t) x.samples (sources x.samples x.env) in
    let here = agrees-declared t.own (IsCalmIn t past) (FitsIn t) es b width m f (ready-keeps t past es ready) (lawful-of width is) (expression-agrees e t es c d width walk ready (lawful-of width is)) in
    subst (λ w. Agrees t.own (IsCalmIn t past) (FitsIn t) es (declared_else b w (declared_at_operator b w m)) (λ x. assigned width (f x))) (sym (width-lawful width is)) here

-- ---- what is visible
abbrev pub FunctionFact : Callee → Function → Inlined → Type 0
FunctionFact f g h = IsFunction f.past f.params g h

pub visible-same : (walk known : Known) (meanings : List ℕ → Option Function) (inlined : List ℕ → Option Inlined) → AreVisible walk known meanings inlined → SameVisible FunctionFact walk (record { known = known; functions = meanings }) (record { known = known; functions = inlined })
visible-same walk known meanings inlined visible = record {
  meant = visible.same;
  same = refl;
  functions = λ name f is. let c = visible.calls name f is in record { function = c.function; inlined = c.making; meant = c.meant_is; made = c.inlined_is; fact = c.does };
}

pub same-visible : (walk : Known) (v : meant.Visible) (u : made_by.Visible) → SameVisible FunctionFact walk v u → AreVisible walk v.known v.functions u.functions
same-visible walk v u same = record {
  same = same.meant;
  calls = λ name f is. let c = same.functions name f is in record { function = c.function; making = c.inlined; meant_is = c.meant; inlined_is = c.made; does = c.fact };
}

visible-indexed : (walk known : Known) (meanings : List ℕ → Option Function) (inlined : List ℕ → Option Inlined) (index : List ℕ) (at : ℕ) → AreVisible walk known meanings inlined → AreVisible (bind index (static.Index at) walk) (bind index (static.Index at) known) meanings inlined
visible-indexed walk known meanings inlined index at visible = same-visible (bind index (static.Index at) walk) (record { known = bind index (static.Index at) known; functions = meanings }) (record { known = bind index (static.Index at) known; functions = inlined }) (visible-index FunctionFact walk (record { known = known; functions = meanings }) (record { known = known; functions = inlined }) index at (visible-same walk known meanings inlined visible))

pub calm-known : (walk known : Known) (meanings : List ℕ → Option Function) (inlined : List ℕ → Option Inlined) → AreVisible walk known meanings inlined → Calm walk (record { known = known; functions = inlined })
calm-known walk known meanings inlined visible = calm-visible walk (record { known = known; functions = inlined }) visible.same (λ name f is none. let c = visible.calls name f is in subst (λ o. IfSome o IsCalm) (sym c.inlined_is) (c.does.calm none))

-- ---- statements
-- the names that statements see, and the recurrence in work
pub record Frame : Type 0 where
  pub walk : Known
  pub known : Known
  pub meanings : List ℕ → Option Function
  pub inlined : List ℕ → Option Inlined
  pub inside : Bool
  pub own : Option ℕ

abbrev pub for_meaning : Frame → meant.Visible
for_meaning f = record { known = f.known; functions = f.meanings }

abbrev pub for_equations : Frame → made_by.Visible
for_equations f = record { known = f.known; functions = f.inlined }

-- equations and names are as statements with such a past need them
pub record AreSet (f : Frame) (past : Bool) (p : Progress) : Type 0 where
  pub visible : AreVisible f.walk f.known f.meanings f.inlined
  pub standing : AreStanding (length p.equations) f.own f.own None p.streams
  pub lone : past ≡ true → f.own ≡ None
  pub formed : AreFormed f.own p.equations

-- streams after a statement, which fit what it makes
pub record AreStreams (widths : List ℕ) (streaming : Streaming) (standings : made_by.Streams) (samples : ℕ) (o : Option Streams) : Type 0 where
  pub env : Streams
  pub are : o ≡ Some env
  pub fits : Fits streaming None standings (record { samples = samples; env = env }) widths

-- What a statement makes beside what it means.
pub record ChangeAgrees {X : Type 0} (own : Option ℕ) (past : Bool) (fits : X → List ℕ → Type 0) (samples : X → ℕ) (t : Streaming) (old : Equations) (q : Progress) (meant : X → Option Streams) : Type 0 where
  pub grown : IsGrown own (past ≡ false) old q.equations
  pub standing : AreStanding (length q.equations) own own None q.streams
  pub found : (x : X) (widths : List ℕ) → fits x widths → Have q.equations widths → AreStreams widths t q.streams (samples x) (meant x)
  pub extended : (x : X) (widths : List ℕ) (env : Streams) → fits x widths → Have old widths → IsAhead (length q.equations) own → meant x ≡ Some env → AreExtended old q.equations widths

-- ---- names that are introduced
held-after : (here : Bool) (index place : Option ℕ) (own o : Option (Option ℕ → Bool)) (b : Bound) (e : Option Bound) → (here ≡ true → own ≡ o) → (held o place ≡ true → is_some e ≡ true) → held (cond here (Some (λ q. same_place index q || held own q)) o) place ≡ true → is_some (cond (here && same_place index place) (Some b) e) ≡ true
held-after false index place own o b e same old there = old there
held-after true index place own o b e same old there = by_place (same_place index place) there where
  by_place : (c : Bool) → (c || held own place) ≡ true → is_some (cond c (Some b) e) ≡ true
  by_place true is = refl
  by_place false is = old (subst (λ x. held x place ≡ true) (same refl) is)

pub fits-bound : (name : List ℕ) (index : Option ℕ) (walk : Known) (s t : Streaming) (standings : made_by.Streams) (samples : ℕ) (env : Streams) (widths : List ℕ) (b : Bound) (st : Standing) → Introduces name index walk s t → StandsFor widths (Some b) (Some st) → Fits s None standings (record { samples = samples; env = env }) widths → Fits t None (with_standing name index st standings) (record { samples = samples; env = with_bound name index b env }) widths
fits-bound name index walk s t standings samples env widths b st introduces new fits = record {
  stands = λ q r. choice-stands widths (bytes_eq name q && same_place index r) b (env q r) st (standings q r) new (fits.stands q r);
  assigned = λ q r there. held-after (bytes_eq name q) index r (s name) (s q) b (env q r) (λ y. ap s ((bytes_decides name q).0 y)) (fits.assigned q r) (sym (ap (λ (u : Streaming). held (u q) r) introduces.now) ∙ there);
  own = λ q r own. cc;
}

pub standing-bound : (name : List ℕ) (index : Option ℕ) (m n : ℕ) (own : Option ℕ) (standings : made_by.Streams) (g : Given) (init : ℕ) → m ≤ n → IsWithin n own g.operand → AreStanding m own own None standings → AreStanding n own own None (with_standing name index (stands.Stream g init) standings)
standing-bound name index m n own standings g init low within are = record {
  each = λ q r. each (bytes_eq name q && same_place index r) (standings q r) ((standings-more m n own own None standings low are).each q r);
  alone = λ q r rec is. alone (bytes_eq name q && same_place index r) (standings q r) rec is (are.alone q r rec);
} where
  each : (c : Bool) (o : Option Standing) → IsStanding n own own o → IsStanding n own own (cond c (Some (stands.Stream g init)) o)
  each true o old = within
  each false o old = old

  alone : (c : Bool) (o : Option Standing) (rec : ℕ) → cond c (Some (stands.Stream g init)) o ≡ Some (stands.Own rec) → (o ≡ Some (stands.Own rec) → false ≡ true) → false ≡ true
  alone true o rec is old = cc
  alone false o rec is old = old is

pub map-some : {A B : Type 0} (f : A → B) (o : Option A) (b : B) → option_map f o ≡ Some b → (a : A) × (o ≡ Some a)
map-some f None b is = cc
map-some f (Some a) b is = (a, refl)

-- a stream is assigned to a name
named-agrees : (own : Option ℕ) (past : Bool) (name : List ℕ) (index : Option ℕ) (walk : Known) (s t : Streaming) (p : Progress) (m : Expanded) (g : Scenery → Option Stream) → Introduces name index walk s t → AreStanding (length p.equations) own own None p.streams → Agrees own (past ≡ false) (Fits s None p.streams) p.equations m g → ChangeAgrees own past (Fits s None p.streams) (λ (x : Scenery). x.samples) t p.equations (named name index p.streams m) (λ (x : Scenery). option_map (λ y. with_stream name index y x.env) (g x))
named-agrees own past name index walk s t p m g introduces standing agrees = record {
  grown = agrees.grown;
  standing = standing-bound name index (length p.equations) (length m.equations) own p.streams m.given 0 (appends-length p.equations m.equations agrees.grown.appends) agrees.within standing;
  found = λ x widths fit have.
      let here = agrees.found x widths fit have in
      record {
        env = with_stream name index here.stream x.env;
        are = ap (option_map (λ y. with_stream name index y x.env)) here.is;
        fits = fits-bound name index walk s t p.streams x.samples x.env widths (record { init = 0; stream = here.stream }) (stands.Stream m.given 0) introduces (record { init_same = refl; matches = here.matches }) fit;
      };
  extended = λ x widths env fit have ahead is. let y = map-some (λ y. with_stream name index y x.env) (g x) env is in agrees.extended x widths y.0 fit have ahead y.1;
}

-- ---- one change after another
pub set-keeps : (f : Frame) (past : Bool) (p : Progress) (s : Streaming) → AreSet f past p → Keeps (length p.equations) f.own (Fits s None p.streams)
set-keeps f past p s set = fits-kept (length p.equations) f.own f.own s None p.streams (inr refl) set.standing

pub changes-both : {X : Type 0} (own : Option ℕ) (past : Bool) (fits : X → List ℕ → Type 0) (samples : X → ℕ) (t u : Streaming) (old : Equations) (q r : Progress) (g : X → Option Streams) (h : Scenery → Option Streams) → Keeps (length old) own fits → ChangeAgrees own past fits samples t old q g → ChangeAgrees own past (Fits t None q.streams) (λ (y : Scenery). y.samples) u q.equations r h → ChangeAgrees own past fits samples u old r (λ x. option_and_then (λ env. h (record { samples = samples x; env = env })) (g x))
changes-both {X} own past fits samples t u old q r g h keeps first second = record {
  grown = grown-both own (past ≡ false) old q.equations r.equations first.grown second.grown;
  standing = second.standing;
  found = λ x widths fit have.
      let here = first.found x widths fit (have-before q.equations r.equations widths second.grown.appends have) in
      let next = second.found (record { samples = samples x; env = here.env }) widths here.fits have in
      record { env = next.env; are = ap (option_and_then (λ env. h (record { samples = samples x; env = env }))) here.are ∙ next.are; fits = next.fits };
  extended = λ x widths env fit have ahead is. by_first x widths env (g x) fit have ahead refl is;
} where
  low : length old ≤ length q.equations
  low = appends-length old q.equations first.grown.appends

  high : length q.equations ≤ length r.equations
  high = appends-length q.equations r.equations second.grown.appends

  by_first : (x : X) (widths : List ℕ) (env : Streams) (o : Option Streams) → fits x widths → Have old widths → IsAhead (length r.equations) own → g x ≡ o → option_and_then (λ env. h (record { samples = samples x; env = env })) o ≡ Some env → AreExtended old r.equations widths
  by_first x widths env None fit have ahead same is = cc
  by_first x widths env (Some between) fit have ahead same is =
      let near = ahead-less (length q.equations) (length r.equations) own high ahead in
      let here = first.extended x widths between fit have near same in
      let fit_after = keeps.at x widths here.others (kept-outside (length old) (length q.equations) own widths here.others here.same near) fit in
      let met = first.found x here.others fit_after here.have in
      let one : met.env ≡ between = same_Some met.env between (sym met.are ∙ same) in
      let fits_between = subst (λ e. Fits t None q.streams (record { samples = samples x; env = e }) here.others) one met.fits in
      let others = second.extended (record { samples = samples x; env = between }) here.others env fits_between here.have ahead is in
      record {
        others = others.others;
        same = outside-both (length old) (length q.equations) (length r.equations) widths here.others others.others low high here.same others.same;
        have = others.have;
      }

change-nothing : (own : Option ℕ) (past : Bool) (s : Streaming) (p : Progress) → AreFormed own p.equations → AreStanding (length p.equations) own own None p.streams → ChangeAgrees own past (Fits s None p.streams) (λ (x : Scenery). x.samples) s p.equations p (λ (x : Scenery). Some x.env)
change-nothing own past s p formed standing = record {
  grown = grown-nothing own (past ≡ false) p.equations formed;
  standing = standing;
  found = λ x widths fit have. record { env = x.env; are = refl; fits = fit };
  extended = λ x widths env fit have ahead is. record { others = widths; same = outside-nowhere (length p.equations) (length p.equations) widths; have = have };
}

change-calmer : {X : Type 0} (own : Option ℕ) (part past : Bool) (fits : X → List ℕ → Type 0) (samples : X → ℕ) (t : Streaming) (old : Equations) (q : Progress) (g : X → Option Streams) → (part ≡ true → past ≡ true) → ChangeAgrees own part fits samples t old q g → ChangeAgrees own past fits samples t old q g
change-calmer own part past fits samples t old q g implied change = record {
  grown = record { appends = change.grown.appends; formed = change.grown.formed; calm_kept = λ none. change.grown.calm_kept (implied-false part past implied none) };
  standing = change.standing;
  found = change.found;
  extended = change.extended;
}

pub set-part : (f : Frame) (past part : Bool) (p : Progress) → (part ≡ true → past ≡ true) → AreSet f past p → AreSet f part p
set-part f past part p implied set = record { visible = set.visible; standing = set.standing; lone = λ is. set.lone (implied is); formed = set.formed }

pub set-after : {X : Type 0} (f : Frame) (past : Bool) (fits : X → List ℕ → Type 0) (samples : X → ℕ) (t : Streaming) (old : Equations) (p q : Progress) (g : X → Option Streams) → AreSet f past p → ChangeAgrees f.own past fits samples t old q g → AreSet f past q
set-after f past fits samples t old p q g set change = record { visible = set.visible; standing = change.standing; lone = set.lone; formed = change.grown.formed }

-- ---- assignments
abbrev pub setting : Frame → Streaming → made_by.Streams → Setting
setting f streaming standings = record {
  walk = f.walk;
  known = f.known;
  meanings = f.meanings;
  inlined = f.inlined;
  streaming = streaming;
  scene = record { own = None; inside = f.inside };
  standings = standings;
  seen = f.own;
  own = f.own;
}

pub set-ready : (f : Frame) (past : Bool) (p : Progress) (streaming : Streaming) → AreSet f past p → IsReady (setting f streaming p.streams) past p.equations
set-ready f past p streaming set = record {
  visible = set.visible;
  standing = set.standing;
  clear = record { seen_own = inr refl; unseen = set.lone; lone = λ is alone. set.lone is };
  formed = set.formed;
}

pub let-agrees : (f : Frame) (target : Ref) (width : Option ℕ) (e : Expr) (s t : scope.Progress) (p : Progress) → LetWalk target width e f.walk f.inside s t → AreSet f (past_of e f.walk) p → ChangeAgrees f.own (past_of e f.walk) (Fits s.streams None p.streams) (λ (x : Scenery). x.samples) t.streams p.equations (changed.let_change target width e (for_equations f) p) (λ (x : Scenery). meant_by.let_change target width e (for_meaning f) x.samples x.env)
let-agrees f target width e s t p walk set =
    let past = past_of e f.walk in
    let same = set.visible.same in
    let m = made_by.assigned width e (for_equations f) p.streams p.equations in
    let g : Scenery → Option Stream = λ x. assigned width (meaning e (for_meaning f) x.samples (sources x.samples x.env)) in
    let value = agrees-assigned e (setting f s.streams p.streams) p.equations walk.begin t.count width walk.walk (set-ready f past p s.streams set) walk.lawful_width in
    let calm = agrees-calmer f.own (IsCalmIn (setting f s.streams p.streams) past) (past ≡ false) (Fits s.streams None p.streams) p.equations m g (λ none. inl none) value in
    let here = named-agrees f.own past target.name walk.index f.walk s.streams t.streams p m g walk.introduces set.standing calm in
    let P : Option ℕ → (Scenery → Option Streams) → Type 0 = λ at h. ChangeAgrees f.own past (Fits s.streams None p.streams) (λ (x : Scenery). x.samples) t.streams p.equations (named target.name at p.streams m) h in
    let meant_as : (x : Scenery) → meant_by.let_change target width e (for_meaning f) x.samples x.env ≡ option_map (λ y. with_stream target.name walk.index y x.env) (g x) = λ x. ap (option_and_then (λ at. option_map (λ y. with_stream target.name at y x.env) (g x))) (place-meant f.walk f.known same target walk.index walk.placed) in
    subst (λ at. P at (λ (x : Scenery). meant_by.let_change target width e (for_meaning f) x.samples x.env)) (sym (place-made f.walk f.known same target walk.index walk.placed)) (subst (P walk.index) (sym (fun_ext meant_as)) here)

-- ---- recurrences
-- what a recurrence makes: its own equation after those of its body, and what its name stands for
abbrev pub recurring : Work → Option ℕ → Progress
recurring k width = record {
  streams = with_standing k.name k.index (stands.Stream (record { operand = Eq (length k.body.equations); signed = false }) k.init) k.standings;
  equations = all_equations k width;
}

-- what it means, where the body means this
abbrev pub Bodies : Type 0
Bodies = Scenery → ℕ → List ℕ → Option Stream

abbrev pub meant_recurrence : Work → Option ℕ → Bodies → Scenery → Option Streams
meant_recurrence k width body x = option_map (λ w. with_bound k.name k.index (meant_by.recurrence x.samples k.init (body x) w) x.env) (meant_by.width_of width k.init (body x))

-- a width that the recurrence has in both
pub record HasWidth (k : Work) (width : Option ℕ) (body : Bodies) (x : Scenery) (widths : List ℕ) : Type 0 where
  pub is : meant_by.width_of width k.init (body x) ≡ Some (get_or widths (length k.body.equations) 0)
  pub greatest : get_or widths (length k.body.equations) 0 ≤ 128

declared-held : (w init : ℕ) (o : Option Stream) → is_width w ≡ true → init < 2 ^ w → is_some o ≡ true → cond (is_width w && nat_lt init (2 ^ w)) (cond (is_some o) (Some w) None) None ≡ Some w
declared-held w init o lawful low some = (λ i. cond (lawful i && lt-ltb init (2 ^ w) low i) (cond (some i) (Some w) None) None)

declared-some : (c : Bool) (w v : ℕ) (o : Option Stream) → cond c (cond (is_some o) (Some w) None) None ≡ Some v → is_some o ≡ true
declared-some true w v None is = cc
declared-some true w v (Some s) is = refl
declared-some false w v o is = cc

pub has-width : (k : Work) (width : Option ℕ) (body : Bodies) → IsWork k width → scope.is_width width ≡ true → ((w : ℕ) → width ≡ Some w → k.init < 2 ^ w) → ((x : Scenery) (w : ℕ) → body x w [] ≡ k.meant (begun k w x)) → (x : Scenery) (widths : List ℕ) → Fits k.streaming None k.standings x widths → Have (all_equations k width) widths → HasWidth k width body x widths
has-width k None body is lawful low same x widths fits have = record {
  is = ap (λ (test : ℕ → Bool). least_from 128 1 test) (fun_ext (λ w. ap (λ o. nat_lt k.init (2 ^ w) && option_map_or (λ (s : Stream). nat_le s.form.width w) o false) (same x w))) ∙ open-found k is x widths fits have;
  greatest = open-greatest k widths have;
}
has-width k (Some w) body is lawful low same x widths fits have =
    let here = declared-width k w widths have in
    let some = declared-found k w is (width-greatest w lawful) x widths fits have in
    record {
      is = declared-held w k.init (body x w []) lawful (low w refl) (ap is_some (same x w) ∙ some) ∙ ap Some (sym here);
      greatest = subst (λ v. v ≤ 128) (sym here) (width-greatest w lawful);
    }

width-extended : (k : Work) (width : Option ℕ) (body : Bodies) → IsWork k width → scope.is_width width ≡ true → ((x : Scenery) (w : ℕ) → body x w [] ≡ k.meant (begun k w x)) → (x : Scenery) (widths : List ℕ) (w : ℕ) → Fits k.streaming None k.standings x widths → Have k.es widths → meant_by.width_of width k.init (body x) ≡ Some w → AreExtended k.es (all_equations k width) widths
width-extended k None body is lawful same x widths w fits have meant = open-extended k is x widths w fits have (ap (λ (test : ℕ → Bool). least_from 128 1 test) (sym (fun_ext (λ w. ap (λ o. nat_lt k.init (2 ^ w) && option_map_or (λ (s : Stream). nat_le s.form.width w) o false) (same x w)))) ∙ meant)
width-extended k (Some w) body is lawful same x widths v fits have meant = declared-extended k w is lawful (width-greatest w lawful) x widths fits have (ap is_some (sym (same x w)) ∙ declared-some (is_width w && nat_lt k.init (2 ^ w)) w v (body x w []) meant)

recurrence-agrees : (k : Work) (width : Option ℕ) (body : Bodies) (walk : Known) (t : Streaming) → IsWork k width → scope.is_width width ≡ true → ((w : ℕ) → width ≡ Some w → k.init < 2 ^ w) → ((x : Scenery) (w : ℕ) → body x w [] ≡ k.meant (begun k w x)) → Introduces k.name k.index walk k.streaming t → ChangeAgrees None true (Fits k.streaming None k.standings) (λ (x : Scenery). x.samples) t k.es (recurring k width) (meant_recurrence k width body)
recurrence-agrees k width body walk t is lawful low same introduces =
    let grown = own-grown k width (true ≡ false) is true≢false in
    let n = length k.body.equations in
    let given : Given = record { operand = Eq n; signed = false } in
    record {
      grown = grown;
      standing = standing-bound k.name k.index (length k.es) (length (all_equations k width)) None k.standings given k.init (appends-length k.es (all_equations k width) grown.appends) (omega (arith, length-push k.body.equations (own_equation k width))) is.standing;
      found = λ x widths fit have.
          let has = has-width k width body is lawful low same x widths fit have in
          let b : Bound = meant_by.recurrence x.samples k.init (body x) (get_or widths n 0) in
          record {
            env = with_bound k.name k.index b x.env;
            are = ap (option_map (λ w. with_bound k.name k.index (meant_by.recurrence x.samples k.init (body x) w) x.env)) has.is;
            fits = fits-bound k.name k.index walk k.streaming t k.standings x.samples x.env widths b (stands.Stream given k.init) introduces (record { init_same = refl; matches = record { form = refl; greatest = has.greatest } }) fit;
          };
      extended = λ x widths env fit have ahead meant. let w = map-some (λ w. with_bound k.name k.index (meant_by.recurrence x.samples k.init (body x) w) x.env) (meant_by.width_of width k.init (body x)) env meant in width-extended k width body is lawful same x widths w.0 fit have w.1;
    }

-- no name stands for a past where none is in work
none-still : (n : ℕ) (o : Option Standing) → IsStanding n None None o → IfSome o StandsStill
none-still n None is = tt
none-still n (Some (stands.Stream g c)) is = still g.operand is where
  still : (a : Operand) → IsWithin n None a → IsStill a
  still (Const c) within = tt
  still (Eq i) within = tt
  still (Past r k) within = cc
none-still n (Some (stands.Own r)) is = tt

-- what the body sees: its own instance, and what stood for names before
body-standing : (name : List ℕ) (index : Option ℕ) (n rec : ℕ) (standings : made_by.Streams) → AreStanding n None None None standings → AreStanding n None (Some rec) (Some (record { name = name; index = index })) (with_standing name index (stands.Own rec) standings)
body-standing name index n rec standings are = record {
  each = λ q r. each (bytes_eq name q && same_place index r) (standings q r) (are.each q r);
  alone = λ q r other is. alone (bytes_eq name q && same_place index r) (standings q r) other is (are.alone q r other);
} where
  each : (c : Bool) (o : Option Standing) → IsStanding n None None o → IsStanding n None (Some rec) (cond c (Some (stands.Own rec)) o)
  each true o old = refl
  each false None old = tt
  each false (Some (stands.Stream g c)) old = old
  each false (Some (stands.Own r)) old = cc

  alone : (c : Bool) (o : Option Standing) (other : ℕ) → cond c (Some (stands.Own rec)) o ≡ Some (stands.Own other) → (o ≡ Some (stands.Own other) → false ≡ true) → c ≡ true
  alone true o other is old = refl
  alone false o other is old = old is

-- the recurrence in work
abbrev pub work : Frame → List ℕ → Option ℕ → Option ℕ → Expr → ℕ → ℕ → Streaming → Progress → Work
work f name index width e init rec streaming p = record {
  es = p.equations;
  standings = p.streams;
  streaming = streaming;
  name = name;
  index = index;
  init = init;
  rec = rec;
  operates = (plan_of e).is_operator;
  body = declared_at_operator (plan_of e).is_operator width ((plan_of e).making (for_equations f) (with_standing name index (stands.Own rec) p.streams) p.equations);
  meant = λ x. meaning e (for_meaning f) x.samples (sources x.samples x.env);
}

-- what the body's text sees
abbrev pub body_setting : Frame → List ℕ → Option ℕ → ℕ → Streaming → Progress → Setting
body_setting f name index rec streaming p = record {
  walk = f.walk;
  known = f.known;
  meanings = f.meanings;
  inlined = f.inlined;
  streaming = streaming;
  scene = record { own = Some (record { name = name; index = index }); inside = f.inside };
  standings = with_standing name index (stands.Own rec) p.streams;
  seen = None;
  own = Some rec;
}

pub body-ready : (f : Frame) (past : Bool) (name : List ℕ) (index : Option ℕ) (rec : ℕ) (streaming : Streaming) (p : Progress) → AreSet (record f { own = None }) true p → IsReady (body_setting f name index rec streaming p) past p.equations
body-ready f past name index rec streaming p set = record {
  visible = set.visible;
  standing = body-standing name index (length p.equations) rec p.streams set.standing;
  clear = record { seen_own = inl refl; unseen = λ is. refl; lone = λ is alone. cc };
  formed = formed-open (Some rec) p.equations set.formed;
}

-- the body makes as many equations under each number
pub work-quiet : (f : Frame) (target : Ref) (width : Option ℕ) (init : Fixed) (e : Expr) (s t : scope.Progress) (p : Progress) → (walk : RecWalk target width init e f.walk f.inside s t) → AreSet (record f { own = None }) true p → QuietBody target.name walk.index width e (for_equations f) p
work-quiet f target width init e s t p walk set =
    let scene : Scene = record { own = Some (record { name = target.name; index = walk.index }); inside = f.inside } in
    quiet-body f.walk (for_equations f) (calm-known f.walk f.known f.meanings f.inlined set.visible) target.name walk.index width e p s.streams scene walk.begin t.count walk.walk refl (λ name at. none-still (length p.equations) (p.streams name at) (set.standing.each name at))

-- so the body stands that is made under the number of the recurrence
pub work-settled : (f : Frame) (target : Ref) (width : Option ℕ) (init : Fixed) (e : Expr) (s t : scope.Progress) (p : Progress) → (walk : RecWalk target width init e f.walk f.inside s t) → AreSet (record f { own = None }) true p → changed.settled (body_made target.name walk.index width e 0 (for_equations f) p) (body_made target.name walk.index width e (number_after target.name walk.index width e (for_equations f) p) (for_equations f) p) ≡ body_made target.name walk.index width e (number_after target.name walk.index width e (for_equations f) p) (for_equations f) p
work-settled f target width init e s t p walk set =
    let number = number_after target.name walk.index width e (for_equations f) p in
    settled-is (body_made target.name walk.index width e 0 (for_equations f) p) (body_made target.name walk.index width e number (for_equations f) p) ((work-quiet f target width init e s t p walk set).number number)

pub work-is : (f : Frame) (target : Ref) (width : Option ℕ) (init : Fixed) (e : Expr) (s t : scope.Progress) (p : Progress) → f.own ≡ None → (walk : RecWalk target width init e f.walk f.inside s t) → AreSet (record f { own = None }) true p → IsWork (work f target.name walk.index width e walk.initial (number_after target.name walk.index width e (for_equations f) p) s.streams p) width
work-is f target width init e s t p none walk set =
    let rec = number_after target.name walk.index width e (for_equations f) p in
    let instance : Instance = record { name = target.name; index = walk.index } in
    let seen = body_setting f target.name walk.index rec s.streams p in
    let past = past_of e f.walk in
    let k = work f target.name walk.index width e walk.initial rec s.streams p in
    let ready : IsReady seen past p.equations = body-ready f past target.name walk.index rec s.streams p set in
    let f_meant : Scenery → Option Stream = λ x. under (plan_of e).is_operator width (meaning e (for_meaning f) x.samples (sources x.samples x.env)) in
    let here = expression-agrees e seen p.equations walk.begin t.count width walk.walk ready (lawful-of width walk.lawful_width) in
    let quiet = work-quiet f target width init e s t p walk set in
    record {
      agrees = agrees-calmer (Some rec) (IsCalmIn seen past) (Unit {0}) (Fits s.streams (Some instance) (with_standing target.name walk.index (stands.Own rec) p.streams)) p.equations k.body f_meant (λ always. inr refl) here;
      number = subst (λ w. length (declared_at_operator (plan_of e).is_operator w ((plan_of e).making (for_equations f) (with_standing target.name walk.index (stands.Own rec) p.streams) p.equations)).equations ≡ rec) (width-lawful width walk.lawful_width) (quiet.number rec);
      formed = set.formed;
      standing = set.standing;
    }

rec-alone : (f : Frame) (target : Ref) (width : Option ℕ) (init : Fixed) (e : Expr) (s t : scope.Progress) (p : Progress) → f.own ≡ None → RecWalk target width init e f.walk f.inside s t → AreSet (record f { own = None }) true p → ChangeAgrees None true (Fits s.streams None p.streams) (λ (x : Scenery). x.samples) t.streams p.equations (changed.rec_change target width init e (for_equations f) p) (λ (x : Scenery). meant_by.rec_change target width init e (for_meaning f) x.samples x.env)
rec-alone f target width init e s t p none walk set =
    let same = set.visible.same in
    let rec : Option ℕ → ℕ = λ at. number_after target.name at width e (for_equations f) p in
    let k = work f target.name walk.index width e walk.initial (rec walk.index) s.streams p in
    let body : Bodies = λ x. meant_by.body_of e target.name walk.index walk.initial (for_meaning f) x.samples x.env in
    let here = recurrence-agrees k width body f.walk t.streams (work-is f target width init e s t p none walk set) walk.lawful_width walk.fits (λ x w. refl) walk.introduces in
    let Q : Progress → (Scenery → Option Streams) → Type 0 = λ q h. ChangeAgrees None true (Fits s.streams None p.streams) (λ (x : Scenery). x.samples) t.streams p.equations q h in
    let made_at : Option ℕ → ℕ → Progress = λ at c. changed.with_recurrence target.name at width c p (changed.settled (body_made target.name at width e 0 (for_equations f) p) (body_made target.name at width e (rec at) (for_equations f) p)) in
    let made_width : Option ℕ → Progress = λ w. recurring (work f target.name walk.index w e walk.initial (rec walk.index) s.streams p) w in
    let made_as : changed.rec_change target width init e (for_equations f) p ≡ recurring k width = (λ i. made_at (place-made f.walk f.known same target walk.index walk.placed i) (constant-made f.walk f.known same init walk.initial walk.initial_is i)) ∙ (ap (λ (m : Expanded). changed.with_recurrence target.name walk.index width walk.initial p m) (work-settled f target width init e s t p walk set) ∙ ap made_width (width-lawful width walk.lawful_width)) in
    let meant_as : (x : Scenery) → meant_by.rec_change target width init e (for_meaning f) x.samples x.env ≡ meant_recurrence k width body x = λ x i. option_and_then (λ at. option_and_then (λ c. meant_by.with_recurrence target at width e c (for_meaning f) x.samples x.env) (constant-meant f.walk f.known same init walk.initial walk.initial_is i)) (place-meant f.walk f.known same target walk.index walk.placed i) in
    subst (λ q. Q q (λ (x : Scenery). meant_by.rec_change target width init e (for_meaning f) x.samples x.env)) (sym made_as) (subst (Q (recurring k width)) (sym (fun_ext meant_as)) here)

pub rec-agrees : (f : Frame) (target : Ref) (width : Option ℕ) (init : Fixed) (e : Expr) (s t : scope.Progress) (p : Progress) → RecWalk target width init e f.walk f.inside s t → AreSet f true p → ChangeAgrees f.own true (Fits s.streams None p.streams) (λ (x : Scenery). x.samples) t.streams p.equations (changed.rec_change target width init e (for_equations f) p) (λ (x : Scenery). meant_by.rec_change target width init e (for_meaning f) x.samples x.env)
rec-agrees f target width init e s t p walk set =
    let none = set.lone refl in
    let P : Option ℕ → Type 0 = λ own. AreSet (record f { own = own }) true p → ChangeAgrees own true (Fits s.streams None p.streams) (λ (x : Scenery). x.samples) t.streams p.equations (changed.rec_change target width init e (for_equations f) p) (λ (x : Scenery). meant_by.rec_change target width init e (for_meaning f) x.samples x.env) in
    subst P (sym none) (rec-alone f target width init e s t p none walk) set

-- ---- statements, one after the other
-- wherever its names are known, what a statement makes agrees with what it means
abbrev pub ChangeFact : StmtFact
ChangeFact = λ walks mean make past. (f : Frame) (s t : scope.Progress) (p : Progress) → walks f.walk f.inside s ≡ Ok t → AreSet f (past f.walk) p → ChangeAgrees f.own (past f.walk) (Fits s.streams None p.streams) (λ (x : Scenery). x.samples) t.streams p.equations (make (for_equations f) p) (λ (x : Scenery). mean (for_meaning f) x.samples x.env)

abbrev StmtProved : Type 0
StmtProved = ProvedStmt ChangeFact

abbrev stmts : List StmtProved → List Stmt
stmts ps = map (λ (p : StmtProved). p.0) ps

-- another turn, or another statement, ends where the walk does
change-to : {X : Type 0} (own : Option ℕ) (past : Bool) (fits : X → List ℕ → Type 0) (samples : X → ℕ) (t u : Streaming) (old : Equations) (q : Progress) (g : X → Option Streams) → t ≡ u → ChangeAgrees own past fits samples t old q g → ChangeAgrees own past fits samples u old q g
change-to own past fits samples t u old q g same change = subst (λ s. ChangeAgrees own past fits samples s old q g) same change

in_turn-agrees : (f : Frame) (past : Bool) (ps : List StmtProved) (s t : scope.Progress) (p : Progress) → AllChange (stmts ps) f.walk f.inside s t → AreSet f past p → (scope.stmts_past_of (stmts ps) f.walk ≡ true → past ≡ true) → ChangeAgrees f.own past (Fits s.streams None p.streams) (λ (x : Scenery). x.samples) t.streams p.equations (changed.in_turn (map changed.change_of (stmts ps)) (for_equations f) p) (λ (x : Scenery). meant_by.in_turn (map meant_by.change_of (stmts ps)) (for_meaning f) x.samples x.env)
in_turn-agrees f past [] s t p walk set implied = change-to f.own past (Fits s.streams None p.streams) (λ (x : Scenery). x.samples) s.streams t.streams p.equations p (λ (x : Scenery). Some x.env) (ap (λ (q : scope.Progress). q.streams) walk) (change-nothing f.own past s.streams p set.formed set.standing)
in_turn-agrees f past (x ∷ ps) s t p walk set implied =
    let here = scope.stmt_past_of x.0 f.walk in
    let rest = scope.stmts_past_of (stmts ps) f.walk in
    let first_implied : here ≡ true → past ≡ true = or-first here rest past implied in
    let q = changed.change_of x.0 (for_equations f) p in
    let g : Scenery → Option Streams = λ y. meant_by.change_of x.0 (for_meaning f) y.samples y.env in
    let fits = Fits s.streams None p.streams in
    let one = change-calmer f.own here past fits (λ (y : Scenery). y.samples) walk.0.streams p.equations q g first_implied (x.1 f s walk.0 p walk.1 (set-part f past here p first_implied set)) in
    let others = in_turn-agrees f past ps walk.0 t q walk.2 (set-after f past fits (λ (y : Scenery). y.samples) walk.0.streams p.equations p q g set one) (or-rest here rest past implied) in
    changes-both f.own past fits (λ (y : Scenery). y.samples) walk.0.streams t.streams p.equations q (changed.in_turn (map changed.change_of (stmts ps)) (for_equations f) q) g (λ (y : Scenery). meant_by.in_turn (map meant_by.change_of (stmts ps)) (for_meaning f) y.samples y.env) (set-keeps f past p s.streams set) one others

-- ---- loops
abbrev pub at_index : Frame → List ℕ → ℕ → Frame
at_index f index at = record f { walk = bind index (static.Index at) f.walk; known = bind index (static.Index at) f.known }

pub set-index : (f : Frame) (past : Bool) (p : Progress) (index : List ℕ) (at : ℕ) → AreSet f past p → AreSet (at_index f index at) past p
set-index f past p index at set = record { visible = visible-indexed f.walk f.known f.meanings f.inlined index at set.visible; standing = set.standing; lone = set.lone; formed = set.formed }

pub turns-agree : (f : Frame) (past : Bool) (ps : List StmtProved) (index : List ℕ) → f.walk index ≡ None → (scope.stmts_past_of (stmts ps) f.walk ≡ true → past ≡ true) → (k at : ℕ) (s t : scope.Progress) (p : Progress) → AllTurns k at index (stmts ps) f.walk f.inside s t → AreSet f past p → ChangeAgrees f.own past (Fits s.streams None p.streams) (λ (x : Scenery). x.samples) t.streams p.equations (changed.turns k at (λ n. changed.in_turn (map changed.change_of (stmts ps)) (changed.with_index index n (for_equations f))) p) (λ (x : Scenery). meant_by.turns k at (λ n. meant_by.in_turn (map meant_by.change_of (stmts ps)) (meant_by.with_known index n (for_meaning f)) x.samples) x.env)
turns-agree f past ps index unknown implied zero at s t p walk set = change-to f.own past (Fits s.streams None p.streams) (λ (x : Scenery). x.samples) s.streams t.streams p.equations p (λ (x : Scenery). Some x.env) (ap (λ (q : scope.Progress). q.streams) walk) (change-nothing f.own past s.streams p set.formed set.standing)
turns-agree f past ps index unknown implied (suc k) at s t p walk set =
    let make : ℕ → Progress → Progress = λ n. changed.in_turn (map changed.change_of (stmts ps)) (changed.with_index index n (for_equations f)) in
    let mean : ℕ → ℕ → Streams → Option Streams = λ m n. meant_by.in_turn (map meant_by.change_of (stmts ps)) (meant_by.with_known index n (for_meaning f)) m in
    let q = make at p in
    let g : Scenery → Option Streams = λ y. mean y.samples at y.env in
    let fits = Fits s.streams None p.streams in
    let one = in_turn-agrees (at_index f index at) past ps (record { streams = s.streams; count = walk.0 }) walk.1 p walk.2 (set-index f past p index at set) (λ is. implied (sym (turn-past (stmts ps) f.walk index at unknown) ∙ is)) in
    let others = turns-agree f past ps index unknown implied k (at + 1) walk.1 t q walk.3 (set-after f past fits (λ (y : Scenery). y.samples) walk.1.streams p.equations p q g set one) in
    changes-both f.own past fits (λ (y : Scenery). y.samples) walk.1.streams t.streams p.equations q (changed.turns k (at + 1) make q) g (λ (y : Scenery). meant_by.turns k (at + 1) (mean y.samples) y.env) (set-keeps f past p s.streams set) one others

for-agrees : (f : Frame) (past : Bool) (index : List ℕ) (low high : Fixed) (ps : List StmtProved) (s t : scope.Progress) (p : Progress) → ForWalk index low high (stmts ps) f.walk f.inside s t → AreSet f past p → (scope.stmts_past_of (stmts ps) f.walk ≡ true → past ≡ true) → ChangeAgrees f.own past (Fits s.streams None p.streams) (λ (x : Scenery). x.samples) t.streams p.equations (changed.turns (constant high f.known - constant low f.known) (constant low f.known) (λ at. changed.in_turn (map changed.change_of (stmts ps)) (changed.with_index index at (for_equations f))) p) (λ (x : Scenery). option_and_then (λ from. option_and_then (λ to. meant_by.turns (to - from) from (λ at. meant_by.in_turn (map meant_by.change_of (stmts ps)) (meant_by.with_known index at (for_meaning f)) x.samples) x.env) (result_ok (constant_of high f.known))) (result_ok (constant_of low f.known)))
for-agrees f past index low high ps s t p walk set implied =
    let same = set.visible.same in
    let make : ℕ → Progress → Progress = λ n. changed.in_turn (map changed.change_of (stmts ps)) (changed.with_index index n (for_equations f)) in
    let mean : ℕ → ℕ → Streams → Option Streams = λ m n. meant_by.in_turn (map meant_by.change_of (stmts ps)) (meant_by.with_known index n (for_meaning f)) m in
    let here = turns-agree f past ps index walk.unknown implied (walk.to - walk.from) walk.from (record { streams = s.streams; count = walk.begin }) t p walk.turns set in
    let Q : Progress → (Scenery → Option Streams) → Type 0 = λ q h. ChangeAgrees f.own past (Fits s.streams None p.streams) (λ (x : Scenery). x.samples) t.streams p.equations q h in
    let made_as : changed.turns (constant high f.known - constant low f.known) (constant low f.known) make p ≡ changed.turns (walk.to - walk.from) walk.from make p = (λ i. changed.turns (constant-made f.walk f.known same high walk.to walk.high_is i - constant-made f.walk f.known same low walk.from walk.low_is i) (constant-made f.walk f.known same low walk.from walk.low_is i) make p) in
    let meant_as : (x : Scenery) → option_and_then (λ from. option_and_then (λ to. meant_by.turns (to - from) from (mean x.samples) x.env) (result_ok (constant_of high f.known))) (result_ok (constant_of low f.known)) ≡ meant_by.turns (walk.to - walk.from) walk.from (mean x.samples) x.env = λ x i. option_and_then (λ from. option_and_then (λ to. meant_by.turns (to - from) from (mean x.samples) x.env) (constant-meant f.walk f.known same high walk.to walk.high_is i)) (constant-meant f.walk f.known same low walk.from walk.low_is i) in
    subst (λ q. Q q (λ (x : Scenery). option_and_then (λ from. option_and_then (λ to. meant_by.turns (to - from) from (mean x.samples) x.env) (result_ok (constant_of high f.known))) (result_ok (constant_of low f.known)))) (sym made_as) (subst (Q (changed.turns (walk.to - walk.from) walk.from make p)) (sym (fun_ext meant_as)) here)

change-layer : (y : Stmt-F StmtProved) → StmtLayer ChangeFact y
change-layer (Stmt-F.Let target width e) f s t p walk set = let-agrees f target width e s t p (let-inverted target width e f.walk f.inside s t walk) set
change-layer (Stmt-F.Rec target width init e) f s t p walk set = rec-agrees f target width init e s t p (rec-inverted target width init e f.walk f.inside s t walk) set
change-layer (Stmt-F.For index low high body) f s t p walk set = for-agrees f (scope.stmts_past_of (stmts body.items) f.walk) index low high body.items s t p (for-inverted index low high (stmts body.items) f.walk f.inside s t walk) set (λ is. is)

-- a statement's equations agree with what it means
pub change-agrees : (s : Stmt) → OfStmt ChangeFact s
change-agrees = each-statement ChangeFact change-layer

-- and statements', one after the other
pub changes-agree : (ss : List Stmt) (f : Frame) (past : Bool) (s t : scope.Progress) (p : Progress) → AllChange ss f.walk f.inside s t → AreSet f past p → (scope.stmts_past_of ss f.walk ≡ true → past ≡ true) → ChangeAgrees f.own past (Fits s.streams None p.streams) (λ (x : Scenery). x.samples) t.streams p.equations (changed.changes_of ss (for_equations f) p) (λ (x : Scenery). meant_by.changes_of ss (for_meaning f) x.samples x.env)
changes-agree ss f past s t p walk set implied =
    let proved : List StmtProved = map (λ x. (x, change-agrees x)) ss in
    let P : List Stmt → Type 0 = λ xs. AllChange xs f.walk f.inside s t → (scope.stmts_past_of xs f.walk ≡ true → past ≡ true) → ChangeAgrees f.own past (Fits s.streams None p.streams) (λ (x : Scenery). x.samples) t.streams p.equations (changed.changes_of xs (for_equations f) p) (λ (x : Scenery). meant_by.changes_of xs (for_meaning f) x.samples x.env) in
    subst P (same_stmts ss) (λ walks pasts. in_turn-agrees f past proved s t p walks set pasts) walk implied where
      same_stmts : (xs : List Stmt) → stmts (map (λ x. (x, change-agrees x)) xs) ≡ xs
      same_stmts [] = refl
      same_stmts (x ∷ xs) = ap (λ ys. x ∷ ys) (same_stmts xs)
