-- Texts among names: what is ready for their equations, and the leaves of expressions.
use mathlib.Core.Path.{fun_ext}
use Rattle.std.proofs.Common.{◌≡◌, ◌∙◌, ◌+◌, ◌<◌, ◌≤◌, ◌⊎◌, ℕ, zero, suc, Bool, true, false, cond, not, ◌&&◌, nat_eq, nat_le, nat_lt, ◌^◌, is_some, is_none, List, [], ◌∷◌, length, get_or, Option, Some, None, option_map, unwrap_or, refl, sym, ap, ap₂, subst, arith, inl, inr}
use Rattle.std.specs.List.{slice_get}
use Rattle.std.proofs.lemmas.Bool.{and_parts, eqb-true, le-leb, true≢false}
use Rattle.std.proofs.lemmas.Option.{same_Some, slice_get_within}
use Rattle.pr_scope_names.specs.Names.{Known, Streaming, held}
use Rattle.pr_scope_names.specs.declared.streams.Instance.{Instance}
use Rattle.pr_flat.specs.declared.equations.Operand.{Operand}
use Rattle.pr_flat.specs.declared.equations.Operand.TheVariants.{Const, Eq, Past}
use Rattle.pr_flat.specs.declared.equations.Op.{Op}
use Rattle.pr_flat.specs.declared.equations.Op.TheVariants.{Delay}
use Rattle.pr_flat.specs.Forms.{Stream, least_from, number_width}
use Rattle.pr_flat.specs.Shape.{EquationShape}
use Rattle.pr_flat.specs.declared.forms.Form.{Form}
use Rattle.pr_flat.specs.Facts.{is_rec}
use Rattle.pr_flat.specs.Widths.{operand_width, width_in, is_open}
use Rattle.pr_scope.specs.declared.expressions.Scene.{Scene}
use Rattle.pr_scope.specs.Expressions.{is_instance}
use Rattle.pr_lang_meaning.specs.Streams.{Bound, part, assigned, constant_stream, delayed, sources}
use Rattle.pr_lang_meaning.specs.Expressions as meant
use Rattle.pr_expand_spec.specs.declared.givens.Given.{Given}
use Rattle.pr_expand_spec.specs.declared.givens.Standing.{Standing}
use Rattle.pr_expand_spec.specs.declared.givens.Standing.TheVariants as standing
use Rattle.pr_expand_spec.specs.Making.{Equations, Expanded, made, with_equation, same_operand, is_delay_of, delay_from, delay_step, delayed_once}
use Rattle.pr_expand_spec.specs.Making as making
use Rattle.pr_expand_spec.specs.Expressions.{ExprPlan, Inlined}
use Rattle.pr_expand_spec.specs.Expressions as made_by
use Rattle.pr_scope_facts.proofs.Appending.{appends-length}
use Rattle.pr_scope_facts.proofs.Numbering.{IsStill}
use Rattle.pr_scope_facts.proofs.InvertedExpressions.{OwnPast, OtherPast}
use Rattle.pr_expand_correct.proofs.Related.{Have, IsWithin, AreFormed, AreKept, IsPlain, Matches, IsFound, IsGrown, Agrees, StandsFor, Scenery, Fits, IsStanding, AreStanding, IsClear, AreVisible}
use Rattle.pr_expand_correct.proofs.Keeping.{same-within, within-more, within-read, outside-nowhere}
use Rattle.pr_expand_correct.proofs.Forms.{HasForm, Settled}
use Rattle.pr_expand_correct.proofs.Combining.{Keeps, grown-nothing, agrees-push}

-- the names that a text sees, in the walk, in the meaning and in the equations, and the recurrence in work
pub record Setting : Type 0 where
  pub walk : Known
  pub known : Known
  pub meanings : List ℕ → Option meant.Function
  pub inlined : List ℕ → Option Inlined
  pub streaming : Streaming
  pub scene : Scene
  pub standings : made_by.Streams
  pub seen : Option ℕ
  pub own : Option ℕ

abbrev pub seen_by_meaning : Setting → meant.Visible
seen_by_meaning t = record { known = t.known; functions = t.meanings }

abbrev pub seen_by_equations : Setting → made_by.Visible
seen_by_equations t = record { known = t.known; functions = t.inlined }

abbrev pub FitsIn : Setting → Scenery → List ℕ → Type 0
FitsIn t x widths = Fits t.streaming t.scene.own t.standings x widths

-- a text without a past, or the body of a recurrence: it calls only functions without a past
abbrev pub IsCalmIn : Setting → Bool → Type 0
IsCalmIn t past = (past ≡ false) ⊎ (is_none t.scene.own ≡ false)

-- equations and names are as a text with such a past needs them
pub record IsReady (t : Setting) (past : Bool) (es : Equations) : Type 0 where
  pub visible : AreVisible t.walk t.known t.meanings t.inlined
  pub standing : AreStanding (length es) t.seen t.own t.scene.own t.standings
  pub clear : IsClear past t.seen t.own t.scene.own
  pub formed : AreFormed t.own es

-- an operator's stream is assigned, under the declared width if there is one
abbrev pub under : Bool → Option ℕ → Option Stream → Option Stream
under true width o = assigned width o
under false width o = o

-- an expression's equations, where its own gets this width, beside its meaning
abbrev pub PlanAgrees : ExprPlan → meant.Sense → Bool → Setting → Equations → Option ℕ → Type 0
PlanAgrees p s past t es width = Agrees t.own (IsCalmIn t past) (FitsIn t) es (made_by.declared_at_operator p.is_operator width (p.making (seen_by_equations t) t.standings es)) (λ (x : Scenery). under p.is_operator width (s.meaning (seen_by_meaning t) x.samples (sources x.samples x.env)))

-- ---- what is ready
pub implied-false : (a b : Bool) → (a ≡ true → b ≡ true) → b ≡ false → a ≡ false
implied-false true b implied is = absurd (true≢false (sym (implied refl) ∙ is))
implied-false false b implied is = refl

pub ready-part : (t : Setting) (past part : Bool) (es : Equations) → (part ≡ true → past ≡ true) → IsReady t past es → IsReady t part es
ready-part t past part es implied ready = record {
  visible = ready.visible;
  standing = ready.standing;
  clear = record {
    seen_own = ready.clear.seen_own;
    unseen = λ is. ready.clear.unseen (implied is);
    lone = λ is. ready.clear.lone (implied is);
  };
  formed = ready.formed;
}

pub calm-part : (t : Setting) (past part : Bool) → (part ≡ true → past ≡ true) → IsCalmIn t past → IsCalmIn t part
calm-part t past part implied (inl none) = inl (implied-false part past implied none)
calm-part t past part implied (inr body) = inr body

standing-more : (m n : ℕ) (seen own : Option ℕ) (o : Option Standing) → m ≤ n → IsStanding m seen own o → IsStanding n seen own o
standing-more m n seen own None low is = tt
standing-more m n seen own (Some (standing.Stream g c)) low is = within-more m n seen g.operand low is
standing-more m n seen own (Some (standing.Own r)) low is = is

pub standings-more : (m n : ℕ) (seen own : Option ℕ) (instance : Option Instance) (standings : made_by.Streams) → m ≤ n → AreStanding m seen own instance standings → AreStanding n seen own instance standings
standings-more m n seen own instance standings low are = record { each = λ name place. standing-more m n seen own (standings name place) low (are.each name place); alone = are.alone }

pub ready-more : (t : Setting) (past : Bool) (es more : Equations) (calm : Type 0) → IsGrown t.own calm es more → IsReady t past es → IsReady t past more
ready-more t past es more calm grown ready = record {
  visible = ready.visible;
  standing = standings-more (length es) (length more) t.seen t.own t.scene.own t.standings (appends-length es more grown.appends) ready.standing;
  clear = ready.clear;
  formed = grown.formed;
}

-- ---- what fits goes on to fit
seen-within : (n : ℕ) (seen own : Option ℕ) → (seen ≡ None) ⊎ (seen ≡ own) → (a : Operand) → IsWithin n seen a → IsWithin n own a
seen-within n seen own seen_own (Const c) within = tt
seen-within n seen own seen_own (Eq i) within = within
seen-within n seen own (inl none) (Past r k) within = cc
seen-within n seen own (inr same) (Past r k) within = sym same ∙ within

stands-kept : (n : ℕ) (seen own : Option ℕ) (widths others : List ℕ) → (seen ≡ None) ⊎ (seen ≡ own) → AreKept n own widths others → (b : Option Bound) (s : Option Standing) → IsStanding n seen own s → StandsFor widths b s → StandsFor others b s
stands-kept n seen own widths others seen_own kept None None is stands = tt
stands-kept n seen own widths others seen_own kept None (Some s) is stands = absurd stands
stands-kept n seen own widths others seen_own kept (Some b) None is stands = absurd stands
stands-kept n seen own widths others seen_own kept (Some b) (Some (standing.Stream g c)) is stands = record {
  init_same = stands.init_same;
  matches = record {
    form = stands.matches.form ∙ ap (λ w. record { signed = g.signed; width = w }) (sym (same-within n own widths others kept g.operand (seen-within n seen own seen_own g.operand is)));
    greatest = stands.matches.greatest;
  };
}
stands-kept n seen own widths others seen_own kept (Some b) (Some (standing.Own r)) is stands = record {
  form = stands.form ∙ ap (λ w. record { signed = false; width = w }) (sym (kept.past r is));
  greatest = stands.greatest;
}

pub fits-kept : (n : ℕ) (seen own : Option ℕ) (streaming : Streaming) (instance : Option Instance) (standings : made_by.Streams) → (seen ≡ None) ⊎ (seen ≡ own) → AreStanding n seen own instance standings → Keeps n own (Fits streaming instance standings)
fits-kept n seen own streaming instance standings seen_own are = record {
  at = λ x widths others kept fits. record {
    stands = λ name place. stands-kept n seen own widths others seen_own kept (x.env name place) (standings name place) (are.each name place) (fits.stands name place);
    assigned = fits.assigned;
    own = fits.own;
  };
}

pub ready-keeps : (t : Setting) (past : Bool) (es : Equations) → IsReady t past es → Keeps (length es) t.own (FitsIn t)
ready-keeps t past es ready = fits-kept (length es) t.seen t.own t.streaming t.scene.own t.standings ready.clear.seen_own ready.standing

-- ---- the same made and the same meant
pub agrees-same : {X : Type 0} (own : Option ℕ) (calm : Type 0) (fits : X → List ℕ → Type 0) (old : List EquationShape) (m n : Expanded) (f g : X → Option Stream) → n ≡ m → ((x : X) → g x ≡ f x) → Agrees own calm fits old m f → Agrees own calm fits old n g
agrees-same {X} own calm fits old m n f g made_same meant_same agrees = subst (λ (h : X → Option Stream). Agrees own calm fits old n h) (sym (fun_ext meant_same)) (subst (λ (k : Expanded). Agrees own calm fits old k f) (sym made_same) agrees)

-- a part is at most 128 bits wide
pub small-part : (o : Option Stream) (s : Stream) → o ≡ Some s → s.form.width ≤ 128 → part o ≡ Some s
small-part o s is low = ap part is ∙ ap (λ c. cond c (Some s) None) (le-leb s.form.width 128 low)

pub part-some : (o : Option Stream) (s : Stream) → part o ≡ Some s → o ≡ Some s
part-some None s is = cc
part-some (Some r) s is = of_test (nat_le r.form.width 128) is where
  of_test : (c : Bool) → cond c (Some r) None ≡ Some s → Some r ≡ Some s
  of_test true same = same
  of_test false none = cc

pub agrees-part : {X : Type 0} (own : Option ℕ) (calm : Type 0) (fits : X → List ℕ → Type 0) (old : List EquationShape) (b : Bool) (m : Expanded) (f : X → Option Stream) → Agrees own calm fits old (made_by.declared_at_operator b None m) (λ x. under b None (f x)) → Agrees own calm fits old m (λ x. part (f x))
agrees-part own calm fits old true m f agrees = agrees
agrees-part own calm fits old false m f agrees = record {
  grown = agrees.grown;
  within = agrees.within;
  found = λ x widths fit have. let here = agrees.found x widths fit have in record { stream = here.stream; is = small-part (f x) here.stream here.is here.matches.greatest; matches = here.matches };
  extended = λ x widths s fit have ahead is. agrees.extended x widths s fit have ahead (part-some (f x) s is);
}

-- ---- leaves
pub agrees-leaf : {X : Type 0} (own : Option ℕ) (calm : Type 0) (fits : X → List ℕ → Type 0) (old : List EquationShape) (operand : Operand) (signed : Bool) (f : X → Option Stream) → AreFormed own old → IsWithin (length old) own operand → ((x : X) (widths : List ℕ) → fits x widths → IsFound widths (record { operand = operand; signed = signed }) (f x)) → Agrees own calm fits old (made old operand signed) f
agrees-leaf own calm fits old operand signed f formed within found = record {
  grown = grown-nothing own calm old formed;
  within = within;
  found = λ x widths fit have. found x widths fit;
  extended = λ x widths s fit have ahead is. record { others = widths; same = outside-nowhere (length old) (length old) widths; have = have };
}

least_from-below : (k at w : ℕ) (test : ℕ → Bool) → least_from k at test ≡ Some w → w < at + k
least_from-below zero at w test is = cc
least_from-below (suc k) at w test is = of_test (test at) is (least_from-below k (at + 1) w test) where
  of_test : (c : Bool) → cond c (Some at) (least_from k (at + 1) test) ≡ Some w → (least_from k (at + 1) test ≡ Some w → w < at + 1 + k) → w < at + suc k
  of_test true same rest = let e : at ≡ w = same_Some at w same in omega arith
  of_test false later rest = let low = rest later in omega arith

pub number_width-greatest : (n : ℕ) → number_width n ≤ 64
unfolding number_width
number_width-greatest n = greatest (least_from 64 1 (λ w. nat_lt n (2 ^ w))) refl where
  greatest : (o : Option ℕ) → least_from 64 1 (λ w. nat_lt n (2 ^ w)) ≡ o → unwrap_or o 64 ≤ 64
  greatest None is = omega arith
  greatest (Some w) is = let low = least_from-below 64 1 w (λ w. nat_lt n (2 ^ w)) is in omega arith

pub agrees-constant : {X : Type 0} (own : Option ℕ) (calm : Type 0) (fits : X → List ℕ → Type 0) (old : List EquationShape) (n : ℕ) (samples : X → ℕ) → AreFormed own old → Agrees own calm fits old (made old (Const n) false) (λ x. Some (constant_stream (samples x) n))
agrees-constant own calm fits old n samples formed = agrees-leaf own calm fits old (Const n) false (λ x. Some (constant_stream (samples x) n)) formed tt (λ x widths fit. record { stream = constant_stream (samples x) n; is = refl; matches = record { form = refl; greatest = let low = number_width-greatest n in omega arith } })

-- ---- delays
pub same_operand-is : (p q : Operand) → same_operand p q ≡ true → p ≡ q
same_operand-is (Const a) (Const b) is = ap Const (eqb-true a b is)
same_operand-is (Const a) (Eq j) is = cc
same_operand-is (Const a) (Past r k) is = cc
same_operand-is (Eq i) (Const b) is = cc
same_operand-is (Eq i) (Eq j) is = ap Eq (eqb-true i j is)
same_operand-is (Eq i) (Past r k) is = cc
same_operand-is (Past r k) (Const b) is = cc
same_operand-is (Past r k) (Eq j) is = cc
same_operand-is (Past r k) (Past s l) is = let both = and_parts (nat_eq r s) (nat_eq k l) is in ap₂ Past (eqb-true r s both.0) (eqb-true k l both.1)

-- a delay of this operand, after this number
pub record IsDelayOf (q : Operand) (c : ℕ) (op : Op) (args : List Operand) : Type 0 where
  pub op_is : op ≡ Delay c
  pub args_are : args ≡ q ∷ []

is_delay_of-is : (q : Operand) (c : ℕ) (op : Op) (args : List Operand) → is_delay_of q c op args ≡ true → IsDelayOf q c op args
is_delay_of-is q c (Delay d) [] is = cc
is_delay_of-is q c (Delay d) (p ∷ []) is = let both = and_parts (nat_eq d c) (same_operand p q) is in record { op_is = ap Delay (eqb-true d c both.0); args_are = ap (λ o. o ∷ []) (same_operand-is p q both.1) }
is_delay_of-is q c (Delay d) (p ∷ r ∷ args) is = cc
is_delay_of-is q c op args is = cc

pub record DelayAt (es : List EquationShape) (i : ℕ) (q : Operand) (c : ℕ) : Type 0 where
  pub equation : EquationShape
  pub there : slice_get es i ≡ Some equation
  pub does : IsDelayOf q c equation.op equation.args

pub delay_from-found : (es : List EquationShape) (from i : ℕ) (q : Operand) (c : ℕ) → delay_from from es q c ≡ Some i → (j : ℕ) × (i ≡ from + j) × DelayAt es j q c
delay_from-found [] from i q c is = cc
delay_from-found (e ∷ es) from i q c is = of_test (is_delay_of q c e.op e.args) refl is (delay_from-found es (from + 1) i q c) where
  of_test : (b : Bool) → is_delay_of q c e.op e.args ≡ b → cond b (Some from) (delay_from (from + 1) es q c) ≡ Some i → (delay_from (from + 1) es q c ≡ Some i → (j : ℕ) × (i ≡ from + 1 + j) × DelayAt es j q c) → (j : ℕ) × (i ≡ from + j) × DelayAt (e ∷ es) j q c
  of_test true does same rest = let here : from ≡ i = same_Some from i same in (0, omega arith, record { equation = e; there = refl; does = is_delay_of-is q c e.op e.args does })
  of_test false not later rest =
      let found = rest later in
      let at : i ≡ from + 1 + found.0 = found.1 in
      (suc found.0, omega arith, record { equation = found.2.equation; there = found.2.there; does = found.2.does })

-- a delay is as wide as what it reads
delay-width : (widths : List ℕ) (e : EquationShape) (q : Operand) (c : ℕ) → e.op ≡ Delay c → e.args ≡ q ∷ [] → IsPlain e → operand_width widths q ≤ 128 → width_in widths e ≡ Some (operand_width widths q)
delay-width widths e q c op_is args_are plain low =
    let same : e ≡ record { op = Delay c; args = q ∷ []; declared = None; kinds = false ∷ [] } = λ i. record { op = op_is i; args = args_are i; declared = plain.declared i; kinds = plain.kinds i } in
    ap (width_in widths) same ∙ ap (λ b. cond b (Some (operand_width widths q)) None) (le-leb (operand_width widths q) 128 low)

small-operand : (widths : List ℕ) (g : Given) (s : Stream) → Matches widths g s → operand_width widths g.operand ≤ 128
small-operand widths g s matches = subst (λ (f : Form). f.width ≤ 128) matches.form matches.greatest

delay-step : {X : Type 0} (own : Option ℕ) (calm : Type 0) (fits : X → List ℕ → Type 0) (old es : List EquationShape) (g : Given) (c : ℕ) (f : X → Option Stream) → Keeps (length old) own fits → (o : Option ℕ) → delay_from 0 es g.operand c ≡ o → Agrees own calm fits old (made es g.operand g.signed) f → Agrees own calm fits old (made (delay_step o g.operand c es).equations (delay_step o g.operand c es).given.operand g.signed) f
delay-step {X} own calm fits old es g c f keeps (Some i) is agrees = record {
  grown = agrees.grown;
  within = subst (λ j. j < length es) (sym place) (slice_get_within es at.0 at.2.equation at.2.there);
  found = found;
  extended = agrees.extended;
} where
  at : (j : ℕ) × (i ≡ 0 + j) × DelayAt es j g.operand c
  at = delay_from-found es 0 i g.operand c is

  place : i ≡ at.0
  place = let same : i ≡ 0 + at.0 = at.1 in omega arith

  found : (x : X) (widths : List ℕ) → fits x widths → Have es widths → IsFound widths (record { operand = Eq i; signed = g.signed }) (f x)
  found x widths fit have =
      let here = agrees.found x widths fit have in
      let e = at.2.equation in
      let closed : is_open e ≡ false = ap (λ (o : Op). is_rec o && not (is_some e.declared)) at.2.does.op_is in
      let width : Some (operand_width widths g.operand) ≡ Some (get_or widths at.0 0) = sym (delay-width widths e g.operand c at.2.does.op_is at.2.does.args_are (agrees.grown.formed.delays at.0 e at.2.there c at.2.does.op_is) (small-operand widths g here.stream here.matches)) ∙ have.each at.0 e at.2.there closed in
      let same : operand_width widths g.operand ≡ get_or widths i 0 = same_Some (operand_width widths g.operand) (get_or widths at.0 0) width ∙ ap (λ j. get_or widths j 0) (sym place) in
      record { stream = here.stream; is = here.is; matches = record { form = here.matches.form ∙ ap (λ w. record { signed = g.signed; width = w }) same; greatest = here.matches.greatest } }
delay-step {X} own calm fits old es g c f keeps None is agrees =
    agrees-push own calm fits old es e g.signed f keeps agrees.grown (within-read (length es) own g.operand agrees.within, tt) refl (λ d same. record { declared = refl; kinds = refl }) settled agrees.extended where
      e : EquationShape
      e = record { op = Delay c; args = g.operand ∷ []; declared = None; kinds = false ∷ [] }

      settled : (x : X) (widths : List ℕ) → fits x widths → Have es widths → Settled g.signed (width_in widths (record { op = Delay c; args = g.operand ∷ []; declared = None; kinds = false ∷ [] })) (f x)
      settled x widths fit have =
          let here = agrees.found x widths fit have in
          let width = delay-width widths (record { op = Delay c; args = g.operand ∷ []; declared = None; kinds = false ∷ [] }) g.operand c refl refl (record { declared = refl; kinds = refl }) (small-operand widths g here.stream here.matches) in
          let form : HasForm g.signed (operand_width widths g.operand) here.stream = record { form = here.matches.form; greatest = here.matches.greatest } in
          subst (λ (o : Option Stream). Settled g.signed (width_in widths (record { op = Delay c; args = g.operand ∷ []; declared = None; kinds = false ∷ [] })) o) (sym here.is) (subst (λ (w : Option ℕ). Settled g.signed w (Some here.stream)) (sym width) form)

-- so many delays of what is given keep its form
pub agrees-delayed : {X : Type 0} (own : Option ℕ) (calm : Type 0) (fits : X → List ℕ → Type 0) (old : List EquationShape) (f : X → Option Stream) → Keeps (length old) own fits → (k : ℕ) (g : Given) (c : ℕ) (es : List EquationShape) → Agrees own calm fits old (made es g.operand g.signed) f → Agrees own calm fits old (making.delayed k g c es) f
agrees-delayed own calm fits old f keeps zero g c es agrees = agrees
agrees-delayed own calm fits old f keeps (suc k) g c es agrees =
    let once = delayed_once g.operand c es in
    agrees-delayed own calm fits old f keeps k (record { operand = once.given.operand; signed = g.signed }) c once.equations (delay-step own calm fits old es g c f keeps (delay_from 0 es g.operand c) refl agrees)

-- ---- names
none-stands : (widths : List ℕ) (b : Option Bound) → StandsFor widths b None → is_some b ≡ true → ⊥
none-stands widths None stands some = cc
none-stands widths (Some b) stands some = stands

-- the stream that a name stands for, or one of its form
stream-stands : (widths : List ℕ) (b : Option Bound) (g : Given) (c : ℕ) (f : Bound → Stream) → ((a : Bound) → (f a).form ≡ a.stream.form) → StandsFor widths b (Some (standing.Stream g c)) → IsFound widths g (option_map f b)
stream-stands widths None g c f same stands = absurd stands
stream-stands widths (Some b) g c f same stands = record { stream = f b; is = refl; matches = record { form = same b ∙ stands.matches.form; greatest = subst (λ (s : Form). s.width ≤ 128) (sym (same b)) stands.matches.greatest } }

own-stands : (widths : List ℕ) (b : Option Bound) (r k : ℕ) (f : Bound → Stream) → ((a : Bound) → (f a).form ≡ a.stream.form) → StandsFor widths b (Some (standing.Own r)) → IsFound widths (record { operand = Past r k; signed = false }) (option_map f b)
own-stands widths None r k f same stands = absurd stands
own-stands widths (Some b) r k f same stands = record { stream = f b; is = refl; matches = record { form = same b ∙ stands.form; greatest = subst (λ (s : Form). s.width ≤ 128) (sym (same b)) stands.greatest } }

pub agrees-named : (t : Setting) (past : Bool) (es : Equations) (calm : Type 0) → IsReady t past es → (name : List ℕ) (index : Option ℕ) (o : Option Standing) → t.standings name index ≡ o → held (t.streaming name) index ≡ true → is_instance t.scene.own name index ≡ false → Agrees t.own calm (FitsIn t) es (made_by.referred None index o es) (λ (x : Scenery). option_map (λ (b : Bound). b.stream) (x.env name index))
agrees-named t past es calm ready name index None is there other = agrees-leaf t.own calm (FitsIn t) es (Const 0) false (λ (x : Scenery). option_map (λ (b : Bound). b.stream) (x.env name index)) ready.formed tt (λ x widths fit. absurd (none-stands widths (x.env name index) (subst (StandsFor widths (x.env name index)) is (fit.stands name index)) (fit.assigned name index there)))
agrees-named t past es calm ready name index (Some (standing.Stream g c)) is there other = agrees-leaf t.own calm (FitsIn t) es g.operand g.signed (λ (x : Scenery). option_map (λ (b : Bound). b.stream) (x.env name index)) ready.formed (seen-within (length es) t.seen t.own ready.clear.seen_own g.operand (subst (IsStanding (length es) t.seen t.own) is (ready.standing.each name index))) (λ x widths fit. stream-stands widths (x.env name index) g c (λ (b : Bound). b.stream) (λ a. refl) (subst (StandsFor widths (x.env name index)) is (fit.stands name index)))
agrees-named t past es calm ready name index (Some (standing.Own r)) is there other = absurd (true≢false (sym (ready.standing.alone name index r is) ∙ other))

still-unseen : (n : ℕ) (seen : Option ℕ) (a : Operand) → seen ≡ None → IsWithin n seen a → IsStill a
still-unseen n seen (Const c) none within = tt
still-unseen n seen (Eq i) none within = tt
still-unseen n seen (Past r k) none within = cc

pub own_past-is : (r k : ℕ) → 1 ≤ k → k ≤ 256 → made_by.own_past r k ≡ Past r k
own_past-is r k low high = ap₂ (λ b c. cond (b && c) (Past r k) (Const 0)) (le-leb 1 k low) (le-leb k 256 high)

-- a name so many samples earlier
pub agrees-earlier : (t : Setting) (es : Equations) (calm : Type 0) → IsReady t true es → (name : List ℕ) (index : Option ℕ) (k : ℕ) (o : Option Standing) → t.standings name index ≡ o → k ≤ 256 → OwnPast t.scene name index k ⊎ OtherPast t.streaming t.scene name index → Agrees t.own calm (FitsIn t) es (made_by.earlier k o es) (λ (x : Scenery). option_map (delayed x.samples k) (x.env name index))
agrees-earlier t es calm ready name index k None is high of_past = agrees-leaf t.own calm (FitsIn t) es (Const 0) false (λ (x : Scenery). option_map (delayed x.samples k) (x.env name index)) ready.formed tt (λ x widths fit. absurd (none-stands widths (x.env name index) (subst (StandsFor widths (x.env name index)) is (fit.stands name index)) (assigned x widths fit of_past))) where
  assigned : (x : Scenery) (widths : List ℕ) → FitsIn t x widths → OwnPast t.scene name index k ⊎ OtherPast t.streaming t.scene name index → is_some (x.env name index) ≡ true
  assigned x widths fit (inl own) = fit.own name index own.own
  assigned x widths fit (inr other) = fit.assigned name index other.there
agrees-earlier t es calm ready name index k (Some (standing.Stream g c)) is high of_past =
    let f : Scenery → Option Stream = λ x. option_map (delayed x.samples k) (x.env name index) in
    let within = subst (IsStanding (length es) t.seen t.own) is (ready.standing.each name index) in
    agrees-delayed t.own calm (FitsIn t) es f (ready-keeps t true es ready) k g c es (agrees-leaf t.own calm (FitsIn t) es g.operand g.signed f ready.formed (seen-within (length es) t.seen t.own ready.clear.seen_own g.operand within) (λ x widths fit. stream-stands widths (x.env name index) g c (delayed x.samples k) (λ a. refl) (subst (StandsFor widths (x.env name index)) is (fit.stands name index))))
agrees-earlier t es calm ready name index k (Some (standing.Own r)) is high (inr other) = absurd (true≢false (sym (ready.standing.alone name index r is) ∙ other.other))
agrees-earlier t es calm ready name index k (Some (standing.Own r)) is high (inl own) =
    let f : Scenery → Option Stream = λ x. option_map (delayed x.samples k) (x.env name index) in
    let within = subst (IsStanding (length es) t.seen t.own) is (ready.standing.each name index) in
    subst (λ q. Agrees t.own calm (FitsIn t) es (made es q false) f) (sym (own_past-is r k own.least high)) (agrees-leaf t.own calm (FitsIn t) es (Past r k) false f ready.formed within (λ x widths fit. own-stands widths (x.env name index) r k (delayed x.samples k) (λ a. refl) (subst (StandsFor widths (x.env name index)) is (fit.stands name index))))
