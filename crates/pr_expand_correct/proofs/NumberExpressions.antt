-- The numbers of an expression, where those of the names that it reads are known.
use Rattle.std.proofs.Common.{◌≡◌, ℕ, suc, ◌≤◌, inl, inr, Bool, true, false, ◌||◌, nat_le, Option, Some, None, option_map, is_none, List, [], ◌∷◌, map, length, Ok, refl, sym, ◌∙◌, ap, ap₂, subst, arith}
use Rattle.std.specs.List.{AllZip, list_any}
use Rattle.std.specs.Option.{option_and_then, unwrap_or}
use Rattle.std.specs.Result.{result_ok}
use Rattle.std.specs.Global.{Box}
use Rattle.std.proofs.lemmas.Bool.{true≢false, le-leb}
use Rattle.std.proofs.lemmas.List.{length-map}
use Rattle.std.proofs.lemmas.Option.{same_Some}
use Rattle.pr_lang.specs.declared.trees.BinOp.{BinOp}
use Rattle.pr_lang.specs.declared.trees.Fixed.{Fixed}
use Rattle.pr_lang.specs.declared.trees.Ref.{Ref}
use Rattle.pr_lang.specs.declared.trees.Expr.{Expr}
use Rattle.pr_lang.specs.declared.trees.Expr.TheOpen.{Expr-F}
use Rattle.pr_scope_names.specs.declared.counts.Count.{Count}
use Rattle.pr_scope_names.specs.declared.names.Callee.{Callee}
use Rattle.pr_scope_names.specs.declared.names.Static.{Static}
use Rattle.pr_scope_names.specs.declared.names.Static.TheVariants.{Function}
use Rattle.pr_scope_names.specs.Names.{Known}
use Rattle.pr_scope_names.specs.Amounts.{amount_of}
use Rattle.pr_scope_names.specs.Constants.{read, constant_of, place_of}
use Rattle.pr_flat.specs.declared.equations.Operand.{Operand}
use Rattle.pr_flat.specs.declared.equations.Operand.TheVariants.{Const, Past}
use Rattle.pr_flat.specs.declared.equations.Op.{Op}
use Rattle.pr_flat.specs.declared.equations.Op.TheVariants as op
use Rattle.pr_flat.specs.Forms.{Stream}
use Rattle.pr_scope.specs.Expressions.{reading, walk_of, past_of, is_past}
use Rattle.pr_lang_meaning.specs.Streams.{Bound, Streams, sources, constant_stream, part, all_parts, assigned, operate_on, operate}
use Rattle.pr_lang_meaning.specs.Streams as streams
use Rattle.pr_lang_meaning.specs.Expressions as meant
use Rattle.pr_lang_meaning.specs.Expressions.{unsigned, Sense, sense_of, senses, constant_shift, operator}
use Rattle.pr_expand_spec.specs.declared.givens.Given.{Given}
use Rattle.pr_expand_spec.specs.declared.givens.Standing.{Standing}
use Rattle.pr_expand_spec.specs.declared.givens.Standing.TheVariants as standing
use Rattle.pr_expand_spec.specs.Making.{Equations, Expanded, made, with_equation, delayed, constant}
use Rattle.pr_expand_spec.specs.Expressions as made_by
use Rattle.pr_expand_spec.specs.Expressions.{ExprPlan, plan_of, AllExpanded, all_made, apply, declared_at_operator}
use Rattle.pr_scope_facts.proofs.Statics.{plain, constant-meant, constant-made, place-meant, place-made, same-static, same-unknown, same-number}
use Rattle.pr_scope_facts.proofs.InvertedExpressions.{ReferWalk, StaticUse, StreamUse, DelayWalk, ShiftWalk, PairWalk, BinaryWalk, AllWalk, CallWalk, refer-inverted, delay-inverted, slice-inverted, binary-inverted, choose-inverted, parts-inverted, call-inverted}
use Rattle.pr_scope_facts.proofs.Inductions.{ExprFact, OfExpr, ProvedExpr, ExprLayer, each-expression}
use Rattle.pr_scope_facts.proofs.Appending.{Appends, appends-nothing, appends-both, appends-length, appends-with}
use Rattle.pr_expand_correct.proofs.Related.{Matches, Agrees, AreWithin, AreFormed, StandsFor, Scenery, IsCallable}
use Rattle.pr_expand_correct.proofs.Forms.{is_operator, IsLawful}
use Rattle.pr_expand_correct.proofs.Keeping.{have-before, within-more}
use Rattle.pr_expand_correct.proofs.Texts.{Setting, seen_by_meaning, seen_by_equations, FitsIn, IsCalmIn, IsReady, under, ready-part, ready-more, agrees-part, own_past-is}
use Rattle.pr_expand_correct.proofs.Combining.{nothing-assigned}
use Rattle.pr_expand_correct.proofs.Concatenations.{matches-unsigned}
use Rattle.pr_expand_correct.proofs.AgreedExpressions.{expression-agrees, first-of-two, given-length, one-of-one, operators-operate, or-first, or-rest, shift-made, shift-meant, shifts-operate, three-of-three, two-of-two}
use Rattle.pr_expand_correct.proofs.NumberRuns.{Run}
use Rattle.pr_expand_correct.proofs.NumberLeaves.{IsNumbered, IsBegun, constant-numbered, delayed-numbered, own-numbered}
use Rattle.pr_expand_correct.proofs.NumberParts.{IsSampled, IsMeant, assigned-is, operator-meant, declared-equation, beside-front, beside-meant}

-- ---- what names have
-- the numbers of what a name stands for, before sample n; the recurrence in work lacks the last of them
abbrev pub HasNumbers : Run → ℕ → Option Bound → Option Standing → Type 0
HasNumbers r n (Some b) (Some (standing.Stream g init)) = IsNumbered r n g b.stream
HasNumbers r n (Some b) (Some (standing.Own rec)) = IsBegun r n rec b
HasNumbers r n _ _ = Unit {0}

-- a call has the numbers that are meant, where its arguments have theirs
pub record CallsNumbers (r : Run) (past : Bool) (params : ℕ) (meant : meant.Function) (inlined : made_by.Inlined) : Type 0 where
  pub numbered : (n : ℕ) → n ≤ length r.samples → (own : Option ℕ) → (past ≡ true → own ≡ None) → (args : List Given) (es : Equations) → AreFormed own es → length args ≡ params → AreWithin (length es) own args → Appends (inlined args es).equations r.equations → (ss : List Stream) → AllZip (IsMeant r n) args ss → (s : Stream) → meant (length r.samples) ss ≡ Some s → IsNumbered r n (inlined args es).given s

pub record Numbers (r : Run) (n : ℕ) (t : Setting) (env : Streams) : Type 0 where
  pub stands : (name : List ℕ) (place : Option ℕ) → HasNumbers r n (env name place) (t.standings name place)
  pub calls : (name : List ℕ) (f : Callee) (meant : meant.Function) (inlined : made_by.Inlined) → t.walk name ≡ Some (Function f) → t.meanings name ≡ Some meant → t.inlined name ≡ Some inlined → CallsNumbers r f.past f.params meant inlined

abbrev pub scenery_of : Run → Streams → Scenery
scenery_of r env = record { samples = length r.samples; env = env }

-- what is made of an expression has the numbers that are meant
abbrev pub Counts : Run → ℕ → Expanded → Option Stream → Type 0
Counts r n m o = Appends m.equations r.equations → (s : Stream) → o ≡ Some s → IsNumbered r n m.given s

abbrev pub NumbersFact : Run → ℕ → ExprFact
NumbersFact r n reading sense plan past = (t : Setting) (c d : Count) (es : Equations) (width : Option ℕ) → reading.walk t.walk t.streaming t.scene c ≡ Ok d → IsReady t (past t.walk) es → IsLawful width → (env : Streams) → FitsIn t (scenery_of r env) r.widths → Numbers r n t env → Counts r n (declared_at_operator plan.is_operator width (plan.making (seen_by_equations t) t.standings es)) (under plan.is_operator width (sense.meaning (seen_by_meaning t) (length r.samples) (sources (length r.samples) env)))

-- ---- names
static-counts : (r : Run) (n : ℕ) → IsSampled r n → (static : Static) (index : Option ℕ) (number : ℕ) (o : Option Stream) (standing : Option Standing) (es : Equations) → read (Some static) index ≡ Ok number → (s : Stream) → meant.referred (Some static) index (length r.samples) o ≡ Some s → IsNumbered r n (made_by.referred (Some static) index standing es).given s
static-counts r n sampled static index number o standing es reads s is =
    let m = length r.samples in
    let number_made : unwrap_or (result_ok (read (Some static) index)) 0 ≡ number = ap (λ x. unwrap_or (result_ok x) 0) reads in
    let stream : constant_stream m number ≡ s = same_Some (constant_stream m number) s (sym (ap (λ x. option_map (constant_stream m) (result_ok x)) reads) ∙ is) in
    let P : ℕ → Type 0 = λ x. IsNumbered r n (record { operand = Const x; signed = false }) s in
    subst P (sym number_made) (subst (IsNumbered r n (record { operand = Const number; signed = false })) stream (constant-numbered r n number sampled.within false))

stream-counts : (r : Run) (n : ℕ) (widths : List ℕ) (b : Option Bound) (o : Option Standing) (index : Option ℕ) (es : Equations) → StandsFor widths b o → HasNumbers r n b o → ((rec : ℕ) → o ≡ Some (standing.Own rec) → ⊥) → (s : Stream) → option_map (λ (c : Bound). c.stream) b ≡ Some s → IsNumbered r n (made_by.referred None index o es).given s
stream-counts r n widths None o index es stands has other s is = cc
stream-counts r n widths (Some b) None index es stands has other s is = absurd stands
stream-counts r n widths (Some b) (Some (standing.Stream g init)) index es stands has other s is = subst (IsNumbered r n g) (same_Some b.stream s is) has
stream-counts r n widths (Some b) (Some (standing.Own rec)) index es stands has other s is = absurd (other rec refl)

refer-counts : (r : Run) (n : ℕ) → IsSampled r n → (ref : Ref) (t : Setting) (es : Equations) (env : Streams) → IsReady t false es → FitsIn t (scenery_of r env) r.widths → Numbers r n t env → ReferWalk ref t.walk t.streaming t.scene → (s : Stream) → option_and_then (λ place. meant.referred (t.known ref.name) place (length r.samples) ((sources (length r.samples) env).now ref.name place)) (result_ok (place_of ref t.known)) ≡ Some s → IsNumbered r n (made_by.referred (t.known ref.name) (made_by.place ref t.known) (t.standings ref.name (made_by.place ref t.known)) es).given s
refer-counts r n sampled ref t es env ready fits numbers walk s is =
    subst P (sym (place-made t.walk t.known ready.visible.same ref walk.index walk.placed)) (elim walk.use_of [ inl u ↦ of_static u | inr u ↦ of_stream u ]) where
      m : ℕ
      m = length r.samples

      P : Option ℕ → Type 0
      P x = IsNumbered r n (made_by.referred (t.known ref.name) x (t.standings ref.name x) es).given s

      gives : meant.referred (t.known ref.name) walk.index m ((sources m env).now ref.name walk.index) ≡ Some s
      gives = sym (ap (option_and_then (λ place. meant.referred (t.known ref.name) place m ((sources m env).now ref.name place))) (place-meant t.walk t.known ready.visible.same ref walk.index walk.placed)) ∙ is

      of_static : StaticUse t.walk ref.name walk.index → P walk.index
      of_static u =
          let known : t.known ref.name ≡ Some (plain u.static) = same-static t.walk t.known ready.visible.same ref.name u.static u.is in
          let reads = same-number t.walk t.known ready.visible.same ref.name u.static walk.index u.number u.is u.reads in
          let Q : Option Static → Type 0 = λ k. IsNumbered r n (made_by.referred k walk.index (t.standings ref.name walk.index) es).given s in
          let here : meant.referred (Some (plain u.static)) walk.index m ((sources m env).now ref.name walk.index) ≡ Some s = sym (ap (λ k. meant.referred k walk.index m ((sources m env).now ref.name walk.index)) known) ∙ gives in
          subst Q (sym known) (static-counts r n sampled (plain u.static) walk.index u.number ((sources m env).now ref.name walk.index) (t.standings ref.name walk.index) es reads s here)

      of_stream : StreamUse t.walk t.streaming t.scene ref.name walk.index → P walk.index
      of_stream u =
          let known : t.known ref.name ≡ None = same-unknown t.walk t.known ready.visible.same ref.name u.unknown in
          let Q : Option Static → Type 0 = λ k. IsNumbered r n (made_by.referred k walk.index (t.standings ref.name walk.index) es).given s in
          let here : (sources m env).now ref.name walk.index ≡ Some s = sym (ap (λ k. meant.referred k walk.index m ((sources m env).now ref.name walk.index)) known) ∙ gives in
          let other : (rec : ℕ) → t.standings ref.name walk.index ≡ Some (standing.Own rec) → ⊥ = λ rec stands. true≢false (sym (ready.standing.alone ref.name walk.index rec stands) ∙ u.other) in
          subst Q (sym known) (stream-counts r n r.widths (env ref.name walk.index) (t.standings ref.name walk.index) walk.index es (fits.stands ref.name walk.index) (numbers.stands ref.name walk.index) other s here)

earlier-counts : (r : Run) (n : ℕ) → IsSampled r n → (k : ℕ) (b : Option Bound) (o : Option Standing) (es : Equations) → StandsFor r.widths b o → HasNumbers r n b o → ((rec : ℕ) → o ≡ Some (standing.Own rec) → 1 ≤ k) → k ≤ 256 → Appends (made_by.earlier k o es).equations r.equations → (s : Stream) → option_map (streams.delayed (length r.samples) k) b ≡ Some s → IsNumbered r n (made_by.earlier k o es).given s
earlier-counts r n sampled k None o es stands has own high front s is = cc
earlier-counts r n sampled k (Some b) None es stands has own high front s is = absurd stands
earlier-counts r n sampled k (Some b) (Some (standing.Stream g init)) es stands has own high front s is =
    let m = length r.samples in
    let P : ℕ → Type 0 = λ c. Appends (delayed k g c es).equations r.equations → IsNumbered r n (delayed k g c es).given (streams.delayed m k b) in
    subst (IsNumbered r n (delayed k g init es).given) (same_Some (streams.delayed m k b) s is) (subst P (sym stands.init_same) (λ at. delayed-numbered r sampled.run k g b es at n sampled.within has) front)
earlier-counts r n sampled k (Some b) (Some (standing.Own rec)) es stands has own high front s is =
    let m = length r.samples in
    let low : 1 ≤ k = own rec refl in
    let P : Operand → Type 0 = λ a. IsNumbered r n (record { operand = a; signed = false }) s in
    subst P (sym (own_past-is rec k low high)) (subst (IsNumbered r n (record { operand = Past rec k; signed = false })) (same_Some (streams.delayed m k b) s is) (own-numbered r n rec k b false sampled.within low has))

delay-counts : (r : Run) (n : ℕ) → IsSampled r n → (ref : Ref) (k : Fixed) (t : Setting) (es : Equations) (env : Streams) → IsReady t true es → FitsIn t (scenery_of r env) r.widths → Numbers r n t env → DelayWalk ref k t.walk t.streaming t.scene → Appends (made_by.earlier (constant k t.known) (t.standings ref.name (made_by.place ref t.known)) es).equations r.equations → (s : Stream) → option_and_then (λ place. option_and_then ((sources (length r.samples) env).past ref.name place) (result_ok (constant_of k t.known))) (result_ok (place_of ref t.known)) ≡ Some s → IsNumbered r n (made_by.earlier (constant k t.known) (t.standings ref.name (made_by.place ref t.known)) es).given s
delay-counts r n sampled ref k t es env ready fits numbers walk front s is =
    subst P (sym (place-made t.walk t.known ready.visible.same ref walk.index walk.placed)) (λ at. subst Q (sym (constant-made t.walk t.known ready.visible.same k walk.amount walk.amount_is)) (λ there. earlier-counts r n sampled walk.amount (env ref.name walk.index) (t.standings ref.name walk.index) es (fits.stands ref.name walk.index) (numbers.stands ref.name walk.index) own walk.greatest there s gives) at) front where
      m : ℕ
      m = length r.samples

      Q : ℕ → Type 0
      Q x = Appends (made_by.earlier x (t.standings ref.name walk.index) es).equations r.equations → IsNumbered r n (made_by.earlier x (t.standings ref.name walk.index) es).given s

      P : Option ℕ → Type 0
      P x = Appends (made_by.earlier (constant k t.known) (t.standings ref.name x) es).equations r.equations → IsNumbered r n (made_by.earlier (constant k t.known) (t.standings ref.name x) es).given s

      gives : (sources m env).past ref.name walk.index walk.amount ≡ Some s
      gives = sym (ap (option_and_then ((sources m env).past ref.name walk.index)) (constant-meant t.walk t.known ready.visible.same k walk.amount walk.amount_is)) ∙ sym (ap (option_and_then (λ place. option_and_then ((sources m env).past ref.name place) (result_ok (constant_of k t.known)))) (place-meant t.walk t.known ready.visible.same ref walk.index walk.placed)) ∙ is

      own : (rec : ℕ) → t.standings ref.name walk.index ≡ Some (standing.Own rec) → 1 ≤ walk.amount
      own rec stands = elim walk.past_of [
        | inl p ↦ p.least
        | inr q ↦ absurd (true≢false (sym (ready.standing.alone ref.name walk.index rec stands) ∙ q.other))
      ]

-- ---- parts
undeclared : (b : Bool) (m : Expanded) → declared_at_operator b None m ≡ m
undeclared true m = refl
undeclared false m = refl

-- a part, which is at most 128 bits wide
under-part : (b : Bool) (o : Option Stream) (s : Stream) → part o ≡ Some s → under b None o ≡ Some s
under-part true o s is = is
under-part false None s is = cc
under-part false (Some u) s is = ap Some (sym (assigned-is None u s is))

-- the parts of an operator, a call or a concatenation, one after the other
pub record PartsCount (r : Run) (n : ℕ) (own : Option ℕ) (old : Equations) (all : AllExpanded) (meant : Option (List Stream)) : Type 0 where
  pub appends : Appends old all.equations
  pub formed : AreFormed own all.equations
  pub within : AreWithin (length all.equations) own all.given
  pub each : Appends all.equations r.equations → (ss : List Stream) → meant ≡ Some ss → AllZip (IsMeant r n) all.given ss

-- a part, of a text with such a past
abbrev first_made : Setting → Expr → Equations → Expanded
first_made t e es = (plan_of e).making (seen_by_equations t) t.standings es

abbrev first_meant : Setting → Expr → Scenery → Option Stream
first_meant t e x = (sense_of e).meaning (seen_by_meaning t) x.samples (sources x.samples x.env)

part-agrees : (e : Expr) (t : Setting) (c d : Count) (es : Equations) → walk_of e t.walk t.streaming t.scene c ≡ Ok d → IsReady t (past_of e t.walk) es → Agrees t.own (IsCalmIn t (past_of e t.walk)) (FitsIn t) es (first_made t e es) (λ x. part (first_meant t e x))
part-agrees e t c d es walk ready = agrees-part t.own (IsCalmIn t (past_of e t.walk)) (FitsIn t) es (plan_of e).is_operator (first_made t e es) (first_meant t e) (expression-agrees e t es c d None walk ready tt)

parts-split : (o : Option Stream) (os : List (Option Stream)) (ss : List Stream) → all_parts (o ∷ os) ≡ Some ss → (s : Stream) × (rest : List Stream) × (part o ≡ Some s) × (all_parts os ≡ Some rest) × (ss ≡ s ∷ rest)
parts-split o os ss is = split (part o) (all_parts os) is where
  split : (a : Option Stream) (b : Option (List Stream)) → option_and_then (λ s. option_map (λ rest. s ∷ rest) b) a ≡ Some ss → (s : Stream) × (rest : List Stream) × (a ≡ Some s) × (b ≡ Some rest) × (ss ≡ s ∷ rest)
  split None b is = cc
  split (Some s) None is = cc
  split (Some s) (Some rest) is = (s, rest, refl, refl, sym (same_Some (s ∷ rest) ss is))

part-meant : (r : Run) (n : ℕ) → IsSampled r n → (p : ProvedExpr (NumbersFact r n)) (t : Setting) (c d : Count) (es : Equations) → walk_of p.0 t.walk t.streaming t.scene c ≡ Ok d → IsReady t (past_of p.0 t.walk) es → (env : Streams) → FitsIn t (scenery_of r env) r.widths → Numbers r n t env → Appends (first_made t p.0 es).equations r.equations → (s : Stream) → part (first_meant t p.0 (scenery_of r env)) ≡ Some s → IsMeant r n (first_made t p.0 es).given s
part-meant r n sampled p t c d es walk ready env fits numbers front s is =
    let one = part-agrees p.0 t c d es walk ready in
    let found = one.found (scenery_of r env) r.widths fits (have-before (first_made t p.0 es).equations r.equations r.widths front sampled.have) in
    let same : found.stream ≡ s = same_Some found.stream s (sym found.is ∙ is) in
    let bare = undeclared (plan_of p.0).is_operator (first_made t p.0 es) in
    let front_there : Appends (declared_at_operator (plan_of p.0).is_operator None (first_made t p.0 es)).equations r.equations = subst (λ (m : Expanded). Appends m.equations r.equations) (sym bare) front in
    record {
      match = subst (Matches r.widths (first_made t p.0 es).given) same found.matches;
      numbered = subst (λ (m : Expanded). IsNumbered r n m.given s) bare (p.1 t c d es None walk ready tt env fits numbers front_there s (under-part (plan_of p.0).is_operator (first_meant t p.0 (scenery_of r env)) s is));
    }

part-more : (r : Run) (n : ℕ) → IsSampled r n → (p : ProvedExpr (NumbersFact r n)) (t : Setting) (c d : Count) (es : Equations) → walk_of p.0 t.walk t.streaming t.scene c ≡ Ok d → IsReady t (past_of p.0 t.walk) es → (env : Streams) → FitsIn t (scenery_of r env) r.widths → Numbers r n t env → (rest : AllExpanded) (os : List (Option Stream)) → PartsCount r n t.own (first_made t p.0 es).equations rest (all_parts os) → PartsCount r n t.own es (record { equations = rest.equations; given = (first_made t p.0 es).given ∷ rest.given }) (all_parts (first_meant t p.0 (scenery_of r env) ∷ os))
part-more r n sampled p t c d es walk ready env fits numbers rest os others =
    let first = first_made t p.0 es in
    let one = part-agrees p.0 t c d es walk ready in
    record {
      appends = appends-both es first.equations rest.equations one.grown.appends others.appends;
      formed = others.formed;
      within = (within-more (length first.equations) (length rest.equations) t.own first.given.operand (appends-length first.equations rest.equations others.appends) one.within, others.within);
      each = λ front ss is.
          let split = parts-split (first_meant t p.0 (scenery_of r env)) os ss is in
          let here = part-meant r n sampled p t c d es walk ready env fits numbers (appends-both first.equations rest.equations r.equations others.appends front) split.0 split.2 in
          subst (AllZip (IsMeant r n) (first.given ∷ rest.given)) (sym split.4) (here, others.each front split.1 split.3);
    }

-- the expressions of some that are proved, and whether one has a past
abbrev texts_of : (P : ExprFact) → List (ProvedExpr P) → List Expr
texts_of P ps = map (λ (p : ProvedExpr P). p.0) ps

abbrev have_past : Known → List Expr → Bool
have_past known es = list_any (λ (f : Known → Bool). f known) (map past_of es)

parts-count : (r : Run) (n : ℕ) → IsSampled r n → (ps : List (ProvedExpr (NumbersFact r n))) (t : Setting) (c d : Count) (es : Equations) (past : Bool) → AllWalk (texts_of (NumbersFact r n) ps) t.walk t.streaming t.scene c d → (have_past t.walk (texts_of (NumbersFact r n) ps) ≡ true → past ≡ true) → IsReady t past es → (env : Streams) → FitsIn t (scenery_of r env) r.widths → Numbers r n t env → PartsCount r n t.own es (all_made (map plan_of (texts_of (NumbersFact r n) ps)) (seen_by_equations t) t.standings es) (all_parts (senses (map sense_of (texts_of (NumbersFact r n) ps)) (seen_by_meaning t) (length r.samples) (sources (length r.samples) env)))
parts-count r n sampled [] t c d es past walks implied ready env fits numbers = record {
  appends = appends-nothing es;
  formed = ready.formed;
  within = tt;
  each = λ front ss is. subst (AllZip (IsMeant r n) []) (same_Some [] ss is) tt;
}
parts-count r n sampled (p ∷ ps) t c d es past walks implied ready env fits numbers =
    let first = first_made t p.0 es in
    let others = have_past t.walk (texts_of (NumbersFact r n) ps) in
    let ready_part : IsReady t (past_of p.0 t.walk) es = ready-part t past (past_of p.0 t.walk) es (or-first (past_of p.0 t.walk) others past implied) ready in
    let one = part-agrees p.0 t c walks.0 es walks.1 ready_part in
    let after : IsReady t past first.equations = ready-more t past es first.equations (IsCalmIn t (past_of p.0 t.walk)) one.grown ready in
    part-more r n sampled p t c walks.0 es walks.1 ready_part env fits numbers (all_made (map plan_of (texts_of (NumbersFact r n) ps)) (seen_by_equations t) t.standings first.equations) (senses (map sense_of (texts_of (NumbersFact r n) ps)) (seen_by_meaning t) (length r.samples) (sources (length r.samples) env)) (parts-count r n sampled ps t walks.0 d first.equations past walks.2 (or-rest (past_of p.0 t.walk) others past implied) after env fits numbers)

-- ---- operators
operator-counts : (r : Run) (n : ℕ) → IsSampled r n → (o : Op) (own : Option ℕ) (old : Equations) (all : AllExpanded) (d : Option ℕ) (os : Option (List Stream)) → is_operator o ≡ true → PartsCount r n own old all os → Appends (declared_at_operator true d (apply o all)).equations r.equations → (s : Stream) → assigned d (option_and_then (operate_on (length r.samples) o) os) ≡ Some s → IsNumbered r n (declared_at_operator true d (apply o all)).given s
operator-counts r n sampled o own old all d None plain parts front s is = absurd (nothing-assigned d s is)
operator-counts r n sampled o own old all d (Some ss) plain parts front s is =
    let same = declared-equation d o all.given all.equations in
    let here : Appends (with_equation o all.given d all.equations).equations r.equations = subst (λ (m : Expanded). Appends m.equations r.equations) same front in
    let meant = parts.each (appends-both all.equations (with_equation o all.given d all.equations).equations r.equations (appends-with o all.given d all.equations) here) ss refl in
    subst (λ (m : Expanded). IsNumbered r n m.given s) (sym same) (operator-meant r n sampled o all.given d all.equations plain here ss meant s is)

abbrev binary_made : Option Op → BinOp → Expr → Expr → Setting → Equations → Expanded
binary_made shift o a b t es = made_by.combined o shift (plan_of a) (plan_of b) (seen_by_equations t) t.standings es

binary-counts : (r : Run) (n : ℕ) → IsSampled r n → (o : BinOp) (a b : Box (ProvedExpr (NumbersFact r n))) (t : Setting) (c d : Count) (es : Equations) (width : Option ℕ) → BinaryWalk o a.value.0 b.value.0 t.walk t.streaming t.scene c d → IsReady t (past_of a.value.0 t.walk || past_of b.value.0 t.walk) es → (env : Streams) → FitsIn t (scenery_of r env) r.widths → Numbers r n t env → Appends (declared_at_operator true width (binary_made (constant_shift o ((plan_of b.value.0).amount t.known)) o a.value.0 b.value.0 t es)).equations r.equations → (s : Stream) → assigned width (meant.combined (length r.samples) o (constant_shift o ((sense_of b.value.0).amount t.known)) (first_meant t a.value.0 (scenery_of r env)) (first_meant t b.value.0 (scenery_of r env))) ≡ Some s → IsNumbered r n (declared_at_operator true width (binary_made (constant_shift o ((plan_of b.value.0).amount t.known)) o a.value.0 b.value.0 t es)).given s
binary-counts r n sampled o a b t c d es width w ready env fits numbers front s is = elim w.rest [ inl x ↦ shifted x | inr x ↦ paired x ] where
  amounts : (shift : Option Op) → constant_shift o (amount_of b.value.0 t.walk) ≡ shift → (constant_shift o ((plan_of b.value.0).amount t.known) ≡ shift) × (constant_shift o ((sense_of b.value.0).amount t.known) ≡ shift)
  amounts shift is = (shift-made t.walk t.known ready.visible.same o b.value.0 ∙ is, shift-meant t.walk t.known ready.visible.same o b.value.0 ∙ is)

  P : Option Op → Type 0
  P x = Appends (declared_at_operator true width (binary_made x o a.value.0 b.value.0 t es)).equations r.equations → IsNumbered r n (declared_at_operator true width (binary_made x o a.value.0 b.value.0 t es)).given s

  gives : (shift : Option Op) → constant_shift o ((sense_of b.value.0).amount t.known) ≡ shift → assigned width (meant.combined (length r.samples) o shift (first_meant t a.value.0 (scenery_of r env)) (first_meant t b.value.0 (scenery_of r env))) ≡ Some s
  gives shift same = sym (ap (λ x. assigned width (meant.combined (length r.samples) o x (first_meant t a.value.0 (scenery_of r env)) (first_meant t b.value.0 (scenery_of r env)))) same) ∙ is

  shifted : ShiftWalk o b.value.0 t.walk → IsNumbered r n (declared_at_operator true width (binary_made (constant_shift o ((plan_of b.value.0).amount t.known)) o a.value.0 b.value.0 t es)).given s
  shifted x =
      let both = amounts (Some x.shift) x.shift_is in
      let parts = parts-count r n sampled (a.value ∷ []) t c w.between es (past_of a.value.0 t.walk || past_of b.value.0 t.walk) (w.between, w.first, refl) (first-of-two (past_of a.value.0 t.walk) (past_of b.value.0 t.walk)) ready env fits numbers in
      subst P (sym both.0) (λ at. operator-counts r n sampled x.shift t.own es (all_made (plan_of a.value.0 ∷ []) (seen_by_equations t) t.standings es) width (all_parts (first_meant t a.value.0 (scenery_of r env) ∷ [])) (shifts-operate x.amount x.shift x.which) parts at s (gives (Some x.shift) both.1)) front

  paired : PairWalk o b.value.0 t.walk t.streaming t.scene w.between d → IsNumbered r n (declared_at_operator true width (binary_made (constant_shift o ((plan_of b.value.0).amount t.known)) o a.value.0 b.value.0 t es)).given s
  paired x =
      let both = amounts None x.no_shift in
      let parts = parts-count r n sampled (a.value ∷ b.value ∷ []) t c d es (past_of a.value.0 t.walk || past_of b.value.0 t.walk) (w.between, w.first, (d, x.part, refl)) (two-of-two (past_of a.value.0 t.walk) (past_of b.value.0 t.walk)) ready env fits numbers in
      subst P (sym both.0) (λ at. operator-counts r n sampled (operator o) t.own es (all_made (plan_of a.value.0 ∷ plan_of b.value.0 ∷ []) (seen_by_equations t) t.standings es) width (all_parts (first_meant t a.value.0 (scenery_of r env) ∷ first_meant t b.value.0 (scenery_of r env) ∷ [])) (operators-operate o) parts at s (gives None both.1)) front

-- ---- calls
call-counts : (r : Run) (n : ℕ) → IsSampled r n → (name : List ℕ) (args : List (ProvedExpr (NumbersFact r n))) (t : Setting) (c : Count) (es : Equations) → CallWalk name (texts_of (NumbersFact r n) args) t.walk t.streaming t.scene c → IsReady t (is_past (t.walk name) || have_past t.walk (texts_of (NumbersFact r n) args)) es → (env : Streams) → FitsIn t (scenery_of r env) r.widths → Numbers r n t env → Appends (made_by.called (made_by.function_of (t.known name) (t.inlined name)) (all_made (map plan_of (texts_of (NumbersFact r n) args)) (seen_by_equations t) t.standings es)).equations r.equations → (s : Stream) → option_and_then (λ ss. option_and_then (λ (f : meant.Function). f (length r.samples) ss) (t.meanings name)) (all_parts (senses (map sense_of (texts_of (NumbersFact r n) args)) (seen_by_meaning t) (length r.samples) (sources (length r.samples) env))) ≡ Some s → IsNumbered r n (made_by.called (made_by.function_of (t.known name) (t.inlined name)) (all_made (map plan_of (texts_of (NumbersFact r n) args)) (seen_by_equations t) t.standings es)).given s
call-counts r n sampled name args t c es w ready env fits numbers front s is = subst P (sym made_is) here front where
  m : ℕ
  m = length r.samples

  call : IsCallable w.callee (t.meanings name) (t.inlined name)
  call = ready.visible.calls name w.callee w.is

  all : AllExpanded
  all = all_made (map plan_of (texts_of (NumbersFact r n) args)) (seen_by_equations t) t.standings es

  P : Option made_by.Inlined → Type 0
  P f = Appends (made_by.called f all).equations r.equations → IsNumbered r n (made_by.called f all).given s

  made_is : made_by.function_of (t.known name) (t.inlined name) ≡ Some call.making
  made_is = ap (λ k. made_by.function_of k (t.inlined name)) (same-static t.walk t.known ready.visible.same name (Function w.callee) w.is) ∙ call.inlined_is

  parts : PartsCount r n t.own es all (all_parts (senses (map sense_of (texts_of (NumbersFact r n) args)) (seen_by_meaning t) m (sources m env)))
  parts = parts-count r n sampled args t c w.between es (is_past (t.walk name) || have_past t.walk (texts_of (NumbersFact r n) args)) w.parts (or-rest (is_past (t.walk name)) (have_past t.walk (texts_of (NumbersFact r n) args)) (is_past (t.walk name) || have_past t.walk (texts_of (NumbersFact r n) args)) (λ h. h)) ready env fits numbers

  lone : w.callee.past ≡ true → t.own ≡ None
  lone past =
      let reads : is_past (t.walk name) ≡ true = ap is_past w.is ∙ past in
      let apart : is_none t.scene.own ≡ true = not-within (is_none t.scene.own) refl in
      ready.clear.lone (or-first (is_past (t.walk name)) (have_past t.walk (texts_of (NumbersFact r n) args)) (is_past (t.walk name) || have_past t.walk (texts_of (NumbersFact r n) args)) (λ h. h) reads) apart where
        not-within : (b : Bool) → is_none t.scene.own ≡ b → is_none t.scene.own ≡ true
        not-within true is = is
        not-within false is = absurd (true≢false (sym past ∙ w.may.calm is))

  count : length all.given ≡ w.callee.params
  count = given-length (map plan_of (texts_of (NumbersFact r n) args)) (seen_by_equations t) t.standings es ∙ length-map (texts_of (NumbersFact r n) args) plan_of ∙ w.may.count

  gives : option_and_then (λ ss. call.function m ss) (all_parts (senses (map sense_of (texts_of (NumbersFact r n) args)) (seen_by_meaning t) m (sources m env))) ≡ Some s
  gives = sym (ap (λ f. option_and_then (λ ss. option_and_then (λ (g : meant.Function). g m ss) f) (all_parts (senses (map sense_of (texts_of (NumbersFact r n) args)) (seen_by_meaning t) m (sources m env)))) call.meant_is) ∙ is

  by_parts : (o : Option (List Stream)) → all_parts (senses (map sense_of (texts_of (NumbersFact r n) args)) (seen_by_meaning t) m (sources m env)) ≡ o → option_and_then (λ ss. call.function m ss) o ≡ Some s → Appends (call.making all.given all.equations).equations r.equations → IsNumbered r n (call.making all.given all.equations).given s
  by_parts None are none there = cc
  by_parts (Some ss) are some there = (numbers.calls name w.callee call.function call.making w.is call.meant_is call.inlined_is).numbered n sampled.within t.own lone all.given all.equations parts.formed count parts.within there ss (parts.each (appends-both all.equations (call.making all.given all.equations).equations r.equations (call.does.agrees t.own lone all.given all.equations parts.formed count parts.within).grown.appends there) ss are) s some

  here : P (Some call.making)
  here there = by_parts (all_parts (senses (map sense_of (texts_of (NumbersFact r n) args)) (seen_by_meaning t) m (sources m env))) refl gives there

-- ---- concatenations
unsigned-meant : (r : Run) (n : ℕ) (g : Given) (s : Stream) → IsMeant r n g s → IsMeant r n (record { operand = g.operand; signed = false }) (unsigned s)
unsigned-meant r n g s meant = record {
  match = matches-unsigned r.widths g s meant.match;
  numbered = record { count = meant.numbered.count; each = meant.numbered.each };
}

-- more than one part
two-parts : (gs : List Given) → nat_le 2 (suc (suc (length gs))) ≡ true
two-parts gs = le-leb 2 (suc (suc (length gs))) (omega arith)

cat-front : (d : Option ℕ) (gs : List Given) (es : Equations) (b : Bool) → b ≡ nat_le 2 (length gs) → Appends es (declared_at_operator b d (made_by.concatenated gs es)).equations
cat-front d [] es true is = cc
cat-front d [] es false is = appends-nothing es
cat-front d (g ∷ []) es true is = cc
cat-front d (g ∷ []) es false is = appends-nothing es
cat-front d (g ∷ h ∷ gs) es true is = beside-front d (made es g.operand false) h gs
cat-front d (g ∷ h ∷ gs) es false is = absurd (true≢false (sym (is ∙ two-parts gs)))

cat-meant : (r : Run) (n : ℕ) → IsSampled r n → (d : Option ℕ) (gs : List Given) (ss : List Stream) → AllZip (IsMeant r n) gs ss → (es : Equations) (b : Bool) → b ≡ nat_le 2 (length gs) → Appends (declared_at_operator b d (made_by.concatenated gs es)).equations r.equations → (s : Stream) → under b d (meant.concatenated (length r.samples) ss) ≡ Some s → IsNumbered r n (declared_at_operator b d (made_by.concatenated gs es)).given s
cat-meant r n sampled d [] [] meant es true count front s is = cc
cat-meant r n sampled d [] [] meant es false count front s is = subst (IsNumbered r n (record { operand = Const 0; signed = false })) (same_Some (constant_stream (length r.samples) 0) s is) (constant-numbered r n 0 sampled.within false)
cat-meant r n sampled d [] (u ∷ ss) meant es b count front s is = absurd meant
cat-meant r n sampled d (g ∷ gs) [] meant es b count front s is = absurd meant
cat-meant r n sampled d (g ∷ []) (u ∷ []) meant es true count front s is = cc
cat-meant r n sampled d (g ∷ []) (u ∷ []) meant es false count front s is = subst (IsNumbered r n (record { operand = g.operand; signed = false })) (same_Some (unsigned u) s is) (unsigned-meant r n g u meant.0).numbered
cat-meant r n sampled d (g ∷ []) (u ∷ v ∷ ss) meant es b count front s is = absurd meant.1
cat-meant r n sampled d (g ∷ h ∷ gs) (u ∷ []) meant es b count front s is = absurd meant.1
cat-meant r n sampled d (g ∷ h ∷ gs) (u ∷ v ∷ ss) meant es true count front s is = beside-meant r n sampled (h ∷ gs) (v ∷ ss) meant.1 d (made es g.operand false) (unsigned u) (unsigned-meant r n g u meant.0) front s is
cat-meant r n sampled d (g ∷ h ∷ gs) (u ∷ v ∷ ss) meant es false count front s is = absurd (true≢false (sym (count ∙ two-parts gs)))

nothing-under : (b : Bool) (d : Option ℕ) (s : Stream) → under b d None ≡ Some s → ⊥
nothing-under true d s is = nothing-assigned d s is
nothing-under false d s is = cc

cat-counts : (r : Run) (n : ℕ) → IsSampled r n → (own : Option ℕ) (old : Equations) (count : ℕ) (all : AllExpanded) (d : Option ℕ) (os : Option (List Stream)) → count ≡ length all.given → PartsCount r n own old all os → Appends (declared_at_operator (nat_le 2 count) d (made_by.concatenated all.given all.equations)).equations r.equations → (s : Stream) → under (nat_le 2 count) d (option_and_then (meant.concatenated (length r.samples)) os) ≡ Some s → IsNumbered r n (declared_at_operator (nat_le 2 count) d (made_by.concatenated all.given all.equations)).given s
cat-counts r n sampled own old count all d None count_is parts front s is = absurd (nothing-under (nat_le 2 count) d s is)
cat-counts r n sampled own old count all d (Some ss) count_is parts front s is =
    let same : nat_le 2 count ≡ nat_le 2 (length all.given) = ap (nat_le 2) count_is in
    let there = appends-both all.equations (declared_at_operator (nat_le 2 count) d (made_by.concatenated all.given all.equations)).equations r.equations (cat-front d all.given all.equations (nat_le 2 count) same) front in
    cat-meant r n sampled d all.given ss (parts.each there ss refl) all.equations (nat_le 2 count) same front s is

-- ---- one layer
numbers-layer : (r : Run) (n : ℕ) → IsSampled r n → (y : Expr-F (ProvedExpr (NumbersFact r n))) → ExprLayer (NumbersFact r n) y
numbers-layer r n sampled (Expr-F.Number k) t c d es width walk ready lawful env fits numbers front s is = subst (IsNumbered r n (record { operand = Const k; signed = false })) (same_Some (constant_stream (length r.samples) k) s is) (constant-numbered r n k sampled.within false)
numbers-layer r n sampled (Expr-F.Refer ref) t c d es width walk ready lawful env fits numbers front s is = refer-counts r n sampled ref t es env ready fits numbers (refer-inverted ref t.walk t.streaming t.scene c d walk) s is
numbers-layer r n sampled (Expr-F.Delay ref k) t c d es width walk ready lawful env fits numbers front s is = delay-counts r n sampled ref k t es env ready fits numbers (delay-inverted ref k t.walk t.streaming t.scene c d walk) front s is
numbers-layer r n sampled (Expr-F.Slice e high low) t c d es width walk ready lawful env fits numbers front s is =
    let m = length r.samples in
    let w = slice-inverted e.value.0 high low t.walk t.streaming t.scene c d walk in
    let same = ready.visible.same in
    let parts = parts-count r n sampled (e.value ∷ []) t c d es (past_of e.value.0 t.walk) (d, w.part, refl) (one-of-one (past_of e.value.0 t.walk)) ready env fits numbers in
    let high_is : result_ok (constant_of high t.known) ≡ Some (constant high t.known) = constant-meant t.walk t.known same high w.from w.high_is ∙ ap Some (sym (constant-made t.walk t.known same high w.from w.high_is)) in
    let low_is : result_ok (constant_of low t.known) ≡ Some (constant low t.known) = constant-meant t.walk t.known same low w.to w.low_is ∙ ap Some (sym (constant-made t.walk t.known same low w.to w.low_is)) in
    let part_of : Option Stream = first_meant t e.value.0 (scenery_of r env) in
    let gives = sym (ap₂ (λ a b. assigned width (option_and_then (λ h. option_and_then (λ l. operate m (op.Slice h l) (part_of ∷ [])) b) a)) high_is low_is) ∙ is in
    operator-counts r n sampled (op.Slice (constant high t.known) (constant low t.known)) t.own es (all_made (plan_of e.value.0 ∷ []) (seen_by_equations t) t.standings es) width (all_parts (part_of ∷ [])) refl parts front s gives
numbers-layer r n sampled (Expr-F.Not e) t c d es width walk ready lawful env fits numbers front s is =
    let parts = parts-count r n sampled (e.value ∷ []) t c d es (past_of e.value.0 t.walk) (d, walk, refl) (one-of-one (past_of e.value.0 t.walk)) ready env fits numbers in
    operator-counts r n sampled op.Not t.own es (all_made (plan_of e.value.0 ∷ []) (seen_by_equations t) t.standings es) width (all_parts (first_meant t e.value.0 (scenery_of r env) ∷ [])) refl parts front s is
numbers-layer r n sampled (Expr-F.Binary o a b) t c d es width walk ready lawful env fits numbers front s is =
    binary-counts r n sampled o a b t c d es width (binary-inverted o a.value.0 b.value.0 t.walk t.streaming t.scene c d walk) ready env fits numbers front s is
numbers-layer r n sampled (Expr-F.Choose e a b) t c d es width walk ready lawful env fits numbers front s is =
    let w = choose-inverted e.value.0 a.value.0 b.value.0 t.walk t.streaming t.scene c d walk in
    let x = scenery_of r env in
    let parts = parts-count r n sampled (e.value ∷ a.value ∷ b.value ∷ []) t c d es (past_of e.value.0 t.walk || past_of a.value.0 t.walk || past_of b.value.0 t.walk) (w.after_test, w.test, (w.after_first, w.first, (d, w.other, refl))) (three-of-three (past_of e.value.0 t.walk) (past_of a.value.0 t.walk) (past_of b.value.0 t.walk)) ready env fits numbers in
    operator-counts r n sampled op.Choose t.own es (all_made (plan_of e.value.0 ∷ plan_of a.value.0 ∷ plan_of b.value.0 ∷ []) (seen_by_equations t) t.standings es) width (all_parts (first_meant t e.value.0 x ∷ first_meant t a.value.0 x ∷ first_meant t b.value.0 x ∷ [])) refl parts front s is
numbers-layer r n sampled (Expr-F.Call name args) t c d es width walk ready lawful env fits numbers front s is = call-counts r n sampled name args.items t c es (call-inverted name (texts_of (NumbersFact r n) args.items) t.walk t.streaming t.scene c d walk) ready env fits numbers front s is
numbers-layer r n sampled (Expr-F.Cat parts) t c d es width walk ready lawful env fits numbers front s is =
    let texts = texts_of (NumbersFact r n) parts.items in
    let m = length r.samples in
    let all = all_made (map plan_of texts) (seen_by_equations t) t.standings es in
    let count = parts-count r n sampled parts.items t c d es (have_past t.walk texts) (parts-inverted texts t.walk t.streaming t.scene c d walk) (λ h. h) ready env fits numbers in
    cat-counts r n sampled t.own es (length (map plan_of texts)) all width (all_parts (senses (map sense_of texts) (seen_by_meaning t) m (sources m env))) (sym (given-length (map plan_of texts) (seen_by_equations t) t.standings es)) count front s is
numbers-layer r n sampled (Expr-F.Paren e) t c d es width walk ready lawful env fits numbers front s is = e.value.1 t c d es width walk ready lawful env fits numbers front s is

pub numbers-expression : (r : Run) (n : ℕ) → IsSampled r n → (e : Expr) → OfExpr (NumbersFact r n) e
numbers-expression r n sampled = each-expression (NumbersFact r n) (numbers-layer r n sampled)
