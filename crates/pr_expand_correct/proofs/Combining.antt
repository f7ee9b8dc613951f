-- What agrees, put together: one equation more, operators, parts, calls.
use Rattle.std.proofs.Common.{◌≡◌, ◌∙◌, ◌≤◌, ℕ, zero, suc, Bool, true, false, cond, not, ◌&&◌, is_some, List, [], ◌∷◌, ◌++◌, map, length, get_or, Option, Some, None, option_map, refl, sym, ap, ap₂, subst, arith, inl, inr}
use Rattle.std.specs.List.{slice_get, AllZip}
use Rattle.std.specs.Option.{option_and_then}
use Rattle.pr_flat.specs.declared.equations.Operand.TheVariants.{Eq}
use Rattle.pr_flat.specs.declared.equations.Op.{Op}
use Rattle.pr_flat.specs.declared.equations.Op.TheVariants.{Delay, Rec}
use Rattle.pr_flat.specs.Forms.{Stream}
use Rattle.pr_flat.specs.Shape.{EquationShape, EachEquation}
use Rattle.pr_flat.specs.Facts.{is_rec, is_width}
use Rattle.pr_flat.specs.Widths.{width_in, is_open}
use Rattle.std.proofs.lemmas.Bool.{cases_lt}
use Rattle.pr_flat.proofs.WidthLemmas.{equation_at, one_equation}
use Rattle.pr_lang_meaning.specs.Streams.{assigned, operate_on}
use Rattle.pr_lang_meaning.specs.Expressions.{Function}
use Rattle.pr_expand_spec.specs.declared.givens.Given.{Given}
use Rattle.pr_expand_spec.specs.Making.{Expanded, made, given_signed, given_operand, kinds_read, is_signed, with_equation}
use Rattle.pr_expand_spec.specs.Expressions.{AllExpanded}
use Rattle.pr_scope_facts.proofs.Appending.{Appends, appends-nothing, appends-both, appends-length, appends-at}
use Rattle.pr_expand_correct.proofs.Related.{Have, AreRead, IsPlain, AreFormed, AreWithin, AreSameOutside, AreKept, IsAhead, Matches, IsFound, AreExtended, IsGrown, Agrees, AreFound, AllAgree, Arguments}
use Rattle.pr_expand_correct.proofs.Keeping.{at-end, each-push, have-front, have-before, have-push, have-kept, kept-outside, outside-both, outside-nowhere, with_width, width-here, outside-here, within-read, within-more, length-push, formed-push}
use Rattle.pr_expand_correct.proofs.Forms.{is_operator, IsLawful, Settled, settled-operator}

-- what fits goes on to fit where n equations look
pub record Keeps {X : Type 0} (n : ℕ) (own : Option ℕ) (fits : X → List ℕ → Type 0) : Type 0 where
  pub at : (x : X) (widths others : List ℕ) → AreKept n own widths others → fits x widths → fits x others

pub ahead-less : (m n : ℕ) (own : Option ℕ) → m ≤ n → IsAhead n own → IsAhead m own
ahead-less m n own low ahead rec is = let high : n ≤ rec = ahead rec is in omega arith

-- ---- what grows
pub grown-nothing : (own : Option ℕ) (calm : Type 0) (es : List EquationShape) → AreFormed own es → IsGrown own calm es es
grown-nothing own calm es formed = record {
  appends = appends-nothing es;
  formed = formed;
  calm_kept = λ is i e there low. absurd (beyond es i e there low);
} where
  beyond : (xs : List EquationShape) (i : ℕ) (e : EquationShape) → slice_get xs i ≡ Some e → length xs ≤ i → ⊥
  beyond [] i e there low = cc
  beyond (x ∷ xs) zero e there low = omega arith
  beyond (x ∷ xs) (suc i) e there low = beyond xs i e there (omega arith)

calm-both : (a b c : List EquationShape) → Appends b c → EachEquation b (λ i e. length a ≤ i → is_rec e.op ≡ false) → EachEquation c (λ i e. length b ≤ i → is_rec e.op ≡ false) → EachEquation c (λ i e. length a ≤ i → is_rec e.op ≡ false)
calm-both a b c grows first second i e there low = elim (cases_lt i (length b)) [
  | inl early ↦
      let at = equation_at b i early in
      let same : at.0 ≡ e = one_equation c i at.0 e (appends-at b c grows i at.0 at.1) there in
      subst (λ (f : EquationShape). is_rec f.op ≡ false) same (first i at.0 at.1 low)
  | inr late ↦ second i e there late
]

pub grown-both : (own : Option ℕ) (calm : Type 0) (a b c : List EquationShape) → IsGrown own calm a b → IsGrown own calm b c → IsGrown own calm a c
grown-both own calm a b c first second = record {
  appends = appends-both a b c first.appends second.appends;
  formed = second.formed;
  calm_kept = λ is. calm-both a b c second.appends (first.calm_kept is) (second.calm_kept is);
}

pub grown-push : (own : Option ℕ) (calm : Type 0) (old es : List EquationShape) (e : EquationShape) → IsGrown own calm old es → AreRead (length es) own e.args → is_rec e.op ≡ false → ((c : ℕ) → e.op ≡ Delay c → IsPlain e) → IsGrown own calm old (es ++ e ∷ [])
grown-push own calm old es e grown read plain_op plain = record {
  appends = appends-both old es (es ++ e ∷ []) grown.appends (record { more = e ∷ []; is = refl });
  formed = formed-push own es e grown.formed read plain (λ init first op. absurd (no_rec init first op));
  calm_kept = λ is. each-push (λ i d. length old ≤ i → is_rec d.op ≡ false) es e (grown.calm_kept is) (λ low. plain_op);
} where
  no_rec : (init first : ℕ) → e.op ≡ Rec init first → ⊥
  no_rec init first op = let P : Op → Type 0 = λ o. is_rec o ≡ false in let none : is_rec (Rec init first) ≡ false = subst P op plain_op in cc

-- ---- one equation more
pub not-open : (e : EquationShape) → is_rec e.op ≡ false → is_open e ≡ false
not-open e plain = ap (λ b. b && not (is_some e.declared)) plain

pub found-settled : (widths : List ℕ) (n : ℕ) (signed : Bool) (o : Option Stream) → Settled signed (Some (get_or widths n 0)) o → IsFound widths (record { operand = Eq n; signed = signed }) o
found-settled widths n signed None settled = absurd settled
found-settled widths n signed (Some s) settled = record { stream = s; is = refl; matches = record { form = settled.form; greatest = settled.greatest } }

settled-width : (signed : Bool) (w : Option ℕ) (s : Stream) → Settled signed w (Some s) → w ≡ Some s.form.width
settled-width signed None s settled = absurd settled
settled-width signed (Some w) s settled = ap (λ f. Some f.width) (sym settled.form)

pub agrees-push : {X : Type 0} (own : Option ℕ) (calm : Type 0) (fits : X → List ℕ → Type 0) (old es : List EquationShape) (e : EquationShape) (signed : Bool) (meant : X → Option Stream) → Keeps (length old) own fits → IsGrown own calm old es → AreRead (length es) own e.args → is_rec e.op ≡ false → ((c : ℕ) → e.op ≡ Delay c → IsPlain e) → ((x : X) (widths : List ℕ) → fits x widths → Have es widths → Settled signed (width_in widths e) (meant x)) → ((x : X) (widths : List ℕ) (s : Stream) → fits x widths → Have old widths → IsAhead (length es) own → meant x ≡ Some s → AreExtended old es widths) → Agrees own calm fits old (made (es ++ e ∷ []) (Eq (length es)) signed) meant
agrees-push {X} own calm fits old es e signed meant keeps grown read plain_op plain settled extended = record {
  grown = grown-push own calm old es e grown read plain_op plain;
  within = omega (arith, length-push es e);
  found = found;
  extended = more;
} where
  found : (x : X) (widths : List ℕ) → fits x widths → Have (es ++ e ∷ []) widths → IsFound widths (record { operand = Eq (length es); signed = signed }) (meant x)
  found x widths fit have =
      let width = have.each (length es) e (at-end es e) (not-open e plain_op) in
      found-settled widths (length es) signed (meant x) (subst (λ w. Settled signed w (meant x)) width (settled x widths fit (have-front es (e ∷ []) widths have)))

  more : (x : X) (widths : List ℕ) (s : Stream) → fits x widths → Have old widths → IsAhead (length (es ++ e ∷ [])) own → meant x ≡ Some s → AreExtended old (es ++ e ∷ []) widths
  more x widths s fit have ahead is =
      let n = length es in
      let longer : length (es ++ e ∷ []) ≡ suc n = length-push es e in
      let low : length old ≤ n = appends-length old es grown.appends in
      let before = extended x widths s fit have (ahead-less n (length (es ++ e ∷ [])) own (omega (arith, longer)) ahead) is in
      let others = with_width before.others n s.form.width in
      let over : AreSameOutside n (suc n) before.others others = outside-here before.others n s.form.width in
      let next : IsAhead (suc n) own = ahead-less (suc n) (length (es ++ e ∷ [])) own (omega (arith, longer)) ahead in
      let same : AreSameOutside (length old) (suc n) widths others = outside-both (length old) n (suc n) widths before.others others low (omega arith) before.same over in
      let kept : Have es others = have-kept es own before.others others grown.formed (kept-outside n (suc n) own before.others others over next) before.have in
      let fit_after : fits x others = keeps.at x widths others (kept-outside (length old) (suc n) own widths others same next) fit in
      let width = settled-width signed (width_in others e) s (subst (Settled signed (width_in others e)) is (settled x others fit_after kept)) in
      record {
        others = others;
        same = subst (λ k. AreSameOutside (length old) k widths others) (sym longer) same;
        have = have-push es e others kept (λ closed. width ∙ ap Some (sym (width-here before.others n s.form.width))) (λ init first open_. let closed = not-open e plain_op in cc);
      }

-- ---- operators
operator-plain : (op : Op) → is_operator op ≡ true → is_rec op ≡ false
operator-plain (Rec init first) is = cc
operator-plain op is = refl

operator-no_delay : (op : Op) (c : ℕ) → is_operator op ≡ true → op ≡ Delay c → ⊥
operator-no_delay op c is same = let none : is_operator (Delay c) ≡ true = subst (λ o. is_operator o ≡ true) same is in cc

pub within-reads : (n : ℕ) (own : Option ℕ) (gs : List Given) → AreWithin n own gs → AreRead n own (map given_operand gs)
within-reads n own [] within = tt
within-reads n own (g ∷ gs) within = (within-read n own g.operand within.0, within-reads n own gs within.1)

pub nothing-assigned : (d : Option ℕ) (s : Stream) → assigned d None ≡ Some s → ⊥
nothing-assigned None s is = cc
nothing-assigned (Some w) s is = nothing (is_width w) is where
  nothing : (c : Bool) → cond c None None ≡ Some s → ⊥
  nothing true is = cc
  nothing false is = cc

pub agrees-operator : {X : Type 0} (own : Option ℕ) (calm : Type 0) (fits : X → List ℕ → Type 0) (old : List EquationShape) (all : AllExpanded) (meant : X → Option (List Stream)) (samples : X → ℕ) (op : Op) (d : Option ℕ) → Keeps (length old) own fits → AllAgree own calm fits old all meant → is_operator op ≡ true → IsLawful d → Agrees own calm fits old (with_equation op all.given d all.equations) (λ x. assigned d (option_and_then (operate_on (samples x) op) (meant x)))
agrees-operator {X} own calm fits old all meant samples op d keeps agree is lawful =
    let kinds = kinds_read op (map given_signed all.given) in
    let e : EquationShape = record { op = op; args = map given_operand all.given; declared = d; kinds = kinds } in
    agrees-push own calm fits old all.equations e (is_signed op kinds) (λ x. assigned d (option_and_then (operate_on (samples x) op) (meant x))) keeps agree.grown (within-reads (length all.equations) own all.given agree.within) (operator-plain op is) (λ c same. absurd (operator-no_delay op c is same)) settled extended where
      settled : (x : X) (widths : List ℕ) → fits x widths → Have all.equations widths → Settled (is_signed op (kinds_read op (map given_signed all.given))) (width_in widths (record { op = op; args = map given_operand all.given; declared = d; kinds = kinds_read op (map given_signed all.given) })) (assigned d (option_and_then (operate_on (samples x) op) (meant x)))
      settled x widths fit have =
          let parts = agree.found x widths fit have in
          subst (λ o. Settled (is_signed op (kinds_read op (map given_signed all.given))) (width_in widths (record { op = op; args = map given_operand all.given; declared = d; kinds = kinds_read op (map given_signed all.given) })) (assigned d (option_and_then (operate_on (samples x) op) o))) (sym parts.are) (settled-operator widths (samples x) op d all.given parts.streams is lawful parts.match)

      by_parts : (x : X) (widths : List ℕ) (s : Stream) (o : Option (List Stream)) → fits x widths → Have old widths → IsAhead (length all.equations) own → meant x ≡ o → assigned d (option_and_then (operate_on (samples x) op) o) ≡ Some s → AreExtended old all.equations widths
      by_parts x widths s None fit have ahead same gives = absurd (nothing-assigned d s gives)
      by_parts x widths s (Some ss) fit have ahead same gives = agree.extended x widths ss fit have ahead same

      extended : (x : X) (widths : List ℕ) (s : Stream) → fits x widths → Have old widths → IsAhead (length all.equations) own → assigned d (option_and_then (operate_on (samples x) op) (meant x)) ≡ Some s → AreExtended old all.equations widths
      extended x widths s fit have ahead gives = by_parts x widths s (meant x) fit have ahead refl gives

-- ---- parts
pub agrees-no_parts : {X : Type 0} (own : Option ℕ) (calm : Type 0) (fits : X → List ℕ → Type 0) (old : List EquationShape) → AreFormed own old → AllAgree own calm fits old (record { equations = old; given = [] }) (λ x. Some [])
agrees-no_parts own calm fits old formed = record {
  grown = grown-nothing own calm old formed;
  within = tt;
  found = λ x widths fit have. record { streams = []; are = refl; match = tt };
  extended = λ x widths ss fit have ahead is. record { others = widths; same = outside-nowhere (length old) (length old) widths; have = have };
}

abbrev pub first_of_both : Option Stream → Option (List Stream) → Option (List Stream)
first_of_both o os = option_and_then (λ s. option_map (λ ss. s ∷ ss) os) o

both-some : (o : Option Stream) (os : Option (List Stream)) (ss : List Stream) → first_of_both o os ≡ Some ss → (s : Stream) × (rest : List Stream) × (o ≡ Some s) × (os ≡ Some rest)
both-some None os ss is = cc
both-some (Some s) None ss is = cc
both-some (Some s) (Some rest) ss is = (s, rest, refl, refl)

pub agrees-part_more : {X : Type 0} (own : Option ℕ) (calm : Type 0) (fits : X → List ℕ → Type 0) (old : List EquationShape) (first : Expanded) (rest : AllExpanded) (o : X → Option Stream) (os : X → Option (List Stream)) → Keeps (length old) own fits → Agrees own calm fits old first o → AllAgree own calm fits first.equations rest os → AllAgree own calm fits old (record { equations = rest.equations; given = first.given ∷ rest.given }) (λ x. first_of_both (o x) (os x))
agrees-part_more {X} own calm fits old first rest o os keeps one all = record {
  grown = grown-both own calm old first.equations rest.equations one.grown all.grown;
  within = (within-more (length first.equations) (length rest.equations) own first.given.operand high one.within, all.within);
  found = found;
  extended = extended;
} where
  low : length old ≤ length first.equations
  low = appends-length old first.equations one.grown.appends

  high : length first.equations ≤ length rest.equations
  high = appends-length first.equations rest.equations all.grown.appends

  found : (x : X) (widths : List ℕ) → fits x widths → Have rest.equations widths → AreFound widths (first.given ∷ rest.given) (first_of_both (o x) (os x))
  found x widths fit have =
      let others = all.found x widths fit have in
      let here = one.found x widths fit (have-before first.equations rest.equations widths all.grown.appends have) in
      record {
        streams = here.stream ∷ others.streams;
        are = ap₂ first_of_both here.is others.are;
        match = (here.matches, others.match);
      }

  extended : (x : X) (widths : List ℕ) (ss : List Stream) → fits x widths → Have old widths → IsAhead (length rest.equations) own → first_of_both (o x) (os x) ≡ Some ss → AreExtended old rest.equations widths
  extended x widths ss fit have ahead is =
      let both = both-some (o x) (os x) ss is in
      let near = ahead-less (length first.equations) (length rest.equations) own high ahead in
      let here = one.extended x widths both.0 fit have near both.2 in
      let fit_after = keeps.at x widths here.others (kept-outside (length old) (length first.equations) own widths here.others here.same near) fit in
      let others = all.extended x here.others both.1 fit_after here.have ahead both.3 in
      record {
        others = others.others;
        same = outside-both (length old) (length first.equations) (length rest.equations) widths here.others others.others low high here.same others.same;
        have = others.have;
      }

-- ---- calls
pub agrees-call : {X : Type 0} (own : Option ℕ) (calm quiet : Type 0) (fits : X → List ℕ → Type 0) (old : List EquationShape) (all : AllExpanded) (m : Expanded) (samples : X → ℕ) (meant : X → Option (List Stream)) (f : Function) → Keeps (length old) own fits → (calm → quiet) → AllAgree own calm fits old all meant → Agrees own quiet (λ (y : Arguments) widths. AllZip (Matches widths) all.given y.streams) all.equations m (λ (y : Arguments). f y.samples y.streams) → Agrees own calm fits old m (λ x. option_and_then (f (samples x)) (meant x))
agrees-call {X} own calm quiet fits old all m samples meant f keeps quieter args call = record {
  grown = grown-both own calm old all.equations m.equations args.grown (record { appends = call.grown.appends; formed = call.grown.formed; calm_kept = λ is. call.grown.calm_kept (quieter is) });
  within = call.within;
  found = found;
  extended = λ x widths s fit have ahead is. by_parts x widths s (meant x) fit have ahead refl is;
} where
  low : length old ≤ length all.equations
  low = appends-length old all.equations args.grown.appends

  high : length all.equations ≤ length m.equations
  high = appends-length all.equations m.equations call.grown.appends

  found : (x : X) (widths : List ℕ) → fits x widths → Have m.equations widths → IsFound widths m.given (option_and_then (f (samples x)) (meant x))
  found x widths fit have =
      let parts = args.found x widths fit (have-before all.equations m.equations widths call.grown.appends have) in
      subst (λ o. IsFound widths m.given (option_and_then (f (samples x)) o)) (sym parts.are) (call.found (record { samples = samples x; streams = parts.streams }) widths parts.match have)

  by_parts : (x : X) (widths : List ℕ) (s : Stream) (o : Option (List Stream)) → fits x widths → Have old widths → IsAhead (length m.equations) own → meant x ≡ o → option_and_then (f (samples x)) o ≡ Some s → AreExtended old m.equations widths
  by_parts x widths s None fit have ahead same is = cc
  by_parts x widths s (Some ss) fit have ahead same is =
      let near = ahead-less (length all.equations) (length m.equations) own high ahead in
      let here = args.extended x widths ss fit have near same in
      let fit_after = keeps.at x widths here.others (kept-outside (length old) (length all.equations) own widths here.others here.same near) fit in
      let parts = args.found x here.others fit_after here.have in
      let all_same : Some parts.streams ≡ Some ss = sym parts.are ∙ same in
      let match : AllZip (Matches here.others) all.given ss = subst (AllZip (Matches here.others) all.given) (some-same parts.streams ss all_same) parts.match in
      let others = call.extended (record { samples = samples x; streams = ss }) here.others s match here.have ahead is in
      record {
        others = others.others;
        same = outside-both (length old) (length all.equations) (length m.equations) widths here.others others.others low high here.same others.same;
        have = others.have;
      } where
        some-same : (a b : List Stream) → Some a ≡ Some b → a ≡ b
        some-same a b is = cc
