-- Parts beside one another.
use Rattle.std.proofs.Common.{◌≡◌, ◌∙◌, ◌≤◌, ℕ, zero, suc, Bool, true, false, cond, nat_le, List, [], ◌∷◌, length, Option, Some, None, option_map, refl, sym, ap, ap₂, subst}
use Rattle.std.specs.List.{AllZip}
use Rattle.std.specs.Option.{option_and_then}
use Rattle.std.proofs.lemmas.Bool.{le-leb, leb-true}
use Rattle.pr_flat.specs.declared.equations.Op.TheVariants.{Cat}
use Rattle.pr_flat.specs.declared.forms.Form.{Form}
use Rattle.pr_flat.specs.Forms.{Stream}
use Rattle.pr_flat.specs.Shape.{EquationShape}
use Rattle.pr_lang_meaning.specs.Streams.{all_parts, assigned, operate, operate_on, part}
use Rattle.pr_lang_meaning.specs.Expressions.{beside, concatenated, unsigned}
use Rattle.pr_expand_spec.specs.declared.givens.Given.{Given}
use Rattle.pr_expand_spec.specs.Making.{Expanded, made, with_equation}
use Rattle.pr_expand_spec.specs.Expressions.{AllExpanded, declared_at_operator}
use Rattle.pr_expand_spec.specs.Expressions as made_by
use Rattle.pr_scope_facts.proofs.Appending.{appends-length, declared-with}
use Rattle.pr_expand_correct.proofs.Related.{Have, IsAhead, Matches, IsFound, AreExtended, Agrees, AreFound, AllAgree}
use Rattle.pr_expand_correct.proofs.Keeping.{have-before, all-within-more, outside-nowhere}
use Rattle.pr_expand_correct.proofs.Forms.{IsLawful}
use Rattle.pr_expand_correct.proofs.Combining.{Keeps, grown-nothing, first_of_both, agrees-operator, agrees-part_more}
use Rattle.pr_expand_correct.proofs.Texts.{agrees-same, part-some}

-- so many streams, each at most 128 bits wide
abbrev IsShaped : ℕ → List Stream → Type 0
IsShaped zero [] = Unit {0}
IsShaped zero (s ∷ ss) = ⊥
IsShaped (suc n) [] = ⊥
IsShaped (suc n) (s ∷ ss) = (s.form.width ≤ 128) × IsShaped n ss

abbrev pub IsShapedWhere : ℕ → Option (List Stream) → Type 0
IsShapedWhere n None = Unit {0}
IsShapedWhere n (Some ss) = IsShaped n ss

small-of-part : (o : Option Stream) (s : Stream) → part o ≡ Some s → s.form.width ≤ 128
small-of-part None s is = cc
small-of-part (Some r) s is = of_test (nat_le r.form.width 128) refl is where
  of_test : (c : Bool) → nat_le r.form.width 128 ≡ c → cond c (Some r) None ≡ Some s → s.form.width ≤ 128
  of_test true small same = let e : r ≡ s = some-is r s same in subst (λ (q : Stream). q.form.width ≤ 128) e (leb-true r.form.width 128 small) where
    some-is : (a b : Stream) → Some a ≡ Some b → a ≡ b
    some-is a b h = cc
  of_test false large none = cc

shaped-more : (n : ℕ) (s : Stream) (os : Option (List Stream)) → s.form.width ≤ 128 → IsShapedWhere n os → IsShapedWhere (suc n) (option_map (λ ss. s ∷ ss) os)
shaped-more n s None low shaped = tt
shaped-more n s (Some ss) low shaped = (low, shaped)

shaped-both : (n : ℕ) (o : Option Stream) (os : Option (List Stream)) → ((s : Stream) → o ≡ Some s → s.form.width ≤ 128) → IsShapedWhere n os → IsShapedWhere (suc n) (first_of_both o os)
shaped-both n None os small shaped = tt
shaped-both n (Some s) os small shaped = shaped-more n s os (small s refl) shaped

pub all_parts-shaped : (os : List (Option Stream)) → IsShapedWhere (length os) (all_parts os)
all_parts-shaped [] = tt
all_parts-shaped (o ∷ os) = shaped-both (length os) (part o) (all_parts os) (λ s. small-of-part o s) (all_parts-shaped os)

-- ---- what stands beside nothing is nothing
beside-none : (m : ℕ) (ss : List Stream) → beside m None ss ≡ None
beside-none m [] = refl
beside-none m (s ∷ ss) = beside-none m ss

pub part-of-small : (s : Stream) → s.form.width ≤ 128 → part (Some s) ≡ Some s
part-of-small s low = ap (λ c. cond c (Some s) None) (le-leb s.form.width 128 low)

pub operate-pair : (m : ℕ) (s r : Stream) → s.form.width ≤ 128 → r.form.width ≤ 128 → operate m Cat (Some s ∷ Some r ∷ []) ≡ operate_on m Cat (s ∷ r ∷ [])
operate-pair m s r low also = ap₂ (λ a b. option_and_then (operate_on m Cat) (option_and_then (λ x. option_map (λ xs. x ∷ xs) (option_and_then (λ y. option_map (λ ys. y ∷ ys) (Some [])) b)) a)) (part-of-small s low) (part-of-small r also)

beside-part : (m : ℕ) (o : Option Stream) (q : Stream) (ss : List Stream) → beside m o (q ∷ ss) ≡ option_and_then (λ u. beside m (Some u) (q ∷ ss)) (part o)
beside-part m o q ss = by_part (part o) refl where
  by_part : (p : Option Stream) → part o ≡ p → beside m o (q ∷ ss) ≡ option_and_then (λ u. beside m (Some u) (q ∷ ss)) p
  by_part None is = ap (λ p. beside m (option_and_then (operate_on m Cat) (option_and_then (λ x. option_map (λ xs. x ∷ xs) (all_parts (Some q ∷ []))) p)) ss) is ∙ beside-none m ss
  by_part (Some u) is = ap (λ a. beside m a (q ∷ ss)) (part-some o u is)

-- ---- two parts, and those after them
abbrev first_two : List Stream → Option (List Stream)
first_two (s ∷ r ∷ ss) = Some (s ∷ r ∷ [])
first_two ss = None

abbrev after_two : List Stream → Option (List Stream)
after_two (s ∷ r ∷ ss) = Some ss
after_two ss = None

found-two : (widths : List ℕ) (a g : Given) (gs : List Given) (ss : List Stream) → AllZip (Matches widths) (a ∷ g ∷ gs) ss → AreFound widths (a ∷ g ∷ []) (first_two ss)
found-two widths a g gs [] match = absurd match
found-two widths a g gs (s ∷ []) match = absurd match.1
found-two widths a g gs (s ∷ r ∷ ss) match = record { streams = s ∷ r ∷ []; are = refl; match = (match.0, (match.1.0, tt)) }

found-after : (widths : List ℕ) (a g : Given) (gs : List Given) (ss : List Stream) → AllZip (Matches widths) (a ∷ g ∷ gs) ss → AreFound widths gs (after_two ss)
found-after widths a g gs [] match = absurd match
found-after widths a g gs (s ∷ []) match = absurd match.1
found-after widths a g gs (s ∷ r ∷ ss) match = record { streams = ss; are = refl; match = match.1.1 }

agrees-two : {X : Type 0} (own : Option ℕ) (calm : Type 0) (fits : X → List ℕ → Type 0) (old es : List EquationShape) (a g : Given) (gs : List Given) (meant : X → Option (List Stream)) → AllAgree own calm fits old (record { equations = es; given = a ∷ g ∷ gs }) meant → AllAgree own calm fits old (record { equations = es; given = a ∷ g ∷ [] }) (λ x. option_and_then first_two (meant x))
agrees-two {X} own calm fits old es a g gs meant agrees = record {
  grown = agrees.grown;
  within = (agrees.within.0, (agrees.within.1.0, tt));
  found = λ x widths fit have. let all = agrees.found x widths fit have in subst (λ o. AreFound widths (a ∷ g ∷ []) (option_and_then first_two o)) (sym all.are) (found-two widths a g gs all.streams all.match);
  extended = λ x widths ss fit have ahead is. by_parts x widths ss (meant x) fit have ahead refl is;
} where
  by_parts : (x : X) (widths : List ℕ) (ss : List Stream) (o : Option (List Stream)) → fits x widths → Have old widths → IsAhead (length es) own → meant x ≡ o → option_and_then first_two o ≡ Some ss → AreExtended old es widths
  by_parts x widths ss None fit have ahead same is = cc
  by_parts x widths ss (Some all) fit have ahead same is = agrees.extended x widths all fit have ahead same

-- what was given before still matches
agrees-after : {X : Type 0} (own : Option ℕ) (calm : Type 0) (fits : X → List ℕ → Type 0) (old es : List EquationShape) (a g : Given) (gs : List Given) (meant : X → Option (List Stream)) (m : Expanded) (f : X → Option Stream) → AllAgree own calm fits old (record { equations = es; given = a ∷ g ∷ gs }) meant → Agrees own calm fits old m f → (es_more : (w : List ℕ) → Have m.equations w → Have es w) → length es ≤ length m.equations → AllAgree own calm fits m.equations (record { equations = m.equations; given = gs }) (λ x. option_and_then after_two (meant x))
agrees-after own calm fits old es a g gs meant m f agrees one before low = record {
  grown = grown-nothing own calm m.equations one.grown.formed;
  within = all-within-more (length es) (length m.equations) own gs low agrees.within.1.1;
  found = λ x widths fit have. let all = agrees.found x widths fit (before widths have) in subst (λ o. AreFound widths gs (option_and_then after_two o)) (sym all.are) (found-after widths a g gs all.streams all.match);
  extended = λ x widths ss fit have ahead is. record { others = widths; same = outside-nowhere (length m.equations) (length m.equations) widths; have = have };
}

-- the first two parts put beside one another
abbrev with_two : ℕ → Option (List Stream) → Option (List Stream)
with_two m os = first_of_both (assigned None (option_and_then (operate_on m Cat) (option_and_then first_two os))) (option_and_then after_two os)

agrees-next : {X : Type 0} (own : Option ℕ) (calm : Type 0) (fits : X → List ℕ → Type 0) (old es : List EquationShape) (a g : Given) (gs : List Given) (samples : X → ℕ) (meant : X → Option (List Stream)) → Keeps (length old) own fits → AllAgree own calm fits old (record { equations = es; given = a ∷ g ∷ gs }) meant → AllAgree own calm fits old (record { equations = (with_equation Cat (a ∷ g ∷ []) None es).equations; given = (with_equation Cat (a ∷ g ∷ []) None es).given ∷ gs }) (λ x. with_two (samples x) (meant x))
agrees-next own calm fits old es a g gs samples meant keeps agrees =
    let m = with_equation Cat (a ∷ g ∷ []) None es in
    let one = agrees-operator own calm fits old (record { equations = es; given = a ∷ g ∷ [] }) (λ x. option_and_then first_two (meant x)) samples Cat None keeps (agrees-two own calm fits old es a g gs meant agrees) refl tt in
    let over = appends-length es m.equations (record { more = _; is = refl }) in
    let rest = agrees-after own calm fits old es a g gs meant m (λ x. assigned None (option_and_then (operate_on (samples x) Cat) (option_and_then first_two (meant x)))) agrees one (λ w. have-before es m.equations w (record { more = _; is = refl })) over in
    agrees-part_more own calm fits old m (record { equations = m.equations; given = gs }) (λ x. assigned None (option_and_then (operate_on (samples x) Cat) (option_and_then first_two (meant x)))) (λ x. option_and_then after_two (meant x)) keeps one rest

-- ---- all parts
abbrev pub beside_all : ℕ → List Stream → Option Stream
beside_all m [] = None
beside_all m (s ∷ ss) = beside m (Some s) ss

meant-last : (m : ℕ) (width : Option ℕ) (os : Option (List Stream)) → IsShapedWhere 2 os → assigned width (option_and_then (beside_all m) os) ≡ assigned width (option_and_then (operate_on m Cat) (option_and_then first_two os))
meant-last m width None shaped = refl
meant-last m width (Some []) shaped = absurd shaped
meant-last m width (Some (s ∷ [])) shaped = absurd shaped.1
meant-last m width (Some (s ∷ r ∷ [])) shaped = ap (assigned width) (operate-pair m s r shaped.0 shaped.1.0)
meant-last m width (Some (s ∷ r ∷ q ∷ ss)) shaped = absurd shaped.1.1

meant-next : (m n : ℕ) (width : Option ℕ) (os : Option (List Stream)) → IsShapedWhere (suc (suc (suc n))) os → assigned width (option_and_then (beside_all m) os) ≡ assigned width (option_and_then (beside_all m) (with_two m os))
meant-next m n width None shaped = refl
meant-next m n width (Some []) shaped = absurd shaped
meant-next m n width (Some (s ∷ [])) shaped = absurd shaped.1
meant-next m n width (Some (s ∷ r ∷ [])) shaped = absurd shaped.1.1
meant-next m n width (Some (s ∷ r ∷ q ∷ ss)) shaped = ap (assigned width) (beside-part m (operate m Cat (Some s ∷ Some r ∷ [])) q ss ∙ ap (λ o. option_and_then (λ u. beside m (Some u) (q ∷ ss)) (part o)) (operate-pair m s r shaped.0 shaped.1.0) ∙ chained (part (operate_on m Cat (s ∷ r ∷ [])))) where
  chained : (p : Option Stream) → option_and_then (λ u. beside m (Some u) (q ∷ ss)) p ≡ option_and_then (beside_all m) (first_of_both p (Some (q ∷ ss)))
  chained None = refl
  chained (Some u) = refl

shaped-next : (m n : ℕ) (os : Option (List Stream)) → IsShapedWhere (suc (suc n)) os → IsShapedWhere (suc n) (with_two m os)
shaped-next m n None shaped = tt
shaped-next m n (Some []) shaped = absurd shaped
shaped-next m n (Some (s ∷ [])) shaped = absurd shaped.1
shaped-next m n (Some (s ∷ r ∷ ss)) shaped = shaped-both n (part (operate_on m Cat (s ∷ r ∷ []))) (Some ss) (λ u. small-of-part (operate_on m Cat (s ∷ r ∷ [])) u) shaped.1.1

pub agrees-chain : {X : Type 0} (own : Option ℕ) (calm : Type 0) (fits : X → List ℕ → Type 0) (old : List EquationShape) (samples : X → ℕ) (width : Option ℕ) → Keeps (length old) own fits → IsLawful width → (gs : List Given) (es : List EquationShape) (a g : Given) (meant : X → Option (List Stream)) → ((x : X) → IsShapedWhere (suc (suc (length gs))) (meant x)) → AllAgree own calm fits old (record { equations = es; given = a ∷ g ∷ gs }) meant → Agrees own calm fits old (declared_at_operator true width (made_by.beside (record { equations = es; given = a }) (g ∷ gs))) (λ x. assigned width (option_and_then (beside_all (samples x)) (meant x)))
agrees-chain own calm fits old samples width keeps lawful [] es a g meant shaped agrees =
    agrees-same own calm fits old (with_equation Cat (a ∷ g ∷ []) width es) (declared_at_operator true width (with_equation Cat (a ∷ g ∷ []) None es)) (λ x. assigned width (option_and_then (operate_on (samples x) Cat) (option_and_then first_two (meant x)))) (λ x. assigned width (option_and_then (beside_all (samples x)) (meant x))) (declared width) (λ x. meant-last (samples x) width (meant x) (shaped x)) (agrees-operator own calm fits old (record { equations = es; given = a ∷ g ∷ [] }) (λ x. option_and_then first_two (meant x)) samples Cat width keeps (agrees-two own calm fits old es a g [] meant agrees) refl lawful) where
      declared : (w : Option ℕ) → declared_at_operator true w (with_equation Cat (a ∷ g ∷ []) None es) ≡ with_equation Cat (a ∷ g ∷ []) w es
      declared None = refl
      declared (Some w) = declared-with w Cat (a ∷ g ∷ []) es
agrees-chain own calm fits old samples width keeps lawful (h ∷ gs) es a g meant shaped agrees =
    let m = with_equation Cat (a ∷ g ∷ []) None es in
    let whole = made_by.beside m (h ∷ gs) in
    agrees-same own calm fits old (declared_at_operator true width whole) (declared_at_operator true width whole) (λ x. assigned width (option_and_then (beside_all (samples x)) (with_two (samples x) (meant x)))) (λ x. assigned width (option_and_then (beside_all (samples x)) (meant x))) refl (λ x. meant-next (samples x) (length gs) width (meant x) (shaped x)) (agrees-chain own calm fits old samples width keeps lawful gs m.equations m.given h (λ x. with_two (samples x) (meant x)) (λ x. shaped-next (samples x) (suc (length gs)) (meant x) (shaped x)) (agrees-next own calm fits old es a g (h ∷ gs) samples meant keeps agrees))

-- ---- the first part is read as a number
abbrev pub unsigned_first : List Stream → List Stream
unsigned_first [] = []
unsigned_first (s ∷ ss) = unsigned s ∷ ss

pub matches-unsigned : (widths : List ℕ) (g : Given) (s : Stream) → Matches widths g s → Matches widths (record { operand = g.operand; signed = false }) (unsigned s)
matches-unsigned widths g s matches = record { form = ap (λ (f : Form). record { signed = false; width = f.width }) matches.form; greatest = matches.greatest }

found-unsigned : (widths : List ℕ) (g : Given) (gs : List Given) (ss : List Stream) → AllZip (Matches widths) (g ∷ gs) ss → AreFound widths (record { operand = g.operand; signed = false } ∷ gs) (Some (unsigned_first ss))
found-unsigned widths g gs [] match = absurd match
found-unsigned widths g gs (s ∷ ss) match = record { streams = unsigned s ∷ ss; are = refl; match = (matches-unsigned widths g s match.0, match.1) }

pub agrees-unsigned : {X : Type 0} (own : Option ℕ) (calm : Type 0) (fits : X → List ℕ → Type 0) (old es : List EquationShape) (g : Given) (gs : List Given) (meant : X → Option (List Stream)) → AllAgree own calm fits old (record { equations = es; given = g ∷ gs }) meant → AllAgree own calm fits old (record { equations = es; given = record { operand = g.operand; signed = false } ∷ gs }) (λ x. option_map unsigned_first (meant x))
agrees-unsigned {X} own calm fits old es g gs meant agrees = record {
  grown = agrees.grown;
  within = agrees.within;
  found = λ x widths fit have. let all = agrees.found x widths fit have in subst (λ o. AreFound widths (record { operand = g.operand; signed = false } ∷ gs) (option_map unsigned_first o)) (sym all.are) (found-unsigned widths g gs all.streams all.match);
  extended = λ x widths ss fit have ahead is. by_parts x widths ss (meant x) fit have ahead refl is;
} where
  by_parts : (x : X) (widths : List ℕ) (ss : List Stream) (o : Option (List Stream)) → fits x widths → Have old widths → IsAhead (length es) own → meant x ≡ o → option_map unsigned_first o ≡ Some ss → AreExtended old es widths
  by_parts x widths ss None fit have ahead same is = cc
  by_parts x widths ss (Some all) fit have ahead same is = agrees.extended x widths all fit have ahead same

pub shaped-unsigned : (n : ℕ) (os : Option (List Stream)) → IsShapedWhere n os → IsShapedWhere n (option_map unsigned_first os)
shaped-unsigned n None shaped = tt
shaped-unsigned zero (Some []) shaped = tt
shaped-unsigned zero (Some (s ∷ ss)) shaped = absurd shaped
shaped-unsigned (suc n) (Some []) shaped = absurd shaped
shaped-unsigned (suc n) (Some (s ∷ ss)) shaped = shaped

pub meant-concatenated : (m n : ℕ) (os : Option (List Stream)) → IsShapedWhere (suc n) os → option_and_then (concatenated m) os ≡ option_and_then (beside_all m) (option_map unsigned_first os)
meant-concatenated m n None shaped = refl
meant-concatenated m n (Some []) shaped = absurd shaped
meant-concatenated m n (Some (s ∷ ss)) shaped = refl

-- one part alone
one-found : (widths : List ℕ) (m : ℕ) (g : Given) (ss : List Stream) → AllZip (Matches widths) (g ∷ []) ss → IsFound widths (record { operand = g.operand; signed = false }) (concatenated m ss)
one-found widths m g [] match = absurd match
one-found widths m g (s ∷ []) match = record { stream = unsigned s; is = refl; matches = matches-unsigned widths g s match.0 }
one-found widths m g (s ∷ r ∷ ss) match = absurd match.1

pub agrees-one_part : {X : Type 0} (own : Option ℕ) (calm : Type 0) (fits : X → List ℕ → Type 0) (old es : List EquationShape) (g : Given) (samples : X → ℕ) (meant : X → Option (List Stream)) → AllAgree own calm fits old (record { equations = es; given = g ∷ [] }) meant → Agrees own calm fits old (made es g.operand false) (λ x. option_and_then (concatenated (samples x)) (meant x))
agrees-one_part {X} own calm fits old es g samples meant agrees = record {
  grown = agrees.grown;
  within = agrees.within.0;
  found = λ x widths fit have. let all = agrees.found x widths fit have in subst (λ o. IsFound widths (record { operand = g.operand; signed = false }) (option_and_then (concatenated (samples x)) o)) (sym all.are) (one-found widths (samples x) g all.streams all.match);
  extended = λ x widths s fit have ahead is. by_parts x widths s (meant x) fit have ahead refl is;
} where
  by_parts : (x : X) (widths : List ℕ) (s : Stream) (o : Option (List Stream)) → fits x widths → Have old widths → IsAhead (length es) own → meant x ≡ o → option_and_then (concatenated (samples x)) o ≡ Some s → AreExtended old es widths
  by_parts x widths s None fit have ahead same is = cc
  by_parts x widths s (Some all) fit have ahead same is = agrees.extended x widths all fit have ahead same
