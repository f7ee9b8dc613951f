-- The numbers of operators, parts and concatenations, where those of their operands are known.
use Rattle.std.proofs.Common.{◌≡◌, ℕ, ◌≤◌, Bool, true, false, cond, nat_le, Option, Some, None, option_map, List, [], ◌∷◌, map, length, refl, sym, ◌∙◌, ap, subst}
use Rattle.std.specs.List.{AllZip}
use Rattle.std.specs.Option.{option_and_then}
use Rattle.pr_flat.specs.declared.equations.Op.{Op}
use Rattle.pr_flat.specs.declared.equations.Op.TheVariants as op
use Rattle.pr_flat.specs.Forms.{Stream}
use Rattle.pr_flat.specs.Rows.{takes}
use Rattle.pr_flat.specs.Shape.{EquationShape}
use Rattle.pr_flat.specs.Facts.{is_width}
use Rattle.pr_flat.specs.Widths.{width_in}
use Rattle.pr_lang_meaning.specs.Streams.{part, all_parts, assigned, fitted, form_of, operated, operate_on, operate}
use Rattle.pr_lang_meaning.specs.Expressions as meaning
use Rattle.pr_lang_meaning.specs.Expressions.{unsigned}
use Rattle.pr_lang_meaning.specs.Programs.{passed}
use Rattle.pr_expand_spec.specs.declared.givens.Given.{Given}
use Rattle.pr_expand_spec.specs.Making.{Equations, Expanded, given_operand, given_signed, kinds_read, is_signed, with_equation}
use Rattle.pr_expand_spec.specs.Expressions.{beside, declared_at_operator}
use Rattle.pr_scope_facts.proofs.Appending.{Appends, appends-both, appends-with}
use Rattle.pr_expand_correct.proofs.Related.{Have, Matches, IsFound}
use Rattle.pr_expand_correct.proofs.Forms.{is_operator, Settled, settled-operator}
use Rattle.pr_expand_correct.proofs.Combining.{found-settled, nothing-assigned}
use Rattle.pr_expand_correct.proofs.Concatenations.{operate-pair, part-of-small}
use Rattle.pr_expand_correct.proofs.AgreedExpressions.{declared-apply}
use Rattle.pr_expand_correct.proofs.NumberRuns.{Run, IsRun}
use Rattle.pr_expand_correct.proofs.NumberLeaves.{IsNumbered, own-width, operator-numbered}

-- a run whose equations have its widths, and so many samples of it
pub record IsSampled (r : Run) (n : ℕ) : Type 0 where
  pub run : IsRun r
  pub have : Have r.equations r.widths
  pub within : n ≤ length r.samples

-- what is given has the form of a stream, and its numbers
pub record IsMeant (r : Run) (n : ℕ) (g : Given) (s : Stream) : Type 0 where
  pub match : Matches r.widths g s
  pub numbered : IsNumbered r n g s

-- what is assigned is the stream, under the declared width or without one
pub assigned-is : (d : Option ℕ) (t s : Stream) → assigned d (Some t) ≡ Some s → s ≡ passed d t
assigned-is None t s is = by_test (nat_le t.form.width 128) is where
  by_test : (b : Bool) → cond b (Some t) None ≡ Some s → s ≡ t
  by_test true is = cc
  by_test false is = cc
assigned-is (Some w) t s is = by_test (is_width w) is where
  by_test : (b : Bool) → cond b (Some (fitted w t)) None ≡ Some s → s ≡ fitted w t
  by_test true is = cc
  by_test false is = cc

-- an operator's stream
operate_on-is : (m : ℕ) (o : Op) (ss : List Stream) (d : Option ℕ) (s : Stream) → assigned d (operate_on m o ss) ≡ Some s → s ≡ passed d (operated m o ss)
operate_on-is m o ss d s is = by_test (takes o (map form_of ss)) is where
  by_test : (b : Bool) → assigned d (cond b (Some (operated m o ss)) None) ≡ Some s → s ≡ passed d (operated m o ss)
  by_test true is = assigned-is d (operated m o ss) s is
  by_test false is = absurd (nothing-assigned d s is)

-- parts that match what was given for them
pub matches-all : (r : Run) (n : ℕ) (gs : List Given) (ss : List Stream) → AllZip (IsMeant r n) gs ss → AllZip (Matches r.widths) gs ss
matches-all r n [] [] meant = tt
matches-all r n [] (s ∷ ss) meant = absurd meant
matches-all r n (g ∷ gs) [] meant = absurd meant
matches-all r n (g ∷ gs) (s ∷ ss) meant = (meant.0.match, matches-all r n gs ss meant.1)

numbered-all : (r : Run) (n : ℕ) (gs : List Given) (ss : List Stream) → AllZip (IsMeant r n) gs ss → AllZip (IsNumbered r n) gs ss
numbered-all r n [] [] meant = tt
numbered-all r n [] (s ∷ ss) meant = absurd meant
numbered-all r n (g ∷ gs) [] meant = absurd meant
numbered-all r n (g ∷ gs) (s ∷ ss) meant = (meant.0.numbered, numbered-all r n gs ss meant.1)

pub operator-meant : (r : Run) (n : ℕ) → IsSampled r n → (o : Op) (gs : List Given) (d : Option ℕ) (es : Equations) → is_operator o ≡ true → Appends (with_equation o gs d es).equations r.equations → (ss : List Stream) → AllZip (IsMeant r n) gs ss → (s : Stream) → assigned d (operate_on (length r.samples) o ss) ≡ Some s → IsNumbered r n (with_equation o gs d es).given s
operator-meant r n ready o gs d es plain front ss meant s is =
    subst (IsNumbered r n (with_equation o gs d es).given) (sym (operate_on-is (length r.samples) o ss d s is)) (operator-numbered r ready.run ready.have o gs d es plain front n ready.within ss (matches-all r n gs ss meant) (numbered-all r n gs ss meant))

-- an operator under no declared width has a stream, and it matches
pub operator-found : (r : Run) (n : ℕ) → IsSampled r n → (o : Op) (gs : List Given) (es : Equations) → is_operator o ≡ true → Appends (with_equation o gs None es).equations r.equations → (ss : List Stream) → AllZip (IsMeant r n) gs ss → IsFound r.widths (with_equation o gs None es).given (part (operate_on (length r.samples) o ss))
operator-found r n ready o gs es plain front ss meant =
    let kinds = kinds_read o (map given_signed gs) in
    let e : EquationShape = record { op = o; args = map given_operand gs; declared = None; kinds = kinds } in
    let settled : Settled (is_signed o kinds) (width_in r.widths e) (part (operate_on (length r.samples) o ss)) = settled-operator r.widths (length r.samples) o None gs ss plain tt (matches-all r n gs ss meant) in
    let P : Option ℕ → Type 0 = λ w. Settled (is_signed o kinds) w (part (operate_on (length r.samples) o ss)) in
    found-settled r.widths (length es) (is_signed o kinds) (part (operate_on (length r.samples) o ss)) (subst P (own-width r ready.have o gs None es plain front) settled)

-- ---- parts beside what stands above them
abbrev pub is_some_given : List Given → Bool
is_some_given [] = false
is_some_given (g ∷ gs) = true

abbrev pub where_operator : Bool → Option ℕ → Option ℕ
where_operator true d = d
where_operator false d = None

pub declared-equation : (d : Option ℕ) (o : Op) (gs : List Given) (es : Equations) → declared_at_operator true d (with_equation o gs None es) ≡ with_equation o gs d es
declared-equation d o gs es = declared-apply o (record { equations = es; given = gs }) d

-- all that is beside the equations above stands after them
pub beside-front : (d : Option ℕ) (above : Expanded) (g : Given) (gs : List Given) → Appends above.equations (declared_at_operator true d (beside above (g ∷ gs))).equations
beside-front d above g [] = subst (λ (m : Expanded). Appends above.equations m.equations) (sym (declared-equation d op.Cat (above.given ∷ g ∷ []) above.equations)) (appends-with op.Cat (above.given ∷ g ∷ []) d above.equations)
beside-front d above g (h ∷ gs) =
    let next = with_equation op.Cat (above.given ∷ g ∷ []) None above.equations in
    appends-both above.equations next.equations (declared_at_operator true d (beside next (h ∷ gs))).equations (appends-with op.Cat (above.given ∷ g ∷ []) None above.equations) (beside-front d next h gs)

same-part : (m : ℕ) (o : Op) (a b : Option Stream) (os : List (Option Stream)) → part a ≡ part b → operate m o (a ∷ os) ≡ operate m o (b ∷ os)
same-part m o a b os same = ap (λ p. option_and_then (operate_on m o) (option_and_then (λ s. option_map (λ ss. s ∷ ss) (all_parts os)) p)) same

pub beside-meant : (r : Run) (n : ℕ) → IsSampled r n → (gs : List Given) (ss : List Stream) → AllZip (IsMeant r n) gs ss → (d : Option ℕ) (above : Expanded) (t : Stream) → IsMeant r n above.given t → Appends (declared_at_operator (is_some_given gs) d (beside above gs)).equations r.equations → (s : Stream) → assigned (where_operator (is_some_given gs) d) (meaning.beside (length r.samples) (Some t) ss) ≡ Some s → IsNumbered r n (declared_at_operator (is_some_given gs) d (beside above gs)).given s
beside-meant r n ready [] [] meant d above t first front s is = subst (IsNumbered r n above.given) (sym (assigned-is None t s is)) first.numbered
beside-meant r n ready [] (u ∷ ss) meant d above t first front s is = absurd meant
beside-meant r n ready (g ∷ gs) [] meant d above t first front s is = absurd meant
beside-meant r n ready (g ∷ []) (u ∷ []) meant d above t first front s is =
    let m = length r.samples in
    let same = declared-equation d op.Cat (above.given ∷ g ∷ []) above.equations in
    let here : Appends (with_equation op.Cat (above.given ∷ g ∷ []) d above.equations).equations r.equations = subst (λ (x : Expanded). Appends x.equations r.equations) same front in
    let gives : assigned d (operate_on m op.Cat (t ∷ u ∷ [])) ≡ Some s = sym (ap (assigned d) (operate-pair m t u first.match.greatest meant.0.match.greatest)) ∙ is in
    subst (λ (x : Expanded). IsNumbered r n x.given s) (sym same) (operator-meant r n ready op.Cat (above.given ∷ g ∷ []) d above.equations refl here (t ∷ u ∷ []) (first, (meant.0, tt)) s gives)
beside-meant r n ready (g ∷ []) (u ∷ v ∷ ss) meant d above t first front s is = absurd meant.1
beside-meant r n ready (g ∷ h ∷ gs) (u ∷ []) meant d above t first front s is = absurd meant.1
beside-meant r n ready (g ∷ h ∷ gs) (u ∷ v ∷ ss) meant d above t first front s is =
    let m = length r.samples in
    let next = with_equation op.Cat (above.given ∷ g ∷ []) None above.equations in
    let here : Appends next.equations r.equations = appends-both next.equations (declared_at_operator true d (beside next (h ∷ gs))).equations r.equations (beside-front d next h gs) front in
    let both : AllZip (IsMeant r n) (above.given ∷ g ∷ []) (t ∷ u ∷ []) = (first, (meant.0, tt)) in
    let found = operator-found r n ready op.Cat (above.given ∷ g ∷ []) above.equations refl here (t ∷ u ∷ []) both in
    let now : IsMeant r n next.given found.stream = record { match = found.matches; numbered = operator-meant r n ready op.Cat (above.given ∷ g ∷ []) None above.equations refl here (t ∷ u ∷ []) both found.stream found.is } in
    let joined : operate m op.Cat (Some t ∷ Some u ∷ []) ≡ operate_on m op.Cat (t ∷ u ∷ []) = operate-pair m t u first.match.greatest meant.0.match.greatest in
    let same : part (operate m op.Cat (Some t ∷ Some u ∷ [])) ≡ part (Some found.stream) = ap part joined ∙ found.is ∙ sym (part-of-small found.stream found.matches.greatest) in
    let gives : assigned d (meaning.beside m (Some found.stream) (v ∷ ss)) ≡ Some s = sym (ap (λ o. assigned d (meaning.beside m o ss)) (same-part m op.Cat (operate m op.Cat (Some t ∷ Some u ∷ [])) (Some found.stream) (Some v ∷ []) same)) ∙ is in
    beside-meant r n ready (h ∷ gs) (v ∷ ss) meant.1 d next found.stream now front s gives
