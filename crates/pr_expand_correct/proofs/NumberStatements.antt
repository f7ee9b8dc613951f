-- The numbers of what statements assign, where those of the names before them are known.
use Rattle.std.proofs.Common.{◌≡◌, ℕ, zero, suc, ◌^◌, ◌<◌, ◌≤◌, Bool, true, false, cond, not, ◌&&◌, is_some, bytes_eq, ℤ, Option, Some, None, List, [], ◌∷◌, ◌++◌, length, get_or, Ok, refl, sym, ◌∙◌, ap, ap₂, subst, arith, inl, inr}
use Rattle.std.proofs.lemmas.Bool.{cases_lt}
use Rattle.std.proofs.lemmas.Option.{same_Some}
use Rattle.std.proofs.lemmas.List.{get_or_append_left}
use Rattle.std.proofs.Math.Seq.{get_or-append_seam}
use Rattle.std.proofs.Math.Nat.{mod-eq_of_lt}
use Rattle.pr_lang.specs.declared.trees.Expr.{Expr}
use Rattle.pr_scope_names.specs.declared.counts.Count.{Count}
use Rattle.pr_flat.specs.declared.equations.Op.TheVariants as op
use Rattle.pr_flat.specs.Forms.{Stream, value, residue}
use Rattle.std.specs.List.{slice_get}
use Rattle.pr_flat.specs.Widths.{is_open, width_in}
use Rattle.pr_flat.proofs.WidthLemmas.{width_in-declared}
use Rattle.pr_flat.proofs.FormLemmas.{residue-value, residue-lt}
use Rattle.pr_scope.specs.Expressions.{walk_of, past_of}
use Rattle.pr_scope_names.specs.Names.{same_place}
use Rattle.pr_lang_meaning.proofs.Agreeing.{fitted-number}
use Rattle.pr_lang_meaning.specs.Streams.{Bound, Streams, with_bound, sources, fitted, assigned}
use Rattle.pr_lang_meaning.specs.Expressions.{meaning}
use Rattle.pr_lang_meaning.specs.Statements.{Body, number_at, recurring}
use Rattle.pr_lang_meaning.proofs.EvenStatements.{length-recurring}
use Rattle.pr_expand_spec.specs.declared.givens.Given.{Given}
use Rattle.pr_expand_spec.specs.declared.givens.Standing.{Standing}
use Rattle.pr_expand_spec.specs.declared.givens.Standing.TheVariants as standing
use Rattle.pr_expand_spec.specs.Statements.{with_standing}
use Rattle.pr_expand_spec.specs.Making.{Equations, Expanded, lawful}
use Rattle.pr_expand_spec.specs.Making as making
use Rattle.pr_expand_spec.specs.Expressions as made_by
use Rattle.pr_expand_spec.specs.Expressions.{plan_of, declared_at_operator, declared_else}
use Rattle.pr_scope_facts.proofs.Appending.{Appends, appends-both, appends-with}
use Rattle.pr_expand_correct.proofs.Related.{Have, Matches, IsFound}
use Rattle.pr_expand_correct.proofs.Forms.{IsLawful}
use Rattle.pr_expand_correct.proofs.Keeping.{have-before}
use Rattle.pr_expand_correct.proofs.Combining.{nothing-assigned}
use Rattle.pr_expand_correct.proofs.Texts.{part-some, Setting, seen_by_meaning, seen_by_equations, FitsIn, IsReady, under}
use Rattle.pr_expand_correct.proofs.AgreedExpressions.{expression-agrees}
use Rattle.pr_expand_correct.proofs.NumberRuns.{Run}
use Rattle.pr_expand_correct.proofs.NumberLeaves.{IsNumbered, fit-numbered}
use Rattle.pr_expand_correct.proofs.NumberParts.{IsSampled, assigned-is}
use Rattle.pr_expand_correct.proofs.NumberExpressions.{HasNumbers, Numbers, Counts, scenery_of, numbers-expression}

-- ---- assignments
-- the stream that is fitted
some-of-fitted : (w : ℕ) (o : Option Stream) (s : Stream) → assigned (Some w) o ≡ Some s → (u : Stream) × (o ≡ Some u) × (s ≡ fitted w u)
some-of-fitted w None s is = absurd (nothing-assigned (Some w) s is)
some-of-fitted w (Some u) s is = (u, refl, assigned-is (Some w) u s is)

pub assigned-counts : (r : Run) (n : ℕ) → IsSampled r n → (e : Expr) (t : Setting) (es : Equations) (c d : Count) (width : Option ℕ) → walk_of e t.walk t.streaming t.scene c ≡ Ok d → IsReady t (past_of e t.walk) es → IsLawful width → lawful width ≡ width → (env : Streams) → FitsIn t (scenery_of r env) r.widths → Numbers r n t env → Counts r n (made_by.assigned width e (seen_by_equations t) t.standings es) (assigned width (meaning e (seen_by_meaning t) (length r.samples) (sources (length r.samples) env)))
assigned-counts r n sampled e t es c d width walk ready lawful_width same env fits numbers front s is = subst P (sym same) (by_operator (plan_of e).is_operator width (numbers-expression r n sampled e t c d es width walk ready lawful_width env fits numbers) ((expression-agrees e t es c d width walk ready lawful_width).found (scenery_of r env) r.widths fits) is) front where
  m : ℕ
  m = length r.samples

  making_of : Expanded
  making_of = (plan_of e).making (seen_by_equations t) t.standings es

  made_under : Bool → Option ℕ → Expanded
  made_under b d = declared_else b d (declared_at_operator b d making_of)

  P : Option ℕ → Type 0
  P d = Appends (made_under (plan_of e).is_operator d).equations r.equations → IsNumbered r n (made_under (plan_of e).is_operator d).given s

  meant : Option Stream
  meant = meaning e (seen_by_meaning t) m (sources m env)

  by_operator : (b : Bool) (d : Option ℕ) → Counts r n (declared_at_operator b d making_of) (under b d meant) → (Have (declared_at_operator b d making_of).equations r.widths → IsFound r.widths (declared_at_operator b d making_of).given (under b d meant)) → assigned d meant ≡ Some s → Appends (made_under b d).equations r.equations → IsNumbered r n (made_under b d).given s
  by_operator true d counts found gives at = counts at s gives
  by_operator false None counts found gives at = counts at s (part-some meant s gives)
  by_operator false (Some w) counts found gives at =
      let before : Appends making_of.equations r.equations = appends-both making_of.equations (making.fitted w making_of.given making_of.equations).equations r.equations (appends-with op.Fit (making_of.given ∷ []) (Some w) making_of.equations) at in
      let parts = some-of-fitted w meant s gives in
      let there = found (have-before making_of.equations r.equations r.widths before sampled.have) in
      let match : Matches r.widths making_of.given parts.0 = subst (Matches r.widths making_of.given) (same_Some there.stream parts.0 (sym there.is ∙ parts.1)) there.matches in
      subst (IsNumbered r n (making.fitted w making_of.given making_of.equations).given) (sym parts.2) (fit-numbered r sampled.run sampled.have w making_of.given making_of.equations at n sampled.within parts.0 match (counts before parts.0 parts.1))

-- ---- recurrences
residue-again : (signed : Bool) (w x : ℕ) → x < 2 ^ w → residue w (value (record { signed = signed; width = w }) x) ≡ x
residue-again signed w x low = residue-value (record { signed = signed; width = w }) w x (omega arith) ∙ mod-eq_of_lt low

-- each number of a recurrence, by those before it
pub recurring-numbers : (body : Body) (w n : ℕ) (numbers : ℕ → ℕ) → ((k : ℕ) → k < n → ((j : ℕ) → j < k → get_or (recurring body w k) j 0 ≡ numbers j) → number_at w k (body w (recurring body w k)) ≡ numbers k) → (k : ℕ) → k ≤ n → (j : ℕ) → j < k → get_or (recurring body w k) j 0 ≡ numbers j
recurring-numbers body w n numbers step zero low j less = absurd (omega arith)
recurring-numbers body w n numbers step (suc k) low j less = by_place (recurring-numbers body w n numbers step k (omega arith)) where
  number : ℕ
  number = number_at w k (body w (recurring body w k))

  by_place : ((i : ℕ) → i < k → get_or (recurring body w k) i 0 ≡ numbers i) → get_or (recurring body w k ++ number ∷ []) j 0 ≡ numbers j
  by_place before = elim (cases_lt j k) [
    | inl early ↦ get_or_append_left (recurring body w k) (number ∷ []) 0 j (omega (arith, length-recurring body w k)) ∙ before j early
    | inr late ↦ (
        let last : j ≡ k = omega arith in
        let here : j ≡ length (recurring body w k) = last ∙ sym (length-recurring body w k) in
        ap (λ i. get_or (recurring body w k ++ number ∷ []) i 0) here ∙ get_or-append_seam (recurring body w k) number [] 0 ∙ step k (omega arith) before ∙ ap numbers (sym last))
  ]

-- the number of a recurrence at a sample, by what its body means
pub body-number : (r : Run) (k : ℕ) → IsSampled r (suc k) → (b : Bool) (d : Option ℕ) (meant : Option Stream) (g : Given) (s : Stream) (i init first w : ℕ) → slice_get r.equations i ≡ Some (record { op = op.Rec init first; args = g.operand ∷ []; declared = d; kinds = g.signed ∷ [] }) → w ≡ get_or r.widths i 0 → under b d meant ≡ Some s → Matches r.widths g s → IsNumbered r (suc k) g s → number_at w k meant ≡ r.numbers k i
body-number r k sampled b d meant g s i init first w there width is match numbered = by_width b d is refl where
  made_is : r.numbers k i ≡ residue w (value s.form (get_or s.numbers k 0))
  made_is = sampled.run.recurrence k i (record { op = op.Rec init first; args = g.operand ∷ []; declared = d; kinds = g.signed ∷ [] }) (omega (arith, sampled.within)) there init first refl
      ∙ sym (ap₂ (λ (v : ℕ) (z : ℤ). residue v z) width (ap₂ value match.form (numbered.each k (omega arith))))

  declared-is : (is_open (record { op = op.Rec init first; args = g.operand ∷ []; declared = d; kinds = g.signed ∷ [] }) ≡ false → width_in r.widths (record { op = op.Rec init first; args = g.operand ∷ []; declared = d; kinds = g.signed ∷ [] }) ≡ Some (get_or r.widths i 0)) → (v : ℕ) → d ≡ Some v → get_or r.widths i 0 ≡ v
  declared-is settled v same = width_in-declared r.widths (record { op = op.Rec init first; args = g.operand ∷ []; declared = d; kinds = g.signed ∷ [] }) (get_or r.widths i 0) v (settled (ap (λ o. not (is_some o)) same)) same

  by_width : (c : Bool) (e : Option ℕ) → under c e meant ≡ Some s → d ≡ e → number_at w k meant ≡ r.numbers k i
  by_width false e gives same = ap (number_at w k) gives ∙ sym made_is
  by_width true None gives same = ap (number_at w k) (part-some meant s gives) ∙ sym made_is
  by_width true (Some v) gives same =
      let parts = some-of-fitted v meant s gives in
      let declared : get_or r.widths i 0 ≡ v = declared-is (sampled.have.each i (record { op = op.Rec init first; args = g.operand ∷ []; declared = d; kinds = g.signed ∷ [] }) there) v same in
      let wide : v ≡ w = sym declared ∙ sym width in
      let z = value parts.0.form (get_or parts.0.numbers k 0) in
      let fit : residue w (value s.form (get_or s.numbers k 0)) ≡ residue v z = ap₂ (λ (u : ℕ) (y : Stream). residue u (value y.form (get_or y.numbers k 0))) (sym wide) parts.2 ∙ ap (λ x. residue v (value (fitted v parts.0).form x)) (fitted-number v parts.0 k) ∙ residue-again parts.0.form.signed v (residue v z) (residue-lt v z) in
      ap (number_at w k) parts.1 ∙ ap (λ u. residue u z) (sym wide) ∙ sym (made_is ∙ fit)

-- ---- what names have
pub fewer : (r : Run) (n k : ℕ) → k ≤ n → (b : Option Bound) (o : Option Standing) → HasNumbers r n b o → HasNumbers r k b o
fewer r n k low (Some b) (Some (standing.Stream g init)) has = record { count = has.count; each = λ j less. has.each j (omega arith) }
fewer r n k low (Some b) (Some (standing.Own rec)) has = record { init_is = has.init_is; count = has.count; each = λ j less. has.each j (omega arith) }
fewer r n k low (Some b) None has = tt
fewer r n k low None o has = tt

choice-has : (r : Run) (n : ℕ) (c : Bool) (b : Bound) (o : Option Bound) (s : Standing) (p : Option Standing) → HasNumbers r n (Some b) (Some s) → HasNumbers r n o p → HasNumbers r n (cond c (Some b) o) (cond c (Some s) p)
choice-has r n true b o s p new old = new
choice-has r n false b o s p new old = old

-- one more name
pub more-stands : (r : Run) (n : ℕ) (name : List ℕ) (at : Option ℕ) (b : Bound) (s : Standing) (env : Streams) (standings : made_by.Streams) → HasNumbers r n (Some b) (Some s) → ((q : List ℕ) (place : Option ℕ) → HasNumbers r n (env q place) (standings q place)) → (q : List ℕ) (place : Option ℕ) → HasNumbers r n (with_bound name at b env q place) (with_standing name at s standings q place)
more-stands r n name at b s env standings new old q place = choice-has r n (bytes_eq name q && same_place at place) b (env q place) s (standings q place) new (old q place)
