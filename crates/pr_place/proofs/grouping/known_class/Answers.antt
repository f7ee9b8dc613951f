use Rattle.std.proofs.Common.{◌≡◌, ℕ, [], List, Vec, Global, Bool, true, false, get_or, ap, sym, ◌∙◌, subst, arith, inl, inr}
use Rattle.std.specs.Cmp.Lexicographic.{pointwise}
use Rattle.std.proofs.Math.Bool.{beq}
use Rattle.std.proofs.lemmas.Bool.{cases_lt, false≢true}
use Rattle.std.proofs.lemmas.List.{get_or-map}
use Rattle.pr_place.specs.Tables.{kinds_of}
use Rattle.pr_place.proofs.ReaderLemmas.{bits_self, same_bits}
use Rattle.pr_place.proofs.grouping.known_class.Goals as goal

pub returns-then-eq : goal.returns-then-eq
returns-then-eq c =
    let same = same_bits c.as_slice.result.now c.args.needs.now (sym c.eq.ensures ∙ c.if-eq.true) in
    record {
      some = (c.loop-class-test.true, get_or-map (λ (v : Vec Bool Global). v.items) c.args.classes.now c.loop-class.class c.index-classes-class.result [] c.loop-class-test.true ∙ ap (λ (v : Vec Bool Global). v.items) (sym c.index-classes-class.is) ∙ sym c.as_slice.ensures.value ∙ same);
      none = tt;
    }

pub loop-class-preserved : goal.loop-class-preserved
loop-class-preserved c k l e = elim (cases_lt k c.loop-class.class) [
  | inl low ↦ c.loop-class.invariant k low e
  | inr high ↦
      (let last : k ≡ c.loop-class.class = omega (arith, l, high) in
      let tried : get_or (kinds_of c.args.classes.now) c.loop-class.class [] ≡ c.as_slice.result.now = get_or-map (λ (v : Vec Bool Global). v.items) c.args.classes.now c.loop-class.class c.index-classes-class.result [] c.loop-class-test.true ∙ ap (λ (v : Vec Bool Global). v.items) (sym c.index-classes-class.is) ∙ sym c.as_slice.ensures.value in
      let same : c.as_slice.result.now ≡ c.args.needs.now = sym tried ∙ ap (λ (j : ℕ). get_or (kinds_of c.args.classes.now) j []) (sym last) ∙ e in
      let equal : pointwise beq c.as_slice.result.now c.args.needs.now ≡ true = subst (λ (ys : List Bool). pointwise beq c.as_slice.result.now ys ≡ true) same (bits_self c.as_slice.result.now) in
      let differ : pointwise beq c.as_slice.result.now c.args.needs.now ≡ false = sym c.eq.ensures ∙ c.if-eq.false in
      false≢true (sym differ ∙ equal))
]
