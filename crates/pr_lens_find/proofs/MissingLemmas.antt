-- What is told of an equation without a width, and where it is made.
use Rattle.std.proofs.Common.{◌≡◌, ◌∙◌, ◌⊎◌, ◌-◌, ℕ, List, Option, Some, None, Result, Ok, Err, IfOk, option_map, ap, sym, subst, inl, inr}
use Rattle.std.specs.Prelude.{IfNone, IfSome, MatchOption}
use Rattle.std.specs.declared.alloc.AllocError.{AllocError}
use Rattle.std.specs.List.{slice_get}
use Rattle.std.proofs.lemmas.Option.{slice_get-map}
use Rattle.pr_lang.specs.declared.tokens.Token.{Token}
use Rattle.pr_lang.specs.declared.trees.Item.{Item}
use Rattle.pr_flat.specs.declared.equations.Equation.{Equation}
use Rattle.pr_flat.specs.declared.flat.Flat.{Flat}
use Rattle.pr_flat.specs.Flats.{equations_of}
use Rattle.pr_flat.specs.Shape.{EquationShape, equation_shape}
use Rattle.pr_flat.specs.Widths.{IsFirstWithout}
use Rattle.pr_lens_source.specs.declared.sources.Span.{Span}
use Rattle.pr_lens_find.specs.declared.widths.Extent.{Extent}
use Rattle.pr_lens_find.specs.declared.widths.Missing.{Missing}
use Rattle.pr_lens_find.specs.Fronts.{Spot}
use Rattle.pr_lens_find.specs.Made.{IsManyWith}
use Rattle.pr_lens_find.specs.Offences.{IsItemOf, values_in}
use Rattle.pr_lens_source.specs.Spans.{StandsIn}
use Rattle.pr_lens_source.specs.Tokens.{first_of}
use Rattle.pr_lens_find.specs.Turns.{IsTurn}
use Rattle.pr_lens_find.specs.Widths.{AreCommon, AreExtents, AreExtentsOf, AreUntold, IsToldOf, telling_of, HasFlatWith, HasNothing, LacksWidth, LacksNone, LacksNot, LacksFirst, IsToldCut, IsToldOfSpot, IsToldIn}

-- ---- equations
pub equation_at : (flat : Flat) (number : ℕ) (e : Equation) → slice_get flat.equations.items number ≡ Some e → slice_get (equations_of flat) number ≡ Some (equation_shape e)
equation_at flat number e there = slice_get-map equation_shape flat.equations.items number ∙ ap (λ (o : Option Equation). option_map equation_shape o) there

pub told_first : (flat before : Flat) (number known : ℕ) (equation told : Equation) (extents : List Extent) (m : Missing) → IsFirstWithout (equations_of flat) number → slice_get flat.equations.items number ≡ Some equation
    → equation_shape told ≡ telling_of (equations_of flat) (equation_shape equation) → AreCommon (equations_of flat) (equations_of before) known → AreUntold (equations_of before) extents ⊎ AreExtentsOf (equations_of before) known told.args.items extents
    → m.op ≡ Some equation.op → m.widths.items ≡ extents → IsToldOf (equations_of flat) (equations_of before) m
told_first flat before number known equation told extents m without there is common are op same = inr (record {
  number = number;
  without = without;
  tells = record {
    equation = equation_shape equation;
    there = equation_at flat number equation there;
    op = op;
    widths = subst (AreExtents (equations_of flat) (equations_of before) (equation_shape equation)) (sym same) (elim are [
      | inl none ↦ inl none
      | inr each ↦ inr (record { known = known; common = common; extents_are = subst (λ (e : EquationShape). AreExtentsOf (equations_of before) known e.args extents) is each })
    ]);
  };
})

-- ---- of a program that is cut off
pub cut_told : (spot : Spot) (count : ℕ) (flat before : Flat) (m : Missing) → HasFlatWith spot count flat → HasFlatWith spot (count - 1) before → IsToldOf (equations_of flat) (equations_of before) m → IsToldCut spot count m
cut_told spot count flat before m has had (inl untold) = inl (record { unknown = untold.unknown; why = HasNothing.AllHave (record { flat = flat; has = has; have = untold.have }) })
cut_told spot count flat before m has had (inr tells) = inr (record { flat = flat; has = has; before = before; had = had; tells = tells })

first_lack : (spot : Spot) (most : ℕ) (o : Option ℕ) → IfSome o (IsTurn (LacksNone spot) (LacksWidth spot) 0 most) → IfNone o (LacksNot spot most) → MatchOption o (LacksNot spot most) (LacksFirst spot)
first_lack spot most None is none = none
first_lack spot most (Some count) is none = record { lacks = is.yes; none = is.no }

pub first_lack_if : (spot : Spot) (most : ℕ) (r : Result (Option ℕ) AllocError) → IfOk r (λ o. IfSome o (IsTurn (LacksNone spot) (LacksWidth spot) 0 most)) → IfOk r (λ o. IfNone o (LacksNot spot most))
    → IfOk r (λ o. MatchOption o (LacksNot spot most) (LacksFirst spot))
first_lack_if spot most (Ok o) is none = first_lack spot most o is none
first_lack_if spot most (Err e) is none = tt

-- ---- of an item
module _ (spot : Spot) where
  spot_told : (count held : ℕ) (m : Missing) → m.token ≡ held → LacksFirst spot count
      → ((token : ℕ) → slice_get (values_in spot) (count - 1) ≡ Some token → StandsIn spot.tokens spot.spans spot.number token → held ≡ token)
      → (held ≡ first_of spot.tokens spot.spans spot.number) ⊎ (slice_get (values_in spot) (count - 1) ≡ Some held) → IsToldCut spot count m → IsToldOfSpot spot m
  spot_told count held m same first point other told = inr (record {
    count = count;
    first = first;
    point = λ token there stands. same ∙ point token there stands;
    other = elim other [ inl at ↦ inl (same ∙ at) | inr there ↦ inr (there ∙ ap (λ (k : ℕ). Some k) (sym same)) ];
    tells = told;
  })

  pub spot_told_if : (count held : ℕ) (r : Result Missing AllocError) → LacksFirst spot count
      → ((token : ℕ) → slice_get (values_in spot) (count - 1) ≡ Some token → StandsIn spot.tokens spot.spans spot.number token → held ≡ token)
      → (held ≡ first_of spot.tokens spot.spans spot.number) ⊎ (slice_get (values_in spot) (count - 1) ≡ Some held)
      → IfOk r (λ m. m.token ≡ held) → IfOk r (IsToldCut spot count) → IfOk r (IsToldOfSpot spot)
  spot_told_if count held (Ok m) first point other same told = spot_told count held m same first point other told
  spot_told_if count held (Err e) first point other same told = tt

module _ (text : List ℕ) (tokens : List Token) (spans : List Span) (equation number : ℕ) where
  pub found_told : (item : Item) (r : Result Missing AllocError) → IsManyWith text tokens spans equation number → IsItemOf text tokens spans number item
      → IfOk r (λ m. StandsIn tokens spans number m.token) → IfOk r (IsToldOfSpot (record { text = text; tokens = tokens; spans = spans; number = number; item = item }))
      → IfOk r (IsToldIn text tokens spans equation)
  found_told item (Ok m) made is stands told = record { number = number; made = made; stands = stands; tells = inr (record { item = item; is = is; tells = told }) }
  found_told item (Err e) made is stands told = tt
