-- Flat equations have widths, or one of them is the first without: they are settled part by part, each part up to a recurrence
-- without declared width and with it, for which one width after the other is tried.
use Rattle.std.proofs.Common.{◌≡◌, ◌⊎◌, ◌+◌, ◌-◌, ◌^◌, ◌<◌, ◌≤◌, ℕ, zero, suc, true, false, not, is_some, unwrap_or, Option, Some, None, List, [], ◌∷◌, length, map, get_or, set, refl, sym, ap, ◌∙◌, subst, inl, inr, arith}
use Rattle.std.specs.List.{slice_get}
use Rattle.std.proofs.lemmas.Bool.{cases_lt, cases_Bool, and_parts}
use Rattle.std.proofs.lemmas.List.{length-map, get_or_default}
use Rattle.std.proofs.lemmas.Option.{slice_get_within}
use Rattle.pr_flat.specs.declared.equations.Operand.{Operand}
use Rattle.pr_flat.specs.declared.equations.Operand.TheVariants.{Const}
use Rattle.pr_flat.specs.declared.equations.Op.{Op}
use Rattle.pr_flat.specs.declared.equations.Op.TheVariants.{Rec}
use Rattle.pr_flat.specs.Shape.{EquationShape}
use Rattle.pr_flat.specs.Facts.{is_rec, IsFlat}
use Rattle.pr_flat.specs.Widths.{operand_width, width_in, is_open, AgreeBelow, AreWidthsBelow, AreWidths, IsFirstWithout}
use Rattle.pr_flat.proofs.WidthLemmas.{below_put, below_fewer, equation_at, one_equation}
use Rattle.pr_width.specs.Parts.{IsOpenAt, AreClosed, BeginsPart, HoldsNowhereBy, HoldsNotAt, HoldsFrom, StopsAt}
use Rattle.pr_width.proofs.SolverLemmas.{body_closed, put_before, put_after, put_here, before_put, agree_along, body_ordered, rec_args, below_tried_at, fails_in_body, fails_at_end, holds_here, found_least, without_before, without_last, without_at}
use Rattle.pr_compile_verdicts.specs.Verdicts.{SomeOf}
use Rattle.pr_compile_verdicts.proofs.Cases.{cases_option}

-- what a fact is of
abbrev SubjectOf : {A : Type 0} → (A → Type 0) → Type 0
SubjectOf {A} P = A

-- a recurrence: its number, the first equation of its body and its initial value
abbrev Recurrence : Type 0
Recurrence = SubjectOf (IsOpenAt [])

-- ---- equations that are no recurrences without declared width
-- widths up to the first equation without one, or to the end
record Filled (equations : List EquationShape) (from end : ℕ) (old : List ℕ) : Type 0 where
  reached : ℕ
  widths : List ℕ
  low : from ≤ reached
  high : reached ≤ end
  below : AreWidthsBelow reached equations widths
  before : AgreeBelow from old widths
  after : (k : ℕ) → end ≤ k → get_or widths k 0 ≡ get_or old k 0
  stops : StopsAt equations end widths reached

-- none is put
stopped_at : (equations : List EquationShape) (from end : ℕ) (old : List ℕ) → from ≤ end → AreWidthsBelow from equations old → StopsAt equations end old from → Filled equations from end old
stopped_at equations from end old low below stops = record {
  reached = from;
  widths = old;
  low = omega arith;
  high = low;
  below = below;
  before = λ k less. refl;
  after = λ k more. refl;
  stops = stops;
}

-- one is put before the others
one_more : (equations : List EquationShape) (from end w : ℕ) (old : List ℕ) → from < end → Filled equations (from + 1) end (set old from w) → Filled equations from end old
one_more equations from end w old here rest = record {
  reached = rest.reached;
  widths = rest.widths;
  low = (let more = rest.low in omega (arith, more));
  high = rest.high;
  below = rest.below;
  before = agree_along from old (set old from w) rest.widths (put_before from from w old old (omega arith) (λ k low. refl)) (λ k low. rest.before k (omega (arith, low)));
  after = λ k high. rest.after k high ∙ put_after end from w old old here (λ j more. refl) k high;
  stops = rest.stops;
}

-- the next recurrence without declared width
record Next (equations : List EquationShape) (from : ℕ) : Type 0 where
  recurrence : Recurrence
  is : IsOpenAt equations recurrence
  after : from ≤ recurrence.number
  closed : AreClosed equations from recurrence.number

rec_of : (o : Op) → is_rec o ≡ true → (init : ℕ) × (first : ℕ) × (o ≡ Rec init first)
rec_of (Rec init first) is = (init, first, refl)
rec_of o is = cc

-- the declared widths settle nothing yet
declared_at : (equations : List EquationShape) (i w : ℕ) (e : EquationShape) → slice_get equations i ≡ Some e → e.declared ≡ Some w → get_or (map (λ (x : EquationShape). unwrap_or x.declared 0) equations) i 0 ≡ w
declared_at [] i w e there is = cc
declared_at (x ∷ equations) zero w e there is =
    let same : x ≡ e = cc in
    subst (λ (y : EquationShape). unwrap_or y.declared 0 ≡ w) (sym same) (ap (λ (o : Option ℕ). unwrap_or o 0) is)
declared_at (x ∷ equations) (suc i) w e there is = declared_at equations i w e there is

none_below : (equations : List EquationShape) → AreWidthsBelow 0 equations (map (λ (x : EquationShape). unwrap_or x.declared 0) equations)
none_below equations = record {
  count = length-map equations (λ (x : EquationShape). unwrap_or x.declared 0);
  declared = λ i e there w is. declared_at equations i w e there is;
  each = λ i e there low closed. absurd (omega (arith, low));
  recurrences = λ i e there init first low open_ op. absurd (omega (arith, low));
}

module _ (equations : List EquationShape) (outputs : List Operand) (flat : IsFlat equations outputs) where
  filled : (count from end : ℕ) (old : List ℕ) → from + count ≡ end → end ≤ length equations → AreWidthsBelow from equations old → AreClosed equations from end → Filled equations from end old
  filled zero from end old to within below closed = stopped_at equations from end old (omega (arith, to)) below (λ e low there. absurd (omega (arith, to, low)))
  filled (suc count) from end old to within below closed =
      let found = equation_at equations from (omega (arith, to, within)) in
      let here : from < end = omega (arith, to) in
      elim (cases_option (width_in old found.0)) [
        | inl none ↦ stopped_at equations from end old (omega (arith, to)) below (λ e low there. subst (λ (x : EquationShape). width_in old x ≡ None) (one_equation equations from found.0 e found.1 there) none)
        | inr some ↦
            (let put : AreWidthsBelow (from + 1) equations (set old from some.0) = below_put equations outputs from found.0 old some.0 flat found.1 (closed from found.0 found.1 (omega arith) here) some.1 below in
            one_more equations from end some.0 old here (filled count (from + 1) end (set old from some.0) (omega (arith, to)) within put (λ i e there low high. closed i e there (omega (arith, low)) high)))
      ]

  -- ---- a recurrence without declared width
  next_width : (r : Recurrence) (old : List ℕ) (width : ℕ) → HoldsFrom equations r old width → HoldsNotAt equations r old width → HoldsFrom equations r old (width + 1)
  next_width r old width from fails others agree holds =
      let low = from others agree holds in
      let other = fails others agree holds in
      omega (arith, low, other)

  -- one width is tried: the recurrence has it, or holds at none so small
  tried : (r : Recurrence) → IsOpenAt equations r → (old : List ℕ) → AreWidthsBelow r.first equations old → (width : ℕ) → 1 ≤ width → width ≤ 128 → HoldsFrom equations r old width
      → ((widths : List ℕ) × AreWidthsBelow (r.number + 1) equations widths) ⊎ HoldsNotAt equations r old width
  tried r is old below width least greatest from =
      let ordered = body_ordered equations outputs r flat is in
      let within = slice_get_within equations r.number is.equation is.there in
      let closed = body_closed equations r.number r.first (flat.bodies r.number is.equation is.there r.init r.first is.op) in
      let f = filled (r.number - r.first) r.first r.number (set old r.number width) (omega (arith, ordered)) (omega (arith, within)) (below_tried_at equations outputs r old width flat is below) closed in
      let put : get_or f.widths r.number 0 ≡ width = put_here r.number width old f.widths (omega (arith, within, below.count)) f.after in
      let before : AgreeBelow r.first old f.widths = before_put r.first r.number width old f.widths ordered f.before in
      let some : 0 < length is.equation.args = (let one = rec_args equations outputs r is.equation flat is is.there in omega (arith, one)) in
      let operand : Operand = get_or is.equation.args 0 (Const 0) in
      let read : operand ≡ get_or is.equation.args 0 operand = get_or_default is.equation.args 0 (Const 0) operand some in
      elim (cases_lt r.init (2 ^ width)) [
        | inr wide ↦ inr (λ others agree holds same. (let initial : r.init < 2 ^ width = subst (λ (n : ℕ). r.init < 2 ^ n) same holds.initial in omega (arith, initial, wide)))
        | inl initial ↦ elim (cases_lt f.reached r.number) [
          | inl stopped ↦ inr (λ others agree holds same. fails_in_body equations outputs r old f.widths width f.reached flat is f.below put before f.low stopped (λ d there. f.stops d stopped there) others agree holds same)
          | inr whole ↦
              (let body : AreWidthsBelow r.number equations f.widths = below_fewer r.number f.reached equations f.widths whole f.below in
              elim (cases_lt width (operand_width f.widths operand)) [
                | inl wider ↦ inr (λ others agree holds same. fails_at_end equations outputs r old f.widths width is.equation operand flat is body put before is.there some read wider others agree holds same)
                | inr narrow ↦ inl (f.widths, found_least equations r old f.widths width is (holds_here equations outputs r f.widths width is.equation operand flat is body put least greatest initial is.there read narrow) before from)
              ])
        ]
      ]

  least_or_nowhere : (r : Recurrence) → IsOpenAt equations r → (old : List ℕ) → AreWidthsBelow r.first equations old → (count width : ℕ) → width + count ≡ 129 → 1 ≤ width → HoldsFrom equations r old width
      → ((widths : List ℕ) × AreWidthsBelow (r.number + 1) equations widths) ⊎ HoldsNowhereBy equations r old
  least_or_nowhere r is old below zero width to least from = inr (λ others agree holds. (let low = from others agree holds in let high = holds.greatest in omega (arith, to, low, high)))
  least_or_nowhere r is old below (suc count) width to least from = elim (tried r is old below width least (omega (arith, to)) from) [
    | inl widths ↦ inl widths
    | inr fails ↦ least_or_nowhere r is old below count (width + 1) (omega (arith, to)) (omega arith) (next_width r old width from fails)
  ]

  -- ---- the next recurrence without declared width
  open_here : (from : ℕ) (e : EquationShape) → slice_get equations from ≡ Some e → is_open e ≡ true → Next equations from
  open_here from e there open_ =
      let r = rec_of e.op (and_parts (is_rec e.op) (not (is_some e.declared)) open_).0 in
      record {
        recurrence = record { number = from; first = r.1; init = r.0 };
        is = record { equation = e; there = there; undeclared = open_; op = r.2 };
        after = omega arith;
        closed = λ i d at low high. absurd (omega (arith, low, high));
      }

  closed_more : (from end : ℕ) (e : EquationShape) → slice_get equations from ≡ Some e → is_open e ≡ false → AreClosed equations (from + 1) end → AreClosed equations from end
  closed_more from end e there closed rest i d at low high = elim (cases_lt from i) [
    | inl later ↦ rest i d at (omega (arith, later)) high
    | inr here ↦
        let same : i ≡ from = omega (arith, low, here) in
        subst (λ (x : EquationShape). is_open x ≡ false) (one_equation equations from e d there (subst (λ (n : ℕ). slice_get equations n ≡ Some d) same at)) closed
  ]

  next_open : (count from : ℕ) → from + count ≡ length equations → Next equations from ⊎ AreClosed equations from (length equations)
  next_open zero from to = inr (λ i e there low high. absurd (omega (arith, to, low, high)))
  next_open (suc count) from to =
      let found = equation_at equations from (omega (arith, to)) in
      elim (cases_Bool (is_open found.0)) [
        | inl is ↦ inl (open_here from found.0 found.1 is)
        | inr is ↦ elim (next_open count (from + 1) (omega (arith, to))) [
          | inl next ↦ inl (record {
            recurrence = next.recurrence;
            is = next.is;
            after = (let later = next.after in omega (arith, later));
            closed = closed_more from next.recurrence.number found.0 found.1 is next.closed;
          })
          | inr none ↦ inr (closed_more from (length equations) found.0 found.1 is none)
        ]
      ]

  -- ---- part after part
  begins_next : (r : Recurrence) → IsOpenAt equations r → BeginsPart equations (r.number + 1)
  begins_next r is i e there init first open_ op after = elim (cases_lt r.number first) [
    | inl later ↦ omega (arith, later)
    | inr around ↦ absurd (
        let alone = (flat.bodies i e there init first op).alone r.number is.equation is.there around (omega (arith, after)) in
        let none : is_rec (Rec r.init r.first) ≡ false = subst (λ (o : Op). is_rec o ≡ false) is.op alone in cc)
  ]

  -- the widths before a recurrence, and then its own and its body's
  put_recurrence : (from : ℕ) (old : List ℕ) → AreWidthsBelow from equations old → BeginsPart equations from → (next : Next equations from)
      → ((widths : List ℕ) × AreWidthsBelow (next.recurrence.number + 1) equations widths) ⊎ ((n : ℕ) × IsFirstWithout equations n)
  put_recurrence from old below begins next =
      let r = next.recurrence in
      let ordered = body_ordered equations outputs r flat next.is in
      let within = slice_get_within equations r.number next.is.equation next.is.there in
      let starts = begins r.number next.is.equation next.is.there r.init r.first next.is.undeclared next.is.op next.after in
      let f = filled (r.first - from) from r.first old (omega (arith, starts)) (omega (arith, ordered, within)) below (λ i e there low high. next.closed i e there low (omega (arith, high, ordered))) in
      elim (cases_lt f.reached r.first) [
        | inl stopped ↦ inr (f.reached, without_before equations outputs r f.widths from f.reached flat next.is next.closed f.low stopped f.below (λ e there. f.stops e stopped there))
        | inr whole ↦
            (let body : AreWidthsBelow r.first equations f.widths = below_fewer r.first f.reached equations f.widths whole f.below in
            elim (least_or_nowhere r next.is f.widths body 128 1 (omega arith) (omega arith) (λ others agree holds. holds.least)) [
              | inl widths ↦ inl widths
              | inr nowhere ↦ inr (r.number, without_at equations r f.widths next.is body nowhere)
            ])
      ]

  -- the widths after the last recurrence without declared width
  put_last : (from : ℕ) (old : List ℕ) → from ≤ length equations → AreWidthsBelow from equations old → AreClosed equations from (length equations) → SomeOf (AreWidths equations) (IsFirstWithout equations)
  put_last from old low below closed =
      let f = filled (length equations - from) from (length equations) old (omega (arith, low)) (omega arith) below closed in
      elim (cases_lt f.reached (length equations)) [
        | inl stopped ↦ inr (f.reached, without_last equations f.widths from f.reached closed f.low stopped f.below (λ e there. f.stops e stopped there))
        | inr whole ↦ inl (f.widths, below_fewer (length equations) f.reached equations f.widths whole f.below)
      ]

  settled : (left from : ℕ) (old : List ℕ) → from ≤ length equations → length equations ≤ left + from → AreWidthsBelow from equations old → BeginsPart equations from → SomeOf (AreWidths equations) (IsFirstWithout equations)
  settled zero from old low enough below begins = inl (old, below_fewer (length equations) from equations old (omega (arith, enough)) below)
  settled (suc left) from old low enough below begins = elim (next_open (length equations - from) from (omega (arith, low))) [
    | inr none ↦ put_last from old low below none
    | inl next ↦ elim (put_recurrence from old below begins next) [
      | inr without ↦ inr without
      | inl put ↦
          (let r = next.recurrence in
          let later = next.after in
          let within = slice_get_within equations r.number next.is.equation next.is.there in
          settled left (r.number + 1) put.0 (omega (arith, within)) (omega (arith, enough, later)) put.1 (begins_next r next.is))
    ]
  ]

  pub some_widths : SomeOf (AreWidths equations) (IsFirstWithout equations)
  some_widths = settled (length equations) 0 (map (λ (x : EquationShape). unwrap_or x.declared 0) equations) (omega arith) (omega arith) (none_below equations) (λ i e there init first open_ op after. omega arith)
