-- There is a least demand for every list of equations, so that equations are narrowed: what an output gives is demanded whole, and
-- what an equation lacks is raised until none lacks anything. No demand is raised above its width, so this ends.
use Rattle.std.proofs.Common.{◌≡◌, ◌⊎◌, ◌+◌, ◌<◌, ◌≤◌, ℕ, zero, suc, All, Some, List, [], ◌∷◌, length, get_or, set, replicate, refl, sym, ap, subst, ◌∙◌, inl, inr, arith, length-set, get_or-set_same, get_or-set_other}
use Rattle.std.specs.List.{slice_get}
use Rattle.std.proofs.lemmas.Bool.{cases_lt, cases_eq}
use Rattle.std.proofs.lemmas.List.{get_or_past, length-replicate}
use Rattle.std.proofs.lemmas.List.Elements.{All-nil, All-cons}
use Rattle.std.proofs.lemmas.Option.{slice_get_within}
use Rattle.pr_flat.specs.declared.equations.Operand.{Operand}
use Rattle.pr_flat.specs.declared.equations.Operand.TheVariants.{Const, Eq, Past}
use Rattle.pr_flat.specs.Shape.{EquationShape}
use Rattle.pr_flat.specs.Widths.{forms_in, AreWidths}
use Rattle.pr_flat.proofs.WidthLemmas.{equation_at}
use Rattle.pr_narrow.specs.Demand.{asked, rounded, Gives, GiveAll, IsWhole, IsServed, KeepsRules, IsDemand}
use Rattle.pr_narrow.specs.Known.{folded}
use Rattle.pr_narrow.specs.Narrowed.{AreNarrowed, new_widths, narrowed_by}
use Rattle.pr_narrow.specs.Passes.{AreBelow, AreServedFrom, RiseLeast, total}
use Rattle.pr_narrow.proofs.FoldedFlat.{length-folded}
use Rattle.pr_narrow.proofs.ServeLemmas.{below_trans, gives_more, served_by, served_as, total-less, total-same, zeros_below, demand_is}

-- ---- demands that rise
-- the least rise of demands with which this holds, none of them above its width
record Raised (widths old : List ℕ) (P : List ℕ → Type 0) : Type 0 where
  new : List ℕ
  count : length new ≡ length old
  more : AreBelow old new
  most : AreBelow old widths → AreBelow new widths
  holds : P new
  least : RiseLeast old new P

below_same : (demand : List ℕ) → AreBelow demand demand
below_same demand i = omega arith

unraised : (widths old : List ℕ) (P : List ℕ → Type 0) → P old → Raised widths old P
unraised widths old P holds = record {
  new = old;
  count = refl;
  more = below_same old;
  most = λ most. most;
  holds = holds;
  least = λ others has below. below;
}

-- the demand of this number is at least so great
abbrev IsMet : ℕ → ℕ → List ℕ → Type 0
IsMet i n demand = n ≤ get_or demand i 0

raise_number : (widths old : List ℕ) (i n : ℕ) → length old ≡ length widths → n ≤ get_or widths i 0 → Raised widths old (IsMet i n)
raise_number widths old i n count most = elim (cases_lt (get_or old i 0) n) [
  | inr met ↦ unraised widths old (IsMet i n) met
  | inl unmet ↦ elim (cases_lt i (length old)) [
    | inr past ↦ absurd (let none = get_or_past widths i 0 (omega (arith, count, past)) in omega (arith, none, most, unmet))
    | inl within ↦
        (let here : get_or (set old i n) i 0 ≡ n = get_or-set_same old i n 0 within in
        record {
          new = set old i n;
          count = length-set old i n;
          more = λ k. elim (cases_eq k i) [
            | inl same ↦ (let now : get_or (set old i n) k 0 ≡ n = ap (λ (m : ℕ). get_or (set old i n) m 0) same ∙ here in let was : get_or old k 0 ≡ get_or old i 0 = ap (λ (m : ℕ). get_or old m 0) same in omega (arith, now, was, unmet))
            | inr other ↦ (let now : get_or (set old i n) k 0 ≡ get_or old k 0 = get_or-set_other old i k n 0 other in omega (arith, now))
          ];
          most = λ below k. elim (cases_eq k i) [
            | inl same ↦ (let now : get_or (set old i n) k 0 ≡ n = ap (λ (m : ℕ). get_or (set old i n) m 0) same ∙ here in let wide : get_or widths k 0 ≡ get_or widths i 0 = ap (λ (m : ℕ). get_or widths m 0) same in omega (arith, now, wide, most))
            | inr other ↦ (let now : get_or (set old i n) k 0 ≡ get_or old k 0 = get_or-set_other old i k n 0 other in let low = below k in omega (arith, now, low))
          ];
          holds = omega (arith, here);
          least = λ others has below k. elim (cases_eq k i) [
            | inl same ↦ (let now : get_or (set old i n) k 0 ≡ n = ap (λ (m : ℕ). get_or (set old i n) m 0) same ∙ here in let theirs : get_or others k 0 ≡ get_or others i 0 = ap (λ (m : ℕ). get_or others m 0) same in omega (arith, now, theirs, has))
            | inr other ↦ (let now : get_or (set old i n) k 0 ≡ get_or old k 0 = get_or-set_other old i k n 0 other in let low = below k in omega (arith, now, low))
          ];
        })
  ]
]

-- one fact after another, where what is raised later keeps the first
raise_both : (widths old : List ℕ) (P Q : List ℕ → Type 0) → ((less more : List ℕ) → AreBelow less more → P less → P more) → (first : Raised widths old P) → Raised widths first.new Q → Raised widths old (λ demand. P demand × Q demand)
raise_both widths old P Q kept first next = record {
  new = next.new;
  count = next.count ∙ first.count;
  more = below_trans old first.new next.new first.more next.more;
  most = λ most. next.most (first.most most);
  holds = (kept first.new next.new next.more first.holds, next.holds);
  least = λ others has below. next.least others has.1 (first.least others has.0 below);
}

-- ---- what is demanded
raise_operand : (widths old : List ℕ) (a : Operand) (n : ℕ) → length old ≡ length widths → Raised widths old (λ demand. Gives widths demand a n)
raise_operand widths old (Const c) n count = unraised widths old (λ demand. Gives widths demand (Const c) n) tt
raise_operand widths old (Eq i) n count = raise_number widths old i (rounded (get_or widths i 0) n) count (omega arith)
raise_operand widths old (Past rec k) n count = raise_number widths old rec (rounded (get_or widths rec 0) n) count (omega arith)

raise_operands : (widths old : List ℕ) (args : List Operand) (ns : List ℕ) → length old ≡ length widths → Raised widths old (λ demand. GiveAll widths demand args ns)
raise_operands widths old [] ns count = unraised widths old (λ demand. GiveAll widths demand [] ns) tt
raise_operands widths old (a ∷ args) [] count = unraised widths old (λ demand. GiveAll widths demand (a ∷ args) []) tt
raise_operands widths old (a ∷ args) (n ∷ ns) count =
    let first = raise_operand widths old a n count in
    raise_both widths old (λ demand. Gives widths demand a n) (λ demand. GiveAll widths demand args ns) (λ less more below gives. gives_more widths less more a n below gives) first (raise_operands widths first.new args ns (first.count ∙ count))

raise_output : (widths old : List ℕ) (a : Operand) → length old ≡ length widths → Raised widths old (λ demand. IsWhole widths demand a)
raise_output widths old (Const c) count = unraised widths old (λ demand. IsWhole widths demand (Const c)) tt
raise_output widths old (Past rec k) count = unraised widths old (λ demand. IsWhole widths demand (Past rec k)) tt
raise_output widths old (Eq i) count = raise_number widths old i (get_or widths i 0) count (omega arith)

whole_more : (widths less more : List ℕ) (a : Operand) → AreBelow less more → IsWhole widths less a → IsWhole widths more a
whole_more widths less more (Const c) below whole = tt
whole_more widths less more (Eq i) below whole = let x = below i in omega (arith, x, whole)
whole_more widths less more (Past rec k) below whole = tt

raise_outputs : (widths old : List ℕ) (outputs : List Operand) → length old ≡ length widths → Raised widths old (λ demand. All (IsWhole widths demand) outputs)
raise_outputs widths old [] count = unraised widths old (λ demand. All (IsWhole widths demand) []) (All-nil (IsWhole widths old))
raise_outputs widths old (a ∷ outputs) count =
    let first = raise_output widths old a count in
    let next = raise_outputs widths first.new outputs (first.count ∙ count) in
    let both = raise_both widths old (λ demand. IsWhole widths demand a) (λ demand. All (IsWhole widths demand) outputs) (λ less more below whole. whole_more widths less more a below whole) first next in
    record {
      new = both.new;
      count = both.count;
      more = both.more;
      most = both.most;
      holds = All-cons (IsWhole widths both.new) a outputs both.holds.0 both.holds.1;
      least = λ others has below. both.least others (has 0 a (omega arith), λ k d low. has (suc k) d (omega (arith, low))) below;
    }

-- ---- all equations
abbrev ServedBelow : List EquationShape → List ℕ → List ℕ → ℕ → Type 0
ServedBelow equations widths demand n = (i : ℕ) (e : EquationShape) → slice_get equations i ≡ Some e → i < n → 0 < get_or demand i 0 → IsServed widths demand e (get_or demand i 0)

give_all_more : (widths less more : List ℕ) (args : List Operand) (ns : List ℕ) → AreBelow less more → GiveAll widths less args ns → GiveAll widths more args ns
give_all_more widths less more [] ns below gives = tt
give_all_more widths less more (a ∷ args) [] below gives = tt
give_all_more widths less more (a ∷ args) (n ∷ ns) below gives = (gives_more widths less more a n below gives.0, give_all_more widths less more args ns below gives.1)

-- the rules hold of higher demands alone, and some demand is higher
record Risen (equations : List EquationShape) (outputs : List Operand) (widths old : List ℕ) : Type 0 where
  new : List ℕ
  count : length new ≡ length old
  more : AreBelow old new
  most : AreBelow old widths → AreBelow new widths
  greater : total old < total new
  least : RiseLeast old new (KeepsRules equations outputs widths)

-- demands that rose no further than the rules ask, and serve all equations
record Settled (equations : List EquationShape) (outputs : List Operand) (widths old : List ℕ) : Type 0 where
  new : List ℕ
  count : length new ≡ length old
  more : AreBelow old new
  least : RiseLeast old new (KeepsRules equations outputs widths)
  served : AreServedFrom equations widths new 0

module _ (equations : List EquationShape) (outputs : List Operand) (widths : List ℕ) where
  -- one equation has what it demands, or demands rise
  served_or_risen : (old : List ℕ) → length old ≡ length widths → (i : ℕ) (e : EquationShape) → slice_get equations i ≡ Some e → 0 < get_or old i 0 → Risen equations outputs widths old ⊎ IsServed widths old e (get_or old i 0)
  served_or_risen old count i e there some =
      let r = raise_operands widths old e.args (asked e.op (forms_in widths e) (get_or old i 0)) count in
      elim (cases_lt (total old) (total r.new)) [
        | inl greater ↦ inl (record {
          new = r.new;
          count = r.count;
          more = r.more;
          most = r.most;
          greater = greater;
          least = λ others rules below. r.least others (served_by equations outputs widths others i (get_or old i 0) e rules there some (below i)) below;
        })
        | inr same ↦ inr (give_all_more widths r.new old e.args (asked e.op (forms_in widths e) (get_or old i 0)) (total-same old r.new (sym r.count) r.more same) r.holds)
      ]

  served_here : (old : List ℕ) (n : ℕ) (x : EquationShape) → slice_get equations n ≡ Some x → IsServed widths old x (get_or old n 0) → (i : ℕ) → i ≡ n → (e : EquationShape) → slice_get equations i ≡ Some e → IsServed widths old e (get_or old i 0)
  served_here old n x at here i same = subst (λ (m : ℕ). (e : EquationShape) → slice_get equations m ≡ Some e → IsServed widths old e (get_or old m 0)) (sym same) (λ e there. served_as equations widths old n (get_or old n 0) x e at there here)

  all_served_or_risen : (old : List ℕ) → length old ≡ length widths → (n : ℕ) → n ≤ length equations → Risen equations outputs widths old ⊎ ServedBelow equations widths old n
  all_served_or_risen old count zero within = inr (λ i e there low some. absurd (omega (arith, low)))
  all_served_or_risen old count (suc n) within =
      let found = equation_at equations n (omega (arith, within)) in
      elim (all_served_or_risen old count n (omega (arith, within))) [
        | inl risen ↦ inl risen
        | inr served ↦ elim (cases_lt 0 (get_or old n 0)) [
          | inr none ↦ inr (λ i e there low some. elim (cases_eq i n) [
            | inl same ↦ absurd (let here : get_or old i 0 ≡ get_or old n 0 = ap (λ (m : ℕ). get_or old m 0) same in omega (arith, here, none, some))
            | inr other ↦ served i e there (omega (arith, low, other)) some
          ])
          | inl wanted ↦ elim (served_or_risen old count n found.0 found.1 wanted) [
            | inl risen ↦ inl risen
            | inr here ↦ inr (λ i e there low some. elim (cases_eq i n) [
              | inl same ↦ served_here old n found.0 found.1 here i same e there
              | inr other ↦ served i e there (omega (arith, low, other)) some
            ])
          ]
        ]
      ]

  settle : (left : ℕ) (old : List ℕ) → length old ≡ length widths → AreBelow old widths → total widths < left + total old → Settled equations outputs widths old
  settle zero old count below enough = absurd (let less = total-less old widths count below in omega (arith, less, enough))
  settle (suc left) old count below enough = elim (all_served_or_risen old count (length equations) (omega arith)) [
    | inr served ↦ record {
      new = old;
      count = refl;
      more = below_same old;
      least = λ others rules under. under;
      served = λ i e there low some. served i e there (slice_get_within equations i e there) some;
    }
    | inl risen ↦
        (let greater = risen.greater in
        let rest = settle left risen.new (risen.count ∙ count) (risen.most below) (omega (arith, enough, greater)) in
        record {
          new = rest.new;
          count = rest.count ∙ risen.count;
          more = below_trans old risen.new rest.new risen.more rest.more;
          least = λ others rules under. rest.least others rules (risen.least others rules under);
          served = rest.served;
        })
  ]

  pub some_demand : length widths ≡ length equations → (demand : List ℕ) × IsDemand equations outputs widths demand
  some_demand long =
      let start : List ℕ = replicate (length widths) 0 in
      let zeros : (others : List ℕ) → AreBelow start others = zeros_below (length widths) in
      let begun : length start ≡ length widths = length-replicate (length widths) 0 in
      let marked = raise_outputs widths start outputs begun in
      let settled = settle (suc (total widths)) marked.new (marked.count ∙ begun) (marked.most (zeros widths)) (omega arith) in
      (settled.new, demand_is equations outputs widths start marked.new settled.new (settled.count ∙ (marked.count ∙ (begun ∙ long))) marked.holds settled.more zeros marked.least settled.least settled.served)

-- ---- equations narrowed
pub some_narrowing : (equations : List EquationShape) (outputs : List Operand) (widths : List ℕ) → AreWidths equations widths → (narrowed : List EquationShape) × (news : List ℕ) × AreNarrowed equations outputs widths narrowed news
some_narrowing equations outputs widths are =
    let f = folded equations widths in
    let d = some_demand f outputs widths (are.count ∙ sym (length-folded equations outputs widths are)) in
    let news = new_widths f widths d.0 in
    (narrowed_by d.0 news f, news, record { demand = d.0; demanded = d.1; widths_are = refl; equations_are = refl })
