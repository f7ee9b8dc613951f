-- No register is given away while a cell that has it is live.
use Rattle.std.proofs.Common.{◌≡◌, ℕ, zero, suc, ◌+◌, ◌<◌, ◌≤◌, ◌⊎◌, ◌==◌, ◌&&◌, true, false, not, List, ◌++◌, length, sym, ◌∙◌, subst, arith, inl, inr}
use Rattle.std.specs.List.{Contains, fold, list_any, range_with_len}
use Rattle.std.proofs.lemmas.Bool.{and_cases, or_parts, eqb-true, not-false, false≢true}
use Rattle.std.proofs.lemmas.List.Elements.{Contains-append_cases, Contains-append_left}
use Rattle.pr_net.specs.Shape.{NetShape, units_of}
use Rattle.pr_net.specs.Nets.{group_of, group_reads, unit_reads, is_output, IsNet}
use Rattle.pr_net.proofs.Lists.{any_here, any_found, none_passes, in_range}
use Rattle.pr_place.specs.Placements.{PlacementShape, stage_of}
use Rattle.pr_place.specs.Greedy.{Seat, spots_of, groups_in, is_placed, is_live, seats_from, turn, stripe, placed_after, IsGreedy}
use Rattle.pr_place.specs.Sound.{KeepsLive}
use Rattle.pr_place.proofs.Rule.{Batch}
use Rattle.pr_place.proofs.Placing.{placing}
use Rattle.pr_place.proofs.Stripes.{turn_cases, placed_sound}
use Rattle.pr_place.proofs.Soundness.{Setting, at, first_cell, stage_is, column_is, register_is}

-- one seat's group is placed before another's
abbrev Precedes : Seat → Seat → Type 0
Precedes o w = (o.stage < w.stage) ⊎ ((o.stage ≡ w.stage) × (o.group < w.group))

-- a group has a seat, and is placed before this seat's group
record Earlier (placed : List Seat) (h : ℕ) (w : Seat) : Type 0 where
  seat : Seat
  there : Contains placed seat
  group : seat.group ≡ h
  before : Precedes seat w

-- before the turn of a group in a stripe: who is placed, and that a register was free where it was given again
record Live (net : NetShape) (stage from : ℕ) (placed : List Seat) : Type 0 where
  turns : (t : Seat) → Contains placed t → (t.stage < stage) ⊎ ((t.stage ≡ stage) × (t.group < from))
  freed : (o w : Seat) → Contains placed o → Contains placed w → Precedes o w → o.col ≡ w.col → o.reg ≡ w.reg → 1 ≤ w.reg
      → (is_output net o.unit o.place ≡ false) × ((h : ℕ) → h < length net.groups → group_reads net o.unit o.place h ≡ true → Earlier placed h w)

-- what is said of a cell that is live no more, as a group is placed
let_go : (net : NetShape) (stage g : ℕ) (placed : List Seat) → Live net stage g placed → (o w : Seat) → is_live net placed o ≡ false → w.stage ≡ stage → w.group ≡ g
    → (is_output net o.unit o.place ≡ false) × ((h : ℕ) → h < length net.groups → group_reads net o.unit o.place h ≡ true → Earlier placed h w)
let_go net stage g placed live o w dead es eg =
    let reads = λ (h : ℕ). group_reads net o.unit o.place h && not (is_placed placed h) in
    let parts = or_parts (is_output net o.unit o.place) (list_any reads (groups_in net)) dead in (
      parts.0,
      λ h l r.
          let no : reads h ≡ false = none_passes reads (groups_in net) parts.1 h (in_range (length net.groups) h l) in
          let is : is_placed placed h ≡ true = elim (and_cases (group_reads net o.unit o.place h) (not (is_placed placed h)) no) [ inl f ↦ absurd (false≢true (sym f ∙ r)) | inr f ↦ not-false _ f ] in
          let some = any_found (λ (t : Seat). t.group == h) placed is in
          record {
            seat = some.0;
            there = some.1;
            group = eqb-true _ _ some.2;
            before = elim (live.turns some.0 some.1) [ inl a ↦ inl (omega (arith, a, es)) | inr (a, b) ↦ inr (a ∙ sym es, omega (arith, b, eg)) ];
          },
    )

more : (placed b : List Seat) (h : ℕ) (w : Seat) → Earlier placed h w → Earlier (placed ++ b) h w
more placed b h w e = record { seat = e.seat; there = Contains-append_left placed b e.seat e.there; group = e.group; before = e.before }

-- no seat of the group that is placed comes before one that is there
not_before : (net : NetShape) (stage g : ℕ) (placed : List Seat) → Live net stage g placed → (o w : Seat) → o.stage ≡ stage → o.group ≡ g → Contains placed w → Precedes o w → ⊥
not_before net stage g placed live o w es eg c p = elim (live.turns w c) [
  | inl a ↦ elim p [ inl q ↦ omega (arith, a, es, q) | inr (q, r) ↦ omega (arith, a, es, q) ]
  | inr (a, b) ↦ elim p [ inl q ↦ omega (arith, a, es, q) | inr (q, r) ↦ omega (arith, b, eg, r) ]
]

not_itself : (stage g : ℕ) (o w : Seat) → o.stage ≡ stage → w.stage ≡ stage → o.group ≡ g → w.group ≡ g → Precedes o w → ⊥
not_itself stage g o w os ws og wg p = elim p [ inl q ↦ omega (arith, os, ws, q) | inr (q, r) ↦ omega (arith, og, wg, r) ]

added_live : (N P : ℕ) (net : NetShape) (stage g : ℕ) (placed b : List Seat) → Live net stage g placed → Batch N P net stage g placed b → Live net stage (suc g) (placed ++ b)
added_live N P net stage g placed b live m = record {
  turns = λ t c. elim (Contains-append_cases placed b t c) [
    | inl i ↦ elim (live.turns t i) [ inl a ↦ inl a | inr (e, l) ↦ inr (e, omega (arith, l)) ]
    | inr j ↦ inr (m.stage_is t j, (let e = m.group t j in omega (arith, e)))
  ];
  freed = λ o w co cw p ec er some. elim (Contains-append_cases placed b o co) [
    | inl i ↦ elim (Contains-append_cases placed b w cw) [
      | inl j ↦ (let r = live.freed o w i j p ec er some in (r.0, λ h l q. more placed b h w (r.1 h l q)))
      | inr j ↦ (let r = let_go net stage g placed live o w (m.free o w i j ec er some) (m.stage_is w j) (m.group w j) in (r.0, λ h l q. more placed b h w (r.1 h l q)))
    ]
    | inr i ↦ absurd (elim (Contains-append_cases placed b w cw) [
      | inl j ↦ not_before net stage g placed live o w (m.stage_is o i) (m.group o i) j p
      | inr j ↦ not_itself stage g o w (m.stage_is o i) (m.stage_is w j) (m.group o i) (m.group w j) p
    ])
  ];
}

passed_over : (net : NetShape) (stage g : ℕ) (placed : List Seat) → Live net stage g placed → Live net stage (suc g) placed
passed_over net stage g placed live = record {
  turns = λ t c. elim (live.turns t c) [ inl a ↦ inl a | inr (e, l) ↦ inr (e, omega (arith, l)) ];
  freed = live.freed;
}

-- ---- turn by turn, and stripe by stripe
turn_live : (N P : ℕ) (net : NetShape) (stage : ℕ) (placed : List Seat) (g : ℕ) → IsNet N net → 1 ≤ P → g < length net.groups → Live net stage g placed → Live net stage (suc g) (turn N P net stage placed g)
turn_live N P net stage placed g n hp l live = elim (turn_cases N P net stage placed g) [
  | inl (col, p) ↦ subst (Live net stage (suc g)) (sym p.is) (added_live N P net stage g placed (seats_from P net placed stage g (spots_of net g) col) live (placing N P net stage g placed col n hp l p.new p.ready p.fit))
  | inr e ↦ subst (Live net stage (suc g)) (sym e) (passed_over net stage g placed live)
]

turns_live : (N P : ℕ) (net : NetShape) (stage n from : ℕ) (placed : List Seat) → IsNet N net → 1 ≤ P → from + n ≤ length net.groups → Live net stage from placed → Live net stage (from + n) (fold (turn N P net stage) placed (range_with_len from n))
turns_live N P net stage zero from placed is hp l live = subst (λ (k : ℕ). Live net stage k placed) (omega arith) live
turns_live N P net stage (suc n) from placed is hp l live =
    let next : Live net stage (from + 1) (turn N P net stage placed from) = subst (λ (k : ℕ). Live net stage k (turn N P net stage placed from)) (omega arith) (turn_live N P net stage placed from is hp (omega (arith, l)) live) in
    subst (λ (k : ℕ). Live net stage k (fold (turn N P net stage) (turn N P net stage placed from) (range_with_len (from + 1) n))) (omega arith) (turns_live N P net stage n (from + 1) (turn N P net stage placed from) is hp (omega (arith, l)) next)

stripe_live : (N P : ℕ) (net : NetShape) (stage : ℕ) (placed : List Seat) → IsNet N net → 1 ≤ P → Live net stage 0 placed → Live net (suc stage) 0 (stripe N P net stage placed)
stripe_live N P net stage placed n hp live =
    let all = turns_live N P net stage (length net.groups) 0 placed n hp (omega arith) live in
    record {
      turns = λ t c. inl (elim (all.turns t c) [ inl a ↦ omega (arith, a) | inr (e, l) ↦ omega (arith, e) ]);
      freed = all.freed;
    }

placed_live : (N P : ℕ) (net : NetShape) (s : ℕ) → IsNet N net → 1 ≤ P → Live net s 0 (placed_after N P net s)
unfolding placed_after
placed_live N P net zero n hp = record { turns = λ t c. absurd (omega (arith, c.1)); freed = λ o w c. absurd (omega (arith, c.1)) }
placed_live N P net (suc s) n hp = stripe_live N P net s (placed_after N P net s) n hp (placed_live N P net s n hp)

-- ---- by the homes
pub keeps_live : (N P : ℕ) (net : NetShape) (pl : PlacementShape) → IsNet N net → 2 ≤ P → IsGreedy N P net pl → KeepsLive net pl
keeps_live N P net pl n hp greedy v j w i cv cw before ec some alive er =
    let placed = placed_after N P net pl.stages in
    let one : 1 ≤ P = omega (arith, hp) in
    let g : Setting N P net pl = record { net_is = n; registers = hp; greedy = greedy; sound = placed_sound N P net pl.stages n one } in
    let o = at N P net pl g v j cv in
    let k = at N P net pl g w i cw in
    let ov = stage_is N P net pl g v j cv o in
    let kw = stage_is N P net pl g w i cw k in
    let first : Precedes o.seat k.seat = elim before [ inl l ↦ inl (omega (arith, l, ov, kw)) | inr (e, l) ↦ inr (sym ov ∙ e ∙ kw, (let a = o.group in let b = k.group in omega (arith, l, a, b))) ] in
    let column : o.seat.col ≡ k.seat.col = sym (column_is N P net pl g v j cv o) ∙ ec ∙ column_is N P net pl g w i cw k in
    let own = register_is N P net pl g w i cw k in
    let register : o.seat.reg ≡ k.seat.reg = sym (register_is N P net pl g v j cv o) ∙ er ∙ own in
    let r = (placed_live N P net pl.stages n one).freed o.seat k.seat o.there k.there first column register (omega (arith, some, own)) in
    let out : is_output net v j ≡ false = subst (λ (y : ℕ). is_output net v y ≡ false) o.place (subst (λ (x : ℕ). is_output net x o.seat.place ≡ false) o.unit r.0) in
    elim alive [
      | inl shown ↦ false≢true (sym out ∙ shown)
      | inr (x, lx, reads, late) ↦
          (let own_group = n.grouped x lx in
          let by : group_reads net v j (group_of net x) ≡ true = any_here (unit_reads net v j) (units_of net (group_of net x)) x own_group.1 reads in
          let by_seat : group_reads net o.seat.unit o.seat.place (group_of net x) ≡ true = subst (λ (y : ℕ). group_reads net o.seat.unit y (group_of net x) ≡ true) (sym o.place) (subst (λ (y : ℕ). group_reads net y j (group_of net x) ≡ true) (sym o.unit) by) in
          let e = r.1 (group_of net x) own_group.0 by_seat in
          let cx = first_cell N net n x lx in
          let q = at N P net pl g x 0 cx in
          let st : stage_of pl x ≡ e.seat.stage = stage_is N P net pl g x 0 cx q ∙ g.sound.together q.seat e.seat q.there e.there (q.group ∙ sym e.group) in
          late (elim e.before [ inl l ↦ inl (omega (arith, l, st, kw)) | inr (a, b) ↦ inr (st ∙ a ∙ sym kw, (let c = e.group in let d = k.group in omega (arith, b, c, d))) ]))
    ]
