-- What is written unit by unit is the configuration.
use Rattle.std.proofs.Common.{◌≡◌, ℕ, zero, suc, ◌+◌, ◌-◌, ◌<◌, ◌≤◌, ◌==◌, Bool, true, false, List, [], ◌∷◌, ◌++◌, length, get_or, map, cond, replicate, None, Some, Option, if◌then◌else◌, refl, sym, ap, ◌∙◌, subst, arith, inl, inr}
use Rattle.std.specs.List.{All, find, range_with_len}
use Rattle.std.proofs.lemmas.Bool.{cases_Bool, cases_lt, eqb-true, eqb-false, eq-eqb, ne_eqb}
use Rattle.std.proofs.lemmas.List.{map-id, length-map, get_or_past, get_or-replicate, length-replicate}
use Rattle.std.proofs.lemmas.List.Elements.{All-from_get_or, Contains-get_or}
use Rattle.std.proofs.lemmas.List.FromFn.{map-range_with_len_more, get_or-map-range_with_len, length-map-range_with_len, fill_by_all}
use Rattle.pr_net.specs.declared.cells.Cell.{Cell}
use Rattle.pr_net.specs.declared.cells.Wire.{Wire}
use Rattle.pr_net.specs.declared.cells.WireBit.{WireBit}
use Rattle.pr_net.specs.declared.cells.Slice.{Slice}
use Rattle.pr_net.specs.Shape.{NetShape, OutputShape as Slices, cells_of}
use Rattle.pr_net.specs.Nets.{group_of, is_wire_of, is_bit_of, unit_reads, cell_reads, IsLawfulWire, IsLawfulBit, IsLawfulSlice, IsNet}
use Rattle.pr_net.proofs.Lists.{find_only, in_range, range_below}
use Rattle.pr_place.specs.Placements.{HomeShape, PlacementShape, home_of, stage_of, column_of, register_of}
use Rattle.pr_place.specs.Greedy.{IsGreedy, home_in, seat_of, placed_after}
use Rattle.pr_place.specs.Sound.{IsCell, Reads, IsSound}
use Rattle.pr_place.proofs.Soundness.{soundness}
use Rattle.pr_place.proofs.Stages.{few_stages}
use Rattle.pr_conf.specs.declared.pes.Source.{Source}
use Rattle.pr_conf.specs.declared.pes.Bit.{Bit}
use Rattle.pr_conf.specs.declared.pes.Pe.{Pe}
use Rattle.pr_conf.specs.declared.stages.Stage.{Stage}
use Rattle.pr_conf.specs.declared.outputs.Output.{Output}
use Rattle.pr_conf.specs.Configuration.{pes_of, parts_of}
use Rattle.pr_conf.specs.Shape.{output_shape}
use Rattle.pr_conf.specs.Rules.{IsLawful}
use Rattle.pr_route.specs.Conf.{source_of, bit_of, pe_of, idle_pe, idle_cell, stands_at, pe_by, pe_at, pes_at, taps_of, conf_of}
use Rattle.pr_route.specs.Written.{source_in, bit_in, pe_in, IsHoused, ReadsHoused, ChoosesHoused, ShowsHoused, IsWritable, element, covers, written}
use Rattle.pr_route.proofs.Homes.{stands_there}
use Rattle.pr_route.proofs.Columns.{unit_reads_by, wire_self, reads_a, reads_hi, reads_lo, reads_c}
use Rattle.pr_route.proofs.Results.{lawful_slices}
use Rattle.pr_route.proofs.Lawful.{conf_lawful}
use Rattle.pr_route.proofs.Elements.{length-pes_of}

-- a placed net, whose units have a register for each cell
pub record IsSeated (N P : ℕ) (net : NetShape) (pl : PlacementShape) : Type 0 where
  pub net_is : IsNet N net
  pub sound : IsSound N P net pl
  pub few : N < 65
  pub registers : (u : ℕ) → u < length net.units → length (home_of pl u).regs ≡ length (cells_of net u)

pub seated : (N P : ℕ) (net : NetShape) (pl : PlacementShape) → IsNet N net → 2 ≤ P → N ≤ 64 → IsGreedy N P net pl → IsSeated N P net pl
seated N P net pl n hp few g =
    let placed = placed_after N P net pl.stages in
    let none : HomeShape = record { stage = 0; col = 0; regs = [] } in
    record {
      net_is = n;
      sound = soundness N P net pl n hp g;
      few = omega arith;
      registers = λ u l.
          let home : home_of pl u ≡ home_in net placed u = ap (λ (hs : List HomeShape). get_or hs u none) g.homes ∙ get_or-map-range_with_len (home_in net placed) 0 (length net.units) u u none l (omega arith) in
          ap (λ (h : HomeShape). length h.regs) home ∙ length-map-range_with_len (λ i. (seat_of placed u i).reg) 0 (length (cells_of net u));
    }

-- ---- what is read has a home
housed : (N P : ℕ) (net : NetShape) (pl : PlacementShape) → IsSeated N P net pl → (v i : ℕ) → IsCell net v i → IsHoused pl v i
housed N P net pl h v i c =
    let homes = h.sound.homes in
    let col = h.sound.column v i c in
    let few = h.few in
    let regs = h.registers v c.unit in
    let unit = c.unit in
    let place = c.place in
    record { unit = omega (arith, homes, unit); column = omega (arith, col, few); register = omega (arith, regs, place) }

wire_housed : (N P : ℕ) (net : NetShape) (pl : PlacementShape) → IsSeated N P net pl → (u : ℕ) → u < length net.units → (w : Wire) → IsLawfulWire net u w → ReadsHoused pl w
wire_housed N P net pl h u l (Wire.Const k) ok = tt
wire_housed N P net pl h u l (Wire.Of v i) ok = housed N P net pl h v i (record { unit = omega (arith, ok.0, l); place = ok.1 })
wire_housed N P net pl h u l (Wire.State v i) ok = housed N P net pl h v i (record { unit = ok.0; place = ok.2 })
wire_housed N P net pl h u l (Wire.Bus i) ok = tt

bit_housed : (N P : ℕ) (net : NetShape) (pl : PlacementShape) → IsSeated N P net pl → (u : ℕ) → u < length net.units → (b : WireBit) → IsLawfulBit net u b → ChoosesHoused pl b
bit_housed N P net pl h u l WireBit.None ok = tt
bit_housed N P net pl h u l (WireBit.Of w place) ok = wire_housed N P net pl h u l w ok.0
bit_housed N P net pl h u l WireBit.CarryIn ok = tt

slice_housed : (N P : ℕ) (net : NetShape) (pl : PlacementShape) → IsSeated N P net pl → (x : Slice) → IsLawfulSlice net x → ShowsHoused pl x
slice_housed N P net pl h (Slice.Const k) ok = tt
slice_housed N P net pl h (Slice.Of u i) ok = housed N P net pl h u i (record { unit = ok.0; place = ok.1 })
slice_housed N P net pl h (Slice.State u i) ok = tt

pub outputs_housed : (N P : ℕ) (net : NetShape) (pl : PlacementShape) → IsSeated N P net pl → All (λ (o : Slices). All (ShowsHoused pl) o.slices) net.outputs
outputs_housed N P net pl h =
    let none : Slices = record { width = 0; slices = [] } in
    All-from_get_or (λ (o : Slices). All (ShowsHoused pl) o.slices) net.outputs none (λ i l.
    let o = get_or net.outputs i none in
    All-from_get_or (ShowsHoused pl) o.slices (Slice.Const 0) (λ k lk. slice_housed N P net pl h (get_or o.slices k (Slice.Const 0)) (lawful_slices N net h.net_is o (Contains-get_or net.outputs i none l) (get_or o.slices k (Slice.Const 0)) (Contains-get_or o.slices k (Slice.Const 0) lk))))

pub writable : (N P : ℕ) (net : NetShape) (pl : PlacementShape) → IsSeated N P net pl → (u : ℕ) → u < length net.units → IsWritable N pl.stages pl u (cells_of net u)
writable N P net pl h u l =
    let n = h.net_is in
    let homes = h.sound.homes in
    let some = n.filled u l in
    let count = length (cells_of net u) in
    let last : column_of pl u (count - 1) < N = h.sound.column u (count - 1) (record { unit = l; place = omega (arith, some) }) in
    let regs = h.registers u l in
    record {
      unit = omega (arith, homes, l);
      stage = h.sound.stage u l;
      room = omega (arith, last, some);
      few = h.few;
      registers = omega (arith, regs);
      cells = λ i li.
          let ok = n.cells u i idle_cell l li in
          let k = get_or (cells_of net u) i idle_cell in
          record { a = wire_housed N P net pl h u l k.a ok.a; hi = wire_housed N P net pl h u l k.hi ok.hi; lo = wire_housed N P net pl h u l k.lo ok.lo; c = bit_housed N P net pl h u l k.c ok.c };
    }

-- ---- one stage is one group, where something is read
source_same : (N P : ℕ) (net : NetShape) (pl : PlacementShape) → IsSeated N P net pl → (u : ℕ) → u < length net.units → (w : Wire) → IsLawfulWire net u w → ((v j : ℕ) → is_wire_of v j w ≡ true → unit_reads net v j u ≡ true)
    → source_in pl (stage_of pl u) w ≡ source_of net pl u w
source_same N P net pl h u l (Wire.Const k) ok reads = refl
source_same N P net pl h u l (Wire.Of v j) ok reads =
    let lv : v < length net.units = omega (arith, ok.0, l) in
    let cell : IsCell net v j = record { unit = lv; place = ok.1 } in
    let by = λ (t : Bool). if t then Source.Here (column_of pl v j) else Source.Prev (column_of pl v j) (register_of pl v j) in
    elim (cases_Bool (group_of net v == group_of net u)) [
      | inl t ↦ ap by (eq-eqb (stage_of pl v) (stage_of pl u) (h.sound.together v u lv l (eqb-true _ _ t))) ∙ sym (ap by t)
      | inr t ↦
          (let reader : Reads net v j u = record { reader = l; reads = reads v j (wire_self v j); other = λ q. eqb-false _ _ t (sym q) } in
          let before = h.sound.earlier v j u cell reader in
          ap by (ne_eqb (stage_of pl v) (stage_of pl u) (λ q. omega (arith, before, q))) ∙ sym (ap by t))
    ]
source_same N P net pl h u l (Wire.State v j) ok reads = refl
source_same N P net pl h u l (Wire.Bus i) ok reads = refl

bit_same : (N P : ℕ) (net : NetShape) (pl : PlacementShape) → IsSeated N P net pl → (u : ℕ) → u < length net.units → (b : WireBit) → IsLawfulBit net u b → ((v j : ℕ) → is_bit_of v j b ≡ true → unit_reads net v j u ≡ true)
    → bit_in pl (stage_of pl u) b ≡ bit_of net pl u b
bit_same N P net pl h u l WireBit.None ok reads = refl
bit_same N P net pl h u l (WireBit.Of w place) ok reads = ap (λ (s : Source). Bit.Of s place) (source_same N P net pl h u l w ok.0 reads)
bit_same N P net pl h u l WireBit.CarryIn ok reads = refl

cell_same : (N P : ℕ) (net : NetShape) (pl : PlacementShape) → IsSeated N P net pl → (u i reg : ℕ) → u < length net.units → i < length (cells_of net u)
    → pe_in pl (stage_of pl u) (get_or (cells_of net u) i idle_cell) reg ≡ pe_of net pl u (get_or (cells_of net u) i idle_cell) reg
cell_same N P net pl h u i reg l li =
    let k = get_or (cells_of net u) i idle_cell in
    let ok = h.net_is.cells u i idle_cell l li in
    let by = λ (v j : ℕ) (t : cell_reads v j k ≡ true). unit_reads_by net u i v j li t in
    let a = source_same N P net pl h u l k.a ok.a (λ v j t. by v j (reads_a v j k t)) in
    let hi = source_same N P net pl h u l k.hi ok.hi (λ v j t. by v j (reads_hi v j k t)) in
    let lo = source_same N P net pl h u l k.lo ok.lo (λ v j t. by v j (reads_lo v j k t)) in
    let c = bit_same N P net pl h u l k.c ok.c (λ v j t. by v j (reads_c v j k t)) in
    cc

-- ---- one unit more
range_more : (n : ℕ) → range_with_len 0 (n + 1) ≡ range_with_len 0 n ++ n ∷ []
range_more n = sym (map-id (range_with_len 0 (n + 1))) ∙ map-range_with_len_more (λ (k : ℕ). k) 0 n n (omega arith) ∙ ap (λ (xs : List ℕ). xs ++ n ∷ []) (map-id (range_with_len 0 n))

find_skip : (p : ℕ → Bool) (xs : List ℕ) (y : ℕ) → p y ≡ false → find p (xs ++ y ∷ []) ≡ find p xs
find_skip p [] y f = ap (λ (b : Bool). cond b (Some y) None) f
find_skip p (x ∷ xs) y f = ap (λ (o : Option ℕ). cond (p x) (Some x) o) (find_skip p xs y f)

-- the element of a column by the first so many units
unfoldable pub so_far : NetShape → PlacementShape → ℕ → ℕ → ℕ → Pe
so_far net pl count s c = pe_by net pl c (find (stands_at net pl s c) (range_with_len 0 count))

pub written_more : (N P : ℕ) (net : NetShape) (pl : PlacementShape) → IsSeated N P net pl → (u s c : ℕ) → u < length net.units
    → (if covers pl u (length (cells_of net u)) s c then written pl u (cells_of net u) c else so_far net pl u s c) ≡ so_far net pl (u + 1) s c
unfolding so_far
written_more N P net pl h u s c l =
    let stands = stands_at net pl s c in
    let by = λ (b : Bool). if b then written pl u (cells_of net u) c else so_far net pl u s c in
    elim (cases_Bool (stands u)) [
      | inl t ↦
          (let at = stands_there net pl s c u l t in
          let found : find stands (range_with_len 0 (u + 1)) ≡ Some u = find_only stands (range_with_len 0 (u + 1)) u (in_range (u + 1) u (omega arith)) t (λ w m q.
          let lw = range_below (u + 1) w m in
          let other = stands_there net pl s c w (omega (arith, lw, l)) q in
          (h.sound.alone w (c - (home_of pl w).col) u (c - (home_of pl u).col) other.cell at.cell (other.stage ∙ sym at.stage) (other.column ∙ sym at.column)).0) in
          ap by t ∙ cell_same N P net pl h u (c - (home_of pl u).col) (register_of pl u (c - (home_of pl u).col)) l at.cell.place ∙ sym (ap (pe_by net pl c) found))
      | inr f ↦ ap by f ∙ sym (ap (λ (xs : List ℕ). pe_by net pl c (find stands xs)) (range_more u) ∙ ap (pe_by net pl c) (find_skip stands (range_with_len 0 u) u f))
    ]

-- ---- the beginning and the end
pub none_written : (N count s c : ℕ) (net : NetShape) (pl : PlacementShape) → element (replicate count (replicate N idle_pe)) s c ≡ so_far net pl 0 s c
unfolding so_far
none_written N count s c net pl = elim (cases_lt s count) [
  | inl l ↦ ap (λ (xs : List Pe). get_or xs c idle_pe) (get_or-replicate count s (replicate N idle_pe) [] l) ∙ idle_row N c
  | inr l ↦ ap (λ (xs : List Pe). get_or xs c idle_pe) (get_or_past (replicate count (replicate N idle_pe)) s [] (let n = length-replicate count (replicate N idle_pe) in omega (arith, n, l)))
]
  where
    idle_row : (N c : ℕ) → get_or (replicate N idle_pe) c idle_pe ≡ idle_pe
    idle_row N c = elim (cases_lt c N) [
      | inl l ↦ get_or-replicate N c idle_pe idle_pe l
      | inr l ↦ get_or_past (replicate N idle_pe) c idle_pe (let n = length-replicate N idle_pe in omega (arith, n, l))
    ]

pub all_written : (N : ℕ) (net : NetShape) (pl : PlacementShape) (grid : List (List Pe)) → length grid ≡ pl.stages → ((s : ℕ) → s < pl.stages → length (get_or grid s []) ≡ N)
    → ((s c : ℕ) → element grid s c ≡ so_far net pl (length net.units) s c) → grid ≡ map (pes_at N net pl) (range_with_len 0 pl.stages)
unfolding so_far pes_at
all_written N net pl grid long wide same = fill_by_all (pes_at N net pl) grid pl.stages [] long (λ s l. fill_by_all (pe_at net pl s) (get_or grid s []) N idle_pe (wide s l) (λ c lc. same s c))

-- the same, at what the code has in its hands
pub writable_here : (N P : ℕ) (net : NetShape) (pl : PlacementShape) → IsSeated N P net pl → (u n : ℕ) (ks : List Cell) → u < length net.units → n ≡ pl.stages → ks ≡ cells_of net u → IsWritable N n pl u ks
writable_here N P net pl h u n ks l en ek = subst (λ (m : ℕ). IsWritable N m pl u ks) (sym en) (subst (λ (xs : List Cell). IsWritable N pl.stages pl u xs) (sym ek) (writable N P net pl h u l))

pub written_here : (N P : ℕ) (net : NetShape) (pl : PlacementShape) → IsSeated N P net pl → (u s c : ℕ) (ks : List Cell) (before now : Pe) → u < length net.units → ks ≡ cells_of net u → before ≡ so_far net pl u s c
    → now ≡ (if covers pl u (length ks) s c then written pl u ks c else before) → now ≡ so_far net pl (u + 1) s c
written_here N P net pl h u s c ks before now l ek eb e =
    e
    ∙ ap (λ (xs : List Cell). if covers pl u (length xs) s c then written pl u xs c else before) ek
    ∙ ap (λ (pe : Pe). if covers pl u (length (cells_of net u)) s c then written pl u (cells_of net u) c else pe) eb
    ∙ written_more N P net pl h u s c l

pub idle_here : {N : ℕ} (stages : List (Stage N)) (count : ℕ) → map pes_of stages ≡ replicate count (replicate N idle_pe) → length stages ≡ count
idle_here {N} stages count e = sym (length-map stages (pes_of {N = N})) ∙ ap length e ∙ length-replicate count (replicate N idle_pe)

pub stages_here : {N : ℕ} (net : NetShape) (pl : PlacementShape) (stages : List (Stage N)) → length stages ≡ pl.stages → ((s c : ℕ) → element (map pes_of stages) s c ≡ so_far net pl (length net.units) s c)
    → map pes_of stages ≡ map (pes_at N net pl) (range_with_len 0 pl.stages)
stages_here {N} net pl stages long same = all_written N net pl (map (pes_of {N = N}) stages) (length-map stages (pes_of {N = N}) ∙ long) (λ s l.
    let at : s < length stages = subst (λ (n : ℕ). s < n) (sym long) l in
    wide stages s at) same
  where
    wide : {N : ℕ} (stages : List (Stage N)) (s : ℕ) → s < length stages → length (get_or (map (pes_of {N = N}) stages) s []) ≡ N
    wide {N} [] s l = absurd (omega (arith, l))
    wide {N} (x ∷ xs) zero l = length-pes_of x
    wide {N} (x ∷ xs) (suc s) l = wide xs s (omega (arith, l))

-- ---- the parts together
pub parts_here : {N : ℕ} (net : NetShape) (pl : PlacementShape) (inputs : List ℕ) (outputs : List Output) (stages : List (Stage N)) → inputs ≡ net.inputs → map output_shape outputs ≡ map (taps_of pl) net.outputs
    → map pes_of stages ≡ map (pes_at N net pl) (range_with_len 0 pl.stages) → parts_of inputs outputs stages ≡ conf_of N net pl
parts_here {N} net pl inputs outputs stages i o s = cc

pub lawful_here : (N P : ℕ) (net : NetShape) (pl : PlacementShape) → 1 ≤ N → N ≤ 64 → 2 ≤ P → P ≤ 16 → IsNet N net → IsGreedy N P net pl → IsLawful N P (conf_of N net pl)
lawful_here N P net pl n1 n2 p1 p2 n g = conf_lawful N P net pl n1 n2 p1 p2 n (soundness N P net pl n p1 g) (let s = few_stages N P net pl g in let f = n.few_groups in omega (arith, s, f))

pub counted_here : {N : ℕ} (stages : List (Stage N)) → length (map pes_of stages) ≡ length stages
counted_here {N} stages = length-map stages (pes_of {N = N})
