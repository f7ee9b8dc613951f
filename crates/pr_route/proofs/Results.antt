-- All stages over a whole list of samples: the taps show the bytes of the outputs.
use Rattle.std.proofs.Common.{◌≡◌, ℕ, zero, suc, ◌+◌, ◌-◌, ◌*◌, ◌<◌, ◌≤◌, ◌==◌, true, List, [], ◌∷◌, ◌++◌, length, get_or, map, refl, sym, ap, ap₂, ◌∙◌, subst, arith, inl}
use Rattle.std.specs.List.{Contains, flat_map, list_any, range_with_len}
use Rattle.std.proofs.lemmas.List.{length-map, get_or-map, same_lists}
use Rattle.std.proofs.lemmas.List.Folds.{flat_map-map}
use Rattle.std.proofs.lemmas.List.FromFn.{length-map-range_with_len, get_or-map-range_with_len}
use Rattle.std.proofs.lemmas.Bool.{and_from, eq-eqb}
use Rattle.pr_conf_pipeline.specs.Rows.{rows, state_after}
use Rattle.pr_conf_pipeline.proofs.RowLaws.{length-rows, row_step, row_first, state_step, state_first}
use Rattle.pr_net.specs.declared.cells.Wire.{Wire}
use Rattle.pr_net.specs.declared.cells.Slice.{Slice}
use Rattle.pr_net.specs.Shape.{NetShape, OutputShape as Slices}
use Rattle.pr_net.specs.Nets.{is_slice_of, is_output, IsNet, IsLawfulSlice, IsLawfulOutput}
use Rattle.pr_net.specs.Reading.{Reading, wire_byte, slice_byte}
use Rattle.pr_net.specs.Runs.{Runs}
use Rattle.pr_net.specs.Whole.{shown_bytes}
use Rattle.pr_net.proofs.Lists.{any_here, at_head, in_tail}
use Rattle.pr_place.specs.Placements.{PlacementShape, stage_of, column_of, register_of}
use Rattle.pr_place.specs.Sound.{IsCell, IsSound}
use Rattle.pr_conf.specs.declared.pes.Pe.{Pe}
use Rattle.pr_conf.specs.StageMap.{step_of, register_byte, row_map, state_map}
use Rattle.pr_conf.specs.Through.{steps_of, tap_byte, tapped, results_of}
use Rattle.pr_route.specs.Conf.{pes_at, tap_of, taps_of, conf_of}
use Rattle.pr_route.proofs.Homes.{length-pes_at}
use Rattle.pr_route.proofs.Columns.{Needed, Finds}
use Rattle.pr_route.proofs.Carried.{row_next, row_long, states_next, states_long, states_first}

-- a row before a stage, and the state of a stage
pub record RowIs (N P : ℕ) (net : NetShape) (pl : PlacementShape) (r : Reading) (s : ℕ) (row : List ℕ) : Type 0 where
  pub carried : (v j : ℕ) → IsCell net v j → stage_of pl v < s → Needed net pl s v j → register_byte N row (column_of pl v j) (register_of pl v j) ≡ wire_byte r (Wire.Of v j)
  pub sample : s ≡ 0 → row ≡ r.bus
  pub long : 0 < s → length row ≡ (P - 1) * N

pub record StateIs (N : ℕ) (net : NetShape) (pl : PlacementShape) (r : Reading) (s : ℕ) (st : List ℕ) : Type 0 where
  pub state : (v j : ℕ) → IsCell net v j → stage_of pl v ≡ s → get_or st (column_of pl v j) 0 ≡ wire_byte r (Wire.State v j)
  pub size : length st ≡ N

finds : (N P : ℕ) (net : NetShape) (pl : PlacementShape) (r : Reading) (s : ℕ) (row st : List ℕ) → RowIs N P net pl r s row → StateIs N net pl r s st → Finds N net pl r s row st
finds N P net pl r s row st a b = record { carried = a.carried; state = b.state; sample = a.sample }

-- the step of a stage
stage_is : (N : ℕ) (net : NetShape) (pl : PlacementShape) (s : ℕ) → s < pl.stages → get_or (conf_of N net pl).stages s [] ≡ pes_at N net pl s
stage_is N net pl s l = get_or-map-range_with_len (pes_at N net pl) 0 pl.stages s s [] l (omega arith)

out_is : (N P : ℕ) (net : NetShape) (pl : PlacementShape) (s : ℕ) (st row : List ℕ) → s < pl.stages → (steps_of N P (conf_of N net pl) s).out st row ≡ row_map N P (s == 0) (pes_at N net pl s) st row
unfolding step_of
out_is N P net pl s st row l = ap (λ (pes : List Pe). row_map N P (s == 0) pes st row) (stage_is N net pl s l)

next_is : (N P : ℕ) (net : NetShape) (pl : PlacementShape) (s : ℕ) (st row : List ℕ) → s < pl.stages → (steps_of N P (conf_of N net pl) s).next st row ≡ state_map N (pes_at N net pl s) st row
unfolding step_of
next_is N P net pl s st row l = ap (λ (pes : List Pe). state_map N pes st row) (stage_is N net pl s l)

init_is : (N P : ℕ) (net : NetShape) (pl : PlacementShape) (s : ℕ) → s < pl.stages → (steps_of N P (conf_of N net pl) s).init ≡ map (λ (p : Pe). p.init) (pes_at N net pl s)
unfolding step_of
init_is N P net pl s l = ap (map (λ (p : Pe). p.init)) (stage_is N net pl s l)

-- what holds of the placed net and the samples
pub record Setting (N P : ℕ) (net : NetShape) (pl : PlacementShape) (v : ℕ → Reading) (xs : List (List ℕ)) : Type 0 where
  pub registers : 1 ≤ P
  pub net_is : IsNet N net
  pub sound : IsSound N P net pl
  pub runs : Runs net.units v
  pub bus : (m : ℕ) → m < length xs → get_or xs m [] ≡ (v m).bus

-- the states of a stage, sample by sample, where its rows are right
states_hold : (N P : ℕ) (net : NetShape) (pl : PlacementShape) (v : ℕ → Reading) (xs : List (List ℕ)) → Setting N P net pl v xs → (s : ℕ) → s < pl.stages
    → ((m : ℕ) → m < length xs → RowIs N P net pl (v m) s (get_or (rows (steps_of N P (conf_of N net pl)) s xs) m []))
    → (m : ℕ) → m ≤ length xs → StateIs N net pl (v m) s (state_after (steps_of N P (conf_of N net pl)) s m xs)
states_hold N P net pl v xs g s l rs zero lm =
    let e = state_first (steps_of N P (conf_of N net pl)) s xs ∙ init_is N P net pl s l in
    subst (StateIs N net pl (v 0) s) (sym e) (record {
      state = λ u i c st. states_first N P net pl v s g.sound g.runs u i c st;
      size = length-map (pes_at N net pl s) (λ (p : Pe). p.init) ∙ length-pes_at N net pl s;
    })
states_hold N P net pl v xs g s l rs (suc m) lm =
    let M = steps_of N P (conf_of N net pl) in
    let row = get_or (rows M s xs) m [] in
    let st = state_after M s m xs in
    let below : m < length xs = omega (arith, lm) in
    let ih = states_hold N P net pl v xs g s l rs m (omega (arith, lm)) in
    let f = finds N P net pl (v m) s row st (rs m below) ih in
    let k : m + 1 ≡ suc m = omega arith in
    let e : state_after M s (suc m) xs ≡ state_map N (pes_at N net pl s) st row = ap (λ (i : ℕ). state_after M s i xs) (sym k) ∙ state_step M s m xs [] below ∙ next_is N P net pl s st row l in
    subst (StateIs N net pl (v (suc m)) s) (sym e) (record {
      state = λ u i c q. states_next N P net pl v m s row st g.net_is g.sound g.runs f ih.size u i c q;
      size = states_long N net pl s row st ih.size;
    })

-- the rows, stage by stage
pub rows_hold : (N P : ℕ) (net : NetShape) (pl : PlacementShape) (v : ℕ → Reading) (xs : List (List ℕ)) → Setting N P net pl v xs → (s : ℕ) → s ≤ pl.stages
    → (m : ℕ) → m < length xs → RowIs N P net pl (v m) s (get_or (rows (steps_of N P (conf_of N net pl)) s xs) m [])
rows_hold N P net pl v xs g zero l m lm = record {
  carried = λ u i c old need. absurd (omega (arith, old));
  sample = λ e. ap (λ (ys : List (List ℕ)). get_or ys m []) (row_first (steps_of N P (conf_of N net pl)) xs) ∙ g.bus m lm;
  long = λ e. absurd (omega (arith, e));
}
rows_hold N P net pl v xs g (suc s) l m lm =
    let M = steps_of N P (conf_of N net pl) in
    let row = get_or (rows M s xs) m [] in
    let st = state_after M s m xs in
    let below : s < pl.stages = omega (arith, l) in
    let before = rows_hold N P net pl v xs g s (omega (arith, l)) in
    let now = before m lm in
    let f = finds N P net pl (v m) s row st now (states_hold N P net pl v xs g s below before m (omega (arith, lm))) in
    let e : get_or (rows M (suc s) xs) m [] ≡ row_map N P (s == 0) (pes_at N net pl s) st row = row_step M s m xs [] lm ∙ out_is N P net pl s st row below in
    subst (RowIs N P net pl (v m) (suc s)) (sym e) (record {
      carried = λ u i c old need. row_next N P net pl (v m) s row st g.registers g.net_is g.sound (g.runs.has m) f now.long u i c old need;
      sample = λ z. absurd (omega (arith, z));
      long = λ z. row_long N P net pl s row st g.registers now.long;
    })

-- ---- the taps
pub slice_self : (u i : ℕ) → is_slice_of u i (Slice.Of u i) ≡ true
slice_self u i = and_from _ _ (eq-eqb u u refl) (eq-eqb i i refl)

tap_same : (N P : ℕ) (net : NetShape) (pl : PlacementShape) (r : Reading) (row : List ℕ) → IsSound N P net pl → RowIs N P net pl r pl.stages row → (o : Slices) → Contains net.outputs o → (x : Slice) → Contains o.slices x → IsLawfulSlice net x
    → tap_byte N row (tap_of pl x) ≡ slice_byte r x
tap_same N P net pl r row h is o co (Slice.Const k) cx ok = refl
tap_same N P net pl r row h is o co (Slice.Of u i) cx ok =
    let c : IsCell net u i = record { unit = ok.0; place = ok.1 } in
    let shown : is_output net u i ≡ true = any_here (λ (q : Slices). list_any (is_slice_of u i) q.slices) net.outputs o co (any_here (is_slice_of u i) o.slices (Slice.Of u i) cx (slice_self u i)) in
    is.carried u i c (h.stage u ok.0) (inl shown)
tap_same N P net pl r row h is o co (Slice.State u i) cx ok = absurd ok

slices_same : (N P : ℕ) (net : NetShape) (pl : PlacementShape) (r : Reading) (row : List ℕ) → IsSound N P net pl → RowIs N P net pl r pl.stages row → (o : Slices) → Contains net.outputs o → ((x : Slice) → Contains o.slices x → IsLawfulSlice net x)
    → (xs : List Slice) → ((x : Slice) → Contains xs x → Contains o.slices x) → map (tap_byte N row) (map (tap_of pl) xs) ≡ map (slice_byte r) xs
slices_same N P net pl r row h is o co ok [] inside = refl
slices_same N P net pl r row h is o co ok (x ∷ xs) inside =
    ap₂ (λ (b : ℕ) (bs : List ℕ). b ∷ bs) (tap_same N P net pl r row h is o co x (inside x (at_head x xs)) (ok x (inside x (at_head x xs)))) (slices_same N P net pl r row h is o co ok xs (λ y c. inside y (in_tail x y xs c)))

pub lawful_slices : (N : ℕ) (net : NetShape) → IsNet N net → (o : Slices) → Contains net.outputs o → (x : Slice) → Contains o.slices x → IsLawfulSlice net x
lawful_slices N net n o (i, l, q) x (k, lk, qk) =
    let out : IsLawfulOutput net o = subst (IsLawfulOutput net) q (n.outputs i o l) in
    subst (IsLawfulSlice net) qk (out.slices k x lk)

outputs_same : (N P : ℕ) (net : NetShape) (pl : PlacementShape) (r : Reading) (row : List ℕ) → IsNet N net → IsSound N P net pl → RowIs N P net pl r pl.stages row → (os : List Slices) → ((o : Slices) → Contains os o → Contains net.outputs o)
    → flat_map (λ (o : Slices). map (tap_byte N row) (taps_of pl o).taps) os ≡ shown_bytes os r
outputs_same N P net pl r row n h is [] inside = refl
outputs_same N P net pl r row n h is (o ∷ os) inside =
    let co = inside o (at_head o os) in
    ap₂ (λ (b bs : List ℕ). b ++ bs) (slices_same N P net pl r row h is o co (lawful_slices N net n o co) o.slices (λ x c. c)) (outputs_same N P net pl r row n h is os (λ y c. inside y (in_tail o y os c)))

tapped_same : (N P : ℕ) (net : NetShape) (pl : PlacementShape) (r : Reading) (row : List ℕ) → IsNet N net → IsSound N P net pl → RowIs N P net pl r pl.stages row → tapped N (conf_of N net pl) row ≡ shown_bytes net.outputs r
tapped_same N P net pl r row n h is = flat_map-map _ (taps_of pl) net.outputs ∙ outputs_same N P net pl r row n h is net.outputs (λ o c. c)

-- the results of a list of samples are the bytes of the outputs, sample by sample
pub results_same : (N P : ℕ) (net : NetShape) (pl : PlacementShape) (v : ℕ → Reading) (xs : List (List ℕ)) → Setting N P net pl v xs
    → results_of N P (conf_of N net pl) xs ≡ map (λ m. shown_bytes net.outputs (v m)) (range_with_len 0 (length xs))
results_same N P net pl v xs g =
    let c = conf_of N net pl in
    let M = steps_of N P c in
    let n : length c.stages ≡ pl.stages = length-map-range_with_len (pes_at N net pl) 0 pl.stages in
    let f = λ (m : ℕ). shown_bytes net.outputs (v m) in
    let long : length (rows M pl.stages xs) ≡ length xs = length-rows M pl.stages xs in
    let left : length (map (tapped N c) (rows M pl.stages xs)) ≡ length xs = length-map (rows M pl.stages xs) (tapped N c) ∙ long in
    ap (λ (k : ℕ). map (tapped N c) (rows M k xs)) n
    ∙ same_lists _ _ (left ∙ sym (length-map-range_with_len f 0 (length xs))) (λ m d l.
    let lm : m < length xs = subst (λ (k : ℕ). m < k) left l in
    get_or-map (tapped N c) (rows M pl.stages xs) m [] d (omega (arith, lm, long))
    ∙ tapped_same N P net pl (v m) (get_or (rows M pl.stages xs) m []) g.net_is g.sound (rows_hold N P net pl v xs g pl.stages (omega arith) m lm)
    ∙ sym (get_or-map-range_with_len f 0 (length xs) m m d lm (omega arith)))
