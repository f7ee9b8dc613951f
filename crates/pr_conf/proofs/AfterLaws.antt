-- A configuration after some samples works on as the first one does.
use Rattle.std.proofs.Common.{◌≡◌, ℕ, zero, suc, ◌+◌, ◌-◌, ◌<◌, Bool, ◌&&◌, ◌==◌, eqb, List, [], ◌∷◌, ◌++◌, length, get_or, map, take, refl, sym, ap, ap₂, ◌∙◌, subst, arith, if◌then◌else◌, length-append}
use Rattle.std.proofs.Math.ListN.{set}
use Rattle.std.proofs.lemmas.List.{length-map, get_or-map, map-set}
use Rattle.std.specs.List.{flat_map}
use Rattle.pr_base.specs.Pe.{PeResult, next_state}
use Rattle.pr_conf_pipeline.specs.Rows.{state_over, rows, state_after, resumed}
use Rattle.pr_conf_pipeline.proofs.RowLaws.{state_first}
use Rattle.pr_conf_pipeline.proofs.ResumeLaws.{rows_alike, state_alike, through-append, state_after-append}
use Rattle.pr_conf.specs.declared.pes.Pe.{Pe}
use Rattle.pr_conf.specs.declared.stages.Site.{Site}
use Rattle.pr_conf.specs.declared.stages.Stage.{Stage}
use Rattle.pr_conf.specs.Configuration.{pes_of}
use Rattle.pr_conf.specs.Shape.{Shape}
use Rattle.pr_conf.specs.Rules.{is_lawful_pe, are_lawful_pes, are_lawful_stages, site_of, IsLawful, bytes_in}
use Rattle.pr_conf.specs.StageMap.{Sight, source_byte, made_from, pe_made, states_from, passed, passed_bytes, registers_to, state_map, row_map, step_of, whole_sight}
use Rattle.pr_conf.specs.Through.{steps_of, tap_byte, tapped, results_of}
use Rattle.pr_conf.specs.After.{begun, all_begun, with_states, state_rows, conf_after}
use Rattle.pr_conf.proofs.ColumnLaws.{length-made_from}
use Rattle.pr_conf.proofs.PassedLaws.{length-states_from}

-- ---- one stage
pub length-begun : (pes : List Pe) (st : List ℕ) → length (begun pes st) ≡ length pes
length-begun [] st = refl
length-begun (pe ∷ pes) [] = refl
length-begun (pe ∷ pes) (b ∷ st) = ap suc (length-begun pes st)

pub begun_init : (pes : List Pe) (st : List ℕ) → length st ≡ length pes → map (λ pe. pe.init) (begun pes st) ≡ st
begun_init [] [] h = refl
begun_init [] (b ∷ st) h = absurd (omega arith)
begun_init (pe ∷ pes) [] h = absurd (omega arith)
begun_init (pe ∷ pes) (b ∷ st) h = ap (λ bs. b ∷ bs) (begun_init pes st (omega arith))

-- a stage that begins with what it begins with is the same
pub begun_same : (pes : List Pe) → begun pes (map (λ pe. pe.init) pes) ≡ pes
begun_same [] = refl
begun_same (pe ∷ pes) = ap (λ ps. pe ∷ ps) (begun_same pes)

-- the last of two state rows counts
pub begun_twice : (pes : List Pe) (old st : List ℕ) → length old ≡ length pes → length st ≡ length pes → begun (begun pes old) st ≡ begun pes st
begun_twice [] old st h k = refl
begun_twice (pe ∷ pes) [] st h k = absurd (omega arith)
begun_twice (pe ∷ pes) (b ∷ old) [] h k = absurd (omega arith)
begun_twice (pe ∷ pes) (b ∷ old) (d ∷ st) h k = ap (λ ps. record pe { init = d } ∷ ps) (begun_twice pes old st (omega arith) (omega arith))

pub begun_lawful : (site : Site) (pes : List Pe) (st : List ℕ) → are_lawful_pes site (begun pes st) ≡ are_lawful_pes site pes
begun_lawful site [] st = refl
begun_lawful site (pe ∷ pes) [] = refl
begun_lawful site (pe ∷ pes) (b ∷ st) = ap (λ rest. is_lawful_pe site pe && rest) (begun_lawful (record site { col = site.col + 1 }) pes st)

made_from-begun : (N : ℕ) (row state : List ℕ) (columns : List PeResult) (pes : List Pe) (st : List ℕ) → made_from N row state columns (begun pes st) ≡ made_from N row state columns pes
made_from-begun N row state columns [] st = refl
made_from-begun N row state columns (pe ∷ pes) [] = refl
made_from-begun N row state columns (pe ∷ pes) (b ∷ st) = made_from-begun N row state (columns ++ pe_made N (record { row = row; state = state; columns = columns }) pe ∷ []) pes st

states_from-begun : (N : ℕ) (sight : Sight) (pes : List Pe) (st : List ℕ) (columns : List PeResult) (state : List ℕ) → states_from N sight (begun pes st) columns state ≡ states_from N sight pes columns state
states_from-begun N sight [] st columns state = refl
states_from-begun N sight (pe ∷ pes) [] columns state = refl
states_from-begun N sight (pe ∷ pes) (b ∷ st) [] state = refl
states_from-begun N sight (pe ∷ pes) (b ∷ st) (m ∷ columns) [] = refl
states_from-begun N sight (pe ∷ pes) (b ∷ st) (m ∷ columns) (old ∷ state) = ap (λ rest. next_state pe.next old m.output (source_byte N sight pe.a) ∷ rest) (states_from-begun N sight pes st columns state)

passed-begun : (reg : ℕ) (pes : List Pe) (st : List ℕ) (columns : List PeResult) (before : List ℕ) → passed reg (begun pes st) columns before ≡ passed reg pes columns before
passed-begun reg [] st columns before = refl
passed-begun reg (pe ∷ pes) [] columns before = refl
passed-begun reg (pe ∷ pes) (b ∷ st) [] before = refl
passed-begun reg (pe ∷ pes) (b ∷ st) (m ∷ columns) [] = refl
passed-begun reg (pe ∷ pes) (b ∷ st) (m ∷ columns) (old ∷ before) = ap (λ rest. (if pe.write == reg then m.output else old) ∷ rest) (passed-begun reg pes st columns before)

registers_to-begun : (count N : ℕ) (first : Bool) (pes : List Pe) (st : List ℕ) (columns : List PeResult) (row : List ℕ) → registers_to count N first (begun pes st) columns row ≡ registers_to count N first pes columns row
registers_to-begun zero N first pes st columns row = refl
registers_to-begun (suc count) N first pes st columns row =
    ap₂ (λ a b. a ++ b) (registers_to-begun count N first pes st columns row) (passed-begun (suc count) pes st columns (passed_bytes N first row (suc count)))

state_map-begun : (N : ℕ) (pes : List Pe) (st state row : List ℕ) → state_map N (begun pes st) state row ≡ state_map N pes state row
state_map-begun N pes st state row =
    ap (λ columns. states_from N (record { row = row; state = state; columns = columns }) (begun pes st) columns state) (made_from-begun N row state [] pes st)
    ∙ states_from-begun N (whole_sight N pes state row) pes st (made_from N row state [] pes) state

row_map-begun : (N P : ℕ) (first : Bool) (pes : List Pe) (st state row : List ℕ) → row_map N P first (begun pes st) state row ≡ row_map N P first pes state row
row_map-begun N P first pes st state row =
    ap (λ columns. registers_to (P - 1) N first (begun pes st) columns row) (made_from-begun N row state [] pes st)
    ∙ registers_to-begun (P - 1) N first pes st (made_from N row state [] pes) row

-- it works as before, from another state on
pub step_of-begun : (N P : ℕ) (first : Bool) (pes : List Pe) (st : List ℕ) → length st ≡ length pes → step_of N P first (begun pes st) ≡ record (step_of N P first pes) { init = st }
unfolding step_of
step_of-begun N P first pes st h = λ i. record {
  init = begun_init pes st h i;
  next = λ state row. state_map-begun N pes st state row i;
  out = λ state row. row_map-begun N P first pes st state row i;
}

-- ---- all stages
pub length-all_begun : (states : ℕ → List ℕ) (k : ℕ) (stages : List (List Pe)) → length (all_begun states k stages) ≡ length stages
length-all_begun states k [] = refl
length-all_begun states k (pes ∷ stages) = ap suc (length-all_begun states (k + 1) stages)

pub all_begun_at : (states : ℕ → List ℕ) (k s : ℕ) (stages : List (List Pe)) → s < length stages → get_or (all_begun states k stages) s [] ≡ begun (get_or stages s []) (states (k + s))
all_begun_at states k s [] h = absurd (omega arith)
all_begun_at states k zero (pes ∷ stages) h = let e : k ≡ k + 0 = omega arith in ap (λ n. begun pes (states n)) e
all_begun_at states k (suc s) (pes ∷ stages) h =
    let e : k + 1 + s ≡ k + suc s = omega arith in
    all_begun_at states (k + 1) s stages (omega arith) ∙ ap (λ n. begun (get_or stages s []) (states n)) e

pub all_begun_lawful : (N P bus k : ℕ) (states : ℕ → List ℕ) (from : ℕ) (stages : List (List Pe)) → are_lawful_stages N P bus k (all_begun states from stages) ≡ are_lawful_stages N P bus k stages
all_begun_lawful N P bus k states from [] = refl
all_begun_lawful N P bus k states from (pes ∷ stages) =
    ap₂ (λ a b. a && b) (ap₂ (λ n b. eqb n N && b) (length-begun pes (states from)) (begun_lawful (site_of N P bus k) pes (states from))) (all_begun_lawful N P bus (k + 1) states (from + 1) stages)

-- stages that are told to begin with what they begin with
all_begun_same : (states : ℕ → List ℕ) (k : ℕ) (stages : List (List Pe)) → ((s : ℕ) → s < length stages → states (k + s) ≡ map (λ pe. pe.init) (get_or stages s [])) → all_begun states k stages ≡ stages
all_begun_same states k [] h = refl
all_begun_same states k (pes ∷ stages) h =
    let z : k ≡ k + 0 = omega arith in
    ap₂ (λ a b. a ∷ b) (ap (begun pes) (ap states z ∙ h 0 (omega arith)) ∙ begun_same pes)
    (all_begun_same states (k + 1) stages (λ s l. let e : k + 1 + s ≡ k + suc s = omega arith in ap states e ∙ h (suc s) (omega arith)))

-- of two lists of state rows the last counts
all_begun_twice : (old new : ℕ → List ℕ) (k : ℕ) (stages : List (List Pe)) → ((s : ℕ) → s < length stages → (length (old (k + s)) ≡ length (get_or stages s [])) × (length (new (k + s)) ≡ length (get_or stages s [])))
    → all_begun new k (all_begun old k stages) ≡ all_begun new k stages
all_begun_twice old new k [] h = refl
all_begun_twice old new k (pes ∷ stages) h =
    let z : k + 0 ≡ k = omega arith in
    let first : (length (old k) ≡ length pes) × (length (new k) ≡ length pes) = subst (λ n. (length (old n) ≡ length pes) × (length (new n) ≡ length pes)) z (h 0 (omega arith)) in
    ap₂ (λ a b. a ∷ b) (begun_twice pes (old k) (new k) first.0 first.1)
    (all_begun_twice old new (k + 1) stages (λ s l. let e : k + suc s ≡ k + 1 + s = omega arith in subst (λ n. (length (old n) ≡ length (get_or stages s [])) × (length (new n) ≡ length (get_or stages s []))) e (h (suc s) (omega arith))))

pub all_begun_alike : (old new : ℕ → List ℕ) (k : ℕ) (stages : List (List Pe)) → ((s : ℕ) → s < length stages → old (k + s) ≡ new (k + s)) → all_begun old k stages ≡ all_begun new k stages
all_begun_alike old new k [] h = refl
all_begun_alike old new k (pes ∷ stages) h =
    let z : k + 0 ≡ k = omega arith in
    ap₂ (λ a b. a ∷ b) (ap (begun pes) (subst (λ n. old n ≡ new n) z (h 0 (omega arith))))
    (all_begun_alike old new (k + 1) stages (λ s l. let e : k + suc s ≡ k + 1 + s = omega arith in subst (λ n. old n ≡ new n) e (h (suc s) (omega arith))))

-- ---- after a list of samples
length-state_over : (N P : ℕ) (first : Bool) (pes : List Pe) (st : List ℕ) (xs : List (List ℕ)) → length st ≡ length pes → length (state_over (step_of N P first pes) st xs) ≡ length pes
unfolding step_of
length-state_over N P first pes st [] h = h
length-state_over N P first pes st (x ∷ xs) h =
    length-state_over N P first pes (state_map N pes st x) xs
    (length-states_from N (whole_sight N pes st x) pes (made_from N x st [] pes) st (length-made_from N x st [] pes ∙ omega arith) h)

init_long : (N P : ℕ) (c : Shape) (s : ℕ) → length (steps_of N P c s).init ≡ length (get_or c.stages s [])
unfolding step_of
init_long N P c s = length-map (get_or c.stages s []) (λ (pe : Pe). pe.init)

pub length-state_rows : (N P : ℕ) (c : Shape) (xs : List (List ℕ)) (s : ℕ) → length (state_rows N P c xs s) ≡ length (get_or c.stages s [])
unfolding state_after
length-state_rows N P c xs s = length-state_over N P (eqb s 0) (get_or c.stages s []) (steps_of N P c s).init (take (length xs) (rows (steps_of N P c) s xs)) (init_long N P c s)

pub steps_after : (N P : ℕ) (c : Shape) (xs : List (List ℕ)) (s : ℕ) → s < length c.stages → steps_of N P (conf_after N P c xs) s ≡ resumed (steps_of N P c) xs s
unfolding conf_after
steps_after N P c xs s h =
    let z : 0 + s ≡ s = omega arith in
    ap (step_of N P (eqb s 0)) (all_begun_at (state_rows N P c xs) 0 s c.stages h ∙ ap (λ n. begun (get_or c.stages s []) (state_rows N P c xs n)) z)
    ∙ step_of-begun N P (eqb s 0) (get_or c.stages s []) (state_rows N P c xs s) (length-state_rows N P c xs s)

pub stages_after : (N P : ℕ) (c : Shape) (xs : List (List ℕ)) → length (conf_after N P c xs).stages ≡ length c.stages
unfolding conf_after
stages_after N P c xs = length-all_begun (state_rows N P c xs) 0 c.stages

pub outputs_after : (N P : ℕ) (c : Shape) (xs : List (List ℕ)) → (conf_after N P c xs).outputs ≡ c.outputs
unfolding conf_after
outputs_after N P c xs = refl

pub inputs_after : (N P : ℕ) (c : Shape) (xs : List (List ℕ)) → (conf_after N P c xs).inputs ≡ c.inputs
unfolding conf_after
inputs_after N P c xs = refl

pub lawful_after : (N P : ℕ) (c : Shape) (xs : List (List ℕ)) → IsLawful N P c → IsLawful N P (conf_after N P c xs)
unfolding conf_after
lawful_after N P c xs l = record {
  columns = l.columns;
  most_columns = l.most_columns;
  registers = l.registers;
  most_registers = l.most_registers;
  some = let e = length-all_begun (state_rows N P c xs) 0 c.stages in omega (arith, l.some);
  few = let e = length-all_begun (state_rows N P c xs) 0 c.stages in omega (arith, l.few);
  inputs = l.inputs;
  outputs = l.outputs;
  stages = all_begun_lawful N P (bytes_in c.inputs) 0 (state_rows N P c xs) 0 c.stages ∙ l.stages;
}

pub results_after : (N P : ℕ) (c : Shape) (xs ys : List (List ℕ)) → results_of N P c (xs ++ ys) ≡ results_of N P c xs ++ results_of N P (conf_after N P c xs) ys
results_after N P c xs ys =
    through-append (steps_of N P c) (length c.stages) (tapped N c) xs ys
    ∙ ap (λ zs. results_of N P c xs ++ map (tapped N c) zs) (sym (rows_alike (steps_of N P (conf_after N P c xs)) (resumed (steps_of N P c) xs) (length c.stages) ys (steps_after N P c xs)))
    ∙ ap (λ v. results_of N P c xs ++ map (tapped N c) (rows (steps_of N P (conf_after N P c xs)) v ys)) (sym (stages_after N P c xs))
    ∙ ap (λ os. results_of N P c xs ++ map (λ row. flat_map (λ o. map (tap_byte N row) o.taps) os) (rows (steps_of N P (conf_after N P c xs)) (length (conf_after N P c xs).stages) ys)) (sym (outputs_after N P c xs))

pub none_after : (N P : ℕ) (c : Shape) → conf_after N P c [] ≡ c
unfolding conf_after step_of
none_after N P c = ap (λ ss. record c { stages = ss }) (all_begun_same (state_rows N P c []) 0 c.stages (λ s h. let z : 0 + s ≡ s = omega arith in ap (state_rows N P c []) z ∙ state_first (steps_of N P c) s []))

pub state_rows_after : (N P : ℕ) (c : Shape) (xs ys : List (List ℕ)) (s : ℕ) → s < length c.stages → state_rows N P (conf_after N P c xs) ys s ≡ state_rows N P c (xs ++ ys) s
state_rows_after N P c xs ys s h =
    state_alike (steps_of N P (conf_after N P c xs)) (resumed (steps_of N P c) xs) s (length ys) ys (λ r k. steps_after N P c xs r (omega arith))
    ∙ sym (state_after-append (steps_of N P c) s (length ys) xs ys)
    ∙ ap (λ n. state_after (steps_of N P c) s n (xs ++ ys)) (sym (length-append xs ys))

further_stages : (N P : ℕ) (c : Shape) (xs ys : List (List ℕ)) → all_begun (state_rows N P (conf_after N P c xs) ys) 0 (all_begun (state_rows N P c xs) 0 c.stages) ≡ all_begun (state_rows N P c (xs ++ ys)) 0 c.stages
further_stages N P c xs ys =
    let same : (s : ℕ) → s < length c.stages → state_rows N P (conf_after N P c xs) ys (0 + s) ≡ state_rows N P c (xs ++ ys) (0 + s) = λ s h. state_rows_after N P c xs ys (0 + s) (omega arith) in
    let z : (s : ℕ) → 0 + s ≡ s = λ s. omega arith in
    let first : (s : ℕ) → length (state_rows N P c xs (0 + s)) ≡ length (get_or c.stages s []) = λ s. ap (λ n. length (state_rows N P c xs n)) (z s) ∙ length-state_rows N P c xs s in
    let last : (s : ℕ) → s < length c.stages → length (state_rows N P (conf_after N P c xs) ys (0 + s)) ≡ length (get_or c.stages s []) = λ s h. ap length (same s h) ∙ ap (λ n. length (state_rows N P c (xs ++ ys) n)) (z s) ∙ length-state_rows N P c (xs ++ ys) s in
    all_begun_twice (state_rows N P c xs) (state_rows N P (conf_after N P c xs) ys) 0 c.stages (λ s h. (first s, last s h))
    ∙ all_begun_alike (state_rows N P (conf_after N P c xs) ys) (state_rows N P c (xs ++ ys)) 0 c.stages same

pub further_after : (N P : ℕ) (c : Shape) (xs ys : List (List ℕ)) → conf_after N P (conf_after N P c xs) ys ≡ conf_after N P c (xs ++ ys)
unfolding conf_after
further_after N P c xs ys = ap (λ ss. record c { stages = ss }) (further_stages N P c xs ys)

-- ---- one more byte, and one stage
pub begun_none : (pes : List Pe) → begun pes [] ≡ pes
begun_none [] = refl
begun_none (pe ∷ pes) = refl

pub begun_more : (pes : List Pe) (st : List ℕ) (i : ℕ) (d : Pe) → i < length pes → i < length st → set (begun pes (take i st)) i (record (get_or (begun pes (take i st)) i d) { init = get_or st i 0 }) ≡ begun pes (take (i + 1) st)
begun_more [] st i d h l = absurd (omega arith)
begun_more (pe ∷ pes) [] i d h l = absurd (omega arith)
begun_more (pe ∷ pes) (b ∷ st) zero d h l = ap (λ ps. record pe { init = b } ∷ ps) (sym (begun_none pes))
begun_more (pe ∷ pes) (b ∷ st) (suc i) d h l =
    let e : suc (i + 1) ≡ suc i + 1 = omega arith in
    ap (λ ps. record pe { init = b } ∷ ps) (begun_more pes st i d (omega arith) (omega arith)) ∙ ap (λ n. begun (pe ∷ pes) (take n (b ∷ st))) e

pub begun_turn : (pes now : List Pe) (st : List ℕ) (i : ℕ) (d : Pe) → now ≡ begun pes (take i st) → i < length st → length st ≡ length pes → set now i (record (get_or now i d) { init = get_or st i 0 }) ≡ begun pes (take (i + 1) st)
begun_turn pes now st i d e h l =
    ap (λ (ps : List Pe). set ps i (record (get_or ps i d) { init = get_or st i 0 })) e ∙ begun_more pes st i d (omega arith) h

-- a stage changed at its place is changed in the shape, which stays lawful
pub set_lawful : (N P bus k i : ℕ) (stages : List (List Pe)) (st : List ℕ) → are_lawful_stages N P bus k (set stages i (begun (get_or stages i []) st)) ≡ are_lawful_stages N P bus k stages
set_lawful N P bus k i [] st = refl
set_lawful N P bus k zero (pes ∷ stages) st = ap₂ (λ n b. (eqb n N && b) && are_lawful_stages N P bus (k + 1) stages) (length-begun pes st) (begun_lawful (site_of N P bus k) pes st)
set_lawful N P bus k (suc i) (pes ∷ stages) st = ap (λ b. (eqb (length pes) N && are_lawful_pes (site_of N P bus k) pes) && b) (set_lawful N P bus (k + 1) i stages st)

-- a configuration whose stages begin with the states after these samples
pub with_states_after : (N P : ℕ) (c now : Shape) (states : ℕ → List ℕ) (xs : List (List ℕ)) → now ≡ c → ((s : ℕ) → s < length c.stages → states s ≡ state_rows N P c xs s) → with_states now states ≡ conf_after N P c xs
unfolding conf_after
with_states_after N P c now states xs e h =
    ap (λ (k : Shape). with_states k states) e
    ∙ ap (λ ss. record c { stages = ss }) (all_begun_alike states (state_rows N P c xs) 0 c.stages (λ s k. let z : 0 + s ≡ s = omega arith in subst (λ n. states n ≡ state_rows N P c xs n) (sym z) (h s k)))

-- the shape of stages of which one was made to begin in another state
pub stages_begun : {N : ℕ} (stages : List (Stage N)) (i : ℕ) (old new : Stage N) (st : List ℕ) → i < length stages → old ≡ get_or stages i old → new.pes.items ≡ begun old.pes.items st
    → map (pes_of {N = N}) (set stages i new) ≡ set (map (pes_of {N = N}) stages) i (begun (get_or (map (pes_of {N = N}) stages) i []) st)
stages_begun {N = N} stages i old new st h e n =
    map-set (pes_of {N = N}) stages i new
    ∙ ap (set (map (pes_of {N = N}) stages) i) (n ∙ ap (λ ps. begun ps st) (ap (pes_of {N = N}) e ∙ sym (get_or-map (pes_of {N = N}) stages i old [] h)))
