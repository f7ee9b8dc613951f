-- The net of lawful equations on lawful samples: every equation with units shows its number at every sample.
use Rattle.std.proofs.Common.{ℕ, zero, suc, ◌≡◌, ◌+◌, ◌/◌, ◌^◌, ◌<◌, ◌≤◌, ◌||◌, Bool, true, false, cond, nat_le, Option, Some, None, unwrap_or, List, [], ◌∷◌, ◌++◌, length, map, take, get_or, subst, refl, ap, sym, ◌∙◌, arith}
use Rattle.std.specs.List.{slice_get}
use Rattle.std.specs.Prelude.{count_by}
use Rattle.std.proofs.lemmas.Bool.{and_parts, leb-true}
use Rattle.std.proofs.lemmas.Nat.{pow_pos}
use Rattle.pr_base.specs.Numbers.{bytes_of, slices_of}
use Rattle.pr_base.specs.Rows.{IsRow, row_bytes}
use Rattle.pr_flat.specs.declared.equations.Operand.{Operand}
use Rattle.pr_flat.specs.declared.equations.Op.{Op}
use Rattle.pr_flat.specs.Shape.{EquationShape}
use Rattle.pr_flat.specs.Facts.{IsFlat, is_input, has_lawful_width}
use Rattle.pr_flat.specs.Widths.{AreWidths}
use Rattle.pr_flat.specs.Values.{input_widths, number_in}
use Rattle.pr_net.specs.declared.cells.Slice.{Slice}
use Rattle.pr_net.specs.Reading.{Reading, Has, shown}
use Rattle.pr_net.specs.Runs.{AreBytes, reading_at}
use Rattle.pr_net.proofs.Readings.{has-append}
use Rattle.pr_net.proofs.RunsLemmas.{Small, function_runs, function_bytes}
use Rattle.pr_cut_units.specs.Parts.{Making}
use Rattle.pr_cut_units.specs.Equations.{UnitPlan, plan_of, has_units, arguments, equation_units, input_units, Cut, cut_start, cut_whole}
use Rattle.pr_cut_units.proofs.GoodNets.{AllWide, GoodCut, good_whole}
use Rattle.pr_cut_laws.proofs.Histories.{val, sight_at, val_law}
use Rattle.pr_cut_laws.proofs.Holds.{unit_slices}
use Rattle.pr_cut_laws.proofs.Whole.{ShowsNumber, value_of, unit_is}
use Rattle.pr_cut_laws.proofs.Widths.{has_widths}
use Rattle.pr_cut_laws.proofs.Made.{IsMade, made_at, own_part, units_more}
use Rattle.pr_cut_laws.proofs.Lawful.{HasUnits, IsFed, all_wide, good_start, cut_shows}
use Rattle.pr_cut_laws.proofs.Closed.{plan_closed}
use Rattle.pr_cut_laws.proofs.Inputs.{Stands, FitsRow, InputAt, input_at, input_shows}

-- ---- samples as bytes
no_bytes : (widths : List ℕ) → row_bytes widths [] ≡ []
no_bytes [] = refl
no_bytes (w ∷ widths) = refl

bytes_at : (widths : List ℕ) (samples : List (List ℕ)) (n : ℕ) → get_or (map (row_bytes widths) samples) n [] ≡ row_bytes widths (get_or samples n [])
bytes_at widths [] n = sym (no_bytes widths)
bytes_at widths (s ∷ samples) zero = refl
bytes_at widths (s ∷ samples) (suc n) = bytes_at widths samples n

front_small : (k n : ℕ) (rest : List ℕ) → ((i : ℕ) → get_or rest i 0 < 256) → (i : ℕ) → get_or (bytes_of k n ++ rest) i 0 < 256
front_small zero n rest h i = h i
front_small (suc k) n rest h zero = omega arith
front_small (suc k) n rest h (suc i) = front_small k (n / 256) rest h i

row_small : (widths row : List ℕ) (i : ℕ) → get_or (row_bytes widths row) i 0 < 256
row_small [] row i = omega arith
row_small (w ∷ widths) [] i = omega arith
row_small (w ∷ widths) (n ∷ row) i = front_small (slices_of w) n (row_bytes widths row) (row_small widths row) i

pub samples_small : (widths : List ℕ) (samples : List (List ℕ)) → Small (map (row_bytes widths) samples)
samples_small widths samples = record { at = λ n i. subst (λ (xs : List ℕ). get_or xs i 0 < 256) (sym (bytes_at widths samples n)) (row_small widths (get_or samples n []) i) }

-- ---- samples fit the inputs
abbrev AllSome : List ℕ → Type 0
AllSome [] = Unit {0}
AllSome (w ∷ widths) = (1 ≤ w) × AllSome widths

some_one : (b : Bool) (w : ℕ) (widths : List ℕ) → (b ≡ true → 1 ≤ w) → AllSome widths → AllSome (cond b (w ∷ widths) widths)
some_one true w widths h k = (h refl, k)
some_one false w widths h k = k

is_input_op : (op : Op) → is_input op ≡ true → op ≡ Op.Input
is_input_op Op.Input h = refl
is_input_op op h = cc

some_inputs : (rest : List EquationShape) → ((j : ℕ) (e : EquationShape) → slice_get rest j ≡ Some e → e.op ≡ Op.Input → 1 ≤ unwrap_or e.declared 0) → AllSome (input_widths rest)
some_inputs [] h = tt
some_inputs (e ∷ rest) h = some_one (is_input e.op) (unwrap_or e.declared 0) (input_widths rest) (λ b. h 0 e refl (is_input_op e.op b)) (some_inputs rest (λ j d there. h (suc j) d there))

fits_none : (widths : List ℕ) → AllSome widths → FitsRow widths []
fits_none [] h = tt
fits_none (w ∷ widths) h = (h.0, fits_none widths h.1)

fits_row : (widths row : List ℕ) → AllSome widths → IsRow widths row → FitsRow widths row
fits_row [] row h r = tt
fits_row (w ∷ widths) [] h r = absurd r
fits_row (w ∷ widths) (n ∷ row) h r = ((h.0, r.0), fits_row widths row h.1 r.1)

sample_fits : (widths : List ℕ) (samples : List (List ℕ)) (n : ℕ) → AllSome widths → ((n : ℕ) (sample : List ℕ) → slice_get samples n ≡ Some sample → IsRow widths sample) → FitsRow widths (get_or samples n [])
sample_fits widths [] n h r = fits_none widths h
sample_fits widths (s ∷ samples) zero h r = fits_row widths s h (r 0 s refl)
sample_fits widths (s ∷ samples) (suc n) h r = sample_fits widths samples n h (λ k t there. r (suc k) t there)

number_fits : (widths row : List ℕ) (c : ℕ) → c < length widths → FitsRow widths row → get_or row c 0 < 2 ^ get_or widths c 0
number_fits [] row c l f = absurd (omega (arith, l))
number_fits (w ∷ widths) [] zero l f = pow_pos w
number_fits (w ∷ widths) [] (suc c) l f = number_fits widths [] c (omega (arith, l)) f.1
number_fits (w ∷ widths) (n ∷ row) zero l f = f.0.1
number_fits (w ∷ widths) (n ∷ row) (suc c) l f = number_fits widths row c (omega (arith, l)) f.1

input_declared : (o : Option ℕ) → has_lawful_width Op.Input o ≡ true → (w : ℕ) × ((o ≡ Some w) × (1 ≤ w))
input_declared None h = cc
input_declared (Some w) h = (w, (refl, leb-true 1 w (and_parts (nat_le 1 w) (nat_le w 128) h).0))

-- the slices of inputs show the numbers of the samples
pub inputs_fed : (equations : List EquationShape) (outputs : List Operand) (widths : List ℕ) (samples : List (List ℕ)) → IsFlat equations outputs → AreWidths equations widths → ((n : ℕ) (sample : List ℕ) → slice_get samples n ≡ Some sample → IsRow (input_widths equations) sample) → IsFed (plan_of equations widths outputs) samples (reading_at (cut_whole (plan_of equations widths outputs)).units (map (row_bytes (input_widths equations)) samples))
inputs_fed equations outputs widths samples flat all rows = record { shows = one }
  where
    lawful : (i : ℕ) (e : EquationShape) → slice_get equations i ≡ Some e → e.op ≡ Op.Input → (w : ℕ) × ((e.declared ≡ Some w) × (1 ≤ w))
    lawful i e there op = input_declared e.declared (ap (λ (o : Op). has_lawful_width o e.declared) (sym op) ∙ flat.widths i e there)

    one : (n i : ℕ) (e : EquationShape) → slice_get equations i ≡ Some e → e.op ≡ Op.Input → ShowsNumber (reading_at (cut_whole (plan_of equations widths outputs)).units (map (row_bytes (input_widths equations)) samples) n) (value_of (cut_whole (plan_of equations widths outputs)).values i) (get_or widths i 0) (val equations widths samples n i)
    one n i e there op =
        let plan : UnitPlan = plan_of equations widths outputs in
        let final : Cut = cut_whole plan in
        let ws : List ℕ = input_widths equations in
        let buses : List (List ℕ) = map (row_bytes ws) samples in
        let r : Reading = reading_at final.units buses n in
        let wide : AllWide widths equations = all_wide equations outputs widths flat all in
        let good : GoodCut plan final = good_whole plan wide in
        let run = function_runs final.units buses good.order in
        let b : AreBytes r = function_bytes final.units buses n good.bytes (samples_small ws samples) in
        let c : ℕ = count_by (λ (x : EquationShape). is_input x.op) (take i equations) in
        let w : ℕ = get_or widths i 0 in
        let given = lawful i e there op in
        let same : w ≡ given.0 = all.declared i e there given.0 given.1.0 in
        let at : InputAt equations i given.0 = input_at equations i given.0 e there op given.1.0 in
        let wc : get_or ws c 0 ≡ w = at.is ∙ sym same in
        let row : List ℕ = get_or samples n [] in
        let some : AllSome ws = some_inputs equations (λ j d there op. (let g = lawful j d there op in let u : unwrap_or d.declared 0 ≡ g.0 = ap (λ (o : Option ℕ). unwrap_or o 0) g.1.0 in omega (arith, u, g.1.1))) in
        let fits : FitsRow ws row = sample_fits ws samples n some rows in
        let s : Stands r 0 (row_bytes ws row) = record { at = λ k. (let z : 0 + k ≡ k = omega arith in ap (λ (j : ℕ). get_or (get_or buses n []) j 0) z ∙ ap (λ (xs : List ℕ). get_or xs k 0) (bytes_at ws samples n)) } in
        let more = units_more plan (cut_start equations) equations in
        let has : Has r 0 (input_units 0 ws) = (has-append r 0 (input_units 0 ws) more.0 (subst (Has r 0) more.1 (run.has n))).0 in
        let z : 0 + c ≡ c = omega arith in
        let shows : shown r (unit_slices w c) ≡ get_or row c 0 = ap (λ (k : ℕ). shown r (unit_slices k c)) (sym wc) ∙ ap (λ (k : ℕ). shown r (unit_slices (get_or ws c 0) k)) (sym z) ∙ input_shows r 0 0 ws row c at.within b fits s has in
        let m : IsMade plan final i e = made_at plan (cut_start equations) i e refl wide (good_start plan) there in
        let units : has_units plan i e ≡ true = ap (λ (o : Op). is_input o || get_or plan.reached i false) op in
        let out : value_of final.values i ≡ unit_slices w c = m.slices ∙ ap (λ (p : Making). (p (length m.cut.units)).slices) (own_part plan final i e m units ∙ ap (λ (o : Op). equation_units plan i o (arguments plan m.cut.values e.args e.kinds)) op) in
        let is : val equations widths samples n i ≡ get_or row c 0 = val_law equations outputs widths samples n i e flat there ∙ ap (λ (o : Op). number_in (sight_at equations widths samples n) i o e.args e.kinds) op in
        let small : get_or row c 0 < 2 ^ w = subst (λ (k : ℕ). get_or row c 0 < 2 ^ k) wc (number_fits ws row c at.within fits) in
        let P : List Slice → ℕ → Type 0 = λ x k. ShowsNumber r x w k in
        subst (λ (x : List Slice). P x (val equations widths samples n i)) (sym out) (subst (P (unit_slices w c)) (sym is) (unit_is r b c w (get_or row c 0) ((has_widths equations outputs widths flat all).some i e there) small shows))

-- the main law: for lawful equations with their widths, on samples of lawful rows, the slices of every equation that has units show at every sample the number that the language gives
pub lawful_cut_shows : (equations : List EquationShape) (outputs : List Operand) (widths : List ℕ) (samples : List (List ℕ)) → IsFlat equations outputs → AreWidths equations widths → ((n : ℕ) (sample : List ℕ) → slice_get samples n ≡ Some sample → IsRow (input_widths equations) sample)
    → (n i : ℕ) (e : EquationShape) → slice_get equations i ≡ Some e → HasUnits (plan_of equations widths outputs) i → ShowsNumber (reading_at (cut_whole (plan_of equations widths outputs)).units (map (row_bytes (input_widths equations)) samples) n) (value_of (cut_whole (plan_of equations widths outputs)).values i) (get_or widths i 0) (val equations widths samples n i)
lawful_cut_shows equations outputs widths samples flat all rows n i e there made =
    cut_shows equations outputs widths samples (map (row_bytes (input_widths equations)) samples) flat all (samples_small (input_widths equations) samples) (plan_closed equations outputs widths flat) (inputs_fed equations outputs widths samples flat all rows) n i e there made
