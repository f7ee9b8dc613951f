-- The stages of a configuration that are made to begin in other states, one after the other.
use Rattle.std.proofs.Common.{◌≡◌, ℕ, zero, suc, ◌+◌, ◌<◌, ◌≤◌, List, [], ◌∷◌, length, get_or, map, refl, sym, ap, ◌∙◌, arith, Some, slice_get, inl, inr}
use Rattle.std.proofs.Math.ListN.{set}
use Rattle.std.proofs.lemmas.Bool.{cases_lt}
use Rattle.std.proofs.lemmas.List.{same_lists, get_or_default, get_or-set_same, get_or-set_other, length-set}
use Rattle.std.proofs.lemmas.Option.{get_or_from_slice_get}
use Rattle.pr_conf.specs.declared.pes.Pe.{Pe}
use Rattle.pr_conf.specs.declared.stages.Stage.{Stage}
use Rattle.pr_conf.specs.Shape.{Shape}
use Rattle.pr_conf.specs.Configuration.{pes_of}
use Rattle.pr_conf.specs.Through.{steps_of}
use Rattle.pr_conf.specs.After.{begun, all_begun, with_states}
use Rattle.pr_conf.proofs.AfterLaws.{begun_init, length-all_begun, all_begun_at}
use Rattle.pr_machine.specs.Places.{rows_of}
use Rattle.pr_machine.proofs.FirstStates.{init_is}

-- the first i stages begin in these states, which have N bytes each
pub record IsBegun (N i : ℕ) (states : ℕ → List ℕ) (old now : Shape) : Type 0 where
  pub count : length now.stages ≡ length old.stages
  pub first : (s : ℕ) → s < i → get_or now.stages s [] ≡ begun (get_or old.stages s []) (states s)
  pub long : (s : ℕ) → s < i → length (states s) ≡ N
  pub later : (s : ℕ) → i ≤ s → get_or now.stages s [] ≡ get_or old.stages s []
  pub inputs : now.inputs ≡ old.inputs
  pub outputs : now.outputs ≡ old.outputs

pub begun_none_yet : (N : ℕ) (states : ℕ → List ℕ) (c : Shape) → IsBegun N 0 states c c
begun_none_yet N states c = record {
  count = refl;
  first = λ s h. absurd (omega arith);
  long = λ s h. absurd (omega arith);
  later = λ s h. refl;
  inputs = refl;
  outputs = refl;
}

pub begun_next : (N i : ℕ) (store : List (List ℕ)) (old now next : Shape) (row : List ℕ) → IsBegun N i (rows_of store) old now → i < length old.stages → slice_get store i ≡ Some row → length row ≡ N
    → next.stages ≡ set now.stages i (begun (get_or now.stages i []) row) → next.inputs ≡ now.inputs → next.outputs ≡ now.outputs → IsBegun N (i + 1) (rows_of store) old next
begun_next N i store old now next row b h got long es ei eo = record {
  count = ap length es ∙ (length-set now.stages i (begun (get_or now.stages i []) row) ∙ b.count);
  first = λ s k. elim (cases_lt s i) [ inl below ↦ before s below | inr above ↦ this s (omega arith) ];
  long = λ s k. elim (cases_lt s i) [ inl below ↦ b.long s below | inr above ↦ let e : s ≡ i = omega arith in ap (λ n. length (rows_of store n)) e ∙ (ap length got_row ∙ long) ];
  later = λ s k. ap (λ xs. get_or xs s []) es ∙ (get_or-set_other now.stages i s (begun (get_or now.stages i []) row) [] (λ e. absurd (omega arith)) ∙ b.later s (omega arith));
  inputs = ei ∙ b.inputs;
  outputs = eo ∙ b.outputs;
}
  where
    got_row : rows_of store i ≡ row
    got_row = get_or_from_slice_get store i row [] got

    before : (s : ℕ) → s < i → get_or next.stages s [] ≡ begun (get_or old.stages s []) (rows_of store s)
    before s k = ap (λ xs. get_or xs s []) es ∙ (get_or-set_other now.stages i s (begun (get_or now.stages i []) row) [] (λ e. absurd (omega arith)) ∙ b.first s k)

    at_i : get_or next.stages i [] ≡ begun (get_or old.stages i []) (rows_of store i)
    at_i =
        let n = b.count in
        ap (λ xs. get_or xs i []) es ∙ (get_or-set_same now.stages i (begun (get_or now.stages i []) row) [] (omega arith)
        ∙ (ap (λ pes. begun pes row) (b.later i (omega arith)) ∙ ap (begun (get_or old.stages i [])) (sym got_row)))

    this : (s : ℕ) → s ≡ i → get_or next.stages s [] ≡ begun (get_or old.stages s []) (rows_of store s)
    this s e = ap (λ n. get_or next.stages n []) e ∙ (at_i ∙ ap (λ n. begun (get_or old.stages n []) (rows_of store n)) (sym e))

-- all of them
pub begun_whole : (N n : ℕ) (states : ℕ → List ℕ) (old now : Shape) → IsBegun N n states old now → length old.stages ≤ n → now ≡ with_states old states
begun_whole N n states old now b e = λ i. record { inputs = b.inputs i; outputs = b.outputs i; stages = stages i }
  where
    each : (k : ℕ) (d : List Pe) → k < length now.stages → get_or now.stages k d ≡ get_or (all_begun states 0 old.stages) k d
    each k d h =
        let z : 0 + k ≡ k = omega arith in
        let m = b.count in
        let l = length-all_begun states 0 old.stages in
        get_or_default now.stages k d [] h ∙ (b.first k (omega arith) ∙ (ap (λ s. begun (get_or old.stages k []) (states s)) (sym z)
        ∙ (sym (all_begun_at states 0 k old.stages (omega arith)) ∙ get_or_default (all_begun states 0 old.stages) k [] d (omega arith))))

    stages : now.stages ≡ all_begun states 0 old.stages
    stages = same_lists now.stages (all_begun states 0 old.stages) (b.count ∙ sym (length-all_begun states 0 old.stages)) each

-- a stage has N processing elements
pub long_stage : {N : ℕ} (stages : List (Stage N)) (s : ℕ) → s < length stages → length (get_or (map (pes_of {N = N}) stages) s []) ≡ N
long_stage [] s h = absurd (omega arith)
long_stage (stage ∷ stages) zero h = omega (arith, stage.size, stage.pes.ok.0)
long_stage (stage ∷ stages) (suc s) h = long_stage stages s (omega arith)

pub begun_state : (N P n : ℕ) (states : ℕ → List ℕ) (old now : Shape) (s : ℕ) → IsBegun N n states old now → s < n → length (get_or old.stages s []) ≡ N → states s ≡ (steps_of N P now s).init
begun_state N P n states old now s b h long =
    sym (init_is N P now s ∙ (ap (map (λ (pe : Pe). pe.init)) (b.first s h) ∙ begun_init (get_or old.stages s []) (states s) (b.long s h ∙ sym long)))
