-- What a machine stands for as it begins.
use Rattle.std.proofs.Common.{◌≡◌, ℕ, ◌<◌, ◌≤◌, true, List, [], length, refl, ap, subst, sym, arith, Option, Some, None, is_none, vec_len}
use Rattle.std.proofs.lemmas.List.{length-map}
use Rattle.pr_conf.specs.declared.configurations.Configuration.{Configuration}
use Rattle.pr_conf.specs.Configuration.{shape_of, pes_of}
use Rattle.pr_conf.specs.Through.{steps_of, tapped}
use Rattle.pr_queue.specs.Pieces.{Pieces}
use Rattle.pr_stripe.specs.Rows.{shown}
use Rattle.pr_machine_refines.specs.Spots.{Bare}
use Rattle.pr_machine_refines.specs.Stands.{IsStanding}
use Rattle.pr_machine_refines.proofs.HistoryLaws.{standing_start}
use Rattle.pr_machine.specs.declared.places.StripePlace.{StripePlace}
use Rattle.pr_machine.specs.declared.places.StripePlace.TheVariants as V
use Rattle.pr_machine.specs.Places.{seen, place_at, is_bare, is_here, AreBare, spots_of, rows_of}
use Rattle.pr_machine.specs.Stands.{account_of}
use Rattle.pr_machine.proofs.Events.{some_stages}

none_is : {A : Type 0} (o : Option A) → is_none o ≡ true → o ≡ None
none_is None h = refl
none_is (Some x) h = absurd (let z = h in cc)

pub bare_is : {N P : ℕ} (place : StripePlace N P) → is_bare place ≡ true → seen place ≡ Bare None
bare_is (V.Blank stripe) h = ap Bare (none_is (shown stripe.row) h)
bare_is (V.Live stripe) h = absurd (let z = h in cc)
bare_is V.Away h = absurd (let z = h in cc)

pub bare_here : {N P : ℕ} (n : ℕ) (place : StripePlace N P) → is_bare place ≡ true → is_here n place ≡ true
bare_here n (V.Blank stripe) h = refl
bare_here n (V.Live stripe) h = absurd (let z = h in cc)
bare_here n V.Away h = h

pub starting : {N P : ℕ} (conf : Configuration N P) (places : List (StripePlace N P)) (store : List (List ℕ)) (time : ℕ) (input output : Pieces) → 2 ≤ length places → AreBare places → ((s : ℕ) → s < vec_len conf.stages → rows_of store s ≡ (steps_of N P (shape_of conf) s).init)
    → time ≡ 0 → input.waiting ≡ [] → output.waiting ≡ []
    → IsStanding (steps_of N P (shape_of conf)) (tapped N (shape_of conf)) (length (shape_of conf).stages) (length places) (spots_of places) (rows_of store) time 0 0 input.waiting output.waiting (account_of (shape_of conf) (length places) [])
starting {N = N} {P = P} conf places store time input output two bare first et ei eo =
    let n = length-map conf.stages.items (pes_of {N = N}) in
    let base = standing_start (steps_of N P (shape_of conf)) (tapped N (shape_of conf)) (length (shape_of conf).stages) (length places) (spots_of places) (rows_of store) (some_stages conf (shape_of conf) refl) (omega arith)
    (λ i hi. bare_is (place_at places i) (bare i hi)) (λ s hs. first s (omega (arith, conf.stages.ok.0))) in
    let b1 = subst (λ t. IsStanding (steps_of N P (shape_of conf)) (tapped N (shape_of conf)) (length (shape_of conf).stages) (length places) (spots_of places) (rows_of store) t 0 0 [] [] (account_of (shape_of conf) (length places) [])) (sym et) base in
    let b2 = subst (λ w. IsStanding (steps_of N P (shape_of conf)) (tapped N (shape_of conf)) (length (shape_of conf).stages) (length places) (spots_of places) (rows_of store) time 0 0 w [] (account_of (shape_of conf) (length places) [])) (sym ei) b1 in
    subst (λ w. IsStanding (steps_of N P (shape_of conf)) (tapped N (shape_of conf)) (length (shape_of conf).stages) (length places) (spots_of places) (rows_of store) time 0 0 input.waiting w (account_of (shape_of conf) (length places) [])) (sym eo) b2
