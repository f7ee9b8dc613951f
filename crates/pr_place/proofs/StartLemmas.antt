-- Nothing is placed: what the tables say then.
use Rattle.std.proofs.Common.{◌≡◌, ℕ, ◌+◌, ◌-◌, ◌*◌, ◌^◌, ◌<◌, ◌≤◌, ◌==◌, Bool, true, false, nat_lt, List, [], ◌∷◌, length, get_or, replicate, if◌then◌else◌, refl, sym, ap, ◌∙◌, subst, arith, inl, inr}
use Rattle.std.proofs.Math.Nat.{mul-le-mul_right}
use Rattle.std.specs.List.{Contains}
use Rattle.std.specs.Int.{bit_at}
use Rattle.std.proofs.lemmas.Bool.{cases_Bool, false≢true, and_from, eq-eqb, lt-ltb}
use Rattle.std.proofs.lemmas.List.{length-replicate, get_or-replicate}
use Rattle.pr_net.specs.Shape.{NetShape}
use Rattle.pr_net.proofs.Lists.{in_none}
use Rattle.pr_place.specs.declared.lookups.Tables.{Tables}
use Rattle.pr_place.specs.Beginning.{nothing_put}
use Rattle.pr_place.specs.Candidates.{HasSets, IsCovered}
use Rattle.pr_place.specs.Greedy.{spots_of}
use Rattle.pr_place.specs.Registers.{row_of}
use Rattle.pr_place.specs.Tables.{AreTables, reads_in}
use Rattle.pr_place.specs.Tracking.{Tracks, Offers, Filling, ops_of}
use Rattle.pr_place.specs.Waits.{waits_of}
use Rattle.pr_place.proofs.NumberLemmas.{cell_at_spot}
use Rattle.pr_place.proofs.Putting.{row_at, row_long}
use Rattle.pr_place.proofs.Rule.{nothing}
use Rattle.pr_place.proofs.Soundness.{spot_in}
use Rattle.pr_place.proofs.Spots.{spot}
use Rattle.pr_place.proofs.Steps.{all_set}
use Rattle.pr_place.proofs.Tracking.{some_free}
use Rattle.pr_place.proofs.Waking.{ready_is}

-- a group waits for all that it reads
pub all_waits : (owner : List ℕ) (xs : List ℕ) → waits_of owner [] xs ≡ length xs
all_waits owner [] = refl
all_waits owner (x ∷ xs) = let ih = all_waits owner xs in let e : waits_of owner [] (x ∷ xs) ≡ 1 + waits_of owner [] xs = refl in omega (arith, ih, e)

slot : (N P c r : ℕ) → c < N → r < P → c * P + r < N * P
slot N P c r lc lr =
    let up : (c + 1) * P ≤ N * P = mul-le-mul_right P (omega (arith, lc)) in
    let more : (c + 1) * P ≡ c * P + P = omega arith in
    omega (arith, up, more, lr)

-- all registers are free, and no column is taken
pub nothing_tracks : (N P : ℕ) (net : NetShape) (t : Tables) → AreTables N P net t → 2 ≤ P → Tracks N P net t.cells.first.items t.cells.kept.items (ops_of t.plans) 0 [] (nothing_put N P t.cells.uses.items)
nothing_tracks N P net t h two =
    let held = replicate (N * P) false in
    let long : length held ≡ N * P = length-replicate (N * P) false in
    record {
      uses_is = h.uses;
      held = record {
        long = long;
        held_is = λ c r lc l1 lr. get_or-replicate (N * P) (c * P + r) false false (slot N P c r lc lr);
        alone = λ a b ca cb la lb ec er one. absurd (in_none a ca);
      };
      room_long = length-replicate N true;
      taken_long = length-replicate N false;
      room_is = λ c lc. get_or-replicate N c true false lc ∙ sym (some_free P (row_of P held c) 1 (row_long N P held c long lc) (omega arith) (omega (arith, two)) (row_at P held c 1 (omega (arith, two)) ∙ get_or-replicate (N * P) (c * P + 1) false false (slot N P c 1 lc (omega (arith, two)))));
      taken_is = λ c lc. get_or-replicate N c false false lc;
      spots_is = λ k c. absurd (in_none k c);
    }

-- who is a candidate then
ready_small : (w cl : ℕ) → cl < 64 → nat_lt (if w == 0 then cl else 255) 64 ≡ (w == 0)
ready_small w cl l = elim (cases_Bool (w == 0)) [
  | inl t ↦ ap (λ (b : Bool). nat_lt (if b then cl else 255) 64) t ∙ lt-ltb cl 64 l ∙ sym t
  | inr f ↦ ap (λ (b : Bool). nat_lt (if b then cl else 255) 64) f ∙ sym f
]

ready_class : (w cl : ℕ) → (if w == 0 then cl else 255) < 64 → (if w == 0 then cl else 255) ≡ cl
ready_class w cl l = elim (cases_Bool (w == 0)) [
  | inl t ↦ ap (λ (b : Bool). if b then cl else 255) t
  | inr f ↦ absurd (let e : (if w == 0 then cl else 255) ≡ (if false then cl else 255) = ap (λ (b : Bool). if b then cl else 255) f in omega (arith, l, e))
]

pub first_offers : (N P : ℕ) (net : NetShape) (t : Tables) (waits ready : List ℕ) → AreTables N P net t → ((g : ℕ) → g < length net.groups → get_or waits g 0 ≡ waits_of t.cells.owner.items [] (reads_in t g))
    → ((g : ℕ) → g < length net.groups → get_or ready g 0 ≡ (if get_or waits g 0 == 0 then get_or t.class.items g 0 else 255))
    → Offers N P net 0 [] t.class.items ready (2 ^ 64 - 1) 0
first_offers N P net t waits ready h waits_is is =
    let first = t.cells.first.items in
    let owner = t.cells.owner.items in
    let net_is = h.fixed.net_is in
    record {
      ready_is = λ g lg from.
          ap (λ (n : ℕ). nat_lt n 64) (is g lg) ∙ ready_small (get_or waits g 0) (get_or t.class.items g 0) (h.fixed.class_small g)
          ∙ ap (λ (n : ℕ). n == 0) (waits_is g lg)
          ∙ sym (ready_is N P net first (ops_of t.plans) owner (length owner) 0 g [] h.fixed.numbered h.owned (λ k c. absurd (in_none k c))
          (λ k x lk c. cell_at_spot N net net_is k x lk c)
          (λ k v j c. subst (λ (m : ℕ). Contains (spots_of net m) (spot v j)) c.is (spot_in N net net_is v j (record { unit = c.unit; place = c.place }))) lg);
      class_is = λ g lg from small. is g lg ∙ ready_class (get_or waits g 0) (get_or t.class.items g 0) (subst (λ (n : ℕ). n < 64) (is g lg) small);
      alike = h.alike;
      blocked = λ g lg from small none. absurd (false≢true (sym none ∙ and_from (nat_lt (get_or ready g 0) 64) (bit_at (2 ^ 64 - 1) (get_or ready g 0) == 1) (lt-ltb (get_or ready g 0) 64 small) (eq-eqb (bit_at (2 ^ 64 - 1) (get_or ready g 0)) 1 (all_set (get_or ready g 0) small))));
    }

pub first_filling : (N P : ℕ) (net : NetShape) (t : Tables) (waits ready summary : List ℕ) → AreTables N P net t → 2 ≤ P → ((g : ℕ) → g < length net.groups → get_or waits g 0 ≡ waits_of t.cells.owner.items [] (reads_in t g))
    → length ready ≡ length net.groups → ((g : ℕ) → g < length net.groups → get_or ready g 0 ≡ (if get_or waits g 0 == 0 then get_or t.class.items g 0 else 255))
    → HasSets ready summary → IsCovered ready summary
    → Filling N P net t.cells.first.items t.cells.kept.items t.plans t.class.items summary ready (nothing_put N P t.cells.uses.items) 0 (2 ^ 64 - 1) 0 []
first_filling N P net t waits ready summary h two waits_is long is blocks covered = record {
  uses_long = sym (length-replicate (length t.cells.uses.items) (0, 0));
  ready_long = long;
  blocks = blocks;
  covered = covered;
  sound = nothing N P net 0;
  tracks = nothing_tracks N P net t h two;
  offers = first_offers N P net t waits ready h waits_is is;
}
