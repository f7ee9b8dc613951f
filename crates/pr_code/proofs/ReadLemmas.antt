-- Lists of parts that are read one after another.
use Rattle.std.proofs.Common.{◌≡◌, ℕ, suc, ◌+◌, ◌-◌, ◌<◌, ◌&&◌, Bool, true, false, List, [], ◌∷◌, ◌++◌, length, take, drop, slice_index, refl, sym, ap, ◌∙◌, arith, Option, None, Some, nat_le, append_assoc}
use Rattle.pr_base.specs.Numbers.{slices_of}
use Rattle.std.proofs.lemmas.List.{drop-drop, length-replicate}
use Rattle.pr_code.specs.Reading.{output_of, output_length, outputs_of, outputs_length}
use Rattle.pr_code.specs.Rules.{Broken, demand, broken_at, first_broken, is_count, count_rule, width_rules, tap_rule, output_rules, outputs_rules}
use Rattle.pr_code.proofs.BreakLemmas.{met, kept, part_breaks, part_keeps}

-- one more is found
pub found_more : {X : Type 0} (before now later whole : List X) (x : X) → now ≡ x ∷ later → before ++ now ≡ whole → (before ++ x ∷ []) ++ later ≡ whole
found_more before now later whole x e h = append_assoc before (x ∷ []) later ∙ (ap (λ t. before ++ t) (sym e) ∙ h)

-- how many are left
pub one_more_left : (count done : ℕ) → done < count → count - done ≡ suc (count - (done + 1))
one_more_left count done lt = omega arith

-- ---- widths

broken_and : (place : ℕ) (b c : Bool) (later : Option Broken) (x : Broken) → broken_at place (demand 4 b) None ≡ Some x → broken_at place (demand 4 (b && c)) later ≡ Some x
broken_and place true c later x h = absurd cc
broken_and place false c later x h = h

-- a word that is no width
pub width_refused : (widest N n m used place : ℕ) (words : List ℕ) (whole : Option Broken) → n ≡ suc m → first_broken (width_rules widest N n used words) place words ≡ whole → (x : Broken) → first_broken (count_rule widest ∷ []) place words ≡ Some x → whole ≡ Some x
width_refused widest N n m used place [] whole e h x b = sym h ∙ (ap (λ k. first_broken (width_rules widest N k used []) place []) e ∙ b)
width_refused widest N n m used place (w ∷ rest) whole e h x b =
    sym h ∙ (ap (λ k. first_broken (width_rules widest N k used (w ∷ rest)) place (w ∷ rest)) e
    ∙ broken_and place (is_count widest w) (nat_le (used + slices_of w) N) (first_broken (width_rules widest N m (used + slices_of w) rest) (place + 1) rest) x b)

-- the rules of widths, whose first word this is
pub width_step : (widest N n m used w : ℕ) (words rest : List ℕ) → n ≡ suc m → words ≡ w ∷ rest → width_rules widest N n used words ≡ (λ v. demand 4 (is_count widest v && nat_le (used + slices_of v) N)) ∷ width_rules widest N m (used + slices_of w) rest
width_step widest N n m used w words rest e is = ap (λ k. width_rules widest N k used words) e ∙ ap (λ t. width_rules widest N (suc m) used t) is

-- a width that fits
pub width_kept : (widest N used w place : ℕ) (words rest : List ℕ) → words ≡ w ∷ rest → first_broken (count_rule widest ∷ []) place words ≡ None → nat_le (used + slices_of w) N ≡ true → demand 4 (is_count widest w && nat_le (used + slices_of w) N) ≡ None
width_kept widest N used w place words rest is h fits =
    let count : is_count widest w ≡ true = met 4 (is_count widest w) (kept (count_rule widest) place words w rest is h) in
    rw (count, fits) refl

-- a width whose bytes do not
pub width_too_many : (widest N used w place : ℕ) (words rest : List ℕ) → words ≡ w ∷ rest → first_broken (count_rule widest ∷ []) place words ≡ None → nat_le (used + slices_of w) N ≡ false → demand 4 (is_count widest w && nat_le (used + slices_of w) N) ≡ Some 4
width_too_many widest N used w place words rest is h fits =
    let count : is_count widest w ≡ true = met 4 (is_count widest w) (kept (count_rule widest) place words w rest is h) in
    rw (count, fits) refl

-- ---- the words of a list, one by one

pub take_step : (n m w : ℕ) (words rest : List ℕ) → n ≡ suc m → words ≡ w ∷ rest → take n words ≡ w ∷ take m rest
take_step n m w words rest e is = ap (λ k. take k words) e ∙ ap (λ t. take (suc m) t) is

-- ---- outputs

pub length-output_rules : (widest N P : ℕ) (words : List ℕ) → length (output_rules widest N P words) ≡ output_length words
length-output_rules widest N P words =
    let e = length-replicate (slices_of (slice_index words 0)) (tap_rule N P) in
    omega (arith, e)

pub outputs_step : (widest N P n m : ℕ) (words : List ℕ) → n ≡ suc m → outputs_rules widest N P n words ≡ output_rules widest N P words ++ outputs_rules widest N P m (drop (output_length words) words)
outputs_step widest N P n m words e = ap (λ k. outputs_rules widest N P k words) e

pub output_refused : (widest N P n m place : ℕ) (words : List ℕ) (whole : Option Broken) → n ≡ suc m → first_broken (outputs_rules widest N P n words) place words ≡ whole → (x : Broken) → first_broken (output_rules widest N P words) place words ≡ Some x → whole ≡ Some x
output_refused widest N P n m place words whole e h x b = part_breaks _ (output_rules widest N P words) _ place words whole (outputs_step widest N P n m words e) h x b

pub output_kept : (widest N P n m at k : ℕ) (all : List ℕ) (whole : Option Broken) → n ≡ suc m → k ≡ output_length (drop at all) → first_broken (output_rules widest N P (drop at all)) at (drop at all) ≡ None → first_broken (outputs_rules widest N P n (drop at all)) at (drop at all) ≡ whole → first_broken (outputs_rules widest N P m (drop (at + k) all)) (at + k) (drop (at + k) all) ≡ whole
output_kept widest N P n m at k all whole e len b h =
    let words = drop at all in
    let count : length (output_rules widest N P words) ≡ k = length-output_rules widest N P words ∙ sym len in
    let move : drop k words ≡ drop (at + k) all = drop-drop k at all in
    let rest = part_keeps _ (output_rules widest N P words) _ at words whole (outputs_step widest N P n m words e) h b in
    rw (← move) (rw (count, ← len) at rest)

pub output_found : (n m at k : ℕ) (all : List ℕ) → n ≡ suc m → k ≡ output_length (drop at all) → outputs_of n (drop at all) ≡ output_of (drop at all) ∷ outputs_of m (drop (at + k) all)
output_found n m at k all e len =
    let move : drop k (drop at all) ≡ drop (at + k) all = drop-drop k at all in
    rw (e, ← move, len) refl

pub output_next : (n m at k whole : ℕ) (all : List ℕ) → n ≡ suc m → k ≡ output_length (drop at all) → at + outputs_length n (drop at all) ≡ whole → (at + k) + outputs_length m (drop (at + k) all) ≡ whole
output_next n m at k whole all e len h =
    let move : drop k (drop at all) ≡ drop (at + k) all = drop-drop k at all in
    let more : outputs_length n (drop at all) ≡ k + outputs_length m (drop k (drop at all)) = rw (e, len) refl in
    rw (← move) (omega (arith, more, h))
