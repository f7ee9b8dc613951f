-- What the rows of a stage's sources say of its elements.
use Rattle.std.proofs.Common.{◌≡◌, ℕ, ◌<◌, ◌≤◌, ◌||◌, Bool, true, false, nat_lt, nat_le, if◌then◌else◌, refl, ap, ◌∙◌, arith}
use Rattle.std.proofs.lemmas.Bool.Decides.{nat_tests}
use Rattle.pr_conf.specs.declared.pes.Source.{Source}
use Rattle.pr_lanes.specs.Lanes.{is_place}
use Rattle.pr_stripe_prepared.specs.Places.{state_in, here_in, is_suited}

or_true : (a b : Bool) → b ≡ true → (a || b) ≡ true
or_true true b h = refl
or_true false b h = h

pub place_ok : (n : ℕ) (s : Source) → is_suited n s ≡ true → is_place (state_in s) ≡ true
place_ok n (Source.Const k) h = refl
place_ok n (Source.Prev col reg) h = refl
place_ok n (Source.Here col) h = refl
place_ok n (Source.State col) h = or_true (nat_le 128 col) (nat_lt col 16) h
place_ok n (Source.Bus place) h = refl

pub here_ok : (n : ℕ) (s : Source) → is_suited n s ≡ true → is_place (here_in s) ≡ true
here_ok n (Source.Const k) h = refl
here_ok n (Source.Prev col reg) h = refl
here_ok n (Source.Here col) h = or_true (nat_le 128 col) (nat_lt col 16) h
here_ok n (Source.State col) h = refl
here_ok n (Source.Bus place) h = refl

pub choice : (P : Source → Type 0) (b : Bool) (s t : Source) → (b ≡ true → P s) → (b ≡ false → P t) → P (if b then s else t)
choice P true s t f g = f refl
choice P false s t f g = g refl

pub below : (k : ℕ) (s t x : Source) → x ≡ (if nat_lt k 16 then s else t) → k < 16 → x ≡ s
below k s t x e h = let b : nat_lt k 16 ≡ true = grind (arith, nat_tests) in e ∙ ap (λ z. if z then s else t) b

pub above : (k : ℕ) (s t x : Source) → x ≡ (if nat_lt k 16 then s else t) → 16 ≤ k → x ≡ t
above k s t x e h = let b : nat_lt k 16 ≡ false = grind (arith, nat_tests) in e ∙ ap (λ z. if z then s else t) b

pub is_below : (k : ℕ) → nat_lt k 16 ≡ true → k < 16
is_below k h = grind (arith, nat_tests)

pub is_above : (k : ℕ) → nat_lt k 16 ≡ false → 16 ≤ k
is_above k h = grind (arith, nat_tests)
