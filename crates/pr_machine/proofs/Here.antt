-- A place that is here has its stripe, and one more place that is here.
use Rattle.std.proofs.Common.{◌≡◌, ℕ, true, refl}
use Rattle.pr_machine.specs.declared.places.StripePlace.{StripePlace}
use Rattle.pr_machine.specs.declared.places.StripePlace.TheVariants as V
use Rattle.pr_machine.specs.Places.{is_here, is_there}

pub there : {N P : ℕ} (n : ℕ) (place : StripePlace N P) → is_here n place ≡ true → is_there place ≡ true
there n (V.Blank stripe) h = refl
there n (V.Live stripe) h = refl
there n V.Away h = h
