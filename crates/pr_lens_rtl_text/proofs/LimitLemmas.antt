-- A text that has too many bytes, of which some are made.
use Rattle.std.proofs.Common.{◌≡◌, ◌≤◌, ◌++◌, ℕ, List, length, Result, Err, IfErr, arith, ap}
use Rattle.std.proofs.lemmas.List.{length-append}
use Rattle.pr_lens_rtl_text.specs.declared.faults.NoText.{NoText}
use Rattle.pr_lens_rtl_text.specs.declared.faults.NoText.TheVariants.{Long, Memory}
use Rattle.pr_lens_rtl_text.specs.Limits.{IsTooLong}

pub longer : (part whole : List ℕ) (e : NoText) → length part ≤ length whole → IsTooLong part e → IsTooLong whole e
longer part whole Long le long = omega (arith, le, long)
longer part whole (Memory a) le long = tt

-- the fault with which a step ends the whole
pub at_fault : {T : Type 0} (r : Result T NoText) (part whole : List ℕ) (e : NoText) → (y : NoText) × (r ≡ Err y) × (y ≡ e) → length part ≤ length whole → IsTooLong part e → IfErr r (IsTooLong whole)
at_fault r part whole e p le long = rw (p.1, p.2) (longer part whole e le long)

pub front_within : (front rest whole : List ℕ) → front ++ rest ≡ whole → length front ≤ length whole
front_within front rest whole e = omega (arith, ap length e, length-append front rest)

pub same_length : {a b : List ℕ} → a ≡ b → length a ≤ length b
same_length e = omega (arith, ap length e)
