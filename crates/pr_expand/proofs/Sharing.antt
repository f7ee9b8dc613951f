-- Looking for a delay, and making several.
use Rattle.std.proofs.Common.{◌≡◌, ◌∙◌, ◌<◌, ℕ, suc, ◌+◌, ◌-◌, Bool, sym, ap, arith}
use Rattle.pr_flat.specs.declared.equations.Operand.{Operand}
use Rattle.pr_expand_spec.specs.Making.{Equations, Expanded, delayed, delayed_once}

-- one step more
pub delay_step : (samples k c : ℕ) (operand : Operand) (signed : Bool) (now : Equations) (once : Expanded) (w : Expanded) → k < samples → once ≡ delayed_once operand c now → delayed (samples - k) (record { operand = operand; signed = signed }) c now ≡ w → delayed (samples - (k + 1)) (record { operand = once.given.operand; signed = signed }) c once.equations ≡ w
delay_step samples k c operand signed now once w h is rest =
    let more : samples - k ≡ suc (samples - (k + 1)) = omega (arith, h) in
    ap (λ (m : Expanded). delayed (samples - (k + 1)) (record { operand = m.given.operand; signed = signed }) c m.equations) is ∙
    (sym (ap (λ (n : ℕ). delayed n (record { operand = operand; signed = signed }) c now) more) ∙ rest)
