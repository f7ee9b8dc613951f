-- Sums over the first of a list by number.
use Rattle.std.proofs.Common.{◌≡◌, ℕ, ◌+◌, ap, ◌∙◌}
use Rattle.std.specs.List.{sum}
use Rattle.std.proofs.lemmas.List.Sums.{sum_by_push}
use Rattle.pr_cut_units.specs.Parts.{each}
use Rattle.pr_cut_units.proofs.EachLemmas.{each_more}

pub sum_each_more : (f : ℕ → ℕ) (n : ℕ) → sum (each (n + 1) f) ≡ sum (each n f) + f n
sum_each_more f n = ap sum (each_more f n) ∙ sum_by_push (λ (x : ℕ). x) (each n f) (f n)
