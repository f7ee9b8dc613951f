use Rattle.std.proofs.Common.{◌+◌, ◌-◌, ◌≡◌, ap, sym, ◌∙◌, arith, length}
use Rattle.pr_run_script.specs.Script.{begun, turns, most_cycles}
use Rattle.pr_run_script.proofs.EndLaws.{over_in_time}
use Rattle.pr_run_script.proofs.RunLaws.{turns_stay}
use Rattle.pr_run_script.proofs.WholeLaws.{whole, counted}
use Rattle.pr_run_script.proofs.script_law.Goals as goal

pub returns : goal.returns
returns c = record {
  whole = λ v p xs stall hv hp. whole v p xs stall hv hp;
  further = λ v p k xs stall hv hp later.
      let n = most_cycles v p stall (length xs) + 1 in
      let z : n + (k - n) ≡ k = omega arith in
      sym (ap (λ m. turns v p stall m (begun xs)) z) ∙ turns_stay v p stall n (k - n) (begun xs) (over_in_time v p stall xs hv hp);
  cycles = λ v p xs hv hp. (counted v p xs hv hp).time;
  stalls = λ v p xs hv hp. (let w = counted v p xs hv hp in let t = w.time in let n = w.cycles in omega arith);
}
