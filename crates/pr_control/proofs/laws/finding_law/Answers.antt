use Rattle.std.proofs.Common.{◌-◌, ◌%◌, sym, ◌∙◌}
use Rattle.pr_control.proofs.Residence.{evicted, evicted_none, evicted_line}
use Rattle.pr_control.proofs.ResidentLaws.{occupant_resides, resides_occupant}
use Rattle.pr_control.proofs.laws.finding_law.Goals as goal

pub returns : goal.returns
returns c = record {
  found = λ v p t h hp k. occupant_resides v p (t % p) t ((t - p) % v) (evicted v p t h hp k);
  none_yet = λ v p t s h hp k r. let z = sym (resides_occupant v p (t % p) t s r) ∙ evicted_none v p t h hp k in cc;
  never = λ v p t s h r. let z = sym (resides_occupant v p t t s r) ∙ evicted_line v p t h in cc;
}
