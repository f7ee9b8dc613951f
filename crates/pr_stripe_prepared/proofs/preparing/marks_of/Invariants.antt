use Rattle.std.proofs.Common.{◌≡◌, ◌+◌, ◌*◌, ◌/◌, ◌%◌, ◌<◌, ◌==◌, ℕ, get_or, vec_len, if◌then◌else◌}
use Rattle.pr_conf.specs.declared.pes.Pe.{Pe}
use Rattle.pr_stripe_prepared.proofs.preparing.marks_of.Given as goal

abbrev pub invariant-loop-reg : goal.invariant-loop-reg
invariant-loop-reg l = record {
  long : vec_len l.marks ≡ l.reg * 16;
  each : (j : ℕ) (d : Pe) → j < l.reg * 16 → get_or l.marks.items j 0 ≡ (if (get_or l.pes (j % 16) d).write == j / 16 + 1 then 255 else 0);
}

abbrev pub invariant-loop-pe : goal.invariant-loop-pe
invariant-loop-pe l = record {
  long : vec_len l.marks ≡ l.reg * 16 + l.pe-index;
  each : (j : ℕ) (d : Pe) → j < l.reg * 16 + l.pe-index → get_or l.marks.items j 0 ≡ (if (get_or l.pes (j % 16) d).write == j / 16 + 1 then 255 else 0);
}
