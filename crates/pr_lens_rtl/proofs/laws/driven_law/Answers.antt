use Rattle.std.proofs.Common.{◌≡◌, ◌≤◌, ℕ, ◌^◌, Bool, true, arith}
use Rattle.pr_lens_rtl.specs.declared.vectors.Net.{Net}
use Rattle.pr_conf.specs.Shape.{Shape}
use Rattle.pr_conf.specs.Rules.{IsLawful}
use Rattle.pr_lens_rtl.specs.Module.{module_of}
use Rattle.pr_lens_rtl.specs.Kept.{kept}
use Rattle.pr_code.specs.Spelling.{has_bytes}
use Rattle.pr_lens_rtl.proofs.KeptLaws.{driven_kept, end_kept}
use Rattle.pr_lens_rtl.proofs.OrderLaws.{driven_end, driven_law}
use Rattle.pr_lens_rtl.proofs.DrivenLaws.{once_law, inside_law, numbers_law, few_taps}
use Rattle.pr_lens_rtl.proofs.laws.driven_law.Goals as goal

end_below : (N P : ℕ) (c : Shape) (lawful : IsLawful N P c) (bytes : has_bytes c ≡ true) (K : Net → Bool) → (driven_kept K (module_of N P c) (driven_law N P c lawful bytes)).end ≤ 2 ^ 32
end_below N P c lawful bytes K = omega (arith, few_taps N P c.outputs lawful.outputs, end_kept K (module_of N P c) (driven_law N P c lawful bytes), driven_end N P c lawful bytes)

pub returns : goal.returns
returns c = record {
  once = λ N P s lawful bytes K. once_law (kept K (module_of N P s)) (driven_kept K (module_of N P s) (driven_law N P s lawful bytes));
  inside = λ N P s lawful bytes K. inside_law (kept K (module_of N P s)) (driven_kept K (module_of N P s) (driven_law N P s lawful bytes));
  numbers = λ N P s lawful bytes K. numbers_law (kept K (module_of N P s)) (driven_kept K (module_of N P s) (driven_law N P s lawful bytes)) (2 ^ 32) (end_below N P s lawful bytes K);
}
