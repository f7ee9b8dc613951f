use Rattle.std.proofs.Common.{◌≡◌, ℕ, Bool, true, not, ◌||◌, List, ◌++◌, refl, ap, ap₂, ◌∙◌, sym, ◌≤◌, length, arith}
use Rattle.pr_conf.specs.Shape.{Shape}
use Rattle.pr_conf.specs.Rules.{IsLawful}
use Rattle.pr_conf.specs.Through.{results_of}
use Rattle.pr_lens_rtl.specs.declared.vectors.Net.{Net}
use Rattle.pr_lens_rtl.specs.Verilog.{Values, IsSettled}
use Rattle.pr_lens_rtl.specs.Module.{module_of}
use Rattle.pr_lens_rtl.specs.Kept.{kept, IsClosed}
use Rattle.pr_code.specs.Spelling.{has_bytes}
use Rattle.pr_lens_rtl.specs.Traces.{is_one, samples_in, results_in, IsRunFromReset, end_of, offers_none, ready_clocks, IsReadyForMore}
use Rattle.pr_lens_rtl.proofs.TraceLaws.{trace_law, whole_law, more_law}
use Rattle.pr_lens_rtl.proofs.KeptLaws.{driven_kept, settles_law, next_law, whole_settled, whole_run, whole_more}
use Rattle.pr_lens_rtl.proofs.OrderLaws.{driven_law}
use Rattle.pr_lens_rtl.proofs.MarksLaws.{closed_law}
use Rattle.pr_lens_rtl.proofs.laws.kept_law.Goals as goal

kept_trace : (N P : ℕ) (c : Shape) → IsLawful N P c → has_bytes c ≡ true → (K : Net → Bool) → IsClosed K (module_of N P c)
    → (first now : Values) (rest : List Values) → IsRunFromReset (kept K (module_of N P c)) first now rest
    → (more : List (List ℕ)) × (results_of N P c (samples_in c now rest) ≡ results_in c now rest ++ more)
kept_trace N P c lawful bytes K closed first now rest h =
    let w = whole_run K (module_of N P c) (driven_law N P c lawful bytes) closed c first now rest h in
    let t = trace_law N P c lawful bytes w.0 w.1 w.2 w.3 in
    (t.0, ap (results_of N P c) (sym w.4) ∙ t.1 ∙ ap (λ q. q ++ t.0) w.5)

kept_all : (N P : ℕ) (c : Shape) → IsLawful N P c → has_bytes c ≡ true → (K : Net → Bool) → IsClosed K (module_of N P c)
    → (first now : Values) (rest more : List Values) → IsRunFromReset (kept K (module_of N P c)) first now (rest ++ more)
    → offers_none (end_of now rest) more ≡ true → length c.stages ≤ ready_clocks (end_of now rest) more
    → results_in c now (rest ++ more) ≡ results_of N P c (samples_in c now rest)
kept_all N P c lawful bytes K closed first now rest more h none long =
    let w = whole_more K (module_of N P c) (driven_law N P c lawful bytes) closed c first now rest more h in
    sym w.6 ∙ whole_law N P c lawful bytes w.0 w.1 w.2 w.3 w.4 (w.7 ∙ none) (let e = w.8 in omega (arith, e, long)) ∙ ap (results_of N P c) w.5

kept_ready : (N P : ℕ) (c : Shape) → IsLawful N P c → has_bytes c ≡ true → (K : Net → Bool) → IsClosed K (module_of N P c) → (now : Values) → IsSettled (kept K (module_of N P c)) now → IsReadyForMore now
kept_ready N P c lawful bytes K closed now s =
    let w = whole_settled K (module_of N P c) (driven_law N P c lawful bytes) closed now s in
    ap is_one (sym (w.2 Net.InReady refl)) ∙ more_law N P c lawful bytes w.0 w.1
    ∙ ap₂ (λ v r. not (is_one v) || is_one r) (w.2 Net.OutValid refl) (w.2 Net.OutReady refl)

pub returns : goal.returns
returns c = record {
  closed = λ N P s lawful bytes. closed_law N P s lawful bytes;
  trace = λ N P s lawful bytes K closed first now rest h. kept_trace N P s lawful bytes K closed first now rest h;
  all = λ N P s lawful bytes K closed first now rest more h none long. kept_all N P s lawful bytes K closed first now rest more h none long;
  ready = λ N P s lawful bytes K closed now settled. kept_ready N P s lawful bytes K closed now settled;
  settles = λ N P s lawful bytes K first fit. settles_law (kept K (module_of N P s)) (driven_kept K (module_of N P s) (driven_law N P s lawful bytes)) first fit;
  next = λ N P s lawful bytes K now ports settled fit. next_law (kept K (module_of N P s)) (driven_kept K (module_of N P s) (driven_law N P s lawful bytes)) now ports settled fit;
}
