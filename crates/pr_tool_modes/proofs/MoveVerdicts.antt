-- What comes of a run that goes on from a checkpoint, and the verdict on it.
use Rattle.std.proofs.Common.{◌≡◌, ◌∙◌, ◌++◌, ℕ, List, All, [], false, Option, Some, None, refl, sym, ap, subst, inl, inr}
use Rattle.std.proofs.lemmas.List.{map-append}
use Rattle.std.proofs.lemmas.List.Elements.{All-append}
use Rattle.pr_base.specs.Rows.{IsRow, row_bytes, written}
use Rattle.pr_conf.specs.Shape.{Shape}
use Rattle.pr_conf.specs.After.{conf_after}
use Rattle.pr_conf.specs.Through.{result_numbers}
use Rattle.pr_edge.specs.Count.{Rose}
use Rattle.pr_tool_answers.specs.declared.answers.Answer.{Answer}
use Rattle.pr_tool_answers.specs.Owed.{IsOwed}
use Rattle.pr_tool_answers.proofs.OwedLemmas.{owed_by}
use Rattle.pr_tool_modes.specs.declared.benches.Bench.{Bench}
use Rattle.pr_tool_modes.specs.declared.targets.Target.{Target}
use Rattle.pr_tool_modes.specs.Calls.{Call}
use Rattle.pr_tool_modes.specs.Executions.{IsRunVerdict}
use Rattle.pr_tool_modes.specs.Jobs.{job, Resumption, resumed}
use Rattle.pr_tool_modes.specs.Resumptions.{HasMoved, AreMovedLines, IsMoveVerdict, GoesOn}
use Rattle.pr_tool_modes.specs.Samples.{pieces}
use Rattle.pr_tool_modes.specs.Sources.{Text, Mark, Gives}
use Rattle.pr_move.proofs.MovingLemmas.{lines_after}
use Rattle.pr_tool_modes.proofs.LinesLemmas.{configuration_lines, program_in}
use Rattle.pr_tool_modes.proofs.RunVerdicts.{run_owed, one_run, run_fault, run_memory, run_write, run_usage}
use Rattle.pr_tool_modes.proofs.SourceLemmas.{one_source, never_source, one_count}

pub move_owed : (files : List ℕ → Option (List ℕ)) (r : Resumption) (k : Call) (was bench : Bench) (a : Answer) → k.before.told ≡ Some files → HasMoved r k was bench a
    → IsOwed (IsMoveVerdict files r) k.before.faults k.now.faults k.out_before k.out_now a
move_owed files r k was bench a told (count, come) =
    owed_by (IsRunVerdict files (resumed r count)) (IsMoveVerdict files r) k.before.faults k.now.faults k.out_before k.out_now a (λ is. (count, is)) (run_owed files (resumed r count) k was bench a told come)

-- a checkpoint has one count, and so there is one verdict at most
pub one_move : (files : List ℕ → Option (List ℕ)) (r : Resumption) (a b : Answer) → IsMoveVerdict files r a → IsMoveVerdict files r b → a ≡ b
one_move files r a b (m, inl is) (n, inl by) = one_source files (Mark r.name m) a b is by
one_move files r a b (m, inl is) (n, inr by) = absurd (never_source files (Mark r.name n) a by.N by.P by.conf by.gives is)
one_move files r a b (m, inr is) (n, inl by) = absurd (never_source files (Mark r.name m) b is.N is.P is.conf is.gives by)
one_move files r a b (m, inr is) (n, inr by) =
    let same : m ≡ n = one_count files r.name m n is.N is.P by.N by.P is.conf by.conf is.gives by.gives in
    one_run files (resumed r m) a b (inr is) (subst (λ (count : ℕ). IsRunVerdict files (resumed r count) b) (sym same) (inr by))

-- ---- single answers
pub move_fault : (r : Resumption) (k : Call) (was bench : Bench) (a : Answer) → HasMoved r k was bench a → a ≡ Answer.ReadFault → k.before.told ≡ None → Rose k.before.faults k.now.faults
move_fault r k was bench a (count, come) is untold = run_fault (resumed r count) k was bench a come is untold

pub move_memory : (r : Resumption) (k : Call) (was bench : Bench) (a : Answer) → HasMoved r k was bench a → a ≡ Answer.Memory → (k.new ≡ k.old) × (bench ≡ was)
move_memory r k was bench a (count, come) is = run_memory (resumed r count) k was bench a come is

pub move_write : (r : Resumption) (k : Call) (was bench : Bench) (a : Answer) → HasMoved r k was bench a → a ≡ Answer.WriteFault → Rose k.out_before k.out_now
move_write r k was bench a (count, come) is = run_write (resumed r count) k was bench a come is

pub move_usage : (r : Resumption) (k : Call) (was bench : Bench) (a : Answer) → HasMoved r k was bench a → a ≡ Answer.Usage → ⊥
move_usage r k was bench a (count, come) is = run_usage (resumed r count) k was bench a come is

-- ---- what is written
pub move_lines : (files : List ℕ → Option (List ℕ)) (r : Resumption) (k : Call) (was bench : Bench) (a : Answer) → k.before.told ≡ Some files → HasMoved r k was bench a → AreMovedLines files r k was bench a
move_lines files r k was bench a told (count, come) = (count, configuration_lines files (resumed r count) k was bench a told come)

-- ---- a program that goes on
pub goes_on : (files : List ℕ → Option (List ℕ)) (name : List ℕ) (target : Target) (N P : ℕ) (conf : Shape) (xs ys : List (List ℕ)) → Gives (Some files) (Text name target) N P conf
    → All (IsRow conf.inputs) xs → All (IsRow conf.inputs) ys → GoesOn files name N P conf xs ys
goes_on files name target N P conf xs ys gives first last =
    let p = program_in files (job (Text name target) [] None 2 false) name target N P conf refl gives in
    let all = All-append (IsRow conf.inputs) xs ys first last in
    let parts : pieces conf (xs ++ ys) ≡ pieces conf xs ++ pieces conf ys = map-append (row_bytes conf.inputs) xs ys in
    record {
      program = p.program;
      widths = p.widths;
      has = p.has;
      lines = ap written (sym (p.means.numbers (xs ++ ys) all))
          ∙ (ap (λ (zs : List (List ℕ)). written (result_numbers N P conf zs)) parts
          ∙ (lines_after N P conf (pieces conf xs) (pieces conf ys)
          ∙ ap (λ (rows : List (List ℕ)). written rows ++ written (result_numbers N P (conf_after N P conf (pieces conf xs)) (pieces conf ys))) (p.means.numbers xs first)));
    }
