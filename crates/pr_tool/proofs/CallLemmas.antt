-- What follows of what a call comes to.
use Rattle.std.proofs.Common.{◌≡◌, ◌⊎◌, ℕ, List, Option, Some, None, refl, sym, ◌∙◌, subst, inl, inr}
use Rattle.pr_edge.specs.Count.{Rose}
use Rattle.pr_tool_words.specs.Lawful.{Order}
use Rattle.pr_tool_answers.specs.declared.answers.Answer.{Answer}
use Rattle.pr_tool_answers.specs.Owed.{IsOwed}
use Rattle.pr_tool_answers.proofs.OwedLemmas.{owed_read}
use Rattle.pr_tool_modes.specs.declared.benches.Bench.{Bench}
use Rattle.pr_tool_modes.specs.declared.targets.Target.{Target}
use Rattle.pr_tool_modes.specs.Calls.{Call}
use Rattle.pr_tool_modes.specs.Executions.{HasCome}
use Rattle.pr_tool_modes.specs.Jobs.{Job}
use Rattle.pr_tool_modes.specs.Lines.{AreProgramLines}
use Rattle.pr_tool_modes.specs.Sources.{ConfSource, File, Text, Mark}
use Rattle.pr_tool_modes.proofs.TextVerdicts.{text_owed, one_text, text_fault, text_memory, text_write, text_usage, text_bytes}
use Rattle.pr_tool_modes.proofs.EvalVerdicts.{eval_owed, one_eval, eval_fault, eval_memory, eval_write, eval_usage}
use Rattle.pr_tool_modes.proofs.RunVerdicts.{run_owed, one_run, run_fault, run_memory, run_write, run_usage}
use Rattle.pr_tool_modes.proofs.GenVerdicts.{gen_owed, one_gen, gen_fault, gen_memory, gen_write, gen_usage}
use Rattle.pr_tool_modes.proofs.FoldVerdicts.{fold_owed, fold_fault, fold_write, fold_memory, fold_usage, fold_bytes, extend_owed, extend_fault, extend_write, extend_memory, extend_usage, extend_bytes}
use Rattle.pr_tool_modes.proofs.MoveVerdicts.{move_owed, one_move, move_fault, move_write, move_memory, move_usage, move_lines}
use Rattle.pr_tool_share.proofs.ShareVerdicts.{share_owed, one_share}
use Rattle.pr_tool_share.proofs.ShareAnswers.{share_fault, share_write, share_memory, share_usage}
use Rattle.pr_tool_share.proofs.SharedLines.{share_lines}
use Rattle.pr_tool_modes.proofs.LinesLemmas.{eval_lines, configuration_lines, program_lines}
use Rattle.pr_tool.specs.Requests.{Request, Texts, Runs, Folds, Moves, Extends, Evaluates, Generates, Shares, request_of}
use Rattle.pr_tool.specs.Words.{Asked}
use Rattle.pr_tool.specs.Calls.{IsUnchanged, IsDone, IsCalled, AreLines, HasGained, IsRequestVerdict, IsVerdict, IsToldVerdict}

-- ---- requests
done_owed : (files : List ℕ → Option (List ℕ)) (request : Request) (k : Call) (was bench : Bench) (a : Answer) → k.before.told ≡ Some files → IsDone request k was bench a
    → IsOwed (IsRequestVerdict files request) k.before.faults k.now.faults k.out_before k.out_now a
done_owed files (Texts form source) k was bench a told done = text_owed files form source k a told done.0
done_owed files (Runs j) k was bench a told done = run_owed files j k was bench a told done
done_owed files (Folds j) k was bench a told done = fold_owed files j k a told done.0
done_owed files (Moves r) k was bench a told done = move_owed files r k was bench a told done
done_owed files (Extends r) k was bench a told done = extend_owed files r k a told done.0
done_owed files (Evaluates first second) k was bench a told done = eval_owed files first second k a told done.0
done_owed files (Generates g) k was bench a told done = gen_owed g k.old k.new k.before.faults k.now.faults k.out_before k.out_now was bench a done
done_owed files (Shares list stripes) k was bench a told done = share_owed files list stripes k a told done.0

done_fault : (request : Request) (k : Call) (was bench : Bench) (a : Answer) → IsDone request k was bench a → a ≡ Answer.ReadFault → k.before.told ≡ None → Rose k.before.faults k.now.faults
done_fault (Texts form source) k was bench a done is untold = text_fault form source k a done.0 is untold
done_fault (Runs j) k was bench a done is untold = run_fault j k was bench a done is untold
done_fault (Folds j) k was bench a done is untold = fold_fault j k a done.0 is untold
done_fault (Moves r) k was bench a done is untold = move_fault r k was bench a done is untold
done_fault (Extends r) k was bench a done is untold = extend_fault r k a done.0 is untold
done_fault (Evaluates first second) k was bench a done is untold = eval_fault first second k a done.0 is untold
done_fault (Generates g) k was bench a done is untold = absurd (gen_fault g k.old k.new k.out_before k.out_now was bench a done is)
done_fault (Shares list stripes) k was bench a done is untold = share_fault list stripes k a done.0 is untold

done_write : (request : Request) (k : Call) (was bench : Bench) (a : Answer) → IsDone request k was bench a → a ≡ Answer.WriteFault → Rose k.out_before k.out_now
done_write (Texts form source) k was bench a done is = text_write form source k a done.0 is
done_write (Runs j) k was bench a done is = run_write j k was bench a done is
done_write (Folds j) k was bench a done is = fold_write j k a done.0 is
done_write (Moves r) k was bench a done is = move_write r k was bench a done is
done_write (Extends r) k was bench a done is = extend_write r k a done.0 is
done_write (Evaluates first second) k was bench a done is = eval_write first second k a done.0 is
done_write (Generates g) k was bench a done is = gen_write g k.old k.new k.out_before k.out_now was bench a done is
done_write (Shares list stripes) k was bench a done is = share_write list stripes k a done.0 is

done_memory : (request : Request) (k : Call) (was bench : Bench) (a : Answer) → IsDone request k was bench a → a ≡ Answer.Memory → (k.new ≡ k.old) × (bench ≡ was)
done_memory (Texts form source) k was bench a done is = (text_memory form source k a done.0 is, done.1)
done_memory (Runs j) k was bench a done is = run_memory j k was bench a done is
done_memory (Folds j) k was bench a done is = (fold_memory j k a done.0 is, done.1)
done_memory (Moves r) k was bench a done is = move_memory r k was bench a done is
done_memory (Extends r) k was bench a done is = (extend_memory r k a done.0 is, done.1)
done_memory (Evaluates first second) k was bench a done is = (eval_memory first second k a done.0 is, done.1)
done_memory (Generates g) k was bench a done is = gen_memory g k.old k.new k.out_before k.out_now was bench a done is
done_memory (Shares list stripes) k was bench a done is = (share_memory list stripes k a done.0 is, done.1)

done_usage : (request : Request) (k : Call) (was bench : Bench) (a : Answer) → IsDone request k was bench a → a ≡ Answer.Usage → ⊥
done_usage (Texts form source) k was bench a done is = text_usage form source k a done.0 is
done_usage (Runs j) k was bench a done is = run_usage j k was bench a done is
done_usage (Folds j) k was bench a done is = fold_usage j k a done.0 is
done_usage (Moves r) k was bench a done is = move_usage r k was bench a done is
done_usage (Extends r) k was bench a done is = extend_usage r k a done.0 is
done_usage (Evaluates first second) k was bench a done is = eval_usage first second k a done.0 is
done_usage (Generates g) k was bench a done is = gen_usage g k.old k.new k.out_before k.out_now was bench a done is
done_usage (Shares list stripes) k was bench a done is = share_usage list stripes k a done.0 is

-- memory wanted before anything was done
memory_lines : (files : List ℕ → Option (List ℕ)) (j : Job) (source : ConfSource) (k : Call) (was bench : Bench) → IsUnchanged k was bench → AreLines files j source k was bench Answer.Memory
memory_lines files j (File name) k was bench same = record { unwritten = same.unwritten; kept = same.kept }
memory_lines files j (Mark name count) k was bench same = record { unwritten = same.unwritten; kept = same.kept }
memory_lines files j (Text name target) k was bench same = record { unwritten = same.unwritten; kept = same.kept }

memory_gained : (files : List ℕ → Option (List ℕ)) (request : Request) (k : Call) (was bench : Bench) → IsUnchanged k was bench → HasGained files request k was bench Answer.Memory
memory_gained files (Texts form source) k was bench same = (same.unwritten, same.kept)
memory_gained files (Runs j) k was bench same = memory_lines files j j.source k was bench same
memory_gained files (Folds j) k was bench same = (same.unwritten, same.kept)
memory_gained files (Moves r) k was bench same = (0, record { unwritten = same.unwritten; kept = same.kept })
memory_gained files (Extends r) k was bench same = ((0, same.unwritten), same.kept)
memory_gained files (Evaluates first second) k was bench same = (same.unwritten, same.kept)
memory_gained files (Generates g) k was bench same = record { unwritten = same.unwritten; kept = same.kept }
memory_gained files (Shares list stripes) k was bench same = (same.unwritten, same.kept)

source_lines : (files : List ℕ → Option (List ℕ)) (j : Job) (source : ConfSource) (k : Call) (was bench : Bench) (a : Answer) → j.source ≡ source → k.before.told ≡ Some files → HasCome j k was bench a → AreLines files j source k was bench a
source_lines files j (File name) k was bench a is told done = configuration_lines files j k was bench a told done
source_lines files j (Mark name count) k was bench a is told done = configuration_lines files j k was bench a told done
source_lines files j (Text name target) k was bench a is told done = program_lines files j name target k was bench a is told done

done_gained : (files : List ℕ → Option (List ℕ)) (request : Request) (k : Call) (was bench : Bench) (a : Answer) → k.before.told ≡ Some files → IsDone request k was bench a → HasGained files request k was bench a
done_gained files (Texts form source) k was bench a told done = (text_bytes files form source k a told done.0, done.1)
done_gained files (Runs j) k was bench a told done = source_lines files j j.source k was bench a refl told done
done_gained files (Folds j) k was bench a told done = (fold_bytes files j k a told done.0, done.1)
done_gained files (Moves r) k was bench a told done = move_lines files r k was bench a told done
done_gained files (Extends r) k was bench a told done = (extend_bytes files r k a told done.0, done.1)
done_gained files (Evaluates first second) k was bench a told done = (eval_lines files first second k a told done.0, done.1)
done_gained files (Generates g) k was bench a told done = done
done_gained files (Shares list stripes) k was bench a told done = (share_lines files list stripes k a told done.0, done.1)

-- ---- calls
-- by what was asked for
called_request : (asked : Asked) (order : Order) (k : Call) (was bench : Bench) (a : Answer) → asked ≡ Some order → IsCalled asked k was bench a → ((a ≡ Answer.Memory) × IsUnchanged k was bench) ⊎ IsDone (request_of order) k was bench a
called_request asked order k was bench a is h = subst (λ (x : Asked). IsCalled x k was bench a) is h

pub called_owed : (files : List ℕ → Option (List ℕ)) (asked : Asked) (k : Call) (was bench : Bench) (a : Answer) → k.before.told ≡ Some files → IsCalled asked k was bench a
    → IsOwed (IsVerdict files asked) k.before.faults k.now.faults k.out_before k.out_now a
called_owed files None k was bench a told (inl usage, same) = inl usage
called_owed files None k was bench a told (inr memory, same) = inr (inr (inr memory))
called_owed files (Some order) k was bench a told (inl memory) = inr (inr (inr memory.0))
called_owed files (Some order) k was bench a told (inr done) = done_owed files (request_of order) k was bench a told done

untold_fault : (asked : Asked) (k : Call) (was bench : Bench) (a : Answer) → IsCalled asked k was bench a → a ≡ Answer.ReadFault → k.before.told ≡ None → Rose k.before.faults k.now.faults
untold_fault None k was bench a (inl usage, same) is untold = absurd (let no : Answer.ReadFault ≡ Answer.Usage = sym is ∙ usage in cc)
untold_fault None k was bench a (inr memory, same) is untold = absurd (let no : Answer.ReadFault ≡ Answer.Memory = sym is ∙ memory in cc)
untold_fault (Some order) k was bench a (inl memory) is untold = absurd (let no : Answer.ReadFault ≡ Answer.Memory = sym is ∙ memory.0 in cc)
untold_fault (Some order) k was bench a (inr done) is untold = done_fault (request_of order) k was bench a done is untold

-- where the files are told the verdict tells a read fault, and where they are not a count does
pub called_fault : (asked : Asked) (k : Call) (was bench : Bench) (a : Answer) → IsCalled asked k was bench a → a ≡ Answer.ReadFault → IsToldVerdict k.before.told asked a ⊎ Rose k.before.faults k.now.faults
called_fault asked k was bench a h is = elim k.before.told as (λ t. k.before.told ≡ t → IsToldVerdict t asked a ⊎ Rose k.before.faults k.now.faults) [
  | None ↦ λ untold. inr (untold_fault asked k was bench a h is untold)
  | Some files ↦ λ told. owed_read (IsVerdict files asked) k.before.faults k.now.faults k.out_before k.out_now a is (called_owed files asked k was bench a told h)
] refl

pub called_write : (asked : Asked) (k : Call) (was bench : Bench) (a : Answer) → IsCalled asked k was bench a → a ≡ Answer.WriteFault → Rose k.out_before k.out_now
called_write None k was bench a (inl usage, same) is = absurd (let no : Answer.WriteFault ≡ Answer.Usage = sym is ∙ usage in cc)
called_write None k was bench a (inr memory, same) is = absurd (let no : Answer.WriteFault ≡ Answer.Memory = sym is ∙ memory in cc)
called_write (Some order) k was bench a (inl memory) is = absurd (let no : Answer.WriteFault ≡ Answer.Memory = sym is ∙ memory.0 in cc)
called_write (Some order) k was bench a (inr done) is = done_write (request_of order) k was bench a done is

pub called_memory : (asked : Asked) (k : Call) (was bench : Bench) (a : Answer) → IsCalled asked k was bench a → a ≡ Answer.Memory → (k.new ≡ k.old) × (bench ≡ was)
called_memory None k was bench a (h, same) is = (same.unwritten, same.kept)
called_memory (Some order) k was bench a (inl memory) is = (memory.1.unwritten, memory.1.kept)
called_memory (Some order) k was bench a (inr done) is = done_memory (request_of order) k was bench a done is

-- no request answers Usage
pub called_wrong : (asked : Asked) (k : Call) (was bench : Bench) (a : Answer) → IsCalled asked k was bench a → asked ≡ None → (a ≡ Answer.Usage) ⊎ (a ≡ Answer.Memory)
called_wrong None k was bench a h e = h.0
called_wrong (Some order) k was bench a h e = absurd (let no : Some order ≡ None = e in cc)

pub called_gained : (files : List ℕ → Option (List ℕ)) (asked : Asked) (order : Order) (k : Call) (was bench : Bench) (a : Answer) → k.before.told ≡ Some files → asked ≡ Some order → IsCalled asked k was bench a → HasGained files (request_of order) k was bench a
called_gained files asked order k was bench a told is h = elim (called_request asked order k was bench a is h) [
  | inl memory ↦ subst (HasGained files (request_of order) k was bench) (sym memory.0) (memory_gained files (request_of order) k was bench memory.1)
  | inr done ↦ done_gained files (request_of order) k was bench a told done
]

-- the lines of a run of a program
pub called_lines : (files : List ℕ → Option (List ℕ)) (asked : Asked) (order : Order) (j : Job) (name : List ℕ) (target : Target) (k : Call) (was bench : Bench) (a : Answer) → k.before.told ≡ Some files → asked ≡ Some order
    → request_of order ≡ Runs j → j.source ≡ Text name target → IsCalled asked k was bench a → AreProgramLines files j k was bench a
called_lines files asked order j name target k was bench a told is request source h =
    let gained = subst (λ (p : Request). HasGained files p k was bench a) request (called_gained files asked order k was bench a told is h) in
    subst (λ (s : ConfSource). AreLines files j s k was bench a) source gained

pub called_usage : (asked : Asked) (k : Call) (was bench : Bench) (a : Answer) → IsCalled asked k was bench a → a ≡ Answer.Usage → asked ≡ None
called_usage None k was bench a h e = refl
called_usage (Some order) k was bench a (inl memory) e = absurd (let no : Answer.Usage ≡ Answer.Memory = sym e ∙ memory.0 in cc)
called_usage (Some order) k was bench a (inr done) e = absurd (done_usage (request_of order) k was bench a done e)

-- ---- one verdict
one_request : (files : List ℕ → Option (List ℕ)) (request : Request) (a b : Answer) → IsRequestVerdict files request a → IsRequestVerdict files request b → a ≡ b
one_request files (Texts form source) a b is by = one_text files source a b is by
one_request files (Runs j) a b is by = one_run files j a b is by
one_request files (Folds j) a b is by = one_run files j a b is by
one_request files (Moves r) a b is by = one_move files r a b is by
one_request files (Extends r) a b is by = one_move files r a b is by
one_request files (Evaluates first second) a b is by = one_eval files first second a b is by
one_request files (Generates g) a b is by = one_gen g a b is by
one_request files (Shares list stripes) a b is by = one_share files list a b is by

pub one_answer : (files : List ℕ → Option (List ℕ)) (asked : Asked) (a b : Answer) → IsVerdict files asked a → IsVerdict files asked b → a ≡ b
one_answer files None a b is by = is ∙ sym by
one_answer files (Some order) a b is by = one_request files (request_of order) a b is by
