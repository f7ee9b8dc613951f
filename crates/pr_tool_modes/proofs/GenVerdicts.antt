-- What follows of what a generated run comes to, and the verdict on it.
use Rattle.std.proofs.Common.{◌≡◌, ◌⊎◌, ◌∙◌, ℕ, false, refl, sym, ap, inl, inr, true≢false}
use Rattle.pr_edge.specs.Count.{Rose}
use Rattle.pr_edge.specs.Tape.{Tape}
use Rattle.pr_run.specs.Turns.{Going}
use Rattle.pr_samples.specs.Fed.{Ending, End, BadSample, Limit}
use Rattle.pr_tool_answers.specs.declared.answers.Answer.{Answer}
use Rattle.pr_tool_answers.specs.Owed.{IsOwed}
use Rattle.pr_tool_modes.specs.declared.benches.Bench.{Bench}
use Rattle.pr_tool_modes.specs.Generations.{Generation, generated, job_for, HasGenerated, IsGenVerdict, IsGenerated}
use Rattle.pr_tool_modes.specs.Samples.{ended_by}
use Rattle.pr_tool_modes.proofs.ReasonLemmas.{refuses, compile_refuses}
use Rattle.pr_tool_modes.proofs.RunVerdicts.{one_run}

-- ---- the verdict
-- a run that was told of is a good one
gen_good : {N P : ℕ} (g : Generation) (put : _) (machine : Going N P) → HasGenerated g put machine → IsGenVerdict g Answer.Ok
gen_good {N} {P} g put machine has = inr (record { N = N; P = P; conf = has.conf; gives = has.gives; last = sym (ap ended_by has.ends) })

-- an answer of another kind is none of its verdicts
gen_never : (g : Generation) (a b : Answer) → IsGenVerdict g a → a ≡ b → refuses b ≡ false → ((e : Ending) → ended_by e ≡ b → ⊥) → ⊥
gen_never g a b (inl (inl (is, missing))) same off ended = cc
gen_never g a b (inl (inr (inl (is, long)))) same off ended = true≢false (ap refuses (sym is ∙ same) ∙ off)
gen_never g a b (inl (inr (inr bad))) same off ended = true≢false (sym (compile_refuses _ _ _ bad.text a bad.refused) ∙ (ap refuses same ∙ off))
gen_never g a b (inr is) same off ended = ended _ (sym is.last ∙ same)

not_fault : (e : Ending) → ended_by e ≡ Answer.ReadFault → ⊥
not_fault End is = cc
not_fault (BadSample line) is = cc
not_fault (Limit cap) is = cc

not_write : (e : Ending) → ended_by e ≡ Answer.WriteFault → ⊥
not_write End is = cc
not_write (BadSample line) is = cc
not_write (Limit cap) is = cc

not_usage : (e : Ending) → ended_by e ≡ Answer.Usage → ⊥
not_usage End is = cc
not_usage (BadSample line) is = cc
not_usage (Limit cap) is = cc

pub one_gen : (g : Generation) (a b : Answer) → IsGenVerdict g a → IsGenVerdict g b → a ≡ b
one_gen g a b is by = one_run (generated g.turns) (job_for g) a b is by

-- ---- nothing was put
pub gen_none : (g : Generation) (old : Tape) (ob on : ℕ) (was : Bench) (a : Answer) → (a ≡ Answer.Ok → ⊥) → IsGenVerdict g a ⊎ (a ≡ Answer.Memory) → IsGenerated g old old ob on was was a
gen_none g old ob on was Answer.Ok bad h = absurd (bad refl)
gen_none g old ob on was Answer.WriteFault bad (inl is) = absurd (gen_never g Answer.WriteFault Answer.WriteFault is refl refl not_write)
gen_none g old ob on was Answer.WriteFault bad (inr memory) = absurd (cc)
gen_none g old ob on was Answer.Memory bad h = record { unwritten = refl; kept = refl }
gen_none g old ob on was a bad (inl is) = (is, record { unwritten = refl; kept = refl })
gen_none g old ob on was a bad (inr memory) = absurd (cc)

-- ---- single answers
pub gen_owed : (g : Generation) (old new : Tape) (sb sn ob on : ℕ) (was bench : Bench) (a : Answer) → IsGenerated g old new ob on was bench a → IsOwed (IsGenVerdict g) sb sn ob on a
gen_owed g old new sb sn ob on was (Bench.Base machine) Answer.Ok h = inl (gen_good g _ machine h)
gen_owed g old new sb sn ob on was (Bench.Wide machine) Answer.Ok h = inl (gen_good g _ machine h)
gen_owed g old new sb sn ob on was Bench.Nothing Answer.Ok h = absurd h
gen_owed g old new sb sn ob on was bench Answer.WriteFault h = inr (inr (inl (refl, h.1)))
gen_owed g old new sb sn ob on was bench Answer.Memory h = inr (inr (inr refl))
gen_owed g old new sb sn ob on was bench a h = inl h.0

pub gen_fault : (g : Generation) (old new : Tape) (ob on : ℕ) (was bench : Bench) (a : Answer) → IsGenerated g old new ob on was bench a → a ≡ Answer.ReadFault → ⊥
gen_fault g old new ob on was bench Answer.Ok h is = cc
gen_fault g old new ob on was bench Answer.WriteFault h is = cc
gen_fault g old new ob on was bench Answer.Memory h is = cc
gen_fault g old new ob on was bench a h is = gen_never g a Answer.ReadFault h.0 is refl not_fault

pub gen_usage : (g : Generation) (old new : Tape) (ob on : ℕ) (was bench : Bench) (a : Answer) → IsGenerated g old new ob on was bench a → a ≡ Answer.Usage → ⊥
gen_usage g old new ob on was bench Answer.Ok h is = cc
gen_usage g old new ob on was bench Answer.WriteFault h is = cc
gen_usage g old new ob on was bench Answer.Memory h is = cc
gen_usage g old new ob on was bench a h is = gen_never g a Answer.Usage h.0 is refl not_usage

pub gen_write : (g : Generation) (old new : Tape) (ob on : ℕ) (was bench : Bench) (a : Answer) → IsGenerated g old new ob on was bench a → a ≡ Answer.WriteFault → Rose ob on
gen_write g old new ob on was bench Answer.Ok h is = absurd (cc)
gen_write g old new ob on was bench Answer.WriteFault h is = h.1
gen_write g old new ob on was bench Answer.Memory h is = absurd (cc)
gen_write g old new ob on was bench a h is = absurd (gen_never g a Answer.WriteFault h.0 is refl not_write)

pub gen_memory : (g : Generation) (old new : Tape) (ob on : ℕ) (was bench : Bench) (a : Answer) → IsGenerated g old new ob on was bench a → a ≡ Answer.Memory → (new ≡ old) × (bench ≡ was)
gen_memory g old new ob on was bench Answer.Ok h is = absurd (cc)
gen_memory g old new ob on was bench Answer.WriteFault h is = absurd (cc)
gen_memory g old new ob on was bench Answer.Memory h is = (h.unwritten, h.kept)
gen_memory g old new ob on was bench a h is = (h.1.unwritten, h.1.kept)
