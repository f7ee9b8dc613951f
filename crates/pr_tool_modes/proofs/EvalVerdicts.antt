-- From the parts of an evaluation to what it comes to, and the verdict on it.
use Rattle.std.proofs.Common.{◌≡◌, ◌⊎◌, ◌≤◌, ◌<◌, ℕ, List, length, Option, Some, None, refl, sym, ap, ◌∙◌, subst, inl, inr}
use Rattle.pr_base.specs.declared.caps.Cap.{Cap}
use Rattle.pr_edge.specs.Count.{Rose}
use Rattle.pr_edge.specs.Files.{Told, HasReadCause}
use Rattle.pr_edge.specs.Tape.{Tape, Appends, AppendsFront}
use Rattle.pr_lang.specs.declared.trees.Program.{Program}
use Rattle.pr_lang.specs.Shape.{program_shape}
use Rattle.pr_lang_same_tree.proofs.Walks.{same-inputs}
use Rattle.pr_lang_same_tree.proofs.Meanings.{same-out}
use Rattle.pr_lang_meaning.specs.Programs.{out}
use Rattle.pr_samples.specs.declared.feed.Got.{Got}
use Rattle.pr_samples.specs.Fed.{Fed, Ending, End, BadSample, Limit}
use Rattle.pr_compile_front.specs.declared.fronts.Front.{Front}
use Rattle.pr_compile_front.specs.declared.faults.FrontFault.{FrontFault}
use Rattle.pr_compile_front.specs.declared.faults.FrontFault.TheVariants as front
use Rattle.pr_compile_front.specs.Refusals.{HasWidths, IsAnswer}
use Rattle.pr_compile_front.proofs.OneRefusal.{one-tree}
use Rattle.pr_tool_answers.specs.declared.answers.Answer.{Answer}
use Rattle.pr_tool_answers.specs.Owed.{IsOwed}
use Rattle.pr_tool_answers.proofs.OwedLemmas.{owed_by}
use Rattle.pr_tool_modes.specs.Calls.{Call}
use Rattle.pr_tool_modes.specs.Files.{IsText, ShowsFault, IsUnread, IsFileRefusal, IsRefusedFile}
use Rattle.pr_tool_modes.specs.Programs.{inputs_of, front_answer, IsBadProgram, HasProgram, IsLoaded}
use Rattle.pr_tool_modes.specs.Samples.{fed_in, ended_by, whole_file_verdict}
use Rattle.pr_tool_modes.specs.Evaluations.{HasSamples, IsWhole, IsEnd, IsEvaluated, answer_by, AreResults, IsPut, IsEvalVerdict}
use Rattle.pr_tool_modes.proofs.FedLemmas.{short_fed, long_fed}
use Rattle.pr_tool_modes.proofs.FileLemmas.{cause_earlier, refusal_owed, one_refused, never_refused, refusal_kind}
use Rattle.pr_tool_modes.proofs.ReasonLemmas.{IsKind, kind_never, kind_fault, program_refuses, one_program, never_program}
use Rattle.pr_tool_modes.proofs.RunVerdicts.{untold_rose}

-- ---- the program
-- a fault of the text, or want of memory
pub front_refused : (text : List ℕ) (e : FrontFault) (a : Answer) → IsAnswer text e → a ≡ front_answer e → IsBadProgram text a ⊎ (a ≡ Answer.Memory)
front_refused text (front.Memory e) a is same = inr same
front_refused text (front.Syntax token) a is same = inl (record { fault = front.Syntax token; refused = is; answers = same })
front_refused text (front.Scope rule item) a is same = inl (record { fault = front.Scope rule item; refused = is; answers = same })
front_refused text (front.NoWidth equation) a is same = inl (record { fault = front.NoWidth equation; refused = is; answers = same })
front_refused text (front.Limit which) a is same = inl (record { fault = front.Limit which; refused = is; answers = same })

pub program_of : (told : Told) (name : List ℕ) (f : Front) → IsLoaded told name f → HasProgram told name f.scoped.program f.widths
program_of told name f is = record { text = is.text; file = is.file; short = is.short; has = is.passed.widths }

-- ---- the samples
-- those that were not read whole
pub file_end : (name : List ℕ) (program : Program) (k : Call) (mid : ℕ) (a : Answer) → k.before.faults ≤ mid → IsUnread 16777216 Cap.SampleBytes k.before.told name mid k.now.faults a → k.new ≡ k.old → IsEnd name program k a
file_end name program k mid a le (inl long) same = subst (IsEnd name program k) (sym long.0) (inl (refl, long.1, same))
file_end name program k mid a le (inr (inl read)) same = subst (IsEnd name program k) (sym read.0) (cause_earlier k.before.told name k.before.faults mid k.now.faults le read.1, same)
file_end name program k mid a le (inr (inr memory)) same = subst (IsEnd name program k) (sym memory) same

samples_of : (told : Told) (name widths bytes : List ℕ) (rows : List (List ℕ)) (ending : Ending) → IsText told name bytes → length bytes ≤ 16777216 → rows ≡ (fed_in widths bytes).samples → (fed_in widths bytes).ending ≡ ending → HasSamples told name widths rows ending
samples_of told name widths bytes rows ending file short all ends = record { text = bytes; file = file; short = short; all = all; ends = ends }

whole_of : (told : Told) (name : List ℕ) (program : Program) (bytes text : List ℕ) (end : Got) (ending : Ending) (old new : Tape) → IsText told name bytes → length bytes ≤ 16777216 → (results : AreResults program bytes text end)
    → (fed_in (inputs_of program) bytes).ending ≡ ending → Appends old new text → IsWhole told name program ending old new
whole_of told name program bytes text end ending old new file short results ends put = record {
  rows = results.rows;
  samples = samples_of told name (inputs_of program) bytes results.rows ending file short results.fed.all ends;
  text = subst (λ (t : List ℕ). Appends old new t) results.lines put;
}

all_put : (name : List ℕ) (program : Program) (bytes text : List ℕ) (end : Got) (k : Call) → IsText k.before.told name bytes → length bytes ≤ 16777216 → AreResults program bytes text end → Appends k.old k.new text
    → IsEnd name program k (answer_by end)
all_put name program bytes text Got.Sample k file short results put = absurd results.fed.ends
all_put name program bytes text Got.ReadFault k file short results put = absurd results.fed.ends
all_put name program bytes text Got.End k file short results put = whole_of k.before.told name program bytes text Got.End End k.old k.new file short results results.fed.ends put
all_put name program bytes text (Got.BadSample line) k file short results put = whole_of k.before.told name program bytes text (Got.BadSample line) (BadSample line) k.old k.new file short results results.fed.ends put
all_put name program bytes text (Got.Limit which) k file short results put = inr (whole_of k.before.told name program bytes text (Got.Limit which) (Limit which) k.old k.new file short results results.fed.ends put)

-- results that were to be written
pub put_end : (name : List ℕ) (program : Program) (bytes text : List ℕ) (end : Got) (k : Call) (a : Answer) → IsText k.before.told name bytes → length bytes ≤ 16777216 → AreResults program bytes text end
    → IsPut text end k.old k.new k.out_before k.out_now a → IsEnd name program k a
put_end name program bytes text end k a file short results (inl all) = subst (IsEnd name program k) (sym all.ends) (all_put name program bytes text end k file short results all.whole)
put_end name program bytes text end k a file short results (inr broken) =
    subst (IsEnd name program k) (sym broken.fault) (
      record {
        rows = results.rows;
        ending = (fed_in (inputs_of program) bytes).ending;
        samples = samples_of k.before.told name (inputs_of program) bytes results.rows (fed_in (inputs_of program) bytes).ending file short results.fed.all refl;
        text = subst (λ (t : List ℕ). AppendsFront k.old k.new t) results.lines broken.front;
      },
      broken.rose,
    )

pub evaluated : (first second : List ℕ) (f : Front) (k : Call) (a : Answer) → IsLoaded k.before.told first f → IsEnd second f.scoped.program k a → ShowsFault k.before.faults k.now.faults a → IsEvaluated first second k a
evaluated first second f k a loaded end shown = inr (record { program = f.scoped.program; widths = f.widths; has = program_of k.before.told first f loaded; end = end; shown = shown })

-- ---- the verdict
text_verdict : (widths text : List ℕ) (file : Option (List ℕ)) → file ≡ Some text → length text ≤ 16777216 → whole_file_verdict widths file ≡ ended_by (fed_in widths text).ending
text_verdict widths text file is short = ap (whole_file_verdict widths) is ∙ ap (λ (k : Fed). ended_by k.ending) (short_fed widths text short)

long_verdict : (widths text : List ℕ) (file : Option (List ℕ)) → file ≡ Some text → 16777216 < length text → whole_file_verdict widths file ≡ Answer.Limit Cap.SampleBytes
long_verdict widths text file is long = ap (whole_file_verdict widths) is ∙ ap (λ (k : Fed). ended_by k.ending) (long_fed widths text long)

whole_verdict : (files : List ℕ → Option (List ℕ)) (name widths : List ℕ) (rows : List (List ℕ)) (ending : Ending) → HasSamples (Some files) name widths rows ending → ended_by ending ≡ whole_file_verdict widths (files name)
whole_verdict files name widths rows ending has = ap ended_by (sym has.ends) ∙ sym (text_verdict widths has.text (files name) has.file has.short)

samples_told : (told : Told) (files : List ℕ → Option (List ℕ)) (name widths : List ℕ) (rows : List (List ℕ)) (ending : Ending) → told ≡ Some files → HasSamples told name widths rows ending → HasSamples (Some files) name widths rows ending
samples_told told files name widths rows ending is has = subst (λ (t : Told). HasSamples t name widths rows ending) is has

end_owed : (files : List ℕ → Option (List ℕ)) (second : List ℕ) (program : Program) (k : Call) (a : Answer) → k.before.told ≡ Some files → IsEnd second program k a
    → IsOwed (λ o. o ≡ whole_file_verdict (inputs_of program) (files second)) k.before.faults k.now.faults k.out_before k.out_now a
end_owed files second program k Answer.Ok told end = inl (whole_verdict files second (inputs_of program) end.rows End (samples_told _ files second _ _ _ told end.samples))
end_owed files second program k (Answer.BadSample line) told end = inl (whole_verdict files second (inputs_of program) end.rows (BadSample line) (samples_told _ files second _ _ _ told end.samples))
end_owed files second program k (Answer.Limit which) told (inl long) =
    let file : files second ≡ Some long.1.text = subst (λ (t : Told). IsText t second long.1.text) told long.1.file in
    inl (ap (λ (c : Cap). Answer.Limit c) long.0 ∙ sym (long_verdict (inputs_of program) long.1.text (files second) file long.1.long))
end_owed files second program k (Answer.Limit which) told (inr end) = inl (whole_verdict files second (inputs_of program) end.rows (Limit which) (samples_told _ files second _ _ _ told end.samples))
end_owed files second program k Answer.ReadFault told end =
    elim (subst (λ (t : Told). HasReadCause t second k.before.faults k.now.faults) told end.0) as (λ e. IsOwed (λ o. o ≡ whole_file_verdict (inputs_of program) (files second)) k.before.faults k.now.faults k.out_before k.out_now Answer.ReadFault) [
      | inl missing ↦ inl (sym (ap (whole_file_verdict (inputs_of program)) missing))
      | inr rose ↦ inr (inl (refl, rose))
    ]
end_owed files second program k Answer.WriteFault told end = inr (inr (inl (refl, end.1)))
end_owed files second program k Answer.Memory told end = inr (inr (inr refl))
end_owed files second program k a told end = absurd end

pub eval_owed : (files : List ℕ → Option (List ℕ)) (first second : List ℕ) (k : Call) (a : Answer) → k.before.told ≡ Some files → IsEvaluated first second k a → IsOwed (IsEvalVerdict files first second) k.before.faults k.now.faults k.out_before k.out_now a
eval_owed files first second k a told (inl none) =
    owed_by (IsRefusedFile 1048576 Cap.ProgramBytes IsBadProgram files first) (IsEvalVerdict files first second) k.before.faults k.now.faults k.out_before k.out_now a inl
    (refusal_owed 1048576 Cap.ProgramBytes IsBadProgram files first k.before.faults k.now.faults k.out_before k.out_now a (subst (λ (t : Told). IsFileRefusal 1048576 Cap.ProgramBytes IsBadProgram t first k.before.faults k.now.faults a) told none.cause))
eval_owed files first second k a told (inr has) =
    let program : HasProgram (Some files) first has.program has.widths = subst (λ (t : Told). HasProgram t first has.program has.widths) told has.has in
    owed_by (λ o. o ≡ whole_file_verdict (inputs_of has.program) (files second)) (IsEvalVerdict files first second) k.before.faults k.now.faults k.out_before k.out_now a
    (λ is. inr (record { program = has.program; widths = has.widths; has = program; last = is })) (end_owed files second has.program k a told has.end)

-- ---- one verdict
module _ (files : List ℕ → Option (List ℕ)) (name : List ℕ) where
  same_tree : (p q : Program) (v w : List ℕ) → HasProgram (Some files) name p v → HasProgram (Some files) name q w → program_shape p ≡ program_shape q
  same_tree p q v w one other =
      let same : other.text ≡ one.text = (let both : Some other.text ≡ Some one.text = sym other.file ∙ one.file in cc) in
      one-tree one.text p q v w one.has (subst (λ (x : List ℕ). HasWidths x q w) same other.has)

  never_bad : (a : Answer) (p : Program) (widths : List ℕ) → IsRefusedFile 1048576 Cap.ProgramBytes IsBadProgram files name a → HasProgram (Some files) name p widths → ⊥
  never_bad a p widths is has = never_refused 1048576 Cap.ProgramBytes IsBadProgram files name a has.text is has.file has.short (never_program has.text a p widths has.has)

  pub one_meaning : (p q : Program) (v w : List ℕ) → HasProgram (Some files) name p v → HasProgram (Some files) name q w → (rows : List (List ℕ)) → out p rows ≡ out q rows
  one_meaning p q v w one other rows = same-out p q (same_tree p q v w one other) rows

  pub one_eval : (second : List ℕ) (a b : Answer) → IsEvalVerdict files name second a → IsEvalVerdict files name second b → a ≡ b
  one_eval second a b (inl is) (inl by) = one_refused 1048576 Cap.ProgramBytes IsBadProgram files name one_program a b is by
  one_eval second a b (inl is) (inr by) = absurd (never_bad a by.program by.widths is by.has)
  one_eval second a b (inr is) (inl by) = absurd (never_bad b is.program is.widths by is.has)
  one_eval second a b (inr is) (inr by) =
      let tree = same_tree is.program by.program is.widths by.widths is.has by.has in
      is.last ∙ (ap (λ (ws : List ℕ). whole_file_verdict ws (files second)) (same-inputs is.program by.program tree) ∙ sym by.last)

-- ---- single answers
pub program_kind : (told : Told) (name : List ℕ) (before now : ℕ) (a : Answer) → IsFileRefusal 1048576 Cap.ProgramBytes IsBadProgram told name before now a → IsKind (HasReadCause told name before now) a
program_kind told name before now a is = refusal_kind 1048576 Cap.ProgramBytes IsBadProgram told name before now a refl (λ text h. program_refuses text a h) is

pub eval_fault : (first second : List ℕ) (k : Call) (a : Answer) → IsEvaluated first second k a → a ≡ Answer.ReadFault → k.before.told ≡ None → Rose k.before.faults k.now.faults
eval_fault first second k a (inl none) is untold = untold_rose k.before.told _ _ _ (kind_fault _ a (program_kind k.before.told first k.before.faults k.now.faults a none.cause) is) untold
eval_fault first second k a (inr has) is untold = untold_rose k.before.told _ _ _ (subst (λ (o : Answer). IsEnd second has.program k o) is has.end).0 untold

pub eval_memory : (first second : List ℕ) (k : Call) (a : Answer) → IsEvaluated first second k a → a ≡ Answer.Memory → k.new ≡ k.old
eval_memory first second k a (inl none) is = none.unwritten
eval_memory first second k a (inr has) is = subst (λ (o : Answer). IsEnd second has.program k o) is has.end

pub eval_write : (first second : List ℕ) (k : Call) (a : Answer) → IsEvaluated first second k a → a ≡ Answer.WriteFault → Rose k.out_before k.out_now
eval_write first second k a (inl none) is = absurd (kind_never _ a Answer.WriteFault (program_kind k.before.told first k.before.faults k.now.faults a none.cause) is refl (λ e. cc) (λ e. cc))
eval_write first second k a (inr has) is = (subst (λ (o : Answer). IsEnd second has.program k o) is has.end).1

pub eval_usage : (first second : List ℕ) (k : Call) (a : Answer) → IsEvaluated first second k a → a ≡ Answer.Usage → ⊥
eval_usage first second k a (inl none) is = kind_never _ a Answer.Usage (program_kind k.before.told first k.before.faults k.now.faults a none.cause) is refl (λ e. cc) (λ e. cc)
eval_usage first second k a (inr has) is = subst (λ (o : Answer). IsEnd second has.program k o) is has.end
