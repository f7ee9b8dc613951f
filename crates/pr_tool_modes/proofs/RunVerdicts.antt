-- From the parts of a run to what it comes to, and the verdict on it.
use Rattle.std.proofs.Common.{◌≡◌, ◌≢◌, ◌⊎◌, ◌≤◌, ◌<◌, ℕ, Bool, true, false, List, length, nat_lt, Some, None, Option, refl, sym, ap, ◌∙◌, subst, arith, inl, inr, cond}
use Rattle.std.proofs.lemmas.Bool.Decides.{nat_tests}
use Rattle.pr_base.specs.declared.caps.Cap.{Cap}
use Rattle.pr_edge.specs.Count.{Rose}
use Rattle.pr_edge.specs.Files.{Told, IsMissing, HasReadCause, View}
use Rattle.pr_edge.specs.Tape.{Tape}
use Rattle.pr_conf.specs.Shape.{Shape}
use Rattle.pr_conf.specs.Configuration.{shape_of}
use Rattle.pr_samples.specs.Fed.{Ending, End, BadSample, Limit}
use Rattle.pr_samples.specs.Feed.{Tells}
use Rattle.pr_run_script.specs.Script.{Held}
use Rattle.pr_machine.specs.Stands.{History}
use Rattle.pr_run.specs.Turns.{Going}
use Rattle.pr_tool_answers.specs.declared.answers.Answer.{Answer}
use Rattle.pr_tool_answers.specs.Owed.{IsOwed}
use Rattle.pr_tool_answers.proofs.OwedLemmas.{owed_by}
use Rattle.pr_tool_modes.specs.declared.benches.Bench.{Bench}
use Rattle.pr_tool_modes.specs.declared.jobs.ConfSource.{ConfSource as NamedSource}
use Rattle.pr_tool_modes.specs.declared.jobs.ConfSource.TheVariants as named
use Rattle.pr_tool_modes.specs.declared.loadables.Loadable.{Loadable}
use Rattle.pr_tool_modes.specs.Calls.{Call, call}
use Rattle.pr_tool_modes.specs.Executions.{HasRun, HasRan, IsRunOf, IsRunRefusal, HasCome, IsRunVerdict}
use Rattle.pr_tool_modes.specs.Files.{IsUnread}
use Rattle.pr_tool_modes.specs.Jobs.{Job, source_of, first_of, IsNoStall, IsNeither}
use Rattle.pr_tool_modes.specs.Runs.{Course, course, HasAll, IsEnd}
use Rattle.pr_tool_modes.specs.Samples.{ended_by, samples_verdict}
use Rattle.pr_tool_modes.specs.Sources.{count_in, most_in, columns_in, registers_in, shape_in, Gives, IsGood, IsSourceRefusal, IsRefusedSource}
use Rattle.pr_tool_modes.specs.Stalls.{HasStall, HasBadStall, IsStallRefusal, after_text, after_stall, bad_or, first_bad}
use Rattle.pr_tool_modes.proofs.FileLemmas.{rose_earlier, unread_earlier, shown_earlier}
use Rattle.pr_tool_modes.proofs.ReasonLemmas.{refuses, IsKind, kind_never, kind_fault}
use Rattle.pr_tool_modes.proofs.SourceLemmas.{source_owed, source_kind, one_source, never_source, one_conf}

-- ---- the parts
-- what a run was made of was read before
later_run : {N P : ℕ} (j : Job) (before mid now : View) (old new : Tape) (c : Shape) (machine : Going N P) (answer : Answer)
    → mid.told ≡ before.told → mid.faults ≡ before.faults → ((q : List ℕ) → q ≢ first_of j → mid.reach q ≡ before.reach q)
    → HasRun (IsNoStall j) c j mid now old new machine answer → HasRun (IsNeither j) c j before now old new machine answer
later_run j before mid now old new c machine answer told steady reach run = record {
  turns = run.turns;
  stall = subst (λ (t : Told). HasStall t j.stall run.turns) told run.stall;
  start = run.start;
  later = record {
    told = run.later.told ∙ told;
    faults = run.later.faults ∙ steady;
    reach = λ q kept. run.later.reach q kept.1 ∙ reach q kept.0;
  };
  run = run.run;
}

-- the source was read before
pub has_ran : {N P : ℕ} (j : Job) (k : Call) (mid : View) (c : Shape) (machine : Going N P) (answer : Answer) → Gives k.before.told j.source N P c
    → mid.told ≡ k.before.told → mid.faults ≡ k.before.faults → ((q : List ℕ) → q ≢ first_of j → mid.reach q ≡ k.before.reach q)
    → (answer ≡ Answer.WriteFault → Rose k.out_before k.out_now) → HasRun (IsNoStall j) c j mid k.now k.old k.new machine answer → HasRan j k machine answer
has_ran j k mid c machine answer gives told steady reach write run = record {
  conf = c;
  gives = gives;
  run = later_run j k.before mid k.now k.old k.new c machine answer told steady reach run;
  write_fault = write;
}

-- the stall text was refused after the source was read
stall_earlier : (told mid_told : Told) (stall : Option (List ℕ)) (before mid now : ℕ) (a : Answer) → mid_told ≡ told → before ≤ mid → IsStallRefusal mid_told stall mid now a → IsStallRefusal told stall before now a
stall_earlier told mid_told None before mid now a same le (inl unread) = absurd unread
stall_earlier told mid_told (Some name) before mid now a same le (inl unread) =
    inl (unread_earlier 1048576 Cap.StallBytes told name before mid now a le (subst (λ (t : Told). IsUnread 1048576 Cap.StallBytes t name mid now a) same unread))
stall_earlier told mid_told stall before mid now a same le (inr bad) = inr (subst (λ (t : Told). HasBadStall t stall a) same bad)

pub later_refusal : (j : Job) (k : Call) (mid_told : Told) (mid : ℕ) (N P : ℕ) (c : Shape) (a : Answer) → Gives k.before.told j.source N P c → mid_told ≡ k.before.told → k.before.faults ≤ mid
    → IsStallRefusal mid_told j.stall mid k.now.faults a ⊎ (a ≡ Answer.Memory) → IsRunRefusal j k.before k.now a
later_refusal j k mid_told mid N P c a gives told later (inl stall) =
    inr (inl (record { N = N; P = P; conf = c; gives = gives }, stall_earlier k.before.told mid_told j.stall k.before.faults mid k.now.faults a told later stall))
later_refusal j k mid_told mid N P c a gives told later (inr memory) = inr (inr memory)

-- no samples came before those of a configuration file or a program
pub fresh_source : (source : NamedSource) → count_in (source_of source) ≡ 0
fresh_source (named.File name) = refl
fresh_source (named.Program name target) = refl

-- a configuration that was to be run, after the source was read
pub come_of : (j : Job) (k : Call) (mid : View) (l : Loadable) (was bench : Bench) (a : Answer) → Gives k.before.told j.source (columns_in l) (registers_in l) (shape_in l)
    → mid.told ≡ k.before.told → mid.faults ≡ k.before.faults → ((q : List ℕ) → q ≢ first_of j → mid.reach q ≡ k.before.reach q)
    → IsRunOf l j (call mid k.now (record { told = k.old; faults = k.out_before }) (record { told = k.new; faults = k.out_now })) was bench a → HasCome j k was bench a
come_of j k mid l was bench a gives told steady reach (inl held) = inl (record {
  cause = later_refusal j k mid.told mid.faults (columns_in l) (registers_in l) (shape_in l) a gives told (omega (arith, steady)) held.cause;
  unwritten = held.unwritten;
  kept = held.kept;
  unread = λ q neither. held.unread q neither.1 ∙ reach q neither.0;
  shown = shown_earlier k.before.faults mid.faults k.now.faults a steady held.shown;
})
come_of j k mid (Loadable.Base conf) was (Bench.Base machine) a gives told steady reach (inr ran) = inr (has_ran j k mid (shape_of conf) machine a gives told steady reach ran.write_fault ran.run)
come_of j k mid (Loadable.Wide conf) was (Bench.Wide machine) a gives told steady reach (inr ran) = inr (has_ran j k mid (shape_of conf) machine a gives told steady reach ran.write_fault ran.run)
come_of j k mid (Loadable.Base conf) was (Bench.Wide machine) a gives told steady reach (inr ran) = absurd ran
come_of j k mid (Loadable.Base conf) was Bench.Nothing a gives told steady reach (inr ran) = absurd ran
come_of j k mid (Loadable.Wide conf) was (Bench.Base machine) a gives told steady reach (inr ran) = absurd ran
come_of j k mid (Loadable.Wide conf) was Bench.Nothing a gives told steady reach (inr ran) = absurd ran

-- ---- the stall text
passes_text : (file : Option (List ℕ)) (text : List ℕ) (next : Answer) → file ≡ Some text → length text ≤ 1048576 → first_bad text ≡ None → after_text file next ≡ next
passes_text file text next is short good =
    let test : nat_lt 1048576 (length text) ≡ false = grind (arith, nat_tests) in
    ap (λ (f : Option (List ℕ)). after_text f next) is
    ∙ (ap (λ (b : Bool). cond b (Answer.Limit Cap.StallBytes) (bad_or (first_bad text) next)) test
    ∙ ap (λ (o : Option ℕ). bad_or o next) good)

pub passes_stall : (files : List ℕ → Option (List ℕ)) (stall : Option (List ℕ)) (turns : List Held) (next : Answer) → HasStall (Some files) stall turns → after_stall files stall next ≡ next
passes_stall files None turns next has = refl
passes_stall files (Some name) turns next has = passes_text (files name) has.text next has.file has.short has.good

long_stall : (text : List ℕ) (file : Option (List ℕ)) (next : Answer) → file ≡ Some text → 1048576 < length text → after_text file next ≡ Answer.Limit Cap.StallBytes
long_stall text file next is long =
    let test : nat_lt 1048576 (length text) ≡ true = grind (arith, nat_tests) in
    ap (λ (f : Option (List ℕ)). after_text f next) is ∙ ap (λ (b : Bool). cond b (Answer.Limit Cap.StallBytes) (bad_or (first_bad text) next)) test

bad_stall : (text : List ℕ) (file : Option (List ℕ)) (place : ℕ) (next : Answer) → file ≡ Some text → length text ≤ 1048576 → first_bad text ≡ Some place → after_text file next ≡ Answer.BadStall place
bad_stall text file place next is short bad =
    let test : nat_lt 1048576 (length text) ≡ false = grind (arith, nat_tests) in
    ap (λ (f : Option (List ℕ)). after_text f next) is
    ∙ (ap (λ (b : Bool). cond b (Answer.Limit Cap.StallBytes) (bad_or (first_bad text) next)) test
    ∙ ap (λ (o : Option ℕ). bad_or o next) bad)

-- a stall text that is refused
stall_owed : (files : List ℕ → Option (List ℕ)) (stall : Option (List ℕ)) (next : Answer) (sb sn ob on : ℕ) (a : Answer) → IsStallRefusal (Some files) stall sb sn a → IsOwed (λ o. o ≡ after_stall files stall next) sb sn ob on a
stall_owed files None next sb sn ob on a (inl unread) = absurd unread
stall_owed files None next sb sn ob on a (inr bad) = absurd (let none : None ≡ Some bad.place = sym (ap first_bad bad.file) ∙ bad.bad in cc)
stall_owed files (Some name) next sb sn ob on a (inl (inl long)) = inl (long.0 ∙ sym (long_stall long.1.text (files name) next long.1.file long.1.long))
stall_owed files (Some name) next sb sn ob on a (inl (inr (inl (is, inl missing)))) = inl (is ∙ sym (ap (λ (f : Option (List ℕ)). after_text f next) missing))
stall_owed files (Some name) next sb sn ob on a (inl (inr (inl (is, inr rose)))) = inr (inl (is, rose))
stall_owed files (Some name) next sb sn ob on a (inl (inr (inr memory))) = inr (inr (inr memory))
stall_owed files (Some name) next sb sn ob on a (inr bad) = inl (bad.answers ∙ sym (bad_stall bad.text (files name) bad.place next bad.file bad.short bad.bad))

-- ---- the samples
pub file_end : (files : List ℕ → Option (List ℕ)) (r : Course) (rows : List (List ℕ)) (ending : Ending) → r.start.told ≡ Some files → HasAll r rows ending
    → samples_verdict r.most r.conf.inputs (files r.name) ≡ ended_by ending
file_end files r rows ending is all = elim (files r.name) as (λ o. files r.name ≡ o → samples_verdict r.most r.conf.inputs o ≡ ended_by ending) [
  | None ↦ λ e. absurd (all.there (subst (λ (t : Told). IsMissing t r.name) (sym is) e))
  | Some file ↦ λ e. ap ended_by (all.ends file (subst (λ (t : Told). Tells t r.name file) (sym is) e))
] refl

-- the last point decides
end_owed : (N P : ℕ) (files : List ℕ → Option (List ℕ)) (r : Course) (rows : List (List ℕ)) (h : History) (a : Answer) (sb ob on : ℕ) → r.start.told ≡ Some files → sb ≤ r.start.faults
    → (a ≡ Answer.WriteFault → Rose ob on) → IsEnd N P r rows h a → IsOwed (λ o. o ≡ samples_verdict r.most r.conf.inputs (files r.name)) sb r.now.faults ob on a
end_owed N P files r rows h Answer.Ok sb ob on is le write end = inl (sym (file_end files r rows End is end.0))
end_owed N P files r rows h (Answer.Limit which) sb ob on is le write end = inl (sym (file_end files r rows (Limit which) is end.0))
end_owed N P files r rows h (Answer.BadSample line) sb ob on is le write end = inl (sym (file_end files r rows (BadSample line) is end.0))
end_owed N P files r rows h Answer.WriteFault sb ob on is le write end = inr (inr (inl (refl, write refl)))
end_owed N P files r rows h Answer.ReadFault sb ob on is le write end = elim (subst (λ (t : Told). HasReadCause t r.name r.start.faults r.now.faults) is end.0.cause) as (λ k. IsOwed (λ o. o ≡ samples_verdict r.most r.conf.inputs (files r.name)) sb r.now.faults ob on Answer.ReadFault) [
  | inl missing ↦ inl (sym (ap (λ (o : Option (List ℕ)). samples_verdict r.most r.conf.inputs o) missing))
  | inr rose ↦ inr (inl (refl, rose_earlier sb r.start.faults r.now.faults le rose))
]
end_owed N P files r rows h a sb ob on is le write end = absurd end

-- ---- the verdict
-- the stall text and the samples decide where the source gives a configuration
pub last_owed : (files : List ℕ → Option (List ℕ)) (j : Job) (N P : ℕ) (c : Shape) (sb sn ob on : ℕ) (a : Answer) → Gives (Some files) j.source N P c
    → IsOwed (λ o. o ≡ after_stall files j.stall (samples_verdict (most_in j.source) c.inputs (files j.second))) sb sn ob on a → IsOwed (IsRunVerdict files j) sb sn ob on a
last_owed files j N P c sb sn ob on a gives owed =
    owed_by (λ o. o ≡ after_stall files j.stall (samples_verdict (most_in j.source) c.inputs (files j.second))) (IsRunVerdict files j) sb sn ob on a (λ is. inr (record { N = N; P = P; conf = c; gives = gives; last = is })) owed

ran_owed : {N P : ℕ} (files : List ℕ → Option (List ℕ)) (j : Job) (k : Call) (machine : Going N P) (a : Answer) → k.before.told ≡ Some files → HasRan j k machine a → IsOwed (IsRunVerdict files j) k.before.faults k.now.faults k.out_before k.out_now a
ran_owed {N} {P} files j k machine a told has =
    let run = has.run in
    let stall : after_stall files j.stall (samples_verdict (most_in j.source) has.conf.inputs (files j.second)) ≡ samples_verdict (most_in j.source) has.conf.inputs (files j.second) =
    passes_stall files j.stall run.turns _ (subst (λ (t : Told). HasStall t j.stall run.turns) told run.stall) in
    last_owed files j N P has.conf k.before.faults k.now.faults k.out_before k.out_now a (subst (λ (t : Told). Gives t j.source N P has.conf) told has.gives)
    (subst (λ (v : Answer). IsOwed (λ o. o ≡ v) k.before.faults k.now.faults k.out_before k.out_now a) (sym stall)
    (end_owed N P files (course has.conf j.stripes run.turns j.log (most_in j.source) j.second run.start k.now k.old k.new) run.run.rows run.run.history a k.before.faults k.out_before k.out_now (run.later.told ∙ told) (omega (arith, run.later.faults)) has.write_fault run.run.end))

pub refused_owed : (files : List ℕ → Option (List ℕ)) (j : Job) (k : Call) (a : Answer) → k.before.told ≡ Some files → IsRunRefusal j k.before k.now a → IsOwed (IsRunVerdict files j) k.before.faults k.now.faults k.out_before k.out_now a
refused_owed files j k a told (inl source) =
    owed_by (IsRefusedSource files j.source) (IsRunVerdict files j) k.before.faults k.now.faults k.out_before k.out_now a inl
    (source_owed files j.source k.before.faults k.now.faults k.out_before k.out_now a (subst (λ (t : Told). IsSourceRefusal t j.source k.before.faults k.now.faults a) told source))
refused_owed files j k a told (inr (inl stall)) =
    let good = subst (λ (t : Told). IsGood t j.source) told stall.0 in
    last_owed files j good.N good.P good.conf k.before.faults k.now.faults k.out_before k.out_now a good.gives
    (stall_owed files j.stall (samples_verdict (most_in j.source) good.conf.inputs (files j.second)) k.before.faults k.now.faults k.out_before k.out_now a (subst (λ (t : Told). IsStallRefusal t j.stall k.before.faults k.now.faults a) told stall.1))
refused_owed files j k a told (inr (inr memory)) = inr (inr (inr memory))

-- over told files a run owes its verdict
pub run_owed : (files : List ℕ → Option (List ℕ)) (j : Job) (k : Call) (was bench : Bench) (a : Answer) → k.before.told ≡ Some files → HasCome j k was bench a → IsOwed (IsRunVerdict files j) k.before.faults k.now.faults k.out_before k.out_now a
run_owed files j k was bench a told (inl none) = refused_owed files j k a told none.cause
run_owed files j k was (Bench.Base machine) a told (inr is) = ran_owed files j k machine a told is
run_owed files j k was (Bench.Wide machine) a told (inr is) = ran_owed files j k machine a told is
run_owed files j k was Bench.Nothing a told (inr is) = absurd is

-- it has one verdict at most
pub one_run : (files : List ℕ → Option (List ℕ)) (j : Job) (a b : Answer) → IsRunVerdict files j a → IsRunVerdict files j b → a ≡ b
one_run files j a b (inl is) (inl by) = one_source files j.source a b is by
one_run files j a b (inl is) (inr by) = absurd (never_source files j.source a by.N by.P by.conf by.gives is)
one_run files j a b (inr is) (inl by) = absurd (never_source files j.source b is.N is.P is.conf is.gives by)
one_run files j a b (inr is) (inr by) =
    is.last ∙ (ap (λ (c : Shape). after_stall files j.stall (samples_verdict (most_in j.source) c.inputs (files j.second))) (one_conf files j.source is.N is.P by.N by.P is.conf by.conf is.gives by.gives) ∙ sym by.last)

-- ---- single answers
-- where no file is told, a read that failed was a fault of the outside
pub untold_rose : (told : Told) (name : List ℕ) (before now : ℕ) → HasReadCause told name before now → told ≡ None → Rose before now
untold_rose None name before now (inl missing) e = absurd missing
untold_rose None name before now (inr rose) e = rose
untold_rose (Some files) name before now cause e = absurd (let no : Some files ≡ None = e in cc)

stall_is : (told : Told) (stall : Option (List ℕ)) (before now : ℕ) (a : Answer) → IsStallRefusal told stall before now a → IsKind (told ≡ None → Rose before now) a
stall_is told None before now a (inl unread) = absurd unread
stall_is told (Some name) before now a (inl (inl long)) = inl (ap refuses long.0)
stall_is told (Some name) before now a (inl (inr (inl read))) = inr (inl (read.0, untold_rose told name before now read.1))
stall_is told (Some name) before now a (inl (inr (inr memory))) = inr (inr memory)
stall_is told stall before now a (inr bad) = inl (ap refuses bad.answers)

-- no run was begun: an answer that refuses a text, a read fault with its cause, or want of memory
pub refusal_is : (j : Job) (k : Call) (a : Answer) → IsRunRefusal j k.before k.now a → IsKind (k.before.told ≡ None → Rose k.before.faults k.now.faults) a
refusal_is j k a (inl source) = elim (source_kind k.before.told j.source k.before.faults k.now.faults a source) [
  | inl is ↦ inl is
  | inr (inl read) ↦ inr (inl (read.0, untold_rose k.before.told _ _ _ read.1))
  | inr (inr memory) ↦ inr (inr memory)
]
refusal_is j k a (inr (inl stall)) = stall_is k.before.told j.stall k.before.faults k.now.faults a stall.1
refusal_is j k a (inr (inr memory)) = inr (inr memory)

ran_fault : {N P : ℕ} (j : Job) (k : Call) (machine : Going N P) (a : Answer) → HasRan j k machine a → a ≡ Answer.ReadFault → k.before.told ≡ None → Rose k.before.faults k.now.faults
ran_fault {N} {P} j k machine a has is untold =
    let run = has.run in
    let end = subst (λ (o : Answer). IsEnd N P (course has.conf j.stripes run.turns j.log (most_in j.source) j.second run.start k.now k.old k.new) run.run.rows run.run.history o) is run.run.end in
    rose_earlier k.before.faults run.start.faults k.now.faults (omega (arith, run.later.faults)) (untold_rose run.start.told j.second run.start.faults k.now.faults end.0.cause (run.later.told ∙ untold))

pub run_fault : (j : Job) (k : Call) (was bench : Bench) (a : Answer) → HasCome j k was bench a → a ≡ Answer.ReadFault → k.before.told ≡ None → Rose k.before.faults k.now.faults
run_fault j k was bench a (inl none) is untold = kind_fault _ a (refusal_is j k a none.cause) is untold
run_fault j k was (Bench.Base machine) a (inr has) is untold = ran_fault j k machine a has is untold
run_fault j k was (Bench.Wide machine) a (inr has) is untold = ran_fault j k machine a has is untold
run_fault j k was Bench.Nothing a (inr has) is untold = absurd has

-- a run that was begun takes no memory, and is a run of what is built
ran_not : {N P : ℕ} (j : Job) (k : Call) (machine : Going N P) (a b : Answer) → ((r : Course) (rows : List (List ℕ)) (h : History) → IsEnd N P r rows h b → ⊥) → HasRan j k machine a → a ≡ b → ⊥
ran_not {N} {P} j k machine a b never has is =
    let run = has.run in
    let r = course has.conf j.stripes run.turns j.log (most_in j.source) j.second run.start k.now k.old k.new in
    never r run.run.rows run.run.history (subst (λ (o : Answer). IsEnd N P r run.run.rows run.run.history o) is run.run.end)

pub run_memory : (j : Job) (k : Call) (was bench : Bench) (a : Answer) → HasCome j k was bench a → a ≡ Answer.Memory → (k.new ≡ k.old) × (bench ≡ was)
run_memory j k was bench a (inl none) is = (none.unwritten, none.kept)
run_memory j k was (Bench.Base machine) a (inr has) is = absurd (ran_not j k machine a Answer.Memory (λ r rows h e. e) has is)
run_memory j k was (Bench.Wide machine) a (inr has) is = absurd (ran_not j k machine a Answer.Memory (λ r rows h e. e) has is)
run_memory j k was Bench.Nothing a (inr has) is = absurd has

pub run_write : (j : Job) (k : Call) (was bench : Bench) (a : Answer) → HasCome j k was bench a → a ≡ Answer.WriteFault → Rose k.out_before k.out_now
run_write j k was bench a (inl none) is = absurd (kind_never _ a Answer.WriteFault (refusal_is j k a none.cause) is refl (λ e. cc) (λ e. cc))
run_write j k was (Bench.Base machine) a (inr has) is = has.write_fault is
run_write j k was (Bench.Wide machine) a (inr has) is = has.write_fault is
run_write j k was Bench.Nothing a (inr has) is = absurd has

-- no run is a faulty command line
pub run_usage : (j : Job) (k : Call) (was bench : Bench) (a : Answer) → HasCome j k was bench a → a ≡ Answer.Usage → ⊥
run_usage j k was bench a (inl none) is = kind_never _ a Answer.Usage (refusal_is j k a none.cause) is refl (λ e. cc) (λ e. cc)
run_usage j k was (Bench.Base machine) a (inr has) is = ran_not j k machine a Answer.Usage (λ r rows h e. e) has is
run_usage j k was (Bench.Wide machine) a (inr has) is = ran_not j k machine a Answer.Usage (λ r rows h e. e) has is
run_usage j k was Bench.Nothing a (inr has) is = has
