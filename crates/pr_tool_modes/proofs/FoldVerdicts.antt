-- What comes of a configuration that is run for its checkpoint, and the verdict on it.
use Rattle.std.proofs.Common.{◌≡◌, ◌≢◌, ◌≤◌, ◌∙◌, ℕ, Bool, List, true, false, Option, Some, None, refl, sym, ap, subst, arith, inl, inr, true≢false}
use Rattle.pr_edge.specs.Count.{Rose}
use Rattle.pr_edge.specs.Files.{Told, IsMissing, HasReadCause, View}
use Rattle.pr_edge.specs.Tape.{Appends, AppendsFront, untold}
use Rattle.pr_conf.specs.Shape.{Shape}
use Rattle.pr_samples.specs.Fed.{Fed, End, BadSample, Limit}
use Rattle.pr_samples.specs.Feed.{Tells}
use Rattle.pr_tool_answers.specs.declared.answers.Answer.{Answer}
use Rattle.pr_tool_answers.specs.Owed.{IsOwed}
use Rattle.pr_tool_answers.proofs.OwedLemmas.{owed_by}
use Rattle.pr_tool_modes.specs.declared.loadables.Loadable.{Loadable}
use Rattle.pr_tool_modes.specs.Calls.{Call, call}
use Rattle.pr_tool_modes.specs.Executions.{IsRunVerdict}
use Rattle.pr_tool_modes.specs.Jobs.{Job, Resumption, resumed, first_of, IsNoStall, IsNeither}
use Rattle.pr_tool_modes.specs.Runs.{Course, course}
use Rattle.pr_tool_modes.specs.Samples.{fed_at_most, samples_verdict}
use Rattle.pr_tool_modes.specs.Sources.{Gives, count_in, most_in, columns_in, registers_in, shape_in}
use Rattle.pr_tool_modes.specs.Stalls.{HasStall, after_stall}
use Rattle.pr_tool_modes.specs.Texts.{IsPut}
use Rattle.pr_tool_modes.specs.Resumptions.{IsMoveVerdict}
use Rattle.pr_tool_modes.specs.Folds.{mark_after, HasMarked, IsUnmarked, HasRunFor, IsMarkPut, IsFoldOf, IsFoldEnd, HasFolded, IsFolded, HasExtended, HasWrittenMark, AreMarkBytes, AreExtendedBytes}
use Rattle.pr_tool_modes.proofs.FileLemmas.{rose_earlier, shown_earlier}
use Rattle.pr_tool_modes.proofs.ReasonLemmas.{IsKind, kind_never, kind_fault}
use Rattle.pr_tool_modes.proofs.RunVerdicts.{later_refusal, passes_stall, file_end, last_owed, refused_owed, refusal_is, untold_rose}

-- ---- the parts
-- what the run was made of was read before
later_run : (j : Job) (before mid now : View) (c : Shape) (end came : Course → Type 0) → mid.told ≡ before.told → mid.faults ≡ before.faults → ((q : List ℕ) → q ≢ first_of j → mid.reach q ≡ before.reach q)
    → ((r : Course) → end r → came r) → HasRunFor (IsNoStall j) c j mid now end → HasRunFor (IsNeither j) c j before now came
later_run j before mid now c end came told steady reach more run = record {
  turns = run.turns;
  stall = subst (λ (t : Told). HasStall t j.stall run.turns) told run.stall;
  start = run.start;
  later = record {
    told = run.later.told ∙ told;
    faults = run.later.faults ∙ steady;
    reach = λ q kept. run.later.reach q kept.1 ∙ reach q kept.0;
  };
  came = more _ run.came;
}

-- a configuration that was to be run, after the source was read
pub folded_of : (j : Job) (k : Call) (mid : View) (loaded : Loadable) (before : ℕ) (a : Answer) → Gives k.before.told j.source (columns_in loaded) (registers_in loaded) (shape_in loaded) → count_in j.source ≡ before
    → mid.told ≡ k.before.told → mid.faults ≡ k.before.faults → ((q : List ℕ) → q ≢ first_of j → mid.reach q ≡ k.before.reach q)
    → IsFoldOf loaded before j (call mid k.now (record { told = k.old; faults = k.out_before }) (record { told = k.new; faults = k.out_now })) a → IsFolded j k a
folded_of j k mid loaded before a gives count told steady reach (inl run) =
    let N = columns_in loaded in
    let P = registers_in loaded in
    let c = shape_in loaded in
    inr (record {
      N = N;
      P = P;
      conf = c;
      gives = gives;
      run = later_run j k.before mid k.now c (λ r. IsMarkPut N P r before (call mid k.now (record { told = k.old; faults = k.out_before }) (record { told = k.new; faults = k.out_now })) a) (λ r. IsFoldEnd N P r (count_in j.source) k a) told steady reach
          (λ r put. inl (record { bytes = put.bytes; marked = subst (λ (n : ℕ). HasMarked N P r n put.bytes) (sym count) put.marked; put = put.put })) run;
    })
folded_of j k mid loaded before a gives count told steady reach (inr (inl early, unwritten)) = inl (record {
  cause = later_refusal j k mid.told mid.faults (columns_in loaded) (registers_in loaded) (shape_in loaded) a gives told (omega (arith, steady)) early.cause;
  unwritten = unwritten;
  unread = λ q kept. early.unread q kept.1 ∙ reach q kept.0;
  shown = shown_earlier k.before.faults mid.faults k.now.faults a steady early.shown;
})
folded_of j k mid loaded before a gives count told steady reach (inr (inr run, unwritten)) =
    let N = columns_in loaded in
    let P = registers_in loaded in
    let c = shape_in loaded in
    inr (record {
      N = N;
      P = P;
      conf = c;
      gives = gives;
      run = later_run j k.before mid k.now c (λ r. IsUnmarked r a) (λ r. IsFoldEnd N P r (count_in j.source) k a) told steady reach (λ r unmarked. inr (unmarked, unwritten)) run;
    })

-- the checkpoint that a run is for was to be written
pub put_for : (kept : List ℕ → Type 0) (c : Shape) (j : Job) (before now : View) (N P count : ℕ) (bytes : List ℕ) (k : Call) (a : Answer) → HasRunFor kept c j before now (λ r. HasMarked N P r count bytes) → IsPut bytes k.old k.new k.out_before k.out_now a
    → HasRunFor kept c j before now (λ r. IsMarkPut N P r count k a)
put_for kept c j before now N P count bytes k a run put = record {
  turns = run.turns;
  stall = run.stall;
  start = run.start;
  later = run.later;
  came = record { bytes = bytes; marked = run.came; put = put };
}

-- ---- the verdict
-- the last point decides
put_owed : (files : List ℕ → Option (List ℕ)) (r : Course) (before : ℕ) (N P : ℕ) (k : Call) (a : Answer) (sb : ℕ) → r.start.told ≡ Some files → (put : IsMarkPut N P r before k a)
    → IsOwed (λ o. o ≡ samples_verdict r.most r.conf.inputs (files r.name)) sb r.now.faults k.out_before k.out_now a
put_owed files r before N P k Answer.Ok sb is put = inl (sym (file_end files r put.marked.rows End is put.marked.all))
put_owed files r before N P k Answer.WriteFault sb is put = inr (inr (inl (refl, put.put.1)))
put_owed files r before N P k Answer.Memory sb is put = inr (inr (inr refl))
put_owed files r before N P k a sb is put = absurd put.put

unmarked_owed : (files : List ℕ → Option (List ℕ)) (r : Course) (a : Answer) (sb ob on : ℕ) → r.start.told ≡ Some files → sb ≤ r.start.faults → IsUnmarked r a
    → IsOwed (λ o. o ≡ samples_verdict r.most r.conf.inputs (files r.name)) sb r.now.faults ob on a
unmarked_owed files r (Answer.BadSample line) sb ob on is le has = inl (sym (file_end files r has.rows (BadSample line) is has.all))
unmarked_owed files r (Answer.Limit which) sb ob on is le has = inl (sym (file_end files r has.rows (Limit which) is has.all))
unmarked_owed files r Answer.ReadFault sb ob on is le cause = elim (subst (λ (t : Told). HasReadCause t r.name r.start.faults r.now.faults) is cause) as (λ k. IsOwed (λ o. o ≡ samples_verdict r.most r.conf.inputs (files r.name)) sb r.now.faults ob on Answer.ReadFault) [
  | inl missing ↦ inl (sym (ap (λ (o : Option (List ℕ)). samples_verdict r.most r.conf.inputs o) missing))
  | inr rose ↦ inr (inl (refl, rose_earlier sb r.start.faults r.now.faults le rose))
]
unmarked_owed files r Answer.Memory sb ob on is le has = inr (inr (inr refl))
unmarked_owed files r a sb ob on is le has = absurd has

fold_end_owed : (files : List ℕ → Option (List ℕ)) (r : Course) (before : ℕ) (N P : ℕ) (k : Call) (a : Answer) (sb : ℕ) → r.start.told ≡ Some files → sb ≤ r.start.faults → IsFoldEnd N P r before k a
    → IsOwed (λ o. o ≡ samples_verdict r.most r.conf.inputs (files r.name)) sb r.now.faults k.out_before k.out_now a
fold_end_owed files r before N P k a sb is le (inl put) = put_owed files r before N P k a sb is put
fold_end_owed files r before N P k a sb is le (inr unmarked) = unmarked_owed files r a sb k.out_before k.out_now is le unmarked.0

-- over told files it owes the verdict of a run
pub fold_owed : (files : List ℕ → Option (List ℕ)) (j : Job) (k : Call) (a : Answer) → k.before.told ≡ Some files → IsFolded j k a → IsOwed (IsRunVerdict files j) k.before.faults k.now.faults k.out_before k.out_now a
fold_owed files j k a told (inl none) = refused_owed files j k a told none.cause
fold_owed files j k a told (inr has) =
    let run = has.run in
    let stall : after_stall files j.stall (samples_verdict (most_in j.source) has.conf.inputs (files j.second)) ≡ samples_verdict (most_in j.source) has.conf.inputs (files j.second) =
    passes_stall files j.stall run.turns _ (subst (λ (t : Told). HasStall t j.stall run.turns) told run.stall) in
    last_owed files j has.N has.P has.conf k.before.faults k.now.faults k.out_before k.out_now a (subst (λ (t : Told). Gives t j.source has.N has.P has.conf) told has.gives)
    (subst (λ (v : Answer). IsOwed (λ o. o ≡ v) k.before.faults k.now.faults k.out_before k.out_now a) (sym stall)
    (fold_end_owed files (course has.conf j.stripes run.turns false (most_in j.source) j.second run.start k.now untold untold) (count_in j.source) has.N has.P k a k.before.faults (run.later.told ∙ told) (omega (arith, run.later.faults)) run.came))

pub extend_owed : (files : List ℕ → Option (List ℕ)) (r : Resumption) (k : Call) (a : Answer) → k.before.told ≡ Some files → HasExtended r k a → IsOwed (IsMoveVerdict files r) k.before.faults k.now.faults k.out_before k.out_now a
extend_owed files r k a told (count, come) =
    owed_by (IsRunVerdict files (resumed r count)) (IsMoveVerdict files r) k.before.faults k.now.faults k.out_before k.out_now a (λ is. (count, is)) (fold_owed files (resumed r count) k a told come)

-- ---- single answers
-- what follows of the end of its samples
end_of : (j : Job) (k : Call) (a b : Answer) (has : HasFolded j k a) → a ≡ b → IsFoldEnd has.N has.P (course has.conf j.stripes has.run.turns false (most_in j.source) j.second has.run.start k.now untold untold) (count_in j.source) k b
end_of j k a b has is =
    subst (λ (o : Answer). IsFoldEnd has.N has.P (course has.conf j.stripes has.run.turns false (most_in j.source) j.second has.run.start k.now untold untold) (count_in j.source) k o) is has.run.came

pub fold_fault : (j : Job) (k : Call) (a : Answer) → IsFolded j k a → a ≡ Answer.ReadFault → k.before.told ≡ None → Rose k.before.faults k.now.faults
fold_fault j k a (inl none) is untold = kind_fault _ a (refusal_is j k a none.cause) is untold
fold_fault j k a (inr has) is untold = elim (end_of j k a Answer.ReadFault has is) as (λ e. Rose k.before.faults k.now.faults) [
  | inl put ↦ absurd put.put
  | inr unmarked ↦ rose_earlier k.before.faults has.run.start.faults k.now.faults (omega (arith, has.run.later.faults)) (untold_rose has.run.start.told j.second has.run.start.faults k.now.faults unmarked.0 (has.run.later.told ∙ untold))
]

pub fold_memory : (j : Job) (k : Call) (a : Answer) → IsFolded j k a → a ≡ Answer.Memory → k.new ≡ k.old
fold_memory j k a (inl none) is = none.unwritten
fold_memory j k a (inr has) is = elim (end_of j k a Answer.Memory has is) as (λ e. k.new ≡ k.old) [
  | inl put ↦ put.put
  | inr unmarked ↦ unmarked.1
]

pub fold_write : (j : Job) (k : Call) (a : Answer) → IsFolded j k a → a ≡ Answer.WriteFault → Rose k.out_before k.out_now
fold_write j k a (inl none) is = absurd (kind_never _ a Answer.WriteFault (refusal_is j k a none.cause) is refl (λ e. cc) (λ e. cc))
fold_write j k a (inr has) is = elim (end_of j k a Answer.WriteFault has is) as (λ e. Rose k.out_before k.out_now) [
  | inl put ↦ put.put.1
  | inr unmarked ↦ absurd unmarked.0
]

pub fold_usage : (j : Job) (k : Call) (a : Answer) → IsFolded j k a → a ≡ Answer.Usage → ⊥
fold_usage j k a (inl none) is = kind_never _ a Answer.Usage (refusal_is j k a none.cause) is refl (λ e. cc) (λ e. cc)
fold_usage j k a (inr has) is = elim (end_of j k a Answer.Usage has is) as (λ e. ⊥) [
  | inl put ↦ put.put
  | inr unmarked ↦ unmarked.0
]

-- ---- what is written
-- an answer after which something may be written
abbrev pub may_write : Answer → Bool
may_write Answer.Ok = true
may_write Answer.WriteFault = true
may_write answer = false

nothing_written : (files : List ℕ → Option (List ℕ)) (j : Job) (k : Call) (a : Answer) → may_write a ≡ false → k.new ≡ k.old → AreMarkBytes files j k a
nothing_written files j k Answer.Ok off same = absurd (true≢false off)
nothing_written files j k Answer.WriteFault off same = absurd (true≢false off)
nothing_written files j k a off same = same

kind_writes : (cause : Type 0) (a : Answer) → IsKind cause a → may_write a ≡ false
kind_writes cause Answer.Ok (inl refused) = absurd (true≢false (sym refused))
kind_writes cause Answer.WriteFault (inl refused) = absurd (true≢false (sym refused))
kind_writes cause a (inl refused) = refl
kind_writes cause a (inr (inl read)) = ap may_write read.0
kind_writes cause a (inr (inr memory)) = ap may_write memory

unmarked_writes : (r : Course) (a : Answer) → IsUnmarked r a → may_write a ≡ false
unmarked_writes r Answer.Ok h = absurd h
unmarked_writes r Answer.WriteFault h = absurd h
unmarked_writes r a h = refl

-- the samples of the file are those that were fed
written_mark : (files : List ℕ → Option (List ℕ)) (j : Job) (N P : ℕ) (r : Course) (bytes : List ℕ) (put : List ℕ → Type 0) → Gives (Some files) j.source N P r.conf → r.start.told ≡ Some files → r.most ≡ most_in j.source → r.name ≡ j.second
    → HasMarked N P r (count_in j.source) bytes → put bytes → HasWrittenMark files j put
written_mark files j N P r bytes put gives is most name marked text = elim (files r.name) as (λ o. files r.name ≡ o → HasWrittenMark files j put) [
  | None ↦ λ e. absurd (marked.all.there (subst (λ (t : Told). IsMissing t r.name) (sym is) e))
  | Some file ↦ λ e. (
      let tells = subst (λ (t : Told). Tells t r.name file) (sym is) e in
      let fed : fed_at_most r.most r.conf.inputs file ≡ fed_at_most (most_in j.source) r.conf.inputs file = ap (λ (n : ℕ). fed_at_most n r.conf.inputs file) most in
      let rows : marked.rows ≡ (fed_at_most (most_in j.source) r.conf.inputs file).samples = marked.all.all file tells ∙ ap (λ (f : Fed). f.samples) fed in
      record {
        N = N;
        P = P;
        conf = r.conf;
        gives = gives;
        file = file;
        there = ap files (sym name) ∙ e;
        ends = sym (ap (λ (f : Fed). f.ending) fed) ∙ marked.all.ends file tells;
        text = subst put (marked.mark.spelled ∙ ap (λ (xs : List (List ℕ)). mark_after N P (count_in j.source) r.conf xs) rows) text;
      })
] refl

put_bytes : (files : List ℕ → Option (List ℕ)) (j : Job) (k : Call) (N P : ℕ) (r : Course) (a : Answer) → Gives (Some files) j.source N P r.conf → r.start.told ≡ Some files → r.most ≡ most_in j.source → r.name ≡ j.second
    → IsMarkPut N P r (count_in j.source) k a → AreMarkBytes files j k a
put_bytes files j k N P r Answer.Ok gives is most name put = written_mark files j N P r put.bytes (Appends k.old k.new) gives is most name put.marked put.put
put_bytes files j k N P r Answer.WriteFault gives is most name put = written_mark files j N P r put.bytes (AppendsFront k.old k.new) gives is most name put.marked put.put.0
put_bytes files j k N P r Answer.Memory gives is most name put = put.put
put_bytes files j k N P r a gives is most name put = absurd put.put

pub fold_bytes : (files : List ℕ → Option (List ℕ)) (j : Job) (k : Call) (a : Answer) → k.before.told ≡ Some files → IsFolded j k a → AreMarkBytes files j k a
fold_bytes files j k a told (inl none) = nothing_written files j k a (kind_writes _ a (refusal_is j k a none.cause)) none.unwritten
fold_bytes files j k a told (inr has) =
    let r = course has.conf j.stripes has.run.turns false (most_in j.source) j.second has.run.start k.now untold untold in
    elim has.run.came as (λ e. AreMarkBytes files j k a) [
      | inl put ↦ put_bytes files j k has.N has.P r a (subst (λ (t : Told). Gives t j.source has.N has.P has.conf) told has.gives) (has.run.later.told ∙ told) refl refl put
      | inr unmarked ↦ nothing_written files j k a (unmarked_writes r a unmarked.0) unmarked.1
    ]

pub extend_bytes : (files : List ℕ → Option (List ℕ)) (r : Resumption) (k : Call) (a : Answer) → k.before.told ≡ Some files → HasExtended r k a → AreExtendedBytes files r k a
extend_bytes files r k a told (count, come) = (count, fold_bytes files (resumed r count) k a told come)

pub extend_fault : (r : Resumption) (k : Call) (a : Answer) → HasExtended r k a → a ≡ Answer.ReadFault → k.before.told ≡ None → Rose k.before.faults k.now.faults
extend_fault r k a (count, come) is untold = fold_fault (resumed r count) k a come is untold

pub extend_memory : (r : Resumption) (k : Call) (a : Answer) → HasExtended r k a → a ≡ Answer.Memory → k.new ≡ k.old
extend_memory r k a (count, come) is = fold_memory (resumed r count) k a come is

pub extend_write : (r : Resumption) (k : Call) (a : Answer) → HasExtended r k a → a ≡ Answer.WriteFault → Rose k.out_before k.out_now
extend_write r k a (count, come) is = fold_write (resumed r count) k a come is

pub extend_usage : (r : Resumption) (k : Call) (a : Answer) → HasExtended r k a → a ≡ Answer.Usage → ⊥
extend_usage r k a (count, come) is = fold_usage (resumed r count) k a come is
