-- From what the mode came to, to what it has written.
use Rattle.std.proofs.Common.{◌≡◌, ◌⊎◌, ◌≤◌, ◌+◌, ◌∙◌, ◌^◌, not, ℕ, suc, Bool, true, false, cond, List, [], ◌∷◌, length, map, Option, Some, None, slice_get, refl, sym, ap, subst, arith, inl, inr, true≢false}
use Rattle.std.specs.Prelude.{⊤}
use Rattle.std.specs.List.{list_any}
use Rattle.std.proofs.lemmas.Bool.{cases_eq}
use Rattle.pr_base.specs.declared.caps.Cap.{Cap}
use Rattle.pr_edge.specs.Count.{RoseBy}
use Rattle.pr_edge.specs.Files.{Told}
use Rattle.pr_edge.specs.Tape.{Appends, AppendsFront}
use Rattle.pr_samples.specs.Fed.{Ending, End, BadSample, Limit}
use Rattle.pr_samples.specs.Got.{is_sample}
use Rattle.pr_samples.specs.declared.feed.Got.{Got}
use Rattle.pr_share.specs.Fed.{HasFed}
use Rattle.pr_share.specs.Items.{conf_in, Given, World, world, parts_of, read_faults, AreShared, AreStopped}
use Rattle.pr_share.proofs.ListFacts.{got_at, got_within}
use Rattle.pr_tool_share.specs.Entries.{Entry}
use Rattle.pr_share_text.specs.Text.{share_text}
use Rattle.pr_tool_answers.specs.declared.answers.Answer.{Answer}
use Rattle.pr_tool_modes.specs.Calls.{Call}
use Rattle.pr_tool_modes.specs.Samples.{fed_at_most, ended_by, samples_verdict}
use Rattle.pr_tool_modes.proofs.FedLemmas.{fed_limit}
use Rattle.pr_tool_modes.proofs.ReasonLemmas.{is_of_samples, refuses, IsKind}
use Rattle.pr_tool_share.specs.Lists.{HasList, IsBadList, IsListRefusal, IsProgramRefusal, part_answer}
use Rattle.pr_tool_share.specs.Ends.{is_read_fault, part_or, first_part, answer_of_all}
use Rattle.pr_tool_share.specs.Items.{Item, AreItemsOf, end_of}
use Rattle.pr_tool_share.specs.Shares.{IsProgramRefused, HaveTaken, IsSharedBy}
use Rattle.pr_tool_share.specs.Lines.{HaveLines, IsUnread, ByLimit, ByEnd, AreSharedLines}
use Rattle.pr_tool_share.proofs.ListVerdicts.{program_kind}
use Rattle.pr_tool_share.proofs.EndLemmas.{item_end, not_sample, last_given, AreAll}
use Rattle.pr_tool_share.proofs.LineLemmas.{WasFed, WereFed, wholes_in, may_all, same_wholes, have_lines}

-- ---- by the answer, where nothing is written
no_limit : (whole none : Type 0) (which : Cap) → is_of_samples which ≡ false → none → ByLimit whole none which
no_limit whole none Cap.ProgramBytes is h = h
no_limit whole none Cap.Nesting is h = h
no_limit whole none Cap.Turns is h = h
no_limit whole none Cap.Equations is h = h
no_limit whole none Cap.InputBytes is h = h
no_limit whole none Cap.Outputs is h = h
no_limit whole none Cap.Units is h = h
no_limit whole none Cap.StallBytes is h = h
no_limit whole none Cap.ConfigBytes is h = h
no_limit whole none Cap.SampleBytes is h = absurd (true≢false is)
no_limit whole none Cap.Samples is h = absurd (true≢false is)
no_limit whole none Cap.ListBytes is h = h

not_true : (b : Bool) → not b ≡ true → b ≡ false
not_true true e = absurd (true≢false (sym e))
not_true false e = refl

refused_part : (whole cut unread none : Type 0) (k : ℕ) (alone : Answer) → refuses alone ≡ true → none → ByEnd whole cut unread none (part_answer k alone)
refused_part whole cut unread none k (Answer.Limit which) is h = no_limit whole none which (not_true (is_of_samples which) is) h
refused_part whole cut unread none k Answer.Ok is h = absurd (true≢false (sym is))
refused_part whole cut unread none k (Answer.BadSample line) is h = absurd (true≢false (sym is))
refused_part whole cut unread none k (Answer.Part program cause) is h = absurd (true≢false (sym is))
refused_part whole cut unread none k Answer.ReadFault is h = absurd (true≢false (sym is))
refused_part whole cut unread none k Answer.WriteFault is h = absurd (true≢false (sym is))
refused_part whole cut unread none k alone is h = h

kind_part : (whole cut unread none cause : Type 0) (k : ℕ) (alone : Answer) → IsKind cause alone → (part_answer k alone ≡ Answer.ReadFault → unread) → none → ByEnd whole cut unread none (part_answer k alone)
kind_part whole cut unread none cause k alone (inl refused) fault h = refused_part whole cut unread none k alone refused h
kind_part whole cut unread none cause k alone (inr (inl read)) fault h = subst (λ (a : Answer). ByEnd whole cut unread none (part_answer k a)) (sym read.0) (inl (fault (ap (part_answer k) read.0)))
kind_part whole cut unread none cause k alone (inr (inr memory)) fault h = subst (λ (a : Answer). ByEnd whole cut unread none (part_answer k a)) (sym memory) h

bad_list : (whole cut unread none : Type 0) (text : List ℕ) (a : Answer) → IsBadList text a → none → ByEnd whole cut unread none a
bad_list whole cut unread none text (Answer.BadList line) is h = h
bad_list whole cut unread none text a is h = absurd is

refused_list : (whole cut unread none : Type 0) (told : Told) (list : List ℕ) (before now : ℕ) (a : Answer) → IsListRefusal told list before now a → (a ≡ Answer.ReadFault → unread) → none → ByEnd whole cut unread none a
refused_list whole cut unread none told list before now a (inl (inl long)) fault h = subst (ByEnd whole cut unread none) (sym long.0) h
refused_list whole cut unread none told list before now a (inl (inr (inl read))) fault h = subst (ByEnd whole cut unread none) (sym read.0) (inl (fault read.0))
refused_list whole cut unread none told list before now a (inl (inr (inr memory))) fault h = subst (ByEnd whole cut unread none) (sym memory) h
refused_list whole cut unread none told list before now a (inr has) fault h = bad_list whole cut unread none has.text a has.refused h

held_lines : (whole cut unread none : Type 0) (list : List ℕ) (k : Call) (a : Answer) → IsListRefusal k.before.told list k.before.faults k.now.faults a ⊎ (IsProgramRefused list k a ⊎ (a ≡ Answer.Memory)) → (a ≡ Answer.ReadFault → unread) → none → ByEnd whole cut unread none a
held_lines whole cut unread none list k a (inl refused) fault h = refused_list whole cut unread none k.before.told list k.before.faults k.now.faults a refused fault h
held_lines whole cut unread none list k a (inr (inl refused)) fault h =
    let kind = program_kind k.before.told k.before.faults k.now.faults 0 refused.entries a refused.refused in
    subst (ByEnd whole cut unread none) (sym kind.answers) (kind_part whole cut unread none _ kind.place kind.alone kind.kind (λ is. fault (kind.answers ∙ is)) h)
held_lines whole cut unread none list k a (inr (inr memory)) fault h = subst (ByEnd whole cut unread none) (sym memory) h

-- ---- by how the samples ended
-- samples end with their file, a bad line, a failed read, or a limit of theirs
abbrev IsOfSamples : Answer → Type 0
IsOfSamples Answer.Ok = ⊤
IsOfSamples (Answer.BadSample line) = ⊤
IsOfSamples Answer.ReadFault = ⊤
IsOfSamples (Answer.Limit which) = is_of_samples which ≡ true
IsOfSamples answer = ⊥

ended_limit : (e : Ending) → ((cap : Cap) → e ≡ Limit cap → is_of_samples cap ≡ true) → IsOfSamples (ended_by e)
ended_limit End limit = tt
ended_limit (BadSample line) limit = tt
ended_limit (Limit cap) limit = limit cap refl

verdict_limit : (widths : List ℕ) (file : Option (List ℕ)) → IsOfSamples (samples_verdict (2 ^ 40) widths file)
verdict_limit widths None = tt
verdict_limit widths (Some file) = ended_limit (fed_at_most (2 ^ 40) widths file).ending (λ cap e. fed_limit (2 ^ 40) widths file cap e)

abbrev AreOfSamples : List Answer → Type 0
AreOfSamples [] = ⊤
AreOfSamples (a ∷ rest) = IsOfSamples a × AreOfSamples rest

items_limits : (files : List ℕ → Option (List ℕ)) (entries : List Entry) (firsts items : List Item) (givens : List Given) → AreItemsOf (Some files) entries firsts → length items ≡ length firsts → length givens ≡ length firsts
    → AreAll (Some files) firsts items givens → AreOfSamples (map end_of items)
items_limits files entries firsts [] givens are m n all = tt
items_limits files [] [] (item ∷ items) givens are m n all = absurd (omega (arith, m))
items_limits files [] (first ∷ firsts) (item ∷ items) givens are m n all = absurd are
items_limits files (entry ∷ entries) [] (item ∷ items) givens are m n all = absurd are
items_limits files (entry ∷ entries) (first ∷ firsts) (item ∷ items) [] are m n all = absurd (omega (arith, n))
items_limits files (entry ∷ entries) (first ∷ firsts) (item ∷ items) (given ∷ givens) are m n all = (
  elim (item_end files entry first item given are.0 (all 0 first item given refl refl refl)) [
    | inl is ↦ subst IsOfSamples (sym is) (verdict_limit (conf_in first.parked).inputs (files entry.samples))
    | inr fault ↦ subst IsOfSamples (sym fault.0) tt
  ],
  items_limits files entries firsts items givens are.1 (omega (arith, m)) (omega (arith, n)) (λ i. all (suc i)),
)

samples_limit : (whole none : Type 0) (which : Cap) → is_of_samples which ≡ true → whole → ByLimit whole none which
samples_limit whole none Cap.SampleBytes is h = h
samples_limit whole none Cap.Samples is h = h
samples_limit whole none Cap.ProgramBytes is h = absurd (true≢false (sym is))
samples_limit whole none Cap.Nesting is h = absurd (true≢false (sym is))
samples_limit whole none Cap.Turns is h = absurd (true≢false (sym is))
samples_limit whole none Cap.Equations is h = absurd (true≢false (sym is))
samples_limit whole none Cap.InputBytes is h = absurd (true≢false (sym is))
samples_limit whole none Cap.Outputs is h = absurd (true≢false (sym is))
samples_limit whole none Cap.Units is h = absurd (true≢false (sym is))
samples_limit whole none Cap.StallBytes is h = absurd (true≢false (sym is))
samples_limit whole none Cap.ConfigBytes is h = absurd (true≢false (sym is))
samples_limit whole none Cap.ListBytes is h = absurd (true≢false (sym is))

part_lines : (whole cut unread none : Type 0) (k : ℕ) (a other : Answer) → IsOfSamples a → whole → ByEnd whole cut unread none other → ByEnd whole cut unread none (part_or k a other)
part_lines whole cut unread none k (Answer.BadSample line) other is w h = w
part_lines whole cut unread none k (Answer.Limit which) other is w h = samples_limit whole none which is w
part_lines whole cut unread none k Answer.Ok other is w h = h
part_lines whole cut unread none k Answer.ReadFault other is w h = h
part_lines whole cut unread none k a other is w h = absurd is

first_lines : (whole cut unread none : Type 0) (k : ℕ) (rest : List Answer) → AreOfSamples rest → whole → ByEnd whole cut unread none (first_part k rest)
first_lines whole cut unread none k [] are w = w
first_lines whole cut unread none k (a ∷ rest) are w = part_lines whole cut unread none k a (first_part (k + 1) rest) are.0 w (first_lines whole cut unread none (k + 1) rest are.1 w)

done_lines : (whole cut unread none : Type 0) (rest : List Answer) → AreOfSamples rest → whole → ByEnd whole cut unread none (answer_of_all rest)
done_lines whole cut unread none rest are w = by_test (list_any is_read_fault rest)
  where
    by_test : (b : Bool) → ByEnd whole cut unread none (cond b Answer.ReadFault (first_part 0 rest))
    by_test true = inr w
    by_test false = first_lines whole cut unread none 0 rest are w

no_sample : (last : Got) → (last ≡ Got.Sample → ⊥) → is_sample last ≡ false
no_sample Got.Sample never = absurd (never refl)
no_sample Got.End never = refl
no_sample (Got.BadSample line) never = refl
no_sample Got.ReadFault never = refl
no_sample (Got.Limit which) never = refl

-- ---- what was written
module _ (files : List ℕ → Option (List ℕ)) (list : List ℕ) (entries : List Entry) (firsts items : List Item) (start now : World) (before : ℕ) (has : HasList (Some files) list entries) (are : AreItemsOf (Some files) entries firsts)
    (told : now.told ≡ Some files) (le : before ≤ start.faults) where
  shared_lines : AreShared firsts items start now → HaveLines files list before now.faults (Appends start.tape now.tape)
  shared_lines shared =
      let givens = shared.givens in
      let all : AreAll (Some files) firsts items givens = subst (λ (t : Told). AreAll t firsts items givens) told shared.each in
      let item_of : (i : ℕ) (first : Item) → slice_get firsts i ≡ Some first → (item : Item) × (slice_get items i ≡ Some item) = λ i first e. got_at items i (let a = got_within firsts i first e in let n = shared.items_count in omega (arith, a, n)) in
      let first_of_given : (i : ℕ) (given : Given) → slice_get givens i ≡ Some given → (first : Item) × (slice_get firsts i ≡ Some first) = λ i given e. got_at firsts i (let a = got_within givens i given e in let n = shared.givens_count in omega (arith, a, n)) in
      let fed : WereFed files firsts givens = λ i first given e g. (let item = item_of i first e in record { feed = item.0.feed; fed = last_given (Some files) first item.0 given (all i first item.0 given e item.1 g) }) in
      let over : (i : ℕ) (given : Given) → slice_get givens i ≡ Some given → is_sample given.last ≡ false =
      λ i given g. (let first = first_of_given i given g in let item = item_of i first.0 first.1 in no_sample given.last (not_sample (Some files) first.0 item.0 given (all i first.0 item.0 given first.1 item.1 g))) in
      let same = same_wholes files firsts givens shared.givens_count over in
      have_lines files list entries firsts givens (Appends start.tape now.tape) has are shared.givens_count fed before start.faults now.faults le (subst (λ (t : Told). RoseBy start.faults now.faults (read_faults t firsts givens)) told shared.faults)
      (subst (λ (gs : List Given). Appends start.tape now.tape (share_text (parts_of firsts gs))) (sym same) shared.text)

  stopped_lines : AreStopped firsts items start now → HaveLines files list before now.faults (AppendsFront start.tape now.tape)
  stopped_lines stopped =
      let givens = stopped.givens in
      let item_of : (i : ℕ) (first : Item) → slice_get firsts i ≡ Some first → (item : Item) × (slice_get items i ≡ Some item) = λ i first e. got_at items i (let a = got_within firsts i first e in let n = stopped.items_count in omega (arith, a, n)) in
      let fed_at : (i : ℕ) (first : Item) (given : Given) → slice_get firsts i ≡ Some first → slice_get givens i ≡ Some given → WasFed files first given = λ i first given e g.
      (let item = item_of i first e in
      elim (cases_eq i stopped.place) [
        | inl here ↦ (
            let broken = stopped.here first item.0 given (sym (ap (slice_get firsts) here) ∙ e) (sym (ap (slice_get items) here) ∙ item.1) (sym (ap (slice_get givens) here) ∙ g) in
            record { feed = item.0.feed; fed = subst (λ (t : Told). HasFed first.feed t item.0.feed given.rows given.last) told broken.fed })
        | inr other ↦ (
            let resting = stopped.others i first item.0 given other e item.1 g in
            record { feed = item.0.feed; fed = subst (λ (t : Told). HasFed first.feed t item.0.feed given.rows given.last) told (subst (λ (l : Got). HasFed first.feed now.told item.0.feed given.rows l) (sym resting.last) resting.taken.fed) })
      ]) in
      have_lines files list entries firsts givens (AppendsFront start.tape now.tape) has are stopped.givens_count fed_at before start.faults now.faults le (subst (λ (t : Told). RoseBy start.faults now.faults (read_faults t firsts givens)) told stopped.faults)
      (stopped.text (wholes_in files firsts givens) (may_all files entries firsts givens are stopped.givens_count fed_at))

  taken_lines : (unread none : Type 0) (ob on : ℕ) (a : Answer) → HaveTaken firsts items start now ob on a → ByEnd (HaveLines files list before now.faults (Appends start.tape now.tape)) (HaveLines files list before now.faults (AppendsFront start.tape now.tape)) unread none a
  taken_lines unread none ob on a (inl done) =
      let shared = done.0 in
      let limits = items_limits files entries firsts items shared.givens are shared.items_count shared.givens_count (subst (λ (t : Told). AreAll t firsts items shared.givens) told shared.each) in
      subst (ByEnd (HaveLines files list before now.faults (Appends start.tape now.tape)) (HaveLines files list before now.faults (AppendsFront start.tape now.tape)) unread none) (sym done.1)
      (done_lines (HaveLines files list before now.faults (Appends start.tape now.tape)) (HaveLines files list before now.faults (AppendsFront start.tape now.tape)) unread none (map end_of items) limits (shared_lines shared))
  taken_lines unread none ob on a (inr stopped) =
      subst (ByEnd (HaveLines files list before now.faults (Appends start.tape now.tape)) (HaveLines files list before now.faults (AppendsFront start.tape now.tape)) unread none) (sym stopped.1.0) (stopped_lines stopped.0)

-- the list was not read, or a program of it
unread_list : (files : List ℕ → Option (List ℕ)) (list : List ℕ) (k : Call) (a : Answer) → k.before.told ≡ Some files → k.new ≡ k.old → IsListRefusal k.before.told list k.before.faults k.now.faults a ⊎ (IsProgramRefused list k a ⊎ (a ≡ Answer.Memory)) → a ≡ Answer.ReadFault → IsUnread files list k
unread_list files list k a told same (inl refused) is = record {
  cause = inl (subst (λ (t : Told). IsListRefusal t list k.before.faults k.now.faults Answer.ReadFault) told (subst (λ (x : Answer). IsListRefusal k.before.told list k.before.faults k.now.faults x) is refused));
  unwritten = same;
}
unread_list files list k a told same (inr (inl refused)) is = record {
  cause = inr (
    refused.entries,
    (
      subst (λ (t : Told). HasList t list refused.entries) told refused.has,
      subst (λ (t : Told). IsProgramRefusal t k.before.faults k.now.faults 0 refused.entries Answer.ReadFault) told (subst (λ (x : Answer). IsProgramRefusal k.before.told k.before.faults k.now.faults 0 refused.entries x) is refused.refused),
    ),
  );
  unwritten = same;
}
unread_list files list k a told same (inr (inr memory)) is = absurd (let never : Answer.ReadFault ≡ Answer.Memory = sym is ∙ memory in cc)

pub share_lines : (files : List ℕ → Option (List ℕ)) (list : List ℕ) (stripes : ℕ) (k : Call) (a : Answer) → k.before.told ≡ Some files → IsSharedBy list stripes k a → AreSharedLines files list k a
share_lines files list stripes k a told (inl held) =
    held_lines (HaveLines files list k.before.faults k.now.faults (Appends k.old k.new)) (HaveLines files list k.before.faults k.now.faults (AppendsFront k.old k.new)) (IsUnread files list k) (k.new ≡ k.old) list k a held.cause (unread_list files list k a told held.unwritten held.cause) held.unwritten
share_lines files list stripes k a told (inr shared) =
    let has = subst (λ (t : Told). HasList t list shared.entries) told shared.has in
    let ready = subst (λ (t : Told). AreItemsOf t shared.entries shared.firsts) told shared.ready in
    taken_lines files list shared.entries shared.firsts shared.items (world k.before.told k.before.faults k.old) (world k.before.told k.now.faults k.new) k.before.faults has ready told (omega arith) (IsUnread files list k) (k.new ≡ k.old) k.out_before k.out_now a shared.turned.taken
