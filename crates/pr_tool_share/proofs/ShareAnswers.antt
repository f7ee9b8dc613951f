-- What the mode answers, and why.
use Rattle.std.proofs.Common.{◌≡◌, ◌⊎◌, ◌≤◌, ◌+◌, ◌∙◌, ◌||◌, ℕ, suc, Bool, true, false, cond, List, [], ◌∷◌, length, map, Option, None, refl, sym, ap, subst, arith, inl, inr, true≢false}
use Rattle.std.specs.List.{list_any}
use Rattle.std.specs.Simd.Lanes.{zip2}
use Rattle.pr_base.specs.declared.caps.Cap.{Cap}
use Rattle.pr_edge.specs.Count.{Rose}
use Rattle.pr_edge.specs.Files.{Told, IsMissing, HasReadCause}
use Rattle.pr_samples.specs.declared.feed.Feed.{Feed}
use Rattle.pr_samples.specs.declared.feed.Got.{Got}
use Rattle.pr_share.specs.Items.{last_of, Given, world, has_failed, read_faults}
use Rattle.pr_tool_answers.specs.declared.answers.Answer.{Answer}
use Rattle.pr_tool_modes.specs.Calls.{Call}
use Rattle.pr_tool_modes.specs.Evaluations.{answer_by}
use Rattle.pr_tool_modes.proofs.ReasonLemmas.{refuses, IsKind}
use Rattle.pr_tool_share.specs.Lists.{IsBadList, IsListRefusal, part_answer}
use Rattle.pr_tool_share.specs.Ends.{is_read_fault, part_or, first_part, answer_of_all}
use Rattle.pr_tool_share.specs.Items.{Item, end_of}
use Rattle.pr_tool_share.specs.Shares.{IsProgramRefused, HaveTaken, IsSharedBy}
use Rattle.pr_tool_share.proofs.ListVerdicts.{program_kind}
use Rattle.pr_tool_share.proofs.EndLemmas.{AreAll, count-cons}

-- ---- answers that never come
-- where nothing was written
abbrev is_other : Answer → Bool
is_other Answer.Usage = true
is_other Answer.WriteFault = true
is_other answer = false

part_other : (k : ℕ) (alone : Answer) → refuses alone ≡ true → (is_other (part_answer k alone) ≡ false) × (is_read_fault (part_answer k alone) ≡ false)
part_other k Answer.Ok is = absurd (true≢false (sym is))
part_other k Answer.Usage is = absurd (true≢false (sym is))
part_other k Answer.WriteFault is = absurd (true≢false (sym is))
part_other k Answer.ReadFault is = absurd (true≢false (sym is))
part_other k alone is = (refl, refl)

kind_other : (cause : Type 0) (k : ℕ) (alone : Answer) → IsKind cause alone → is_other (part_answer k alone) ≡ false
kind_other cause k alone (inl refused) = (part_other k alone refused).0
kind_other cause k alone (inr (inl read)) = ap (λ (a : Answer). is_other (part_answer k a)) read.0
kind_other cause k alone (inr (inr memory)) = ap (λ (a : Answer). is_other (part_answer k a)) memory

kind_fault : (cause : Type 0) (k : ℕ) (alone : Answer) → IsKind cause alone → part_answer k alone ≡ Answer.ReadFault → cause
kind_fault cause k alone (inl refused) is = absurd (true≢false (sym (ap is_read_fault is) ∙ (part_other k alone refused).1))
kind_fault cause k alone (inr (inl read)) is = read.1
kind_fault cause k alone (inr (inr memory)) is = absurd (let no : Answer.Memory ≡ Answer.ReadFault = sym (ap (part_answer k) memory) ∙ is in cc)

bad_other : (text : List ℕ) (a : Answer) → IsBadList text a → (is_other a ≡ false) × (is_read_fault a ≡ false)
bad_other text (Answer.BadList line) is = (refl, refl)
bad_other text a is = absurd is

list_other : (told : Told) (list : List ℕ) (before now : ℕ) (a : Answer) → IsListRefusal told list before now a → is_other a ≡ false
list_other told list before now a (inl (inl long)) = ap is_other long.0
list_other told list before now a (inl (inr (inl read))) = ap is_other read.0
list_other told list before now a (inl (inr (inr memory))) = ap is_other memory
list_other told list before now a (inr has) = (bad_other has.text a has.refused).0

held_other : (list : List ℕ) (k : Call) (a : Answer) → IsListRefusal k.before.told list k.before.faults k.now.faults a ⊎ (IsProgramRefused list k a ⊎ (a ≡ Answer.Memory)) → is_other a ≡ false
held_other list k a (inl refused) = list_other k.before.told list k.before.faults k.now.faults a refused
held_other list k a (inr (inl refused)) =
    let kind = program_kind k.before.told k.before.faults k.now.faults 0 refused.entries a refused.refused in
    ap is_other kind.answers ∙ kind_other _ kind.place kind.alone kind.kind
held_other list k a (inr (inr memory)) = ap is_other memory

-- where the samples of all programs have ended
abbrev is_never : Answer → Bool
is_never Answer.Ok = false
is_never (Answer.Part program cause) = false
is_never Answer.ReadFault = false
is_never answer = true

part_never : (k : ℕ) (a other : Answer) → is_never other ≡ false → is_never (part_or k a other) ≡ false
part_never k (Answer.Syntax token) other h = refl
part_never k (Answer.Scope rule item) other h = refl
part_never k (Answer.NoWidth equation) other h = refl
part_never k (Answer.NoFit unit) other h = refl
part_never k (Answer.BadSample line) other h = refl
part_never k (Answer.Limit which) other h = refl
part_never k a other h = h

first_never : (k : ℕ) (rest : List Answer) → is_never (first_part k rest) ≡ false
first_never k [] = refl
first_never k (a ∷ rest) = part_never k a (first_part (k + 1) rest) (first_never (k + 1) rest)

all_never : (rest : List Answer) → is_never (answer_of_all rest) ≡ false
all_never rest = by_test (list_any is_read_fault rest)
  where
    by_test : (b : Bool) → is_never (cond b Answer.ReadFault (first_part 0 rest)) ≡ false
    by_test true = refl
    by_test false = first_never 0 rest

-- ---- a read fault has its cause
part_good : (k : ℕ) (a other : Answer) → is_read_fault other ≡ false → is_read_fault (part_or k a other) ≡ false
part_good k (Answer.Syntax token) other h = refl
part_good k (Answer.Scope rule item) other h = refl
part_good k (Answer.NoWidth equation) other h = refl
part_good k (Answer.NoFit unit) other h = refl
part_good k (Answer.BadSample line) other h = refl
part_good k (Answer.Limit which) other h = refl
part_good k a other h = h

first_good : (k : ℕ) (rest : List Answer) → is_read_fault (first_part k rest) ≡ false
first_good k [] = refl
first_good k (a ∷ rest) = part_good k a (first_part (k + 1) rest) (first_good (k + 1) rest)

some_fault : (rest : List Answer) → answer_of_all rest ≡ Answer.ReadFault → list_any is_read_fault rest ≡ true
some_fault rest is = by_test (list_any is_read_fault rest) refl is
  where
    by_test : (b : Bool) → list_any is_read_fault rest ≡ b → cond b Answer.ReadFault (first_part 0 rest) ≡ Answer.ReadFault → b ≡ true
    by_test true e is = refl
    by_test false e is = absurd (true≢false (sym (ap is_read_fault is) ∙ first_good 0 rest))

-- a shelf that tells nothing misses no file
untold_failed : (f : Feed) (last : Got) → is_read_fault (answer_by last) ≡ true → has_failed None f last ≡ true
untold_failed f Got.Sample is = absurd (true≢false (sym is))
untold_failed f Got.End is = absurd (true≢false (sym is))
untold_failed f (Got.BadSample line) is = absurd (true≢false (sym is))
untold_failed f Got.ReadFault is = refl
untold_failed f (Got.Limit cap) is = absurd (true≢false (sym is))

or_cases : (a b : Bool) → a || b ≡ true → (a ≡ true) ⊎ (b ≡ true)
or_cases true b is = inl refl
or_cases false b is = inr is

untold_faults : (firsts items : List Item) (givens : List Given) → length items ≡ length firsts → length givens ≡ length firsts → AreAll None firsts items givens → list_any is_read_fault (map end_of items) ≡ true → 1 ≤ read_faults None firsts givens
untold_faults firsts [] givens m n all is = absurd (true≢false (sym is))
untold_faults [] (item ∷ items) givens m n all is = absurd (omega (arith, m))
untold_faults (first ∷ firsts) (item ∷ items) [] m n all is = absurd (omega (arith, n))
untold_faults (first ∷ firsts) (item ∷ items) (given ∷ givens) m n all is =
    let counts = count-cons (has_failed None first.feed given.last) (zip2 (λ (x : Item) (g : Given). has_failed None x.feed g.last) firsts givens) in
    elim (or_cases (is_read_fault (end_of item)) (list_any is_read_fault (map end_of items)) is) [
      | inl here ↦ (
          let last : is_read_fault (answer_by given.last) ≡ true = ap (λ (o : Option Got). is_read_fault (answer_by (last_of o))) (sym (all 0 first item given refl refl refl).ended) ∙ here in
          let one : cond {A = ℕ} (has_failed None first.feed given.last) 1 0 ≡ 1 = ap (λ (b : Bool). cond {A = ℕ} b 1 0) (untold_failed first.feed given.last last) in
          omega (arith, counts, one))
      | inr later ↦ (
          let rest = untold_faults firsts items givens (omega (arith, m)) (omega (arith, n)) (λ i. all (suc i)) later in
          omega (arith, counts, rest))
    ]

untold_cause : (name : List ℕ) (before now : ℕ) (told : Told) → told ≡ None → HasReadCause told name before now → Rose before now
untold_cause name before now told untold (inl missing) = absurd (subst (λ (t : Told). IsMissing t name) untold missing)
untold_cause name before now told untold (inr rose) = rose

list_fault : (told : Told) (list : List ℕ) (before now : ℕ) (a : Answer) → told ≡ None → IsListRefusal told list before now a → a ≡ Answer.ReadFault → Rose before now
list_fault told list before now a untold (inl (inl long)) is = absurd (let no : Answer.ReadFault ≡ Answer.Limit Cap.ListBytes = sym is ∙ long.0 in cc)
list_fault told list before now a untold (inl (inr (inl read))) is = untold_cause list before now told untold read.1
list_fault told list before now a untold (inl (inr (inr memory))) is = absurd (let no : Answer.ReadFault ≡ Answer.Memory = sym is ∙ memory in cc)
list_fault told list before now a untold (inr has) is = absurd (true≢false (sym (ap is_read_fault is) ∙ (bad_other has.text a has.refused).1))

-- ---- the mode
-- where nothing is told a read fault was counted
pub share_fault : (list : List ℕ) (stripes : ℕ) (k : Call) (a : Answer) → IsSharedBy list stripes k a → a ≡ Answer.ReadFault → k.before.told ≡ None → Rose k.before.faults k.now.faults
share_fault list stripes k a (inl held) is untold = by_cause held.cause
  where
    by_cause : IsListRefusal k.before.told list k.before.faults k.now.faults a ⊎ (IsProgramRefused list k a ⊎ (a ≡ Answer.Memory)) → Rose k.before.faults k.now.faults
    by_cause (inl refused) = list_fault k.before.told list k.before.faults k.now.faults a untold refused is
    by_cause (inr (inl refused)) =
        let kind = program_kind k.before.told k.before.faults k.now.faults 0 refused.entries a refused.refused in
        let cause = kind_fault _ kind.place kind.alone kind.kind (sym kind.answers ∙ is) in
        untold_cause cause.0 k.before.faults k.now.faults k.before.told untold cause.1
    by_cause (inr (inr memory)) = absurd (let no : Answer.ReadFault ≡ Answer.Memory = sym is ∙ memory in cc)
share_fault list stripes k a (inr shared) is untold = by_end shared.turned.taken
  where
    by_end : HaveTaken shared.firsts shared.items (world k.before.told k.before.faults k.old) (world k.before.told k.now.faults k.new) k.out_before k.out_now a → Rose k.before.faults k.now.faults
    by_end (inl done) =
        let s = done.0 in
        let all = subst (λ (t : Told). AreAll t shared.firsts shared.items s.givens) untold s.each in
        let n = untold_faults shared.firsts shared.items s.givens s.items_count s.givens_count all (some_fault (map end_of shared.items) (sym done.1 ∙ is)) in
        let counted = subst (λ (t : Told). 1 ≤ read_faults t shared.firsts s.givens) (sym untold) n in
        let rose = s.faults in
        omega (arith, counted, rose)
    by_end (inr stopped) = absurd (let no : Answer.ReadFault ≡ Answer.WriteFault = sym is ∙ stopped.1.0 in cc)

pub share_write : (list : List ℕ) (stripes : ℕ) (k : Call) (a : Answer) → IsSharedBy list stripes k a → a ≡ Answer.WriteFault → Rose k.out_before k.out_now
share_write list stripes k a (inl held) is = absurd (true≢false (sym (ap is_other is) ∙ held_other list k a held.cause))
share_write list stripes k a (inr shared) is = by_end shared.turned.taken
  where
    by_end : HaveTaken shared.firsts shared.items (world k.before.told k.before.faults k.old) (world k.before.told k.now.faults k.new) k.out_before k.out_now a → Rose k.out_before k.out_now
    by_end (inl done) = absurd (true≢false (sym (ap is_never is) ∙ (ap is_never done.1 ∙ all_never (map end_of shared.items))))
    by_end (inr stopped) = stopped.1.1

pub share_memory : (list : List ℕ) (stripes : ℕ) (k : Call) (a : Answer) → IsSharedBy list stripes k a → a ≡ Answer.Memory → k.new ≡ k.old
share_memory list stripes k a (inl held) is = held.unwritten
share_memory list stripes k a (inr shared) is = absurd (by_end shared.turned.taken)
  where
    by_end : HaveTaken shared.firsts shared.items (world k.before.told k.before.faults k.old) (world k.before.told k.now.faults k.new) k.out_before k.out_now a → ⊥
    by_end (inl done) = true≢false (sym (ap is_never is) ∙ (ap is_never done.1 ∙ all_never (map end_of shared.items)))
    by_end (inr stopped) = let no : Answer.Memory ≡ Answer.WriteFault = sym is ∙ stopped.1.0 in cc

pub share_usage : (list : List ℕ) (stripes : ℕ) (k : Call) (a : Answer) → IsSharedBy list stripes k a → a ≡ Answer.Usage → ⊥
share_usage list stripes k a (inl held) is = true≢false (sym (ap is_other is) ∙ held_other list k a held.cause)
share_usage list stripes k a (inr shared) is = by_end shared.turned.taken
  where
    by_end : HaveTaken shared.firsts shared.items (world k.before.told k.before.faults k.old) (world k.before.told k.now.faults k.new) k.out_before k.out_now a → ⊥
    by_end (inl done) = true≢false (sym (ap is_never is) ∙ (ap is_never done.1 ∙ all_never (map end_of shared.items)))
    by_end (inr stopped) = let no : Answer.Usage ≡ Answer.WriteFault = sym is ∙ stopped.1.0 in cc
