-- How the samples of programs ended, and the verdict on them.
use Rattle.std.proofs.Common.{◌≡◌, ◌⊎◌, ◌≤◌, ◌+◌, ◌∙◌, ◌^◌, ◌||◌, not, ℕ, suc, Bool, true, false, cond, List, [], ◌∷◌, length, map, Option, Some, None, slice_get, is_some, refl, sym, ap, ap₂, subst, arith, inl, inr, true≢false}
use Rattle.std.specs.List.{list_any, count_by}
use Rattle.std.specs.Simd.Lanes.{zip2}
use Rattle.std.proofs.lemmas.List.Sums.{sum_by-cons}
use Rattle.pr_edge.specs.Files.{Told, IsMissing}
use Rattle.pr_conf.specs.Shape.{Shape}
use Rattle.pr_samples.specs.declared.feed.Feed.{Feed}
use Rattle.pr_samples.specs.declared.feed.Got.{Got}
use Rattle.pr_samples.specs.Got.{is_sample}
use Rattle.pr_samples.specs.Fed.{Fed, Ending, End, BadSample, Limit}
use Rattle.pr_samples.specs.Feed.{name_of, fed, Tells, SameFile}
use Rattle.pr_run.specs.Turns.{EndsBy}
use Rattle.pr_share.specs.Fed.{HasFed}
use Rattle.pr_share.specs.Items.{conf_in, last_of, Given, has_failed, read_faults, IsShared}
use Rattle.pr_tool_share.specs.Entries.{Entry}
use Rattle.pr_tool_answers.specs.declared.answers.Answer.{Answer}
use Rattle.pr_tool_modes.specs.Evaluations.{answer_by}
use Rattle.pr_tool_modes.specs.Ready.{IsFeedOf}
use Rattle.pr_tool_modes.specs.Samples.{fed_in, ended_by, samples_verdict}
use Rattle.pr_tool_modes.proofs.RunLemmas.{fed_is}
use Rattle.pr_tool_share.specs.Ends.{is_read_fault, samples_ends}
use Rattle.pr_tool_share.specs.Items.{Item, IsItemOf, AreItemsOf, end_of}
use Rattle.pr_tool_share.proofs.ItemLemmas.{confs_of}

-- ---- one program
-- the samples of its feed are those of its file
pub feed_fed : (widths name : List ℕ) (first f : Feed) (file : List ℕ) → IsFeedOf (2 ^ 40) widths name first → SameFile first f → fed f file ≡ fed_in widths file
feed_fed widths name first f file opened same = fed_is widths f.widths.items f.limit f.most (2 ^ 40) file (same.widths ∙ opened.inputs) (same.limit ∙ opened.limit) (same.most ∙ opened.bound)

pub first_fed : (widths name : List ℕ) (first : Feed) (file : List ℕ) → IsFeedOf (2 ^ 40) widths name first → fed first file ≡ fed_in widths file
first_fed widths name first file opened = fed_is widths first.widths.items first.limit first.most (2 ^ 40) file opened.inputs opened.limit opened.bound

module _ (files : List ℕ → Option (List ℕ)) (entry : Entry) (widths : List ℕ) (first f : Feed) (rows : List (List ℕ)) (opened : IsFeedOf (2 ^ 40) widths entry.samples first) where
  pub missing : files entry.samples ≡ None → IsMissing (Some files) (name_of first)
  missing e = ap files opened.file ∙ e

  pub tells : (file : List ℕ) → files entry.samples ≡ Some file → Tells (Some files) (name_of first) file
  tells file e = ap files opened.file ∙ e

  ended_as : (last : Got) (ending : Ending) → HasFed first (Some files) f rows last → (IsMissing (Some files) (name_of first) → ⊥) → ((file : List ℕ) → EndsBy last f file → (fed f file).ending ≡ ending)
      → samples_verdict (2 ^ 40) widths (files entry.samples) ≡ ended_by ending
  ended_as last ending has there ends = elim (files entry.samples) as (λ o. files entry.samples ≡ o → samples_verdict (2 ^ 40) widths o ≡ ended_by ending) [
    | None ↦ λ e. absurd (there (missing e))
    | Some file ↦ λ e.
        ap (λ (k : Fed). ended_by k.ending) (sym (feed_fed widths entry.samples first f file opened has.file)) ∙ ap ended_by (ends file (has.samples file (tells file e)).ends)
  ] refl

  -- a read of its samples failed, though its file is there
  failed_there : (file : List ℕ) → files entry.samples ≡ Some file → has_failed (Some files) first Got.ReadFault ≡ true
  failed_there file e = ap (λ (o : Option (List ℕ)). not (not (is_some o))) (tells file e)

  -- it ended as its samples do, or a read failed
  pub end_is : (last : Got) → HasFed first (Some files) f rows last → (last ≡ Got.Sample → ⊥)
      → (answer_by last ≡ samples_verdict (2 ^ 40) widths (files entry.samples)) ⊎ ((answer_by last ≡ Answer.ReadFault) × (has_failed (Some files) first last ≡ true))
  end_is Got.Sample has over = absurd (over refl)
  end_is Got.End has over = inl (sym (ended_as Got.End End has (λ lost. (has.missing lost).0) (λ file over. over.ends)))
  end_is (Got.BadSample line) has over = inl (sym (ended_as (Got.BadSample line) (BadSample line) has (λ lost. (has.missing lost).0) (λ file over. over.ends)))
  end_is (Got.Limit cap) has over = inl (sym (ended_as (Got.Limit cap) (Limit cap) has (λ lost. (has.missing lost).0) (λ file over. over.ends)))
  end_is Got.ReadFault has over = elim (files entry.samples) as (λ o. files entry.samples ≡ o → (Answer.ReadFault ≡ samples_verdict (2 ^ 40) widths o) ⊎ ((Answer.ReadFault ≡ Answer.ReadFault) × (has_failed (Some files) first Got.ReadFault ≡ true))) [
    | None ↦ λ e. inl refl
    | Some file ↦ λ e. inr (refl, failed_there file e)
  ] refl

-- no program has ended with a sample
pub not_sample : (told : Told) (first item : Item) (given : Given) → IsShared told first item given → given.last ≡ Got.Sample → ⊥
not_sample told first item given shared is =
    let some : is_some item.ended ≡ true = ap is_some shared.ended in
    let last : last_of item.ended ≡ Got.Sample = ap last_of shared.ended ∙ is in
    true≢false (ap is_sample (sym last) ∙ shared.taken.ended some)

-- how it ended
pub last_given : (told : Told) (first item : Item) (given : Given) → IsShared told first item given → HasFed first.feed told item.feed given.rows given.last
last_given told first item given shared = subst (λ (g : Got). HasFed first.feed told item.feed given.rows g) (ap last_of shared.ended) shared.taken.fed

pub item_end : (files : List ℕ → Option (List ℕ)) (entry : Entry) (first item : Item) (given : Given) → IsItemOf (Some files) entry first → IsShared (Some files) first item given
    → (end_of item ≡ samples_verdict (2 ^ 40) (conf_in first.parked).inputs (files entry.samples)) ⊎ ((end_of item ≡ Answer.ReadFault) × (has_failed (Some files) first.feed given.last ≡ true))
item_end files entry first item given is shared =
    let opened = subst (λ (c : Shape). IsFeedOf (2 ^ 40) c.inputs entry.samples first.feed) (sym is.parked.conf_is) is.parked.opened in
    let same : end_of item ≡ answer_by given.last = ap (λ (o : Option Got). answer_by (last_of o)) shared.ended in
    elim (end_is files entry (conf_in first.parked).inputs first.feed item.feed given.rows opened given.last (last_given (Some files) first item given shared) (not_sample (Some files) first item given shared)) [
      | inl is ↦ inl (same ∙ is)
      | inr fault ↦ inr (same ∙ fault.0, fault.1)
    ]

-- ---- all programs
pub ends_any : (items : List Item) → list_any is_read_fault (map end_of items) ≡ list_any (λ (i : Item). is_read_fault (end_of i)) items
ends_any [] = refl
ends_any (item ∷ items) = ap (λ (b : Bool). is_read_fault (end_of item) || b) (ends_any items)

or_right : (a b : Bool) → b ≡ true → a || b ≡ true
or_right true b e = refl
or_right false b e = e

pub count-cons : (b : Bool) (bs : List Bool) → count_by (λ x. x) (b ∷ bs) ≡ cond b 1 0 + count_by (λ x. x) bs
count-cons b bs = sum_by-cons (λ x. cond x 1 0) b bs

-- all ended as their samples do, or reads failed
pub record HaveFailed (files : List ℕ → Option (List ℕ)) (firsts items : List Item) (givens : List Given) : Type 0 where
  pub some : list_any is_read_fault (map end_of items) ≡ true
  pub counted : 1 ≤ read_faults (Some files) firsts givens

-- what is known of each program
abbrev pub AreAll : Told → List Item → List Item → List Given → Type 0
AreAll told firsts items givens = (i : ℕ) (first item : Item) (given : Given) → slice_get firsts i ≡ Some first → slice_get items i ≡ Some item → slice_get givens i ≡ Some given → IsShared told first item given

pub ends_are : (files : List ℕ → Option (List ℕ)) (entries : List Entry) (firsts items : List Item) (givens : List Given) → AreItemsOf (Some files) entries firsts → length items ≡ length firsts → length givens ≡ length firsts
    → AreAll (Some files) firsts items givens → (map end_of items ≡ samples_ends files entries (confs_of firsts)) ⊎ HaveFailed files firsts items givens
ends_are files [] [] [] givens are m n all = inl refl
ends_are files [] [] (item ∷ items) givens are m n all = absurd (omega (arith, m))
ends_are files [] (first ∷ firsts) items givens are m n all = absurd are
ends_are files (entry ∷ entries) [] items givens are m n all = absurd are
ends_are files (entry ∷ entries) (first ∷ firsts) [] givens are m n all = absurd (omega (arith, m))
ends_are files (entry ∷ entries) (first ∷ firsts) (item ∷ items) [] are m n all = absurd (omega (arith, n))
ends_are files (entry ∷ entries) (first ∷ firsts) (item ∷ items) (given ∷ givens) are m n all =
    let bs = zip2 (λ (x : Item) (g : Given). has_failed (Some files) x.feed g.last) firsts givens in
    let counts = count-cons (has_failed (Some files) first.feed given.last) bs in
    let later = ends_are files entries firsts items givens are.1 (omega (arith, m)) (omega (arith, n)) (λ i. all (suc i)) in
    elim (item_end files entry first item given are.0 (all 0 first item given refl refl refl)) [
      | inl is ↦ elim later [
        | inl rest ↦ inl (ap₂ (λ (a : Answer) (rest : List Answer). a ∷ rest) is rest)
        | inr fault ↦ inr (record {
          some = or_right (is_read_fault (end_of item)) _ fault.some;
          counted = (let k = fault.counted in omega (arith, counts, k));
        })
      ]
      | inr fault ↦ inr (record {
        some = ap (λ (a : Answer). is_read_fault a || list_any is_read_fault (map end_of items)) fault.0;
        counted = (let one : cond {A = ℕ} (has_failed (Some files) first.feed given.last) 1 0 ≡ 1 = ap (λ (b : Bool). cond {A = ℕ} b 1 0) fault.1 in omega (arith, counts, one));
      })
    ]
