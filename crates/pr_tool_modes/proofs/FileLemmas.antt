-- Files that are read whole: what comes of them, and the verdict on them.
use Rattle.std.proofs.Common.{◌≡◌, ◌+◌, ◌<◌, ◌≤◌, ℕ, true, List, length, replicate, Option, Some, None, IfSome, refl, sym, ap, subst, ◌∙◌, arith, inl, inr}
use Rattle.std.proofs.lemmas.List.{length-replicate}
use Rattle.pr_base.specs.declared.caps.Cap.{Cap}
use Rattle.pr_edge.specs.Count.{Rose}
use Rattle.pr_edge.specs.Files.{Told, OfFile, IsMissing, HasReadCause}
use Rattle.pr_tool_answers.specs.declared.answers.Answer.{Answer}
use Rattle.pr_tool_answers.specs.Owed.{IsOwed}
use Rattle.pr_tool_modes.specs.Files.{ShowsFault, IsLong, IsUnread, IsFileRefusal, IsRefusedFile}
use Rattle.pr_tool_modes.proofs.ReasonLemmas.{refuses, IsKind}

pub long_file : (told : Told) (name : List ℕ) (limit : ℕ) → OfFile told name (λ file. limit < length file) → (IsMissing told name → ⊥) → IsLong told name limit
long_file None name limit h there =
    let zeros : List ℕ = replicate (limit + 1) 0 in
    record { text = zeros; file = tt; long = omega (arith, length-replicate {A = ℕ} (limit + 1) 0) }
long_file (Some files) name limit h there = elim (files name) as (λ o. files name ≡ o → IfSome o (λ file. limit < length file) → IsLong (Some files) name limit) [
  | None ↦ λ e k. absurd (there e)
  | Some file ↦ λ e k. record { text = file; file = e; long = k }
] refl h

-- ---- counts
-- a count that rose later rose
pub rose_earlier : (a b c : ℕ) → a ≤ b → Rose b c → Rose a c
rose_earlier a b c le rose = omega (arith, le, rose)

-- a cause of a later call is one of both together
pub cause_earlier : (told : Told) (name : List ℕ) (a b n : ℕ) → a ≤ b → HasReadCause told name b n → HasReadCause told name a n
cause_earlier told name a b n h (inl missing) = inl missing
cause_earlier told name a b n h (inr rose) = inr (rose_earlier a b n h rose)

pub unread_earlier : (limit : ℕ) (cap : Cap) (told : Told) (name : List ℕ) (a b n : ℕ) (answer : Answer) → a ≤ b → IsUnread limit cap told name b n answer → IsUnread limit cap told name a n answer
unread_earlier limit cap told name a b n answer h (inl long) = inl long
unread_earlier limit cap told name a b n answer h (inr (inl read)) = inr (inl (read.0, cause_earlier told name a b n h read.1))
unread_earlier limit cap told name a b n answer h (inr (inr memory)) = inr (inr memory)

-- an answer that shows a failed read shows it of both calls together, where none failed in the first
pub shown_earlier : (a b n : ℕ) (answer : Answer) → b ≡ a → ShowsFault b n answer → ShowsFault a n answer
shown_earlier a b n answer steady (inl is) = inl is
shown_earlier a b n answer steady (inr same) = inr (same ∙ steady)

-- ---- the verdict
module _ (limit : ℕ) (cap : Cap) (reasons : List ℕ → Answer → Type 0) where
  -- a refusal is the verdict, or a fault that was counted, or want of memory
  pub refusal_owed : (files : List ℕ → Option (List ℕ)) (name : List ℕ) (sb sn ob on : ℕ) (a : Answer) → IsFileRefusal limit cap reasons (Some files) name sb sn a → IsOwed (IsRefusedFile limit cap reasons files name) sb sn ob on a
  refusal_owed files name sb sn ob on a (inl (inl long)) = inl (inr (inl long))
  refusal_owed files name sb sn ob on a (inl (inr (inl (is, inl missing)))) = inl (inl (is, missing))
  refusal_owed files name sb sn ob on a (inl (inr (inl (is, inr rose)))) = inr (inl (is, rose))
  refusal_owed files name sb sn ob on a (inl (inr (inr memory))) = inr (inr (inr memory))
  refusal_owed files name sb sn ob on a (inr has) = inl (inr (inr has))

  module _ (files : List ℕ → Option (List ℕ)) (name : List ℕ) where
    same_text : (s t : List ℕ) → files name ≡ Some s → files name ≡ Some t → s ≡ t
    same_text s t is by = let both : Some s ≡ Some t = sym is ∙ by in cc

    no_text : {A : Type 0} (t : List ℕ) → files name ≡ None → files name ≡ Some t → A
    no_text t is by = absurd (let no : None ≡ Some t = sym is ∙ by in cc)

    never_both : {A : Type 0} (s t : List ℕ) → files name ≡ Some s → files name ≡ Some t → limit < length s → length t ≤ limit → A
    never_both s t is by more less = absurd (omega (arith, more, less, ap length (same_text s t is by)))

    -- no file comes to two of them
    pub one_refused : ((text : List ℕ) (a b : Answer) → reasons text a → reasons text b → a ≡ b) → (a b : Answer) → IsRefusedFile limit cap reasons files name a → IsRefusedFile limit cap reasons files name b → a ≡ b
    one_refused one a b (inl is) (inl by) = is.0 ∙ sym by.0
    one_refused one a b (inl is) (inr (inl by)) = no_text by.1.text is.1 by.1.file
    one_refused one a b (inl is) (inr (inr by)) = no_text by.text is.1 by.file
    one_refused one a b (inr (inl is)) (inl by) = no_text is.1.text by.1 is.1.file
    one_refused one a b (inr (inl is)) (inr (inl by)) = is.0 ∙ sym by.0
    one_refused one a b (inr (inl is)) (inr (inr by)) = never_both is.1.text by.text is.1.file by.file is.1.long by.short
    one_refused one a b (inr (inr is)) (inl by) = no_text is.text by.1 is.file
    one_refused one a b (inr (inr is)) (inr (inl by)) = never_both by.1.text is.text by.1.file is.file by.1.long is.short
    one_refused one a b (inr (inr is)) (inr (inr by)) = one is.text a b is.refused (subst (λ (t : List ℕ). reasons t b) (same_text by.text is.text by.file is.file) by.refused)

    -- nor is a file refused that has a text for which there is no reason
    pub never_refused : (a : Answer) (text : List ℕ) → IsRefusedFile limit cap reasons files name a → files name ≡ Some text → length text ≤ limit → (reasons text a → ⊥) → ⊥
    never_refused a text (inl is) by short good = no_text text is.1 by
    never_refused a text (inr (inl is)) by short good = never_both is.1.text text is.1.file by is.1.long short
    never_refused a text (inr (inr is)) by short good = good (subst (λ (t : List ℕ). reasons t a) (same_text is.text text is.file by) is.refused)

  -- ---- what a refusal answers
  -- an answer that refuses a text, a read fault, or want of memory
  pub refusal_kind : (told : Told) (name : List ℕ) (before now : ℕ) (a : Answer) → refuses (Answer.Limit cap) ≡ true → ((text : List ℕ) → reasons text a → refuses a ≡ true) → IsFileRefusal limit cap reasons told name before now a
      → IsKind (HasReadCause told name before now) a
  refusal_kind told name before now a limits all (inl (inl long)) = inl (ap refuses long.0 ∙ limits)
  refusal_kind told name before now a limits all (inl (inr (inl read))) = inr (inl read)
  refusal_kind told name before now a limits all (inl (inr (inr memory))) = inr (inr memory)
  refusal_kind told name before now a limits all (inr has) = inl (all has.text has.refused)
