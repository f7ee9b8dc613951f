-- What the mode came to, and the verdict on it.
use Rattle.std.proofs.Common.{◌≡◌, ◌⊎◌, ◌≤◌, ◌∙◌, ℕ, Bool, cond, List, map, Option, Some, sym, ap, subst, arith, inl, inr}
use Rattle.pr_edge.specs.Files.{Told}
use Rattle.pr_conf.specs.Shape.{Shape}
use Rattle.pr_share.specs.Items.{World, world, AreShared, read_faults}
use Rattle.pr_tool_share.specs.Entries.{Entry}
use Rattle.pr_tool_answers.specs.declared.answers.Answer.{Answer}
use Rattle.pr_tool_answers.specs.Owed.{IsOwed}
use Rattle.pr_tool_answers.proofs.OwedLemmas.{owed_by}
use Rattle.pr_tool_modes.specs.Calls.{Call}
use Rattle.pr_tool_share.specs.Lists.{HasList, IsListRefusal, IsRefusedList, IsProgramRefusal, IsRefusedProgram}
use Rattle.pr_tool_share.specs.Ends.{first_part, answer_of_all, samples_ends, AreLastVerdict, IsShareVerdict}
use Rattle.pr_tool_share.specs.Items.{Item, AreItemsOf, end_of}
use Rattle.pr_tool_share.specs.Shares.{IsProgramRefused, HaveTaken, IsSharedBy}
use Rattle.pr_tool_share.proofs.ListVerdicts.{list_owed, one_refused_list, never_list, one_entries, program_owed, one_refused_program, never_program, one_confs}
use Rattle.pr_tool_share.proofs.ItemLemmas.{confs_of, are_compiled}
use Rattle.pr_tool_share.proofs.EndLemmas.{AreAll, ends_are}

-- ---- from what it came to
next_owed : (files : List ℕ → Option (List ℕ)) (list : List ℕ) (entries : List Entry) (sb sn ob on : ℕ) (a : Answer) → HasList (Some files) list entries
    → IsOwed (λ o. IsRefusedProgram files 0 entries o ⊎ AreLastVerdict files entries o) sb sn ob on a → IsOwed (IsShareVerdict files list) sb sn ob on a
next_owed files list entries sb sn ob on a has owed =
    owed_by (λ o. IsRefusedProgram files 0 entries o ⊎ AreLastVerdict files entries o) (IsShareVerdict files list) sb sn ob on a (λ next. inr (record { entries = entries; has = has; next = next })) owed

-- the samples of all programs have ended
done_owed : (files : List ℕ → Option (List ℕ)) (entries : List Entry) (firsts items : List Item) (start now : World) (sb ob on : ℕ) (a : Answer) → AreItemsOf (Some files) entries firsts → start.told ≡ Some files → now.told ≡ Some files → sb ≤ start.faults
    → AreShared firsts items start now → a ≡ answer_of_all (map end_of items) → IsOwed (AreLastVerdict files entries) sb now.faults ob on a
done_owed files entries firsts items start now sb ob on a ready before told le shared is =
    let all = subst (λ (t : Told). AreAll t firsts items shared.givens) told shared.each in
    elim (ends_are files entries firsts items shared.givens ready shared.items_count shared.givens_count all) [
      | inl same ↦ inl (record { confs = confs_of firsts; compiled = are_compiled (Some files) entries firsts ready; last = is ∙ ap answer_of_all same })
      | inr failed ↦ (
          let counted = subst (λ (t : Told). 1 ≤ read_faults t firsts shared.givens) (sym told) failed.counted in
          let rose = shared.faults in
          inr (inl (is ∙ ap (λ (b : Bool). cond b Answer.ReadFault (first_part 0 (map end_of items))) failed.some, omega (arith, counted, rose, le))))
    ]

taken_owed : (files : List ℕ → Option (List ℕ)) (entries : List Entry) (firsts items : List Item) (start now : World) (sb ob on : ℕ) (a : Answer) → AreItemsOf (Some files) entries firsts → start.told ≡ Some files → now.told ≡ Some files → sb ≤ start.faults
    → HaveTaken firsts items start now ob on a → IsOwed (AreLastVerdict files entries) sb now.faults ob on a
taken_owed files entries firsts items start now sb ob on a ready before told le (inl done) = done_owed files entries firsts items start now sb ob on a ready before told le done.0 done.1
taken_owed files entries firsts items start now sb ob on a ready before told le (inr stopped) = inr (inr (inl (stopped.1.0, stopped.1.1)))

held_owed : (files : List ℕ → Option (List ℕ)) (list : List ℕ) (k : Call) (a : Answer) → k.before.told ≡ Some files → IsListRefusal k.before.told list k.before.faults k.now.faults a ⊎ (IsProgramRefused list k a ⊎ (a ≡ Answer.Memory))
    → IsOwed (IsShareVerdict files list) k.before.faults k.now.faults k.out_before k.out_now a
held_owed files list k a told (inl refused) =
    owed_by (IsRefusedList files list) (IsShareVerdict files list) k.before.faults k.now.faults k.out_before k.out_now a (λ is. inl is)
    (list_owed files list k.before.faults k.now.faults k.out_before k.out_now a (subst (λ (t : Told). IsListRefusal t list k.before.faults k.now.faults a) told refused))
held_owed files list k a told (inr (inl refused)) =
    let has = subst (λ (t : Told). HasList t list refused.entries) told refused.has in
    let is = subst (λ (t : Told). IsProgramRefusal t k.before.faults k.now.faults 0 refused.entries a) told refused.refused in
    next_owed files list refused.entries k.before.faults k.now.faults k.out_before k.out_now a has
    (owed_by (IsRefusedProgram files 0 refused.entries) (λ o. IsRefusedProgram files 0 refused.entries o ⊎ AreLastVerdict files refused.entries o) k.before.faults k.now.faults k.out_before k.out_now a (λ p. inl p)
    (program_owed files k.before.faults k.now.faults k.out_before k.out_now 0 refused.entries a is))
held_owed files list k a told (inr (inr memory)) = inr (inr (inr memory))

-- what it came to is the verdict, or a fault that was counted, or want of memory
pub share_owed : (files : List ℕ → Option (List ℕ)) (list : List ℕ) (stripes : ℕ) (k : Call) (a : Answer) → k.before.told ≡ Some files → IsSharedBy list stripes k a → IsOwed (IsShareVerdict files list) k.before.faults k.now.faults k.out_before k.out_now a
share_owed files list stripes k a told (inl held) = held_owed files list k a told held.cause
share_owed files list stripes k a told (inr shared) =
    let has = subst (λ (t : Told). HasList t list shared.entries) told shared.has in
    let ready = subst (λ (t : Told). AreItemsOf t shared.entries shared.firsts) told shared.ready in
    next_owed files list shared.entries k.before.faults k.now.faults k.out_before k.out_now a has
    (owed_by (AreLastVerdict files shared.entries) (λ o. IsRefusedProgram files 0 shared.entries o ⊎ AreLastVerdict files shared.entries o) k.before.faults k.now.faults k.out_before k.out_now a (λ p. inr p)
    (taken_owed files shared.entries shared.firsts shared.items (world k.before.told k.before.faults k.old) (world k.before.told k.now.faults k.new) k.before.faults k.out_before k.out_now a ready told told (omega arith) shared.turned.taken))

-- ---- one verdict
one_last : (files : List ℕ → Option (List ℕ)) (entries : List Entry) (a b : Answer) → AreLastVerdict files entries a → AreLastVerdict files entries b → a ≡ b
one_last files entries a b is by = is.last ∙ (ap (λ (cs : List Shape). answer_of_all (samples_ends files entries cs)) (one_confs files entries is.confs by.confs is.compiled by.compiled) ∙ sym by.last)

one_next : (files : List ℕ → Option (List ℕ)) (entries : List Entry) (a b : Answer) → IsRefusedProgram files 0 entries a ⊎ AreLastVerdict files entries a → IsRefusedProgram files 0 entries b ⊎ AreLastVerdict files entries b → a ≡ b
one_next files entries a b (inl is) (inl by) = one_refused_program files 0 entries a b is by
one_next files entries a b (inl is) (inr by) = absurd (never_program files 0 entries by.confs a by.compiled is)
one_next files entries a b (inr is) (inl by) = absurd (never_program files 0 entries is.confs b is.compiled by)
one_next files entries a b (inr is) (inr by) = one_last files entries a b is by

pub one_share : (files : List ℕ → Option (List ℕ)) (list : List ℕ) (a b : Answer) → IsShareVerdict files list a → IsShareVerdict files list b → a ≡ b
one_share files list a b (inl is) (inl by) = one_refused_list files list a b is by
one_share files list a b (inl is) (inr by) = absurd (never_list files list by.entries a by.has is)
one_share files list a b (inr is) (inl by) = absurd (never_list files list is.entries b is.has by)
one_share files list a b (inr is) (inr by) =
    let same = one_entries files list by.entries is.entries by.has is.has in
    one_next files is.entries a b is.next (subst (λ (es : List Entry). IsRefusedProgram files 0 es b ⊎ AreLastVerdict files es b) same by.next)
