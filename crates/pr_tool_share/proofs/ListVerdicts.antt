-- A list and its programs: the verdict on them, and one verdict at most.
use Rattle.std.proofs.Common.{◌≡◌, ◌+◌, ◌∙◌, ℕ, List, [], ◌∷◌, Option, Some, refl, sym, ap, ap₂, subst, inl, inr}
use Rattle.pr_base.specs.declared.caps.Cap.{Cap}
use Rattle.pr_edge.specs.Files.{Told, HasReadCause}
use Rattle.pr_conf.specs.Shape.{Shape}
use Rattle.pr_tool_share.specs.Entries.{Entry, IsListed}
use Rattle.pr_tool_share.proofs.ListLaws.{one_list, one_line, not_both}
use Rattle.pr_tool_answers.specs.declared.answers.Answer.{Answer}
use Rattle.pr_tool_answers.specs.Owed.{IsOwed}
use Rattle.pr_tool_answers.proofs.OwedLemmas.{owed_by}
use Rattle.pr_tool_modes.specs.Sources.{name_in, IsRefusedSource}
use Rattle.pr_tool_modes.proofs.FileLemmas.{refusal_owed, one_refused, never_refused}
use Rattle.pr_tool_modes.proofs.ReasonLemmas.{IsKind}
use Rattle.pr_tool_modes.proofs.SourceLemmas.{source_owed, one_source, never_source, one_conf, source_kind}
use Rattle.pr_tool_share.specs.Lists.{IsBadList, IsListRefusal, IsRefusedList, HasList, source_in, part_answer, IsProgramRefusal, IsRefusedProgram, AreCompiled}

-- ---- the list
one_bad : (text : List ℕ) (a b : Answer) → IsBadList text a → IsBadList text b → a ≡ b
one_bad text (Answer.BadList m) (Answer.BadList n) is by = ap (λ (x : ℕ). Answer.BadList x) (one_line text m n is by)
one_bad text (Answer.BadList m) b is by = absurd by
one_bad text a b is by = absurd is

never_bad : (text : List ℕ) (entries : List Entry) (a : Answer) → IsListed text entries → IsBadList text a → ⊥
never_bad text entries (Answer.BadList n) listed is = not_both text entries n listed is
never_bad text entries a listed is = is

pub list_owed : (files : List ℕ → Option (List ℕ)) (list : List ℕ) (sb sn ob on : ℕ) (a : Answer) → IsListRefusal (Some files) list sb sn a → IsOwed (IsRefusedList files list) sb sn ob on a
list_owed files list sb sn ob on a is = refusal_owed 65536 Cap.ListBytes IsBadList files list sb sn ob on a is

pub one_refused_list : (files : List ℕ → Option (List ℕ)) (list : List ℕ) (a b : Answer) → IsRefusedList files list a → IsRefusedList files list b → a ≡ b
one_refused_list files list a b is by = one_refused 65536 Cap.ListBytes IsBadList files list one_bad a b is by

pub never_list : (files : List ℕ → Option (List ℕ)) (list : List ℕ) (entries : List Entry) (a : Answer) → HasList (Some files) list entries → IsRefusedList files list a → ⊥
never_list files list entries a has is = never_refused 65536 Cap.ListBytes IsBadList files list a has.text is has.file has.short (never_bad has.text entries a has.listed)

pub one_entries : (files : List ℕ → Option (List ℕ)) (list : List ℕ) (a b : List Entry) → HasList (Some files) list a → HasList (Some files) list b → a ≡ b
one_entries files list a b is by =
    let same : by.text ≡ is.text = (let both : Some by.text ≡ Some is.text = sym by.file ∙ is.file in cc) in
    one_list is.text a b is.listed (subst (λ (t : List ℕ). IsListed t b) same by.listed)

-- ---- programs
part_owed : (P Q : Answer → Type 0) (k sb sn ob on : ℕ) (cause a : Answer) → a ≡ part_answer k cause → (P cause → Q a) → IsOwed P sb sn ob on cause → IsOwed Q sb sn ob on a
part_owed P Q k sb sn ob on cause a is wider (inl refused) = inl (wider refused)
part_owed P Q k sb sn ob on cause a is wider (inr (inl read)) = inr (inl (is ∙ ap (part_answer k) read.0, read.1))
part_owed P Q k sb sn ob on cause a is wider (inr (inr (inl write))) = inr (inr (inl (is ∙ ap (part_answer k) write.0, write.1)))
part_owed P Q k sb sn ob on cause a is wider (inr (inr (inr memory))) = inr (inr (inr (is ∙ ap (part_answer k) memory)))

pub program_owed : (files : List ℕ → Option (List ℕ)) (sb sn ob on k : ℕ) (entries : List Entry) (a : Answer) → IsProgramRefusal (Some files) sb sn k entries a → IsOwed (IsRefusedProgram files k entries) sb sn ob on a
program_owed files sb sn ob on k [] a is = absurd is
program_owed files sb sn ob on k (entry ∷ entries) a (inl part) =
    part_owed (IsRefusedSource files (source_in entry)) (IsRefusedProgram files k (entry ∷ entries)) k sb sn ob on part.cause a part.answers
    (λ refused. inl (record { cause = part.cause; refused = refused; answers = part.answers })) (source_owed files (source_in entry) sb sn ob on part.cause part.refused)
program_owed files sb sn ob on k (entry ∷ entries) a (inr later) =
    owed_by (IsRefusedProgram files (k + 1) entries) (IsRefusedProgram files k (entry ∷ entries)) sb sn ob on a (λ is. inr (later.0, is)) (program_owed files sb sn ob on (k + 1) entries a later.1)

pub one_refused_program : (files : List ℕ → Option (List ℕ)) (k : ℕ) (entries : List Entry) (a b : Answer) → IsRefusedProgram files k entries a → IsRefusedProgram files k entries b → a ≡ b
one_refused_program files k [] a b is by = absurd is
one_refused_program files k (entry ∷ entries) a b (inl is) (inl by) = is.answers ∙ (ap (part_answer k) (one_source files (source_in entry) is.cause by.cause is.refused by.refused) ∙ sym by.answers)
one_refused_program files k (entry ∷ entries) a b (inl is) (inr by) = absurd (never_source files (source_in entry) is.cause by.0.N by.0.P by.0.conf by.0.gives is.refused)
one_refused_program files k (entry ∷ entries) a b (inr is) (inl by) = absurd (never_source files (source_in entry) by.cause is.0.N is.0.P is.0.conf is.0.gives by.refused)
one_refused_program files k (entry ∷ entries) a b (inr is) (inr by) = one_refused_program files (k + 1) entries a b is.1 by.1

pub never_program : (files : List ℕ → Option (List ℕ)) (k : ℕ) (entries : List Entry) (confs : List Shape) (a : Answer) → AreCompiled (Some files) entries confs → IsRefusedProgram files k entries a → ⊥
never_program files k [] confs a compiled is = is
never_program files k (entry ∷ entries) [] a compiled is = compiled
never_program files k (entry ∷ entries) (conf ∷ confs) a compiled (inl is) = never_source files (source_in entry) is.cause 16 8 conf compiled.0 is.refused
never_program files k (entry ∷ entries) (conf ∷ confs) a compiled (inr is) = never_program files (k + 1) entries confs a compiled.1 is.1

pub one_confs : (files : List ℕ → Option (List ℕ)) (entries : List Entry) (c d : List Shape) → AreCompiled (Some files) entries c → AreCompiled (Some files) entries d → c ≡ d
one_confs files [] [] [] is by = refl
one_confs files [] [] (d ∷ ds) is by = absurd by
one_confs files [] (c ∷ cs) d is by = absurd is
one_confs files (entry ∷ entries) [] d is by = absurd is
one_confs files (entry ∷ entries) (c ∷ cs) [] is by = absurd by
one_confs files (entry ∷ entries) (c ∷ cs) (d ∷ ds) is by = ap₂ (λ (x : Shape) (xs : List Shape). x ∷ xs) (one_conf files (source_in entry) 16 8 16 8 c d is.0 by.0) (one_confs files entries cs ds is.1 by.1)

-- ---- what a refusal answers
-- which program is refused, and for what
pub record IsKindOfPart (cause : Type 0) (a : Answer) : Type 0 where
  pub place : ℕ
  pub alone : Answer
  pub kind : IsKind cause alone
  pub answers : a ≡ part_answer place alone

-- a refusal of a program, a read fault that is told or was counted, or want of memory
pub program_kind : (told : Told) (before now k : ℕ) (entries : List Entry) (a : Answer) → IsProgramRefusal told before now k entries a → IsKindOfPart ((name : List ℕ) × HasReadCause told name before now) a
program_kind told before now k [] a is = absurd is
program_kind told before now k (entry ∷ entries) a (inl part) = record {
  place = k;
  alone = part.cause;
  kind = named (source_kind told (source_in entry) before now part.cause part.refused);
  answers = part.answers;
}
  where
    named : IsKind (HasReadCause told (name_in (source_in entry)) before now) part.cause → IsKind ((name : List ℕ) × HasReadCause told name before now) part.cause
    named (inl refused) = inl refused
    named (inr (inl read)) = inr (inl (read.0, (name_in (source_in entry), read.1)))
    named (inr (inr memory)) = inr (inr memory)
program_kind told before now k (entry ∷ entries) a (inr later) = program_kind told before now (k + 1) entries a later.1
