-- A list of programs is taken, or is bad at a line; and then its programs have configurations, or one of them is refused.
use Rattle.std.proofs.Common.{◌≡◌, ◌⊎◌, ◌+◌, ℕ, Some, List, [], ◌∷◌, ◌++◌, length, inl, inr, refl, sym, ◌∙◌, subst, arith, append_assoc, append-nil}
use Rattle.std.proofs.lemmas.Bool.{cases_lt, cases_Bool}
use Rattle.pr_base.specs.declared.caps.Cap.{Cap}
use Rattle.pr_conf.specs.Shape.{Shape}
use Rattle.pr_tool_share.specs.Entries.{Entry, list_lines, counts, entry_of, Say, IsListed, IsWrong, IsBare, IsBadAt}
use Rattle.pr_tool_share.proofs.ListLaws.{say_none, say_blank, say_program, wrong_here, bare_here}
use Rattle.pr_tool_answers.specs.declared.answers.Answer.{Answer}
use Rattle.pr_tool_share.specs.Lists.{IsBadList, IsRefusedProgram, AreCompiled, base, part_answer}
use Rattle.pr_tool_share.specs.Ends.{IsShareVerdict, answer_of_all, samples_ends}
use Rattle.pr_compile_verdicts.specs.Verdicts.{SomeOf}
use Rattle.pr_compile_verdicts.proofs.Cases.{cases_option}
use Rattle.pr_tool_laws.proofs.Sources.{Files, GoodOr, file_verdict, text_source}

-- ---- the list
abbrev Verdict : List ℕ → Type 0
Verdict text = SomeOf (IsListed text) (IsBadAt text)

bad_line : (text : List ℕ) (line : ℕ) → IsWrong text line ⊎ IsBare text line → Verdict text
bad_line text line bad = inr (line + 1, (line, (refl, bad)))

listed_or_bare : (text : List ℕ) (entries : List Entry) (done : List (List ℕ)) → list_lines text ≡ done → Say done entries → Verdict text
listed_or_bare text [] done all say = bad_line text (length done) (inr (bare_here text done all say))
listed_or_bare text (e ∷ entries) done all say = inl (e ∷ entries, record { say = subst (λ (lines : List (List ℕ)). Say lines (e ∷ entries)) (sym all) say; some = omega arith })

-- the lines that are left, after those that say this
lines_verdict : (text : List ℕ) (rest done : List (List ℕ)) (entries : List Entry) → list_lines text ≡ done ++ rest → Say done entries → Verdict text
lines_verdict text [] done entries all say = listed_or_bare text entries done (all ∙ append-nil done) say
lines_verdict text (line ∷ rest) done entries all say =
    let next : list_lines text ≡ (done ++ line ∷ []) ++ rest = all ∙ sym (append_assoc done (line ∷ []) rest) in
    elim (cases_Bool (counts line)) [
      | inr blank ↦ lines_verdict text rest (done ++ line ∷ []) entries next (say_blank done line entries say blank)
      | inl counted ↦ elim (cases_option (entry_of line)) [
        | inl none ↦ bad_line text (length done) (inl (wrong_here text line done rest entries all say counted (inl none)))
        | inr says ↦ elim (cases_lt (length entries) 8) [
          | inl few ↦ lines_verdict text rest (done ++ line ∷ []) (entries ++ says.0 ∷ []) next (say_program done line entries says.0 say counted says.1 few)
          | inr full ↦
              (let most = say.few in
              bad_line text (length done) (inl (wrong_here text line done rest entries all say counted (inr (omega (arith, most, full))))))
        ]
      ]
    ]

pub list_verdict : (text : List ℕ) → SomeOf (IsListed text) (IsBadAt text)
list_verdict text = lines_verdict text (list_lines text) [] [] refl say_none

list_or : (text : List ℕ) → GoodOr (λ t. (entries : List Entry) × IsListed t entries) IsBadList text
list_or text = elim (list_verdict text) [
  | inl listed ↦ inl listed
  | inr bad ↦ inr (Answer.BadList bad.0, bad.1)
]

-- ---- its programs
programs_verdict : (files : Files) (k : ℕ) (entries : List Entry) → ((confs : List Shape) × AreCompiled (Some files) entries confs) ⊎ ((a : Answer) × IsRefusedProgram files k entries a)
programs_verdict files k [] = inl ([], tt)
programs_verdict files k (e ∷ entries) = elim (text_source files e.program base) [
  | inr refused ↦ inr (part_answer k refused.0, inl (record { cause = refused.0; refused = refused.1; answers = refl }))
  | inl conf ↦ elim (programs_verdict files (k + 1) entries) [
    | inl confs ↦ inl (conf.0 ∷ confs.0, (conf.1, confs.1))
    | inr later ↦ inr (later.0, inr (record { N = 16; P = 8; conf = conf.0; gives = conf.1 }, later.1))
  ]
]

pub share_verdict : (files : Files) (list : List ℕ) → (a : Answer) × IsShareVerdict files list a
share_verdict files list = elim (file_verdict 65536 Cap.ListBytes (λ t. (entries : List Entry) × IsListed t entries) IsBadList files list (λ text is short. list_or text)) [
  | inr refused ↦ (refused.0, inl refused.1)
  | inl good ↦
      (let entries = good.good.0 in
      elim (programs_verdict files 0 entries) as (λ _. (a : Answer) × IsShareVerdict files list a) [
        | inr refused ↦ (refused.0, inr (record { entries = entries; has = record { text = good.text; file = good.file; short = good.short; listed = good.good.1 }; next = inl refused.1 }))
        | inl confs ↦ (
          answer_of_all (samples_ends files entries confs.0),
          inr (record {
            entries = entries;
            has = record { text = good.text; file = good.file; short = good.short; listed = good.good.1 };
            next = inr (record { confs = confs.0; compiled = confs.1; last = refl });
          }),
        )
      ])
]
