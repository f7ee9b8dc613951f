-- How far a list was read.
use Rattle.std.proofs.Common.{◌≡◌, ◌⊎◌, ℕ, ◌+◌, ◌<◌, ◌≤◌, true, false, List, [], ◌∷◌, ◌++◌, length, Some, None, Result, Err, refl, sym, ap, ◌∙◌, subst, arith, inl, inr, append-nil, length-append}
use Rattle.pr_tool_share.specs.Entries.{Entry, list_lines, counts, entry_of, Say, IsListed, IsBadAt}
use Rattle.pr_tool_share.specs.declared.faults.ListFault.{ListFault}
use Rattle.pr_tool_share.proofs.ListLaws.{lines_end, say_none, say_blank, say_program, wrong_here, bare_here}

-- so many lines were read, they say this, and these bytes are left
pub record IsRead (text rest : List ℕ) (entries : List Entry) (number : ℕ) : Type 0 where
  pub done : List (List ℕ)
  pub lines : list_lines text ≡ done ++ list_lines rest
  pub count : length done ≡ number
  pub say : Say done entries
  pub room : number + length rest ≤ length text

pub read_none : (text : List ℕ) → IsRead text text [] 0
read_none text = record { done = []; lines = refl; count = refl; say = say_none; room = omega arith }

-- a line more
next_lines : (done : List (List ℕ)) (line : List ℕ) (more : List (List ℕ)) → done ++ line ∷ more ≡ (done ++ line ∷ []) ++ more
next_lines [] line more = refl
next_lines (x ∷ done) line more = ap (λ xs. x ∷ xs) (next_lines done line more)

module _ (text rest line after : List ℕ) (entries : List Entry) (number : ℕ) (r : IsRead text rest entries number) (is : list_lines rest ≡ line ∷ list_lines after) (shorter : length after < length rest) where
  here : list_lines text ≡ r.done ++ line ∷ list_lines after
  here = r.lines ∙ ap (λ xs. r.done ++ xs) is

  longer : length (r.done ++ line ∷ []) ≡ number + 1
  longer = let n = length-append r.done (line ∷ []) in let m = r.count in omega (arith, n, m)

  left : number + 1 + length after ≤ length text
  left = let m = r.room in omega (arith, m, shorter)

  pub read_blank : counts line ≡ false → IsRead text after entries (number + 1)
  read_blank e = record {
    done = r.done ++ line ∷ [];
    lines = here ∙ next_lines r.done line (list_lines after);
    count = longer;
    say = say_blank r.done line entries r.say e;
    room = left;
  }

  pub read_program : (entry : Entry) → counts line ≡ true → entry_of line ≡ Some entry → length entries < 8 → IsRead text after (entries ++ entry ∷ []) (number + 1)
  read_program entry e says few = record {
    done = r.done ++ line ∷ [];
    lines = here ∙ next_lines r.done line (list_lines after);
    count = longer;
    say = say_program r.done line entries entry r.say e says few;
    room = left;
  }

  pub read_wrong : counts line ≡ true → (entry_of line ≡ None) ⊎ (length entries ≡ 8) → IsBadAt text (number + 1)
  read_wrong e wrong = (length r.done, (let m = r.count in omega (arith, m), inl (wrong_here text line r.done (list_lines after) entries here r.say e wrong)))

-- the end is reached
ended : (text : List ℕ) (entries : List Entry) (number : ℕ) (r : IsRead text [] entries number) → list_lines text ≡ r.done
ended text entries number r = r.lines ∙ (ap (λ xs. r.done ++ xs) lines_end ∙ append-nil r.done)

pub read_bare : (text rest : List ℕ) (entries : List Entry) (number : ℕ) → length rest ≡ 0 → length entries ≡ 0 → IsRead text rest entries number → IsBadAt text (number + 1)
read_bare text [] [] number e f r = (length r.done, (let m = r.count in omega (arith, m), inr (bare_here text r.done (ended text [] number r) r.say)))
read_bare text [] (x ∷ entries) number e f r = absurd (omega (arith, f))
read_bare text (b ∷ rest) entries number e f r = absurd (omega (arith, e))

pub read_all : (text rest : List ℕ) (entries : List Entry) (number : ℕ) → length rest ≡ 0 → 1 ≤ length entries → IsRead text rest entries number → IsListed text entries
read_all text [] entries number e some r = record { say = subst (λ lines. Say lines entries) (sym (ended text entries number r)) r.say; some = some }
read_all text (b ∷ rest) entries number e some r = absurd (omega (arith, e))

-- the line of a refusal
abbrev pub line_in : {A : Type 0} → Result A ListFault → ℕ
line_in (Err (ListFault.BadList line)) = line
line_in _ = 0
