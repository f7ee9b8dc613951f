-- Lists of lines: what they say, and where they are wrong.
use Rattle.std.proofs.Common.{◌≡◌, ◌⊎◌, ℕ, zero, suc, ◌+◌, ◌<◌, ◌≤◌, cond, true, false, List, [], ◌∷◌, ◌++◌, length, map, take, drop, filter, Option, Some, None, slice_get, refl, sym, ap, ap₂, ◌∙◌, subst, arith, inl, inr, append-nil, length-append}
use Rattle.std.proofs.lemmas.Bool.{cases_lt}
use Rattle.std.proofs.lemmas.List.{map-append, length-map, drop_all, take_at}
use Rattle.std.proofs.lemmas.List.Elements.{filter-append}
use Rattle.std.specs.List.{position}
use Rattle.pr_samples.specs.Lines.{Lines, is_empty}
use Rattle.pr_tool_share.specs.Entries.{Entry, list_lines, counts, entry_of, Say, IsListed, IsWrong, IsBare, IsBadAt}
use Rattle.pr_tool_share.proofs.WordFacts.{is_end, line_end, end_none, end_some, first_line, no_line, lines_none}

-- ---- the lines of a text
pub lines_end : list_lines [] ≡ []
lines_end = ap (λ (l : Lines). l.whole ++ cond (is_empty l.last) [] (l.last ∷ [])) lines_none

pub lines_first : (text : List ℕ) → line_end text < length text → list_lines text ≡ take (line_end text) text ∷ list_lines (drop (line_end text + 1) text)
lines_first text h = ap (λ (l : Lines). l.whole ++ cond (is_empty l.last) [] (l.last ∷ [])) (first_line text h)

pub lines_only : (text : List ℕ) → 0 < length text → length text ≤ line_end text → list_lines text ≡ text ∷ list_lines []
lines_only [] some h = absurd (omega arith)
lines_only (b ∷ text) some h = ap (λ (l : Lines). l.whole ++ cond (is_empty l.last) [] (l.last ∷ [])) (no_line (b ∷ text) h) ∙ ap (λ xs. (b ∷ text) ∷ xs) (sym lines_end)

-- the first line of a text, by the place of its first LF
pub lines_split : (text : List ℕ) (end : ℕ) → position is_end text ≡ Some end → end < length text → list_lines text ≡ take end text ∷ list_lines (drop (end + 1) text)
lines_split text end e h =
    let is = end_some text end e in
    lines_first text (omega (arith, is, h)) ∙ ap (λ n. take n text ∷ list_lines (drop (n + 1) text)) is

pub lines_one : (text : List ℕ) → 0 < length text → position is_end text ≡ None → list_lines text ≡ text ∷ list_lines (drop (length text) text)
lines_one text some e =
    lines_only text some (end_none text e) ∙ ap (λ xs. text ∷ list_lines xs) (sym (drop_all (length text) text (omega arith)))

-- ---- lines that say something
filter_one : (line : List ℕ) → counts line ≡ true → filter counts (line ∷ []) ≡ line ∷ []
filter_one line e = ap (λ t. cond t (line ∷ []) []) e

filter_skip : (line : List ℕ) → counts line ≡ false → filter counts (line ∷ []) ≡ []
filter_skip line e = ap (λ t. cond t (line ∷ []) []) e

-- a blank line more
pub say_blank : (done : List (List ℕ)) (line : List ℕ) (entries : List Entry) → Say done entries → counts line ≡ false → Say (done ++ line ∷ []) entries
say_blank done line entries s e = record {
  entries_are = ap (map entry_of) (filter-append counts done (line ∷ []) ∙ (ap (λ xs. filter counts done ++ xs) (filter_skip line e) ∙ append-nil (filter counts done))) ∙ s.entries_are;
  few = s.few;
}

-- a program more
pub say_program : (done : List (List ℕ)) (line : List ℕ) (entries : List Entry) (entry : Entry) → Say done entries → counts line ≡ true → entry_of line ≡ Some entry → length entries < 8 → Say (done ++ line ∷ []) (entries ++ entry ∷ [])
say_program done line entries entry s e is few = record {
  entries_are =
      ap (map entry_of) (filter-append counts done (line ∷ []) ∙ ap (λ xs. filter counts done ++ xs) (filter_one line e))
      ∙ (map-append entry_of (filter counts done) (line ∷ [])
      ∙ (ap₂ (λ xs o. xs ++ o ∷ []) s.entries_are is ∙ sym (map-append Some entries (entry ∷ []))));
  few = (let n = length-append entries (entry ∷ []) in omega (arith, n, few));
}

pub say_none : Say [] []
say_none = record { entries_are = refl; few = omega arith }

-- ---- where they are wrong
got_after : (done : List (List ℕ)) (line : List ℕ) (more : List (List ℕ)) → slice_get (done ++ line ∷ more) (length done) ≡ Some line
got_after [] line more = refl
got_after (x ∷ done) line more = got_after done line more

pub wrong_here : (text line : List ℕ) (done more : List (List ℕ)) (entries : List Entry) → list_lines text ≡ done ++ line ∷ more → Say done entries → counts line ≡ true → (entry_of line ≡ None) ⊎ (length entries ≡ 8) → IsWrong text (length done)
wrong_here text line done more entries is s e wrong = record {
  entries = entries;
  before = subst (λ lines. Say lines entries) (sym (ap (take (length done)) is ∙ take_at done (line ∷ more) (length done) refl)) s;
  bytes = line;
  here = ap (λ lines. slice_get lines (length done)) is ∙ got_after done line more;
  counted = e;
  wrong = wrong;
}

no_entries : (lines : List (List ℕ)) → map entry_of lines ≡ [] → lines ≡ []
no_entries [] e = refl
no_entries (x ∷ lines) e = absurd (let z = e in cc)

pub bare_here : (text : List ℕ) (done : List (List ℕ)) → list_lines text ≡ done → Say done [] → IsBare text (length done)
bare_here text done is s = record { bare = ap (filter counts) is ∙ no_entries (filter counts done) s.entries_are; end = ap length (sym is) }

-- ---- one answer for each text
somes_same : (xs ys : List Entry) → map Some xs ≡ map Some ys → xs ≡ ys
somes_same [] [] e = refl
somes_same [] (y ∷ ys) e = absurd (let z = e in cc)
somes_same (x ∷ xs) [] e = absurd (let z = e in cc)
somes_same (x ∷ xs) (y ∷ ys) e =
    let head : x ≡ y = cc in
    let tail : map Some xs ≡ map Some ys = cc in
    ap₂ (λ z zs. z ∷ zs) head (somes_same xs ys tail)

somes_more : (xs ys : List Entry) (o : Option Entry) (rest : List (Option Entry)) → map Some xs ≡ map Some ys ++ o ∷ rest → (length ys < length xs) × (o ≡ None → ⊥)
somes_more [] [] o rest e = absurd (let z = e in cc)
somes_more [] (y ∷ ys) o rest e = absurd (let z = e in cc)
somes_more (x ∷ xs) [] o rest e = (omega arith, λ none. absurd (let z : Some x ≡ o = cc in let y = z ∙ none in cc))
somes_more (x ∷ xs) (y ∷ ys) o rest e =
    let tail : map Some xs ≡ map Some ys ++ o ∷ rest = cc in
    let h = somes_more xs ys o rest tail in
    (omega (arith, h.0), h.1)

split_here : (lines : List (List ℕ)) (m : ℕ) (bytes : List ℕ) → slice_get lines m ≡ Some bytes → lines ≡ take m lines ++ bytes ∷ drop (m + 1) lines
split_here [] m bytes e = absurd (let z = e in cc)
split_here (x ∷ lines) zero bytes e = let is : x ≡ bytes = cc in ap (λ y. y ∷ lines) is
split_here (x ∷ lines) (suc m) bytes e =
    let z : m + 1 ≡ suc m = omega arith in
    let y : suc m + 1 ≡ suc (m + 1) = omega arith in
    ap (λ xs. x ∷ xs) (split_here lines m bytes e) ∙ ap (λ n. x ∷ (take m lines ++ bytes ∷ drop n (x ∷ lines))) (sym y)

counted_here : (lines : List (List ℕ)) (m : ℕ) (bytes : List ℕ) → slice_get lines m ≡ Some bytes → counts bytes ≡ true → filter counts lines ≡ filter counts (take m lines) ++ bytes ∷ filter counts (drop (m + 1) lines)
counted_here lines m bytes e c =
    ap (filter counts) (split_here lines m bytes e)
    ∙ (filter-append counts (take m lines) (bytes ∷ drop (m + 1) lines)
    ∙ ap (λ t. filter counts (take m lines) ++ cond t (bytes ∷ filter counts (drop (m + 1) lines)) (filter counts (drop (m + 1) lines))) c)

-- lines that say something have no wrong one
not_wrong : (lines : List (List ℕ)) (m : ℕ) (bytes : List ℕ) (before all : List Entry) → slice_get lines m ≡ Some bytes → counts bytes ≡ true → Say (take m lines) before → (entry_of bytes ≡ None) ⊎ (length before ≡ 8) → Say lines all → ⊥
not_wrong lines m bytes before all e c s wrong a =
    let rest = map entry_of (filter counts (drop (m + 1) lines)) in
    let split : map Some all ≡ map Some before ++ entry_of bytes ∷ rest =
    sym a.entries_are ∙ (ap (map entry_of) (counted_here lines m bytes e c)
    ∙ (map-append entry_of (filter counts (take m lines)) (bytes ∷ filter counts (drop (m + 1) lines)) ∙ ap (λ xs. xs ++ entry_of bytes ∷ rest) s.entries_are)) in
    let h = somes_more all before (entry_of bytes) rest split in
    elim wrong [ inl none ↦ h.1 none | inr full ↦ absurd (let few = a.few in omega (arith, h.0, full)) ]

take_less : (lines : List (List ℕ)) (m n : ℕ) → m ≤ n → take m (take n lines) ≡ take m lines
take_less lines zero n h = refl
take_less [] (suc m) zero h = absurd (omega arith)
take_less [] (suc m) (suc n) h = refl
take_less (x ∷ lines) (suc m) zero h = absurd (omega arith)
take_less (x ∷ lines) (suc m) (suc n) h = ap (λ xs. x ∷ xs) (take_less lines m n (omega arith))

got_less : (lines : List (List ℕ)) (m n : ℕ) → m < n → slice_get (take n lines) m ≡ slice_get lines m
got_less [] m zero h = refl
got_less [] m (suc n) h = refl
got_less (x ∷ lines) m zero h = absurd (omega arith)
got_less (x ∷ lines) zero (suc n) h = refl
got_less (x ∷ lines) (suc m) (suc n) h = got_less lines m n (omega arith)

wrong_first : (text : List ℕ) (m n : ℕ) → IsWrong text m → IsWrong text n → m < n → ⊥
wrong_first text m n a b h =
    let lines = list_lines text in
    not_wrong (take n lines) m a.bytes a.entries b.entries (got_less lines m n h ∙ a.here) a.counted (subst (λ xs. Say xs a.entries) (sym (take_less lines m n (omega arith))) a.before) a.wrong b.before

not_bare : (text : List ℕ) (m n : ℕ) → IsWrong text m → IsBare text n → ⊥
not_bare text m n a b = absurd (none (filter counts (take m (list_lines text))) _ _ (sym b.bare ∙ counted_here (list_lines text) m a.bytes a.here a.counted))
  where
    none : (xs : List (List ℕ)) (y : List ℕ) (ys : List (List ℕ)) → [] ≡ xs ++ y ∷ ys → ⊥
    none [] y ys e = absurd (let z = e in cc)
    none (x ∷ xs) y ys e = absurd (let z = e in cc)

pub one_list : (text : List ℕ) (a b : List Entry) → IsListed text a → IsListed text b → a ≡ b
one_list text a b h k = somes_same a b (sym h.say.entries_are ∙ k.say.entries_are)

same_wrong : (text : List ℕ) (m n : ℕ) → IsWrong text m → IsWrong text n → m ≡ n
same_wrong text m n a b = elim (cases_lt m n) [
  | inl less ↦ absurd (wrong_first text m n a b less)
  | inr more ↦ elim (cases_lt n m) [ inl less ↦ absurd (wrong_first text n m b a less) | inr same ↦ omega (arith, more, same) ]
]

pub one_line : (text : List ℕ) (m n : ℕ) → IsBadAt text m → IsBadAt text n → m ≡ n
one_line text m n (i, (e, inl a)) (j, (f, inl b)) = e ∙ (ap (λ k. k + 1) (same_wrong text i j a b) ∙ sym f)
one_line text m n (i, (e, inl a)) (j, (f, inr b)) = absurd (not_bare text i j a b)
one_line text m n (i, (e, inr a)) (j, (f, inl b)) = absurd (not_bare text j i b a)
one_line text m n (i, (e, inr a)) (j, (f, inr b)) = e ∙ (ap (λ k. k + 1) (a.end ∙ sym b.end) ∙ sym f)

pub not_both : (text : List ℕ) (a : List Entry) (n : ℕ) → IsListed text a → IsBadAt text n → ⊥
not_both text a n h (i, (e, inl w)) = not_wrong (list_lines text) i w.bytes w.entries a w.here w.counted w.before w.wrong h.say
not_both text a n h (i, (e, inr w)) =
    let none : map Some a ≡ [] = sym h.say.entries_are ∙ ap (map entry_of) w.bare in
    let l : length a ≡ 0 = sym (length-map a Some) ∙ ap length none in
    absurd (let some = h.some in omega (arith, l, some))
