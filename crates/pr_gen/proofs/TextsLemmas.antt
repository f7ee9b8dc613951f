-- One more number in each list.
use Rattle.std.proofs.Common.{◌≡◌, ℕ, zero, suc, ◌+◌, ◌≤◌, List, [], ◌∷◌, ◌++◌, map, refl, sym, ap, ◌∙◌, arith, append_assoc, append-nil}
use Rattle.std.specs.Prelude.{codes, decimal}
use Rattle.std.specs.List.{flat_map}
use Rattle.std.proofs.lemmas.Grind.{flat_map-append}
use Rattle.std.proofs.lemmas.List.{map-append}
use Rattle.pr_gen.specs.Texts.{numbers_from, joined, entry_of, table_text, sample_line, sample_lines, program_text}

numbers_from-more : (first count : ℕ) → numbers_from first (suc count) ≡ numbers_from first count ++ (first + count) ∷ []
unfolding numbers_from
numbers_from-more first zero = ap (λ n. n ∷ []) (omega arith)
numbers_from-more first (suc count) =
    let e : suc first + count ≡ first + suc count = omega arith in
    ap (λ ns. first ∷ ns) (numbers_from-more (suc first) count ∙ ap (λ n. numbers_from (suc first) count ++ n ∷ []) e)

joined-push : (between piece last : List ℕ) (pieces : List (List ℕ)) → joined between ((piece ∷ pieces) ++ last ∷ []) ≡ joined between (piece ∷ pieces) ++ (between ++ last)
joined-push between piece last pieces =
    ap (λ rest. piece ++ rest) (flat_map-append (λ next. between ++ next) pieces (last ∷ []) ∙ ap (λ end. flat_map (λ next. between ++ next) pieces ++ end) (append-nil (between ++ last)))
    ∙ sym (append_assoc piece _ _)

-- no line yet
pub sample_lines-none : sample_lines 0 ≡ []
unfolding sample_lines numbers_from
sample_lines-none = refl

-- a line more
pub sample_lines-more : (count : ℕ) → sample_lines (count + 1) ≡ sample_lines count ++ sample_line count
unfolding sample_lines
sample_lines-more count =
    let e : count + 1 ≡ suc count = omega arith in
    let z : 0 + count ≡ count = omega arith in
    ap (λ n. flat_map sample_line (numbers_from 0 n)) e
    ∙ ap (flat_map sample_line) (numbers_from-more 0 count ∙ ap (λ n. numbers_from 0 count ++ n ∷ []) z)
    ∙ flat_map-append sample_line (numbers_from 0 count) (count ∷ [])
    ∙ ap (λ end. flat_map sample_line (numbers_from 0 count) ++ end) (append-nil (sample_line count))

-- the first entry
pub table_text-one : table_text 1 ≡ decimal (entry_of 1)
unfolding table_text numbers_from
table_text-one = append-nil _

-- an entry more
pub table_text-more : (i : ℕ) → 1 ≤ i → table_text (i + 1) ≡ table_text i ++ (codes ", " ++ decimal (entry_of (i + 1)))
unfolding table_text numbers_from
table_text-more zero h = absurd (omega arith)
table_text-more (suc i) h =
    let e : suc i + 1 ≡ suc (suc i) = omega arith in
    let f : 1 + suc i ≡ suc i + 1 = omega arith in
    ap (λ n. joined (codes ", ") (map (λ j. decimal (entry_of j)) (numbers_from 1 n))) e
    ∙ ap (λ ns. joined (codes ", ") (map (λ j. decimal (entry_of j)) ns)) (numbers_from-more 1 (suc i) ∙ ap (λ n. numbers_from 1 (suc i) ++ n ∷ []) f)
    ∙ ap (joined (codes ", ")) (map-append (λ j. decimal (entry_of j)) (numbers_from 1 (suc i)) ((suc i + 1) ∷ []))
    ∙ joined-push (codes ", ") (decimal (entry_of 1)) (decimal (entry_of (suc i + 1))) (map (λ j. decimal (entry_of j)) (numbers_from 2 i))

regroup : (a b t c d e k f g l h : List ℕ)
    → a ++ (b ++ t ++ c) ++ d ++ (e ++ k ++ f) ++ (g ++ l ++ h) ≡ (a ++ b) ++ t ++ (c ++ d ++ e) ++ k ++ (f ++ g) ++ l ++ h
regroup a b t c d e k f g l h = simp append_assoc

-- the pieces in which the program is written
pub program_text_pieces : (k : ℕ)
    → program_text k ≡ codes "input x:16;\nconst c = [" ++ table_text k ++ codes "];\nlet t[0] = x;\nfor i in 1.." ++ decimal (k + 1)
    ++ codes " { let t[i]:16 = (t[i-1] + c[i-1]) ^ t[i-1]@1; }\noutput y = t[" ++ decimal k ++ codes "];\n"
unfolding program_text
program_text_pieces k =
    regroup (codes "input x:16;\n") (codes "const c = [") (table_text k) (codes "];\n") (codes "let t[0] = x;\n") (codes "for i in 1..") (decimal (k + 1))
    (codes " { let t[i]:16 = (t[i-1] + c[i-1]) ^ t[i-1]@1; }\n") (codes "output y = t[") (decimal k) (codes "];\n")
