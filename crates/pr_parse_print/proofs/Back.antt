-- Printed words are read back.
use Rattle.std.proofs.Common.{◌≡◌, ℕ, ◌+◌, ◌-◌, ◌*◌, ◌/◌, ◌%◌, ◌^◌, ◌<◌, ◌≤◌, Bool, true, false, cond, ◌||◌, nat_eq, nat_le, Some, List, [], ◌∷◌, ◌++◌, length, take, drop, decimal, refl, sym, ap, ap₂, subst, ◌∙◌, arith, append_assoc, append-nil, inl, inr, leb-true, le-leb, eq-eqb, length-append}
use Rattle.std.proofs.lemmas.Bool.{or_from, and_parts, and_from, and_left, and_right, lt-leb, true≢false}
use Rattle.std.proofs.lemmas.Bool.Decides.{eqb_tells}
use Rattle.std.proofs.lemmas.Fmt.{decimal_by_steps}
use Rattle.std.proofs.lemmas.List.Folds.{prefix_len-append}
use Rattle.std.proofs.Math.Seq.{take-append_seam, drop-append_seam}
use Rattle.std.specs.List.{prefix_len, starts_with}
use Rattle.std.specs.Prelude.{codes}
use Rattle.pr_lang.specs.declared.tokens.Keyword.{Keyword}
use Rattle.pr_lang.specs.declared.tokens.Keyword.TheVariants.{Input}
use Rattle.pr_lang.specs.declared.tokens.Symbol.{Symbol}
use Rattle.pr_lang.specs.declared.tokens.Symbol.TheVariants.{Colon}
use Rattle.pr_lang.specs.declared.tokens.Kind.{Kind}
use Rattle.pr_lang.specs.declared.tokens.Kind.TheVariants.{Number}
use Rattle.pr_lang.specs.Spelling.{keyword_text, symbol_text, is_blank, is_digit, is_letter, is_name_byte}
use Rattle.pr_lang.specs.Tokens.{Piece, Gap, Whole, Broken, piece_from, word_piece, word_kind, keyword_of, number_piece, decimal_piece, number_after, digit_value, letter_first}
use Rattle.pr_lang.specs.Word.{Word, named, numbered, keyword, symbol, ending, broken, word_by, words_of}
use Rattle.pr_lang.specs.Syntax.{IsProgram}
use Rattle.pr_lang.specs.Grammar.{AnyOf, Block, TheProgram}
use Rattle.pr_lang.specs.Is.{Is}
use Rattle.pr_lang.specs.Is as is
use Rattle.pr_lang.specs.Tree.{Tree}
use Rattle.pr_lang.specs.Printed.{spelling, spaced, written, lines, printed}
use Rattle.pr_parse_print.proofs.Lexed.{lexed, words_of-lexed}
use Rattle.pr_parse_print.proofs.Spelled.{spelled, inner_member}
use Rattle.pr_parse_print.proofs.Plain.{IsName, IsPlain, AllPlain, AllPlain-parts, plain_words}

-- what ends a word: a space or a line feed
abbrev gap : Bool → ℕ
gap true = 32
gap false = 10

not_name : (b : Bool) → is_name_byte (gap b) ≡ false
not_name true = refl
not_name false = refl

not_digit : (b : Bool) → is_digit (gap b) ≡ false
not_digit true = refl
not_digit false = refl

no_letter : (b : Bool) (rest : List ℕ) → letter_first (gap b ∷ rest) ≡ false
no_letter true rest = refl
no_letter false rest = refl

passed_gap : (b : Bool) (rest : List ℕ) → lexed 0 (gap b ∷ rest) ≡ lexed 0 rest
unfolding lexed
passed_gap true rest = refl
passed_gap false rest = refl

-- ---- runs that a gap ends

run_ends : (p : ℕ → Bool) (xs : List ℕ) (b : Bool) (rest : List ℕ) → prefix_len p xs ≡ length xs → p (gap b) ≡ false → prefix_len p (xs ++ gap b ∷ rest) ≡ length xs
run_ends p xs b rest h g =
    prefix_len-append p xs (gap b ∷ rest)
    ∙ ap (λ t. cond t (length xs + prefix_len p (gap b ∷ rest)) (prefix_len p xs)) (eq-eqb (prefix_len p xs) (length xs) h)
    ∙ ap (λ t. length xs + cond t (1 + prefix_len p rest) 0) g
    ∙ omega arith

-- the bytes of a word are passed over
passed_word : (xs ys : List ℕ) → lexed (length xs) (xs ++ ys) ≡ lexed 0 ys
unfolding lexed
passed_word [] ys = refl
passed_word (x ∷ xs) ys = passed_word xs ys

-- ---- a byte is of one class only

differs : (p : ℕ → Bool) (k c : ℕ) → p c ≡ true → p k ≡ false → nat_eq c k ≡ false
differs p k c h g = elim (eqb_tells c k) [ inl t ↦ absurd (true≢false (sym h ∙ ap p t.1 ∙ g)) | inr t ↦ t.0 ]

differs_back : (p : ℕ → Bool) (k c : ℕ) → p c ≡ true → p k ≡ false → nat_eq k c ≡ false
differs_back p k c h g = elim (eqb_tells k c) [ inl t ↦ absurd (true≢false (sym h ∙ ap p (sym t.1) ∙ g)) | inr t ↦ t.0 ]

no_blank : (p : ℕ → Bool) (c : ℕ) → p c ≡ true → p 32 ≡ false → p 9 ≡ false → p 13 ≡ false → p 10 ≡ false → is_blank c ≡ false
no_blank p c h a b d e = or_from _ _ (or_from _ _ (or_from _ _ (differs p 32 c h a) (differs p 9 c h b)) (differs p 13 c h d)) (differs p 10 c h e)

no_comment : (p : ℕ → Bool) (c : ℕ) (cs : List ℕ) → p c ≡ true → p 47 ≡ false → starts_with nat_eq (c ∷ cs) (codes "//") ≡ false
no_comment p c cs h g = and_left _ _ (differs_back p 47 c h g)

digit_no_letter : (c : ℕ) → is_digit c ≡ true → is_letter c ≡ false
digit_no_letter c h =
    let most : c ≤ 57 = leb-true c 57 (and_parts (nat_le 48 c) (nat_le c 57) h).1 in
    or_from _ _ (or_from _ _ (and_left _ _ (lt-leb 65 c (omega arith))) (and_left _ _ (lt-leb 97 c (omega arith)))) (differs is_digit 95 c h refl)

-- ---- which piece stands at the front

module _ {A : Type 0} where
  third : (a b c : Bool) (w x y z : A) → a ≡ false → b ≡ false → c ≡ true → cond a w (cond b x (cond c y z)) ≡ y
  third a b c w x y z f g h = ap (λ t. cond t w (cond b x (cond c y z))) f ∙ ap (λ t. cond t x (cond c y z)) g ∙ ap (λ t. cond t y z) h

  fifth : (a b c d e : Bool) (u v w x y z : A) → a ≡ false → b ≡ false → c ≡ false → d ≡ false → e ≡ true → cond a u (cond b v (cond c w (cond d x (cond e y z)))) ≡ y
  fifth a b c d e u v w x y z f g h i j = ap (λ t. cond t u (cond b v (cond c w (cond d x (cond e y z))))) f ∙ ap (λ t. cond t v (cond c w (cond d x (cond e y z)))) g ∙ third c d e w x y z h i j

-- a piece that a gap ends
read_back : (c : ℕ) (cs : List ℕ) (k : Kind) (b : Bool) (rest : List ℕ) → piece_from c (c ∷ (cs ++ gap b ∷ rest)) ≡ Whole k (length (c ∷ cs)) → lexed 0 (c ∷ (cs ++ gap b ∷ rest)) ≡ word_by (c ∷ cs) k ∷ lexed 0 rest
unfolding lexed
read_back c cs k b rest e =
    let text = c ∷ (cs ++ gap b ∷ rest) in
    let n : length (c ∷ cs) - 1 ≡ length cs = omega arith in
    ap onward e
    ∙ ap₂ (λ (w : Word) (ws : List Word). w ∷ ws) (ap (λ l. word_by l k) (take-append_seam (c ∷ cs) (gap b ∷ rest))) (ap (λ m. lexed m (cs ++ gap b ∷ rest)) n ∙ passed_word cs (gap b ∷ rest) ∙ passed_gap b rest)
  where
    onward : Piece → List Word
    onward (Gap size) = lexed (size - 1) (cs ++ gap b ∷ rest)
    onward (Whole kind size) = word_by (take size (c ∷ (cs ++ gap b ∷ rest))) kind ∷ lexed (size - 1) (cs ++ gap b ∷ rest)
    onward (Broken size) = broken ∷ []

-- ---- words with letters

back_word : (x : List ℕ) (b : Bool) (rest : List ℕ) → letter_first x ≡ true → prefix_len is_name_byte x ≡ length x → lexed 0 (x ++ gap b ∷ rest) ≡ word_by x (word_kind (keyword_of x)) ∷ lexed 0 rest
back_word [] b rest h a = absurd (true≢false (sym h))
back_word (c ∷ cs) b rest h a =
    let text = c ∷ (cs ++ gap b ∷ rest) in
    let size : prefix_len is_name_byte text ≡ length (c ∷ cs) = run_ends is_name_byte (c ∷ cs) b rest a (not_name b) in
    let whole : word_piece text ≡ Whole (word_kind (keyword_of (c ∷ cs))) (length (c ∷ cs)) = ap (λ n. Whole (word_kind (keyword_of (take n text))) n) size ∙ ap (λ l. Whole (word_kind (keyword_of l)) (length (c ∷ cs))) (take-append_seam (c ∷ cs) (gap b ∷ rest)) in
    read_back c cs (word_kind (keyword_of (c ∷ cs))) b rest (third (is_blank c) (starts_with nat_eq text (codes "//")) (is_letter c) _ _ _ _ (no_blank is_letter c h refl refl refl refl) (no_comment is_letter c (cs ++ gap b ∷ rest) h refl) h ∙ whole)

back_name : (x : List ℕ) (b : Bool) (rest : List ℕ) → IsName x → lexed 0 (x ++ gap b ∷ rest) ≡ named x ∷ lexed 0 rest
back_name x b rest n = back_word x b rest n.first n.all ∙ ap (λ o. word_by x (word_kind o) ∷ lexed 0 rest) n.free

keyword_known : (k : Keyword) → keyword_of (keyword_text k) ≡ Some k
keyword_known Input = refl
keyword_known _ = refl

keyword_letter : (k : Keyword) → letter_first (keyword_text k) ≡ true
keyword_letter Input = refl
keyword_letter _ = refl

keyword_all : (k : Keyword) → prefix_len is_name_byte (keyword_text k) ≡ length (keyword_text k)
keyword_all Input = refl
keyword_all _ = refl

back_keyword : (k : Keyword) (b : Bool) (rest : List ℕ) → lexed 0 (keyword_text k ++ gap b ∷ rest) ≡ keyword k ∷ lexed 0 rest
back_keyword k b rest = back_word (keyword_text k) b rest (keyword_letter k) (keyword_all k) ∙ ap (λ o. word_by (keyword_text k) (word_kind o) ∷ lexed 0 rest) (keyword_known k)

-- ---- symbols

back_symbol : (s : Symbol) (b : Bool) (rest : List ℕ) → lexed 0 (symbol_text s ++ gap b ∷ rest) ≡ symbol s ∷ lexed 0 rest
unfolding lexed
back_symbol Colon true rest = refl
back_symbol Colon false rest = refl
back_symbol _ true rest = refl
back_symbol _ false rest = refl

-- ---- numbers

record IsDigits (n : ℕ) (ds : List ℕ) : Type 0 where
  some : 0 < length ds
  all : prefix_len is_digit ds ≡ length ds
  value : number_after 10 0 ds ≡ n

all_head : (p : ℕ → Bool) (c : ℕ) (cs : List ℕ) → prefix_len p (c ∷ cs) ≡ length (c ∷ cs) → (p c ≡ true) × (prefix_len p cs ≡ length cs)
all_head p c cs h = go (p c) refl
  where
    go : (t : Bool) → p c ≡ t → (p c ≡ true) × (prefix_len p cs ≡ length cs)
    go true e = let here : prefix_len p (c ∷ cs) ≡ 1 + prefix_len p cs = ap (λ t. cond t (1 + prefix_len p cs) 0) e in (e, omega arith)
    go false e = let here : prefix_len p (c ∷ cs) ≡ 0 = ap (λ t. cond t (1 + prefix_len p cs) 0) e in absurd (omega arith)

all_more : (p : ℕ → Bool) (xs : List ℕ) (y : ℕ) → prefix_len p xs ≡ length xs → p y ≡ true → prefix_len p (xs ++ y ∷ []) ≡ length (xs ++ y ∷ [])
all_more p xs y h g =
    prefix_len-append p xs (y ∷ [])
    ∙ ap (λ t. cond t (length xs + prefix_len p (y ∷ [])) (prefix_len p xs)) (eq-eqb (prefix_len p xs) (length xs) h)
    ∙ ap (λ t. length xs + cond t 1 0) g
    ∙ sym (length-append xs (y ∷ []))

number_after-more : (base before : ℕ) (xs : List ℕ) (y : ℕ) → number_after base before (xs ++ y ∷ []) ≡ number_after base before xs * base + digit_value y
number_after-more base before [] y = refl
number_after-more base before (c ∷ cs) y = number_after-more base (before * base + digit_value c) cs y

digit_is : (k : ℕ) → k < 10 → is_digit (48 + k) ≡ true
digit_is k h = and_from _ _ (le-leb 48 (48 + k) (omega arith)) (le-leb (48 + k) 57 (omega arith))

digit_value_is : (k : ℕ) → k < 10 → digit_value (48 + k) ≡ k
digit_value_is k h = ap (λ t. cond t ((48 + k) - 48) (cond (nat_le 97 (48 + k)) ((48 + k) - 87) ((48 + k) - 55))) (digit_is k h) ∙ omega arith

digits_of_number : (n : ℕ) → n < 2 ^ 64 → IsDigits n (decimal n)
digits_of_number n h = decimal_by_steps IsDigits one more n h
  where
    one : (n : ℕ) → n < 10 → IsDigits n ((48 + n) ∷ [])
    one n h = record { some = omega arith; all = ap (λ t. cond t 1 0) (digit_is n h); value = omega (arith, digit_value_is n h) }

    more : (n : ℕ) (ds : List ℕ) → 10 ≤ n → IsDigits (n / 10) ds → IsDigits n (ds ++ ((48 + n % 10) ∷ []))
    more n ds h d =
        let last : n % 10 < 10 = omega arith in
        let sum : n / 10 * 10 + n % 10 ≡ n = omega arith in
        record {
          some = omega (arith, length-append ds ((48 + n % 10) ∷ []));
          all = all_more is_digit ds (48 + n % 10) d.all (digit_is (n % 10) last);
          value = number_after-more 10 0 ds (48 + n % 10) ∙ ap₂ (λ v w. v * 10 + w) d.value (digit_value_is (n % 10) last) ∙ sum;
        }

no_hex : (c : ℕ) (cs : List ℕ) (b : Bool) (rest : List ℕ) → prefix_len is_digit cs ≡ length cs → starts_with nat_eq (c ∷ (cs ++ gap b ∷ rest)) (codes "0x") ≡ false
no_hex c [] true rest h = and_right _ _ refl
no_hex c [] false rest h = and_right _ _ refl
no_hex c (e ∷ es) b rest h = and_right _ _ (and_left _ _ (differs_back is_digit 120 e (all_head is_digit e es h).0 refl))

back_digits : (n : ℕ) (ds : List ℕ) (b : Bool) (rest : List ℕ) → n < 2 ^ 64 → IsDigits n ds → lexed 0 (ds ++ gap b ∷ rest) ≡ numbered n ∷ lexed 0 rest
back_digits n [] b rest small d = absurd (let s = d.some in omega arith)
back_digits n (c ∷ cs) b rest small d =
    let text = c ∷ (cs ++ gap b ∷ rest) in
    let ds = c ∷ cs in
    let head = all_head is_digit c cs d.all in
    let size : prefix_len is_digit text ≡ length ds = run_ends is_digit ds b rest d.all (not_digit b) in
    let none : length ds - 0 ≡ length ds = omega arith in
    let front : take (length ds - 0) text ≡ ds = ap (λ k. take k text) none ∙ take-append_seam ds (gap b ∷ rest) in
    let value : number_after 10 0 (take (length ds - 0) text) ≡ n = ap (number_after 10 0) front ∙ d.value in
    let apart : letter_first (drop (length ds) text) ≡ false = ap letter_first (drop-append_seam ds (gap b ∷ rest)) ∙ no_letter b rest in
    let whole : decimal_piece text ≡ Whole (Number n) (length ds) =
    ap (λ k. number_piece 10 0 k text) size
    ∙ ap (λ v. cond (letter_first (drop (length ds) text) || nat_le (2 ^ 64) v) (Broken (length ds)) (Whole (Number v) (length ds))) value
    ∙ ap (λ t. cond t (Broken (length ds)) (Whole (Number n) (length ds))) (or_from _ _ apart (lt-leb (2 ^ 64) n small)) in
    read_back c cs (Number n) b rest (fifth (is_blank c) (starts_with nat_eq text (codes "//")) (is_letter c) (starts_with nat_eq text (codes "0x")) (is_digit c) _ _ _ _ _ _ (no_blank is_digit c head.0 refl refl refl refl) (no_comment is_digit c (cs ++ gap b ∷ rest) head.0 refl) (digit_no_letter c head.0) (no_hex c cs b rest head.1) head.0 ∙ whole)

-- ---- a word, a line, and all lines

back : (w : Word) (b : Bool) (rest : List ℕ) → IsPlain w → lexed 0 (written w ++ gap b ∷ rest) ≡ w ∷ lexed 0 rest
back (named x) b rest h = back_name x b rest h
back (numbered n) b rest h = back_digits n (decimal n) b rest h (digits_of_number n h)
back (keyword k) b rest h = back_keyword k b rest
back (symbol s) b rest h = back_symbol s b rest
back ending b rest h = absurd h
back broken b rest h = absurd h

back_line : (ws : List Word) (rest : List ℕ) → AllPlain ws → lexed 0 (spaced ws (10 ∷ []) ++ rest) ≡ ws ++ lexed 0 rest
back_line [] rest h = passed_gap false rest
back_line (w ∷ []) rest h = ap (lexed 0) (append_assoc (written w) (10 ∷ []) rest) ∙ back w false rest h.0
back_line (w ∷ v ∷ ws) rest h =
    ap (lexed 0) (append_assoc (written w) (32 ∷ spaced (v ∷ ws) (10 ∷ [])) rest)
    ∙ back w true (spaced (v ∷ ws) (10 ∷ []) ++ rest) h.0
    ∙ ap (λ l. w ∷ l) (back_line (v ∷ ws) rest h.1)

back_lines : {b : Block} {ks : List Word} {l : Tree} → Is (AnyOf b) ks l → AllPlain ks → (rest : List ℕ) → lexed 0 (lines l ++ rest) ≡ ks ++ lexed 0 rest
back_lines is.no_more h rest = refl
back_lines (is.one_more {b = b} {ks = ks} {ls = ls} {l = l} {t = t} d e) h rest =
    let parts = AllPlain-parts ks ls h in
    let same : ls ≡ spelling t = spelled e (inner_member b) in
    ap (lexed 0) (append_assoc (lines l) (spaced (spelling t) (10 ∷ [])) rest)
    ∙ back_lines d parts.0 (spaced (spelling t) (10 ∷ []) ++ rest)
    ∙ ap (λ y. ks ++ y) (back_line (spelling t) rest (subst AllPlain same parts.1) ∙ ap (λ y. y ++ lexed 0 rest) (sym same))
    ∙ sym (append_assoc ks ls (lexed 0 rest))

pub print_back : (text : List ℕ) (t : Tree) → IsProgram text t → words_of (printed t) ≡ words_of text
unfolding lexed
print_back text t p = go (words_of text) p (words_of-lexed text)
  where
    go : (ws : List Word) → Is TheProgram ws t → ws ≡ lexed 0 text → words_of (printed t) ≡ ws
    go _ (is.program {ks = ks} d) e =
        words_of-lexed (printed t)
        ∙ ap (lexed 0) (sym (append-nil (lines t)))
        ∙ back_lines d (plain_words text ks (sym e)) []

pub same_program : (text : List ℕ) (t : Tree) → IsProgram text t → IsProgram (printed t) t
same_program text t p = subst (λ ws. Is TheProgram ws t) (sym (print_back text t p)) p
