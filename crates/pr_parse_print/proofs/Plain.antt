-- The words of texts are names, numbers that fit, keywords and symbols; none but the last is another one.
use Rattle.std.proofs.Common.{◌≡◌, ℕ, zero, suc, ◌+◌, ◌-◌, ◌^◌, ◌<◌, Bool, true, false, cond, ◌||◌, nat_eq, nat_le, Option, Some, None, List, [], ◌∷◌, ◌++◌, length, take, drop, refl, sym, ap, subst, ◌∙◌, arith, leb-false}
use Rattle.std.proofs.lemmas.Bool.{or_left, or_parts}
use Rattle.std.specs.List.{prefix_len, starts_with}
use Rattle.std.specs.Prelude.{codes}
use Rattle.pr_lang.specs.declared.tokens.Keyword.{Keyword}
use Rattle.pr_lang.specs.declared.tokens.Symbol.{Symbol}
use Rattle.pr_lang.specs.Spelling.{is_blank, is_digit, is_hex_digit, is_letter, is_name_byte}
use Rattle.pr_lang.specs.Tokens.{Piece, Gap, Whole, Broken, piece_from, word_piece, word_kind, keyword_of, number_piece, number_after, symbol_piece, symbol_of, letter_first}
use Rattle.pr_lang.specs.Word.{Word, named, numbered, keyword, symbol, ending, broken, word_by}
use Rattle.pr_parse_print.proofs.Lexed.{lexed}

pub record IsName (x : List ℕ) : Type 0 where
  pub first : letter_first x ≡ true
  pub all : prefix_len is_name_byte x ≡ length x
  pub free : keyword_of x ≡ None

abbrev pub IsPlain : Word → Type 0
IsPlain (named x) = IsName x
IsPlain (numbered n) = n < 2 ^ 64
IsPlain (keyword k) = Unit {0}
IsPlain (symbol s) = Unit {0}
IsPlain ending = ⊥
IsPlain broken = ⊥

abbrev pub AllPlain : List Word → Type 0
AllPlain [] = Unit {0}
AllPlain (w ∷ ws) = IsPlain w × AllPlain ws

-- all but the last
abbrev PlainToLast : List Word → Type 0
PlainToLast [] = Unit {0}
PlainToLast (w ∷ []) = Unit {0}
PlainToLast (w ∷ v ∷ ws) = IsPlain w × PlainToLast (v ∷ ws)

-- ---- pieces

abbrev IsFine : Piece → List ℕ → Type 0
IsFine (Gap n) text = Unit {0}
IsFine (Whole k n) text = IsPlain (word_by (take n text) k)
IsFine (Broken n) text = Unit {0}

fine-cond : (b : Bool) (p q : Piece) (text : List ℕ) → (b ≡ true → IsFine p text) → (b ≡ false → IsFine q text) → IsFine (cond b p q) text
fine-cond true p q text f g = f refl
fine-cond false p q text f g = g refl

front-first : (p : ℕ → Bool) (c : ℕ) (cs : List ℕ) → p c ≡ true → take (prefix_len p (c ∷ cs)) (c ∷ cs) ≡ c ∷ take (prefix_len p cs) cs
front-first p c cs h =
    let n : prefix_len p (c ∷ cs) ≡ suc (prefix_len p cs) = ap (λ b. cond b (1 + prefix_len p cs) 0) h ∙ omega arith in
    ap (λ k. take k (c ∷ cs)) n

front-all : (p : ℕ → Bool) (xs : List ℕ) → prefix_len p (take (prefix_len p xs) xs) ≡ length (take (prefix_len p xs) xs)
front-all p [] = refl
front-all p (c ∷ cs) = go (front-all p cs) (p c) refl
  where
    go : prefix_len p (take (prefix_len p cs) cs) ≡ length (take (prefix_len p cs) cs) → (b : Bool) → p c ≡ b → prefix_len p (take (prefix_len p (c ∷ cs)) (c ∷ cs)) ≡ length (take (prefix_len p (c ∷ cs)) (c ∷ cs))
    go ih true h =
        let e = front-first p c cs h in
        let n : 1 + prefix_len p (take (prefix_len p cs) cs) ≡ suc (length (take (prefix_len p cs) cs)) = omega (arith, ih) in
        ap (prefix_len p) e ∙ ap (λ b. cond b (1 + prefix_len p (take (prefix_len p cs) cs)) 0) h ∙ n ∙ ap length (sym e)
    go ih false h =
        let z : prefix_len p (c ∷ cs) ≡ 0 = ap (λ b. cond b (1 + prefix_len p cs) 0) h in
        ap (λ k. prefix_len p (take k (c ∷ cs))) z ∙ ap (λ k. length (take k (c ∷ cs))) (sym z)

fine-word : (c : ℕ) (cs : List ℕ) → is_letter c ≡ true → IsFine (word_piece (c ∷ cs)) (c ∷ cs)
fine-word c cs h = go (keyword_of (take (prefix_len is_name_byte (c ∷ cs)) (c ∷ cs))) refl
  where
    go : (o : Option Keyword) → keyword_of (take (prefix_len is_name_byte (c ∷ cs)) (c ∷ cs)) ≡ o → IsPlain (word_by (take (prefix_len is_name_byte (c ∷ cs)) (c ∷ cs)) (word_kind o))
    go None e = record { first = ap letter_first (front-first is_name_byte c cs (or_left (is_letter c) (is_digit c) h)) ∙ h; all = front-all is_name_byte (c ∷ cs); free = e }
    go (Some k) e = tt

fine-number : (base skip n : ℕ) (text : List ℕ) → IsFine (number_piece base skip n text) text
fine-number base skip n text =
    let v = number_after base 0 (take (n - skip) (drop skip text)) in
    fine-cond (letter_first (drop n text) || nat_le (2 ^ 64) v) _ _ text (λ _. tt) (λ h. leb-false (2 ^ 64) v (or_parts (letter_first (drop n text)) (nat_le (2 ^ 64) v) h).1)

fine-symbol : (text : List ℕ) (o : Option Symbol) → IsFine (symbol_piece o) text
fine-symbol text None = tt
fine-symbol text (Some s) = tt

fine : (c : ℕ) (cs : List ℕ) → IsFine (piece_from c (c ∷ cs)) (c ∷ cs)
fine c cs =
    let text = c ∷ cs in
    let count = prefix_len is_hex_digit (drop 2 text) in
    fine-cond (is_blank c) _ _ text (λ _. tt) (λ _.
    fine-cond (starts_with nat_eq text (codes "//")) _ _ text (λ _. tt) (λ _.
    fine-cond (is_letter c) _ _ text (λ h. fine-word c cs h) (λ _.
    fine-cond (starts_with nat_eq text (codes "0x")) _ _ text (λ _. fine-cond (nat_eq count 0) _ _ text (λ _. tt) (λ _. fine-number 16 2 (2 + count) text)) (λ _.
    fine-cond (is_digit c) _ _ text (λ _. fine-number 10 0 (prefix_len is_digit text) text) (λ _.
    fine-symbol text (symbol_of text))))))

-- ---- words

one_plain : (w : Word) (ws : List Word) → IsPlain w → PlainToLast ws → PlainToLast (w ∷ ws)
one_plain w [] p q = tt
one_plain w (v ∷ ws) p q = (p, q)

plain-lexed : (skip : ℕ) (text : List ℕ) → PlainToLast (lexed skip text)
unfolding lexed
plain-lexed skip [] = tt
plain-lexed (suc skip) (c ∷ cs) = plain-lexed skip cs
plain-lexed zero (c ∷ cs) = go (λ n. plain-lexed n cs) (piece_from c (c ∷ cs)) (fine c cs)
  where
    go : ((n : ℕ) → PlainToLast (lexed n cs)) → (p : Piece) → IsFine p (c ∷ cs) → PlainToLast (elim p [ Gap size ↦ lexed (size - 1) cs | Whole kind size ↦ word_by (take size (c ∷ cs)) kind ∷ lexed (size - 1) cs | Broken size ↦ broken ∷ [] ])
    go ih (Gap size) h = ih (size - 1)
    go ih (Whole kind size) h = one_plain (word_by (take size (c ∷ cs)) kind) (lexed (size - 1) cs) h (ih (size - 1))
    go ih (Broken size) h = tt

plain_before : (ks : List Word) → PlainToLast (ks ++ ending ∷ []) → AllPlain ks
plain_before [] h = tt
plain_before (k ∷ []) h = (h.0, tt)
plain_before (k ∷ j ∷ ks) h = (h.0, plain_before (j ∷ ks) h.1)

pub AllPlain-parts : (ks ls : List Word) → AllPlain (ks ++ ls) → AllPlain ks × AllPlain ls
AllPlain-parts [] ls h = (tt, h)
AllPlain-parts (k ∷ ks) ls h = let r = AllPlain-parts ks ls h.1 in ((h.0, r.0), r.1)

-- the words of a text that ends well
pub plain_words : (text : List ℕ) (ks : List Word) → lexed 0 text ≡ ks ++ ending ∷ [] → AllPlain ks
plain_words text ks e = plain_before ks (subst PlainToLast e (plain-lexed 0 text))
