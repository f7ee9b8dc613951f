-- Facts about the pieces of a text.
use Rattle.std.proofs.Common.{◌≡◌, ℕ, zero, suc, Bool, true, false, cond, not, ◌||◌, ◌+◌, ◌*◌, ◌-◌, ◌^◌, ◌≤◌, ◌<◌, List, [], ◌∷◌, ◌++◌, drop, take, length, get_or, find, nat_eq, nat_le, Option, Some, None, inl, inr, refl, sym, ap, subst, ◌∙◌, arith, length-append, length-drop, append_assoc}
use Rattle.std.proofs.lemmas.List.{drop-drop, drop_all, at_drop_more}
use Rattle.std.proofs.Math.Nat.{le-mul_of_pos_right}
use Rattle.std.proofs.Math.Seq.{drop-cons}
use Rattle.std.proofs.lemmas.List.Sums.{prefix_len-le-length}
use Rattle.std.proofs.lemmas.Bool.Decides.{Decides-eqb, eqb_tells}
use Rattle.std.proofs.lemmas.Slice.Eq.{starts_is}
use Rattle.std.specs.List.{prefix_len, starts_with}
use Rattle.std.specs.Prelude.{codes}
use Rattle.pr_lang.specs.declared.tokens.Kind.TheVariants.{Bad, End}
use Rattle.pr_lang.specs.declared.tokens.Token.{Token}
use Rattle.pr_lang.specs.declared.tokens.Symbol.{Symbol}
use Rattle.pr_lang.specs.declared.tokens.Symbol.TheVariants.{Colon}
use Rattle.pr_lang.specs.Spelling.{symbol_text, symbols, is_blank, is_line_feed, is_digit, is_hex_digit, is_letter, is_name_byte}
use Rattle.pr_lang.specs.Tokens.{number_after, digit_value, tokens_from, Piece, Gap, Whole, Broken, piece_from, hex_piece, number_piece, symbol_piece, symbol_of, letter_first, token}

-- more digits make no number smaller
pub number_after-le : (base before : ℕ) (cs : List ℕ) → 0 < base → before ≤ number_after base before cs
number_after-le base before [] h = omega arith
number_after-le base before (c ∷ cs) h =
    let e = number_after-le base (before * base + digit_value c) cs h in
    let m : before ≤ before * base = le-mul_of_pos_right before h in
    omega arith

pub number_after-step : (base before i total : ℕ) (cs : List ℕ) → 0 < base → i < length cs → number_after base before (drop i cs) ≡ total → before * base + digit_value (get_or cs i 0) ≤ total
number_after-step base before i total cs h j e =
    let f : number_after base before (drop i cs) ≡ number_after base (before * base + digit_value (get_or cs i 0)) (drop (i + 1) cs) = at_drop_more (number_after base before) cs i 0 j in
    let g = number_after-le base (before * base + digit_value (get_or cs i 0)) (drop (i + 1) cs) h in
    omega arith

-- a search, one step on
pub find-step : {X : Type 0} (p : X → Bool) (xs : List X) (i : ℕ) (d : X) (r : Option X) → i < length xs → find p (drop i xs) ≡ r → p (get_or xs i d) ≡ false → find p (drop (i + 1) xs) ≡ r
find-step p xs i d r h e f = ap (λ b. cond b (Some (get_or xs i d)) (find p (drop (i + 1) xs))) (sym f) ∙ sym (at_drop_more (find p) xs i d h) ∙ e

pub find-here : {X : Type 0} (p : X → Bool) (xs : List X) (i : ℕ) (d : X) (r : Option X) → i < length xs → find p (drop i xs) ≡ r → p (get_or xs i d) ≡ true → Some (get_or xs i d) ≡ r
find-here p xs i d r h e f = ap (λ b. cond b (Some (get_or xs i d)) (find p (drop (i + 1) xs))) (sym f) ∙ sym (at_drop_more (find p) xs i d h) ∙ e

pub find-passes : {X : Type 0} (p : X → Bool) (xs : List X) (x : X) → find p xs ≡ Some x → p x ≡ true
find-passes p [] x e = absurd cc
find-passes p (y ∷ ys) x e = go (λ f. find-passes p ys x f) (p y) refl e
  where
    go : (find p ys ≡ Some x → p x ≡ true) → (b : Bool) → p y ≡ b → cond b (Some y) (find p ys) ≡ Some x → p x ≡ true
    go ih true h f = let same : y ≡ x = cc in ap p (sym same) ∙ h
    go ih false h f = ih f

-- the bytes of a piece are passed over
pub tokens_from-skip : (place n : ℕ) (cs : List ℕ) → n ≤ length cs → tokens_from place n cs ≡ tokens_from (place + n) 0 (drop n cs)
unfolding tokens_from
tokens_from-skip place zero cs h = ap (λ p. tokens_from p 0 cs) (omega arith)
tokens_from-skip place (suc n) [] h = absurd (omega arith)
tokens_from-skip place (suc n) (c ∷ cs) h = tokens_from-skip (suc place) n cs (omega arith) ∙ ap (λ p. tokens_from p 0 (drop n cs)) (omega arith)

-- ---- every piece lies within its text, and none but a broken one is empty

abbrev pub IsSized : Piece → ℕ → Type 0
IsSized (Gap n) size = (0 < n) × (n ≤ size)
IsSized (Whole k n) size = (0 < n) × (n ≤ size)
IsSized (Broken n) size = n ≤ size

sized-cond : (b : Bool) (p q : Piece) (size : ℕ) → (b ≡ true → IsSized p size) → (b ≡ false → IsSized q size) → IsSized (cond b p q) size
sized-cond true p q size f g = f refl
sized-cond false p q size f g = g refl

prefix_len-some : (p : ℕ → Bool) (c : ℕ) (cs : List ℕ) → p c ≡ true → 0 < prefix_len p (c ∷ cs)
prefix_len-some p c cs h = let e : prefix_len p (c ∷ cs) ≡ 1 + prefix_len p cs = ap (λ b. cond b (1 + prefix_len p cs) 0) h in omega arith

front_is : (text front : List ℕ) → starts_with nat_eq text front ≡ true → text ≡ front ++ drop (length front) text
front_is text front h = (starts_is Decides-eqb text front (starts_with nat_eq text front) refl).0 h

front_within : (text front : List ℕ) → starts_with nat_eq text front ≡ true → length front ≤ length text
front_within text front h = let e = ap length (front_is text front h) in omega (arith, length-append front (drop (length front) text))

not_both : (a b : Bool) → (a || b) ≡ false → b ≡ false
not_both true b h = absurd cc
not_both false b h = h

flipped : (b : Bool) → b ≡ false → not b ≡ true
flipped true h = absurd cc
flipped false h = refl

left_is : (a b : Bool) → a ≡ true → (a || b) ≡ true
left_is true b h = refl
left_is false b h = absurd cc

sized-symbol : (text : List ℕ) (o : Option Symbol) → symbol_of text ≡ o → 0 < length text → IsSized (symbol_piece o) (length text)
sized-symbol text None e h = omega arith
sized-symbol text (Some s) e h = (some s, front_within text (symbol_text s) (find-passes (λ m. starts_with nat_eq text (symbol_text m)) symbols s e))
  where
    some : (m : Symbol) → 0 < length (symbol_text m)
    some Colon = omega arith
    some _ = omega arith

sized-number : (base skip n : ℕ) (text : List ℕ) → 0 < n → n ≤ length text → IsSized (number_piece base skip n text) (length text)
sized-number base skip n text h i = sized-cond (letter_first (drop n text) || nat_le (2 ^ 64) (number_after base 0 (take (n - skip) (drop skip text)))) _ _ (length text) (λ _. i) (λ _. (h, i))

sized-hex : (text : List ℕ) → 2 ≤ length text → IsSized (hex_piece text) (length text)
sized-hex text h =
    let count = prefix_len is_hex_digit (drop 2 text) in
    let e = prefix_len-le-length is_hex_digit (drop 2 text) in
    sized-cond (nat_eq count 0) _ _ (length text) (λ _. h) (λ _. sized-number 16 2 (2 + count) text (omega arith) (omega (arith, length_drop text)))
  where
    length_drop : (text : List ℕ) → length (drop 2 text) ≡ length text - 2
    length_drop text = simp length-drop

pub piece_from-sized : (c : ℕ) (cs : List ℕ) → IsSized (piece_from c (c ∷ cs)) (length (c ∷ cs))
piece_from-sized c cs =
    let size = length (c ∷ cs) in
    let some : 0 < size = omega arith in
    sized-cond (is_blank c) _ _ size (λ _. (omega arith, omega arith)) (λ blank.
    sized-cond (starts_with nat_eq (c ∷ cs) (codes "//")) _ _ size (λ _. (prefix_len-some (λ b. not (is_line_feed b)) c cs (flipped (is_line_feed c) (not_both _ (is_line_feed c) blank)), prefix_len-le-length (λ b. not (is_line_feed b)) (c ∷ cs))) (λ _.
    sized-cond (is_letter c) _ _ size (λ letter. (prefix_len-some is_name_byte c cs (left_is (is_letter c) (is_digit c) letter), prefix_len-le-length is_name_byte (c ∷ cs))) (λ _.
    sized-cond (starts_with nat_eq (c ∷ cs) (codes "0x")) _ _ size (λ hex. sized-hex (c ∷ cs) (front_within (c ∷ cs) (codes "0x") hex)) (λ _.
    sized-cond (is_digit c) _ _ size (λ digit. sized-number 10 0 (prefix_len is_digit (c ∷ cs)) (c ∷ cs) (prefix_len-some is_digit c cs digit) (prefix_len-le-length is_digit (c ∷ cs))) (λ _.
    sized-symbol (c ∷ cs) (symbol_of (c ∷ cs)) refl some)))))

-- ---- the tokens from a place on

abbrev pub tokens_after : Piece → List ℕ → ℕ → List Token
tokens_after (Gap n) text at = tokens_from (at + n) 0 (drop (at + n) text)
tokens_after (Whole k n) text at = token k at n ∷ tokens_from (at + n) 0 (drop (at + n) text)
tokens_after (Broken n) text at = token Bad at n ∷ []

passed : (text : List ℕ) (at n : ℕ) → at < length text → 0 < n → n ≤ length text - at → tokens_from (suc at) (n - 1) (drop (suc at) text) ≡ tokens_from (at + n) 0 (drop (at + n) text)
passed text at n h some within =
    let e : (suc at) + (n - 1) ≡ at + n = omega arith in
    let l : n - 1 ≤ length (drop (suc at) text) = simp length-drop (omega arith) in
    tokens_from-skip (suc at) (n - 1) (drop (suc at) text) l ∙ ap (λ l. tokens_from ((suc at) + (n - 1)) 0 l) (drop-drop (n - 1) (suc at) text) ∙ ap (λ p. tokens_from p 0 (drop p text)) e

pub sized_at : (text rest : List ℕ) (at : ℕ) (p : Piece) → at < length text → rest ≡ drop at text → p ≡ piece_from (get_or text at 0) rest → IsSized p (length text - at)
sized_at text rest at p h e f =
    let d = drop-cons text at 0 h in
    let g : piece_from (get_or text at 0) (get_or text at 0 ∷ drop (suc at) text) ≡ p = ap (λ l. piece_from (get_or text at 0) l) (sym (e ∙ d)) ∙ sym f in
    let n : length (get_or text at 0 ∷ drop (suc at) text) ≡ length text - at = ap length (sym d) ∙ simp length-drop in
    subst (λ m. IsSized p m) n (subst (λ q. IsSized q (length (get_or text at 0 ∷ drop (suc at) text))) g (piece_from-sized (get_or text at 0) (drop (suc at) text)))

pub tokens_at : (text rest : List ℕ) (at : ℕ) (p : Piece) → at < length text → rest ≡ drop at text → p ≡ piece_from (get_or text at 0) rest → tokens_from at 0 (drop at text) ≡ tokens_after p text at
unfolding tokens_from
tokens_at text rest at p h e f =
    let d = drop-cons text at 0 h in
    let g : piece_from (get_or text at 0) (get_or text at 0 ∷ drop (suc at) text) ≡ p = ap (λ l. piece_from (get_or text at 0) l) (sym (e ∙ d)) ∙ sym f in
    ap (λ l. tokens_from at 0 l) d ∙ ap onward g ∙ go p (sized_at text rest at p h e f)
  where
    onward : Piece → List Token
    onward (Gap size) = tokens_from (suc at) (size - 1) (drop (suc at) text)
    onward (Whole kind size) = token kind at size ∷ tokens_from (suc at) (size - 1) (drop (suc at) text)
    onward (Broken size) = token Bad at size ∷ []

    go : (m : Piece) → IsSized m (length text - at) → onward m ≡ tokens_after m text at
    go (Gap n) s = passed text at n h s.0 s.1
    go (Whole k n) s = ap (λ l. token k at n ∷ l) (passed text at n h s.0 s.1)
    go (Broken n) s = refl

pub tokens_end : (text : List ℕ) (at : ℕ) → length text ≤ at → tokens_from at 0 (drop at text) ≡ token End at 0 ∷ []
unfolding tokens_from
tokens_end text at h = ap (λ l. tokens_from at 0 l) (drop_all at text h)

-- one token more
pub one_more : {X : Type 0} (found new rest after all : List X) (x y : X) → new ≡ found ++ x ∷ [] → x ≡ y → rest ≡ y ∷ after → found ++ rest ≡ all → new ++ after ≡ all
one_more found new rest after all x y e f g h = ap (λ l. l ++ after) (e ∙ ap (λ z. found ++ z ∷ []) f) ∙ append_assoc found (y ∷ []) after ∙ ap (λ l. found ++ l) (sym g) ∙ h

pub last_one : {X : Type 0} (found new rest all : List X) (x y : X) → new ≡ found ++ x ∷ [] → x ≡ y → rest ≡ y ∷ [] → found ++ rest ≡ all → new ≡ all
last_one found new rest all x y e f g h = e ∙ ap (λ z. found ++ z ∷ []) f ∙ ap (λ l. found ++ l) (sym g) ∙ h

-- a number after `0x` with some digits
pub hex_is : (text : List ℕ) (count : ℕ) (p : Piece) → (count ≡ 0 → ⊥) → count ≡ prefix_len is_hex_digit (drop 2 text) → p ≡ number_piece 16 2 (2 + count) text → p ≡ hex_piece text
hex_is text count p h e f = f ∙ ap (λ k. number_piece 16 2 (2 + k) text) e ∙ go (prefix_len is_hex_digit (drop 2 text)) (λ z. h (e ∙ z))
  where
    go : (n : ℕ) → (n ≡ 0 → ⊥) → number_piece 16 2 (2 + n) text ≡ cond (nat_eq n 0) (Broken 2) (number_piece 16 2 (2 + n) text)
    go n some = elim (eqb_tells n 0) [ inl t ↦ absurd (some t.1) | inr t ↦ ap (λ b. cond b (Broken 2) (number_piece 16 2 (2 + n) text)) (sym t.0) ]
