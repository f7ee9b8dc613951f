-- What no word has: words of Verilog and of the handshake have no dollar, and no underscore at their end.
use Rattle.std.proofs.Common.{◌≡◌, ◌++◌, ◌==◌, ◌||◌, ◌&&◌, ◌⊎◌, ◌∙◌, ℕ, zero, suc, Bool, true, false, List, [], ◌∷◌, bytes_eq, length, nat_le, take, refl, sym, ap, inl, inr, if◌then◌else◌}
use Rattle.std.proofs.lemmas.Bool.{and_parts, eqb-true}
use Rattle.std.proofs.lemmas.List.{append_cancel_right}
use Rattle.std.proofs.lemmas.Slice.Eq.{bytes_eq-Decides}
use Rattle.pr_lens_rtl_names.specs.Names.{begins, handshake_text, is_handshake, is_reserved, is_word, language_text, occurs, port_name, spaced, stem, stem_behind}
use Rattle.pr_lens_rtl_names.proofs.NameLemmas.{stem_less}

or_left : (a b : Bool) → a ≡ true → (a || b) ≡ true
or_left a b h = ap (λ q. q || b) h

or_right : (a b : Bool) → b ≡ true → (a || b) ≡ true
or_right true b h = refl
or_right false b h = h

or_cases : (a b : Bool) → (a || b) ≡ true → (a ≡ true) ⊎ (b ≡ true)
or_cases true b h = inl refl
or_cases false b h = inr h

or_false : (a b : Bool) → (a || b) ≡ false → (a ≡ false) × (b ≡ false)
or_false true b h = absurd (let none : true ≡ false = h in cc)
or_false false b h = (refl, h)

-- ---- a byte in a text
abbrev pub has : ℕ → List ℕ → Bool
has c [] = false
has c (x ∷ xs) = (x == c) || has c xs

pub has_both : (c : ℕ) (xs ys : List ℕ) → has c (xs ++ ys) ≡ (has c xs || has c ys)
has_both c [] ys = refl
has_both c (x ∷ xs) ys = ap (λ q. (x == c) || q) (has_both c xs ys) ∙ or_assoc (x == c) (has c xs) (has c ys)
  where
    or_assoc : (a b d : Bool) → (a || (b || d)) ≡ ((a || b) || d)
    or_assoc true b d = refl
    or_assoc false b d = refl

-- ---- a byte right before another one
abbrev pair : ℕ → ℕ → List ℕ → Bool
pair c d [] = false
pair c d (x ∷ []) = false
pair c d (x ∷ (y ∷ ys)) = ((x == c) && (y == d)) || pair c d (y ∷ ys)

-- ---- what a text has that occurs in another, the other has
record Grows (F : List ℕ → Bool) : Type 0 where
  pub front : (n : ℕ) (xs : List ℕ) → F (take n xs) ≡ true → F xs ≡ true
  pub more : (x : ℕ) (xs : List ℕ) → F xs ≡ true → F (x ∷ xs) ≡ true

begins_up : (F : List ℕ → Bool) → Grows F → (text piece : List ℕ) → begins text piece ≡ true → F piece ≡ true → F text ≡ true
begins_up F g text piece b h =
    let same : take (length piece) text ≡ piece = (bytes_eq-Decides (take (length piece) text) piece).0 (and_parts (nat_le (length piece) (length text)) (bytes_eq (take (length piece) text) piece) b).1 in
    g.front (length piece) text (ap F same ∙ h)

occurs_up : (F : List ℕ → Bool) → Grows F → (text piece : List ℕ) → occurs text piece ≡ true → F piece ≡ true → F text ≡ true
occurs_up F g [] piece o h = absurd (let none : false ≡ true = o in cc)
occurs_up F g (t ∷ ts) piece o h = go (or_cases (begins (t ∷ ts) piece) (occurs ts piece) o) (λ r. occurs_up F g ts piece r h)
  where
    go : (begins (t ∷ ts) piece ≡ true) ⊎ (occurs ts piece ≡ true) → (occurs ts piece ≡ true → F ts ≡ true) → F (t ∷ ts) ≡ true
    go (inl b) rest = begins_up F g (t ∷ ts) piece b h
    go (inr r) rest = g.more t ts (rest r)

-- a text that lacks it has no such piece
absent : (F : List ℕ → Bool) → Grows F → (text piece : List ℕ) → F text ≡ false → F piece ≡ true → occurs text piece ≡ false
absent F g text piece lacks h = go (occurs text piece) refl
  where
    go : (b : Bool) → occurs text piece ≡ b → occurs text piece ≡ false
    go true e = absurd (let found = occurs_up F g text piece e h in cc)
    go false e = e

has_front : (c n : ℕ) (xs : List ℕ) → has c (take n xs) ≡ true → has c xs ≡ true
has_front c zero xs h = absurd (let none : false ≡ true = h in cc)
has_front c (suc n) [] h = h
has_front c (suc n) (x ∷ xs) h = go (or_cases (x == c) (has c (take n xs)) h) (has_front c n xs)
  where
    go : ((x == c) ≡ true) ⊎ (has c (take n xs) ≡ true) → (has c (take n xs) ≡ true → has c xs ≡ true) → has c (x ∷ xs) ≡ true
    go (inl e) rest = or_left (x == c) (has c xs) e
    go (inr e) rest = or_right (x == c) (has c xs) (rest e)

has_grows : (c : ℕ) → Grows (has c)
has_grows c = record { front = has_front c; more = λ x xs h. or_right (x == c) (has c xs) h }

pair_more : (c d x : ℕ) (xs : List ℕ) → pair c d xs ≡ true → pair c d (x ∷ xs) ≡ true
pair_more c d x [] h = absurd (let none : false ≡ true = h in cc)
pair_more c d x (y ∷ ys) h = or_right ((x == c) && (y == d)) (pair c d (y ∷ ys)) h

pair_front : (c d n : ℕ) (xs : List ℕ) → pair c d (take n xs) ≡ true → pair c d xs ≡ true
pair_front c d zero xs h = absurd (let none : false ≡ true = h in cc)
pair_front c d (suc n) [] h = h
pair_front c d (suc zero) (x ∷ xs) h = absurd (let none : false ≡ true = h in cc)
pair_front c d (suc (suc n)) (x ∷ []) h = h
pair_front c d (suc (suc n)) (x ∷ (y ∷ ys)) h = go (or_cases ((x == c) && (y == d)) (pair c d (y ∷ take n ys)) h) (pair_front c d (suc n) (y ∷ ys))
  where
    go : (((x == c) && (y == d)) ≡ true) ⊎ (pair c d (y ∷ take n ys) ≡ true) → (pair c d (y ∷ take n ys) ≡ true → pair c d (y ∷ ys) ≡ true) → pair c d (x ∷ (y ∷ ys)) ≡ true
    go (inl e) rest = or_left ((x == c) && (y == d)) (pair c d (y ∷ ys)) e
    go (inr e) rest = or_right ((x == c) && (y == d)) (pair c d (y ∷ ys)) (rest e)

pair_grows : (c d : ℕ) → Grows (pair c d)
pair_grows c d = record { front = pair_front c d; more = λ x xs h. pair_more c d x xs h }

-- ---- the words
no_dollars : (has 36 language_text ≡ false) × (has 36 handshake_text ≡ false)
unfolding language_text handshake_text
no_dollars = (refl, refl)

no_unders : (pair 95 32 language_text ≡ false) × (pair 95 32 handshake_text ≡ false)
unfolding language_text handshake_text
no_unders = (refl, refl)

dollar_spaced : (name : List ℕ) → has 36 name ≡ true → has 36 (spaced name) ≡ true
dollar_spaced name h = has_both 36 name (32 ∷ []) ∙ or_left (has 36 name) (has 36 (32 ∷ [])) h

-- a name with a dollar is no word
pub dollar_reserved : (name : List ℕ) → has 36 name ≡ true → is_reserved name ≡ false
dollar_reserved name h = absent (has 36) (has_grows 36) language_text (spaced name) no_dollars.0 (dollar_spaced name h)

under_spaced : (m : List ℕ) → pair 95 32 ((m ++ 95 ∷ []) ++ 32 ∷ []) ≡ true
under_spaced [] = refl
under_spaced (x ∷ xs) = pair_more 95 32 x ((xs ++ 95 ∷ []) ++ 32 ∷ []) (under_spaced xs)

-- a name with an underscore at its end is none either
under_word : (m : List ℕ) → is_word (m ++ 95 ∷ []) ≡ false
under_word m =
    let end : pair 95 32 (spaced (m ++ 95 ∷ [])) ≡ true = pair_more 95 32 32 ((m ++ 95 ∷ []) ++ 32 ∷ []) (under_spaced m) in
    ap (λ q. q || is_handshake (m ++ 95 ∷ [])) (absent (pair 95 32) (pair_grows 95 32) language_text (spaced (m ++ 95 ∷ [])) no_unders.0 end)
    ∙ absent (pair 95 32) (pair_grows 95 32) handshake_text (spaced (m ++ 95 ∷ [])) no_unders.1 end

-- ---- the names of ports
-- a name is its own stem, or it has an underscore at its end
ends : (name : List ℕ) → (stem name ≡ name) ⊎ ((m : List ℕ) × (name ≡ m ++ 95 ∷ []))
ends [] = inl refl
ends (c ∷ cs) = go cs (ends cs)
  where
    last : (b : Bool) → (c == 95) ≡ b → ((if c == 95 then [] else c ∷ []) ≡ c ∷ []) ⊎ ((m : List ℕ) × (c ∷ [] ≡ m ++ 95 ∷ []))
    last true e = inr ([], ap (λ x. x ∷ []) (eqb-true c 95 e))
    last false e = inl (ap (λ b. if b then [] else c ∷ []) e)

    go : (cs : List ℕ) → (stem cs ≡ cs) ⊎ ((m : List ℕ) × (cs ≡ m ++ 95 ∷ [])) → (stem (c ∷ cs) ≡ c ∷ cs) ⊎ ((m : List ℕ) × (c ∷ cs ≡ m ++ 95 ∷ []))
    go [] h = last (c == 95) refl
    go (d ∷ ds) (inl e) = inl (ap (stem_behind c) e)
    go (d ∷ ds) (inr h) = inr (c ∷ h.0, ap (λ q. c ∷ q) h.1)

port_yes : (name : List ℕ) → is_word (stem name) ≡ true → port_name name ≡ name ++ 95 ∷ []
port_yes name h = ap (λ b. if b then name ++ 95 ∷ [] else name) h

port_no : (name : List ℕ) → is_word (stem name) ≡ false → port_name name ≡ name
port_no name h = ap (λ b. if b then name ++ 95 ∷ [] else name) h

-- no port is a word
pub port_word : (name : List ℕ) → is_word (port_name name) ≡ false
port_word name = go (is_word (stem name)) refl
  where
    plain : is_word (stem name) ≡ false → (stem name ≡ name) ⊎ ((m : List ℕ) × (name ≡ m ++ 95 ∷ [])) → is_word name ≡ false
    plain h (inl e) = ap is_word (sym e) ∙ h
    plain h (inr e) = ap is_word e.1 ∙ under_word e.0

    go : (b : Bool) → is_word (stem name) ≡ b → is_word (port_name name) ≡ false
    go true h = ap is_word (port_yes name h) ∙ under_word name
    go false h = ap is_word (port_no name h) ∙ plain h (ends name)

pub port_reserved : (name : List ℕ) → is_reserved (port_name name) ≡ false
port_reserved name = (or_false (is_reserved (port_name name)) (is_handshake (port_name name)) (port_word name)).0

pub port_handshake : (name : List ℕ) → is_handshake (port_name name) ≡ false
port_handshake name = (or_false (is_reserved (port_name name)) (is_handshake (port_name name)) (port_word name)).1

-- one name with an underscore more is another port only where its stem is a word
crossed : (a b : List ℕ) → is_word (stem a) ≡ true → is_word (stem b) ≡ false → a ++ 95 ∷ [] ≡ b → a ≡ b
crossed a b is other e = absurd (let same : is_word (stem a) ≡ is_word (stem b) = ap is_word (sym (stem_less a) ∙ ap stem e) in cc)

-- two names give two ports
pub port_differs : (a b : List ℕ) → port_name a ≡ port_name b → a ≡ b
port_differs a b e = go (is_word (stem a)) (is_word (stem b)) refl refl
  where
    go : (p q : Bool) → is_word (stem a) ≡ p → is_word (stem b) ≡ q → a ≡ b
    go true true h k = append_cancel_right a b (95 ∷ []) (sym (port_yes a h) ∙ e ∙ port_yes b k)
    go true false h k = crossed a b h k (sym (port_yes a h) ∙ e ∙ port_no b k)
    go false true h k = sym (crossed b a k h (sym (port_yes b k) ∙ sym e ∙ port_no a h))
    go false false h k = sym (port_no a h) ∙ e ∙ port_no b k

-- a port is its name, or its name with an underscore behind it
pub port_cases : (P : List ℕ → Type 0) (name : List ℕ) → P name → P (name ++ 95 ∷ []) → P (port_name name)
port_cases P name plain under = go (is_word (stem name))
  where
    go : (b : Bool) → P (if b then name ++ 95 ∷ [] else name)
    go true = under
    go false = plain
