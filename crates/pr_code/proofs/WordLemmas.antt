-- The words of bytes, one by one.
use Rattle.std.proofs.Common.{◌≡◌, ℕ, zero, suc, ◌+◌, ◌*◌, ◌<◌, ◌≤◌, List, [], ◌∷◌, length, drop, get_or, refl, ap, ◌∙◌, arith}
use Rattle.std.specs.Int.{w32, from_be_bytes}
use Rattle.pr_code.specs.Reading.{words_of_bytes}

-- no word is left where fewer than four bytes are
pub no_word : (bytes : List ℕ) (p : ℕ) → length bytes < 4 * p + 4 → drop p (words_of_bytes bytes) ≡ []
no_word [] zero h = refl
no_word [] (suc p) h = refl
no_word (a ∷ []) zero h = refl
no_word (a ∷ []) (suc p) h = refl
no_word (a ∷ b ∷ []) zero h = refl
no_word (a ∷ b ∷ []) (suc p) h = refl
no_word (a ∷ b ∷ c ∷ []) zero h = refl
no_word (a ∷ b ∷ c ∷ []) (suc p) h = refl
no_word (a ∷ b ∷ c ∷ d ∷ bytes) zero h = absurd (omega arith)
no_word (a ∷ b ∷ c ∷ d ∷ bytes) (suc p) h = no_word bytes p (omega arith)

-- the word of four bytes, read as a number
abbrev read_at : List ℕ → ℕ → ℕ
read_at bytes at = from_be_bytes w32 (get_or bytes at 0 ∷ get_or bytes (at + 1) 0 ∷ get_or bytes (at + 2) 0 ∷ get_or bytes (at + 3) 0 ∷ [])

read_later : (a b c d : ℕ) (bytes : List ℕ) (p : ℕ) → read_at (a ∷ b ∷ c ∷ d ∷ bytes) (4 * suc p) ≡ read_at bytes (4 * p)
read_later a b c d bytes p =
    let e : 4 * suc p ≡ suc (suc (suc (suc (4 * p)))) = omega arith in
    let e1 : 4 * suc p + 1 ≡ suc (suc (suc (suc (4 * p + 1)))) = omega arith in
    let e2 : 4 * suc p + 2 ≡ suc (suc (suc (suc (4 * p + 2)))) = omega arith in
    let e3 : 4 * suc p + 3 ≡ suc (suc (suc (suc (4 * p + 3)))) = omega arith in
    rw (e1, e2, e3, e) refl

pub word_here : (bytes : List ℕ) (p w : ℕ) → 4 * p + 4 ≤ length bytes → w ≡ read_at bytes (4 * p) → drop p (words_of_bytes bytes) ≡ w ∷ drop (p + 1) (words_of_bytes bytes)
word_here [] p w h e = absurd (omega arith)
word_here (a ∷ []) p w h e = absurd (omega arith)
word_here (a ∷ b ∷ []) p w h e = absurd (omega arith)
word_here (a ∷ b ∷ c ∷ []) p w h e = absurd (omega arith)
word_here (a ∷ b ∷ c ∷ d ∷ bytes) zero w h e =
    let same : a * 0x1000000 + b * 0x10000 + c * 0x100 + d ≡ w = omega (arith, e) in
    ap (λ x. x ∷ words_of_bytes bytes) same
word_here (a ∷ b ∷ c ∷ d ∷ bytes) (suc p) w h e =
    let next : suc p + 1 ≡ suc (p + 1) = omega arith in
    rw next (word_here bytes p w (omega arith) (e ∙ read_later a b c d bytes p))
