-- A piece put at the end, and one taken from the front.
use Rattle.std.proofs.Common.{◌≡◌, ℕ, zero, suc, ◌+◌, ◌-◌, ◌*◌, ◌≤◌, min, List, [], ◌∷◌, ◌++◌, map, length, take, drop, refl, sym, ap, ap₂, ◌∙◌, arith, add-one, length-append}
use Rattle.std.proofs.lemmas.List.{length-map, take_all, take-append-le, drop-append-le, length-drop, append-nil}
use Rattle.std.proofs.Math.Seq.{drop-length}
use Rattle.std.proofs.Math.Nat.{mul-le-mul_right}
use Rattle.circular_buffer.specs.Buffer.{Buffer, buffer}
use Rattle.pr_queue.specs.Pieces.{of_word, pieces_of, waiting_in}

length-pieces_of : (c n : ℕ) (bytes : List ℕ) → length (pieces_of c n bytes) ≡ c
length-pieces_of zero n bytes = refl
length-pieces_of (suc c) n bytes = omega (arith, length-pieces_of c n (drop n bytes))

pub how_many : (n : ℕ) (words : List ℕ) (c : ℕ) (bytes : List ℕ) → length (waiting_in n words c bytes) ≡ length words + c
how_many n words c bytes =
    length-append (map (of_word n) words) (pieces_of c n bytes) ∙ ap₂ (λ a b. a + b) (length-map words (of_word n)) (length-pieces_of c n bytes)

more : (c n : ℕ) (bytes piece : List ℕ) → length bytes ≡ c * n → length piece ≡ n → pieces_of (suc c) n (bytes ++ piece) ≡ pieces_of c n bytes ++ piece ∷ []
more zero n [] piece long size = ap (λ x. x ∷ []) (take_all n piece (omega (arith, size)))
more zero n (b ∷ bytes) piece long size = absurd (omega (arith, long))
more (suc c) n bytes piece long size =
    let within : n ≤ length bytes = omega (arith, long) in
    let rest : length (drop n bytes) ≡ c * n = omega (arith, long, length-drop n bytes) in
    ap₂ (λ x xs. x ∷ xs) (take-append-le n bytes piece within) (ap (pieces_of (suc c) n) (drop-append-le n bytes piece within) ∙ more c n (drop n bytes) piece rest size)

-- the ring as it is once a piece is put
put_whole : (c taken cap : ℕ) (bytes piece : List ℕ) (new : Buffer ℕ) → length bytes ≡ c * length piece → c ≤ 16 → (c ≡ 16 → ⊥) → cap ≡ 16 * length piece
    → taken ≡ min (length piece) (cap - length bytes) → new ≡ buffer (bytes ++ take taken piece) cap → new.items ≡ bytes ++ piece
put_whole c taken cap bytes piece new long most not_full room ht hn =
    let below : c + 1 ≤ 16 = omega arith in
    let fits : (c + 1) * length piece ≤ 16 * length piece = mul-le-mul_right (length piece) below in
    let all : length piece ≤ taken = omega (arith, ht, fits, long, room) in
    ap (λ (b : Buffer ℕ). b.items) hn ∙ ap (λ x. bytes ++ x) (take_all taken piece all)

pub pieces_put : (c taken cap : ℕ) (bytes piece : List ℕ) (new : Buffer ℕ) → length bytes ≡ c * length piece → c ≤ 16 → (c ≡ 16 → ⊥) → cap ≡ 16 * length piece
    → taken ≡ min (length piece) (cap - length bytes) → new ≡ buffer (bytes ++ take taken piece) cap
    → pieces_of (c + 1) (length piece) new.items ≡ pieces_of c (length piece) bytes ++ piece ∷ []
pieces_put c taken cap bytes piece new long most not_full room ht hn =
    ap (pieces_of (c + 1) (length piece)) (put_whole c taken cap bytes piece new long most not_full room ht hn) ∙ rw add-one (more c (length piece) bytes piece long refl)

pub long_after_put : (c taken cap : ℕ) (bytes piece : List ℕ) (new : Buffer ℕ) → length bytes ≡ c * length piece → c ≤ 16 → (c ≡ 16 → ⊥) → cap ≡ 16 * length piece
    → taken ≡ min (length piece) (cap - length bytes) → new ≡ buffer (bytes ++ take taken piece) cap → length new.items ≡ (c + 1) * length piece
long_after_put c taken cap bytes piece new long most not_full room ht hn =
    let e : length new.items ≡ length bytes + length piece = ap length (put_whole c taken cap bytes piece new long most not_full room ht hn) ∙ length-append bytes piece in
    omega (arith, e, long)

pub pieces_got : (c taken cap : ℕ) (bytes into got : List ℕ) (new : Buffer ℕ) → length bytes ≡ c * length into → (c ≡ 0 → ⊥) → taken ≡ min (length into) (length bytes)
    → got ≡ take taken bytes ++ drop taken into → new ≡ buffer (drop taken bytes) cap → pieces_of c (length into) bytes ≡ got ∷ pieces_of (c - 1) (length into) new.items
pieces_got zero taken cap bytes into got new long some ht hg hn = absurd (some refl)
pieces_got (suc c) taken cap bytes into got new long some ht hg hn =
    let all : taken ≡ length into = omega (arith, ht, long) in
    let less : suc c - 1 ≡ c = omega arith in
    let piece : got ≡ take (length into) bytes = hg ∙ ap (λ t. take t bytes ++ drop t into) all ∙ ap (λ x. take (length into) bytes ++ x) (drop-length into) ∙ append-nil (take (length into) bytes) in
    let left : new.items ≡ drop (length into) bytes = ap (λ (b : Buffer ℕ). b.items) hn ∙ ap (λ t. drop t bytes) all in
    ap₂ (λ x xs. x ∷ xs) (sym piece) (sym (ap₂ (λ d b. pieces_of d (length into) b) less left))

pub long_after_get : (c taken cap : ℕ) (bytes into : List ℕ) (new : Buffer ℕ) → length bytes ≡ c * length into → (c ≡ 0 → ⊥) → taken ≡ min (length into) (length bytes)
    → new ≡ buffer (drop taken bytes) cap → length new.items ≡ (c - 1) * length into
long_after_get zero taken cap bytes into new long some ht hn = absurd (some refl)
long_after_get (suc c) taken cap bytes into new long some ht hn =
    let all : taken ≡ length into = omega (arith, ht, long) in
    let less : suc c - 1 ≡ c = omega arith in
    let left : length new.items ≡ length bytes - taken = ap (λ (b : Buffer ℕ). length b.items) hn ∙ length-drop taken bytes in
    rw less (omega (arith, all, left, long))
