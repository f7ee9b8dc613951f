-- Lines, cell by cell, and texts, piece by piece.
use Rattle.std.proofs.Common.{◌≡◌, ◌+◌, ◌-◌, ◌*◌, ◌/◌, ◌%◌, ◌^◌, ◌<◌, ◌≤◌, ℕ, zero, suc, Bool, true, false, List, [], ◌∷◌, ◌++◌, drop, get_or, length, None, Some, ◌&&◌, append_assoc, append-nil, refl, sym, ap, ◌∙◌, if◌then◌else◌, add-one, arith}
use Rattle.std.specs.Prelude.{nat_le, nat_lt}
use Rattle.std.specs.List.{flat_map, join_with_byte, range_with_len}
use Rattle.std.proofs.Math.Bool.{and-false}
use Rattle.std.proofs.Math.Nat.{div-eq_of_lt, pow-le-pow_right}
use Rattle.std.proofs.lemmas.Bool.{lt-leb, lt-ltb}
use Rattle.std.proofs.lemmas.List.{at_drop_more, drop_all}
use Rattle.pr_lens_tracks.specs.declared.looks.Look.{Look}
use Rattle.pr_lens_tracks.specs.declared.looks.Track.{Track}
use Rattle.pr_lens_tracks.specs.Looks.{below_zero, half_of}
use Rattle.pr_lens_tracks.specs.Tables.{rest_cells}
use Rattle.pr_lens_tracks.specs.Waves.{bits_text, variable_text, variables_text}

join-flat : (cell : List ℕ) (cells : List (List ℕ)) → join_with_byte 44 (cell ∷ cells) ≡ cell ++ flat_map (λ c. 44 ∷ c) cells
join-flat cell [] = sym (append-nil cell)
join-flat cell (c ∷ cells) = ap (λ (xs : List ℕ). cell ++ (44 ∷ xs)) (join-flat c cells)

-- the next cell of a line
rest-cons : (begun : Bool) (cell : List ℕ) (cells : List (List ℕ)) → rest_cells begun (cell ∷ cells) ≡ (if begun then 44 ∷ cell else cell) ++ rest_cells true cells
rest-cons true cell cells = append_assoc (44 ∷ cell) (flat_map (λ c. 44 ∷ c) cells) (10 ∷ [])
rest-cons false cell cells = ap (λ (xs : List ℕ). xs ++ 10 ∷ []) (join-flat cell cells) ∙ append_assoc cell (flat_map (λ c. 44 ∷ c) cells) (10 ∷ [])

rest-end : (begun : Bool) → rest_cells begun [] ≡ 10 ∷ []
rest-end true = refl
rest-end false = refl

begun-more : (n : ℕ) → nat_lt 0 (n + 1) ≡ true
begun-more n = lt-ltb 0 (n + 1) (omega arith)

module _ (cells : List (List ℕ)) (at : ℕ) (text whole : List ℕ) where
  -- one cell more
  pub cell-put : (cell new : List ℕ) → at < length cells → cell ≡ get_or cells at [] → text ++ rest_cells (nat_lt 0 at) (drop at cells) ≡ whole
      → new ≡ text ++ (if nat_lt 0 at then 44 ∷ cell else cell) → new ++ rest_cells (nat_lt 0 (at + 1)) (drop (at + 1) cells) ≡ whole
  cell-put cell new below is before put =
      let piece : List ℕ = if nat_lt 0 at then 44 ∷ cell else cell in
      let rest = drop (at + 1) cells in
      let here : drop at cells ≡ cell ∷ rest = at_drop_more (λ (ys : List (List ℕ)). ys) cells at [] below ∙ ap (λ (y : List ℕ). y ∷ rest) (sym is) in
      ap (λ (b : Bool). new ++ rest_cells b rest) (begun-more at)
      ∙ (ap (λ (t : List ℕ). t ++ rest_cells true rest) put
      ∙ (append_assoc text piece (rest_cells true rest)
      ∙ (ap (λ (t : List ℕ). text ++ t) (sym (ap (λ (ys : List (List ℕ)). rest_cells (nat_lt 0 at) ys) here ∙ rest-cons (nat_lt 0 at) cell rest))
      ∙ before)))

  -- no cell more
  pub cells-end : (new : List ℕ) → length cells ≤ at → text ++ rest_cells (nat_lt 0 at) (drop at cells) ≡ whole → new ≡ text ++ 10 ∷ [] → new ≡ whole
  cells-end new all before put =
      let none : rest_cells (nat_lt 0 at) (drop at cells) ≡ 10 ∷ [] = ap (λ (ys : List (List ℕ)). rest_cells (nat_lt 0 at) ys) (drop_all at cells all) ∙ rest-end (nat_lt 0 at) in
      put ∙ (ap (λ (t : List ℕ). text ++ t) (sym none) ∙ before)

-- one variable more
pub variable-put : (tracks : List Track) (at : ℕ) (text whole : List ℕ) (track : Track) (new : List ℕ) → at < length tracks → track ≡ get_or tracks at track
    → text ++ variables_text at (drop at tracks) ≡ whole → new ≡ text ++ variable_text at track → new ++ variables_text (at + 1) (drop (at + 1) tracks) ≡ whole
variable-put tracks at text whole track new below is before put =
    let rest = drop (at + 1) tracks in
    let here : drop at tracks ≡ track ∷ rest = at_drop_more (λ (ys : List Track). ys) tracks at track below ∙ ap (λ (y : Track). y ∷ rest) (sym is) in
    ap (λ (t : List ℕ). t ++ variables_text (at + 1) rest) put
    ∙ (append_assoc text (variable_text at track) (variables_text (at + 1) rest)
    ∙ (ap (λ (t : List ℕ). text ++ t) (sym (ap (λ (ys : List Track). variables_text at ys) here)) ∙ before))

-- no variable more
pub variables-end : (tracks : List Track) (at : ℕ) (text whole : List ℕ) → length tracks ≤ at → text ++ variables_text at (drop at tracks) ≡ whole → text ≡ whole
variables-end tracks at text whole all before =
    sym (append-nil text) ∙ (ap (λ (ys : List Track). text ++ variables_text at ys) (sym (drop_all at tracks all)) ∙ before)

-- the pieces of one place more
pieces-suc : (f : ℕ → List ℕ) (a n : ℕ) → flat_map f (range_with_len a (suc n)) ≡ flat_map f (range_with_len a n) ++ f (a + n)
pieces-suc f a zero = append-nil (f a) ∙ ap f (let e : a ≡ a + 0 = omega arith in e)
pieces-suc f a (suc n) =
    ap (λ (t : List ℕ). f a ++ t) (pieces-suc f (a + 1) n)
    ∙ (sym (append_assoc (f a) (flat_map f (range_with_len (a + 1) n)) (f (a + 1 + n)))
    ∙ ap (λ (k : ℕ). flat_map f (range_with_len a (suc n)) ++ f k) (let e : a + 1 + n ≡ a + suc n = omega arith in e))

pub piece-put : (f : ℕ → List ℕ) (n : ℕ) (old text new : List ℕ) → text ≡ old ++ flat_map f (range_with_len 0 n) → new ≡ text ++ f n → new ≡ old ++ flat_map f (range_with_len 0 (n + 1))
piece-put f n old text new before put =
    let pieces = flat_map f (range_with_len 0 n) in
    let more : flat_map f (range_with_len 0 (n + 1)) ≡ pieces ++ f n =
    ap (λ (k : ℕ). flat_map f (range_with_len 0 k)) (add-one n) ∙ (pieces-suc f 0 n ∙ ap (λ (k : ℕ). pieces ++ f k) (let e : 0 + n ≡ n = omega arith in e)) in
    put ∙ (ap (λ (t : List ℕ). t ++ f n) before ∙ (append_assoc old pieces (f n) ∙ ap (λ (t : List ℕ). old ++ t) (sym more)))

-- ---- numbers
-- a number of 128 bits is below the half of so many
large : (number k : ℕ) → number < 2 ^ 128 → 128 ≤ k → number < 2 ^ k
large number k small wide = (let more : 2 ^ 128 ≤ 2 ^ k = pow-le-pow_right (omega arith) wide in omega (arith, small, more))

pub below-none : (look : Look) (number : ℕ) → number < 2 ^ 128 → 128 ≤ look.width - 1 → None ≡ below_zero look number
below-none look number small wide =
    let no : nat_le (half_of look.width) number ≡ false = lt-leb (half_of look.width) number (large number (look.width - 1) small wide) in
    sym (ap (λ (b : Bool). if look.signed && b then Some (2 * half_of look.width - number) else None) no ∙ ap (λ (b : Bool). if b then Some (2 * half_of look.width - number) else None) (and-false look.signed))

-- no bit stands behind 128
pub bit-none : (number place : ℕ) → number < 2 ^ 128 → 128 ≤ place → 48 ≡ 48 + number / 2 ^ place % 2
bit-none number place small wide = ap (λ (n : ℕ). 48 + n % 2) (sym (div-eq_of_lt (large number place small wide)))

-- one bit more
pub bit-put : (left rest number : ℕ) (text whole new : List ℕ) (digit : ℕ) → left ≡ rest + 1 → digit ≡ 48 + number / 2 ^ rest % 2 → text ++ bits_text left number ≡ whole → new ≡ text ++ digit ∷ []
    → new ++ bits_text rest number ≡ whole
bit-put left rest number text whole new digit is one before put =
    ap (λ (t : List ℕ). t ++ bits_text rest number) put
    ∙ (append_assoc text (digit ∷ []) (bits_text rest number)
    ∙ (ap (λ (k : ℕ). text ++ (k ∷ bits_text rest number)) one
    ∙ (ap (λ (k : ℕ). text ++ bits_text k number) (sym (is ∙ add-one rest)) ∙ before)))

-- no bit more
pub bits-end : (left number : ℕ) (text whole : List ℕ) → left ≤ 0 → text ++ bits_text left number ≡ whole → text ≡ whole
bits-end left number text whole none before = sym (append-nil text) ∙ (ap (λ (k : ℕ). text ++ bits_text k number) (let e : 0 ≡ left = omega arith in e) ∙ before)
