-- What is still to come out of a pipeline that holds rows.
use Rattle.std.proofs.Common.{◌≡◌, ℕ, zero, suc, ◌+◌, ◌<◌, ◌≤◌, Bool, true, false, not, ◌&&◌, List, [], ◌∷◌, ◌++◌, length, map, refl, sym, ap, subst, ◌∙◌, arith, append_assoc, if◌then◌else◌}
use Rattle.std.specs.List.{list_all}
use Rattle.std.proofs.lemmas.List.{map-append, append-nil}
use Rattle.std.proofs.lemmas.Bool.{and_parts}
use Rattle.pr_conf_pipeline.specs.Rows.{Step, rows_over, rows, through}
use Rattle.pr_lens_rtl.specs.Clocked.{Held, Pins, is_last_valid, last_rows, is_enabled, advanced, all_advanced, clock, accepted_now, taken_now, after_clocks, accepted, taken, delivered, enabled_clocks, is_quiet, AreReset, IsReset}

-- a row where it is valid
abbrev pub shown : {R : Type 0} → Bool → R → List R
shown valid row = if valid then row ∷ [] else []

-- the rows that come out of stages from s on that hold these, when they read further rows
abbrev pub flow : {S R : Type 0} → (ℕ → Step S R) → ℕ → List (Held S R) → List R → List R
flow M s [] xs = xs
flow M s (h ∷ hs) xs = flow M (suc s) hs (shown h.valid h.row ++ rows_over (M s) h.state xs)

-- what stands at the end of stages that read this
abbrev at_end : {S R : Type 0} → Bool → R → List (Held S R) → List R
at_end valid row [] = shown valid row
at_end valid row (h ∷ hs) = at_end h.valid h.row hs

-- a stage that reads a row shows what it makes of it
stage_step : {S R : Type 0} (m : Step S R) (valid : Bool) (row : R) (h : Held S R) (xs : List R)
    → rows_over m h.state (shown valid row ++ xs) ≡ shown valid (m.out h.state row) ++ rows_over m (advanced m valid row h).state xs
stage_step m true row h xs = refl
stage_step m false row h xs = refl

-- when all advance, what stood at the end is what leaves
advance : {S R : Type 0} (M : ℕ → Step S R) (s : ℕ) (valid : Bool) (row : R) (hs : List (Held S R)) (xs : List R)
    → flow M s hs (shown valid row ++ xs) ≡ at_end valid row hs ++ flow M s (all_advanced M s valid row hs) xs
advance M s valid row [] xs = refl
advance M s valid row (h ∷ hs) xs =
    ap (λ ys. flow M (suc s) hs (shown h.valid h.row ++ ys)) (stage_step (M s) valid row h xs)
    ∙ advance M (suc s) h.valid h.row hs (shown valid ((M s).out h.state row) ++ rows_over (M s) (advanced (M s) valid row h).state xs)

-- the end of some stages is their last row
at_end-last : {S R : Type 0} (valid : Bool) (row : R) (h : Held S R) (hs : List (Held S R)) → at_end valid row (h ∷ hs) ≡ last_rows (h ∷ hs)
at_end-last valid row h [] = refl
at_end-last valid row h (g ∷ hs) = at_end-last h.valid h.row g hs

last_none : {S R : Type 0} (hs : List (Held S R)) → is_last_valid hs ≡ false → last_rows hs ≡ []
last_none [] e = refl
last_none (h ∷ []) e = ap (λ b. shown b h.row) e
last_none (h ∷ g ∷ hs) e = last_none (g ∷ hs) e

-- one clock
one_clock : {S R : Type 0} (M : ℕ → Step S R) (hs : List (Held S R)) (p : Pins R) (xs : List R) → 0 < length hs
    → flow M 0 hs (accepted_now hs p ++ xs) ≡ taken_now hs p ++ flow M 0 (clock M hs p) xs
one_clock M [] p xs some = absurd (omega arith)
one_clock {S} {R} M (h ∷ hs) p xs some = go (is_last_valid (h ∷ hs)) p.ready (last_none (h ∷ hs))
  where
    moved : flow M 0 (h ∷ hs) (shown p.valid p.row ++ xs) ≡ last_rows (h ∷ hs) ++ flow M 0 (all_advanced M 0 p.valid p.row (h ∷ hs)) xs
    moved = advance M 0 p.valid p.row (h ∷ hs) xs ∙ ap (λ ys. ys ++ flow M 0 (all_advanced M 0 p.valid p.row (h ∷ hs)) xs) (at_end-last p.valid p.row h hs)

    go : (l r : Bool) → (l ≡ false → last_rows (h ∷ hs) ≡ [])
        → flow M 0 (h ∷ hs) ((if not (l && not r) && p.valid then p.row ∷ [] else []) ++ xs)
        ≡ (if r then last_rows (h ∷ hs) else []) ++ flow M 0 (if not (l && not r) then all_advanced M 0 p.valid p.row (h ∷ hs) else (h ∷ hs)) xs
    go true true none = moved
    go false true none = moved
    go false false none = moved ∙ ap (λ ys. ys ++ flow M 0 (all_advanced M 0 p.valid p.row (h ∷ hs)) xs) (none refl)
    go true false none = refl

-- the number of stages stays
length_advanced : {S R : Type 0} (M : ℕ → Step S R) (s : ℕ) (valid : Bool) (row : R) (hs : List (Held S R)) → length (all_advanced M s valid row hs) ≡ length hs
length_advanced M s valid row [] = refl
length_advanced M s valid row (h ∷ hs) = ap suc (length_advanced M (suc s) h.valid h.row hs)

length_clock : {S R : Type 0} (M : ℕ → Step S R) (hs : List (Held S R)) (p : Pins R) → length (clock M hs p) ≡ length hs
length_clock M hs p = go (is_enabled hs p.ready)
  where
    go : (b : Bool) → length (if b then all_advanced M 0 p.valid p.row hs else hs) ≡ length hs
    go true = length_advanced M 0 p.valid p.row hs
    go false = refl

length_clocks : {S R : Type 0} (M : ℕ → Step S R) (hs : List (Held S R)) (ps : List (Pins R)) → length (after_clocks M hs ps) ≡ length hs
length_clocks M hs [] = refl
length_clocks M hs (p ∷ ps) = length_clocks M (clock M hs p) ps ∙ length_clock M hs p

length_reset : {S R : Type 0} (M : ℕ → Step S R) (s v : ℕ) (hs : List (Held S R)) → AreReset M s v hs → length hs ≡ v
length_reset M s zero [] h = refl
length_reset M s zero (h ∷ hs) r = absurd r
length_reset M s (suc v) [] r = absurd r
length_reset M s (suc v) (h ∷ hs) r = ap suc (length_reset M (suc s) v hs r.2)

-- many clocks
many_clocks : {S R : Type 0} (M : ℕ → Step S R) (hs : List (Held S R)) (ps : List (Pins R)) (xs : List R) → 0 < length hs
    → flow M 0 hs (accepted M hs ps ++ xs) ≡ taken M hs ps ++ flow M 0 (after_clocks M hs ps) xs
many_clocks M hs [] xs some = refl
many_clocks M hs (p ∷ ps) xs some =
    ap (flow M 0 hs) (append_assoc (accepted_now hs p) (accepted M (clock M hs p) ps) xs)
    ∙ one_clock M hs p (accepted M (clock M hs p) ps ++ xs) some
    ∙ ap (λ ys. taken_now hs p ++ ys) (many_clocks M (clock M hs p) ps xs (let e = length_clock M hs p in omega arith))
    ∙ sym (append_assoc (taken_now hs p) (taken M (clock M hs p) ps) (flow M 0 (after_clocks M (clock M hs p) ps) xs))

-- from the first states
from_reset : {S R : Type 0} (M : ℕ → Step S R) (s v : ℕ) (hs : List (Held S R)) (xs : List R) → AreReset M s v hs → flow M s hs (rows M s xs) ≡ rows M (s + v) xs
unfolding rows
from_reset M s zero [] xs r = ap (λ n. rows M n xs) (let e : s ≡ s + zero = omega arith in e)
from_reset M s zero (h ∷ hs) xs r = absurd r
from_reset M s (suc v) [] xs r = absurd r
from_reset M s (suc v) (h ∷ hs) xs r =
    ap (λ b. flow M (suc s) hs (shown b h.row ++ rows_over (M s) h.state (rows M s xs))) r.1
    ∙ ap (λ st. flow M (suc s) hs (rows_over (M s) st (rows M s xs))) r.0
    ∙ from_reset M (suc s) v hs xs r.2
    ∙ ap (λ n. rows M n xs) (let e : suc s + v ≡ s + suc v = omega arith in e)

first_rows : {S R : Type 0} (M : ℕ → Step S R) (xs : List R) → rows M 0 xs ≡ xs
unfolding rows
first_rows M xs = refl

pub rows_law : {S R : Type 0} (M : ℕ → Step S R) (v : ℕ) (hs : List (Held S R)) (ps : List (Pins R)) → 0 < v → IsReset M v hs
    → rows M v (accepted M hs ps) ≡ taken M hs ps ++ flow M 0 (after_clocks M hs ps) []
rows_law M v hs ps some r =
    ap (λ n. rows M n (accepted M hs ps)) (let e : v ≡ 0 + v = omega arith in e)
    ∙ sym (from_reset M 0 v hs (accepted M hs ps) r)
    ∙ ap (flow M 0 hs) (first_rows M (accepted M hs ps) ∙ sym (append-nil (accepted M hs ps)))
    ∙ many_clocks M hs ps [] (let e = length_reset M 0 v hs r in omega arith)

pub order_law : {S R B : Type 0} (M : ℕ → Step S R) (v : ℕ) (tap : R → B) (hs : List (Held S R)) (ps : List (Pins R)) → 0 < v → IsReset M v hs
    → through M v tap (accepted M hs ps) ≡ delivered M tap hs ps ++ map tap (flow M 0 (after_clocks M hs ps) [])
order_law M v tap hs ps some r = ap (map tap) (rows_law M v hs ps some r) ∙ map-append tap (taken M hs ps) (flow M 0 (after_clocks M hs ps) [])

-- ---- nothing is left
-- the first k stages show bubbles
abbrev AreBubbles : {S R : Type 0} → ℕ → List (Held S R) → Type 0
AreBubbles zero hs = Unit {0}
AreBubbles (suc k) [] = Unit {0}
AreBubbles (suc k) (h ∷ hs) = (h.valid ≡ false) × AreBubbles k hs

bubbles_more : {S R : Type 0} (M : ℕ → Step S R) (s k : ℕ) (valid : Bool) (row : R) (hs : List (Held S R)) → valid ≡ false → AreBubbles k hs → AreBubbles (suc k) (all_advanced M s valid row hs)
bubbles_more M s k valid row [] e b = tt
bubbles_more M s zero valid row (h ∷ hs) e b = (e, tt)
bubbles_more M s (suc k) valid row (h ∷ hs) e b = (e, bubbles_more M (suc s) k h.valid h.row hs b.0 b.1)

quiet_is : (b : Bool) → not b ≡ true → b ≡ false
quiet_is false e = refl
quiet_is true e = absurd (cc)

one_bubble : {S R : Type 0} (M : ℕ → Step S R) (k : ℕ) (hs : List (Held S R)) (p : Pins R) (e : Bool) → p.valid ≡ false → AreBubbles k hs
    → AreBubbles (if e then suc k else k) (if e then all_advanced M 0 p.valid p.row hs else hs)
one_bubble M k hs p true v b = bubbles_more M 0 k p.valid p.row hs v b
one_bubble M k hs p false v b = b

counted : (k n : ℕ) (e : Bool) → (if e then suc k else k) + n ≡ k + (if e then suc n else n)
counted k n true = omega arith
counted k n false = refl

bubbles_after : {S R : Type 0} (M : ℕ → Step S R) (k : ℕ) (hs : List (Held S R)) (qs : List (Pins R)) → list_all is_quiet qs ≡ true → AreBubbles k hs
    → AreBubbles (k + enabled_clocks M hs qs) (after_clocks M hs qs)
bubbles_after M k hs [] q b = subst (λ n. AreBubbles n hs) (let e : k ≡ k + 0 = omega arith in e) b
bubbles_after M k hs (p ∷ qs) q b =
    let parts = and_parts (not p.valid) (list_all is_quiet qs) q in
    let now = clock M hs p in
    let e = is_enabled hs p.ready in
    subst (λ n. AreBubbles n (after_clocks M now qs)) (counted k (enabled_clocks M now qs) e)
    (bubbles_after M (if e then suc k else k) now qs parts.1 (one_bubble M k hs p e (quiet_is p.valid parts.0) b))

no_flow : {S R : Type 0} (M : ℕ → Step S R) (s k : ℕ) (hs : List (Held S R)) → length hs ≤ k → AreBubbles k hs → flow M s hs [] ≡ []
no_flow M s k [] l b = refl
no_flow M s zero (h ∷ hs) l b = absurd (omega arith)
no_flow M s (suc k) (h ∷ hs) l b = ap (λ v. flow M (suc s) hs (shown v h.row ++ [])) b.0 ∙ no_flow M (suc s) k hs (omega arith) b.1

quiet_accepts : {S R : Type 0} (M : ℕ → Step S R) (hs : List (Held S R)) (qs : List (Pins R)) → list_all is_quiet qs ≡ true → accepted M hs qs ≡ []
quiet_accepts M hs [] q = refl
quiet_accepts M hs (p ∷ qs) q = go (is_enabled hs p.ready) p.valid (and_parts (not p.valid) (list_all is_quiet qs) q).0 ∙ quiet_accepts M (clock M hs p) qs (and_parts (not p.valid) (list_all is_quiet qs) q).1
  where
    go : (e v : Bool) → not v ≡ true → (if e && v then p.row ∷ [] else []) ++ accepted M (clock M hs p) qs ≡ accepted M (clock M hs p) qs
    go true true n = absurd (cc)
    go false true n = refl
    go true false n = refl
    go false false n = refl

accepted-append : {S R : Type 0} (M : ℕ → Step S R) (hs : List (Held S R)) (ps qs : List (Pins R)) → accepted M hs (ps ++ qs) ≡ accepted M hs ps ++ accepted M (after_clocks M hs ps) qs
accepted-append M hs [] qs = refl
accepted-append M hs (p ∷ ps) qs = ap (λ ys. accepted_now hs p ++ ys) (accepted-append M (clock M hs p) ps qs) ∙ sym (append_assoc (accepted_now hs p) (accepted M (clock M hs p) ps) (accepted M (after_clocks M (clock M hs p) ps) qs))

after-append : {S R : Type 0} (M : ℕ → Step S R) (hs : List (Held S R)) (ps qs : List (Pins R)) → after_clocks M hs (ps ++ qs) ≡ after_clocks M (after_clocks M hs ps) qs
after-append M hs [] qs = refl
after-append M hs (p ∷ ps) qs = after-append M (clock M hs p) ps qs

pub all_law : {S R B : Type 0} (M : ℕ → Step S R) (v : ℕ) (tap : R → B) (hs : List (Held S R)) (ps qs : List (Pins R)) → 0 < v → IsReset M v hs
    → list_all is_quiet qs ≡ true → v ≤ enabled_clocks M (after_clocks M hs ps) qs
    → delivered M tap hs (ps ++ qs) ≡ through M v tap (accepted M hs ps)
all_law M v tap hs ps qs some r q long =
    let end = after_clocks M hs ps in
    let size : length end ≡ v = length_clocks M hs ps ∙ length_reset M 0 v hs r in
    let k = enabled_clocks M end qs in
    let bubbles : AreBubbles k (after_clocks M end qs) = subst (λ n. AreBubbles n (after_clocks M end qs)) (let e : 0 + k ≡ k = omega arith in e) (bubbles_after M 0 end qs q tt) in
    let none : flow M 0 (after_clocks M hs (ps ++ qs)) [] ≡ [] =
    ap (λ z. flow M 0 z []) (after-append M hs ps qs) ∙ no_flow M 0 k (after_clocks M end qs) (let l = length_clocks M end qs in omega arith) bubbles in
    let same : accepted M hs (ps ++ qs) ≡ accepted M hs ps = accepted-append M hs ps qs ∙ ap (λ ys. accepted M hs ps ++ ys) (quiet_accepts M end qs q) ∙ append-nil (accepted M hs ps) in
    sym (append-nil (delivered M tap hs (ps ++ qs)))
    ∙ ap (λ ys. delivered M tap hs (ps ++ qs) ++ map tap ys) (sym none)
    ∙ sym (order_law M v tap hs (ps ++ qs) some r)
    ∙ ap (through M v tap) same
