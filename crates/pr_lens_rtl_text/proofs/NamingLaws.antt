-- Names of vectors tell the vectors, and no other name is one of them.
use Rattle.std.proofs.Common.{◌≡◌, ◌≢◌, ◌<◌, ◌≤◌, ◌++◌, ◌^◌, ◌==◌, ◌||◌, ◌&&◌, ◌∙◌, ℕ, suc, Bool, true, false, List, [], ◌∷◌, codes, decimal, drop, get_or, length, map, nat_le, refl, sym, ap, arith, if◌then◌else◌}
use Rattle.std.specs.List.{All, AllPairs, list_all}
use Rattle.std.specs.Str.Parse.{AllDigits, digits_value}
use Rattle.std.proofs.lemmas.Bool.{and_parts, eqb-true}
use Rattle.std.proofs.lemmas.Bool.Decides.{nat_tests}
use Rattle.std.proofs.lemmas.Fmt.{decimal_is_IsNumeral}
use Rattle.std.proofs.lemmas.List.Elements.{All-cons, All-append, All-map}
use Rattle.std.proofs.lemmas.List.Kept.{AllPairs-cons}
use Rattle.std.proofs.lemmas.Str.Parse.{digit_from_value}
use Rattle.pr_lang.specs.Spelling.{is_name_byte}
use Rattle.pr_lens_rtl.specs.declared.vectors.Part.{Part}
use Rattle.pr_lens_rtl.specs.declared.vectors.Net.{Net}
use Rattle.pr_lens_rtl.specs.Driven.{IsBelow}
use Rattle.pr_lens_rtl.proofs.DrivenLaws.{pairs_both}
use Rattle.pr_lens_rtl_names.specs.Names.{handshake_text, is_handshake, is_reserved, language_text, port_name, IsName}
use Rattle.pr_lens_rtl_text.specs.Printed.{net_text, part_text}
use Rattle.pr_lens_rtl_names.proofs.WordLaws.{has, has_both, dollar_reserved, port_differs, port_handshake, port_reserved, port_cases}

-- ---- the text of a vector, read again
abbrev until : ℕ → List ℕ → List ℕ
until c [] = []
until c (x ∷ xs) = if x == c then [] else x ∷ until c xs

abbrev behind : ℕ → List ℕ → List ℕ
behind c [] = []
behind c (x ∷ xs) = if x == c then xs else behind c xs

abbrev part_by : ℕ → Part
part_by c =
    if c == 97 then Part.A else if c == 98 then Part.B else if c == 105 then Part.CarryIn else if c == 99 then Part.C else if c == 120 then Part.X
    else if c == 116 then Part.Sum else if c == 107 then Part.Carry else if c == 111 then Part.Output else if c == 113 then Part.State else Part.Row

abbrev of_by : ℕ → List ℕ → Net
of_by c rest = Net.Of (part_by c) (digits_value 10 (until 36 rest)) (digits_value 10 (behind 36 rest))

abbrev port_by : ℕ → List ℕ → Net
port_by c rest =
    if c == 118 then Net.Valid (digits_value 10 (drop 1 rest))
    else if c == 114 then Net.Reset
    else if c == 105 then (if get_or rest 1 0 == 36 then Net.In (digits_value 10 (drop 2 rest)) else if get_or rest 2 0 == 118 then Net.InValid else Net.InReady)
    else (if get_or rest 2 0 == 36 then Net.Out (digits_value 10 (drop 3 rest)) else if get_or rest 3 0 == 118 then Net.OutValid else Net.OutReady)

is_digit : ℕ → Bool
is_digit c = nat_le 48 c && nat_le c 57

abbrev read_by : Bool → ℕ → List ℕ → Net
read_by digit c rest = if digit then of_by c rest else port_by c rest

read_again : List ℕ → Net
read_again [] = Net.Reset
read_again (c ∷ rest) = read_by (is_digit (get_or rest 0 0)) c rest

-- ---- digits
module _ (n : ℕ) (small : n < 2 ^ 32) where
  digits : AllDigits 10 (decimal n)
  digits = (decimal_is_IsNumeral n (omega (arith, small))).0.1

  some : 0 < length (decimal n)
  some = (decimal_is_IsNumeral n (omega (arith, small))).0.0

  pub number : digits_value 10 (decimal n) ≡ n
  number = (decimal_is_IsNumeral n (omega (arith, small))).1

digit_not : (c : ℕ) → 48 ≤ c → (c == 36) ≡ false
digit_not c l = grind (arith, nat_tests)

until_digits : (ds rest : List ℕ) → AllDigits 10 ds → until 36 ((ds ++ 36 ∷ []) ++ rest) ≡ ds
until_digits [] rest d = refl
until_digits (c ∷ cs) rest d =
    ap (λ b. if b then [] else c ∷ until 36 ((cs ++ 36 ∷ []) ++ rest)) (digit_not c (let e = digit_from_value c d.0 in omega (arith, e))) ∙ ap (λ q. c ∷ q) (until_digits cs rest d.1)

behind_digits : (ds rest : List ℕ) → AllDigits 10 ds → behind 36 ((ds ++ 36 ∷ []) ++ rest) ≡ rest
behind_digits [] rest d = refl
behind_digits (c ∷ cs) rest d =
    ap (λ b. if b then (cs ++ 36 ∷ []) ++ rest else behind 36 ((cs ++ 36 ∷ []) ++ rest)) (digit_not c (let e = digit_from_value c d.0 in omega (arith, e))) ∙ behind_digits cs rest d.1

head_digit : (ds rest : List ℕ) → 0 < length ds → AllDigits 10 ds → is_digit (get_or ((ds ++ 36 ∷ []) ++ rest) 0 0) ≡ true
unfolding is_digit
head_digit [] rest l d = absurd (omega arith)
head_digit (c ∷ cs) rest l d = let e = digit_from_value c d.0 in grind (arith, nat_tests)

-- ---- each vector
of_again : (c s k : ℕ) → s < 2 ^ 32 → k < 2 ^ 32 → read_again (c ∷ ((decimal s ++ 36 ∷ []) ++ decimal k)) ≡ Net.Of (part_by c) s k
unfolding read_again
of_again c s k ls lk =
    let rest = (decimal s ++ 36 ∷ []) ++ decimal k in
    ap (λ b. read_by b c rest) (head_digit (decimal s) (decimal k) (some s ls) (digits s ls))
    ∙ ap (λ q. Net.Of (part_by c) (digits_value 10 q) (digits_value 10 (behind 36 rest))) (until_digits (decimal s) (decimal k) (digits s ls))
    ∙ ap (λ q. Net.Of (part_by c) q (digits_value 10 (behind 36 rest))) (number s ls)
    ∙ ap (λ q. Net.Of (part_by c) s (digits_value 10 q)) (behind_digits (decimal s) (decimal k) (digits s ls))
    ∙ ap (λ q. Net.Of (part_by c) s q) (number k lk)

part_again : (part : Part) (s k : ℕ) → s < 2 ^ 32 → k < 2 ^ 32 → read_again (net_text (Net.Of part s k)) ≡ Net.Of part s k
part_again Part.A s k ls lk = of_again 97 s k ls lk
part_again Part.B s k ls lk = of_again 98 s k ls lk
part_again Part.CarryIn s k ls lk = of_again 105 s k ls lk
part_again Part.C s k ls lk = of_again 99 s k ls lk
part_again Part.X s k ls lk = of_again 120 s k ls lk
part_again Part.Sum s k ls lk = of_again 116 s k ls lk
part_again Part.Carry s k ls lk = of_again 107 s k ls lk
part_again Part.Output s k ls lk = of_again 111 s k ls lk
part_again Part.State s k ls lk = of_again 113 s k ls lk
part_again Part.Row s k ls lk = of_again 114 s k ls lk

net_again : (n : Net) → IsBelow (2 ^ 32) n → read_again (net_text n) ≡ n
unfolding read_again is_digit
net_again Net.Reset h = refl
net_again Net.InValid h = refl
net_again Net.InReady h = refl
net_again Net.OutValid h = refl
net_again Net.OutReady h = refl
net_again (Net.In k) h = ap Net.In (number k h)
net_again (Net.Out k) h = ap Net.Out (number k h)
net_again (Net.Valid s) h = ap Net.Valid (number s h)
net_again (Net.Of part s k) h = part_again part s k h.0 h.1

-- two vectors have two names
pub net_differs : (m n : Net) → IsBelow (2 ^ 32) m → IsBelow (2 ^ 32) n → net_text m ≡ net_text n → m ≡ n
net_differs m n p q e = sym (net_again m p) ∙ ap read_again e ∙ net_again n q

-- ---- vectors and ports
abbrev IsDollar : Net → Type 0
IsDollar n = has 36 (net_text n) ≡ true

dollar_behind : (xs ys : List ℕ) → has 36 ((xs ++ codes "$") ++ ys) ≡ true
dollar_behind [] ys = refl
dollar_behind (x ∷ xs) ys = ap (λ q. (x == 36) || q) (dollar_behind xs ys) ∙ last (x == 36)
  where
    last : (b : Bool) → (b || true) ≡ true
    last true = refl
    last false = refl

clear : (name : List ℕ) → IsName name → has 36 name ≡ false
clear [] h = refl
clear (c ∷ cs) h =
    let both = and_parts (is_name_byte c) (list_all is_name_byte cs) h in
    ap (λ q. q || has 36 cs) (other (c == 36) refl both.0) ∙ clear cs both.1
  where
    other : (b : Bool) → (c == 36) ≡ b → is_name_byte c ≡ true → (c == 36) ≡ false
    other true e is = absurd (let none : false ≡ true = ap is_name_byte (sym (eqb-true c 36 e)) ∙ is in cc)
    other false e is = e

port_clear : (name : List ℕ) → IsName name → has 36 (port_name name) ≡ false
port_clear name h = port_cases (λ q. has 36 q ≡ false) name (clear name h) (has_both 36 name (95 ∷ []) ∙ ap (λ q. q || false) (clear name h))

no_dollar : (n : Net) → has 36 (net_text n) ≡ true → (name : List ℕ) → IsName name → port_name name ≢ net_text n
no_dollar n is name h e = let none : has 36 (net_text n) ≡ false = ap (has 36) (sym e) ∙ port_clear name h in absurd (cc)

no_handshake : (text : List ℕ) → is_handshake text ≡ true → (name : List ℕ) → port_name name ≢ text
no_handshake text is name e = let none : is_handshake text ≡ false = ap is_handshake (sym e) ∙ port_handshake name in absurd (cc)

pub handshake : (is_handshake (codes "clock") ≡ true) × (is_handshake (net_text Net.Reset) ≡ true) × (is_handshake (net_text Net.InValid) ≡ true) × (is_handshake (net_text Net.InReady) ≡ true)
    × (is_handshake (net_text Net.OutValid) ≡ true) × (is_handshake (net_text Net.OutReady) ≡ true)
unfolding handshake_text
handshake = (refl, refl, refl, refl, refl, refl)

bench_word : is_handshake (codes "bench") ≡ true
unfolding handshake_text
bench_word = refl

pub bench_apart : (name : List ℕ) → port_name name ≢ codes "bench"
bench_apart name = no_handshake (codes "bench") bench_word name

pub port_apart : (name : List ℕ) (n : Net) → IsName name → port_name name ≢ net_text n
port_apart name Net.Reset h = no_handshake (net_text Net.Reset) handshake.1 name
port_apart name Net.InValid h = no_handshake (net_text Net.InValid) handshake.2 name
port_apart name Net.InReady h = no_handshake (net_text Net.InReady) handshake.3 name
port_apart name Net.OutValid h = no_handshake (net_text Net.OutValid) handshake.4 name
port_apart name Net.OutReady h = no_handshake (net_text Net.OutReady) handshake.5 name
port_apart name (Net.In k) h = no_dollar (Net.In k) refl name h
port_apart name (Net.Out k) h = no_dollar (Net.Out k) refl name h
port_apart name (Net.Valid s) h = no_dollar (Net.Valid s) refl name h
port_apart name (Net.Of part s k) h = no_dollar (Net.Of part s k) (dollar_behind (part_text part ++ decimal s) (decimal k)) name h

-- the clock is no vector
not_first : (n : ℕ) → 99 < n → 99 ≡ n → ⊥
not_first n above same = omega (arith, above, same)

clock_apart : (n : Net) → codes "clock" ≢ net_text n
clock_apart n e = go n e (ap (λ q. has 36 q) e)
  where
    go : (n : Net) → codes "clock" ≡ net_text n → false ≡ has 36 (net_text n) → ⊥
    go Net.Reset e d = not_first 114 (omega arith) (ap (λ q. get_or q 0 0) e)
    go Net.InValid e d = not_first 105 (omega arith) (ap (λ q. get_or q 0 0) e)
    go Net.InReady e d = not_first 105 (omega arith) (ap (λ q. get_or q 0 0) e)
    go Net.OutValid e d = not_first 111 (omega arith) (ap (λ q. get_or q 0 0) e)
    go Net.OutReady e d = not_first 111 (omega arith) (ap (λ q. get_or q 0 0) e)
    go (Net.In k) e d = absurd (let other : false ≡ true = d in cc)
    go (Net.Out k) e d = absurd (let other : false ≡ true = d in cc)
    go (Net.Valid s) e d = absurd (let other : false ≡ true = d in cc)
    go (Net.Of part s k) e d = absurd (let other : false ≡ true = d ∙ dollar_behind (part_text part ++ decimal s) (decimal k) in cc)

-- ---- no word
plain_words : (is_reserved (codes "clock") ≡ false) × (is_reserved (net_text Net.Reset) ≡ false) × (is_reserved (net_text Net.InValid) ≡ false) × (is_reserved (net_text Net.InReady) ≡ false)
    × (is_reserved (net_text Net.OutValid) ≡ false) × (is_reserved (net_text Net.OutReady) ≡ false)
unfolding language_text
plain_words = (refl, refl, refl, refl, refl, refl)

net_reserved : (n : Net) → is_reserved (net_text n) ≡ false
net_reserved Net.Reset = plain_words.1
net_reserved Net.InValid = plain_words.2
net_reserved Net.InReady = plain_words.3
net_reserved Net.OutValid = plain_words.4
net_reserved Net.OutReady = plain_words.5
net_reserved (Net.In k) = dollar_reserved (net_text (Net.In k)) refl
net_reserved (Net.Out k) = dollar_reserved (net_text (Net.Out k)) refl
net_reserved (Net.Valid s) = dollar_reserved (net_text (Net.Valid s)) refl
net_reserved (Net.Of part s k) = dollar_reserved (net_text (Net.Of part s k)) (dollar_behind (part_text part ++ decimal s) (decimal k))

-- ---- lists of names
pairs_map : {X Y : Type 0} (P : X → Type 0) (f : X → Y) → ((a b : X) → P a → P b → f a ≡ f b → a ≡ b) → (xs : List X) → All P xs → AllPairs (λ a b. a ≢ b) xs → AllPairs (λ a b. a ≢ b) (map f xs)
pairs_map P f tells [] all apart = λ i j d lt within. absurd (omega arith)
pairs_map P f tells (x ∷ xs) all apart =
    let rest : All P xs = λ k d within. all (suc k) d (omega arith) in
    AllPairs-cons (λ a b. a ≢ b) (f x) (map f xs)
    (All-map (λ b. f x ≢ b) f xs (λ k d within same. apart 0 (suc k) d (omega arith) (omega arith) (tells x (get_or xs k d) (all 0 x (omega arith)) (rest k d within) same)))
    (pairs_map P f tells xs rest (λ i j d lt within. apart (suc i) (suc j) d (omega arith) (omega arith)))

pub vectors_named : (nets : List Net) → All (IsBelow (2 ^ 32)) nets → AllPairs (λ m n. m ≢ n) nets → AllPairs (λ a b. a ≢ b) (map net_text nets)
vectors_named nets small once = pairs_map (IsBelow (2 ^ 32)) net_text net_differs nets small once

module _ (names : List (List ℕ)) (nets : List Net) where
  pub names_apart : All IsName names → AllPairs (λ a b. a ≢ b) names → All (IsBelow (2 ^ 32)) nets → AllPairs (λ m n. m ≢ n) nets
      → AllPairs (λ a b. a ≢ b) (codes "clock" ∷ (map port_name names ++ map net_text nets))
  names_apart lawful apart small once =
      AllPairs-cons (λ a b. a ≢ b) (codes "clock") (map port_name names ++ map net_text nets)
      (All-append (λ b. codes "clock" ≢ b) (map port_name names) (map net_text nets)
      (All-map (λ b. codes "clock" ≢ b) port_name names (λ k d within same. no_handshake (codes "clock") handshake.0 (get_or names k d) (sym same)))
      (All-map (λ b. codes "clock" ≢ b) net_text nets (λ k d within same. clock_apart (get_or nets k d) same)))
      (pairs_both (map port_name names) (map net_text nets)
      (pairs_map IsName port_name (λ a b p q e. port_differs a b e) names lawful apart)
      (vectors_named nets small once)
      (All-map (λ a. All (λ b. a ≢ b) (map net_text nets)) port_name names
      (λ i d inside. All-map (λ b. port_name (get_or names i d) ≢ b) net_text nets (λ j e within same. port_apart (get_or names i d) (get_or nets j e) (lawful i d inside) same))))

  pub names_unreserved : All (λ name. is_reserved name ≡ false) (codes "clock" ∷ (map port_name names ++ map net_text nets))
  names_unreserved =
      All-cons (λ name. is_reserved name ≡ false) (codes "clock") (map port_name names ++ map net_text nets) plain_words.0
      (All-append (λ name. is_reserved name ≡ false) (map port_name names) (map net_text nets)
      (All-map (λ name. is_reserved name ≡ false) port_name names (λ k d within. port_reserved (get_or names k d)))
      (All-map (λ name. is_reserved name ≡ false) net_text nets (λ k d within. net_reserved (get_or nets k d))))
