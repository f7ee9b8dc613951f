-- Words that are appended one part after another.
use Rattle.std.proofs.Common.{◌≡◌, ℕ, ◌+◌, ◌*◌, ◌%◌, ◌^◌, ◌<◌, suc, add-one, ◌≤◌, ◌&&◌, Bool, true, false, List, [], ◌∷◌, ◌++◌, length, map, drop, get_or, refl, sym, ap, ◌∙◌, append_assoc, arith, cond, lit<, fold, ◌==◌, nat_lt, nat_le}
use Rattle.std.specs.List.{list_all}
use Rattle.std.specs.Int.{w32, to_be_bytes}
use Rattle.std.proofs.lemmas.List.{append-nil, at_drop_more, at_drop_all, length-map}
use Rattle.std.proofs.Math.Nat.{pow-le-pow_right, mod-eq_of_lt}
use Rattle.std.proofs.lemmas.List.Concat.{flat_map-append}
use Rattle.std.proofs.lemmas.Bool.{ltb-true, lt-ltb, leb-true}
use Rattle.pr_base.specs.Numbers.{slices_of}
use Rattle.pr_conf.specs.declared.pes.Bit.{Bit}
use Rattle.pr_conf.specs.declared.stages.Site.{Site}
use Rattle.pr_conf.specs.Rules.{is_lawful_source, is_lawful_bit, is_lawful_carry, is_lawful_pe, are_lawful_pes, are_lawful_stages, site_of, is_lawful_width, are_lawful_inputs, bytes_in}
use mir.Val.{bool_byte}
use Rattle.pr_conf.specs.declared.pes.Pe.{Pe}
use Rattle.pr_code.specs.Spelling.{bytes_of_words, number_of_flags, is_set, set_words, pe_words, has_small_choice, c_choice}

bool_byte_is : (b : Bool) → bool_byte b ≡ cond b 1 0
bool_byte_is true = refl
bool_byte_is false = refl

-- both parts of a test
pub both : (a b : Bool) → (a && b) ≡ true → (a ≡ true) × (b ≡ true)
both true b h = (refl, h)
both false b h = absurd cc

pub bytes-append : (xs ys : List ℕ) → bytes_of_words (xs ++ ys) ≡ bytes_of_words xs ++ bytes_of_words ys
unfolding bytes_of_words
bytes-append xs ys = flat_map-append (to_be_bytes w32) xs ys

pub bytes-nil : bytes_of_words [] ≡ []
unfolding bytes_of_words
bytes-nil = refl

-- one part more is written
pub goes_on : (out whole part rest : List ℕ) → out ++ bytes_of_words (part ++ rest) ≡ whole → (out ++ bytes_of_words part) ++ bytes_of_words rest ≡ whole
goes_on out whole part rest h = append_assoc out (bytes_of_words part) (bytes_of_words rest) ∙ (ap (λ t. out ++ t) (sym (bytes-append part rest)) ∙ h)

-- nothing is left
pub is_done : (out whole : List ℕ) → out ++ bytes_of_words [] ≡ whole → out ≡ whole
is_done out whole h = sym (append-nil out) ∙ (ap (λ t. out ++ t) (sym bytes-nil) ∙ h)

-- the first of what is left of a list
pub drop_step : {X : Type 0} {Y : Type 0} (F : List X → Y) (xs : List X) (i : ℕ) (x d : X) → i < length xs → x ≡ get_or xs i d → F (drop i xs) ≡ F (x ∷ drop (i + 1) xs)
drop_step F xs i x d lt e = at_drop_more F xs i d lt ∙ ap (λ y. F (y ∷ drop (i + 1) xs)) (sym e)

-- one element more of a list is written, of which `F` gives all words
pub part_more : {X : Type 0} (F : List X → List ℕ) (part out whole : List ℕ) (xs : List X) (i : ℕ) (x d : X) → i < length xs → x ≡ get_or xs i d → F (x ∷ drop (i + 1) xs) ≡ part ++ F (drop (i + 1) xs) → out ++ bytes_of_words (F (drop i xs)) ≡ whole → (out ++ bytes_of_words part) ++ bytes_of_words (F (drop (i + 1) xs)) ≡ whole
part_more F part out whole xs i x d lt e step h =
    goes_on out whole part (F (drop (i + 1) xs))
    (ap (λ t. out ++ bytes_of_words t) (sym step) ∙ (sym (drop_step (λ t. out ++ bytes_of_words (F t)) xs i x d lt e) ∙ h))

pub parts_done : {X : Type 0} (F : List X → List ℕ) (out whole : List ℕ) (xs : List X) (i : ℕ) → length xs ≤ i → F [] ≡ [] → out ++ bytes_of_words (F (drop i xs)) ≡ whole → out ≡ whole
parts_done F out whole xs i le none h = is_done out whole (ap (λ t. out ++ bytes_of_words t) (sym none) ∙ (sym (at_drop_all (λ t. out ++ bytes_of_words (F t)) xs i le) ∙ h))

-- the same for a list of words
pub word_more : (out whole xs : List ℕ) (i x : ℕ) → i < length xs → x ≡ get_or xs i 0 → out ++ bytes_of_words (drop i xs) ≡ whole → (out ++ bytes_of_words (x ∷ [])) ++ bytes_of_words (drop (i + 1) xs) ≡ whole
word_more out whole xs i x lt e h = part_more (λ t. t) (x ∷ []) out whole xs i x 0 lt e refl h

pub words_done : (out whole xs : List ℕ) (i : ℕ) → length xs ≤ i → out ++ bytes_of_words (drop i xs) ≡ whole → out ≡ whole
words_done out whole xs i le h = parts_done (λ t. t) out whole xs i le refl h

-- an element that passes may be left out
pub all_less : {X : Type 0} (p : X → Bool) (xs : List X) (i : ℕ) (d : X) (whole : Bool) → i < length xs → p (get_or xs i d) ≡ true → whole ≡ list_all p (drop i xs) → whole ≡ list_all p (drop (i + 1) xs)
all_less p xs i d whole lt here h = h ∙ (drop_step (list_all p) xs i (get_or xs i d) d lt refl ∙ ap (λ b. b && list_all p (drop (i + 1) xs)) here)

-- a flag in its place
placed : (i : ℕ) (r : Bool) (b : ℕ) → i < 64 → b ≡ bool_byte r → b * 2 ^ i % 2 ^ 64 ≡ cond r (2 ^ i) 0
placed i true b lt byte =
    let one : b ≡ 1 = byte in
    let few : i ≤ 63 = omega arith in
    let most : 2 ^ i ≤ 2 ^ 63 = pow-le-pow_right (lit< tt) few in
    let below : 2 ^ i < 2 ^ 64 = omega (arith, most) in
    let same : 1 * 2 ^ i ≡ 2 ^ i = omega arith in
    rw (one, same) (mod-eq_of_lt below)
placed i false b lt byte =
    let none : b ≡ 0 = byte in
    rw none (omega arith)

twice : (i : ℕ) → 2 ^ (i + 1) ≡ 2 ^ i * 2
twice i = rw add-one (omega arith)

-- one flag more above the others
above : (r : Bool) (m p n whole : ℕ) → m + p * (cond r 1 0 + 2 * n) ≡ whole → m + cond r p 0 + p * 2 * n ≡ whole
above true m p n whole h = grind arith
above false m p n whole h = grind arith

pub marks_more : (pes : List Pe) (i : ℕ) (d : Pe) (r : Bool) (b m whole : ℕ) → i < length pes → length pes ≤ 64 → r ≡ is_set (get_or pes i d) → b ≡ bool_byte r → m + 2 ^ i * number_of_flags (map is_set (drop i pes)) ≡ whole → m + b * 2 ^ i % 2 ^ 64 + 2 ^ (i + 1) * number_of_flags (map is_set (drop (i + 1) pes)) ≡ whole
marks_more pes i d r b m whole lt few set byte h =
    let rest = number_of_flags (map is_set (drop (i + 1) pes)) in
    let step : number_of_flags (map is_set (drop i pes)) ≡ cond r 1 0 + 2 * rest = drop_step (λ t. number_of_flags (map is_set t)) pes i (get_or pes i d) d lt refl ∙ ap (λ v. cond v 1 0 + 2 * rest) (sym set) in
    rw (placed i r b (omega arith) byte, twice i) (above r m (2 ^ i) rest whole (rw step at h))

pub marks_fit : (n i : ℕ) (r : Bool) (b m : ℕ) → i < n → n ≤ 64 → b ≡ bool_byte r → m < 2 ^ i → m + b * 2 ^ i % 2 ^ 64 < 2 ^ (i + 1)
marks_fit n i r b m lt few byte h =
    let small : cond r (2 ^ i) 0 ≤ 2 ^ i = elim r as (λ v. cond v (2 ^ i) 0 ≤ 2 ^ i) [ true ↦ omega arith | false ↦ omega arith ] in
    rw (placed i r b (omega arith) byte, twice i) (omega (arith, small, h))

pub unset_words : (out : List ℕ) (pe : Pe) → is_set pe ≡ false → out ≡ out ++ bytes_of_words (set_words pe)
unset_words out pe unset = sym (ap (λ b. out ++ bytes_of_words (cond b (pe_words pe) [])) unset ∙ (ap (λ t. out ++ t) bytes-nil ∙ append-nil out))

-- flags make a number of so many bits
pub flags_below : (flags : List Bool) → number_of_flags flags < 2 ^ length flags
flags_below [] = omega arith
flags_below (true ∷ flags) =
    let h = flags_below flags in
    let p : 2 ^ suc (length flags) ≡ 2 ^ length flags * 2 = omega arith in
    rw p (omega arith)
flags_below (false ∷ flags) =
    let h = flags_below flags in
    let p : 2 ^ suc (length flags) ≡ 2 ^ length flags * 2 = omega arith in
    rw p (omega arith)

pub few_marks : (pes : List Pe) (N m : ℕ) → length pes ≡ N → m ≡ number_of_flags (map is_set pes) → N ≤ 32 → m < 2 ^ 32
few_marks pes N m len e few =
    let small : m < 2 ^ length (map is_set pes) = rw e (flags_below (map is_set pes)) in
    let same : length (map is_set pes) ≡ N = length-map pes is_set ∙ len in
    let room : 2 ^ N ≤ 2 ^ 32 = pow-le-pow_right (lit< tt) few in
    omega (arith, rw same at small, room)

-- two parts one after the other
pub two_parts : (out mid new a b : List ℕ) → mid ≡ out ++ bytes_of_words a → new ≡ mid ++ bytes_of_words b → new ≡ out ++ bytes_of_words (a ++ b)
two_parts out mid new a b first second =
    second ∙ (ap (λ t. t ++ bytes_of_words b) first ∙ (append_assoc out (bytes_of_words a) (bytes_of_words b) ∙ ap (λ t. out ++ t) (sym (bytes-append a b))))

-- C's bit fits its field in a processing element that a stage may have
pe_choice : (site : Site) (c : Bit) → is_lawful_bit site c ≡ true → nat_lt (c_choice c) 48 ≡ true
pe_choice site Bit.None h = refl
pe_choice site (Bit.Of source place) h =
    let lt : place < 8 = ltb-true place 8 (both (is_lawful_source site source) (nat_lt place 8) h).1 in
    lt-ltb (16 + place) 48 (omega arith)
pe_choice site Bit.CarryIn h = refl

choice_of_lawful : (site : Site) (pe : Pe) → is_lawful_pe site pe ≡ true → has_small_choice pe ≡ true
unfolding has_small_choice
choice_of_lawful site pe h =
    let a = is_lawful_source site pe.a in
    let hi = is_lawful_source site pe.hi in
    let lo = is_lawful_source site pe.lo in
    let c = is_lawful_bit site pe.c in
    let cin = is_lawful_carry site pe.c pe.cin in
    let shift = nat_lt pe.shift 8 in
    let h6 = (both (a && hi && lo && c && cin && shift) (nat_lt pe.write site.registers) h).0 in
    let h5 = (both (a && hi && lo && c && cin) shift h6).0 in
    let h4 = (both (a && hi && lo && c) cin h5).0 in
    pe_choice site pe.c (both (a && hi && lo) c h4).1

choices_of_lawful : (site : Site) (pes : List Pe) → are_lawful_pes site pes ≡ true → list_all has_small_choice pes ≡ true
choices_of_lawful site [] h = refl
choices_of_lawful site (pe ∷ pes) h =
    let parts = both (is_lawful_pe site pe) (are_lawful_pes (record site { col = site.col + 1 }) pes) h in
    let here = choice_of_lawful site pe parts.0 in
    let rest = choices_of_lawful (record site { col = site.col + 1 }) pes parts.1 in
    rw (here, rest) refl

pub stage_choices : (N P bus stage : ℕ) (stages : List (List Pe)) → are_lawful_stages N P bus stage stages ≡ true → list_all (list_all has_small_choice) stages ≡ true
stage_choices N P bus stage [] h = refl
stage_choices N P bus stage (pes ∷ stages) h =
    let rest = both ((length pes == N) && are_lawful_pes (site_of N P bus stage) pes) (are_lawful_stages N P bus (stage + 1) stages) h in
    let first = both (length pes == N) (are_lawful_pes (site_of N P bus stage) pes) rest.0 in
    let here = choices_of_lawful (site_of N P bus stage) pes first.1 in
    let later = stage_choices N P bus (stage + 1) stages rest.1 in
    rw (here, later) refl

-- no more inputs than columns
widths_few : (N : ℕ) (widths : List ℕ) (used : ℕ) → list_all is_lawful_width widths ≡ true → used + length widths ≤ fold (λ a x. a + slices_of x) used widths
widths_few N [] used h = omega arith
widths_few N (w ∷ widths) used h =
    let parts = both (is_lawful_width w) (list_all is_lawful_width widths) h in
    let some : 0 < w = ltb-true 0 w (both (nat_lt 0 w) (nat_le w 128) parts.0).0 in
    let one : 1 ≤ slices_of w = omega arith in
    let rest = widths_few N widths (used + slices_of w) parts.1 in
    omega arith

pub inputs_few : (N : ℕ) (widths : List ℕ) → are_lawful_inputs N widths ≡ true → length widths ≤ N
inputs_few N widths h =
    let parts = both (nat_lt 0 (length widths) && list_all is_lawful_width widths) (nat_le (bytes_in widths) N) h in
    let each = (both (nat_lt 0 (length widths)) (list_all is_lawful_width widths) parts.0).1 in
    let within : bytes_in widths ≤ N = leb-true (bytes_in widths) N parts.1 in
    let many = widths_few N widths 0 each in
    omega arith

-- a test of what is left, and its first element
pub all_first : {X Y : Type 0} (p : Y → Bool) (F : List X → List Y) (xs : List X) (i : ℕ) (x : X) (y : Y) → i < length xs → x ≡ get_or xs i x → F (x ∷ drop (i + 1) xs) ≡ y ∷ F (drop (i + 1) xs) → list_all p (F (drop i xs)) ≡ true → (p y ≡ true) × (list_all p (F (drop (i + 1) xs)) ≡ true)
all_first p F xs i x y lt e step h =
    both (p y) (list_all p (F (drop (i + 1) xs))) (ap (list_all p) (sym step) ∙ (sym (drop_step (λ t. list_all p (F t)) xs i x x lt e) ∙ h))

pub all_next : {X : Type 0} (F : List X → Bool) (xs : List X) (i : ℕ) (x : X) (here whole : Bool) → i < length xs → x ≡ get_or xs i x → F (x ∷ drop (i + 1) xs) ≡ (here && F (drop (i + 1) xs)) → here ≡ true → whole ≡ F (drop i xs) → whole ≡ F (drop (i + 1) xs)
all_next F xs i x here whole lt e step passes h = h ∙ (drop_step F xs i x x lt e ∙ (step ∙ ap (λ b. b && F (drop (i + 1) xs)) passes))

-- a function of what is left, where nothing is
pub ends : {X Y : Type 0} (F : List X → Y) (xs : List X) (i : ℕ) (none whole : Y) → length xs ≤ i → F [] ≡ none → whole ≡ F (drop i xs) → whole ≡ none
ends F xs i none whole le e h = h ∙ (at_drop_all F xs i le ∙ e)

pub four_parts : (out n1 n2 n3 n4 a b c d : List ℕ) → n1 ≡ out ++ bytes_of_words a → n2 ≡ n1 ++ bytes_of_words b → n3 ≡ n2 ++ bytes_of_words c → n4 ≡ n3 ++ bytes_of_words d → n4 ≡ out ++ bytes_of_words (a ++ b ++ c ++ d)
four_parts out n1 n2 n3 n4 a b c d h1 h2 h3 h4 =
    two_parts out n3 n4 (a ++ b ++ c) d (two_parts out n2 n3 (a ++ b) c (two_parts out n1 n2 a b h1 h2) h3) h4
