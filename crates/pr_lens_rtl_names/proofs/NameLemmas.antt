-- Names without the underscores at their end, and names of lists of items.
use Rattle.std.proofs.Common.{◌≡◌, ◌++◌, ◌+◌, ◌-◌, ◌||◌, ◌<◌, ◌≤◌, ◌∙◌, ℕ, Bool, false, List, [], ◌∷◌, length, map, take, drop, get_or, option_to_list, refl, sym, ap, arith, append-nil, if◌then◌else◌}
use Rattle.std.proofs.lemmas.Grind.{flat_map-append}
use Rattle.std.proofs.lemmas.List.{at_drop_more, length-drop, map-append, take_all, take_more}
use Rattle.pr_lang.specs.declared.trees.Item.{Item}
use Rattle.pr_lens_rtl_names.specs.declared.names.Side.{Side}
use Rattle.std.proofs.lemmas.Bool.{ne_eqb}
use Rattle.pr_lens_rtl_names.specs.Names.{begins, name_in, names_in, occurs, port_name, stem, stem_behind}

-- an underscore at the end changes no stem
pub stem_less : (xs : List ℕ) → stem (xs ++ 95 ∷ []) ≡ stem xs
stem_less [] = refl
stem_less (x ∷ xs) = ap (stem_behind x) (stem_less xs)

behind_some : (x c : ℕ) (xs : List ℕ) → stem_behind x (xs ++ c ∷ []) ≡ x ∷ (xs ++ c ∷ [])
behind_some x c [] = refl
behind_some x c (y ∷ ys) = refl

-- a name that ends otherwise is its own stem
pub stem_whole : (xs : List ℕ) (c : ℕ) → (c ≡ 95 → ⊥) → stem (xs ++ c ∷ []) ≡ xs ++ c ∷ []
stem_whole [] c other = ap (λ b. if b then [] else c ∷ []) (ne_eqb c 95 other)
stem_whole (x ∷ xs) c other = ap (stem_behind x) (stem_whole xs c other) ∙ behind_some x c xs

-- ---- loops
pub stem_more : (name whole : List ℕ) (i j d : ℕ) → i ≡ j + 1 → i ≤ length name → get_or name j d ≡ 95 → stem (take i name) ≡ whole → stem (take j name) ≡ whole
stem_more name whole i j d e le is h =
    let lt : j < length name = omega (arith, e, le) in
    sym (stem_less (take j name))
    ∙ ap (λ c. stem (take j name ++ c ∷ [])) (sym is)
    ∙ ap stem (sym (take_more name j d lt))
    ∙ ap (λ n. stem (take n name)) (sym e) ∙ h

pub stem_begun : (name : List ℕ) (i : ℕ) → i ≡ length name → stem (take i name) ≡ stem name
stem_begun name i e = ap stem (take_all i name (let l : length name ≤ i = omega (arith, e) in l))

pub stem_empty : (name : List ℕ) (i : ℕ) → i ≤ 0 → stem (take i name) ≡ stem name → take i name ≡ stem name
stem_empty name i le h = ap (λ n. take n name) e ∙ ap (λ n. stem (take n name)) (sym e) ∙ h
  where
    e : i ≡ 0
    e = omega (arith, le)

pub stem_found : (name : List ℕ) (i j d : ℕ) → i ≡ j + 1 → i ≤ length name → (get_or name j d ≡ 95 → ⊥) → stem (take i name) ≡ stem name → take i name ≡ stem name
stem_found name i j d e le other h =
    let lt : j < length name = omega (arith, e, le) in
    let split : take i name ≡ take j name ++ get_or name j d ∷ [] = ap (λ n. take n name) e ∙ take_more name j d lt in
    split ∙ sym (stem_whole (take j name) (get_or name j d) other) ∙ ap stem (sym split) ∙ h

pub names_more : (side : Side) (items : List Item) (i : ℕ) (d x : Item) (names : List (List ℕ)) → i < length items → x ≡ get_or items i d
    → names ≡ map port_name (names_in side (take i items))
    → names ++ map port_name (option_to_list (name_in side x)) ≡ map port_name (names_in side (take (i + 1) items))
names_more side items i d x names lt is h =
    let one = λ (y : Item). option_to_list (name_in side y) in
    ap (λ z. z ++ map port_name (one x)) h
    ∙ sym (map-append port_name (names_in side (take i items)) (one x))
    ∙ ap (map port_name)
    (ap (λ z. names_in side (take i items) ++ z) (sym (append-nil (one x)))
    ∙ sym (flat_map-append one (take i items) (x ∷ []))
    ∙ ap (λ z. names_in side (take i items ++ z ∷ [])) is
    ∙ ap (names_in side) (sym (take_more items i d lt)))

rest_is : (text : List ℕ) (i : ℕ) → take (length text - i) (drop i text) ≡ drop i text
rest_is text i = take_all (length text - i) (drop i text) (let e : length (drop i text) ≡ length text - i = length-drop i text in omega (arith, e))

-- a text that does not begin here goes on to be looked for
pub occurs_more : (text piece : List ℕ) (whole : Bool) (i d : ℕ) → i < length text → begins (take (length text - i) (drop i text)) piece ≡ false → occurs (drop i text) piece ≡ whole → occurs (drop (i + 1) text) piece ≡ whole
occurs_more text piece whole i d lt fails h =
    let split : drop i text ≡ get_or text i d ∷ drop (i + 1) text = at_drop_more (λ z. z) text i d lt in
    let other : begins (get_or text i d ∷ drop (i + 1) text) piece ≡ false = ap (λ z. begins z piece) (sym split ∙ sym (rest_is text i)) ∙ fails in
    sym (ap (λ b. b || occurs (drop (i + 1) text) piece) other) ∙ ap (λ z. occurs z piece) (sym split) ∙ h
