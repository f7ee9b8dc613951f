-- Ports, one more each time.
use Rattle.std.proofs.Common.{◌≡◌, ◌++◌, ◌+◌, ◌<◌, ◌≤◌, ◌∙◌, ℕ, List, [], ◌∷◌, fold, length, drop, get_or, refl, sym, ap, arith, append_assoc, append-nil, min, inl, inr, true, ◌&&◌, nat_lt, nat_le}
use Rattle.std.specs.List.{list_all}
use Rattle.std.proofs.lemmas.List.{at_drop_more, drop_all}
use Rattle.std.proofs.lemmas.Bool.{and_parts, cases_lt, leb-true, ltb-true}
use Rattle.pr_base.specs.Numbers.{slices_of}
use Rattle.pr_conf.specs.Rules.{are_lawful_inputs, bytes_in, is_lawful_width}
use Rattle.pr_lens_rtl_names.specs.declared.names.Side.{Side}
use Rattle.pr_lens_rtl_text.specs.declared.ports.Port.{Port}
use Rattle.pr_lens_rtl_text.specs.Ports.{byte_lines, side_lines, zipped}

-- ---- names with their widths
pub zipped_more : (names : List (List ℕ)) (widths : List ℕ) (i : ℕ) (name d : List ℕ) (w e : ℕ) (ports whole : List Port) → i < length names → i < length widths
    → name ≡ get_or names i d → w ≡ get_or widths i e
    → ports ++ zipped (drop i names) (drop i widths) ≡ whole → (ports ++ record { name = name; width = w } ∷ []) ++ zipped (drop (i + 1) names) (drop (i + 1) widths) ≡ whole
zipped_more names widths i name d w e ports whole ln lw isn isw h =
    append_assoc ports (record { name = name; width = w } ∷ []) (zipped (drop (i + 1) names) (drop (i + 1) widths))
    ∙ ap (λ z. ports ++ zipped (z ∷ drop (i + 1) names) (w ∷ drop (i + 1) widths)) isn
    ∙ ap (λ z. ports ++ zipped (get_or names i d ∷ drop (i + 1) names) (z ∷ drop (i + 1) widths)) isw
    ∙ sym (at_drop_more (λ z. ports ++ zipped z (get_or widths i e ∷ drop (i + 1) widths)) names i d ln)
    ∙ sym (at_drop_more (λ z. ports ++ zipped (drop i names) z) widths i e lw) ∙ h

zipped_none : (names : List (List ℕ)) → zipped names [] ≡ []
zipped_none [] = refl
zipped_none (name ∷ names) = refl

pub zipped_done : (names : List (List ℕ)) (widths : List ℕ) (i : ℕ) (ports whole : List Port) → min (length names) (length widths) ≤ i
    → ports ++ zipped (drop i names) (drop i widths) ≡ whole → ports ≡ whole
zipped_done names widths i ports whole le h = sym (append-nil ports) ∙ ap (λ z. ports ++ z) (sym none) ∙ h
  where
    none : zipped (drop i names) (drop i widths) ≡ []
    none = elim (cases_lt i (length names)) [
      | inl less ↦ ap (λ z. zipped (drop i names) z) (drop_all i widths (omega (arith, le, less))) ∙ zipped_none (drop i names)
      | inr past ↦ ap (λ z. zipped z (drop i widths)) (drop_all i names past)
    ]

pub zipped_few : (names : List (List ℕ)) (widths : List ℕ) → length (zipped names widths) ≤ length widths
zipped_few [] widths = omega arith
zipped_few (name ∷ names) [] = omega arith
zipped_few (name ∷ names) (w ∷ widths) = omega (arith, zipped_few names widths)

-- ---- inputs
some_bytes : (w : ℕ) → is_lawful_width w ≡ true → 1 ≤ slices_of w
some_bytes w h =
    let some : 0 < w = ltb-true 0 w (and_parts (nat_lt 0 w) (nat_le w 128) h).0 in
    omega (arith, some)

within_after : (n : ℕ) (widths : List ℕ) → list_all is_lawful_width widths ≡ true → length widths + n ≤ fold (λ a x. a + slices_of x) n widths
within_after n [] h = omega arith
within_after n (w ∷ widths) h =
    let both = and_parts (is_lawful_width w) (list_all is_lawful_width widths) h in
    let rest = within_after (n + slices_of w) widths both.1 in
    let some = some_bytes w both.0 in
    omega (arith, rest, some)

inputs_within : (widths : List ℕ) → list_all is_lawful_width widths ≡ true → length widths ≤ bytes_in widths
inputs_within widths h = let all : length widths + 0 ≤ bytes_in widths = within_after 0 widths h in omega (arith, all)

pub inputs_few : (N : ℕ) (widths : List ℕ) → N ≤ 64 → are_lawful_inputs N widths ≡ true → length widths ≤ 64
inputs_few N widths most h =
    let two = and_parts (nat_lt 0 (length widths) && list_all is_lawful_width widths) (nat_le (bytes_in widths) N) h in
    let one = and_parts (nat_lt 0 (length widths)) (list_all is_lawful_width widths) two.0 in
    let fits : bytes_in widths ≤ N = leb-true (bytes_in widths) N two.1 in
    omega (arith, inputs_within widths one.1, fits, most)

-- ---- lines of bytes
pub bytes_more : (side : Side) (port : Port) (first count : ℕ) (start text line : List ℕ) → text ≡ start ++ byte_lines side port first count
    → text ++ line ≡ start ++ (byte_lines side port first count ++ line)
bytes_more side port first count start text line h = ap (λ z. z ++ line) h ∙ append_assoc start (byte_lines side port first count) line

-- one port more
pub sides_more : (side : Side) (ports : List Port) (i first : ℕ) (p d : Port) (text whole : List ℕ) → i < length ports → p ≡ get_or ports i d
    → text ++ side_lines side first (drop i ports) ≡ whole
    → (text ++ byte_lines side p first (slices_of p.width)) ++ side_lines side (first + slices_of p.width) (drop (i + 1) ports) ≡ whole
sides_more side ports i first p d text whole lt is h =
    append_assoc text (byte_lines side p first (slices_of p.width)) (side_lines side (first + slices_of p.width) (drop (i + 1) ports))
    ∙ ap (λ z. text ++ side_lines side first (z ∷ drop (i + 1) ports)) is
    ∙ sym (at_drop_more (λ z. text ++ side_lines side first z) ports i d lt) ∙ h

pub sides_done : (side : Side) (ports : List Port) (i first : ℕ) (text whole : List ℕ) → length ports ≤ i → text ++ side_lines side first (drop i ports) ≡ whole → text ≡ whole
sides_done side ports i first text whole le h = sym (append-nil text) ∙ ap (λ z. text ++ side_lines side first z) (sym (drop_all i ports le)) ∙ h
