-- The bytes that taps read, output by output.
use Rattle.std.proofs.Common.{◌≡◌, ℕ, zero, suc, ◌+◌, ◌<◌, ◌≤◌, Bool, true, ◌&&◌, eqb, ltb, leb, List, [], ◌∷◌, ◌++◌, length, get_or, take, map, refl, sym, ap, ap₂, ◌∙◌, arith, append_assoc, length-append}
use Rattle.std.specs.List.{flat_map, list_all}
use Rattle.std.proofs.lemmas.Bool.{eqb-true}
use Rattle.std.proofs.lemmas.List.{take_more, append-nil, map-append, length-map}
use Rattle.std.proofs.lemmas.List.Concat.{flat_map-cons}
use Rattle.std.proofs.lemmas.List.Folds.{length-flat_map-take}
use Rattle.std.proofs.lemmas.List.Sums.{sum_by-cons}
use Rattle.std.proofs.lemmas.Grind.{flat_map-append}
use Rattle.pr_base.specs.Numbers.{slices_of}
use Rattle.pr_conf.specs.declared.outputs.Tap.{Tap}
use Rattle.pr_conf.specs.declared.outputs.Output.{Output}
use Rattle.pr_conf.specs.Shape.{OutputShape, output_shape}
use Rattle.pr_conf.specs.Rules.{is_lawful_width, is_lawful_tap, is_lawful_output, are_lawful_outputs, bytes_in}
use Rattle.pr_conf.specs.Through.{tap_byte}
use Rattle.pr_machine.specs.Results.{bytes_read}
use Rattle.pr_machine.proofs.Stages.{and_left, and_right}

-- one more tap
pub taps_more : (f : Tap → ℕ) (taps : List Tap) (i : ℕ) (d : Tap) (old into new : List ℕ) (x : ℕ) → i < length taps → into ≡ old ++ map f (take i taps) → new ≡ into ++ x ∷ [] → x ≡ f (get_or taps i d) → new ≡ old ++ map f (take (i + 1) taps)
taps_more f taps i d old into new x h e n v =
    n ∙ (ap₂ (λ a b. a ++ b ∷ []) e v
    ∙ (append_assoc old (map f (take i taps)) (f (get_or taps i d) ∷ [])
    ∙ ap (λ a. old ++ a) (sym (map-append f (take i taps) (get_or taps i d ∷ [])) ∙ ap (map f) (sym (take_more taps i d h)))))

-- one more output
pub outputs_more : (N : ℕ) (row : List ℕ) (outputs : List Output) (i : ℕ) (o : Output) (into new : List ℕ) (taps : List Tap) → i < length outputs → o ≡ get_or outputs i o → taps ≡ o.taps.items → into ≡ bytes_read N row (take i outputs) → new ≡ into ++ map (tap_byte N row) taps
    → new ≡ bytes_read N row (take (i + 1) outputs)
outputs_more N row outputs i o into new taps h at same e n =
    let f : Output → List ℕ = λ x. map (tap_byte N row) x.taps.items in
    let one : flat_map f (o ∷ []) ≡ f o = flat_map-cons f o [] ∙ append-nil (f o) in
    n ∙ (ap₂ (λ a b. a ++ map (tap_byte N row) b) e same
    ∙ (ap (λ a. flat_map f (take i outputs) ++ a) (sym one)
    ∙ (sym (flat_map-append f (take i outputs) (o ∷ []))
    ∙ ap (flat_map f) (ap (λ x. take i outputs ++ x ∷ []) at ∙ sym (take_more outputs i o h)))))

all_at : {X : Type 0} (p : X → Bool) (xs : List X) (i : ℕ) (d : X) → list_all p xs ≡ true → i < length xs → p (get_or xs i d) ≡ true
all_at p [] i d h l = absurd (omega arith)
all_at p (x ∷ xs) zero d h l = and_left (p x) (list_all p xs) h
all_at p (x ∷ xs) (suc i) d h l = all_at p xs i d (and_right (p x) (list_all p xs) h) (omega arith)

shaped : (q : OutputShape → Bool) (outputs : List Output) → list_all q (map output_shape outputs) ≡ true → list_all (λ o. q (output_shape o)) outputs ≡ true
shaped q [] h = refl
shaped q (o ∷ outputs) h = both (q (output_shape o)) _ (and_left (q (output_shape o)) _ h) (shaped q outputs (and_right (q (output_shape o)) _ h))
  where
    both : (a b : Bool) → a ≡ true → b ≡ true → (a && b) ≡ true
    both a b e f = ap₂ (λ x y. x && y) e f

output_lawful : (N P : ℕ) (outputs : List Output) (i : ℕ) (o : Output) → list_all (is_lawful_output N P) (map output_shape outputs) ≡ true → i < length outputs → o ≡ get_or outputs i o → is_lawful_output N P (output_shape o) ≡ true
output_lawful N P outputs i o h l e = ap (λ x. is_lawful_output N P (output_shape x)) e ∙ all_at (λ x. is_lawful_output N P (output_shape x)) outputs i o (shaped (is_lawful_output N P) outputs h) l

pub taps_lawful : (N P : ℕ) (outputs : List Output) (i : ℕ) (o : Output) (taps : List Tap) → list_all (is_lawful_output N P) (map output_shape outputs) ≡ true → i < length outputs → o ≡ get_or outputs i o → taps ≡ o.taps.items → list_all (is_lawful_tap N P) taps ≡ true
taps_lawful N P outputs i o taps h l e f =
    ap (list_all (is_lawful_tap N P)) f ∙ and_right (is_lawful_width o.width && eqb (length o.taps.items) (slices_of o.width)) (list_all (is_lawful_tap N P) o.taps.items) (output_lawful N P outputs i o h l e)

-- all bytes together are as many as the widths have
pub whole : (N P : ℕ) (row : List ℕ) (outputs : List Output) → list_all (is_lawful_output N P) (map output_shape outputs) ≡ true → length (bytes_read N row outputs) ≡ bytes_in (map (λ o. o.width) outputs)
whole N P row [] h = refl
whole N P row (o ∷ outputs) h =
    let f : Output → List ℕ = λ x. map (tap_byte N row) x.taps.items in
    let one = and_left (is_lawful_output N P (output_shape o)) _ h in
    let n : length o.taps.items ≡ slices_of o.width = eqb-true _ _ (and_right (is_lawful_width o.width) _ (and_left _ (list_all (is_lawful_tap N P) o.taps.items) one)) in
    let rest = whole N P row outputs (and_right (is_lawful_output N P (output_shape o)) _ h) in
    ap length (flat_map-cons f o outputs) ∙ (length-append (f o) (flat_map f outputs)
    ∙ (ap₂ (λ a b. a + b) (length-map o.taps.items (tap_byte N row) ∙ n) rest ∙ sym (sum_by-cons slices_of o.width (map (λ x. x.width) outputs))))

pub room_left : (N P : ℕ) (row : List ℕ) (outputs : List Output) (i : ℕ) (o : Output) (into : List ℕ) (taps : List Tap) (len buffers : ℕ) → list_all (is_lawful_output N P) (map output_shape outputs) ≡ true → i < length outputs → o ≡ get_or outputs i o → taps ≡ o.taps.items
    → into ≡ bytes_read N row (take i outputs) → len ≡ length into → bytes_in (map (λ x. x.width) outputs) ≤ buffers → len + length taps ≤ buffers
room_left N P row outputs i o into taps len buffers h l e f b n r =
    let g : Output → List ℕ = λ x. map (tap_byte N row) x.taps.items in
    let some = length-flat_map-take g outputs i o l in
    let this : length (g (get_or outputs i o)) ≡ length taps = length-map (get_or outputs i o).taps.items (tap_byte N row) ∙ ap length (ap (λ (x : Output). x.taps.items) (sym e) ∙ sym f) in
    let all = whole N P row outputs h in
    let before : length into ≡ length (flat_map g (take i outputs)) = ap length b in
    omega arith

-- the result of a configuration
pub read_shaped : (N : ℕ) (row : List ℕ) (outputs : List Output) → bytes_read N row outputs ≡ flat_map (λ o. map (tap_byte N row) o.taps) (map output_shape outputs)
read_shaped N row [] = refl
read_shaped N row (o ∷ outputs) =
    let f : Output → List ℕ = λ x. map (tap_byte N row) x.taps.items in
    let g : OutputShape → List ℕ = λ x. map (tap_byte N row) x.taps in
    flat_map-cons f o outputs ∙ (ap (λ a. f o ++ a) (read_shaped N row outputs) ∙ sym (flat_map-cons g (output_shape o) (map output_shape outputs)))

pub widths_shaped : (outputs : List Output) → map (λ o. o.width) (map output_shape outputs) ≡ map (λ o. o.width) outputs
widths_shaped [] = refl
widths_shaped (o ∷ outputs) = ap (λ a. o.width ∷ a) (widths_shaped outputs)

pub outputs_lawful : (N P : ℕ) (outputs shown : List Output) → are_lawful_outputs N P (map output_shape outputs) ≡ true → shown ≡ outputs → list_all (is_lawful_output N P) (map output_shape shown) ≡ true
outputs_lawful N P outputs shown h e =
    ap (λ os. list_all (is_lawful_output N P) (map output_shape os)) e ∙ and_right (ltb 0 (length (map output_shape outputs)) && leb (length (map output_shape outputs)) 64) (list_all (is_lawful_output N P) (map output_shape outputs)) h

pub widths_left : (outputs shown : List Output) (buffers cap : ℕ) → shown ≡ outputs → buffers ≡ cap → bytes_in (map (λ o. o.width) (map output_shape outputs)) ≤ buffers → bytes_in (map (λ o. o.width) shown) ≤ cap
widths_left outputs shown buffers cap e f h = let z = ap bytes_in (widths_shaped outputs) in let y = ap (λ os. bytes_in (map (λ (o : Output). o.width) os)) e in omega arith
