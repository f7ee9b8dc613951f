-- What the rules of a configuration give of its outputs.
use Rattle.std.proofs.Common.{◌≡◌, ◌++◌, ◌*◌, ◌<◌, ◌≤◌, ◌==◌, ◌&&◌, nat_lt, nat_le, ◌^◌, true, ℕ, List, [], ◌∷◌, length, map, ap, refl, arith}
use Rattle.std.specs.List.{flat_map, list_all}
use Rattle.std.proofs.lemmas.Bool.{and_parts, leb-true, eqb-true}
use Rattle.std.proofs.lemmas.List.{length-append, length-map}
use Rattle.pr_base.specs.Numbers.{slices_of}
use Rattle.pr_conf.specs.declared.outputs.Output.{Output}
use Rattle.pr_conf.specs.Shape.{OutputShape, output_shape}
use Rattle.pr_conf.specs.Rules.{is_lawful_width, is_lawful_tap, is_lawful_output, are_lawful_outputs}
use Rattle.pr_conf.proofs.Bounds.{slices-le}
use Rattle.pr_lens_rtl_terms.specs.Terms.{output_taps}

pub same_taps : (os : List Output) → flat_map output_taps os ≡ flat_map (λ (o : OutputShape). o.taps) (map output_shape os)
same_taps [] = refl
same_taps (o ∷ os) = ap (λ q. o.taps.items ++ q) (same_taps os)

few_taps : (N P : ℕ) (os : List Output) → list_all (is_lawful_output N P) (map output_shape os) ≡ true → length (flat_map output_taps os) ≤ 16 * length os
few_taps N P [] h = omega arith
few_taps N P (o ∷ os) h =
    let one = and_parts (is_lawful_output N P (output_shape o)) (list_all (is_lawful_output N P) (map output_shape os)) h in
    let two = and_parts (is_lawful_width o.width && (length o.taps.items == slices_of o.width)) (list_all (is_lawful_tap N P) o.taps.items) one.0 in
    let three = and_parts (is_lawful_width o.width) (length o.taps.items == slices_of o.width) two.0 in
    let size = eqb-true (length o.taps.items) (slices_of o.width) three.1 in
    let most = slices-le o.width three.0 in
    let rest = few_taps N P os one.1 in
    omega (arith, length-append o.taps.items (flat_map output_taps os))

pub few_outputs : (N P : ℕ) (os : List Output) → are_lawful_outputs N P (map output_shape os) ≡ true → length os ≤ 64
few_outputs N P os h =
    let all = and_parts (nat_lt 0 (length (map output_shape os)) && nat_le (length (map output_shape os)) 64) (list_all (is_lawful_output N P) (map output_shape os)) h in
    let count = and_parts (nat_lt 0 (length (map output_shape os))) (nat_le (length (map output_shape os)) 64) all.0 in
    let few = leb-true (length (map output_shape os)) 64 count.1 in
    let same = length-map os output_shape in
    omega (arith, few, same)

pub taps_room : (N P : ℕ) (os : List Output) → are_lawful_outputs N P (map output_shape os) ≡ true → length (flat_map output_taps os) < 2 ^ 32
taps_room N P os h =
    let all = and_parts (nat_lt 0 (length (map output_shape os)) && nat_le (length (map output_shape os)) 64) (list_all (is_lawful_output N P) (map output_shape os)) h in
    omega (arith, few_taps N P os all.1, few_outputs N P os h)

pub same_widths : (os : List Output) → map (λ (o : Output). o.width) os ≡ map (λ (o : OutputShape). o.width) (map output_shape os)
same_widths [] = refl
same_widths (o ∷ os) = ap (λ q. o.width ∷ q) (same_widths os)
