-- Rows of numbers and their bytes, piece by piece, and the widths of outputs.
use Rattle.std.proofs.Common.{◌≡◌, ℕ, zero, suc, ◌+◌, ◌<◌, ◌≤◌, List, [], ◌∷◌, ◌++◌, length, map, take, drop, ◌-◌, set, nat_le, get_or, get_or-set_same, length-set, sym, ap, ◌∙◌, arith, append-nil, true, sum_by, append_assoc, All}
use Rattle.std.specs.List.{list_all}
use Rattle.std.proofs.lemmas.Bool.{and_parts}
use Rattle.std.proofs.lemmas.Bool.Decides.{nat_tests}
use Rattle.std.proofs.lemmas.List.{length-append, length-take-le, length-drop, length-map, get_or-map, take_more, take_more_set}
use Rattle.std.proofs.lemmas.List.Elements.{All-nil, All-cons}
use Rattle.std.proofs.lemmas.List.Sums.{sum_by-cons, sum_by-drop_more, AllPass-from_list_all}
use Rattle.std.proofs.lemmas.Slice.{take-put_mid}
use Rattle.std.proofs.lemmas.Option.{get_or_from_slice_get}
use borrow.Rule.Slice.PartMut.{put_mid}
use Rattle.std.proofs.lemmas.Grind.{same_number_lists}
use Rattle.pr_base.specs.Numbers.{byte_at, bytes_of, slices_of}
use Rattle.pr_base.specs.Rows.{row_bytes}
use Rattle.pr_base.proofs.RowLemmas.{slice_get-bytes_of, length-bytes_of}
use Rattle.pr_conf.specs.declared.outputs.Output.{Output}
use Rattle.pr_conf.specs.Shape.{OutputShape, output_shape}
use Rattle.pr_conf.specs.Rules.{is_lawful_width, is_lawful_output, are_lawful_outputs, are_lawful_inputs}

-- bytes that stand each at its place
pub whole_number : (into : List ℕ) (n : ℕ) → ((k : ℕ) → k < length into → get_or into k 0 ≡ byte_at n k) → into ≡ bytes_of (length into) n
whole_number into n each =
    same_number_lists into (bytes_of (length into) n) (sym (length-bytes_of (length into) n))
    (λ k h. each k h ∙ sym (get_or_from_slice_get (bytes_of (length into) n) k (byte_at n k) 0 (slice_get-bytes_of n (length into) k h)))

-- one number more
pub row_bytes-more : (widths row : List ℕ) (i : ℕ) → i < length widths → i < length row
    → row_bytes (take (i + 1) widths) row ≡ row_bytes (take i widths) row ++ bytes_of (slices_of (get_or widths i 0)) (get_or row i 0)
row_bytes-more [] row i h g = absurd (omega (arith, h))
row_bytes-more (w ∷ widths) [] i h g = absurd (omega (arith, g))
row_bytes-more (w ∷ widths) (n ∷ row) zero h g = append-nil (bytes_of (slices_of w) n)
row_bytes-more (w ∷ widths) (n ∷ row) (suc i) h g =
    let one : suc i + 1 ≡ suc (i + 1) = omega arith in
    ap (λ k. row_bytes (take k (w ∷ widths)) (n ∷ row)) one
    ∙ (ap (λ bytes. bytes_of (slices_of w) n ++ bytes) (row_bytes-more widths row i (omega (arith, h)) (omega (arith, g)))
    ∙ sym (append_assoc (bytes_of (slices_of w) n) (row_bytes (take i widths) row) (bytes_of (slices_of (get_or widths i 0)) (get_or row i 0))))

-- a buffer of one byte
pub one_byte : (into : List ℕ) (n b : ℕ) → length into ≡ 1 → b ≡ byte_at n 0 → set into 0 b ≡ bytes_of (length into) n
one_byte into n b l is =
    let long = length-set into 0 b in
    whole_number (set into 0 b) n (λ k h.
    let e : k ≡ 0 = omega (arith, h, long, l) in
    ap (λ i. get_or (set into 0 b) i 0) e ∙ (get_or-set_same into 0 b 0 (omega (arith, l)) ∙ (is ∙ ap (byte_at n) (sym e))))
    ∙ ap (λ m. bytes_of m n) long

-- the bytes of one number more stand in a buffer, which keeps its size
pub record IsSampleStep (into widths numbers : List ℕ) (to i long : ℕ) : Type 0 where
  pub done : take to into ≡ row_bytes (take (i + 1) widths) numbers
  pub left : to + sum_by slices_of (drop (i + 1) widths) ≡ sum_by slices_of widths
  pub size : length into ≡ long

pub sample_step : (into ys widths numbers : List ℕ) (at i s : ℕ) → take at into ≡ row_bytes (take i widths) numbers → at + sum_by slices_of (drop i widths) ≡ sum_by slices_of widths
    → sum_by slices_of widths ≤ length into → i < length widths → length numbers ≡ length widths → s ≡ slices_of (get_or widths i 0)
    → ys ≡ bytes_of (length (take (at + s - at) (drop at into))) (get_or numbers i 0)
    → IsSampleStep (put_mid at (at + s - at) into ys) widths numbers (at + s) i (length into)
sample_step into ys widths numbers at i s done left room h n size is =
    let k = at + s - at in
    let w = slices_of (get_or widths i 0) in
    let more = sum_by-drop_more slices_of widths i 0 h in
    let rest = length-drop at into in
    let part = length-take-le k (drop at into) (omega (arith, more, left, room, rest, size)) in
    let long : length ys ≡ s = omega (arith, ap length is, length-bytes_of (length (take k (drop at into))) (get_or numbers i 0), part) in
    let same : ys ≡ bytes_of w (get_or numbers i 0) = is ∙ ap (λ m. bytes_of m (get_or numbers i 0)) (omega (arith, part, size)) in
    let a = length-append (take at into) (ys ++ drop k (drop at into)) in
    let b = length-append ys (drop k (drop at into)) in
    let c = length-take-le at into (omega (arith, left, room)) in
    let d = length-drop k (drop at into) in
    record {
      done = take-put_mid at k into ys (at + s) (omega (arith, long)) (omega (arith, left, room))
          ∙ (ap (λ xs. xs ++ ys) done ∙ (ap (λ xs. row_bytes (take i widths) numbers ++ xs) same ∙ sym (row_bytes-more widths numbers i h (omega (arith, h, n)))));
      left = omega (arith, size, more, left);
      size = omega (arith, a, b, c, d, long, size, more, left, room, rest);
    }

-- the outputs of a configuration have lawful widths
lawful_width : (w : ℕ) → is_lawful_width w ≡ true → (1 ≤ w) × (w ≤ 128)
lawful_width w h = (grind (arith, nat_tests), grind (arith, nat_tests))

pub lawful_widths : (N P : ℕ) (os : List OutputShape) → list_all (is_lawful_output N P) os ≡ true → All (λ w. (1 ≤ w) × (w ≤ 128)) (map (λ o. o.width) os)
lawful_widths N P [] h = All-nil (λ w. (1 ≤ w) × (w ≤ 128))
lawful_widths N P (o ∷ os) h =
    let (one, rest) = and_parts _ _ h in
    let (head, taps) = and_parts _ _ one in
    All-cons (λ w. (1 ≤ w) × (w ≤ 128)) o.width (map (λ x. x.width) os) (lawful_width o.width (and_parts _ _ head).0) (lawful_widths N P os rest)

pub few_outputs : (N P : ℕ) (os : List OutputShape) → are_lawful_outputs N P os ≡ true → length os ≤ 64
few_outputs N P os h =
    let counts = (and_parts _ _ h).0 in
    let test : nat_le (length os) 64 ≡ true = (and_parts _ _ counts).1 in
    grind (arith, nat_tests)

-- one width more
pub widths_step : (os : List Output) (into : List ℕ) (i : ℕ) (o : Output) → i < length os → length os ≤ length into → o ≡ get_or os i o
    → take i into ≡ take i (map (λ x. x.width) (map output_shape os)) → take (i + 1) (set into i o.width) ≡ take (i + 1) (map (λ x. x.width) (map output_shape os))
widths_step os into i o h room is done =
    let shapes = map output_shape os in
    let n : length shapes ≡ length os = length-map os output_shape in
    let m : length (map (λ x. x.width) shapes) ≡ length shapes = length-map shapes (λ x. x.width) in
    let at : get_or (map (λ x. x.width) shapes) i 0 ≡ o.width =
    get_or-map (λ x. x.width) shapes i (output_shape o) 0 (omega (arith, h, n)) ∙ (ap (λ x. x.width) (get_or-map output_shape os i o (output_shape o) h) ∙ ap (λ x. x.width) (sym is)) in
    take_more_set into i o.width (omega (arith, h, room))
    ∙ (ap (λ xs. xs ++ o.width ∷ []) done
    ∙ (ap (λ w. take i (map (λ x. x.width) shapes) ++ w ∷ []) (sym at) ∙ sym (take_more (map (λ x. x.width) shapes) i 0 (omega (arith, h, n, m)))))

-- a configuration has no more inputs than columns
slices-pos : (w : ℕ) → is_lawful_width w ≡ true → 1 ≤ slices_of w
slices-pos w h = let some = (lawful_width w h).0 in omega (arith, some)

inputs-le : (widths : List ℕ) → list_all is_lawful_width widths ≡ true → length widths ≤ sum_by slices_of widths
inputs-le [] h = omega arith
inputs-le (w ∷ widths) h =
    let (one, rest) = and_parts _ _ h in
    let n = sum_by-cons slices_of w widths in
    let first = slices-pos w one in
    let more = inputs-le widths rest in
    omega (arith, n, first, more)

pub sample_room : (N : ℕ) (widths : List ℕ) → N ≤ 64 → are_lawful_inputs N widths ≡ true → sum_by slices_of widths ≤ 64
sample_room N widths columns h =
    let fits : nat_le (sum_by slices_of widths) N ≡ true = (and_parts _ _ h).1 in
    let test : sum_by slices_of widths ≤ N = grind (arith, nat_tests) in
    omega (arith, columns, test)

pub few_inputs : (N : ℕ) (widths : List ℕ) → N ≤ 64 → are_lawful_inputs N widths ≡ true → length widths ≤ 64
few_inputs N widths columns h =
    let all = inputs-le widths (and_parts _ _ (and_parts _ _ h).0).1 in
    omega (arith, all, sample_room N widths columns h)

-- the inputs of a configuration have lawful widths
pub lawful_inputs : (N : ℕ) (widths : List ℕ) → are_lawful_inputs N widths ≡ true → All (λ w. (1 ≤ w) × (w ≤ 128)) widths
lawful_inputs N widths h =
    let all = AllPass-from_list_all is_lawful_width widths (and_parts _ _ (and_parts _ _ h).0).1 in
    λ k d below. lawful_width (get_or widths k d) (all k d below)
