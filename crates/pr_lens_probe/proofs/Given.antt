-- What gives the streams of instances, first of some and then of more.
use mathlib.Core.Path.{fun_ext}
use Rattle.std.proofs.Common.{◌≡◌, ◌∙◌, ◌+◌, ◌-◌, ◌<◌, ℕ, Bool, ◌&&◌, ◌||◌, nat_le, List, [], ◌∷◌, ◌++◌, drop, get_or, map, take, length, Option, Some, refl, sym, ap, ap₂, subst, arith}
use Rattle.std.specs.List.{AllZip, list_all, list_any, range_with_len}
use Rattle.std.proofs.lemmas.Bool.{and_parts, or_parts}
use Rattle.std.proofs.lemmas.List.{drop-map, get_or-map, length-append, length-map, map-append, same_lists, take-append-drop, take-map}
use Rattle.std.proofs.lemmas.List.Folds.{list_all-append, list_any-append}
use Rattle.std.proofs.lemmas.List.FromFn.{length-map-range_with_len, get_or-map-range_with_len}
use Rattle.std.proofs.lemmas.Option.{same_Some}
use Rattle.std.proofs.lemmas.Slice.Zip.{AllZip-long}
use Rattle.std.proofs.Math.Seq.{drop-append_seam, take-append_seam}
use Rattle.pr_base.specs.Rows.{IsRow}
use Rattle.pr_lang.specs.declared.trees.Item.{Item}
use Rattle.pr_lang.specs.declared.trees.Program.{Program}
use Rattle.pr_scope_names.specs.declared.streams.Instance.{Instance}
use Rattle.pr_scope_facts.specs.Items.{widths_of_inputs}
use Rattle.pr_flat.specs.declared.equations.Operand.{Operand}
use Rattle.pr_flat.specs.Facts.{IsFlat, is_lawful_output, reads_equation}
use Rattle.pr_flat.specs.Forms.{Stream}
use Rattle.pr_flat.specs.Shape.{EquationShape}
use Rattle.pr_flat.specs.Values.{operand_number, rows_of}
use Rattle.pr_flat.specs.Widths.{AreWidths, operand_width}
use Rattle.pr_flat.proofs.ValueLemmas.{length-rows_after}
use Rattle.pr_lang_meaning.specs.Programs as meant
use Rattle.pr_lang_meaning.proofs.Pairs.{each-map}
use Rattle.pr_expand_spec.specs.Programs.{equations_of, items_change, start}
use Rattle.pr_expand_correct.specs.Outputs.{IsAsWide}
use Rattle.pr_expand_correct.specs.Results.{IsListOf, output_rows}
use Rattle.pr_probe.specs.Operands.{operand_of, operand_standing}
use Rattle.pr_probe.specs.Probes.{numbers_at}
use Rattle.pr_probe.proofs.Equations.{made_of}
use Rattle.pr_lens_probe.specs.Given.{AreGiven, AreLawful, HasStreams, HaveKinds, Match, stream_of}
use Rattle.pr_lens_probe.specs.Kinds.{has_room, is_signed, kinds_of, last_of}
use Rattle.pr_lens_probe.specs.Shown.{columns_of, width_of}

-- ---- two lists, place by place
pub zip-append : {A B : Type 0} (R : A → B → Type 0) (xs zs : List A) (ys ws : List B) → AllZip R xs ys → AllZip R zs ws → AllZip R (xs ++ zs) (ys ++ ws)
zip-append R [] zs [] ws all more = more
zip-append R [] zs (y ∷ ys) ws all more = absurd all
zip-append R (x ∷ xs) zs [] ws all more = absurd all
zip-append R (x ∷ xs) zs (y ∷ ys) ws all more = (all.0, zip-append R xs zs ys ws all.1 more)

zip-cut : {A B : Type 0} (R : A → B → Type 0) (xs : List A) (ys zs : List B) → AllZip R xs (ys ++ zs) → AllZip R (drop (length ys) xs) zs
zip-cut R xs [] zs all = all
zip-cut R [] (y ∷ ys) zs all = absurd all
zip-cut R (x ∷ xs) (y ∷ ys) zs all = zip-cut R xs ys zs all.1

-- the last of them
pub last-are : (outputs own more : List Operand) (count : ℕ) → outputs ≡ own ++ more → count ≡ length more → last_of count outputs ≡ more
last-are outputs own more count are is =
    let sum : length (own ++ more) ≡ length own + length more = length-append own more in
    let cut : length outputs - count ≡ length own = omega (arith, ap length are, sum, is) in
    ap (λ (n : ℕ). drop n outputs) cut ∙ (ap (drop (length own)) are ∙ drop-append_seam own more)

pub zip-last : {A B : Type 0} (R : A → B → Type 0) (xs : List A) (ys zs : List B) (count : ℕ) → count ≡ length zs → AllZip R xs (ys ++ zs) → AllZip R (drop (length xs - count) xs) zs
zip-last {A} {B} R xs ys zs count is all =
    let long : length (ys ++ zs) ≡ length xs = AllZip-long R xs (ys ++ zs) all in
    let sum : length (ys ++ zs) ≡ length ys + length zs = length-append ys zs in
    let cut : length ys ≡ length xs - count = omega (arith, long, sum, is) in
    subst (λ (n : ℕ). AllZip R (drop n xs) zs) cut (zip-cut R xs ys zs all)

-- operands that are as wide as streams
pub wide-same : (widths : List ℕ) (operands : List Operand) (streams : List Stream) → AllZip (IsAsWide widths) operands streams → map (operand_width widths) operands ≡ map width_of streams
wide-same widths operands streams wide = each-map (IsAsWide widths) (operand_width widths) width_of (λ o s is. sym is) operands streams wide

-- the rows of operands that have the numbers of streams
pub rows-are : (es : List EquationShape) (widths : List ℕ) (xs : List (List ℕ)) (os : List Operand) (ss : List Stream) → AllZip (IsListOf es widths xs) os ss → output_rows es os widths xs ≡ map (λ n. numbers_at n ss) (range_with_len 0 (length xs))
rows-are es widths xs os ss zip =
    let rows = rows_of es widths xs in
    let row_at : List ℕ → List ℕ = λ row. map (operand_number es [] row) os in
    let numbers : ℕ → List ℕ = λ n. numbers_at n ss in
    let count : length rows ≡ length xs = length-rows_after es widths [] xs in
    same_lists (output_rows es os widths xs) (map numbers (range_with_len 0 (length xs))) (length-map rows row_at ∙ (count ∙ sym (length-map-range_with_len numbers 0 (length xs)))) (λ n d low.
    let within : n < length rows = omega (arith, low, length-map rows row_at) in
    let there : n < length xs = omega (arith, within, count) in
    get_or-map row_at rows n [] d within
    ∙ (each-map (IsListOf es widths xs) (operand_number es [] (get_or rows n [])) (λ (s : Stream). get_or s.numbers n 0) (λ o s is. sym (ap (λ (l : List ℕ). get_or l n 0) is ∙ get_or-map (λ row. operand_number es [] row o) rows n [] 0 within)) os ss zip
    ∙ sym (get_or-map-range_with_len numbers 0 (length xs) n n d there (omega arith))))

pub columns-are : (es : List EquationShape) (widths : List ℕ) (xs : List (List ℕ)) (os : List Operand) (outputs streams : List Stream) → AllZip (IsListOf es widths xs) os (outputs ++ streams) → output_rows es os widths xs ≡ columns_of (length xs) outputs streams
columns-are es widths xs os outputs streams zip =
    rows-are es widths xs os (outputs ++ streams) zip
    ∙ ap (λ (f : ℕ → List ℕ). map f (range_with_len 0 (length xs))) (fun_ext (λ n. map-append (λ (t : Stream). get_or t.numbers n 0) outputs streams))

-- ---- further instances
pub streams-more : (program : Program) (xs : List (List ℕ)) (is js : List Instance) (os qs ss ts : List Stream) → HasStreams program xs is os ss → HasStreams program xs js qs ts → HasStreams program xs (is ++ js) os (ss ++ ts)
streams-more program xs is js os qs ss ts a b =
    let worlds : a.world ≡ b.world = same_Some a.world b.world (sym a.is ∙ b.is) in
    record {
      world = a.world;
      is = a.is;
      outputs_are = a.outputs_are;
      each = map-append (stream_of a.world.streams) is js
          ∙ (ap₂ (λ (k l : List (Option Stream)). k ++ l) a.each (ap (λ (w : meant.World). map (stream_of w.streams) js) worlds ∙ b.each) ∙ sym (map-append Some ss ts));
    }

pub match-more : (program : Program) (xs : List (List ℕ)) (os qs : List Operand) (ss ts : List Stream) → Match program xs os ss → Match program xs qs ts → Match program xs (os ++ qs) (ss ++ ts)
match-more program xs os qs ss ts a b = record {
  wide = λ widths are. zip-append (IsAsWide widths) os qs ss ts (a.wide widths are) (b.wide widths are);
  lists = λ widths are samples. zip-append (IsListOf (equations_of program).equations widths xs) os qs ss ts (a.lists widths are samples) (b.lists widths are samples);
}

pub lawful-more : (es : List EquationShape) (os qs : List Operand) → AreLawful es os → AreLawful es qs → AreLawful es (os ++ qs)
lawful-more es os qs a b = record {
  given = list_all-append (is_lawful_output (length es)) os qs ∙ ap₂ (λ (x y : Bool). x && y) a.given b.given;
  outside = λ rec i depends other. list_any-append (reads_equation i) os qs ∙ ap₂ (λ (x y : Bool). x || y) (a.outside rec i depends other) (b.outside rec i depends other);
}

pub given-more : (program : Program) (is js : List Instance) (os qs : List Operand) → AreGiven program is os → AreGiven program js qs → AreGiven program (is ++ js) (os ++ qs)
given-more program is js os qs a b = record {
  are = ap₂ (λ (k l : List Operand). k ++ l) a.are b.are ∙ sym (map-append (operand_of program) is js);
  lawful = lawful-more (equations_of program).equations os qs a.lawful b.lawful;
  streams = λ xs.
      let first = a.streams xs in
      let then_ = b.streams xs in
      record {
        outputs = first.outputs;
        streams = first.streams ++ then_.streams;
        has = streams-more program xs is js first.outputs then_.outputs first.streams then_.streams first.has then_.has;
        match = match-more program xs os qs first.streams then_.streams first.match then_.match;
      };
}

pub kinds-more : (program : Program) (is js : List Instance) (ks ls : List Bool) → HaveKinds program is ks → HaveKinds program js ls → HaveKinds program (is ++ js) (ks ++ ls)
kinds-more program is js ks ls first then_ xs outputs streams has =
    let f = stream_of has.world.streams in
    let n = length is in
    let split : map f is ++ map f js ≡ map Some streams = sym (map-append f is js) ∙ has.each in
    let long : length (map f is) ≡ n = length-map is f in
    let front : map f is ≡ map Some (take n streams) =
    sym (take-append_seam (map f is) (map f js)) ∙ (ap (λ (k : ℕ). take k (map f is ++ map f js)) long ∙ (ap (take n) split ∙ take-map Some n streams)) in
    let back : map f js ≡ map Some (drop n streams) =
    sym (drop-append_seam (map f is) (map f js)) ∙ (ap (λ (k : ℕ). drop k (map f is ++ map f js)) long ∙ (ap (drop n) split ∙ drop-map Some n streams)) in
    let a = first xs outputs (take n streams) (record { world = has.world; is = has.is; outputs_are = has.outputs_are; each = front }) in
    let b = then_ xs outputs (drop n streams) (record { world = has.world; is = has.is; outputs_are = has.outputs_are; each = back }) in
    ap₂ (λ (k l : List Bool). k ++ l) a b ∙ (sym (map-append (λ (s : Stream). has_room program && is_signed s) (take n streams) (drop n streams)) ∙ ap (kinds_of program) (take-append-drop n streams))

pub kinds-none : (program : Program) → HaveKinds program [] []
kinds-none program xs outputs [] has = refl
kinds-none program xs outputs (s ∷ ss) has = absurd (let no : 0 ≡ length (map Some (s ∷ ss)) = ap length has.each in omega (arith, no))

-- ---- the last operands of flat equations
pub lawful-last : (es : List EquationShape) (os : List Operand) (n : ℕ) → IsFlat es os → AreLawful es (drop n os)
lawful-last es os n flat = record {
  given = (and_parts _ _ (sym (list_all-append (is_lawful_output (length es)) (take n os) (drop n os)) ∙ (ap (list_all (is_lawful_output (length es))) (take-append-drop n os) ∙ flat.given))).1;
  outside = λ rec i depends other.
      (or_parts _ _ (sym (list_any-append (reads_equation i) (take n os) (drop n os)) ∙ (ap (list_any (reads_equation i)) (take-append-drop n os) ∙ (flat.apart rec i depends other).outside))).1;
}

-- further operands
pub flat-more : (es : List EquationShape) (os qs : List Operand) → IsFlat es os → AreLawful es qs → IsFlat es (os ++ qs)
flat-more es os qs flat more =
    let all = lawful-more es os qs (record { given = flat.given; outside = λ rec i depends other. (flat.apart rec i depends other).outside }) more in
    record {
      few = flat.few;
      input = flat.input;
      output = omega (arith, flat.output, length-append os qs);
      args = flat.args;
      kinds = flat.kinds;
      numbers = flat.numbers;
      widths = flat.widths;
      ends = flat.ends;
      constants = flat.constants;
      operands = flat.operands;
      given = all.given;
      bodies = flat.bodies;
      apart = λ rec i depends other. record { later = (flat.apart rec i depends other).later; outside = all.outside rec i depends other };
    }

-- ---- a program with the same items
pub equations-as : (p q : Program) → p.items.items ≡ q.items.items → (equations_of p).equations ≡ (equations_of q).equations
equations-as p q same = ap made_of same

pub streams-as : (p q : Program) → p.items.items ≡ q.items.items → (xs : List (List ℕ)) (is : List Instance) (os ss : List Stream) → HasStreams p xs is os ss → HasStreams q xs is os ss
streams-as p q same xs is os ss has = record {
  world = has.world;
  is = ap (λ (l : List Item). meant.items_change xs 0 l meant.start) (sym same) ∙ has.is;
  outputs_are = has.outputs_are;
  each = has.each;
}

match-as : (p q : Program) → p.items.items ≡ q.items.items → (xs : List (List ℕ)) (os : List Operand) (ss : List Stream) → Match p xs os ss → Match q xs os ss
match-as p q same xs os ss match = record {
  wide = λ widths are. match.wide widths (subst (λ (es : List EquationShape). AreWidths es widths) (sym (equations-as p q same)) are);
  lists = λ widths are samples.
      subst (λ (es : List EquationShape). AllZip (IsListOf es widths xs) os ss) (equations-as p q same)
      (match.lists widths (subst (λ (es : List EquationShape). AreWidths es widths) (sym (equations-as p q same)) are)
      (λ n sample there. subst (λ (l : List Item). IsRow (widths_of_inputs l) sample) (sym same) (samples n sample there)));
}

-- what an instance stands for where the equations of items end
abbrev operand_in : List Item → Instance → Operand
operand_in items i = operand_standing ((items_change 0 items start).progress.streams i.name i.index)

pub given-as : (p q : Program) → p.items.items ≡ q.items.items → (is : List Instance) (os : List Operand) → AreGiven p is os → AreGiven q is os
given-as p q same is os given = record {
  are = given.are ∙ ap (λ (l : List Item). map (operand_in l) is) same;
  lawful = subst (λ (es : List EquationShape). AreLawful es os) (equations-as p q same) given.lawful;
  streams = λ xs.
      let one = given.streams xs in
      record {
        outputs = one.outputs;
        streams = one.streams;
        has = streams-as p q same xs is one.outputs one.streams one.has;
        match = match-as p q same xs os one.streams one.match;
      };
}

pub kinds-as : (p q : Program) → p.items.items ≡ q.items.items → (is : List Instance) (ks : List Bool) → HaveKinds p is ks → HaveKinds q is ks
kinds-as p q same is ks kinds xs outputs streams has =
    kinds xs outputs streams (streams-as q p (sym same) xs is outputs streams has)
    ∙ ap (λ (es : List EquationShape). map (λ s. nat_le (length es + 2) 16384 && is_signed s) streams) (equations-as p q same)
