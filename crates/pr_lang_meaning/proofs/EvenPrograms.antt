-- What a program means for the first samples is settled by them, and the forms of its streams by no sample at all.
use Rattle.std.proofs.Common.{◌≡◌, ℕ, zero, suc, ◌+◌, ◌<◌, ◌≤◌, List, [], ◌∷◌, ◌++◌, map, length, take, get_or, bytes_eq, Option, Some, None, option_map, is_some, codes, refl, sym, ◌∙◌, ap, subst, arith, length-append}
use Rattle.std.proofs.lemmas.List.Elements.{AllZip-push}
use Rattle.std.specs.List.{AllZip}
use Rattle.std.specs.Option.{option_and_then, unwrap_or}
use Rattle.std.specs.Result.{result_ok}
use Rattle.std.proofs.lemmas.List.{get_or_append_left, map-append, length-map, same_lists}
use Rattle.std.proofs.lemmas.List.FromFn.{length-map-range_with_len, take-map-range_with_len, get_or-map-range_with_len}
use Rattle.pr_lang.specs.declared.trees.Expr.{Expr}
use Rattle.pr_lang.specs.declared.trees.Stmt.{Stmt}
use Rattle.pr_lang.specs.declared.trees.Param.{Param}
use Rattle.pr_lang.specs.declared.trees.Item.{Item}
use Rattle.pr_lang.specs.declared.trees.Item.TheVariants as item
use Rattle.pr_lang.specs.declared.trees.Program.{Program}
use Rattle.pr_scope_names.specs.declared.names.Static.TheVariants as static
use Rattle.pr_scope_names.specs.Constants.{constant_of}
use Rattle.pr_flat.specs.Forms.{Stream}
use Rattle.pr_flat.specs.Facts.{is_width}
use Rattle.pr_lang_meaning.specs.Streams.{Streams, no_streams, sources, with_stream, assigned, form_of}
use Rattle.pr_lang_meaning.specs.Expressions.{Visible, meaning}
use Rattle.pr_lang_meaning.specs.Statements.{change_of, changes_of}
use Rattle.pr_lang_meaning.specs.Programs.{passed, with_arguments, function_of, signed_function, at_first, World, start, column, input_stream, with_input, with_output, with_static, entries_of, item_change, items_change, streams_of, rows_of, out, has_widths}
use Rattle.pr_lang_meaning.proofs.Pairs.{Both, both-and_then, both-map, same-map, both-is_some, both-cond, some-choice, each-map}
use Rattle.pr_lang_meaning.proofs.Agreeing.{Agree, FirstBelow, SecondBelow, agree-first, at-first, First, AgreeStreams, agree-fitted, both-assigned, same-forms}
use Rattle.pr_lang_meaning.proofs.EvenExpressions.{IsEvenFunction, AreEven, agree-signed}
use Rattle.pr_lang_meaning.proofs.EvenStatements.{agree-with_stream, both-value, even-change, even-changes}

-- ---- functions
first-holds : (p m : ℕ) → FirstBelow (First p) m → p ≤ m
first-holds zero m low = omega arith
first-holds (suc q) m low = omega (arith, low q q (refl, omega arith))

second-holds : (p k : ℕ) → SecondBelow (First p) k → p ≤ k
second-holds zero k low = omega arith
second-holds (suc q) k low = omega (arith, low q q (refl, omega arith))

agree-passed : (P : ℕ → ℕ → Type 0) (width : Option ℕ) (s t : Stream) → Agree P s t → Agree P (passed width s) (passed width t)
agree-passed P None s t are = are
agree-passed P (Some w) s t are = agree-fitted P w s t are

pub even-arguments : (P : ℕ → ℕ → Type 0) (ps : List Param) (ss ts : List Stream) (a b : Streams) → AllZip (Agree P) ss ts → AgreeStreams P a b → Both (AgreeStreams P) (with_arguments ps ss a) (with_arguments ps ts b)
even-arguments P [] [] [] a b args are = are
even-arguments P [] [] (t ∷ ts) a b args are = absurd args
even-arguments P [] (s ∷ ss) [] a b args are = absurd args
even-arguments P [] (s ∷ ss) (t ∷ ts) a b args are = tt
even-arguments P (p ∷ ps) [] [] a b args are = tt
even-arguments P (p ∷ ps) [] (t ∷ ts) a b args are = absurd args
even-arguments P (p ∷ ps) (s ∷ ss) [] a b args are = absurd args
even-arguments P (p ∷ ps) (s ∷ ss) (t ∷ ts) a b args are = even-arguments P ps ss ts (with_stream p.name None (passed p.width s) a) (with_stream p.name None (passed p.width t) b) args.1 (agree-with_stream P p.name None (passed p.width s) (passed p.width t) a b (agree-passed P p.width s t args.0) are)

pub even-function : (p : ℕ) (params : List Param) (width : Option ℕ) (body : List Stmt) (result : Expr) (v : Visible) → AreEven (First p) v → IsEvenFunction (First p) (function_of params width body result v)
even-function p params width body result v even m k low high ss ts args =
    let left = first-holds p m low in
    let right = second-holds p k high in
    both-and_then (AgreeStreams (First p)) (Agree (First p)) (λ env. option_and_then (λ locals. assigned width (meaning result v m (sources m locals))) (changes_of body v m env)) (λ env. option_and_then (λ locals. assigned width (meaning result v k (sources k locals))) (changes_of body v k env)) (with_arguments params ss no_streams) (with_arguments params ts no_streams) (even-arguments (First p) params ss ts no_streams no_streams args (λ name place. tt)) (λ a b are.
    both-and_then (AgreeStreams (First p)) (Agree (First p)) (λ locals. assigned width (meaning result v m (sources m locals))) (λ locals. assigned width (meaning result v k (sources k locals))) (changes_of body v m a) (changes_of body v k b) (even-changes p body v even m k left right a b are) (λ c d is.
    both-assigned (First p) width (meaning result v m (sources m c)) (meaning result v k (sources k d)) (both-value p result v even m k left right c d is)))

pub even-signed : (P : ℕ → ℕ → Type 0) → IsEvenFunction P signed_function
even-signed P m k low high [] [] are = tt
even-signed P m k low high [] (t ∷ ts) are = absurd are
even-signed P m k low high (s ∷ ss) [] are = absurd are
even-signed P m k low high (s ∷ []) (t ∷ []) are = agree-signed P s t are.0
even-signed P m k low high (s ∷ []) (t ∷ u ∷ ts) are = absurd are.1
even-signed P m k low high (s ∷ r ∷ ss) (t ∷ []) are = absurd are.1
even-signed P m k low high (s ∷ r ∷ ss) (t ∷ u ∷ ts) are = tt

even-at_first : (P : ℕ → ℕ → Type 0) → AreEven P at_first
even-at_first P name = some-choice (IsEvenFunction P) (Some signed_function) None (bytes_eq (codes "signed") name) (even-signed P) tt

-- ---- items
-- two worlds in which the same is visible, and whose streams agree at the first places
record AgreeWorlds (p : ℕ) (w x : World) : Type 0 where
  visible : w.visible ≡ x.visible
  even : AreEven (First p) w.visible
  streams : AgreeStreams (First p) w.streams x.streams
  inputs : w.inputs ≡ x.inputs
  outputs : AllZip (Agree (First p)) w.outputs x.outputs

-- samples whose first p rows agree
record AgreeSamples (p : ℕ) (xs ys : List (List ℕ)) : Type 0 where
  first : p ≤ length xs
  second : p ≤ length ys
  columns : (i n : ℕ) → n < p → get_or (column i xs) n 0 ≡ get_or (column i ys) n 0

abbrev world_of : Visible → Streams → ℕ → List Stream → World
world_of v a n os = record { visible = v; streams = a; inputs = n; outputs = os }

even-item : (p : ℕ) (xs ys : List (List ℕ)) → AgreeSamples p xs ys → (at : ℕ) (i : Item) (v : Visible) → AreEven (First p) v → (n : ℕ) (a b : Streams) → AgreeStreams (First p) a b → (os ps : List Stream) → AllZip (Agree (First p)) os ps → Both (AgreeWorlds p) (item_change xs at i (world_of v a n os)) (item_change ys at i (world_of v b n ps))
even-item p xs ys same at (item.Input name width) v even n a b are os ps each =
    both-cond (AgreeWorlds p) (with_input name (input_stream width n xs) (world_of v a n os)) (with_input name (input_stream width n ys) (world_of v b n ps)) (is_width width) (is_width width) refl (record {
      visible = refl;
      even = even;
      streams = agree-with_stream (First p) name None (input_stream width n xs) (input_stream width n ys) a b (agree-first p (input_stream width n xs) (input_stream width n ys) refl (same.columns n)) are;
      inputs = refl;
      outputs = each;
    })
even-item p xs ys same at (item.Output name width e) v even n a b are os ps each =
    let s = meaning e v (length xs) (sources (length xs) a) in
    let t = meaning e v (length ys) (sources (length ys) b) in
    both-map (Agree (First p)) (AgreeWorlds p) (with_output name (world_of v a n os)) (with_output name (world_of v b n ps)) (assigned width s) (assigned width t) (both-assigned (First p) width s t (both-value p e v even (length xs) (length ys) same.first same.second a b are)) (λ x y is. record {
      visible = refl;
      even = even;
      streams = agree-with_stream (First p) name None x y a b is are;
      inputs = refl;
      outputs = AllZip-push (Agree (First p)) os ps x y each is;
    })
even-item p xs ys same at (item.Const name value) v even n a b are os ps each = same-map (AgreeWorlds p) (λ c. with_static name (world_of v a n os) (static.Constant c)) (λ c. with_static name (world_of v b n ps) (static.Constant c)) (result_ok (constant_of value v.known)) (λ c. record { visible = refl; even = even; streams = are; inputs = refl; outputs = each })
even-item p xs ys same at (item.Table name values) v even n a b are os ps each = same-map (AgreeWorlds p) (λ c. with_static name (world_of v a n os) (static.Table c)) (λ c. with_static name (world_of v b n ps) (static.Table c)) (entries_of values.items v.known) (λ c. record { visible = refl; even = even; streams = are; inputs = refl; outputs = each })
even-item p xs ys same at (item.Function name params width body result) v even n a b are os ps each = record {
  visible = refl;
  even = λ q. some-choice (IsEvenFunction (First p)) (Some (function_of params.items width body.items result v)) (v.functions q) (bytes_eq name q) (even-function p params.items width body.items result v even) (even q);
  streams = are;
  inputs = refl;
  outputs = each;
}
even-item p xs ys same at (item.Step stmt) v even n a b are os ps each = both-map (AgreeStreams (First p)) (AgreeWorlds p) (λ env. world_of v env n os) (λ env. world_of v env n ps) (change_of stmt v (length xs) a) (change_of stmt v (length ys) b) (even-change p stmt v even (length xs) (length ys) same.first same.second a b are) (λ x y is. record { visible = refl; even = even; streams = is; inputs = refl; outputs = each })

even-items : (p : ℕ) (xs ys : List (List ℕ)) → AgreeSamples p xs ys → (is : List Item) (at : ℕ) (w x : World) → AgreeWorlds p w x → Both (AgreeWorlds p) (items_change xs at is w) (items_change ys at is x)
even-items p xs ys same [] at w x are = are
even-items p xs ys same (i ∷ is) at w x are =
    let alike = even-item p xs ys same at i w.visible are.even w.inputs w.streams x.streams are.streams w.outputs x.outputs are.outputs in
    let seen = subst (λ v. Both (AgreeWorlds p) (item_change xs at i w) (item_change ys at i (world_of v x.streams w.inputs x.outputs))) are.visible alike in
    let here = subst (λ n. Both (AgreeWorlds p) (item_change xs at i w) (item_change ys at i (world_of x.visible x.streams n x.outputs))) are.inputs seen in
    both-and_then (AgreeWorlds p) (AgreeWorlds p) (items_change xs (at + 1) is) (items_change ys (at + 1) is) (item_change xs at i w) (item_change ys at i x) here (even-items p xs ys same is (at + 1))

even-streams_of : (p : ℕ) (xs ys : List (List ℕ)) → AgreeSamples p xs ys → (program : Program) → Both (AllZip (Agree (First p))) (streams_of program xs) (streams_of program ys)
even-streams_of p xs ys same program = both-map (AgreeWorlds p) (AllZip (Agree (First p))) (λ (w : World). w.outputs) (λ (w : World). w.outputs) (items_change xs 0 program.items.items start) (items_change ys 0 program.items.items start) (even-items p xs ys same program.items.items 0 start start (record { visible = refl; even = even-at_first (First p); streams = λ name place. tt; inputs = refl; outputs = tt })) (λ w x is. is.outputs)

-- ---- the laws
pub same-has_widths : (program : Program) (xs : List (List ℕ)) → is_some (streams_of program xs) ≡ has_widths program
same-has_widths program xs = both-is_some (AllZip (Agree (First 0))) (streams_of program xs) (streams_of program []) (even-streams_of 0 xs [] (record { first = omega arith; second = omega arith; columns = λ i n low. absurd (omega arith) }) program)

-- the rows of streams that agree
same-rows_of : (m : ℕ) (ss ts : List Stream) → AllZip (Agree (First m)) ss ts → rows_of m ss ≡ rows_of m ts
same-rows_of m ss ts are = same_lists (rows_of m ss) (rows_of m ts) (length-map-range_with_len (row ss) 0 m ∙ sym (length-map-range_with_len (row ts) 0 m)) (λ n d low.
    let within : n < m = omega (arith, low, length-map-range_with_len (row ss) 0 m) in
    get_or-map-range_with_len (row ss) 0 m n n d within (omega arith)
    ∙ each-map (Agree (First m)) (λ (s : Stream). get_or s.numbers n 0) (λ (s : Stream). get_or s.numbers n 0) (λ s t is. at-first m s t is n within) ss ts are
    ∙ sym (get_or-map-range_with_len (row ts) 0 m n n d within (omega arith))) where
      row : List Stream → ℕ → List ℕ
      row us n = map (λ (s : Stream). get_or s.numbers n 0) us

same-rows : (m : ℕ) (a b : Option (List Stream)) → Both (AllZip (Agree (First m))) a b → rows_of m (unwrap_or a []) ≡ rows_of m (unwrap_or b [])
same-rows m None None are = refl
same-rows m None (Some ts) are = absurd are
same-rows m (Some ss) None are = absurd are
same-rows m (Some ss) (Some ts) are = same-rows_of m ss ts are

-- a column of the first samples
column-append : (xs ys : List (List ℕ)) (i n : ℕ) → n < length xs → get_or (column i xs) n 0 ≡ get_or (column i (xs ++ ys)) n 0
column-append xs ys i n low = sym (ap (λ (zs : List ℕ). get_or zs n 0) (map-append (λ (row : List ℕ). get_or row i 0) xs ys) ∙ get_or_append_left (column i xs) (column i ys) 0 n (omega (arith, low, length-map xs (λ (row : List ℕ). get_or row i 0))))

pub take-out : (program : Program) (xs ys : List (List ℕ)) → take (length xs) (out program (xs ++ ys)) ≡ out program xs
take-out program xs ys =
    let m = length xs in
    let long = unwrap_or (streams_of program (xs ++ ys)) [] in
    let within : m ≤ length (xs ++ ys) = omega (arith, length-append xs ys) in
    take-map-range_with_len (λ n. map (λ (s : Stream). get_or s.numbers n 0) long) 0 (length (xs ++ ys)) m within
    ∙ sym (same-rows m (streams_of program xs) (streams_of program (xs ++ ys)) (even-streams_of m xs (xs ++ ys) (record { first = omega arith; second = within; columns = column-append xs ys }) program))

pub same-forms_of : (program : Program) (xs ys : List (List ℕ)) → option_map (map form_of) (streams_of program xs) ≡ option_map (map form_of) (streams_of program ys)
same-forms_of program xs ys = forms (streams_of program xs) (streams_of program ys) (even-streams_of 0 xs ys (record { first = omega arith; second = omega arith; columns = λ i n low. absurd (omega arith) }) program) where
  forms : (a b : Option (List Stream)) → Both (AllZip (Agree (First 0))) a b → option_map (map form_of) a ≡ option_map (map form_of) b
  forms None None are = refl
  forms None (Some ts) are = absurd are
  forms (Some ss) None are = absurd are
  forms (Some ss) (Some ts) are = ap Some (same-forms (First 0) ss ts are)

pub length-out : (program : Program) (xs : List (List ℕ)) → length (out program xs) ≡ length xs
length-out program xs = length-map-range_with_len (λ n. map (λ (s : Stream). get_or s.numbers n 0) (unwrap_or (streams_of program xs) [])) 0 (length xs)
