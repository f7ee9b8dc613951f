-- What small programs mean, computed. A fold does not compute on a tree that is written out, so each part of a program stands here beside what it comes to.
use Rattle.std.proofs.Common.{◌≡◌, ◌∙◌, ℕ, ◌+◌, ◌-◌, ◌≤◌, List, [], ◌∷◌, map, length, Option, Some, None, option_map, is_some, codes, Vec, Global, Result, Ok, false, refl, ap, ap₂, arith}
use Rattle.std.specs.Global.{Box}
use Rattle.std.specs.Option.{option_and_then, unwrap_or}
use Rattle.std.specs.Result.{result_ok}
use denote.RawPtr.{null_ptr}
use Rattle.pr_lang.specs.declared.trees.BinOp.{BinOp}
use Rattle.pr_lang.specs.declared.trees.BinOp.TheVariants.{Add, Sub, And, Less}
use Rattle.pr_lang.specs.declared.trees.FixedOp.TheVariants as fixed_op
use Rattle.pr_lang.specs.declared.trees.Fixed as fixed_trees
use Rattle.pr_lang.specs.declared.trees.Fixed.{Fixed}
use Rattle.pr_lang.specs.declared.trees.Fixed.TheVariants as fixed
use Rattle.pr_lang.specs.declared.trees.Fixed.TheOpen.{Fixed-F}
use Rattle.pr_lang.specs.declared.trees.Fixed.TheFolds.{fold-roll-Fixed}
use Rattle.pr_lang.specs.declared.trees.Ref.{Ref}
use Rattle.pr_lang.specs.declared.trees.Expr as expressions
use Rattle.pr_lang.specs.declared.trees.Expr.{Expr}
use Rattle.pr_lang.specs.declared.trees.Expr.TheVariants as expr
use Rattle.pr_lang.specs.declared.trees.Expr.TheOpen.{Expr-F}
use Rattle.pr_lang.specs.declared.trees.Expr.TheFolds.{fold-roll-Expr}
use Rattle.pr_lang.specs.declared.trees.Stmt as statements
use Rattle.pr_lang.specs.declared.trees.Stmt.{Stmt}
use Rattle.pr_lang.specs.declared.trees.Stmt.TheVariants as stmt
use Rattle.pr_lang.specs.declared.trees.Stmt.TheOpen.{Stmt-F}
use Rattle.pr_lang.specs.declared.trees.Stmt.TheFolds.{fold-roll-Stmt}
use Rattle.pr_lang.specs.declared.trees.Param.{Param}
use Rattle.pr_lang.specs.declared.trees.Item.{Item}
use Rattle.pr_lang.specs.declared.trees.Item.TheVariants as item
use Rattle.pr_scope_names.specs.declared.rules.Offence.{Offence}
use Rattle.pr_scope_names.specs.Names.{Known, built_in}
use Rattle.pr_scope_names.specs.Outcomes.{optional}
use Rattle.pr_scope_names.specs.Constants.{fixed_step, constant_of, place_of}
use Rattle.pr_scope_names.specs.Amounts.{amount_step}
use Rattle.pr_flat.specs.Forms.{value, residue, number_width}
use Rattle.pr_lang_meaning.specs.Streams.{no_streams, sources, with_bound, with_stream, assigned}
use Rattle.pr_lang_meaning.specs.Expressions.{Function, Visible, Meaning, Sense, referred, sense_step, sense_of}
use Rattle.pr_lang_meaning.specs.Statements.{Change, Body, so_far, width_of, recurrence, in_turn, with_known, turns, stmt_step, change_of}
use Rattle.pr_lang_meaning.specs.Programs.{with_arguments, World, start, with_output, function_at, with_function, item_change, items_change, rows_of, out, has_widths}

vec : {X : Type 0} → Global → (xs : List X) → length xs ≤ 9 → Vec X Global
vec heap xs few = record { ptr = null_ptr; len = length xs; cap = length xs; alloc = heap; items = xs; ok = (refl, omega arith); small = omega (arith, few) }

box : {X : Type 0} → Global → X → Box X
box heap x = record { ptr = null_ptr; alloc = heap; value = x }

-- ---- constant expressions, targets and expressions, beside what they come to
record Number : Type 0 where
  tree : Fixed
  reads : Known → Result ℕ Offence
  is : constant_of tree ≡ reads

number : ℕ → Number
unfolding fixed_trees.roll-Fixed denote.Hole.Carrier.roll
number n = record { tree = fixed.Number n; reads = λ known. Ok n; is = fold-roll-Fixed (Known → Result ℕ Offence) fixed_step (Fixed-F.Number n) }

index : List ℕ → Number
unfolding fixed_trees.roll-Fixed denote.Hole.Carrier.roll
index name = record { tree = fixed.Refer name None; reads = fixed_step (Fixed-F.Refer name None); is = fold-roll-Fixed (Known → Result ℕ Offence) fixed_step (Fixed-F.Refer name None) }

less_one : Global → Number → Number
unfolding box number fixed_trees.roll-Fixed denote.Hole.Carrier.roll
less_one heap n = record {
  tree = fixed.Binary fixed_op.Sub (box heap n.tree) (box heap (number 1).tree);
  reads = fixed_step (Fixed-F.Binary fixed_op.Sub (box heap n.reads) (box heap (number 1).reads));
  is = fold-roll-Fixed (Known → Result ℕ Offence) fixed_step (Fixed-F.Binary fixed_op.Sub (box heap n.tree) (box heap (number 1).tree)) ∙ ap₂ (λ (x y : Known → Result ℕ Offence). fixed_step (Fixed-F.Binary fixed_op.Sub (box heap x) (box heap y))) n.is (number 1).is;
}

record Target : Type 0 where
  ref : Ref
  place : Known → Result (Option ℕ) Offence
  is : place_of ref ≡ place

alone : List ℕ → Target
alone name = record { ref = record { name = name; index = None }; place = λ known. Ok None; is = refl }

at_index : List ℕ → Number → Target
at_index name n = record { ref = record { name = name; index = Some n.tree }; place = λ known. optional (Some (n.reads known)); is = λ i known. optional (Some (n.is i known)) }

record Term : Type 0 where
  tree : Expr
  sense : Sense
  is : sense_of tree ≡ sense

literal : ℕ → Term
unfolding expressions.roll-Expr denote.Hole.Carrier.roll
literal n = record { tree = expr.Number n; sense = sense_step (Expr-F.Number n); is = fold-roll-Expr Sense sense_step (Expr-F.Number n) }

reading : Target → (Known → Result (Option ℕ) Offence) → Sense
reading t place = record {
  meaning = λ v m env. option_and_then (λ p. referred (v.known t.ref.name) p m (env.now t.ref.name p)) (result_ok (place v.known));
  amount = amount_step (λ (s : Sense). s.amount) (Expr-F.Refer t.ref);
}

now : Target → Term
unfolding reading expressions.roll-Expr denote.Hole.Carrier.roll
now t = record { tree = expr.Refer t.ref; sense = reading t t.place; is = fold-roll-Expr Sense sense_step (Expr-F.Refer t.ref) ∙ ap (reading t) t.is }

looking_back : Target → (Known → Result (Option ℕ) Offence) → (Known → Result ℕ Offence) → Sense
looking_back t place k = record {
  meaning = λ v m env. option_and_then (λ p. option_and_then (env.past t.ref.name p) (result_ok (k v.known))) (result_ok (place v.known));
  amount = λ known. None;
}

earlier : Target → Number → Term
unfolding looking_back expressions.roll-Expr denote.Hole.Carrier.roll
earlier t k = record { tree = expr.Delay t.ref k.tree; sense = looking_back t t.place k.reads; is = fold-roll-Expr Sense sense_step (Expr-F.Delay t.ref k.tree) ∙ ap₂ (looking_back t) t.is k.is }

on : Global → BinOp → Term → Term → Term
unfolding box expressions.roll-Expr denote.Hole.Carrier.roll
on heap op a b = record {
  tree = expr.Binary op (box heap a.tree) (box heap b.tree);
  sense = sense_step (Expr-F.Binary op (box heap a.sense) (box heap b.sense));
  is = fold-roll-Expr Sense sense_step (Expr-F.Binary op (box heap a.tree) (box heap b.tree)) ∙ ap₂ (λ (x y : Sense). sense_step (Expr-F.Binary op (box heap x) (box heap y))) a.is b.is;
}

call : Global → List ℕ → Term → Term
unfolding vec expressions.roll-Expr denote.Hole.Carrier.roll
call heap name a = record {
  tree = expr.Call name (vec heap (a.tree ∷ []) (omega arith));
  sense = sense_step (Expr-F.Call name (vec heap (a.sense ∷ []) (omega arith)));
  is = fold-roll-Expr Sense sense_step (Expr-F.Call name (vec heap (a.tree ∷ []) (omega arith))) ∙ ap (λ (x : Sense). sense_step (Expr-F.Call name (vec heap (x ∷ []) (omega arith)))) a.is;
}

-- ---- statements
record Deed : Type 0 where
  tree : Stmt
  change : Change
  is : change_of tree ≡ change

letting : Target → Option ℕ → (Known → Result (Option ℕ) Offence) → Meaning → Change
letting t width place f v m env = option_and_then (λ p. option_map (λ s. with_stream t.ref.name p s env) (assigned width (f v m (sources m env)))) (result_ok (place v.known))

assign : Target → Option ℕ → Term → Deed
unfolding letting statements.roll-Stmt denote.Hole.Carrier.roll
assign t width e = record {
  tree = stmt.Let t.ref width e.tree;
  change = letting t width t.place e.sense.meaning;
  is = fold-roll-Stmt Change stmt_step (Stmt-F.Let t.ref width e.tree) ∙ ap₂ (λ (p : Known → Result (Option ℕ) Offence) (s : Sense). letting t width p s.meaning) t.is e.is;
}

recurring_with : List ℕ → Option ℕ → ℕ → Meaning → Change
recurring_with name width c f v m env =
    let body : Body = λ w numbers. f v m (sources m (with_bound name None (so_far m c w numbers) env)) in
    option_map (λ w. with_bound name None (recurrence m c body w) env) (width_of width c body)

recur : List ℕ → Option ℕ → ℕ → Term → Deed
unfolding number recurring_with fixed_trees.roll-Fixed statements.roll-Stmt denote.Hole.Carrier.roll
recur name width c e = record {
  tree = stmt.Rec (record { name = name; index = None }) width (number c).tree e.tree;
  change = recurring_with name width c e.sense.meaning;
  is = fold-roll-Stmt Change stmt_step (Stmt-F.Rec (record { name = name; index = None }) width (number c).tree e.tree) ∙ λ i v m env. option_and_then (λ c. recurring_with name width c (e.is i).meaning v m env) (result_ok ((number c).is i v.known));
}

looping : List ℕ → ℕ → ℕ → Change → Change
looping name low high body v m env = turns (high - low) low (λ at. in_turn (body ∷ []) (with_known name at v) m) env

repeat : Global → List ℕ → ℕ → ℕ → Deed → Deed
unfolding vec number looping fixed_trees.roll-Fixed statements.roll-Stmt denote.Hole.Carrier.roll
repeat heap name low high body = record {
  tree = stmt.For name (number low).tree (number high).tree (vec heap (body.tree ∷ []) (omega arith));
  change = looping name low high body.change;
  is = fold-roll-Stmt Change stmt_step (Stmt-F.For name (number low).tree (number high).tree (vec heap (body.tree ∷ []) (omega arith))) ∙ λ i v m env. option_and_then (λ from. option_and_then (λ to. looping name from to (body.is i) v m env) (result_ok ((number high).is i v.known))) (result_ok ((number low).is i v.known));
}

-- ---- items and programs
record Part : Type 0 where
  tree : Item
  change : List (List ℕ) → ℕ → World → Option World
  is : (λ (xs : List (List ℕ)) (at : ℕ) (w : World). item_change xs at tree w) ≡ change

takes : List ℕ → ℕ → Part
takes name width = record { tree = item.Input name width; change = λ xs at w. item_change xs at (item.Input name width) w; is = refl }

gives : List ℕ → Option ℕ → Term → Part
gives name width e = record {
  tree = item.Output name width e.tree;
  change = λ xs at w. option_map (with_output name w) (assigned width (e.sense.meaning w.visible (length xs) (sources (length xs) w.streams)));
  is = λ i xs at w. option_map (with_output name w) (assigned width ((e.is i).meaning w.visible (length xs) (sources (length xs) w.streams)));
}

does : Deed → Part
does d = record {
  tree = item.Step d.tree;
  change = λ xs at w. option_map (λ env. record w { streams = env }) (d.change w.visible (length xs) w.streams);
  is = λ i xs at w. option_map (λ env. record w { streams = env }) (d.is i w.visible (length xs) w.streams);
}

-- a function of one parameter, without statements
defines : Global → List ℕ → List ℕ → Option ℕ → Term → Part
unfolding vec
defines heap name param width e = record {
  tree = item.Function name (vec heap (record { name = param; width = width } ∷ []) (omega arith)) None (vec heap [] (omega arith)) e.tree;
  change = λ xs at w. Some (with_function name (function_at at params) (made e.sense w.visible) w);
  is = λ i xs at w. Some (with_function name (function_at at params) (made (e.is i) w.visible) w);
} where
  params : List Param
  params = record { name = param; width = width } ∷ []

  made : Sense → Visible → Function
  made s v m args = option_and_then (λ env. assigned None (s.meaning v m (sources m env))) (with_arguments params args no_streams)

in_order : List (List ℕ) → ℕ → List Part → World → Option World
in_order xs at [] w = Some w
in_order xs at (p ∷ ps) w = option_and_then (in_order xs (at + 1) ps) (p.change xs at w)

tree_of : Part → Item
tree_of p = p.tree

all-in-order : (xs : List (List ℕ)) (at : ℕ) (ps : List Part) → items_change xs at (map tree_of ps) ≡ in_order xs at ps
unfolding tree_of in_order
all-in-order xs at [] = refl
all-in-order xs at (p ∷ ps) = λ i w. option_and_then (all-in-order xs (at + 1) ps i) (p.is i xs at w)

-- what the definitions say of the program that these parts make
rows : Global → (ps : List Part) → length (map tree_of ps) ≤ 9 → List (List ℕ) → List (List ℕ)
rows heap ps few xs = out (record { items = vec heap (map tree_of ps) few }) xs

come-to : List Part → List (List ℕ) → List (List ℕ)
come-to ps xs = rows_of (length xs) (unwrap_or (option_map (λ (w : World). w.outputs) (in_order xs 0 ps start)) [])

computed : (heap : Global) (ps : List Part) (few : length (map tree_of ps) ≤ 9) (xs : List (List ℕ)) → rows heap ps few xs ≡ come-to ps xs
unfolding rows come-to vec
computed heap ps few xs = ap (λ (f : World → Option World). rows_of (length xs) (unwrap_or (option_map (λ (w : World). w.outputs) (f start)) [])) (all-in-order xs 0 ps)

x : Target
x = alone (codes "x")

-- input x:8; output y:10 = x + x@1 + x@2 + x@3;
moving_sum_parts : Global → List Part
moving_sum_parts heap = takes (codes "x") 8 ∷ gives (codes "y") (Some 10) (on heap Add (on heap Add (on heap Add (now x) (earlier x (number 1))) (earlier x (number 2))) (earlier x (number 3))) ∷ []

moving_sum_few : (heap : Global) → length (map tree_of (moving_sum_parts heap)) ≤ 9
unfolding moving_sum_parts
moving_sum_few heap = omega arith

moving_sum_computed : (heap : Global) → come-to (moving_sum_parts heap) ((1 ∷ []) ∷ (2 ∷ []) ∷ (3 ∷ []) ∷ (4 ∷ []) ∷ (5 ∷ []) ∷ []) ≡ (1 ∷ []) ∷ (3 ∷ []) ∷ (6 ∷ []) ∷ (10 ∷ []) ∷ (14 ∷ []) ∷ []
unfolding x come-to in_order takes gives does assign recur repeat letting recurring_with looping literal now earlier on call reading looking_back alone at_index index number less_one defines vec box tree_of built_in value residue number_width moving_sum_parts
moving_sum_computed heap = refl

moving_sum : (heap : Global) → rows heap (moving_sum_parts heap) (moving_sum_few heap) ((1 ∷ []) ∷ (2 ∷ []) ∷ (3 ∷ []) ∷ (4 ∷ []) ∷ (5 ∷ []) ∷ []) ≡ (1 ∷ []) ∷ (3 ∷ []) ∷ (6 ∷ []) ∷ (10 ∷ []) ∷ (14 ∷ []) ∷ []
moving_sum heap = computed heap (moving_sum_parts heap) (moving_sum_few heap) ((1 ∷ []) ∷ (2 ∷ []) ∷ (3 ∷ []) ∷ (4 ∷ []) ∷ (5 ∷ []) ∷ []) ∙ moving_sum_computed heap

-- input a:4; input b:4; output y = a - b; output z = a < b;
difference_parts : Global → List Part
difference_parts heap = takes (codes "a") 4 ∷ takes (codes "b") 4 ∷ gives (codes "y") None (on heap Sub (now (alone (codes "a"))) (now (alone (codes "b")))) ∷ gives (codes "z") None (on heap Less (now (alone (codes "a"))) (now (alone (codes "b")))) ∷ []

difference_few : (heap : Global) → length (map tree_of (difference_parts heap)) ≤ 9
unfolding difference_parts
difference_few heap = omega arith

difference_computed : (heap : Global) → come-to (difference_parts heap) ((0 ∷ 1 ∷ []) ∷ []) ≡ (15 ∷ 1 ∷ []) ∷ []
unfolding x come-to in_order takes gives does assign recur repeat letting recurring_with looping literal now earlier on call reading looking_back alone at_index index number less_one defines vec box tree_of built_in value residue number_width difference_parts
difference_computed heap = refl

difference : (heap : Global) → rows heap (difference_parts heap) (difference_few heap) ((0 ∷ 1 ∷ []) ∷ []) ≡ (15 ∷ 1 ∷ []) ∷ []
difference heap = computed heap (difference_parts heap) (difference_few heap) ((0 ∷ 1 ∷ []) ∷ []) ∙ difference_computed heap

-- input a:4; output y:6 = signed(a) - 1; the values -8 and 7 have -9 and 6
signed_difference_parts : Global → List Part
signed_difference_parts heap = takes (codes "a") 4 ∷ gives (codes "y") (Some 6) (on heap Sub (call heap (codes "signed") (now (alone (codes "a")))) (literal 1)) ∷ []

signed_difference_few : (heap : Global) → length (map tree_of (signed_difference_parts heap)) ≤ 9
unfolding signed_difference_parts
signed_difference_few heap = omega arith

signed_difference_computed : (heap : Global) → come-to (signed_difference_parts heap) ((8 ∷ []) ∷ (7 ∷ []) ∷ []) ≡ (55 ∷ []) ∷ (6 ∷ []) ∷ []
unfolding x come-to in_order takes gives does assign recur repeat letting recurring_with looping literal now earlier on call reading looking_back alone at_index index number less_one defines vec box tree_of built_in value residue number_width signed_difference_parts
signed_difference_computed heap = refl

signed_difference : (heap : Global) → rows heap (signed_difference_parts heap) (signed_difference_few heap) ((8 ∷ []) ∷ (7 ∷ []) ∷ []) ≡ (55 ∷ []) ∷ (6 ∷ []) ∷ []
signed_difference heap = computed heap (signed_difference_parts heap) (signed_difference_few heap) ((8 ∷ []) ∷ (7 ∷ []) ∷ []) ∙ signed_difference_computed heap

-- input x:8; rec s:8 = 250 by s@1 + x; output y = s;
running_sum_parts : Global → List Part
running_sum_parts heap = takes (codes "x") 8 ∷ does (recur (codes "s") (Some 8) 250 (on heap Add (earlier (alone (codes "s")) (number 1)) (now x))) ∷ gives (codes "y") None (now (alone (codes "s"))) ∷ []

running_sum_few : (heap : Global) → length (map tree_of (running_sum_parts heap)) ≤ 9
unfolding running_sum_parts
running_sum_few heap = omega arith

running_sum_computed : (heap : Global) → come-to (running_sum_parts heap) ((5 ∷ []) ∷ (1 ∷ []) ∷ (1 ∷ []) ∷ []) ≡ (255 ∷ []) ∷ (0 ∷ []) ∷ (1 ∷ []) ∷ []
unfolding x come-to in_order takes gives does assign recur repeat letting recurring_with looping literal now earlier on call reading looking_back alone at_index index number less_one defines vec box tree_of built_in value residue number_width running_sum_parts
running_sum_computed heap = refl

running_sum : (heap : Global) → rows heap (running_sum_parts heap) (running_sum_few heap) ((5 ∷ []) ∷ (1 ∷ []) ∷ (1 ∷ []) ∷ []) ≡ (255 ∷ []) ∷ (0 ∷ []) ∷ (1 ∷ []) ∷ []
running_sum heap = computed heap (running_sum_parts heap) (running_sum_few heap) ((5 ∷ []) ∷ (1 ∷ []) ∷ (1 ∷ []) ∷ []) ∙ running_sum_computed heap

-- input x:8; rec s = 300 by s@1 & x; output y = s - 300; 9 bits hold 300, so the differences are those modulo 512
least_width_parts : Global → List Part
least_width_parts heap = takes (codes "x") 8 ∷ does (recur (codes "s") None 300 (on heap And (earlier (alone (codes "s")) (number 1)) (now x))) ∷ gives (codes "y") None (on heap Sub (now (alone (codes "s"))) (literal 300)) ∷ []

least_width_few : (heap : Global) → length (map tree_of (least_width_parts heap)) ≤ 9
unfolding least_width_parts
least_width_few heap = omega arith

least_width_computed : (heap : Global) → come-to (least_width_parts heap) ((255 ∷ []) ∷ (15 ∷ []) ∷ []) ≡ (256 ∷ []) ∷ (224 ∷ []) ∷ []
unfolding x come-to in_order takes gives does assign recur repeat letting recurring_with looping literal now earlier on call reading looking_back alone at_index index number less_one defines vec box tree_of built_in value residue number_width least_width_parts
least_width_computed heap = refl

least_width : (heap : Global) → rows heap (least_width_parts heap) (least_width_few heap) ((255 ∷ []) ∷ (15 ∷ []) ∷ []) ≡ (256 ∷ []) ∷ (224 ∷ []) ∷ []
least_width heap = computed heap (least_width_parts heap) (least_width_few heap) ((255 ∷ []) ∷ (15 ∷ []) ∷ []) ∙ least_width_computed heap

-- input x:8; fn f(a:4) { return a + 1; } output y = f(x); of 31 the parameter has 15
declared_parameter_parts : Global → List Part
declared_parameter_parts heap = takes (codes "x") 8 ∷ defines heap (codes "f") (codes "a") (Some 4) (on heap Add (now (alone (codes "a"))) (literal 1)) ∷ gives (codes "y") None (call heap (codes "f") (now x)) ∷ []

declared_parameter_few : (heap : Global) → length (map tree_of (declared_parameter_parts heap)) ≤ 9
unfolding declared_parameter_parts
declared_parameter_few heap = omega arith

declared_parameter_computed : (heap : Global) → come-to (declared_parameter_parts heap) ((31 ∷ []) ∷ (3 ∷ []) ∷ []) ≡ (16 ∷ []) ∷ (4 ∷ []) ∷ []
unfolding x come-to in_order takes gives does assign recur repeat letting recurring_with looping literal now earlier on call reading looking_back alone at_index index number less_one defines vec box tree_of built_in value residue number_width declared_parameter_parts
declared_parameter_computed heap = refl

declared_parameter : (heap : Global) → rows heap (declared_parameter_parts heap) (declared_parameter_few heap) ((31 ∷ []) ∷ (3 ∷ []) ∷ []) ≡ (16 ∷ []) ∷ (4 ∷ []) ∷ []
declared_parameter heap = computed heap (declared_parameter_parts heap) (declared_parameter_few heap) ((31 ∷ []) ∷ (3 ∷ []) ∷ []) ∙ declared_parameter_computed heap

-- input x:8; let t[0] = x; for i in 1..3 { let t[i] = t[i-1] + x; } output y = t[2];
unrolled_parts : Global → List Part
unrolled_parts heap = takes (codes "x") 8 ∷ does (assign (at_index (codes "t") (number 0)) None (now x)) ∷ does (repeat heap (codes "i") 1 3 (assign (at_index (codes "t") (index (codes "i"))) None (on heap Add (now (at_index (codes "t") (less_one heap (index (codes "i"))))) (now x)))) ∷ gives (codes "y") None (now (at_index (codes "t") (number 2))) ∷ []

unrolled_few : (heap : Global) → length (map tree_of (unrolled_parts heap)) ≤ 9
unfolding unrolled_parts
unrolled_few heap = omega arith

unrolled_computed : (heap : Global) → come-to (unrolled_parts heap) ((5 ∷ []) ∷ (200 ∷ []) ∷ []) ≡ (15 ∷ []) ∷ (600 ∷ []) ∷ []
unfolding x come-to in_order takes gives does assign recur repeat letting recurring_with looping literal now earlier on call reading looking_back alone at_index index number less_one defines vec box tree_of built_in value residue number_width unrolled_parts
unrolled_computed heap = refl

unrolled : (heap : Global) → rows heap (unrolled_parts heap) (unrolled_few heap) ((5 ∷ []) ∷ (200 ∷ []) ∷ []) ≡ (15 ∷ []) ∷ (600 ∷ []) ∷ []
unrolled heap = computed heap (unrolled_parts heap) (unrolled_few heap) ((5 ∷ []) ∷ (200 ∷ []) ∷ []) ∙ unrolled_computed heap

-- input x:8; rec s = 0 by s@1 + x; output y = s; each width needs one more
growing_sum_parts : Global → List Part
growing_sum_parts heap = takes (codes "x") 8 ∷ does (recur (codes "s") None 0 (on heap Add (earlier (alone (codes "s")) (number 1)) (now x))) ∷ gives (codes "y") None (now (alone (codes "s"))) ∷ []

growing_sum_few : (heap : Global) → length (map tree_of (growing_sum_parts heap)) ≤ 9
unfolding growing_sum_parts
growing_sum_few heap = omega arith

growing_sum_fails : (heap : Global) → in_order [] 0 (growing_sum_parts heap) start ≡ None
unfolding x in_order takes gives does assign recur repeat letting recurring_with looping literal now earlier on call reading looking_back alone at_index index number less_one defines vec box tree_of built_in value residue number_width growing_sum_parts
growing_sum_fails heap = refl

growing_sum : (heap : Global) → has_widths (record { items = vec heap (map tree_of (growing_sum_parts heap)) (growing_sum_few heap) }) ≡ false
unfolding vec
growing_sum heap = ap (λ (f : World → Option World). is_some (option_map (λ (w : World). w.outputs) (f start))) (all-in-order [] 0 (growing_sum_parts heap)) ∙ ap (λ (o : Option World). is_some (option_map (λ (w : World). w.outputs) o)) (growing_sum_fails heap)
