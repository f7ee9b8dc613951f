-- What the walk over an expression says of its parts, where it meets no offence: a record for each form.
use Rattle.std.proofs.Common.{◌≡◌, ◌∙◌, ◌<◌, ◌≤◌, ◌⊎◌, inl, inr, ℕ, Bool, true, false, cond, not, ◌&&◌, ◌||◌, nat_eq, nat_lt, nat_le, List, [], ◌∷◌, map, length, Option, Some, None, is_none, Result, Ok, Err, refl, sym, ap, subst}
use Rattle.std.proofs.lemmas.Bool.{and_parts, leb-true, le-leb, ltb-true, eqb-true, not-true, true≢false, false≢true}
use Rattle.std.proofs.lemmas.Option.{none-some}
use Rattle.std.proofs.lemmas.List.{length-map}
use Rattle.pr_lang.specs.declared.trees.BinOp.{BinOp}
use Rattle.pr_lang.specs.declared.trees.BinOp.TheVariants as binary
use Rattle.pr_lang.specs.declared.trees.Fixed.{Fixed}
use Rattle.pr_lang.specs.declared.trees.Ref.{Ref}
use Rattle.pr_lang.specs.declared.trees.Expr.{Expr}
use Rattle.pr_scope_names.specs.declared.rules.Offence.{Offence}
use Rattle.pr_scope_names.specs.declared.rules.Rule.TheVariants.{Assigned, Bounds, Calls, Recurrences}
use Rattle.pr_scope_names.specs.declared.counts.Count.{Count}
use Rattle.pr_scope_names.specs.declared.names.Callee.{Callee}
use Rattle.pr_scope_names.specs.declared.names.Static.{Static}
use Rattle.pr_scope_names.specs.declared.names.Static.TheVariants.{Constant, Function, Index, Table}
use Rattle.pr_scope.specs.declared.expressions.Scene.{Scene}
use Rattle.pr_scope_names.specs.Outcomes.{and_then, provided, counted}
use Rattle.pr_scope_names.specs.Names.{Known, Streaming, held}
use Rattle.pr_scope_names.specs.Constants.{read, constant_of, place_of}
use Rattle.pr_scope_names.specs.Amounts.{Amount, amount_of}
use Rattle.pr_flat.specs.declared.equations.Op.{Op}
use Rattle.pr_flat.specs.declared.equations.Op.TheVariants as op
use Rattle.pr_lang_meaning.specs.Expressions.{constant_shift}
use Rattle.pr_scope.specs.Expressions.{reading, walk_of, walks_of, used, delayed, back_by, called, bounds, second, is_instance, is_shift, is_delay, body_turns, may_call, deeper}
use Rattle.pr_scope.proofs.Walks.{reading_amount}
use Rattle.pr_scope_facts.proofs.Outcomes.{not_ok, provided_ok, same_ok, then_ok}

-- ---- names
-- a constant, an index, or a table's entry
pub record StaticUse (known : Known) (name : List ℕ) (index : Option ℕ) : Type 0 where
  pub static : Static
  pub number : ℕ
  pub is : known name ≡ Some static
  pub reads : read (Some static) index ≡ Ok number

-- an assigned stream, other than the own instance of a recurrence
pub record StreamUse (known : Known) (streams : Streaming) (scene : Scene) (name : List ℕ) (index : Option ℕ) : Type 0 where
  pub unknown : known name ≡ None
  pub there : held (streams name) index ≡ true
  pub other : is_instance scene.own name index ≡ false

pub record ReferWalk (r : Ref) (known : Known) (streams : Streaming) (scene : Scene) : Type 0 where
  pub index : Option ℕ
  pub placed : place_of r known ≡ Ok index
  pub use_of : StaticUse known r.name index ⊎ StreamUse known streams scene r.name index

used-inverted : (known : Known) (streams : Streaming) (scene : Scene) (name : List ℕ) (index : Option ℕ) (o : Option Static) (c d : Count) → known name ≡ o → used o (is_instance scene.own name index) (held (streams name) index) index c ≡ Ok d → StaticUse known name index ⊎ StreamUse known streams scene name index
used-inverted known streams scene name index (Some s) c d is walk =
    let read_as = then_ok (read (Some s) index) (λ n. Ok c) d walk in
    inl (record { static = s; number = read_as.0; is = is; reads = read_as.1 })
used-inverted known streams scene name index None c d is walk =
    let parts = and_parts (held (streams name) index) (not (is_instance scene.own name index)) (provided_ok (held (streams name) index && not (is_instance scene.own name index)) Assigned (Ok c) d walk).0 in
    inr (record { unknown = is; there = parts.0; other = not-true (is_instance scene.own name index) parts.1 })

pub refer-inverted : (r : Ref) (known : Known) (streams : Streaming) (scene : Scene) (c d : Count) → and_then (place_of r known) (λ place. used (known r.name) (is_instance scene.own r.name place) (held (streams r.name) place) place c) ≡ Ok d → ReferWalk r known streams scene
refer-inverted r known streams scene c d walk =
    let at = then_ok (place_of r known) (λ place. used (known r.name) (is_instance scene.own r.name place) (held (streams r.name) place) place c) d walk in
    record { index = at.0; placed = at.1; use_of = used-inverted known streams scene r.name at.0 (known r.name) c d refl at.2 }

-- the own instance of a recurrence, at least one sample earlier
pub record OwnPast (scene : Scene) (name : List ℕ) (index : Option ℕ) (amount : ℕ) : Type 0 where
  pub own : is_instance scene.own name index ≡ true
  pub least : 1 ≤ amount

-- another assigned stream
pub record OtherPast (streams : Streaming) (scene : Scene) (name : List ℕ) (index : Option ℕ) : Type 0 where
  pub other : is_instance scene.own name index ≡ false
  pub there : held (streams name) index ≡ true

pub record DelayWalk (r : Ref) (k : Fixed) (known : Known) (streams : Streaming) (scene : Scene) : Type 0 where
  pub index : Option ℕ
  pub amount : ℕ
  pub placed : place_of r known ≡ Ok index
  pub amount_is : constant_of k known ≡ Ok amount
  pub greatest : amount ≤ 256
  pub unknown : known r.name ≡ None
  pub past_of : OwnPast scene r.name index amount ⊎ OtherPast streams scene r.name index

delayed-inverted : (o : Option Static) (own there : Bool) (c d : Count) → delayed o own there c ≡ Ok d → (o ≡ None) × ((there || own) ≡ true)
delayed-inverted (Some s) own there c d walk = absurd (not_ok _ d walk)
delayed-inverted None own there c d walk = (refl, (provided_ok (there || own) Assigned (Ok c) d walk).0)

past-inverted : (streams : Streaming) (scene : Scene) (name : List ℕ) (index : Option ℕ) (amount : ℕ) (own there : Bool) → own ≡ is_instance scene.own name index → there ≡ held (streams name) index → (there || own) ≡ true → (not own || nat_lt 0 amount) ≡ true → OwnPast scene name index amount ⊎ OtherPast streams scene name index
past-inverted streams scene name index amount true there own_is there_is assigned early = inl (record { own = sym own_is; least = ltb-true 0 amount early })
past-inverted streams scene name index amount false true own_is there_is assigned early = inr (record { other = sym own_is; there = sym there_is })
past-inverted streams scene name index amount false false own_is there_is assigned early = absurd (false≢true assigned)

pub delay-inverted : (r : Ref) (k : Fixed) (known : Known) (streams : Streaming) (scene : Scene) (c d : Count) → and_then (place_of r known) (λ place. and_then (delayed (known r.name) (is_instance scene.own r.name place) (held (streams r.name) place) c) (back_by (is_instance scene.own r.name place) (constant_of k known))) ≡ Ok d → DelayWalk r k known streams scene
delay-inverted r k known streams scene c d walk =
    let at = then_ok (place_of r known) (λ place. and_then (delayed (known r.name) (is_instance scene.own r.name place) (held (streams r.name) place) c) (back_by (is_instance scene.own r.name place) (constant_of k known))) d walk in
    let own = is_instance scene.own r.name at.0 in
    let there = held (streams r.name) at.0 in
    let begun = then_ok (delayed (known r.name) own there c) (back_by own (constant_of k known)) d at.2 in
    let assigned = delayed-inverted (known r.name) own there c begun.0 begun.1 in
    let back = then_ok (constant_of k known) (λ n. provided (is_delay own n) Bounds (Ok begun.0)) d begun.2 in
    let within = and_parts (nat_le back.0 256) (not own || nat_lt 0 back.0) (provided_ok (is_delay own back.0) Bounds (Ok begun.0) d back.2).0 in
    record {
      index = at.0;
      amount = back.0;
      placed = at.1;
      amount_is = back.1;
      greatest = leb-true back.0 256 within.0;
      unknown = assigned.0;
      past_of = past-inverted streams scene r.name at.0 back.0 own there refl refl assigned.1 within.1;
    }

-- ---- operators
pub record SliceWalk (e : Expr) (high low : Fixed) (known : Known) (streams : Streaming) (scene : Scene) (c d : Count) : Type 0 where
  pub from : ℕ
  pub to : ℕ
  pub part : walk_of e known streams scene c ≡ Ok d
  pub high_is : constant_of high known ≡ Ok from
  pub low_is : constant_of low known ≡ Ok to
  pub order : to ≤ from

pub slice-inverted : (e : Expr) (high low : Fixed) (known : Known) (streams : Streaming) (scene : Scene) (c d : Count) → and_then (walk_of e known streams scene c) (bounds (constant_of high known) (constant_of low known)) ≡ Ok d → SliceWalk e high low known streams scene c d
slice-inverted e high low known streams scene c d walk =
    let begun = then_ok (walk_of e known streams scene c) (bounds (constant_of high known) (constant_of low known)) d walk in
    let top = then_ok (constant_of high known) (λ h. and_then (constant_of low known) (λ l. provided (nat_le l h) Bounds (Ok begun.0))) d begun.2 in
    let bottom = then_ok (constant_of low known) (λ l. provided (nat_le l top.0) Bounds (Ok begun.0)) d top.2 in
    let ordered = provided_ok (nat_le bottom.0 top.0) Bounds (Ok begun.0) d bottom.2 in
    record {
      from = top.0;
      to = bottom.0;
      part = begun.1 ∙ ordered.1;
      high_is = top.1;
      low_is = bottom.1;
      order = leb-true bottom.0 top.0 ordered.0;
    }

-- a shift by a constant, and which one it is
pub record ShiftWalk (o : BinOp) (b : Expr) (known : Known) : Type 0 where
  pub amount : ℕ
  pub shift : Op
  pub amount_is : amount_of b known ≡ Some (Ok amount)
  pub greatest : amount ≤ 128
  pub shift_is : constant_shift o (amount_of b known) ≡ Some shift
  pub which : (shift ≡ op.Left amount) ⊎ (shift ≡ op.Right amount)

-- any other operator
pub record PairWalk (o : BinOp) (b : Expr) (known : Known) (streams : Streaming) (scene : Scene) (c d : Count) : Type 0 where
  pub no_shift : constant_shift o (amount_of b known) ≡ None
  pub part : walk_of b known streams scene c ≡ Ok d

pub record BinaryWalk (o : BinOp) (a b : Expr) (known : Known) (streams : Streaming) (scene : Scene) (c d : Count) : Type 0 where
  pub between : Count
  pub first : walk_of a known streams scene c ≡ Ok between
  pub rest : ShiftWalk o b known ⊎ PairWalk o b known streams scene between d

no-shift : (o : BinOp) (amount : Option (Result ℕ Offence)) → cond (is_shift o) amount None ≡ None → constant_shift o amount ≡ None
no-shift o None is = refl
no-shift binary.Left (Some r) is = absurd (none-some r (sym is))
no-shift binary.Right (Some r) is = absurd (none-some r (sym is))
no-shift binary.Add (Some (Ok n)) is = refl
no-shift binary.Sub (Some (Ok n)) is = refl
no-shift binary.Mul (Some (Ok n)) is = refl
no-shift binary.And (Some (Ok n)) is = refl
no-shift binary.Or (Some (Ok n)) is = refl
no-shift binary.Xor (Some (Ok n)) is = refl
no-shift binary.Equal (Some (Ok n)) is = refl
no-shift binary.NotEqual (Some (Ok n)) is = refl
no-shift binary.Less (Some (Ok n)) is = refl
no-shift binary.LessEqual (Some (Ok n)) is = refl
no-shift binary.Greater (Some (Ok n)) is = refl
no-shift binary.GreaterEqual (Some (Ok n)) is = refl
no-shift o (Some (Err e)) is = refl

-- which constant shift it is
is-shift : (o : BinOp) (amount : Option (Result ℕ Offence)) (r : Result ℕ Offence) → cond (is_shift o) amount None ≡ Some r → (amount ≡ Some r) × ((o ≡ binary.Left) ⊎ (o ≡ binary.Right))
is-shift binary.Left amount r is = (is, inl refl)
is-shift binary.Right amount r is = (is, inr refl)
is-shift o amount r is = absurd (none-some r is)

abbrev op_of : BinOp → ℕ → Op
op_of binary.Left n = op.Left n
op_of o n = op.Right n

shift-inverted : (o : BinOp) (b : Expr) (known : Known) (n : ℕ) → amount_of b known ≡ Some (Ok n) → n ≤ 128 → (o ≡ binary.Left) ⊎ (o ≡ binary.Right) → ShiftWalk o b known
shift-inverted o b known n is low (inl left) = record {
  amount = n;
  shift = op.Left n;
  amount_is = is;
  greatest = low;
  shift_is = rw (left, is, le-leb n 128 low) refl;
  which = inl refl;
}
shift-inverted o b known n is low (inr right) = record {
  amount = n;
  shift = op.Right n;
  amount_is = is;
  greatest = low;
  shift_is = rw (right, is, le-leb n 128 low) refl;
  which = inr refl;
}

second-inverted : (o : BinOp) (b : Expr) (known : Known) (streams : Streaming) (scene : Scene) (c d : Count) (amount : Option (Result ℕ Offence)) → cond (is_shift o) (amount_of b known) None ≡ amount → second amount (walk_of b known streams scene) c ≡ Ok d → ShiftWalk o b known ⊎ PairWalk o b known streams scene c d
second-inverted o b known streams scene c d None is walk = inr (record { no_shift = no-shift o (amount_of b known) is; part = walk })
second-inverted o b known streams scene c d (Some r) is walk =
    let by = then_ok r (λ n. provided (nat_le n 128) Bounds (Ok c)) d walk in
    let which = is-shift o (amount_of b known) r is in
    inl (shift-inverted o b known by.0 (which.0 ∙ ap Some by.1) (leb-true by.0 128 (provided_ok (nat_le by.0 128) Bounds (Ok c) d by.2).0) which.1)

pub binary-inverted : (o : BinOp) (a b : Expr) (known : Known) (streams : Streaming) (scene : Scene) (c d : Count) → and_then (walk_of a known streams scene c) (second (cond (is_shift o) ((reading b).amount known) None) (walk_of b known streams scene)) ≡ Ok d → BinaryWalk o a b known streams scene c d
binary-inverted o a b known streams scene c d walk =
    let begun = then_ok (walk_of a known streams scene c) (second (cond (is_shift o) ((reading b).amount known) None) (walk_of b known streams scene)) d walk in
    let amount : cond (is_shift o) (amount_of b known) None ≡ cond (is_shift o) ((reading b).amount known) None = ap (λ (a : Amount). cond (is_shift o) (a known) None) (sym (reading_amount b)) in
    record {
      between = begun.0;
      first = begun.1;
      rest = second-inverted o b known streams scene begun.0 d (cond (is_shift o) ((reading b).amount known) None) amount begun.2;
    }

pub record ChooseWalk (e a b : Expr) (known : Known) (streams : Streaming) (scene : Scene) (c d : Count) : Type 0 where
  pub after_test : Count
  pub after_first : Count
  pub test : walk_of e known streams scene c ≡ Ok after_test
  pub first : walk_of a known streams scene after_test ≡ Ok after_first
  pub other : walk_of b known streams scene after_first ≡ Ok d

pub choose-inverted : (e a b : Expr) (known : Known) (streams : Streaming) (scene : Scene) (c d : Count) → and_then (walk_of e known streams scene c) (λ x. and_then (walk_of a known streams scene x) (walk_of b known streams scene)) ≡ Ok d → ChooseWalk e a b known streams scene c d
choose-inverted e a b known streams scene c d walk =
    let tested = then_ok (walk_of e known streams scene c) (λ x. and_then (walk_of a known streams scene x) (walk_of b known streams scene)) d walk in
    let begun = then_ok (walk_of a known streams scene tested.0) (walk_of b known streams scene) d tested.2 in
    record { after_test = tested.0; after_first = begun.0; test = tested.1; first = begun.1; other = begun.2 }

-- ---- parts, one after the other
abbrev pub AllWalk : List Expr → Known → Streaming → Scene → Count → Count → Type 0
AllWalk [] known streams scene c d = c ≡ d
AllWalk (e ∷ es) known streams scene c d = (between : Count) × (walk_of e known streams scene c ≡ Ok between) × AllWalk es known streams scene between d

pub parts-inverted : (es : List Expr) (known : Known) (streams : Streaming) (scene : Scene) (c d : Count) → walks_of (map reading es) known streams scene c ≡ Ok d → AllWalk es known streams scene c d
parts-inverted [] known streams scene c d walk = same_ok c d walk
parts-inverted (e ∷ es) known streams scene c d walk =
    let first = then_ok (walk_of e known streams scene c) (walks_of (map reading es) known streams scene) d walk in
    (first.0, first.1, parts-inverted es known streams scene first.0 d first.2)

-- ---- calls
-- what a function may be that is called
pub record MayCall (f : Callee) (given : ℕ) (scene : Scene) : Type 0 where
  pub count : given ≡ f.params
  pub depth : scene.inside ≡ true → f.depth < 32
  pub calm : is_none scene.own ≡ false → f.past ≡ false

pub record CallWalk (name : List ℕ) (args : List Expr) (known : Known) (streams : Streaming) (scene : Scene) (c : Count) : Type 0 where
  pub between : Count
  pub parts : AllWalk args known streams scene c between
  pub callee : Callee
  pub is : known name ≡ Some (Function callee)
  pub may : MayCall callee (length args) scene

abbrev IsCallee : Known → List ℕ → ℕ → Scene → Type 0
IsCallee known name given scene = (f : Callee) × (known name ≡ Some (Function f)) × MayCall f given scene

calm-inverted : (own past : Bool) → (own || not past) ≡ true → own ≡ false → past ≡ false
calm-inverted true past h none = absurd (true≢false none)
calm-inverted false past h none = not-true past h

depth-inverted : (inside : Bool) (depth : ℕ) → (not inside || nat_lt depth 32) ≡ true → inside ≡ true → depth < 32
depth-inverted true depth h within = ltb-true depth 32 h
depth-inverted false depth h within = absurd (false≢true within)

may_call-inverted : (known : Known) (name : List ℕ) (given : ℕ) (scene : Scene) (c d : Count) (o : Option Static) → known name ≡ o → may_call o given scene c ≡ Ok d → IsCallee known name given scene
may_call-inverted known name given scene c d None is walk = absurd (not_ok _ d walk)
may_call-inverted known name given scene c d (Some (Constant n)) is walk = absurd (not_ok _ d walk)
may_call-inverted known name given scene c d (Some (Index n)) is walk = absurd (not_ok _ d walk)
may_call-inverted known name given scene c d (Some (Table ns)) is walk = absurd (not_ok _ d walk)
may_call-inverted known name given scene c d (Some (Function f)) is walk =
    let calls = provided_ok (nat_eq given f.params && (not scene.inside || nat_lt f.depth 32)) Calls (provided (is_none scene.own || not f.past) Recurrences (Ok (deeper scene.inside f.depth c))) d walk in
    let kept = and_parts (nat_eq given f.params) (not scene.inside || nat_lt f.depth 32) calls.0 in
    let calm = provided_ok (is_none scene.own || not f.past) Recurrences (Ok (deeper scene.inside f.depth c)) d calls.1 in (
      f,
      is,
      record {
        count = eqb-true given f.params kept.0;
        depth = depth-inverted scene.inside f.depth kept.1;
        calm = calm-inverted (is_none scene.own) f.past calm.0;
      },
    )

pub call-inverted : (name : List ℕ) (args : List Expr) (known : Known) (streams : Streaming) (scene : Scene) (c d : Count) → and_then (walks_of (map reading args) known streams scene c) (called (known name) (length (map reading args)) scene) ≡ Ok d → CallWalk name args known streams scene c
call-inverted name args known streams scene c d walk =
    let begun = then_ok (walks_of (map reading args) known streams scene c) (called (known name) (length (map reading args)) scene) d walk in
    let counting = then_ok (counted (body_turns (known name)) begun.0) (may_call (known name) (length (map reading args)) scene) d begun.2 in
    let met = may_call-inverted known name (length (map reading args)) scene counting.0 d (known name) refl counting.2 in
    record {
      between = begun.0;
      parts = parts-inverted args known streams scene c begun.0 begun.1;
      callee = met.0;
      is = met.1;
      may = subst (λ n. MayCall met.0 n scene) (length-map args reading) met.2;
    }
