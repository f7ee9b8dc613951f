-- The walk over an expression.
use Rattle.std.specs.Prelude.{ℕ, max, Bool, true, false, cond, not, ◌&&◌, ◌||◌, nat_eq, nat_lt, nat_le, List, map, length, Option, Some, None, is_none, bytes_eq, Result, Ok, Err}
use Rattle.std.specs.List.{list_any}
use Rattle.pr_lang.specs.declared.trees.BinOp.{BinOp}
use Rattle.pr_lang.specs.declared.trees.BinOp.TheVariants.{Left, Right}
use Rattle.pr_lang.specs.declared.trees.Expr.{Expr}
use Rattle.pr_lang.specs.declared.trees.Expr.TheOpen.{Expr-F}
use Rattle.pr_lang.specs.declared.trees.Expr.TheFolds.{fold-Expr}
use Rattle.pr_scope_names.specs.declared.rules.Rule.TheVariants.{Assigned, Kinds, Calls, Bounds, Recurrences}
use Rattle.pr_scope_names.specs.declared.rules.Offence.{Offence}
use Rattle.pr_scope_names.specs.declared.rules.Offence.TheVariants.{Breaks}
use Rattle.pr_scope_names.specs.declared.counts.Count.{Count}
use Rattle.pr_scope_names.specs.declared.names.Static.{Static}
use Rattle.pr_scope_names.specs.declared.names.Static.TheVariants.{Function}
use Rattle.pr_scope_names.specs.declared.streams.Instance.{Instance}
use Rattle.pr_scope.specs.declared.expressions.Scene.{Scene}
use Rattle.pr_scope_names.specs.Outcomes.{and_then, provided, in_turn, counted}
use Rattle.pr_scope_names.specs.Names.{Known, Streaming, same_place, held}
use Rattle.pr_scope_names.specs.Constants.{read, constant_of, place_of}
use Rattle.pr_scope_names.specs.Amounts.{Amount, amount_step}

abbrev pub is_instance : Option Instance → List ℕ → Option ℕ → Bool
is_instance None name place = false
is_instance (Some own) name place = bytes_eq own.name name && same_place own.index place

-- A name without `@`. The own instance of a recurrence does not stand here.
abbrev pub used : Option Static → Bool → Bool → Option ℕ → Count → Result Count Offence
used (Some static) own assigned place c = and_then (read (Some static) place) (λ _. Ok c)
used None own assigned place c = provided (assigned && not own) Assigned (Ok c)

-- a name before `@`
abbrev pub delayed : Option Static → Bool → Bool → Count → Result Count Offence
delayed (Some static) own assigned c = Err (Breaks Kinds)
delayed None own assigned c = provided (assigned || own) Assigned (Ok c)

abbrev pub is_delay : Bool → ℕ → Bool
is_delay own k = nat_le k 256 && (not own || nat_lt 0 k)

abbrev pub back_by : Bool → Result ℕ Offence → Count → Result Count Offence
back_by own amount c = and_then amount (λ n. provided (is_delay own n) Bounds (Ok c))

abbrev pub body_turns : Option Static → ℕ
body_turns (Some (Function f)) = f.turns
body_turns _ = 0

-- the depth counts in a function's body
abbrev pub deeper : Bool → ℕ → Count → Count
deeper inside depth c = record { turns = c.turns; deepest = cond inside (max c.deepest depth) c.deepest }

abbrev pub may_call : Option Static → ℕ → Scene → Count → Result Count Offence
may_call (Some (Function f)) given scene c =
    provided (nat_eq given f.params && (not scene.inside || nat_lt f.depth 32)) Calls
    (provided (is_none scene.own || not f.past) Recurrences
    (Ok (deeper scene.inside f.depth c)))
may_call _ given scene c = Err (Breaks Kinds)

abbrev pub called : Option Static → ℕ → Scene → Count → Result Count Offence
called callee given scene c = and_then (counted (body_turns callee) c) (may_call callee given scene)

-- a shift by a constant is by at most 128
abbrev pub shifted : Result ℕ Offence → Count → Result Count Offence
shifted amount c = and_then amount (λ n. provided (nat_le n 128) Bounds (Ok c))

-- what an expression is: its walk, and its value as a constant shift's amount where it can be one
pub record Reading : Type 0 where
  pub walk : Known → Streaming → Scene → Count → Result Count Offence
  pub amount : Amount

abbrev pub walks_of : List Reading → Known → Streaming → Scene → Count → Result Count Offence
walks_of parts known streams scene = in_turn (map (λ (r : Reading). r.walk known streams scene) parts)

-- a slice's bounds, the high one first
abbrev pub bounds : Result ℕ Offence → Result ℕ Offence → Count → Result Count Offence
bounds high low c = and_then high (λ h. and_then low (λ l. provided (nat_le l h) Bounds (Ok c)))

abbrev pub is_shift : BinOp → Bool
is_shift Left = true
is_shift Right = true
is_shift _ = false

abbrev pub second : Option (Result ℕ Offence) → (Count → Result Count Offence) → Count → Result Count Offence
second (Some amount) walk c = shifted amount c
second None walk c = walk c

abbrev pub walk_step : Expr-F Reading → Known → Streaming → Scene → Count → Result Count Offence
walk_step (Expr-F.Number n) known streams scene c = Ok c
walk_step (Expr-F.Refer r) known streams scene c =
    and_then (place_of r known) (λ place.
    used (known r.name) (is_instance scene.own r.name place) (held (streams r.name) place) place c)
walk_step (Expr-F.Delay r k) known streams scene c =
    and_then (place_of r known) (λ place.
    let own = is_instance scene.own r.name place in
    and_then (delayed (known r.name) own (held (streams r.name) place) c)
    (back_by own (constant_of k known)))
walk_step (Expr-F.Slice e high low) known streams scene c =
    and_then (e.value.walk known streams scene c) (λ d.
    bounds (constant_of high known) (constant_of low known) d)
walk_step (Expr-F.Not e) known streams scene c = e.value.walk known streams scene c
walk_step (Expr-F.Binary op a b) known streams scene c =
    and_then (a.value.walk known streams scene c)
    (second (cond (is_shift op) (b.value.amount known) None) (b.value.walk known streams scene))
walk_step (Expr-F.Choose e a b) known streams scene c =
    and_then (e.value.walk known streams scene c) (λ d.
    and_then (a.value.walk known streams scene d)
    (b.value.walk known streams scene))
walk_step (Expr-F.Call name args) known streams scene c =
    and_then (walks_of args.items known streams scene c)
    (called (known name) (length args.items) scene)
walk_step (Expr-F.Cat parts) known streams scene c = walks_of parts.items known streams scene c
walk_step (Expr-F.Paren e) known streams scene c = e.value.walk known streams scene c

abbrev pub reading_step : Expr-F Reading → Reading
reading_step e = record { walk = walk_step e; amount = amount_step (λ (r : Reading). r.amount) e }

abbrev pub reading : Expr → Reading
reading = fold-Expr Reading reading_step

abbrev pub walk_of : Expr → Known → Streaming → Scene → Count → Result Count Offence
walk_of e = (reading e).walk

-- Whether the text has `@`, or a call of a function whose own has it.
abbrev pub is_past : Option Static → Bool
is_past (Some (Function f)) = f.past
is_past _ = false

abbrev pub pasts_of : List (Known → Bool) → Known → Bool
pasts_of parts known = list_any (λ (f : Known → Bool). f known) parts

abbrev pub past_step : Expr-F (Known → Bool) → Known → Bool
past_step (Expr-F.Number n) known = false
past_step (Expr-F.Refer r) known = false
past_step (Expr-F.Delay r k) known = true
past_step (Expr-F.Slice e high low) known = e.value known
past_step (Expr-F.Not e) known = e.value known
past_step (Expr-F.Binary op a b) known = a.value known || b.value known
past_step (Expr-F.Choose e a b) known = e.value known || a.value known || b.value known
past_step (Expr-F.Call name args) known = is_past (known name) || pasts_of args.items known
past_step (Expr-F.Cat parts) known = pasts_of parts.items known
past_step (Expr-F.Paren e) known = e.value known

abbrev pub past_of : Expr → Known → Bool
past_of = fold-Expr (Known → Bool) past_step
