-- The walk over a statement.
use Rattle.std.specs.Prelude.{ℕ, zero, suc, ◌+◌, ◌-◌, ◌^◌, Bool, true, ◌&&◌, nat_lt, nat_le, List, map, Option, Some, None, Result, Ok}
use Rattle.pr_lang.specs.declared.trees.Fixed.{Fixed}
use Rattle.pr_lang.specs.declared.trees.Ref.{Ref}
use Rattle.pr_lang.specs.declared.trees.Expr.{Expr}
use Rattle.pr_lang.specs.declared.trees.Stmt.{Stmt}
use Rattle.pr_lang.specs.declared.trees.Stmt.TheOpen.{Stmt-F}
use Rattle.pr_lang.specs.declared.trees.Stmt.TheFolds.{fold-Stmt}
use Rattle.pr_scope_names.specs.declared.rules.Rule.TheVariants.{Introduced, Bounds, Recurrences}
use Rattle.pr_scope_names.specs.declared.rules.Offence.{Offence}
use Rattle.pr_scope_names.specs.declared.counts.Count.{Count}
use Rattle.pr_scope_names.specs.declared.streams.Streams.{Streams}
use Rattle.pr_scope.specs.declared.statements.Ready.{Ready}
use Rattle.pr_scope.specs.declared.statements.Span.{Span}
use Rattle.pr_scope_names.specs.declared.names.Static.TheVariants.{Index}
use Rattle.pr_scope_names.specs.Outcomes.{and_then, provided, in_turn, counted}
use Rattle.pr_scope_names.specs.Names.{Known, Streaming, is_free, assign, bind, streams_in}
use Rattle.pr_scope_names.specs.Constants.{constant_of, place_of}
use Rattle.pr_scope.specs.Expressions.{walk_of, past_of, pasts_of}

abbrev pub is_width : Option ℕ → Bool
is_width None = true
is_width (Some w) = nat_le 1 w && nat_le w 128

abbrev pub fits : Option ℕ → ℕ → Bool
fits None n = true
fits (Some w) n = nat_lt n (2 ^ w)

-- what stands before the target is introduced: its index, and the count
abbrev pub let_ready : Ref → Option ℕ → Expr → Known → Streaming → Bool → Count → Result Ready Offence
let_ready target width value known streams inside count =
    and_then (counted 0 count) (λ c.
    and_then (place_of target known) (λ place.
    provided (is_width width) Bounds
    (and_then (walk_of value known streams (record { own = None; inside = inside }) c) (λ d.
    Ok (record { place = place; count = d })))))

-- a recurrence's initial value comes before its body
abbrev pub rec_begun : Ref → Option ℕ → Fixed → Known → Count → Result Ready Offence
rec_begun target width init known count =
    and_then (counted 0 count) (λ c.
    and_then (place_of target known) (λ place.
    provided (is_width width) Bounds
    (and_then (constant_of init known) (λ n.
    provided (fits width n) Recurrences
    (Ok (record { place = place; count = c }))))))

-- where its own instance stands only under `@`
abbrev pub rec_body : List ℕ → Expr → Known → Streaming → Bool → Ready → Result Ready Offence
rec_body name body known streams inside begun =
    and_then (walk_of body known streams
    (record { own = Some (record { name = name; index = begun.place }); inside = inside }) begun.count) (λ d.
    Ok (record { place = begun.place; count = d }))

abbrev pub rec_ready : Ref → Option ℕ → Fixed → Expr → Known → Streaming → Bool → Count → Result Ready Offence
rec_ready target width init body known streams inside count =
    and_then (rec_begun target width init known count) (rec_body target.name body known streams inside)

-- a loop's bounds; its index is new also where there is no turn
abbrev pub for_ready : List ℕ → Fixed → Fixed → Known → Streaming → Count → Result Span Offence
for_ready index low high known streams count =
    and_then (counted 0 count) (λ c.
    and_then (constant_of low known) (λ from.
    and_then (constant_of high known) (λ to.
    provided (is_free index known streams) Introduced
    (Ok (record { low = from; high = to; count = c })))))

-- the streams that are assigned so far, and the count
pub record Progress : Type 0 where
  pub streams : Streaming
  pub count : Count

abbrev pub progress_of : Streams → Count → Progress
progress_of streams count = record { streams = streams_in streams; count = count }

-- what a statement does, where these names are visible, and whether it stands in a function's body
abbrev pub Change : Type 0
Change = Known → Bool → Progress → Result Progress Offence

-- the target is introduced
abbrev pub completed : List ℕ → Known → Streaming → Ready → Result Progress Offence
completed name known streams ready =
    and_then (assign name ready.place known streams) (λ now.
    Ok (record { streams = now; count = ready.count }))

-- all of these, one after the other
abbrev pub changes : List Change → Change
changes body known inside = in_turn (map (λ (f : Change). f known inside) body)

-- the body's statements, with the index at this value
abbrev pub turn : List ℕ → List Change → Known → Bool → ℕ → Progress → Result Progress Offence
turn index body known inside at s =
    and_then (counted 0 s.count) (λ c.
    changes body (bind index (Index at) known) inside (record { streams = s.streams; count = c }))

-- so many turns, from this value of the index on
abbrev pub turns : ℕ → ℕ → (ℕ → Progress → Result Progress Offence) → Progress → Result Progress Offence
turns zero at f s = Ok s
turns (suc k) at f s = and_then (f at s) (turns k (at + 1) f)

abbrev pub stmt_step : Stmt-F Change → Change
stmt_step (Stmt-F.Let target width value) known inside s =
    and_then (let_ready target width value known s.streams inside s.count) (completed target.name known s.streams)
stmt_step (Stmt-F.Rec target width init body) known inside s =
    and_then (rec_ready target width init body known s.streams inside s.count) (completed target.name known s.streams)
stmt_step (Stmt-F.For index low high body) known inside s =
    and_then (for_ready index low high known s.streams s.count) (λ span.
    turns (span.high - span.low) span.low (turn index body.items known inside)
    (record { streams = s.streams; count = span.count }))

abbrev pub change_of : Stmt → Change
change_of = fold-Stmt Change stmt_step

abbrev pub changes_of : List Stmt → Change
changes_of stmts = changes (map change_of stmts)

-- whether the text has `@` or `rec`, or a call of a function whose own has one
abbrev pub stmt_past_step : Stmt-F (Known → Bool) → Known → Bool
stmt_past_step (Stmt-F.Let target width value) known = past_of value known
stmt_past_step (Stmt-F.Rec target width init body) known = true
stmt_past_step (Stmt-F.For index low high body) known = pasts_of body.items known

abbrev pub stmt_past_of : Stmt → Known → Bool
stmt_past_of = fold-Stmt (Known → Bool) stmt_past_step

abbrev pub stmts_past_of : List Stmt → Known → Bool
stmts_past_of stmts = pasts_of (map stmt_past_of stmts)
