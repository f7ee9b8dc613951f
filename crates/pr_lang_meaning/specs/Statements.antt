-- What statements do: each adds a stream to those that stand for names.
use Rattle.std.specs.Prelude.{ℕ, zero, suc, ◌+◌, ◌-◌, ◌^◌, Bool, false, cond, ◌&&◌, nat_lt, nat_le, List, [], ◌∷◌, ◌++◌, map, length, replicate, get_or, Option, Some, None, option_map, is_some}
use Rattle.std.specs.Option.{option_and_then, option_map_or}
use Rattle.std.specs.Result.{result_ok}
use Rattle.pr_lang.specs.declared.trees.Fixed.{Fixed}
use Rattle.pr_lang.specs.declared.trees.Ref.{Ref}
use Rattle.pr_lang.specs.declared.trees.Expr.{Expr}
use Rattle.pr_lang.specs.declared.trees.Stmt.{Stmt}
use Rattle.pr_lang.specs.declared.trees.Stmt.TheOpen.{Stmt-F}
use Rattle.pr_lang.specs.declared.trees.Stmt.TheFolds.{fold-Stmt}
use Rattle.pr_scope_names.specs.declared.names.Static.TheVariants.{Index}
use Rattle.pr_scope_names.specs.Names.{bind}
use Rattle.pr_scope_names.specs.Constants.{constant_of, place_of}
use Rattle.pr_flat.specs.Forms.{Stream, value, residue, least_from}
use Rattle.pr_flat.specs.Facts.{is_width}
use Rattle.pr_lang_meaning.specs.Streams.{Bound, Streams, sources, with_bound, with_stream, assigned}
use Rattle.pr_lang_meaning.specs.Expressions.{Visible, meaning}

-- over m samples
abbrev pub Change : Type 0
Change = Visible → ℕ → Streams → Option Streams

-- what the body of a recurrence makes, where the recurrence has this width and its first numbers are these
abbrev pub Body : Type 0
Body = ℕ → List ℕ → Option Stream

-- the numbers so far, followed by zeros, which the body never looks at
abbrev pub so_far : ℕ → ℕ → ℕ → List ℕ → Bound
so_far m init w numbers = record { init = init; stream = record { form = record { signed = false; width = w }; numbers = numbers ++ replicate (m - length numbers) 0 } }

abbrev pub body_of : Expr → List ℕ → Option ℕ → ℕ → Visible → ℕ → Streams → Body
body_of body name place init v m env = λ w numbers. meaning body v m (sources m (with_bound name place (so_far m init w numbers) env))

-- the value at a sample, modulo 2 to the power of w
abbrev pub number_at : ℕ → ℕ → Option Stream → ℕ
number_at w n None = 0
number_at w n (Some s) = residue w (value s.form (get_or s.numbers n 0))

-- the first n numbers of a recurrence of width w, each by those before it
abbrev pub recurring : Body → ℕ → ℕ → List ℕ
recurring body w zero = []
recurring body w (suc n) = recurring body w n ++ number_at w n (body w (recurring body w n)) ∷ []

-- w bits hold the initial value, and all that the body makes
abbrev pub holds : ℕ → Body → ℕ → Bool
holds init body w = nat_lt init (2 ^ w) && option_map_or (λ (s : Stream). nat_le s.form.width w) (body w []) false

-- the declared width, if it holds the initial value and the body has a width, or else the least that holds all
abbrev pub width_of : Option ℕ → ℕ → Body → Option ℕ
width_of (Some w) init body = cond (is_width w && nat_lt init (2 ^ w)) (cond (is_some (body w [])) (Some w) None) None
width_of None init body = least_from 128 1 (holds init body)

abbrev pub recurrence : ℕ → ℕ → Body → ℕ → Bound
recurrence m init body w = record { init = init; stream = record { form = record { signed = false; width = w }; numbers = recurring body w m } }

abbrev pub let_change : Ref → Option ℕ → Expr → Change
let_change target width e v m env =
    option_and_then (λ place.
    option_map (λ s. with_stream target.name place s env) (assigned width (meaning e v m (sources m env)))) (result_ok (place_of target v.known))

abbrev pub with_recurrence : Ref → Option ℕ → Option ℕ → Expr → ℕ → Change
with_recurrence target place width e init v m env =
    let body = body_of e target.name place init v m env in
    option_map (λ w. with_bound target.name place (recurrence m init body w) env) (width_of width init body)

abbrev pub rec_change : Ref → Option ℕ → Fixed → Expr → Change
rec_change target width init e v m env =
    option_and_then (λ place.
    option_and_then (λ c. with_recurrence target place width e c v m env) (result_ok (constant_of init v.known))) (result_ok (place_of target v.known))

abbrev pub in_turn : List Change → Change
in_turn [] v m env = Some env
in_turn (f ∷ fs) v m env = option_and_then (in_turn fs v m) (f v m env)

abbrev pub with_known : List ℕ → ℕ → Visible → Visible
with_known index at v = record { known = bind index (Index at) v.known; functions = v.functions }

-- so many turns, from this value of the index on, in one growing environment
abbrev pub turns : ℕ → ℕ → (ℕ → Streams → Option Streams) → Streams → Option Streams
turns zero at f env = Some env
turns (suc k) at f env = option_and_then (turns k (at + 1) f) (f at env)

abbrev pub stmt_step : Stmt-F Change → Change
stmt_step (Stmt-F.Let target width e) v m env = let_change target width e v m env
stmt_step (Stmt-F.Rec target width init e) v m env = rec_change target width init e v m env
stmt_step (Stmt-F.For index low high body) v m env =
    option_and_then (λ from.
    option_and_then (λ to. turns (to - from) from (λ at. in_turn body.items (with_known index at v) m) env) (result_ok (constant_of high v.known))) (result_ok (constant_of low v.known))

abbrev pub change_of : Stmt → Change
change_of = fold-Stmt Change stmt_step

abbrev pub changes_of : List Stmt → Change
changes_of stmts = in_turn (map change_of stmts)
