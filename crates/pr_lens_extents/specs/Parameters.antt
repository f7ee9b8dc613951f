-- Which parameters without declared width functions read by `signed`, directly or through other functions.
use Rattle.std.specs.Prelude.{ℕ, ◌+◌, Bool, false, ◌&&◌, ◌||◌, List, [], ◌∷◌, map, Some, is_none, is_some, bytes_eq, codes, if◌then◌else◌}
use Rattle.pr_lang.specs.declared.trees.Expr.{Expr}
use Rattle.pr_lang.specs.declared.trees.Expr.TheOpen.{Expr-F}
use Rattle.pr_lang.specs.declared.trees.Expr.TheFolds.{fold-Expr}
use Rattle.pr_lang.specs.declared.trees.Stmt.{Stmt}
use Rattle.pr_lang.specs.declared.trees.Stmt.TheOpen.{Stmt-F}
use Rattle.pr_lang.specs.declared.trees.Stmt.TheFolds.{fold-Stmt}
use Rattle.pr_lang.specs.declared.trees.Param.{Param}
use Rattle.pr_scope_names.specs.Names.{placed}
use Rattle.pr_lens_extents.specs.Scenes.{Seen, with_sign}

abbrev pub is_signed : List ℕ → Bool
is_signed name = bytes_eq name (codes "signed")

-- a function reads the argument at this place by `signed`
abbrev pub is_marked : List ℕ → ℕ → Seen → Bool
is_marked function place seen = is_some (placed (seen.signs function) (Some place))

-- the same, or it is `signed` itself
abbrev pub signs_at : List ℕ → ℕ → Seen → Bool
signs_at function place seen = is_signed function || is_marked function place seen

-- what an expression does with a name: it is this name alone, or it reads it by `signed`
pub record Use : Type 0 where
  pub bare : List ℕ → Bool
  pub signs : List ℕ → Seen → Bool

abbrev pub bare_step : Expr-F Use → List ℕ → Bool
bare_step (Expr-F.Refer r) name = is_none r.index && bytes_eq r.name name
bare_step (Expr-F.Paren e) name = e.value.bare name
bare_step _ name = false

-- one of the arguments is the name, from the one at this place on
abbrev pub passes : List ℕ → ℕ → List Use → List ℕ → Seen → Bool
passes function at [] name seen = false
passes function at (u ∷ us) name seen = (u.bare name && signs_at function at seen) || passes function (at + 1) us name seen

abbrev pub any_signs : List Use → List ℕ → Seen → Bool
any_signs [] name seen = false
any_signs (u ∷ us) name seen = u.signs name seen || any_signs us name seen

abbrev pub call_signs : List ℕ → List Use → List ℕ → Seen → Bool
call_signs function us name seen = passes function 0 us name seen || any_signs us name seen

abbrev pub signs_step : Expr-F Use → List ℕ → Seen → Bool
signs_step (Expr-F.Slice e high low) name seen = e.value.signs name seen
signs_step (Expr-F.Not e) name seen = e.value.signs name seen
signs_step (Expr-F.Binary o a b) name seen = a.value.signs name seen || b.value.signs name seen
signs_step (Expr-F.Choose c a b) name seen = c.value.signs name seen || (a.value.signs name seen || b.value.signs name seen)
signs_step (Expr-F.Call function args) name seen = call_signs function args.items name seen
signs_step (Expr-F.Cat parts) name seen = any_signs parts.items name seen
signs_step (Expr-F.Paren e) name seen = e.value.signs name seen
signs_step _ name seen = false

abbrev pub use_step : Expr-F Use → Use
use_step e = record { bare = bare_step e; signs = signs_step e }

abbrev pub use_of : Expr → Use
use_of = fold-Expr Use use_step

abbrev pub signs_of : Expr → List ℕ → Seen → Bool
signs_of e name seen = (use_of e).signs name seen

-- ---- statements
abbrev pub any_sign : List (List ℕ → Seen → Bool) → List ℕ → Seen → Bool
any_sign [] name seen = false
any_sign (s ∷ ss) name seen = s name seen || any_sign ss name seen

abbrev pub sign_step : Stmt-F (List ℕ → Seen → Bool) → List ℕ → Seen → Bool
sign_step (Stmt-F.Let target width e) name seen = signs_of e name seen
sign_step (Stmt-F.Rec target width init e) name seen = signs_of e name seen
sign_step (Stmt-F.For index low high body) name seen = any_sign body.items name seen

abbrev pub stmt_signs : Stmt → List ℕ → Seen → Bool
stmt_signs = fold-Stmt (List ℕ → Seen → Bool) sign_step

abbrev pub stmts_sign : List Stmt → List ℕ → Seen → Bool
stmts_sign stmts name seen = any_sign (map stmt_signs stmts) name seen

-- ---- functions
-- A parameter with a declared width does not count: with `k:8` the highest of 8 bits is meant as the sign
abbrev pub reads_sign : Param → List Stmt → Expr → Seen → Bool
reads_sign p body result seen = is_none p.width && (stmts_sign body p.name seen || signs_of result p.name seen)

abbrev pub with_param : List ℕ → ℕ → Param → List Stmt → Expr → Seen → Seen
with_param function at p body result seen = if reads_sign p body result seen then with_sign function at seen else seen

-- the parameters from this one on
abbrev pub with_params : List ℕ → ℕ → List Param → List Stmt → Expr → Seen → Seen
with_params function at [] body result seen = seen
with_params function at (p ∷ ps) body result seen =
    with_params function (at + 1) ps body result (with_param function at p body result seen)
