-- A shift's amount is constant where it is built from numbers, constants, indices and entries of tables by `+`, `-`,
-- `*` and parentheses alone.
use Rattle.std.specs.Prelude.{ℕ, Option, Some, None, Result, Ok, slice_get}
use Rattle.pr_lang.specs.declared.trees.FixedOp.{FixedOp}
use Rattle.pr_lang.specs.declared.trees.FixedOp.TheVariants as fixed
use Rattle.pr_lang.specs.declared.trees.Fixed.{Fixed}
use Rattle.pr_lang.specs.declared.trees.BinOp.{BinOp}
use Rattle.pr_lang.specs.declared.trees.BinOp.TheVariants.{Add, Sub, Mul}
use Rattle.pr_lang.specs.declared.trees.Expr.{Expr}
use Rattle.pr_lang.specs.declared.trees.Expr.TheOpen.{Expr-F}
use Rattle.pr_lang.specs.declared.trees.Expr.TheFolds.{fold-Expr}
use Rattle.pr_scope_names.specs.declared.rules.Offence.{Offence}
use Rattle.pr_scope_names.specs.declared.names.Static.{Static}
use Rattle.pr_scope_names.specs.declared.names.Static.TheVariants.{Constant, Index, Table}
use Rattle.pr_scope_names.specs.Outcomes.{and_then}
use Rattle.pr_scope_names.specs.Names.{Known}
use Rattle.pr_scope_names.specs.Constants.{entry_of, applied, constant_of}

-- the value of a constant amount, or the step that has none; none where the amount is a stream
abbrev pub Amount : Type 0
Amount = Known → Option (Result ℕ Offence)

abbrev pub fixed_op : BinOp → Option FixedOp
fixed_op Add = Some fixed.Add
fixed_op Sub = Some fixed.Sub
fixed_op Mul = Some fixed.Mul
fixed_op _ = None

abbrev pub named_amount : Option Static → Option Fixed → Known → Option (Result ℕ Offence)
named_amount (Some (Constant n)) None known = Some (Ok n)
named_amount (Some (Index n)) None known = Some (Ok n)
named_amount (Some (Table entries)) (Some index) known =
    Some (and_then (constant_of index known) (λ place. entry_of (slice_get entries place)))
named_amount _ _ known = None

abbrev pub both_amounts : Option FixedOp → Option (Result ℕ Offence) → Option (Result ℕ Offence) →
    Option (Result ℕ Offence)
both_amounts (Some op) (Some a) (Some b) = Some (and_then a (λ x. and_then b (λ y. applied op x y)))
both_amounts _ _ _ = None

-- the amount that an expression is, where its parts' are known
abbrev pub amount_step : {R : Type 0} → (R → Amount) → Expr-F R → Amount
amount_step amount (Expr-F.Number n) known = Some (Ok n)
amount_step amount (Expr-F.Refer r) known = named_amount (known r.name) r.index known
amount_step amount (Expr-F.Binary op a b) known =
    both_amounts (fixed_op op) (amount a.value known) (amount b.value known)
amount_step amount (Expr-F.Paren e) known = amount e.value known
amount_step amount _ known = None

abbrev pub amount_of : Expr → Amount
amount_of = fold-Expr Amount (amount_step (λ a. a))
