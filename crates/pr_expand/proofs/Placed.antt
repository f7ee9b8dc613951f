-- A name that gets a stream.
use mathlib.Core.Path.{fun_ext}
use Rattle.std.proofs.Common.{◌≡◌, ℕ, List, Option}
use Rattle.pr_scope_names.specs.Names.{ByInstance, with_instance}
use Rattle.pr_scope_names.proofs.Placing.{placed-with}
use Rattle.pr_expand_spec.specs.declared.givens.Standing.{Standing}
use Rattle.pr_expand_spec.specs.Statements.{with_standing}
use Rattle.pr_expand.specs.Code.{streams_by}

pub with_place : (name : List ℕ) (place : Option ℕ) (b : Standing) (s : ByInstance Standing) → streams_by (with_instance name place b s) ≡ with_standing name place b (streams_by s)
with_place name place b s = fun_ext (λ q. fun_ext (placed-with name place b s q))
