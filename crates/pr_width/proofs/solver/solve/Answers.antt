use Rattle.std.proofs.Common.{◌≡◌, ℕ, subst, ap, inl}
use Rattle.pr_width.specs.declared.widths.WidthFault.TheVariants as WidthFault
use Rattle.pr_flat.specs.Shape.{shapes_of}
use Rattle.pr_flat.specs.Widths.{IsFirstWithout}
use Rattle.pr_flat.proofs.WidthsUnique.{ordered_of, AreWidths-unique, AreWidths-none_without, IsFirstWithout-unique}
use Rattle.pr_width.proofs.SolverLemmas.{below_none}
use Rattle.pr_width.proofs.solver.solve.Goals as goal

pub settled-requires : goal.settled-requires
settled-requires c = below_none c.args.flat.now.equations.items c.in_ok-declared.declared.items c.in_ok-declared.ensures

pub returns-in-Ok-clause-only_widths : goal.returns-in-Ok-clause-only_widths
returns-in-Ok-clause-only_widths c = λ widths all. AreWidths-unique (shapes_of c.args.flat.now.equations.items) widths c.in-Ok.of.items (ordered_of _ _ c.args.flat.now.lawful) all c.in-Ok.ensures.widths

pub returns-in-Err-clause-without : goal.returns-in-Err-clause-without
returns-in-Err-clause-without c = λ n same. let equal : c.in-Err.equation ≡ n = cc in let P : ℕ → Type 0 = λ k. IsFirstWithout (shapes_of c.args.flat.now.equations.items) k in subst P equal c.in-Err.ensures.without.0

pub returns-in-Err-clause-only_widths : goal.returns-in-Err-clause-only_widths
returns-in-Err-clause-only_widths c = λ widths all. absurd (AreWidths-none_without (shapes_of c.args.flat.now.equations.items) widths c.in-Err.equation (ordered_of _ _ c.args.flat.now.lawful) all c.in-Err.ensures.without.0)

pub returns-in-Ok-clause-only_without : goal.returns-in-Ok-clause-only_without
returns-in-Ok-clause-only_without c = λ n without. AreWidths-none_without (shapes_of c.args.flat.now.equations.items) c.in-Ok.of.items n (ordered_of _ _ c.args.flat.now.lawful) c.in-Ok.ensures.widths without

pub returns-in-Err-clause-only_without : goal.returns-in-Err-clause-only_without
returns-in-Err-clause-only_without c = λ n without. inl (ap WidthFault.NoWidth (IsFirstWithout-unique (shapes_of c.args.flat.now.equations.items) n c.in-Err.equation (ordered_of _ _ c.args.flat.now.lawful) without c.in-Err.ensures.without.0))
