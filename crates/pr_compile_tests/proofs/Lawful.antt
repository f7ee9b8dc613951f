-- Programs have widths, and their nets are lawful.
use Rattle.std.proofs.Common.{◌≡◌, ℕ, None, List, sym, subst}
use Rattle.pr_compile_front.specs.declared.fronts.Front.{Front}
use Rattle.pr_compile_front.specs.Passed.{IsPassed}
use Rattle.pr_flat.specs.declared.equations.Operand.{Operand}
use Rattle.pr_flat.specs.Shape.{EquationShape, shapes_of}
use Rattle.pr_flat.specs.Facts.{IsFlat}
use Rattle.pr_flat.specs.Widths.{AreWidths}
use Rattle.pr_net.specs.Shape.{NetShape}
use Rattle.pr_net.specs.Nets.{IsNet}
use Rattle.pr_cut_units.specs.Nets.{net_of, limit_passed}
use Rattle.pr_cut_units.proofs.StartNets.{are_lawful}

pub cut_lawful : (N : ℕ) (equations : List EquationShape) (widths : List ℕ) (outputs : List Operand) (net : NetShape) → IsFlat equations outputs → AreWidths equations widths → net ≡ net_of equations widths outputs → limit_passed N (net_of equations widths outputs) ≡ None → IsNet N net
cut_lawful N equations widths outputs net flat are is within = subst (IsNet N) (sym is) (are_lawful N equations widths outputs flat are within)

pub front_widths : (text : List ℕ) (f : Front) → IsPassed text f → AreWidths (shapes_of f.flat.equations.items) f.widths
front_widths text f passed = subst (λ (es : List EquationShape). AreWidths es f.widths) (sym passed.flat.equations) passed.widths.are
