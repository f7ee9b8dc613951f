-- Flat equations as lists.
use Rattle.std.specs.Prelude.{List}
use Rattle.pr_flat.specs.declared.flat.Flat.{Flat}
use Rattle.pr_flat.specs.Shape.{EquationShape, shapes_of}

abbrev pub equations_of : Flat → List EquationShape
equations_of flat = shapes_of flat.equations.items
