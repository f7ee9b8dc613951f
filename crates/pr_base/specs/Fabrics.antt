-- The fabrics of the product.
use Rattle.std.specs.Prelude.{ℕ}
use Rattle.pr_base.specs.declared.fabrics.Fabric.{Fabric}

abbrev pub columns : Fabric → ℕ
columns Fabric.Base = 16
columns Fabric.Wide = 32

abbrev pub registers : Fabric → ℕ
registers Fabric.Base = 8
registers Fabric.Wide = 16
