-- Results, read from the bytes of a row.
use Rattle.std.specs.Prelude.{ℕ, List, map}
use Rattle.std.specs.List.{flat_map}
use Rattle.pr_conf.specs.declared.outputs.Output.{Output}
use Rattle.pr_conf.specs.Through.{tap_byte}

-- the bytes of these outputs
abbrev pub bytes_read : ℕ → List ℕ → List Output → List ℕ
bytes_read N row outputs = flat_map (λ o. map (tap_byte N row) o.taps.items) outputs
