-- The limits of the product.
use Rattle.std.specs.Prelude.{ℕ}
use Rattle.pr_base.specs.declared.caps.Cap.{Cap}
use Rattle.pr_base.specs.declared.fabrics.Fabric.{Fabric}
use Rattle.pr_base.specs.Fabrics.{columns}

-- bytes of a program at most
abbrev pub most_program_bytes : ℕ
most_program_bytes = 1048576

-- bytes of a stall text at most
abbrev pub most_stall_bytes : ℕ
most_stall_bytes = 1048576

-- bytes of a configuration or a checkpoint at most
abbrev pub most_config_bytes : ℕ
most_config_bytes = 16777216

-- bytes of a list of programs at most
abbrev pub most_list_bytes : ℕ
most_list_bytes = 65536

-- bytes of a sample file at most where a program is evaluated on it
abbrev pub most_evaluated_bytes : ℕ
most_evaluated_bytes = 16777216

-- the number that a quantity may not pass, for programs on this fabric
abbrev pub cap_number : Fabric → Cap → ℕ
cap_number fabric Cap.ProgramBytes = most_program_bytes
cap_number fabric Cap.Nesting = 256
cap_number fabric Cap.Turns = 65536
cap_number fabric Cap.Equations = 16384
cap_number fabric Cap.InputBytes = columns fabric
cap_number fabric Cap.Outputs = 64
cap_number fabric Cap.Units = 32768
cap_number fabric Cap.StallBytes = most_stall_bytes
cap_number fabric Cap.ConfigBytes = most_config_bytes
cap_number fabric Cap.SampleBytes = 17592186044416
cap_number fabric Cap.Samples = 1099511627776
cap_number fabric Cap.ListBytes = most_list_bytes
