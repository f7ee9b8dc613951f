-- A configuration that does what a program means.
use Rattle.std.specs.Prelude.{◌≡◌, ℕ, List, All, map, Some, option_map}
use Rattle.pr_base.specs.Rows.{IsRow, row_bytes}
use Rattle.pr_flat.specs.Forms.{Stream}
use Rattle.pr_lang.specs.declared.trees.Program.{Program}
use Rattle.pr_lang_meaning.specs.Programs.{out, streams_of}
use Rattle.pr_scope.specs.Walk.{inputs_after, program_walk}
use Rattle.pr_conf.specs.Shape.{Shape}
use Rattle.pr_conf.specs.Through.{results_of, result_numbers, output_widths}

-- its inputs are those of the program, its outputs are as wide as the program's streams, and what it makes of lawful samples
-- is what the program means on them, as numbers and as bytes
pub record IsMeant (N P : ℕ) (program : Program) (conf : Shape) : Type 0 where
  pub inputs : conf.inputs ≡ inputs_after (program_walk program)
  pub widths : (samples : List (List ℕ)) → option_map (map (λ (s : Stream). s.form.width)) (streams_of program samples) ≡ Some (output_widths conf)
  pub numbers : (samples : List (List ℕ)) → All (IsRow conf.inputs) samples → result_numbers N P conf (map (row_bytes conf.inputs) samples) ≡ out program samples
  pub bytes : (samples : List (List ℕ)) → All (IsRow conf.inputs) samples → results_of N P conf (map (row_bytes conf.inputs) samples) ≡ map (row_bytes (output_widths conf)) (out program samples)
