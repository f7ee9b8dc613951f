-- The summary of a configuration.
use Rattle.std.specs.Prelude.{ℕ, ◌+◌, Bool, true, false, nat_lt, List, [], ◌∷◌, ◌++◌, length, codes, decimal, count_by}
use Rattle.pr_base.specs.declared.choices.Next.{Next}
use Rattle.pr_conf.specs.declared.pes.Pe.{Pe}
use Rattle.pr_conf.specs.Shape.{Shape}
use Rattle.pr_code.specs.Spelling.{is_set}

-- the processing element writes a register
abbrev pub writes : Pe → Bool
writes pe = nat_lt 0 pe.write

abbrev pub is_changed : Next → Bool
is_changed Next.Keep = false
is_changed Next.Output = true
is_changed Next.A = true

-- the processing element changes its state
abbrev pub changes_state : Pe → Bool
changes_state pe = is_changed pe.next

abbrev pub head_line : ℕ → ℕ → ℕ → List ℕ
head_line stages inputs outputs =
    codes "stages " ++ decimal stages ++ codes " inputs " ++ decimal inputs ++ codes " outputs " ++ decimal outputs ++ codes "\n"

-- the line of a stage of this number
abbrev pub stage_line : ℕ → List Pe → List ℕ
stage_line number pes =
    codes "stage " ++ decimal number
    ++ codes " cells " ++ decimal (count_by is_set pes)
    ++ codes " writes " ++ decimal (count_by writes pes)
    ++ codes " states " ++ decimal (count_by changes_state pes)
    ++ codes "\n"

-- the lines of stages, the first of this number
unfoldable pub stage_lines : ℕ → List (List Pe) → List ℕ
stage_lines number [] = []
stage_lines number (pes ∷ stages) = stage_line number pes ++ stage_lines (number + 1) stages

abbrev pub shown : Shape → List ℕ
shown c = head_line (length c.stages) (length c.inputs) (length c.outputs) ++ stage_lines 0 c.stages
