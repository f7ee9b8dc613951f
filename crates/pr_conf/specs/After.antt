-- A configuration after some samples: the same stages, each beginning in the state in which these left it.
use Rattle.std.specs.Prelude.{ℕ, ◌+◌, List, [], ◌∷◌, length, slice_index_or, slice_set}
use Rattle.pr_conf_pipeline.specs.Rows.{state_after}
use Rattle.pr_conf.specs.declared.pes.Pe.{Pe}
use Rattle.pr_conf.specs.Shape.{Shape}
use Rattle.pr_conf.specs.Through.{steps_of}

-- the processing elements of a stage, each beginning with its byte of a state row
abbrev pub begun : List Pe → List ℕ → List Pe
begun [] state = []
begun (pe ∷ pes) [] = pe ∷ pes
begun (pe ∷ pes) (byte ∷ state) = record pe { init = byte } ∷ begun pes state

-- the stages, of which this one begins in a state row
abbrev pub with_begun : List (List Pe) → ℕ → List ℕ → List (List Pe)
with_begun stages stage state = slice_set stages stage (begun (slice_index_or stages stage []) state)

-- the stages from this number on, each beginning with its state row
abbrev pub all_begun : (ℕ → List ℕ) → ℕ → List (List Pe) → List (List Pe)
all_begun states stage [] = []
all_begun states stage (pes ∷ stages) = begun pes (states stage) ∷ all_begun states (stage + 1) stages

-- the configuration whose stages begin with these state rows
abbrev pub with_states : Shape → (ℕ → List ℕ) → Shape
with_states c states = record c { stages = all_begun states 0 c.stages }

-- the state row of a stage after a list of samples
abbrev pub state_rows : ℕ → ℕ → Shape → List (List ℕ) → ℕ → List ℕ
state_rows N P c samples stage = state_after (steps_of N P c) stage (length samples) samples

-- the configuration after a list of samples
unfoldable pub conf_after : ℕ → ℕ → Shape → List (List ℕ) → Shape
conf_after N P c samples = with_states c (state_rows N P c samples)
