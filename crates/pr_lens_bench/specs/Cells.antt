-- The lines that fill the memories: one for each sample and its result.
use Rattle.std.specs.Prelude.{ℕ, suc, List, [], ◌∷◌, ◌++◌, codes, decimal}
use Rattle.pr_lens_rtl_names.specs.declared.names.Side.{Side}
use Rattle.pr_lens_rtl_text.specs.declared.ports.Port.{Port}

abbrev pub letter_text : Side → List ℕ
letter_text Side.Input = codes " s_"
letter_text Side.Output = codes " w_"

-- the number of a port, in the sample or the result of this place
unfoldable pub cell_text : Side → ℕ → Port → ℕ → List ℕ
cell_text side k port n =
    letter_text side ++ port.name ++ codes "[" ++ decimal k ++ codes "] = " ++ decimal port.width ++ codes "'d" ++ decimal n
    ++ codes ";"

abbrev pub cells_text : Side → ℕ → List Port → List ℕ → List ℕ
cells_text side k [] numbers = []
cells_text side k (port ∷ ports) [] = []
cells_text side k (port ∷ ports) (n ∷ numbers) = cell_text side k port n ++ cells_text side k ports numbers

abbrev pub row_text : (inputs outputs : List Port) → ℕ → (sample result : List ℕ) → List ℕ
row_text inputs outputs k sample result =
    codes "   " ++ cells_text Side.Input k inputs sample ++ cells_text Side.Output k outputs result ++ codes "\n"

-- samples from a place on, each with its result
abbrev pub rows_text : (inputs outputs : List Port) → ℕ → (samples results : List (List ℕ)) → List ℕ
rows_text inputs outputs k [] results = []
rows_text inputs outputs k (sample ∷ samples) [] = []
rows_text inputs outputs k (sample ∷ samples) (result ∷ results) =
    row_text inputs outputs k sample result ++ rows_text inputs outputs (suc k) samples results
