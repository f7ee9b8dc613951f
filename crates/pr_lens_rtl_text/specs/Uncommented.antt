-- Texts without their comments.
use Rattle.std.specs.Prelude.{ℕ, ◌==◌, ◌||◌, List, [], ◌∷◌, ◌++◌, if◌then◌else◌}

-- where a reader of a text stands: in code, there behind a space, a slash, or a space and a slash, or in a comment
pub data Reading : Type 0 where
  Code : Reading
  Space : Reading
  Slash : Reading
  Both : Reading
  Comment : Reading

-- the bytes of code that wait until it is known whether a comment begins with them
abbrev pub waiting : Reading → List ℕ
waiting Code = []
waiting Space = 32 ∷ []
waiting Slash = 47 ∷ []
waiting Both = 32 ∷ 47 ∷ []
waiting Comment = []

-- where the reader stands behind a byte that ends no such waiting, and what of that byte is code for sure
abbrev pub begun : ℕ → Reading
begun c = if c == 32 then Space else if c == 47 then Slash else Code

abbrev pub settled : ℕ → List ℕ
settled c = if (c == 32) || (c == 47) then [] else c ∷ []

-- where the reader stands behind one byte more: a comment begins with two slashes, and ends with its line
abbrev pub behind : Reading → ℕ → Reading
behind Code c = begun c
behind Space c = if c == 47 then Both else begun c
behind Slash c = if c == 47 then Comment else begun c
behind Both c = if c == 47 then Comment else begun c
behind Comment c = if c == 10 then Code else Comment

-- the bytes that are then known to be code
abbrev pub known : Reading → ℕ → List ℕ
known Code c = settled c
known Space c = if c == 47 then [] else waiting Space ++ settled c
known Slash c = if c == 47 then [] else waiting Slash ++ settled c
known Both c = if c == 47 then [] else waiting Both ++ settled c
known Comment c = if c == 10 then 10 ∷ [] else []

abbrev pub uncommented_from : Reading → List ℕ → List ℕ
uncommented_from reading [] = waiting reading
uncommented_from reading (c ∷ cs) = known reading c ++ uncommented_from (behind reading c) cs

-- a text without its comments, and without one space before each
abbrev pub uncommented : List ℕ → List ℕ
uncommented text = uncommented_from Code text
