-- Names for the outputs that show stream instances: longer than every name of the program, and each another one.
use Rattle.std.specs.Prelude.{◌≡◌, ℕ, zero, suc, ◌+◌, ◌/◌, ◌%◌, Bool, true, nat_le, List, [], ◌∷◌, length, replicate, ⊤}
use Rattle.pr_lang.specs.declared.trees.Item.{Item}
use Rattle.pr_lang.specs.declared.trees.Item.TheVariants.{Const, Table, Function}
use Rattle.pr_scope_names.specs.declared.streams.Instance.{Instance}
use Rattle.pr_probe.specs.Probes.{Probe}

-- whether a name has at most so many bytes
abbrev pub is_within : ℕ → List ℕ → Bool
is_within most name = nat_le (length name) most

-- the name of this number: the number in two bytes, and then so many dots
abbrev pub fresh_name : ℕ → ℕ → List ℕ
fresh_name most number = (number % 256) ∷ (number / 256) ∷ replicate most 46

-- the names of so many numbers, from this one on
abbrev pub fresh_names : ℕ → ℕ → ℕ → List (List ℕ)
fresh_names most number zero = []
fresh_names most number (suc count) = fresh_name most number ∷ fresh_names most (number + 1) count

-- the output of this number, which shows an instance
abbrev pub probe_at : ℕ → ℕ → Instance → Probe
probe_at most number i = record { fresh = fresh_name most number; name = i.name; index = i.index }

-- one for each instance
abbrev pub probes_from : ℕ → ℕ → List Instance → List Probe
probes_from most number [] = []
probes_from most number (i ∷ is) = probe_at most number i ∷ probes_from most (number + 1) is

-- a test holds of the name that an item introduces, unless that is a stream
abbrev pub IsNamed : (List ℕ → Bool) → Item → Type 0
IsNamed test (Const name value) = test name ≡ true
IsNamed test (Table name values) = test name ≡ true
IsNamed test (Function name params width body result) = test name ≡ true
IsNamed test _ = ⊤
