-- The keys by which delays are found.
use Rattle.std.specs.Prelude.{ℕ, Bool, false, bytes_eq, cond, nat_eq, List, [], ◌∷◌, Option, Some, None, is_some}
use Rattle.std.specs.HashMap.{HashMap, get}
use Rattle.pr_scope_names.specs.Names.{bind, unbind}
use Rattle.pr_flat.specs.declared.equations.Operand.{Operand}
use Rattle.pr_flat.specs.declared.equations.Operand.TheVariants.{Const, Eq, Past}
use Rattle.pr_flat.specs.declared.equations.Op.{Op}
use Rattle.pr_flat.specs.declared.equations.Op.TheVariants.{Delay}

-- an operand and the number before its first one, as numbers
abbrev pub delay_key : Operand → ℕ → List ℕ
delay_key (Const a) c = 0 ∷ a ∷ 0 ∷ c ∷ []
delay_key (Eq i) c = 1 ∷ i ∷ 0 ∷ c ∷ []
delay_key (Past rec k) c = 2 ∷ rec ∷ k ∷ c ∷ []

-- the key of an equation that is a delay
abbrev pub key_in : Op → List Operand → Option (List ℕ)
key_in (Delay c) (q ∷ []) = Some (delay_key q c)
key_in op args = None

-- the number of the delay of each key
abbrev pub Found : Type 0
Found = List ℕ → Option ℕ

abbrev pub found_in : {S : Type 0} → HashMap (List ℕ) ℕ S → Found
found_in m key = get bytes_eq m key

abbrev pub is_number : ℕ → Option ℕ → Bool
is_number n None = false
is_number n (Some m) = nat_eq m n

-- the first of a key stays
abbrev pub with_key : Option (List ℕ) → ℕ → Found → Found
with_key None n found = found
with_key (Some key) n found = cond (is_some (found key)) found (bind key n found)

abbrev pub without_key : Option (List ℕ) → ℕ → Found → Found
without_key None n found = found
without_key (Some key) n found = cond (is_number n (found key)) (unbind key found) found
