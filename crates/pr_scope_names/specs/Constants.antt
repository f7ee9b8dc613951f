-- Constant expressions: their value, each step in 64 bits, from left to right.
use Rattle.std.specs.Prelude.{ℕ, ◌+◌, ◌-◌, ◌*◌, ◌/◌, ◌%◌, ◌^◌, not, nat_eq, nat_lt, nat_le, Option, Some, None, option_map, slice_get, Result, Ok, Err}
use Rattle.pr_lang.specs.declared.trees.FixedOp.{FixedOp}
use Rattle.pr_lang.specs.declared.trees.FixedOp.TheVariants.{Add, Sub, Mul, Div, Mod}
use Rattle.pr_lang.specs.declared.trees.Fixed.{Fixed}
use Rattle.pr_lang.specs.declared.trees.Fixed.TheOpen.{Fixed-F}
use Rattle.pr_lang.specs.declared.trees.Fixed.TheFolds.{fold-Fixed}
use Rattle.pr_lang.specs.declared.trees.Ref.{Ref}
use Rattle.pr_scope_names.specs.declared.rules.Rule.TheVariants.{Kinds, Steps, Divisors, Entries}
use Rattle.pr_scope_names.specs.declared.rules.Offence.{Offence}
use Rattle.pr_scope_names.specs.declared.rules.Offence.TheVariants.{Breaks}
use Rattle.pr_scope_names.specs.declared.names.Static.{Static}
use Rattle.pr_scope_names.specs.declared.names.Static.TheVariants.{Constant, Index, Table}
use Rattle.pr_scope_names.specs.Outcomes.{and_then, provided, optional}
use Rattle.pr_scope_names.specs.Names.{Known}

abbrev pub entry_of : Option ℕ → Result ℕ Offence
entry_of None = Err (Breaks Entries)
entry_of (Some n) = Ok n

-- what a name stands for, with an index or without one
abbrev pub read : Option Static → Option ℕ → Result ℕ Offence
read (Some (Constant n)) None = Ok n
read (Some (Index n)) None = Ok n
read (Some (Table entries)) (Some place) = entry_of (slice_get entries place)
read _ _ = Err (Breaks Kinds)

abbrev pub in_64_bits : ℕ → Result ℕ Offence
in_64_bits n = provided (nat_lt n (2 ^ 64)) Steps (Ok n)

abbrev pub applied : FixedOp → ℕ → ℕ → Result ℕ Offence
applied Add a b = in_64_bits (a + b)
applied Sub a b = provided (nat_le b a) Steps (Ok (a - b))
applied Mul a b = in_64_bits (a * b)
applied Div a b = provided (not (nat_eq b 0)) Divisors (Ok (a / b))
applied Mod a b = provided (not (nat_eq b 0)) Divisors (Ok (a % b))

abbrev pub fixed_step : Fixed-F (Known → Result ℕ Offence) → Known → Result ℕ Offence
fixed_step (Fixed-F.Number n) known = Ok n
fixed_step (Fixed-F.Refer name index) known =
    and_then (optional (option_map (λ i. i.value known) index)) (λ place. read (known name) place)
fixed_step (Fixed-F.Binary op a b) known =
    and_then (a.value known) (λ x. and_then (b.value known) (λ y. applied op x y))
fixed_step (Fixed-F.Paren e) known = e.value known

abbrev pub constant_of : Fixed → Known → Result ℕ Offence
constant_of = fold-Fixed (Known → Result ℕ Offence) fixed_step

-- the index that stands after a name, if there is one
abbrev pub place_of : Ref → Known → Result (Option ℕ) Offence
place_of r known = optional (option_map (λ i. constant_of i known) r.index)
