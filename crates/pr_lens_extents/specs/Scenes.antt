-- What is known of the names that are visible.
use Rattle.std.specs.Prelude.{ℕ, Bool, true, List, Option, Some, None, option_map}
use Rattle.std.specs.Option.{option_and_then}
use Rattle.std.specs.Result.{result_ok}
use Rattle.pr_lang.specs.declared.trees.Fixed.{Fixed}
use Rattle.pr_lang.specs.declared.trees.Fixed.TheOpen.{Fixed-F}
use Rattle.pr_lang.specs.declared.trees.Fixed.TheFolds.{fold-Fixed}
use Rattle.pr_lang.specs.declared.trees.FixedOp.{FixedOp}
use Rattle.pr_lang.specs.declared.trees.Ref.{Ref}
use Rattle.pr_scope_names.specs.Constants.{applied}
use Rattle.pr_scope_names.specs.Names.{ByInstance, instances_in, placed, with_instance}
use Rattle.pr_lens_reach.specs.declared.extents.Extent.{Extent}
use Rattle.pr_lens_extents.specs.declared.scenes.Scene.{Scene}
use Rattle.pr_lens_reach.specs.Extents.{constant}

-- the constants and entries of tables, and the streams and indices of loops, with what is known of them; and functions with
-- the places of arguments that they read by `signed`
pub record Seen : Type 0 where
  pub constants : ByInstance ℕ
  pub streams : ByInstance (Option Extent)
  pub signs : ByInstance Bool

abbrev pub seen_in : Scene → Seen
seen_in s = record { constants = instances_in s.constants; streams = instances_in s.streams; signs = instances_in s.signs }

abbrev pub nothing_seen : Seen
nothing_seen = record { constants = λ name. None; streams = λ name. None; signs = λ name. None }

-- what is known of a name, with an index or without one
abbrev pub known_of : Option ℕ → Option (Option Extent) → Option Extent
known_of (Some n) stream = Some (constant n)
known_of None (Some e) = e
known_of None None = None

abbrev pub known_at : List ℕ → Option ℕ → Seen → Option Extent
known_at name place seen = known_of (placed (seen.constants name) place) (placed (seen.streams name) place)

abbrev pub number_in : Extent → Option ℕ
number_in e = e.number

abbrev pub number_at : List ℕ → Option ℕ → Seen → Option ℕ
number_at name place seen = option_and_then number_in (known_at name place seen)

-- ---- constant expressions
abbrev pub both_applied : FixedOp → Option ℕ → Option ℕ → Option ℕ
both_applied o (Some a) (Some b) = result_ok (applied o a b)
both_applied o _ _ = None

abbrev pub fixed_step : Fixed-F (Seen → Option ℕ) → Seen → Option ℕ
fixed_step (Fixed-F.Number n) seen = Some n
fixed_step (Fixed-F.Refer name None) seen = number_at name None seen
fixed_step (Fixed-F.Refer name (Some i)) seen = option_and_then (λ place. number_at name (Some place) seen) (i.value seen)
fixed_step (Fixed-F.Binary o a b) seen = both_applied o (a.value seen) (b.value seen)
fixed_step (Fixed-F.Paren e) seen = e.value seen

abbrev pub fixed_value : Fixed → Seen → Option ℕ
fixed_value = fold-Fixed (Seen → Option ℕ) fixed_step

-- the index behind a name; none where it has no value
abbrev pub place_by : Option Fixed → Seen → Option (Option ℕ)
place_by None seen = Some None
place_by (Some i) seen = option_map Some (fixed_value i seen)

abbrev pub known_of_target : Ref → Seen → Option Extent
known_of_target r seen = option_and_then (λ place. known_at r.name place seen) (place_by r.index seen)

-- ---- what comes to be known
abbrev pub with_stream : List ℕ → Option ℕ → Option Extent → Seen → Seen
with_stream name place e seen = record seen { streams = with_instance name place e seen.streams }

abbrev pub with_constant : List ℕ → Option ℕ → ℕ → Seen → Seen
with_constant name place n seen = record seen { constants = with_instance name place n seen.constants }

abbrev pub with_sign : List ℕ → ℕ → Seen → Seen
with_sign function place seen = record seen { signs = with_instance function (Some place) true seen.signs }

abbrev pub placed_stream : Option (Option ℕ) → List ℕ → Option Extent → Seen → Seen
placed_stream None name e seen = seen
placed_stream (Some place) name e seen = with_stream name place e seen

abbrev pub with_target : Ref → Option Extent → Seen → Seen
with_target r e seen = placed_stream (place_by r.index seen) r.name e seen
