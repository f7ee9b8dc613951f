-- A number of an input at the front of some bytes.
use Rattle.std.specs.Prelude.{◌≡◌, ℕ, ◌+◌, ◌^◌, ◌<◌, ◌≤◌, true, List, length, take, slice_index}
use Rattle.std.specs.List.{list_all}
use Rattle.pr_samples.specs.Fed.{is_digit, value_after}

-- these bytes begin with digits, which write a number n of an input of this width, and this byte after them; both are `used`
-- bytes
pub record BeginsItem (width stop used n : ℕ) (bytes : List ℕ) : Type 0 where
  pub count : ℕ
  pub some : 0 < count
  pub whole : used ≡ count + 1
  pub within : used ≤ length bytes
  pub digits : list_all is_digit (take count bytes) ≡ true
  pub number : n ≡ value_after 0 (take count bytes)
  pub low : n < 2 ^ width
  pub end : slice_index bytes count ≡ stop
