-- In which round each column of a stage is right: a column comes after those whose outputs it reads, and after those whose
-- carry-out is its C.
use Rattle.std.specs.Prelude.{◌≡◌, ℕ, ◌-◌, ◌<◌, ◌≤◌, ◌&&◌, Bool, true, List, [], length, take, slice_index, slice_index_or, nat_lt}
use Rattle.pr_base.specs.declared.choices.Carry.{Carry}
use Rattle.pr_conf.specs.declared.pes.Pe.{Pe}
use Rattle.pr_conf.specs.declared.pes.Bit.{Bit}
use Rattle.pr_conf.specs.declared.pes.Source.{Source}
use Rattle.pr_conf.specs.StageMap.{made_from, last_carry}
use Rattle.pr_stripe_columns.specs.Elements.{IsColumn}
use Rattle.pr_stripe_prepared.specs.declared.stages.Prepared.{Prepared}
use Rattle.pr_stripe_prepared.specs.Elements.{is_chain}

-- whether the column of a source is right a round before column k
abbrev pub is_seen : List ℕ → ℕ → Source → Bool
is_seen levels k (Source.Const byte) = true
is_seen levels k (Source.Prev col reg) = true
is_seen levels k (Source.Here col) = nat_lt col k && nat_lt (slice_index levels col) (slice_index levels k)
is_seen levels k (Source.State col) = true
is_seen levels k (Source.Bus place) = true

abbrev pub is_seen_bit : List ℕ → ℕ → Carry → Bit → Bool
is_seen_bit levels k cin Bit.None = true
is_seen_bit levels k cin (Bit.Of source place) = is_seen levels k source
is_seen_bit levels k cin Bit.CarryIn = is_chain cin && nat_lt (slice_index levels (k - 1)) (slice_index levels k)

-- column k, in its round
pub record IsOrdered (levels : List ℕ) (rounds k : ℕ) (pe : Pe) : Type 0 where
  pub before : slice_index levels k < rounds
  pub a : is_seen levels k pe.a ≡ true
  pub hi : is_seen levels k pe.hi ≡ true
  pub lo : is_seen levels k pe.lo ≡ true
  pub c : is_seen_bit levels k pe.cin pe.c ≡ true
  pub chain : is_chain pe.cin ≡ true → slice_index levels (k - 1) ≤ slice_index levels k

-- what r rounds made: the columns of the first r levels are right
pub record IsRight (q : Prepared) (pes : List Pe) (row st a output carries : List ℕ) (r : ℕ) : Type 0 where
  pub columns : (k : ℕ) (d : Pe) → k < 16 → slice_index q.levels k < r → IsColumn row st pes k (slice_index_or pes k d) (slice_index output k) (slice_index a k)
  pub carried : (k : ℕ) (d : Pe) → k < 16 → q.has_sums ≡ true → is_chain (slice_index_or pes k d).cin ≡ true → slice_index q.levels (k - 1) < r → slice_index carries k ≡ last_carry (take k (made_from (length st) row st [] pes))
