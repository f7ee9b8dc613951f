-- What a step of a prepared stage makes.
use Rattle.std.specs.Prelude.{◌≡◌, ℕ, true, false, List, []}
use Rattle.pr_conf.specs.declared.pes.Pe.{Pe}
use Rattle.pr_conf.specs.StageMap.{made_from, registers_to, state_map}
use Rattle.pr_stripe_prepared.specs.declared.stages.Prepared.{Prepared}
use Rattle.pr_stripe_prepared.specs.Prepared.{IsPrepared}

-- so many registers are made of this row, of those before and of this state, and a state, as every stage makes them for which
-- this one stands
pub record IsStep (q : Prepared) (count : ℕ) (row before was made after : List ℕ) : Type 0 where
  pub registers : (pes : List Pe) → IsPrepared q pes count → made ≡ registers_to count 16 false pes (made_from 16 row was [] pes) before
  pub state : (pes : List Pe) → IsPrepared q pes count → after ≡ state_map 16 pes was row

-- the same, where a sample enters and zeros are passed on
pub record IsFirstStep (q : Prepared) (count : ℕ) (bus was made after : List ℕ) : Type 0 where
  pub registers : (pes : List Pe) → IsPrepared q pes count → made ≡ registers_to count 16 true pes (made_from 16 bus was [] pes) bus
  pub state : (pes : List Pe) → IsPrepared q pes count → after ≡ state_map 16 pes was bus
