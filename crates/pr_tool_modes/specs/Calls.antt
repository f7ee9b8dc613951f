-- What a call is given and what it leaves.
use Rattle.std.specs.Prelude.{◌≡◌, ◌≤◌, ℕ, List}
use Rattle.pr_edge.specs.Tape.{Tape, Written}
use Rattle.pr_edge.specs.Files.{View}
use Rattle.pr_tool_modes.specs.Files.{IsInOrder}

-- what the shelf shows, and what the output tells and counts; before a call and after it
pub record Call : Type 0 where
  pub before : View
  pub now : View
  pub old : Tape
  pub new : Tape
  pub out_before : ℕ
  pub out_now : ℕ

abbrev pub call : View → View → Written → Written → Call
call before now old new = record {
  before = before;
  now = now;
  old = old.told;
  new = new.told;
  out_before = old.faults;
  out_now = new.faults;
}

-- whatever a call comes to: the shelf tells what it told; each of the first files is read in order, and no byte of it twice; none of
-- the other files is read; and the count of faults does not fall
pub record IsOrderly (Once Other : List ℕ → Type 0) (before now : View) : Type 0 where
  pub told : now.told ≡ before.told
  pub once : (q : List ℕ) → Once q → IsInOrder (before.reach q) (now.reach q)
  pub others : (q : List ℕ) → Other q → now.reach q ≡ before.reach q
  pub later : before.faults ≤ now.faults
