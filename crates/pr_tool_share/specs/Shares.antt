-- What the mode comes to that runs the programs of a list in turns.
use Rattle.std.specs.Prelude.{◌≡◌, ◌≢◌, ◌⊎◌, ℕ, List, map}
use Rattle.pr_edge.specs.Count.{Rose}
use Rattle.pr_machine.specs.declared.machine.Machine.{Machine}
use Rattle.pr_machine.specs.declared.machine.Bare.{Bare}
use Rattle.pr_machine.specs.declared.machine.Idle.{Idle}
use Rattle.pr_machine.specs.Stands.{bare_stripes}
use Rattle.pr_share.specs.Items.{World, world, AreShared, AreStopped}
use Rattle.pr_tool_share.specs.Entries.{Entry}
use Rattle.pr_tool_answers.specs.declared.answers.Answer.{Answer}
use Rattle.pr_tool_modes.specs.Calls.{Call}
use Rattle.pr_tool_modes.specs.Files.{ShowsFault}
use Rattle.pr_tool_share.specs.Lists.{HasList, IsListRefusal, IsProgramRefusal, IsNoProgram}
use Rattle.pr_tool_share.specs.Ends.{answer_of_all}
use Rattle.pr_tool_share.specs.Items.{Item, AreItemsOf, end_of}

-- the list is taken, and a program is refused
pub record IsProgramRefused (list : List ℕ) (k : Call) (answer : Answer) : Type 0 where
  pub entries : List Entry
  pub has : HasList k.before.told list entries
  pub refused : IsProgramRefusal k.before.told k.before.faults k.now.faults 0 entries answer

-- nothing was written: the list is refused or a program of it, or memory was wanting. The samples were not read
pub record IsHeldBack (list : List ℕ) (k : Call) (answer : Answer) : Type 0 where
  pub cause : IsListRefusal k.before.told list k.before.faults k.now.faults answer ⊎ (IsProgramRefused list k answer ⊎ (answer ≡ Answer.Memory))
  pub unwritten : k.new ≡ k.old
  pub unread : (q : List ℕ) → q ≢ list → ((entries : List Entry) → HasList k.before.told list entries → IsNoProgram entries q) → k.now.reach q ≡ k.before.reach q
  pub shown : ShowsFault k.before.faults k.now.faults answer

-- the samples of all programs have ended, or a write failed
abbrev pub HaveTaken : List Item → List Item → World → World → ℕ → ℕ → Answer → Type 0
HaveTaken firsts items start now out_before out_now answer =
    (AreShared firsts items start now × (answer ≡ answer_of_all (map end_of items)))
    ⊎ (AreStopped firsts items start now × ((answer ≡ Answer.WriteFault) × Rose out_before out_now))

-- they took turns on a machine of so many stripes. What is written and what the programs come to is the same on each, so that
-- nothing more can be said of it
pub record HaveTurned (stripes : ℕ) (firsts items : List Item) (start now : World) (out_before out_now : ℕ) (answer : Answer) : Type 0 where
  pub machine : Machine 16 8 Bare (Idle 16 8)
  pub stripes_are : bare_stripes machine ≡ stripes
  pub taken : HaveTaken firsts items start now out_before out_now answer

-- all programs were compiled, no read failed so far, and they have taken turns on a machine of so many stripes
pub record HaveShared (list : List ℕ) (stripes : ℕ) (k : Call) (answer : Answer) : Type 0 where
  pub entries : List Entry
  pub has : HasList k.before.told list entries
  pub firsts : List Item
  pub ready : AreItemsOf k.before.told entries firsts
  pub items : List Item
  pub turned : HaveTurned stripes firsts items (world k.before.told k.before.faults k.old) (world k.before.told k.now.faults k.new) k.out_before k.out_now answer

abbrev pub IsSharedBy : List ℕ → ℕ → Call → Answer → Type 0
IsSharedBy list stripes k answer = IsHeldBack list k answer ⊎ HaveShared list stripes k answer
