-- What follows of what a call owes.
use Rattle.std.proofs.Common.{◌≡◌, ◌⊎◌, ℕ, sym, ◌∙◌, arith, inl, inr}
use Rattle.pr_edge.specs.Count.{Rose, IsSteady}
use Rattle.pr_tool_answers.specs.declared.answers.Answer.{Answer}
use Rattle.pr_tool_answers.specs.Owed.{IsOwed}

-- what is owed by one verdict is owed by a wider one
pub owed_by : (P Q : Answer → Type 0) (sb sn ob on : ℕ) (a : Answer) → (P a → Q a) → IsOwed P sb sn ob on a → IsOwed Q sb sn ob on a
owed_by P Q sb sn ob on a wider (inl is) = inl (wider is)
owed_by P Q sb sn ob on a wider (inr fault) = inr fault

-- what is owed for less time is owed for more
pub owed_longer : (P : Answer → Type 0) (sb sm sn ob on : ℕ) (a : Answer) → (Rose sm sn → Rose sb sn) → IsOwed P sm sn ob on a → IsOwed P sb sn ob on a
owed_longer P sb sm sn ob on a longer (inl is) = inl is
owed_longer P sb sm sn ob on a longer (inr (inl read)) = inr (inl (read.0, longer read.1))
owed_longer P sb sm sn ob on a longer (inr (inr rest)) = inr (inr rest)

-- where no count rose, the verdict came or memory was wanting
pub owed_steady : (P : Answer → Type 0) (sb sn ob on : ℕ) (a : Answer) → IsOwed P sb sn ob on a → IsSteady sb sn → IsSteady ob on → P a ⊎ (a ≡ Answer.Memory)
owed_steady P sb sn ob on a (inl is) shelf sink = inl is
owed_steady P sb sn ob on a (inr (inl read)) shelf sink = absurd (omega (arith, read.1, shelf))
owed_steady P sb sn ob on a (inr (inr (inl write))) shelf sink = absurd (omega (arith, write.1, sink))
owed_steady P sb sn ob on a (inr (inr (inr memory))) shelf sink = inr memory

-- where a failed read is told, the verdict tells it or the count of the shelf rose
pub owed_read : (P : Answer → Type 0) (sb sn ob on : ℕ) (a : Answer) → a ≡ Answer.ReadFault → IsOwed P sb sn ob on a → P a ⊎ Rose sb sn
owed_read P sb sn ob on a is (inl verdict) = inl verdict
owed_read P sb sn ob on a is (inr (inl read)) = inr read.1
owed_read P sb sn ob on a is (inr (inr (inl write))) = absurd (let no : Answer.ReadFault ≡ Answer.WriteFault = sym is ∙ write.0 in cc)
owed_read P sb sn ob on a is (inr (inr (inr memory))) = absurd (let no : Answer.ReadFault ≡ Answer.Memory = sym is ∙ memory in cc)
