-- Which files an order names.
use Rattle.std.specs.Prelude.{◌≡◌, ◌≢◌, ⊤, ℕ, List, Option, Some, None, IfSome}
use Rattle.pr_lens_tool.specs.Asked.{Asked, AskedTarget, AskedTask}
use Rattle.pr_lens_tool.specs.Replies.{samples_of}

-- this is not the file of the samples, where a task has some
abbrev pub IsNoSamples : AskedTask → List ℕ → Type 0
IsNoSamples task q = IfSome (samples_of task) (λ samples. q ≢ samples)

-- a task names this file once at most
abbrev pub IsOnceFile : AskedTask → AskedTarget → List ℕ → Type 0
IsOnceFile task target q = q ≡ target.file → IsNoSamples task q

-- it does not name it
abbrev pub IsOtherFile : AskedTask → AskedTarget → List ℕ → Type 0
IsOtherFile task target q = (q ≢ target.file) × IsNoSamples task q

-- the same of what is asked for, if something is
abbrev pub IsOnce : Option Asked → List ℕ → Type 0
IsOnce None q = ⊤
IsOnce (Some order) q = IsOnceFile order.task order.target q

abbrev pub IsOther : Option Asked → List ℕ → Type 0
IsOther None q = ⊤
IsOther (Some order) q = IsOtherFile order.task order.target q
