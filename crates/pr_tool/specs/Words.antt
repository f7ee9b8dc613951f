-- What the words of a command line ask for, which files are read for it, and its limits.
use Rattle.std.specs.Prelude.{◌≡◌, ◌≢◌, ℕ, List, Option, Some, None, map, string_bytes, String, ⊤}
use Rattle.std.specs.declared.alloc.Global.{Global}
use Rattle.pr_base.specs.declared.caps.Cap.{Cap}
use Rattle.pr_base.specs.declared.fabrics.Fabric.{Fabric}
use Rattle.pr_base.specs.Limits.{cap_number}
use Rattle.pr_base.specs.Limits.{most_evaluated_bytes}
use Rattle.pr_edge.specs.Files.{Told}
use Rattle.pr_tool_words.specs.Lawful.{Order, Task, Eval, Share, lawful_words}
use Rattle.pr_tool_modes.specs.Jobs.{IsNotNamed, IsNamedOnce, IsResumedOnce}
use Rattle.pr_tool_modes.specs.Resumptions.{IsNoFile}
use Rattle.pr_tool_modes.specs.Sources.{name_in}
use Rattle.pr_tool_share.specs.Lists.{IsListedOnce, IsUnlisted}
use Rattle.pr_tool.specs.declared.notes.Bounds.{Bounds}
use Rattle.pr_tool.specs.Requests.{Request, Texts, Runs, Folds, Moves, Extends, Evaluates, Generates, Shares, request_of}

-- what is asked for, if the words are lawful
abbrev pub Asked : Type 0
Asked = Option Order

abbrev pub asked_by : List (String Global) → Asked
asked_by words = lawful_words (map string_bytes words)

-- ---- files
-- this is no file that is read for a request; which files a list of programs names is told by its text
abbrev pub IsOtherFile : Told → Request → List ℕ → Type 0
IsOtherFile told (Texts form source) q = q ≢ name_in source
IsOtherFile told (Runs j) q = IsNotNamed j q
IsOtherFile told (Folds j) q = IsNotNamed j q
IsOtherFile told (Moves r) q = IsNoFile r q
IsOtherFile told (Extends r) q = IsNoFile r q
IsOtherFile told (Evaluates first second) q = (q ≢ first) × (q ≢ second)
IsOtherFile told (Generates g) q = ⊤
IsOtherFile told (Shares list stripes) q = IsUnlisted told list q

abbrev pub IsOther : Told → Asked → List ℕ → Type 0
IsOther told None q = ⊤
IsOther told (Some order) q = IsOtherFile told (request_of order) q

-- at most one file that is read for a request is of this name, and that one is not the samples of a listed program
abbrev pub IsOnceFile : Told → Request → List ℕ → Type 0
IsOnceFile told (Texts form source) q = ⊤
IsOnceFile told (Runs j) q = IsNamedOnce j q
IsOnceFile told (Folds j) q = IsNamedOnce j q
IsOnceFile told (Moves r) q = IsResumedOnce r q
IsOnceFile told (Extends r) q = IsResumedOnce r q
IsOnceFile told (Evaluates first second) q = q ≡ first → q ≢ second
IsOnceFile told (Generates g) q = ⊤
IsOnceFile told (Shares list stripes) q = IsListedOnce told list q

abbrev pub IsOnce : Told → Asked → List ℕ → Type 0
IsOnce told None q = ⊤
IsOnce told (Some order) q = IsOnceFile told (request_of order) q

-- ---- limits
-- the bytes of a file of samples
abbrev pub sample_bytes : Task → ℕ
sample_bytes (Eval program samples) = most_evaluated_bytes
sample_bytes task = cap_number Fabric.Base Cap.SampleBytes

-- the fabric of the programs; those of a list are for the base fabric
abbrev pub fabric_for : Order → Task → Fabric
fabric_for order (Share list) = Fabric.Base
fabric_for order task = order.fabric

abbrev pub bounds_for : Order → Bounds
bounds_for order = record { fabric = fabric_for order order.task; sample_bytes = sample_bytes order.task }

abbrev pub bounds_in : Asked → Bounds
bounds_in None = record { fabric = Fabric.Base; sample_bytes = cap_number Fabric.Base Cap.SampleBytes }
bounds_in (Some order) = bounds_for order
