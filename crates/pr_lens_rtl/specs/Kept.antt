-- The part of a module that is written: each vector that a port or the next value of a state needs, and no other.
use Rattle.std.specs.Prelude.{◌≡◌, ℕ, ◌+◌, ◌-◌, ◌*◌, suc, Bool, true, false, ◌||◌, List, [], ◌∷◌, ◌++◌, length, replicate, slice_index_or, slice_set, if◌then◌else◌}
use Rattle.pr_base.specs.declared.choices.Next.{Next}
use Rattle.pr_conf.specs.declared.pes.Pe.{Pe}
use Rattle.pr_conf.specs.Shape.{Shape}
use Rattle.pr_lens_rtl.specs.declared.vectors.Part.{Part}
use Rattle.pr_lens_rtl.specs.declared.vectors.Net.{Net}
use Rattle.pr_lens_rtl.specs.Verilog.{Expr, Assign, Module}
use Rattle.pr_lens_rtl.specs.Module.{pes_wires, row_registers, tap_wires, taps_of, last_of, module_of}

-- the vectors that an expression reads
abbrev pub reads : Expr → List Net
reads (Expr.Byte k) = []
reads (Expr.Bit b) = []
reads (Expr.Read n) = n ∷ []
reads (Expr.Pick n k) = n ∷ []
reads (Expr.Low n k) = n ∷ []
reads (Expr.Wide n) = n ∷ []
reads (Expr.Not x) = reads x
reads (Expr.And x y) = reads x ++ reads y
reads (Expr.Or x y) = reads x ++ reads y
reads (Expr.Xor x y) = reads x ++ reads y
reads (Expr.Plus x y) = reads x ++ reads y
reads (Expr.Left x k) = reads x
reads (Expr.Right x k) = reads x
reads (Expr.IsZero x) = reads x
reads (Expr.Choice c x y) = reads c ++ (reads x ++ reads y)

-- the assignments to the vectors of a set
abbrev pub kept_of : (Net → Bool) → List Assign → List Assign
kept_of K [] = []
kept_of K (a ∷ rest) = if K a.net then a ∷ kept_of K rest else kept_of K rest

abbrev pub kept : (Net → Bool) → Module → Module
kept K m = record { wires = kept_of K m.wires; registers = kept_of K m.registers }

-- Which vectors a port needs is marked stage by stage, from the last one down, and in a stage from the last vector
-- down: what is assigned to a marked vector marks what it reads.
-- the place of a vector in this order: those of a stage have 2048 places, from 2048 times the stage on
abbrev pub place_in : Part → ℕ → ℕ
place_in Part.State k = k
place_in Part.A k = 64 + k * 8
place_in Part.B k = 65 + k * 8
place_in Part.CarryIn k = 66 + k * 8
place_in Part.C k = 67 + k * 8
place_in Part.X k = 68 + k * 8
place_in Part.Sum k = 69 + k * 8
place_in Part.Carry k = 70 + k * 8
place_in Part.Output k = 71 + k * 8
place_in Part.Row k = 576 + k

abbrev pub place : Net → ℕ
place Net.Reset = 0
place Net.InValid = 0
place Net.InReady = 67110912
place Net.OutValid = 67110913
place Net.OutReady = 0
place (Net.In k) = 0
place (Net.Out k) = 67110914 + k
place (Net.Valid s) = s * 2048 + 1
place (Net.Of part s k) = s * 2048 + 2 + place_in part k

-- the ports and the flags are always kept: all but the parts of stages
abbrev pub is_root : Net → Bool
is_root (Net.Of part s k) = false
is_root other = true

abbrev pub is_kept : List Bool → Net → Bool
is_kept marks n = is_root n || slice_index_or marks (place n) false

abbrev pub marked : List Bool → Net → List Bool
marked marks n = if is_root n then marks else slice_set marks (place n) true

abbrev pub all_marked : List Bool → List Net → List Bool
all_marked marks [] = marks
all_marked marks (n ∷ ns) = all_marked (marked marks n) ns

-- the last assignment first
abbrev pub needed : List Assign → List Bool → List Bool
needed [] marks = marks
needed (a ∷ rest) marks =
    if is_kept (needed rest marks) a.net then all_marked (needed rest marks) (reads a.expr) else needed rest marks

-- what a state that changes becomes
abbrev pub next_marked : Next → ℕ → ℕ → List Bool → List Bool
next_marked Next.Keep s col marks = marks
next_marked Next.Output s col marks = marked marks (Net.Of Part.Output s col)
next_marked Next.A s col marks = marked marks (Net.Of Part.A s col)

abbrev pub nexts_marked : ℕ → ℕ → List Pe → List Bool → List Bool
nexts_marked s col [] marks = marks
nexts_marked s col (pe ∷ pes) marks = next_marked pe.next s col (nexts_marked s (suc col) pes marks)

-- a stage, of which the rows are marked that the stage above reads
abbrev pub stage_needed : ℕ → ℕ → ℕ → List Pe → List Bool → List Bool
stage_needed N P s pes marks = needed (pes_wires N s 0 pes) (nexts_marked s 0 pes (needed (row_registers N s (P - 1) pes) marks))

abbrev pub stages_needed : ℕ → ℕ → ℕ → List (List Pe) → List Bool → List Bool
stages_needed N P s [] marks = marks
stages_needed N P s (pes ∷ stages) marks = stage_needed N P s pes (stages_needed N P (suc s) stages marks)

-- the marks of a configuration
unfoldable pub marks_of : ℕ → ℕ → Shape → List Bool
marks_of N P c = stages_needed N P 0 c.stages (needed (tap_wires N (last_of c) 0 (taps_of c)) (replicate (length c.stages * 2048) false))

-- the module that is written for a configuration
abbrev pub kept_module : ℕ → ℕ → Shape → Module
kept_module N P c = kept (is_kept (marks_of N P c)) (module_of N P c)

-- a set that has, with a vector, all that its assignment reads
abbrev pub AreIn : (Net → Bool) → List Net → Type 0
AreIn K [] = Unit {0}
AreIn K (n ∷ ns) = (K n ≡ true) × AreIn K ns

abbrev pub AreClosed : (Net → Bool) → List Assign → Type 0
AreClosed K [] = Unit {0}
AreClosed K (a ∷ rest) = (K a.net ≡ true → AreIn K (reads a.expr)) × AreClosed K rest

-- such a set of the vectors of a module that has its ports
pub record IsClosed (K : Net → Bool) (m : Module) : Type 0 where
  pub roots : (n : Net) → is_root n ≡ true → K n ≡ true
  pub wires : AreClosed K m.wires
  pub registers : AreClosed K m.registers
