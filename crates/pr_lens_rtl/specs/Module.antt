-- The module of a configuration.
use Rattle.std.specs.Prelude.{ℕ, zero, suc, ◌+◌, ◌-◌, ◌*◌, ◌==◌, ◌&&◌, not, Bool, true, false, List, [], ◌∷◌, ◌++◌, length, if◌then◌else◌}
use Rattle.std.specs.List.{flat_map}
use Rattle.std.specs.Int.{bit_at}
use Rattle.pr_base.specs.declared.choices.Mode.{Mode}
use Rattle.pr_base.specs.declared.choices.Carry.{Carry}
use Rattle.pr_base.specs.declared.choices.Next.{Next}
use Rattle.pr_conf.specs.declared.pes.Source.{Source}
use Rattle.pr_conf.specs.declared.pes.Bit.{Bit}
use Rattle.pr_conf.specs.declared.pes.Pe.{Pe}
use Rattle.pr_conf.specs.declared.outputs.Tap.{Tap}
use Rattle.pr_conf.specs.Shape.{OutputShape, Shape}
use Rattle.pr_lens_rtl.specs.declared.vectors.Part.{Part}
use Rattle.pr_lens_rtl.specs.declared.vectors.Net.{Net}
use Rattle.pr_lens_rtl.specs.Verilog.{Expr, Assign, Module}

-- a vector of a stage
abbrev pub read : Part → ℕ → ℕ → Expr
read part s k = Expr.Read (Net.Of part s k)

-- the same in nine bits
abbrev pub wide : Part → ℕ → ℕ → Expr
wide part s k = Expr.Wide (Net.Of part s k)

-- the byte of a source, in stage s
abbrev pub source_expr : ℕ → ℕ → Source → Expr
source_expr N s (Source.Const k) = Expr.Byte k
source_expr N s (Source.Prev col reg) = read Part.Row (s - 1) ((reg - 1) * N + col)
source_expr N s (Source.Here col) = read Part.Output s col
source_expr N s (Source.State col) = read Part.State s col
source_expr N s (Source.Bus place) = Expr.Read (Net.In place)

abbrev pub shifted_expr : Expr → Expr → ℕ → Expr
shifted_expr hi lo shift = if shift == 0 then hi else Expr.Or (Expr.Left hi shift) (Expr.Right lo (8 - shift))

-- the function of two bytes that is, at each bit place, the first of these bits where both have 0 there, the second
-- where a alone has 1, the third where b alone has 1, and the fourth where both have
abbrev pub two_input : Bool → Bool → Bool → Bool → Expr → Expr → Expr
two_input false false false false a b = Expr.Byte 0
two_input true false false false a b = Expr.Not (Expr.Or a b)
two_input false true false false a b = Expr.And a (Expr.Not b)
two_input true true false false a b = Expr.Not b
two_input false false true false a b = Expr.And (Expr.Not a) b
two_input true false true false a b = Expr.Not a
two_input false true true false a b = Expr.Xor a b
two_input true true true false a b = Expr.Not (Expr.And a b)
two_input false false false true a b = Expr.And a b
two_input true false false true a b = Expr.Not (Expr.Xor a b)
two_input false true false true a b = a
two_input true true false true a b = Expr.Or a (Expr.Not b)
two_input false false true true a b = b
two_input true false true true a b = Expr.Or (Expr.Not a) b
two_input false true true true a b = Expr.Or a b
two_input true true true true a b = Expr.Byte 255

-- a number has a 1 at a place
abbrev pub is_one_at : ℕ → ℕ → Bool
is_one_at table j = bit_at table j == 1

-- the four bits of a table from a place on
abbrev pub four_of : ℕ → ℕ → Expr → Expr → Expr
four_of table from a b = two_input (is_one_at table from) (is_one_at table (from + 1)) (is_one_at table (from + 2)) (is_one_at table (from + 3)) a b

-- X, from A, B and C
abbrev pub looked_expr : Bit → ℕ → Expr → Expr → Expr → Expr
looked_expr Bit.None table a b c = four_of table 0 a b
looked_expr (Bit.Of source place) table a b c = Expr.Choice c (four_of table 4 a b) (four_of table 0 a b)
looked_expr Bit.CarryIn table a b c = Expr.Choice c (four_of table 4 a b) (four_of table 0 a b)

-- a bit of a source
abbrev pub picked_expr : ℕ → ℕ → Source → ℕ → Expr
picked_expr N s (Source.Const k) place = Expr.Bit (is_one_at k place)
picked_expr N s (Source.Prev col reg) place = Expr.Pick (Net.Of Part.Row (s - 1) ((reg - 1) * N + col)) place
picked_expr N s (Source.Here col) place = Expr.Pick (Net.Of Part.Output s col) place
picked_expr N s (Source.State col) place = Expr.Pick (Net.Of Part.State s col) place
picked_expr N s (Source.Bus byte) place = Expr.Pick (Net.In byte) place

-- the bit of a source that C is
abbrev pub bit_expr : ℕ → ℕ → Bit → Expr
bit_expr N s Bit.None = Expr.Bit false
bit_expr N s (Bit.Of source place) = picked_expr N s source place
bit_expr N s Bit.CarryIn = Expr.Bit false

abbrev pub c_expr : ℕ → ℕ → ℕ → Bit → Expr
c_expr N s col Bit.None = Expr.Bit false
c_expr N s col (Bit.Of source place) = picked_expr N s source place
c_expr N s col Bit.CarryIn = read Part.CarryIn s col

abbrev pub carry_in_expr : ℕ → ℕ → ℕ → Bit → Carry → Expr
carry_in_expr N s col c Carry.Zero = Expr.Bit false
carry_in_expr N s col c Carry.One = Expr.Bit true
carry_in_expr N s col c Carry.Chain = read Part.Carry s (col - 1)
carry_in_expr N s col c Carry.FromC = bit_expr N s c

-- a carry may come in
abbrev pub has_carry_in : Carry → Bool
has_carry_in Carry.Zero = false
has_carry_in Carry.One = true
has_carry_in Carry.Chain = true
has_carry_in Carry.FromC = true

-- A and X, and the carry-in where one may come
abbrev pub added_expr : Bool → ℕ → ℕ → Expr
added_expr true s col = Expr.Plus (Expr.Plus (wide Part.A s col) (wide Part.X s col)) (wide Part.CarryIn s col)
added_expr false s col = Expr.Plus (wide Part.A s col) (wide Part.X s col)

-- nine bits: the result with what does not fit into the byte
abbrev pub sum_expr : Mode → Carry → ℕ → ℕ → Expr
sum_expr Mode.Plain carry s col = wide Part.X s col
sum_expr Mode.Sum carry s col = added_expr (has_carry_in carry) s col
sum_expr Mode.Zero carry s col = wide Part.X s col

-- the result before the mask
abbrev pub result_expr : Mode → ℕ → ℕ → Expr
result_expr Mode.Plain s col = read Part.X s col
result_expr Mode.Sum s col = Expr.Low (Net.Of Part.Sum s col) 8
result_expr Mode.Zero s col = read Part.X s col

-- the vector whose lowest byte that is
abbrev pub result_net : Mode → ℕ → ℕ → Net
result_net Mode.Plain s col = Net.Of Part.X s col
result_net Mode.Sum s col = Net.Of Part.Sum s col
result_net Mode.Zero s col = Net.Of Part.X s col

-- how many of the lowest bits a mask leaves, where those are fewer than eight: 3 for the mask 7. It is 0 for any other
-- mask
abbrev pub low_bits : ℕ → ℕ
low_bits mask =
    if mask == 1 then 1 else if mask == 3 then 2 else if mask == 7 then 3 else if mask == 15 then 4 else if mask == 31 then 5
    else if mask == 63 then 6 else if mask == 127 then 7 else 0

-- the output has a mask even where that keeps all bits: a sum to which a carry is added. Yosys then joins both
-- additions into one
abbrev pub is_always_masked : Mode → Carry → Bool
is_always_masked Mode.Plain carry = false
is_always_masked Mode.Sum carry = has_carry_in carry
is_always_masked Mode.Zero carry = false

-- the output is the result without a mask
abbrev pub is_bare : Mode → Carry → ℕ → Bool
is_bare mode carry mask = mask == 255 && not (is_always_masked mode carry)

abbrev pub masked_expr : Mode → Carry → ℕ → ℕ → ℕ → Expr
masked_expr mode carry mask s col = if is_bare mode carry mask then result_expr mode s col else Expr.And (result_expr mode s col) (Expr.Byte mask)

abbrev pub output_expr : Mode → Carry → ℕ → ℕ → ℕ → Expr
output_expr mode carry mask s col = if low_bits mask == 0 then masked_expr mode carry mask s col else Expr.Low (result_net mode s col) (low_bits mask)

abbrev pub carry_expr : Mode → ℕ → ℕ → Expr
carry_expr Mode.Plain s col = Expr.Bit false
carry_expr Mode.Sum s col = Expr.Pick (Net.Of Part.Sum s col) 8
carry_expr Mode.Zero s col = Expr.And (read Part.CarryIn s col) (Expr.IsZero (read Part.X s col))

abbrev pub to : Part → ℕ → ℕ → Expr → Assign
to part s k expr = record { net = Net.Of part s k; expr = expr }

-- the wires of a processing element: what it reads
abbrev pub read_wires : ℕ → ℕ → ℕ → Pe → List Assign
read_wires N s col pe =
    to Part.A s col (source_expr N s pe.a)
    ∷ to Part.B s col (shifted_expr (source_expr N s pe.hi) (source_expr N s pe.lo) pe.shift)
    ∷ to Part.CarryIn s col (carry_in_expr N s col pe.c pe.cin)
    ∷ to Part.C s col (c_expr N s col pe.c)
    ∷ []

-- and what it makes
abbrev pub made_wires : ℕ → ℕ → Pe → List Assign
made_wires s col pe =
    to Part.X s col (looked_expr pe.c pe.table (read Part.A s col) (read Part.B s col) (read Part.C s col))
    ∷ to Part.Sum s col (sum_expr pe.mode pe.cin s col)
    ∷ to Part.Carry s col (carry_expr pe.mode s col)
    ∷ to Part.Output s col (output_expr pe.mode pe.cin pe.mask s col)
    ∷ []

abbrev pub pe_wires : ℕ → ℕ → ℕ → Pe → List Assign
pe_wires N s col pe = read_wires N s col pe ++ made_wires s col pe

-- those of the columns from this one on
abbrev pub pes_wires : ℕ → ℕ → ℕ → List Pe → List Assign
pes_wires N s col [] = []
pes_wires N s col (pe ∷ pes) = pe_wires N s col pe ++ pes_wires N s (suc col) pes

-- a register that takes a value where the pipeline is enabled
abbrev pub enabled : Net → Expr → Assign
enabled net expr = record { net = net; expr = Expr.Choice (Expr.Read Net.InReady) expr (Expr.Read net) }

-- a register that begins with a value
abbrev pub begun : Expr → Assign → Assign
begun first a = record { net = a.net; expr = Expr.Choice (Expr.Read Net.Reset) first a.expr }

-- the flag of what stage s reads
abbrev pub read_valid : ℕ → Net
read_valid zero = Net.InValid
read_valid (suc s) = Net.Valid s

abbrev pub next_expr : Next → ℕ → ℕ → Expr
next_expr Next.Keep s col = read Part.State s col
next_expr Next.Output s col = read Part.Output s col
next_expr Next.A s col = read Part.A s col

abbrev pub state_register : ℕ → ℕ → Pe → Assign
state_register s col pe = begun (Expr.Byte pe.init) (enabled (Net.Of Part.State s col) (Expr.Choice (Expr.Read (read_valid s)) (next_expr pe.next s col) (read Part.State s col)))

abbrev pub state_registers : ℕ → ℕ → List Pe → List Assign
state_registers s col [] = []
state_registers s col (pe ∷ pes) = state_register s col pe ∷ state_registers s (suc col) pes

-- what a register of a row takes at a place: the output of its column, what the stage before shows there, or 0
abbrev pub passed_expr : ℕ → ℕ → ℕ → ℕ → Pe → Expr
passed_expr s reg col place pe = if pe.write == reg then read Part.Output s col else if s == 0 then Expr.Byte 0 else read Part.Row (s - 1) place

-- the columns from this one on of a register of a row, which stand from a place on
abbrev pub passed_registers : ℕ → ℕ → ℕ → ℕ → List Pe → List Assign
passed_registers s reg col place [] = []
passed_registers s reg col place (pe ∷ pes) = enabled (Net.Of Part.Row s place) (passed_expr s reg col place pe) ∷ passed_registers s reg (suc col) (suc place) pes

-- the first `count` registers
abbrev pub row_registers : ℕ → ℕ → ℕ → List Pe → List Assign
row_registers N s zero pes = []
row_registers N s (suc count) pes = row_registers N s count pes ++ passed_registers s (suc count) 0 (count * N) pes

abbrev pub stage_registers : ℕ → ℕ → ℕ → List Pe → List Assign
stage_registers N P s pes =
    begun (Expr.Bit false) (enabled (Net.Valid s) (Expr.Read (read_valid s)))
    ∷ state_registers s 0 pes ++ row_registers N s (P - 1) pes

-- all stages from this number on
abbrev pub stages_wires : ℕ → ℕ → List (List Pe) → List Assign
stages_wires N s [] = []
stages_wires N s (pes ∷ stages) = pes_wires N s 0 pes ++ stages_wires N (suc s) stages

abbrev pub stages_registers : ℕ → ℕ → ℕ → List (List Pe) → List Assign
stages_registers N P s [] = []
stages_registers N P s (pes ∷ stages) = stage_registers N P s pes ++ stages_registers N P (suc s) stages

-- the byte that a tap reads, of a pipeline whose last stage is this
abbrev pub tap_expr : ℕ → ℕ → Tap → Expr
tap_expr N last (Tap.Const k) = Expr.Byte k
tap_expr N last (Tap.Reg col reg) = read Part.Row last ((reg - 1) * N + col)

abbrev pub tap_wires : ℕ → ℕ → ℕ → List Tap → List Assign
tap_wires N last k [] = []
tap_wires N last k (tap ∷ taps) = record { net = Net.Out k; expr = tap_expr N last tap } ∷ tap_wires N last (suc k) taps

abbrev pub taps_of : Shape → List Tap
taps_of c = flat_map (λ (o : OutputShape). o.taps) c.outputs

abbrev pub last_of : Shape → ℕ
last_of c = length c.stages - 1

-- the wires of the handshake: the pipeline is enabled unless a result stands at its end and is not taken
abbrev pub hand_wires : ℕ → List Assign
hand_wires last =
    record { net = Net.InReady; expr = Expr.Or (Expr.Not (Expr.Read (Net.Valid last))) (Expr.Read Net.OutReady) }
    ∷ record { net = Net.OutValid; expr = Expr.Read (Net.Valid last) }
    ∷ []

unfoldable pub module_of : ℕ → ℕ → Shape → Module
module_of N P c = record {
  wires = stages_wires N 0 c.stages ++ (hand_wires (last_of c) ++ tap_wires N (last_of c) 0 (taps_of c));
  registers = stages_registers N P 0 c.stages;
}
