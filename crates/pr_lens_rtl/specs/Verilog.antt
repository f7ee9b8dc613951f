-- A part of Verilog: unsigned vectors, expressions over them, continuous assignments, and registers that take their
-- next values at a clock. The meaning is that of IEEE 1364 for values without x and z: an expression that is assigned
-- is worked out at the greater of its own width and that of its target, and then cut to its target.
use Rattle.std.specs.Prelude.{◌≡◌, ◌<◌, ℕ, ◌+◌, ◌-◌, ◌*◌, ◌/◌, ◌%◌, ◌^◌, ◌==◌, max, Bool, List, [], ◌∷◌, bit_and, bit_or, bit_xor, if◌then◌else◌}
use Rattle.std.specs.Int.{bit_at}
use Rattle.pr_lens_rtl.specs.declared.vectors.Part.{Part}
use Rattle.pr_lens_rtl.specs.declared.vectors.Net.{Net}

abbrev pub part_width : Part → ℕ
part_width Part.A = 8
part_width Part.B = 8
part_width Part.CarryIn = 1
part_width Part.C = 1
part_width Part.X = 8
part_width Part.Sum = 9
part_width Part.Carry = 1
part_width Part.Output = 8
part_width Part.State = 8
part_width Part.Row = 8

-- how many bits a vector is declared with
abbrev pub width : Net → ℕ
width Net.Reset = 1
width Net.InValid = 1
width Net.InReady = 1
width Net.OutValid = 1
width Net.OutReady = 1
width (Net.In k) = 8
width (Net.Out k) = 8
width (Net.Valid s) = 1
width (Net.Of part s k) = part_width part

pub data Expr : Type 0 where
  Byte : ℕ → Expr  -- 8'd5
  Bit : Bool → Expr  -- 1'b1
  Read : Net → Expr  -- x
  Pick : Net → ℕ → Expr  -- x[3]
  Low : Net → ℕ → Expr  -- the lowest bits of a vector with zeros above them, eight bits together: x[7:0], and {5'd0, x[2:0]} of three
  Wide : Net → Expr  -- a vector with zeros above it, nine bits together: {1'b0, x} of one with eight
  Not : Expr → Expr  -- ~x
  And : Expr → Expr → Expr  -- x & y
  Or : Expr → Expr → Expr  -- x | y
  Xor : Expr → Expr → Expr  -- x ^ y
  Plus : Expr → Expr → Expr  -- x + y
  Left : Expr → ℕ → Expr  -- x << 3
  Right : Expr → ℕ → Expr  -- x >> 3
  IsZero : Expr → Expr  -- x == 8'd0
  Choice : Expr → Expr → Expr → Expr  -- c ? x : y

-- the width of an expression by itself
abbrev pub width_of : Expr → ℕ
width_of (Expr.Byte k) = 8
width_of (Expr.Bit b) = 1
width_of (Expr.Read n) = width n
width_of (Expr.Pick n k) = 1
width_of (Expr.Low n k) = 8
width_of (Expr.Wide n) = 9
width_of (Expr.Not x) = width_of x
width_of (Expr.And x y) = max (width_of x) (width_of y)
width_of (Expr.Or x y) = max (width_of x) (width_of y)
width_of (Expr.Xor x y) = max (width_of x) (width_of y)
width_of (Expr.Plus x y) = max (width_of x) (width_of y)
width_of (Expr.Left x k) = width_of x
width_of (Expr.Right x k) = width_of x
width_of (Expr.IsZero x) = 1
width_of (Expr.Choice c x y) = max (width_of x) (width_of y)

-- what each vector holds
abbrev pub Values : Type 0
Values = Net → ℕ

abbrev pub bit_of : Bool → ℕ
bit_of b = if b then 1 else 0

-- the value of an expression that is worked out at w bits. A condition, and what is compared with a byte, has its own
-- width
abbrev pub value : Values → Expr → ℕ → ℕ
value now (Expr.Byte k) w = k % 256
value now (Expr.Bit b) w = bit_of b
value now (Expr.Read n) w = now n
value now (Expr.Pick n k) w = bit_at (now n) k
value now (Expr.Low n k) w = now n % 2 ^ k
value now (Expr.Wide n) w = now n
value now (Expr.Not x) w = 2 ^ w - 1 - value now x w
value now (Expr.And x y) w = bit_and (value now x w) (value now y w)
value now (Expr.Or x y) w = bit_or (value now x w) (value now y w)
value now (Expr.Xor x y) w = bit_xor (value now x w) (value now y w)
value now (Expr.Plus x y) w = (value now x w + value now y w) % 2 ^ w
value now (Expr.Left x k) w = value now x w * 2 ^ k % 2 ^ w
value now (Expr.Right x k) w = value now x w / 2 ^ k
value now (Expr.IsZero x) w = if value now x (max (width_of x) 8) == 0 then 1 else 0
value now (Expr.Choice c x y) w = if value now c (width_of c) == 0 then value now y w else value now x w

-- an expression and the vector that it is assigned to
pub record Assign : Type 0 where
  pub net : Net
  pub expr : Expr

abbrev pub assigned : Values → Assign → ℕ
assigned now a = value now a.expr (max (width a.net) (width_of a.expr)) % 2 ^ width a.net

-- in each of these vectors `after` holds what is assigned to it from what the vectors hold now
abbrev pub Takes : Values → Values → List Assign → Type 0
Takes now after [] = Unit {0}
Takes now after (a ∷ rest) = (after a.net ≡ assigned now a) × Takes now after rest

-- a module: `assign` for each wire, and a non-blocking assignment at the clock for each register
pub record Module : Type 0 where
  pub wires : List Assign
  pub registers : List Assign

-- each vector holds a number of its width
abbrev pub Fit : Values → Type 0
Fit now = (n : Net) → now n < 2 ^ width n

-- the wires have settled: each holds what is assigned to it
pub record IsSettled (m : Module) (now : Values) : Type 0 where
  pub fit : Fit now
  pub wires : Takes now now m.wires

-- a clock: the wires have settled before it and after it, and the registers hold what was assigned to them
pub record IsClock (m : Module) (now after : Values) : Type 0 where
  pub before : IsSettled m now
  pub settled : IsSettled m after
  pub registers : Takes now after m.registers
