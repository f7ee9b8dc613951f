-- The text of a module: how each construct of it is written.
use Rattle.std.specs.Prelude.{ℕ, ◌-◌, ◌==◌, Bool, true, false, List, [], ◌++◌, codes, decimal, if◌then◌else◌}
use Rattle.std.specs.List.{flat_map}
use Rattle.pr_lens_rtl.specs.declared.vectors.Part.{Part}
use Rattle.pr_lens_rtl.specs.declared.vectors.Net.{Net}
use Rattle.pr_lens_rtl.specs.Verilog.{Expr, Assign, width}
use Rattle.pr_lens_rtl.specs.Kept.{is_kept, kept_of}
use Rattle.pr_lens_rtl_text.specs.declared.lines.Way.{Way}
use Rattle.pr_lens_rtl_text.specs.Notes.{Comments, tail_text}

-- ---- names
-- a vector of a stage: a letter, the stage, and the column or the byte; no name of a program has a dollar
abbrev pub part_text : Part → List ℕ
part_text Part.A = codes "a"
part_text Part.B = codes "b"
part_text Part.CarryIn = codes "i"
part_text Part.C = codes "c"
part_text Part.X = codes "x"
part_text Part.Sum = codes "t"
part_text Part.Carry = codes "k"
part_text Part.Output = codes "o"
part_text Part.State = codes "q"
part_text Part.Row = codes "r"

abbrev pub net_text : Net → List ℕ
net_text Net.Reset = codes "reset"
net_text Net.InValid = codes "in_valid"
net_text Net.InReady = codes "in_ready"
net_text Net.OutValid = codes "out_valid"
net_text Net.OutReady = codes "out_ready"
net_text (Net.In k) = codes "in$" ++ decimal k
net_text (Net.Out k) = codes "out$" ++ decimal k
net_text (Net.Valid s) = codes "v$" ++ decimal s
net_text (Net.Of part s k) = part_text part ++ decimal s ++ codes "$" ++ decimal k

-- ---- expressions
abbrev pub bit_text : Bool → List ℕ
bit_text false = codes "1'b0"
bit_text true = codes "1'b1"

-- the parentheses round an operator, which a whole right side has not
abbrev pub open_text : Bool → List ℕ
open_text whole = if whole then [] else codes "("

abbrev pub close_text : Bool → List ℕ
close_text whole = if whole then [] else codes ")"

-- the lowest bits of a vector, and the same with zeros above them, a byte together
abbrev pub front_text : Net → ℕ → List ℕ
front_text n k = net_text n ++ codes "[" ++ decimal (k - 1) ++ codes ":0]"

abbrev pub low_text : Net → ℕ → List ℕ
low_text n k = if k == 8 then front_text n k else codes "{" ++ decimal (8 - k) ++ codes "'d0, " ++ front_text n k ++ codes "}"

abbrev pub expr_text : Bool → Expr → List ℕ
expr_text whole (Expr.Byte k) = codes "8'd" ++ decimal k
expr_text whole (Expr.Bit b) = bit_text b
expr_text whole (Expr.Read n) = net_text n
expr_text whole (Expr.Pick n k) = net_text n ++ codes "[" ++ decimal k ++ codes "]"
expr_text whole (Expr.Low n k) = low_text n k
expr_text whole (Expr.Wide n) = codes "{" ++ decimal (9 - width n) ++ codes "'d0, " ++ net_text n ++ codes "}"
expr_text whole (Expr.Not x) = codes "~" ++ expr_text false x
expr_text whole (Expr.And x y) = open_text whole ++ expr_text false x ++ codes " & " ++ expr_text false y ++ close_text whole
expr_text whole (Expr.Or x y) = open_text whole ++ expr_text false x ++ codes " | " ++ expr_text false y ++ close_text whole
expr_text whole (Expr.Xor x y) = open_text whole ++ expr_text false x ++ codes " ^ " ++ expr_text false y ++ close_text whole
expr_text whole (Expr.Plus x y) = open_text whole ++ expr_text false x ++ codes " + " ++ expr_text false y ++ close_text whole
expr_text whole (Expr.Left x k) = open_text whole ++ expr_text false x ++ codes " << " ++ decimal k ++ close_text whole
expr_text whole (Expr.Right x k) = open_text whole ++ expr_text false x ++ codes " >> " ++ decimal k ++ close_text whole
expr_text whole (Expr.IsZero x) = open_text whole ++ expr_text false x ++ codes " == 8'd0" ++ close_text whole
expr_text whole (Expr.Choice c x y) = open_text whole ++ expr_text false c ++ codes " ? " ++ expr_text false x ++ codes " : " ++ expr_text false y ++ close_text whole

-- ---- assignments
-- the range with which a vector of so many bits is declared
abbrev pub range_text : ℕ → List ℕ
range_text w = if w == 1 then [] else if w == 8 then codes "[7:0] " else codes "[8:0] "

-- the handshake
abbrev pub is_port : Net → Bool
is_port Net.Reset = true
is_port Net.InValid = true
is_port Net.InReady = true
is_port Net.OutValid = true
is_port Net.OutReady = true
is_port (Net.In k) = false
is_port (Net.Out k) = false
is_port (Net.Valid s) = false
is_port (Net.Of part s k) = false

-- how a vector is declared; a wire that is no port is, where it is assigned
abbrev pub declared_text : List ℕ → Net → List ℕ
declared_text kind n = kind ++ range_text (width n) ++ net_text n

abbrev pub wire_text : Net → List ℕ
wire_text n = if is_port n then codes "assign " ++ net_text n else declared_text (codes "wire ") n

-- the line of a wire, the line where a register is declared, and the line of what it takes at the clock; the first two
-- end in the comment of the vector
abbrev pub line_text : Comments → Way → Assign → List ℕ
line_text note Way.Wire a = wire_text a.net ++ codes " = " ++ expr_text true a.expr ++ codes ";" ++ tail_text (note a.net) ++ codes "\n"
line_text note Way.Declared a = declared_text (codes "reg ") a.net ++ codes ";" ++ tail_text (note a.net) ++ codes "\n"
line_text note Way.Clocked a = codes "  " ++ net_text a.net ++ codes " <= " ++ expr_text true a.expr ++ codes ";\n"

abbrev pub lines_text : Comments → Way → List Assign → List ℕ
lines_text note way assigns = flat_map (line_text note way) assigns

-- the lines of those assignments whose vectors are marked
unfoldable pub kept_text : Comments → Way → List Bool → List Assign → List ℕ
kept_text note way marks assigns = lines_text note way (kept_of (is_kept marks) assigns)
