-- Right sides as expressions.
use Rattle.std.specs.Prelude.{ℕ, false, List, map}
use Rattle.pr_lens_rtl.specs.declared.vectors.Net.{Net}
use Rattle.pr_lens_rtl.specs.Verilog.{Expr, Assign}
use Rattle.pr_conf.specs.declared.outputs.Tap.{Tap}
use Rattle.pr_conf.specs.declared.outputs.Output.{Output}
use Rattle.pr_lens_rtl.specs.Module.{begun, enabled, read_valid, tap_expr}
use Rattle.pr_lens_rtl_terms.specs.declared.terms.Atom.{Atom}
use Rattle.pr_lens_rtl_terms.specs.declared.terms.Factor.{Factor}
use Rattle.pr_lens_rtl_terms.specs.declared.terms.Sign.{Sign}
use Rattle.pr_lens_rtl_terms.specs.declared.terms.Form.{Form}
use Rattle.pr_lens_rtl_terms.specs.declared.terms.Term.{Term}
use Rattle.pr_lens_rtl_terms.specs.declared.terms.Change.{Change}
use Rattle.pr_lens_rtl_terms.specs.declared.terms.Line.{Line}

abbrev pub atom_expr : Atom → Expr
atom_expr (Atom.Byte k) = Expr.Byte k
atom_expr (Atom.Bit b) = Expr.Bit b
atom_expr (Atom.Read n) = Expr.Read n
atom_expr (Atom.Pick n k) = Expr.Pick n k
atom_expr (Atom.Low n k) = Expr.Low n k
atom_expr (Atom.Wide n) = Expr.Wide n

abbrev pub factor_expr : Factor → Expr
factor_expr (Factor.Plain a) = atom_expr a
factor_expr (Factor.Not a) = Expr.Not (atom_expr a)
factor_expr (Factor.Left a k) = Expr.Left (atom_expr a) k
factor_expr (Factor.Right a k) = Expr.Right (atom_expr a) k
factor_expr (Factor.IsZero a) = Expr.IsZero (atom_expr a)

abbrev pub two_expr : Sign → Expr → Expr → Expr
two_expr Sign.And x y = Expr.And x y
two_expr Sign.Or x y = Expr.Or x y
two_expr Sign.Xor x y = Expr.Xor x y
two_expr Sign.Plus x y = Expr.Plus x y

abbrev pub form_expr : Form → Expr
form_expr (Form.One x) = factor_expr x
form_expr (Form.Two sign x y) = two_expr sign (factor_expr x) (factor_expr y)
form_expr (Form.NotTwo sign x y) = Expr.Not (two_expr sign (factor_expr x) (factor_expr y))

-- what is taken where the pipeline is enabled, and kept where it is not
abbrev pub enabled_expr : Expr → Net → Expr
enabled_expr x own = Expr.Choice (Expr.Read Net.InReady) x (Expr.Read own)

abbrev pub change_expr : Change → Expr
change_expr c = Expr.Choice (Expr.Read Net.Reset) (Expr.Byte c.first) (enabled_expr (Expr.Choice (Expr.Read c.read) (Expr.Read c.next) (Expr.Read c.own)) c.own)

abbrev pub flag_expr : Net → Net → Expr
flag_expr read own = Expr.Choice (Expr.Read Net.Reset) (Expr.Bit false) (enabled_expr (Expr.Read read) own)

abbrev pub term_expr : Term → Expr
term_expr (Term.Whole x) = form_expr x
term_expr (Term.Choice c x y) = Expr.Choice (Expr.Read c) (form_expr x) (form_expr y)
term_expr (Term.Sum x y z) = Expr.Plus (Expr.Plus (atom_expr x) (atom_expr y)) (atom_expr z)
term_expr (Term.Next x own) = enabled_expr (atom_expr x) own
term_expr (Term.State c) = change_expr c
term_expr (Term.Flag read own) = flag_expr read own

abbrev pub assign_of : Line → Assign
assign_of line = record { net = line.net; expr = term_expr line.term }

abbrev pub assigns_of : List Line → List Assign
assigns_of lines = map assign_of lines

-- the first of the registers of a stage: its flag
abbrev pub flag_register : ℕ → Assign
flag_register s = begun (Expr.Bit false) (enabled (Net.Valid s) (Expr.Read (read_valid s)))

-- the assignment to a byte of a result
abbrev pub out_wire : ℕ → ℕ → ℕ → Tap → Assign
out_wire N last k tap = record { net = Net.Out k; expr = tap_expr N last tap }

abbrev pub output_taps : Output → List Tap
output_taps output = output.taps.items
