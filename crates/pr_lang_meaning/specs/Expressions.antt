-- What an expression means: a stream, by its parts' streams.
use Rattle.std.specs.Prelude.{ℕ, cond, nat_le, true, false, List, [], ◌∷◌, map, Option, Some, None, option_map, Result}
use Rattle.std.specs.Option.{option_and_then}
use Rattle.std.specs.Result.{result_ok}
use Rattle.pr_lang.specs.declared.trees.BinOp.{BinOp}
use Rattle.pr_lang.specs.declared.trees.BinOp.TheVariants as binary
use Rattle.pr_lang.specs.declared.trees.Expr.{Expr}
use Rattle.pr_lang.specs.declared.trees.Expr.TheOpen.{Expr-F}
use Rattle.pr_lang.specs.declared.trees.Expr.TheFolds.{fold-Expr}
use Rattle.pr_scope_names.specs.declared.rules.Offence.{Offence}
use Rattle.pr_scope_names.specs.declared.names.Static.{Static}
use Rattle.pr_scope_names.specs.Names.{Known}
use Rattle.pr_scope_names.specs.Constants.{read, constant_of, place_of}
use Rattle.pr_scope_names.specs.Amounts.{Amount, amount_step}
use Rattle.pr_flat.specs.declared.equations.Op.{Op}
use Rattle.pr_flat.specs.declared.equations.Op.TheVariants as op
use Rattle.pr_flat.specs.Forms.{Stream}
use Rattle.pr_lang_meaning.specs.Streams.{Sources, constant_stream, all_parts, operate}

-- what a function makes of m samples of its arguments
abbrev pub Function : Type 0
Function = ℕ → List Stream → Option Stream

-- what is visible beside the streams: constants, tables and indices, and functions
pub record Visible : Type 0 where
  pub known : Known
  pub functions : List ℕ → Option Function

abbrev pub Meaning : Type 0
Meaning = Visible → ℕ → Sources → Option Stream

-- an expression's stream, and its value where it is a constant shift's amount
pub record Sense : Type 0 where
  pub meaning : Meaning
  pub amount : Amount

-- a constant, an index or a table's entry, or else a stream
abbrev pub referred : Option Static → Option ℕ → ℕ → Option Stream → Option Stream
referred None place m s = s
referred (Some static) place m s = option_map (constant_stream m) (result_ok (read (Some static) place))

abbrev pub operator : BinOp → Op
operator binary.Add = op.Add
operator binary.Sub = op.Sub
operator binary.Mul = op.Mul
operator binary.And = op.And
operator binary.Or = op.Or
operator binary.Xor = op.Xor
operator binary.Equal = op.Equal
operator binary.NotEqual = op.NotEqual
operator binary.Less = op.Less
operator binary.LessEqual = op.LessEqual
operator binary.Greater = op.Greater
operator binary.GreaterEqual = op.GreaterEqual
operator binary.Left = op.LeftBy
operator binary.Right = op.RightBy

-- the shift by a constant up to 128, where the operator is a shift
abbrev pub shift_by : BinOp → ℕ → Option Op
shift_by binary.Left k = cond (nat_le k 128) (Some (op.Left k)) None
shift_by binary.Right k = cond (nat_le k 128) (Some (op.Right k)) None
shift_by o k = None

abbrev pub constant_shift : BinOp → Option (Result ℕ Offence) → Option Op
constant_shift o amount = option_and_then (λ r. option_and_then (shift_by o) (result_ok r)) amount

abbrev pub combined : ℕ → BinOp → Option Op → Option Stream → Option Stream → Option Stream
combined m o (Some shift) a b = operate m shift (a ∷ [])
combined m o None a b = operate m (operator o) (a ∷ b ∷ [])

-- the same numbers, read as numbers
abbrev pub unsigned : Stream → Stream
unsigned s = record { form = record { signed = false; width = s.form.width }; numbers = s.numbers }

-- the same numbers, read as two's complement
abbrev pub signed : Stream → Stream
signed s = record { form = record { signed = true; width = s.form.width }; numbers = s.numbers }

-- parts beside what stands above them
abbrev pub beside : ℕ → Option Stream → List Stream → Option Stream
beside m above [] = above
beside m above (s ∷ ss) = beside m (operate m op.Cat (above ∷ Some s ∷ [])) ss

-- the first part highest; beside no part stands 0
abbrev pub concatenated : ℕ → List Stream → Option Stream
concatenated m [] = Some (constant_stream m 0)
concatenated m (s ∷ ss) = beside m (Some (unsigned s)) ss

abbrev pub senses : List Sense → Visible → ℕ → Sources → List (Option Stream)
senses parts v m env = map (λ (s : Sense). s.meaning v m env) parts

abbrev pub meaning_step : Expr-F Sense → Meaning
meaning_step (Expr-F.Number n) v m env = Some (constant_stream m n)
meaning_step (Expr-F.Refer r) v m env =
    option_and_then (λ place. referred (v.known r.name) place m (env.now r.name place)) (result_ok (place_of r v.known))
meaning_step (Expr-F.Delay r k) v m env =
    option_and_then (λ place.
    option_and_then (env.past r.name place) (result_ok (constant_of k v.known))) (result_ok (place_of r v.known))
meaning_step (Expr-F.Slice e high low) v m env =
    option_and_then (λ h.
    option_and_then (λ l. operate m (op.Slice h l) (e.value.meaning v m env ∷ [])) (result_ok (constant_of low v.known))) (result_ok (constant_of high v.known))
meaning_step (Expr-F.Not e) v m env = operate m op.Not (e.value.meaning v m env ∷ [])
meaning_step (Expr-F.Binary o a b) v m env =
    combined m o (constant_shift o (b.value.amount v.known)) (a.value.meaning v m env) (b.value.meaning v m env)
meaning_step (Expr-F.Choose c a b) v m env =
    operate m op.Choose (c.value.meaning v m env ∷ a.value.meaning v m env ∷ b.value.meaning v m env ∷ [])
meaning_step (Expr-F.Call name args) v m env =
    option_and_then (λ ss. option_and_then (λ (f : Function). f m ss) (v.functions name)) (all_parts (senses args.items v m env))
meaning_step (Expr-F.Cat parts) v m env = option_and_then (concatenated m) (all_parts (senses parts.items v m env))
meaning_step (Expr-F.Paren e) v m env = e.value.meaning v m env

abbrev pub sense_step : Expr-F Sense → Sense
sense_step e = record { meaning = meaning_step e; amount = amount_step (λ (s : Sense). s.amount) e }

abbrev pub sense_of : Expr → Sense
sense_of = fold-Expr Sense sense_step

-- the meaning of an expression, over m samples of what it reads
abbrev pub meaning : Expr → Meaning
meaning e = (sense_of e).meaning
