-- Parts of the grammar that the code reads in functions of their own.
use Rattle.pr_lang.specs.declared.tokens.Keyword.TheVariants.{Input, Output, Const, Fn, Return, Let, Rec, By, For, Within}
use Rattle.pr_lang.specs.declared.tokens.Symbol.TheVariants.{Colon, Semi, Assign, OpenRound, CloseRound, OpenSquare, CloseSquare, OpenCurly, CloseCurly, Dots}
use Rattle.pr_lang.specs.declared.tokens.Kind.{Kind}
use Rattle.pr_lang.specs.Grammar.{Part, token, rule, make, key, mark, name, number, fixed, TheTarget, TheWidth, TheExpr, AnyOf, Stmts, ListOf, Entries, MaybeListOf, Params, MakeInput, MakeOutput, MakeTable, MakeConst, MakeFunction, MakeLet, MakeRec, MakeFor, ◌⨟◌, ◌∣◌}
use Rattle.pr_parse.specs.Kinds.{pattern_of}

-- a token, an expression and a semicolon, before another part
abbrev pub led_value : Kind → Part → Part
led_value lead q = token (pattern_of lead) ⨟ rule TheExpr ⨟ mark Semi ⨟ q

-- a token and a name, before another part
abbrev pub led_name : Kind → Part → Part
led_name lead q = token (pattern_of lead) ⨟ name ⨟ q

abbrev pub let_part : Part
let_part = key Let ⨟ rule TheTarget ⨟ rule TheWidth ⨟ mark Assign ⨟ rule TheExpr ⨟ mark Semi ⨟ make MakeLet

abbrev pub rec_part : Part
rec_part =
    key Rec ⨟ rule TheTarget ⨟ rule TheWidth ⨟ mark Assign ⨟ fixed ⨟ key By ⨟ rule TheExpr ⨟ mark Semi ⨟ make MakeRec

abbrev pub for_part : Part
for_part =
    key For ⨟ name ⨟ key Within ⨟ fixed ⨟ mark Dots ⨟ fixed ⨟
    mark OpenCurly ⨟ rule (AnyOf Stmts) ⨟ mark CloseCurly ⨟ make MakeFor

abbrev pub input_part : Part
input_part = key Input ⨟ name ⨟ mark Colon ⨟ number ⨟ mark Semi ⨟ make MakeInput

abbrev pub output_part : Part
output_part = key Output ⨟ name ⨟ rule TheWidth ⨟ mark Assign ⨟ rule TheExpr ⨟ mark Semi ⨟ make MakeOutput

abbrev pub const_part : Part
const_part =
    key Const ⨟ name ⨟ mark Assign ⨟
    (fixed ∣ (mark OpenSquare ⨟ rule (ListOf Entries) ⨟ mark CloseSquare ⨟ make MakeTable)) ⨟
    mark Semi ⨟ make MakeConst

abbrev pub function_part : Part
function_part =
    key Fn ⨟ name ⨟ mark OpenRound ⨟ rule (MaybeListOf Params) ⨟ mark CloseRound ⨟ rule TheWidth ⨟
    mark OpenCurly ⨟ rule (AnyOf Stmts) ⨟ key Return ⨟ rule TheExpr ⨟ mark Semi ⨟ mark CloseCurly ⨟ make MakeFunction
