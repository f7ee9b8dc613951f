-- The grammar, rule by rule.
use Rattle.std.specs.Prelude.{List, [], ◌∷◌}
use Rattle.pr_lang.specs.declared.tokens.Keyword.{Keyword}
use Rattle.pr_lang.specs.declared.tokens.Keyword.TheVariants.{Input, Output, Const, Fn, Return, Let, Rec, By, For, Within, Cat}
use Rattle.pr_lang.specs.declared.tokens.Symbol.{Symbol}
use Rattle.pr_lang.specs.declared.tokens.Symbol.TheVariants.{Colon, Semi, Assign, OpenRound, CloseRound, OpenSquare, CloseSquare, OpenCurly, CloseCurly, Comma, Dots, At, Ask, Plus, Minus, Star, Slash, Percent, Amp, Bar, Caret, Tilde, ShiftLeft, ShiftRight, Equal, NotEqual, Less, LessEqual, Greater, GreaterEqual}
use Rattle.pr_lang.specs.Word.{Pattern, any_name, any_number, the_end, this_keyword, this_symbol, one_of}

-- the levels of operators that are repeated and group to the left
pub data Level : Type 0 where
  Ors : Level
  Xors : Level
  Ands : Level
  Shifts : Level
  Sums : Level
  Products : Level
  FixedSums : Level
  FixedProducts : Level

-- what is repeated without commas, and what with commas
pub data Block : Type 0 where
  Items : Block
  Stmts : Block

pub data Listed : Type 0 where
  Params : Listed
  Exprs : Listed
  Entries : Listed

pub data Rule : Type 0 where
  TheProgram : Rule
  AnyOf : Block → Rule
  ListOf : Listed → Rule
  MaybeListOf : Listed → Rule
  TheWidth : Rule
  TheIndex : Rule
  TheItem : Rule
  TheParam : Rule
  TheStmt : Rule
  TheTarget : Rule
  TheExpr : Rule
  level : Level → Rule
  TheCompare : Rule
  ThePrefix : Rule
  ThePostfix : Rule
  ThePrimary : Rule
  TheFixedPrimary : Rule

-- what is built from the trees that were read last
pub data Action : Type 0 where
  MakeProgram : Action
  Begin : Action
  Append : Action
  AppendAfterComma : Action
  NoWidth : Action
  MakeWidth : Action
  NoIndex : Action
  MakeIndex : Action
  MakeRefer : Action
  MakeParam : Action
  MakeInput : Action
  MakeOutput : Action
  MakeTable : Action
  MakeConst : Action
  MakeFunction : Action
  MakeLet : Action
  MakeRec : Action
  MakeFor : Action
  MakeChoose : Action
  MakeBinary : Action
  MakeNot : Action
  MakeSlice : Action
  MakeParen : Action
  MakeCat : Action
  MakeCall : Action
  MakeDelay : Action

-- Parts of right sides. `token` takes one word; `make` takes no word and builds a tree;
-- the others are one part after the other, one or the other, `[ ]` and `{ }`.
pub data Part : Type 0 where
  token : Pattern → Part
  rule : Rule → Part
  make : Action → Part
  then : Part → Part → Part
  or : Part → Part → Part
  maybe : Part → Part
  many : Part → Part

infixr 5 ◌⨟◌
abbrev pub ◌⨟◌ : Part → Part → Part
p ⨟ q = then p q

infixr 4 ◌∣◌
abbrev pub ◌∣◌ : Part → Part → Part
p ∣ q = or p q

abbrev pub name : Part
name = token any_name

abbrev pub number : Part
number = token any_number

abbrev pub end : Part
end = token the_end

abbrev pub key : Keyword → Part
key k = token (this_keyword k)

abbrev pub mark : Symbol → Part
mark s = token (this_symbol s)

-- what the operators of a level are
abbrev pub signs : Level → List Symbol
signs Ors = Bar ∷ []
signs Xors = Caret ∷ []
signs Ands = Amp ∷ []
signs Shifts = ShiftLeft ∷ ShiftRight ∷ []
signs Sums = Plus ∷ Minus ∷ []
signs Products = Star ∷ []
signs FixedSums = Plus ∷ Minus ∷ []
signs FixedProducts = Star ∷ Slash ∷ Percent ∷ []

-- and what stands between them
abbrev pub operand : Level → Rule
operand Ors = level Xors
operand Xors = level Ands
operand Ands = TheCompare
operand Shifts = level Sums
operand Sums = level Products
operand Products = ThePrefix
operand FixedSums = level FixedProducts
operand FixedProducts = TheFixedPrimary

abbrev pub member : Block → Rule
member Items = TheItem
member Stmts = TheStmt

abbrev pub element : Listed → Rule
element Params = TheParam
element Exprs = TheExpr
element Entries = level FixedSums

-- r { "," r }
abbrev pub first_and_more : Rule → Part
first_and_more r = rule r ⨟ make Append ⨟ many (mark Comma ⨟ rule r ⨟ make AppendAfterComma)

abbrev pub fixed : Part
fixed = rule (level FixedSums)

abbrev pub comparisons : List Symbol
comparisons = Equal ∷ NotEqual ∷ Less ∷ LessEqual ∷ Greater ∷ GreaterEqual ∷ []

abbrev pub right : Rule → Part
right TheProgram = rule (AnyOf Items) ⨟ end ⨟ make MakeProgram
right (AnyOf b) = make Begin ⨟ many (rule (member b) ⨟ make Append)
right (ListOf l) = make Begin ⨟ first_and_more (element l)
right (MaybeListOf l) = make Begin ⨟ maybe (first_and_more (element l))
right TheWidth = make NoWidth ⨟ maybe (mark Colon ⨟ number ⨟ make MakeWidth)
right TheIndex = make NoIndex ⨟ maybe (mark OpenSquare ⨟ fixed ⨟ mark CloseSquare ⨟ make MakeIndex)
right TheItem =
    (key Input ⨟ name ⨟ mark Colon ⨟ number ⨟ mark Semi ⨟ make MakeInput)
    ∣ (key Output ⨟ name ⨟ rule TheWidth ⨟ mark Assign ⨟ rule TheExpr ⨟ mark Semi ⨟ make MakeOutput)
    ∣ (key Const ⨟ name ⨟ mark Assign ⨟ (fixed ∣ (mark OpenSquare ⨟ rule (ListOf Entries) ⨟ mark CloseSquare ⨟ make MakeTable)) ⨟ mark Semi ⨟ make MakeConst)
    ∣ (key Fn ⨟ name ⨟ mark OpenRound ⨟ rule (MaybeListOf Params) ⨟ mark CloseRound ⨟ rule TheWidth ⨟ mark OpenCurly ⨟ rule (AnyOf Stmts) ⨟ key Return ⨟ rule TheExpr ⨟ mark Semi ⨟ mark CloseCurly ⨟ make MakeFunction)
    ∣ rule TheStmt
right TheParam = name ⨟ rule TheWidth ⨟ make MakeParam
right TheStmt =
    (key Let ⨟ rule TheTarget ⨟ rule TheWidth ⨟ mark Assign ⨟ rule TheExpr ⨟ mark Semi ⨟ make MakeLet)
    ∣ (key Rec ⨟ rule TheTarget ⨟ rule TheWidth ⨟ mark Assign ⨟ fixed ⨟ key By ⨟ rule TheExpr ⨟ mark Semi ⨟ make MakeRec)
    ∣ (key For ⨟ name ⨟ key Within ⨟ fixed ⨟ mark Dots ⨟ fixed ⨟ mark OpenCurly ⨟ rule (AnyOf Stmts) ⨟ mark CloseCurly ⨟ make MakeFor)
right TheTarget = name ⨟ rule TheIndex ⨟ make MakeRefer
right TheExpr = rule (level Ors) ⨟ maybe (mark Ask ⨟ rule TheExpr ⨟ mark Colon ⨟ rule TheExpr ⨟ make MakeChoose)
right (level v) = rule (operand v) ⨟ many (token (one_of (signs v)) ⨟ rule (operand v) ⨟ make MakeBinary)
right TheCompare = rule (level Shifts) ⨟ maybe (token (one_of comparisons) ⨟ rule (level Shifts) ⨟ make MakeBinary)
right ThePrefix = (mark Tilde ⨟ rule ThePrefix ⨟ make MakeNot) ∣ rule ThePostfix
right ThePostfix = rule ThePrimary ⨟ many (mark OpenCurly ⨟ fixed ⨟ mark Dots ⨟ fixed ⨟ mark CloseCurly ⨟ make MakeSlice)
right ThePrimary =
    number
    ∣ (mark OpenRound ⨟ rule TheExpr ⨟ mark CloseRound ⨟ make MakeParen)
    ∣ (key Cat ⨟ mark OpenRound ⨟ rule (ListOf Exprs) ⨟ mark CloseRound ⨟ make MakeCat)
    ∣ (name ⨟ ((mark OpenRound ⨟ rule (MaybeListOf Exprs) ⨟ mark CloseRound ⨟ make MakeCall)
    ∣ (rule TheIndex ⨟ make MakeRefer ⨟ maybe (mark At ⨟ rule TheFixedPrimary ⨟ make MakeDelay))))
right TheFixedPrimary =
    number
    ∣ (mark OpenRound ⨟ fixed ⨟ mark CloseRound ⨟ make MakeParen)
    ∣ (name ⨟ rule TheIndex ⨟ make MakeRefer)
