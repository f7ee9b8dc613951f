-- The code's levels, and what begins with a name.
use Rattle.std.specs.Prelude.{ℕ}
use Rattle.pr_lang.specs.declared.tokens.Keyword.TheVariants.{Cat}
use Rattle.pr_lang.specs.declared.tokens.Symbol.TheVariants.{OpenRound, CloseRound, At}
use Rattle.pr_lang.specs.Grammar as lang
use Rattle.pr_lang.specs.Grammar.{Part, rule, name, key, mark, fixed, maybe, make, ListOf, MaybeListOf, Exprs, TheExpr, TheIndex, TheFixedPrimary, MakeParen, MakeCat, MakeCall, MakeRefer, MakeDelay, ◌⨟◌, ◌∣◌}
use Rattle.pr_parse.specs.declared.levels.Level.{Level}
use Rattle.pr_parse.specs.declared.levels.Level.TheVariants.{Ors, Xors, Ands, Shifts, Sums, Products}

abbrev pub level_seen : Level → lang.Level
level_seen Ors = lang.Ors
level_seen Xors = lang.Xors
level_seen Ands = lang.Ands
level_seen Shifts = lang.Shifts
level_seen Sums = lang.Sums
level_seen Products = lang.Products

-- what stands in parentheses, and a concatenation
abbrev pub paren_part : Part
paren_part = mark OpenRound ⨟ rule TheExpr ⨟ mark CloseRound ⨟ make MakeParen

abbrev pub fixed_paren_part : Part
fixed_paren_part = mark OpenRound ⨟ fixed ⨟ mark CloseRound ⨟ make MakeParen

abbrev pub cat_part : Part
cat_part = key Cat ⨟ mark OpenRound ⨟ rule (ListOf Exprs) ⨟ mark CloseRound ⨟ make MakeCat

-- what begins with a name: a call, or a stream and its delay
abbrev pub call_or_stream : Part
call_or_stream = name ⨟ ((mark OpenRound ⨟ rule (MaybeListOf Exprs) ⨟ mark CloseRound ⨟ make MakeCall)
    ∣ (rule TheIndex ⨟ make MakeRefer ⨟ maybe (mark At ⨟ rule TheFixedPrimary ⨟ make MakeDelay)))

-- how far a level, and what stands between its operators, is from a single name
abbrev pub rank_of : Level → ℕ
rank_of Ors = 16
rank_of Xors = 14
rank_of Ands = 12
rank_of Shifts = 9
rank_of Sums = 7
rank_of Products = 5

abbrev pub operand_rank_of : Level → ℕ
operand_rank_of Ors = 15
operand_rank_of Xors = 13
operand_rank_of Ands = 11
operand_rank_of Shifts = 8
operand_rank_of Sums = 6
operand_rank_of Products = 4
