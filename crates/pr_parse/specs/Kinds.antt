-- Kinds of tokens, as the grammar's patterns see them.
use Rattle.std.specs.Prelude.{ℕ, Bool, true, false, List, [], ◌∷◌}
use Rattle.pr_lang.specs.declared.tokens.Keyword.TheVariants.{Input, Output, Const, Fn, Let, Rec, For, Cat}
use Rattle.pr_lang.specs.declared.tokens.Symbol.TheVariants.{OpenRound, Tilde}
use Rattle.pr_lang.specs.declared.tokens.Kind.{Kind}
use Rattle.pr_lang.specs.declared.tokens.Kind.TheVariants.{Name, Number, Word, Mark, End, Bad}
use Rattle.pr_lang.specs.Word.{keyword_tag, symbol_tag, Pattern, any_name, any_number, the_end, this_keyword, this_symbol, one_of}
use Rattle.pr_lang.specs.declared.tokens.Token.{Token}
use Rattle.pr_lang.specs.Word as word

abbrev pub kind_tag : Kind → ℕ
kind_tag Name = 0
kind_tag (Number n) = 1
kind_tag End = 2
kind_tag Bad = 3
kind_tag (Word k) = keyword_tag k
kind_tag (Mark s) = symbol_tag s

-- the pattern that takes such a token
abbrev pub pattern_of : Kind → Pattern
pattern_of Name = any_name
pattern_of (Number n) = any_number
pattern_of End = the_end
pattern_of Bad = one_of []
pattern_of (Word k) = this_keyword k
pattern_of (Mark s) = this_symbol s

-- the word of a token that is no name
abbrev pub word_of_kind : Kind → word.Word
word_of_kind k = word.word_by [] k

-- the kinds that something can begin with
abbrev pub starts_item : Kind → Bool
starts_item (Word Input) = true
starts_item (Word Output) = true
starts_item (Word Const) = true
starts_item (Word Fn) = true
starts_item (Word Let) = true
starts_item (Word Rec) = true
starts_item (Word For) = true
starts_item _ = false

abbrev pub starts_stmt : Kind → Bool
starts_stmt (Word Let) = true
starts_stmt (Word Rec) = true
starts_stmt (Word For) = true
starts_stmt _ = false

abbrev pub starts_param : Kind → Bool
starts_param Name = true
starts_param _ = false

abbrev pub starts_expr : Kind → Bool
starts_expr Name = true
starts_expr (Number n) = true
starts_expr (Word Cat) = true
starts_expr (Mark OpenRound) = true
starts_expr (Mark Tilde) = true
starts_expr _ = false

abbrev pub starts_fixed : Kind → Bool
starts_fixed Name = true
starts_fixed (Number n) = true
starts_fixed (Mark OpenRound) = true
starts_fixed _ = false

-- the kind of the next token; Bad where there is none
abbrev pub first_kind : List Token → Kind
first_kind [] = Bad
first_kind (t ∷ ts) = t.kind
