-- Programs, and what is refused of a text before its scope is looked at.
use Rattle.std.specs.Prelude.{ℕ, cond, nat_lt, Option, Some, None, List}
use Rattle.pr_lang.specs.Word.{Word, words_of}
use Rattle.pr_lang.specs.Grammar.{TheProgram}
use Rattle.pr_lang.specs.Is.{Is}
use Rattle.pr_lang.specs.Machine.{first_wrong}
use Rattle.pr_lang.specs.Load.{first_deep}
use Rattle.pr_lang.specs.Tree.{Tree}

-- the words of the text are those of a program with this tree; none of them is Bad, since no part takes it
abbrev pub IsProgram : List ℕ → Tree → Type 0
IsProgram text tree = Is TheProgram (words_of text) tree

-- a token that breaks the grammar, or one that is nested too deep
pub data Refusal : Type 0 where
  AtToken : ℕ → Refusal
  TooDeep : Refusal

-- the first of the two decides, and at one token nesting does
abbrev pub earlier : Option ℕ → Option ℕ → Option Refusal
earlier None None = None
earlier None (Some wrong) = Some (AtToken wrong)
earlier (Some deep) None = Some TooDeep
earlier (Some deep) (Some wrong) = cond (nat_lt wrong deep) (Some (AtToken wrong)) (Some TooDeep)

abbrev pub refusal_of_words : List Word → Option Refusal
refusal_of_words ws = earlier (first_deep ws) (first_wrong ws)

abbrev pub refusal_of : List ℕ → Option Refusal
refusal_of text = refusal_of_words (words_of text)
