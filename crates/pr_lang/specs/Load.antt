-- Nesting: the load that each token leaves, and the first token that is deep.
use Rattle.std.specs.Prelude.{ℕ, ◌+◌, ◌-◌, cond, nat_lt, Option, Some, None, List, [], ◌∷◌, ◌++◌, length, take, slice_get, unwrap_or, option_map}
use Rattle.pr_lang.specs.declared.tokens.Keyword.{Keyword}
use Rattle.pr_lang.specs.declared.tokens.Keyword.TheVariants.{By, Within, Cat}
use Rattle.pr_lang.specs.declared.tokens.Symbol.{Symbol}
use Rattle.pr_lang.specs.declared.tokens.Symbol.TheVariants.{Semi, Assign, OpenRound, CloseRound, OpenSquare, CloseSquare, OpenCurly, CloseCurly, Comma, Dots}
use Rattle.pr_lang.specs.Word.{Word, keyword, symbol}

-- the load, and the loads that wait under it, the top of the stack last
pub record Loads : Type 0 where
  pub load : ℕ
  pub stack : List ℕ

abbrev pub top : List ℕ → Option ℕ
top stack = slice_get stack (length stack - 1)

abbrev pub below_top : List ℕ → List ℕ
below_top stack = take (length stack - 1) stack

-- an opening bracket
abbrev pub opened : Loads → Loads
opened s = record { load = s.load + 1; stack = s.stack ++ s.load ∷ [] }

-- `)` or `]`: the top is the load again
abbrev pub closed : Loads → Loads
closed s = record { load = unwrap_or (top s.stack) s.load; stack = below_top s.stack }

-- `}`: one more than the top
abbrev pub closed_curly : Loads → Loads
closed_curly s = record { load = unwrap_or (option_map (λ n. n + 1) (top s.stack)) s.load; stack = below_top s.stack }

-- `,`, `;` and the keywords that begin something
abbrev pub begun_anew : Loads → Loads
begun_anew s = record { load = unwrap_or (option_map (λ n. n + 1) (top s.stack)) 0; stack = s.stack }

abbrev pub one_more : Loads → Loads
one_more s = record { load = s.load + 1; stack = s.stack }

abbrev pub after_keyword : Keyword → Loads → Loads
after_keyword By s = s
after_keyword Within s = s
after_keyword Cat s = s
after_keyword _ s = begun_anew s

abbrev pub after_symbol : Symbol → Loads → Loads
after_symbol OpenRound s = opened s
after_symbol OpenSquare s = opened s
after_symbol OpenCurly s = opened s
after_symbol CloseRound s = closed s
after_symbol CloseSquare s = closed s
after_symbol CloseCurly s = closed_curly s
after_symbol Comma s = begun_anew s
after_symbol Semi s = begun_anew s
after_symbol Assign s = s
after_symbol Dots s = s
after_symbol _ s = one_more s

abbrev pub after_word : Word → Loads → Loads
after_word (keyword k) s = after_keyword k s
after_word (symbol m) s = after_symbol m s
after_word _ s = s

-- the place of the first word whose load is above 256, where the first of these words has this place
abbrev pub deep_from : ℕ → Loads → List Word → Option ℕ
deep_from place s [] = None
deep_from place s (w ∷ ws) = let t = after_word w s in cond (nat_lt 256 t.load) (Some place) (deep_from (place + 1) t ws)

abbrev pub first_deep : List Word → Option ℕ
first_deep ws = deep_from 0 (record { load = 0; stack = [] }) ws
