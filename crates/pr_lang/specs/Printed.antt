-- The words that a tree stands for, and the text that is printed for a program.
use Rattle.std.specs.Prelude.{ℕ, List, [], ◌∷◌, ◌++◌, decimal}
use Rattle.pr_lang.specs.declared.tokens.Keyword.TheVariants.{Input, Output, Const, Fn, Return, Let, Rec, By, For, Within, Cat}
use Rattle.pr_lang.specs.declared.tokens.Symbol.TheVariants.{Colon, Semi, Assign, OpenRound, CloseRound, OpenSquare, CloseSquare, OpenCurly, CloseCurly, Comma, Dots, At, Ask, Tilde}
use Rattle.pr_lang.specs.Spelling.{keyword_text, symbol_text}
use Rattle.pr_lang.specs.Word.{Word, named, numbered, keyword, symbol, ending, broken}
use Rattle.pr_lang.specs.Tree.{Tree}
use Rattle.pr_lang.specs.Tree as tree

abbrev pub spelling : Tree → List Word
spelling (tree.word w) = w ∷ []
spelling tree.none = []
spelling (tree.more l t) = spelling l ++ spelling t
spelling (tree.also l t) = spelling l ++ symbol Comma ∷ spelling t
spelling tree.no_width = []
spelling (tree.width n) = symbol Colon ∷ spelling n
spelling tree.no_index = []
spelling (tree.index t) = symbol OpenSquare ∷ (spelling t ++ symbol CloseSquare ∷ [])
spelling (tree.refer x i) = spelling x ++ spelling i
spelling (tree.slice t h l) = spelling t ++ symbol OpenCurly ∷ (spelling h ++ symbol Dots ∷ (spelling l ++ symbol CloseCurly ∷ []))
spelling (tree.delay r k) = spelling r ++ symbol At ∷ spelling k
spelling (tree.not t) = symbol Tilde ∷ spelling t
spelling (tree.binary s a b) = spelling a ++ (spelling s ++ spelling b)
spelling (tree.choose c a b) = spelling c ++ symbol Ask ∷ (spelling a ++ symbol Colon ∷ spelling b)
spelling (tree.call x l) = spelling x ++ symbol OpenRound ∷ (spelling l ++ symbol CloseRound ∷ [])
spelling (tree.cat l) = keyword Cat ∷ symbol OpenRound ∷ (spelling l ++ symbol CloseRound ∷ [])
spelling (tree.paren t) = symbol OpenRound ∷ (spelling t ++ symbol CloseRound ∷ [])
spelling (tree.let_stmt r w e) = keyword Let ∷ (spelling r ++ (spelling w ++ symbol Assign ∷ (spelling e ++ symbol Semi ∷ [])))
spelling (tree.rec_stmt r w c e) = keyword Rec ∷ (spelling r ++ (spelling w ++ symbol Assign ∷ (spelling c ++ keyword By ∷ (spelling e ++ symbol Semi ∷ []))))
spelling (tree.for_stmt x c d b) = keyword For ∷ (spelling x ++ keyword Within ∷ (spelling c ++ symbol Dots ∷ (spelling d ++ symbol OpenCurly ∷ (spelling b ++ symbol CloseCurly ∷ []))))
spelling (tree.param x w) = spelling x ++ spelling w
spelling (tree.input x w) = keyword Input ∷ (spelling x ++ symbol Colon ∷ (spelling w ++ symbol Semi ∷ []))
spelling (tree.output x w e) = keyword Output ∷ (spelling x ++ (spelling w ++ symbol Assign ∷ (spelling e ++ symbol Semi ∷ [])))
spelling (tree.const x c) = keyword Const ∷ (spelling x ++ symbol Assign ∷ (spelling c ++ symbol Semi ∷ []))
spelling (tree.table l) = symbol OpenSquare ∷ (spelling l ++ symbol CloseSquare ∷ [])
spelling (tree.function x p w b e) = keyword Fn ∷ (spelling x ++ symbol OpenRound ∷ (spelling p ++ symbol CloseRound ∷ (spelling w ++ symbol OpenCurly ∷ (spelling b ++ keyword Return ∷ (spelling e ++ symbol Semi ∷ symbol CloseCurly ∷ [])))))

-- how a word is written; numbers are decimal without leading zeros
abbrev pub written : Word → List ℕ
written (named x) = x
written (numbered n) = decimal n
written (keyword k) = keyword_text k
written (symbol s) = symbol_text s
written ending = []
written broken = []

-- words with one space between two, and what follows the last one
abbrev pub spaced : List Word → List ℕ → List ℕ
spaced [] after = after
spaced (w ∷ []) after = written w ++ after
spaced (w ∷ v ∷ ws) after = written w ++ 32 ∷ spaced (v ∷ ws) after

-- the items of a list, each on a line of its own
abbrev pub lines : Tree → List ℕ
lines (tree.more l item) = lines l ++ spaced (spelling item) (10 ∷ [])
lines _ = []

-- the text of a program
abbrev pub printed : Tree → List ℕ
printed program = lines program
