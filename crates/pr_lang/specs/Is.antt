-- The grammar as a relation on whole lists of words: which words are what, and with which tree.
use Rattle.std.specs.Prelude.{ℕ, ◌≡◌, ◌⊎◌, List, [], ◌∷◌, ◌++◌}
use Rattle.pr_lang.specs.declared.tokens.Keyword.TheVariants.{Input, Output, Const, Fn, Return, Let, Rec, By, For, Within, Cat}
use Rattle.pr_lang.specs.declared.tokens.Symbol.{Symbol}
use Rattle.pr_lang.specs.declared.tokens.Symbol.TheVariants.{Colon, Semi, Assign, OpenRound, CloseRound, OpenSquare, CloseSquare, OpenCurly, CloseCurly, Comma, Dots, At, Ask, Tilde}
use Rattle.pr_lang.specs.Word.{Word, named, numbered, keyword, symbol, ending}
use Rattle.pr_lang.specs.Grammar.{Rule, TheProgram, AnyOf, ListOf, MaybeListOf, TheWidth, TheIndex, TheItem, TheParam, TheStmt, TheTarget, TheExpr, level, TheCompare, ThePrefix, ThePostfix, ThePrimary, TheFixedPrimary}
use Rattle.pr_lang.specs.Grammar.{Block, Items, Stmts, member, Listed, Params, Exprs, Entries, element, Level, Ors, Shifts, FixedSums, signs, operand, comparisons}
use Rattle.pr_lang.specs.Tree.{Tree}
use Rattle.pr_lang.specs.Tree as tree

-- a constant expression
abbrev pub Fixed : Rule
Fixed = level FixedSums

abbrev pub IsSign : List Symbol → Symbol → Type 0
IsSign [] s = ⊥
IsSign (t ∷ ts) s = (s ≡ t) ⊎ IsSign ts s

abbrev pub name_tree : List ℕ → Tree
name_tree x = tree.word (named x)

abbrev pub number_tree : ℕ → Tree
number_tree n = tree.word (numbered n)

abbrev pub sign_tree : Symbol → Tree
sign_tree s = tree.word (symbol s)

pub data Is : Rule → List Word → Tree → Type 0 where
  no_more : {b : Block} → Is (AnyOf b) [] tree.none
  one_more : {b : Block} {ks ls : List Word} {l t : Tree} → Is (AnyOf b) ks l → Is (member b) ls t → Is (AnyOf b) (ks ++ ls) (tree.more l t)
  only_one : {c : Listed} {ks : List Word} {t : Tree} → Is (element c) ks t → Is (ListOf c) ks (tree.more tree.none t)
  also_one : {c : Listed} {ks ls : List Word} {l t : Tree} → Is (ListOf c) ks l → Is (element c) ls t → Is (ListOf c) (ks ++ symbol Comma ∷ ls) (tree.also l t)
  no_list : {c : Listed} → Is (MaybeListOf c) [] tree.none
  a_list : {c : Listed} {ks : List Word} {l : Tree} → Is (ListOf c) ks l → Is (MaybeListOf c) ks l
  no_width : Is TheWidth [] tree.no_width
  a_width : {w : ℕ} → Is TheWidth (symbol Colon ∷ numbered w ∷ []) (tree.width (number_tree w))
  no_index : Is TheIndex [] tree.no_index
  an_index : {ks : List Word} {t : Tree} → Is Fixed ks t → Is TheIndex (symbol OpenSquare ∷ (ks ++ symbol CloseSquare ∷ [])) (tree.index t)
  program : {ks : List Word} {l : Tree} → Is (AnyOf Items) ks l → Is TheProgram (ks ++ ending ∷ []) l
  input : {x : List ℕ} {w : ℕ} → Is TheItem (keyword Input ∷ named x ∷ symbol Colon ∷ numbered w ∷ symbol Semi ∷ []) (tree.input (name_tree x) (number_tree w))
  output : {x : List ℕ} {ws es : List Word} {w e : Tree} → Is TheWidth ws w → Is TheExpr es e
      → Is TheItem (keyword Output ∷ named x ∷ (ws ++ symbol Assign ∷ (es ++ symbol Semi ∷ []))) (tree.output (name_tree x) w e)
  const : {x : List ℕ} {cs : List Word} {c : Tree} → Is Fixed cs c
      → Is TheItem (keyword Const ∷ named x ∷ symbol Assign ∷ (cs ++ symbol Semi ∷ [])) (tree.const (name_tree x) c)
  table : {x : List ℕ} {cs : List Word} {l : Tree} → Is (ListOf Entries) cs l
      → Is TheItem (keyword Const ∷ named x ∷ symbol Assign ∷ symbol OpenSquare ∷ (cs ++ symbol CloseSquare ∷ symbol Semi ∷ [])) (tree.const (name_tree x) (tree.table l))
  function : {x : List ℕ} {ps ws bs es : List Word} {p w b e : Tree} → Is (MaybeListOf Params) ps p → Is TheWidth ws w → Is (AnyOf Stmts) bs b → Is TheExpr es e
      → Is TheItem (keyword Fn ∷ named x ∷ symbol OpenRound ∷ (ps ++ symbol CloseRound ∷ (ws ++ symbol OpenCurly ∷ (bs ++ keyword Return ∷ (es ++ symbol Semi ∷ symbol CloseCurly ∷ []))))) (tree.function (name_tree x) p w b e)
  step : {ks : List Word} {t : Tree} → Is TheStmt ks t → Is TheItem ks t
  param : {x : List ℕ} {ws : List Word} {w : Tree} → Is TheWidth ws w → Is TheParam (named x ∷ ws) (tree.param (name_tree x) w)
  let_stmt : {rs ws es : List Word} {r w e : Tree} → Is TheTarget rs r → Is TheWidth ws w → Is TheExpr es e
      → Is TheStmt (keyword Let ∷ (rs ++ (ws ++ symbol Assign ∷ (es ++ symbol Semi ∷ [])))) (tree.let_stmt r w e)
  rec_stmt : {rs ws cs es : List Word} {r w c e : Tree} → Is TheTarget rs r → Is TheWidth ws w → Is Fixed cs c → Is TheExpr es e
      → Is TheStmt (keyword Rec ∷ (rs ++ (ws ++ symbol Assign ∷ (cs ++ keyword By ∷ (es ++ symbol Semi ∷ []))))) (tree.rec_stmt r w c e)
  for_stmt : {x : List ℕ} {cs ds bs : List Word} {c d b : Tree} → Is Fixed cs c → Is Fixed ds d → Is (AnyOf Stmts) bs b
      → Is TheStmt (keyword For ∷ named x ∷ keyword Within ∷ (cs ++ symbol Dots ∷ (ds ++ symbol OpenCurly ∷ (bs ++ symbol CloseCurly ∷ [])))) (tree.for_stmt (name_tree x) c d b)
  target : {x : List ℕ} {js : List Word} {i : Tree} → Is TheIndex js i → Is TheTarget (named x ∷ js) (tree.refer (name_tree x) i)
  no_choice : {ks : List Word} {t : Tree} → Is (level Ors) ks t → Is TheExpr ks t
  choice : {cs ys bs : List Word} {c a b : Tree} → Is (level Ors) cs c → Is TheExpr ys a → Is TheExpr bs b
      → Is TheExpr (cs ++ symbol Ask ∷ (ys ++ symbol Colon ∷ bs)) (tree.choose c a b)
  one_operand : {v : Level} {ks : List Word} {t : Tree} → Is (operand v) ks t → Is (level v) ks t
  one_operator : {v : Level} {s : Symbol} {ys bs : List Word} {a b : Tree} → Is (level v) ys a → IsSign (signs v) s → Is (operand v) bs b
      → Is (level v) (ys ++ symbol s ∷ bs) (tree.binary (sign_tree s) a b)
  no_comparison : {ks : List Word} {t : Tree} → Is (level Shifts) ks t → Is TheCompare ks t
  comparison : {s : Symbol} {ys bs : List Word} {a b : Tree} → Is (level Shifts) ys a → IsSign comparisons s → Is (level Shifts) bs b
      → Is TheCompare (ys ++ symbol s ∷ bs) (tree.binary (sign_tree s) a b)
  tilde : {ks : List Word} {t : Tree} → Is ThePrefix ks t → Is ThePrefix (symbol Tilde ∷ ks) (tree.not t)
  no_prefix : {ks : List Word} {t : Tree} → Is ThePostfix ks t → Is ThePrefix ks t
  no_postfix : {ks : List Word} {t : Tree} → Is ThePrimary ks t → Is ThePostfix ks t
  sliced : {ks hs ls : List Word} {t h l : Tree} → Is ThePostfix ks t → Is Fixed hs h → Is Fixed ls l
      → Is ThePostfix (ks ++ symbol OpenCurly ∷ (hs ++ symbol Dots ∷ (ls ++ symbol CloseCurly ∷ []))) (tree.slice t h l)
  number : {n : ℕ} → Is ThePrimary (numbered n ∷ []) (number_tree n)
  paren : {ks : List Word} {t : Tree} → Is TheExpr ks t → Is ThePrimary (symbol OpenRound ∷ (ks ++ symbol CloseRound ∷ [])) (tree.paren t)
  cat : {ks : List Word} {l : Tree} → Is (ListOf Exprs) ks l
      → Is ThePrimary (keyword Cat ∷ symbol OpenRound ∷ (ks ++ symbol CloseRound ∷ [])) (tree.cat l)
  call : {x : List ℕ} {ks : List Word} {l : Tree} → Is (MaybeListOf Exprs) ks l
      → Is ThePrimary (named x ∷ symbol OpenRound ∷ (ks ++ symbol CloseRound ∷ [])) (tree.call (name_tree x) l)
  refer : {x : List ℕ} {js : List Word} {i : Tree} → Is TheIndex js i → Is ThePrimary (named x ∷ js) (tree.refer (name_tree x) i)
  delayed : {x : List ℕ} {js ds : List Word} {i d : Tree} → Is TheIndex js i → Is TheFixedPrimary ds d
      → Is ThePrimary (named x ∷ (js ++ symbol At ∷ ds)) (tree.delay (tree.refer (name_tree x) i) d)
  fixed_number : {n : ℕ} → Is TheFixedPrimary (numbered n ∷ []) (number_tree n)
  fixed_paren : {ks : List Word} {t : Tree} → Is Fixed ks t → Is TheFixedPrimary (symbol OpenRound ∷ (ks ++ symbol CloseRound ∷ [])) (tree.paren t)
  fixed_refer : {x : List ℕ} {js : List Word} {i : Tree} → Is TheIndex js i → Is TheFixedPrimary (named x ∷ js) (tree.refer (name_tree x) i)
