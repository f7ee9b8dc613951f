-- Syntax trees as the grammar builds them, without where they lie in memory.
use Rattle.pr_lang.specs.Word.{Word}

pub data Tree : Type 0 where
  -- one word: a name, a number, an operator, or what is dropped when a tree is built over it
  word : Word → Tree
  -- a list, one more in it, and one more after a comma
  none : Tree
  more : Tree → Tree → Tree
  also : Tree → Tree → Tree
  no_width : Tree
  width : Tree → Tree
  no_index : Tree
  index : Tree → Tree
  -- a name and its index
  refer : Tree → Tree → Tree
  -- an expression, its high and its low end
  slice : Tree → Tree → Tree → Tree
  delay : Tree → Tree → Tree
  not : Tree → Tree
  -- operator, left, right
  binary : Tree → Tree → Tree → Tree
  -- condition, then, else
  choose : Tree → Tree → Tree → Tree
  call : Tree → Tree → Tree
  cat : Tree → Tree
  paren : Tree → Tree
  -- target, width, value
  let_stmt : Tree → Tree → Tree → Tree
  -- target, width, initial value, body
  rec_stmt : Tree → Tree → Tree → Tree → Tree
  -- index, low, high, body
  for_stmt : Tree → Tree → Tree → Tree → Tree
  param : Tree → Tree → Tree
  input : Tree → Tree → Tree
  -- name, width, value
  output : Tree → Tree → Tree → Tree
  const : Tree → Tree → Tree
  table : Tree → Tree
  -- name, parameters, width, body, result
  function : Tree → Tree → Tree → Tree → Tree → Tree
