-- The points and frames of statements and items: how a part is walked that begins at a token.
use Rattle.std.specs.Prelude.{ℕ, ◌≡◌, ◌++◌, ◌∷◌, [], List, Option, map}
use Rattle.pr_lang.specs.declared.trees.Ref.{Ref}
use Rattle.pr_lang.specs.declared.trees.Stmt.{Stmt}
use Rattle.pr_lang.specs.declared.trees.Stmt.TheOpen.{Stmt-F}
use Rattle.pr_lang.specs.declared.trees.Stmt.TheFolds.{fold-Stmt}
use Rattle.pr_lang.specs.declared.trees.Param.{Param}
use Rattle.pr_lang.specs.declared.trees.Item.{Item}
use Rattle.pr_lang.specs.declared.trees.Item.TheVariants as item
use Rattle.pr_lens_items.specs.declared.points.Frame.{Frame}
use Rattle.pr_lens_items.specs.declared.points.Points.{Points}
use Rattle.pr_lens_items.specs.Tokens.{later, widths_with, token_behind}
use Rattle.pr_lens_items.specs.Walks.{Walk, fixed_walk, index_walk, expr_walk, parts_points}

-- a frame without where it lies in memory
pub record Entry : Type 0 where
  pub names : List ℕ
  pub widths : List ℕ
  pub fixeds : List ℕ

abbrev pub entry_of : Frame → Entry
entry_of f = record { names = f.names.items; widths = f.widths.items; fixeds = f.fixeds.items }

abbrev pub entries_of : List Frame → List Entry
entries_of fs = map entry_of fs

-- of a statement that begins at a token, the points and the frames behind those that were seen before, and the token behind it
pub record Steps : Type 0 where
  pub values : ℕ → List ℕ → List ℕ
  pub frames : ℕ → List Entry → List Entry
  pub end : ℕ → ℕ

-- a target and its declared width: their frame, and the token behind them
abbrev pub begun_entry : Ref → Option ℕ → ℕ → Entry
begun_entry r width at = record {
  names = later at 1 ∷ [];
  widths = widths_with ((index_walk r.index).end (later at 1)) width [];
  fixeds = (index_walk r.index).points (later at 1) [];
}

abbrev pub begun_end : Ref → Option ℕ → ℕ → ℕ
begun_end r width at = token_behind ((index_walk r.index).end (later at 1)) width

abbrev pub let_steps : Ref → Option ℕ → Walk → Steps
let_steps r width value = record {
  values = λ at seen. value.points (later (begun_end r width at) 1) seen;
  frames = λ at seen. seen ++ begun_entry r width at ∷ [];
  end = λ at. later (value.end (later (begun_end r width at) 1)) 1;
}

-- a recurrence whose equals sign is this token
abbrev pub rec_entry : Entry → Walk → ℕ → Entry
rec_entry begun init sign = record begun { fixeds = init.points (later sign 1) begun.fixeds }

abbrev pub rec_body : Walk → ℕ → ℕ
rec_body init sign = later (init.end (later sign 1)) 1

abbrev pub rec_steps : Ref → Option ℕ → Walk → Walk → Steps
rec_steps r width init body = record {
  values = λ at seen. body.points (rec_body init (begun_end r width at)) seen;
  frames = λ at seen. seen ++ rec_entry (begun_entry r width at) init (begun_end r width at) ∷ [];
  end = λ at. later (body.end (rec_body init (begun_end r width at))) 1;
}

-- the frame of a loop, and the first token of its body
abbrev pub loop_entry : Walk → Walk → ℕ → Entry
loop_entry low high at = record {
  names = later at 1 ∷ [];
  widths = [];
  fixeds = high.points (later (low.end (later at 3)) 1) (low.points (later at 3) []);
}

abbrev pub loop_body : Walk → Walk → ℕ → ℕ
loop_body low high at = later (high.end (later (low.end (later at 3)) 1)) 1

-- statements, one after the other
abbrev pub all_values : List Steps → ℕ → List ℕ → List ℕ
all_values [] at seen = seen
all_values (s ∷ ss) at seen = all_values ss (s.end at) (s.values at seen)

abbrev pub all_frames : List Steps → ℕ → List Entry → List Entry
all_frames [] at seen = seen
all_frames (s ∷ ss) at seen = all_frames ss (s.end at) (s.frames at seen)

abbrev pub all_end : List Steps → ℕ → ℕ
all_end [] at = at
all_end (s ∷ ss) at = all_end ss (s.end at)

abbrev pub loop_steps : Walk → Walk → List Steps → Steps
loop_steps low high body = record {
  values = λ at seen. all_values body (loop_body low high at) seen;
  frames = λ at seen. all_frames body (loop_body low high at) (seen ++ loop_entry low high at ∷ []);
  end = λ at. later (all_end body (loop_body low high at)) 1;
}

abbrev pub stmt_layer : Stmt-F Steps → Steps
stmt_layer (Stmt-F.Let r width value) = let_steps r width (expr_walk value)
stmt_layer (Stmt-F.Rec r width init body) = rec_steps r width (fixed_walk init) (expr_walk body)
stmt_layer (Stmt-F.For x low high body) = loop_steps (fixed_walk low) (fixed_walk high) body.items

abbrev pub stmt_steps : Stmt → Steps
stmt_steps = fold-Stmt Steps stmt_layer

-- a step lists what a statement's walk says
pub record ListsSteps (s : Steps) (at : ℕ) (before after : Points) (end : ℕ) : Type 0 where
  pub values : after.values.items ≡ s.values at before.values.items
  pub frames : entries_of after.frames.items ≡ s.frames at (entries_of before.frames.items)
  pub end_is : end ≡ s.end at

-- the same of statements
pub record ListsAll (ss : List Steps) (at : ℕ) (before after : Points) (end : ℕ) : Type 0 where
  pub values : after.values.items ≡ all_values ss at before.values.items
  pub frames : entries_of after.frames.items ≡ all_frames ss at (entries_of before.frames.items)
  pub end_is : end ≡ all_end ss at

-- parameters, each behind a bracket or a comma, of which the first is this token: their names, their widths and the token behind them
abbrev pub params_names : List Param → ℕ → List ℕ → List ℕ
params_names [] sign seen = seen
params_names (p ∷ ps) sign seen = params_names ps (token_behind (later sign 2) p.width) (seen ++ later sign 1 ∷ [])

abbrev pub params_widths : List Param → ℕ → List ℕ → List ℕ
params_widths [] sign seen = seen
params_widths (p ∷ ps) sign seen = params_widths ps (token_behind (later sign 2) p.width) (widths_with (later sign 2) p.width seen)

abbrev pub params_end : List Param → ℕ → ℕ
params_end [] sign = sign
params_end (p ∷ ps) sign = params_end ps (token_behind (later sign 2) p.width)

-- the closing bracket of parameters that end here
abbrev pub params_closed : List Param → ℕ → ℕ
params_closed [] end = later end 1
params_closed (p ∷ ps) end = end

-- where a function's own width may stand
abbrev pub function_colon : List Param → ℕ → ℕ
function_colon params at = later (params_closed params (params_end params (later at 2))) 1

abbrev pub function_entry : List Param → Option ℕ → ℕ → Entry
function_entry params width at = record {
  names = params_names params (later at 2) (later at 1 ∷ []);
  widths = widths_with (function_colon params at) width (params_widths params (later at 2) []);
  fixeds = [];
}

abbrev pub function_body : List Param → Option ℕ → ℕ → ℕ
function_body params width at = later (token_behind (function_colon params at) width) 1

-- of an item that begins at a token, the points and the frames behind those that were seen before
pub record Piece : Type 0 where
  pub values : ℕ → List ℕ → List ℕ
  pub frames : ℕ → List Entry → List Entry

abbrev pub input_piece : Piece
input_piece = record {
  values = λ at seen. seen;
  frames = λ at seen. seen ++ record { names = later at 1 ∷ []; widths = later at 3 ∷ []; fixeds = [] } ∷ [];
}

abbrev pub output_piece : Option ℕ → Walk → Piece
output_piece width value = record {
  values = λ at seen. value.points (later (token_behind (later at 2) width) 1) seen;
  frames = λ at seen. seen ++ record { names = later at 1 ∷ []; widths = widths_with (later at 2) width []; fixeds = [] } ∷ [];
}

abbrev pub const_piece : Walk → Piece
const_piece value = record {
  values = λ at seen. seen;
  frames = λ at seen. seen ++ record { names = later at 1 ∷ []; widths = []; fixeds = value.points (later at 3) [] } ∷ [];
}

abbrev pub table_piece : List Walk → Piece
table_piece values = record {
  values = λ at seen. seen;
  frames = λ at seen. seen ++ record { names = later at 1 ∷ []; widths = []; fixeds = parts_points values (later at 3) [] } ∷ [];
}

-- statements and the result behind them, where the first of them begins at this token
abbrev pub body_piece : List Steps → Walk → Piece
body_piece body value = record {
  values = λ at seen. value.points (later (all_end body at) 1) (all_values body at seen);
  frames = λ at seen. all_frames body at seen;
}

abbrev pub function_piece : List Param → Option ℕ → List Steps → Walk → Piece
function_piece params width body value = record {
  values = λ at seen. (body_piece body value).values (function_body params width at) seen;
  frames = λ at seen. (body_piece body value).frames (function_body params width at) (seen ++ function_entry params width at ∷ []);
}

abbrev pub step_piece : Steps → Piece
step_piece s = record { values = λ at seen. s.values at seen; frames = λ at seen. s.frames at seen }

abbrev pub item_piece : Item → Piece
item_piece (item.Input x width) = input_piece
item_piece (item.Output x width value) = output_piece width (expr_walk value)
item_piece (item.Const x value) = const_piece (fixed_walk value)
item_piece (item.Table x values) = table_piece (map fixed_walk values.items)
item_piece (item.Function x params width body result) = function_piece params.items width (map stmt_steps body.items) (expr_walk result)
item_piece (item.Step s) = step_piece (stmt_steps s)

-- a step lists what a piece says
pub record ListsPiece (piece : Piece) (at : ℕ) (before after : Points) : Type 0 where
  pub values : after.values.items ≡ piece.values at before.values.items
  pub frames : entries_of after.frames.items ≡ piece.frames at (entries_of before.frames.items)

-- the parameters of a function are listed
pub record ListsParams (params : List Param) (sign : ℕ) (before after : Frame) (end : ℕ) : Type 0 where
  pub names : after.names.items ≡ params_names params sign before.names.items
  pub widths : after.widths.items ≡ params_widths params sign before.widths.items
  pub fixeds : after.fixeds.items ≡ before.fixeds.items
  pub end_is : end ≡ params_end params sign

-- the frame of a function is listed, and the first token of its body
pub record ListsHead (params : List Param) (width : Option ℕ) (at : ℕ) (before after : Points) (begin : ℕ) : Type 0 where
  pub values : after.values.items ≡ before.values.items
  pub frames : entries_of after.frames.items ≡ entries_of before.frames.items ++ function_entry params width at ∷ []
  pub begin_is : begin ≡ function_body params width at

-- a frame is begun, and the token behind it
pub record IsBegun (r : Ref) (width : Option ℕ) (at : ℕ) (frame : Frame) (sign : ℕ) : Type 0 where
  pub entry : entry_of frame ≡ begun_entry r width at
  pub sign_is : sign ≡ begun_end r width at

-- a recurrence is listed whose frame is begun and whose equals sign is this token
pub record ListsRec (begun : Frame) (init body : Walk) (sign : ℕ) (before after : Points) (end : ℕ) : Type 0 where
  pub values : after.values.items ≡ body.points (rec_body init sign) before.values.items
  pub frames : entries_of after.frames.items ≡ entries_of before.frames.items ++ rec_entry (entry_of begun) init sign ∷ []
  pub end_is : end ≡ later (body.end (rec_body init sign)) 1

-- a loop's frame is listed, and the first token of its body
pub record ListsLoop (low high : Walk) (at : ℕ) (before after : Points) (begin : ℕ) : Type 0 where
  pub values : after.values.items ≡ before.values.items
  pub frames : entries_of after.frames.items ≡ entries_of before.frames.items ++ loop_entry low high at ∷ []
  pub begin_is : begin ≡ loop_body low high at
