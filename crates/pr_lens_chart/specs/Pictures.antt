-- The text of a picture. Numbers are as far as 64 bits count.
use Rattle.std.specs.Prelude.{ℕ, zero, suc, ◌+◌, ◌-◌, ◌==◌, ◌*◌, ◌/◌, ◌%◌, min, max, Bool, true, false, not, ◌&&◌, is_some, List, [], ◌∷◌, ◌++◌, length, take, replicate, Option, Some, None, codes, decimal, if◌then◌else◌}
use Rattle.pr_conf.specs.declared.turns.Turn.{Turn}
use Rattle.pr_lens_chart.specs.declared.frames.Left.{Left}
use Rattle.pr_lens_chart.specs.declared.pieces.Area.{Area}
use Rattle.pr_lens_log.specs.declared.lines.Logged.{Logged}
use Rattle.pr_lens_log.specs.declared.windows.Part.{Part}
use Rattle.pr_lens_log.specs.Boards.{after_turn, after_turns, stage_in}
use Rattle.pr_lens_log.specs.Windows.{part_in}
use Rattle.pr_lens_chart.specs.Charts.{area_text, begin_text, words_text}
use Rattle.pr_lens_log.specs.Lines.{is_into}

abbrev pub counted : ℕ → ℕ
counted n = min n 18446744073709551615

-- behind so many things of a size, the first of which begins here
abbrev pub behind : ℕ → ℕ → ℕ → ℕ
behind from size number = counted (counted (number * size) + from)

-- where the column of a cycle begins, and the row below so many stripes
abbrev pub column_at : ℕ → ℕ
column_at number = behind 80 30 number

abbrev pub below : ℕ → ℕ
below stripes = behind 44 26 stripes

abbrev pub lower : ℕ → ℕ → ℕ
lower y more = counted (y + more)

-- ---- colours
abbrev pub shade_text : Bool → List ℕ
shade_text true = codes ",70%,80%)\"/>\n"
shade_text false = codes ",65%,50%)\"/>\n"

-- the colour of a stage, of so many
unfoldable pub fill_text : ℕ → ℕ → Bool → List ℕ
fill_text stage stages computes = codes " fill=\"hsl(" ++ decimal (counted (stage * 360) / max stages 1 % 360) ++ shade_text computes

-- ---- cells
abbrev pub class_text : Bool → List ℕ
class_text true = codes "b"
class_text false = codes "n"

unfoldable pub corner_text : ℕ → ℕ → List ℕ
corner_text x y = codes "<path d=\"M" ++ decimal x ++ codes " " ++ decimal y ++ codes "h9l-9 9z\" fill=\"#000\"/>\n"

unfoldable pub cell_text : Area → ℕ → ℕ → Bool → List ℕ
cell_text area stage stages comes =
    area_text area ++ fill_text stage stages (not comes)
    ++ words_text (class_text comes) (counted (area.x + area.width / 2)) (lower area.y 17) (decimal stage)

-- what stands in a stripe, where a stage does
abbrev pub stage_cell : Option ℕ → Area → ℕ → Bool → List ℕ
stage_cell None area stages comes = []
stage_cell (Some stage) area stages comes = cell_text area stage stages comes

-- a corner where a state is saved
abbrev pub save_cell : Bool → Area → List ℕ
save_cell true area = corner_text area.x area.y
save_cell false area = []

abbrev pub stripe_area : ℕ → ℕ → Area
stripe_area x stripe = record { x = x; y = lower (below stripe) 1; width = 28; height = 24 }

unfoldable pub stripe_cell : List (Option ℕ) → Turn → ℕ → ℕ → ℕ → List ℕ
stripe_cell board turn stages x stripe =
    stage_cell (stage_in board stripe) (stripe_area x stripe) stages (is_into turn.configured stripe)
    ++ save_cell (is_into turn.configured stripe && is_some turn.saved) (stripe_area x stripe)

-- the first so many stripes
unfoldable pub stripe_cells : ℕ → List (Option ℕ) → Turn → ℕ → ℕ → List ℕ
stripe_cells zero board turn stages x = []
stripe_cells (suc stripe) board turn stages x = stripe_cells stripe board turn stages x ++ stripe_cell board turn stages x stripe

-- ---- columns
abbrev pub entry_words : Option ℕ → ℕ → ℕ → List ℕ
entry_words None x y = []
entry_words (Some number) x y = words_text (codes "n") x y (decimal number)

unfoldable pub column_words : Logged → ℕ → ℕ → List ℕ
column_words c stripes x =
    words_text (codes "n") (counted (x + 15)) 32 (decimal c.time)
    ++ entry_words c.turn.entered (counted (x + 15)) (lower (below stripes) 17)
    ++ entry_words c.turn.left (counted (x + 15)) (lower (below stripes) 37)

unfoldable pub stall_text : ℕ → ℕ → List ℕ
stall_text x stripes = area_text (record { x = x; y = 44; width = 28; height = counted (stripes * 26) }) ++ codes " fill=\"#bbb\"/>\n"

-- a cycle after which these stages stand in the stripes
unfoldable pub column_text : ℕ → ℕ → ℕ → List (Option ℕ) → Logged → List ℕ
column_text stages stripes x board c =
    if c.turn.advanced then stripe_cells stripes board c.turn stages x ++ column_words c stripes x else stall_text x stripes

-- cycles, of which the first has this number, before which these stages stand in the stripes
unfoldable pub columns_text : ℕ → ℕ → ℕ → List (Option ℕ) → List Logged → List ℕ
columns_text stages stripes number board [] = []
columns_text stages stripes number board (c ∷ cs) =
    column_text stages stripes (column_at number) (after_turn board c.turn.configured) c
    ++ columns_text stages stripes (number + 1) (after_turn board c.turn.configured) cs

-- ---- what stands around
unfoldable pub svg_text : ℕ → ℕ → List ℕ
svg_text width height =
    codes "<svg xmlns=\"http://www.w3.org/2000/svg\" width=\"" ++ decimal width ++ codes "\" height=\"" ++ decimal height ++ codes "\">\n<style>\n"

unfoldable pub style_text : List ℕ
style_text =
    codes "text { font-family: sans-serif; font-size: 12px; fill: #222 }\n"
    ++ codes ".n { text-anchor: middle } .b { text-anchor: middle; font-weight: bold; fill: #fff }\n"
    ++ codes ".s { font-size: 9px; fill: #222 }\n</style>\n"
    ++ codes "<rect width=\"100%\" height=\"100%\" fill=\"#fff\"/>\n"

-- how high the colours of so many stages are: 16 in a row
abbrev pub legend_height : ℕ → ℕ
legend_height stages = counted (max (counted (stages + 15) / 16) 1 * 24)

-- no cycle is left out
abbrev pub is_none_left : Left → Bool
is_none_left left = left.before == 0 && left.behind == 0

-- and the line that says which cycles are left out
abbrev pub left_height : Left → ℕ
left_height left = if is_none_left left then 0 else 18

unfoldable pub picture_head : ℕ → ℕ → ℕ → Left → List ℕ
picture_head cycles stripes stages left =
    svg_text (max (behind 100 30 cycles) 660) (lower (lower (lower (below stripes) (legend_height stages)) 106) (left_height left)) ++ style_text ++ words_text (codes "t") 8 32 (codes "cycle")

unfoldable pub stripe_name : ℕ → List ℕ
stripe_name stripe =
    words_text (codes "t") 8 (lower (below stripe) 17) (codes "stripe") ++ words_text (codes "t") 50 (lower (below stripe) 17) (decimal stripe)

unfoldable pub stripe_names : ℕ → List ℕ
stripe_names zero = []
stripe_names (suc stripe) = stripe_names stripe ++ stripe_name stripe

unfoldable pub row_names : ℕ → List ℕ
row_names stripes =
    stripe_names stripes
    ++ words_text (codes "t") 8 (lower (below stripes) 17) (codes "sample in")
    ++ words_text (codes "t") 8 (lower (below stripes) 37) (codes "result out")

unfoldable pub stage_key : ℕ → ℕ → ℕ → List ℕ
stage_key stages y stage =
    area_text (record { x = column_at (stage % 16); y = behind y 24 (stage / 16); width = 24; height = 18 }) ++ fill_text stage stages true
    ++ words_text (codes "n") (counted (column_at (stage % 16) + 12)) (lower (behind y 24 (stage / 16)) 13) (decimal stage)

-- the first so many stages
unfoldable pub stage_keys : ℕ → ℕ → ℕ → List ℕ
stage_keys zero stages y = []
stage_keys (suc stage) stages y = stage_keys stage stages y ++ stage_key stages y stage

unfoldable pub legend_words : ℕ → List ℕ
legend_words y =
    words_text (codes "t") 8 y (codes "dark: the stage comes into the stripe; pale: it computes; a black corner: the state of the stage")
    ++ words_text (codes "t") 8 (lower y 18) (codes "before is saved; grey: the cycle is stalled, and nothing moves")

-- which cycles are left out
unfoldable pub left_ends : Left → List ℕ
left_ends left =
    if left.before == 0 then codes "the last " ++ decimal left.behind
    else if left.behind == 0 then codes "the first " ++ decimal left.before
    else codes "the first " ++ decimal left.before ++ codes " and the last " ++ decimal left.behind

-- which cycles of so many are left out, where some are
unfoldable pub left_words : Left → ℕ → ℕ → List ℕ
left_words left cycles y =
    if is_none_left left then []
    else begin_text (codes "t") 8 y ++ codes "left out: " ++ left_ends left ++ codes " of " ++ decimal cycles ++ codes " cycles</text>\n"

-- of a log of so many cycles, of which so many are left out
unfoldable pub legend_text : ℕ → ℕ → Left → ℕ → List ℕ
legend_text stages cycles left y =
    words_text (codes "t") 8 (lower y 13) (codes "stage") ++ stage_keys stages stages y
    ++ legend_words (counted (legend_height stages + lower y 14))
    ++ left_words left cycles (lower (counted (legend_height stages + lower y 14)) 36)

-- which cycles of so many are left out where so many are drawn behind so many
abbrev pub left_of : ℕ → ℕ → ℕ → Left
left_of all before drawn = record { before = before; behind = all - before - drawn }

-- the picture of these cycles of a log of so many, before which so many stand, and after which these stages stand in the stripes
unfoldable pub picture_text : ℕ → ℕ → ℕ → ℕ → List (Option ℕ) → List Logged → List ℕ
picture_text stages stripes all before board drawn =
    picture_head (length drawn) stripes stages (left_of all before (length drawn)) ++ row_names stripes ++ columns_text stages stripes 0 board drawn
    ++ legend_text stages all (left_of all before (length drawn)) (lower (below stripes) 56) ++ codes "</svg>\n"

-- the picture of the first of these cycles of a log, of 400 at most
abbrev pub chart_text : Part → ℕ → ℕ → List Logged → List ℕ
chart_text part stages stripes cycles =
    picture_text stages stripes (length cycles) part.start (after_turns (replicate stripes None) (take part.start cycles)) (take 400 (part_in part cycles))
