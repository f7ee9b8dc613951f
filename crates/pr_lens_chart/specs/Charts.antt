-- Rectangles and words of a picture.
use Rattle.std.specs.Prelude.{ℕ, List, ◌++◌, codes, decimal}
use Rattle.pr_lens_chart.specs.declared.pieces.Area.{Area}

unfoldable pub attribute_text : List ℕ → ℕ → List ℕ
attribute_text name number = codes " " ++ name ++ codes "=\"" ++ decimal number ++ codes "\""

-- a rectangle, up to where its colour stands
unfoldable pub area_text : Area → List ℕ
area_text area =
    codes "<rect" ++ attribute_text (codes "x") area.x ++ attribute_text (codes "y") area.y
    ++ attribute_text (codes "width") area.width ++ attribute_text (codes "height") area.height

-- the beginning of a text of a class at a place
unfoldable pub begin_text : List ℕ → ℕ → ℕ → List ℕ
begin_text class x y =
    codes "<text class=\"" ++ class ++ codes "\""
    ++ attribute_text (codes "x") x ++ attribute_text (codes "y") y ++ codes ">"

-- a text of a class at a place
unfoldable pub words_text : List ℕ → ℕ → ℕ → List ℕ → List ℕ
words_text class x y words = begin_text class x y ++ words ++ codes "</text>\n"
