-- What is told of a remark.
use Rattle.std.specs.Prelude.{ℕ, ◌+◌, ◌-◌, ◌==◌, Bool, true, false, nat_eq, List, Option, None, Some, ◌++◌, codes, decimal, if◌then◌else◌}
use Rattle.pr_lang.specs.declared.tokens.Token.{Token}
use Rattle.pr_flat.specs.declared.forms.Form.{Form}
use Rattle.pr_lens_products.specs.Texts.{cheap_text}
use Rattle.pr_lens_reach.specs.declared.extents.Extent.{Extent}
use Rattle.pr_lens_reach.specs.declared.reaches.Bound.{Bound}
use Rattle.pr_lens_reach.specs.declared.reaches.Reach.{Reach}
use Rattle.pr_lens_reach.specs.Reaches.{whole}
use Rattle.pr_lens_source.specs.Tokens.{start_of}
use Rattle.pr_lens_names.specs.Pieces.{line_of, token_text}
use Rattle.pr_lens_warn.specs.declared.remarks.Remark.{Remark}
use Rattle.pr_lens_warn.specs.declared.remarks.Remark.TheVariants.{Negative, Wrapping, Unneeded, Long, Amount, Product, Settled, Narrow, Argument}
use Rattle.pr_lens_warn.specs.declared.remarks.Warning.{Warning}

-- a short word for the kind of a remark, which never changes
abbrev pub code_of : Remark → List ℕ
code_of (Negative value width below) = codes "signed-constant"
code_of (Wrapping by width left) = codes "wrapping-difference"
code_of Unneeded = codes "unneeded"
code_of (Long first last) = codes "long-delay"
code_of (Amount number) = codes "constant-shift"
code_of (Product cheap) = codes "cheap-product"
code_of (Settled answer left right) = codes "constant-comparison"
code_of (Narrow form reach) = codes "cut-bits"
code_of (Argument argument number width below function) = codes "signed-constant"

abbrev pub heading_of : Remark → List ℕ
heading_of (Negative value width below) = codes "warning: signed-constant\n"
heading_of (Wrapping by width left) = codes "warning: wrapping-difference\n"
heading_of Unneeded = codes "warning: unneeded\n"
heading_of (Long first last) = codes "warning: long-delay\n"
heading_of (Amount number) = codes "warning: constant-shift\n"
heading_of (Product cheap) = codes "warning: cheap-product\n"
heading_of (Settled answer left right) = codes "warning: constant-comparison\n"
heading_of (Narrow form reach) = codes "warning: cut-bits\n"
heading_of (Argument argument number width below function) = codes "warning: signed-constant\n"

-- ---- what is wrong, and what to do
unfoldable pub sign_text : ℕ → ℕ → ℕ → List ℕ
sign_text value width below =
    codes "This is -" ++ decimal below ++ codes ": `signed` takes the highest bit of a number as its sign, and " ++ decimal value
    ++ codes " has the width " ++ decimal width

unfoldable pub unsigned_text : ℕ → List ℕ
unsigned_text value =
    codes ".\nWrite " ++ decimal value
    ++ codes " without `signed` for the number itself, which operators take as it is. A negative one has a declared width: with `let k:8 = 252;` `signed(k)` is -4.\n"

unfoldable pub wrap_text : ℕ → ℕ → ℕ → List ℕ
wrap_text by width left =
    codes "This is " ++ decimal left ++ codes ", and not -" ++ decimal by
    ++ codes ": a difference of unsigned numbers wraps around, here at the width " ++ decimal width

unfoldable pub minus_text : ℕ → List ℕ
minus_text by = codes ".\nWrite `signed(0) - " ++ decimal by ++ codes "` for the negative number.\n"

unfoldable pub unneeded_text : List ℕ → List Token → ℕ → List ℕ
unneeded_text text tokens token =
    codes "No result needs " ++ token_text text tokens token
    ++ codes ": neither an output nor what a function returns is made of it.\nTake it out, or see whether it should stand in the place of another name.\n"

abbrev pub indices_text : ℕ → ℕ → List ℕ
indices_text first last =
    if first == last then codes " with the index " ++ decimal first
    else codes " with the indices " ++ decimal first ++ codes " to " ++ decimal last ++ codes " in the order of assignment"

unfoldable pub long_text : List ℕ → List Token → ℕ → ℕ → ℕ → List ℕ
long_text text tokens token first last =
    codes "No output needs " ++ token_text text tokens token ++ indices_text first last
    ++ codes ": the delay line is longer than what the outputs need.\nLet it end before, with what reads its end, or see whether an output should read on.\n"

unfoldable pub amount_text : List ℕ → List Token → ℕ → ℕ → List ℕ
amount_text text tokens token number =
    codes "A shift by a stream takes more units than one by a constant, and " ++ token_text text tokens token ++ codes " is always " ++ decimal number
    ++ codes ".\nIntroduce it by `const`, with this number and without a width, or shift by the number.\n"

abbrev pub kind_text : Bool → List ℕ
kind_text true = codes "a signed stream of width "
kind_text false = codes "an unsigned stream of width "

-- one side of a comparison
abbrev pub side_by : Option ℕ → Form → List ℕ
side_by (Some n) form = codes "the number " ++ decimal n
side_by None form = kind_text form.signed ++ decimal form.width

abbrev pub side_text : Extent → List ℕ
side_text side = side_by side.number side.form

abbrev pub answer_text : Bool → List ℕ
answer_text true = codes "This is always 1: on the left is "
answer_text false = codes "This is always 0: on the left is "

unfoldable pub sides_text : Bool → Extent → Extent → List ℕ
sides_text answer left right = answer_text answer ++ side_text left ++ codes ", and on the right " ++ side_text right

unfoldable pub settled_text : Bool → Extent → Extent → List ℕ
settled_text answer left right =
    sides_text answer left right
    ++ codes ".\nCompare with a number in reach, or take the comparison out. `signed(s)` reads the highest bit of `s` as its sign.\n"

-- a value, which may be below 0
abbrev pub bound_text : Bound → List ℕ
bound_text b = if nat_eq b.below 0 then decimal b.above else codes "-" ++ decimal b.below

abbrev pub span_text : Reach → List ℕ
span_text r = codes "from " ++ bound_text r.least ++ codes " to " ++ bound_text r.greatest

abbrev pub reach_text : Option Reach → List ℕ
reach_text None = codes "beyond 128 bits"
reach_text (Some r) = span_text r

unfoldable pub values_text : Option Reach → List ℕ
values_text reach = codes "By what is known of the operands, the values here go " ++ reach_text reach ++ codes ", and the width "

unfoldable pub width_text : Form → List ℕ
width_text form = decimal form.width ++ codes " holds those " ++ reach_text (whole form)

-- a slice is unsigned, so a stream that is signed is read by `signed` again
unfoldable pub slice_text : ℕ → List ℕ
slice_text w =
    codes ": the bits above are cut off.\nDeclare a greater width, of at most 128. Where these bits are not wanted, a slice says so: `(..){" ++ decimal (w - 1)
    ++ codes "..0}`, and `signed` of it where the stream is signed.\n"

unfoldable pub narrow_text : Form → Option Reach → List ℕ
narrow_text form reach = values_text reach ++ width_text form ++ slice_text form.width

unfoldable pub argument_text : ℕ → ℕ → ℕ → List ℕ
argument_text argument number width =
    codes "Argument " ++ decimal (argument + 1) ++ codes " is " ++ decimal number ++ codes ", which has the width " ++ decimal width

-- the line of a token
unfoldable pub line_text : List ℕ → List Token → ℕ → List ℕ
line_text text tokens token = codes " of line " ++ decimal (line_of text (start_of text tokens token))

unfoldable pub function_text : List ℕ → List Token → ℕ → ℕ → List ℕ
function_text text tokens token function =
    codes ". " ++ token_text text tokens token ++ line_text text tokens function ++ codes " reads it by `signed`, "

unfoldable pub parameter_text : ℕ → List ℕ
parameter_text below =
    codes "so it is -" ++ decimal below
    ++ codes " there.\nDeclare a width for the parameter, as in `k:8`: the highest bit of this width is the sign.\n"

abbrev pub remark_text : List ℕ → List Token → ℕ → Remark → List ℕ
remark_text text tokens token (Negative value width below) = sign_text value width below ++ unsigned_text value
remark_text text tokens token (Wrapping by width left) = wrap_text by width left ++ minus_text by
remark_text text tokens token Unneeded = unneeded_text text tokens token
remark_text text tokens token (Long first last) = long_text text tokens token first last
remark_text text tokens token (Amount number) = amount_text text tokens token number
remark_text text tokens token (Product cheap) = cheap_text text tokens cheap
remark_text text tokens token (Settled answer left right) = settled_text answer left right
remark_text text tokens token (Narrow form reach) = narrow_text form reach
remark_text text tokens token (Argument argument number width below function) =
    argument_text argument number width ++ function_text text tokens token function ++ parameter_text below

abbrev pub message_of : List ℕ → List Token → Warning → List ℕ
message_of text tokens w = remark_text text tokens w.first w.remark
