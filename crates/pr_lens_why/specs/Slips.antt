-- What other languages write and this one does not, by a wrong token and the tokens beside it.
use Rattle.std.specs.Prelude.{ℕ, ◌+◌, ◌-◌, ◌&&◌, ◌||◌, Bool, not, List, [], Option, None, Some, codes, length, nat_eq, nat_lt, if◌then◌else◌}
use Rattle.std.specs.Cmp.Lexicographic.{pointwise}
use Rattle.pr_lang.specs.declared.tokens.Token.{Token}
use Rattle.pr_lens_source.specs.Tokens.{bytes_of}
use Rattle.pr_lens_why.specs.declared.slips.Slip.{Slip}
use Rattle.pr_lens_why.specs.declared.slips.Slip.TheVariants as slip

-- ---- the words beside a token
unfoldable pub word_before : List ℕ → List Token → ℕ → List ℕ
word_before text tokens token = if nat_lt 0 token then bytes_of text tokens (token - 1) else []

unfoldable pub word_behind : List ℕ → List Token → ℕ → List ℕ
word_behind text tokens token = if nat_lt token (length tokens) then bytes_of text tokens (token + 1) else []

unfoldable pub second_behind : List ℕ → List Token → ℕ → List ℕ
second_behind text tokens token = if nat_lt token (length tokens) then word_behind text tokens (token + 1) else []

-- ---- habits
-- written so
unfoldable pub is_spelled : List ℕ → List ℕ → Bool
is_spelled word spelling = pointwise nat_eq word spelling

-- the operators that other languages join to `=`
unfoldable pub is_update_sign : List ℕ → Bool
is_update_sign word =
    is_spelled word (codes "+") || (is_spelled word (codes "-") || (is_spelled word (codes "*")
    || (is_spelled word (codes "&") || (is_spelled word (codes "|") || is_spelled word (codes "^")))))

-- such an operator and `=`
unfoldable pub is_update : List ℕ → List ℕ → Bool
is_update first second = is_update_sign first && is_spelled second (codes "=")

-- two symbols that are one symbol elsewhere
unfoldable pub pair_slip : List ℕ → List ℕ → Option Slip
pair_slip first second =
    if is_spelled first (codes "&") && is_spelled second (codes "&") then Some slip.And
    else if is_spelled first (codes "|") && is_spelled second (codes "|") then Some slip.Or
    else if is_spelled first (codes ">>") && is_spelled second (codes ">") then Some slip.SignedShift
    else if is_spelled first (codes ":") && is_spelled second (codes "=") then Some slip.Colon
    else None

-- `signed` that reads no stream
unfoldable pub is_sign : List ℕ → List ℕ → Bool
is_sign word behind = is_spelled word (codes "signed") && not (is_spelled behind (codes "("))

-- a word, before and behind the wrong one
unfoldable pub word_slip : List ℕ → List ℕ → List ℕ → Option Slip
word_slip before wrong behind =
    if is_spelled before (codes "if") || is_spelled wrong (codes "if") then Some slip.If
    else if is_spelled wrong (codes "else") || is_spelled behind (codes "else") then Some slip.If
    else if is_sign before wrong || is_sign wrong behind then Some slip.Sign
    else None

-- a minus sign, where an expression or a constant could stand
unfoldable pub minus_slip : Bool → Bool → Option Slip
minus_slip expression constant =
    if expression then Some slip.Minus else if constant then Some slip.Negative else None

-- a colon, where `..` could stand, or the end of an index
unfoldable pub colon_slip : Bool → Bool → Option Slip
colon_slip dots close = if dots then Some slip.Range else if close then Some slip.Bits else None

-- ---- what this language has instead
abbrev pub advice_of : Slip → List ℕ
advice_of slip.And = codes "`&` joins two conditions: `(a > 1) & (b > 1)`.\n"
advice_of slip.Or = codes "`|` joins two conditions: `(a > 1) | (b > 1)`.\n"
advice_of slip.Not = codes "`x == 0` asks whether a number is 0, and `~x` flips each of its bits.\n"
advice_of slip.SignedShift = codes "`>>` keeps the sign of a signed stream: `signed(x) >> 2`.\n"
advice_of slip.Colon = codes "A width follows on `:`, and the stream on `=`: `let y:9 = x + 1;`.\n"
advice_of slip.Update = codes "A name is assigned once. A running sum reads its own last number: `rec s:16 = 0 by s@1 + x;`.\n"
advice_of slip.If = codes "There is no `if`: `c ? a : b` is `a` where `c` is 1, and `b` where it is 0.\n"
advice_of slip.Sign = codes "No declaration has a sign. Write `signed(x)` where the stream is read.\n"
advice_of slip.Range = codes "Two dots stand between two bounds: `x{7..0}`, or `for i in 0..8`.\n"
advice_of slip.Bits = codes "A slice is `x{7..0}`, and a width follows on the name: `let y:8 = x;`.\n"
advice_of slip.Minus = codes "No operand has a sign: `0 - x` is minus `x`, and `signed(x) + 5 < 0` asks whether `x` is below -5.\n"
advice_of slip.Negative = codes "Constants are never below 0. A coefficient -7 of 8 bits is written `256 - 7`.\n"
advice_of slip.Based = codes "A number is decimal, or hexadecimal as `0xff`. Its width stands with a name: `let y:8 = 0xff;`.\n"
