-- Operators between two texts.
use Rattle.std.specs.Prelude.{ℕ, Bool, List, ◌++◌, codes}
use Rattle.pr_lens_rtl_terms.specs.declared.terms.Sign.{Sign}
use Rattle.pr_lens_rtl_text.specs.Printed.{open_text, close_text}

abbrev pub sign_text : Sign → List ℕ
sign_text Sign.And = codes " & "
sign_text Sign.Or = codes " | "
sign_text Sign.Xor = codes " ^ "
sign_text Sign.Plus = codes " + "

abbrev pub between_text : Bool → (sign x y : List ℕ) → List ℕ
between_text whole sign x y = open_text whole ++ x ++ sign ++ y ++ close_text whole
