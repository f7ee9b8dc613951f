-- What is pointed out in a program, token by token.
use Rattle.std.specs.Prelude.{ℕ, ◌≡◌, ◌+◌, ◌-◌, ◌&&◌, Bool, not, List, Option, None, Some, length, option_map, filter_map, slice_index_or, if◌then◌else◌}
use Rattle.std.specs.List.{range_with_len}
use Rattle.std.specs.Option.{option_or}
use Rattle.pr_lang.specs.declared.tokens.Token.{Token}
use Rattle.pr_lens_source.specs.declared.sources.Span.{Span}
use Rattle.pr_lens_products.specs.Factors.{is_product}
use Rattle.pr_lens_products.specs.Products.{cheap_product}
use Rattle.pr_lens_extents.specs.declared.verdicts.Verdict.{Verdict}
use Rattle.pr_lens_extents.specs.declared.verdicts.Verdict.TheVariants.{Unseen}
use Rattle.pr_lens_waste.specs.declared.lines.Tail.{Tail}
use Rattle.pr_lens_waste.specs.Lines.{Tails}
use Rattle.pr_lens_names.specs.Constants.{constant_at}
use Rattle.pr_lens_warn.specs.declared.remarks.Remark.{Remark}
use Rattle.pr_lens_warn.specs.declared.remarks.Remark.TheVariants.{Product, Unneeded}
use Rattle.pr_lens_warn.specs.declared.remarks.Warning.{Warning}
use Rattle.pr_lens_warn.specs.Constants.{is_difference, is_signed_token, negative_of, wrapping_of}
use Rattle.pr_lens_warn.specs.Comparisons.{by_tokens, settled}
use Rattle.pr_lens_warn.specs.Lines.{long, token_tails}
use Rattle.pr_lens_warn.specs.Shifts.{amount_remark, is_amount}
use Rattle.pr_lens_warn.specs.Needs.{AreNeeded, is_assigned, is_marked}

-- a remark on the tokens from one up to another, this one included
abbrev pub warning : ℕ → ℕ → Remark → Warning
warning first last remark = record { remark = remark; first = first; last = last }

-- on `signed` of a token that is one number, or the name of a constant that is
abbrev pub signed_warning : List ℕ → List Token → List Span → ℕ → Option Warning
signed_warning text tokens spans at = option_map (warning at (at + 3)) (negative_of (constant_at text tokens spans (at + 2)))

-- on a difference, by its minus
abbrev pub difference_warning : List ℕ → List Token → List Span → ℕ → Option Warning
difference_warning text tokens spans at =
    option_map (warning (at - 1) (at + 1)) (wrapping_of (constant_at text tokens spans (at - 1)) (constant_at text tokens spans (at + 1)))

-- on a name that is assigned
abbrev pub name_warning : List Token → List Bool → ℕ → Option Warning
name_warning tokens needed at = if is_assigned tokens at && not (is_marked needed at) then Some (warning at at Unneeded) else None

-- on a name whose last instances no output needs
abbrev pub line_warning : List (Option Tail) → ℕ → Option Warning
line_warning tails at = option_map (λ tail. warning at at (long tail)) (slice_index_or tails at None)

abbrev pub else_line : Option Warning → List (Option Tail) → ℕ → Option Warning
else_line (Some w) tails at = Some w
else_line None tails at = line_warning tails at

abbrev pub assigned_warning : List Token → List Bool → List (Option Tail) → ℕ → Option Warning
assigned_warning tokens needed tails at = else_line (name_warning tokens needed at) tails at

-- on a token with a verdict: the sign of a comparison, a declared width, or the name of a function that is called
abbrev pub verdict_warning : List ℕ → List Token → List Span → List Verdict → ℕ → Option Warning
verdict_warning text tokens spans verdicts at =
    option_map (warning at at) (settled text tokens spans at (slice_index_or verdicts at Unseen))

-- on `signed` of a token: as one number, or else by the verdict on the call
abbrev pub sign_warning : List ℕ → List Token → List Span → List Verdict → ℕ → Option Warning
sign_warning text tokens spans verdicts at =
    option_or (signed_warning text tokens spans at) (verdict_warning text tokens spans verdicts at)

-- on a name that a shift has for its amount
abbrev pub amount_warning : List ℕ → List Token → List Span → ℕ → Option Warning
amount_warning text tokens spans at = option_map (warning at at) (amount_remark text tokens spans at)

-- on the sign of a product
abbrev pub product_warning : List ℕ → List Token → List Span → ℕ → Option Warning
product_warning text tokens spans at = option_map (λ cheap. warning at at (Product cheap)) (cheap_product text tokens spans at)

abbrev pub last_warning : List ℕ → List Token → List Span → List Bool → List Verdict → List (Option Tail) → ℕ → Option Warning
last_warning text tokens spans needed verdicts tails at =
    if is_assigned tokens at then assigned_warning tokens needed tails at else verdict_warning text tokens spans verdicts at

-- where these are the marks of needed statements, and the verdicts and the ends of delay lines by tokens
unfoldable pub warning_at : List ℕ → List Token → List Span → List Bool → List Verdict → List (Option Tail) → ℕ → Option Warning
warning_at text tokens spans needed verdicts tails at =
    if is_signed_token text tokens at then sign_warning text tokens spans verdicts at
    else if is_difference tokens at then difference_warning text tokens spans at
    else if is_amount tokens at then amount_warning text tokens spans at
    else if is_product tokens spans at then product_warning text tokens spans at
    else last_warning text tokens spans needed verdicts tails at

-- in the order of the text
pub record AreWarnings (text : List ℕ) (tokens : List Token) (spans : List Span) (verdicts : List Verdict) (tails : Tails) (warnings : List Warning) : Type 0 where
  pub needed : List Bool
  pub are_needed : AreNeeded text tokens spans needed
  pub is : warnings ≡ filter_map (warning_at text tokens spans needed (by_tokens tokens verdicts) (token_tails text tokens spans tails)) (range_with_len 0 (length tokens))
