-- Products in a text that can be made with fewer units.
use Rattle.std.specs.Prelude.{ℕ, ◌+◌, Bool, true, false, List, Option, None, Some, option_map}
use Rattle.std.specs.Option.{option_and_then, option_or}
use Rattle.pr_lang.specs.declared.tokens.Token.{Token}
use Rattle.pr_lens_source.specs.declared.sources.Span.{Span}
use Rattle.pr_lens_names.specs.Constants.{constant_at}
use Rattle.pr_lens_products.specs.declared.products.CheapProduct.{CheapProduct}
use Rattle.pr_lens_products.specs.declared.products.Part.{Part}
use Rattle.pr_lens_products.specs.declared.units.Cheaper.{Cheaper}
use Rattle.pr_lens_products.specs.declared.units.Product.{Product}
use Rattle.pr_lens_products.specs.Factors.{left_of, right_of, width_at}
use Rattle.pr_lens_products.specs.Units.{cheaper_of}

-- a stream of this width and a number as factors
abbrev pub product_of : Bool → Option ℕ → Option ℕ → Option Product
product_of reversed (Some width) (Some number) = Some (record { width = width; number = number; reversed = reversed })
product_of reversed width number = None

-- the tokens from one up to another, that one not included
abbrev pub part : ℕ → ℕ → Part
part first end = record { first = first; end = end }

-- the product of a sign, of which the factor before it is the number or is not
abbrev pub cheap_at : List Token → ℕ → Bool → Cheaper → CheapProduct
cheap_at tokens at reversed cheaper =
    record { before = part (left_of tokens at) at; behind = part (at + 1) (right_of tokens at + 1); reversed = reversed; cheaper = cheaper }

-- the stream stands before the sign of a product, and the constant behind it
abbrev pub stream_before : List ℕ → List Token → List Span → ℕ → Option CheapProduct
stream_before text tokens spans at =
    option_map (cheap_at tokens at false)
    (option_and_then cheaper_of (product_of false (width_at text tokens spans (left_of tokens at)) (constant_at text tokens spans (at + 1))))

-- the constant stands before the sign, and the stream behind it
abbrev pub stream_behind : List ℕ → List Token → List Span → ℕ → Option CheapProduct
stream_behind text tokens spans at =
    option_map (cheap_at tokens at true)
    (option_and_then cheaper_of (product_of true (width_at text tokens spans (at + 1)) (constant_at text tokens spans (left_of tokens at))))

-- the product of the sign at a token, where it can be made with fewer units
abbrev pub cheap_product : List ℕ → List Token → List Span → ℕ → Option CheapProduct
cheap_product text tokens spans at = option_or (stream_before text tokens spans at) (stream_behind text tokens spans at)
