-- Names that are one number.
use Rattle.std.specs.Prelude.{ℕ, ◌+◌, ◌-◌, ◌^◌, ◌%◌, nat_lt, Bool, List, Option, None, Some, if◌then◌else◌}
use Rattle.pr_lang.specs.declared.tokens.Kind.{Kind}
use Rattle.pr_lang.specs.declared.tokens.Kind.TheVariants.{Name, Number}
use Rattle.pr_lang.specs.declared.tokens.Token.{Token}
use Rattle.pr_lens_source.specs.declared.sources.Span.{Span}
use Rattle.pr_lens_source.specs.Introduced.{introduced_before}
use Rattle.pr_lens_source.specs.Kinds.{is_colon, is_const, is_let, is_semi}
use Rattle.pr_lens_source.specs.Tokens.{kind_of}
use Rattle.pr_lens_names.specs.declared.constants.Named.{Named}

-- a number that a semicolon follows
abbrev pub sole_number : Kind → Kind → Option ℕ
sole_number (Number number) behind = if is_semi behind then Some number else None
sole_number _ behind = None

-- what a declared width keeps of a number, which has 64 bits
abbrev pub low_bits : ℕ → ℕ → ℕ
low_bits width number = if nat_lt width 64 then number % 2 ^ width else number

abbrev pub kept_number : Kind → Option ℕ → Option ℕ
kept_number (Number width) (Some number) = Some (low_bits width number)
kept_number width number = None

-- what is behind a name is one number: `= 3;`, or with a declared width `:2 = 3;`
abbrev pub number_behind : List Token → ℕ → Option ℕ
number_behind tokens name =
    if is_colon (kind_of tokens (name + 1))
    then kept_number (kind_of tokens (name + 2)) (sole_number (kind_of tokens (name + 4)) (kind_of tokens (name + 5)))
    else sole_number (kind_of tokens (name + 2)) (kind_of tokens (name + 3))

-- a constant or a stream is introduced behind this token
abbrev pub is_word_of : Named → Kind → Bool
is_word_of Named.Constant = is_const
is_word_of Named.Stream = is_let

-- the number that a name is, where it is introduced as one number: `const k = 3;`, `let k = 3;` or `let k:2 = 3;`
unfoldable pub number_named : Named → List Token → ℕ → Option ℕ
number_named named tokens name =
    if is_word_of named (kind_of tokens (name - 1)) then number_behind tokens name else None

abbrev pub number_by : Named → List Token → Option ℕ → Option ℕ
number_by named tokens None = None
number_by named tokens (Some name) = number_named named tokens name

abbrev pub constant_of : List ℕ → List Token → List Span → ℕ → Kind → Option ℕ
constant_of text tokens spans at (Number number) = Some number
constant_of text tokens spans at Name = number_by Named.Constant tokens (introduced_before text tokens spans at)
constant_of text tokens spans at _ = None

-- the number that a token is, or the constant of its name
unfoldable pub constant_at : List ℕ → List Token → List Span → ℕ → Option ℕ
constant_at text tokens spans at = constant_of text tokens spans at (kind_of tokens at)
