-- Names that stand twice.
use Rattle.std.specs.Prelude.{ℕ, ◌≡◌, ◌<◌, List}
use Rattle.pr_lang.specs.declared.tokens.Kind.TheVariants.{Name}
use Rattle.pr_lang.specs.declared.tokens.Token.{Token}
use Rattle.pr_lens_source.specs.Tokens.{kind_of, bytes_of}

-- a token is a name, and has the bytes of another one
pub record SameName (text : List ℕ) (tokens : List Token) (one other : ℕ) : Type 0 where
  pub name : kind_of tokens one ≡ Name
  pub same : bytes_of text tokens one ≡ bytes_of text tokens other

-- the same name stands at an earlier token
pub record IsEarlierName (text : List ℕ) (tokens : List Token) (at earlier : ℕ) : Type 0 where
  pub before : earlier < at
  pub same : SameName text tokens earlier at
