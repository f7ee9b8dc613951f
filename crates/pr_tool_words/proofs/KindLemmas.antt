-- What the parser's tests on a word say of its kind.
use Rattle.std.proofs.Common.{◌≡◌, ◌==◌, ℕ, Bool, true, false, List, [], ◌∷◌, Option, Some, None, refl, arith, eqb-true}
use Rattle.std.specs.Prelude.{bytes_eq}
use Rattle.std.specs.Str.{chars, IsUtf8}
use Rattle.std.proofs.lemmas.Bool.{and_right}
use Rattle.std.proofs.lemmas.Str.{chars-encodes, IsUtf8-drop, IsCharBoundary-after_ascii}
use Rattle.clap.specs.Lexer.{long_of, short_of}
use Rattle.pr_tool_words.specs.Lawful.{Text, Kind, Plain, Rest, Long, Other, kind_of, kind_after_hyphen}

-- `--`
abbrev pub dashes : Text
dashes = 45 ∷ 45 ∷ []

pub record IsPlainWord (word : Text) : Type 0 where
  pub dash : bytes_eq word dashes ≡ false
  pub long : long_of word ≡ None
  pub short : short_of word ≡ None

pub record IsLongWord (name : Text) (value : Option Text) (word : Text) : Type 0 where
  pub dash : bytes_eq word dashes ≡ false
  pub long : long_of word ≡ Some (name, value)

pub record IsOtherWord (word : Text) : Type 0 where
  pub b : ℕ
  pub more : Text
  pub dash : bytes_eq word dashes ≡ false
  pub long : long_of word ≡ None
  pub short : short_of word ≡ Some (b ∷ more)
  pub is : word ≡ 45 ∷ b ∷ more

abbrev pub IsOfKind : Kind → Text → Type 0
IsOfKind Plain word = IsPlainWord word
IsOfKind Rest word = bytes_eq word dashes ≡ true
IsOfKind (Long name value) word = IsLongWord name value word
IsOfKind Other word = IsOtherWord word

after_hyphen : (b : ℕ) (more : Text) → IsOfKind (kind_after_hyphen b more) (45 ∷ b ∷ more)
after_hyphen b [] = go (b == 45) refl
  where
    go : (t : Bool) → (b == 45) ≡ t → IsOfKind (kind_after_hyphen b []) (45 ∷ b ∷ [])
    go true e = rw e (rw e refl)
    go false e = rw e (record { b = b; more = []; dash = rw e refl; long = rw e refl; short = rw e refl; is = refl })
after_hyphen b (x ∷ more) = go (b == 45) refl
  where
    go : (t : Bool) → (b == 45) ≡ t → IsOfKind (kind_after_hyphen b (x ∷ more)) (45 ∷ b ∷ x ∷ more)
    go true e = rw e (record { dash = and_right _ _ refl; long = rw e refl })
    go false e = rw e (record { b = b; more = x ∷ more; dash = rw e refl; long = rw e refl; short = rw e refl; is = refl })

pub is_of_kind : (word : Text) → IsOfKind (kind_of word) word
is_of_kind [] = record { dash = refl; long = refl; short = refl }
is_of_kind (a ∷ []) = go (a == 45) refl
  where
    go : (t : Bool) → (a == 45) ≡ t → IsPlainWord (a ∷ [])
    go true e = record { dash = rw e refl; long = rw e refl; short = rw e refl }
    go false e = record { dash = rw e refl; long = rw e refl; short = rw e refl }
is_of_kind (a ∷ b ∷ more) = go (a == 45) refl
  where
    go : (t : Bool) → (a == 45) ≡ t → IsOfKind (kind_of (a ∷ b ∷ more)) (a ∷ b ∷ more)
    go true e = rw (eqb-true a 45 e) (after_hyphen b more)
    go false e = rw e (record { dash = rw e refl; long = rw e refl; short = rw e refl })

-- what follows the hyphen has a first character
pub first_flag : (b : ℕ) (more : Text) → IsUtf8 (45 ∷ b ∷ more) → (x : ℕ) × (xs : List ℕ) × (chars (b ∷ more) ≡ x ∷ xs)
first_flag b more utf8 =
    let rest : IsUtf8 (b ∷ more) = IsUtf8-drop (45 ∷ b ∷ more) 1 utf8 (IsCharBoundary-after_ascii (45 ∷ b ∷ more) 0 utf8 (omega arith) (omega arith)) in
    go rest.0 rest.1.0 rest.1.1
  where
    go : (cs : List ℕ) → Rattle.std.specs.Str.all_scalars cs ≡ true → Rattle.std.specs.Str.encode_utf8_all cs ≡ b ∷ more → (x : ℕ) × (xs : List ℕ) × (chars (b ∷ more) ≡ x ∷ xs)
    go [] scalars e = cc
    go (x ∷ xs) scalars e = (x, xs, rw (← e) (chars-encodes (x ∷ xs) scalars))
