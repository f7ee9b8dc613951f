-- Which names a result needs, directly or through others.
use Rattle.std.specs.Prelude.{ℕ, ◌≡◌, ◌-◌, ◌<◌, ◌≤◌, ◌==◌, ◌&&◌, Bool, true, false, not, List, length, count_by, slice_index_or, if◌then◌else◌}
use Rattle.pr_lang.specs.declared.tokens.Token.{Token}
use Rattle.pr_lens_source.specs.declared.sources.Span.{Span}
use Rattle.pr_lens_source.specs.Introduced.{is_same_name}
use Rattle.pr_lens_source.specs.Kinds.{assigns, is_fn, is_name, is_semi, yields}
use Rattle.pr_lens_source.specs.Spans.{item_of}
use Rattle.pr_lens_source.specs.Tokens.{kind_of, first_of}

-- a statement is named by one of its tokens: the word before a result, or a name that is assigned
abbrev pub is_result : List Token → ℕ → Bool
is_result tokens at = yields (kind_of tokens at)

abbrev pub is_assigned : List Token → ℕ → Bool
is_assigned tokens at = is_name (kind_of tokens at) && assigns (kind_of tokens (at - 1))

-- the function in which a token stands, by the function's first token; the number of tokens outside of all functions
abbrev pub scope_from : List Token → ℕ → ℕ
scope_from tokens first = if is_fn (kind_of tokens first) then first else length tokens

abbrev pub scope_of : List Token → List Span → ℕ → ℕ
scope_of tokens spans at = scope_from tokens (first_of tokens spans (item_of spans at))

-- a token is the name that is assigned at another one
unfoldable pub is_use : List ℕ → List Token → List Span → ℕ → ℕ → Bool
is_use text tokens spans assigned at =
    is_same_name text tokens at assigned && (scope_of tokens spans at == scope_of tokens spans assigned)

-- the name that is assigned at a token stands in the statement of another one: behind that one, and before the
-- semicolon
pub record Uses (text : List ℕ) (tokens : List Token) (spans : List Span) (statement assigned : ℕ) : Type 0 where
  pub at : ℕ
  pub behind : statement < at
  pub within : at < length tokens
  pub open_to : (k : ℕ) → statement < k → k ≤ at → is_semi (kind_of tokens k) ≡ false
  pub is : is_use text tokens spans assigned at ≡ true

-- a statement is needed that gives a result, or assigns a name that a needed statement uses
pub data IsNeeded (text : List ℕ) (tokens : List Token) (spans : List Span) : ℕ → Type 0 where
  Yields : (k : ℕ) → is_result tokens k ≡ true → IsNeeded text tokens spans k
  Serves : (j k : ℕ) → IsNeeded text tokens spans j → is_assigned tokens k ≡ true → Uses text tokens spans j k → IsNeeded text tokens spans k

-- ---- marks
abbrev pub is_marked : List Bool → ℕ → Bool
is_marked marks k = slice_index_or marks k false

abbrev pub unmarked : List Bool → ℕ
unmarked marks = count_by (λ mark. not mark) marks

-- what is marked is needed
abbrev pub AreSound : List ℕ → List Token → List Span → List Bool → Type 0
AreSound text tokens spans marks = (k : ℕ) → is_marked marks k ≡ true → IsNeeded text tokens spans k

-- a name that a marked statement uses is marked
abbrev pub IsSettled : List ℕ → List Token → List Span → List Bool → ℕ → Type 0
IsSettled text tokens spans marks k =
    (j : ℕ) → is_marked marks j ≡ true → is_assigned tokens k ≡ true → Uses text tokens spans j k → is_marked marks k ≡ true

-- the same from one token on
abbrev pub AreSettled : List ℕ → List Token → List Span → List Bool → ℕ → Type 0
AreSettled text tokens spans marks from = (k : ℕ) → from ≤ k → k < length tokens → IsSettled text tokens spans marks k

-- a marked statement uses the name that is assigned here
pub record IsUsed (text : List ℕ) (tokens : List Token) (spans : List Span) (marks : List Bool) (assigned : ℕ) : Type 0 where
  pub by : ℕ
  pub marked : is_marked marks by ≡ true
  pub uses : Uses text tokens spans by assigned

-- no marked statement from one token up to before another does
abbrev pub IsUnusedBetween : List ℕ → List Token → List Span → List Bool → ℕ → ℕ → ℕ → Type 0
IsUnusedBetween text tokens spans marks from to assigned =
    (k : ℕ) → from ≤ k → k < to → is_marked marks k ≡ true → Uses text tokens spans k assigned → ⊥

-- marks for all tokens, of which those of needed statements are set
pub record AreNeeded (text : List ℕ) (tokens : List Token) (spans : List Span) (marks : List Bool) : Type 0 where
  pub count : length marks ≡ length tokens
  pub sound : AreSound text tokens spans marks
  pub all : (k : ℕ) → k < length tokens → IsNeeded text tokens spans k → is_marked marks k ≡ true
