-- What the parser of the command line answers, as what the words ask for.
use Rattle.std.proofs.Common.{◌≡◌, ◌∙◌, true, List, [], ◌∷◌, map, None, refl, sym, ap, subst, inl, inr, String, Global, string_bytes}
use Rattle.clap.specs.Walk.{rows_of}
use Rattle.clap.specs.Simple.{App, HasMatchesOf, is_simple, matches_of}
use Rattle.clap.specs.Kinds.{HasKind, IsAmong, Kinds}
use Rattle.clap.specs.Faults.{fault_of, is_simple_and_free}
use Rattle.clap.specs.Values.{kind_of}
use Rattle.clap.specs.Matches.{found_of}
use Rattle.clap.specs.declared.error.Error.{Error}
use Rattle.clap.specs.declared.error.kind.ErrorKind.{ErrorKind}
use Rattle.clap.specs.declared.error.kind.ErrorKind.TheVariants as kind
use Rattle.clap.specs.declared.parser.matches.ArgMatches.{ArgMatches}
use Rattle.clap.specs.declared.parser.matches.Found.{Found}
use Rattle.clap.proofs.WalkLemmas.{first_value-rows}
use Rattle.pr_lens_tool.specs.Orders.{AskForHelp, MayAskForHelp, app, asked_by, asked_from, asked_of, asked_rows, asked_without, asked_words, faults_in}

simple_app : is_simple app ≡ true
unfolding app
simple_app = refl

free_app : is_simple_and_free app ≡ true
unfolding app
free_app = refl

-- the parser refuses the words for another cause than memory
pub asked-refused : (a : App) (words : List (String Global)) (e : Error) → a ≡ app → (is_simple_and_free a ≡ true → HasKind (fault_of a (map string_bytes words)) e)
    → (kind_of e ≡ kind.OutOfMemory → ⊥) → asked_by words ≡ None
unfolding asked_words
asked-refused a words e is kinds other =
    let texts = map string_bytes words in
    let has : HasKind (fault_of app texts) e = subst (λ (x : App). HasKind (fault_of x texts) e) is (kinds (ap is_simple_and_free is ∙ free_app)) in
    go (fault_of app texts) has
  where
    go : (ks : Kinds) → HasKind ks e → asked_without ks (asked_rows (matches_of app (map string_bytes words))) ≡ None
    go [] has = elim has [
      | inl memory ↦ absurd (other memory)
      | inr among ↦ absurd among
    ]
    go (k ∷ ks) has = refl

-- then its error is one of those of the words
pub fault-among : (a : App) (words : List (String Global)) (e : Error) → a ≡ app → (is_simple_and_free a ≡ true → HasKind (fault_of a (map string_bytes words)) e)
    → (kind_of e ≡ kind.OutOfMemory → ⊥) → IsAmong (kind_of e) (faults_in words)
unfolding faults_in
fault-among a words e is kinds other =
    let has : HasKind (faults_in words) e = subst (λ (x : App). HasKind (fault_of x (map string_bytes words)) e) is (kinds (ap is_simple_and_free is ∙ free_app)) in
    elim has [
      | inl memory ↦ absurd (other memory)
      | inr among ↦ among
    ]

pub asks-for-help : (words : List (String Global)) (k : ErrorKind) → IsAmong k (faults_in words) → k ≡ kind.DisplayHelp → MayAskForHelp words
asks-for-help words k among is = subst (λ (x : ErrorKind). IsAmong x (faults_in words)) is among

pub asks-for-more : (words : List (String Global)) (k : ErrorKind) → IsAmong k (faults_in words) → (k ≡ kind.DisplayHelp → ⊥) → AskForHelp words → ⊥
asks-for-more words k among other is = elim (subst (λ (ks : Kinds). IsAmong k ks) is among) [
  | inl same ↦ other same
  | inr none ↦ none
]

-- the parser takes the words, so nothing is wrong with them
pub faults-none : (a : App) (words : List (String Global)) → a ≡ app → (is_simple_and_free a ≡ true → fault_of a (map string_bytes words) ≡ []) → AskForHelp words → ⊥
unfolding faults_in
faults-none a words is free asks =
    let none : faults_in words ≡ [] = ap (λ (x : App). fault_of x (map string_bytes words)) (sym is) ∙ free (ap is_simple_and_free is ∙ free_app) in
    let clash : kind.DisplayHelp ∷ [] ≡ [] = sym asks ∙ none in
    cc

-- the parser takes the words
pub asked-taken : (a : App) (words : List (String Global)) (m : ArgMatches) → a ≡ app → (is_simple_and_free a ≡ true → fault_of a (map string_bytes words) ≡ [])
    → HasMatchesOf a (map string_bytes words) m → asked_by words ≡ asked_of (found_of m)
unfolding asked_words
asked-taken a words m is free matches =
    let texts = map string_bytes words in
    let none : fault_of app texts ≡ [] = ap (λ (x : App). fault_of x texts) (sym is) ∙ free (ap is_simple_and_free is ∙ free_app) in
    let same : rows_of (found_of m) ≡ matches_of app texts = (matches (ap is_simple is ∙ simple_app)).0 ∙ ap (λ (x : App). matches_of x texts) is in
    let f : Found = found_of m in
    ap (λ (ks : Kinds). asked_without ks (asked_rows (matches_of app texts))) none
    ∙ ap asked_rows (sym same)
    ∙ sym (λ i. asked_from (λ name. first_value-rows f name i))
