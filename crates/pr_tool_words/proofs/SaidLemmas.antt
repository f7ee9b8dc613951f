-- A whole parse, against what the words say.
use Rattle.std.proofs.Common.{◌≡◌, ◌∙◌, Bool, true, false, List, [], ◌∷◌, codes, drop, map, Option, Some, None, option_map, is_some, refl, sym, ap, subst, inl, inr, String, Global, string_bytes}
use Rattle.std.specs.Prelude.{bytes_eq, find, fold, option_and_then, slice_get, unwrap_or}
use Rattle.std.proofs.lemmas.Str.{IsUtf8-string_bytes}
use Rattle.clap.specs.Walk.{Row, Rule, Text, Walk, idle, first_of, nothing_held, rows_after, rows_of, walk, with_default}
use Rattle.clap.specs.Simple.{App, HasMatchesOf, Shape, argument_words, entered, is_simple, matches_of, names_of}
use Rattle.clap.specs.Kinds.{HasKind, Kinds}
use Rattle.clap.specs.Faults.{built_fault, entered_fault, fault_of, is_simple_and_free, level_fault}
use Rattle.clap.specs.Values.{kind_of}
use Rattle.clap.specs.Matches.{found_of}
use Rattle.clap.specs.declared.error.Error.{Error}
use Rattle.clap.specs.declared.error.kind.ErrorKind.TheVariants as kind
use Rattle.clap.specs.declared.parser.matches.ArgMatches.{ArgMatches}
use Rattle.clap.specs.declared.parser.matches.Found.{Found}
use Rattle.clap.proofs.WalkLemmas.{first_value-rows}
use Rattle.pr_tool_words.specs.Shape.{app}
use Rattle.pr_tool_words.specs.Lawful.{Given, Said, is_true, gathered, given_by, has_name, places, said_by, said_of, said_with, value_of}
use Rattle.pr_tool_words.specs.Orders.{found_from, found_in}
use Rattle.pr_tool_words.proofs.RowLemmas.{row, rows, none_from, is_some-find, or_usual, seen_after, seen-defaults, seen-rows}
use Rattle.pr_tool_words.proofs.TurnLemmas.{Fails, ours, stands}
use Rattle.pr_tool_words.proofs.WalkedLemmas.{AreTexts, Agrees, Ends, tail_fault, tail_rows, walk_agrees}
use Rattle.pr_tool_words.proofs.RuleLemmas.{rules, built_app, simple_app, free_app, are_ours, by_long, no_mode, no_first, no_second, no_stripes, no_stall, no_fabric, no_narrow}

-- ---- one level of a parse

leaf_fault : (s : Shape) (words : List Text) → built_fault (record { top = s; subs = [] }) nothing_held words ≡ level_fault s [] nothing_held words false []
leaf_fault s words = go (walk s.rules [] nothing_held words).stopped
  where
    go : (stop : Option (Text × List Text))
        → level_fault s [] nothing_held words (is_some (entered (record { top = s; subs = [] }) stop)) (entered_fault (record { top = s; subs = [] }) stop)
        ≡ level_fault s [] nothing_held words false []
    go None = refl
    go (Some p) = refl

arguments : (words : List Text) → argument_words app words ≡ drop 1 words
unfolding app
arguments words = refl

abbrev start : Walk
start = stands [] None idle 1 false

fault_is : (words : List Text) → fault_of app words ≡ tail_fault rules start (drop 1 words)
fault_is words = (λ i. built_fault (built_app i) nothing_held (arguments words i)) ∙ leaf_fault (ours rules) (drop 1 words)

matches_are : (words : List Text) → matches_of app words ≡ tail_rows rules start (drop 1 words)
matches_are words = λ i. rows_after (built_app i).top.rules (names_of (built_app i)) (arguments words i)

all_texts : (words : List (String Global)) → AreTexts (map string_bytes words)
all_texts [] = tt
all_texts (word ∷ words) = (IsUtf8-string_bytes word, all_texts words)

are_texts : (words : List (String Global)) → AreTexts (drop 1 (map string_bytes words))
are_texts [] = tt
are_texts (word ∷ words) = all_texts words

abbrev given_in : List Text → Option Given
given_in words = option_and_then (gathered []) (given_by places None (drop 1 words))

agrees : (words : List (String Global)) → Agrees rules (given_in (map string_bytes words)) (fault_of app (map string_bytes words)) (matches_of app (map string_bytes words))
agrees words =
    let texts = map string_bytes words in
    subst (λ ks. Agrees rules (given_in texts) ks (matches_of app texts)) (sym (fault_is texts))
    (subst (λ rs. Agrees rules (given_in texts) (tail_fault rules start (drop 1 texts)) rs) (sym (matches_are texts))
    (walk_agrees rules are_ours (drop 1 texts) (are_texts words)))

-- ---- the values at the end

abbrev kept : Given → List Row
kept given = fold with_default (rows rules given) rules

plain_value : (given : Given) (id : Text) → ((o : Option Row) → seen_after id rules o ≡ o) → first_of id (kept given) ≡ value_of id given
plain_value given id none =
    ap (option_and_then (λ (r : Row). slice_get r.values 0)) (seen-defaults id rules (rows rules given) ∙ none _ ∙ seen-rows rules given id)
    ∙ go (find (λ p. bytes_eq p.0 id) given)
  where
    go : (o : Option (Text × Text)) → option_and_then (λ (r : Row). slice_get r.values 0) (option_map (row rules) o) ≡ option_map (λ p. p.1) o
    go None = refl
    go (Some p) = refl

usual_value : (given : Given) (id : Text) (a : Rule) (v : Text) → ((o : Option Row) → seen_after id rules o ≡ or_usual a (v ∷ []) o)
    → first_of id (kept given) ≡ Some (unwrap_or (value_of id given) v)
usual_value given id a v none =
    ap (option_and_then (λ (r : Row). slice_get r.values 0)) (seen-defaults id rules (rows rules given) ∙ none _ ∙ ap (or_usual a (v ∷ [])) (seen-rows rules given id))
    ∙ go (find (λ p. bytes_eq p.0 id) given)
  where
    go : (o : Option (Text × Text))
        → option_and_then (λ (r : Row). slice_get r.values 0) (or_usual a (v ∷ []) (option_map (row rules) o)) ≡ Some (unwrap_or (option_map (λ p. p.1) o) v)
    go None = refl
    go (Some p) = refl

abbrev found_rows : List Row → Option Said
found_rows rs = found_from
    (first_of (codes "mode") rs) (first_of (codes "first") rs) (first_of (codes "second") rs) (first_of (codes "stripes") rs)
    (first_of (codes "stall") rs) (first_of (codes "fabric") rs) (first_of (codes "narrow") rs)

said_rows : (given : Given) → found_rows (kept given) ≡ said_of given
said_rows given =
    (λ i. found_from
    (plain_value given (codes "mode") no_mode i) (plain_value given (codes "first") no_first i) (plain_value given (codes "second") no_second i)
    (usual_value given (codes "stripes") (by_long (codes "stripes")) (codes "16") no_stripes i) (plain_value given (codes "stall") no_stall i)
    (usual_value given (codes "fabric") (by_long (codes "fabric")) (codes "base") no_fabric i)
    (usual_value given (codes "narrow") (by_long (codes "narrow")) (codes "false") no_narrow i))
    ∙ go (value_of (codes "mode") given) (value_of (codes "narrow") given)
  where
    go : (mode narrow : Option Text)
        → found_from mode (value_of (codes "first") given) (value_of (codes "second") given) (Some (unwrap_or (value_of (codes "stripes") given) (codes "16")))
        (value_of (codes "stall") given) (Some (unwrap_or (value_of (codes "fabric") given) (codes "base"))) (Some (unwrap_or narrow (codes "false")))
        ≡ option_map (λ m. record {
          mode = m;
          first = value_of (codes "first") given;
          second = value_of (codes "second") given;
          stripes = unwrap_or (value_of (codes "stripes") given) (codes "16");
          stall = value_of (codes "stall") given;
          fabric = unwrap_or (value_of (codes "fabric") given) (codes "base");
          narrow = is_true narrow;
        }) mode
    go None narrow = refl
    go (Some m) None = refl
    go (Some m) (Some v) = refl

-- ---- both outcomes

no_said : (given : Given) → has_name given (codes "mode") ≡ false → said_of given ≡ None
no_said given none =
    ap (λ o. option_map (said_with given) (option_map (λ p. p.1) o))
    (none_from (find (λ p. bytes_eq p.0 (codes "mode")) given) (is_some-find (λ p. bytes_eq p.0 (codes "mode")) given ∙ none))

refused : (o : Option Given) (ks : Kinds) (rs : List Row) → Agrees rules o ks rs → Fails ks → option_and_then said_of o ≡ None
refused None ks rs h fails = refl
refused (Some given) ks rs h fails = go (has_name given (codes "mode")) refl h
  where
    go : (b : Bool) → has_name given (codes "mode") ≡ b → Ends b rules given ks rs → said_of given ≡ None
    go true e h = absurd (subst Fails h.0 fails)
    go false e h = no_said given e

taken : (o : Option Given) (ks : Kinds) (rs : List Row) → Agrees rules o ks rs → ks ≡ [] → option_and_then said_of o ≡ found_rows rs
taken None ks rs h none = absurd (subst Fails none h)
taken (Some given) ks rs h none = go (has_name given (codes "mode")) h
  where
    go : (b : Bool) → Ends b rules given ks rs → said_of given ≡ found_rows rs
    go true h = sym (ap found_rows h.1 ∙ said_rows given)
    go false h = absurd (subst Fails none h)

-- the parser refuses the words for another cause than memory
pub said-refused : (a : App) (words : List (String Global)) (e : Error) → a ≡ app → (is_simple_and_free a ≡ true → HasKind (fault_of a (map string_bytes words)) e)
    → (kind_of e ≡ kind.OutOfMemory → ⊥) → said_by (map string_bytes words) ≡ None
unfolding said_by
said-refused a words e is kinds other =
    let has : HasKind (fault_of app (map string_bytes words)) e = subst (λ x. HasKind (fault_of x (map string_bytes words)) e) is (kinds (ap is_simple_and_free is ∙ free_app)) in
    refused (given_in (map string_bytes words)) _ _ (agrees words) (go (fault_of app (map string_bytes words)) has)
  where
    go : (ks : Kinds) → HasKind ks e → Fails ks
    go [] has = elim has [
      | inl memory ↦ absurd (other memory)
      | inr among ↦ absurd among
    ]
    go (k ∷ ks) has = tt

-- the parser takes the words
pub said-taken : (a : App) (words : List (String Global)) (m : ArgMatches) → a ≡ app → (is_simple_and_free a ≡ true → fault_of a (map string_bytes words) ≡ [])
    → HasMatchesOf a (map string_bytes words) m → said_by (map string_bytes words) ≡ found_in (found_of m)
unfolding said_by
said-taken a words m is free matches =
    let texts = map string_bytes words in
    let none : fault_of app texts ≡ [] = ap (λ x. fault_of x texts) (sym is) ∙ free (ap is_simple_and_free is ∙ free_app) in
    let same : rows_of (found_of m) ≡ matches_of app texts = (matches (ap is_simple is ∙ simple_app)).0 ∙ ap (λ x. matches_of x texts) is in
    let f : Found = found_of m in
    taken (given_in texts) _ _ (agrees words) none ∙ ap found_rows (sym same)
    ∙ sym (λ i. found_from
    (first_value-rows f (codes "mode") i) (first_value-rows f (codes "first") i) (first_value-rows f (codes "second") i) (first_value-rows f (codes "stripes") i)
    (first_value-rows f (codes "stall") i) (first_value-rows f (codes "fabric") i) (first_value-rows f (codes "narrow") i))
