-- The rows in which the parser keeps values.
use Rattle.std.proofs.Common.{◌≡◌, ◌++◌, ◌||◌, ◌∙◌, Bool, true, false, cond, List, [], ◌∷◌, map, Option, Some, None, option_map, is_some, refl, sym, ap, append-nil, true≢false}
use Rattle.std.proofs.Padding.{cond_same}
use Rattle.std.proofs.lemmas.List.{map-append}
use Rattle.std.specs.Prelude.{bytes_eq, find, fold}
use Rattle.std.specs.List.{list_any}
use Rattle.std.specs.Option.{option_map_or, option_or}
use Rattle.std.proofs.lemmas.Bool.{or_parts}
use Rattle.std.proofs.lemmas.List.Folds.{find-append}
use Rattle.std.proofs.lemmas.Slice.Eq.{bytes_eq-Decides}
use Rattle.clap.specs.Walk.{Row, Rule, Text, arg_by_id, at_row, default_rows, has_row, more_values, reading_by, with_default, with_values, without}
use Rattle.clap.specs.declared.builder.value_parser.Reading.TheVariants as reading
use Rattle.clap.specs.declared.parser.matches.ValueSource.TheVariants.{CommandLine, DefaultValue}
use Rattle.clap.proofs.WalkLemmas.{find-map, list_any-map}
use Rattle.pr_tool_words.specs.Lawful.{Given, has_name}

-- ---- rows of values

-- the row of a value
abbrev pub row : List Rule → Text × Text → Row
row c p = record {
  id = p.0;
  values = p.1 ∷ [];
  count = None;
  source = Some CommandLine;
  reading = option_map_or reading_by (arg_by_id c p.0) reading.AsWritten;
}

abbrev pub rows : List Rule → Given → List Row
rows c given = map (row c) given

pub has_row-rows : (c : List Rule) (given : Given) (id : Text) → has_row id (rows c given) ≡ has_name given id
has_row-rows c given id = sym (list_any-map (λ (r : Row). bytes_eq r.id id) (row c) given)

pub at_row-none : (id : Text) (change : Row → List Row) (missing rs : List Row) → has_row id rs ≡ false → at_row id change missing rs ≡ rs ++ missing
at_row-none id change missing [] none = refl
at_row-none id change missing (r ∷ rs) none =
    let parts = or_parts (bytes_eq r.id id) _ none in
    rw parts.0 (ap (λ xs. r ∷ xs) (at_row-none id change missing rs parts.1))

-- a value of a new name
pub with_values-new : (c : List Rule) (given : Given) (a : Rule) (name value : Text) → arg_by_id c name ≡ Some a → has_name given name ≡ false
    → with_values name (reading_by a) CommandLine (value ∷ []) (without name (rows c given)) ≡ rows c (given ++ (name, value) ∷ [])
with_values-new c given a name value by_id new =
    let none : has_row name (rows c given) ≡ false = has_row-rows c given name ∙ new in
    let same : without name (rows c given) ≡ rows c given = at_row-none name (λ _. []) [] (rows c given) none ∙ append-nil (rows c given) in
    ap (with_values name (reading_by a) CommandLine (value ∷ [])) same
    ∙ at_row-none name (more_values CommandLine (value ∷ [])) (record { id = name; values = value ∷ []; count = None; source = Some CommandLine; reading = reading_by a } ∷ []) (rows c given) none
    ∙ ap (λ how. rows c given ++ record { id = name; values = value ∷ []; count = None; source = Some CommandLine; reading = how } ∷ [])
    (ap (λ o. option_map_or reading_by o reading.AsWritten) (sym by_id))
    ∙ sym (map-append (row c) given ((name, value) ∷ []))

-- ---- the row of an id

abbrev pub seen : Text → List Row → Option Row
seen id rs = find (λ r. bytes_eq r.id id) rs

pub is_some-find : {X : Type 0} (p : X → Bool) (xs : List X) → is_some (find p xs) ≡ list_any p xs
is_some-find p [] = refl
is_some-find p (x ∷ xs) = go (p x) (is_some-find p xs)
  where
    go : (b : Bool) → is_some (find p xs) ≡ list_any p xs → is_some (cond b (Some x) (find p xs)) ≡ (b || list_any p xs)
    go true e = refl
    go false e = e

-- the row of a default
abbrev pub usual_row : Rule → List Text → Row
usual_row a values = record { id = a.id; values = values; count = None; source = Some DefaultValue; reading = reading_by a }

abbrev pub or_usual : Rule → List Text → Option Row → Option Row
or_usual a values (Some r) = Some r
or_usual a [] None = None
or_usual a (v ∷ vs) None = Some (usual_row a (v ∷ vs))

-- what the defaults of rules make of the row of an id
abbrev pub seen_after : Text → List Rule → Option Row → Option Row
seen_after id [] o = o
seen_after id (a ∷ c) o = seen_after id c (cond (bytes_eq a.id id) (or_usual a a.defaults o) o)

or_usual-none : (a : Rule) (o : Option Row) → or_usual a [] o ≡ o
or_usual-none a None = refl
or_usual-none a (Some r) = refl

option_or-none : {X : Type 0} (o : Option X) → option_or o None ≡ o
option_or-none None = refl
option_or-none (Some x) = refl

pub none_from : {X : Type 0} (o : Option X) → is_some o ≡ false → o ≡ None
none_from None e = refl
none_from (Some x) e = absurd (true≢false e)

-- rows with one more at the end
seen_more : (id : Text) (rs : List Row) (a : Rule) (v : Text) (vs : List Text) → has_row a.id rs ≡ false
    → seen id (rs ++ usual_row a (v ∷ vs) ∷ []) ≡ cond (bytes_eq a.id id) (or_usual a (v ∷ vs) (seen id rs)) (seen id rs)
seen_more id rs a v vs none = find-append (λ (r : Row). bytes_eq r.id id) rs (usual_row a (v ∷ vs) ∷ []) ∙ go (bytes_eq a.id id) refl
  where
    go : (b : Bool) → bytes_eq a.id id ≡ b
        → option_or (seen id rs) (cond b (Some (usual_row a (v ∷ vs))) None) ≡ cond b (or_usual a (v ∷ vs) (seen id rs)) (seen id rs)
    go false e = option_or-none (seen id rs)
    go true e =
        let same : a.id ≡ id = (bytes_eq-Decides a.id id).0 e in
        let missing : seen id rs ≡ None = none_from (seen id rs) (is_some-find (λ (r : Row). bytes_eq r.id id) rs ∙ ap (λ i. has_row i rs) (sym same) ∙ none) in
        rw missing refl

kept : (id : Text) (rs : List Row) (a : Rule) → has_row a.id rs ≡ true → seen id rs ≡ cond (bytes_eq a.id id) (or_usual a a.defaults (seen id rs)) (seen id rs)
kept id rs a has = go (bytes_eq a.id id) refl
  where
    here : (o : Option Row) → is_some o ≡ true → o ≡ or_usual a a.defaults o
    here None e = absurd (true≢false (sym e))
    here (Some r) e = refl

    go : (b : Bool) → bytes_eq a.id id ≡ b → seen id rs ≡ cond b (or_usual a a.defaults (seen id rs)) (seen id rs)
    go false e = refl
    go true e =
        let same : a.id ≡ id = (bytes_eq-Decides a.id id).0 e in
        here (seen id rs) (is_some-find (λ (r : Row). bytes_eq r.id id) rs ∙ ap (λ i. has_row i rs) (sym same) ∙ has)

seen-with_default : (id : Text) (rs : List Row) (a : Rule) → seen id (with_default rs a) ≡ cond (bytes_eq a.id id) (or_usual a a.defaults (seen id rs)) (seen id rs)
seen-with_default id rs a = go (has_row a.id rs) refl
  where
    by : (values : List Text) → has_row a.id rs ≡ false → seen id (default_rows a.id (reading_by a) values rs) ≡ cond (bytes_eq a.id id) (or_usual a values (seen id rs)) (seen id rs)
    by [] none = sym (cond_same (bytes_eq a.id id) (or_usual a [] (seen id rs)) (seen id rs) (seen id rs) (or_usual-none a (seen id rs)) refl)
    by (v ∷ vs) none = ap (seen id) (at_row-none a.id (more_values DefaultValue (v ∷ vs)) (usual_row a (v ∷ vs) ∷ []) rs none) ∙ seen_more id rs a v vs none

    go : (b : Bool) → has_row a.id rs ≡ b
        → seen id (cond b rs (default_rows a.id (reading_by a) a.defaults rs)) ≡ cond (bytes_eq a.id id) (or_usual a a.defaults (seen id rs)) (seen id rs)
    go true e = kept id rs a e
    go false e = by a.defaults e

-- the row of an id at the end
pub seen-defaults : (id : Text) (c : List Rule) (rs : List Row) → seen id (fold with_default rs c) ≡ seen_after id c (seen id rs)
seen-defaults id [] rs = refl
seen-defaults id (a ∷ c) rs = seen-defaults id c (with_default rs a) ∙ ap (seen_after id c) (seen-with_default id rs a)

pub seen-rows : (c : List Rule) (given : Given) (id : Text) → seen id (rows c given) ≡ option_map (row c) (find (λ p. bytes_eq p.0 id) given)
seen-rows c given id = sym (find-map (λ (r : Row). bytes_eq r.id id) (row c) given)
