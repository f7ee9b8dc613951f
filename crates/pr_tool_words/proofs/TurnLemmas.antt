-- What one word does to the parser's walk over the words of our command line.
use Rattle.std.proofs.Common.{◌≡◌, ◌++◌, ◌+◌, ◌||◌, ◌&&◌, ◌∙◌, ℕ, Bool, true, false, cond, List, [], ◌∷◌, codes, length, min, Option, Some, None, refl, sym, ap, subst}
use Rattle.std.specs.Prelude.{bytes_eq, nat_lt, slice_get, ⊤}
use Rattle.std.specs.Str.{IsUtf8}
use Rattle.std.specs.Option.{option_map_or}
use Rattle.std.proofs.Padding.{cond_same}
use Rattle.std.proofs.lemmas.Bool.{and_right}
use Rattle.std.proofs.lemmas.Slice.Eq.{bytes_eq-Decides}
use Rattle.std.proofs.Math.Bool.{or-false}
use Rattle.clap.specs.Lexer.{usize_max, long_of}
use Rattle.clap.specs.Walk.{Held, Row, Rule, Step, Waiting, Walk, idle, option, positional, next, trailing, value, waits, after_flag, after_step, arg_by_id, arg_by_index, arg_by_long, arg_by_short, has_row, is_multiple, is_pending, long_met, long_or_other, long_word, most_values, option_word, pushed, reading_by, settled, settled_rows, short_or_plain, subcommand_met, subcommand_or_other, takes_several, takes_values, to_positional, used, used_by_id, walked, with_values, without, word_met}
use Rattle.clap.specs.Simple.{Shape, new_shape}
use Rattle.clap.specs.Kinds.{Kinds, or_else}
use Rattle.clap.specs.Faults.{bundle_fault, bundle_step_fault, check_fault, defaults_fault, flag_word_fault, flags_fault, long_fault, other_fault, positional_fault, repeat_fault, settle_fault, short_fault, step_fault, stray_fault, turn_fault, use_fault, word_fault}
use Rattle.clap.specs.Takes.{is_given}
use Rattle.clap.specs.declared.error.kind.ErrorKind.TheVariants as kind
use Rattle.clap.specs.declared.parser.matches.ValueSource.TheVariants.{CommandLine}
use Rattle.pr_tool_words.specs.Lawful.{Text, Given, has_name, has_value, places}
use Rattle.pr_tool_words.proofs.KindLemmas.{dashes, IsPlainWord, IsLongWord, IsOtherWord, first_flag}
use Rattle.pr_tool_words.proofs.RowLemmas.{rows, has_row-rows, with_values-new, seen_after}

-- ---- faults

abbrev pub Fails : Kinds → Type 0
Fails [] = ⊥
Fails (k ∷ ks) = ⊤

pub fails_first : (a b : Kinds) → Fails a → Fails (or_else a b)
fails_first [] b h = absurd h
fails_first (k ∷ ks) b h = tt

pub fails_second : (a b : Kinds) → Fails b → Fails (or_else a b)
fails_second [] b h = h
fails_second (k ∷ ks) b h = tt

pub or_else-assoc : (a b c : Kinds) → or_else (or_else a b) c ≡ or_else a (or_else b c)
or_else-assoc [] b c = refl
or_else-assoc (k ∷ ks) b c = refl

-- ---- the command line

-- a built command with these rules
abbrev pub ours : List Rule → Shape
ours c = record (new_shape (codes "piperench")) { rules = c; disable_help_subcommand = true; is_built = true }

-- where the walk stands
abbrev pub held : List Row → Option (Text × List Text) → Held
held rs pending = record { rows = rs; pending = pending; skip = 0 }

abbrev pub stands : List Row → Option (Text × List Text) → Waiting → ℕ → Bool → Walk
stands rs pending waiting position is_trailing = record { held = held rs pending; waiting = waiting; position = position; is_trailing = is_trailing; stopped = None }

-- a use of the rule with these values puts the value
pub record Puts (c : List Rule) (a : Rule) (name : Text) (values : List Text) (value : Text) : Type 0 where
  pub by_id : arg_by_id c name ≡ Some a
  pub fault : (rs : List Row) → use_fault false a values rs ≡ or_else (repeat_fault false name rs) []
  pub rows : (rs : List Row) → used a values rs ≡ with_values name (reading_by a) CommandLine (value ∷ []) (without name rs)

-- an option that has a value
pub record IsValued (c : List Rule) (name : Text) : Type 0 where
  pub a : Rule
  pub by_long : arg_by_long c name ≡ Some a
  pub takes : takes_values a ≡ true
  pub most : most_values a ≡ 1
  pub id : a.id ≡ name
  pub none : (rs : List Row) → Fails (use_fault false a [] rs)
  pub one : (v : Text) → Puts c a name (v ∷ []) v

-- an option that has none
pub record IsFlag (c : List Rule) (name : Text) : Type 0 where
  pub a : Rule
  pub by_long : arg_by_long c name ≡ Some a
  pub takes : takes_values a ≡ false
  pub puts : Puts c a name [] (codes "true")

pub record IsPlace (c : List Rule) (position : ℕ) (name : Text) : Type 0 where
  pub a : Rule
  pub at : arg_by_index c position ≡ Some a
  pub single : takes_several a ≡ false
  pub once : is_multiple a ≡ false
  pub others : a.trailing_var_arg ≡ false
  pub id : a.id ≡ name
  pub one : (v : Text) → Puts c a name (v ∷ []) v

-- these are the places from this position on, and there are no more
abbrev pub ArePlaces : List Rule → ℕ → List Text → Type 0
ArePlaces c position [] = arg_by_index c position ≡ None
ArePlaces c position (name ∷ left) = IsPlace c position name × ArePlaces c (min (position + 1) usize_max) left

pub record IsOurs (c : List Rule) : Type 0 where
  pub valued : (name : Text) → has_value name ≡ true → IsValued c name
  pub flag : IsFlag c (codes "narrow")
  pub unknown : (name : Text) → has_value name ≡ false → bytes_eq name (codes "narrow") ≡ false → (v : Option Text) (h : Held)
      → Fails (long_fault c false (arg_by_long c name) v h)
  pub short : (x : ℕ) (rest : Text) (h : Held) (more : Held → Kinds) → Fails (short_fault c false (arg_by_short c x) rest h more)
  pub places : ArePlaces c 1 places
  pub defaults : (rs : List Row) → defaults_fault rs c ≡ []
  pub check : (rs : List Row) → check_fault (ours c) rs false ≡ cond (is_given (codes "mode") rs) [] (kind.MissingRequiredArgument ∷ [])
  pub unset : (o : Option Row) → seen_after (codes "mode") c o ≡ o

-- ---- uses

module _ (c : List Rule) (given : Given) (a : Rule) (name : Text) (values : List Text) (v : Text) (puts : Puts c a name values v) where
  fault_is : (known : Bool) → has_name given name ≡ known → use_fault false a values (rows c given) ≡ or_else (cond (known && true) (kind.ArgumentConflict ∷ []) []) []
  fault_is known e = puts.fault (rows c given) ∙ ap (λ b. or_else (cond (b && true) (kind.ArgumentConflict ∷ []) []) []) (has_row-rows c given name ∙ e)

  pub use_of_new : has_name given name ≡ false → use_fault false a values (rows c given) ≡ []
  use_of_new new = fault_is false new

  pub use_of_known : has_name given name ≡ true → Fails (use_fault false a values (rows c given))
  use_of_known known = subst Fails (sym (fault_is true known)) tt

  pub rows_of_new : has_name given name ≡ false → used a values (rows c given) ≡ rows c (given ++ (name, v) ∷ [])
  rows_of_new new = puts.rows (rows c given) ∙ with_values-new c given a name v puts.by_id new

-- ---- what is pending

-- the walk holds these values, that of what is pending too
pub record IsClear (c : List Rule) (given : Given) (rs : List Row) (pending : Option (Text × List Text)) : Type 0 where
  pub passes : settle_fault c false (held rs pending) ≡ []
  pub rows : settled_rows c pending rs ≡ rows c given

pub clear_none : (c : List Rule) (given : Given) → IsClear c given (rows c given) None
clear_none c given = record { passes = refl; rows = refl }

abbrev one_pending : Text → Text → Option (Text × List Text)
one_pending name v = Some (name, v ∷ [])

module _ (c : List Rule) (given : Given) (a : Rule) (name : Text) (v : Text) (puts : Puts c a name (v ∷ []) v) where
  settle_is : settle_fault c false (held (rows c given) (one_pending name v)) ≡ use_fault false a (v ∷ []) (rows c given)
  settle_is = ap (λ o. option_map_or (λ (b : Rule). use_fault false b (v ∷ []) (rows c given)) o []) puts.by_id

  pub clear_pending : has_name given name ≡ false → IsClear c (given ++ (name, v) ∷ []) (rows c given) (one_pending name v)
  clear_pending new = record {
    passes = settle_is ∙ use_of_new c given a name (v ∷ []) v puts new;
    rows = ap (λ o. used_by_id o (v ∷ []) (rows c given)) puts.by_id ∙ rows_of_new c given a name (v ∷ []) v puts new;
  }

  pub doomed_pending : has_name given name ≡ true → Fails (settle_fault c false (held (rows c given) (one_pending name v)))
  doomed_pending known = subst Fails (sym settle_is) (use_of_known c given a name (v ∷ []) v puts known)

-- ---- a word for a place

module _ (c : List Rule) (position : ℕ) (name : Text) (place : IsPlace c position name) (rs : List Row) (pending : Option (Text × List Text)) where
  step_is : step_fault (ours c) position (held rs pending) value ≡ cond (is_pending place.a pending && takes_several place.a) [] (settle_fault c false (held rs pending))
  step_is = ap (λ o. option_map_or (λ (a : Rule). positional_fault c false a (held rs pending)) o (stray_fault (ours c))) place.at

  pub place_passes : settle_fault c false (held rs pending) ≡ [] → step_fault (ours c) position (held rs pending) value ≡ []
  place_passes passes = step_is ∙ cond_same (is_pending place.a pending && takes_several place.a) [] _ [] refl passes

  several : (is_pending place.a pending && takes_several place.a) ≡ false
  several = and_right _ _ place.single

  pub place_fails : Fails (settle_fault c false (held rs pending)) → Fails (step_fault (ours c) position (held rs pending) value)
  place_fails fails = subst Fails (sym (step_is ∙ ap (λ b. cond b [] (settle_fault c false (held rs pending))) several)) fails

  pub to_place : (word : Text) (waiting : Waiting) (t : Bool)
      → to_positional c (arg_by_index c position) word (stands rs pending waiting position t) (held rs pending)
      ≡ stands (settled_rows c pending rs) (one_pending name word) idle (min (position + 1) usize_max) t
  to_place word waiting t =
      ap (λ o. to_positional c o word (stands rs pending waiting position t) (held rs pending)) place.at
      ∙ (λ i. record {
        held = pushed (place.id i) word (cond (several i) (held rs pending) (settled c (held rs pending)));
        waiting = cond (place.once i) positional idle;
        position = cond (place.once i) position (min (position + 1) usize_max);
        is_trailing = trail i;
        stopped = None;
      })
    where
      trail : (t || place.a.trailing_var_arg) ≡ t
      trail = ap (λ b. t || b) place.others ∙ or-false t

-- ---- one turn

-- each word is for a place, after `--`
module _ (c : List Rule) (rs : List Row) (pending : Option (Text × List Text)) (waiting : Waiting) (position : ℕ) (word : Text) where
  pub turn_after_dashes : turn_fault (ours c) [] (stands rs pending waiting position true) word ≡ step_fault (ours c) position (held rs pending) value
  turn_after_dashes = refl

  pub walked_after_dashes : walked c [] (stands rs pending waiting position true) word
      ≡ to_positional c (arg_by_index c position) word (stands rs pending waiting position true) (held rs pending)
  unfolding walked
  walked_after_dashes = refl

no_subcommand : (waiting : Waiting) (word : Text) → subcommand_met [] waiting word ≡ None
no_subcommand idle word = refl
no_subcommand (option id) word = refl
no_subcommand positional word = refl

-- a turn by what the word's faults are and what it meets
module _ (c : List Rule) (rs : List Row) (pending : Option (Text × List Text)) (waiting : Waiting) (position : ℕ) (word : Text)
    (ks : Kinds) (m : Held × Step) (faults : other_fault (ours c) None word (held rs pending) ≡ ks)
    (meets : subcommand_or_other c None waiting position word (held rs pending) ≡ m) where
  word_faults : word_fault (ours c) [] false waiting word (held rs pending) ≡ ks
  word_faults = ap (λ o. other_fault (ours c) o word (held rs pending)) (no_subcommand waiting word) ∙ faults

  word_meets : word_met c [] false waiting position word (held rs pending) ≡ m
  word_meets = ap (λ o. subcommand_or_other c o waiting position word (held rs pending)) (no_subcommand waiting word) ∙ meets

  pub turn_by : turn_fault (ours c) [] (stands rs pending waiting position false) word ≡ or_else ks (step_fault (ours c) position m.0 m.1)
  turn_by = λ i. or_else (word_faults i) (step_fault (ours c) position (word_meets i).0 (word_meets i).1)

  pub walked_by : walked c [] (stands rs pending waiting position false) word ≡ after_step c word (stands rs pending waiting position false) m.0 m.1
  unfolding walked
  walked_by = λ i. after_step c word (stands rs pending waiting position false) (word_meets i).0 (word_meets i).1

pub turn_fails : (c : List Rule) (rs : List Row) (pending : Option (Text × List Text)) (waiting : Waiting) (position : ℕ) (word : Text)
    → Fails (other_fault (ours c) None word (held rs pending)) → Fails (turn_fault (ours c) [] (stands rs pending waiting position false) word)
turn_fails c rs pending waiting position word fails =
    fails_first _ _ (subst Fails (sym (ap (λ o. other_fault (ours c) o word (held rs pending)) (no_subcommand waiting word))) fails)

-- `--`
module _ (c : List Rule) (word : Text) (is : bytes_eq word dashes ≡ true) (h : Held) where
  pub dashes_fault : other_fault (ours c) None word h ≡ []
  dashes_fault = ap (λ b. cond b [] (flag_word_fault c false (long_of word) word h)) is

  pub dashes_meet : (waiting : Waiting) (position : ℕ) → subcommand_or_other c None waiting position word h ≡ (h, trailing position)
  dashes_meet waiting position = ap (λ b. cond b (h, trailing position) (long_or_other c waiting word (long_of word) h)) is

-- a plain word
module _ (c : List Rule) (word : Text) (plain : IsPlainWord word) (h : Held) where
  pub plain_fault : other_fault (ours c) None word h ≡ []
  plain_fault =
      (λ i. cond (plain.dash i) [] (flag_word_fault c false (plain.long i) word h))
      ∙ ap (λ o. option_map_or (λ flags. bundle_fault c false flags h) o []) plain.short

  pub plain_meets : (waiting : Waiting) (position : ℕ) → subcommand_or_other c None waiting position word h ≡ Rattle.clap.specs.Walk.plain_word c waiting word h
  plain_meets waiting position =
      (λ i. cond (plain.dash i) (h, trailing position) (long_or_other c waiting word (plain.long i) h))
      ∙ ap (λ o. short_or_plain c waiting word o h) plain.short

-- a plain word that is the value of an option
pub value_meets : (c : List Rule) (name : Text) (option_is : IsValued c name) (rs : List Row) (word : Text)
    → Rattle.clap.specs.Walk.plain_word c (option name) word (held rs (Some (name, []))) ≡ (held rs (Some (name, word ∷ [])), next idle)
value_meets c name option_is rs word =
    ap (λ o. ((option_word o name word (held rs (Some (name, [])))).0, next (option_word o name word (held rs (Some (name, [])))).1)) (option_is.one word).by_id
    ∙ (λ i. (held rs (Some (name, word ∷ [])), next (cond (nat_lt (cond (same i) 1 0) (option_is.most i)) (option name) idle)))
  where
    same : bytes_eq name option_is.a.id ≡ true
    same = (bytes_eq-Decides name option_is.a.id).1 (sym option_is.id)

-- `--NAME` or `--NAME=VALUE`
module _ (c : List Rule) (name : Text) (v : Option Text) (word : Text) (long : IsLongWord name v word) (h : Held) where
  pub long_faults : other_fault (ours c) None word h ≡ long_fault c false (arg_by_long c name) v h
  long_faults = λ i. cond (long.dash i) [] (flag_word_fault c false (long.long i) word h)

  pub long_meets : (waiting : Waiting) (position : ℕ) → subcommand_or_other c None waiting position word h ≡ long_word c waiting word name v h
  long_meets waiting position = λ i. cond (long.dash i) (h, trailing position) (long_or_other c waiting word (long.long i) h)

-- a word that begins with one hyphen
pub other_fails : (c : List Rule) → IsOurs c → (word : Text) (other : IsOtherWord word) → IsUtf8 word → (rs : List Row) (pending : Option (Text × List Text))
    → Fails (other_fault (ours c) None word (held rs pending))
unfolding flags_fault
other_fails c is word other utf8 rs pending =
    let h = held rs pending in
    let first = first_flag other.b other.more (subst IsUtf8 other.is utf8) in
    let as_flags : other_fault (ours c) None word h ≡ bundle_fault c false (other.b ∷ other.more) h =
    (λ i. cond (other.dash i) [] (flag_word_fault c false (other.long i) word h))
    ∙ ap (λ o. option_map_or (λ flags. bundle_fault c false flags h) o []) other.short in
    let as_short = ap (λ cs. bundle_step_fault c false (slice_get cs 0) (other.b ∷ other.more) 0 h (flags_fault c false (length other.more))) first.2 in
    subst Fails (sym (as_flags ∙ as_short)) (is.short first.0 _ h _)
