-- The rules of our command line, as the parser builds them.
use Rattle.std.proofs.Common.{◌≡◌, ◌==◌, ◌||◌, ◌∙◌, ℕ, Bool, true, false, cond, not, List, [], ◌∷◌, codes, Option, Some, None, refl, sym, ap, subst, true≢false, inl, inr}
use Rattle.std.specs.Prelude.{bytes_eq, unwrap_or, ⊤}
use Rattle.std.proofs.lemmas.Bool.{or_parts, or_cases, false_from_ne_true}
use Rattle.std.proofs.lemmas.Slice.Eq.{bytes_eq-Decides}
use Rattle.clap.specs.Walk.{Held, Row, Rule, Text, arg_by_index, arg_by_long, arg_by_short, has_row, is_empty, with_default}
use Rattle.clap.specs.Simple.{App, built, is_simple, new_rule}
use Rattle.clap.specs.Kinds.{Kinds, check_kinds, or_else}
use Rattle.clap.specs.Faults.{default_fault, defaults_fault, given_default_fault, is_simple_and_free, long_fault, react_fault, settle_fault, short_fault, use_fault}
use Rattle.clap.specs.Takes.{is_given}
use Rattle.clap.specs.declared.error.kind.ErrorKind.TheVariants as kind
use Rattle.pr_tool_words.specs.Shape.{app}
use Rattle.pr_tool_words.specs.Lawful.{has_value}
use Rattle.pr_tool_words.proofs.RowLemmas.{or_usual, seen_after}
use Rattle.pr_tool_words.proofs.TurnLemmas.{Fails, fails_first, fails_second, ours, IsValued, IsFlag, IsPlace, IsOurs}

unfoldable pub rules : List Rule
rules = (built app).top.rules

pub built_app : ◌≡◌ {A = App} (built app) (record { top = ours rules; subs = [] })
unfolding app rules
built_app = refl

pub simple_app : is_simple app ≡ true
unfolding app
simple_app = refl

pub free_app : is_simple_and_free app ≡ true
unfolding app
free_app = refl

-- ---- the options

abbrev pub by_long : Text → Rule
by_long name = unwrap_or (arg_by_long rules name) (new_rule [])

stripes_valued : IsValued rules (codes "stripes")
unfolding app rules
stripes_valued = record {
  a = by_long (codes "stripes");
  by_long = refl;
  takes = refl;
  most = refl;
  id = refl;
  none = λ rs. tt;
  one = λ v. record { by_id = refl; fault = λ rs. refl; rows = λ rs. refl };
}

stall_valued : IsValued rules (codes "stall")
unfolding app rules
stall_valued = record {
  a = by_long (codes "stall");
  by_long = refl;
  takes = refl;
  most = refl;
  id = refl;
  none = λ rs. tt;
  one = λ v. record { by_id = refl; fault = λ rs. refl; rows = λ rs. refl };
}

fabric_valued : IsValued rules (codes "fabric")
unfolding app rules
fabric_valued = record {
  a = by_long (codes "fabric");
  by_long = refl;
  takes = refl;
  most = refl;
  id = refl;
  none = λ rs. tt;
  one = λ v. record { by_id = refl; fault = λ rs. refl; rows = λ rs. refl };
}

narrow_flag : IsFlag rules (codes "narrow")
unfolding app rules
narrow_flag = record {
  a = by_long (codes "narrow");
  by_long = refl;
  takes = refl;
  puts = record { by_id = refl; fault = λ rs. refl; rows = λ rs. refl };
}

named : (name text : Text) → bytes_eq name text ≡ true → text ≡ name
named name text e = sym ((bytes_eq-Decides name text).0 e)

valued : (name : Text) → has_value name ≡ true → IsValued rules name
valued name e = elim (or_cases (bytes_eq name (codes "stripes")) _ e) [
  | inl a ↦ subst (IsValued rules) (named name _ a) stripes_valued
  | inr b ↦ elim (or_cases (bytes_eq name (codes "stall")) _ b) [
    | inl a ↦ subst (IsValued rules) (named name _ a) stall_valued
    | inr a ↦ subst (IsValued rules) (named name _ a) fabric_valued
  ]
]

-- ---- what else begins with a hyphen

turned : (a b : Text) → bytes_eq a b ≡ false → bytes_eq b a ≡ false
turned a b e = false_from_ne_true _ (λ t. true≢false (sym ((bytes_eq-Decides a b).1 (sym ((bytes_eq-Decides b a).0 t))) ∙ e))

-- the rule that the tests of the long names find
abbrev found : (stripes stall fabric narrow help : Bool) → Option Rule
found stripes stall fabric narrow help =
    cond (stripes || false) (arg_by_long rules (codes "stripes"))
    (cond (stall || false) (arg_by_long rules (codes "stall"))
    (cond (fabric || false) (arg_by_long rules (codes "fabric"))
    (cond (narrow || false) (arg_by_long rules (codes "narrow"))
    (cond (help || false) (arg_by_long rules (codes "help")) None))))

found_is : (name : Text)
    → arg_by_long rules name ≡ found (bytes_eq (codes "stripes") name) (bytes_eq (codes "stall") name) (bytes_eq (codes "fabric") name) (bytes_eq (codes "narrow") name) (bytes_eq (codes "help") name)
unfolding app rules
found_is name = refl

help_fails : (v : Option Text) (h : Held) → Fails (long_fault rules false (arg_by_long rules (codes "help")) v h)
unfolding app rules
help_fails (Some v) h = tt
help_fails None h = fails_second (settle_fault rules false h) _ tt

unknown : (name : Text) → has_value name ≡ false → bytes_eq name (codes "narrow") ≡ false → (v : Option Text) (h : Held) → Fails (long_fault rules false (arg_by_long rules name) v h)
unknown name e narrow v h =
    let parts = or_parts (bytes_eq name (codes "stripes")) _ e in
    let more = or_parts (bytes_eq name (codes "stall")) _ parts.1 in
    let is : arg_by_long rules name ≡ found false false false false (bytes_eq (codes "help") name) =
    found_is name ∙ (λ i. found (turned name (codes "stripes") parts.0 i) (turned name (codes "stall") more.0 i) (turned name (codes "fabric") more.1 i) (turned name (codes "narrow") narrow i) (bytes_eq (codes "help") name)) in
    subst (λ o. Fails (long_fault rules false o v h)) (sym is) (go (bytes_eq (codes "help") name))
  where
    go : (b : Bool) → Fails (long_fault rules false (found false false false false b) v h)
    go true = help_fails v h
    go false = tt

short : (x : ℕ) (rest : Text) (h : Held) (more : Held → Kinds) → Fails (short_fault rules false (arg_by_short rules x) rest h more)
unfolding app rules
short x rest h more = go (104 == x)
  where
    go : (b : Bool) → Fails (short_fault rules false (cond (b || false) (arg_by_short rules 104) None) rest h more)
    go true = fails_first _ _ (fails_second (settle_fault rules false h) _ tt)
    go false = tt

-- ---- the places

abbrev by_index : ℕ → Rule
by_index i = unwrap_or (arg_by_index rules i) (new_rule [])

mode_place : IsPlace rules 1 (codes "mode")
unfolding app rules
mode_place = record { a = by_index 1; at = refl; single = refl; once = refl; others = refl; id = refl; one = λ v. record { by_id = refl; fault = λ rs. refl; rows = λ rs. refl } }

first_place : IsPlace rules 2 (codes "first")
unfolding app rules
first_place = record { a = by_index 2; at = refl; single = refl; once = refl; others = refl; id = refl; one = λ v. record { by_id = refl; fault = λ rs. refl; rows = λ rs. refl } }

second_place : IsPlace rules 3 (codes "second")
unfolding app rules
second_place = record { a = by_index 3; at = refl; single = refl; once = refl; others = refl; id = refl; one = λ v. record { by_id = refl; fault = λ rs. refl; rows = λ rs. refl } }

no_place : arg_by_index rules 4 ≡ None
unfolding app rules
no_place = refl

-- ---- after the walk

abbrev IsSilent : Rule → Type 0
IsSilent a = cond (is_empty a.defaults) [] (given_default_fault a a.defaults) ≡ []

abbrev AreSilent : List Rule → Type 0
AreSilent [] = ⊤
AreSilent (a ∷ c) = IsSilent a × AreSilent c

default_silent : (rs : List Row) (a : Rule) → IsSilent a → default_fault rs a ≡ []
default_silent rs a e = go (has_row a.id rs)
  where
    go : (b : Bool) → cond (b || is_empty a.defaults) [] (given_default_fault a a.defaults) ≡ []
    go true = refl
    go false = e

defaults_silent : (c : List Rule) → AreSilent c → (rs : List Row) → defaults_fault rs c ≡ []
unfolding defaults_fault
defaults_silent [] silent rs = refl
defaults_silent (a ∷ c) silent rs = ap (λ ks. or_else ks (defaults_fault (with_default rs a) c)) (default_silent rs a silent.0) ∙ defaults_silent c silent.1 (with_default rs a)

all_silent : AreSilent rules
unfolding app rules
all_silent = (refl, (refl, (refl, (refl, (refl, (refl, (refl, (refl, tt))))))))

check : (rs : List Row) → Rattle.clap.specs.Faults.check_fault (ours rules) rs false ≡ cond (is_given (codes "mode") rs) [] (kind.MissingRequiredArgument ∷ [])
unfolding app rules
check rs = go (is_given (codes "mode") rs)
  where
    go : (b : Bool) → check_kinds false false (not b || false) ≡ cond b [] (kind.MissingRequiredArgument ∷ [])
    go true = refl
    go false = refl

-- ---- values that are not given

pub no_mode : (o : Option Row) → seen_after (codes "mode") rules o ≡ o
unfolding app rules
no_mode None = refl
no_mode (Some r) = refl

pub no_first : (o : Option Row) → seen_after (codes "first") rules o ≡ o
unfolding app rules
no_first None = refl
no_first (Some r) = refl

pub no_second : (o : Option Row) → seen_after (codes "second") rules o ≡ o
unfolding app rules
no_second None = refl
no_second (Some r) = refl

pub no_stall : (o : Option Row) → seen_after (codes "stall") rules o ≡ o
unfolding app rules
no_stall None = refl
no_stall (Some r) = refl

pub no_stripes : (o : Option Row) → seen_after (codes "stripes") rules o ≡ or_usual (by_long (codes "stripes")) (codes "16" ∷ []) o
unfolding app rules
no_stripes o = refl

pub no_fabric : (o : Option Row) → seen_after (codes "fabric") rules o ≡ or_usual (by_long (codes "fabric")) (codes "base" ∷ []) o
unfolding app rules
no_fabric o = refl

pub no_narrow : (o : Option Row) → seen_after (codes "narrow") rules o ≡ or_usual (by_long (codes "narrow")) (codes "false" ∷ []) o
unfolding app rules
no_narrow o = refl

pub are_ours : IsOurs rules
are_ours = record {
  valued = valued;
  flag = narrow_flag;
  unknown = unknown;
  short = short;
  places = (mode_place, (first_place, (second_place, no_place)));
  defaults = defaults_silent rules all_silent;
  check = check;
  unset = no_mode;
}
