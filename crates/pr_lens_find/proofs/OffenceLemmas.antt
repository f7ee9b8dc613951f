-- Which tokens of an item are told of a rule that it breaks.
use Rattle.std.proofs.Common.{◌≡◌, ◌≢◌, ◌∙◌, ◌⊎◌, ◌↔◌, ◌+◌, ◌-◌, ◌^◌, ◌<◌, ◌≤◌, ◌++◌, ◌∷◌, [], ℕ, Bool, false, None, Some, List, Option, Result, Ok, Err, length, min, refl, option_map, option_to_list, ap, sym, inl, inr, subst, arith}
use Rattle.std.specs.Prelude.{IfNone, IfOk, IfSome, IsTrue, IsFalse, MatchOption, slice_index}
use Rattle.std.proofs.lemmas.Bool.{iff_false}
use Rattle.std.specs.List.{slice_get}
use Rattle.std.proofs.lemmas.Option.{slice_get-get_or, slice_get-map}
use Rattle.pr_lang.specs.declared.tokens.Token.{Token}
use Rattle.pr_lang.specs.declared.trees.Item.{Item}
use Rattle.pr_lang.specs.declared.trees.Program.{Program}
use Rattle.pr_scope_names.specs.declared.rules.Rule.{Rule}
use Rattle.pr_scope_names.specs.declared.rules.Rule.TheVariants.{Introduced, Bounds, Recurrences}
use Rattle.pr_scope_names.specs.Outcomes.{number_of}
use Rattle.pr_scope.specs.Walk.{broken, offence}
use Rattle.pr_compile_front.specs.Refusals.{IsRead}
use Rattle.pr_lens_items.specs.declared.cuts.Cut.{Cut}
use Rattle.pr_lens_items.specs.declared.points.Frame.{Frame}
use Rattle.pr_lens_items.specs.Steps.{Entry, entry_of, entries_of}
use Rattle.pr_lens_source.specs.declared.sources.Span.{Span}
use Rattle.pr_lens_source.specs.Spans.{StandsIn}
use Rattle.pr_lens_source.specs.Tokens.{first_of, front_text}
use Rattle.pr_lens_find.specs.declared.fronts.Seen.{Seen}
use Rattle.pr_lens_find.specs.declared.fronts.Seen.TheVariants.{Kept, Broken, TooLong}
use Rattle.pr_lens_find.specs.declared.offences.By.{By}
use Rattle.pr_lens_find.specs.declared.offences.By.TheVariants as by
use Rattle.pr_lens_find.specs.Fronts.{Spot, IsSeen, IsCutFront}
use Rattle.pr_lens_find.specs.Turns.{IsTurn}
use Rattle.pr_lens_find.specs.Offences.{IsFirstWrong, HasNoWrong, IsAgain, Breaks, Keeps, BreaksNot, TurnsUpTo, TurnsNot, IsValue, IsFirstFrame, HasNoFrame, IsOfConstants, IsOfFrame, Again, WrongWidth, Initial, Constant, HasNoneOfFrame, NoName, NoWrong, NoInitial, IsOfItem, Framed, Anywhere, HasNoneAt, Within, HasNoneOfItem, Unframed, AtFrame, IsItemOf, HasNoItem, IsOfTree, HasNoneOfTree, IsFoundIn, IsNowhere, Untold, IsTold, cut_by, is_again}

no_items : (items : List Item) (n : ℕ) → n ≡ length items → n ≡ 0 → items ≡ []
no_items [] n whole none = refl
no_items (item ∷ items) n whole none = absurd (omega arith)

pub item_popped : (text : List ℕ) (tokens : List Token) (spans : List Span) (number : ℕ) (program : Program) (rest : List Item) (o : Option Item) (n m : ℕ)
    → IsRead (front_text text tokens spans (min (number + 1) (2 ^ 64 - 1))) program → n ≡ length program.items.items → MatchOption o ((n ≡ 0) × (m ≡ 0)) (λ item. m + 1 ≡ n)
    → program.items.items ≡ rest ++ option_to_list o → MatchOption o (HasNoItem text tokens spans number) (IsItemOf text tokens spans number)
item_popped text tokens spans number program rest None n m read whole none is = inr (record { program = program; read = read; none = no_items program.items.items n whole none.0 })
item_popped text tokens spans number program rest (Some item) n m read whole some is = record { program = program; read = read; before = rest; last = is }

-- the frame's own name
pub first_again : (text : List ℕ) (tokens : List Token) (spans : List Span) (names : List ℕ) (o : Option ℕ) → o ≡ slice_get names 0
    → ((k : ℕ) → k < length names → is_again text tokens spans (slice_index names k) ≡ false) → MatchOption o (names ≡ []) (IsAgain text tokens spans names)
first_again text tokens spans [] None is none = refl
first_again text tokens spans (name ∷ names) None is none = absurd (cc)
first_again text tokens spans names (Some token) is none = record { place = 0; there = sym is; first = λ k less. absurd (omega (arith, less)); is = inr (record { first = sym is; none = none }) }

-- the point of this number, from 1, is there
point_there : (points : List ℕ) (count : ℕ) → 0 < count → count ≤ length points → None ≡ slice_get points (count - 1) → ⊥
point_there points count some within is = let there = slice_get-get_or points (count - 1) 0 (omega arith) in cc

pub last_there : (points : List ℕ) (o : Option ℕ) → o ≡ slice_get points (length points - 1) → IfNone o (points ≡ [])
last_there [] None is = refl
last_there (point ∷ points) None is = absurd (point_there (point ∷ points) (length (point ∷ points)) (omega arith) (omega arith) is)
last_there points (Some token) is = tt

pub both_ok : {X E : Type 0} (P Q R : X → Type 0) (r : Result X E) → ((x : X) → P x → Q x → R x) → IfOk r P → IfOk r Q → IfOk r R
both_ok {X} {E} P Q R (Ok x) h p q = h x p q
both_ok {X} {E} P Q R (Err e) h p q = tt

-- ---- an item that is cut off
pub breach : (spot : Spot) (rule : Rule) (cut : Cut) (program : Program) (seen : Seen) → IsCutFront spot cut program → IsSeen program seen → seen ≡ Broken (number_of rule) spot.number → Breaks spot rule cut
breach spot rule cut program seen cut_off is same = record { program = program; cut_off = cut_off; holds = subst (λ (s : Seen). IsSeen program s) same is }

other_breach : (rule number : ℕ) (program : Program) (seen : Seen) → IsSeen program seen → (seen ≡ Broken rule number → ⊥) → offence program ≢ Some (broken rule number)
other_breach rule number program Kept is not = λ e. (let both = sym is ∙ e in cc)
other_breach rule number program (Broken r i) is not = λ e. (let both = sym is ∙ e in not (cc))
other_breach rule number program TooLong is not = λ e. (let both = sym is ∙ e in cc)

pub no_breach : (spot : Spot) (rule : Rule) (cut : Cut) (program : Program) (seen : Seen) → IsCutFront spot cut program → IsSeen program seen → (test : Bool) → (IsTrue test ↔ (seen ≡ Broken (number_of rule) spot.number)) → IsFalse test → BreaksNot spot rule cut
no_breach spot rule cut program seen cut_off is test tells untrue = inr (record { program = program; cut_off = cut_off; holds = other_breach (number_of rule) spot.number program seen is (iff_false tells untrue) })

-- where the text before an item is read once, it always is
keeps_read : (spot : Spot) (rule : Rule) (cut less : Cut) → Breaks spot rule cut → BreaksNot spot rule less → Keeps spot rule less
keeps_read spot rule cut less breaks (inl unread) = absurd (unread breaks.cut_off.read.good)
keeps_read spot rule cut less breaks (inr keeps) = keeps

module _ (spot : Spot) (rule : Rule) where
  abbrev No : By → ℕ → Type 0
  No what = λ count. BreaksNot spot rule (cut_by what count)

  abbrev Yes : By → ℕ → Type 0
  Yes what = λ count. Breaks spot rule (cut_by what count)

  pub turned : (what : By) (most : ℕ) (o : Option ℕ) → IfSome o (IsTurn (No what) (Yes what) 0 most) → IfNone o (Yes what 0 ⊎ ((most ≤ 0) ⊎ No what most))
      → MatchOption o (TurnsNot spot rule what most) (TurnsUpTo spot rule what most)
  turned what most None is none = none
  turned what most (Some count) is none = record { turns = record { some = omega (arith, is.above); breaks = is.yes; keeps = keeps_read spot rule _ _ is.yes is.no }; within = is.within }

  pub first_framed : (most : ℕ) → No by.Frames 1 → (o : Option ℕ) → IfSome o (IsTurn (No by.Frames) (Yes by.Frames) 1 most) → IfNone o ((most ≤ 1) ⊎ No by.Frames most)
      → MatchOption o (HasNoFrame spot rule most) (IsFirstFrame spot rule)
  first_framed most one None is none = record { one = one; all = none }
  first_framed most one (Some number) is none = record { some = omega (arith, is.above); breaks = is.yes; keeps = λ more. keeps_read spot rule _ _ is.yes is.no }

  -- ---- what is found
  pub value_found : (frames : ℕ) (values : List ℕ) (count : ℕ) (o : Option ℕ) → o ≡ slice_get values (count - 1) → TurnsUpTo spot rule (by.Values frames) (length values) count
      → MatchOption o (TurnsNot spot rule (by.Values frames) (length values)) (IsValue spot rule frames values)
  value_found frames values count None is up = absurd (point_there values count up.turns.some up.within is)
  value_found frames values count (Some token) is up = record { count = count; there = sym is; turns = up.turns }

  pub value_anywhere : (values : List ℕ) (frames : List Entry) → HasNoFrame spot rule (length frames) → (o : Option ℕ)
      → MatchOption o (TurnsNot spot rule (by.Values 18446744073709551615) (length values)) (IsValue spot rule 18446744073709551615 values)
      → MatchOption o (TurnsNot spot rule (by.Values 18446744073709551615) (length values)) (IsOfItem spot rule values frames)
  value_anywhere values frames none None is = is
  value_anywhere values frames none (Some token) is = Anywhere none is

  pub constant_found : (number : ℕ) (entry : Entry) (count : ℕ) (o : Option ℕ) → IsOfConstants rule → o ≡ slice_get entry.fixeds (count - 1) → TurnsUpTo spot rule (by.Fixeds number) (length entry.fixeds) count
      → MatchOption o (HasNoneOfFrame spot rule number entry) (IsOfFrame spot rule number entry)
  constant_found number entry count None of is up = absurd (point_there entry.fixeds count up.turns.some up.within is)
  constant_found number entry count (Some token) of is up = Constant count of (sym is) up.turns

  pub name_found : (number : ℕ) (entry : Entry) (o : Option ℕ) → rule ≡ Introduced → MatchOption o (entry.names ≡ []) (IsAgain spot.text spot.tokens spot.spans entry.names)
      → MatchOption o (HasNoneOfFrame spot rule number entry) (IsOfFrame spot rule number entry)
  name_found number entry None is told = NoName is told
  name_found number entry (Some token) is told = Again is told

  pub width_found : (number : ℕ) (entry : Entry) (o : Option ℕ) → rule ≡ Bounds → IfSome o (IsFirstWrong spot.tokens entry.widths) → IfNone o (HasNoWrong spot.tokens entry.widths)
      → MatchOption o (HasNoneOfFrame spot rule number entry) (IsOfFrame spot rule number entry)
  width_found number entry None is first none = NoWrong is none
  width_found number entry (Some token) is first none = WrongWidth is first

  pub initial_found : (number : ℕ) (entry : Entry) (o : Option ℕ) → rule ≡ Recurrences → o ≡ slice_get entry.fixeds (length entry.fixeds - 1)
      → MatchOption o (HasNoneOfFrame spot rule number entry) (IsOfFrame spot rule number entry)
  initial_found number entry None is there = NoInitial is (last_there entry.fixeds None there)
  initial_found number entry (Some token) is there = Initial is (sym there)

  -- a token of a frame that the item has
  frame_entry : (frames : List Frame) (number : ℕ) (frame : Frame) → slice_get frames (number - 1) ≡ Some frame → slice_get (entries_of frames) (number - 1) ≡ Some (entry_of frame)
  frame_entry frames number frame there = slice_get-map entry_of frames (number - 1) ∙ ap (λ (o : Option Frame). option_map entry_of o) there

  pub framed : (values : List ℕ) (frames : List Frame) (number : ℕ) (frame : Frame) → slice_get frames (number - 1) ≡ Some frame → IsFirstFrame spot rule number
      → (1 < number → TurnsNot spot rule (by.Values (number - 1)) (length values)) → (o : Option ℕ) → MatchOption o (HasNoneOfFrame spot rule number (entry_of frame)) (IsOfFrame spot rule number (entry_of frame))
      → MatchOption o (HasNoneAt spot rule (entries_of frames) number) (IsOfItem spot rule values (entries_of frames))
  framed values frames number frame there first none None is = Within (entry_of frame) (frame_entry frames number frame there) is
  framed values frames number frame there first none (Some token) is = Framed number (entry_of frame) first none (frame_entry frames number frame there) is

  pub none_framed : (values : List ℕ) (frames : List Entry) (number : ℕ) → IsFirstFrame spot rule number → (1 < number → TurnsNot spot rule (by.Values (number - 1)) (length values))
      → (o : Option ℕ) → MatchOption o (HasNoneAt spot rule frames number) (IsOfItem spot rule values frames) → MatchOption o (HasNoneOfItem spot rule values frames) (IsOfItem spot rule values frames)
  none_framed values frames number first none None is = AtFrame number first none is
  none_framed values frames number first none (Some token) is = is

  pub none_unframed : (values : List ℕ) (frames : List Entry) → HasNoFrame spot rule (length frames)
      → (o : Option ℕ) → MatchOption o (TurnsNot spot rule (by.Values 18446744073709551615) (length values)) (IsOfItem spot rule values frames)
      → MatchOption o (HasNoneOfItem spot rule values frames) (IsOfItem spot rule values frames)
  none_unframed values frames none None is = Unframed none is
  none_unframed values frames none (Some token) is = is

pub found_in : (text : List ℕ) (tokens : List Token) (spans : List Span) (rule : Rule) (number : ℕ) (item : Item) → IsItemOf text tokens spans number item → (o : Option ℕ)
    → MatchOption o (HasNoneOfTree (record { text = text; tokens = tokens; spans = spans; number = number; item = item }) rule)
    (IsOfTree (record { text = text; tokens = tokens; spans = spans; number = number; item = item }) rule)
    → MatchOption o (IsNowhere text tokens spans rule number) (IsFoundIn text tokens spans rule number)
found_in text tokens spans rule number item is None none = Untold (record { item = item; is = is; none = none })
found_in text tokens spans rule number item is (Some token) tells = record { item = item; is = is; tells = tells }

pub held_told : (text : List ℕ) (tokens : List Token) (spans : List Span) (rule : Rule) (number token : ℕ) (found : Option ℕ)
    → MatchOption found (IsNowhere text tokens spans rule number) (IsFoundIn text tokens spans rule number) → (token ≡ first_of tokens spans number) ⊎ (found ≡ Some token)
    → ((t : ℕ) → found ≡ Some t → (token ≡ t) ⊎ (StandsIn tokens spans number t → ⊥)) → IsTold text tokens spans rule number token
held_told text tokens spans rule number token None is (inl first) left = inr (record { first = first; why = inl is })
held_told text tokens spans rule number token None is (inr same) left = absurd (cc)
held_told text tokens spans rule number token (Some t) is other left = elim (left t refl) [
  | inl same ↦ inl (subst (λ (k : ℕ). IsFoundIn text tokens spans rule number k) (sym same) is)
  | inr outside ↦ (elim other [
    | inl first ↦ inr (record { first = first; why = inr (record { found = t; is = is; outside = outside }) })
    | inr same ↦ inl (let one : t ≡ token = cc in subst (λ (k : ℕ). IsFoundIn text tokens spans rule number k) one is)
  ])
]
