-- How deep brackets are open behind a token, and the token with which they are closed.
use Rattle.std.proofs.Common.{◌≡◌, ◌∙◌, ◌+◌, ◌-◌, ◌^◌, ◌<◌, ◌≤◌, ◌==◌, ◌&&◌, ◌||◌, ℕ, zero, suc, Bool, true, false, cond, List, Option, None, Some, [], length, max, min, refl, sym, ap, subst, arith}
use Rattle.std.specs.Prelude.{nat_le, slice_range}
use Rattle.std.specs.Option.{option_map_or}
use Rattle.std.proofs.lemmas.Bool.{le-leb, lt-leb, lt-ltb, le-ltb}
use Rattle.std.proofs.lemmas.Bool.Decides.{nat_tests}
use Rattle.std.proofs.lemmas.Grind.{common_steps}
use Rattle.std.proofs.lemmas.Option.{slice_get_past}
use Rattle.pr_lang.specs.declared.tokens.Kind.{Kind}
use Rattle.pr_lang.specs.declared.tokens.Kind.TheVariants.{Mark, End}
use Rattle.pr_lang.specs.declared.tokens.Symbol.TheVariants.{OpenRound, OpenSquare, OpenCurly, CloseRound, CloseSquare, CloseCurly, Comma}
use Rattle.pr_lang.specs.declared.tokens.Token.{Token}
use Rattle.pr_lens_source.specs.Depths.{depth_after}
use Rattle.pr_lens_source.specs.Kinds.{is_close_square, is_closing, is_comma, is_open_square, is_opening, is_semi}
use Rattle.pr_lens_source.specs.Ranges.{count_between, first_between, last_below, one_where}
use Rattle.pr_lens_source.specs.Tokens.{kind_of, start_of, end_of, bytes_of}
use Rattle.pr_lens_source.proofs.RangeLemmas.{count_none, count_over, count_last, count_first, first_none, first_here, first_later, last_none, last_here, last_before, one_at_most}
use Rattle.pr_lens_names.specs.Brackets.{opened, closed, is_even_with, closing_of, is_between_parts, parts_before, parts_up_to, parts_in, is_open_from, is_around, square_at, square_around}

-- behind the last token is the end
pub kind_past : (tokens : List Token) (at : ℕ) → length tokens ≤ at → kind_of tokens at ≡ End
kind_past tokens at past = ap (λ (o : Option Token). option_map_or (λ (t : Token). t.kind) o End) (slice_get_past tokens at past)

-- and no bytes
pub bytes_past : (text : List ℕ) (tokens : List Token) (at : ℕ) → length tokens ≤ at → bytes_of text tokens at ≡ []
bytes_past text tokens at past =
    let none = slice_get_past tokens at past in
    let start : start_of text tokens at ≡ length text = ap (λ (o : Option Token). option_map_or (λ (t : Token). min (length text) t.start) o (length text)) none in
    let end : end_of text tokens at ≡ length text = ap (λ (o : Option Token). option_map_or (λ (t : Token). min (length text) t.end) o (length text)) none in
    rw (start, end) (empty text (length text))
  where
    empty : (xs : List ℕ) (n : ℕ) → slice_range xs n n ≡ []
    empty xs n = grind (arith, common_steps)

-- ---- one token more
depth_moves : (depth : ℕ) (k : Kind) → depth + 1 < 2 ^ 64 → depth_after depth k + one_where (is_closing k) ≡ max (depth + one_where (is_opening k)) (one_where (is_closing k))
depth_moves depth (Mark OpenRound) less = omega arith
depth_moves depth (Mark OpenSquare) less = omega arith
depth_moves depth (Mark OpenCurly) less = omega arith
depth_moves depth (Mark CloseRound) less = omega arith
depth_moves depth (Mark CloseSquare) less = omega arith
depth_moves depth (Mark CloseCurly) less = omega arith
depth_moves depth (Mark _) less = omega arith
depth_moves depth _ less = omega arith

-- a comma opens nothing
comma_alone : (k : Kind) (b : Bool) → one_where (is_comma k && b) + one_where (is_opening k) ≤ 1
comma_alone (Mark OpenRound) b = omega arith
comma_alone (Mark OpenSquare) b = omega arith
comma_alone (Mark OpenCurly) b = omega arith
comma_alone (Mark Comma) b = let one = one_at_most b in omega arith
comma_alone (Mark _) b = omega arith
comma_alone _ b = omega arith

one_more : (a b c : ℕ) → c + b ≡ a → (a == b + 1) ≡ (c == 1)
one_more a b c is = grind (arith, nat_tests)

-- ---- the brackets that open from a token on
-- so deep are they open before another one, and none with which they are closed came before
pub record IsDeepAt (tokens : List Token) (from at depth : ℕ) : Type 0 where
  pub is : depth + closed tokens from at ≡ opened tokens from at
  pub few : opened tokens from at + from ≤ at
  pub some : from < at → 0 < depth
  pub rest : first_between (is_even_with tokens from) at (length tokens) ≡ closing_of tokens from

-- as many commas between parts stand before another one
pub record AreParts (tokens : List Token) (from at depth commas : ℕ) : Type 0 where
  pub deep : IsDeepAt tokens from at depth
  pub many : commas ≡ count_between (is_between_parts tokens from) from at
  pub few : commas + opened tokens from at + from ≤ at

module _ (tokens : List Token) (from : ℕ) where
  pub deep_first : IsDeepAt tokens from from 0
  deep_first =
      let no_open = count_none (λ k. is_opening (kind_of tokens k)) from in
      let no_close = count_none (λ k. is_closing (kind_of tokens k)) from in
      record { is = omega arith; few = omega arith; some = λ less. absurd (omega arith); rest = refl }

  pub deep_none : (at depth : ℕ) → length tokens ≤ at → IsDeepAt tokens from at depth → closing_of tokens from ≡ None
  deep_none at depth past deep = sym deep.rest ∙ first_none (is_even_with tokens from) at (length tokens) past

  module _ (at depth : ℕ) (order : from ≤ at) (less : at < length tokens) (small : at + 1 < 2 ^ 64) (deep : IsDeepAt tokens from at depth) where
    moves : depth_after depth (kind_of tokens at) + one_where (is_closing (kind_of tokens at)) ≡ max (depth + one_where (is_opening (kind_of tokens at))) (one_where (is_closing (kind_of tokens at)))
    moves = depth_moves depth (kind_of tokens at) (omega (arith, deep.is, deep.few))

    opens_more : opened tokens from (at + 1) ≡ opened tokens from at + one_where (is_opening (kind_of tokens at))
    opens_more = count_last (λ k. is_opening (kind_of tokens k)) from at order

    closes_more : closed tokens from (at + 1) ≡ closed tokens from at + one_where (is_closing (kind_of tokens at))
    closes_more = count_last (λ k. is_closing (kind_of tokens k)) from at order

    -- they are closed with this token
    pub deep_closes : depth_after depth (kind_of tokens at) ≡ 0 → closing_of tokens from ≡ Some at
    unfolding is_even_with
    deep_closes none =
        let even : opened tokens from (at + 1) ≤ closed tokens from (at + 1) = omega (arith, moves, opens_more, closes_more, deep.is, none) in
        sym deep.rest ∙ first_here (is_even_with tokens from) at (length tokens) less (le-leb (opened tokens from (at + 1)) (closed tokens from (at + 1)) even)

    -- they are open behind it
    pub deep_after : (depth_after depth (kind_of tokens at) ≡ 0 → ⊥) → depth_after depth (kind_of tokens at) + closed tokens from (at + 1) ≡ opened tokens from (at + 1)
    deep_after some = omega (arith, moves, opens_more, closes_more, deep.is, some)

    pub deep_more : (depth_after depth (kind_of tokens at) ≡ 0 → ⊥) → IsDeepAt tokens from (at + 1) (depth_after depth (kind_of tokens at))
    unfolding is_even_with
    deep_more some =
        let after = deep_after some in
        let one = one_at_most (is_opening (kind_of tokens at)) in
        let odd : closed tokens from (at + 1) < opened tokens from (at + 1) = omega (arith, after, some) in
        record {
          is = after;
          few = omega (arith, opens_more, deep.few, one);
          some = λ _. omega (arith, some);
          rest = sym (first_later (is_even_with tokens from) at (length tokens) less (lt-leb (opened tokens from (at + 1)) (closed tokens from (at + 1)) odd)) ∙ deep.rest;
        }

    -- a comma more or none, and what opens is no comma
    parts_more : (commas more : ℕ) → (depth_after depth (kind_of tokens at) ≡ 0 → ⊥) → commas ≡ count_between (is_between_parts tokens from) from at
        → more ≡ one_where (is_comma (kind_of tokens at) && (depth_after depth (kind_of tokens at) == 1)) → commas + more ≡ count_between (is_between_parts tokens from) from (at + 1)
    unfolding is_between_parts
    parts_more commas more some is is_more =
        let same = one_more (opened tokens from (at + 1)) (closed tokens from (at + 1)) (depth_after depth (kind_of tokens at)) (deep_after some) in
        let last = count_last (is_between_parts tokens from) from at order in
        let here = ap (λ (b : Bool). one_where (is_comma (kind_of tokens at) && b)) same in
        omega (arith, last, here, is, is_more)

    commas_few : (commas more : ℕ) → commas + opened tokens from at + from ≤ at → more ≡ one_where (is_comma (kind_of tokens at) && (depth_after depth (kind_of tokens at) == 1))
        → commas + more + opened tokens from (at + 1) + from ≤ at + 1
    commas_few commas more few is = let alone = comma_alone (kind_of tokens at) (depth_after depth (kind_of tokens at) == 1) in omega (arith, alone, opens_more, few, is)

    pub parts_step : (commas more next : ℕ) → AreParts tokens from at depth commas → next ≡ depth_after depth (kind_of tokens at)
        → more ≡ one_where (is_comma (kind_of tokens at) && (next == 1)) → (next ≡ 0 → ⊥) → AreParts tokens from (at + 1) next (commas + more)
    parts_step commas more next parts is_next is_more some =
        let some_here : depth_after depth (kind_of tokens at) ≡ 0 → ⊥ = λ none. some (is_next ∙ none) in
        let more_here = is_more ∙ ap (λ (d : ℕ). one_where (is_comma (kind_of tokens at) && (d == 1))) is_next in
        record {
          deep = subst (λ (d : ℕ). IsDeepAt tokens from (at + 1) d) (sym is_next) (deep_more some_here);
          many = parts_more commas more some_here parts.many more_here;
          few = commas_few commas more parts.few more_here;
        }

  -- ---- parts
  pub parts_first : AreParts tokens from from 0 0
  parts_first =
      let no_comma = count_none (is_between_parts tokens from) from in
      let no_open = count_none (λ k. is_opening (kind_of tokens k)) from in
      record { deep = deep_first; many = sym no_comma; few = omega arith }

  pub parts_closed : (at commas parts : ℕ) → closing_of tokens from ≡ Some at → commas ≡ count_between (is_between_parts tokens from) from at
      → parts ≡ cond (nat_le at (from + 1)) 0 (commas + 1) → parts ≡ parts_in tokens from
  unfolding parts_in
  parts_closed at commas parts closes is is_parts =
      is_parts
      ∙ (ap (λ (n : ℕ). cond (nat_le at (from + 1)) 0 (n + 1)) is ∙ ap (λ (o : Option ℕ). parts_up_to tokens from o) (sym closes))

  pub parts_open : (at depth commas parts : ℕ) → from < at → at ≡ length tokens → AreParts tokens from at depth commas → at < 2 ^ 64 → parts ≡ min (commas + 1) (2 ^ 64 - 1) → parts ≡ parts_in tokens from
  unfolding parts_in
  parts_open at depth commas parts more whole are small is =
      let none = deep_none at depth (omega arith) are.deep in
      let all : commas + 1 ≡ parts_before tokens from (length tokens) = ap (λ (n : ℕ). n + 1) are.many ∙ ap (λ (n : ℕ). parts_before tokens from n) whole in
      let deep : 0 < depth = are.deep.some more in
      let few : commas + 1 ≤ 2 ^ 64 - 1 = omega (arith, are.few, are.deep.is, deep) in
      (let exact : parts ≡ commas + 1 = omega (arith, is, few) in exact) ∙ (all ∙ ap (λ (o : Option ℕ). parts_up_to tokens from o) (sym none))

-- behind the last token
pub parts_past : (tokens : List Token) (from : ℕ) → length tokens ≤ from → 1 ≡ parts_in tokens from
unfolding parts_in
parts_past tokens from past =
    let none = deep_none tokens from from 0 past (deep_first tokens from) in
    let no_comma = count_over (is_between_parts tokens from) from (length tokens) past in
    (let one : 1 ≡ count_between (is_between_parts tokens from) from (length tokens) + 1 = omega (arith, no_comma) in one)
    ∙ ap (λ (o : Option ℕ). parts_up_to tokens from o) (sym none)

-- ---- the square bracket around a token
-- so many square brackets are closed from here on that are not opened, and what was looked for came not before
pub record IsPastAt (tokens : List Token) (token at count : ℕ) : Type 0 where
  pub within : at ≤ token
  pub is : count + count_between (λ k. is_open_square (kind_of tokens k)) at token ≡ count_between (λ k. is_close_square (kind_of tokens k)) at token
  pub few : count + at ≤ token
  pub rest : last_below (is_around tokens token) at ≡ last_below (is_around tokens token) token

module _ (tokens : List Token) (token : ℕ) where
  pub past_first : IsPastAt tokens token token 0
  past_first =
      let no_open = count_none (λ k. is_open_square (kind_of tokens k)) token in
      let no_close = count_none (λ k. is_close_square (kind_of tokens k)) token in
      record { within = omega arith; is = omega arith; few = omega arith; rest = refl }

  found : (o : Option ℕ) → last_below (is_around tokens token) token ≡ o → square_at tokens o ≡ square_around tokens token
  unfolding square_around
  found o is = ap (λ (p : Option ℕ). square_at tokens p) (sym is)

  pub past_none : (at count : ℕ) → at ≤ 0 → IsPastAt tokens token at count → None ≡ square_around tokens token
  past_none at count none past = found None (sym past.rest ∙ last_none (is_around tokens token) at none)

  module _ (at count here : ℕ) (some : 0 < at) (is_here : here ≡ at - 1) (past : IsPastAt tokens token at count) where
    opens_first : count_between (λ k. is_open_square (kind_of tokens k)) here token ≡ one_where (is_open_square (kind_of tokens here)) + count_between (λ k. is_open_square (kind_of tokens k)) at token
    opens_first =
        let next : here + 1 ≡ at = omega arith in
        count_first (λ k. is_open_square (kind_of tokens k)) here token (omega (arith, past.within))
        ∙ ap (λ (n : ℕ). one_where (is_open_square (kind_of tokens here)) + count_between (λ k. is_open_square (kind_of tokens k)) n token) next

    closes_first : count_between (λ k. is_close_square (kind_of tokens k)) here token ≡ one_where (is_close_square (kind_of tokens here)) + count_between (λ k. is_close_square (kind_of tokens k)) at token
    closes_first =
        let next : here + 1 ≡ at = omega arith in
        count_first (λ k. is_close_square (kind_of tokens k)) here token (omega (arith, past.within))
        ∙ ap (λ (n : ℕ). one_where (is_close_square (kind_of tokens here)) + count_between (λ k. is_close_square (kind_of tokens k)) n token) next

    here_is : is_around tokens token here ≡ true → last_below (is_around tokens token) token ≡ Some here
    here_is holds =
        let at_here : is_around tokens token (at - 1) ≡ true = ap (λ (k : ℕ). is_around tokens token k) (sym is_here) ∙ holds in
        sym past.rest ∙ (last_here (is_around tokens token) at some at_here ∙ ap (λ (k : ℕ). Some k) (sym is_here))

    -- the statement ends here
    pub past_semi : is_semi (kind_of tokens here) ≡ true → None ≡ square_around tokens token
    unfolding is_around
    past_semi semi =
        let holds : is_around tokens token here ≡ true = ap (λ (b : Bool). b || is_open_from tokens token here) semi in
        sym (ap (λ (b : Bool). cond b None (Some here)) semi) ∙ found (Some here) (here_is holds)

    -- the bracket opens here
    pub past_opens : is_semi (kind_of tokens here) ≡ false → count ≡ 0 → is_open_square (kind_of tokens here) ≡ true → Some here ≡ square_around tokens token
    unfolding is_around
    past_opens fails none opens =
        let one = ap (λ (b : Bool). one_where b) opens in
        let zero_of : one_where (is_close_square (kind_of tokens here)) ≡ 0 = opens_only (kind_of tokens here) opens in
        let more : count_between (λ k. is_close_square (kind_of tokens k)) here token < count_between (λ k. is_open_square (kind_of tokens k)) here token = omega (arith, opens_first, closes_first, one, zero_of, past.is, none) in
        let open_from : is_open_from tokens token here ≡ true = lt-ltb (count_between (λ k. is_close_square (kind_of tokens k)) here token) (count_between (λ k. is_open_square (kind_of tokens k)) here token) more in
        let holds : is_around tokens token here ≡ true = ap (λ (b : Bool). b || is_open_from tokens token here) fails ∙ open_from in
        sym (ap (λ (b : Bool). cond b None (Some here)) fails) ∙ found (Some here) (here_is holds)
      where
        opens_only : (k : Kind) → is_open_square k ≡ true → one_where (is_close_square k) ≡ 0
        opens_only (Mark OpenSquare) is = refl
        opens_only (Mark CloseSquare) is = absurd (cc)
        opens_only (Mark _) is = refl
        opens_only _ is = refl

    -- neither
    pub past_more : (next : ℕ) → is_semi (kind_of tokens here) ≡ false → ((count ≡ 0) × (is_open_square (kind_of tokens here) ≡ true) → ⊥)
        → next + one_where (is_open_square (kind_of tokens here)) ≡ max (count + one_where (is_close_square (kind_of tokens here))) (one_where (is_open_square (kind_of tokens here))) → IsPastAt tokens token here next
    unfolding is_around
    past_more next fails not_open moves =
        let enough : one_where (is_open_square (kind_of tokens here)) ≤ count = kept (is_open_square (kind_of tokens here)) count not_open in
        let one = one_at_most (is_close_square (kind_of tokens here)) in
        let even : count_between (λ k. is_open_square (kind_of tokens k)) here token ≤ count_between (λ k. is_close_square (kind_of tokens k)) here token = omega (arith, opens_first, closes_first, enough, past.is) in
        let open_from : is_open_from tokens token here ≡ false = le-ltb (count_between (λ k. is_close_square (kind_of tokens k)) here token) (count_between (λ k. is_open_square (kind_of tokens k)) here token) even in
        let not_here : is_around tokens token here ≡ false = ap (λ (b : Bool). b || is_open_from tokens token here) fails ∙ open_from in
        let at_here : is_around tokens token (at - 1) ≡ false = ap (λ (k : ℕ). is_around tokens token k) (sym is_here) ∙ not_here in
        record {
          within = omega (arith, past.within);
          is = omega (arith, opens_first, closes_first, enough, past.is, moves);
          few = omega (arith, enough, one, past.few, moves);
          rest = ap (λ (k : ℕ). last_below (is_around tokens token) k) is_here ∙ (sym (last_before (is_around tokens token) at some at_here) ∙ past.rest);
        }
      where
        kept : (b : Bool) (count : ℕ) → ((count ≡ 0) × (b ≡ true) → ⊥) → one_where b ≤ count
        kept true zero not = absurd (not (refl, refl))
        kept true (suc n) not = omega arith
        kept false n not = omega arith
