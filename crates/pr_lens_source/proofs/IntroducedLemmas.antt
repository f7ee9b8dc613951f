-- Where a block is closed.
use Rattle.std.proofs.Common.{◌≡◌, ◌∙◌, ◌+◌, ◌-◌, ◌<◌, ◌≤◌, ◌&&◌, ℕ, Bool, true, false, List, Option, None, Some, max, inl, inr, refl, sym, ap, arith}
use Rattle.std.specs.Prelude.{is_some, nat_le, not}
use Rattle.std.proofs.lemmas.Bool.{cases_lt, le-leb, lt-leb}
use Rattle.pr_lang.specs.declared.tokens.Kind.{Kind}
use Rattle.pr_lang.specs.declared.tokens.Kind.TheVariants.{Mark}
use Rattle.pr_lang.specs.declared.tokens.Symbol.TheVariants.{OpenCurly}
use Rattle.pr_lang.specs.declared.tokens.Token.{Token}
use Rattle.pr_lens_source.specs.Introduced.{opened_curly, closed_curly, closes_block, is_closed, is_parameter, opens_parameters}
use Rattle.pr_lens_source.specs.Kinds.{is_close_curly, is_of_parameters, is_open_curly}
use Rattle.pr_lens_source.specs.Ranges.{first_between, last_below, one_where}
use Rattle.pr_lens_source.specs.Tokens.{kind_of}
use Rattle.pr_lens_source.proofs.RangeLemmas.{count_none, count_last, first_none, first_here, first_later, last_none, last_here, last_before, one_at_most}

not_both : (k : Kind) → is_close_curly k ≡ true → one_where (is_open_curly k) ≡ 0
not_both (Mark OpenCurly) closes = absurd (cc)
not_both (Mark _) closes = refl
not_both _ closes = refl

deeper : (depth : ℕ) → ((depth ≤ 1) × (true ≡ true) → ⊥) → 1 < depth
deeper depth not = elim (cases_lt 1 depth) [ inl more ↦ more | inr less ↦ absurd (not (less, refl)) ]

-- so many blocks are open before a token, and none was closed before it but those within another one
pub record IsBlockAt (tokens : List Token) (from to at depth : ℕ) : Type 0 where
  pub is : depth + closed_curly tokens from at ≡ opened_curly tokens from at
  pub few : opened_curly tokens from at + from ≤ at
  pub rest : first_between (closes_block tokens from) at to ≡ first_between (closes_block tokens from) from to

module _ (tokens : List Token) (from to : ℕ) where
  pub block_first : IsBlockAt tokens from to from 0
  block_first =
      let no_open = count_none (λ k. is_open_curly (kind_of tokens k)) from in
      let no_close = count_none (λ k. is_close_curly (kind_of tokens k)) from in
      record { is = omega arith; few = omega arith; rest = refl }

  pub block_none : (at depth : ℕ) → to ≤ at → IsBlockAt tokens from to at depth → false ≡ is_closed tokens from to
  unfolding is_closed
  block_none at depth past block = ap (λ (o : Option ℕ). is_some o) (sym (sym block.rest ∙ first_none (closes_block tokens from) at to past))

  module _ (at depth : ℕ) (order : from ≤ at) (less : at < to) (block : IsBlockAt tokens from to at depth) where
    opens_more : opened_curly tokens from (at + 1) ≡ opened_curly tokens from at + one_where (is_open_curly (kind_of tokens at))
    opens_more = count_last (λ k. is_open_curly (kind_of tokens k)) from at order

    closes_more : closed_curly tokens from (at + 1) ≡ closed_curly tokens from at + one_where (is_close_curly (kind_of tokens at))
    closes_more = count_last (λ k. is_close_curly (kind_of tokens k)) from at order

    opens_nothing : is_close_curly (kind_of tokens at) ≡ true → one_where (is_open_curly (kind_of tokens at)) ≡ 0
    opens_nothing closes = not_both (kind_of tokens at) closes

    pub block_closes : depth ≤ 1 → is_close_curly (kind_of tokens at) ≡ true → true ≡ is_closed tokens from to
    unfolding is_closed closes_block
    block_closes last closes =
        let one = ap (λ (b : Bool). one_where b) closes in
        let none = opens_nothing closes in
        let even : opened_curly tokens from (at + 1) ≤ closed_curly tokens from (at + 1) = omega (arith, opens_more, closes_more, one, none, block.is, last) in
        let here : closes_block tokens from at ≡ true = ap (λ (b : Bool). b && nat_le (opened_curly tokens from (at + 1)) (closed_curly tokens from (at + 1))) closes ∙ le-leb (opened_curly tokens from (at + 1)) (closed_curly tokens from (at + 1)) even in
        ap (λ (o : Option ℕ). is_some o) (sym (sym block.rest ∙ first_here (closes_block tokens from) at to less here))

    pub block_more : (next : ℕ) (closes : Bool) → closes ≡ is_close_curly (kind_of tokens at) → ((depth ≤ 1) × (closes ≡ true) → ⊥)
        → next + one_where closes ≡ max (depth + one_where (is_open_curly (kind_of tokens at))) (one_where closes) → IsBlockAt tokens from to (at + 1) next
    unfolding closes_block
    block_more next true is not moves =
        let one = ap (λ (b : Bool). one_where b) is in
        let none = opens_nothing (sym is) in
        let deep : 1 < depth = deeper depth not in
        let odd : closed_curly tokens from (at + 1) < opened_curly tokens from (at + 1) = omega (arith, opens_more, closes_more, one, none, block.is, deep) in
        let here : closes_block tokens from at ≡ false = ap (λ (b : Bool). b && nat_le (opened_curly tokens from (at + 1)) (closed_curly tokens from (at + 1))) (sym is) ∙ lt-leb (opened_curly tokens from (at + 1)) (closed_curly tokens from (at + 1)) odd in
        record {
          is = omega (arith, opens_more, closes_more, one, none, block.is, deep, moves);
          few = omega (arith, opens_more, none, block.few);
          rest = sym (first_later (closes_block tokens from) at to less here) ∙ block.rest;
        }
    block_more next false is not moves =
        let zero_of = ap (λ (b : Bool). one_where b) is in
        let one = one_at_most (is_open_curly (kind_of tokens at)) in
        let here : closes_block tokens from at ≡ false = ap (λ (b : Bool). b && nat_le (opened_curly tokens from (at + 1)) (closed_curly tokens from (at + 1))) (sym is) in
        record {
          is = omega (arith, opens_more, closes_more, zero_of, block.is, moves);
          few = omega (arith, opens_more, one, block.few);
          rest = sym (first_later (closes_block tokens from) at to less here) ∙ block.rest;
        }

-- ---- parameters
abbrev pub is_other : List Token → ℕ → Bool
is_other tokens k = not (is_of_parameters (kind_of tokens k))

module _ (tokens : List Token) (at before : ℕ) (rest : last_below (is_other tokens) before ≡ last_below (is_other tokens) at) where
  found : (o : Option ℕ) → last_below (is_other tokens) at ≡ o → opens_parameters tokens o ≡ is_parameter tokens at
  unfolding is_parameter
  found o is = ap (λ (p : Option ℕ). opens_parameters tokens p) (sym is)

  pub parameter_here : 0 < before → is_of_parameters (kind_of tokens (before - 1)) ≡ false → opens_parameters tokens (Some (before - 1)) ≡ is_parameter tokens at
  parameter_here some fails = found (Some (before - 1)) (sym rest ∙ last_here (is_other tokens) before some (ap (λ (b : Bool). not b) fails))

  pub parameter_before : 0 < before → is_of_parameters (kind_of tokens (before - 1)) ≡ true → last_below (is_other tokens) (before - 1) ≡ last_below (is_other tokens) at
  parameter_before some holds = sym (last_before (is_other tokens) before some (ap (λ (b : Bool). not b) holds)) ∙ rest

  pub parameter_none : before ≤ 0 → false ≡ is_parameter tokens at
  parameter_none none = found None (sym rest ∙ last_none (is_other tokens) before none)
