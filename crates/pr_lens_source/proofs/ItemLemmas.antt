-- The items of the tokens so far.
use Rattle.std.proofs.Common.{◌≡◌, ◌∙◌, ◌+◌, ◌-◌, ◌<◌, ◌≤◌, ◌==◌, ◌&&◌, ◌++◌, ◌∷◌, [], ℕ, suc, true, false, fold, List, None, length, map, refl, sym, ap, subst, arith}
use Rattle.std.specs.List.{range_with_len}
use Rattle.std.proofs.lemmas.Grind.{fold-append}
use Rattle.std.proofs.lemmas.List.{map_push}
use Rattle.pr_lang.specs.declared.tokens.Kind.{Kind}
use Rattle.pr_lang.specs.declared.tokens.Token.{Token}
use Rattle.pr_lens_source.specs.declared.sources.Span.{Span}
use Rattle.pr_lens_source.specs.Depths.{depth_after}
use Rattle.pr_lens_source.specs.Items.{AreItems, IsItem, depth_between, ends_item, is_item_end}
use Rattle.pr_lens_source.specs.Ranges.{first_between}
use Rattle.pr_lens_source.specs.Tokens.{kind_of}
use Rattle.pr_lens_source.proofs.RangeLemmas.{first_none, first_here, first_later, range_more}

-- items from one token up to another
abbrev pub AreItemsUpTo : List Token → ℕ → ℕ → List Span → Type 0
AreItemsUpTo tokens from to [] = from ≡ to
AreItemsUpTo tokens from to (span ∷ spans) = IsItem tokens from span × AreItemsUpTo tokens (span.last + 1) to spans

module _ (tokens : List Token) where
  pushed : (from to : ℕ) (spans : List Span) (span : Span) → AreItemsUpTo tokens from to spans → IsItem tokens to span → AreItemsUpTo tokens from (span.last + 1) (spans ++ span ∷ [])
  pushed from to [] span are is = (subst (λ (k : ℕ). IsItem tokens k span) (sym are) is, refl)
  pushed from to (first ∷ spans) span are is = (are.0, pushed (first.last + 1) to spans span are.1 is)

  all_items : (from to : ℕ) (spans : List Span) → AreItemsUpTo tokens from to spans → first_between (is_item_end tokens to) to (length tokens) ≡ None → AreItems tokens from spans
  all_items from to [] are none = subst (λ (k : ℕ). first_between (is_item_end tokens k) k (length tokens) ≡ None) (sym are) none
  all_items from to (first ∷ spans) are none = (are.0, all_items (first.last + 1) to spans are.1 none)

  depth_none : (at : ℕ) → depth_between tokens at at ≡ 0
  unfolding depth_between
  depth_none at = let none : at - at ≡ 0 = omega arith in ap (λ (n : ℕ). fold depth_after 0 (map (kind_of tokens) (range_with_len at n))) none

  depth_more : (from at : ℕ) → from ≤ at → depth_between tokens from (at + 1) ≡ depth_after (depth_between tokens from at) (kind_of tokens at)
  unfolding depth_between
  depth_more from at order =
      let more : at + 1 - from ≡ suc (at - from) = omega arith in
      let same : from + (at - from) ≡ at = omega arith in
      ap (λ (n : ℕ). fold depth_after 0 (map (kind_of tokens) (range_with_len from n))) more
      ∙ (ap (λ (ks : List ℕ). fold depth_after 0 (map (kind_of tokens) ks)) (range_more from (at - from))
      ∙ (ap (λ (kinds : List Kind). fold depth_after 0 kinds) (map_push (kind_of tokens) (range_with_len from (at - from)) (from + (at - from)))
      ∙ (fold-append depth_after 0 (map (kind_of tokens) (range_with_len from (at - from))) (kind_of tokens (from + (at - from)) ∷ [])
      ∙ ap (λ (k : ℕ). depth_after (fold depth_after 0 (map (kind_of tokens) (range_with_len from (at - from)))) (kind_of tokens k)) same)))

-- these are the items up to one token, and the next one does not end before another token, before which brackets are open so deep
pub record AreItemsSoFar (tokens : List Token) (first at depth : ℕ) (spans : List Span) : Type 0 where
  pub order : first ≤ at
  pub depth_is : depth ≡ depth_between tokens first at
  pub rest : first_between (is_item_end tokens first) at (length tokens) ≡ first_between (is_item_end tokens first) first (length tokens)
  pub items : AreItemsUpTo tokens 0 first spans

module _ (tokens : List Token) where
  pub items_first : AreItemsSoFar tokens 0 0 0 []
  items_first = record { order = omega arith; depth_is = sym (depth_none tokens 0); rest = refl; items = refl }

  pub items_all : (first at depth : ℕ) (spans : List Span) → length tokens ≤ at → AreItemsSoFar tokens first at depth spans → AreItems tokens 0 spans
  items_all first at depth spans past so_far = all_items tokens 0 first spans so_far.items (sym so_far.rest ∙ first_none (is_item_end tokens first) at (length tokens) past)

  module _ (first at depth next : ℕ) (spans : List Span) (kind first_kind : Kind) (less : at < length tokens) (so_far : AreItemsSoFar tokens first at depth spans)
      (is_kind : kind ≡ kind_of tokens at) (is_first_kind : first_kind ≡ kind_of tokens first) (is_next : next ≡ depth_after depth kind) where
    deeper : next ≡ depth_between tokens first (at + 1)
    deeper =
        is_next
        ∙ (ap (λ (k : Kind). depth_after depth k) is_kind
        ∙ (ap (λ (d : ℕ). depth_after d (kind_of tokens at)) so_far.depth_is ∙ sym (depth_more tokens first at so_far.order)))

    is_end : is_item_end tokens first at ≡ ((next == 0) && ends_item first_kind kind)
    unfolding is_item_end
    is_end =
        ap (λ (d : ℕ). (d == 0) && ends_item (kind_of tokens first) (kind_of tokens at)) (sym deeper)
        ∙ (ap (λ (k : Kind). (next == 0) && ends_item k (kind_of tokens at)) (sym is_first_kind)
        ∙ ap (λ (k : Kind). (next == 0) && ends_item first_kind k) (sym is_kind))

    pub items_push : ((next == 0) && ends_item first_kind kind) ≡ true → next ≡ 0
        → AreItemsSoFar tokens (at + 1) (at + 1) next (spans ++ record { first = first; last = at } ∷ [])
    items_push ends flat =
        let here = first_here (is_item_end tokens first) at (length tokens) less (is_end ∙ ends) in
        let is : IsItem tokens first (record { first = first; last = at }) = record { first = refl; last = sym so_far.rest ∙ here } in
        record {
          order = omega arith;
          depth_is = flat ∙ sym (depth_none tokens (at + 1));
          rest = refl;
          items = pushed tokens 0 first spans (record { first = first; last = at }) so_far.items is;
        }

    pub items_more : ((next == 0) && ends_item first_kind kind) ≡ false → AreItemsSoFar tokens first (at + 1) next spans
    items_more ends = record {
      order = omega (arith, so_far.order);
      depth_is = deeper;
      rest = sym (first_later (is_item_end tokens first) at (length tokens) less (is_end ∙ ends)) ∙ so_far.rest;
      items = so_far.items;
    }
