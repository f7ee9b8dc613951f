-- Names with their indices.
use Rattle.std.proofs.Common.{◌≡◌, ◌∙◌, ◌+◌, ◌-◌, ◌<◌, ◌≤◌, ◌++◌, ◌&&◌, ◌||◌, ◌==◌, [], ℕ, suc, Bool, true, false, cond, List, Option, None, Some, refl, sym, ap, append_assoc, arith}
use Rattle.std.specs.Prelude.{is_none, is_some, not}
use Rattle.std.specs.List.{flat_map, range_with_len}
use Rattle.std.proofs.lemmas.Bool.Decides.{nat_tests}
use Rattle.std.proofs.lemmas.List.{append-nil}
use Rattle.pr_lang.specs.declared.tokens.Token.{Token}
use Rattle.pr_lens_source.specs.Kinds.{is_semi}
use Rattle.pr_lens_source.specs.Ranges.{first_between, last_below}
use Rattle.pr_lens_source.specs.Tokens.{kind_of, bytes_of}
use Rattle.pr_lens_source.proofs.RangeLemmas.{first_none, first_here, first_later, last_none, last_here, last_before}
use Rattle.pr_lens_names.specs.Brackets.{last_of}
use Rattle.pr_lens_names.specs.Instances.{differs_behind, is_about_target, is_same_instance, is_target, is_target_word, may_assign, may_be_assigned, target_around, target_behind, tokens_text}

-- ---- tokens
pub tokens_none : (text : List ℕ) (tokens : List Token) (from to : ℕ) → to ≤ from → tokens_text text tokens from to ≡ []
unfolding tokens_text
tokens_none text tokens from to past = let none : to - from ≡ 0 = omega arith in ap (λ (n : ℕ). flat_map (bytes_of text tokens) (range_with_len from n)) none

tokens_first : (text : List ℕ) (tokens : List Token) (from to : ℕ) → from < to → tokens_text text tokens from to ≡ bytes_of text tokens from ++ tokens_text text tokens (from + 1) to
unfolding tokens_text
tokens_first text tokens from to less = let more : to - from ≡ suc (to - (from + 1)) = omega arith in ap (λ (n : ℕ). flat_map (bytes_of text tokens) (range_with_len from n)) more

pub tokens_more : (text : List ℕ) (tokens : List Token) (from to : ℕ) (before next whole : List ℕ) → from < to → next ≡ before ++ bytes_of text tokens from
    → before ++ tokens_text text tokens from to ≡ whole → next ++ tokens_text text tokens (from + 1) to ≡ whole
tokens_more text tokens from to before next whole less is rest =
    ap (λ (bytes : List ℕ). bytes ++ tokens_text text tokens (from + 1) to) is
    ∙ (append_assoc before (bytes_of text tokens from) (tokens_text text tokens (from + 1) to)
    ∙ (ap (λ (bytes : List ℕ). before ++ bytes) (sym (tokens_first text tokens from to less)) ∙ rest))

pub tokens_all : (text : List ℕ) (tokens : List Token) (from to : ℕ) (now whole : List ℕ) → to ≤ from → now ++ tokens_text text tokens from to ≡ whole → now ≡ whole
tokens_all text tokens from to now whole past rest =
    sym (append-nil now) ∙ (ap (λ (bytes : List ℕ). now ++ bytes) (sym (tokens_none text tokens from to past)) ∙ rest)

-- ---- the same names
module _ (text : List ℕ) (tokens : List Token) (one other : ℕ) where
  -- so many tokens behind
  abbrev pub behind : ℕ
  behind = last_of tokens one - one

  as_many : (count : ℕ) → count ≡ behind → last_of tokens other - other ≡ count → (last_of tokens other - other == behind) ≡ true
  as_many count is same = grind (arith, nat_tests)

  pub other_many : (count : ℕ) → count ≡ behind → (last_of tokens other - other ≡ count → ⊥) → false ≡ is_same_instance text tokens one other
  unfolding is_same_instance
  other_many count is not =
      let differs : (last_of tokens other - other == behind) ≡ false = grind (arith, nat_tests) in
      sym (ap (λ (b : Bool). b && is_none (first_between (differs_behind text tokens one other) 0 (behind + 1))) differs)

  pub same_by : (answer : Bool) (count : ℕ) → count ≡ behind → last_of tokens other - other ≡ count
      → answer ≡ is_none (first_between (differs_behind text tokens one other) 0 (count + 1)) → answer ≡ is_same_instance text tokens one other
  unfolding is_same_instance
  same_by answer count is same by =
      by
      ∙ (ap (λ (n : ℕ). is_none (first_between (differs_behind text tokens one other) 0 (n + 1))) is
      ∙ sym (ap (λ (b : Bool). b && is_none (first_between (differs_behind text tokens one other) 0 (behind + 1))) (as_many count is same)))

  -- one that differs, and the last of them
  pub differs_here : (number count : ℕ) → number < count → differs_behind text tokens one other number ≡ true
      → first_between (differs_behind text tokens one other) number (count + 1) ≡ first_between (differs_behind text tokens one other) 0 (count + 1)
      → false ≡ is_none (first_between (differs_behind text tokens one other) 0 (count + 1))
  differs_here number count less here rest =
      sym (ap (λ (o : Option ℕ). is_none o) (sym rest ∙ first_here (differs_behind text tokens one other) number (count + 1) (omega arith) here))

  pub differs_last : (number count : ℕ) (b : Bool) → number ≡ count → differs_behind text tokens one other count ≡ b
      → first_between (differs_behind text tokens one other) number (count + 1) ≡ first_between (differs_behind text tokens one other) 0 (count + 1)
      → not b ≡ is_none (first_between (differs_behind text tokens one other) 0 (count + 1))
  differs_last number count true is here rest =
      sym (ap (λ (o : Option ℕ). is_none o) (sym rest ∙ (ap (λ (n : ℕ). first_between (differs_behind text tokens one other) n (count + 1)) is ∙ first_here (differs_behind text tokens one other) count (count + 1) (omega arith) here)))
  differs_last number count false is here rest =
      sym (ap (λ (o : Option ℕ). is_none o) (sym rest ∙ (ap (λ (n : ℕ). first_between (differs_behind text tokens one other) n (count + 1)) is
      ∙ (first_later (differs_behind text tokens one other) count (count + 1) (omega arith) here ∙ first_none (differs_behind text tokens one other) (count + 1) (count + 1) (omega arith)))))

-- ---- targets
module _ (tokens : List Token) (token at : ℕ) (some : 0 < at) (rest : last_below (is_about_target tokens) at ≡ last_below (is_about_target tokens) token) where
  found : (o : Option ℕ) → last_below (is_about_target tokens) token ≡ o → target_behind tokens o ≡ target_around tokens token
  unfolding target_around
  found o is = ap (λ (p : Option ℕ). target_behind tokens p) (sym is)

  about : is_about_target tokens (at - 1) ≡ true → last_below (is_about_target tokens) token ≡ Some (at - 1)
  about here = sym rest ∙ last_here (is_about_target tokens) at some here

  pub target_ends : is_semi (kind_of tokens (at - 1)) ≡ true → None ≡ target_around tokens token
  target_ends semi =
      let here : is_about_target tokens (at - 1) ≡ true = or_true (is_target_word (kind_of tokens (at - 1))) (is_semi (kind_of tokens (at - 1))) semi in
      sym (ap (λ (b : Bool). cond b None (Some (at - 1 + 1))) semi) ∙ found (Some (at - 1)) (about here)
    where
      or_true : (a b : Bool) → b ≡ true → (a || b) ≡ true
      or_true true b is = refl
      or_true false b is = is

  pub target_here : is_semi (kind_of tokens (at - 1)) ≡ false → is_target_word (kind_of tokens (at - 1)) ≡ true → Some (at - 1 + 1) ≡ target_around tokens token
  target_here semi word =
      let here : is_about_target tokens (at - 1) ≡ true = ap (λ (b : Bool). b || is_semi (kind_of tokens (at - 1))) word in
      sym (ap (λ (b : Bool). cond b None (Some (at - 1 + 1))) semi) ∙ found (Some (at - 1)) (about here)

  pub target_before : is_semi (kind_of tokens (at - 1)) ≡ false → is_target_word (kind_of tokens (at - 1)) ≡ false
      → last_below (is_about_target tokens) (at - 1) ≡ last_below (is_about_target tokens) token
  target_before semi word =
      let here : is_about_target tokens (at - 1) ≡ false = ap (λ (b : Bool). b || is_semi (kind_of tokens (at - 1))) word ∙ semi in
      sym (last_before (is_about_target tokens) at some here) ∙ rest

pub target_none : (tokens : List Token) (token at : ℕ) → at ≤ 0 → last_below (is_about_target tokens) at ≡ last_below (is_about_target tokens) token → None ≡ target_around tokens token
unfolding target_around
target_none tokens token at none rest = ap (λ (p : Option ℕ). target_behind tokens p) (sym (sym rest ∙ last_none (is_about_target tokens) at none))

-- ---- assignments
module _ (text : List ℕ) (tokens : List Token) (name : ℕ) (target : Option ℕ) (place : ℕ) where
  abbrev pub assigns : ℕ → Bool
  assigns k = not (is_target target k) && may_assign text tokens name place k

  pub assigned_here : (at : ℕ) → at < name → is_target target at ≡ false → may_assign text tokens name place at ≡ true
      → first_between assigns at name ≡ first_between assigns 0 name → true ≡ may_be_assigned text tokens name target place
  unfolding may_be_assigned
  assigned_here at less other here rest =
      let assigns_here : assigns at ≡ true = ap (λ (b : Bool). not b && may_assign text tokens name place at) other ∙ here in
      ap (λ (o : Option ℕ). is_some o) (sym (sym rest ∙ first_here assigns at name less assigns_here))

  pub assigned_none : (at : ℕ) → name ≤ at → first_between assigns at name ≡ first_between assigns 0 name → false ≡ may_be_assigned text tokens name target place
  unfolding may_be_assigned
  assigned_none at past rest = ap (λ (o : Option ℕ). is_some o) (sym (sym rest ∙ first_none assigns at name past))

  pub assigned_later : (at : ℕ) → at < name → assigns at ≡ false → first_between assigns at name ≡ first_between assigns 0 name → first_between assigns (at + 1) name ≡ first_between assigns 0 name
  assigned_later at less here rest = sym (first_later assigns at name less here) ∙ rest

  pub target_no : (at : ℕ) → is_target target at ≡ true → assigns at ≡ false
  target_no at is = ap (λ (b : Bool). not b && may_assign text tokens name place at) is

  pub assign_no : (at : ℕ) → is_target target at ≡ false → may_assign text tokens name place at ≡ false → assigns at ≡ false
  assign_no at other not_here = ap (λ (b : Bool). not b && may_assign text tokens name place at) other ∙ not_here
