-- Files that are read in order.
use Rattle.std.proofs.Common.{◌≡◌, ◌≢◌, ◌⊎◌, ◌≤◌, ℕ, true, false, List, Option, Some, None, nat_eq, refl, sym, ap, subst, ◌∙◌, inl, inr, arith}
use Rattle.std.specs.Prelude.{IsSome}
use Rattle.std.specs.Cmp.Lexicographic.{pointwise}
use Rattle.std.proofs.lemmas.Slice.Eq.{slice_eq-Decides}
use Rattle.std.proofs.lemmas.Bool.{false≢true}
use Rattle.std.proofs.lemmas.Bool.Decides.{Decides-eqb}
use Rattle.pr_edge.specs.Files.{IsReadOnce, View}
use Rattle.pr_tool_modes.specs.Calls.{IsOrderly}
use Rattle.pr_tool_modes.specs.Files.{IsInOrder}
use Rattle.pr_tool_modes.specs.Jobs.{IsNotBoth, IsApart}

-- ---- names
pub same_name : (p q : List ℕ) → (p ≡ q) ⊎ (p ≢ q)
same_name p q =
    let tells = slice_eq-Decides Decides-eqb p q _ refl in
    elim (pointwise nat_eq p q) as (λ b. pointwise nat_eq p q ≡ b → (p ≡ q) ⊎ (p ≢ q)) [
      | true ↦ λ e. inl (tells.0 e)
      | false ↦ λ e. inr (λ same. false≢true (sym e ∙ tells.1 same))
    ] refl

-- a name that may be there
pub some_name : (name : Option (List ℕ)) (q : List ℕ) → (name ≡ Some q) ⊎ (name ≢ Some q)
some_name None q = inr (λ same. cc)
some_name (Some name) q = elim (same_name name q) [ inl e ↦ inl (ap (λ n. Some n) e) | inr ne ↦ inr (λ same. ne (cc)) ]

-- ---- one call
pub order_kept : (before now : Option ℕ) → now ≡ before → IsInOrder before now
order_kept before now same = λ none. subst (λ (r : Option ℕ). IsSome r) (sym (same ∙ none)) refl

pub order_once : (most : ℕ) (before now : Option ℕ) → IsReadOnce most before now → IsInOrder before now
order_once most before now once = λ none. (once none).0

module _ (before now : List ℕ → Option ℕ) where
  -- a call that reads one file
  pub order_one : (name q : List ℕ) → IsInOrder (before name) (now name) → ((p : List ℕ) → p ≢ name → now p ≡ before p) → IsInOrder (before q) (now q)
  order_one name q once others = elim (same_name q name) [
    | inl e ↦ subst (λ (p : List ℕ). IsInOrder (before p) (now p)) (sym e) once
    | inr ne ↦ order_kept (before q) (now q) (others q ne)
  ]

  -- a call that reads a file that may be there
  pub order_some : (most : ℕ) (name : Option (List ℕ)) (q : List ℕ)
      → ((p : List ℕ) → name ≡ Some p → IsReadOnce most (before p) (now p)) → ((p : List ℕ) → name ≢ Some p → now p ≡ before p) → IsInOrder (before q) (now q)
  order_some most name q once others = elim (some_name name q) [
    | inl e ↦ order_once most (before q) (now q) (once q e)
    | inr ne ↦ order_kept (before q) (now q) (others q ne)
  ]

-- ---- two calls
-- the first reads a file that the second leaves, or it leaves what the second reads
pub order_then : (P : Type 0) (before mid now : Option ℕ) → (P ⊎ (P → ⊥)) → (P → IsInOrder before mid) → ((P → ⊥) → mid ≡ before) → (P → now ≡ mid) → ((P → ⊥) → IsInOrder mid now) → IsInOrder before now
order_then P before mid now (inl is) first others later second = λ none. subst (λ (r : Option ℕ). IsSome r) (sym (later is)) (first is none)
order_then P before mid now (inr other) first others later second = λ none. second other (others other ∙ none)

module _ (before mid now : List ℕ → Option ℕ) where
  -- the first reads one file
  pub order_after : (most : ℕ) (name q : List ℕ)
      → IsReadOnce most (before name) (mid name) → ((p : List ℕ) → p ≢ name → mid p ≡ before p) → (q ≡ name → now q ≡ mid q) → IsInOrder (mid q) (now q) → IsInOrder (before q) (now q)
  order_after most name q once others later second =
      order_then (q ≡ name) (before q) (mid q) (now q) (same_name q name)
      (λ e. subst (λ (p : List ℕ). IsInOrder (before p) (mid p)) (sym e) (order_once most (before name) (mid name) once))
      (others q) later (λ ne. second)

  -- the first reads a file that may be there, and the second one that is not the same
  pub order_both : (most : ℕ) (stall : Option (List ℕ)) (second q : List ℕ)
      → ((p : List ℕ) → stall ≡ Some p → IsReadOnce most (before p) (mid p)) → ((p : List ℕ) → stall ≢ Some p → mid p ≡ before p)
      → IsInOrder (mid second) (now second) → ((p : List ℕ) → p ≢ second → now p ≡ mid p) → (q ≡ second → stall ≢ Some q) → IsInOrder (before q) (now q)
  order_both most stall second q once others last rest apart =
      order_then (stall ≡ Some q) (before q) (mid q) (now q) (some_name stall q)
      (λ e. order_once most (before q) (mid q) (once q e))
      (others q) (λ e. rest q (λ is. apart is e)) (λ ne. order_one mid now second q last rest)

-- ---- whole calls
-- one file is read
pub orderly_one : (Once Other : List ℕ → Type 0) (before now : View) (name : List ℕ)
    → now.told ≡ before.told → IsInOrder (before.reach name) (now.reach name) → ((p : List ℕ) → p ≢ name → now.reach p ≡ before.reach p) → before.faults ≤ now.faults
    → ((q : List ℕ) → Other q → q ≢ name) → IsOrderly Once Other before now
orderly_one Once Other before now name told once others later apart = record {
  told = told;
  once = λ q is. order_one before.reach now.reach name q once others;
  others = λ q other. others q (apart q other);
  later = later;
}

-- one file is read, and then others
pub orderly_after : (Once Other Then Rest : List ℕ → Type 0) (before mid now : View) (most : ℕ) (name : List ℕ)
    → mid.told ≡ before.told → IsReadOnce most (before.reach name) (mid.reach name) → ((p : List ℕ) → p ≢ name → mid.reach p ≡ before.reach p) → before.faults ≤ mid.faults
    → IsOrderly Then Rest mid now → ((q : List ℕ) → Once q → (q ≡ name → Rest q) × Then q) → ((q : List ℕ) → Other q → (q ≢ name) × Rest q) → IsOrderly Once Other before now
orderly_after Once Other Then Rest before mid now most name told once others later next named apart = record {
  told = next.told ∙ told;
  once = λ q is. order_after before.reach mid.reach now.reach most name q once others (λ e. next.others q ((named q is).0 e)) (next.once q (named q is).1);
  others = λ q other. next.others q (apart q other).1 ∙ others q (apart q other).0;
  later = (let more = next.later in omega (arith, later, more));
}

-- a stall text is read, if there is one
module _ (before mid : View) (most : ℕ) (stall : Option (List ℕ)) (second : List ℕ) (told : mid.told ≡ before.told)
    (once : (p : List ℕ) → stall ≡ Some p → IsReadOnce most (before.reach p) (mid.reach p)) (others : (p : List ℕ) → stall ≢ Some p → mid.reach p ≡ before.reach p) (later : before.faults ≤ mid.faults) where
  pub orderly_some : IsOrderly (IsNotBoth second stall) (IsApart second stall) before mid
  orderly_some = record {
    told = told;
    once = λ q apart. order_some before.reach mid.reach most stall q once others;
    others = λ q apart. others q apart.1;
    later = later;
  }

  -- and then the samples
  pub orderly_both : (now : View) → now.told ≡ mid.told → IsInOrder (mid.reach second) (now.reach second) → ((p : List ℕ) → p ≢ second → now.reach p ≡ mid.reach p) → mid.faults ≤ now.faults
      → IsOrderly (IsNotBoth second stall) (IsApart second stall) before now
  orderly_both now same last rest more = record {
    told = same ∙ told;
    once = λ q apart. order_both before.reach mid.reach now.reach most stall second q once others last rest apart;
    others = λ q apart. rest q apart.0 ∙ others q apart.1;
    later = omega (arith, later, more);
  }
