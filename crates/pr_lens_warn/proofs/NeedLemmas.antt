-- Marks, one set after the other.
use Rattle.std.proofs.Common.{◌≡◌, ◌∙◌, ◌+◌, ◌<◌, ◌≤◌, ◌++◌, ℕ, zero, suc, Bool, true, false, List, [], ◌∷◌, length, map, take, drop, get_or, set, inl, inr, refl, sym, ap, subst, arith, get_or-set_same, get_or-set_other}
use Rattle.std.specs.Prelude.{not}
use Rattle.std.proofs.lemmas.Bool.{cases_eq, cases_lt}
use Rattle.std.proofs.lemmas.List.{length-map, take-append-le, take_all}
use Rattle.std.proofs.lemmas.List.Sums.{sum_by-set}
use Rattle.pr_lang.specs.declared.tokens.Token.{Token}
use Rattle.pr_lens_source.specs.declared.sources.Span.{Span}
use Rattle.pr_lens_source.specs.Kinds.{yields}
use Rattle.pr_lens_source.specs.Ranges.{one_where}
use Rattle.pr_lens_source.specs.Tokens.{kind_of}
use Rattle.pr_lens_warn.specs.Needs.{AreNeeded, AreSettled, AreSound, IsNeeded, IsSettled, IsUnusedBetween, IsUsed, Yields, Serves, is_assigned, is_marked, unmarked}

-- a mark that is set is one less that is not
pub marked_fewer : (marks : List Bool) (at : ℕ) → at < length marks → is_marked marks at ≡ false → unmarked (set marks at true) + 1 ≡ unmarked marks
marked_fewer marks at less unset =
    let sums : unmarked (set marks at true) + one_where (not (get_or marks at false)) ≡ unmarked marks + one_where (not true) = sum_by-set (λ (b : Bool). one_where (not b)) marks at true false less in
    let one : one_where (not (get_or marks at false)) ≡ one_where true = ap (λ (b : Bool). one_where (not b)) unset in
    omega (arith, sums, one)

-- a list that is written back whole
pub written_back : (n : ℕ) (olds news : List Bool) → n ≡ length news → take n (news ++ drop (length news) olds) ≡ news
written_back n olds news long =
    take-append-le n news (drop (length news) olds) (omega (arith, long)) ∙ take_all n news (omega (arith, long))

pub marked_kept : (marks : List Bool) (at k : ℕ) → at < length marks → is_marked marks k ≡ true → is_marked (set marks at true) k ≡ true
marked_kept marks at k less held = elim (cases_eq k at) [
  | inl same ↦ rw same (get_or-set_same marks at true false less)
  | inr other ↦ get_or-set_other marks at k true false other ∙ held
]

-- the words before results
yields_at : (tokens : List Token) (k : ℕ) → get_or (map (λ (t : Token). yields t.kind) tokens) k false ≡ yields (kind_of tokens k)
yields_at [] zero = refl
yields_at [] (suc k) = refl
yields_at (t ∷ ts) zero = refl
yields_at (t ∷ ts) (suc k) = yields_at ts k

module _ (text : List ℕ) (tokens : List Token) (spans : List Span) where
  pub used_nowhere : (marks : List Bool) (assigned : ℕ) → length marks ≡ length tokens → IsUnusedBetween text tokens spans marks assigned (length marks) assigned → IsUnusedBetween text tokens spans marks 0 assigned assigned → IsUsed text tokens spans marks assigned → ⊥
  used_nowhere marks assigned count behind before used = elim (cases_lt used.by assigned) [
    | inl less ↦ before used.by (omega arith) less used.marked used.uses
    | inr past ↦ behind used.by past (omega (arith, count, used.uses.behind, used.uses.within)) used.marked used.uses
  ]

  pub sound_more : (marks : List Bool) (at : ℕ) → at < length marks → AreSound text tokens spans marks → is_assigned tokens at ≡ true → IsUsed text tokens spans marks at → AreSound text tokens spans (set marks at true)
  sound_more marks at less sound assigned used k held = elim (cases_eq k at) [
    | inl same ↦ subst (λ (n : ℕ). IsNeeded text tokens spans n) (sym same) (Serves used.by at (sound used.by used.marked) assigned used.uses)
    | inr other ↦ sound k (sym (get_or-set_other marks at k true false other) ∙ held)
  ]

  pub settled_more : (marks : List Bool) (at next : ℕ) → next ≤ at + 1 → AreSettled text tokens spans marks next → IsSettled text tokens spans marks at → AreSettled text tokens spans marks at
  settled_more marks at next near rest here k low high = elim (cases_eq k at) [
    | inl same ↦ subst (λ (n : ℕ). IsSettled text tokens spans marks n) (sym same) here
    | inr other ↦ rest k (omega arith) high
  ]

  module _ (firsts news : List Bool) (begun : firsts ≡ map (λ (t : Token). yields t.kind) tokens) where
    pub first_count : length firsts ≡ length tokens
    first_count = ap (λ (marks : List Bool). length marks) begun ∙ length-map tokens (λ (t : Token). yields t.kind)

    first_mark : (k : ℕ) → is_marked firsts k ≡ yields (kind_of tokens k)
    first_mark k = ap (λ (marks : List Bool). get_or marks k false) begun ∙ yields_at tokens k

    pub first_sound : AreSound text tokens spans firsts
    first_sound k held = Yields k (sym (first_mark k) ∙ held)

    module _ (kept : (k : ℕ) → is_marked firsts k ≡ true → is_marked news k ≡ true) (settled : AreSettled text tokens spans news 0) where
      needed_marked : (k : ℕ) → k < length tokens → IsNeeded text tokens spans k → is_marked news k ≡ true
      needed_marked k less (Yields i gives) = kept i (first_mark i ∙ gives)
      needed_marked k less (Serves j i need assigned uses) =
          let before : j < length tokens = omega (arith, uses.behind, uses.within) in
          settled i (omega arith) less j (needed_marked j before need) assigned uses

      pub are_needed : (marks : List Bool) → length news ≡ length firsts → AreSound text tokens spans news → marks ≡ news → AreNeeded text tokens spans marks
      are_needed marks long sound same = rw same (record { count = long ∙ first_count; sound = sound; all = needed_marked })
