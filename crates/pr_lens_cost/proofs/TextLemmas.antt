-- Pieces of a text, and the fullest stage so far.
use Rattle.std.proofs.Common.{◌≡◌, ◌++◌, ◌+◌, ◌<◌, ◌≤◌, ℕ, List, [], length, get_or, inl, inr, ap, append_assoc, arith}
use Rattle.std.proofs.lemmas.Bool.{cases_lt}
use Rattle.std.proofs.lemmas.List.{get_or-map}
use Rattle.pr_lens_cost.specs.declared.counts.StageCost.{StageCost}
use Rattle.pr_lens_cost.specs.Texts.{cells_of}

-- ---- pieces, one after the other
pub seven_put : (t a b c d e f g : List ℕ) {t1 t2 t3 t4 : List ℕ} → t1 ≡ t ++ a ++ b → t2 ≡ t1 ++ c ++ d → t3 ≡ t2 ++ e ++ f → t4 ≡ t3 ++ g
    → t4 ≡ t ++ (a ++ b ++ c ++ d ++ e ++ f ++ g)
seven_put t a b c d e f g h1 h2 h3 h4 = rw (h4, h3, h2, h1) (simp append_assoc)

pub object_put : (a b c d e f : List ℕ) {t0 t1 t2 t3 t4 : List ℕ} → t0 ≡ [] → t1 ≡ t0 ++ a → t2 ≡ t1 ++ b ++ c ++ d → t3 ≡ t2 ++ e → t4 ≡ t3 ++ f
    → t4 ≡ a ++ b ++ c ++ d ++ e ++ f
object_put a b c d e f h0 h1 h2 h3 h4 = rw (h4, h3, h2, h1, h0) (simp append_assoc)

-- ---- the fullest stage
-- among the first so many stages this one is the first that has most in use; where none has anything, it is the first of all
pub record IsFullestBefore (stages : List StageCost) (count number cells : ℕ) : Type 0 where
  pub has : 0 < cells → (number < count) × (get_or (cells_of stages) number 0 ≡ cells)
  pub none : cells ≡ 0 → number ≡ 0
  pub most : (k : ℕ) → k < count → get_or (cells_of stages) k 0 ≤ cells
  pub first : (k : ℕ) → k < number → get_or (cells_of stages) k 0 < cells

abbrev pub unused : StageCost
unused = record { cells = 0; writes = 0; states = 0 }

module _ (stages : List StageCost) where
  cells_at : (count : ℕ) → count < length stages → get_or (cells_of stages) count 0 ≡ (get_or stages count unused).cells
  cells_at count lt = get_or-map (λ (s : StageCost). s.cells) stages count unused 0 lt

  module _ (count number cells : ℕ) (lt : count < length stages) (before : IsFullestBefore stages count number cells) where
    -- one that has more
    pub fullest_takes : cells < (get_or stages count unused).cells → IsFullestBefore stages (count + 1) count (get_or stages count unused).cells
    fullest_takes more =
        let here = cells_at count lt in
        record {
          has = λ some. (omega arith, here);
          none = λ none. absurd (omega (arith, none, more));
          most = λ k low. elim (cases_lt k count) [
            | inl less ↦ (let most = before.most k less in omega arith)
            | inr least ↦ (let same : k ≡ count = omega arith in omega (arith, here, ap (λ j. get_or (cells_of stages) j 0) same))
          ];
          first = λ k low. let most = before.most k low in omega arith;
        }

    -- one that has no more
    pub fullest_keeps : (get_or stages count unused).cells ≤ cells → IsFullestBefore stages (count + 1) number cells
    fullest_keeps less =
        let here = cells_at count lt in
        record {
          has = λ some. let has = before.has some in (omega (arith, has.0), has.1);
          none = before.none;
          most = λ k low. elim (cases_lt k count) [
            | inl less ↦ before.most k less
            | inr least ↦ (let same : k ≡ count = omega arith in omega (arith, here, ap (λ j. get_or (cells_of stages) j 0) same))
          ];
          first = before.first;
        }
