-- What is told of operands and operations.
use Rattle.std.proofs.Common.{◌≡◌, ◌∙◌, ◌++◌, ◌∷◌, ◌==◌, [], ℕ, Bool, false, cond, List, codes, length, refl, sym, ap}
use Rattle.std.specs.List.{list_any}
use Rattle.pr_flat.specs.declared.equations.Op.{Op}
use Rattle.pr_flat.specs.declared.equations.Op.TheVariants.{Choose, Slice, Rec}
use Rattle.pr_lens_find.specs.declared.widths.Extent.{Extent}
use Rattle.pr_lens_text.proofs.PutLemmas.{three_put}
use Rattle.pr_lens_why.specs.Widths.{extents_text, is_inside, op_text, operands_text, other_text}

pub operands_put : (t : List ℕ) (widths : List Extent) (t1 t2 t3 : List ℕ) → (length widths == 0) ≡ false → list_any is_inside widths ≡ false → t1 ≡ t ++ codes "Widths of the operands: "
    → t2 ≡ t1 ++ extents_text 0 widths → t3 ≡ t2 ++ codes ".\n" → t3 ≡ t ++ operands_text widths
unfolding operands_text
operands_put t [] t1 t2 t3 some none h1 h2 h3 = absurd (cc)
operands_put t (width ∷ widths) t1 t2 t3 some none h1 h2 h3 =
    three_put t (codes "Widths of the operands: ") (extents_text 0 (width ∷ widths)) (codes ".\n") h1 h2 h3
    ∙ ap (λ (b : Bool). t ++ cond b [] (codes "Widths of the operands: " ++ extents_text 0 (width ∷ widths) ++ codes ".\n")) (sym none)

pub op_other : (op : Op) → (op ≡ Choose → ⊥) → ((high low : ℕ) → op ≡ Slice high low → ⊥) → ((init first : ℕ) → op ≡ Rec init first → ⊥) → op_text op ≡ other_text
unfolding op_text
op_other Choose no_choice no_slice no_rec = absurd (no_choice refl)
op_other (Slice high low) no_choice no_slice no_rec = absurd (no_slice high low refl)
op_other (Rec init first) no_choice no_slice no_rec = absurd (no_rec init first refl)
op_other _ no_choice no_slice no_rec = refl
