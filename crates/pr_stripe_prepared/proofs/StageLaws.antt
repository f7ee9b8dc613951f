-- What a prepared stage makes of its state, where all its columns are right.
use Rattle.std.proofs.Common.{◌≡◌, ℕ, ◌<◌, false, List, [], length, get_or, sym, ap, ◌∙◌, arith}
use Rattle.pr_base.specs.Pe.{next_state}
use Rattle.pr_base.specs.declared.choices.Next.{Next}
use Rattle.pr_conf.specs.declared.pes.Pe.{Pe}
use Rattle.pr_conf.specs.StageMap.{made_from, state_map}
use Rattle.pr_lanes.specs.Rows.{chosen, picked, pick, row_by}
use Rattle.pr_stripe_columns.specs.Elements.{IsColumn, outputs_of}
use Rattle.pr_stripe_columns.proofs.StepLaws.{any_pe, all_outputs, state_selected}
use Rattle.pr_stripe_prepared.specs.declared.stages.Prepared.{Prepared}
use Rattle.pr_lanes.specs.Lanes.{HasLanes}
use Rattle.pr_stripe_prepared.specs.Prepared.{IsPrepared}
use Rattle.pr_lanes.proofs.LaneLaws.{as_row, same_lanes, own}
use Rattle.pr_stripe_prepared.proofs.RoundLaws.{kept, taken}

pub pick_output : (n : Next) (old new : ℕ) → old < 256 → new < 256 → chosen old new (next_state n 0 255 0) ≡ pick (next_state n 0 255 0) new old
pick_output Next.Keep old new l m = kept old new l
pick_output Next.Output old new l m = taken old new m
pick_output Next.A old new l m = kept old new l

pub pick_a : (n : Next) (old new : ℕ) → old < 256 → new < 256 → chosen old new (next_state n 0 0 255) ≡ pick (next_state n 0 0 255) new old
pick_a Next.Keep old new l m = kept old new l
pick_a Next.Output old new l m = kept old new l
pick_a Next.A old new l m = taken old new m

module _ (q : Prepared) (pes : List Pe) (registers : ℕ) (p : IsPrepared q pes registers) (row st a out : List ℕ) (ls : length st ≡ 16) (long : length out ≡ 16)
    (column : (k : ℕ) (d : Pe) → k < 16 → IsColumn row st pes k (get_or pes k d) (get_or out k 0) (get_or a k 0)) where
  pub outputs_are : out ≡ outputs_of (made_from 16 row st [] pes)
  outputs_are =
      let e = p.long in
      all_outputs row st out pes (omega arith) (λ k h. (column k any_pe (omega arith)).output_is) ∙ ap (λ n. outputs_of (made_from n row st [] pes)) ls

  -- the state, where two rows of marks choose it
  pub state_is : (first second : List ℕ) → first ≡ picked q.to_output out st → second ≡ picked q.to_a a first → length q.to_output ≡ 16 → length q.to_a ≡ 16 → second ≡ state_map 16 pes st row
  state_is first second ef es lo la =
      let e = p.long in
      state_selected row st out a q.to_output q.to_a first second pes (omega arith) (omega arith) (omega arith) (λ k d h. column k d (omega arith))
      (λ i d h. (p.makes i d (omega arith)).to_output) (λ i d h. (p.makes i d (omega arith)).to_a) ef es
      ∙ ap (λ n. state_map n pes st row) ls

  -- the same where the rows are chosen bit by bit
  pub state_chosen : (first second : List ℕ) → HasLanes 16 first (λ k. chosen (get_or st k 0) (get_or out k 0) (get_or q.to_output k 0)) → HasLanes 16 second (λ k. chosen (get_or first k 0) (get_or a k 0) (get_or q.to_a k 0))
      → ((k : ℕ) → k < 16 → (get_or st k 0 < 256) × (get_or out k 0 < 256)) → ((k : ℕ) → k < 16 → (get_or first k 0 < 256) × (get_or a k 0 < 256))
      → length q.to_output ≡ 16 → length q.to_a ≡ 16 → second ≡ state_map 16 pes st row
  state_chosen first second hf hs bf bs lo la =
      let f = λ (k : ℕ). pick (get_or q.to_output k 0) (get_or out k 0) (get_or st k 0) in
      let g = λ (k : ℕ). pick (get_or q.to_a k 0) (get_or a k 0) (get_or first k 0) in
      let one : first ≡ row_by 16 f = as_row 16 first f (same_lanes 16 first _ f hf (λ k l.
      let m = (p.makes k any_pe l).to_output in
      ap (chosen (get_or st k 0) (get_or out k 0)) m ∙ pick_output (get_or pes k any_pe).next (get_or st k 0) (get_or out k 0) (bf k l).0 (bf k l).1 ∙ ap (λ x. pick x (get_or out k 0) (get_or st k 0)) (sym m))) in
      let two : second ≡ row_by 16 g = as_row 16 second g (same_lanes 16 second _ g hs (λ k l.
      let m = (p.makes k any_pe l).to_a in
      ap (chosen (get_or first k 0) (get_or a k 0)) m ∙ pick_a (get_or pes k any_pe).next (get_or first k 0) (get_or a k 0) (bs k l).0 (bs k l).1 ∙ ap (λ x. pick x (get_or a k 0) (get_or first k 0)) (sym m))) in
      state_is first second (one ∙ ap (λ n. row_by n f) (sym lo)) (two ∙ ap (λ n. row_by n g) (sym la)) lo la

  -- and where no column changes its state
  pub state_kept : q.has_state ≡ false → length q.to_output ≡ 16 → length q.to_a ≡ 16 → st ≡ state_map 16 pes st row
  state_kept none lo la =
      let f = λ (k : ℕ). pick (get_or q.to_output k 0) (get_or out k 0) (get_or st k 0) in
      let g = λ (k : ℕ). pick (get_or q.to_a k 0) (get_or a k 0) (get_or st k 0) in
      let one : st ≡ row_by 16 f = as_row 16 st f (same_lanes 16 st _ f (own 16 st ls) (λ k l.
      let m = p.makes k any_pe l in sym (ap (λ x. pick x (get_or out k 0) (get_or st k 0)) (m.to_output ∙ (m.keeps none).0)))) in
      let two : st ≡ row_by 16 g = as_row 16 st g (same_lanes 16 st _ g (own 16 st ls) (λ k l.
      let m = p.makes k any_pe l in sym (ap (λ x. pick x (get_or a k 0) (get_or st k 0)) (m.to_a ∙ (m.keeps none).1)))) in
      state_is st st (one ∙ ap (λ n. row_by n f) (sym lo)) (two ∙ ap (λ n. row_by n g) (sym la)) lo la
