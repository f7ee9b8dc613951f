use Rattle.std.proofs.Common.{◌≡◌, ◌+◌, ◌*◌, ◌/◌, ◌%◌, ◌<◌, ◌≤◌, ◌==◌, ℕ, List, take, drop, length, get_or, ap, ◌∙◌, arith, if◌then◌else◌}
use Rattle.std.proofs.lemmas.List.{get_or-take, get_or-drop}
use Rattle.pr_conf.specs.declared.pes.Pe.{Pe}
use Rattle.pr_stripe_columns.proofs.PassLaws.{registers_more, part_long}
use Rattle.pr_stripe_prepared.proofs.steps.pass.Goals as goal

-- the marks of one register
marked : (pes : List Pe) (marks : List ℕ) (k n : ℕ) → ((j : ℕ) (d : Pe) → j < length marks → get_or marks j 0 ≡ (if (get_or pes (j % 16) d).write == j / 16 + 1 then 255 else 0)) → n ≡ 16 → k * 16 + 16 ≤ length marks
    → (i : ℕ) (d : Pe) → i < 16 → get_or (take n (drop (k * 16) marks)) i 0 ≡ (if (get_or pes i d).write == k + 1 then 255 else 0)
marked pes marks k n all e room i d h =
    let at : (k * 16 + i) % 16 ≡ i = omega arith in
    let by : (k * 16 + i) / 16 ≡ k = omega arith in
    get_or-take n (drop (k * 16) marks) i 0 (omega arith) ∙ get_or-drop (k * 16) marks i 0 ∙ all (k * 16 + i) d (omega arith)
    ∙ ap (λ j. if (get_or pes j d).write == (k * 16 + i) / 16 + 1 then 255 else 0) at ∙ ap (λ r. if (get_or pes i d).write == r + 1 then 255 else 0) by

pub loop-k-preserved : goal.loop-k-preserved
loop-k-preserved c = λ pes made long marks o. registers_more c.loop-k.k 16 _ _ c.args.count pes made c.loop-k.registers c.args.before.now c.pass_one.new.into (omega arith) (omega arith) (omega arith)
    (part_long c.loop-k.k 16 _ c.args.count c.loop-k.registers c.pass_one.new.into (omega arith) (omega arith) (omega arith) c.pass_one.auto.into)
    (c.loop-k.invariant pes made long marks o) (c.pass_one.ensures (c.loop-k.k + 1) pes made long (marked pes c.args.marks.now c.loop-k.k _ marks (omega arith) (omega arith)) o) (omega arith)
