use Rattle.std.proofs.Common.{◌≤◌, ℕ, List, sum_by, sym, subst, arith}
use Rattle.pr_base.specs.Numbers.{slices_of}
use Rattle.pr_run.proofs.Bytes.{sample_room}
use Rattle.pr_run.proofs.feeding.offer_sample.Goals as goal

pub put_sample-size-requires-clause-room : goal.put_sample-size-requires-clause-room
put_sample-size-requires-clause-room g c =
    let conf = c.conf.result.now in
    let room = subst (λ (ws : List ℕ). sum_by slices_of ws ≤ 64) (sym c.deref.ensures.value) (sample_room g.row.N conf.inputs.items conf.most_columns conf.lawful_inputs) in
    omega (arith, room, c.requires.bytes)
