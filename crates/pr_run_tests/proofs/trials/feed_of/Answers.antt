use Rattle.std.proofs.Common.{◌≤◌, ℕ, List, All, sym, subst}
use Rattle.pr_run.proofs.Bytes.{lawful_inputs}
use Rattle.pr_run_tests.proofs.trials.feed_of.Goals as goal

pub make-requires : goal.make-requires
make-requires c =
    let conf = c.conf.result.now in
    subst (λ (ws : List ℕ). All (λ w. (1 ≤ w) × (w ≤ 128)) ws) (sym c.deref.ensures.value) (lawful_inputs 16 conf.inputs.items conf.lawful_inputs)
