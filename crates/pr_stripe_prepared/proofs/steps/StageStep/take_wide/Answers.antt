use Rattle.std.proofs.Common.{◌*◌, ◌++◌, false, [], replicate, sym, ap, ◌∙◌, arith}
use Rattle.pr_conf.specs.StageMap.{made_from, registers_to, state_map}
use Rattle.pr_stripe_columns.proofs.PassLaws.{registers_of_zeros}
use Rattle.pr_stripe_prepared.proofs.PadLaws.{same_made_from, same_state_map, padded}
use Rattle.pr_stripe_prepared.proofs.steps.StageStep.take_wide.Goals as goal

pub returns : goal.returns
returns c = λ bus k e.
    let n = c.args.self.count in
    let st = c.args.state.now in
    record {
      registers = λ pes p.
          c.take.ensures.registers pes p
          ∙ ap (registers_to n 16 false pes (made_from 16 c.args.wide.now st [] pes)) c.requires.zeros
          ∙ ap (λ w. registers_to n 16 false pes (made_from 16 w st [] pes) (replicate (n * 16) 0)) e
          ∙ ap (λ m. registers_to n 16 false pes m (replicate (n * 16) 0)) (sym (same_made_from 16 bus (bus ++ replicate k 0) st (padded bus k) [] pes))
          ∙ registers_of_zeros n 16 n pes (made_from 16 bus st [] pes) bus (omega arith);
      state = λ pes p. c.take.ensures.state pes p ∙ ap (λ w. state_map 16 pes st w) e ∙ sym (same_state_map 16 bus (bus ++ replicate k 0) st (padded bus k) pes);
    }
