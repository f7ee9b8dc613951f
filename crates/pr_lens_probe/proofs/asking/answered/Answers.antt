use Rattle.std.proofs.Common.{◌≤◌, length, subst, sym, arith}
use Rattle.pr_lang.specs.declared.trees.Program.{Program}
use Rattle.pr_expand_spec.specs.Programs.{equations_of}
use Rattle.pr_lens_probe.specs.Asked.{AreAsked}
use Rattle.pr_lens_probe.specs.Fresh.{probes_from}
use Rattle.pr_lens_probe.proofs.Answered.{asked-few, asked-lawful}
use Rattle.pr_lens_probe.proofs.asking.answered.Goals as goal

pub push_outputs-requires : goal.push_outputs-requires
push_outputs-requires c = omega (arith, c.requires.able.turns)

pub checked-requires : goal.checked-requires
checked-requires c = asked-lawful c.args.program c.args.most c.args.some.now c.requires.able c.args.want (record { items = c.in_ok-asked.asked }) c.in_ok-asked.ensures

pub expanded-requires : goal.expanded-requires
expanded-requires c =
    subst (λ (p : Program). length (equations_of p).equations ≤ 16384) (sym c.in_ok-scoped.ensures)
    (asked-few c.args.program c.args.most c.args.some.now c.requires.able c.args.want (record { items = c.in_ok-asked.asked }) c.in_ok-asked.ensures c.requires.few)

pub returns-clause-answered : goal.returns-clause-answered
returns-clause-answered c = record {
  asked = c.in_ok-scoped.scoped.program;
  are = subst (λ (p : Program). AreAsked c.args.want c.args.program.items.items (probes_from c.args.most 0 c.args.some.now) p.items.items) (sym c.in_ok-scoped.ensures) c.in_ok-asked.ensures;
  equations = c.in_ok-flat.ensures.equations;
  outputs = c.in_ok-flat.ensures.outputs;
}
