use Rattle.std.proofs.Common.{◌≡◌, arith, length, ap, sym, ◌∙◌, vec_len}
use Rattle.std.proofs.lemmas.List.{length-take-le}
use Rattle.pr_conf.specs.declared.configurations.Configuration.{Configuration}
use Rattle.pr_run.proofs.Bytes.{few_inputs}
use Rattle.pr_share.proofs.feeding.read_sample.Goals as goal

pub slice_bounds-read_one-end : goal.slice_bounds-read_one-end
slice_bounds-read_one-end g c =
    let conf = c.conf.result.now in
    let few = few_inputs g.row.N conf.inputs.items conf.most_columns conf.lawful_inputs in
    omega (arith, few, c.len-count.ensures, conf.inputs.ok.0, c.requires.numbers)

pub slice_bounds-read_one-end-2 : goal.slice_bounds-read_one-end-2
slice_bounds-read_one-end-2 g c =
    let conf = c.conf.result.now in
    let few = few_inputs g.row.N conf.inputs.items conf.most_columns conf.lawful_inputs in
    sym (length-take-le c.len-count.result c.args.numbers.now (omega (arith, few, c.len-count.ensures, conf.inputs.ok.0, c.requires.numbers)))

pub read_one-requires : goal.read_one-requires
read_one-requires g c =
    let conf = c.conf.result.now in
    let few = few_inputs g.row.N conf.inputs.items conf.most_columns conf.lawful_inputs in
    let count : c.len-count.result ≡ length c.args.machine.now.parts.conf.inputs.items = c.len-count.ensures ∙ (ap (λ (k : Configuration g.row.N g.row.P). vec_len k.inputs) c.conf.ensures.is ∙ omega (arith, c.args.machine.now.parts.conf.inputs.ok.0)) in
    (omega arith, (omega arith, (c.requires.inputs, (length-take-le c.len-count.result c.args.numbers.now (omega (arith, few, c.len-count.ensures, conf.inputs.ok.0, c.requires.numbers)) ∙ count, (c.requires.bytes, (c.requires.room, (c.requires.going, c.requires.count)))))))
