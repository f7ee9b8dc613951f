use Rattle.pr_conf.specs.Configuration.{shape_of}
use Rattle.pr_code.proofs.FileLemmas.{decode_reads, decode_shape}
use Rattle.pr_code.proofs.decoding.decode.Goals as goal

pub returns-clause-reads : goal.returns-clause-reads
returns-clause-reads g c = decode_reads c.configuration_at.result shape_of c.format_of.result g.row.N g.row.P c.args.bytes.now c.requires.columns c.requires.most_columns c.requires.registers c.requires.most_registers (λ i. (c.type_inv.bytes i).fits) c.format_of.ensures.format c.configuration_at.ensures

pub returns-clause-shape : goal.returns-clause-shape
returns-clause-shape g c = decode_shape c.configuration_at.result shape_of c.format_of.result g.row.N c.args.bytes.now _ c.format_of.ensures.format c.configuration_at.ensures
