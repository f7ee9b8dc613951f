use Rattle.pr_net.proofs.WholeLaws.{net_runs}
use Rattle.pr_cut_units.specs.Nets.{net_of}
use Rattle.pr_cut_units.proofs.NetOf.{net_shows_bytes}
use Rattle.pr_cut_units.proofs.StartNets.{are_lawful}
use Rattle.pr_cut_bytes.proofs.Bytes.{equations_give, outputs_give, bytes_small}
use Rattle.pr_cut_bytes.proofs.laws.cut_bytes_law.Goals as goal

pub returns : goal.returns
returns c = record {
  runs = λ columns equations outputs widths flat wide limits samples. net_runs columns (net_of equations widths outputs) samples (are_lawful columns equations widths outputs flat wide limits);
  bytes = λ equations outputs widths flat wide. net_shows_bytes equations widths outputs flat wide;
  equations = λ equations outputs widths flat wide samples rows. equations_give equations outputs widths samples flat wide rows;
  outputs = λ equations outputs widths flat wide samples rows. outputs_give equations outputs widths samples flat wide rows;
  small = bytes_small;
}
