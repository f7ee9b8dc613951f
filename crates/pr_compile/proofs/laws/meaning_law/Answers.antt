use Rattle.pr_compile.proofs.Shown.{configured_lawful}
use Rattle.pr_compile.proofs.Programs.{program_meant, text_meant, units_stay, text_units_stay}
use Rattle.pr_compile.proofs.laws.meaning_law.Goals as goal

pub returns : goal.returns
returns c = record {
  lawful = λ N P equations widths outputs conf columns most_columns registers most_registers configured.
      configured_lawful N P equations widths outputs conf configured columns most_columns registers most_registers;
  program = program_meant;
  text = text_meant;
  units = units_stay;
  fewer = text_units_stay;
}
