use Rattle.pr_narrow.proofs.Narrowing.{flat_stays, widths_settle}
use Rattle.pr_narrow.proofs.OutputsStay.{inputs_stay, width_stays, list_stays}
use Rattle.pr_narrow.proofs.OneNarrowing.{one_narrowing}
use Rattle.pr_narrow.proofs.laws.narrowing_law.Goals as goal

pub returns-clause-flat : goal.returns-clause-flat
returns-clause-flat c = flat_stays

pub returns-clause-settled : goal.returns-clause-settled
returns-clause-settled c = widths_settle

pub returns-clause-inputs : goal.returns-clause-inputs
returns-clause-inputs c = inputs_stay

pub returns-clause-widths : goal.returns-clause-widths
returns-clause-widths c = λ equations outputs widths narrowed news flat all n k output. width_stays equations outputs widths narrowed news k output flat all n

pub returns-clause-lists : goal.returns-clause-lists
returns-clause-lists c = λ equations outputs widths narrowed news flat all n samples are k output. list_stays equations outputs widths narrowed news samples k output flat all n are

pub returns-clause-one : goal.returns-clause-one
returns-clause-one c = one_narrowing
