use Rattle.std.proofs.Common.{◌≡◌, ◌<◌, ◌-◌, ℕ, List, length, get_or, arith, ap, sym, ◌∙◌, subst}
use Rattle.std.proofs.lemmas.Result.{IfOk-from_err}
use Rattle.std.specs.List.{All}
use Rattle.pr_net.specs.Whole.{shape_of}
use Rattle.pr_place.specs.Numbering.{readers_from}
use Rattle.pr_place.specs.Plans.{groups_of, ops_of}
use Rattle.pr_place.proofs.TableLemmas.{Pieces, reads_there, owners_there, tables_are}
use Rattle.pr_place.proofs.lookups.Tables.of.Goals as goal

pub readers-requires : goal.readers-requires
readers-requires g c =
    let net = shape_of c.args.net.now in
    let made = c.in_ok-cells in
    let plans = made.ensures.plans in
    let ops = ops_of made.plans in
    let pieces : Pieces g.row.N net made.cells ops = record { net_is = c.requires.net; cells = made.ensures.cells; ops_is = plans.reads } in
    let long : groups_of made.plans ≡ length net.groups = plans.long in
    let same = made.plans.same in
    record {
      all = plans.all;
      cells = subst (λ (owner : List ℕ). All (All (λ x. x < length owner)) ops) (sym c.deref.ensures.value) (reads_there g.row.N net made.cells ops pieces);
      groups = subst (λ (owner : List ℕ). All (All (λ x. get_or owner x 0 < length made.plans.reads.starts.items - 1)) ops) (sym c.deref.ensures.value) (owners_there g.row.N net made.cells ops (length made.plans.reads.starts.items - 1) pieces (omega (arith, same, long)));
    }

pub returns : goal.returns
returns g c =
    let net = shape_of c.args.net.now in
    let made = c.in_ok-cells in
    let ops = ops_of made.plans in
    let pieces : Pieces g.row.N net made.cells ops = record { net_is = c.requires.net; cells = made.ensures.cells; ops_is = made.ensures.plans.reads } in
    let same = made.plans.same in
    tables_are g.row.N g.row.P net _ pieces made.ensures.plans c.requires.columns c.requires.registers c.requires.few_registers c.in_ok-class.ensures.long c.in_ok-class.ensures.small c.in_ok-class.ensures.alike
    (c.in_ok-readers.ensures.long ∙ ap (λ (n : ℕ). n - 1) same)
    (λ k l. c.in_ok-readers.ensures.readers k (omega (arith, l, same)) ∙ ap (λ (o : List ℕ). readers_from o k 0 ops) c.deref.ensures.value)

pub returns-in_err-cells : goal.returns-in_err-cells
returns-in_err-cells g c = IfOk-from_err _ _ c.from_residual.ensures.0

pub returns-in_err-class : goal.returns-in_err-class
returns-in_err-class g c = IfOk-from_err _ _ c.from_residual-in_err-class.ensures.0

pub returns-in_err-readers : goal.returns-in_err-readers
returns-in_err-readers g c = IfOk-from_err _ _ c.from_residual-in_err-readers.ensures.0
