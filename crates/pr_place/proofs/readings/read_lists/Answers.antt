use Rattle.std.proofs.Common.{◌≡◌, ◌<◌, ◌++◌, ℕ, List, [], ◌∷◌, length, arith, ap, ◌∙◌}
use Rattle.std.proofs.lemmas.Result.{IfOk-from_err}
use Rattle.pr_net.specs.Whole.{shape_of}
use Rattle.pr_net.specs.Shape.{units_of}
use Rattle.pr_place.specs.Lists.{joined}
use Rattle.pr_place.specs.Numbering.{CanRead, group_reads_of, reads_from}
use Rattle.pr_place.specs.Tables.{reads_by}
use Rattle.pr_place.proofs.ListLemmas.{holds_more}
use Rattle.pr_place.proofs.Moves.{moved2, list_at}
use Rattle.pr_place.proofs.ReadLemmas.{can_read}
use Rattle.pr_place.proofs.TableLemmas.{reads_next}
use Rattle.pr_place.proofs.readings.read_lists.Goals as goal

pub list_reads-requires : goal.list_reads-requires
list_reads-requires g c =
    let net = shape_of c.args.net.now in
    let l : c.loop-group.group < length net.groups = omega (arith, c.loop-group-test.true, c.len-group-end.ensures) in
    let own = length c.args.owner.now in
    moved2 (λ units us. CanRead units c.args.first.now own us) _ _ _ _ c.deref.ensures.value (c.deref-in-loop-group.ensures.value ∙ c.members.view_is ∙ list_at net.groups c.loop-group.group _ l c.index-members.ensures)
    (can_read g.row.N net c.args.first.now own c.loop-group.group c.requires.net c.requires.numbered l)

pub loop-group-preserved : goal.loop-group-preserved
loop-group-preserved g c =
    let net = shape_of c.args.net.now in
    let first = c.args.first.now in
    let owner = c.args.owner.now in
    let group = c.loop-group.group in
    let items = c.loop-group.items.items in
    let starts = c.loop-group.starts.items in
    let more = c.list_reads.new.reads.items in
    let l : group < length net.groups = omega (arith, c.loop-group-test.true, c.len-group-end.ensures) in
    let members = c.deref-in-loop-group.ensures.value ∙ c.members.view_is ∙ list_at net.groups group _ l c.index-members.ensures in
    let units : c.deref.result.now ≡ net.units = c.deref.ensures.value in
    let same = ap (λ us. group_reads_of us first owner group c.deref-in-loop-group.result.now) units ∙ ap (group_reads_of net.units first owner group) members in
    let e : more ≡ items ++ group_reads_of net.units first owner group (units_of net group) = c.in_ok-list_reads.ensures ∙ ap (λ (xs : List ℕ). items ++ xs) same in
    let n : c.len-in-loop-group.result ≡ length more = omega (arith, c.len-in-loop-group.ensures, c.list_reads.new.reads.ok) in
    let s : c.push-in-loop-group.new.self.items ≡ starts ++ length more ∷ [] = c.in_ok-push-2.ensures.items ∙ ap (λ (k : ℕ). starts ++ k ∷ []) n in
    record {
      reads = holds_more (reads_by net first owner) group starts c.push-in-loop-group.new.self.items items more c.loop-group.invariant.reads e s;
      all = reads_next net.units first owner items more (joined (reads_from net.units first owner 0 net.groups)) group net.groups l e c.loop-group.invariant.all;
    }

pub returns-in_err-starts-clause-reads : goal.returns-in_err-starts-clause-reads
returns-in_err-starts-clause-reads g c = IfOk-from_err _ _ c.from_residual.ensures.0

pub returns-in_err-starts-clause-all : goal.returns-in_err-starts-clause-all
returns-in_err-starts-clause-all g c = IfOk-from_err _ _ c.from_residual.ensures.0

pub returns-in_err-items-clause-reads : goal.returns-in_err-items-clause-reads
returns-in_err-items-clause-reads g c = IfOk-from_err _ _ c.from_residual-in_err-items.ensures.0

pub returns-in_err-items-clause-all : goal.returns-in_err-items-clause-all
returns-in_err-items-clause-all g c = IfOk-from_err _ _ c.from_residual-in_err-items.ensures.0

pub returns-in_err-push-clause-reads : goal.returns-in_err-push-clause-reads
returns-in_err-push-clause-reads g c = IfOk-from_err _ _ c.from_residual-in_err-push.ensures.0

pub returns-in_err-push-clause-all : goal.returns-in_err-push-clause-all
returns-in_err-push-clause-all g c = IfOk-from_err _ _ c.from_residual-in_err-push.ensures.0

pub returns-in_err-list_reads-clause-reads : goal.returns-in_err-list_reads-clause-reads
returns-in_err-list_reads-clause-reads g c = IfOk-from_err _ _ c.from_residual-in_err-list_reads.ensures.0

pub returns-in_err-list_reads-clause-all : goal.returns-in_err-list_reads-clause-all
returns-in_err-list_reads-clause-all g c = IfOk-from_err _ _ c.from_residual-in_err-list_reads.ensures.0

pub returns-in_err-push-2-clause-reads : goal.returns-in_err-push-2-clause-reads
returns-in_err-push-2-clause-reads g c = IfOk-from_err _ _ c.from_residual-in_err-push-2.ensures.0

pub returns-in_err-push-2-clause-all : goal.returns-in_err-push-2-clause-all
returns-in_err-push-2-clause-all g c = IfOk-from_err _ _ c.from_residual-in_err-push-2.ensures.0
