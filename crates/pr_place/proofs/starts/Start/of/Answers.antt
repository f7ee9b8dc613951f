use Rattle.std.proofs.Common.{◌≡◌, ◌<◌, ◌==◌, ◌-◌, ◌^◌, ℕ, List, [], length, get_or, if◌then◌else◌, arith, ap, ap₂, sym, ◌∙◌, subst}
use Rattle.std.proofs.lemmas.Result.{IfOk-from_err}
use Rattle.std.proofs.lemmas.List.{length-replicate}
use Rattle.pr_net.specs.Whole.{shape_of}
use Rattle.pr_place.specs.Beginning.{nothing_put}
use Rattle.pr_place.specs.Candidates.{HasSets, IsCovered}
use Rattle.pr_place.specs.Registers.{Progress}
use Rattle.pr_place.specs.Tables.{reads_in}
use Rattle.pr_place.specs.Tracking.{Filling}
use Rattle.pr_place.specs.Waits.{waits_of}
use Rattle.pr_place.proofs.StartLemmas.{all_waits, first_filling}
use Rattle.pr_place.proofs.starts.Start.of.Goals as goal

pub returns : goal.returns
returns g c =
    let N = g.row.N in
    let P = g.row.P in
    let net = shape_of c.args.net.now in
    let t = c.args.tables.now in
    let h = c.requires.tables in
    let plans = t.plans in
    let long = h.fixed.planned.long in
    let uses : c.in_ok-uses.uses.items ≡ t.cells.uses.items = c.in_ok-uses.ensures.items ∙ c.deref.ensures.value in
    let start : c.in_ok-progress.progress ≡ nothing_put N P t.cells.uses.items = c.in_ok-progress.ensures ∙ ap (nothing_put N P) uses in
    let reads_long : length plans.reads.starts.items ≡ length plans.cells.starts.items = plans.same in
    let waits_long : length c.in_ok-waits.waits.items ≡ length net.groups = (let w = c.in_ok-waits.ensures.long in omega (arith, w, reads_long, long)) in
    let waits_is : (k : ℕ) → k < length net.groups → get_or c.in_ok-waits.waits.items k 0 ≡ waits_of t.cells.owner.items [] (reads_in t k) = λ k l. c.in_ok-waits.ensures.waits k (omega (arith, l, reads_long, long)) ∙ sym (all_waits t.cells.owner.items (reads_in t k)) in
    let same : length c.deref-2.result.now ≡ length net.groups = ap length c.deref-2.ensures.value ∙ waits_long in
    let ready_long : length c.in_ok-ready.ready.items ≡ length net.groups = c.in_ok-ready.ensures.long ∙ same in
    let ready_is : (k : ℕ) → k < length net.groups → get_or c.in_ok-ready.ready.items k 0 ≡ (if get_or c.in_ok-waits.waits.items k 0 == 0 then get_or t.class.items k 0 else 255) =
    λ k l. c.in_ok-ready.ensures.ready k (omega (arith, l, same)) ∙ ap₂ (λ (ws cl : List ℕ). if get_or ws k 0 == 0 then get_or cl k 0 else 255) c.deref-2.ensures.value c.deref-3.ensures.value in
    let blocks : HasSets c.in_ok-ready.ready.items c.in_ok-summary.summary.items = subst (λ (rs : List ℕ). HasSets rs c.in_ok-summary.summary.items) c.deref-4.ensures.value c.in_ok-summary.ensures.blocks in
    let covered : IsCovered c.in_ok-ready.ready.items c.in_ok-summary.summary.items = subst (λ (rs : List ℕ). IsCovered rs c.in_ok-summary.summary.items) c.deref-4.ensures.value c.in_ok-summary.ensures.covered in
    record {
      spots = ap (λ (p : Progress). length p.spots) start ∙ length-replicate (length t.cells.uses.items) (0, 0) ∙ h.uses_long;
      waits_long = waits_long;
      waits = waits_is;
      filling = subst (λ (p : Progress). Filling N P net t.cells.first.items t.cells.kept.items plans t.class.items c.in_ok-summary.summary.items c.in_ok-ready.ready.items p 0 (2 ^ 64 - 1) 0 []) (sym start)
          (first_filling N P net t c.in_ok-waits.waits.items c.in_ok-ready.ready.items c.in_ok-summary.summary.items h c.requires.registers waits_is ready_long ready_is blocks covered);
    }

pub returns-in_err-uses : goal.returns-in_err-uses
returns-in_err-uses g c = IfOk-from_err _ _ c.from_residual.ensures.0

pub returns-in_err-progress : goal.returns-in_err-progress
returns-in_err-progress g c = IfOk-from_err _ _ c.from_residual-in_err-progress.ensures.0

pub returns-in_err-waits : goal.returns-in_err-waits
returns-in_err-waits g c = IfOk-from_err _ _ c.from_residual-in_err-waits.ensures.0

pub returns-in_err-ready : goal.returns-in_err-ready
returns-in_err-ready g c = IfOk-from_err _ _ c.from_residual-in_err-ready.ensures.0

pub returns-in_err-summary : goal.returns-in_err-summary
returns-in_err-summary g c = IfOk-from_err _ _ c.from_residual-in_err-summary.ensures.0
