use Rattle.std.proofs.Common.{◌∙◌, ap, map}
use Rattle.std.proofs.lemmas.Result.{IfOk-weaker}
use Rattle.pr_lens_origins.specs.Spots.{name_spot}
use Rattle.pr_lens_origins.proofs.PlaceLaws.{picked}
use Rattle.pr_lens_origins.proofs.spots.spots_of.Goals as goal

pub returns : goal.returns
returns c =
    let text = c.args.text.now in
    let tokens = c.deref.result.now in
    let names = c.deref-2.result.now in
    let table = c.deref-3.result.now in
    let numbers = c.deref-4.result.now in
    let are = c.deref.ensures.value ∙ c.in_ok-found.ensures in
    let named = c.deref-2.ensures.value ∙ c.in_ok-names.ensures in
    let listed = c.deref-3.ensures.value ∙ c.in_ok-table.ensures in
    let counted = c.deref-4.ensures.value ∙ c.in_ok-numbers.ensures in
    IfOk-weaker c.spots_at.result _ _ (λ spots is. picked text tokens names numbers table spots.items c.last_spot.result are named listed c.last_spot.ensures is ∙ ap (map (name_spot text)) counted) c.spots_at.ensures
