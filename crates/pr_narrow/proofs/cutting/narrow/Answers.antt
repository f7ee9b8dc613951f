use Rattle.std.proofs.Common.{◌≡◌, ℕ, List, length, arith, sym, ap, subst}
use Rattle.std.proofs.lemmas.Result.{IfOk-from_err}
use Rattle.pr_flat.specs.Shape.{EquationShape, shapes_of}
use Rattle.pr_flat.specs.Widths.{AreWidths}
use Rattle.pr_narrow.proofs.BodyLemmas.{shapes_length, fold_long, cut_is}
use Rattle.pr_narrow.proofs.cutting.narrow.Goals as goal

pub demands-requires : goal.demands-requires
demands-requires c =
    let long = fold_long (shapes_of c.args.flat.now.equations.items) c.args.flat.now.outputs.items c.in_ok-folded.folded.equations.items c.args.widths.now c.deref.result.now c.requires (let v = c.widths.view_is in let d = c.deref.ensures.value in cc) c.in_ok-folded.ensures.folded in
    let same : c.deref-2.result.now ≡ c.deref.result.now = (let d = c.deref.ensures.value in let e = c.deref-2.ensures.value in cc) in
    let count = ap (λ (ws : List ℕ). length ws) same in
    omega (arith, long, count, c.in_ok-folded.folded.equations.ok.0)

pub new_widths-requires-clause-widths : goal.new_widths-requires-clause-widths
new_widths-requires-clause-widths c =
    let long = fold_long (shapes_of c.args.flat.now.equations.items) c.args.flat.now.outputs.items c.in_ok-folded.folded.equations.items c.args.widths.now c.deref.result.now c.requires (let v = c.widths.view_is in let d = c.deref.ensures.value in cc) c.in_ok-folded.ensures.folded in
    let same : c.deref-3.result.now ≡ c.deref.result.now = (let d = c.deref.ensures.value in let e = c.deref-3.ensures.value in cc) in
    let count = ap (λ (ws : List ℕ). length ws) same in
    omega (arith, long, count, c.in_ok-folded.folded.equations.ok.0)

pub narrowed-narrowed-requires-clause-news : goal.narrowed-narrowed-requires-clause-news
narrowed-narrowed-requires-clause-news c =
    let cut = cut_is (shapes_of c.args.flat.now.equations.items) (shapes_of c.in_ok-folded.folded.equations.items) c.args.flat.now.outputs.items c.in_ok-folded.folded.outputs.items c.args.widths.now c.deref.result.now c.deref-2.result.now c.deref-3.result.now c.in_ok-demand.demand.items c.deref-4.result.now c.deref-5.result.now c.in_ok-news.news.items c.deref-6.result.now c.args.flat.now.lawful c.requires (let v = c.widths.view_is in let d = c.deref.ensures.value in cc) (let v = c.widths.view_is in let d = c.deref-2.ensures.value in cc) (let v = c.widths.view_is in let d = c.deref-3.ensures.value in cc) c.in_ok-folded.ensures.folded c.in_ok-folded.ensures.outputs c.in_ok-demand.ensures c.deref-4.ensures.value c.deref-5.ensures.value c.in_ok-news.ensures c.deref-6.ensures.value in
    omega (arith, cut.count, shapes_length c.in_ok-folded.folded.equations.items, c.in_ok-folded.folded.equations.ok.0)

pub narrowed-narrowed-requires-clause-some : goal.narrowed-narrowed-requires-clause-some
narrowed-narrowed-requires-clause-some c = λ i low.
    let cut = cut_is (shapes_of c.args.flat.now.equations.items) (shapes_of c.in_ok-folded.folded.equations.items) c.args.flat.now.outputs.items c.in_ok-folded.folded.outputs.items c.args.widths.now c.deref.result.now c.deref-2.result.now c.deref-3.result.now c.in_ok-demand.demand.items c.deref-4.result.now c.deref-5.result.now c.in_ok-news.news.items c.deref-6.result.now c.args.flat.now.lawful c.requires (let v = c.widths.view_is in let d = c.deref.ensures.value in cc) (let v = c.widths.view_is in let d = c.deref-2.ensures.value in cc) (let v = c.widths.view_is in let d = c.deref-3.ensures.value in cc) c.in_ok-folded.ensures.folded c.in_ok-folded.ensures.outputs c.in_ok-demand.ensures c.deref-4.ensures.value c.deref-5.ensures.value c.in_ok-news.ensures c.deref-6.ensures.value in
    cut.some i (omega (arith, low, shapes_length c.in_ok-folded.folded.equations.items, c.in_ok-folded.folded.equations.ok.0))

pub narrowed-narrowed-requires-clause-flat : goal.narrowed-narrowed-requires-clause-flat
narrowed-narrowed-requires-clause-flat c = (cut_is (shapes_of c.args.flat.now.equations.items) (shapes_of c.in_ok-folded.folded.equations.items) c.args.flat.now.outputs.items c.in_ok-folded.folded.outputs.items c.args.widths.now c.deref.result.now c.deref-2.result.now c.deref-3.result.now c.in_ok-demand.demand.items c.deref-4.result.now c.deref-5.result.now c.in_ok-news.news.items c.deref-6.result.now c.args.flat.now.lawful c.requires (let v = c.widths.view_is in let d = c.deref.ensures.value in cc) (let v = c.widths.view_is in let d = c.deref-2.ensures.value in cc) (let v = c.widths.view_is in let d = c.deref-3.ensures.value in cc) c.in_ok-folded.ensures.folded c.in_ok-folded.ensures.outputs c.in_ok-demand.ensures c.deref-4.ensures.value c.deref-5.ensures.value c.in_ok-news.ensures c.deref-6.ensures.value).flat

pub returns-clause-widths : goal.returns-clause-widths
returns-clause-widths c =
    let cut = cut_is (shapes_of c.args.flat.now.equations.items) (shapes_of c.in_ok-folded.folded.equations.items) c.args.flat.now.outputs.items c.in_ok-folded.folded.outputs.items c.args.widths.now c.deref.result.now c.deref-2.result.now c.deref-3.result.now c.in_ok-demand.demand.items c.deref-4.result.now c.deref-5.result.now c.in_ok-news.news.items c.deref-6.result.now c.args.flat.now.lawful c.requires (let v = c.widths.view_is in let d = c.deref.ensures.value in cc) (let v = c.widths.view_is in let d = c.deref-2.ensures.value in cc) (let v = c.widths.view_is in let d = c.deref-3.ensures.value in cc) c.in_ok-folded.ensures.folded c.in_ok-folded.ensures.outputs c.in_ok-demand.ensures c.deref-4.ensures.value c.deref-5.ensures.value c.in_ok-news.ensures c.deref-6.ensures.value in
    let P : List EquationShape → Type 0 = λ es. AreWidths es c.deref-6.result.now in
    let Q : List ℕ → Type 0 = λ ws. AreWidths (shapes_of c.narrowed-narrowed.result.equations.items) ws in
    subst Q c.deref-6.ensures.value (subst P (sym c.narrowed-narrowed.ensures.equations) cut.wide)

pub returns-in_err-folded : goal.returns-in_err-folded
returns-in_err-folded c = let h = c.from_residual.ensures.0 in record { narrowed = IfOk-from_err _ _ h; outputs = IfOk-from_err _ _ h; widths = IfOk-from_err _ _ h }

pub returns-in_err-demand : goal.returns-in_err-demand
returns-in_err-demand c = let h = c.from_residual-in_err-demand.ensures.0 in record { narrowed = IfOk-from_err _ _ h; outputs = IfOk-from_err _ _ h; widths = IfOk-from_err _ _ h }

pub returns-in_err-news : goal.returns-in_err-news
returns-in_err-news c = let h = c.from_residual-in_err-news.ensures.0 in record { narrowed = IfOk-from_err _ _ h; outputs = IfOk-from_err _ _ h; widths = IfOk-from_err _ _ h }
