use Rattle.std.proofs.Common.{◌≡◌, false, true, refl}
use Rattle.pr_flat.specs.Flats.{equations_of}
use Rattle.pr_lens_needs.specs.Columns.{NoNet, Other, Told, declares}
use Rattle.pr_lens_needs.proofs.NeedLemmas.{columns_told, declares_other, limit_told}
use Rattle.pr_lens_needs.proofs.columns.columns_of.Goals as goal

pub returns-then-not-declares : goal.returns-then-not-declares
returns-then-not-declares c =
    let front = c.in-Some.front in
    let passed = rw c.in-Some.is at c.in_ok-front.ensures.passed in
    let other : declares (equations_of front.flat) c.args.rec c.args.width ≡ false = cc (c.if-not-declares.true, c.declares.ensures) in
    Other (declares_other c.args.text.now front.scoped.program front.flat front.widths c.args.rec c.args.width passed.flat passed.widths other) refl

pub returns-in-Ok : goal.returns-in-Ok
returns-in-Ok c =
    let front = c.in-Some.front in
    let passed = rw c.in-Some.is at c.in_ok-front.ensures.passed in
    let made = c.in_ok-ready in
    let declared : declares (equations_of front.flat) c.args.rec c.args.width ≡ true = cc (c.if-not-declares.false, c.declares.ensures) in
    Told (columns_told c.args.narrowed c.args.text.now front.scoped.program front.flat front.widths made.ready made.news passed.flat passed.widths made.ensures.narrowed made.ensures.whole made.ensures.outputs
    c.args.rec c.args.width c.in-Ok.found declared c.in-Ok.ensures.found)

pub returns-in-Err-Limit : goal.returns-in-Err-Limit
returns-in-Err-Limit c =
    let front = c.in-Some.front in
    let passed = rw c.in-Some.is at c.in_ok-front.ensures.passed in
    let made = c.in_ok-ready in
    let which = c.in-Err-Limit._which in
    NoNet which (limit_told c.args.narrowed c.args.text.now front.scoped.program front.flat front.widths made.ready made.news passed.flat passed.widths made.ensures.narrowed made.ensures.whole made.ensures.outputs
    c.args.columns which (c.in-Err-Limit.ensures.limit which (cc))) refl
