use Rattle.std.proofs.Common.{◌≡◌, Some, false, true}
use Rattle.pr_flat.specs.Flats.{equations_of}
use Rattle.pr_lens_needs.specs.Columns.{IsOther, declares}
use Rattle.pr_lens_needs.proofs.NeedLemmas.{declares_other, declares_this}
use Rattle.pr_lens_needs.proofs.columns.declares_in.Goals as goal

pub returns-clause-yes : goal.returns-clause-yes
returns-clause-yes c = λ yes.
    let front = c.in-Some.front in
    let passed = rw c.in-Some.is at c.in_ok-front.ensures.passed in
    let this : declares (equations_of front.flat) c.args.rec (Some c.args.width) ≡ true = cc (yes, c.declares.ensures) in
    declares_this c.args.text.now front.scoped.program front.flat front.widths c.args.rec c.args.width passed.flat passed.widths this

pub returns-clause-no : goal.returns-clause-no
returns-clause-no c = λ no.
    let front = c.in-Some.front in
    let passed = rw c.in-Some.is at c.in_ok-front.ensures.passed in
    let other : declares (equations_of front.flat) c.args.rec (Some c.args.width) ≡ false = cc (no, c.declares.ensures) in
    IsOther (declares_other c.args.text.now front.scoped.program front.flat front.widths c.args.rec (Some c.args.width) passed.flat passed.widths other)
