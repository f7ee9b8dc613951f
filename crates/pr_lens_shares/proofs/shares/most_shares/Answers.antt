use Rattle.std.proofs.Common.{inl, inr}
use Rattle.std.proofs.lemmas.Result.{IfOk-weaker}
use Rattle.pr_lens_shares.proofs.shares.most_shares.Goals as goal

pub returns-in-Ok : goal.returns-in-Ok
returns-in-Ok c =
    IfOk-weaker c.greatest_shares.result _ _ (λ shares are. inl (record { tally = c.in-Ok.tally; is = c.in-Ok.ensures.tally; are = are })) (rw (c.deref.ensures.value, c.deref-in-Ok.ensures.value) at c.greatest_shares.ensures)

pub returns-in-Err : goal.returns-in-Err
returns-in-Err c = inr (record {
  none = c.new-none.ensures.items;
  why = c.in_ok-untold-in-Err.ensures c.args.columns c.args.narrowed c.args.front.scoped.program c.args.front.widths c.in-Err.ensures.refused;
})
