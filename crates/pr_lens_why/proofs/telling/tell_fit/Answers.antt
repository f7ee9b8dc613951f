use Rattle.pr_lens_why.proofs.telling.tell_fit.Goals as goal

pub returns : goal.returns
returns g c = record {
  found = c.in_ok-unfit.unfit;
  is = c.in_ok-unfit.ensures.found;
  item = c.in_ok-unfit.ensures.item;
  token_is = c.first.ensures;
  unfit = c.in_ok-tell_unfit.ensures;
}
