use Rattle.std.proofs.lemmas.Result.{IfOk-weaker}
use Rattle.pr_lens_fits.proofs.units.has_many_before.Goals as goal

pub returns-clause-many : goal.returns-clause-many
returns-clause-many c =
    IfOk-weaker c.has_many_units.result _ _ (λ many is yes. record { longer = c.in_ok-text.text.items; output = c.in_ok-text.ensures; many = is yes }) (rw c.deref.ensures.value at c.has_many_units.ensures.many)

pub returns-clause-few : goal.returns-clause-few
returns-clause-few c =
    IfOk-weaker c.has_many_units.result _ _ (λ many is no. record { longer = c.in_ok-text.text.items; output = c.in_ok-text.ensures; few = is no }) (rw c.deref.ensures.value at c.has_many_units.ensures.few)
