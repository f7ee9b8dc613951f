use Rattle.std.proofs.Common.{◌≡◌, [], ◌∷◌, length, refl, ap, ap₂, ◌∙◌}
use Rattle.std.proofs.lemmas.Result.{IfOk-from_err}
use Rattle.pr_flat.specs.declared.equations.Op.{Op}
use Rattle.pr_flat.specs.declared.forms.Form.{Form}
use Rattle.pr_flat.specs.Rows.{natural_form}
use Rattle.pr_cut_units.specs.Table.{computed_bits}
use Rattle.pr_cut_units.proofs.LongTable.{long_choice}
use Rattle.pr_cut_cells.specs.Arguments.{argument_of}
use Rattle.pr_cut.proofs.OperatorLemmas.{natural_is, bits_are, result_whole, result_slices}
use Rattle.pr_cut.proofs.operators.units_choice.Goals as goal

pub at_width-requires-clause-whole : goal.at_width-requires-clause-whole
at_width-requires-clause-whole c =
    let natural : c.unwrap-natural.result ≡ natural_form Op.Choose ((argument_of c.args.c.now).form ∷ (argument_of c.args.a.now).form ∷ (argument_of c.args.b.now).form ∷ []) = natural_is c.natural_choice.result Op.Choose (c.form_of.result ∷ c.form_of-2.result ∷ c.form_of-3.result ∷ []) c.unwrap-natural.result c.unwrap-natural.ensures c.natural_choice.ensures ∙ ap₂ (λ (f g : Form). natural_form Op.Choose (f ∷ g ∷ c.form_of-3.result ∷ [])) c.form_of.ensures c.form_of-2.ensures ∙ ap (λ (h : Form). natural_form Op.Choose ((argument_of c.args.c.now).form ∷ (argument_of c.args.a.now).form ∷ h ∷ [])) c.form_of-3.ensures in
    let bits : c.computed-e.result ≡ computed_bits c.args.w Op.Choose ((argument_of c.args.c.now).form ∷ (argument_of c.args.a.now).form ∷ (argument_of c.args.b.now).form ∷ []) = bits_are c.args.w c.computed-e.result Op.Choose ((argument_of c.args.c.now).form ∷ (argument_of c.args.a.now).form ∷ (argument_of c.args.b.now).form ∷ []) c.unwrap-natural.result natural c.computed-e.ensures in
    result_whole Op.Choose (argument_of c.args.c.now ∷ argument_of c.args.a.now ∷ argument_of c.args.b.now ∷ []) (length c.args.units.now.items) c.in_ok-x.x.items c.in_ok-x.x.items c.computed-e.result (computed_bits c.args.w Op.Choose ((argument_of c.args.c.now).form ∷ (argument_of c.args.a.now).form ∷ (argument_of c.args.b.now).form ∷ [])) bits refl c.in_ok-x.ensures.slices (long_choice _ (argument_of c.args.c.now) (argument_of c.args.a.now) (argument_of c.args.b.now) (length c.args.units.now.items))

pub returns-clause-slices : goal.returns-clause-slices
returns-clause-slices c =
    let natural : c.unwrap-natural.result ≡ natural_form Op.Choose ((argument_of c.args.c.now).form ∷ (argument_of c.args.a.now).form ∷ (argument_of c.args.b.now).form ∷ []) = natural_is c.natural_choice.result Op.Choose (c.form_of.result ∷ c.form_of-2.result ∷ c.form_of-3.result ∷ []) c.unwrap-natural.result c.unwrap-natural.ensures c.natural_choice.ensures ∙ ap₂ (λ (f g : Form). natural_form Op.Choose (f ∷ g ∷ c.form_of-3.result ∷ [])) c.form_of.ensures c.form_of-2.ensures ∙ ap (λ (h : Form). natural_form Op.Choose ((argument_of c.args.c.now).form ∷ (argument_of c.args.a.now).form ∷ h ∷ [])) c.form_of-3.ensures in
    let bits : c.computed-e.result ≡ computed_bits c.args.w Op.Choose ((argument_of c.args.c.now).form ∷ (argument_of c.args.a.now).form ∷ (argument_of c.args.b.now).form ∷ []) = bits_are c.args.w c.computed-e.result Op.Choose ((argument_of c.args.c.now).form ∷ (argument_of c.args.a.now).form ∷ (argument_of c.args.b.now).form ∷ []) c.unwrap-natural.result natural c.computed-e.ensures in
    result_slices c.args.w Op.Choose (argument_of c.args.c.now ∷ argument_of c.args.a.now ∷ argument_of c.args.b.now ∷ []) c.args.units.now.items _ c.in_ok-x.x.items c.in_ok-all.all.items c.in_ok-x.x.items c.computed-e.result _ bits (ap (λ (f : Form). f.signed) natural) refl c.in_ok-x.ensures.units c.in_ok-x.ensures.slices c.in_ok-all.ensures.slices

pub returns-in_err-x : goal.returns-in_err-x
returns-in_err-x c = let h = c.from_residual.ensures.0 in record { units = IfOk-from_err _ _ h; slices = IfOk-from_err _ _ h }

pub returns-in_err-all : goal.returns-in_err-all
returns-in_err-all c = let h = c.from_residual-in_err-all.ensures.0 in record { units = IfOk-from_err _ _ h; slices = IfOk-from_err _ _ h }
