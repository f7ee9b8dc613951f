use Rattle.std.proofs.Common.{◌∙◌, List, sym, subst}
use Rattle.pr_lang.specs.declared.tokens.Token.{Token}
use Rattle.pr_compile.specs.Refusals.{IsRefused}
use Rattle.pr_lens_source.specs.declared.sources.Span.{Span}
use Rattle.pr_lens_source.specs.Items.{AreItems}
use Rattle.pr_lens_why.specs.Verdicts.{PointsRight}
use Rattle.pr_lens_why.proofs.MessageLemmas.{message_of}
use Rattle.pr_lens_why.proofs.Refused.{points_right}
use Rattle.pr_lens_why.proofs.explaining.explained.Goals as goal

pub returns : goal.returns
returns g c =
    let told = c.pointing.ensures in
    record {
      refused = subst (IsRefused g.row.N g.row.P c.args.narrowed c.args.text.now) (sym told.fault) c.requires.refused;
      pointing = told.place;
      right = subst (λ f. PointsRight f c.pointing.result.token) (sym told.fault) (subst (PointsRight c.args.fault) (sym told.token) (points_right g.row.N g.row.P c.args.narrowed c.args.text.now c.args.fault c.in_ok-token.token c.requires.refused c.in_ok-token.ensures.token));
      message =
          message_of g.row.N g.row.P c.args.narrowed c.args.text.now c.pointing.result c.deref-2.result.now c.deref-3.result.now c.args.fault c.in_ok-token.token c.new-message.result.items c.tell.new.message.items
          (c.deref-2.ensures.value ∙ c.in_ok-found.ensures)
          (subst (λ (tokens : List Token). AreItems tokens 0 c.deref-3.result.now) (c.deref.ensures.value ∙ sym c.deref-2.ensures.value)
          (subst (λ (spans : List Span). AreItems c.deref.result.now 0 spans) (sym c.deref-3.ensures.value) c.in_ok-spans.ensures.items))
          told.fault told.token c.new-message.ensures.items told.message c.in_ok-token.ensures.tells;
    }
