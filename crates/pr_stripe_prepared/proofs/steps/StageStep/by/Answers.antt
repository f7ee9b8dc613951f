use Rattle.std.proofs.Common.{get_or, [], sym, ap, subst, ◌∙◌}
use Rattle.pr_conf.specs.StageMap.{made_from, state_map}
use Rattle.pr_stripe_columns.specs.Elements.{outputs_of}
use Rattle.pr_lanes.specs.Rows.{chosen}
use Rattle.pr_lanes.specs.Lanes.{HasLanes}
use Rattle.pr_stripe_prepared.proofs.StageLaws.{outputs_are, state_chosen, state_kept}
use Rattle.pr_stripe_prepared.proofs.steps.StageStep.by.Goals as goal

pub returns-then-self : goal.returns-then-self
returns-then-self g c = record {
  registers = λ pes p.
      let made = c.columns-made.result in
      let out = outputs_are c.args.self.stage.now pes c.args.self.count p c.args.row.now c.loaded-was.result made.a made.output c.loaded-was.ensures.long c.columns-made.ensures.output (λ k d l. c.columns-made.ensures.columns pes c.args.self.count k d p l) in
      c.pass.ensures pes (made_from 16 c.args.row.now c.args.state.now [] pes) p.long (λ j d h. ap (λ ms. get_or ms j 0) c.deref.ensures.value ∙ p.marks j d h) (out ∙ ap (λ s. outputs_of (made_from 16 c.args.row.now s [] pes)) c.loaded-was.ensures.is);
  state = λ pes p.
      let made = c.columns-made.result in
      c.store.ensures
      ∙ state_chosen c.args.self.stage.now pes c.args.self.count p c.args.row.now c.loaded-was.result made.a made.output c.loaded-was.ensures.long c.columns-made.ensures.output (λ k d l. c.columns-made.ensures.columns pes c.args.self.count k d p l) c.choose-first.result c.choose.result
      (subst (λ m. HasLanes 16 c.choose-first.result (λ k. chosen (get_or c.loaded-was.result k 0) (get_or made.output k 0) (get_or m k 0))) c.row_of.ensures.is c.choose-first.ensures.lanes)
      (subst (λ m. HasLanes 16 c.choose.result (λ k. chosen (get_or c.choose-first.result k 0) (get_or made.a k 0) (get_or m k 0))) c.row_of-then-self.ensures.is c.choose.ensures.lanes)
      c.choose-first.ensures.bytes c.choose.ensures.bytes p.output_row p.a_row
      ∙ ap (λ s. state_map 16 pes s c.args.row.now) c.loaded-was.ensures.is;
}

pub returns-else-self : goal.returns-else-self
returns-else-self g c = record {
  registers = λ pes p.
      let made = c.columns-made.result in
      let out = outputs_are c.args.self.stage.now pes c.args.self.count p c.args.row.now c.loaded-was.result made.a made.output c.loaded-was.ensures.long c.columns-made.ensures.output (λ k d l. c.columns-made.ensures.columns pes c.args.self.count k d p l) in
      c.pass.ensures pes (made_from 16 c.args.row.now c.args.state.now [] pes) p.long (λ j d h. ap (λ ms. get_or ms j 0) c.deref.ensures.value ∙ p.marks j d h) (out ∙ ap (λ s. outputs_of (made_from 16 c.args.row.now s [] pes)) c.loaded-was.ensures.is);
  state = λ pes p.
      let made = c.columns-made.result in
      sym c.loaded-was.ensures.is
      ∙ state_kept c.args.self.stage.now pes c.args.self.count p c.args.row.now c.loaded-was.result made.a made.output c.loaded-was.ensures.long c.columns-made.ensures.output (λ k d l. c.columns-made.ensures.columns pes c.args.self.count k d p l) c.if-self.false p.output_row p.a_row
      ∙ ap (λ s. state_map 16 pes s c.args.row.now) c.loaded-was.ensures.is;
}
