use Rattle.std.proofs.lemmas.Result.{on_ok_weaker}
use Rattle.std.proofs.Common.{◌≡◌, ◌∙◌, ◌-◌, ◌++◌, List, Some, None, length, sym, ap, ap₂, subst, arith}
use Rattle.pr_lang.specs.declared.trees.Stmt.{Stmt}
use Rattle.pr_lens_reach.specs.declared.extents.Extent.{Extent}
use Rattle.pr_lens_extents.specs.declared.verdicts.Verdict.{Verdict}
use Rattle.pr_lens_reach.specs.Extents.{constant}
use Rattle.pr_lens_extents.specs.Scenes.{seen_in, with_stream}
use Rattle.pr_lens_extents.specs.Verdicts.{all_joined}
use Rattle.pr_lens_extents.specs.Statements.{IsAdded, all_blank, in_turn, steps_of, turn, turns}
use Rattle.pr_lens_extents.proofs.Joins.{written_back}
use Rattle.pr_lens_extents.proofs.Loops.{for_run, loop_added, turned, turned_is, turns_next}
use Rattle.pr_lens_extents.proofs.statements.+stmts.Goals as goal

pub put_turn-returns : goal.put_turn-returns
put_turn-returns t c =
    let ss = steps_of c.args.body.now in
    let seen = seen_in c.args.scene.now in
    let put : seen_in c.set_stream.new.scene ≡ with_stream c.args.index.now None (Some (constant c.args.at)) seen = c.in_ok-set_stream.ensures ∙ ap (λ (e : Extent). with_stream c.args.index.now None (Some e) seen) c.constant.ensures in
    let added = subst (λ (old : List Verdict). IsAdded (in_turn ss (seen_in c.set_stream.new.scene)) old c.put_stmts.new.verdicts.items (seen_in c.put_stmts.new.scene)) c.new-turn.ensures.items c.in_ok-put_stmts.ensures in
    let joins : c.join_all.new.joins ≡ all_joined c.args.all.now.items c.put_stmts.new.verdicts.items = c.join_all.ensures.joined ∙ ap₂ all_joined c.deref_mut.ensures.value c.deref.ensures.value in
    let whole : c.args.all.now.len ≡ length c.join_all.new.joins = omega (arith, c.join_all.ensures.count, c.deref_mut.ensures.len) in
    turned c.args.index.now ss c.args.at seen (seen_in c.set_stream.new.scene) (seen_in c.put_stmts.new.scene) c.args.all.now.items c.put_stmts.new.verdicts.items _ put added
    (written_back c.args.all.now.len c.args.all.now.items c.join_all.new.joins whole ∙ joins)

pub put_turns-loop-at-preserved : goal.put_turns-loop-at-preserved
put_turns-loop-at-preserved t c =
    let f = turn c.args.span.now.index.now (steps_of c.args.body.now) in
    turns_next f c.args.span.now.to c.loop-at.at (record { verdicts = c.loop-at.all.items; seen = seen_in c.loop-at.scene }) (record { verdicts = c.put_turn.new.all.items; seen = seen_in c.put_turn.new.scene }) _ c.loop-at-test.true
    (turned_is (f c.loop-at.at (record { verdicts = c.loop-at.all.items; seen = seen_in c.loop-at.scene })) c.put_turn.new.all.items (seen_in c.put_turn.new.scene) c.in_ok-put_turn.ensures) c.loop-at.invariant

pub put_stmt-returns-in_ok-put_turns-in-For : goal.put_stmt-returns-in_ok-put_turns-in-For
put_stmt-returns-in_ok-put_turns-in-For t c =
    let seen = seen_in c.args.scene.now in
    let from = c.bound-from.result in
    let to = c.bound-to.result in
    let lent = c.deref-in-For.result.now in
    let f = turn c.in-For.index (steps_of lent) in
    let blank : c.put_blanks.new.verdicts.items ≡ all_blank (steps_of lent) =
    c.in_ok-put_blanks-in-For.ensures ∙ (ap (λ (v : List Verdict). v ++ all_blank (steps_of c.deref.result.now)) c.new-all.ensures.items ∙ ap (λ (ss : List Stmt). all_blank (steps_of ss)) (c.deref.ensures.value ∙ sym c.deref-in-For.ensures.value)) in
    let whole = ap (λ (v : List Verdict). turns (to - from) from f (record { verdicts = v; seen = seen })) blank ∙ for_run c.args.stmt.now c.in-For.index c.in-For.low c.in-For.high c.in-For.body lent seen from to c.in-For.is c.deref-in-For.ensures.value c.bound-from.ensures c.bound-to.ensures in
    on_ok_weaker c.put_more.result (λ h. loop_added _ _ c.put_turns.new.all.items c.args.verdicts.now.items c.deref-in-For-2.result.now _ (seen_in c.put_turns.new.scene) c.in_ok-put_turns-in-For.ensures whole c.deref-in-For-2.ensures.value h) c.put_more.ensures
