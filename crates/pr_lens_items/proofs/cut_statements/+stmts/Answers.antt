use Rattle.std.proofs.Common.{◌≡◌, ◌∙◌, ◌+◌, ◌-◌, List, false, map, drop, refl, sym, arith}
use Rattle.std.proofs.lemmas.Result.{IfOk-from_err}
use Rattle.pr_lang.specs.declared.trees.Stmt.{Stmt}
use Rattle.pr_lang.specs.Shape.{stmt_shape}
use Rattle.pr_lens_items.specs.Cuts.{is_out, statement, frames_of, values_of}
use Rattle.pr_lens_items.proofs.CutLemmas.{opens, grown, stmt_kept}
use Rattle.pr_lens_items.proofs.cut_statements.+stmts.Goals as goal

pub stmts-loop-step-preserved : goal.stmts-loop-step-preserved
stmts-loop-step-preserved t c =
    let held = c.loop-step.invariant in
    let passes = c.in_ok-stmt.ensures.passes in
    let old = c.loop-step.rest in
    let new = c.stmt.new.rest in
    let steps = c.args.steps.now in
    let i = c.loop-step.step-index in
    let step = c.step-item.result in
    let part = statement step in
    let within = c.loop-step-test.true in
    let there = c.step-item.is in
    let in_frame : is_out old.frames.from ≡ false = sym c.misses.ensures.test ∙ c.if-misses.false in
    let frames : new.frames.from ≡ old.frames.from - 1 - part.frames = omega (arith, passes.frames_are, c.misses.ensures.from) in
    let frames_more : frames_of (map statement (drop i steps)) ≡ 1 + part.frames + frames_of (map statement (drop (i + 1) steps)) = opens (λ (ss : List Stmt). frames_of (map statement ss)) steps i step _ within there refl in
    let values_more : values_of (map statement (drop i steps)) ≡ part.values + values_of (map statement (drop (i + 1) steps)) = opens (λ (ss : List Stmt). values_of (map statement ss)) steps i step _ within there refl in
    record {
      tree = grown stmt_shape c.loop-step.kept.items c.push.new.self.items c.in_ok-stmt.field-0 _ _ _ _ c.in_ok-push.ensures.items (rw c.misses.ensures.from at c.in_ok-stmt.ensures.tree)
          (stmt_kept steps i step old.values.from old.frames.from old.last new.values.from new.frames.from new.last within there in_frame frames passes.values_are passes.last_is) held.tree;
      frames = omega (arith, frames, frames_more, held.frames);
      values = λ more. (
          let before : old.values.from - values_of (map statement (drop i steps)) ≡ c.args.rest.now.values.from - values_of (map statement steps) = held.values (omega (arith, more, frames, frames_more)) in
          let now : new.values.from ≡ old.values.from - part.values = passes.values_are (omega (arith, more)) in
          omega (arith, before, now, values_more));
      last = passes.last_is ∙ held.last;
    }

pub stmt-returns-in_err-index-in-For : goal.stmt-returns-in_err-index-in-For
stmt-returns-in_err-index-in-For t c = let h = c.from_residual.ensures.0 in record { tree = IfOk-from_err _ _ h; passes = IfOk-from_err _ _ h }

pub stmt-returns-in_err-low-in-For : goal.stmt-returns-in_err-low-in-For
stmt-returns-in_err-low-in-For t c = let h = c.from_residual-in_err-low-in-For.ensures.0 in record { tree = IfOk-from_err _ _ h; passes = IfOk-from_err _ _ h }

pub stmt-returns-in_err-body-in-For : goal.stmt-returns-in_err-body-in-For
stmt-returns-in_err-body-in-For t c = let h = c.from_residual-in_err-body-in-For.ensures.0 in record { tree = IfOk-from_err _ _ h; passes = IfOk-from_err _ _ h }

pub stmts-returns-in_err-stmt : goal.stmts-returns-in_err-stmt
stmts-returns-in_err-stmt t c = let h = c.from_residual.ensures.0 in record { tree = IfOk-from_err _ _ h; passes = IfOk-from_err _ _ h }

pub stmts-returns-in_err-push : goal.stmts-returns-in_err-push
stmts-returns-in_err-push t c = let h = c.from_residual-in_err-push.ensures.0 in record { tree = IfOk-from_err _ _ h; passes = IfOk-from_err _ _ h }
