use Rattle.std.proofs.lemmas.Result.{IfOk-from_err, err_from_is_err_and}
use Rattle.pr_tool_modes.proofs.ready.make_ready.Goals as goal

pub returns-in_err-machine : goal.returns-in_err-machine
returns-in_err-machine g c =
    let h = c.from_residual.ensures.0 in
    let p = err_from_is_err_and c.from_residual.result c.from_residual.ensures.1 in
    record { ready = IfOk-from_err _ _ h; conf = IfOk-from_err _ _ h; stripes = IfOk-from_err _ _ h; turns = IfOk-from_err _ _ h; refused = rw (p.1, p.2) c.in_err-machine.ensures.refused }

pub returns-in_err-feed : goal.returns-in_err-feed
returns-in_err-feed g c =
    let h = c.from_residual-in_err-feed.ensures.0 in
    let p = err_from_is_err_and c.from_residual-in_err-feed.result c.from_residual-in_err-feed.ensures.1 in
    record { ready = IfOk-from_err _ _ h; conf = IfOk-from_err _ _ h; stripes = IfOk-from_err _ _ h; turns = IfOk-from_err _ _ h; refused = rw p.1 p.2 }

pub returns-in_err-room : goal.returns-in_err-room
returns-in_err-room g c =
    let h = c.from_residual-in_err-room.ensures.0 in
    let p = err_from_is_err_and c.from_residual-in_err-room.result c.from_residual-in_err-room.ensures.1 in
    record { ready = IfOk-from_err _ _ h; conf = IfOk-from_err _ _ h; stripes = IfOk-from_err _ _ h; turns = IfOk-from_err _ _ h; refused = rw p.1 p.2 }
