use Rattle.std.proofs.Common.{lit<}
use Rattle.std.proofs.lemmas.Result.{IfOk-from_err}
use Rattle.pr_machine.proofs.FirstStates.{states_whole, states_count, states_first, some_sample, some_result}
use Rattle.pr_machine.proofs.buffers.buffers_for.Goals as goal

pub make-requires : goal.make-requires
make-requires g c = (lit< tt, states_whole g.row.N g.row.P c.args.conf.now c.deref.result.now c.in_ok-states.states.items c.deref-2.result.now c.deref.ensures.value c.in_ok-states.ensures c.deref-2.ensures.value)

pub make-requires-2-clause-low : goal.make-requires-2-clause-low
make-requires-2-clause-low g c = some_sample g.row.N g.row.P c.args.conf.now c.sample_bytes.result c.sample_bytes.ensures.bytes

pub make-requires-3-clause-low : goal.make-requires-3-clause-low
make-requires-3-clause-low g c = some_result g.row.N g.row.P c.args.conf.now c.result_bytes.result c.result_bytes.ensures.bytes

pub returns-clause-states : goal.returns-clause-states
returns-clause-states g c = states_first g.row.N g.row.P c.args.conf.now c.deref.result.now c.in_ok-states.states.items c.deref-2.result.now c.in_ok-store.store c.deref.ensures.value c.in_ok-states.ensures c.deref-2.ensures.value c.in_ok-store.ensures.rows

pub returns-clause-rows : goal.returns-clause-rows
returns-clause-rows g c = states_count g.row.N g.row.P c.args.conf.now c.deref.result.now c.in_ok-states.states.items c.deref-2.result.now c.in_ok-store.store c.deref.ensures.value c.in_ok-states.ensures c.deref-2.ensures.value c.in_ok-store.ensures.rows

pub returns-in_err-states : goal.returns-in_err-states
returns-in_err-states g c = let h = c.from_residual.ensures.0 in record { states = IfOk-from_err _ _ h; rows = IfOk-from_err _ _ h; ready = IfOk-from_err _ _ h; count = IfOk-from_err _ _ h; input = IfOk-from_err _ _ h; output = IfOk-from_err _ _ h; sample = IfOk-from_err _ _ h; buffer = IfOk-from_err _ _ h }

pub returns-in_err-store : goal.returns-in_err-store
returns-in_err-store g c = let h = c.from_residual-in_err-store.ensures.0 in record { states = IfOk-from_err _ _ h; rows = IfOk-from_err _ _ h; ready = IfOk-from_err _ _ h; count = IfOk-from_err _ _ h; input = IfOk-from_err _ _ h; output = IfOk-from_err _ _ h; sample = IfOk-from_err _ _ h; buffer = IfOk-from_err _ _ h }

pub returns-in_err-prepared : goal.returns-in_err-prepared
returns-in_err-prepared g c = let h = c.from_residual-in_err-prepared.ensures.0 in record { states = IfOk-from_err _ _ h; rows = IfOk-from_err _ _ h; ready = IfOk-from_err _ _ h; count = IfOk-from_err _ _ h; input = IfOk-from_err _ _ h; output = IfOk-from_err _ _ h; sample = IfOk-from_err _ _ h; buffer = IfOk-from_err _ _ h }

pub returns-in_err-input : goal.returns-in_err-input
returns-in_err-input g c = let h = c.from_residual-in_err-input.ensures.0 in record { states = IfOk-from_err _ _ h; rows = IfOk-from_err _ _ h; ready = IfOk-from_err _ _ h; count = IfOk-from_err _ _ h; input = IfOk-from_err _ _ h; output = IfOk-from_err _ _ h; sample = IfOk-from_err _ _ h; buffer = IfOk-from_err _ _ h }

pub returns-in_err-output : goal.returns-in_err-output
returns-in_err-output g c = let h = c.from_residual-in_err-output.ensures.0 in record { states = IfOk-from_err _ _ h; rows = IfOk-from_err _ _ h; ready = IfOk-from_err _ _ h; count = IfOk-from_err _ _ h; input = IfOk-from_err _ _ h; output = IfOk-from_err _ _ h; sample = IfOk-from_err _ _ h; buffer = IfOk-from_err _ _ h }

pub returns-in_err-sample : goal.returns-in_err-sample
returns-in_err-sample g c = let h = c.from_residual-in_err-sample.ensures.0 in record { states = IfOk-from_err _ _ h; rows = IfOk-from_err _ _ h; ready = IfOk-from_err _ _ h; count = IfOk-from_err _ _ h; input = IfOk-from_err _ _ h; output = IfOk-from_err _ _ h; sample = IfOk-from_err _ _ h; buffer = IfOk-from_err _ _ h }

pub returns-in_err-result : goal.returns-in_err-result
returns-in_err-result g c = let h = c.from_residual-in_err-result.ensures.0 in record { states = IfOk-from_err _ _ h; rows = IfOk-from_err _ _ h; ready = IfOk-from_err _ _ h; count = IfOk-from_err _ _ h; input = IfOk-from_err _ _ h; output = IfOk-from_err _ _ h; sample = IfOk-from_err _ _ h; buffer = IfOk-from_err _ _ h }
