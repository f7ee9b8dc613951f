use Rattle.std.proofs.Common.{◌≡◌, ◌-◌, ◌≤◌, ◌++◌, ◌∙◌, ap, sym, arith, subst, length, take, drop, vec_capacity, vec_len}
use Rattle.std.proofs.Math.Seq.{take-append_seam}
use Rattle.pr_conf.specs.Configuration.{shape_of}
use Rattle.pr_machine.specs.Places.{rows_of, AreBare}
use Rattle.pr_machine.proofs.ReadyLaws.{ready_begun}
use Rattle.pr_machine.proofs.Emptied.{nothing_waits, bytes_stay}
use Rattle.pr_machine.proofs.Drained.{all_is, parked_is}
use Rattle.pr_machine.proofs.parking.Machine+N+P+Running.park.Goals as goal

pub returns-clause-parked : goal.returns-clause-parked
returns-clause-parked g c = λ k p h st. parked_is c.args.self.parts k p h st c.requires.gone c.requires.input c.deref_mut.result.now c.empty_all.new.store _ c.deref_mut.ensures.value c.begin_from.ensures.shape c.empty_all.ensures.rows

pub returns-clause-all : goal.returns-clause-all
returns-clause-all g c = λ k p h st. all_is c.args.self.parts k p h st c.requires.gone c.requires.input

pub invariant_of-result-clause-ready : goal.invariant_of-result-clause-ready
invariant_of-result-clause-ready g c = ready_begun (g.row.P - 1) (shape_of c.args.self.parts.conf) (shape_of c.begin_from.new.conf) (rows_of c.empty_all.new.store) c.args.self.parts.buffers.prepared.items c.begin_from.ensures.shape c.args.self.parts.ready

pub invariant_of-result-clause-output : goal.invariant_of-result-clause-output
invariant_of-result-clause-output g c =
    let parts = c.args.self.parts in
    nothing_waits parts.buffers.output _ _ parts.output c.requires.output (bytes_stay (shape_of parts.conf) (shape_of c.begin_from.new.conf) (rows_of c.empty_all.new.store) c.begin_from.ensures.shape)

pub invariant_of-result-clause-buffer : goal.invariant_of-result-clause-buffer
invariant_of-result-clause-buffer g c =
    let parts = c.args.self.parts in
    subst (λ n. n ≤ vec_capacity parts.buffers.result) (bytes_stay (shape_of parts.conf) (shape_of c.begin_from.new.conf) (rows_of c.empty_all.new.store) c.begin_from.ensures.shape) parts.buffer

pub invariant_of-machine-clause-bare : goal.invariant_of-machine-clause-bare
invariant_of-machine-clause-bare g c =
    let old = c.args.self.parts.places in
    let places = c.empty_all.new.places in
    let long : vec_len old ≡ length places = omega (arith, old.ok.0, c.deref_mut.ensures.len, c.empty_all.auto.places) in
    subst (AreBare {N = g.row.N} {P = g.row.P}) (sym (ap (λ n. take n (places ++ drop (length places) old.items)) long ∙ take-append_seam places (drop (length places) old.items))) c.empty_all.ensures.bare
