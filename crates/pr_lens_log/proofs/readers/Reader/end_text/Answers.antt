use Rattle.std.proofs.Common.{◌<◌, ◌∙◌, length, arith, eq-eqb, inl, inr, sym, true≢false}
use Rattle.std.specs.Prelude.{vec_len}
use Rattle.std.proofs.lemmas.Bool.{cases_lt}
use Rattle.pr_lens_log.proofs.ReaderLaws.{end_pending, if_err, on_ok}
use Rattle.pr_lens_log.proofs.readers.Reader.end_text.Goals as goal

pub returns-clause-read : goal.returns-clause-read
returns-clause-read c =
    let pending = c.args.self.now.pending in
    let some : 0 < length pending.items = elim (cases_lt 0 (length pending.items)) [
      | inl less ↦ less
      | inr none ↦ absurd (true≢false (sym (eq-eqb (vec_len pending) 0 (omega (arith, none, pending.ok.0))) ∙ (sym c.is_empty.ensures ∙ c.if-is_empty.false)))
    ] in
    on_ok c.end_line.result _ _ c.end_line.ensures.taken (λ taken text h. record { taken = taken text h.from (length text) (end_pending text c.args.self.now h some) })

pub returns-clause-refused : goal.returns-clause-refused
returns-clause-refused c =
    let pending = c.args.self.now.pending in
    let some : 0 < length pending.items = elim (cases_lt 0 (length pending.items)) [
      | inl less ↦ less
      | inr none ↦ absurd (true≢false (sym (eq-eqb (vec_len pending) 0 (omega (arith, none, pending.ok.0))) ∙ (sym c.is_empty.ensures ∙ c.if-is_empty.false)))
    ] in
    if_err c.end_line.result _ _ c.end_line.ensures.refused (λ e bad text h. bad text h.from (length text) (end_pending text c.args.self.now h some))
