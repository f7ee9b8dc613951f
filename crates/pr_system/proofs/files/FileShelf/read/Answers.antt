use Rattle.std.proofs.Common.{◌≡◌, refl, arith}
use Rattle.std.proofs.lemmas.Result.{IfOk-weaker}
use Rattle.pr_system.proofs.SlotLemmas.{read_on}
use Rattle.pr_system.proofs.files.FileShelf.read.Goals as goal

pub returns-clause-read : goal.returns-clause-read
returns-clause-read g c =
    let mid = c.slot_of-at.new.self.slots in
    let same : mid ≡ c.args.self.now.slots = c.slot_of-at.ensures.slots in
    IfOk-weaker c.read-slot.result.1 _ _ (λ k read.
    rw (c.put_back.ensures, ← same) (read_on _ mid.items _ _ c.slot_of-at.result c.args.place k _ _ _ (omega (arith, c.slot_of-at.ensures.within, mid.ok.0)) c.slot_of-at.ensures.slot c.take_out-slot.ensures read)) c.read-slot.ensures.read

pub returns-clause-turn : goal.returns-clause-turn
returns-clause-turn g c = record {
  place = c.slot_of-at.result;
  turn = c.slot_of-at.ensures.turn;
  slot = c.read-slot.result.0;
  rest = rw (c.put_back.ensures, c.take_out-slot.ensures.rest c.read-slot.result.0, c.slot_of-at.ensures.slots) refl;
}
