use Rattle.std.proofs.Common.{inr, subst, length, refl, ap, sym, ◌∙◌, ◌≡◌, None, is_some, true≢false, arith}
use Rattle.std.proofs.lemmas.Grind.{common_steps}
use Rattle.pr_system.specs.Slots.{IsFirst, NoneBefore, slot_in}
use Rattle.pr_system.proofs.SlotLemmas.{slot_in-none, slot_in-some}
use Rattle.pr_system.proofs.files.FileShelf.slot_of.Goals as goal

pub returns-in-None-clause-slot : goal.returns-in-None-clause-slot
returns-in-None-clause-slot g c = inr (subst (λ xs. NoneBefore xs c.args.name.now (length xs)) c.deref.ensures.value c.in-None.ensures.none)

pub returns-in-None-clause-turn : goal.returns-in-None-clause-turn
returns-in-None-clause-turn g c =
    let none : slot_in c.args.self.now.slots.items c.args.name.now ≡ None =
    slot_in-none _ _ (subst (λ xs. NoneBefore xs c.args.name.now (length xs)) c.deref.ensures.value c.in-None.ensures.none) in
    record {
      kept = λ some. absurd (true≢false (sym some ∙ ap is_some none));
      taken = λ _. (refl, grind (arith, common_steps));
    }

pub returns-in-Some-clause-turn : goal.returns-in-Some-clause-turn
returns-in-Some-clause-turn g c =
    let first : IsFirst c.args.self.now.slots.items c.args.name.now c.in-Some.at = rw c.deref.ensures.value at c.in-Some.ensures.some in
    record {
      kept = λ _. (first, refl);
      taken = λ none. absurd (true≢false (sym (slot_in-some _ _ _ first) ∙ ap is_some none));
    }
