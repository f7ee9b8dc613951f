-- What is made of a program with ends.
use Rattle.std.proofs.Common.{◌≡◌, ◌∙◌, ◌<◌, ◌≤◌, ◌⊎◌, ℕ, None, Some, List, length, min, sym, ap, inl, inr, arith}
use Rattle.std.specs.Vec.{vec_len}
use Rattle.std.proofs.lemmas.List.{length-map}
use Rattle.pr_lang.specs.declared.trees.Program.{Program}
use Rattle.pr_scope.specs.Walk.{Refusal, offence}
use Rattle.pr_flat.specs.declared.flat.Flat.{Flat}
use Rattle.pr_flat.specs.Shape.{equation_shape}
use Rattle.pr_compile_front.specs.Refusals.{IsRead}
use Rattle.pr_lens_items.specs.declared.cuts.Cut.{Cut}
use Rattle.pr_lens_find.specs.declared.equations.Equations.{Equations}
use Rattle.pr_lens_find.specs.declared.equations.Equations.TheVariants as made
use Rattle.pr_lens_find.specs.Fronts.{Spot, IsCutFront, IsUnread}
use Rattle.pr_lens_find.specs.Made.{IsMadeOf, IsMade, IsMadeIn, IsMadeCut, IsUnlawful, HasUnlawful, HasFlatIn, HasMoreIn, HasNoMoreIn, with_ends}

-- of the program with ends, where it keeps the rules of scope
pub made_with_ends : (program ended kept : Program) (m : Equations) → kept ≡ ended → ended.items.items ≡ with_ends program.items.items → offence kept ≡ None → IsMadeOf kept m → IsMade program m
made_with_ends program ended kept (made.Flat flat) same ends lawful is = record { ended = kept; ends = ap (λ (p : Program). p.items.items) same ∙ ends; lawful = lawful; equations = is }
made_with_ends program ended kept made.TooMany same ends lawful is = record { ended = kept; ends = ap (λ (p : Program). p.items.items) same ∙ ends; lawful = lawful; more = is }
made_with_ends program ended kept made.Refused same ends lawful is = absurd is

pub unlawful : (program ended : Program) (r : Refusal) → ended.items.items ≡ with_ends program.items.items → offence ended ≡ Some r → IsUnlawful program
unlawful program ended r ends breaks = record { ended = ended; ends = ends; unlawful = λ kept. (let both = sym kept ∙ breaks in cc) }

-- of a text's program
pub made_in : (text : List ℕ) (program : Program) (m : Equations) → IsRead text program → IsMade program m → IsMadeIn text m
made_in text program (made.Flat flat) read is = record { program = program; read = read; has = is }
made_in text program made.TooMany read is = record { program = program; read = read; has = is }
made_in text program made.Refused read is = inr (record { program = program; read = read; has = is })

pub made_cut : (spot : Spot) (cut : Cut) (program : Program) (m : Equations) → IsCutFront spot cut program → IsMade program m → IsMadeCut spot cut m
made_cut spot cut program (made.Flat flat) cut_off is = record { program = program; cut_off = cut_off; holds = is }
made_cut spot cut program made.TooMany cut_off is = record { program = program; cut_off = cut_off; holds = is }
made_cut spot cut program made.Refused cut_off is = inr (record { program = program; cut_off = cut_off; holds = is })

-- more equations than a number are more than a lesser one
pub fewer : (text : List ℕ) (count less : ℕ) → less ≤ count → HasMoreIn text count → HasMoreIn text less
fewer text count less below is = record {
  program = is.program;
  read = is.read;
  has = record { ended = is.has.ended; ends = is.has.ends; lawful = is.has.lawful; more = omega (arith, below, is.has.more) };
}

pub more_of_flat : (text : List ℕ) (flat : Flat) (count : ℕ) → HasFlatIn text flat → count < vec_len flat.equations → HasMoreIn text (min count 16384)
more_of_flat text flat count is more = record {
  program = is.program;
  read = is.read;
  has = record {
    ended = is.has.ended;
    ends = is.has.ends;
    lawful = is.has.lawful;
    more = omega (arith, more, flat.equations.ok.0, length-map flat.equations.items equation_shape, ap length is.has.equations);
  };
}

pub few_of_flat : (text : List ℕ) (flat : Flat) (count : ℕ) → HasFlatIn text flat → vec_len flat.equations ≤ count → HasNoMoreIn text count
few_of_flat text flat count is few = inr (record {
  program = is.program;
  read = is.read;
  ended = is.has.ended;
  ends = is.has.ends;
  few = λ kept. omega (arith, few, flat.equations.ok.0, length-map flat.equations.items equation_shape, ap length is.has.equations);
})

pub few_of_refused : (text : List ℕ) (count : ℕ) → IsUnread text ⊎ HasUnlawful text → HasNoMoreIn text count
few_of_refused text count (inl unread) = inl unread
few_of_refused text count (inr is) = inr (record { program = is.program; read = is.read; ended = is.has.ended; ends = is.has.ends; few = λ kept. absurd (is.has.unlawful kept) })
