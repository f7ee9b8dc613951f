-- The walk over a text that is not too long.
use Rattle.std.proofs.Common.{◌≡◌, ◌∙◌, ℕ, None, Some, List, sym, inr}
use Rattle.pr_lang.specs.declared.trees.Program.{Program}
use Rattle.pr_scope.specs.Walk.{broken, offence}
use Rattle.pr_compile_front.specs.Refusals.{IsRead}
use Rattle.pr_lens_find.specs.Fronts.{IsNotLong}

pub kept_short : (text : List ℕ) (program : Program) → IsRead text program → offence program ≡ None → IsNotLong text
kept_short text program read kept = inr (record { program = program; read = read; short = λ long. (let both = sym kept ∙ long in cc) })

pub broken_short : (text : List ℕ) (program : Program) (rule item : ℕ) → IsRead text program → offence program ≡ Some (broken rule item) → IsNotLong text
broken_short text program rule item read breaks = inr (record { program = program; read = read; short = λ long. (let both = sym breaks ∙ long in cc) })
