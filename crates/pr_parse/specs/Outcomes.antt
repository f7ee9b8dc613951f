-- What the parser answers, by the machine.
use Rattle.std.specs.Prelude.{ℕ, ◌-◌, ◌≡◌, ◌<◌, ◌≤◌, Option, Some, None, List, [], ◌∷◌, length, Result, Ok, Err}
use Rattle.pr_base.specs.declared.caps.Cap.TheVariants.{Nesting}
use Rattle.pr_lang.specs.declared.tokens.Token.{Token}
use Rattle.pr_lang.specs.declared.trees.Program.{Program}
use Rattle.pr_lang.specs.Word.{Word, words}
use Rattle.pr_lang.specs.Grammar.{rule, TheProgram}
use Rattle.pr_lang.specs.Tree.{Tree}
use Rattle.pr_lang.specs.Is.{Is}
use Rattle.pr_lang.specs.Shape.{program_shape}
use Rattle.pr_lang.specs.Syntax.{Refusal, AtToken, TooDeep, refusal_of_words}
use Rattle.pr_parse.specs.declared.fault.Fault.{Fault}
use Rattle.pr_parse.specs.declared.fault.Fault.TheVariants as fault
use Rattle.pr_parse.specs.declared.parser.ParseFault.{ParseFault}
use Rattle.pr_parse.specs.declared.parser.ParseFault.TheVariants.{Syntax, Limit, Memory}
use Rattle.pr_parse.specs.Run.{run, Built, WrongAt}

abbrev pub IsBuilt : List Word → Tree → Type 0
IsBuilt ws t = run ws (rule TheProgram ∷ []) [] ≡ Built (t ∷ [])

-- the machine stops with so many tokens left
pub record IsStopped (text : List ℕ) (ks : List Token) (n : ℕ) : Type 0 where
  pub runs : run (words text ks) (rule TheProgram ∷ []) [] ≡ WrongAt n
  pub within : n ≤ length ks

abbrev pub Stops : List ℕ → List Token → Fault → Type 0
Stops text ks (fault.Wrong n) = IsStopped text ks n
Stops text ks (fault.Memory error) = Unit {0}

-- the answer is this refusal, but for want of memory
abbrev pub IsRefused : Option Refusal → ParseFault → Type 0
IsRefused r (Syntax token) = r ≡ Some (AtToken token)
IsRefused r (Limit cap) = (cap ≡ Nesting) × (r ≡ Some TooDeep)
IsRefused r (Memory error) = Unit {0}

pub record IsAccepted (ws : List Word) (t : Tree) : Type 0 where
  pub program : Is TheProgram ws t
  pub unrefused : refusal_of_words ws ≡ None

abbrev pub IsAnswer : List Word → Result Program ParseFault → Type 0
IsAnswer ws (Ok q) = IsAccepted ws (program_shape q)
IsAnswer ws (Err e) = IsRefused (refusal_of_words ws) e

abbrev pub LeavesAtMost : ℕ → Fault → Type 0
LeavesAtMost end (fault.Wrong n) = n ≤ end
LeavesAtMost end (fault.Memory error) = Unit {0}

abbrev pub IsFaultAt : ℕ → Fault → ParseFault → Type 0
IsFaultAt end (fault.Wrong n) r = r ≡ Syntax (end - n)
IsFaultAt end (fault.Memory error) r = r ≡ Memory error

abbrev pub IsFaultBefore : ℕ → Fault → ParseFault → Type 0
IsFaultBefore place (fault.Wrong n) r = (n ≡ 0 → r ≡ Limit Nesting) × (0 < n → r ≡ Syntax (place - n))
IsFaultBefore place (fault.Memory error) r = r ≡ Memory error
