-- What a reader of the code is to the machine.
use Rattle.std.specs.Prelude.{ℕ, ◌≡◌, ◌<◌, ◌≤◌, Bool, true, false, Option, Some, None, MatchOption, List, [], ◌∷◌, ◌++◌, length, map}
use Rattle.pr_lang.specs.declared.tokens.Symbol.{Symbol}
use Rattle.pr_lang.specs.declared.tokens.Token.{Token}
use Rattle.pr_lang.specs.Word.{Word, words, symbol, symbol_tag, among, Pattern, one_of, takes}
use Rattle.pr_lang.specs.Grammar.{Part}
use Rattle.pr_lang.specs.Machine.{next}
use Rattle.pr_lang.specs.Tree.{Tree}
use Rattle.pr_parse.specs.declared.fault.Fault.{Fault}
use Rattle.pr_parse.specs.declared.fault.Fault.TheVariants as fault
use Rattle.pr_parse.specs.Run.{run, WrongAt}

-- of the part, read from the tokens ks, the parts qs are still expected at the tokens rest, and the trees us were read
pub record Sofar (p : Part) (text : List ℕ) (ks rest : List Token) (qs : List Part) (us : List Tree) : Type 0 where
  pub runs : (ps : List Part) (ts : List Tree) →
      run (words text ks) (p ∷ ps) ts ≡ run (words text rest) (qs ++ ps) (us ++ ts)
  pub within : length rest ≤ length ks

-- the part was read whole, with one tree
abbrev pub IsRead : Part → List ℕ → List Token → List Token → Tree → Type 0
IsRead p text ks rest t = Sofar p text ks rest [] (t ∷ [])

-- what stands before any other part was read
abbrev pub IsFront : (Part → Part) → List ℕ → List Token → List Token → List Tree → Type 0
IsFront front text ks rest us = (q : Part) → Sofar (front q) text ks rest (q ∷ []) us

-- so many tokens are left, the first of which is wrong
pub record IsWrong (p : Part) (text : List ℕ) (ks : List Token) (n : ℕ) : Type 0 where
  pub runs : (ps : List Part) (ts : List Tree) → run (words text ks) (p ∷ ps) ts ≡ WrongAt n

abbrev pub Fails : Part → List ℕ → List Token → Fault → Type 0
Fails p text ks (fault.Wrong n) = IsWrong p text ks n
Fails p text ks (fault.Memory error) = Unit {0}

abbrev pub FrontFails : (Part → Part) → List ℕ → List Token → Fault → Type 0
FrontFails front text ks e = (q : Part) → Fails (front q) text ks e

-- the first token is this word
pub record IsTaken (w : Word) (text : List ℕ) (ks rest : List Token) : Type 0 where
  pub first : words text ks ≡ w ∷ words text rest
  pub shorter : length rest < length ks

-- the first token is not taken by this pattern
pub record IsNotTaken (p : Pattern) (text : List ℕ) (ks : List Token) (e : Fault) : Type 0 where
  pub place : e ≡ fault.Wrong (length ks)
  pub other : takes p (next (words text ks)) ≡ false

-- the operator of these whose sign has this number, or that none has it
abbrev pub IsFound : {Op : Type 0} → (Op → Symbol) → List Op → ℕ → Option Op → Type 0
IsFound sign ops tag found =
    MatchOption found (among tag (map sign ops) ≡ false)
    (λ op. (tag ≡ symbol_tag (sign op)) × (among tag (map sign ops) ≡ true))

-- an operator of these is taken, or none of them stands there
abbrev pub IsOperator : List Symbol → List ℕ → List Token → Option (Symbol × List Token) → Type 0
IsOperator ss text ks None = takes (one_of ss) (next (words text ks)) ≡ false
IsOperator ss text ks (Some found) = IsTaken (symbol found.0) text ks found.1 × (among (symbol_tag found.0) ss ≡ true)

-- what a test for a token tells
abbrev pub IsTest : Pattern → List ℕ → List Token → Bool → Type 0
IsTest p text ks b = b ≡ takes p (next (words text ks))
