-- The machine of the wrong token, with the trees that it builds as it reads: the last one first.
use Rattle.std.specs.Prelude.{ℕ, suc, List, [], ◌∷◌, ◌++◌, Option, Some, None, length}
use Rattle.pr_lang.specs.Word.{Word}
use Rattle.pr_lang.specs.Grammar.{Action, Part}
use Rattle.pr_lang.specs.Grammar.{MakeProgram, Begin, Append, AppendAfterComma, NoWidth, MakeWidth, NoIndex, MakeIndex, MakeRefer, MakeParam, MakeInput, MakeOutput, MakeTable, MakeConst, MakeFunction, MakeLet, MakeRec, MakeFor, MakeChoose, MakeBinary, MakeNot, MakeSlice, MakeParen, MakeCat, MakeCall, MakeDelay}
use Rattle.pr_lang.specs.Machine.{meet}
use Rattle.pr_lang.specs.Machine.{Taken, Gone, Wrong}
use Rattle.pr_lang.specs.Tree.{Tree}
use Rattle.pr_lang.specs.Tree as tree

-- the trees after an action: words that a tree stands for are dropped
abbrev pub act : Action → List Tree → List Tree
act MakeProgram (end ∷ l ∷ ts) = l ∷ ts
act Begin ts = tree.none ∷ ts
act Append (t ∷ l ∷ ts) = tree.more l t ∷ ts
act AppendAfterComma (t ∷ comma ∷ l ∷ ts) = tree.also l t ∷ ts
act NoWidth ts = tree.no_width ∷ ts
act MakeWidth (w ∷ colon ∷ absent ∷ ts) = tree.width w ∷ ts
act NoIndex ts = tree.no_index ∷ ts
act MakeIndex (close ∷ i ∷ start ∷ absent ∷ ts) = tree.index i ∷ ts
act MakeRefer (i ∷ x ∷ ts) = tree.refer x i ∷ ts
act MakeParam (w ∷ x ∷ ts) = tree.param x w ∷ ts
act MakeInput (semi ∷ w ∷ colon ∷ x ∷ keyword ∷ ts) = tree.input x w ∷ ts
act MakeOutput (semi ∷ e ∷ assign ∷ w ∷ x ∷ keyword ∷ ts) = tree.output x w e ∷ ts
act MakeTable (close ∷ l ∷ start ∷ ts) = tree.table l ∷ ts
act MakeConst (semi ∷ c ∷ assign ∷ x ∷ keyword ∷ ts) = tree.const x c ∷ ts
act MakeFunction (end ∷ semi ∷ e ∷ return ∷ b ∷ curly ∷ w ∷ close ∷ p ∷ start ∷ x ∷ keyword ∷ ts) =
    tree.function x p w b e ∷ ts
act MakeLet (semi ∷ e ∷ assign ∷ w ∷ r ∷ keyword ∷ ts) = tree.let_stmt r w e ∷ ts
act MakeRec (semi ∷ e ∷ by ∷ c ∷ assign ∷ w ∷ r ∷ keyword ∷ ts) = tree.rec_stmt r w c e ∷ ts
act MakeFor (end ∷ b ∷ curly ∷ d ∷ dots ∷ c ∷ within ∷ x ∷ keyword ∷ ts) = tree.for_stmt x c d b ∷ ts
act MakeChoose (b ∷ colon ∷ a ∷ ask ∷ c ∷ ts) = tree.choose c a b ∷ ts
act MakeBinary (b ∷ s ∷ a ∷ ts) = tree.binary s a b ∷ ts
act MakeNot (a ∷ tilde ∷ ts) = tree.not a ∷ ts
act MakeSlice (end ∷ l ∷ dots ∷ h ∷ start ∷ a ∷ ts) = tree.slice a h l ∷ ts
act MakeParen (close ∷ a ∷ start ∷ ts) = tree.paren a ∷ ts
act MakeCat (close ∷ l ∷ start ∷ keyword ∷ ts) = tree.cat l ∷ ts
act MakeCall (close ∷ l ∷ start ∷ x ∷ ts) = tree.call x l ∷ ts
act MakeDelay (d ∷ at ∷ r ∷ ts) = tree.delay r d ∷ ts
act _ ts = ts

abbrev pub all : List Action → List Tree → List Tree
all [] ts = ts
all (a ∷ acts) ts = all acts (act a ts)

-- one word: it is taken, and this is left; or nothing was expected any more; or it is wrong
pub data Advance : Type 0 where
  Next : List Part → List Tree → Advance
  Empty : List Tree → Advance
  Stop : Advance

-- meets the part on top of the stack
unfoldable pub advance : Option Word → List Part → List Tree → Advance
advance o [] ts = Empty ts
advance o (p ∷ ps) ts = elim (meet o p) [
  | Taken acts qs ↦ Next (qs ++ ps) (all acts ts)
  | Gone acts ↦ advance o ps (all acts ts)
  | Wrong ↦ Stop
]

-- how it ends: with these trees, or with so many words left, the first of which is wrong
pub data Outcome : Type 0 where
  Built : List Tree → Outcome
  WrongAt : ℕ → Outcome

abbrev pub ended : Advance → Outcome
ended (Next ps ts) = WrongAt 0
ended (Empty ts) = Built ts
ended Stop = WrongAt 0

unfoldable pub run : List Word → List Part → List Tree → Outcome
run [] ps ts = ended (advance None ps ts)
run (w ∷ ws) ps ts = elim (advance (Some w) ps ts) [
  | Next qs us ↦ run ws qs (tree.word w ∷ us)
  | Empty us ↦ WrongAt (suc (length ws))
  | Stop ↦ WrongAt (suc (length ws))
]
