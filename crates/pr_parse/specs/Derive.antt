-- The grammar as a relation on whole lists of tokens.
use Rattle.std.specs.Prelude.{◌≡◌, true, List, [], ◌∷◌, ◌++◌}
use Rattle.pr_lang.specs.Word.{Word, Pattern, fits}
use Rattle.pr_lang.specs.Grammar.{Rule, Action, Part, right}
use Rattle.pr_lang.specs.Grammar.{token, rule, make, then, or, maybe, many}
use Rattle.pr_parse.specs.Run.{act}
use Rattle.pr_lang.specs.Tree.{Tree}
use Rattle.pr_lang.specs.Tree as tree

-- the part derives these tokens, and turns the trees before into the trees after
pub data Derives : Part → List Word → List Tree → List Tree → Type 0 where
  IsToken : {p : Pattern} {k : Word} {ts : List Tree} →
      fits p k ≡ true → Derives (token p) (k ∷ []) ts (tree.word k ∷ ts)
  IsRule : {r : Rule} {ks : List Word} {ts us : List Tree} → Derives (right r) ks ts us → Derives (rule r) ks ts us
  IsMade : {a : Action} {ts : List Tree} → Derives (make a) [] ts (act a ts)
  IsThen : {p q : Part} {ks ls : List Word} {ts us vs : List Tree} →
      Derives p ks ts us → Derives q ls us vs → Derives (then p q) (ks ++ ls) ts vs
  IsFirst : {p q : Part} {ks : List Word} {ts us : List Tree} → Derives p ks ts us → Derives (or p q) ks ts us
  IsSecond : {p q : Part} {ks : List Word} {ts us : List Tree} → Derives q ks ts us → Derives (or p q) ks ts us
  IsAbsent : {p : Part} {ts : List Tree} → Derives (maybe p) [] ts ts
  IsThere : {p : Part} {ks : List Word} {ts us : List Tree} → Derives p ks ts us → Derives (maybe p) ks ts us
  IsLast : {p : Part} {ts : List Tree} → Derives (many p) [] ts ts
  IsRepeated : {p : Part} {ks ls : List Word} {ts us vs : List Tree} →
      Derives p ks ts us → Derives (many p) ls us vs → Derives (many p) (ks ++ ls) ts vs

-- several parts, one after the other
pub data DerivesAll : List Part → List Word → List Tree → List Tree → Type 0 where
  NoPart : {ts : List Tree} → DerivesAll [] [] ts ts
  OnePart : {p : Part} {ps : List Part} {ks ls : List Word} {ts us vs : List Tree} →
      Derives p ks ts us → DerivesAll ps ls us vs → DerivesAll (p ∷ ps) (ks ++ ls) ts vs
