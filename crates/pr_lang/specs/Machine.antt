-- The wrong token: words are read from the left, with a stack of the parts that are still expected.
use Rattle.std.specs.Prelude.{ℕ, zero, suc, ◌-◌, Bool, true, false, cond, Option, Some, None, List, [], ◌∷◌, ◌++◌, length}
use Rattle.pr_lang.specs.Word.{Word, takes}
use Rattle.pr_lang.specs.Grammar.{Rule, Action, Part, right, TheProgram}
use Rattle.pr_lang.specs.Grammar.{token, rule, make, then, or, maybe, many}

-- What becomes of a part at a word: the word is taken, and these parts are left of it; the part goes; or the word is wrong.
-- In the first two cases these actions are done before.
pub data Met : Type 0 where
  Taken : List Action → List Part → Met
  Gone : List Action → Met
  Wrong : Met

-- a part can begin with the word that it takes
abbrev pub can_begin : Met → Bool
can_begin (Taken acts ps) = true
can_begin (Gone acts) = false
can_begin Wrong = false

abbrev pub after_actions : List Action → Met → Met
after_actions bs (Taken acts ps) = Taken (bs ++ acts) ps
after_actions bs (Gone acts) = Gone (bs ++ acts)
after_actions bs Wrong = Wrong

-- a part in `[ ]` goes where its content cannot begin with the word
abbrev pub optional : Met → Met
optional (Taken acts ps) = Taken acts ps
optional (Gone acts) = Gone []
optional Wrong = Gone []

-- a part in `{ }` too, and else it follows its content
abbrev pub repeated : Met → Part → Met
repeated (Taken acts ps) p = Taken acts (ps ++ many p ∷ [])
repeated (Gone acts) p = Gone []
repeated Wrong p = Gone []

-- of two alternatives the one that can begin with the word; where none can, the word is wrong, which the second one finds too
abbrev pub meet_in : (Rule → Met) → Option Word → Part → Met
meet_in rules o (token p) = cond (takes p o) (Taken [] []) Wrong
meet_in rules o (rule r) = rules r
meet_in rules o (make a) = Gone (a ∷ [])
meet_in rules o (then p q) = elim (meet_in rules o p) [
  | Taken acts ps ↦ Taken acts (ps ++ q ∷ [])
  | Gone acts ↦ after_actions acts (meet_in rules o q)
  | Wrong ↦ Wrong
]
meet_in rules o (or p q) = elim (meet_in rules o p) [
  | Taken acts ps ↦ Taken acts ps
  | Gone acts ↦ meet_in rules o q
  | Wrong ↦ meet_in rules o q
]
meet_in rules o (maybe p) = optional (meet_in rules o p)
meet_in rules o (many p) = repeated (meet_in rules o p) p

-- A rule is replaced by its right side. No rule leads back to itself before a word is taken, and the longest way down has twelve
-- rules, so this depth is enough; `meet o (rule r) ≡ meet o (right r)` says so of each.
unfoldable pub meet_rule : ℕ → Option Word → Rule → Met
meet_rule zero o r = Wrong
meet_rule (suc n) o r = meet_in (meet_rule n o) o (right r)

unfoldable pub meet : Option Word → Part → Met
meet o p = meet_in (meet_rule 16 o) o p

-- the next word, where there is one
abbrev pub next : List Word → Option Word
next [] = None
next (w ∷ ws) = Some w

-- whether a part can begin with it
abbrev pub begins : Part → List Word → Bool
begins p ws = can_begin (meet (next ws) p)

-- the stack after a word: the word is taken, and these parts are expected; nothing was expected any more; or the word is wrong
pub data Moved : Type 0 where
  Go : List Part → Moved
  Over : Moved
  Halt : Moved

unfoldable pub moved : Option Word → List Part → Moved
moved o [] = Over
moved o (p ∷ ps) = elim (meet o p) [
  | Taken acts qs ↦ Go (qs ++ ps)
  | Gone acts ↦ moved o ps
  | Wrong ↦ Halt
]

abbrev pub at_end : Moved → Option ℕ
at_end (Go ps) = Some 0
at_end Over = None
at_end Halt = Some 0

-- how many words are left where the first of them is wrong
unfoldable pub left_over : List Word → List Part → Option ℕ
left_over [] ps = at_end (moved None ps)
left_over (w ∷ ws) ps = elim (moved (Some w) ps) [
  | Go qs ↦ left_over ws qs
  | Over ↦ Some (suc (length ws))
  | Halt ↦ Some (suc (length ws))
]

abbrev pub place_of : List Word → Option ℕ → Option ℕ
place_of ws None = None
place_of ws (Some left) = Some (length ws - left)

-- the place of the wrong word of a program; the stack first holds `program` alone
unfoldable pub first_wrong : List Word → Option ℕ
first_wrong ws = place_of ws (left_over ws (rule TheProgram ∷ []))
