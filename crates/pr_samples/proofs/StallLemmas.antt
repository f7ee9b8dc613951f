-- The turns of a stall text, byte by byte.
use Rattle.std.proofs.Common.{◌≡◌, ℕ, suc, ◌+◌, ◌<◌, ◌≤◌, List, [], ◌∷◌, drop, length, get_or, add-one, drop-cons, Option, Some, None, refl, ap, sym, ◌∙◌, arith}
use Rattle.std.proofs.lemmas.List.{drop_all}
use Rattle.pr_samples.specs.declared.stall.Held.{Held}
use Rattle.pr_samples.specs.Stall.{turn_of, turns_of}

turns_of-cons : (b : ℕ) (text : List ℕ) (o : Option Held) → turn_of b ≡ o → turns_of (b ∷ text) ≡ (elim o as (λ x. List Held) [ None ↦ turns_of text | Some t ↦ t ∷ turns_of text ])
unfolding turns_of
turns_of-cons b text None e = rw e refl
turns_of-cons b text (Some t) e = rw e refl

at_drop : (i b : ℕ) (text : List ℕ) → i < length text → b ≡ get_or text i b → drop i text ≡ b ∷ drop (i + 1) text
at_drop i b text h is = rw add-one (drop-cons text i b h ∙ ap (λ x. x ∷ drop (suc i) text) (sym is))

-- a byte that is no turn
pub turns_of-skip : (i b : ℕ) (text : List ℕ) → i < length text → b ≡ get_or text i b → turn_of b ≡ None → turns_of (drop (i + 1) text) ≡ turns_of (drop i text)
turns_of-skip i b text h is e = sym (ap turns_of (at_drop i b text h is) ∙ turns_of-cons b (drop (i + 1) text) None e)

-- a byte that is one
pub turns_of-turn : (i b : ℕ) (text : List ℕ) (t : Held) → i < length text → b ≡ get_or text i b → turn_of b ≡ Some t → turns_of (drop i text) ≡ t ∷ turns_of (drop (i + 1) text)
turns_of-turn i b text t h is e = ap turns_of (at_drop i b text h is) ∙ turns_of-cons b (drop (i + 1) text) (Some t) e

-- no bytes are left
pub turns_of-end : (i : ℕ) (text : List ℕ) → length text ≤ i → turns_of (drop i text) ≡ []
unfolding turns_of
turns_of-end i text h = rw (drop_all i text h) refl

-- a text has no more turns than bytes
with_turn-le : (o : Option Held) (n : ℕ) (turns : List Held) → length turns ≤ n → length (elim o as (λ x. List Held) [ None ↦ turns | Some t ↦ t ∷ turns ]) ≤ suc n
with_turn-le None n turns h = omega (arith, h)
with_turn-le (Some t) n turns h = omega (arith, h)

pub turns_of-le : (text : List ℕ) → length (turns_of text) ≤ length text
turns_of-le [] = rw (turns_of-end 0 [] (omega arith)) (omega arith)
turns_of-le (b ∷ text) = rw (turns_of-cons b text (turn_of b) refl) (with_turn-le (turn_of b) (length text) (turns_of text) (turns_of-le text))
