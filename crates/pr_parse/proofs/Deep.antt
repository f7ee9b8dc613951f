-- A deep token stands among the tokens.
use Rattle.std.proofs.Common.{◌≡◌, ℕ, ◌+◌, ◌<◌, ◌≤◌, Bool, true, false, cond, nat_lt, Some, List, [], ◌∷◌, length, refl, arith}
use Rattle.pr_lang.specs.declared.tokens.Token.{Token}
use Rattle.pr_lang.specs.Word.{Word, words}
use Rattle.pr_lang.specs.Load.{Loads, after_word, deep_from, first_deep}

-- a deep token is one of the list
deep_below : (i : ℕ) (s : Loads) (ws : List Word) (d : ℕ) → deep_from i s ws ≡ Some d → d < i + length ws
deep_below i s [] d e = absurd cc
deep_below i s (w ∷ ws) d e = go (λ f. deep_below (i + 1) (after_word w s) ws d f) (nat_lt 256 (after_word w s).load) e
  where
    go : (deep_from (i + 1) (after_word w s) ws ≡ Some d → d < i + 1 + length ws) → (b : Bool) → cond b (Some i) (deep_from (i + 1) (after_word w s) ws) ≡ Some d → d < i + length (w ∷ ws)
    go ih true f = let same : i ≡ d = cc in omega arith
    go ih false f = let h = ih f in omega arith

pub deep_within : (text : List ℕ) (ts : List Token) (d : ℕ) → first_deep (words text ts) ≡ Some d → d ≤ length ts
deep_within text ts d e = let h = deep_below 0 (record { load = 0; stack = [] }) (words text ts) d e in omega (arith, length-words ts)
  where
    length-words : (l : List Token) → length (words text l) ≡ length l
    length-words [] = refl
    length-words (t ∷ l) = omega (arith, length-words l)
