-- The words of what follows a place of a text, without the place.
use Rattle.std.proofs.Common.{◌≡◌, ℕ, zero, suc, ◌+◌, ◌-◌, List, [], ◌∷◌, take, drop, drop-drop, refl, sym, ap, ap₂, ◌∙◌, arith}
use Rattle.pr_lang.specs.declared.tokens.Kind.TheVariants.{Bad}
use Rattle.pr_lang.specs.Tokens.{Piece, Gap, Whole, Broken, piece_from, token, tokens_from}
use Rattle.pr_lang.specs.Word.{Word, ending, broken, word_by, words, words_of}

-- so many bytes belong to the piece before
unfoldable pub lexed : ℕ → List ℕ → List Word
lexed skip [] = ending ∷ []
lexed (suc skip) (c ∷ cs) = lexed skip cs
lexed zero (c ∷ cs) = elim (piece_from c (c ∷ cs)) [
  | Gap size ↦ lexed (size - 1) cs
  | Whole kind size ↦ word_by (take size (c ∷ cs)) kind ∷ lexed (size - 1) cs
  | Broken size ↦ broken ∷ []
]

one_on : (text : List ℕ) (place c : ℕ) (cs : List ℕ) → drop place text ≡ c ∷ cs → drop (suc place) text ≡ cs
one_on text place c cs e =
    let n : suc place ≡ place + 1 = omega arith in
    ap (λ k. drop k text) n ∙ sym (drop-drop 1 place text) ∙ ap (drop 1) e

words-lexed : (text : List ℕ) (place skip : ℕ) (rest : List ℕ) → drop place text ≡ rest → words text (tokens_from place skip rest) ≡ lexed skip rest
unfolding tokens_from lexed
words-lexed text place skip [] e = refl
words-lexed text place (suc skip) (c ∷ cs) e = words-lexed text (suc place) skip cs (one_on text place c cs e)
words-lexed text place zero (c ∷ cs) e = go (λ n. words-lexed text (suc place) n cs (one_on text place c cs e)) (piece_from c (c ∷ cs))
  where
    go : ((n : ℕ) → words text (tokens_from (suc place) n cs) ≡ lexed n cs) → (p : Piece)
        → words text (elim p [ Gap size ↦ tokens_from (suc place) (size - 1) cs | Whole kind size ↦ token kind place size ∷ tokens_from (suc place) (size - 1) cs | Broken size ↦ token Bad place size ∷ [] ])
        ≡ elim p [ Gap size ↦ lexed (size - 1) cs | Whole kind size ↦ word_by (take size (c ∷ cs)) kind ∷ lexed (size - 1) cs | Broken size ↦ broken ∷ [] ]
    go ih (Gap size) = ih (size - 1)
    go ih (Whole kind size) =
        let n : (place + size) - place ≡ size = omega arith in
        ap₂ (λ (w : Word) (ws : List Word). w ∷ ws) (ap (λ l. word_by l kind) (ap (λ k. take k (drop place text)) n ∙ ap (take size) e)) (ih (size - 1))
    go ih (Broken size) = refl

pub words_of-lexed : (text : List ℕ) → words_of text ≡ lexed 0 text
words_of-lexed text = words-lexed text 0 0 text refl
