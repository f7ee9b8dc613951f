-- What is answered where the machine ended so.
use Rattle.std.proofs.Common.{◌≡◌, ℕ, zero, suc, ◌-◌, ◌+◌, ◌<◌, ◌≤◌, Some, None, Result, Ok, Err, IfOk, IfErr, OnOk, List, [], ◌∷◌, length, take, refl, sym, ap, subst, ◌∙◌, arith}
use Rattle.std.proofs.lemmas.List.{take-map}
use Rattle.pr_lang.specs.declared.tokens.Token.{Token}
use Rattle.pr_lang.specs.Word.{Word, words, word_of}
use Rattle.pr_lang.specs.Grammar.{rule, TheProgram}
use Rattle.pr_lang.specs.Load.{first_deep}
use Rattle.pr_lang.specs.declared.tokens.Kind.TheVariants.{Bad}
use Rattle.pr_lang.specs.Tokens.{tokens_from, token, Piece, Gap, Whole, Broken, piece_from}
use Rattle.pr_lang.specs.Tree.{Tree}
use Rattle.pr_lang.specs.Syntax.{AtToken, TooDeep, refusal_of_words}
use Rattle.pr_parse.specs.declared.fault.Fault.{Fault}
use Rattle.pr_parse.specs.declared.fault.Fault.TheVariants as fault
use Rattle.pr_parse.specs.declared.parser.ParseFault.{ParseFault}
use Rattle.pr_lang.specs.declared.trees.Program.{Program}
use Rattle.pr_lang.specs.Is.{Is}
use Rattle.pr_lang.specs.Shape.{program_shape}
use Rattle.pr_parse.specs.Run.{WrongAt, run}
use Rattle.pr_parse.specs.Reads.{IsRead, Fails}
use Rattle.pr_parse.specs.Outcomes.{IsBuilt, IsStopped, Stops, IsRefused, LeavesAtMost, IsFaultAt, IsFaultBefore, IsAnswer}
use Rattle.pr_parse.proofs.Main.{no_part, wrong_within, run-over, refused_wrong, refused_near, refused_deep, refused_deep_built}

length-words : (text : List ℕ) (ks : List Token) → length (words text ks) ≡ length ks
length-words text [] = refl
length-words text (k ∷ ks) = omega (arith, length-words text ks)

pub stops : (text : List ℕ) (ks : List Token) (e : Fault) → Fails (rule TheProgram) text ks e → Stops text ks e
stops text ks (fault.Wrong n) r = record { runs = r.runs [] []; within = omega (arith, wrong_within (words text ks) n (r.runs [] []), length-words text ks) }
stops text ks (fault.Memory error) r = tt

pub built_whole : (text : List ℕ) (ks rest : List Token) (t : Tree) → length rest ≡ 0 → IsRead (rule TheProgram) text ks rest t → IsBuilt (words text ks) t
built_whole text ks [] t h r = r.runs [] [] ∙ no_part (t ∷ [])
built_whole text ks (x ∷ xs) t h r = absurd (omega arith)

pub stopped_whole : (text : List ℕ) (ks rest : List Token) (t : Tree) (n : ℕ) → n ≡ length rest → 0 < n → IsRead (rule TheProgram) text ks rest t → IsStopped text ks n
stopped_whole text ks [] t n e h r = absurd (omega arith)
stopped_whole text ks (x ∷ xs) t n e h r = record {
  runs = r.runs [] [] ∙ run-over (word_of text x) (words text xs) (t ∷ []) ∙ ap (λ (n : ℕ). WrongAt n) (omega (arith, length-words text xs));
  within = omega (arith, r.within);
}

pub leaves : (text : List ℕ) (ks : List Token) (end : ℕ) (e : Fault) → length ks ≤ end → Stops text ks e → LeavesAtMost end e
leaves text ks end (fault.Wrong n) h s = omega (arith, s.within)
leaves text ks end (fault.Memory error) h s = tt

pub all_refused : (text : List ℕ) (ks : List Token) (e : Fault) (r : ParseFault) → first_deep (words text ks) ≡ None → Stops text ks e → IsFaultAt (length ks) e r → IsRefused (refusal_of_words (words text ks)) r
all_refused text ks (fault.Wrong n) r d s f =
    let place : length (words text ks) - n ≡ length ks - n = ap (λ (m : ℕ). m - n) (length-words text ks) in
    let P : ParseFault → Type 0 = λ x. IsRefused (refusal_of_words (words text ks)) x in
    subst P (sym f) (refused_wrong (words text ks) n d s.runs ∙ ap (λ (m : ℕ). Some (AtToken m)) place)
all_refused text ks (fault.Memory error) r d s f = subst (IsRefused (refusal_of_words (words text ks))) (sym f) tt

-- the tokens before a deep one
module _ (text : List ℕ) (ks near : List Token) (place : ℕ) (d : first_deep (words text ks) ≡ Some place) (w : place ≤ length ks) (n : near ≡ take place ks) where
  front : words text near ≡ take place (words text ks)
  front = ap (words text) n ∙ sym (take-map (word_of text) place ks)

  within : place ≤ length (words text ks)
  within = omega (arith, length-words text ks)

  pub deep_built : (t : Tree) → IsBuilt (words text near) t → refusal_of_words (words text ks) ≡ Some TooDeep
  deep_built t b = refused_deep_built (words text ks) place (t ∷ []) d within (ap (λ l. run l (rule TheProgram ∷ []) []) (sym front) ∙ b)

  pub front_refused : (e : Fault) (r : ParseFault) → Stops text near e → LeavesAtMost place e → IsFaultBefore place e r → IsRefused (refusal_of_words (words text ks)) r
  front_refused (fault.Wrong zero) r s l f = let P : ParseFault → Type 0 = λ x. IsRefused (refusal_of_words (words text ks)) x in subst P (sym (f.0 refl)) (refl, refused_deep (words text ks) place d within (ap (λ l. run l (rule TheProgram ∷ []) []) (sym front) ∙ s.runs))
  front_refused (fault.Wrong (suc n)) r s l f = let P : ParseFault → Type 0 = λ x. IsRefused (refusal_of_words (words text ks)) x in subst P (sym (f.1 (omega arith))) (refused_near (words text ks) place (suc n) d within (omega arith) l (ap (λ l. run l (rule TheProgram ∷ []) []) (sym front) ∙ s.runs))
  front_refused (fault.Memory error) r s l f = subst (IsRefused (refusal_of_words (words text ks))) (sym f) tt

-- no text has more tokens than bytes, but for the last one
pub length-tokens_from : (place skip : ℕ) (cs : List ℕ) → length (tokens_from place skip cs) ≤ length cs + 1
unfolding tokens_from
length-tokens_from place skip [] = omega arith
length-tokens_from place (suc skip) (c ∷ cs) = omega (arith, length-tokens_from (suc place) skip cs)
length-tokens_from place zero (c ∷ cs) = go (λ n. length-tokens_from (suc place) n cs) (piece_from c (c ∷ cs))
  where
    go : ((n : ℕ) → length (tokens_from (suc place) n cs) ≤ length cs + 1) → (m : Piece) → length {A = Token} (elim m [ Gap size ↦ tokens_from (suc place) (size - 1) cs | Whole kind size ↦ token kind place size ∷ tokens_from (suc place) (size - 1) cs | Broken size ↦ token Bad place size ∷ [] ]) ≤ length (c ∷ cs) + 1
    go ih (Gap size) = omega (arith, ih (size - 1))
    go ih (Whole kind size) = omega (arith, ih (size - 1))
    go ih (Broken size) = omega arith

-- ---- the answer, by the words of the text

pub program_of_answer : (ws vs : List Word) (r : Result Program ParseFault) → ws ≡ vs → IsAnswer ws r → IfOk r (λ q. Is TheProgram vs (program_shape q))
program_of_answer ws vs (Ok q) e h = subst (λ l. Is TheProgram l (program_shape q)) e h.program
program_of_answer ws vs (Err f) e h = tt

pub accepted_of_answer : (ws vs : List Word) (r : Result Program ParseFault) → ws ≡ vs → IsAnswer ws r → OnOk r (refusal_of_words vs ≡ None)
accepted_of_answer ws vs (Ok q) e h = ap refusal_of_words (sym e) ∙ h.unrefused
accepted_of_answer ws vs (Err f) e h = tt

pub refused_of_answer : (ws vs : List Word) (r : Result Program ParseFault) → ws ≡ vs → IsAnswer ws r → IfErr r (λ f. IsRefused (refusal_of_words vs) f)
refused_of_answer ws vs (Ok q) e h = tt
refused_of_answer ws vs (Err f) e h = let P : List Word → Type 0 = λ l. IsRefused (refusal_of_words l) f in subst P e h

pub refused_along : (ws vs : List Word) (f : ParseFault) → ws ≡ vs → IsRefused (refusal_of_words ws) f → IsRefused (refusal_of_words vs) f
refused_along ws vs f e h = let P : List Word → Type 0 = λ l. IsRefused (refusal_of_words l) f in subst P e h
