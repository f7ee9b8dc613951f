-- Faults that are refusals, and the tokens that they name.
use Rattle.std.proofs.Common.{◌≡◌, ◌≤◌, ◌-◌, ℕ, Bool, List, [], ◌∷◌, Option, Some, None, length, min, nat_lt, cond, true, false, refl, arith}
use Rattle.std.proofs.lemmas.List.{length-map}
use Rattle.std.specs.declared.alloc.AllocError.{AllocError}
use Rattle.pr_lang.specs.Word.{Word, word_of, words_of}
use Rattle.pr_lang.specs.Tokens.{tokens_of}
use Rattle.pr_lang.specs.Machine.{first_wrong, place_of, left_over}
use Rattle.pr_lang.specs.Load.{first_deep}
use Rattle.pr_lang.specs.Grammar.{rule, TheProgram}
use Rattle.pr_lang.specs.Syntax.{AtToken, TooDeep, earlier, refusal_of_words}
use Rattle.pr_compile.specs.declared.faults.CompileFault.{CompileFault}
use Rattle.pr_compile.specs.declared.faults.CompileFault.TheVariants.{Syntax, Scope, NoWidth, NoFit, Limit, Memory}
use Rattle.pr_compile.specs.Refusals.{IsRefused, IsCompileAnswer}
use Rattle.pr_lens_why.specs.Verdicts.{PointsRight}

-- an answer that is no want of memory is a refusal
pub refusal_of : (N P : ℕ) (narrowed : Bool) (text : List ℕ) (e : CompileFault) → ((x : AllocError) → e ≡ Memory x → ⊥) → IsCompileAnswer N P narrowed text e → IsRefused N P narrowed text e
refusal_of N P narrowed text (Syntax token) not is = is
refusal_of N P narrowed text (Scope number item) not is = is
refusal_of N P narrowed text (NoWidth equation) not is = is
refusal_of N P narrowed text (NoFit unit) not is = is
refusal_of N P narrowed text (Limit which) not is = is
refusal_of N P narrowed text (Memory x) not is = absurd (not x refl)

-- ---- a wrong token is one of the text's tokens
place_within : (ws : List Word) (left : Option ℕ) (k : ℕ) → place_of ws left ≡ Some k → k ≤ length ws
place_within ws None k e = absurd (cc)
place_within ws (Some left) k e = let is : length ws - left ≡ k = cc in omega arith

wrong_within : (ws : List Word) (k : ℕ) → first_wrong ws ≡ Some k → k ≤ length ws
unfolding first_wrong
wrong_within ws k e = place_within ws (left_over ws (rule TheProgram ∷ [])) k e

chosen : (b : Bool) (wrong k : ℕ) → cond b (Some (AtToken wrong)) (Some TooDeep) ≡ Some (AtToken k) → Some wrong ≡ Some k
chosen true wrong k e = cc
chosen false wrong k e = absurd (cc)

earlier_is : (deep wrong : Option ℕ) (k : ℕ) → earlier deep wrong ≡ Some (AtToken k) → wrong ≡ Some k
earlier_is None None k e = absurd (cc)
earlier_is None (Some wrong) k e = cc
earlier_is (Some deep) None k e = absurd (cc)
earlier_is (Some deep) (Some wrong) k e = chosen (nat_lt wrong deep) wrong k e

pub token_within : (text : List ℕ) (k : ℕ) → refusal_of_words (words_of text) ≡ Some (AtToken k) → k ≤ length (tokens_of text)
token_within text k e =
    let within : k ≤ length (words_of text) = wrong_within (words_of text) k (earlier_is (first_deep (words_of text)) (first_wrong (words_of text)) k e) in
    let same : length (words_of text) ≡ length (tokens_of text) = length-map (tokens_of text) (word_of text) in
    omega arith

-- the token of a refusal is not cut off at the end
pub points_right : (N P : ℕ) (narrowed : Bool) (text : List ℕ) (e : CompileFault) (token : ℕ) → IsRefused N P narrowed text e → PointsRight e token → PointsRight e (min token (length (tokens_of text)))
points_right N P narrowed text (Syntax wrong) token refused right = let h = token_within text wrong refused in omega arith
points_right N P narrowed text (Scope number item) token refused right = tt
points_right N P narrowed text (NoWidth equation) token refused right = tt
points_right N P narrowed text (NoFit unit) token refused right = tt
points_right N P narrowed text (Limit which) token refused right = tt
points_right N P narrowed text (Memory x) token refused right = tt
