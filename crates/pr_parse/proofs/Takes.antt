-- Tokens and the words that they are.
use Rattle.std.proofs.Common.{◌≡◌, ℕ, ◌<◌, true, false, nat_eq, Some, None, List, [], ◌∷◌, refl, sym, ap, ◌∙◌, arith, eq-eqb, inl, inr, slice_range}
use Rattle.std.proofs.lemmas.Bool.Decides.{eqb_tells}
use Rattle.pr_lang.specs.declared.tokens.Kind.{Kind}
use Rattle.pr_lang.specs.declared.tokens.Kind.TheVariants as kind
use Rattle.pr_lang.specs.declared.tokens.Symbol.{Symbol}
use Rattle.pr_lang.specs.declared.tokens.Token.{Token}
use Rattle.pr_lang.specs.Word.{Word, words, word_of, word_by, symbol, tag, keyword_tag, symbol_tag, among, fits, takes}
use Rattle.pr_lang.specs.Machine.{next}
use Rattle.pr_parse.specs.Kinds.{kind_tag, first_kind, pattern_of, word_of_kind}
use Rattle.pr_parse.specs.Reads.{IsTaken, IsOperator}
use Rattle.pr_parse.proofs.Typed.{same_word, symbol_above}

pub tag-word_by : (bytes : List ℕ) (k : Kind) → tag (word_by bytes k) ≡ kind_tag k
tag-word_by bytes kind.Name = refl
tag-word_by bytes (kind.Number n) = refl
tag-word_by bytes kind.End = refl
tag-word_by bytes kind.Bad = refl
tag-word_by bytes (kind.Word k) = refl
tag-word_by bytes (kind.Mark s) = refl

-- a pattern tests for one number, but for Bad's
fits-pattern : (k : Kind) (w : Word) → 3 < kind_tag k → fits (pattern_of k) w ≡ nat_eq (tag w) (kind_tag k)
fits-pattern kind.Name w h = absurd (omega arith)
fits-pattern (kind.Number m) w h = absurd (omega arith)
fits-pattern kind.End w h = absurd (omega arith)
fits-pattern kind.Bad w h = absurd (omega arith)
fits-pattern (kind.Word k) w h = refl
fits-pattern (kind.Mark s) w h = refl

pub is_test : (k : Kind) (text : List ℕ) (ks : List Token) → 3 < kind_tag k → nat_eq (kind_tag (first_kind ks)) (kind_tag k) ≡ takes (pattern_of k) (next (words text ks))
is_test k text [] h = elim (eqb_tells 3 (kind_tag k)) [ inl t ↦ absurd (omega (arith, t.1)) | inr t ↦ t.0 ]
is_test k text (t ∷ ts) h = ap (λ n. nat_eq n (kind_tag k)) (sym (tag-word_by (slice_range text t.start t.end) t.kind)) ∙ sym (fits-pattern k (word_of text t) h)

-- an operator found by its number
pub sign_taken : (s : Symbol) (text : List ℕ) (t : Token) (ts : List Token) → kind_tag t.kind ≡ symbol_tag s → IsTaken (symbol s) text (t ∷ ts) ts
sign_taken s text t ts e = record {
  first = ap (λ w. w ∷ words text ts) (same_word (symbol s) (word_of text t) (symbol_above s) (eq-eqb (tag (word_of text t)) (symbol_tag s) (tag-word_by (slice_range text t.start t.end) t.kind ∙ e)));
  shorter = omega arith;
}

pub sign_among : (ss : List Symbol) (s : Symbol) (text : List ℕ) (t : Token) (ts : List Token) → kind_tag t.kind ≡ symbol_tag s → among (kind_tag t.kind) ss ≡ true → IsOperator ss text (t ∷ ts) (Some (s, ts))
sign_among ss s text t ts e h = (sign_taken s text t ts e, ap (λ n. among n ss) (sym e) ∙ h)

pub no_sign : (ss : List Symbol) (text : List ℕ) (t : Token) (ts : List Token) → among (kind_tag t.kind) ss ≡ false → IsOperator ss text (t ∷ ts) None
no_sign ss text t ts h = ap (λ n. among n ss) (tag-word_by (slice_range text t.start t.end) t.kind) ∙ h

-- a keyword or a symbol is taken by its own pattern
pub fits_lead : (k : Kind) → 3 < kind_tag k → fits (pattern_of k) (word_of_kind k) ≡ true
fits_lead kind.Name h = absurd (omega arith)
fits_lead (kind.Number m) h = absurd (omega arith)
fits_lead kind.End h = absurd (omega arith)
fits_lead kind.Bad h = absurd (omega arith)
fits_lead (kind.Word k) h = eq-eqb (keyword_tag k) (keyword_tag k) refl
fits_lead (kind.Mark s) h = eq-eqb (symbol_tag s) (symbol_tag s) refl
