-- Words that a text gains one after the other.
use Rattle.std.proofs.Common.{◌≡◌, ℕ, List, [], ◌∷◌, ◌++◌, sym, ap, ◌∙◌, append_assoc, append-nil, subst}
use Rattle.std.proofs.lemmas.Grind.{flat_map-append}
use Rattle.pr_lang.specs.Word.{Word}
use Rattle.pr_lang.specs.Tree.{Tree}
use Rattle.pr_lang.specs.Printed.{spelling, written}
use Rattle.pr_parse_print.specs.Put.{led, IsPut}

led-append : (ws vs : List Word) → led (ws ++ vs) ≡ led ws ++ led vs
unfolding led
led-append ws vs = flat_map-append (λ w. 32 ∷ written w) ws vs

pub no_put : {a : List ℕ} → IsPut a [] a
unfolding led
no_put {a} = record { text = sym (append-nil a) }

pub one_put : {a b bytes : List ℕ} {w : Word} → b ≡ a ++ 32 ∷ bytes → bytes ≡ written w → IsPut a (w ∷ []) b
unfolding led
one_put {a} {b} {bytes} {w} e f = record { text = e ∙ ap (λ l. a ++ 32 ∷ l) (f ∙ sym (append-nil (written w))) }

pub then_put : {a b c : List ℕ} {ws vs : List Word} → IsPut a ws b → IsPut b vs c → IsPut a (ws ++ vs) c
then_put {a} {b} {c} {ws} {vs} p q = record { text = q.text ∙ ap (λ l. l ++ led vs) p.text ∙ append_assoc a (led ws) (led vs) ∙ ap (λ l. a ++ l) (sym (led-append ws vs)) }

pub word_put : {a b c : List ℕ} {w : Word} {vs : List Word} → IsPut a (w ∷ []) b → IsPut b vs c → IsPut a (w ∷ vs) c
word_put p q = then_put p q

-- the words of a tree that is this one
pub shaped : {a b : List ℕ} {s t : Tree} → s ≡ t → IsPut a (spelling t) b → IsPut a (spelling s) b
shaped {a} {b} e p = subst (λ t. IsPut a (spelling t) b) (sym e) p

-- what stands in square brackets, and what follows
pub table_put : {a b c d e : List ℕ} {u v : Word} {vs ws : List Word} → IsPut a (u ∷ []) b → IsPut b vs c → IsPut c (v ∷ []) d → IsPut d ws e → IsPut a ((u ∷ (vs ++ v ∷ [])) ++ ws) e
table_put p q r s = then_put (word_put p (then_put q r)) s
