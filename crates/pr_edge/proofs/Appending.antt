-- Pieces that are written one after the other.
use Rattle.std.proofs.Common.{ℕ, ◌+◌, ◌≤◌, List, ◌++◌, length, take, drop, Option, Some, None, IsSome, IfSome, refl, sym, true≢false, ◌∙◌, append_assoc, length-append, arith}
use Rattle.std.proofs.Math.Seq.{take-add}
use Rattle.pr_edge.specs.Tape.{Tape, IsAppended, Appends}

appended_both : (a b c : Option (List ℕ)) (p q : List ℕ) → IsAppended a b p → IsAppended b c q → IsAppended a c (p ++ q)
appended_both a b None p q h g = tt
appended_both a None (Some z) p q h g = absurd g
appended_both None (Some y) (Some z) p q h g = absurd h
appended_both (Some x) (Some y) (Some z) p q h g = rw (g, h, append_assoc) refl

told_both : (a b c : Option (List ℕ)) (n : ℕ) (p q : List ℕ) → IsAppended a b p → IfSome a (λ x. length x + length p ≤ n → IsSome b)
    → IfSome b (λ x. length x + length q ≤ n → IsSome c) → IfSome a (λ x. length x + length (p ++ q) ≤ n → IsSome c)
told_both None b c n p q e h g = tt
told_both (Some x) None c n p q e h g = λ fits. absurd (true≢false (sym (h (omega (arith, fits, length-append p q)))))
told_both (Some x) (Some y) c n p q e h g = λ fits. g (rw e (omega (arith, fits, length-append p q, length-append x p)))

-- two pieces are one
pub Appends-append : (a b c : Tape) (p q : List ℕ) → Appends a b p → Appends b c q → Appends a c (p ++ q)
Appends-append a b c p q h g = record {
  appended = appended_both _ _ _ p q h.appended g.appended;
  told = told_both _ _ _ a.keeps p q h.appended h.told (rw h.same at g.told);
  same = g.same ∙ h.same;
}

-- a further piece of the same bytes
pub appends_more : (a b c : Tape) (bytes : List ℕ) (n k : ℕ) → Appends a b (take n bytes) → Appends b c (take k (drop n bytes)) → Appends a c (take (n + k) bytes)
appends_more a b c bytes n k h g = rw take-add (Appends-append a b c _ _ h g)
