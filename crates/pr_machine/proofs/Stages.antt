-- A stage of a lawful configuration is lawful at its number.
use Rattle.std.proofs.Common.{◌≡◌, ℕ, zero, suc, ◌+◌, ◌<◌, Bool, true, false, ◌&&◌, eqb, List, [], ◌∷◌, length, get_or, refl, subst, arith}
use Rattle.pr_conf.specs.declared.pes.Pe.{Pe}
use Rattle.pr_conf.specs.Rules.{are_lawful_pes, are_lawful_stages, site_of}

pub and_left : (a b : Bool) → (a && b) ≡ true → a ≡ true
and_left true b h = refl
and_left false b h = h

pub and_right : (a b : Bool) → (a && b) ≡ true → b ≡ true
and_right true b h = h
and_right false b h = absurd (let z = h in cc)

lawful_from : (N P bus k i : ℕ) (stages : List (List Pe)) → are_lawful_stages N P bus k stages ≡ true → i < length stages → are_lawful_pes (site_of N P bus (k + i)) (get_or stages i []) ≡ true
lawful_from N P bus k i [] h l = absurd (omega arith)
lawful_from N P bus k zero (pes ∷ stages) h l =
    let e : k ≡ k + 0 = omega arith in
    subst (λ n. are_lawful_pes (site_of N P bus n) pes ≡ true) e (and_right (eqb (length pes) N) _ (and_left _ (are_lawful_stages N P bus (k + 1) stages) h))
lawful_from N P bus k (suc i) (pes ∷ stages) h l =
    let e : k + 1 + i ≡ k + suc i = omega arith in
    subst (λ n. are_lawful_pes (site_of N P bus n) (get_or stages i []) ≡ true) e (lawful_from N P bus (k + 1) i stages (and_right _ _ h) (omega arith))

pub lawful_at : (N P bus i : ℕ) (stages : List (List Pe)) (pes : List Pe) → are_lawful_stages N P bus 0 stages ≡ true → i < length stages → get_or stages i [] ≡ pes → are_lawful_pes (site_of N P bus i) pes ≡ true
lawful_at N P bus i stages pes h l e =
    let z : 0 + i ≡ i = omega arith in
    subst (λ x. are_lawful_pes (site_of N P bus i) x ≡ true) e (subst (λ n. are_lawful_pes (site_of N P bus n) (get_or stages i []) ≡ true) z (lawful_from N P bus 0 i stages h l))
