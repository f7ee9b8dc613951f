-- What is read in columns of stages after they were written to.
use Rattle.std.proofs.Common.{◌≡◌, ℕ, ◌<◌, ◌==◌, ◌&&◌, Bool, List, [], length, get_or, set, map, if◌then◌else◌, sym, ap, ◌∙◌, subst, arith, inl, inr}
use Rattle.std.proofs.lemmas.Bool.{cases_eq, and_from, and_left, and_right, eq-eqb, ne_eqb}
use Rattle.std.proofs.lemmas.Grind.{get_or-set_at}
use Rattle.std.proofs.lemmas.List.{length-map, map-set, get_or-map, get_or-set_other}
use Rattle.pr_conf.specs.declared.pes.Pe.{Pe}
use Rattle.pr_conf.specs.declared.stages.Stage.{Stage}
use Rattle.pr_conf.specs.Configuration.{pes_of}
use Rattle.pr_route.specs.Conf.{idle_pe}
use Rattle.pr_route.specs.Written.{element}

put_element : (grid : List (List Pe)) (t col : ℕ) (pe : Pe) → t < length grid → col < length (get_or grid t []) → (s c : ℕ)
    → element (set grid t (set (get_or grid t []) col pe)) s c ≡ (if (t == s) && (c == col) then pe else element grid s c)
put_element grid t col pe lt lc s c =
    let row = get_or grid t [] in
    let now = set row col pe in
    let chosen = λ (b : Bool). if b then pe else element grid s c in
    elim (cases_eq s t) [
      | inl e ↦
          (let here : get_or (set grid t now) s [] ≡ now = get_or-set_at grid t s now [] e lt in
          let at : element (set grid t now) s c ≡ get_or now c idle_pe = ap (λ (xs : List Pe). get_or xs c idle_pe) here in
          elim (cases_eq c col) [
            | inl f ↦ at ∙ get_or-set_at row col c pe idle_pe f lc ∙ sym (ap chosen (and_from (t == s) (c == col) (eq-eqb t s (sym e)) (eq-eqb c col f)))
            | inr f ↦ at ∙ get_or-set_other row col c pe idle_pe f ∙ ap (λ (k : ℕ). element grid k c) (sym e) ∙ sym (ap chosen (and_right (t == s) (c == col) (ne_eqb c col f)))
          ])
      | inr e ↦ ap (λ (xs : List Pe). get_or xs c idle_pe) (get_or-set_other grid t s now [] e) ∙ sym (ap chosen (and_left (t == s) (c == col) (ne_eqb t s (λ q. e (sym q)))))
    ]

pub length-pes_of : {N : ℕ} (stage : Stage N) → length (pes_of stage) ≡ N
length-pes_of {N} stage = let size = stage.size in let ok = stage.pes.ok in omega (arith, size, ok)

-- one element of one stage is written
pub put_stage : {N : ℕ} (stages : List (Stage N)) (row d : Stage N) (t col : ℕ) (pe : Pe) → t < length stages → col < N → pes_of row ≡ set (pes_of (get_or stages t d)) col pe → (s c : ℕ)
    → element (map pes_of (set stages t row)) s c ≡ (if (t == s) && (c == col) then pe else element (map pes_of stages) s c)
put_stage {N} stages row d t col pe lt lc e s c =
    let grid = map (pes_of {N = N}) stages in
    let old : get_or grid t [] ≡ pes_of (get_or stages t d) = get_or-map (pes_of {N = N}) stages t d [] lt in
    let wide : col < length (get_or grid t []) = subst (λ (n : ℕ). col < n) (sym (ap length old ∙ length-pes_of (get_or stages t d))) lc in
    let long : t < length grid = subst (λ (n : ℕ). t < n) (sym (length-map stages (pes_of {N = N}))) lt in
    let written : map (pes_of {N = N}) (set stages t row) ≡ set grid t (set (get_or grid t []) col pe) = map-set (pes_of {N = N}) stages t row ∙ ap (set grid t) (e ∙ ap (λ (xs : List Pe). set xs col pe) (sym old)) in
    ap (λ (g : List (List Pe)). element g s c) written ∙ put_element grid t col pe long wide s c
