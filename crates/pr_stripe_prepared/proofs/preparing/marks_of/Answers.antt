use Rattle.std.proofs.Common.{◌≡◌, ℕ, ◌+◌, ◌*◌, ◌/◌, ◌%◌, ◌<◌, ◌==◌, ◌++◌, List, [], ◌∷◌, length, get_or, if◌then◌else◌, sym, ap, ◌∙◌, arith, inl, inr}
use Rattle.std.proofs.lemmas.Bool.{cases_eq}
use Rattle.std.proofs.lemmas.List.{get_or_push, get_or_append_left, get_or_default}
use Rattle.pr_conf.specs.declared.pes.Pe.{Pe}
use Rattle.pr_stripe_prepared.proofs.preparing.marks_of.Goals as goal

abbrev mark : List Pe → ℕ → Pe → ℕ
mark pes j d = if (get_or pes (j % 16) d).write == j / 16 + 1 then 255 else 0

more : (xs : List ℕ) (pes : List Pe) (n v : ℕ) → length xs ≡ n → ((j : ℕ) (d : Pe) → j < n → get_or xs j 0 ≡ mark pes j d) → ((d : Pe) → v ≡ mark pes n d)
    → (j : ℕ) (d : Pe) → j < n + 1 → get_or (xs ++ v ∷ []) j 0 ≡ mark pes j d
more xs pes n v l old new j d h = elim (cases_eq j n) as (λ _. get_or (xs ++ v ∷ []) j 0 ≡ mark pes j d) [
  | inl same ↦ get_or_push xs v 0 j (omega arith) ∙ new d ∙ ap (λ i. mark pes i d) (sym same)
  | inr ne ↦ get_or_append_left xs (v ∷ []) 0 j (omega arith) ∙ old j d (omega arith)
]

here : (pes : List Pe) (reg i n : ℕ) (e d : Pe) → i < 16 → length pes ≡ 16 → n ≡ reg * 16 + i → (if (get_or pes i e).write == reg + 1 then 255 else 0) ≡ mark pes n d
here pes reg i n e d h l s =
    let at : i ≡ n % 16 = omega arith in
    let by : reg ≡ n / 16 = omega arith in
    ap (λ (p : Pe). if p.write == reg + 1 then 255 else 0) (get_or_default pes i e d (omega arith) ∙ ap (λ k. get_or pes k d) at) ∙ ap (λ r. if (get_or pes (n % 16) d).write == r + 1 then 255 else 0) by

pub loop-pe-preserved : goal.loop-pe-preserved
loop-pe-preserved c = record {
  long = omega (arith, c.in_ok-push.ensures.len);
  each = λ j d h. ap (λ xs. get_or xs j 0) c.in_ok-push.ensures.items ∙ more c.loop-pe.marks.items c.args.pes.now (c.loop-reg.reg * 16 + c.loop-pe.pe-index) _ (omega arith) c.loop-pe.invariant.each (λ e. c.ones.ensures ∙ ap (λ w. if w == c.loop-reg.reg + 1 then 255 else 0) c.from.ensures ∙ here c.args.pes.now c.loop-reg.reg c.loop-pe.pe-index _ _ e (omega arith) c.requires.pes (omega arith)) j d (omega arith);
}
