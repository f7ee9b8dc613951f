-- What is gathered by the places of a source is the byte of the source.
use Rattle.std.proofs.Common.{◌≡◌, ℕ, ◌+◌, ◌-◌, ◌*◌, ◌<◌, Bool, true, false, List, get_or, nat_lt, bit_or, if◌then◌else◌, refl, sym, ap, ◌∙◌, arith}
use Rattle.std.proofs.lemmas.Bool.{ltb-true}
use Rattle.std.specs.Int.Bits.{or_zero_r}
use Rattle.pr_conf.specs.declared.pes.Source.{Source}
use Rattle.pr_stripe_columns.proofs.FreeLaws.{both}
use Rattle.pr_stripe_prepared.specs.declared.stages.Term.{Term}
use Rattle.pr_stripe_prepared.specs.Gather.{looked, seen_byte, with_terms}
use Rattle.pr_stripe_prepared.specs.Places.{known_in, state_in, here_in, row_in, is_suited}
use Rattle.pr_stripe_prepared.proofs.TermLaws.{so_far, before, after, looked_low, looked_none}

-- what the terms make of a lane, whose place is p
placed : (n : ℕ) (row st made : List ℕ) (s : Source) → n < 4096 → is_suited n s ≡ true
    → so_far (row_in s) n (bit_or (bit_or (known_in s) (looked (state_in s) 0 st)) (looked (here_in s) 0 made)) (get_or row (row_in s) 0) ≡ seen_byte row st made s
placed n row st made (Source.Const k) few h = after 65535 n (bit_or (bit_or k 0) 0) (get_or row 65535 0) (omega arith) ∙ or_zero_r (bit_or k 0) ∙ or_zero_r k
placed n row st made (Source.Prev col reg) few h =
    let h1 = both (nat_lt 0 reg) (nat_lt ((reg - 1) * 16 + col) (n * 16)) h in
    before ((reg - 1) * 16 + col) n 0 (get_or row ((reg - 1) * 16 + col) 0) (ltb-true _ _ h1.1)
placed n row st made (Source.Here col) few h = after 65535 n (looked col 0 made) (get_or row 65535 0) (omega arith) ∙ looked_low col 0 made (ltb-true _ _ h) ∙ ap (λ i. get_or made i 0) (let e : 0 + col ≡ col = omega arith in e)
placed n row st made (Source.State col) few h = after 65535 n (bit_or (looked col 0 st) 0) (get_or row 65535 0) (omega arith) ∙ or_zero_r (looked col 0 st) ∙ looked_low col 0 st (ltb-true _ _ h) ∙ ap (λ i. get_or st i 0) (let e : 0 + col ≡ col = omega arith in e)
placed n row st made (Source.Bus place) few h = before place n 0 (get_or row place 0) (ltb-true _ _ h)

-- what a lane begins with
begun_is : (has : Bool) (known at here : ℕ) (st made : List ℕ) (s : Source) → known ≡ known_in s → at ≡ state_in s → here ≡ here_in s → (has ≡ false → here_in s ≡ 128)
    → (if has then bit_or (bit_or known (looked at 0 st)) (looked here 0 made) else bit_or known (looked at 0 st)) ≡ bit_or (bit_or (known_in s) (looked (state_in s) 0 st)) (looked (here_in s) 0 made)
begun_is true known at here st made s e1 e2 e3 none =
    ap (λ x. bit_or (bit_or x (looked at 0 st)) (looked here 0 made)) e1
    ∙ ap (λ x. bit_or (bit_or (known_in s) (looked x 0 st)) (looked here 0 made)) e2
    ∙ ap (λ x. bit_or (bit_or (known_in s) (looked (state_in s) 0 st)) (looked x 0 made)) e3
begun_is false known at here st made s e1 e2 e3 none =
    let x = bit_or (known_in s) (looked (state_in s) 0 st) in
    ap (λ y. bit_or y (looked at 0 st)) e1 ∙ ap (λ y. bit_or (known_in s) (looked y 0 st)) e2
    ∙ sym (or_zero_r x) ∙ ap (bit_or x) (sym (looked_none (here_in s) 0 made (let e = none refl in omega arith)))

-- what a lane gathers
pub lane_is : (n : ℕ) (known states heres rows : List ℕ) (terms : List Term) (has : Bool) (s : Source) (k : ℕ) → n < 4096 → is_suited n s ≡ true → get_or known k 0 ≡ known_in s → get_or states k 0 ≡ state_in s → get_or heres k 0 ≡ here_in s
    → (has ≡ false → here_in s ≡ 128) → get_or rows k 0 ≡ row_in s
    → ((x : ℕ) (row : List ℕ) → with_terms k row x terms ≡ so_far (get_or rows k 0) n x (get_or row (get_or rows k 0) 0))
    → (row st made : List ℕ)
    → with_terms k row (if has then bit_or (bit_or (get_or known k 0) (looked (get_or states k 0) 0 st)) (looked (get_or heres k 0) 0 made) else bit_or (get_or known k 0) (looked (get_or states k 0) 0 st)) terms ≡ seen_byte row st made s
lane_is n known states heres rows terms has s k few h e1 e2 e3 none e4 gives row st made =
    gives _ row
    ∙ ap (λ y. so_far (get_or rows k 0) n y (get_or row (get_or rows k 0) 0)) (begun_is has (get_or known k 0) (get_or states k 0) (get_or heres k 0) st made s e1 e2 e3 none)
    ∙ ap (λ p. so_far p n (bit_or (bit_or (known_in s) (looked (state_in s) 0 st)) (looked (here_in s) 0 made)) (get_or row p 0)) e4
    ∙ placed n row st made s few h
