use Rattle.std.proofs.Common.{◌≡◌, ◌<◌, ◌+◌, ◌*◌, ◌/◌, ◌%◌, ℕ, length, get_or, ap, ◌∙◌, arith}
use Rattle.pr_log.specs.Lines.{hex_digit}
use Rattle.pr_lens_log.proofs.WordLaws.{hex_even, hex_odd, length-hex}
use Rattle.pr_lens_log.proofs.words.byte_at.Goals as goal

pub returns-then-word-column : goal.returns-then-word-column
returns-then-word-column c = λ state bytes is low. absurd (omega (arith, length-hex state, ap length is, low))

pub returns : goal.returns
returns c = λ state bytes is low.
    let word = c.args.word.now in
    let column = c.args.column in
    let byte : ℕ = get_or state column 0 in
    let small : byte < 256 = bytes column low in
    let even : get_or word (2 * column) 0 ≡ hex_digit (byte / 16) = ap (λ w. get_or w (2 * column) 0) is ∙ hex_even state column low in
    let odd : get_or word (2 * column + 1) 0 ≡ hex_digit (byte % 16) = ap (λ w. get_or w (2 * column + 1) 0) is ∙ hex_odd state column low in
    let high = c.digit.ensures.reads (byte / 16) (omega arith) even in
    let rest = c.digit-2.ensures.reads (byte % 16) (omega arith) odd in
    omega (arith, high, rest)
