use Rattle.std.proofs.Common.{◌∷◌, ◌++◌}
use Rattle.pr_lens_log.proofs.words.second.Goals as goal

pub returns : goal.returns
returns c = λ first word rest none also is.
    let behind = (c.cut.ensures first (word ++ 32 ∷ rest) (record { is = is; none = none })).1 in
    c.cut-2.ensures word rest (record { is = behind; none = also })
