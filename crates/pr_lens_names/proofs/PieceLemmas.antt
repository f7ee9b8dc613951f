-- Pieces in quotes.
use Rattle.std.proofs.Common.{◌≡◌, ◌++◌, List, ℕ, codes, append_assoc}
use Rattle.pr_lens_names.specs.Pieces.{quoted}

-- two pieces in quotes
pub quoted_put : (t a b : List ℕ) {t1 t2 t3 t4 : List ℕ} → t1 ≡ t ++ codes "`" → t2 ≡ t1 ++ a → t3 ≡ t2 ++ b → t4 ≡ t3 ++ codes "`" → t4 ≡ t ++ quoted (a ++ b)
unfolding quoted
quoted_put t a b h1 h2 h3 h4 = rw (h4, h3, h2, h1) (simp append_assoc)
