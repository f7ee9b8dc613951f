-- Words and numbers that were added one after the other.
use Rattle.std.proofs.Common.{◌≡◌, ◌++◌, List, ℕ, append_assoc}

pub counted_put : (t a b c : List ℕ) {t1 t2 : List ℕ} → t1 ≡ t ++ a ++ b → t2 ≡ t1 ++ c → t2 ≡ t ++ (a ++ b ++ c)
counted_put t a b c h1 h2 = rw (h2, h1) (simp append_assoc)

pub three_counted : (t a b c d e f : List ℕ) {t1 t2 t3 g : List ℕ} → t1 ≡ t ++ a ++ b → t2 ≡ t1 ++ c ++ d → t3 ≡ t2 ++ e ++ g → g ≡ f → t3 ≡ t ++ (a ++ b ++ c ++ d ++ e ++ f)
three_counted t a b c d e f h1 h2 h3 same = rw (h3, h2, h1, same) (simp append_assoc)

pub quoted_counted : (t a q b d e : List ℕ) {t1 t2 t3 t4 : List ℕ} → t1 ≡ t ++ a → t2 ≡ t1 ++ q → t3 ≡ t2 ++ b ++ d → t4 ≡ t3 ++ e → t4 ≡ t ++ (a ++ q ++ b ++ d ++ e)
quoted_counted t a q b d e h1 h2 h3 h4 = rw (h4, h3, h2, h1) (simp append_assoc)

pub counted_put_as : (t a b c : List ℕ) {t1 t2 g : List ℕ} → t1 ≡ t ++ a ++ g → t2 ≡ t1 ++ c → g ≡ b → t2 ≡ t ++ (a ++ b ++ c)
counted_put_as t a b c h1 h2 same = rw (h2, h1, same) (simp append_assoc)
