-- Pieces that were added to a text one after the other.
use Rattle.std.proofs.Common.{◌≡◌, ◌++◌, List, ℕ, append_assoc}

pub two_put : (t a b : List ℕ) {t1 t2 : List ℕ} → t1 ≡ t ++ a → t2 ≡ t1 ++ b → t2 ≡ t ++ (a ++ b)
two_put t a b h1 h2 = rw (h2, h1) (simp append_assoc)

pub three_put : (t a b c : List ℕ) {t1 t2 t3 : List ℕ} → t1 ≡ t ++ a → t2 ≡ t1 ++ b → t3 ≡ t2 ++ c → t3 ≡ t ++ (a ++ b ++ c)
three_put t a b c h1 h2 h3 = rw (h3, h2, h1) (simp append_assoc)

pub four_put : (t a b c d : List ℕ) {t1 t2 t3 t4 : List ℕ} → t1 ≡ t ++ a → t2 ≡ t1 ++ b → t3 ≡ t2 ++ c → t4 ≡ t3 ++ d → t4 ≡ t ++ (a ++ b ++ c ++ d)
four_put t a b c d h1 h2 h3 h4 = rw (h4, h3, h2, h1) (simp append_assoc)

pub five_put : (t a b c d e : List ℕ) {t1 t2 t3 t4 t5 : List ℕ} → t1 ≡ t ++ a → t2 ≡ t1 ++ b → t3 ≡ t2 ++ c → t4 ≡ t3 ++ d → t5 ≡ t4 ++ e → t5 ≡ t ++ (a ++ b ++ c ++ d ++ e)
five_put t a b c d e h1 h2 h3 h4 h5 = rw (h5, h4, h3, h2, h1) (simp append_assoc)

pub six_put : (t a b c d e f : List ℕ) {t1 t2 t3 t4 t5 t6 : List ℕ} → t1 ≡ t ++ a → t2 ≡ t1 ++ b → t3 ≡ t2 ++ c → t4 ≡ t3 ++ d → t5 ≡ t4 ++ e → t6 ≡ t5 ++ f
    → t6 ≡ t ++ (a ++ b ++ c ++ d ++ e ++ f)
six_put t a b c d e f h1 h2 h3 h4 h5 h6 = rw (h6, h5, h4, h3, h2, h1) (simp append_assoc)

pub seven_put : (t a b c d e f g : List ℕ) {t1 t2 t3 t4 t5 t6 t7 : List ℕ} → t1 ≡ t ++ a → t2 ≡ t1 ++ b → t3 ≡ t2 ++ c → t4 ≡ t3 ++ d → t5 ≡ t4 ++ e → t6 ≡ t5 ++ f → t7 ≡ t6 ++ g
    → t7 ≡ t ++ (a ++ b ++ c ++ d ++ e ++ f ++ g)
seven_put t a b c d e f g h1 h2 h3 h4 h5 h6 h7 = rw (h7, h6, h5, h4, h3, h2, h1) (simp append_assoc)
