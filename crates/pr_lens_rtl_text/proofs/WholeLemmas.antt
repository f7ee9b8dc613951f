-- The parts of the whole text.
use Rattle.std.proofs.Common.{◌≡◌, ◌≤◌, ◌++◌, ◌∙◌, ℕ, Bool, List, [], length, sym, ap, arith, append_assoc}
use Rattle.std.proofs.lemmas.List.{length-append}
use Rattle.pr_lens_rtl.specs.Verilog.{Assign}
use Rattle.pr_lens_rtl_text.specs.declared.lines.Way.{Way}
use Rattle.pr_lens_rtl_text.specs.Notes.{Comments}
use Rattle.pr_lens_rtl_text.specs.Printed.{kept_text}
use Rattle.pr_lens_rtl_text.proofs.TextLemmas.{text_both}

pub three_kept : (note : Comments) (way : Way) (marks : List Bool) (t : List ℕ) (xs ys zs : List Assign) {t1 t2 t3 : List ℕ} → t1 ≡ t ++ kept_text note way marks xs → t2 ≡ t1 ++ kept_text note way marks ys → t3 ≡ t2 ++ kept_text note way marks zs
    → t3 ≡ t ++ kept_text note way marks (xs ++ (ys ++ zs))
three_kept note way marks t xs ys zs {t1} {t2} {t3} e f g =
    g
    ∙ ap (λ q. q ++ kept_text note way marks zs) (f ∙ ap (λ q. q ++ kept_text note way marks ys) e ∙ append_assoc t (kept_text note way marks xs) (kept_text note way marks ys))
    ∙ append_assoc t (kept_text note way marks xs ++ kept_text note way marks ys) (kept_text note way marks zs)
    ∙ ap (λ q. t ++ q)
    (append_assoc (kept_text note way marks xs) (kept_text note way marks ys) (kept_text note way marks zs)
    ∙ ap (λ q. kept_text note way marks xs ++ q) (sym (text_both note way marks ys zs))
    ∙ sym (text_both note way marks xs (ys ++ zs)))

pub eight_pieces : (h s r w o k q e : List ℕ) {t0 t1 t2 t3 t4 t5 t6 t7 t8 : List ℕ} → t0 ≡ [] → t1 ≡ t0 ++ h → t2 ≡ t1 ++ s → t3 ≡ t2 ++ r → t4 ≡ t3 ++ w → t5 ≡ t4 ++ o → t6 ≡ t5 ++ k → t7 ≡ t6 ++ q → t8 ≡ t7 ++ e
    → t8 ≡ h ++ s ++ r ++ w ++ o ++ k ++ q ++ e
eight_pieces h s r w o k q e e0 e1 e2 e3 e4 e5 e6 e7 e8 = e8 ∙ ap (λ z. z ++ e) (e7 ∙ ap (λ z. z ++ q) (e6 ∙ ap (λ z. z ++ k) (e5 ∙ ap (λ z. z ++ o) (e4 ∙ ap (λ z. z ++ w) (e3 ∙ ap (λ z. z ++ r) (e2 ∙ ap (λ z. z ++ s) (e1 ∙ ap (λ z. z ++ h) e0)))))))

pub three_pieces : (t a b c : List ℕ) → t ++ a ++ b ++ c ≡ t ++ (a ++ b ++ c)
three_pieces t a b c = simp append_assoc

-- ---- the first of some pieces
pub kept_within : (note : Comments) (way : Way) (marks : List Bool) (t : List ℕ) (xs ys : List Assign) → length (t ++ kept_text note way marks xs) ≤ length (t ++ kept_text note way marks (xs ++ ys))
kept_within note way marks t xs ys =
    omega (arith, length-append t (kept_text note way marks xs), length-append t (kept_text note way marks (xs ++ ys)), ap length (text_both note way marks xs ys), length-append (kept_text note way marks xs) (kept_text note way marks ys))

front_within : (a b : List ℕ) → length a ≤ length (a ++ b)
front_within a b = omega (arith, length-append a b)

module _ (h s r w o k q e : List ℕ) {t0 t1 t2 : List ℕ} (e0 : t0 ≡ []) (e1 : t1 ≡ t0 ++ h) (e2 : t2 ≡ t1 ++ s) where
  three_now : t2 ++ r ≡ h ++ s ++ r
  three_now = ap (λ z. z ++ r) (e2 ∙ ap (λ z. z ++ s) (e1 ∙ ap (λ z. z ++ h) e0))

  pub three_within : length (t2 ++ r) ≤ length (h ++ s ++ r ++ w ++ o ++ k ++ q ++ e)
  three_within =
      omega (arith, ap length three_now, front_within (h ++ s ++ r) w, front_within (h ++ s ++ r ++ w) o, front_within (h ++ s ++ r ++ w ++ o) k, front_within (h ++ s ++ r ++ w ++ o ++ k) q, front_within (h ++ s ++ r ++ w ++ o ++ k ++ q) e)

  module _ {t3 : List ℕ} (e3 : t3 ≡ t2 ++ r) where
    four_now : t3 ++ w ≡ h ++ s ++ r ++ w
    four_now = ap (λ z. z ++ w) (e3 ∙ three_now)

    pub four_within : length (t3 ++ w) ≤ length (h ++ s ++ r ++ w ++ o ++ k ++ q ++ e)
    four_within = omega (arith, ap length four_now, front_within (h ++ s ++ r ++ w) o, front_within (h ++ s ++ r ++ w ++ o) k, front_within (h ++ s ++ r ++ w ++ o ++ k) q, front_within (h ++ s ++ r ++ w ++ o ++ k ++ q) e)

    module _ {t4 t5 t6 : List ℕ} (e4 : t4 ≡ t3 ++ w) (e5 : t5 ≡ t4 ++ o) (e6 : t6 ≡ t5 ++ k) where
      seven_now : t6 ++ q ≡ h ++ s ++ r ++ w ++ o ++ k ++ q
      seven_now = ap (λ z. z ++ q) (e6 ∙ ap (λ z. z ++ k) (e5 ∙ ap (λ z. z ++ o) (e4 ∙ four_now)))

      pub seven_within : length (t6 ++ q) ≤ length (h ++ s ++ r ++ w ++ o ++ k ++ q ++ e)
      seven_within = omega (arith, ap length seven_now, front_within (h ++ s ++ r ++ w ++ o ++ k ++ q) e)
