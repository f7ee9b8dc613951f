-- Numbers of ports, one more each time, and lines of samples.
use Rattle.std.proofs.Common.{◌≡◌, ◌++◌, ◌+◌, ◌<◌, ◌≤◌, ◌∙◌, ℕ, suc, List, [], ◌∷◌, codes, length, drop, get_or, min, refl, sym, ap, arith, append_assoc, append-nil, inl, inr}
use Rattle.std.proofs.lemmas.List.{at_drop_more, drop_all, length-append}
use Rattle.std.proofs.lemmas.Bool.{cases_lt}
use Rattle.pr_lens_rtl_names.specs.declared.names.Side.{Side}
use Rattle.pr_lens_rtl_text.specs.declared.ports.Port.{Port}
use Rattle.pr_lens_bench.specs.Cells.{cell_text, cells_text, row_text, rows_text}

pub cells_more : (side : Side) (k : ℕ) (ports : List Port) (numbers : List ℕ) (i : ℕ) (port d : Port) (n e : ℕ) (text whole : List ℕ) → i < length ports → i < length numbers
    → port ≡ get_or ports i d → n ≡ get_or numbers i e
    → text ++ cells_text side k (drop i ports) (drop i numbers) ≡ whole → (text ++ cell_text side k port n) ++ cells_text side k (drop (i + 1) ports) (drop (i + 1) numbers) ≡ whole
cells_more side k ports numbers i port d n e text whole lp ln isp isn h =
    append_assoc text (cell_text side k port n) (cells_text side k (drop (i + 1) ports) (drop (i + 1) numbers))
    ∙ ap (λ z. text ++ cells_text side k (z ∷ drop (i + 1) ports) (n ∷ drop (i + 1) numbers)) isp
    ∙ ap (λ z. text ++ cells_text side k (get_or ports i d ∷ drop (i + 1) ports) (z ∷ drop (i + 1) numbers)) isn
    ∙ sym (at_drop_more (λ z. text ++ cells_text side k z (get_or numbers i e ∷ drop (i + 1) numbers)) ports i d lp)
    ∙ sym (at_drop_more (λ z. text ++ cells_text side k (drop i ports) z) numbers i e ln) ∙ h

cells_none : (side : Side) (k : ℕ) (ports : List Port) → cells_text side k ports [] ≡ []
cells_none side k [] = refl
cells_none side k (port ∷ ports) = refl

pub cells_done : (side : Side) (k : ℕ) (ports : List Port) (numbers : List ℕ) (i : ℕ) (text whole : List ℕ) → min (length ports) (length numbers) ≤ i
    → text ++ cells_text side k (drop i ports) (drop i numbers) ≡ whole → text ≡ whole
cells_done side k ports numbers i text whole le h = sym (append-nil text) ∙ ap (λ z. text ++ z) (sym none) ∙ h
  where
    none : cells_text side k (drop i ports) (drop i numbers) ≡ []
    none = elim (cases_lt i (length ports)) [
      | inl less ↦ ap (λ z. cells_text side k (drop i ports) z) (drop_all i numbers (omega (arith, le, less))) ∙ cells_none side k (drop i ports)
      | inr past ↦ ap (λ z. cells_text side k z (drop i numbers)) (drop_all i ports past)
    ]

-- ---- one line more
pub rows_more : (inputs outputs : List Port) (k : ℕ) (samples results : List (List ℕ)) (sample result : List ℕ) → length results ≡ length samples
    → rows_text inputs outputs k (samples ++ sample ∷ []) (results ++ result ∷ []) ≡ rows_text inputs outputs k samples results ++ row_text inputs outputs (k + length samples) sample result
rows_more inputs outputs k [] [] sample result e =
    append-nil (row_text inputs outputs k sample result) ∙ ap (λ n. row_text inputs outputs n sample result) (let z : k ≡ k + 0 = omega arith in z)
rows_more inputs outputs k [] (r ∷ rs) sample result e = absurd (omega (arith, e))
rows_more inputs outputs k (s ∷ ss) [] sample result e = absurd (omega (arith, e))
rows_more inputs outputs k (s ∷ ss) (r ∷ rs) sample result e =
    ap (λ z. row_text inputs outputs k s r ++ z)
    (rows_more inputs outputs (suc k) ss rs sample result (omega (arith, e)) ∙ ap (λ n. rows_text inputs outputs (suc k) ss rs ++ row_text inputs outputs n sample result) (let z : suc k + length ss ≡ k + suc (length ss) = omega arith in z))
    ∙ sym (append_assoc (row_text inputs outputs k s r) (rows_text inputs outputs (suc k) ss rs) (row_text inputs outputs (k + suc (length ss)) sample result))

-- ---- pieces of a line
pub four_more : (t b c : List ℕ) (d : List ℕ) {t1 t2 t3 t4 : List ℕ} → t1 ≡ t ++ codes "   " → t2 ≡ t1 ++ b → t3 ≡ t2 ++ c → t4 ≡ t3 ++ d → length t < length t4
four_more t b c d {t1} {t2} {t3} {t4} h1 h2 h3 h4 =
    omega (arith, ap length h1, ap length h2, ap length h3, ap length h4, length-append t (codes "   "), length-append t1 b, length-append t2 c, length-append t3 d)

pub three_parts : (a b c : List ℕ) {t0 t1 t2 t3 : List ℕ} → t0 ≡ [] → t1 ≡ t0 ++ a → t2 ≡ t1 ++ b → t3 ≡ t2 ++ c → t3 ≡ a ++ b ++ c
three_parts a b c e0 e1 e2 e3 = e3 ∙ ap (λ z. z ++ c) (e2 ∙ ap (λ z. z ++ b) (e1 ∙ ap (λ z. z ++ a) e0))

pub named_pieces : (t a n b m e : List ℕ) {t1 t2 t3 : List ℕ} → t1 ≡ t ++ a ++ n → t2 ≡ t1 ++ b ++ m → t3 ≡ t2 ++ e → t3 ≡ t ++ (a ++ n ++ b ++ m ++ e)
named_pieces t a n b m e h1 h2 h3 = rw (h3, h2, h1) (simp append_assoc)

pub more_pieces : (t a n b m c k e : List ℕ) {t1 t2 t3 t4 : List ℕ} → t1 ≡ t ++ a ++ n → t2 ≡ t1 ++ b ++ m → t3 ≡ t2 ++ c ++ k → t4 ≡ t3 ++ e → t4 ≡ t ++ (a ++ n ++ b ++ m ++ c ++ k ++ e)
more_pieces t a n b m c k e h1 h2 h3 h4 = rw (h4, h3, h2, h1) (simp append_assoc)
