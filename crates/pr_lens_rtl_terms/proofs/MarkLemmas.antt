-- Marks of lists, from the last element down.
use Rattle.std.proofs.Common.{◌≡◌, ◌++◌, ◌+◌, ◌∙◌, ℕ, suc, Bool, List, [], ◌∷◌, length, map, take, refl, ap, arith, if◌then◌else◌}
use Rattle.std.proofs.lemmas.List.{length-map, map_push}
use Rattle.pr_conf.specs.declared.pes.Pe.{Pe}
use Rattle.pr_conf.specs.declared.stages.Stage.{Stage}
use Rattle.pr_conf.specs.Configuration.{pes_of}
use Rattle.pr_lens_rtl.specs.declared.vectors.Net.{Net}
use Rattle.pr_lens_rtl.specs.Verilog.{Expr, Assign}
use Rattle.pr_lens_rtl.specs.Kept.{all_marked, is_kept, marked, needed, next_marked, nexts_marked, reads, stage_needed, stages_needed}
use Rattle.pr_lens_rtl_terms.specs.declared.terms.Sign.{Sign}
use Rattle.pr_lens_rtl_terms.specs.declared.terms.Line.{Line}
use Rattle.pr_lens_rtl_terms.specs.Terms.{assign_of, assigns_of, two_expr}
use Rattle.pr_lens_rtl_terms.proofs.DownLemmas.{Descends}

pub all_both : (marks : List Bool) (xs ys : List Net) → all_marked marks (xs ++ ys) ≡ all_marked (all_marked marks xs) ys
all_both marks [] ys = refl
all_both marks (n ∷ ns) ys = all_both (marked marks n) ns ys

pub reads_two : (sign : Sign) (x y : Expr) → reads (two_expr sign x y) ≡ reads x ++ reads y
reads_two Sign.And x y = refl
reads_two Sign.Or x y = refl
reads_two Sign.Xor x y = refl
reads_two Sign.Plus x y = refl

-- ---- assignments
abbrev step : Assign → List Bool → List Bool
step a marks = if is_kept marks a.net then all_marked marks (reads a.expr) else marks

needed_last : (xs : List Assign) (a : Assign) (marks : List Bool) → needed (xs ++ a ∷ []) marks ≡ needed xs (needed (a ∷ []) marks)
needed_last [] a marks = refl
needed_last (x ∷ xs) a marks = ap (step x) (needed_last xs a marks)

pub lines_down : Descends {X = Line} {M = List Bool} (λ lines marks. needed (assigns_of lines) marks) (λ i line marks. needed (assign_of line ∷ []) marks)
lines_down = record {
  none = λ marks. refl;
  last = λ xs x marks. ap (λ z. needed z marks) (map_push assign_of xs x) ∙ needed_last (assigns_of xs) (assign_of x) marks;
}

-- ---- states
nexts_last : (s col : ℕ) (xs : List Pe) (pe : Pe) (marks : List Bool) → nexts_marked s col (xs ++ pe ∷ []) marks ≡ nexts_marked s col xs (next_marked pe.next s (col + length xs) marks)
nexts_last s col [] pe marks = ap (λ n. next_marked pe.next s n marks) (let e : col ≡ col + 0 = omega arith in e)
nexts_last s col (x ∷ xs) pe marks =
    ap (next_marked x.next s col) (nexts_last s (suc col) xs pe marks ∙ ap (λ n. nexts_marked s (suc col) xs (next_marked pe.next s n marks)) (let e : suc col + length xs ≡ col + suc (length xs) = omega arith in e))

pub nexts_down : (s : ℕ) → Descends {X = Pe} {M = List Bool} (nexts_marked s 0) (λ i pe marks. next_marked pe.next s i marks)
nexts_down s = record {
  none = λ marks. refl;
  last = λ xs x marks. nexts_last s 0 xs x marks ∙ ap (λ n. nexts_marked s 0 xs (next_marked x.next s n marks)) (let e : 0 + length xs ≡ length xs = omega arith in e);
}

-- ---- stages
stages_last : (N P s : ℕ) (xs : List (List Pe)) (x : List Pe) (marks : List Bool)
    → stages_needed N P s (xs ++ x ∷ []) marks ≡ stages_needed N P s xs (stage_needed N P (s + length xs) x marks)
stages_last N P s [] x marks = ap (λ n. stage_needed N P n x marks) (let e : s ≡ s + 0 = omega arith in e)
stages_last N P s (y ∷ ys) x marks =
    ap (stage_needed N P s y) (stages_last N P (suc s) ys x marks ∙ ap (λ n. stages_needed N P (suc s) ys (stage_needed N P n x marks)) (let e : suc s + length ys ≡ s + suc (length ys) = omega arith in e))

pub stages_down : (K N P : ℕ) → Descends {X = Stage K} {M = List Bool} (λ stages marks. stages_needed N P 0 (map pes_of stages) marks) (λ i stage marks. stage_needed N P i (pes_of stage) marks)
stages_down K N P = record {
  none = λ marks. refl;
  last = λ xs x marks.
      ap (λ z. stages_needed N P 0 z marks) (map_push pes_of xs x)
      ∙ stages_last N P 0 (map pes_of xs) (pes_of x) marks
      ∙ ap (λ n. stages_needed N P 0 (map pes_of xs) (stage_needed N P n (pes_of x) marks)) (let e : 0 + length (map pes_of xs) ≡ length xs = omega (arith, length-map xs pes_of) in e);
}

-- ---- a slice that is written back
front_all : (new rest : List Bool) → take (length new) (new ++ rest) ≡ new
front_all [] rest = refl
front_all (b ∷ bs) rest = ap (λ z. b ∷ z) (front_all bs rest)

pub take_written : (n : ℕ) (new rest : List Bool) → n ≡ length new → take n (new ++ rest) ≡ new
take_written n new rest e = ap (λ k. take k (new ++ rest)) e ∙ front_all new rest
