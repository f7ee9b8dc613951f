-- What goes on from a checkpoint is the rest.
use Rattle.std.proofs.Common.{◌≡◌, ◌+◌, ◌<◌, ◌≤◌, ◌∙◌, ℕ, Bool, false, List, ◌++◌, length, map, sym, ap, ap₂, arith}
use Rattle.std.proofs.lemmas.List.{map-append, length-append}
use Rattle.std.proofs.lemmas.Grind.{flat_map-append}
use Rattle.pr_base.specs.Rows.{row_line, row_numbers, written}
use Rattle.pr_conf.specs.Shape.{Shape, OutputShape}
use Rattle.pr_conf.specs.After.{conf_after}
use Rattle.pr_conf.specs.Through.{output_widths, results_of, result_numbers}
use Rattle.pr_conf.proofs.AfterLaws.{results_after, outputs_after, stages_after, further_after}
use Rattle.pr_code.specs.Marks.{mark_of}
use Rattle.pr_run_script.specs.Script.{Held}
use Rattle.pr_run_script.specs.Text.{run_text}
use Rattle.pr_run_script.proofs.TextLaws.{run_is_written}

pub numbers_after : (N P : ℕ) (c : Shape) (xs ys : List (List ℕ)) → result_numbers N P c (xs ++ ys) ≡ result_numbers N P c xs ++ result_numbers N P (conf_after N P c xs) ys
numbers_after N P c xs ys =
    let rest = results_of N P (conf_after N P c xs) ys in
    ap (λ (rs : List (List ℕ)). map (row_numbers (output_widths c)) rs) (results_after N P c xs ys)
    ∙ (map-append (row_numbers (output_widths c)) (results_of N P c xs) rest
    ∙ ap (λ (os : List OutputShape). result_numbers N P c xs ++ map (row_numbers (map (λ o. o.width) os)) rest) (sym (outputs_after N P c xs)))

pub lines_after : (N P : ℕ) (c : Shape) (xs ys : List (List ℕ)) → written (result_numbers N P c (xs ++ ys)) ≡ written (result_numbers N P c xs) ++ written (result_numbers N P (conf_after N P c xs) ys)
lines_after N P c xs ys =
    ap written (numbers_after N P c xs ys) ∙ flat_map-append row_line (result_numbers N P c xs) (result_numbers N P (conf_after N P c xs) ys)

pub runs_after : (N P : ℕ) (c : Shape) (xs ys : List (List ℕ)) (p q r : ℕ) (whole first last : List Held) (good : Bool) → 0 < length c.stages → 2 ≤ p → 2 ≤ q → 2 ≤ r
    → run_text N P false c p (xs ++ ys) whole good ≡ run_text N P false c q xs first good ++ run_text N P false (conf_after N P c xs) r ys last good
runs_after N P c xs ys p q r whole first last good some hp hq hr =
    let stages = stages_after N P c xs in
    run_is_written N P c p (xs ++ ys) whole good some hp
    ∙ (lines_after N P c xs ys
    ∙ ap₂ (λ (a b : List ℕ). a ++ b) (sym (run_is_written N P c q xs first good some hq)) (sym (run_is_written N P (conf_after N P c xs) r ys last good (omega (arith, stages, some)) hr)))

pub chain : (N P count : ℕ) (c : Shape) (xs ys : List (List ℕ)) → mark_of N P (count + length xs + length ys) (conf_after N P (conf_after N P c xs) ys) ≡ mark_of N P (count + length (xs ++ ys)) (conf_after N P c (xs ++ ys))
chain N P count c xs ys =
    let size = length-append xs ys in
    let sum : count + length xs + length ys ≡ count + length (xs ++ ys) = omega (arith, size) in
    ap₂ (λ (n : ℕ) (d : Shape). mark_of N P n d) sum (further_after N P c xs ys)
