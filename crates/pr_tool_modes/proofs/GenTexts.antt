-- The generated texts as files, and the lines of a text.
use Rattle.std.proofs.Common.{◌≡◌, ℕ, Bool, suc, true, false, cond, List, [], ◌∷◌, length, take, drop, min, nat_lt, position, Some, None, unwrap_or, refl, sym, ap, ap₂, ◌∙◌, arith}
use Rattle.std.specs.Prelude.{nat_eq, string_bytes, String, Vec}
use Rattle.std.specs.Cmp.Lexicographic.{pointwise}
use Rattle.std.specs.declared.alloc.Global.{Global}
use Rattle.std.specs.List.{position_or_len}
use Rattle.std.proofs.lemmas.Bool.{ltb-false}
use Rattle.std.proofs.lemmas.List.{take_all}
use Rattle.pr_edge.specs.Named.{Named, sure_file}
use Rattle.pr_gen.specs.Texts.{program_text, samples_text}
use Rattle.pr_tool_modes.specs.Generations.{generated, program_file, samples_file, is_end, first_line}

-- ---- the files
-- two files by their names and bytes, as a shelf that never fails tells them
abbrev shown : List ℕ → List ℕ → List ℕ → List ℕ → List ℕ → List ℕ
shown x t y u name = unwrap_or (cond (pointwise nat_eq x name) (Some t) (cond (pointwise nat_eq y name) (Some u) None)) []

pub files_are : (files : List Named) (turns : ℕ) (a b : String Global) (p s : Vec ℕ Global) → files ≡ (a, p) ∷ (b, s) ∷ [] → string_bytes a ≡ program_file → p.items ≡ program_text turns
    → string_bytes b ≡ samples_file → s.items ≡ samples_text → Some (λ name. Some (sure_file files name)) ≡ Some (generated turns)
files_are files turns a b p s two first program second samples =
    ap (λ (fs : List Named). Some (λ (name : List ℕ). Some (sure_file fs name))) two
    ∙ (ap₂ (λ (x t : List ℕ). Some (λ (name : List ℕ). Some (shown x t (string_bytes b) s.items name))) first program
    ∙ ap₂ (λ (y u : List ℕ). Some (λ (name : List ℕ). Some (shown program_file (program_text turns) y u name))) second samples)

-- ---- lines
some_is : {m n : ℕ} → Some m ≡ Some n → m ≡ n
some_is is = cc

none_some : {n : ℕ} → None ≡ Some n → ⊥
none_some is = cc

-- the first line ends at the first end
pub line_cut : (text : List ℕ) (n : ℕ) → position is_end text ≡ Some n → take n text ≡ first_line text
line_cut text n found = by_test (nat_lt (position_or_len is_end text) (length text)) found
  where
    by_test : (b : Bool) → cond b (Some (position_or_len is_end text)) None ≡ Some n → take n text ≡ first_line text
    by_test true is = ap (λ (k : ℕ). take k text) (sym (some_is is))
    by_test false is = absurd (none_some is)

-- or with the text
pub line_whole : (text : List ℕ) → position is_end text ≡ None → text ≡ first_line text
line_whole text none = by_test (nat_lt (position_or_len is_end text) (length text)) refl none
  where
    by_test : (b : Bool) → nat_lt (position_or_len is_end text) (length text) ≡ b → cond b (Some (position_or_len is_end text)) None ≡ None → text ≡ first_line text
    by_test true test is = absurd (none_some (sym is))
    by_test false test is = sym (take_all (position_or_len is_end text) text (let k = ltb-false (position_or_len is_end text) (length text) test in omega (arith, k)))

-- without its first byte, if there is one
pub drop_one : (text : List ℕ) → drop (min (length text) 1) text ≡ drop 1 text
drop_one [] = refl
drop_one (x ∷ text) = ap (λ (k : ℕ). drop k (x ∷ text)) (let one : min (suc (length text)) 1 ≡ 1 = omega arith in one)
