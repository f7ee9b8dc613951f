use Rattle.std.proofs.Common.{◌≡◌, ◌≤◌, ℕ, List, All, drop}
use Rattle.pr_lang.specs.Word.{words}
use Rattle.pr_lang.specs.Load.{first_deep, deep_from}
use Rattle.pr_parse_lex.specs.Depth.{loads_seen}
use Rattle.pr_parse_lex.proofs.depth.first_deep.Given as goal

abbrev pub invariant-loop-place : goal.invariant-loop-place
invariant-loop-place l = record { load : l.loads.load ≤ 256; waiting : All (λ n. n ≤ 256) l.loads.waiting.items; rest : (text : List ℕ) → deep_from l.place (loads_seen l.loads) (words text (drop l.place l.tokens)) ≡ first_deep (words text l.tokens) }
