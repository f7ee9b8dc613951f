use Rattle.std.proofs.Common.{◌≡◌, ◌++◌, drop}
use Rattle.std.specs.List.{flat_map}
use Rattle.pr_lens_why.specs.Syntax.{is_first_behind, joined, symbol_piece}
use Rattle.pr_lens_why.proofs.syntax.put_symbols.Given as goal

abbrev pub invariant-loop-symbol : goal.invariant-loop-symbol
invariant-loop-symbol l = record {
  text : l.message.items ++ joined l.first (flat_map (symbol_piece l.number) (drop l.symbol-index l.symbols)) ≡ l.fn.message.items ++ joined l.fn.first (flat_map (symbol_piece l.number) l.symbols);
  pieces : is_first_behind l.first (flat_map (symbol_piece l.number) (drop l.symbol-index l.symbols)) ≡ is_first_behind l.fn.first (flat_map (symbol_piece l.number) l.symbols);
}
