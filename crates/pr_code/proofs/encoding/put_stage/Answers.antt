use Rattle.std.proofs.Common.{◌≡◌, ◌++◌, map}
use Rattle.std.proofs.lemmas.Result.{IfOk-from_err}
use Rattle.std.specs.List.{flat_map}
use Rattle.pr_code.specs.Spelling.{bytes_of_words, map_words, set_words, number_of_flags, is_set}
use Rattle.pr_code.proofs.WritingLemmas.{two_parts}
use Rattle.pr_code.proofs.encoding.put_stage.Goals as goal

pub returns-clause-words : goal.returns-clause-words
returns-clause-words g c =
    let pes = c.args.stage.now.pes.items in
    let set : c.put_set.new.out.items ≡ bytes_of_words (flat_map set_words pes) = rw (c.clear.ensures.items, c.deref.ensures.value) at c.in_ok-marks.ensures.words in
    let marks : c.in_ok-marks.marks ≡ number_of_flags (map is_set pes) = rw c.deref.ensures.value at c.in_ok-marks.ensures.marks in
    let first : c.put_map.new.out.items ≡ c.args.out.now.items ++ bytes_of_words (map_words g.row.N (number_of_flags (map is_set pes))) = rw marks at c.in_ok-put_map.ensures in
    let second : c.extend_from_slice.new.self.items ≡ c.put_map.new.out.items ++ bytes_of_words (flat_map set_words pes) = rw (c.deref-2.ensures.value, set) at c.in_ok-extend_from_slice.ensures.items in
    two_parts c.args.out.now.items c.put_map.new.out.items c.extend_from_slice.new.self.items (map_words g.row.N (number_of_flags (map is_set pes))) (flat_map set_words pes) first second

pub returns-in_err-marks : goal.returns-in_err-marks
returns-in_err-marks g c = let h = c.from_residual.ensures.0 in record { words = IfOk-from_err _ _ h; bytes = IfOk-from_err _ _ h }

pub returns-in_err-put_map : goal.returns-in_err-put_map
returns-in_err-put_map g c = let h = c.from_residual-in_err-put_map.ensures.0 in record { words = IfOk-from_err _ _ h; bytes = IfOk-from_err _ _ h }

pub returns-in_err-extend_from_slice : goal.returns-in_err-extend_from_slice
returns-in_err-extend_from_slice g c = let h = c.from_residual-in_err-extend_from_slice.ensures.0 in record { words = IfOk-from_err _ _ h; bytes = IfOk-from_err _ _ h }
