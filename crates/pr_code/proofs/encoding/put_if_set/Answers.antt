use Rattle.std.proofs.Common.{rules, ◌≡◌, false}
use Rattle.pr_code.specs.Spelling.{is_set, pe_words, has_pe_bytes}
use Rattle.pr_code.proofs.WritingLemmas.{unset_words}
use Rattle.pr_code.proofs.encoding.put_if_set.Goals as goal

pub returns-then-eq-clause-words : goal.returns-then-eq-clause-words
unfolding is_set pe_words
returns-then-eq-clause-words c =
    let unset : is_set c.args.pe.now ≡ false = search rules in
    unset_words c.args.out.now.items c.args.pe.now unset

pub returns-then-eq-clause-bytes : goal.returns-then-eq-clause-bytes
unfolding has_pe_bytes
returns-then-eq-clause-bytes c = search rules
