use Rattle.pr_queue.proofs.PiecesLemmas.{long_after_get, pieces_got}
use Rattle.pr_queue.proofs.long.get_bytes.Goals as goal

pub returns-clause-got : goal.returns-clause-got
returns-clause-got c = pieces_got c.args.count.now c.read_into.result c.args.bytes.now.capacity c.args.bytes.now.items c.args.into.now c.read_into.new.dst c.read_into.new.self
    c.requires c.if-count-eq0.false c.read_into.ensures.count c.read_into.ensures.read c.read_into.ensures.items

pub returns-clause-left : goal.returns-clause-left
returns-clause-left c = long_after_get c.args.count.now c.read_into.result c.args.bytes.now.capacity c.args.bytes.now.items c.args.into.now c.read_into.new.self
    c.requires c.if-count-eq0.false c.read_into.ensures.count c.read_into.ensures.items
