use Rattle.pr_queue.proofs.PiecesLemmas.{long_after_put, pieces_put}
use Rattle.pr_queue.proofs.long.put_bytes.Goals as goal

pub returns-clause-put : goal.returns-clause-put
returns-clause-put c = pieces_put c.args.count.now c.fill_from_slice.result c.args.bytes.now.capacity c.args.bytes.now.items c.args.piece.now c.fill_from_slice.new.self
    c.requires.long c.requires.few c.if-count-eq-ROOM.false c.requires.room c.fill_from_slice.ensures.count c.fill_from_slice.ensures.items

pub returns-clause-long : goal.returns-clause-long
returns-clause-long c = long_after_put c.args.count.now c.fill_from_slice.result c.args.bytes.now.capacity c.args.bytes.now.items c.args.piece.now c.fill_from_slice.new.self
    c.requires.long c.requires.few c.if-count-eq-ROOM.false c.requires.room c.fill_from_slice.ensures.count c.fill_from_slice.ensures.items
