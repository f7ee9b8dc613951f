use Rattle.std.proofs.Common.{sym}
use Rattle.std.proofs.lemmas.Bool.{ltb-true}
use Rattle.pr_lens_shares.proofs.ShareLemmas.{none_put, share_put}
use Rattle.pr_lens_shares.proofs.shares.put_share.Goals as goal

pub returns-in-None : goal.returns-in-None
returns-in-None c = none_put c.args.instances.now c.args.counts.now c.args.place c.args.shares.now.items (sym c.in-None.ensures.lookup.0)

pub returns-in_ok-push-in-Some : goal.returns-in_ok-push-in-Some
returns-in_ok-push-in-Some c =
    let there = c.in-Some.ensures.lookup in
    share_put c.args.instances.now c.args.counts.now c.args.place c.args.shares.now.items c.push.new.self.items c.in-Some.instance.now c.in_ok-name-in-Some.name c.count_at.result (ltb-true c.args.place _ (sym there.0)) there.1 c.in_ok-name-in-Some.ensures c.count_at.ensures c.in_ok-push-in-Some.ensures.items
