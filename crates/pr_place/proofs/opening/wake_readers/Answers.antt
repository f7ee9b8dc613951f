use Rattle.std.proofs.Common.{◌≡◌, ◌≤◌, ◌<◌, ◌+◌, ◌-◌, ◌∙◌, ℕ, List, drop, get_or, length, length-set, ap, arith}
use Rattle.pr_place.proofs.Settling.{count_here}
use Rattle.pr_place.proofs.Awake.{woken_on, one_less, count_drop}
use Rattle.pr_place.proofs.opening.wake_readers.Goals as goal

pub loop-reader-preserved : goal.loop-reader-preserved
loop-reader-preserved c =
    let inv = c.loop-reader.invariant in
    let readers = c.args.readers.now in
    let i = c.loop-reader.reader-index in
    let waits = c.loop-reader.waits.items in
    let r = get_or readers i 0 in
    let inside : r < length waits = (let l = c.requires.there i 0 c.loop-reader-test.true in let e = inv.long in omega (arith, l, e)) in
    let some : 1 ≤ get_or waits r 0 = (let u = inv.used r in let d = count_drop readers i r c.loop-reader-test.true in let h = count_here r (drop (i + 1) readers) in omega (arith, u, d, h)) in
    let step = λ (g : ℕ). one_less waits (drop (i + 1) readers) r g inside some in
    record {
      lists = c.wake_one.ensures.lists;
      long = ap length c.wake_one.ensures.waits ∙ length-set waits r (get_or waits r 0 - 1) ∙ inv.long;
      used = λ g. (let e : get_or c.wake_one.new.waits.items g 0 ≡ _ = ap (λ (ws : List ℕ). get_or ws g 0) c.wake_one.ensures.waits in let s = step g in let d = count_drop readers i g c.loop-reader-test.true in let u = inv.used g in omega (arith, e, s, d, u));
      counted = λ g. (let e : get_or c.wake_one.new.waits.items g 0 ≡ _ = ap (λ (ws : List ℕ). get_or ws g 0) c.wake_one.ensures.waits in let s = step g in let d = count_drop readers i g c.loop-reader-test.true in let u = inv.counted g in omega (arith, e, s, d, u));
      woken = woken_on _ _ _ _ _ _ _ inv.woken c.wake_one.ensures.woken;
    }
