use Rattle.std.proofs.Common.{◌≡◌, ◌<◌, ◌+◌, ◌∙◌, ℕ, List, get_or, length, subst, sym, arith}
use Rattle.std.specs.List.{All}
use Rattle.pr_place.specs.Registers.{count_of}
use Rattle.pr_place.proofs.Awake.{AreLists, Woken, woken_on, readings_drop}
use Rattle.pr_place.proofs.opening.wake.Goals as goal

pub of-requires : goal.of-requires
of-requires c =
    let l = c.requires.groups c.loop-group.group-index 0 c.loop-group-test.true in
    let e = c.requires.long in
    omega (arith, l, e)

pub wake_readers-requires-clause-there : goal.wake_readers-requires-clause-there
wake_readers-requires-clause-there c =
    let t = c.args.tables.now in
    let inv = c.loop-group.invariant in
    let h = get_or c.args.groups.now c.loop-group.group-index 0 in
    let is = c.of.ensures in
    subst (λ (xs : List ℕ). All (λ g. g < length c.loop-group.waits.items) xs) (sym is) (λ k d l. (let m = c.requires.there h k d l in let e = inv.long in omega (arith, m, e)))

pub loop-group-preserved : goal.loop-group-preserved
loop-group-preserved c =
    let t = c.args.tables.now in
    let inv = c.loop-group.invariant in
    let groups = c.args.groups.now in
    let i = c.loop-group.group-index in
    let h = get_or groups i 0 in
    let is = c.of.ensures in
    let step = λ (g : ℕ). subst (λ (xs : List ℕ). get_or c.wake_readers.new.waits.items g 0 + count_of g xs ≡ get_or c.loop-group.waits.items g 0) is (c.wake_readers.ensures.waits g) in
    record {
      lists = subst (λ (k : List ℕ). AreLists k c.wake_readers.new.waits.items c.wake_readers.new.candidates) c.deref.ensures.value c.wake_readers.ensures.lists;
      long = c.wake_readers.ensures.long ∙ inv.long;
      used = λ g. (let s = step g in let d = readings_drop t g groups i c.loop-group-test.true in let u = inv.used g in omega (arith, s, d, u));
      counted = λ g. (let s = step g in let d = readings_drop t g groups i c.loop-group-test.true in let u = inv.counted g in omega (arith, s, d, u));
      woken = woken_on _ _ _ _ _ _ _ inv.woken (subst (λ (k : List ℕ). Woken k c.loop-group.waits.items c.loop-group.candidates.ready.items c.wake_readers.new.waits.items c.wake_readers.new.candidates.ready.items) c.deref.ensures.value c.wake_readers.ensures.woken);
    }
