-- Vectors that rise are driven once.
use Rattle.std.proofs.Common.{◌≡◌, ◌≢◌, ◌<◌, ◌≤◌, ℕ, suc, ◌*◌, ◌==◌, ◌&&◌, nat_lt, nat_le, true, false, List, [], ◌∷◌, ◌++◌, length, map, refl, sym, ap, subst, arith}
use Rattle.std.specs.List.{All, AllPairs, flat_map, list_all}
use Rattle.std.proofs.lemmas.Bool.{and_parts, leb-true, eqb-true}
use Rattle.std.proofs.lemmas.List.{length-append, map-append}
use Rattle.std.proofs.lemmas.List.Elements.{All-nil, All-cons, All-append}
use Rattle.std.proofs.lemmas.List.Kept.{AllPairs-cons}
use Rattle.pr_base.specs.Numbers.{slices_of}
use Rattle.pr_conf.specs.Shape.{OutputShape}
use Rattle.pr_conf.specs.Rules.{is_lawful_width, is_lawful_tap, is_lawful_output, are_lawful_outputs}
use Rattle.pr_conf.proofs.Bounds.{slices-le}
use Rattle.pr_lens_rtl.specs.declared.vectors.Part.{Part}
use Rattle.pr_lens_rtl.specs.declared.vectors.Net.{Net}
use Rattle.pr_lens_rtl.specs.Verilog.{Assign, Module}
use Rattle.pr_lens_rtl.specs.Kept.{place}
use Rattle.pr_lens_rtl.specs.Driven.{driven, is_given, IsBelow}
use Rattle.pr_lens_rtl.proofs.KeptLaws.{Rise, IsWire, IsRegister, IsDriven, is_wire}

abbrev net_of : Assign → Net
net_of a = a.net

-- ---- lists of vectors
above : (Q : Assign → Type 0) (lo hi : ℕ) (xs : List Assign) → Rise Q lo hi xs → All (λ n. lo ≤ place n) (map net_of xs)
above Q lo hi [] r = All-nil (λ n. lo ≤ place n)
above Q lo hi (a ∷ rest) r =
    All-cons (λ n. lo ≤ place n) a.net (map net_of rest) r.0 (λ k d inside. let more = above Q (suc (place a.net)) hi rest r.2 k d inside in let least = r.0 in omega arith)

once : (Q : Assign → Type 0) (lo hi : ℕ) (xs : List Assign) → Rise Q lo hi xs → AllPairs (λ m n. m ≢ n) (map net_of xs)
once Q lo hi [] r = λ i j d lt within. absurd (omega arith)
once Q lo hi (a ∷ rest) r =
    AllPairs-cons (λ m n. m ≢ n) a.net (map net_of rest)
    (λ k d inside same. let more = above Q (suc (place a.net)) hi rest r.2 k d inside in let e = ap place same in omega arith)
    (once Q (suc (place a.net)) hi rest r.2)

-- two lists of which each has what the other has not
pub pairs_both : {X : Type 0} (xs ys : List X) → AllPairs (λ m n. m ≢ n) xs → AllPairs (λ m n. m ≢ n) ys → All (λ x. All (λ y. x ≢ y) ys) xs → AllPairs (λ m n. m ≢ n) (xs ++ ys)
pairs_both [] ys p q apart = q
pairs_both (x ∷ xs) ys p q apart =
    AllPairs-cons (λ m n. m ≢ n) x (xs ++ ys)
    (All-append (λ n. x ≢ n) xs ys (λ k d inside. p 0 (suc k) d (omega arith) (omega arith)) (apart 0 x (omega arith)))
    (pairs_both xs ys (λ i j d lt within. p (suc i) (suc j) d (omega arith) (omega arith)) q (λ k d inside. apart (suc k) d (omega arith)))

below : (Q : Assign → Type 0) (lo hi : ℕ) (xs : List Assign) → Rise Q lo hi xs → All (λ n. place n < hi) (map net_of xs)
below Q lo hi [] r = All-nil (λ n. place n < hi)
below Q lo hi (a ∷ rest) r =
    All-cons (λ n. place n < hi) a.net (map net_of rest) (end (suc (place a.net)) rest r.2) (below Q (suc (place a.net)) hi rest r.2)
  where
    end : (lo : ℕ) (xs : List Assign) → Rise Q lo hi xs → lo ≤ hi
    end lo [] r = r
    end lo (b ∷ more) r = let e = end (suc (place b.net)) more r.2 in let l = r.0 in omega arith

wires_are : (lo hi : ℕ) (xs : List Assign) → Rise IsWire lo hi xs → All (λ n. is_wire n ≡ true) (map net_of xs)
wires_are lo hi [] r = All-nil (λ n. is_wire n ≡ true)
wires_are lo hi (a ∷ rest) r = All-cons (λ n. is_wire n ≡ true) a.net (map net_of rest) r.1.0 (wires_are (suc (place a.net)) hi rest r.2)

registers_are : (lo hi : ℕ) (xs : List Assign) → Rise IsRegister lo hi xs → All (λ n. is_wire n ≡ false) (map net_of xs)
registers_are lo hi [] r = All-nil (λ n. is_wire n ≡ false)
registers_are lo hi (a ∷ rest) r = All-cons (λ n. is_wire n ≡ false) a.net (map net_of rest) r.1 (registers_are (suc (place a.net)) hi rest r.2)

-- ---- one vector
not_given : (n : Net) → 1 ≤ place n → is_given n ≡ false
not_given Net.Reset l = absurd (omega (arith, l))
not_given Net.InValid l = absurd (omega (arith, l))
not_given Net.InReady l = refl
not_given Net.OutValid l = refl
not_given Net.OutReady l = absurd (omega (arith, l))
not_given (Net.In k) l = absurd (omega (arith, l))
not_given (Net.Out k) l = refl
not_given (Net.Valid s) l = refl
not_given (Net.Of part s k) l = refl

numbers_below : (top : ℕ) (n : Net) → 1 ≤ place n → place n < top → IsBelow top n
numbers_below top Net.Reset l h = tt
numbers_below top Net.InValid l h = tt
numbers_below top Net.InReady l h = tt
numbers_below top Net.OutValid l h = tt
numbers_below top Net.OutReady l h = tt
numbers_below top (Net.In k) l h = absurd (omega (arith, l))
numbers_below top (Net.Out k) l h = omega (arith, h)
numbers_below top (Net.Valid s) l h = omega (arith, h)
numbers_below top (Net.Of Part.A s k) l h = (omega (arith, h), omega (arith, h))
numbers_below top (Net.Of Part.B s k) l h = (omega (arith, h), omega (arith, h))
numbers_below top (Net.Of Part.CarryIn s k) l h = (omega (arith, h), omega (arith, h))
numbers_below top (Net.Of Part.C s k) l h = (omega (arith, h), omega (arith, h))
numbers_below top (Net.Of Part.X s k) l h = (omega (arith, h), omega (arith, h))
numbers_below top (Net.Of Part.Sum s k) l h = (omega (arith, h), omega (arith, h))
numbers_below top (Net.Of Part.Carry s k) l h = (omega (arith, h), omega (arith, h))
numbers_below top (Net.Of Part.Output s k) l h = (omega (arith, h), omega (arith, h))
numbers_below top (Net.Of Part.State s k) l h = (omega (arith, h), omega (arith, h))
numbers_below top (Net.Of Part.Row s k) l h = (omega (arith, h), omega (arith, h))

-- ---- a module
pub once_law : (m : Module) → IsDriven m → AllPairs (λ a b. a ≢ b) (driven m)
once_law m d =
    subst (AllPairs (λ a b. a ≢ b)) (sym (map-append net_of m.wires m.registers))
    (pairs_both (map net_of m.wires) (map net_of m.registers) (once IsWire 1 d.end m.wires d.wires) (once IsRegister 1 d.end m.registers d.registers)
    (λ i e inside j f within same.
    let wire = wires_are 1 d.end m.wires d.wires i e inside in
    let register = registers_are 1 d.end m.registers d.registers j f within in
    let alike = ap is_wire same in
    absurd (cc)))

both : (F : Net → Type 0) (m : Module) → All F (map net_of m.wires) → All F (map net_of m.registers) → All F (driven m)
both F m p q = subst (All F) (sym (map-append net_of m.wires m.registers)) (All-append F (map net_of m.wires) (map net_of m.registers) p q)

pub inside_law : (m : Module) → IsDriven m → All (λ n. is_given n ≡ false) (driven m)
inside_law m d =
    both (λ n. is_given n ≡ false) m
    (λ k e inside. not_given _ (above IsWire 1 d.end m.wires d.wires k e inside))
    (λ k e inside. not_given _ (above IsRegister 1 d.end m.registers d.registers k e inside))

pub numbers_law : (m : Module) (d : IsDriven m) (top : ℕ) → d.end ≤ top → All (IsBelow top) (driven m)
numbers_law m d top most =
    both (IsBelow top) m
    (λ k e inside. numbers_below top _ (above IsWire 1 d.end m.wires d.wires k e inside) (let b = below IsWire 1 d.end m.wires d.wires k e inside in omega (arith, b, most)))
    (λ k e inside. numbers_below top _ (above IsRegister 1 d.end m.registers d.registers k e inside) (let b = below IsRegister 1 d.end m.registers d.registers k e inside in omega (arith, b, most)))

-- ---- how many bytes a result has
taps_few : (N P : ℕ) (outputs : List OutputShape) → list_all (is_lawful_output N P) outputs ≡ true → length (flat_map (λ (o : OutputShape). o.taps) outputs) ≤ 16 * length outputs
taps_few N P [] h = omega arith
taps_few N P (o ∷ os) h =
    let one = and_parts (is_lawful_output N P o) (list_all (is_lawful_output N P) os) h in
    let two = and_parts (is_lawful_width o.width && (length o.taps == slices_of o.width)) (list_all (is_lawful_tap N P) o.taps) one.0 in
    let three = and_parts (is_lawful_width o.width) (length o.taps == slices_of o.width) two.0 in
    let size = eqb-true (length o.taps) (slices_of o.width) three.1 in
    let most = slices-le o.width three.0 in
    let rest = taps_few N P os one.1 in
    omega (arith, length-append o.taps (flat_map (λ (p : OutputShape). p.taps) os), size, most, rest)

pub few_taps : (N P : ℕ) (outputs : List OutputShape) → are_lawful_outputs N P outputs ≡ true → length (flat_map (λ (o : OutputShape). o.taps) outputs) ≤ 1024
few_taps N P outputs h =
    let all = and_parts (nat_lt 0 (length outputs) && nat_le (length outputs) 64) (list_all (is_lawful_output N P) outputs) h in
    let count = and_parts (nat_lt 0 (length outputs)) (nat_le (length outputs) 64) all.0 in
    let few = leb-true (length outputs) 64 count.1 in
    let taps = taps_few N P outputs all.1 in
    omega (arith, few, taps)
