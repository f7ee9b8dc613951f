-- What is left out of a module changes nothing that is kept.
use Rattle.std.proofs.Common.{◌≡◌, ◌<◌, ◌≤◌, ℕ, suc, ◌+◌, ◌-◌, ◌*◌, ◌/◌, ◌%◌, ◌^◌, ◌==◌, ◌&&◌, max, Bool, true, false, List, [], ◌∷◌, ◌++◌, bit_and, bit_or, bit_xor, refl, sym, ap, subst, ◌∙◌, arith, if◌then◌else◌, not}
use Rattle.std.specs.Int.{bit_at}
use Rattle.std.proofs.Math.Nat.{mod-lt}
use Rattle.std.proofs.lemmas.Nat.{pow_pos}
use Rattle.std.proofs.lemmas.Bool.{and_parts, eqb-true}
use Rattle.std.proofs.lemmas.Bool.Decides.{nat_tests}
use Rattle.pr_conf.specs.Shape.{Shape}
use Rattle.pr_conf.specs.Rules.{bytes_in}
use Rattle.pr_lens_rtl.specs.declared.vectors.Part.{Part}
use Rattle.pr_lens_rtl.specs.declared.vectors.Net.{Net}
use Rattle.pr_lens_rtl.specs.Verilog.{Expr, Assign, Module, Values, width, width_of, value, assigned, Takes, Fit, IsSettled, IsClock}
use Rattle.pr_lens_rtl.specs.Kept.{reads, kept_of, kept, place, is_root, AreIn, AreClosed, IsClosed}
use Rattle.pr_lens_rtl.specs.Traces.{is_one, sample_at, result_at, samples_in, results_in, IsRun, IsRunFromReset, AgreeAtInputs, AgreeAtRegisters, end_of, offers_none, ready_clocks}
use Rattle.pr_lens_rtl.proofs.RegisterLaws.{places_alike}

-- ---- whether two vectors are one
part_code : Part → ℕ
part_code Part.A = 0
part_code Part.B = 1
part_code Part.CarryIn = 2
part_code Part.C = 3
part_code Part.X = 4
part_code Part.Sum = 5
part_code Part.Carry = 6
part_code Part.Output = 7
part_code Part.State = 8
part_code Part.Row = 9

part_by : ℕ → Part
part_by n =
    if n == 0 then Part.A else if n == 1 then Part.B else if n == 2 then Part.CarryIn else if n == 3 then Part.C else if n == 4 then Part.X
    else if n == 5 then Part.Sum else if n == 6 then Part.Carry else if n == 7 then Part.Output else if n == 8 then Part.State else Part.Row

part_again : (p : Part) → part_by (part_code p) ≡ p
unfolding part_code part_by
part_again Part.A = refl
part_again Part.B = refl
part_again Part.CarryIn = refl
part_again Part.C = refl
part_again Part.X = refl
part_again Part.Sum = refl
part_again Part.Carry = refl
part_again Part.Output = refl
part_again Part.State = refl
part_again Part.Row = refl

kind_code : Net → ℕ
kind_code Net.Reset = 0
kind_code Net.InValid = 1
kind_code Net.InReady = 2
kind_code Net.OutValid = 3
kind_code Net.OutReady = 4
kind_code (Net.In k) = 5
kind_code (Net.Out k) = 6
kind_code (Net.Valid s) = 7
kind_code (Net.Of part s k) = 8

code_of_part : Net → ℕ
code_of_part (Net.Of part s k) = part_code part
code_of_part Net.Reset = 0
code_of_part Net.InValid = 0
code_of_part Net.InReady = 0
code_of_part Net.OutValid = 0
code_of_part Net.OutReady = 0
code_of_part (Net.In k) = 0
code_of_part (Net.Out k) = 0
code_of_part (Net.Valid s) = 0

first_code : Net → ℕ
first_code Net.Reset = 0
first_code Net.InValid = 0
first_code Net.InReady = 0
first_code Net.OutValid = 0
first_code Net.OutReady = 0
first_code (Net.In k) = k
first_code (Net.Out k) = k
first_code (Net.Valid s) = s
first_code (Net.Of part s k) = s

second_code : Net → ℕ
second_code (Net.Of part s k) = k
second_code Net.Reset = 0
second_code Net.InValid = 0
second_code Net.InReady = 0
second_code Net.OutValid = 0
second_code Net.OutReady = 0
second_code (Net.In k) = 0
second_code (Net.Out k) = 0
second_code (Net.Valid s) = 0

net_by : ℕ → ℕ → ℕ → ℕ → Net
net_by kind part a b =
    if kind == 0 then Net.Reset else if kind == 1 then Net.InValid else if kind == 2 then Net.InReady else if kind == 3 then Net.OutValid
    else if kind == 4 then Net.OutReady else if kind == 5 then Net.In a else if kind == 6 then Net.Out a else if kind == 7 then Net.Valid a
    else Net.Of (part_by part) a b

net_again : (n : Net) → net_by (kind_code n) (code_of_part n) (first_code n) (second_code n) ≡ n
unfolding net_by kind_code code_of_part first_code second_code
net_again Net.Reset = refl
net_again Net.InValid = refl
net_again Net.InReady = refl
net_again Net.OutValid = refl
net_again Net.OutReady = refl
net_again (Net.In k) = refl
net_again (Net.Out k) = refl
net_again (Net.Valid s) = refl
net_again (Net.Of part s k) = ap (λ p. Net.Of p s k) (part_again part)

is_net : Net → Net → Bool
is_net m n = (kind_code m == kind_code n) && (code_of_part m == code_of_part n) && (first_code m == first_code n) && (second_code m == second_code n)

is_net-true : (m n : Net) → is_net m n ≡ true → m ≡ n
unfolding is_net
is_net-true m n h =
    let k = kind_code m == kind_code n in
    let p = code_of_part m == code_of_part n in
    let a = first_code m == first_code n in
    let three = and_parts (k && p && a) (second_code m == second_code n) h in
    let two = and_parts (k && p) a three.0 in
    let one = and_parts k p two.0 in
    sym (net_again m)
    ∙ ap (λ q. net_by q (code_of_part m) (first_code m) (second_code m)) (eqb-true (kind_code m) (kind_code n) one.0)
    ∙ ap (λ q. net_by (kind_code n) q (first_code m) (second_code m)) (eqb-true (code_of_part m) (code_of_part n) one.1)
    ∙ ap (λ q. net_by (kind_code n) (code_of_part n) q (second_code m)) (eqb-true (first_code m) (first_code n) two.1)
    ∙ ap (net_by (kind_code n) (code_of_part n) (first_code n)) (eqb-true (second_code m) (second_code n) three.1)
    ∙ net_again n

self : (n : ℕ) → (n == n) ≡ true
self n = grind (arith, nat_tests)

is_net-self : (n : Net) → is_net n n ≡ true
unfolding is_net
is_net-self n =
    ap (λ q. q && (code_of_part n == code_of_part n) && (first_code n == first_code n) && (second_code n == second_code n)) (self (kind_code n))
    ∙ ap (λ q. true && q && (first_code n == first_code n) && (second_code n == second_code n)) (self (code_of_part n))
    ∙ ap (λ q. true && true && q && (second_code n == second_code n)) (self (first_code n))
    ∙ ap (λ q. true && true && true && q) (self (second_code n))

-- ---- one vector is set
set_at : Values → Net → ℕ → Values
set_at now n v = λ m. if is_net m n then v else now m

set_cases : (F : ℕ → Type 0) (now : Values) (n : Net) (v : ℕ) (m : Net) → (m ≡ n → F v) → F (now m) → F (set_at now n v m)
unfolding set_at
set_cases F now n v m same other = go (is_net m n) refl
  where
    go : (b : Bool) → is_net m n ≡ b → F (if b then v else now m)
    go true e = same (is_net-true m n e)
    go false e = other

at_same : (now : Values) (n : Net) (v : ℕ) → set_at now n v n ≡ v
unfolding set_at
at_same now n v = ap (λ b. if b then v else now n) (is_net-self n)

at_lower : (now : Values) (n : Net) (v : ℕ) (m : Net) → place m < place n → set_at now n v m ≡ now m
at_lower now n v m l = set_cases (λ q. q ≡ now m) now n v m (λ e. let p : place m ≡ place n = ap place e in absurd (omega arith)) refl

-- ---- what an expression reads decides its value
abbrev pub AgreeOn : Values → Values → List Net → Type 0
AgreeOn now part [] = Unit {0}
AgreeOn now part (n ∷ ns) = (now n ≡ part n) × AgreeOn now part ns

on_left : (now part : Values) (ns ms : List Net) → AgreeOn now part (ns ++ ms) → AgreeOn now part ns
on_left now part [] ms h = tt
on_left now part (n ∷ ns) ms h = (h.0, on_left now part ns ms h.1)

on_right : (now part : Values) (ns ms : List Net) → AgreeOn now part (ns ++ ms) → AgreeOn now part ms
on_right now part [] ms h = h
on_right now part (n ∷ ns) ms h = on_right now part ns ms h.1

value_same : (now part : Values) (e : Expr) (w : ℕ) → AgreeOn now part (reads e) → value now e w ≡ value part e w
value_same now part (Expr.Byte k) w h = refl
value_same now part (Expr.Bit b) w h = refl
value_same now part (Expr.Read n) w h = h.0
value_same now part (Expr.Pick n k) w h = ap (λ v. bit_at v k) h.0
value_same now part (Expr.Low n k) w h = ap (λ v. v % 2 ^ k) h.0
value_same now part (Expr.Wide n) w h = h.0
value_same now part (Expr.Not x) w h = ap (λ v. 2 ^ w - 1 - v) (value_same now part x w h)
value_same now part (Expr.And x y) w h =
    ap (λ v. bit_and v (value now y w)) (value_same now part x w (on_left now part (reads x) (reads y) h))
    ∙ ap (bit_and (value part x w)) (value_same now part y w (on_right now part (reads x) (reads y) h))
value_same now part (Expr.Or x y) w h =
    ap (λ v. bit_or v (value now y w)) (value_same now part x w (on_left now part (reads x) (reads y) h))
    ∙ ap (bit_or (value part x w)) (value_same now part y w (on_right now part (reads x) (reads y) h))
value_same now part (Expr.Xor x y) w h =
    ap (λ v. bit_xor v (value now y w)) (value_same now part x w (on_left now part (reads x) (reads y) h))
    ∙ ap (bit_xor (value part x w)) (value_same now part y w (on_right now part (reads x) (reads y) h))
value_same now part (Expr.Plus x y) w h =
    ap (λ v. (v + value now y w) % 2 ^ w) (value_same now part x w (on_left now part (reads x) (reads y) h))
    ∙ ap (λ v. (value part x w + v) % 2 ^ w) (value_same now part y w (on_right now part (reads x) (reads y) h))
value_same now part (Expr.Left x k) w h = ap (λ v. v * 2 ^ k % 2 ^ w) (value_same now part x w h)
value_same now part (Expr.Right x k) w h = ap (λ v. v / 2 ^ k) (value_same now part x w h)
value_same now part (Expr.IsZero x) w h = ap (λ v. if v == 0 then 1 else 0) (value_same now part x (max (width_of x) 8) h)
value_same now part (Expr.Choice c x y) w h =
    let rest = on_right now part (reads c) (reads x ++ reads y) h in
    ap (λ v. if v == 0 then value now y w else value now x w) (value_same now part c (width_of c) (on_left now part (reads c) (reads x ++ reads y) h))
    ∙ ap (λ v. if value part c (width_of c) == 0 then value now y w else v) (value_same now part x w (on_left now part (reads x) (reads y) rest))
    ∙ ap (λ v. if value part c (width_of c) == 0 then v else value part x w) (value_same now part y w (on_right now part (reads x) (reads y) rest))

assigned_same : (now part : Values) (a : Assign) → AgreeOn now part (reads a.expr) → assigned now a ≡ assigned part a
assigned_same now part a h = ap (λ v. v % 2 ^ width a.net) (value_same now part a.expr (max (width a.net) (width_of a.expr)) h)

-- ---- assignments in the order of their places
abbrev pub Below : ℕ → List Net → Type 0
Below p [] = Unit {0}
Below p (n ∷ ns) = (place n < p) × Below p ns

abbrev pub is_wire : Net → Bool
is_wire Net.Reset = false
is_wire Net.InValid = false
is_wire Net.InReady = true
is_wire Net.OutValid = true
is_wire Net.OutReady = false
is_wire (Net.In k) = false
is_wire (Net.Out k) = true
is_wire (Net.Valid s) = false
is_wire (Net.Of Part.A s k) = true
is_wire (Net.Of Part.B s k) = true
is_wire (Net.Of Part.CarryIn s k) = true
is_wire (Net.Of Part.C s k) = true
is_wire (Net.Of Part.X s k) = true
is_wire (Net.Of Part.Sum s k) = true
is_wire (Net.Of Part.Carry s k) = true
is_wire (Net.Of Part.Output s k) = true
is_wire (Net.Of Part.State s k) = false
is_wire (Net.Of Part.Row s k) = false

-- from one place to another
abbrev pub Rise : (Assign → Type 0) → ℕ → ℕ → List Assign → Type 0
Rise Q lo hi [] = lo ≤ hi
Rise Q lo hi (a ∷ rest) = (lo ≤ place a.net) × Q a × Rise Q (suc (place a.net)) hi rest

abbrev pub IsWire : Assign → Type 0
IsWire a = (is_wire a.net ≡ true) × Below (place a.net) (reads a.expr)

abbrev pub IsRegister : Assign → Type 0
IsRegister a = is_wire a.net ≡ false

-- a module each of whose vectors is driven once, its wires in an order in which each reads what comes before it
pub record IsDriven (m : Module) : Type 0 where
  pub end : ℕ
  pub wires : Rise IsWire 1 end m.wires
  pub registers : Rise IsRegister 1 end m.registers

pub rise_from : (Q : Assign → Type 0) (lo mid hi : ℕ) (xs : List Assign) → lo ≤ mid → Rise Q mid hi xs → Rise Q lo hi xs
rise_from Q lo mid hi [] l r = omega arith
rise_from Q lo mid hi (a ∷ rest) l r = (omega (arith, r.0), r.1, r.2)

pub rise_both : (Q : Assign → Type 0) (lo mid hi : ℕ) (xs ys : List Assign) → Rise Q lo mid xs → Rise Q mid hi ys → Rise Q lo hi (xs ++ ys)
rise_both Q lo mid hi [] ys r t = rise_from Q lo mid hi ys r t
rise_both Q lo mid hi (a ∷ rest) ys r t = (r.0, r.1, rise_both Q (suc (place a.net)) mid hi rest ys r.2 t)

pub rise_to : (Q : Assign → Type 0) (lo mid hi : ℕ) (xs : List Assign) → Rise Q lo mid xs → mid ≤ hi → Rise Q lo hi xs
rise_to Q lo mid hi [] r l = omega (arith, r)
rise_to Q lo mid hi (a ∷ rest) r l = (r.0, r.1, rise_to Q (suc (place a.net)) mid hi rest r.2 l)

rise_kept : (Q : Assign → Type 0) (K : Net → Bool) (lo hi : ℕ) (xs : List Assign) → Rise Q lo hi xs → Rise Q lo hi (kept_of K xs)
rise_kept Q K lo hi [] r = r
rise_kept Q K lo hi (a ∷ rest) r = go (K a.net) (rise_kept Q K (suc (place a.net)) hi rest r.2)
  where
    go : (b : Bool) → Rise Q (suc (place a.net)) hi (kept_of K rest) → Rise Q lo hi (if b then a ∷ kept_of K rest else kept_of K rest)
    go true more = (r.0, r.1, more)
    go false more = rise_from Q lo (suc (place a.net)) hi (kept_of K rest) (omega (arith, r.0)) more

-- ---- wires that are worked out one after the other
settled_by : List Assign → Values → Values
settled_by [] now = now
settled_by (a ∷ rest) now = settled_by rest (set_at now a.net (assigned now a))

-- registers that take their next values
latched : List Assign → Values → Values → Values
latched [] now after = after
latched (a ∷ rest) now after = latched rest now (set_at after a.net (assigned now a))

module _ (Q : Assign → Type 0) where
  settled_lower : (xs : List Assign) (lo hi : ℕ) (now : Values) (m : Net) → Rise Q lo hi xs → place m < lo → settled_by xs now m ≡ now m
  unfolding settled_by
  settled_lower [] lo hi now m r l = refl
  settled_lower (a ∷ rest) lo hi now m r l =
      settled_lower rest (suc (place a.net)) hi (set_at now a.net (assigned now a)) m r.2 (omega (arith, r.0)) ∙ at_lower now a.net (assigned now a) m (omega (arith, r.0))

  latched_lower : (xs : List Assign) (lo hi : ℕ) (now after : Values) (m : Net) → Rise Q lo hi xs → place m < lo → latched xs now after m ≡ after m
  unfolding latched
  latched_lower [] lo hi now after m r l = refl
  latched_lower (a ∷ rest) lo hi now after m r l =
      latched_lower rest (suc (place a.net)) hi now (set_at after a.net (assigned now a)) m r.2 (omega (arith, r.0)) ∙ at_lower after a.net (assigned now a) m (omega (arith, r.0))

  takes_latched : (xs : List Assign) (lo hi : ℕ) (now after : Values) → Rise Q lo hi xs → Takes now (latched xs now after) xs
  unfolding latched
  takes_latched [] lo hi now after r = tt
  takes_latched (a ∷ rest) lo hi now after r =
      let part = set_at after a.net (assigned now a) in (
        latched_lower rest (suc (place a.net)) hi now part a.net r.2 (omega arith) ∙ at_same after a.net (assigned now a),
        takes_latched rest (suc (place a.net)) hi now part r.2,
      )

takes_settled : (xs : List Assign) (lo hi : ℕ) (now : Values) → Rise IsWire lo hi xs → Takes (settled_by xs now) (settled_by xs now) xs
unfolding settled_by
takes_settled [] lo hi now r = tt
takes_settled (a ∷ rest) lo hi now r = (
  settled_lower IsWire rest (suc (place a.net)) hi part a.net r.2 (omega arith) ∙ at_same now a.net (assigned now a)
      ∙ sym (assigned_same end now a (same (reads a.expr) r.1.1)),
  takes_settled rest (suc (place a.net)) hi part r.2,
)
  where
    part : Values
    part = set_at now a.net (assigned now a)

    end : Values
    end = settled_by rest part

    same : (ns : List Net) → Below (place a.net) ns → AgreeOn end now ns
    same [] b = tt
    same (n ∷ ns) b = (
      settled_lower IsWire rest (suc (place a.net)) hi (set_at now a.net (assigned now a)) n r.2 (omega (arith, b.0)) ∙ at_lower now a.net (assigned now a) n b.0,
      same ns b.1,
    )

-- what is no wire stays
settled_other : (xs : List Assign) (lo hi : ℕ) (now : Values) (m : Net) → Rise IsWire lo hi xs → is_wire m ≡ false → settled_by xs now m ≡ now m
unfolding settled_by
settled_other [] lo hi now m r not_wire = refl
settled_other (a ∷ rest) lo hi now m r not_wire =
    settled_other rest (suc (place a.net)) hi (set_at now a.net (assigned now a)) m r.2 not_wire
    ∙ set_cases (λ q. q ≡ now m) now a.net (assigned now a) m (λ e. let same : is_wire m ≡ is_wire a.net = ap is_wire e in let yes = r.1.0 in absurd (cc)) refl

takes_through : (xs : List Assign) (lo hi : ℕ) (wires : List Assign) (top : ℕ) (now after : Values) → Rise IsRegister lo hi xs → Rise IsWire 1 top wires → Takes now after xs → Takes now (settled_by wires after) xs
takes_through [] lo hi wires top now after r w h = tt
takes_through (a ∷ rest) lo hi wires top now after r w h =
    (settled_other wires 1 top after a.net w r.1 ∙ h.0, takes_through rest (suc (place a.net)) hi wires top now after r.2 w h.1)

set_fit : (now fit_of : Values) (a : Assign) → Fit now → Fit (set_at now a.net (assigned fit_of a))
set_fit now fit_of a fit = λ m.
    set_cases (λ q. q < 2 ^ width m) now a.net (assigned fit_of a) m
    (λ e. subst (λ n. assigned fit_of a < 2 ^ width n) (sym e) (mod-lt (value fit_of a.expr (max (width a.net) (width_of a.expr))) (pow_pos (width a.net)))) (fit m)

settled_fit : (xs : List Assign) (now : Values) → Fit now → Fit (settled_by xs now)
unfolding settled_by
settled_fit [] now fit = fit
settled_fit (a ∷ rest) now fit = settled_fit rest (set_at now a.net (assigned now a)) (set_fit now now a fit)

latched_fit : (xs : List Assign) (now after : Values) → Fit after → Fit (latched xs now after)
unfolding latched
latched_fit [] now after fit = fit
latched_fit (a ∷ rest) now after fit = latched_fit rest now (set_at after a.net (assigned now a)) (set_fit after now a fit)

-- ---- what a module can do
abbrev next_values : Module → Values → Values → Values
next_values m now after = settled_by m.wires (latched m.registers now after)

pub settles_law : (m : Module) → IsDriven m → (first : Values) → Fit first → (now : Values) × IsSettled m now × AgreeAtInputs first now × AgreeAtRegisters first now
settles_law m d first fit =
    let other : (n : Net) → is_wire n ≡ false → settled_by m.wires first n ≡ first n = λ n not_wire. settled_other m.wires 1 d.end first n d.wires not_wire in (
      settled_by m.wires first,
      record { fit = settled_fit m.wires first fit; wires = takes_settled m.wires 1 d.end first d.wires },
      record { reset = other Net.Reset refl; in_valid = other Net.InValid refl; out_ready = other Net.OutReady refl; bytes = λ k. other (Net.In k) refl },
      record { valid = λ s. other (Net.Valid s) refl; states = λ s k. other (Net.Of Part.State s k) refl; rows = λ s k. other (Net.Of Part.Row s k) refl },
    )

next_clock : (m : Module) → IsDriven m → (now after : Values) → IsSettled m now → Fit after → IsClock m now (next_values m now after)
next_clock m d now after s fit = record {
  before = s;
  settled = record { fit = settled_fit m.wires _ (latched_fit m.registers now after fit); wires = takes_settled m.wires 1 d.end (latched m.registers now after) d.wires };
  registers = takes_through m.registers 1 d.end m.wires d.end now (latched m.registers now after) d.registers d.wires (takes_latched IsRegister m.registers 1 d.end now after d.registers);
}

pub next_law : (m : Module) → IsDriven m → (now ports : Values) → IsSettled m now → Fit ports → (after : Values) × IsClock m now after × AgreeAtInputs ports after
next_law m d now ports s fit =
    let other : (n : Net) → is_wire n ≡ false → place n < 1 → next_values m now ports n ≡ ports n =
    λ n not_wire low. settled_other m.wires 1 d.end (latched m.registers now ports) n d.wires not_wire ∙ latched_lower IsRegister m.registers 1 d.end now ports n d.registers low in (
      next_values m now ports,
      next_clock m d now ports s fit,
      record { reset = other Net.Reset refl (omega arith); in_valid = other Net.InValid refl (omega arith); out_ready = other Net.OutReady refl (omega arith); bytes = λ k. other (Net.In k) refl (omega arith) },
    )

pub driven_kept : (K : Net → Bool) (m : Module) → IsDriven m → IsDriven (kept K m)
driven_kept K m d = record { end = d.end; wires = rise_kept IsWire K 1 d.end m.wires d.wires; registers = rise_kept IsRegister K 1 d.end m.registers d.registers }

pub end_kept : (K : Net → Bool) (m : Module) (d : IsDriven m) → (driven_kept K m d).end ≡ d.end
unfolding driven_kept
end_kept K m d = refl

-- ---- a set of vectors that is closed
module _ (K : Net → Bool) where
  abbrev Agree : Values → Values → Type 0
  Agree now part = (n : Net) → K n ≡ true → now n ≡ part n

  in_agree : (now part : Values) (ns : List Net) → Agree now part → AreIn K ns → AgreeOn now part ns
  in_agree now part [] g h = tt
  in_agree now part (n ∷ ns) g h = (g n h.0, in_agree now part ns g h.1)

  -- a kept vector is set to what it takes, or another is set
  one_agrees : (now part base after : Values) (a : Assign) → Agree base after → Agree now part → (K a.net ≡ true → AreIn K (reads a.expr)) → (K a.net ≡ true → after a.net ≡ assigned part a)
      → Agree (set_at base a.net (assigned now a)) after
  one_agrees now part base after a g h c t = λ n k.
      set_cases (λ v. v ≡ after n) base a.net (assigned now a) n
      (λ e. let ka : K a.net ≡ true = ap K (sym e) ∙ k in assigned_same now part a (in_agree now part (reads a.expr) h (c ka)) ∙ sym (t ka) ∙ ap after (sym e)) (g n k)

  settled_agrees : (xs : List Assign) (part base : Values) → AreClosed K xs → Takes part part (kept_of K xs) → Agree base part → Agree (settled_by xs base) part
  unfolding settled_by
  settled_agrees [] part base c t g = g
  settled_agrees (a ∷ rest) part base c t g = go (K a.net) refl t (λ h q. settled_agrees rest part (set_at base a.net (assigned base a)) c.1 h q)
    where
      go : (b : Bool) → K a.net ≡ b → Takes part part (if b then a ∷ kept_of K rest else kept_of K rest)
          → (Takes part part (kept_of K rest) → Agree (set_at base a.net (assigned base a)) part → Agree (settled_by rest (set_at base a.net (assigned base a))) part)
          → Agree (settled_by rest (set_at base a.net (assigned base a))) part
      go true e h more = more h.1 (one_agrees base part base part a g g c.0 (λ k. h.0))
      go false e h more = more h (one_agrees base part base part a g g c.0 (λ k. absurd (cc)))

  latched_agrees : (xs : List Assign) (now part base after : Values) → AreClosed K xs → Takes part after (kept_of K xs) → Agree now part → Agree base after → Agree (latched xs now base) after
  unfolding latched
  latched_agrees [] now part base after c t h g = g
  latched_agrees (a ∷ rest) now part base after c t h g = go (K a.net) refl t (λ u q. latched_agrees rest now part (set_at base a.net (assigned now a)) after c.1 u h q)
    where
      go : (b : Bool) → K a.net ≡ b → Takes part after (if b then a ∷ kept_of K rest else kept_of K rest)
          → (Takes part after (kept_of K rest) → Agree (set_at base a.net (assigned now a)) after → Agree (latched rest now (set_at base a.net (assigned now a))) after)
          → Agree (latched rest now (set_at base a.net (assigned now a))) after
      go true e u more = more u.1 (one_agrees now part base after a g h c.0 (λ k. u.0))
      go false e u more = more u (one_agrees now part base after a g h c.0 (λ k. absurd (cc)))

module _ (K : Net → Bool) (m : Module) (d : IsDriven m) (closed : IsClosed K m) where
  -- the whole module beside the part that is kept
  record Beside (now part : Values) : Type 0 where
    pub settled : IsSettled m now
    pub agree : (n : Net) → K n ≡ true → now n ≡ part n

  begin_beside : (part : Values) → IsSettled (kept K m) part → Beside (settled_by m.wires part) part
  begin_beside part s = record {
    settled = record { fit = settled_fit m.wires part s.fit; wires = takes_settled m.wires 1 d.end part d.wires };
    agree = settled_agrees K m.wires part part closed.wires s.wires (λ n k. refl);
  }

  step_beside : (now part after : Values) → Beside now part → IsClock (kept K m) part after → Beside (next_values m now after) after
  step_beside now part after b k = record {
    settled = (next_clock m d now after b.settled k.settled.fit).settled;
    agree = settled_agrees K m.wires after (latched m.registers now after) closed.wires k.settled.wires
        (latched_agrees K m.registers now part after after closed.registers k.registers b.agree (λ n q. refl));
  }

  step_clock : (now part after : Values) → Beside now part → IsClock (kept K m) part after → IsClock m now (next_values m now after)
  step_clock now part after b k = next_clock m d now after b.settled k.settled.fit

  -- where the wires of the part have settled, so have those of a whole that has its ports
  pub whole_settled : (part : Values) → IsSettled (kept K m) part → (now : Values) × IsSettled m now × ((n : Net) → is_root n ≡ true → now n ≡ part n)
  whole_settled part s =
      let b = begin_beside part s in
      (settled_by m.wires part, b.settled, λ n r. b.agree n (closed.roots n r))

  rest_of : Values → List Values → List Values
  rest_of now [] = []
  rest_of now (after ∷ rest) = next_values m now after ∷ rest_of (next_values m now after) rest

  run_beside : (now part : Values) (rest : List Values) → Beside now part → IsRun (kept K m) part rest → IsRun m now (rest_of now rest)
  unfolding rest_of
  run_beside now part [] b r = tt
  run_beside now part (after ∷ rest) b r = (
    step_clock now part after b r.0,
    b.agree Net.Reset (closed.roots Net.Reset refl) ∙ r.1,
    run_beside (next_values m now after) after rest (step_beside now part after b r.0) r.2,
  )

  module _ (c : Shape) where
    sample_same : (now part : Values) → Beside now part → sample_at c now ≡ sample_at c part
    sample_same now part b = places_alike (λ k. now (Net.In k)) (λ k. part (Net.In k)) 0 (bytes_in c.inputs) (λ k l. b.agree (Net.In (0 + k)) (closed.roots (Net.In (0 + k)) refl))

    result_same : (now part : Values) → Beside now part → result_at c now ≡ result_at c part
    result_same now part b = places_alike (λ k. now (Net.Out k)) (λ k. part (Net.Out k)) 0 _ (λ k l. b.agree (Net.Out (0 + k)) (closed.roots (Net.Out (0 + k)) refl))

    port : (now part : Values) → Beside now part → (n : Net) → is_root n ≡ true → is_one (now n) ≡ is_one (part n)
    port now part b n r = ap is_one (b.agree n (closed.roots n r))

    samples_same : (now part : Values) (rest : List Values) → Beside now part → IsRun (kept K m) part rest → samples_in c now (rest_of now rest) ≡ samples_in c part rest
    unfolding rest_of
    samples_same now part [] b r = refl
    samples_same now part (after ∷ rest) b r =
        ap (λ q. (if q && is_one (now Net.InValid) then sample_at c now ∷ [] else []) ++ samples_in c (next_values m now after) (rest_of (next_values m now after) rest)) (port now part b Net.InReady refl)
        ∙ ap (λ q. (if is_one (part Net.InReady) && q then sample_at c now ∷ [] else []) ++ samples_in c (next_values m now after) (rest_of (next_values m now after) rest)) (port now part b Net.InValid refl)
        ∙ ap (λ q. (if is_one (part Net.InReady) && is_one (part Net.InValid) then q ∷ [] else []) ++ samples_in c (next_values m now after) (rest_of (next_values m now after) rest)) (sample_same now part b)
        ∙ ap (λ q. (if is_one (part Net.InReady) && is_one (part Net.InValid) then sample_at c part ∷ [] else []) ++ q) (samples_same (next_values m now after) after rest (step_beside now part after b r.0) r.2)

    results_same : (now part : Values) (rest : List Values) → Beside now part → IsRun (kept K m) part rest → results_in c now (rest_of now rest) ≡ results_in c part rest
    unfolding rest_of
    results_same now part [] b r = refl
    results_same now part (after ∷ rest) b r =
        ap (λ q. (if q && is_one (now Net.OutValid) then result_at c now ∷ [] else []) ++ results_in c (next_values m now after) (rest_of (next_values m now after) rest)) (port now part b Net.OutReady refl)
        ∙ ap (λ q. (if is_one (part Net.OutReady) && q then result_at c now ∷ [] else []) ++ results_in c (next_values m now after) (rest_of (next_values m now after) rest)) (port now part b Net.OutValid refl)
        ∙ ap (λ q. (if is_one (part Net.OutReady) && is_one (part Net.OutValid) then q ∷ [] else []) ++ results_in c (next_values m now after) (rest_of (next_values m now after) rest)) (result_same now part b)
        ∙ ap (λ q. (if is_one (part Net.OutReady) && is_one (part Net.OutValid) then result_at c part ∷ [] else []) ++ q) (results_same (next_values m now after) after rest (step_beside now part after b r.0) r.2)

    -- to each run of the part that is kept there is one of the whole that takes in the same samples and gives the same
    -- results
    pub whole_run : (first now : Values) (rest : List Values) → IsRunFromReset (kept K m) first now rest
        → (first' : Values) × (now' : Values) × (rest' : List Values) × IsRunFromReset m first' now' rest'
        × (samples_in c now' rest' ≡ samples_in c now rest) × (results_in c now' rest' ≡ results_in c now rest)
    whole_run first now rest h =
        let b0 = begin_beside first h.clock.before in
        let first' = settled_by m.wires first in
        let now' = next_values m first' now in
        let b1 = step_beside first' first now b0 h.clock in (
          first',
          now',
          rest_of now' rest,
          record {
            reset = b0.agree Net.Reset (closed.roots Net.Reset refl) ∙ h.reset;
            clock = step_clock first' first now b0 h.clock;
            run = run_beside now' now rest b1 h.run;
          },
          samples_same now' now rest b1 h.run,
          results_same now' now rest b1 h.run,
        )

    -- ---- a run that goes on
    rest_both : (now : Values) (rest more : List Values) → rest_of now (rest ++ more) ≡ rest_of now rest ++ rest_of (end_of now (rest_of now rest)) more
    unfolding rest_of
    rest_both now [] more = refl
    rest_both now (after ∷ rest) more = ap (λ q. next_values m now after ∷ q) (rest_both (next_values m now after) rest more)

    run_first : (part : Values) (rest more : List Values) → IsRun (kept K m) part (rest ++ more) → IsRun (kept K m) part rest
    run_first part [] more h = tt
    run_first part (after ∷ rest) more h = (h.0, h.1, run_first after rest more h.2)

    run_then : (part : Values) (rest more : List Values) → IsRun (kept K m) part (rest ++ more) → IsRun (kept K m) (end_of part rest) more
    run_then part [] more h = h
    run_then part (after ∷ rest) more h = run_then after rest more h.2

    end_beside : (now part : Values) (rest : List Values) → Beside now part → IsRun (kept K m) part rest → Beside (end_of now (rest_of now rest)) (end_of part rest)
    unfolding rest_of
    end_beside now part [] b r = b
    end_beside now part (after ∷ rest) b r = end_beside (next_values m now after) after rest (step_beside now part after b r.0) r.2

    none_same : (now part : Values) (rest : List Values) → Beside now part → IsRun (kept K m) part rest → offers_none now (rest_of now rest) ≡ offers_none part rest
    unfolding rest_of
    none_same now part [] b r = refl
    none_same now part (after ∷ rest) b r =
        ap (λ q. not q && offers_none (next_values m now after) (rest_of (next_values m now after) rest)) (port now part b Net.InValid refl)
        ∙ ap (λ q. not (is_one (part Net.InValid)) && q) (none_same (next_values m now after) after rest (step_beside now part after b r.0) r.2)

    ready_same : (now part : Values) (rest : List Values) → Beside now part → IsRun (kept K m) part rest → ready_clocks now (rest_of now rest) ≡ ready_clocks part rest
    unfolding rest_of
    ready_same now part [] b r = refl
    ready_same now part (after ∷ rest) b r =
        ap (λ q. if q then suc (ready_clocks (next_values m now after) (rest_of (next_values m now after) rest)) else ready_clocks (next_values m now after) (rest_of (next_values m now after) rest)) (port now part b Net.InReady refl)
        ∙ ap (λ q. if is_one (part Net.InReady) then suc q else q) (ready_same (next_values m now after) after rest (step_beside now part after b r.0) r.2)

    -- where a run goes on with no sample, so does the whole
    pub whole_more : (first now : Values) (rest more : List Values) → IsRunFromReset (kept K m) first now (rest ++ more)
        → (first' : Values) × (now' : Values) × (rest' : List Values) × (more' : List Values) × IsRunFromReset m first' now' (rest' ++ more')
        × (samples_in c now' rest' ≡ samples_in c now rest) × (results_in c now' (rest' ++ more') ≡ results_in c now (rest ++ more))
        × (offers_none (end_of now' rest') more' ≡ offers_none (end_of now rest) more) × (ready_clocks (end_of now' rest') more' ≡ ready_clocks (end_of now rest) more)
    whole_more first now rest more h =
        let b0 = begin_beside first h.clock.before in
        let first' = settled_by m.wires first in
        let now' = next_values m first' now in
        let b1 = step_beside first' first now b0 h.clock in
        let r1 = run_first now rest more h.run in
        let r2 = run_then now rest more h.run in
        let b2 = end_beside now' now rest b1 r1 in
        let end' = end_of now' (rest_of now' rest) in (
          first',
          now',
          rest_of now' rest,
          rest_of end' more,
          subst (λ q. IsRunFromReset m first' now' q) (rest_both now' rest more) (record {
            reset = b0.agree Net.Reset (closed.roots Net.Reset refl) ∙ h.reset;
            clock = step_clock first' first now b0 h.clock;
            run = run_beside now' now (rest ++ more) b1 h.run;
          }),
          samples_same now' now rest b1 r1,
          ap (results_in c now') (sym (rest_both now' rest more)) ∙ results_same now' now (rest ++ more) b1 h.run,
          none_same end' (end_of now rest) more b2 r2,
          ready_same end' (end_of now rest) more b2 r2,
        )
