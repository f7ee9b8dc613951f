-- What the equations made so far keep, outside of every body and in the body of a recurrence.
use Rattle.std.proofs.Common.{◌≡◌, ◌∙◌, ◌⊎◌, inl, inr, ◌<◌, ◌≤◌, ℕ, zero, suc, ◌+◌, Bool, true, false, cond, ◌||◌, nat_eq, List, [], ◌∷◌, ◌++◌, map, length, Option, Some, None, refl, sym, ap, ap₂, subst, arith, length-append, slice_get}
use Rattle.std.specs.List.{AllByRecursion}
use Rattle.std.specs.Option.{option_map_or}
use Rattle.std.proofs.lemmas.List.{length-map}
use Rattle.std.proofs.lemmas.Option.{slice_get_within}
use Rattle.std.proofs.lemmas.Bool.{cases_lt, or_right, and_parts, false≢true, eq-eqb, eqb-true}
use Rattle.pr_flat.specs.declared.equations.Operand.{Operand}
use Rattle.pr_flat.specs.declared.equations.Operand.TheVariants.{Const, Eq, Past}
use Rattle.pr_flat.specs.declared.equations.Op.{Op}
use Rattle.pr_flat.specs.declared.equations.Op.TheVariants.{Choose, LeftBy, RightBy, Slice, Cat, Delay, Rec}
use Rattle.pr_flat.specs.Shape.{EquationShape, EachEquation}
use Rattle.pr_flat.specs.Facts.{arity, is_rec, has_lawful_kinds, has_lawful_width, has_lawful_ends, has_lawful_constant, does_begin_with, begins_with, op_at, IsBody}
use Rattle.pr_flat.proofs.WidthLemmas.{equation_at, one_equation}
use Rattle.pr_expand_spec.specs.declared.givens.Given.{Given}
use Rattle.pr_expand_spec.specs.Making.{Equations, Expanded, made, given_operand, given_signed, kinds_read, with_equation, is_delay_of, delay_from, delay_step, delayed_once, delayed}
use Rattle.pr_scope_facts.proofs.Adding.{each-more}
use Rattle.pr_scope_facts.proofs.Appending.{Appends, appends-nothing, appends-both, appends-length, appends-at}

-- where equations are made: outside of every body, or in the body of the recurrence that has this first equation and is to have this number
pub data Setting : Type 0 where
  Outside : Setting
  Inside : ℕ → ℕ → Setting

abbrev pub is_delay : Op → Bool
is_delay (Delay c) = true
is_delay op = false

pub record IsDelayAt (es : Equations) (j : ℕ) : Type 0 where
  pub equation : EquationShape
  pub there : slice_get es j ≡ Some equation
  pub delay : is_delay equation.op ≡ true

-- equation i stands in the body of this recurrence, which is there already or is being made
abbrev pub StandsIn : Setting → Equations → ℕ → ℕ → ℕ → Type 0
StandsIn s es i first rec = ((e : EquationShape) × (init : ℕ) × (slice_get es rec ≡ Some e) × (e.op ≡ Rec init first) × (first ≤ i) × (i ≤ rec)) ⊎ ((s ≡ Inside first rec) × (first ≤ i))

-- what equation i reads: an equation before it, which lies in no body that has ended or is a delay; or the past of the recurrence in whose body it stands
abbrev pub IsRead : Setting → Equations → ℕ → Operand → Type 0
IsRead s es i (Const c) = Unit {0}
IsRead s es i (Eq j) = (j < i) × ((rec : ℕ) (d : EquationShape) (init first : ℕ) → slice_get es rec ≡ Some d → d.op ≡ Rec init first → rec < i → first ≤ j → j < rec → IsDelayAt es j)
IsRead s es i (Past rec k) = (1 ≤ k) × ((first : ℕ) × StandsIn s es i first rec)

-- a delay reads no past, and in a body nothing of it but delays
abbrev pub IsDelayed : Setting → Equations → ℕ → Operand → Type 0
IsDelayed s es i (Const c) = Unit {0}
IsDelayed s es i (Eq j) = (first rec : ℕ) → StandsIn s es i first rec → first ≤ j → IsDelayAt es j
IsDelayed s es i (Past rec k) = ⊥

pub record Sound (s : Setting) (es : Equations) (i : ℕ) (e : EquationShape) : Type 0 where
  pub args : length e.args ≡ arity e.op
  pub kinds : length e.kinds ≡ arity e.op
  pub numbers : has_lawful_kinds e.op e.kinds ≡ true
  pub width : has_lawful_width e.op e.declared ≡ true
  pub ends : has_lawful_ends e.op ≡ true
  pub constant : has_lawful_constant es e.op e.args ≡ true
  pub operands : AllByRecursion (IsRead s es i) e.args
  pub delays : is_delay e.op ≡ true → AllByRecursion (IsDelayed s es i) e.args
  pub body : (init first : ℕ) → e.op ≡ Rec init first → IsBody es i first

-- a body that is being made has no recurrence in it
abbrev pub IsBegun : Setting → Equations → Type 0
IsBegun Outside es = Unit {0}
IsBegun (Inside first rec) es = (first ≤ length es) × EachEquation es (λ i e. first ≤ i → is_rec e.op ≡ false)

pub record State (s : Setting) (es : Equations) : Type 0 where
  pub each : EachEquation es (Sound s es)
  pub begun : IsBegun s es

-- ---- more equations
-- the bodies in which the equations so far stand are the same
record Grows (s : Setting) (es : Equations) (t : Setting) (ds : Equations) : Type 0 where
  appends : Appends es ds
  forth : (i first rec : ℕ) → i < length es → StandsIn s es i first rec → StandsIn t ds i first rec
  back : (i first rec : ℕ) → i < length es → StandsIn t ds i first rec → StandsIn s es i first rec

delay-kept : (es ds : Equations) → Appends es ds → (j : ℕ) → IsDelayAt es j → IsDelayAt ds j
delay-kept es ds a j d = record { equation = d.equation; there = appends-at es ds a j d.equation d.there; delay = d.delay }

-- what stands at a number that was taken before
before-at : (es ds : Equations) → Appends es ds → (i : ℕ) (e : EquationShape) → i < length es → slice_get ds i ≡ Some e → slice_get es i ≡ Some e
before-at es ds a i e low there =
    let old = equation_at es i low in
    old.1 ∙ ap Some (one_equation ds i old.0 e (appends-at es ds a i old.0 old.1) there)

read-kept : (s t : Setting) (es ds : Equations) → Grows s es t ds → (i : ℕ) → i < length es → (a : Operand) → IsRead s es i a → IsRead t ds i a
read-kept s t es ds g i low (Const c) read = tt
read-kept s t es ds g i low (Eq j) read = (read.0, λ rec d init first there op before above below. delay-kept es ds g.appends j (read.1 rec d init first (before-at es ds g.appends rec d (omega (arith, low, before)) there) op before above below))
read-kept s t es ds g i low (Past rec k) read = (read.0, (read.1.0, g.forth i read.1.0 rec low read.1.1))

delayed-kept : (s t : Setting) (es ds : Equations) → Grows s es t ds → (i : ℕ) → i < length es → (a : Operand) → IsDelayed s es i a → IsDelayed t ds i a
delayed-kept s t es ds g i low (Const c) read = tt
delayed-kept s t es ds g i low (Eq j) read = λ first rec stands above. delay-kept es ds g.appends j (read first rec (g.back i first rec low stands) above)
delayed-kept s t es ds g i low (Past rec k) read = absurd read

op-found : (o p : Option Op) → ((x : Op) → o ≡ Some x → p ≡ Some x) → (test : Op → Bool) → option_map_or test o false ≡ true → option_map_or test p false ≡ true
op-found None p more test is = absurd (false≢true is)
op-found (Some x) p more test is = subst (λ (q : Option Op). option_map_or test q false ≡ true) (sym (more x refl)) is

op-kept : (es ds : Equations) → Appends es ds → (j : ℕ) (x : Op) → op_at es j ≡ Some x → op_at ds j ≡ Some x
op-kept es ds a j x is = found (slice_get es j) refl is where
  found : (o : Option EquationShape) → slice_get es j ≡ o → option_map_or (λ (e : EquationShape). Some e.op) o None ≡ Some x → op_at ds j ≡ Some x
  found None there is = cc
  found (Some e) there is = ap (λ (o : Option EquationShape). option_map_or (λ (d : EquationShape). Some d.op) o None) (appends-at es ds a j e there) ∙ is

begins-kept : (es ds : Equations) → Appends es ds → (c : ℕ) (args : List Operand) → does_begin_with es c args ≡ true → does_begin_with ds c args ≡ true
begins-kept es ds a c (Eq j ∷ []) is = op-found (op_at es j) (op_at ds j) (op-kept es ds a j) (begins_with c) is
begins-kept es ds a c args is = cc

or-more : (a b c : Bool) → (b ≡ true → c ≡ true) → (a || b) ≡ true → (a || c) ≡ true
or-more true b c more is = refl
or-more false b c more is = more is

pub constant-kept : (es ds : Equations) → Appends es ds → (o : Op) (args : List Operand) → has_lawful_constant es o args ≡ true → has_lawful_constant ds o args ≡ true
constant-kept es ds a (Delay c) args is = or-more (nat_eq c 0) (does_begin_with es c args) (does_begin_with ds c args) (begins-kept es ds a c args) is
constant-kept es ds a o args is = refl

sound-kept : (s t : Setting) (es ds : Equations) → Grows s es t ds → (i : ℕ) (e : EquationShape) → i < length es → Sound s es i e → Sound t ds i e
sound-kept s t es ds g i e low sound = record {
  args = sound.args;
  kinds = sound.kinds;
  numbers = sound.numbers;
  width = sound.width;
  ends = sound.ends;
  constant = constant-kept es ds g.appends e.op e.args sound.constant;
  operands = each-more (IsRead s es i) (IsRead t ds i) (read-kept s t es ds g i low) e.args sound.operands;
  delays = λ is. each-more (IsDelayed s es i) (IsDelayed t ds i) (delayed-kept s t es ds g i low) e.args (sound.delays is);
  body = λ init first op.
      let b = sound.body init first op in
      record { ordered = b.ordered; alone = λ k d there above below. b.alone k d (before-at es ds g.appends k d (omega (arith, low, below)) there) above below };
}

-- ---- one equation more
last-or-before : (es : Equations) (e d : EquationShape) (i : ℕ) → slice_get (es ++ e ∷ []) i ≡ Some d → (slice_get es i ≡ Some d) ⊎ ((i ≡ length es) × (e ≡ d))
last-or-before [] e d zero there = inr (refl, (let same : e ≡ d = cc in same))
last-or-before [] e d (suc i) there = absurd (let none : ◌≡◌ {A = Option EquationShape} None (Some d) = there in cc)
last-or-before (x ∷ es) e d zero there = inl there
last-or-before (x ∷ es) e d (suc i) there = elim (last-or-before es e d i there) [
  | inl before ↦ inl before
  | inr last ↦ inr (ap suc last.0, last.1)
]

at-last : (es : Equations) (e : EquationShape) → slice_get (es ++ e ∷ []) (length es) ≡ Some e
at-last [] e = refl
at-last (x ∷ es) e = at-last es e

each-with : (es : Equations) (e : EquationShape) (P : ℕ → EquationShape → Type 0) → ((i : ℕ) (d : EquationShape) → slice_get es i ≡ Some d → P i d) → P (length es) e → EachEquation (es ++ e ∷ []) P
each-with es e P old new i d there = elim (last-or-before es e d i there) [
  | inl before ↦ old i d before
  | inr last ↦ subst (λ (x : EquationShape). P i x) last.1 (subst (λ (n : ℕ). P n e) (sym last.0) new)
]

-- ---- what may be read from here on
-- equation j lies in no body that has ended, or is a delay
pub record IsFree (es : Equations) (j : ℕ) : Type 0 where
  pub free : EachEquation es (λ rec d. (init first : ℕ) → d.op ≡ Rec init first → first ≤ j → j < rec → IsDelayAt es j)

abbrev pub IsGiven : Setting → Equations → Operand → Type 0
IsGiven s es (Const c) = Unit {0}
IsGiven s es (Eq j) = (j < length es) × IsFree es j
IsGiven Outside es (Past rec k) = ⊥
IsGiven (Inside first number) es (Past rec k) = (rec ≡ number) × (1 ≤ k)

-- and may be read by a delay: in a body, nothing of it but delays
abbrev pub IsClean : Setting → Equations → Operand → Type 0
IsClean s es (Const c) = Unit {0}
IsClean Outside es (Eq j) = (j < length es) × IsFree es j
IsClean (Inside first number) es (Eq j) = (j < length es) × IsFree es j × (first ≤ j → IsDelayAt es j)
IsClean s es (Past rec k) = ⊥

pub clean-given : (s : Setting) (es : Equations) (q : Operand) → IsClean s es q → IsGiven s es q
clean-given s es (Const c) clean = tt
clean-given Outside es (Eq j) clean = clean
clean-given (Inside first number) es (Eq j) clean = (clean.0, clean.1)
clean-given s es (Past rec k) clean = absurd clean

-- outside of every body all may be read by a delay
pub outside-clean : (es : Equations) (q : Operand) → IsGiven Outside es q → IsClean Outside es q
outside-clean es (Const c) given = tt
outside-clean es (Eq j) given = given
outside-clean es (Past rec k) given = absurd given

-- equations more; a body that ended in the meantime has begun in it
pub record Later (old new : Equations) : Type 0 where
  pub appends : Appends old new
  pub bodies : EachEquation new (λ rec d. (init first : ℕ) → d.op ≡ Rec init first → length old ≤ rec → length old ≤ first)

pub later-same : (es : Equations) → Later es es
later-same es = record { appends = appends-nothing es; bodies = λ rec d there init first op after. absurd (let low = slice_get_within es rec d there in omega (arith, low, after)) }

pub later-both : (a b c : Equations) → Later a b → Later b c → Later a c
later-both a b c one two = record {
  appends = appends-both a b c one.appends two.appends;
  bodies = λ rec d there init first op after. elim (cases_lt rec (length b)) [
    | inl low ↦ one.bodies rec d (before-at b c two.appends rec d low there) init first op after
    | inr high ↦ let n = appends-length a b one.appends in let m = two.bodies rec d there init first op high in omega (arith, n, m)
  ];
}

free-kept : (es ds : Equations) → Later es ds → (j : ℕ) → j < length es → IsFree es j → IsFree ds j
free-kept es ds l j low free = record {
  free = λ rec d there init first op above below. elim (cases_lt rec (length es)) [
    | inl before ↦ delay-kept es ds l.appends j (free.free rec d (before-at es ds l.appends rec d before there) init first op above below)
    | inr after ↦ absurd (let begins = l.bodies rec d there init first op after in omega (arith, begins, low, above))
  ];
}

pub given-kept : (s : Setting) (es ds : Equations) → Later es ds → (q : Operand) → IsGiven s es q → IsGiven s ds q
given-kept s es ds l (Const c) given = tt
given-kept s es ds l (Eq j) given = (let n = appends-length es ds l.appends in omega (arith, n, given.0), free-kept es ds l j given.0 given.1)
given-kept Outside es ds l (Past rec k) given = absurd given
given-kept (Inside first number) es ds l (Past rec k) given = given

pub clean-kept : (s : Setting) (es ds : Equations) → Later es ds → (q : Operand) → IsClean s es q → IsClean s ds q
clean-kept s es ds l (Const c) clean = tt
clean-kept Outside es ds l (Eq j) clean = given-kept Outside es ds l (Eq j) clean
clean-kept (Inside first number) es ds l (Eq j) clean = (let n = appends-length es ds l.appends in omega (arith, n, clean.0), free-kept es ds l j clean.0 clean.1, λ above. delay-kept es ds l.appends j (clean.2 above))
clean-kept s es ds l (Past rec k) clean = absurd clean

-- ---- an operation that is no recurrence
pub kinds-length : (o : Op) (kinds : List Bool) → length (kinds_read o kinds) ≡ length kinds
kinds-length Cat kinds = length-map kinds (λ k. false)
kinds-length LeftBy [] = refl
kinds-length LeftBy (a ∷ []) = refl
kinds-length LeftBy (a ∷ by ∷ []) = refl
kinds-length LeftBy (a ∷ by ∷ c ∷ kinds) = refl
kinds-length RightBy [] = refl
kinds-length RightBy (a ∷ []) = refl
kinds-length RightBy (a ∷ by ∷ []) = refl
kinds-length RightBy (a ∷ by ∷ c ∷ kinds) = refl
kinds-length Choose [] = refl
kinds-length Choose (c ∷ kinds) = refl
kinds-length (Slice high low) kinds = length-map kinds (λ k. false)
kinds-length (Delay c) kinds = length-map kinds (λ k. false)
kinds-length o kinds = refl

pub kinds-lawful : (o : Op) (kinds : List Bool) → has_lawful_kinds o (kinds_read o kinds) ≡ true
kinds-lawful Choose [] = refl
kinds-lawful Choose (c ∷ []) = refl
kinds-lawful Choose (c ∷ a ∷ []) = refl
kinds-lawful Choose (c ∷ a ∷ b ∷ []) = refl
kinds-lawful Choose (c ∷ a ∷ b ∷ d ∷ kinds) = refl
kinds-lawful LeftBy [] = refl
kinds-lawful LeftBy (a ∷ []) = refl
kinds-lawful LeftBy (a ∷ by ∷ []) = refl
kinds-lawful LeftBy (a ∷ by ∷ c ∷ kinds) = refl
kinds-lawful RightBy [] = refl
kinds-lawful RightBy (a ∷ []) = refl
kinds-lawful RightBy (a ∷ by ∷ []) = refl
kinds-lawful RightBy (a ∷ by ∷ c ∷ kinds) = refl
kinds-lawful (Slice high low) [] = refl
kinds-lawful (Slice high low) (a ∷ []) = refl
kinds-lawful (Slice high low) (a ∷ b ∷ kinds) = refl
kinds-lawful Cat [] = refl
kinds-lawful Cat (a ∷ []) = refl
kinds-lawful Cat (a ∷ b ∷ []) = refl
kinds-lawful Cat (a ∷ b ∷ c ∷ kinds) = refl
kinds-lawful (Delay c) [] = refl
kinds-lawful (Delay c) (a ∷ []) = refl
kinds-lawful (Delay c) (a ∷ b ∷ kinds) = refl
kinds-lawful o kinds = refl

not-rec-op : (o : Op) (init first : ℕ) → is_rec o ≡ false → o ≡ Rec init first → ⊥
not-rec-op o init first none is = false≢true (sym none ∙ ap is_rec is)

-- what is asked of an equation more, other than a recurrence
pub record Fresh (s : Setting) (es : Equations) (o : Op) (args : List Given) (declared : Option ℕ) : Type 0 where
  pub rec : is_rec o ≡ false
  pub count : length args ≡ arity o
  pub width : has_lawful_width o declared ≡ true
  pub ends : has_lawful_ends o ≡ true
  pub constant : has_lawful_constant es o (map given_operand args) ≡ true
  pub given : AllByRecursion (λ (g : Given). IsGiven s es g.operand) args
  pub delays : is_delay o ≡ true → AllByRecursion (λ (g : Given). IsClean s es g.operand) args

-- what comes of making: the equations keep their facts, and what is given may be read
pub record Grown (s : Setting) (es : Equations) (m : Expanded) : Type 0 where
  pub state : State s m.equations
  pub later : Later es m.equations
  pub given : IsGiven s m.equations m.given.operand

each-operand : (P Q : Operand → Type 0) → ((q : Operand) → P q → Q q) → (args : List Given) → AllByRecursion (λ (g : Given). P g.operand) args → AllByRecursion Q (map given_operand args)
each-operand P Q more [] all = tt
each-operand P Q more (g ∷ args) all = (more g.operand all.0, each-operand P Q more args all.1)

given-read : (s : Setting) (es : Equations) (e : EquationShape) → IsBegun s es → (q : Operand) → IsGiven s es q → IsRead s (es ++ e ∷ []) (length es) q
given-read s es e begun (Const c) given = tt
given-read s es e begun (Eq j) given = (
  given.0,
  λ rec d init first there op before above below.
      let a : Appends es (es ++ e ∷ []) = record { more = e ∷ []; is = refl } in
      delay-kept es (es ++ e ∷ []) a j (given.1.free rec d (before-at es (es ++ e ∷ []) a rec d before there) init first op above below),
)
given-read Outside es e begun (Past rec k) given = absurd given
given-read (Inside first number) es e begun (Past rec k) given = (given.1, (first, inr (ap (Inside first) (sym given.0), begun.0)))

-- in a list with one equation more, no recurrence has the last number or a later one
last-is : (es : Equations) (e d : EquationShape) (rec init first : ℕ) → is_rec e.op ≡ false → slice_get (es ++ e ∷ []) rec ≡ Some d → d.op ≡ Rec init first → slice_get es rec ≡ Some d
last-is es e d rec init first none there op = elim (last-or-before es e d rec there) [
  | inl before ↦ before
  | inr last ↦ absurd (not-rec-op d.op init first (subst (λ (x : EquationShape). is_rec x.op ≡ false) last.1 none) op)
]

clean-delayed : (s : Setting) (es : Equations) (e : EquationShape) → is_rec e.op ≡ false → (q : Operand) → IsClean s es q → IsDelayed s (es ++ e ∷ []) (length es) q
clean-delayed s es e none (Const c) clean = tt
clean-delayed s es e none (Past rec k) clean = absurd clean
clean-delayed Outside es e none (Eq j) clean = λ first rec stands above. elim stands [
  | inl closed ↦ absurd (let low = slice_get_within es rec closed.0 (last-is es e closed.0 rec closed.1 first none closed.2 closed.3) in omega (arith, low, closed.5))
  | inr begun ↦ absurd (let differ : Outside ≡ Inside first rec = begun.0 in cc)
]
clean-delayed (Inside f number) es e none (Eq j) clean = λ first rec stands above. elim stands [
  | inl closed ↦ absurd (let low = slice_get_within es rec closed.0 (last-is es e closed.0 rec closed.1 first none closed.2 closed.3) in omega (arith, low, closed.5))
  | inr begun ↦ delay-kept es (es ++ e ∷ []) (record { more = e ∷ []; is = refl }) j (clean.2 (let same : f ≡ first = (let both : Inside f number ≡ Inside first rec = begun.0 in cc) in omega (arith, same, above)))
]

plain-grows : (s : Setting) (es : Equations) (e : EquationShape) → is_rec e.op ≡ false → Grows s es s (es ++ e ∷ [])
plain-grows s es e none =
    let a : Appends es (es ++ e ∷ []) = record { more = e ∷ []; is = refl } in
    record {
      appends = a;
      forth = λ i first rec low stands. elim stands [
        | inl closed ↦ inl (closed.0, closed.1, appends-at es (es ++ e ∷ []) a rec closed.0 closed.2, closed.3, closed.4, closed.5)
        | inr begun ↦ inr begun
      ];
      back = λ i first rec low stands. elim stands [
        | inl closed ↦ inl (closed.0, closed.1, last-is es e closed.0 rec closed.1 first none closed.2 closed.3, closed.3, closed.4, closed.5)
        | inr begun ↦ inr begun
      ];
    }

begun-with : (s : Setting) (es : Equations) (e : EquationShape) → is_rec e.op ≡ false → IsBegun s es → IsBegun s (es ++ e ∷ [])
begun-with Outside es e none begun = tt
begun-with (Inside first number) es e none begun = ((let n = length-append es (e ∷ []) in omega (arith, n, begun.0)), each-with es e (λ i d. first ≤ i → is_rec d.op ≡ false) begun.1 (λ above. none))

fresh-sound : (s : Setting) (es : Equations) (o : Op) (args : List Given) (width : Option ℕ) → IsBegun s es → Fresh s es o args width → Sound s (with_equation o args width es).equations (length es) (record { op = o; args = map given_operand args; declared = width; kinds = kinds_read o (map given_signed args) })
fresh-sound s es o args width begun fresh =
    let e : EquationShape = record { op = o; args = map given_operand args; declared = width; kinds = kinds_read o (map given_signed args) } in
    record {
      args = length-map args given_operand ∙ fresh.count;
      kinds = kinds-length o (map given_signed args) ∙ (length-map args given_signed ∙ fresh.count);
      numbers = kinds-lawful o (map given_signed args);
      width = fresh.width;
      ends = fresh.ends;
      constant = constant-kept es (es ++ e ∷ []) (record { more = e ∷ []; is = refl }) o (map given_operand args) fresh.constant;
      operands = each-operand (IsGiven s es) (IsRead s (es ++ e ∷ []) (length es)) (given-read s es e begun) args fresh.given;
      delays = λ is. each-operand (IsClean s es) (IsDelayed s (es ++ e ∷ []) (length es)) (clean-delayed s es e fresh.rec) args (fresh.delays is);
      body = λ init first op. absurd (not-rec-op o init first fresh.rec op);
    }

last-free : (es : Equations) (e : EquationShape) → IsFree (es ++ e ∷ []) (length es)
last-free es e = record { free = λ rec d there init first op above below. absurd (let low = slice_get_within (es ++ e ∷ []) rec d there in let n = length-append es (e ∷ []) in omega (arith, low, n, below)) }

last-later : (es : Equations) (e : EquationShape) → is_rec e.op ≡ false → Later es (es ++ e ∷ [])
last-later es e none = record { appends = record { more = e ∷ []; is = refl }; bodies = λ rec d there init first op after. absurd (let low = slice_get_within es rec d (last-is es e d rec init first none there op) in omega (arith, low, after)) }

pub fresh-grown : (s : Setting) (es : Equations) (o : Op) (args : List Given) (width : Option ℕ) → State s es → Fresh s es o args width → Grown s es (with_equation o args width es)
fresh-grown s es o args width state fresh =
    let e : EquationShape = record { op = o; args = map given_operand args; declared = width; kinds = kinds_read o (map given_signed args) } in
    record {
      state = record {
        each = each-with es e (Sound s (es ++ e ∷ [])) (λ i d there. sound-kept s s es (es ++ e ∷ []) (plain-grows s es e fresh.rec) i d (slice_get_within es i d there) (state.each i d there)) (fresh-sound s es o args width state.begun fresh);
        begun = begun-with s es e fresh.rec state.begun;
      };
      later = last-later es e fresh.rec;
      given = ((let n = length-append es (e ∷ []) in omega (arith, n)), last-free es e);
    }

-- ---- delays
-- a delay's constant is 0, or what its operand begins with
abbrev pub Begins : Equations → ℕ → Operand → Type 0
Begins es c q = has_lawful_constant es (Delay c) (q ∷ []) ≡ true

pub begins-zero : (es : Equations) (q : Operand) → Begins es 0 q
begins-zero es q = refl

pub begins-later : (es ds : Equations) (c : ℕ) (q : Operand) → Later es ds → Begins es c q → Begins ds c q
begins-later es ds c q l begins = constant-kept es ds l.appends (Delay c) (q ∷ []) begins

-- the stream of an equation begins with what its operation begins with
begins-with : (es : Equations) (c i : ℕ) (e : EquationShape) → slice_get es i ≡ Some e → begins_with c e.op ≡ true → Begins es c (Eq i)
begins-with es c i e there is = or_right (nat_eq c 0) (does_begin_with es c (Eq i ∷ [])) (ap (λ (o : Option EquationShape). option_map_or (begins_with c) (option_map_or (λ (d : EquationShape). Some d.op) o None) false) there ∙ is)

-- a delay of this constant that stands at this number
record IsFound (es : Equations) (c i : ℕ) : Type 0 where
  equation : EquationShape
  there : slice_get es i ≡ Some equation
  op : equation.op ≡ Delay c

delay-op : (q : Operand) (c : ℕ) (o : Op) (args : List Operand) → is_delay_of q c o args ≡ true → o ≡ Delay c
delay-op q c (Delay d) [] is = cc
delay-op q c (Delay d) (p ∷ []) is = ap Delay (eqb-true d c (and_parts (nat_eq d c) _ is).0)
delay-op q c (Delay d) (p ∷ r ∷ args) is = cc
delay-op q c o args is = cc

found-from : (es : Equations) (k : ℕ) (q : Operand) (c i : ℕ) → delay_from k es q c ≡ Some i → (j : ℕ) × (i ≡ k + j) × IsFound es c j
found-from [] k q c i found = absurd (let none : ◌≡◌ {A = Option ℕ} None (Some i) = found in cc)
found-from (e ∷ es) k q c i found = by_test (is_delay_of q c e.op e.args) refl found (found-from es (k + 1) q c i) where
  by_test : (b : Bool) → is_delay_of q c e.op e.args ≡ b → cond b (Some k) (delay_from (k + 1) es q c) ≡ Some i → (delay_from (k + 1) es q c ≡ Some i → (j : ℕ) × (i ≡ k + 1 + j) × IsFound es c j) → (j : ℕ) × (i ≡ k + j) × IsFound (e ∷ es) c j
  by_test true is found rest = (zero, (let same : k ≡ i = cc in omega (arith, same)), record { equation = e; there = refl; op = delay-op q c e.op e.args is })
  by_test false is found rest =
      let r = rest found in
      (suc r.0, omega (arith, r.1), record { equation = r.2.equation; there = r.2.there; op = r.2.op })

-- a delay and what follows from its being one
delay-clean : (s : Setting) (es : Equations) (i : ℕ) → i < length es → IsDelayAt es i → IsClean s es (Eq i)
delay-clean Outside es i low d = (low, record { free = λ rec e there init first op above below. d })
delay-clean (Inside first number) es i low d = (low, record { free = λ rec e there init first op above below. d }, λ above. d)

-- a delay once, and what it gives
record Delayed (s : Setting) (es : Equations) (c : ℕ) (m : Expanded) : Type 0 where
  state : State s m.equations
  later : Later es m.equations
  clean : IsClean s m.equations m.given.operand
  begins : Begins m.equations c m.given.operand

delayed-new : (s : Setting) (es : Equations) (q : Operand) (c : ℕ) → State s es → IsClean s es q → Begins es c q → Delayed s es c (with_equation (Delay c) (record { operand = q; signed = false } ∷ []) None es)
delayed-new s es q c state clean begins =
    let g : Given = record { operand = q; signed = false } in
    let m = with_equation (Delay c) (g ∷ []) None es in
    let e : EquationShape = record { op = Delay c; args = q ∷ []; declared = None; kinds = false ∷ [] } in
    let grown = fresh-grown s es (Delay c) (g ∷ []) None state (record { rec = refl; count = refl; width = refl; ends = refl; constant = begins; given = (clean-given s es q clean, tt); delays = λ is. (clean, tt) }) in
    let there : slice_get m.equations (length es) ≡ Some e = at-last es e in
    record {
      state = grown.state;
      later = grown.later;
      clean = delay-clean s m.equations (length es) (slice_get_within m.equations (length es) e there) (record { equation = e; there = there; delay = refl });
      begins = begins-with m.equations c (length es) e there (eq-eqb c c refl);
    }

delayed-found : (s : Setting) (es : Equations) (c i : ℕ) → State s es → IsFound es c i → Delayed s es c (made es (Eq i) false)
delayed-found s es c i state found = record {
  state = state;
  later = later-same es;
  clean = delay-clean s es i (slice_get_within es i found.equation found.there) (record { equation = found.equation; there = found.there; delay = ap is_delay found.op });
  begins = begins-with es c i found.equation found.there (ap (begins_with c) found.op ∙ eq-eqb c c refl);
}

delayed-step : (s : Setting) (es : Equations) (q : Operand) (c : ℕ) (o : Option ℕ) → delay_from 0 es q c ≡ o → State s es → IsClean s es q → Begins es c q → Delayed s es c (delay_step o q c es)
delayed-step s es q c None found state clean begins = delayed-new s es q c state clean begins
delayed-step s es q c (Some i) found state clean begins =
    let f = found-from es 0 q c i found in
    let same : f.0 ≡ i = omega (arith, f.1) in
    delayed-found s es c i state (subst (IsFound es c) same f.2)

-- any number of samples earlier
pub delayed-grown : (s : Setting) (k : ℕ) (g : Given) (c : ℕ) (es : Equations) → State s es → IsClean s es g.operand → Begins es c g.operand → Grown s es (delayed k g c es)
delayed-grown s zero g c es state clean begins = record { state = state; later = later-same es; given = clean-given s es g.operand clean }
delayed-grown s (suc k) g c es state clean begins =
    let once = delayed_once g.operand c es in
    let one : Delayed s es c once = delayed-step s es g.operand c (delay_from 0 es g.operand c) refl state clean begins in
    let rest = delayed-grown s k (record { operand = once.given.operand; signed = g.signed }) c once.equations one.state one.clean one.begins in
    record { state = rest.state; later = later-both es once.equations _ one.later rest.later; given = rest.given }

-- ---- the body of a recurrence
-- a body begins after the equations so far, and is to have this number
opens : (es : Equations) (number : ℕ) → Grows Outside es (Inside (length es) number) es
opens es number = record {
  appends = appends-nothing es;
  forth = λ i first rec low stands. elim stands [
    | inl closed ↦ inl closed
    | inr begun ↦ absurd (let differ : Outside ≡ Inside first rec = begun.0 in cc)
  ];
  back = λ i first rec low stands. elim stands [
    | inl closed ↦ inl closed
    | inr begun ↦ absurd (let same : length es ≡ first = (let both : Inside (length es) number ≡ Inside first rec = begun.0 in cc) in let after = begun.1 in omega (arith, same, after, low))
  ];
}

pub opened : (es : Equations) (number : ℕ) → State Outside es → State (Inside (length es) number) es
opened es number state = record {
  each = λ i e there. sound-kept Outside (Inside (length es) number) es es (opens es number) i e (slice_get_within es i e there) (state.each i e there);
  begun = (omega arith, λ i e there after. absurd (let low = slice_get_within es i e there in omega (arith, low, after)));
}

-- what was given before the body may be read in it, and by its delays
pub opened-clean : (es : Equations) (number : ℕ) (q : Operand) → IsGiven Outside es q → IsClean (Inside (length es) number) es q
opened-clean es number (Const c) given = tt
opened-clean es number (Eq j) given = (given.0, given.1, λ after. absurd (let low = given.0 in omega (arith, low, after)))
opened-clean es number (Past rec k) given = absurd given

rec-first : (o : Op) (init first again other : ℕ) → o ≡ Rec init first → o ≡ Rec again other → first ≡ other
rec-first o init first again other is also = let both : Rec init first ≡ Rec again other = sym is ∙ also in cc

-- the recurrence after its body
abbrev rec_equation : ℕ → ℕ → Given → Option ℕ → EquationShape
rec_equation init first b width = record { op = Rec init first; args = b.operand ∷ []; declared = width; kinds = b.signed ∷ [] }

closes : (es : Equations) (init first number : ℕ) (b : Given) (width : Option ℕ) → number ≡ length es → Grows (Inside first number) es Outside (es ++ rec_equation init first b width ∷ [])
closes es init first number b width last =
    let e = rec_equation init first b width in
    let a : Appends es (es ++ e ∷ []) = record { more = e ∷ []; is = refl } in
    record {
      appends = a;
      forth = λ i f rec low stands. elim stands [
        | inl closed ↦ inl (closed.0, closed.1, appends-at es (es ++ e ∷ []) a rec closed.0 closed.2, closed.3, closed.4, closed.5)
        | inr begun ↦
            let both : Inside first number ≡ Inside f rec = begun.0 in
            let same_first : first ≡ f = cc in
            let same_number : number ≡ rec = cc in
            inl (e, init, subst (λ (n : ℕ). slice_get (es ++ e ∷ []) n ≡ Some e) (sym last ∙ same_number) (at-last es e), ap (Rec init) same_first, begun.1, omega (arith, last, same_number, low))
      ];
      back = λ i f rec low stands. elim stands [
        | inl closed ↦ elim (last-or-before es e closed.0 rec closed.2) [
          | inl before ↦ inl (closed.0, closed.1, before, closed.3, closed.4, closed.5)
          | inr end ↦
              let same_first : first ≡ f = rec-first closed.0.op init first closed.1 f (ap (λ (d : EquationShape). d.op) (sym end.1)) closed.3 in
              inr (ap₂ Inside same_first (last ∙ sym end.0), closed.4)
        ]
        | inr begun ↦ absurd (let differ : Outside ≡ Inside f rec = begun.0 in cc)
      ];
    }

body-read : (es : Equations) (init first number : ℕ) (b : Given) (width : Option ℕ) → number ≡ length es → first ≤ length es → (q : Operand) → IsGiven (Inside first number) es q → IsRead Outside (es ++ rec_equation init first b width ∷ []) (length es) q
body-read es init first number b width last low (Const c) given = tt
body-read es init first number b width last low (Eq j) given = given-read Outside es (rec_equation init first b width) tt (Eq j) given
body-read es init first number b width last low (Past rec k) given =
    let e = rec_equation init first b width in
    let same : rec ≡ length es = given.0 ∙ last in
    (given.1, (first, inl (e, init, subst (λ (n : ℕ). slice_get (es ++ e ∷ []) n ≡ Some e) (sym same) (at-last es e), refl, low, omega (arith, same))))

rec-sound : (es : Equations) (init first number : ℕ) (b : Given) (width : Option ℕ) → State (Inside first number) es → number ≡ length es → IsGiven (Inside first number) es b.operand → has_lawful_width (Rec init first) width ≡ true → Sound Outside (es ++ rec_equation init first b width ∷ []) (length es) (rec_equation init first b width)
rec-sound es init first number b width state last given lawful =
    let e = rec_equation init first b width in
    let a : Appends es (es ++ e ∷ []) = record { more = e ∷ []; is = refl } in
    record {
      args = refl;
      kinds = refl;
      numbers = refl;
      width = lawful;
      ends = refl;
      constant = refl;
      operands = (body-read es init first number b width last state.begun.0 b.operand given, tt);
      delays = λ is. absurd (false≢true is);
      body = λ again f op.
          let same : first ≡ f = rec-first (Rec init first) init first again f refl op in
          let low = state.begun.0 in
          record { ordered = omega (arith, same, low); alone = λ k d there above below. state.begun.1 k d (before-at es (es ++ e ∷ []) a k d below there) (omega (arith, same, above)) };
    }

closed-later : (before es : Equations) (init : ℕ) (b : Given) (width : Option ℕ) → Later before es → Later before (es ++ rec_equation init (length before) b width ∷ [])
closed-later before es init b width l =
    let e = rec_equation init (length before) b width in
    record {
      appends = appends-both before es (es ++ e ∷ []) l.appends (record { more = e ∷ []; is = refl });
      bodies = λ rec d there again first op after. elim (last-or-before es e d rec there) [
        | inl old ↦ l.bodies rec d old again first op after
        | inr end ↦ (let same : length before ≡ first = rec-first d.op init (length before) again first (ap (λ (x : EquationShape). x.op) (sym end.1)) op in omega (arith, same))
      ];
    }

-- the recurrence's own equation ends its body
pub closed-grown : (before es : Equations) (init number : ℕ) (b : Given) (width : Option ℕ) → State (Inside (length before) number) es → Later before es → number ≡ length es → IsGiven (Inside (length before) number) es b.operand → has_lawful_width (Rec init (length before)) width ≡ true → Grown Outside before (with_equation (Rec init (length before)) (b ∷ []) width es)
closed-grown before es init number b width state l last given lawful =
    let first = length before in
    let e = rec_equation init first b width in
    let ds = es ++ e ∷ [] in
    record {
      state = record {
        each = each-with es e (Sound Outside ds) (λ i d there. sound-kept (Inside first number) Outside es ds (closes es init first number b width last) i d (slice_get_within es i d there) (state.each i d there)) (rec-sound es init first number b width state last given lawful);
        begun = tt;
      };
      later = closed-later before es init b width l;
      given = ((let n = length-append es (e ∷ []) in omega (arith, n)), last-free es e);
    }

-- and begins with its initial value
pub closed-begins : (es : Equations) (init first : ℕ) (b : Given) (width : Option ℕ) → Begins (with_equation (Rec init first) (b ∷ []) width es).equations init (Eq (length es))
closed-begins es init first b width =
    let e = rec_equation init first b width in
    begins-with (es ++ e ∷ []) init (length es) e (at-last es e) (eq-eqb init init refl)
