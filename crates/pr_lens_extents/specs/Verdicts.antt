-- Comparisons that kinds and widths settle, declared widths that cut bits off, and calls that read a constant as negative.
use Rattle.std.specs.Prelude.{ℕ, Bool, true, false, not, ◌&&◌, ◌||◌, nat_le, nat_lt, Option, Some, None, is_some, List, ◌∷◌, if◌then◌else◌}
use Rattle.pr_lang.specs.declared.trees.BinOp.{BinOp}
use Rattle.pr_lang.specs.declared.trees.BinOp.TheVariants.{Add, Sub, Mul, Equal, NotEqual, Less, LessEqual, Greater, GreaterEqual}
use Rattle.pr_flat.specs.declared.forms.Form.{Form}
use Rattle.pr_flat.specs.Facts.{is_width}
use Rattle.pr_lens_reach.specs.declared.extents.Extent.{Extent}
use Rattle.pr_lens_reach.specs.declared.reaches.Reach.{Reach}
use Rattle.pr_lens_extents.specs.declared.verdicts.Verdict.{Verdict}
use Rattle.pr_lens_extents.specs.declared.verdicts.Verdict.TheVariants.{Unseen, Always, Varies, Cut, Negative}
use Rattle.pr_lens_reach.specs.Extents.{signed_extent}
use Rattle.pr_lens_reach.specs.Reaches.{fits_at, greatest_of}

-- the least value, which can be below 0 where it is signed
abbrev pub least_by : Option ℕ → Bool → Option ℕ
least_by (Some n) signed = Some n
least_by None signed = if signed then None else Some 0

abbrev pub least : Extent → Option ℕ
least e = least_by e.number e.form.signed

-- the greatest value
abbrev pub most_by : Option ℕ → Bool → ℕ → ℕ
most_by (Some n) signed w = n
most_by None signed w = greatest_of signed w

abbrev pub most : Extent → ℕ
most e = most_by e.number e.form.signed e.form.width

abbrev pub is_over : Option ℕ → ℕ → Bool
is_over None n = false
is_over (Some m) n = nat_lt n m

abbrev pub is_from : Option ℕ → ℕ → Bool
is_from None n = false
is_from (Some m) n = nat_le n m

-- every value of one is below every value of the other, or is not above any
abbrev pub is_below : Extent → Extent → Bool
is_below e f = is_over (least f) (most e)

abbrev pub is_up_to : Extent → Extent → Bool
is_up_to e f = is_from (least f) (most e)

abbrev pub decided : Bool → Bool → Option Bool
decided always never = if always then Some true else (if never then Some false else None)

-- what a comparison gives for all values
abbrev pub answer : BinOp → Extent → Extent → Option Bool
answer Less e f = decided (is_below e f) (is_up_to f e)
answer LessEqual e f = decided (is_up_to e f) (is_below f e)
answer Greater e f = decided (is_below f e) (is_up_to e f)
answer GreaterEqual e f = decided (is_up_to f e) (is_below e f)
answer Equal e f = decided false (is_below e f || is_below f e)
answer NotEqual e f = decided (is_below e f || is_below f e) false
answer o e f = None

abbrev pub verdict_by : Option Bool → Extent → Extent → Verdict
verdict_by None e f = Varies
verdict_by (Some b) e f = Always b e f

-- a comparison of two constants is meant as it is
abbrev pub verdict_of : BinOp → Extent → Extent → Verdict
verdict_of o e f = if is_some e.number && is_some f.number then Varies else verdict_by (answer o e f) e f

-- operands have at most 128 bits
abbrev pub verdict_on : BinOp → Option Extent → Option Extent → Verdict
verdict_on o (Some e) (Some f) = if nat_le e.form.width 128 && nat_le f.form.width 128 then verdict_of o e f else Varies
verdict_on o _ _ = Varies

-- ---- declared widths
-- an operator whose own width has room for every bit: a difference has it among signed numbers alone
abbrev pub makes_room : Option BinOp → Bool → Bool
makes_room (Some Add) signed = true
makes_room (Some Mul) signed = true
makes_room (Some Sub) signed = signed
makes_room _ signed = false

abbrev pub cut_to : Form → Option Reach → Verdict
cut_to f r = if fits_at f.signed f.width r then Unseen else Cut f r

abbrev pub cut_by : Option BinOp → ℕ → Extent → Verdict
cut_by o w e =
    if is_width w && makes_room o e.form.signed then cut_to (record { signed = e.form.signed; width = w }) e.reach else Unseen

-- what a declared width makes of an expression with this operator outside of all others
abbrev pub cut_of : Option BinOp → ℕ → Option Extent → Verdict
cut_of o w None = Unseen
cut_of o w (Some e) = cut_by o w e

-- ---- arguments that are read by `signed`
abbrev pub negative_by : ℕ → Option ℕ → ℕ → Option Reach → Verdict
negative_by at (Some n) w (Some r) = if nat_lt 0 r.least.below then Negative at n w r.least.below else Unseen
negative_by at _ w _ = Unseen

-- a constant at this place whose highest bit is 1
abbrev pub negative_of : ℕ → Option Extent → Verdict
negative_of at None = Unseen
negative_of at (Some e) = negative_by at e.number e.form.width (signed_extent e).reach

abbrev pub first_said : Verdict → Verdict → Verdict
first_said Unseen other = other
first_said one other = one

-- ---- in several turns of a loop
abbrev pub agree : Bool → Bool → Bool
agree a b = if a then b else not b

abbrev pub joined_with : Verdict → Bool → Verdict → Verdict
joined_with one a Unseen = one
joined_with one a Varies = Varies
joined_with one a (Always b g h) = if agree a b then one else Varies
joined_with one a (Cut f r) = one
joined_with one a (Negative at n w below) = one

abbrev pub joined : Verdict → Verdict → Verdict
joined Unseen other = other
joined Varies other = Varies
joined (Always a e f) other = joined_with (Always a e f) a other
joined (Cut f r) other = Cut f r
joined (Negative at n w below) other = Negative at n w below

abbrev pub all_joined : List Verdict → List Verdict → List Verdict
all_joined (v ∷ vs) (w ∷ ws) = joined v w ∷ all_joined vs ws
all_joined vs ws = vs
