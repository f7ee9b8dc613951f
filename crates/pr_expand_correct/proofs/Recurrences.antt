-- A recurrence: with widths for the equations of its body and for its own it is as wide as it is meant to be.
use Rattle.std.proofs.Common.{◌≡◌, ◌∙◌, ◌+◌, ◌<◌, ◌≤◌, ◌^◌, ℕ, zero, suc, Bool, true, false, cond, ◌&&◌, nat_le, nat_lt, is_some, List, [], ◌∷◌, ◌++◌, length, get_or, Option, Some, None, refl, sym, ap, ap₂, subst, arith, inl, inr, bytes_eq}
use Rattle.std.specs.List.{slice_get, All}
use Rattle.std.specs.Option.{option_map_or}
use Rattle.std.proofs.lemmas.Bool.{and_parts, cases_lt, leb-true, le-leb, ltb-true, lt-ltb, true≢false}
use Rattle.std.proofs.lemmas.Option.{same_Some, slice_get_within}
use Rattle.pr_scope_names.specs.declared.streams.Instance.{Instance}
use Rattle.pr_scope_names.specs.Names.{Streaming, same_place}
use Rattle.pr_flat.specs.declared.equations.Operand.{Operand}
use Rattle.pr_flat.specs.declared.equations.Op.{Op}
use Rattle.pr_flat.specs.declared.equations.Op.TheVariants.{Delay, Rec}
use Rattle.pr_flat.specs.declared.forms.Form.{Form}
use Rattle.pr_flat.specs.Forms.{Stream, least_from}
use Rattle.pr_flat.specs.Shape.{EquationShape, EachEquation}
use Rattle.pr_flat.specs.Facts.{is_rec, is_width}
use Rattle.pr_flat.specs.Widths.{operand_width, width_in, is_open, AgreeBelow, Holds, IsLeast}
use Rattle.pr_flat.proofs.FormLemmas.{least_from_is}
use Rattle.pr_flat.proofs.WidthLemmas.{equation_at, one_equation}
use Rattle.pr_lang_meaning.specs.Streams.{Bound, fitted, with_bound}
use Rattle.pr_lang_meaning.specs.Statements.{so_far}
use Rattle.pr_expand_spec.specs.declared.givens.Standing.{Standing}
use Rattle.pr_expand_spec.specs.declared.givens.Standing.TheVariants as standing
use Rattle.pr_expand_spec.specs.Making.{Equations, Expanded}
use Rattle.pr_expand_spec.specs.Expressions as made_by
use Rattle.pr_expand_spec.specs.Statements.{with_standing}
use Rattle.pr_scope_facts.proofs.Appending.{Appends, appends-both, appends-length, appends-at}
use Rattle.pr_expand_correct.proofs.Related.{Have, AreFormed, AreSameOutside, AreKept, IsAhead, IsFound, AreExtended, IsGrown, Agrees, StandsFor, Scenery, Fits, AreStanding}
use Rattle.pr_expand_correct.proofs.Keeping.{at-end, within-front, least-more, have-before, have-front, have-push, have-kept, with_width, width-here, width-elsewhere, within-read, length-push, formed-push, formed-closed}
use Rattle.pr_expand_correct.proofs.Combining.{Keeps, not-open, nothing-assigned}
use Rattle.pr_expand_correct.proofs.Texts.{under, part-some, small-part, fits-kept}

-- a recurrence in work: what stands before it, its number, and its body, which is an operator or not
pub record Work : Type 0 where
  pub es : Equations
  pub standings : made_by.Streams
  pub streaming : Streaming
  pub name : List ℕ
  pub index : Option ℕ
  pub init : ℕ
  pub rec : ℕ
  pub operates : Bool
  pub body : Expanded
  pub meant : Scenery → Option Stream

abbrev pub own_instance : Work → Option Instance
own_instance k = Some (record { name = k.name; index = k.index })

abbrev pub own_standings : Work → made_by.Streams
own_standings k = with_standing k.name k.index (standing.Own k.rec) k.standings

-- what the body sees, where the recurrence is so wide
abbrev pub begun : Work → ℕ → Scenery → Scenery
begun k w x = record { samples = x.samples; env = with_bound k.name k.index (so_far x.samples k.init w []) x.env }

pub record IsWork (k : Work) (width : Option ℕ) : Type 0 where
  pub agrees : Agrees (Some k.rec) (Unit {0}) (Fits k.streaming (own_instance k) (own_standings k)) k.es k.body (λ x. under k.operates width (k.meant x))
  pub number : length k.body.equations ≡ k.rec
  pub formed : AreFormed None k.es
  pub standing : AreStanding (length k.es) None None None k.standings

-- its own equation, and all equations with it
abbrev pub own_equation : Work → Option ℕ → EquationShape
own_equation k width = record { op = Rec k.init (length k.es); args = k.body.given.operand ∷ []; declared = width; kinds = k.body.given.signed ∷ [] }

abbrev pub all_equations : Work → Option ℕ → List EquationShape
all_equations k width = k.body.equations ++ own_equation k width ∷ []

-- ---- what the body sees
pub choice-stands : (widths : List ℕ) (c : Bool) (b : Bound) (o : Option Bound) (s : Standing) (p : Option Standing) → StandsFor widths (Some b) (Some s) → StandsFor widths o p → StandsFor widths (cond c (Some b) o) (cond c (Some s) p)
choice-stands widths true b o s p new old = new
choice-stands widths false b o s p new old = old

choice-some : {A : Type 0} (c : Bool) (b : A) (o : Option A) → is_some o ≡ true → is_some (cond c (Some b) o) ≡ true
choice-some true b o some = refl
choice-some false b o some = some

chosen-some : {A : Type 0} (c : Bool) (b : A) (o : Option A) → c ≡ true → is_some (cond c (Some b) o) ≡ true
chosen-some true b o is = refl
chosen-some false b o is = absurd (true≢false (sym is))

pub begun-fits : (k : Work) (x : Scenery) (widths : List ℕ) (w : ℕ) → Fits k.streaming None k.standings x widths → get_or widths k.rec 0 ≡ w → w ≤ 128 → Fits k.streaming (own_instance k) (own_standings k) (begun k w x) widths
begun-fits k x widths w fits is low = record {
  stands = λ q r. choice-stands widths (bytes_eq k.name q && same_place k.index r) (so_far x.samples k.init w []) (x.env q r) (standing.Own k.rec) (k.standings q r) (record { form = ap (λ v. record { signed = false; width = v }) (sym is); greatest = low }) (fits.stands q r);
  assigned = λ q r there. choice-some (bytes_eq k.name q && same_place k.index r) (so_far x.samples k.init w []) (x.env q r) (fits.assigned q r there);
  own = λ q r own. chosen-some (bytes_eq k.name q && same_place k.index r) (so_far x.samples k.init w []) (x.env q r) own;
}

-- ---- widths
outside-again : (from to : ℕ) (one two three : List ℕ) → AreSameOutside from to one two → AreSameOutside from to two three → AreSameOutside from to one three
outside-again from to one two three first second = record {
  below = λ i low. second.below i low ∙ first.below i low;
  above = λ i high. second.above i high ∙ first.above i high;
}

outside-wider : (from to more : ℕ) (one two : List ℕ) → to ≤ more → AreSameOutside from to one two → AreSameOutside from more one two
outside-wider from to more one two low same = record { below = same.below; above = λ i high. same.above i (omega arith) }

outside-put : (from to i w : ℕ) (widths : List ℕ) → from ≤ i → i < to → AreSameOutside from to widths (with_width widths i w)
outside-put from to i w widths low high = record {
  below = λ j below. width-elsewhere widths i w j (omega arith);
  above = λ j above. width-elsewhere widths i w j (omega arith);
}

kept-alone : (n : ℕ) (widths others : List ℕ) → AgreeBelow n widths others → AreKept n None widths others
kept-alone n widths others below = record { below = below; past = λ rec is. cc }

body-low : (k : Work) (width : Option ℕ) → IsWork k width → length k.es ≤ k.rec
body-low k width is = let low : length k.es ≤ length k.body.equations = appends-length k.es k.body.equations is.agrees.grown.appends in omega (arith, is.number)

work-keeps : (k : Work) (width : Option ℕ) → IsWork k width → Keeps (length k.es) None (Fits k.streaming None k.standings)
work-keeps k width is = fits-kept (length k.es) None None k.streaming None k.standings (inl refl) is.standing

-- widths for the body, where the recurrence is so wide
pub record Reaches (k : Work) (widths : List ℕ) (w : ℕ) : Type 0 where
  pub others : List ℕ
  pub own : get_or others k.rec 0 ≡ w
  pub same : AreSameOutside (length k.es) (suc k.rec) widths others
  pub have : Have k.body.equations others

pub reaches : (k : Work) (width : Option ℕ) → IsWork k width → (x : Scenery) (widths : List ℕ) (w : ℕ) (s : Stream) → Fits k.streaming None k.standings x widths → Have k.es widths → w ≤ 128 → under k.operates width (k.meant (begun k w x)) ≡ Some s → Reaches k widths w
reaches k width is x widths w s fits have low meant =
    let put = with_width widths k.rec w in
    let from = body-low k width is in
    let number = is.number in
    let placed : AreSameOutside (length k.es) (suc k.rec) widths put = outside-put (length k.es) (suc k.rec) k.rec w widths from (omega arith) in
    let kept = kept-alone (length k.es) widths put placed.below in
    let have_put = have-kept k.es None widths put is.formed kept have in
    let fits_put = begun-fits k x put w ((work-keeps k width is).at x widths put kept fits) (width-here widths k.rec w) low in
    let ahead : IsAhead (length k.body.equations) (Some k.rec) = λ r same. let there : k.rec ≡ r = same_Some k.rec r same in omega arith in
    let e = is.agrees.extended (begun k w x) put s fits_put have_put ahead meant in
    record {
      others = e.others;
      own = e.same.above k.rec (omega arith) ∙ width-here widths k.rec w;
      same = outside-again (length k.es) (suc k.rec) widths put e.others placed (outside-wider (length k.es) (length k.body.equations) (suc k.rec) put e.others (omega arith) e.same);
      have = e.have;
    }

-- what the body means where it has widths
pub body-found : (k : Work) (width : Option ℕ) → IsWork k width → (x : Scenery) (widths : List ℕ) (w : ℕ) → Fits k.streaming None k.standings x widths → Have k.body.equations widths → get_or widths k.rec 0 ≡ w → w ≤ 128 → IsFound widths k.body.given (under k.operates width (k.meant (begun k w x)))
body-found k width is x widths w fits have own low = is.agrees.found (begun k w x) widths (begun-fits k x widths w fits own low) have

-- ---- its own equation
own-formed : (k : Work) (width : Option ℕ) → IsWork k width → AreFormed None (all_equations k width)
own-formed k width is =
    let low : length k.es ≤ length k.body.equations = appends-length k.es k.body.equations is.agrees.grown.appends in
    formed-closed k.rec (all_equations k width) (omega (arith, is.number, length-push k.body.equations (own_equation k width))) (formed-push (Some k.rec) k.body.equations (own_equation k width) is.agrees.grown.formed (within-read (length k.body.equations) (Some k.rec) k.body.given.operand is.agrees.within, tt) (λ c same. absurd (no_delay c same)) (λ init first same. ordered init first same low)) where
      no_delay : (c : ℕ) → Rec k.init (length k.es) ≡ Delay c → ⊥
      no_delay c same = let P : Op → Type 0 = λ o. is_rec o ≡ true in let none : is_rec (Delay c) ≡ true = subst P same refl in cc

      first_of : Op → ℕ
      first_of (Rec init first) = first
      first_of o = 0

      ordered : (init first : ℕ) → Rec k.init (length k.es) ≡ Rec init first → length k.es ≤ length k.body.equations → first ≤ length k.body.equations
      ordered init first same low = let there : length k.es ≡ first = ap first_of same in omega arith

pub own-grown : (k : Work) (width : Option ℕ) (calm : Type 0) → IsWork k width → (calm → ⊥) → IsGrown None calm k.es (all_equations k width)
own-grown k width calm is never = record {
  appends = appends-both k.es k.body.equations (all_equations k width) is.agrees.grown.appends (record { more = own_equation k width ∷ []; is = refl });
  formed = own-formed k width is;
  calm_kept = λ c. absurd (never c);
}

own-at : (k : Work) (width : Option ℕ) → slice_get (all_equations k width) (length k.body.equations) ≡ Some (own_equation k width)
own-at k width = at-end k.body.equations (own_equation k width)

-- ---- under a declared width
pub declared-width : (k : Work) (w : ℕ) (widths : List ℕ) → Have (all_equations k (Some w)) widths → get_or widths (length k.body.equations) 0 ≡ w
declared-width k w widths have = sym (same_Some w (get_or widths (length k.body.equations) 0) (have.each (length k.body.equations) (own_equation k (Some w)) (own-at k (Some w)) refl))

some-under : (b : Bool) (w : ℕ) (o : Option Stream) (s : Stream) → under b (Some w) o ≡ Some s → is_some o ≡ true
some-under true w None s is = absurd (nothing-assigned (Some w) s is)
some-under false w None s is = cc
some-under b w (Some r) s is = refl

under-some : (b : Bool) (w : ℕ) (o : Option Stream) → is_width w ≡ true → is_some o ≡ true → (s : Stream) × (under b (Some w) o ≡ Some s)
under-some b w None lawful some = cc
under-some true w (Some r) lawful some = (_, ap (λ c. cond c (Some (fitted w r)) None) lawful)
under-some false w (Some r) lawful some = (r, refl)

pub declared-found : (k : Work) (w : ℕ) → IsWork k (Some w) → w ≤ 128 → (x : Scenery) (widths : List ℕ) → Fits k.streaming None k.standings x widths → Have (all_equations k (Some w)) widths → is_some (k.meant (begun k w x)) ≡ true
declared-found k w is low x widths fits have =
    let own : get_or widths k.rec 0 ≡ w = ap (λ i. get_or widths i 0) (sym is.number) ∙ declared-width k w widths have in
    let here = body-found k (Some w) is x widths w fits (have-front k.body.equations (own_equation k (Some w) ∷ []) widths have) own low in
    some-under k.operates w (k.meant (begun k w x)) here.stream here.is

pub declared-extended : (k : Work) (w : ℕ) → IsWork k (Some w) → is_width w ≡ true → w ≤ 128 → (x : Scenery) (widths : List ℕ) → Fits k.streaming None k.standings x widths → Have k.es widths → is_some (k.meant (begun k w x)) ≡ true → AreExtended k.es (all_equations k (Some w)) widths
declared-extended k w is lawful low x widths fits have some =
    let made = under-some k.operates w (k.meant (begun k w x)) lawful some in
    let r = reaches k (Some w) is x widths w made.0 fits have low made.1 in
    let own : get_or r.others (length k.body.equations) 0 ≡ w = ap (λ i. get_or r.others i 0) is.number ∙ r.own in
    record {
      others = r.others;
      same = subst (λ n. AreSameOutside (length k.es) n widths r.others) (sym (length-push k.body.equations (own_equation k (Some w)) ∙ ap suc is.number)) r.same;
      have = have-push k.body.equations (own_equation k (Some w)) r.others r.have (λ closed. ap Some (sym own)) (λ init first open_. cc);
    }

-- ---- without a declared width
-- so many bits hold the initial value, and what the body makes
abbrev pub does_hold : Work → Scenery → ℕ → Bool
does_hold k x w = nat_lt k.init (2 ^ w) && option_map_or (λ (s : Stream). nat_le s.form.width w) (k.meant (begun k w x)) false

some-open : (b : Bool) (o : Option Stream) (s : Stream) → under b None o ≡ Some s → o ≡ Some s
some-open true o s is = part-some o s is
some-open false o s is = is

open-some : (b : Bool) (o : Option Stream) (s : Stream) → o ≡ Some s → s.form.width ≤ 128 → under b None o ≡ Some s
open-some true o s is low = small-part o s is low
open-some false o s is low = is

-- equations without a recurrence have widths where each has its own
have-body : (es more : List EquationShape) (widths : List ℕ) → Appends es more → Have es widths → EachEquation more (λ i e. length es ≤ i → is_rec e.op ≡ false) → EachEquation more (λ i e. length es ≤ i → width_in widths e ≡ Some (get_or widths i 0)) → Have more widths
have-body es more widths appends have no_rec each = record {
  each = λ i e there closed. elim (cases_lt i (length es)) [
    | inl early ↦
        let at = equation_at es i early in
        let same : at.0 ≡ e = one_equation more i at.0 e (appends-at es more appends i at.0 at.1) there in
        subst (λ (d : EquationShape). width_in widths d ≡ Some (get_or widths i 0)) same (have.each i at.0 at.1 (subst (λ (d : EquationShape). is_open d ≡ false) (sym same) closed))
    | inr late ↦ each i e there late
  ];
  recurrences = λ i e there init first open_ op. elim (cases_lt i (length es)) [
    | inl early ↦
        let at = equation_at es i early in
        let same : at.0 ≡ e = one_equation more i at.0 e (appends-at es more appends i at.0 at.1) there in
        let old = have.recurrences i at.0 at.1 init first (subst (λ (d : EquationShape). is_open d ≡ true) (sym same) open_) (subst (λ (d : EquationShape). d.op ≡ Rec init first) (sym same) op) in
        subst (λ ms. IsLeast ms i init first widths) (sym appends.is) (least-more es appends.more i init first widths early old)
    | inr late ↦ (let none = no_rec i e there late in let P : Op → Type 0 = λ o. is_rec o ≡ false in let rec_none : is_rec (Rec init first) ≡ false = subst P op none in cc)
  ];
}

holds-body : (k : Work) → IsWork k None → (x : Scenery) (widths : List ℕ) → Fits k.streaming None k.standings x widths → Have k.es widths → Holds (all_equations k None) (length k.body.equations) k.init (length k.es) widths → does_hold k x (get_or widths (length k.body.equations) 0) ≡ true
holds-body k is x widths fits have holds =
    let n = length k.body.equations in
    let w = get_or widths n 0 in
    let own = own_equation k None in
    let appends = is.agrees.grown.appends in
    let body = have-body k.es k.body.equations widths appends have (is.agrees.grown.calm_kept tt) (λ i e there low. holds.body i e (appends-at k.body.equations (all_equations k None) (record { more = own ∷ []; is = refl }) i e there) low (slice_get_within k.body.equations i e there)) in
    let low : w ≤ 128 = holds.greatest in
    let here = body-found k None is x widths w fits body (ap (λ i. get_or widths i 0) (sym is.number)) low in
    let s = here.stream in
    let width : s.form.width ≡ operand_width widths k.body.given.operand = ap (λ (f : Form). f.width) here.matches.form in
    let operand : operand_width widths k.body.given.operand ≤ w = holds.operand own (own-at k None) 0 k.body.given.operand (omega arith) in
    let fits_in : nat_le s.form.width w ≡ true = le-leb s.form.width w (omega (arith, width, operand)) in
    let meant : option_map_or (λ (s : Stream). nat_le s.form.width w) (k.meant (begun k w x)) false ≡ true = ap (λ o. option_map_or (λ (s : Stream). nat_le s.form.width w) o false) (some-open k.operates (k.meant (begun k w x)) s here.is) ∙ fits_in in
    ap₂ (λ a b. a && b) (lt-ltb k.init (2 ^ w) holds.initial) meant

-- where so many bits hold all, the recurrence has widths with which they do
record BodyHolds (k : Work) (widths : List ℕ) (w : ℕ) : Type 0 where
  reach : Reaches k widths w
  own : get_or reach.others (length k.body.equations) 0 ≡ w
  holds : Holds (all_equations k None) (length k.body.equations) k.init (length k.es) reach.others

record IsSmall (o : Option Stream) (w : ℕ) : Type 0 where
  stream : Stream
  is : o ≡ Some stream
  low : stream.form.width ≤ w

small-stream : (o : Option Stream) (w : ℕ) → option_map_or (λ (s : Stream). nat_le s.form.width w) o false ≡ true → IsSmall o w
small-stream None w is = cc
small-stream (Some s) w is = record { stream = s; is = refl; low = leb-true s.form.width w is }

all-one : (P : Operand → Type 0) (a : Operand) → P a → All P (a ∷ [])
all-one P a is zero d low = is
all-one P a is (suc j) d low = absurd (omega arith)

body-holds : (k : Work) → IsWork k None → (x : Scenery) (widths : List ℕ) (w : ℕ) → Fits k.streaming None k.standings x widths → Have k.es widths → 1 ≤ w → w ≤ 128 → does_hold k x w ≡ true → BodyHolds k widths w
body-holds k is x widths w fits have least low holds =
    let n = length k.body.equations in
    let parts = and_parts (nat_lt k.init (2 ^ w)) (option_map_or (λ (s : Stream). nat_le s.form.width w) (k.meant (begun k w x)) false) holds in
    let small = small-stream (k.meant (begun k w x)) w parts.1 in
    let small_low : small.stream.form.width ≤ w = small.low in
    let r = reaches k None is x widths w small.stream fits have low (open-some k.operates (k.meant (begun k w x)) small.stream small.is (omega arith)) in
    let own : get_or r.others n 0 ≡ w = ap (λ i. get_or r.others i 0) is.number ∙ r.own in
    let fits_after = (work-keeps k None is).at x widths r.others (kept-alone (length k.es) widths r.others r.same.below) fits in
    let here = body-found k None is x r.others w fits_after r.have r.own low in
    let same : here.stream ≡ small.stream = same_Some here.stream small.stream (sym (some-open k.operates (k.meant (begun k w x)) here.stream here.is) ∙ small.is) in
    let width : operand_width r.others k.body.given.operand ≡ small.stream.form.width = sym (ap (λ (f : Form). f.width) here.matches.form) ∙ ap (λ (s : Stream). s.form.width) same in
    record {
      reach = r;
      own = own;
      holds = record {
        least = subst (λ v. 1 ≤ v) (sym own) least;
        greatest = subst (λ v. v ≤ 128) (sym own) low;
        initial = subst (λ v. k.init < 2 ^ v) (sym own) (ltb-true k.init (2 ^ w) parts.0);
        body = λ i e there from to. (let at = within-front k.body.equations (own_equation k None ∷ []) i e to there in r.have.each i e at (not-open e (is.agrees.grown.calm_kept tt i e at from)));
        operand = λ e there. subst (λ (d : EquationShape). All (λ a. operand_width r.others a ≤ get_or r.others n 0) d.args) (one_equation (all_equations k None) n (own_equation k None) e (own-at k None) there) (all-one (λ a. operand_width r.others a ≤ get_or r.others n 0) k.body.given.operand (omega (arith, width, own, small_low)));
      };
    }

pub open-found : (k : Work) → IsWork k None → (x : Scenery) (widths : List ℕ) → Fits k.streaming None k.standings x widths → Have (all_equations k None) widths → least_from 128 1 (does_hold k x) ≡ Some (get_or widths (length k.body.equations) 0)
open-found k is x widths fits have =
    let n = length k.body.equations in
    let w = get_or widths n 0 in
    let least = have.recurrences n (own_equation k None) (own-at k None) k.init (length k.es) refl refl in
    let have_es = have-before k.es (all_equations k None) widths (appends-both k.es k.body.equations (all_equations k None) is.agrees.grown.appends (record { more = own_equation k None ∷ []; is = refl })) have in
    let low : w ≤ 128 = least.holds.greatest in
    least_from_is 128 1 (does_hold k x) w least.holds.least (omega arith) (holds-body k is x widths fits have_es least.holds) (λ v from to. none_before v from to have_es least (does_hold k x v) refl) where
      none_before : (v : ℕ) → 1 ≤ v → v < get_or widths (length k.body.equations) 0 → Have k.es widths → IsLeast (all_equations k None) (length k.body.equations) k.init (length k.es) widths → (c : Bool) → does_hold k x v ≡ c → does_hold k x v ≡ false
      none_before v from to have_es least false is_false = is_false
      none_before v from to have_es least true is_true =
          let low : get_or widths (length k.body.equations) 0 ≤ 128 = least.holds.greatest in
          let b = body-holds k is x widths v fits have_es from (omega arith) is_true in
          let more : get_or widths (length k.body.equations) 0 ≤ get_or b.reach.others (length k.body.equations) 0 = least.none_less b.reach.others b.reach.same.below b.holds in
          absurd (omega (arith, b.own, more))

pub open-greatest : (k : Work) (widths : List ℕ) → Have (all_equations k None) widths → get_or widths (length k.body.equations) 0 ≤ 128
open-greatest k widths have = (have.recurrences (length k.body.equations) (own_equation k None) (own-at k None) k.init (length k.es) refl refl).holds.greatest

-- what the least number is that passes
record IsLeastPassing (count at : ℕ) (test : ℕ → Bool) (w : ℕ) : Type 0 where
  low : at ≤ w
  high : w < at + count
  passes : test w ≡ true
  none : (v : ℕ) → at ≤ v → v < w → test v ≡ false

least_from-gives : (count at : ℕ) (test : ℕ → Bool) (w : ℕ) → least_from count at test ≡ Some w → IsLeastPassing count at test w
least_from-gives zero at test w is = cc
least_from-gives (suc count) at test w is = by_test (test at) refl is (least_from-gives count (at + 1) test w) where
  by_test : (c : Bool) → test at ≡ c → cond c (Some at) (least_from count (at + 1) test) ≡ Some w → (least_from count (at + 1) test ≡ Some w → IsLeastPassing count (at + 1) test w) → IsLeastPassing (suc count) at test w
  by_test true passes same rest =
      let here : at ≡ w = same_Some at w same in
      record { low = omega arith; high = omega arith; passes = subst (λ v. test v ≡ true) here passes; none = λ v from to. absurd (omega arith) }
  by_test false fails later rest =
      let after = rest later in
      let low : at + 1 ≤ w = after.low in
      let high : w < at + 1 + count = after.high in
      record {
        low = omega arith;
        high = omega arith;
        passes = after.passes;
        none = λ v from to. elim (cases_lt at v) [
          | inl before ↦ after.none v (omega arith) to
          | inr here ↦ (let same : at ≡ v = omega arith in subst (λ u. test u ≡ false) same fails)
        ];
      }

pub open-extended : (k : Work) → IsWork k None → (x : Scenery) (widths : List ℕ) (w : ℕ) → Fits k.streaming None k.standings x widths → Have k.es widths → least_from 128 1 (does_hold k x) ≡ Some w → AreExtended k.es (all_equations k None) widths
open-extended k is x widths w fits have meant = extended (least_from-gives 128 1 (does_hold k x) w meant) where
  extended : IsLeastPassing 128 1 (does_hold k x) w → AreExtended k.es (all_equations k None) widths
  extended g = with_holds (body-holds k is x widths w fits have g.low (let high : w < 1 + 128 = g.high in omega arith) g.passes) where
    with_holds : BodyHolds k widths w → AreExtended k.es (all_equations k None) widths
    with_holds b =
        let n = length k.body.equations in
        let r = b.reach in
        let none_less : (others : List ℕ) → AgreeBelow (length k.es) r.others others → Holds (all_equations k None) n k.init (length k.es) others → get_or r.others n 0 ≤ get_or others n 0 = λ others agree holds.
        (let below : AgreeBelow (length k.es) widths others = λ i low. agree i low ∙ r.same.below i low in
        let kept = kept-alone (length k.es) widths others below in
        let passes = holds-body k is x others ((work-keeps k None is).at x widths others kept fits) (have-kept k.es None widths others is.formed kept have) holds in
        elim (cases_lt (get_or others n 0) w) as (λ _. get_or r.others n 0 ≤ get_or others n 0) [
          | inl less ↦ absurd (true≢false (sym passes ∙ g.none (get_or others n 0) holds.least less))
          | inr more ↦ omega (arith, b.own, more)
        ]) in
        let least : IsLeast (all_equations k None) n k.init (length k.es) r.others = record { holds = b.holds; none_less = none_less } in
        record {
          others = r.others;
          same = subst (λ q. AreSameOutside (length k.es) q widths r.others) (sym (length-push k.body.equations (own_equation k None) ∙ ap suc is.number)) r.same;
          have = have-push k.body.equations (own_equation k None) r.others r.have (λ closed. cc) (λ init first open_ op. same_least init first op least);
        } where
          same_least : (init first : ℕ) → Rec k.init (length k.es) ≡ Rec init first → IsLeast (all_equations k None) (length k.body.equations) k.init (length k.es) b.reach.others → IsLeast (all_equations k None) (length k.body.equations) init first b.reach.others
          same_least init first op least =
              let inits : k.init ≡ init = cc in
              let firsts : length k.es ≡ first = cc in
              subst (λ q. IsLeast (all_equations k None) (length k.body.equations) q first b.reach.others) inits (subst (λ q. IsLeast (all_equations k None) (length k.body.equations) k.init q b.reach.others) firsts least)
