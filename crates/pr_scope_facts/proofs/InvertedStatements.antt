-- What the walk over a statement says, where it meets no offence: a record for each form.
use Rattle.std.proofs.Common.{◌≡◌, ◌∙◌, ◌<◌, ◌≤◌, ℕ, zero, suc, ◌+◌, ◌-◌, ◌^◌, Bool, true, false, not, ◌&&◌, nat_le, List, [], ◌∷◌, map, Option, Some, None, is_none, Result, Ok, refl, sym, ap, subst}
use Rattle.std.proofs.lemmas.Bool.{and_parts, cond-true, leb-true, ltb-true, not-true, false≢true}
use Rattle.std.proofs.lemmas.Option.{none-some, same_Some}
use Rattle.pr_lang.specs.declared.trees.Fixed.{Fixed}
use Rattle.pr_lang.specs.declared.trees.Ref.{Ref}
use Rattle.pr_lang.specs.declared.trees.Expr.{Expr}
use Rattle.pr_lang.specs.declared.trees.Stmt.{Stmt}
use Rattle.pr_scope_names.specs.declared.rules.Offence.{Offence}
use Rattle.pr_scope_names.specs.declared.rules.Rule.TheVariants.{Bounds, Introduced, Recurrences}
use Rattle.pr_scope_names.specs.declared.names.Static.{Static}
use Rattle.pr_scope.specs.declared.expressions.Scene.{Scene}
use Rattle.pr_scope_names.specs.declared.counts.Count.{Count}
use Rattle.pr_scope_names.specs.declared.names.Static.TheVariants.{Index}
use Rattle.pr_scope.specs.declared.statements.Ready.{Ready}
use Rattle.pr_scope.specs.declared.statements.Span.{Span}
use Rattle.pr_scope_names.specs.Outcomes.{and_then, provided, counted}
use Rattle.pr_scope_names.specs.Names.{Known, Streaming, held, assign, bind, is_free, with_place}
use Rattle.pr_scope_names.specs.Constants.{constant_of, place_of}
use Rattle.pr_flat.specs.Facts as flat
use Rattle.pr_expand_spec.specs.Making.{lawful}
use Rattle.pr_scope.specs.Expressions.{walk_of}
use Rattle.pr_scope.specs.Statements.{Progress, is_width, fits, let_ready, rec_begun, rec_body, rec_ready, for_ready, completed, changes, turn, turns, change_of}
use Rattle.pr_scope_facts.proofs.Outcomes.{provided_ok, same_ok, then_ok}

-- ---- declared widths
pub width-lawful : (width : Option ℕ) → is_width width ≡ true → lawful width ≡ width
width-lawful None is = refl
width-lawful (Some w) is = cond-true (flat.is_width w) (Some w) None is

pub width-flat : (w : ℕ) → is_width (Some w) ≡ true → flat.is_width w ≡ true
width-flat w is = is

pub width-least : (w : ℕ) → is_width (Some w) ≡ true → 1 ≤ w
width-least w is = leb-true 1 w (and_parts (nat_le 1 w) (nat_le w 128) is).0

pub width-greatest : (w : ℕ) → is_width (Some w) ≡ true → w ≤ 128
width-greatest w is = leb-true w 128 (and_parts (nat_le 1 w) (nat_le w 128) is).1

-- ---- targets
-- a stream instance is introduced
pub record Introduces (name : List ℕ) (index : Option ℕ) (known : Known) (streams after : Streaming) : Type 0 where
  pub unknown : known name ≡ None
  pub fresh : held (streams name) index ≡ false
  pub now : after ≡ with_place name index streams

no-static : (o : Option Static) → is_none o ≡ true → o ≡ None
no-static None h = refl
no-static (Some s) h = absurd (false≢true h)

pub assign-inverted : (name : List ℕ) (index : Option ℕ) (known : Known) (streams after : Streaming) → assign name index known streams ≡ Ok after → Introduces name index known streams after
assign-inverted name index known streams after is =
    let kept = provided_ok (is_none (known name) && not (held (streams name) index)) Introduced (Ok (with_place name index streams)) after is in
    let parts = and_parts (is_none (known name)) (not (held (streams name) index)) kept.0 in
    record {
      unknown = no-static (known name) parts.0;
      fresh = not-true (held (streams name) index) parts.1;
      now = sym (same_ok (with_place name index streams) after kept.1);
    }

pub completed-inverted : (name : List ℕ) (known : Known) (streams : Streaming) (ready : Ready) (t : Progress) → completed name known streams ready ≡ Ok t → Introduces name ready.place known streams t.streams × (ready.count ≡ t.count)
completed-inverted name known streams ready t is =
    let introduced = then_ok (assign name ready.place known streams) (λ now. Ok (record { streams = now; count = ready.count })) t is in
    let made : ◌≡◌ {A = Progress} (record { streams = introduced.0; count = ready.count }) t = same_ok _ _ introduced.2 in
    (subst (λ (p : Progress). Introduces name ready.place known streams p.streams) made (assign-inverted name ready.place known streams introduced.0 introduced.1), ap (λ (p : Progress). p.count) made)

-- ---- assignments
pub record LetWalk (target : Ref) (width : Option ℕ) (value : Expr) (known : Known) (inside : Bool) (s t : Progress) : Type 0 where
  pub index : Option ℕ
  pub placed : place_of target known ≡ Ok index
  pub lawful_width : is_width width ≡ true
  pub begin : Count
  pub walk : walk_of value known s.streams (record { own = None; inside = inside }) begin ≡ Ok t.count
  pub introduces : Introduces target.name index known s.streams t.streams

pub let-inverted : (target : Ref) (width : Option ℕ) (value : Expr) (known : Known) (inside : Bool) (s t : Progress) → and_then (let_ready target width value known s.streams inside s.count) (completed target.name known s.streams) ≡ Ok t → LetWalk target width value known inside s t
let-inverted target width value known inside s t is =
    let ready = then_ok (let_ready target width value known s.streams inside s.count) (completed target.name known s.streams) t is in
    let scene : Scene = record { own = None; inside = inside } in
    let finish : Option ℕ → Count → Result Ready Offence = λ place d. Ok (record { place = place; count = d }) in
    let counting = then_ok (counted 0 s.count) (λ c. and_then (place_of target known) (λ place. provided (is_width width) Bounds (and_then (walk_of value known s.streams scene c) (finish place)))) ready.0 ready.1 in
    let at = then_ok (place_of target known) (λ place. provided (is_width width) Bounds (and_then (walk_of value known s.streams scene counting.0) (finish place))) ready.0 counting.2 in
    let kept = provided_ok (is_width width) Bounds (and_then (walk_of value known s.streams scene counting.0) (finish at.0)) ready.0 at.2 in
    let walked = then_ok (walk_of value known s.streams scene counting.0) (finish at.0) ready.0 kept.1 in
    let made : ◌≡◌ {A = Ready} (record { place = at.0; count = walked.0 }) ready.0 = same_ok _ _ walked.2 in
    let done = completed-inverted target.name known s.streams ready.0 t ready.2 in
    record {
      index = at.0;
      placed = at.1;
      lawful_width = kept.0;
      begin = counting.0;
      walk = walked.1 ∙ ap Ok (ap (λ (r : Ready). r.count) made ∙ done.1);
      introduces = subst (λ i. Introduces target.name i known s.streams t.streams) (sym (ap (λ (r : Ready). r.place) made)) done.0;
    }

pub record RecWalk (target : Ref) (width : Option ℕ) (init : Fixed) (body : Expr) (known : Known) (inside : Bool) (s t : Progress) : Type 0 where
  pub index : Option ℕ
  pub placed : place_of target known ≡ Ok index
  pub lawful_width : is_width width ≡ true
  pub initial : ℕ
  pub initial_is : constant_of init known ≡ Ok initial
  pub fits : (w : ℕ) → width ≡ Some w → initial < 2 ^ w
  pub begin : Count
  pub walk : walk_of body known s.streams (record { own = Some (record { name = target.name; index = index }); inside = inside }) begin ≡ Ok t.count
  pub introduces : Introduces target.name index known s.streams t.streams

fits-inverted : (width : Option ℕ) (n w : ℕ) → fits width n ≡ true → width ≡ Some w → n < 2 ^ w
fits-inverted None n w h is = absurd (none-some w is)
fits-inverted (Some v) n w h is = let same : v ≡ w = same_Some v w is in subst (λ x. n < 2 ^ x) same (ltb-true n (2 ^ v) h)

record RecBegun (target : Ref) (width : Option ℕ) (init : Fixed) (known : Known) (ready : Ready) : Type 0 where
  placed : place_of target known ≡ Ok ready.place
  lawful_width : is_width width ≡ true
  initial : ℕ
  initial_is : constant_of init known ≡ Ok initial
  fits : fits width initial ≡ true

begun-inverted : (target : Ref) (width : Option ℕ) (init : Fixed) (known : Known) (count : Count) (ready : Ready) → rec_begun target width init known count ≡ Ok ready → RecBegun target width init known ready
begun-inverted target width init known count ready is =
    let initially : Count → Option ℕ → Result Ready Offence = λ c place. and_then (constant_of init known) (λ n. provided (fits width n) Recurrences (Ok (record { place = place; count = c }))) in
    let counting = then_ok (counted 0 count) (λ c. and_then (place_of target known) (λ place. provided (is_width width) Bounds (initially c place))) ready is in
    let at = then_ok (place_of target known) (λ place. provided (is_width width) Bounds (initially counting.0 place)) ready counting.2 in
    let kept = provided_ok (is_width width) Bounds (initially counting.0 at.0) ready at.2 in
    let first = then_ok (constant_of init known) (λ n. provided (fits width n) Recurrences (Ok (record { place = at.0; count = counting.0 }))) ready kept.1 in
    let held = provided_ok (fits width first.0) Recurrences (Ok (record { place = at.0; count = counting.0 })) ready first.2 in
    let made : ◌≡◌ {A = Ready} (record { place = at.0; count = counting.0 }) ready = same_ok _ _ held.1 in
    record {
      placed = at.1 ∙ ap (λ (r : Ready). Ok r.place) made;
      lawful_width = kept.0;
      initial = first.0;
      initial_is = first.1;
      fits = held.0;
    }

pub rec-inverted : (target : Ref) (width : Option ℕ) (init : Fixed) (body : Expr) (known : Known) (inside : Bool) (s t : Progress) → and_then (rec_ready target width init body known s.streams inside s.count) (completed target.name known s.streams) ≡ Ok t → RecWalk target width init body known inside s t
rec-inverted target width init body known inside s t is =
    let ready = then_ok (rec_ready target width init body known s.streams inside s.count) (completed target.name known s.streams) t is in
    let begun = then_ok (rec_begun target width init known s.count) (rec_body target.name body known s.streams inside) ready.0 ready.1 in
    let first = begun-inverted target width init known s.count begun.0 begun.1 in
    let walked = then_ok (walk_of body known s.streams (record { own = Some (record { name = target.name; index = begun.0.place }); inside = inside }) begun.0.count) (λ d. Ok (record { place = begun.0.place; count = d })) ready.0 begun.2 in
    let made : ◌≡◌ {A = Ready} (record { place = begun.0.place; count = walked.0 }) ready.0 = same_ok _ _ walked.2 in
    let done = completed-inverted target.name known s.streams ready.0 t ready.2 in
    record {
      index = begun.0.place;
      placed = first.placed;
      lawful_width = first.lawful_width;
      initial = first.initial;
      initial_is = first.initial_is;
      fits = λ w. fits-inverted width first.initial w first.fits;
      begin = begun.0.count;
      walk = walked.1 ∙ ap Ok (ap (λ (r : Ready). r.count) made ∙ done.1);
      introduces = subst (λ i. Introduces target.name i known s.streams t.streams) (sym (ap (λ (r : Ready). r.place) made)) done.0;
    }

-- ---- lists of statements
abbrev pub AllChange : List Stmt → Known → Bool → Progress → Progress → Type 0
AllChange [] known inside s t = s ≡ t
AllChange (x ∷ xs) known inside s t = (between : Progress) × (change_of x known inside s ≡ Ok between) × AllChange xs known inside between t

pub changes-inverted : (xs : List Stmt) (known : Known) (inside : Bool) (s t : Progress) → changes (map change_of xs) known inside s ≡ Ok t → AllChange xs known inside s t
changes-inverted [] known inside s t is = same_ok s t is
changes-inverted (x ∷ xs) known inside s t is =
    let first = then_ok (change_of x known inside s) (changes (map change_of xs) known inside) t is in
    (first.0, first.1, changes-inverted xs known inside first.0 t first.2)

-- ---- loops
-- so many turns, from this value of the index on; each begins with the streams so far, and a count of its own
abbrev pub AllTurns : ℕ → ℕ → List ℕ → List Stmt → Known → Bool → Progress → Progress → Type 0
AllTurns zero at index body known inside s t = s ≡ t
AllTurns (suc k) at index body known inside s t =
    (begin : Count) × (between : Progress) × AllChange body (bind index (Index at) known) inside (record { streams = s.streams; count = begin }) between × AllTurns k (at + 1) index body known inside between t

pub record ForWalk (index : List ℕ) (low high : Fixed) (body : List Stmt) (known : Known) (inside : Bool) (s t : Progress) : Type 0 where
  pub from : ℕ
  pub to : ℕ
  pub low_is : constant_of low known ≡ Ok from
  pub high_is : constant_of high known ≡ Ok to
  pub unknown : known index ≡ None
  pub fresh : s.streams index ≡ None
  pub begin : Count
  pub turns : AllTurns (to - from) from index body known inside (record { streams = s.streams; count = begin }) t

turns-inverted : (k at : ℕ) (index : List ℕ) (body : List Stmt) (known : Known) (inside : Bool) (s t : Progress) → turns k at (turn index (map change_of body) known inside) s ≡ Ok t → AllTurns k at index body known inside s t
turns-inverted zero at index body known inside s t is = same_ok s t is
turns-inverted (suc k) at index body known inside s t is =
    let run = turn index (map change_of body) known inside in
    let first = then_ok (run at s) (turns k (at + 1) run) t is in
    let counting = then_ok (counted 0 s.count) (λ c. changes (map change_of body) (bind index (Index at) known) inside (record { streams = s.streams; count = c })) first.0 first.1 in
    (counting.0, first.0, changes-inverted body (bind index (Index at) known) inside (record { streams = s.streams; count = counting.0 }) first.0 counting.2, turns-inverted k (at + 1) index body known inside first.0 t first.2)

no-places : (o : Option (Option ℕ → Bool)) → is_none o ≡ true → o ≡ None
no-places None h = refl
no-places (Some s) h = absurd (false≢true h)

-- a name that stands for nothing
pub free-inverted : (name : List ℕ) (known : Known) (streams : Streaming) → is_free name known streams ≡ true → (known name ≡ None) × (streams name ≡ None)
free-inverted name known streams free =
    let parts = and_parts (is_none (known name)) (is_none (streams name)) free in
    (no-static (known name) parts.0, no-places (streams name) parts.1)

pub for-inverted : (index : List ℕ) (low high : Fixed) (body : List Stmt) (known : Known) (inside : Bool) (s t : Progress) → and_then (for_ready index low high known s.streams s.count) (λ (p : Span). turns (p.high - p.low) p.low (turn index (map change_of body) known inside) (record { streams = s.streams; count = p.count })) ≡ Ok t → ForWalk index low high body known inside s t
for-inverted index low high body known inside s t is =
    let run = turn index (map change_of body) known inside in
    let begun = then_ok (for_ready index low high known s.streams s.count) (λ (p : Span). turns (p.high - p.low) p.low run (record { streams = s.streams; count = p.count })) t is in
    let free : Count → ℕ → ℕ → Result Span Offence = λ c from to. provided (is_free index known s.streams) Introduced (Ok (record { low = from; high = to; count = c })) in
    let counting = then_ok (counted 0 s.count) (λ c. and_then (constant_of low known) (λ from. and_then (constant_of high known) (free c from))) begun.0 begun.1 in
    let bottom = then_ok (constant_of low known) (λ from. and_then (constant_of high known) (free counting.0 from)) begun.0 counting.2 in
    let top = then_ok (constant_of high known) (free counting.0 bottom.0) begun.0 bottom.2 in
    let kept = provided_ok (is_free index known s.streams) Introduced (Ok (record { low = bottom.0; high = top.0; count = counting.0 })) begun.0 top.2 in
    let made : ◌≡◌ {A = Span} (record { low = bottom.0; high = top.0; count = counting.0 }) begun.0 = same_ok _ _ kept.1 in
    let new = free-inverted index known s.streams kept.0 in
    record {
      from = bottom.0;
      to = top.0;
      low_is = bottom.1;
      high_is = top.1;
      unknown = new.0;
      fresh = new.1;
      begin = counting.0;
      turns = turns-inverted (top.0 - bottom.0) bottom.0 index body known inside (record { streams = s.streams; count = counting.0 }) t (ap (λ (p : Span). turns (p.high - p.low) p.low run (record { streams = s.streams; count = p.count })) made ∙ begun.2);
    }
