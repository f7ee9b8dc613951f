-- A write fails in the turn of a program.
use Rattle.std.proofs.Common.{◌≡◌, ℕ, zero, suc, ◌*◌, ◌<◌, ◌≤◌, true, List, [], ◌∷◌, ◌++◌, length, Option, Some, None, is_some, slice_get, refl, sym, ap, ◌∙◌, subst, arith, append_assoc, append-nil, inl, inr}
use Rattle.std.proofs.Math.ListN.{set}
use Rattle.std.proofs.lemmas.Bool.{cases_eq}
use Rattle.std.proofs.lemmas.List.{length-set}
use Rattle.pr_edge.specs.Count.{RoseBy}
use Rattle.pr_edge.specs.Files.{Told}
use Rattle.pr_edge.specs.Tape.{Tape, AppendsFront}
use Rattle.pr_samples.specs.declared.feed.Got.{Got}
use Rattle.pr_samples.specs.Got.{is_sample}
use Rattle.pr_run.proofs.Lines.{front_after, front_longer}
use Rattle.pr_run.proofs.NextSamples.{nothing_follows}
use Rattle.pr_share_text.specs.Text.{Part, HaveQuotas, marked, share_text}
use Rattle.pr_share_text.specs.Turns.{so_far}
use Rattle.pr_share_text.proofs.StopLaws.{SameRows, same_rows, turns_before, so_far_same, turn_begins}
use Rattle.pr_share.specs.declared.items.ShareItem.{ShareItem}
use Rattle.pr_share.specs.Items.{conf_in, turn_rows, World, world, IsBroken, IsHalf, Given, part_of, parts_of, read_faults, IsMember, IsSharing, MayBecome, MayAllBecome, AreStopped}
use Rattle.pr_share.proofs.ListFacts.{got_at, got_within, set_same, set_other, same_some}
use Rattle.pr_share.proofs.Parts.{more_results, part_rows, length-turn, parts_at, length-parts, quotas_same, turns_yet, rose_more, faults_set}
use Rattle.pr_share.proofs.RoundSteps.{rows_due, none_failed, given_here, member_here, first_here, taken_here}

-- ---- what programs may come to
become_at : (givens wholes : List Given) (i : ℕ) (whole : Given) → MayAllBecome givens wholes → slice_get wholes i ≡ Some whole → (given : Given) × ((slice_get givens i ≡ Some given) × MayBecome given whole)
become_at [] [] i whole h e = absurd (let z = e in cc)
become_at [] (y ∷ wholes) i whole h e = absurd h
become_at (x ∷ givens) [] i whole h e = absurd h
become_at (x ∷ givens) (y ∷ wholes) zero whole h e = let is : y ≡ whole = cc in (x, (refl, subst (λ (w : Given). MayBecome x w) is h.0))
become_at (x ∷ givens) (y ∷ wholes) (suc i) whole h e = become_at givens wholes i whole h.1 e

length-become : (givens wholes : List Given) → MayAllBecome givens wholes → length wholes ≡ length givens
length-become [] [] h = refl
length-become [] (y ∷ wholes) h = absurd h
length-become (x ∷ givens) [] h = absurd h
length-become (x ∷ givens) (y ∷ wholes) h = ap suc (length-become givens wholes h.1)

-- a program that is not stopped has the same rows in all its turns, whatever samples may follow
module _ {N P : ℕ} (told : Told) (first now : ShareItem N P) (given whole : Given) (n : ℕ) (m : IsMember told first now given n) (become : MayBecome given whole) where
  ended_same : is_some now.ended ≡ true → SameRows n (part_of first given.rows) (part_of first whole.rows)
  ended_same over =
      let none = nothing_follows given.last become.more (ap is_sample m.resting.last ∙ m.resting.taken.ended over) become.follow in
      let same : given.rows ≡ whole.rows = sym (append-nil given.rows) ∙ (ap (λ xs. given.rows ++ xs) (sym none) ∙ sym become.rows) in
      subst (λ rows. SameRows n (part_of first given.rows) (part_of first rows)) same (λ q h. refl)

  going_same : now.ended ≡ None → SameRows n (part_of first given.rows) (part_of first whole.rows)
  going_same going =
      same_rows n (part_of first given.rows) (part_of first whole.rows) (turn_rows first given.rows become.more) refl
      (ap (λ rows. (part_of first rows).rows) become.rows ∙ more_results N P (conf_in first.parked) given.rows become.more)
      (part_rows first given.rows ∙ m.due going)

  either : (o : Option Got) → now.ended ≡ o → SameRows n (part_of first given.rows) (part_of first whole.rows)
  either None e = going_same e
  either (Some got) e = ended_same (ap is_some e)

  pub member_same : SameRows n (part_of first given.rows) (part_of first whole.rows)
  member_same = either now.ended refl

-- ---- a turn that stops
module _ {N P : ℕ} (told : Told) (firsts items : List (ShareItem N P)) (start : World) (b : ℕ) (t : Tape) (r k : ℕ) (st : IsSharing firsts items start (world told b t) r k) (first now : ShareItem N P) (ef : slice_get firsts k ≡ Some first) (ei : slice_get items k ≡ Some now)
    (given : Given) (eg : slice_get st.givens k ≡ Some given) (m : IsMember told first now given r) (now' : ShareItem N P) (b' : ℕ) (t' : Tape) (going : now.ended ≡ None) (later : b ≤ b') (half : IsHalf first now' given.rows k (world told b t) (world told b' t')) where
  abbrev left : Given
  left = record { rows = given.rows ++ half.more; last = half.last }

  abbrev lefts : List Given
  lefts = set st.givens k left

  stopped_here : (f n : ShareItem N P) (x : Given) → slice_get firsts k ≡ Some f → slice_get (set items k now') k ≡ Some n → slice_get lefts k ≡ Some x → IsBroken told f n x.rows x.last
  stopped_here f n x a c d =
      let f_is : first ≡ f = same_some (slice_get firsts k) first f ef a in
      let n_is : now' ≡ n = set_same items k now' n c in
      let x_is : left ≡ x = set_same st.givens k left x d in
      subst (λ (y : Given). IsBroken told f n y.rows y.last) x_is (subst (λ (y : ShareItem N P). IsBroken told f y left.rows left.last) n_is (subst (λ (y : ShareItem N P). IsBroken told y now' left.rows left.last) f_is half.broken))

  module _ (wholes : List Given) (become : MayAllBecome lefts wholes) where
    abbrev before : List Part
    before = parts_of firsts st.givens

    abbrev after : List Part
    after = parts_of firsts wholes

    count : length wholes ≡ length firsts
    count = length-become lefts wholes become ∙ (length-set st.givens k left ∙ st.givens_count)

    whole_here : (whole : Given) × (slice_get wholes k ≡ Some whole)
    whole_here = got_at wholes k (let a = got_within firsts k first ef in let c = count in omega arith)

    become_here : MayBecome left whole_here.0
    become_here =
        let x = become_at lefts wholes k whole_here.0 become whole_here.1 in
        subst (λ (y : Given). MayBecome y whole_here.0) (sym (set_same st.givens k left x.0 x.1.0)) x.1.1

    rows_here : (part_of first whole_here.0.rows).rows ≡ (part_of first given.rows).rows ++ (turn_rows first given.rows half.more ++ turn_rows first left.rows become_here.more)
    rows_here =
        ap (λ rows. (part_of first rows).rows) become_here.rows
        ∙ (more_results N P (conf_in first.parked) left.rows become_here.more
        ∙ (ap (λ xs. xs ++ turn_rows first left.rows become_here.more) (more_results N P (conf_in first.parked) given.rows half.more)
        ∙ append_assoc (part_of first given.rows).rows (turn_rows first given.rows half.more) (turn_rows first left.rows become_here.more)))

    due : length (part_of first given.rows).rows ≡ r * first.quota
    due = rows_due told first now given r m going

    same_here : SameRows r (part_of first given.rows) (part_of first whole_here.0.rows)
    same_here = same_rows r (part_of first given.rows) (part_of first whole_here.0.rows) (turn_rows first given.rows half.more ++ turn_rows first left.rows become_here.more) refl rows_here due

    same_at : (i : ℕ) (f n : ShareItem N P) (g w : Given) → slice_get firsts i ≡ Some f → slice_get items i ≡ Some n → slice_get st.givens i ≡ Some g → slice_get wholes i ≡ Some w → SameRows (turns_before r k i) (part_of f g.rows) (part_of f w.rows)
    same_at i f n g w a c d e = elim (cases_eq i k) [
      | inl same ↦ (
          let f_is : first ≡ f = same_some (slice_get firsts k) first f ef (ap (slice_get firsts) (sym same) ∙ a) in
          let g_is : given ≡ g = same_some (slice_get st.givens k) given g eg (ap (slice_get st.givens) (sym same) ∙ d) in
          let w_is : whole_here.0 ≡ w = same_some (slice_get wholes k) whole_here.0 w whole_here.1 (ap (slice_get wholes) (sym same) ∙ e) in
          subst (λ j. SameRows j (part_of f g.rows) (part_of f w.rows)) (sym (ap (turns_before r k) same ∙ turns_yet r k))
          (subst (λ (y : Given). SameRows r (part_of f g.rows) (part_of f y.rows)) w_is (subst (λ (y : Given). SameRows r (part_of f y.rows) (part_of f whole_here.0.rows)) g_is
          (subst (λ (y : ShareItem N P). SameRows r (part_of y given.rows) (part_of y whole_here.0.rows)) f_is same_here))))
      | inr other ↦ (
          let x = become_at lefts wholes i w become e in
          let x_is : x.0 ≡ g = same_some (slice_get st.givens i) x.0 g (sym (set_other st.givens k i left other) ∙ x.1.0) d in
          member_same told f n g w (turns_before r k i) (st.each i f n g a c d) (subst (λ (y : Given). MayBecome y w) x_is x.1.1))
    ]

    same_parts : (i : ℕ) (x y : Part) → slice_get before i ≡ Some x → slice_get after i ≡ Some y → SameRows (turns_before r k i) x y
    same_parts i x y a c =
        let within : i < length firsts = (let l = length-parts firsts st.givens st.givens_count in let z = got_within before i x a in omega arith) in
        let f = got_at firsts i within in
        let n = got_at items i (let z = st.items_count in omega arith) in
        let g = got_at st.givens i (let z = st.givens_count in omega arith) in
        let w = got_at wholes i (let z = count in omega arith) in
        let x_is : part_of f.0 g.0.rows ≡ x = same_some (slice_get before i) (part_of f.0 g.0.rows) x (parts_at firsts st.givens i f.0 g.0 f.1 g.1) a in
        let y_is : part_of f.0 w.0.rows ≡ y = same_some (slice_get after i) (part_of f.0 w.0.rows) y (parts_at firsts wholes i f.0 w.0 f.1 w.1) c in
        subst (λ (z : Part). SameRows (turns_before r k i) x z) y_is (subst (λ (z : Part). SameRows (turns_before r k i) z (part_of f.0 w.0.rows)) x_is (same_at i f.0 n.0 g.0 w.0 f.1 n.1 g.1 w.1))

    same_text : so_far r k before ≡ so_far r k after
    same_text = so_far_same r k before after (length-parts firsts st.givens st.givens_count ∙ sym (length-parts firsts wholes count)) same_parts

    new_few : length (turn_rows first given.rows half.more) ≤ first.quota
    new_few = let n = length-turn first given.rows half.more in let few = half.few in omega arith

    whole_quotas : HaveQuotas after
    whole_quotas = quotas_same firsts st.givens wholes (count ∙ sym st.givens_count) st.quotas

    stopped_text : AppendsFront start.tape t' (share_text after)
    stopped_text =
        let new = turn_rows first given.rows half.more in
        let begins = turn_begins r k before after (part_of first given.rows) (part_of first whole_here.0.rows) new (turn_rows first left.rows become_here.more)
        (parts_at firsts st.givens k first given ef eg) (parts_at firsts wholes k first whole_here.0 ef whole_here.1) refl rows_here due
        new_few whole_quotas same_text in
        let front = front_after start.tape t t' (so_far r k before) (marked k new) st.text half.text in
        subst (λ xs. AppendsFront start.tape t' xs) begins.1 (front_longer start.tape t' (so_far r k before ++ marked k new) begins.0 front)

  pub sharing_stopped : AreStopped firsts (set items k now') start (world told b' t')
  sharing_stopped = record {
    place = k;
    within = (let a = got_within items k now ei in let l = length-set items k now' in omega arith);
    givens = lefts;
    items_count = length-set items k now' ∙ st.items_count;
    givens_count = length-set st.givens k left ∙ st.givens_count;
    here = stopped_here;
    others = λ i f n x other a c d. (st.each i f n x a (sym (set_other items k i now' other) ∙ c) (sym (set_other st.givens k i left other) ∙ d)).resting;
    text = stopped_text;
    faults = subst (λ n. RoseBy start.faults b' n) (sym (faults_set told firsts st.givens k first given left ef eg (none_failed told first now given r m going)))
        (rose_more told first.feed half.last start.faults b b' (read_faults told firsts st.givens) st.faults later half.cause);
  }

-- ---- the program whose turn it is
pub stop_here : {N P : ℕ} (told : Told) (firsts items : List (ShareItem N P)) (start : World) (b : ℕ) (t : Tape) (r k : ℕ) (st : IsSharing firsts items start (world told b t) r k) (now : ShareItem N P) (ei : slice_get items k ≡ Some now) (now' : ShareItem N P) (b' : ℕ) (t' : Tape)
    → now.ended ≡ None → b ≤ b' → IsHalf (taken_here told firsts items start b t r k st now ei).0 now' (taken_here told firsts items start b t r k st now ei).1.0 k (world told b t) (world told b' t')
    → AreStopped firsts (set items k now') start (world told b' t')
unfolding taken_here
stop_here told firsts items start b t r k st now ei now' b' t' going later half =
    let f = first_here told firsts items start b t r k st now ei in
    let g = given_here told firsts items start b t r k st f.0 now f.1 ei in
    sharing_stopped told firsts items start b t r k st f.0 now f.1 ei g.0 g.1 (member_here told firsts items start b t r k st f.0 now f.1 ei) now' b' t' going later half

pub stop_told : {N P : ℕ} (told told' : Told) (firsts items : List (ShareItem N P)) (start : World) (b : ℕ) (t : Tape) → told' ≡ told → AreStopped firsts items start (world told b t) → AreStopped firsts items start (world told' b t)
stop_told told told' firsts items start b t e st = subst (λ (x : Told). AreStopped firsts items start (world x b t)) (sym e) st
