-- Turns and rounds of programs.
use Rattle.std.proofs.Common.{◌≡◌, ◌≢◌, ℕ, ◌+◌, ◌*◌, ◌≤◌, ltb, cond, true, false, List, [], ◌++◌, length, map, take, Option, Some, None, is_some, slice_get, refl, sym, ap, ◌∙◌, subst, arith, length-append, true≢false, inl, inr, ◌^◌}
use Rattle.std.proofs.Math.Nat.{mul-le-mul_left}
use Rattle.std.proofs.Math.ListN.{set}
use Rattle.std.proofs.lemmas.Bool.{cases_eq, lt-ltb, cond-true}
use Rattle.std.proofs.lemmas.List.{length-map, length-set}
use Rattle.pr_edge.specs.Count.{RoseBy}
use Rattle.pr_edge.specs.Files.{Told}
use Rattle.pr_edge.specs.Tape.{Tape, Appends}
use Rattle.pr_edge.proofs.Appending.{Appends-append}
use Rattle.pr_samples.specs.declared.feed.Got.{Got}
use Rattle.pr_samples.specs.Feed.{fed}
use Rattle.pr_conf.proofs.AfterLaws.{none_after}
use Rattle.pr_share_text.specs.Text.{Part, HaveQuotas}
use Rattle.pr_share_text.specs.Turns.{so_far}
use Rattle.pr_share_text.proofs.TurnLaws.{turn_added, turn_skipped, round_over, nothing_yet, all_over}
use Rattle.pr_share.specs.declared.items.ShareItem.{ShareItem}
use Rattle.pr_share.specs.Fed.{HasFed}
use Rattle.pr_share.specs.Items.{conf_in, last_of, IsReady, AreReady, HasTaken, turn_rows, World, world, IsTurn, Given, part_of, parts_of, has_failed, read_faults, IsMember, IsSharing, AreShared, NoneFailed}
use Rattle.pr_run.proofs.Lines.{nothing_appended}
use Rattle.pr_share.proofs.ListFacts.{got_at, got_within, set_same, set_other, same_some, mapped_at}
use Rattle.pr_share.proofs.Parts.{more_results, part_rows, length-turn, parts_at, length-parts, parts_set, quotas_set, quotas_first, turns_other, turns_this, turns_yet, turns_none, rose_more, faults_set, no_faults}

-- ---- one program
-- a program that goes on has its quota of samples from each of its turns
pub rows_due : {N P : ℕ} (told : Told) (first now : ShareItem N P) (given : Given) (r : ℕ) → IsMember told first now given r → now.ended ≡ None → length (part_of first given.rows).rows ≡ r * first.quota
rows_due told first now given r m going = part_rows first given.rows ∙ m.due going

-- and no read of its samples has failed
pub none_failed : {N P : ℕ} (told : Told) (first now : ShareItem N P) (given : Given) (r : ℕ) → IsMember told first now given r → now.ended ≡ None → has_failed told first.feed given.last ≡ false
none_failed told first now given r m going = ap (has_failed told first.feed) (m.resting.last ∙ ap last_of going)

module _ {N P : ℕ} (told : Told) (first now now' : ShareItem N P) (given : Given) (r number b b' : ℕ) (t t' : Tape) (m : IsMember told first now given r) (going : now.ended ≡ None) (turn : IsTurn first now' given.rows number (world told b t) (world told b' t')) where
  -- what it was given after the turn
  abbrev pub grown : Given
  grown = record { rows = given.rows ++ turn.more; last = last_of now'.ended }

  pub rows_more : (part_of first grown.rows).rows ≡ (part_of first given.rows).rows ++ turn_rows first given.rows turn.more
  rows_more = more_results N P (conf_in first.parked) given.rows turn.more

  pub rows_few : length (turn_rows first given.rows turn.more) ≤ first.quota
  rows_few = let n = length-turn first given.rows turn.more in let few = turn.few in omega arith

  pub member_next : IsMember told first now' grown (r + 1)
  member_next = record {
    resting = record { taken = turn.taken; last = refl };
    few = (let n = length-append given.rows turn.more in let a = m.few in let b = turn.few in omega arith);
    due = λ e. (let n = length-append given.rows turn.more in let a = m.due going in let b = turn.full e in omega arith);
  }

-- ---- all programs
module _ {N P : ℕ} (told : Told) (firsts items : List (ShareItem N P)) (start : World) (b : ℕ) (t : Tape) (r k : ℕ) (st : IsSharing firsts items start (world told b t) r k) (first now : ShareItem N P) (ef : slice_get firsts k ≡ Some first) (ei : slice_get items k ≡ Some now) where
  pub given_here : (given : Given) × (slice_get st.givens k ≡ Some given)
  given_here = got_at st.givens k (let a = got_within firsts k first ef in let b = st.givens_count in omega arith)

  pub member_here : IsMember told first now given_here.0 r
  member_here = subst (λ n. IsMember told first now given_here.0 n) (turns_yet r k) (st.each k first now given_here.0 ef ei given_here.1)

  pub part_here : slice_get (parts_of firsts st.givens) k ≡ Some (part_of first given_here.0.rows)
  part_here = parts_at firsts st.givens k first given_here.0 ef given_here.1

  skip_few : length (part_of first given_here.0.rows).rows ≤ r * first.quota
  skip_few = let n = part_rows first given_here.0.rows in let a = member_here.few in omega arith

  skip_this : is_some now.ended ≡ true → (i : ℕ) (f n : ShareItem N P) (g : Given) → slice_get firsts i ≡ Some f → slice_get items i ≡ Some n → slice_get st.givens i ≡ Some g → i ≡ k → IsMember told f n g (cond (ltb i (k + 1)) (r + 1) r)
  skip_this over i f n g a b c same =
      let m : IsMember told f n g r = subst (λ x. IsMember told f n g x) (ap (λ j. cond (ltb j k) (r + 1) r) same ∙ turns_yet r k) (st.each i f n g a b c) in
      let now_is : n ≡ now = same_some (slice_get items k) n now (ap (slice_get items) (sym same) ∙ b) ei in
      subst (λ x. IsMember told f n g x) (sym (ap (λ j. cond (ltb j (k + 1)) (r + 1) r) same ∙ turns_this r k))
      (record {
        resting = m.resting;
        few = (let x = m.few in omega arith);
        due = λ e. absurd (true≢false (sym over ∙ (ap (λ (x : ShareItem N P). is_some x.ended) (sym now_is) ∙ ap is_some e)));
      })

  -- a program that has ended has no turn
  pub sharing_skip : is_some now.ended ≡ true → IsSharing firsts items start (world told b t) r (k + 1)
  sharing_skip over = record {
    givens = st.givens;
    items_count = st.items_count;
    givens_count = st.givens_count;
    each = λ i f n g a b c. elim (cases_eq i k) [ inl same ↦ skip_this over i f n g a b c same | inr other ↦ subst (λ m. IsMember told f n g m) (sym (turns_other r k i other)) (st.each i f n g a b c) ];
    quotas = st.quotas;
    text = subst (λ xs. Appends start.tape t xs) (sym (turn_skipped r k (parts_of firsts st.givens) (part_of first given_here.0.rows) part_here skip_few)) st.text;
    faults = st.faults;
  }

  module _ (now' : ShareItem N P) (b' : ℕ) (t' : Tape) (going : now.ended ≡ None) (later : b ≤ b') (turn : IsTurn first now' given_here.0.rows k (world told b t) (world told b' t')) where
    abbrev more_given : Given
    more_given = record { rows = given_here.0.rows ++ turn.more; last = last_of now'.ended }

    turn_this : (i : ℕ) (f n : ShareItem N P) (g : Given) → slice_get firsts i ≡ Some f → slice_get (set items k now') i ≡ Some n → slice_get (set st.givens k more_given) i ≡ Some g → i ≡ k → IsMember told f n g (cond (ltb i (k + 1)) (r + 1) r)
    turn_this i f n g a b c same =
        let f_is : first ≡ f = same_some (slice_get firsts k) first f ef (ap (slice_get firsts) (sym same) ∙ a) in
        let n_is : now' ≡ n = set_same items k now' n (ap (slice_get (set items k now')) (sym same) ∙ b) in
        let g_is : more_given ≡ g = set_same st.givens k more_given g (ap (slice_get (set st.givens k more_given)) (sym same) ∙ c) in
        let m : IsMember told first now' more_given (r + 1) = member_next told first now now' given_here.0 r k _ _ t t' member_here going turn in
        subst (λ x. IsMember told f n g x) (sym (ap (λ j. cond (ltb j (k + 1)) (r + 1) r) same ∙ turns_this r k))
        (subst (λ x. IsMember told f n x (r + 1)) g_is (subst (λ x. IsMember told f x more_given (r + 1)) n_is (subst (λ x. IsMember told x now' more_given (r + 1)) f_is m)))

    -- a program that has not ended has a turn
    pub sharing_turn : IsSharing firsts (set items k now') start (world told b' t') r (k + 1)
    sharing_turn =
        let g = given_here.0 in
        let parts = parts_of firsts st.givens in
        let grow = parts_set firsts st.givens k first more_given ef in
        record {
          givens = set st.givens k more_given;
          items_count = length-set items k now' ∙ st.items_count;
          givens_count = length-set st.givens k more_given ∙ st.givens_count;
          each = λ i f n g a b c. elim (cases_eq i k) [
            | inl same ↦ turn_this i f n g a b c same
            | inr other ↦ subst (λ m. IsMember told f n g m) (sym (turns_other r k i other)) (st.each i f n g a (sym (set_other items k i now' other) ∙ b) (sym (set_other st.givens k i more_given other) ∙ c))
          ];
          quotas = subst HaveQuotas (sym grow) (quotas_set parts k (part_of first g.rows) (part_of first more_given.rows) part_here refl st.quotas);
          text = subst (λ xs. Appends start.tape t' xs) (sym (ap (so_far r (k + 1)) grow ∙ turn_added r k parts (part_of first g.rows) (part_of first more_given.rows) (turn_rows first g.rows turn.more) part_here refl
              (rows_more told first now now' g r k b b' t t' member_here going turn)
              (rows_due told first now g r member_here going)
              (rows_few told first now now' g r k b b' t t' member_here going turn)))
              (Appends-append start.tape t t' _ _ st.text turn.text);
          faults = subst (λ n. RoseBy start.faults b' n) (sym (faults_set told firsts st.givens k first g more_given ef given_here.1 (none_failed told first now g r member_here going)))
              (rose_more told first.feed (last_of now'.ended) start.faults b b' (read_faults told firsts st.givens) st.faults later turn.cause);
        }

-- ---- the program whose turn it is
module _ {N P : ℕ} (told : Told) (firsts items : List (ShareItem N P)) (start : World) (b : ℕ) (t : Tape) (r k : ℕ) (st : IsSharing firsts items start (world told b t) r k) (now : ShareItem N P) (ei : slice_get items k ≡ Some now) where
  pub first_here : (first : ShareItem N P) × (slice_get firsts k ≡ Some first)
  first_here = got_at firsts k (let a = got_within items k now ei in let b = st.items_count in omega arith)

  unfoldable pub taken_here : (first : ShareItem N P) × ((rows : List (List ℕ)) × HasTaken told first now rows)
  taken_here =
      let g = given_here told firsts items start b t r k st first_here.0 now first_here.1 ei in
      let m = member_here told firsts items start b t r k st first_here.0 now first_here.1 ei in
      (first_here.0, (g.0.rows, m.resting.taken))

  pub skip_here : is_some now.ended ≡ true → IsSharing firsts items start (world told b t) r (k + 1)
  skip_here over = sharing_skip told firsts items start b t r k st first_here.0 now first_here.1 ei over

  pub turn_here : (now' : ShareItem N P) (b' : ℕ) (t' : Tape) → now.ended ≡ None → b ≤ b' → IsTurn taken_here.0 now' taken_here.1.0 k (world told b t) (world told b' t') → IsSharing firsts (set items k now') start (world told b' t') r (k + 1)
  unfolding taken_here
  turn_here now' b' t' going later turn = sharing_turn told firsts items start b t r k st first_here.0 now first_here.1 ei now' b' t' going later turn

-- a program that goes on takes a turn: where then the samples of no program have ended with a failed read, they had not before
pub none_before : {N P : ℕ} (items : List (ShareItem N P)) (k : ℕ) (now now' : ShareItem N P) → slice_get items k ≡ Some now → now.ended ≡ None → NoneFailed (set items k now') → NoneFailed items
none_before {N} {P} items k now now' here going all i item e = elim (cases_eq i k) [
  | inl same ↦ λ failed. (
      let is = same_some (slice_get items k) now item here (ap (slice_get items) (sym same) ∙ e) in
      let none : None ≡ Some Got.ReadFault = sym going ∙ (ap (λ (x : ShareItem N P). x.ended) is ∙ failed) in
      cc)
  | inr other ↦ all i item (set_other items k i now' other ∙ e)
]

-- the program itself is among them
pub none_here : {N P : ℕ} (items : List (ShareItem N P)) (k : ℕ) (now now' : ShareItem N P) → slice_get items k ≡ Some now → NoneFailed (set items k now') → now'.ended ≢ Some Got.ReadFault
none_here {N} {P} items k now now' here all =
    let within = got_within items k now here in
    let at = got_at (set items k now') k (let n = length-set items k now' in omega arith) in
    let is = set_same items k now' at.0 at.1 in
    all k now' (at.1 ∙ ap Some (sym is))

-- what the shelf tells stays
pub told_same : {N P : ℕ} (told told' : Told) (firsts items : List (ShareItem N P)) (start : World) (b : ℕ) (t : Tape) (r k : ℕ) → told' ≡ told → IsSharing firsts items start (world told b t) r k → IsSharing firsts items start (world told' b t) r k
told_same told told' firsts items start b t r k e st = subst (λ (x : Told). IsSharing firsts items start (world x b t) r k) (sym e) st

-- ---- rounds
pub sharing_round : {N P : ℕ} (told : Told) (firsts items : List (ShareItem N P)) (start : World) (b : ℕ) (t : Tape) (r n : ℕ) → IsSharing firsts items start (world told b t) r n → n ≡ length items → IsSharing firsts items start (world told b t) (r + 1) 0
sharing_round told firsts items start b t r n st all = record {
  givens = st.givens;
  items_count = st.items_count;
  givens_count = st.givens_count;
  each = λ i f x g a b c.
      (let within = got_within items i x b in
      subst (λ m. IsMember told f x g m) (cond-true (ltb i n) (r + 1) r (lt-ltb i n (omega arith)) ∙ sym (turns_none (r + 1) i)) (st.each i f x g a b c));
  quotas = st.quotas;
  text = subst (λ xs. Appends start.tape t xs) (round_over r n (parts_of firsts st.givens) (let e = length-parts firsts st.givens st.givens_count in let d = st.items_count in omega arith)) st.text;
  faults = st.faults;
}

-- a program that has not ended was given its quota in each round, and no feed gives more than 2 to the 40
pub few_rounds : {N P : ℕ} (told : Told) (firsts items : List (ShareItem N P)) (start : World) (b : ℕ) (t : Tape) (r i : ℕ) (now : ShareItem N P) → IsSharing firsts items start (world told b t) r 0 → slice_get items i ≡ Some now → now.ended ≡ None → r ≤ 2 ^ 40
few_rounds told firsts items start b t r i now st e going =
    let here = got_within items i now e in
    let f = got_at firsts i (let a = st.items_count in omega arith) in
    let g = got_at st.givens i (let a = st.items_count in let b = st.givens_count in omega arith) in
    let m = st.each i f.0 now g.0 f.1 e g.1 in
    let due = m.due going in
    let z = turns_none r i in
    let n : length g.0.rows ≡ r * f.0.quota = due ∙ ap (λ x. x * f.0.quota) z in
    let taken = m.resting.taken in
    let up : r * 1 ≤ r * f.0.quota = mul-le-mul_left r taken.least in
    let given = taken.fed.count in
    let most = taken.fed.file.most in
    let bound = taken.most in
    omega (arith, now.feed.few)

-- ---- the first round
abbrev begun : {N P : ℕ} → ShareItem N P → Given
begun item = record { rows = []; last = Got.Sample }

taken_none : {N P : ℕ} (told : Told) (item : ShareItem N P) → IsReady item → HasTaken told item item []
taken_none {N} {P} told item h = record {
  some = h.parked;
  conf = sym (none_after N P (conf_in item.parked));
  fed = subst (λ (g : Got). HasFed item.feed told item.feed [] g) (sym (ap last_of h.ended)) (record {
    file = record { name = refl; widths = refl; limit = refl; most = refl };
    count = h.fresh.samples;
    samples = λ file tells. record { front = ap (λ n. take n (fed item.feed file).samples) (sym h.fresh.samples); ends = h.fresh.stands file };
    missing = λ lost. (h.fresh.bytes, refl);
  });
  inputs = h.inputs;
  quota = refl;
  least = h.quota;
  most = h.fresh.few;
  ended = λ e. absurd (true≢false (sym e ∙ ap is_some h.ended));
}

pub sharing_start : {N P : ℕ} (told : Told) (items : List (ShareItem N P)) (b : ℕ) (t : Tape) → AreReady items → IsSharing items items (world told b t) (world told b t) 0 0
sharing_start {N} {P} told items b t ready = record {
  givens = map begun items;
  items_count = refl;
  givens_count = length-map items begun;
  each = λ i f x g a b c.
      (let f_is : f ≡ x = same_some (slice_get items i) f x a b in
      let h = ready i f a in
      subst (λ y. IsMember told f y g (cond (ltb i 0) (0 + 1) 0)) f_is
      (subst (λ y. IsMember told f f y (cond (ltb i 0) (0 + 1) 0)) (sym (mapped_at begun items i f g a c)) (record {
        resting = record { taken = taken_none told f h; last = sym (ap last_of h.ended) };
        few = omega arith;
        due = λ e. (let z = turns_none 0 i in let y : cond (ltb i 0) (0 + 1) 0 * f.quota ≡ 0 * f.quota = ap (λ n. n * f.quota) z in omega arith);
      })));
  quotas = quotas_first items begun (λ i x e. (ready i x e).quota);
  text = subst (λ xs. Appends t t xs) (sym (nothing_yet (parts_of items (map begun items)))) (nothing_appended t);
  faults = (let z = no_faults told items begun (λ x. refl) in omega (arith, z));
}

-- ---- the end
some_last : (o : Option Got) → is_some o ≡ true → o ≡ Some (last_of o)
some_last None e = absurd (true≢false (sym e))
some_last (Some got) e = refl

pub sharing_end : {N P : ℕ} (told : Told) (firsts items : List (ShareItem N P)) (start : World) (b : ℕ) (t : Tape) (r : ℕ) → IsSharing firsts items start (world told b t) r 0
    → ((i : ℕ) (now : ShareItem N P) → slice_get items i ≡ Some now → is_some now.ended ≡ true) → (NoneFailed items → b ≡ start.faults) → AreShared firsts items start (world told b t)
sharing_end {N} {P} told firsts items start b t r st over steady = record {
  givens = st.givens;
  items_count = st.items_count;
  givens_count = st.givens_count;
  each = λ i f x g a b c. (let m = st.each i f x g a b c in record { taken = m.resting.taken; ended = some_last x.ended (over i x b) ∙ ap Some (sym m.resting.last) });
  text = subst (λ xs. Appends start.tape t xs) (all_over r (parts_of firsts st.givens) st.quotas few) st.text;
  faults = st.faults;
  steady = steady;
}
  where
    few : (i : ℕ) (part : Part) → slice_get (parts_of firsts st.givens) i ≡ Some part → length part.rows ≤ r * part.quota
    few i part e =
        let parts = parts_of firsts st.givens in
        let n = length-parts firsts st.givens st.givens_count in
        let within = got_within parts i part e in
        let f = got_at firsts i (omega arith) in
        let x = got_at items i (let b = st.items_count in omega arith) in
        let g = got_at st.givens i (let b = st.givens_count in omega arith) in
        let m = st.each i f.0 x.0 g.0 f.1 x.1 g.1 in
        let is : part_of f.0 g.0.rows ≡ part = same_some (slice_get parts i) (part_of f.0 g.0.rows) part (parts_at firsts st.givens i f.0 g.0 f.1 g.1) e in
        let l : length part.rows ≡ length g.0.rows = ap (λ (y : Part). length y.rows) (sym is) ∙ part_rows f.0 g.0.rows in
        let q : r * part.quota ≡ r * f.0.quota = ap (λ (y : Part). r * y.quota) (sym is) in
        let z : cond (ltb i 0) (r + 1) r * f.0.quota ≡ r * f.0.quota = ap (λ y. y * f.0.quota) (turns_none r i) in
        let a = m.few in
        omega arith
