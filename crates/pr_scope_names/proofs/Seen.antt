-- What is seen of names: the indices of loops, and what items before a horizon introduce.
use mathlib.Core.Path.{fun_ext}
use Rattle.std.proofs.Common.{◌≡◌, ◌≤◌, ◌<◌, ◌+◌, ℕ, nat_lt, arith, Bool, true, false, cond, List, Option, None, Some, refl, subst, ap, ◌∙◌, bytes_eq}
use Rattle.std.specs.Cmp.Lexicographic.{bytes_decides}
use Rattle.std.proofs.lemmas.Bool.{le-ltb, lt-ltb, ltb-true}
use Rattle.pr_scope_names.specs.declared.names.Entry.{Entry}
use Rattle.pr_scope_names.specs.declared.names.Static.{Static}
use Rattle.pr_scope_names.specs.declared.names.Statics.{Statics}
use Rattle.pr_scope_names.specs.Names.{Entries, Known, KeepsNames, bind, entries_in, horizon_in, indices_in, is_seen, known_in, shown, unbind, what_before, before, whole}
use Rattle.pr_scope_names.proofs.Maps.{unbound}

seen_outside : (item : Option ℕ) → is_seen item None ≡ true
seen_outside None = refl
seen_outside (Some n) = refl

pub no_index : (a b : Option Static) → shown a b ≡ None → a ≡ None
no_index None b h = refl
no_index (Some x) b h = h

entered : (b : Bool) (e : Entry) (i : Option Static) (old : Option Entry) → (b ≡ true → i ≡ None) → shown i (what_before None (cond b (Some e) old)) ≡ cond b (Some e.what) (shown i (what_before None old))
entered true e i old h = rw (h refl, seen_outside e.item) refl
entered false e i old h = refl

-- an item's name, which was not visible
pub known_set : (name key : List ℕ) (e : Entry) (i j : Known) (h k : Option ℕ) (es fs : Entries) → key ≡ name → h ≡ None → k ≡ h → j ≡ i → fs ≡ bind key e es → shown (i name) (what_before h (es name)) ≡ None → (λ q. shown (j q) (what_before k (fs q))) ≡ bind name e.what (λ q. shown (i q) (what_before h (es q)))
known_set name key e i j h k es fs same outside horizon indices entries free =
    rw (entries, indices, horizon, outside, same)
    (fun_ext (λ q. entered (bytes_eq name q) e (i q) (es q) (λ y. subst (λ l. i l ≡ None) ((bytes_decides name q).0 y) (no_index (i name) (what_before h (es name)) free))))

-- the first name of all
pub known_first : (name key : List ℕ) (e : Entry) (i j : Known) (k : Option ℕ) (es fs : Entries) → key ≡ name → k ≡ None → j ≡ i → fs ≡ bind key e es → i ≡ (λ q. None) → es ≡ (λ q. None) → (λ q. shown (j q) (what_before k (fs q))) ≡ bind name e.what (λ q. None)
known_first name key e i j k es fs same outside indices entries none empty =
    rw (entries, indices, outside, same, none, empty)
    (fun_ext (λ q. entered (bytes_eq name q) e None None (λ y. refl)))

hidden : (b : Bool) (x : Static) (i o : Option Static) → shown (cond b (Some x) i) o ≡ cond b (Some x) (shown i o)
hidden true x i o = refl
hidden false x i o = refl

-- an index hides what items introduce
pub known_index : (name : List ℕ) (x : Static) (i j o : Known) → j ≡ bind name x i → (λ q. shown (j q) (o q)) ≡ bind name x (λ q. shown (i q) (o q))
known_index name x i j o is = rw is (fun_ext (λ q. hidden (bytes_eq name q) x (i q) (o q)))

abbrev seen_by : Known → Option ℕ → Entries → Known
seen_by indices horizon entries = λ q. shown (indices q) (what_before horizon (entries q))

known_same : (i j : Known) (h k : Option ℕ) (es fs : Entries) → j ≡ i → k ≡ h → fs ≡ es → seen_by j k fs ≡ seen_by i h es
known_same i j h k es fs indices horizon entries = rw (indices, horizon, entries) refl

pub known_kept : (s t : Statics) → KeepsNames s t → known_in t ≡ known_in s
known_kept s t k = known_same (indices_in s) (indices_in t) (horizon_in s) (horizon_in t) (entries_in s) (entries_in t) k.indices k.horizon k.entries

-- an index that is put, and after steps that keep the names taken out again
pub index_over : (s t u v : Statics) (name : List ℕ) (x : Static) → known_in s name ≡ None → indices_in t ≡ bind name x (indices_in s) → entries_in t ≡ entries_in s → horizon_in t ≡ horizon_in s → KeepsNames t u → indices_in v ≡ unbind name (indices_in u) → entries_in v ≡ entries_in u → horizon_in v ≡ horizon_in u → KeepsNames s v
index_over s t u v name x free put_i put_e put_h kept out_i out_e out_h =
    let taken : indices_in v ≡ unbind name (bind name x (indices_in s)) = out_i ∙ ap (λ (k : Known). unbind name k) (kept.indices ∙ put_i) in
    record {
      entries = out_e ∙ (kept.entries ∙ put_e);
      indices = taken ∙ unbound name x (indices_in s) (no_index (indices_in s name) (what_before (horizon_in s) (entries_in s name)) free);
      horizon = out_h ∙ (kept.horizon ∙ put_h);
    }

pub names_on : {s t u : Statics} → KeepsNames s t → KeepsNames t u → KeepsNames s u
names_on k l = record { entries = l.entries ∙ k.entries; indices = l.indices ∙ k.indices; horizon = l.horizon ∙ k.horizon }

-- a built-in name alone
alone : (b : Bool) (w : Static) (h : Option ℕ) → what_before h (cond b (Some (record { item = None; what = w })) None) ≡ cond b (Some w) None
alone true w h = refl
alone false w h = refl

pub first_seen : (name key : List ℕ) (w : Static) (h : Option ℕ) (es fs : Entries) → key ≡ name → fs ≡ bind key (record { item = None; what = w }) es → es ≡ (λ q. None) → seen_by (λ q. None) h fs ≡ bind name w (λ q. None)
first_seen name key w h es fs same entries empty = rw (entries, same, empty) (fun_ext (λ q. alone (bytes_eq name q) w h))

-- a new name of a later item
unseen : (b : Bool) (item horizon : ℕ) (what : Static) (old : Option Entry) → horizon ≤ item → (b ≡ true → old ≡ None) → what_before (Some horizon) (cond b (Some (record { item = Some item; what = what })) old) ≡ what_before (Some horizon) old
unseen true item horizon what old late new = rw (new refl, le-ltb item horizon late) refl
unseen false item horizon what old late new = refl

pub later_name : (name : List ℕ) (item horizon : ℕ) (what : Static) (entries : Entries) → horizon ≤ item → entries name ≡ None → before horizon (bind name (record { item = Some item; what = what }) entries) ≡ before horizon entries
later_name name item horizon what entries late new =
    fun_ext (λ q. unseen (bytes_eq name q) item horizon what (entries q) late (λ y. subst (λ l. entries l ≡ None) ((bytes_decides name q).0 y) new))

-- from an item to the next one
abbrev shown_if : Bool → Static → Option Static
shown_if b w = cond b (Some w) None

absurd_none : (w : Static) (o : Option Static) → None ≡ Some w → o ≡ Some w
absurd_none w o h = grind (arith, h)

still_seen : (a b : Bool) (w : Static) → (a ≡ true → b ≡ true) → shown_if a w ≡ Some w → shown_if b w ≡ Some w
still_seen true b w more h = rw (more refl) refl
still_seen false b w more h = absurd_none w (shown_if b w) h

next_seen : (horizon : ℕ) (item : Option ℕ) (w : Static) → shown_if (is_seen item (Some horizon)) w ≡ shown_if (is_seen item None) w → shown_if (is_seen item (Some (horizon + 1))) w ≡ shown_if (is_seen item None) w
next_seen horizon None w h = refl
next_seen horizon (Some n) w h = still_seen (nat_lt n horizon) (nat_lt n (horizon + 1)) w (λ y. let less : n < horizon = ltb-true n horizon y in lt-ltb n (horizon + 1) (omega (arith, less))) h

next_one : (horizon : ℕ) (old : Option Entry) → what_before (Some horizon) old ≡ what_before None old → what_before (Some (horizon + 1)) old ≡ what_before None old
next_one horizon None h = refl
next_one horizon (Some e) h = next_seen horizon e.item e.what h

pub next_keeps : (horizon : ℕ) (entries : Entries) → before horizon entries ≡ whole entries → before (horizon + 1) entries ≡ whole entries
next_keeps horizon entries h = fun_ext (λ q. next_one horizon (entries q) (ap (λ (k : Known). k q) h))

next_new : (b : Bool) (horizon : ℕ) (what : Static) (old : Option Entry) → what_before (Some horizon) old ≡ what_before None old → what_before (Some (horizon + 1)) (cond b (Some (record { item = Some horizon; what = what })) old) ≡ what_before None (cond b (Some (record { item = Some horizon; what = what })) old)
next_new true horizon what old h =
    let less : horizon < horizon + 1 = omega arith in
    rw (lt-ltb horizon (horizon + 1) less) refl
next_new false horizon what old h = next_one horizon old h

pub next_adds : (name : List ℕ) (horizon : ℕ) (what : Static) (entries : Entries) → before horizon entries ≡ whole entries → before (horizon + 1) (bind name (record { item = Some horizon; what = what }) entries) ≡ whole (bind name (record { item = Some horizon; what = what }) entries)
next_adds name horizon what entries h = fun_ext (λ q. next_new (bytes_eq name q) horizon what (entries q) (ap (λ (k : Known). k q) h))
