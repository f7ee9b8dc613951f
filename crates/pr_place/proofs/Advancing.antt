-- The course of placing goes on.
use Rattle.std.proofs.Common.{◌≡◌, ℕ, suc, ◌+◌, ◌-◌, ◌<◌, ◌≤◌, List, length, get_or, replicate, false, refl, sym, ap, ◌∙◌, subst, inl, inr, arith}
use Rattle.std.specs.List.{Contains, All}
use Rattle.std.proofs.lemmas.Bool.{cases_lt, cases_eq}
use Rattle.std.proofs.lemmas.List.Elements.{Contains-get_or}
use Rattle.pr_net.specs.Shape.{NetShape}
use Rattle.pr_place.specs.declared.course.Course.{Course}
use Rattle.pr_place.specs.declared.lookups.Tables.{Tables}
use Rattle.pr_place.specs.Greedy.{Seat, placed_after, stripe}
use Rattle.pr_place.specs.Registers.{Progress, opened}
use Rattle.pr_place.specs.Tracking.{Tracks, ops_of}
use Rattle.pr_place.specs.Tables.{AreTables, reads_in}
use Rattle.pr_place.specs.Opening.{Waits, Staged, left_of, Received, Opening, noted, readings, AreLists, Woken}
use Rattle.pr_place.specs.Courses.{EachGrew, Opens, Filled}
use Rattle.pr_place.proofs.Rule.{Sound}
use Rattle.pr_place.proofs.Stages.{so_far}
use Rattle.pr_place.proofs.Waking.{opened_tracks}
use Rattle.pr_place.proofs.Opened.{staged_on, readings_are, no_readings, waited_for_none, ready_again, stripe_grows}

pub after_next : (N P : ℕ) (net : NetShape) (s : ℕ) → placed_after N P net (suc s) ≡ stripe N P net s (placed_after N P net s)
unfolding placed_after
after_next N P net s = refl

-- the groups that are received stand among all
pub all_inside : (n : ℕ) (groups : List ℕ) → ((g : ℕ) → Contains groups g → g < n) → All (λ g. g < n) groups
all_inside n groups h = λ k d l. h (get_or groups k d) (Contains-get_or groups k d l)

pub groups_inside : (N P : ℕ) (net : NetShape) (t : Tables) (course : Course) (groups : List ℕ) → Filled N P net t course groups → (g : ℕ) → Contains groups g → g < length net.groups
groups_inside N P net t course groups f g c = (f.received.inside g c).0

-- a group waits for all these readings
pub can_wake : (N P : ℕ) (net : NetShape) (t : Tables) (course : Course) (groups : List ℕ) → AreTables N P net t → Filled N P net t course groups → (g : ℕ) → readings t g groups ≤ get_or course.waits.items g 0
can_wake N P net t course groups tables f g = elim (cases_lt g (length net.groups)) [
  | inl l ↦
      (let a = readings_are N P net t groups g tables (groups_inside N P net t course groups f) l in
      let b = f.waiting.is g l in
      let d = f.received.counted t.cells.owner.items (reads_in t g) in
      omega (arith, a, b, d))
  | inr past ↦ (let a = no_readings N P net t groups g tables (groups_inside N P net t course groups f) past in omega (arith, a))
]

pub few_stages : (N P : ℕ) (net : NetShape) (t : Tables) (course : Course) (groups : List ℕ) → AreTables N P net t → Filled N P net t course groups → course.stage ≤ 32768
few_stages N P net t course groups tables f =
    let all = so_far N P net course.stage f.each in
    let few = tables.fixed.net_is.few_groups in
    omega (arith, all, few)

-- ---- the next stripe opens
tracks_on : (N P : ℕ) (net : NetShape) (t : Tables) (stage : ℕ) (placed : List Seat) (s : Progress) → Sound N P net stage placed → Tracks N P net t.cells.first.items t.cells.kept.items (ops_of t.plans) stage placed s
    → Tracks N P net t.cells.first.items t.cells.kept.items (ops_of t.plans) (suc stage) placed (opened s)
tracks_on N P net t stage placed s sound h =
    let on = opened_tracks N P net t.cells.first.items t.cells.kept.items (ops_of t.plans) stage placed s sound h in
    subst (λ (n : ℕ). Tracks N P net t.cells.first.items t.cells.kept.items (ops_of t.plans) (suc stage) placed (record { table = s.table; taken = replicate n false; spots = s.spots })) (sym h.taken_long) on

waits_on : (N P : ℕ) (net : NetShape) (t : Tables) (course : Course) (groups now : List ℕ) → AreTables N P net t → Filled N P net t course groups → length now ≡ length course.waits.items → ((g : ℕ) → get_or now g 0 + readings t g groups ≡ get_or course.waits.items g 0)
    → Waits net t.cells.owner.items (ops_of t.plans) (placed_after N P net (suc course.stage)) now
waits_on N P net t course groups now tables f long counted = record {
  long = long ∙ f.waiting.long;
  is = λ g l.
      let a = readings_are N P net t groups g tables (groups_inside N P net t course groups f) l in
      let b = f.waiting.is g l in
      let d = f.received.counted t.cells.owner.items (reads_in t g) in
      let e = counted g in
      omega (arith, a, b, d, e);
}

-- what the calls have made of the course
pub record Next (N P : ℕ) (net : NetShape) (t : Tables) (course next : Course) (groups ready : List ℕ) : Type 0 where
  pub stage : next.stage ≡ course.stage + 1
  pub left : next.left ≡ course.left - length groups
  pub progress : next.progress ≡ opened course.progress
  pub stages : next.stages.items ≡ noted course.stage course.stages.items groups
  pub ready_is : ready ≡ course.candidates.ready.items
  pub lists : AreLists t.class.items next.waits.items next.candidates
  pub long : length next.waits.items ≡ length course.waits.items
  pub counted : (g : ℕ) → get_or next.waits.items g 0 + readings t g groups ≡ get_or course.waits.items g 0
  pub woken : Woken t.class.items course.waits.items ready next.waits.items next.candidates.ready.items

pub opens_next : (N P : ℕ) (net : NetShape) (t : Tables) (course next : Course) (groups ready : List ℕ) → AreTables N P net t → Filled N P net t course groups → 0 < length groups → Next N P net t course next groups ready → Opens N P net t next
opens_next N P net t course next groups ready tables f some h =
    let stage = course.stage in
    let start = placed_after N P net stage in
    let placed = placed_after N P net (suc stage) in
    let e : suc stage ≡ next.stage = (let q = h.stage in omega (arith, q)) in
    let sound : Sound N P net stage placed = f.filled.sound in
    let spots : length next.progress.spots ≡ length course.progress.spots = ap (λ (s : Progress). length s.spots) h.progress in
    let uses : length next.progress.table.uses ≡ length course.progress.table.uses = ap (λ (s : Progress). length s.table.uses) h.progress in
    let before = f.received.candidates course.waits.items f.ready in
    let none = waited_for_none N P net t t.class.items f.before course.candidates.ready.items groups stage start placed tables sound f.received in
    let again = ready_again net t.class.items course.waits.items next.waits.items course.candidates.ready.items next.candidates.ready.items placed tables.fixed.class_small (λ g l y. f.waiting.is g l ∙ none g l y) before (subst (λ (r : List ℕ). Woken t.class.items course.waits.items r next.waits.items next.candidates.ready.items) h.ready_is h.woken) in
    let opening : Opening N P net t next.progress next.candidates.ready.items next.candidates.summary.items next.waits.items next.stages.items (suc stage) placed = record {
      uses_long = uses ∙ f.filled.uses_long ∙ sym spots;
      ready_long = h.lists.ready ∙ h.long ∙ f.waiting.long;
      blocks = h.lists.blocks;
      covered = h.lists.covered;
      tracks = subst (λ (s : Progress). Tracks N P net t.cells.first.items t.cells.kept.items (ops_of t.plans) (suc stage) placed s) (sym h.progress) (tracks_on N P net t stage placed course.progress sound f.filled.tracks);
      candidates = again;
      waiting = waits_on N P net t course groups next.waits.items tables f h.long h.counted;
      standing = subst (Staged net placed) (sym h.stages) (staged_on net t.class.items stage start placed f.before course.candidates.ready.items groups course.stages.items (λ k c. (sound.cell k c).group) f.received f.standing);
    } in
    let grows : length start < length placed = subst (λ (ps : List Seat). length start < length ps) (sym (after_next N P net stage)) (stripe_grows N P net stage t.class.items f.before course.candidates.ready.items groups start (subst (λ (ps : List Seat). Received net t.class.items stage start ps f.before course.candidates.ready.items groups) (after_next N P net stage) f.received) some) in
    record {
      spots = spots ∙ f.spots;
      opening = subst (λ (k : ℕ). Opening N P net t next.progress next.candidates.ready.items next.candidates.summary.items next.waits.items next.stages.items k (placed_after N P net k)) e opening;
      left = subst (λ (k : ℕ). next.left ≡ left_of net (placed_after N P net k)) e (let a = h.left in let b = f.left in let d = f.received.left in omega (arith, a, b, d));
      each = subst (EachGrew N P net) e (λ s l. elim (cases_eq s stage) [
        | inl q ↦ subst (λ (k : ℕ). length (placed_after N P net k) < length (placed_after N P net (suc k))) (sym q) grows
        | inr ne ↦ f.each s (grind (arith, l, ne))
      ]);
    }

-- as many are left as were, but for the groups received
pub fewer_left : (N P : ℕ) (net : NetShape) (t : Tables) (course : Course) (groups : List ℕ) → Filled N P net t course groups → length groups ≤ course.left
fewer_left N P net t course groups f = (let b = f.left in let d = f.received.left in omega (arith, b, d))
