-- Cycles that a window shows, with one cycle more.
use Rattle.std.proofs.Common.{◌≡◌, ◌+◌, ◌-◌, ◌<◌, ◌≤◌, ◌++◌, ◌∷◌, ◌∙◌, ◌&&◌, [], ℕ, Bool, true, false, if◌then◌else◌, List, length, drop, inl, inr, refl, sym, ap, arith, eqb-true, eq-eqb, true≢false, length-drop}
use Rattle.std.specs.Prelude.{nat_eq, nat_lt, nat_le}
use Rattle.std.specs.List.{prefix_len}
use Rattle.std.proofs.lemmas.Bool.{cases_Bool}
use Rattle.std.proofs.lemmas.List.{drop-append-le, drop_at, length_push}
use Rattle.std.proofs.lemmas.List.Folds.{prefix_len-append}
use Rattle.std.proofs.lemmas.List.Sums.{prefix_len-drop_all, prefix_len-le-length}
use Rattle.pr_lens_log.specs.declared.lines.Logged.{Logged}
use Rattle.pr_lens_log.specs.declared.windows.Part.{Part}
use Rattle.pr_lens_log.specs.declared.windows.Side.{Side}
use Rattle.pr_lens_log.specs.declared.windows.Side.TheVariants.{Before, Within, Behind}
use Rattle.pr_lens_log.specs.declared.windows.Window.{Window}
use Rattle.pr_lens_log.specs.Windows.{before_window, in_window, is_early, is_timely, part_of, part_with, side_of}

-- ---- a part is within the cycles
pub start_within : (window : Window) (cycles : List Logged) → before_window window cycles ≤ length cycles
start_within window cycles = prefix_len-le-length (is_early window.from) cycles

pub end_within : (window : Window) (cycles : List Logged) → before_window window cycles + in_window window cycles ≤ length cycles
end_within window cycles =
    let start = start_within window cycles in
    let few = prefix_len-le-length (is_timely window.to) (drop (before_window window cycles) cycles) in
    omega (arith, start, few, length-drop (before_window window cycles) cycles)

-- ---- the side by the four tests
abbrev side : Bool → Bool → Bool → Bool → Side
side first early last timely = if first && early then Before else if last && timely then Within else Behind

same_part : (a b c d : ℕ) → a ≡ c → b ≡ d → ◌≡◌ {A = Part} (record { start = a; end = b }) (record { start = c; end = d })
same_part a b c d h k = λ i. record { start = h i; end = k i }

unlike : (a b : ℕ) → nat_eq a b ≡ false → a ≡ b → ⊥
unlike a b h e = true≢false (sym (eq-eqb a b e) ∙ h)

pub other_test : (a b : ℕ) → (a ≡ b → ⊥) → nat_eq a b ≡ false
other_test a b ne = elim (cases_Bool (nat_eq a b)) [ inl e ↦ absurd (ne (eqb-true a b e)) | inr e ↦ e ]

-- ---- one cycle more
module _ (window : Window) (cycles : List Logged) (logged : Logged) where
  abbrev early_test : Logged → Bool
  early_test = is_early window.from

  abbrev timely_test : Logged → Bool
  timely_test = is_timely window.to

  abbrev first : ℕ
  first = before_window window cycles

  abbrev shown : ℕ
  shown = in_window window cycles

  abbrev count : ℕ
  count = length cycles

  abbrev all : List Logged
  all = cycles ++ logged ∷ []

  abbrev by_tests : Bool → Bool → Bool → Bool → Part
  by_tests a b c d = part_with (side a b c d) count (part_of window cycles)

  -- the cycles stand all before the part, and so does this one
  all_before : nat_eq first count ≡ true → early_test logged ≡ true
      → part_of window all ≡ by_tests (nat_eq first count) (early_test logged) (nat_eq (first + shown) count) (timely_test logged)
  all_before here early =
      let start : before_window window all ≡ count + 1 = prefix_len-append early_test cycles (logged ∷ []) ∙ (λ i. if here i then count + (if early i then 1 else 0) else first) in
      let behind : in_window window all ≡ 0 = prefix_len-drop_all timely_test all (before_window window all) (omega (arith, start, length_push cycles logged)) in
      same_part (before_window window all) (before_window window all + in_window window all) (count + 1) (count + 1) start (omega (arith, start, behind))
      ∙ sym (λ i. by_tests (here i) (early i) (nat_eq (first + shown) count) (timely_test logged))

  -- this one is the first that is not before the part
  first_here : nat_eq first count ≡ true → early_test logged ≡ false
      → part_of window all ≡ by_tests (nat_eq first count) (early_test logged) (nat_eq (first + shown) count) (timely_test logged)
  first_here here early =
      let is : first ≡ count = eqb-true first count here in
      let none : shown ≡ 0 = prefix_len-drop_all timely_test cycles first (omega (arith, is)) in
      let start : before_window window all ≡ count + 0 = prefix_len-append early_test cycles (logged ∷ []) ∙ (λ i. if here i then count + (if early i then 1 else 0) else first) in
      let rest : drop (before_window window all) all ≡ logged ∷ [] = drop_at cycles (logged ∷ []) (before_window window all) (omega (arith, start)) in
      let one : in_window window all ≡ (if timely_test logged then 1 else 0) = ap (prefix_len timely_test) rest in
      let last : nat_eq (first + shown) count ≡ true = eq-eqb (first + shown) count (omega (arith, is, none)) in
      elim (cases_Bool (timely_test logged)) [
        | inl timely ↦ (
            let more : in_window window all ≡ 1 = one ∙ (λ i. if timely i then 1 else 0) in
            same_part (before_window window all) (before_window window all + in_window window all) first (count + 1) (omega (arith, start, is)) (omega (arith, start, more))
            ∙ sym (λ i. by_tests (here i) (early i) (last i) (timely i)))
        | inr late ↦ (
            let more : in_window window all ≡ 0 = one ∙ (λ i. if late i then 1 else 0) in
            same_part (before_window window all) (before_window window all + in_window window all) first (first + shown) (omega (arith, start, is)) (omega (arith, start, more, none, is))
            ∙ sym (λ i. by_tests (here i) (early i) (last i) (late i)))
      ]

  -- the part has begun
  begun : nat_eq first count ≡ false
      → part_of window all ≡ by_tests (nat_eq first count) (early_test logged) (nat_eq (first + shown) count) (timely_test logged)
  begun there =
      let within = start_within window cycles in
      let ne = unlike first count there in
      let less : first < count = omega (arith, within, ne) in
      let start : before_window window all ≡ first = prefix_len-append early_test cycles (logged ∷ []) ∙ (λ i. if there i then count + (if early_test logged then 1 else 0) else first) in
      let rest : drop (before_window window all) all ≡ drop first cycles ++ logged ∷ [] = ap (λ n. drop n all) start ∙ drop-append-le first cycles (logged ∷ []) (omega arith) in
      let size : length (drop first cycles) ≡ count - first = length-drop first cycles in
      let more : in_window window all ≡ (if nat_eq shown (length (drop first cycles)) then length (drop first cycles) + (if timely_test logged then 1 else 0) else shown) =
      ap (prefix_len timely_test) rest ∙ prefix_len-append timely_test (drop first cycles) (logged ∷ []) in
      elim (cases_Bool (nat_eq (first + shown) count)) [
        | inl last ↦ (
            let is : first + shown ≡ count = eqb-true (first + shown) count last in
            let full : nat_eq shown (length (drop first cycles)) ≡ true = eq-eqb shown (length (drop first cycles)) (omega (arith, is, size)) in
            elim (cases_Bool (timely_test logged)) [
              | inl timely ↦ (
                  let end : in_window window all ≡ length (drop first cycles) + 1 = more ∙ (λ i. if full i then length (drop first cycles) + (if timely i then 1 else 0) else shown) in
                  same_part (before_window window all) (before_window window all + in_window window all) first (count + 1) start (omega (arith, start, end, size, less))
                  ∙ sym (λ i. by_tests (there i) (early_test logged) (last i) (timely i)))
              | inr late ↦ (
                  let end : in_window window all ≡ length (drop first cycles) + 0 = more ∙ (λ i. if full i then length (drop first cycles) + (if late i then 1 else 0) else shown) in
                  same_part (before_window window all) (before_window window all + in_window window all) first (first + shown) start (omega (arith, start, end, size, is, less))
                  ∙ sym (λ i. by_tests (there i) (early_test logged) (last i) (late i)))
            ])
        | inr over ↦ (
            let differs = unlike (first + shown) count over in
            let stops : nat_eq shown (length (drop first cycles)) ≡ false = other_test shown (length (drop first cycles)) (λ e. differs (omega (arith, e, size, less))) in
            let end : in_window window all ≡ shown = more ∙ (λ i. if stops i then length (drop first cycles) + (if timely_test logged then 1 else 0) else shown) in
            same_part (before_window window all) (before_window window all + in_window window all) first (first + shown) start (omega (arith, start, end))
            ∙ sym (λ i. by_tests (there i) (early_test logged) (over i) (timely_test logged)))
      ]

  -- the part with one cycle more is the one that the code makes
  pub part_more : part_of window all ≡ part_with (side_of window count (part_of window cycles) logged.time) count (part_of window cycles)
  part_more = elim (cases_Bool (nat_eq first count)) [
    | inl here ↦ elim (cases_Bool (early_test logged)) [ inl early ↦ all_before here early | inr late ↦ first_here here late ]
    | inr there ↦ begun there
  ]

-- ---- what a side says of the part
module _ (window : Window) (count : ℕ) (part : Part) (time : ℕ) where
  before_parts : (a b c d : Bool) → side a b c d ≡ Before → a ≡ true
  before_parts true b c d h = refl
  before_parts false b true true h = cc
  before_parts false b true false h = cc
  before_parts false b false d h = cc

  within_parts : (a b c d : Bool) → side a b c d ≡ Within → c ≡ true
  within_parts a b true d h = refl
  within_parts true true false d h = cc
  within_parts true false false d h = cc
  within_parts false b false d h = cc

  pub side_before : side_of window count part time ≡ Before → part.start ≡ count
  side_before h = eqb-true part.start count (before_parts (nat_eq part.start count) (nat_lt time window.from) (nat_eq part.end count) (nat_le time window.to) h)

  pub side_within : side_of window count part time ≡ Within → part.end ≡ count
  side_within h = eqb-true part.end count (within_parts (nat_eq part.start count) (nat_lt time window.from) (nat_eq part.end count) (nat_le time window.to) h)
