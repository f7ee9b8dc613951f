-- The words of the line of a cycle.
use Rattle.std.proofs.Common.{◌≡◌, ◌<◌, ◌≤◌, ◌^◌, ◌∙◌, ℕ, true, false, if◌then◌else◌, List, [], ◌∷◌, ◌++◌, length, Option, Some, None, codes, decimal, refl, sym, ap, arith, append_assoc}
use Rattle.std.specs.List.{flat_map}
use Rattle.pr_conf.specs.declared.turns.Turn.{Turn}
use Rattle.pr_log.specs.Lines.{configured_text, cycle_line_of, entry_text, hex_byte, line_of, saved_text, stall_line_of}
use Rattle.pr_lens_log.specs.declared.lines.Logged.{Logged}
use Rattle.pr_lens_log.specs.Lines.{IsCycleLine}
use Rattle.pr_lens_log.specs.Words.{AreBytes, AreShort, HasNone, IsCut, IsLong, IsShort, row_text}
use Rattle.pr_lens_log.proofs.WordLaws.{decimal_none, hex_none, no_blank, no_feed, none_append, none_by_test, number_other}

-- ---- what stands behind the words
abbrev pub behind_entered : Turn → List ℕ
behind_entered turn = codes "out" ++ 32 ∷ (entry_text turn.left ++ 10 ∷ [])

abbrev pub behind_saved : Turn → List ℕ
behind_saved turn = codes "in" ++ 32 ∷ (entry_text turn.entered ++ 32 ∷ behind_entered turn)

abbrev pub behind_configured : Turn → List ℕ → List ℕ
behind_configured turn state = codes "save" ++ 32 ∷ (saved_text turn.saved state ++ 32 ∷ behind_saved turn)

abbrev pub behind_time : Turn → List ℕ → List ℕ
behind_time turn state = codes "conf" ++ 32 ∷ (configured_text turn.configured ++ 32 ∷ behind_configured turn state)

pub cycle_parts : (turn : Turn) (time : ℕ) (state : List ℕ) → cycle_line_of turn time state ≡ codes "cycle" ++ 32 ∷ (decimal time ++ 32 ∷ behind_time turn state)
cycle_parts turn time state = simp append_assoc

pub cycle_is : (bytes : List ℕ) (logged : Logged) (line : IsCycleLine bytes logged) → logged.turn.advanced ≡ true
    → bytes ≡ codes "cycle" ++ 32 ∷ (decimal logged.time ++ 32 ∷ behind_time logged.turn line.state)
cycle_is bytes logged line advanced =
    line.is
    ∙ (ap (λ b. if b then cycle_line_of logged.turn logged.time line.state else stall_line_of logged.time) advanced
    ∙ cycle_parts logged.turn logged.time line.state)

pub stall_is : (bytes : List ℕ) (logged : Logged) (line : IsCycleLine bytes logged) → logged.turn.advanced ≡ false
    → bytes ≡ codes "stall" ++ 32 ∷ (decimal logged.time ++ 10 ∷ [])
stall_is bytes logged line stalled =
    line.is
    ∙ ap (λ b. if b then cycle_line_of logged.turn logged.time line.state else stall_line_of logged.time) stalled

-- ---- words without blanks
pub configured_none : (c : Option (ℕ × ℕ)) → AreShort c → HasNone 32 (configured_text c)
configured_none None short = none_by_test 32 (codes "-") refl
configured_none (Some (stage, stripe)) short =
    let few : stage < 2 ^ 64 = omega (arith, short.0) in
    let also : stripe < 2 ^ 64 = omega (arith, short.1) in
    none_append 32 (decimal stage ++ codes "@") (decimal stripe)
    (none_append 32 (decimal stage) (codes "@") (decimal_none 32 stage few no_blank) (none_by_test 32 (codes "@") refl))
    (decimal_none 32 stripe also no_blank)

pub entry_none_blank : (e : Option ℕ) → IsLong e → HasNone 32 (entry_text e)
entry_none_blank None long = none_by_test 32 (codes "-") refl
entry_none_blank (Some n) long = decimal_none 32 n long no_blank

pub entry_none_feed : (e : Option ℕ) → IsLong e → HasNone 10 (entry_text e)
entry_none_feed None long = none_by_test 10 (codes "-") refl
entry_none_feed (Some n) long = decimal_none 10 n long no_feed

-- ---- the saved state
-- a hyphen
pub saved_none : (words rest : List ℕ) → words ≡ saved_text None [] ++ 32 ∷ rest → IsCut 32 words (codes "-") rest
saved_none words rest is = record { is = is; none = none_by_test 32 (codes "-") refl }

-- a stage and its row
pub saved_some : (words state rest : List ℕ) (stage : ℕ) → stage < 2 ^ 32 → words ≡ saved_text (Some stage) state ++ 32 ∷ rest
    → IsCut 32 words (decimal stage) (flat_map hex_byte state ++ 32 ∷ rest)
saved_some words state rest stage short is =
    let few : stage < 2 ^ 64 = omega arith in
    record {
      is = is ∙ (append_assoc (decimal stage ++ codes " ") (flat_map hex_byte state) (32 ∷ rest) ∙ append_assoc (decimal stage) (codes " ") (flat_map hex_byte state ++ 32 ∷ rest));
      none = decimal_none 32 stage few no_blank;
    }

pub row_cut : (state rest : List ℕ) → IsCut 32 (flat_map hex_byte state ++ 32 ∷ rest) (flat_map hex_byte state) rest
row_cut state rest = record { is = refl; none = hex_none state }

module _ (words before tail : List ℕ) (cut : (a b : List ℕ) → IsCut 32 words a b → (before ≡ a) × (tail ≡ b)) where
  pub saved_hyphen : (stage : Option ℕ) (state rest : List ℕ) → before ≡ codes "-" → IsShort stage → words ≡ saved_text stage state ++ 32 ∷ rest
      → (None ≡ stage) × ([] ≡ row_text stage state) × (tail ≡ rest)
  saved_hyphen None state rest hyphen short is = (refl, refl, (cut (codes "-") rest (saved_none words rest is)).1)
  saved_hyphen (Some stage) state rest hyphen short is =
      let few : stage < 2 ^ 64 = omega (arith, short) in
      absurd (number_other stage few (sym (cut (decimal stage) (flat_map hex_byte state ++ 32 ∷ rest) (saved_some words state rest stage short is)).0 ∙ hyphen))

  pub saved_stage : (row behind : List ℕ) (r : ℕ) (stage : Option ℕ) (state rest : List ℕ) → (before ≡ codes "-" → ⊥)
      → ((a b : List ℕ) → IsCut 32 tail a b → (row ≡ a) × (behind ≡ b)) → ((n : ℕ) → n < 2 ^ 32 → before ≡ decimal n → r ≡ n)
      → IsShort stage → words ≡ saved_text stage state ++ 32 ∷ rest
      → (Some r ≡ stage) × (row ≡ row_text stage state) × (behind ≡ rest)
  saved_stage row behind r None state rest other next reads short is = absurd (other (cut (codes "-") rest (saved_none words rest is)).0)
  saved_stage row behind r (Some stage) state rest other next reads short is =
      let parts = cut (decimal stage) (flat_map hex_byte state ++ 32 ∷ rest) (saved_some words state rest stage short is) in
      let more = next (flat_map hex_byte state) rest (record { is = parts.1; none = hex_none state }) in
      (ap Some (reads stage short parts.0), more.0, more.1)

-- ---- what is printed again
-- the row is that of the state, where one was saved
pub saved_same : (saved stage : Option ℕ) (digits row state : List ℕ) → saved ≡ stage → digits ≡ row_text stage state
    → ((s : List ℕ) → length s ≤ 64 → AreBytes s → digits ≡ flat_map hex_byte s → row ≡ s) → length state ≤ 64 → AreBytes state
    → saved_text saved row ≡ saved_text stage state
saved_same saved None digits row state same is reads few bytes = ap (λ s. saved_text s row) same
saved_same saved (Some stage) digits row state same is reads few bytes =
    let read = reads state few bytes is in
    λ i. saved_text (same i) (read i)

abbrev five : (time configured saved entered left : List ℕ) → List ℕ
five time configured saved entered left =
    codes "cycle " ++ time ++ codes " conf " ++ configured ++ codes " save " ++ saved ++ codes " in " ++ entered ++ codes " out " ++ left ++ codes "\n"

module _ (bytes : List ℕ) (logged : Logged) (line : IsCycleLine bytes logged) where
  pub cycle_again : (configured : Option (ℕ × ℕ)) (saved entered left : Option ℕ) (time : ℕ) (row : List ℕ) → logged.turn.advanced ≡ true
      → time ≡ logged.time → configured ≡ logged.turn.configured → saved_text saved row ≡ saved_text logged.turn.saved line.state
      → entered ≡ logged.turn.entered → left ≡ logged.turn.left
      → bytes ≡ line_of (record { advanced = true; configured = configured; saved = saved; entered = entered; left = left }) time row
  cycle_again configured saved entered left time row advanced t c s e l =
      line.is
      ∙ (ap (λ b. if b then cycle_line_of logged.turn logged.time line.state else stall_line_of logged.time) advanced
      ∙ sym (λ i. five (decimal (t i)) (configured_text (c i)) (s i) (entry_text (e i)) (entry_text (l i))))

  pub stall_again : (turn : Turn) (time : ℕ) (row : List ℕ) → turn.advanced ≡ false → logged.turn.advanced ≡ false → time ≡ logged.time
      → bytes ≡ line_of turn time row
  stall_again turn time row still stalled t =
      line.is
      ∙ (ap (λ b. if b then cycle_line_of logged.turn logged.time line.state else stall_line_of logged.time) stalled
      ∙ (sym (ap stall_line_of t) ∙ sym (ap (λ b. if b then cycle_line_of turn time row else stall_line_of time) still)))
