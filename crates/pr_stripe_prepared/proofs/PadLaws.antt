-- A stage makes the same of two rows that have the same byte at every place, as a sample and the sample with zeros behind it.
use Rattle.std.proofs.Common.{◌≡◌, ℕ, ◌+◌, ◌-◌, ◌*◌, ◌≤◌, ◌++◌, List, [], ◌∷◌, length, drop, get_or, replicate, refl, sym, ap, ◌∙◌, arith, inl, inr}
use Rattle.std.proofs.lemmas.Bool.{cases_lt}
use Rattle.std.proofs.lemmas.List.{get_or_append_left, get_or-append_right, get_or_past}
use Rattle.std.proofs.lemmas.List.{drop-replicate}
use Rattle.std.proofs.lemmas.Simd.{get_or-replicate, length-replicate}
use Rattle.std.specs.Int.{bit_at}
use Rattle.pr_base.specs.Pe.{PeResult, shifted, carry_in, next_state}
use Rattle.pr_conf.specs.declared.pes.Source.{Source}
use Rattle.pr_conf.specs.declared.pes.Bit.{Bit}
use Rattle.pr_conf.specs.declared.pes.Pe.{Pe}
use Rattle.pr_conf.specs.StageMap.{made_from, pe_made, last_carry, source_byte, source_bit, c_of, states_from, state_map}
use Rattle.pr_stripe_prepared.proofs.RoundLaws.{same_made}

module _ (n : ℕ) (row wide st : List ℕ) (same : (i : ℕ) → get_or row i 0 ≡ get_or wide i 0) where
  same_byte : (columns : List PeResult) (s : Source) → source_byte n (record { row = row; state = st; columns = columns }) s ≡ source_byte n (record { row = wide; state = st; columns = columns }) s
  same_byte columns (Source.Const k) = refl
  same_byte columns (Source.Prev c reg) = same ((reg - 1) * n + c)
  same_byte columns (Source.Here c) = refl
  same_byte columns (Source.State c) = refl
  same_byte columns (Source.Bus place) = same place

  same_bit : (columns : List PeResult) (c : Bit) → source_bit n (record { row = row; state = st; columns = columns }) c ≡ source_bit n (record { row = wide; state = st; columns = columns }) c
  same_bit columns Bit.None = refl
  same_bit columns (Bit.Of s place) = ap (λ x. bit_at x place) (same_byte columns s)
  same_bit columns Bit.CarryIn = refl

  same_c : (columns : List PeResult) (c : Bit) (cin cin' : ℕ) → cin ≡ cin' → c_of n (record { row = row; state = st; columns = columns }) c cin ≡ c_of n (record { row = wide; state = st; columns = columns }) c cin'
  same_c columns Bit.None cin cin' e = refl
  same_c columns (Bit.Of s place) cin cin' e = ap (λ x. bit_at x place) (same_byte columns s)
  same_c columns Bit.CarryIn cin cin' e = e

  same_pe_made : (columns : List PeResult) (pe : Pe) → pe_made n (record { row = row; state = st; columns = columns }) pe ≡ pe_made n (record { row = wide; state = st; columns = columns }) pe
  same_pe_made columns pe =
      let into = ap (carry_in pe.cin (last_carry columns)) (same_bit columns pe.c) in
      same_made pe.mode pe.table pe.mask _ _ _ _ _ _ _ _ (same_byte columns pe.a)
      (ap (λ x. shifted x (source_byte n (record { row = row; state = st; columns = columns }) pe.lo) pe.shift) (same_byte columns pe.hi) ∙ ap (λ x. shifted (source_byte n (record { row = wide; state = st; columns = columns }) pe.hi) x pe.shift) (same_byte columns pe.lo))
      (same_c columns pe.c _ _ into) into

  pub same_made_from : (columns : List PeResult) (pes : List Pe) → made_from n row st columns pes ≡ made_from n wide st columns pes
  same_made_from columns [] = refl
  same_made_from columns (pe ∷ pes) = ap (λ m. made_from n row st (columns ++ m ∷ []) pes) (same_pe_made columns pe) ∙ same_made_from (columns ++ pe_made n (record { row = wide; state = st; columns = columns }) pe ∷ []) pes

  same_states : (all : List PeResult) (pes : List Pe) (columns : List PeResult) (old : List ℕ) → states_from n (record { row = row; state = st; columns = all }) pes columns old ≡ states_from n (record { row = wide; state = st; columns = all }) pes columns old
  same_states all [] columns old = refl
  same_states all (pe ∷ pes) [] old = refl
  same_states all (pe ∷ pes) (m ∷ columns) [] = refl
  same_states all (pe ∷ pes) (m ∷ columns) (x ∷ old) =
      ap (λ a. next_state pe.next x m.output a ∷ states_from n (record { row = row; state = st; columns = all }) pes columns old) (same_byte all pe.a)
      ∙ ap (λ xs. next_state pe.next x m.output (source_byte n (record { row = wide; state = st; columns = all }) pe.a) ∷ xs) (same_states all pes columns old)

  pub same_state_map : (pes : List Pe) → state_map n pes st row ≡ state_map n pes st wide
  same_state_map pes =
      ap (λ all. states_from n (record { row = row; state = st; columns = all }) pes all st) (same_made_from [] pes)
      ∙ same_states (made_from n wide st [] pes) pes (made_from n wide st [] pes) st

short : (k j : ℕ) {n : ℕ} → n ≡ k → k ≤ j → n ≤ j
short k j e h = omega arith

zeros_at : (k j : ℕ) → ◌≡◌ {A = ℕ} (get_or (replicate k 0) j 0) 0
zeros_at k j = elim (cases_lt j k) as (λ _. ◌≡◌ {A = ℕ} (get_or (replicate k 0) j 0) 0) [
  | inl h ↦ get_or-replicate k j 0 0 h
  | inr h ↦ get_or_past (replicate k 0) j 0 (short k j (length-replicate k 0) h)
]

-- zeros behind a row show at no place
pub padded : (row : List ℕ) (k i : ℕ) → get_or row i 0 ≡ get_or (row ++ replicate k 0) i 0
padded row k i = elim (cases_lt i (length row)) as (λ _. get_or row i 0 ≡ get_or (row ++ replicate k 0) i 0) [
  | inl h ↦ sym (get_or_append_left row (replicate k 0) 0 i h)
  | inr h ↦ get_or_past row i 0 h ∙ sym (get_or-append_right row (replicate k 0) (length row) i 0 refl h ∙ zeros_at k (i - length row))
]

-- a row of zeros whose front is written
pub front_padded : (n : ℕ) (row new : List ℕ) → new ≡ row → new ++ drop (length row) (replicate n 0) ≡ row ++ replicate (n - length row) 0
front_padded n row new e = ap (λ xs. xs ++ drop (length row) (replicate n 0)) e ∙ ap (λ xs. row ++ xs) (drop-replicate (length row) n 0)
