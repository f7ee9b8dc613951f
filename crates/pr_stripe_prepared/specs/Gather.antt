-- Bytes that are gathered from a row and a state.
use Rattle.std.specs.Prelude.{◌≡◌, ◌<◌, ℕ, ◌+◌, ◌-◌, ◌*◌, List, [], ◌∷◌, slice_index, slice_index_or, bit_or, nat_le, if◌then◌else◌}
use Rattle.pr_stripe_prepared.specs.declared.stages.Term.{Term}
use Rattle.pr_stripe_prepared.specs.declared.stages.Gather.{Gather}
use Rattle.pr_conf.specs.declared.pes.Source.{Source}

-- the byte at a place of a row from `from` on; a place from 128 on is none
abbrev pub looked : ℕ → ℕ → List ℕ → ℕ
looked place from row = if nat_le 128 place then 0 else slice_index row (from + place)

-- what lane k has where it has x so far, after these terms
abbrev pub with_terms : ℕ → List ℕ → ℕ → List Term → ℕ
with_terms k row x [] = x
with_terms k row x (t ∷ ts) = with_terms k row (bit_or x (looked (slice_index t.picks k) t.from row)) ts

-- lane k before the terms
abbrev pub begun_byte : Gather → List ℕ → List ℕ → ℕ → ℕ
begun_byte g state made k = let known = bit_or (slice_index g.known k) (looked (slice_index g.states k) 0 state) in
    if g.has_here then bit_or known (looked (slice_index g.heres k) 0 made) else known

-- lane k of all that is gathered
abbrev pub gathered_byte : Gather → List ℕ → List ℕ → List ℕ → ℕ → ℕ
gathered_byte g row state made k = with_terms k row (begun_byte g state made k) g.terms.items

-- the byte of a source, where these are the outputs of the columns
abbrev pub seen_byte : List ℕ → List ℕ → List ℕ → Source → ℕ
seen_byte row state made (Source.Const k) = k
seen_byte row state made (Source.Prev col reg) = slice_index row ((reg - 1) * 16 + col)
seen_byte row state made (Source.Here col) = slice_index made col
seen_byte row state made (Source.State col) = slice_index state col
seen_byte row state made (Source.Bus place) = slice_index row place

-- what is gathered is the byte of each of 32 sources
abbrev pub Gathers : Gather → List Source → Type 0
Gathers g sources = (k : ℕ) (d : Source) (row st made : List ℕ) → k < 32 → gathered_byte g row st made k ≡ seen_byte row st made (slice_index_or sources k d)
