-- The assignments of stages and ports, one more each time.
use Rattle.std.proofs.Common.{◌≡◌, ◌++◌, ◌+◌, ◌*◌, ◌<◌, ◌≤◌, ◌∙◌, ℕ, suc, Bool, List, [], ◌∷◌, length, map, drop, get_or, refl, sym, ap, arith, append_assoc}
use Rattle.std.specs.List.{flat_map}
use Rattle.std.proofs.lemmas.List.{at_drop_all, at_drop_more, append-nil, length-append}
use Rattle.pr_conf.specs.declared.pes.Pe.{Pe}
use Rattle.pr_conf.specs.declared.stages.Stage.{Stage}
use Rattle.pr_conf.specs.declared.outputs.Tap.{Tap}
use Rattle.pr_conf.specs.declared.outputs.Output.{Output}
use Rattle.pr_conf.specs.Configuration.{pes_of}
use Rattle.pr_lens_rtl.specs.declared.vectors.Part.{Part}
use Rattle.pr_lens_rtl.specs.declared.vectors.Net.{Net}
use Rattle.pr_lens_rtl.specs.Verilog.{Assign}
use Rattle.pr_lens_rtl.specs.Module.{enabled, passed_expr, passed_registers, pe_wires, pes_wires, row_registers, stage_registers, stages_registers, stages_wires, state_register, state_registers, tap_wires}
use Rattle.pr_lens_rtl_terms.specs.Terms.{out_wire, output_taps}
use Rattle.pr_lens_rtl_terms.proofs.WalkLemmas.{Walks}

-- ---- a stage
pub pes_walk : (N s : ℕ) → Walks {X = Pe} {Y = Assign} (λ i xs. pes_wires N s i xs) (λ i x. pe_wires N s i x)
pes_walk N s = record { none = λ i. refl; more = λ i x xs. refl }

pub states_walk : (s : ℕ) → Walks {X = Pe} {Y = Assign} (λ i xs. state_registers s i xs) (λ i x. state_register s i x ∷ [])
states_walk s = record { none = λ i. refl; more = λ i x xs. refl }

pub bank_walk : (s reg place : ℕ) → Walks {X = Pe} {Y = Assign} (λ i xs. passed_registers s reg i (place + i) xs) (λ i x. enabled (Net.Of Part.Row s (place + i)) (passed_expr s reg i (place + i) x) ∷ [])
bank_walk s reg place = record {
  none = λ i. refl;
  more = λ i x xs. ap (λ n. enabled (Net.Of Part.Row s (place + i)) (passed_expr s reg i (place + i) x) ∷ passed_registers s reg (suc i) n xs) (let e : suc (place + i) ≡ place + suc i = omega arith in e);
}

-- one register more
pub rows_more : (N s count : ℕ) (pes : List Pe) (front now : List Assign) → now ≡ front ++ row_registers N s count pes
    → now ++ passed_registers s (count + 1) 0 (count * N) pes ≡ front ++ row_registers N s (count + 1) pes
rows_more N s count pes front now h =
    let e : count + 1 ≡ suc count = omega arith in
    ap (λ n. now ++ passed_registers s n 0 (count * N) pes) e
    ∙ ap (λ z. z ++ passed_registers s (suc count) 0 (count * N) pes) h
    ∙ append_assoc front (row_registers N s count pes) (passed_registers s (suc count) 0 (count * N) pes)
    ∙ ap (λ n. front ++ row_registers N s n pes) (sym e)

-- ---- outputs
pub taps_walk : (N last place : ℕ) → Walks {X = Tap} {Y = Assign} (λ i xs. tap_wires N last (place + i) xs) (λ i x. out_wire N last (place + i) x ∷ [])
taps_walk N last place = record {
  none = λ i. refl;
  more = λ i x xs. ap (λ n. out_wire N last (place + i) x ∷ tap_wires N last n xs) (let e : suc (place + i) ≡ place + suc i = omega arith in e);
}

taps_both : (N last k : ℕ) (xs ys : List Tap) → tap_wires N last k (xs ++ ys) ≡ tap_wires N last k xs ++ tap_wires N last (k + length xs) ys
taps_both N last k [] ys = ap (λ n. tap_wires N last n ys) (let e : k ≡ k + 0 = omega arith in e)
taps_both N last k (x ∷ xs) ys =
    ap (λ z. out_wire N last k x ∷ z)
    (taps_both N last (suc k) xs ys ∙ ap (λ n. tap_wires N last (suc k) xs ++ tap_wires N last n ys) (let e : suc k + length xs ≡ k + suc (length xs) = omega arith in e))

-- one output more
pub outputs_more : (N last place : ℕ) (now whole : List Assign) (outs : List Output) (i : ℕ) (d o : Output) → i < length outs → o ≡ get_or outs i d
    → now ++ tap_wires N last place (flat_map output_taps (drop i outs)) ≡ whole
    → (now ++ tap_wires N last place o.taps.items) ++ tap_wires N last (place + length o.taps.items) (flat_map output_taps (drop (i + 1) outs)) ≡ whole
outputs_more N last place now whole outs i d o lt is h =
    let rest = flat_map output_taps (drop (i + 1) outs) in
    append_assoc now (tap_wires N last place o.taps.items) (tap_wires N last (place + length o.taps.items) rest)
    ∙ ap (λ z. now ++ z) (sym (taps_both N last place o.taps.items rest))
    ∙ ap (λ (q : Output). now ++ tap_wires N last place (q.taps.items ++ rest)) is
    ∙ sym (at_drop_more (λ z. now ++ tap_wires N last place (flat_map output_taps z)) outs i d lt) ∙ h

pub outputs_done : (N last place : ℕ) (now whole : List Assign) (outs : List Output) (i : ℕ) → length outs ≤ i
    → now ++ tap_wires N last place (flat_map output_taps (drop i outs)) ≡ whole → now ≡ whole
outputs_done N last place now whole outs i le h =
    sym (append-nil now) ∙ sym (at_drop_all (λ z. now ++ tap_wires N last place (flat_map output_taps z)) outs i le) ∙ h

-- the places that are left
pub places_more : (outs : List Output) (i : ℕ) (d o : Output) → i < length outs → o ≡ get_or outs i d
    → length (flat_map output_taps (drop i outs)) ≡ length o.taps.items + length (flat_map output_taps (drop (i + 1) outs))
places_more outs i d o lt is =
    at_drop_more (λ z. length (flat_map output_taps z)) outs i d lt
    ∙ ap (λ (q : Output). length (q.taps.items ++ flat_map output_taps (drop (i + 1) outs))) (sym is)
    ∙ length-append o.taps.items (flat_map output_taps (drop (i + 1) outs))
