-- The nodes of the stages, with one more unit.
use Rattle.std.proofs.Common.{◌≡◌, ◌≢◌, ◌∙◌, ◌<◌, ◌≤◌, ◌+◌, ◌∷◌, ◌++◌, ℕ, true, false, List, [], length, take, drop, replicate, refl, sym, ap, append_assoc, append-nil, arith, inl, inr, length-set, get_or-set_same, get_or-set_other}
use Rattle.std.specs.Prelude.{slice_index, slice_index_or, slice_set}
use Rattle.std.specs.Global.{Vec}
use Rattle.std.proofs.lemmas.Bool.{cases_Bool, cases_eq, lt-ltb, ne_eqb, eq-eqb}
use Rattle.std.proofs.lemmas.List.{at_drop_all, at_drop_more, drop_all, get_or-map, get_or-replicate, length-map, length-replicate, map-set, take_all}
use Rattle.std.proofs.lemmas.List.FromFn.{fill_by_all}
use Rattle.pr_net.specs.declared.cells.Cell.{Cell}
use Rattle.pr_lens_graph.specs.declared.naming.Names.{Names}
use Rattle.pr_lens_graph.specs.Nodes.{Gain, last_of, node_in, node_text, nodes_by_stage, nodes_from, stands_in, texts_of}

-- ---- one unit
module _ (stages : List ℕ) (number : ℕ) (within : number < length stages) (stage : ℕ) where
  stands_here : slice_index stages number ≡ stage → stands_in stages stage number ≡ true
  stands_here is = rw (lt-ltb number (length stages) within) (eq-eqb (slice_index stages number) stage is)

  stands_elsewhere : slice_index stages number ≢ stage → stands_in stages stage number ≡ false
  stands_elsewhere other = rw (lt-ltb number (length stages) within) (ne_eqb (slice_index stages number) stage other)

module _ (names : Names) (stages : List ℕ) (number : ℕ) (cells : List Cell) (texts : List (Vec ℕ)) (text now : Vec ℕ) where
  pub node_gained : number < length stages → slice_index stages number < length texts → now.items ≡ (slice_index_or texts (slice_index stages number) text).items ++ node_text names number cells
      → Gain (node_in names stages number cells) texts (slice_set texts (slice_index stages number) now)
  node_gained within low put =
      let at : ℕ = slice_index stages number in
      let items = λ (t : Vec ℕ). t.items in
      let set_is : texts_of (slice_set texts at now) ≡ slice_set (texts_of texts) at now.items = map-set items texts at now in
      record {
        size = length-set texts at now;
        gained = λ stage few. elim (cases_eq at stage) [
          | inl here ↦ (
              let stands = stands_here stages number within stage here in
              let long : at < length (texts_of texts) = omega (arith, length-map texts items, low) in
              let new : slice_index_or (texts_of (slice_set texts at now)) at [] ≡ now.items = ap (λ (l : List (List ℕ)). slice_index_or l at []) set_is ∙ get_or-set_same (texts_of texts) at now.items [] long in
              let old : slice_index_or (texts_of texts) at [] ≡ (slice_index_or texts at text).items = get_or-map items texts at text [] low in
              rw (stands, ← here) (new ∙ (put ∙ ap (λ (l : List ℕ). l ++ node_text names number cells) (sym old))))
          | inr other ↦ (
              let stands = stands_elsewhere stages number within stage other in
              rw stands (ap (λ (l : List (List ℕ)). slice_index_or l stage []) set_is
              ∙ (get_or-set_other (texts_of texts) at stage now.items [] (λ e. other (sym e)) ∙ sym (append-nil (slice_index_or (texts_of texts) stage [])))))
        ];
      }

-- ---- units
nodes_split : (names : Names) (number : ℕ) (cells : List Cell) (rest : List (List Cell)) (stages : List ℕ) (stage : ℕ)
    → nodes_from names number (cells ∷ rest) stages stage ≡ node_in names stages number cells stage ++ nodes_from names (number + 1) rest stages stage
unfolding nodes_from
nodes_split names number cells rest stages stage = elim (cases_Bool (stands_in stages stage number)) [
  | inl here ↦ rw here refl
  | inr other ↦ rw other refl
]

-- each stage has gained what makes, with the nodes of the units from this number on, the nodes of all units
pub record GainsSoFar (names : Names) (units : List (List Cell)) (stages : List ℕ) (number : ℕ) (first texts : List (Vec ℕ)) : Type 0 where
  pub size : length texts ≡ length first
  pub gained : (stage : ℕ) → stage < length first
      → slice_index_or (texts_of texts) stage [] ++ nodes_from names number (drop number units) stages stage ≡ slice_index_or (texts_of first) stage [] ++ nodes_from names 0 units stages stage

module _ (names : Names) (units : List (List Cell)) (stages : List ℕ) (number : ℕ) (first texts : List (Vec ℕ)) (gains : GainsSoFar names units stages number first texts) where
  pub units_more : (cells d : List Cell) (now : List (Vec ℕ)) → number < length units → cells ≡ slice_index_or units number d → Gain (node_in names stages number cells) texts now
      → GainsSoFar names units stages (number + 1) first now
  units_more cells d now lt is gain = record {
    size = gain.size ∙ gains.size;
    gained = λ stage low.
        let old : List ℕ = slice_index_or (texts_of texts) stage [] in
        let node : List ℕ = node_in names stages number cells stage in
        let rest : List ℕ = nodes_from names (number + 1) (drop (number + 1) units) stages stage in
        let split : nodes_from names number (drop number units) stages stage ≡ node ++ rest =
        at_drop_more (λ (us : List (List Cell)). nodes_from names number us stages stage) units number d lt
        ∙ (ap (λ (x : List Cell). nodes_from names number (x ∷ drop (number + 1) units) stages stage) (sym is) ∙ nodes_split names number cells (drop (number + 1) units) stages stage) in
        ap (λ (l : List ℕ). l ++ rest) (gain.gained stage (omega (arith, gains.size, low)))
        ∙ (append_assoc old node rest ∙ (ap (λ (l : List ℕ). old ++ l) (sym split) ∙ gains.gained stage low));
  }

  pub units_done : length units ≤ number → Gain (nodes_from names 0 units stages) first texts
  unfolding nodes_from
  units_done le = record {
    size = gains.size;
    gained = λ stage low.
        let none : nodes_from names number (drop number units) stages stage ≡ [] = at_drop_all (λ (us : List (List Cell)). nodes_from names number us stages stage) units number le in
        sym (append-nil (slice_index_or (texts_of texts) stage [])) ∙ (ap (λ (l : List ℕ). slice_index_or (texts_of texts) stage [] ++ l) (sym none) ∙ gains.gained stage low);
  }

-- ---- stages
module _ (names : Names) (units : List (List Cell)) (stages : List ℕ) (count : ℕ) (old now : List (Vec ℕ)) where
  pub stages_filled : count ≡ last_of stages + 1 → texts_of old ≡ replicate count [] → Gain (nodes_from names 0 units stages) old now → texts_of now ≡ nodes_by_stage names units stages
  stages_filled is empty gain =
      let items = λ (t : Vec ℕ). t.items in
      let long : length old ≡ count = sym (length-map old items) ∙ (ap length empty ∙ length-replicate count []) in
      let size : length (texts_of now) ≡ last_of stages + 1 = length-map now items ∙ (gain.size ∙ (long ∙ is)) in
      fill_by_all (nodes_from names 0 units stages) (texts_of now) (last_of stages + 1) [] size
      (λ k low.
      let few : k < count = omega (arith, is, low) in
      let none : slice_index_or (texts_of old) k [] ≡ [] = ap (λ (l : List (List ℕ)). slice_index_or l k []) empty ∙ get_or-replicate count k [] [] few in
      gain.gained k (omega (arith, long, few)) ∙ ap (λ (l : List ℕ). l ++ nodes_from names 0 units stages k) none)

-- what a vector has after its elements were written
pub kept_whole : (old now : List (Vec ℕ)) (n : ℕ) → n ≡ length old → length now ≡ length old → take n (now ++ drop (length now) old) ≡ now
kept_whole old now n is same =
    ap (λ (l : List (Vec ℕ)). take n (now ++ l)) (drop_all (length now) old (omega (arith, same)))
    ∙ (ap (take n) (append-nil now) ∙ take_all n now (omega (arith, is, same)))
