-- Stages as whole rows, one more at a time.
use Rattle.std.proofs.Common.{◌≡◌, ℕ, zero, suc, ◌+◌, ◌/◌, ◌%◌, ◌==◌, ◌++◌, ◌<◌, ◌∙◌, List, [], ◌∷◌, map, refl, sym, ap, arith, false, if◌then◌else◌, Option, None, IfSome, length, get_or, subst}
use Rattle.std.proofs.lemmas.List.{get_or-map, get_or_default}
use Rattle.pr_conf.specs.declared.pes.Pe.{Pe}
use Rattle.pr_conf.specs.declared.stages.Stage.{Stage}
use Rattle.pr_conf.specs.Configuration.{pes_of}
use Rattle.pr_conf.specs.Shape.{Shape}
use Rattle.pr_conf.specs.After.{begun, all_begun, with_states}
use Rattle.pr_conf.proofs.AfterLaws.{length-begun}
use Rattle.pr_stripe_prepared.specs.declared.stages.Prepared.{Prepared}
use Rattle.pr_stripe_prepared.specs.Prepared.{ReadsColumn, MakesColumn, IsPrepared}
use Rattle.pr_stripe_prepared.specs.Elements.{is_chain, low_mask, zero_mask}
use Rattle.pr_stripe_prepared.specs.Rounds.{IsOrdered}
use Rattle.pr_machine.specs.Ready.{IsReady, AreReady}

one_more : (R : ℕ → Option Prepared → Type 0) (xs : List (Option Prepared)) (x : Option Prepared) → ((s : ℕ) → R s None) → ((s : ℕ) → R s (get_or xs s None)) → R (length xs) x → (s : ℕ) → R s (get_or (xs ++ x ∷ []) s None)
one_more R [] x none all at zero = at
one_more R [] x none all at (suc s) = none (suc s)
one_more R (y ∷ ys) x none all at zero = all zero
one_more R (y ∷ ys) x none all at (suc s) = one_more (λ k. R (suc k)) ys x (λ k. none (suc k)) (λ k. all (suc k)) at s

pub none_ready : (registers : ℕ) (pes : List Pe) → IsReady registers pes None
none_ready registers pes q e = absurd (let z = e in cc)

pub some_ready : (registers : ℕ) (pes : List Pe) (o : Option Prepared) → IfSome o (λ q. IsPrepared q pes registers) → IsReady registers pes o
some_ready registers pes o h q e = subst (λ x. IfSome x (λ (p : Prepared). IsPrepared p pes registers)) e h

pub ready_more : (registers : ℕ) (stages : List (List Pe)) (prepared : List (Option Prepared)) (o : Option Prepared) → AreReady registers stages prepared → IsReady registers (get_or stages (length prepared) []) o → AreReady registers stages (prepared ++ o ∷ [])
ready_more registers stages prepared o all at = one_more (λ s x. IsReady registers (get_or stages s []) x) prepared o (λ s. none_ready registers (get_or stages s [])) all at

-- the elements of stage k, beside which as many rows stand
pub next_ready : {N : ℕ} (registers : ℕ) (stages stages' : List (Stage N)) (k n : ℕ) (item : Stage N) (o : Option Prepared) → stages' ≡ stages → n ≡ k → k < length stages → item ≡ get_or stages' k item → IsReady registers item.pes.items o → IsReady registers (get_or (map (pes_of {N = N}) stages) n []) o
next_ready {N = N} registers stages stages' k n item o es en h is ready =
    subst (λ p. IsReady registers p o) (sym (ap (λ j. get_or (map (pes_of {N = N}) stages) j []) en ∙ get_or-map (pes_of {N = N}) stages k item [] h ∙ ap (pes_of {N = N}) (sym (is ∙ ap (λ xs. get_or xs k item) es)))) ready

pub same_ready : (registers : ℕ) (stages : List (List Pe)) (old new : List (Option Prepared)) → new ≡ old → AreReady registers stages old → AreReady registers stages new
same_ready registers stages old new e h = subst (AreReady registers stages) (sym e) h

-- the rows of one stage
pub ready_at : (registers : ℕ) (stages : List (List Pe)) (prepared : List (Option Prepared)) (s : ℕ) (pes : List Pe) (o : Option Prepared) → AreReady registers stages prepared → s < length prepared → get_or stages s [] ≡ pes → o ≡ get_or prepared s o → IsReady registers pes o
ready_at registers stages prepared s pes o all h ep eo =
    subst (λ p. IsReady registers p o) ep (subst (λ x. IsReady registers (get_or stages s []) x) (get_or_default prepared s None o h ∙ sym eo) (all s))

-- ---- stages that begin in other states
begun_at : (pes : List Pe) (st : List ℕ) (k : ℕ) (d : Pe) → (b : ℕ) × (get_or (begun pes st) k d ≡ record (get_or pes k d) { init = b })
begun_at [] st k d = (d.init, refl)
begun_at (pe ∷ pes) [] k d = ((get_or (pe ∷ pes) k d).init, refl)
begun_at (pe ∷ pes) (b ∷ st) zero d = (b, refl)
begun_at (pe ∷ pes) (b ∷ st) (suc k) d = begun_at pes st k d

reads_begun : (q : Prepared) (k : ℕ) (pe : Pe) (b : ℕ) → ReadsColumn q k pe → ReadsColumn q k (record pe { init = b })
reads_begun q k pe b r = record { a = r.a; hi = r.hi; lo = r.lo; c = r.c; shift = r.shift; few = r.few; unshifted = r.unshifted; read = r.read; bit = r.bit; unread = r.unread; carry = r.carry; uncarried = r.uncarried }

makes_begun : (q : Prepared) (pes : List Pe) (st : List ℕ) (k : ℕ) (pe : Pe) (b : ℕ) → MakesColumn q pes k pe → MakesColumn q (begun pes st) k (record pe { init = b })
makes_begun q pes st k pe b m = record {
  off = m.off;
  on = m.on;
  without = m.without;
  sums = m.sums;
  none = m.none;
  low = λ d. m.low d ∙ ap (λ (p : Pe). low_mask pe.mode (if suc k == 16 then false else is_chain p.cin)) (sym (begun_at pes st (suc k) d).1);
  tests = λ d. m.tests d ∙ ap (λ (p : Pe). zero_mask pe.mode (if suc k == 16 then false else is_chain p.cin)) (sym (begun_at pes st (suc k) d).1);
  cin = m.cin;
  takes_c = m.takes_c;
  mask = m.mask;
  to_output = m.to_output;
  to_a = m.to_a;
  keeps = m.keeps;
}

ordered_begun : (levels : List ℕ) (rounds k : ℕ) (pe : Pe) (b : ℕ) → IsOrdered levels rounds k pe → IsOrdered levels rounds k (record pe { init = b })
ordered_begun levels rounds k pe b o = record { before = o.before; a = o.a; hi = o.hi; lo = o.lo; c = o.c; chain = o.chain }

-- rows do not know in which state their stage begins
prepared_begun : (q : Prepared) (pes : List Pe) (st : List ℕ) (registers : ℕ) → IsPrepared q pes registers → IsPrepared q (begun pes st) registers
prepared_begun q pes st registers p = record {
  long = length-begun pes st ∙ p.long;
  reads = λ k d h. let e = begun_at pes st k d in subst (ReadsColumn q k) (sym e.1) (reads_begun q k (get_or pes k d) e.0 (p.reads k d h));
  makes = λ k d h. let e = begun_at pes st k d in subst (MakesColumn q (begun pes st) k) (sym e.1) (makes_begun q pes st k (get_or pes k d) e.0 (p.makes k d h));
  ordered = λ k d h. let e = begun_at pes st k d in subst (IsOrdered q.levels q.rounds k) (sym e.1) (ordered_begun q.levels q.rounds k (get_or pes k d) e.0 (p.ordered k d h));
  marks = λ j d h. p.marks j d h ∙ ap (λ (x : Pe). if x.write == j / 16 + 1 then 255 else 0) (sym (begun_at pes st (j % 16) d).1);
  reach = p.reach;
  marks_row = p.marks_row;
  output_row = p.output_row;
  a_row = p.a_row;
}

begun_stage : (states : ℕ → List ℕ) (k s : ℕ) (stages : List (List Pe)) → get_or (all_begun states k stages) s [] ≡ begun (get_or stages s []) (states (k + s))
begun_stage states k s [] = refl
begun_stage states k zero (pes ∷ stages) = let e : k ≡ k + 0 = omega arith in ap (λ n. begun pes (states n)) e
begun_stage states k (suc s) (pes ∷ stages) =
    let e : k + 1 + s ≡ k + suc s = omega arith in
    begun_stage states (k + 1) s stages ∙ ap (λ n. begun (get_or stages s []) (states n)) e

pub ready_begun : (registers : ℕ) (old new : Shape) (states : ℕ → List ℕ) (prepared : List (Option Prepared)) → new ≡ with_states old states → AreReady registers old.stages prepared → AreReady registers new.stages prepared
ready_begun registers old new states prepared e all s =
    subst (λ (c : Shape). IsReady registers (get_or c.stages s []) (get_or prepared s None)) (sym e)
    (subst (λ pes. IsReady registers pes (get_or prepared s None)) (sym (begun_stage states 0 s old.stages)) (λ q h. prepared_begun q (get_or old.stages s []) (states (0 + s)) registers (all s q h)))
