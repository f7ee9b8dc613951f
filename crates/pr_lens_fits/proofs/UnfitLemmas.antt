-- What is told of a group, and of which net.
use Rattle.std.proofs.Common.{◌≡◌, ◌∙◌, ◌<◌, ◌+◌, ◌-◌, ◌^◌, ℕ, Bool, true, false, Some, List, length, min, take, get_or, sum_by, refl, sym, ap, subst, inr, arith}
use Rattle.std.specs.Prelude.{IsTrue, IsFalse}
use Rattle.std.proofs.lemmas.List.{take_more}
use Rattle.std.proofs.lemmas.List.Sums.{sum_by_push}
use Rattle.pr_lang.specs.declared.trees.Program.{Program}
use Rattle.pr_flat.specs.declared.equations.Operand.{Operand}
use Rattle.pr_flat.specs.declared.flat.Flat.{Flat}
use Rattle.pr_flat.specs.Flats as flats
use Rattle.pr_flat.specs.Shape.{EquationShape}
use Rattle.pr_flat.specs.Widths.{AreWidths}
use Rattle.pr_net.specs.Shape.{NetShape, cells_of}
use Rattle.pr_narrow.specs.Narrowed.{AreNarrowed}
use Rattle.pr_base.specs.declared.caps.Cap.{Cap}
use Rattle.pr_cut_units.specs.Flats.{flat_net}
use Rattle.pr_cut_units.specs.Nets.{net_of, limit_passed}
use Rattle.pr_expand_spec.specs.Programs.{equations_of}
use Rattle.pr_compile_front.specs.Passed.{HasEquations}
use Rattle.pr_compile.specs.Configured.{OfReadyBy, net_by}
use Rattle.pr_compile.proofs.Ready.{whole_ready, narrowed_ready}
use Rattle.pr_lens_fits.specs.declared.groups.Unfit.{Unfit}
use Rattle.pr_lens_fits.specs.Unfits.{AreTold, IsReadyOf, IsUnfit, HasUnfit, PassesLimit, IsNothing, cell_count}

-- ---- cells
-- one unit more, as far as 64 bits count
pub sum_more : (f : ℕ → ℕ) (units : List ℕ) (i u d : ℕ) → i < length units → u ≡ get_or units i d
    → min (min (sum_by f (take i units)) (2 ^ 64 - 1) + f u) (2 ^ 64 - 1) ≡ min (sum_by f (take (i + 1) units)) (2 ^ 64 - 1)
sum_more f units i u d within is =
    let more : sum_by f (take (i + 1) units) ≡ sum_by f (take i units) + f u = ap (λ (us : List ℕ). sum_by f us) (take_more units i d within) ∙ (sum_by_push f (take i units) (get_or units i d) ∙ ap (λ (k : ℕ). sum_by f (take i units) + f k) (sym is)) in
    capped (sum_by f (take i units)) (f u) (sum_by f (take (i + 1) units)) (2 ^ 64 - 1) more
  where
    capped : (a b c most : ℕ) → c ≡ a + b → min (min a most + b) most ≡ min c most
    capped a b c most e = omega (arith, e)

pub count_more : (net : NetShape) (units : List ℕ) (i u d : ℕ) → i < length units → u ≡ get_or units i d
    → min (cell_count net (take i units) + length (cells_of net u)) (2 ^ 64 - 1) ≡ cell_count net (take (i + 1) units)
count_more net = sum_more (λ k. length (cells_of net k))

-- ---- the equations of which a net is made
pub ready_told : (narrowed : Bool) (program : Program) (flat : Flat) (widths : List ℕ) (ready : Flat) (news : List ℕ) → HasEquations program flat → AreWidths (equations_of program).equations widths
    → (IsTrue narrowed → AreNarrowed (flats.equations_of flat) flat.outputs.items widths (flats.equations_of ready) news)
    → (IsFalse narrowed → (ready ≡ flat) × (news ≡ widths)) → ready.outputs.items ≡ flat.outputs.items
    → OfReadyBy narrowed program widths (λ es ws. AreTold ready news es ws (equations_of program).outputs)
ready_told true program flat widths ready news h all narrow whole outputs =
    narrowed_ready (λ es ws qs. AreTold ready news es ws qs) program flat widths h all ready news (narrow refl) outputs (record { equations = refl; widths_are = refl; outputs_are = refl })
ready_told false program flat widths ready news h all narrow whole outputs =
    whole_ready (λ es ws qs. AreTold ready news es ws qs) program flat widths h all
    (record { equations = ap (λ (f : Flat). flats.equations_of f) (whole refl).0; widths_are = (whole refl).1; outputs_are = outputs })

-- what holds of them holds of the program's
pub of_told : (Holds : List EquationShape → List ℕ → List Operand → Type 0) (narrowed : Bool) (program : Program) (given : List ℕ) (flat : Flat) (widths : List ℕ)
    → OfReadyBy narrowed program given (λ ready news. AreTold flat widths ready news (equations_of program).outputs) → Holds (flats.equations_of flat) widths flat.outputs.items
    → OfReadyBy narrowed program given (λ ready news. Holds ready news (equations_of program).outputs)
of_told Holds narrowed program given flat widths are is = record {
  flat = are.flat;
  widths_are = are.widths_are;
  ready = are.ready;
  news = are.news;
  are = are.are;
  holds = subst (λ (qs : List Operand). Holds are.ready are.news qs) are.holds.outputs_are
      (subst (λ (ws : List ℕ). Holds are.ready ws flat.outputs.items) are.holds.widths_are
      (subst (λ (es : List EquationShape). Holds es widths flat.outputs.items) are.holds.equations is));
}

-- the same of their net
pub of_net : (Holds : NetShape → Type 0) (narrowed : Bool) (program : Program) (given : List ℕ) (flat : Flat) (widths : List ℕ)
    → OfReadyBy narrowed program given (λ ready news. AreTold flat widths ready news (equations_of program).outputs) → Holds (net_of (flats.equations_of flat) widths flat.outputs.items)
    → OfReadyBy narrowed program given (λ ready news. Holds (net_by program ready news))
of_net Holds = of_told (λ es ws qs. Holds (net_of es ws qs))

pub has_unfit : (narrowed : Bool) (text : List ℕ) (flat : Flat) (widths : List ℕ) (unit : ℕ) (found : Unfit) → IsReadyOf narrowed text flat widths → IsUnfit (flat_net flat widths) unit found → HasUnfit narrowed text unit found
has_unfit narrowed text flat widths unit found r is = record {
  program = r.program;
  given = r.given;
  has = r.has;
  are = of_net (λ net. IsUnfit net unit found) narrowed r.program r.given flat widths r.are is;
}

pub passes : (columns : ℕ) (narrowed : Bool) (text : List ℕ) (flat : Flat) (widths : List ℕ) (which : Cap) → IsReadyOf narrowed text flat widths → limit_passed columns (flat_net flat widths) ≡ Some which → PassesLimit columns narrowed text which
passes columns narrowed text flat widths which r is = record {
  program = r.program;
  given = r.given;
  has = r.has;
  are = of_net (λ net. limit_passed columns net ≡ Some which) narrowed r.program r.given flat widths r.are is;
}

pub nothing : (columns : ℕ) (narrowed : Bool) (text : List ℕ) (flat : Flat) (widths : List ℕ) (which : Cap) (found : Unfit) → IsReadyOf narrowed text flat widths → limit_passed columns (flat_net flat widths) ≡ Some which
    → found.item ≡ 0 → found.columns ≡ 0 → found.kept ≡ 0 → IsNothing columns narrowed text found
nothing columns narrowed text flat widths which found r is item columns_are kept = record {
  item = item;
  columns_are = columns_are;
  kept = kept;
  why = inr (which, passes columns narrowed text flat widths which r is);
}
