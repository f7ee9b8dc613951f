-- The numbers of narrowed equations are those of the equations, cut to the new widths.
use Rattle.std.proofs.lemmas.Nat.{pow_pos}
use Rattle.std.proofs.Common.{is_some, count_by, take, ◌≡◌, ℕ, zero, suc, ◌+◌, ◌-◌, ◌%◌, ◌^◌, ◌<◌, ◌≤◌, ◌⊎◌, inl, inr, Bool, true, false, not, ◌&&◌, Option, Some, None, unwrap_or, cond, List, [], ◌∷◌, length, get_or, nat_eq, nat_lt, map, refl, sym, ◌∙◌, ap, ap₂, subst, arith}
use Rattle.std.specs.List.{slice_get, list_all}
use Rattle.std.specs.Option.{option_map_or}
use Rattle.std.proofs.lemmas.Bool.{cases_lt, and_parts, ltb-true}
use Rattle.std.proofs.lemmas.Bool.Decides.{nat_tests}
use Rattle.std.proofs.lemmas.Option.{slice_get_within}
use Rattle.std.proofs.Math.Nat.{mod-eq_of_lt}
use Rattle.pr_flat.specs.declared.equations.Operand.{Operand}
use Rattle.pr_flat.specs.declared.equations.Operand.TheVariants.{Const, Eq, Past}
use Rattle.pr_flat.specs.declared.equations.Op.{Op}
use Rattle.pr_flat.specs.declared.equations.Op.TheVariants.{Input, Equal, NotEqual, Less, LessEqual, Greater, GreaterEqual, Choose, Left, Right, LeftBy, RightBy, Slice, Cat, Delay, Rec}
use Rattle.pr_flat.specs.declared.forms.Form.{Form}
use Rattle.pr_flat.specs.declared.forms.Point.{Point}
use Rattle.pr_flat.specs.Forms.{IsPoint, value_at, number_width, least_from}
use Rattle.pr_flat.specs.Rows.{takes, forms_of, natural_width}
use Rattle.pr_flat.specs.Shape.{EquationShape, EachEquation}
use Rattle.pr_flat.specs.Facts.{arity, is_lawful_output, is_input, is_rec, is_lawful_operand, IsFlat}
use Rattle.pr_flat.specs.Widths.{operand_width, operand_forms, settled_width, AreWidths}
use Rattle.pr_flat.specs.Laws.{AllHaveWidths, AreSamples}
use Rattle.pr_flat.specs.Values.{output_list, Sight, init_of, initial_of, number_before, operand_number, delayed_number, points_in, operator_number, recurrence_number, first_delayed, number_in, row_of, rows_after, rows_of, HaveWidths}
use Rattle.pr_flat.proofs.NumberLemmas.{row_of-holds, rows_of-have_widths, IsSampleFor-from_IsRow, number_width-holds, initial-holds}
use Rattle.pr_flat.proofs.WidthLemmas.{PastOf, past_of, equation_at}
use Rattle.pr_flat.proofs.ValueLemmas.{row_of-at, forms_of-points_in}
use Rattle.pr_flat_ops.proofs.Residues.{residue_narrower}
use Rattle.pr_narrow.specs.Known.{is_steady}
use Rattle.pr_narrow.specs.Demand.{IsWhole, asked, rounded, Gives, GiveAll, IsServed}
use Rattle.pr_narrow.specs.Narrowed.{narrowed_op, declared_anew, narrowed_shape}
use Rattle.pr_narrow.proofs.Kept.{IsCut, AreCut, kept, shorter, same_bits}

-- ---- widths of numbers
pub number_width-bounds : (c : ℕ) → (1 ≤ number_width c) × (number_width c ≤ 64)
unfolding number_width
number_width-bounds c = found 64 1 (λ w. nat_lt c (2 ^ w)) (omega arith) (omega arith) where
  found : (k at : ℕ) (test : ℕ → Bool) → 1 ≤ at → at + k ≤ 65 → (1 ≤ unwrap_or (least_from k at test) 64) × (unwrap_or (least_from k at test) 64 ≤ 64)
  found zero at test low high = (omega arith, omega arith)
  found (suc k) at test low high = by_test (test at) (found k (at + 1) test (omega arith) (omega arith)) where
    by_test : (b : Bool) → (1 ≤ unwrap_or (least_from k (at + 1) test) 64) × (unwrap_or (least_from k (at + 1) test) 64 ≤ 64) → (1 ≤ unwrap_or (cond b (Some at) (least_from k (at + 1) test)) 64) × (unwrap_or (cond b (Some at) (least_from k (at + 1) test)) 64 ≤ 64)
    by_test true later = (low, omega arith)
    by_test false later = later

-- ---- what holds between equations, what is demanded of them, and the narrowed equations
abbrev pub has_own_width : Op → Bool
has_own_width Input = false
has_own_width (Delay c) = false
has_own_width op = true

pub record AreCutTo (old new : List EquationShape) (widths news demand : List ℕ) : Type 0 where
  pub each : EachEquation old (λ i e. slice_get new i ≡ Some (narrowed_shape (get_or demand i 0) (get_or news i 0) e))
  pub within : (i : ℕ) → 0 < get_or demand i 0 → i < length old
  pub least : (i : ℕ) → 0 < get_or demand i 0 → get_or demand i 0 ≤ get_or news i 0
  pub most : (i : ℕ) → 0 < get_or demand i 0 → get_or news i 0 ≤ get_or widths i 0
  pub input : EachEquation old (λ i e. e.op ≡ Input → get_or news i 0 ≡ get_or widths i 0)
  pub delay : EachEquation old (λ i e. (c : ℕ) (a : Operand) → e.op ≡ Delay c → e.args ≡ a ∷ [] → 0 < get_or demand i 0 → get_or news i 0 ≡ operand_width news a)
  pub exact : EachEquation old (λ i e. has_own_width e.op ≡ true → 0 < get_or demand i 0 → get_or news i 0 ≡ get_or demand i 0)
  pub served : EachEquation old (λ i e. 0 < get_or demand i 0 → IsServed widths demand e (get_or demand i 0))
  pub lawful : (i : ℕ) → i < length old → (1 ≤ get_or widths i 0) × (get_or widths i 0 ≤ 128)
  pub inputs : (i : ℕ) → count_by (λ (e : EquationShape). is_input e.op) (take i new) ≡ count_by (λ (e : EquationShape). is_input e.op) (take i old)

-- each demanded number of a row, cut to its new width
abbrev pub RowCut : List ℕ → List ℕ → List ℕ → List ℕ → Type 0
RowCut demand news row cut = (i : ℕ) → 0 < get_or demand i 0 → get_or cut i 0 ≡ get_or row i 0 % 2 ^ get_or news i 0

abbrev pub RowsCut : List ℕ → List ℕ → List (List ℕ) → List (List ℕ) → Type 0
RowsCut demand news [] [] = Unit {0}
RowsCut demand news (row ∷ rows) (cut ∷ cuts) = RowCut demand news row cut × RowsCut demand news rows cuts
RowsCut demand news rows cuts = ⊥

-- ---- operands
-- a demand that was met leaves as many bits as are needed, or all
enough_of : (w v d n : ℕ) → rounded w n ≤ d → d ≤ v → v ≤ w → (v ≡ w) ⊎ (n ≤ v)
enough_of w v d n met less few = elim (cases_lt v w) [
  | inl fewer ↦ inr (omega arith)
  | inr all ↦ inl (omega arith)
]

demanded : (w d n : ℕ) → rounded w n ≤ d → 1 ≤ w → 0 < d
demanded w d n met some = omega arith

abbrev point : Bool → ℕ → ℕ → Point
point kind width number = record { form = record { signed = kind; width = width }; number = number }

abbrev IsCutPoint : ℕ → Bool → ℕ → ℕ → ℕ → ℕ → Type 0
IsCutPoint need kind w n v m = IsPoint (point kind w n) × IsCut need (point kind w n) (point kind v m)

cut_of : (need : ℕ) (kind : Bool) (w n v m d : ℕ) → 1 ≤ w → w ≤ 128 → n < 2 ^ w → rounded w need ≤ d → d ≤ v → v ≤ w → m ≡ n % 2 ^ v → IsCutPoint need kind w n v m
cut_of need kind w n v m d some most below met less few same = (record { form = record { positive = some; greatest = most }; below = below }, record { kind = refl; fewer = few; number = same; enough = enough_of w v d need met less few; positive = let more = demanded w d need met some in omega arith })

cut_const : (need : ℕ) (kind : Bool) (c : ℕ) → c < 2 ^ 64 → IsCutPoint need kind (number_width c) c (number_width c) c
cut_const need kind c small =
    let bounds = number_width-bounds c in
    let low = bounds.0 in
    let high = bounds.1 in
    let holds = number_width-holds c small in
    (record { form = record { positive = low; greatest = omega arith }; below = holds }, record { kind = refl; fewer = omega arith; number = sym (mod-eq_of_lt holds); enough = inl refl; positive = low })

-- the number of a recurrence so many rows before
before_cut : (demand news : List ℕ) (rows cuts : List (List ℕ)) (r m a b : ℕ) → RowsCut demand news rows cuts → 0 < get_or demand r 0 → b ≡ a % 2 ^ get_or news r 0 → option_map_or (λ (row : List ℕ). get_or row r 0) (slice_get cuts m) b ≡ option_map_or (λ (row : List ℕ). get_or row r 0) (slice_get rows m) a % 2 ^ get_or news r 0
before_cut demand news [] [] r m a b cut some first = first
before_cut demand news (row ∷ rows) (c ∷ cuts) r zero a b cut some first = cut.0 r some
before_cut demand news (row ∷ rows) (c ∷ cuts) r (suc m) a b cut some first = before_cut demand news rows cuts r m a b cut.1 some first
before_cut demand news [] (c ∷ cuts) r m a b cut some first = absurd cut
before_cut demand news (row ∷ rows) [] r m a b cut some first = absurd cut

-- a demanded equation that is no input
pub narrowed_is : (d w : ℕ) (e : EquationShape) → 0 < d → is_input e.op ≡ false → narrowed_shape d w e ≡ record { op = narrowed_op w e.op; args = e.args; declared = declared_anew e.op w; kinds = e.kinds }
narrowed_is d w e some other =
    let positive : nat_eq d 0 ≡ false = grind (arith, nat_tests) in
    rw (other, positive) refl

initial_cut : (old new : List EquationShape) (widths news demand : List ℕ) (rec init first : ℕ) (e : EquationShape) → AreCutTo old new widths news demand → slice_get old rec ≡ Some e → e.op ≡ Rec init first → 0 < get_or demand rec 0 → initial_of new rec ≡ initial_of old rec % 2 ^ get_or news rec 0
initial_cut old new widths news demand rec init first e cut there op some =
    let w = get_or news rec 0 in
    let value = λ (o : Option EquationShape). option_map_or (λ (d : EquationShape). init_of d.op) o 0 in
    let new_value : initial_of new rec ≡ init % 2 ^ w = ap value (cut.each rec e there) ∙ ap (λ (d : EquationShape). init_of d.op) (narrowed_is (get_or demand rec 0) w e some (ap is_input op)) ∙ ap (λ (o : Op). init_of (narrowed_op w o)) op in
    let old_value : initial_of old rec ≡ init = ap value there ∙ ap init_of op in
    new_value ∙ ap (λ n. n % 2 ^ w) (sym old_value)

-- an operand that was demanded enough
abbrev pub Here : List ℕ → List ℕ → ℕ → List ℕ → List ℕ → Type 0
Here demand news i row cut = (j : ℕ) → j < i → 0 < get_or demand j 0 → get_or cut j 0 ≡ get_or row j 0 % 2 ^ get_or news j 0

cut_operand : (old new : List EquationShape) (widths news demand : List ℕ) (rows cuts : List (List ℕ)) (row crow : List ℕ) (i : ℕ) (kind : Bool) (a : Operand) (need : ℕ) → AreCutTo old new widths news demand → RowsCut demand news rows cuts → Here demand news i row crow → i < length old → is_lawful_operand old i a ≡ true → operand_number old rows row a < 2 ^ operand_width widths a → Gives widths demand a need → IsCutPoint need kind (operand_width widths a) (operand_number old rows row a) (operand_width news a) (operand_number new cuts crow a)
cut_operand old new widths news demand rows cuts row crow i kind (Const c) need cut before here within lawful below gives = cut_const need kind c (ltb-true c (2 ^ 64) lawful)
cut_operand old new widths news demand rows cuts row crow i kind (Eq j) need cut before here within lawful below gives =
    let less : j < i = ltb-true j i lawful in
    let bounds = cut.lawful j (omega arith) in
    let some = demanded (get_or widths j 0) (get_or demand j 0) need gives bounds.0 in
    cut_of need kind (get_or widths j 0) (get_or row j 0) (get_or news j 0) (get_or crow j 0) (get_or demand j 0) bounds.0 bounds.1 below gives (cut.least j some) (cut.most j some) (here j less some)
cut_operand old new widths news demand rows cuts row crow i kind (Past rec k) need cut before here within lawful below gives =
    let p = past_of old i rec k lawful in
    let bounds = cut.lawful rec (slice_get_within old rec p.equation p.there) in
    let some = demanded (get_or widths rec 0) (get_or demand rec 0) need gives bounds.0 in
    let first = initial_cut old new widths news demand rec p.init p.first p.equation cut p.there p.op some in
    cut_of need kind (get_or widths rec 0) (number_before rows rec k (initial_of old rec)) (get_or news rec 0) (number_before cuts rec k (initial_of new rec)) (get_or demand rec 0) bounds.0 bounds.1 below gives (cut.least rec some) (cut.most rec some) (before_cut demand news rows cuts rec (k - 1) (initial_of old rec) (initial_of new rec) before some first)

-- ---- the operands of one equation
abbrev Served : List EquationShape → List EquationShape → List ℕ → List ℕ → List ℕ → List (List ℕ) → List (List ℕ) → List ℕ → List ℕ → ℕ → Type 0
Served old new widths news demand rows cuts row crow i = (kind : Bool) (a : Operand) (need : ℕ) → is_lawful_operand old i a ≡ true → Gives widths demand a need → IsCutPoint need kind (operand_width widths a) (operand_number old rows row a) (operand_width news a) (operand_number new cuts crow a)

cut_points : (old new : List EquationShape) (widths news demand : List ℕ) (rows cuts : List (List ℕ)) (sample row crow : List ℕ) (i : ℕ) (args : List Operand) (kinds : List Bool) (needs : List ℕ) → Served old new widths news demand rows cuts row crow i → list_all (is_lawful_operand old i) args ≡ true → GiveAll widths demand args needs → length kinds ≡ length args → length needs ≡ length args → AreCut needs (points_in (record { equations = old; widths = widths; before = rows; sample = sample; row = row }) args kinds) (points_in (record { equations = new; widths = news; before = cuts; sample = sample; row = crow }) args kinds)
cut_points old new widths news demand rows cuts sample row crow i [] [] [] each lawful gives same also = tt
cut_points old new widths news demand rows cuts sample row crow i (a ∷ args) (kind ∷ kinds) (need ∷ needs) each lawful gives same also =
    let parts = and_parts (is_lawful_operand old i a) (list_all (is_lawful_operand old i) args) lawful in
    let one = each kind a need parts.0 gives.0 in
    (one.0, (one.1, cut_points old new widths news demand rows cuts sample row crow i args kinds needs each parts.1 gives.1 (omega arith) (omega arith)))
cut_points old new widths news demand rows cuts sample row crow i args kinds needs each lawful gives same also = absurd (omega arith)

length-points : (sight : Sight) (args : List Operand) (kinds : List Bool) → length kinds ≡ length args → length (points_in sight args kinds) ≡ length args
length-points sight [] kinds same = refl
length-points sight (a ∷ args) [] same = absurd (omega arith)
length-points sight (a ∷ args) (kind ∷ kinds) same = ap suc (length-points sight args kinds (omega arith))

-- as many demands as operands
pub length-asked : (op : Op) (fs : List Form) (d : ℕ) → length (asked op fs d) ≡ length fs
length-asked Equal (f ∷ g ∷ []) d = refl
length-asked NotEqual (f ∷ g ∷ []) d = refl
length-asked Less (f ∷ g ∷ []) d = refl
length-asked LessEqual (f ∷ g ∷ []) d = refl
length-asked Greater (f ∷ g ∷ []) d = refl
length-asked GreaterEqual (f ∷ g ∷ []) d = refl
length-asked Choose (c ∷ f ∷ g ∷ []) d = refl
length-asked (Left k) (f ∷ []) d = refl
length-asked (Right k) (f ∷ []) d = refl
length-asked LeftBy (f ∷ by ∷ []) d = refl
length-asked RightBy (f ∷ by ∷ []) d = refl
length-asked (Slice high low) (f ∷ []) d = refl
length-asked Cat (f ∷ g ∷ []) d = refl
length-asked op fs d = each fs where
  each : (gs : List Form) → length (map (λ (f : Form). d) gs) ≡ length gs
  each [] = refl
  each (g ∷ gs) = ap suc (each gs)

pub length-forms : (widths : List ℕ) (args : List Operand) (kinds : List Bool) → length kinds ≡ length args → length (operand_forms widths args kinds) ≡ length args
length-forms widths [] kinds same = refl
length-forms widths (a ∷ args) [] same = absurd (omega arith)
length-forms widths (a ∷ args) (kind ∷ kinds) same = ap suc (length-forms widths args kinds (omega arith))

-- ---- one number
pub steady_number : (sight : Sight) (i : ℕ) (op : Op) (args : List Operand) (kinds : List Bool) → is_steady op ≡ true → number_in sight i op args kinds ≡ operator_number (get_or sight.widths i 0) op (points_in sight args kinds)
steady_number sight i Input args kinds steady = absurd (let no : false ≡ true = steady in cc)
steady_number sight i (Delay c) args kinds steady = absurd (let no : false ≡ true = steady in cc)
steady_number sight i (Rec init first) args kinds steady = absurd (let no : false ≡ true = steady in cc)
steady_number sight i op args kinds steady = refl

steady_narrowed : (w : ℕ) (op : Op) → is_steady op ≡ true → is_steady (narrowed_op w op) ≡ true
steady_narrowed w (Slice high low) steady = refl
steady_narrowed w (Rec init first) steady = steady
steady_narrowed w (Delay c) steady = steady
steady_narrowed w op steady = steady

-- ---- numbers of the equations as they were
pub record AreBoth (old new : List EquationShape) (outputs : List Operand) (widths news demand : List ℕ) : Type 0 where
  pub cut : AreCutTo old new widths news demand
  pub flat : IsFlat old outputs
  pub new_flat : IsFlat new outputs
  pub all : AreWidths old widths

past_below : (old : List EquationShape) (outputs : List Operand) (widths : List ℕ) (rows : List (List ℕ)) (i rec k : ℕ) → IsFlat old outputs → AreWidths old widths → AllHaveWidths widths rows → PastOf old i rec → number_before rows rec k (initial_of old rec) < 2 ^ get_or widths rec 0
past_below old outputs widths rows i rec k flat all hold p = by_row (slice_get rows (k - 1)) refl where
  within : rec < length widths
  within = omega (arith, slice_get_within old rec p.equation p.there, all.count)

  initial : initial_of old rec ≡ p.init
  initial = ap (λ (o : Option EquationShape). option_map_or (λ (e : EquationShape). init_of e.op) o 0) p.there ∙ ap init_of p.op

  by_row : (o : Option (List ℕ)) → slice_get rows (k - 1) ≡ o → option_map_or (λ (row : List ℕ). get_or row rec 0) (slice_get rows (k - 1)) (initial_of old rec) < 2 ^ get_or widths rec 0
  by_row None is = rw is (rw initial (initial-holds old outputs widths rec p.init p.first p.equation flat all p.there p.op))
  by_row (Some row) is = rw is (hold (k - 1) row is rec within)

operand_below : (old : List EquationShape) (outputs : List Operand) (widths : List ℕ) (rows : List (List ℕ)) (row : List ℕ) (i : ℕ) (a : Operand) → IsFlat old outputs → AreWidths old widths → AllHaveWidths widths rows → HaveWidths widths row → i < length old → is_lawful_operand old i a ≡ true → operand_number old rows row a < 2 ^ operand_width widths a
operand_below old outputs widths rows row i (Const q) flat all hold here within lawful = number_width-holds q (ltb-true q (2 ^ 64) lawful)
operand_below old outputs widths rows row i (Eq j) flat all hold here within lawful = let less : j < i = ltb-true j i lawful in here j (omega (arith, all.count))
operand_below old outputs widths rows row i (Past rec k) flat all hold here within lawful = past_below old outputs widths rows i rec k flat all hold (past_of old i rec k lawful)

-- an equation that is no open recurrence takes its operands
pub taken : (b : Bool) (o : Option ℕ) (w : ℕ) → cond b o None ≡ Some w → b ≡ true
taken true o w is = refl
taken false o w is = cc

pub steady_closed : (op : Op) (o : Option ℕ) → is_steady op ≡ true → (is_rec op && not (is_some o)) ≡ false
steady_closed Input o steady = refl
steady_closed (Delay c) o steady = refl
steady_closed (Rec init first) o steady = cc
steady_closed op o steady = refl

pub own_width : (op : Op) → is_steady op ≡ true → has_own_width op ≡ true
own_width Input steady = steady
own_width (Delay c) steady = steady
own_width (Rec init first) steady = refl
own_width op steady = refl

-- what a row and the rows before it have
pub record Stand (old : List EquationShape) (widths news demand : List ℕ) (rows cuts : List (List ℕ)) (row crow : List ℕ) (i : ℕ) : Type 0 where
  pub before : RowsCut demand news rows cuts
  pub hold : AllHaveWidths widths rows
  pub here_hold : HaveWidths widths row
  pub here : Here demand news i row crow

served_of : (old new : List EquationShape) (outputs : List Operand) (widths news demand : List ℕ) (rows cuts : List (List ℕ)) (row crow : List ℕ) (i : ℕ) → AreBoth old new outputs widths news demand → Stand old widths news demand rows cuts row crow i → i < length old → Served old new widths news demand rows cuts row crow i
served_of old new outputs widths news demand rows cuts row crow i both s within kind a need lawful gives = cut_operand old new widths news demand rows cuts row crow i kind a need both.cut s.before s.here within lawful (operand_below old outputs widths rows row i a both.flat both.all s.hold s.here_hold within lawful) gives

steady_cut : (old new : List EquationShape) (outputs : List Operand) (widths news demand : List ℕ) (rows cuts : List (List ℕ)) (sample row crow : List ℕ) (i : ℕ) (e : EquationShape) → AreBoth old new outputs widths news demand → Stand old widths news demand rows cuts row crow i → slice_get old i ≡ Some e → is_steady e.op ≡ true → 0 < get_or demand i 0
    → number_in (record { equations = new; widths = news; before = cuts; sample = sample; row = crow }) i (narrowed_op (get_or news i 0) e.op) e.args e.kinds ≡ number_in (record { equations = old; widths = widths; before = rows; sample = sample; row = row }) i e.op e.args e.kinds % 2 ^ get_or news i 0
steady_cut old new outputs widths news demand rows cuts sample row crow i e both s there steady some =
    let w = get_or news i 0 in
    let d = get_or demand i 0 in
    let sight : Sight = record { equations = old; widths = widths; before = rows; sample = sample; row = row } in
    let cut_sight : Sight = record { equations = new; widths = news; before = cuts; sample = sample; row = crow } in
    let exact : w ≡ d = both.cut.exact i e there (own_width e.op steady) some in
    let within = slice_get_within old i e there in
    let bounds = both.cut.lawful i within in
    let most = both.cut.most i some in
    let args_count = both.flat.args i e there in
    let kinds_count = both.flat.kinds i e there in
    let same : length e.kinds ≡ length e.args = kinds_count ∙ sym args_count in
    let forms = operand_forms widths e.args e.kinds in
    let forms_are = forms_of-points_in sight e.args e.kinds in
    let S : ℕ → Type 0 = λ n. GiveAll widths demand e.args (asked e.op forms n) in
    let served : GiveAll widths demand e.args (asked e.op forms w) = subst S (sym exact) (both.cut.served i e there some) in
    let count : length (asked e.op forms w) ≡ length e.args = length-asked e.op forms w ∙ length-forms widths e.args e.kinds same in
    let points = cut_points old new widths news demand rows cuts sample row crow i e.args e.kinds (asked e.op forms w) (served_of old new outputs widths news demand rows cuts row crow i both s within) (both.flat.operands i e there) served same count in
    let C : List Form → Type 0 = λ fs. AreCut (asked e.op fs w) (points_in sight e.args e.kinds) (points_in cut_sight e.args e.kinds) in
    let T : List Form → Type 0 = λ fs. takes e.op fs ≡ true in
    let takes_old = taken (takes e.op forms) (settled_width e.declared (natural_width e.op forms)) (get_or widths i 0) (both.all.each i e there within (steady_closed e.op e.declared steady)) in
    let low : 1 ≤ w = omega arith in
    let high : w ≤ 128 = omega (arith, bounds.1) in
    let one = length-points sight e.args e.kinds same ∙ args_count in
    let other = length-points cut_sight e.args e.kinds same ∙ args_count in
    steady_number cut_sight i (narrowed_op w e.op) e.args e.kinds (steady_narrowed w e.op steady)
    ∙ kept e.op w (points_in sight e.args e.kinds) (points_in cut_sight e.args e.kinds) low high steady one other (subst T (sym forms_are) takes_old) (subst C (sym forms_are) points)
    ∙ sym (ap (λ n. n % 2 ^ w) (steady_number sight i e.op e.args e.kinds steady) ∙ shorter e.op (points_in sight e.args e.kinds) w (get_or widths i 0) most)

-- ---- recurrences
pub one_operand : (args : List Operand) → length args ≡ 1 → (a : Operand) × (args ≡ a ∷ [])
one_operand [] count = absurd (omega arith)
one_operand (a ∷ []) count = (a, refl)
one_operand (a ∷ b ∷ args) count = absurd (omega arith)

recurrence_cut : (w v : ℕ) (old new : List Point) → w ≤ v → AreCut (map (λ (p : Point). w) old) old new → recurrence_number w new ≡ recurrence_number v old % 2 ^ w
recurrence_cut w v [] [] less c = sym (mod-eq_of_lt (pow_pos w))
recurrence_cut w v (a ∷ old) (x ∷ new) less c = same_bits w w a x c.1.0 c.0.below (omega arith) ∙ sym (residue_narrower v w (value_at a) less)
recurrence_cut w v [] (x ∷ new) less c = absurd c
recurrence_cut w v (a ∷ old) [] less c = absurd c

asked_rec : (init first d : ℕ) (points : List Point) → asked (Rec init first) (forms_of points) d ≡ map (λ (p : Point). d) points
asked_rec init first d points = each points where
  each : (ps : List Point) → map (λ (f : Form). d) (forms_of ps) ≡ map (λ (p : Point). d) ps
  each [] = refl
  each (p ∷ ps) = ap (λ ns. d ∷ ns) (each ps)

rec_cut : (old new : List EquationShape) (outputs : List Operand) (widths news demand : List ℕ) (rows cuts : List (List ℕ)) (sample row crow : List ℕ) (i init first : ℕ) (e : EquationShape) → AreBoth old new outputs widths news demand → Stand old widths news demand rows cuts row crow i → slice_get old i ≡ Some e → e.op ≡ Rec init first → 0 < get_or demand i 0
    → number_in (record { equations = new; widths = news; before = cuts; sample = sample; row = crow }) i (narrowed_op (get_or news i 0) e.op) e.args e.kinds ≡ number_in (record { equations = old; widths = widths; before = rows; sample = sample; row = row }) i e.op e.args e.kinds % 2 ^ get_or news i 0
rec_cut old new outputs widths news demand rows cuts sample row crow i init first e both s there op some =
    let w = get_or news i 0 in
    let d = get_or demand i 0 in
    let sight : Sight = record { equations = old; widths = widths; before = rows; sample = sample; row = row } in
    let cut_sight : Sight = record { equations = new; widths = news; before = cuts; sample = sample; row = crow } in
    let exact : w ≡ d = both.cut.exact i e there (ap has_own_width op) some in
    let within = slice_get_within old i e there in
    let most = both.cut.most i some in
    let args_count = both.flat.args i e there in
    let kinds_count = both.flat.kinds i e there in
    let same : length e.kinds ≡ length e.args = kinds_count ∙ sym args_count in
    let forms = operand_forms widths e.args e.kinds in
    let S : ℕ → Type 0 = λ n. GiveAll widths demand e.args (asked e.op forms n) in
    let served : GiveAll widths demand e.args (asked e.op forms w) = subst S (sym exact) (both.cut.served i e there some) in
    let count : length (asked e.op forms w) ≡ length e.args = length-asked e.op forms w ∙ length-forms widths e.args e.kinds same in
    let points = cut_points old new widths news demand rows cuts sample row crow i e.args e.kinds (asked e.op forms w) (served_of old new outputs widths news demand rows cuts row crow i both s within) (both.flat.operands i e there) served same count in
    let C : List ℕ → Type 0 = λ ns. AreCut ns (points_in sight e.args e.kinds) (points_in cut_sight e.args e.kinds) in
    let needs : asked e.op forms w ≡ map (λ (p : Point). w) (points_in sight e.args e.kinds) = ap (λ (o : Op). asked o forms w) op ∙ ap (λ (fs : List Form). asked (Rec init first) fs w) (sym (forms_of-points_in sight e.args e.kinds)) ∙ asked_rec init first w (points_in sight e.args e.kinds) in
    ap (λ (o : Op). number_in cut_sight i (narrowed_op w o) e.args e.kinds) op
    ∙ recurrence_cut w (get_or widths i 0) (points_in sight e.args e.kinds) (points_in cut_sight e.args e.kinds) most (subst C needs points)
    ∙ ap (λ (o : Op). number_in sight i o e.args e.kinds % 2 ^ w) (sym op)

-- ---- delays
delay_cut : (old new : List EquationShape) (outputs : List Operand) (widths news demand : List ℕ) (rows cuts : List (List ℕ)) (sample row crow : List ℕ) (i c : ℕ) (e : EquationShape) → AreBoth old new outputs widths news demand → Stand old widths news demand rows cuts row crow i → slice_get old i ≡ Some e → e.op ≡ Delay c → 0 < get_or demand i 0
    → number_in (record { equations = new; widths = news; before = cuts; sample = sample; row = crow }) i (narrowed_op (get_or news i 0) e.op) e.args e.kinds ≡ number_in (record { equations = old; widths = widths; before = rows; sample = sample; row = row }) i e.op e.args e.kinds % 2 ^ get_or news i 0
delay_cut old new outputs widths news demand rows cuts sample row crow i c e both s there op some =
    ap (λ (o : Op). number_in cut_sight i (narrowed_op w o) e.args e.kinds) op
    ∙ ap (λ (xs : List Operand). first_delayed cut_sight xs (c % 2 ^ w)) args
    ∙ by_rows rows cuts s.before s.hold
    ∙ ap (λ (xs : List Operand). first_delayed sight xs c % 2 ^ w) (sym args)
    ∙ ap (λ (o : Op). number_in sight i o e.args e.kinds % 2 ^ w) (sym op) where
      w : ℕ
      w = get_or news i 0

      sight : Sight
      sight = record { equations = old; widths = widths; before = rows; sample = sample; row = row }

      cut_sight : Sight
      cut_sight = record { equations = new; widths = news; before = cuts; sample = sample; row = crow }

      one : (a : Operand) × (e.args ≡ a ∷ [])
      one = one_operand e.args (both.flat.args i e there ∙ ap arity op)

      a : Operand
      a = one.0

      args : e.args ≡ a ∷ []
      args = one.1

      within : i < length old
      within = slice_get_within old i e there

      width : w ≡ operand_width news a
      width = both.cut.delay i e there c a op args some

      kinds_one : length e.kinds ≡ 1
      kinds_one = both.flat.kinds i e there ∙ ap arity op

      lawful : is_lawful_operand old i a ≡ true
      lawful = let R : List Operand → Type 0 = λ xs. list_all (is_lawful_operand old i) xs ≡ true in (and_parts (is_lawful_operand old i a) true (subst R args (both.flat.operands i e there))).0

      gives : Gives widths demand a (get_or demand i 0)
      gives = by_kinds e.kinds kinds_one (let S : List Operand → Op → Type 0 = λ xs o. GiveAll widths demand xs (asked o (operand_forms widths xs e.kinds) (get_or demand i 0)) in let P : List Operand → Type 0 = λ xs. S xs e.op in let Q : Op → Type 0 = λ o. S (a ∷ []) o in subst Q op (subst P args (both.cut.served i e there some))) where
        by_kinds : (kinds : List Bool) → length kinds ≡ 1 → GiveAll widths demand (a ∷ []) (asked (Delay c) (operand_forms widths (a ∷ []) kinds) (get_or demand i 0)) → Gives widths demand a (get_or demand i 0)
        by_kinds [] count served = absurd (omega arith)
        by_kinds (k ∷ kinds) count served = served.0

      by_rows : (rs cs : List (List ℕ)) → RowsCut demand news rs cs → AllHaveWidths widths rs → delayed_number new cs a (c % 2 ^ w) ≡ delayed_number old rs a c % 2 ^ w
      by_rows [] [] cut hold = refl
      by_rows (r ∷ rs) (x ∷ cs) cut hold =
          let hold_here = hold 0 r refl in
          let hold_later : AllHaveWidths widths rs = λ n q at. hold (suc n) q at in
          let point = cut_operand old new widths news demand rs cs r x i false a (get_or demand i 0) both.cut cut.1 (λ j less some_j. cut.0 j some_j) within lawful (operand_below old outputs widths rs r i a both.flat both.all hold_later hold_here within lawful) gives in
          point.1.number ∙ ap (λ v. operand_number old rs r a % 2 ^ v) (sym width)
      by_rows [] (x ∷ cs) cut hold = absurd cut
      by_rows (r ∷ rs) [] cut hold = absurd cut

-- ---- rows
pub is_the_input : (op : Op) → is_input op ≡ true → op ≡ Input
is_the_input Input is = refl
is_the_input op is = cc

-- every other operation is steady, or a delay, or a recurrence
pub data Sort (op : Op) : Type 0 where
  IsSteady : is_steady op ≡ true → Sort op
  IsDelay : (c : ℕ) → op ≡ Delay c → Sort op
  IsRec : (init first : ℕ) → op ≡ Rec init first → Sort op

pub sort_of : (op : Op) → is_input op ≡ false → Sort op
sort_of Input other = cc
sort_of (Delay c) other = IsDelay c refl
sort_of (Rec init first) other = IsRec init first refl
sort_of op other = IsSteady refl

other_cut : (old new : List EquationShape) (outputs : List Operand) (widths news demand : List ℕ) (rows cuts : List (List ℕ)) (sample row crow : List ℕ) (i : ℕ) (e : EquationShape) → AreBoth old new outputs widths news demand → Stand old widths news demand rows cuts row crow i → slice_get old i ≡ Some e → Sort e.op → 0 < get_or demand i 0
    → number_in (record { equations = new; widths = news; before = cuts; sample = sample; row = crow }) i (narrowed_op (get_or news i 0) e.op) e.args e.kinds ≡ number_in (record { equations = old; widths = widths; before = rows; sample = sample; row = row }) i e.op e.args e.kinds % 2 ^ get_or news i 0
other_cut old new outputs widths news demand rows cuts sample row crow i e both s there (IsSteady steady) some = steady_cut old new outputs widths news demand rows cuts sample row crow i e both s there steady some
other_cut old new outputs widths news demand rows cuts sample row crow i e both s there (IsDelay c op) some = delay_cut old new outputs widths news demand rows cuts sample row crow i c e both s there op some
other_cut old new outputs widths news demand rows cuts sample row crow i e both s there (IsRec init first op) some = rec_cut old new outputs widths news demand rows cuts sample row crow i init first e both s there op some

-- one more number of a row
at_cut : (old new : List EquationShape) (outputs : List Operand) (widths news demand : List ℕ) (rows cuts : List (List ℕ)) (sample : List ℕ) (i : ℕ) → AreBoth old new outputs widths news demand → Stand old widths news demand rows cuts (row_of old widths rows sample) (row_of new news cuts sample) i → 0 < get_or demand i 0 → get_or (row_of new news cuts sample) i 0 ≡ get_or (row_of old widths rows sample) i 0 % 2 ^ get_or news i 0
at_cut old new outputs widths news demand rows cuts sample i both s some = by_input (is_input e.op) refl where
  w : ℕ
  w = get_or news i 0

  row : List ℕ
  row = row_of old widths rows sample

  crow : List ℕ
  crow = row_of new news cuts sample

  within : i < length old
  within = both.cut.within i some

  found : (e : EquationShape) × (slice_get old i ≡ Some e)
  found = equation_at old i within

  e : EquationShape
  e = found.0

  there : slice_get old i ≡ Some e
  there = found.1

  number : get_or row i 0 ≡ number_in (record { equations = old; widths = widths; before = rows; sample = sample; row = row }) i e.op e.args e.kinds
  number = row_of-at old outputs widths rows sample i e both.flat there

  cut_number : (d : EquationShape) → slice_get new i ≡ Some d → get_or crow i 0 ≡ number_in (record { equations = new; widths = news; before = cuts; sample = sample; row = crow }) i d.op d.args d.kinds
  cut_number d at = row_of-at new outputs news cuts sample i d both.new_flat at

  as_input : is_input e.op ≡ true → get_or crow i 0 ≡ get_or row i 0 % 2 ^ w
  as_input is =
      let op = is_the_input e.op is in
      let kept_shape : narrowed_shape (get_or demand i 0) w e ≡ e = rw is refl in
      let at : slice_get new i ≡ Some e = both.cut.each i e there ∙ ap Some kept_shape in
      let same_place = both.cut.inputs i in
      let width = both.cut.input i e there op in
      let same : get_or crow i 0 ≡ get_or row i 0 =
      cut_number e at ∙ ap (λ (o : Op). number_in (record { equations = new; widths = news; before = cuts; sample = sample; row = crow }) i o e.args e.kinds) op
      ∙ ap (λ n. get_or sample n 0) same_place
      ∙ sym (number ∙ ap (λ (o : Op). number_in (record { equations = old; widths = widths; before = rows; sample = sample; row = row }) i o e.args e.kinds) op) in
      let below : get_or row i 0 < 2 ^ get_or widths i 0 = s.here_hold i (omega (arith, both.all.count, within)) in
      let P : ℕ → Type 0 = λ v. get_or row i 0 < 2 ^ v in
      same ∙ sym (mod-eq_of_lt (subst P (sym width) below))

  as_other : is_input e.op ≡ false → get_or crow i 0 ≡ get_or row i 0 % 2 ^ w
  as_other is =
      let at = both.cut.each i e there ∙ ap Some (narrowed_is (get_or demand i 0) w e some is) in
      cut_number (record { op = narrowed_op w e.op; args = e.args; declared = declared_anew e.op w; kinds = e.kinds }) at
      ∙ other_cut old new outputs widths news demand rows cuts sample row crow i e both s there (sort_of e.op is) some
      ∙ ap (λ n. n % 2 ^ w) (sym number)

  by_input : (b : Bool) → is_input e.op ≡ b → get_or crow i 0 ≡ get_or row i 0 % 2 ^ w
  by_input true is = as_input is
  by_input false is = as_other is

-- all numbers of a row
row_cut : (old new : List EquationShape) (outputs : List Operand) (widths news demand : List ℕ) (rows cuts : List (List ℕ)) (sample : List ℕ) → AreBoth old new outputs widths news demand → RowsCut demand news rows cuts → AllHaveWidths widths rows → HaveWidths widths (row_of old widths rows sample) → (n : ℕ) → Here demand news n (row_of old widths rows sample) (row_of new news cuts sample)
row_cut old new outputs widths news demand rows cuts sample both before hold here zero j less some = absurd (omega arith)
row_cut old new outputs widths news demand rows cuts sample both before hold here (suc n) j less some =
    let earlier = row_cut old new outputs widths news demand rows cuts sample both before hold here n in
    elim (cases_lt j n) [
      | inl low ↦ earlier j low some
      | inr high ↦
          let same : n ≡ j = omega arith in
          let P : ℕ → Type 0 = λ k. 0 < get_or demand k 0 → get_or (row_of new news cuts sample) k 0 ≡ get_or (row_of old widths rows sample) k 0 % 2 ^ get_or news k 0 in
          subst P same (λ some_n. at_cut old new outputs widths news demand rows cuts sample n both (record { before = before; hold = hold; here_hold = here; here = earlier }) some_n) some
    ]

rows_cut : (old new : List EquationShape) (outputs : List Operand) (widths news demand : List ℕ) (rows cuts samples : List (List ℕ)) → AreBoth old new outputs widths news demand → RowsCut demand news rows cuts → AllHaveWidths widths rows → AreSamples old samples → RowsCut demand news (rows_after old widths rows samples) (rows_after new news cuts samples)
rows_cut old new outputs widths news demand rows cuts [] both before hold lawful = tt
rows_cut old new outputs widths news demand rows cuts (sample ∷ samples) both before hold lawful =
    let row = row_of old widths rows sample in
    let crow = row_of new news cuts sample in
    let here : HaveWidths widths row = row_of-holds old outputs widths rows sample both.flat both.all hold (IsSampleFor-from_IsRow old outputs widths sample both.flat both.all (lawful 0 sample refl)) in
    let cut : RowCut demand news row crow = λ i some. row_cut old new outputs widths news demand rows cuts sample both before hold here (suc i) i (omega arith) some in
    let more : AllHaveWidths widths (row ∷ rows) = λ n. by_place n here in
    (cut, rows_cut old new outputs widths news demand (row ∷ rows) (crow ∷ cuts) samples both (cut, before) more (λ n s at. lawful (suc n) s at)) where
      by_place : (n : ℕ) → HaveWidths widths (row_of old widths rows sample) → (r : List ℕ) → slice_get (row_of old widths rows sample ∷ rows) n ≡ Some r → HaveWidths widths r
      by_place zero here r at = let same : row_of old widths rows sample ≡ r = cc in let P : List ℕ → Type 0 = λ x. HaveWidths widths x in subst P same here
      by_place (suc n) here r at = hold n r at

pub rows_of-cut : (old new : List EquationShape) (outputs : List Operand) (widths news demand : List ℕ) (samples : List (List ℕ)) → AreBoth old new outputs widths news demand → AreSamples old samples → RowsCut demand news (rows_of old widths samples) (rows_of new news samples)
rows_of-cut old new outputs widths news demand samples both lawful = rows_cut old new outputs widths news demand [] [] samples both tt (λ n row at. absurd (let none : None ≡ Some row = at in cc)) lawful

-- ---- outputs
-- an output whose equation is demanded whole keeps its width
pub output_width : (widths news demand : List ℕ) (a : Operand) → IsWhole widths demand a → ((i : ℕ) → 0 < get_or demand i 0 → get_or demand i 0 ≤ get_or news i 0) → ((i : ℕ) → 0 < get_or demand i 0 → get_or news i 0 ≤ get_or widths i 0) → 1 ≤ operand_width widths a → is_lawful_output (length widths) a ≡ true → operand_width news a ≡ operand_width widths a
output_width widths news demand (Const c) whole least most some lawful = refl
output_width widths news demand (Eq i) whole least most some lawful = let positive : 0 < get_or demand i 0 = omega arith in let low = least i positive in let high = most i positive in omega arith
output_width widths news demand (Past rec k) whole least most some lawful = cc

output_cut : (old new : List EquationShape) (outputs : List Operand) (widths news demand : List ℕ) (a : Operand) (rows cuts : List (List ℕ)) → AreBoth old new outputs widths news demand → IsWhole widths demand a → is_lawful_output (length old) a ≡ true → AllHaveWidths widths rows → RowsCut demand news rows cuts → map (λ (row : List ℕ). operand_number new [] row a) cuts ≡ map (λ (row : List ℕ). operand_number old [] row a) rows
output_cut old new outputs widths news demand a [] [] both whole lawful hold cut = refl
output_cut old new outputs widths news demand a (r ∷ rows) (c ∷ cuts) both whole lawful hold cut = ap₂ (λ n ns. n ∷ ns) (one a whole lawful) (output_cut old new outputs widths news demand a rows cuts both whole lawful (λ n q at. hold (suc n) q at) cut.1) where
  one : (b : Operand) → IsWhole widths demand b → is_lawful_output (length old) b ≡ true → operand_number new [] c b ≡ operand_number old [] r b
  one (Const q) whole_b lawful_b = refl
  one (Past rec k) whole_b lawful_b = cc
  one (Eq i) whole_b lawful_b =
      let within : i < length old = ltb-true i (length old) lawful_b in
      let bounds = both.cut.lawful i within in
      let some : 0 < get_or demand i 0 = omega (arith, bounds.0) in
      let low = both.cut.least i some in
      let high = both.cut.most i some in
      let same : get_or news i 0 ≡ get_or widths i 0 = omega arith in
      let below : get_or r i 0 < 2 ^ get_or widths i 0 = hold 0 r refl i (omega (arith, both.all.count, within)) in
      cut.0 i some ∙ ap (λ v. get_or r i 0 % 2 ^ v) same ∙ mod-eq_of_lt below
output_cut old new outputs widths news demand a [] (c ∷ cuts) both whole lawful hold cut = absurd cut
output_cut old new outputs widths news demand a (r ∷ rows) [] both whole lawful hold cut = absurd cut

-- the list of an output stays
pub output_list-cut : (old new : List EquationShape) (outputs : List Operand) (widths news demand : List ℕ) (samples : List (List ℕ)) (a : Operand) → AreBoth old new outputs widths news demand → IsWhole widths demand a → is_lawful_output (length old) a ≡ true → AreSamples old samples → output_list new news samples a ≡ output_list old widths samples a
output_list-cut old new outputs widths news demand samples a both whole lawful are =
    output_cut old new outputs widths news demand a (rows_of old widths samples) (rows_of new news samples) both whole lawful (rows_of-have_widths old outputs widths samples both.flat both.all are) (rows_of-cut old new outputs widths news demand samples both are)
