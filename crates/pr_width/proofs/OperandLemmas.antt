-- Operands as they are read, one for each place.
use Rattle.std.proofs.Common.{◌≡◌, ℕ, zero, suc, get_or, ◌<◌, ◌≤◌, ◌^◌, Bool, true, false, cond, ◌||◌, max, subst, Some, List, [], ◌∷◌, length, nat_eq, refl, sym, ◌∙◌, ap, ap₂, arith}
use Rattle.std.specs.List.{slice_get}
use Rattle.std.proofs.lemmas.Option.{slice_get_read}
use Rattle.pr_flat.specs.declared.equations.Operand.{Operand}
use Rattle.pr_flat.specs.declared.equations.Op.{Op}
use Rattle.pr_flat.specs.declared.equations.Op.TheVariants.{Input, Choose}
use Rattle.pr_base.specs.Numbers.{IsLeastWidth}
use Rattle.pr_flat.proofs.FormLemmas.{number_width-least}
use Rattle.pr_flat.specs.declared.forms.Form.{Form}
use Rattle.pr_flat.specs.Forms.{number_width, signed_width}
use Rattle.pr_flat.specs.Rows.{takes, natural_width}
use Rattle.pr_flat.specs.Facts.{arity}
use Rattle.pr_flat.specs.Widths.{operand_width, operand_forms}

pub slice_get-operand_forms : (widths : List ℕ) (args : List Operand) (kinds : List Bool) (i : ℕ) (a : Operand) (kind : Bool) → slice_get args i ≡ Some a → slice_get kinds i ≡ Some kind → slice_get (operand_forms widths args kinds) i ≡ Some (record { signed = kind; width = operand_width widths a })
slice_get-operand_forms widths [] kinds i a kind there read = cc
slice_get-operand_forms widths (b ∷ args) [] i a kind there read = cc
slice_get-operand_forms widths (b ∷ args) (k ∷ kinds) zero a kind there read = let same : b ≡ a = cc in let kinds_same : k ≡ kind = cc in ap₂ (λ (x : Operand) (y : Bool). Some (record { signed = y; width = operand_width widths x })) same kinds_same
slice_get-operand_forms widths (b ∷ args) (k ∷ kinds) (suc i) a kind there read = slice_get-operand_forms widths args kinds i a kind there read

pub length-operand_forms : (widths : List ℕ) (args : List Operand) (kinds : List Bool) → length kinds ≡ length args → length (operand_forms widths args kinds) ≡ length args
length-operand_forms widths [] kinds same = refl
length-operand_forms widths (a ∷ args) [] same = absurd (omega arith)
length-operand_forms widths (a ∷ args) (k ∷ kinds) same = ap suc (length-operand_forms widths args kinds (omega arith))

pub one_form : (forms : List Form) (f : Form) → length forms ≡ 1 → slice_get forms 0 ≡ Some f → forms ≡ f ∷ []
one_form [] f count there = absurd (omega arith)
one_form (a ∷ []) f count there = cc
one_form (a ∷ b ∷ forms) f count there = absurd (omega arith)

pub two_forms : (forms : List Form) (f g : Form) → length forms ≡ 2 → slice_get forms 0 ≡ Some f → slice_get forms 1 ≡ Some g → forms ≡ f ∷ g ∷ []
two_forms [] f g count there next = absurd (omega arith)
two_forms (a ∷ []) f g count there next = absurd (omega arith)
two_forms (a ∷ b ∷ []) f g count there next = cc
two_forms (a ∷ b ∷ c ∷ forms) f g count there next = absurd (omega arith)

pub record IsChoice (forms : List Form) (f g : Form) : Type 0 where
  pub condition : Form
  pub is : forms ≡ condition ∷ f ∷ g ∷ []

pub choice_forms : (forms : List Form) (f g : Form) → length forms ≡ 3 → slice_get forms 1 ≡ Some f → slice_get forms 2 ≡ Some g → IsChoice forms f g
choice_forms [] f g count there next = absurd (omega arith)
choice_forms (a ∷ []) f g count there next = absurd (omega arith)
choice_forms (a ∷ b ∷ []) f g count there next = absurd (omega arith)
choice_forms (a ∷ b ∷ c ∷ []) f g count there next = record { condition = a; is = cc }
choice_forms (a ∷ b ∷ c ∷ d ∷ forms) f g count there next = absurd (omega arith)

-- an operation of three operands is a choice
pub is_choice : (op : Op) → 2 < arity op → op ≡ Choose
is_choice Choose many = refl
is_choice op many = absurd (omega arith)

-- a choice takes a condition of one bit
pub takes-Choose : (forms : List Form) (f : Form) → length forms ≡ 3 → slice_get forms 0 ≡ Some f → takes Choose forms ≡ nat_eq f.width 1
takes-Choose [] f count there = absurd (omega arith)
takes-Choose (a ∷ []) f count there = absurd (omega arith)
takes-Choose (a ∷ b ∷ []) f count there = absurd (omega arith)
takes-Choose (a ∷ b ∷ c ∷ []) f count there = let same : a ≡ f = cc in ap (λ (x : Form). nat_eq x.width 1) same
takes-Choose (a ∷ b ∷ c ∷ d ∷ forms) f count there = absurd (omega arith)

-- the width of a constant, as its number of bits was found
pub const_width : (c n bits got : ℕ) → n ≡ c → IsLeastWidth n bits → got ≡ bits → c < 2 ^ 64 → got ≡ number_width c
const_width c n bits got same least is small = is ∙ sym (number_width-least c bits small (let P : ℕ → Type 0 = λ x. IsLeastWidth x bits in subst P same least))

-- what is said of operands as read, where there is one, or two, or three of them
pub takes_one : (op : Op) (forms : List Form) (f : Form) → length forms ≡ 1 → slice_get forms 0 ≡ Some f → takes op forms ≡ true → takes op (f ∷ []) ≡ true
takes_one op forms f count there taken = let P : List Form → Type 0 = λ fs. takes op fs ≡ true in subst P (one_form forms f count there) taken

pub natural_one : (op : Op) (forms : List Form) (f : Form) (w : ℕ) → length forms ≡ 1 → slice_get forms 0 ≡ Some f → w ≡ natural_width op (f ∷ []) → w ≡ natural_width op forms
natural_one op forms f w count there is = is ∙ ap (natural_width op) (sym (one_form forms f count there))

pub natural_two : (op : Op) (forms : List Form) (f g : Form) (w : ℕ) → length forms ≡ 2 → slice_get forms 0 ≡ Some f → slice_get forms 1 ≡ Some g → w ≡ natural_width op (f ∷ g ∷ []) → w ≡ natural_width op forms
natural_two op forms f g w count there next is = is ∙ ap (natural_width op) (sym (two_forms forms f g count there next))

natural_Choose : (f g : Form) (forms : List Form) (w : ℕ) → IsChoice forms f g → w ≡ cond (f.signed || g.signed) (max (signed_width f) (signed_width g)) (max f.width g.width) → w ≡ natural_width Choose forms
natural_Choose f g forms w choice is = is ∙ ap (natural_width Choose) (sym choice.is)

pub natural_three : (op : Op) (forms : List Form) (f g : Form) (w : ℕ) → 2 < arity op → length forms ≡ 3 → slice_get forms 1 ≡ Some f → slice_get forms 2 ≡ Some g → w ≡ cond (f.signed || g.signed) (max (signed_width f) (signed_width g)) (max f.width g.width) → w ≡ natural_width op forms
natural_three op forms f g w many count there next is = let P : Op → Type 0 = λ o. w ≡ natural_width o forms in subst P (sym (is_choice op many)) (natural_Choose f g forms w (choice_forms forms f g count there next) is)

-- no operation has more than three operands
pub arity-le : (op : Op) → arity op ≤ 3
arity-le Input = omega arith
arity-le Choose = omega arith
arity-le op = omega arith

pub form_read : (widths : List ℕ) (args : List Operand) (kinds : List Bool) (i w : ℕ) (a : Operand) (kind : Bool) → i < length args → i < length kinds → a ≡ get_or args i a → kind ≡ get_or kinds i kind → w ≡ operand_width widths a → slice_get (operand_forms widths args kinds) i ≡ Some (record { signed = kind; width = w })
form_read widths args kinds i w a kind within kind_within read kind_read is =
    slice_get-operand_forms widths args kinds i a kind (slice_get_read args (length args) i a refl within read) (slice_get_read kinds (length kinds) i kind refl kind_within kind_read) ∙ ap (λ (x : ℕ). Some (record { signed = kind; width = x })) (sym is)

pub choice_taken : (widths : List ℕ) (op : Op) (args : List Operand) (kinds : List Bool) (w : ℕ) (a : Operand) → op ≡ Choose → length args ≡ arity op → length kinds ≡ arity op → a ≡ get_or args 0 a → w ≡ operand_width widths a → nat_eq w 1 ≡ takes op (operand_forms widths args kinds)
choice_taken widths op args kinds w a is count kind_count read width =
    let three : length args ≡ 3 = count ∙ ap arity is in
    let kinds_three : length kinds ≡ 3 = kind_count ∙ ap arity is in
    let forms_three : length (operand_forms widths args kinds) ≡ 3 = length-operand_forms widths args kinds (kinds_three ∙ sym three) ∙ three in
    let f = form_read widths args kinds 0 w a (get_or kinds 0 false) (omega arith) (omega arith) read (slice_get_same kinds 0) width in
    sym (takes-Choose (operand_forms widths args kinds) (record { signed = get_or kinds 0 false; width = w }) forms_three f) ∙ ap (λ (o : Op). takes o (operand_forms widths args kinds)) (sym is) where
      slice_get_same : (ks : List Bool) (i : ℕ) → get_or ks i false ≡ get_or ks i (get_or ks i false)
      slice_get_same [] i = refl
      slice_get_same (k ∷ ks) zero = refl
      slice_get_same (k ∷ ks) (suc i) = slice_get_same ks i
